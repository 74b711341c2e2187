-- Places that trees keep. A pass over the trees of all files reports a violation at a place that it finds in them; where each such
-- place is that of a token of the text that a tree is read from, it stands in one of the files.
use Rattle.std.specs.Prelude.{◌≡◌, List, Contains}
use Rattle.std.specs.List.{flat_map}
use Rattle.og_base.specs.declared.Place.{Place}
use Rattle.og_lexer.specs.declared.Spanned.{Spanned}

-- each of these places of trees is the place of one of the tokens that are those of the trees
abbrev pub AreOfTokens : {X : Type 0} → (List X → List Spanned → Type 0) → (X → List Place) → Type 0
AreOfTokens {X = X} Are places =
    (trees : List X) (tokens : List Spanned) (place : Place) → Are trees tokens → Contains (flat_map places trees) place → (token : Spanned) × Contains tokens token × (token.place ≡ place)
