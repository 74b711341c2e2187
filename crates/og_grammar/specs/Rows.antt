-- The rules of a table as a reader keeps them: each with the kinds of a next token at which it is taken.
use Rattle.std.specs.Prelude.{ℕ, zero, suc, ◌%◌, List, [], ◌∷◌, ◌++◌, map, Option, Some, None, option_map, slice_get, position, if◌then◌else◌, ◌==◌}
use Rattle.og_grammar.specs.declared.Symbol.{Symbol}
use Rattle.og_grammar.specs.declared.Symbol.TheVariants.{Rule, Token, Scope, Maybe, Many, NotBefore}
use Rattle.og_grammar.specs.declared.Symbol.TheVariants as symbol
use Rattle.og_grammar.specs.declared.Part.{Part}
use Rattle.og_grammar.specs.declared.rows.Row.{Row}
use Rattle.og_grammar.specs.Sentence.{rules_of}
use Rattle.og_grammar.specs.Predictive.{has, ahead, part_at}

abbrev pub row_of : List Part → ℕ → List Symbol → Row
row_of parts follows rule = record { symbols = rule; ahead = ahead parts rule follows }

abbrev pub rows_of : ℕ → List Symbol → List Part → ℕ → List Row
rows_of p table parts follows = map (row_of parts follows) (rules_of p table)

-- the rows of the parts below n
abbrev pub rows_below : List Symbol → List Part → ℕ → List (List Row)
rows_below table parts zero = []
rows_below table parts (suc n) = rows_below table parts n ++ rows_of n table parts (part_at parts n).follows ∷ []

-- the first row at which the kind is taken
unfoldable pub place_in : List Row → ℕ → Option ℕ
place_in rows k = position (λ row. has row.ahead k) rows

-- the choice among the rows of a part
abbrev pub row_choice : Option (List Row) → ℕ → Option ℕ
row_choice None k = None
row_choice (Some rows) k = option_map (λ c. c % 256) (place_in rows k)

-- the choice that the kind of the next token makes
abbrev pub choice_of : List (List Row) → List Part → Symbol → ℕ → Option ℕ
choice_of rows parts (Rule p) k = None
choice_of rows parts (Token t nesting) k = None
choice_of rows parts (symbol.Part p) k = row_choice (slice_get rows p) k
choice_of rows parts (Scope p) k = row_choice (slice_get rows p) k
choice_of rows parts (Maybe p) k = Some (if has (part_at parts p).begins k then 1 else 0)
choice_of rows parts (Many p) k = Some (if has (part_at parts p).begins k then 1 else 0)
choice_of rows parts (NotBefore t) k = None

abbrev pub symbols_of : Option Row → List Symbol
symbols_of None = []
symbols_of (Some row) = row.symbols

-- the symbols of a row, none where it is not there
abbrev pub row_at : Option (List Row) → ℕ → List Symbol
row_at None c = []
row_at (Some rows) c = symbols_of (slice_get rows c)

-- what a choice puts in the place of a symbol
abbrev pub way_of : List (List Row) → Symbol → ℕ → List Symbol
way_of rows (Rule p) c = []
way_of rows (Token t nesting) c = []
way_of rows (symbol.Part p) c = row_at (slice_get rows p) c
way_of rows (Scope p) c = row_at (slice_get rows p) c
way_of rows (Maybe p) c = if c == 1 then symbol.Part p ∷ [] else []
way_of rows (Many p) c = if c == 1 then symbol.Part p ∷ Many p ∷ [] else []
way_of rows (NotBefore t) c = []
