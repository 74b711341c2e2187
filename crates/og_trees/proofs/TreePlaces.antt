-- Places of tokens stand in the files that these are the tokens of.
use Rattle.std.proofs.Common.{◌≡◌, ◌∙◌, ℕ, zero, suc, ◌+◌, ◌<◌, ◌⊎◌, List, [], ◌∷◌, length, sym, ap, subst, inl, inr, arith}
use Rattle.std.proofs.lemmas.List.Concat.{flat_map-append}
use Rattle.std.proofs.lemmas.List.Elements.{Contains-append_cases}
use Rattle.std.specs.Prelude.{Contains, get_or}
use Rattle.std.specs.List.{AllByRecursion, flat_map}
use Rattle.og_base.specs.declared.Place.{Place}
use Rattle.og_lexer.specs.declared.Language.{Language}
use Rattle.og_lexer.specs.declared.Language.TheVariants.{Sdl, Asn}
use Rattle.og_lexer.specs.declared.Spanned.{Spanned}
use Rattle.og_asn1.specs.declared.syntax.ModuleTree.{ModuleTree}
use Rattle.og_asn1.specs.Grammar.{AreModules}
use Rattle.og_ast.specs.declared.system.Unit.{Unit as UnitTree}
use Rattle.og_parse.specs.Grammar.{AreUnits}
use Rattle.og_trees.specs.Reading.{SourceFile, AreGathered, IsTextOf, AreOwnUnits, AreOwnModules, AreUnitsOf, AreModulesOf}
use Rattle.og_trees.specs.Places.{AreOfTokens}
use Rattle.og_trees.proofs.InPlace.{TokenIn, lexed_in}

none_in : {X : Type 0} (x : X) → Contains [] x → ⊥
none_in x c = let less = c.1 in omega (arith, less)

-- a token among those of a file stands in it
among_in : (file : ℕ) (tokens : List Spanned) (token : Spanned) (k : ℕ) → AllByRecursion (TokenIn file) tokens → k < length tokens → get_or tokens k token ≡ token → token.place.file ≡ file
among_in file [] token k all less is = absurd (omega arith)
among_in file (t ∷ tokens) token zero all less is = subst (TokenIn file) is all.0
among_in file (t ∷ tokens) token (suc k) all less is = among_in file tokens token k all.1 (omega arith) is

-- so does a place that a text's trees keep
text_in : {X : Type 0} (language : Language) (Are : List X → List Spanned → Type 0) (places : X → List Place) → AreOfTokens Are places
    → (number : ℕ) (bytes : List ℕ) (trees : List X) (place : Place) → IsTextOf language Are number bytes trees → Contains (flat_map places trees) place → place.file ≡ number
text_in language Are places of_tokens number bytes trees place text c =
    let found = of_tokens trees text.tokens place text.are c in
    let at = found.1 in
    ap (λ (p : Place). p.file) (sym found.2) ∙ among_in number text.tokens found.0 at.0 (lexed_in language number bytes text.tokens text.comments text.lexes) at.1 at.2

none_kept : {X : Type 0} (places : X → List Place) (trees : List X) (place : Place) → trees ≡ [] → Contains (flat_map places trees) place → ⊥
none_kept {X = X} places trees place none c = none_in place (subst (λ (xs : List X). Contains (flat_map places xs) place) none c)

-- of all files
gathered_in : {X : Type 0} (Own : ℕ → SourceFile → List X → Type 0) (places : X → List Place)
    → ((number : ℕ) (file : SourceFile) (own : List X) (place : Place) → Own number file own → Contains (flat_map places own) place → place.file ≡ number)
    → (number : ℕ) (files : List SourceFile) (all : List X) (place : Place) → AreGathered Own number files all → Contains (flat_map places all) place → place.file < number + length files
gathered_in Own places inside number [] all place are c = absurd (none_kept places all place are c)
gathered_in {X = X} Own places inside number (file ∷ files) all place are c =
    by (Contains-append_cases (flat_map places are.0) (flat_map places are.1) place (subst (λ ps. Contains ps place) (ap (flat_map places) are.4 ∙ flat_map-append places are.0 are.1) c))
    (gathered_in Own places inside (number + 1) files are.1 place are.3)
  where
    by : Contains (flat_map places are.0) place ⊎ Contains (flat_map places are.1) place → (Contains (flat_map places are.1) place → place.file < number + 1 + length files) → place.file < number + length (file ∷ files)
    by (inl own) later = let e = inside number file are.0 place are.2 own in omega (arith, e)
    by (inr more) later = let less = later more in omega (arith, less)

own_unit_in : (places : UnitTree → List Place) → AreOfTokens AreUnits places
    → (language : Language) (number : ℕ) (bytes : List ℕ) (own : List UnitTree) (place : Place) → AreOwnUnits language number bytes own → Contains (flat_map places own) place → place.file ≡ number
own_unit_in places of_tokens Sdl number bytes own place are c = text_in Sdl AreUnits places of_tokens number bytes own place are c
own_unit_in places of_tokens Asn number bytes own place are c = absurd (none_kept places own place are c)

own_module_in : (places : ModuleTree → List Place) → AreOfTokens AreModules places
    → (language : Language) (number : ℕ) (bytes : List ℕ) (own : List ModuleTree) (place : Place) → AreOwnModules language number bytes own → Contains (flat_map places own) place → place.file ≡ number
own_module_in places of_tokens Sdl number bytes own place are c = absurd (none_kept places own place are c)
own_module_in places of_tokens Asn number bytes own place are c = text_in Asn AreModules places of_tokens number bytes own place are c

pub unit_places : (places : UnitTree → List Place) → AreOfTokens AreUnits places → (files : List SourceFile) (units : List UnitTree) (place : Place) → AreUnitsOf 0 files units → Contains (flat_map places units) place
    → place.file < length files
unit_places places of_tokens files units place are c =
    let less = gathered_in (λ n file own. AreOwnUnits file.language n file.bytes own) places (λ number file own p. own_unit_in places of_tokens file.language number file.bytes own p) 0 files units place are c in
    omega (arith, less)

pub module_places : (places : ModuleTree → List Place) → AreOfTokens AreModules places → (files : List SourceFile) (modules : List ModuleTree) (place : Place) → AreModulesOf 0 files modules → Contains (flat_map places modules) place
    → place.file < length files
module_places places of_tokens files modules place are c =
    let less = gathered_in (λ n file own. AreOwnModules file.language n file.bytes own) places (λ number file own p. own_module_in places of_tokens file.language number file.bytes own p) 0 files modules place are c in
    omega (arith, less)
