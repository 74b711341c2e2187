-- What holds where no rule is violated.
use Rattle.std.specs.Prelude.{◌≡◌, true, false, ℕ, List, AllPairs}
use Rattle.og_ast.specs.declared.ground.HyphenedName.{HyphenedName}
use Rattle.og_ast.specs.declared.ground.Name.{Name}
use Rattle.og_system.specs.Scopes.{key}
use Rattle.og_declared.specs.Spaces.{has_two_underscores}
use Rattle.og_declared.specs.Sorts.{hyphened_key, is_type}

-- ---- what is kept

abbrev pub AreOther : Name → Name → Type 0
AreOther a b = key a ≡ key b → ⊥

-- no two of them are compared as equal
abbrev pub AllDiffer : List Name → Type 0
AllDiffer names = AllPairs AreOther names

abbrev pub HasNoTwoUnderscores : Name → Type 0
HasNoTwoUnderscores name = has_two_underscores name.word.bytes ≡ false

-- it is the name of a type, where those of ASN.1 have these names
abbrev pub IsOfType : List (List ℕ) → HyphenedName → Type 0
IsOfType types sort = is_type types (hyphened_key sort) ≡ true
