-- What an error of the reader tells of the text.
use Rattle.std.specs.Prelude.{◌≡◌, ◌≤◌, ℕ, List, ⊤}
use Rattle.og_csubset.specs.declared.CProgram.{CProgram}
use Rattle.og_csubset.specs.Tokens.{Token, HasTokens}
use Rattle.og_csubset.specs.Spelling.{IsProgram}
use Rattle.og_csubset.specs.Nesting.{nesting}
use Rattle.og_csubset.specs.Refusals.{IsBad, IsTooDeep, place_behind}
use Rattle.og_clex.specs.declared.CReadError.{CReadError}
use Rattle.og_clex.specs.declared.CReadError.TheVariants.{Bad, TooDeep, NoMemory}

-- an error of rule K1 stands where the text is bad
abbrev pub TellsBad : List ℕ → CReadError → Type 0
TellsBad text (Bad place) = (before : List ℕ) × IsBad 256 text before × (place ≡ place_behind before)
TellsBad text _ = ⊤

-- an error of rule K2 stands where the text nests too deep
abbrev pub TellsDeep : List ℕ → CReadError → Type 0
TellsDeep text (TooDeep place) = (before : List ℕ) × IsTooDeep 256 text before × (place ≡ place_behind before)
TellsDeep text _ = ⊤

-- memory could not be had
abbrev pub IsOutOfMemory : CReadError → Type 0
IsOutOfMemory (Bad place) = ⊥
IsOutOfMemory (TooDeep place) = ⊥
IsOutOfMemory (NoMemory met) = ⊤

-- the tokens are a program
abbrev pub IsSomeProgram : List Token → Type 0
IsSomeProgram tokens = (P : CProgram) × IsProgram P tokens

-- the text is these tokens, and they are a program that nests at most 256 deep
abbrev pub IsReadAs : List ℕ → List Token → Type 0
IsReadAs text tokens = HasTokens tokens text × IsSomeProgram tokens × (nesting tokens ≤ 256)
