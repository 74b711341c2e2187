-- What is wrong with a file that should hold a program of the C subset, and the line that says it: the text is none of a program
-- (K1) or nests too deep (K2), each with its place, or the program breaks a load rule of the model (K3 to K9).
use Rattle.std.specs.Prelude.{◌≡◌, ℕ, List, [], ◌∷◌, ◌++◌, Some, codes, decimal}
use Rattle.og_base.specs.declared.Place.{Place}
use Rattle.og_model.specs.declared.Model.{Model}
use Rattle.og_csubset.specs.declared.CProgram.{CProgram}
use Rattle.og_csubset.specs.declared.LoadRule.{LoadRule}
use Rattle.og_csubset.specs.declared.LoadRule.TheVariants as load
use Rattle.og_csubset.specs.Loading.{first_load_rule}
use Rattle.og_csubset.specs.Nesting.{IsWithinNesting}
use Rattle.og_csubset.specs.Refusals.{IsBad, IsTooDeep, place_behind}
use Rattle.og_csubset.specs.Spelling.{CSpells}
use Rattle.og_tool.specs.Compiled.{greatest_nesting}
use Rattle.og_tool.specs.declared.program.BadProgram.{BadProgram}
use Rattle.og_tool.specs.declared.program.BadProgram.TheVariants.{NoForm, TooDeep, Breaks}

-- the bytes are a text of this program, whose nesting is within the limit
pub record IsTextOfProgram (bytes : List ℕ) (program : CProgram) : Type 0 where
  pub spelt : CSpells program bytes
  pub within : IsWithinNesting greatest_nesting bytes

-- the bytes hold no program that can be run over the model, for this reason
abbrev pub IsBadFor : Model → List ℕ → BadProgram → Type 0
IsBadFor model bytes (NoForm place) = (before : List ℕ) × IsBad greatest_nesting bytes before × (place ≡ place_behind before)
IsBadFor model bytes (TooDeep place) = (before : List ℕ) × IsTooDeep greatest_nesting bytes before × (place ≡ place_behind before)
IsBadFor model bytes (Breaks rule) =
    (program : CProgram) × IsTextOfProgram bytes program × (first_load_rule program model ≡ Some rule)

abbrev pub load_rule_text : LoadRule → List ℕ
load_rule_text load.K3 = codes "K3"
load_rule_text load.K4 = codes "K4"
load_rule_text load.K5 = codes "K5"
load_rule_text load.K6 = codes "K6"
load_rule_text load.K7 = codes "K7"
load_rule_text load.K8 = codes "K8"
load_rule_text load.K9 = codes "K9"

-- bad RULE FILE:LINE:COLUMN
abbrev pub placed_line : List ℕ → List ℕ → Place → List ℕ
placed_line rule file place = codes "bad " ++ rule ++ codes " " ++ file ++ codes ":" ++ decimal place.line ++ codes ":" ++ decimal place.column ++ 10 ∷ []

-- bad RULE FILE, where the rule is one of the whole program
abbrev pub bad_program_line : List ℕ → BadProgram → List ℕ
bad_program_line file (NoForm place) = placed_line (codes "K1") file place
bad_program_line file (TooDeep place) = placed_line (codes "K2") file place
bad_program_line file (Breaks rule) = codes "bad " ++ load_rule_text rule ++ codes " " ++ file ++ 10 ∷ []
