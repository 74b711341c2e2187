-- What the C text of a model is: one program spells it, its nesting is within the limit, and the program agrees with the model:
-- it loads with it, is never stuck, and shows at each stimulus exactly what the meaning of the model shows, as far as either
-- goes (the clauses of SameBehaviour).
use Rattle.std.specs.Prelude.{ℕ, List}
use Rattle.og_model.specs.declared.Model.{Model}
use Rattle.og_csubset.specs.declared.CProgram.{CProgram}
use Rattle.og_csubset.specs.Spelling.{CSpells}
use Rattle.og_csubset.specs.Nesting.{IsWithinNesting}
use Rattle.og_csubset.specs.Agreement.{SameBehaviour}

-- the greatest nesting of a text (C99 5.2.4.1 counts in kinds; here all brackets count together)
abbrev pub greatest_nesting : ℕ
greatest_nesting = 256

abbrev pub IsCompiled : Model → List ℕ → Type 0
IsCompiled model text =
    (program : CProgram) × CSpells program text × IsWithinNesting greatest_nesting text × SameBehaviour model program
