-- That the text of a model's C is always loaded, and what a loaded program is.
use Rattle.std.proofs.Common.{◌≡◌, ◌∙◌, ℕ, List, Some, None, sym, ap, subst}
use Rattle.og_model.specs.declared.Model.{Model}
use Rattle.og_csubset.specs.declared.CProgram.{CProgram}
use Rattle.og_csubset.specs.Loading.{first_load_rule}
use Rattle.og_csubset.specs.Nesting.{IsWithinNesting}
use Rattle.og_csubset.specs.Refusals.{IsBad, IsTooDeep}
use Rattle.og_csubset.specs.Spelling.{CSpells}
use Rattle.og_cstep.specs.Machines as machines
use Rattle.og_cstep.specs.Machines.{run_of}
use Rattle.og_tool.specs.declared.program.Loaded.{Loaded}
use Rattle.og_tool.specs.declared.program.BadProgram.{BadProgram}
use Rattle.og_tool.specs.declared.program.BadProgram.TheVariants.{NoForm, TooDeep, Breaks}
use Rattle.og_tool.specs.Compiled.{IsCompiled}
use Rattle.og_tool.specs.Loading.{Runs, IsLoaded, Agrees}
use Rattle.og_tool.specs.Programs.{IsBadFor}

-- what the laws of texts say
abbrev pub OneProgram : Type 0
OneProgram = (P Q : CProgram) (text : List ℕ) → CSpells P text → CSpells Q text → P ≡ Q

abbrev pub NotDeep : Type 0
NotDeep = (limit : ℕ) (text before : List ℕ) → IsWithinNesting limit text → IsTooDeep limit text before → ⊥

abbrev pub NotBad : Type 0
NotBad = (limit : ℕ) (P : CProgram) (text before : List ℕ) → CSpells P text → IsBad limit text before → ⊥

pub never_bad : OneProgram → NotDeep → NotBad → (model : Model) (text : List ℕ) → IsCompiled model text → (bad : BadProgram) → IsBadFor model text bad → ⊥
never_bad one deep bad model text compiled (NoForm place) wrong = bad 256 compiled.0 text wrong.0 compiled.1 wrong.1
never_bad one deep bad model text compiled (TooDeep place) wrong = deep 256 text wrong.0 compiled.2 wrong.1
never_bad one deep bad model text compiled (Breaks rule) wrong =
    let same : compiled.0 ≡ wrong.0 = one compiled.0 wrong.0 text compiled.1 wrong.1.spelt in
    let loads : first_load_rule compiled.0 model ≡ None = compiled.3.loads in
    let e : None ≡ Some rule = sym loads ∙ ap (λ (P : CProgram). first_load_rule P model) same ∙ wrong.2 in
    cc

pub agrees_so : OneProgram → (model : Model) (text : List ℕ) (machine : Loaded) → IsCompiled model text → IsLoaded model text machine → Agrees model machine
agrees_so one model text machine compiled is = record {
  program = compiled.0;
  agrees = compiled.3;
  runs = subst (λ (P : CProgram). Runs P model machine) (one is.program compiled.0 text is.text.spelt compiled.1) is.loaded_with.runs;
}

-- the program of a machine that was just loaded
pub its_program : (program : CProgram) (model : Model) (machine : Loaded) → Runs program model machine → program ≡ (run_of machine.machine).program
its_program program model machine runs = sym (ap (λ (r : machines.Run). r.program) runs.starts)

pub runs_its_program : (program : CProgram) (model : Model) (machine : Loaded) → Runs program model machine → Runs (run_of machine.machine).program model machine
runs_its_program program model machine runs = subst (λ (P : CProgram). Runs P model machine) (its_program program model machine runs) runs
