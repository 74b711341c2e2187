-- From the layers to the text: code of the model, a program of the code, a text of the program.
use Rattle.std.proofs.Common.{◌≡◌, ℕ, ◌+◌, ◌*◌, List, sym, ap, subst, ◌∙◌}
use Rattle.std.specs.Prelude.{Result, Ok, Err, IfOk}
use Rattle.og_model.specs.declared.Model.{Model}
use Rattle.og_model.specs.Shown.{Stimulus, Shown, has_past, has_stuck, Begins}
use Rattle.og_model.specs.Run.{sdl}
use Rattle.og_ir.specs.declared.Ir.{Ir}
use Rattle.og_csubset.specs.declared.CProgram.{CProgram}
use Rattle.og_csubset.specs.Spelling.{CSpells}
use Rattle.og_csubset.specs.Nesting.{IsWithinNesting}
use Rattle.og_csubset.specs.Agreement.{AreStimuli, SameRuns, SameBehaviour, enough}
use Rattle.og_csubset.specs.Paced.{paced}
use Rattle.og_csubset.specs.Run.{c}
use Rattle.og_flatten.specs.Code.{IsCodeOf, enough_at}
use Rattle.og_cemit.specs.Program.{IsProgramOf}
use Rattle.og_tool.specs.Compiled.{IsCompiled}

-- what holds of a meaning and of code holds of what shows the same as the code, with as many statements
same_code : (Are : List Stimulus → Type 0) (meaning code other : List Stimulus → ℕ → List Shown) (enough others : ℕ → ℕ) → ((n : ℕ) → others n ≡ enough n) → ((stimuli : List Stimulus) → Are stimuli → (m : ℕ) → other stimuli m ≡ code stimuli m) → SameRuns Are enough meaning code → SameRuns Are others meaning other
same_code Are meaning code other enough others many same runs = record {
  never_stuck = λ xs are m. ap has_stuck (same xs are m) ∙ runs.never_stuck xs are m;
  shows = λ xs are n some ended. same xs are (others n) ∙ ap (code xs) (many n) ∙ runs.shows xs are n some ended;
  shows_only = λ xs are m ended.
      let found = runs.shows_only xs are m (ap has_past (sym (same xs are m)) ∙ ended) in
      (found.0, found.1, found.2 ∙ sym (same xs are m));
  so_far = λ xs are n some.
      subst (λ list. Begins (meaning xs n) list) (sym (same xs are (others n) ∙ ap (code xs) (many n))) (runs.so_far xs are n some);
  so_far_only = λ xs are m.
      let found = runs.so_far_only xs are m in
      (found.0, found.1, subst (λ list. Begins list (meaning xs found.0)) (sym (same xs are m)) found.2);
}

-- a program of the code of a model does what the model does
pub behaves : (model : Model) (ir : Ir) (program : CProgram) → IsCodeOf model ir → IsProgramOf ir model program → SameBehaviour model program
behaves model ir program code of =
    let at = of.shows in
    record {
      loads = of.loads;
      runs = same_code (AreStimuli model) (sdl model) (paced at.pace ir model) (c program model) (enough_at at.pace ir) (enough program)
          (λ n. ap (λ k. n * (k + 1)) at.sizes) at.shows (code.runs at.pace at.is_pace);
    }

pub compiled : (model : Model) (ir : Ir) (program : CProgram) (text : List ℕ) → IsCodeOf model ir → IsProgramOf ir model program → CSpells program text → IsWithinNesting 256 text → IsCompiled model text
compiled model ir program text code of spelt nests = (program, spelt, nests, behaves model ir program code of)

-- the same of what was printed, where memory sufficed
pub compiled_if : {A E : Type 0} (items : A → List ℕ) (result : Result A E) (model : Model) (ir : Ir) (program : CProgram) → IsCodeOf model ir → IsProgramOf ir model program → IfOk result (λ text. CSpells program (items text)) → IfOk result (λ text. IsWithinNesting 256 (items text)) → IfOk result (λ text. IsCompiled model (items text))
compiled_if items (Ok text) model ir program code of spelt nests = compiled model ir program (items text) code of spelt nests
compiled_if items (Err error) model ir program code of spelt nests = _
