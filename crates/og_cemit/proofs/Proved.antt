-- The program of fair code.
use Rattle.std.proofs.Common.{◌≡◌, Bool, true, false, cond, Option, Some, None, refl, sym}
use Rattle.std.proofs.lemmas.Bool.{false≢true}
use Rattle.og_model.specs.declared.Model.{Model}
use Rattle.og_ir.specs.declared.Ir.{Ir}
use Rattle.og_csubset.specs.declared.LoadRule.{LoadRule}
use Rattle.og_csubset.specs.Fair.{Fair}
use Rattle.og_csubset.specs.Loading.{breaks_K3, breaks_K4, breaks_K5, breaks_K6, breaks_K7, breaks_K8, breaks_K9, first_load_rule, Loads}
use Rattle.og_cemit.specs.Emitted.{AreShort, program_of}
use Rattle.og_cemit.specs.Structs.{AreFew}
use Rattle.og_cemit.specs.Program.{IsProgramOf}
use Rattle.og_cemit.proofs.LoadInterface.{keeps_K9}
use Rattle.og_cemit.proofs.LoadNames.{keeps_K3}
use Rattle.og_cemit.proofs.LoadLabels.{keeps_K6, keeps_K7}
use Rattle.og_cemit.proofs.LoadTypes.{keeps_K5}
use Rattle.og_cemit.proofs.StructCells.{keeps_K4, keeps_K8}
use Rattle.og_cemit.proofs.ProgramText.{well_made, nests_within}
use Rattle.og_cemit.proofs.SameRuns.{shows_at_a_pace}

loads : (ir : Ir) (model : Model) → Fair ir model → AreShort ir.functions → AreFew model.types → Loads (program_of ir model) model
unfolding first_load_rule
loads ir model fair short few =
    passed (breaks_K3 (program_of ir model)) _ _ (keeps_K3 ir model fair few)
    (passed (breaks_K4 (program_of ir model)) _ _ (keeps_K4 ir model fair few)
    (passed (breaks_K5 (program_of ir model)) _ _ (keeps_K5 ir model fair few)
    (passed (breaks_K6 (program_of ir model)) _ _ (keeps_K6 ir model fair short)
    (passed (breaks_K7 (program_of ir model)) _ _ (keeps_K7 ir model fair)
    (passed (breaks_K8 (program_of ir model)) _ _ (keeps_K8 ir model fair few)
    (passed (breaks_K9 (program_of ir model) model) _ _ (keeps_K9 ir model fair few) refl))))))
  where
    passed : (b : Bool) (rule : LoadRule) (rest : Option LoadRule) → b ≡ false → rest ≡ None → cond b (Some rule) rest ≡ None
    passed true rule rest h k = absurd (false≢true (sym h))
    passed false rule rest h k = k

pub proved : (ir : Ir) (model : Model) → Fair ir model → AreShort ir.functions → AreFew model.types → IsProgramOf ir model (program_of ir model)
proved ir model fair short few = record {
  loads = loads ir model fair short few;
  well_made = well_made ir model fair few short;
  within = nests_within ir model fair few short;
  shows = shows_at_a_pace ir model fair short few;
}
