use Rattle.std.proofs.lemmas.Int.{to_z-of_z}
use Rattle.std.proofs.Common.{rules, w64, FitsSigned, ◌≡◌, pos, unwrap_or, ap, ◌∙◌, List, Option, ℕ, ℤ}
use Rattle.og_csubset.specs.Kinds.{global_names}
use Rattle.og_ccells.specs.declared.layout.Extent.{Extent}
use Rattle.og_ccells.specs.declared.layout.Layout.{Layout}
use Rattle.og_ccells.specs.Vectors.{trees_of}
use Rattle.og_cstatement.proofs.Loaded.{loaded}
use Rattle.og_cstep.specs.declared.interface.Interface.{Interface}
use Rattle.og_cstep.specs.Machines.{run_of, duration_of_timer}
use Rattle.og_cstep.specs.Slots.{Numbers, in_trees, number_of, duration_at, duration_slot}
use Rattle.og_cstep.proofs.Ended.{duration_same}
use Rattle.og_cstep.proofs.Sighted.{numbers_same}
use Rattle.og_cstep.proofs.Machine.duration.Goals as goal

pub returns : goal.returns
returns c =
    let m = c.args.self.now in
    let k = c.args.timer in
    let small = (loaded m.program m.model m.loads).small in
    let is : c.duration_of.result ≡ duration_of_timer (run_of m) k =
    c.duration_of.ensures
    ∙ ap (λ xs. unwrap_or (duration_at (number_of c.as_slice-extents.result.now xs) (duration_slot m.interface k)) (pos 0)) c.as_slice.ensures.value
    ∙ ap (λ (es : List Extent). unwrap_or (duration_at (number_of es m.cells.items) (duration_slot m.interface k)) (pos 0)) c.as_slice-extents.ensures
    ∙ ap (λ (l : Layout). unwrap_or (duration_at (number_of l.extents m.cells.items) (duration_slot m.interface k)) (pos 0)) m.layout_is
    ∙ ap (λ (n : Numbers). unwrap_or (duration_at n (duration_slot m.interface k)) (pos 0)) (numbers_same m.program small m.cells.items m.model.types)
    ∙ ap (λ (i : Interface). unwrap_or (duration_at (in_trees m.model.types (trees_of m.program m.cells.items)).number (duration_slot i k)) (pos 0)) m.interface_is
    ∙ ap (λ (place : Option ℕ). unwrap_or (duration_at (in_trees m.model.types (trees_of m.program m.cells.items)).number place) (pos 0)) (duration_same m.model (global_names m.program) k)
    in let fits : FitsSigned w64 c.duration_of.result = search rules in to_z-of_z w64 c.duration_of.result fits ∙ is
