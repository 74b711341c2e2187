-- One step of the linked program is one step of the program.
use Rattle.std.proofs.Common.{◌≡◌, ℕ, ◌+◌, ℤ, List, [], ◌∷◌, length, Bool, true, false, cond, ◌&&◌, nat_le, Option, Some, None, Result, Ok, Err, refl, sym, ap, ◌∙◌, subst}
use Rattle.std.proofs.lemmas.List.{length-set}
use Rattle.std.proofs.lemmas.Bool.{leb-true}
use Rattle.std.specs.List.{copy_within}
use Rattle.og_model.specs.declared.Model.{Model}
use Rattle.og_model.specs.declared.EventId.{EventId}
use Rattle.og_model.specs.Shown as shown
use Rattle.og_ir.specs.Cells.{Cells}
use Rattle.og_ir.specs.Arithmetic.{Trouble}
use Rattle.og_ir.specs.Steps as steps
use Rattle.og_ir.specs.Steps.{Frame, Config, Over, Broken, quiet, onward, returned}
use Rattle.og_csubset.specs.declared.CProgram.{CProgram}
use Rattle.og_csubset.specs.Loading.{cells_of_globals, first_load_rule}
use Rattle.og_ccells.specs.Vectors.{trees_of}
use Rattle.og_ccells.proofs.Overwriting.{length-copied}
use Rattle.og_cstatement.specs.declared.position.Position.{Position}
use Rattle.og_cstatement.specs.declared.position.Standing.{Standing}
use Rattle.og_cstatement.specs.declared.position.Standing.TheVariants.{Running, Idle, Stuck}
use Rattle.og_cstatement.specs.Meaning as m
use Rattle.og_cstatement.specs.Meaning.{Effect, effect_at, cells_by}
use Rattle.og_cstatement.specs.Effects.{after, event_after, cells_after, effect_next, next_config, next_event, next_cells, left_to, CallsEarlier}
use Rattle.og_cstatement.specs.Numbers.{trouble_of}
use Rattle.og_cstatement.specs.Positions.{frame_of, config_by, config_of}
use Rattle.og_cstatement.specs.Links as links
use Rattle.og_cstatement.specs.Links.{linked_of, step_of, IsStep}
use Rattle.og_cstatement.proofs.SameSteps.{does, running_same}
use Rattle.og_cstatement.proofs.Spotted.{Fits}
use Rattle.og_cstatement.proofs.Loaded.{Loaded, loaded, calls_earlier}

-- ---- as many cells as before

copy_length : (xs : List ℤ) (to from width : ℕ) (a b : Bool) → nat_le (to + width) (length xs) ≡ a → nat_le (from + width) (length xs) ≡ b
    → length (cond (a && b) (copy_within xs from (from + width) to) xs) ≡ length xs
copy_length xs to from width true true p q =
    sym (ap length (ap (λ t. cond (t && nat_le (from + width) (length xs)) (copy_within xs from (from + width) to) xs) p ∙ ap (λ t. cond t (copy_within xs from (from + width) to) xs) q))
    ∙ length-copied xs to from width (leb-true (to + width) (length xs) p) (leb-true (from + width) (length xs) q)
copy_length xs to from width true false p q = refl
copy_length xs to from width false b p q = refl

length_by : (effect : Effect) (xs : List ℤ) → length (cells_by effect xs) ≡ length xs
length_by m.Onward xs = refl
length_by (m.At place) xs = refl
length_by (m.Put place z) xs = length-set xs place z
length_by (m.Copy to from width) xs = copy_length xs to from width _ _ refl refl
length_by (m.Enter function) xs = refl
length_by (m.Show id) xs = refl
length_by m.Back xs = refl

pub length_next : (o : Option (Result Effect Trouble)) (xs : List ℤ) → length (next_cells o xs) ≡ length xs
length_next None xs = refl
length_next (Some (Ok effect)) xs = length_by effect xs
length_next (Some (Err t)) xs = refl

-- ---- positions

back_is : (globals : List Cells) (callers : List Frame) → returned {E = shown.Event} globals callers ≡ quiet (left_to globals callers)
back_is globals [] = refl
back_is globals (frame ∷ callers) = refl

-- the cells of a run that goes on are those that stand there
left_cells : (old new : List Cells) (callers : List Frame) → new ≡ links.cells_after old (left_to new callers)
left_cells old new [] = refl
left_cells old new (frame ∷ callers) = refl

module _ (P : CProgram) (M : Model) (xs ys : List ℤ) (fits : Fits P) (whole : length xs ≡ cells_of_globals P) where
  abbrev old : List Cells
  old = trees_of P xs

  abbrev new : List Cells
  new = trees_of P ys

  -- a statement that calls no event
  moves : (from to : Position) (answer : Option EventId) (config : Config) → answer ≡ None → step_of P M (config_of old from) ≡ quiet config → config_of new to ≡ config
      → new ≡ links.cells_after old config → IsStep P M old from new to answer
  moves from to answer config a e t k =
      subst (IsStep P M old from new to) (sym a) (record { step_is = e ∙ ap quiet (sym t); cells_are = k ∙ ap (links.cells_after old) (sym t) })

  done_is : (from to : Position) (frame : Frame) (callers : List Frame) (answer : Option EventId) (r : Result Effect Trouble) → config_of old from ≡ steps.Running old frame callers
      → step_of P M (config_of old from) ≡ does P M xs fits whole frame callers r → config_of new to ≡ after r (steps.Running new frame callers) → answer ≡ event_after r
      → ys ≡ cells_after r xs → IsStep P M old from new to answer
  done_is from to frame callers answer (Err t) f e to_is a k = moves from to answer (Broken t) a e to_is (ap (trees_of P) k)
  done_is from to frame callers answer (Ok m.Onward) f e to_is a k =
      moves from to answer (steps.Running new (onward frame) callers) a (e ∙ ap (λ zs. quiet (steps.Running (trees_of P zs) (onward frame) callers)) (sym k)) to_is refl
  done_is from to frame callers answer (Ok (m.At place)) f e to_is a k =
      moves from to answer _ a (e ∙ ap (λ zs. quiet (steps.Running (trees_of P zs) (steps.jumped frame place) callers)) (sym k)) to_is refl
  done_is from to frame callers answer (Ok (m.Put place z)) f e to_is a k =
      moves from to answer _ a (e ∙ ap (λ zs. quiet (steps.Running (trees_of P zs) (onward frame) callers)) (sym k)) to_is refl
  done_is from to frame callers answer (Ok (m.Copy target source width)) f e to_is a k =
      moves from to answer _ a (e ∙ ap (λ zs. quiet (steps.Running (trees_of P zs) (onward frame) callers)) (sym k)) to_is refl
  done_is from to frame callers answer (Ok (m.Enter function)) f e to_is a k =
      moves from to answer _ a (e ∙ ap (λ zs. steps.called (trees_of P zs) frame callers function) (sym k)) to_is refl
  done_is from to frame callers answer (Ok (m.Show id)) f e to_is a k =
      subst (IsStep P M old from new to) (sym a)
      (record { frame = frame; callers = callers; from_is = f; kept = ap (trees_of P) k; to_is = to_is ∙ ap (λ zs. steps.Running (trees_of P zs) (onward frame) callers) k; step_is = e })
  done_is from to frame callers answer (Ok m.Back) f e to_is a k =
      moves from to answer (left_to new callers) a (e ∙ ap (λ zs. returned (trees_of P zs) callers) (sym k) ∙ back_is new callers) to_is (left_cells old new callers)

  abbrev next_of : Standing → Option (Result Effect Trouble)
  next_of standing = effect_next (linked_of P M) xs standing

  by_standing : Loaded P → (from to : Position) (answer : Option EventId) (standing : Standing) → from.standing ≡ standing → ((g : List Cells) → config_of g to ≡ next_config (next_of standing) (config_of g from))
      → answer ≡ next_event (next_of standing) → ys ≡ next_cells (next_of standing) xs → IsStep P M old from new to answer
  by_standing loaded from to answer (Running call) is moved a k =
      let here : (g : List Cells) → config_of g from ≡ config_by g (Running call) from.callers.items = λ g. ap (λ s. config_by g s from.callers.items) is in
      done_is from to (frame_of call) _ answer (effect_at (linked_of P M) xs (frame_of call)) (here old)
      (ap (step_of P M) (here old) ∙ running_same P M xs fits whole (frame_of call) _ loaded.typed)
      (moved new ∙ ap (after (effect_at (linked_of P M) xs (frame_of call))) (here new)) a k
  by_standing loaded from to answer Idle is moved a k =
      let here : (g : List Cells) → config_of g from ≡ Over g = λ g. ap (λ s. config_by g s from.callers.items) is in
      moves from to answer (Over new) a (ap (step_of P M) (here old) ∙ ap (λ zs. quiet (Over (trees_of P zs))) (sym k)) (moved new ∙ here new) refl
  by_standing loaded from to answer (Stuck rule) is moved a k =
      let here : (g : List Cells) → config_of g from ≡ Broken (trouble_of rule) = λ g. ap (λ s. config_by g s from.callers.items) is in
      moves from to answer (Broken (trouble_of rule)) a (ap (step_of P M) (here old)) (moved new ∙ here new) (ap (trees_of P) k)

fits_of : (P : CProgram) → Loaded P → Fits P
fits_of P l = record { known = l.known; small = l.small }

pub is_step : (P : CProgram) (M : Model) (xs ys : List ℤ) (from to : Position) (answer : Option EventId) → first_load_rule P M ≡ None → length xs ≡ cells_of_globals P
    → ((g : List Cells) → config_of g to ≡ next_config (effect_next (linked_of P M) xs from.standing) (config_of g from)) → answer ≡ next_event (effect_next (linked_of P M) xs from.standing)
    → ys ≡ next_cells (effect_next (linked_of P M) xs from.standing) xs → IsStep P M (trees_of P xs) from (trees_of P ys) to answer
is_step P M xs ys from to answer loads whole moved a k =
    by_standing P M xs ys (fits_of P (loaded P M loads)) whole (loaded P M loads) from to answer from.standing refl moved a k

pub earlier_calls : (P : CProgram) (M : Model) → first_load_rule P M ≡ None → CallsEarlier (linked_of P M)
earlier_calls P M loads = calls_earlier P M (loaded P M loads)
