-- The code of a model of basic states answers the start and each stimulus as the meaning of the model does.
use Rattle.std.proofs.Common.{◌≡◌, ℕ, suc, ◌+◌, ◌*◌, ◌≤◌, ◌<◌, ℤ, pos, negsuc, Bool, true, false, nat_lt, cond, List, [], ◌∷◌, ◌++◌, map, length, slice_get, Option, Some, None, inl, inr, unwrap_or, refl, sym, ap, subst, ◌∙◌, arith, IsTrue}
use Rattle.std.specs.Option.{is_some}
use Rattle.std.specs.List.{list_all}
use Rattle.std.proofs.lemmas.Bool.{false≢true, ltb-true}
use Rattle.std.proofs.lemmas.Option.{none-some}
use Rattle.og_names.specs.declared.NameId.{NameId}
use Rattle.og_types.specs.declared.Value.{Value}
use Rattle.og_model.specs.declared.Model.{Model}
use Rattle.og_model.specs.declared.Signal as Signals
use Rattle.og_model.specs.declared.Variable.{Variable}
use Rattle.og_model.specs.declared.Body.{Body}
use Rattle.og_model.specs.declared.Handler.{Handler}
use Rattle.og_model.specs.declared.StateDef.{StateDef}
use Rattle.og_model.specs.declared.StuckRule.TheVariants as stuck
use Rattle.og_model.specs.RegionTypes.{Region}
use Rattle.og_model.specs.Regions.{Insides, kind_insides, state_insides, insides_under, insides_of, regions}
use Rattle.og_model.proofs.RegionLayers.{insides_is}
use Rattle.og_model.specs.Forms.{UsesBasicStatesOnly, is_plain_trigger}
use Rattle.og_model.specs.Resolved.{in_states, is_handler}
use Rattle.og_model.specs.WellSorted.{is_place}
use Rattle.og_model.specs.WellFormed.{IsWellFormed}
use Rattle.og_model.specs.Shown as Shows
use Rattle.og_model.specs.Shown.{Event, End, Stimulus}
use Rattle.og_model.specs.Units.{State, Done, Doing, gives}
use Rattle.og_model.specs.Configuration.{Active, At, Basic, paths_of}
use Rattle.og_model.specs.Run.{first_state, start, step}
use Rattle.og_ir.specs.declared.FlatFn.{FlatFn}
use Rattle.og_ir.specs.declared.Instr.{Instr}
use Rattle.og_ir.specs.declared.Instr.TheVariants as instr
use Rattle.og_ir.specs.Cells.{◌>>=◌, Cells}
use Rattle.og_ir.specs.FlatSteps.{first_slots, case_of}
use Rattle.og_ir.specs.Steps.{Frame, Config, Running}
use Rattle.og_csubset.specs.Agreement.{is_stimulus, is_sent, are_in}
use Rattle.og_csubset.specs.Fair.{Fair, names_of}
use Rattle.og_csubset.specs.Loading.{has_twice}
use Rattle.og_names.specs.declared.Word.{Word}
use Rattle.og_csubset.specs.FlatRun.{slot_names, flat_function_names}
use Rattle.og_csubset.specs.Kinds.{place_in}
use Rattle.og_csubset.specs.Interface as interface
use Rattle.og_csubset.specs.Paced.{Pace, IsPace, paced_size}
use Rattle.og_csubset.specs.Reads.{Globals, path_of, all_of, values_of, number_named, paths_in, end_of, inputs_set}
use Rattle.og_ir.specs.Reading.{truth_in}
use Rattle.og_csubset.specs.Run.{entered}
use Rattle.og_flatten.specs.FlatCode.{code_of, transition_function, transition_code, start_function, signal_function, signal_code, signal_end, first_entering, entering_place, end_place, states_of, bodies_of, bodies_code, body_cases, body_length, length_of_bodies, entering_code, choice_code, choices_code, choice_cases, is_input, handler_in, start_body, sets, region, read, is_stopped}
use Rattle.og_follow.specs.Answers.{AtRest, AtHalt, Answers, Simulates}
use Rattle.og_follow.specs.Carrying.{Standing, only, Places, nowhere, place, either, Apart, Among, Ways, Passes, no_places, behind, before_places, Always, Returned}
use Rattle.og_follow.proofs.Carrying.{passes_on, passes_then, then_passes, only_passes, passes_wider, ends_at_once, same_doing, same_ways, as_wider}
use Rattle.og_follow.proofs.Answering.{carried_is_answered}
use Rattle.og_layout.specs.Layout.{Mark, Between, Inactive, Leaf, NoLeaf, numbers_of, marked}
use Rattle.og_layout.proofs.AtRest.{rest_is_read}
use Rattle.og_flatten.specs.Slots.{inputs_of, control_of, layout_of}
use Rattle.og_flatten.proofs.Layouts.{slots_are_named}
use Rattle.og_flatten.proofs.SingleSteps.{Holding, StandsAs, Chose, Leads, same_slots, sets_region, sets_chosen, table_of_chosen, table_of_region, not_stopped}
use Rattle.og_flatten.proofs.Sending.{values_stand, inputs_beside}
use Rattle.og_flatten.proofs.Standings.{IsBasic, leaf_is, HasOne, one_at, one_inactive, entered_number, left_number, first_stands, RestsIn, in_state, is_active}
use Rattle.og_flatten.proofs.Places.{HasAt, BodyAt, bodies_placed, entering_placed, length_of_all, ChoiceAt, handled_placed, not_handled, has_at}
use Rattle.og_flatten.proofs.Serving.{serves, serves_nothing, body_serves, state_serves, served}
use Rattle.og_flatten.proofs.Basic.{body_is, StateIs, state_is, start_is}
use Rattle.og_flatten.proofs.Meaning.{whole, start_is_whole, step_takes, step_discards, paths_are}
use Rattle.og_flatten.proofs.Transitions.{frame, machine_of, Here, Left, from_to, whole_places, whole_ways, done≢out, coded, goes, returns, carries_whole}
use Rattle.og_flatten.proofs.Interfaces.{start_placed, SignalAt, signal_at, emits, inputs_at, once_before, not_true, there}
use Rattle.og_names.proofs.Truths.{both_first as left_of, both_second as right_of, same_value as some_is}

pub none_more : (k : ℕ) → 0 + k ≡ k
none_more k = omega (arith)

-- ---- where bodies and entering code stand

pub body_placed : (M : Model) (k : ℕ) (b : Body) → slice_get (bodies_of M) k ≡ Some b → BodyAt (first_entering M) (end_place M) (transition_code (control_of M) M) (body_cases 0 1 (bodies_of M)) 1 (first_entering M) k b
body_placed M k b at =
    subst (λ n. BodyAt (first_entering M) (end_place M) (transition_code (control_of M) M) (body_cases 0 1 (bodies_of M)) 1 (first_entering M) n b) (none_more k)
    (bodies_placed (first_entering M) (end_place M) 0 k (instr.Table (read (control_of M).chosen) (body_cases 0 1 (bodies_of M)) (end_place M) ∷ []) (entering_code 0 (states_of M) ++ instr.Back ∷ []) (bodies_of M) b at)

pub state_placed : (M : Model) (k : ℕ) (d : StateDef) → slice_get (states_of M) k ≡ Some d → HasAt (transition_code (control_of M) M) (entering_place M k) (sets region (pos k) ∷ instr.Back ∷ [])
state_placed M k d at =
    let before = instr.Table (read (control_of M).chosen) (body_cases 0 1 (bodies_of M)) (end_place M) ∷ bodies_code M (bodies_of M) in
    let len : length before + 2 * k ≡ entering_place M k = place_is (length (bodies_code M (bodies_of M))) (length_of_bodies (bodies_of M)) k (length_of_all (first_entering M) (end_place M) (bodies_of M)) in
    subst (λ p. HasAt (transition_code (control_of M) M) p (sets region (pos k) ∷ instr.Back ∷ [])) len
    (subst (λ n. HasAt (transition_code (control_of M) M) (length before + 2 * k) (sets region (pos n) ∷ instr.Back ∷ [])) (none_more k)
    (entering_placed 0 k before (instr.Back ∷ []) (states_of M) d at))
  where
    place_is : (a b k : ℕ) → a ≡ b → suc a + 2 * k ≡ 1 + b + 2 * k
    place_is a b k e = omega (arith, e)

-- ---- at rest

abbrev pub Rests : Model → AtRest
Rests M = RestsIn M

-- no transition of basic states stops
abbrev pub Halts : AtHalt
Halts s slots = ⊥

-- where the code has returned to outside in a state, the process rests there
rests_there : (M : Model) → IsBasic M → (k : ℕ) (d : StateDef) → slice_get (states_of M) k ≡ Some d → (s : State) (now : Config) → Left (StandsAs M (marked (At k Basic))) s now → Returned (Rests M) Halts (machine_of M) (Done (At k Basic)) s now
rests_there M is k d at s now left = (left.slots, left.is, record { active = is_active M is k d at; holds = left.holds })

-- ---- the places of a transition

-- before the choice the code passes places of its function from its beginning on
abbrev before_choice : ℕ → ℕ → Places
before_choice f p = from_to f 0 p

-- the choice, the call and the table
abbrev at_choice : ℕ → ℕ → Places
at_choice f p = either (either (place f p) (place f (p + 1))) (place 0 0)

-- the last return of `transition`, and that of its caller
abbrev at_returns : ℕ → ℕ → ℕ → Places
at_returns e f p = either (place 0 (e + 1)) (place f p)

-- ---- places that lie apart

-- carried out from where it stands to its return
pub record Answered (M : Model) (pace : Pace) (is_pace : IsPace pace) (before : Standing) (d : Doing Active) : Type 1 where
  pub ways : Ways
  pub carries : Always (coded M pace is_pace) d before (Returned (Rests M) Halts (machine_of M)) ways

choice_apart : (f p : ℕ) → (f ≡ 0 → ⊥) → Apart (at_choice f p) (before_choice f p)
choice_apart f p other g q (inl (inl x)) y = let a = x.1 in let b = y.2 in omega (arith, a, b)
choice_apart f p other g q (inl (inr x)) y = let a = x.1 in let b = y.2 in omega (arith, a, b)
choice_apart f p other g q (inr x) y = other (sym y.0 ∙ x.0)

returns_apart : (e f p : ℕ) → (f ≡ 0 → ⊥) → Apart (place f p) (place 0 (e + 1))
returns_apart e f p other g q x y = other (sym x.0 ∙ y.0)

-- the returns stand behind the code that enters the state
behind_whole : (e f p a b : ℕ) → (f ≡ 0 → ⊥) → b ≤ e → Apart (at_returns e f p) (whole_places a b e)
behind_whole e f p a b other le g q (inl x) (inl y) = let i = x.1 in let j = y.2 in omega (arith, i, j, le)
behind_whole e f p a b other le g q (inl x) (inr y) = let i = x.1 in let j = y.1 in omega (arith, i, j)
behind_whole e f p a b other le g q (inr x) (inl y) = other (sym x.0 ∙ y.0)
behind_whole e f p a b other le g q (inr x) (inr y) = other (sym x.0 ∙ y.0)

-- nothing of the transition was passed before it
new_place : (e f p : ℕ) → (f ≡ 0 → ⊥) → Apart (at_returns e f (p + 1 + 1)) (either (before_choice f p) (at_choice f p))
new_place e f p other g q (inl x) (inl y) = other (sym y.0 ∙ x.0)
new_place e f p other g q (inl x) (inr (inl (inl y))) = other (sym y.0 ∙ x.0)
new_place e f p other g q (inl x) (inr (inl (inr y))) = other (sym y.0 ∙ x.0)
new_place e f p other g q (inl x) (inr (inr y)) = let i = x.1 in let j = y.1 in omega (arith, i, j)
new_place e f p other g q (inr x) (inl y) = let i = x.1 in let j = y.2 in omega (arith, i, j)
new_place e f p other g q (inr x) (inr (inl (inl y))) = let i = x.1 in let j = y.1 in omega (arith, i, j)
new_place e f p other g q (inr x) (inr (inl (inr y))) = let i = x.1 in let j = y.1 in omega (arith, i, j)
new_place e f p other g q (inr x) (inr (inr y)) = other (sym x.0 ∙ y.0)

returns_new : (e f p : ℕ) → (f ≡ 0 → ⊥) → Apart (either nowhere (at_returns e f (p + 1 + 1))) (either (before_choice f p) (at_choice f p))
returns_new e f p other g q (inl x) y = x
returns_new e f p other g q (inr x) y = new_place e f p other g q x y

body_new : (f p a q : ℕ) → (f ≡ 0 → ⊥) → 1 ≤ a → a ≤ q → either (before_choice f p) (at_choice f p) 0 q → ⊥
body_new f p a q other from le (inl y) = other (sym y.0)
body_new f p a q other from le (inr (inl (inl y))) = other (sym y.0)
body_new f p a q other from le (inr (inl (inr y))) = other (sym y.0)
body_new f p a q other from le (inr (inr y)) = let j = y.1 in omega (arith, j, from, le)

whole_new : (e f p a b : ℕ) → (f ≡ 0 → ⊥) → 1 ≤ a → 1 ≤ e → Apart (either (whole_places a b e) (at_returns e f (p + 1 + 1))) (either (before_choice f p) (at_choice f p))
whole_new e f p a b other from some g q (inl (inl x)) y = body_new f p a q other from x.1 (subst (λ h. either (before_choice f p) (at_choice f p) h q) x.0 y)
whole_new e f p a b other from some g q (inl (inr x)) y = let i = x.1 in body_new f p e q other some (omega (arith, i)) (subst (λ h. either (before_choice f p) (at_choice f p) h q) x.0 y)
whole_new e f p a b other from some g q (inr x) y = new_place e f p other g q x y

-- ---- a chosen body

-- a table leads to the place of its case
pub leads_to : (M : Model) (K : Holding) (at : Frame) (callers : List Frame) (i : Instr) (L : Holding) (p q f : ℕ) → p ≡ q → Leads M K at callers i [] L (λ slots. Running slots (frame f p) callers) → Leads M K at callers i [] L (λ slots. Running slots (frame f q) callers)
leads_to M K at callers i L p q f same leads = subst (λ n. Leads M K at callers i [] L (λ slots. Running slots (frame f n) callers)) same leads

-- the code stands at a choice, and then at the body
choice_passes : (M : Model) (pace : Pace) (is_pace : IsPace pace) (mark : Mark) (f p : ℕ) (g : FlatFn) (body : ℕ) (b : Body) → (placed : BodyAt (first_entering M) (end_place M) (transition_code (control_of M) M) (body_cases 0 1 (bodies_of M)) 1 (first_entering M) body b) → slice_get (code_of M).functions f ≡ Some g → HasAt g.code p (choice_code (control_of M) body) → (f ≡ 0 → ⊥)
    → Passes (coded M pace is_pace) (Here (StandsAs M mark) f p []) [] (Here (StandsAs M mark) 0 placed.place (frame f (p + 1 + 1) ∷ [])) (at_choice f p)
choice_passes M pace is_pace mark f p g body b placed at code other =
    let K = StandsAs M mark in
    let L = Chose M mark body in
    let back = frame f (p + 1 + 1) ∷ [] in
    let cases = body_cases 0 1 (bodies_of M) in
    passes_on (coded M pace is_pace) (Here K f p []) [] (Here L 0 0 back) [] (Here K 0 placed.place back) (either (place f p) (place f (p + 1))) (place 0 0)
    (passes_on (coded M pace is_pace) (Here K f p []) [] (Here L f (p + 1) []) [] (Here L 0 0 back) (place f p) (place f (p + 1))
    (goes M pace is_pace K f p [] L f (p + 1) [] g (sets (control_of M).chosen (pos body)) (serves_nothing M f p other) at code.0 (sets_chosen M mark body (frame f p) []))
    (goes M pace is_pace L f (p + 1) [] L 0 0 back g (instr.Call 0) (serves_nothing M f (p + 1) other) at code.1.0 (same_slots M L (frame f (p + 1)) [] (instr.Call 0) [] (λ slots. Running slots (frame 0 0) back) (λ slots. refl)))
    second_apart)
    (goes M pace is_pace L 0 0 back K 0 placed.place back (transition_function (control_of M) M) (instr.Table (read (control_of M).chosen) cases (end_place M)) refl refl refl
    (leads_to M L (frame 0 0) back (instr.Table (read (control_of M).chosen) cases (end_place M)) K (case_of (pos body) cases (end_place M)) placed.place 0 (placed.leads (end_place M)) (table_of_chosen M mark body (frame 0 0) back cases (end_place M))))
    third_apart
  where
    second_apart : Apart (place f (p + 1)) (place f p)
    second_apart g q x y = let a = x.1 in let b = y.1 in omega (arith, a, b)

    third_apart : Apart (place 0 0) (either (place f p) (place f (p + 1)))
    third_apart g q x (inl y) = other (sym y.0 ∙ x.0)
    third_apart g q x (inr y) = other (sym y.0 ∙ x.0)

abbrev chosen_ways : ℕ → ℕ → ℕ → ℕ → ℕ → Ways
chosen_ways f p a b e = behind (either (before_choice f p) (at_choice f p)) (before_places (whole_ways a b e) (at_returns e f (p + 1 + 1)))

-- From the function's first place the code passes to the choice of a body, carries out the transition, and returns.
pub chooses : (M : Model) → IsBasic M → (pace : Pace) (is_pace : IsPace pace) (mark : Mark) → HasOne M mark → (f p : ℕ) (g : FlatFn) (body : ℕ) (origin : Option ℕ) → body < length (bodies_of M)
    → slice_get (code_of M).functions f ≡ Some g → HasAt g.code p (choice_code (control_of M) body) → (f ≡ 0 → ⊥)
    → (before : Standing) → Passes (coded M pace is_pace) before [] (Here (StandsAs M mark) f p []) (before_choice f p)
    → Answered M pace is_pace before (whole M (Some body) origin)
chooses M is pace is_pace mark one f p g body origin lt at code other before passes =
    let code_of_it = coded M pace is_pace in
    let found = there (bodies_of M) body lt in
    let b = found.0 in
    let b_is = body_is M is.formed is.basic body b found.1 in
    let placed = body_placed M body b found.1 in
    let k = b_is.state in
    let entered = there (states_of M) k b_is.there in
    let e = entering_place M k in
    let entering = state_placed M k entered.0 entered.1 in
    let K = StandsAs M mark in
    let L = StandsAs M (marked (At k Basic)) in
    let back = frame f (p + 1 + 1) ∷ [] in
    let a = placed.place in
    let end = a + body_length b in
    let Z = at_returns e f (p + 1 + 1) in
    let from = placed.from in
    let to = placed.to in
    let rest = rests_there M is k entered.0 entered.1 in
    record {
      ways = chosen_ways f p a end e;
      carries = λ fuel.
          let whole_one : Doing Active = whole M (Some body) origin in
          as_wider code_of_it fuel fuel whole_one before before (only (Done (At k Basic)) (Left L)) (Returned (Rests M) Halts (machine_of M)) (chosen_ways f p a end e) (chosen_ways f p a end e) (omega (arith)) (λ s now h. h) (λ o s now h. subst (λ o. Returned (Rests M) Halts (machine_of M) o s now) (sym h.0) (rest s now h.1)) (same_ways (chosen_ways f p a end e))
          (passes_then code_of_it fuel whole_one before [] (Here K 0 a back) (only (Done (At k Basic)) (Left L)) (either (before_choice f p) (at_choice f p)) (before_places (whole_ways a end e) Z)
          (passes_on code_of_it before [] (Here (StandsAs M mark) f p []) [] (Here K 0 a back) (before_choice f p) (at_choice f p) passes
          (choice_passes M pace is_pace mark f p g body b placed at code other) (choice_apart f p other))
          (then_passes code_of_it fuel whole_one (Here K 0 a back) (only (Done (At k Basic)) (Here L 0 (e + 1) back)) (only (Done (At k Basic)) (Left L)) Z (whole_ways a end e)
          (carries_whole M pace is_pace (emits M is.fair) mark back a body b origin found.1 b_is entered.0 entered.1 (state_is M is.formed is.basic k entered.0 entered.1) (entered_number M is mark one k entered.0 entered.1) placed.code_there (body_serves M body b a found.1 (placed.leads 0)) entering fuel)
          (only_passes code_of_it (Done (At k Basic)) (Here L 0 (e + 1) back) (Left L) Z
          (passes_on code_of_it (Here L 0 (e + 1) back) [] (Here L f (p + 1 + 1) []) [] (Left L) (place 0 (e + 1)) (place f (p + 1 + 1))
          (goes M pace is_pace L 0 (e + 1) back L f (p + 1 + 1) [] (transition_function (control_of M) M) instr.Back (served M (e + 1) None (state_serves M k entered.0 entered.1).1.0) refl entering.1.0 (same_slots M L (frame 0 (e + 1)) back instr.Back [] (λ slots. Running slots (frame f (p + 1 + 1)) []) (λ slots. refl)))
          (returns M pace is_pace L f (p + 1 + 1) g (serves_nothing M f (p + 1 + 1) other) at code.1.1.0)
          (returns_apart e f (p + 1 + 1) other)))
          (λ h q u v. v) (behind_whole e f (p + 1 + 1) a end other (omega (arith, to))) (behind_whole e f (p + 1 + 1) a end other (omega (arith, to))))
          (returns_new e f p other) (whole_new e f p a end other from (omega (arith))));
    }

-- ---- answers

-- what is carried out from here is answered
answers : (M : Model) (pace : Pace) (is_pace : IsPace pace) (config : Config) (d : Doing Active) (n : ℕ) (s : State) (before : Standing) → before s config → Answered M pace is_pace before d → Answers (Rests M) Halts (machine_of M) pace (paced_size pace (code_of M)) config n (d n s)
answers M pace is_pace config d n s before at answered =
    carried_is_answered (Rests M) Halts (machine_of M) (λ at. is_some (serves M at)) pace is_pace (code_of M) config d n s before answered.ways at (answered.carries n)

-- what holds where code carries out a doing holds of something
abbrev pub Holds : Type 1
Holds = Config → Doing Active → State → Type 0

abbrev pub WhereCarried : (M : Model) (pace : Pace) → IsPace pace → Holds → Type 1
WhereCarried M pace is_pace P =
    (config : Config) (d : Doing Active) (s : State) (before : Standing) → before s config → Answered M pace is_pace before d → P config d s

-- ---- the start

-- the code carries out the start
pub starts_with : (M : Model) → IsBasic M → (pace : Pace) (is_pace : IsPace pace) (P : Holds) → WhereCarried M pace is_pace P → P ((machine_of M).begin None (first_slots M.types (code_of M))) (start M) (first_state M)
starts_with M is pace is_pace P holds =
    let st = start_is M is.formed is.basic in
    let first = first_slots M.types (code_of M) in
    let config : Config = Running first (frame 1 0) [] in
    let begun_is : (machine_of M).begin None first ≡ config = ap (λ o. entered o first) (start_placed M is.fair) in
    let K = StandsAs M Between in
    let L = StandsAs M Inactive in
    let before = Here K 1 0 [] in
    subst (λ c. P c (start M) (first_state M)) (sym begun_is)
    (subst (λ d. P config d (first_state M)) (sym (start_is_whole M st))
    (holds config (whole M (Some st.start.body) None) (first_state M) before (record { slots = first; is = refl; holds = first_stands M is })
    (chooses M is pace is_pace Inactive (one_inactive M is) 1 1 (start_function (control_of M) M) st.start.body None st.there refl (ap (λ starts. Some (sets (control_of M).chosen (pos (start_body starts)))) st.is, (refl, (refl, tt))) (λ e. omega (arith, e)) before
    (passes_wider (coded M pace is_pace) before before [] (Here L 1 1 []) (Here L 1 1 []) (place 1 0) (before_choice 1 1) (λ s now h. h) (λ s now h. h) among
    (goes M pace is_pace K 1 0 [] L 1 1 [] (start_function (control_of M) M) (sets region (negsuc 0)) refl refl refl
    (sets_region M Between Inactive NoLeaf (negsuc 0) (frame 1 0) [] (left_number M is) (0, refl)))))))
  where
    among : Among (place 1 0) (before_choice 1 1)
    among f q x = let e = x.1 in (x.0, omega (arith, e), omega (arith, e))

-- ---- stimuli

-- an incoming signal
pub record IsSent (M : Model) (k : ℕ) (vs : List Value) : Type 0 where
  pub signal : Signals.Signal
  pub at : slice_get M.signals k ≡ Some signal
  pub incoming : signal.incoming ≡ true

pub sent_by : (M : Model) (k : ℕ) (vs : List Value) (o : Option Signals.Signal) → slice_get M.signals k ≡ o → is_sent M o vs ≡ true → IsSent M k vs
sent_by M k vs None e h = absurd (false≢true h)
sent_by M k vs (Some s) e h = record { signal = s; at = e; incoming = left_of s.incoming (are_in M s.sorts vs) h }

pub handler_there : (M : Model) (hs : List Handler) (k : ℕ) (h : Handler) → list_all (λ (h : Handler). is_plain_trigger h.trigger) hs ≡ true → list_all (is_handler M (in_states (states_of M)) (length (bodies_of M))) hs ≡ true → handler_in k hs ≡ Some h → (is_plain_trigger h.trigger ≡ true) × (h.body < length (bodies_of M))
handler_there M [] k h plain known found = absurd (none-some h found)
handler_there M (g ∷ hs) k h plain known found = choose (is_input k g.trigger) found (handler_there M hs k h (right_of (is_plain_trigger g.trigger) _ plain) (right_of (is_handler M (in_states (states_of M)) (length (bodies_of M)) g) _ known))
  where
    here : g ≡ h → (is_plain_trigger h.trigger ≡ true) × (h.body < length (bodies_of M))
    here e = subst (λ (x : Handler). (is_plain_trigger x.trigger ≡ true) × (x.body < length (bodies_of M))) e (
      left_of (is_plain_trigger g.trigger) _ plain,
      ltb-true g.body (length (bodies_of M)) (left_of (nat_lt g.body (length (bodies_of M))) _ (right_of (is_place g.place) _ (left_of (is_handler M (in_states (states_of M)) (length (bodies_of M)) g) _ known))),
    )

    choose : (b : Bool) → cond b (Some g) (handler_in k hs) ≡ Some h → (handler_in k hs ≡ Some h → (is_plain_trigger h.trigger ≡ true) × (h.body < length (bodies_of M))) → (is_plain_trigger h.trigger ≡ true) × (h.body < length (bodies_of M))
    choose true e later = here (some_is g h e)
    choose false e later = later e

-- where the choices of a signal stand
pub choice_placed : (M : Model) (k st : ℕ) (d : StateDef) (h : Handler) → slice_get (states_of M) st ≡ Some d → handler_in k d.handlers ≡ Some h → ChoiceAt (control_of M) (signal_code (control_of M) M k) (choice_cases k 0 2 (states_of M)) 2 (2 + length (choices_code (control_of M) k (states_of M))) st h.body
choice_placed M k st d h at has =
    let before = instr.Branch (is_stopped (control_of M)) (signal_end (control_of M) M k) ∷ instr.Table (read region) (choice_cases k 0 2 (states_of M)) (signal_end (control_of M) M k) ∷ [] in
    subst (λ n. ChoiceAt (control_of M) (signal_code (control_of M) M k) (choice_cases k 0 2 (states_of M)) 2 (2 + length (choices_code (control_of M) k (states_of M))) n h.body) (none_more st)
    (handled_placed (control_of M) k 0 st before (instr.Back ∷ []) (states_of M) d h at has)

-- behind them the function ends
pub end_placed : (M : Model) (k : ℕ) → slice_get (signal_code (control_of M) M k) (signal_end (control_of M) M k) ≡ Some instr.Back
end_placed M k =
    let before = instr.Branch (is_stopped (control_of M)) (signal_end (control_of M) M k) ∷ instr.Table (read region) (choice_cases k 0 2 (states_of M)) (signal_end (control_of M) M k) ∷ choices_code (control_of M) k (states_of M) in
    ap (slice_get (signal_code (control_of M) M k)) (two_more (length (choices_code (control_of M) k (states_of M)))) ∙ (has_at before (instr.Back ∷ []) []).0
  where
    two_more : (n : ℕ) → 2 + n ≡ suc (suc n)
    two_more n = omega (arith)

-- from the beginning of a signal's function to where its table leads
signal_passes : (M : Model) → IsBasic M → (pace : Pace) (is_pace : IsPace pace) (k : ℕ) (signal : Signals.Signal) (placed : SignalAt M k signal) (mark : Mark) (n to : ℕ) → (numbers_of M.root mark).leaf ≡ Leaf n → case_of (pos n) (choice_cases k 0 2 (states_of M)) (signal_end (control_of M) M k) ≡ to → 2 ≤ to
    → Passes (coded M pace is_pace) (Here (StandsAs M mark) placed.function 0 []) [] (Here (StandsAs M mark) placed.function to []) (before_choice placed.function to)
signal_passes M is pace is_pace k signal placed mark n to leaf leads le =
    let f = placed.function in
    let g = signal_function (control_of M) M k signal in
    let K = StandsAs M mark in
    let cases = choice_cases k 0 2 (states_of M) in
    let end = signal_end (control_of M) M k in
    passes_wider (coded M pace is_pace) (Here K f 0 []) (Here K f 0 []) [] (Here K f to []) (Here K f to []) (either (place f 0) (place f 1)) (before_choice f to) (λ s now h. h) (λ s now h. h) among
    (passes_on (coded M pace is_pace) (Here K f 0 []) [] (Here K f 1 []) [] (Here K f to []) (place f 0) (place f 1)
    (goes M pace is_pace K f 0 [] K f 1 [] g (instr.Branch (is_stopped (control_of M)) end) (serves_nothing M f 0 placed.other) placed.at refl (not_stopped M mark (frame f 0) [] end))
    (goes M pace is_pace K f 1 [] K f to [] g (instr.Table (read region) cases end) (serves_nothing M f 1 placed.other) placed.at refl
    (leads_to M K (frame f 1) [] (instr.Table (read region) cases end) K (case_of (pos n) cases end) to f leads (table_of_region M mark n (frame f 1) [] cases end leaf)))
    apart)
  where
    among : Among (either (place placed.function 0) (place placed.function 1)) (before_choice placed.function to)
    among f q (inl x) = let e = x.1 in (x.0, omega (arith, e), omega (arith, e, le))
    among f q (inr x) = let e = x.1 in (x.0, omega (arith, e), omega (arith, e, le))

    apart : Apart (place placed.function 1) (place placed.function 0)
    apart f q x y = let a = x.1 in let b = y.1 in omega (arith, a, b)

-- what a state does with the signal
pub takes_by : (M : Model) → IsBasic M → (pace : Pace) (is_pace : IsPace pace) (k : ℕ) (vs : List Value) (sent : IsSent M k vs) (placed : SignalAt M k sent.signal) (st : ℕ) (d : StateDef) → slice_get (states_of M) st ≡ Some d → StateIs M d
    → (o : Option Handler) → handler_in k d.handlers ≡ o → Answered M pace is_pace (Here (StandsAs M (marked (At st Basic))) placed.function 0 []) (step M (At st Basic) (Shows.Signal k vs))
takes_by M is pace is_pace k vs sent placed st d at st_is None none =
    let f = placed.function in
    let K = StandsAs M (marked (At st Basic)) in
    let before = Here K f 0 [] in
    let last = signal_end (control_of M) M k in
    let to : case_of (pos st) (choice_cases k 0 2 (states_of M)) last ≡ last =
    ap (λ m. case_of (pos m) (choice_cases k 0 2 (states_of M)) last) (sym (none_more st))
    ∙ not_handled k 0 st 2 (states_of M) d last at none in
    let X = either (before_choice f last) (place f last) in
    let rest = rests_there M is st d at in
    record {
      ways = behind X no_places;
      carries = λ fuel.
          same_doing (coded M pace is_pace) fuel (gives (At st Basic)) (step M (At st Basic) (Shows.Signal k vs)) before (Returned (Rests M) Halts (machine_of M)) (behind X no_places) (λ n s. step_discards M st d k vs n s at st_is none)
          (passes_then (coded M pace is_pace) fuel (gives (At st Basic)) before [] (Left K) (Returned (Rests M) Halts (machine_of M)) X no_places
          (passes_on (coded M pace is_pace) before [] (Here K f last []) [] (Left K) (before_choice f last) (place f last)
          (signal_passes M is pace is_pace k sent.signal placed (marked (At st Basic)) st last (leaf_is M is st d at) to (omega (arith)))
          (returns M pace is_pace K f last (signal_function (control_of M) M k sent.signal) (serves_nothing M f last placed.other) placed.at (end_placed M k))
          (last_apart f last))
          (ends_at_once (coded M pace is_pace) fuel (Done (At st Basic)) (Left K) (Returned (Rests M) Halts (machine_of M)) no_places (done≢out (At st Basic)) (omega (arith)) rest)
          (λ g q u v. u) (λ g q u v. u));
    }
  where
    last_apart : (f p : ℕ) → Apart (place f p) (before_choice f p)
    last_apart f p g q x y = let a = x.1 in let b = y.2 in omega (arith, a, b)
takes_by M is pace is_pace k vs sent placed st d at st_is (Some h) has =
    let f = placed.function in
    let K = StandsAs M (marked (At st Basic)) in
    let before = Here K f 0 [] in
    let choice = choice_placed M k st d h at has in
    let facts = handler_there M d.handlers k h st_is.inputs st_is.bodies has in
    let taken = chooses M is pace is_pace (marked (At st Basic)) (one_at M is st d at) f choice.place (signal_function (control_of M) M k sent.signal) h.body (Some st) facts.1 placed.at choice.code_there placed.other before
    (signal_passes M is pace is_pace k sent.signal placed (marked (At st Basic)) st choice.place (leaf_is M is st d at) (choice.leads (signal_end (control_of M) M k)) choice.from) in
    record {
      ways = taken.ways;
      carries = λ fuel.
          same_doing (coded M pace is_pace) fuel (whole M (Some h.body) (Some st)) (step M (At st Basic) (Shows.Signal k vs)) before (Returned (Rests M) Halts (machine_of M)) taken.ways (λ n s. step_takes M st d k vs n s h at st_is has facts.0) (taken.carries fuel);
    }

slots_once : (M : Model) → Fair (code_of M) M → has_twice (slot_names (code_of M)) ≡ false
slots_once M fair =
    once_before (slot_names (code_of M)) (map (λ (e : Word). e.bytes) (code_of M).events)
    (once_before (slot_names (code_of M) ++ map (λ (e : Word). e.bytes) (code_of M).events) (flat_function_names (code_of M)) (not_true (has_twice (names_of (code_of M))) fair.differ))

-- the values are put into the slots of the signal's parameters, and its function is called
abbrev pub given_slots : Model → ℕ → List Value → List Cells → List Cells
given_slots M k vs slots = inputs_set M (slot_names (code_of M)) (interface.inputs_of M k) vs slots

pub signal_begins : (M : Model) (is : IsBasic M) (k : ℕ) (vs : List Value) (sent : IsSent M k vs) (slots : List Cells) → (machine_of M).begin (Some (Shows.Signal k vs)) slots ≡ Running (given_slots M k vs slots) (frame (signal_at M is.fair k sent.signal sent.at sent.incoming).function 0) []
signal_begins M is k vs sent slots = ap (λ o. entered o (given_slots M k vs slots)) (signal_at M is.fair k sent.signal sent.at sent.incoming).placed

-- the process stands where it stood
pub given_stands : (M : Model) (is : IsBasic M) (k : ℕ) (vs : List Value) (sent : IsSent M k vs) (mark : Mark) (s : State) (slots : List Cells) → StandsAs M mark s slots → StandsAs M mark s (given_slots M k vs slots)
given_stands M is k vs sent mark s slots stands =
    subst (λ fields. StandsAs M mark s (inputs_set M (slot_names (code_of M)) fields vs slots)) (sym (inputs_at M k sent.signal sent.at sent.incoming))
    (values_stand M mark s (inputs_of M sent.signal) (inputs_beside M (slots_once M is.fair) k sent.signal sent.at) vs slots stands)

signal_with : (M : Model) → IsBasic M → (pace : Pace) (is_pace : IsPace pace) (P : Holds) → WhereCarried M pace is_pace P → (k : ℕ) (vs : List Value) → IsSent M k vs → (st : ℕ) (d : StateDef) (s : State) (slots : List Cells) → slice_get (states_of M) st ≡ Some d → StandsAs M (marked (At st Basic)) s slots
    → P ((machine_of M).begin (Some (Shows.Signal k vs)) slots) (step M (At st Basic) (Shows.Signal k vs)) s
signal_with M is pace is_pace P holds k vs sent st d s slots at stands =
    let placed = signal_at M is.fair k sent.signal sent.at sent.incoming in
    let given = given_slots M k vs slots in
    let config : Config = Running given (frame placed.function 0) [] in
    subst (λ c. P c (step M (At st Basic) (Shows.Signal k vs)) s) (sym (signal_begins M is k vs sent slots))
    (holds config (step M (At st Basic) (Shows.Signal k vs)) s (Here (StandsAs M (marked (At st Basic))) placed.function 0 []) (record { slots = given; is = refl; holds = given_stands M is k vs sent (marked (At st Basic)) s slots stands })
    (takes_by M is pace is_pace k vs sent placed st d at (state_is M is.formed is.basic st d at) (handler_in k d.handlers) refl))

pub no_timer : (M : Model) → IsBasic M → (t : ℕ) → IsTrue (nat_lt t (length M.timers)) → ⊥
no_timer M is t sent = no_number (ltb-true t (length M.timers) sent)
  where
    no_number : t < length M.timers → ⊥
    no_number lt = let e = ap length is.basic.no_timers in omega (arith, lt, e)

-- the code carries out each stimulus; no timer expires, since there is none
pub takes_with : (M : Model) → IsBasic M → (pace : Pace) (is_pace : IsPace pace) (P : Holds) → WhereCarried M pace is_pace P → (a : Active) (s : State) (slots : List Cells) → Rests M a s slots → (x : Stimulus) → IsTrue (is_stimulus M x) → P ((machine_of M).begin (Some x) slots) (step M a x) s
takes_with M is pace is_pace P holds a s slots rests (Shows.Signal k vs) sent =
    let here = in_state M is a rests.active in
    rw here.is
    (signal_with M is pace is_pace P holds k vs (sent_by M k vs (slice_get M.signals k) refl sent) here.state here.def s slots here.there
    (subst (λ b. StandsAs M (marked b) s slots) here.is rests.holds))
takes_with M is pace is_pace P holds a s slots rests (Shows.Expiry t) sent = absurd (no_timer M is t sent)

-- ---- the whole

rest_is_shown : (M : Model) → IsBasic M → (a : Active) (s : State) (slots : List Cells) → Rests M a s slots → (machine_of M).ending slots ≡ Shows.Rest (paths_of M.root a) s.store.variables s.timers
rest_is_shown M is a s slots rests =
    rest_is_read M (slot_names (code_of M)) slots (layout_of M) a s (slots_are_named M (slots_once M is.fair)) rests.active rests.holds.has rests.holds.stands

abbrev AnswersWith : Model → Pace → ℕ → Holds
AnswersWith M pace n config d s = Answers (Rests M) Halts (machine_of M) pace (paced_size pace (code_of M)) config n (d n s)

pub simulates : (M : Model) → IsBasic M → (pace : Pace) → IsPace pace → Simulates M (machine_of M) pace (paced_size pace (code_of M)) (first_slots M.types (code_of M)) (Rests M) Halts
simulates M is pace is_pace = record {
  is_pace = is_pace;
  stays = record { over = λ slots. refl; broken = λ trouble. refl };
  rest_is_shown = rest_is_shown M is;
  halt_is_shown = λ s slots halts. absurd halts;
  starts = λ n. starts_with M is pace is_pace (AnswersWith M pace n) (λ config d s before at answered. answers M pace is_pace config d n s before at answered);
  takes = λ a s slots rests x sent n.
      takes_with M is pace is_pace (AnswersWith M pace n) (λ config d s before at answered. answers M pace is_pace config d n s before at answered) a s slots rests x sent;
  halted = λ s slots halts. absurd halts;
}
