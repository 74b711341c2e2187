-- Code carries out a transition of basic states, from the first instruction of its body to the one that enters its next state.
use Rattle.std.proofs.Common.{◌≡◌, ℕ, zero, suc, ◌+◌, ◌≤◌, ◌<◌, ℤ, pos, Bool, true, false, List, [], ◌∷◌, ◌++◌, map, length, slice_get, slice_set, Option, Some, None, inl, inr, refl, sym, ap, ◌∙◌, arith}
use Rattle.std.specs.Option.{is_some}
use Rattle.std.proofs.lemmas.Bool.{false≢true}
use Rattle.std.proofs.lemmas.Option.{slice_get_within}
use Rattle.og_model.specs.declared.Model.{Model}
use Rattle.og_model.specs.declared.Body.{Body}
use Rattle.og_model.specs.declared.StateDef.{StateDef}
use Rattle.og_model.specs.declared.Step.{Step}
use Rattle.og_model.specs.declared.Ending.{Ending}
use Rattle.og_model.specs.declared.EndKind.TheVariants as Ends
use Rattle.og_model.specs.Shown as Shows
use Rattle.og_model.specs.Shown.{Event}
use Rattle.og_model.specs.Units.{State, Outcome, Done, Out, Doing, gives, then_do, spend}
use Rattle.og_model.specs.Actions.{Setting, Ended, Next, in_scope, run}
use Rattle.og_model.specs.Configuration.{Active, At, Basic}
use Rattle.og_model.specs.Moving.{Arrival, In, transition, after, enter, at_root}
use Rattle.og_model.specs.Settling.{settle}
use Rattle.og_ir.specs.declared.FlatFn.{FlatFn}
use Rattle.og_ir.specs.declared.Instr.{Instr}
use Rattle.og_ir.specs.declared.Instr.TheVariants as instr
use Rattle.og_ir.specs.Arithmetic.{in_64_bits}
use Rattle.og_ir.specs.Cells.{Cells}
use Rattle.og_ir.specs.Steps.{Frame, Config, Running, Over, quiet, jumped, showing}
use Rattle.og_csubset.specs.Interface.{signal_sorts}
use Rattle.og_csubset.specs.FlatRun.{flat_event, flat_machine}
use Rattle.og_csubset.specs.Paced.{Pace, IsPace}
use Rattle.og_csubset.specs.Run.{Machine}
use Rattle.og_follow.specs.Carrying.{Code, Exits, only, IsRunning, Places, nowhere, place, either, Each, Among, Ways, Standing, showing_each, Moves, Passes, Begins, CarriesOut, no_places, behind_unit, one_then, Narrower, code_at, Always}
use Rattle.og_follow.proofs.Carrying.{step_passes, step_begins, ends_at_once, runs_out_at_once, begins_then, one_then_other, same_doing, by_fuel, as_wider, one_result, one_result_ends, same_ways}
use Rattle.og_follow.proofs.Calls.{same_way, then_nothing}
use Rattle.og_flatten.specs.Slots.{control_of}
use Rattle.og_flatten.specs.FlatCode.{code_of, transition_function, transition_code, first_entering, entering_place, end_place, steps_of, end_of, body_at, body_length, bodies_of, states_of, sets, region, action_at, step_at, kind_at, ending_at}
use Rattle.og_layout.specs.Layout.{Mark, Leaf, region_numbers, marked}
use Rattle.og_flatten.proofs.SingleSteps.{Holding, StandsAs, step_of, fetches, Leads, same_slots, sets_region}
use Rattle.og_flatten.specs.Units.{Cost, A_step, An_ending, An_entering}
use Rattle.og_flatten.proofs.Places.{HasAt}
use Rattle.og_flatten.proofs.Serving.{serving_steps, serves, ServesAt, served, state_serves}
use Rattle.og_flatten.proofs.Basic.{StepsAre, BodyIs, StateIs}
use Rattle.og_flatten.proofs.Meaning.{piece, run_output, run_next, transition_is, enter_one, settles, whole}

abbrev pub frame : ℕ → ℕ → Frame
frame f p = record { function = f; place = p }

abbrev pub machine_of : Model → Machine
machine_of M = flat_machine in_64_bits (code_of M) M

-- every event shows its signal
abbrev pub Emits : Model → Type 0
Emits M = (k : ℕ) → k < length M.signals → signal_sorts M k ≡ [] → (slots : List Cells) → flat_event M (code_of M) k slots ≡ Some (Shows.Output k [])

-- the code is at a place, and this is known of its slots
pub record Here (K : Holding) (f p : ℕ) (callers : List Frame) (s : State) (now : Config) : Type 0 where
  pub slots : List Cells
  pub is : now ≡ Running slots (frame f p) callers
  pub holds : K s slots

-- the code has returned to outside
pub record Left (K : Holding) (s : State) (now : Config) : Type 0 where
  pub slots : List Cells
  pub is : now ≡ Over slots
  pub holds : K s slots

-- ---- places

-- from one place of a function to another
abbrev pub from_to : ℕ → ℕ → ℕ → Places
from_to f a b g p = (g ≡ f) × (a ≤ p) × (p < b)

-- a body, of which each instruction begins a unit
abbrev pub body_ways : ℕ → ℕ → Ways
body_ways a b = record { head = nowhere; near = from_to 0 a b; tail = from_to 0 a b; least = 1 }

-- a transition, whose next state is entered at this place
abbrev pub whole_places : ℕ → ℕ → ℕ → Places
whole_places a b e = either (from_to 0 a b) (place 0 e)

abbrev pub whole_ways : ℕ → ℕ → ℕ → Ways
whole_ways a b e = record { head = nowhere; near = whole_places a b e; tail = whole_places a b e; least = 0 }

abbrev is_done : {A : Type 0} → Outcome A → Bool
is_done (Done a) = true
is_done _ = false

pub done≢out : {A : Type 0} (a : A) → Done a ≡ Out → ⊥
done≢out a e = false≢true (sym (ap is_done e))

module _ (M : Model) (pace : Pace) (is_pace : IsPace pace) where
  -- the code of a model
  abbrev pub coded : Code
  coded = code_at (machine_of M) (λ at. is_some (serves M at)) pace is_pace (code_of M)

  -- ---- single instructions

  below : {a b : ℕ} → a < b → a ≤ b
  below lt = omega (arith)

  moves : (K : Holding) (f p : ℕ) (callers : List Frame) (g : FlatFn) (i : Instr) (shown : List Event) (L : Holding) (to : List Cells → Config) (after : Standing) → slice_get (code_of M).functions f ≡ Some g → slice_get g.code p ≡ Some i → Leads M K (frame f p) callers i shown L to
      → ((s : State) (slots : List Cells) → L s slots → after s (to slots)) → (s : State) (now : Config) → Here K f p callers s now → Moves coded shown (after s) (place f p) now
  moves K f p callers g i shown L to after at is leads there s now here =
      let led = leads s here.slots here.holds in
      record {
        slots = here.slots;
        frame = frame f p;
        callers = callers;
        is = here.is;
        stands = record { function = g; at = at; within = below (slice_get_within g.code p i is) };
        among = (refl, refl);
        next = to led.slots;
        does = ap (step_of M) here.is ∙ fetches M here.slots (frame f p) callers g i at is ∙ led.does;
        there = there s led.slots led.holds;
      }

  -- at one place
  each_there : (f p : ℕ) (o : Option Cost) → serves M (frame f p) ≡ o → Each (λ at. is_some (serves M at)) (is_some o) (place f p)
  each_there f p o is at x =
      ap (λ g. is_some (serves M (frame g at.place))) x.0 ∙ ap (λ q. is_some (serves M (frame f q))) x.1 ∙ ap is_some is

  -- an instruction that begins no unit
  pub goes : (K : Holding) (f p : ℕ) (callers : List Frame) (L : Holding) (h q : ℕ) (others : List Frame) (g : FlatFn) (i : Instr) → serves M (frame f p) ≡ None → slice_get (code_of M).functions f ≡ Some g → slice_get g.code p ≡ Some i → Leads M K (frame f p) callers i [] L (λ slots. Running slots (frame h q) others) → Passes coded (Here K f p callers) [] (Here L h q others) (place f p)
  goes K f p callers L h q others g i none at is leads =
      step_passes coded (Here K f p callers) [] (Here L h q others) (place f p) (each_there f p None none)
      (moves K f p callers g i [] L (λ slots. Running slots (frame h q) others) (Here L h q others) at is leads (λ s slots holds. record { slots = slots; is = refl; holds = holds }))

  -- the last return
  pub returns : (K : Holding) (f p : ℕ) (g : FlatFn) → serves M (frame f p) ≡ None → slice_get (code_of M).functions f ≡ Some g → slice_get g.code p ≡ Some instr.Back → Passes coded (Here K f p []) [] (Left K) (place f p)
  returns K f p g none at is =
      step_passes coded (Here K f p []) [] (Left K) (place f p) (each_there f p None none)
      (moves K f p [] g instr.Back [] K Over (Left K) at is (same_slots M K (frame f p) [] instr.Back [] Over (λ slots. refl)) (λ s slots holds. record { slots = slots; is = refl; holds = holds }))

  -- an instruction that begins one
  pub begins : (K : Holding) (f p : ℕ) (callers : List Frame) (L : Holding) (h q : ℕ) (others : List Frame) (g : FlatFn) (i : Instr) (shown : List Event) (cost : Cost) → serves M (frame f p) ≡ Some cost → slice_get (code_of M).functions f ≡ Some g → slice_get g.code p ≡ Some i → Leads M K (frame f p) callers i shown L (λ slots. Running slots (frame h q) others) → Begins coded (Here K f p callers) shown (Here L h q others) (place f p)
  begins K f p callers L h q others g i shown cost serving at is leads =
      step_begins coded (Here K f p callers) shown (Here L h q others) (place f p) (each_there f p (Some cost) serving)
      (moves K f p callers g i shown L (λ slots. Running slots (frame h q) others) (Here L h q others) at is leads (λ s slots holds. record { slots = slots; is = refl; holds = holds }))

  runs : (K : Holding) (f p : ℕ) (callers : List Frame) (s : State) (now : Config) → Here K f p callers s now → IsRunning now
  runs K f p callers s now here = record { slots = here.slots; frame = frame f p; callers = callers; is = here.is }

  -- ---- a body

  last_place : (p : ℕ) → Narrower (behind_unit (place 0 p) no_places) (body_ways p (p + (0 + 1)))
  last_place p = record { head = λ f q x. x; near = near; tail = tail; least = omega (arith) }
    where
      here : (f q : ℕ) → place 0 p f q → from_to 0 p (p + (0 + 1)) f q
      here f q x = let e = x.1 in (x.0, omega (arith, e), omega (arith, e))

      near : Among (behind_unit (place 0 p) no_places).near (from_to 0 p (p + (0 + 1)))
      near f q (inl x) = here f q x
      near f q (inr y) = absurd y

      tail : Among (behind_unit (place 0 p) no_places).tail (from_to 0 p (p + (0 + 1)))
      tail f q (inl x) = here f q x
      tail f q (inr (inl y)) = absurd y
      tail f q (inr (inr y)) = absurd y

  one_place_more : (p n : ℕ) → Narrower (behind_unit (place 0 p) (body_ways (p + 1) (p + 1 + (n + 1)))) (body_ways p (p + (suc n + 1)))
  one_place_more p n = record { head = λ f q x. x; near = near; tail = tail; least = omega (arith) }
    where
      here : (f q : ℕ) → place 0 p f q → from_to 0 p (p + (suc n + 1)) f q
      here f q x = let e = x.1 in (x.0, omega (arith, e), omega (arith, e))

      there : (f q : ℕ) → from_to 0 (p + 1) (p + 1 + (n + 1)) f q → from_to 0 p (p + (suc n + 1)) f q
      there f q x = let a = x.1 in let b = x.2 in (x.0, omega (arith, a), omega (arith, b))

      near : Among (behind_unit (place 0 p) (body_ways (p + 1) (p + 1 + (n + 1)))).near (from_to 0 p (p + (suc n + 1)))
      near f q (inl x) = here f q x
      near f q (inr y) = absurd y

      tail : Among (behind_unit (place 0 p) (body_ways (p + 1) (p + 1 + (n + 1)))).tail (from_to 0 p (p + (suc n + 1)))
      tail f q (inl x) = here f q x
      tail f q (inr (inl y)) = absurd y
      tail f q (inr (inr y)) = there f q y

  -- from its first instruction to where the next state is entered
  pub body : Emits M → (b : Setting) (end : Option Ending) (e : Ending) (k : ℕ) → end ≡ Some e → e.kind ≡ Ends.Next k None → (K : Holding) (callers : List Frame) (fuel : ℕ) (xs : List Step) (p : ℕ) (number i : ℕ) → StepsAre M xs
      → HasAt (transition_code (control_of M) M) p (map (step_at (end_place M)) xs ++ instr.Goto (ending_at (first_entering M) (end_place M) end) ∷ [])
      → ServesAt M p (serving_steps number i xs)
      → CarriesOut coded fuel (run fuel M b (piece xs end)) (Here K 0 p callers) (only (Done (Next k None)) (Here K 0 (entering_place M k) callers)) (body_ways p (p + (length xs + 1)))
  body emits b end e k is next K callers zero xs p number i are code serving =
      runs_out_at_once coded (Here K 0 p callers) (only (Done (Next k None)) (Here K 0 (entering_place M k) callers)) (body_ways p (p + (length xs + 1))) (runs K 0 p callers)
  body emits b end e k is next K callers (suc fuel) [] p number i are code serving =
      let before = Here K 0 p callers in
      let there = Here K 0 (entering_place M k) callers in
      let to = ap (λ o. jumped (frame 0 p) (ending_at (first_entering M) (end_place M) o)) is ∙ ap (λ kind. jumped (frame 0 p) (kind_at (first_entering M) (end_place M) kind)) next in
      as_wider coded (suc fuel) (suc fuel) (run (suc fuel) M b (piece [] end)) before before (only (Done (Next k None)) there) (only (Done (Next k None)) there) (behind_unit (place 0 p) no_places) (body_ways p (p + (0 + 1))) (omega (arith)) (λ s now at. at) (λ o s now at. at) (last_place p)
      (same_doing coded (suc fuel) (spend (showing_each [] (gives (Next k None)))) (run (suc fuel) M b (piece [] end)) before (only (Done (Next k None)) there) (behind_unit (place 0 p) no_places) (run_next M b end e k fuel is next)
      (begins_then coded fuel (gives (Next k None)) before [] there (only (Done (Next k None)) there) (place 0 p) no_places
      (begins K 0 p callers K 0 (entering_place M k) callers (transition_function (control_of M) M) (instr.Goto (ending_at (first_entering M) (end_place M) end)) [] (An_ending number) (served M p (Some (An_ending number)) serving.0) refl code.0 (same_slots M K (frame 0 p) callers (instr.Goto (ending_at (first_entering M) (end_place M) end)) [] (λ slots. Running slots (frame 0 (entering_place M k)) callers) (λ slots. ap (λ fr. quiet (Running slots fr callers)) to)))
      (ends_at_once coded fuel (Done (Next k None)) there (only (Done (Next k None)) there) no_places (done≢out (Next k None)) (omega (arith)) (λ s now at. (refl, at)))
      (λ f q y. absurd y)))
  body emits b end e k is next K callers (suc fuel) (step ∷ xs) p number i are code serving =
      let before = Here K 0 p callers in
      let exits : Exits Ended = only (Done (Next k None)) (Here K 0 (entering_place M k) callers) in
      let step_is = are.0 in
      let event = Shows.Output step_is.signal [] in
      let rest = run fuel M b (piece xs end) in
      as_wider coded (suc fuel) (suc fuel) (run (suc fuel) M b (piece (step ∷ xs) end)) before before exits exits (behind_unit (place 0 p) (body_ways (p + 1) (p + 1 + (length xs + 1)))) (body_ways p (p + (suc (length xs) + 1))) (omega (arith)) (λ s now at. at) (λ o s now at. at) (one_place_more p (length xs))
      (same_doing coded (suc fuel) (spend (showing_each (event ∷ []) rest)) (run (suc fuel) M b (piece (step ∷ xs) end)) before exits (behind_unit (place 0 p) (body_ways (p + 1) (p + 1 + (length xs + 1)))) (run_output M b step xs end fuel step_is)
      (begins_then coded fuel rest before (event ∷ []) (Here K 0 (p + 1) callers) exits (place 0 p) (body_ways (p + 1) (p + 1 + (length xs + 1)))
      (begins K 0 p callers K 0 (p + 1) callers (transition_function (control_of M) M) (instr.Emit step_is.signal) (event ∷ []) (A_step number i) (served M p (Some (A_step number i)) serving.0) refl (code.0 ∙ ap (λ a. Some (action_at (end_place M) a)) step_is.is) (same_slots M K (frame 0 p) callers (instr.Emit step_is.signal) (event ∷ []) (λ slots. Running slots (frame 0 (p + 1)) callers) (λ slots. ap (λ o. showing o slots (frame 0 p) callers) (emits step_is.signal step_is.there step_is.silent slots))))
      (body emits b end e k is next K callers fuel xs (p + 1) number (i + 1) are.1 code.1 serving.1)
      (λ f q y. absurd y)))

  -- ---- entering

  -- the next state is entered by an instruction of its own
  pub enters : (mark : Mark) (callers : List Frame) (k : ℕ) (d : StateDef) → slice_get (states_of M) k ≡ Some d → StateIs M d → slice_set (region_numbers M mark) 0 (Leaf k) ≡ region_numbers M (marked (At k Basic)) → HasAt (transition_code (control_of M) M) (entering_place M k) (sets region (pos k) ∷ instr.Back ∷ [])
      → Always coded (enter M M.root k None) (Here (StandsAs M mark) 0 (entering_place M k) callers) (only (Done (In (At k Basic))) (Here (StandsAs M (marked (At k Basic))) 0 (entering_place M k + 1) callers)) (behind_unit (place 0 (entering_place M k)) no_places)
  enters mark callers k d at is same code fuel =
      let e = entering_place M k in
      let there = Here (StandsAs M (marked (At k Basic))) 0 (e + 1) callers in
      let exits : Exits Arrival = only (Done (In (At k Basic))) there in
      let unit = behind_unit (place 0 e) no_places in
      as_wider coded (suc fuel) fuel (enter M M.root k None) (Here (StandsAs M mark) 0 e callers) (Here (StandsAs M mark) 0 e callers) exits exits unit unit (omega (arith)) (λ s now h. h) (λ o s now h. h) (same_ways unit)
      (same_doing coded (suc fuel) (spend (showing_each [] (gives (In (At k Basic))))) (enter M M.root k None) (Here (StandsAs M mark) 0 e callers) exits unit (enter_one M k d at is)
      (begins_then coded fuel (gives (In (At k Basic))) (Here (StandsAs M mark) 0 e callers) [] there exits (place 0 e) no_places
      (begins (StandsAs M mark) 0 e callers (StandsAs M (marked (At k Basic))) 0 (e + 1) callers (transition_function (control_of M) M) (sets region (pos k)) [] (An_entering k) (served M e (Some (An_entering k)) (state_serves M k d at).0) refl code.0 (sets_region M mark (marked (At k Basic)) (Leaf k) (pos k) (frame 0 e) callers same refl))
      (ends_at_once coded fuel (Done (In (At k Basic))) there exits no_places (done≢out (In (At k Basic))) (omega (arith)) (λ s now h. (refl, h)))
      (λ f q y. absurd y)))

  -- ---- a whole transition

  both_narrower : (a b e : ℕ) → Narrower (one_then (body_ways a b) (behind_unit (place 0 e) no_places)) (whole_ways a b e)
  both_narrower a b e = record { head = head; near = near; tail = tail; least = omega (arith) }
    where
      head : Among (one_then (body_ways a b) (behind_unit (place 0 e) no_places)).head nowhere
      head f p (inl x) = x
      head f p (inr y) = y.1

      near : Among (one_then (body_ways a b) (behind_unit (place 0 e) no_places)).near (whole_places a b e)
      near f p (inl x) = inl x
      near f p (inr (inl y)) = absurd y.1
      near f p (inr (inr (few, inl z))) = inr z
      near f p (inr (inr (few, inr z))) = absurd z

      tail : Among (one_then (body_ways a b) (behind_unit (place 0 e) no_places)).tail (whole_places a b e)
      tail f p (inl x) = inl x
      tail f p (inr (inl y)) = absurd y
      tail f p (inr (inr (inl z))) = inr z
      tail f p (inr (inr (inr (inl z)))) = absurd z
      tail f p (inr (inr (inr (inr z)))) = absurd z

  -- from the body to where the next state was entered
  pub carries_whole : Emits M → (mark : Mark) (callers : List Frame) (p body_number : ℕ) (b : Body) (origin : Option ℕ) → slice_get (bodies_of M) body_number ≡ Some b → (is : BodyIs M b) → (d : StateDef) → slice_get (states_of M) is.state ≡ Some d → StateIs M d → slice_set (region_numbers M mark) 0 (Leaf is.state) ≡ region_numbers M (marked (At is.state Basic))
      → HasAt (transition_code (control_of M) M) p (body_at (first_entering M) (end_place M) b) → ServesAt M p (serving_steps body_number 0 (steps_of b)) → HasAt (transition_code (control_of M) M) (entering_place M is.state) (sets region (pos is.state) ∷ instr.Back ∷ [])
      → Always coded (whole M (Some body_number) origin) (Here (StandsAs M mark) 0 p callers) (only (Done (At is.state Basic)) (Here (StandsAs M (marked (At is.state Basic))) 0 (entering_place M is.state + 1) callers)) (whole_ways p (p + body_length b) (entering_place M is.state))
  carries_whole emits mark callers p body_number b origin at is d at_state state_is same code serving entering fuel =
      let k = is.state in
      let e = entering_place M k in
      let before = Here (StandsAs M mark) 0 p callers in
      let there = Here (StandsAs M (marked (At k Basic))) 0 (e + 1) callers in
      let ways = whole_ways p (p + body_length b) e in
      let run_all : Doing Ended = transition M M.root (Some body_number) in
      let arrives : Doing Arrival = then_do run_all (after (enter M) M.root origin) in
      let rests : Doing Active = then_do arrives at_root in
      let one : CarriesOut coded fuel run_all before (only (Done (Next k None)) (Here (StandsAs M mark) 0 e callers)) (body_ways p (p + body_length b)) =
      same_doing coded fuel (λ n s. run n M (in_scope (bodies_of M)) (piece (steps_of b) (end_of b)) n s) run_all before (only (Done (Next k None)) (Here (StandsAs M mark) 0 e callers)) (body_ways p (p + body_length b)) (λ n s. transition_is M body_number b n s at)
      (by_fuel coded (λ units. run units M (in_scope (bodies_of M)) (piece (steps_of b) (end_of b))) before (only (Done (Next k None)) (Here (StandsAs M mark) 0 e callers)) (body_ways p (p + body_length b))
      (λ units. body emits (in_scope (bodies_of M)) (end_of b) is.ending k is.ends is.next (StandsAs M mark) callers units (steps_of b) p body_number 0 is.steps code serving) fuel) in
      let two : CarriesOut coded fuel arrives before (only (Done (In (At k Basic))) there) ways =
      as_wider coded fuel fuel arrives before before (only (Done (In (At k Basic))) there) (only (Done (In (At k Basic))) there) (one_then (body_ways p (p + body_length b)) (behind_unit (place 0 e) no_places)) ways (omega (arith)) (λ s now h. h) (λ o s now h. h) (both_narrower p (p + body_length b) e)
      (one_then_other coded fuel run_all (after (enter M) M.root origin) before (only (Done (Next k None)) (Here (StandsAs M mark) 0 e callers)) (only (Done (In (At k Basic))) there) (body_ways p (p + body_length b)) (behind_unit (place 0 e) no_places) one
      (one_result coded fuel (after (enter M) M.root origin) (Next k None) (Here (StandsAs M mark) 0 e callers) (only (Done (In (At k Basic))) there) (behind_unit (place 0 e) no_places)
      (same_doing coded fuel (enter M M.root k None) (after (enter M) M.root origin (Next k None)) (Here (StandsAs M mark) 0 e callers) (only (Done (In (At k Basic))) there) (behind_unit (place 0 e) no_places) (λ n s. refl) (enters mark callers k d at_state state_is same entering fuel)))
      (one_result_ends (Next k None) (Here (StandsAs M mark) 0 e callers) (only (Done (In (At k Basic))) there))
      (record { tail = λ f q y z. y; head = λ few f q y z. y; near = λ few f q y z. y; both = λ none f q y z. z })) in
      let three : CarriesOut coded fuel rests before (only (Done (At k Basic)) there) ways =
      as_wider coded fuel fuel rests before before (only (Done (At k Basic)) there) (only (Done (At k Basic)) there) (one_then ways no_places) ways (omega (arith)) (λ s now h. h) (λ o s now h. h) (same_way ways)
      (one_then_other coded fuel arrives at_root before (only (Done (In (At k Basic))) there) (only (Done (At k Basic)) there) ways no_places two
      (one_result coded fuel at_root (In (At k Basic)) there (only (Done (At k Basic)) there) no_places
      (ends_at_once coded fuel (Done (At k Basic)) there (only (Done (At k Basic)) there) no_places (done≢out (At k Basic)) (omega (arith)) (λ s now h. (refl, h))))
      (one_result_ends (In (At k Basic)) there (only (Done (At k Basic)) there)) (then_nothing ways)) in
      as_wider coded fuel fuel (whole M (Some body_number) origin) before before (only (Done (At k Basic)) there) (only (Done (At k Basic)) there) (one_then ways no_places) ways (omega (arith)) (λ s now h. h) (λ o s now h. h) (same_way ways)
      (one_then_other coded fuel rests (settle M) before (only (Done (At k Basic)) there) (only (Done (At k Basic)) there) ways no_places three
      (one_result coded fuel (settle M) (At k Basic) there (only (Done (At k Basic)) there) no_places
      (same_doing coded fuel (gives (At k Basic)) (settle M (At k Basic)) there (only (Done (At k Basic)) there) no_places (λ n s. settles M k d n s at_state state_is)
      (ends_at_once coded fuel (Done (At k Basic)) there (only (Done (At k Basic)) there) no_places (done≢out (At k Basic)) (omega (arith)) (λ s now h. (refl, h)))))
      (one_result_ends (At k Basic) there (only (Done (At k Basic)) there)) (then_nothing ways))
