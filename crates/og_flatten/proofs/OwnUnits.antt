-- The runs of the code of a model are cut into the units of the model.
use Rattle.std.proofs.Common.{◌≡◌, ℕ, ◌+◌, ℤ, pos, negsuc, true, List, [], ◌∷◌, ◌++◌, map, slice_get, Option, Some, None, refl, sym, ap, subst, ◌∙◌, arith, IsTrue}
use Rattle.std.specs.Option.{is_some, option_map}
use Rattle.std.proofs.lemmas.Bool.{false≢true}
use Rattle.og_types.specs.declared.Value.{Value}
use Rattle.og_model.specs.declared.Model.{Model}
use Rattle.og_model.specs.declared.Body.{Body}
use Rattle.og_model.specs.declared.Ending.{Ending}
use Rattle.og_model.specs.declared.EndKind.TheVariants as Ends
use Rattle.og_model.specs.declared.Handler.{Handler}
use Rattle.og_model.specs.declared.StateDef.{StateDef}
use Rattle.og_model.specs.declared.Step.{Step}
use Rattle.og_model.specs.Shown as Shows
use Rattle.og_model.specs.Shown.{Event, Stimulus}
use Rattle.og_model.specs.Units.{State, Done, Doing}
use Rattle.og_model.specs.Configuration.{Active, At, Basic}
use Rattle.og_model.specs.Choice.{Found}
use Rattle.og_model.specs.Moving.{start_named}
use Rattle.og_model.specs.Run.{first_state, start, step}
use Rattle.og_ir.specs.declared.FlatFn.{FlatFn}
use Rattle.og_ir.specs.declared.Instr.{Instr}
use Rattle.og_ir.specs.declared.Instr.TheVariants as instr
use Rattle.og_ir.specs.Cells.{Cells}
use Rattle.og_ir.specs.FlatSteps.{first_slots, case_of}
use Rattle.og_ir.specs.Steps.{Frame, Config, Running, Over, Ran, quiet, jumped, showing, joined, and_then, exec}
use Rattle.og_ir.proofs.Runs.{exec_splits, exec_stays}
use Rattle.og_csubset.specs.Agreement.{is_stimulus}
use Rattle.og_csubset.specs.Paced.{Pace, IsPace}
use Rattle.og_csubset.specs.Run.{entered}
use Rattle.og_follow.specs.Cuts.{places_of, IsCut}
use Rattle.og_follow.proofs.Answering.{carried_is_cut, carried_rests}
use Rattle.og_flatten.specs.Slots.{control_of}
use Rattle.og_flatten.specs.FlatCode.{code_of, transition_function, transition_code, start_function, signal_function, signal_end, first_entering, entering_place, end_place, states_of, bodies_of, steps_of, end_of, body_cases, choice_code, choice_cases, handler_in, start_body, sets, region, read, is_stopped, action_at, step_at, kind_at, ending_at}
use Rattle.og_flatten.specs.Units.{Cost, A_step, An_ending, An_entering, costs_of_steps, costs_of_ending, costs_of_entering, costs_of_body, costs_of, with_unit, body_for, Beginning, IsBeginning, The_start, A_stimulus, HasOwnUnits}
use Rattle.og_layout.specs.Layout.{Mark, Between, Inactive, Leaf, NoLeaf, marked}
use Rattle.og_flatten.proofs.SingleSteps.{Holding, StandsAs, Chose, step_of, fetches, Leads, same_slots, sets_region, sets_chosen, table_of_chosen, table_of_region, not_stopped}
use Rattle.og_flatten.proofs.Standings.{IsBasic, leaf_is, HasOne, one_at, one_inactive, entered_number, left_number, first_stands, in_state}
use Rattle.og_flatten.proofs.Places.{HasAt, not_handled}
use Rattle.og_flatten.proofs.Serving.{serving_steps, serves, ServesAt, served, serves_nothing, body_serves, state_serves}
use Rattle.og_flatten.proofs.Basic.{StepsAre, body_is, StateIs, state_is, start_is}
use Rattle.og_flatten.proofs.Meaning.{start_body_is, handler_is, found_of}
use Rattle.og_flatten.proofs.Transitions.{frame, machine_of}
use Rattle.og_flatten.proofs.Interfaces.{start_placed, signal_at, SignalAt, emits, there}
use Rattle.og_flatten.proofs.Simulation.{none_more, leads_to, body_placed, state_placed, Rests, Halts, Holds, WhereCarried, starts_with, takes_with, IsSent, sent_by, handler_there, choice_placed, end_placed, given_slots, given_stands, signal_begins, no_timer}
use Rattle.og_flatten.proofs.Paths.{is_a_step, Starts, Runs, over_runs, step_runs, own_units}

-- ---- where a run ends, it ends once

abbrev slots_over : Config → List Cells
slots_over (Over slots) = slots
slots_over _ = []

one_end : (M : Model) (j k : ℕ) (config : Config) (events shown : List Event) (x y : List Cells) → exec (step_of M) j config ≡ record { events = events; config = Over x } → exec (step_of M) k config ≡ record { events = shown; config = Over y } → x ≡ y
one_end M j k config events shown x y one two =
    ap (λ (ran : Ran Event). slots_over ran.config) (sym (goes_on j k (j + k) refl events x one) ∙ goes_on k j (j + k) (swap j k) shown y two)
  where
    swap : (a b : ℕ) → a + b ≡ b + a
    swap a b = omega (arith)

    goes_on : (m n all : ℕ) → all ≡ m + n → (es : List Event) (z : List Cells) → exec (step_of M) m config ≡ record { events = es; config = Over z } → exec (step_of M) all config ≡ joined es (quiet (Over z))
    goes_on m n all e es z goes =
        exec_splits (step_of M) m n all e config
        ∙ ap (λ ran. and_then ran (exec (step_of M) n)) goes
        ∙ ap (joined es) (exec_stays (step_of M) (Over z) refl n)

-- ---- the units of a body

module _ (M : Model) (is : IsBasic M) where
  first_begins : (p number i : ℕ) (xs : List Step) → ServesAt M p (serving_steps number i xs) → is_some (serves M (frame 0 p)) ≡ true
  first_begins p number i [] serving = ap is_some (served M p (Some (An_ending number)) serving.0)
  first_begins p number i (x ∷ xs) serving = ap is_some (served M p (Some (A_step number i)) serving.0)

  -- from this place on these units begin, where this is known of the slots
  abbrev From : Holding → ℕ → ℕ → List Frame → List Cost → Type 0
  From K f p callers costs = (s : State) (slots : List Cells) → K s slots → Runs M (Running slots (frame f p) callers) costs

  -- one instruction, which begins this unit or none
  onward : (K : Holding) (f p : ℕ) (callers : List Frame) (g : FlatFn) (i : Instr) (o : Option Cost) (shown : List Event) (L : Holding) (to : List Cells → Config) (costs : List Cost) → serves M (frame f p) ≡ o → slice_get (code_of M).functions f ≡ Some g → slice_get g.code p ≡ Some i → Leads M K (frame f p) callers i shown L to
      → (is_a_step o ≡ true → (slots : List Cells) → Starts M (to slots)) → ((s : State) (slots : List Cells) → L s slots → Runs M (to slots) costs) → From K f p callers (with_unit o costs)
  onward K f p callers g i o shown L to costs none at is_there leads starts rest s slots known =
      let led = leads s slots known in
      step_runs M slots (frame f p) callers o shown (to led.slots) costs none (fetches M slots (frame f p) callers g i at is_there ∙ led.does) (λ e. starts e led.slots) (rest s led.slots led.holds)

  -- one without a unit
  passes : (K : Holding) (f p : ℕ) (callers : List Frame) (g : FlatFn) (i : Instr) (L : Holding) (to : List Cells → Config) (costs : List Cost) → serves M (frame f p) ≡ None → slice_get (code_of M).functions f ≡ Some g → slice_get g.code p ≡ Some i → Leads M K (frame f p) callers i [] L to
      → ((s : State) (slots : List Cells) → L s slots → Runs M (to slots) costs) → From K f p callers costs
  passes K f p callers g i L to costs none at is_there leads rest = onward K f p callers g i None [] L to costs none at is_there leads (λ e. absurd (false≢true e)) rest

  body_runs : (end : Option Ending) (e : Ending) (k : ℕ) → end ≡ Some e → e.kind ≡ Ends.Next k None → (K : Holding) (callers : List Frame) (more : List Cost) → From K 0 (entering_place M k) callers more
      → (xs : List Step) (p number i : ℕ) → StepsAre M xs → HasAt (transition_code (control_of M) M) p (map (step_at (end_place M)) xs ++ instr.Goto (ending_at (first_entering M) (end_place M) end) ∷ []) → ServesAt M p (serving_steps number i xs)
      → From K 0 p callers (costs_of_steps number i xs ++ An_ending number ∷ more)
  body_runs end e k is_end next K callers more rest [] p number i are code serving =
      let to = ap (λ o. jumped (frame 0 p) (ending_at (first_entering M) (end_place M) o)) is_end ∙ ap (λ kind. jumped (frame 0 p) (kind_at (first_entering M) (end_place M) kind)) next in
      let goes = instr.Goto (ending_at (first_entering M) (end_place M) end) in
      let there : List Cells → Config = λ slots. Running slots (frame 0 (entering_place M k)) callers in
      onward K 0 p callers (transition_function (control_of M) M) goes (Some (An_ending number)) [] K there more (served M p (Some (An_ending number)) serving.0) refl code.0
      (same_slots M K (frame 0 p) callers goes [] there (λ slots. ap (λ fr. quiet (Running slots fr callers)) to))
      (λ e. absurd (false≢true e)) rest
  body_runs end e k is_end next K callers more rest (step ∷ xs) p number i are code serving =
      let step_is = are.0 in
      let shown = Shows.Output step_is.signal [] ∷ [] in
      let there : List Cells → Config = λ slots. Running slots (frame 0 (p + 1)) callers in
      onward K 0 p callers (transition_function (control_of M) M) (instr.Emit step_is.signal) (Some (A_step number i)) shown K there (costs_of_steps number (i + 1) xs ++ An_ending number ∷ more) (served M p (Some (A_step number i)) serving.0) refl (code.0 ∙ ap (λ a. Some (action_at (end_place M) a)) step_is.is)
      (same_slots M K (frame 0 p) callers (instr.Emit step_is.signal) shown there (λ slots. ap (λ o. showing o slots (frame 0 p) callers) (emits M is.fair step_is.signal step_is.there step_is.silent slots)))
      (λ e slots. first_begins (p + 1) number (i + 1) xs serving.1)
      (body_runs end e k is_end next K callers more rest xs (p + 1) number (i + 1) are.1 code.1 serving.1)

  -- the state is entered, and both functions return
  entering_runs : (mark : Mark) → HasOne M mark → (k : ℕ) (d : StateDef) → slice_get (states_of M) k ≡ Some d → (f q : ℕ) (g : FlatFn) → slice_get (code_of M).functions f ≡ Some g → slice_get g.code q ≡ Some instr.Back → (f ≡ 0 → ⊥)
      → From (StandsAs M mark) 0 (entering_place M k) (frame f q ∷ []) (An_entering k ∷ [])
  entering_runs mark one k d at f q g at_f back other =
      let e = entering_place M k in
      let callers = frame f q ∷ [] in
      let serving = state_serves M k d at in
      let code = state_placed M k d at in
      let L = StandsAs M (marked (At k Basic)) in
      let entered_there : List Cells → Config = λ slots. Running slots (frame 0 (e + 1)) callers in
      let returned_there : List Cells → Config = λ slots. Running slots (frame f q) [] in
      onward (StandsAs M mark) 0 e callers (transition_function (control_of M) M) (sets region (pos k)) (Some (An_entering k)) [] L entered_there [] (served M e (Some (An_entering k)) serving.0) refl code.0
      (sets_region M mark (marked (At k Basic)) (Leaf k) (pos k) (frame 0 e) callers (entered_number M is mark one k d at) refl)
      (λ y. absurd (false≢true y))
      (passes L 0 (e + 1) callers (transition_function (control_of M) M) instr.Back L returned_there [] (served M (e + 1) None serving.1.0) refl code.1.0
      (same_slots M L (frame 0 (e + 1)) callers instr.Back [] returned_there (λ slots. refl))
      (passes L f q [] g instr.Back L Over [] (serves_nothing M f q other) at_f back (same_slots M L (frame f q) [] instr.Back [] Over (λ slots. refl))
      (λ s slots known. over_runs M slots)))

  -- from the choice of a body on
  chosen_runs : (mark : Mark) → HasOne M mark → (f p : ℕ) (g : FlatFn) (body : ℕ) → slice_get (code_of M).functions f ≡ Some g → HasAt g.code p (choice_code (control_of M) body) → (f ≡ 0 → ⊥) → (b : Body) → slice_get (bodies_of M) body ≡ Some b
      → From (StandsAs M mark) f p [] (costs_of M (Some body))
  chosen_runs mark one f p g body at code other b b_at =
      let b_is = body_is M is.formed is.basic body b b_at in
      let placed = body_placed M body b b_at in
      let k = b_is.state in
      let entered_state = there (states_of M) k b_is.there in
      let K = StandsAs M mark in
      let L = Chose M mark body in
      let back = frame f (p + 1 + 1) ∷ [] in
      let cases = body_cases 0 1 (bodies_of M) in
      let table = instr.Table (read (control_of M).chosen) cases (end_place M) in
      let called_there : List Cells → Config = λ slots. Running slots (frame 0 0) back in
      let costs = costs_of_steps body 0 (steps_of b) ++ An_ending body ∷ An_entering k ∷ [] in
      let are : costs_of M (Some body) ≡ costs =
      ap (costs_of_body body) b_at
      ∙ ap (λ o. costs_of_steps body 0 (steps_of b) ++ costs_of_ending body o) b_is.ends
      ∙ ap (λ kind. costs_of_steps body 0 (steps_of b) ++ An_ending body ∷ costs_of_entering kind) b_is.next in
      subst (From K f p []) (sym are)
      (passes K f p [] g (sets (control_of M).chosen (pos body)) L (λ slots. Running slots (frame f (p + 1)) []) costs (serves_nothing M f p other) at code.0 (sets_chosen M mark body (frame f p) [])
      (passes L f (p + 1) [] g (instr.Call 0) L called_there costs (serves_nothing M f (p + 1) other) at code.1.0 (same_slots M L (frame f (p + 1)) [] (instr.Call 0) [] called_there (λ slots. refl))
      (passes L 0 0 back (transition_function (control_of M) M) table K (λ slots. Running slots (frame 0 placed.place) back) costs refl refl refl
      (leads_to M L (frame 0 0) back table K (case_of (pos body) cases (end_place M)) placed.place 0 (placed.leads (end_place M)) (table_of_chosen M mark body (frame 0 0) back cases (end_place M)))
      (body_runs (end_of b) b_is.ending k b_is.ends b_is.next K back (An_entering k ∷ [])
      (entering_runs mark one k entered_state.0 entered_state.1 f (p + 1 + 1) g at code.1.1.0 other)
      (steps_of b) placed.place body 0 b_is.steps placed.code_there (body_serves M body b placed.place b_at (placed.leads 0))))))

  -- ---- the start

  start_runs : Runs M ((machine_of M).begin None (first_slots M.types (code_of M))) (costs_of M (start_named M.root None))
  start_runs =
      let st = start_is M is.formed is.basic in
      let first = first_slots M.types (code_of M) in
      let b = there (bodies_of M) st.start.body st.there in
      subst (λ c. Runs M c (costs_of M (start_named M.root None))) (sym (ap (λ o. entered o first) (start_placed M is.fair)))
      (subst (λ o. Runs M (Running first (frame 1 0) []) (costs_of M o)) (sym (start_body_is M st))
      (passes (StandsAs M Between) 1 0 [] (start_function (control_of M) M) (sets region (negsuc 0)) (StandsAs M Inactive) (λ slots. Running slots (frame 1 1) []) (costs_of M (Some st.start.body)) refl refl refl
      (sets_region M Between Inactive NoLeaf (negsuc 0) (frame 1 0) [] (left_number M is) (0, refl))
      (chosen_runs Inactive (one_inactive M is) 1 1 (start_function (control_of M) M) st.start.body refl (ap (λ starts. Some (sets (control_of M).chosen (pos (start_body starts)))) st.is, (refl, (refl, tt))) (λ e. omega (arith, e)) b.0 b.1)
      (first_state M) first (first_stands M is)))

  -- ---- a signal

  abbrev body_of : Option Handler → Option ℕ
  body_of o = option_map (λ (h : Handler). h.body) o

  found_body : (o : Option Handler) → option_map (λ (x : Found). x.handler.body) (found_of o) ≡ body_of o
  found_body None = refl
  found_body (Some h) = refl

  signal_runs : (k : ℕ) (vs : List Value) (sent : IsSent M k vs) (st : ℕ) (d : StateDef) → slice_get (states_of M) st ≡ Some d → StateIs M d → (o : Option Handler) → handler_in k d.handlers ≡ o
      → From (StandsAs M (marked (At st Basic))) (signal_at M is.fair k sent.signal sent.at sent.incoming).function 0 [] (costs_of M (body_of o))
  signal_runs k vs sent st d at st_is o has = by_handler o has
    where
      placed : SignalAt M k sent.signal
      placed = signal_at M is.fair k sent.signal sent.at sent.incoming

      to_place : (to : ℕ) (costs : List Cost) → case_of (pos st) (choice_cases k 0 2 (states_of M)) (signal_end (control_of M) M k) ≡ to → From (StandsAs M (marked (At st Basic))) placed.function to [] costs → From (StandsAs M (marked (At st Basic))) placed.function 0 [] costs
      to_place to costs leads rest =
          let f = placed.function in
          let K = StandsAs M (marked (At st Basic)) in
          let g = signal_function (control_of M) M k sent.signal in
          let cases = choice_cases k 0 2 (states_of M) in
          let end = signal_end (control_of M) M k in
          passes K f 0 [] g (instr.Branch (is_stopped (control_of M)) end) K (λ slots. Running slots (frame f 1) []) costs (serves_nothing M f 0 placed.other) placed.at refl (not_stopped M (marked (At st Basic)) (frame f 0) [] end)
          (passes K f 1 [] g (instr.Table (read region) cases end) K (λ slots. Running slots (frame f to) []) costs (serves_nothing M f 1 placed.other) placed.at refl
          (leads_to M K (frame f 1) [] (instr.Table (read region) cases end) K (case_of (pos st) cases end) to f leads (table_of_region M (marked (At st Basic)) st (frame f 1) [] cases end (leaf_is M is st d at)))
          rest)

      by_handler : (o : Option Handler) → handler_in k d.handlers ≡ o → From (StandsAs M (marked (At st Basic))) placed.function 0 [] (costs_of M (body_of o))
      by_handler None none =
          let last = signal_end (control_of M) M k in
          let K = StandsAs M (marked (At st Basic)) in
          to_place last [] (ap (λ m. case_of (pos m) (choice_cases k 0 2 (states_of M)) last) (sym (none_more st)) ∙ not_handled k 0 st 2 (states_of M) d last at none)
          (passes K placed.function last [] (signal_function (control_of M) M k sent.signal) instr.Back K Over [] (serves_nothing M placed.function last placed.other) placed.at (end_placed M k)
          (same_slots M K (frame placed.function last) [] instr.Back [] Over (λ slots. refl))
          (λ s slots known. over_runs M slots))
      by_handler (Some h) found =
          let choice = choice_placed M k st d h at found in
          let facts = handler_there M d.handlers k h st_is.inputs st_is.bodies found in
          let b = there (bodies_of M) h.body facts.1 in
          to_place choice.place (costs_of M (Some h.body)) (choice.leads (signal_end (control_of M) M k))
          (chosen_runs (marked (At st Basic)) (one_at M is st d at) placed.function choice.place (signal_function (control_of M) M k sent.signal) h.body placed.at choice.code_there placed.other b.0 b.1)

  stimulus_runs : (a : Active) (s : State) (slots : List Cells) → Rests M a s slots → (x : Stimulus) → IsTrue (is_stimulus M x) → Runs M ((machine_of M).begin (Some x) slots) (costs_of M (body_for M a s x))
  stimulus_runs a s slots rests (Shows.Signal k vs) given =
      let sent = sent_by M k vs (slice_get M.signals k) refl given in
      let here = in_state M is a rests.active in
      let st_is = state_is M is.formed is.basic here.state here.def here.there in
      rw here.is
      (subst (λ o. Runs M ((machine_of M).begin (Some (Shows.Signal k vs)) slots) (costs_of M o))
      (sym (ap (option_map (λ (x : Found). x.handler.body)) (handler_is M here.state here.def k vs here.there st_is) ∙ found_body (handler_in k here.def.handlers)))
      (subst (λ c. Runs M c (costs_of M (body_of (handler_in k here.def.handlers)))) (sym (signal_begins M is k vs sent slots))
      (signal_runs k vs sent here.state here.def here.there st_is (handler_in k here.def.handlers) refl s (given_slots M k vs slots)
      (given_stands M is k vs sent (marked (At here.state Basic)) s slots (subst (λ b. StandsAs M (marked b) s slots) here.is rests.holds)))))
  stimulus_runs a s slots rests (Shows.Expiry t) given = absurd (no_timer M is t given)

  -- ---- every beginning

  abbrev one : Pace
  one f p = 1

  is_one : IsPace one
  is_one f p = omega (arith)

  -- where a doing is done, the process rests in the slots of the run's end
  abbrev ComesToRest : Config → Doing Active → State → Type 0
  ComesToRest config d s = (n : ℕ) (a : Active) → (d n s).outcome ≡ Done a
      → (steps : ℕ) × ((slots : List Cells) × (exec (step_of M) steps config ≡ record { events = (d n s).events; config = Over slots }) × Rests M a (d n s).state slots)

  comes_to_rest : WhereCarried M one is_one ComesToRest
  comes_to_rest config d s before at answered n a done =
      carried_rests (Rests M) Halts (machine_of M) (λ at. is_some (serves M at)) one is_one (code_of M) config d n s before answered.ways at (answered.carries n) a done

  rests_at : (d : Doing Active) (config : Config) (s : State) → ComesToRest config d s → (n : ℕ) (a : Active) → (d n s).outcome ≡ Done a → (steps : ℕ) (events : List Event) (slots : List Cells) → exec (step_of M) steps config ≡ record { events = events; config = Over slots } → Rests M a (d n s).state slots
  rests_at d config s comes n a done steps events slots goes =
      let rest = comes n a done in
      subst (Rests M a (d n s).state) (one_end M rest.0 steps config (d n s).events events rest.1.0 slots rest.1.1 goes) rest.1.2

  rests_later : (b : Beginning) → IsBeginning M (machine_of M) (first_slots M.types (code_of M)) b → ComesToRest b.config b.doing b.state
  rests_later b The_start = starts_with M is one is_one ComesToRest comes_to_rest
  rests_later b (A_stimulus earlier begins n a done steps events slots goes x given) =
      takes_with M is one is_one ComesToRest comes_to_rest a (earlier.doing n earlier.state).state slots
      (rests_at earlier.doing earlier.config earlier.state (rests_later earlier begins) n a done steps events slots goes) x given

  -- what holds where code carries out a doing holds of each beginning
  at_each : (P : Holds) → WhereCarried M one is_one P → (b : Beginning) → IsBeginning M (machine_of M) (first_slots M.types (code_of M)) b → P b.config b.doing b.state
  at_each P holds b The_start = starts_with M is one is_one P holds
  at_each P holds b (A_stimulus earlier begins n a done steps events slots goes x given) =
      takes_with M is one is_one P holds a (earlier.doing n earlier.state).state slots
      (rests_at earlier.doing earlier.config earlier.state (rests_later earlier begins) n a done steps events slots goes) x given

  runs_from : (b : Beginning) → IsBeginning M (machine_of M) (first_slots M.types (code_of M)) b → Runs M b.config (costs_of M b.body)
  runs_from b The_start = start_runs
  runs_from b (A_stimulus earlier begins n a done steps events slots goes x given) =
      stimulus_runs a (earlier.doing n earlier.state).state slots
      (rests_at earlier.doing earlier.config earlier.state (rests_later earlier begins) n a done steps events slots goes) x given

  pub own_units_of : HasOwnUnits M (code_of M)
  own_units_of = record {
    begins = serves M;
    cut = λ b begun n.
        at_each (λ config d s. IsCut (step_of M) (λ at. is_some (serves M at)) config n (d n s))
        (λ config d s before at answered.
        carried_is_cut (Rests M) Halts (machine_of M) (λ at. is_some (serves M at)) one is_one (code_of M) config d n s before answered.ways at (answered.carries n)) b begun;
    in_order = λ b begun n. (runs_from b begun).order n;
    own = λ b c begun begun' n m i j body step frame at at' is_step.
        own_units M (places_of (step_of M) n b.config) (places_of (step_of M) m c.config) i j body step frame ((runs_from b begun).steady n) at at' is_step;
  }
