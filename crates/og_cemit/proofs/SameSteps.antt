-- A statement of the program against a step of the code.
use Rattle.std.proofs.Common.{eqb-true, ◌≡◌, ℕ, zero, suc, ◌+◌, ◌<◌, ℤ, List, [], ◌∷◌, ◌++◌, Bool, true, false, cond, not, ◌&&◌, nat_lt, inl, inr, Option, Some, None, Result, Ok, Err, map, length, slice_get, refl, sym, ap, subst, ◌∙◌, arith}
use Rattle.std.specs.Prelude.{option_map}
use Rattle.std.specs.List.{list_all}
use Rattle.std.proofs.lemmas.Bool.{false≢true, ltb-true}
use Rattle.og_names.specs.declared.Word.{Word}
use Rattle.og_model.specs.declared.Model.{Model}
use Rattle.og_model.specs.Shown.{Event}
use Rattle.og_ir.specs.declared.Ir.{Ir}
use Rattle.og_ir.specs.declared.FlatFn.{FlatFn}
use Rattle.og_ir.specs.declared.Instr.{Instr}
use Rattle.og_ir.specs.declared.Instr.TheVariants as instr
use Rattle.og_ir.specs.declared.Slot.{Slot}
use Rattle.og_ir.specs.declared.Step2.{Step2}
use Rattle.og_ir.specs.declared.Flat.{Flat, out-Flat, Flat-F}
use Rattle.og_ir.specs.declared.Flat.TheOpen as flat
use Rattle.og_ir.specs.declared.Test.{Test}
use Rattle.og_ir.specs.declared.Case.{Case}
use Rattle.og_ir.specs.Cells as option
use Rattle.og_ir.specs.Cells.{Cells, Cell, number_in}
use Rattle.og_ir.specs.Arithmetic.{Trouble, Index, Value, ◌>>=◌, or_else, in_64_bits, is_same}
use Rattle.og_ir.specs.Steps.{Frame, Config, Running, Over, Broken, Ran, quiet, with_value, onward, jumped, returned, called, showing}
use Rattle.og_ir.specs.FlatSteps as f
use Rattle.og_ir.specs.FlatSteps.{Spot, put, flat_step, first_slots}
use Rattle.og_ir.specs.Reading.{blank}
use Rattle.og_ir.proofs.Depth as flat_depth
use Rattle.og_csubset.specs.declared.CFunction.{CFunction}
use Rattle.og_csubset.specs.declared.CStmt.{CStmt}
use Rattle.og_csubset.specs.declared.CStmt.TheVariants.{Assign}
use Rattle.og_csubset.specs.declared.CExpr.{CExpr, out-CExpr}
use Rattle.og_csubset.specs.declared.CExpr as c
use Rattle.og_csubset.specs.declared.CExpr.TheViews.{outs-Number, outs-Read, outs-Op}
use Rattle.og_csubset.specs.Kinds.{Kind, place_in, global_names, function_names}
use Rattle.og_csubset.specs.Reads.{event_of}
use Rattle.og_csubset.specs.FlatRun.{slot_names, flat_event}
use Rattle.og_csubset.specs.Paced.{statements_at}
use Rattle.og_csubset.specs.Step as s
use Rattle.og_csubset.specs.Step.{cstep}
use Rattle.og_csubset.specs.Fair.{Fair, Held, One, Whole, Array, same_held, joins, held_at, is_one, number_by, is_number, has_equal_cases, is_right}
use Rattle.og_csubset.proofs.FairParts.{number_is}
use Rattle.og_csubset.proofs.Steady.{all_at}
use Rattle.og_csubset.specs.FlatText.{operator_of}
use Rattle.og_cemit.specs.Marks.{is_marked}
use Rattle.og_cemit.specs.Emitted.{label_text, place_of, number_of, case_at, calls_function, calls_event, statement_at, targets, used, body_of, function_of, program_of, AreShort}
use Rattle.og_cemit.specs.Structs.{AreFew}
use Rattle.og_cemit.proofs.Names.{get_map, there, within}
use Rattle.og_cemit.proofs.Marking.{Among, target_marked, used_marked}
use Rattle.og_cemit.proofs.Parts.{global_names_are, right_at}
use Rattle.og_cemit.proofs.Values.{HoldShapes, Spotted, not_ok, ok_value, one_held, spot_same, cells_there, expression_of, number_of_is, value_same, test_same}
use Rattle.og_cemit.proofs.Bodies.{width_of, before, before_none, before_next, first_at, first_stands, second_stands, label_stands}
use Rattle.og_cemit.proofs.Configurations.{before_in, pace_in, pace_of, begun_frame, begun_config, Waiting, IsGood, Same, same_by, bound}
use Rattle.og_cemit.proofs.Shapes.{zeroed, number_cell, put_keeps}
use Rattle.og_cemit.proofs.Structures.{Stands}
use Rattle.og_cemit.proofs.Declared.{event_declared, short_at, not_event, function_placed}
use Rattle.og_names.proofs.Truths.{both_first as left_of, both_second as right_of}

-- ---- cases

cases_same : (g : FlatFn) (z : ℤ) (cases : List Case) (otherwise : ℕ)
    → s.case_of z (map (case_at g) cases) (label_text g.labels otherwise) ≡ label_text g.labels (f.case_of z cases otherwise)
cases_same g z [] otherwise = refl
cases_same g z (x ∷ cases) otherwise = by_test (is_same z x.value) (cases_same g z cases otherwise)
  where
    by_test : (b : Bool)
        → s.case_of z (map (case_at g) cases) (label_text g.labels otherwise) ≡ label_text g.labels (f.case_of z cases otherwise)
        → cond b (label_text g.labels x.to) (s.case_of z (map (case_at g) cases) (label_text g.labels otherwise)) ≡ label_text g.labels (cond b x.to (f.case_of z cases otherwise))
    by_test true more = refl
    by_test false more = more

pub case_among : (z : ℤ) (cases : List Case) (otherwise : ℕ)
    → Among (f.case_of z cases otherwise) (map (λ (x : Case). x.to) cases ++ otherwise ∷ [])
case_among z [] otherwise = inl refl
case_among z (x ∷ cases) otherwise = by_test (is_same z x.value) (case_among z cases otherwise)
  where
    by_test : (b : Bool) → Among (f.case_of z cases otherwise) (map (λ (y : Case). y.to) cases ++ otherwise ∷ [])
        → Among (cond b x.to (f.case_of z cases otherwise)) (map (λ (y : Case). y.to) (x ∷ cases) ++ otherwise ∷ [])
    by_test true more = inl refl
    by_test false more = inr more

pub case_within : (z : ℤ) (places : ℕ) (cases : List Case) (otherwise : ℕ)
    → list_all (λ (x : Case). in_64_bits x.value && nat_lt x.to places) cases ≡ true → nat_lt otherwise places ≡ true
    → nat_lt (f.case_of z cases otherwise) places ≡ true
case_within z places [] otherwise h last = last
case_within z places (x ∷ cases) otherwise h last =
    by_test (is_same z x.value) (right_of (in_64_bits x.value) (nat_lt x.to places) (left_of (in_64_bits x.value && nat_lt x.to places) _ h))
    (case_within z places cases otherwise (right_of (in_64_bits x.value && nat_lt x.to places) _ h) last)
  where
    by_test : (b : Bool) → nat_lt x.to places ≡ true → nat_lt (f.case_of z cases otherwise) places ≡ true
        → nat_lt (cond b x.to (f.case_of z cases otherwise)) places ≡ true
    by_test true here more = here
    by_test false here more = more

-- ---- what is assigned

module _ (ir : Ir) (model : Model) (fair : Fair ir model) (few : AreFew model.types) (slots : List Cells) (hold : HoldShapes ir model slots) where
  one_there : (slot : Slot) → is_one (held_at model.types ir slot) ≡ true → (r : Result Spot Trouble) → f.spot_of (f.value_of in_64_bits slots) slots slot ≡ r
      → (r >>= λ spot. f.cells_at slots spot) ≡ (r >>= λ spot. f.cells_at slots spot >>= λ cells. or_else (number_in cells) Index >>= λ z. Ok (Cell z))
  one_there slot h (Err t) w = refl
  one_there slot h (Ok spot) w =
      let end = (spot_same ir model fair few slots hold slot One (one_held ir model fair few slots hold (held_at model.types ir slot) h)).ends spot w in
      let there = cells_there ir model fair few slots hold spot end.0 One end.1 end.2 in
      let cell = number_cell there.0 (there.2 ∙ end.2.stands.1) in
      (there.1 ∙ ap Ok cell.1) ∙ sym (ap (λ r. r >>= λ cells. or_else (number_in cells) Index >>= λ z. Ok (Cell z)) (there.1 ∙ ap Ok cell.1))

  regroup : (r : Result Spot Trouble)
      → (r >>= λ spot. f.cells_at slots spot >>= λ cells. or_else (number_in cells) Index >>= λ z. Ok (Cell z)) ≡ ((r >>= λ spot. f.cells_at slots spot >>= λ cells. or_else (number_in cells) Index) >>= λ z. Ok (Cell z))
  regroup (Err t) = refl
  regroup (Ok spot) = inner (f.cells_at slots spot)
    where
      inner : (r : Result Cells Trouble) → (r >>= λ cells. or_else (number_in cells) Index >>= λ z. Ok (Cell z)) ≡ ((r >>= λ cells. or_else (number_in cells) Index) >>= λ z. Ok (Cell z))
      inner (Err t) = refl
      inner (Ok cells) = refl

  assigned_same : (e : Flat) → is_number model.types ir e ≡ true
      → s.assigned (program_of ir model) slots (number_of ir model e) (out-CExpr (number_of ir model e)) ≡ (f.value_of in_64_bits slots e >>= λ z. Ok (Cell z))
  assigned_same e right =
      ap (λ x. s.assigned (program_of ir model) slots (number_of ir model e) (out-CExpr x)) (number_of_is ir model e) ∙ by_shape (out-Flat e) refl
    where
      by_shape : (shape : Flat-F Flat Step2 Slot) → out-Flat e ≡ shape
          → s.assigned (program_of ir model) slots (number_of ir model e) (out-CExpr (expression_of ir model shape)) ≡ (f.value_of in_64_bits slots e >>= λ z. Ok (Cell z))
      by_shape (flat.Number n) is =
          ap (s.assigned (program_of ir model) slots (number_of ir model e)) (outs-Number n) ∙ ap (λ r. r >>= λ z. Ok (Cell z)) (value_same ir model fair few slots hold e right)
      by_shape (flat.Op o a b) is =
          ap (s.assigned (program_of ir model) slots (number_of ir model e)) (outs-Op (operator_of o) (number_of ir model a) (number_of ir model b)) ∙ ap (λ r. r >>= λ z. Ok (Cell z)) (value_same ir model fair few slots hold e right)
      by_shape (flat.Read slot) is =
          let one = sym (ap (number_by (is_number model.types ir) model.types ir) is) ∙ (sym (number_is model.types ir e) ∙ right) in
          ap (s.assigned (program_of ir model) slots (number_of ir model e)) (outs-Read (place_of ir model slot))
          ∙ ap (λ r. r >>= λ spot. f.cells_at slots spot) (spot_same ir model fair few slots hold slot One (one_held ir model fair few slots hold (held_at model.types ir slot) one)).same
          ∙ one_there slot one (f.spot_of (f.value_of in_64_bits slots) slots slot) refl
          ∙ regroup (f.spot_of (f.value_of in_64_bits slots) slots slot)
          ∙ sym (ap (λ r. r >>= λ z. Ok (Cell z)) (flat_depth.value_is in_64_bits slots e ∙ ap (f.value_by (f.value_of in_64_bits slots) in_64_bits slots) is))

-- two places of one type have one shape
shapes_same : (ir : Ir) (model : Model) (kind other : Kind) (a b : Held) (x y : Cells) → Stands ir model kind a x → Stands ir model other b y
    → same_held a b ≡ true → x ≡ y
shapes_same ir model kind other One One x y st st' h = st.1 ∙ sym st'.1
shapes_same ir model kind other One (Whole u) x y st st' h = absurd (false≢true h)
shapes_same ir model kind other One (Array u) x y st st' h = absurd (false≢true h)
shapes_same ir model kind other (Whole t) One x y st st' h = absurd (false≢true h)
shapes_same ir model kind other (Whole t) (Whole u) x y st st' h =
    st.cells_are ∙ ap (λ n. blank model.types (record { 0 = n })) (eqb-true t.0 u.0 h) ∙ sym st'.cells_are
shapes_same ir model kind other (Whole t) (Array u) x y st st' h = absurd (false≢true h)
shapes_same ir model kind other (Array t) b x y st st' h = absurd (false≢true h)

-- ---- one instruction

module _ (ir : Ir) (model : Model) (fair : Fair ir model) (short : AreShort ir.functions) (few : AreFew model.types) (slots : List Cells) (hold : HoldShapes ir model slots) (frame : Frame) (callers : List Frame) (waiting : Waiting ir callers) (g : FlatFn) (stands : slice_get ir.functions frame.function ≡ Some g) (q : ℕ) (next : q + 1 ≡ before_in (slice_get ir.functions frame.function) (frame.place + 1)) where
  abbrev here : Frame
  here = record { function = frame.function; place = q }

  abbrev behind : List Frame
  behind = map (begun_frame ir 0) callers

  inside : frame.function < length ir.functions
  inside = within ir.functions frame.function g stands

  onward_frame : onward here ≡ begun_frame ir 0 (onward frame)
  onward_frame = ap (λ n. record { function = frame.function; place = n }) (next ∙ omega arith)

  -- goes on to the next place with other slots
  onward_same : (slots' : List Cells) → HoldShapes ir model slots'
      → Same ir model (quiet (Running slots' (onward here) behind)) (quiet (Running slots' (onward frame) callers))
  onward_same slots' hold' = record {
    same = ap (λ fr. quiet (Running slots' fr behind)) onward_frame;
    good = (hold', inside, waiting);
  }

  gone_same : (to : ℕ) → to < length g.code → is_marked (targets g.code) to ≡ true
      → Same ir model (s.gone (body_of ir model g) slots here behind (label_text g.labels to)) (quiet (Running slots (jumped frame to) callers))
  gone_same to less is_target = record {
    same =
        ap (λ o. with_value (or_else o Value) (λ place. quiet (Running slots (jumped here place) behind))) found
        ∙ ap (λ n. quiet (Running slots (record { function = frame.function; place = n }) behind)) (ap (λ o. before_in o to) (sym stands) ∙ omega arith);
    good = (hold, inside, waiting);
  }
    where
      zero_plus : 0 + to ≡ to
      zero_plus = omega arith

      found : s.label_in (label_text g.labels to) (body_of ir model g) ≡ Some (before (targets g.code) 0 g.code to)
      found =
          ap (λ n. s.label_in (label_text g.labels n) (body_of ir model g)) (sym zero_plus)
          ∙ label_stands ir model g (targets g.code) 0 g.code to (let small = short_at ir.functions frame.function g short stands in omega (arith, small)) less (ap (is_marked (targets g.code)) zero_plus ∙ is_target)

  showing_same : (o : Option Event) → Same ir model (showing o slots here behind) (showing o slots frame callers)
  showing_same None = record { same = refl; good = tt }
  showing_same (Some event) = record {
    same = ap (λ fr. record { events = event ∷ []; config = Running slots fr behind }) onward_frame;
    good = (hold, inside, waiting);
  }

  returned_by : (waiters : List Frame) → Waiting ir waiters
      → Same ir model (returned slots (map (begun_frame ir 0) waiters)) (returned slots waiters)
  returned_by [] w = record { same = refl; good = hold }
  returned_by (x ∷ waiters) w = record { same = refl; good = (hold, w.0, w.1) }

  pub returned_same : Same ir model (returned slots behind) (returned slots callers)
  returned_same = returned_by callers waiting

  called_same : (k : ℕ) → k < length ir.functions → Same ir model (called slots here behind k) (called slots frame callers k)
  called_same k less = record {
    same =
        ap (λ fr. quiet (Running slots (record { function = k; place = 0 }) (fr ∷ behind))) onward_frame
        ∙ ap (λ n. quiet (Running slots (record { function = k; place = n }) (begun_frame ir 0 (onward frame) ∷ behind))) (start (slice_get ir.functions k));
    good = (hold, less, (inside, waiting));
  }
    where
      start : (o : Option FlatFn) → 0 ≡ before_in o 0 + 0
      start None = refl
      start (Some h) = let none = before_none (targets h.code) 0 h.code in omega (arith, none)

  abbrev statement_does : CStmt → Ran Event
  statement_does statement = s.act (event_of model (global_names (program_of ir model))) (program_of ir model) (body_of ir model g) slots here behind statement

  abbrev step_does : Instr → Ran Event
  step_does i = f.act (flat_event model ir) in_64_bits slots frame callers i

  set_same : (slot : Slot) (e : Flat) → is_one (held_at model.types ir slot) ≡ true → is_number model.types ir e ≡ true
      → Same ir model (statement_does (Assign (place_of ir model slot) (number_of ir model e))) (step_does (instr.Set slot e))
  set_same slot e one right =
      bound ir model _ _ _ _ spotted.same (λ spot is.
      same_by (ap (λ r. with_value r (λ cells. quiet (Running (put slots spot cells) (onward here) behind))) (assigned_same ir model fair few slots hold e right) ∙ split (f.value_of in_64_bits slots e) (λ cells. quiet (Running (put slots spot cells) (onward here) behind)))
      (bound ir model _ _ _ _ refl (λ z is'.
      let end = spotted.ends spot is in
      onward_same (put slots spot (Cell z)) (put_keeps slots (first_slots model.types ir) spot (Cell z) end.0 hold end.1 (end.2.found ∙ ap Some end.2.stands.1)))))
    where
      spotted : Spotted ir model fair few slots hold (s.spot_of (program_of ir model) slots (place_of ir model slot)) (f.spot_of (f.value_of in_64_bits slots) slots slot) One
      spotted = spot_same ir model fair few slots hold slot One (one_held ir model fair few slots hold (held_at model.types ir slot) one)

      split : (r : Result ℤ Trouble) (go : Cells → Ran Event) → with_value (r >>= λ z. Ok (Cell z)) go ≡ with_value r (λ z. go (Cell z))
      split (Ok z) go = refl
      split (Err t) go = refl

  copy_held : (to from : Slot) (a b : Held) → held_at model.types ir to ≡ Some a → held_at model.types ir from ≡ Some b → same_held a b ≡ true
      → Same ir model (statement_does (Assign (place_of ir model to) (c.Read (place_of ir model from)))) (step_does (instr.Copy to from))
  copy_held to from a b e e' h =
      bound ir model _ _ _ _ target.same (λ spot is.
      bound ir model _ _ _ _ (ap (s.assigned (program_of ir model) slots (c.Read (place_of ir model from))) (outs-Read (place_of ir model from)) ∙ ap (λ r. r >>= λ spot'. f.cells_at slots spot') source.same) (λ x is'.
      let end = target.ends spot is in
      onward_same (put slots spot x) (put_keeps slots (first_slots model.types ir) spot x end.0 hold end.1
      (end.2.found ∙ ap Some (fits (f.spot_of (f.value_of in_64_bits slots) slots from) refl x is' end.2.kind end.2.shape end.2.stands)))))
    where
      target : Spotted ir model fair few slots hold (s.spot_of (program_of ir model) slots (place_of ir model to)) (f.spot_of (f.value_of in_64_bits slots) slots to) a
      target = spot_same ir model fair few slots hold to a e

      source : Spotted ir model fair few slots hold (s.spot_of (program_of ir model) slots (place_of ir model from)) (f.spot_of (f.value_of in_64_bits slots) slots from) b
      source = spot_same ir model fair few slots hold from b e'

      fits : (r : Result Spot Trouble) → f.spot_of (f.value_of in_64_bits slots) slots from ≡ r → (x : Cells) → (r >>= f.cells_at slots) ≡ Ok x
          → (kind : Kind) (shape : Cells) → Stands ir model kind a shape → shape ≡ zeroed x
      fits (Err t) w x q kind shape st = absurd (not_ok t x q)
      fits (Ok spot) w x q kind shape st =
          let end = source.ends spot w in
          let there' = cells_there ir model fair few slots hold spot end.0 b end.1 end.2 in
          shapes_same ir model kind end.2.kind a b shape end.2.shape st end.2.stands h
          ∙ sym there'.2 ∙ ap zeroed (ok_value there'.0 x (sym there'.1 ∙ q))

  copy_same : (to from : Slot) → joins (held_at model.types ir to) (held_at model.types ir from) ≡ true
      → Same ir model (statement_does (Assign (place_of ir model to) (c.Read (place_of ir model from)))) (step_does (instr.Copy to from))
  copy_same to from h = by_held (held_at model.types ir to) (held_at model.types ir from) refl refl h
    where
      by_held : (o o' : Option Held) → held_at model.types ir to ≡ o → held_at model.types ir from ≡ o' → joins o o' ≡ true
          → Same ir model (statement_does (Assign (place_of ir model to) (c.Read (place_of ir model from)))) (step_does (instr.Copy to from))
      by_held None o' e e' h' = absurd (false≢true h')
      by_held (Some a) None e e' h' = absurd (false≢true h')
      by_held (Some a) (Some b) e e' h' = copy_held to from a b e e' h'

  branch_same : (test : Test) (to : ℕ) → is_number model.types ir test.left ≡ true
      → is_number model.types ir test.right ≡ true → to < length g.code → is_marked (targets g.code) to ≡ true
      → Same ir model (statement_does (statement_at ir model g (instr.Branch test to))) (step_does (instr.Branch test to))
  branch_same test to left right less is_target =
      bound ir model _ _ _ _ (test_same ir model fair few slots hold test left right) (λ b is. by_answer b)
    where
      by_answer : (b : Bool)
          → Same ir model (cond b (s.gone (body_of ir model g) slots here behind (label_text g.labels to)) (quiet (Running slots (onward here) behind))) (quiet (Running slots (cond b (jumped frame to) (onward frame)) callers))
      by_answer true = gone_same to less is_target
      by_answer false = onward_same slots hold

  table_same : (e : Flat) (cases : List Case) (otherwise : ℕ) → slice_get g.code frame.place ≡ Some (instr.Table e cases otherwise)
      → is_number model.types ir e ≡ true
      → list_all (λ (x : Case). in_64_bits x.value && nat_lt x.to (length g.code)) cases ≡ true → nat_lt otherwise (length g.code) ≡ true
      → Same ir model (statement_does (statement_at ir model g (instr.Table e cases otherwise))) (step_does (instr.Table e cases otherwise))
  table_same e cases otherwise at right are_cases last =
      bound ir model _ _ _ _ (value_same ir model fair few slots hold e right) (λ z is.
      let less = ltb-true _ (length g.code) (case_within z (length g.code) cases otherwise are_cases last) in
      same_by (ap (s.gone (body_of ir model g) slots here behind) (cases_same g z cases otherwise))
      (gone_same (f.case_of z cases otherwise) less
      (target_marked g.code frame.place (instr.Table e cases otherwise) (f.case_of z cases otherwise) at (case_among z cases otherwise) less)))

  call_same : (k : ℕ) → k < frame.function → Same ir model (statement_does (statement_at ir model g (instr.Call k))) (step_does (instr.Call k))
  call_same k earlier =
      let less : k < length ir.functions = omega (arith, inside, earlier) in
      let one = there ir.functions k less in
      same_by (ap (λ o. statement_does (calls_function o)) one.1
      ∙ ap (λ b. cond b (showing (event_of model (global_names (program_of ir model)) one.0.name.bytes slots) slots here behind) (with_value (or_else (place_in one.0.name.bytes (function_names (program_of ir model))) Value) (called slots here behind))) (not_event ir model fair k one.0 one.1)
      ∙ ap (λ o. with_value (or_else o Value) (called slots here behind)) (function_placed ir model fair k one.0 one.1))
      (called_same k less)

  emit_same : (k : ℕ) → slice_get g.code frame.place ≡ Some (instr.Emit k) → k < length ir.events
      → Same ir model (statement_does (statement_at ir model g (instr.Emit k))) (step_does (instr.Emit k))
  emit_same k at less =
      let one = there ir.events k less in
      let zero_plus : 0 + k ≡ k = omega arith in
      let mark = used_marked ir g frame.function frame.place (instr.Emit k) k stands at (inl refl) less in
      let names = global_names_are ir model in
      let flat_shows : event_of model (global_names (program_of ir model)) one.0.bytes slots ≡ flat_event model ir k slots =
      ap (λ n. event_of model n one.0.bytes slots) names
      ∙ ap (λ o. option.◌>>=◌ o (λ (name : Word). event_of model (slot_names ir) name.bytes slots)) (sym one.1) in
      same_by (ap (λ o. statement_does (calls_event o)) one.1
      ∙ ap (λ b. cond b (showing (event_of model (global_names (program_of ir model)) one.0.bytes slots) slots here behind) (with_value (or_else (place_in one.0.bytes (function_names (program_of ir model))) Value) (called slots here behind))) (event_declared (used ir) 0 ir.events k one.0 one.1 (ap (is_marked (used ir)) zero_plus ∙ mark))
      ∙ ap (λ o. showing o slots here behind) flat_shows)
      (showing_same (flat_event model ir k slots))

  pub act_same : (i : Instr) → slice_get g.code frame.place ≡ Some i → is_right model.types ir frame.function (length g.code) i ≡ true
      → Same ir model (statement_does (statement_at ir model g i)) (step_does i)
  act_same (instr.Set slot e) at right =
      set_same slot e (left_of (is_one (held_at model.types ir slot)) (is_number model.types ir e) right)
      (right_of (is_one (held_at model.types ir slot)) (is_number model.types ir e) right)
  act_same (instr.Copy to from) at right = copy_same to from right
  act_same (instr.Branch test to) at right =
      let numbers = left_of (is_number model.types ir test.left && is_number model.types ir test.right) (nat_lt to (length g.code)) right in
      let less = ltb-true to (length g.code) (right_of (is_number model.types ir test.left && is_number model.types ir test.right) (nat_lt to (length g.code)) right) in
      branch_same test to (left_of (is_number model.types ir test.left) (is_number model.types ir test.right) numbers) (right_of (is_number model.types ir test.left) (is_number model.types ir test.right) numbers)
      less (target_marked g.code frame.place (instr.Branch test to) to at (inl refl) less)
  act_same (instr.Goto to) at right =
      let less = ltb-true to (length g.code) right in gone_same to less (target_marked g.code frame.place (instr.Goto to) to at (inl refl) less)
  act_same (instr.Table e cases otherwise) at right =
      let places = length g.code in
      let are_cases = list_all (λ (x : Case). in_64_bits x.value && nat_lt x.to places) cases in
      let differ = not (has_equal_cases cases) in
      let three = left_of ((is_number model.types ir e && are_cases) && differ) (nat_lt otherwise places) right in
      let two = left_of (is_number model.types ir e && are_cases) differ three in
      let last = right_of ((is_number model.types ir e && are_cases) && differ) (nat_lt otherwise places) right in
      table_same e cases otherwise at (left_of (is_number model.types ir e) are_cases two) (right_of (is_number model.types ir e) are_cases two) last
  act_same (instr.Call k) at right = call_same k (ltb-true k frame.function right)
  act_same (instr.Emit k) at right = emit_same k at (ltb-true k (length ir.events) right)
  act_same instr.Back at right = returned_same

-- ---- one statement

module _ (ir : Ir) (model : Model) (fair : Fair ir model) (short : AreShort ir.functions) (few : AreFew model.types) where
  abbrev step_of : Config → Ran Event
  step_of config = flat_step (flat_event model ir) in_64_bits ir config

  abbrev cstep_of : Config → Ran Event
  cstep_of config = cstep (event_of model (global_names (program_of ir model))) (program_of ir model) config

  function_there : (k : ℕ) (g : FlatFn) → slice_get ir.functions k ≡ Some g
      → slice_get (program_of ir model).functions k ≡ Some (function_of ir model g)
  function_there k g e = get_map (function_of ir model) ir.functions k ∙ ap (option_map (function_of ir model)) e

  module _ (slots : List Cells) (hold : HoldShapes ir model slots) (frame : Frame) (callers : List Frame) (waiting : Waiting ir callers) (g : FlatFn) (stands : slice_get ir.functions frame.function ≡ Some g) where
    zero_plus : 0 + frame.place ≡ frame.place
    zero_plus = omega arith

    first_there : slice_get (body_of ir model g) (before (targets g.code) 0 g.code frame.place) ≡ first_at ir model g (is_marked (targets g.code) frame.place) frame.place (slice_get g.code frame.place)
    first_there =
        first_stands ir model g (targets g.code) 0 g.code frame.place
        ∙ ap (λ n. first_at ir model g (is_marked (targets g.code) n) n (slice_get g.code frame.place)) zero_plus

    next_place : before (targets g.code) 0 g.code (frame.place + 1) ≡ before (targets g.code) 0 g.code frame.place + width_of (is_marked (targets g.code) frame.place) (slice_get g.code frame.place)
    next_place =
        ap (before (targets g.code) 0 g.code) (omega arith)
        ∙ before_next (targets g.code) 0 g.code frame.place
        ∙ ap (λ n. before (targets g.code) 0 g.code frame.place + width_of (is_marked (targets g.code) n) (slice_get g.code frame.place)) zero_plus

    abbrev at_statement : ℕ → Option CStmt → Ran Event
    at_statement b o = s.fetched (event_of model (global_names (program_of ir model))) (program_of ir model) (body_of ir model g) slots (record { function = frame.function; place = before (targets g.code) 0 g.code frame.place + b }) (map (begun_frame ir 0) callers) o

    abbrev at_instruction : Option Instr → Ran Event
    at_instruction o = f.fetched (flat_event model ir) in_64_bits slots frame callers o

    abbrev begins : ℕ
    begins = before (targets g.code) 0 g.code frame.place

    next_in : (o : Option Instr) → slice_get g.code frame.place ≡ o → (mark : Bool) → is_marked (targets g.code) frame.place ≡ mark
        → (b : ℕ) → b + 1 ≡ width_of mark o → begins + b + 1 ≡ before_in (slice_get ir.functions frame.function) (frame.place + 1)
    next_in o e mark e' b last =
        let width' : width_of (is_marked (targets g.code) frame.place) (slice_get g.code frame.place) ≡ width_of mark o =
        ap (λ m. width_of m (slice_get g.code frame.place)) e' ∙ ap (width_of mark) e in
        let place : begins + b + 1 ≡ before (targets g.code) 0 g.code (frame.place + 1) = omega (arith, next_place, width', last) in
        place ∙ ap (λ x. before_in x (frame.place + 1)) (sym stands)

    first_is : (o : Option Instr) → slice_get g.code frame.place ≡ o → (mark : Bool) → is_marked (targets g.code) frame.place ≡ mark
        → (b : ℕ) → b ≡ 0 → slice_get (body_of ir model g) (begins + b) ≡ first_at ir model g mark frame.place o
    first_is o e mark e' b none =
        let place : begins + b ≡ begins = omega (arith, none) in
        ap (slice_get (body_of ir model g)) place ∙ first_there
        ∙ ap (λ m. first_at ir model g m frame.place (slice_get g.code frame.place)) e' ∙ ap (first_at ir model g mark frame.place) e

    right_here : (i : Instr) → slice_get g.code frame.place ≡ Some i → is_right model.types ir frame.function (length g.code) i ≡ true
    right_here i e =
        let zero_function : 0 + frame.function ≡ frame.function = omega arith in
        ap (λ n. is_right model.types ir n (length g.code) i) (sym zero_function)
        ∙ all_at (is_right model.types ir (0 + frame.function) (length g.code)) g.code frame.place i (right_at model.types ir 0 ir.functions frame.function g fair.right stands) e

    -- the last statement of an instruction
    last_by : (o : Option Instr) → slice_get g.code frame.place ≡ o → (mark : Bool) → is_marked (targets g.code) frame.place ≡ mark
        → (b : ℕ) → b + 1 ≡ width_of mark o → Same ir model (at_statement b (slice_get (body_of ir model g) (begins + b))) (at_instruction o)
    last_by None e mark e' b last =
        same_by (ap (at_statement b) (first_is None e mark e' b (omega (arith, last))))
        (returned_same ir model fair short few slots hold frame callers waiting g stands (begins + b) (next_in None e mark e' b last))
    last_by (Some i) e false e' b last =
        same_by (ap (at_statement b) (first_is (Some i) e false e' b (omega (arith, last))))
        (act_same ir model fair short few slots hold frame callers waiting g stands (begins + b) (next_in (Some i) e false e' b last) i e (right_here i e))
    last_by (Some i) e true e' b last =
        let one : b ≡ 1 = omega (arith, last) in
        let second = second_stands ir model g (targets g.code) 0 g.code frame.place i e (ap (is_marked (targets g.code)) zero_plus ∙ e') in
        same_by (ap (at_statement b) (ap (λ n. slice_get (body_of ir model g) (begins + n)) one ∙ second))
        (act_same ir model fair short few slots hold frame callers waiting g stands (begins + b) (next_in (Some i) e true e' b last) i e (right_here i e))

    -- a label before an instruction
    label_by : (o : Option Instr) → slice_get g.code frame.place ≡ o → (mark : Bool) → is_marked (targets g.code) frame.place ≡ mark
        → (b : ℕ) → b + 1 < width_of mark o
        → at_statement b (slice_get (body_of ir model g) (begins + b)) ≡ quiet (Running slots (record { function = frame.function; place = begins + (b + 1) }) (map (begun_frame ir 0) callers))
    label_by None e mark e' b early = absurd (omega (arith, early))
    label_by (Some i) e false e' b early = absurd (omega (arith, early))
    label_by (Some i) e true e' b early =
        ap (at_statement b) (first_is (Some i) e true e' b (omega (arith, early)))
        ∙ ap (λ n. quiet (Running slots (record { function = frame.function; place = n }) (map (begun_frame ir 0) callers))) (omega arith)

    program_step : (b : ℕ)
        → cstep_of (begun_config ir b (Running slots frame callers)) ≡ at_statement b (slice_get (body_of ir model g) (begins + b))
    program_step b =
        ap (λ o. with_value (or_else o Value) (λ (h : CFunction). s.fetched (event_of model (global_names (program_of ir model))) (program_of ir model) h.body slots (begun_frame ir b frame) (map (begun_frame ir 0) callers) (slice_get h.body (begun_frame ir b frame).place)))
        (function_there frame.function g stands)
        ∙ ap (λ o. s.fetched (event_of model (global_names (program_of ir model))) (program_of ir model) (body_of ir model g) slots (record { function = frame.function; place = before_in o frame.place + b }) (map (begun_frame ir 0) callers) (slice_get (body_of ir model g) (before_in o frame.place + b))) stands

    code_step : step_of (Running slots frame callers) ≡ at_instruction (slice_get g.code frame.place)
    code_step = ap (λ o. with_value (or_else o Index) (λ (h : FlatFn). f.fetched (flat_event model ir) in_64_bits slots frame callers (slice_get h.code frame.place))) stands

    run_last : (b : ℕ) → b + 1 ≡ statements_at (pace_of ir) (Running slots frame callers)
        → Same ir model (cstep_of (begun_config ir b (Running slots frame callers))) (step_of (Running slots frame callers))
    run_last b last =
        same_by (program_step b)
        (subst (Same ir model (at_statement b (slice_get (body_of ir model g) (begins + b)))) (sym code_step)
        (last_by (slice_get g.code frame.place) refl (is_marked (targets g.code) frame.place) refl b (last ∙ ap (λ o. pace_in o frame.place) stands)))

    run_label : (b : ℕ) → b + 1 < statements_at (pace_of ir) (Running slots frame callers)
        → cstep_of (begun_config ir b (Running slots frame callers)) ≡ quiet (begun_config ir (b + 1) (Running slots frame callers))
    run_label b early =
        program_step b
        ∙ label_by (slice_get g.code frame.place) refl (is_marked (targets g.code) frame.place) refl b (let width' = ap (λ o. pace_in o frame.place) stands in omega (arith, early, width'))
        ∙ ap (λ o. quiet (Running slots (record { function = frame.function; place = before_in o frame.place + (b + 1) }) (map (begun_frame ir 0) callers))) (sym stands)

  -- the last statement of a step does the step
  pub step_last : (config : Config) → IsGood ir model config → (b : ℕ) → b + 1 ≡ statements_at (pace_of ir) config
      → Same ir model (cstep_of (begun_config ir b config)) (step_of config)
  step_last (Running slots frame callers) good b last =
      let one = there ir.functions frame.function good.1 in
      run_last slots good.0 frame callers good.2 one.0 one.1 b last
  step_last (Over slots) good b last = record { same = refl; good = good }
  step_last (Broken trouble) good b last = record { same = refl; good = tt }

  -- those before it change nothing
  pub step_label : (config : Config) → IsGood ir model config → (b : ℕ) → b + 1 < statements_at (pace_of ir) config
      → cstep_of (begun_config ir b config) ≡ quiet (begun_config ir (b + 1) config)
  step_label (Running slots frame callers) good b early =
      let one = there ir.functions frame.function good.1 in
      run_label slots good.0 frame callers good.2 one.0 one.1 b early
  step_label (Over slots) good b early = absurd (omega (arith, early))
  step_label (Broken trouble) good b early = absurd (omega (arith, early))
