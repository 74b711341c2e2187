-- What comes from outside keeps the shape of each slot.
use Rattle.std.proofs.Common.{eqb-true, ◌≡◌, ℕ, zero, suc, ◌+◌, pos, List, [], ◌∷◌, ◌++◌, Bool, true, false, cond, Option, Some, None, slice_get, refl, sym, ap, ◌∙◌, arith}
use Rattle.std.specs.List.{list_all, flat_map}
use Rattle.std.proofs.lemmas.Bool.{false≢true}
use Rattle.std.proofs.lemmas.Option.{none-some}
use Rattle.std.proofs.lemmas.List.Folds.{list_all-append}
use Rattle.og_types.specs.declared.Sort.{Sort}
use Rattle.og_types.specs.declared.Sort.TheVariants as sort
use Rattle.og_types.specs.declared.TypeId.{TypeId}
use Rattle.og_types.specs.declared.Value.{Value, out-Value}
use Rattle.og_types.specs.declared.Value.TheOpen as value
use Rattle.og_types.specs.declared.Value.TheOpen.{Value-F}
use Rattle.og_model.specs.declared.Model.{Model}
use Rattle.og_model.specs.declared.Signal.{Signal}
use Rattle.og_ir.specs.declared.Ir.{Ir}
use Rattle.og_ir.specs.declared.SlotDef.{SlotDef}
use Rattle.og_ir.specs.declared.SlotSort.{SlotSort}
use Rattle.og_ir.specs.declared.SlotSort.TheVariants as slot_sort
use Rattle.og_ir.specs.Cells.{◌>>=◌, Cells, Cell, cells_by}
use Rattle.og_ir.specs.Reading.{blank_sort, blank}
use Rattle.og_ir.specs.FlatSteps.{blank_slot, first_slots}
use Rattle.og_types.specs.Values.{IsDownward}
use Rattle.og_types.proofs.Tables.{tables_are_downward}
use Rattle.og_csubset.specs.Kinds.{place_in}
use Rattle.og_csubset.specs.Interface as interface
use Rattle.og_csubset.specs.Interface.{Shape, Typed, Field, incoming_from, incoming, inputs_of, control_fields, variable_fields, timer_fields, fields_of}
use Rattle.og_csubset.specs.Reads.{put_numbered, put_named, cells_of_shape, inputs_set}
use Rattle.og_csubset.specs.FlatRun.{slot_names}
use Rattle.og_csubset.specs.Fair.{Fair, Held, One, Whole, Array, held_by, held_as, held_in_slot, held_in_shape, joins, is_one, has_slot}
use Rattle.og_csubset.proofs.Steady.{all_at}
use Rattle.og_cemit.proofs.Values.{HoldShapes, first_at}
use Rattle.og_cemit.proofs.Shapes.{zeroed, value_zeroed, global_keeps}
use Rattle.og_cemit.proofs.Structures.{blank_is, one_cell, held_type}
use Rattle.og_names.proofs.Truths.{both_first as left_of, both_second as right_of}

-- ---- a field has the shape of its slot

shape_of : List Sort → Shape → Cells
shape_of sorts interface.Number = Cell (pos 0)
shape_of sorts (Typed t) = blank sorts t

written_shape : (model : Model) (shape : Shape) (v : Value) → zeroed (cells_of_shape model shape v) ≡ shape_of model.types shape
unfolding shape_of
written_shape model interface.Number v = refl
written_shape model (Typed t) v = value_zeroed model.types t v

one_blank : (sorts : List Sort) → IsDownward sorts → (t : TypeId) → is_one (held_as sorts t) ≡ true → blank sorts t ≡ Cell (pos 0)
one_blank sorts down t h = by_sort (slice_get sorts t.0) refl h
  where
    by_sort : (o : Option Sort) → slice_get sorts t.0 ≡ o → is_one (o >>= held_by t) ≡ true → blank sorts t ≡ Cell (pos 0)
    by_sort None e q = absurd (false≢true q)
    by_sort (Some s) e q = blank_is sorts down t ∙ ap (cells_by (blank_sort (blank sorts))) e ∙ one_cell t (blank sorts) s q

joined_shape : (sorts : List Sort) → IsDownward sorts → (s : SlotSort) (shape : Shape)
    → joins (held_in_slot sorts s) (held_in_shape sorts shape) ≡ true → shape_of sorts shape ≡ blank_slot sorts s
unfolding shape_of
joined_shape sorts down slot_sort.Cell interface.Number h = refl
joined_shape sorts down slot_sort.Cell (Typed t) h = one_blank sorts down t (by_held (held_as sorts t) h)
  where
    by_held : (o : Option Held) → joins (Some One) o ≡ true → is_one o ≡ true
    by_held None q = absurd (false≢true q)
    by_held (Some x) q = q
joined_shape sorts down (slot_sort.Shaped u) interface.Number h = sym (one_blank sorts down u (by_held (held_as sorts u) h))
  where
    by_held : (o : Option Held) → joins o (Some One) ≡ true → is_one o ≡ true
    by_held None q = absurd (false≢true q)
    by_held (Some One) q = q
    by_held (Some (Whole t)) q = q
    by_held (Some (Array t)) q = q
joined_shape sorts down (slot_sort.Shaped u) (Typed t) h = by_held (held_as sorts u) (held_as sorts t) refl refl h
  where
    by_held : (o o' : Option Held) → held_as sorts u ≡ o → held_as sorts t ≡ o' → joins o o' ≡ true → blank sorts t ≡ blank sorts u
    by_held None o' e e' q = absurd (false≢true q)
    by_held (Some x) None e e' q = absurd (false≢true q)
    by_held (Some One) (Some y) e e' q = one_blank sorts down t (ap is_one e' ∙ q) ∙ sym (one_blank sorts down u (ap is_one e))
    by_held (Some (Whole v)) (Some One) e e' q = absurd (false≢true q)
    by_held (Some (Whole v)) (Some (Whole w)) e e' q =
        let here : v ≡ u = held_type sorts u v e in
        let there : w ≡ t = held_type sorts t w e' in
        ap (blank sorts) (sym there) ∙ ap (λ n. blank sorts (record { 0 = n })) (sym (eqb-true v.0 w.0 q)) ∙ ap (blank sorts) here
    by_held (Some (Whole v)) (Some (Array w)) e e' q = absurd (false≢true q)
    by_held (Some (Array v)) (Some y) e e' q = absurd (false≢true q)

-- ---- inputs

named_keeps : (ir : Ir) (model : Model) → Fair ir model → (slots : List Cells) → HoldShapes ir model slots → (field : Field) (v : Value)
    → has_slot model.types ir field ≡ true
    → HoldShapes ir model (put_named (slot_names ir) field.name (cells_of_shape model field.shape v) slots)
named_keeps ir model fair slots hold field v h = by_place (place_in field.name (slot_names ir)) h
  where
    by_slot : (k : ℕ) (o : Option SlotDef) → slice_get ir.slots k ≡ o
        → joins (o >>= λ def. held_in_slot model.types def.sort) (held_in_shape model.types field.shape) ≡ true
        → HoldShapes ir model (put_numbered (Some k) (cells_of_shape model field.shape v) slots)
    by_slot k None e q = absurd (false≢true q)
    by_slot k (Some def) e q =
        global_keeps slots (first_slots model.types ir) k (cells_of_shape model field.shape v) hold
        (first_at ir model k def e ∙ ap Some (sym (written_shape model field.shape v ∙ joined_shape model.types (tables_are_downward model.types fair.types) def.sort field.shape q)))

    by_place : (o : Option ℕ)
        → joins (o >>= slice_get ir.slots >>= λ def. held_in_slot model.types def.sort) (held_in_shape model.types field.shape) ≡ true
        → HoldShapes ir model (put_numbered o (cells_of_shape model field.shape v) slots)
    by_place None q = hold
    by_place (Some k) q = by_slot k (slice_get ir.slots k) refl q

inputs_hold : (ir : Ir) (model : Model) → Fair ir model → (fields : List Field) (vs : List Value) (slots : List Cells)
    → list_all (has_slot model.types ir) fields ≡ true → HoldShapes ir model slots → HoldShapes ir model (inputs_set model (slot_names ir) fields vs slots)
inputs_hold ir model fair [] vs slots all hold = hold
inputs_hold ir model fair (field ∷ fields) [] slots all hold = hold
inputs_hold ir model fair (field ∷ fields) (v ∷ vs) slots all hold =
    inputs_hold ir model fair fields vs (put_named (slot_names ir) field.name (cells_of_shape model field.shape v) slots)
    (right_of (has_slot model.types ir field) (list_all (has_slot model.types ir) fields) all)
    (named_keeps ir model fair slots hold field v (left_of (has_slot model.types ir field) (list_all (has_slot model.types ir) fields) all))

all_incoming : (q : Field → Bool) (inputs : ℕ → List Field) (from : ℕ) (signals : List Signal) (k : ℕ) (signal : Signal)
    → list_all q (flat_map inputs (incoming_from from signals)) ≡ true → slice_get signals k ≡ Some signal → signal.incoming ≡ true
    → list_all q (inputs (from + k)) ≡ true
all_incoming q inputs from [] k signal all e h = absurd (none-some signal e)
all_incoming q inputs from (x ∷ signals) zero signal all e h =
    let same : x ≡ signal = cc (e) in
    by_test x.incoming (ap (λ (y : Signal). y.incoming) same ∙ h) all
  where
    here : from ≡ from + 0
    here = omega arith

    by_test : (b : Bool) → b ≡ true → list_all q (flat_map inputs (cond b (from ∷ []) [] ++ incoming_from (from + 1) signals)) ≡ true
        → list_all q (inputs (from + 0)) ≡ true
    by_test false e' all' = absurd (false≢true e')
    by_test true e' all' =
        ap (λ n. list_all q (inputs n)) (sym here)
        ∙ left_of (list_all q (inputs from)) (list_all q (flat_map inputs (incoming_from (from + 1) signals))) (sym (list_all-append q (inputs from) (flat_map inputs (incoming_from (from + 1) signals))) ∙ all')
all_incoming q inputs from (x ∷ signals) (suc k) signal all e h =
    ap (λ n. list_all q (inputs n)) here
    ∙ all_incoming q inputs (from + 1) signals k signal (by_test x.incoming all) e h
  where
    here : from + suc k ≡ from + 1 + k
    here = omega arith

    by_test : (b : Bool) → list_all q (flat_map inputs (cond b (from ∷ []) [] ++ incoming_from (from + 1) signals)) ≡ true
        → list_all q (flat_map inputs (incoming_from (from + 1) signals)) ≡ true
    by_test false all' = all'
    by_test true all' =
        right_of (list_all q (inputs from)) (list_all q (flat_map inputs (incoming_from (from + 1) signals))) (sym (list_all-append q (inputs from) (flat_map inputs (incoming_from (from + 1) signals))) ∙ all')

pub signal_holds : (ir : Ir) (model : Model) → Fair ir model → (k : ℕ) (signal : Signal)
    → slice_get model.signals k ≡ Some signal → signal.incoming ≡ true → (vs : List Value) (slots : List Cells) → HoldShapes ir model slots
    → HoldShapes ir model (inputs_set model (slot_names ir) (inputs_of model k) vs slots)
signal_holds ir model fair k signal e h vs slots hold =
    inputs_hold ir model fair (inputs_of model k) vs slots all hold
  where
    zero_plus : k ≡ 0 + k
    zero_plus = omega arith

    inputs : list_all (has_slot model.types ir) (flat_map (inputs_of model) (incoming model)) ≡ true
    inputs =
        right_of (list_all (has_slot model.types ir) (control_fields model ++ variable_fields model ++ timer_fields model)) (list_all (has_slot model.types ir) (flat_map (inputs_of model) (incoming model)))
        (sym (list_all-append (has_slot model.types ir) (control_fields model ++ variable_fields model ++ timer_fields model) (flat_map (inputs_of model) (incoming model))) ∙ fair.fields)

    all : list_all (has_slot model.types ir) (inputs_of model k) ≡ true
    all = ap (λ n. list_all (has_slot model.types ir) (inputs_of model n)) zero_plus
        ∙ all_incoming (has_slot model.types ir) (inputs_of model) 0 model.signals k signal inputs e h
