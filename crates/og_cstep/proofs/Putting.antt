-- A value that is put into the vector of cells is put into a global.
use Rattle.std.proofs.Common.{◌≡◌, ℕ, zero, suc, ◌+◌, ℤ, pos, List, [], ◌∷◌, length, map, Bool, true, Option, Some, None, slice_get, refl, sym, ap, ◌∙◌, subst, arith}
use Rattle.std.specs.List.{find}
use Rattle.std.specs.Option.{option_map}
use Rattle.std.specs.Str.{bytes_eq}
use Rattle.std.proofs.lemmas.Option.{slice_get-map}
use Rattle.og_types.specs.declared.Sort.{Sort}
use Rattle.og_types.specs.declared.Value.{Value}
use Rattle.og_model.specs.declared.Model.{Model}
use Rattle.og_ir.specs.Cells.{◌>>=◌, Cells, Cell, change_global}
use Rattle.og_ir.specs.Steps.{Config}
use Rattle.og_csubset.specs.declared.CProgram.{CProgram}
use Rattle.og_csubset.specs.declared.CGlobal.{CGlobal}
use Rattle.og_csubset.specs.declared.CStruct.{CStruct}
use Rattle.og_csubset.specs.declared.CType.{CType}
use Rattle.og_csubset.specs.Kinds.{place_in, global_names, blank_type}
use Rattle.og_csubset.specs.Interface as interface
use Rattle.og_csubset.specs.Interface.{Field, inputs_of}
use Rattle.og_csubset.specs.Loading.{is_shaped, structs_known, cells_of_globals, first_load_rule}
use Rattle.og_csubset.specs.Reads.{put_numbered, put_named, cells_of_shape}
use Rattle.og_csubset.proofs.Steady.{all_at}
use Rattle.og_ccells.specs.Layouts.{globals_before, layout_of}
use Rattle.og_ccells.specs.declared.layout.Extent.{Extent}
use Rattle.og_ccells.specs.Vectors.{trees_of, numbers_of, SameShape}
use Rattle.og_ccells.proofs.Extents.{extent_of}
use Rattle.og_ccells.proofs.Located.{global_put}
use Rattle.og_ccells.proofs.Naming.{named}
use Rattle.og_ccells.proofs.Overwriting.{length-overwritten}
use Rattle.og_cload.specs.declared.fields.Shape.{Shape}
use Rattle.og_ccells.proofs.Shapes.{value_shape}
use Rattle.og_cstatement.proofs.Loaded.{loaded}
use Rattle.og_cstatement.specs.declared.position.Position.{Position}
use Rattle.og_cstatement.specs.declared.position.Call.{Call}
use Rattle.og_cstatement.specs.declared.position.Standing.{Standing}
use Rattle.og_cstatement.specs.declared.position.Standing.TheVariants.{Running, Idle, Stuck}
use Rattle.og_cstatement.specs.Positions.{config_by, config_of}
use Rattle.og_cstep.specs.declared.Advance.{Advance}
use Rattle.og_cstep.specs.declared.interface.Slot.{Slot}
use Rattle.og_cstep.specs.Inputs.{shape_cells, put_slot, put_there, put_in_vector}
use Rattle.og_cstep.specs.Interfaces.{interface_among, interface_of, slot_named, slots_named, kept_shape}
use Rattle.og_cstep.specs.Machines.{Run, is_signal, put_field, with_cells, with_input}
use Rattle.og_cstep.specs.Slots.{extent_at, input_slot}
use Rattle.og_cstep.proofs.Shaped.{type_cells, is_number_cells}
use Rattle.og_cstep.proofs.Fitted.{fits, fits_there, fitted}
use Rattle.og_cstep.proofs.Sighted.{extent_is, shape_of_global}
use Rattle.og_cstep.proofs.Ended.{inputs_same}

-- ---- by names

shape_same : (model : Model) (s : interface.Shape) (v : Value) → shape_cells model.types (kept_shape s) v ≡ cells_of_shape model s v
shape_same model interface.Number v = refl
shape_same model (interface.Typed t) v = refl

field_same : (run : Run) (o : Option Field) (v : Value) → put_slot run.model.types (option_map (slot_named (global_names run.program)) o) v run.cells ≡ put_field run o v
field_same run None v = refl
field_same run (Some field) v = ap (λ c. put_named (global_names run.program) field.name c run.cells) (shape_same run.model field.shape v)

-- ---- in the vector

shape_fits : (structs : List CStruct) → structs_known [] structs ≡ true → (sorts : List Sort) (s : interface.Shape) (t : CType) (v : Value) → is_shaped structs sorts s t ≡ true
    → SameShape (blank_type structs t) (shape_cells sorts (kept_shape s) v)
shape_fits structs known sorts interface.Number t v h = subst (λ c. SameShape c (Cell (pos 0))) (sym (is_number_cells structs t h)) tt
shape_fits structs known sorts (interface.Typed s) t v h =
    subst (λ c. SameShape c (shape_cells sorts (kept_shape (interface.Typed s)) v)) (sym (type_cells structs known sorts t s h)) (value_shape sorts s v)

module _ (P : CProgram) (M : Model) (loads : first_load_rule P M ≡ None) (xs : List ℤ) (whole : length xs ≡ cells_of_globals P) (v : Value) where
  abbrev put_at : Field → Option ℕ → List ℤ
  put_at field place = put_there M.types (kept_shape field.shape) v (extent_at (layout_of P).extents place) xs

  global_same : (field : Field) (k : ℕ) → fits P M field ≡ true → place_in field.name (global_names P) ≡ Some k
      → trees_of P (put_at field (Some k)) ≡ change_global k (λ _. shape_cells M.types (kept_shape field.shape) v) (trees_of P xs)
  global_same field k h e =
      let l = loaded P M loads in
      let one = named (λ (g : CGlobal). g.name.bytes) field.name P.globals k e in
      let new = shape_cells M.types (kept_shape field.shape) v in
      ap (λ o. trees_of P (put_there M.types (kept_shape field.shape) v o xs)) (extent_is P l.small xs k one.one one.there)
      ∙ global_put P xs k one.one new one.there
      (shape_fits P.structs l.known M.types field.shape one.one.kind v (shape_of_global P M field one.one (fits_there P M field k h e) one.first)) whole

  placed_same : (field : Field) (o : Option ℕ) → fits P M field ≡ true → place_in field.name (global_names P) ≡ o
      → trees_of P (put_at field o) ≡ put_numbered o (shape_cells M.types (kept_shape field.shape) v) (trees_of P xs)
  placed_same field None h e = refl
  placed_same field (Some k) h e = global_same field k h e

  option_same : (o : Option Field) → ((field : Field) → o ≡ Some field → fits P M field ≡ true)
      → trees_of P (put_in_vector M.types (layout_of P).extents (option_map (slot_named (global_names P)) o) v xs) ≡ put_slot M.types (option_map (slot_named (global_names P)) o) v (trees_of P xs)
  option_same None h = refl
  option_same (Some field) h = placed_same field (place_in field.name (global_names P)) (h field refl) refl

  -- the slot of an input, by its field
  slot_is : (signal k : ℕ) → input_slot (interface_of P M) signal k ≡ option_map (slot_named (global_names P)) (slice_get (inputs_of M signal) k)
  slot_is signal k =
      ap (λ (slots : List Slot). slice_get slots k) (inputs_same M (global_names P) signal) ∙ slice_get-map (slot_named (global_names P)) (inputs_of M signal) k

  input_same : (signal k : ℕ) → is_signal (slice_get M.signals signal) ≡ true
      → trees_of P (put_in_vector M.types (layout_of P).extents (input_slot (interface_of P M) signal k) v xs)
      ≡ put_slot M.types (option_map (slot_named (global_names P)) (slice_get (inputs_of M signal) k)) v (trees_of P xs)
  input_same signal k h =
      ap (λ o. trees_of P (put_in_vector M.types (layout_of P).extents o v xs)) (slot_is signal k)
      ∙ option_same (slice_get (inputs_of M signal) k) (λ field e. all_at (fits P M) (inputs_of M signal) k field ((fitted P M loads).inputs signal h) e)

there_length : (sorts : List Sort) (shape : Shape) (v : Value) (o : Option Extent) (xs : List ℤ) → length (put_there sorts shape v o xs) ≡ length xs
there_length sorts shape v None xs = refl
there_length sorts shape v (Some e) xs = length-overwritten (numbers_of (shape_cells sorts shape v)) xs e.offset

-- as many cells as before
pub put_length : (sorts : List Sort) (extents : List Extent) (o : Option Slot) (v : Value) (xs : List ℤ) → length (put_in_vector sorts extents o v xs) ≡ length xs
put_length sorts extents None v xs = refl
put_length sorts extents (Some slot) v xs = there_length sorts slot.shape v (extent_at extents slot.place) xs

-- ---- runs

config_with : (old new : List Cells) (standing : Standing) (callers : List Call) → config_by new standing callers ≡ with_cells new (config_by old standing callers)
config_with old new (Running call) callers = refl
config_with old new Idle callers = refl
config_with old new (Stuck rule) callers = refl

config_cells : (old new : List Cells) (p : Position) → config_of new p ≡ with_cells new (config_of old p)
config_cells old new p = config_with old new p.standing p.callers.items

abbrev run_at : CProgram → Model → Option Advance → List Cells → Config → Run
run_at program model last cells config = record { program = program; model = model; cells = cells; config = config; last = last }

-- a run whose globals hold an input
pub run_put : (P : CProgram) (M : Model) (last : Option Advance) (p : Position) (xs ys : List ℤ) (signal k : ℕ) (v : Value) → first_load_rule P M ≡ None → length xs ≡ cells_of_globals P
    → is_signal (slice_get M.signals signal) ≡ true → ys ≡ put_in_vector M.types (layout_of P).extents (input_slot (interface_of P M) signal k) v xs
    → run_at P M last (trees_of P ys) (config_of (trees_of P ys) p) ≡ with_input signal k v (run_at P M last (trees_of P xs) (config_of (trees_of P xs) p))
run_put P M last p xs ys signal k v loads whole h e =
    let old = trees_of P xs in
    let new = trees_of P ys in
    let same : new ≡ put_field (run_at P M last old (config_of old p)) (slice_get (inputs_of M signal) k) v =
    ap (trees_of P) e ∙ input_same P M loads xs whole v signal k h ∙ field_same (run_at P M last old (config_of old p)) (slice_get (inputs_of M signal) k) v in
    ap (run_at P M last new) (config_cells old new p) ∙ ap (λ cells. run_at P M last cells (with_cells cells (config_of old p))) same
