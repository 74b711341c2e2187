-- What is seen of a program's globals in one vector of cells is what is seen of their trees.
use Rattle.std.proofs.Common.{◌≡◌, ℕ, zero, suc, ◌+◌, ◌-◌, ◌^◌, ◌≤◌, ◌<◌, ℤ, pos, negsuc, List, [], ◌∷◌, ◌++◌, length, map, Bool, true, false, ◌&&◌, is_some, inl, inr, nat_lt, Option, Some, None, slice_get, get_or, unwrap_or, refl, sym, ap, ◌∙◌, subst, arith, length-append}
use mathlib.Core.Path.{fun_ext}
use Rattle.std.specs.List.{find, list_all}
use Rattle.std.specs.Str.{bytes_eq}
use Rattle.std.specs.Option.{option_map}
use Rattle.std.proofs.lemmas.Bool.{false≢true, cases_lt}
use Rattle.std.proofs.lemmas.Bool.Decides.{nat_tests}
use Rattle.std.proofs.lemmas.Option.{none-some, slice_get-map, slice_get_cases}
use Rattle.og_names.proofs.Truths.{both_first, both_second}
use Rattle.og_types.specs.declared.Sort.{Sort}
use Rattle.og_types.specs.declared.Value.{Value}
use Rattle.og_model.specs.declared.Model.{Model}
use Rattle.og_model.specs.declared.EventId.{EventId}
use Rattle.og_model.specs.declared.EventId.TheVariants as event
use Rattle.og_ir.specs.Cells.{◌>>=◌, Cells, Cell, Empty, Both, row, cells_by, number_in, count, global}
use Rattle.og_ir.specs.Reading.{only_if, value_in, blank}
use Rattle.og_csubset.specs.declared.CProgram.{CProgram}
use Rattle.og_csubset.specs.declared.CStruct.{CStruct}
use Rattle.og_csubset.specs.declared.CMember.{CMember}
use Rattle.og_csubset.specs.declared.CGlobal.{CGlobal}
use Rattle.og_csubset.specs.declared.CType.{CType}
use Rattle.og_csubset.specs.declared.CType.TheVariants.{Int64, Struct}
use Rattle.og_csubset.specs.Kinds.{Kind, place_in, global_names, blank_within, blank_type, members_of, sized, width_of}
use Rattle.og_csubset.specs.Interface as interface
use Rattle.og_csubset.specs.Interface.{Field}
use Rattle.og_csubset.specs.Loading.{passes, is_int64, is_shaped, has_field, structs_known, cells_of_globals, first_load_rule}
use Rattle.og_csubset.specs.Reads.{kind_numbered, value_of_field, event_shown, end_of}
use Rattle.og_csubset.proofs.Steady.{all_at}
use Rattle.og_ccells.specs.declared.layout.Extent.{Extent}
use Rattle.og_ccells.specs.Layouts.{globals_before, layout_of}
use Rattle.og_ccells.specs.Vectors.{filled, trees_of}
use Rattle.og_ccells.proofs.Naming.{named}
use Rattle.og_ccells.proofs.Counting.{count_type}
use Rattle.og_ccells.proofs.Steady.{number_laid}
use Rattle.og_ccells.proofs.Extents.{extent_of, global_extent, no_extent}
use Rattle.og_ccells.proofs.Located.{global_is, no_global}
use Rattle.og_cstatement.proofs.Loaded.{Loaded, loaded}
use Rattle.og_cload.specs.declared.fields.Shape.{Shape}
use Rattle.og_cload.specs.declared.fields.Shape.TheVariants as shape
use Rattle.og_cstep.specs.declared.Advance.{Advance}
use Rattle.og_cstep.specs.declared.Advance.TheVariants as advance
use Rattle.og_cstep.specs.declared.interface.Interface.{Interface}
use Rattle.og_cstep.specs.declared.interface.Slot.{Slot}
use Rattle.og_cstep.specs.Answered.{answer_at_end}
use Rattle.og_cstep.specs.Interfaces.{slot_named, slots_named, kept_shape, interface_among, interface_of}
use Rattle.og_cstep.specs.Slots.{Numbers, Sight, cells_at, shape_value, in_trees, extent_at, number_there, integer_of, value_there, number_of, value_of, value_if, in_vector, are_held, timers_held, regions_held, variables_held, fault_place, fault_of, fault_answer, rest_answer, stopped_answer, by_stopped, by_kind, end_answer, answer_if, outputs_at, output_slot, duration_slot, duration_at, shows}
use Rattle.og_cstep.proofs.Shaped.{type_cells}
use Rattle.og_cstep.proofs.Fitted.{fits, fits_there, Fitted, fitted}
use Rattle.og_cstep.proofs.Ended.{end_same, shows_same, outputs_same, field_same}

-- ---- numbers

no_number : (c : Cells) (at : ℕ) (xs : List ℤ) → number_in c ≡ None → number_in (filled at c xs) ≡ None
no_number (Cell z) at xs h = absurd (none-some z (sym h))
no_number Empty at xs h = refl
no_number (Both a b) at xs h = refl

row_number : {A : Type 0} (f : A → Cells) (o : Option (List A)) → number_in (cells_by (λ xs. row (map f xs)) o) ≡ None
row_number f None = refl
row_number f (Some []) = refl
row_number f (Some (x ∷ xs)) = refl

struct_number : (depth : ℕ) (structs : List CStruct) (name : _) → number_in (blank_within depth structs (Struct name)) ≡ None
struct_number zero structs name = refl
struct_number (suc depth) structs name = row_number (λ (m : CMember). sized m.size (blank_within depth structs m.kind)) (members_of structs (Struct name))

type_number : (structs : List CStruct) (t : CType) (at : ℕ) (xs : List ℤ) → only_if (is_int64 t) (get_or xs at (pos 0)) ≡ number_in (filled at (blank_type structs t) xs)
type_number structs Int64 at xs = sym (ap (λ c. number_in (filled at c xs)) (number_laid structs))
type_number structs (Struct name) at xs = sym (no_number (blank_type structs (Struct name)) at xs (struct_number (length structs + 1) structs name))

-- ---- globals

module _ (P : CProgram) (few : cells_of_globals P ≤ 16777216) (xs : List ℤ) where
  abbrev extents : List Extent
  extents = (layout_of P).extents

  abbrev trees : List Cells
  trees = trees_of P xs

  pub extent_is : (k : ℕ) (g : CGlobal) → slice_get P.globals k ≡ Some g → slice_get extents k ≡ Some (extent_of (globals_before P.structs k P.globals) P.structs g)
  extent_is k g e = global_extent P k g (omega (arith, few)) e

  number_at : (sorts : List Sort) (k : ℕ) → number_of extents xs (Some k) ≡ (in_trees sorts trees).number (Some k)
  number_at sorts k =
      elim (slice_get_cases P.globals k).1 [
        | inl found ↦ (let e = found.2 in
            ap (λ o. o >>= number_there xs) (extent_is k found.0 e)
            ∙ type_number P.structs found.0.kind (globals_before P.structs k P.globals) xs
            ∙ sym (ap (λ o. o >>= number_in) (global_is P xs k found.0 e)))
        | inr none ↦ ap (λ o. o >>= number_there xs) (no_extent P k none.1) ∙ sym (ap (λ o. o >>= number_in) (no_global P xs k none.1))
      ]

  pub number_same : (sorts : List Sort) (place : Option ℕ) → number_of extents xs place ≡ (in_trees sorts trees).number place
  number_same sorts None = refl
  number_same sorts (Some k) = number_at sorts k

  pub numbers_same : (sorts : List Sort) → number_of extents xs ≡ (in_trees sorts trees).number
  numbers_same sorts = fun_ext (number_same sorts)

-- ---- values

pub shape_of_global : (P : CProgram) (M : Model) (field : Field) (g : CGlobal) → has_field P M field ≡ true
    → find (λ (h : CGlobal). bytes_eq field.name h.name.bytes) P.globals ≡ Some g → is_shaped P.structs M.types field.shape g.kind ≡ true
shape_of_global P M field g h e =
    sym (ap (λ o. passes (λ (kind : Kind). is_shaped P.structs M.types field.shape kind.type) (o >>= λ (i : CGlobal). Some (record { type = i.kind; size = None }))) e) ∙ h

value_by : (P : CProgram) → structs_known [] P.structs ≡ true → (sorts : List Sort) (s : interface.Shape) (t : CType) (extent : Extent) (xs : List ℤ)
    → extent.is_number ≡ is_int64 t → is_shaped P.structs sorts s t ≡ true
    → value_there sorts xs (kept_shape s) extent ≡ shape_value sorts (kept_shape s) (filled extent.offset (blank_type P.structs t) xs)
value_by P known sorts interface.Number t extent xs is h =
    ap integer_of (ap (λ b. only_if b (get_or xs extent.offset (pos 0))) is ∙ type_number P.structs t extent.offset xs)
value_by P known sorts (interface.Typed s) t extent xs is h =
    ap (λ c. value_in sorts s (filled extent.offset c xs)) (sym (type_cells P.structs known sorts t s h))

module _ (P : CProgram) (M : Model) (loads : first_load_rule P M ≡ None) (xs : List ℤ) where
  abbrev vector : Sight
  vector = in_vector M.types (layout_of P).extents xs

  abbrev in_tree : Sight
  in_tree = in_trees M.types (trees_of P xs)

  value_at : (field : Field) (k : ℕ) → fits P M field ≡ true → place_in field.name (global_names P) ≡ Some k
      → (slice_get (layout_of P).extents k >>= value_there M.types xs (kept_shape field.shape)) ≡ (global k (trees_of P xs) >>= shape_value M.types (kept_shape field.shape))
  value_at field k h e =
      let l = loaded P M loads in
      let one = named (λ (g : CGlobal). g.name.bytes) field.name P.globals k e in
      let at = globals_before P.structs k P.globals in
      ap (λ o. o >>= value_there M.types xs (kept_shape field.shape)) (extent_is P l.small xs k one.one one.there)
      ∙ value_by P l.known M.types field.shape one.one.kind (extent_of at P.structs one.one) xs refl (shape_of_global P M field one.one (fits_there P M field k h e) one.first)
      ∙ sym (ap (λ o. o >>= shape_value M.types (kept_shape field.shape)) (global_is P xs k one.one one.there))

  value_placed : (field : Field) (o : Option ℕ) → place_in field.name (global_names P) ≡ o → fits P M field ≡ true
      → vector.value (record { place = o; shape = kept_shape field.shape }) ≡ in_tree.value (record { place = o; shape = kept_shape field.shape })
  value_placed field None e h = refl
  value_placed field (Some k) e h = value_at field k h e

  pub value_same : (field : Field) → fits P M field ≡ true → vector.value (slot_named (global_names P) field) ≡ in_tree.value (slot_named (global_names P) field)
  value_same field h = value_placed field (place_in field.name (global_names P)) refl h

  held_same : (fields : List Field) → list_all (fits P M) fields ≡ true → are_held vector (slots_named (global_names P) fields) ≡ are_held in_tree (slots_named (global_names P) fields)
  held_same [] h = refl
  held_same (field ∷ fields) h =
      ap (λ v. is_some v && are_held vector (slots_named (global_names P) fields)) (value_same field (both_first (fits P M field) (list_all (fits P M) fields) h))
      ∙ ap (λ b. is_some (in_tree.value (slot_named (global_names P) field)) && b) (held_same fields (both_second (fits P M field) (list_all (fits P M) fields) h))

-- ---- ends and events

module _ (I : Interface) (s t : Sight) (numbers : s.number ≡ t.number) (held : variables_held s I ≡ variables_held t I) where
  rest_by : rest_answer s I ≡ rest_answer t I
  rest_by =
      ap (λ n. answer_if (regions_held n I && (variables_held s I && timers_held n I)) advance.Rest) numbers
      ∙ ap (λ b. answer_if (regions_held t.number I && (b && timers_held t.number I)) advance.Rest) held

  stopped_by : stopped_answer s I ≡ stopped_answer t I
  stopped_by = ap (λ b. answer_if b advance.Stopped) held

  fault_by : (z : ℤ) → fault_answer s I z ≡ fault_answer t I z
  fault_by z =
      ap (λ n. fault_of (variables_held s I && timers_held n I) (kind_numbered z) (fault_place n I)) numbers
      ∙ ap (λ b. fault_of (b && timers_held t.number I) (kind_numbered z) (fault_place t.number I)) held

  stopped_case : (o : Option ℤ) → by_stopped s I o ≡ by_stopped t I o
  stopped_case None = refl
  stopped_case (Some (pos zero)) = rest_by
  stopped_case (Some (pos (suc n))) = stopped_by
  stopped_case (Some (negsuc n)) = stopped_by

  kind_case : (o : Option ℤ) → by_kind s I o ≡ by_kind t I o
  kind_case None = refl
  kind_case (Some (pos zero)) = ap (λ (n : Numbers). by_stopped s I (n I.stopped)) numbers ∙ stopped_case (t.number I.stopped)
  kind_case (Some (pos (suc n))) = fault_by (pos (suc n))
  kind_case (Some (negsuc n)) = fault_by (negsuc n)

  pub end_by : end_answer s I ≡ end_answer t I
  end_by = ap (λ (n : Numbers). by_kind s I (n I.kind)) numbers ∙ kind_case (t.number I.kind)

-- how a run has ended
pub end_seen : (P : CProgram) (M : Model) (xs : List ℤ) → first_load_rule P M ≡ None
    → end_answer (in_vector M.types (layout_of P).extents xs) (interface_of P M) ≡ answer_at_end (end_of M (global_names P) (trees_of P xs))
end_seen P M xs loads =
    end_by (interface_of P M) (in_vector M.types (layout_of P).extents xs) (in_trees M.types (trees_of P xs)) (numbers_same P (loaded P M loads).small xs M.types)
    (held_same P M loads xs (interface.variable_fields M) (fitted P M loads).variables)
    ∙ end_same M (global_names P) (trees_of P xs)

-- whether an event can be read
event_by : (P : CProgram) (M : Model) (xs : List ℤ) → first_load_rule P M ≡ None → (e : EventId)
    → shows (in_vector M.types (layout_of P).extents xs) (interface_of P M) e ≡ shows (in_trees M.types (trees_of P xs)) (interface_of P M) e
event_by P M xs loads (event.Output k) =
    let names = global_names P in
    ap (are_held (in_vector M.types (layout_of P).extents xs)) (outputs_same M names k)
    ∙ held_same P M loads xs (interface.outputs_of M k) ((fitted P M loads).outputs k)
    ∙ sym (ap (are_held (in_trees M.types (trees_of P xs))) (outputs_same M names k))
event_by P M xs loads (event.Set k) = ap (λ (n : Numbers). is_some (duration_at n (duration_slot (interface_of P M) k))) (numbers_same P (loaded P M loads).small xs M.types)
event_by P M xs loads (event.Reset k) = refl

pub event_seen : (P : CProgram) (M : Model) (xs : List ℤ) → first_load_rule P M ≡ None → (e : EventId)
    → shows (in_vector M.types (layout_of P).extents xs) (interface_of P M) e ≡ is_some (event_shown M (record { names = global_names P; cells = trees_of P xs }) e)
event_seen P M xs loads e = event_by P M xs loads e ∙ shows_same M (global_names P) (trees_of P xs) e

-- ---- values of parameters and variables

value_by_field : (P : CProgram) (M : Model) (xs : List ℤ) → first_load_rule P M ≡ None → (o : Option Field) → ((field : Field) → o ≡ Some field → fits P M field ≡ true)
    → value_if M.types (layout_of P).extents xs (option_map (slot_named (global_names P)) o) ≡ (o >>= value_of_field M (record { names = global_names P; cells = trees_of P xs }))
value_by_field P M xs loads None h = refl
value_by_field P M xs loads (Some field) h =
    value_same P M loads xs field (h field refl) ∙ sym (field_same M (record { names = global_names P; cells = trees_of P xs }) field)

-- the value of an output's parameter
pub argument_seen : (P : CProgram) (M : Model) (xs : List ℤ) → first_load_rule P M ≡ None → (signal k : ℕ)
    → value_if M.types (layout_of P).extents xs (output_slot (interface_of P M) signal k)
    ≡ (slice_get (interface.outputs_of M signal) k >>= value_of_field M (record { names = global_names P; cells = trees_of P xs }))
argument_seen P M xs loads signal k =
    let names = global_names P in
    ap (λ (slots : List Slot). value_if M.types (layout_of P).extents xs (slice_get slots k)) (outputs_same M names signal)
    ∙ ap (value_if M.types (layout_of P).extents xs) (slice_get-map (slot_named names) (interface.outputs_of M signal) k)
    ∙ value_by_field P M xs loads (slice_get (interface.outputs_of M signal) k) (λ field e. all_at (fits P M) (interface.outputs_of M signal) k field ((fitted P M loads).outputs signal) e)

-- the value of a variable
pub variable_seen : (P : CProgram) (M : Model) (xs : List ℤ) → first_load_rule P M ≡ None → (k : ℕ)
    → value_if M.types (layout_of P).extents xs (slice_get (interface_of P M).variables k)
    ≡ (slice_get (interface.variable_fields M) k >>= value_of_field M (record { names = global_names P; cells = trees_of P xs }))
variable_seen P M xs loads k =
    let names = global_names P in
    ap (value_if M.types (layout_of P).extents xs) (slice_get-map (slot_named names) (interface.variable_fields M) k)
    ∙ value_by_field P M xs loads (slice_get (interface.variable_fields M) k) (λ field e. all_at (fits P M) (interface.variable_fields M) k field (fitted P M loads).variables e)
