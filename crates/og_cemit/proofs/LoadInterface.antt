-- The program has the interface of the model.
use Rattle.std.proofs.Common.{◌<◌, eqb-true, ◌≡◌, ℕ, zero, suc, ◌+◌, List, [], ◌∷◌, ◌++◌, Bool, true, false, cond, not, ◌&&◌, ◌||◌, ◌⊎◌, inl, inr, Option, Some, None, map, slice_get, refl, sym, ap, ◌∙◌, arith}
use Rattle.std.specs.Prelude.{option_map, codes}
use Rattle.std.specs.List.{list_all}
use Rattle.std.specs.Str.{bytes_eq}
use Rattle.std.proofs.lemmas.Bool.{false≢true}
use Rattle.std.proofs.lemmas.Option.{none-some}
use Rattle.og_names.specs.declared.Word.{Word}
use Rattle.og_types.specs.declared.Sort.{Sort}
use Rattle.og_types.specs.declared.Sort.TheVariants as sort
use Rattle.og_types.specs.declared.TypeId.{TypeId}
use Rattle.og_model.specs.declared.Model.{Model}
use Rattle.og_model.specs.declared.EventId.{EventId}
use Rattle.og_model.specs.declared.EventId.TheVariants as event_id
use Rattle.og_ir.specs.declared.Ir.{Ir}
use Rattle.og_ir.specs.declared.SlotDef.{SlotDef}
use Rattle.og_ir.specs.declared.SlotSort.{SlotSort}
use Rattle.og_ir.specs.declared.SlotSort.TheVariants as slot_sort
use Rattle.og_ir.specs.Cells.{◌>>=◌}
use Rattle.og_csubset.specs.declared.CType.{CType}
use Rattle.og_csubset.specs.declared.CType.TheVariants.{Int64}
use Rattle.og_csubset.specs.Kinds.{place_in, is_in, struct_names, event_names}
use Rattle.og_csubset.specs.Interface as interface
use Rattle.og_csubset.specs.Interface.{Shape, Typed, Field, signal_name, signal_sorts, parameters_from, functions_of, fields_of, events_of, event_name, event_globals}
use Rattle.og_csubset.specs.Loading.{passes, is_int64, shape_by, shape_within, is_shaped, has_field, is_free, has_event, breaks_K9}
use Rattle.og_csubset.specs.FlatRun.{slot_names, flat_function_names}
use Rattle.og_csubset.specs.Fair.{Held, One, Whole, Array, held_by, held_as, supported_within, is_supported, held_in_slot, held_in_shape, joins, is_one, has_slot, has_values, is_shown, names_of, Fair}
use Rattle.og_csubset.proofs.Steady.{all_at}
use Rattle.og_cemit.specs.Emitted.{program_of}
use Rattle.og_cemit.specs.Structs.{leading, prefix_of, type_held, type_of, type_of_slot, structs_of, AreFew}
use Rattle.og_cemit.proofs.MemberNames.{struct_leads}
use Rattle.og_cemit.proofs.Needed.{needed_slot}
use Rattle.og_cemit.proofs.StructCells.{shapes, type_there}
use Rattle.og_cemit.proofs.StructNames.{struct_name, structs_free}
use Rattle.og_cemit.proofs.Structures.{held_type}
use Rattle.og_cemit.proofs.Names.{get_map, is_in_at, is_in-append}
use Rattle.og_cemit.proofs.Parts.{function_names_are, flat_event_names, functions_apart, slots_apart, kind_of_slots}
use Rattle.og_cemit.proofs.LoadNames.{event_is_flat, all_names_are, free_name, declared_shown}
use Rattle.og_cemit.proofs.Tests.{all_by}
use Rattle.og_cemit.proofs.Tests.{false_by}
use Rattle.og_names.proofs.Truths.{both_first as left_of, both_second as right_of, both_true as both, either_first as or_first, either_second as or_second, either_true as either, neither_true as neither, not_true, same_value}

-- ---- fields

-- the type of a slot has the shape of a field that it is joined with
joined_shaped : (ir : Ir) (model : Model) (fair : Fair ir model) (few : AreFew model.types) (j : ℕ) (slot : SlotDef) → slice_get ir.slots j ≡ Some slot
    → (shape : Shape) → joins (held_in_slot model.types slot.sort) (held_in_shape model.types shape) ≡ true
    → is_shaped (structs_of ir model) model.types shape (type_of_slot (prefix_of ir) model.types slot.sort) ≡ true
joined_shaped ir model fair few j slot e shape h = by_sort slot.sort refl (all_at (λ (x : SlotDef). is_supported model.types x.sort) ir.slots j slot fair.supported e) shape h
  where
    one_type : (o : Option Held) → is_one o ≡ true → type_held (prefix_of ir) o ≡ Int64
    one_type None q = absurd (false≢true q)
    one_type (Some One) q = refl
    one_type (Some (Whole t)) q = absurd (false≢true q)
    one_type (Some (Array t)) q = absurd (false≢true q)

    one_sort : (t : TypeId) (s : Sort) (inside : CType → TypeId → Bool) → is_one (held_by t s) ≡ true → shape_by inside (structs_of ir model) Int64 (Some s) ≡ true
    one_sort t (sort.Int lo hi) inside q = refl
    one_sort t sort.Bool inside q = refl
    one_sort t (sort.Enumerated names numbers) inside q = refl
    one_sort t (sort.Sequence []) inside q = refl
    one_sort t (sort.Sequence (p ∷ parts)) inside q = absurd (false≢true q)
    one_sort t (sort.Choice parts) inside q = absurd (false≢true q)
    one_sort t (sort.SeqOf lo hi item) inside q = absurd (false≢true q)
    one_sort t sort.Opaque inside q = absurd (false≢true q)

    one_shaped : (t : TypeId) → is_one (held_as model.types t) ≡ true → shape_within (t.0 + 1) (structs_of ir model) model.types Int64 t ≡ true
    one_shaped t q = let next : t.0 + 1 ≡ suc t.0 = omega arith in
        ap (λ d. shape_within d (structs_of ir model) model.types Int64 t) next ∙ by_type (slice_get model.types t.0) q
      where
        by_type : (o : Option Sort) → is_one (o >>= held_by t) ≡ true → shape_by (shape_within t.0 (structs_of ir model) model.types) (structs_of ir model) Int64 o ≡ true
        by_type None q' = absurd (false≢true q')
        by_type (Some s) q' = one_sort t s (shape_within t.0 (structs_of ir model) model.types) q'

    left_one : (o : Option Held) → joins (Some One) o ≡ true → is_one o ≡ true
    left_one None q = absurd (false≢true q)
    left_one (Some x) q = q

    right_one : (o : Option Held) → joins o (Some One) ≡ true → is_one o ≡ true
    right_one None q = absurd (false≢true q)
    right_one (Some One) q = q
    right_one (Some (Whole t)) q = q
    right_one (Some (Array t)) q = q

    by_types : (u t : TypeId) → slot.sort ≡ slot_sort.Shaped u → supported_within (u.0 + 1) model.types u ≡ true → (o o' : Option Held)
        → held_as model.types u ≡ o → held_as model.types t ≡ o' → joins o o' ≡ true
        → shape_within (t.0 + 1) (structs_of ir model) model.types (type_of (prefix_of ir) model.types u) t ≡ true
    by_types u t is supported None o' e' e'' q = absurd (false≢true q)
    by_types u t is supported (Some x) None e' e'' q = absurd (false≢true q)
    by_types u t is supported (Some One) (Some y) e' e'' q =
        ap (λ c. shape_within (t.0 + 1) (structs_of ir model) model.types c t) (one_type (held_as model.types u) (ap is_one e')) ∙ one_shaped t (ap is_one e'' ∙ q)
    by_types u t is supported (Some (Whole v)) (Some One) e' e'' q = absurd (false≢true q)
    by_types u t is supported (Some (Whole v)) (Some (Whole w)) e' e'' q =
        let same : t.0 ≡ u.0 = ap (λ (x : TypeId). x.0) (sym (held_type model.types t w e'')) ∙ sym (eqb-true v.0 w.0 q) ∙ ap (λ (x : TypeId). x.0) (held_type model.types u v e') in
        ap (λ n. shape_within (n + 1) (structs_of ir model) model.types (type_of (prefix_of ir) model.types u) (record { 0 = n })) same
        ∙ shapes ir model fair few (u.0 + 1) (u.0 + 1) u supported (needed_slot model ir j slot u e is (type_there ir model fair few (u.0 + 1) u supported)) (omega arith)
    by_types u t is supported (Some (Whole v)) (Some (Array w)) e' e'' q = absurd (false≢true q)
    by_types u t is supported (Some (Array v)) (Some y) e' e'' q = absurd (false≢true q)

    by_sort : (s : SlotSort) → slot.sort ≡ s → is_supported model.types s ≡ true → (f : Shape) → joins (held_in_slot model.types s) (held_in_shape model.types f) ≡ true
        → is_shaped (structs_of ir model) model.types f (type_of_slot (prefix_of ir) model.types s) ≡ true
    by_sort slot_sort.Cell is supported interface.Number q = refl
    by_sort slot_sort.Cell is supported (Typed t) q = one_shaped t (left_one (held_as model.types t) q)
    by_sort (slot_sort.Shaped u) is supported interface.Number q = ap is_int64 (one_type (held_as model.types u) (right_one (held_as model.types u) q))
    by_sort (slot_sort.Shaped u) is supported (Typed t) q = by_types u t is supported (held_as model.types u) (held_as model.types t) refl refl q

-- a name with a place is in
placed_in : (name : List ℕ) (names : List (List ℕ)) (k : ℕ) → place_in name names ≡ Some k → is_in name names ≡ true
placed_in name [] k e = absurd (none-some k e)
placed_in name (x ∷ names) k e = by_test (bytes_eq name x) e (placed_in name names)
  where
    by_rest : (o : Option ℕ) → place_in name names ≡ o → (o >>= λ j. Some (j + 1)) ≡ Some k
        → ((j : ℕ) → place_in name names ≡ Some j → is_in name names ≡ true) → is_in name names ≡ true
    by_rest None e' h more = absurd (none-some k h)
    by_rest (Some j) e' h more = more j e'

    by_test : (b : Bool) → cond b (Some 0) (place_in name names >>= λ j. Some (j + 1)) ≡ Some k
        → ((j : ℕ) → place_in name names ≡ Some j → is_in name names ≡ true) → (b || is_in name names) ≡ true
    by_test true h more = refl
    by_test false h more = by_rest (place_in name names) refl h more

field_there : (ir : Ir) (model : Model) (fair : Fair ir model) (few : AreFew model.types) (field : Field) → has_slot model.types ir field ≡ true
    → has_field (program_of ir model) model field ≡ true
field_there ir model fair few field h = by_place (place_in field.name (slot_names ir)) refl h
  where
    by_slot : (k : ℕ) → place_in field.name (slot_names ir) ≡ Some k → (o : Option SlotDef) → slice_get ir.slots k ≡ o
        → joins (o >>= λ def. held_in_slot model.types def.sort) (held_in_shape model.types field.shape) ≡ true
        → has_field (program_of ir model) model field ≡ true
    by_slot k e None e' q = absurd (false≢true q)
    by_slot k e (Some def) e' q =
        ap (passes (λ kind. is_shaped (structs_of ir model) model.types field.shape kind.type)) (kind_of_slots (prefix_of ir) model.types ir.slots k def field.name e e')
        ∙ joined_shaped ir model fair few k def e' field.shape q

    by_place : (o : Option ℕ) → place_in field.name (slot_names ir) ≡ o
        → joins (o >>= slice_get ir.slots >>= λ def. held_in_slot model.types def.sort) (held_in_shape model.types field.shape) ≡ true
        → has_field (program_of ir model) model field ≡ true
    by_place None e q = absurd (false≢true q)
    by_place (Some k) e q = by_slot k e (slice_get ir.slots k) refl q

fields_there : (ir : Ir) (model : Model) (fair : Fair ir model) (few : AreFew model.types) (fields : List Field)
    → list_all (has_slot model.types ir) fields ≡ true → list_all (has_field (program_of ir model) model) fields ≡ true
fields_there ir model fair few fields h =
    all_by (has_field (program_of ir model) model) fields (λ j field e. field_there ir model fair few field (all_at (has_slot model.types ir) fields j field h e))

-- ---- events

module _ (ir : Ir) (model : Model) (fair : Fair ir model) (few : AreFew model.types) where
  abbrev fits : ℕ → Field → Bool
  fits k field = has_slot model.types ir field || (not (is_shown ir k) && not (is_in field.name (names_of ir)))

  values_at : (from : ℕ) (events : List EventId) (k : ℕ) (event : EventId) → has_values model ir from events ≡ true
      → slice_get events k ≡ Some event → list_all (fits (from + k)) (event_globals model event) ≡ true
  values_at from [] k event h e = absurd (none-some event e)
  values_at from (x ∷ events) zero event h e =
      let same : x ≡ event = cc (e) in
      let here : from ≡ from + 0 = omega arith in
      ap (λ n. list_all (fits n) (event_globals model event)) (sym here)
      ∙ ap (λ (y : EventId). list_all (fits from) (event_globals model y)) (sym same)
      ∙ left_of (list_all (fits from) (event_globals model x)) (has_values model ir (from + 1) events) h
  values_at from (x ∷ events) (suc k) event h e =
      let here : from + 1 + k ≡ from + suc k = omega arith in
      ap (λ n. list_all (fits n) (event_globals model event)) (sym here)
      ∙ values_at (from + 1) events k event (right_of (list_all (fits from) (event_globals model x)) (has_values model ir (from + 1) events) h) e

  -- the event of the code that stands where one of the model does
  flat_event_at : (k : ℕ) (event : EventId) → slice_get (events_of model) k ≡ Some event
      → (w : Word) × (slice_get ir.events k ≡ Some w) × (w.bytes ≡ event_name model event)
  flat_event_at k event e = by_event (slice_get ir.events k) refl
    where
      names : option_map (λ (w : Word). w.bytes) (slice_get ir.events k) ≡ Some (event_name model event)
      names =
          sym (get_map (λ (w : Word). w.bytes) ir.events k) ∙ ap (λ l. slice_get l k) fair.events
          ∙ get_map (event_name model) (events_of model) k ∙ ap (option_map (event_name model)) e

      by_event : (o : Option Word) → slice_get ir.events k ≡ o
          → (w : Word) × (slice_get ir.events k ≡ Some w) × (w.bytes ≡ event_name model event)
      by_event None e' = absurd (none-some _ (sym (ap (option_map (λ (w : Word). w.bytes)) e') ∙ names))
      by_event (Some w) e' = (w, e', let same : Some w.bytes ≡ Some (event_name model event) = sym (ap (option_map (λ (x : Word). x.bytes)) e') ∙ names in cc (same))

  -- a field of an event that is declared
  shown_field : (k : ℕ) → is_shown ir k ≡ true → (field : Field) → fits k field ≡ true → has_field (program_of ir model) model field ≡ true
  shown_field k shown field h = by_side (either (has_slot model.types ir field) (not (is_shown ir k) && not (is_in field.name (names_of ir))) h)
    where
      by_side : (has_slot model.types ir field ≡ true) ⊎ ((not (is_shown ir k) && not (is_in field.name (names_of ir))) ≡ true)
          → has_field (program_of ir model) model field ≡ true
      by_side (inl e) = field_there ir model fair few field e
      by_side (inr e) = absurd (false≢true (sym (ap not shown) ∙ left_of (not (is_shown ir k)) _ e))

  -- and of one that is not
  free_field : (k : ℕ) (field : Field) → fits k field ≡ true → is_in field.name (struct_names (program_of ir model)) ≡ false
      → (is_free (program_of ir model) field.name || has_field (program_of ir model) model field) ≡ true
  free_field k field h apart = by_side (either (has_slot model.types ir field) (not (is_shown ir k) && not (is_in field.name (names_of ir))) h)
    where
      by_side : (has_slot model.types ir field ≡ true) ⊎ ((not (is_shown ir k) && not (is_in field.name (names_of ir))) ≡ true)
          → (is_free (program_of ir model) field.name || has_field (program_of ir model) model field) ≡ true
      by_side (inl e) = or_second (is_free (program_of ir model) field.name) (has_field (program_of ir model) model field) (field_there ir model fair few field e)
      by_side (inr e) =
          or_first (is_free (program_of ir model) field.name) (has_field (program_of ir model) model field)
          (ap not (free_name ir model fair field.name (not_true (is_in field.name (names_of ir)) (right_of (not (is_shown ir k)) _ e)) apart))

  -- an event that is not declared has a free name
  free_event : (k : ℕ) (w : Word) → slice_get ir.events k ≡ Some w → is_in w.bytes (event_names (program_of ir model)) ≡ false
      → is_free (program_of ir model) w.bytes ≡ true
  free_event k w e out =
      ap not (ap (is_in w.bytes) (all_names_are ir model fair)
      ∙ is_in-append w.bytes ((struct_names (program_of ir model) ++ slot_names ir) ++ event_names (program_of ir model)) (flat_function_names ir)
      ∙ neither _ _
      (is_in-append w.bytes (struct_names (program_of ir model) ++ slot_names ir) (event_names (program_of ir model)) ∙ neither _ _
      (is_in-append w.bytes (struct_names (program_of ir model)) (slot_names ir) ∙ neither _ _
      (false_by _ (λ h. false≢true (sym (structs_free ir model w.bytes h) ∙ named)))
      (false_by _ (λ h. false≢true (sym ((slots_apart ir model fair).apart w.bytes h) ∙ flat)))) out)
      ((functions_apart ir model fair).apart w.bytes front))
    where
      flat : is_in w.bytes (flat_event_names ir) ≡ true
      flat = is_in_at (flat_event_names ir) k w.bytes (get_map (λ (x : Word). x.bytes) ir.events k ∙ ap (option_map (λ (x : Word). x.bytes)) e)

      front : is_in w.bytes (slot_names ir ++ flat_event_names ir) ≡ true
      front = is_in-append w.bytes (slot_names ir) (flat_event_names ir) ∙ or_second (is_in w.bytes (slot_names ir)) (is_in w.bytes (flat_event_names ir)) flat

      named : is_in w.bytes (names_of ir) ≡ true
      named = is_in-append w.bytes (slot_names ir ++ flat_event_names ir) (flat_function_names ir) ∙ or_first (is_in w.bytes (slot_names ir ++ flat_event_names ir)) (is_in w.bytes (flat_function_names ir)) front

  -- the name of a value begins with a small letter, and that of a struct does not
  value_apart : (event : EventId) (j : ℕ) (field : Field) → slice_get (event_globals model event) j ≡ Some field → is_in field.name (struct_names (program_of ir model)) ≡ false
  value_apart event j field e = false_by _ (λ h.
      let one = struct_name ir model field.name h in
      let least = struct_leads ir one.0 in
      let same = ap leading one.1 in
      let none = value_leads event j field e in
      omega (arith, least, same, none))
    where
      outputs_lead : (k : ℕ) (name : List ℕ) (types : List TypeId) (i : ℕ) (f : Field) → slice_get (parameters_from k (codes "o_" ++ name) types) i ≡ Some f → leading f.name ≡ 0
      outputs_lead k name [] i f q = absurd (none-some f q)
      outputs_lead k name (t ∷ types) zero f q = ap (λ (x : Field). leading x.name) (sym (same_value _ f q))
      outputs_lead k name (t ∷ types) (suc i) f q = outputs_lead (k + 1) name types i f q

      value_leads : (ev : EventId) (i : ℕ) (f : Field) → slice_get (event_globals model ev) i ≡ Some f → leading f.name ≡ 0
      value_leads (event_id.Output k) i f q = outputs_lead 1 (signal_name model k) (signal_sorts model k) i f q
      value_leads (event_id.Set k) zero f q = ap (λ (x : Field). leading x.name) (sym (same_value _ f q))
      value_leads (event_id.Set k) (suc i) f q = absurd (none-some f q)
      value_leads (event_id.Reset k) i f q = absurd (none-some f q)

  event_there : (k : ℕ) (event : EventId) → slice_get (events_of model) k ≡ Some event → has_event (program_of ir model) model event ≡ true
  event_there k event e = by_test (is_in (event_name model event) (event_names (program_of ir model))) refl
    where
      one : (w : Word) × (slice_get ir.events k ≡ Some w) × (w.bytes ≡ event_name model event)
      one = flat_event_at k event e

      zero_plus : 0 + k ≡ k
      zero_plus = omega arith

      values : list_all (fits k) (event_globals model event) ≡ true
      values = ap (λ n. list_all (fits n) (event_globals model event)) (sym zero_plus) ∙ values_at 0 (events_of model) k event fair.values e

      by_test : (b : Bool) → is_in (event_name model event) (event_names (program_of ir model)) ≡ b
          → cond b (list_all (has_field (program_of ir model) model) (event_globals model event)) (is_free (program_of ir model) (event_name model event) && list_all (λ field. is_free (program_of ir model) field.name || has_field (program_of ir model) model field) (event_globals model event)) ≡ true
      by_test true inside =
          let shown = declared_shown ir model fair k one.0 one.1 (ap (λ n. is_in n (event_names (program_of ir model))) one.2 ∙ inside) in
          all_by (has_field (program_of ir model) model) (event_globals model event) (λ j field e'. shown_field k shown field (all_at (fits k) (event_globals model event) j field values e'))
      by_test false out =
          both _ _
          (ap (is_free (program_of ir model)) (sym one.2) ∙ free_event k one.0 one.1 (ap (λ n. is_in n (event_names (program_of ir model))) one.2 ∙ out))
          (all_by (λ field. is_free (program_of ir model) field.name || has_field (program_of ir model) model field) (event_globals model event) (λ j field e'. free_field k field (all_at (fits k) (event_globals model event) j field values e') (value_apart event j field e')))

  pub keeps_K9 : breaks_K9 (program_of ir model) model ≡ false
  keeps_K9 =
      ap not (both _ _ (both _ _ (both _ _
      (ap (λ names. list_all (λ name. is_in name names) (functions_of model)) (function_names_are ir model) ∙ fair.functions)
      (fields_there ir model fair few (fields_of model) fair.fields))
      (all_by (has_event (program_of ir model) model) (events_of model) event_there))
      (all_by (λ name. is_in name (map (event_name model) (events_of model))) (event_names (program_of ir model)) (λ j name e.
      ap (is_in name) (sym fair.events) ∙ event_is_flat ir model fair name (is_in_at (event_names (program_of ir model)) j name e))))
