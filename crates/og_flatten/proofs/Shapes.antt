-- The slots of the interface are there: those of the one region and of the control, and those of the parameters of signals.
use Rattle.std.proofs.Common.{◌≡◌, ℕ, zero, suc, ◌+◌, List, [], ◌∷◌, ◌++◌, Bool, true, false, not, cond, ◌&&◌, ◌||◌, map, length, take, slice_get, Option, Some, if◌then◌else◌, refl, sym, ap, ◌∙◌}
use Rattle.std.specs.Prelude.{codes, flat_map}
use Rattle.std.specs.Option.{option_map}
use Rattle.std.specs.List.{list_all, range_with_len}
use Rattle.std.proofs.lemmas.Bool.{and_from}
use Rattle.std.proofs.lemmas.Option.{slice_get-map}
use Rattle.og_types.specs.declared.Sort.{Sort}
use Rattle.og_names.specs.declared.NameId.{NameId}
use Rattle.og_model.specs.declared.Model.{Model}
use Rattle.og_model.specs.declared.Signal.{Signal}
use Rattle.og_model.specs.declared.EventId.{EventId}
use Rattle.og_model.specs.declared.EventId.TheVariants as event
use Rattle.og_model.specs.RegionTypes.{Region}
use Rattle.og_model.specs.Regions.{regions}
use Rattle.og_ir.specs.declared.SlotDef.{SlotDef}
use Rattle.og_ir.specs.Cells.{◌>>=◌}
use Rattle.og_csubset.specs.Interface as interface
use Rattle.og_csubset.specs.Interface.{Shape, Typed, Field, name_of, name_if, signal_id, numbers_below, parameters_from, incoming_from, incoming, sorts_of, region_field, number_field, stopped_name, kind_name, file_name, line_name, column_name, variable_field, timer_field, control_fields, variable_fields, timer_fields, fields_of, events_of}
use Rattle.og_csubset.specs.Fair.{names_of, has_slot, is_shown, has_values, joins, held_in_slot, held_in_shape}
use Rattle.og_csubset.specs.Kinds.{is_in}
use Rattle.og_csubset.specs.Loading.{has_twice}
use Rattle.og_csubset.specs.FlatRun.{slot_names}
use Rattle.og_flatten.specs.Slots as Slots
use Rattle.og_flatten.specs.Slots.{slot_of, slots_of, sort_of, inputs_of, outputs_of}
use Rattle.og_flatten.proofs.PlainSlots.{def_names, input_fields, output_fields, parameter_fields, plain_fields, with_slots, one_region, plain_code}
use Rattle.og_flatten.proofs.Parameters.{is_held, fields_held}
use Rattle.og_flatten.proofs.Apart.{slots_apart}
use Rattle.og_flatten.proofs.Basic.{every}
use Rattle.og_flatten.proofs.Interfaces.{place_of}
use Rattle.og_flatten.proofs.Numbered.{From, all_signals, the_others, at_first}
use Rattle.og_flatten.proofs.Made.{IsMade}
use Rattle.og_flatten.proofs.Tests.{all_append, all_at, all_by, front_all, back_all}
use Rattle.og_names.proofs.Truths.{either_first}

-- ---- a slot for each field

same_shape : (sorts : List Sort) (field : Field) → held_in_slot sorts (slot_of field).sort ≡ held_in_shape sorts field.shape
same_shape sorts field = by field.shape
  where
    by : (shape : Shape) → held_in_slot sorts (sort_of shape) ≡ held_in_shape sorts shape
    by interface.Number = refl
    by (Typed t) = refl

-- where no name stands twice, each field whose slot is among these has its slot
pub each_has_slot : (model : Model) (fields : List Field) → has_twice (slot_names (with_slots model (slots_of fields))) ≡ false → list_all (is_held model.types) fields ≡ true
    → list_all (has_slot model.types (with_slots model (slots_of fields))) fields ≡ true
each_has_slot model fields once held =
    all_at (has_slot model.types (with_slots model (slots_of fields))) fields
    (λ i f at.
    let defs : List SlotDef = slots_of fields in
    let there : slice_get defs i ≡ Some (slot_of f) = slice_get-map slot_of fields i ∙ ap (option_map slot_of) at in
    let named : slice_get (def_names defs) i ≡ Some f.name = slice_get-map (λ (d : SlotDef). d.name.bytes) defs i ∙ ap (option_map (λ (d : SlotDef). d.name.bytes)) there in
    ap (λ o. joins (o >>= slice_get defs >>= λ (d : SlotDef). held_in_slot model.types d.sort) (held_in_shape model.types f.shape)) (place_of (def_names defs) i f.name once named)
    ∙ ap (λ o. joins (o >>= λ (d : SlotDef). held_in_slot model.types d.sort) (held_in_shape model.types f.shape)) there
    ∙ ap (λ o. joins o (held_in_shape model.types f.shape)) (same_shape model.types f)
    ∙ every (is_held model.types) fields i f held at)

-- the fields of signals by their numbers
inputs_at : (model : Model) (k : ℕ) (s : Signal) (signals : List Signal) → From model k (s ∷ signals) → interface.inputs_of model k ≡ parameters_from 1 (codes "i_" ++ name_of model s.name) s.sorts
inputs_at model k s signals from =
    ap (λ (o : Option Signal). parameters_from 1 (codes "i_" ++ name_if model (signal_id o)) (sorts_of o)) (at_first model k s signals from)

outputs_at : (model : Model) (k : ℕ) (s : Signal) (signals : List Signal) → From model k (s ∷ signals) → interface.outputs_of model k ≡ outputs_of model s
outputs_at model k s signals from =
    ap (λ (o : Option Signal). parameters_from 1 (codes "o_" ++ name_if model (signal_id o)) (sorts_of o)) (at_first model k s signals from)

inputs_if : (model : Model) (k : ℕ) (s : Signal) (b : Bool) (ks : List ℕ) → interface.inputs_of model k ≡ parameters_from 1 (codes "i_" ++ name_of model s.name) s.sorts
    → flat_map (interface.inputs_of model) ((if b then k ∷ [] else []) ++ ks) ≡ cond b (parameters_from 1 (codes "i_" ++ name_of model s.name) s.sorts) [] ++ flat_map (interface.inputs_of model) ks
inputs_if model k s true ks is = ap (λ fs. fs ++ flat_map (interface.inputs_of model) ks) is
inputs_if model k s false ks is = refl

inputs_from : (model : Model) (k : ℕ) (signals : List Signal) → From model k signals → flat_map (interface.inputs_of model) (incoming_from k signals) ≡ flat_map (inputs_of model) signals
inputs_from model k [] from = refl
inputs_from model k (s ∷ signals) from =
    inputs_if model k s s.incoming (incoming_from (k + 1) signals) (inputs_at model k s signals from)
    ∙ ap (λ fs. inputs_of model s ++ fs) (inputs_from model (k + 1) signals (the_others model k s signals from))

abbrev with_regions : Model → List Region → List Field
with_regions model rs =
    map (region_field model) rs ++ map number_field (stopped_name ∷ kind_name ∷ file_name ∷ line_name ∷ column_name ∷ [])

abbrev timer_events : List ℕ → List EventId
timer_events ks = flat_map (λ (k : ℕ). event.Set k ∷ event.Reset k ∷ []) ks

-- a field of the event of this number has a slot, or no slot is asked
abbrev has_value : Model → ℕ → Field → Bool
has_value model k field =
    has_slot model.types (plain_code model) field || (not (is_shown (plain_code model) k) && not (is_in field.name (names_of (plain_code model))))

module _ (model : Model) (made : IsMade model) where
  pub control : map (λ (field : Field). field.name) (control_fields model) ≡ take (length (control_fields model)) (slot_names (plain_code model))
  control =
      ap (λ (rs : List Region). map (λ (field : Field). field.name) (with_regions model rs)) (one_region model made.basic)
      ∙ sym (ap (λ (rs : List Region). take (length (with_regions model rs)) (slot_names (plain_code model))) (one_region model made.basic))

  -- ---- fields

  all_held : list_all (is_held model.types) (plain_fields model) ≡ true
  all_held = fields_held model made.formed.rules.supported_parameters

  -- each of the fields has a slot
  all_have : list_all (has_slot model.types (plain_code model)) (plain_fields model) ≡ true
  all_have = each_has_slot model (plain_fields model) (slots_apart model made) all_held

  parameters_have : list_all (has_slot model.types (plain_code model)) (parameter_fields model) ≡ true
  parameters_have = back_all (has_slot model.types (plain_code model)) (number_field (codes "r") ∷ Slots.control_fields) (parameter_fields model) all_have

  has_control : list_all (has_slot model.types (plain_code model)) (control_fields model) ≡ true
  has_control =
      ap (λ (rs : List Region). list_all (has_slot model.types (plain_code model)) (with_regions model rs)) (one_region model made.basic)

  pub fields : list_all (has_slot model.types (plain_code model)) (fields_of model) ≡ true
  fields =
      all_append (has_slot model.types (plain_code model)) (control_fields model ++ variable_fields model ++ timer_fields model) (flat_map (interface.inputs_of model) (incoming model))
      (all_append (has_slot model.types (plain_code model)) (control_fields model ++ variable_fields model) (timer_fields model)
      (all_append (has_slot model.types (plain_code model)) (control_fields model) (variable_fields model) has_control
      (ap (λ vs. list_all (has_slot model.types (plain_code model)) (map (variable_field model) vs)) made.basic.no_variables))
      (ap (λ ts. list_all (has_slot model.types (plain_code model)) (map (timer_field model) ts)) made.basic.no_timers))
      (ap (λ fs. list_all (has_slot model.types (plain_code model)) fs) (inputs_from model 0 model.signals (all_signals model))
      ∙ front_all (has_slot model.types (plain_code model)) (input_fields model) (output_fields model) parameters_have)

  -- ---- events

  output_have : (k : ℕ) (fields : List Field) → list_all (has_slot model.types (plain_code model)) fields ≡ true → list_all (has_value model k) fields ≡ true
  output_have k fields all = all_by (has_slot model.types (plain_code model)) (has_value model k) (λ f has. either_first _ _ has) fields all

  outputs_have : (k n : ℕ) (signals : List Signal) (others : List EventId) → From model n signals → list_all (has_slot model.types (plain_code model)) (flat_map (outputs_of model) signals) ≡ true
      → ((j : ℕ) → has_values model (plain_code model) j others ≡ true)
      → has_values model (plain_code model) k (map event.Output (range_with_len n (length signals)) ++ others) ≡ true
  outputs_have k n [] others from all rest = rest k
  outputs_have k n (s ∷ signals) others from all rest =
      and_from _ _
      (ap (list_all (has_value model k)) (outputs_at model n s signals from)
      ∙ output_have k (outputs_of model s) (front_all (has_slot model.types (plain_code model)) (outputs_of model s) (flat_map (outputs_of model) signals) all))
      (outputs_have (k + 1) (n + 1) signals others (the_others model n s signals from) (back_all (has_slot model.types (plain_code model)) (outputs_of model s) (flat_map (outputs_of model) signals) all) rest)

  pub values : has_values model (plain_code model) 0 (events_of model) ≡ true
  values =
      outputs_have 0 0 model.signals (timer_events (numbers_below (length model.timers))) (all_signals model)
      (back_all (has_slot model.types (plain_code model)) (input_fields model) (output_fields model) parameters_have)
      (λ j. ap (λ (ts : List NameId). has_values model (plain_code model) j (timer_events (numbers_below (length ts)))) made.basic.no_timers)
