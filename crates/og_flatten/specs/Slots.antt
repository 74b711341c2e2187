-- The slots of the code of a model, and where the process stands in them. First come those that each program of the model has:
-- the number of each region, whether the process has stopped, and the four of a fault; then the body that was chosen. Behind
-- them stand the variables, the timers, their durations, and the parameters of incoming signals and of outputs. Each has the
-- name and the shape that the interface says.
use Rattle.std.specs.Prelude.{ℕ, ◌+◌, cond, List, [], ◌∷◌, ◌++◌, map, flat_map, length, codes}
use Rattle.std.specs.List.{range_with_len}
use Rattle.og_names.specs.declared.NameId.{NameId}
use Rattle.og_model.specs.declared.Model.{Model}
use Rattle.og_model.specs.declared.Signal.{Signal}
use Rattle.og_model.specs.RegionTypes.{Region}
use Rattle.og_model.specs.Regions.{regions}
use Rattle.og_ir.specs.declared.SlotDef.{SlotDef}
use Rattle.og_ir.specs.declared.SlotSort.{SlotSort}
use Rattle.og_ir.specs.declared.SlotSort.TheVariants as slot_sort
use Rattle.og_csubset.specs.Interface as interface
use Rattle.og_csubset.specs.Interface.{Shape, Field, name_of, parameters_from, variable_fields, timer_fields, region_field, number_field, stopped_name, kind_name, file_name, line_name, column_name}
use Rattle.og_layout.specs.Layout.{Layout}
use Rattle.og_flatten.specs.declared.code.Control.{Control}

-- ---- the slots of fields

abbrev pub sort_of : Shape → SlotSort
sort_of interface.Number = slot_sort.Cell
sort_of (interface.Typed t) = slot_sort.Shaped t

abbrev pub slot_of : Field → SlotDef
slot_of field = record { name = record { bytes = field.name }; sort = sort_of field.shape }

abbrev pub slots_of : List Field → List SlotDef
slots_of fields = map slot_of fields

-- whether it has stopped, the fault, and the body that was chosen
abbrev pub control_fields : List Field
control_fields = map number_field (stopped_name ∷ kind_name ∷ file_name ∷ line_name ∷ column_name ∷ codes "chosen" ∷ [])

-- d_T
abbrev pub duration_field : Model → NameId → Field
duration_field model id = number_field (codes "d_" ++ name_of model id)

abbrev pub duration_fields : Model → List Field
duration_fields model = map (duration_field model) model.timers

-- i_S__1, i_S__2 and so on, for an incoming signal
abbrev pub inputs_of : Model → Signal → List Field
inputs_of model signal =
    cond signal.incoming (parameters_from 1 (codes "i_" ++ name_of model signal.name) signal.sorts) []

-- o_S__1, o_S__2 and so on
abbrev pub outputs_of : Model → Signal → List Field
outputs_of model signal = parameters_from 1 (codes "o_" ++ name_of model signal.name) signal.sorts

abbrev pub parameter_slots : Model → List SlotDef
parameter_slots model =
    flat_map (λ signal. slots_of (inputs_of model signal)) model.signals
    ++ flat_map (λ signal. slots_of (outputs_of model signal)) model.signals

-- what stands behind the number of each region
abbrev pub other_slots : Model → List SlotDef
other_slots model =
    slots_of control_fields
    ++ (slots_of (variable_fields model) ++ (slots_of (timer_fields model) ++ (slots_of (duration_fields model) ++ parameter_slots model)))

-- the slots of a model with these regions
abbrev pub slots_for : Model → List Region → List SlotDef
slots_for model rs = slots_of (map (region_field model) rs) ++ other_slots model

-- ---- their numbers

-- the slots that steer the code, behind so many regions
abbrev pub control_behind : ℕ → Control
control_behind n = record { stopped = n; chosen = n + 5 }

abbrev pub control_of : Model → Control
control_of model = control_behind (length (regions model))

-- the numbers of the slots of so many regions, variables, timers and parameters
abbrev pub layout_by : (regions variables timers parameters : ℕ) → Layout
layout_by regions variables timers parameters = record {
  variables = range_with_len (regions + 6) variables;
  timers = range_with_len (regions + 6 + variables) timers;
  regions = range_with_len 0 regions;
  locals = range_with_len (regions + 2) 4;
  durations = range_with_len (regions + 6 + variables + timers) timers;
  parameters = range_with_len (regions + 6 + variables + timers + timers) parameters;
  stopped = regions;
  fault = regions + 1;
}

-- where the process stands in the slots
abbrev pub layout_of : Model → Layout
layout_of model =
    layout_by (length (regions model)) (length model.variables) (length model.timers) (length (parameter_slots model))
