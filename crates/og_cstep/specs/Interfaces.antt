-- The globals of a model's interface, by their numbers in a program. Where a program has no global of a name, there is no number.
use Rattle.std.specs.Prelude.{ℕ, List, map, length, codes, Option}
use Rattle.og_model.specs.declared.Model.{Model}
use Rattle.og_model.specs.declared.Region.{Region}
use Rattle.og_model.specs.Regions.{regions}
use Rattle.og_csubset.specs.declared.CProgram.{CProgram}
use Rattle.og_csubset.specs.Kinds.{global_names, place_in}
use Rattle.og_csubset.specs.Interface as interface
use Rattle.og_csubset.specs.Interface.{Field, numbers_below}
use Rattle.og_cload.specs.declared.fields.Shape.{Shape}
use Rattle.og_cload.specs.declared.fields.Shape.TheVariants as shape
use Rattle.og_cstep.specs.declared.interface.Interface.{Interface}
use Rattle.og_cstep.specs.declared.interface.Slot.{Slot}
use Rattle.og_cstep.specs.declared.interface.RegionSlot.{RegionSlot}
use Rattle.og_cstep.specs.declared.interface.SignalSlots.{SignalSlots}

-- a shape as code keeps it
abbrev pub kept_shape : interface.Shape → Shape
kept_shape interface.Number = shape.Number
kept_shape (interface.Typed t) = shape.Typed t

-- the number of a global among these names, with its shape
abbrev pub slot_named : List (List ℕ) → Field → Slot
slot_named names field = record { place = place_in field.name names; shape = kept_shape field.shape }

abbrev pub slots_named : List (List ℕ) → List Field → List Slot
slots_named names fields = map (slot_named names) fields

abbrev pub region_slot : List (List ℕ) → Model → Region → RegionSlot
region_slot names model region =
    record { place = place_in (interface.region_field model region).name names; leaves = length region.leaves }

abbrev pub signal_slots : List (List ℕ) → Model → ℕ → SignalSlots
signal_slots names model k =
    record { inputs = slots_named names (interface.inputs_of model k); outputs = slots_named names (interface.outputs_of model k) }

abbrev pub duration_place : List (List ℕ) → Model → ℕ → Option ℕ
duration_place names model k = place_in (interface.duration_of model k).name names

-- the name of a duration has nothing behind its front where there is no such timer
abbrev pub no_duration_name : List ℕ
no_duration_name = codes "d_"

abbrev pub interface_among : List (List ℕ) → Model → Interface
interface_among names model =
    record {
      kind = place_in interface.kind_name names;
      stopped = place_in interface.stopped_name names;
      file = place_in interface.file_name names;
      line = place_in interface.line_name names;
      column = place_in interface.column_name names;
      regions = map (region_slot names model) (regions model);
      variables = slots_named names (interface.variable_fields model);
      timers = slots_named names (interface.timer_fields model);
      durations = map (duration_place names model) (numbers_below (length model.timers));
      no_duration = place_in no_duration_name names;
      signals = map (signal_slots names model) (numbers_below (length model.signals));
    }

abbrev pub interface_of : CProgram → Model → Interface
interface_of program model = interface_among (global_names program) model
