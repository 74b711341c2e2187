-- What globals say that go by their numbers: the numbers and values that they hold, how a run has ended, and which values can
-- be read.
use Rattle.std.specs.Prelude.{ℕ, zero, suc, ◌+◌, ◌^◌, ℤ, pos, negsuc, List, [], ◌∷◌, Bool, true, ◌&&◌, if◌then◌else◌, nat_lt, Option, Some, None, slice_get, slice_index_or, unwrap_or}
use Rattle.std.specs.List.{list_all}
use Rattle.std.specs.Option.{is_some}
use Rattle.og_base.specs.declared.Place.{Place}
use Rattle.og_types.specs.declared.Sort.{Sort}
use Rattle.og_types.specs.declared.Value.{Value}
use Rattle.og_types.specs.declared.Value.TheVariants.{Int}
use Rattle.og_model.specs.declared.EventId.{EventId}
use Rattle.og_model.specs.declared.EventId.TheVariants as event
use Rattle.og_model.specs.declared.FaultKind.{FaultKind}
use Rattle.og_model.specs.declared.StuckRule.TheVariants as stuck
use Rattle.og_ir.specs.Cells.{◌>>=◌, Cells, number_in, global}
use Rattle.og_ir.specs.Reading.{only_if, below, truth_in, value_in, blank}
use Rattle.og_csubset.specs.Loading.{passes}
use Rattle.og_csubset.specs.Reads.{kind_numbered, counted_from_1}
use Rattle.og_ccells.specs.declared.layout.Extent.{Extent}
use Rattle.og_ccells.specs.Vectors.{filled}
use Rattle.og_cload.specs.declared.fields.Shape.{Shape}
use Rattle.og_cload.specs.declared.fields.Shape.TheVariants.{Number, Typed}
use Rattle.og_cstep.specs.declared.Advance.{Advance}
use Rattle.og_cstep.specs.declared.Advance.TheVariants as advance
use Rattle.og_cstep.specs.declared.interface.Interface.{Interface}
use Rattle.og_cstep.specs.declared.interface.Slot.{Slot}
use Rattle.og_cstep.specs.declared.interface.RegionSlot.{RegionSlot}
use Rattle.og_cstep.specs.declared.interface.SignalSlots.{SignalSlots}

-- the number that the global at a place holds
abbrev pub Numbers : Type 0
Numbers = Option ℕ → Option ℤ

-- What is seen of globals: the numbers that they hold, and the values that they hold of their shapes.
pub record Sight : Type 0 where
  pub number : Numbers
  pub value : Slot → Option Value

-- ---- in trees of cells

abbrev pub cells_at : List Cells → Option ℕ → Option Cells
cells_at globals place = place >>= λ k. global k globals

abbrev pub shape_value : List Sort → Shape → Cells → Option Value
shape_value sorts Number cells = number_in cells >>= λ z. Some (Int z)
shape_value sorts (Typed t) cells = value_in sorts t cells

abbrev pub in_trees : List Sort → List Cells → Sight
in_trees sorts globals = record {
  number = λ place. cells_at globals place >>= number_in;
  value = λ slot. cells_at globals slot.place >>= shape_value sorts slot.shape;
}

-- ---- in one vector

abbrev pub extent_at : List Extent → Option ℕ → Option Extent
extent_at extents place = place >>= slice_get extents

-- the number of a global that is one
abbrev pub number_there : List ℤ → Extent → Option ℤ
number_there xs extent = only_if extent.is_number (slice_index_or xs extent.offset (pos 0))

abbrev pub integer_of : Option ℤ → Option Value
integer_of number = number >>= λ z. Some (Int z)

abbrev pub value_there : List Sort → List ℤ → Shape → Extent → Option Value
value_there sorts xs Number extent = integer_of (number_there xs extent)
value_there sorts xs (Typed t) extent = value_in sorts t (filled extent.offset (blank sorts t) xs)

abbrev pub number_of : List Extent → List ℤ → Option ℕ → Option ℤ
number_of extents xs place = extent_at extents place >>= number_there xs

abbrev pub value_of : List Sort → List Extent → List ℤ → Slot → Option Value
value_of sorts extents xs slot = extent_at extents slot.place >>= value_there sorts xs slot.shape

abbrev pub value_if : List Sort → List Extent → List ℤ → Option Slot → Option Value
value_if sorts extents xs slot = slot >>= value_of sorts extents xs

abbrev pub in_vector : List Sort → List Extent → List ℤ → Sight
in_vector sorts extents xs = record {
  number = number_of extents xs;
  value = value_of sorts extents xs;
}

-- the cell at an offset in a global
abbrev pub cell_in : Extent → List ℤ → ℕ → Option ℤ
cell_in extent xs k = only_if (nat_lt k extent.width) (slice_index_or xs (extent.offset + k) (pos 0))

abbrev pub cell_of : List Extent → List ℤ → ℕ → ℕ → Option ℤ
cell_of extents xs global k = slice_get extents global >>= λ extent. cell_in extent xs k

-- ---- values

abbrev pub are_held : Sight → List Slot → Bool
are_held sight slots = list_all (λ slot. is_some (sight.value slot)) slots

abbrev pub is_truth : ℤ → Bool
is_truth z = is_some (truth_in z)

abbrev pub holds_truth : Numbers → Slot → Bool
holds_truth number slot = passes is_truth (number slot.place)

-- no leaf, or one of so many
abbrev pub is_leaf : ℕ → ℤ → Bool
is_leaf leaves (negsuc n) = true
is_leaf leaves (pos n) = nat_lt n leaves

abbrev pub rests_in : Numbers → RegionSlot → Bool
rests_in number region = passes (is_leaf region.leaves) (number region.place)

abbrev pub duration_at : Numbers → Option ℕ → Option ℤ
duration_at number place = do
  z ← number place
  n ← below (2 ^ 31) z
  Some (pos n)

-- ---- ends

abbrev pub place_numbered : Option ℤ → Option ℤ → Option ℤ → Option Place
place_numbered in_file in_line in_column = do
  file ← in_file
  line ← in_line
  column ← in_column
  f ← below 64 file
  l ← counted_from_1 line
  c ← counted_from_1 column
  Some (record { file = f; line = l; column = c })

abbrev pub fault_place : Numbers → Interface → Option Place
fault_place number interface = place_numbered (number interface.file) (number interface.line) (number interface.column)

-- where a global holds no value of its type or range, a run is stuck
abbrev pub answer_if : Bool → Advance → Advance
answer_if b answer = if b then answer else advance.Stuck stuck.Value

abbrev pub variables_held : Sight → Interface → Bool
variables_held sight interface = are_held sight interface.variables

abbrev pub timers_held : Numbers → Interface → Bool
timers_held number interface = list_all (holds_truth number) interface.timers

abbrev pub regions_held : Numbers → Interface → Bool
regions_held number interface = list_all (rests_in number) interface.regions

abbrev pub fault_of : Bool → Option FaultKind → Option Place → Advance
fault_of held None place = advance.Stuck stuck.Value
fault_of held (Some kind) None = advance.Stuck stuck.Value
fault_of held (Some kind) (Some place) = answer_if held (advance.Fault kind place)

abbrev pub fault_answer : Sight → Interface → ℤ → Advance
fault_answer sight interface z =
    fault_of (variables_held sight interface && timers_held sight.number interface) (kind_numbered z) (fault_place sight.number interface)

abbrev pub rest_answer : Sight → Interface → Advance
rest_answer sight interface =
    answer_if (regions_held sight.number interface && (variables_held sight interface && timers_held sight.number interface)) advance.Rest

abbrev pub stopped_answer : Sight → Interface → Advance
stopped_answer sight interface = answer_if (variables_held sight interface) advance.Stopped

abbrev pub by_stopped : Sight → Interface → Option ℤ → Advance
by_stopped sight interface None = advance.Stuck stuck.Value
by_stopped sight interface (Some (pos zero)) = rest_answer sight interface
by_stopped sight interface (Some (pos (suc n))) = stopped_answer sight interface
by_stopped sight interface (Some (negsuc n)) = stopped_answer sight interface

abbrev pub by_kind : Sight → Interface → Option ℤ → Advance
by_kind sight interface None = advance.Stuck stuck.Value
by_kind sight interface (Some (pos zero)) = by_stopped sight interface (sight.number interface.stopped)
by_kind sight interface (Some (pos (suc n))) = fault_answer sight interface (pos (suc n))
by_kind sight interface (Some (negsuc n)) = fault_answer sight interface (negsuc n)

-- how a run has ended whose last function has returned
abbrev pub end_answer : Sight → Interface → Advance
end_answer sight interface = by_kind sight interface (sight.number interface.kind)

-- ---- events

abbrev pub outputs_at : Option SignalSlots → List Slot
outputs_at None = []
outputs_at (Some signal) = signal.outputs

abbrev pub inputs_at : Option SignalSlots → List Slot
inputs_at None = []
inputs_at (Some signal) = signal.inputs

abbrev pub duration_slot : Interface → ℕ → Option ℕ
duration_slot interface k = unwrap_or (slice_get interface.durations k) interface.no_duration

abbrev pub shows : Sight → Interface → EventId → Bool
shows sight interface (event.Output k) = are_held sight (outputs_at (slice_get interface.signals k))
shows sight interface (event.Set k) = is_some (duration_at sight.number (duration_slot interface k))
shows sight interface (event.Reset k) = true

-- ---- what a caller reads

abbrev pub leaf_in : ℕ → ℤ → Option ℕ
leaf_in leaves (negsuc n) = None
leaf_in leaves (pos n) = only_if (nat_lt n leaves) n

abbrev pub leaf_at : Numbers → Interface → ℕ → Option ℕ
leaf_at number interface k = slice_get interface.regions k >>= λ region. number region.place >>= leaf_in region.leaves

abbrev pub timer_number : Numbers → Interface → ℕ → Option ℤ
timer_number number interface k = slice_get interface.timers k >>= λ slot. number slot.place

-- the globals of an output's parameters and of a signal's inputs, by the places of the parameters
abbrev pub output_slot : Interface → ℕ → ℕ → Option Slot
output_slot interface signal k = slice_get (outputs_at (slice_get interface.signals signal)) k

abbrev pub input_slot : Interface → ℕ → ℕ → Option Slot
input_slot interface signal k = slice_get (inputs_at (slice_get interface.signals signal)) k
