-- What the globals of a signal's parameters hold after one was set.
use Rattle.std.specs.Prelude.{ℕ, ℤ, pos, List, Bool, Option, Some, None, slice_get}
use Rattle.og_types.specs.declared.Sort.{Sort}
use Rattle.og_types.specs.declared.Value.{Value}
use Rattle.og_types.specs.Values.{is_in}
use Rattle.og_model.specs.declared.Model.{Model}
use Rattle.og_ir.specs.Cells.{Cells, Cell}
use Rattle.og_ir.specs.Reading as reading
use Rattle.og_csubset.specs.Interface.{signal_sorts}
use Rattle.og_csubset.specs.Loading.{passes}
use Rattle.og_csubset.specs.Reads.{put_numbered}
use Rattle.og_ccells.specs.declared.layout.Extent.{Extent}
use Rattle.og_ccells.specs.Vectors.{put_cells}
use Rattle.og_cload.specs.declared.fields.Shape.{Shape}
use Rattle.og_cload.specs.declared.fields.Shape.TheVariants.{Number, Typed}
use Rattle.og_cstep.specs.declared.interface.Slot.{Slot}
use Rattle.og_cstep.specs.Slots.{extent_at}

-- the signal has a parameter of this number, counted from 0, and the value is one of its type
abbrev pub is_parameter_value : Model → ℕ → ℕ → Value → Bool
is_parameter_value model signal k v = passes (λ t. is_in model.types t v) (slice_get (signal_sorts model signal) k)

-- the cells of a shape that hold a value
abbrev pub shape_cells : List Sort → Shape → Value → Cells
shape_cells sorts Number v = Cell (pos 0)
shape_cells sorts (Typed t) v = reading.cells_of sorts t v

-- in trees of cells
abbrev pub put_slot : List Sort → Option Slot → Value → List Cells → List Cells
put_slot sorts None v globals = globals
put_slot sorts (Some slot) v globals = put_numbered slot.place (shape_cells sorts slot.shape v) globals

-- in one vector
abbrev pub put_there : List Sort → Shape → Value → Option Extent → List ℤ → List ℤ
put_there sorts shape v None xs = xs
put_there sorts shape v (Some extent) xs = put_cells extent.offset (shape_cells sorts shape v) xs

abbrev pub put_in_vector : List Sort → List Extent → Option Slot → Value → List ℤ → List ℤ
put_in_vector sorts extents None v xs = xs
put_in_vector sorts extents (Some slot) v xs = put_there sorts slot.shape v (extent_at extents slot.place) xs
