-- Globals by their numbers, and what is there of those that are one number.
use Rattle.std.proofs.Common.{◌≡◌, ℕ, ℤ, List, Bool, true, false, is_some, Option, Some, None, refl, sym, ap, ◌∙◌}
use Rattle.og_ir.specs.Reading.{only_if}
use Rattle.og_csubset.specs.Kinds.{place_in}
use Rattle.og_cload.specs.declared.fields.Shape.{Shape}
use Rattle.og_cload.specs.declared.fields.Shape.TheVariants.{Number, Typed}
use Rattle.og_cload.specs.declared.fields.Field.{Field}
use Rattle.og_cload.specs.Fields.{shape_of, field_of}
use Rattle.og_ccells.specs.declared.layout.Extent.{Extent}
use Rattle.og_cstep.specs.declared.interface.Slot.{Slot}
use Rattle.og_cstep.specs.Interfaces.{kept_shape, slot_named}
use Rattle.og_cstep.specs.Slots.{number_there, integer_of}

-- ---- looking up

pub shape_kept : (s : Shape) → kept_shape (shape_of s) ≡ s
shape_kept Number = refl
shape_kept (Typed t) = refl

abbrev slot_by : Option ℕ → Shape → Slot
slot_by place shape = record { place = place; shape = shape }

pub slot_is : (names : List (List ℕ)) (f : Field) (place : Option ℕ) → place ≡ place_in f.name.bytes names → slot_by place f.shape ≡ slot_named names (field_of f)
slot_is names f place e = ap (λ p. slot_by p f.shape) e ∙ ap (λ s. slot_by (place_in f.name.bytes names) s) (sym (shape_kept f.shape))

-- ---- numbers

integer_if : (b : Bool) (z : ℤ) → b ≡ is_some (integer_of (only_if b z))
integer_if true z = refl
integer_if false z = refl

-- a global that is one number holds an integer
pub integer_there : (xs : List ℤ) (e : Extent) → e.is_number ≡ is_some (integer_of (number_there xs e))
integer_there xs e = integer_if e.is_number _

pub ruleset slotted = (slot_is, integer_there)
