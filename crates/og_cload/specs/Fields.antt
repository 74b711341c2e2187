-- The names of an interface as code makes them, and what they stand for.
use Rattle.std.specs.Prelude.{ℕ, List, map, Bool, not, ◌||◌}
use Rattle.og_types.specs.declared.Sort.{Sort}
use Rattle.og_csubset.specs.declared.CProgram.{CProgram}
use Rattle.og_csubset.specs.Kinds.{global_kind, is_in}
use Rattle.og_csubset.specs.Interface as interface
use Rattle.og_csubset.specs.Loading.{passes, is_shaped}
use Rattle.og_cload.specs.declared.fields.Shape.{Shape}
use Rattle.og_cload.specs.declared.fields.Shape.TheVariants.{Number, Typed}
use Rattle.og_cload.specs.declared.fields.Field.{Field}

abbrev pub shape_of : Shape → interface.Shape
shape_of Number = interface.Number
shape_of (Typed t) = interface.Typed t

abbrev pub field_of : Field → interface.Field
field_of f = record { name = f.name.bytes; shape = shape_of f.shape }

abbrev pub fields_in : List Field → List interface.Field
fields_in fields = map field_of fields

-- the global is declared, with its shape over these types
abbrev pub has_field_over : CProgram → List Sort → interface.Field → Bool
has_field_over program sorts field =
    passes (λ kind. is_shaped program.structs sorts field.shape kind.type) (global_kind program field.name)

-- nothing is declared under the name among all names, or the global with its shape
abbrev pub free_or_has : CProgram → List Sort → List (List ℕ) → interface.Field → Bool
free_or_has program sorts names field = not (is_in field.name names) || has_field_over program sorts field
