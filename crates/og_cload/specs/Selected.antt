-- What one selector of a place leads to.
use Rattle.std.specs.Prelude.{Bool, List, Option, Some, None, if◌then◌else◌}
use Rattle.og_csubset.specs.declared.CStruct.{CStruct}
use Rattle.og_csubset.specs.declared.CStep.{CStep}
use Rattle.og_csubset.specs.declared.CStep.TheVariants.{Member, At}
use Rattle.og_csubset.specs.declared.CExpr.{CExpr}
use Rattle.og_csubset.specs.Kinds.{Kind, member_of, element_of}
use Rattle.og_ir.specs.Cells.{◌>>=◌}

abbrev pub kind_at : (CExpr → Bool) → List CStruct → Kind → CStep → Option Kind
kind_at is_number structs kind (Member name) = member_of structs kind name.bytes >>= λ found. Some found.1
kind_at is_number structs kind (At e) = if is_number e then element_of kind else None
