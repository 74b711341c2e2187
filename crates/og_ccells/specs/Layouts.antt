-- Where the globals of a program lie in one vector of cells, and how far its types reach (C99 6.2.5). Numbers of cells are
-- counted no further than to 2^32 - 1; a program that breaks no rule has far fewer.
use Rattle.std.specs.Prelude.{ℕ, zero, suc, ◌+◌, ◌-◌, ◌^◌, min, length, List, [], ◌∷◌, if◌then◌else◌, map, Option, Some, None, unwrap_or, slice_get}
use Rattle.std.specs.Str.{bytes_eq}
use Rattle.og_csubset.specs.declared.CProgram.{CProgram}
use Rattle.og_csubset.specs.declared.CStruct.{CStruct}
use Rattle.og_csubset.specs.declared.CMember.{CMember}
use Rattle.og_csubset.specs.declared.CGlobal.{CGlobal}
use Rattle.og_csubset.specs.Kinds.{Kind, place_in, sized, blank_type, width_within, width_of, times, total}
use Rattle.og_ir.specs.Cells.{◌>>=◌, Cells}
use Rattle.og_csubset.specs.declared.CType.{CType}
use Rattle.og_csubset.specs.declared.CType.TheVariants.{Int64, Struct}
use Rattle.og_csubset.specs.Loading.{is_int64}
use Rattle.og_ccells.specs.declared.layout.Extent.{Extent}
use Rattle.og_ccells.specs.declared.layout.Layout.{Layout}

-- a number as far as it is counted
unfoldable pub up_to : ℕ → ℕ → ℕ
up_to most n = min n most

abbrev pub capped : ℕ → ℕ
capped n = up_to (2 ^ 32 - 1) n

abbrev pub counted : ℕ → ℕ
counted n = up_to (2 ^ 64 - 1) n

-- the cells of a kind, each of them 0
abbrev pub kind_cells : List CStruct → Kind → Cells
kind_cells structs kind = sized kind.size (blank_type structs kind.type)

-- what a member is
abbrev pub member_kind : CMember → Kind
member_kind m = record { type = m.kind; size = m.size }

-- how many cells the members have
abbrev pub members_width : List CStruct → List CMember → ℕ
members_width structs members = total (map (λ m. times m.size (width_within (length structs) structs m.kind)) members)

-- the same of each struct
abbrev pub widths_of : List CStruct → List ℕ
widths_of structs = map (λ s. capped (members_width structs s.members)) structs

-- how many cells a type has, by the widths of structs
abbrev pub known_width : List ℕ → List CStruct → CType → ℕ
known_width widths structs Int64 = 1
known_width widths structs (Struct name) =
    unwrap_or (place_in name.bytes (map (λ s. s.name.bytes) structs) >>= λ k. slice_get widths k) 0

-- how many cells stand before the member of a name, or all where there is none
abbrev pub width_before : List CStruct → List ℕ → List CMember → ℕ
width_before structs name [] = 0
width_before structs name (m ∷ members) =
    if bytes_eq name m.name.bytes then 0 else times m.size (width_of structs m.kind) + width_before structs name members

abbrev pub members_before : List CStruct → List ℕ → Option (List CMember) → ℕ
members_before structs name None = 0
members_before structs name (Some members) = width_before structs name members

-- how many cells stand before a global
abbrev pub globals_before : List CStruct → ℕ → List CGlobal → ℕ
globals_before structs k [] = 0
globals_before structs zero (g ∷ globals) = 0
globals_before structs (suc k) (g ∷ globals) = width_of structs g.kind + globals_before structs k globals

-- the globals one behind the other, from a place on
abbrev pub extents_from : ℕ → List CStruct → List CGlobal → List Extent
extents_from at structs [] = []
extents_from at structs (g ∷ globals) =
    record { offset = at; width = capped (width_of structs g.kind); is_number = is_int64 g.kind }
    ∷ extents_from (capped (at + capped (width_of structs g.kind))) structs globals

unfoldable pub layout_of : CProgram → Layout
layout_of program =
    record { widths = widths_of program.structs; extents = extents_from 0 program.structs program.globals }
