-- Which forms flat code uses. This is no part of what it does: it names the code that reads and sets each slot as a whole, and
-- no part of one.
use Rattle.std.specs.Prelude.{ℕ, zero, suc, Bool, true, false, ◌&&◌, List, [], ◌∷◌, IsTrue}
use Rattle.std.specs.List.{list_all}
use Rattle.og_types.specs.Table.{is_empty}
use Rattle.og_ir.specs.declared.Ir.{Ir}
use Rattle.og_ir.specs.declared.FlatFn.{FlatFn}
use Rattle.og_ir.specs.declared.Instr.{Instr}
use Rattle.og_ir.specs.declared.Instr.TheVariants as instr
use Rattle.og_ir.specs.declared.Slot.{Slot}
use Rattle.og_ir.specs.declared.Step2.{Step2}
use Rattle.og_ir.specs.declared.Flat.{Flat, out-Flat, size-Flat}
use Rattle.og_ir.specs.declared.Flat.TheOpen as flat
use Rattle.og_ir.specs.declared.Flat.TheOpen.{Flat-F}

abbrev pub is_whole : Slot → Bool
is_whole slot = is_empty slot.path

-- a number in which whole slots are read
abbrev pub is_plain_by : (Flat → Bool) → Flat-F Flat Step2 Slot → Bool
is_plain_by inner (flat.Number n) = true
is_plain_by inner (flat.Read slot) = is_whole slot
is_plain_by inner (flat.Op o a b) = inner a && inner b

abbrev pub is_plain_within : ℕ → Flat → Bool
is_plain_within zero e = false
is_plain_within (suc depth) e = is_plain_by (is_plain_within depth) (out-Flat e)

abbrev pub is_plain : Flat → Bool
is_plain e = is_plain_within (size-Flat e) e

abbrev pub is_plain_instruction : Instr → Bool
is_plain_instruction (instr.Set slot e) = is_whole slot && is_plain e
is_plain_instruction (instr.Copy to from) = is_whole to && is_whole from
is_plain_instruction (instr.Branch test place) = is_plain test.left && is_plain test.right
is_plain_instruction (instr.Goto place) = true
is_plain_instruction (instr.Table e cases otherwise) = is_plain e
is_plain_instruction (instr.Call f) = true
is_plain_instruction (instr.Emit event) = true
is_plain_instruction instr.Back = true

-- each slot is read and set whole
pub record UsesWholeSlots (ir : Ir) : Type 0 where
  pub code : IsTrue (list_all (λ (f : FlatFn). list_all is_plain_instruction f.code) ir.functions)
