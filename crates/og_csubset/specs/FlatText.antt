-- The text of an instruction of flat code: the plain text of the statement that stands for it. A name counts nothing in the
-- nesting of a text, so the names that the code does not have, those of members, labels, functions and events, stand
-- here without letters.
use Rattle.std.specs.Prelude.{ℕ, zero, suc, [], ◌∷◌, Option, Some, None, map, slice_get}
use Rattle.og_names.specs.declared.Word.{Word}
use Rattle.og_ir.specs.declared.Ir.{Ir}
use Rattle.og_ir.specs.declared.SlotDef.{SlotDef}
use Rattle.og_ir.specs.declared.Instr.{Instr}
use Rattle.og_ir.specs.declared.Instr.TheVariants as instr
use Rattle.og_ir.specs.declared.Slot.{Slot}
use Rattle.og_ir.specs.declared.Step2.{Step2}
use Rattle.og_ir.specs.declared.Step2.TheVariants as step
use Rattle.og_ir.specs.declared.Flat.{Flat, out-Flat, size-Flat}
use Rattle.og_ir.specs.declared.Flat.TheOpen as flat
use Rattle.og_ir.specs.declared.Flat.TheOpen.{Flat-F}
use Rattle.og_ir.specs.declared.FlatOp.{FlatOp}
use Rattle.og_ir.specs.declared.FlatOp.TheVariants as op
use Rattle.og_ir.specs.declared.FlatRel.{FlatRel}
use Rattle.og_ir.specs.declared.FlatRel.TheVariants as rel
use Rattle.og_ir.specs.declared.Case.{Case}
use Rattle.og_csubset.specs.declared.CExpr.TheOpen.{Member, At}
use Rattle.og_csubset.specs.declared.CStmt.TheVariants.{Call, Return}
use Rattle.og_csubset.specs.declared.COp.{COp}
use Rattle.og_csubset.specs.declared.COp.TheVariants as c_op
use Rattle.og_csubset.specs.declared.CRel.{CRel}
use Rattle.og_csubset.specs.declared.CRel.TheVariants as c_rel
use Rattle.og_csubset.specs.Tokens.{relation, keyword, mark, if_, switch_, default_, open_brace, close_brace, open_round, close_round, semicolon, colon, equals}
use Rattle.og_csubset.specs.Nesting.{nesting}
use Rattle.og_csubset.specs.Plain.{Text, Piece, piece, number_piece, op_piece, step_text, place_text, each, jump, plain_case, plain_statement}

-- a name that is left out
abbrev pub no_name : Word
no_name = record { bytes = [] }

-- the name of a slot
abbrev pub slot_word : Option SlotDef → Word
slot_word None = no_name
slot_word (Some slot) = slot.name

abbrev pub operator_of : FlatOp → COp
operator_of op.Add = c_op.Add
operator_of op.Sub = c_op.Sub
operator_of op.Mul = c_op.Mul
operator_of op.Div = c_op.Div
operator_of op.Rem = c_op.Rem

abbrev pub relation_of : FlatRel → CRel
relation_of rel.Eq = c_rel.Eq
relation_of rel.Ne = c_rel.Ne
relation_of rel.Lt = c_rel.Lt
relation_of rel.Le = c_rel.Le
relation_of rel.Gt = c_rel.Gt
relation_of rel.Ge = c_rel.Ge

abbrev pub selector_text : (Flat → Piece) → Step2 → Text
selector_text piece_of (step.Field k) = step_text (Member no_name)
selector_text piece_of (step.Index e) = step_text (At (piece_of e))

abbrev pub slot_text_by : (Flat → Piece) → Ir → Slot → Text
slot_text_by piece_of ir slot = place_text (record { name = slot_word (slice_get ir.slots slot.base); path = map (selector_text piece_of) slot.path })

abbrev pub piece_by : (Flat → Piece) → Ir → Flat-F Flat Step2 Slot → Piece
piece_by piece_of ir (flat.Number n) = number_piece n
piece_by piece_of ir (flat.Read slot) = piece 0 (slot_text_by piece_of ir slot) None
piece_by piece_of ir (flat.Op o a b) = op_piece (operator_of o) (piece_of a) (piece_of b)

abbrev pub piece_within : ℕ → Ir → Flat → Piece
piece_within zero ir e = piece 0 (λ rest. rest) None
piece_within (suc depth) ir e = piece_by (piece_within depth ir) ir (out-Flat e)

-- an expression, as the piece of text that Plain makes of such a one
unfoldable pub flat_piece : Ir → Flat → Piece
flat_piece ir e = piece_within (size-Flat e) ir e

abbrev pub flat_text : Ir → Flat → Text
flat_text ir e = (flat_piece ir e).bare

abbrev pub slot_text : Ir → Slot → Text
slot_text ir slot = slot_text_by (flat_piece ir) ir slot

abbrev pub case_text : Case → Text
case_text c = plain_case (record { value = c.value; label = no_name })

abbrev pub instruction_text : Ir → Instr → Text
instruction_text ir (instr.Set slot e) rest = slot_text ir slot (mark equals ∷ flat_text ir e (mark semicolon ∷ rest))
instruction_text ir (instr.Copy to from) rest = slot_text ir to (mark equals ∷ slot_text ir from (mark semicolon ∷ rest))
instruction_text ir (instr.Branch test place) rest =
    keyword if_ ∷ mark open_round ∷ flat_text ir test.left (relation (relation_of test.op)
    ∷ flat_text ir test.right (mark close_round ∷ jump no_name rest))
instruction_text ir (instr.Goto place) rest = jump no_name rest
instruction_text ir (instr.Table e cases otherwise) rest =
    keyword switch_ ∷ mark open_round ∷ flat_text ir e (mark close_round ∷ mark open_brace
    ∷ each case_text cases (keyword default_ ∷ mark colon ∷ jump no_name (mark close_brace ∷ rest)))
instruction_text ir (instr.Call f) rest = plain_statement (Call no_name) rest
instruction_text ir (instr.Emit event) rest = plain_statement (Call no_name) rest
instruction_text ir instr.Back rest = plain_statement Return rest

-- how deep the text of an instruction nests, behind the brace of its function
abbrev pub nesting_of_instruction : Ir → Instr → ℕ
nesting_of_instruction ir i = nesting (mark open_brace ∷ instruction_text ir i [])
