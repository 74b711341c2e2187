-- Structs and statements of flat code over a few types, as texts with a space behind each token, or as trees (C99 6.7.2.1 and 6.5.2).
use Rattle.std.specs.Prelude.{◌≡◌, ℕ, pos, List, [], ◌∷◌, codes}
use Rattle.og_types.specs.declared.Part.{Part}
use Rattle.og_types.specs.declared.Sort.{Sort}
use Rattle.og_types.specs.declared.Sort.TheVariants as sort
use Rattle.og_model.specs.declared.Model.{Model}
use Rattle.og_ir.specs.declared.Ir.{Ir}
use Rattle.og_ir.specs.declared.SlotDef.{SlotDef}
use Rattle.og_ir.specs.declared.SlotSort.TheVariants as slot_sort
use Rattle.og_ir.specs.declared.FlatFn.{FlatFn}
use Rattle.og_ir.specs.declared.Instr.{Instr}
use Rattle.og_ir.specs.declared.Instr.TheVariants.{Set, Copy}
use Rattle.og_ir.specs.declared.Slot.{Slot}
use Rattle.og_ir.specs.declared.Step2.TheVariants as step
use Rattle.og_ir.specs.declared.FlatOp.TheVariants as op
use Rattle.og_csubset.specs.Examples.{word, name, type, process}
use Rattle.og_csubset.specs.FlatExamples.{int, read, operates}
use Rattle.og_csubset.specs.declared.CPlace.{CPlace}
use Rattle.og_csubset.specs.declared.CStep.{Member, At}
use Rattle.og_csubset.specs.declared.CExpr.{Number, Read, Op}
use Rattle.og_csubset.specs.declared.CStmt.TheVariants.{Assign}
use Rattle.og_csubset.specs.declared.COp.TheVariants as c_op
use Rattle.og_csubset.specs.Plain.{plain_struct, plain_global, each, spaced}
use Rattle.og_cemit.specs.Structs.{structs_of}
use Rattle.og_cemit.specs.Emitted.{program_of, statement_at}

abbrev pub part : ℕ → ℕ → Part
part n t = record { name = name n; sort = type t }

-- numbers, at most two of them, { a, l } of these, a choice of n and s, a sequence of no items, an empty sequence,
-- { list, none, int } of these, two components of one name, and a type that nothing needs
abbrev pub types : List Sort
types =
    sort.Int (pos 0) (pos 9) ∷ sort.SeqOf 0 2 (type 0) ∷ sort.Sequence (part 2 0 ∷ part 3 1 ∷ [])
    ∷ sort.Choice (part 4 0 ∷ part 5 2 ∷ []) ∷ sort.SeqOf 0 0 (type 3) ∷ sort.Sequence []
    ∷ sort.Sequence (part 6 4 ∷ part 7 5 ∷ part 8 2 ∷ []) ∷ sort.Sequence (part 2 0 ∷ part 9 0 ∷ [])
    ∷ sort.Sequence (part 2 0 ∷ []) ∷ []

abbrev pub model : Model
model = process (codes "a" ∷ codes "l" ∷ codes "n" ∷ codes "s" ∷ codes "list" ∷ codes "none" ∷ codes "int" ∷ codes "a" ∷ []) types [] []

abbrev pub shaped : List ℕ → ℕ → SlotDef
shaped w t = record { name = word w; sort = slot_sort.Shaped (type t) }

abbrev pub over : List SlotDef → Ir
over slots = record { slots = slots; events = []; functions = [] }

abbrev pub ir : Ir
ir = over (shaped (codes "w") 3 ∷ shaped (codes "z") 6 ∷ shaped (codes "q") 7 ∷ shaped (codes "e") 5 ∷ [])

abbrev pub StructsOfTypes : Type 0
StructsOfTypes =
    spaced (each plain_struct (structs_of ir model) [])
    ≡ codes "typedef struct { int64_t length ; int64_t items [ 2 ] ; } T1 ; typedef struct { int64_t m_a ; T1 m_l ; } T2 ; typedef struct { int64_t choice ; int64_t m_n ; T2 m_s ; } T3 ; typedef struct { int64_t length ; } T4 ; typedef struct { T4 m_list ; int64_t m_none ; T2 m_int ; } T6 ; typedef struct { int64_t m0 ; int64_t m1 ; } T7 ; "

abbrev pub GlobalsOfSlots : Type 0
GlobalsOfSlots = spaced (each plain_global (program_of ir model).globals []) ≡ codes "T3 w ; T6 z ; T7 q ; int64_t e ; "

-- a name of the code begins with two letters T
abbrev pub OtherPrefix : Type 0
OtherPrefix =
    spaced (each plain_struct (structs_of (over (shaped (codes "TT1") 4 ∷ [])) model) []) ≡ codes "typedef struct { int64_t length ; } TTT4 ; "

-- ---- statements

abbrev pub no_function : FlatFn
no_function = record { name = word []; code = []; labels = [] }

-- w.s.l.length, and the last item of w.s.l
abbrev pub length_of_w : Slot
length_of_w = record { base = 0; path = step.Field 2 ∷ step.Field 1 ∷ step.Field 0 ∷ [] }

abbrev pub last_of_w : Slot
last_of_w = record { base = 0; path = step.Field 2 ∷ step.Field 1 ∷ step.Field 1 ∷ step.Index (operates op.Sub (read length_of_w) (int 1)) ∷ [] }

-- w.m_s.m_l.length
abbrev pub length_member : CPlace
length_member = record { name = word (codes "w"); path = Member (word (codes "m_s")) ∷ Member (word (codes "m_l")) ∷ Member (word (codes "length")) ∷ [] }

-- w.m_s.m_l.items[w.m_s.m_l.length - INT64_C(1)] = INT64_C(4);
abbrev pub SetsAnItem : Type 0
SetsAnItem =
    statement_at ir model no_function (Set last_of_w (int 4))
    ≡ Assign
    (record {
      name = word (codes "w");
      path =
          Member (word (codes "m_s")) ∷ Member (word (codes "m_l")) ∷ Member (word (codes "items"))
          ∷ At (Op c_op.Sub (Read length_member) (Number (pos 1))) ∷ [];
    })
    (Number (pos 4))

-- w.choice = INT64_C(1);
abbrev pub SetsAnAlternative : Type 0
SetsAnAlternative =
    statement_at ir model no_function (Set (record { base = 0; path = step.Field 0 ∷ [] }) (int 1))
    ≡ Assign (record { name = word (codes "w"); path = Member (word (codes "choice")) ∷ [] }) (Number (pos 1))

-- z.m_int = w.m_s;
abbrev pub CopiesAStruct : Type 0
CopiesAStruct =
    statement_at ir model no_function
    (Copy (record { base = 1; path = step.Field 2 ∷ [] }) (record { base = 0; path = step.Field 2 ∷ [] }))
    ≡ Assign (record { name = word (codes "z"); path = Member (word (codes "m_int")) ∷ [] })
    (Read (record { name = word (codes "w"); path = Member (word (codes "m_s")) ∷ [] }))
