-- Texts of the C subset, with the programs that they spell.
use Rattle.std.specs.Prelude.{ℕ, zero, suc, pos, negsuc, List, [], ◌∷◌, ◌++◌, codes, Some}
use Rattle.og_csubset.specs.declared.CProgram.{CProgram}
use Rattle.og_csubset.specs.declared.CGlobal.{CGlobal}
use Rattle.og_csubset.specs.declared.CType.TheVariants.{Int64, Struct}
use Rattle.og_csubset.specs.declared.CStmt.{CStmt}
use Rattle.og_csubset.specs.declared.CStmt.TheVariants.{Assign, IfGoto, Goto, Label, Switch, Call, Return}
use Rattle.og_csubset.specs.declared.CPlace.{CPlace}
use Rattle.og_csubset.specs.declared.CStep.{Member, At}
use Rattle.og_csubset.specs.declared.CExpr.{CExpr, Number, Read, Minus, Op, Pick}
use Rattle.og_csubset.specs.declared.COp.TheVariants.{Add}
use Rattle.og_csubset.specs.declared.CRel.TheVariants.{Eq, Lt}
use Rattle.og_csubset.specs.Spelling.{word, least, CSpells}

-- lines with their ends
abbrev pub lines : List (List ℕ) → List ℕ
lines [] = []
lines (l ∷ ls) = l ++ 10 ∷ lines ls

abbrev pub number_global : List ℕ → CGlobal
number_global g = record { kind = Int64; name = word g }

abbrev pub variable : List ℕ → CPlace
variable v = record { name = word v; path = [] }

-- a text of one function `f` with these statements, and a program of it
abbrev pub statements_text : List ℕ → List ℕ
statements_text statements = lines (codes "#include <stdint.h>" ∷ (codes "void f(void) {" ++ (statements ++ codes "}")) ∷ [])

abbrev pub doing : List CStmt → CProgram
doing statements = record { structs = []; globals = []; events = []; functions = record { name = word (codes "f"); body = statements } ∷ [] }

-- `x = ..;`
abbrev pub assigning : CExpr → CProgram
assigning e = doing (Assign (variable (codes "x")) e ∷ [])

abbrev pub number_of : List ℕ → CExpr
number_of v = Read (variable v)

-- no program has this text
abbrev pub SpeltByNone : List ℕ → Type 0
SpeltByNone text = (P : CProgram) → CSpells P text → ⊥

-- the statement, alone in its function, assigns this to `x`
abbrev pub Assigns : CExpr → List ℕ → Type 0
Assigns e statement = CSpells (assigning e) (statements_text statement)

-- `x = a + INT64_C(1);` with much white space
abbrev pub spaced_statement : List ℕ
spaced_statement = codes "  x" ++ 9 ∷ codes "=" ++ 13 ∷ 10 ∷ codes " a + INT64_C ( 1 ) ;" ++ 10 ∷ []

-- this many brackets round it
abbrev pub in_brackets : ℕ → List ℕ → List ℕ
in_brackets zero text = text
in_brackets (suc n) text = 40 ∷ (in_brackets n text ++ 41 ∷ [])

-- A small program by hand: `on_go` counts in `k` and marks the places of an array, which is too short for the third.
abbrev pub counting_text : List ℕ
counting_text = lines (codes "#include <stdint.h>"
    ∷ codes "typedef struct { int64_t e[2]; } A;"
    ∷ codes "int64_t r; int64_t stopped; int64_t f_kind; int64_t f_file; int64_t f_line; int64_t f_column;"
    ∷ codes "int64_t k; A w;"
    ∷ codes "void o_done(void);"
    ∷ codes "void start(void) { r = INT64_C(0); k = INT64_C(0); }"
    ∷ codes "void on_go(void) { w.e[k] = INT64_C(1); k = k + INT64_C(1); o_done(); o_done(); }" ∷ [])

abbrev pub counting : CProgram
counting = record {
  structs = record { name = word (codes "A"); members = record { kind = Int64; name = word (codes "e"); size = Some 2 } ∷ [] } ∷ [];
  globals = number_global (codes "r") ∷ number_global (codes "stopped") ∷ number_global (codes "f_kind") ∷ number_global (codes "f_file")
      ∷ number_global (codes "f_line") ∷ number_global (codes "f_column") ∷ number_global (codes "k")
      ∷ record { kind = Struct (word (codes "A")); name = word (codes "w") } ∷ [];
  events = word (codes "o_done") ∷ [];
  functions = record {
    name = word (codes "start");
    body = Assign (variable (codes "r")) (Number (pos 0))
        ∷ Assign (variable (codes "k")) (Number (pos 0)) ∷ [];
  }
      ∷ record {
        name = word (codes "on_go");
        body =
            Assign (record { name = word (codes "w"); path = Member (word (codes "e")) ∷ At (Read (variable (codes "k"))) ∷ [] }) (Number (pos 1))
            ∷ Assign (variable (codes "k")) (Op Add (Read (variable (codes "k"))) (Number (pos 1)))
            ∷ Call (word (codes "o_done")) ∷ Call (word (codes "o_done")) ∷ [];
      } ∷ [];
}

-- every form of statement
abbrev pub forms_text : List ℕ
forms_text = lines (codes "#include <stdint.h>"
    ∷ codes "void f(void)"
    ∷ codes "{"
    ∷ codes "  l: ;"
    ∷ codes "  if (a < b) goto l;"
    ∷ codes "  switch (a) { case INT64_C(1): goto l; case -INT64_C(2): goto m;"
    ∷ codes "    case (-INT64_C(9223372036854775807) - INT64_C(1)): goto l; default: goto m; }"
    ∷ codes "  x = (a == b ? a : -b);"
    ∷ codes "  m:;"
    ∷ codes "  g();"
    ∷ codes "  goto l;"
    ∷ codes "  return;"
    ∷ codes "}" ∷ [])

abbrev pub forms : CProgram
forms = doing (Label (word (codes "l"))
    ∷ IfGoto (record { op = Lt; left = number_of (codes "a"); right = number_of (codes "b") }) (word (codes "l"))
    ∷ Switch (number_of (codes "a"))
    (record { value = pos 1; label = word (codes "l") } ∷ record { value = negsuc 1; label = word (codes "m") }
    ∷ record { value = least; label = word (codes "l") } ∷ [])
    (word (codes "m"))
    ∷ Assign (variable (codes "x"))
    (Pick (record { op = Eq; left = number_of (codes "a"); right = number_of (codes "b") }) (number_of (codes "a")) (Minus (number_of (codes "b"))))
    ∷ Label (word (codes "m"))
    ∷ Call (word (codes "g"))
    ∷ Goto (word (codes "l"))
    ∷ Return ∷ [])
