-- A program that has a struct with an array, a switch, a pick and the least number, to try the printer on.
use Rattle.std.specs.Prelude.{pos, List, [], ◌∷◌, Some, None, codes}
use Rattle.og_csubset.specs.declared.CProgram.{CProgram}
use Rattle.og_csubset.specs.declared.CStruct.{CStruct}
use Rattle.og_csubset.specs.declared.CGlobal.{CGlobal}
use Rattle.og_csubset.specs.declared.CType.TheVariants.{Int64, Struct}
use Rattle.og_csubset.specs.declared.CStmt.{CStmt}
use Rattle.og_csubset.specs.declared.CStmt.TheVariants.{Assign, Label, Switch, Call, Return}
use Rattle.og_csubset.specs.declared.CPlace.{CPlace}
use Rattle.og_csubset.specs.declared.CStep.{Member, At}
use Rattle.og_csubset.specs.declared.CExpr.{CExpr, Number, Read, Minus, Op, Pick}
use Rattle.og_csubset.specs.declared.CTest.{CTest}
use Rattle.og_csubset.specs.declared.COp.TheVariants.{Sub}
use Rattle.og_csubset.specs.declared.CRel.TheVariants.{Lt}
use Rattle.og_csubset.specs.Spelling.{word, least}

-- `count`
abbrev pub count : CExpr
count = Read (record { name = word (codes "count"); path = [] })

-- typedef struct { int64_t n; int64_t list[3]; } Pair;
abbrev pub pair_struct : CStruct
pair_struct = record {
  name = word (codes "Pair");
  members = record { kind = Int64; name = word (codes "n"); size = None }
      ∷ record { kind = Int64; name = word (codes "list"); size = Some 3 } ∷ [];
}

-- Pair pair; int64_t count;
abbrev pub example_globals : List CGlobal
example_globals =
    record { kind = Struct (word (codes "Pair")); name = word (codes "pair") }
    ∷ record { kind = Int64; name = word (codes "count") } ∷ []

-- `pair.list[count]`
abbrev pub element : CPlace
element = record { name = word (codes "pair"); path = Member (word (codes "list")) ∷ At count ∷ [] }

-- count < INT64_C(0)
abbrev pub below : CTest
below = record { op = Lt; left = count; right = Number (pos 0) }

-- the least number where `count` is below 0, and otherwise `count` less its negative
abbrev pub picked : CExpr
picked = Pick below (Number least) (Op Sub count (Minus count))

-- two cases, and another way
abbrev pub choice : CStmt
choice =
    Switch count (record { value = pos 0; label = word (codes "again") }
    ∷ record { value = least; label = word (codes "end") } ∷ []) (word (codes "end"))

abbrev pub example_body : List CStmt
example_body =
    Label (word (codes "again")) ∷ Assign element picked ∷ choice ∷ Label (word (codes "end")) ∷ Call (word (codes "done")) ∷ Return ∷ []

abbrev pub example : CProgram
example = record {
  structs = pair_struct ∷ [];
  globals = example_globals;
  events = word (codes "done") ∷ [];
  functions = record { name = word (codes "start"); body = example_body } ∷ [];
}
