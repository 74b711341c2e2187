-- What it is for a text to spell a program of the C subset: the grammar, one case for each production, over the tokens of
-- the text. It is a part of C99's grammar (6.5.2 to 6.5.9 and 6.5.15 for numbers, 6.7.2.1 for structs, 6.8 for statements)
-- with names of its own for the levels: a sum, a product, a signed number, an operand. In `IsSum e tokens rest` the tokens
-- begin with a text of the tree `e`, and `rest` is what stands behind it; the same holds of each other word here. Brackets
-- beyond need are allowed and leave no trace in the tree, operators of one level bind to the left. A sign right before a
-- literal that is not 0 makes a negative number, and any other sign is an operation. The twelve tokens of
-- `(-INT64_C(9223372036854775807) - INT64_C(1))` are the number -2^63, which has no literal.
use Rattle.std.specs.Prelude.{◌≡◌, ℕ, suc, ◌-◌, ◌^◌, ◌<◌, ◌≤◌, ℤ, pos, negsuc, neg_ℤ, Bool, true, false, List, [], ◌∷◌, IsTrue, Some, None}
use Rattle.og_names.specs.declared.Word.{Word}
use Rattle.og_csubset.specs.declared.CProgram.{CProgram}
use Rattle.og_csubset.specs.declared.CStruct.{CStruct}
use Rattle.og_csubset.specs.declared.CMember.{CMember}
use Rattle.og_csubset.specs.declared.CGlobal.{CGlobal}
use Rattle.og_csubset.specs.declared.CType.{CType}
use Rattle.og_csubset.specs.declared.CType.TheVariants.{Int64, Struct}
use Rattle.og_csubset.specs.declared.CFunction.{CFunction}
use Rattle.og_csubset.specs.declared.CStmt.{CStmt}
use Rattle.og_csubset.specs.declared.CStmt.TheVariants.{Assign, IfGoto, Goto, Label, Switch, Call, Return}
use Rattle.og_csubset.specs.declared.CCase.{CCase}
use Rattle.og_csubset.specs.declared.CPlace.{CPlace}
use Rattle.og_csubset.specs.declared.CStep.{CStep, Member, At}
use Rattle.og_csubset.specs.declared.CExpr.{CExpr, Number, Read, Minus, Op, Pick}
use Rattle.og_csubset.specs.declared.CTest.{CTest}
use Rattle.og_csubset.specs.declared.COp.{COp}
use Rattle.og_csubset.specs.declared.COp.TheVariants.{Add, Sub, Mul, Div, Rem}
use Rattle.og_csubset.specs.declared.CRel.{CRel}
use Rattle.og_csubset.specs.Tokens.{Token, name, number, operator, relation, keyword, mark, typedef_, struct_, void_, if_, goto_, switch_, case_, default_, return_, int64_t, INT64_C, open_brace, close_brace, open_square, close_square, open_round, close_round, semicolon, colon, question, dot, equals, HasTokens}

-- the name of these bytes
abbrev pub word : List ℕ → Word
word bytes = record { bytes = bytes }

-- -2^63
abbrev pub least : ℤ
least = negsuc (2 ^ 63 - 1)

-- the four tokens of a literal, before `rest`
abbrev pub literal : ℕ → List Token → List Token
literal n rest = keyword INT64_C ∷ mark open_round ∷ number n ∷ mark close_round ∷ rest

-- the twelve tokens of -2^63, before `rest`
abbrev pub least_text : List Token → List Token
least_text rest = mark open_round ∷ operator Sub ∷ literal (2 ^ 63 - 1) (operator Sub ∷ literal 1 (mark close_round ∷ rest))

-- `+` and `-`
abbrev pub is_sum : COp → Bool
is_sum Add = true
is_sum Sub = true
is_sum Mul = false
is_sum Div = false
is_sum Rem = false

-- `*`, `/` and `%`
abbrev pub is_product : COp → Bool
is_product Add = false
is_product Sub = false
is_product Mul = true
is_product Div = true
is_product Rem = true

mutual
  -- sum = product { ( "+" | "-" ) product }: a whole number
  pub data IsSum : CExpr → List Token → List Token → Type 0 where
    sum : {a e : CExpr} {ts us rest : List Token} → IsProduct a ts us → SumGoesOn a e us rest → IsSum e ts rest

  -- the operators and operands behind the sum `a`: with them it is `e`
  pub data SumGoesOn : CExpr → CExpr → List Token → List Token → Type 0 where
    sum_ends : {e : CExpr} {ts : List Token} → SumGoesOn e e ts ts
    add : {a b e : CExpr} {op : COp} {ts us rest : List Token} → IsTrue (is_sum op) → IsProduct b ts us
        → SumGoesOn (Op op a b) e us rest → SumGoesOn a e (operator op ∷ ts) rest

  -- product = signed { ( "*" | "/" | "%" ) signed }
  pub data IsProduct : CExpr → List Token → List Token → Type 0 where
    product : {a e : CExpr} {ts us rest : List Token} → IsSigned a ts us → ProductGoesOn a e us rest → IsProduct e ts rest

  -- the operators and operands behind the product `a`: with them it is `e`
  pub data ProductGoesOn : CExpr → CExpr → List Token → List Token → Type 0 where
    product_ends : {e : CExpr} {ts : List Token} → ProductGoesOn e e ts ts
    multiply : {a b e : CExpr} {op : COp} {ts us rest : List Token} → IsTrue (is_product op) → IsSigned b ts us
        → ProductGoesOn (Op op a b) e us rest → ProductGoesOn a e (operator op ∷ ts) rest

  -- signed = [ "-" ] ( literal | operand ); `negsuc n` is -(n + 1)
  pub data IsSigned : CExpr → List Token → List Token → Type 0 where
    positive : {n : ℕ} {rest : List Token} → IsSigned (Number (pos n)) (literal n rest) rest
    negative : {n : ℕ} {rest : List Token} → IsSigned (Number (negsuc n)) (operator Sub ∷ literal (suc n) rest) rest
    minus_zero : {rest : List Token} → IsSigned (Minus (Number (pos 0))) (operator Sub ∷ literal 0 rest) rest
    unsigned : {e : CExpr} {ts rest : List Token} → IsOperand e ts rest → IsSigned e ts rest
    minus : {e : CExpr} {ts rest : List Token} → IsOperand e ts rest → IsSigned (Minus e) (operator Sub ∷ ts) rest

  -- operand = place | "(" sum ")" | "(" test "?" sum ":" sum ")"; a bracket that is the text of -2^63 is nothing else
  pub data IsOperand : CExpr → List Token → List Token → Type 0 where
    read : {p : CPlace} {ts rest : List Token} → IsPlace p ts rest → IsOperand (Read p) ts rest
    bracket : {e : CExpr} {ts rest : List Token} → IsSum e ts (mark close_round ∷ rest)
        → ((more : List Token) → mark open_round ∷ ts ≡ least_text more → ⊥) → IsOperand e (mark open_round ∷ ts) rest
    pick : {t : CTest} {a b : CExpr} {ts us vs rest : List Token} → IsTest t ts (mark question ∷ us)
        → IsSum a us (mark colon ∷ vs) → IsSum b vs (mark close_round ∷ rest) → IsOperand (Pick t a b) (mark open_round ∷ ts) rest
    least_number : {rest : List Token} → IsOperand (Number least) (least_text rest) rest

  -- test = sum ( "==" | "!=" | "<" | "<=" | ">" | ">=" ) sum
  pub data IsTest : CTest → List Token → List Token → Type 0 where
    test : {a b : CExpr} {op : CRel} {ts us rest : List Token} → IsSum a ts (relation op ∷ us) → IsSum b us rest
        → IsTest (record { op = op; left = a; right = b }) ts rest

  -- place = name { "." name | "[" sum "]" }
  pub data IsPlace : CPlace → List Token → List Token → Type 0 where
    place : {w : List ℕ} {steps : List CStep} {ts rest : List Token} → IsPath steps ts rest
        → IsPlace (record { name = word w; path = steps }) (name w ∷ ts) rest

  -- the selectors of a place
  pub data IsPath : List CStep → List Token → List Token → Type 0 where
    path_ends : {ts : List Token} → IsPath [] ts ts
    member : {w : List ℕ} {steps : List CStep} {ts rest : List Token} → IsPath steps ts rest
        → IsPath (Member (word w) ∷ steps) (mark dot ∷ name w ∷ ts) rest
    index : {e : CExpr} {steps : List CStep} {ts us rest : List Token} → IsSum e ts (mark close_square ∷ us)
        → IsPath steps us rest → IsPath (At e ∷ steps) (mark open_square ∷ ts) rest

-- any number of texts, one after the other
pub data Each {A : Type 0} (Is : A → List Token → List Token → Type 0) : List A → List Token → List Token → Type 0 where
  none : {ts : List Token} → Each Is [] ts ts
  one_more : {x : A} {xs : List A} {ts us rest : List Token} → Is x ts us → Each Is xs us rest → Each Is (x ∷ xs) ts rest

-- constant = [ "-" ] literal | the text of -2^63
pub data IsConstant : ℤ → List Token → List Token → Type 0 where
  constant : {n : ℕ} {rest : List Token} → IsConstant (pos n) (literal n rest) rest
  negative_constant : {n : ℕ} {rest : List Token} → IsConstant (neg_ℤ (pos n)) (operator Sub ∷ literal n rest) rest
  least_constant : {rest : List Token} → IsConstant least (least_text rest) rest

-- case constant ":" goto name ";"
pub data IsCase : CCase → List Token → List Token → Type 0 where
  case_goto : {z : ℤ} {l : List ℕ} {ts rest : List Token}
      → IsConstant z ts (mark colon ∷ keyword goto_ ∷ name l ∷ mark semicolon ∷ rest)
      → IsCase (record { value = z; label = word l }) (keyword case_ ∷ ts) rest

-- the seven statements
pub data IsStatement : CStmt → List Token → List Token → Type 0 where
  assign : {p : CPlace} {e : CExpr} {ts us rest : List Token} → IsPlace p ts (mark equals ∷ us)
      → IsSum e us (mark semicolon ∷ rest) → IsStatement (Assign p e) ts rest
  if_goto : {t : CTest} {l : List ℕ} {ts rest : List Token}
      → IsTest t ts (mark close_round ∷ keyword goto_ ∷ name l ∷ mark semicolon ∷ rest)
      → IsStatement (IfGoto t (word l)) (keyword if_ ∷ mark open_round ∷ ts) rest
  goto : {l : List ℕ} {rest : List Token} → IsStatement (Goto (word l)) (keyword goto_ ∷ name l ∷ mark semicolon ∷ rest) rest
  label : {l : List ℕ} {rest : List Token} → IsStatement (Label (word l)) (name l ∷ mark colon ∷ mark semicolon ∷ rest) rest
  switch : {e : CExpr} {cases : List CCase} {l : List ℕ} {ts us rest : List Token}
      → IsSum e ts (mark close_round ∷ mark open_brace ∷ us)
      → Each IsCase cases us (keyword default_ ∷ mark colon ∷ keyword goto_ ∷ name l ∷ mark semicolon ∷ mark close_brace ∷ rest)
      → IsStatement (Switch e cases (word l)) (keyword switch_ ∷ mark open_round ∷ ts) rest
  call : {f : List ℕ} {rest : List Token}
      → IsStatement (Call (word f)) (name f ∷ mark open_round ∷ mark close_round ∷ mark semicolon ∷ rest) rest
  return : {rest : List Token} → IsStatement Return (keyword return_ ∷ mark semicolon ∷ rest) rest

-- type = int64_t | name
pub data IsType : CType → List Token → List Token → Type 0 where
  number_type : {rest : List Token} → IsType Int64 (keyword int64_t ∷ rest) rest
  struct_type : {s : List ℕ} {rest : List Token} → IsType (Struct (word s)) (name s ∷ rest) rest

-- member = type name [ "[" size "]" ] ";"
pub data IsMember : CMember → List Token → List Token → Type 0 where
  single : {kind : CType} {m : List ℕ} {ts rest : List Token} → IsType kind ts (name m ∷ mark semicolon ∷ rest)
      → IsMember (record { kind = kind; name = word m; size = None }) ts rest
  array : {kind : CType} {m : List ℕ} {n : ℕ} {ts rest : List Token} → 0 < n → n ≤ 65536
      → IsType kind ts (name m ∷ mark open_square ∷ number n ∷ mark close_square ∷ mark semicolon ∷ rest)
      → IsMember (record { kind = kind; name = word m; size = Some n }) ts rest

-- typedef struct "{" member { member } "}" name ";"
pub data IsStruct : CStruct → List Token → List Token → Type 0 where
  structure : {s : List ℕ} {m : CMember} {members : List CMember} {ts rest : List Token}
      → Each IsMember (m ∷ members) ts (mark close_brace ∷ name s ∷ mark semicolon ∷ rest)
      → IsStruct (record { name = word s; members = m ∷ members }) (keyword typedef_ ∷ keyword struct_ ∷ mark open_brace ∷ ts) rest

-- type name ";"
pub data IsGlobal : CGlobal → List Token → List Token → Type 0 where
  global : {kind : CType} {g : List ℕ} {ts rest : List Token} → IsType kind ts (name g ∷ mark semicolon ∷ rest)
      → IsGlobal (record { kind = kind; name = word g }) ts rest

-- void name "(" void ")" ";"
pub data IsEvent : Word → List Token → List Token → Type 0 where
  event : {e : List ℕ} {rest : List Token}
      → IsEvent (word e) (keyword void_ ∷ name e ∷ mark open_round ∷ keyword void_ ∷ mark close_round ∷ mark semicolon ∷ rest) rest

-- void name "(" void ")" "{" { statement } "}"
pub data IsFunction : CFunction → List Token → List Token → Type 0 where
  function : {f : List ℕ} {body : List CStmt} {ts rest : List Token} → Each IsStatement body ts (mark close_brace ∷ rest)
      → IsFunction (record { name = word f; body = body })
      (keyword void_ ∷ name f ∷ mark open_round ∷ keyword void_ ∷ mark close_round ∷ mark open_brace ∷ ts) rest

-- structs, globals, events and functions, in this order
pub data IsProgram : CProgram → List Token → Type 0 where
  program : {structs : List CStruct} {globals : List CGlobal} {events : List Word} {functions : List CFunction}
      {ts us vs ws : List Token} → Each IsStruct structs ts us → Each IsGlobal globals us vs → Each IsEvent events vs ws
      → Each IsFunction functions ws []
      → IsProgram (record { structs = structs; globals = globals; events = events; functions = functions }) ts

-- the text spells the program
abbrev pub CSpells : CProgram → List ℕ → Type 0
CSpells P text = (tokens : List Token) × HasTokens tokens text × IsProgram P tokens
