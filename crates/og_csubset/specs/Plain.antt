-- The plain text of a program of the C subset, as tokens: the text that spells it without a bracket beyond need. A bracket is
-- needed round an operand of a lower level (a sum in a product, a sum or product on the right of its own level, an operation
-- behind a sign), and round a literal behind a sign that is an operation. -2^63 has its brackets by its special spelling.
-- Where the sum of -9223372036854775807 less 1 stands in a bracket, its left operand is bracketed, since the bracket would
-- be -2^63 otherwise. Each word here gives the tokens of a tree before the tokens that come behind it.
use Rattle.std.specs.Prelude.{ℕ, suc, ◌-◌, ◌^◌, ◌<◌, ◌≤◌, ℤ, pos, negsuc, Bool, false, cond, ◌&&◌, ◌==◌, nat_le, List, [], ◌∷◌, ◌++◌, ⊤, Option, Some, None}
use Rattle.og_names.specs.declared.Word.{Word}
use Rattle.og_csubset.specs.declared.CProgram.{CProgram}
use Rattle.og_csubset.specs.declared.CStruct.{CStruct}
use Rattle.og_csubset.specs.declared.CMember.{CMember}
use Rattle.og_csubset.specs.declared.CGlobal.{CGlobal}
use Rattle.og_csubset.specs.declared.CType.{CType}
use Rattle.og_csubset.specs.declared.CType.TheVariants.{Int64, Struct}
use Rattle.og_csubset.specs.declared.CFunction.{CFunction}
use Rattle.og_csubset.specs.declared.CStmt.{CStmt}
use Rattle.og_csubset.specs.declared.CStmt.TheVariants.{Assign, IfGoto, Goto, Label, Switch, Call, Return}
use Rattle.og_csubset.specs.declared.CCase.{CCase}
use Rattle.og_csubset.specs.declared.CPlace.{CPlace, CPlace-F, fold-CPlace}
use Rattle.og_csubset.specs.declared.CStep.{CStep-F}
use Rattle.og_csubset.specs.declared.CExpr.{CExpr, CExpr-F, fold-CExpr}
use Rattle.og_csubset.specs.declared.CExpr.TheOpen.{Number, Read, Minus, Op, Pick, Member, At}
use Rattle.og_csubset.specs.declared.CTest.{CTest, CTest-F, fold-CTest}
use Rattle.og_csubset.specs.declared.COp.{COp}
use Rattle.og_csubset.specs.declared.COp.TheVariants.{Sub}
use Rattle.og_csubset.specs.Tokens.{Token, name, number, operator, relation, keyword, mark, typedef_, struct_, void_, if_, goto_, switch_, case_, default_, return_, int64_t, open_brace, close_brace, open_square, close_square, open_round, close_round, semicolon, colon, question, dot, equals, IsToken, spelling, first_line}
use Rattle.og_csubset.specs.Spelling.{literal, least_text, is_sum}

-- tokens before others
abbrev pub Text : Type 0
Text = List Token → List Token

-- The text of a number: its level (0 where it can stand behind a sign, 1 a literal or a sign, 2 a product, 3 a sum), its tokens,
-- its tokens where a bracket stands round them, and the number where it is a literal with its sign.
pub record Piece : Type 0 where
  pub level : ℕ
  pub bare : Text
  pub inside : Text
  pub value : Option ℤ

abbrev pub piece : ℕ → Text → Option ℤ → Piece
piece level text value = record { level = level; bare = text; inside = text; value = value }

abbrev pub bracketed : Piece → Text
bracketed p rest = mark open_round ∷ p.inside (mark close_round ∷ rest)

-- with a bracket where its level is above this one
abbrev pub shown : ℕ → Piece → Text
shown level p rest = cond (nat_le p.level level) (p.bare rest) (bracketed p rest)

abbrev pub number_piece : ℤ → Piece
number_piece (pos n) = piece 1 (literal n) (Some (pos n))
number_piece (negsuc n) =
    cond (n == 2 ^ 63 - 1) (piece 0 least_text None) (piece 1 (λ rest. operator Sub ∷ literal (suc n) rest) (Some (negsuc n)))

abbrev pub is_value : ℤ → Option ℤ → Bool
is_value z None = false
is_value (pos n) (Some (pos m)) = n == m
is_value (pos n) (Some (negsuc m)) = false
is_value (negsuc n) (Some (pos m)) = false
is_value (negsuc n) (Some (negsuc m)) = n == m

-- behind a sign a literal 0 needs no bracket, and any other literal does
abbrev pub behind_sign : Piece → Text
behind_sign p = cond (is_value (pos 0) p.value) p.bare (shown 0 p)

-- whether the sum of these two would be -2^63 in a bracket
abbrev pub is_least_sum : COp → Piece → Piece → Bool
is_least_sum Sub p q = is_value (negsuc (2 ^ 63 - 2)) p.value && is_value (pos 1) q.value
is_least_sum _ p q = false

abbrev pub operation : ℕ → COp → Piece → Piece → Text
operation level op p q rest = shown level p (operator op ∷ shown (level - 1) q rest)

abbrev pub op_level : COp → ℕ
op_level op = cond (is_sum op) 3 2

abbrev pub op_piece : COp → Piece → Piece → Piece
op_piece op p q = record {
  level = op_level op;
  bare = operation (op_level op) op p q;
  inside = cond (is_least_sum op p q) (λ rest. bracketed p (operator op ∷ shown 2 q rest)) (operation (op_level op) op p q);
  value = None;
}

abbrev pub expression_piece : CExpr-F Piece Text Text Text → Piece
expression_piece (Number z) = number_piece z
expression_piece (Read place) = piece 0 place None
expression_piece (Minus p) = piece 1 (λ rest. operator Sub ∷ behind_sign p rest) None
expression_piece (Op op p q) = op_piece op p q
expression_piece (Pick test p q) =
    piece 0 (λ rest. mark open_round ∷ test (mark question ∷ p.bare (mark colon ∷ q.bare (mark close_round ∷ rest)))) None

abbrev pub step_text : CStep-F Piece Text Text Text → Text
step_text (Member m) rest = mark dot ∷ name m.bytes ∷ rest
step_text (At p) rest = mark open_square ∷ p.bare (mark close_square ∷ rest)

-- texts one after the other
abbrev pub joined : List Text → Text
joined [] rest = rest
joined (text ∷ texts) rest = text (joined texts rest)

abbrev pub place_text : CPlace-F Piece Text Text Text → Text
place_text p rest = name p.name.bytes ∷ joined p.path rest

abbrev pub test_text : CTest-F Piece Text Text Text → Text
test_text t rest = t.left.bare (relation t.op ∷ t.right.bare rest)

unfoldable pub plain_piece : CExpr → Piece
plain_piece e = fold-CExpr Piece Text Text Text expression_piece step_text place_text test_text e

unfoldable pub plain_place : CPlace → Text
plain_place p = fold-CPlace Piece Text Text Text expression_piece step_text place_text test_text p

unfoldable pub plain_test : CTest → Text
plain_test t = fold-CTest Piece Text Text Text expression_piece step_text place_text test_text t

abbrev pub plain_number : CExpr → Text
plain_number e = (plain_piece e).bare

-- the texts of the items of a list
abbrev pub each : {A : Type 0} → (A → Text) → List A → Text
each text [] rest = rest
each text (x ∷ xs) rest = text x (each text xs rest)

abbrev pub plain_constant : ℤ → Text
plain_constant z = (number_piece z).bare

-- `goto l;`
abbrev pub jump : Word → Text
jump l rest = keyword goto_ ∷ name l.bytes ∷ mark semicolon ∷ rest

abbrev pub plain_case : CCase → Text
plain_case c rest = keyword case_ ∷ plain_constant c.value (mark colon ∷ jump c.label rest)

abbrev pub plain_statement : CStmt → Text
plain_statement (Assign p e) rest = plain_place p (mark equals ∷ plain_number e (mark semicolon ∷ rest))
plain_statement (IfGoto t l) rest = keyword if_ ∷ mark open_round ∷ plain_test t (mark close_round ∷ jump l rest)
plain_statement (Goto l) rest = jump l rest
plain_statement (Label l) rest = name l.bytes ∷ mark colon ∷ mark semicolon ∷ rest
plain_statement (Switch e cases l) rest =
    keyword switch_ ∷ mark open_round ∷ plain_number e (mark close_round ∷ mark open_brace
    ∷ each plain_case cases (keyword default_ ∷ mark colon ∷ jump l (mark close_brace ∷ rest)))
plain_statement (Call f) rest = name f.bytes ∷ mark open_round ∷ mark close_round ∷ mark semicolon ∷ rest
plain_statement Return rest = keyword return_ ∷ mark semicolon ∷ rest

abbrev pub plain_type : CType → Text
plain_type Int64 rest = keyword int64_t ∷ rest
plain_type (Struct s) rest = name s.bytes ∷ rest

abbrev pub plain_size : Option ℕ → Text
plain_size None rest = rest
plain_size (Some n) rest = mark open_square ∷ number n ∷ mark close_square ∷ rest

abbrev pub plain_member : CMember → Text
plain_member m rest = plain_type m.kind (name m.name.bytes ∷ plain_size m.size (mark semicolon ∷ rest))

abbrev pub plain_struct : CStruct → Text
plain_struct s rest =
    keyword typedef_ ∷ keyword struct_ ∷ mark open_brace ∷ each plain_member s.members (mark close_brace ∷ name s.name.bytes ∷ mark semicolon ∷ rest)

abbrev pub plain_global : CGlobal → Text
plain_global g rest = plain_type g.kind (name g.name.bytes ∷ mark semicolon ∷ rest)

-- `void name ( void )`
abbrev pub plain_head : Word → Text
plain_head w rest = keyword void_ ∷ name w.bytes ∷ mark open_round ∷ keyword void_ ∷ mark close_round ∷ rest

abbrev pub plain_event : Word → Text
plain_event e rest = plain_head e (mark semicolon ∷ rest)

abbrev pub plain_function : CFunction → Text
plain_function f rest = plain_head f.name (mark open_brace ∷ each plain_statement f.body (mark close_brace ∷ rest))

abbrev pub plain_tokens : CProgram → List Token
plain_tokens P =
    each plain_struct P.structs (each plain_global P.globals (each plain_event P.events (each plain_function P.functions [])))

-- tokens with a space behind each
abbrev pub spaced : List Token → List ℕ
spaced [] = []
spaced (token ∷ tokens) = spelling token ++ 32 ∷ spaced tokens

-- a text of the program; how its white space lies does not matter
abbrev pub plain_text : CProgram → List ℕ
plain_text P = first_line ++ spaced (plain_tokens P)

-- each size lies in 1 .. 65536, and each struct has a member
abbrev pub IsSize : Option ℕ → Type 0
IsSize None = ⊤
IsSize (Some n) = (0 < n) × (n ≤ 65536)

abbrev pub HasSizes : List CMember → Type 0
HasSizes [] = ⊤
HasSizes (m ∷ ms) = IsSize m.size × HasSizes ms

abbrev pub HasMember : List CMember → Type 0
HasMember [] = ⊥
HasMember (m ∷ ms) = ⊤

abbrev pub HasMembers : List CStruct → Type 0
HasMembers [] = ⊤
HasMembers (s ∷ ss) = HasMember s.members × HasSizes s.members × HasMembers ss

-- each of these is a token: the names are C names and the numbers fit
abbrev pub AreTokens : List Token → Type 0
AreTokens [] = ⊤
AreTokens (token ∷ tokens) = IsToken token × AreTokens tokens

-- what a program has that some text spells
pub record IsWellMade (P : CProgram) : Type 0 where
  pub members : HasMembers P.structs
  pub tokens : AreTokens (plain_tokens P)
