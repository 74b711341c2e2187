-- Reading a program off its tokens, from left to right. Each reader gives the tree that the tokens begin with and the tokens
-- behind it. `inner` reads a whole number one bracket further inside; a second number bounds how often a repetition goes
-- round. Both are at most the number of the tokens in the end.
use Rattle.std.specs.Prelude.{ℕ, zero, suc, ◌-◌, ◌^◌, cond, ◌&&◌, List, [], ◌∷◌, length, ◌==◌, nat_lt, nat_le, ℤ, pos, negsuc, neg_ℤ, Option, Some, None}
use Rattle.og_names.specs.declared.Word.{Word}
use Rattle.og_csubset.specs.declared.CProgram.{CProgram}
use Rattle.og_csubset.specs.declared.CStruct.{CStruct}
use Rattle.og_csubset.specs.declared.CMember.{CMember}
use Rattle.og_csubset.specs.declared.CGlobal.{CGlobal}
use Rattle.og_csubset.specs.declared.CType.{CType}
use Rattle.og_csubset.specs.declared.CType.TheVariants.{Int64, Struct}
use Rattle.og_csubset.specs.declared.CFunction.{CFunction}
use Rattle.og_csubset.specs.declared.CStmt.{CStmt}
use Rattle.og_csubset.specs.declared.CStmt.TheVariants.{Assign, IfGoto, Goto, Label, Switch, Call, Return}
use Rattle.og_csubset.specs.declared.CCase.{CCase}
use Rattle.og_csubset.specs.declared.CStep.{CStep, Member, At}
use Rattle.og_csubset.specs.declared.CExpr.{CExpr, Number, Read, Minus, Op, Pick}
use Rattle.og_csubset.specs.declared.CTest.{CTest}
use Rattle.og_csubset.specs.declared.COp.TheVariants.{Sub}
use Rattle.og_csubset.specs.declared.CRel.{CRel}
use Rattle.og_csubset.specs.Tokens.{Token, name, number, operator, relation, keyword, mark, Keyword, typedef_, struct_, void_, if_, goto_, switch_, case_, default_, return_, int64_t, INT64_C, Mark, open_brace, close_brace, open_square, close_square, open_round, close_round, semicolon, colon, question, dot, equals}
use Rattle.og_csubset.specs.Spelling.{word, least, is_sum, is_product}

abbrev pub Found : Type 0 → Type 0
Found A = Option (A × List Token)

abbrev pub Reader : Type 0 → Type 0
Reader A = List Token → Found A

-- goes on behind what was found
abbrev pub and_then : {A B : Type 0} → Found A → (A → List Token → Found B) → Found B
and_then None go = None
and_then (Some p) go = go p.0 p.1

abbrev pub mark_number : Mark → ℕ
mark_number open_brace = 0
mark_number close_brace = 1
mark_number open_square = 2
mark_number close_square = 3
mark_number open_round = 4
mark_number close_round = 5
mark_number semicolon = 6
mark_number colon = 7
mark_number question = 8
mark_number dot = 9
mark_number equals = 10

abbrev pub keyword_number : Keyword → ℕ
keyword_number typedef_ = 0
keyword_number struct_ = 1
keyword_number void_ = 2
keyword_number if_ = 3
keyword_number goto_ = 4
keyword_number switch_ = 5
keyword_number case_ = 6
keyword_number default_ = 7
keyword_number return_ = 8
keyword_number int64_t = 9
keyword_number INT64_C = 10

-- goes on behind this mark, this keyword, a name, a number or a relation, where one stands
abbrev pub at_mark : {B : Type 0} → Mark → List Token → (List Token → Found B) → Found B
at_mark m [] go = None
at_mark m (mark k ∷ ts) go = cond (mark_number m == mark_number k) (go ts) None
at_mark m (_ ∷ ts) go = None

abbrev pub at_keyword : {B : Type 0} → Keyword → List Token → (List Token → Found B) → Found B
at_keyword m [] go = None
at_keyword m (keyword k ∷ ts) go = cond (keyword_number m == keyword_number k) (go ts) None
at_keyword m (_ ∷ ts) go = None

abbrev pub at_name : {B : Type 0} → List Token → (List ℕ → List Token → Found B) → Found B
at_name [] go = None
at_name (name w ∷ ts) go = go w ts
at_name (_ ∷ ts) go = None

abbrev pub at_number : {B : Type 0} → List Token → (ℕ → List Token → Found B) → Found B
at_number [] go = None
at_number (number n ∷ ts) go = go n ts
at_number (_ ∷ ts) go = None

abbrev pub at_relation : {B : Type 0} → List Token → (CRel → List Token → Found B) → Found B
at_relation [] go = None
at_relation (relation op ∷ ts) go = go op ts
at_relation (_ ∷ ts) go = None

-- the second where the first found nothing
abbrev pub or_else : {A : Type 0} → Found A → Found A → Found A
or_else None other = other
or_else (Some p) other = Some p

-- the number of a literal
abbrev pub literal_at : Reader ℕ
literal_at ts = at_keyword INT64_C ts (λ us. at_mark open_round us (λ vs. at_number vs (λ n ws. at_mark close_round ws (λ rest. Some (n, rest)))))

-- behind the bracket of -2^63: the second literal, and the first
abbrev pub least_end : Reader CExpr
least_end (operator Sub ∷ ts) = and_then (literal_at ts) (λ n us. cond (n == 1) (at_mark close_round us (λ rest. Some (Number least, rest))) None)
least_end _ = None

abbrev pub least_at : Reader CExpr
least_at (operator Sub ∷ ts) = and_then (literal_at ts) (λ n us. cond (n == 2 ^ 63 - 1) (least_end us) None)
least_at _ = None

-- a literal with a sign before it
abbrev pub negated : ℕ → CExpr
negated zero = Minus (Number (pos 0))
negated (suc n) = Number (negsuc n)

-- what a bracket is that `a` stands in, behind `a`
unfoldable pub bracket_end : Reader CExpr → CExpr → Reader CExpr
bracket_end inner a [] = None
bracket_end inner a (mark m ∷ ts) = at_mark close_round (mark m ∷ ts) (λ rest. Some (a, rest))
bracket_end inner a (relation op ∷ ts) =
    and_then (inner ts) (λ b us. at_mark question us (λ vs. and_then (inner vs) (λ c ws. at_mark colon ws (λ xs. and_then (inner xs)
    (λ d ys. at_mark close_round ys (λ rest. Some (Pick (record { op = op; left = a; right = b }) c d, rest)))))))
bracket_end inner a (_ ∷ ts) = None

-- the selectors of a place
unfoldable pub path_at : Reader CExpr → ℕ → Reader (List CStep)
path_at inner zero ts = Some ([], ts)
path_at inner (suc f) (mark dot ∷ ts) =
    at_name ts (λ w us. and_then (path_at inner f us) (λ steps rest. Some (Member (word w) ∷ steps, rest)))
path_at inner (suc f) (mark open_square ∷ ts) =
    and_then (inner ts) (λ e us. at_mark close_square us (λ vs. and_then (path_at inner f vs) (λ steps rest. Some (At e ∷ steps, rest))))
path_at inner (suc f) ts = Some ([], ts)

unfoldable pub operand_at : Reader CExpr → ℕ → Reader CExpr
operand_at inner f [] = None
operand_at inner f (name w ∷ ts) = and_then (path_at inner f ts) (λ steps rest. Some (Read (record { name = word w; path = steps }), rest))
operand_at inner f (mark open_round ∷ ts) = or_else (least_at ts) (and_then (inner ts) (bracket_end inner))
operand_at inner f (_ ∷ ts) = None

unfoldable pub signed_at : Reader CExpr → ℕ → Reader CExpr
signed_at inner f (operator Sub ∷ ts) =
    or_else (and_then (literal_at ts) (λ n rest. Some (negated n, rest))) (and_then (operand_at inner f ts) (λ e rest. Some (Minus e, rest)))
signed_at inner f ts = or_else (and_then (literal_at ts) (λ n rest. Some (Number (pos n), rest))) (operand_at inner f ts)

unfoldable pub product_rest : Reader CExpr → ℕ → CExpr → Reader CExpr
product_rest inner zero a ts = Some (a, ts)
product_rest inner (suc f) a (operator op ∷ ts) =
    cond (is_product op) (and_then (signed_at inner f ts) (λ b us. product_rest inner f (Op op a b) us)) (Some (a, operator op ∷ ts))
product_rest inner (suc f) a ts = Some (a, ts)

unfoldable pub product_at : Reader CExpr → ℕ → Reader CExpr
product_at inner f ts = and_then (signed_at inner f ts) (product_rest inner f)

unfoldable pub sum_rest : Reader CExpr → ℕ → CExpr → Reader CExpr
sum_rest inner zero a ts = Some (a, ts)
sum_rest inner (suc f) a (operator op ∷ ts) =
    cond (is_sum op) (and_then (product_at inner f ts) (λ b us. sum_rest inner f (Op op a b) us)) (Some (a, operator op ∷ ts))
sum_rest inner (suc f) a ts = Some (a, ts)

unfoldable pub sum_at : Reader CExpr → ℕ → Reader CExpr
sum_at inner f ts = and_then (product_at inner f ts) (sum_rest inner f)

-- a whole number, with at most `depth` brackets one inside the other
unfoldable pub number_at : ℕ → Reader CExpr
number_at zero ts = None
number_at (suc depth) ts = sum_at (number_at depth) (suc depth) ts

unfoldable pub test_at : ℕ → Reader CTest
test_at d ts =
    and_then (number_at d ts) (λ a us. at_relation us (λ op vs. and_then (number_at d vs)
    (λ b rest. Some (record { op = op; left = a; right = b }, rest))))

-- as many texts as there are
abbrev pub each_step : {A : Type 0} → List Token → Found A → (A → List Token → Found (List A)) → Found (List A)
each_step ts None go = Some ([], ts)
each_step ts (Some p) go = go p.0 p.1

unfoldable pub each_at : {A : Type 0} → Reader A → ℕ → Reader (List A)
each_at one zero ts = Some ([], ts)
each_at one (suc f) ts = each_step ts (one ts) (λ x us. and_then (each_at one f us) (λ xs rest. Some (x ∷ xs, rest)))

-- the number of a case
unfoldable pub constant_at : Reader ℤ
constant_at (operator Sub ∷ ts) = and_then (literal_at ts) (λ n rest. Some (neg_ℤ (pos n), rest))
constant_at (mark open_round ∷ ts) = and_then (least_at ts) (λ e rest. Some (least, rest))
constant_at ts = and_then (literal_at ts) (λ n rest. Some (pos n, rest))

unfoldable pub case_at : Reader CCase
case_at ts =
    at_keyword case_ ts (λ us. and_then (constant_at us) (λ z vs. at_mark colon vs (λ ws. at_keyword goto_ ws (λ xs. at_name xs
    (λ l ys. at_mark semicolon ys (λ rest. Some (record { value = z; label = word l }, rest)))))))

-- a statement that begins with a name, behind the name
unfoldable pub named_at : ℕ → List ℕ → Reader CStmt
named_at d w (mark colon ∷ ts) = at_mark semicolon ts (λ rest. Some (Label (word w), rest))
named_at d w (mark open_round ∷ ts) = at_mark close_round ts (λ us. at_mark semicolon us (λ rest. Some (Call (word w), rest)))
named_at d w ts =
    and_then (path_at (number_at d) d ts) (λ steps us. at_mark equals us (λ vs. and_then (number_at d vs)
    (λ e ws. at_mark semicolon ws (λ rest. Some (Assign (record { name = word w; path = steps }) e, rest)))))

-- behind the word that the statement begins with
unfoldable pub goto_at : Reader CStmt
goto_at ts = at_name ts (λ l us. at_mark semicolon us (λ rest. Some (Goto (word l), rest)))

unfoldable pub if_at : ℕ → Reader CStmt
if_at d ts =
    at_mark open_round ts (λ us. and_then (test_at d us) (λ t vs. at_mark close_round vs (λ ws. at_keyword goto_ ws (λ xs. at_name xs
    (λ l ys. at_mark semicolon ys (λ rest. Some (IfGoto t (word l), rest)))))))

unfoldable pub switch_at : ℕ → Reader CStmt
switch_at d ts =
    at_mark open_round ts (λ us. and_then (number_at d us) (λ e vs. at_mark close_round vs (λ ws. at_mark open_brace ws
    (λ xs. and_then (each_at case_at d xs) (λ cases ys. at_keyword default_ ys (λ zs. at_mark colon zs (λ as'. at_keyword goto_ as'
    (λ bs. at_name bs (λ l cs. at_mark semicolon cs (λ ds. at_mark close_brace ds (λ rest. Some (Switch e cases (word l), rest))))))))))))

unfoldable pub return_at : Reader CStmt
return_at ts = at_mark semicolon ts (λ rest. Some (Return, rest))

unfoldable pub statement_at : ℕ → Reader CStmt
statement_at d [] = None
statement_at d (name w ∷ ts) = named_at d w ts
statement_at d (keyword goto_ ∷ ts) = goto_at ts
statement_at d (keyword if_ ∷ ts) = if_at d ts
statement_at d (keyword switch_ ∷ ts) = switch_at d ts
statement_at d (keyword return_ ∷ ts) = return_at ts
statement_at d (_ ∷ ts) = None

unfoldable pub type_at : Reader CType
type_at [] = None
type_at (keyword int64_t ∷ ts) = Some (Int64, ts)
type_at (name s ∷ ts) = Some (Struct (word s), ts)
type_at (_ ∷ ts) = None

-- a member, behind its type and name
unfoldable pub member_end : CType → List ℕ → Reader CMember
member_end kind m (mark semicolon ∷ rest) = Some (record { kind = kind; name = word m; size = None }, rest)
member_end kind m (mark open_square ∷ ts) =
    at_number ts (λ n us. cond (nat_lt 0 n && nat_le n 65536) (at_mark close_square us (λ vs. at_mark semicolon vs
    (λ rest. Some (record { kind = kind; name = word m; size = Some n }, rest)))) None)
member_end kind m _ = None

unfoldable pub member_at : Reader CMember
member_at ts = and_then (type_at ts) (λ kind us. at_name us (λ m vs. member_end kind m vs))

-- a struct has a member
unfoldable pub struct_end : List CMember → Reader CStruct
struct_end [] ts = None
struct_end (m ∷ ms) ts =
    at_mark close_brace ts (λ us. at_name us (λ s vs. at_mark semicolon vs (λ rest. Some (record { name = word s; members = m ∷ ms }, rest))))

unfoldable pub struct_at : ℕ → Reader CStruct
struct_at d ts =
    at_keyword typedef_ ts (λ us. at_keyword struct_ us (λ vs. at_mark open_brace vs (λ ws. and_then (each_at member_at d ws) struct_end)))

unfoldable pub global_at : Reader CGlobal
global_at ts = and_then (type_at ts) (λ kind us. at_name us (λ g vs. at_mark semicolon vs (λ rest. Some (record { kind = kind; name = word g }, rest))))

-- `void name ( void )`
unfoldable pub head_at : Reader (List ℕ)
head_at ts =
    at_keyword void_ ts (λ us. at_name us (λ w vs. at_mark open_round vs (λ ws. at_keyword void_ ws (λ xs. at_mark close_round xs (λ rest. Some (w, rest))))))

unfoldable pub event_at : Reader Word
event_at ts = and_then (head_at ts) (λ w us. at_mark semicolon us (λ rest. Some (word w, rest)))

unfoldable pub function_at : ℕ → Reader CFunction
function_at d ts =
    and_then (head_at ts) (λ w us. at_mark open_brace us (λ vs. and_then (each_at (statement_at d) d vs)
    (λ body ws. at_mark close_brace ws (λ rest. Some (record { name = word w; body = body }, rest)))))

-- what was found, where nothing is left
abbrev pub whole : {A : Type 0} → Found A → Option A
whole None = None
whole (Some (x, [])) = Some x
whole (Some (x, t ∷ ts)) = None

unfoldable pub program_at : ℕ → Reader CProgram
program_at d ts =
    and_then (each_at (struct_at d) d ts) (λ structs us. and_then (each_at global_at d us) (λ globals vs. and_then (each_at event_at d vs)
    (λ events ws. and_then (each_at (function_at d) d ws)
    (λ functions rest. Some (record { structs = structs; globals = globals; events = events; functions = functions }, rest)))))

-- the program of these tokens
unfoldable pub read_tokens : List Token → Option CProgram
read_tokens ts = whole (program_at (length ts) ts)
