-- What each function of the reader of trees gives back. A reader takes tokens and gives the tree that they begin with and the
-- tokens behind it, or nothing; the grammar is that of Spelling (a part of C99 6.5 to 6.9). Here each reader is one found
-- thing behind the other, as the code goes; that these are the readers of Reading is proved in proofs/Fronts.
use Rattle.std.specs.Prelude.{◌≡◌, ℕ, zero, suc, ◌-◌, ◌^◌, ◌==◌, ℤ, pos, neg_ℤ, Bool, cond, ◌&&◌, nat_lt, nat_le, List, [], ◌∷◌, ◌++◌, length, Option, Some, None, Result, Ok, Err}
use Rattle.og_names.specs.declared.Word.{Word}
use Rattle.og_csubset.specs.declared.CProgram.{CProgram}
use Rattle.og_csubset.specs.declared.CStruct.{CStruct}
use Rattle.og_csubset.specs.declared.CMember.{CMember}
use Rattle.og_csubset.specs.declared.CGlobal.{CGlobal}
use Rattle.og_csubset.specs.declared.CType.{CType}
use Rattle.og_csubset.specs.declared.CType.TheVariants.{Int64, Struct}
use Rattle.og_csubset.specs.declared.CFunction.{CFunction}
use Rattle.og_csubset.specs.declared.CStmt.{CStmt}
use Rattle.og_csubset.specs.declared.CStmt.TheVariants.{Assign, IfGoto, Goto, Label, Switch, Call, Return}
use Rattle.og_csubset.specs.declared.CCase.{CCase}
use Rattle.og_csubset.specs.declared.CExpr.{CExpr, Number, Read, Minus, Op, Pick}
use Rattle.og_csubset.specs.declared.CPlace.{CPlace}
use Rattle.og_csubset.specs.declared.CStep.{CStep, Member, At}
use Rattle.og_csubset.specs.declared.CTest.{CTest}
use Rattle.og_csubset.specs.declared.COp.{COp}
use Rattle.og_csubset.specs.declared.COp.TheVariants.{Sub}
use Rattle.og_csubset.specs.declared.CRel.{CRel}
use Rattle.og_csubset.specs.Tokens.{Token, name, number, operator, relation, Keyword, typedef_, struct_, void_, if_, goto_, switch_, case_, default_, return_, int64_t, INT64_C, Mark, open_brace, close_brace, open_square, close_square, open_round, close_round, semicolon, colon, question, dot, equals}
use Rattle.og_csubset.specs.Spelling.{word, least, is_sum, is_product}
use Rattle.og_csubset.specs.Reading.{Found, Reader, and_then, or_else, negated, each_at, whole}
use Rattle.og_clex.specs.Moves.{is_keyword, is_mark}
use Rattle.og_cread.specs.declared.take.TreeError.{TreeError}
use Rattle.og_cread.specs.declared.take.TreeError.TheVariants.{NoTree, NoMemory}

-- what a function returned, seen by view, is what is found, unless memory could not be had
abbrev pub Gives : {X Y : Type 0} → (X → Y) → Result X TreeError → Option Y → Type 0
Gives view (Ok x) found = found ≡ Some (view x)
Gives view (Err NoTree) found = found ≡ None
Gives view (Err (NoMemory met)) found = Unit {0}

-- memory could not be had
abbrev pub IsOutOfMemory : TreeError → Type 0
IsOutOfMemory NoTree = ⊥
IsOutOfMemory (NoMemory met) = Unit {0}

-- the one where something was found, and else the other
abbrev pub found_or : {A B : Type 0} → Found A → Found B → (A → List Token → Found B) → Found B
found_or None other go = other
found_or (Some p) other go = go p.0 p.1

-- a mark or a keyword in front, of which nothing is kept
unfoldable pub mark_at : Mark → Reader (Unit {0})
mark_at m [] = None
mark_at m (t ∷ ts) = cond (is_mark m t) (Some (tt, ts)) None

unfoldable pub keyword_at : Keyword → Reader (Unit {0})
keyword_at k [] = None
keyword_at k (t ∷ ts) = cond (is_keyword k t) (Some (tt, ts)) None

-- a name, a number or a relation in front
unfoldable pub name_at : Reader (List ℕ)
name_at (name w ∷ ts) = Some (w, ts)
name_at _ = None

unfoldable pub digits_at : Reader ℕ
digits_at (number n ∷ ts) = Some (n, ts)
digits_at _ = None

unfoldable pub relation_at : Reader CRel
relation_at (relation op ∷ ts) = Some (op, ts)
relation_at _ = None

-- an operator of this kind in front
abbrev pub kept_operator : (COp → Bool) → COp → List Token → Found COp
kept_operator is op ts = cond (is op) (Some (op, ts)) None

unfoldable pub operator_at : (COp → Bool) → Reader COp
operator_at is (operator op ∷ ts) = kept_operator is op ts
operator_at is _ = None

-- The readers of Reading once more, as one found thing behind the other. `inner` reads a whole number one bracket further
-- inside, and a second number bounds how often a repetition goes round.

-- the number of a literal
unfoldable pub literal_front : Reader ℕ
literal_front ts =
    and_then (keyword_at INT64_C ts) (λ _ us. and_then (mark_at open_round us) (λ _ vs. and_then (digits_at vs)
    (λ n ws. and_then (mark_at close_round ws) (λ _ rest. Some (n, rest)))))

-- a literal of this number, of which nothing is kept
unfoldable pub this_literal_front : ℕ → Reader (Unit {0})
this_literal_front n ts = and_then (literal_front ts) (λ m rest. cond (m == n) (Some (tt, rest)) None)

-- the sign `-` in front
unfoldable pub sign_front : Reader (Unit {0})
sign_front (operator Sub ∷ ts) = Some (tt, ts)
sign_front _ = None

-- -2^63, behind its bracket
unfoldable pub least_front : Reader (Unit {0})
least_front ts =
    and_then (sign_front ts) (λ _ us. and_then (this_literal_front (2 ^ 63 - 1) us) (λ _ vs. and_then (sign_front vs)
    (λ _ ws. and_then (this_literal_front 1 ws) (λ _ xs. mark_at close_round xs))))

-- a literal, with a sign or without
unfoldable pub signed_literal_front : Reader CExpr
signed_literal_front ts =
    found_or (sign_front ts) (and_then (literal_front ts) (λ n rest. Some (Number (pos n), rest)))
    (λ _ us. and_then (literal_front us) (λ n rest. Some (negated n, rest)))

-- a number and the mark behind it
unfoldable pub number_then_front : Reader CExpr → Mark → Reader CExpr
number_then_front inner m ts = and_then (inner ts) (λ e us. and_then (mark_at m us) (λ _ rest. Some (e, rest)))

-- behind the relation of a bracket
unfoldable pub choice_front : Reader CExpr → CExpr → CRel → Reader CExpr
choice_front inner a op ts =
    and_then (number_then_front inner question ts) (λ b us. and_then (number_then_front inner colon us)
    (λ c vs. and_then (number_then_front inner close_round vs) (λ d rest. Some (Pick (record { op = op; left = a; right = b }) c d, rest))))

-- behind the first number of a bracket
unfoldable pub behind_front : Reader CExpr → CExpr → Reader CExpr
behind_front inner a ts =
    found_or (mark_at close_round ts) (and_then (relation_at ts) (choice_front inner a)) (λ _ rest. Some (a, rest))

-- behind an open bracket
unfoldable pub bracket_front : Reader CExpr → Reader CExpr
bracket_front inner ts = found_or (least_front ts) (and_then (inner ts) (behind_front inner)) (λ _ rest. Some (Number least, rest))

-- the selectors of a place, behind those before
unfoldable pub path_front : Reader CExpr → ℕ → List CStep → Reader (List CStep)
path_front inner zero steps ts = Some (steps, ts)
path_front inner (suc f) steps ts =
    found_or (mark_at dot ts) (found_or (mark_at open_square ts) (Some (steps, ts))
    (λ _ us. and_then (number_then_front inner close_square us) (λ e vs. path_front inner f (steps ++ At e ∷ []) vs)))
    (λ _ us. and_then (name_at us) (λ w vs. path_front inner f (steps ++ Member (word w) ∷ []) vs))

-- behind the name of a place
unfoldable pub place_front : Reader CExpr → ℕ → List ℕ → Reader CPlace
place_front inner f w ts = and_then (path_front inner f [] ts) (λ steps rest. Some (record { name = word w; path = steps }, rest))

unfoldable pub operand_front : Reader CExpr → ℕ → Reader CExpr
operand_front inner f ts =
    found_or (name_at ts) (and_then (mark_at open_round ts) (λ _ us. bracket_front inner us))
    (λ w us. and_then (place_front inner f w us) (λ p rest. Some (Read p, rest)))

unfoldable pub signed_front : Reader CExpr → ℕ → Reader CExpr
signed_front inner f ts =
    or_else (signed_literal_front ts) (found_or (sign_front ts) (operand_front inner f ts)
    (λ _ us. and_then (operand_front inner f us) (λ e rest. Some (Minus e, rest))))

-- the operators and operands behind a product
unfoldable pub product_rest_front : Reader CExpr → ℕ → CExpr → Reader CExpr
product_rest_front inner zero a ts = Some (a, ts)
product_rest_front inner (suc f) a ts =
    found_or (operator_at is_product ts) (Some (a, ts))
    (λ op us. and_then (signed_front inner f us) (λ b vs. product_rest_front inner f (Op op a b) vs))

unfoldable pub product_front : Reader CExpr → ℕ → Reader CExpr
product_front inner f ts = and_then (signed_front inner f ts) (product_rest_front inner f)

-- the operators and operands behind a sum
unfoldable pub sum_rest_front : Reader CExpr → ℕ → CExpr → Reader CExpr
sum_rest_front inner zero a ts = Some (a, ts)
sum_rest_front inner (suc f) a ts =
    found_or (operator_at is_sum ts) (Some (a, ts))
    (λ op us. and_then (product_front inner f us) (λ b vs. sum_rest_front inner f (Op op a b) vs))

-- a whole number, with at most `depth` brackets one inside the other
unfoldable pub number_front : ℕ → Reader CExpr
number_front zero ts = None
number_front (suc depth) ts =
    and_then (product_front (number_front depth) (suc depth) ts) (sum_rest_front (number_front depth) (suc depth))

unfoldable pub test_front : ℕ → Reader CTest
test_front d ts =
    and_then (number_front d ts) (λ a us. and_then (relation_at us) (λ op vs. and_then (number_front d vs)
    (λ b rest. Some (record { op = op; left = a; right = b }, rest))))

-- a name and `;`
unfoldable pub label_front : Reader (List ℕ)
label_front ts = and_then (name_at ts) (λ l us. and_then (mark_at semicolon us) (λ _ rest. Some (l, rest)))

-- goto, a name and `;`
unfoldable pub jump_front : Reader (List ℕ)
jump_front ts = and_then (keyword_at goto_ ts) (λ _ us. label_front us)

-- the number of a case
unfoldable pub constant_front : Reader ℤ
constant_front ts =
    found_or (sign_front ts)
    (found_or (mark_at open_round ts) (and_then (literal_front ts) (λ n rest. Some (pos n, rest)))
    (λ _ us. and_then (least_front us) (λ _ rest. Some (least, rest))))
    (λ _ us. and_then (literal_front us) (λ n rest. Some (neg_ℤ (pos n), rest)))

unfoldable pub case_front : Reader CCase
case_front ts =
    and_then (keyword_at case_ ts) (λ _ us. and_then (constant_front us) (λ z vs. and_then (mark_at colon vs)
    (λ _ ws. and_then (jump_front ws) (λ l rest. Some (record { value = z; label = word l }, rest)))))

-- behind the name that a statement begins with
unfoldable pub assign_front : ℕ → List ℕ → Reader CStmt
assign_front d w ts =
    and_then (place_front (number_front d) d w ts) (λ p us. and_then (mark_at equals us)
    (λ _ vs. and_then (number_then_front (number_front d) semicolon vs) (λ e rest. Some (Assign p e, rest))))

unfoldable pub call_front : List ℕ → Reader CStmt
call_front w ts = and_then (mark_at close_round ts) (λ _ us. and_then (mark_at semicolon us) (λ _ rest. Some (Call (word w), rest)))

unfoldable pub named_front : ℕ → List ℕ → Reader CStmt
named_front d w ts =
    found_or (mark_at colon ts) (found_or (mark_at open_round ts) (assign_front d w ts) (λ _ us. call_front w us))
    (λ _ us. and_then (mark_at semicolon us) (λ _ rest. Some (Label (word w), rest)))

-- behind the word that a statement begins with
unfoldable pub if_front : ℕ → Reader CStmt
if_front d ts =
    and_then (mark_at open_round ts) (λ _ us. and_then (test_front d us) (λ t vs. and_then (mark_at close_round vs)
    (λ _ ws. and_then (jump_front ws) (λ l rest. Some (IfGoto t (word l), rest)))))

-- the last case, and the end of the statement
unfoldable pub default_front : Reader (List ℕ)
default_front ts =
    and_then (keyword_at default_ ts) (λ _ us. and_then (mark_at colon us) (λ _ vs. and_then (jump_front vs)
    (λ l ws. and_then (mark_at close_brace ws) (λ _ rest. Some (l, rest)))))

unfoldable pub switch_front : ℕ → Reader CStmt
switch_front d ts =
    and_then (mark_at open_round ts) (λ _ us. and_then (number_then_front (number_front d) close_round us)
    (λ e vs. and_then (mark_at open_brace vs) (λ _ ws. and_then (each_at case_front d ws) (λ cases xs. and_then (default_front xs)
    (λ l rest. Some (Switch e cases (word l), rest))))))

-- a statement that begins with a word of C99
unfoldable pub word_statement_front : ℕ → Reader CStmt
word_statement_front d ts =
    found_or (keyword_at goto_ ts) (found_or (keyword_at if_ ts) (found_or (keyword_at switch_ ts)
    (and_then (keyword_at return_ ts) (λ _ us. and_then (mark_at semicolon us) (λ _ rest. Some (Return, rest))))
    (λ _ us. switch_front d us)) (λ _ us. if_front d us))
    (λ _ us. and_then (label_front us) (λ l rest. Some (Goto (word l), rest)))

unfoldable pub statement_front : ℕ → Reader CStmt
statement_front d ts = found_or (name_at ts) (word_statement_front d ts) (named_front d)

unfoldable pub type_front : Reader CType
type_front ts =
    found_or (keyword_at int64_t ts) (and_then (name_at ts) (λ s rest. Some (Struct (word s), rest))) (λ _ rest. Some (Int64, rest))

-- the size of an array, where there is one
unfoldable pub size_front : Reader (Option ℕ)
size_front ts =
    found_or (mark_at open_square ts) (Some (None, ts)) (λ _ us. and_then (digits_at us)
    (λ n vs. cond (nat_lt 0 n && nat_le n 65536) (and_then (mark_at close_square vs) (λ _ rest. Some (Some n, rest))) None))

unfoldable pub member_front : Reader CMember
member_front ts =
    and_then (type_front ts) (λ kind us. and_then (name_at us) (λ m vs. and_then (size_front vs) (λ size ws. and_then (mark_at semicolon ws)
    (λ _ rest. Some (record { kind = kind; name = word m; size = size }, rest)))))

-- members, of which there is one at least
abbrev pub some_members : List CMember → Reader (List CMember)
some_members [] ts = None
some_members (m ∷ ms) ts = Some (m ∷ ms, ts)

unfoldable pub members_front : ℕ → Reader (List CMember)
members_front d ts = and_then (each_at member_front d ts) some_members

unfoldable pub struct_front : ℕ → Reader CStruct
struct_front d ts =
    and_then (keyword_at typedef_ ts) (λ _ us. and_then (keyword_at struct_ us) (λ _ vs. and_then (mark_at open_brace vs)
    (λ _ ws. and_then (members_front d ws) (λ ms xs. and_then (mark_at close_brace xs) (λ _ ys. and_then (label_front ys)
    (λ s rest. Some (record { name = word s; members = ms }, rest)))))))

unfoldable pub global_front : Reader CGlobal
global_front ts =
    and_then (type_front ts) (λ kind us. and_then (label_front us) (λ g rest. Some (record { kind = kind; name = word g }, rest)))

-- void name ( void )
unfoldable pub head_front : Reader (List ℕ)
head_front ts =
    and_then (keyword_at void_ ts) (λ _ us. and_then (name_at us) (λ w vs. and_then (mark_at open_round vs)
    (λ _ ws. and_then (keyword_at void_ ws) (λ _ xs. and_then (mark_at close_round xs) (λ _ rest. Some (w, rest))))))

unfoldable pub event_front : Reader Word
event_front ts = and_then (head_front ts) (λ w us. and_then (mark_at semicolon us) (λ _ rest. Some (word w, rest)))

unfoldable pub function_front : ℕ → Reader CFunction
function_front d ts =
    and_then (head_front ts) (λ w us. and_then (mark_at open_brace us) (λ _ vs. and_then (each_at (statement_front d) d vs)
    (λ body ws. and_then (mark_at close_brace ws) (λ _ rest. Some (record { name = word w; body = body }, rest)))))

unfoldable pub program_front : ℕ → Reader CProgram
program_front d ts =
    and_then (each_at (struct_front d) d ts) (λ structs us. and_then (each_at global_front d us) (λ globals vs. and_then (each_at event_front d vs)
    (λ events ws. and_then (each_at (function_front d) d ws)
    (λ functions rest. Some (record { structs = structs; globals = globals; events = events; functions = functions }, rest)))))

-- the program of these tokens
unfoldable pub tree_of : List Token → Option CProgram
tree_of ts = whole (program_front (length ts) ts)
