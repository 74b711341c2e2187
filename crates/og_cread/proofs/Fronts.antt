-- The readers of the code, one found thing behind the other, are the readers of the grammar.
use Rattle.std.proofs.Common.{◌≡◌, ℕ, zero, suc, ◌-◌, ◌==◌, ◌^◌, ◌&&◌, Bool, true, false, cond, nat_lt, nat_le, ℤ, pos, neg_ℤ, List, [], ◌∷◌, ◌++◌, length, Some, None, refl, sym, ap, ◌∙◌, append_assoc}
use Rattle.std.proofs.lemmas.List.{append-nil}
use mathlib.Core.Path.{fun_ext}
use Rattle.og_csubset.specs.declared.CMember.{CMember}
use Rattle.og_csubset.specs.declared.CType.{CType}
use Rattle.og_csubset.specs.declared.CStmt.TheVariants.{Assign, Goto, Return}
use Rattle.og_csubset.specs.declared.CExpr.{CExpr, Number, Minus, Op, Pick}
use Rattle.og_csubset.specs.declared.CPlace.{CPlace}
use Rattle.og_csubset.specs.declared.CStep.{CStep}
use Rattle.og_csubset.specs.declared.COp.{COp}
use Rattle.og_csubset.specs.declared.COp.TheVariants.{Sub}
use Rattle.og_csubset.specs.declared.CRel.{CRel}
use Rattle.og_csubset.specs.Tokens.{Token, name, number, operator, relation, keyword, mark, Keyword, if_, goto_, switch_, return_, int64_t, Mark, close_brace, open_square, close_square, open_round, close_round, semicolon, colon, question, dot, equals}
use Rattle.og_csubset.specs.Spelling.{word, least, is_sum, is_product}
use Rattle.og_csubset.specs.Reading.{Found, Reader, and_then, or_else, at_mark, at_keyword, at_name, at_number, at_relation, mark_number, keyword_number, negated, literal_at, least_at, least_end, bracket_end, path_at, operand_at, signed_at, product_rest, product_at, sum_rest, sum_at, number_at, test_at, constant_at, case_at, named_at, goto_at, if_at, switch_at, return_at, statement_at, type_at, member_end, member_at, struct_end, struct_at, global_at, head_at, event_at, function_at, whole, program_at, read_tokens}
use Rattle.og_cread.specs.Trees.{mark_at, keyword_at, name_at, digits_at, relation_at, operator_at, found_or, literal_front, this_literal_front, sign_front, least_front, signed_literal_front, number_then_front, choice_front, behind_front, bracket_front, path_front, place_front, operand_front, signed_front, product_rest_front, product_front, sum_rest_front, number_front, test_front, label_front, jump_front, constant_front, case_front, assign_front, call_front, named_front, if_front, default_front, switch_front, word_statement_front, statement_front, type_front, size_front, member_front, some_members, members_front, struct_front, global_front, head_front, event_front, function_front, program_front, tree_of}

kept : {B : Type 0} (b : Bool) (ts : List Token) (go : List Token → Found B)
    → cond b (go ts) None ≡ and_then (cond b (Some (tt, ts)) None) (λ (_ : Unit {0}) us. go us)
kept true ts go = refl
kept false ts go = refl

at_mark_is : {B : Type 0} (m : Mark) (ts : List Token) (go : List Token → Found B) → at_mark m ts go ≡ and_then (mark_at m ts) (λ _ us. go us)
unfolding mark_at
at_mark_is m [] go = refl
at_mark_is m (mark k ∷ ts) go = kept (mark_number m == mark_number k) ts go
at_mark_is m (_ ∷ ts) go = refl

at_keyword_is : {B : Type 0} (m : Keyword) (ts : List Token) (go : List Token → Found B) → at_keyword m ts go ≡ and_then (keyword_at m ts) (λ _ us. go us)
unfolding keyword_at
at_keyword_is m [] go = refl
at_keyword_is m (keyword k ∷ ts) go = kept (keyword_number m == keyword_number k) ts go
at_keyword_is m (_ ∷ ts) go = refl

at_name_is : {B : Type 0} (ts : List Token) (go : List ℕ → List Token → Found B) → at_name ts go ≡ and_then (name_at ts) go
unfolding name_at
at_name_is [] go = refl
at_name_is (name w ∷ ts) go = refl
at_name_is (_ ∷ ts) go = refl

at_number_is : {B : Type 0} (ts : List Token) (go : ℕ → List Token → Found B) → at_number ts go ≡ and_then (digits_at ts) go
unfolding digits_at
at_number_is [] go = refl
at_number_is (number n ∷ ts) go = refl
at_number_is (_ ∷ ts) go = refl

at_relation_is : {B : Type 0} (ts : List Token) (go : CRel → List Token → Found B) → at_relation ts go ≡ and_then (relation_at ts) go
unfolding relation_at
at_relation_is [] go = refl
at_relation_is (relation op ∷ ts) go = refl
at_relation_is (_ ∷ ts) go = refl

then_then : {A B C : Type 0} (found : Found A) (f : A → List Token → Found B) (g : B → List Token → Found C)
    → and_then (and_then found f) g ≡ and_then found (λ x us. and_then (f x us) g)
then_then None f g = refl
then_then (Some p) f g = refl

-- what the readers of the grammar are made of
ruleset taken = (at_mark_is, at_keyword_is, at_name_is, at_number_is, at_relation_is, then_then)

literal_is : (ts : List Token) → literal_at ts ≡ literal_front ts
unfolding literal_front
literal_is ts = simp taken

head_is : (ts : List Token) → head_at ts ≡ head_front ts
unfolding head_at head_front
head_is ts = simp taken

-- the same behind the same
same_behind : {A B : Type 0} (found : Found A) (f g : A → List Token → Found B) → ((x : A) (us : List Token) → f x us ≡ g x us) → and_then found f ≡ and_then found g
same_behind None f g e = refl
same_behind (Some p) f g e = e p.0 p.1

-- -2^63
picked : {B : Type 0} (found : Found ℕ) (n : ℕ) (go : List Token → Found B)
    → and_then found (λ m rest. cond (m == n) (go rest) None) ≡ and_then (and_then found (λ m rest. cond (m == n) (Some (tt, rest)) None)) (λ (_ : Unit {0}) us. go us)
picked None n go = refl
picked (Some p) n go = kept (p.0 == n) p.1 go

this_is : {B : Type 0} (n : ℕ) (ts : List Token) (go : List Token → Found B)
    → and_then (literal_at ts) (λ m rest. cond (m == n) (go rest) None) ≡ and_then (this_literal_front n ts) (λ _ us. go us)
unfolding this_literal_front
this_is n ts go = ap (λ found. and_then found (λ m rest. cond (m == n) (go rest) None)) (literal_is ts) ∙ picked (literal_front ts) n go

least_end_front : Reader (Unit {0})
least_end_front ts = and_then (sign_front ts) (λ _ ws. and_then (this_literal_front 1 ws) (λ _ xs. mark_at close_round xs))

least_end_is : (ts : List Token) → least_end ts ≡ and_then (least_end_front ts) (λ _ rest. Some (Number least, rest))
unfolding least_end_front sign_front
least_end_is [] = refl
least_end_is (operator Sub ∷ ts) = this_is 1 ts (λ us. at_mark close_round us (λ rest. Some (Number least, rest))) ∙ simp taken
least_end_is (_ ∷ ts) = refl

least_is : (ts : List Token) → least_at ts ≡ and_then (least_front ts) (λ _ rest. Some (Number least, rest))
unfolding least_front least_end_front sign_front
least_is [] = refl
least_is (operator Sub ∷ ts) = this_is (2 ^ 63 - 1) ts least_end ∙ simp (least_end_is, then_then)
least_is (_ ∷ ts) = refl

-- brackets
choice_is : (inner : Reader CExpr) (a : CExpr) (op : CRel) (ts : List Token)
    → and_then (inner ts) (λ b us. at_mark question us (λ vs. and_then (inner vs) (λ c ws. at_mark colon ws (λ xs. and_then (inner xs)
    (λ d ys. at_mark close_round ys (λ rest. Some (Pick (record { op = op; left = a; right = b }) c d, rest))))))) ≡ choice_front inner a op ts
unfolding choice_front number_then_front
choice_is inner a op ts = simp taken

taken_or : (b : Bool) (a : CExpr) (ts : List Token) (other : Found CExpr)
    → other ≡ None → cond b (Some (a, ts)) None ≡ found_or (cond b (Some (tt, ts)) None) other (λ (_ : Unit {0}) rest. Some (a, rest))
taken_or true a ts other e = refl
taken_or false a ts other e = sym e

behind_is : (inner : Reader CExpr) (a : CExpr) (ts : List Token) → bracket_end inner a ts ≡ behind_front inner a ts
unfolding bracket_end behind_front mark_at relation_at
behind_is inner a [] = refl
behind_is inner a (mark m ∷ ts) = taken_or (mark_number close_round == mark_number m) a ts None refl
behind_is inner a (relation op ∷ ts) = choice_is inner a op ts
behind_is inner a (_ ∷ ts) = refl

found_else : {A B : Type 0} (found : Found A) (x : B) (other more : Found B)
    → other ≡ more → or_else (and_then found (λ _ rest. Some (x, rest))) other ≡ found_or found more (λ _ rest. Some (x, rest))
found_else None x other more e = e
found_else (Some p) x other more e = refl

bracket_is : (inner : Reader CExpr) (ts : List Token) → or_else (least_at ts) (and_then (inner ts) (bracket_end inner)) ≡ bracket_front inner ts
unfolding bracket_front
bracket_is inner ts =
    ap (λ found. or_else found (and_then (inner ts) (bracket_end inner))) (least_is ts)
    ∙ found_else (least_front ts) (Number least) _ _ (same_behind (inner ts) (bracket_end inner) (behind_front inner) (behind_is inner))

-- places
path_is : (inner : Reader CExpr) (f : ℕ) (steps : List CStep) (ts : List Token)
    → path_front inner f steps ts ≡ and_then (path_at inner f ts) (λ more rest. Some (steps ++ more, rest))
unfolding path_front path_at mark_at number_then_front
path_is inner zero steps ts = simp append-nil
path_is inner (suc f) steps [] = simp append-nil
path_is inner (suc f) steps (mark dot ∷ ts) = simp (taken, path_is inner f, append_assoc)
path_is inner (suc f) steps (mark open_square ∷ ts) = simp (taken, path_is inner f, append_assoc)
path_is inner (suc f) steps (_ ∷ ts) = simp append-nil

place_is : (inner : Reader CExpr) (f : ℕ) (w : List ℕ) (ts : List Token)
    → and_then {B = CPlace} (path_at inner f ts) (λ steps rest. Some (record { name = word w; path = steps }, rest)) ≡ place_front inner f w ts
unfolding place_front
place_is inner f w ts = simp (path_is, then_then)

operand_is : (inner : Reader CExpr) (f : ℕ) (ts : List Token) → operand_at inner f ts ≡ operand_front inner f ts
unfolding operand_at operand_front name_at mark_at place_front
operand_is inner f [] = refl
operand_is inner f (name w ∷ ts) = simp (path_is, then_then)
operand_is inner f (mark open_round ∷ ts) = bracket_is inner ts
operand_is inner f (_ ∷ ts) = refl

signed_literal : (make : ℕ → CExpr) (ts : List Token) (other : Found CExpr)
    → or_else (and_then (literal_at ts) (λ n rest. Some (make n, rest))) other ≡ or_else (and_then (literal_front ts) (λ n rest. Some (make n, rest))) other
signed_literal make ts other = ap (λ found. or_else (and_then found (λ n rest. Some (make n, rest))) other) (literal_is ts)

signed_is : (inner : Reader CExpr) (f : ℕ) (ts : List Token) → signed_at inner f ts ≡ signed_front inner f ts
unfolding signed_at signed_front signed_literal_front sign_front
signed_is inner f [] =
    signed_literal (λ n. Number (pos n)) [] (operand_at inner f [])
    ∙ ap (or_else (and_then (literal_front []) (λ n rest. Some (Number (pos n), rest)))) (operand_is inner f [])
signed_is inner f (operator Sub ∷ ts) =
    signed_literal negated ts (and_then (operand_at inner f ts) (λ e rest. Some (Minus e, rest)))
    ∙ ap (λ found. or_else (and_then (literal_front ts) (λ n rest. Some (negated n, rest))) (and_then found (λ e rest. Some (Minus e, rest)))) (operand_is inner f ts)
signed_is inner f (t ∷ ts) =
    signed_literal (λ n. Number (pos n)) (t ∷ ts) (operand_at inner f (t ∷ ts))
    ∙ ap (or_else (and_then (literal_front (t ∷ ts)) (λ n rest. Some (Number (pos n), rest)))) (operand_is inner f (t ∷ ts))

-- products and sums
operator_or : {B : Type 0} (b : Bool) (op : COp) (ts : List Token) (other on : Found B) (go : COp → List Token → Found B)
    → on ≡ go op ts → cond b on other ≡ found_or (cond b (Some (op, ts)) None) other go
operator_or true op ts other on go e = e
operator_or false op ts other on go e = refl

product_rest_is : (inner : Reader CExpr) (f : ℕ) (a : CExpr) (ts : List Token) → product_rest inner f a ts ≡ product_rest_front inner f a ts
unfolding product_rest product_rest_front operator_at
product_rest_is inner zero a ts = refl
product_rest_is inner (suc f) a [] = refl
product_rest_is inner (suc f) a (operator op ∷ ts) =
    operator_or (is_product op) op ts (Some (a, operator op ∷ ts)) _ _
    (ap (λ found. and_then found (λ b us. product_rest inner f (Op op a b) us)) (signed_is inner f ts)
    ∙ same_behind (signed_front inner f ts) _ _ (λ b us. product_rest_is inner f (Op op a b) us))
product_rest_is inner (suc f) a (_ ∷ ts) = refl

product_is : (inner : Reader CExpr) (f : ℕ) (ts : List Token) → product_at inner f ts ≡ product_front inner f ts
unfolding product_at product_front
product_is inner f ts = ap (λ found. and_then found (product_rest inner f)) (signed_is inner f ts) ∙ same_behind (signed_front inner f ts) _ _ (product_rest_is inner f)

sum_rest_is : (inner : Reader CExpr) (f : ℕ) (a : CExpr) (ts : List Token) → sum_rest inner f a ts ≡ sum_rest_front inner f a ts
unfolding sum_rest sum_rest_front operator_at
sum_rest_is inner zero a ts = refl
sum_rest_is inner (suc f) a [] = refl
sum_rest_is inner (suc f) a (operator op ∷ ts) =
    operator_or (is_sum op) op ts (Some (a, operator op ∷ ts)) _ _
    (ap (λ found. and_then found (λ b us. sum_rest inner f (Op op a b) us)) (product_is inner f ts)
    ∙ same_behind (product_front inner f ts) _ _ (λ b us. sum_rest_is inner f (Op op a b) us))
sum_rest_is inner (suc f) a (_ ∷ ts) = refl

sum_is : (inner : Reader CExpr) (f : ℕ) (ts : List Token) → sum_at inner f ts ≡ and_then (product_front inner f ts) (sum_rest_front inner f)
unfolding sum_at
sum_is inner f ts = ap (λ found. and_then found (sum_rest inner f)) (product_is inner f ts) ∙ same_behind (product_front inner f ts) _ _ (sum_rest_is inner f)

number_is : (d : ℕ) (ts : List Token) → number_at d ts ≡ number_front d ts
unfolding number_at number_front
number_is zero ts = refl
number_is (suc d) ts =
    sum_is (number_at d) (suc d) ts ∙ ap (λ (r : Reader CExpr). and_then (product_front r (suc d) ts) (sum_rest_front r (suc d))) (fun_ext (number_is d))

number_same : (d : ℕ) → number_at d ≡ number_front d
number_same d = fun_ext (number_is d)

test_is : (d : ℕ) (ts : List Token) → test_at d ts ≡ test_front d ts
unfolding test_at test_front
test_is d ts = simp (taken, number_is)

-- cases
constant_literal : (make : ℕ → ℤ) (ts : List Token)
    → and_then (literal_at ts) (λ n rest. Some (make n, rest)) ≡ and_then (literal_front ts) (λ n rest. Some (make n, rest))
constant_literal make ts = ap (λ found. and_then found (λ n rest. Some (make n, rest))) (literal_is ts)

constant_is : (ts : List Token) → constant_at ts ≡ constant_front ts
unfolding constant_at constant_front sign_front mark_at
constant_is [] = constant_literal (λ n. pos n) []
constant_is (operator Sub ∷ ts) = constant_literal (λ n. neg_ℤ (pos n)) ts
constant_is (mark open_round ∷ ts) = ap (λ found. and_then found (λ e rest. Some (least, rest))) (least_is ts) ∙ simp then_then
constant_is (t ∷ ts) = constant_literal (λ n. pos n) (t ∷ ts)

case_is : (ts : List Token) → case_at ts ≡ case_front ts
unfolding case_at case_front jump_front label_front
case_is ts = simp (taken, constant_is)

case_same : case_at ≡ case_front
case_same = fun_ext case_is

-- statements
goto_is : (ts : List Token) → goto_at ts ≡ and_then (label_front ts) (λ l rest. Some (Goto (word l), rest))
unfolding goto_at label_front
goto_is ts = simp taken

if_is : (d : ℕ) (ts : List Token) → if_at d ts ≡ if_front d ts
unfolding if_at if_front jump_front label_front
if_is d ts = simp (taken, test_is)

switch_is : (d : ℕ) (ts : List Token) → switch_at d ts ≡ switch_front d ts
unfolding switch_at switch_front number_then_front default_front jump_front label_front
switch_is d ts = simp (taken, number_is, case_same)

return_is : (ts : List Token) → return_at ts ≡ and_then (mark_at semicolon ts) (λ _ rest. Some (Return, rest))
unfolding return_at
return_is ts = simp taken

assign_is : (d : ℕ) (w : List ℕ) (ts : List Token)
    → and_then (path_at (number_at d) d ts) (λ steps us. at_mark equals us (λ vs. and_then (number_at d vs)
    (λ e ws. at_mark semicolon ws (λ rest. Some (Assign (record { name = word w; path = steps }) e, rest))))) ≡ assign_front d w ts
unfolding assign_front place_front number_then_front
assign_is d w ts = simp (taken, path_is, number_is, number_same d)

named_is : (d : ℕ) (w : List ℕ) (ts : List Token) → named_at d w ts ≡ named_front d w ts
unfolding named_at named_front call_front mark_at
named_is d w [] = assign_is d w []
named_is d w (mark colon ∷ ts) = simp taken
named_is d w (mark open_round ∷ ts) = simp taken
named_is d w (t ∷ ts) = assign_is d w (t ∷ ts)

statement_is : (d : ℕ) (ts : List Token) → statement_at d ts ≡ statement_front d ts
unfolding statement_at statement_front word_statement_front name_at keyword_at
statement_is d [] = refl
statement_is d (name w ∷ ts) = named_is d w ts
statement_is d (keyword goto_ ∷ ts) = goto_is ts
statement_is d (keyword if_ ∷ ts) = if_is d ts
statement_is d (keyword switch_ ∷ ts) = switch_is d ts
statement_is d (keyword return_ ∷ ts) = return_is ts
statement_is d (_ ∷ ts) = refl

statement_same : (d : ℕ) → statement_at d ≡ statement_front d
statement_same d = fun_ext (statement_is d)

-- declarations
type_is : (ts : List Token) → type_at ts ≡ type_front ts
unfolding type_at type_front keyword_at name_at
type_is [] = refl
type_is (keyword int64_t ∷ ts) = refl
type_is (name s ∷ ts) = refl
type_is (_ ∷ ts) = refl

then_cond : {A B : Type 0} (b : Bool) (found : Found A) (go : A → List Token → Found B) → and_then (cond b found None) go ≡ cond b (and_then found go) None
then_cond true found go = refl
then_cond false found go = refl

size_is : (kind : CType) (m : List ℕ) (ts : List Token)
    → at_number ts (λ n us. cond (nat_lt 0 n && nat_le n 65536) (at_mark close_square us (λ vs. at_mark semicolon vs
    (λ rest. Some (record { kind = kind; name = word m; size = Some n }, rest)))) None)
    ≡ and_then (and_then (digits_at ts) (λ n us. cond (nat_lt 0 n && nat_le n 65536) (and_then (mark_at close_square us) (λ _ rest. Some (Some n, rest))) None))
    (λ size us. and_then {B = CMember} (mark_at semicolon us) (λ _ rest. Some (record { kind = kind; name = word m; size = size }, rest)))
size_is kind m ts = simp (taken, then_cond)

member_end_is : (kind : CType) (m : List ℕ) (ts : List Token)
    → member_end kind m ts ≡ and_then (size_front ts) (λ size us. and_then (mark_at semicolon us) (λ _ rest. Some (record { kind = kind; name = word m; size = size }, rest)))
unfolding member_end size_front mark_at
member_end_is kind m [] = refl
member_end_is kind m (mark semicolon ∷ ts) = refl
member_end_is kind m (mark open_square ∷ ts) = size_is kind m ts
member_end_is kind m (_ ∷ ts) = refl

member_is : (ts : List Token) → member_at ts ≡ member_front ts
unfolding member_at member_front
member_is ts = simp (taken, type_is, member_end_is)

member_same : member_at ≡ member_front
member_same = fun_ext member_is

struct_end_is : (ms : List CMember) (ts : List Token)
    → struct_end ms ts ≡ and_then (some_members ms ts) (λ ms us. and_then (mark_at close_brace us) (λ _ vs. and_then (label_front vs)
    (λ s rest. Some (record { name = word s; members = ms }, rest))))
unfolding struct_end label_front
struct_end_is [] ts = refl
struct_end_is (m ∷ ms) ts = simp taken

struct_end_same : struct_end ≡ (λ ms ts. and_then (some_members ms ts) (λ ms us. and_then (mark_at close_brace us) (λ _ vs. and_then (label_front vs)
    (λ s rest. Some (record { name = word s; members = ms }, rest)))))
struct_end_same = fun_ext (λ ms. fun_ext (struct_end_is ms))

struct_is : (d : ℕ) (ts : List Token) → struct_at d ts ≡ struct_front d ts
unfolding struct_at struct_front members_front
struct_is d ts = simp (taken, member_same, struct_end_same)

struct_same : (d : ℕ) → struct_at d ≡ struct_front d
struct_same d = fun_ext (struct_is d)

global_is : (ts : List Token) → global_at ts ≡ global_front ts
unfolding global_at global_front label_front
global_is ts = simp (taken, type_is)

global_same : global_at ≡ global_front
global_same = fun_ext global_is

event_is : (ts : List Token) → event_at ts ≡ event_front ts
unfolding event_at event_front
event_is ts = simp (taken, head_is)

event_same : event_at ≡ event_front
event_same = fun_ext event_is

function_is : (d : ℕ) (ts : List Token) → function_at d ts ≡ function_front d ts
unfolding function_at function_front
function_is d ts = simp (taken, head_is, statement_same d)

function_same : (d : ℕ) → function_at d ≡ function_front d
function_same d = fun_ext (function_is d)

program_is : (d : ℕ) (ts : List Token) → program_at d ts ≡ program_front d ts
unfolding program_at program_front
program_is d ts = simp (struct_same d, global_same, event_same, function_same d)

pub tree_is : (ts : List Token) → read_tokens ts ≡ tree_of ts
unfolding read_tokens tree_of
tree_is ts = ap whole (program_is (length ts) ts)
