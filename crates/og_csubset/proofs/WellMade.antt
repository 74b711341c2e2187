-- A program that some text spells has C names, numbers of 64 bits, members and sizes; so its plain text is a text of it too.
use Rattle.std.proofs.Common.{ℕ, zero, suc, ◌-◌, ◌^◌, ◌<◌, Bool, true, false, cond, ◌==◌, nat_le, List, [], ◌∷◌, map, ℤ, pos, negsuc, neg_ℤ, Option, Some, None, sym, subst, arith}
use Rattle.og_names.specs.declared.Word.{Word}
use Rattle.og_csubset.specs.declared.CProgram.{CProgram}
use Rattle.og_csubset.specs.declared.CStruct.{CStruct}
use Rattle.og_csubset.specs.declared.CMember.{CMember}
use Rattle.og_csubset.specs.declared.CGlobal.{CGlobal}
use Rattle.og_csubset.specs.declared.CType.{CType}
use Rattle.og_csubset.specs.declared.CFunction.{CFunction}
use Rattle.og_csubset.specs.declared.CStmt.{CStmt}
use Rattle.og_csubset.specs.declared.CCase.{CCase}
use Rattle.og_csubset.specs.declared.CPlace.{CPlace}
use Rattle.og_csubset.specs.declared.CStep.{CStep}
use Rattle.og_csubset.specs.declared.CExpr.{CExpr, Number, Minus, Op}
use Rattle.og_csubset.specs.declared.CTest.{CTest}
use Rattle.og_csubset.specs.declared.COp.{COp}
use Rattle.og_csubset.specs.declared.COp.TheVariants.{Sub}
use Rattle.og_csubset.specs.Tokens.{Token, operator, mark, close_round, semicolon, close_brace, Cuts}
use Rattle.og_csubset.specs.Spelling.{word, least, literal, least_text, IsSum, sum, SumGoesOn, sum_ends, add, IsProduct, product, ProductGoesOn, product_ends, multiply, IsSigned, positive, negative, minus_zero, unsigned, minus, IsOperand, read, bracket, pick, least_number, IsTest, test, IsPlace, place, IsPath, path_ends, member, index, Each, none, one_more, IsConstant, constant, negative_constant, least_constant, IsCase, case_goto, IsStatement, assign, if_goto, goto, label, switch, call, return, IsType, number_type, struct_type, IsMember, single, array, IsStruct, structure, IsGlobal, global, IsEvent, event, IsFunction, function, IsProgram, program, CSpells}
use Rattle.og_csubset.specs.Plain.{Text, Piece, piece, bracketed, shown, number_piece, is_value, behind_sign, is_least_sum, op_level, operation, op_piece, joined, plain_piece, plain_place, plain_test, each, plain_constant, plain_case, plain_statement, plain_type, plain_member, plain_struct, plain_global, plain_event, plain_function, plain_tokens, IsSize, HasSizes, HasMember, HasMembers, AreTokens, IsWellMade}
use Rattle.og_csubset.proofs.PlainTexts.{plain_step, piece-Number, piece-Read, piece-Minus, piece-Op, piece-Pick, step-Member, step-At, place-text, test-text}

-- a text of tokens, before tokens
abbrev TextOk : Text → Type 0
TextOk text = (rest : List Token) → AreTokens rest → AreTokens (text rest)

record PieceOk (p : Piece) : Type 0 where
  bare_ok : TextOk p.bare
  inside_ok : TextOk p.inside

same_ok : (level : ℕ) (text : Text) (value : Option ℤ) → TextOk text → PieceOk (piece level text value)
same_ok level text value h = record { bare_ok = h; inside_ok = h }

bracketed_ok : (p : Piece) → PieceOk p → TextOk (bracketed p)
bracketed_ok p h rest k = (tt, h.inside_ok (mark close_round ∷ rest) (tt, k))

shown_ok : (level : ℕ) (p : Piece) → PieceOk p → TextOk (shown level p)
shown_ok level p h rest k = go (nat_le p.level level)
  where
    go : (c : Bool) → AreTokens (cond c (p.bare rest) (bracketed p rest))
    go true = h.bare_ok rest k
    go false = bracketed_ok p h rest k

operation_ok : (level : ℕ) (op : COp) (p q : Piece) → PieceOk p → PieceOk q → TextOk (operation level op p q)
operation_ok level op p q g h rest k = shown_ok level p g (operator op ∷ shown (level - 1) q rest) (tt, shown_ok (level - 1) q h rest k)

op_ok : (op : COp) (p q : Piece) → PieceOk p → PieceOk q → PieceOk (op_piece op p q)
op_ok op p q g h = record { bare_ok = operation_ok (op_level op) op p q g h; inside_ok = go (is_least_sum op p q) }
  where
    go : (c : Bool) → TextOk (cond {A = Text} c (λ rest. bracketed p (operator op ∷ shown 2 q rest)) (operation (op_level op) op p q))
    go true rest k = bracketed_ok p g (operator op ∷ shown 2 q rest) (tt, shown_ok 2 q h rest k)
    go false rest k = operation_ok (op_level op) op p q g h rest k

literal_ok : (n : ℕ) → n < 2 ^ 63 → TextOk (literal n)
literal_ok n h rest k = (tt, (tt, (h, (tt, k))))

least_ok : TextOk least_text
least_ok rest k = (tt, (tt, literal_ok (2 ^ 63 - 1) (omega arith) (operator Sub ∷ literal 1 (mark close_round ∷ rest)) (tt, literal_ok 1 (omega arith) (mark close_round ∷ rest) (tt, k))))

negative_ok : (n : ℕ) → suc n < 2 ^ 63 → PieceOk (number_piece (negsuc n))
negative_ok n h = go (n == 2 ^ 63 - 1)
  where
    go : (c : Bool) → PieceOk (cond c (piece 0 least_text None) (piece 1 (λ rest. operator Sub ∷ literal (suc n) rest) (Some (negsuc n))))
    go true = same_ok 0 least_text None least_ok
    go false = same_ok 1 (λ rest. operator Sub ∷ literal (suc n) rest) (Some (negsuc n)) (λ rest k. (tt, literal_ok (suc n) h rest k))

behind_ok : (p : Piece) → PieceOk p → TextOk (λ rest. operator Sub ∷ behind_sign p rest)
behind_ok p h rest k = (tt, go (is_value (pos 0) p.value))
  where
    go : (c : Bool) → AreTokens ((cond {A = Text} c p.bare (shown 0 p)) rest)
    go true = h.bare_ok rest k
    go false = shown_ok 0 p h rest k

minus_ok : (e : CExpr) → PieceOk (plain_piece e) → PieceOk (plain_piece (Minus e))
minus_ok e h = subst PieceOk (sym (piece-Minus e)) (same_ok 1 _ None (behind_ok (plain_piece e) h))

join_ok : (op : COp) (a b : CExpr) → PieceOk (plain_piece a) → PieceOk (plain_piece b) → PieceOk (plain_piece (Op op a b))
join_ok op a b g h = subst PieceOk (sym (piece-Op op a b)) (op_ok op (plain_piece a) (plain_piece b) g h)

-- the tokens of a literal
literal_parts : (n : ℕ) (rest : List Token) → AreTokens (literal n rest) → (n < 2 ^ 63) × AreTokens rest
literal_parts n rest h = (h.1.1.0, h.1.1.1.1)

least_parts : (rest : List Token) → AreTokens (least_text rest) → AreTokens rest
least_parts rest h = (literal_parts 1 (mark close_round ∷ rest) (literal_parts (2 ^ 63 - 1) (operator Sub ∷ literal 1 (mark close_round ∷ rest)) h.1.1).1.1).1.1

mutual
  sum_ok : {e : CExpr} {ts rest : List Token} → IsSum e ts rest → AreTokens ts → AreTokens rest × PieceOk (plain_piece e)
  sum_ok (sum p more) h = let first = product_ok p h in sum_rest_ok more first.1 first.0

  sum_rest_ok : {a e : CExpr} {ts rest : List Token} → SumGoesOn a e ts rest → PieceOk (plain_piece a) → AreTokens ts
      → AreTokens rest × PieceOk (plain_piece e)
  sum_rest_ok sum_ends g h = (h, g)
  sum_rest_ok (add {op} is p more) g h = let next = product_ok p h.1 in sum_rest_ok more (join_ok op _ _ g next.1) next.0

  product_ok : {e : CExpr} {ts rest : List Token} → IsProduct e ts rest → AreTokens ts → AreTokens rest × PieceOk (plain_piece e)
  product_ok (product p more) h = let first = signed_ok p h in product_rest_ok more first.1 first.0

  product_rest_ok : {a e : CExpr} {ts rest : List Token} → ProductGoesOn a e ts rest → PieceOk (plain_piece a) → AreTokens ts
      → AreTokens rest × PieceOk (plain_piece e)
  product_rest_ok product_ends g h = (h, g)
  product_rest_ok (multiply {op} is p more) g h = let next = signed_ok p h.1 in product_rest_ok more (join_ok op _ _ g next.1) next.0

  signed_ok : {e : CExpr} {ts rest : List Token} → IsSigned e ts rest → AreTokens ts → AreTokens rest × PieceOk (plain_piece e)
  signed_ok (positive {n} {rest}) h =
      let parts = literal_parts n rest h in
      (parts.1, subst PieceOk (sym (piece-Number (pos n))) (same_ok 1 (literal n) (Some (pos n)) (literal_ok n parts.0)))
  signed_ok (negative {n} {rest}) h =
      let parts = literal_parts (suc n) rest h.1 in (parts.1, subst PieceOk (sym (piece-Number (negsuc n))) (negative_ok n parts.0))
  signed_ok (minus_zero {rest}) h =
      let parts = literal_parts 0 rest h.1 in
      (parts.1, minus_ok (Number (pos 0)) (subst PieceOk (sym (piece-Number (pos 0))) (same_ok 1 (literal 0) (Some (pos 0)) (literal_ok 0 parts.0))))
  signed_ok (unsigned p) h = operand_ok p h
  signed_ok (minus p) h = let part = operand_ok p h.1 in (part.0, minus_ok _ part.1)

  operand_ok : {e : CExpr} {ts rest : List Token} → IsOperand e ts rest → AreTokens ts → AreTokens rest × PieceOk (plain_piece e)
  operand_ok (read {p} q) h =
      let part = place_ok q h in (part.0, subst PieceOk (sym (piece-Read p)) (same_ok 0 (plain_place p) None part.1))
  operand_ok (bracket p other) h = let part = sum_ok p h.1 in (part.0.1, part.1)
  operand_ok (pick {t} {a} {b} p q r) h =
      let first = test_ok p h.1 in
      let second = sum_ok q first.0.1 in
      let third = sum_ok r second.0.1 in (
        third.0.1,
        subst PieceOk (sym (piece-Pick t a b)) (same_ok 0 _ None
            (λ rest k. (tt, first.1 _ (tt, second.1.bare_ok _ (tt, third.1.bare_ok (mark close_round ∷ rest) (tt, k)))))),
      )
  operand_ok (least_number {rest}) h = (least_parts rest h, subst PieceOk (sym (piece-Number least)) (same_ok 0 least_text None least_ok))

  test_ok : {t : CTest} {ts rest : List Token} → IsTest t ts rest → AreTokens ts → AreTokens rest × TextOk (plain_test t)
  test_ok (test {a} {b} {op} p q) h =
      let first = sum_ok p h in
      let second = sum_ok q first.0.1 in
      (second.0, subst TextOk (sym (test-text op a b)) (λ rest k. first.1.bare_ok _ (tt, second.1.bare_ok rest k)))

  place_ok : {p : CPlace} {ts rest : List Token} → IsPlace p ts rest → AreTokens ts → AreTokens rest × TextOk (plain_place p)
  place_ok (place {w} {steps} p) h =
      let part = path_ok p h.1 in (part.0, subst TextOk (sym (place-text (word w) steps)) (λ rest k. (h.0, part.1 rest k)))

  path_ok : {steps : List CStep} {ts rest : List Token} → IsPath steps ts rest → AreTokens ts
      → AreTokens rest × TextOk (joined (map plain_step steps))
  path_ok path_ends h = (h, λ rest k. k)
  path_ok (member {w} {steps} p) h =
      let part = path_ok p h.1.1 in
      (part.0, subst (λ t. TextOk (λ rest. t (joined (map plain_step steps) rest))) (sym (step-Member (word w))) (λ rest k. (tt, (h.1.0, part.1 rest k))))
  path_ok (index {e} {steps} p q) h =
      let first = sum_ok p h.1 in
      let part = path_ok q first.0.1 in
      (part.0, subst (λ t. TextOk (λ rest. t (joined (map plain_step steps) rest))) (sym (step-At e)) (λ rest k. (tt, first.1.bare_ok _ (tt, part.1 rest k))))

module _ {A : Type 0} (Is : A → List Token → List Token → Type 0) (text : A → Text)
    (one_ok : (x : A) (ts rest : List Token) → Is x ts rest → AreTokens ts → AreTokens rest × TextOk (text x)) where
  each_ok : {xs : List A} {ts rest : List Token} → Each Is xs ts rest → AreTokens ts → AreTokens rest × TextOk (each text xs)
  each_ok none h = (h, λ rest k. k)
  each_ok (one_more {x} {xs} p more) h =
      let first = one_ok x _ _ p h in
      let others = each_ok more first.0 in
      (others.0, λ rest k. first.1 (each text xs rest) (others.1 rest k))

negated_ok : (n : ℕ) → n < 2 ^ 63 → TextOk (plain_constant (neg_ℤ (pos n)))
negated_ok zero h = literal_ok 0 h
negated_ok (suc n) h = (negative_ok n h).bare_ok

constant_ok : {z : ℤ} {ts rest : List Token} → IsConstant z ts rest → AreTokens ts → AreTokens rest × TextOk (plain_constant z)
constant_ok (constant {n} {rest}) h = let parts = literal_parts n rest h in (parts.1, literal_ok n parts.0)
constant_ok (negative_constant {n} {rest}) h = let parts = literal_parts n rest h.1 in (parts.1, negated_ok n parts.0)
constant_ok (least_constant {rest}) h = (least_parts rest h, least_ok)

case_ok : (c : CCase) (ts rest : List Token) → IsCase c ts rest → AreTokens ts → AreTokens rest × TextOk (plain_case c)
case_ok c ts rest (case_goto p) h =
    let first = constant_ok p h.1 in
    let jump = first.0.1 in
    (jump.1.1.1, λ us k. (tt, first.1 _ (tt, (tt, (jump.1.0, (tt, k))))))

statement_ok : (s : CStmt) (ts rest : List Token) → IsStatement s ts rest → AreTokens ts → AreTokens rest × TextOk (plain_statement s)
statement_ok s ts rest (assign p e) h =
    let first = place_ok p h in
    let second = sum_ok e first.0.1 in
    (second.0.1, λ us k. first.1 _ (tt, second.1.bare_ok (mark semicolon ∷ us) (tt, k)))
statement_ok s ts rest (if_goto t) h =
    let first = test_ok t h.1.1 in
    let jump = first.0.1 in
    (jump.1.1.1, λ us k. (tt, (tt, first.1 _ (tt, (tt, (jump.1.0, (tt, k)))))))
statement_ok s ts rest goto h = (h.1.1.1, λ us k. (tt, (h.1.0, (tt, k))))
statement_ok s ts rest label h = (h.1.1.1, λ us k. (h.0, (tt, (tt, k))))
statement_ok s ts rest (switch e cases) h =
    let first = sum_ok e h.1.1 in
    let second = each_ok IsCase plain_case case_ok cases first.0.1.1 in
    let jump = second.0.1.1 in
    (jump.1.1.1.1, λ us k. (tt, (tt, first.1.bare_ok _ (tt, (tt, second.1 _ (tt, (tt, (tt, (jump.1.0, (tt, (tt, k)))))))))))
statement_ok s ts rest call h = (h.1.1.1.1, λ us k. (h.0, (tt, (tt, (tt, k)))))
statement_ok s ts rest return h = (h.1.1, λ us k. (tt, (tt, k)))

type_ok : {t : CType} {ts rest : List Token} → IsType t ts rest → AreTokens ts → AreTokens rest × TextOk (plain_type t)
type_ok number_type h = (h.1, λ us k. (tt, k))
type_ok struct_type h = (h.1, λ us k. (h.0, k))

member_ok : (m : CMember) (ts rest : List Token) → IsMember m ts rest → AreTokens ts → AreTokens rest × TextOk (plain_member m)
member_ok m ts rest (single t) h =
    let first = type_ok t h in (first.0.1.1, λ us k. first.1 _ (first.0.0, (tt, k)))
member_ok m ts rest (array low high t) h =
    let first = type_ok t h in
    (first.0.1.1.1.1.1, λ us k. first.1 _ (first.0.0, (tt, (first.0.1.1.0, (tt, (tt, k))))))

struct_ok : (s : CStruct) (ts rest : List Token) → IsStruct s ts rest → AreTokens ts → AreTokens rest × TextOk (plain_struct s)
struct_ok s ts rest (structure ms) h =
    let first = each_ok IsMember plain_member member_ok ms h.1.1.1 in
    (first.0.1.1.1, λ us k. (tt, (tt, (tt, first.1 _ (tt, (first.0.1.0, (tt, k)))))))

global_ok : (g : CGlobal) (ts rest : List Token) → IsGlobal g ts rest → AreTokens ts → AreTokens rest × TextOk (plain_global g)
global_ok g ts rest (global t) h =
    let first = type_ok t h in (first.0.1.1, λ us k. first.1 _ (first.0.0, (tt, k)))

event_ok : (e : Word) (ts rest : List Token) → IsEvent e ts rest → AreTokens ts → AreTokens rest × TextOk (plain_event e)
event_ok e ts rest event h = (h.1.1.1.1.1.1, λ us k. (tt, (h.1.0, (tt, (tt, (tt, (tt, k)))))))

function_ok : (f : CFunction) (ts rest : List Token) → IsFunction f ts rest → AreTokens ts → AreTokens rest × TextOk (plain_function f)
function_ok f ts rest (function body) h =
    let first = each_ok IsStatement plain_statement statement_ok body h.1.1.1.1.1.1 in
    (first.0.1, λ us k. (tt, (h.1.0, (tt, (tt, (tt, (tt, first.1 (mark close_brace ∷ us) (tt, k))))))))

member_size : (m : CMember) (ts rest : List Token) → IsMember m ts rest → IsSize m.size
member_size m ts rest (single t) = tt
member_size m ts rest (array low high t) = (low, high)

sizes : {ms : List CMember} {ts rest : List Token} → Each IsMember ms ts rest → HasSizes ms
sizes none = tt
sizes (one_more p more) = (member_size _ _ _ p, sizes more)

struct_members : (s : CStruct) (ts rest : List Token) → IsStruct s ts rest → HasMember s.members × HasSizes s.members
struct_members s ts rest (structure ms) = (tt, sizes ms)

members : {ss : List CStruct} {ts rest : List Token} → Each IsStruct ss ts rest → HasMembers ss
members none = tt
members (one_more p more) = let first = struct_members _ _ _ p in (first.0, first.1, members more)

program_ok : (P : CProgram) (ts : List Token) → IsProgram P ts → AreTokens ts → AreTokens (plain_tokens P) × HasMembers P.structs
program_ok P ts (program ss gs es fs) h =
    let a = each_ok IsStruct plain_struct struct_ok ss h in
    let b = each_ok IsGlobal plain_global global_ok gs a.0 in
    let c = each_ok IsEvent plain_event event_ok es b.0 in
    let d = each_ok IsFunction plain_function function_ok fs c.0 in
    (a.1 _ (b.1 _ (c.1 _ (d.1 [] tt))), members ss)

cuts_tokens : (ts : List Token) (bytes rest : List ℕ) → Cuts ts bytes rest → AreTokens ts
cuts_tokens [] bytes rest h = tt
cuts_tokens (t ∷ ts) bytes rest h = (h.1.is_token, cuts_tokens ts h.0 rest h.2)

-- a program that some text spells is well made
pub well_made : (P : CProgram) (text : List ℕ) → CSpells P text → IsWellMade P
well_made P text h =
    let parts = program_ok P h.0 h.2 (cuts_tokens h.0 h.1.0 h.1.2.0 h.1.2.1) in record { members = parts.1; tokens = parts.0 }
