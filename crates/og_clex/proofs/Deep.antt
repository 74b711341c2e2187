-- The nesting of one token more, and nesting that stays low.
use Rattle.std.proofs.Common.{◌≡◌, ℕ, ◌≤◌, Bool, true, false, cond, List, [], ◌∷◌, ◌++◌, refl, arith}
use Rattle.std.proofs.Math.Nat.{le-max_left, le-max_right, max-le}
use Rattle.og_csubset.specs.Tokens.{Token, name, number, operator, relation, keyword, mark, Keyword, typedef_, struct_, void_, if_, goto_, switch_, case_, default_, return_, int64_t, INT64_C, Mark, open_brace, close_brace, open_square, close_square, open_round, close_round, semicolon, colon, question, dot, equals}
use Rattle.og_csubset.specs.Nesting.{Level, Nest, opened, deeper, closed_in, ended, after_mark, after_token, after_tokens, nesting_from}
use Rattle.og_csubset.proofs.Nested.{depth}
use Rattle.og_clex.specs.Nests.{AreLow, IsLow}

pub after-more : (ts : List Token) (u : Token) (n : Nest) → after_tokens (ts ++ u ∷ []) n ≡ after_token u (after_tokens ts n)
after-more [] u n = refl
after-more (t ∷ ts) u n = after-more ts u (after_token t n)

pub nesting-more : (limit : ℕ) (ts : List Token) (u : Token) (n : Nest) → nesting_from n ts ≤ limit → depth (after_token u (after_tokens ts n)) ≤ limit
    → nesting_from n (ts ++ u ∷ []) ≤ limit
nesting-more limit [] u n h k = omega arith
nesting-more limit (t ∷ ts) u n h k =
    max-le (omega (arith, h, le-max_left (depth (after_token t n)) (nesting_from (after_token t n) ts)))
    (nesting-more limit ts u (after_token t n) (omega (arith, h, le-max_right (depth (after_token t n)) (nesting_from (after_token t n) ts))) k)

-- a bracket that opens
low_opened : (b : Bool) (n : Nest) → depth n ≤ 256 → AreLow n.outward → depth (opened b n) ≤ 256 → IsLow (opened b n)
low_opened b n h hs k = (k, (h, hs))

low_closed : (n : Nest) (ls : List Level) → AreLow ls → IsLow n → IsLow (closed_in n ls)
low_closed n [] hs h = h
low_closed n (l ∷ ls) hs h = hs

low_ended : (n : Nest) → IsLow n → depth (ended n) ≤ 256 → IsLow (ended n)
low_ended n h k = go n.level.is_block k
  where
    go : (c : Bool) → depth (cond c (record n { level = record n.level { depth = n.level.base } }) n) ≤ 256
        → IsLow (cond c (record n { level = record n.level { depth = n.level.base } }) n)
    go true k = (k, h.1)
    go false k = h

low_square : (c : Bool) (n : Nest) → IsLow n → depth (cond c (opened false n) (opened false (deeper n))) ≤ 256
    → IsLow (cond c (opened false n) (opened false (deeper n)))
low_square true n h k = (k, h)
low_square false n h k = (k, (omega arith, h.1))

low_brace : (n : Nest) (ls : List Level) → AreLow ls → IsLow n → IsLow (record (closed_in n ls) { in_struct = false })
low_brace n [] hs h = h
low_brace n (l ∷ ls) hs h = hs

low_mark : (m : Mark) (n : Nest) → IsLow n → depth (after_mark m n) ≤ 256 → IsLow (after_mark m n)
low_mark open_brace n h k = (k, h)
low_mark close_brace n h k = low_brace n n.outward h.1 h
low_mark open_square n h k = low_square n.in_struct n h k
low_mark close_square n h k = low_closed n n.outward h.1 h
low_mark open_round n h k = (k, h)
low_mark close_round n h k = low_closed n n.outward h.1 h
low_mark semicolon n h k = low_ended n h k
low_mark colon n h k = low_ended n h k
low_mark question n h k = h
low_mark dot n h k = (k, h.1)
low_mark equals n h k = low_ended n h k

low_keyword : (w : Keyword) (n : Nest) → IsLow n → IsLow (after_token (keyword w) n)
low_keyword typedef_ n h = h
low_keyword struct_ n h = h
low_keyword void_ n h = h
low_keyword if_ n h = h
low_keyword goto_ n h = h
low_keyword switch_ n h = h
low_keyword case_ n h = h
low_keyword default_ n h = h
low_keyword return_ n h = h
low_keyword int64_t n h = h
low_keyword INT64_C n h = h

-- what stays low with one token more
pub low_after : (u : Token) (n : Nest) → IsLow n → depth (after_token u n) ≤ 256 → IsLow (after_token u n)
low_after (name w) n h k = h
low_after (number x) n h k = h
low_after (operator op) n h k = (k, h.1)
low_after (relation op) n h k = (k, h.1)
low_after (keyword w) n h k = low_keyword w n h
low_after (mark m) n h k = low_mark m n h k
