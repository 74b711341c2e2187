-- Pieces of text that are tokens and nest at most 256 deep, put together. Texts of expressions are tokens, and lead from one
-- nesting to another; that they nest within the limit is said of the whole instruction (Fair), and each piece has it from there.
use Rattle.std.proofs.Common.{◌≡◌, ℕ, suc, ◌+◌, ◌-◌, ◌^◌, ◌<◌, ◌≤◌, ℤ, pos, negsuc, List, [], ◌∷◌, ◌++◌, Bool, true, false, cond, ◌==◌, nat_le, nat_lt, Option, Some, None, slice_get, refl, sym, ap, subst, ◌∙◌, arith, eq-eqb}
use Rattle.std.specs.Prelude.{int_le, int_lt}
use Rattle.std.proofs.lemmas.Bool.{false≢true, ltb-true, ltb-false, leb-true}
use Rattle.std.proofs.lemmas.List.{append_assoc}
use Rattle.og_ir.specs.Arithmetic.{in_64_bits}
use Rattle.og_csubset.specs.declared.COp.{COp}
use Rattle.og_csubset.specs.declared.COp.TheVariants.{Sub}
use Rattle.og_csubset.specs.Tokens.{Token, name, number, operator, keyword, mark, INT64_C, open_round, close_round, open_square, close_square, IsToken}
use Rattle.og_csubset.specs.Spelling.{literal, least_text}
use Rattle.og_csubset.specs.Nesting.{Level, Nest, after_token, after_tokens, nesting_from}
use Rattle.og_csubset.specs.Plain.{Text, Piece, piece, bracketed, shown, number_piece, is_least_sum, op_level, operation, op_piece, each, AreTokens}
use Rattle.og_csubset.proofs.FlatTexts.{nesting_front, nesting_joined}
use Rattle.og_names.proofs.Truths.{both_first as left_of, both_second as right_of}

-- tokens that nest at most 256 deep, from here on
pub record Right (nest : Nest) (tokens : List Token) : Type 0 where
  pub are : AreTokens tokens
  pub within : nesting_from nest tokens ≤ 256

-- a text leads from one nesting to another
pub record Goes (from : Nest) (text : Text) (to : Nest) : Type 0 where
  pub by : (rest : List Token) → Right to rest → Right from (text rest)

pub goes_none : (nest : Nest) → Goes nest (λ rest. rest) nest
goes_none nest = record { by = λ rest h. h }

pub goes_token : (token : Token) (nest : Nest) → IsToken token → (after_token token nest).level.depth ≤ 256
    → Goes nest (λ rest. token ∷ rest) (after_token token nest)
goes_token token nest is less = record {
  by = λ rest h. record { are = (is, h.are); within = let more = h.within in omega (arith, less, more) };
}

pub goes_on : (from middle to : Nest) (first second : Text) → Goes from first middle → Goes middle second to
    → Goes from (λ rest. first (second rest)) to
goes_on from middle to first second h k = record { by = λ rest right. h.by (second rest) (k.by rest right) }

-- texts that lead back to where they began
pub goes_each : {A : Type 0} (nest : Nest) (text : A → Text) (xs : List A)
    → ((j : ℕ) (x : A) → slice_get xs j ≡ Some x → Goes nest (text x) nest) → Goes nest (each text xs) nest
goes_each nest text [] h = record { by = λ rest right. right }
goes_each nest text (x ∷ xs) h =
    goes_on nest nest nest (text x) (each text xs) (h 0 x refl) (goes_each nest text xs (λ j y e. h (suc j) y e))

-- ---- texts of tokens, however deep they nest

-- a text puts these tokens in front, which lead from one nesting to another
pub record Leads (from : Nest) (text : Text) (to : Nest) : Type 0 where
  pub front : List Token
  pub appends : (rest : List Token) → text rest ≡ front ++ rest
  pub are : AreTokens front
  pub after : after_tokens front from ≡ to

are_append : (front rest : List Token) → AreTokens front → AreTokens rest → AreTokens (front ++ rest)
are_append [] rest h more = more
are_append (token ∷ front) rest h more = (h.0, are_append front rest h.1 more)

after_append : (front rest : List Token) (nest : Nest) → after_tokens (front ++ rest) nest ≡ after_tokens rest (after_tokens front nest)
after_append [] rest nest = refl
after_append (token ∷ front) rest nest = after_append front rest (after_token token nest)

-- where some text behind which something stands nests within the limit, so does the text before anything
pub goes_within : (from to : Nest) (text : Text) → Leads from text to → (rest : List Token) → nesting_from from (text rest) ≤ 256 → Goes from text to
goes_within from to text h rest less = record {
  by = λ others right. record {
    are = subst AreTokens (sym (h.appends others)) (are_append h.front others h.are right.are);
    within =
        subst (λ tokens. nesting_from from tokens ≤ 256) (sym (h.appends others))
        (nesting_joined from h.front others 256
        (nesting_front from h.front rest 256 (subst (λ tokens. nesting_from from tokens ≤ 256) (h.appends rest) less))
        (subst (λ nest. nesting_from nest others ≤ 256) (sym h.after) right.within));
  };
}

leads_token : (token : Token) (nest : Nest) → IsToken token → Leads nest (λ rest. token ∷ rest) (after_token token nest)
leads_token token nest is = record { front = token ∷ []; appends = λ rest. refl; are = (is, tt); after = refl }

leads_on : (from middle to : Nest) (first second : Text) → Leads from first middle → Leads middle second to
    → Leads from (λ rest. first (second rest)) to
leads_on from middle to first second h k = record {
  front = h.front ++ k.front;
  appends = λ rest. h.appends (second rest) ∙ ap (λ tokens. h.front ++ tokens) (k.appends rest) ∙ sym (append_assoc h.front k.front rest);
  are = are_append h.front k.front h.are k.are;
  after = after_append h.front k.front from ∙ ap (after_tokens k.front) h.after ∙ k.after;
}

-- ---- expressions

-- not in a struct, in a bracket or outside
abbrev pub nest_at : Bool → ℕ → ℕ → List Level → Nest
nest_at block base depth outward = record { in_struct = false; level = record { is_block = block; base = base; depth = depth }; outward = outward }

-- an expression's text begins at a depth, and ends at one in the same bracket
pub record Ends (text : Text) (block : Bool) (base depth : ℕ) (outward : List Level) : Type 0 where
  pub up : ℕ
  pub leads : Leads (nest_at block base depth outward) text (nest_at block base (depth + up) outward)

abbrev pub Deepens : Text → Type 0
Deepens text = (block : Bool) (base depth : ℕ) (outward : List Level) → Ends text block base depth outward

-- a token that counts nothing
pub deepens_none : (token : Token) → IsToken token
    → ((block : Bool) (base depth : ℕ) (outward : List Level) → after_token token (nest_at block base depth outward) ≡ nest_at block base depth outward)
    → Deepens (λ rest. token ∷ rest)
deepens_none token is same block base depth outward = record {
  up = 0;
  leads =
      subst (Leads (nest_at block base depth outward) (λ rest. token ∷ rest)) (same block base depth outward ∙ ap (λ d. nest_at block base d outward) (omega arith))
      (leads_token token (nest_at block base depth outward) is);
}

pub deepens_name : (w : List ℕ) → IsToken (name w) → Deepens (λ rest. name w ∷ rest)
deepens_name w is = deepens_none (name w) is (λ block base depth outward. refl)

-- an operator or a relation
pub deepens_one : (token : Token) → IsToken token
    → ((block : Bool) (base depth : ℕ) (outward : List Level) → after_token token (nest_at block base depth outward) ≡ nest_at block base (depth + 1) outward)
    → Deepens (λ rest. token ∷ rest)
deepens_one token is same block base depth outward = record {
  up = 1;
  leads =
      subst (Leads (nest_at block base depth outward) (λ rest. token ∷ rest)) (same block base depth outward)
      (leads_token token (nest_at block base depth outward) is);
}

pub deepens_then : (first second : Text) → Deepens first → Deepens second → Deepens (λ rest. first (second rest))
deepens_then first second h g block base depth outward =
    let one = h block base depth outward in
    let two = g block base (depth + one.up) outward in
    record {
      up = one.up + two.up;
      leads =
          subst (Leads (nest_at block base depth outward) (λ rest. first (second rest))) (ap (λ d. nest_at block base d outward) (omega arith))
          (leads_on _ _ _ first second one.leads two.leads);
    }

-- a bracket closes what was opened in it
pub deepens_bracket : (text : Text) → Deepens text → Deepens (λ rest. mark open_round ∷ text (mark close_round ∷ rest))
deepens_bracket text h block base depth outward =
    let level : Level = record { is_block = block; base = base; depth = depth } in
    let one = h false (depth + 1) (depth + 1) (level ∷ outward) in
    record {
      up = 0;
      leads =
          subst (Leads (nest_at block base depth outward) (λ rest. mark open_round ∷ text (mark close_round ∷ rest))) (ap (λ d. nest_at block base d outward) (omega arith))
          (leads_on _ _ _ (λ rest. mark open_round ∷ rest) (λ rest. text (mark close_round ∷ rest))
          (leads_token (mark open_round) (nest_at block base depth outward) tt)
          (leads_on _ _ _ text (λ rest. mark close_round ∷ rest) one.leads
          (leads_token (mark close_round) (nest_at false (depth + 1) (depth + 1 + one.up) (level ∷ outward)) tt)));
    }

-- an index and its brackets count two inside, and one behind
pub deepens_square : (text : Text) → Deepens text → Deepens (λ rest. mark open_square ∷ text (mark close_square ∷ rest))
deepens_square text h block base depth outward =
    let level : Level = record { is_block = block; base = base; depth = depth + 1 } in
    let one = h false (depth + 1 + 1) (depth + 1 + 1) (level ∷ outward) in
    record {
      up = 1;
      leads =
          leads_on _ _ _ (λ rest. mark open_square ∷ rest) (λ rest. text (mark close_square ∷ rest))
          (leads_token (mark open_square) (nest_at block base depth outward) tt)
          (leads_on _ _ _ text (λ rest. mark close_square ∷ rest) one.leads
          (leads_token (mark close_square) (nest_at false (depth + 1 + 1) (depth + 1 + 1 + one.up) (level ∷ outward)) tt));
    }

-- ---- numbers

literal_deepens : (n : ℕ) → n < 2 ^ 63 → Deepens (literal n)
literal_deepens n less =
    deepens_then (λ rest. keyword INT64_C ∷ rest) (λ rest. mark open_round ∷ number n ∷ mark close_round ∷ rest)
    (deepens_none (keyword INT64_C) tt (λ block base depth outward. refl))
    (deepens_bracket (λ rest. number n ∷ rest) (deepens_none (number n) less (λ block base depth outward. refl)))

minus_deepens : (text : Text) → Deepens text → Deepens (λ rest. operator Sub ∷ text rest)
minus_deepens text h = deepens_then (λ rest. operator Sub ∷ rest) text (deepens_one (operator Sub) tt (λ block base depth outward. refl)) h

least_deepens : Deepens least_text
least_deepens =
    deepens_bracket (λ rest. operator Sub ∷ literal (2 ^ 63 - 1) (operator Sub ∷ literal 1 rest))
    (minus_deepens (λ rest. literal (2 ^ 63 - 1) (operator Sub ∷ literal 1 rest))
    (deepens_then (literal (2 ^ 63 - 1)) (λ rest. operator Sub ∷ literal 1 rest) (literal_deepens (2 ^ 63 - 1) (omega arith))
    (minus_deepens (literal 1) (literal_deepens 1 (omega arith)))))

-- both texts of an expression
pub record PieceDeepens (p : Piece) : Type 0 where
  pub bare : Deepens p.bare
  pub inside : Deepens p.inside

pub piece_deepens : (level : ℕ) (text : Text) (value : Option ℤ) → Deepens text → PieceDeepens (piece level text value)
piece_deepens level text value h = record { bare = h; inside = h }

pub number_deepens : (z : ℤ) → in_64_bits z ≡ true → PieceDeepens (number_piece z)
number_deepens (pos n) h =
    piece_deepens 1 (literal n) (Some (pos n)) (literal_deepens n (ltb-true n (2 ^ 63) (right_of (int_le (negsuc (2 ^ 63 - 1)) (pos n)) (nat_lt n (2 ^ 63)) h)))
number_deepens (negsuc n) h = by_test (n == 2 ^ 63 - 1) refl
  where
    below : (b : Bool) → nat_lt n (2 ^ 63 - 1) ≡ b → (n == 2 ^ 63 - 1) ≡ false → suc n < 2 ^ 63
    below true e other = let less = ltb-true n (2 ^ 63 - 1) e in omega (arith, less)
    below false e other =
        let most = leb-true n (2 ^ 63 - 1) (left_of (int_le (negsuc (2 ^ 63 - 1)) (negsuc n)) (int_lt (negsuc n) (pos (2 ^ 63))) h) in
        let least = ltb-false n (2 ^ 63 - 1) e in
        absurd (false≢true (sym other ∙ eq-eqb n (2 ^ 63 - 1) (omega (arith, most, least))))

    by_test : (b : Bool) → (n == 2 ^ 63 - 1) ≡ b
        → PieceDeepens (cond b (piece 0 least_text None) (piece 1 (λ rest. operator Sub ∷ literal (suc n) rest) (Some (negsuc n))))
    by_test true e = piece_deepens 0 least_text None least_deepens
    by_test false e =
        piece_deepens 1 (λ rest. operator Sub ∷ literal (suc n) rest) (Some (negsuc n))
        (minus_deepens (literal (suc n)) (literal_deepens (suc n) (below (nat_lt n (2 ^ 63 - 1)) refl e)))

-- ---- operations

bracketed_deepens : (p : Piece) → PieceDeepens p → Deepens (bracketed p)
bracketed_deepens p h = deepens_bracket p.inside h.inside

shown_deepens : (level : ℕ) (p : Piece) → PieceDeepens p → Deepens (shown level p)
shown_deepens level p h block base depth outward = by_level (nat_le p.level level)
  where
    by_level : (b : Bool) → Ends (λ rest. cond b (p.bare rest) (bracketed p rest)) block base depth outward
    by_level true = h.bare block base depth outward
    by_level false = bracketed_deepens p h block base depth outward

behind_operator : (o : COp) (text : Text) → Deepens text → Deepens (λ rest. operator o ∷ text rest)
behind_operator o text h = deepens_then (λ rest. operator o ∷ rest) text (deepens_one (operator o) tt (λ block base depth outward. refl)) h

operation_deepens : (level : ℕ) (o : COp) (p q : Piece) → PieceDeepens p → PieceDeepens q → Deepens (operation level o p q)
operation_deepens level o p q h g =
    deepens_then (shown level p) (λ rest. operator o ∷ shown (level - 1) q rest) (shown_deepens level p h)
    (behind_operator o (shown (level - 1) q) (shown_deepens (level - 1) q g))

pub op_deepens : (o : COp) (p q : Piece) → PieceDeepens p → PieceDeepens q → PieceDeepens (op_piece o p q)
op_deepens o p q h g = record { bare = operation_deepens (op_level o) o p q h g; inside = by_sum (is_least_sum o p q) }
  where
    by_sum : (b : Bool) → Deepens (cond {A = Text} b (λ rest. bracketed p (operator o ∷ shown 2 q rest)) (operation (op_level o) o p q))
    by_sum true =
        deepens_then (bracketed p) (λ rest. operator o ∷ shown 2 q rest) (bracketed_deepens p h) (behind_operator o (shown 2 q) (shown_deepens 2 q g))
    by_sum false = operation_deepens (op_level o) o p q h g
