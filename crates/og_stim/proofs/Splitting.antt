-- The first line of a text, and runs of bytes of a class.
use Rattle.std.proofs.Common.{◌≡◌, ℕ, zero, suc, ◌+◌, ◌-◌, ◌≤◌, ◌<◌, Bool, true, false, not, ◌&&◌, ◌==◌, if◌then◌else◌, cond, List, [], ◌∷◌, length, take, drop, get_or, ◌⊎◌, inl, inr, ◌≢◌, refl, sym, ap, subst, ◌∙◌, arith}
use Rattle.std.specs.List.{list_all, prefix_len}
use Rattle.std.proofs.lemmas.Bool.{ne_eqb, eq-eqb, eqb-true, eqb-false, false≢true}
use Rattle.std.proofs.lemmas.List.{length-drop, take_all, drop_all}
use Rattle.std.proofs.lemmas.Bool.Decides.{eqb_tells}
use Rattle.og_stim.specs.Lines.{begins_with, in_front, lines_of, is_line_byte, without_return}

-- all pass where the run in front is as long as the list
pub all_pass : {A : Type 0} (p : A → Bool) (xs : List A) → (prefix_len p xs == length xs) ≡ list_all p xs
all_pass p [] = refl
all_pass p (x ∷ xs) = by_test (p x) (all_pass p xs) (eqb_tells (prefix_len p xs) (length xs))
  where
    by_test : (b : Bool) → (prefix_len p xs == length xs) ≡ list_all p xs → (((prefix_len p xs == length xs) ≡ true) × (prefix_len p xs ≡ length xs)) ⊎ (((prefix_len p xs == length xs) ≡ false) × (prefix_len p xs ≢ length xs)) → (cond b (1 + prefix_len p xs) 0 == suc (length xs)) ≡ (b && list_all p xs)
    by_test true same (inl (t, e)) = eq-eqb (1 + prefix_len p xs) (suc (length xs)) (omega (arith, e)) ∙ sym t ∙ same
    by_test true same (inr (f, other)) = ne_eqb (1 + prefix_len p xs) (suc (length xs)) (λ e. other (omega (arith, e))) ∙ sym f ∙ same
    by_test false same tells = ne_eqb 0 (suc (length xs)) (λ e. omega (arith, e))

-- ---- a CR at the end

one_less : (n : ℕ) → suc (suc n) - 1 ≡ suc (suc n - 1)
one_less n = omega (arith)

-- the last byte of a list is CR, or is not
pub returned : (b : ℕ) (bs : List ℕ) → get_or (drop (length (b ∷ bs) - 1) (b ∷ bs)) 0 0 ≡ 13 → take (length (b ∷ bs) - 1) (b ∷ bs) ≡ without_return (b ∷ bs)
returned b [] e = ap (λ t. if t then [] else b ∷ []) (sym (eq-eqb b 13 e))
returned b (c ∷ bs) e =
    ap (λ n. take n (b ∷ c ∷ bs)) (one_less (length bs))
    ∙ ap (λ xs. b ∷ xs) (returned c bs (ap (λ n. get_or (drop n (b ∷ c ∷ bs)) 0 0) (sym (one_less (length bs))) ∙ e))

pub not_returned : (b : ℕ) (bs : List ℕ) → (get_or (drop (length (b ∷ bs) - 1) (b ∷ bs)) 0 0 ≡ 13 → ⊥) → (b ∷ bs) ≡ without_return (b ∷ bs)
not_returned b [] other = ap (λ t. if t then [] else b ∷ []) (sym (ne_eqb b 13 other))
not_returned b (c ∷ bs) other =
    ap (λ xs. b ∷ xs) (not_returned c bs (λ e. other (ap (λ n. get_or (drop n (b ∷ c ∷ bs)) 0 0) (one_less (length bs)) ∙ e)))

-- ---- the first line

abbrev pub run : List ℕ → ℕ
run bs = prefix_len is_line_byte bs

-- where no LF stands behind it, and where one does
pub record Split (bs : List ℕ) : Type 0 where
  pub whole : run bs ≡ length bs → lines_of bs ≡ bs ∷ []
  pub ended : run bs < length bs → lines_of bs ≡ without_return (take (run bs) bs) ∷ lines_of (drop (run bs + 1) bs)

-- one byte more that is no LF
longer : (b c : ℕ) (cs : List ℕ) (k : ℕ) → k ≡ run (c ∷ cs) → (b == 13 && (c == 10)) ≡ false → without_return (b ∷ take k (c ∷ cs)) ≡ b ∷ without_return (take k (c ∷ cs))
longer b c cs zero is apart = ap (λ t. if t then [] else b ∷ []) (first_apart (c == 10) refl)
  where
    first_apart : (t : Bool) → (c == 10) ≡ t → (b == 13) ≡ false
    first_apart true e = and_true (b == 13) (ap (λ x. b == 13 && x) (sym e) ∙ apart)
      where
        and_true : (x : Bool) → (x && true) ≡ false → x ≡ false
        and_true true h = h
        and_true false h = refl
    first_apart false e = absurd (zero_is (ap (λ t. cond (not t) (1 + run cs) 0) (sym e)))
      where
        zero_is : cond (not false) (1 + run cs) 0 ≡ run (c ∷ cs) → ⊥
        zero_is h = omega (arith, h, is)
longer b c cs (suc k) is apart = refl

pub split_on : (b : ℕ) (bs : List ℕ) → Split bs → (t u : Bool) → (b == 10) ≡ t → (b == 13 && begins_with 10 bs) ≡ u → (bs ≡ [] → ⊥) → Split (b ∷ bs)
split_on b bs inner true u is isu some = record {
  whole = λ e. absurd (nothing (ap (λ x. cond (not x) (1 + run bs) 0) (sym is) ∙ e));
  ended = λ lt.
      ap (λ x. if x then [] ∷ lines_of bs else (if b == 13 && begins_with 10 bs then lines_of bs else in_front b (lines_of bs))) is
      ∙ ap (λ n. without_return (take n (b ∷ bs)) ∷ lines_of (drop (n + 1) (b ∷ bs))) (sym (ap (λ x. cond (not x) (1 + run bs) 0) is));
}
  where
    nothing : 0 ≡ suc (length bs) → ⊥
    nothing e = omega (arith, e)
split_on b [] inner false u is isu some = absurd (some refl)
split_on b (c ∷ cs) inner false true is isu some =
    let lf = eqb-true c 10 (second (b == 13) (c == 10) isu) in
    let none : run (c ∷ cs) ≡ 0 = ap (λ x. cond (not x) (1 + run cs) 0) (eq-eqb c 10 lf) in
    let long : run (b ∷ c ∷ cs) ≡ 1 = ap (λ x. cond (not x) (1 + run (c ∷ cs)) 0) is ∙ ap (λ n. 1 + n) none in
    record {
      whole = λ e. absurd (too_long (sym long ∙ e));
      ended = λ lt.
          ap (λ x. if x then [] ∷ lines_of (c ∷ cs) else (if b == 13 && (c == 10) then lines_of (c ∷ cs) else in_front b (lines_of (c ∷ cs)))) is
          ∙ ap (λ x. if x then lines_of (c ∷ cs) else in_front b (lines_of (c ∷ cs))) isu
          ∙ ap (λ x. if x then [] ∷ lines_of cs else (if c == 13 && begins_with 10 cs then lines_of cs else in_front c (lines_of cs))) (eq-eqb c 10 lf)
          ∙ ap (λ x. (if x then [] else b ∷ []) ∷ lines_of cs) (sym (first (b == 13) (c == 10) isu))
          ∙ ap (λ n. without_return (take n (b ∷ c ∷ cs)) ∷ lines_of (drop (n + 1) (b ∷ c ∷ cs))) (sym long);
    }
  where
    second : (x y : Bool) → (x && y) ≡ true → y ≡ true
    second true y h = h
    second false y h = absurd (false≢true h)

    first : (x y : Bool) → (x && y) ≡ true → x ≡ true
    first true y h = refl
    first false y h = h

    too_long : 1 ≡ suc (suc (length cs)) → ⊥
    too_long e = omega (arith, e)
split_on b (c ∷ cs) inner false false is isu some =
    let k = run (c ∷ cs) in
    let long : run (b ∷ c ∷ cs) ≡ 1 + k = ap (λ x. cond (not x) (1 + k) 0) is in
    let front : lines_of (b ∷ c ∷ cs) ≡ in_front b (lines_of (c ∷ cs)) =
    ap (λ x. if x then [] ∷ lines_of (c ∷ cs) else (if b == 13 && (c == 10) then lines_of (c ∷ cs) else in_front b (lines_of (c ∷ cs)))) is
    ∙ ap (λ x. if x then lines_of (c ∷ cs) else in_front b (lines_of (c ∷ cs))) isu in
    record {
      whole = λ e. front ∙ ap (in_front b) (inner.whole (shorter k (length (c ∷ cs)) (sym long ∙ e)));
      ended = λ lt.
          front ∙ ap (in_front b) (inner.ended (less k (length (c ∷ cs)) (subst (λ n. n < suc (length (c ∷ cs))) long lt)))
          ∙ ap (λ line. line ∷ lines_of (drop (k + 1) (c ∷ cs))) (sym (longer b c cs k refl isu))
          ∙ ap (λ n. without_return (take n (b ∷ c ∷ cs)) ∷ lines_of (drop (k + 1) (c ∷ cs))) (one_more k)
          ∙ ap (λ m. without_return (take (1 + k) (b ∷ c ∷ cs)) ∷ lines_of (drop m (b ∷ c ∷ cs))) (two_more k)
          ∙ ap (λ n. without_return (take n (b ∷ c ∷ cs)) ∷ lines_of (drop (n + 1) (b ∷ c ∷ cs))) (sym long);
    }
  where
    shorter : (k l : ℕ) → 1 + k ≡ suc l → k ≡ l
    shorter k l e = omega (arith, e)

    less : (k l : ℕ) → 1 + k < suc l → k < l
    less k l lt = omega (arith, lt)

    one_more : (k : ℕ) → suc k ≡ 1 + k
    one_more k = omega (arith)

    two_more : (k : ℕ) → suc (k + 1) ≡ 1 + k + 1
    two_more k = omega (arith)

-- a text that has a byte
split : (b : ℕ) (bs : List ℕ) → Split (b ∷ bs)
split b [] = by_test (b == 10) refl
  where
    none : zero ≡ suc zero → ⊥
    none e = omega (arith, e)

    not_less : 1 < 1 → ⊥
    not_less lt = omega (arith, lt)

    and_false : (x : Bool) → (x && false) ≡ false
    and_false true = refl
    and_false false = refl

    by_test : (t : Bool) → (b == 10) ≡ t → Split (b ∷ [])
    by_test true is = record {
      whole = λ e. absurd (none (ap (λ x. cond (not x) 1 0) (sym is) ∙ e));
      ended = λ lt.
          ap (λ x. if x then [] ∷ [] else (if b == 13 && false then [] else (b ∷ []) ∷ [])) is
          ∙ ap (λ n. without_return (take n (b ∷ [])) ∷ lines_of (drop (n + 1) (b ∷ []))) (sym (ap (λ x. cond (not x) 1 0) is));
    }
    by_test false is = record {
      whole = λ e. ap (λ x. if x then [] ∷ [] else (if b == 13 && false then [] else (b ∷ []) ∷ [])) is
          ∙ ap (λ x. if x then [] else (b ∷ []) ∷ []) (and_false (b == 13));
      ended = λ lt. absurd (not_less (subst (λ n. n < 1) (ap (λ x. cond (not x) 1 0) is) lt));
    }
split b (c ∷ cs) = split_on b (c ∷ cs) (split c cs) (b == 10) (b == 13 && (c == 10)) refl refl (λ e. no_list e)
  where
    no_list : (c ∷ cs) ≡ [] → ⊥
    no_list e = let l = ap length e in omega (arith, l)

-- ---- as the code goes

pub returned_line : (line front back : List ℕ) → (length line == 0) ≡ false → front ≡ take (length line - 1) line → back ≡ drop (length line - 1) line → get_or back 0 0 ≡ 13 → front ≡ without_return line
returned_line [] front back some f k last = absurd (false≢true (sym some))
returned_line (b ∷ bs) front back some f k last = f ∙ returned b bs (ap (λ xs. get_or xs 0 0) (sym k) ∙ last)

pub other_line : (line back : List ℕ) → (length line == 0) ≡ false → back ≡ drop (length line - 1) line → (get_or back 0 0 ≡ 13 → ⊥) → line ≡ without_return line
other_line [] back some k last = refl
other_line (b ∷ bs) back some k last = not_returned b bs (λ e. last (ap (λ xs. get_or xs 0 0) k ∙ e))

pub whole_line : (text front back : List ℕ) (n : ℕ) → 0 < length text → n ≡ run text → n ≤ length text → front ≡ take n text → back ≡ drop n text → (length back == 0) ≡ true → lines_of text ≡ front ∷ lines_of (drop n text)
whole_line [] front back n some is le f k none = absurd (omega (arith, some))
whole_line (b ∷ bs) front back n some is le f k none =
    let left = length-drop n (b ∷ bs) in
    let short = ap length k in
    let nothing = eqb-true (length back) 0 none in
    let all : n ≡ length (b ∷ bs) = omega (arith, le, left, short, nothing) in
    let most : length (b ∷ bs) ≤ n = omega (arith, all) in
    (split b bs).whole (sym is ∙ all)
    ∙ ap (λ line. line ∷ []) (sym (take_all n (b ∷ bs) most) ∙ sym f)
    ∙ ap (λ rest. front ∷ lines_of rest) (sym (drop_all n (b ∷ bs) most))

pub ended_line : (text front back : List ℕ) (n : ℕ) → 0 < length text → n ≡ run text → n ≤ length text → front ≡ take n text → back ≡ drop n text → (length back == 0) ≡ false → lines_of text ≡ without_return front ∷ lines_of (drop (n + 1) text)
ended_line [] front back n some is le f k none = absurd (omega (arith, some))
ended_line (b ∷ bs) front back n some is le f k none =
    let left = length-drop n (b ∷ bs) in
    let short = ap length k in
    let there = eqb-false (length back) 0 none in
    let less : n < length (b ∷ bs) = not_all n (length (b ∷ bs)) (length back) le (short ∙ left) there in
    (split b bs).ended (subst (λ m. m < length (b ∷ bs)) is less)
    ∙ ap (λ m. without_return (take m (b ∷ bs)) ∷ lines_of (drop (m + 1) (b ∷ bs))) (sym is)
    ∙ ap (λ line. without_return line ∷ lines_of (drop (n + 1) (b ∷ bs))) (sym f)
  where
    not_all : (n l m : ℕ) → n ≤ l → m ≡ l - n → (m ≡ 0 → ⊥) → n < l
    not_all n l zero le e some = absurd (some refl)
    not_all n l (suc m) le e some = omega (arith, le, e)
