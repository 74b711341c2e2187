-- The scans of ASN.1 against the definitions by cases: where a name and a comment with comments inside it end.
use Rattle.std.proofs.Common.{◌≡◌, ℕ, zero, suc, ◌+◌, nat_eq, Bool, true, false, ◌&&◌, ◌||◌, cond, List, [], ◌∷◌, ◌++◌, length, refl, sym, ap, ◌∙◌, subst, arith, append_assoc, length-append}
use Rattle.std.specs.Prelude.{◌==◌, Option, Some, None}
use Rattle.std.proofs.lemmas.Bool.{and_parts, and_from, eqb-true, or_from, or_parts, cond-true, cond-false, false≢true}
use Rattle.std.proofs.lemmas.Bool.Decides.{nat_tests}
use Rattle.og_lexer.specs.declared.scan.Pair.TheVariants.{Opens, Closes, Neither}
use Rattle.og_lexer.specs.AsnBytes.{is_alphanumeric, first_is, joins}
use Rattle.og_lexer.specs.AsnPieces.{all_join, opens_or_closes, IsInside, nothing, byte, comment, IsNested}
use Rattle.og_lexer.specs.Pieces.{NotFirst}
use Rattle.og_lexer.specs.Front.{later}
use Rattle.og_lexer.specs.AsnFront.{name_len, pair_of, nested_end}
use Rattle.og_lexer.proofs.Scans.{later-later, nested_end-on}

-- ---- names

or_left : (a b c d : Bool) → (a ≡ true → c ≡ true) → (b ≡ true → d ≡ true) → (a || b) ≡ true → (c || d) ≡ true
or_left true b true d one two h = refl
or_left true b false d one two h = absurd (false≢true (one refl))
or_left false true true d one two h = refl
or_left false true false d one two h = two refl
or_left false false c d one two h = absurd (false≢true h)

and_right_more : (a b c : Bool) → (b ≡ true → c ≡ true) → (a && b) ≡ true → (a && c) ≡ true
and_right_more true b c more h = more h
and_right_more false b c more h = h

first_is-front : (test : ℕ → Bool) (xs ys : List ℕ) → first_is test xs ≡ true → first_is test (xs ++ ys) ≡ true
first_is-front test [] ys h = absurd (false≢true h)
first_is-front test (x ∷ xs) ys h = h

-- a byte that goes on with a name does so before more bytes
pub joins-front : (b : ℕ) (xs ys : List ℕ) → joins b xs ≡ true → joins b (xs ++ ys) ≡ true
joins-front b xs ys =
    or_left (is_alphanumeric b) ((b == 45) && first_is is_alphanumeric xs) (is_alphanumeric b) ((b == 45) && first_is is_alphanumeric (xs ++ ys)) (λ h. h)
    (and_right_more (b == 45) (first_is is_alphanumeric xs) (first_is is_alphanumeric (xs ++ ys)) (first_is-front is_alphanumeric xs ys))

-- the bytes that go on with a name, and then one that does not
pub name_len-at : (xs ys : List ℕ) → all_join xs ≡ true → NotFirst joins ys → name_len (xs ++ ys) ≡ length xs
name_len-at [] [] all stop = refl
name_len-at [] (y ∷ ys) all stop = cond-false (joins y ys) (1 + name_len ys) 0 stop
name_len-at (x ∷ xs) ys all stop =
    let parts = and_parts (joins x xs) (all_join xs) all in
    cond-true (joins x (xs ++ ys)) (1 + name_len (xs ++ ys)) 0 (joins-front x xs ys parts.0) ∙ (let e = name_len-at xs ys parts.1 stop in omega arith)

pub record IsNameRun (xs : List ℕ) : Type 0 where
  pub run : List ℕ
  pub rest : List ℕ
  pub joined : xs ≡ run ++ rest
  pub long : name_len xs ≡ length run
  pub all : all_join run ≡ true
  pub stop : NotFirst joins rest

-- what goes on with a name in front is no byte of what does not
first_in_run : (run rest : List ℕ) → NotFirst joins rest → first_is is_alphanumeric (run ++ rest) ≡ true → first_is is_alphanumeric run ≡ true
first_in_run [] [] stop h = h
first_in_run [] (y ∷ ys) stop h = absurd (false≢true (sym (or_parts (is_alphanumeric y) ((y == 45) && first_is is_alphanumeric ys) stop).0 ∙ h))
first_in_run (x ∷ run) rest stop h = h

name_more : (x : ℕ) (xs : List ℕ) (b : Bool) → joins x xs ≡ b → IsNameRun xs → IsNameRun (x ∷ xs)
name_more x xs true passes r = record {
  run = x ∷ r.run;
  rest = r.rest;
  joined = ap (λ l. x ∷ l) r.joined;
  long = cond-true (joins x xs) (1 + name_len xs) 0 passes ∙ (let e = r.long in omega arith);
  all = and_from (joins x r.run) (all_join r.run)
      (or_left (is_alphanumeric x) ((x == 45) && first_is is_alphanumeric xs) (is_alphanumeric x) ((x == 45) && first_is is_alphanumeric r.run) (λ h. h)
      (and_right_more (x == 45) (first_is is_alphanumeric xs) (first_is is_alphanumeric r.run) (λ h. first_in_run r.run r.rest r.stop (ap (first_is is_alphanumeric) (sym r.joined) ∙ h))) passes)
      r.all;
  stop = r.stop;
}
name_more x xs false fails r = record {
  run = [];
  rest = x ∷ xs;
  joined = refl;
  long = cond-false (joins x xs) (1 + name_len xs) 0 fails;
  all = refl;
  stop = fails;
}

-- each list is bytes that go on with a name, and then one that does not
pub name_run : (xs : List ℕ) → IsNameRun xs
name_run [] = record { run = []; rest = []; joined = refl; long = refl; all = refl; stop = tt }
name_run (x ∷ xs) = name_more x xs (joins x xs) refl (name_run xs)

same_suc : (m n : ℕ) → nat_eq (1 + m) (suc n) ≡ nat_eq m n
same_suc m n = by (nat_eq m n) refl
  where
    by : (t : Bool) → nat_eq m n ≡ t → nat_eq (1 + m) (suc n) ≡ t
    by true e = grind (arith, nat_tests)
    by false e = grind (arith, nat_tests)

not_suc : (n : ℕ) → nat_eq 0 (suc n) ≡ false
not_suc n = grind (arith, nat_tests)

-- whether all go on with a name, by how many do
pub all_join-by : (bs : List ℕ) → nat_eq (name_len bs) (length bs) ≡ all_join bs
all_join-by [] = refl
all_join-by (b ∷ bs) = by (joins b bs) (all_join-by bs)
  where
    by : (t : Bool) → nat_eq (name_len bs) (length bs) ≡ all_join bs → nat_eq (cond t (1 + name_len bs) 0) (length (b ∷ bs)) ≡ (t && all_join bs)
    by true same = same_suc (name_len bs) (length bs) ∙ same
    by false same = not_suc (length bs)

pub ruleset all_join_by = all_join-by

-- ---- comments

-- two bytes that begin nothing and end nothing
neither_pair : (b c : ℕ) (cs : List ℕ) → opens_or_closes b (c ∷ cs) ≡ false → pair_of b c ≡ Neither
neither_pair b c cs h =
    let parts = or_parts ((b == 47) && (c == 42)) ((b == 42) && (c == 47)) h in
    cond-false ((b == 47) && (c == 42)) Opens (cond ((b == 42) && (c == 47)) Closes Neither) parts.0 ∙ cond-false ((b == 42) && (c == 47)) Closes Neither parts.1

-- how many bytes there are behind a comment up to the end of n more
abbrev behind : ℕ → List ℕ → Option ℕ
behind zero rest = Some 0
behind (suc n) rest = nested_end n rest

nested_end-opens : (n : ℕ) (cs : List ℕ) → nested_end n (47 ∷ 42 ∷ cs) ≡ later 2 (nested_end (suc n) cs)
nested_end-opens zero cs = refl
nested_end-opens (suc n) cs = refl

nested_end-closes : (n : ℕ) (cs : List ℕ) → nested_end n (42 ∷ 47 ∷ cs) ≡ later 2 (behind n cs)
nested_end-closes zero cs = refl
nested_end-closes (suc n) cs = refl

-- what is inside a comment, and its closing pair
pub nested_end-closed : {inside : List ℕ} → IsInside inside → (n : ℕ) (rest : List ℕ) → nested_end n (inside ++ 42 ∷ 47 ∷ rest) ≡ later (length inside + 2) (behind n rest)
nested_end-closed nothing n rest = nested_end-closes n rest
nested_end-closed (byte b more no_pair is) n rest = one b more n rest no_pair (nested_end-closed is n rest)
  where
    one : (b : ℕ) (more : List ℕ) (n : ℕ) (rest : List ℕ) → opens_or_closes b (more ++ 42 ∷ []) ≡ false → nested_end n (more ++ 42 ∷ 47 ∷ rest) ≡ later (length more + 2) (behind n rest)
        → nested_end n (b ∷ (more ++ 42 ∷ 47 ∷ rest)) ≡ later (length (b ∷ more) + 2) (behind n rest)
    one b [] n rest no_pair h =
        nested_end-on n b 42 (47 ∷ rest) (neither_pair b 42 [] no_pair) ∙ ap (later 1) h ∙ later-later 1 2 (behind n rest)
    one b (c ∷ cs) n rest no_pair h =
        nested_end-on n b c (cs ++ 42 ∷ 47 ∷ rest) (neither_pair b c (cs ++ 42 ∷ []) no_pair) ∙ ap (later 1) h ∙ later-later 1 (length (c ∷ cs) + 2) (behind n rest)
        ∙ ap (λ m. later m (behind n rest)) (omega arith)
nested_end-closed (comment text inside more joined within after) n rest =
    subst (λ (t : List ℕ). nested_end n (t ++ 42 ∷ 47 ∷ rest) ≡ later (length t + 2) (behind n rest)) (sym joined)
    (nested_end-opens n ((inside ++ 42 ∷ 47 ∷ more) ++ 42 ∷ 47 ∷ rest)
    ∙ ap (λ l. later 2 (nested_end (suc n) l)) (append_assoc inside (42 ∷ 47 ∷ more) (42 ∷ 47 ∷ rest))
    ∙ ap (later 2) (nested_end-closed within (suc n) (more ++ 42 ∷ 47 ∷ rest))
    ∙ ap (λ f. later 2 (later (length inside + 2) f)) (nested_end-closed after n rest)
    ∙ later-later 2 (length inside + 2) (later (length more + 2) (behind n rest))
    ∙ later-later (2 + (length inside + 2)) (length more + 2) (behind n rest)
    ∙ ap (λ m. later m (behind n rest)) (let l = length-append inside (42 ∷ 47 ∷ more) in let long : 2 + (length inside + 2) + (length more + 2) ≡ length (47 ∷ 42 ∷ (inside ++ 42 ∷ 47 ∷ more)) + 2 = omega arith in long))

-- so many comments end one behind the other, in so many bytes
abbrev pub EndBehind : ℕ → List ℕ → ℕ → Type 0
EndBehind zero bytes k = k ≡ 0
EndBehind (suc n) bytes k = (inside : List ℕ) × (rest : List ℕ) × (j : ℕ) × (bytes ≡ inside ++ 42 ∷ 47 ∷ rest) × IsInside inside × EndBehind n rest j × (k ≡ length inside + 2 + j)

-- what the answer of the scan says of the bytes
abbrev pub NestedEndIs : ℕ → List ℕ → Option ℕ → Type 0
NestedEndIs n bytes None = Unit {0}
NestedEndIs n bytes (Some k) = EndBehind (suc n) bytes k

-- a comment inside opens in front
opens_more : (n : ℕ) (bytes : List ℕ) (found : Option ℕ) → NestedEndIs (suc n) bytes found → NestedEndIs n (47 ∷ 42 ∷ bytes) (later 2 found)
opens_more n bytes None h = tt
opens_more n bytes (Some k) (first, rest, j, joined, is, (second, more, i, after, too, others, later_long), long) = (
  47 ∷ 42 ∷ (first ++ 42 ∷ 47 ∷ second),
  more,
  i,
  ap (λ l. 47 ∷ 42 ∷ l) (joined ∙ ap (λ l. first ++ 42 ∷ 47 ∷ l) after ∙ sym (append_assoc first (42 ∷ 47 ∷ second) (42 ∷ 47 ∷ more))),
  comment (47 ∷ 42 ∷ (first ++ 42 ∷ 47 ∷ second)) first second refl is too,
  others,
  (let l = length-append first (42 ∷ 47 ∷ second) in omega arith),
)

-- a comment closes in front
closes_more : (n : ℕ) (bytes : List ℕ) (found : Option ℕ) → NestedEndIs n bytes found → NestedEndIs (suc n) (42 ∷ 47 ∷ bytes) (later 2 found)
closes_more n bytes None h = tt
closes_more n bytes (Some k) h = ([], bytes, k, refl, nothing, h, refl)

head_is : (c d : ℕ) (cs ds : List ℕ) → c ∷ cs ≡ d ∷ ds → c ≡ d
head_is c d cs ds e = cc

neither_opens : (b : ℕ) (inside rest : List ℕ) (c : ℕ) (cs : List ℕ) → c ∷ cs ≡ inside ++ 42 ∷ 47 ∷ rest → opens_or_closes b (c ∷ cs) ≡ false → opens_or_closes b (inside ++ 42 ∷ []) ≡ false
neither_opens b [] rest c cs joined none = ap (λ (d : ℕ). opens_or_closes b (d ∷ [])) (sym (head_is c 42 cs (47 ∷ rest) joined)) ∙ none
neither_opens b (x ∷ inside) rest c cs joined none = ap (λ (d : ℕ). opens_or_closes b (d ∷ [])) (sym (head_is c x cs (inside ++ 42 ∷ 47 ∷ rest) joined)) ∙ none

-- a byte that neither opens nor closes a comment stands in front
byte_more : (n b c : ℕ) (cs : List ℕ) (found : Option ℕ) → opens_or_closes b (c ∷ cs) ≡ false → NestedEndIs n (c ∷ cs) found → NestedEndIs n (b ∷ c ∷ cs) (later 1 found)
byte_more n b c cs None none h = tt
byte_more n b c cs (Some k) none (inside, rest, j, joined, is, others, long) = (
  b ∷ inside,
  rest,
  j,
  ap (λ l. b ∷ l) joined,
  byte b inside (neither_opens b inside rest c cs joined none) is,
  others,
  omega arith,
)

pair_step : (n b c : ℕ) (cs : List ℕ) (s t : Bool) → ((b == 47) && (c == 42)) ≡ s → ((b == 42) && (c == 47)) ≡ t → NestedEndIs (suc n) cs (nested_end (suc n) cs) → ((m : ℕ) → NestedEndIs m cs (nested_end m cs)) → NestedEndIs n (c ∷ cs) (nested_end n (c ∷ cs)) → NestedEndIs n (b ∷ c ∷ cs) (nested_end n (b ∷ c ∷ cs))
pair_step n b c cs true t opens closes inner outer next =
    let parts = and_parts (b == 47) (c == 42) opens in
    subst (λ (x : ℕ). NestedEndIs n (x ∷ c ∷ cs) (nested_end n (x ∷ c ∷ cs))) (sym (eqb-true b 47 parts.0))
    (subst (λ (x : ℕ). NestedEndIs n (47 ∷ x ∷ cs) (nested_end n (47 ∷ x ∷ cs))) (sym (eqb-true c 42 parts.1))
    (subst (NestedEndIs n (47 ∷ 42 ∷ cs)) (sym (nested_end-opens n cs)) (opens_more n cs (nested_end (suc n) cs) inner)))
pair_step n b c cs false true opens closes inner outer next =
    let parts = and_parts (b == 42) (c == 47) closes in
    subst (λ (x : ℕ). NestedEndIs n (x ∷ c ∷ cs) (nested_end n (x ∷ c ∷ cs))) (sym (eqb-true b 42 parts.0))
    (subst (λ (x : ℕ). NestedEndIs n (42 ∷ x ∷ cs) (nested_end n (42 ∷ x ∷ cs))) (sym (eqb-true c 47 parts.1)) (closed n cs outer))
  where
    closed : (n : ℕ) (cs : List ℕ) → ((m : ℕ) → NestedEndIs m cs (nested_end m cs)) → NestedEndIs n (42 ∷ 47 ∷ cs) (nested_end n (42 ∷ 47 ∷ cs))
    closed zero cs outer = ([], cs, 0, refl, nothing, refl, refl)
    closed (suc n) cs outer = closes_more n cs (nested_end n cs) (outer n)
pair_step n b c cs false false opens closes inner outer next =
    let none = or_from ((b == 47) && (c == 42)) ((b == 42) && (c == 47)) opens closes in
    subst (NestedEndIs n (b ∷ c ∷ cs)) (sym (nested_end-on n b c cs (neither_pair b c cs none))) (byte_more n b c cs (nested_end n (c ∷ cs)) none next)

pub nested_end-is : (n : ℕ) (bytes : List ℕ) → NestedEndIs n bytes (nested_end n bytes)
nested_end-is n [] = tt
nested_end-is n (b ∷ []) = tt
nested_end-is n (b ∷ c ∷ cs) = pair_step n b c cs ((b == 47) && (c == 42)) ((b == 42) && (c == 47)) refl refl (nested_end-is (suc n) cs) (λ m. nested_end-is m cs) (nested_end-is n (c ∷ cs))

-- ---- whole comments

-- a comment that stands in front is found
pub nested_end-stands : (bytes text rest : List ℕ) → 47 ∷ 42 ∷ bytes ≡ text ++ rest → IsNested text → (n : ℕ) × (nested_end 0 bytes ≡ Some n) × (length text ≡ 2 + n)
nested_end-stands bytes text rest joined (inside, is, within) = (
  length inside + 2,
  ap (nested_end 0) (behind_pair bytes ((inside ++ 42 ∷ 47 ∷ []) ++ rest) (joined ∙ ap (λ l. l ++ rest) is) ∙ append_assoc inside (42 ∷ 47 ∷ []) rest)
      ∙ nested_end-closed within 0 rest
      ∙ ap Some (omega arith),
  (let e = ap length is in let l = length-append inside (42 ∷ 47 ∷ []) in omega arith),
)
  where
    behind_pair : (bytes more : List ℕ) → 47 ∷ 42 ∷ bytes ≡ 47 ∷ 42 ∷ more → bytes ≡ more
    behind_pair bytes more e = cc
