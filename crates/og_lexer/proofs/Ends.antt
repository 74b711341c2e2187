-- The scans against the definitions by cases: where a run of bytes, a pair of bytes and a text end.
use Rattle.std.proofs.Common.{◌≡◌, ℕ, ◌+◌, Bool, true, false, ◌&&◌, not, cond, List, [], ◌∷◌, ◌++◌, length, refl, sym, ap, ◌∙◌, subst, arith}
use Rattle.std.specs.Prelude.{◌==◌, Option, Some, None}
use Rattle.std.specs.List.{list_all, prefix_len}
use Rattle.std.proofs.lemmas.Bool.{and_parts, and_from, eqb-true, eq-eqb, not-true, not_from_true, not_from_false, and_right, cond-true, cond-false, false≢true}
use Rattle.og_lexer.specs.declared.scan.PairEnd.{PairEnd}
use Rattle.og_lexer.specs.declared.scan.PairEnd.TheVariants.{Closed, Open}
use Rattle.og_lexer.specs.Bytes.{begins}
use Rattle.og_lexer.specs.Pieces.{lacks_pair, quotes_pair, NotFirst}
use Rattle.og_lexer.specs.Front.{plus, pair_end, later, quote_end}
use Rattle.og_lexer.proofs.Scans.{pair_end-on}

same_byte : (x : ℕ) → (x == x) ≡ true
same_byte x = eq-eqb x x refl

-- a run of bytes that pass a test, and then one that does not
pub prefix_len-at : (p : ℕ → Bool) (xs ys : List ℕ) → list_all p xs ≡ true → NotFirst (λ b bs. p b) ys → prefix_len p (xs ++ ys) ≡ length xs
prefix_len-at p [] [] all stop = refl
prefix_len-at p [] (y ∷ ys) all stop = cond-false (p y) (1 + prefix_len p ys) 0 stop
prefix_len-at p (x ∷ xs) ys all stop =
    let parts = and_parts (p x) (list_all p xs) all in
    cond-true (p x) (1 + prefix_len p (xs ++ ys)) 0 parts.0 ∙ (let e = prefix_len-at p xs ys parts.1 stop in omega arith)

pub record IsRun (p : ℕ → Bool) (xs : List ℕ) : Type 0 where
  pub run : List ℕ
  pub rest : List ℕ
  pub joined : xs ≡ run ++ rest
  pub long : prefix_len p xs ≡ length run
  pub all : list_all p run ≡ true
  pub stop : NotFirst (λ b bs. p b) rest

run_more : (p : ℕ → Bool) (x : ℕ) (xs : List ℕ) → (b : Bool) → p x ≡ b → IsRun p xs → IsRun p (x ∷ xs)
run_more p x xs true passes r = record {
  run = x ∷ r.run;
  rest = r.rest;
  joined = ap (λ l. x ∷ l) r.joined;
  long = cond-true (p x) (1 + prefix_len p xs) 0 passes ∙ (let e = r.long in omega arith);
  all = and_from (p x) (list_all p r.run) passes r.all;
  stop = r.stop;
}
run_more p x xs false fails r = record {
  run = [];
  rest = x ∷ xs;
  joined = refl;
  long = cond-false (p x) (1 + prefix_len p xs) 0 fails;
  all = refl;
  stop = fails;
}

-- each list is a run of bytes that pass, and then one that does not
pub run_of : (p : ℕ → Bool) (xs : List ℕ) → IsRun p xs
run_of p [] = record { run = []; rest = []; joined = refl; long = refl; all = refl; stop = tt }
run_of p (x ∷ xs) = run_more p x xs (p x) refl (run_of p xs)

-- no byte ends the line, where line ends count
abbrev pub InLine : Bool → List ℕ → Type 0
InLine in_line bytes = list_all (λ b. not (in_line && (b == 10))) bytes ≡ true

pub in_line-free : (bytes : List ℕ) → InLine false bytes
in_line-free [] = refl
in_line-free (b ∷ bs) = in_line-free bs

begins-behind : (x y z : ℕ) (inside rest : List ℕ) → begins y (inside ++ x ∷ []) ≡ begins y (inside ++ x ∷ rest)
begins-behind x y z [] rest = refl
begins-behind x y z (c ∷ inside) rest = refl

-- a pair that stands nowhere earlier is found
pub pair_end-closed : (x y : ℕ) (in_line : Bool) (inside rest : List ℕ) → (in_line && (x == 10)) ≡ false → lacks_pair x y (inside ++ x ∷ []) ≡ true → InLine in_line inside → pair_end x y in_line (inside ++ x ∷ y ∷ rest) ≡ Closed (length inside + 2)
pair_end-closed x y in_line [] rest no_end lacks line =
    cond-false (in_line && (x == 10)) (Open 0) (cond ((x == x) && (y == y)) (Closed 2) (plus 1 (pair_end x y in_line (y ∷ rest)))) no_end
    ∙ cond-true ((x == x) && (y == y)) (Closed 2) (plus 1 (pair_end x y in_line (y ∷ rest))) (and_from (x == x) (y == y) (same_byte x) (same_byte y))
pair_end-closed x y in_line (b ∷ inside) rest no_end lacks line =
    let parts = and_parts (not ((b == x) && begins y (inside ++ x ∷ []))) (lacks_pair x y (inside ++ x ∷ [])) lacks in
    let lines = and_parts (not (in_line && (b == 10))) (list_all (λ c. not (in_line && (c == 10))) inside) line in
    pair_end-on x y in_line b (inside ++ x ∷ y ∷ rest) (not-true (in_line && (b == 10)) lines.0) (ap (λ t. (b == x) && t) (sym (begins-behind x y 0 inside (y ∷ rest))) ∙ not-true ((b == x) && begins y (inside ++ x ∷ [])) parts.0)
    ∙ ap (plus 1) (pair_end-closed x y in_line inside rest no_end parts.1 lines.1)
    ∙ ap Closed (omega arith)

begins-front : (y : ℕ) (inside rest : List ℕ) → begins y rest ≡ false → begins y (inside ++ rest) ≡ begins y inside
begins-front y [] rest none = none
begins-front y (c ∷ inside) rest none = refl

-- where there is no pair, the bytes go on as far as the line or all of them
pub pair_end-open : (x y : ℕ) (in_line : Bool) (inside rest : List ℕ) → begins y rest ≡ false → pair_end x y in_line rest ≡ Open 0 → lacks_pair x y inside ≡ true → InLine in_line inside → pair_end x y in_line (inside ++ rest) ≡ Open (length inside)
pair_end-open x y in_line [] rest none unclosed lacks line = unclosed
pair_end-open x y in_line (b ∷ inside) rest none unclosed lacks line =
    let parts = and_parts (not ((b == x) && begins y inside)) (lacks_pair x y inside) lacks in
    let lines = and_parts (not (in_line && (b == 10))) (list_all (λ c. not (in_line && (c == 10))) inside) line in
    pair_end-on x y in_line b (inside ++ rest) (not-true (in_line && (b == 10)) lines.0) (ap (λ t. (b == x) && t) (begins-front y inside rest none) ∙ not-true ((b == x) && begins y inside) parts.0)
    ∙ ap (plus 1) (pair_end-open x y in_line inside rest none unclosed parts.1 lines.1)
    ∙ ap Open (omega arith)

pub record IsClosed (x y : ℕ) (in_line : Bool) (bytes : List ℕ) (n : ℕ) : Type 0 where
  pub inside : List ℕ
  pub rest : List ℕ
  pub joined : bytes ≡ inside ++ x ∷ y ∷ rest
  pub long : n ≡ length inside + 2
  pub lacks : lacks_pair x y (inside ++ x ∷ []) ≡ true
  pub line : InLine in_line inside

pub record IsOpen (x y : ℕ) (in_line : Bool) (bytes : List ℕ) (n : ℕ) : Type 0 where
  pub inside : List ℕ
  pub rest : List ℕ
  pub joined : bytes ≡ inside ++ rest
  pub long : n ≡ length inside
  pub lacks : lacks_pair x y inside ≡ true
  pub line : InLine in_line inside
  pub stop : NotFirst (λ b bs. not (in_line && (b == 10))) rest

-- what the answer of the scan says of the bytes
abbrev pub PairEndIs : ℕ → ℕ → Bool → List ℕ → PairEnd → Type 0
PairEndIs x y in_line bytes (Closed n) = IsClosed x y in_line bytes n
PairEndIs x y in_line bytes (Open n) = IsOpen x y in_line bytes n

begins_parts : (y : ℕ) (bs : List ℕ) → begins y bs ≡ true → (rest : List ℕ) × (bs ≡ y ∷ rest)
begins_parts y [] is = absurd (false≢true is)
begins_parts y (c ∷ cs) is = (cs, ap (λ b. b ∷ cs) (eqb-true c y is))

begins-shorter : (y : ℕ) (inside rest : List ℕ) (t : Bool) → (t && begins y (inside ++ rest)) ≡ false → (t && begins y inside) ≡ false
begins-shorter y [] rest true none = refl
begins-shorter y [] rest false none = refl
begins-shorter y (c ∷ inside) rest t none = none

pair_more : (x y : ℕ) (in_line : Bool) (b : ℕ) (bs : List ℕ) (e : PairEnd) → (in_line && (b == 10)) ≡ false → ((b == x) && begins y bs) ≡ false → PairEndIs x y in_line bs e → PairEndIs x y in_line (b ∷ bs) (plus 1 e)
pair_more x y in_line b bs (Closed n) no_end no_pair h = record {
  inside = b ∷ h.inside;
  rest = h.rest;
  joined = ap (λ l. b ∷ l) h.joined;
  long = (let e = h.long in omega arith);
  lacks = and_from (not ((b == x) && begins y (h.inside ++ x ∷ []))) (lacks_pair x y (h.inside ++ x ∷ []))
      (not_from_false ((b == x) && begins y (h.inside ++ x ∷ [])) (ap (λ t. (b == x) && t) (begins-behind x y 0 h.inside (y ∷ h.rest) ∙ ap (begins y) (sym h.joined)) ∙ no_pair)) h.lacks;
  line = and_from (not (in_line && (b == 10))) (list_all (λ c. not (in_line && (c == 10))) h.inside) (not_from_false (in_line && (b == 10)) no_end) h.line;
}
pair_more x y in_line b bs (Open n) no_end no_pair h = record {
  inside = b ∷ h.inside;
  rest = h.rest;
  joined = ap (λ l. b ∷ l) h.joined;
  long = (let e = h.long in omega arith);
  lacks = and_from (not ((b == x) && begins y h.inside)) (lacks_pair x y h.inside)
      (not_from_false ((b == x) && begins y h.inside) (begins-shorter y h.inside h.rest (b == x) (ap (λ l. (b == x) && begins y l) (sym h.joined) ∙ no_pair))) h.lacks;
  line = and_from (not (in_line && (b == 10))) (list_all (λ c. not (in_line && (c == 10))) h.inside) (not_from_false (in_line && (b == 10)) no_end) h.line;
  stop = h.stop;
}

lacks_one : (x y : ℕ) → lacks_pair x y (x ∷ []) ≡ true
lacks_one x y = and_from (not ((x == x) && false)) true (not_from_false ((x == x) && false) (and_right (x == x) false refl)) refl

pair_step : (x y : ℕ) (in_line : Bool) (b : ℕ) (bs : List ℕ) (e : PairEnd) → PairEndIs x y in_line bs e → (s t : Bool) → (in_line && (b == 10)) ≡ s → ((b == x) && begins y bs) ≡ t → PairEndIs x y in_line (b ∷ bs) (cond s (Open 0) (cond t (Closed 2) (plus 1 e)))
pair_step x y in_line b bs e h true t ends pair = record { inside = []; rest = b ∷ bs; joined = refl; long = refl; lacks = refl; line = refl; stop = not_from_true (in_line && (b == 10)) ends }
pair_step x y in_line b bs e h false true ends pair =
    let parts = and_parts (b == x) (begins y bs) pair in
    let behind = begins_parts y bs parts.1 in
    record {
      inside = [];
      rest = behind.0;
      joined = ap (λ l. b ∷ l) behind.1 ∙ ap (λ c. c ∷ y ∷ behind.0) (eqb-true b x parts.0);
      long = refl;
      lacks = lacks_one x y;
      line = refl;
    }
pair_step x y in_line b bs e h false false ends pair = pair_more x y in_line b bs e ends pair h

pub pair_end-is : (x y : ℕ) (in_line : Bool) (bytes : List ℕ) → PairEndIs x y in_line bytes (pair_end x y in_line bytes)
pair_end-is x y in_line [] = record { inside = []; rest = []; joined = refl; long = refl; lacks = refl; line = refl; stop = tt }
pair_end-is x y in_line (b ∷ bs) = pair_step x y in_line b bs (pair_end x y in_line bs) (pair_end-is x y in_line bs) (in_line && (b == 10)) ((b == x) && begins y bs) refl refl

-- apostrophes that stand two by two, and then one alone
pub quote_end-closed : (inside rest : List ℕ) → quotes_pair inside ≡ true → NotFirst (λ b bs. b == 39) rest → quote_end true (inside ++ 39 ∷ rest) ≡ Some (length inside + 1)
quote_end-closed [] [] pair stop = refl
quote_end-closed [] (c ∷ rest) pair stop = ap (later 1) (cond-false (c == 39) (later 1 (quote_end true rest)) (Some 0) stop)
quote_end-closed (b ∷ []) rest pair stop =
    ap (λ t. later 1 (quote_end t (39 ∷ rest))) pair ∙ ap (later 1) (quote_end-closed [] rest refl stop)
quote_end-closed (b ∷ c ∷ inside) rest pair stop = closed_step b c inside rest (b == 39) refl pair stop
    (λ again. quote_end-closed inside rest again stop) (λ again. quote_end-closed (c ∷ inside) rest again stop)
  where
    closed_step : (b c : ℕ) (inside rest : List ℕ) (t : Bool) → (b == 39) ≡ t → cond t ((c == 39) && quotes_pair inside) (quotes_pair (c ∷ inside)) ≡ true → NotFirst (λ b bs. b == 39) rest
        → (quotes_pair inside ≡ true → quote_end true (inside ++ 39 ∷ rest) ≡ Some (length inside + 1))
        → (quotes_pair (c ∷ inside) ≡ true → quote_end true (c ∷ inside ++ 39 ∷ rest) ≡ Some (length (c ∷ inside) + 1))
        → later 1 (quote_end (not t) (c ∷ inside ++ 39 ∷ rest)) ≡ Some (length (b ∷ c ∷ inside) + 1)
    closed_step b c inside rest true is pair stop one two =
        let parts = and_parts (c == 39) (quotes_pair inside) pair in
        ap (later 1) (cond-true (c == 39) (later 1 (quote_end true (inside ++ 39 ∷ rest))) (Some 0) parts.0 ∙ ap (later 1) (one parts.1)) ∙ ap Some (omega arith)
    closed_step b c inside rest false is pair stop one two = ap (later 1) (two pair) ∙ ap Some (omega arith)

pub quote_end-open : (inside : List ℕ) → quotes_pair inside ≡ true → quote_end true inside ≡ None
quote_end-open [] pair = refl
quote_end-open (b ∷ []) pair = ap (λ t. later 1 (quote_end t [])) pair
quote_end-open (b ∷ c ∷ inside) pair = open_step b c inside (b == 39) refl pair (quote_end-open inside) (quote_end-open (c ∷ inside))
  where
    open_step : (b c : ℕ) (inside : List ℕ) (t : Bool) → (b == 39) ≡ t → cond t ((c == 39) && quotes_pair inside) (quotes_pair (c ∷ inside)) ≡ true
        → (quotes_pair inside ≡ true → quote_end true inside ≡ None)
        → (quotes_pair (c ∷ inside) ≡ true → quote_end true (c ∷ inside) ≡ None)
        → later 1 (quote_end (not t) (c ∷ inside)) ≡ None
    open_step b c inside true is pair one two =
        let parts = and_parts (c == 39) (quotes_pair inside) pair in
        ap (later 1) (cond-true (c == 39) (later 1 (quote_end true inside)) (Some 0) parts.0 ∙ ap (later 1) (one parts.1))
    open_step b c inside false is pair one two = ap (later 1) (two pair)

pub record IsEnded (bytes : List ℕ) (n : ℕ) : Type 0 where
  pub inside : List ℕ
  pub rest : List ℕ
  pub joined : bytes ≡ inside ++ 39 ∷ rest
  pub long : n ≡ length inside + 1
  pub pair : quotes_pair inside ≡ true
  pub stop : NotFirst (λ b bs. b == 39) rest

-- what the answer of the scan says of the bytes
abbrev pub QuoteEndIs : List ℕ → Option ℕ → Type 0
QuoteEndIs bytes None = quotes_pair bytes ≡ true
QuoteEndIs bytes (Some n) = IsEnded bytes n

quote_one : (b : ℕ) (t : Bool) → (b == 39) ≡ t → QuoteEndIs (b ∷ []) (later 1 (quote_end (not t) []))
quote_one b true is = record { inside = []; rest = []; joined = ap (λ c. c ∷ []) (eqb-true b 39 is); long = refl; pair = refl; stop = tt }
quote_one b false is = not_from_false (b == 39) is

-- a byte that is no quote stands in front
quote_plain : (b c : ℕ) (bs : List ℕ) (found : Option ℕ) → (b == 39) ≡ false → QuoteEndIs (c ∷ bs) found → QuoteEndIs (b ∷ c ∷ bs) (later 1 found)
quote_plain b c bs None is h = cond-false (b == 39) ((c == 39) && quotes_pair bs) (quotes_pair (c ∷ bs)) is ∙ h
quote_plain b c bs (Some n) is h = record {
  inside = b ∷ h.inside;
  rest = h.rest;
  joined = ap (λ l. b ∷ l) h.joined;
  long = (let e = h.long in omega arith);
  pair = plain_pairs b h.inside is h.pair;
  stop = h.stop;
}
  where
    plain_pairs : (b : ℕ) (inside : List ℕ) → (b == 39) ≡ false → quotes_pair inside ≡ true → quotes_pair (b ∷ inside) ≡ true
    plain_pairs b [] is pair = not_from_false (b == 39) is
    plain_pairs b (c ∷ inside) is pair = cond-false (b == 39) ((c == 39) && quotes_pair inside) (quotes_pair (c ∷ inside)) is ∙ pair

-- two quotes stand in front
quote_twice : (b c : ℕ) (bs : List ℕ) (found : Option ℕ) → (b == 39) ≡ true → (c == 39) ≡ true → QuoteEndIs bs found → QuoteEndIs (b ∷ c ∷ bs) (later 1 (later 1 found))
quote_twice b c bs None is too h = cond-true (b == 39) ((c == 39) && quotes_pair bs) (quotes_pair (c ∷ bs)) is ∙ and_from (c == 39) (quotes_pair bs) too h
quote_twice b c bs (Some n) is too h = record {
  inside = b ∷ c ∷ h.inside;
  rest = h.rest;
  joined = ap (λ l. b ∷ c ∷ l) h.joined;
  long = (let e = h.long in omega arith);
  pair = cond-true (b == 39) ((c == 39) && quotes_pair h.inside) (quotes_pair (c ∷ h.inside)) is ∙ and_from (c == 39) (quotes_pair h.inside) too h.pair;
  stop = h.stop;
}

quote_two : (b c : ℕ) (bs : List ℕ) (s t : Bool) → (b == 39) ≡ s → (c == 39) ≡ t → QuoteEndIs bs (quote_end true bs) → QuoteEndIs (c ∷ bs) (quote_end true (c ∷ bs)) → QuoteEndIs (b ∷ c ∷ bs) (later 1 (cond s (cond t (later 1 (quote_end true bs)) (Some 0)) (quote_end true (c ∷ bs))))
quote_two b c bs true true is too one two = quote_twice b c bs (quote_end true bs) is too one
quote_two b c bs true false is too one two = record { inside = []; rest = c ∷ bs; joined = ap (λ d. d ∷ c ∷ bs) (eqb-true b 39 is); long = refl; pair = refl; stop = too }
quote_two b c bs false t is too one two = quote_plain b c bs (quote_end true (c ∷ bs)) is two

quote_front : (s : Bool) (c : ℕ) (bs : List ℕ) → later 1 (cond s (cond (c == 39) (later 1 (quote_end true bs)) (Some 0)) (quote_end true (c ∷ bs))) ≡ later 1 (quote_end (not s) (c ∷ bs))
quote_front true c bs = refl
quote_front false c bs = refl

pub quote_end-is : (bytes : List ℕ) → QuoteEndIs bytes (quote_end true bytes)
quote_end-is [] = refl
quote_end-is (b ∷ []) = quote_one b (b == 39) refl
quote_end-is (b ∷ c ∷ bs) = subst (QuoteEndIs (b ∷ c ∷ bs)) (quote_front (b == 39) c bs) (quote_two b c bs (b == 39) (c == 39) refl refl (quote_end-is bs) (quote_end-is (c ∷ bs)))
