-- What the reader's answer says of the bytes in front, and the pieces that both languages have: white space, numbers, and comments
-- that end with their line.
use Rattle.std.proofs.Common.{◌≡◌, ℕ, ◌+◌, ◌^◌, ◌<◌, Bool, true, false, not, ◌&&◌, cond, List, [], ◌∷◌, ◌++◌, length, take, refl, sym, ap, ◌∙◌, arith, append_assoc, length-append, take_at}
use Rattle.std.specs.Prelude.{if◌then◌else◌, ◌==◌, nat_lt, Result, Ok, Err}
use Rattle.std.specs.List.{list_all, prefix_len}
use Rattle.std.proofs.lemmas.Bool.{and_from, eqb-true, ltb-true, ltb-false, cond-true, not-false, false≢true}
use Rattle.og_base.specs.declared.Rule.{Rule}
use Rattle.og_base.specs.declared.Rule.TheVariants.{L4}
use Rattle.og_lexer.specs.declared.Language.{Language}
use Rattle.og_lexer.specs.declared.words.Class.{Class}
use Rattle.og_lexer.specs.declared.words.Class.TheVariants as class
use Rattle.og_lexer.specs.declared.front.Shape.TheVariants.{Space, DashComment, LineComment, Digits}
use Rattle.og_lexer.specs.declared.front.Front.{Front}
use Rattle.og_lexer.specs.declared.scan.PairEnd.{PairEnd}
use Rattle.og_lexer.specs.declared.scan.PairEnd.TheVariants.{Closed, Open}
use Rattle.og_lexer.specs.Bytes.{class_of, is_digit_class, is_digit, begins, number_of}
use Rattle.og_lexer.specs.Pieces.{lacks_pair, in_one_line, IsNumber, goes_on, NotFirst, Stands, IsWithin, Breaks}
use Rattle.og_lexer.specs.Front.{plus, pair_end, found, number_found, dash_found}
use Rattle.og_lexer.proofs.Ends.{prefix_len-at, run_of, pair_end-closed, pair_end-open, PairEndIs}

-- a piece of this form and length stands in front of the bytes
pub record HasFront (language : Language) (f : Front) (bytes : List ℕ) : Type 0 where
  pub text : List ℕ
  pub rest : List ℕ
  pub stands : Stands language f.shape text bytes rest
  pub within : IsWithin f.shape text
  pub long : f.len ≡ length text
  pub some : 0 < f.len

-- what the reader's answer says of the bytes
abbrev pub FrontIs : Language → List ℕ → Result Front Rule → Type 0
FrontIs language bytes (Ok f) = HasFront language f bytes
FrontIs language bytes (Err r) = Breaks r language bytes

pub not_first : (test : ℕ → List ℕ → Bool) → ((b : ℕ) (bs : List ℕ) → test b bs ≡ false) → (bytes : List ℕ) → NotFirst test bytes
not_first test never [] = tt
not_first test never (b ∷ bs) = never b bs

-- white space
pub space_is : (language : Language) (b : ℕ) (bs : List ℕ) → class_of b ≡ class.White → FrontIs language (b ∷ bs) (found Space 1)
space_is language b bs is = record {
  text = b ∷ [];
  rest = bs;
  stands = record { joined = refl; is_of = (b, refl, is); follows = not_first (goes_on Space language) (λ _ _. refl) bs };
  within = tt;
  long = refl;
  some = omega arith;
}

-- numbers
number_is_by : (language : Language) (t : Bool) (text rest bytes : List ℕ) (n : ℕ) → nat_lt (2 ^ 63) (number_of (take n bytes)) ≡ t → bytes ≡ text ++ rest → n ≡ length text → 0 < n → IsNumber text → NotFirst (λ b bs. is_digit b) rest → FrontIs language bytes (cond t (Err L4) (found Digits n))
number_is_by language true text rest bytes n over joined long some number stop =
    let same = ap number_of (ap (take n) joined ∙ take_at text rest n (sym long)) in
    (text, rest, record { joined = joined; is_of = number; follows = stop }, (let e = ltb-true (2 ^ 63) (number_of (take n bytes)) over in omega arith))
number_is_by language false text rest bytes n over joined long some number stop =
    let same = ap number_of (ap (take n) joined ∙ take_at text rest n (sym long)) in
    record {
      text = text;
      rest = rest;
      stands = record { joined = joined; is_of = number; follows = stop };
      within = (let e = ltb-false (2 ^ 63) (number_of (take n bytes)) over in omega arith);
      long = long;
      some = some;
    }

pub number_is : (language : Language) (b : ℕ) (bs : List ℕ) → class_of b ≡ class.Digit → FrontIs language (b ∷ bs) (number_found (1 + prefix_len is_digit bs) (b ∷ bs))
number_is language b bs is =
    let r = run_of is_digit bs in
    number_is_by language (nat_lt (2 ^ 63) (number_of (take (1 + prefix_len is_digit bs) (b ∷ bs)))) (b ∷ r.run) r.rest (b ∷ bs) (1 + prefix_len is_digit bs) refl (ap (λ l. b ∷ l) r.joined) (let e = r.long in omega arith) (omega arith) (digits_all b r.run is r.all) r.stop
  where
    digits_all : (b : ℕ) (run : List ℕ) → class_of b ≡ class.Digit → list_all is_digit run ≡ true → list_all is_digit (b ∷ run) ≡ true
    digits_all b run is all = and_from (is_digit b) (list_all is_digit run) (ap is_digit_class is) all

pub digit_class : (k : Class) → is_digit_class k ≡ true → k ≡ class.Digit
digit_class class.Digit is = refl
digit_class class.White is = absurd (false≢true is)
digit_class class.Letter is = absurd (false≢true is)
digit_class class.Underline is = absurd (false≢true is)
digit_class class.Quote is = absurd (false≢true is)
digit_class (class.Sign m) is = absurd (false≢true is)
digit_class class.Foreign is = absurd (false≢true is)

-- a number that stands in front is found, or is over the limit
pub number_found-stands : (b : ℕ) (bs rest : List ℕ) → list_all is_digit bs ≡ true → NotFirst (λ b bs. is_digit b) rest → number_found (1 + prefix_len is_digit (bs ++ rest)) (b ∷ (bs ++ rest)) ≡ (if nat_lt (2 ^ 63) (number_of (b ∷ bs)) then Err L4 else found Digits (length (b ∷ bs)))
number_found-stands b bs rest all stop =
    ap (λ n. number_found n (b ∷ (bs ++ rest))) (let e = prefix_len-at is_digit bs rest all stop in let whole : 1 + prefix_len is_digit (bs ++ rest) ≡ length (b ∷ bs) = omega arith in whole)
    ∙ ap (λ l. if nat_lt (2 ^ 63) (number_of l) then Err L4 else found Digits (length (b ∷ bs))) (take_at (b ∷ bs) rest (length (b ∷ bs)) refl)

-- comments that end with their line
pub dash_is : (language : Language) (b c : ℕ) (cs : List ℕ) (end : PairEnd) → b ≡ 45 → c ≡ 45 → PairEndIs 45 45 true cs end → FrontIs language (b ∷ c ∷ cs) (dash_found end)
dash_is language b c cs (Closed n) first second h = record {
  text = 45 ∷ 45 ∷ (h.inside ++ 45 ∷ 45 ∷ []);
  rest = h.rest;
  stands = record {
    joined = ap (λ x. x ∷ c ∷ cs) first ∙ ap (λ x. 45 ∷ x ∷ cs) second ∙ ap (λ l. 45 ∷ 45 ∷ l) (h.joined ∙ sym (append_assoc h.inside (45 ∷ 45 ∷ []) h.rest));
    is_of = (h.inside, refl, h.lacks, h.line);
    follows = not_first (goes_on DashComment language) (λ _ _. refl) h.rest;
  };
  within = tt;
  long = (let e = h.long in let l = length-append h.inside (45 ∷ 45 ∷ []) in omega arith);
  some = omega arith;
}
dash_is language b c cs (Open n) first second h = record {
  text = 45 ∷ 45 ∷ h.inside;
  rest = h.rest;
  stands = record {
    joined = ap (λ x. x ∷ c ∷ cs) first ∙ ap (λ x. 45 ∷ x ∷ cs) second ∙ ap (λ l. 45 ∷ 45 ∷ l) h.joined;
    is_of = (h.inside, refl, h.lacks, h.line);
    follows = h.stop;
  };
  within = tt;
  long = (let e = h.long in omega arith);
  some = omega arith;
}

-- a comment that ends by its closing pair is found
pub dash_found-closed : (inside rest : List ℕ) → lacks_pair 45 45 (inside ++ 45 ∷ []) ≡ true → in_one_line inside ≡ true → dash_found (pair_end 45 45 true ((inside ++ 45 ∷ 45 ∷ []) ++ rest)) ≡ found DashComment (length (45 ∷ 45 ∷ (inside ++ 45 ∷ 45 ∷ [])))
dash_found-closed inside rest lacks line =
    ap (λ l. dash_found (pair_end 45 45 true l)) (append_assoc inside (45 ∷ 45 ∷ []) rest)
    ∙ ap dash_found (pair_end-closed 45 45 true inside rest refl lacks line)
    ∙ ap (found DashComment) (let l = length-append inside (45 ∷ 45 ∷ []) in omega arith)

-- a comment that ends with its line is found
pub dash_found-open : (inside rest : List ℕ) → lacks_pair 45 45 inside ≡ true → in_one_line inside ≡ true → NotFirst (λ b bs. not (b == 10)) rest → dash_found (pair_end 45 45 true (inside ++ rest)) ≡ found LineComment (length (45 ∷ 45 ∷ inside))
dash_found-open inside rest lacks line stop =
    ap dash_found (pair_end-open 45 45 true inside rest (no_dash rest stop) (at_end rest stop) lacks line)
    ∙ ap (found LineComment) (omega arith)
  where
    ends : (b : ℕ) → not (b == 10) ≡ false → b ≡ 10
    ends b stop = eqb-true b 10 (not-false (b == 10) stop)

    no_dash : (rest : List ℕ) → NotFirst (λ b bs. not (b == 10)) rest → begins 45 rest ≡ false
    no_dash [] stop = refl
    no_dash (b ∷ rest) stop = ap (λ c. c == 45) (ends b stop)

    at_end : (rest : List ℕ) → NotFirst (λ b bs. not (b == 10)) rest → pair_end 45 45 true rest ≡ Open 0
    at_end [] stop = refl
    at_end (b ∷ rest) stop = cond-true (b == 10) (Open 0) (cond ((b == 45) && begins 45 rest) (Closed 2) (plus 1 (pair_end 45 45 true rest))) (not-false (b == 10) stop)
