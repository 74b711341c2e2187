-- White space, and what stands first behind it.
use Rattle.std.proofs.Common.{◌≡◌, ℕ, Bool, true, List, [], ◌∷◌, ◌++◌, take, drop, sym, ap, ◌∙◌, subst}
use Rattle.std.specs.List.{list_all}
use Rattle.std.proofs.lemmas.Bool.{and_parts, and_from}
use Rattle.std.proofs.Math.Seq.{take-append_seam, drop-append_seam}
use Rattle.og_lexer.specs.Pieces.{NotFirst}
use Rattle.og_lexer.proofs.Ends.{prefix_len-at, run_of}
use Rattle.og_cif.specs.Form.{is_white, AreWhite}
use Rattle.og_cif.specs.Scans.{run, behind, past_white}

-- the first byte, if there is one, does not pass
abbrev pub StopsAt : (ℕ → Bool) → List ℕ → Type 0
StopsAt p bytes = NotFirst (λ b bs. p b) bytes

pub run_is : (p : ℕ → Bool) (xs ys : List ℕ) → list_all p xs ≡ true → StopsAt p ys → run p (xs ++ ys) ≡ xs
run_is p xs ys all stop = ap (λ n. take n (xs ++ ys)) (prefix_len-at p xs ys all stop) ∙ take-append_seam xs ys

pub behind_is : (p : ℕ → Bool) (xs ys : List ℕ) → list_all p xs ≡ true → StopsAt p ys → behind p (xs ++ ys) ≡ ys
behind_is p xs ys all stop = ap (λ n. drop n (xs ++ ys)) (prefix_len-at p xs ys all stop) ∙ drop-append_seam xs ys

-- what the longest front and the rest are
pub record IsCut (p : ℕ → Bool) (bytes : List ℕ) : Type 0 where
  pub joined : bytes ≡ run p bytes ++ behind p bytes
  pub all : list_all p (run p bytes) ≡ true
  pub stop : StopsAt p (behind p bytes)

pub cut_of : (p : ℕ → Bool) (bytes : List ℕ) → IsCut p bytes
cut_of p bytes =
    let r = run_of p bytes in
    let front : run p bytes ≡ r.run = ap (run p) r.joined ∙ run_is p r.run r.rest r.all r.stop in
    let back : behind p bytes ≡ r.rest = ap (behind p) r.joined ∙ behind_is p r.run r.rest r.all r.stop in
    record {
      joined = r.joined ∙ ap (λ xs. xs ++ r.rest) (sym front) ∙ ap (λ ys. run p bytes ++ ys) (sym back);
      all = subst (λ (xs : List ℕ). list_all p xs ≡ true) (sym front) r.all;
      stop = subst (λ (ys : List ℕ). StopsAt p ys) (sym back) r.stop;
    }

pub all_joined : (p : ℕ → Bool) (xs ys : List ℕ) → list_all p xs ≡ true → list_all p ys ≡ true → list_all p (xs ++ ys) ≡ true
all_joined p [] ys xs_all ys_all = ys_all
all_joined p (x ∷ xs) ys xs_all ys_all =
    let parts = and_parts (p x) (list_all p xs) xs_all in and_from (p x) (list_all p (xs ++ ys)) parts.0 (all_joined p xs ys parts.1 ys_all)

-- white space, and then a byte that is none
pub white_past : (space rest : List ℕ) → AreWhite space → StopsAt is_white rest → past_white (space ++ rest) ≡ rest
white_past space rest white stop = behind_is is_white space rest white stop
