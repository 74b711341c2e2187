-- What numbers stand in a vector after others were put into it.
use Rattle.std.proofs.Common.{◌≡◌, ◌≢◌, ℕ, zero, suc, ◌+◌, ◌-◌, ◌^◌, ◌<◌, ◌≤◌, min, ℤ, pos, List, [], ◌∷◌, ◌++◌, length, take, drop, get_or, slice_set, true, ◌&&◌, nat_le, cond, inl, inr, refl, sym, ap, ◌∙◌, arith, get_or-set_same, get_or-set_other, length-append, length-drop}
use Rattle.std.proofs.lemmas.List.{length-set, length-take, get_or_append_left, get_or-append_right, get_or-take, get_or-drop}
use Rattle.std.proofs.lemmas.List.Edits.{length-paste}
use Rattle.std.proofs.lemmas.Bool.{cases_lt}
use Rattle.std.proofs.lemmas.Bool.Decides.{nat_tests}
use Rattle.std.specs.List.{copy_within}
use lib.Seq.{paste}
use Rattle.og_ccells.specs.Layouts.{up_to, counted}
use Rattle.og_ccells.specs.Vectors.{overwritten, copied}
use Rattle.og_ccells.proofs.Filling.{number, Written}

pub length-overwritten : (ys xs : List ℤ) (at : ℕ) → length (overwritten at ys xs) ≡ length xs
length-overwritten [] xs at = refl
length-overwritten (y ∷ ys) xs at = length-overwritten ys (slice_set xs at y) (at + 1) ∙ length-set xs at y

other : (xs : List ℤ) (at j : ℕ) (y : ℤ) → j ≢ at → number (slice_set xs at y) j ≡ number xs j
other xs at j y ne = get_or-set_other xs at j y (pos 0) ne

before : (ys xs : List ℤ) (at j : ℕ) → j < at → number (overwritten at ys xs) j ≡ number xs j
before [] xs at j lt = refl
before (y ∷ ys) xs at j lt = before ys (slice_set xs at y) (at + 1) j (omega arith) ∙ other xs at j y (omega arith)

behind : (ys xs : List ℤ) (at j : ℕ) → at + length ys ≤ j → number (overwritten at ys xs) j ≡ number xs j
behind [] xs at j le = refl
behind (y ∷ ys) xs at j le = behind ys (slice_set xs at y) (at + 1) j (omega arith) ∙ other xs at j y (omega arith)

here : (ys xs : List ℤ) (at k : ℕ) → k < length ys → at + length ys ≤ length xs → number (overwritten at ys xs) (at + k) ≡ number ys k
here [] xs at k lt le = absurd (omega arith)
here (y ∷ ys) xs at zero lt le =
    ap (number (overwritten at (y ∷ ys) xs)) (omega arith) ∙ before ys (slice_set xs at y) (at + 1) at (omega arith) ∙ get_or-set_same xs at y (pos 0) (omega arith)
here (y ∷ ys) xs at (suc k) lt le =
    let size = length-set xs at y in
    ap (number (overwritten at (y ∷ ys) xs)) (omega arith) ∙ here ys (slice_set xs at y) (at + 1) k (omega arith) (omega (arith, size))

pub overwritten_written : (ys xs : List ℤ) (at : ℕ) → at + length ys ≤ length xs → Written xs (overwritten at ys xs) ys at 0 (length ys)
overwritten_written ys xs at le = record {
  here = λ k lt. here ys xs at k lt le ∙ ap (number ys) (omega arith);
  before = λ k lt. before ys xs at k lt;
  behind = λ k lt. behind ys xs at k lt;
}

-- ---- copies

pasted : (xs s : List ℤ) (to n k : ℕ) → to + n ≤ length xs → n ≤ length s → k < n → number (paste xs to s n) (to + k) ≡ number s k
pasted xs s to n k fits long lt =
    let front = length-take to xs in
    let middle = length-take n s in
    let whole = length-append (take to xs) (take n s) in
    get_or_append_left (take to xs ++ take n s) (drop (to + n) xs) (pos 0) (to + k) (omega (arith, front, middle, whole))
    ∙ get_or-append_right (take to xs) (take n s) to (to + k) (pos 0) (omega (arith, front)) (omega arith)
    ∙ ap (number (take n s)) (omega arith)
    ∙ get_or-take n s k (pos 0) lt

pasted_before : (xs s : List ℤ) (to n k : ℕ) → to + n ≤ length xs → n ≤ length s → k < to → number (paste xs to s n) k ≡ number xs k
pasted_before xs s to n k fits long lt =
    let front = length-take to xs in
    let middle = length-take n s in
    let whole = length-append (take to xs) (take n s) in
    get_or_append_left (take to xs ++ take n s) (drop (to + n) xs) (pos 0) k (omega (arith, front, middle, whole))
    ∙ get_or_append_left (take to xs) (take n s) (pos 0) k (omega (arith, front))
    ∙ get_or-take to xs k (pos 0) lt

pasted_behind : (xs s : List ℤ) (to n k : ℕ) → to + n ≤ length xs → n ≤ length s → to + n ≤ k → number (paste xs to s n) k ≡ number xs k
pasted_behind xs s to n k fits long le =
    let front = length-take to xs in
    let middle = length-take n s in
    let whole = length-append (take to xs) (take n s) in
    get_or-append_right (take to xs ++ take n s) (drop (to + n) xs) (to + n) k (pos 0) (omega (arith, front, middle, whole)) le
    ∙ get_or-drop (to + n) xs (k - (to + n)) (pos 0)
    ∙ ap (number xs) (omega arith)

copied_if : (xs : List ℤ) (to from width : ℕ) → to + width ≤ length xs → from + width ≤ length xs → copied to from width xs ≡ paste xs to (drop from xs) width
copied_if xs to from width p q =
    let a : nat_le (to + width) (length xs) ≡ true = grind (arith, nat_tests) in
    let b : nat_le (from + width) (length xs) ≡ true = grind (arith, nat_tests) in
    let n : from + width - from ≡ width = omega arith in
    ap (λ t. cond (t && nat_le (from + width) (length xs)) (copy_within xs from (from + width) to) xs) a
    ∙ ap (λ t. cond t (copy_within xs from (from + width) to) xs) b
    ∙ ap (paste xs to (drop from xs)) n

pub length-copied : (xs : List ℤ) (to from width : ℕ) → to + width ≤ length xs → from + width ≤ length xs → length (copied to from width xs) ≡ length xs
length-copied xs to from width p q =
    let long = length-drop from xs in
    ap length (copied_if xs to from width p q) ∙ length-paste xs to (drop from xs) width p (omega (arith, long))

pub copied_written : (xs : List ℤ) (to from width : ℕ) → to + width ≤ length xs → from + width ≤ length xs → Written xs (copied to from width xs) xs to from width
copied_written xs to from width p q =
    let long = length-drop from xs in
    let is = copied_if xs to from width p q in
    record {
      here = λ k lt. ap (λ l. number l (to + k)) is ∙ pasted xs (drop from xs) to width k p (omega (arith, long)) lt ∙ get_or-drop from xs k (pos 0);
      before = λ k lt. ap (λ l. number l k) is ∙ pasted_before xs (drop from xs) to width k p (omega (arith, long)) lt;
      behind = λ k le. ap (λ l. number l k) is ∙ pasted_behind xs (drop from xs) to width k p (omega (arith, long)) le;
    }

-- ---- one after the other

pub overwritten-append : (ys zs xs : List ℤ) (at : ℕ) → overwritten at (ys ++ zs) xs ≡ overwritten (at + length ys) zs (overwritten at ys xs)
overwritten-append [] zs xs at = ap (λ n. overwritten n zs xs) (omega arith)
overwritten-append (y ∷ ys) zs xs at =
    overwritten-append ys zs (slice_set xs at y) (at + 1) ∙ ap (λ n. overwritten n zs (overwritten (at + 1) ys (slice_set xs at y))) (omega arith)

set_past : (xs : List ℤ) (at : ℕ) (y : ℤ) → length xs ≤ at → slice_set xs at y ≡ xs
set_past [] at y le = refl
set_past (x ∷ xs) zero y le = absurd (omega arith)
set_past (x ∷ xs) (suc at) y le = ap (λ l. x ∷ l) (set_past xs at y (omega arith))

-- nothing is put past the end
pub overwritten_past : (ys xs : List ℤ) (at : ℕ) → length xs ≤ at → overwritten at ys xs ≡ xs
overwritten_past [] xs at le = refl
overwritten_past (y ∷ ys) xs at le = ap (overwritten (at + 1) ys) (set_past xs at y le) ∙ overwritten_past ys xs (at + 1) (omega (arith, le))

-- the place behind so many cells
pub overwritten_behind : (ys xs : List ℤ) (at w n next : ℕ) → w ≡ counted n → next ≡ min (at + w) (length xs) → length xs < 2 ^ 64 → overwritten next ys xs ≡ overwritten (at + n) ys xs
unfolding up_to
overwritten_behind ys xs at w n next width place fits =
    elim (cases_lt (at + n) (length xs)) [
      | inl inside ↦ (let same : next ≡ at + n = omega (arith, width, place, fits, inside) in ap (λ k. overwritten k ys xs) same)
      | inr outside ↦ overwritten_past ys xs next (omega (arith, width, place, fits, outside)) ∙ sym (overwritten_past ys xs (at + n) outside)
    ]
