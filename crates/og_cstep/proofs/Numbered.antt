-- The numbers of cells, one after the other, in the vector.
use Rattle.std.proofs.Common.{◌≡◌, ℕ, zero, suc, ◌+◌, ◌-◌, ◌<◌, ◌≤◌, ℤ, pos, List, [], ◌∷◌, ◌++◌, length, Bool, true, false, inl, inr, nat_lt, Option, Some, None, slice_get, get_or, refl, sym, ap, ◌∙◌, arith}
use Rattle.std.proofs.lemmas.Bool.{cases_lt}
use Rattle.std.proofs.lemmas.Bool.Decides.{nat_tests}
use Rattle.std.proofs.lemmas.Option.{slice_get_cases}
use Rattle.og_ir.specs.Cells.{◌>>=◌, Cells, Cell, Empty, Both, count, global}
use Rattle.og_ir.specs.Reading.{only_if}
use Rattle.og_csubset.specs.declared.CProgram.{CProgram}
use Rattle.og_csubset.specs.Kinds.{blank_type, width_of}
use Rattle.og_csubset.specs.Loading.{cells_of_globals}
use Rattle.og_ccells.specs.Layouts.{globals_before, layout_of}
use Rattle.og_ccells.specs.Vectors.{filled, trees_of, numbers_of}
use Rattle.og_ccells.proofs.Counting.{count_type}
use Rattle.og_ccells.proofs.Extents.{extent_of, no_extent}
use Rattle.og_ccells.proofs.Located.{global_is, no_global}
use Rattle.og_ccells.proofs.Shapes.{length-numbers}
use Rattle.og_cstep.specs.Slots.{cell_in}
use Rattle.og_cstep.proofs.Sighted.{extent_is}

-- ---- lists

get_front : {A : Type 0} (xs ys : List A) (k : ℕ) → k < length xs → slice_get (xs ++ ys) k ≡ slice_get xs k
get_front [] ys k lt = absurd (omega arith)
get_front (x ∷ xs) ys zero lt = refl
get_front (x ∷ xs) ys (suc k) lt = get_front xs ys k (omega arith)

get_behind : {A : Type 0} (xs ys : List A) (k : ℕ) → length xs ≤ k → slice_get (xs ++ ys) k ≡ slice_get ys (k - length xs)
get_behind [] ys k le = ap (slice_get ys) (omega arith)
get_behind (x ∷ xs) ys zero le = absurd (omega arith)
get_behind (x ∷ xs) ys (suc k) le = let same : k - length xs ≡ suc k - suc (length xs) = omega arith in get_behind xs ys k (omega arith) ∙ ap (slice_get ys) same

-- ---- cells

count_filled : (s : Cells) (at : ℕ) (xs : List ℤ) → count (filled at s xs) ≡ count s
count_filled (Cell z) at xs = refl
count_filled Empty at xs = refl
count_filled (Both a b) at xs = ap (λ n. n + count (filled (at + count a) b xs)) (count_filled a at xs) ∙ ap (λ n. count a + n) (count_filled b (at + count a) xs)

long : (s : Cells) (at : ℕ) (xs : List ℤ) → length (numbers_of (filled at s xs)) ≡ count s
long s at xs = length-numbers (filled at s xs) ∙ count_filled s at xs

inside : (k n : ℕ) (z : ℤ) → k < n → Some z ≡ only_if (nat_lt k n) z
inside k n z lt = let is : true ≡ nat_lt k n = grind (arith, nat_tests, lt) in ap (λ b. only_if b z) is

outside : (k n : ℕ) (z : ℤ) → n ≤ k → None ≡ only_if (nat_lt k n) z
outside k n z le = let is : false ≡ nat_lt k n = grind (arith, nat_tests, le) in ap (λ b. only_if b z) is

same_test : (k n j m : ℕ) (z : ℤ) → nat_lt k n ≡ nat_lt j m → only_if (nat_lt k n) z ≡ only_if (nat_lt j m) z
same_test k n j m z e = ap (λ b. only_if b z) e

numbers_get : (s : Cells) (at k : ℕ) (xs : List ℤ) → slice_get (numbers_of (filled at s xs)) k ≡ only_if (nat_lt k (count s)) (get_or xs (at + k) (pos 0))
numbers_get (Cell z) at zero xs = ap (λ n. Some (get_or xs n (pos 0))) (omega arith) ∙ inside 0 1 (get_or xs (at + 0) (pos 0)) (omega arith)
numbers_get (Cell z) at (suc k) xs = outside (suc k) 1 (get_or xs (at + suc k) (pos 0)) (omega arith)
numbers_get Empty at k xs = outside k 0 (get_or xs (at + k) (pos 0)) (omega arith)
numbers_get (Both a b) at k xs =
    let size = long a at xs in
    let first = numbers_of (filled at a xs) in
    let others = numbers_of (filled (at + count a) b xs) in
    let number = get_or xs (at + k) (pos 0) in
    elim (cases_lt k (count a)) [
      | inl lt ↦ (let is : nat_lt k (count a) ≡ nat_lt k (count a + count b) = grind (arith, nat_tests, lt) in
          get_front first others k (omega (arith, size, lt)) ∙ numbers_get a at k xs ∙ same_test k (count a) k (count a + count b) number is)
      | inr le ↦ (let is : nat_lt (k - count a) (count b) ≡ nat_lt k (count a + count b) = grind (arith, nat_tests, le) in
          let place : at + count a + (k - count a) ≡ at + k = omega (arith, le) in
          get_behind first others k (omega (arith, size, le)) ∙ ap (λ n. slice_get others (k - n)) size ∙ numbers_get b (at + count a) (k - count a) xs
          ∙ ap (λ n. only_if (nat_lt (k - count a) (count b)) (get_or xs n (pos 0))) place ∙ same_test (k - count a) (count b) k (count a + count b) number is)
    ]

-- ---- globals

pub global_slice : (k : ℕ) (cs : List Cells) → slice_get cs k ≡ global k cs
global_slice zero [] = refl
global_slice (suc k) [] = refl
global_slice zero (c ∷ cs) = refl
global_slice (suc k) (c ∷ cs) = global_slice k cs

-- the number at an offset in a global
pub cell_is : (P : CProgram) (xs : List ℤ) (k offset : ℕ) → cells_of_globals P ≤ 16777216
    → (slice_get (layout_of P).extents k >>= λ e. cell_in e xs offset) ≡ (slice_get (trees_of P xs) k >>= λ c. slice_get (numbers_of c) offset)
cell_is P xs k offset few =
    elim (slice_get_cases P.globals k).1 [
      | inl found ↦ (let e = found.2 in
          let g = found.0 in
          let at = globals_before P.structs k P.globals in
          ap (λ o. o >>= λ x. cell_in x xs offset) (extent_is P few xs k g e)
          ∙ ap (λ n. only_if (nat_lt offset n) (get_or xs (at + offset) (pos 0))) (sym (count_type P.structs g.kind))
          ∙ sym (numbers_get (blank_type P.structs g.kind) at offset xs)
          ∙ sym (ap (λ o. o >>= λ c. slice_get (numbers_of c) offset) (global_slice k (trees_of P xs) ∙ global_is P xs k g e)))
      | inr none ↦ ap (λ o. o >>= λ x. cell_in x xs offset) (no_extent P k none.1)
          ∙ sym (ap (λ o. o >>= λ c. slice_get (numbers_of c) offset) (global_slice k (trees_of P xs) ∙ no_global P xs k none.1))
    ]
