-- Reading a part of cells is reading its numbers, and writing its numbers is changing the part.
use Rattle.std.proofs.Common.{◌≡◌, ℕ, zero, suc, ◌+◌, ◌*◌, ◌<◌, ◌≤◌, ℤ, pos, List, [], ◌∷◌, ◌++◌, length, map, get_or, Option, Some, None, refl, sym, ap, ◌∙◌, subst, arith}
use Rattle.std.proofs.lemmas.Option.{none-some}
use Rattle.og_ir.specs.Cells.{◌>>=◌, Cells, Cell, Empty, Both, row, equal_parts, number_in, part, change, part_at, put_at, count, global, change_global}
use Rattle.og_csubset.specs.declared.CProgram.{CProgram}
use Rattle.og_csubset.specs.Kinds.{first_globals}
use Rattle.og_ccells.specs.Vectors.{filled, all_filled, trees_of, numbers_before, before_inside, numbers_before_path, numbers_of}

-- the number at a place, and 0 past the end
abbrev pub number : List ℤ → ℕ → ℤ
number xs k = get_or xs k (pos 0)

-- ---- places

pub moved : (s : Cells) (a b : ℕ) (xs : List ℤ) → a ≡ b → filled a s xs ≡ filled b s xs
moved s a b xs e = ap (λ k. filled k s xs) e

-- the same numbers over the cells of a shape
pub same_numbers : (s : Cells) (a b : ℕ) (xs ys : List ℤ) → ((k : ℕ) → k < count s → number xs (a + k) ≡ number ys (b + k)) → filled a s xs ≡ filled b s ys
same_numbers (Cell z) a b xs ys same =
    ap Cell (ap (number xs) (omega arith) ∙ same 0 (omega arith) ∙ ap (number ys) (omega arith))
same_numbers Empty a b xs ys same = refl
same_numbers (Both s t) a b xs ys same =
    let first = same_numbers s a b xs ys (λ k lt. same k (omega (arith, lt))) in
    let others = same_numbers t (a + count s) (b + count s) xs ys (λ k lt.
    ap (number xs) (omega arith) ∙ same (count s + k) (omega (arith, lt)) ∙ ap (number ys) (omega arith)) in
    ap (λ c. Both c (filled (a + count s) t xs)) first ∙ ap (Both (filled b s ys)) others

-- ---- reading

pub part_filled : (s : Cells) (k at : ℕ) (xs : List ℤ) (p : Cells) → part k s ≡ Some p → part k (filled at s xs) ≡ Some (filled (at + numbers_before k s) p xs)
part_filled (Cell z) k at xs p e = absurd (none-some p e)
part_filled Empty k at xs p e = absurd (none-some p e)
part_filled (Both s t) zero at xs p e =
    let same : s ≡ p = cc in ap Some (ap (λ c. filled at c xs) same ∙ moved p at (at + 0) xs (omega arith))
part_filled (Both s t) (suc k) at xs p e =
    part_filled t k (at + count s) xs p e ∙ ap Some (moved p (at + count s + numbers_before k t) (at + (count s + numbers_before k t)) xs (omega arith))

-- a part lies inside
pub part_inside : (s : Cells) (k : ℕ) (p : Cells) → part k s ≡ Some p → numbers_before k s + count p ≤ count s
part_inside (Cell z) k p e = absurd (none-some p e)
part_inside Empty k p e = absurd (none-some p e)
part_inside (Both s t) zero p e = let same : count s ≡ count p = (let q : s ≡ p = cc in ap count q) in omega (arith, same)
part_inside (Both s t) (suc k) p e = let inner = part_inside t k p e in omega (arith, inner)

-- what a path leads to behind its first part
abbrev Inside : List ℕ → Type 0
Inside path = (s : Cells) (at : ℕ) (xs : List ℤ) (p : Cells) → part_at path s ≡ Some p → part_at path (filled at s xs) ≡ Some (filled (at + numbers_before_path path s) p xs)

inside_part : (k : ℕ) (path : List ℕ) (s : Cells) (at : ℕ) (xs : List ℤ) (p : Cells) → Inside path → (o : Option Cells) → part k s ≡ o → (o >>= part_at path) ≡ Some p
    → (part k (filled at s xs) >>= part_at path) ≡ Some (filled (at + (numbers_before k s + before_inside (numbers_before_path path) o)) p xs)
inside_part k path s at xs p inside None is found = absurd (none-some p found)
inside_part k path s at xs p inside (Some q) is found =
    ap (λ o. o >>= part_at path) (part_filled s k at xs q is)
    ∙ inside q (at + numbers_before k s) xs p found
    ∙ ap Some (moved p (at + numbers_before k s + numbers_before_path path q) (at + (numbers_before k s + numbers_before_path path q)) xs (omega arith))

-- reading a part is reading its numbers
pub part_at_filled : (path : List ℕ) → Inside path
part_at_filled [] s at xs p e = let same : s ≡ p = cc in ap Some (ap (λ c. filled at c xs) same ∙ moved p at (at + 0) xs (omega arith))
part_at_filled (k ∷ path) s at xs p e = inside_part k path s at xs p (part_at_filled path) (part k s) refl e

abbrev Fits : List ℕ → Type 0
Fits path = (s p : Cells) → part_at path s ≡ Some p → numbers_before_path path s + count p ≤ count s

inside_fits : (k : ℕ) (path : List ℕ) (s p : Cells) → Fits path → (o : Option Cells) → part k s ≡ o → (o >>= part_at path) ≡ Some p
    → numbers_before k s + before_inside (numbers_before_path path) o + count p ≤ count s
inside_fits k path s p fits None is found = absurd (none-some p found)
inside_fits k path s p fits (Some q) is found = let outer = part_inside s k q is in let inner = fits q p found in omega (arith, outer, inner)

-- a part lies inside
pub path_inside : (path : List ℕ) → Fits path
path_inside [] s p e = let same : count s ≡ count p = (let q : s ≡ p = cc in ap count q) in omega (arith, same)
path_inside (k ∷ path) s p e = inside_fits k path s p (path_inside path) (part k s) refl e

-- ---- writing

-- ys has the numbers of zs from b on, where xs has those of a part, and those of xs elsewhere
pub record Written (xs ys zs : List ℤ) (at b width : ℕ) : Type 0 where
  pub here : (k : ℕ) → k < width → number ys (at + k) ≡ number zs (b + k)
  pub before : (k : ℕ) → k < at → number ys k ≡ number xs k
  pub behind : (k : ℕ) → at + width ≤ k → number ys k ≡ number xs k

pub change_filled : (s : Cells) (k at : ℕ) (f : Cells → Cells) (p : Cells) (xs ys : List ℤ) → part k s ≡ Some p
    → f (filled (at + numbers_before k s) p xs) ≡ filled (at + numbers_before k s) p ys
    → ((j : ℕ) → j < at + numbers_before k s → number ys j ≡ number xs j) → ((j : ℕ) → at + numbers_before k s + count p ≤ j → number ys j ≡ number xs j)
    → change k f (filled at s xs) ≡ filled at s ys
change_filled (Cell z) k at f p xs ys e new before behind = absurd (none-some p e)
change_filled Empty k at f p xs ys e new before behind = absurd (none-some p e)
change_filled (Both s t) zero at f p xs ys e new before behind =
    let same : s ≡ p = cc in
    let size : count s ≡ count p = ap count same in
    let first : f (filled at s xs) ≡ filled at s ys =
    ap f (ap (λ c. filled at c xs) same ∙ moved p at (at + 0) xs (omega arith)) ∙ new ∙ moved p (at + 0) at ys (omega arith) ∙ ap (λ c. filled at c ys) (sym same) in
    ap (λ c. Both c (filled (at + count s) t xs)) first
    ∙ ap (Both (filled at s ys)) (same_numbers t (at + count s) (at + count s) xs ys (λ k lt. sym (behind (at + count s + k) (omega (arith, size)))))
change_filled (Both s t) (suc k) at f p xs ys e new before behind =
    let place : at + count s + numbers_before k t ≡ at + (count s + numbers_before k t) = omega arith in
    ap (λ c. Both c (change k f (filled (at + count s) t xs))) (same_numbers s at at xs ys (λ j lt. sym (before (at + j) (omega (arith, lt)))))
    ∙ ap (Both (filled at s ys))
    (change_filled t k (at + count s) f p xs ys e
    (ap f (moved p (at + count s + numbers_before k t) (at + (count s + numbers_before k t)) xs place) ∙ new ∙ moved p (at + (count s + numbers_before k t)) (at + count s + numbers_before k t) ys (sym place))
    (λ j lt. before j (omega (arith, lt))) (λ j le. behind j (omega (arith, le))))

abbrev Puts : List ℕ → Type 0
Puts path = (s : Cells) (at : ℕ) (p : Cells) (xs ys zs : List ℤ) (b : ℕ) → part_at path s ≡ Some p → Written xs ys zs (at + numbers_before_path path s) b (count p)
    → put_at path (filled b p zs) (filled at s xs) ≡ filled at s ys

inside_puts : (k : ℕ) (path : List ℕ) (s : Cells) (at : ℕ) (p : Cells) (xs ys zs : List ℤ) (b : ℕ) → Puts path → (o : Option Cells) → part k s ≡ o → (o >>= part_at path) ≡ Some p
    → Written xs ys zs (at + (numbers_before k s + before_inside (numbers_before_path path) o)) b (count p)
    → change k (put_at path (filled b p zs)) (filled at s xs) ≡ filled at s ys
inside_puts k path s at p xs ys zs b puts None is found w = absurd (none-some p found)
inside_puts k path s at p xs ys zs b puts (Some q) is found w =
    let place : at + (numbers_before k s + numbers_before_path path q) ≡ at + numbers_before k s + numbers_before_path path q = omega arith in
    let inner = path_inside path q p found in
    let W : ℕ → Type 0 = λ n. Written xs ys zs n b (count p) in
    change_filled s k at (put_at path (filled b p zs)) q xs ys is
    (puts q (at + numbers_before k s) p xs ys zs b found (subst W place w))
    (λ j lt. w.before j (omega (arith, lt)))
    (λ j le. w.behind j (omega (arith, le, inner)))

-- writing the numbers of a part is changing the part
pub put_filled : (path : List ℕ) → Puts path
put_filled [] s at p xs ys zs b e w =
    let same : s ≡ p = cc in
    same_numbers p b at zs ys (λ k lt. sym (ap (number ys) (omega arith) ∙ w.here k lt)) ∙ ap (λ c. filled at c ys) (sym same)
put_filled (k ∷ path) s at p xs ys zs b e w = inside_puts k path s at p xs ys zs b (put_filled path) (part k s) refl e w
