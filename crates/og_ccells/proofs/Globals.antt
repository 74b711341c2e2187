-- The globals of a program as the parts of one row of cells.
use Rattle.std.proofs.Common.{◌≡◌, ℕ, zero, suc, ◌+◌, ◌<◌, ◌≤◌, ℤ, pos, List, [], ◌∷◌, ◌++◌, length, get_or, replicate, slice_get, Option, Some, None, Ok, refl, sym, ap, ◌∙◌, subst, arith, length-append}
use Rattle.std.proofs.lemmas.List.{get_or-replicate, get_or_past, length-replicate}
use Rattle.std.proofs.lemmas.Option.{none-some}
use Rattle.og_ir.specs.Arithmetic as arithmetic
use Rattle.og_ir.specs.Arithmetic.{Index, or_else}
use Rattle.og_ir.specs.Cells.{◌>>=◌, Cells, Cell, Empty, Both, row, equal_parts, number_in, part, change, part_at, put_at, count, global, change_global}
use Rattle.og_ir.specs.FlatSteps.{Spot, cells_at, put}
use Rattle.og_ccells.specs.Vectors.{filled, all_filled, numbers_before_path, numbers_of}
use Rattle.og_ccells.proofs.Filling.{number, moved, Written, part_at_filled, put_filled}

-- ---- rows

pub row_filled : (ss : List Cells) (at : ℕ) (xs : List ℤ) → row (all_filled at ss xs) ≡ filled at (row ss) xs
row_filled [] at xs = refl
row_filled (s ∷ ss) at xs = ap (Both (filled at s xs)) (row_filled ss (at + count s) xs)

pub row_part : (k : ℕ) (cs : List Cells) → part k (row cs) ≡ global k cs
row_part zero [] = refl
row_part (suc k) [] = refl
row_part zero (c ∷ cs) = refl
row_part (suc k) (c ∷ cs) = row_part k cs

pub row_change : (k : ℕ) (f : Cells → Cells) (cs : List Cells) → row (change_global k f cs) ≡ change k f (row cs)
row_change zero f [] = refl
row_change (suc k) f [] = refl
row_change zero f (c ∷ cs) = refl
row_change (suc k) f (c ∷ cs) = ap (Both c) (row_change k f cs)

unrow : Cells → List Cells
unrow (Cell z) = []
unrow Empty = []
unrow (Both first others) = first ∷ unrow others

unrow_row : (cs : List Cells) → unrow (row cs) ≡ cs
unfolding unrow
unrow_row [] = refl
unrow_row (c ∷ cs) = ap (λ l. c ∷ l) (unrow_row cs)

pub same_rows : (cs ds : List Cells) → row cs ≡ row ds → cs ≡ ds
same_rows cs ds e = sym (unrow_row cs) ∙ ap unrow e ∙ unrow_row ds

-- ---- spots

found : (path : List ℕ) (o : Option Cells) (p : Cells) → (o >>= part_at path) ≡ Some p → (arithmetic.◌>>=◌ (or_else o Index) (λ c. or_else (part_at path c) Index)) ≡ Ok p
found path None p e = absurd (none-some p e)
found path (Some c) p e = ap (λ o. or_else o Index) e

-- what stands at a spot
pub spot_read : (ss : List Cells) (xs : List ℤ) (base : ℕ) (path : List ℕ) (p : Cells) → part_at (base ∷ path) (row ss) ≡ Some p
    → cells_at (all_filled 0 ss xs) (record { base = base; path = path }) ≡ Ok (filled (numbers_before_path (base ∷ path) (row ss)) p xs)
spot_read ss xs base path p e =
    found path (global base (all_filled 0 ss xs)) (filled (numbers_before_path (base ∷ path) (row ss)) p xs)
    (ap (λ o. o >>= part_at path) (sym (row_part base (all_filled 0 ss xs)) ∙ ap (part base) (row_filled ss 0 xs))
    ∙ part_at_filled (base ∷ path) (row ss) 0 xs p e
    ∙ ap Some (moved p (0 + numbers_before_path (base ∷ path) (row ss)) (numbers_before_path (base ∷ path) (row ss)) xs (omega arith)))

-- cells that are put at a spot
pub spot_put : (ss : List Cells) (xs ys zs : List ℤ) (base : ℕ) (path : List ℕ) (p : Cells) (b : ℕ) → part_at (base ∷ path) (row ss) ≡ Some p
    → Written xs ys zs (numbers_before_path (base ∷ path) (row ss)) b (count p)
    → put (all_filled 0 ss xs) (record { base = base; path = path }) (filled b p zs) ≡ all_filled 0 ss ys
spot_put ss xs ys zs base path p b e w =
    let place : numbers_before_path (base ∷ path) (row ss) ≡ 0 + numbers_before_path (base ∷ path) (row ss) = omega arith in
    same_rows _ _
    (row_change base (put_at path (filled b p zs)) (all_filled 0 ss xs)
    ∙ ap (change base (put_at path (filled b p zs))) (row_filled ss 0 xs)
    ∙ put_filled (base ∷ path) (row ss) 0 p xs ys zs b e (let W : ℕ → Type 0 = λ n. Written xs ys zs n b (count p) in subst W place w)
    ∙ sym (row_filled ss 0 ys))
