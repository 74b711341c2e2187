-- A global of a program by its number: what it holds in the vector of cells, and what the vector holds when it is changed.
use Rattle.std.proofs.Common.{◌≡◌, ℕ, zero, suc, ◌+◌, ◌≤◌, ℤ, List, [], ◌∷◌, length, map, Option, Some, None, slice_get, refl, sym, ap, ◌∙◌, arith}
use Rattle.std.proofs.lemmas.Option.{none-some}
use Rattle.og_ir.specs.Cells.{◌>>=◌, Cells, row, part, part_at, change, count, global, change_global}
use Rattle.og_csubset.specs.declared.CProgram.{CProgram}
use Rattle.og_csubset.specs.declared.CStruct.{CStruct}
use Rattle.og_csubset.specs.declared.CGlobal.{CGlobal}
use Rattle.og_csubset.specs.Kinds.{blank_type, first_globals}
use Rattle.og_csubset.specs.Loading.{cells_of_globals}
use Rattle.og_ccells.specs.Layouts.{globals_before}
use Rattle.og_ccells.specs.Vectors.{filled, all_filled, trees_of, numbers_before, before_inside, numbers_before_path, put_cells, SameShape}
use Rattle.og_ccells.proofs.Filling.{moved, part_filled}
use Rattle.og_ccells.proofs.Globals.{row_filled, row_part, row_change, same_rows}
use Rattle.og_ccells.proofs.Counting.{count_globals}
use Rattle.og_ccells.proofs.Shapes.{part_put}
use Rattle.og_ccells.proofs.Laid.{globals_lie}

-- ---- reading

pub global_is : (P : CProgram) (xs : List ℤ) (k : ℕ) (g : CGlobal) → slice_get P.globals k ≡ Some g
    → global k (trees_of P xs) ≡ Some (filled (globals_before P.structs k P.globals) (blank_type P.structs g.kind) xs)
unfolding trees_of
global_is P xs k g e =
    let lies = globals_lie P.structs P.globals k g e in
    let place : 0 + numbers_before k (row (first_globals P)) ≡ globals_before P.structs k P.globals = (let b = lies.before_is in omega (arith, b)) in
    sym (row_part k (all_filled 0 (first_globals P) xs)) ∙ ap (part k) (row_filled (first_globals P) 0 xs)
    ∙ part_filled (row (first_globals P)) k 0 xs (blank_type P.structs g.kind) lies.there
    ∙ ap Some (moved (blank_type P.structs g.kind) (0 + numbers_before k (row (first_globals P))) (globals_before P.structs k P.globals) xs place)

none_at : (structs : List CStruct) (globals : List CGlobal) (at : ℕ) (xs : List ℤ) (k : ℕ) → slice_get globals k ≡ None
    → global k (all_filled at (map (λ (g : CGlobal). blank_type structs g.kind) globals) xs) ≡ None
none_at structs [] at xs zero e = refl
none_at structs [] at xs (suc k) e = refl
none_at structs (g ∷ globals) at xs zero e = absurd (none-some g (sym e))
none_at structs (g ∷ globals) at xs (suc k) e = none_at structs globals (at + count (blank_type structs g.kind)) xs k e

pub no_global : (P : CProgram) (xs : List ℤ) (k : ℕ) → slice_get P.globals k ≡ None → global k (trees_of P xs) ≡ None
unfolding trees_of
no_global P xs k e = none_at P.structs P.globals 0 xs k e

-- ---- writing

pub global_put : (P : CProgram) (xs : List ℤ) (k : ℕ) (g : CGlobal) (new : Cells) → slice_get P.globals k ≡ Some g → SameShape (blank_type P.structs g.kind) new → length xs ≡ cells_of_globals P
    → trees_of P (put_cells (globals_before P.structs k P.globals) new xs) ≡ change_global k (λ _. new) (trees_of P xs)
unfolding trees_of
global_put P xs k g new e same whole =
    let ss = first_globals P in
    let lies = globals_lie P.structs P.globals k g e in
    let found : part k (row ss) ≡ Some (blank_type P.structs g.kind) = lies.there in
    let inside : numbers_before_path (k ∷ []) (row ss) ≡ numbers_before k (row ss) + 0 = ap (λ o. numbers_before k (row ss) + before_inside (numbers_before_path []) o) found in
    let place : 0 + numbers_before_path (k ∷ []) (row ss) ≡ globals_before P.structs k P.globals = (let b = lies.before_is in omega (arith, b, inside)) in
    let fits : 0 + count (row ss) ≤ length xs = (let n = count_globals P in omega (arith, n, whole)) in
    sym (same_rows _ _
    (row_change k (λ _. new) (all_filled 0 ss xs)
    ∙ ap (change k (λ _. new)) (row_filled ss 0 xs)
    ∙ part_put (row ss) (blank_type P.structs g.kind) new (k ∷ []) 0 xs (ap (λ o. o >>= part_at []) found) same fits
    ∙ ap (λ n. filled 0 (row ss) (put_cells n new xs)) place
    ∙ sym (row_filled ss 0 (put_cells (globals_before P.structs k P.globals) new xs))))
