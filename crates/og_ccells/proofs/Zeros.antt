-- The cells of a program before it runs: each of them is 0.
use Rattle.std.proofs.Common.{◌≡◌, ℕ, zero, suc, ◌+◌, ◌-◌, ◌^◌, ◌<◌, ◌≤◌, ℤ, pos, List, [], ◌∷◌, length, map, replicate, Option, Some, None, inl, inr, refl, sym, ap, ◌∙◌, arith}
use Rattle.std.proofs.lemmas.List.{get_or-replicate, get_or_past, length-replicate}
use Rattle.std.proofs.lemmas.Bool.{cases_lt}
use Rattle.og_ir.specs.Cells.{Cells, Cell, Empty, Both, row, equal_parts, cells_by, count}
use Rattle.og_csubset.specs.declared.CProgram.{CProgram}
use Rattle.og_csubset.specs.declared.CStruct.{CStruct}
use Rattle.og_csubset.specs.declared.CMember.{CMember}
use Rattle.og_csubset.specs.declared.CGlobal.{CGlobal}
use Rattle.og_csubset.specs.declared.CType.{CType}
use Rattle.og_csubset.specs.declared.CType.TheVariants.{Int64, Struct}
use Rattle.og_csubset.specs.Kinds.{members_of, sized, blank_within, blank_type, width_of, total, first_globals}
use Rattle.og_csubset.specs.Loading.{cells_of_globals}
use Rattle.og_ccells.specs.declared.layout.Extent.{Extent}
use Rattle.og_ccells.specs.Layouts.{capped, extents_from, layout_of}
use Rattle.og_ccells.specs.Vectors.{filled, all_filled, trees_of}
use Rattle.og_ccells.proofs.Filling.{number}
use Rattle.og_ccells.proofs.Widths.{most, up_to_small}
use Rattle.og_ccells.proofs.Extents.{all_cells}

-- ---- cells that are 0

abbrev AllZero : Cells → Type 0
AllZero (Cell z) = z ≡ pos 0
AllZero Empty = Unit {0}
AllZero (Both first others) = AllZero first × AllZero others

rows_zero : {A : Type 0} (f : A → Cells) (xs : List A) → ((x : A) → AllZero (f x)) → AllZero (row (map f xs))
rows_zero f [] h = tt
rows_zero f (x ∷ xs) h = (h x, rows_zero f xs h)

equal_zero : (n : ℕ) (c : Cells) → AllZero c → AllZero (equal_parts n c)
equal_zero zero c h = tt
equal_zero (suc n) c h = (h, equal_zero n c h)

sized_zero : (size : Option ℕ) (c : Cells) → AllZero c → AllZero (sized size c)
sized_zero None c h = h
sized_zero (Some n) c h = equal_zero n c h

by_zero : {A : Type 0} (f : A → Cells) (o : Option A) → ((x : A) → AllZero (f x)) → AllZero (cells_by f o)
by_zero f None h = tt
by_zero f (Some x) h = h x

type_zero : (depth : ℕ) (structs : List CStruct) (t : CType) → AllZero (blank_within depth structs t)
type_zero zero structs t = tt
type_zero (suc depth) structs Int64 = refl
type_zero (suc depth) structs (Struct name) =
    by_zero (λ members. row (map (λ (m : CMember). sized m.size (blank_within depth structs m.kind)) members)) (members_of structs (Struct name))
    (λ members. rows_zero (λ (m : CMember). sized m.size (blank_within depth structs m.kind)) members (λ m. sized_zero m.size (blank_within depth structs m.kind) (type_zero depth structs m.kind)))

-- ---- in a vector

number_zero : (n at : ℕ) → number (replicate n (pos 0)) at ≡ pos 0
number_zero n at =
    elim (cases_lt at n) [
      | inl inside ↦ get_or-replicate n at (pos 0) (pos 0) inside
      | inr outside ↦ (let long = length-replicate n (pos 0) in get_or_past (replicate n (pos 0)) at (pos 0) (omega (arith, long, outside)))
    ]

filled_zero : (s : Cells) (at n : ℕ) → AllZero s → filled at s (replicate n (pos 0)) ≡ s
filled_zero (Cell z) at n h = ap Cell (number_zero n at ∙ sym h)
filled_zero Empty at n h = refl
filled_zero (Both a b) at n h =
    ap (λ c. Both c (filled (at + count a) b (replicate n (pos 0)))) (filled_zero a at n h.0) ∙ ap (Both a) (filled_zero b (at + count a) n h.1)

globals_zero : (structs : List CStruct) (globals : List CGlobal) (at n : ℕ)
    → all_filled at (map (λ (g : CGlobal). blank_type structs g.kind) globals) (replicate n (pos 0)) ≡ map (λ (g : CGlobal). blank_type structs g.kind) globals
globals_zero structs [] at n = refl
globals_zero structs (g ∷ globals) at n =
    let rest = all_filled (at + count (blank_type structs g.kind)) (map (λ (h : CGlobal). blank_type structs h.kind) globals) (replicate n (pos 0)) in
    ap (λ c. c ∷ rest) (filled_zero (blank_type structs g.kind) at n (type_zero (length structs + 1) structs g.kind))
    ∙ ap (λ l. blank_type structs g.kind ∷ l) (globals_zero structs globals (at + count (blank_type structs g.kind)) n)

pub first_trees : (P : CProgram) (n : ℕ) → trees_of P (replicate n (pos 0)) ≡ first_globals P
unfolding trees_of
first_trees P n = globals_zero P.structs P.globals 0 n

-- ---- how many

extents_width : (at : ℕ) (structs : List CStruct) (globals : List CGlobal) → all_cells structs globals ≤ most
    → total (map (λ (e : Extent). e.width) (extents_from at structs globals)) ≡ all_cells structs globals
extents_width at structs [] le = refl
extents_width at structs (g ∷ globals) le =
    ap (λ n. n + total (map (λ (e : Extent). e.width) (extents_from (capped (at + capped (width_of structs g.kind))) structs globals))) (up_to_small most (width_of structs g.kind) (omega (arith, le)))
    ∙ ap (λ n. width_of structs g.kind + n) (extents_width (capped (at + capped (width_of structs g.kind))) structs globals (omega (arith, le)))

extents_in : (P : CProgram) → cells_of_globals P ≤ 16777216 → total (map (λ (e : Extent). e.width) (layout_of P).extents) ≡ cells_of_globals P
unfolding layout_of
extents_in P le = extents_width 0 P.structs P.globals (omega (arith, le))

pub counted_cells : (P : CProgram) (extents : List Extent) (count : ℕ) → extents ≡ (layout_of P).extents → cells_of_globals P ≤ 16777216
    → count ≡ capped (total (map (λ (e : Extent). e.width) extents)) → count ≡ cells_of_globals P
counted_cells P extents count is le e =
    e ∙ ap (λ (l : List Extent). capped (total (map (λ (x : Extent). x.width) l))) is
    ∙ ap capped (extents_in P le) ∙ up_to_small most (cells_of_globals P) (omega (arith, le))

pub ruleset zeros = (first_trees)
