-- How many cells types take, by their parts.
use Rattle.std.proofs.Common.{◌≡◌, ◌≢◌, ℕ, zero, suc, ◌+◌, ◌-◌, ◌*◌, ◌^◌, ◌≤◌, min, List, [], ◌∷◌, length, map, Option, Some, None, slice_get, refl, sym, ap, ◌∙◌, arith}
use Rattle.og_types.specs.declared.Part.{Part}
use Rattle.og_types.specs.declared.Sort.{Sort}
use Rattle.og_types.specs.declared.Sort.TheVariants as sort
use Rattle.og_types.specs.declared.TypeId.{TypeId}
use Rattle.og_ir.specs.Cells.{Cells, Cell, Empty, Both, row, equal_parts, cells_by, count}
use Rattle.og_ir.specs.Reading.{blank_sort, blank_within}
use Rattle.og_ccells.specs.Layouts.{up_to, counted}
use Rattle.og_csubset.specs.Kinds.{total}
use Rattle.og_ccells.proofs.Counting.{count_equal, count_row}
use Rattle.og_ccells.proofs.Widths.{up_to_is, up_to_small, up_to_sum, up_to_product}

abbrev pub most : ℕ
most = 2 ^ 64 - 1

pub none_within : (depth : ℕ) (sorts : List Sort) (t : TypeId) → depth ≡ 0 → 0 ≡ counted (count (blank_within depth sorts t))
none_within depth sorts t e = sym (ap (λ d. counted (count (blank_within d sorts t))) e ∙ up_to_small most 0 (omega arith))

pub none_there : (depth : ℕ) (sorts : List Sort) (t : TypeId) → None ≡ slice_get sorts t.0 → 0 ≡ counted (count (blank_within depth sorts t))
none_there zero sorts t e = sym (up_to_small most 0 (omega arith))
none_there (suc depth) sorts t e = sym (ap (λ o. counted (count (cells_by (blank_sort (blank_within depth sorts)) o))) (sym e) ∙ up_to_small most 0 (omega arith))

pub blank_there : (depth : ℕ) (sorts : List Sort) (t : TypeId) (s : Sort) → depth ≢ 0 → Some s ≡ slice_get sorts t.0 → blank_sort (blank_within (depth - 1) sorts) s ≡ blank_within depth sorts t
blank_there zero sorts t s ne e = absurd (ne refl)
blank_there (suc depth) sorts t s ne e =
    let less : suc depth - 1 ≡ depth = omega arith in
    ap (λ d. blank_sort (blank_within d sorts) s) less ∙ ap (cells_by (blank_sort (blank_within depth sorts))) e

pub one_number : 1 ≡ counted 1
one_number = sym (up_to_small most 1 (omega arith))

one_by : (c n next : ℕ) → next ≡ min (min n c + 1) c → next ≡ min (1 + n) c
one_by c n next e = omega (arith, e)

one_more : (n w next : ℕ) → w ≡ counted n → next ≡ min (w + 1) (2 ^ 64 - 1) → next ≡ counted (1 + n)
unfolding up_to
one_more n w next is grows = let e : next ≡ min (min n most + 1) most = grows ∙ ap (λ x. min (x + 1) most) is in one_by most n next e

abbrev parts_of : (TypeId → Cells) → List Part → Cells
parts_of blank parts = row (map (λ (p : Part). blank p.sort) parts)

pub choice_width : (blank : TypeId → Cells) (s : Sort) (parts : List Part) (w next : ℕ) → w ≡ counted (count (parts_of blank parts)) → next ≡ min (w + 1) (2 ^ 64 - 1) → s ≡ sort.Choice parts
    → next ≡ counted (count (blank_sort blank s))
choice_width blank s parts w next is grows e =
    one_more (count (parts_of blank parts)) w next is grows ∙ ap (λ x. counted (count (blank_sort blank x))) (sym e)

items_width : (lo hi : ℕ) (item : TypeId) (blank : TypeId → Cells) → 1 + count (blank item) * hi ≡ count (blank_sort blank (sort.SeqOf lo hi item))
items_width lo zero item blank = omega arith
items_width lo (suc hi) item blank = let all = count_equal hi (blank item) in omega (arith, all)

commuted : (a b p : ℕ) → p ≡ min (a * b) (2 ^ 64 - 1) → p ≡ min (b * a) (2 ^ 64 - 1)
commuted a b p e = let same : a * b ≡ b * a = omega arith in e ∙ ap (λ n. min n (2 ^ 64 - 1)) same

-- so many times a width
pub product_width : (hi width w p : ℕ) → w ≡ counted width → p ≡ min (w * hi) (2 ^ 64 - 1) → p ≡ counted (width * hi)
product_width hi width w p is times =
    commuted w hi p times ∙ ap (λ x. min (hi * x) (2 ^ 64 - 1)) is ∙ up_to_is most (hi * counted width) ∙ up_to_product most hi width ∙ ap counted (omega arith)

pub seq_of_width : (blank : TypeId → Cells) (s : Sort) (lo hi : ℕ) (item : TypeId) (w p next : ℕ) → w ≡ counted (count (blank item)) → p ≡ min (w * hi) (2 ^ 64 - 1)
    → next ≡ min (p + 1) (2 ^ 64 - 1) → s ≡ sort.SeqOf lo hi item → next ≡ counted (count (blank_sort blank s))
seq_of_width blank s lo hi item w p next is times grows e =
    let width = count (blank item) in
    one_more (width * hi) p next (product_width hi width w p is times) grows ∙ ap counted (items_width lo hi item blank) ∙ ap (λ x. counted (count (blank_sort blank x))) (sym e)

pub opaque_width : (blank : TypeId → Cells) (s : Sort) → s ≡ sort.Opaque → 0 ≡ counted (count (blank_sort blank s))
opaque_width blank s e = sym (ap (λ x. counted (count (blank_sort blank x))) e ∙ up_to_small most 0 (omega arith))

pub parts_width : (blank : TypeId → Cells) (parts : List Part) (w : ℕ) → w ≡ counted (total (map (λ (p : Part). count (blank p.sort)) parts)) → w ≡ counted (count (parts_of blank parts))
parts_width blank parts w e = e ∙ ap counted (sym (count_row (λ (p : Part). blank p.sort) parts))

pub ruleset type_widths = (none_within, none_there, blank_there, one_number)
