-- The shape of cells: the cells with each number 0. What is put in the place of cells of the same shape keeps the shape of the
-- whole, and the cells of a value have the shape of its type.
use Rattle.std.proofs.Common.{◌≡◌, ℕ, zero, suc, ◌+◌, ◌<◌, ◌≤◌, ℤ, pos, List, [], ◌∷◌, Option, Some, None, Result, Ok, Err, map, slice_get, refl, sym, ap, ◌∙◌, arith}
use Rattle.std.specs.Prelude.{option_map}
use Rattle.std.proofs.lemmas.Option.{none-some}
use Rattle.og_types.specs.declared.Part.{Part}
use Rattle.og_types.specs.declared.Sort.{Sort}
use Rattle.og_types.specs.declared.Sort.TheVariants as sort
use Rattle.og_types.specs.declared.TypeId.{TypeId}
use Rattle.og_types.specs.declared.Value.{Value, out-Value}
use Rattle.og_types.specs.declared.Value.TheOpen as value
use Rattle.og_types.specs.declared.Value.TheOpen.{Value-F}
use Rattle.og_ir.specs.Cells.{◌>>=◌, Cells, Cell, Empty, Both, row, equal_parts, cells_by, part, change, part_at, put_at, global, change_global}
use Rattle.og_ir.specs.Reading.{blank_sort, blank_within, blank, write_parts, write_alternatives, write_items, write_sort, write_within, cells_of}
use Rattle.og_ir.specs.FlatSteps.{Spot, put}
use Rattle.og_names.proofs.Truths.{same_value}

abbrev pub zeroed : Cells → Cells
zeroed (Cell n) = Cell (pos 0)
zeroed Empty = Empty
zeroed (Both first others) = Both (zeroed first) (zeroed others)

-- ---- parts

pub part_zeroed : (k : ℕ) (cells : Cells) → part k (zeroed cells) ≡ option_map zeroed (part k cells)
part_zeroed k (Cell n) = refl
part_zeroed k Empty = refl
part_zeroed zero (Both first others) = refl
part_zeroed (suc k) (Both first others) = part_zeroed k others

-- the part of these cells that a part of their shape is the shape of
pub record Shaped (o : Option Cells) (shape : Cells) : Type 0 where
  pub cells : Cells
  pub found : o ≡ Some cells
  pub same : zeroed cells ≡ shape

shaped_by : (o : Option Cells) (shape : Cells) → option_map zeroed o ≡ Some shape → Shaped o shape
shaped_by None shape h = absurd (none-some shape h)
shaped_by (Some cells) shape h = record { cells = cells; found = refl; same = same_value (zeroed cells) shape h }

pub part_shaped : (k : ℕ) (cells whole shape : Cells) → zeroed cells ≡ whole → part k whole ≡ Some shape → Shaped (part k cells) shape
part_shaped k cells whole shape same e = shaped_by (part k cells) shape (sym (part_zeroed k cells) ∙ ap (part k) same ∙ e)

none_by : (o : Option Cells) → option_map zeroed o ≡ None → o ≡ None
none_by None h = refl
none_by (Some cells) h = absurd (none-some (zeroed cells) (sym h))

pub part_unshaped : (k : ℕ) (cells whole : Cells) → zeroed cells ≡ whole → part k whole ≡ None → part k cells ≡ None
part_unshaped k cells whole same e = none_by (part k cells) (sym (part_zeroed k cells) ∙ ap (part k) same ∙ e)

path_zeroed : (path : List ℕ) (cells : Cells) → part_at path (zeroed cells) ≡ option_map zeroed (part_at path cells)
path_zeroed [] cells = refl
path_zeroed (k ∷ path) cells =
    ap (λ o. o >>= part_at path) (part_zeroed k cells) ∙ by_part (part k cells) (λ inner. path_zeroed path inner)
  where
    by_part : (o : Option Cells) → ((inner : Cells) → part_at path (zeroed inner) ≡ option_map zeroed (part_at path inner))
        → (option_map zeroed o >>= part_at path) ≡ option_map zeroed (o >>= part_at path)
    by_part None more = refl
    by_part (Some inner) more = more inner

pub path_shaped : (path : List ℕ) (cells whole shape : Cells) → zeroed cells ≡ whole → part_at path whole ≡ Some shape → Shaped (part_at path cells) shape
path_shaped path cells whole shape same e = shaped_by (part_at path cells) shape (sym (path_zeroed path cells) ∙ ap (part_at path) same ∙ e)

-- a number has the shape of a cell
pub number_cell : (cells : Cells) → zeroed cells ≡ Cell (pos 0) → (n : ℤ) × (cells ≡ Cell n)
number_cell (Cell n) e = (n, refl)
number_cell Empty e = absurd (none-some zero (ap number e))
  where
    number : Cells → Option ℕ
    number (Cell n) = Some zero
    number Empty = None
    number (Both first others) = None
number_cell (Both first others) e = absurd (none-some zero (ap number e))
  where
    number : Cells → Option ℕ
    number (Cell n) = Some zero
    number Empty = None
    number (Both first' others') = None

-- ---- what is put

change_zeroed : (k : ℕ) (f g : Cells → Cells) → ((x : Cells) → zeroed (f x) ≡ g (zeroed x)) → (cells : Cells)
    → zeroed (change k f cells) ≡ change k g (zeroed cells)
change_zeroed k f g h (Cell n) = refl
change_zeroed k f g h Empty = refl
change_zeroed zero f g h (Both first others) = ap (λ x. Both x (zeroed others)) (h first)
change_zeroed (suc k) f g h (Both first others) = ap (Both (zeroed first)) (change_zeroed k f g h others)

put_zeroed : (path : List ℕ) (new cells : Cells) → zeroed (put_at path new cells) ≡ put_at path (zeroed new) (zeroed cells)
put_zeroed [] new cells = refl
put_zeroed (k ∷ path) new cells = change_zeroed k (put_at path new) (put_at path (zeroed new)) (λ x. put_zeroed path new x) cells

change_same : (k : ℕ) (f : Cells → Cells) (cells x : Cells) → part k cells ≡ Some x → f x ≡ x → change k f cells ≡ cells
change_same k f (Cell n) x e h = refl
change_same k f Empty x e h = refl
change_same zero f (Both first others) x e h =
    ap (λ y. Both y others) (ap f (same_value first x e) ∙ h ∙ sym (same_value first x e))
change_same (suc k) f (Both first others) x e h = ap (Both first) (change_same k f others x e h)

put_same : (path : List ℕ) (cells x : Cells) → part_at path cells ≡ Some x → put_at path x cells ≡ cells
put_same [] cells x e = sym (same_value cells x e)
put_same (k ∷ path) cells x e = by_part (part k cells) refl e (λ inner h. put_same path inner x h)
  where
    by_part : (o : Option Cells) → part k cells ≡ o → (o >>= part_at path) ≡ Some x
        → ((inner : Cells) → part_at path inner ≡ Some x → put_at path x inner ≡ inner) → change k (put_at path x) cells ≡ cells
    by_part None e' h more = absurd (none-some x h)
    by_part (Some inner) e' h more = change_same k (put_at path x) cells inner e' (more inner h)

change_global_zeroed : (k : ℕ) (f g : Cells → Cells) → ((x : Cells) → zeroed (f x) ≡ g (zeroed x)) → (slots : List Cells)
    → map zeroed (change_global k f slots) ≡ change_global k g (map zeroed slots)
change_global_zeroed k f g h [] = refl
change_global_zeroed zero f g h (x ∷ slots) = ap (λ y. y ∷ map zeroed slots) (h x)
change_global_zeroed (suc k) f g h (x ∷ slots) = ap (λ l. zeroed x ∷ l) (change_global_zeroed k f g h slots)

change_global_same : (k : ℕ) (f : Cells → Cells) (slots : List Cells) (x : Cells) → global k slots ≡ Some x → f x ≡ x
    → change_global k f slots ≡ slots
change_global_same k f [] x e h = refl
change_global_same zero f (y ∷ slots) x e h = ap (λ z. z ∷ slots) (ap f (same_value y x e) ∙ h ∙ sym (same_value y x e))
change_global_same (suc k) f (y ∷ slots) x e h = ap (λ l. y ∷ l) (change_global_same k f slots x e h)

global_zeroed : (k : ℕ) (slots : List Cells) → global k (map zeroed slots) ≡ option_map zeroed (global k slots)
global_zeroed k [] = refl
global_zeroed zero (x ∷ slots) = refl
global_zeroed (suc k) (x ∷ slots) = global_zeroed k slots

pub global_shaped : (k : ℕ) (slots shapes : List Cells) (shape : Cells) → map zeroed slots ≡ shapes → global k shapes ≡ Some shape
    → Shaped (global k slots) shape
global_shaped k slots shapes shape same e = shaped_by (global k slots) shape (sym (global_zeroed k slots) ∙ ap (global k) same ∙ e)

-- what is put in the place of the same shape keeps all shapes
pub put_keeps : (slots shapes : List Cells) (spot : Spot) (new whole : Cells) → map zeroed slots ≡ shapes
    → global spot.base shapes ≡ Some whole → part_at spot.path whole ≡ Some (zeroed new) → map zeroed (put slots spot new) ≡ shapes
put_keeps slots shapes spot new whole same e there =
    change_global_zeroed spot.base (put_at spot.path new) (put_at spot.path (zeroed new)) (λ x. put_zeroed spot.path new x) slots
    ∙ ap (change_global spot.base (put_at spot.path (zeroed new))) same
    ∙ change_global_same spot.base (put_at spot.path (zeroed new)) shapes whole e (put_same spot.path whole (zeroed new) there)

-- and so does what is put in the place of a whole slot
pub global_keeps : (slots shapes : List Cells) (k : ℕ) (new : Cells) → map zeroed slots ≡ shapes
    → global k shapes ≡ Some (zeroed new) → map zeroed (change_global k (λ _. new) slots) ≡ shapes
global_keeps slots shapes k new same e =
    change_global_zeroed k (λ _. new) (λ _. zeroed new) (λ x. refl) slots
    ∙ ap (change_global k (λ _. zeroed new)) same
    ∙ change_global_same k (λ _. zeroed new) shapes (zeroed new) e refl

-- ---- the cells of a value

equal_zeroed : (n : ℕ) (x : Cells) → zeroed (equal_parts n x) ≡ equal_parts n (zeroed x)
equal_zeroed zero x = refl
equal_zeroed (suc n) x = ap (Both (zeroed x)) (equal_zeroed n x)

module _ (b : TypeId → Cells) (h : (t : TypeId) → zeroed (b t) ≡ b t) where
  row_zeroed : (parts : List Part) → zeroed (row (map (λ (p : Part). b p.sort) parts)) ≡ row (map (λ (p : Part). b p.sort) parts)
  row_zeroed [] = refl
  row_zeroed (p ∷ parts) = ap (λ x. Both x (zeroed (row (map (λ (q : Part). b q.sort) parts)))) (h p.sort) ∙ ap (Both (b p.sort)) (row_zeroed parts)

  sort_zeroed : (s : Sort) → zeroed (blank_sort b s) ≡ blank_sort b s
  sort_zeroed (sort.Int lo hi) = refl
  sort_zeroed sort.Bool = refl
  sort_zeroed (sort.Enumerated names numbers) = refl
  sort_zeroed (sort.Sequence []) = refl
  sort_zeroed (sort.Sequence (p ∷ parts)) = row_zeroed (p ∷ parts)
  sort_zeroed (sort.Choice parts) = ap (Both (Cell (pos 0))) (row_zeroed parts)
  sort_zeroed (sort.SeqOf lo zero item) = refl
  sort_zeroed (sort.SeqOf lo (suc hi) item) =
      ap (λ x. Both (Cell (pos 0)) (Both x Empty)) (equal_zeroed (suc hi) (b item) ∙ ap (equal_parts (suc hi)) (h item))
  sort_zeroed sort.Opaque = refl

  module _ (w : TypeId → Value → Cells) (k : (t : TypeId) (v : Value) → zeroed (w t v) ≡ b t) where
    parts_written : (parts : List Part) (vs : List Value) → zeroed (write_parts b w parts vs) ≡ row (map (λ (p : Part). b p.sort) parts)
    parts_written [] vs = refl
    parts_written (p ∷ parts) [] = ap (λ x. Both x (zeroed (write_parts b w parts []))) (h p.sort) ∙ ap (Both (b p.sort)) (parts_written parts [])
    parts_written (p ∷ parts) (v ∷ vs) = ap (λ x. Both x (zeroed (write_parts b w parts vs))) (k p.sort v) ∙ ap (Both (b p.sort)) (parts_written parts vs)

    alternatives_written : (parts : List Part) (n : ℕ) (v : Value) → zeroed (write_alternatives b w parts n v) ≡ row (map (λ (p : Part). b p.sort) parts)
    alternatives_written [] n v = refl
    alternatives_written (p ∷ parts) zero v = ap (λ x. Both x (zeroed (row (map (λ (q : Part). b q.sort) parts)))) (k p.sort v) ∙ ap (Both (b p.sort)) (row_zeroed parts)
    alternatives_written (p ∷ parts) (suc n) v = ap (λ x. Both x (zeroed (write_alternatives b w parts n v))) (h p.sort) ∙ ap (Both (b p.sort)) (alternatives_written parts n v)

    items_written : (item : TypeId) (n : ℕ) (vs : List Value) → zeroed (write_items (b item) (w item) n vs) ≡ equal_parts n (b item)
    items_written item zero vs = refl
    items_written item (suc n) [] = ap (λ x. Both x (zeroed (write_items (b item) (w item) n []))) (h item) ∙ ap (Both (b item)) (items_written item n [])
    items_written item (suc n) (v ∷ vs) = ap (λ x. Both x (zeroed (write_items (b item) (w item) n vs))) (k item v) ∙ ap (Both (b item)) (items_written item n vs)

    sort_written : (s : Sort) (v : Value-F Value) → zeroed (write_sort b w s v) ≡ blank_sort b s
    sort_written (sort.Int lo hi) (value.Int n) = refl
    sort_written (sort.Int lo hi) v = refl
    sort_written sort.Bool (value.Bool x) = refl
    sort_written sort.Bool v = refl
    sort_written (sort.Enumerated names numbers) (value.Enumerated n) = refl
    sort_written (sort.Enumerated names numbers) v = refl
    sort_written (sort.Sequence []) (value.Sequence vs) = refl
    sort_written (sort.Sequence (p ∷ parts)) (value.Sequence vs) = parts_written (p ∷ parts) vs
    sort_written (sort.Sequence parts) v = sort_zeroed (sort.Sequence parts)
    sort_written (sort.Choice parts) (value.Choice n v) = ap (Both (Cell (pos 0))) (alternatives_written parts n v)
    sort_written (sort.Choice parts) v = sort_zeroed (sort.Choice parts)
    sort_written (sort.SeqOf lo zero item) (value.SeqOf vs) = refl
    sort_written (sort.SeqOf lo (suc hi) item) (value.SeqOf vs) = ap (λ x. Both (Cell (pos 0)) (Both x Empty)) (items_written item (suc hi) vs)
    sort_written (sort.SeqOf lo hi item) v = sort_zeroed (sort.SeqOf lo hi item)
    sort_written sort.Opaque v = refl

sorts_zeroed : (b : TypeId → Cells) → ((t : TypeId) → zeroed (b t) ≡ b t) → (o : Option Sort) → zeroed (cells_by (blank_sort b) o) ≡ cells_by (blank_sort b) o
sorts_zeroed b h None = refl
sorts_zeroed b h (Some s) = sort_zeroed b h s

sorts_written : (b : TypeId → Cells) → ((t : TypeId) → zeroed (b t) ≡ b t) → (w : TypeId → Value → Cells)
    → ((t : TypeId) (v : Value) → zeroed (w t v) ≡ b t) → (v : Value-F Value) (o : Option Sort)
    → zeroed (cells_by (λ s. write_sort b w s v) o) ≡ cells_by (blank_sort b) o
sorts_written b h w k v None = refl
sorts_written b h w k v (Some s) = sort_written b h w k s v

within_zeroed : (d : ℕ) (sorts : List Sort) (t : TypeId) → zeroed (blank_within d sorts t) ≡ blank_within d sorts t
within_zeroed zero sorts t = refl
within_zeroed (suc d) sorts t = sorts_zeroed (blank_within d sorts) (λ u. within_zeroed d sorts u) (slice_get sorts t.0)

within_written : (d : ℕ) (sorts : List Sort) (t : TypeId) (v : Value) → zeroed (write_within d sorts t v) ≡ blank_within d sorts t
within_written zero sorts t v = refl
within_written (suc d) sorts t v =
    sorts_written (blank_within d sorts) (λ u. within_zeroed d sorts u) (write_within d sorts) (λ u w. within_written d sorts u w) (out-Value v) (slice_get sorts t.0)

pub blank_zeroed : (sorts : List Sort) (t : TypeId) → zeroed (blank sorts t) ≡ blank sorts t
unfolding blank
blank_zeroed sorts t = within_zeroed (t.0 + 1) sorts t

pub value_zeroed : (sorts : List Sort) (t : TypeId) (v : Value) → zeroed (cells_of sorts t v) ≡ blank sorts t
unfolding blank cells_of
value_zeroed sorts t v = within_written (t.0 + 1) sorts t v

pub equal_part : (n k : ℕ) (x : Cells) → k < n → part k (equal_parts n x) ≡ Some x
equal_part zero k x less = absurd (omega (arith, less))
equal_part (suc n) zero x less = refl
equal_part (suc n) (suc k) x less = equal_part n k x (omega (arith, less))

pub equal_past : (n k : ℕ) (x : Cells) → n ≤ k → part k (equal_parts n x) ≡ None
equal_past zero k x most = refl
equal_past (suc n) zero x most = absurd (omega (arith, most))
equal_past (suc n) (suc k) x most = equal_past n k x (omega (arith, most))
