-- The types of a table refer to types of smaller numbers.
use Rattle.std.proofs.Common.{◌≡◌, ℕ, zero, suc, ◌+◌, ◌<◌, true, List, [], ◌∷◌, slice_get, nat_lt, Option, Some, None, sym, ap, ◌∙◌, subst, ltb-true, zero-add, arith}
use Rattle.std.specs.List.{list_all}
use Rattle.og_types.specs.declared.Part.{Part}
use Rattle.og_types.specs.declared.Sort.{Sort}
use Rattle.og_types.specs.declared.Sort.TheVariants as Sorts
use Rattle.og_types.specs.Values.{PartsBelow, RefersBelow, IsDownward}
use Rattle.og_types.specs.Table.{is_sort_after, are_sorts_from, is_table}
use Rattle.og_names.proofs.Truths.{both_first as both_left, both_second as both_right}

is_below : (a b : ℕ) → nat_lt a b ≡ true → a < b
is_below a b e = ltb-true a b e

pub parts_below : (n : ℕ) (ps : List Part) → list_all (λ (p : Part). nat_lt p.sort.0 n) ps ≡ true → PartsBelow n ps
parts_below n [] e = tt
parts_below n (p ∷ ps) e = (is_below p.sort.0 n (both_left _ _ e), parts_below n ps (both_right _ _ e))

pub refers_below : (n : ℕ) (t : Sort) → is_sort_after n t ≡ true → RefersBelow n t
refers_below n (Sorts.Sequence ps) e = parts_below n ps (both_left _ _ e)
refers_below n (Sorts.Choice ps) e = parts_below n ps (both_left _ _ (both_right _ _ e))
refers_below n (Sorts.SeqOf lo hi item) e = is_below item.0 n (both_right _ _ (both_right _ _ e))
refers_below n (Sorts.Int lo hi) e = tt
refers_below n Sorts.Bool e = tt
refers_below n (Sorts.Enumerated names numbers) e = tt
refers_below n Sorts.Opaque e = tt

some_same : (t u : Sort) → Some t ≡ Some u → t ≡ u
some_same t u e = ap (λ (o : Option Sort). or_else o) e
  where
    or_else : Option Sort → Sort
    or_else None = t
    or_else (Some x) = x

at_end : (n : ℕ) → n ≡ n + 0
at_end n = omega arith

one_on : (n k : ℕ) → suc n + k ≡ n + suc k
one_on n k = omega arith

sorts_after : (types : List Sort) (n : ℕ) (ts : List Sort) → are_sorts_from types n ts ≡ true → (k : ℕ) (t : Sort) → slice_get ts k ≡ Some t → is_sort_after (n + k) t ≡ true
sorts_after types n [] h k t e = absurd (none_some e)
  where
    none_some : {x : Sort} → None ≡ Some x → ⊥
    none_some e = cc
sorts_after types n (x ∷ xs) h zero t e =
    subst (λ (m : ℕ). is_sort_after m t ≡ true) (at_end n) (ap (is_sort_after n) (sym (some_same x t e)) ∙ both_left _ _ h)
sorts_after types n (x ∷ xs) h (suc k) t e =
    subst (λ (m : ℕ). is_sort_after m t ≡ true) (one_on n k) (sorts_after types (suc n) xs (both_right _ _ (both_right _ _ h)) k t e)

-- each type of a table may stand where it stands
pub sort_after : (types : List Sort) → is_table types ≡ true → (n : ℕ) (t : Sort) → slice_get types n ≡ Some t → is_sort_after n t ≡ true
sort_after types h n t e = subst (λ (m : ℕ). is_sort_after m t ≡ true) (zero-add n) (sorts_after types 0 types h n t e)

pub tables_are_downward : (types : List Sort) → is_table types ≡ true → IsDownward types
tables_are_downward types h n t e = refers_below n t (sort_after types h n t e)
