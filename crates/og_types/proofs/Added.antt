-- A table with a further type: the earlier types stay as they were, and it is a table again.
use Rattle.std.proofs.Common.{◌≡◌, ℕ, zero, suc, ◌+◌, ◌<◌, ◌≤◌, true, List, [], ◌∷◌, ◌++◌, length, slice_get, nat_le, Some, refl, sym, ap, ◌∙◌, subst, zero-add, arith}
use Rattle.og_types.specs.declared.TypeId.{TypeId}
use Rattle.og_types.specs.declared.Sort.{Sort}
use Rattle.og_types.specs.Values.{IsDownward}
use Rattle.og_types.specs.Table.{depth, depth_of_sort, is_sort_after, are_sorts_from, is_table, MayStandBehind}
use Rattle.og_types.proofs.Downward.{SameBelow, Below, depth_stays, depth_behind}
use Rattle.og_types.proofs.Tables.{refers_below, tables_are_downward}
use Rattle.std.proofs.lemmas.Bool.{leb-true, le-leb}
use Rattle.og_names.proofs.Truths.{both_true, both_first, both_second}

-- the type of this number
abbrev numbered : ℕ → TypeId
numbered n = record { 0 = n }

-- ---- what stands where

pub same_below : {A : Type 0} (xs ys : List A) (k : ℕ) → k < length xs → slice_get xs k ≡ slice_get (xs ++ ys) k
same_below [] ys k h = absurd (omega (arith, h))
same_below (x ∷ xs) ys zero h = refl
same_below (x ∷ xs) ys (suc k) h = same_below xs ys k (omega (arith, h))

pub last_is : {A : Type 0} (xs : List A) (t : A) → slice_get (xs ++ t ∷ []) (length xs) ≡ Some t
last_is [] t = refl
last_is (x ∷ xs) t = last_is xs t

-- ---- depth

none_behind : (n : ℕ) → n ≡ n + 0
none_behind n = omega arith

one_behind : (n k : ℕ) → suc n + k ≡ n + suc k
one_behind n k = omega arith

depth_from : (types : List Sort) (n : ℕ) (ts : List Sort) → are_sorts_from types n ts ≡ true → (k : ℕ) → k < length ts → depth types (numbered (n + k)) ≤ 64
depth_from types n [] h k b = absurd (omega (arith, b))
depth_from types n (t ∷ ts) h zero b =
    subst (λ (m : ℕ). depth types (numbered m) ≤ 64) (none_behind n) (leb-true _ _ (both_first _ _ (both_second _ _ h)))
depth_from types n (t ∷ ts) h (suc k) b =
    subst (λ (m : ℕ). depth types (numbered m) ≤ 64) (one_behind n k) (depth_from types (suc n) ts (both_second _ _ (both_second _ _ h)) k (omega (arith, b)))

pub depth_bound : (types : List Sort) → is_table types ≡ true → (id : TypeId) → id.0 < length types → depth types id ≤ 64
depth_bound types h id b =
    subst (λ (m : ℕ). depth types (numbered m) ≤ 64) (zero-add id.0) (depth_from types 0 types h id.0 b)

-- ---- a table again

sorts_stay : (types more : List Sort) → IsDownward types → SameBelow (length types) types more → (n : ℕ) (ts : List Sort)
    → n + length ts ≤ length types → are_sorts_from types n ts ≡ true → are_sorts_from more n ts ≡ true
sorts_stay types more d s n [] b h = refl
sorts_stay types more d s n (t ∷ ts) b h =
    both_true _ _ (both_first _ _ h)
    (both_true _ _
    (ap (λ (k : ℕ). nat_le k 64) (sym (depth_stays (length types) types more d s (numbered n) (omega (arith, b))))
    ∙ both_first _ _ (both_second _ _ h))
    (sorts_stay types more d s (suc n) ts (omega (arith, b)) (both_second _ _ (both_second _ _ h))))

sorts_grow : (more : List Sort) (n : ℕ) (ts : List Sort) (t : Sort) (m : ℕ) → n + length ts ≡ m → are_sorts_from more n ts ≡ true
    → is_sort_after m t ≡ true → nat_le (depth more (numbered m)) 64 ≡ true → are_sorts_from more n (ts ++ t ∷ []) ≡ true
sorts_grow more n [] t m e h a b =
    let at : m ≡ n = omega (arith, e) in
    both_true _ _ (ap (λ (k : ℕ). is_sort_after k t) (sym at) ∙ a) (both_true _ _ (ap (λ (k : ℕ). nat_le (depth more (numbered k)) 64) (sym at) ∙ b) refl)
sorts_grow more n (x ∷ ts) t m e h a b =
    both_true _ _ (both_first _ _ h)
    (both_true _ _ (both_first _ _ (both_second _ _ h)) (sorts_grow more (suc n) ts t m (omega (arith, e)) (both_second _ _ (both_second _ _ h)) a b))

module _ (types : List Sort) (t : Sort) (table : is_table types ≡ true) (may : MayStandBehind types t) where
  -- the new type refers to earlier ones
  refers : Below (length types) (slice_get (types ++ t ∷ []) (length types))
  refers = subst (Below (length types)) (sym (last_is types t)) (refers_below (length types) t may.sort)

  depth_of_last : depth (types ++ t ∷ []) (numbered (length types)) ≡ depth_of_sort (depth types) (Some t)
  depth_of_last =
      depth_behind (length types) types (types ++ t ∷ []) (tables_are_downward types table) (same_below types (t ∷ [])) refers
      ∙ ap (depth_of_sort (depth types)) (last_is types t)

  shallow : nat_le (depth (types ++ t ∷ []) (numbered (length types))) 64 ≡ true
  shallow = le-leb _ _ (subst (λ (k : ℕ). k ≤ 64) (sym depth_of_last) may.depth)

  pub still_table : is_table (types ++ t ∷ []) ≡ true
  still_table =
      sorts_grow (types ++ t ∷ []) 0 types t (length types) (zero-add (length types))
      (sorts_stay types (types ++ t ∷ []) (tables_are_downward types table) (same_below types (t ∷ [])) 0 types (omega arith) table)
      may.sort shallow

-- the type that stands last
last_of : (more : List Sort) (n : ℕ) (ts : List Sort) (t : Sort) → are_sorts_from more n (ts ++ t ∷ []) ≡ true
    → (is_sort_after (n + length ts) t ≡ true) × (nat_le (depth more (numbered (n + length ts))) 64 ≡ true)
last_of more n [] t h =
    subst (λ (m : ℕ). (is_sort_after m t ≡ true) × (nat_le (depth more (numbered m)) 64 ≡ true)) (none_behind n)
    (both_first _ _ h, both_first _ _ (both_second _ _ h))
last_of more n (x ∷ ts) t h =
    subst (λ (m : ℕ). (is_sort_after m t ≡ true) × (nat_le (depth more (numbered m)) 64 ≡ true)) (one_behind n (length ts))
    (last_of more (suc n) ts t (both_second _ _ (both_second _ _ h)))

-- a type that stands behind a table in another one
module _ (types : List Sort) (t : Sort) (table : is_table types ≡ true) (whole : is_table (types ++ t ∷ []) ≡ true) where
  stands : (is_sort_after (length types) t ≡ true) × (nat_le (depth (types ++ t ∷ []) (numbered (length types))) 64 ≡ true)
  stands =
      subst (λ (m : ℕ). (is_sort_after m t ≡ true) × (nat_le (depth (types ++ t ∷ []) (numbered m)) 64 ≡ true)) (zero-add (length types))
      (last_of (types ++ t ∷ []) 0 types t whole)

  refers_too : Below (length types) (slice_get (types ++ t ∷ []) (length types))
  refers_too = subst (Below (length types)) (sym (last_is types t)) (refers_below (length types) t stands.0)

  pub may_stand : MayStandBehind types t
  may_stand = record {
    sort = stands.0;
    depth = subst (λ (k : ℕ). k ≤ 64)
        (depth_behind (length types) types (types ++ t ∷ []) (tables_are_downward types table) (same_below types (t ∷ [])) refers_too
        ∙ ap (depth_of_sort (depth types)) (last_is types t))
        (leb-true _ _ stands.1);
  }
