-- Which types are needed: those of slots, and with a type those that it is made of.
use Rattle.std.proofs.Common.{◌≡◌, ℕ, zero, suc, ◌+◌, ◌<◌, ◌≤◌, List, [], ◌∷◌, Bool, true, false, ◌⊎◌, inl, inr, Option, Some, None, map, length, replicate, slice_get, refl, sym, ap, subst, ◌∙◌, arith}
use Rattle.std.specs.List.{flat_map}
use Rattle.std.proofs.lemmas.Bool.{false≢true}
use Rattle.std.proofs.lemmas.Option.{none-some}
use Rattle.og_types.specs.declared.Part.{Part}
use Rattle.og_types.specs.declared.Sort.{Sort}
use Rattle.og_types.specs.declared.Sort.TheVariants as sort
use Rattle.og_types.specs.declared.TypeId.{TypeId}
use Rattle.og_types.specs.Values.{PartsBelow, RefersBelow, IsDownward}
use Rattle.og_model.specs.declared.Model.{Model}
use Rattle.og_ir.specs.declared.Ir.{Ir}
use Rattle.og_ir.specs.declared.SlotDef.{SlotDef}
use Rattle.og_ir.specs.declared.SlotSort.{SlotSort}
use Rattle.og_ir.specs.declared.SlotSort.TheVariants as slot_sort
use Rattle.og_cemit.specs.Marks.{is_marked, all_marked}
use Rattle.og_cemit.specs.Structs.{parts_of, types_of_slot, parts_marked, settled, needed}
use Rattle.og_cemit.proofs.Marking.{Among, among_each, all_kept, all_set, all_from, all_length, replicated}

pub among_below : (n : ℕ) (s : Sort) (k : ℕ) → RefersBelow n s → Among k (parts_of s) → k < n
among_below n (sort.Int lo hi) k below a = absurd a
among_below n sort.Bool k below a = absurd a
among_below n (sort.Enumerated names numbers) k below a = absurd a
among_below n (sort.Sequence parts) k below a = in_parts n parts k below a
  where
    in_parts : (n' : ℕ) (ps : List Part) (j : ℕ) → PartsBelow n' ps → Among j (map (λ (p : Part). p.sort.0) ps) → j < n'
    in_parts n' [] j b h = absurd h
    in_parts n' (p ∷ ps) j b (inl e) = let first = b.0 in omega (arith, first, e)
    in_parts n' (p ∷ ps) j b (inr h) = in_parts n' ps j b.1 h
among_below n (sort.Choice parts) k below a = in_parts n parts k below a
  where
    in_parts : (n' : ℕ) (ps : List Part) (j : ℕ) → PartsBelow n' ps → Among j (map (λ (p : Part). p.sort.0) ps) → j < n'
    in_parts n' [] j b h = absurd h
    in_parts n' (p ∷ ps) j b (inl e) = let first = b.0 in omega (arith, first, e)
    in_parts n' (p ∷ ps) j b (inr h) = in_parts n' ps j b.1 h
among_below n (sort.SeqOf lo zero item) k below a = absurd a
among_below n (sort.SeqOf lo (suc hi) item) k below (inl e) = omega (arith, below, e)
among_below n (sort.SeqOf lo (suc hi) item) k below (inr h) = absurd h
among_below n sort.Opaque k below a = absurd a

-- ---- one type

parts_kept : (b : Bool) (o : Option Sort) (marks : List Bool) (k : ℕ) → is_marked marks k ≡ true → is_marked (parts_marked b o marks) k ≡ true
parts_kept false o marks k h = h
parts_kept true None marks k h = h
parts_kept true (Some s) marks k h = all_kept (parts_of s) marks k h

parts_from : (b : Bool) (o : Option Sort) (marks : List Bool) (k : ℕ) → is_marked (parts_marked b o marks) k ≡ true
    → ((s : Sort) → o ≡ Some s → Among k (parts_of s) → ⊥) → is_marked marks k ≡ true
parts_from false o marks k h out = h
parts_from true None marks k h out = h
parts_from true (Some s) marks k h out = either (all_from (parts_of s) marks k h)
  where
    either : (is_marked marks k ≡ true) ⊎ Among k (parts_of s) → is_marked marks k ≡ true
    either (inl e) = e
    either (inr a) = absurd (out s refl a)

parts_length : (b : Bool) (o : Option Sort) (marks : List Bool) → length (parts_marked b o marks) ≡ length marks
parts_length false o marks = refl
parts_length true None marks = refl
parts_length true (Some s) marks = all_length (parts_of s) marks

-- ---- all types

settled_kept : (sorts : List Sort) (n : ℕ) (marks : List Bool) (k : ℕ) → is_marked marks k ≡ true → is_marked (settled sorts n marks) k ≡ true
settled_kept sorts zero marks k h = h
settled_kept sorts (suc n) marks k h =
    settled_kept sorts n (parts_marked (is_marked marks n) (slice_get sorts n) marks) k (parts_kept (is_marked marks n) (slice_get sorts n) marks k h)

-- types past a number have the marks that they had
settled_above : (sorts : List Sort) → IsDownward sorts → (n : ℕ) (marks : List Bool) (k : ℕ) → n ≤ k → is_marked (settled sorts n marks) k ≡ true
    → is_marked marks k ≡ true
settled_above sorts down zero marks k most h = h
settled_above sorts down (suc n) marks k most h =
    parts_from (is_marked marks n) (slice_get sorts n) marks k
    (settled_above sorts down n (parts_marked (is_marked marks n) (slice_get sorts n) marks) k (omega (arith, most)) h)
    (λ s e a. let less = among_below n s k (down n s e) a in omega (arith, less, most))

settled_parts : (sorts : List Sort) → IsDownward sorts → (n : ℕ) (marks : List Bool) (t : ℕ) (s : Sort) (k : ℕ) → t < n
    → slice_get sorts t ≡ Some s → Among k (parts_of s) → t ≤ length marks → is_marked (settled sorts n marks) t ≡ true
    → is_marked (settled sorts n marks) k ≡ true
settled_parts sorts down zero marks t s k less e a long h = absurd (omega (arith, less))
settled_parts sorts down (suc n) marks t s k less e a long h =
    by_place (nat_same t n) (λ early. settled_parts sorts down n (parts_marked (is_marked marks n) (slice_get sorts n) marks) t s k early e a
    (let same = parts_length (is_marked marks n) (slice_get sorts n) marks in omega (arith, long, same)) h)
  where
    nat_same : (i j : ℕ) → (i ≡ j) ⊎ (i ≡ j → ⊥)
    nat_same zero zero = inl refl
    nat_same zero (suc j) = inr (λ q. omega (arith, q))
    nat_same (suc i) zero = inr (λ q. omega (arith, q))
    nat_same (suc i) (suc j) = next (nat_same i j)
      where
        next : (i ≡ j) ⊎ (i ≡ j → ⊥) → (suc i ≡ suc j) ⊎ (suc i ≡ suc j → ⊥)
        next (inl q) = inl (ap suc q)
        next (inr q) = inr (λ r. q (omega (arith, r)))

    last : t ≡ n → is_marked (settled sorts (suc n) marks) k ≡ true
    last same =
        let there : slice_get sorts n ≡ Some s = ap (slice_get sorts) (sym same) ∙ e in
        let small = among_below t s k (down t s e) a in
        let after : is_marked (parts_marked (is_marked marks n) (slice_get sorts n) marks) n ≡ true =
        settled_above sorts down n (parts_marked (is_marked marks n) (slice_get sorts n) marks) n (omega arith) (ap (is_marked (settled sorts (suc n) marks)) (sym same) ∙ h) in
        let before : is_marked marks n ≡ true =
        parts_from (is_marked marks n) (slice_get sorts n) marks n after (λ x e' a'. let less' = among_below n x n (down n x e') a' in omega (arith, less')) in
        settled_kept sorts n (parts_marked (is_marked marks n) (slice_get sorts n) marks) k
        (subst (λ o. is_marked (parts_marked (is_marked marks n) o marks) k ≡ true) (sym there)
        (subst (λ b. is_marked (parts_marked b (Some s) marks) k ≡ true) (sym before) (all_set (parts_of s) marks k a (omega (arith, small, long)))))

    by_place : (t ≡ n) ⊎ (t ≡ n → ⊥) → (t < n → is_marked (settled sorts (suc n) marks) k ≡ true) → is_marked (settled sorts (suc n) marks) k ≡ true
    by_place (inl same) early = last same
    by_place (inr other) early = early (by_less t n other less)
      where
        by_less : (i j : ℕ) → (i ≡ j → ⊥) → i < suc j → i < j
        by_less zero zero q l = absurd (q refl)
        by_less zero (suc j) q l = omega arith
        by_less (suc i) zero q l = absurd (omega (arith, l))
        by_less (suc i) (suc j) q l = let more = by_less i j (λ r. q (ap suc r)) (omega (arith, l)) in omega (arith, more)

within : {A : Type 0} (xs : List A) (k : ℕ) (x : A) → slice_get xs k ≡ Some x → k < length xs
within [] k x e = absurd (none-some x e)
within (y ∷ xs) zero x e = omega arith
within (y ∷ xs) (suc k) x e = let less = within xs k x e in omega (arith, less)

start_length : (model : Model) (ir : Ir) → length (all_marked (flat_map types_of_slot ir.slots) (replicate (length model.types) false)) ≡ length model.types
start_length model ir = all_length (flat_map types_of_slot ir.slots) (replicate (length model.types) false) ∙ replicated (length model.types)

-- what a needed type is made of is needed
pub needed_parts : (model : Model) (ir : Ir) → IsDownward model.types → (t : ℕ) (s : Sort) (k : ℕ) → slice_get model.types t ≡ Some s
    → Among k (parts_of s) → is_marked (needed model ir) t ≡ true → is_marked (needed model ir) k ≡ true
unfolding needed
needed_parts model ir down t s k e a h =
    let inside = within model.types t s e in
    let long = start_length model ir in
    settled_parts model.types down (length model.types) (all_marked (flat_map types_of_slot ir.slots) (replicate (length model.types) false)) t s k
    inside e a (omega (arith, inside, long)) h

-- the type of a slot is needed
pub needed_slot : (model : Model) (ir : Ir) (j : ℕ) (slot : SlotDef) (t : TypeId) → slice_get ir.slots j ≡ Some slot
    → slot.sort ≡ slot_sort.Shaped t → t.0 < length model.types → is_marked (needed model ir) t.0 ≡ true
unfolding needed
needed_slot model ir j slot t e is less =
    let long = replicated (length model.types) in
    settled_kept model.types (length model.types) (all_marked (flat_map types_of_slot ir.slots) (replicate (length model.types) false)) t.0
    (all_set (flat_map types_of_slot ir.slots) (replicate (length model.types) false) t.0
    (among_each types_of_slot ir.slots j slot t.0 e (subst (λ (x : SlotDef). Among t.0 (types_of_slot x)) (same_slot slot is) (inl refl)))
    (omega (arith, less, long)))
  where
    same_slot : (x : SlotDef) → x.sort ≡ slot_sort.Shaped t → record { name = x.name; sort = slot_sort.Shaped t } ≡ x
    same_slot x h = ap (λ s. record { name = x.name; sort = s }) (sym h)
