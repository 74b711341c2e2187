-- Names that differ, and what stands under a name.
use Rattle.std.proofs.Common.{◌≡◌, ℕ, zero, suc, ◌+◌, ◌<◌, List, [], ◌∷◌, ◌++◌, Bool, true, false, cond, ◌||◌, Some, map, length, slice_get, refl, sym, ap, ◌∙◌, arith}
use Rattle.std.specs.Prelude.{option_map}
use Rattle.std.specs.Str.{bytes_eq}
use Rattle.std.proofs.lemmas.Bool.{false≢true}
use Rattle.std.proofs.lemmas.Option.{none-some}
use Rattle.std.proofs.lemmas.Slice.Eq.{bytes_eq-Decides}
use Rattle.og_ir.specs.Cells.{◌>>=◌}
use Rattle.og_csubset.specs.Kinds.{place_in, is_in}
use Rattle.og_csubset.specs.Loading.{has_twice}
use Rattle.og_cemit.proofs.Tests.{false_by}
use Rattle.og_names.proofs.Truths.{either_second as or_second, neither_first as or_left, neither_second as or_right, same_value}

pub get_map : {A B : Type 0} (f : A → B) (xs : List A) (k : ℕ) → slice_get (map f xs) k ≡ option_map f (slice_get xs k)
get_map f [] k = refl
get_map f (x ∷ xs) zero = refl
get_map f (x ∷ xs) (suc k) = get_map f xs k

-- a place within has an item
pub there : {A : Type 0} (xs : List A) (k : ℕ) → k < length xs → (x : A) × (slice_get xs k ≡ Some x)
there [] k less = absurd (omega (arith, less))
there (x ∷ xs) zero less = (x, refl)
there (x ∷ xs) (suc k) less = there xs k (omega (arith, less))

-- an item stands within
pub within : {A : Type 0} (xs : List A) (k : ℕ) (x : A) → slice_get xs k ≡ Some x → k < length xs
within [] k x e = absurd (none-some x e)
within (y ∷ xs) zero x e = omega arith
within (y ∷ xs) (suc k) x e = let less = within xs k x e in omega (arith, less)

pub same_bytes : (xs : List ℕ) → bytes_eq xs xs ≡ true
same_bytes xs = (bytes_eq-Decides xs xs).1 refl

pub equal_bytes : (xs ys : List ℕ) → bytes_eq xs ys ≡ true → xs ≡ ys
equal_bytes xs ys h = (bytes_eq-Decides xs ys).0 h

pub other_bytes : (xs ys : List ℕ) → (xs ≡ ys → ⊥) → bytes_eq xs ys ≡ false
other_bytes xs ys h = false_by (bytes_eq xs ys) (λ e. h (equal_bytes xs ys e))

-- an item is in
pub is_in_at : (names : List (List ℕ)) (k : ℕ) (name : List ℕ) → slice_get names k ≡ Some name → is_in name names ≡ true
is_in_at [] k name e = absurd (none-some name e)
is_in_at (x ∷ names) zero name e = ap (λ b. b || is_in name names) (ap (bytes_eq name) (same_value x name e) ∙ same_bytes name)
is_in_at (x ∷ names) (suc k) name e = or_second (bytes_eq name x) (is_in name names) (is_in_at names k name e)

-- where names differ, an item's name is found at its place
pub place_at_self : (names : List (List ℕ)) (k : ℕ) (name : List ℕ) → has_twice names ≡ false → slice_get names k ≡ Some name
    → place_in name names ≡ Some k
place_at_self [] k name h e = absurd (none-some name e)
place_at_self (x ∷ names) zero name h e =
    ap (λ b. cond b (Some 0) (place_in name names >>= λ j. Some (j + 1))) (ap (bytes_eq name) (same_value x name e) ∙ same_bytes name)
place_at_self (x ∷ names) (suc k) name h e =
    let later = is_in_at names k name e in
    let other : bytes_eq name x ≡ false =
    other_bytes name x (λ same. false≢true (sym (or_left (is_in x names) (has_twice names) h) ∙ ap (λ n. is_in n names) (sym same) ∙ later)) in
    let next : k + 1 ≡ suc k = omega arith in
    ap (λ b. cond b (Some 0) (place_in name names >>= λ j. Some (j + 1))) other
    ∙ ap (λ o. o >>= λ j. Some (j + 1)) (place_at_self names k name (or_right (is_in x names) (has_twice names) h) e)
    ∙ ap Some next

-- what is in an append
pub is_in-append : (name : List ℕ) (xs ys : List (List ℕ)) → is_in name (xs ++ ys) ≡ (is_in name xs || is_in name ys)
is_in-append name [] ys = refl
is_in-append name (x ∷ xs) ys = ap (λ b. bytes_eq name x || b) (is_in-append name xs ys) ∙ or_assoc (bytes_eq name x) (is_in name xs) (is_in name ys)
  where
    or_assoc : (a b c : Bool) → (a || (b || c)) ≡ ((a || b) || c)
    or_assoc true b c = refl
    or_assoc false b c = refl

-- names that differ, of two lists
pub record Differ (xs ys : List (List ℕ)) : Type 0 where
  pub left : has_twice xs ≡ false
  pub right : has_twice ys ≡ false
  pub apart : (name : List ℕ) → is_in name xs ≡ true → is_in name ys ≡ false

pub differ_parts : (xs ys : List (List ℕ)) → has_twice (xs ++ ys) ≡ false → Differ xs ys
differ_parts [] ys h = record { left = refl; right = h; apart = λ name e. absurd (false≢true e) }
differ_parts (x ∷ xs) ys h =
    let rest = differ_parts xs ys (or_right (is_in x (xs ++ ys)) (has_twice (xs ++ ys)) h) in
    let alone : (is_in x xs || is_in x ys) ≡ false = sym (is_in-append x xs ys) ∙ or_left (is_in x (xs ++ ys)) (has_twice (xs ++ ys)) h in
    record {
      left = ap (λ b. b || has_twice xs) (or_left (is_in x xs) (is_in x ys) alone) ∙ rest.left;
      right = rest.right;
      apart = λ name e. by_case name (bytes_eq name x) refl (or_right (is_in x xs) (is_in x ys) alone) rest.apart e;
    }
  where
    by_case : (name : List ℕ) (b : Bool) → bytes_eq name x ≡ b → is_in x ys ≡ false
        → ((n : List ℕ) → is_in n xs ≡ true → is_in n ys ≡ false) → (bytes_eq name x || is_in name xs) ≡ true → is_in name ys ≡ false
    by_case name true e not_there more h = ap (λ n. is_in n ys) (equal_bytes name x e) ∙ not_there
    by_case name false e not_there more h = more name (sym (ap (λ b. b || is_in name xs) e) ∙ h)
