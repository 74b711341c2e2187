-- What a set of words has when one is put in.
use Rattle.std.proofs.Common.{◌≡◌, Bool, true, false, ◌&&◌, ◌||◌, List, [], ◌∷◌, ◌++◌, map, refl, sym, ap, ◌∙◌, if◌then◌else◌, true≢false, ℕ}
use Rattle.std.specs.List.{list_any}
use Rattle.std.proofs.lemmas.List.{map-append}
use Rattle.std.specs.Str.{bytes_eq}
use Rattle.std.specs.Cmp.Lexicographic.{bytes_decides}
use Rattle.og_dataview.specs.Met.{has_word}
use Rattle.og_dataview.specs.Exported.{has}
use Rattle.og_dataview.proofs.Meeting.{any_end, or_nothing}

yes_or : (b c : Bool) → b ≡ true → (b || c) ≡ true
yes_or true c e = refl
yes_or false c e = absurd (true≢false (sym e))

or_yes : (b : Bool) → (b || true) ≡ true
or_yes true = refl
or_yes false = refl

module _ {K V : Type 0} (f : K → V) (eq : K → K → Bool) (same : (x y : K) → eq x y ≡ true → f x ≡ f y) (p : V → Bool) where
  -- it is the first one, or one of the others
  step : (x : K) (ks : List K) (k : K) (b : Bool) → p (f k) ≡ true → eq k x ≡ b → (b || list_any (eq k) ks) ≡ true → (list_any (eq k) ks ≡ true → list_any p (map f ks) ≡ true) → (p (f x) || list_any p (map f ks)) ≡ true
  step x ks k true is e h others = yes_or (p (f x)) (list_any p (map f ks)) (ap p (sym (same k x e)) ∙ is)
  step x ks k false is e h others = ap (λ b. p (f x) || b) (others h) ∙ or_yes (p (f x))

  there : (ks : List K) (k : K) → list_any (eq k) ks ≡ true → p (f k) ≡ true → list_any p (map f ks) ≡ true
  there [] k h is = absurd (true≢false (sym h))
  there (x ∷ ks) k h is = step x ks k (eq k x) is refl h (λ on. there ks k on is)

  with_it : (ks : List K) (k : K) (c : Bool) → list_any (eq k) ks ≡ true → p (f k) ≡ c → list_any p (map f ks) ≡ (list_any p (map f ks) || c)
  with_it ks k false e g = sym (or_nothing (list_any p (map f ks)))
  with_it ks k true e g = let yes : list_any p (map f ks) ≡ true = there ks k e g in rw yes refl

  inserted : (ks : List K) (k : K) (b : Bool) → list_any (eq k) ks ≡ b → list_any p (map f (if b then ks else ks ++ k ∷ [])) ≡ (list_any p (map f ks) || p (f k))
  inserted ks k false e = ap (list_any p) (map-append f ks (k ∷ [])) ∙ any_end p (map f ks) (f k)
  inserted ks k true e = with_it ks k (p (f k)) e refl

  pub any_insert : (ks : List K) (k : K) → list_any p (map f (if list_any (eq k) ks then ks else ks ++ k ∷ [])) ≡ (list_any p (map f ks) || p (f k))
  any_insert ks k = inserted ks k (list_any (eq k) ks) refl

-- a test by a key is a test by what is kept of it
pub any_map : {K V : Type 0} (f : K → V) (p : V → Bool) (q : K → Bool) (ks : List K) → ((k : K) → p (f k) ≡ q k) → list_any p (map f ks) ≡ list_any q ks
any_map f p q [] h = refl
any_map f p q (k ∷ ks) h = λ i. h k i || any_map f p q ks h i

-- ---- words, and pairs of words, which are seen as their bytes

both_true : (a b : Bool) → (a && b) ≡ true → (a ≡ true) × (b ≡ true)
both_true true b h = (refl, h)
both_true false b h = absurd (true≢false (sym h))

module _ {W : Type 0} (items : W → List ℕ) where
  same_word : (x y : W) → bytes_eq (items x) (items y) ≡ true → items x ≡ items y
  same_word x y h = (bytes_decides (items x) (items y)).0 h

  same_pair : (x y : W × W) → (bytes_eq (items x.0) (items y.0) && bytes_eq (items x.1) (items y.1)) ≡ true → ◌≡◌ {A = List ℕ × List ℕ} (items x.0, items x.1) (items y.0, items y.1)
  same_pair x y h = let parts = both_true _ _ h in λ i. (same_word x.0 y.0 parts.0 i, same_word x.1 y.1 parts.1 i)

  pub insert_word : (ks : List W) (k : W) (bytes : List ℕ)
      → has_word (map items (if list_any (λ y. bytes_eq (items k) (items y)) ks then ks else ks ++ k ∷ [])) bytes ≡ (has_word (map items ks) bytes || bytes_eq bytes (items k))
  insert_word ks k bytes = any_insert items (λ x y. bytes_eq (items x) (items y)) same_word (bytes_eq bytes) ks k

  pub insert_pair : (ks : List (W × W)) (k : W × W) (a b : List ℕ)
      → has (map (λ pair. (items pair.0, items pair.1)) (if list_any (λ y. bytes_eq (items k.0) (items y.0) && bytes_eq (items k.1) (items y.1)) ks then ks else ks ++ k ∷ [])) a b
      ≡ (has (map (λ pair. (items pair.0, items pair.1)) ks) a b || (bytes_eq a (items k.0) && bytes_eq b (items k.1)))
  insert_pair ks k a b =
      any_insert (λ pair. (items pair.0, items pair.1)) (λ x y. bytes_eq (items x.0) (items y.0) && bytes_eq (items x.1) (items y.1)) same_pair (λ (pair : List ℕ × List ℕ). bytes_eq a pair.0 && bytes_eq b pair.1) ks k
