-- The first item of a name, by its place and by itself.
use Rattle.std.proofs.Common.{◌≡◌, ℕ, suc, ◌+◌, List, [], ◌∷◌, map, Bool, true, false, cond, Option, Some, None, slice_get, unwrap_or, refl, ap, ◌∙◌, subst, arith}
use Rattle.std.specs.List.{find}
use Rattle.std.specs.Str.{bytes_eq}
use Rattle.std.proofs.lemmas.Option.{none-some}
use Rattle.og_ir.specs.Cells.{◌>>=◌}
use Rattle.og_csubset.specs.Kinds.{place_in}

-- the item of a name stands at this place
pub record Named {A : Type 0} (name_of : A → List ℕ) (xs : List A) (name : List ℕ) (k : ℕ) : Type 0 where
  pub one : A
  pub there : slice_get xs k ≡ Some one
  pub first : find (λ x. bytes_eq name (name_of x)) xs ≡ Some one

module _ {A : Type 0} (name_of : A → List ℕ) (name : List ℕ) where
  next : (x : A) (xs : List A) (i k : ℕ) → bytes_eq name (name_of x) ≡ false → i + 1 ≡ k → Named name_of xs name i → Named name_of (x ∷ xs) name k
  next x xs i k is e inner =
      let place : suc i ≡ k = omega (arith, e) in
      let N : ℕ → Type 0 = λ n. Named name_of (x ∷ xs) name n in
      subst N place (record {
        one = inner.one;
        there = inner.there;
        first = ap (λ b. cond b (Some x) (find (λ y. bytes_eq name (name_of y)) xs)) is ∙ inner.first;
      })

  here : (x : A) (xs : List A) (k : ℕ) → bytes_eq name (name_of x) ≡ true → 0 ≡ k → Named name_of (x ∷ xs) name k
  here x xs k is e =
      let N : ℕ → Type 0 = λ n. Named name_of (x ∷ xs) name n in
      subst N e (record { one = x; there = refl; first = ap (λ b. cond b (Some x) (find (λ y. bytes_eq name (name_of y)) xs)) is })

  later : (x : A) (xs : List A) (k : ℕ) (o : Option ℕ) → bytes_eq name (name_of x) ≡ false → place_in name (map name_of xs) ≡ o
      → (o >>= λ i. Some (i + 1)) ≡ Some k → ((i : ℕ) → place_in name (map name_of xs) ≡ Some i → Named name_of xs name i) → Named name_of (x ∷ xs) name k
  later x xs k None is place e inner = absurd (none-some k e)
  later x xs k (Some i) is place e inner = next x xs i k is (ap (λ o. unwrap_or o 0) e) (inner i place)

  by_test : (x : A) (xs : List A) (k : ℕ) (b : Bool) → bytes_eq name (name_of x) ≡ b → cond b (Some 0) (place_in name (map name_of xs) >>= λ i. Some (i + 1)) ≡ Some k
      → ((i : ℕ) → place_in name (map name_of xs) ≡ Some i → Named name_of xs name i) → Named name_of (x ∷ xs) name k
  by_test x xs k true is e inner = here x xs k is (ap (λ o. unwrap_or o 0) e)
  by_test x xs k false is e inner = later x xs k (place_in name (map name_of xs)) is refl e inner

  pub named : (xs : List A) (k : ℕ) → place_in name (map name_of xs) ≡ Some k → Named name_of xs name k
  named [] k e = absurd (none-some k e)
  named (x ∷ xs) k e = by_test x xs k (bytes_eq name (name_of x)) refl e (named xs)

  none_by : (x : A) (xs : List A) (b : Bool) (o : Option ℕ) → place_in name (map name_of xs) ≡ o → cond b (Some 0) (o >>= λ i. Some (i + 1)) ≡ None
      → (place_in name (map name_of xs) ≡ None → find (λ y. bytes_eq name (name_of y)) xs ≡ None) → cond b (Some x) (find (λ y. bytes_eq name (name_of y)) xs) ≡ None
  none_by x xs true o is e inner = cc
  none_by x xs false None is e inner = inner is
  none_by x xs false (Some i) is e inner = cc

  pub none_named : (xs : List A) → place_in name (map name_of xs) ≡ None → find (λ y. bytes_eq name (name_of y)) xs ≡ None
  none_named [] e = refl
  none_named (x ∷ xs) e = none_by x xs (bytes_eq name (name_of x)) (place_in name (map name_of xs)) refl e (none_named xs)
