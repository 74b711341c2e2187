-- Two ways to an answer, of which both break by the same trouble, or both come to answers that belong together.
use Rattle.std.proofs.Common.{◌≡◌, ℕ, Option, Some, None, Result, Ok, Err, refl, sym, ap, subst}
use Rattle.og_ir.specs.Arithmetic.{Trouble, Index, ◌>>=◌, or_else}

abbrev pub Alike : {A B : Type 0} → (A → B → Type 0) → Result A Trouble → Result B Trouble → Type 0
Alike R (Ok x) (Ok y) = R x y
Alike R (Ok x) (Err u) = ⊥
Alike R (Err t) (Ok y) = ⊥
Alike R (Err t) (Err u) = t ≡ u

-- going on from answers that belong together
pub alike_bind : {A B C D : Type 0} (R : A → B → Type 0) (Q : C → D → Type 0) (r : Result A Trouble) (s : Result B Trouble) (f : A → Result C Trouble) (g : B → Result D Trouble)
    → Alike R r s → ((x : A) (y : B) → R x y → Alike Q (f x) (g y)) → Alike Q (r >>= f) (s >>= g)
alike_bind R Q (Ok x) (Ok y) f g h k = k x y h
alike_bind R Q (Ok x) (Err u) f g h k = absurd h
alike_bind R Q (Err t) (Ok y) f g h k = absurd h
alike_bind R Q (Err t) (Err u) f g h k = h

alike_eq : {A : Type 0} (r : Result A Trouble) → Alike (λ x y. x ≡ y) r r
alike_eq (Ok x) = refl
alike_eq (Err t) = refl

pub alike_of : {A : Type 0} (r s : Result A Trouble) → r ≡ s → Alike (λ x y. x ≡ y) r s
alike_of r s e = subst (λ t. Alike (λ x y. x ≡ y) r t) e (alike_eq r)

pub same_of : {A : Type 0} (r s : Result A Trouble) → Alike (λ x y. x ≡ y) r s → r ≡ s
same_of (Ok x) (Ok y) h = ap Ok h
same_of (Ok x) (Err u) h = absurd h
same_of (Err t) (Ok y) h = absurd h
same_of (Err t) (Err u) h = ap Err h

-- going on from the same answer
pub alike_same : {A C D : Type 0} (Q : C → D → Type 0) (r s : Result A Trouble) (f : A → Result C Trouble) (g : A → Result D Trouble) → r ≡ s
    → ((x : A) → Alike Q (f x) (g x)) → Alike Q (r >>= f) (s >>= g)
alike_same Q r s f g e k = subst (λ t. Alike Q (r >>= f) (t >>= g)) e (here r)
  where
    here : (r : _) → Alike Q (r >>= f) (r >>= g)
    here (Ok x) = k x
    here (Err t) = refl

-- the second way has come to its answer
pub alike_map : {A B C D : Type 0} (R : A → B → Type 0) (Q : C → D → Type 0) (r : Result A Trouble) (s : Result B Trouble) (f : A → C) (g : B → D) → Alike R r s
    → ((x : A) (y : B) → R x y → Q (f x) (g y)) → Alike Q (r >>= λ x. Ok (f x)) (s >>= λ y. Ok (g y))
alike_map R Q r s f g h k = alike_bind R Q r s (λ x. Ok (f x)) (λ y. Ok (g y)) h k

pub alike_first : {A B C : Type 0} (R : A → B → Type 0) (Q : C → B → Type 0) (r : Result A Trouble) (s : Result B Trouble) (f : A → C) → Alike R r s
    → ((x : A) (y : B) → R x y → Q (f x) y) → Alike Q (r >>= λ x. Ok (f x)) s
alike_first R Q (Ok x) (Ok y) f h k = k x y h
alike_first R Q (Ok x) (Err u) f h k = absurd h
alike_first R Q (Err t) (Ok y) f h k = absurd h
alike_first R Q (Err t) (Err u) f h k = h

-- what is there goes on
pub alike_there : {A C D : Type 0} (Q : C → D → Type 0) (o : Option A) (x : A) (t : Trouble) (f : A → Result C Trouble) (s : Result D Trouble) → o ≡ Some x → Alike Q (f x) s
    → Alike Q (or_else o t >>= f) s
alike_there Q o x t f s e h = subst (λ p. Alike Q (or_else p t >>= f) s) (sym e) h

-- an index that is not there breaks both
pub alike_index : {C D : Type 0} (Q : C → D → Type 0) (o : Option ℕ) (f : ℕ → Result C Trouble) (w : ℕ → ℕ) (h : ℕ → Result D Trouble)
    → ((k : ℕ) → o ≡ Some k → Alike Q (f k) (h (w k))) → Alike Q (or_else o Index >>= f) ((or_else o Index >>= λ k. Ok (w k)) >>= h)
alike_index Q None f w h go = refl
alike_index Q (Some k) f w h go = go k refl

pub bind_assoc : {A B C : Type 0} (r : Result A Trouble) (f : A → Result B Trouble) (g : B → Result C Trouble) → ((r >>= f) >>= g) ≡ (r >>= λ x. f x >>= g)
bind_assoc (Ok x) f g = refl
bind_assoc (Err t) f g = refl

pub alike_on : {C D : Type 0} (Q : C → D → Type 0) (r : Result C Trouble) (s t : Result D Trouble) → s ≡ t → Alike Q r t → Alike Q r s
alike_on Q r s t e h = subst (λ u. Alike Q r u) (sym e) h
