-- What holds of each element of a list, or of each two, and tests of lists.
use Rattle.std.proofs.Common.{◌≡◌, ℕ, ◌<◌, ◌≤◌, Bool, true, false, not, ◌&&◌, ◌||◌, nat_lt, nat_eq, List, [], ◌∷◌, ◌++◌, map, refl, ap, arith, cond}
use Rattle.std.specs.List.{AllByRecursion, list_all, list_any, filter, flat_map}
use Rattle.std.proofs.lemmas.Bool.Decides.{nat_tests}
use Rattle.og_types.specs.Table.{all_differ}
use Rattle.og_names.proofs.Truths.{both_true as both}

pub neither : (a b : Bool) → a || b ≡ false → (a ≡ false) × (b ≡ false)
neither true b h = cc
neither false b h = (refl, h)

-- the first holds, so the second does not
pub not_second : (a b : Bool) → a && b ≡ false → a ≡ true → b ≡ false
not_second true b h e = h
not_second false b h e = cc

pub by_not : (a : Bool) → (a ≡ true → ⊥) → a ≡ false
by_not true h = absurd (h refl)
by_not false h = refl

pub less_test : (m n : ℕ) → m < n → nat_lt m n ≡ true
less_test m n h = grind (arith, nat_tests)

pub less_from : (m n : ℕ) → nat_lt m n ≡ true → m < n
less_from m n h = grind (arith, nat_tests)

pub most_from : (m n : ℕ) → nat_lt m n ≡ false → n ≤ m
most_from m n h = grind (arith, nat_tests)

pub same_from : (m n : ℕ) → nat_eq m n ≡ true → m ≡ n
same_from m n h = grind (arith, nat_tests)

pub same_test : (m n : ℕ) → m ≡ n → nat_eq m n ≡ true
same_test m n h = grind (arith, nat_tests)

-- ---- each element

pub all_so : {X : Type 0} (p : X → Bool) (xs : List X) → AllByRecursion (λ x. p x ≡ true) xs → list_all p xs ≡ true
all_so p [] h = refl
all_so p (x ∷ xs) h = both (p x) (list_all p xs) h.0 (all_so p xs h.1)

pub each_so : {X : Type 0} (P : X → Type 0) (xs : List X) → ((x : X) → P x) → AllByRecursion P xs
each_so P [] h = tt
each_so P (x ∷ xs) h = (h x, each_so P xs h)

pub each_map : {X Y : Type 0} (h : Y → X) (P : X → Type 0) (ys : List Y) → AllByRecursion (λ y. P (h y)) ys → AllByRecursion P (map h ys)
each_map h P [] all = tt
each_map h P (y ∷ ys) all = (all.0, each_map h P ys all.1)

pub map_each : {X Y : Type 0} (h : Y → X) (P : X → Type 0) (ys : List Y) → AllByRecursion P (map h ys) → AllByRecursion (λ y. P (h y)) ys
map_each h P [] all = tt
map_each h P (y ∷ ys) all = (all.0, map_each h P ys all.1)

pub each_more : {X : Type 0} (P Q : X → Type 0) (xs : List X) → ((x : X) → P x → Q x) → AllByRecursion P xs → AllByRecursion Q xs
each_more P Q [] h all = tt
each_more P Q (x ∷ xs) h all = (h x all.0, each_more P Q xs h all.1)

pub each_two : {X : Type 0} (P Q : X → Type 0) (xs : List X) → AllByRecursion P xs → AllByRecursion Q xs → AllByRecursion (λ x. P x × Q x) xs
each_two P Q [] p q = tt
each_two P Q (x ∷ xs) p q = ((p.0, q.0), each_two P Q xs p.1 q.1)

pub each_both : {X : Type 0} (P : X → Type 0) (xs ys : List X) → AllByRecursion P xs → AllByRecursion P ys → AllByRecursion P (xs ++ ys)
each_both P [] ys p q = q
each_both P (x ∷ xs) ys p q = (p.0, each_both P xs ys p.1 q)

pub front_of : {X : Type 0} (P : X → Type 0) (xs ys : List X) → AllByRecursion P (xs ++ ys) → AllByRecursion P xs
front_of P [] ys all = tt
front_of P (x ∷ xs) ys all = (all.0, front_of P xs ys all.1)

pub back_of : {X : Type 0} (P : X → Type 0) (xs ys : List X) → AllByRecursion P (xs ++ ys) → AllByRecursion P ys
back_of P [] ys all = all
back_of P (x ∷ xs) ys all = back_of P xs ys all.1

pub each_pieces : {X Y : Type 0} (P : Y → Type 0) (f : X → List Y) (xs : List X) → AllByRecursion (λ x. AllByRecursion P (f x)) xs → AllByRecursion P (flat_map f xs)
each_pieces P f [] all = tt
each_pieces P f (x ∷ xs) all = each_both P (f x) (flat_map f xs) all.0 (each_pieces P f xs all.1)

pub pieces_each : {X Y : Type 0} (P : Y → Type 0) (f : X → List Y) (xs : List X) → AllByRecursion P (flat_map f xs) → AllByRecursion (λ x. AllByRecursion P (f x)) xs
pieces_each P f [] all = tt
pieces_each P f (x ∷ xs) all = (front_of P (f x) (flat_map f xs) all, pieces_each P f xs (back_of P (f x) (flat_map f xs) all))

keeps_cond : {X : Type 0} (P : X → Type 0) (b : Bool) (x : X) (xs : List X) → P x → AllByRecursion P xs → AllByRecursion P (cond b (x ∷ xs) xs)
keeps_cond P true x xs p all = (p, all)
keeps_cond P false x xs p all = all

pub each_filter : {X : Type 0} (P : X → Type 0) (test : X → Bool) (xs : List X) → AllByRecursion P xs → AllByRecursion P (filter test xs)
each_filter P test [] all = tt
each_filter P test (x ∷ xs) all = keeps_cond P (test x) x (filter test xs) all.0 (each_filter P test xs all.1)

-- what passes the test
pub passed : {X : Type 0} (test : X → Bool) (xs : List X) → AllByRecursion (λ x. test x ≡ true) (filter test xs)
passed test [] = tt
passed {X = X} test (x ∷ xs) = by (test x) refl (passed test xs)
  where
    by : (b : Bool) → test x ≡ b → AllByRecursion (λ (y : X). test y ≡ true) (filter test xs) → AllByRecursion (λ (y : X). test y ≡ true) (cond b (x ∷ filter test xs) (filter test xs))
    by true e all = (e, all)
    by false e all = all

-- nothing of a list without pieces
pub none_of_pieces : {X Y : Type 0} (f : X → List Y) (xs : List X) → flat_map f xs ≡ [] → AllByRecursion (λ x. f x ≡ []) xs
none_of_pieces f [] e = tt
none_of_pieces {X = X} {Y = Y} f (x ∷ xs) e = by (f x) refl e (λ (h : flat_map f xs ≡ []). none_of_pieces f xs h)
  where
    by : (ys : List Y) → f x ≡ ys → ys ++ flat_map f xs ≡ [] → (flat_map f xs ≡ [] → AllByRecursion (λ (z : X). f z ≡ []) xs) → AllByRecursion (λ (z : X). f z ≡ []) (x ∷ xs)
    by [] is h more = (is, more h)
    by (y ∷ ys) is h more = cc

pub none_before : {X : Type 0} (xs ys : List X) → xs ++ ys ≡ [] → (xs ≡ []) × (ys ≡ [])
none_before [] ys h = (refl, h)
none_before (x ∷ xs) ys h = cc

-- ---- each two elements

-- each is so to each behind it
abbrev pub Apart : {X : Type 0} → (X → X → Type 0) → List X → Type 0
Apart R [] = Unit {0}
Apart R (x ∷ xs) = AllByRecursion (R x) xs × Apart R xs

pub apart_map : {X Y : Type 0} (R : X → X → Type 0) (h : Y → X) (ys : List Y) → Apart (λ y z. R (h y) (h z)) ys → Apart R (map h ys)
apart_map R h [] all = tt
apart_map R h (y ∷ ys) all = (each_map h (R (h y)) ys all.0, apart_map R h ys all.1)

pub map_apart : {X Y : Type 0} (R : X → X → Type 0) (h : Y → X) (ys : List Y) → Apart R (map h ys) → Apart (λ y z. R (h y) (h z)) ys
map_apart R h [] all = tt
map_apart R h (y ∷ ys) all = (map_each h (R (h y)) ys all.0, map_apart R h ys all.1)

pub apart_filter : {X : Type 0} (R : X → X → Type 0) (test : X → Bool) (xs : List X) → Apart R xs → Apart R (filter test xs)
apart_filter R test [] all = tt
apart_filter {X = X} R test (x ∷ xs) all = by (test x) (each_filter (R x) test xs all.0) (apart_filter R test xs all.1)
  where
    by : (b : Bool) → AllByRecursion (R x) (filter test xs) → Apart R (filter test xs) → Apart R (cond b (x ∷ filter test xs) (filter test xs))
    by true here more = (here, more)
    by false here more = more

-- where each is so itself, what follows from being so to each other
pub apart_more : {X : Type 0} (P : X → Type 0) (R S : X → X → Type 0) (xs : List X) → ((x y : X) → P x → P y → R x y → S x y) → AllByRecursion P xs → Apart R xs → Apart S xs
apart_more P R S [] h each all = tt
apart_more P R S (x ∷ xs) h each all =
    (each_more (λ y. P y × R x y) (S x) xs (λ y z. h x y each.0 z.0 z.1) (each_two P (R x) xs each.1 all.0), apart_more P R S xs h each.1 all.1)

none_same : {X : Type 0} (p : X → Bool) (xs : List X) → AllByRecursion (λ x. p x ≡ false) xs → list_any p xs ≡ false
none_same p [] all = refl
none_same p (x ∷ xs) all = rw (all.0) (none_same p xs all.1)

pub apart_differ : {X : Type 0} (same : X → X → Bool) (xs : List X) → Apart (λ x y. same x y ≡ false) xs → all_differ same xs ≡ true
apart_differ same [] all = refl
apart_differ same (x ∷ xs) all = both (not (list_any (same x) xs)) (all_differ same xs) (ap not (none_same (same x) xs all.0)) (apart_differ same xs all.1)
