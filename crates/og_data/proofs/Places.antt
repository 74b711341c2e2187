-- The places of types in an order.
use Rattle.std.proofs.Common.{◌≡◌, ℕ, zero, suc, ◌+◌, ◌-◌, ◌≤◌, ◌<◌, Bool, true, false, not, ◌&&◌, ◌==◌, cond, nat_lt, List, [], ◌∷◌, ◌++◌, length, drop, get_or, set, filter, slice_get, Option, Some, None, unwrap_or, refl, sym, ap, ◌∙◌, arith, ◌⊎◌, inl, inr, subst, eqb-true}
use Rattle.std.specs.List.{range_with_len, list_all}
use Rattle.std.proofs.lemmas.Bool.{lt-ltb, ltb-true, ne_eqb, eqb-false}
use Rattle.std.proofs.Math.ListN.{replicate}
use Rattle.std.proofs.lemmas.List.{at_drop_more, at_drop_all, length-replicate, get_or-replicate}
use Rattle.std.proofs.lemmas.List.Folds.{list_all-append}
use Rattle.std.proofs.lemmas.Option.{slice_get_within, get_or_from_slice_get, slice_get-get_or}
use Rattle.og_types.specs.declared.TypeId.{TypeId}
use Rattle.og_flat.specs.declared.flat.Flat.{Flat}
use Rattle.og_names.proofs.Truths.{both_true, both_first, both_second}
use Rattle.og_dataview.specs.View.{is_deeper, deeper, is_own, is_supported, opaque, up_to, in_order, all_nodes, greatest_depth, place_in, same_as, type_number}
use Rattle.og_dataview.proofs.Tables.{none_behind}
use Rattle.og_data.specs.Order.{Placed, AreNumbers}
use Rattle.og_datatypes.proofs.Lists.{below_or_not}

-- behind all others
pub placed_none : (order : List ℕ) (nodes count : ℕ) (numbers : List ℕ) → count ≡ length order → numbers ≡ replicate nodes count → Placed order nodes (count - 0) numbers
placed_none order nodes count numbers e is = subst (λ n. Placed order nodes n numbers) (let z : length order ≡ count - 0 = omega (arith, e) in z) (record {
  long = ap length is ∙ length-replicate nodes count;
  each = λ p lt. ap (λ xs. slice_get xs p) is ∙ slice_get-get_or (replicate nodes count) p count (omega (arith, lt, length-replicate nodes count))
      ∙ ap Some (get_or-replicate nodes p count count lt ∙ behind p);
})
  where
    behind : (p : ℕ) → count ≡ length order + place_in (drop (length order) order) p
    behind p =
        let le : length order ≤ length order = omega arith in
        let z : count ≡ length order + 0 = omega (arith, e) in
        z ∙ sym (at_drop_all (λ ys. length order + place_in ys p) order (length order) le)

-- ---- one place

got_here : (xs : List ℕ) (q x : ℕ) → q < length xs → slice_get (set xs q x) q ≡ Some x
got_here [] q x lt = absurd (omega (arith, lt))
got_here (y ∷ ys) zero x lt = refl
got_here (y ∷ ys) (suc q) x lt = got_here ys q x (omega (arith, lt))

got_there : (xs : List ℕ) (q x p : ℕ) → (q ≡ p → ⊥) → slice_get (set xs q x) p ≡ slice_get xs p
got_there [] q x p ne = refl
got_there (y ∷ ys) zero x zero ne = absurd (ne refl)
got_there (y ∷ ys) zero x (suc p) ne = refl
got_there (y ∷ ys) (suc q) x zero ne = refl
got_there (y ∷ ys) (suc q) x (suc p) ne = got_there ys q x p (λ e. ne (ap suc e))

length_set : (xs : List ℕ) (q x : ℕ) → length (set xs q x) ≡ length xs
length_set [] q x = refl
length_set (y ∷ ys) zero x = refl
length_set (y ∷ ys) (suc q) x = ap suc (length_set ys q x)

-- the place of a type, from one place on
place_from : (order : List ℕ) (at q p : ℕ) → slice_get order at ≡ Some q → at + place_in (drop at order) p ≡ at + cond (not (q == p)) (1 + place_in (drop (at + 1) order) p) 0
place_from order at q p there =
    at_drop_more (λ ys. at + place_in ys p) order at q (slice_get_within order at q there)
    ∙ ap (λ x. at + place_in (x ∷ drop (at + 1) order) p) (get_or_from_slice_get order at q q there)

one_less : (order : List ℕ) (at q p : ℕ) → slice_get order at ≡ Some q → (q ≡ p → ⊥) → suc at + place_in (drop (suc at) order) p ≡ at + place_in (drop at order) p
one_less order at q p there ne =
    let n : at + 1 ≡ suc at = omega arith in
    let here : at + place_in (drop at order) p ≡ at + (1 + place_in (drop (at + 1) order) p) =
    place_from order at q p there ∙ ap (λ b. at + cond (not b) (1 + place_in (drop (at + 1) order) p) 0) (ne_eqb q p ne)
    in
    let same : place_in (drop (at + 1) order) p ≡ place_in (drop (suc at) order) p = ap (λ k. place_in (drop k order) p) n in
    omega (arith, here, same)

at_itself : (order : List ℕ) (at q p : ℕ) → slice_get order at ≡ Some q → (q == p) ≡ true → at ≡ at + place_in (drop at order) p
at_itself order at q p there e =
    let here : at + place_in (drop at order) p ≡ at + 0 =
    place_from order at q p there ∙ ap (λ b. at + cond (not b) (1 + place_in (drop (at + 1) order) p) 0) e
    in
    omega (arith, here)

pub placed_in : (order : List ℕ) (nodes at q : ℕ) (old new : List ℕ) → slice_get order at ≡ Some q → q < length old → new ≡ set old q at → Placed order nodes (suc at) old → Placed order nodes at new
placed_in order nodes at q old new there lt is before = record {
  long = ap length is ∙ length_set old q at ∙ before.long;
  each = λ p below. ap (λ xs. slice_get xs p) is ∙ by p below (q == p) refl;
}
  where
    by : (p : ℕ) → p < nodes → (b : Bool) → (q == p) ≡ b → slice_get (set old q at) p ≡ Some (at + place_in (drop at order) p)
    by p below true e = ap (slice_get (set old q at)) (sym (eqb-true q p e)) ∙ got_here old q at lt ∙ ap Some (at_itself order at q p there e)
    by p below false e = got_there old q at p (eqb-false q p e) ∙ before.each p below ∙ ap Some (one_less order at q p there (eqb-false q p e))

pub placed_out : (order : List ℕ) (nodes at q : ℕ) (numbers : List ℕ) → slice_get order at ≡ Some q → length numbers ≤ q → Placed order nodes (suc at) numbers → Placed order nodes at numbers
placed_out order nodes at q numbers there le before = record {
  long = before.long;
  each = λ p below. before.each p below ∙ ap Some (one_less order at q p there (λ e. absurd (omega (arith, e, below, le, before.long))));
}

-- ---- what the order lacks

-- all are below a number
abbrev pub all_below : ℕ → List ℕ → Bool
all_below n xs = list_all (λ q. nat_lt q n) xs

lacks : (n : ℕ) (xs : List ℕ) (p : ℕ) → all_below n xs ≡ true → n ≤ p → place_in xs p ≡ length xs
lacks n [] p h le = refl
lacks n (x ∷ xs) p h le =
    let lt : x < n = ltb-true x n (both_first (nat_lt x n) (all_below n xs) h) in
    let ne : x ≡ p → ⊥ = λ e. absurd (omega (arith, e, lt, le)) in
    let rest : place_in xs p ≡ length xs = lacks n xs p (both_second (nat_lt x n) (all_below n xs) h) le in
    let one : 1 + place_in xs p ≡ suc (length xs) = omega (arith, rest) in
    ap (λ b. cond (not b) (1 + place_in xs p) 0) (ne_eqb x p ne) ∙ one

kept_below : (n : ℕ) (test : ℕ → Bool) (xs : List ℕ) → all_below n xs ≡ true → all_below n (filter test xs) ≡ true
kept_below n test [] h = refl
kept_below n test (x ∷ xs) h = by (test x) (kept_below n test xs (both_second _ _ h))
  where
    by : (b : Bool) → all_below n (filter test xs) ≡ true → all_below n (cond b (x ∷ filter test xs) (filter test xs)) ≡ true
    by true rest = both_true _ _ (both_first _ _ h) rest
    by false rest = rest

range_below : (n a k : ℕ) → a + k ≤ n → all_below n (range_with_len a k) ≡ true
range_below n a zero le = refl
range_below n a (suc k) le = both_true _ _ (lt-ltb a n (omega (arith, le))) (range_below n (a + 1) k (omega (arith, le)))

nodes_below : (flat : Flat) → all_below (length flat.nodes) (all_nodes flat) ≡ true
nodes_below flat = range_below (length flat.nodes) 0 (length flat.nodes) (omega arith)

joined_below : (n : ℕ) (xs ys : List ℕ) → all_below n xs ≡ true → all_below n ys ≡ true → all_below n (xs ++ ys) ≡ true
joined_below n xs ys h g = list_all-append (λ q. nat_lt q n) xs ys ∙ both_true _ _ h g

up_to_below : (flat : Flat) (depth : ℕ) → all_below (length flat.nodes) (up_to flat depth) ≡ true
up_to_below flat zero = refl
up_to_below flat (suc depth) =
    joined_below (length flat.nodes) (up_to flat depth) (deeper flat depth) (up_to_below flat depth) (kept_below (length flat.nodes) (is_deeper flat depth) (all_nodes flat) (nodes_below flat))

order_below : (flat : Flat) → all_below (length flat.nodes) (in_order flat) ≡ true
order_below flat =
    joined_below (length flat.nodes) (up_to flat greatest_depth) (opaque flat) (up_to_below flat greatest_depth)
    (kept_below (length flat.nodes) (λ p. is_own flat p && not (is_supported flat p)) (all_nodes flat) (nodes_below flat))

pub numbers_are : (flat : Flat) (order numbers : List ℕ) (count nodes : ℕ) → order ≡ in_order flat → count ≡ length order → nodes ≡ length flat.nodes → Placed order nodes 0 numbers
    → AreNumbers (in_order flat) count numbers
numbers_are flat order numbers count nodes is long many placed = record { each = λ p. by p (below_or_not p nodes) }
  where
    by : (p : ℕ) → (p < nodes) ⊎ (nodes ≤ p) → unwrap_or (slice_get numbers p) count ≡ place_in (in_order flat) p
    by p (inl lt) =
        let z : 0 + place_in (drop 0 order) p ≡ place_in order p = omega arith in
        ap (λ o. unwrap_or o count) (placed.each p lt) ∙ z ∙ ap (λ xs. place_in xs p) is
    by p (inr le) =
        ap (λ o. unwrap_or o count) (none_behind numbers p (omega (arith, le, placed.long))) ∙ long ∙ ap length is
        ∙ sym (lacks (length flat.nodes) (in_order flat) p (order_below flat) (omega (arith, le, many)))

abbrev id : ℕ → TypeId
id n = record { 0 = n }

pub number_is : (flat : Flat) (numbers slice : List ℕ) (count own p n : ℕ) → AreNumbers (in_order flat) count numbers → slice ≡ numbers → own ≡ same_as flat p
    → n ≡ unwrap_or (slice_get slice own) count → id n ≡ type_number flat p
number_is flat numbers slice count own p n are same own_is is = ap id (is ∙ (λ i. unwrap_or (slice_get (same i) (own_is i)) count) ∙ are.each (same_as flat p))

-- ---- the loop that goes back

pub back_more : (order : List ℕ) (nodes count back at d : ℕ) (old new : List ℕ) → back < count → count ≡ length order → at ≡ count - 1 - back
    → ((all : List ℕ) (many : ℕ) → slice_get all at ≡ Some (get_or order at d) → Placed all many (suc at) old → Placed all many at new) → Placed order nodes (count - back) old
    → Placed order nodes (count - (back + 1)) new
back_more order nodes count back at d old new lt long is step before =
    let here : count - back ≡ suc at = omega (arith, lt, is) in
    let next : at ≡ count - (back + 1) = omega (arith, lt, is) in
    let within : at < length order = omega (arith, lt, is, long) in
    subst (λ n. Placed order nodes n new) next (step order nodes (slice_get-get_or order at d within) (subst (λ n. Placed order nodes n old) here before))

pub back_all : (order : List ℕ) (nodes count back : ℕ) (numbers : List ℕ) → count ≤ back → Placed order nodes (count - back) numbers → Placed order nodes 0 numbers
back_all order nodes count back numbers le placed = let z : count - back ≡ 0 = omega (arith, le) in subst (λ n. Placed order nodes n numbers) z placed

pub ruleset placings = (placed_none, back_more, back_all)

pub ruleset keeping = (placed_in, placed_out)
