-- The order of types: lists that are filtered place by place, and the depths one behind the other.
use Rattle.std.proofs.Common.{◌≡◌, ℕ, zero, suc, ◌+◌, ◌≤◌, Bool, true, false, not, ◌&&◌, cond, List, [], ◌∷◌, ◌++◌, length, map, filter, refl, sym, ap, ◌∙◌, arith, append_assoc, append-nil, subst, if◌then◌else◌}
use Rattle.std.specs.List.{range_with_len}
use Rattle.std.proofs.lemmas.List.Elements.{filter-append}
use Rattle.og_flat.specs.declared.flat.Flat.{Flat}
use Rattle.og_dataview.specs.View.{is_own, is_within, is_supported, is_deeper, deeper, opaque, up_to, in_order, all_nodes, greatest_depth}
use Rattle.og_datatypes.specs.Kept.{is_marked, AreMarked}
use Rattle.og_datatypes.proofs.Behind.{depth_is}
use Rattle.og_data.specs.Order.{one_if, is_new, is_left, Ordered}

range_next : (a n : ℕ) → range_with_len a (suc n) ≡ range_with_len a n ++ (a + n) ∷ []
range_next a zero = let e : a ≡ a + 0 = omega arith in ap (λ m. m ∷ []) e
range_next a (suc n) =
    let e : a + 1 + n ≡ a + suc n = omega arith in
    ap (λ (xs : List ℕ). a ∷ xs) (range_next (a + 1) n ∙ ap (λ m. range_with_len (a + 1) n ++ m ∷ []) e)

pub range_more : (n k : ℕ) → k ≡ suc n → range_with_len 0 k ≡ range_with_len 0 n ++ n ∷ []
range_more n k e =
    let z : 0 + n ≡ n = omega arith in
    ap (range_with_len 0) e ∙ range_next 0 n ∙ ap (λ m. range_with_len 0 n ++ m ∷ []) z

-- a list that was filtered so far, with one place more
pub filtered_more : (test : ℕ → Bool) (old xs ys : List ℕ) (n : ℕ) (b : Bool) → ys ≡ xs ++ one_if b n → b ≡ test n → xs ≡ old ++ filter test (range_with_len 0 n)
    → ys ≡ old ++ filter test (range_with_len 0 (n + 1))
filtered_more test old xs ys n b more is before =
    let e : n + 1 ≡ suc n = omega arith in
    more ∙ (λ i. before i ++ one_if (is i) n) ∙ append_assoc old (filter test (range_with_len 0 n)) (one_if (test n) n)
    ∙ ap (λ zs. old ++ zs) (sym (filter-append test (range_with_len 0 n) (n ∷ [])) ∙ ap (filter test) (sym (range_more n (n + 1) e)))

pub filtered_first : (test : ℕ → Bool) (old : List ℕ) → old ≡ old ++ filter test (range_with_len 0 0)
filtered_first test old = sym (append-nil old)

-- ---- one depth

pub deeper_is : (flat : Flat) (within next : List Bool) (old new : List ℕ) (n : ℕ) → n ≡ length flat.nodes → new ≡ old ++ filter (is_new flat within next) (range_with_len 0 n)
    → (depth : ℕ) → AreMarked (is_within flat depth) within → AreMarked (is_within flat (suc depth)) next → new ≡ old ++ deeper flat depth
deeper_is flat within next old new n long is depth w x =
    is ∙ (λ i. old ++ filter (λ p. is_own flat p && (x.each p i && not (w.each p i))) (range_with_len 0 (long i)))

pub opaque_is : (flat : Flat) (supported : List Bool) (old new : List ℕ) (n : ℕ) → n ≡ length flat.nodes → new ≡ old ++ filter (is_left flat supported) (range_with_len 0 n)
    → AreMarked (is_supported flat) supported → new ≡ old ++ opaque flat
opaque_is flat supported old new n long is w = is ∙ (λ i. old ++ filter (λ p. is_own flat p && not (w.each p i)) (range_with_len 0 (long i)))

pub ruleset filters = (filtered_first, filtered_more, deeper_is, opaque_is)

-- ---- all depths

pub ordered_none : (flat : Flat) → Ordered flat 0 [] []
ordered_none flat = record { is = refl; marked = record { each = λ p. refl } }

-- one depth more, where lists and slices of them are the same
pub ordered_more : (flat : Flat) (depth : ℕ) (types types' : List ℕ) (within within' within'' next next' : List Bool) → within' ≡ within → within'' ≡ within → next' ≡ next
    → ((d : ℕ) → AreMarked (is_within flat d) within' → AreMarked (is_within flat (suc d)) next)
    → ((d : ℕ) → AreMarked (is_within flat d) within'' → AreMarked (is_within flat (suc d)) next' → types' ≡ types ++ deeper flat d)
    → Ordered flat depth types within → Ordered flat (depth + 1) types' next
ordered_more flat depth types types' within within' within'' next next' a b c marks adds before =
    let e : suc depth ≡ depth + 1 = omega arith in
    let m : AreMarked (is_within flat (suc depth)) next = marks depth (subst (AreMarked (is_within flat depth)) (sym a) before.marked) in
    let more : types' ≡ types ++ deeper flat depth =
    adds depth (subst (AreMarked (is_within flat depth)) (sym b) before.marked) (subst (AreMarked (is_within flat (suc depth))) (sym c) m)
    in
    subst (λ d. Ordered flat d types' next) e (record { is = more ∙ ap (λ xs. xs ++ deeper flat depth) before.is; marked = m })

-- the depths are all that types of the view may have
pub ordered_all : (flat : Flat) (depth : ℕ) (types : List ℕ) (within : List Bool) → 64 ≤ depth → depth ≤ 64 → Ordered flat depth types within → Ordered flat greatest_depth types within
ordered_all flat depth types within le ge before =
    let e : depth ≡ greatest_depth = omega (arith, le, ge, depth_is) in
    subst (λ d. Ordered flat d types within) e before

pub order_is : (flat : Flat) (types all : List ℕ) (within within' : List Bool) → within' ≡ within → Ordered flat greatest_depth types within
    → (AreMarked (is_supported flat) within' → all ≡ types ++ opaque flat) → all ≡ in_order flat
order_is flat types all within within' e before adds = adds (subst (AreMarked (is_supported flat)) (sym e) before.marked) ∙ ap (λ xs. xs ++ opaque flat) before.is

pub supported_is : (flat : Flat) (types : List ℕ) (within : List Bool) → Ordered flat greatest_depth types within → AreMarked (is_supported flat) within
supported_is flat types within before = before.marked

pub ruleset orders = (ordered_none, ordered_more, ordered_all, order_is, supported_is)
