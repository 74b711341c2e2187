-- The measures of a table: those of its types, found by those of earlier types.
use Rattle.std.proofs.Common.{◌≡◌, ℕ, ◌+◌, ◌*◌, ◌-◌, ◌<◌, ◌≤◌, ◌^◌, min, max, true, List, [], ◌∷◌, ◌++◌, length, slice_get, get_or, Option, Some, unwrap_or, inl, inr, refl, sym, ap, ◌∙◌, subst, arith, length-append}
use Rattle.std.proofs.Math.Nat.{mul-le-mul_left, min-eq_left}
use Rattle.std.proofs.lemmas.Bool.{cases_lt}
use Rattle.og_types.specs.declared.TypeId.{TypeId}
use Rattle.og_types.specs.declared.Part.{Part}
use Rattle.og_types.specs.declared.Sort.{Sort}
use Rattle.og_types.specs.declared.Sort.TheVariants as Sorts
use Rattle.og_types.specs.declared.measures.Measure.{Measure}
use Rattle.og_types.specs.Values.{cells_of_parts, cells_of_sort, all_cells, cells, is_supported, is_supported_sort, many_cells, PartsBelow}
use Rattle.og_types.specs.Table.{depth, depth_of_sort, is_table, MayStandBehind}
use Rattle.og_types.specs.Measures.{measure, measure_in, depth_in, cells_in, supported_in, no_measure, IsKept}
use Rattle.og_types.proofs.Downward.{Agree, Below, SameBelow, depth_same, depth_stays, depth_behind, supported_same, is_supported_stays, is_supported_behind, all_cells_stay, all_cells_behind}
use Rattle.og_types.proofs.Tables.{tables_are_downward, refers_below}
use Rattle.og_types.proofs.Added.{same_below, last_is, depth_bound, still_table}
use Rattle.std.proofs.lemmas.Option.{get_or_from_slice_get}

-- ---- counting up to a limit

abbrev pub capped : ℕ → ℕ
capped n = min n many_cells

sum_capped : (a b : ℕ) → min (min a 65537 + min b 65537) 65537 ≡ min (a + b) 65537
sum_capped a b = omega arith

one_capped : (a : ℕ) → min (1 + min a 65537) 65537 ≡ min (1 + a) 65537
one_capped a = omega arith

-- two ways to count agree up to the limit
abbrev pub AgreeCapped : ℕ → (TypeId → ℕ) → (TypeId → ℕ) → Type 0
AgreeCapped n f g = (id : TypeId) → id.0 < n → f id ≡ min (g id) 65537

parts_capped : (n : ℕ) (f g : TypeId → ℕ) → AgreeCapped n f g → (ps : List Part) → PartsBelow n ps
    → min (cells_of_parts f ps) 65537 ≡ min (cells_of_parts g ps) 65537
parts_capped n f g h [] b = refl
parts_capped n f g h (p ∷ ps) b =
    let here : f p.sort ≡ min (g p.sort) 65537 = h p.sort b.0 in
    let rest : min (cells_of_parts f ps) 65537 ≡ min (cells_of_parts g ps) 65537 = parts_capped n f g h ps b.1 in
    omega (arith, here, rest)

at_least : (a m : ℕ) → 1 ≤ m → a ≤ a * m
at_least a m h = omega (arith, mul-le-mul_left a h)

times_capped : (a m : ℕ) → 1 ≤ m → min (1 + min a 65537 * m) 65537 ≡ min (1 + a * m) 65537
times_capped a m h = elim (cases_lt 65537 a) [
  | inr le ↦ ap (λ (k : ℕ). min (1 + k * m) 65537) (min-eq_left le)
  | inl gt ↦
      let few : 65537 ≤ 65537 * m = at_least 65537 m h in
      let many : a ≤ a * m = at_least a m h in
      let cut : min a 65537 ≡ 65537 = omega (arith, gt) in
      ap (λ (k : ℕ). min (1 + k * m) 65537) cut ∙ omega (arith, few, many, gt)
]

-- the cells of a type are counted by the counts of those that it refers to
pub cells_capped : (n : ℕ) (f g : TypeId → ℕ) → AgreeCapped n f g → (t : Option Sort) → Below n t
    → min (cells_of_sort f t) 65537 ≡ min (cells_of_sort g t) 65537
cells_capped n f g h (Some (Sorts.Sequence [])) b = refl
cells_capped n f g h (Some (Sorts.Sequence (p ∷ ps))) b = parts_capped n f g h (p ∷ ps) b
cells_capped n f g h (Some (Sorts.Choice ps)) b =
    let inner : min (cells_of_parts f ps) 65537 ≡ min (cells_of_parts g ps) 65537 = parts_capped n f g h ps b in
    omega (arith, inner)
cells_capped n f g h (Some (Sorts.SeqOf lo hi item)) b =
    ap (λ (k : ℕ). min (1 + k * max hi 1) 65537) (h item b) ∙ times_capped (g item) (max hi 1) (omega arith)
cells_capped n f g h _ b = refl

-- ---- the measures of a table

module _ (types : List Sort) (measures : List Measure) (kept : IsKept types measures) where
  pub measured : (id : TypeId) → id.0 < length types → measure_in measures id ≡ measure types id
  measured id h = ap (λ (o : Option Measure). unwrap_or o no_measure) (kept.each id.0 h)

  pub depths : Agree (length types) (depth_in measures) (depth types)
  depths id h = ap (λ (m : Measure). m.depth) (measured id h)

  pub counts : AgreeCapped (length types) (cells_in measures) (all_cells types)
  counts id h = ap (λ (m : Measure). m.cells) (measured id h)

  pub supports : Agree (length types) (supported_in measures) (is_supported types)
  supports id h = ap (λ (m : Measure). m.supported) (measured id h)

  pub depth_by_measures : (t : Sort) → Below (length types) (Some t) → depth_of_sort (depth_in measures) (Some t) ≡ depth_of_sort (depth types) (Some t)
  depth_by_measures t b = depth_same (length types) (depth_in measures) (depth types) depths (Some t) b

-- a measure by those of earlier types
pub record IsFurther (measures : List Measure) (t : Sort) (m : Measure) : Type 0 where
  pub depth : m.depth ≡ depth_of_sort (depth_in measures) (Some t)
  pub cells : m.cells ≡ min (cells_of_sort (cells_in measures) (Some t)) 65537
  pub supported : m.supported ≡ is_supported_sort (supported_in measures) (Some t)

module _ (types : List Sort) (measures : List Measure) (kept : IsKept types measures) (t : Sort) (may : MayStandBehind types t) (m : Measure) (is : IsFurther measures t m) where
  table : is_table types ≡ true
  table = kept.table

  refers : Below (length types) (Some t)
  refers = refers_below (length types) t may.sort

  last : slice_get (types ++ t ∷ []) (length types) ≡ Some t
  last = last_is types t

  here : Below (length types) (slice_get (types ++ t ∷ []) (length types))
  here = subst (Below (length types)) (sym last) refers

  depth_here : m.depth ≡ depth (types ++ t ∷ []) (record { 0 = length types })
  depth_here =
      is.depth ∙ depth_by_measures types measures kept t refers
      ∙ sym (depth_behind (length types) types (types ++ t ∷ []) (tables_are_downward types table) (same_below types (t ∷ [])) here
      ∙ ap (depth_of_sort (depth types)) last)

  cells_here : m.cells ≡ cells (types ++ t ∷ []) (record { 0 = length types })
  cells_here =
      is.cells ∙ cells_capped (length types) (cells_in measures) (all_cells types) (counts types measures kept) (Some t) refers
      ∙ sym (ap capped (all_cells_behind (length types) types (types ++ t ∷ []) (tables_are_downward types table) (same_below types (t ∷ [])) here
      ∙ ap (cells_of_sort (all_cells types)) last))

  supported_here : m.supported ≡ is_supported (types ++ t ∷ []) (record { 0 = length types })
  supported_here =
      is.supported ∙ supported_same (length types) (supported_in measures) (is_supported types) (supports types measures kept) (Some t) refers
      ∙ sym (is_supported_behind (length types) types (types ++ t ∷ []) (tables_are_downward types table) (same_below types (t ∷ [])) here
      ∙ ap (is_supported_sort (is_supported types)) last)

  measure_here : m ≡ measure (types ++ t ∷ []) (record { 0 = length types })
  measure_here = λ i. record { depth = depth_here i; cells = cells_here i; supported = supported_here i }

  -- earlier types keep theirs
  measure_stays : (id : TypeId) → id.0 < length types → measure types id ≡ measure (types ++ t ∷ []) id
  measure_stays id b =
      let d = tables_are_downward types table in
      let s : SameBelow (length types) types (types ++ t ∷ []) = same_below types (t ∷ []) in
      λ i. record {
        depth = depth_stays (length types) types (types ++ t ∷ []) d s id b i;
        cells = min (all_cells_stay (length types) types (types ++ t ∷ []) d s id b i) many_cells;
        supported = is_supported_stays (length types) types (types ++ t ∷ []) d s id b i;
      }

  each_more : (n : ℕ) → n < length (types ++ t ∷ []) → slice_get (measures ++ m ∷ []) n ≡ Some (measure (types ++ t ∷ []) (record { 0 = n }))
  each_more n b = elim (cases_lt n (length types)) [
    | inl lt ↦
        sym (same_below measures (m ∷ []) n (omega (arith, kept.as_many, lt)))
        ∙ kept.each n lt ∙ ap Some (measure_stays (record { 0 = n }) lt)
    | inr ge ↦
        let at : n ≡ length types = omega (arith, length-append types (t ∷ []), ge, b) in
        ap (slice_get (measures ++ m ∷ [])) (at ∙ sym kept.as_many) ∙ last_is measures m
        ∙ ap Some (measure_here ∙ ap (λ (k : ℕ). measure (types ++ t ∷ []) (record { 0 = k })) (sym at))
  ]

  pub kept_more : length types < 2 ^ 32 - 1 → IsKept (types ++ t ∷ []) (measures ++ m ∷ [])
  kept_more few = record {
    table = still_table types t table may;
    few = omega (arith, length-append types (t ∷ []));
    as_many = omega (arith, length-append types (t ∷ []), length-append measures (m ∷ []), kept.as_many);
    each = each_more;
  }

-- ---- what is read of a table

pub measured_at : (types now : List Sort) (measures read : List Measure) (id : TypeId) (d : Measure)
    → IsKept types measures → types ≡ now → read ≡ measures → id.0 < length now → get_or read id.0 d ≡ measure now id
measured_at types now measures read id d kept t r h =
    let known : id.0 < length types = omega (arith, h, ap length t) in
    ap (λ (xs : List Measure). get_or xs id.0 d) r
    ∙ get_or_from_slice_get measures id.0 (measure types id) d (kept.each id.0 known) ∙ ap (λ (xs : List Sort). measure xs id) t

pub shallow_at : (types now : List Sort) (measures read : List Measure) (id : TypeId) (d : Measure)
    → IsKept types measures → types ≡ now → read ≡ measures → id.0 < length now → (get_or read id.0 d).depth ≤ 64
shallow_at types now measures read id d kept t r h =
    let known : id.0 < length types = omega (arith, h, ap length t) in
    let deep : depth types id ≤ 64 = depth_bound types kept.table id known in
    subst (λ (m : Measure). m.depth ≤ 64) (sym (measured_at types now measures read id d kept t r h))
    (subst (λ (xs : List Sort). depth xs id ≤ 64) t deep)

pub depth_read : (types now : List Sort) (measures read : List Measure) (t : Sort) (r : ℕ) → IsKept types measures → types ≡ now → read ≡ measures
    → Below (length now) (Some t) → r ≡ depth_of_sort (depth_in read) (Some t) → r ≡ depth_of_sort (depth now) (Some t)
depth_read types now measures read t r kept s m b e =
    e ∙ ap (λ (ms : List Measure). depth_of_sort (depth_in ms) (Some t)) m
    ∙ depth_by_measures types measures kept t (subst (λ (xs : List Sort). Below (length xs) (Some t)) (sym s) b)
    ∙ ap (λ (xs : List Sort). depth_of_sort (depth xs) (Some t)) s

-- the depth of a type that may stand behind
pub depth_fits : (types now : List Sort) (measures read : List Measure) (t : Sort) (r : ℕ) → IsKept types measures → types ≡ now → read ≡ measures
    → MayStandBehind now t → r ≡ depth_of_sort (depth_in read) (Some t) → r ≤ 64
depth_fits types now measures read t r kept s m may e =
    subst (λ (k : ℕ). k ≤ 64) (sym (depth_read types now measures read t r kept s m (refers_below (length now) t may.sort) e)) may.depth

pub kept_both : (types now : List Sort) (measures read : List Measure) (t : Sort) (m : Measure) (types' : List Sort) (measures' : List Measure)
    → IsKept types measures → types ≡ now → read ≡ measures → MayStandBehind now t → length now < 2 ^ 32 - 1 → IsFurther read t m
    → types' ≡ types ++ t ∷ [] → measures' ≡ measures ++ m ∷ [] → IsKept types' measures'
kept_both types now measures read t m types' measures' kept s r may few is ts ms =
    subst (λ (xs : List Sort). IsKept xs measures') (sym ts)
    (subst (λ (xs : List Measure). IsKept (types ++ t ∷ []) xs) (sym ms)
    (kept_more types measures kept t (subst (λ (xs : List Sort). MayStandBehind xs t) (sym s) may) m
    (subst (λ (xs : List Measure). IsFurther xs t m) r is) (subst (λ (xs : List Sort). length xs < 2 ^ 32 - 1) (sym s) few)))
