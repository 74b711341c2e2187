-- Reading after writing: a slot that was written holds what was written, and every other one what it held.
use Rattle.std.proofs.Common.{◌≡◌, ℕ, zero, suc, pos, Bool, true, false, if◌then◌else◌, nat_eq, List, [], ◌∷◌, ◌++◌, slice_get, slice_set, Some, ◌⊎◌, inl, inr, ◌≢◌, refl, sym, ap, subst, ◌∙◌}
use Rattle.std.proofs.lemmas.Bool.{ne_eqb, eq-eqb}
use Rattle.std.proofs.lemmas.Bool.Decides.{eqb_tells}
use Rattle.std.proofs.lemmas.Option.{none-some}
use Rattle.og_types.specs.declared.Sort.{Sort}
use Rattle.og_types.specs.declared.Value.{Value}
use Rattle.og_model.specs.declared.Model.{Model}
use Rattle.og_model.specs.declared.Variable.{Variable}
use Rattle.og_model.specs.Units.{State}
use Rattle.og_ir.specs.Cells.{Cells, Cell, global, change_global}
use Rattle.og_ir.specs.Reading.{value_in}
use Rattle.og_layout.specs.Layout.{StandsFor, Mark, region_numbers, Layout, slots_of, IsNew, Differ, Held, A_value, A_number, Anything, Holds, Expected, HoldsAt, AllHold, but_at, once_written, Number, variables_in, timers_in, held_number, regions_in, anything_in, besides, expected_of}
use Rattle.og_names.proofs.Truths.{same_value as some_is}

-- ---- one slot

pub changed_here : (k : ℕ) (f : Cells → Cells) (slots : List Cells) (old : Cells) → global k slots ≡ Some old → global k (change_global k f slots) ≡ Some (f old)
changed_here k f [] old at = absurd (none-some old at)
changed_here zero f (c ∷ slots) old at = ap (λ x. Some (f x)) (some_is c old at)
changed_here (suc k) f (c ∷ slots) old at = changed_here k f slots old at

kept_elsewhere : (k j : ℕ) (f : Cells → Cells) (slots : List Cells) → (j ≡ k → ⊥) → global j (change_global k f slots) ≡ global j slots
kept_elsewhere k j f [] other = refl
kept_elsewhere zero zero f (c ∷ slots) other = absurd (other refl)
kept_elsewhere zero (suc j) f (c ∷ slots) other = refl
kept_elsewhere (suc k) zero f (c ∷ slots) other = refl
kept_elsewhere (suc k) (suc j) f (c ∷ slots) other = kept_elsewhere k j f slots (λ e. other (ap suc e))

-- ---- all that is expected

one_written : (sorts : List Sort) (slots : List Cells) (k : ℕ) (cells : Cells) (held : Held) (x : Expected) → HoldsAt sorts slots x → Holds sorts held cells → HoldsAt sorts (change_global k (λ old. cells) slots) (but_at k held x)
one_written sorts slots k cells held x is holds = choose (eqb_tells x.slot k)
  where
    new : List Cells
    new = change_global k (λ old. cells) slots

    choose : ((nat_eq x.slot k ≡ true) × (x.slot ≡ k)) ⊎ ((nat_eq x.slot k ≡ false) × (x.slot ≢ k)) → HoldsAt sorts (change_global k (λ old. cells) slots) (but_at k held x)
    choose (inl (t, same)) =
        subst (λ b. HoldsAt sorts (change_global k (λ old. cells) slots) (if b then record { slot = k; held = held } else x)) (sym t)
        (record {
          cells = cells;
          there = changed_here k (λ old. cells) slots is.cells (subst (λ j. global j slots ≡ Some is.cells) same is.there);
          holds = holds;
        })
    choose (inr (f, other)) =
        subst (λ b. HoldsAt sorts (change_global k (λ old. cells) slots) (if b then record { slot = k; held = held } else x)) (sym f)
        (record {
          cells = is.cells;
          there = kept_elsewhere k x.slot (λ old. cells) slots other ∙ is.there;
          holds = is.holds;
        })

pub all_written : (sorts : List Sort) (slots : List Cells) (k : ℕ) (cells : Cells) (held : Held) (xs : List Expected) → AllHold sorts slots xs → Holds sorts held cells → AllHold sorts (change_global k (λ old. cells) slots) (once_written k held xs)
all_written sorts slots k cells held [] all holds = tt
all_written sorts slots k cells held (x ∷ xs) all holds = (
  one_written sorts slots k cells held x all.0 holds,
  all_written sorts slots k cells held xs all.1 holds,
)

-- ---- which slot is written

written_here : (k : ℕ) (held was : Held) → but_at k held (record { slot = k; held = was }) ≡ record { slot = k; held = held }
written_here k held was = ap (λ b. if b then record { slot = k; held = held } else record { slot = k; held = was }) (eq-eqb k k refl)

written_elsewhere : (k j : ℕ) (held was : Held) → (j ≡ k → ⊥) → but_at k held (record { slot = j; held = was }) ≡ record { slot = j; held = was }
written_elsewhere k j held was other = ap (λ b. if b then record { slot = k; held = held } else record { slot = j; held = was }) (ne_eqb j k other)

written_both : (k : ℕ) (held : Held) (xs ys : List Expected) → once_written k held (xs ++ ys) ≡ once_written k held xs ++ once_written k held ys
written_both k held [] ys = refl
written_both k held (x ∷ xs) ys = ap (λ zs. but_at k held x ∷ zs) (written_both k held xs ys)

-- ---- no slot twice

new_first : (k : ℕ) (xs ys : List ℕ) → IsNew k (xs ++ ys) → IsNew k xs
new_first k [] ys new = tt
new_first k (x ∷ xs) ys new = (new.0, new_first k xs ys new.1)

new_second : (k : ℕ) (xs ys : List ℕ) → IsNew k (xs ++ ys) → IsNew k ys
new_second k [] ys new = new
new_second k (x ∷ xs) ys new = new_second k xs ys new.1

differ_first : (xs ys : List ℕ) → Differ (xs ++ ys) → Differ xs
differ_first [] ys d = tt
differ_first (x ∷ xs) ys d = (new_first x xs ys d.0, differ_first xs ys d.1)

differ_second : (xs ys : List ℕ) → Differ (xs ++ ys) → Differ ys
differ_second [] ys d = d
differ_second (x ∷ xs) ys d = differ_second xs ys d.1

new_at : (k i j : ℕ) (xs : List ℕ) → IsNew k xs → slice_get xs i ≡ Some j → k ≡ j → ⊥
new_at k i j [] new at e = none-some j at
new_at k zero j (x ∷ xs) new at e = new.0 (some_is x j at ∙ sym e)
new_at k (suc i) j (x ∷ xs) new at e = new_at k i j xs new.1 at e

-- a slot of the first part is none of the second
apart_first : (i k : ℕ) (xs ys : List ℕ) → Differ (xs ++ ys) → slice_get xs i ≡ Some k → IsNew k ys
apart_first i k [] ys d at = absurd (none-some k at)
apart_first zero k (x ∷ xs) ys d at = subst (λ j. IsNew j ys) (some_is x k at) (new_second x xs ys d.0)
apart_first (suc i) k (x ∷ xs) ys d at = apart_first i k xs ys d.1 at

-- and a slot of the second none of the first
apart_second : (i k : ℕ) (xs ys : List ℕ) → Differ (xs ++ ys) → slice_get ys i ≡ Some k → IsNew k xs
apart_second i k [] ys d at = tt
apart_second i k (x ∷ xs) ys d at = (new_at x i k ys (new_second x xs ys d.0) at, apart_second i k xs ys d.1 at)

-- the number stands somewhere
record IsIn (k : ℕ) (ks : List ℕ) : Type 0 where
  pub place : ℕ
  pub at : slice_get ks place ≡ Some k

is_in_first : (i k : ℕ) (xs ys : List ℕ) → slice_get xs i ≡ Some k → IsIn k (xs ++ ys)
is_in_first i k [] ys at = absurd (none-some k at)
is_in_first zero k (x ∷ xs) ys at = record { place = zero; at = at }
is_in_first (suc i) k (x ∷ xs) ys at = let more = is_in_first i k xs ys at in record { place = suc more.place; at = more.at }

is_in_second : (k : ℕ) (xs ys : List ℕ) → IsIn k ys → IsIn k (xs ++ ys)
is_in_second k [] ys is = is
is_in_second k (x ∷ xs) ys is = let more = is_in_second k xs ys is in record { place = suc more.place; at = more.at }

apart_any : (k : ℕ) (xs ys : List ℕ) → Differ (xs ++ ys) → IsIn k ys → IsNew k xs
apart_any k xs ys d is = apart_second is.place k xs ys d is.at

-- ---- the parts of a layout that are not written

keeps_variables : (k : ℕ) (held : Held) (ks : List ℕ) (xs : List Variable) (vs : List Value) → IsNew k ks → once_written k held (variables_in ks xs vs) ≡ variables_in ks xs vs
keeps_variables k held [] xs vs new = refl
keeps_variables k held (j ∷ ks) [] vs new = refl
keeps_variables k held (j ∷ ks) (x ∷ xs) [] new = refl
keeps_variables k held (j ∷ ks) (x ∷ xs) (v ∷ vs) new =
    ap (λ y. y ∷ once_written k held (variables_in ks xs vs)) (written_elsewhere k j held (A_value x.sort v) new.0)
    ∙ ap (λ ys. record { slot = j; held = A_value x.sort v } ∷ ys) (keeps_variables k held ks xs vs new.1)

keeps_timers : (k : ℕ) (held : Held) (ks : List ℕ) (bs : List Bool) → IsNew k ks → once_written k held (timers_in ks bs) ≡ timers_in ks bs
keeps_timers k held [] bs new = refl
keeps_timers k held (j ∷ ks) [] new = refl
keeps_timers k held (j ∷ ks) (b ∷ bs) new =
    ap (λ y. y ∷ once_written k held (timers_in ks bs)) (written_elsewhere k j held (A_number (pos (if b then 1 else 0))) new.0)
    ∙ ap (λ ys. record { slot = j; held = A_number (pos (if b then 1 else 0)) } ∷ ys) (keeps_timers k held ks bs new.1)

keeps_regions : (k : ℕ) (held : Held) (ks : List ℕ) (ns : List Number) → IsNew k ks → once_written k held (regions_in ks ns) ≡ regions_in ks ns
keeps_regions k held [] ns new = refl
keeps_regions k held (j ∷ ks) [] new = refl
keeps_regions k held (j ∷ ks) (n ∷ ns) new =
    ap (λ y. y ∷ once_written k held (regions_in ks ns)) (written_elsewhere k j held (held_number n) new.0)
    ∙ ap (λ ys. record { slot = j; held = held_number n } ∷ ys) (keeps_regions k held ks ns new.1)

keeps_anything : (k : ℕ) (held : Held) (ks : List ℕ) → IsNew k ks → once_written k held (anything_in ks) ≡ anything_in ks
keeps_anything k held [] new = refl
keeps_anything k held (j ∷ ks) new =
    ap (λ y. y ∷ once_written k held (anything_in ks)) (written_elsewhere k j held Anything new.0)
    ∙ ap (λ ys. record { slot = j; held = Anything } ∷ ys) (keeps_anything k held ks new.1)

abbrev behind_control : Layout → List ℕ
behind_control layout = layout.locals ++ (layout.durations ++ layout.parameters)

abbrev control_and_more : Layout → List ℕ
control_and_more layout = layout.stopped ∷ layout.fault ∷ behind_control layout

keeps_besides : (k : ℕ) (held : Held) (layout : Layout) → IsNew k (control_and_more layout) → once_written k held (besides layout) ≡ besides layout
keeps_besides k held layout new =
    ap (λ y. y ∷ (but_at k held (record { slot = layout.fault; held = A_number (pos 0) }) ∷ once_written k held (anything_in (behind_control layout)))) (written_elsewhere k layout.stopped held (A_number (pos 0)) new.0)
    ∙ ap (λ y. record { slot = layout.stopped; held = A_number (pos 0) } ∷ (y ∷ once_written k held (anything_in (behind_control layout)))) (written_elsewhere k layout.fault held (A_number (pos 0)) new.1.0)
    ∙ ap (λ ys. record { slot = layout.stopped; held = A_number (pos 0) } ∷ (record { slot = layout.fault; held = A_number (pos 0) } ∷ ys)) (keeps_anything k held (behind_control layout) new.1.1)

-- ---- the part that is written

sets_variable : (i k : ℕ) (ks : List ℕ) (xs : List Variable) (vs : List Value) (x : Variable) (old v : Value) → Differ ks → slice_get ks i ≡ Some k → slice_get xs i ≡ Some x → slice_get vs i ≡ Some old → once_written k (A_value x.sort v) (variables_in ks xs vs) ≡ variables_in ks xs (slice_set vs i v)
sets_variable i k [] xs vs x old v d at x_at v_at = absurd (none-some k at)
sets_variable i k (j ∷ ks) [] vs x old v d at x_at v_at = absurd (none-some x x_at)
sets_variable i k (j ∷ ks) (y ∷ xs) [] x old v d at x_at v_at = absurd (none-some old v_at)
sets_variable zero k (j ∷ ks) (y ∷ xs) (w ∷ vs) x old v d at x_at v_at =
    let same : j ≡ k = some_is j k at in
    let is : y ≡ x = some_is y x x_at in
    ap (λ m. but_at k (A_value x.sort v) (record { slot = m; held = A_value y.sort w }) ∷ once_written k (A_value x.sort v) (variables_in ks xs vs)) same
    ∙ ap (λ e. e ∷ once_written k (A_value x.sort v) (variables_in ks xs vs)) (written_here k (A_value x.sort v) (A_value y.sort w))
    ∙ ap (λ es. record { slot = k; held = A_value x.sort v } ∷ es) (keeps_variables k (A_value x.sort v) ks xs vs (subst (λ m. IsNew m ks) same d.0))
    ∙ ap (λ m. record { slot = m; held = A_value x.sort v } ∷ variables_in ks xs vs) (sym same)
    ∙ ap (λ (z : Variable). record { slot = j; held = A_value z.sort v } ∷ variables_in ks xs vs) (sym is)
sets_variable (suc i) k (j ∷ ks) (y ∷ xs) (w ∷ vs) x old v d at x_at v_at =
    ap (λ e. e ∷ once_written k (A_value x.sort v) (variables_in ks xs vs)) (written_elsewhere k j (A_value x.sort v) (A_value y.sort w) (new_at j i k ks d.0 at))
    ∙ ap (λ es. record { slot = j; held = A_value y.sort w } ∷ es) (sets_variable i k ks xs vs x old v d.1 at x_at v_at)

sets_timer : (i k : ℕ) (ks : List ℕ) (bs : List Bool) (old b : Bool) → Differ ks → slice_get ks i ≡ Some k → slice_get bs i ≡ Some old → once_written k (A_number (pos (if b then 1 else 0))) (timers_in ks bs) ≡ timers_in ks (slice_set bs i b)
sets_timer i k [] bs old b d at b_at = absurd (none-some k at)
sets_timer i k (j ∷ ks) [] old b d at b_at = absurd (none-some old b_at)
sets_timer zero k (j ∷ ks) (c ∷ bs) old b d at b_at =
    let same : j ≡ k = some_is j k at in
    ap (λ m. but_at k (A_number (pos (if b then 1 else 0))) (record { slot = m; held = A_number (pos (if c then 1 else 0)) }) ∷ once_written k (A_number (pos (if b then 1 else 0))) (timers_in ks bs)) same
    ∙ ap (λ e. e ∷ once_written k (A_number (pos (if b then 1 else 0))) (timers_in ks bs)) (written_here k (A_number (pos (if b then 1 else 0))) (A_number (pos (if c then 1 else 0))))
    ∙ ap (λ es. record { slot = k; held = A_number (pos (if b then 1 else 0)) } ∷ es) (keeps_timers k (A_number (pos (if b then 1 else 0))) ks bs (subst (λ m. IsNew m ks) same d.0))
    ∙ ap (λ m. record { slot = m; held = A_number (pos (if b then 1 else 0)) } ∷ timers_in ks bs) (sym same)
sets_timer (suc i) k (j ∷ ks) (c ∷ bs) old b d at b_at =
    ap (λ e. e ∷ once_written k (A_number (pos (if b then 1 else 0))) (timers_in ks bs)) (written_elsewhere k j (A_number (pos (if b then 1 else 0))) (A_number (pos (if c then 1 else 0))) (new_at j i k ks d.0 at))
    ∙ ap (λ es. record { slot = j; held = A_number (pos (if c then 1 else 0)) } ∷ es) (sets_timer i k ks bs old b d.1 at b_at)

sets_region : (i k : ℕ) (ks : List ℕ) (ns : List Number) (old n : Number) → Differ ks → slice_get ks i ≡ Some k → slice_get ns i ≡ Some old → once_written k (held_number n) (regions_in ks ns) ≡ regions_in ks (slice_set ns i n)
sets_region i k [] ns old n d at n_at = absurd (none-some k at)
sets_region i k (j ∷ ks) [] old n d at n_at = absurd (none-some old n_at)
sets_region zero k (j ∷ ks) (c ∷ ns) old n d at n_at =
    let same : j ≡ k = some_is j k at in
    ap (λ m. but_at k (held_number n) (record { slot = m; held = held_number c }) ∷ once_written k (held_number n) (regions_in ks ns)) same
    ∙ ap (λ e. e ∷ once_written k (held_number n) (regions_in ks ns)) (written_here k (held_number n) (held_number c))
    ∙ ap (λ es. record { slot = k; held = held_number n } ∷ es) (keeps_regions k (held_number n) ks ns (subst (λ m. IsNew m ks) same d.0))
    ∙ ap (λ m. record { slot = m; held = held_number n } ∷ regions_in ks ns) (sym same)
sets_region (suc i) k (j ∷ ks) (c ∷ ns) old n d at n_at =
    ap (λ e. e ∷ once_written k (held_number n) (regions_in ks ns)) (written_elsewhere k j (held_number n) (held_number c) (new_at j i k ks d.0 at))
    ∙ ap (λ es. record { slot = j; held = held_number c } ∷ es) (sets_region i k ks ns old n d.1 at n_at)

sets_anything : (k : ℕ) (ks : List ℕ) → once_written k Anything (anything_in ks) ≡ anything_in ks
sets_anything k [] = refl
sets_anything k (j ∷ ks) =
    ap (λ y. y ∷ once_written k Anything (anything_in ks)) (same_slot (eqb_tells j k))
    ∙ ap (λ ys. record { slot = j; held = Anything } ∷ ys) (sets_anything k ks)
  where
    same_slot : ((nat_eq j k ≡ true) × (j ≡ k)) ⊎ ((nat_eq j k ≡ false) × (j ≢ k)) → but_at k Anything (record { slot = j; held = Anything }) ≡ record { slot = j; held = Anything }
    same_slot (inl (t, same)) =
        ap (λ b. if b then record { slot = k; held = Anything } else record { slot = j; held = Anything }) t
        ∙ ap (λ m. record { slot = m; held = Anything }) (sym same)
    same_slot (inr (f, other)) = written_elsewhere k j Anything Anything other

sets_besides : (k : ℕ) (layout : Layout) → IsNew k (layout.stopped ∷ layout.fault ∷ []) → once_written k Anything (besides layout) ≡ besides layout
sets_besides k layout new =
    ap (λ y. y ∷ (but_at k Anything (record { slot = layout.fault; held = A_number (pos 0) }) ∷ once_written k Anything (anything_in (behind_control layout)))) (written_elsewhere k layout.stopped Anything (A_number (pos 0)) new.0)
    ∙ ap (λ y. record { slot = layout.stopped; held = A_number (pos 0) } ∷ (y ∷ once_written k Anything (anything_in (behind_control layout)))) (written_elsewhere k layout.fault Anything (A_number (pos 0)) new.1.0)
    ∙ ap (λ ys. record { slot = layout.stopped; held = A_number (pos 0) } ∷ (record { slot = layout.fault; held = A_number (pos 0) } ∷ ys)) (sets_anything k (behind_control layout))

-- ---- the whole

module _ (M : Model) (layout : Layout) (ns : List Number) (s : State) (d : Differ (slots_of layout)) where
  abbrev behind_regions : List ℕ
  behind_regions = control_and_more layout

  abbrev behind_timers : List ℕ
  behind_timers = layout.regions ++ behind_regions

  abbrev behind_variables : List ℕ
  behind_variables = layout.timers ++ behind_timers

  others : Differ behind_variables
  others = differ_second layout.variables behind_variables d

  last : Differ behind_timers
  last = differ_second layout.timers behind_timers others

  -- what is written, part by part
  parts : (k : ℕ) (held : Held) → once_written k held (expected_of M layout ns s)
      ≡ once_written k held (variables_in layout.variables M.variables s.store.variables) ++ (once_written k held (timers_in layout.timers s.timers) ++ (once_written k held (regions_in layout.regions ns) ++ once_written k held (besides layout)))
  parts k held =
      let vs = variables_in layout.variables M.variables s.store.variables in
      let ts = timers_in layout.timers s.timers in
      let rs = regions_in layout.regions ns in
      written_both k held vs (ts ++ (rs ++ besides layout))
      ∙ ap (λ ys. once_written k held vs ++ ys) (written_both k held ts (rs ++ besides layout)
      ∙ ap (λ ys. once_written k held ts ++ ys) (written_both k held rs (besides layout)))

  -- a slot of none of the last three parts
  rest_kept : (k : ℕ) (held : Held) → IsNew k behind_variables → once_written k held (timers_in layout.timers s.timers) ++ (once_written k held (regions_in layout.regions ns) ++ once_written k held (besides layout)) ≡ timers_in layout.timers s.timers ++ (regions_in layout.regions ns ++ besides layout)
  rest_kept k held new =
      let in_rest = new_second k layout.timers behind_timers new in
      ap (λ ts. ts ++ (once_written k held (regions_in layout.regions ns) ++ once_written k held (besides layout))) (keeps_timers k held layout.timers s.timers (new_first k layout.timers behind_timers new))
      ∙ ap (λ rs. timers_in layout.timers s.timers ++ (rs ++ once_written k held (besides layout))) (keeps_regions k held layout.regions ns (new_first k layout.regions behind_regions in_rest))
      ∙ ap (λ bs. timers_in layout.timers s.timers ++ (regions_in layout.regions ns ++ bs)) (keeps_besides k held layout (new_second k layout.regions behind_regions in_rest))

  pub variable_written : (i k : ℕ) (x : Variable) (old v : Value) → slice_get layout.variables i ≡ Some k → slice_get M.variables i ≡ Some x → slice_get s.store.variables i ≡ Some old
      → once_written k (A_value x.sort v) (expected_of M layout ns s) ≡ expected_of M layout ns (record s { store = record s.store { variables = slice_set s.store.variables i v } })
  variable_written i k x old v at x_at v_at =
      let held = A_value x.sort v in
      parts k held
      ∙ ap (λ vs. vs ++ (once_written k held (timers_in layout.timers s.timers) ++ (once_written k held (regions_in layout.regions ns) ++ once_written k held (besides layout)))) (sets_variable i k layout.variables M.variables s.store.variables x old v (differ_first layout.variables behind_variables d) at x_at v_at)
      ∙ ap (λ ys. variables_in layout.variables M.variables (slice_set s.store.variables i v) ++ ys) (rest_kept k held (apart_first i k layout.variables behind_variables d at))

  pub timer_written : (i k : ℕ) (old b : Bool) → slice_get layout.timers i ≡ Some k → slice_get s.timers i ≡ Some old
      → once_written k (A_number (pos (if b then 1 else 0))) (expected_of M layout ns s) ≡ expected_of M layout ns (record s { timers = slice_set s.timers i b })
  timer_written i k old b at b_at =
      let held = A_number (pos (if b then 1 else 0)) in
      let vs = variables_in layout.variables M.variables s.store.variables in
      let among = is_in_first i k layout.timers behind_timers at in
      let new = apart_first i k layout.timers behind_timers others at in
      parts k held
      ∙ ap (λ xs. xs ++ (once_written k held (timers_in layout.timers s.timers) ++ (once_written k held (regions_in layout.regions ns) ++ once_written k held (besides layout)))) (keeps_variables k held layout.variables M.variables s.store.variables (apart_any k layout.variables behind_variables d among))
      ∙ ap (λ ts. vs ++ (ts ++ (once_written k held (regions_in layout.regions ns) ++ once_written k held (besides layout)))) (sets_timer i k layout.timers s.timers old b (differ_first layout.timers behind_timers others) at b_at)
      ∙ ap (λ rs. vs ++ (timers_in layout.timers (slice_set s.timers i b) ++ (rs ++ once_written k held (besides layout)))) (keeps_regions k held layout.regions ns (new_first k layout.regions behind_regions new))
      ∙ ap (λ bs. vs ++ (timers_in layout.timers (slice_set s.timers i b) ++ (regions_in layout.regions ns ++ bs))) (keeps_besides k held layout (new_second k layout.regions behind_regions new))

  pub region_written : (i k : ℕ) (old n : Number) → slice_get layout.regions i ≡ Some k → slice_get ns i ≡ Some old
      → once_written k (held_number n) (expected_of M layout ns s) ≡ expected_of M layout (slice_set ns i n) s
  region_written i k old n at n_at =
      let held = held_number n in
      let vs = variables_in layout.variables M.variables s.store.variables in
      let ts = timers_in layout.timers s.timers in
      let in_timers = is_in_first i k layout.regions behind_regions at in
      let among = is_in_second k layout.timers behind_timers in_timers in
      parts k held
      ∙ ap (λ xs. xs ++ (once_written k held ts ++ (once_written k held (regions_in layout.regions ns) ++ once_written k held (besides layout)))) (keeps_variables k held layout.variables M.variables s.store.variables (apart_any k layout.variables behind_variables d among))
      ∙ ap (λ xs. vs ++ (xs ++ (once_written k held (regions_in layout.regions ns) ++ once_written k held (besides layout)))) (keeps_timers k held layout.timers s.timers (apart_any k layout.timers behind_timers others in_timers))
      ∙ ap (λ rs. vs ++ (ts ++ (rs ++ once_written k held (besides layout)))) (sets_region i k layout.regions ns old n (differ_first layout.regions behind_regions last) at n_at)
      ∙ ap (λ bs. vs ++ (ts ++ (regions_in layout.regions (slice_set ns i n) ++ bs))) (keeps_besides k held layout (apart_first i k layout.regions behind_regions last at))

  -- what is written besides
  pub besides_written : (i k : ℕ) → slice_get (behind_control layout) i ≡ Some k → once_written k Anything (expected_of M layout ns s) ≡ expected_of M layout ns s
  besides_written i k at =
      let held : Held = Anything in
      let vs = variables_in layout.variables M.variables s.store.variables in
      let ts = timers_in layout.timers s.timers in
      let rs = regions_in layout.regions ns in
      let in_besides = is_in_second k (layout.stopped ∷ layout.fault ∷ []) (behind_control layout) (record { place = i; at = at }) in
      let in_rest = is_in_second k layout.regions behind_regions in_besides in
      let in_timers = is_in_second k layout.timers behind_timers in_rest in
      let control = differ_second layout.regions behind_regions last in
      parts k held
      ∙ ap (λ xs. xs ++ (once_written k held ts ++ (once_written k held rs ++ once_written k held (besides layout)))) (keeps_variables k held layout.variables M.variables s.store.variables (apart_any k layout.variables behind_variables d in_timers))
      ∙ ap (λ xs. vs ++ (xs ++ (once_written k held rs ++ once_written k held (besides layout)))) (keeps_timers k held layout.timers s.timers (apart_any k layout.timers behind_timers others in_rest))
      ∙ ap (λ xs. vs ++ (ts ++ (xs ++ once_written k held (besides layout)))) (keeps_regions k held layout.regions ns (apart_any k layout.regions behind_regions last in_besides))
      ∙ ap (λ xs. vs ++ (ts ++ (rs ++ xs))) (sets_besides k layout (apart_any k (layout.stopped ∷ layout.fault ∷ []) (behind_control layout) control (record { place = i; at = at })))

-- ---- slots that stand for a process

-- what is written, where something else is expected then
stands_once : (sorts : List Sort) (slots : List Cells) (k : ℕ) (cells : Cells) (held : Held) (xs ys : List Expected) → once_written k held xs ≡ ys → AllHold sorts slots xs → Holds sorts held cells → AllHold sorts (change_global k (λ old. cells) slots) ys
stands_once sorts slots k cells held xs ys same all holds = subst (AllHold sorts (change_global k (λ old. cells) slots)) same (all_written sorts slots k cells held xs all holds)

pub variable_stands : (M : Model) (layout : Layout) (mark : Mark) (s : State) (slots : List Cells) → Differ (slots_of layout) → StandsFor M layout mark s slots → (i k : ℕ) (x : Variable) (old v : Value) (cells : Cells) → slice_get layout.variables i ≡ Some k → slice_get M.variables i ≡ Some x → slice_get s.store.variables i ≡ Some old
    → value_in M.types x.sort cells ≡ Some v → StandsFor M layout mark (record s { store = record s.store { variables = slice_set s.store.variables i v } }) (change_global k (λ was. cells) slots)
variable_stands M layout mark s slots d stands i k x old v cells at x_at v_at holds =
    stands_once M.types slots k cells (A_value x.sort v) (expected_of M layout (region_numbers M mark) s) (expected_of M layout (region_numbers M mark) (record s { store = record s.store { variables = slice_set s.store.variables i v } }))
    (variable_written M layout (region_numbers M mark) s d i k x old v at x_at v_at) stands holds

pub timer_stands : (M : Model) (layout : Layout) (mark : Mark) (s : State) (slots : List Cells) → Differ (slots_of layout) → StandsFor M layout mark s slots → (i k : ℕ) (old b : Bool) → slice_get layout.timers i ≡ Some k → slice_get s.timers i ≡ Some old
    → StandsFor M layout mark (record s { timers = slice_set s.timers i b }) (change_global k (λ was. Cell (pos (if b then 1 else 0))) slots)
timer_stands M layout mark s slots d stands i k old b at b_at =
    stands_once M.types slots k (Cell (pos (if b then 1 else 0))) (A_number (pos (if b then 1 else 0))) (expected_of M layout (region_numbers M mark) s) (expected_of M layout (region_numbers M mark) (record s { timers = slice_set s.timers i b }))
    (timer_written M layout (region_numbers M mark) s d i k old b at b_at) stands refl

-- the number of one region, where the tree is marked otherwise then
pub region_stands : (M : Model) (layout : Layout) (mark later : Mark) (s : State) (slots : List Cells) → Differ (slots_of layout) → StandsFor M layout mark s slots → (i k : ℕ) (old n : Number) (cells : Cells) → slice_get layout.regions i ≡ Some k → slice_get (region_numbers M mark) i ≡ Some old
    → slice_set (region_numbers M mark) i n ≡ region_numbers M later → Holds M.types (held_number n) cells → StandsFor M layout later s (change_global k (λ was. cells) slots)
region_stands M layout mark later s slots d stands i k old n cells at n_at same holds =
    stands_once M.types slots k cells (held_number n) (expected_of M layout (region_numbers M mark) s) (expected_of M layout (region_numbers M later) s)
    (region_written M layout (region_numbers M mark) s d i k old n at n_at ∙ ap (λ ns. expected_of M layout ns s) same) stands holds

pub besides_stands : (M : Model) (layout : Layout) (mark : Mark) (s : State) (slots : List Cells) → Differ (slots_of layout) → StandsFor M layout mark s slots → (i k : ℕ) (cells : Cells) → slice_get (layout.locals ++ (layout.durations ++ layout.parameters)) i ≡ Some k
    → StandsFor M layout mark s (change_global k (λ was. cells) slots)
besides_stands M layout mark s slots d stands i k cells at =
    stands_once M.types slots k cells Anything (expected_of M layout (region_numbers M mark) s) (expected_of M layout (region_numbers M mark) s)
    (besides_written M layout (region_numbers M mark) s d i k at) stands tt
