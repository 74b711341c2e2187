-- The places of a run that is followed: one step adds one place, which was not passed since the last unit, or begins
-- another one.
use Rattle.std.proofs.Common.{◌≡◌, ℕ, zero, suc, ◌+◌, ◌≤◌, ◌<◌, Bool, true, false, ◌&&◌, ◌||◌, nat_eq, List, [], ◌∷◌, ◌++◌, length, slice_get, Some, ◌⊎◌, inl, inr, refl, sym, ap, subst, ◌∙◌, arith}
use Rattle.std.proofs.Math.Bool.{or-true}
use Rattle.std.proofs.Math.Seq.{take-append_seam}
use Rattle.std.proofs.lemmas.Bool.{false≢true, eq-eqb}
use Rattle.std.proofs.lemmas.List.{append_assoc, length-append, take-append-le}
use Rattle.std.proofs.lemmas.Option.{none-some, slice_get_within}
use Rattle.og_names.proofs.Truths.{same_value as some_is}
use Rattle.og_model.specs.Shown.{Event}
use Rattle.og_ir.specs.Cells.{Cells}
use Rattle.og_ir.specs.Steps.{Frame, Config, Running, Ran, joined, and_then, exec}
use Rattle.og_ir.proofs.Runs.{joined_twice}
use Rattle.og_follow.specs.Passing.{Passed, none_passed, with_place}
use Rattle.og_follow.specs.Cuts.{places_of, one_if, units_in, BegunBetween, NoneTwice}
use Rattle.og_follow.specs.Tracks.{Trail, since}

-- ---- a list with one place more

get_before : (xs ys : List Frame) (i : ℕ) (f : Frame) → slice_get xs i ≡ Some f → slice_get (xs ++ ys) i ≡ Some f
get_before [] ys i f at = absurd (none-some f at)
get_before (x ∷ xs) ys zero f at = at
get_before (x ∷ xs) ys (suc i) f at = get_before xs ys i f at

get_last : (xs : List Frame) (f : Frame) → slice_get (xs ++ f ∷ []) (length xs) ≡ Some f
get_last [] f = refl
get_last (x ∷ xs) f = get_last xs f

-- a place of before, or the last one
get_which : (xs : List Frame) (f : Frame) (i : ℕ) (g : Frame) → slice_get (xs ++ f ∷ []) i ≡ Some g → (slice_get xs i ≡ Some g) ⊎ ((i ≡ length xs) × (f ≡ g))
get_which [] f zero g at = inr (refl, some_is f g at)
get_which [] f (suc i) g at = absurd (none-some g at)
get_which (x ∷ xs) f zero g at = inl at
get_which (x ∷ xs) f (suc i) g at = further (get_which xs f i g at)
  where
    further : (slice_get xs i ≡ Some g) ⊎ ((i ≡ length xs) × (f ≡ g)) → (slice_get (x ∷ xs) (suc i) ≡ Some g) ⊎ ((suc i ≡ length (x ∷ xs)) × (f ≡ g))
    further (inl e) = inl e
    further (inr (e, same)) = inr (ap suc e, same)

units_both : (begins : Frame → Bool) (xs ys : List Frame) → units_in begins (xs ++ ys) ≡ units_in begins xs + units_in begins ys
units_both begins [] ys = none_more (units_in begins ys)
  where
    none_more : (n : ℕ) → n ≡ 0 + n
    none_more n = omega (arith)
units_both begins (x ∷ xs) ys =
    ap (λ n. one_if (begins x) + n) (units_both begins xs ys) ∙ in_order (one_if (begins x)) (units_in begins xs) (units_in begins ys)
  where
    in_order : (a b c : ℕ) → a + (b + c) ≡ a + b + c
    in_order a b c = omega (arith)

-- what has begun in between has begun among more places
between_on : (begins : Frame → Bool) (xs ys : List Frame) (i j k : ℕ) → j ≤ k → BegunBetween begins xs i j → BegunBetween begins (xs ++ ys) i k
between_on begins xs ys i j k le b =
    let inside = slice_get_within xs b.at b.frame b.there in
    let until = b.until in
    record {
      at = b.at;
      frame = b.frame;
      there = get_before xs ys b.at b.frame b.there;
      begun = b.begun;
      behind = b.behind;
      until = omega (arith, until, le);
      not_first = subst (λ zs. 1 ≤ units_in begins zs) (sym (take-append-le b.at xs ys (omega (arith, inside)))) b.not_first;
    }

-- a unit that is not the first begins at the last place
begun_last : (begins : Frame → Bool) (xs : List Frame) (f : Frame) (i k : ℕ) → i < length xs → length xs ≤ k → begins f ≡ true → 1 ≤ units_in begins xs → BegunBetween begins (xs ++ f ∷ []) i k
begun_last begins xs f i k lt le mark some = record {
  at = length xs;
  frame = f;
  there = get_last xs f;
  begun = mark;
  behind = lt;
  until = le;
  not_first = subst (λ zs. 1 ≤ units_in begins zs) (sym (take-append_seam xs (f ∷ []))) some;
}

once_more : (begins : Frame → Bool) (xs : List Frame) (f : Frame) → NoneTwice begins xs → ((i : ℕ) → slice_get xs i ≡ Some f → BegunBetween begins (xs ++ f ∷ []) i (length xs)) → NoneTwice begins (xs ++ f ∷ [])
once_more begins xs f once last i j g lt at_i at_j = choose (get_which xs f i g at_i) (get_which xs f j g at_j)
  where
    same : (n : ℕ) → n ≤ n
    same n = omega (arith)

    choose : (slice_get xs i ≡ Some g) ⊎ ((i ≡ length xs) × (f ≡ g)) → (slice_get xs j ≡ Some g) ⊎ ((j ≡ length xs) × (f ≡ g)) → BegunBetween begins (xs ++ f ∷ []) i j
    choose (inl one) (inl two) = between_on begins xs (f ∷ []) i j j (same j) (once i j g lt one two)
    choose (inl one) (inr (e, is)) =
        subst (λ k. BegunBetween begins (xs ++ f ∷ []) i k) (sym e) (last i (subst (λ h. slice_get xs i ≡ Some h) (sym is) one))
    choose (inr (e, is)) (inl two) = let inside = slice_get_within xs j g two in absurd (omega (arith, e, inside, lt))
    choose (inr (e, is)) (inr (e', is')) = absurd (omega (arith, e, e', lt))

-- ---- places that were passed

own_place : (seen : Passed) (f p : ℕ) → with_place seen f p f p ≡ true
own_place seen f p = ap (λ b. (b && nat_eq p p) || seen f p) (eq-eqb f f refl) ∙ ap (λ b. b || seen f p) (eq-eqb p p refl)

still_passed : (seen : Passed) (f p g q : ℕ) → seen g q ≡ true → with_place seen f p g q ≡ true
still_passed seen f p g q e = ap (λ b. (nat_eq g f && nat_eq q p) || b) e ∙ or-true (nat_eq g f && nat_eq q p)

-- ---- a run

-- nothing was done yet
pub no_trail : (step : Config → Ran Event) (unit_at : Frame → Bool) (first : Config) → Trail step unit_at first 0 [] none_passed first
no_trail step unit_at first = record {
  places = [];
  goes = λ k. ap (λ n. exec step n first) (plus_none k);
  passes = λ k. ap (λ n. places_of step n first) (plus_none k);
  begun = refl;
  kept = λ i frame at. absurd (none-some frame at);
  once = λ i j frame lt at. absurd (none-some frame at);
}
  where
    plus_none : (k : ℕ) → 0 + k ≡ k
    plus_none k = omega (arith)

module _ (step : Config → Ran Event) (unit_at : Frame → Bool) (first : Config) (units : ℕ) (events shown : List Event) (seen : Passed) (slots : List Cells) (frame : Frame) (callers : List Frame) (next : Config) (trail : Trail step unit_at first units events seen (Running slots frame callers)) (does : step (Running slots frame callers) ≡ record { events = shown; config = next }) where
  abbrev more : List Frame
  more = trail.places ++ frame ∷ []

  longer : (k : ℕ) → length more + k ≡ length trail.places + suc k
  longer k = let e = length-append trail.places (frame ∷ []) in omega (arith, e)

  no_longer : length trail.places ≤ length more
  no_longer = let e = length-append trail.places (frame ∷ []) in omega (arith, e)

  goes_further : (k : ℕ) → exec step (length more + k) first ≡ joined (events ++ shown) (exec step k next)
  goes_further k =
      ap (λ n. exec step n first) (longer k)
      ∙ trail.goes (suc k)
      ∙ ap (λ ran. joined events (and_then ran (exec step k))) does
      ∙ joined_twice events shown (exec step k next)

  passes_further : (k : ℕ) → places_of step (length more + k) first ≡ more ++ places_of step k next
  passes_further k =
      ap (λ n. places_of step n first) (longer k)
      ∙ trail.passes (suc k)
      ∙ ap (λ (ran : Ran Event). trail.places ++ frame ∷ places_of step k ran.config) does
      ∙ sym (append_assoc trail.places (frame ∷ []) (places_of step k next))

  units_more : (n : ℕ) → one_if (unit_at frame) ≡ n → units_in unit_at more ≡ units + n
  units_more n e =
      units_both unit_at trail.places (frame ∷ [])
      ∙ ap (λ k. k + (one_if (unit_at frame) + 0)) trail.begun
      ∙ ap (λ k. units + (k + 0)) e
      ∙ plus_none units n
    where
      plus_none : (a b : ℕ) → a + (b + 0) ≡ a + b
      plus_none a b = omega (arith)

  -- what was passed is still passed, or a unit has begun
  kept_further : (later : Passed) → ((g q : ℕ) → seen g q ≡ true → later g q ≡ true) → later frame.function frame.place ≡ true
      → (i : ℕ) (g : Frame) → slice_get more i ≡ Some g → (later g.function g.place ≡ true) ⊎ BegunBetween unit_at more i (length more)
  kept_further later still own i g at = choose (get_which trail.places frame i g at)
    where
      known : (seen g.function g.place ≡ true) ⊎ BegunBetween unit_at trail.places i (length trail.places) → (later g.function g.place ≡ true) ⊎ BegunBetween unit_at more i (length more)
      known (inl passed) = inl (still g.function g.place passed)
      known (inr begun) = inr (between_on unit_at trail.places (frame ∷ []) i (length trail.places) (length more) no_longer begun)

      choose : (slice_get trail.places i ≡ Some g) ⊎ ((i ≡ length trail.places) × (frame ≡ g)) → (later g.function g.place ≡ true) ⊎ BegunBetween unit_at more i (length more)
      choose (inl old) = known (trail.kept i g old)
      choose (inr (e, is)) = inl (subst (λ (h : Frame). later h.function h.place ≡ true) is own)

  -- a place that was not passed since the last unit
  once_further : seen frame.function frame.place ≡ false → NoneTwice unit_at more
  once_further new = once_more unit_at trail.places frame trail.once last
    where
      same : (n : ℕ) → n ≤ n
      same n = omega (arith)

      choose : (i : ℕ) → (seen frame.function frame.place ≡ true) ⊎ BegunBetween unit_at trail.places i (length trail.places) → BegunBetween unit_at more i (length trail.places)
      choose i (inl passed) = absurd (false≢true (sym new ∙ passed))
      choose i (inr begun) = between_on unit_at trail.places (frame ∷ []) i (length trail.places) (length trail.places) (same (length trail.places)) begun

      last : (i : ℕ) → slice_get trail.places i ≡ Some frame → BegunBetween unit_at more i (length trail.places)
      last i at = choose i (trail.kept i frame at)

  -- a step that begins no unit
  pub trail_on : unit_at frame ≡ false → seen frame.function frame.place ≡ false → Trail step unit_at first units (events ++ shown) (with_place seen frame.function frame.place) next
  trail_on mark new = record {
    places = more;
    goes = goes_further;
    passes = passes_further;
    begun = units_more 0 (ap one_if mark) ∙ plus_none units;
    kept = kept_further (with_place seen frame.function frame.place) (still_passed seen frame.function frame.place) (own_place seen frame.function frame.place);
    once = once_further new;
  }
    where
      plus_none : (a : ℕ) → a + 0 ≡ a
      plus_none a = omega (arith)

  one_more : (a : ℕ) → a + 1 ≡ suc a
  one_more a = omega (arith)

  -- one that begins a unit
  pub trail_begins : unit_at frame ≡ true → (units ≡ 0 → seen frame.function frame.place ≡ false) → Trail step unit_at first (suc units) (events ++ shown) (since units seen frame.function frame.place) next
  trail_begins mark new = by_number units refl
    where
      by_number : (u : ℕ) → units ≡ u → Trail step unit_at first (suc units) (events ++ shown) (since u seen frame.function frame.place) next
      by_number zero e = record {
        places = more;
        goes = goes_further;
        passes = passes_further;
        begun = units_more 1 (ap one_if mark) ∙ one_more units;
        kept = kept_further (with_place seen frame.function frame.place) (still_passed seen frame.function frame.place) (own_place seen frame.function frame.place);
        once = once_further (new e);
      }
      by_number (suc u) e = record {
        places = more;
        goes = goes_further;
        passes = passes_further;
        begun = units_more 1 (ap one_if mark) ∙ one_more units;
        kept = kept;
        once = once_more unit_at trail.places frame trail.once (λ i at. begun_last unit_at trail.places frame i (length trail.places) (slice_get_within trail.places i frame at) (same (length trail.places)) mark some);
      }
        where
          same : (n : ℕ) → n ≤ n
          same n = omega (arith)

          some : 1 ≤ units_in unit_at trail.places
          some = let is = trail.begun in omega (arith, is, e)

          kept : (i : ℕ) (g : Frame) → slice_get more i ≡ Some g → (with_place none_passed frame.function frame.place g.function g.place ≡ true) ⊎ BegunBetween unit_at more i (length more)
          kept i g at = choose (get_which trail.places frame i g at)
            where
              choose : (slice_get trail.places i ≡ Some g) ⊎ ((i ≡ length trail.places) × (frame ≡ g)) → (with_place none_passed frame.function frame.place g.function g.place ≡ true) ⊎ BegunBetween unit_at more i (length more)
              choose (inl old) = inr (begun_last unit_at trail.places frame i (length more) (slice_get_within trail.places i g old) no_longer mark some)
              choose (inr (is_last, is)) = inl (subst (λ (h : Frame). with_place none_passed frame.function frame.place h.function h.place ≡ true) is (own_place none_passed frame.function frame.place))
