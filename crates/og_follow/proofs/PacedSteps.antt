-- Runs at a pace: one step as a whole, what ended stays, and a longer run shows at least what a shorter one shows.
use Rattle.std.proofs.Common.{◌≡◌, ℕ, zero, suc, ◌+◌, ◌≤◌, Bool, true, false, nat_lt, if◌then◌else◌, List, ◌++◌, refl, sym, ap, subst, ◌∙◌, arith}
use Rattle.std.proofs.lemmas.Bool.{lt-ltb, le-ltb}
use Rattle.std.proofs.lemmas.List.{append_assoc}
use Rattle.og_ir.specs.Cells.{Cells}
use Rattle.og_ir.specs.Arithmetic.{Trouble}
use Rattle.og_ir.specs.Steps.{Config, Running, Over, Broken, Ran, quiet, joined, and_then}
use Rattle.og_csubset.specs.Paced.{Pace, IsPace, statements_at, exec_paced}
use Rattle.og_follow.specs.Answers.{Stays}

-- one statement, where the step is complete with it or not
abbrev one_by : {E : Type 0} → Bool → Pace → (Config → Ran E) → ℕ → ℕ → Config → Ran E
one_by true pace step n begun config = exec_paced pace step n (begun + 1) config
one_by false pace step n begun config = and_then (step config) (exec_paced pace step n 0)

one_is : {E : Type 0} (pace : Pace) (step : Config → Ran E) (n begun : ℕ) (config : Config) → exec_paced pace step (suc n) begun config ≡ one_by (nat_lt (begun + 1) (statements_at pace config)) pace step n begun config
one_is pace step n begun config = by_choice (nat_lt (begun + 1) (statements_at pace config))
  where
    by_choice : (b : Bool) → (if b then exec_paced pace step n (begun + 1) config else and_then (step config) (exec_paced pace step n 0)) ≡ one_by b pace step n begun config
    by_choice true = refl
    by_choice false = refl

lt_true : (a b : ℕ) → a + 1 ≤ b → nat_lt a b ≡ true
lt_true a b le = lt-ltb a b (omega (arith, le))

lt_false : (a b : ℕ) → b ≤ a → nat_lt a b ≡ false
lt_false a b le = le-ltb a b le

suc_plus : (m k : ℕ) → suc m + k ≡ suc (m + k)
suc_plus m k = omega (arith)

plus_zero : (k : ℕ) → zero + k ≡ k
plus_zero k = omega (arith)

-- the statements that are left of a step, and then k more
rest_of_step : {E : Type 0} (pace : Pace) (step : Config → Ran E) (left k begun : ℕ) (config : Config) → begun + suc left ≡ statements_at pace config → exec_paced pace step (suc left + k) begun config ≡ and_then (step config) (exec_paced pace step k 0)
rest_of_step pace step zero k begun config e =
    ap (λ n. exec_paced pace step n begun config) (suc_plus zero k)
    ∙ ap (λ n. exec_paced pace step n begun config) (ap suc (plus_zero k))
    ∙ one_is pace step k begun config
    ∙ ap (λ b. one_by b pace step k begun config) (lt_false (begun + 1) (statements_at pace config) (omega (arith, e)))
rest_of_step pace step (suc left) k begun config e =
    ap (λ n. exec_paced pace step n begun config) (suc_plus (suc left) k)
    ∙ one_is pace step (suc left + k) begun config
    ∙ ap (λ b. one_by b pace step (suc left + k) begun config) (lt_true (begun + 1) (statements_at pace config) (omega (arith, e)))
    ∙ rest_of_step pace step left k (begun + 1) config (omega (arith, e))

-- each configuration takes a statement or more
pub at_least_one : (pace : Pace) → IsPace pace → (config : Config) → 1 ≤ statements_at pace config
at_least_one pace is_pace (Running slots frame callers) = is_pace frame.function frame.place
at_least_one pace is_pace (Over slots) = omega (arith)
at_least_one pace is_pace (Broken trouble) = omega (arith)

-- a whole step, and then k statements
pub whole_step : {E : Type 0} (pace : Pace) → IsPace pace → (step : Config → Ran E) (k : ℕ) (config : Config) → exec_paced pace step (statements_at pace config + k) 0 config ≡ and_then (step config) (exec_paced pace step k 0)
whole_step pace is_pace step k config = by_number (statements_at pace config) refl (at_least_one pace is_pace config)
  where
    by_number : (n : ℕ) → statements_at pace config ≡ n → 1 ≤ n → exec_paced pace step (n + k) 0 config ≡ and_then (step config) (exec_paced pace step k 0)
    by_number zero e le = absurd (omega (arith, le))
    by_number (suc n) e le = rest_of_step pace step n k 0 config (omega (arith, e))

-- what is over or broken is not changed by more statements
pub over_for_good : {E : Type 0} (pace : Pace) (step : Config → Ran E) → Stays step → (k begun : ℕ) (slots : List Cells) → exec_paced pace step k begun (Over slots) ≡ quiet (Over slots)
over_for_good pace step stays zero begun slots = refl
over_for_good pace step stays (suc k) begun slots =
    one_is pace step k begun (Over slots)
    ∙ ap (λ b. one_by b pace step k begun (Over slots)) (lt_false (begun + 1) 1 (omega (arith)))
    ∙ ap (λ ran. and_then ran (exec_paced pace step k 0)) (stays.over slots)
    ∙ over_for_good pace step stays k 0 slots

pub broken_for_good : {E : Type 0} (pace : Pace) (step : Config → Ran E) → Stays step → (k begun : ℕ) (trouble : Trouble) → exec_paced pace step k begun (Broken trouble) ≡ quiet (Broken trouble)
broken_for_good pace step stays zero begun trouble = refl
broken_for_good pace step stays (suc k) begun trouble =
    one_is pace step k begun (Broken trouble)
    ∙ ap (λ b. one_by b pace step k begun (Broken trouble)) (lt_false (begun + 1) 1 (omega (arith)))
    ∙ ap (λ ran. and_then ran (exec_paced pace step k 0)) (stays.broken trouble)
    ∙ broken_for_good pace step stays k 0 trouble

-- What k statements more add to a run: from where it has come to there are some events, and a run that ended stays.
pub record Later {E : Type 0} (pace : Pace) (step : Config → Ran E) (short long : Ran E) : Type 0 where
  pub events : List E
  pub shown : long.events ≡ short.events ++ events
  pub over : (slots : List Cells) → short.config ≡ Over slots → long ≡ short
  pub broken : (trouble : Trouble) → short.config ≡ Broken trouble → long ≡ short

later_joined : {E : Type 0} (pace : Pace) (step : Config → Ran E) (before : List E) (short long : Ran E) → Later pace step short long → Later pace step (joined before short) (joined before long)
later_joined pace step before short long later = record {
  events = later.events;
  shown = ap (λ es. before ++ es) later.shown ∙ sym (append_assoc before short.events later.events);
  over = λ slots e. ap (joined before) (later.over slots e);
  broken = λ trouble e. ap (joined before) (later.broken trouble e);
}

from_there : {E : Type 0} (pace : Pace) (step : Config → Ran E) → Stays step → (k begun : ℕ) (config : Config) → Later pace step (quiet config) (exec_paced pace step k begun config)
from_there pace step stays k begun config = record {
  events = (exec_paced pace step k begun config).events;
  shown = refl;
  over = λ slots e. subst (λ c. exec_paced pace step k begun c ≡ quiet c) (sym e) (over_for_good pace step stays k begun slots);
  broken = λ trouble e. subst (λ c. exec_paced pace step k begun c ≡ quiet c) (sym e) (broken_for_good pace step stays k begun trouble);
}

pub goes_later : {E : Type 0} (pace : Pace) (step : Config → Ran E) → Stays step → (m k begun : ℕ) (config : Config) → Later pace step (exec_paced pace step m begun config) (exec_paced pace step (m + k) begun config)
goes_later pace step stays zero k begun config = rw (plus_zero k) (from_there pace step stays k begun config)
goes_later pace step stays (suc m) k begun config =
    rw (suc_plus m k)
    (rw (one_is pace step m begun config)
    (rw (one_is pace step (m + k) begun config)
    (by_choice (goes_later pace step stays m k (begun + 1) config) (goes_later pace step stays m k 0 (step config).config) (nat_lt (begun + 1) (statements_at pace config)))))
  where
    by_choice : Later pace step (exec_paced pace step m (begun + 1) config) (exec_paced pace step (m + k) (begun + 1) config)
        → Later pace step (exec_paced pace step m 0 (step config).config) (exec_paced pace step (m + k) 0 (step config).config)
        → (b : Bool) → Later pace step (one_by b pace step m begun config) (one_by b pace step (m + k) begun config)
    by_choice waits goes true = waits
    by_choice waits goes false =
        let here = step config in
        later_joined pace step here.events (exec_paced pace step m 0 here.config) (exec_paced pace step (m + k) 0 here.config) goes
