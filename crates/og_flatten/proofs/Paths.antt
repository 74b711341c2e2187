-- The units of a run of the code, in their order: a step of the code begins the unit that stands beside it, or none.
use Rattle.std.proofs.Common.{◌≡◌, ℕ, zero, suc, ◌+◌, Bool, true, false, List, [], ◌∷◌, ◌++◌, slice_get, Option, Some, None, refl, sym, ap, subst, ◌∙◌}
use Rattle.std.specs.Option.{is_some, option_or}
use Rattle.std.proofs.lemmas.Bool.{false≢true}
use Rattle.std.proofs.lemmas.Option.{none-some}
use Rattle.og_names.proofs.Truths.{same_value as some_is}
use Rattle.og_model.specs.declared.Model.{Model}
use Rattle.og_model.specs.Shown.{Event}
use Rattle.og_ir.specs.Cells.{Cells}
use Rattle.og_ir.specs.Steps.{Frame, Config, Running, Over, Broken, Ran, exec}
use Rattle.og_follow.specs.Cuts.{places_of}
use Rattle.og_flatten.specs.Units.{Cost, A_step, An_ending, An_entering, with_unit, units_begun, unit_of, InOrder}
use Rattle.og_flatten.proofs.SingleSteps.{step_of}
use Rattle.og_flatten.proofs.Serving.{serves}

abbrev pub is_a_step : Option Cost → Bool
is_a_step None = false
is_a_step (Some (A_step body i)) = true
is_a_step (Some (An_ending body)) = false
is_a_step (Some (An_entering k)) = false

abbrev is_over : Config → Bool
is_over (Running slots frame callers) = false
is_over (Over slots) = true
is_over (Broken trouble) = false

unit_before : (o : Option Cost) (xs ys : List Cost) → with_unit o xs ++ ys ≡ with_unit o (xs ++ ys)
unit_before None xs ys = refl
unit_before (Some cost) xs ys = refl

module _ (M : Model) where
  -- behind a step the next unit begins
  abbrev Follows : Frame → List Frame → Type 0
  Follows f [] = Unit {0}
  Follows f (g ∷ gs) = is_a_step (serves M f) ≡ true → is_some (serves M g) ≡ true

  abbrev Steady : List Frame → Type 0
  Steady [] = Unit {0}
  Steady (f ∷ fs) = Follows f fs × Steady fs

  -- a unit begins where the run stands, or it has ended
  abbrev pub Starts : Config → Type 0
  Starts (Running slots frame callers) = is_some (serves M frame) ≡ true
  Starts (Over slots) = Unit {0}
  Starts (Broken trouble) = Unit {0}

  -- these units begin from here on
  pub record Runs (now : Config) (costs : List Cost) : Type 0 where
    pub order : (n : ℕ) → InOrder (serves M) (places_of (step_of M) n now) (exec (step_of M) n now).config costs
    pub steady : (n : ℕ) → Steady (places_of (step_of M) n now)

  -- nothing more
  pub over_runs : (slots : List Cells) → Runs (Over slots) []
  over_runs slots = record { order = order; steady = steady }
    where
      order : (n : ℕ) → InOrder (serves M) (places_of (step_of M) n (Over slots)) (exec (step_of M) n (Over slots)).config []
      order zero = record { left = []; all = refl; over = λ s e. refl }
      order (suc n) = record { left = []; all = refl; over = λ s e. refl }

      steady : (n : ℕ) → Steady (places_of (step_of M) n (Over slots))
      steady zero = tt
      steady (suc n) = tt

  follows_by : (f : Frame) (o : Option Cost) → serves M f ≡ o → (next : Config) → (is_a_step o ≡ true → Starts next) → (n : ℕ) → Follows f (places_of (step_of M) n next)
  follows_by f o is next starts zero = tt
  follows_by f o is (Running slots frame callers) starts (suc n) = λ e. starts (ap is_a_step (sym is) ∙ e)
  follows_by f o is (Over slots) starts (suc n) = tt
  follows_by f o is (Broken trouble) starts (suc n) = tt

  -- one step, which begins this unit or none
  pub step_runs : (slots : List Cells) (f : Frame) (callers : List Frame) (o : Option Cost) (events : List Event) (next : Config) (costs : List Cost) → serves M f ≡ o → step_of M (Running slots f callers) ≡ record { events = events; config = next } → (is_a_step o ≡ true → Starts next) → Runs next costs → Runs (Running slots f callers) (with_unit o costs)
  step_runs slots f callers o events next costs is does starts rest = record { order = order; steady = steady }
    where
      order : (n : ℕ) → InOrder (serves M) (places_of (step_of M) n (Running slots f callers)) (exec (step_of M) n (Running slots f callers)).config (with_unit o costs)
      order zero = record { left = with_unit o costs; all = refl; over = λ s e. absurd (false≢true (ap is_over e)) }
      order (suc n) =
          let r = rest.order n in
          record {
            left = r.left;
            all = ap (λ u. with_unit u (units_begun (serves M) (places_of (step_of M) n (step_of M (Running slots f callers)).config)) ++ r.left) is
                ∙ ap (λ (ran : Ran Event). with_unit o (units_begun (serves M) (places_of (step_of M) n ran.config)) ++ r.left) does
                ∙ unit_before o (units_begun (serves M) (places_of (step_of M) n next)) r.left
                ∙ ap (with_unit o) r.all;
            over = λ s e. r.over s (ap (λ (ran : Ran Event). (exec (step_of M) n ran.config).config) (sym does) ∙ e);
          }

      steady : (n : ℕ) → Steady (places_of (step_of M) n (Running slots f callers))
      steady zero = tt
      steady (suc n) =
          subst (λ (ran : Ran Event). Follows f (places_of (step_of M) n ran.config) × Steady (places_of (step_of M) n ran.config)) (sym does) (follows_by f o is next starts n, rest.steady n)

  -- ---- the unit to which a place belongs

  -- where a step began last, a unit begins here
  abbrev Leads : Option Cost → List Frame → Type 0
  Leads last [] = Unit {0}
  Leads last (g ∷ gs) = is_a_step last ≡ true → is_some (serves M g) ≡ true

  leads_on : (f : Frame) (fs : List Frame) (last o : Option Cost) → serves M f ≡ o → (is_a_step last ≡ true → is_some o ≡ true) → Follows f fs → Leads (option_or o last) fs
  leads_on f [] last o is starts follows = tt
  leads_on f (g ∷ gs) last None is starts follows = λ e. absurd (false≢true (starts e))
  leads_on f (g ∷ gs) last (Some cost) is starts follows = λ e. follows (ap is_a_step is ∙ e)

  -- what belongs to a step is its own place
  pub own_place : (frames : List Frame) (last : Option Cost) (i body number : ℕ) (f : Frame) → Steady frames → Leads last frames → slice_get frames i ≡ Some f → unit_of (serves M) last frames i ≡ Some (A_step body number) → serves M f ≡ Some (A_step body number)
  own_place [] last i body number f steady leads at is = absurd (none-some f at)
  own_place (g ∷ gs) last zero body number f steady leads at is = by_unit (serves M g) refl is
    where
      by_unit : (o : Option Cost) → serves M g ≡ o → option_or o last ≡ Some (A_step body number) → serves M f ≡ Some (A_step body number)
      by_unit (Some cost) e same = ap (serves M) (sym (some_is g f at)) ∙ e ∙ same
      by_unit None e same = absurd (false≢true (ap is_some (sym e) ∙ leads (ap is_a_step same)))
  own_place (g ∷ gs) last (suc i) body number f steady leads at is =
      own_place gs (option_or (serves M g) last) i body number f steady.1 (leads_on g gs last (serves M g) refl leads steady.0) at is

  -- where a unit begins, the place belongs to it
  pub belongs : (frames : List Frame) (last : Option Cost) (i : ℕ) (f : Frame) (cost : Cost) → slice_get frames i ≡ Some f → serves M f ≡ Some cost → unit_of (serves M) last frames i ≡ Some cost
  belongs [] last i f cost at is = absurd (none-some f at)
  belongs (g ∷ gs) last zero f cost at is = ap (λ o. option_or o last) (ap (serves M) (some_is g f at) ∙ is)
  belongs (g ∷ gs) last (suc i) f cost at is = belongs gs (option_or (serves M g) last) i f cost at is

  pub own_units : (one two : List Frame) (i j body number : ℕ) (f : Frame) → Steady one → slice_get one i ≡ Some f → slice_get two j ≡ Some f → unit_of (serves M) None one i ≡ Some (A_step body number) → unit_of (serves M) None two j ≡ Some (A_step body number)
  own_units one two i j body number f steady at at' is = belongs two None j f (A_step body number) at' (own_place one None i body number f steady (nothing_last one) at is)
    where
      nothing_last : (frames : List Frame) → Leads None frames
      nothing_last [] = tt
      nothing_last (g ∷ gs) = λ e. absurd (false≢true e)
