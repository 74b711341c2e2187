-- How a process comes to rest: its continuous signals (Z.102 section 11.5). Those of all active states at all levels
-- stand in one list, by priority, where none comes last, and then by the place of PROVIDED alone. They are tested in this
-- order, at a unit each. The first that holds is taken, and the process settles again. Where none holds it is at rest.
-- Departing from Z.100, where the same priority gives no order, the place in the text decides.
use Rattle.std.specs.Prelude.{ℕ, zero, suc, Bool, true, false, cond, ◌&&◌, ◌||◌, List, [], ◌∷◌, ◌++◌, map, nat_lt, nat_eq, Option, Some, None}
use Rattle.std.specs.List.{filter_map}
use Rattle.og_base.specs.declared.Place.{Place}
use Rattle.og_model.specs.declared.Expr.{Expr}
use Rattle.og_model.specs.declared.Handler.{Handler}
use Rattle.og_model.specs.declared.Trigger.{Trigger}
use Rattle.og_model.specs.declared.Trigger.TheVariants as Triggers
use Rattle.og_model.specs.declared.Scope.{Scope}
use Rattle.og_model.specs.declared.StateDef.{StateDef}
use Rattle.og_model.specs.declared.Partition.{Partition, out-Partition}
use Rattle.og_model.specs.declared.StateKind.TheOpen.{Composite, Aggregation}
use Rattle.og_model.specs.declared.Model.{Model}
use Rattle.og_model.specs.Expressions.{eval, no_frame, truth_of}
use Rattle.og_model.specs.Units.{Doing, gives, runs_out, then_do, spend, or_fault}
use Rattle.og_model.specs.Configuration.{Active, Inside, Parts, At, Comp, Agg, Going, Finished, Kind, kind_of, state_at}
use Rattle.og_model.specs.Choice.{Address, Here, Within, InPart}
use Rattle.og_model.specs.Moving.{fire}

-- a continuous signal of an active state
pub record Continuous : Type 0 where
  pub address : Address
  pub place : Place
  pub priority : Option ℕ
  pub condition : Expr
  pub body : ℕ

abbrev pub shifted : (Address → Address) → Continuous → Continuous
shifted f x =
    record { address = f x.address; place = x.place; priority = x.priority; condition = x.condition; body = x.body }

-- ---- all of them

abbrev pub provided_by : Place → ℕ → Trigger → Option Continuous
provided_by place body (Triggers.Provided priority condition) =
    Some (record { address = Here; place = place; priority = priority; condition = condition; body = body })
provided_by place body _ = None

abbrev pub own_continuous : List Handler → List Continuous
own_continuous hs = filter_map (λ (h : Handler). provided_by h.place h.body h.trigger) hs

abbrev pub continuous_at : Option StateDef → (Kind → List Continuous) → List Continuous
continuous_at (Some d) inside = own_continuous d.handlers ++ inside (kind_of d)
continuous_at None inside = []

abbrev mutual
  -- those of all active states of a scope
  pub continuous_of : Scope → Active → List Continuous
  continuous_of m (At k inside) = continuous_at (state_at m k) (λ kind. continuous_inside kind inside)

  pub continuous_inside : Kind → Inside → List Continuous
  continuous_inside (Composite entry exit inner) (Comp a) = map (shifted Within) (continuous_of inner a)
  continuous_inside (Aggregation entry exit qs) (Agg ps) = continuous_in_parts 0 qs ps
  continuous_inside _ _ = []

  -- of the partitions from the i-th on
  pub continuous_in_parts : ℕ → List Partition → Parts → List Continuous
  continuous_in_parts i (q ∷ qs) (Going a ps) =
      map (shifted (InPart i)) (continuous_of (out-Partition q).inner a) ++ continuous_in_parts (suc i) qs ps
  continuous_in_parts i (q ∷ qs) (Finished ps) = continuous_in_parts (suc i) qs ps
  continuous_in_parts i _ _ = []

-- ---- their order

-- the place is the earlier one: by file, then by line, then by column
abbrev pub is_earlier : Place → Place → Bool
is_earlier p q =
    nat_lt p.file q.file || (nat_eq p.file q.file && (nat_lt p.line q.line || (nat_eq p.line q.line && nat_lt p.column q.column)))

-- the lower priority comes first and none comes last; `equal` is the answer where both are alike
abbrev pub is_more_urgent : Option ℕ → Option ℕ → Bool → Bool
is_more_urgent (Some x) (Some y) equal = nat_lt x y || (nat_eq x y && equal)
is_more_urgent (Some x) None equal = true
is_more_urgent None (Some y) equal = false
is_more_urgent None None equal = equal

abbrev pub comes_first : Continuous → Continuous → Bool
comes_first x y = is_more_urgent x.priority y.priority (is_earlier x.place y.place)

-- one more in an ordered list
abbrev pub ordered_with : Continuous → List Continuous → List Continuous
ordered_with x [] = x ∷ []
ordered_with x (y ∷ ys) = cond (comes_first y x) (y ∷ ordered_with x ys) (x ∷ y ∷ ys)

abbrev pub ordered : List Continuous → List Continuous
ordered [] = []
ordered (x ∷ xs) = ordered_with x (ordered xs)

-- ---- testing them

abbrev pub when : {A : Type 0} → Bool → Doing A → Doing A → Doing A
when true one other = one
when false one other = other

-- the first that holds is fired, and then the process settles as `again` says
abbrev pub first_of : Model → (Active → Doing Active) → Active → List Continuous → Doing Active
first_of M again a [] n s = gives a n s
first_of M again a (x ∷ xs) n s =
    spend (or_fault x.place (eval no_frame s.store x.condition) (λ v.
    when (truth_of v) (then_do (fire M x.address x.body a) again) (first_of M again a xs))) n s

-- settles, where the units are at most the fuel
abbrev pub settle_by : ℕ → Model → Active → Doing Active
settle_by zero M a = first_of M (λ a. runs_out) a (ordered (continuous_of M.root a))
settle_by (suc fuel) M a = first_of M (settle_by fuel M) a (ordered (continuous_of M.root a))

-- settles with the units that are there
abbrev pub settle : Model → Active → Doing Active
settle M a n s = settle_by n M a n s
