-- Which handler a stimulus has. The innermost active state that has one takes it, searched outward state by state, also
-- out of a state aggregation (Z.102 section 11.11); partitions are looked at in the order of the text. Departing from
-- Z.100, no two partitions of an aggregation mention the same signal or timer, so that at most one of them answers.
-- Where no state has a handler the stimulus is discarded (the implicit transition of Z.101 section 11.8).
use Rattle.std.specs.Prelude.{ℕ, suc, Bool, false, cond, List, [], ◌∷◌, nat_eq, Option, Some, None}
use Rattle.std.specs.Option.{option_map, option_or}
use Rattle.og_model.specs.declared.Handler.{Handler}
use Rattle.og_model.specs.declared.Trigger.{Trigger}
use Rattle.og_model.specs.declared.Trigger.TheVariants as Triggers
use Rattle.og_model.specs.declared.Scope.{Scope}
use Rattle.og_model.specs.declared.StateDef.{StateDef}
use Rattle.og_model.specs.declared.Partition.{Partition, out-Partition}
use Rattle.og_model.specs.declared.StateKind.TheOpen.{Composite, Aggregation}
use Rattle.og_model.specs.Shown.{Stimulus, Signal, Expiry}
use Rattle.og_model.specs.Configuration.{Active, Inside, Parts, At, Comp, Agg, Going, Finished, Kind, kind_of, state_at}

-- an active state: the one of this scope, or one inside it, in a composite state or in a partition of an aggregation
pub data Address : Type 0 where
  Here : Address
  Within : (inner : Address) → Address
  InPart : (partition : ℕ) (inner : Address) → Address

-- the handler and the state that has it
pub record Found : Type 0 where
  pub address : Address
  pub handler : Handler

abbrev pub moved : (Address → Address) → Found → Found
moved f x = record { address = f x.address; handler = x.handler }

-- the trigger is met by the stimulus
abbrev pub meets : Stimulus → Trigger → Bool
meets (Signal k vs) (Triggers.Input signal into) = nat_eq k signal
meets (Expiry t) (Triggers.Expiry timer) = nat_eq t timer
meets _ _ = false

-- among the state's own handlers
abbrev pub own_handler : Stimulus → List Handler → Option Found
own_handler x [] = None
own_handler x (h ∷ hs) = cond (meets x h.trigger) (Some (record { address = Here; handler = h })) (own_handler x hs)

-- first in the inside of the state, then among its own handlers
abbrev pub found_in : Option StateDef → Stimulus → (Kind → Option Found) → Option Found
found_in (Some d) x inside = option_or (inside (kind_of d)) (own_handler x d.handlers)
found_in None x inside = None

abbrev mutual
  -- the handler of a stimulus in a scope
  pub handler_of : Stimulus → Scope → Active → Option Found
  handler_of x m (At k inside) = found_in (state_at m k) x (λ kind. handler_inside x kind inside)

  pub handler_inside : Stimulus → Kind → Inside → Option Found
  handler_inside x (Composite entry exit inner) (Comp a) = option_map (moved Within) (handler_of x inner a)
  handler_inside x (Aggregation entry exit qs) (Agg ps) = handler_in_parts x 0 qs ps
  handler_inside x _ _ = None

  -- in the partitions from the i-th on
  pub handler_in_parts : Stimulus → ℕ → List Partition → Parts → Option Found
  handler_in_parts x i (q ∷ qs) (Going a ps) =
      option_or (option_map (moved (InPart i)) (handler_of x (out-Partition q).inner a)) (handler_in_parts x (suc i) qs ps)
  handler_in_parts x i (q ∷ qs) (Finished ps) = handler_in_parts x (suc i) qs ps
  handler_in_parts x i _ _ = None
