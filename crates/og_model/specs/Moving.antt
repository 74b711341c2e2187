-- How a process goes from state to state: leaving, entering, completing and firing (Z.101 sections 11.1, 11.2 and
-- 11.12.2, Z.102 section 11.11). The order is this project's own where Z.102 leaves it open. Leaving goes innermost first:
-- the inside, then the state's `exit`. Entering goes outermost first: `entry`, then the inner start. A composite state
-- whose scope returns is completed: its `exit` runs and then its CONNECT of that exit point. A partition that returns is
-- done, and where all are done the aggregation is completed. Entering a state or a partition costs a unit, nothing else
-- here does.
use Rattle.std.specs.Prelude.{ℕ, zero, suc, Bool, true, false, List, [], ◌∷◌, slice_get, find, nat_eq, Option, Some, None, ⊤}
use Rattle.std.specs.Option.{option_map, option_and_then}
use Rattle.og_base.specs.declared.Place.{Place}
use Rattle.og_names.specs.declared.NameId.{NameId}
use Rattle.og_types.specs.declared.Value.{Value}
use Rattle.og_model.specs.declared.VarId.{VarId}
use Rattle.og_model.specs.declared.Body.{Body}
use Rattle.og_model.specs.declared.Start.{Start}
use Rattle.og_model.specs.declared.Handler.{Handler}
use Rattle.og_model.specs.declared.Trigger.{Trigger}
use Rattle.og_model.specs.declared.Trigger.TheVariants as Triggers
use Rattle.og_model.specs.declared.Scope.{Scope, out-Scope}
use Rattle.og_model.specs.declared.StateDef.{StateDef}
use Rattle.og_model.specs.declared.Partition.{Partition, out-Partition}
use Rattle.og_model.specs.declared.StateKind.TheOpen.{Composite, Aggregation, Basic as Plain}
use Rattle.og_model.specs.declared.Model.{Model}
use Rattle.og_model.specs.Units.{Doing, gives, runs_out, then_do, spend, or_fault, storing}
use Rattle.og_model.specs.Actions.{Remainder, Ended, Next, Dash, Return, piece_of, in_scope, going_at, called, run, perform, received}
use Rattle.og_model.specs.Configuration.{Active, Inside, Parts, At, Basic, Comp, Agg, NoParts, Going, Finished, add_part, part_at, with_part, all_done, Kind, kind_of, state_at, kind_at}
use Rattle.og_model.specs.Choice.{Address, Here, Within, InPart}

-- ---- hooks and leaving

-- an `entry` or `exit`, where there is one: a call without arguments
abbrev pub hook : Model → Option ℕ → Doing ⊤
hook M None n s = gives tt n s
hook M (Some p) n s = then_do (called (run n M) M p []) (λ v. gives tt) n s

abbrev pub exit_of : Kind → Option ℕ
exit_of Plain = None
exit_of (Composite entry exit inner) = exit
exit_of (Aggregation entry exit qs) = exit

-- the inside of a state is left, and then its `exit` runs
abbrev pub out_of : Model → Option StateDef → (Kind → Doing ⊤) → Doing ⊤
out_of M (Some d) inside = then_do (inside (kind_of d)) (λ done. hook M (exit_of (kind_of d)))
out_of M None inside = runs_out

abbrev mutual
  -- the active state of a scope is left
  pub leave_scope : Model → Scope → Active → Doing ⊤
  leave_scope M m (At k inside) = out_of M (state_at m k) (λ kind. leave M kind inside)

  -- the inside of a state is left
  pub leave : Model → Kind → Inside → Doing ⊤
  leave M Plain Basic = gives tt
  leave M (Composite entry exit inner) (Comp a) = leave_scope M inner a
  leave M (Aggregation entry exit qs) (Agg ps) = leave_parts M qs ps
  leave M _ _ = runs_out

  -- each partition that is not done: its active state, and then its own `exit`
  pub leave_parts : Model → List Partition → Parts → Doing ⊤
  leave_parts M qs NoParts = gives tt
  leave_parts M (q ∷ qs) (Going a ps) =
      then_do (leave_scope M (out-Partition q).inner a) (λ done.
      then_do (hook M (out-Partition q).exit) (λ done.
      leave_parts M qs ps))
  leave_parts M (q ∷ qs) (Finished ps) = leave_parts M qs ps
  leave_parts M [] _ = runs_out

-- ---- bodies of a scope, and what follows them

abbrev pub block_at : List Body → ℕ → Option Remainder
block_at bodies k = option_map (λ (x : Body). piece_of x.block ∷ []) (slice_get bodies k)

-- a body of a scope is carried out
abbrev pub transition : Model → Scope → Option ℕ → Doing Ended
transition M m k =
    going_at (perform M) (in_scope (out-Scope m).bodies) (option_and_then (block_at (out-Scope m).bodies) k)

abbrev pub same_point : Option NameId → Option NameId → Bool
same_point None None = true
same_point (Some x) (Some y) = nat_eq x.0 y.0
same_point _ _ = false

-- the body of the start with this name, or of the one without a name
abbrev pub start_named : Scope → Option NameId → Option ℕ
start_named m name = option_map (λ (x : Start). x.body) (find (λ (x : Start). same_point x.entry name) (out-Scope m).starts)

-- what a scope arrives at: its active state, or a return by an exit point
pub data Arrival : Type 0 where
  In : (active : Active) → Arrival
  Returned : (exit : Option NameId) → Arrival

-- how a state of a scope is entered, by an entry point
abbrev pub Entering : Type 0
Entering = Scope → ℕ → Option NameId → Doing Arrival

-- goes on after a body: with a state, with the state from which it began, or with a return
abbrev pub after : Entering → Scope → Option ℕ → Ended → Doing Arrival
after enter m origin (Next k entry) n s = enter m k entry n s
after enter m (Some k) Dash n s = enter m k None n s
after enter m None Dash n s = runs_out n s
after enter m origin (Return exit v) n s = gives (Returned exit) n s

-- ---- completing

abbrev pub connects : Option NameId → Trigger → Bool
connects exit (Triggers.Connect point) = same_point exit point
connects exit _ = false

-- the body of a state's CONNECT of an exit point
abbrev pub connection_of : Option NameId → StateDef → Option ℕ
connection_of exit d =
    option_map (λ (x : Handler). x.body) (find (λ (x : Handler). connects exit x.trigger) d.handlers)

-- the CONNECT of state k, which began in that state
abbrev pub connect : Model → Entering → Scope → ℕ → Option NameId → Doing Arrival
connect M enter m k exit =
    then_do (transition M m (option_and_then (connection_of exit) (state_at m k))) (after enter m (Some k))

-- the state's `exit` runs, and then its CONNECT
abbrev pub complete : Model → Entering → Scope → ℕ → Option ℕ → Option NameId → Doing Arrival
complete M enter m k exit point = then_do (hook M exit) (λ done. connect M enter m k point)

-- what a composite state's scope arrived at
abbrev pub in_composite : Model → Entering → Scope → ℕ → Option ℕ → Arrival → Doing Arrival
in_composite M enter m k exit (In a) n s = gives (In (At k (Comp a))) n s
in_composite M enter m k exit (Returned point) n s = complete M enter m k exit point n s

-- what a partition arrived at: where it returned, its `exit` runs and it is done
abbrev pub in_partition : Model → Option ℕ → Arrival → Doing (Option Active)
in_partition M exit (In a) n s = gives (Some a) n s
in_partition M exit (Returned point) n s = then_do (hook M exit) (λ done. gives None) n s

abbrev pub complete_if : Bool → Model → Entering → Scope → ℕ → Option ℕ → Parts → Doing Arrival
complete_if true M enter m k exit ps = complete M enter m k exit None
complete_if false M enter m k exit ps = gives (In (At k (Agg ps)))

-- an aggregation goes on until all its partitions are done
abbrev pub in_aggregation : Model → Entering → Scope → ℕ → Option ℕ → Parts → Doing Arrival
in_aggregation M enter m k exit ps = complete_if (all_done ps) M enter m k exit ps

-- ---- entering

-- a start of a scope
abbrev pub started : Model → Entering → Scope → Option NameId → Doing Arrival
started M enter m name = then_do (transition M m (start_named m name)) (after enter m None)

-- one partition after the other: a unit, its `entry`, its unnamed start
abbrev pub enter_parts : Model → Entering → List Partition → Doing Parts
enter_parts M enter [] = gives NoParts
enter_parts M enter (q ∷ qs) =
    then_do (spend (hook M (out-Partition q).entry)) (λ done.
    then_do (started M enter (out-Partition q).inner None) (λ x.
    then_do (in_partition M (out-Partition q).exit x) (λ part.
    then_do (enter_parts M enter qs) (λ ps.
    gives (add_part part ps)))))

-- inside a state that was entered: nothing; its `entry` and the start that is named; its `entry` and each partition
abbrev pub enter_kind : Model → Entering → Scope → ℕ → Option NameId → Option Kind → Doing Arrival
enter_kind M enter m k name (Some Plain) = gives (In (At k Basic))
enter_kind M enter m k name (Some (Composite entry exit inner)) =
    then_do (hook M entry) (λ done.
    then_do (started M enter inner name)
    (in_composite M enter m k exit))
enter_kind M enter m k name (Some (Aggregation entry exit qs)) =
    then_do (hook M entry) (λ done.
    then_do (enter_parts M enter qs)
    (in_aggregation M enter m k exit))
enter_kind M enter m k name None = runs_out

-- a state of a scope is entered, where the units are at most the fuel
abbrev pub enter_by : ℕ → Model → Entering
enter_by zero M m k name = runs_out
enter_by (suc fuel) M m k name = spend (enter_kind M (enter_by fuel M) m k name (kind_at m k))

-- a state of a scope is entered with the units that are there
abbrev pub enter : Model → Entering
enter M m k name n s = enter_by n M m k name n s

-- ---- firing

-- the values of an input go to its variables from left to right
abbrev pub assign_values : Model → Place → List VarId → List Value → Doing ⊤
assign_values M place (x ∷ xs) (v ∷ vs) n s =
    or_fault place (received M (in_scope []) s.store x v) (λ store. storing store (assign_values M place xs vs)) n s
assign_values M place _ _ n s = gives tt n s

abbrev pub at_composite : Option Kind → (Option ℕ → Scope → Doing Arrival) → Doing Arrival
at_composite (Some (Composite entry exit inner)) next = next exit inner
at_composite _ next = runs_out

abbrev pub with_both : {A B C : Type 0} → Option A → Option B → (A → B → Doing C) → Doing C
with_both (Some a) (Some b) next = next a b
with_both _ _ next = runs_out

abbrev pub at_partition : Option Kind → ℕ → Parts → (Option ℕ → Partition → Active → Doing Arrival) → Doing Arrival
at_partition (Some (Aggregation entry exit qs)) i ps next = with_both (slice_get qs i) (part_at ps i) (next exit)
at_partition _ i ps next = runs_out

-- a body of an active state of this scope or of one inside it: the state is left, the body runs, and each scope around it
-- goes on with what the inner one arrived at
abbrev pub fire_at : Model → Entering → ℕ → Address → Scope → Active → Doing Arrival
fire_at M enter body Here m (At k inside) =
    then_do (out_of M (state_at m k) (λ kind. leave M kind inside)) (λ done.
    then_do (transition M m (Some body))
    (after enter m (Some k)))
fire_at M enter body (Within address) m (At k (Comp a)) =
    at_composite (kind_at m k) (λ exit inner.
    then_do (fire_at M enter body address inner a)
    (in_composite M enter m k exit))
fire_at M enter body (InPart i address) m (At k (Agg ps)) =
    at_partition (kind_at m k) i ps (λ exit q a.
    then_do (fire_at M enter body address (out-Partition q).inner a) (λ x.
    then_do (in_partition M (out-Partition q).exit x) (λ part.
    in_aggregation M enter m k exit (with_part ps i part))))
fire_at M enter body _ m a = runs_out

-- the process has no exit points
abbrev pub at_root : Arrival → Doing Active
at_root (In a) = gives a
at_root (Returned exit) = runs_out

-- a body of an active state of the process
abbrev pub fire : Model → Address → ℕ → Active → Doing Active
fire M address body a = then_do (fire_at M (enter M) body address M.root a) at_root
