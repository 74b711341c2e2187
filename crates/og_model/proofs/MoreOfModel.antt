-- More units, for each part of a model's meaning: bodies, hooks, leaving, entering, firing, settling, the start and one
-- stimulus.
use Rattle.std.proofs.Common.{◌≡◌, ℕ, zero, suc, ◌+◌, ◌≤◌, Bool, true, false, List, [], ◌∷◌, length, Option, Some, None, refl, le_refl, get_or, slice_get, option_and_then, arith}
use Rattle.og_base.specs.declared.Place.{Place}
use Rattle.og_names.specs.declared.NameId.{NameId}
use Rattle.og_types.specs.declared.Value.{Value}
use Rattle.og_model.specs.declared.VarId.{VarId}
use Rattle.og_model.specs.declared.Block.{Block}
use Rattle.og_model.specs.declared.Branch.{Branch}
use Rattle.og_model.specs.declared.Step.{Step}
use Rattle.og_model.specs.declared.Action.{Action, Action-F, out-Action}
use Rattle.og_model.specs.declared.Action.TheOpen.{Nothing, Assign, Output, SetTimer, ResetTimer, Append, Call, Decide}
use Rattle.og_model.specs.declared.EndKind.{EndKind}
use Rattle.og_model.specs.declared.EndKind.TheVariants as EndKinds
use Rattle.og_model.specs.declared.Proc.{Proc}
use Rattle.og_model.specs.declared.Scope.{Scope, out-Scope}
use Rattle.og_model.specs.declared.StateDef.{StateDef}
use Rattle.og_model.specs.declared.Partition.{Partition, out-Partition}
use Rattle.og_model.specs.declared.StateKind.TheOpen.{Composite, Aggregation, Basic as Plain}
use Rattle.og_model.specs.declared.Model.{Model}
use Rattle.og_model.specs.Expressions.{Passed, eval, no_frame, number_of, on_value, truth_of}
use Rattle.og_model.specs.Shown as Shown
use Rattle.og_model.specs.Units.{State, Done, Stop, Out, Doing, gives, runs_out, then_do, spend, timing}
use Rattle.og_model.specs.Actions.{Remainder, Front, Nowhere, Begins, Ends, Setting, Ended, Next, Dash, Return, Going, going_at, in_scope, assigned, appended, values_of, sorts_of, duration_of, branch_for, in_front, passed_to, formals_of, own_values, with_call, calls_below, start_of, returned, setting_of, called_with, called, received, receiving, act_on, end_with, act, front, run, perform, tail, tested}
use Rattle.og_model.specs.Configuration.{Active, Inside, Parts, At, Basic, Comp, Agg, NoParts, Going as Running, Finished, add_part, part_at, with_part, all_done, Kind, kind_of, state_at, kind_at}
use Rattle.og_model.specs.Choice.{Address, Here, Within, InPart, Found, handler_of}
use Rattle.og_model.specs.Moving.{hook, exit_of, out_of, leave_scope, leave, leave_parts, block_at, transition, start_named, Arrival, In, Returned, Entering, after, connection_of, connect, complete, in_composite, in_partition, complete_if, in_aggregation, started, enter_parts, enter_kind, enter_by, enter, assign_values, at_composite, with_both, at_partition, fire_at, at_root, fire}
use Rattle.og_model.specs.Settling.{Continuous, continuous_of, ordered, when, first_of, settle_by, settle}
use Rattle.og_model.specs.Run.{start, handled, expired, taken, step, variables_of}
use Rattle.og_model.proofs.MoreUnits.{Extends, ends_extend, Tied, ends_tied, showing_tied, then_do_tied, spend_tied, or_fault_tied, moved_tied, storing_tied, reading_tied, lower_tied, now_tied, low_tied, low_extend}

-- ---- bodies

abbrev pub GoingTied : ℕ → ℕ → Going → Going → Type 0
GoingTied f g go go' = (b : Setting) (rest : Remainder) → Tied f g (go b rest) (go' b rest)

going_at_tied : {f g : ℕ} {go go' : Going} → GoingTied f g go go' → (b : Setting) (rest : Option Remainder) → Tied f g (going_at go b rest) (going_at go' b rest)
going_at_tied t b (Some rest) = t b rest
going_at_tied t b None = ends_tied Out

timing_tied : {A : Type 0} {f g : ℕ} {d d' : Doing A} (timers : List Bool) → Tied f g d d' → Tied f g (timing timers d) (timing timers d')
timing_tied timers t = moved_tied (λ (s : State). record s { timers = timers }) t

returned_tied : {f g : ℕ} (call : ℕ) (x : Ended) → Tied f g (returned call x) (returned call x)
returned_tied call (Return exit v) = moved_tied (λ (s : State). record s { store = calls_below call s.store }) (ends_tied (Done v))
returned_tied call (Next k entry) = ends_tied Out
returned_tied call Dash = ends_tied Out

called_with_tied : {f g : ℕ} {go go' : Going} → GoingTied f g go go' → (p : Option Proc) (ps : List Passed) → Tied f g (called_with go p ps) (called_with go' p ps)
called_with_tied t None ps = ends_tied Out
called_with_tied t (Some p) ps = reading_tied (λ s.
    then_do_tied
    (storing_tied (with_call (own_values ps p.locals) s.store)
    (going_at_tied t (setting_of p (length s.store.calls) ps) (start_of p.bodies)))
    (returned_tied (length s.store.calls)))

receiving_tied : {f g : ℕ} {next next' : Doing Ended} (M : Model) (b : Setting) (place : Place) (x : Option VarId)
    → Tied f g next next' → (v : Option Value) → Tied f g (receiving M b place x next v) (receiving M b place x next' v)
receiving_tied M b place None t v = t
receiving_tied M b place (Some x) t (Some v) =
    reading_tied (λ s. or_fault_tied place (received M b s.store x v) (λ store. storing_tied store t))
receiving_tied M b place (Some x) t None = ends_tied Out

act_on_tied : {f g : ℕ} {go go' : Going} → GoingTied f g go go' → (M : Model) (b : Setting) (place : Place) (rest : Remainder) (a : Action-F Action Block Branch Step)
    → Tied f g (act_on go M b place rest a) (act_on go' M b place rest a)
act_on_tied t M b place rest Nothing = t b rest
act_on_tied t M b place rest (Assign target e) =
    reading_tied (λ s. or_fault_tied place (assigned M b s.store target e) (λ store. storing_tied store (t b rest)))
act_on_tied t M b place rest (Output k es) =
    reading_tied (λ s. or_fault_tied place (values_of M b s.store (sorts_of M k) es) (λ vs. showing_tied (Shown.Output k vs) (t b rest)))
act_on_tied t M b place rest (SetTimer k e) =
    reading_tied (λ s. or_fault_tied place (on_value (eval b.frame s.store e) duration_of) (λ d.
    showing_tied (Shown.Set k d) (timing_tied _ (t b rest))))
act_on_tied t M b place rest (ResetTimer k) = reading_tied (λ s. showing_tied (Shown.Reset k) (timing_tied _ (t b rest)))
act_on_tied t M b place rest (Append target e) =
    reading_tied (λ s. or_fault_tied place (appended M b s.store target e) (λ store. storing_tied store (t b rest)))
act_on_tied t M b place rest (Call p args x) =
    reading_tied (λ s. or_fault_tied place (passed_to M b s.store (formals_of M p) args) (λ ps.
    then_do_tied (called_with_tied t (slice_get M.procs p) ps) (receiving_tied M b place x (t b rest))))
act_on_tied t M b place rest (Decide question branches other) =
    reading_tied (λ s. or_fault_tied place (eval b.frame s.store question) (λ v.
    t b (in_front (branch_for (number_of v) branches other) rest)))

end_with_tied : {f g : ℕ} {go go' : Going} → GoingTied f g go go' → (M : Model) (b : Setting) (place : Place) (kind : EndKind)
    → Tied f g (end_with go M b place kind) (end_with go' M b place kind)
end_with_tied t M b place (EndKinds.Next k entry) = ends_tied (Done (Next k entry))
end_with_tied t M b place EndKinds.Dash = ends_tied (Done Dash)
end_with_tied t M b place (EndKinds.Join l) = going_at_tied t b (tail b.bodies l)
end_with_tied t M b place (EndKinds.Return exit None) = ends_tied (Done (Return exit None))
end_with_tied t M b place (EndKinds.Return exit (Some e)) =
    reading_tied (λ s. or_fault_tied place (on_value (eval b.frame s.store e) (tested M b.result)) (λ v. ends_tied (Done (Return exit (Some v)))))
end_with_tied t M b place EndKinds.Stop = ends_tied Stop

act_tied : {f g : ℕ} {go go' : Going} → GoingTied f g go go' → (M : Model) (b : Setting) (x : Front) → Tied (suc f) (suc g) (act go M b x) (act go' M b x)
act_tied t M b Nowhere = ends_tied Out
act_tied t M b (Begins x rest) = spend_tied (act_on_tied t M b x.place rest (out-Action x.action))
act_tied t M b (Ends e) = spend_tied (end_with_tied t M b e.place e.kind)

-- without units a remainder runs out at once
act_none : (go : Going) (M : Model) (b : Setting) (x : Front) (s : State) → act go M b x 0 s ≡ runs_out 0 s
act_none go M b Nowhere s = refl
act_none go M b (Begins x rest) s = refl
act_none go M b (Ends e) s = refl

run_none : (g : ℕ) (M : Model) (b : Setting) (rest : Remainder) (s : State) → run g M b rest 0 s ≡ runs_out 0 s
run_none zero M b rest s = refl
run_none (suc g) M b rest s = act_none (run g M) M b (front rest) s

none_below : (n k n' : ℕ) → n' ≡ n + k → n' ≤ 0 → n ≡ 0
none_below n k n' e q = omega (arith, e, q)

none_at : (n : ℕ) → n ≤ 0 → n ≡ 0
none_at n p = omega (arith, p)

pub run_tied : (f g : ℕ) (M : Model) → GoingTied f g (run f M) (run g M)
run_tied zero g M b rest = low_tied (λ n s. le_refl n) (λ s. refl) (run_none g M b rest) (λ n k n' e p q. none_at n p)
run_tied (suc f) zero M b rest =
    low_tied (act_tied (run_tied f f M) M b (front rest)).falls (act_none (run f M) M b (front rest)) (λ s. refl)
    (λ n k n' e p q. none_below n k n' e q)
run_tied (suc f) (suc g) M b rest = act_tied (run_tied f g M) M b (front rest)

pub perform_tied : {f g : ℕ} (M : Model) → GoingTied f g (perform M) (perform M)
perform_tied M b rest = now_tied (λ n. run n M b rest) (λ x y. run_tied x y M b rest)

-- ---- hooks and leaving

hook_tied : {f g : ℕ} (M : Model) (p : Option ℕ) → Tied f g (hook M p) (hook M p)
hook_tied M None = ends_tied (Done tt)
hook_tied M (Some p) =
    now_tied (λ n. then_do (called (run n M) M p []) (λ v. gives tt)) (λ x y.
    then_do_tied (called_with_tied (run_tied x y M) (slice_get M.procs p) []) (λ v. ends_tied (Done tt)))

out_of_tied : {f g : ℕ} {inside inside' : Kind → Doing (Unit {0})} (M : Model) (d : Option StateDef)
    → ((kind : Kind) → Tied f g (inside kind) (inside' kind)) → Tied f g (out_of M d inside) (out_of M d inside')
out_of_tied M (Some d) t = then_do_tied (t (kind_of d)) (λ done. hook_tied M (exit_of (kind_of d)))
out_of_tied M None t = ends_tied Out

mutual
  leave_scope_tied : (f g : ℕ) (M : Model) (m : Scope) (a : Active) → Tied f g (leave_scope M m a) (leave_scope M m a)
  leave_scope_tied f g M m (At k inside) = out_of_tied M (state_at m k) (λ kind. leave_tied f g M kind inside)

  leave_tied : (f g : ℕ) (M : Model) (kind : Kind) (x : Inside) → Tied f g (leave M kind x) (leave M kind x)
  leave_tied f g M Plain Basic = ends_tied (Done tt)
  leave_tied f g M (Composite entry exit inner) (Comp a) = leave_scope_tied f g M inner a
  leave_tied f g M (Aggregation entry exit qs) (Agg ps) = leave_parts_tied f g M qs ps
  leave_tied f g M _ _ = ends_tied Out

  leave_parts_tied : (f g : ℕ) (M : Model) (qs : List Partition) (ps : Parts) → Tied f g (leave_parts M qs ps) (leave_parts M qs ps)
  leave_parts_tied f g M qs NoParts = ends_tied (Done tt)
  leave_parts_tied f g M (q ∷ qs) (Running a ps) =
      then_do_tied (leave_scope_tied f g M (out-Partition q).inner a) (λ done.
      then_do_tied (hook_tied M (out-Partition q).exit) (λ done.
      leave_parts_tied f g M qs ps))
  leave_parts_tied f g M (q ∷ qs) (Finished ps) = leave_parts_tied f g M qs ps
  leave_parts_tied f g M [] _ = ends_tied Out

-- ---- bodies of a scope, and what follows them

abbrev pub EnteringTied : ℕ → ℕ → Entering → Entering → Type 0
EnteringTied f g e e' = (m : Scope) (k : ℕ) (name : Option NameId) → Tied f g (e m k name) (e' m k name)

transition_tied : {f g : ℕ} (M : Model) (m : Scope) (k : Option ℕ) → Tied f g (transition M m k) (transition M m k)
transition_tied M m k =
    going_at_tied (perform_tied M) (in_scope (out-Scope m).bodies) (option_and_then (block_at (out-Scope m).bodies) k)

after_tied : {f g : ℕ} {e e' : Entering} → EnteringTied f g e e' → (m : Scope) (origin : Option ℕ) (x : Ended)
    → Tied f g (after e m origin x) (after e' m origin x)
after_tied t m origin (Next k entry) = t m k entry
after_tied t m (Some k) Dash = t m k None
after_tied t m None Dash = ends_tied Out
after_tied t m origin (Return exit v) = ends_tied (Done (Returned exit))

connect_tied : {f g : ℕ} {e e' : Entering} (M : Model) → EnteringTied f g e e' → (m : Scope) (k : ℕ) (exit : Option NameId)
    → Tied f g (connect M e m k exit) (connect M e' m k exit)
connect_tied M t m k exit =
    then_do_tied (transition_tied M m (option_and_then (connection_of exit) (state_at m k))) (after_tied t m (Some k))

complete_tied : {f g : ℕ} {e e' : Entering} (M : Model) → EnteringTied f g e e' → (m : Scope) (k : ℕ) (exit : Option ℕ) (point : Option NameId)
    → Tied f g (complete M e m k exit point) (complete M e' m k exit point)
complete_tied M t m k exit point = then_do_tied (hook_tied M exit) (λ done. connect_tied M t m k point)

in_composite_tied : {f g : ℕ} {e e' : Entering} (M : Model) → EnteringTied f g e e' → (m : Scope) (k : ℕ) (exit : Option ℕ) (x : Arrival)
    → Tied f g (in_composite M e m k exit x) (in_composite M e' m k exit x)
in_composite_tied M t m k exit (In a) = ends_tied (Done (In (At k (Comp a))))
in_composite_tied M t m k exit (Returned point) = complete_tied M t m k exit point

in_partition_tied : {f g : ℕ} (M : Model) (exit : Option ℕ) (x : Arrival) → Tied f g (in_partition M exit x) (in_partition M exit x)
in_partition_tied M exit (In a) = ends_tied (Done (Some a))
in_partition_tied M exit (Returned point) = then_do_tied (hook_tied M exit) (λ done. ends_tied (Done None))

complete_if_tied : {f g : ℕ} {e e' : Entering} (b : Bool) (M : Model) → EnteringTied f g e e' → (m : Scope) (k : ℕ) (exit : Option ℕ) (ps : Parts)
    → Tied f g (complete_if b M e m k exit ps) (complete_if b M e' m k exit ps)
complete_if_tied true M t m k exit ps = complete_tied M t m k exit None
complete_if_tied false M t m k exit ps = ends_tied (Done (In (At k (Agg ps))))

in_aggregation_tied : {f g : ℕ} {e e' : Entering} (M : Model) → EnteringTied f g e e' → (m : Scope) (k : ℕ) (exit : Option ℕ) (ps : Parts)
    → Tied f g (in_aggregation M e m k exit ps) (in_aggregation M e' m k exit ps)
in_aggregation_tied M t m k exit ps = complete_if_tied (all_done ps) M t m k exit ps

-- ---- entering

started_tied : {f g : ℕ} {e e' : Entering} (M : Model) → EnteringTied f g e e' → (m : Scope) (name : Option NameId)
    → Tied f g (started M e m name) (started M e' m name)
started_tied M t m name = then_do_tied (transition_tied M m (start_named m name)) (after_tied t m None)

one_more : (n : ℕ) → n ≤ suc n
one_more n = omega arith

-- a unit before what takes no fuel
spend_free : {A : Type 0} (f g : ℕ) {d d' : Doing A} → Tied f g d d' → Tied f g (spend d) (spend d')
spend_free f g t = lower_tied f g (one_more f) (one_more g) (spend_tied t)

enter_parts_tied : {f g : ℕ} {e e' : Entering} (M : Model) → EnteringTied f g e e' → (qs : List Partition)
    → Tied f g (enter_parts M e qs) (enter_parts M e' qs)
enter_parts_tied M t [] = ends_tied (Done NoParts)
enter_parts_tied {f = f} {g = g} M t (q ∷ qs) =
    then_do_tied (spend_free f g (hook_tied M (out-Partition q).entry)) (λ done.
    then_do_tied (started_tied M t (out-Partition q).inner None) (λ x.
    then_do_tied (in_partition_tied M (out-Partition q).exit x) (λ part.
    then_do_tied (enter_parts_tied M t qs) (λ ps.
    ends_tied (Done (add_part part ps))))))

enter_kind_tied : {f g : ℕ} {e e' : Entering} (M : Model) → EnteringTied f g e e' → (m : Scope) (k : ℕ) (name : Option NameId) (kind : Option Kind)
    → Tied f g (enter_kind M e m k name kind) (enter_kind M e' m k name kind)
enter_kind_tied M t m k name (Some Plain) = ends_tied (Done (In (At k Basic)))
enter_kind_tied M t m k name (Some (Composite entry exit inner)) =
    then_do_tied (hook_tied M entry) (λ done. then_do_tied (started_tied M t inner name) (in_composite_tied M t m k exit))
enter_kind_tied M t m k name (Some (Aggregation entry exit qs)) =
    then_do_tied (hook_tied M entry) (λ done. then_do_tied (enter_parts_tied M t qs) (in_aggregation_tied M t m k exit))
enter_kind_tied M t m k name None = ends_tied Out

enter_none : (g : ℕ) (M : Model) (m : Scope) (k : ℕ) (name : Option NameId) (s : State) → enter_by g M m k name 0 s ≡ runs_out 0 s
enter_none zero M m k name s = refl
enter_none (suc g) M m k name s = refl

pub enter_by_tied : (f g : ℕ) (M : Model) → EnteringTied f g (enter_by f M) (enter_by g M)
enter_by_tied zero g M m k name = low_tied (λ n s. le_refl n) (λ s. refl) (enter_none g M m k name) (λ n k n' e p q. none_at n p)
enter_by_tied (suc f) zero M m k name =
    low_tied (spend_tied (enter_kind_tied M (enter_by_tied f f M) m k name (kind_at m k))).falls (λ s. refl) (λ s. refl)
    (λ n k n' e p q. none_below n k n' e q)
enter_by_tied (suc f) (suc g) M m k name = spend_tied (enter_kind_tied M (enter_by_tied f g M) m k name (kind_at m k))

pub enter_tied : {f g : ℕ} (M : Model) → EnteringTied f g (enter M) (enter M)
enter_tied M m k name = now_tied (λ n. enter_by n M m k name) (λ x y. enter_by_tied x y M m k name)

-- ---- firing

assign_values_tied : {f g : ℕ} (M : Model) (place : Place) (xs : List VarId) (vs : List Value)
    → Tied f g (assign_values M place xs vs) (assign_values M place xs vs)
assign_values_tied M place (x ∷ xs) (v ∷ vs) =
    reading_tied (λ s. or_fault_tied place (received M (in_scope []) s.store x v) (λ store. storing_tied store (assign_values_tied M place xs vs)))
assign_values_tied M place _ _ = ends_tied (Done tt)

at_composite_tied : {f g : ℕ} {next next' : Option ℕ → Scope → Doing Arrival} (kind : Option Kind)
    → ((exit : Option ℕ) (inner : Scope) → Tied f g (next exit inner) (next' exit inner)) → Tied f g (at_composite kind next) (at_composite kind next')
at_composite_tied (Some (Composite entry exit inner)) t = t exit inner
at_composite_tied _ t = ends_tied Out

with_both_tied : {A B C : Type 0} {f g : ℕ} {next next' : A → B → Doing C} (x : Option A) (y : Option B)
    → ((a : A) (b : B) → Tied f g (next a b) (next' a b)) → Tied f g (with_both x y next) (with_both x y next')
with_both_tied (Some a) (Some b) t = t a b
with_both_tied _ _ t = ends_tied Out

at_partition_tied : {f g : ℕ} {next next' : Option ℕ → Partition → Active → Doing Arrival} (kind : Option Kind) (i : ℕ) (ps : Parts)
    → ((exit : Option ℕ) (q : Partition) (a : Active) → Tied f g (next exit q a) (next' exit q a))
    → Tied f g (at_partition kind i ps next) (at_partition kind i ps next')
at_partition_tied (Some (Aggregation entry exit qs)) i ps t = with_both_tied (slice_get qs i) (part_at ps i) (t exit)
at_partition_tied _ i ps t = ends_tied Out

fire_at_tied : {f g : ℕ} {e e' : Entering} (M : Model) → EnteringTied f g e e' → (body : ℕ) (address : Address) (m : Scope) (a : Active)
    → Tied f g (fire_at M e body address m a) (fire_at M e' body address m a)
fire_at_tied {f = f} {g = g} M t body Here m (At k inside) =
    then_do_tied (out_of_tied M (state_at m k) (λ kind. leave_tied f g M kind inside)) (λ done.
    then_do_tied (transition_tied M m (Some body))
    (after_tied t m (Some k)))
fire_at_tied M t body (Within address) m (At k (Comp a)) =
    at_composite_tied (kind_at m k) (λ exit inner.
    then_do_tied (fire_at_tied M t body address inner a)
    (in_composite_tied M t m k exit))
fire_at_tied M t body (InPart i address) m (At k (Agg ps)) =
    at_partition_tied (kind_at m k) i ps (λ exit q a.
    then_do_tied (fire_at_tied M t body address (out-Partition q).inner a) (λ x.
    then_do_tied (in_partition_tied M (out-Partition q).exit x) (λ part.
    in_aggregation_tied M t m k exit (with_part ps i part))))
fire_at_tied M t body _ m a = ends_tied Out

at_root_tied : {f g : ℕ} (x : Arrival) → Tied f g (at_root x) (at_root x)
at_root_tied (In a) = ends_tied (Done a)
at_root_tied (Returned exit) = ends_tied Out

pub fire_tied : {f g : ℕ} (M : Model) (address : Address) (body : ℕ) (a : Active) → Tied f g (fire M address body a) (fire M address body a)
fire_tied M address body a = then_do_tied (fire_at_tied M (enter_tied M) body address M.root a) at_root_tied

-- ---- settling

when_tied : {A : Type 0} {f g : ℕ} {one one' other other' : Doing A} (b : Bool) → Tied f g one one' → Tied f g other other'
    → Tied f g (when b one other) (when b one' other')
when_tied true t u = t
when_tied false t u = u

abbrev pub AgainTied : ℕ → ℕ → (Active → Doing Active) → (Active → Doing Active) → Type 0
AgainTied f g again again' = (a : Active) → Tied f g (again a) (again' a)

first_of_tied : {f g : ℕ} {again again' : Active → Doing Active} (M : Model) → AgainTied f g again again' → (a : Active) (xs : List Continuous)
    → Tied (suc f) (suc g) (first_of M again a xs) (first_of M again' a xs)
first_of_tied M t a [] = ends_tied (Done a)
first_of_tied {f = f} {g = g} M t a (x ∷ xs) =
    reading_tied (λ s. spend_tied (or_fault_tied x.place (eval no_frame s.store x.condition) (λ v.
    when_tied (truth_of v) (then_do_tied (fire_tied M x.address x.body a) t)
    (lower_tied f g (one_more f) (one_more g) (first_of_tied M t a xs)))))

first_of_extend : (again again' : Active → Doing Active) (M : Model) (a : Active) (xs : List Continuous) (n k n' : ℕ) (s : State)
    → n' ≡ n + k → n ≡ 0 → Extends k (first_of M again a xs n s) (first_of M again' a xs n' s)
first_of_extend again again' M a [] n k n' s e z = ends_extend (Done a) n k n' s e
first_of_extend again again' M a (x ∷ xs) n k n' s e z =
    low_extend (first_of M again a (x ∷ xs)) (first_of M again' a (x ∷ xs)) (λ s. refl) (λ s. refl) n k n' s e z

-- where the fuel leaves no unit, the first that is tested runs out
first_of_low : {f g : ℕ} {again : Active → Doing Active} (again' : Active → Doing Active) (M : Model) → AgainTied 0 0 again again → (a : Active) (xs : List Continuous)
    → ((n k n' : ℕ) → n' ≡ n + k → n ≤ f → n' ≤ g → n ≡ 0) → Tied f g (first_of M again a xs) (first_of M again' a xs)
first_of_low {again = again} again' M t a xs low = record {
  falls = (first_of_tied M t a xs).falls;
  extends = λ n k n' s e p q. first_of_extend again again' M a xs n k n' s e (low n k n' e p q);
}

pub settle_by_tied : (f g : ℕ) (M : Model) → AgainTied f g (settle_by f M) (settle_by g M)
settle_by_tied zero g M a = settle_none g
  where
    settle_none : (g : ℕ) → Tied zero g (settle_by zero M a) (settle_by g M a)
    settle_none zero = first_of_low _ M (λ x. ends_tied Out) a (ordered (continuous_of M.root a)) (λ n k n' e p q. none_at n p)
    settle_none (suc g) = first_of_low _ M (λ x. ends_tied Out) a (ordered (continuous_of M.root a)) (λ n k n' e p q. none_at n p)
settle_by_tied (suc f) zero M a =
    first_of_low _ M (λ x. lower_tied 0 0 (omega arith) (omega arith) (settle_by_tied f f M x)) a (ordered (continuous_of M.root a))
    (λ n k n' e p q. none_below n k n' e q)
settle_by_tied (suc f) (suc g) M a = first_of_tied M (settle_by_tied f g M) a (ordered (continuous_of M.root a))

pub settle_tied : {f g : ℕ} (M : Model) → AgainTied f g (settle M) (settle M)
settle_tied M a = now_tied (λ n. settle_by n M a) (λ x y. settle_by_tied x y M a)

-- ---- the start and one stimulus

pub start_tied : {f g : ℕ} (M : Model) → Tied f g (start M) (start M)
start_tied M = then_do_tied (then_do_tied (started_tied M (enter_tied M) M.root None) at_root_tied) (settle_tied M)

handled_tied : {f g : ℕ} (M : Model) (a : Active) (values : List Value) (x : Option Found) → Tied f g (handled M a values x) (handled M a values x)
handled_tied M a values None = ends_tied (Done a)
handled_tied M a values (Some x) =
    then_do_tied (assign_values_tied M x.handler.place (variables_of x.handler.trigger) values) (λ done.
    fire_tied M x.address x.handler.body a)

expired_tied : {f g : ℕ} (M : Model) (a : Active) (t : ℕ) (b : Bool) → Tied f g (expired M a t b) (expired M a t b)
expired_tied M a t true = reading_tied (λ s. timing_tied _ (handled_tied M a [] (handler_of (Shown.Expiry t) M.root a)))
expired_tied M a t false = ends_tied (Done a)

taken_tied : {f g : ℕ} (M : Model) (a : Active) (x : Shown.Stimulus) → Tied f g (taken M a x) (taken M a x)
taken_tied M a (Shown.Signal k values) = handled_tied M a values (handler_of (Shown.Signal k values) M.root a)
taken_tied M a (Shown.Expiry t) = reading_tied (λ s. expired_tied M a t (get_or s.timers t false))

pub step_tied : {f g : ℕ} (M : Model) (a : Active) (x : Shown.Stimulus) → Tied f g (step M a x) (step M a x)
step_tied M a x = then_do_tied (taken_tied M a x) (settle_tied M)
