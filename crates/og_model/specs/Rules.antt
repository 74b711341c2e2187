-- The rules of the language that a model keeps, as far as they can be broken by the forms that are compiled today; each is
-- named by the letters and number under which a user sees it. Names are declared once (N2, after Z.101 section 6.3), a state
-- has one transition for each stimulus (A2, Z.101 section 11.2), a NEXTSTATE stands in no procedure (A10), the first value of
-- a variable is one of its type (G2), the process has a start (Z.101 section 11.1), and an OUTPUT has as many values as its
-- signal has parameters (T3). That a name has no two underscores together (N4), that no parameter of a
-- signal has an opaque part (T7) and the greatest numbers of states, signals, timers and cells (M1, M2, M3) are this project's
-- own. Of A10, G2, T3 and T7 no more is asked yet.
use Rattle.std.specs.Prelude.{ℕ, zero, suc, Bool, true, false, not, ◌&&◌, ◌||◌, ◌≤◌, List, [], ◌∷◌, ◌++◌, length, map, nat_eq, slice_get, is_none, IsTrue, Option, Some, None}
use Rattle.std.specs.List.{list_all, list_any}
use Rattle.og_names.specs.declared.NameId.{NameId}
use Rattle.og_types.specs.Table.{all_differ, same_name}
use Rattle.og_types.specs.Values.{is_in, is_supported}
use Rattle.og_model.specs.declared.Signal.{Signal}
use Rattle.og_model.specs.declared.Variable.{Variable}
use Rattle.og_model.specs.declared.Branch.{Branch, out-Branch}
use Rattle.og_model.specs.declared.Step.{Step}
use Rattle.og_model.specs.declared.Block.{Block, out-Block, size-Block}
use Rattle.og_model.specs.declared.Action.{Action, Action-F, out-Action}
use Rattle.og_model.specs.declared.Action.TheOpen.{Decide, Output}
use Rattle.og_model.specs.declared.Ending.{Ending}
use Rattle.og_model.specs.declared.EndKind.{EndKind}
use Rattle.og_model.specs.declared.EndKind.TheVariants.{Next}
use Rattle.og_model.specs.declared.Body.{Body}
use Rattle.og_model.specs.declared.Proc.{Proc}
use Rattle.og_model.specs.declared.Start.{Start}
use Rattle.og_model.specs.declared.Handler.{Handler}
use Rattle.og_model.specs.declared.Trigger.{Trigger}
use Rattle.og_model.specs.declared.Trigger.TheVariants as Triggers
use Rattle.og_model.specs.declared.Scope.{Scope, out-Scope, size-Scope}
use Rattle.og_model.specs.declared.StateDef.{StateDef}
use Rattle.og_model.specs.declared.Partition.{Partition, out-Partition}
use Rattle.og_model.specs.declared.StateKind.{out-StateKind}
use Rattle.og_model.specs.declared.StateKind.TheOpen.{Basic, Composite, Aggregation}
use Rattle.og_model.specs.declared.Model.{Model}
use Rattle.og_model.specs.Configuration.{Kind}
use Rattle.og_model.specs.Size.{states_and_partitions, model_cells}
use Rattle.og_model.specs.Resolved.{if_any}

-- ---- N2: what is declared twice

-- signals and timers share their names
abbrev pub signal_names : Model → List NameId
signal_names M = map (λ (s : Signal). s.name) M.signals ++ M.timers

abbrev pub states_differ : List StateDef → Bool
states_differ states = all_differ (λ (d e : StateDef). same_name d.name e.name) states

abbrev pub partitions_differ : List Partition → Bool
partitions_differ ps = all_differ (λ (p q : Partition). same_name (out-Partition p).name (out-Partition q).name) ps

-- ---- N4: two underscores together

-- 95 is the underscore
abbrev pub has_double_underscore : List ℕ → Bool
has_double_underscore [] = false
has_double_underscore (b ∷ []) = false
has_double_underscore (b ∷ c ∷ bs) = (nat_eq b 95 && nat_eq c 95) || has_double_underscore (c ∷ bs)

abbrev pub is_plain_text : Option (List ℕ) → Bool
is_plain_text (Some text) = not (has_double_underscore text)
is_plain_text None = true

abbrev pub is_plain_name : Model → NameId → Bool
is_plain_name M name = is_plain_text (slice_get M.names name.0)

-- each block of a decision is such a one
abbrev pub are_plain_in_action : (Block → Bool) → Action-F Action Block Branch Step → Bool
are_plain_in_action inner (Decide question branches other) =
    list_all (λ b. inner (out-Branch b).block) branches && if_any inner other
are_plain_in_action inner _ = true

-- the labels of a block of at most this depth
abbrev pub are_plain_labels_within : ℕ → Model → Block → Bool
are_plain_labels_within zero M b = true
are_plain_labels_within (suc depth) M b =
    list_all (λ (s : Step). if_any (is_plain_name M) s.label && are_plain_in_action (are_plain_labels_within depth M) (out-Action s.action)) (out-Block b).steps
    && if_any (λ (e : Ending). if_any (is_plain_name M) e.label) (out-Block b).end

abbrev pub are_plain_labels : Model → Body → Bool
are_plain_labels M b = if_any (is_plain_name M) b.label && are_plain_labels_within (size-Block b.block) M b.block

abbrev pub is_plain_procedure : Model → Proc → Bool
is_plain_procedure M p =
    is_plain_name M p.name && (list_all (λ (v : Variable). is_plain_name M v.name) p.locals
    && list_all (are_plain_labels M) p.bodies)

-- ---- A2: two handlers for one stimulus or exit point

abbrev pub same_exit : Option NameId → Option NameId → Bool
same_exit (Some a) (Some b) = same_name a b
same_exit None None = true
same_exit _ _ = false

-- both are triggered at once
abbrev pub same_trigger : Trigger → Trigger → Bool
same_trigger (Triggers.Input k into) (Triggers.Input j onto) = nat_eq k j
same_trigger (Triggers.Expiry t) (Triggers.Expiry u) = nat_eq t u
same_trigger (Triggers.Connect x) (Triggers.Connect y) = same_exit x y
same_trigger _ _ = false

abbrev pub handlers_differ : List Handler → Bool
handlers_differ handlers = all_differ (λ (h g : Handler). same_trigger h.trigger g.trigger) handlers

-- ---- G2: first values outside their types

abbrev pub begins_in_type : Model → Variable → Bool
begins_in_type M v = is_in M.types v.sort v.initial

abbrev pub begin_in_types : Model → Proc → Bool
begin_in_types M p = list_all (begins_in_type M) p.locals

-- ---- A10: NEXTSTATE in a procedure

abbrev pub is_next_state : EndKind → Bool
is_next_state (Next state entry) = true
is_next_state _ = false

-- no NEXTSTATE ends a block of at most this depth
abbrev pub enters_none_within : ℕ → Block → Bool
enters_none_within zero b = true
enters_none_within (suc depth) b =
    list_all (λ (s : Step). are_plain_in_action (enters_none_within depth) (out-Action s.action)) (out-Block b).steps
    && if_any (λ (e : Ending). not (is_next_state e.kind)) (out-Block b).end

abbrev pub enters_none : Proc → Bool
enters_none p = list_all (λ (b : Body). enters_none_within (size-Block b.block) b.block) p.bodies

-- ---- T3: as many values as parameters

abbrev pub parameters_of : Option Signal → ℕ
parameters_of (Some s) = length s.sorts
parameters_of None = 0

-- an output of as many values, or any other action; so are the actions in the blocks of a decision
abbrev pub sends_all_in_action : Model → (Block → Bool) → Action-F Action Block Branch Step → Bool
sends_all_in_action M inner (Output k es) = nat_eq (length es) (parameters_of (slice_get M.signals k))
sends_all_in_action M inner action = are_plain_in_action inner action

-- the outputs of a block of at most this depth
abbrev pub sends_all_within : ℕ → Model → Block → Bool
sends_all_within zero M b = true
sends_all_within (suc depth) M b =
    list_all (λ (s : Step). sends_all_in_action M (sends_all_within depth M) (out-Action s.action)) (out-Block b).steps

abbrev pub sends_all : Model → Body → Bool
sends_all M b = sends_all_within (size-Block b.block) M b.block

abbrev pub procedure_sends_all : Model → Proc → Bool
procedure_sends_all M p = list_all (sends_all M) p.bodies

-- ---- T7: opaque types of parameters

-- no parameter has an opaque type, or one with an opaque part
abbrev pub has_supported_parameters : Model → Signal → Bool
has_supported_parameters M s = list_all (is_supported M.types) s.sorts

-- ---- scopes

abbrev pub keeps_in_partition : Model → (Scope → Bool) → Partition → Bool
keeps_in_partition M inner p = is_plain_name M (out-Partition p).name && inner (out-Partition p).inner

abbrev pub keeps_in_kind : Model → (Scope → Bool) → Kind → Bool
keeps_in_kind M inner Basic = true
keeps_in_kind M inner (Composite entry exit m) = inner m
keeps_in_kind M inner (Aggregation entry exit ps) = partitions_differ ps && list_all (keeps_in_partition M inner) ps

abbrev pub keeps_in_state : Model → (Scope → Bool) → StateDef → Bool
keeps_in_state M inner d =
    is_plain_name M d.name && (handlers_differ d.handlers && keeps_in_kind M inner (out-StateKind d.kind))

-- in a scope of at most this depth: different states, different handlers in each, names without two underscores, and outputs
-- of as many values as parameters
abbrev pub keeps_within : ℕ → Model → Scope → Bool
keeps_within zero M m = false
keeps_within (suc depth) M m =
    states_differ (out-Scope m).states
    && (list_all (keeps_in_state M (keeps_within depth M)) (out-Scope m).states
    && (list_all (are_plain_labels M) (out-Scope m).bodies && list_all (sends_all M) (out-Scope m).bodies))

abbrev pub keeps_in_scope : Model → Scope → Bool
keeps_in_scope M m = keeps_within (size-Scope m) M m

-- ---- a model

abbrev pub has_unnamed_start : Scope → Bool
has_unnamed_start m = list_any (λ (s : Start). is_none s.entry) (out-Scope m).starts

-- no rule that is built is broken
pub record KeepsRules (M : Model) : Type 0 where
  pub signals_differ : IsTrue (all_differ same_name (signal_names M))
  pub process_name : IsTrue (is_plain_name M M.name)
  pub plain_signals : IsTrue (list_all (is_plain_name M) (signal_names M))
  pub plain_variables : IsTrue (list_all (λ (v : Variable). is_plain_name M v.name) M.variables)
  pub plain_procedures : IsTrue (list_all (is_plain_procedure M) M.procs)
  pub first_values : IsTrue (list_all (begins_in_type M) M.variables)
  pub first_values_of_procedures : IsTrue (list_all (begin_in_types M) M.procs)
  pub procedures_enter_none : IsTrue (list_all enters_none M.procs)
  pub procedures_send_all : IsTrue (list_all (procedure_sends_all M) M.procs)
  pub supported_parameters : IsTrue (list_all (has_supported_parameters M) M.signals)
  pub scopes : IsTrue (keeps_in_scope M M.root)
  pub start : IsTrue (has_unnamed_start M.root)
  pub few_states : states_and_partitions M ≤ 1000
  pub few_signals : length M.signals ≤ 200
  pub few_timers : length M.timers ≤ 200
  pub few_cells : model_cells M ≤ 65536
