-- What the tree of every text keeps. Each number in it (of a name, a type, a signal, a timer, a variable, a procedure, a
-- state, a body, a component, an alternative or an enumerator) names one that is there; each place is one in a text; each
-- expression is built from its sorts; each procedure has a body to begin with, and its parameters are the first of its
-- variables; there are fewer than 2^32 - 1 types. No rule of the language is asked here: that a first value is one of its type
-- and that a NEXTSTATE stands in no procedure is asked in Rules. Where one stands there, its number names nothing.
use Rattle.std.specs.Prelude.{ℕ, zero, suc, ◌-◌, ◌^◌, Bool, true, false, not, ◌&&◌, ◌||◌, List, [], ◌∷◌, length, nat_lt, nat_eq, IsTrue, Option, Some, None}
use Rattle.std.specs.List.{list_all}
use Rattle.std.specs.Char.{is_ascii_alphabetic, is_ascii_alphanumeric}
use Rattle.og_names.specs.declared.NameId.{NameId}
use Rattle.og_types.specs.declared.TypeId.{TypeId}
use Rattle.og_types.specs.declared.Part.{Part}
use Rattle.og_types.specs.declared.Sort.{Sort}
use Rattle.og_types.specs.declared.Sort.TheVariants as Sorts
use Rattle.og_types.specs.Table.{is_table, is_empty, same_name}
use Rattle.og_model.specs.declared.Signal.{Signal}
use Rattle.og_model.specs.declared.Variable.{Variable}
use Rattle.og_model.specs.declared.VarId.{VarId}
use Rattle.og_model.specs.declared.VarId.TheVariants.{Process, Local}
use Rattle.og_model.specs.declared.Expr.{Expr}
use Rattle.og_model.specs.declared.Target.{Target}
use Rattle.og_model.specs.declared.Arg.{Arg}
use Rattle.og_model.specs.declared.Arg.TheVariants.{Copy, Bind}
use Rattle.og_model.specs.declared.Formal.{Formal}
use Rattle.og_model.specs.declared.Span.{Span}
use Rattle.og_model.specs.declared.Branch.{Branch, out-Branch}
use Rattle.og_model.specs.declared.Step.{Step}
use Rattle.og_model.specs.declared.Block.{Block, out-Block, size-Block}
use Rattle.og_model.specs.declared.Action.{Action, Action-F, out-Action}
use Rattle.og_model.specs.declared.Action.TheOpen as Actions
use Rattle.og_model.specs.declared.Ending.{Ending}
use Rattle.og_model.specs.declared.EndKind.{EndKind}
use Rattle.og_model.specs.declared.EndKind.TheVariants as Ends
use Rattle.og_model.specs.declared.Body.{Body}
use Rattle.og_model.specs.declared.Proc.{Proc}
use Rattle.og_model.specs.declared.Start.{Start}
use Rattle.og_model.specs.declared.Handler.{Handler}
use Rattle.og_model.specs.declared.Trigger.{Trigger}
use Rattle.og_model.specs.declared.Trigger.TheVariants as Triggers
use Rattle.og_model.specs.declared.Scope.{Scope, out-Scope, size-Scope}
use Rattle.og_model.specs.declared.StateDef.{StateDef}
use Rattle.og_model.specs.declared.Partition.{Partition, out-Partition}
use Rattle.og_model.specs.declared.StateKind.{out-StateKind}
use Rattle.og_model.specs.declared.StateKind.TheOpen.{Basic, Composite, Aggregation}
use Rattle.og_model.specs.declared.Model.{Model}
use Rattle.og_model.specs.Configuration.{Kind}
use Rattle.og_model.specs.WellSorted.{Data, is_expression, is_place, is_place_of_value}

-- ---- names and numbers

-- what is not there breaks nothing
abbrev pub if_any : {A : Type 0} → (A → Bool) → Option A → Bool
if_any test None = true
if_any test (Some x) = test x

-- a letter, a digit or an underscore
abbrev pub is_name_byte : ℕ → Bool
is_name_byte b = is_ascii_alphanumeric b || nat_eq b 95

-- a letter followed by letters, digits and underscores
abbrev pub is_name : List ℕ → Bool
is_name [] = false
is_name (b ∷ bs) = is_ascii_alphabetic b && list_all is_name_byte bs

abbrev pub is_known : Model → NameId → Bool
is_known M name = nat_lt name.0 (length M.names)

abbrev pub is_type : Model → TypeId → Bool
is_type M id = nat_lt id.0 (length M.types)

abbrev pub is_signal : Model → ℕ → Bool
is_signal M k = nat_lt k (length M.signals)

abbrev pub is_timer : Model → ℕ → Bool
is_timer M k = nat_lt k (length M.timers)

abbrev pub is_procedure : Model → ℕ → Bool
is_procedure M k = nat_lt k (length M.procs)

-- ---- where a transition stands

abbrev pub data_of : Model → List Variable → Data
data_of M locals = record { types = M.types; variables = M.variables; locals = locals }

-- how many states its scope has, where it stands in a scope; and the variables of its procedure, none outside
pub record Surroundings : Type 0 where
  pub states : Option ℕ
  pub locals : List Variable

abbrev pub in_procedure : Proc → Surroundings
in_procedure p = record { states = None; locals = p.locals }

abbrev pub in_states : List StateDef → Surroundings
in_states states = record { states = Some (length states); locals = [] }

abbrev pub is_variable : Model → Surroundings → VarId → Bool
is_variable M w (Process n) = nat_lt n (length M.variables)
is_variable M w (Local n) = nat_lt n (length w.locals)

abbrev pub is_value : Model → Surroundings → Expr → Bool
is_value M w e = is_expression (data_of M w.locals) e

abbrev pub is_target_here : Model → Surroundings → Target → Bool
is_target_here M w t = is_place_of_value (data_of M w.locals) t

-- ---- transitions

abbrev pub is_argument : Model → Surroundings → Arg → Bool
is_argument M w (Copy e) = is_value M w e
is_argument M w (Bind v) = is_variable M w v

abbrev pub is_branch : (Block → Bool) → Branch → Bool
is_branch inner b = list_all (λ (a : Span). is_place a.place) (out-Branch b).answers && inner (out-Branch b).block

abbrev pub is_action : Model → Surroundings → (Block → Bool) → Action-F Action Block Branch Step → Bool
is_action M w inner Actions.Nothing = true
is_action M w inner (Actions.Assign target e) = is_target_here M w target && is_value M w e
is_action M w inner (Actions.Output k es) = is_signal M k && list_all (is_value M w) es
is_action M w inner (Actions.SetTimer t e) = is_timer M t && is_value M w e
is_action M w inner (Actions.ResetTimer t) = is_timer M t
is_action M w inner (Actions.Append target e) = is_target_here M w target && is_value M w e
is_action M w inner (Actions.Call p args v) =
    is_procedure M p && (list_all (is_argument M w) args && if_any (is_variable M w) v)
is_action M w inner (Actions.Decide question branches other) =
    is_value M w question && (list_all (is_branch inner) branches && if_any inner other)

abbrev pub is_step : Model → Surroundings → (Block → Bool) → Step → Bool
is_step M w inner s = if_any (is_known M) s.label && (is_place s.place && is_action M w inner (out-Action s.action))

abbrev pub is_end : Model → Surroundings → EndKind → Bool
is_end M w (Ends.Next k entry) = if_any (nat_lt k) w.states && if_any (is_known M) entry
is_end M w Ends.Dash = true
is_end M w (Ends.Join label) = is_known M label
is_end M w (Ends.Return exit result) = if_any (is_known M) exit && if_any (is_value M w) result
is_end M w Ends.Stop = true

abbrev pub is_ending : Model → Surroundings → Ending → Bool
is_ending M w e = if_any (is_known M) e.label && (is_place e.place && is_end M w e.kind)

-- a block of at most this depth
abbrev pub is_block_within : ℕ → Model → Surroundings → Block → Bool
is_block_within zero M w b = false
is_block_within (suc depth) M w b =
    list_all (is_step M w (is_block_within depth M w)) (out-Block b).steps && if_any (is_ending M w) (out-Block b).end

abbrev pub is_block : Model → Surroundings → Block → Bool
is_block M w b = is_block_within (size-Block b) M w b

abbrev pub is_body : Model → Surroundings → Body → Bool
is_body M w b = is_place b.place && (if_any (is_known M) b.label && is_block M w b.block)

-- ---- states

abbrev pub is_trigger : Model → Surroundings → Trigger → Bool
is_trigger M w (Triggers.Input signal into) = is_signal M signal && list_all (is_variable M w) into
is_trigger M w (Triggers.Expiry timer) = is_timer M timer
is_trigger M w (Triggers.Provided priority condition) = is_value M w condition
is_trigger M w (Triggers.Connect exit) = if_any (is_known M) exit

-- a handler names a body of its scope
abbrev pub is_handler : Model → Surroundings → ℕ → Handler → Bool
is_handler M w bodies h = is_place h.place && (nat_lt h.body bodies && is_trigger M w h.trigger)

abbrev pub is_partition : Model → (Scope → Bool) → Partition → Bool
is_partition M inner p =
    is_known M (out-Partition p).name && (if_any (is_procedure M) (out-Partition p).entry
    && (if_any (is_procedure M) (out-Partition p).exit && inner (out-Partition p).inner))

abbrev pub is_kind : Model → (Scope → Bool) → Kind → Bool
is_kind M inner Basic = true
is_kind M inner (Composite entry exit m) =
    if_any (is_procedure M) entry && (if_any (is_procedure M) exit && inner m)
is_kind M inner (Aggregation entry exit ps) =
    if_any (is_procedure M) entry && (if_any (is_procedure M) exit && list_all (is_partition M inner) ps)

abbrev pub is_state : Model → Surroundings → ℕ → (Scope → Bool) → StateDef → Bool
is_state M w bodies inner d =
    is_known M d.name && (is_place d.place
    && (list_all (is_handler M w bodies) d.handlers && is_kind M inner (out-StateKind d.kind)))

abbrev pub is_start : Model → ℕ → Start → Bool
is_start M bodies s = if_any (is_known M) s.entry && nat_lt s.body bodies

-- the starts, states and bodies of a scope
abbrev pub is_level : Model → (Scope → Bool) → List Start → List StateDef → List Body → Bool
is_level M inner starts states bodies =
    list_all (is_start M (length bodies)) starts
    && (list_all (is_state M (in_states states) (length bodies) inner) states
    && list_all (is_body M (in_states states)) bodies)

-- a scope of at most this depth
abbrev pub is_scope_within : ℕ → Model → Scope → Bool
is_scope_within zero M m = false
is_scope_within (suc depth) M m =
    is_level M (is_scope_within depth M) (out-Scope m).starts (out-Scope m).states (out-Scope m).bodies

abbrev pub is_scope : Model → Scope → Bool
is_scope M m = is_scope_within (size-Scope m) M m

-- ---- data and procedures

-- the names of a type
abbrev pub are_names_of : Model → Sort → Bool
are_names_of M (Sorts.Enumerated names numbers) = list_all (is_known M) names
are_names_of M (Sorts.Sequence parts) = list_all (λ (p : Part). is_known M p.name) parts
are_names_of M (Sorts.Choice parts) = list_all (λ (p : Part). is_known M p.name) parts
are_names_of M _ = true

abbrev pub is_declared : Model → Variable → Bool
is_declared M v = is_known M v.name && is_type M v.sort

abbrev pub is_declared_signal : Model → Signal → Bool
is_declared_signal M s = is_known M s.name && list_all (is_type M) s.sorts

-- the parameters are the first of the variables, by name and type
abbrev pub are_first : List Formal → List Variable → Bool
are_first [] vs = true
are_first (f ∷ fs) (v ∷ vs) = same_name f.name v.name && (nat_eq f.sort.0 v.sort.0 && are_first fs vs)
are_first (f ∷ fs) [] = false

abbrev pub is_declared_procedure : Model → Proc → Bool
is_declared_procedure M p =
    is_known M p.name && (is_place p.place && (are_first p.formals p.locals
    && (list_all (is_declared M) p.locals && (if_any (is_type M) p.result
    && (not (is_empty p.bodies) && list_all (is_body M (in_procedure p)) p.bodies)))))

-- ---- a model

-- the tree is one of a text
pub record IsResolved (M : Model) : Type 0 where
  pub names : IsTrue (list_all is_name M.names)
  pub process : IsTrue (is_known M M.name)
  pub types : IsTrue (is_table M.types)
  pub few_types : IsTrue (nat_lt (length M.types) (2 ^ 32 - 1))
  pub type_names : IsTrue (list_all (are_names_of M) M.types)
  pub signals : IsTrue (list_all (is_declared_signal M) M.signals)
  pub timers : IsTrue (list_all (is_known M) M.timers)
  pub variables : IsTrue (list_all (is_declared M) M.variables)
  pub procedures : IsTrue (list_all (is_declared_procedure M) M.procs)
  pub states : IsTrue (is_scope M M.root)
