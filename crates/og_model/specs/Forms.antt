-- Which forms a model uses. This is no part of what a model means: it names the models whose states are all basic (Z.101
-- section 11.11), without data, timers and procedures. Each of their transitions sends signals and ends with NEXTSTATE.
use Rattle.std.specs.Prelude.{◌≡◌, Bool, true, false, ◌&&◌, List, [], ◌∷◌, IsTrue, Option, Some, None, is_none}
use Rattle.std.specs.List.{list_all}
use Rattle.og_types.specs.Table.{is_empty}
use Rattle.og_model.specs.declared.Branch.{Branch}
use Rattle.og_model.specs.declared.Step.{Step}
use Rattle.og_model.specs.declared.Block.{Block, out-Block}
use Rattle.og_model.specs.declared.Action.{Action, Action-F, out-Action}
use Rattle.og_model.specs.declared.Action.TheOpen.{Output}
use Rattle.og_model.specs.declared.Ending.{Ending}
use Rattle.og_model.specs.declared.EndKind.{EndKind}
use Rattle.og_model.specs.declared.EndKind.TheVariants.{Next}
use Rattle.og_model.specs.declared.Body.{Body}
use Rattle.og_model.specs.declared.Handler.{Handler}
use Rattle.og_model.specs.declared.Trigger.{Trigger}
use Rattle.og_model.specs.declared.Trigger.TheVariants.{Input}
use Rattle.og_model.specs.declared.Start.{Start}
use Rattle.og_model.specs.declared.Scope.{out-Scope}
use Rattle.og_model.specs.declared.StateDef.{StateDef}
use Rattle.og_model.specs.declared.StateKind.{out-StateKind}
use Rattle.og_model.specs.declared.StateKind.TheOpen.{Basic}
use Rattle.og_model.specs.declared.Model.{Model}
use Rattle.og_model.specs.Configuration.{Kind}

abbrev pub is_output : Action-F Action Block Branch Step → Bool
is_output (Output signal values) = is_empty values
is_output _ = false

-- OUTPUT of one signal without values
abbrev pub is_plain_step : Step → Bool
is_plain_step s = is_none s.label && is_output (out-Action s.action)

abbrev pub is_next : EndKind → Bool
is_next (Next state entry) = is_none entry
is_next _ = false

-- NEXTSTATE with a state alone
abbrev pub is_plain_ending : Option Ending → Bool
is_plain_ending None = false
is_plain_ending (Some e) = is_none e.label && is_next e.kind

-- signals are sent, and then a state is entered
abbrev pub is_plain_body : Body → Bool
is_plain_body b =
    is_none b.label && (list_all is_plain_step (out-Block b.block).steps && is_plain_ending (out-Block b.block).end)

abbrev pub is_plain_trigger : Trigger → Bool
is_plain_trigger (Input signal into) = is_empty into
is_plain_trigger _ = false

abbrev pub is_basic : Kind → Bool
is_basic Basic = true
is_basic _ = false

-- a basic state whose transitions are triggered by signals alone
abbrev pub is_plain_state : StateDef → Bool
is_plain_state d = is_basic (out-StateKind d.kind) && list_all (λ (h : Handler). is_plain_trigger h.trigger) d.handlers

-- one start, without a name
abbrev pub is_one_start : List Start → Bool
is_one_start (x ∷ []) = is_none x.entry
is_one_start _ = false

-- a model of basic states alone
pub record UsesBasicStatesOnly (M : Model) : Type 0 where
  pub no_timers : M.timers ≡ []
  pub no_variables : M.variables ≡ []
  pub no_procedures : M.procs ≡ []
  pub states : IsTrue (list_all is_plain_state (out-Scope M.root).states)
  pub start : IsTrue (is_one_start (out-Scope M.root).starts)
  pub bodies : IsTrue (list_all is_plain_body (out-Scope M.root).bodies)
