-- What is known of the parts of a model whose code was made.
use Rattle.std.proofs.Common.{◌≡◌, ℕ, zero, suc, List, Bool, true, length}
use Rattle.std.specs.Prelude.{nat_lt}
use Rattle.std.specs.List.{list_all}
use Rattle.og_model.specs.declared.Model.{Model}
use Rattle.og_model.specs.declared.Handler.{Handler}
use Rattle.og_model.specs.declared.StateDef.{StateDef}
use Rattle.og_model.specs.declared.Start.{Start}
use Rattle.og_model.specs.declared.Body.{Body}
use Rattle.og_model.specs.declared.Block.{Block, size-Block}
use Rattle.og_model.specs.declared.Scope.{Scope, out-Scope, size-Scope}
use Rattle.og_model.specs.Resolved.{if_any, is_known, is_step, is_ending, is_block_within, is_body, is_handler, is_state, is_start, is_scope_within, in_states}
use Rattle.og_flatten.specs.FlatCode.{bodies_of, states_of, starts_of, steps_of, end_of}
use Rattle.og_flatten.proofs.Made.{IsMade}
use Rattle.og_flatten.proofs.Tests.{all_by}
use Rattle.og_names.proofs.Truths.{both_first as left_of, both_second as right_of}

-- the tests of a scope, whatever is asked of the scopes inside
pub record Level (model : Model) (inner : Scope → Bool) (m : Scope) : Type 0 where
  pub starts : list_all (is_start model (length (out-Scope m).bodies)) (out-Scope m).starts ≡ true
  pub states : list_all (is_state model (in_states (out-Scope m).states) (length (out-Scope m).bodies) inner) (out-Scope m).states ≡ true
  pub bodies : list_all (is_body model (in_states (out-Scope m).states)) (out-Scope m).bodies ≡ true

level_of : (model : Model) (depth : ℕ) (m : Scope) → is_scope_within depth model m ≡ true → (inner : Scope → Bool) × Level model inner m
level_of model zero m is = cc
level_of model (suc depth) m is =
    (is_scope_within depth model, record { starts = left_of _ _ is; states = left_of _ _ (right_of _ _ is); bodies = right_of _ _ (right_of _ _ is) })

-- the tests of a block
pub record Steps (model : Model) (inner : Block → Bool) (states : List StateDef) (body : Body) : Type 0 where
  pub steps : list_all (is_step model (in_states states) inner) (steps_of body) ≡ true
  pub end : if_any (is_ending model (in_states states)) (end_of body) ≡ true

steps_within : (model : Model) (states : List StateDef) (depth : ℕ) (body : Body)
    → is_block_within depth model (in_states states) body.block ≡ true → (inner : Block → Bool) × Steps model inner states body
steps_within model states zero body is = cc
steps_within model states (suc depth) body is =
    (is_block_within depth model (in_states states), record { steps = left_of _ _ is; end = right_of _ _ is })

pub steps_in : (model : Model) (states : List StateDef) (body : Body) → is_body model (in_states states) body ≡ true → (inner : Block → Bool) × Steps model inner states body
steps_in model states body is = steps_within model states (size-Block body.block) body (right_of _ _ (right_of _ _ is))

-- a handler names a body
abbrev pub has_bodies : ℕ → StateDef → Bool
has_bodies bodies d = list_all (λ (h : Handler). nat_lt h.body bodies) d.handlers

pub record Parts (model : Model) : Type 0 where
  pub bodies : list_all (is_body model (in_states (states_of model))) (bodies_of model) ≡ true
  pub handlers : list_all (has_bodies (length (bodies_of model))) (states_of model) ≡ true
  pub named : list_all (λ (d : StateDef). is_known model d.name) (states_of model) ≡ true
  pub starts : list_all (λ (s : Start). nat_lt s.body (length (bodies_of model))) (starts_of model) ≡ true

module _ (model : Model) (inner : Scope → Bool) (w : ℕ) where
  handler_names : (h : Handler) → is_handler model (in_states (states_of model)) w h ≡ true → nat_lt h.body w ≡ true
  handler_names h is = left_of _ _ (right_of _ _ is)

  state_handlers : (d : StateDef) → is_state model (in_states (states_of model)) w inner d ≡ true → has_bodies w d ≡ true
  state_handlers d is =
      all_by (is_handler model (in_states (states_of model)) w) (λ (h : Handler). nat_lt h.body w) handler_names d.handlers
      (left_of _ _ (right_of _ _ (right_of _ _ is)))

  state_named : (d : StateDef) → is_state model (in_states (states_of model)) w inner d ≡ true → is_known model d.name ≡ true
  state_named d is = left_of _ _ is

  start_names : (s : Start) → is_start model w s ≡ true → nat_lt s.body w ≡ true
  start_names s is = right_of _ _ is

parts_from : (model : Model) (inner : Scope → Bool) → Level model inner model.root → Parts model
parts_from model inner level =
    let w : ℕ = length (bodies_of model) in
    record {
      bodies = level.bodies;
      handlers = all_by (is_state model (in_states (states_of model)) w inner) (has_bodies w) (state_handlers model inner w) (states_of model) level.states;
      named = all_by (is_state model (in_states (states_of model)) w inner) (λ (d : StateDef). is_known model d.name) (state_named model inner w) (states_of model) level.states;
      starts = all_by (is_start model w) (λ (s : Start). nat_lt s.body w) (start_names model inner w) (starts_of model) level.starts;
    }

pub parts : (model : Model) → IsMade model → Parts model
parts model made = let level = level_of model (size-Scope model.root) model.root made.formed.resolved.states in parts_from model level.0 level.1
