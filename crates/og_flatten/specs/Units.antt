-- What costs a unit of work in a model of basic states, and how the runs of its code are cut into these units: which
-- unit an instruction begins, that the units come in the order of the meaning, that no instruction is carried out twice
-- between two of them, and that what is carried out for a step serves nothing else.
use Rattle.std.specs.Prelude.{◌≡◌, ℕ, zero, suc, ◌+◌, false, Option, Some, None, List, [], ◌∷◌, ◌++◌, if◌then◌else◌, get_or, slice_get, IsTrue}
use Rattle.std.specs.Option.{is_some, option_map, option_or}
use Rattle.og_model.specs.declared.Model.{Model}
use Rattle.og_model.specs.declared.Body.{Body}
use Rattle.og_model.specs.declared.Step.{Step}
use Rattle.og_model.specs.declared.Ending.{Ending}
use Rattle.og_model.specs.declared.EndKind.{EndKind}
use Rattle.og_model.specs.declared.EndKind.TheVariants.{Next}
use Rattle.og_model.specs.Shown.{Event, Stimulus, Signal, Expiry}
use Rattle.og_model.specs.Units.{State, Done, Doing}
use Rattle.og_model.specs.Configuration.{Active}
use Rattle.og_model.specs.Choice.{Found, handler_of}
use Rattle.og_model.specs.Moving.{start_named}
use Rattle.og_model.specs.Run.{first_state, start, step}
use Rattle.og_ir.specs.declared.Ir.{Ir}
use Rattle.og_ir.specs.Arithmetic.{in_64_bits}
use Rattle.og_ir.specs.Cells.{Cells}
use Rattle.og_ir.specs.FlatSteps.{first_slots}
use Rattle.og_ir.specs.Steps.{Frame, Config, Over, exec}
use Rattle.og_csubset.specs.Agreement.{is_stimulus}
use Rattle.og_csubset.specs.FlatRun.{flat_machine}
use Rattle.og_csubset.specs.Run.{Machine}
use Rattle.og_follow.specs.Cuts.{places_of, IsCut}
use Rattle.og_flatten.specs.FlatCode.{bodies_of, steps_of, end_of}

-- ---- what costs a unit

-- a step of a body, the ending of a body, or the entering of a state, by their numbers
pub data Cost : Type 0 where
  A_step : (body step : ℕ) → Cost
  An_ending : (body : ℕ) → Cost
  An_entering : (state : ℕ) → Cost

-- the steps of a body from the i-th on
abbrev pub costs_of_steps : ℕ → ℕ → List Step → List Cost
costs_of_steps body i [] = []
costs_of_steps body i (x ∷ steps) = A_step body i ∷ costs_of_steps body (i + 1) steps

abbrev pub costs_of_entering : EndKind → List Cost
costs_of_entering (Next state entry) = An_entering state ∷ []
costs_of_entering _ = []

abbrev pub costs_of_ending : ℕ → Option Ending → List Cost
costs_of_ending body None = []
costs_of_ending body (Some ending) = An_ending body ∷ costs_of_entering ending.kind

abbrev pub costs_of_body : ℕ → Option Body → List Cost
costs_of_body body None = []
costs_of_body body (Some b) = costs_of_steps body 0 (steps_of b) ++ costs_of_ending body (end_of b)

-- one after the other, what costs a unit where this body is carried out, or none
abbrev pub costs_of : Model → Option ℕ → List Cost
costs_of M None = []
costs_of M (Some body) = costs_of_body body (slice_get (bodies_of M) body)

-- ---- where the code begins the start or a stimulus

-- where the code stands then, what the meaning does in which state, and the body that is carried out
pub record Beginning : Type 0 where
  pub config : Config
  pub doing : Doing Active
  pub state : State
  pub body : Option ℕ

abbrev pub at_start : Model → Machine → List Cells → Beginning
at_start M machine first = record {
  config = machine.begin None first;
  doing = start M;
  state = first_state M;
  body = start_named M.root None;
}

-- the body of the stimulus's handler, if it has one; a timer that is not active has none
abbrev pub body_for : Model → Active → State → Stimulus → Option ℕ
body_for M a s (Signal k values) = option_map (λ (x : Found). x.handler.body) (handler_of (Signal k values) M.root a)
body_for M a s (Expiry t) =
    if get_or s.timers t false then option_map (λ (x : Found). x.handler.body) (handler_of (Expiry t) M.root a) else None

abbrev pub at_stimulus : Model → Machine → Active → State → List Cells → Stimulus → Beginning
at_stimulus M machine a s slots x = record {
  config = machine.begin (Some x) slots;
  doing = step M a x;
  state = s;
  body = body_for M a s x;
}

-- the start, and each stimulus that is taken where what came before has come to rest with some number of units
pub data IsBeginning (M : Model) (machine : Machine) (first : List Cells) : Beginning → Type 0 where
  The_start : IsBeginning M machine first (at_start M machine first)
  A_stimulus : (b : Beginning) → IsBeginning M machine first b → (n : ℕ) (a : Active) → (b.doing n b.state).outcome ≡ Done a
      → (steps : ℕ) (events : List Event) (slots : List Cells) → exec machine.step steps b.config ≡ record { events = events; config = Over slots }
      → (x : Stimulus) → IsTrue (is_stimulus M x) → IsBeginning M machine first (at_stimulus M machine a (b.doing n b.state).state slots x)

-- ---- the units of a run

abbrev pub with_unit : Option Cost → List Cost → List Cost
with_unit None costs = costs
with_unit (Some cost) costs = cost ∷ costs

-- the units that begin at these places
abbrev pub units_begun : (Frame → Option Cost) → List Frame → List Cost
units_begun begins [] = []
units_begun begins (frame ∷ frames) = with_unit (begins frame) (units_begun begins frames)

-- the unit to which the i-th of these places belongs: that which began there or last before it
abbrev pub unit_of : (Frame → Option Cost) → Option Cost → List Frame → ℕ → Option Cost
unit_of begins last [] i = None
unit_of begins last (frame ∷ frames) zero = option_or (begins frame) last
unit_of begins last (frame ∷ frames) (suc i) = unit_of begins (option_or (begins frame) last) frames i

-- these units came so far, one after the other, and all of them where the run is over
pub record InOrder (begins : Frame → Option Cost) (places : List Frame) (now : Config) (costs : List Cost) : Type 0 where
  pub left : List Cost
  pub all : units_begun begins places ++ left ≡ costs
  pub over : (slots : List Cells) → now ≡ Over slots → left ≡ []

-- The runs of the code are cut into the units of the model.
pub record HasOwnUnits (M : Model) (ir : Ir) : Type 0 where
  -- the unit that the instruction at a place begins, if it begins one
  pub begins : Frame → Option Cost
  -- as many units as the meaning takes, with its events, and no place twice between two of them
  pub cut : (b : Beginning) → IsBeginning M (flat_machine in_64_bits ir M) (first_slots M.types ir) b
      → (n : ℕ) → IsCut (flat_machine in_64_bits ir M).step (λ frame. is_some (begins frame)) b.config n (b.doing n b.state)
  -- the steps of the body, its ending, and the entering of the next state
  pub in_order : (b : Beginning) → IsBeginning M (flat_machine in_64_bits ir M) (first_slots M.types ir) b
      → (n : ℕ) → InOrder begins (places_of (flat_machine in_64_bits ir M).step n b.config) (exec (flat_machine in_64_bits ir M).step n b.config).config (costs_of M b.body)
  -- a place that is carried out for a step, in one run, is carried out for nothing else in any
  pub own : (b c : Beginning) → IsBeginning M (flat_machine in_64_bits ir M) (first_slots M.types ir) b → IsBeginning M (flat_machine in_64_bits ir M) (first_slots M.types ir) c
      → (n m i j body step : ℕ) (frame : Frame)
      → slice_get (places_of (flat_machine in_64_bits ir M).step n b.config) i ≡ Some frame
      → slice_get (places_of (flat_machine in_64_bits ir M).step m c.config) j ≡ Some frame
      → unit_of begins None (places_of (flat_machine in_64_bits ir M).step n b.config) i ≡ Some (A_step body step)
      → unit_of begins None (places_of (flat_machine in_64_bits ir M).step m c.config) j ≡ Some (A_step body step)
