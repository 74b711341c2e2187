-- Where a run of the program stands when a run of the code does, and that slots keep their shapes.
use Rattle.std.proofs.Common.{◌≡◌, ℕ, zero, suc, ◌+◌, ◌<◌, List, [], ◌∷◌, true, ◌&&◌, Option, Some, None, Result, Ok, Err, map, length, slice_get, refl, ap, ◌∙◌}
use Rattle.std.specs.Prelude.{⊤}
use Rattle.std.specs.List.{list_all}
use Rattle.std.proofs.lemmas.Bool.{false≢true}
use Rattle.og_model.specs.Shown.{Event}
use Rattle.og_model.specs.declared.Model.{Model}
use Rattle.og_ir.specs.declared.Ir.{Ir}
use Rattle.og_ir.specs.declared.FlatFn.{FlatFn}
use Rattle.og_ir.specs.Cells.{Cells, Cell, Empty, Both, change_global, put_at}
use Rattle.og_ir.specs.Arithmetic.{Trouble}
use Rattle.og_ir.specs.Steps.{Frame, Config, Running, Over, Broken, Ran, with_value}
use Rattle.og_ir.specs.FlatSteps.{Spot, put}
use Rattle.og_csubset.specs.Paced.{Pace}
use Rattle.og_cemit.specs.Marks.{is_marked}
use Rattle.og_cemit.specs.Emitted.{targets}
use Rattle.og_cemit.proofs.Values.{HoldShapes}
use Rattle.og_cemit.proofs.Bodies.{width_of, before}
use Rattle.og_names.proofs.Truths.{both_first as left_of, both_second as right_of}

-- ---- configurations

abbrev pub before_in : Option FlatFn → ℕ → ℕ
before_in None place = place
before_in (Some g) place = before (targets g.code) 0 g.code place

abbrev pub pace_in : Option FlatFn → ℕ → ℕ
pace_in None place = 1
pace_in (Some g) place = width_of (is_marked (targets g.code) place) (slice_get g.code place)

-- a place that something jumps to has two statements, and any other one
abbrev pub pace_of : Ir → Pace
pace_of ir k place = pace_in (slice_get ir.functions k) place

-- the frame of the program, where so many statements are carried out
abbrev pub begun_frame : Ir → ℕ → Frame → Frame
begun_frame ir b frame = record { function = frame.function; place = before_in (slice_get ir.functions frame.function) frame.place + b }

abbrev pub begun_config : Ir → ℕ → Config → Config
begun_config ir b (Running slots frame callers) = Running slots (begun_frame ir b frame) (map (begun_frame ir 0) callers)
begun_config ir b (Over slots) = Over slots
begun_config ir b (Broken trouble) = Broken trouble

abbrev pub begun_ran : Ir → Ran Event → Ran Event
begun_ran ir ran = record { events = ran.events; config = begun_config ir 0 ran.config }

abbrev pub Waiting : Ir → List Frame → Type 0
Waiting ir [] = ⊤
Waiting ir (frame ∷ callers) = (frame.function < length ir.functions) × Waiting ir callers

-- slots have their shapes, and functions are there
abbrev pub IsGood : Ir → Model → Config → Type 0
IsGood ir model (Running slots frame callers) = HoldShapes ir model slots × (frame.function < length ir.functions) × Waiting ir callers
IsGood ir model (Over slots) = HoldShapes ir model slots
IsGood ir model (Broken trouble) = ⊤

-- a statement does what a step of the code does, after which all is well
pub record Same (ir : Ir) (model : Model) (statement step : Ran Event) : Type 0 where
  pub same : statement ≡ begun_ran ir step
  pub good : IsGood ir model step.config

pub same_by : {ir : Ir} {model : Model} {statement other step : Ran Event} → statement ≡ other → Same ir model other step → Same ir model statement step
same_by e h = record { same = e ∙ h.same; good = h.good }

pub bound : {A : Type 0} (ir : Ir) (model : Model) (r o : Result A Trouble) (g h : A → Ran Event) → r ≡ o → ((x : A) → o ≡ Ok x → Same ir model (g x) (h x))
    → Same ir model (with_value r g) (with_value o h)
bound ir model r (Ok x) g h e k = same_by (ap (λ t. with_value t g) e) (k x refl)
bound ir model r (Err t) g h e k = record { same = ap (λ t'. with_value t' g) e; good = tt }
