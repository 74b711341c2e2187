-- A model that has more variables than another and is otherwise seen alike: it has the same types, signals, timers and
-- regions under the same numbers and names, and the variables of the other come first. A program of the larger model is then
-- a program of the smaller one, which shows the same, but for the variables that the smaller one has not.
use Rattle.std.specs.Prelude.{◌≡◌, ℕ, List, ◌++◌, take, map, length}
use Rattle.std.specs.List.{AllByRecursion}
use Rattle.og_names.specs.declared.NameId.{NameId}
use Rattle.og_model.specs.declared.Model.{Model}
use Rattle.og_model.specs.declared.Signal.{Signal}
use Rattle.og_model.specs.declared.Variable.{Variable}
use Rattle.og_model.specs.declared.Region.{Region}
use Rattle.og_model.specs.Regions.{regions}
use Rattle.og_model.specs.Shown.{End, Rest, Fault, Stopped, Past, Stuck, Shown}
use Rattle.og_csubset.specs.Interface.{name_of}

-- a number has the same name in both
abbrev pub SameName : Model → Model → NameId → Type 0
SameName model larger id = name_of larger id ≡ name_of model id

-- The larger model is seen as the other, and has more variables.
pub record Extends (model larger : Model) : Type 0 where
  pub types : larger.types ≡ model.types
  pub signals : larger.signals ≡ model.signals
  pub timers : larger.timers ≡ model.timers
  pub regions_same : regions larger ≡ regions model
  pub variables : (more : List Variable) × (larger.variables ≡ model.variables ++ more)
  pub signal_names : AllByRecursion (λ (s : Signal). SameName model larger s.name) model.signals
  pub timer_names : AllByRecursion (SameName model larger) model.timers
  pub variable_names : AllByRecursion (λ (v : Variable). SameName model larger v.name) model.variables
  pub region_names : AllByRecursion (λ (r : Region). AllByRecursion (SameName model larger) r.path) (regions model)

-- an end with the first variables alone
abbrev pub end_over : ℕ → End → End
end_over n (Rest paths variables timers) = Rest paths (take n variables) timers
end_over n (Fault kind place variables timers) = Fault kind place (take n variables) timers
end_over n (Stopped variables) = Stopped (take n variables)
end_over n Past = Past
end_over n (Stuck rule) = Stuck rule

-- what is shown, over the variables of a model that come first
abbrev pub shown_over : Model → List Shown → List Shown
shown_over model shown =
    map (λ (entry : Shown). record { events = entry.events; end = end_over (length model.variables) entry.end }) shown
