-- What holds of every model, whatever its tree: how fuel and units come into what is done and into what a run shows.
use Rattle.std.specs.Prelude.{◌≡◌, ℕ, ◌≤◌, List, Option, false}
use Rattle.og_names.specs.declared.NameId.{NameId}
use Rattle.og_model.specs.declared.Model.{Model}
use Rattle.og_model.specs.declared.Scope.{Scope}
use Rattle.og_model.specs.Shown.{Stimulus, Begins, has_past, AnswersEach, StaysStopped}
use Rattle.og_model.specs.declared.Block.{Block, out-Block}
use Rattle.og_model.specs.declared.Expr.{Expr}
use Rattle.og_model.specs.declared.Node.{out-Node}
use Rattle.og_model.specs.declared.Target.{Target}
use Rattle.og_model.specs.Expressions.{Frame, Store, eval, eval_node, walk, walk_by}
use Rattle.og_model.specs.Units.{State, Doing}
use Rattle.og_model.specs.Actions.{Setting, Remainder, run, perform, tail_in, tail_of_steps}
use Rattle.og_model.specs.Configuration.{Active}
use Rattle.og_model.specs.Moving.{enter_by, enter}
use Rattle.og_model.specs.Settling.{settle_by, settle}
use Rattle.og_model.specs.Run.{start, step, sdl}

-- the two do the same where the units are at most the fuel
abbrev pub SameWithin : {A : Type 0} → ℕ → Doing A → Doing A → Type 0
SameWithin fuel one other = (n : ℕ) (s : State) → n ≤ fuel → one n s ≡ other n s

-- fuel changes nothing once it covers the units
pub record FuelIsFree : Type 0 where
  pub bodies : (fuel : ℕ) (M : Model) (b : Setting) (rest : Remainder) → SameWithin fuel (run fuel M b rest) (perform M b rest)
  pub entering : (fuel : ℕ) (M : Model) (m : Scope) (k : ℕ) (name : Option NameId) → SameWithin fuel (enter_by fuel M m k name) (enter M m k name)
  pub settling : (fuel : ℕ) (M : Model) (a : Active) → SameWithin fuel (settle_by fuel M a) (settle M a)

-- there are never more units after it than before
abbrev pub UnitsFall : {A : Type 0} → Doing A → Type 0
UnitsFall doing = (n : ℕ) (s : State) → (doing n s).left ≤ n

-- the units that are left never grow
pub record UnitsNeverGrow : Type 0 where
  pub bodies : (M : Model) (b : Setting) (rest : Remainder) → UnitsFall (perform M b rest)
  pub entering : (M : Model) (m : Scope) (k : ℕ) (name : Option NameId) → UnitsFall (enter M m k name)
  pub settling : (M : Model) (a : Active) → UnitsFall (settle M a)
  pub starting : (M : Model) → UnitsFall (start M)
  pub stepping : (M : Model) (a : Active) (x : Stimulus) → UnitsFall (step M a x)

-- with more units a run begins with what it shows with fewer
abbrev pub MoreUnitsGoOn : Type 0
MoreUnitsGoOn = (M : Model) (list : List Stimulus) (n more : ℕ) → n ≤ more → Begins (sdl M list n) (sdl M list more)

-- where the units suffice, more of them change nothing
abbrev pub EnoughUnitsAreEnough : Type 0
EnoughUnitsAreEnough =
    (M : Model) (list : List Stimulus) (n more : ℕ) → n ≤ more → has_past (sdl M list n) ≡ false → sdl M list more ≡ sdl M list n

-- the start and each stimulus is answered, up to the first fault or want of units
abbrev pub EachIsAnswered : Type 0
EachIsAnswered = (M : Model) (list : List Stimulus) (n : ℕ) → AnswersEach list (sdl M list n)

-- a process that has stopped shows nothing more
abbrev pub StoppedForGood : Type 0
StoppedForGood = (M : Model) (list : List Stimulus) (n : ℕ) → StaysStopped (sdl M list n)

-- an expression is worth what one layer says of the worth of its parts, and a target leads where the worth of its indices
-- leads it: the depth of the tree is no part of the meaning
pub record WorthIsByParts : Type 0 where
  pub expressions : (b : Frame) (s : Store) (e : Expr) → eval b s e ≡ eval_node (eval b s) b s (out-Node e.node)
  pub targets : (b : Frame) (s : Store) (t : Target) → walk b s t ≡ walk_by (eval b s) b s t

-- and so is what stands behind a label
abbrev pub TailsAreByParts : Type 0
TailsAreByParts =
    (l : NameId) (b : Block) → tail_in l b ≡ tail_of_steps (tail_in l) l (out-Block b).steps (out-Block b).end
