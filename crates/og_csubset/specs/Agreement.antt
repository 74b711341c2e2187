-- What it is for a program of the C subset to agree with a model: it loads, and for every list of stimuli it shows what the
-- meaning of the model says, up to the units and the statements that each is given. A model runs on exactly where its
-- program does, and so far both show the same.
use Rattle.std.specs.Prelude.{◌≡◌, ℕ, ◌+◌, ◌*◌, ◌≤◌, List, [], ◌∷◌, Bool, true, false, ◌&&◌, nat_lt, Option, Some, None, map, length, slice_get, IsTrue}
use Rattle.std.specs.List.{list_all}
use Rattle.og_types.specs.declared.TypeId.{TypeId}
use Rattle.og_types.specs.declared.Value.{Value}
use Rattle.og_types.specs.Values.{is_in}
use Rattle.og_model.specs.declared.Model.{Model}
use Rattle.og_model.specs.declared.Signal.{Signal}
use Rattle.og_model.specs.Shown as shown
use Rattle.og_model.specs.Shown.{Shown, Stimulus, Begins, has_past, has_stuck}
use Rattle.og_model.specs.Run.{sdl}
use Rattle.og_model.specs.Size.{bulk}
use Rattle.og_csubset.specs.declared.CProgram.{CProgram}
use Rattle.og_csubset.specs.Kinds.{total}
use Rattle.og_csubset.specs.Loading.{Loads}
use Rattle.og_csubset.specs.Run.{c}

-- the statements of all functions, where the end of a function counts one
abbrev pub size : CProgram → ℕ
size program = total (map (λ f. length f.body + 1) program.functions)

-- so many statements are enough for n units
abbrev pub enough : CProgram → ℕ → ℕ
enough program n = n * (size program + 1)

-- the size is bounded by that of the model
abbrev pub IsBrief : Model → CProgram → Type 0
IsBrief model program = size program ≤ 800 * bulk model

-- as many values as types, each in its type
abbrev pub are_in : Model → List TypeId → List Value → Bool
are_in model [] [] = true
are_in model [] (v ∷ vs) = false
are_in model (t ∷ types) [] = false
are_in model (t ∷ types) (v ∷ vs) = is_in model.types t v && are_in model types vs

abbrev pub is_sent : Model → Option Signal → List Value → Bool
is_sent model None vs = false
is_sent model (Some signal) vs = signal.incoming && are_in model signal.sorts vs

-- an incoming signal with values in their types, or a timer
abbrev pub is_stimulus : Model → Stimulus → Bool
is_stimulus model (shown.Signal k vs) = is_sent model (slice_get model.signals k) vs
is_stimulus model (shown.Expiry k) = nat_lt k (length model.timers)

abbrev pub AreStimuli : Model → List Stimulus → Type 0
AreStimuli model stimuli = IsTrue (list_all (is_stimulus model) stimuli)

-- What a meaning of a model shows with n units for each stimulus, and what code shows with m steps for each, over the lists
-- of stimuli that there are.
pub record SameRuns (Are : List Stimulus → Type 0) (enough : ℕ → ℕ) (meaning code : List Stimulus → ℕ → List Shown) : Type 0 where
  -- the code is never stuck
  pub never_stuck : (stimuli : List Stimulus) → Are stimuli → (m : ℕ) → has_stuck (code stimuli m) ≡ false
  -- where the meaning ends, the code shows the same with enough steps
  pub shows : (stimuli : List Stimulus) → Are stimuli → (n : ℕ) → 1 ≤ n → has_past (meaning stimuli n) ≡ false → code stimuli (enough n) ≡ meaning stimuli n
  -- where the code ends, the meaning shows the same with some units
  pub shows_only : (stimuli : List Stimulus) → Are stimuli → (m : ℕ) → has_past (code stimuli m) ≡ false → (n : ℕ) × (1 ≤ n) × (meaning stimuli n ≡ code stimuli m)
  -- the code shows at least what the meaning shows so far
  pub so_far : (stimuli : List Stimulus) → Are stimuli → (n : ℕ) → 1 ≤ n → Begins (meaning stimuli n) (code stimuli (enough n))
  -- and so far no more than that
  pub so_far_only : (stimuli : List Stimulus) → Are stimuli → (m : ℕ) → (n : ℕ) × (1 ≤ n) × Begins (code stimuli m) (meaning stimuli n)

-- the program loads with the model, and does what the model does
pub record SameBehaviour (model : Model) (program : CProgram) : Type 0 where
  pub loads : Loads program model
  pub runs : SameRuns (AreStimuli model) (enough program) (sdl model) (c program model)
