-- A command as the code holds it, with the texts of its words, and what its words are behind the model files.
use Rattle.std.specs.Prelude.{◌≡◌, ℕ, List, [], ◌∷◌, map, string_bytes}
use Rattle.std.specs.declared.alloc.Global.{Global}
use Rattle.std.specs.declared.string.String.{String}
use Rattle.og_words.specs.declared.command.Command.{Command}
use Rattle.og_words.specs.declared.command.Command.TheVariants.{Check, Compile, Run, Simulate}
use Rattle.og_words.specs.Words as words
use Rattle.og_words.specs.Words.{IsModelFile, GivesSteps, IsStimuliFile, name_of, files_of, StandsBehind}

-- the texts of words
abbrev pub texts : List (String Global) → List (List ℕ)
texts names = map string_bytes names

abbrev pub asked : Command → words.Command
asked (Check files) = words.Check (texts files.now)
asked (Compile files) = words.Compile (texts files.now)
asked (Run files program stimuli steps) = words.Run (texts files.now) program.now stimuli.now steps
asked (Simulate files stimuli steps) = words.Simulate (texts files.now) stimuli.now steps

-- no model file stands in front
abbrev pub BeginsNoFile : List (List ℕ) → Type 0
BeginsNoFile [] = Unit {0}
BeginsNoFile (word ∷ words) = IsModelFile word → ⊥

-- the name, the model files and what stands behind them are those of the command
pub record Fits (name : List ℕ) (files behind : List (List ℕ)) (command : words.Command) : Type 0 where
  pub name_is : name ≡ name_of command
  pub files_are : files ≡ files_of command
  pub stands : StandsBehind behind command

abbrev pub FitsNone : List ℕ → (files behind : List (List ℕ)) → Type 0
FitsNone name files behind = (command : words.Command) → Fits name files behind command → ⊥

-- the words name a file of stimuli, and then give the number of statements
pub record IsStimuliWith (stimuli : List ℕ) (steps : ℕ) (words : List (List ℕ)) : Type 0 where
  pub last : List (List ℕ)
  pub are : words ≡ stimuli ∷ last
  pub gives : GivesSteps steps last
  pub file : IsStimuliFile stimuli
