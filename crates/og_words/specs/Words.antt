-- The words of the command line, and which of them are those of a command: the word that names it, then its model files, then what
-- stands behind these. The form of the words is this project's own.
use Rattle.std.specs.Prelude.{◌≡◌, ◌≢◌, ◌⊎◌, ℕ, ◌<◌, ◌≤◌, List, [], ◌∷◌, ◌++◌, length, codes, decimal}
use Rattle.std.specs.List.{AllByRecursion}

-- What words ask for, with the names of the files and the greatest number of statements for the start and for each stimulus:
-- whether the model files are accepted; the C of their model; a run of a program over the model; a run of the C of the model.
pub data Command : Type 0 where
  Check : (files : List (List ℕ)) → Command
  Compile : (files : List (List ℕ)) → Command
  Run : (files : List (List ℕ)) (program stimuli : List ℕ) (steps : ℕ) → Command
  Simulate : (files : List (List ℕ)) (stimuli : List ℕ) (steps : ℕ) → Command

-- ---- names of files

-- the name ends so, with something before it
abbrev pub HasEnding : List ℕ → List ℕ → Type 0
HasEnding ending name = (stem : List ℕ) × (0 < length stem) × (name ≡ stem ++ ending)

-- a file of SDL/PR
abbrev pub IsSdlFile : List ℕ → Type 0
IsSdlFile name = HasEnding (codes ".pr") name

-- a file of ASN.1 modules
abbrev pub IsAsnFile : List ℕ → Type 0
IsAsnFile name = HasEnding (codes ".asn") name ⊎ HasEnding (codes ".asn1") name

abbrev pub IsModelFile : List ℕ → Type 0
IsModelFile name = IsSdlFile name ⊎ IsAsnFile name

abbrev pub IsProgramFile : List ℕ → Type 0
IsProgramFile name = HasEnding (codes ".c") name

abbrev pub IsStimuliFile : List ℕ → Type 0
IsStimuliFile name = HasEnding (codes ".stim") name

-- ---- the model files of a command

-- the most model files
abbrev pub most_files : ℕ
most_files = 64

-- no word stands twice
abbrev pub AreDifferent : List (List ℕ) → Type 0
AreDifferent [] = Unit {0}
AreDifferent (word ∷ words) = AllByRecursion (λ other. other ≢ word) words × AreDifferent words

-- one of the files is one of SDL/PR, and all others are of ASN.1
abbrev pub HasOneSdlFile : List (List ℕ) → Type 0
HasOneSdlFile [] = ⊥
HasOneSdlFile (file ∷ files) = (IsSdlFile file × AllByRecursion IsAsnFile files) ⊎ (IsAsnFile file × HasOneSdlFile files)

-- 1 to 64 different files, one of them of SDL/PR and the others of ASN.1, in any order
pub record AreModelFiles (files : List (List ℕ)) : Type 0 where
  pub each : AllByRecursion IsModelFile files
  pub few : length files ≤ most_files
  pub different : AreDifferent files
  pub process : HasOneSdlFile files

-- ---- the number of statements

abbrev pub IsSteps : ℕ → Type 0
IsSteps n = (1 ≤ n) × (n ≤ 1000000000)

abbrev pub default_steps : ℕ
default_steps = 1000000

-- the last words: none, or `--steps N` with a decimal number that has no sign and no zero in front
abbrev pub GivesSteps : ℕ → List (List ℕ) → Type 0
GivesSteps n last = ((last ≡ []) × (n ≡ default_steps)) ⊎ ((last ≡ codes "--steps" ∷ decimal n ∷ []) × IsSteps n)

-- ---- the commands

-- the word that names a command
abbrev pub name_of : Command → List ℕ
name_of (Check files) = codes "check"
name_of (Compile files) = codes "cc"
name_of (Run files program stimuli steps) = codes "run"
name_of (Simulate files stimuli steps) = codes "sim"

abbrev pub files_of : Command → List (List ℕ)
files_of (Check files) = files
files_of (Compile files) = files
files_of (Run files program stimuli steps) = files
files_of (Simulate files stimuli steps) = files

-- what stands behind the model files: nothing, `CFILE STIM [--steps N]` or `STIM [--steps N]`
abbrev pub StandsBehind : List (List ℕ) → Command → Type 0
StandsBehind behind (Check files) = behind ≡ []
StandsBehind behind (Compile files) = behind ≡ []
StandsBehind behind (Run files program stimuli steps) =
    (last : List (List ℕ)) × (behind ≡ program ∷ stimuli ∷ last) × GivesSteps steps last × IsProgramFile program × IsStimuliFile stimuli
StandsBehind behind (Simulate files stimuli steps) = (last : List (List ℕ)) × (behind ≡ stimuli ∷ last) × GivesSteps steps last × IsStimuliFile stimuli

-- the words are those of the command: its name, its model files and what stands behind these
pub record AsksFor (words : List (List ℕ)) (command : Command) : Type 0 where
  pub behind : List (List ℕ)
  pub are : words ≡ name_of command ∷ (files_of command ++ behind)
  pub files : AreModelFiles (files_of command)
  pub stands : StandsBehind behind command

-- the words are those of no command
abbrev pub IsNoCommand : List (List ℕ) → Type 0
IsNoCommand words = (command : Command) → AsksFor words command → ⊥

-- the words ask for a run of a program
abbrev pub AskForRun : List (List ℕ) → Type 0
AskForRun words = (files : List (List ℕ)) × (program : List ℕ) × (stimuli : List ℕ) × (steps : ℕ) × AsksFor words (Run files program stimuli steps)
