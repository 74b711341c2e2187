-- The stimuli of a file, one line after the other, up to the first line that breaks a rule, and that line.
use Rattle.std.specs.Prelude.{ℕ, ◌+◌, List, [], ◌∷◌, Option, Some, None, Ok, Err}
use Rattle.og_types.specs.declared.Value.{Value}
use Rattle.og_model.specs.declared.Model.{Model}
use Rattle.og_model.specs.declared.StimId.{StimId}
use Rattle.og_model.specs.declared.StimId.TheVariants as id
use Rattle.og_model.specs.Shown.{Stimulus, Signal, Expiry}
use Rattle.og_stim.specs.declared.stimuli.StimRule.{StimRule}
use Rattle.og_stim.specs.declared.stimuli.Stimulus.{Stimulus as Line}
use Rattle.og_stim.specs.Lines.{lines_of}
use Rattle.og_stim.specs.Stimuli.{Judged, judged}

-- A line, counted from 1, and the first rule that it breaks.
pub record BadLine : Type 0 where
  pub line : ℕ
  pub rule : StimRule

pub record Stims : Type 0 where
  pub list : List Line
  pub bad : Option BadLine

-- a line, and what the lines behind it give
abbrev pub line_first : Judged → ℕ → Stims → Stims
line_first (Ok None) n later = later
line_first (Ok (Some x)) n later = record later { list = x ∷ later.list }
line_first (Err rule) n later = record { list = []; bad = Some (record { line = n; rule = rule }) }

-- where so many lines come before these
abbrev pub stims_in : Model → ℕ → List (List ℕ) → Stims
stims_in M n [] = record { list = []; bad = None }
stims_in M n (line ∷ lines) = line_first (judged M (n + 1) line) (n + 1) (stims_in M (n + 1) lines)

abbrev pub stims_of : Model → List ℕ → Stims
stims_of M text = stims_in M 0 (lines_of text)

-- what stands before the stimuli of a file
abbrev pub start : Line
start = record { id = id.Start; values = [] }

-- a stimulus with its values, as a run takes it; the start is none
abbrev pub given_first : StimId → List Value → List Stimulus → List Stimulus
given_first id.Start values more = more
given_first (id.Signal k) values more = Signal k values ∷ more
given_first (id.Timer k) values more = Expiry k ∷ more

abbrev pub given : List Line → List Stimulus
given [] = []
given (x ∷ xs) = given_first x.id x.values (given xs)
