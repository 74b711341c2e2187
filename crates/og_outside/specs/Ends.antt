-- How the program ends: with the exit status of an answer of the top call, and with what this answer says of what was read and
-- written.
use Rattle.std.specs.Prelude.{◌≡◌, ℕ, List, Option}
use Rattle.og_base.specs.Store.{Files, Rose}
use Rattle.og_tool.specs.declared.status.Status.{Status}
use Rattle.og_tool.specs.declared.status.Status.TheVariants.{Done, Refused, Usage, ReadFault, WriteFault, NoMemory, BadFile, Past, Faulted, Stuck, TooLarge}
use Rattle.og_tool.specs.Answers.{Wrote, WroteSome, FailedToRead, IsTooLarge}
use Rattle.og_tool.specs.Statuses.{code_of}
use Rattle.og_words.specs.Words.{IsNoCommand}

-- what the answer says, where a store tells its files, the failures of reading were and are so many, a sink held and holds
-- this, and its failures were and are so many
abbrev pub Says : Status → List (List ℕ) → Option Files → (List ℕ → ℕ) → (List ℕ → ℕ) → Option (List ℕ) → Option (List ℕ) → ℕ → ℕ → Type 0
Says Done words told was is old new before after = Wrote words told Done old new
Says Refused words told was is old new before after = Wrote words told Refused old new
Says BadFile words told was is old new before after = Wrote words told BadFile old new
Says Past words told was is old new before after = Wrote words told Past old new
Says Faulted words told was is old new before after = Wrote words told Faulted old new
Says Stuck words told was is old new before after = Wrote words told Stuck old new
Says Usage words told was is old new before after = IsNoCommand words × (new ≡ old)
Says ReadFault words told was is old new before after = FailedToRead words told was is × (new ≡ old)
Says TooLarge words told was is old new before after = IsTooLarge words told × (new ≡ old)
Says WriteFault words told was is old new before after = Rose before after × WroteSome words told old new
Says NoMemory words told was is old new before after = new ≡ old

-- the exit status is that of an answer, and what this answer says holds
pub record Ends (code : ℕ) (words : List (List ℕ)) (told : Option Files) (was is : List ℕ → ℕ) (old new : Option (List ℕ)) (before after : ℕ) : Type 0 where
  pub status : Status
  pub has_code : code ≡ code_of status
  pub says : Says status words told was is old new before after
