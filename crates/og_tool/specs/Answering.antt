-- What the parts of the top call answer.
use Rattle.std.specs.Prelude.{◌≡◌, ℕ, List, slice_get, Option, Some}
use Rattle.og_base.specs.declared.read.ReadError.{ReadError}
use Rattle.og_base.specs.declared.read.ReadError.TheVariants as unread
use Rattle.og_base.specs.declared.Violation.{Violation}
use Rattle.og_base.specs.Store.{Files, Rose}
use Rattle.og_base.specs.Sink.{grown, WroteFront}
use Rattle.og_model.specs.declared.Model.{Model}
use Rattle.og_tool.specs.declared.reading.Judgement.{Judgement}
use Rattle.og_tool.specs.declared.reading.Judgement.TheVariants as judged
use Rattle.og_tool.specs.declared.status.Status.{Status}
use Rattle.og_tool.specs.declared.status.Status.TheVariants.{Done, Refused, Usage, ReadFault, WriteFault, NoMemory, BadFile, Past, Faulted, Stuck, TooLarge}
use Rattle.og_tool.specs.Answers.{HasModel, IsReport, IsOutputFor, FailedFor, IsTooLargeFor}
use Rattle.og_judge.specs.Judging.{SourceFile}
use Rattle.og_judge.specs.Ready.{CanRun}
use Rattle.og_report.specs.declared.Report.{Report}
use Rattle.og_report.specs.Report.{IsReportOf}
use Rattle.og_report.specs.Line.{report_line}
use Rattle.og_words.specs.Words.{Command}

-- ---- reading a model

-- the files were read, and this is their model
pub record IsReady (told : Option Files) (names : List (List ℕ)) (model : Model) : Type 0 where
  pub has_model : HasModel told names model
  pub can : CanRun model

abbrev pub TellsModel : Option Files → List (List ℕ) → Judgement → Type 0
TellsModel told names (judged.Accepted model) = IsReady told names model
TellsModel told names (judged.Refused line) = IsReport told names Refused line.items

abbrev pub IsRefusal : List ℕ → Judgement → Type 0
IsRefusal line (judged.Accepted model) = ⊥
IsRefusal line (judged.Refused text) = text.items ≡ line

-- the line that reports the violation, with the name of the file in which it is
pub record IsRefusalOf (names : List (List ℕ)) (files : List SourceFile) (v : Violation) (judgement : Judgement) : Type 0 where
  pub name : List ℕ
  pub named : slice_get names v.place.file ≡ Some name
  pub file : SourceFile
  pub stands : slice_get files v.place.file ≡ Some file
  pub report : Report
  pub reports : IsReportOf file.language file.bytes v report
  pub is : IsRefusal (report_line report name) judgement

-- ---- carrying out a command

-- the status where no output was made
abbrev pub unread_status : ReadError → Status
unread_status unread.Fault = ReadFault
unread_status unread.TooLarge = TooLarge
unread_status (unread.NoMemory met) = NoMemory

-- what the command calls for with this status was written whole
abbrev pub WroteAll : Option Files → Command → Status → Option (List ℕ) → Option (List ℕ) → Type 0
WroteAll told command status old new = (text : List ℕ) × IsOutputFor told command status text × (new ≡ grown text old)

-- a front of what it calls for was written
abbrev pub WroteFrontFor : Option Files → Command → Option (List ℕ) → Option (List ℕ) → Type 0
WroteFrontFor told command old new = (status : Status) × (text : List ℕ) × IsOutputFor told command status text × WroteFront text old new

-- the failures of the store and of the sink were and are so many
abbrev pub CommandAnswer : Status → Option Files → Command → (List ℕ → ℕ) → (List ℕ → ℕ) → Option (List ℕ) → Option (List ℕ) → ℕ → ℕ → Type 0
CommandAnswer Done told command was is old new before after = WroteAll told command Done old new
CommandAnswer Refused told command was is old new before after = WroteAll told command Refused old new
CommandAnswer BadFile told command was is old new before after = WroteAll told command BadFile old new
CommandAnswer Past told command was is old new before after = WroteAll told command Past old new
CommandAnswer Faulted told command was is old new before after = WroteAll told command Faulted old new
CommandAnswer Stuck told command was is old new before after = WroteAll told command Stuck old new
CommandAnswer Usage told command was is old new before after = ⊥
CommandAnswer ReadFault told command was is old new before after = FailedFor told command was is × (new ≡ old)
CommandAnswer TooLarge told command was is old new before after = IsTooLargeFor told command × (new ≡ old)
CommandAnswer WriteFault told command was is old new before after = Rose before after × WroteFrontFor told command old new
CommandAnswer NoMemory told command was is old new before after = new ≡ old
