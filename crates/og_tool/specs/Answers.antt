-- What the top call answers and writes. Each answer has its cause: in the words, in the bytes that the store tells, or in a
-- count of failures that rose. What a command calls for is one text with one status.
use Rattle.std.specs.Prelude.{◌≡◌, ◌⊎◌, ℕ, ◌≤◌, List, [], ◌∷◌, ◌++◌, length, map, slice_get, Option, Some, None, codes}
use Rattle.og_base.specs.declared.Violation.{Violation}
use Rattle.og_base.specs.Store.{Files, Holds, HoldsMore, Rose}
use Rattle.og_base.specs.Sink.{grown, WroteFront}
use Rattle.og_model.specs.declared.Model.{Model}
use Rattle.og_csubset.specs.declared.CProgram.{CProgram}
use Rattle.og_csubset.specs.Agreement.{SameBehaviour}
use Rattle.og_csubset.specs.Loading.{first_load_rule}
use Rattle.og_lexer.specs.declared.Language.{Language}
use Rattle.og_lexer.specs.declared.Language.TheVariants.{Sdl, Asn}
use Rattle.og_trace.specs.declared.Outcome.{Outcome}
use Rattle.og_trace.specs.declared.Outcome.TheVariants as outcome
use Rattle.og_trace.specs.Traces.{run_text, run_outcome}
use Rattle.og_tool.specs.declared.program.BadProgram.{BadProgram}
use Rattle.og_tool.specs.declared.status.Status.{Status}
use Rattle.og_tool.specs.declared.status.Status.TheVariants.{Done, Refused, BadFile, Past, Faulted, Stuck}
use Rattle.og_tool.specs.Compiled.{IsCompiled}
use Rattle.og_report.specs.declared.Report.{Report}
use Rattle.og_report.specs.Report.{IsReportOf}
use Rattle.og_report.specs.Line.{report_line}
use Rattle.og_names.specs.declared.Word.{Word}
use Rattle.og_names.specs.Folding.{folded}
use Rattle.og_judge.specs.Judging.{SourceFile, IsFirstViolation, HaveModel}
use Rattle.og_tool.specs.Programs.{IsTextOfProgram, IsBadFor, bad_program_line}
use Rattle.og_words.specs.Words.{IsSdlFile, IsAsnFile, Command, Check, Compile, Run, Simulate, AsksFor}

-- the most bytes that a file may have
abbrev pub limit : ℕ
limit = 67108864

-- ---- what was read

-- the store holds these bytes under the name of the file, within the limit
pub record HasRead (told : Option Files) (file bytes : List ℕ) : Type 0 where
  pub holds : Holds told file bytes
  pub small : length bytes ≤ limit

-- the name is one of a file in this language
abbrev pub IsNamedAs : Language → List ℕ → Type 0
IsNamedAs Sdl name = IsSdlFile name
IsNamedAs Asn name = IsAsnFile name

-- the files of these names were read, in their order, each in the language of its name
abbrev pub AreRead : Option Files → List (List ℕ) → List SourceFile → Type 0
AreRead told [] [] = Unit {0}
AreRead told [] (file ∷ files) = ⊥
AreRead told (name ∷ names) [] = ⊥
AreRead told (name ∷ names) (file ∷ files) = IsNamedAs file.language name × HasRead told name file.bytes × AreRead told names files

-- the model files were read, and they are accepted with this model
pub record HasModel (told : Option Files) (names : List (List ℕ)) (model : Model) : Type 0 where
  pub files : List SourceFile
  pub read : AreRead told names files
  pub have : HaveModel files model

-- the file was read, and the program that it spells can be run over the model
pub record HasProgram (told : Option Files) (file : List ℕ) (model : Model) (program : CProgram) : Type 0 where
  pub bytes : List ℕ
  pub read : HasRead told file bytes
  pub text : IsTextOfProgram bytes program
  pub loads : first_load_rule program model ≡ None

-- ---- what a command calls for

-- the line that reports the first violation in the model files of these names, with the name of the file in which it is and the
-- box of its place in that file
pub record IsReport (told : Option Files) (names : List (List ℕ)) (status : Status) (line : List ℕ) : Type 0 where
  pub files : List SourceFile
  pub read : AreRead told names files
  pub violation : Violation
  pub first : IsFirstViolation files violation
  pub name : List ℕ
  pub named : slice_get names violation.place.file ≡ Some name
  pub file : SourceFile
  pub stands : slice_get files violation.place.file ≡ Some file
  pub report : Report
  pub reports : IsReportOf file.language file.bytes violation report
  pub is : line ≡ report_line report name
  pub refused : status ≡ Refused

-- accepted NAME
abbrev pub accepted_line : List ℕ → List ℕ
accepted_line name = codes "accepted " ++ name ++ 10 ∷ []

-- the line that says that the model files are accepted, with the folded name of the process
pub record IsAcceptance (told : Option Files) (names : List (List ℕ)) (status : Status) (line : List ℕ) : Type 0 where
  pub model : Model
  pub has_model : HasModel told names model
  pub is : line ≡ accepted_line (folded has_model.have.system.process.word.bytes)
  pub done : status ≡ Done

-- the C of an accepted model
pub record IsCode (told : Option Files) (names : List (List ℕ)) (status : Status) (text : List ℕ) : Type 0 where
  pub model : Model
  pub has_model : HasModel told names model
  pub compiled : IsCompiled model text
  pub done : status ≡ Done

abbrev pub status_of : Outcome → Status
status_of outcome.Done = Done
status_of outcome.BadFile = BadFile
status_of outcome.Past = Past
status_of outcome.Faulted = Faulted
status_of outcome.Stuck = Stuck

-- the word of a file
abbrev pub as_word : List ℕ → Word
as_word name = record { bytes = name }

-- the stimuli were read, and this is what the program writes over them, with the status of how it ends
pub record IsTrace (told : Option Files) (model : Model) (program : CProgram) (names : List (List ℕ)) (stimuli : List ℕ) (steps : ℕ) (status : Status) (text : List ℕ) : Type 0 where
  pub bytes : List ℕ
  pub read : HasRead told stimuli bytes
  pub is : text ≡ run_text model program (map as_word names) stimuli bytes steps
  pub ends : status ≡ status_of (run_outcome model program bytes steps)

-- a run of the program that the program's file spells
pub record IsRun (told : Option Files) (names : List (List ℕ)) (code stimuli : List ℕ) (steps : ℕ) (status : Status) (text : List ℕ) : Type 0 where
  pub model : Model
  pub has_model : HasModel told names model
  pub program : CProgram
  pub has_program : HasProgram told code model program
  pub traces : IsTrace told model program names stimuli steps status text

-- a run of a program that agrees with the model
pub record IsSimulation (told : Option Files) (names : List (List ℕ)) (stimuli : List ℕ) (steps : ℕ) (status : Status) (text : List ℕ) : Type 0 where
  pub model : Model
  pub has_model : HasModel told names model
  pub program : CProgram
  pub agrees : SameBehaviour model program
  pub traces : IsTrace told model program names stimuli steps status text

-- the line that says what is wrong with the program's file
pub record IsBadLine (told : Option Files) (names : List (List ℕ)) (code : List ℕ) (status : Status) (line : List ℕ) : Type 0 where
  pub model : Model
  pub has_model : HasModel told names model
  pub bytes : List ℕ
  pub read : HasRead told code bytes
  pub wrong : BadProgram
  pub bad : IsBadFor model bytes wrong
  pub is : line ≡ bad_program_line code wrong
  pub bad_file : status ≡ BadFile

-- this text is what the command calls for, with this status
abbrev pub IsOutputFor : Option Files → Command → Status → List ℕ → Type 0
IsOutputFor told (Check names) status text = IsReport told names status text ⊎ IsAcceptance told names status text
IsOutputFor told (Compile names) status text = IsReport told names status text ⊎ IsCode told names status text
IsOutputFor told (Run names code stimuli steps) status text =
    IsReport told names status text ⊎ (IsBadLine told names code status text ⊎ IsRun told names code stimuli steps status text)
IsOutputFor told (Simulate names stimuli steps) status text =
    IsReport told names status text ⊎ IsSimulation told names stimuli steps status text

-- ---- what was written

-- what the command of the words calls for with this status was written whole
pub record Wrote (words : List (List ℕ)) (told : Option Files) (status : Status) (old new : Option (List ℕ)) : Type 0 where
  pub command : Command
  pub asks : AsksFor words command
  pub text : List ℕ
  pub is_output : IsOutputFor told command status text
  pub wrote : new ≡ grown text old

-- a front of what the command of the words calls for was written
pub record WroteSome (words : List (List ℕ)) (told : Option Files) (old new : Option (List ℕ)) : Type 0 where
  pub command : Command
  pub asks : AsksFor words command
  pub status : Status
  pub text : List ℕ
  pub is_output : IsOutputFor told command status text
  pub wrote : WroteFront text old new

-- ---- what could not be read

-- the count of the file's failures rose in this call
abbrev pub RoseAt : List ℕ → (old new : List ℕ → ℕ) → Type 0
RoseAt file old new = Rose (old file) (new file)

-- a file was read
abbrev pub IsRead : Option Files → List ℕ → Type 0
IsRead told file = (bytes : List ℕ) × HasRead told file bytes

-- reading one of the files of these names failed in this call, and those before it were read
abbrev pub FailedAmong : Option Files → List (List ℕ) → (old new : List ℕ → ℕ) → Type 0
FailedAmong told [] old new = ⊥
FailedAmong told (name ∷ names) old new = RoseAt name old new ⊎ (IsRead told name × FailedAmong told names old new)

-- the model is accepted, and reading the program's file failed in this call
abbrev pub FailedAtProgram : Option Files → List (List ℕ) → List ℕ → (old new : List ℕ → ℕ) → Type 0
FailedAtProgram told names code old new = (model : Model) × HasModel told names model × RoseAt code old new

-- the program can be run over the model, and reading the file of stimuli failed in this call
abbrev pub FailedAtStimuli : Option Files → List (List ℕ) → (code stimuli : List ℕ) → (old new : List ℕ → ℕ) → Type 0
FailedAtStimuli told names code stimuli old new =
    (model : Model) × HasModel told names model × ((program : CProgram) × HasProgram told code model program) × RoseAt stimuli old new

-- reading a file of the command failed in this call; the files before it were read whole, and they hold an accepted model and
-- a program that can be run
abbrev pub FailedFor : Option Files → Command → (old new : List ℕ → ℕ) → Type 0
FailedFor told (Check names) old new = FailedAmong told names old new
FailedFor told (Compile names) old new = FailedAmong told names old new
FailedFor told (Run names code stimuli steps) old new =
    FailedAmong told names old new ⊎ (FailedAtProgram told names code old new ⊎ FailedAtStimuli told names code stimuli old new)
FailedFor told (Simulate names stimuli steps) old new =
    FailedAmong told names old new ⊎ ((model : Model) × HasModel told names model × RoseAt stimuli old new)

pub record FailedToRead (words : List (List ℕ)) (told : Option Files) (old new : List ℕ → ℕ) : Type 0 where
  pub command : Command
  pub asks : AsksFor words command
  pub failed : FailedFor told command old new

-- one of the files of these names has too many bytes, and those before it were read
abbrev pub IsLargeAmong : Option Files → List (List ℕ) → Type 0
IsLargeAmong told [] = ⊥
IsLargeAmong told (name ∷ names) = HoldsMore told name limit ⊎ (IsRead told name × IsLargeAmong told names)

-- the model is accepted, and the program's file has too many bytes
abbrev pub IsLargeProgram : Option Files → List (List ℕ) → List ℕ → Type 0
IsLargeProgram told names code = (model : Model) × HasModel told names model × HoldsMore told code limit

-- the program can be run over the model, and the file of stimuli has too many bytes
abbrev pub AreManyStimuli : Option Files → List (List ℕ) → (code stimuli : List ℕ) → Type 0
AreManyStimuli told names code stimuli =
    (model : Model) × HasModel told names model × ((program : CProgram) × HasProgram told code model program) × HoldsMore told stimuli limit

-- a file of the command has too many bytes; the files before it do not, and they hold an accepted model and a program that
-- can be run
abbrev pub IsTooLargeFor : Option Files → Command → Type 0
IsTooLargeFor told (Check names) = IsLargeAmong told names
IsTooLargeFor told (Compile names) = IsLargeAmong told names
IsTooLargeFor told (Run names code stimuli steps) =
    IsLargeAmong told names ⊎ (IsLargeProgram told names code ⊎ AreManyStimuli told names code stimuli)
IsTooLargeFor told (Simulate names stimuli steps) =
    IsLargeAmong told names ⊎ ((model : Model) × HasModel told names model × HoldsMore told stimuli limit)

pub record IsTooLarge (words : List (List ℕ)) (told : Option Files) : Type 0 where
  pub command : Command
  pub asks : AsksFor words command
  pub large : IsTooLargeFor told command
