-- What the parts that load a program answer.
use Rattle.std.specs.Prelude.{◌≡◌, ℕ, List, Some, None}
use Rattle.og_model.specs.declared.Model.{Model}
use Rattle.og_model.specs.Regions.{regions}
use Rattle.og_csubset.specs.declared.CProgram.{CProgram}
use Rattle.og_csubset.specs.Agreement.{SameBehaviour}
use Rattle.og_csubset.specs.Loading.{first_load_rule}
use Rattle.og_cread.specs.declared.CReadError.{CReadError}
use Rattle.og_cread.specs.declared.CReadError.TheVariants as read
use Rattle.og_cstep.specs.declared.LoadError.{LoadError}
use Rattle.og_cstep.specs.declared.LoadError.TheVariants as load
use Rattle.og_cstep.specs.Machines.{run_of, loaded}
use Rattle.og_tool.specs.declared.program.Loaded.{Loaded}
use Rattle.og_tool.specs.declared.program.BadProgram.TheVariants.{NoForm, TooDeep, Breaks}
use Rattle.og_tool.specs.declared.program.ProgramError.{ProgramError}
use Rattle.og_tool.specs.declared.program.ProgramError.TheVariants.{Bad, NoMemory}
use Rattle.og_tool.specs.Programs.{IsTextOfProgram, IsBadFor}

-- the machine runs this program over the model
pub record Runs (program : CProgram) (model : Model) (machine : Loaded) : Type 0 where
  pub starts : run_of machine.machine ≡ loaded program model
  pub regions_are : machine.regions.list ≡ regions model

-- and the program can be run over it
pub record IsLoadedWith (program : CProgram) (model : Model) (machine : Loaded) : Type 0 where
  pub runs : Runs program model machine
  pub loads : first_load_rule program model ≡ None

-- the bytes spell the program that the machine runs
pub record IsLoaded (model : Model) (bytes : List ℕ) (machine : Loaded) : Type 0 where
  pub program : CProgram
  pub text : IsTextOfProgram bytes program
  pub loaded_with : IsLoadedWith program model machine

-- the program that the machine runs agrees with the model
pub record Agrees (model : Model) (machine : Loaded) : Type 0 where
  pub program : CProgram
  pub agrees : SameBehaviour model program
  pub runs : Runs program model machine

-- ---- one error for another

abbrev pub unread_as : CReadError → ProgramError
unread_as (read.Bad place) = Bad (NoForm place)
unread_as (read.TooDeep place) = Bad (TooDeep place)
unread_as (read.NoMemory met) = NoMemory met

abbrev pub unloaded_as : LoadError → ProgramError
unloaded_as (load.BadProgram rule) = Bad (Breaks rule)
unloaded_as (load.NoMemory met) = NoMemory met

-- ---- what an error tells

abbrev pub TellsProgram : Model → List ℕ → ProgramError → Type 0
TellsProgram model bytes (Bad bad) = IsBadFor model bytes bad
TellsProgram model bytes (NoMemory met) = Unit {0}

-- an error of the text is one whatever the model is
abbrev pub TellsForm : List ℕ → ProgramError → Type 0
TellsForm bytes error = (model : Model) → TellsProgram model bytes error

-- an error of the rules names the first that is broken
abbrev pub TellsRule : CProgram → Model → ProgramError → Type 0
TellsRule program model (Bad (NoForm place)) = ⊥
TellsRule program model (Bad (TooDeep place)) = ⊥
TellsRule program model (Bad (Breaks rule)) = first_load_rule program model ≡ Some rule
TellsRule program model (NoMemory met) = Unit {0}
