-- The exit status of the program for each way in which a call ends.
use Rattle.std.specs.Prelude.{ℕ}
use Rattle.og_tool.specs.declared.status.Status.{Status}
use Rattle.og_tool.specs.declared.status.Status.TheVariants.{Done, Refused, Usage, ReadFault, WriteFault, NoMemory, BadFile, Past, Faulted, Stuck, TooLarge}

abbrev pub code_of : Status → ℕ
code_of Done = 0
code_of Refused = 1
code_of Usage = 2
code_of ReadFault = 3
code_of WriteFault = 4
code_of NoMemory = 5
code_of BadFile = 6
code_of Past = 7
code_of Faulted = 8
code_of Stuck = 9
code_of TooLarge = 11
