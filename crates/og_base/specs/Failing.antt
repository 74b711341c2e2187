-- Why a file could not be read: want of memory is no fault and no size.
use Rattle.og_base.specs.declared.read.ReadError.{ReadError}
use Rattle.og_base.specs.declared.read.ReadError.TheVariants.{Fault, TooLarge, NoMemory}

-- memory could not be had
abbrev pub IsOutOfMemory : ReadError → Type 0
IsOutOfMemory Fault = ⊥
IsOutOfMemory TooLarge = ⊥
IsOutOfMemory (NoMemory met) = Unit {0}
