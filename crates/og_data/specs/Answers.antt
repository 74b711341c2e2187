-- When modules are refused: the error is the first violation of the rules on names, or tells of want of memory.
use Rattle.std.specs.Prelude.{List}
use Rattle.og_base.specs.declared.ModelError.{ModelError}
use Rattle.og_base.specs.declared.ModelError.TheVariants.{Broken, NoMemory}
use Rattle.og_asn1.specs.declared.syntax.ModuleTree.{ModuleTree}
use Rattle.og_dataview.specs.Laws.{BreaksFirst as IsBroken}

abbrev pub BreaksFirst : List ModuleTree → ModelError → Type 0
BreaksFirst modules (Broken v) = IsBroken modules v
BreaksFirst modules (NoMemory met) = Unit {0}
