use Rattle.og_names.proofs.Loops.{Left}
use Rattle.og_flat.specs.Flattening.{no_flat, with_modules}
use Rattle.og_flat.proofs.flatten.flat_of.Given as goal

abbrev pub invariant-loop-module : goal.invariant-loop-module
invariant-loop-module l = Left (with_modules l.flat) l.modules l.module-index (with_modules no_flat l.modules)
