use Rattle.std.proofs.Common.{◌≡◌, take}
use Rattle.og_csubset.proofs.copy.copy_globals.Given as goal

abbrev pub invariant-loop-global : goal.invariant-loop-global
invariant-loop-global l = l.copied ≡ take l.global-index l.globals
