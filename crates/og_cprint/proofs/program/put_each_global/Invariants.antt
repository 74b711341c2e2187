use Rattle.std.proofs.Common.{◌≡◌, ◌++◌, take}
use Rattle.std.specs.List.{flat_map}
use Rattle.og_cprint.specs.Printed.{global_bytes}
use Rattle.og_cprint.proofs.program.put_each_global.Given as goal

abbrev pub invariant-loop-global : goal.invariant-loop-global
invariant-loop-global l = l.out.items ≡ l.initial.out.items ++ flat_map global_bytes (take l.global-index l.globals)
