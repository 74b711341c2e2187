use Rattle.std.proofs.Common.{◌≡◌, ◌++◌, take}
use Rattle.std.specs.List.{flat_map}
use Rattle.og_cprint.specs.Printed.{case_bytes}
use Rattle.og_cprint.proofs.program.put_cases.Given as goal

abbrev pub invariant-loop-case : goal.invariant-loop-case
invariant-loop-case l = l.out.items ≡ l.initial.out.items ++ flat_map case_bytes (take l.case-index l.cases)
