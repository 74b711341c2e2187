use Rattle.std.proofs.Common.{◌≡◌, ◌++◌, take}
use Rattle.std.specs.List.{flat_map}
use Rattle.og_cprint.specs.Printed.{function_bytes}
use Rattle.og_cprint.proofs.program.put_functions.Given as goal

abbrev pub invariant-loop-function : goal.invariant-loop-function
invariant-loop-function l = l.out.items ≡ l.initial.out.items ++ flat_map function_bytes (take l.function-index l.functions)
