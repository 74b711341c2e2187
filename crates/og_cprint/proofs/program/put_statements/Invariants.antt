use Rattle.std.proofs.Common.{◌≡◌, ◌++◌, take}
use Rattle.std.specs.List.{flat_map}
use Rattle.og_cprint.specs.Printed.{statement_bytes}
use Rattle.og_cprint.proofs.program.put_statements.Given as goal

abbrev pub invariant-loop-statement : goal.invariant-loop-statement
invariant-loop-statement l = l.out.items ≡ l.initial.out.items ++ flat_map statement_bytes (take l.statement-index l.statements)
