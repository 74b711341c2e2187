use Rattle.std.proofs.Common.{◌++◌}
use Rattle.og_flatten.specs.FlatCode.{signal_functions, functions_of}
use Rattle.og_names.proofs.Loops.{Left}
use Rattle.og_flatten.proofs.make_functions.Given as goal

abbrev pub invariant-loop-number : goal.invariant-loop-number
invariant-loop-number l =
    Left (λ ys. l.functions ++ signal_functions l.control l.model l.number ys) l.model.signals l.number (functions_of l.control l.model)
