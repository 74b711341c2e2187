use Rattle.std.proofs.Common.{◌++◌}
use Rattle.og_stim.specs.Trace.{var_lines}
use Rattle.og_stim.proofs.Texts.{Lines}
use Rattle.og_stim.proofs.show.put_variables.Given as goal

abbrev pub invariant-loop-place : goal.invariant-loop-place
invariant-loop-place l =
    Lines l.model l.out.items l.variables l.values l.place (l.initial.out.items ++ var_lines l.model l.variables l.values)
