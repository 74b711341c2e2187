-- The run of a machine that was just loaded is that of `loaded`, which can begin; and the start is a stimulus of each model.
use Rattle.std.proofs.Common.{sym, subst, refl}
use Rattle.og_cstep.specs.Machines.{Run, CanBegin}
use Rattle.og_rows.proofs.machine.started.Goals as goal

pub begin-requires-clause-idle : goal.begin-requires-clause-idle
begin-requires-clause-idle c =
    let P : Run → Type 0 = λ run. CanBegin run.config run.last in subst P (sym c.in_ok-machine.ensures.loaded) tt

pub begin-requires-clause-stimulus : goal.begin-requires-clause-stimulus
begin-requires-clause-stimulus c = refl
