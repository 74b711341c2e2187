use Rattle.std.proofs.Common.{sym, subst}
use Rattle.og_cemit.specs.Program.{IsProgramOf}
use Rattle.og_cemit.proofs.Proved.{proved}
use Rattle.og_cemit.proofs.emit.Goals as goal

pub returns : goal.returns
returns c =
    subst (IsProgramOf c.args.ir.now c.args.model.now) (sym c.in_ok-program.ensures.program)
    (proved c.args.ir.now c.args.model.now c.requires.fair c.in_ok-program.ensures.short c.in_ok-program.ensures.few)
