use Rattle.std.proofs.Common.{ap}
use Rattle.std.specs.Prelude.{Err}
use Rattle.og_stim.proofs.Formed.{found_value, no_value}
use Rattle.og_stim.proofs.stimuli.value_of.Goals as goal

pub returns-in-Ok : goal.returns-in-Ok
returns-in-Ok c = found_value c.args.model.now c.args.sort c.args.text.now c.in-Ok.read.value c.in-Ok.read.next c.in-Ok.ensures.found

pub returns-in-Err-Bad : goal.returns-in-Err-Bad
returns-in-Err-Bad c = no_value c.args.model.now c.args.sort c.args.text.now (λ v n read. c.in-Err-Bad.ensures.bad (ap Err c.in-Err-Bad.field-0-is) v n read)
