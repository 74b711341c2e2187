use Rattle.std.proofs.Common.{◌∙◌}
use Rattle.og_system.proofs.Opens.{last_at}
use Rattle.og_system.proofs.ends.+closing.Goals as goal

pub last_closes-returns-in-len1-up : goal.last_closes-returns-in-len1-up
last_closes-returns-in-len1-up n c = c.step_closes.ensures ∙ last_at c.args.steps.now c.last-item.result c.in-len1-up.len_at_least c.last-item.is
