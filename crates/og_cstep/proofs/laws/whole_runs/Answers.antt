use Rattle.og_cstep.proofs.WholeRuns.{seen_is, whole_is}
use Rattle.og_cstep.proofs.laws.whole_runs.Goals as goal

pub returns-clause-further : goal.returns-clause-further
returns-clause-further c = λ run stimuli steps le. seen_is steps stimuli run.program run.model run.cells run.config run.last le

pub returns-clause-whole : goal.returns-clause-whole
returns-clause-whole c = λ program model stimuli steps le. whole_is steps stimuli program model le
