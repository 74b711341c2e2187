use Rattle.og_csubset.proofs.Extension.{loads_keeps}
use Rattle.og_csubset.proofs.ExtensionRuns.{c_keeps}
use Rattle.og_csubset.proofs.run_laws.larger_models_show_the_same.Goals as goal

pub returns-clause-loads : goal.returns-clause-loads
returns-clause-loads c = λ model larger ext program. loads_keeps program model larger ext

pub returns-clause-shows : goal.returns-clause-shows
returns-clause-shows c = λ model larger ext program. c_keeps program model larger ext
