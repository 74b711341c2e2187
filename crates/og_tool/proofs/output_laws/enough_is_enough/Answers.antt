use Rattle.og_tool.proofs.OneSimulation as simulation
use Rattle.og_tool.proofs.output_laws.enough_is_enough.Goals as goal

pub returns : goal.returns
returns c = simulation.enough_is_enough c.more_statements_go_on.ensures.same
