use Rattle.og_tool.proofs.GivenStimuli as stimuli
use Rattle.og_tool.proofs.output_laws.agreeing_is_never_stuck.Goals as goal

pub returns : goal.returns
returns c = stimuli.agreeing_is_never_stuck
