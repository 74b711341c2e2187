use Rattle.og_csubset.proofs.ExampleRuns.{hand_written_loads, hand_written_runs, cut_at_two, cut_at_four, cut_at_none}
use Rattle.og_csubset.proofs.run_examples.hand_written_text_runs.Goals as goal

pub returns-clause-hand_written_loads : goal.returns-clause-hand_written_loads
returns-clause-hand_written_loads c = hand_written_loads

pub returns-clause-hand_written_runs : goal.returns-clause-hand_written_runs
returns-clause-hand_written_runs c = hand_written_runs

pub returns-clause-cut_at_two : goal.returns-clause-cut_at_two
returns-clause-cut_at_two c = cut_at_two

pub returns-clause-cut_at_four : goal.returns-clause-cut_at_four
returns-clause-cut_at_four c = cut_at_four

pub returns-clause-cut_at_none : goal.returns-clause-cut_at_none
returns-clause-cut_at_none c = cut_at_none
