use Rattle.og_words.proofs.WordExamples as examples
use Rattle.og_words.proofs.laws.words_as_worked_out.Goals as goal

pub returns-clause-check : goal.returns-clause-check
returns-clause-check c = examples.check

pub returns-clause-compile : goal.returns-clause-compile
returns-clause-compile c = examples.compile

pub returns-clause-run : goal.returns-clause-run
returns-clause-run c = examples.run

pub returns-clause-simulate : goal.returns-clause-simulate
returns-clause-simulate c = examples.simulate

pub returns-clause-no_stem : goal.returns-clause-no_stem
returns-clause-no_stem c = examples.no_stem

pub returns-clause-no_process : goal.returns-clause-no_process
returns-clause-no_process c = examples.no_process

pub returns-clause-in_any_order : goal.returns-clause-in_any_order
returns-clause-in_any_order c = examples.in_any_order

pub returns-clause-twice : goal.returns-clause-twice
returns-clause-twice c = examples.twice

pub returns-clause-two_processes : goal.returns-clause-two_processes
returns-clause-two_processes c = examples.two_processes
