use Rattle.og_tool.proofs.OneOutput.{one_run, one_check, one_compilation, one_refusal, never_too_large}
use Rattle.og_tool.proofs.output_laws.one_output.Goals as goal

pub returns-clause-run : goal.returns-clause-run
returns-clause-run c = one_run (record {
  never_both = c.one_judgement.ensures.apart;
  one_violation = c.one_judgement.ensures.one;
  one_model = c.one_judgement.ensures.model;
  one_tree = c.one_judgement.ensures.tree;
  one_report = c.one_report.ensures;
  programs = c.one_program.ensures;
  not_deep = c.one_answer.ensures.not_spelt_and_deep;
  not_bad = c.one_answer.ensures.not_spelt_and_bad;
  not_both = c.one_answer.ensures.not_deep_and_bad;
  one_deep = c.one_deep_place.ensures.unique;
  one_wrong = c.one_wrong_place.ensures.unique;
})

pub returns-clause-check : goal.returns-clause-check
returns-clause-check c = one_check (record {
  never_both = c.one_judgement.ensures.apart;
  one_violation = c.one_judgement.ensures.one;
  one_model = c.one_judgement.ensures.model;
  one_tree = c.one_judgement.ensures.tree;
  one_report = c.one_report.ensures;
  programs = c.one_program.ensures;
  not_deep = c.one_answer.ensures.not_spelt_and_deep;
  not_bad = c.one_answer.ensures.not_spelt_and_bad;
  not_both = c.one_answer.ensures.not_deep_and_bad;
  one_deep = c.one_deep_place.ensures.unique;
  one_wrong = c.one_wrong_place.ensures.unique;
})

pub returns-clause-compile : goal.returns-clause-compile
returns-clause-compile c = one_compilation (record {
  never_both = c.one_judgement.ensures.apart;
  one_violation = c.one_judgement.ensures.one;
  one_model = c.one_judgement.ensures.model;
  one_tree = c.one_judgement.ensures.tree;
  one_report = c.one_report.ensures;
  programs = c.one_program.ensures;
  not_deep = c.one_answer.ensures.not_spelt_and_deep;
  not_bad = c.one_answer.ensures.not_spelt_and_bad;
  not_both = c.one_answer.ensures.not_deep_and_bad;
  one_deep = c.one_deep_place.ensures.unique;
  one_wrong = c.one_wrong_place.ensures.unique;
})

pub returns-clause-refusal : goal.returns-clause-refusal
returns-clause-refusal c = one_refusal (record {
  never_both = c.one_judgement.ensures.apart;
  one_violation = c.one_judgement.ensures.one;
  one_model = c.one_judgement.ensures.model;
  one_tree = c.one_judgement.ensures.tree;
  one_report = c.one_report.ensures;
  programs = c.one_program.ensures;
  not_deep = c.one_answer.ensures.not_spelt_and_deep;
  not_bad = c.one_answer.ensures.not_spelt_and_bad;
  not_both = c.one_answer.ensures.not_deep_and_bad;
  one_deep = c.one_deep_place.ensures.unique;
  one_wrong = c.one_wrong_place.ensures.unique;
})

pub returns-clause-too_large : goal.returns-clause-too_large
returns-clause-too_large c = never_too_large (record {
  never_both = c.one_judgement.ensures.apart;
  one_violation = c.one_judgement.ensures.one;
  one_model = c.one_judgement.ensures.model;
  one_tree = c.one_judgement.ensures.tree;
  one_report = c.one_report.ensures;
  programs = c.one_program.ensures;
  not_deep = c.one_answer.ensures.not_spelt_and_deep;
  not_bad = c.one_answer.ensures.not_spelt_and_bad;
  not_both = c.one_answer.ensures.not_deep_and_bad;
  one_deep = c.one_deep_place.ensures.unique;
  one_wrong = c.one_wrong_place.ensures.unique;
})
