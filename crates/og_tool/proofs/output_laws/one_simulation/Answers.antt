use Rattle.og_tool.proofs.OneSimulation as simulation
use Rattle.og_tool.proofs.output_laws.one_simulation.Goals as goal

pub returns : goal.returns
returns c =
    simulation.one_simulation
    (record {
      never_both = c.one_judgement.ensures.apart;
      one_violation = c.one_judgement.ensures.one;
      one_model = c.one_judgement.ensures.model;
      one_tree = c.one_judgement.ensures.tree;
      one_report = c.one_report.ensures;
      programs = c.one_program.ensures;
      not_deep = c.one_answer.ensures.not_spelt_and_deep;
      not_bad = c.one_answer.ensures.not_spelt_and_bad;
      not_both = c.one_answer.ensures.not_deep_and_bad;
      one_deep = c.one_deep_place.ensures.unique;
      one_wrong = c.one_wrong_place.ensures.unique;
    })
    (record {
      shown = c.agreeing_programs_show_the_same.ensures.some_statements;
      more = c.more_statements_go_on.ensures.same;
    })
