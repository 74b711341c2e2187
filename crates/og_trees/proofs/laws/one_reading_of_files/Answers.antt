use Rattle.og_trees.proofs.OneAnswer.{never_both, one_violation, each_list, stands_in_a_file, have_trees, one_modules, one_units, one_trees}
use Rattle.og_trees.proofs.OneText.{module_laws}
use Rattle.og_trees.proofs.laws.one_reading_of_files.Goals as goal

pub returns-clause-each : goal.returns-clause-each
returns-clause-each c = each_list (record {
  sdl = record { each = c.one_reading.ensures.each; texts = c.one_reading.ensures.tokens; violations = c.one_reading.ensures.violation; apart = c.one_reading.ensures.apart };
  asn = record { each = c.one_asn_reading.ensures.each; texts = c.one_asn_reading.ensures.tokens; violations = c.one_asn_reading.ensures.violation; apart = c.one_asn_reading.ensures.apart };
  units = record { each = c.one_answer.ensures.each; trees = c.one_answer.ensures.one_file; violations = c.one_answer.ensures.one_violation; apart = c.one_answer.ensures.apart };
  modules = module_laws c.one_derivation.ensures;
})

pub returns-clause-apart : goal.returns-clause-apart
returns-clause-apart c = never_both (record {
  sdl = record { each = c.one_reading.ensures.each; texts = c.one_reading.ensures.tokens; violations = c.one_reading.ensures.violation; apart = c.one_reading.ensures.apart };
  asn = record { each = c.one_asn_reading.ensures.each; texts = c.one_asn_reading.ensures.tokens; violations = c.one_asn_reading.ensures.violation; apart = c.one_asn_reading.ensures.apart };
  units = record { each = c.one_answer.ensures.each; trees = c.one_answer.ensures.one_file; violations = c.one_answer.ensures.one_violation; apart = c.one_answer.ensures.apart };
  modules = module_laws c.one_derivation.ensures;
})

pub returns-clause-one : goal.returns-clause-one
returns-clause-one c = one_violation (record {
  sdl = record { each = c.one_reading.ensures.each; texts = c.one_reading.ensures.tokens; violations = c.one_reading.ensures.violation; apart = c.one_reading.ensures.apart };
  asn = record { each = c.one_asn_reading.ensures.each; texts = c.one_asn_reading.ensures.tokens; violations = c.one_asn_reading.ensures.violation; apart = c.one_asn_reading.ensures.apart };
  units = record { each = c.one_answer.ensures.each; trees = c.one_answer.ensures.one_file; violations = c.one_answer.ensures.one_violation; apart = c.one_answer.ensures.apart };
  modules = module_laws c.one_derivation.ensures;
})

pub returns-clause-trees : goal.returns-clause-trees
returns-clause-trees c = one_trees (record {
  sdl = record { each = c.one_reading.ensures.each; texts = c.one_reading.ensures.tokens; violations = c.one_reading.ensures.violation; apart = c.one_reading.ensures.apart };
  asn = record { each = c.one_asn_reading.ensures.each; texts = c.one_asn_reading.ensures.tokens; violations = c.one_asn_reading.ensures.violation; apart = c.one_asn_reading.ensures.apart };
  units = record { each = c.one_answer.ensures.each; trees = c.one_answer.ensures.one_file; violations = c.one_answer.ensures.one_violation; apart = c.one_answer.ensures.apart };
  modules = module_laws c.one_derivation.ensures;
})

pub returns-clause-one_modules : goal.returns-clause-one_modules
returns-clause-one_modules c = one_modules (record {
  sdl = record { each = c.one_reading.ensures.each; texts = c.one_reading.ensures.tokens; violations = c.one_reading.ensures.violation; apart = c.one_reading.ensures.apart };
  asn = record { each = c.one_asn_reading.ensures.each; texts = c.one_asn_reading.ensures.tokens; violations = c.one_asn_reading.ensures.violation; apart = c.one_asn_reading.ensures.apart };
  units = record { each = c.one_answer.ensures.each; trees = c.one_answer.ensures.one_file; violations = c.one_answer.ensures.one_violation; apart = c.one_answer.ensures.apart };
  modules = module_laws c.one_derivation.ensures;
})

pub returns-clause-one_units : goal.returns-clause-one_units
returns-clause-one_units c = one_units (record {
  sdl = record { each = c.one_reading.ensures.each; texts = c.one_reading.ensures.tokens; violations = c.one_reading.ensures.violation; apart = c.one_reading.ensures.apart };
  asn = record { each = c.one_asn_reading.ensures.each; texts = c.one_asn_reading.ensures.tokens; violations = c.one_asn_reading.ensures.violation; apart = c.one_asn_reading.ensures.apart };
  units = record { each = c.one_answer.ensures.each; trees = c.one_answer.ensures.one_file; violations = c.one_answer.ensures.one_violation; apart = c.one_answer.ensures.apart };
  modules = module_laws c.one_derivation.ensures;
})

pub returns-clause-among : goal.returns-clause-among
returns-clause-among c = stands_in_a_file

pub returns-clause-have : goal.returns-clause-have
returns-clause-have c = have_trees
