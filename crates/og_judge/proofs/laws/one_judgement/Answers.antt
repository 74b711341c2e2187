use Rattle.og_judge.proofs.InFiles.{stands_in_a_file}
use Rattle.og_judge.proofs.Judgements.{one_tree, never_both, one_violation, one_model}
use Rattle.og_judge.proofs.EachList.{each_list}
use Rattle.og_judge.proofs.laws.one_judgement.Goals as goal

pub returns-clause-apart : goal.returns-clause-apart
returns-clause-apart c = never_both (record {
  texts = c.one_reading.ensures.tokens;
  lexicals = c.one_reading.ensures.violation;
  apart = c.one_reading.ensures.apart;
  asn_texts = c.one_asn_reading.ensures.tokens;
  asn_lexicals = c.one_asn_reading.ensures.violation;
  asn_apart = c.one_asn_reading.ensures.apart;
  derivations = c.one_derivation.ensures;
})

pub returns-clause-one : goal.returns-clause-one
returns-clause-one c = one_violation (record {
  texts = c.one_reading.ensures.tokens;
  lexicals = c.one_reading.ensures.violation;
  apart = c.one_reading.ensures.apart;
  asn_texts = c.one_asn_reading.ensures.tokens;
  asn_lexicals = c.one_asn_reading.ensures.violation;
  asn_apart = c.one_asn_reading.ensures.apart;
  derivations = c.one_derivation.ensures;
})

pub returns-clause-among : goal.returns-clause-among
returns-clause-among c = stands_in_a_file

pub returns-clause-model : goal.returns-clause-model
returns-clause-model c = one_model (record {
  texts = c.one_reading.ensures.tokens;
  lexicals = c.one_reading.ensures.violation;
  apart = c.one_reading.ensures.apart;
  asn_texts = c.one_asn_reading.ensures.tokens;
  asn_lexicals = c.one_asn_reading.ensures.violation;
  asn_apart = c.one_asn_reading.ensures.apart;
  derivations = c.one_derivation.ensures;
})

pub returns-clause-each : goal.returns-clause-each
returns-clause-each c = each_list (record {
  texts = c.one_reading.ensures.each;
  apart = c.one_reading.ensures.apart;
  asn_texts = c.one_asn_reading.ensures.each;
  files = c.one_answer.ensures.each;
})

pub returns-clause-tree : goal.returns-clause-tree
returns-clause-tree c = one_tree (record {
  texts = c.one_reading.ensures.tokens;
  lexicals = c.one_reading.ensures.violation;
  apart = c.one_reading.ensures.apart;
  asn_texts = c.one_asn_reading.ensures.tokens;
  asn_lexicals = c.one_asn_reading.ensures.violation;
  asn_apart = c.one_asn_reading.ensures.apart;
  derivations = c.one_derivation.ensures;
}) 0
