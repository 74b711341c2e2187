use Rattle.og_ir.specs.Arithmetic.{any_number, in_64_bits}
use Rattle.og_csubset.specs.FlatRun.{flat, flat_in_64_bits}
use Rattle.og_csubset.proofs.RunLaws.{code_same, code_begins}
use Rattle.og_csubset.proofs.run_laws.more_instructions_go_on.Goals as goal

pub returns-clause-same : goal.returns-clause-same
unfolding flat
returns-clause-same c = code_same any_number

pub returns-clause-begins : goal.returns-clause-begins
unfolding flat
returns-clause-begins c = code_begins any_number

pub returns-clause-same_in_64_bits : goal.returns-clause-same_in_64_bits
unfolding flat_in_64_bits
returns-clause-same_in_64_bits c = code_same in_64_bits

pub returns-clause-begins_in_64_bits : goal.returns-clause-begins_in_64_bits
unfolding flat_in_64_bits
returns-clause-begins_in_64_bits c = code_begins in_64_bits
