use Rattle.og_value.proofs.Again.{found_reads, read_found}
use Rattle.og_value.proofs.laws.what_is_found_is_read.Goals as goal

pub returns : goal.returns
returns c = λ types names id bytes v n. (found_reads types names id bytes v n, read_found types names id bytes v n)
