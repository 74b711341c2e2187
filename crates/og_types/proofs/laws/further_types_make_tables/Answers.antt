use Rattle.og_types.proofs.Added.{still_table, may_stand}
use Rattle.og_types.proofs.laws.further_types_make_tables.Goals as goal

pub returns : goal.returns
returns c = λ types t table. (still_table types t table, may_stand types t table)
