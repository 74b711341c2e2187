use Rattle.og_value.proofs.Told.{one_value}
use Rattle.og_value.proofs.Again.{one_place, one_end}
use Rattle.og_value.proofs.laws.texts_read_as_one_value.Goals as goal

pub returns : goal.returns
returns c = record { value = one_value; place = one_place; end = one_end }
