use Rattle.og_cif.proofs.OneList.{one_box, one_list}
use Rattle.og_cif.proofs.laws.one_list_of_boxes.Goals as goal

pub returns-clause-one : goal.returns-clause-one
returns-clause-one c = one_box

pub returns-clause-list : goal.returns-clause-list
returns-clause-list c = one_list
