use Rattle.og_cload.proofs.Grown.{five_more}
use Rattle.og_cload.proofs.fields.add_control.Goals as goal

pub returns : goal.returns
returns c =
    five_more _ _ _ _ _ _ _ _ _ _ _ _ _ c.in_ok-add_regions.ensures c.in_ok-add_number.ensures c.in_ok-add_number-2.ensures c.in_ok-add_number-3.ensures c.in_ok-add_number-4.ensures
    c.in_ok-add_number-5.ensures
