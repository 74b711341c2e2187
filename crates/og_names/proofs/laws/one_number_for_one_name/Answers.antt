use Rattle.og_names.specs.Folding.{folded}
use Rattle.og_names.proofs.Places.{place_leads_back}
use Rattle.og_names.proofs.laws.one_number_for_one_name.Goals as goal

pub returns : goal.returns
returns c = λ names a b m n at_a at_b.
    let stands_a = place_leads_back names (folded a) m at_a in
    let stands_b = place_leads_back names (folded b) n at_b in (
      λ same. (cc),
      λ alike. (cc),
    )
