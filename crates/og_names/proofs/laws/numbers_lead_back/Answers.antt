use Rattle.og_names.specs.Folding.{folded}
use Rattle.og_names.proofs.Places.{place_leads_back}
use Rattle.og_names.proofs.laws.numbers_lead_back.Goals as goal

pub returns : goal.returns
returns c = λ names name n at. place_leads_back names (folded name) n at
