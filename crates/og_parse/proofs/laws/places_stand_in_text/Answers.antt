use Rattle.og_parse.proofs.PlacesOfUnits.{places_stand}
use Rattle.og_parse.proofs.laws.places_stand_in_text.Goals as goal

pub returns : goal.returns
returns c = places_stand
