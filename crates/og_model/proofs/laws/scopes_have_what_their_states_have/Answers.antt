use Rattle.og_model.proofs.RegionLayers.{insides_is}
use Rattle.og_model.proofs.laws.scopes_have_what_their_states_have.Goals as goal

pub returns : goal.returns
returns c = insides_is
