use Rattle.og_stim.proofs.Formed.{form_was, form_is}
use Rattle.og_stim.proofs.laws.lines_have_their_forms.Goals as goal

pub returns : goal.returns
returns c = λ line name texts. (form_was line name texts, form_is)
