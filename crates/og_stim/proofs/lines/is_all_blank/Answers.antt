use Rattle.std.proofs.Common.{ap, ◌∙◌}
use Rattle.std.proofs.Common.{◌==◌, length}
use Rattle.og_value.specs.Bytes.{is_blank}
use Rattle.og_stim.proofs.Splitting.{all_pass}
use Rattle.og_stim.proofs.lines.is_all_blank.Goals as goal

pub returns : goal.returns
returns c = ap (λ n. n == length c.args.bytes.now) c.run_len.ensures.found ∙ all_pass is_blank c.args.bytes.now
