use Rattle.std.proofs.Common.{sym}
use Rattle.og_reading.proofs.Naming.{named_so, not_named_so}
use Rattle.og_reading.proofs.left.named.Goals as goal

pub returns-then-is_name : goal.returns-then-is_name
returns-then-is_name c = named_so c.args.place c.args.word _

pub returns-in_ok-bytes : goal.returns-in_ok-bytes
returns-in_ok-bytes c = not_named_so c.args.place c.args.word _ _ c.in_ok-bytes.ensures cc
