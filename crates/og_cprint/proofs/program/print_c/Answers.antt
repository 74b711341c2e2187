use Rattle.std.proofs.Common.{◌≡◌, rules}
use Rattle.og_cprint.specs.Printed.{body_bytes, printed_text}
use Rattle.og_cprint.proofs.ProgramTexts.{printed_spells, printed_nests}
use Rattle.og_cprint.proofs.program.print_c.Goals as goal

pub returns-clause-heading : goal.returns-clause-heading
returns-clause-heading c = (body_bytes c.args.program.now, search rules)

pub returns-clause-spelt : goal.returns-clause-spelt
returns-clause-spelt c =
    let text : c.put_body.new.out.items ≡ printed_text c.args.program.now = search rules in
    printed_spells c.args.program.now c.put_body.new.out.items c.requires.made text

pub returns-clause-nests : goal.returns-clause-nests
returns-clause-nests c =
    let text : c.put_body.new.out.items ≡ printed_text c.args.program.now = search rules in
    printed_nests c.args.program.now 256 c.put_body.new.out.items c.requires.made c.requires.within text
