use Rattle.std.proofs.Common.{◌-◌, length, ap, ◌∙◌}
use Rattle.og_value.specs.Scans.{test_of}
use Rattle.og_value.proofs.Runs.{cut_front, cut_back}
use Rattle.og_value.proofs.tokens.cut.Goals as goal

pub returns-clause-front : goal.returns-clause-front
returns-clause-front c =
    c.split_at.ensures.front
    ∙ cut_front (test_of c.args.class) c.args.bytes.now _ (ap (λ xs. length c.args.bytes.now - length xs) c.past-rest.ensures.found)

pub returns-clause-back : goal.returns-clause-back
returns-clause-back c =
    c.split_at.ensures.back
    ∙ cut_back (test_of c.args.class) c.args.bytes.now _ (ap (λ xs. length c.args.bytes.now - length xs) c.past-rest.ensures.found)
