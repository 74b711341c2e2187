use Rattle.std.proofs.Common.{arith, refl}
use Rattle.og_dataview.specs.Scope.{key}
use Rattle.og_dataview.proofs.Indexing.{index_pushed, index_kept}
use Rattle.og_dataview.proofs.index.Index.add.Goals as goal

pub returns-in_ok-push : goal.returns-in_ok-push
returns-in_ok-push c = λ keys is at.
    index_pushed keys c.args.self.now (record { names = c.add_name.new.names; firsts = c.push.new.self }) (key c.args.name.now) c.in_ok-id.id c.args.at is
    c.in_ok-id.ensures.added c.in_ok-id.ensures.number (omega (arith, c.if-id-len.true, c.len.ensures)) at c.in_ok-push.ensures.items

pub returns-else-id-len : goal.returns-else-id-len
returns-else-id-len c = λ keys is at.
    index_kept keys c.args.self.now (record { names = c.add_name.new.names; firsts = c.args.self.now.firsts }) (key c.args.name.now) c.in_ok-id.id is
    c.in_ok-id.ensures.added c.in_ok-id.ensures.number (λ e. c.if-id-len.false (omega (arith, e, c.len.ensures))) refl
