use Rattle.std.proofs.Common.{arith}
use Rattle.og_base.proofs.Writing.{more_written}
use Rattle.og_base.proofs.write.write_all.Goals as goal

pub loop-rest-preserved : goal.loop-rest-preserved
loop-rest-preserved g c =
    let old = g.K.Sink.written c.args.sink.now in
    let new = g.K.Sink.written c.write.new.self in
    let front = more_written c.args.bytes.now c.loop-rest.rest.now c.in_ok-count.count old (g.K.Sink.written c.loop-rest.sink) new c.loop-rest.invariant.front c.in_ok-count.ensures.taken in
    record {
      front = rw c.split_at.ensures.back front;
      counts = omega (arith, c.loop-rest.invariant.counts, c.in_ok-count.ensures.counts);
    }
