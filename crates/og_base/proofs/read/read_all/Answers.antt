use Rattle.std.proofs.Common.{◌≡◌, ◌∙◌, length, arith}
use Rattle.og_base.proofs.Reading.{next_read, shown_whole}
use Rattle.og_base.proofs.read.read_all.Goals as goal

pub loop-all-preserved : goal.loop-all-preserved
loop-all-preserved g c =
    let old = c.loop-all.piece in
    let kept_length : length c.read.new.into ≡ length old.items = omega (arith, old.ok.0, c.read.auto.into, c.deref_mut.ensures.len) in
    let shown = shown_whole old.len c.read.new.into old.items (omega (arith, old.ok.0)) kept_length in
    record {
      so_far = next_read (g.S.Store.holds c.args.store.now) (g.S.Store.holds c.loop-all.store) c.args.name.now c.loop-all.all.items _ _ _ _ c.extend_from_slice.new.self.items c.len-at.result c.in-Ok.count c.loop-all.invariant.kept (omega (arith, c.loop-all.all.ok.0)) (c.deref.ensures.value ∙ shown) c.split_at.ensures.front c.in_ok-extend_from_slice.ensures.items c.loop-all.invariant.so_far c.in-Ok.ensures.piece;
      kept = c.in-Ok.ensures.kept ∙ c.loop-all.invariant.kept;
      counts = λ other. omega (arith, c.loop-all.invariant.counts other, c.in-Ok.ensures.counts other);
      room = rw shown (omega (arith, kept_length, c.loop-all.invariant.room));
    }
