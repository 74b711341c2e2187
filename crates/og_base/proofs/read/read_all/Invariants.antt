use Rattle.std.proofs.Common.{◌≡◌, ℕ, ◌+◌, ◌-◌, ◌<◌, ◌≤◌, List, length}
use Rattle.og_base.proofs.Reading.{ReadSoFar}
use Rattle.og_base.proofs.read.read_all.Given as goal

abbrev pub invariant-loop-all : goal.invariant-loop-all
invariant-loop-all g l = record {
  so_far : ReadSoFar (g.S.Store.holds l.fn.store) l.name l.all.items;
  kept : g.S.Store.holds l.store ≡ g.S.Store.holds l.fn.store;
  counts : (other : List ℕ) → g.S.Store.faults l.fn.store other ≤ g.S.Store.faults l.store other;
  room : 0 < length l.piece.items;
}

abbrev pub decreases-loop-all : goal.decreases-loop-all
decreases-loop-all g l = (l.limit + 1) - length l.all.items
