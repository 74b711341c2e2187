use Rattle.std.proofs.Common.{◌≡◌, ℕ, ◌≤◌, List, take}
use Rattle.og_judge.specs.Judging.{sources}
use Rattle.og_tool.specs.Answers.{AreRead}
use Rattle.og_words.specs.Asked.{texts}
use Rattle.og_tool.proofs.reading.read_files.Given as goal

abbrev pub invariant-loop-name : goal.invariant-loop-name
invariant-loop-name g l = record {
  so_far : AreRead (g.S.Store.holds l.fn.store) (texts (take l.name-index l.names)) (sources l.contents.items);
  kept : g.S.Store.holds l.store ≡ g.S.Store.holds l.fn.store;
  counts : (other : List ℕ) → g.S.Store.faults l.fn.store other ≤ g.S.Store.faults l.store other;
}
