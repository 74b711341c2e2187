use Rattle.std.proofs.Common.{length, ◌+◌, ◌-◌, ◌≡◌, ◌≤◌, drop}
use Rattle.og_stim.specs.Lines.{lines_of}
use Rattle.og_stim.specs.Stimuli.{next_in}
use Rattle.og_stim.proofs.stimuli.next_stimulus.Given as goal

abbrev pub invariant-loop-offset : goal.invariant-loop-offset
invariant-loop-offset l = record {
  inside : l.offset ≤ length l.text;
  few : l.line ≤ 1000000;
  kept : l.cursor ≡ l.initial.cursor;
  counted : l.line + length (lines_of (drop l.offset l.text)) ≡ l.cursor.line + length (lines_of (drop l.cursor.offset l.text));
  same : next_in l.model l.line (lines_of (drop l.offset l.text)) ≡ next_in l.model l.cursor.line (lines_of (drop l.cursor.offset l.text));
}

abbrev pub decreases-loop-offset : goal.decreases-loop-offset
decreases-loop-offset l = length l.text - l.offset
