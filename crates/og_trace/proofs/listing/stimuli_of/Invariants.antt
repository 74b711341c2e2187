use Rattle.std.proofs.Common.{◌≡◌, ◌≤◌, ◌∷◌, ◌++◌, length, drop}
use Rattle.og_stim.specs.Lines.{lines_of}
use Rattle.og_trace.specs.Stims.{stims_in, stims_of, start}
use Rattle.og_trace.proofs.listing.stimuli_of.Given as goal

abbrev pub invariant-lines : goal.invariant-lines
invariant-lines l = record {
  stimuli : l.stimuli.items ++ (stims_in l.model l.cursor.line (lines_of (drop l.cursor.offset l.text))).list ≡ start ∷ (stims_of l.model l.text).list;
  bad : (stims_in l.model l.cursor.line (lines_of (drop l.cursor.offset l.text))).bad ≡ (stims_of l.model l.text).bad;
  inside : l.cursor.offset ≤ length l.text;
  few : l.cursor.line ≤ 1000000;
}

abbrev pub decreases-lines : goal.decreases-lines
decreases-lines l = length (lines_of (drop l.cursor.offset l.text))
