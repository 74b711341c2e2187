use Rattle.std.proofs.Common.{◌≡◌, ◌+◌, ◌≤◌, drop}
use Rattle.og_lexer.specs.Places.{place_after}
use Rattle.og_cif.proofs.comments.place_after.Given as goal

abbrev pub invariant-loop-byte : goal.invariant-loop-byte
invariant-loop-byte l = record {
  lines : l.line ≤ l.fn.place.line + l.byte-index;
  columns : l.column ≤ l.fn.place.column + l.byte-index;
  found : place_after (record { file = l.file; line = l.line; column = l.column }) (drop l.byte-index l.text) ≡ place_after l.fn.place l.text;
}
