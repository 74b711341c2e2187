use Rattle.std.proofs.Common.{◌≡◌, ◌+◌, ◌≤◌, drop}
use Rattle.og_clex.specs.Places.{place_on}
use Rattle.og_clex.proofs.scan.place_after.Given as goal

abbrev pub invariant-loop-byte : goal.invariant-loop-byte
invariant-loop-byte l = record {
  lines : l.line ≤ l.fn.place.line + l.byte-index;
  columns : l.column ≤ l.fn.place.column + l.byte-index;
  found : place_on (record { file = l.file; line = l.line; column = l.column }) (drop l.byte-index l.text) ≡ place_on l.fn.place l.text;
}
