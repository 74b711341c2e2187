use Rattle.std.proofs.Common.{◌≡◌, ◌+◌, ◌≤◌, drop}
use Rattle.og_lexer.specs.Places.{first_place}
use Rattle.og_report.specs.Report.{count_before}
use Rattle.og_report.proofs.find.count_before.Given as goal

abbrev pub invariant-loop-count : goal.invariant-loop-count
invariant-loop-count l = record {
  lines : l.here.line ≤ 1 + l.count;
  columns : l.here.column ≤ 1 + l.count;
  counted : l.count + count_before l.fn.place l.here (drop l.count l.bytes) ≡ count_before l.fn.place (first_place l.fn.place.file) l.bytes;
}
