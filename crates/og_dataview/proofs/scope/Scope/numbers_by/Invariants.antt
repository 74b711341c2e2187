use Rattle.std.proofs.Common.{◌≡◌, map}
use Rattle.std.specs.List.{range_with_len}
use Rattle.og_dataview.specs.Following.{number_of}
use Rattle.og_dataview.proofs.scope.Scope.numbers_by.Given as goal

abbrev pub invariant-loop-place : goal.invariant-loop-place
invariant-loop-place l = l.numbers.items ≡ map (number_of l.self.flat) (range_with_len 0 l.place)
