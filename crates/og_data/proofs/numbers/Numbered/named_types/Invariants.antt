use Rattle.std.proofs.Common.{◌≡◌, map, take}
use Rattle.og_dataview.specs.View.{named_type}
use Rattle.og_data.proofs.numbers.Numbered.named_types.Given as goal

abbrev pub invariant-loop-declared : goal.invariant-loop-declared
invariant-loop-declared l = l.named ≡ map (named_type l.self.known.limited.valued.scope.flat l.names) (take l.declared-index l.self.known.limited.valued.scope.flat.types)
