use Rattle.std.proofs.Common.{◌≡◌, take}
use Rattle.std.specs.List.{flat_map}
use Rattle.og_ir.specs.declared.FlatFn.{FlatFn}
use Rattle.og_cemit.specs.Marks.{all_marked}
use Rattle.og_cemit.specs.Emitted.{shows}
use Rattle.og_cemit.proofs.marks.mark_functions.Given as goal

abbrev pub invariant-loop-function : goal.invariant-loop-function
invariant-loop-function l = l.marks.items ≡ all_marked (flat_map (λ (f : FlatFn). flat_map shows f.code) (take l.function-index l.functions)) l.initial.marks.items
