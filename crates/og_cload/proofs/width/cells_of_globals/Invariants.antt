use Rattle.std.proofs.Common.{◌+◌, ◌≤◌, map}
use Rattle.og_csubset.specs.declared.CGlobal.{CGlobal}
use Rattle.og_csubset.specs.Kinds.{width_of, total}
use Rattle.og_cload.specs.Widths.{many, capped}
use Rattle.og_names.proofs.Loops.{Left}
use Rattle.og_cload.proofs.width.cells_of_globals.Given as goal

abbrev pub invariant-loop-global : goal.invariant-loop-global
invariant-loop-global l =
    (l.cells ≤ many)
    × Left (λ ys. capped (l.cells + total (map (λ (g : CGlobal). width_of l.structs g.kind) ys))) l.globals l.global-index
    (capped (total (map (λ (g : CGlobal). width_of l.structs g.kind) l.globals)))
