use Rattle.std.proofs.Common.{◌≤◌, ◌+◌, min}
use Rattle.og_names.proofs.Loops.{Left}
use Rattle.og_types.specs.Values.{cells_of_parts, many_cells}
use Rattle.og_types.specs.Measures.{cells_in}
use Rattle.og_types.proofs.measures.cells_of_parts.Given as goal

abbrev pub invariant-loop-part : goal.invariant-loop-part
invariant-loop-part l =
    (l.cells ≤ 65537)
    × Left (λ parts. min (l.cells + cells_of_parts (cells_in l.measures) parts) many_cells) l.parts l.part-index
    (min (cells_of_parts (cells_in l.measures) l.parts) many_cells)
