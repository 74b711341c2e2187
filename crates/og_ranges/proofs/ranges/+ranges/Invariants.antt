use Rattle.og_model.specs.declared.Select.{out-Select}
use Rattle.og_ranges.specs.Ranges.{in_selector, range_within}
use Rattle.og_ranges.specs.Calls.{data_of}
use Rattle.og_ranges.proofs.Called.{Noted, Marked}
use Rattle.og_ranges.proofs.ranges.+ranges.Given as goal

abbrev pub invariant-each_kept-loop-e : goal.invariant-each_kept-loop-e
invariant-each_kept-loop-e l =
    Marked (λ e. (range_within l.depth (data_of l.declared) e).violations) l.es l.e-index l.kept
    × Noted (λ e. (range_within l.depth (data_of l.declared) e).violations) l.es l.e-index l.first l.initial.first

abbrev pub invariant-indices_kept-loop-select : goal.invariant-indices_kept-loop-select
invariant-indices_kept-loop-select l =
    Marked (λ s. in_selector (range_within l.depth (data_of l.declared)) (out-Select s)) l.select-items l.select-index l.kept
    × Noted (λ s. in_selector (range_within l.depth (data_of l.declared)) (out-Select s)) l.select-items l.select-index l.first l.initial.first
