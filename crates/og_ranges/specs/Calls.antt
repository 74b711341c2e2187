-- What the calls on expressions answer.
use Rattle.std.specs.Prelude.{cond, List, map, Option, Some, None}
use Rattle.og_types.specs.Table.{is_empty}
use Rattle.og_model.specs.declared.Select.{Select, out-Select}
use Rattle.og_model.specs.Expressions.{Hop}
use Rattle.og_model.specs.WellSorted.{Data, hop_of}
use Rattle.og_ranges.specs.declared.Interval.{Interval}
use Rattle.og_ranges.specs.declared.targets.Declared.{Declared}
use Rattle.og_ranges.specs.Ranges.{Range}

-- the interval, where nothing is violated
abbrev pub interval_if : Range → Option Interval
interval_if r = cond (is_empty r.violations) (Some r.interval) None

-- what an expression can name
abbrev pub data_of : Declared → Data
data_of declared = record { types = declared.types.now; variables = declared.variables.now; locals = declared.locals.now }

-- the selectors of a path, whatever their indices
abbrev pub hops_of : List Select → List Hop
hops_of path = map (λ (s : Select). hop_of (out-Select s)) path
