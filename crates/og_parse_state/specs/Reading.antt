-- States, composite states and aggregations as trees of their derivations, by the parts of the table of SDL/PR. The number that some
-- take bounds how many states, decisions, expressions and the like stand one inside the other.
use Rattle.std.specs.Prelude.{ℕ, zero, suc, Bool, true, false, List, [], ◌∷◌, ◌++◌, Option, Some, None, if◌then◌else◌, ◌==◌}
use Rattle.og_base.specs.declared.Place.{Place}
use Rattle.og_ast.specs.declared.ground.Name.{Name}
use Rattle.og_ast.specs.declared.ground.EndTree.{EndTree}
use Rattle.og_ast.specs.declared.state.InnerTree.{InnerTree, Dcl, Timer, Procedure, Start, State, Composite, Aggregation, Connection}
use Rattle.og_ast.specs.declared.state.StartTree.{StartTree}
use Rattle.og_ast.specs.declared.state.StateTree.{StateTree}
use Rattle.og_ast.specs.declared.state.ListTree.{ListTree}
use Rattle.og_ast.specs.declared.state.ListTree.TheVariants as list
use Rattle.og_ast.specs.declared.state.PartTree.{PartTree}
use Rattle.og_ast.specs.declared.state.PartTree.TheVariants as part
use Rattle.og_ast.specs.declared.state.InputTree.{InputTree}
use Rattle.og_ast.specs.declared.state.InTree.{InTree}
use Rattle.og_ast.specs.declared.state.EnablingTree.{EnablingTree}
use Rattle.og_ast.specs.declared.state.ProvidedTree.{ProvidedTree}
use Rattle.og_ast.specs.declared.state.PriorityTree.{PriorityTree}
use Rattle.og_ast.specs.declared.state.ConnectTree.{ConnectTree}
use Rattle.og_ast.specs.declared.state.SaveTree.{SaveTree}
use Rattle.og_ast.specs.declared.state.CompositeTree.{CompositeTree}
use Rattle.og_ast.specs.declared.state.PointsTree.{PointsTree}
use Rattle.og_ast.specs.declared.state.AggregationTree.{AggregationTree}
use Rattle.og_ast.specs.declared.state.AggregationPart.{AggregationPart}
use Rattle.og_ast.specs.declared.state.AggregationPart as other
use Rattle.og_ast.specs.declared.state.EmptyStateTree.{EmptyStateTree}
use Rattle.og_reading.specs.Reading.{Rest, Take, behind, after, choice_in, goes_on, place_in, name_in, number_in, maybe, onto, more_of, next, list_at, list_in_brackets, list_or_none}
use Rattle.og_parse_expr.specs.Reading.{expr_at}
use Rattle.og_parse_body.specs.Reading.{name_at, end_at, own_name_at, closing_at, dcl_at, timer_at, transition_at, connection_at, procedure_at}
use Rattle.og_parse_state.specs.declared.state.HeaderText.{HeaderText}

-- ---- starts, and what triggers the transitions of a state

unfoldable pub start_at : ℕ → Take StartTree
start_at n rest =
    let start = after rest in
    let name = maybe own_name_at (behind start) in
    let e = end_at name.1 in
    let t = transition_at n e.1 in
    (record { place = place_in start; name = name.0; «end» = e.0; transition = t.0 }, t.1)

unfoldable pub in_at : Take InTree
in_at rest =
    let start = after rest in
    let variables = list_in_brackets name_at (behind start) in
    (record { signal = name_in start; variables = variables.0 }, variables.1)

-- an enabling condition, or none
unfoldable pub enabling_at : ℕ → Take (Option EnablingTree)
enabling_at n rest =
    let start = after rest in
    if choice_in rest == 0 then (let c = expr_at n (behind start) in let e = end_at c.1 in (Some (record { place = place_in start; condition = c.0; «end» = e.0 }), e.1))
    else (None, start)

unfoldable pub input_at : ℕ → Take InputTree
input_at n rest =
    let inputs = list_at in_at (behind rest) in
    let e = end_at inputs.1 in
    let enabling = enabling_at n e.1 in
    let t = transition_at n enabling.1 in
    (record { place = place_in rest; inputs = inputs.0; «end» = e.0; enabling = enabling.0; transition = t.0 }, t.1)

unfoldable pub priority_at : Take PriorityTree
priority_at rest =
    let start = after rest in
    let e = end_at (behind (behind start)) in
    (record { place = place_in start; number = number_in (behind start); «end» = e.0 }, e.1)

unfoldable pub provided_at : ℕ → Take ProvidedTree
provided_at n rest =
    let c = expr_at n (behind rest) in
    let e = end_at c.1 in
    let priority = maybe priority_at e.1 in
    let t = transition_at n priority.1 in
    (record { place = place_in rest; condition = c.0; «end» = e.0; priority = priority.0; transition = t.0 }, t.1)

unfoldable pub connect_at : ℕ → Take ConnectTree
connect_at n rest =
    let names = list_or_none name_at (behind rest) in
    let e = end_at names.1 in
    let t = transition_at n e.1 in
    (record { place = place_in rest; names = names.0; «end» = e.0; transition = t.0 }, t.1)

unfoldable pub save_at : Take SaveTree
save_at rest =
    let names = list_at name_at (behind rest) in
    let e = end_at names.1 in
    (record { place = place_in rest; names = names.0; «end» = e.0 }, e.1)

unfoldable pub part_at : ℕ → Take PartTree
part_at n rest =
    let start = after rest in
    if choice_in rest == 0 then (let x = input_at n start in (part.Input x.0, x.1))
    else (if choice_in rest == 1 then (let x = provided_at n start in (part.Provided x.0, x.1))
    else (if choice_in rest == 2 then (let x = connect_at n start in (part.Connect x.0, x.1))
    else (let x = save_at start in (part.Save x.0, x.1))))

-- IN or OUT, with its place
unfoldable pub direction_at : Take (Place × Bool)
direction_at rest = let start = after rest in if choice_in rest == 0 then ((place_in start, false), behind start) else ((place_in start, true), behind start)

unfoldable pub points_at : Take PointsTree
points_at rest =
    let d = direction_at (after rest) in
    let names = list_at name_at (behind d.1) in
    let e = end_at (behind names.1) in
    (record { place = d.0.0; out = d.0.1; names = names.0; «end» = e.0 }, e.1)

-- ---- states behind what stands in front of their bodies

-- a basic state behind its list and the end of it
unfoldable pub state_body_at : ℕ → Place → ListTree → EndTree → Take StateTree
state_body_at n place list e rest =
    let parts = more_of (part_at n) [] (after rest) in
    let c = closing_at (place_in parts.1) (behind parts.1) in
    (record { place = place; list = list; «end» = e; parts = parts.0; closing = c.0 }, c.1)

-- a composite state behind its header
unfoldable pub composite_body_at : Take InnerTree → HeaderText → Take CompositeTree
composite_body_at inner h rest =
    let points = more_of points_at [] (behind (after rest)) in
    let parts = more_of inner [] points.1 in
    let c = closing_at (place_in parts.1) (behind parts.1) in
    (record { place = h.place; name = h.name; «end» = h.«end»; points = points.0; parts = parts.0; closing = c.0 }, c.1)

-- ---- aggregations

unfoldable pub plain_at : ℕ → Take AggregationPart
plain_at n rest =
    let start = after rest in
    if choice_in rest == 0 then (let x = dcl_at n start in (other.Dcl x.0, x.1))
    else (if choice_in rest == 1 then (let x = timer_at start in (other.Timer x.0, x.1))
    else (let x = procedure_at n start in (other.Procedure x.0, x.1)))

unfoldable pub header_at : Take HeaderText
header_at rest =
    let start = after rest in
    let e = end_at (behind (behind start)) in
    (record { place = place_in start; name = name_in (behind start); «end» = e.0 }, e.1)

-- a state that names a partition, behind its header
unfoldable pub empty_at : HeaderText → Take EmptyStateTree
empty_at h rest =
    let start = after rest in
    let c = closing_at (place_in start) (behind start) in
    (record { place = h.place; name = h.name; «end» = h.«end»; closing = c.0 }, c.1)

-- the parts so far, and the header of the state that comes next
abbrev pub SoFar : Type 0
SoFar = List AggregationPart × HeaderText

-- that state names a partition: up to the header behind it
unfoldable pub again_at : ℕ → SoFar → Take SoFar
again_at n x rest =
    let s = empty_at x.1 (after rest) in
    let parts = more_of (plain_at n) (x.0 ++ other.Empty s.0 ∷ []) s.1 in
    let h = header_at parts.1 in
    ((parts.0, h.0), h.1)

unfoldable pub one_state_at : Take InnerTree → HeaderText → Take AggregationPart
one_state_at inner h rest =
    let start = after rest in
    if choice_in rest == 0 then (let x = composite_body_at inner h start in (other.Composite x.0, x.1)) else (let x = empty_at h start in (other.Empty x.0, x.1))

unfoldable pub partition_at : ℕ → Take InnerTree → Take AggregationPart
partition_at n inner rest =
    let start = after rest in
    if choice_in rest == 0 then plain_at n start else (let h = header_at start in one_state_at inner h.0 h.1)

-- up to the header of the first composite state
unfoldable pub begun_at : ℕ → Take SoFar
begun_at n rest =
    let plains = more_of (plain_at n) [] rest in
    let h = header_at plains.1 in
    onto (again_at n) (plains.0, h.0) h.1

-- with that state, behind its header
unfoldable pub first_composite_at : Take InnerTree → SoFar → Take (List AggregationPart)
first_composite_at inner x rest = let c = composite_body_at inner x.1 rest in (x.0 ++ other.Composite c.0 ∷ [], c.1)

-- the parts of an aggregation
unfoldable pub aggregated_at : ℕ → Take InnerTree → Take (List AggregationPart)
aggregated_at n inner rest =
    let x = begun_at n rest in
    let parts = first_composite_at inner x.0 x.1 in
    more_of (partition_at n inner) parts.0 parts.1

-- an aggregation behind its header
unfoldable pub aggregation_body_at : ℕ → Take InnerTree → HeaderText → Take AggregationTree
aggregation_body_at n inner h rest =
    let points = more_of points_at [] (behind (after rest)) in
    let parts = aggregated_at n inner points.1 in
    let c = closing_at (place_in parts.1) (behind parts.1) in
    (record { place = h.place; name = h.name; «end» = h.«end»; points = points.0; parts = parts.0; closing = c.0 }, c.1)

-- ---- what stands in a process

-- a state of one name, behind its header
unfoldable pub after_one_at : ℕ → Take InnerTree → HeaderText → Take InnerTree
after_one_at n inner h rest =
    let start = after rest in
    if choice_in rest == 0 then (let x = composite_body_at inner h start in (Composite x.0, x.1)) else (let x = state_body_at n h.place (list.Names (h.name ∷ [])) h.«end» start in (State x.0, x.1))

-- a state of several names, behind the first
unfoldable pub several_at : ℕ → Place → Name → Take InnerTree
several_at n place name rest =
    let second = next name_at rest in
    let names = more_of (next name_at) (name ∷ second.0 ∷ []) second.1 in
    let e = end_at names.1 in
    let x = state_body_at n place (list.Names names.0) e.0 e.1 in
    (State x.0, x.1)

-- a state whose keyword stands at this place, behind its first name
unfoldable pub after_state_name_at : ℕ → Take InnerTree → Place → Name → Take InnerTree
after_state_name_at n inner place name rest =
    let start = after rest in
    if choice_in rest == 0 then several_at n place name start
    else (let e = end_at start in after_one_at n inner (record { place = place; name = name; «end» = e.0 }) e.1)

-- an aggregation whose STATE stands at this place, from the word AGGREGATION on
unfoldable pub aggregation_at : ℕ → Take InnerTree → Place → Take InnerTree
aggregation_at n inner place rest =
    let name = behind rest in
    let e = end_at (behind name) in
    let x = aggregation_body_at n inner (record { place = place; name = name_in name; «end» = e.0 }) e.1 in
    (Aggregation x.0, x.1)

-- all states but those named, from the `*` on
unfoldable pub all_states_at : ℕ → Place → Take InnerTree
all_states_at n place rest =
    let names = list_in_brackets name_at (behind rest) in
    let e = end_at names.1 in
    let x = state_body_at n place (list.All (place_in rest) names.0) e.0 e.1 in
    (State x.0, x.1)

-- behind a STATE at this place
unfoldable pub state_at : ℕ → Take InnerTree → Place → Take InnerTree
state_at n inner place rest =
    let start = after rest in
    if choice_in rest == 0 then aggregation_at n inner place start
    else (if choice_in rest == 1 then all_states_at n place start
    else after_state_name_at n inner place (name_in start) (behind start))

unfoldable pub inner_by : ℕ → Take InnerTree → Take InnerTree
inner_by n inner rest =
    let start = after rest in
    if choice_in rest == 0 then (let x = dcl_at n start in (Dcl x.0, x.1))
    else (if choice_in rest == 1 then (let x = timer_at start in (Timer x.0, x.1))
    else (if choice_in rest == 2 then (let x = procedure_at n start in (Procedure x.0, x.1))
    else (if choice_in rest == 3 then (let x = start_at n start in (Start x.0, x.1))
    else (if choice_in rest == 4 then state_at n inner (place_in start) (behind start)
    else (let x = connection_at n start in (Connection x.0, x.1))))))

-- what is made where nothing is left to go by
abbrev pub no_inner : Rest → InnerTree
no_inner rest = Timer (record { place = place_in rest; names = []; «end» = record { place = place_in rest; comment = None } })

unfoldable pub inner_at : ℕ → Take InnerTree
inner_at zero rest = (no_inner rest, rest)
inner_at (suc n) rest = inner_by n (inner_at n) rest
