-- The places that states, composite states and aggregations keep are those of their tokens.
use Rattle.std.proofs.Common.{Bool, true, false, List, [], ◌∷◌, Option, Some, None}
use Rattle.std.specs.List.{flat_map}
use Rattle.og_base.specs.declared.Place.{Place}
use Rattle.og_lexer.specs.declared.Keyword.TheVariants as word
use Rattle.og_lexer.specs.declared.Mark.TheVariants as mark
use Rattle.og_lexer.specs.declared.Spanned.{Spanned}
use Rattle.og_ast.specs.declared.ground.Name.{Name}
use Rattle.og_ast.specs.declared.ground.EndTree.{EndTree}
use Rattle.og_ast.specs.declared.state.InnerTree.{InnerTree}
use Rattle.og_ast.specs.declared.state.StartTree.{StartTree}
use Rattle.og_ast.specs.declared.state.StateTree.{StateTree}
use Rattle.og_ast.specs.declared.state.ListTree.{ListTree}
use Rattle.og_ast.specs.declared.state.ListTree.TheVariants as list
use Rattle.og_ast.specs.declared.state.PartTree.{PartTree}
use Rattle.og_ast.specs.declared.state.PartTree.TheVariants as part
use Rattle.og_ast.specs.declared.state.InputTree.{InputTree}
use Rattle.og_ast.specs.declared.state.InTree.{InTree}
use Rattle.og_ast.specs.declared.state.EnablingTree.{EnablingTree}
use Rattle.og_ast.specs.declared.state.ProvidedTree.{ProvidedTree}
use Rattle.og_ast.specs.declared.state.PriorityTree.{PriorityTree}
use Rattle.og_ast.specs.declared.state.ConnectTree.{ConnectTree}
use Rattle.og_ast.specs.declared.state.SaveTree.{SaveTree}
use Rattle.og_ast.specs.declared.state.CompositeTree.{CompositeTree}
use Rattle.og_ast.specs.declared.state.PointsTree.{PointsTree}
use Rattle.og_ast.specs.declared.state.AggregationTree.{AggregationTree}
use Rattle.og_ast.specs.declared.state.AggregationPart.{AggregationPart}
use Rattle.og_ast.specs.declared.state.EmptyStateTree.{EmptyStateTree}
use Rattle.og_places.specs.Contents.{maybe, places_in_name, places_in_end, places_in_start, places_in_list, places_in_in, places_in_enabling, places_in_input, places_in_priority, places_in_provided, places_in_connect, places_in_save, places_in_part, places_in_state, places_in_points, places_in_empty, places_in_partition, places_in_inner, places_in_aggregation, places_in_composite}
use Rattle.og_places.proofs.Opens.{of-composite, of-aggregation, of-Dcl-inner, of-Timer-inner, of-Procedure-inner, of-Start-inner, of-State-inner, of-Composite-inner, of-Aggregation-inner, of-Connection-inner, of-Dcl-partition, of-Timer-partition, of-Procedure-partition, of-Empty-partition, of-Composite-partition}
use Rattle.og_reading.specs.Fronts.{Named}
use Rattle.og_parse_state.specs.Grammar.{IsStart, IsList, IsIn, IsEnabling, IsInput, IsPriority, IsProvided, IsConnect, IsSave, IsStatePart, IsState, IsDirection, IsPoints, IsHeader, IsAggregationHeader, IsOpening, IsEmptyState, IsOther, other_dcl, other_timer, other_procedure, other_state, IsInner, a_dcl, a_timer, a_procedure, a_start, a_state, a_composite, an_aggregation, a_connection, AreInners, no_inner_part, more_inner_parts, IsComposite, composite, IsAggregation, aggregation, AreAggregated, another, first_composite, ArePartitions, no_partition, more_partitions, IsPartition, other_partition, composite_partition}
use Rattle.og_parse.proofs.PlacesKept.{AreIn, Kept, Keeps, followed, as_places, keeps_none, reserved, sign, named, passed_word, passed, digits, no_text, both, perhaps, each_of, list_of, list_or_none, bracketed, names_of}
use Rattle.og_parse.proofs.PlacesOfExpressions.{expr_kept}
use Rattle.og_parse.proofs.PlacesOfBodies.{end_kept, closed_kept, dcl_kept, timer_kept, transition_kept, connection_kept, procedure_kept}

module _ (P : Place → Type 0) where
  -- ---- starts and basic states

  start_kept : (s : StartTree) → Keeps P (IsStart s) (places_in_start s)
  start_kept s = both (reserved word.Start s.place) (both (perhaps Named places_in_name (λ name. named name) s.name) (both (end_kept P s.«end») (transition_kept P s.transition)))

  list_kept : (l : ListTree) → Keeps P (IsList l) (places_in_list l)
  list_kept (list.Names names) = names_of names
  list_kept (list.All place names) = both (sign mark.Asterisk place) (bracketed Named places_in_name (λ name. named name) names)

  in_kept : (i : InTree) → Keeps P (IsIn i) (places_in_in i)
  in_kept i = both (named i.signal) (bracketed Named places_in_name (λ name. named name) i.variables)

  enabling_kept : (o : Option EnablingTree) → Keeps P (IsEnabling o) (maybe places_in_enabling o)
  enabling_kept None = record { by = λ ts rest s all. (no_text {P = P}).by ts rest s.0 all }
  enabling_kept (Some e) = both (reserved word.Provided e.place) (both (expr_kept P e.condition) (end_kept P e.«end»))

  input_kept : (i : InputTree) → Keeps P (IsInput i) (places_in_input i)
  input_kept i =
      both (reserved word.Input i.place)
      (both (list_of IsIn places_in_in in_kept i.inputs) (both (end_kept P i.«end») (both (enabling_kept i.enabling) (transition_kept P i.transition))))

  priority_kept : (p : PriorityTree) → Keeps P (IsPriority p) (places_in_priority p)
  priority_kept p = both (reserved word.Priority p.place) (both (digits p.number) (end_kept P p.«end»))

  provided_kept : (p : ProvidedTree) → Keeps P (IsProvided p) (places_in_provided p)
  provided_kept p =
      both (reserved word.Provided p.place)
      (both (expr_kept P p.condition) (both (end_kept P p.«end») (both (perhaps IsPriority places_in_priority priority_kept p.priority) (transition_kept P p.transition))))

  connect_kept : (c : ConnectTree) → Keeps P (IsConnect c) (places_in_connect c)
  connect_kept c =
      both (reserved word.Connect c.place) (both (list_or_none Named places_in_name (λ name. named name) c.names) (both (end_kept P c.«end») (transition_kept P c.transition)))

  save_kept : (s : SaveTree) → Keeps P (IsSave s) (places_in_save s)
  save_kept s = both (reserved word.Save s.place) (both (names_of s.names) (end_kept P s.«end»))

  part_kept : (p : PartTree) → Keeps P (IsStatePart p) (places_in_part p)
  part_kept (part.Input i) = input_kept i
  part_kept (part.Provided p) = provided_kept p
  part_kept (part.Connect c) = connect_kept c
  part_kept (part.Save s) = save_kept s

  state_kept : (s : StateTree) → Keeps P (IsState s) (places_in_state s)
  state_kept s =
      both (reserved word.State s.place)
      (both (list_kept s.list) (both (end_kept P s.«end») (both (each_of IsStatePart places_in_part part_kept s.parts) (closed_kept P word.Endstate s.closing))))

  -- ---- what composite states and aggregations have in front

  direction_kept : (out : Bool) (place : Place) → Keeps P (IsDirection out place) (place ∷ [])
  direction_kept false place = reserved word.In place
  direction_kept true place = reserved word.Out place

  points_kept : (p : PointsTree) → Keeps P (IsPoints p) (places_in_points p)
  points_kept p =
      both (direction_kept p.out p.place) (both (passed mark.LeftParenthesis) (both (names_of p.names) (both (passed mark.RightParenthesis) (end_kept P p.«end»))))

  header_kept : (place : Place) (name : Name) (e : EndTree) → Keeps P (IsHeader place name e) (place ∷ (name.place ∷ places_in_end e))
  header_kept place name e = both (reserved word.State place) (both (named name) (end_kept P e))

  aggregation_header_kept : (place : Place) (name : Name) (e : EndTree) → Keeps P (IsAggregationHeader place name e) (place ∷ (name.place ∷ places_in_end e))
  aggregation_header_kept place name e = both (reserved word.State place) (both (passed_word word.Aggregation) (both (named name) (end_kept P e)))

  opening_kept : (points : List PointsTree) → Keeps P (IsOpening points) (flat_map places_in_points points)
  opening_kept points = both (passed_word word.Substructure) (each_of IsPoints places_in_points points_kept points)

  empty_kept : (s : EmptyStateTree) → Keeps P (IsEmptyState s) (places_in_empty s)
  empty_kept s = both (header_kept s.place s.name s.«end») (closed_kept P word.Endstate s.closing)

  other_in : {p : AggregationPart} {ts rest : List Spanned} → IsOther p ts rest → AreIn P ts → Kept P (places_in_partition p) rest
  other_in (other_dcl d {ts = ts} {rest = rest} i) all = as_places (of-Dcl-partition d) ((dcl_kept P d).by ts rest i all)
  other_in (other_timer t {ts = ts} {rest = rest} i) all = as_places (of-Timer-partition t) ((timer_kept P t).by ts rest i all)
  other_in (other_procedure p {ts = ts} {rest = rest} i) all = as_places (of-Procedure-partition p) ((procedure_kept P p).by ts rest i all)
  other_in (other_state s {ts = ts} {rest = rest} i) all = as_places (of-Empty-partition s) ((empty_kept s).by ts rest i all)

  -- ---- the relations, each by the others

  mutual
    inner_in : {i : InnerTree} {ts rest : List Spanned} → IsInner i ts rest → AreIn P ts → Kept P (places_in_inner i) rest
    inner_in (a_dcl d {ts = ts} {rest = rest} i) all = as_places (of-Dcl-inner d) ((dcl_kept P d).by ts rest i all)
    inner_in (a_timer t {ts = ts} {rest = rest} i) all = as_places (of-Timer-inner t) ((timer_kept P t).by ts rest i all)
    inner_in (a_procedure p {ts = ts} {rest = rest} i) all = as_places (of-Procedure-inner p) ((procedure_kept P p).by ts rest i all)
    inner_in (a_start s {ts = ts} {rest = rest} i) all = as_places (of-Start-inner s) ((start_kept s).by ts rest i all)
    inner_in (a_state s {ts = ts} {rest = rest} i) all = as_places (of-State-inner s) ((state_kept s).by ts rest i all)
    inner_in (a_composite c i) all = as_places (of-Composite-inner c) (composite_in i all)
    inner_in (an_aggregation a i) all = as_places (of-Aggregation-inner a) (aggregation_in i all)
    inner_in (a_connection c {ts = ts} {rest = rest} i) all = as_places (of-Connection-inner c) ((connection_kept P c).by ts rest i all)

    inners_in : {is : List InnerTree} {ts rest : List Spanned} → AreInners is ts rest → AreIn P ts → Kept P (flat_map places_in_inner is) rest
    inners_in no_inner_part all = keeps_none P all
    inners_in (more_inner_parts i j) all =
        let x = inner_in i all in
        followed x (inners_in j x.left)

    composite_in : {c : CompositeTree} {ts rest : List Spanned} → IsComposite c ts rest → AreIn P ts → Kept P (places_in_composite c) rest
    composite_in (composite place name e points parts closing {ts = ts} {us = us} {vs = vs} {ws = ws} {rest = rest} h o i c) all =
        let x = (header_kept place name e).by ts us h all in
        let y = (opening_kept points).by us vs o x.left in
        let z = inners_in i y.left in
        let w = (closed_kept P word.Endsubstructure closing).by ws rest c z.left in
        as_places (of-composite (record { place = place; name = name; «end» = e; points = points; parts = parts; closing = closing })) (followed x (followed y (followed z w)))

    aggregation_in : {a : AggregationTree} {ts rest : List Spanned} → IsAggregation a ts rest → AreIn P ts → Kept P (places_in_aggregation a) rest
    aggregation_in (aggregation place name e points parts closing {ts = ts} {us = us} {vs = vs} {ws = ws} {rest = rest} h o i c) all =
        let x = (aggregation_header_kept place name e).by ts us h all in
        let y = (opening_kept points).by us vs o x.left in
        let z = aggregated_in i y.left in
        let w = (closed_kept P word.Endsubstructure closing).by ws rest c z.left in
        as_places (of-aggregation (record { place = place; name = name; «end» = e; points = points; parts = parts; closing = closing })) (followed x (followed y (followed z w)))

    aggregated_in : {ps : List AggregationPart} {ts rest : List Spanned} → AreAggregated ps ts rest → AreIn P ts → Kept P (flat_map places_in_partition ps) rest
    aggregated_in (another i j) all =
        let x = other_in i all in
        followed x (aggregated_in j x.left)
    aggregated_in (first_composite c i j) all =
        let x = as_places (of-Composite-partition c) (composite_in i all) in
        followed x (partitions_in j x.left)

    partitions_in : {ps : List AggregationPart} {ts rest : List Spanned} → ArePartitions ps ts rest → AreIn P ts → Kept P (flat_map places_in_partition ps) rest
    partitions_in no_partition all = keeps_none P all
    partitions_in (more_partitions i j) all =
        let x = partition_in i all in
        followed x (partitions_in j x.left)

    partition_in : {p : AggregationPart} {ts rest : List Spanned} → IsPartition p ts rest → AreIn P ts → Kept P (places_in_partition p) rest
    partition_in (other_partition i) all = other_in i all
    partition_in (composite_partition c i) all = as_places (of-Composite-partition c) (composite_in i all)

  pub inner_kept : (i : InnerTree) → Keeps P (IsInner i) (places_in_inner i)
  inner_kept i = record { by = λ ts rest w all. inner_in w all }
