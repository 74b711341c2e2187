-- Each state, composite state and aggregation is read as what it is.
use Rattle.std.proofs.Common.{◌≡◌, ℕ, zero, suc, Bool, true, false, List, [], ◌∷◌, ◌++◌, Option, Some, None, refl, sym, ap, subst, ◌∙◌, append_assoc}
use Rattle.std.proofs.lemmas.List.{append-nil}
use Rattle.og_grammar.specs.declared.Nesting.TheVariants.{Keeps}
use Rattle.og_grammar.specs.declared.Symbol.{Symbol}
use Rattle.og_grammar.specs.declared.Symbol.TheVariants.{Token, Part, Scope, Maybe, Many, NotBefore}
use Rattle.og_base.specs.declared.Place.{Place}
use Rattle.og_lexer.specs.declared.Keyword.{Keyword}
use Rattle.og_lexer.specs.declared.Keyword.TheVariants as word
use Rattle.og_lexer.specs.declared.Mark.TheVariants as mark
use Rattle.og_lexer.specs.declared.Spanned.{Spanned}
use Rattle.og_lexer.specs.declared.Token.TheVariants as token
use Rattle.og_ast.specs.declared.ground.Name.{Name}
use Rattle.og_ast.specs.declared.ground.EndTree.{EndTree}
use Rattle.og_ast.specs.declared.ground.ClosingTree.{ClosingTree}
use Rattle.og_ast.specs.declared.expression.ExprTree.{ExprTree}
use Rattle.og_ast.specs.declared.data.DclTree.{DclTree}
use Rattle.og_ast.specs.declared.data.TimerTree.{TimerTree}
use Rattle.og_ast.specs.declared.procedure.ProcedureTree.{ProcedureTree}
use Rattle.og_ast.specs.declared.procedure.ConnectionTree.{ConnectionTree}
use Rattle.og_ast.specs.declared.state.InnerTree.{InnerTree, Dcl, Timer, Procedure, Start, State, Composite, Aggregation, Connection}
use Rattle.og_ast.specs.declared.state.StartTree.{StartTree}
use Rattle.og_ast.specs.declared.state.StateTree.{StateTree}
use Rattle.og_ast.specs.declared.state.ListTree.{ListTree}
use Rattle.og_ast.specs.declared.state.ListTree.TheVariants as list
use Rattle.og_ast.specs.declared.state.PartTree.{PartTree}
use Rattle.og_ast.specs.declared.state.PartTree.TheVariants as part
use Rattle.og_ast.specs.declared.state.EnablingTree.{EnablingTree}
use Rattle.og_ast.specs.declared.state.CompositeTree.{CompositeTree}
use Rattle.og_ast.specs.declared.state.PointsTree.{PointsTree}
use Rattle.og_ast.specs.declared.state.AggregationTree.{AggregationTree}
use Rattle.og_ast.specs.declared.state.AggregationPart.{AggregationPart}
use Rattle.og_ast.specs.declared.state.AggregationPart as other
use Rattle.og_ast.specs.declared.state.EmptyStateTree.{EmptyStateTree}
use Rattle.og_sdl.specs.declared.table.TheConstants.{SDL}
use Rattle.og_reading.specs.Kinds.{kind_of_keyword, kinds_of}
use Rattle.og_reading.specs.Reading.{Rest, Take, behind, after, place_in, name_in, maybe, onto, more_of, next, list_at, list_in_brackets, list_or_none}
use Rattle.og_reading.specs.Fronts.{Text, Reserved, Sign, Named, Word, Passed, nothing, ◌▸◌, optional, each, separated_by, separated, perhaps_separated, in_brackets, IsNotBefore}
use Rattle.og_reading.proofs.ReadParts.{then_take}
use Rattle.og_reading.proofs.WrittenParts.{Writes, writes_word, writes_mark, writes_name, writes_number, writes_then, writes_and, writes_as, writes_nothing, writes_not, writes_deeper, WritesTurns, no_turn, one_turn, writes_onto, writes_each}
use Rattle.og_reading.proofs.Lists.{writes_all, writes_maybe, writes_list, writes_next, writes_in_brackets, writes_or_none}
use Rattle.og_parse_expr.specs.Reading.{expr_at}
use Rattle.og_parse_expr.specs.Grammar.{IsExpr}
use Rattle.og_parse_expr.proofs.WrittenExpressions.{writes_expr}
use Rattle.og_parse_body.specs.Reading.{name_at, end_at, own_name_at, closing_at, dcl_at, timer_at, transition_at, connection_at, procedure_at}
use Rattle.og_parse_body.specs.Grammar.{IsEnd, AreNames, IsClosing, IsDcl, IsTimer, IsTransition, IsConnection, IsProcedure}
use Rattle.og_parse_body.proofs.ReadBodies.{sdl_has}
use Rattle.og_parse_body.proofs.WrittenBodies.{by_rule, Each, writes_end, writes_names, writes_own_name, writes_closing, writes_dcl, writes_timer, keyword_not_first, writes_transition, writes_connection, writes_procedure}
use Rattle.og_parse_state.specs.declared.state.HeaderText.{HeaderText}
use Rattle.og_parse_state.specs.Reading.{start_at, in_at, enabling_at, input_at, priority_at, provided_at, connect_at, save_at, part_at, direction_at, points_at, state_body_at, composite_body_at, plain_at, header_at, empty_at, SoFar, again_at, one_state_at, partition_at, begun_at, first_composite_at, aggregated_at, aggregation_body_at, after_one_at, several_at, after_state_name_at, aggregation_at, all_states_at, state_at, inner_by, inner_at}
use Rattle.og_parse_state.specs.Grammar.{IsClosed, IsStart, IsList, IsIn, IsEnabling, IsInput, IsPriority, IsProvided, IsConnect, IsSave, IsStatePart, IsState, IsDirection, IsPoints, IsHeader, IsAggregationHeader, IsOpening, IsEmptyState, IsOther, other_dcl, other_timer, other_procedure, other_state, IsInner, a_dcl, a_timer, a_procedure, a_start, a_state, a_composite, an_aggregation, a_connection, AreInners, no_inner_part, more_inner_parts, IsComposite, composite, IsAggregation, aggregation, AreAggregated, another, first_composite, ArePartitions, no_partition, more_partitions, IsPartition, other_partition, composite_partition}

-- ---- starts, and what triggers the transitions of a state

the_expr : (e : ExprTree) (ts us : List Spanned) → IsExpr e ts us → Writes SDL (Scope 1 ∷ []) expr_at e ts us
the_expr e ts us i = writes_expr SDL sdl_has i (Scope 1) refl

bracketed_names : (names : List Name) (ts us : List Spanned) → in_brackets Named names ts us → Writes SDL (Maybe 98 ∷ []) (λ n. list_in_brackets name_at) names ts us
bracketed_names names ts us i = writes_in_brackets (λ n. name_at) 98 refl (writes_names (Part 40) refl) names ts us i

writes_start : Each 97 start_at IsStart
unfolding start_at
writes_start s ts us i =
    let name = i.2 in let ended = name.2 in
    by_rule 97 (Part 97) refl 0 refl start_at
    (writes_as (λ x. record { place = x.0; name = x.1.0; «end» = x.1.1.0; transition = x.1.1.1 })
    (writes_and (writes_word word.Start s.place ts i.0 i.1)
    (writes_and (writes_maybe (λ n. own_name_at) Named writes_own_name s.name i.0 name.0 name.1)
    (writes_and (writes_end s.«end» name.0 ended.0 ended.1) (writes_transition s.transition ended.0 us ended.2))))) (λ n cs. refl)

writes_in : Each 102 (λ n. in_at) IsIn
unfolding in_at
writes_in x ts us i =
    by_rule 102 (Part 102) refl 0 refl (λ n. in_at)
    (writes_as (λ y. record { signal = y.0; variables = y.1 }) (writes_and (writes_name x.signal ts i.0 i.1) (bracketed_names x.variables i.0 us i.2))) (λ n cs. refl)

writes_enabling : Each 103 enabling_at IsEnabling
unfolding enabling_at
writes_enabling None ts us i = by_rule 103 (Part 103) refl 1 refl enabling_at (writes_not 62 (keyword_not_first word.Provided ts i.1) (writes_nothing None ts us i.0)) (λ n cs. refl)
writes_enabling (Some e) ts us i =
    by_rule 103 (Part 103) refl 0 refl enabling_at
    (writes_as (λ x. Some (record { place = x.0; condition = x.1.0; «end» = x.1.1 }))
    (writes_and (writes_word word.Provided e.place ts i.0 i.1) (writes_and (the_expr e.condition i.0 i.2.0 i.2.1) (writes_end e.«end» i.2.0 us i.2.2)))) (λ n cs. refl)

writes_priority : Each 104 (λ n. priority_at) IsPriority
unfolding priority_at
writes_priority p ts us i =
    by_rule 104 (Part 104) refl 0 refl (λ n. priority_at)
    (writes_as (λ x. record { place = x.0; number = x.1.0.0; «end» = x.1.1 })
    (writes_and (writes_word word.Priority p.place ts i.0 i.1) (writes_and (writes_number p.number i.2.1.0 i.0 i.2.0 i.2.1.1) (writes_end p.«end» i.2.0 us i.2.2)))) (λ n cs. refl)

writes_part : Each 99 part_at IsStatePart
unfolding part_at input_at provided_at connect_at save_at
writes_part (part.Input x) ts us i =
    let inputs = i.2 in let ended = inputs.2 in let enabling = ended.2 in
    by_rule 99 (Part 99) refl 0 refl part_at
    (writes_as (λ y. part.Input (record { place = y.0; inputs = y.1.0; «end» = y.1.1.0; enabling = y.1.1.1.0; transition = y.1.1.1.1 }))
    (writes_and (writes_word word.Input x.place ts i.0 i.1)
    (writes_and (writes_list mark.Comma 100 101 refl refl writes_in writes_in (Part 100) refl x.inputs i.0 inputs.0 inputs.1)
    (writes_and (writes_end x.«end» inputs.0 ended.0 ended.1)
    (writes_and (writes_enabling x.enabling ended.0 enabling.0 enabling.1) (writes_transition x.transition enabling.0 us enabling.2)))))) (λ n cs. refl)
writes_part (part.Provided x) ts us i =
    let condition = i.2 in let ended = condition.2 in let priority = ended.2 in
    by_rule 99 (Part 99) refl 1 refl part_at
    (writes_as (λ y. part.Provided (record { place = y.0; condition = y.1.0; «end» = y.1.1.0; priority = y.1.1.1.0; transition = y.1.1.1.1 }))
    (writes_and (writes_word word.Provided x.place ts i.0 i.1)
    (writes_and (the_expr x.condition i.0 condition.0 condition.1)
    (writes_and (writes_end x.«end» condition.0 ended.0 ended.1)
    (writes_and (writes_maybe (λ n. priority_at) IsPriority writes_priority x.priority ended.0 priority.0 priority.1) (writes_transition x.transition priority.0 us priority.2)))))) (λ n cs. refl)
writes_part (part.Connect x) ts us i =
    let names = i.2 in let ended = names.2 in
    by_rule 99 (Part 99) refl 2 refl part_at
    (writes_as (λ y. part.Connect (record { place = y.0; names = y.1.0; «end» = y.1.1.0; transition = y.1.1.1 }))
    (writes_and (writes_word word.Connect x.place ts i.0 i.1)
    (writes_and (writes_or_none (λ n. name_at) 40 (writes_names (Part 40) refl) x.names i.0 names.0 names.1)
    (writes_and (writes_end x.«end» names.0 ended.0 ended.1) (writes_transition x.transition ended.0 us ended.2))))) (λ n cs. refl)
writes_part (part.Save x) ts us i =
    by_rule 99 (Part 99) refl 3 refl part_at
    (writes_as (λ y. part.Save (record { place = y.0; names = y.1.0; «end» = y.1.1 }))
    (writes_and (writes_word word.Save x.place ts i.0 i.1) (writes_and (writes_names (Part 40) refl x.names i.0 i.2.0 i.2.1) (writes_end x.«end» i.2.0 us i.2.2)))) (λ n cs. refl)

-- ---- points

writes_direction : (out : Bool) (place : Place) (ts us : List Spanned) → IsDirection out place ts us → Writes SDL (Part 106 ∷ []) (λ n. direction_at) (place, out) ts us
unfolding direction_at
writes_direction false place ts us i = by_rule 106 (Part 106) refl 0 refl (λ n. direction_at) (writes_as (λ p. (p, false)) (writes_word word.In place ts us i)) (λ n cs. refl)
writes_direction true place ts us i = by_rule 106 (Part 106) refl 1 refl (λ n. direction_at) (writes_as (λ p. (p, true)) (writes_word word.Out place ts us i)) (λ n cs. refl)

writes_points : Each 105 (λ n. points_at) IsPoints
unfolding points_at
writes_points p ts us i =
    let open_ = i.2 in let names = open_.2 in let close = names.2 in
    by_rule 105 (Part 105) refl 0 refl (λ n. points_at)
    (writes_as (λ x. record { place = x.0.0; out = x.0.1; names = x.1.1.0; «end» = x.1.1.1.1 })
    (writes_and (writes_direction p.out p.place ts i.0 i.1)
    (writes_and (writes_mark mark.LeftParenthesis open_.1.0 i.0 open_.0 open_.1.1)
    (writes_and (writes_names (Part 40) refl p.names open_.0 names.0 names.1)
    (writes_and (writes_mark mark.RightParenthesis close.1.0 names.0 close.0 close.1.1) (writes_end p.«end» close.0 us close.2)))))) (λ n cs. refl)

-- ---- what stands behind the header of a state

abbrev Headed : HeaderText → Text
Headed h = IsHeader h.place h.name h.«end»

writes_state_body : (place : Place) (l : ListTree) (e : EndTree) (parts : List PartTree) (closing : ClosingTree) (ts us : List Spanned) → (each IsStatePart parts ▸ IsClosed word.Endstate closing) ts us
    → Writes SDL (Part 111 ∷ []) (λ n. state_body_at n place l e) (record { place = place; list = l; «end» = e; parts = parts; closing = closing }) ts us
unfolding state_body_at
writes_state_body place l e parts closing ts us i =
    by_rule 111 (Part 111) refl 0 refl (λ n. state_body_at n place l e)
    (writes_as (λ x. record { place = place; list = l; «end» = e; parts = x.0; closing = x.1 })
    (writes_and (writes_all IsStatePart writes_part parts ts i.0 i.1) (writes_closing word.Endstate closing i.0 us i.2))) (λ n cs. refl)

writes_header : Each 115 (λ n. header_at) Headed
unfolding header_at
writes_header h ts us i =
    by_rule 115 (Part 115) refl 0 refl (λ n. header_at)
    (writes_as (λ x. record { place = x.0; name = x.1.0; «end» = x.1.1 })
    (writes_and (writes_word word.State h.place ts i.0 i.1) (writes_and (writes_name h.name i.0 i.2.0 i.2.1) (writes_end h.«end» i.2.0 us i.2.2)))) (λ n cs. refl)

-- the header of a state that names a partition, and the state of a header
abbrev header_of : EmptyStateTree → HeaderText
header_of s = record { place = s.place; name = s.name; «end» = s.«end» }

writes_empty : (s : EmptyStateTree) (ts us : List Spanned) → IsClosed word.Endstate s.closing ts us → Writes SDL (Part 117 ∷ []) (λ n. empty_at (header_of s)) s ts us
unfolding empty_at
writes_empty s ts us i =
    by_rule 117 (Part 117) refl 0 refl (λ n. empty_at (header_of s))
    (writes_as (λ c. record { place = s.place; name = s.name; «end» = s.«end»; closing = c }) (writes_closing word.Endstate s.closing ts us i)) (λ n cs. refl)

-- ---- what stands in an aggregation beside composite states

abbrev PlainRead : AggregationPart → Text
PlainRead p ts us = Writes SDL (Part 114 ∷ []) plain_at p ts us

plain_dcl : (d : DclTree) (ts us : List Spanned) → IsDcl d ts us → PlainRead (other.Dcl d) ts us
unfolding plain_at
plain_dcl d ts us i = by_rule 114 (Part 114) refl 0 refl plain_at (writes_as other.Dcl (writes_dcl d ts us i)) (λ n cs. refl)

plain_timer : (t : TimerTree) (ts us : List Spanned) → IsTimer t ts us → PlainRead (other.Timer t) ts us
unfolding plain_at
plain_timer t ts us i = by_rule 114 (Part 114) refl 1 refl plain_at (writes_as other.Timer (writes_timer t ts us i)) (λ n cs. refl)

plain_procedure : (p : ProcedureTree) (ts us : List Spanned) → IsProcedure p ts us → PlainRead (other.Procedure p) ts us
unfolding plain_at
plain_procedure p ts us i = by_rule 114 (Part 114) refl 2 refl plain_at (writes_as other.Procedure (writes_procedure p ts us i)) (λ n cs. refl)

-- a state that names a partition, behind its header, and what stands behind it up to the next header
again_read : (before : List AggregationPart) (s : EmptyStateTree) (plains : List AggregationPart) (h : HeaderText) (ts us vs ws : List Spanned) → IsClosed word.Endstate s.closing ts us → each PlainRead plains us vs → Headed h vs ws
    → Writes SDL (Part 116 ∷ []) (λ n. again_at n (before, header_of s)) ((before ++ other.Empty s ∷ []) ++ plains, h) ts ws
unfolding again_at
again_read before s plains h ts us vs ws c r i =
    by_rule 116 (Part 116) refl 0 refl (λ n. again_at n (before, header_of s))
    (writes_as (λ y. y.1)
    (writes_then (λ n e. then_take (more_of (plain_at n) (before ++ other.Empty e ∷ [])) (λ ps. header_at)) (writes_empty s ts us c)
    (writes_and (writes_onto (writes_each PlainRead (λ p xs ys w. w) (before ++ other.Empty s ∷ []) plains us vs r)) (writes_header h vs ws i)))) (λ n cs. refl)

abbrev Agains : SoFar → SoFar → Text
Agains x z ts us = WritesTurns SDL 116 (λ n. again_at n) x z ts us

-- these parts, with the header of the composite state that comes next, as the table takes them apart: declarations first, and then a
-- header each
record Arranged (xs : List AggregationPart) (h : HeaderText) (ts us : List Spanned) : Type 0 where
  plains : List AggregationPart
  first : HeaderText
  mid : List Spanned
  start : List Spanned
  read : each PlainRead plains ts mid
  headed : Headed first mid start
  agains : (before : List AggregationPart) → Agains (before ++ plains, first) (before ++ xs, h) start us

none_arranged : (h : HeaderText) (ts us : List Spanned) → Headed h ts us → Arranged [] h ts us
none_arranged h ts us i = record { plains = []; first = h; mid = ts; start = us; read = refl; headed = i; agains = λ before. no_turn (before ++ [], h) us us refl }

plain_arranged : (p : AggregationPart) (xs : List AggregationPart) (h : HeaderText) (ts us vs : List Spanned) → PlainRead p ts us → Arranged xs h us vs → Arranged (p ∷ xs) h ts vs
plain_arranged p xs h ts us vs r a = record {
  plains = p ∷ a.plains;
  first = a.first;
  mid = a.mid;
  start = a.start;
  read = (us, r, a.read);
  headed = a.headed;
  agains = λ before.
      subst (λ (z : List AggregationPart). Agains (z, a.first) (before ++ p ∷ xs, h) a.start vs) (append_assoc before (p ∷ []) a.plains)
      (subst (λ (z : List AggregationPart). Agains ((before ++ p ∷ []) ++ a.plains, a.first) (z, h) a.start vs) (append_assoc before (p ∷ []) xs) (a.agains (before ++ p ∷ [])));
}

state_arranged : (s : EmptyStateTree) (xs : List AggregationPart) (h : HeaderText) (ts us vs : List Spanned) → IsEmptyState s ts us → Arranged xs h us vs → Arranged (other.Empty s ∷ xs) h ts vs
state_arranged s xs h ts us vs i a = record {
  plains = [];
  first = header_of s;
  mid = ts;
  start = i.0;
  read = refl;
  headed = i.1;
  agains = λ before.
      subst (λ (z : List AggregationPart). Agains (before ++ [], header_of s) (z, h) i.0 vs) (append_assoc (before ++ []) (other.Empty s ∷ []) xs ∙ ap (λ (z : List AggregationPart). z ++ other.Empty s ∷ xs) (append-nil before))
      (one_turn (again_read (before ++ []) s a.plains a.first i.0 us a.mid a.start i.2 a.read a.headed) (a.agains ((before ++ []) ++ other.Empty s ∷ [])));
}

other_arranged : {p : AggregationPart} (xs : List AggregationPart) (h : HeaderText) {ts us : List Spanned} (vs : List Spanned) → IsOther p ts us → Arranged xs h us vs → Arranged (p ∷ xs) h ts vs
other_arranged xs h vs (other_dcl d i) a = plain_arranged (other.Dcl d) xs h _ _ vs (plain_dcl d _ _ i) a
other_arranged xs h vs (other_timer t i) a = plain_arranged (other.Timer t) xs h _ _ vs (plain_timer t _ _ i) a
other_arranged xs h vs (other_procedure p i) a = plain_arranged (other.Procedure p) xs h _ _ vs (plain_procedure p _ _ i) a
other_arranged xs h vs (other_state s i) a = state_arranged s xs h _ _ vs i a

-- ---- composite states

abbrev InnerRead : InnerTree → Text
InnerRead i ts us = Writes SDL (Part 107 ∷ []) inner_at i ts us

abbrev CompositeRead : HeaderText → CompositeTree → Text
CompositeRead h c ts us = Writes SDL (Part 112 ∷ []) (λ n. composite_body_at (inner_at n) h) c ts us

composite_read : (h : HeaderText) (points : List PointsTree) (parts : List InnerTree) (closing : ClosingTree) (ts us vs ws : List Spanned) → IsOpening points ts us → each InnerRead parts us vs → IsClosed word.Endsubstructure closing vs ws
    → CompositeRead h (record { place = h.place; name = h.name; «end» = h.«end»; points = points; parts = parts; closing = closing }) ts ws
unfolding composite_body_at
composite_read h points parts closing ts us vs ws o r c =
    by_rule 112 (Part 112) refl 0 refl (λ n. composite_body_at (inner_at n) h)
    (writes_as (λ x. record { place = h.place; name = h.name; «end» = h.«end»; points = x.1.0; parts = x.1.1.0; closing = x.1.1.1 })
    (writes_and (writes_word word.Substructure o.1.0 ts o.0 o.1.1)
    (writes_and (writes_all IsPoints writes_points points o.0 us o.2)
    (writes_and (writes_all InnerRead (λ i xs ys w. w) parts us vs r) (writes_closing word.Endsubstructure closing vs ws c))))) (λ n cs. refl)

-- a composite state, behind its header
record Composed (c : CompositeTree) (ts us : List Spanned) : Type 0 where
  header : HeaderText
  mid : List Spanned
  headed : Headed header ts mid
  read : CompositeRead header c mid us

composed : (place : Place) (name : Name) (e : EndTree) (points : List PointsTree) (parts : List InnerTree) (closing : ClosingTree) (ts us vs ws rest : List Spanned) → IsHeader place name e ts us → IsOpening points us vs
    → each InnerRead parts vs ws → IsClosed word.Endsubstructure closing ws rest → Composed (record { place = place; name = name; «end» = e; points = points; parts = parts; closing = closing }) ts rest
composed place name e points parts closing ts us vs ws rest i o r c = record {
  header = record { place = place; name = name; «end» = e };
  mid = us;
  headed = i;
  read = composite_read (record { place = place; name = name; «end» = e }) points parts closing us vs ws rest o r c;
}

-- ---- partitions

abbrev PartitionRead : AggregationPart → Text
PartitionRead p ts us = Writes SDL (Part 118 ∷ []) (λ n. partition_at n (inner_at n)) p ts us

plain_partition : (p : AggregationPart) (ts us : List Spanned) → PlainRead p ts us → PartitionRead p ts us
unfolding partition_at
plain_partition p ts us r = by_rule 118 (Part 118) refl 0 refl (λ n. partition_at n (inner_at n)) r (λ n cs. refl)

state_partition : (h : HeaderText) (p : AggregationPart) (ts us vs : List Spanned) → Headed h ts us → Writes SDL (Part 119 ∷ []) (λ n. one_state_at (inner_at n) h) p us vs → PartitionRead p ts vs
unfolding partition_at
state_partition h p ts us vs i w =
    by_rule 118 (Part 118) refl 1 refl (λ n. partition_at n (inner_at n)) (writes_as (λ x. x.1) (writes_then (λ n k. one_state_at (inner_at n) k) (writes_header h ts us i) w)) (λ n cs. refl)

empty_partition : (s : EmptyStateTree) (ts us : List Spanned) → IsEmptyState s ts us → PartitionRead (other.Empty s) ts us
unfolding one_state_at
empty_partition s ts us i =
    state_partition (header_of s) (other.Empty s) ts i.0 us i.1
    (by_rule 119 (Part 119) refl 1 refl (λ n. one_state_at (inner_at n) (header_of s)) (writes_as other.Empty (writes_empty s i.0 us i.2)) (λ n cs. refl))

composed_partition : (c : CompositeTree) (ts us : List Spanned) → Composed c ts us → PartitionRead (other.Composite c) ts us
unfolding one_state_at
composed_partition c ts us r =
    state_partition r.header (other.Composite c) ts r.mid us r.headed
    (by_rule 119 (Part 119) refl 0 refl (λ n. one_state_at (inner_at n) r.header) (writes_as other.Composite r.read) (λ n cs. refl))

other_read : {p : AggregationPart} {ts us : List Spanned} → IsOther p ts us → PartitionRead p ts us
other_read (other_dcl d i) = plain_partition (other.Dcl d) _ _ (plain_dcl d _ _ i)
other_read (other_timer t i) = plain_partition (other.Timer t) _ _ (plain_timer t _ _ i)
other_read (other_procedure p i) = plain_partition (other.Procedure p) _ _ (plain_procedure p _ _ i)
other_read (other_state s i) = empty_partition s _ _ i

-- ---- aggregations

-- the parts of an aggregation: others, a composite state, and any
record Aggregated (parts : List AggregationPart) (ts us : List Spanned) : Type 0 where
  before : List AggregationPart
  first : CompositeTree
  later : List AggregationPart
  header : HeaderText
  mid : List Spanned
  last : List Spanned
  is : parts ≡ (before ++ other.Composite first ∷ []) ++ later
  arranged : Arranged before header ts mid
  read : CompositeRead header first mid last
  others : each PartitionRead later last us

more_aggregated : {p : AggregationPart} {ps : List AggregationPart} {ts us vs : List Spanned} → IsOther p ts us → Aggregated ps us vs → Aggregated (p ∷ ps) ts vs
more_aggregated {p = p} i a = record {
  before = p ∷ a.before;
  first = a.first;
  later = a.later;
  header = a.header;
  mid = a.mid;
  last = a.last;
  is = ap (λ (z : List AggregationPart). p ∷ z) a.is;
  arranged = other_arranged a.before a.header a.mid i a.arranged;
  read = a.read;
  others = a.others;
}

first_aggregated : (c : CompositeTree) (ps : List AggregationPart) (ts us vs : List Spanned) → Composed c ts us → each PartitionRead ps us vs → Aggregated (other.Composite c ∷ ps) ts vs
first_aggregated c ps ts us vs r others = record {
  before = [];
  first = c;
  later = ps;
  header = r.header;
  mid = r.mid;
  last = us;
  is = refl;
  arranged = none_arranged r.header ts r.mid r.headed;
  read = r.read;
  others = others;
}

-- what is read in an aggregation, one thing behind the other
the_closing : Take ClosingTree
the_closing rest = closing_at (place_in rest) (behind rest)

abbrev behind_composite : ℕ → SoFar → CompositeTree → Take (List AggregationPart × ClosingTree)
behind_composite n x c = then_take (more_of (partition_at n (inner_at n)) (x.0 ++ other.Composite c ∷ [])) (λ ps. the_closing)

abbrev behind_agains : ℕ → SoFar → Take (CompositeTree × (List AggregationPart × ClosingTree))
behind_agains n x = then_take (composite_body_at (inner_at n) x.1) (behind_composite n x)

abbrev behind_header : ℕ → List AggregationPart → HeaderText → Take (SoFar × (CompositeTree × (List AggregationPart × ClosingTree)))
behind_header n os h = then_take (onto (again_at n) (os, h)) (behind_agains n)

abbrev behind_plains : ℕ → List AggregationPart → Take (HeaderText × (SoFar × (CompositeTree × (List AggregationPart × ClosingTree))))
behind_plains n os = then_take header_at (behind_header n os)

aggregation_read : (h : HeaderText) (points : List PointsTree) (parts : List AggregationPart) (closing : ClosingTree) (ts us vs ws : List Spanned) → IsOpening points ts us → Aggregated parts us vs
    → IsClosed word.Endsubstructure closing vs ws
    → Writes SDL (Part 113 ∷ []) (λ n. aggregation_body_at n (inner_at n) h) (record { place = h.place; name = h.name; «end» = h.«end»; points = points; parts = parts; closing = closing }) ts ws
unfolding aggregation_body_at aggregated_at begun_at first_composite_at the_closing
aggregation_read h points parts closing ts us vs ws o a c =
    let r = a.arranged in
    subst (λ (z : List AggregationPart). Writes SDL (Part 113 ∷ []) (λ n. aggregation_body_at n (inner_at n) h) (record { place = h.place; name = h.name; «end» = h.«end»; points = points; parts = z; closing = closing }) ts ws) (sym a.is)
    (by_rule 113 (Part 113) refl 0 refl (λ n. aggregation_body_at n (inner_at n) h)
    (writes_as (λ x. record { place = h.place; name = h.name; «end» = h.«end»; points = x.1.0; parts = x.1.1.1.1.1.1.0; closing = x.1.1.1.1.1.1.1 })
    (writes_and (writes_word word.Substructure o.1.0 ts o.0 o.1.1)
    (writes_and (writes_all IsPoints writes_points points o.0 us o.2)
    (writes_then behind_plains (writes_all PlainRead (λ p xs ys w. w) r.plains us r.mid r.read)
    (writes_then (λ n k. behind_header n r.plains k) (writes_header r.first r.mid r.start r.headed)
    (writes_then behind_agains (writes_onto (r.agains []))
    (writes_then (λ n k. behind_composite n (a.before, a.header) k) a.read
    (writes_and (writes_onto (writes_each PartitionRead (λ p xs ys w. w) (a.before ++ other.Composite a.first ∷ []) a.later a.last vs a.others)) (writes_closing word.Endsubstructure closing vs ws c))))))))) (λ n cs. refl))

-- ---- what stands in a process or in a state

dcl_inner : (d : DclTree) (ts us : List Spanned) → IsDcl d ts us → InnerRead (Dcl d) ts us
unfolding inner_at inner_by
dcl_inner d ts us i = writes_deeper 107 (Part 107) refl 0 _ refl inner_at (writes_as Dcl (writes_dcl d ts us i)) (λ n cs. refl)

timer_inner : (t : TimerTree) (ts us : List Spanned) → IsTimer t ts us → InnerRead (Timer t) ts us
unfolding inner_at inner_by
timer_inner t ts us i = writes_deeper 107 (Part 107) refl 1 _ refl inner_at (writes_as Timer (writes_timer t ts us i)) (λ n cs. refl)

procedure_inner : (p : ProcedureTree) (ts us : List Spanned) → IsProcedure p ts us → InnerRead (Procedure p) ts us
unfolding inner_at inner_by
procedure_inner p ts us i = writes_deeper 107 (Part 107) refl 2 _ refl inner_at (writes_as Procedure (writes_procedure p ts us i)) (λ n cs. refl)

start_inner : (s : StartTree) (ts us : List Spanned) → IsStart s ts us → InnerRead (Start s) ts us
unfolding inner_at inner_by
start_inner s ts us i = writes_deeper 107 (Part 107) refl 3 _ refl inner_at (writes_as Start (writes_start s ts us i)) (λ n cs. refl)

connection_inner : (c : ConnectionTree) (ts us : List Spanned) → IsConnection c ts us → InnerRead (Connection c) ts us
unfolding inner_at inner_by
connection_inner c ts us i = writes_deeper 107 (Part 107) refl 5 _ refl inner_at (writes_as Connection (writes_connection c ts us i)) (λ n cs. refl)

-- behind the STATE at this place
abbrev StateRead : Place → InnerTree → Text
StateRead place i ts us = Writes SDL (Part 108 ∷ []) (λ n. state_at n (inner_at n) place) i ts us

state_inner : (place : Place) (i : InnerTree) (ts us vs : List Spanned) → Reserved word.State place ts us → StateRead place i us vs → InnerRead i ts vs
unfolding inner_at inner_by
state_inner place i ts us vs r w =
    writes_deeper 107 (Part 107) refl 4 _ refl inner_at (writes_as (λ x. x.1) (writes_then (λ n p. state_at n (inner_at n) p) (writes_word word.State place ts us r) w)) (λ n cs. refl)

-- behind the first name of a state
named_state : (place : Place) (name : Name) (i : InnerTree) (ts us vs : List Spanned) → Named name ts us → Writes SDL (Part 109 ∷ []) (λ n. after_state_name_at n (inner_at n) place name) i us vs → StateRead place i ts vs
unfolding state_at
named_state place name i ts us vs named w =
    by_rule 108 (Part 108) refl 2 refl (λ n. state_at n (inner_at n) place)
    (writes_as (λ x. x.1) (writes_then (λ n m. after_state_name_at n (inner_at n) place m) (writes_name name ts us named) w)) (λ n cs. refl)

-- behind the header of a state
headed_state : (h : HeaderText) (i : InnerTree) (ts us vs : List Spanned) → Headed h ts us → Writes SDL (Part 110 ∷ []) (λ n. after_one_at n (inner_at n) h) i us vs → InnerRead i ts vs
unfolding after_state_name_at
headed_state h i ts us vs q w =
    state_inner h.place i ts q.0 vs q.1
    (named_state h.place h.name i q.0 q.2.0 vs q.2.1
    (by_rule 109 (Part 109) refl 1 refl (λ n. after_state_name_at n (inner_at n) h.place h.name)
    (writes_as (λ x. x.1) (writes_then (λ n e. after_one_at n (inner_at n) (record { place = h.place; name = h.name; «end» = e })) (writes_end h.«end» q.2.0 us q.2.2) w)) (λ n cs. refl)))

composite_inner : (c : CompositeTree) (ts us : List Spanned) → Composed c ts us → InnerRead (Composite c) ts us
unfolding after_one_at
composite_inner c ts us r =
    headed_state r.header (Composite c) ts r.mid us r.headed
    (by_rule 110 (Part 110) refl 0 refl (λ n. after_one_at n (inner_at n) r.header) (writes_as Composite r.read) (λ n cs. refl))

aggregation_inner : (place : Place) (name : Name) (e : EndTree) (points : List PointsTree) (parts : List AggregationPart) (closing : ClosingTree) (ts us vs ws rest : List Spanned) → IsAggregationHeader place name e ts us
    → IsOpening points us vs → Aggregated parts vs ws → IsClosed word.Endsubstructure closing ws rest
    → InnerRead (Aggregation (record { place = place; name = name; «end» = e; points = points; parts = parts; closing = closing })) ts rest
unfolding state_at aggregation_at
aggregation_inner place name e points parts closing ts us vs ws rest i o a c =
    let h = i.2 in let named = h.2 in
    state_inner place _ ts i.0 rest i.1
    (by_rule 108 (Part 108) refl 0 refl (λ n. state_at n (inner_at n) place)
    (writes_as (λ x. Aggregation x.1.1.1)
    (writes_and (writes_word word.Aggregation h.1.0 i.0 h.0 h.1.1)
    (writes_then (λ n m. then_take end_at (λ k. aggregation_body_at n (inner_at n) (record { place = place; name = m; «end» = k }))) (writes_name name h.0 named.0 named.1)
    (writes_then (λ n k. aggregation_body_at n (inner_at n) (record { place = place; name = name; «end» = k })) (writes_end e named.0 us named.2)
    (aggregation_read (record { place = place; name = name; «end» = e }) points parts closing us vs ws rest o a c))))) (λ n cs. refl))

-- ---- basic states

abbrev Body : List PartTree → ClosingTree → Text
Body parts closing = each IsStatePart parts ▸ IsClosed word.Endstate closing

next_name : (name : Name) (ts us : List Spanned) → (Passed mark.Comma ▸ Named name) ts us → Writes SDL (Part 41 ∷ []) (λ n. next name_at) name ts us
next_name name ts us i = writes_next mark.Comma 40 41 refl refl writes_name writes_name name ts us i

one_name : (place : Place) (name : Name) (e : EndTree) (parts : List PartTree) (closing : ClosingTree) (ts us vs : List Spanned) → IsHeader place name e ts us → Body parts closing us vs
    → InnerRead (State (record { place = place; list = list.Names (name ∷ []); «end» = e; parts = parts; closing = closing })) ts vs
unfolding after_one_at
one_name place name e parts closing ts us vs q b =
    headed_state (record { place = place; name = name; «end» = e }) _ ts us vs q
    (by_rule 110 (Part 110) refl 1 refl (λ n. after_one_at n (inner_at n) (record { place = place; name = name; «end» = e }))
    (writes_as State (writes_state_body place (list.Names (name ∷ [])) e parts closing us vs b)) (λ n cs. refl))

-- what stands behind the names, and behind the second
abbrev behind_names : ℕ → Place → List Name → Take (EndTree × StateTree)
behind_names n place names = then_take end_at (λ e. state_body_at n place (list.Names names) e)

abbrev behind_second : ℕ → Place → Name → Name → Take (List Name × (EndTree × StateTree))
behind_second n place name second = then_take (more_of (next name_at) (name ∷ second ∷ [])) (λ names. behind_names n place names)

several_names : (place : Place) (name second : Name) (more : List Name) (e : EndTree) (parts : List PartTree) (closing : ClosingTree) (ts us vs ws : List Spanned) → Reserved word.State place ts us
    → AreNames (name ∷ second ∷ more) us vs → (IsEnd e ▸ Body parts closing) vs ws
    → InnerRead (State (record { place = place; list = list.Names (name ∷ second ∷ more); «end» = e; parts = parts; closing = closing })) ts ws
unfolding after_state_name_at several_at
several_names place name second more e parts closing ts us vs ws r i b =
    let others = i.2 in
    state_inner place _ ts us ws r
    (named_state place name _ us i.0 ws i.1
    (by_rule 109 (Part 109) refl 0 refl (λ n. after_state_name_at n (inner_at n) place name)
    (writes_as (λ x. State x.1.1.1)
    (writes_then (λ n s. behind_second n place name s) (next_name second i.0 others.0 others.1)
    (writes_then (λ n names. behind_names n place names) (writes_onto (writes_each (λ y. Passed mark.Comma ▸ Named y) next_name (name ∷ second ∷ []) more others.0 vs others.2))
    (writes_then (λ n k. state_body_at n place (list.Names (name ∷ second ∷ more)) k) (writes_end e vs b.0 b.1) (writes_state_body place (list.Names (name ∷ second ∷ more)) e parts closing b.0 ws b.2))))) (λ n cs. refl)))

all_states : (place star : Place) (names : List Name) (e : EndTree) (parts : List PartTree) (closing : ClosingTree) (ts us vs ws : List Spanned) → Reserved word.State place ts us
    → (Sign mark.Asterisk star ▸ in_brackets Named names) us vs → (IsEnd e ▸ Body parts closing) vs ws
    → InnerRead (State (record { place = place; list = list.All star names; «end» = e; parts = parts; closing = closing })) ts ws
unfolding state_at all_states_at
all_states place star names e parts closing ts us vs ws r i b =
    state_inner place _ ts us ws r
    (by_rule 108 (Part 108) refl 1 refl (λ n. state_at n (inner_at n) place)
    (writes_as (λ x. State x.1.1.1)
    (writes_then (λ n p. then_take (list_in_brackets name_at) (λ ns. then_take end_at (λ k. state_body_at n place (list.All p ns) k))) (writes_mark mark.Asterisk star us i.0 i.1)
    (writes_then (λ n ns. then_take end_at (λ k. state_body_at n place (list.All star ns) k)) (bracketed_names names i.0 vs i.2)
    (writes_then (λ n k. state_body_at n place (list.All star names) k) (writes_end e vs b.0 b.1) (writes_state_body place (list.All star names) e parts closing b.0 ws b.2))))) (λ n cs. refl))

basic_inner : (place : Place) (l : ListTree) (e : EndTree) (parts : List PartTree) (closing : ClosingTree) (ts us vs ws : List Spanned) → Reserved word.State place ts us → IsList l us vs → (IsEnd e ▸ Body parts closing) vs ws
    → InnerRead (State (record { place = place; list = l; «end» = e; parts = parts; closing = closing })) ts ws
basic_inner place (list.Names []) e parts closing ts us vs ws r i b = absurd i
basic_inner place (list.Names (name ∷ [])) e parts closing ts us vs ws r i b =
    one_name place name e parts closing ts b.0 ws (us, r, (vs, subst (λ (z : List Spanned). Named name us z) i.2 i.1, b.1)) b.2
basic_inner place (list.Names (name ∷ second ∷ more)) e parts closing ts us vs ws r i b = several_names place name second more e parts closing ts us vs ws r i b
basic_inner place (list.All star names) e parts closing ts us vs ws r i b = all_states place star names e parts closing ts us vs ws r i b

-- ---- the relations, each by the others

mutual
  inner_by_relation : {i : InnerTree} {ts us : List Spanned} → IsInner i ts us → InnerRead i ts us
  inner_by_relation (a_dcl d i) = dcl_inner d _ _ i
  inner_by_relation (a_timer t i) = timer_inner t _ _ i
  inner_by_relation (a_procedure p i) = procedure_inner p _ _ i
  inner_by_relation (a_start s i) = start_inner s _ _ i
  inner_by_relation (a_state s i) = basic_inner s.place s.list s.«end» s.parts s.closing _ i.0 i.2.0 _ i.1 i.2.1 i.2.2
  inner_by_relation (a_composite c i) = composite_inner c _ _ (composite_by i)
  inner_by_relation (an_aggregation a i) = aggregation_by i
  inner_by_relation (a_connection c i) = connection_inner c _ _ i

  inners_by : {is : List InnerTree} {ts us : List Spanned} → AreInners is ts us → each InnerRead is ts us
  inners_by no_inner_part = refl
  inners_by (more_inner_parts i others) = (_, inner_by_relation i, inners_by others)

  composite_by : {c : CompositeTree} {ts us : List Spanned} → IsComposite c ts us → Composed c ts us
  composite_by (composite place name e points parts closing q o i c) = composed place name e points parts closing _ _ _ _ _ q o (inners_by i) c

  aggregation_by : {a : AggregationTree} {ts us : List Spanned} → IsAggregation a ts us → InnerRead (Aggregation a) ts us
  aggregation_by (aggregation place name e points parts closing q o i c) = aggregation_inner place name e points parts closing _ _ _ _ _ q o (aggregated_by i) c

  aggregated_by : {ps : List AggregationPart} {ts us : List Spanned} → AreAggregated ps ts us → Aggregated ps ts us
  aggregated_by (another i others) = more_aggregated i (aggregated_by others)
  aggregated_by (first_composite c i others) = first_aggregated c _ _ _ _ (composite_by i) (partitions_by others)

  partitions_by : {ps : List AggregationPart} {ts us : List Spanned} → ArePartitions ps ts us → each PartitionRead ps ts us
  partitions_by no_partition = refl
  partitions_by (more_partitions i others) = (_, partition_by i, partitions_by others)

  partition_by : {p : AggregationPart} {ts us : List Spanned} → IsPartition p ts us → PartitionRead p ts us
  partition_by (other_partition i) = other_read i
  partition_by (composite_partition c i) = composed_partition c _ _ (composite_by i)

-- each thing in a process or in a state is read as what it is
pub writes_inner : Each 107 inner_at IsInner
writes_inner i ts us w = inner_by_relation w
