-- What is read as a state, a composite state or an aggregation is one.
use Rattle.std.proofs.Common.{◌≡◌, ℕ, zero, suc, Bool, true, false, List, [], ◌∷◌, ◌++◌, Option, Some, None, refl, sym, ap, subst, ◌∙◌, append_assoc}
use Rattle.og_grammar.specs.declared.Nesting.TheVariants.{Keeps}
use Rattle.og_grammar.specs.declared.Symbol.{Symbol}
use Rattle.og_grammar.specs.declared.Symbol.TheVariants.{Token, Part, Scope, Maybe, Many, NotBefore}
use Rattle.og_base.specs.declared.Place.{Place}
use Rattle.og_lexer.specs.declared.Keyword.{Keyword}
use Rattle.og_lexer.specs.declared.Keyword.TheVariants as word
use Rattle.og_lexer.specs.declared.Mark.TheVariants as mark
use Rattle.og_lexer.specs.declared.Spanned.{Spanned}
use Rattle.og_lexer.specs.declared.Token.TheVariants as token
use Rattle.og_ast.specs.declared.ground.Name.{Name}
use Rattle.og_ast.specs.declared.ground.EndTree.{EndTree}
use Rattle.og_ast.specs.declared.ground.ClosingTree.{ClosingTree}
use Rattle.og_ast.specs.declared.expression.ExprTree.{ExprTree}
use Rattle.og_ast.specs.declared.data.DclTree.{DclTree}
use Rattle.og_ast.specs.declared.data.TimerTree.{TimerTree}
use Rattle.og_ast.specs.declared.procedure.ProcedureTree.{ProcedureTree}
use Rattle.og_ast.specs.declared.procedure.ConnectionTree.{ConnectionTree}
use Rattle.og_ast.specs.declared.state.InnerTree.{InnerTree, Dcl, Timer, Procedure, Start, State, Composite, Aggregation, Connection}
use Rattle.og_ast.specs.declared.state.StartTree.{StartTree}
use Rattle.og_ast.specs.declared.state.StateTree.{StateTree}
use Rattle.og_ast.specs.declared.state.ListTree.{ListTree}
use Rattle.og_ast.specs.declared.state.ListTree.TheVariants as list
use Rattle.og_ast.specs.declared.state.PartTree.{PartTree}
use Rattle.og_ast.specs.declared.state.PartTree.TheVariants as part
use Rattle.og_ast.specs.declared.state.EnablingTree.{EnablingTree}
use Rattle.og_ast.specs.declared.state.CompositeTree.{CompositeTree}
use Rattle.og_ast.specs.declared.state.PointsTree.{PointsTree}
use Rattle.og_ast.specs.declared.state.AggregationTree.{AggregationTree}
use Rattle.og_ast.specs.declared.state.AggregationPart.{AggregationPart}
use Rattle.og_ast.specs.declared.state.AggregationPart as other
use Rattle.og_ast.specs.declared.state.EmptyStateTree.{EmptyStateTree}
use Rattle.og_sdl.specs.declared.table.TheConstants.{SDL}
use Rattle.og_reading.specs.Kinds.{kind_of_keyword, kinds_of}
use Rattle.og_reading.specs.Reading.{Rest, Take, behind, after, place_in, name_in, maybe, onto, more_of, next, list_at, list_in_brackets, list_or_none}
use Rattle.og_reading.specs.Fronts.{Text, Reserved, Sign, Named, Word, Passed, nothing, ◌▸◌, optional, each, separated_by, separated, perhaps_separated, in_brackets, IsNotBefore}
use Rattle.og_reading.proofs.ReadParts.{Reads, rule, Grown, reads_word, reads_mark, reads_name, reads_number, reads_then, reads_as, reads_not, reads_nothing, reads_part, reads_deeper, reads_none, reads_maybe, reads_onto, reads_more, reads_all}
use Rattle.og_reading.proofs.Lists.{reads_next, reads_each, reads_list, reads_in_brackets, reads_or_none, each_both}
use Rattle.og_parse_expr.specs.Reading.{expr_at}
use Rattle.og_parse_expr.specs.Grammar.{IsExpr}
use Rattle.og_parse_expr.proofs.ReadExpressions.{reads_expr, not_kind}
use Rattle.og_parse_body.specs.Reading.{name_at, end_at, own_name_at, closing_at, dcl_at, timer_at, transition_at, connection_at, procedure_at}
use Rattle.og_parse_body.specs.Grammar.{IsEnd, AreNames, IsClosing, IsDcl, IsTimer, IsTransition, IsConnection, IsProcedure}
use Rattle.og_parse_body.proofs.ReadBodies.{sdl_has, ends, name_lists, own_names, closings, dcls, timers, reads_transition, connections, procedures}
use Rattle.og_parse_state.specs.declared.state.HeaderText.{HeaderText}
use Rattle.og_parse_state.specs.Reading.{start_at, in_at, enabling_at, input_at, priority_at, provided_at, connect_at, save_at, part_at, direction_at, points_at, state_body_at, composite_body_at, plain_at, header_at, empty_at, SoFar, again_at, one_state_at, partition_at, begun_at, first_composite_at, aggregated_at, aggregation_body_at, after_one_at, several_at, after_state_name_at, aggregation_at, all_states_at, state_at, inner_by, inner_at}
use Rattle.og_parse_state.specs.Grammar.{IsClosed, IsStart, IsList, IsIn, IsEnabling, IsInput, IsPriority, IsProvided, IsConnect, IsSave, IsStatePart, IsState, IsDirection, IsPoints, IsHeader, IsAggregationHeader, IsOpening, IsEmptyState, IsOther, other_dcl, other_timer, other_procedure, other_state, IsInner, a_dcl, a_timer, a_procedure, a_start, a_state, a_composite, an_aggregation, a_connection, AreInners, no_inner_part, more_inner_parts, IsComposite, composite, IsAggregation, aggregation, AreAggregated, another, first_composite, ArePartitions, no_partition, more_partitions, IsPartition, other_partition, composite_partition}

-- these, and those that came behind them
grown_each : {X : Type 0} (Is : X → Text) (first xs : List X) (start ts us : List Spanned) → each Is first start ts → Grown Is first xs ts us → each Is xs start us
grown_each Is first xs start ts us e g = subst (λ (z : List _). each Is z start us) (sym g.1) (each_both Is first g.0 start ts us e g.2)

-- the header stands there
abbrev Headed : HeaderText → Text
Headed h = IsHeader h.place h.name h.«end»

module _ (n : ℕ) where
  exprs : Reads SDL n (Scope 1 ∷ []) (expr_at n) IsExpr
  exprs = reads_expr SDL sdl_has n (Scope 1) refl

  bracketed_names : Reads SDL n (Maybe 98 ∷ []) (list_in_brackets name_at) (in_brackets Named)
  bracketed_names = reads_in_brackets name_at 98 refl (name_lists n (Part 40) refl)

  -- ---- starts, and what triggers the transitions of a state

  starts : Reads SDL n (Part 97 ∷ []) (start_at n) IsStart
  unfolding start_at
  starts =
      reads_part 97 (Part 97) refl
      (rule (reads_as (λ x. record { place = x.0; name = x.1.0; «end» = x.1.1.0; transition = x.1.1.1 }) IsStart (λ x ts us b. b)
      (reads_then (reads_word word.Start) (λ p. reads_then (reads_maybe (own_names n)) (λ name. reads_then (ends n) (λ e. reads_transition n)))))) [] refl

  ins : Reads SDL n (Part 102 ∷ []) in_at IsIn
  unfolding in_at
  ins = reads_part 102 (Part 102) refl (rule (reads_as (λ x. record { signal = x.0; variables = x.1 }) IsIn (λ x ts us b. b) (reads_then reads_name (λ name. bracketed_names)))) [] refl

  enablings : Reads SDL n (Part 103 ∷ []) (enabling_at n) IsEnabling
  unfolding enabling_at
  enablings =
      reads_part 103 (Part 103) refl
      (rule (reads_as (λ x. Some (record { place = x.0; condition = x.1.0; «end» = x.1.1 })) IsEnabling (λ x ts us b. b) (reads_then (reads_word word.Provided) (λ p. reads_then exprs (λ c. ends n)))))
      (rule (reads_as {B = Option EnablingTree} (λ (x : Unit {0}). None) IsEnabling (λ x ts us b. (b.1, not_kind (token.Keyword word.Provided) ts b.0))
      (reads_not 62 (reads_nothing tt (λ (x : Unit {0}). nothing) (λ ts. refl)))) ∷ []) refl

  input_texts : Reads SDL n (Token (kind_of_keyword word.Input) Keeps ∷ Part 100 ∷ Part 38 ∷ Part 103 ∷ Part 85 ∷ []) (input_at n) IsInput
  unfolding input_at
  input_texts =
      reads_as (λ x. record { place = x.0; inputs = x.1.0; «end» = x.1.1.0; enabling = x.1.1.1.0; transition = x.1.1.1.1 }) IsInput (λ x ts us b. b)
      (reads_then (reads_word word.Input) (λ p. reads_then (reads_list mark.Comma 100 101 refl refl ins ins (Part 100) refl) (λ xs.
      (reads_then (ends n) (λ e. reads_then enablings (λ o. reads_transition n))))))

  priorities : Reads SDL n (Part 104 ∷ []) priority_at IsPriority
  unfolding priority_at
  priorities =
      reads_part 104 (Part 104) refl
      (rule (reads_as (λ x. record { place = x.0; number = x.1.0.0; «end» = x.1.1 }) IsPriority (λ x ts us b. (b.0, b.1, (b.2.0, (x.1.0.1, b.2.1), b.2.2)))
      (reads_then (reads_word word.Priority) (λ p. reads_then reads_number (λ m. ends n))))) [] refl

  provided_texts : Reads SDL n (Token (kind_of_keyword word.Provided) Keeps ∷ Scope 1 ∷ Part 38 ∷ Maybe 104 ∷ Part 85 ∷ []) (provided_at n) IsProvided
  unfolding provided_at
  provided_texts =
      reads_as (λ x. record { place = x.0; condition = x.1.0; «end» = x.1.1.0; priority = x.1.1.1.0; transition = x.1.1.1.1 }) IsProvided (λ x ts us b. b)
      (reads_then (reads_word word.Provided) (λ p. reads_then exprs (λ c. reads_then (ends n) (λ e. reads_then (reads_maybe priorities) (λ o. reads_transition n)))))

  connect_texts : Reads SDL n (Token (kind_of_keyword word.Connect) Keeps ∷ Maybe 40 ∷ Part 38 ∷ Part 85 ∷ []) (connect_at n) IsConnect
  unfolding connect_at
  connect_texts =
      reads_as (λ x. record { place = x.0; names = x.1.0; «end» = x.1.1.0; transition = x.1.1.1 }) IsConnect (λ x ts us b. b)
      (reads_then (reads_word word.Connect) (λ p. reads_then (reads_or_none name_at 40 (name_lists n (Part 40) refl)) (λ ns. reads_then (ends n) (λ e. reads_transition n))))

  save_texts : Reads SDL n (Token (kind_of_keyword word.Save) Keeps ∷ Part 40 ∷ Part 38 ∷ []) save_at IsSave
  unfolding save_at
  save_texts =
      reads_as (λ x. record { place = x.0; names = x.1.0; «end» = x.1.1 }) IsSave (λ x ts us b. b)
      (reads_then (reads_word word.Save) (λ p. reads_then (name_lists n (Part 40) refl) (λ ns. ends n)))

  parts : Reads SDL n (Part 99 ∷ []) (part_at n) IsStatePart
  unfolding part_at
  parts =
      reads_part 99 (Part 99) refl (rule (reads_as part.Input IsStatePart (λ x ts us i. i) input_texts))
      (rule (reads_as part.Provided IsStatePart (λ x ts us i. i) provided_texts) ∷ rule (reads_as part.Connect IsStatePart (λ x ts us i. i) connect_texts)
      ∷ rule (reads_as part.Save IsStatePart (λ x ts us i. i) save_texts) ∷ []) refl

  -- ---- points

  directions : Reads SDL n (Part 106 ∷ []) direction_at (λ x. IsDirection x.1 x.0)
  unfolding direction_at
  directions =
      reads_part 106 (Part 106) refl (rule (reads_as (λ p. (p, false)) (λ x. IsDirection x.1 x.0) (λ x ts us i. i) (reads_word word.In)))
      (rule (reads_as (λ p. (p, true)) (λ x. IsDirection x.1 x.0) (λ x ts us i. i) (reads_word word.Out)) ∷ []) refl

  all_points : Reads SDL n (Part 105 ∷ []) points_at IsPoints
  unfolding points_at
  all_points =
      reads_part 105 (Part 105) refl
      (rule (reads_as (λ x. record { place = x.0.0; out = x.0.1; names = x.1.1.0; «end» = x.1.1.1.1 }) IsPoints
      (λ x ts us b. (b.0, b.1, (b.2.0, (x.1.0, b.2.1), (b.2.2.0, b.2.2.1, (b.2.2.2.0, (x.1.1.1.0, b.2.2.2.1), b.2.2.2.2)))))
      (reads_then directions (λ d. reads_then (reads_mark mark.LeftParenthesis) (λ l. reads_then (name_lists n (Part 40) refl) (λ ns.
      (reads_then (reads_mark mark.RightParenthesis) (λ r. ends n)))))))) [] refl

  -- ---- what stands behind the header of a state

  state_bodies : (place : Place) (l : ListTree) (e : EndTree)
      → Reads SDL n (Part 111 ∷ []) (state_body_at n place l e) (λ s ts us. (start : List Spanned) → (Reserved word.State place ▸ IsList l ▸ IsEnd e) start ts → IsState s start us)
  unfolding state_body_at
  state_bodies place l e =
      reads_part 111 (Part 111) refl
      (rule (reads_as (λ x. record { place = place; list = l; «end» = e; parts = x.0; closing = x.1 }) _ (λ x ts us b start h. (h.0, h.1, (h.2.0, h.2.1, (ts, h.2.2, b))))
      (reads_then (reads_each parts) (λ ps. closings n word.Endstate)))) [] refl

  headers : Reads SDL n (Part 115 ∷ []) header_at Headed
  unfolding header_at
  headers =
      reads_part 115 (Part 115) refl
      (rule (reads_as (λ x. record { place = x.0; name = x.1.0; «end» = x.1.1 }) Headed (λ x ts us b. b) (reads_then (reads_word word.State) (λ p. reads_then reads_name (λ name. ends n))))) [] refl

  empties : (h : HeaderText) → Reads SDL n (Part 117 ∷ []) (empty_at h) (λ s ts us. (start : List Spanned) → Headed h start ts → IsEmptyState s start us)
  unfolding empty_at
  empties h =
      reads_part 117 (Part 117) refl
      (rule (reads_as (λ c. record { place = h.place; name = h.name; «end» = h.«end»; closing = c }) _ (λ c ts us b start i. (ts, i, b)) (closings n word.Endstate))) [] refl

  plains : Reads SDL n (Part 114 ∷ []) (plain_at n) IsOther
  unfolding plain_at
  plains =
      reads_part 114 (Part 114) refl (rule (reads_as other.Dcl IsOther (λ d ts us i. other_dcl d i) (dcls n)))
      (rule (reads_as other.Timer IsOther (λ t ts us i. other_timer t i) (timers n)) ∷ rule (reads_as other.Procedure IsOther (λ p ts us i. other_procedure p i) (procedures n)) ∷ []) refl

  -- ---- states that name partitions

  -- the parts so far, and the header behind them, cover these tokens
  abbrev Covers : List Spanned → SoFar → List Spanned → Type 0
  Covers start x ts = (mid : List Spanned) × each IsOther x.0 start mid × Headed x.1 mid ts

  covers_more : (start : List Spanned) (x : SoFar) (s : EmptyStateTree) (ps : List AggregationPart) (h : HeaderText) (ts us vs ws : List Spanned)
      → ((begin : List Spanned) → Headed x.1 begin ts → IsEmptyState s begin us) → Grown IsOther (x.0 ++ other.Empty s ∷ []) ps us vs → Headed h vs ws → Covers start x ts → Covers start (ps, h) ws
  covers_more start x s ps h ts us vs ws empty grown headed c =
      let state = each_both IsOther x.0 (other.Empty s ∷ []) start c.0 us c.1 (us, other_state s (empty c.0 c.2), refl) in
      (vs, grown_each IsOther (x.0 ++ other.Empty s ∷ []) ps start us vs state grown, headed)

  agains : (start : List Spanned) (x : SoFar) → Reads SDL n (Part 116 ∷ []) (again_at n x) (λ y ts us. Covers start x ts → Covers start y us)
  unfolding again_at
  agains start x =
      reads_part 116 (Part 116) refl
      (rule (reads_as (λ y. y.1) _ (λ y ts us b c. covers_more start x y.0 y.1.0 y.1.1 ts b.0 b.2.0 us b.1 b.2.1 b.2.2 c)
      (reads_then (empties x.1) (λ s. reads_then (reads_more (x.0 ++ other.Empty s ∷ []) plains) (λ ps. headers))))) [] refl

  again_lists : (x : SoFar) → Reads SDL n (Many 116 ∷ []) (onto (again_at n) x) (λ y ts us. (start : List Spanned) → Covers start x ts → Covers start y us)
  again_lists x = reads_all (λ start. reads_onto (Covers start) (agains start) x)

-- ---- names of states

-- the first name of a state, and others behind commas
names_of_state : (name second : Name) (names : List Name) (ts us vs ws : List Spanned) → Named name ts us → (Passed mark.Comma ▸ Named second) us vs
    → Grown (λ (y : Name). Passed mark.Comma ▸ Named y) (name ∷ second ∷ []) names vs ws → AreNames names ts ws
names_of_state name second names ts us vs ws i j g = subst (λ (z : List Name). AreNames z ts ws) (sym g.1) (us, i, (vs, j, g.2))

-- ---- composite states and aggregations

with_composite : (xs : List AggregationPart) (c : CompositeTree) (ps : List AggregationPart) (ts us vs ws : List Spanned) → each IsOther xs ts us → IsComposite c us vs → ArePartitions ps vs ws
    → AreAggregated (xs ++ other.Composite c ∷ ps) ts ws
with_composite [] c ps ts us vs ws e i j = subst (λ (z : List Spanned). AreAggregated (other.Composite c ∷ ps) z ws) (sym e) (first_composite c i j)
with_composite (x ∷ xs) c ps ts us vs ws e i j = another e.1 (with_composite xs c ps e.0 us vs ws e.2 i j)

are_inners : (is : List InnerTree) (ts us : List Spanned) → each IsInner is ts us → AreInners is ts us
are_inners [] ts us e = subst (AreInners [] ts) e no_inner_part
are_inners (i ∷ is) ts us e = more_inner_parts e.1 (are_inners is e.0 us e.2)

are_partitions : (ps : List AggregationPart) (ts us : List Spanned) → each IsPartition ps ts us → ArePartitions ps ts us
are_partitions [] ts us e = subst (ArePartitions [] ts) e no_partition
are_partitions (p ∷ ps) ts us e = more_partitions e.1 (are_partitions ps e.0 us e.2)

are_aggregated : (n : ℕ) (os : List AggregationPart) (k : HeaderText) (x : SoFar) (c : CompositeTree) (all : List AggregationPart) (t0 t1 t2 t3 t4 t5 : List Spanned) → each IsOther os t0 t1 → Headed k t1 t2
    → ((start : List Spanned) → Covers n start (os, k) t2 → Covers n start x t3) → ((start : List Spanned) → Headed x.1 start t3 → IsComposite c start t4)
    → Grown IsPartition (x.0 ++ other.Composite c ∷ []) all t4 t5 → AreAggregated all t0 t5
are_aggregated n os k x c all t0 t1 t2 t3 t4 t5 e h again composed grown =
    let covers = again t0 (t1, e, h) in
    let whole = with_composite x.0 c grown.0 t0 covers.0 t4 t5 covers.1 (composed covers.0 covers.2) (are_partitions grown.0 t4 t5 grown.2) in
    subst (λ (z : List AggregationPart). AreAggregated z t0 t5) (sym (grown.1 ∙ append_assoc x.0 (other.Composite c ∷ []) grown.0)) whole

module _ (n : ℕ) (inner : Take InnerTree) (inners : Reads SDL n (Part 107 ∷ []) inner IsInner) where
  composite_bodies : (h : HeaderText) → Reads SDL n (Part 112 ∷ []) (composite_body_at inner h) (λ c ts us. (start : List Spanned) → Headed h start ts → IsComposite c start us)
  unfolding composite_body_at
  composite_bodies h =
      reads_part 112 (Part 112) refl
      (rule (reads_as (λ x. record { place = h.place; name = h.name; «end» = h.«end»; points = x.1.0; parts = x.1.1.0; closing = x.1.1.1 }) _
      (λ x ts us b start i. composite h.place h.name h.«end» x.1.0 x.1.1.0 x.1.1.1 i (b.0, (x.0, b.1), b.2.1) (are_inners x.1.1.0 b.2.0 b.2.2.0 b.2.2.1) b.2.2.2)
      (reads_then (reads_word word.Substructure) (λ p. reads_then (reads_each (all_points n)) (λ ps. reads_then (reads_each inners) (λ is. closings n word.Endsubstructure)))))) [] refl

  one_states : (h : HeaderText) → Reads SDL n (Part 119 ∷ []) (one_state_at inner h) (λ p ts us. (start : List Spanned) → Headed h start ts → IsPartition p start us)
  unfolding one_state_at
  one_states h =
      reads_part 119 (Part 119) refl (rule (reads_as other.Composite _ (λ c ts us i start q. composite_partition c (i start q)) (composite_bodies h)))
      (rule (reads_as other.Empty _ (λ s ts us i start q. other_partition (other_state s (i start q))) (empties n h)) ∷ []) refl

  partitions : Reads SDL n (Part 118 ∷ []) (partition_at n inner) IsPartition
  unfolding partition_at
  partitions =
      reads_part 118 (Part 118) refl (rule (reads_as (λ p. p) IsPartition (λ p ts us i. other_partition i) (plains n)))
      (rule (reads_as (λ x. x.1) IsPartition (λ x ts us b. b.2 ts b.1) (reads_then (headers n) one_states)) ∷ []) refl

  aggregation_bodies : (h : HeaderText) → Reads SDL n (Part 113 ∷ []) (aggregation_body_at n inner h) (λ a ts us. (start : List Spanned) → IsAggregationHeader h.place h.name h.«end» start ts → IsAggregation a start us)
  unfolding aggregation_body_at aggregated_at begun_at first_composite_at
  aggregation_bodies h =
      reads_part 113 (Part 113) refl
      (rule (reads_as (λ x. record { place = h.place; name = h.name; «end» = h.«end»; points = x.1.0; parts = x.1.1.1.1.1.1.0; closing = x.1.1.1.1.1.1.1 }) _
      (λ x ts us b start i. let ps = b.2 in let os = ps.2 in let k = os.2 in let again = k.2 in let c = again.2 in let all = c.2 in
      aggregation h.place h.name h.«end» x.1.0 x.1.1.1.1.1.1.0 x.1.1.1.1.1.1.1 i (b.0, (x.0, b.1), ps.1)
      (are_aggregated n x.1.1.0 x.1.1.1.0 x.1.1.1.1.0 x.1.1.1.1.1.0 x.1.1.1.1.1.1.0 ps.0 os.0 k.0 again.0 c.0 all.0 os.1 k.1 again.1 c.1 all.1) all.2)
      (reads_then (reads_word word.Substructure) (λ p. reads_then (reads_each (all_points n)) (λ ps. reads_then (reads_each (plains n)) (λ os. reads_then (headers n) (λ k.
      (reads_then (again_lists n (os, k)) (λ x. reads_then (composite_bodies x.1) (λ c. reads_then (reads_more (x.0 ++ other.Composite c ∷ []) partitions) (λ all. closings n word.Endsubstructure)))))))))))
      [] refl

  -- ---- states

  after_ones : (h : HeaderText) → Reads SDL n (Part 110 ∷ []) (after_one_at n inner h) (λ i ts us. (start : List Spanned) → Headed h start ts → IsInner i start us)
  unfolding after_one_at
  after_ones h =
      reads_part 110 (Part 110) refl (rule (reads_as Composite _ (λ c ts us i start q. a_composite c (i start q)) (composite_bodies h)))
      (rule (reads_as State _ (λ s ts us i start q. a_state s (i start (q.0, q.1, (q.2.0, (q.2.0, q.2.1, refl), q.2.2)))) (state_bodies n h.place (list.Names (h.name ∷ [])) h.«end»)) ∷ []) refl

  next_names : Reads SDL n (Part 41 ∷ []) (next name_at) (λ y. Passed mark.Comma ▸ Named y)
  next_names = reads_next mark.Comma 40 41 refl refl reads_name reads_name

  -- behind the first name
  abbrev AfterName : Place → Name → InnerTree → Text
  AfterName place name i ts us = (start : List Spanned) → (Reserved word.State place ▸ Named name) start ts → IsInner i start us

  after_state_names : (place : Place) (name : Name) → Reads SDL n (Part 109 ∷ []) (after_state_name_at n inner place name) (AfterName place name)
  unfolding after_state_name_at several_at
  after_state_names place name =
      reads_part 109 (Part 109) refl
      (rule (reads_as (λ x. State x.1.1.1) (AfterName place name)
      (λ x ts us b start i. a_state x.1.1.1 (b.2.2.2 start (i.0, i.1, (b.2.0, names_of_state name x.0 x.1.0 i.0 ts b.0 b.2.0 i.2 b.1 b.2.1, b.2.2.1))))
      (reads_then next_names (λ second. reads_then (reads_more (name ∷ second ∷ []) next_names) (λ ns. reads_then (ends n) (λ e. state_bodies n place (list.Names ns) e))))))
      (rule (reads_as (λ x. x.1) (AfterName place name) (λ x ts us b start i. b.2 start (i.0, i.1, (ts, i.2, b.1)))
      (reads_then (ends n) (λ e. after_ones (record { place = place; name = name; «end» = e })))) ∷ []) refl

  -- behind STATE
  abbrev AfterState : Place → InnerTree → Text
  AfterState place i ts us = (start : List Spanned) → Reserved word.State place start ts → IsInner i start us

  states : (place : Place) → Reads SDL n (Part 108 ∷ []) (state_at n inner place) (AfterState place)
  unfolding state_at aggregation_at all_states_at
  states place =
      reads_part 108 (Part 108) refl
      (rule (reads_as (λ x. Aggregation x.1.1.1) (AfterState place) (λ x ts us b start r. an_aggregation x.1.1.1 (b.2.2.2 start (ts, r, (b.0, (x.0, b.1), (b.2.0, b.2.1, b.2.2.1)))))
      (reads_then (reads_word word.Aggregation) (λ p. reads_then reads_name (λ name. reads_then (ends n) (λ e. aggregation_bodies (record { place = place; name = name; «end» = e })))))))
      (rule (reads_as (λ x. State x.1.1.1) (AfterState place) (λ x ts us b start r. a_state x.1.1.1 (b.2.2.2 start (ts, r, (b.2.0, (b.0, b.1, b.2.1), b.2.2.1))))
      (reads_then (reads_mark mark.Asterisk) (λ p. reads_then (bracketed_names n) (λ ns. reads_then (ends n) (λ e. state_bodies n place (list.All p ns) e)))))
      ∷ rule (reads_as (λ x. x.1) (AfterState place) (λ x ts us b start r. b.2 start (ts, r, b.1)) (reads_then reads_name (λ name. after_state_names place name))) ∷ []) refl

  inner_texts : Reads SDL (suc n) (Part 107 ∷ []) (inner_by n inner) IsInner
  unfolding inner_by
  inner_texts =
      reads_deeper 107 (Part 107) refl (rule (reads_as Dcl IsInner (λ d ts us i. a_dcl d i) (dcls n)))
      (rule (reads_as Timer IsInner (λ t ts us i. a_timer t i) (timers n)) ∷ rule (reads_as Procedure IsInner (λ p ts us i. a_procedure p i) (procedures n))
      ∷ rule (reads_as Start IsInner (λ s ts us i. a_start s i) (starts n)) ∷ rule (reads_as (λ x. x.1) IsInner (λ x ts us b. b.2 ts b.1) (reads_then (reads_word word.State) states))
      ∷ rule (reads_as Connection IsInner (λ c ts us i. a_connection c i) (connections n)) ∷ []) refl

-- what is read in a process or in a state is what stands there
pub reads_inner : (n : ℕ) → Reads SDL n (Part 107 ∷ []) (inner_at n) IsInner
unfolding inner_at
reads_inner zero = reads_none 107 (Part 107) refl
reads_inner (suc n) = inner_texts n (inner_at n) (reads_inner n)
