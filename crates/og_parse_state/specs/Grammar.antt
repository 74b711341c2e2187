-- States, composite states and state aggregations (Z.102 clause 11), production by production: of which tokens a tree is the tree.
-- `IsState s tokens rest` says that the tokens begin with a state whose tree is `s`, and that `rest` stands behind it. An INPUT's end
-- followed by PROVIDED is an enabling condition.
use Rattle.std.specs.Prelude.{◌≡◌, ℕ, Bool, true, false, List, [], ◌∷◌, Option, Some, None}
use Rattle.og_base.specs.declared.Place.{Place}
use Rattle.og_lexer.specs.declared.Keyword.{Keyword}
use Rattle.og_lexer.specs.declared.Keyword.TheVariants as word
use Rattle.og_lexer.specs.declared.Mark.TheVariants as mark
use Rattle.og_lexer.specs.declared.Spanned.{Spanned}
use Rattle.og_lexer.specs.declared.Token.TheVariants as token
use Rattle.og_ast.specs.declared.ground.Name.{Name}
use Rattle.og_ast.specs.declared.ground.EndTree.{EndTree}
use Rattle.og_ast.specs.declared.ground.ClosingTree.{ClosingTree}
use Rattle.og_ast.specs.declared.data.DclTree.{DclTree}
use Rattle.og_ast.specs.declared.data.TimerTree.{TimerTree}
use Rattle.og_ast.specs.declared.procedure.ProcedureTree.{ProcedureTree}
use Rattle.og_ast.specs.declared.procedure.ConnectionTree.{ConnectionTree}
use Rattle.og_ast.specs.declared.state.InnerTree.{InnerTree, Dcl, Timer, Procedure, Start, State, Composite, Aggregation, Connection}
use Rattle.og_ast.specs.declared.state.StartTree.{StartTree}
use Rattle.og_ast.specs.declared.state.StateTree.{StateTree}
use Rattle.og_ast.specs.declared.state.ListTree.{ListTree}
use Rattle.og_ast.specs.declared.state.ListTree.TheVariants as list
use Rattle.og_ast.specs.declared.state.PartTree.{PartTree}
use Rattle.og_ast.specs.declared.state.PartTree.TheVariants as part
use Rattle.og_ast.specs.declared.state.InputTree.{InputTree}
use Rattle.og_ast.specs.declared.state.InTree.{InTree}
use Rattle.og_ast.specs.declared.state.EnablingTree.{EnablingTree}
use Rattle.og_ast.specs.declared.state.ProvidedTree.{ProvidedTree}
use Rattle.og_ast.specs.declared.state.PriorityTree.{PriorityTree}
use Rattle.og_ast.specs.declared.state.ConnectTree.{ConnectTree}
use Rattle.og_ast.specs.declared.state.SaveTree.{SaveTree}
use Rattle.og_ast.specs.declared.state.CompositeTree.{CompositeTree}
use Rattle.og_ast.specs.declared.state.PointsTree.{PointsTree}
use Rattle.og_ast.specs.declared.state.AggregationTree.{AggregationTree}
use Rattle.og_ast.specs.declared.state.AggregationPart.{AggregationPart}
use Rattle.og_ast.specs.declared.state.AggregationPart as other
use Rattle.og_ast.specs.declared.state.EmptyStateTree.{EmptyStateTree}
use Rattle.og_reading.specs.Fronts.{Text, Reserved, Sign, Named, Word, Passed, Digits, ◌▸◌, optional, each, separated, perhaps_separated, in_brackets, IsNotBefore}
use Rattle.og_parse_expr.specs.Grammar.{IsExpr}
use Rattle.og_parse_body.specs.Grammar.{IsEnd, AreNames, IsClosing, IsDcl, IsTimer, IsTransition, IsConnection, IsProcedure}

-- an END keyword, and what stands behind it
abbrev pub IsClosed : Keyword → ClosingTree → Text
IsClosed word closing = Reserved word closing.place ▸ IsClosing closing

-- ---- starts and basic states

-- start = START [ name ] end transition .
abbrev pub IsStart : StartTree → Text
IsStart s = Reserved word.Start s.place ▸ optional Named s.name ▸ IsEnd s.«end» ▸ IsTransition s.transition

-- list = names | "*" [ "(" names ")" ] .
abbrev pub IsList : ListTree → Text
IsList (list.Names names) = AreNames names
IsList (list.All place names) = Sign mark.Asterisk place ▸ in_brackets Named names

-- in = name [ "(" names ")" ] .
abbrev pub IsIn : InTree → Text
IsIn i = Named i.signal ▸ in_brackets Named i.variables

-- [ PROVIDED expr end ], which is there where the word is
abbrev pub IsEnabling : Option EnablingTree → Text
IsEnabling None tokens rest = (tokens ≡ rest) × IsNotBefore (token.Keyword word.Provided) tokens
IsEnabling (Some e) tokens rest = (Reserved word.Provided e.place ▸ IsExpr e.condition ▸ IsEnd e.«end») tokens rest

-- INPUT in { "," in } end [ PROVIDED expr end ] transition
abbrev pub IsInput : InputTree → Text
IsInput i = Reserved word.Input i.place ▸ separated IsIn i.inputs ▸ IsEnd i.«end» ▸ IsEnabling i.enabling ▸ IsTransition i.transition

-- PRIORITY number end
abbrev pub IsPriority : PriorityTree → Text
IsPriority p = Reserved word.Priority p.place ▸ Digits p.number ▸ IsEnd p.«end»

-- PROVIDED expr end [ PRIORITY number end ] transition
abbrev pub IsProvided : ProvidedTree → Text
IsProvided p = Reserved word.Provided p.place ▸ IsExpr p.condition ▸ IsEnd p.«end» ▸ optional IsPriority p.priority ▸ IsTransition p.transition

-- CONNECT [ names ] end transition
abbrev pub IsConnect : ConnectTree → Text
IsConnect c = Reserved word.Connect c.place ▸ perhaps_separated Named c.names ▸ IsEnd c.«end» ▸ IsTransition c.transition

-- SAVE names end
abbrev pub IsSave : SaveTree → Text
IsSave s = Reserved word.Save s.place ▸ AreNames s.names ▸ IsEnd s.«end»

-- part = INPUT .. | PROVIDED .. | CONNECT .. | SAVE ..
abbrev pub IsStatePart : PartTree → Text
IsStatePart (part.Input i) = IsInput i
IsStatePart (part.Provided p) = IsProvided p
IsStatePart (part.Connect c) = IsConnect c
IsStatePart (part.Save s) = IsSave s

-- state = STATE list end { part } ENDSTATE [ name ] end .
abbrev pub IsState : StateTree → Text
IsState s = Reserved word.State s.place ▸ IsList s.list ▸ IsEnd s.«end» ▸ each IsStatePart s.parts ▸ IsClosed word.Endstate s.closing

-- ---- composite states and aggregations

-- IN | OUT
abbrev pub IsDirection : Bool → Place → Text
IsDirection false = Reserved word.In
IsDirection true = Reserved word.Out

-- points = ( IN | OUT ) "(" names ")" end .
abbrev pub IsPoints : PointsTree → Text
IsPoints p = IsDirection p.out p.place ▸ Passed mark.LeftParenthesis ▸ AreNames p.names ▸ Passed mark.RightParenthesis ▸ IsEnd p.«end»

-- STATE name end
abbrev pub IsHeader : Place → Name → EndTree → Text
IsHeader place name e = Reserved word.State place ▸ Named name ▸ IsEnd e

-- STATE AGGREGATION name end
abbrev pub IsAggregationHeader : Place → Name → EndTree → Text
IsAggregationHeader place name e = Reserved word.State place ▸ Word word.Aggregation ▸ Named name ▸ IsEnd e

-- SUBSTRUCTURE { points }
abbrev pub IsOpening : List PointsTree → Text
IsOpening points = Word word.Substructure ▸ each IsPoints points

-- STATE name end ENDSTATE [ name ] end
abbrev pub IsEmptyState : EmptyStateTree → Text
IsEmptyState s = IsHeader s.place s.name s.«end» ▸ IsClosed word.Endstate s.closing

-- other = dcl | timer | procedure | STATE name end ENDSTATE [ name ] end .
pub data IsOther : AggregationPart → List Spanned → List Spanned → Type 0 where
  other_dcl : (d : DclTree) {ts rest : List Spanned} → IsDcl d ts rest → IsOther (other.Dcl d) ts rest
  other_timer : (t : TimerTree) {ts rest : List Spanned} → IsTimer t ts rest → IsOther (other.Timer t) ts rest
  other_procedure : (p : ProcedureTree) {ts rest : List Spanned} → IsProcedure p ts rest → IsOther (other.Procedure p) ts rest
  other_state : (s : EmptyStateTree) {ts rest : List Spanned} → IsEmptyState s ts rest → IsOther (other.Empty s) ts rest

mutual
  -- inner = dcl | timer | procedure | start | state | composite | aggregation | connection .
  pub data IsInner : InnerTree → List Spanned → List Spanned → Type 0 where
    a_dcl : (d : DclTree) {ts rest : List Spanned} → IsDcl d ts rest → IsInner (Dcl d) ts rest
    a_timer : (t : TimerTree) {ts rest : List Spanned} → IsTimer t ts rest → IsInner (Timer t) ts rest
    a_procedure : (p : ProcedureTree) {ts rest : List Spanned} → IsProcedure p ts rest → IsInner (Procedure p) ts rest
    a_start : (s : StartTree) {ts rest : List Spanned} → IsStart s ts rest → IsInner (Start s) ts rest
    a_state : (s : StateTree) {ts rest : List Spanned} → IsState s ts rest → IsInner (State s) ts rest
    a_composite : (c : CompositeTree) {ts rest : List Spanned} → IsComposite c ts rest → IsInner (Composite c) ts rest
    an_aggregation : (a : AggregationTree) {ts rest : List Spanned} → IsAggregation a ts rest → IsInner (Aggregation a) ts rest
    a_connection : (c : ConnectionTree) {ts rest : List Spanned} → IsConnection c ts rest → IsInner (Connection c) ts rest

  -- { inner }
  pub data AreInners : List InnerTree → List Spanned → List Spanned → Type 0 where
    no_inner_part : {ts : List Spanned} → AreInners [] ts ts
    more_inner_parts : {i : InnerTree} {is : List InnerTree} {ts us rest : List Spanned} → IsInner i ts us → AreInners is us rest → AreInners (i ∷ is) ts rest

  -- composite = STATE name end SUBSTRUCTURE { points } { inner } ENDSUBSTRUCTURE [ name ] end .
  pub data IsComposite : CompositeTree → List Spanned → List Spanned → Type 0 where
    composite : (place : Place) (name : Name) (e : EndTree) (points : List PointsTree) (parts : List InnerTree) (closing : ClosingTree) {ts us vs ws rest : List Spanned} → IsHeader place name e ts us
        → IsOpening points us vs → AreInners parts vs ws → IsClosed word.Endsubstructure closing ws rest
        → IsComposite (record { place = place; name = name; «end» = e; points = points; parts = parts; closing = closing }) ts rest

  -- aggregation = STATE AGGREGATION name end SUBSTRUCTURE { points } { other } composite { other | composite } ENDSUBSTRUCTURE
  -- [ name ] end .
  pub data IsAggregation : AggregationTree → List Spanned → List Spanned → Type 0 where
    aggregation : (place : Place) (name : Name) (e : EndTree) (points : List PointsTree) (parts : List AggregationPart) (closing : ClosingTree) {ts us vs ws rest : List Spanned}
        → IsAggregationHeader place name e ts us → IsOpening points us vs → AreAggregated parts vs ws → IsClosed word.Endsubstructure closing ws rest
        → IsAggregation (record { place = place; name = name; «end» = e; points = points; parts = parts; closing = closing }) ts rest

  -- { other } composite { other | composite }
  pub data AreAggregated : List AggregationPart → List Spanned → List Spanned → Type 0 where
    another : {p : AggregationPart} {ps : List AggregationPart} {ts us rest : List Spanned} → IsOther p ts us → AreAggregated ps us rest → AreAggregated (p ∷ ps) ts rest
    first_composite : (c : CompositeTree) {ps : List AggregationPart} {ts us rest : List Spanned} → IsComposite c ts us → ArePartitions ps us rest → AreAggregated (other.Composite c ∷ ps) ts rest

  -- { other | composite }
  pub data ArePartitions : List AggregationPart → List Spanned → List Spanned → Type 0 where
    no_partition : {ts : List Spanned} → ArePartitions [] ts ts
    more_partitions : {p : AggregationPart} {ps : List AggregationPart} {ts us rest : List Spanned} → IsPartition p ts us → ArePartitions ps us rest → ArePartitions (p ∷ ps) ts rest

  -- other | composite
  pub data IsPartition : AggregationPart → List Spanned → List Spanned → Type 0 where
    other_partition : {p : AggregationPart} {ts rest : List Spanned} → IsOther p ts rest → IsPartition p ts rest
    composite_partition : (c : CompositeTree) {ts rest : List Spanned} → IsComposite c ts rest → IsPartition (other.Composite c) ts rest
