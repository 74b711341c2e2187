-- States that are made of the same choices and the same tokens differ in places alone.
use Rattle.std.proofs.Common.{◌≡◌, ℕ, zero, suc, Bool, true, false, List, [], ◌∷◌, Option, Some, None, refl, ap}
use Rattle.og_base.specs.declared.Place.{Place}
use Rattle.og_ast.specs.declared.ground.Name.{Name}
use Rattle.og_ast.specs.declared.ground.EndTree.{EndTree}
use Rattle.og_ast.specs.declared.state.InnerTree.{InnerTree}
use Rattle.og_ast.specs.declared.state.ListTree.{ListTree}
use Rattle.og_ast.specs.declared.state.AggregationPart.{AggregationPart}
use Rattle.og_reading.specs.Reading.{Rest, Take, behind, after, onto}
use Rattle.og_parse_expr.specs.Reading.{expr_at}
use Rattle.og_parse_body.specs.Reading.{name_at}
use Rattle.og_parse_state.specs.declared.state.HeaderText.{HeaderText}
use Rattle.og_parse_state.specs.Reading.{start_at, in_at, enabling_at, input_at, priority_at, provided_at, connect_at, save_at, part_at, direction_at, points_at, state_body_at, composite_body_at, plain_at, header_at, empty_at, SoFar, again_at, one_state_at, partition_at, begun_at, first_composite_at, aggregated_at, aggregation_body_at, after_one_at, several_at, after_state_name_at, aggregation_at, all_states_at, state_at, inner_by, no_inner, inner_at}
use Rattle.og_parse.specs.Alike.{Alike, Maybe, OneName, OneEnd, OneStart, OneIn, OneEnabling, OneInput, OnePriority, OneProvided, OneConnect, OneSave, OnePart, part_input, part_provided, part_connect, part_save, OneList, list_names, list_all, OneState, OnePoints, OneEmpty, OneInner, inner_dcl, inner_timer, inner_procedure, inner_start, inner_state, inner_composite, inner_aggregation, inner_connection, OneInners, no_inner_part, more_inners, OneComposite, one_composite, OneAggregation, one_aggregation, OnePartitions, no_partition, more_partitions, OnePartition, partition_dcl, partition_timer, partition_procedure, partition_empty, partition_composite}
use Rattle.og_parse.proofs.Beside.{Beside, on, past, one_number, one_name, Fit, Agree, either, one_more, agree_maybe, agree_onto, agree_more, agree_next, agree_list, agree_in_brackets, agree_or_none}
use Rattle.og_parse.proofs.AlikeExpressions.{one_expr_at}
use Rattle.og_parse.proofs.AlikeBodies.{agree_name, agree_end, agree_own_name, agree_closing, agree_dcl, agree_timer, agree_transition, agree_connection, agree_procedure}

-- ---- starts, and what triggers the transitions of a state

agree_start : (n : ℕ) → Agree OneStart (start_at n) (start_at n)
unfolding start_at
agree_start n = record {
  by = λ r s b.
      let name = (agree_maybe agree_own_name).by (behind (after r)) (behind (after s)) (past (on b)) in
      let e = agree_end.by _ _ name.left in
      let t = (agree_transition n).by _ _ e.left in
      record { is = (name.is, e.is, t.is); left = t.left };
}

agree_in : Agree OneIn in_at in_at
unfolding in_at
agree_in = record {
  by = λ r s b.
      let f = (agree_in_brackets agree_name).by (behind (after r)) (behind (after s)) (past (on b)) in
      record { is = (one_name (on b), f.is); left = f.left };
}

agree_enabling : (n : ℕ) → Agree (Maybe OneEnabling) (enabling_at n) (enabling_at n)
unfolding enabling_at
agree_enabling n = record {
  by = λ r s b.
      let c = (one_expr_at n).by (behind (after r)) (behind (after s)) (past (on b)) in
      let e = agree_end.by _ _ c.left in
      either 0 b (record { is = (c.is, e.is); left = e.left }) (record { is = tt; left = on b });
}

agree_input : (n : ℕ) → Agree OneInput (input_at n) (input_at n)
unfolding input_at
agree_input n = record {
  by = λ r s b.
      let inputs = (agree_list agree_in).by (behind r) (behind s) (past b) in
      let e = agree_end.by _ _ inputs.left in
      let enabling = (agree_enabling n).by _ _ e.left in
      let t = (agree_transition n).by _ _ enabling.left in
      record { is = (inputs.is, e.is, enabling.is, t.is); left = t.left };
}

agree_priority : Agree OnePriority priority_at priority_at
unfolding priority_at
agree_priority = record {
  by = λ r s b.
      let e = agree_end.by (behind (behind (after r))) (behind (behind (after s))) (past (past (on b))) in
      record { is = (one_number (past (on b)), e.is); left = e.left };
}

agree_provided : (n : ℕ) → Agree OneProvided (provided_at n) (provided_at n)
unfolding provided_at
agree_provided n = record {
  by = λ r s b.
      let c = (one_expr_at n).by (behind r) (behind s) (past b) in
      let e = agree_end.by _ _ c.left in
      let priority = (agree_maybe agree_priority).by _ _ e.left in
      let t = (agree_transition n).by _ _ priority.left in
      record { is = (c.is, e.is, priority.is, t.is); left = t.left };
}

agree_connect : (n : ℕ) → Agree OneConnect (connect_at n) (connect_at n)
unfolding connect_at
agree_connect n = record {
  by = λ r s b.
      let names = (agree_or_none agree_name).by (behind r) (behind s) (past b) in
      let e = agree_end.by _ _ names.left in
      let t = (agree_transition n).by _ _ e.left in
      record { is = (names.is, e.is, t.is); left = t.left };
}

agree_save : Agree OneSave save_at save_at
unfolding save_at
agree_save = record {
  by = λ r s b.
      let names = (agree_list agree_name).by (behind r) (behind s) (past b) in
      let e = agree_end.by _ _ names.left in
      record { is = (names.is, e.is); left = e.left };
}

agree_part : (n : ℕ) → Agree OnePart (part_at n) (part_at n)
unfolding part_at
agree_part n = record {
  by = λ r s b.
      let i = (agree_input n).by (after r) (after s) (on b) in
      let p = (agree_provided n).by (after r) (after s) (on b) in
      let c = (agree_connect n).by (after r) (after s) (on b) in
      let v = agree_save.by (after r) (after s) (on b) in
      either 0 b (record { is = part_input _ _ i.is; left = i.left })
      (either 1 b (record { is = part_provided _ _ p.is; left = p.left })
      (either 2 b (record { is = part_connect _ _ c.is; left = c.left }) (record { is = part_save _ _ v.is; left = v.left })));
}

abbrev OneDirection : (Place × Bool) → (Place × Bool) → Type 0
OneDirection a b = a.1 ≡ b.1

agree_direction : Agree OneDirection direction_at direction_at
unfolding direction_at
agree_direction = record { by = λ r s b. either 0 b (record { is = refl; left = past (on b) }) (record { is = refl; left = past (on b) }) }

agree_points : Agree OnePoints points_at points_at
unfolding points_at
agree_points = record {
  by = λ r s b.
      let d = agree_direction.by (after r) (after s) (on b) in
      let names = (agree_list agree_name).by _ _ (past d.left) in
      let e = agree_end.by _ _ (past names.left) in
      record { is = (d.is, names.is, e.is); left = e.left };
}

-- ---- states behind what stands in front of their bodies

agree_state_body : (n : ℕ) (p q : Place) (l m : ListTree) (d e : EndTree) → OneList l m → OneEnd d e → Agree OneState (state_body_at n p l d) (state_body_at n q m e)
unfolding state_body_at
agree_state_body n p q l m d e i j = record {
  by = λ r s b.
      let parts = (agree_more (agree_part n) [] [] tt).by (after r) (after s) (on b) in
      let c = (agree_closing _ _).by _ _ (past parts.left) in
      record { is = (i, j, parts.is, c.is); left = c.left };
}

-- headers of one state
record OneHeader (g h : HeaderText) : Type 0 where
  name : OneName g.name h.name
  end_ : OneEnd g.«end» h.«end»

-- what reads the states further inside
abbrev Same : Take InnerTree → Type 0
Same inner = Agree OneInner inner inner

inners_of : (is js : List InnerTree) → Alike OneInner is js → OneInners is js
inners_of [] [] a = no_inner_part
inners_of [] (j ∷ js) a = absurd a
inners_of (i ∷ is) [] a = absurd a
inners_of (i ∷ is) (j ∷ js) a = more_inners a.0 (inners_of is js a.1)

partitions_of : (is js : List AggregationPart) → Alike OnePartition is js → OnePartitions is js
partitions_of [] [] a = no_partition
partitions_of [] (j ∷ js) a = absurd a
partitions_of (i ∷ is) [] a = absurd a
partitions_of (i ∷ is) (j ∷ js) a = more_partitions a.0 (partitions_of is js a.1)

agree_composite_body : {inner : Take InnerTree} → Same inner → (g h : HeaderText) → OneHeader g h → Agree OneComposite (composite_body_at inner g) (composite_body_at inner h)
unfolding composite_body_at
agree_composite_body i g h same = record {
  by = λ r s b.
      let points = (agree_more agree_points [] [] tt).by (behind (after r)) (behind (after s)) (past (on b)) in
      let parts = (agree_more i [] [] tt).by _ _ points.left in
      let c = (agree_closing _ _).by _ _ (past parts.left) in
      record { is = one_composite _ _ _ _ _ _ _ _ _ _ same.name same.end_ points.is (inners_of _ _ parts.is) c.is; left = c.left };
}

-- ---- aggregations

agree_plain : (n : ℕ) → Agree OnePartition (plain_at n) (plain_at n)
unfolding plain_at
agree_plain n = record {
  by = λ r s b.
      let d = (agree_dcl n).by (after r) (after s) (on b) in
      let t = agree_timer.by (after r) (after s) (on b) in
      let p = (agree_procedure n).by (after r) (after s) (on b) in
      either 0 b (record { is = partition_dcl _ _ d.is; left = d.left })
      (either 1 b (record { is = partition_timer _ _ t.is; left = t.left }) (record { is = partition_procedure _ _ p.is; left = p.left }));
}

agree_header : Agree OneHeader header_at header_at
unfolding header_at
agree_header = record {
  by = λ r s b.
      let e = agree_end.by (behind (behind (after r))) (behind (behind (after s))) (past (past (on b))) in
      record { is = record { name = one_name (past (on b)); end_ = e.is }; left = e.left };
}

agree_empty : (g h : HeaderText) → OneHeader g h → Agree OneEmpty (empty_at g) (empty_at h)
unfolding empty_at
agree_empty g h same = record {
  by = λ r s b.
      let c = (agree_closing _ _).by (behind (after r)) (behind (after s)) (past (on b)) in
      record { is = (same.name, same.end_, c.is); left = c.left };
}

record OneSoFar (a b : SoFar) : Type 0 where
  parts : Alike OnePartition a.0 b.0
  header : OneHeader a.1 b.1

agree_again : (n : ℕ) (x y : SoFar) → OneSoFar x y → Agree OneSoFar (again_at n x) (again_at n y)
unfolding again_at
agree_again n x y same = record {
  by = λ r s b.
      let e = (agree_empty x.1 y.1 same.header).by (after r) (after s) (on b) in
      let parts = (agree_more (agree_plain n) _ _ (one_more OnePartition x.0 y.0 _ _ same.parts (partition_empty _ _ e.is))).by _ _ e.left in
      let h = agree_header.by _ _ parts.left in
      record { is = record { parts = parts.is; header = h.is }; left = h.left };
}

agree_one_state : {inner : Take InnerTree} → Same inner → (g h : HeaderText) → OneHeader g h → Agree OnePartition (one_state_at inner g) (one_state_at inner h)
unfolding one_state_at
agree_one_state i g h same = record {
  by = λ r s b.
      let c = (agree_composite_body i g h same).by (after r) (after s) (on b) in
      let e = (agree_empty g h same).by (after r) (after s) (on b) in
      either 0 b (record { is = partition_composite c.is; left = c.left }) (record { is = partition_empty _ _ e.is; left = e.left });
}

agree_partition : (n : ℕ) {inner : Take InnerTree} → Same inner → Agree OnePartition (partition_at n inner) (partition_at n inner)
unfolding partition_at
agree_partition n i = record {
  by = λ r s b.
      let h = agree_header.by (after r) (after s) (on b) in
      either 0 b ((agree_plain n).by (after r) (after s) (on b)) ((agree_one_state i _ _ h.is).by _ _ h.left);
}

agree_begun : (n : ℕ) → Agree OneSoFar (begun_at n) (begun_at n)
unfolding begun_at
agree_begun n = record {
  by = λ r s b.
      let plains = (agree_more (agree_plain n) [] [] tt).by r s b in
      let h = agree_header.by _ _ plains.left in
      (agree_onto {Is = OneSoFar} (again_at n) (again_at n) (agree_again n) _ _ (record { parts = plains.is; header = h.is })).by _ _ h.left;
}

agree_first_composite : {inner : Take InnerTree} → Same inner → (x y : SoFar) → OneSoFar x y → Agree (Alike OnePartition) (first_composite_at inner x) (first_composite_at inner y)
unfolding first_composite_at
agree_first_composite i x y same = record {
  by = λ r s b.
      let c = (agree_composite_body i x.1 y.1 same.header).by r s b in
      record { is = one_more OnePartition x.0 y.0 _ _ same.parts (partition_composite c.is); left = c.left };
}

agree_aggregated : (n : ℕ) {inner : Take InnerTree} → Same inner → Agree (Alike OnePartition) (aggregated_at n inner) (aggregated_at n inner)
unfolding aggregated_at
agree_aggregated n i = record {
  by = λ r s b.
      let x = (agree_begun n).by r s b in
      let parts = (agree_first_composite i _ _ x.is).by _ _ x.left in
      (agree_more (agree_partition n i) _ _ parts.is).by _ _ parts.left;
}

agree_aggregation_body : (n : ℕ) {inner : Take InnerTree} → Same inner → (g h : HeaderText) → OneHeader g h → Agree OneAggregation (aggregation_body_at n inner g) (aggregation_body_at n inner h)
unfolding aggregation_body_at
agree_aggregation_body n i g h same = record {
  by = λ r s b.
      let points = (agree_more agree_points [] [] tt).by (behind (after r)) (behind (after s)) (past (on b)) in
      let parts = (agree_aggregated n i).by _ _ points.left in
      let c = (agree_closing _ _).by _ _ (past parts.left) in
      record { is = one_aggregation _ _ _ _ _ _ _ _ _ _ same.name same.end_ points.is (partitions_of _ _ parts.is) c.is; left = c.left };
}

-- ---- what stands in a process

agree_after_one : (n : ℕ) {inner : Take InnerTree} → Same inner → (g h : HeaderText) → OneHeader g h → Agree OneInner (after_one_at n inner g) (after_one_at n inner h)
unfolding after_one_at
agree_after_one n i g h same = record {
  by = λ r s b.
      let c = (agree_composite_body i g h same).by (after r) (after s) (on b) in
      let x = (agree_state_body n g.place h.place _ _ _ _ (list_names (g.name ∷ []) (h.name ∷ []) (same.name, tt)) same.end_).by (after r) (after s) (on b) in
      either 0 b (record { is = inner_composite c.is; left = c.left }) (record { is = inner_state _ _ x.is; left = x.left });
}

agree_several : (n : ℕ) (p q : Place) (l m : Name) → OneName l m → Agree OneInner (several_at n p l) (several_at n q m)
unfolding several_at
agree_several n p q l m i = record {
  by = λ r s b.
      let second = (agree_next agree_name).by r s b in
      let names = (agree_more (agree_next agree_name) (l ∷ _ ∷ []) (m ∷ _ ∷ []) (i, (second.is, tt))).by _ _ second.left in
      let e = agree_end.by _ _ names.left in
      let x = (agree_state_body n p q _ _ _ _ (list_names _ _ names.is) e.is).by _ _ e.left in
      record { is = inner_state _ _ x.is; left = x.left };
}

agree_after_name : (n : ℕ) {inner : Take InnerTree} → Same inner → (p q : Place) (l m : Name) → OneName l m → Agree OneInner (after_state_name_at n inner p l) (after_state_name_at n inner q m)
unfolding after_state_name_at
agree_after_name n i p q l m same = record {
  by = λ r s b.
      let e = agree_end.by (after r) (after s) (on b) in
      either 0 b ((agree_several n p q l m same).by (after r) (after s) (on b)) ((agree_after_one n i _ _ (record { name = same; end_ = e.is })).by _ _ e.left);
}

agree_aggregation : (n : ℕ) {inner : Take InnerTree} → Same inner → (p q : Place) → Agree OneInner (aggregation_at n inner p) (aggregation_at n inner q)
unfolding aggregation_at
agree_aggregation n i p q = record {
  by = λ r s b.
      let e = agree_end.by (behind (behind r)) (behind (behind s)) (past (past b)) in
      let x = (agree_aggregation_body n i _ _ (record { name = one_name (past b); end_ = e.is })).by _ _ e.left in
      record { is = inner_aggregation x.is; left = x.left };
}

agree_all_states : (n : ℕ) (p q : Place) → Agree OneInner (all_states_at n p) (all_states_at n q)
unfolding all_states_at
agree_all_states n p q = record {
  by = λ r s b.
      let names = (agree_in_brackets agree_name).by (behind r) (behind s) (past b) in
      let e = agree_end.by _ _ names.left in
      let x = (agree_state_body n p q _ _ _ _ (list_all _ _ _ _ names.is) e.is).by _ _ e.left in
      record { is = inner_state _ _ x.is; left = x.left };
}

agree_state : (n : ℕ) {inner : Take InnerTree} → Same inner → (p q : Place) → Agree OneInner (state_at n inner p) (state_at n inner q)
unfolding state_at
agree_state n i p q = record {
  by = λ r s b.
      either 0 b ((agree_aggregation n i p q).by (after r) (after s) (on b))
      (either 1 b ((agree_all_states n p q).by (after r) (after s) (on b)) ((agree_after_name n i p q _ _ (one_name (on b))).by (behind (after r)) (behind (after s)) (past (on b))));
}

agree_inner_by : (n : ℕ) (inner : Take InnerTree) → Same inner → Agree OneInner (inner_by n inner) (inner_by n inner)
unfolding inner_by
agree_inner_by n inner i = record {
  by = λ r s b.
      let d = (agree_dcl n).by (after r) (after s) (on b) in
      let t = agree_timer.by (after r) (after s) (on b) in
      let p = (agree_procedure n).by (after r) (after s) (on b) in
      let a = (agree_start n).by (after r) (after s) (on b) in
      let c = (agree_connection n).by (after r) (after s) (on b) in
      either 0 b (record { is = inner_dcl _ _ d.is; left = d.left })
      (either 1 b (record { is = inner_timer _ _ t.is; left = t.left })
      (either 2 b (record { is = inner_procedure _ _ p.is; left = p.left })
      (either 3 b (record { is = inner_start _ _ a.is; left = a.left })
      (either 4 b ((agree_state n i _ _).by (behind (after r)) (behind (after s)) (past (on b))) (record { is = inner_connection _ _ c.is; left = c.left })))));
}

pub agree_inner : (n : ℕ) → Agree OneInner (inner_at n) (inner_at n)
unfolding inner_at
agree_inner zero = record { by = λ r s b. record { is = inner_timer _ _ (tt, tt); left = b } }
agree_inner (suc n) = record { by = λ r s b. (agree_inner_by n (inner_at n) (agree_inner n)).by r s b }
