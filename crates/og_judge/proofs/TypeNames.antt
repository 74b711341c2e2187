-- Each name in the trees of modules, and in the modules laid out flat, is one of their tokens.
use Rattle.std.proofs.Common.{◌≡◌, ◌∙◌, ℕ, zero, suc, ◌+◌, ◌-◌, Bool, true, false, if◌then◌else◌, List, [], ◌∷◌, ◌++◌, length, Option, Some, None, refl, sym, ap, subst}
use Rattle.std.specs.Prelude.{◌==◌, ◌&&◌, is_none}
use Rattle.std.specs.List.{AllByRecursion}
use Rattle.og_base.specs.declared.Place.{Place}
use Rattle.og_lexer.specs.declared.Spanned.{Spanned}
use Rattle.og_names.specs.declared.Word.{Word}
use Rattle.og_asn1.specs.declared.syntax.Name.{Name}
use Rattle.og_asn1.specs.declared.syntax.ModuleTree.{ModuleTree}
use Rattle.og_asn1.specs.declared.syntax.TaggingTree.{TaggingTree}
use Rattle.og_asn1.specs.declared.syntax.ExportsTree.{ExportsTree}
use Rattle.og_asn1.specs.declared.syntax.ImportsTree.{ImportsTree}
use Rattle.og_asn1.specs.declared.syntax.ImportTree.{ImportTree}
use Rattle.og_asn1.specs.declared.syntax.SymbolTree.{SymbolTree}
use Rattle.og_asn1.specs.declared.syntax.SymbolTree.TheVariants as symbol
use Rattle.og_asn1.specs.declared.syntax.AssignmentTree.{AssignmentTree}
use Rattle.og_asn1.specs.declared.syntax.AssignmentTree.TheVariants as assignment
use Rattle.og_asn1.specs.declared.syntax.TypeTree.{TypeTree, size-TypeTree}
use Rattle.og_asn1.specs.declared.syntax.BaseTree.{BaseTree, out-BaseTree, Integer, Boolean, Reference, Enumerated, Choice, Sequence, Set, SequenceOf, SetOf, Real, Null, OctetString, ObjectIdentifier, BitString}
use Rattle.og_asn1.specs.declared.syntax.BaseTree.TheViews.{outs-Integer, outs-Boolean, outs-Reference, outs-Enumerated, outs-Choice, outs-Sequence, outs-Set, outs-SequenceOf, outs-SetOf, outs-Real, outs-Null, outs-OctetString, outs-ObjectIdentifier, outs-BitString, outs-Part, outs-Extension}
use Rattle.og_asn1.specs.declared.syntax.TagTree.{TagTree}
use Rattle.og_asn1.specs.declared.syntax.TagMode.{TagMode}
use Rattle.og_asn1.specs.declared.syntax.TagMode.TheVariants as mode
use Rattle.og_asn1.specs.declared.syntax.OfTree.{OfTree, roll-OfTree, out-OfTree, out-roll-OfTree}
use Rattle.og_asn1.specs.declared.syntax.SizeTree.{SizeTree}
use Rattle.og_asn1.specs.declared.syntax.SizeTree.TheVariants as size
use Rattle.og_asn1.specs.declared.syntax.EnumTree.{EnumTree}
use Rattle.og_asn1.specs.declared.syntax.EnumTree.TheVariants as item
use Rattle.og_asn1.specs.declared.syntax.SignedTree.{SignedTree}
use Rattle.og_asn1.specs.declared.syntax.CompTree.{CompTree, out-CompTree, Part, Extension}
use Rattle.og_asn1.specs.declared.syntax.PresenceTree.{PresenceTree}
use Rattle.og_asn1.specs.declared.syntax.PresenceTree.TheVariants as presence
use Rattle.og_asn1.specs.declared.syntax.ValueTree.{ValueTree}
use Rattle.og_asn1.specs.declared.syntax.ValueNode.{ValueNode}
use Rattle.og_asn1.specs.declared.syntax.ValueNode.TheViews.{outs-Number, outs-Text, outs-Truth, outs-Null as outs-NullValue, outs-Named, outs-Braces}
use Rattle.og_asn1.specs.declared.syntax.ValueNode as node_of
use Rattle.og_asn1.specs.declared.syntax.FractionTree.{FractionTree}
use Rattle.og_asn1.specs.declared.syntax.RunTree.{RunTree}
use Rattle.og_asn1.specs.Reading.{Rest, Take, behind, after, choice_in, place_in, word_in, number_in, name_in, maybe, more_of, listed, passed, behind_one, tokens_to, run_in, bracket_in}
use Rattle.og_asn1.specs.Trees.{digits_at, fraction_at, number_value, chosen_at, named_value, braces_value, node_at, value_by, no_value, value_within, value_at, signed_at, enum_number_at, enum_at, presence_at, part_at, comp_at, comps_at, or_none, some_comps_at, size_at, of_at, sequence_at, set_at, two_runs, one_run, enumerated_at, choice_at, base_by, base_at, tag_mode_at, tag_at, type_by, no_type, type_within, type_at, assignment_at, symbol_at, import_at, imports_at, exports_at, tagging_at, module_at, modules_at, trees_of}
use Rattle.og_flat.specs.declared.flat.Enumerator.{Enumerator}
use Rattle.og_flat.specs.declared.flat.PartNode.{PartNode}
use Rattle.og_flat.specs.declared.flat.Node.{Node}
use Rattle.og_flat.specs.declared.flat.Node.TheVariants as node
use Rattle.og_flat.specs.declared.flat.TypeNode.{TypeNode}
use Rattle.og_flat.specs.declared.flat.ConstantNode.{ConstantNode}
use Rattle.og_flat.specs.declared.flat.ConstantValue.{ConstantValue}
use Rattle.og_flat.specs.declared.flat.ConstantValue.TheVariants as value
use Rattle.og_flat.specs.declared.flat.Flat.{Flat}
use Rattle.og_flat.specs.Limits.{limits_of, limits_of_size}
use Rattle.og_flat.specs.Flattening.{enumerator_of, enumerators_of, is_open, name_alone, constant_value, default_of, Parts, parts_by, parts_of, nodes_by, nodes_within, nodes_of, with_assignment, with_assignments, with_modules, no_flat, flat_of, last_of, with_part}
use Rattle.og_judge.proofs.TreeNames.{no_place, NameIn, AreIn, OptIn, RunIn, Made, Makes, if_in, tail_in, name_at, maybe_in, more_in, listed_in, PassesIn, passed_in, behind_one_in, run_made, bracket_made}
use Rattle.og_judge.proofs.BoundNames.{LimitsIn, SizeIn, limits_of_in, limits_of_size_in}

-- ---- names of what stands flat

abbrev pub EnumeratorIn : (Place → Type 0) → Enumerator → Type 0
EnumeratorIn P e = P e.name.place

abbrev pub PartIn : (Place → Type 0) → PartNode → Type 0
PartIn P part = P part.name.place × OptIn (NameIn P) part.default

abbrev pub NodeIn : (Place → Type 0) → Node → Type 0
NodeIn P (node.Integer limits) = LimitsIn P limits
NodeIn P node.Boolean = Unit {0}
NodeIn P (node.Reference name limits) = P name.place × LimitsIn P limits
NodeIn P (node.Enumerated items is_open) = AllByRecursion (EnumeratorIn P) items
NodeIn P (node.Choice parts is_plain) = AllByRecursion (PartIn P) parts
NodeIn P (node.Sequence parts is_plain) = AllByRecursion (PartIn P) parts
NodeIn P (node.SequenceOf limits item) = LimitsIn P limits
NodeIn P (node.Other limits) = LimitsIn P limits

abbrev pub ConstantValueIn : (Place → Type 0) → ConstantValue → Type 0
ConstantValueIn P (value.Number number) = Unit {0}
ConstantValueIn P (value.Named name) = P name.place
ConstantValueIn P value.Other = Unit {0}

pub record FlatIn (P : Place → Type 0) (flat : Flat) : Type 0 where
  pub nodes : AllByRecursion (NodeIn P) flat.nodes
  pub types : AllByRecursion (λ (t : TypeNode). P t.name.place) flat.types
  pub constants : AllByRecursion (λ (c : ConstantNode). P c.name.place × ConstantValueIn P c.value) flat.constants

-- ---- names of trees, by what they are laid out as

abbrev pub ValueIn : (Place → Type 0) → ValueTree → Type 0
ValueIn P v = OptIn (NameIn P) (name_alone v) × ConstantValueIn P (constant_value v)

abbrev pub ValueNodeIn : (Place → Type 0) → ValueNode → Type 0
ValueNodeIn P n = ValueIn P (record { place = no_place; node = n })

abbrev pub BaseIn : (Place → Type 0) → BaseTree → Type 0
BaseIn P b = (depth n : ℕ) → AllByRecursion (NodeIn P) (nodes_by (nodes_within depth) n (out-BaseTree b))

abbrev pub TypeIn : (Place → Type 0) → TypeTree → Type 0
TypeIn P t = (depth n : ℕ) → AllByRecursion (NodeIn P) (nodes_within depth n t)

abbrev pub PartsIn : (Place → Type 0) → Parts → Type 0
PartsIn P parts = AllByRecursion (NodeIn P) parts.nodes × AllByRecursion (PartIn P) parts.parts

abbrev pub CompIn : (Place → Type 0) → CompTree → Type 0
CompIn P c = (depth n : ℕ) (more : ℕ → Parts) → ((m : ℕ) → PartsIn P (more m)) → PartsIn P (parts_by (nodes_within depth) n (out-CompTree c) more)

abbrev pub OfIn : (Place → Type 0) → OfTree → Type 0
OfIn P of = TypeIn P (out-OfTree of).item × LimitsIn P (limits_of_size (out-OfTree of).size)

abbrev pub PresenceIn : (Place → Type 0) → PresenceTree → Type 0
PresenceIn P p = OptIn (NameIn P) (default_of (Some p))

abbrev pub EnumIn : (Place → Type 0) → EnumTree → Type 0
EnumIn P e = AllByRecursion (EnumeratorIn P) (enumerator_of e)

abbrev pub AssignmentIn : (Place → Type 0) → AssignmentTree → Type 0
AssignmentIn P (assignment.Type name kind) = P name.place × TypeIn P kind
AssignmentIn P (assignment.Value name kind v) = P name.place × TypeIn P kind × ValueIn P v

abbrev pub SymbolIn : (Place → Type 0) → SymbolTree → Type 0
SymbolIn P (symbol.Type name) = P name.place
SymbolIn P (symbol.Value name) = P name.place

abbrev pub ImportIn : (Place → Type 0) → ImportTree → Type 0
ImportIn P import = AllByRecursion (SymbolIn P) import.symbols

abbrev pub ImportsIn : (Place → Type 0) → ImportsTree → Type 0
ImportsIn P imports = AllByRecursion (ImportIn P) imports.imports

pub record ModuleIn (P : Place → Type 0) (m : ModuleTree) : Type 0 where
  pub imports : OptIn (ImportsIn P) m.imports
  pub assignments : AllByRecursion (AssignmentIn P) m.assignments

abbrev Any : {X : Type 0} → X → Type 0
Any x = Unit {0}

each_both : {A : Type 0} (Q : A → Type 0) (xs ys : List A) → AllByRecursion Q xs → AllByRecursion Q ys → AllByRecursion Q (xs ++ ys)
each_both Q [] ys a b = b
each_both Q (x ∷ xs) ys a b = (a.0, each_both Q xs ys a.1 b)

module _ (P : Place → Type 0) (start : P no_place) where
  -- behind one token and two, after a choice
  one : (rest : Rest) → AreIn P rest.tokens → AreIn P (behind rest).tokens
  one rest all = tail_in P start rest.tokens all

  two : (rest : Rest) → AreIn P rest.tokens → AreIn P (behind (behind rest)).tokens
  two rest all = one (behind rest) (one rest all)

  -- ---- values

  digits_made : Makes P Any digits_at
  unfolding digits_at
  digits_made = record { by = λ rest all. (tt, one (after rest) all) }

  fraction_made : Makes P Any fraction_at
  unfolding fraction_at
  fraction_made = record { by = λ rest all. (tt, ((maybe_in P start Any digits_at digits_made).by (behind (after rest)) (one (after rest) all)).1) }

  number_node : (is_negative : Bool) (digits : ℕ) (fraction : Option FractionTree) → ValueNodeIn P (node_of.Number is_negative digits fraction)
  number_node is_negative digits None = rw (outs-Number is_negative digits None) (tt, tt)
  number_node is_negative digits (Some fraction) = rw (outs-Number is_negative digits (Some fraction)) (tt, tt)

  number_made : (is_negative : Bool) (rest : Rest) → AreIn P rest.tokens → Made P (ValueNodeIn P) (number_value is_negative rest)
  unfolding number_value
  number_made is_negative rest all =
      let f = maybe fraction_at (behind rest) in
      (number_node is_negative (number_in rest) f.0, ((maybe_in P start Any fraction_at fraction_made).by (behind rest) (one rest all)).1)

  named_node : (name : Name) (chosen : Option ValueTree) → P name.place → ValueNodeIn P (node_of.Named name chosen)
  named_node name None p = rw (outs-Named name None) (p, p)
  named_node name (Some v) p = rw (outs-Named name (Some v)) (tt, tt)

  chosen_made : (inside : Take ValueTree) → Makes P (ValueIn P) inside → Makes P Any (chosen_at inside)
  chosen_made inside makes = record { by = λ rest all. (tt, (makes.by (behind (after rest)) (one (after rest) all)).1) }

  named_made : (inside : Take ValueTree) → Makes P (ValueIn P) inside → (rest : Rest) → AreIn P rest.tokens → Made P (ValueNodeIn P) (named_value inside rest)
  unfolding named_value
  named_made inside makes rest all =
      let v = maybe (chosen_at inside) (behind rest) in
      (named_node (name_in rest) v.0 (name_at P start rest all), ((maybe_in P start Any (chosen_at inside) (chosen_made inside makes)).by (behind rest) (one rest all)).1)

  braces_node : (run : RunTree) → ValueNodeIn P (node_of.Braces run)
  braces_node run = rw (outs-Braces run) (tt, tt)

  text_node : (word : Word) → ValueNodeIn P (node_of.Text word)
  text_node word = rw (outs-Text word) (tt, tt)

  truth_node : (truth : Bool) → ValueNodeIn P (node_of.Truth truth)
  truth_node truth = rw (outs-Truth truth) (tt, tt)

  null_value : ValueNodeIn P node_of.Null
  null_value = rw outs-NullValue (tt, tt)

  braces_made : (rest : Rest) → AreIn P rest.tokens → Made P (ValueNodeIn P) (braces_value rest)
  unfolding braces_value
  braces_made rest all = let r = (run_made P start).by rest all in (braces_node (run_in rest).0, r.1)

  value_node_made : (inside : Take ValueTree) → Makes P (ValueIn P) inside → (rest : Rest) → AreIn P rest.tokens → Made P (ValueNodeIn P) (node_at inside rest)
  unfolding node_at
  value_node_made inside makes rest all =
      let s = after rest in
      let Q : ValueNode → Type 0 = ValueNodeIn P in
      if_in P start Q (choice_in rest == 0) _ _ (number_made true (behind s) (one s all))
      (if_in P start Q (choice_in rest == 1) _ _ (number_made false s all)
      (if_in P start Q (choice_in rest == 2) _ _ (text_node (word_in s), one s all)
      (if_in P start Q (choice_in rest == 3) _ _ (truth_node true, one s all)
      (if_in P start Q (choice_in rest == 4) _ _ (truth_node false, one s all)
      (if_in P start Q (choice_in rest == 5) _ _ (null_value, one s all)
      (if_in P start Q (choice_in rest == 6) _ _ (named_made inside makes s all) (braces_made s all)))))))

  value_made : (n : ℕ) → Makes P (ValueIn P) (value_within n)
  unfolding value_within
  value_made zero = record { by = λ rest all. (null_value, all) }
  value_made (suc n) = record { by = λ rest all. value_node_made (value_within n) (value_made n) rest all }

  value_at_made : Makes P (ValueIn P) value_at
  value_at_made = record { by = λ rest all. (value_made (length rest.choices)).by rest all }

  -- ---- enumerations

  signed_made : Makes P Any signed_at
  unfolding signed_at
  signed_made = record { by = λ rest all. if_in P start Any (choice_in rest == 0) _ _ (tt, two (after rest) all) (tt, one (after rest) all) }

  enum_number_made : Makes P Any enum_number_at
  unfolding enum_number_at
  enum_number_made = record { by = λ rest all. (tt, one (signed_at (behind (after rest))).1 (signed_made.by (behind (after rest)) (one (after rest) all)).1) }

  enum_made : Makes P (EnumIn P) enum_at
  unfolding enum_at
  enum_made = record {
    by = λ rest all.
        if_in P start (EnumIn P) (choice_in rest == 0) _ _
        ((name_at P start (after rest) all, tt), ((maybe_in P start Any enum_number_at enum_number_made).by (behind (after rest)) (one (after rest) all)).1)
        (tt, one (after rest) all);
  }

  -- ---- types

  presence_made : Makes P (PresenceIn P) presence_at
  unfolding presence_at
  presence_made = record {
    by = λ rest all.
        let v = value_at_made.by (behind (after rest)) (one (after rest) all) in
        if_in P start (PresenceIn P) (choice_in rest == 0) _ _ (tt, one (after rest) all) (v.0.0, v.1);
  }

  part_node : (name : Name) (kind : TypeTree) (presence : Option PresenceTree) → P name.place → TypeIn P kind → OptIn (PresenceIn P) presence → CompIn P (Part name kind presence)
  part_node name kind presence p q r depth n more all =
      let nodes = nodes_within depth n kind in
      let behind_it = all (n + length nodes) in
      rw (outs-Part name kind presence) (each_both (NodeIn P) nodes (more (n + length nodes)).nodes (q depth n) behind_it.0, ((p, default_in presence r), behind_it.1))
    where
      default_in : (presence : Option PresenceTree) → OptIn (PresenceIn P) presence → OptIn (NameIn P) (default_of presence)
      default_in None r = tt
      default_in (Some p) r = r

  part_made : (inside : Take TypeTree) → Makes P (TypeIn P) inside → (rest : Rest) → AreIn P rest.tokens → Made P (CompIn P) (part_at inside rest)
  unfolding part_at
  part_made inside makes rest all =
      let kind = makes.by (behind rest) (one rest all) in
      let presence = (maybe_in P start (PresenceIn P) presence_at presence_made).by (inside (behind rest)).1 kind.1 in
      (part_node (name_in rest) (inside (behind rest)).0 (maybe presence_at (inside (behind rest)).1).0 (name_at P start rest all) kind.0 presence.0, presence.1)

  extension_node : (place : Place) → CompIn P (Extension place)
  extension_node place depth n more all = rw (outs-Extension place) (all n)

  comp_made : (inside : Take TypeTree) → Makes P (TypeIn P) inside → Makes P (CompIn P) (comp_at inside)
  unfolding comp_at
  comp_made inside makes = record {
    by = λ rest all. if_in P start (CompIn P) (choice_in rest == 0) _ _ (part_made inside makes (after rest) all) (extension_node (place_in (after rest)), one (after rest) all);
  }

  comps_made : (inside : Take TypeTree) → Makes P (TypeIn P) inside → Makes P (AllByRecursion (CompIn P)) (listed (comp_at inside))
  comps_made inside makes = listed_in P start (CompIn P) (comp_at inside) (comp_made inside makes)

  some_comps_made : (inside : Take TypeTree) → Makes P (TypeIn P) inside → Makes P (AllByRecursion (CompIn P)) (some_comps_at inside)
  some_comps_made inside makes = record {
    by = λ rest all.
        let c = (maybe_in P start (AllByRecursion (CompIn P)) (comps_at inside) (record { by = λ r a. (comps_made inside makes).by (after r) a })).by rest all in
        (or_none_in (maybe (comps_at inside) rest).0 c.0, c.1);
  }
    where
      or_none_in : (o : Option (List CompTree)) → OptIn (AllByRecursion (CompIn P)) o → AllByRecursion (CompIn P) (or_none o)
      or_none_in None q = tt
      or_none_in (Some xs) q = q

  parts_in : (depth : ℕ) (comps : List CompTree) → AllByRecursion (CompIn P) comps → (n : ℕ) → PartsIn P (parts_of (nodes_within depth) comps n)
  parts_in depth [] all n = (tt, tt)
  parts_in depth (c ∷ cs) all n = all.0 depth n (parts_of (nodes_within depth) cs) (parts_in depth cs all.1)

  size_made : Makes P (SizeIn P) size_at
  unfolding size_at
  size_made = record {
    by = λ rest all. if_in P start (SizeIn P) (choice_in rest == 0) _ _ ((bracket_made P start).by (after rest) all) ((bracket_made P start).by (behind (after rest)) (one (after rest) all));
  }

  of_node : (size : Option SizeTree) (item : TypeTree) → TypeIn P item → OptIn (SizeIn P) size → OfIn P (roll-OfTree (record { size = size; item = item }))
  of_node size item q r = rw (out-roll-OfTree (record { size = size; item = item })) (q, limits_of_size_in P size r)

  of_made : (inside : Take TypeTree) → Makes P (TypeIn P) inside → Makes P (OfIn P) (of_at inside)
  unfolding of_at
  of_made inside makes = record {
    by = λ rest all.
        let s = (maybe_in P start (SizeIn P) size_at size_made).by rest all in
        let kind = makes.by (behind (maybe size_at rest).1) (one (maybe size_at rest).1 s.1) in
        (of_node (maybe size_at rest).0 (inside (behind (maybe size_at rest).1)).0 kind.0 s.0, kind.1);
  }

  sequence_node : (comps : List CompTree) → AllByRecursion (CompIn P) comps → BaseIn P (Sequence comps)
  sequence_node comps all depth n =
      let p = parts_in depth comps all n in
      rw (outs-Sequence comps) (each_both (NodeIn P) (parts_of (nodes_within depth) comps n).nodes _ p.0 (p.1, tt))

  choice_node : (comps : List CompTree) → AllByRecursion (CompIn P) comps → BaseIn P (Choice comps)
  choice_node comps all depth n =
      let p = parts_in depth comps all n in
      rw (outs-Choice comps) (each_both (NodeIn P) (parts_of (nodes_within depth) comps n).nodes _ p.0 (p.1, tt))

  sequence_of_node : (of : OfTree) → OfIn P of → BaseIn P (SequenceOf of)
  sequence_of_node of o depth n = rw (outs-SequenceOf of) (each_both (NodeIn P) (nodes_within depth n (out-OfTree of).item) _ (o.0 depth n) (o.1, tt))

  set_of_node : (of : OfTree) → OfIn P of → BaseIn P (SetOf of)
  set_of_node of o depth n = rw (outs-SetOf of) (each_both (NodeIn P) (nodes_within depth n (out-OfTree of).item) _ (o.0 depth n) (o.1, tt))

  sequence_made : (inside : Take TypeTree) → Makes P (TypeIn P) inside → (rest : Rest) → AreIn P rest.tokens → Made P (BaseIn P) (sequence_at inside rest)
  unfolding sequence_at
  sequence_made inside makes rest all =
      let comps = (some_comps_made inside makes).by (behind (after rest)) (one (after rest) all) in
      let of = (of_made inside makes).by (after rest) all in
      if_in P start (BaseIn P) (choice_in rest == 0) _ _
      (sequence_node (some_comps_at inside (behind (after rest))).0 comps.0, one (some_comps_at inside (behind (after rest))).1 comps.1)
      (sequence_of_node (of_at inside (after rest)).0 of.0, of.1)

  set_node : (run : RunTree) → BaseIn P (Set run)
  set_node run depth n = rw (outs-Set run) (tt, tt)

  set_made : (inside : Take TypeTree) → Makes P (TypeIn P) inside → (rest : Rest) → AreIn P rest.tokens → Made P (BaseIn P) (set_at inside rest)
  unfolding set_at
  set_made inside makes rest all =
      let run = (run_made P start).by (after rest) all in
      let of = (of_made inside makes).by (after rest) all in
      if_in P start (BaseIn P) (choice_in rest == 0) _ _ (set_node (run_in (after rest)).0, run.1) (set_of_node (of_at inside (after rest)).0 of.0, of.1)

  two_made : {X : Type 0} (Q : X → Type 0) (make : Option RunTree → Option RunTree → X) → ((a b : Option RunTree) → OptIn (RunIn P) b → Q (make a b)) → Makes P Q (two_runs make)
  two_made Q make made = record {
    by = λ rest all.
        let a = (maybe_in P start (RunIn P) bracket_in (bracket_made P start)).by rest all in
        let b = (maybe_in P start (RunIn P) bracket_in (bracket_made P start)).by (maybe bracket_in rest).1 a.1 in
        (made (maybe bracket_in rest).0 (maybe bracket_in (maybe bracket_in rest).1).0 b.0, b.1);
  }

  one_made : {X : Type 0} (Q : X → Type 0) (make : Option RunTree → X) → ((a : Option RunTree) → OptIn (RunIn P) a → Q (make a)) → Makes P Q (one_run make)
  one_made Q make made = record {
    by = λ rest all. let a = (maybe_in P start (RunIn P) bracket_in (bracket_made P start)).by rest all in (made (maybe bracket_in rest).0 a.0, a.1);
  }

  items_in : (items : List EnumTree) → AllByRecursion (EnumIn P) items → AllByRecursion (EnumeratorIn P) (enumerators_of items)
  items_in [] all = tt
  items_in (t ∷ ts) all = each_both (EnumeratorIn P) (enumerator_of t) (enumerators_of ts) all.0 (items_in ts all.1)

  enumerated_node : (items : List EnumTree) → AllByRecursion (EnumIn P) items → BaseIn P (Enumerated items)
  enumerated_node items all depth n = rw (outs-Enumerated items) (items_in items all, tt)

  enumerated_made : (rest : Rest) → AreIn P rest.tokens → Made P (BaseIn P) (enumerated_at rest)
  unfolding enumerated_at
  enumerated_made rest all =
      let items = (listed_in P start (EnumIn P) enum_at enum_made).by (behind rest) (one rest all) in
      (enumerated_node (listed enum_at (behind rest)).0 items.0, one (listed enum_at (behind rest)).1 items.1)

  choice_made : (inside : Take TypeTree) → Makes P (TypeIn P) inside → (rest : Rest) → AreIn P rest.tokens → Made P (BaseIn P) (choice_at inside rest)
  unfolding choice_at
  choice_made inside makes rest all =
      let comps = (comps_made inside makes).by (behind rest) (one rest all) in
      (choice_node (listed (comp_at inside) (behind rest)).0 comps.0, one (listed (comp_at inside) (behind rest)).1 comps.1)

  integer_node : (a b : Option RunTree) → OptIn (RunIn P) b → BaseIn P (Integer a b)
  integer_node a b q depth n = rw (outs-Integer a b) (limits_of_in P b q, tt)

  reference_node : (name : Name) → P name.place → (a : Option RunTree) → OptIn (RunIn P) a → BaseIn P (Reference name a)
  reference_node name p a q depth n = rw (outs-Reference name a) ((p, limits_of_in P a q), tt)

  real_node : (a : Option RunTree) → OptIn (RunIn P) a → BaseIn P (Real a)
  real_node a q depth n = rw (outs-Real a) (limits_of_in P a q, tt)

  octets_node : (a : Option RunTree) → OptIn (RunIn P) a → BaseIn P (OctetString a)
  octets_node a q depth n = rw (outs-OctetString a) (limits_of_in P a q, tt)

  bits_node : (a b : Option RunTree) → OptIn (RunIn P) b → BaseIn P (BitString a b)
  bits_node a b q depth n = rw (outs-BitString a b) (limits_of_in P b q, tt)

  boolean_node : BaseIn P Boolean
  boolean_node depth n = rw outs-Boolean (tt, tt)

  null_node : BaseIn P Null
  null_node depth n = rw outs-Null (tt, tt)

  object_node : BaseIn P ObjectIdentifier
  object_node depth n = rw outs-ObjectIdentifier (tt, tt)

  base_made : (c : ℕ) (inside : Take TypeTree) → Makes P (TypeIn P) inside → (rest : Rest) → AreIn P rest.tokens → Made P (BaseIn P) (base_by c inside rest)
  unfolding base_by
  base_made c inside makes rest all =
      let more = behind rest in
      let m = one rest all in
      let Q : BaseTree → Type 0 = BaseIn P in
      if_in P start Q (c == 0) _ _ ((two_made Q Integer integer_node).by more m)
      (if_in P start Q (c == 1) _ _ (boolean_node, m)
      (if_in P start Q (c == 2) _ _ ((one_made Q (Reference (name_in rest)) (reference_node (name_in rest) (name_at P start rest all))).by more m)
      (if_in P start Q (c == 3) _ _ (enumerated_made more m)
      (if_in P start Q (c == 4) _ _ (choice_made inside makes more m)
      (if_in P start Q (c == 5) _ _ (sequence_made inside makes more m)
      (if_in P start Q (c == 6) _ _ (set_made inside makes more m)
      (if_in P start Q (c == 7) _ _ ((one_made Q Real real_node).by more m)
      (if_in P start Q (c == 8) _ _ (null_node, m)
      (if_in P start Q (c == 9) _ _ ((one_made Q OctetString octets_node).by (behind more) (one more m))
      (if_in P start Q (c == 10) _ _ (object_node, one more m) ((two_made Q BitString bits_node).by (behind more) (one more m))))))))))))

  tag_mode_made : Makes P Any tag_mode_at
  unfolding tag_mode_at
  tag_mode_made = record { by = λ rest all. (tt, one (after rest) all) }

  tag_made : Makes P Any tag_at
  unfolding tag_at
  tag_made = record { by = λ rest all. (tt, ((maybe_in P start Any tag_mode_at tag_mode_made).by (bracket_in rest).1 ((bracket_made P start).by rest all).1).1) }

  base_type : (place : Place) (tag : Option TagTree) (b : BaseTree) → BaseIn P b → TypeIn P (record { place = place; tag = tag; base = b })
  base_type place tag b q zero n = tt
  base_type place tag b q (suc depth) n = q depth n

  type_by_made : (inside : Take TypeTree) → Makes P (TypeIn P) inside → (rest : Rest) → AreIn P rest.tokens → Made P (TypeIn P) (type_by inside rest)
  unfolding type_by
  type_by_made inside makes rest all =
      let tag = maybe tag_at (after rest) in
      let t = (maybe_in P start Any tag_at tag_made).by (after rest) all in
      let b = base_made (choice_in tag.1) inside makes (after tag.1) t.1 in
      (base_type (place_in rest) tag.0 (base_at inside tag.1).0 b.0, b.1)

  type_made : (n : ℕ) → Makes P (TypeIn P) (type_within n)
  unfolding type_within
  type_made zero = record { by = λ rest all. (base_type (place_in rest) None Null null_node, all) }
  type_made (suc n) = record { by = λ rest all. type_by_made (type_within n) (type_made n) rest all }

  type_at_made : Makes P (TypeIn P) type_at
  type_at_made = record { by = λ rest all. (type_made (length rest.choices)).by rest all }

  -- ---- modules

  assignment_made : Makes P (AssignmentIn P) assignment_at
  unfolding assignment_at
  assignment_made = record {
    by = λ rest all.
        let s = after rest in
        let name = name_at P start s all in
        let a = type_at_made.by (behind (behind s)) (two s all) in
        let b = type_at_made.by (behind s) (one s all) in
        let v = value_at_made.by (behind (type_at (behind s)).1) (one (type_at (behind s)).1 b.1) in
        if_in P start (AssignmentIn P) (choice_in rest == 0) _ _ ((name, a.0), a.1) ((name, b.0, v.0), v.1);
  }

  symbol_made : Makes P (SymbolIn P) symbol_at
  unfolding symbol_at
  symbol_made = record { by = λ rest all. (by_kind (choice_in rest == 0) (name_in (after rest)) (name_at P start (after rest) all), one (after rest) all) }
    where
      by_kind : (b : Bool) (name : Name) → P name.place → SymbolIn P (if b then symbol.Type name else symbol.Value name)
      by_kind true name p = p
      by_kind false name p = p

  import_made : Makes P (ImportIn P) import_at
  unfolding import_at
  import_made = record {
    by = λ rest all.
        let symbols = (listed_in P start (SymbolIn P) symbol_at symbol_made).by (after rest) all in
        let after_symbols = (listed symbol_at (after rest)).1 in
        (symbols.0, ((maybe_in P start (RunIn P) bracket_in (bracket_made P start)).by (behind (behind after_symbols)) (two after_symbols symbols.1)).1);
  }

  imports_made : Makes P (ImportsIn P) imports_at
  unfolding imports_at
  imports_made = record {
    by = λ rest all.
        let imports = (more_in P start (ImportIn P) import_at import_made [] tt).by (behind (after rest)) (one (after rest) all) in
        (imports.0, one (more_of import_at [] (behind (after rest))).1 imports.1);
  }

  exports_made : Makes P Any exports_at
  unfolding exports_at
  exports_made = record {
    by = λ rest all. (tt, one (passed behind_one (behind (after rest))) (passed_in P start behind_one (behind_one_in P start) (behind (after rest)) (one (after rest) all)));
  }

  tagging_made : Makes P Any tagging_at
  unfolding tagging_at
  tagging_made = record { by = λ rest all. (tt, two (after rest) all) }

  module_made : Makes P (ModuleIn P) module_at
  unfolding module_at
  module_made = record {
    by = λ rest all.
        let object = (maybe_in P start (RunIn P) bracket_in (bracket_made P start)).by (behind (after rest)) (one (after rest) all) in
        let r1 = (maybe bracket_in (behind (after rest))).1 in
        let tagging = (maybe_in P start Any tagging_at tagging_made).by (behind r1) (one r1 object.1) in
        let r2 = (maybe tagging_at (behind r1)).1 in
        let exports = (maybe_in P start Any exports_at exports_made).by (behind (behind r2)) (two r2 tagging.1) in
        let r3 = (maybe exports_at (behind (behind r2))).1 in
        let imports = (maybe_in P start (ImportsIn P) imports_at imports_made).by r3 exports.1 in
        let r4 = (maybe imports_at r3).1 in
        let assignments = (more_in P start (AssignmentIn P) assignment_at assignment_made [] tt).by r4 imports.1 in
        (record { imports = imports.0; assignments = assignments.0 }, one (more_of assignment_at [] r4).1 assignments.1);
  }

  pub modules_made : Makes P (AllByRecursion (ModuleIn P)) modules_at
  unfolding modules_at
  modules_made = record { by = λ rest all. (more_in P start (ModuleIn P) module_at module_made [] tt).by (after rest) all }

  pub trees_are_in : (choices : List ℕ) (tokens : List Spanned) → AreIn P tokens → AllByRecursion (ModuleIn P) (trees_of choices tokens)
  trees_are_in choices tokens all = (modules_made.by (record { choices = choices; tokens = tokens }) all).0

-- ---- laid out flat

module _ (P : Place → Type 0) where
  assigned_in : (flat : Flat) (a : AssignmentTree) → FlatIn P flat → AssignmentIn P a → FlatIn P (with_assignment flat a)
  assigned_in flat (assignment.Type name kind) f q = record {
    nodes = each_both (NodeIn P) flat.nodes (nodes_of (length flat.nodes) kind) f.nodes (q.1 (size-TypeTree kind) (length flat.nodes));
    types = each_both (λ (t : TypeNode). P t.name.place) flat.types _ f.types (q.0, tt);
    constants = f.constants;
  }
  assigned_in flat (assignment.Value name kind v) f q = record {
    nodes = each_both (NodeIn P) flat.nodes (nodes_of (length flat.nodes) kind) f.nodes (q.1 (size-TypeTree kind) (length flat.nodes));
    types = f.types;
    constants = each_both (λ (c : ConstantNode). P c.name.place × ConstantValueIn P c.value) flat.constants _ f.constants ((q.0, q.2.1), tt);
  }

  all_assigned_in : (flat : Flat) (assignments : List AssignmentTree) → FlatIn P flat → AllByRecursion (AssignmentIn P) assignments → FlatIn P (with_assignments flat assignments)
  all_assigned_in flat [] f all = f
  all_assigned_in flat (a ∷ rest) f all = all_assigned_in (with_assignment flat a) rest (assigned_in flat a f all.0) all.1

  modules_in : (flat : Flat) (modules : List ModuleTree) → FlatIn P flat → AllByRecursion (ModuleIn P) modules → FlatIn P (with_modules flat modules)
  modules_in flat [] f all = f
  modules_in flat (m ∷ ms) f all = modules_in (with_assignments flat m.assignments) ms (all_assigned_in flat m.assignments f all.0.assignments) all.1

  pub flat_is_in : (modules : List ModuleTree) → AllByRecursion (ModuleIn P) modules → FlatIn P (flat_of modules)
  flat_is_in modules all = modules_in no_flat modules (record { nodes = tt; types = tt; constants = tt }) all
