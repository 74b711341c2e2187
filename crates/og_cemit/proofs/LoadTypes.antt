-- Each statement of the program is typed.
use Rattle.std.proofs.Common.{◌≡◌, ℕ, zero, suc, ◌+◌, ◌<◌, ◌≤◌, List, [], ◌∷◌, Bool, true, false, cond, not, ◌&&◌, Option, Some, None, map, length, slice_get, nat_lt, refl, sym, ap, subst, ◌∙◌, arith, eqb-true}
use Rattle.std.specs.List.{list_all}
use Rattle.std.specs.Str.{bytes_eq}
use Rattle.std.proofs.lemmas.Bool.{false≢true}
use Rattle.std.proofs.lemmas.Option.{none-some}
use Rattle.og_names.specs.declared.Word.{Word}
use Rattle.og_names.proofs.Truths.{both_first as left_of, both_second as right_of, both_true as both, same_value}
use Rattle.og_model.specs.declared.Model.{Model}
use Rattle.og_ir.specs.declared.Ir.{Ir}
use Rattle.og_ir.specs.declared.SlotDef.{SlotDef}
use Rattle.og_ir.specs.declared.FlatFn.{FlatFn}
use Rattle.og_ir.specs.declared.Instr.{Instr}
use Rattle.og_ir.specs.declared.Instr.TheVariants as instr
use Rattle.og_ir.specs.declared.Slot.{Slot, size-Slot}
use Rattle.og_ir.specs.declared.Step2.{Step2, size-Step2}
use Rattle.og_ir.specs.declared.Step2.TheVariants as step
use Rattle.og_ir.specs.declared.Flat.{Flat, out-Flat, size-Flat, Flat-F}
use Rattle.og_ir.specs.declared.Flat.TheOpen as flat
use Rattle.og_ir.specs.Cells as opt
use Rattle.og_ir.specs.Cells.{Cells}
use Rattle.og_ir.specs.Reading.{blank}
use Rattle.og_ir.specs.FlatSteps.{blank_slot}
use Rattle.og_ir.proofs.Depth.{depth_of_parts, depth_is, path_below, index_below}
use Rattle.og_csubset.specs.declared.CType.TheVariants.{Int64}
use Rattle.og_csubset.specs.declared.CFunction.{CFunction}
use Rattle.og_csubset.specs.declared.CStmt.{CStmt}
use Rattle.og_csubset.specs.declared.CStmt.TheVariants.{Label}
use Rattle.og_csubset.specs.declared.CExpr.{CExpr, out-CExpr}
use Rattle.og_csubset.specs.declared.CExpr as c
use Rattle.og_csubset.specs.declared.CExpr.TheViews.{outs-Number, outs-Read, outs-Op}
use Rattle.og_csubset.specs.Kinds.{Kind, same_type, type_of_one, member_of, element_of}
use Rattle.og_csubset.specs.Loading as load
use Rattle.og_csubset.specs.Loading.{is_number_type, kind_after, type_by, type_of_place, type_of_shape, type_of, agree, is_typed, breaks_K5}
use Rattle.og_csubset.specs.Fair.{Held, One, Whole, Array, held_as, held_in_slot, field_of, held_after, held_at, is_one, same_held, joins, number_by, is_number, is_right, Fair}
use Rattle.og_csubset.proofs.Depth.{is_number_is}
use Rattle.og_csubset.proofs.FairParts.{number_is}
use Rattle.og_csubset.proofs.Steady.{all_at}
use Rattle.og_csubset.specs.FlatText.{operator_of}
use Rattle.og_cemit.specs.Marks.{is_marked}
use Rattle.og_cemit.specs.Structs.{prefix_of, struct_word, type_held, type_of_slot, member_words, member_word, structs_of, AreFew}
use Rattle.og_cemit.specs.Emitted.{Selector, selectors, held_in_def, place_of, number_of, selector_of, calls_function, calls_event, statement_at, label_at, label_before, statements_at, statements_from, targets, function_of, program_of}
use Rattle.og_cemit.proofs.Names.{same_bytes}
use Rattle.og_cemit.proofs.Opens.{selector-Field, selector-Index}
use Rattle.og_cemit.proofs.Parts.{slot_kind, right_at}
use Rattle.og_cemit.proofs.Structures.{Stands, is_array, kind_of_type, stands_type, FieldStands, field_stands, slot_stands}
use Rattle.og_cemit.proofs.Tests.{all_append}
use Rattle.og_cemit.proofs.Values.{none_if, steps_of, expression_of, number_of_is}
use denote.Param.Weighed.{most}

-- ---- statements and functions, one by one

pub body_all : (q : CStmt → Bool) → ((w : Word) → q (Label w) ≡ true)
    → (ir : Ir) (model : Model) (g : FlatFn) (marks : List Bool) (place : ℕ) (code : List Instr)
    → ((j : ℕ) (i : Instr) → slice_get code j ≡ Some i → q (statement_at ir model g i) ≡ true)
    → list_all q (statements_from ir model g marks place code) ≡ true
body_all q label ir model g marks place [] h = refl
body_all q label ir model g marks place (i ∷ code) h =
    all_append q (statements_at ir model g marks place i) (statements_from ir model g marks (place + 1) code)
    (all_append q (label_before (is_marked marks place) g place) (statement_at ir model g i ∷ []) (labelled (is_marked marks place)) (both (q (statement_at ir model g i)) true (h 0 i refl) refl))
    (body_all q label ir model g marks (place + 1) code (λ j x e. h (suc j) x e))
  where
    labelled : (mark : Bool) → list_all q (label_before mark g place) ≡ true
    labelled false = refl
    labelled true = both (q (Label (label_at g place))) true (label (label_at g place)) refl

pub functions_all : (q : CFunction → Bool) (ir : Ir) (model : Model) (functions : List FlatFn)
    → ((k : ℕ) (g : FlatFn) → slice_get functions k ≡ Some g → q (function_of ir model g) ≡ true)
    → list_all q (map (function_of ir model) functions) ≡ true
functions_all q ir model [] h = refl
functions_all q ir model (g ∷ functions) h = both (q (function_of ir model g)) _ (h 0 g refl) (functions_all q ir model functions (λ k x e. h (suc k) x e))

-- ---- types

module _ (ir : Ir) (model : Model) (fair : Fair ir model) (few : AreFew model.types) where
  -- what the selectors of a place lead to
  record Led (o : Option Kind) (final : Held) : Type 0 where
    kind : Kind
    found : o ≡ Some kind
    shape : Cells
    stands : Stands ir model kind final shape

  module _ (number : CExpr → Bool) (d : ℕ) (h : (e : Flat) → size-Flat e ≤ d → is_number model.types ir e ≡ true → number (number_of ir model e) ≡ true) where
    abbrev Leads : List Step2 → Type 0
    Leads steps = (kind : Kind) (held : Held) (whole : Cells) (final : Held) → most size-Step2 steps ≤ d → Stands ir model kind held whole
        → held_after (is_number model.types ir) model.types steps held ≡ Some final
        → Led (kind_after number (structs_of ir model) kind (steps_of ir model fair few (Some held) steps)) final

    field_led : (k : ℕ) (steps : List Step2) → Leads steps → Leads (step.Field k ∷ steps)
    field_led k steps more kind held whole final deep st e = by_field (field_of model.types k held) refl e
      where
        by_field : (o : Option Held) → field_of model.types k held ≡ o → opt.◌>>=◌ o (held_after (is_number model.types ir) model.types steps) ≡ Some final
            → Led (kind_after number (structs_of ir model) kind (steps_of ir model fair few (Some held) (step.Field k ∷ steps))) final
        by_field None e' q = absurd (none-some final q)
        by_field (Some inner) e' q = record {
          kind = rest.kind;
          found =
              ap (λ (x : Selector). kind_after number (structs_of ir model) kind (selectors (member_words model) model.types (Some held) (x ∷ map (selector_of ir model) steps))) (selector-Field ir model k)
              ∙ ap (λ o. opt.◌>>=◌ (member_of (structs_of ir model) kind (member_word (member_words model) (Some held) k).bytes) (λ found. kind_after number (structs_of ir model) found.1 (steps_of ir model fair few o steps))) e'
              ∙ ap (λ o. opt.◌>>=◌ o (λ found. kind_after number (structs_of ir model) found.1 (steps_of ir model fair few (Some inner) steps))) one.found
              ∙ rest.found;
          shape = rest.shape;
          stands = rest.stands;
        }
          where
            one : FieldStands ir model fair few kind held k whole inner
            one = field_stands ir model fair few kind held whole k inner st e'

            rest : Led (kind_after number (structs_of ir model) one.behind (steps_of ir model fair few (Some inner) steps)) final
            rest = more one.behind inner one.shape final (omega (arith, deep)) one.stands q

    index_led : (e : Flat) (steps : List Step2) → Leads steps → Leads (step.Index e ∷ steps)
    index_led e steps more kind One whole final deep st q = absurd (none_if (is_number model.types ir e) final q)
    index_led e steps more kind (Whole t) whole final deep st q = absurd (none_if (is_number model.types ir e) final q)
    index_led e steps more kind (Array item) whole final deep st q = by_number (is_number model.types ir e) refl q
      where
        by_inner : is_number model.types ir e ≡ true → (o : Option Held) → held_as model.types item ≡ o
            → opt.◌>>=◌ o (held_after (is_number model.types ir) model.types steps) ≡ Some final
            → Led (kind_after number (structs_of ir model) kind (steps_of ir model fair few (Some (Array item)) (step.Index e ∷ steps))) final
        by_inner numeric None e' q' = absurd (none-some final q')
        by_inner numeric (Some inner) e' q' = record {
          kind = rest.kind;
          found =
              ap (λ (x : Selector). kind_after number (structs_of ir model) kind (selectors (member_words model) model.types (Some (Array item)) (x ∷ map (selector_of ir model) steps))) (selector-Index ir model e)
              ∙ ap (λ b. cond b (opt.◌>>=◌ (element_of kind) (λ element. kind_after number (structs_of ir model) element (steps_of ir model fair few (held_as model.types item) steps))) None) (h e (index_below e steps d deep) numeric)
              ∙ ap (λ (k : Kind). opt.◌>>=◌ (element_of k) (λ element. kind_after number (structs_of ir model) element (steps_of ir model fair few (held_as model.types item) steps))) st.kind_is
              ∙ ap (λ o. kind_after number (structs_of ir model) (kind_of_type ir model item) (steps_of ir model fair few o steps)) e'
              ∙ rest.found;
          shape = rest.shape;
          stands = rest.stands;
        }
          where
            rest : Led (kind_after number (structs_of ir model) (kind_of_type ir model item) (steps_of ir model fair few (Some inner) steps)) final
            rest = more (kind_of_type ir model item) inner (blank model.types item) final (omega (arith, deep)) (stands_type ir model fair few item inner st.marked e') q'

        by_number : (b : Bool) → is_number model.types ir e ≡ b
            → cond b (opt.◌>>=◌ (held_as model.types item) (held_after (is_number model.types ir) model.types steps)) None ≡ Some final
            → Led (kind_after number (structs_of ir model) kind (steps_of ir model fair few (Some (Array item)) (step.Index e ∷ steps))) final
        by_number false e' q' = absurd (none-some final q')
        by_number true e' q' = by_inner e' (held_as model.types item) refl q'

    leads : (steps : List Step2) → Leads steps
    leads [] kind held whole final deep st q = record {
      kind = kind;
      found = refl;
      shape = whole;
      stands = subst (λ x. Stands ir model kind x whole) (same_value held final q) st;
    }
    leads (step.Field k ∷ steps) kind held whole final deep st q = field_led k steps (leads steps) kind held whole final deep st q
    leads (step.Index e ∷ steps) kind held whole final deep st q = index_led e steps (leads steps) kind held whole final deep st q

    -- a place has the type of what it holds
    place_typed : (slot : Slot) (final : Held) → size-Slot slot ≤ d → held_at model.types ir slot ≡ Some final → is_array (Some final) ≡ false
        → type_by number (program_of ir model) (place_of ir model slot) ≡ Some (type_held (prefix_of ir) (Some final))
    place_typed slot final deep e single = by_def (slice_get ir.slots slot.base) refl e
      where
        of_kind : (f : Held) (kind : Kind) (shape : Cells) → Stands ir model kind f shape → is_array (Some f) ≡ false → type_of_one kind ≡ Some (type_held (prefix_of ir) (Some f))
        of_kind One kind shape st q = ap type_of_one st.0
        of_kind (Whole t) kind shape st q = ap type_of_one st.kind_is ∙ ap (λ o. Some (type_held (prefix_of ir) o)) st.held
        of_kind (Array t) kind shape st q = absurd (false≢true (sym q))

        by_held : (def : SlotDef) → slice_get ir.slots slot.base ≡ Some def → (o : Option Held) → held_in_slot model.types def.sort ≡ o
            → opt.◌>>=◌ o (held_after (is_number model.types ir) model.types slot.path) ≡ Some final
            → type_by number (program_of ir model) (place_of ir model slot) ≡ Some (type_held (prefix_of ir) (Some final))
        by_held def e' None e'' q = absurd (none-some final q)
        by_held def e' (Some held) e'' q =
            let led = leads slot.path (record { type = type_of_slot (prefix_of ir) model.types def.sort; size = None }) held (blank_slot model.types def.sort) final
            (path_below slot d deep) (slot_stands ir model fair few slot.base def held e' e'') q in
            ap (λ o. opt.◌>>=◌ o (λ kind. opt.◌>>=◌ (kind_after number (structs_of ir model) kind (place_of ir model slot).path) type_of_one)) (slot_kind ir model fair slot.base def e')
            ∙ ap (λ o. opt.◌>>=◌ (kind_after number (structs_of ir model) (record { type = type_of_slot (prefix_of ir) model.types def.sort; size = None }) (steps_of ir model fair few o slot.path)) type_of_one) (ap (held_in_def model.types) e' ∙ e'')
            ∙ ap (λ o. opt.◌>>=◌ o type_of_one) led.found
            ∙ of_kind final led.kind led.shape led.stands single

        by_def : (o : Option SlotDef) → slice_get ir.slots slot.base ≡ o
            → opt.◌>>=◌ o (λ def. opt.◌>>=◌ (held_in_slot model.types def.sort) (held_after (is_number model.types ir) model.types slot.path)) ≡ Some final
            → type_by number (program_of ir model) (place_of ir model slot) ≡ Some (type_held (prefix_of ir) (Some final))
        by_def None e' q = absurd (none-some final q)
        by_def (Some def) e' q = by_held def e' (held_in_slot model.types def.sort) refl q

  one_held : (o : Option Held) → is_one o ≡ true → o ≡ Some One
  one_held None h = absurd (false≢true h)
  one_held (Some One) h = refl
  one_held (Some (Whole t)) h = absurd (false≢true h)
  one_held (Some (Array t)) h = absurd (false≢true h)

  -- expressions are numbers
  by_shape : (d : ℕ)
      → ((e : Flat) → size-Flat e ≤ d → is_number model.types ir e ≡ true → load.is_number (program_of ir model) (number_of ir model e) ≡ true)
      → (shape : Flat-F Flat Step2 Slot) → depth_of_parts shape ≤ d
      → number_by (is_number model.types ir) model.types ir shape ≡ true → load.is_number (program_of ir model) (expression_of ir model shape) ≡ true
  by_shape d part (flat.Number n) deep r =
      is_number_is (program_of ir model) (c.Number n) ∙ ap (load.number_by (load.is_number (program_of ir model)) (program_of ir model)) (outs-Number n)
  by_shape d part (flat.Read slot) deep r =
      is_number_is (program_of ir model) (c.Read (place_of ir model slot)) ∙ ap (load.number_by (load.is_number (program_of ir model)) (program_of ir model)) (outs-Read (place_of ir model slot))
      ∙ ap is_number_type (place_typed (load.is_number (program_of ir model)) d part slot One deep (one_held (held_at model.types ir slot) r) refl)
  by_shape d part (flat.Op o a b) deep r =
      is_number_is (program_of ir model) (c.Op (operator_of o) (number_of ir model a) (number_of ir model b))
      ∙ ap (load.number_by (load.is_number (program_of ir model)) (program_of ir model)) (outs-Op (operator_of o) (number_of ir model a) (number_of ir model b))
      ∙ both _ _ (part a (omega (arith, deep)) (left_of _ _ r)) (part b (omega (arith, deep)) (right_of (is_number model.types ir a) _ r))

  within_number : (d : ℕ) (e : Flat) → size-Flat e ≤ d → is_number model.types ir e ≡ true
      → load.is_number (program_of ir model) (number_of ir model e) ≡ true
  within_number zero e deep right = absurd (let size = depth_is e in omega (arith, deep, size))
  within_number (suc d) e deep right =
      let size = depth_is e in
      ap (load.is_number (program_of ir model)) (number_of_is ir model e)
      ∙ by_shape d (within_number d) (out-Flat e) (omega (arith, deep, size)) (sym (number_is model.types ir e) ∙ right)

  number_typed : (e : Flat) → is_number model.types ir e ≡ true → load.is_number (program_of ir model) (number_of ir model e) ≡ true
  number_typed e right = within_number (size-Flat e) e (omega arith) right

  slot_typed : (slot : Slot) (final : Held) → held_at model.types ir slot ≡ Some final → is_array (Some final) ≡ false
      → type_of_place (program_of ir model) (place_of ir model slot) ≡ Some (type_held (prefix_of ir) (Some final))
  slot_typed slot final e single = place_typed (load.is_number (program_of ir model)) (size-Slot slot) (λ x less right. number_typed x right) slot final (omega arith) e single

  -- a right side is a number
  side_typed : (e : Flat) → is_number model.types ir e ≡ true → type_of (program_of ir model) (number_of ir model e) ≡ Some Int64
  side_typed e right =
      ap (λ x. type_of_shape (program_of ir model) (number_of ir model e) (out-CExpr x)) (number_of_is ir model e) ∙ by_side (out-Flat e) refl
    where
      numeric : cond (load.is_number (program_of ir model) (number_of ir model e)) (Some Int64) None ≡ Some Int64
      numeric = ap (λ b. cond b (Some Int64) None) (number_typed e right)

      by_side : (shape : Flat-F Flat Step2 Slot) → out-Flat e ≡ shape
          → type_of_shape (program_of ir model) (number_of ir model e) (out-CExpr (expression_of ir model shape)) ≡ Some Int64
      by_side (flat.Number n) is = ap (type_of_shape (program_of ir model) (number_of ir model e)) (outs-Number n) ∙ numeric
      by_side (flat.Op o a b) is = ap (type_of_shape (program_of ir model) (number_of ir model e)) (outs-Op (operator_of o) (number_of ir model a) (number_of ir model b)) ∙ numeric
      by_side (flat.Read slot) is =
          ap (type_of_shape (program_of ir model) (number_of ir model e)) (outs-Read (place_of ir model slot))
          ∙ slot_typed slot One (one_held (held_at model.types ir slot) (sym (ap (number_by (is_number model.types ir) model.types ir) is) ∙ (sym (number_is model.types ir e) ∙ right))) refl

  -- places of one type
  copy_typed : (to from : Slot) (o o' : Option Held) → held_at model.types ir to ≡ o → held_at model.types ir from ≡ o' → joins o o' ≡ true
      → agree (type_of_place (program_of ir model) (place_of ir model to)) (type_of (program_of ir model) (c.Read (place_of ir model from))) ≡ true
  copy_typed to from None o' e e' h = absurd (false≢true h)
  copy_typed to from (Some a) None e e' h = absurd (false≢true h)
  copy_typed to from (Some a) (Some b) e e' h =
      ap (λ t. agree t (type_of (program_of ir model) (c.Read (place_of ir model from)))) (slot_typed to a e (single a b h))
      ∙ ap (λ x. agree (Some (type_held (prefix_of ir) (Some a))) (type_of_shape (program_of ir model) (c.Read (place_of ir model from)) x)) (outs-Read (place_of ir model from))
      ∙ ap (agree (Some (type_held (prefix_of ir) (Some a)))) (slot_typed from b e' (other a b h))
      ∙ same_types a b h
    where
      single : (x y : Held) → same_held x y ≡ true → is_array (Some x) ≡ false
      single One y q = refl
      single (Whole t) y q = refl
      single (Array t) y q = absurd (false≢true q)

      other : (x y : Held) → same_held x y ≡ true → is_array (Some y) ≡ false
      other One One q = refl
      other One (Whole u) q = refl
      other One (Array u) q = absurd (false≢true q)
      other (Whole t) One q = refl
      other (Whole t) (Whole u) q = refl
      other (Whole t) (Array u) q = absurd (false≢true q)
      other (Array t) y q = absurd (false≢true q)

      same_types : (x y : Held) → same_held x y ≡ true → same_type (type_held (prefix_of ir) (Some x)) (type_held (prefix_of ir) (Some y)) ≡ true
      same_types One One q = refl
      same_types One (Whole u) q = absurd (false≢true q)
      same_types One (Array u) q = absurd (false≢true q)
      same_types (Whole t) One q = absurd (false≢true q)
      same_types (Whole t) (Whole u) q =
          ap (λ n. bytes_eq (struct_word (prefix_of ir) t.0).bytes (struct_word (prefix_of ir) n).bytes) (sym (eqb-true t.0 u.0 q)) ∙ same_bytes (struct_word (prefix_of ir) t.0).bytes
      same_types (Whole t) (Array u) q = absurd (false≢true q)
      same_types (Array t) y q = absurd (false≢true q)

  -- ---- statements

  statement_typed : (earlier : ℕ) (g : FlatFn) (i : Instr) → is_right model.types ir earlier (length g.code) i ≡ true
      → is_typed (program_of ir model) (statement_at ir model g i) ≡ true
  statement_typed earlier g (instr.Set slot e) right =
      ap (λ t. agree t (type_of (program_of ir model) (number_of ir model e))) (slot_typed slot One (one_held (held_at model.types ir slot) (left_of (is_one (held_at model.types ir slot)) (is_number model.types ir e) right)) refl)
      ∙ ap (agree (Some Int64)) (side_typed e (right_of (is_one (held_at model.types ir slot)) (is_number model.types ir e) right))
  statement_typed earlier g (instr.Copy to from) right = copy_typed to from (held_at model.types ir to) (held_at model.types ir from) refl refl right
  statement_typed earlier g (instr.Branch test to) right =
      let numbers = left_of (is_number model.types ir test.left && is_number model.types ir test.right) (nat_lt to (length g.code)) right in
      both _ _ (number_typed test.left (left_of _ _ numbers))
      (number_typed test.right (right_of (is_number model.types ir test.left) _ numbers))
  statement_typed earlier g (instr.Goto to) right = refl
  statement_typed earlier g (instr.Table e cases otherwise) right =
      number_typed e (left_of _ _ (left_of _ _ (left_of _ (nat_lt otherwise (length g.code)) right)))
  statement_typed earlier g (instr.Call k) right = by_function (slice_get ir.functions k)
    where
      by_function : (o : Option FlatFn) → is_typed (program_of ir model) (calls_function o) ≡ true
      by_function None = refl
      by_function (Some h) = refl
  statement_typed earlier g (instr.Emit k) right = by_event (slice_get ir.events k)
    where
      by_event : (o : Option Word) → is_typed (program_of ir model) (calls_event o) ≡ true
      by_event None = refl
      by_event (Some h) = refl
  statement_typed earlier g instr.Back right = refl

pub keeps_K5 : (ir : Ir) (model : Model) → Fair ir model → AreFew model.types → breaks_K5 (program_of ir model) ≡ false
keeps_K5 ir model fair few =
    ap not (functions_all (λ f. list_all (is_typed (program_of ir model)) f.body) ir model ir.functions (λ k g e.
    body_all (is_typed (program_of ir model)) (λ w. refl) ir model g (targets g.code) 0 g.code (λ j i e'.
    statement_typed ir model fair few (0 + k) g i
    (all_at (is_right model.types ir (0 + k) (length g.code)) g.code j i (right_at model.types ir 0 ir.functions k g fair.right e) e'))))
