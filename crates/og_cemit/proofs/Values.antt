-- A path leads to the same part on both sides, and a number of flat code and its expression have the same value.
use Rattle.std.proofs.Common.{◌≡◌, ℕ, zero, suc, ◌+◌, ◌<◌, ◌≤◌, ℤ, pos, negsuc, List, [], ◌∷◌, Bool, true, false, cond, ◌&&◌, Option, Some, None, Result, Ok, Err, map, length, slice_get, nat_lt, refl, sym, ap, subst, ◌∙◌, arith}
use Rattle.std.specs.Prelude.{option_map}
use Rattle.std.proofs.lemmas.Bool.{false≢true, lt-ltb, le-ltb, ltb-true, ltb-false}
use Rattle.std.proofs.lemmas.Option.{none-some}
use Rattle.og_names.proofs.Truths.{both_first as left_of, both_second as right_of, same_value}
use Rattle.og_types.specs.declared.Sort.{Sort}
use Rattle.og_types.specs.declared.TypeId.{TypeId}
use Rattle.og_model.specs.declared.Model.{Model}
use Rattle.og_ir.specs.declared.Ir.{Ir}
use Rattle.og_ir.specs.declared.SlotDef.{SlotDef}
use Rattle.og_ir.specs.declared.Slot.{Slot, size-Slot, fold-roll-Slot}
use Rattle.og_ir.specs.declared.Step2.{Step2, size-Step2}
use Rattle.og_ir.specs.declared.Step2.TheVariants as step
use Rattle.og_ir.specs.declared.Flat.{Flat, out-Flat, roll-Flat, size-Flat, Flat-F, roll-out-Flat, fold-roll-Flat}
use Rattle.og_ir.specs.declared.Flat.TheOpen as flat
use Rattle.og_ir.specs.declared.FlatOp.{FlatOp}
use Rattle.og_ir.specs.declared.FlatOp.TheVariants as op
use Rattle.og_ir.specs.declared.FlatRel.{FlatRel}
use Rattle.og_ir.specs.declared.FlatRel.TheVariants as rel
use Rattle.og_ir.specs.declared.Test.{Test}
use Rattle.og_ir.specs.Cells as opt
use Rattle.og_ir.specs.Cells.{Cells, Cell, equal_parts, part, part_at, global, number_in}
use Rattle.og_ir.specs.Reading.{natural, below, only_if, blank}
use Rattle.og_ir.specs.Arithmetic.{Trouble, Index, Value, ◌>>=◌, or_else, in_64_bits}
use Rattle.og_ir.specs.FlatSteps as f
use Rattle.og_ir.specs.FlatSteps.{Spot, first_slots, blank_slot}
use Rattle.og_ir.proofs.Depth as flat_depth
use Rattle.og_ir.proofs.Depth.{bind_same, depth_of_parts, path_below, index_below}
use Rattle.og_csubset.specs.declared.CExpr.{CExpr, out-CExpr}
use Rattle.og_csubset.specs.declared.CExpr as c
use Rattle.og_csubset.specs.declared.CStep.{CStep, Member, At}
use Rattle.og_csubset.specs.declared.CExpr.TheViews.{outs-Number, outs-Read, outs-Op}
use Rattle.og_csubset.specs.Kinds.{Kind, member_of, element_of, global_kind}
use Rattle.og_csubset.specs.Step as s
use Rattle.og_csubset.specs.Fair.{Held, One, Whole, Array, held_as, held_in_slot, field_of, item_of, held_after, held_at, is_one, number_by, is_number, Fair}
use Rattle.og_csubset.proofs.Depth as c_depth
use Rattle.og_csubset.proofs.FairParts.{number_is}
use Rattle.og_csubset.specs.FlatText.{slot_word, operator_of, relation_of}
use Rattle.og_cemit.specs.Structs.{prefix_of, member_words, member_word, type_of_slot, structs_of, AreFew}
use Rattle.og_cemit.specs.Emitted.{Selector, held_in_def, selectors, place_of, number_layer, selector_layer, place_layer, number_of, selector_of, test_of, program_of}
use Rattle.og_cemit.proofs.Opens.{selector-Field, selector-Index}
use Rattle.og_cemit.proofs.Parts.{slot_placed, slot_kind, held_slot, one_slot}
use Rattle.og_cemit.proofs.Names.{within}
use Rattle.og_cemit.proofs.Shapes.{zeroed, Shaped, part_shaped, part_unshaped, path_shaped, global_shaped, number_cell, equal_part, equal_past}
use Rattle.og_cemit.proofs.Structures.{Stands, StandsArray, kind_of_type, stands_type, FieldStands, field_stands, slot_stands}
use denote.Param.Weighed.{most}

-- ---- results

abbrev is_ok : {A : Type 0} → Result A Trouble → Bool
is_ok (Ok x) = true
is_ok (Err t) = false

pub not_ok : {A : Type 0} (t : Trouble) (x : A) → ◌≡◌ {A = Result A Trouble} (Err t) (Ok x) → ⊥
not_ok t x e = false≢true (ap is_ok e)

abbrev value_or : {A : Type 0} → A → Result A Trouble → A
value_or d (Ok x) = x
value_or d (Err t) = d

pub ok_value : {A : Type 0} (x y : A) → ◌≡◌ {A = Result A Trouble} (Ok x) (Ok y) → x ≡ y
ok_value x y e = ap (value_or x) e

pub none_if : {A : Type 0} (b : Bool) (x : A) → cond b None None ≡ Some x → ⊥
none_if true x e = none-some x e
none_if false x e = none-some x e

-- ---- paths

module _ (ir : Ir) (model : Model) (fair : Fair ir model) (few : AreFew model.types) where
  -- where a path ends
  pub record Ended (path : List ℕ) (whole : Cells) (final : Held) : Type 0 where
    pub shape : Cells
    pub found : part_at path whole ≡ Some shape
    pub kind : Kind
    pub stands : Stands ir model kind final shape

  abbrev pub steps_of : Option Held → List Step2 → List CStep
  steps_of held steps = selectors (member_words model) model.types held (map (selector_of ir model) steps)

  module _ (svalue : CExpr → Result ℤ Trouble) (fvalue : Flat → Result ℤ Trouble) (d : ℕ) (h : (e : Flat) → size-Flat e ≤ d → is_number model.types ir e ≡ true → svalue (number_of ir model e) ≡ fvalue e) where
    pub record Walked (kind : Kind) (held : Held) (steps : List Step2) (cells whole : Cells) (final : Held) : Type 0 where
      pub same : s.walk svalue (structs_of ir model) kind (steps_of (Some held) steps) ≡ f.walk fvalue steps cells
      pub ends : (path : List ℕ) → f.walk fvalue steps cells ≡ Ok path → Ended path whole final

    abbrev Walks : List Step2 → Type 0
    Walks steps = (kind : Kind) (held : Held) (cells whole : Cells) (final : Held) → most size-Step2 steps ≤ d → Stands ir model kind held whole
        → zeroed cells ≡ whole → held_after (is_number model.types ir) model.types steps held ≡ Some final → Walked kind held steps cells whole final

    field_walk : (k : ℕ) (steps : List Step2) → Walks steps → Walks (step.Field k ∷ steps)
    field_walk k steps more kind held cells whole final deep st shaped e = by_field (field_of model.types k held) refl e
      where
        name : List ℕ
        name = (member_word (member_words model) (Some held) k).bytes

        by_field : (o : Option Held) → field_of model.types k held ≡ o → opt.◌>>=◌ o (held_after (is_number model.types ir) model.types steps) ≡ Some final
            → Walked kind held (step.Field k ∷ steps) cells whole final
        by_field None e' q = absurd (none-some final q)
        by_field (Some inner) e' q = record {
          same =
              ap (λ (x : Selector). s.walk svalue (structs_of ir model) kind (selectors (member_words model) model.types (Some held) (x ∷ map (selector_of ir model) steps))) (selector-Field ir model k)
              ∙ ap (λ o. or_else (member_of (structs_of ir model) kind name) Value >>= λ found. s.walk svalue (structs_of ir model) found.1 (steps_of o steps) >>= λ path. Ok (found.0 ∷ path)) e'
              ∙ ap (λ o. or_else o Value >>= λ found. s.walk svalue (structs_of ir model) found.1 (steps_of (Some inner) steps) >>= λ path. Ok (found.0 ∷ path)) one.found
              ∙ ap (λ r. r >>= λ path. Ok (k ∷ path)) rest.same
              ∙ sym (ap (λ o. or_else o Index >>= λ inner'. f.walk fvalue steps inner' >>= λ path. Ok (k ∷ path)) here.found);
          ends = λ path q'. behind path (f.walk fvalue steps here.cells) refl (sym (ap (λ o. or_else o Index >>= λ inner'. f.walk fvalue steps inner' >>= λ path'. Ok (k ∷ path')) here.found) ∙ q');
        }
          where
            one : FieldStands ir model fair few kind held k whole inner
            one = field_stands ir model fair few kind held whole k inner st e'

            here : Shaped (part k cells) one.shape
            here = part_shaped k cells whole one.shape shaped one.part_is

            rest : Walked one.behind inner steps here.cells one.shape final
            rest = more one.behind inner here.cells one.shape final (omega (arith, deep)) one.stands here.same q

            behind : (path : List ℕ) (r : Result (List ℕ) Trouble) → f.walk fvalue steps here.cells ≡ r → (r >>= λ path'. Ok (k ∷ path')) ≡ Ok path → Ended path whole final
            behind path (Err t) w q' = absurd (not_ok t path q')
            behind path (Ok path') w q' =
                let last = rest.ends path' w in
                record {
                  shape = last.shape;
                  found = ap (λ p. part_at p whole) (sym (ok_value (k ∷ path') path q')) ∙ ap (λ o. opt.◌>>=◌ o (part_at path')) one.part_is ∙ last.found;
                  kind = last.kind;
                  stands = last.stands;
                }

    -- an item of an array, whose index is known
    module _ (kind : Kind) (item : TypeId) (whole : Cells) (st : StandsArray ir model kind item whole) (steps : List Step2) (more : Walks steps) (cells : Cells) (final inner : Held) (deep : most size-Step2 steps ≤ d) (shaped : zeroed cells ≡ whole) (inside : held_as model.types item ≡ Some inner) (after : held_after (is_number model.types ir) model.types steps inner ≡ Some final) where
      abbrev on_program : ℤ → Result (List ℕ) Trouble
      on_program z = or_else (element_of kind) Value >>= λ element. or_else kind.size Value >>= λ size. or_else (below size z) Index >>= λ k. s.walk svalue (structs_of ir model) element (steps_of (Some inner) steps) >>= λ path. Ok (k ∷ path)

      abbrev on_code : ℤ → Result (List ℕ) Trouble
      on_code z = or_else (natural z) Index >>= λ k. or_else (part k cells) Index >>= λ inner'. f.walk fvalue steps inner' >>= λ path. Ok (k ∷ path)

      pub record Item (z : ℤ) : Type 0 where
        pub same : on_program z ≡ on_code z
        pub ends : (path : List ℕ) → on_code z ≡ Ok path → Ended path whole final

      abbrev behind_size : Option ℕ → Result (List ℕ) Trouble
      behind_size o = or_else o Index >>= λ k. s.walk svalue (structs_of ir model) (kind_of_type ir model item) (steps_of (Some inner) steps) >>= λ path. Ok (k ∷ path)

      on_program_is : (z : ℤ) → on_program z ≡ behind_size (below st.size z)
      on_program_is z = ap (λ (q : Kind). or_else (element_of q) Value >>= λ element. or_else q.size Value >>= λ size. or_else (below size z) Index >>= λ k. s.walk svalue (structs_of ir model) element (steps_of (Some inner) steps) >>= λ path. Ok (k ∷ path)) st.kind_is

      within_array : (k : ℕ) → k < st.size → Item (pos k)
      within_array k less = record {
        same =
            on_program_is (pos k)
            ∙ ap (λ b. behind_size (only_if b k)) (lt-ltb k st.size less)
            ∙ ap (λ r. r >>= λ path. Ok (k ∷ path)) rest.same
            ∙ sym (ap (λ o. or_else o Index >>= λ inner'. f.walk fvalue steps inner' >>= λ path. Ok (k ∷ path)) here.found);
        ends = λ path q. behind path (f.walk fvalue steps here.cells) refl (sym (ap (λ o. or_else o Index >>= λ inner'. f.walk fvalue steps inner' >>= λ path'. Ok (k ∷ path')) here.found) ∙ q);
      }
        where
          place : part k whole ≡ Some (blank model.types item)
          place = ap (part k) st.cells_are ∙ equal_part st.size k (blank model.types item) less

          here : Shaped (part k cells) (blank model.types item)
          here = part_shaped k cells whole (blank model.types item) shaped place

          rest : Walked (kind_of_type ir model item) inner steps here.cells (blank model.types item) final
          rest = more (kind_of_type ir model item) inner here.cells (blank model.types item) final deep (stands_type ir model fair few item inner st.marked inside) here.same after

          behind : (path : List ℕ) (r : Result (List ℕ) Trouble) → f.walk fvalue steps here.cells ≡ r → (r >>= λ path'. Ok (k ∷ path')) ≡ Ok path → Ended path whole final
          behind path (Err t) w q = absurd (not_ok t path q)
          behind path (Ok path') w q =
              let last = rest.ends path' w in
              record {
                shape = last.shape;
                found = ap (λ p. part_at p whole) (sym (ok_value (k ∷ path') path q)) ∙ ap (λ o. opt.◌>>=◌ o (part_at path')) place ∙ last.found;
                kind = last.kind;
                stands = last.stands;
              }

      past_array : (k : ℕ) → st.size ≤ k → Item (pos k)
      past_array k past_it = record {
        same = on_program_is (pos k) ∙ ap (λ b. behind_size (only_if b k)) (le-ltb k st.size past_it) ∙ sym past;
        ends = λ path q. absurd (not_ok Index path (sym past ∙ q));
      }
        where
          past : on_code (pos k) ≡ Err Index
          past = ap (λ o. or_else o Index >>= λ inner'. f.walk fvalue steps inner' >>= λ path. Ok (k ∷ path)) (part_unshaped k cells whole shaped (ap (part k) st.cells_are ∙ equal_past st.size k (blank model.types item) past_it))

      pub item_at : (z : ℤ) → Item z
      item_at (negsuc n) = record {
        same = on_program_is (negsuc n);
        ends = λ path q. absurd (not_ok Index path q);
      }
      item_at (pos k) = by_test (nat_lt k st.size) refl
        where
          by_test : (b : Bool) → nat_lt k st.size ≡ b → Item (pos k)
          by_test true e = within_array k (ltb-true k st.size e)
          by_test false e = past_array k (let past_it = ltb-false k st.size e in omega (arith, past_it))

    index_walk : (e : Flat) (steps : List Step2) → Walks steps → Walks (step.Index e ∷ steps)
    index_walk e steps more kind One cells whole final deep st shaped q = absurd (none_if (is_number model.types ir e) final q)
    index_walk e steps more kind (Whole t) cells whole final deep st shaped q = absurd (none_if (is_number model.types ir e) final q)
    index_walk e steps more kind (Array item) cells whole final deep st shaped q = by_number (is_number model.types ir e) refl q
      where
        by_inner : is_number model.types ir e ≡ true → (o : Option Held) → held_as model.types item ≡ o
            → opt.◌>>=◌ o (held_after (is_number model.types ir) model.types steps) ≡ Some final
            → Walked kind (Array item) (step.Index e ∷ steps) cells whole final
        by_inner number None e' q' = absurd (none-some final q')
        by_inner number (Some inner) e' q' = record {
          same =
              ap (λ (x : Selector). s.walk svalue (structs_of ir model) kind (selectors (member_words model) model.types (Some (Array item)) (x ∷ map (selector_of ir model) steps))) (selector-Index ir model e)
              ∙ ap (λ o. svalue (number_of ir model e) >>= λ z. or_else (element_of kind) Value >>= λ element. or_else kind.size Value >>= λ size. or_else (below size z) Index >>= λ k. s.walk svalue (structs_of ir model) element (steps_of o steps) >>= λ path. Ok (k ∷ path)) e'
              ∙ bind_same _ _ _ _ (h e (index_below e steps d deep) number) (λ z. (one z).same);
          ends = λ path w. behind path (fvalue e) w;
        }
          where
            one : (z : ℤ) → Item kind item whole st steps more cells final inner (omega (arith, deep)) shaped e' q' z
            one z = item_at kind item whole st steps more cells final inner (omega (arith, deep)) shaped e' q' z

            behind : (path : List ℕ) (r : Result ℤ Trouble)
                → (r >>= λ z. or_else (natural z) Index >>= λ k. or_else (part k cells) Index >>= λ inner'. f.walk fvalue steps inner' >>= λ path'. Ok (k ∷ path')) ≡ Ok path → Ended path whole final
            behind path (Err t) w = absurd (not_ok t path w)
            behind path (Ok z) w = (one z).ends path w

        by_number : (b : Bool) → is_number model.types ir e ≡ b
            → cond b (opt.◌>>=◌ (held_as model.types item) (held_after (is_number model.types ir) model.types steps)) None ≡ Some final
            → Walked kind (Array item) (step.Index e ∷ steps) cells whole final
        by_number false e' q' = absurd (none-some final q')
        by_number true e' q' = by_inner e' (held_as model.types item) refl q'

    pub walks : (steps : List Step2) → Walks steps
    walks [] kind held cells whole final deep st shaped q = record {
      same = refl;
      ends = λ path w. record {
        shape = whole;
        found = ap (λ p. part_at p whole) (sym (ok_value [] path w));
        kind = kind;
        stands = subst (λ x. Stands ir model kind x whole) (same_value held final q) st;
      };
    }
    walks (step.Field k ∷ steps) kind held cells whole final deep st shaped q = field_walk k steps (walks steps) kind held cells whole final deep st shaped q
    walks (step.Index e ∷ steps) kind held cells whole final deep st shaped q = index_walk e steps (walks steps) kind held cells whole final deep st shaped q

-- ---- slots

-- all slots have the shapes of their sorts
abbrev pub HoldShapes : Ir → Model → List Cells → Type 0
HoldShapes ir model slots = map zeroed slots ≡ first_slots model.types ir

global_first : (sorts : List Sort) (slots : List SlotDef) (k : ℕ) (slot : SlotDef) → slice_get slots k ≡ Some slot
    → global k (map (λ (x : SlotDef). blank_slot sorts x.sort) slots) ≡ Some (blank_slot sorts slot.sort)
global_first sorts [] k slot e = absurd (none-some slot e)
global_first sorts (x ∷ slots) zero slot e = ap (λ (y : SlotDef). Some (blank_slot sorts y.sort)) (same_value x slot e)
global_first sorts (x ∷ slots) (suc k) slot e = global_first sorts slots k slot e

pub first_at : (ir : Ir) (model : Model) (k : ℕ) (slot : SlotDef) → slice_get ir.slots k ≡ Some slot
    → global k (first_slots model.types ir) ≡ Some (blank_slot model.types slot.sort)
first_at ir model k slot e = global_first model.types ir.slots k slot e

-- ---- expressions

abbrev pub expression_of : Ir → Model → Flat-F Flat Step2 Slot → CExpr
expression_of ir model (flat.Number n) = c.Number n
expression_of ir model (flat.Read slot) = c.Read (place_of ir model slot)
expression_of ir model (flat.Op o a b) = c.Op (operator_of o) (number_of ir model a) (number_of ir model b)

pub rolled : (ir : Ir) (model : Model) (shape : Flat-F Flat Step2 Slot) → number_of ir model (roll-Flat shape) ≡ expression_of ir model shape
unfolding number_of selector_of
rolled ir model (flat.Number n) = fold-roll-Flat CExpr _ _ number_layer selector_layer (place_layer ir model) (flat.Number n)
rolled ir model (flat.Read slot) =
    fold-roll-Flat CExpr _ _ number_layer selector_layer (place_layer ir model) (flat.Read slot)
    ∙ ap c.Read (fold-roll-Slot CExpr _ _ number_layer selector_layer (place_layer ir model) (record { base = slot.base; path = slot.path }))
rolled ir model (flat.Op o a b) = fold-roll-Flat CExpr _ _ number_layer selector_layer (place_layer ir model) (flat.Op o a b)

pub number_of_is : (ir : Ir) (model : Model) (e : Flat) → number_of ir model e ≡ expression_of ir model (out-Flat e)
number_of_is ir model e = ap (number_of ir model) (sym (roll-out-Flat e)) ∙ rolled ir model (out-Flat e)

operation_same : (o : FlatOp) (x y : ℤ) → s.operation (operator_of o) x y ≡ f.operation in_64_bits o x y
operation_same op.Add x y = refl
operation_same op.Sub x y = refl
operation_same op.Mul x y = refl
operation_same op.Div x y = refl
operation_same op.Rem x y = refl

relation_same : (o : FlatRel) (x y : ℤ) → s.relation (relation_of o) x y ≡ f.relation o x y
relation_same rel.Eq x y = refl
relation_same rel.Ne x y = refl
relation_same rel.Lt x y = refl
relation_same rel.Le x y = refl
relation_same rel.Gt x y = refl
relation_same rel.Ge x y = refl

module _ (ir : Ir) (model : Model) (fair : Fair ir model) (few : AreFew model.types) (slots : List Cells) (hold : HoldShapes ir model slots) where
  -- the place of a slot, on both sides
  pub record Spotted (program code : Result Spot Trouble) (final : Held) : Type 0 where
    pub same : program ≡ code
    pub ends : (spot : Spot) → code ≡ Ok spot → (whole : Cells) × (global spot.base (first_slots model.types ir) ≡ Some whole) × Ended ir model fair few spot.path whole final

  spotted : (d : ℕ) → ((e : Flat) → size-Flat e ≤ d → is_number model.types ir e ≡ true → s.value_of (program_of ir model) slots (number_of ir model e) ≡ f.value_of in_64_bits slots e)
      → (slot : Slot) (final : Held) → size-Slot slot ≤ d → held_at model.types ir slot ≡ Some final
      → Spotted (s.spot_by (s.value_of (program_of ir model) slots) (program_of ir model) (place_of ir model slot)) (f.spot_of (f.value_of in_64_bits slots) slots slot) final
  spotted d h slot final deep e = by_def (slice_get ir.slots slot.base) refl e
    where
      value : CExpr → Result ℤ Trouble
      value = s.value_of (program_of ir model) slots

      by_def : (o : Option SlotDef) → slice_get ir.slots slot.base ≡ o
          → opt.◌>>=◌ o (λ def. opt.◌>>=◌ (held_in_slot model.types def.sort) (held_after (is_number model.types ir) model.types slot.path)) ≡ Some final
          → Spotted (s.spot_by (s.value_of (program_of ir model) slots) (program_of ir model) (place_of ir model slot)) (f.spot_of (f.value_of in_64_bits slots) slots slot) final
      by_def None e' q = absurd (none-some final q)
      by_def (Some def) e' q = by_held (held_in_slot model.types def.sort) refl q
        where
          by_held : (o : Option Held) → held_in_slot model.types def.sort ≡ o
              → opt.◌>>=◌ o (held_after (is_number model.types ir) model.types slot.path) ≡ Some final
              → Spotted (s.spot_by (s.value_of (program_of ir model) slots) (program_of ir model) (place_of ir model slot)) (f.spot_of (f.value_of in_64_bits slots) slots slot) final
          by_held None e'' q' = absurd (none-some final q')
          by_held (Some held) e'' q' = record {
            same =
                ap (λ o. or_else o Value >>= λ base. or_else (global_kind (program_of ir model) (slot_word (slice_get ir.slots slot.base)).bytes) Value >>= λ kind. s.walk (s.value_of (program_of ir model) slots) (structs_of ir model) kind (place_of ir model slot).path >>= λ path. Ok (record { base = base; path = path })) (slot_placed ir model fair slot.base (within ir.slots slot.base def e'))
                ∙ ap (λ o. or_else o Value >>= λ kind. s.walk (s.value_of (program_of ir model) slots) (structs_of ir model) kind (place_of ir model slot).path >>= λ path. Ok (record { base = slot.base; path = path })) (slot_kind ir model fair slot.base def e')
                ∙ ap (λ o. s.walk (s.value_of (program_of ir model) slots) (structs_of ir model) (record { type = type_of_slot (prefix_of ir) model.types def.sort; size = None }) (steps_of ir model fair few o slot.path) >>= λ path. Ok (record { base = slot.base; path = path })) (ap (held_in_def model.types) e' ∙ e'')
                ∙ ap (λ r. r >>= λ path. Ok (record { base = slot.base; path = path })) walked.same
                ∙ sym (ap (λ o. or_else o Index >>= λ cells. f.walk (f.value_of in_64_bits slots) slot.path cells >>= λ path. Ok (record { base = slot.base; path = path })) here.found);
            ends = λ spot w. behind spot (f.walk (f.value_of in_64_bits slots) slot.path here.cells) refl (sym (ap (λ o. or_else o Index >>= λ cells. f.walk (f.value_of in_64_bits slots) slot.path cells >>= λ path. Ok (record { base = slot.base; path = path })) here.found) ∙ w);
          }
            where
              whole : Cells
              whole = blank_slot model.types def.sort

              here : Shaped (global slot.base slots) (blank_slot model.types def.sort)
              here = global_shaped slot.base slots (first_slots model.types ir) (blank_slot model.types def.sort) hold (first_at ir model slot.base def e')

              walked : Walked ir model fair few (s.value_of (program_of ir model) slots) (f.value_of in_64_bits slots) d h (record { type = type_of_slot (prefix_of ir) model.types def.sort; size = None }) held slot.path here.cells (blank_slot model.types def.sort) final
              walked =
                  walks ir model fair few (s.value_of (program_of ir model) slots) (f.value_of in_64_bits slots) d h slot.path (record { type = type_of_slot (prefix_of ir) model.types def.sort; size = None }) held here.cells (blank_slot model.types def.sort) final
                  (path_below slot d deep) (slot_stands ir model fair few slot.base def held e' e'') here.same q'

              behind : (spot : Spot) (r : Result (List ℕ) Trouble) → f.walk (f.value_of in_64_bits slots) slot.path here.cells ≡ r
                  → (r >>= λ path. Ok (record { base = slot.base; path = path })) ≡ Ok spot
                  → (shape : Cells) × (global spot.base (first_slots model.types ir) ≡ Some shape) × Ended ir model fair few spot.path shape final
              behind spot (Err t) w q'' = absurd (not_ok t spot q'')
              behind spot (Ok path) w q'' =
                  subst (λ (x : Spot). (shape : Cells) × (global x.base (first_slots model.types ir) ≡ Some shape) × Ended ir model fair few x.path shape final)
                  (ok_value (record { base = slot.base; path = path }) spot q'')
                  (blank_slot model.types def.sort, first_at ir model slot.base def e', walked.ends path w)

  -- the cells at a spot
  pub cells_there : (spot : Spot) (whole : Cells) (final : Held) → global spot.base (first_slots model.types ir) ≡ Some whole
      → (end : Ended ir model fair few spot.path whole final) → (found : Cells) × (f.cells_at slots spot ≡ Ok found) × (zeroed found ≡ end.shape)
  cells_there spot whole final e end =
      let base = global_shaped spot.base slots (first_slots model.types ir) whole hold e in
      let inner = path_shaped spot.path base.cells whole end.shape base.same end.found in
      (inner.cells, ap (λ o. or_else o Index >>= λ cells. or_else (part_at spot.path cells) Index) base.found ∙ ap (λ o. or_else o Index) inner.found, inner.same)

  read_same : (d : ℕ) → ((e : Flat) → size-Flat e ≤ d → is_number model.types ir e ≡ true → s.value_of (program_of ir model) slots (number_of ir model e) ≡ f.value_of in_64_bits slots e)
      → (slot : Slot) → size-Slot slot ≤ d → held_at model.types ir slot ≡ Some One
      → s.value_of (program_of ir model) slots (c.Read (place_of ir model slot)) ≡ f.value_by (f.value_of in_64_bits slots) in_64_bits slots (flat.Read slot)
  read_same d h slot deep e =
      c_depth.value_is (program_of ir model) slots (c.Read (place_of ir model slot))
      ∙ ap (s.value_by (s.value_of (program_of ir model) slots) (program_of ir model) slots) (outs-Read (place_of ir model slot))
      ∙ ap (λ r. r >>= λ spot. f.cells_at slots spot >>= λ cells. or_else (number_in cells) Value) one.same
      ∙ by_spot (f.spot_of (f.value_of in_64_bits slots) slots slot) refl
    where
      one : Spotted (s.spot_by (s.value_of (program_of ir model) slots) (program_of ir model) (place_of ir model slot)) (f.spot_of (f.value_of in_64_bits slots) slots slot) One
      one = spotted d h slot One deep e

      by_spot : (r : Result Spot Trouble) → f.spot_of (f.value_of in_64_bits slots) slots slot ≡ r
          → (r >>= λ spot. f.cells_at slots spot >>= λ cells. or_else (number_in cells) Value) ≡ (r >>= λ spot. f.cells_at slots spot >>= λ cells. or_else (number_in cells) Index)
      by_spot (Err t) w = refl
      by_spot (Ok spot) w =
          let end = one.ends spot w in
          let there = cells_there spot end.0 One end.1 end.2 in
          let cell = number_cell there.0 (there.2 ∙ end.2.stands.1) in
          ap (λ r. r >>= λ cells. or_else (number_in cells) Value) (there.1 ∙ ap Ok cell.1)
          ∙ sym (ap (λ r. r >>= λ cells. or_else (number_in cells) Index) (there.1 ∙ ap Ok cell.1))

  pub one_held : (o : Option Held) → is_one o ≡ true → o ≡ Some One
  one_held None h = absurd (false≢true h)
  one_held (Some One) h = refl
  one_held (Some (Whole t)) h = absurd (false≢true h)
  one_held (Some (Array t)) h = absurd (false≢true h)

  by_shape : (d : ℕ)
      → ((e : Flat) → size-Flat e ≤ d → is_number model.types ir e ≡ true → s.value_of (program_of ir model) slots (number_of ir model e) ≡ f.value_of in_64_bits slots e)
      → (shape : Flat-F Flat Step2 Slot) → depth_of_parts shape ≤ d → number_by (is_number model.types ir) model.types ir shape ≡ true
      → s.value_of (program_of ir model) slots (expression_of ir model shape) ≡ f.value_by (f.value_of in_64_bits slots) in_64_bits slots shape
  by_shape d part (flat.Number n) deep r =
      c_depth.value_is (program_of ir model) slots (c.Number n) ∙ ap (s.value_by (s.value_of (program_of ir model) slots) (program_of ir model) slots) (outs-Number n)
  by_shape d part (flat.Read slot) deep r = read_same d part slot deep (one_held (held_at model.types ir slot) r)
  by_shape d part (flat.Op o a b) deep r =
      c_depth.value_is (program_of ir model) slots (c.Op (operator_of o) (number_of ir model a) (number_of ir model b))
      ∙ ap (s.value_by (s.value_of (program_of ir model) slots) (program_of ir model) slots) (outs-Op (operator_of o) (number_of ir model a) (number_of ir model b))
      ∙ bind_same _ _ _ _ (part a (omega (arith, deep)) (left_of _ _ r)) (λ x.
      bind_same _ _ _ _ (part b (omega (arith, deep)) (right_of (is_number model.types ir a) _ r)) (λ y. operation_same o x y))

  within_same : (d : ℕ) (e : Flat) → size-Flat e ≤ d → is_number model.types ir e ≡ true
      → s.value_of (program_of ir model) slots (number_of ir model e) ≡ f.value_of in_64_bits slots e
  within_same zero e deep right = absurd (let size = flat_depth.depth_is e in omega (arith, deep, size))
  within_same (suc d) e deep right =
      let size = flat_depth.depth_is e in
      ap (s.value_of (program_of ir model) slots) (number_of_is ir model e)
      ∙ by_shape d (within_same d) (out-Flat e) (omega (arith, deep, size)) (sym (number_is model.types ir e) ∙ right)
      ∙ sym (flat_depth.value_is in_64_bits slots e)

  pub value_same : (e : Flat) → is_number model.types ir e ≡ true → s.value_of (program_of ir model) slots (number_of ir model e) ≡ f.value_of in_64_bits slots e
  value_same e right = within_same (size-Flat e) e (omega arith) right

  pub spot_same : (slot : Slot) (final : Held) → held_at model.types ir slot ≡ Some final
      → Spotted (s.spot_of (program_of ir model) slots (place_of ir model slot)) (f.spot_of (f.value_of in_64_bits slots) slots slot) final
  spot_same slot final e = spotted (size-Slot slot) (λ x less right. value_same x right) slot final (omega arith) e

  pub test_same : (test : Test) → is_number model.types ir test.left ≡ true → is_number model.types ir test.right ≡ true
      → s.holds (program_of ir model) slots (test_of ir model test) ≡ f.holds in_64_bits slots test
  test_same test left right =
      bind_same _ _ _ _ (value_same test.left left) (λ x.
      bind_same _ _ _ _ (value_same test.right right) (λ y. ap Ok (relation_same test.op x y)))
