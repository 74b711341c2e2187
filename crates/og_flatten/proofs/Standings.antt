-- Where a process of basic states stands: the number of its region, its slots before the start, and its slots at rest.
use Rattle.std.proofs.Common.{◌≡◌, ℕ, zero, suc, ◌+◌, pos, false, List, [], ◌∷◌, ◌++◌, map, length, slice_get, slice_set, Option, Some, refl, sym, ap, subst, ◌∙◌, arith}
use Rattle.std.specs.List.{range_with_len}
use Rattle.std.proofs.lemmas.List.{append_assoc, length-map}
use Rattle.std.proofs.lemmas.Option.{none-some}
use Rattle.og_names.specs.declared.NameId.{NameId}
use Rattle.og_types.specs.declared.Sort.{Sort}
use Rattle.og_model.specs.declared.Model.{Model}
use Rattle.og_model.specs.declared.StateDef.{StateDef}
use Rattle.og_model.specs.declared.StateKind.TheOpen as Kinds
use Rattle.og_model.specs.declared.Variable.{Variable}
use Rattle.og_model.specs.RegionTypes.{Region}
use Rattle.og_model.specs.Regions.{Insides, kind_insides, state_insides, states_insides, insides_under, insides_of, regions}
use Rattle.og_model.specs.Forms.{UsesBasicStatesOnly}
use Rattle.og_model.specs.WellFormed.{IsWellFormed}
use Rattle.og_model.specs.Units.{State}
use Rattle.og_model.specs.Configuration.{Kind, kind_of, Active, At, Inside, Basic, Comp, Agg}
use Rattle.og_model.specs.Run.{first_state}
use Rattle.og_ir.specs.declared.SlotDef.{SlotDef}
use Rattle.og_ir.specs.Cells.{Cells, Cell, global}
use Rattle.og_ir.specs.FlatSteps.{blank_slot, first_slots}
use Rattle.og_csubset.specs.Fair.{Fair}
use Rattle.og_layout.specs.Layout.{Layout, Mark, Between, Inactive, Number, Leaf, NoLeaf, AnyLeaf, Numbers, behind_leaves, all_of, among, numbers_of, numbers_inside, region_numbers, marked, marked_inside, Expected, HoldsAt, AllHold, anything_in, IsActive, IsInside, StandsFor}
use Rattle.og_flatten.specs.Slots.{slots_of, parameter_slots, layout_by, layout_of}
use Rattle.og_flatten.specs.FlatCode.{code_of, states_of}
use Rattle.og_flatten.proofs.Basic.{StateIs, state_is}
use Rattle.og_flatten.proofs.Interfaces.{leaf_of, no_regions}
use Rattle.og_flatten.proofs.PlainSlots.{no_regions_inside, one_region, parameter_fields, parameters_are, slots_are}
use Rattle.og_flatten.proofs.Places.{length_more}
use Rattle.og_flatten.proofs.SingleSteps.{StandsAs}
use Rattle.og_names.proofs.Truths.{same_value as some_is}

-- a model of basic states with what holds of it
pub record IsBasic (M : Model) : Type 0 where
  pub formed : IsWellFormed M
  pub basic : UsesBasicStatesOnly M
  pub fair : Fair (code_of M) M

-- ---- the number of the region

abbrev IsLeaf : StateDef → Type 0
IsLeaf d = state_insides insides_of d ≡ record { leaves = leaf_of d ∷ []; regions = [] }

basic_insides : (M : Model) → IsBasic M → (i : ℕ) (d : StateDef) → slice_get (states_of M) i ≡ Some d → IsLeaf d
basic_insides M is i d at = ap (λ k. insides_under d.name (kind_insides insides_of k)) (state_is M is.formed is.basic i d at).kind

abbrev one_number : Number → Numbers
one_number n = record { leaf = n; regions = [] }

-- each state is one leaf
counted : (states : List StateDef) (k : ℕ) (d : StateDef) (inside : Kind → Numbers) → ((i : ℕ) (x : StateDef) → slice_get states i ≡ Some x → IsLeaf x) → slice_get states k ≡ Some d → inside (kind_of d) ≡ one_number (Leaf 0) → among states k inside ≡ one_number (Leaf k)
counted [] k d inside basic at is = absurd (none-some d at)
counted (c ∷ states) zero d inside basic at is =
    ap (λ (x : Numbers). record { leaf = x.leaf; regions = x.regions ++ all_of NoLeaf (states_insides insides_of states) }) (ap (λ (x : StateDef). inside (kind_of x)) (some_is c d at) ∙ is)
    ∙ ap (λ (rs : List Region). record { leaf = Leaf 0; regions = map (λ (r : Region). NoLeaf) rs }) (no_regions insides_of states (λ i x e. basic (suc i) x e))
counted (c ∷ states) (suc k) d inside basic at is =
    ap (λ (here : Insides). record { leaf = behind_leaves (length here.leaves) (among states k inside).leaf; regions = all_of NoLeaf here ++ (among states k inside).regions }) (basic 0 c refl)
    ∙ ap (λ (x : Numbers). record { leaf = behind_leaves 1 x.leaf; regions = x.regions }) (counted states k d inside (λ i x e. basic (suc i) x e) at is)
    ∙ ap (λ n. one_number (Leaf n)) (one_more k)
  where
    one_more : (k : ℕ) → 1 + k ≡ suc k
    one_more k = omega (arith)

pub number_is : (M : Model) → IsBasic M → (k : ℕ) (d : StateDef) → slice_get (states_of M) k ≡ Some d → numbers_of M.root (marked (At k Basic)) ≡ one_number (Leaf k)
number_is M is k d at =
    counted (states_of M) k d (λ kind. numbers_inside kind (marked_inside Basic)) (basic_insides M is) at
    (ap (λ kind. numbers_inside kind (marked_inside Basic)) (state_is M is.formed is.basic k d at).kind)

pub leaf_is : (M : Model) → IsBasic M → (k : ℕ) (d : StateDef) → slice_get (states_of M) k ≡ Some d → (numbers_of M.root (marked (At k Basic))).leaf ≡ Leaf k
leaf_is M is k d at = ap (λ (x : Numbers). x.leaf) (number_is M is k d at)

-- one number, whatever it is
abbrev pub HasOne : Model → Mark → Type 0
HasOne M mark = (n : Number) × (region_numbers M mark ≡ n ∷ [])

numbers_at : (M : Model) → IsBasic M → (k : ℕ) (d : StateDef) → slice_get (states_of M) k ≡ Some d → region_numbers M (marked (At k Basic)) ≡ Leaf k ∷ []
numbers_at M is k d at = ap (λ (x : Numbers). x.leaf ∷ x.regions) (number_is M is k d at)

pub one_at : (M : Model) → IsBasic M → (k : ℕ) (d : StateDef) → slice_get (states_of M) k ≡ Some d → HasOne M (marked (At k Basic))
one_at M is k d at = (Leaf k, numbers_at M is k d at)

pub one_inactive : (M : Model) → IsBasic M → HasOne M Inactive
one_inactive M is = (NoLeaf, ap (λ (rs : List Region). NoLeaf ∷ map (λ (r : Region). NoLeaf) rs) (no_regions_inside M is.basic))

-- the number is that of the state once it is set
pub entered_number : (M : Model) → IsBasic M → (mark : Mark) → HasOne M mark → (k : ℕ) (d : StateDef) → slice_get (states_of M) k ≡ Some d → slice_set (region_numbers M mark) 0 (Leaf k) ≡ region_numbers M (marked (At k Basic))
entered_number M is mark one k d at = ap (λ ns. slice_set ns 0 (Leaf k)) one.1 ∙ sym (numbers_at M is k d at)

-- and tells that no state is active
pub left_number : (M : Model) → IsBasic M → slice_set (region_numbers M Between) 0 NoLeaf ≡ region_numbers M Inactive
left_number M is =
    ap (λ (rs : List Region). NoLeaf ∷ map (λ (r : Region). AnyLeaf) rs) (no_regions_inside M is.basic)
    ∙ sym (ap (λ (rs : List Region). NoLeaf ∷ map (λ (r : Region). NoLeaf) rs) (no_regions_inside M is.basic))

-- ---- before the start

layout_is : (M : Model) → IsBasic M → layout_of M ≡ layout_by 1 0 0 (length (slots_of (parameter_fields M)))
layout_is M is =
    ap (λ (rs : List Region). layout_by (length rs) (length M.variables) (length M.timers) (length (parameter_slots M))) (one_region M is.basic)
    ∙ ap (λ (vs : List Variable). layout_by 1 (length vs) (length M.timers) (length (parameter_slots M))) is.basic.no_variables
    ∙ ap (λ (ts : List NameId). layout_by 1 0 (length ts) (length (parameter_slots M))) is.basic.no_timers
    ∙ ap (λ (ds : List SlotDef). layout_by 1 0 0 (length ds)) (parameters_are M)

abbrev zeros : List Cells
zeros = Cell (pos 0) ∷ Cell (pos 0) ∷ Cell (pos 0) ∷ Cell (pos 0) ∷ Cell (pos 0) ∷ Cell (pos 0) ∷ Cell (pos 0) ∷ []

-- slots behind others are there
anything_there : (sorts : List Sort) (before after : List Cells) → AllHold sorts (before ++ after) (anything_in (range_with_len (length before) (length after)))
anything_there sorts before [] = tt
anything_there sorts before (c ∷ after) = (
  record { cells = c; there = behind before after c; holds = tt },
  subst (λ slots. AllHold sorts slots (anything_in (range_with_len (length before + 1) (length after)))) (append_assoc before (c ∷ []) after)
      (subst (λ n. AllHold sorts ((before ++ c ∷ []) ++ after) (anything_in (range_with_len n (length after)))) (length_more before c) (anything_there sorts (before ++ c ∷ []) after)),
)
  where
    behind : (before rest : List Cells) (c : Cells) → global (length before) (before ++ c ∷ rest) ≡ Some c
    behind [] rest c = refl
    behind (b ∷ before) rest c = behind before rest c

zeros_stand : (M : Model) (s : State) (after : List Cells) → StandsFor M (layout_by 1 0 0 (length after)) Between s (zeros ++ after)
zeros_stand M s after = (
  record { cells = Cell (pos 0); there = refl; holds = tt },
  (
    record { cells = Cell (pos 0); there = refl; holds = refl },
    (
      record { cells = Cell (pos 0); there = refl; holds = refl },
      (
        record { cells = Cell (pos 0); there = refl; holds = tt },
        (
          record { cells = Cell (pos 0); there = refl; holds = tt },
          (
            record { cells = Cell (pos 0); there = refl; holds = tt },
            (
              record { cells = Cell (pos 0); there = refl; holds = tt },
              anything_there M.types zeros after,
            ),
          ),
        ),
      ),
    ),
  ),
)

-- the cells of parameters
abbrev blanks : Model → List Cells
blanks M = map (λ (d : SlotDef). blank_slot M.types d.sort) (slots_of (parameter_fields M))

first_are : (M : Model) → IsBasic M → first_slots M.types (code_of M) ≡ zeros ++ blanks M
first_are M is = ap (map (λ (d : SlotDef). blank_slot M.types d.sort)) (slots_are M is.basic)

pub first_stands : (M : Model) → IsBasic M → StandsAs M Between (first_state M) (first_slots M.types (code_of M))
first_stands M is = record {
  stands = subst (λ slots. StandsFor M (layout_of M) Between (first_state M) slots) (sym (first_are M is))
      (subst (λ layout. StandsFor M layout Between (first_state M) (zeros ++ blanks M)) (sym (layout_is M is))
      (subst (λ n. StandsFor M (layout_by 1 0 0 n) Between (first_state M) (zeros ++ blanks M)) (length-map (slots_of (parameter_fields M)) (λ (d : SlotDef). blank_slot M.types d.sort))
      (zeros_stand M (first_state M) (blanks M))));
  has = record {
    variables = length-map M.variables (λ (v : Variable). v.initial);
    timers = length-map M.timers (λ (t : NameId). false);
  };
}

-- ---- at rest

-- the slots stand for the process at rest in these states
pub record RestsIn (M : Model) (a : Active) (s : State) (slots : List Cells) : Type 0 where
  pub active : IsActive M.root a
  pub holds : StandsAs M (marked a) s slots

-- a basic state is active
pub record InState (M : Model) (a : Active) : Type 0 where
  pub state : ℕ
  pub def : StateDef
  pub is : a ≡ At state Basic
  pub there : slice_get (states_of M) state ≡ Some def

inside_is : (kind : Kind) (inside : Inside) → kind ≡ Kinds.Basic → IsInside kind inside → inside ≡ Basic
inside_is kind inside is i = by_inside inside (subst (λ k. IsInside k inside) is i)
  where
    by_inside : (inside : Inside) → IsInside Kinds.Basic inside → inside ≡ Basic
    by_inside Basic i = refl
    by_inside (Comp a) i = absurd i
    by_inside (Agg ps) i = absurd i

pub in_state : (M : Model) → IsBasic M → (a : Active) → IsActive M.root a → InState M a
in_state M is (At k inside) active =
    let d = active.0 in
    let there = active.1 in
    record {
      state = k;
      def = d;
      is = ap (At k) (inside_is (kind_of d) inside (state_is M is.formed is.basic k d there).kind active.2);
      there = there;
    }

pub is_active : (M : Model) → IsBasic M → (k : ℕ) (d : StateDef) → slice_get (states_of M) k ≡ Some d → IsActive M.root (At k Basic)
is_active M is k d at = (d, at, subst (λ kind. IsInside kind Basic) (sym (state_is M is.formed is.basic k d at).kind) tt)
