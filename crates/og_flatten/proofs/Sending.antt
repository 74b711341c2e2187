-- The values of a stimulus are put into the slots of its signal's parameters, which stand for nothing else: so slots that stand
-- for a process stand for it then too.
use Rattle.std.proofs.Common.{◌≡◌, ℕ, zero, suc, ◌+◌, false, List, [], ◌∷◌, ◌++◌, length, slice_get, Some, refl, sym, ap, subst, ◌∙◌}
use Rattle.std.specs.Prelude.{flat_map}
use Rattle.std.specs.List.{AllByRecursion}
use Rattle.std.proofs.lemmas.List.{append_assoc}
use Rattle.std.proofs.lemmas.Option.{none-some}
use Rattle.og_types.specs.declared.Value.{Value}
use Rattle.og_model.specs.declared.Model.{Model}
use Rattle.og_model.specs.declared.Signal.{Signal}
use Rattle.og_model.specs.Units.{State}
use Rattle.og_ir.specs.Cells.{Cells}
use Rattle.og_csubset.specs.Interface.{Field}
use Rattle.og_csubset.specs.FlatRun.{slot_names}
use Rattle.og_csubset.specs.Kinds.{place_in}
use Rattle.og_csubset.specs.Loading.{has_twice}
use Rattle.og_csubset.specs.Reads.{cells_of_shape, put_numbered, inputs_set}
use Rattle.og_layout.specs.Layout.{Mark}
use Rattle.og_layout.specs.Named.{AllNamed}
use Rattle.og_layout.proofs.Written.{besides_stands}
use Rattle.og_flatten.specs.Slots.{inputs_of, layout_of}
use Rattle.og_flatten.specs.FlatCode.{code_of}
use Rattle.og_flatten.proofs.PlainSlots.{input_fields, output_fields, parameter_fields}
use Rattle.og_flatten.proofs.Places.{get_behind}
use Rattle.og_flatten.proofs.Layouts.{layout_differs, parameters_are_named}
use Rattle.og_flatten.proofs.SingleSteps.{StandsAs}
use Rattle.og_names.proofs.Truths.{same_value}

-- the slots of which nothing is expected
abbrev others : Model → List ℕ
others M = (layout_of M).locals ++ ((layout_of M).durations ++ (layout_of M).parameters)

-- a name is that of one of them
pub record IsBeside (M : Model) (field : Field) : Type 0 where
  pub slot : ℕ
  pub named : place_in field.name (slot_names (code_of M)) ≡ Some slot
  pub place : ℕ
  pub at : slice_get (others M) place ≡ Some slot

-- fields that are named by numbers among them
beside_from : (M : Model) (fields : List Field) (before ks : List ℕ) → others M ≡ before ++ ks → AllNamed (slot_names (code_of M)) fields ks → AllByRecursion (IsBeside M) fields
beside_from M [] before ks is named = tt
beside_from M (f ∷ fields) before [] is named = absurd named
beside_from M (f ∷ fields) before (k ∷ ks) is named = (
  record { slot = k; named = named.0; place = length before; at = ap (λ js. slice_get js (length before)) is ∙ get_behind before ks k },
  beside_from M fields (before ++ k ∷ []) ks (is ∙ sym (append_assoc before (k ∷ []) ks)) named.1,
)

parameters_beside : (M : Model) → has_twice (slot_names (code_of M)) ≡ false → AllByRecursion (IsBeside M) (parameter_fields M)
parameters_beside M once =
    beside_from M (parameter_fields M) ((layout_of M).locals ++ (layout_of M).durations) (layout_of M).parameters
    (sym (append_assoc (layout_of M).locals (layout_of M).durations (layout_of M).parameters)) (parameters_are_named M once)

-- ---- those of one signal

front_of : {X : Type 0} (P : X → Type 0) (xs ys : List X) → AllByRecursion P (xs ++ ys) → AllByRecursion P xs
front_of P [] ys all = tt
front_of P (x ∷ xs) ys all = (all.0, front_of P xs ys all.1)

back_of : {X : Type 0} (P : X → Type 0) (xs ys : List X) → AllByRecursion P (xs ++ ys) → AllByRecursion P ys
back_of P [] ys all = all
back_of P (x ∷ xs) ys all = back_of P xs ys all.1

piece_at : {X Y : Type 0} (P : Y → Type 0) (f : X → List Y) (xs : List X) (k : ℕ) (x : X) → slice_get xs k ≡ Some x → AllByRecursion P (flat_map f xs) → AllByRecursion P (f x)
piece_at P f [] k x at all = absurd (none-some x at)
piece_at P f (y ∷ xs) zero x at all = subst (λ z. AllByRecursion P (f z)) (same_value y x at) (front_of P (f y) (flat_map f xs) all)
piece_at P f (y ∷ xs) (suc k) x at all = piece_at P f xs k x at (back_of P (f y) (flat_map f xs) all)

pub inputs_beside : (M : Model) → has_twice (slot_names (code_of M)) ≡ false → (k : ℕ) (s : Signal) → slice_get M.signals k ≡ Some s → AllByRecursion (IsBeside M) (inputs_of M s)
inputs_beside M once k s at =
    piece_at (IsBeside M) (inputs_of M) M.signals k s at (front_of (IsBeside M) (input_fields M) (output_fields M) (parameters_beside M once))

-- ---- what is put there

pub values_stand : (M : Model) (mark : Mark) (s : State) (fields : List Field) → AllByRecursion (IsBeside M) fields → (vs : List Value) (slots : List Cells) → StandsAs M mark s slots
    → StandsAs M mark s (inputs_set M (slot_names (code_of M)) fields vs slots)
values_stand M mark s [] beside vs slots known = known
values_stand M mark s (f ∷ fields) beside [] slots known = known
values_stand M mark s (f ∷ fields) beside (v ∷ vs) slots known =
    let new = cells_of_shape M f.shape v in
    values_stand M mark s fields beside.1 vs (put_numbered (place_in f.name (slot_names (code_of M))) new slots)
    (subst (λ o. StandsAs M mark s (put_numbered o new slots)) (sym beside.0.named)
    (record { stands = besides_stands M (layout_of M) mark s slots (layout_differs M) known.stands beside.0.place beside.0.slot new beside.0.at; has = known.has }))
