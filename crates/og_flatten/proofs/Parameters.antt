-- What an accepted model keeps of the parameters of its signals, said of their slots: each holds values of a supported type,
-- and together they have no more cells than the model may have twice.
use Rattle.std.proofs.Common.{◌≡◌, ℕ, zero, suc, ◌+◌, ◌*◌, ◌≤◌, max, min, List, [], ◌∷◌, ◌++◌, Bool, true, false, cond, map, length, slice_get, Option, Some, None, refl, sym, ap, subst, ◌∙◌, arith, eq-eqb}
use Rattle.std.specs.Prelude.{flat_map, codes, decimal}
use Rattle.std.specs.List.{AllByRecursion, list_all}
use Rattle.std.proofs.lemmas.Bool.{false≢true, and_from}
use Rattle.std.proofs.lemmas.List.{map-append}
use Rattle.og_types.specs.declared.TypeId.{TypeId}
use Rattle.og_types.specs.declared.Part.{Part}
use Rattle.og_types.specs.declared.Sort.{Sort}
use Rattle.og_types.specs.declared.Sort.TheVariants as Sorts
use Rattle.og_types.specs.Values.{cells_of_parts, cells_of_sort, cells_within, all_cells, cells, many_cells, is_supported_sort, is_supported_within}
use Rattle.og_types.specs.Values as types
use Rattle.og_model.specs.declared.Model.{Model}
use Rattle.og_model.specs.declared.Signal.{Signal}
use Rattle.og_model.specs.Rules.{has_supported_parameters}
use Rattle.og_model.specs.Size as sizes
use Rattle.og_model.specs.Size.{model_cells}
use Rattle.og_ir.specs.declared.SlotDef.{SlotDef}
use Rattle.og_ir.specs.declared.SlotSort.{SlotSort}
use Rattle.og_ir.specs.declared.SlotSort.TheVariants as slot_sort
use Rattle.og_ir.specs.Cells.{◌>>=◌, Cells, row, equal_parts, cells_by, count}
use Rattle.og_ir.specs.Reading.{blank_sort, blank_within, blank}
use Rattle.og_ir.specs.FlatSteps.{blank_slot}
use Rattle.og_csubset.specs.Kinds.{total}
use Rattle.og_csubset.specs.Loading.{passes}
use Rattle.og_csubset.specs.Interface.{Field, Typed, name_of, parameters_from}
use Rattle.og_csubset.specs.Fair.{Held, One, Whole, held_by, held_in_shape, same_held, joins, supported_by, supported_within, is_supported}
use Rattle.og_flatten.specs.Slots.{slot_of, slots_of, inputs_of, outputs_of}
use Rattle.og_flatten.proofs.PlainSlots.{fields_by, input_fields, output_fields, parameter_fields}
use Rattle.og_flatten.proofs.Tests.{all_append, all_by, all_map, all_always}
use Rattle.og_names.proofs.Truths.{both_first as left_of, both_second as right_of}

plus_one : (n : ℕ) → n + 1 ≡ suc n
plus_one n = omega (arith)

-- ---- supported types

supported_sort : (inside within : TypeId → Bool) → ((t : TypeId) → inside t ≡ true → within t ≡ true) → (o : Option Sort) → is_supported_sort inside o ≡ true → passes (supported_by within) o ≡ true
supported_sort inside within each None is = absurd (false≢true is)
supported_sort inside within each (Some (Sorts.Int lo hi)) is = refl
supported_sort inside within each (Some Sorts.Bool) is = refl
supported_sort inside within each (Some (Sorts.Enumerated names numbers)) is = refl
supported_sort inside within each (Some (Sorts.Sequence parts)) is = all_by (λ (p : Part). inside p.sort) (λ (p : Part). within p.sort) (λ p. each p.sort) parts is
supported_sort inside within each (Some (Sorts.Choice parts)) is = all_by (λ (p : Part). inside p.sort) (λ (p : Part). within p.sort) (λ p. each p.sort) parts is
supported_sort inside within each (Some (Sorts.SeqOf lo zero item)) is = refl
supported_sort inside within each (Some (Sorts.SeqOf lo (suc hi) item)) is = each item is
supported_sort inside within each (Some Sorts.Opaque) is = absurd (false≢true is)

supported_type : (depth : ℕ) (sorts : List Sort) (t : TypeId) → is_supported_within depth sorts t ≡ true → supported_within depth sorts t ≡ true
supported_type zero sorts t is = absurd (false≢true is)
supported_type (suc depth) sorts t is =
    supported_sort (is_supported_within depth sorts) (supported_within depth sorts) (supported_type depth sorts) (slice_get sorts t.0) is

pub supported_slot : (sorts : List Sort) (t : TypeId) → types.is_supported sorts t ≡ true → is_supported sorts (slot_sort.Shaped t) ≡ true
supported_slot sorts t is = subst (λ n. supported_within n sorts t ≡ true) (sym (plus_one t.0)) (supported_type (suc t.0) sorts t is)

-- values of such a type stand at a place
held_sort : (t : TypeId) (inside : TypeId → Bool) (o : Option Sort) → is_supported_sort inside o ≡ true → joins (o >>= held_by t) (o >>= held_by t) ≡ true
held_sort t inside None is = absurd (false≢true is)
held_sort t inside (Some (Sorts.Int lo hi)) is = refl
held_sort t inside (Some Sorts.Bool) is = refl
held_sort t inside (Some (Sorts.Enumerated names numbers)) is = refl
held_sort t inside (Some (Sorts.Sequence [])) is = refl
held_sort t inside (Some (Sorts.Sequence (p ∷ parts))) is = eq-eqb t.0 t.0 refl
held_sort t inside (Some (Sorts.Choice parts)) is = eq-eqb t.0 t.0 refl
held_sort t inside (Some (Sorts.SeqOf lo hi item)) is = eq-eqb t.0 t.0 refl
held_sort t inside (Some Sorts.Opaque) is = absurd (false≢true is)

-- what a field says is something that can be held
abbrev pub is_held : List Sort → Field → Bool
is_held sorts field = joins (held_in_shape sorts field.shape) (held_in_shape sorts field.shape)

pub held_type : (sorts : List Sort) (name : List ℕ) (t : TypeId) → types.is_supported sorts t ≡ true → is_held sorts (record { name = name; shape = Typed t }) ≡ true
held_type sorts name t is = held_sort t (is_supported_within t.0 sorts) (slice_get sorts t.0) is

-- ---- cells of a type

count_row : (blanks : TypeId → Cells) (inside : TypeId → ℕ) → ((t : TypeId) → count (blanks t) ≤ inside t) → (parts : List Part) → count (row (map (λ (p : Part). blanks p.sort) parts)) ≤ cells_of_parts inside parts
count_row blanks inside each [] = omega (arith)
count_row blanks inside each (p ∷ parts) = let here = each p.sort in let more = count_row blanks inside each parts in omega (arith, here, more)

count_items : (n c most : ℕ) (cells : Cells) → count cells ≡ c → c ≤ most → count (equal_parts n cells) ≤ most * n
count_items zero c most cells is le = omega (arith)
count_items (suc n) c most cells is le = let more = count_items n c most cells is le in omega (arith, is, le, more)

max_suc : (n : ℕ) → max (suc n) 1 ≡ suc n
max_suc n = omega (arith)

count_sort : (blanks : TypeId → Cells) (inside : TypeId → ℕ) → ((t : TypeId) → count (blanks t) ≤ inside t) → (o : Option Sort) → count (cells_by (blank_sort blanks) o) ≤ cells_of_sort inside o
count_sort blanks inside each None = omega (arith)
count_sort blanks inside each (Some (Sorts.Int lo hi)) = omega (arith)
count_sort blanks inside each (Some Sorts.Bool) = omega (arith)
count_sort blanks inside each (Some (Sorts.Enumerated names numbers)) = omega (arith)
count_sort blanks inside each (Some (Sorts.Sequence [])) = omega (arith)
count_sort blanks inside each (Some (Sorts.Sequence (p ∷ parts))) = count_row blanks inside each (p ∷ parts)
count_sort blanks inside each (Some (Sorts.Choice parts)) = let more = count_row blanks inside each parts in omega (arith, more)
count_sort blanks inside each (Some (Sorts.SeqOf lo zero item)) = omega (arith)
count_sort blanks inside each (Some (Sorts.SeqOf lo (suc hi) item)) =
    let items = count_items (suc hi) (count (blanks item)) (inside item) (blanks item) refl (each item) in
    subst (λ m. 1 + (count (equal_parts (suc hi) (blanks item)) + 0) ≤ 1 + inside item * m) (sym (max_suc hi)) (omega (arith, items))
count_sort blanks inside each (Some Sorts.Opaque) = omega (arith)

count_type : (depth : ℕ) (sorts : List Sort) (t : TypeId) → count (blank_within depth sorts t) ≤ cells_within depth sorts t
count_type zero sorts t = omega (arith)
count_type (suc depth) sorts t = count_sort (blank_within depth sorts) (cells_within depth sorts) (count_type depth sorts) (slice_get sorts t.0)

count_blank : (sorts : List Sort) (t : TypeId) → count (blank sorts t) ≤ all_cells sorts t
unfolding blank
count_blank sorts t = subst (λ n. count (blank_within n sorts t) ≤ all_cells sorts t) (sym (plus_one t.0)) (count_type (suc t.0) sorts t)

-- a type that is supported has a cell
some_part : (inside : TypeId → ℕ) (test : TypeId → Bool) → ((t : TypeId) → test t ≡ true → 1 ≤ inside t) → (p : Part) (parts : List Part) → list_all (λ (q : Part). test q.sort) (p ∷ parts) ≡ true → 1 ≤ cells_of_parts inside (p ∷ parts)
some_part inside test each p parts all = let here = each p.sort (left_of _ _ all) in omega (arith, here)

some_sort : (inside : TypeId → ℕ) (test : TypeId → Bool) → ((t : TypeId) → test t ≡ true → 1 ≤ inside t) → (o : Option Sort) → is_supported_sort test o ≡ true → 1 ≤ cells_of_sort inside o
some_sort inside test each None is = absurd (false≢true is)
some_sort inside test each (Some (Sorts.Int lo hi)) is = omega (arith)
some_sort inside test each (Some Sorts.Bool) is = omega (arith)
some_sort inside test each (Some (Sorts.Enumerated names numbers)) is = omega (arith)
some_sort inside test each (Some (Sorts.Sequence [])) is = omega (arith)
some_sort inside test each (Some (Sorts.Sequence (p ∷ parts))) is = some_part inside test each p parts is
some_sort inside test each (Some (Sorts.Choice parts)) is = omega (arith)
some_sort inside test each (Some (Sorts.SeqOf lo hi item)) is = omega (arith)
some_sort inside test each (Some Sorts.Opaque) is = absurd (false≢true is)

some_within : (depth : ℕ) (sorts : List Sort) (t : TypeId) → is_supported_within depth sorts t ≡ true → 1 ≤ cells_within depth sorts t
some_within zero sorts t is = absurd (false≢true is)
some_within (suc depth) sorts t is = some_sort (cells_within depth sorts) (is_supported_within depth sorts) (some_within depth sorts) (slice_get sorts t.0) is

some_cells : (sorts : List Sort) (t : TypeId) → types.is_supported sorts t ≡ true → 1 ≤ cells sorts t
some_cells sorts t is = let some = some_within (suc t.0) sorts t is in omega (arith, some)

-- ---- parameters

-- what holds of a field of each type for which a test holds, by its number
pub typed : (p : Field → Bool) (q : TypeId → Bool) (prefix : List ℕ) → ((m : ℕ) (t : TypeId) → q t ≡ true → p (record { name = prefix ++ codes "__" ++ decimal m; shape = Typed t }) ≡ true)
    → (k : ℕ) (sorts : List TypeId) → list_all q sorts ≡ true → list_all p (parameters_from k prefix sorts) ≡ true
typed p q prefix each k [] all = refl
typed p q prefix each k (t ∷ sorts) all = and_from _ _ (each k t (left_of _ _ all)) (typed p q prefix each (k + 1) sorts (right_of _ _ all))

module _ (p : Field → Bool) (q : TypeId → Bool) (model : Model) where
  abbrev OfEach : List ℕ → Type 0
  OfEach prefix = (s : Signal) (m : ℕ) (t : TypeId) → q t ≡ true → p (record { name = (prefix ++ name_of model s.name) ++ codes "__" ++ decimal m; shape = Typed t }) ≡ true

  typed_if : (prefix : List ℕ) → OfEach prefix → (s : Signal) (b : Bool) → list_all q s.sorts ≡ true → list_all p (cond b (parameters_from 1 (prefix ++ name_of model s.name) s.sorts) []) ≡ true
  typed_if prefix each s true all = typed p q (prefix ++ name_of model s.name) (each s) 1 s.sorts all
  typed_if prefix each s false all = refl

  typed_signals : (has : Signal → Bool) (prefix : List ℕ) → OfEach prefix → (signals : List Signal) → list_all (λ (s : Signal). list_all q s.sorts) signals ≡ true → list_all p (flat_map (fields_by has prefix model) signals) ≡ true
  typed_signals has prefix each [] all = refl
  typed_signals has prefix each (s ∷ signals) all =
      all_append p (fields_by has prefix model s) (flat_map (fields_by has prefix model) signals)
      (typed_if prefix each s (has s) (left_of _ _ all)) (typed_signals has prefix each signals (right_of _ _ all))

  pub typed_fields : OfEach (codes "i_") → OfEach (codes "o_") → list_all (λ (s : Signal). list_all q s.sorts) model.signals ≡ true → list_all p (parameter_fields model) ≡ true
  typed_fields inputs outputs all =
      all_append p (input_fields model) (output_fields model)
      (typed_signals (λ (s : Signal). s.incoming) (codes "i_") inputs model.signals all) (typed_signals (λ (s : Signal). true) (codes "o_") outputs model.signals all)

pub slots_supported : (model : Model) → list_all (has_supported_parameters model) model.signals ≡ true → list_all (λ (d : SlotDef). is_supported model.types d.sort) (slots_of (parameter_fields model)) ≡ true
slots_supported model all =
    all_map (λ (d : SlotDef). is_supported model.types d.sort) slot_of (parameter_fields model)
    (typed_fields (λ (f : Field). is_supported model.types (slot_of f).sort) (types.is_supported model.types) model (λ s m t is. supported_slot model.types t is) (λ s m t is. supported_slot model.types t is) all)

pub fields_held : (model : Model) → list_all (has_supported_parameters model) model.signals ≡ true → list_all (is_held model.types) (parameter_fields model) ≡ true
fields_held model all =
    typed_fields (is_held model.types) (types.is_supported model.types) model
    (λ s m t is. held_type model.types ((codes "i_" ++ name_of model s.name) ++ codes "__" ++ decimal m) t is)
    (λ s m t is. held_type model.types ((codes "o_" ++ name_of model s.name) ++ codes "__" ++ decimal m) t is) all

-- ---- cells of parameters

-- the cells of the slots of fields
abbrev pub cells_of_fields : List Sort → List Field → ℕ
cells_of_fields sorts fields = total (map count (map (λ (d : SlotDef). blank_slot sorts d.sort) (slots_of fields)))

cells_of_both : (sorts : List Sort) (fs gs : List Field) → cells_of_fields sorts (fs ++ gs) ≡ cells_of_fields sorts fs + cells_of_fields sorts gs
cells_of_both sorts [] gs = omega (arith)
cells_of_both sorts (f ∷ fs) gs = let more = cells_of_both sorts fs gs in omega (arith, more)

cells_of_parameters : (sorts : List Sort) (k : ℕ) (prefix : List ℕ) (ts : List TypeId) → sizes.total (cells sorts) ts ≤ 65536 → cells_of_fields sorts (parameters_from k prefix ts) ≤ sizes.total (cells sorts) ts
cells_of_parameters sorts k prefix [] few = omega (arith)
cells_of_parameters sorts k prefix (t ∷ ts) few =
    let more = cells_of_parameters sorts (k + 1) prefix ts (omega (arith, few)) in
    let here = count_blank sorts t in
    omega (arith, few, here, more)

-- the cells that the parameters of signals count
abbrev pub counted : List Sort → List Signal → ℕ
counted sorts signals = sizes.total (λ (s : Signal). sizes.total (cells sorts) s.sorts) signals

cells_if : (sorts : List Sort) (prefix : List ℕ) (s : Signal) (b : Bool) → sizes.total (cells sorts) s.sorts ≤ 65536 → cells_of_fields sorts (cond b (parameters_from 1 prefix s.sorts) []) ≤ sizes.total (cells sorts) s.sorts
cells_if sorts prefix s true few = cells_of_parameters sorts 1 prefix s.sorts few
cells_if sorts prefix s false few = omega (arith)

cells_of_signals : (model : Model) (has : Signal → Bool) (prefix : List ℕ) (signals : List Signal) → counted model.types signals ≤ 65536 → cells_of_fields model.types (flat_map (fields_by has prefix model) signals) ≤ counted model.types signals
cells_of_signals model has prefix [] few = omega (arith)
cells_of_signals model has prefix (s ∷ signals) few =
    let both = cells_of_both model.types (fields_by has prefix model s) (flat_map (fields_by has prefix model) signals) in
    let here = cells_if model.types (prefix ++ name_of model s.name) s (has s) (omega (arith, few)) in
    let more = cells_of_signals model has prefix signals (omega (arith, few)) in
    omega (arith, both, here, more)

pub counted_few : (model : Model) → model_cells model ≤ 65536 → counted model.types model.signals ≤ 65536
counted_few model few = omega (arith, few)

-- each parameter has two slots at most
pub few_cells : (model : Model) → model_cells model ≤ 65536 → cells_of_fields model.types (parameter_fields model) ≤ 131072
few_cells model few =
    let less = counted_few model few in
    let both = cells_of_both model.types (input_fields model) (output_fields model) in
    let inputs = cells_of_signals model (λ (s : Signal). s.incoming) (codes "i_") model.signals less in
    let outputs = cells_of_signals model (λ (s : Signal). true) (codes "o_") model.signals less in
    omega (arith, less, both, inputs, outputs)

-- ---- how many there are

few_sorts : (sorts : List Sort) (ts : List TypeId) → list_all (types.is_supported sorts) ts ≡ true → length ts ≤ sizes.total (cells sorts) ts
few_sorts sorts [] all = omega (arith)
few_sorts sorts (t ∷ ts) all =
    let here = some_cells sorts t (left_of _ _ all) in
    let more = few_sorts sorts ts (right_of _ _ all) in
    omega (arith, here, more)

-- a signal has few parameters
abbrev pub HasFew : Signal → Type 0
HasFew s = length s.sorts ≤ 65536

few_in : (model : Model) (signals : List Signal) → list_all (has_supported_parameters model) signals ≡ true → counted model.types signals ≤ 65536 → AllByRecursion HasFew signals
few_in model [] all few = tt
few_in model (s ∷ signals) all few = (
  let here = few_sorts model.types s.sorts (left_of _ _ all) in omega (arith, here, few),
  few_in model signals (right_of _ _ all) (omega (arith, few)),
)

pub few_parameters : (model : Model) → list_all (has_supported_parameters model) model.signals ≡ true → model_cells model ≤ 65536 → AllByRecursion HasFew model.signals
few_parameters model all few = few_in model model.signals all (counted_few model few)
