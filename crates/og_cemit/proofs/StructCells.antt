-- The structs of the program: each member has a type that is known before, the cells of a struct are those of the type that it
-- stands for, and its shape is that of the type.
use Rattle.std.proofs.Common.{◌≡◌, ℕ, zero, suc, ◌+◌, ◌*◌, ◌<◌, ◌≤◌, ◌^◌, pos, List, [], ◌∷◌, ◌++◌, Bool, true, false, not, cond, ◌&&◌, ◌||◌, ◌==◌, ◌⊎◌, inl, inr, Option, Some, None, map, length, slice_get, nat_lt, refl, sym, ap, subst, ◌∙◌, arith, eq-eqb}
use Rattle.std.specs.Prelude.{option_map}
use Rattle.std.specs.List.{list_all}
use Rattle.std.specs.Str.{bytes_eq}
use Rattle.std.proofs.lemmas.Bool.{false≢true, le-ltb}
use Rattle.std.proofs.lemmas.Option.{none-some}
use Rattle.og_names.specs.declared.Word.{Word}
use Rattle.og_names.proofs.Truths.{both_first as left_of, both_second as right_of, both_true as both, either_first as or_first, either_second as or_second, same_value}
use Rattle.og_types.specs.declared.Part.{Part}
use Rattle.og_types.specs.declared.Sort.{Sort}
use Rattle.og_types.specs.declared.Sort.TheVariants as sort
use Rattle.og_types.specs.declared.TypeId.{TypeId}
use Rattle.og_types.specs.Values.{RefersBelow}
use Rattle.og_model.specs.declared.Model.{Model}
use Rattle.og_ir.specs.declared.Ir.{Ir}
use Rattle.og_ir.specs.declared.SlotDef.{SlotDef}
use Rattle.og_ir.specs.declared.SlotSort.{SlotSort}
use Rattle.og_ir.specs.declared.SlotSort.TheVariants as slot_sort
use Rattle.og_ir.specs.Cells.{◌>>=◌, Cells, Cell, Empty, Both, row, equal_parts, cells_by, count}
use Rattle.og_ir.specs.Reading.{blank_sort, blank}
use Rattle.og_ir.specs.FlatSteps.{blank_slot, first_slots}
use Rattle.og_csubset.specs.declared.CStruct.{CStruct}
use Rattle.og_csubset.specs.declared.CGlobal.{CGlobal}
use Rattle.og_csubset.specs.declared.CMember.{CMember}
use Rattle.og_csubset.specs.declared.CType.{CType}
use Rattle.og_csubset.specs.declared.CType.TheVariants.{Int64, Struct}
use Rattle.og_csubset.specs.Kinds.{is_in, struct_names, members_of, sized, blank_within, blank_type, first_globals, times, total, total_by, width_within, width_of}
use Rattle.og_csubset.specs.Loading.{passes, is_known, structs_known, breaks_K4, breaks_K8, have_shapes, is_one_number, is_choice, is_array, is_seq_of, shape_by, shape_within}
use Rattle.og_csubset.specs.Fair.{Held, One, Whole, Array, held_by, held_as, held_in_slot, is_one, supported_by, supported_within, is_supported, Fair}
use Rattle.og_csubset.proofs.Steady.{all_at}
use Rattle.og_cemit.specs.Marks.{is_marked}
use Rattle.og_cemit.specs.Structs.{prefix_of, struct_word, type_held, type_of, type_of_slot, words_of_sort, member_words, words_in, word_at, part_member, part_members, array_members, members_of_sort, parts_of, needed, is_structured, struct_at, struct_if, structs_from, structs_of, AreFew}
use Rattle.og_cemit.specs.Emitted.{global_of, program_of}
use Rattle.og_cemit.proofs.Names.{same_bytes, within}
use Rattle.og_cemit.proofs.Tests.{all_by}
use Rattle.og_cemit.proofs.Marking.{Among}
use Rattle.og_cemit.proofs.Needed.{among_below, needed_parts, needed_slot}
use Rattle.og_cemit.proofs.Structures.{blank_is, held_type, is_whole_held, whole_structured, down, struct_members, one_cell}

-- ---- numbers

nat_eq_cases : (i j : ℕ) → (i ≡ j) ⊎ (i ≡ j → ⊥)
nat_eq_cases zero zero = inl refl
nat_eq_cases zero (suc j) = inr (λ e. omega (arith, e))
nat_eq_cases (suc i) zero = inr (λ e. omega (arith, e))
nat_eq_cases (suc i) (suc j) = next (nat_eq_cases i j)
  where
    next : (i ≡ j) ⊎ (i ≡ j → ⊥) → (suc i ≡ suc j) ⊎ (suc i ≡ suc j → ⊥)
    next (inl e) = inl (ap suc e)
    next (inr h) = inr (λ e. h (omega (arith, e)))

smaller : (i j : ℕ) → (i ≡ j → ⊥) → i < j + 1 → i < j
smaller zero zero h less = absurd (h refl)
smaller zero (suc j) h less = omega arith
smaller (suc i) zero h less = absurd (omega (arith, less))
smaller (suc i) (suc j) h less = let more = smaller i j (λ e. h (ap suc e)) (omega (arith, less)) in omega (arith, more)

-- ---- how many structs stand before a type

abbrev one_if : Bool → ℕ
one_if false = 0
one_if true = 1

abbrev structured_in : Option Sort → Bool
structured_in None = false
structured_in (Some s) = is_structured s

structs_below : List Bool → List Sort → ℕ → ℕ
structs_below marks sorts zero = 0
structs_below marks sorts (suc n) = structs_below marks sorts n + one_if (is_marked marks n && structured_in (slice_get sorts n))

below_more : (marks : List Bool) (sorts : List Sort) (m k : ℕ) → structs_below marks sorts m ≤ structs_below marks sorts (m + k)
unfolding structs_below
below_more marks sorts m zero = let same : m + 0 ≡ m = omega arith in let e = ap (structs_below marks sorts) same in omega (arith, e)
below_more marks sorts m (suc k) =
    let next : m + suc k ≡ suc (m + k) = omega arith in
    let e = ap (structs_below marks sorts) next in
    let more = below_more marks sorts m k in
    omega (arith, e, more)

below_least : (marks : List Bool) (sorts : List Sort) (m n : ℕ) → m ≤ n → structs_below marks sorts m ≤ structs_below marks sorts n
below_least marks sorts m n least = by_rest (rest m n least)
  where
    rest : (i j : ℕ) → i ≤ j → (k : ℕ) × (i + k ≡ j)
    rest zero j l = (j, omega arith)
    rest (suc i) zero l = absurd (omega (arith, l))
    rest (suc i) (suc j) l = let one = rest i j (omega (arith, l)) in let e = one.1 in (one.0, omega (arith, e))

    by_rest : (k : ℕ) × (m + k ≡ n) → structs_below marks sorts m ≤ structs_below marks sorts n
    by_rest one = let more = below_more marks sorts m one.0 in let e = ap (structs_below marks sorts) one.1 in omega (arith, more, e)

below_all : (prefix : List ℕ) (words : List (List Word)) (marks : List Bool) (sorts : List Sort) (from : ℕ) (more : List Sort)
    → ((j : ℕ) → slice_get sorts (from + j) ≡ slice_get more j)
    → structs_below marks sorts (from + length more) ≡ structs_below marks sorts from + length (structs_from prefix sorts words marks from more)
unfolding structs_below
below_all prefix words marks sorts from [] same = let e : from + 0 ≡ from = omega arith in let q = ap (structs_below marks sorts) e in omega (arith, q)
below_all prefix words marks sorts from (s ∷ more) same =
    let next : from + length (s ∷ more) ≡ from + 1 + length more = omega arith in
    let one : from + 1 ≡ suc from = omega arith in
    let zero_plus : from ≡ from + 0 = omega arith in
    let here : slice_get sorts from ≡ Some s = ap (slice_get sorts) zero_plus ∙ same 0 in
    let rest = below_all prefix words marks sorts (from + 1) more (λ j. let e : from + 1 + j ≡ from + suc j = omega arith in ap (slice_get sorts) e ∙ same (suc j)) in
    let whole = ap (structs_below marks sorts) next in
    let first = ap (structs_below marks sorts) one in
    let count' = ap (λ o. one_if (is_marked marks from && structured_in o)) here in
    let long = if_length (is_marked marks from && is_structured s) (struct_at prefix sorts words from s) (structs_from prefix sorts words marks (from + 1) more) in
    omega (arith, rest, whole, first, count', long)
  where
    if_length : (b : Bool) (x : CStruct) (l : List CStruct) → length (struct_if b x ++ l) ≡ one_if b + length l
    if_length false x l = omega arith
    if_length true x l = omega arith

held_structured : (t : TypeId) (s : Sort) → is_structured s ≡ true → held_by t s ≡ Some (Whole t)
held_structured t (sort.Int lo hi) h = absurd (false≢true h)
held_structured t sort.Bool h = absurd (false≢true h)
held_structured t (sort.Enumerated names numbers) h = absurd (false≢true h)
held_structured t (sort.Sequence []) h = absurd (false≢true h)
held_structured t (sort.Sequence (p ∷ parts)) h = refl
held_structured t (sort.Choice parts) h = refl
held_structured t (sort.SeqOf lo hi item) h = refl
held_structured t sort.Opaque h = absurd (false≢true h)

held_single : (t : TypeId) (s : Sort) → is_structured s ≡ false → (inside : TypeId → Bool) → supported_by inside s ≡ true → held_by t s ≡ Some One
held_single t (sort.Int lo hi) h inside all = refl
held_single t sort.Bool h inside all = refl
held_single t (sort.Enumerated names numbers) h inside all = refl
held_single t (sort.Sequence []) h inside all = refl
held_single t (sort.Sequence (p ∷ parts)) h inside all = absurd (false≢true (sym h))
held_single t (sort.Choice parts) h inside all = absurd (false≢true (sym h))
held_single t (sort.SeqOf lo hi item) h inside all = absurd (false≢true (sym h))
held_single t sort.Opaque h inside all = absurd (false≢true all)

module _ (ir : Ir) (model : Model) (fair : Fair ir model) (few : AreFew model.types) where
  abbrev structs : List CStruct
  structs = structs_of ir model

  abbrev type_c : TypeId → CType
  type_c t = type_of (prefix_of ir) model.types t

  below : ℕ → ℕ
  below n = structs_below (needed model ir) model.types n

  below_structs : (n : ℕ) → n ≤ length model.types → below n ≤ length structs
  unfolding below structs_below
  below_structs n least =
      let all = below_all (prefix_of ir) (member_words model) (needed model ir) model.types 0 model.types (λ j. let e : 0 + j ≡ j = omega arith in ap (slice_get model.types) e) in
      let zero_plus = ap (structs_below (needed model ir) model.types) (let e : 0 + length model.types ≡ length model.types = omega arith in e) in
      let less = below_least (needed model ir) model.types n (length model.types) least in
      omega (arith, all, less, zero_plus)

  below_next : (t : ℕ) (s : Sort) → slice_get model.types t ≡ Some s → is_marked (needed model ir) t ≡ true → is_structured s ≡ true → below (t + 1) ≡ below t + 1
  unfolding below structs_below
  below_next t s e marked structured =
      let one : t + 1 ≡ suc t = omega arith in
      ap (structs_below (needed model ir) model.types) one
      ∙ ap (λ o. structs_below (needed model ir) model.types t + one_if (is_marked (needed model ir) t && structured_in o)) e
      ∙ ap (λ b. structs_below (needed model ir) model.types t + one_if b) (both _ _ marked structured)

  below_part : (m t : ℕ) → m < t → below (m + 1) ≤ below t
  unfolding below
  below_part m t less = below_least (needed model ir) model.types (m + 1) t (omega (arith, less))

  part_marked : (t : TypeId) (s : Sort) (k : ℕ) → slice_get model.types t.0 ≡ Some s → is_marked (needed model ir) t.0 ≡ true → Among k (parts_of s) → is_marked (needed model ir) k ≡ true
  part_marked t s k e marked a = needed_parts model ir (down ir model fair few) t.0 s k e a marked

  -- ---- cells

  -- each cell of a needed type has its place in the program
  abbrev Blanks : ℕ → ℕ → Type 0
  Blanks n d = (t : TypeId) → supported_within n model.types t ≡ true → is_marked (needed model ir) t.0 ≡ true → below (t.0 + 1) < d
      → blank_within d structs (type_c t) ≡ blank model.types t

  module _ (n d : ℕ) (inside : Blanks n d) where
    abbrev member_cells : CMember → Cells
    member_cells m = sized m.size (blank_within d structs m.kind)

    parts_blank : (parts : List Part) (words : List Word) (k : ℕ) → list_all (λ (p : Part). supported_within n model.types p.sort) parts ≡ true
        → ((p : ℕ) → Among p (map (λ (q : Part). q.sort.0) parts) → (is_marked (needed model ir) p ≡ true) × (below (p + 1) < d))
        → row (map member_cells (part_members (prefix_of ir) model.types words k parts)) ≡ row (map (λ (p : Part). blank model.types p.sort) parts)
    parts_blank [] words k all each = refl
    parts_blank (p ∷ parts) words k all each =
        let one = each p.sort.0 (inl refl) in
        ap (λ x. Both x (row (map member_cells (part_members (prefix_of ir) model.types words (k + 1) parts))))
        (inside p.sort (left_of (supported_within n model.types p.sort) _ all) one.0 one.1)
        ∙ ap (Both (blank model.types p.sort)) (parts_blank parts words (k + 1) (right_of (supported_within n model.types p.sort) _ all) (λ j a. each j (inr a)))

    struct_blank : (s : Sort) (words : List Word) → is_structured s ≡ true → supported_by (supported_within n model.types) s ≡ true
        → ((p : ℕ) → Among p (parts_of s) → (is_marked (needed model ir) p ≡ true) × (below (p + 1) < d)) → 0 < d
        → row (map member_cells (members_of_sort (prefix_of ir) model.types words s)) ≡ blank_sort (blank model.types) s
    struct_blank (sort.Int lo hi) words h all each some = absurd (false≢true h)
    struct_blank sort.Bool words h all each some = absurd (false≢true h)
    struct_blank (sort.Enumerated names numbers) words h all each some = absurd (false≢true h)
    struct_blank sort.Opaque words h all each some = absurd (false≢true h)
    struct_blank (sort.Sequence []) words h all each some = absurd (false≢true h)
    struct_blank (sort.Sequence (p ∷ parts)) words h all each some = parts_blank (p ∷ parts) words 0 all each
    struct_blank (sort.Choice parts) words h all each some =
        ap (λ x. Both x (row (map member_cells (part_members (prefix_of ir) model.types words 1 parts)))) (number_cells d some)
        ∙ ap (Both (Cell (pos 0))) (parts_blank parts words 1 all each)
      where
        number_cells : (k : ℕ) → 0 < k → blank_within k structs Int64 ≡ Cell (pos 0)
        number_cells zero l = absurd (omega (arith, l))
        number_cells (suc k) l = refl
    struct_blank (sort.SeqOf lo zero item) words h all each some = ap (λ x. Both x Empty) (number_cells d some)
      where
        number_cells : (k : ℕ) → 0 < k → blank_within k structs Int64 ≡ Cell (pos 0)
        number_cells zero l = absurd (omega (arith, l))
        number_cells (suc k) l = refl
    struct_blank (sort.SeqOf lo (suc hi) item) words h all each some =
        let one = each item.0 (inl refl) in
        ap (λ x. Both x (Both (equal_parts (suc hi) (blank_within d structs (type_c item))) Empty)) (number_cells d some)
        ∙ ap (λ x. Both (Cell (pos 0)) (Both (equal_parts (suc hi) x) Empty)) (inside item all one.0 one.1)
      where
        number_cells : (k : ℕ) → 0 < k → blank_within k structs Int64 ≡ Cell (pos 0)
        number_cells zero l = absurd (omega (arith, l))
        number_cells (suc k) l = refl

  blanks : (n d : ℕ) → Blanks n d
  blanks zero d t supported marked deep = absurd (false≢true supported)
  blanks (suc n) zero t supported marked deep = absurd (omega (arith, deep))
  blanks (suc n) (suc d) t supported marked deep = by_sort (slice_get model.types t.0) refl supported (blanks n d)
    where
      by_held : (s : Sort) → slice_get model.types t.0 ≡ Some s → supported_by (supported_within n model.types) s ≡ true → Blanks n d
          → (o : Option Held) → held_as model.types t ≡ o → (is_structured s ≡ true → o ≡ Some (Whole t)) → (is_structured s ≡ false → o ≡ Some One)
          → (b : Bool) → is_structured s ≡ b → blank_within (suc d) structs (type_c t) ≡ blank model.types t
      by_held s e all inside o q whole one true structured =
          let inner : below t.0 < d = let next = below_next t.0 s e marked structured in omega (arith, deep, next) in
          ap (λ x. blank_within (suc d) structs (type_held (prefix_of ir) x)) (q ∙ whole structured)
          ∙ ap (λ m. cells_by (λ members. row (map (λ (x : CMember). sized x.size (blank_within d structs x.kind)) members)) m) (struct_members ir model fair few t s marked e structured)
          ∙ struct_blank n d inside s (words_of_sort model s) structured all
          (λ p a. (part_marked t s p e marked a, let least = below_part p t.0 (among_below t.0 s p (down ir model fair few t.0 s e) a) in omega (arith, inner, least))) (omega (arith, inner))
          ∙ sym (blank_is model.types (down ir model fair few) t ∙ ap (cells_by (blank_sort (blank model.types))) e)
      by_held s e all inside o q whole one false other =
          ap (λ x. blank_within (suc d) structs (type_held (prefix_of ir) x)) (q ∙ one other)
          ∙ sym (blank_is model.types (down ir model fair few) t ∙ ap (cells_by (blank_sort (blank model.types))) e ∙ one_cell t (blank model.types) s (held_one s (sym (ap (λ x. x >>= held_by t) e) ∙ q ∙ one other)))
        where
          held_one : (x : Sort) → held_by t x ≡ Some One → is_one (held_by t x) ≡ true
          held_one x h = ap is_one h

      by_sort : (o : Option Sort) → slice_get model.types t.0 ≡ o → passes (supported_by (supported_within n model.types)) o ≡ true → Blanks n d
          → blank_within (suc d) structs (type_c t) ≡ blank model.types t
      by_sort None e all inside = absurd (false≢true all)
      by_sort (Some s) e all inside =
          by_held s e all inside (held_as model.types t) refl
          (λ h. ap (λ x. x >>= held_by t) e ∙ held_structured t s h) (λ h. ap (λ x. x >>= held_by t) e ∙ held_single t s h (supported_within n model.types) all) (is_structured s) refl

  -- ---- slots

  pub type_there : (n : ℕ) (t : TypeId) → supported_within n model.types t ≡ true → t.0 < length model.types
  type_there zero t h = absurd (false≢true h)
  type_there (suc n) t h = by_sort (slice_get model.types t.0) refl h
    where
      by_sort : (o : Option Sort) → slice_get model.types t.0 ≡ o → passes (supported_by (supported_within n model.types)) o ≡ true → t.0 < length model.types
      by_sort None e q = absurd (false≢true q)
      by_sort (Some s) e q = within model.types t.0 s e

  slot_blank : (j : ℕ) (slot : SlotDef) → slice_get ir.slots j ≡ Some slot
      → blank_type structs (type_of_slot (prefix_of ir) model.types slot.sort) ≡ blank_slot model.types slot.sort
  slot_blank j slot e = by_sort slot.sort refl (all_at (λ (x : SlotDef). is_supported model.types x.sort) ir.slots j slot fair.supported e)
    where
      next : length structs + 1 ≡ suc (length structs)
      next = omega arith

      by_sort : (s : SlotSort) → slot.sort ≡ s → is_supported model.types s ≡ true
          → blank_type structs (type_of_slot (prefix_of ir) model.types s) ≡ blank_slot model.types s
      by_sort slot_sort.Cell is h = ap (λ d. blank_within d structs Int64) next
      by_sort (slot_sort.Shaped t) is h =
          let inside = type_there (t.0 + 1) t h in
          let most = below_structs (t.0 + 1) (omega (arith, inside)) in
          blanks (t.0 + 1) (length structs + 1) t h (needed_slot model ir j slot t e is inside) (omega (arith, most))

  slots_blank : (slots : List SlotDef) → ((j : ℕ) (slot : SlotDef) → slice_get slots j ≡ Some slot → blank_type structs (type_of_slot (prefix_of ir) model.types slot.sort) ≡ blank_slot model.types slot.sort)
      → map (λ (g : CGlobal). blank_type structs g.kind) (map (global_of (prefix_of ir) model.types) slots) ≡ map (λ (x : SlotDef). blank_slot model.types x.sort) slots
  slots_blank [] h = refl
  slots_blank (x ∷ slots) h =
      ap (λ c. c ∷ map (λ (g : CGlobal). blank_type structs g.kind) (map (global_of (prefix_of ir) model.types) slots)) (h 0 x refl)
      ∙ ap (λ l. blank_slot model.types x.sort ∷ l) (slots_blank slots (λ j slot e. h (suc j) slot e))

  pub cells_at_load : first_globals (program_of ir model) ≡ first_slots model.types ir
  cells_at_load = slots_blank ir.slots slot_blank

-- ---- how many cells there are

count_equal : (n : ℕ) (x : Cells) → count (equal_parts n x) ≡ n * count x
count_equal zero x = omega arith
count_equal (suc n) x = let more = count_equal n x in omega (arith, more)

count_sized : (size : Option ℕ) (x : Cells) (w : ℕ) → count x ≡ w → count (sized size x) ≡ times size w
count_sized None x w e = e
count_sized (Some n) x w e = count_equal n x ∙ ap (λ k. n * k) e

count_row : (f : CMember → Cells) (g : CMember → ℕ) → ((m : CMember) → count (f m) ≡ g m) → (members : List CMember)
    → count (row (map f members)) ≡ total (map g members)
count_row f g h [] = refl
count_row f g h (m ∷ members) = let one = h m in let more = count_row f g h members in omega (arith, one, more)

count_members : (f : CMember → Cells) (g : CMember → ℕ) → ((m : CMember) → count (f m) ≡ g m) → (o : Option (List CMember))
    → count (cells_by (λ members. row (map f members)) o) ≡ total_by g o
count_members f g h None = refl
count_members f g h (Some members) = count_row f g h members

count_within : (d : ℕ) (structs : List CStruct) (t : CType) → count (blank_within d structs t) ≡ width_within d structs t
count_within zero structs t = refl
count_within (suc d) structs Int64 = refl
count_within (suc d) structs (Struct name) =
    count_members (λ (m : CMember). sized m.size (blank_within d structs m.kind)) (λ (m : CMember). times m.size (width_within d structs m.kind))
    (λ m. count_sized m.size (blank_within d structs m.kind) (width_within d structs m.kind) (count_within d structs m.kind)) (members_of structs (Struct name))

count_globals : (structs : List CStruct) (globals : List CGlobal)
    → total (map (λ (g : CGlobal). width_of structs g.kind) globals) ≡ total (map count (map (λ (g : CGlobal). blank_type structs g.kind) globals))
count_globals structs [] = refl
count_globals structs (g ∷ globals) =
    let one = count_within (length structs + 1) structs g.kind in let more = count_globals structs globals in omega (arith, one, more)

pub keeps_K8 : (ir : Ir) (model : Model) → Fair ir model → AreFew model.types → breaks_K8 (program_of ir model) ≡ false
keeps_K8 ir model fair few =
    ap (nat_lt 16777216) (count_globals (structs_of ir model) (map (global_of (prefix_of ir) model.types) ir.slots) ∙ ap (λ l. total (map count l)) (cells_at_load ir model fair few))
    ∙ le-ltb 16777216 (total (map count (first_slots model.types ir))) fair.small

-- ---- types that are known

abbrev names_in : List CStruct → List (List ℕ)
names_in structs = map (λ (s : CStruct). s.name.bytes) structs

module _ (ir : Ir) (model : Model) (fair : Fair ir model) (few : AreFew model.types) where
  -- the structs of the needed types below a number have their names among these
  abbrev Known : ℕ → List (List ℕ) → Type 0
  Known from names = (k : ℕ) (s : Sort) → k < from → slice_get model.types k ≡ Some s → is_marked (needed model ir) k ≡ true → is_structured s ≡ true
      → is_in (struct_word (prefix_of ir) k).bytes names ≡ true

  pub whole_there : (t u : TypeId) → held_as model.types t ≡ Some (Whole u) → (s : Sort) × (slice_get model.types t.0 ≡ Some s) × (is_structured s ≡ true)
  whole_there t u e = by_sort (slice_get model.types t.0) refl e
    where
      by_sort : (o : Option Sort) → slice_get model.types t.0 ≡ o → (o >>= held_by t) ≡ Some (Whole u) → (s : Sort) × (o ≡ Some s) × (is_structured s ≡ true)
      by_sort None e' q = absurd (none-some (Whole u) q)
      by_sort (Some s) e' q = (s, refl, whole_structured t s (ap is_whole_held q))

  type_known : (from : ℕ) (names : List (List ℕ)) → Known from names → (t : TypeId) → t.0 < from → is_marked (needed model ir) t.0 ≡ true
      → is_known names (type_of (prefix_of ir) model.types t) ≡ true
  type_known from names known t less marked = by_held (held_as model.types t) refl
    where
      by_held : (o : Option Held) → held_as model.types t ≡ o → is_known names (type_held (prefix_of ir) o) ≡ true
      by_held None e = refl
      by_held (Some One) e = refl
      by_held (Some (Whole u)) e =
          let same : u ≡ t = held_type model.types t u e in
          let one = whole_there t u e in
          ap (λ (v : TypeId). is_in (struct_word (prefix_of ir) v.0).bytes names) same ∙ known t.0 one.0 less one.1 marked one.2
      by_held (Some (Array u)) e = refl

  parts_known : (names : List (List ℕ)) (words : List Word) (k : ℕ) (parts : List Part)
      → ((p : TypeId) → Among p.0 (map (λ (q : Part). q.sort.0) parts) → is_known names (type_of (prefix_of ir) model.types p) ≡ true)
      → list_all (λ (m : CMember). is_known names m.kind) (part_members (prefix_of ir) model.types words k parts) ≡ true
  parts_known names words k [] h = refl
  parts_known names words k (p ∷ parts) h = both _ _ (h p.sort (inl refl)) (parts_known names words (k + 1) parts (λ q a. h q (inr a)))

  members_known : (names : List (List ℕ)) (words : List Word) (s : Sort)
      → ((p : TypeId) → Among p.0 (parts_of s) → is_known names (type_of (prefix_of ir) model.types p) ≡ true)
      → list_all (λ (m : CMember). is_known names m.kind) (members_of_sort (prefix_of ir) model.types words s) ≡ true
  members_known names words (sort.Int lo hi) h = refl
  members_known names words sort.Bool h = refl
  members_known names words (sort.Enumerated ns numbers) h = refl
  members_known names words (sort.Sequence parts) h = parts_known names words 0 parts h
  members_known names words (sort.Choice parts) h = parts_known names words 1 parts h
  members_known names words (sort.SeqOf lo zero item) h = refl
  members_known names words (sort.SeqOf lo (suc hi) item) h = both _ _ (h item (inl refl)) refl
  members_known names words sort.Opaque h = refl

  known_from : (words : List (List Word)) (from : ℕ) (more : List Sort) (names : List (List ℕ)) → ((j : ℕ) → slice_get model.types (from + j) ≡ slice_get more j)
      → Known from names → structs_known names (structs_from (prefix_of ir) model.types words (needed model ir) from more) ≡ true
  known_from words from [] names same known = refl
  known_from words from (s ∷ more) names same known =
      by_test (is_marked (needed model ir) from && is_structured s) refl
      (λ names' known'. known_from words (from + 1) more names' (λ j. let e : from + 1 + j ≡ from + suc j = omega arith in ap (slice_get model.types) e ∙ same (suc j)) known')
    where
      there : slice_get model.types from ≡ Some s
      there = let e : from ≡ from + 0 = omega arith in ap (slice_get model.types) e ∙ same 0

      by_test : (b : Bool) → (is_marked (needed model ir) from && is_structured s) ≡ b
          → ((names' : List (List ℕ)) → Known (from + 1) names' → structs_known names' (structs_from (prefix_of ir) model.types words (needed model ir) (from + 1) more) ≡ true)
          → structs_known names (struct_if b (struct_at (prefix_of ir) model.types words from s) ++ structs_from (prefix_of ir) model.types words (needed model ir) (from + 1) more) ≡ true
      by_test false q rest = rest names (λ k x less e marked structured. known k x (earlier k x less e (both _ _ marked structured)) e marked structured)
        where
          earlier : (k : ℕ) (x : Sort) → k < from + 1 → slice_get model.types k ≡ Some x → (is_marked (needed model ir) k && is_structured x) ≡ true → k < from
          earlier k x less e h = by_same (nat_eq_cases k from)
            where
              by_same : (k ≡ from) ⊎ (k ≡ from → ⊥) → k < from
              by_same (inl same') = absurd (false≢true (sym q ∙ ap (λ y. is_marked (needed model ir) from && is_structured y) (same_value s x (sym there ∙ ap (slice_get model.types) (sym same') ∙ e)) ∙ ap (λ n. is_marked (needed model ir) n && is_structured x) (sym same') ∙ h))
              by_same (inr other) = smaller k from other less
      by_test true q rest =
          both _ _
          (members_known names (words_in (slice_get words from)) s (λ p a.
          let less = among_below from s p.0 (down ir model fair few from s there) a in
          type_known from names known p less (needed_parts model ir (down ir model fair few) from s p.0 there a (left_of (is_marked (needed model ir) from) (is_structured s) q))))
          (rest ((struct_word (prefix_of ir) from).bytes ∷ names) more_known)
        where
          more_known : Known (from + 1) ((struct_word (prefix_of ir) from).bytes ∷ names)
          more_known k x less e marked structured = by_same (nat_eq_cases k from)
            where
              by_same : (k ≡ from) ⊎ (k ≡ from → ⊥) → is_in (struct_word (prefix_of ir) k).bytes ((struct_word (prefix_of ir) from).bytes ∷ names) ≡ true
              by_same (inl same') = or_first _ _ (ap (λ n. bytes_eq (struct_word (prefix_of ir) k).bytes (struct_word (prefix_of ir) n).bytes) (sym same') ∙ same_bytes (struct_word (prefix_of ir) k).bytes)
              by_same (inr other) = or_second (bytes_eq (struct_word (prefix_of ir) k).bytes (struct_word (prefix_of ir) from).bytes) _ (known k x (smaller k from other less) e marked structured)

  -- the struct of a needed type is there
  struct_in : (words : List (List Word)) (from : ℕ) (more : List Sort) (k : ℕ) (s : Sort) → slice_get more k ≡ Some s
      → (is_marked (needed model ir) (from + k) && is_structured s) ≡ true
      → is_in (struct_word (prefix_of ir) (from + k)).bytes (names_in (structs_from (prefix_of ir) model.types words (needed model ir) from more)) ≡ true
  struct_in words from [] k s e h = absurd (none-some s e)
  struct_in words from (x ∷ more) zero s e h =
      let zero_plus : from + 0 ≡ from = omega arith in
      let test : (is_marked (needed model ir) from && is_structured x) ≡ true = ap (λ y. is_marked (needed model ir) from && is_structured y) (same_value x s e) ∙ ap (λ n. is_marked (needed model ir) n && is_structured s) (sym zero_plus) ∙ h in
      ap (λ b. is_in (struct_word (prefix_of ir) (from + 0)).bytes (names_in (struct_if b (struct_at (prefix_of ir) model.types words from x) ++ structs_from (prefix_of ir) model.types words (needed model ir) (from + 1) more))) test
      ∙ or_first _ _ (ap (λ n. bytes_eq (struct_word (prefix_of ir) n).bytes (struct_word (prefix_of ir) from).bytes) zero_plus ∙ same_bytes (struct_word (prefix_of ir) from).bytes)
  struct_in words from (x ∷ more) (suc k) s e h =
      let next : from + suc k ≡ from + 1 + k = omega arith in
      by_test (is_marked (needed model ir) from && is_structured x)
      (ap (λ n. is_in (struct_word (prefix_of ir) n).bytes (names_in (structs_from (prefix_of ir) model.types words (needed model ir) (from + 1) more))) next
      ∙ struct_in words (from + 1) more k s e (ap (λ n. is_marked (needed model ir) n && is_structured s) (sym next) ∙ h))
    where
      by_test : (b : Bool) → is_in (struct_word (prefix_of ir) (from + suc k)).bytes (names_in (structs_from (prefix_of ir) model.types words (needed model ir) (from + 1) more)) ≡ true
          → is_in (struct_word (prefix_of ir) (from + suc k)).bytes (names_in (struct_if b (struct_at (prefix_of ir) model.types words from x) ++ structs_from (prefix_of ir) model.types words (needed model ir) (from + 1) more)) ≡ true
      by_test false q = q
      by_test true q = or_second (bytes_eq (struct_word (prefix_of ir) (from + suc k)).bytes (struct_word (prefix_of ir) from).bytes) _ q

  all_known : Known (length model.types) (struct_names (program_of ir model))
  all_known k s less e marked structured =
      let zero_plus : 0 + k ≡ k = omega arith in
      ap (λ n. is_in (struct_word (prefix_of ir) n).bytes (struct_names (program_of ir model))) (sym zero_plus)
      ∙ struct_in (member_words model) 0 model.types k s e (both _ _ (ap (is_marked (needed model ir)) zero_plus ∙ marked) structured)

  global_known : (j : ℕ) (slot : SlotDef) → slice_get ir.slots j ≡ Some slot
      → is_known (struct_names (program_of ir model)) (type_of_slot (prefix_of ir) model.types slot.sort) ≡ true
  global_known j slot e = by_sort slot.sort refl (all_at (λ (x : SlotDef). is_supported model.types x.sort) ir.slots j slot fair.supported e)
    where
      by_sort : (s : SlotSort) → slot.sort ≡ s → is_supported model.types s ≡ true
          → is_known (struct_names (program_of ir model)) (type_of_slot (prefix_of ir) model.types s) ≡ true
      by_sort slot_sort.Cell is h = refl
      by_sort (slot_sort.Shaped t) is h =
          let inside = type_there ir model fair few (t.0 + 1) t h in
          type_known (length model.types) (struct_names (program_of ir model)) all_known t inside (needed_slot model ir j slot t e is inside)

  globals_known : (slots : List SlotDef) → ((j : ℕ) (slot : SlotDef) → slice_get slots j ≡ Some slot → is_known (struct_names (program_of ir model)) (type_of_slot (prefix_of ir) model.types slot.sort) ≡ true)
      → list_all (λ (g : CGlobal). is_known (struct_names (program_of ir model)) g.kind) (map (global_of (prefix_of ir) model.types) slots) ≡ true
  globals_known [] h = refl
  globals_known (x ∷ slots) h = both _ _ (h 0 x refl) (globals_known slots (λ j slot e. h (suc j) slot e))

  pub keeps_K4 : breaks_K4 (program_of ir model) ≡ false
  keeps_K4 =
      ap not (both _ _
      (known_from (member_words model) 0 model.types [] (λ j. let e : 0 + j ≡ j = omega arith in ap (slice_get model.types) e) (λ k s less e marked structured. absurd (omega (arith, less))))
      (globals_known ir.slots global_known))

  -- ---- shapes

  abbrev Shapes : ℕ → ℕ → Type 0
  Shapes n d = (t : TypeId) → supported_within n model.types t ≡ true → is_marked (needed model ir) t.0 ≡ true → t.0 < d
      → shape_within d (structs_of ir model) model.types (type_of (prefix_of ir) model.types t) t ≡ true

  module _ (n d : ℕ) (inside : Shapes n d) where
    parts_shaped : (parts : List Part) (words : List Word) (k : ℕ) → list_all (λ (p : Part). supported_within n model.types p.sort) parts ≡ true
        → ((p : ℕ) → Among p (map (λ (q : Part). q.sort.0) parts) → (is_marked (needed model ir) p ≡ true) × (p < d))
        → have_shapes (shape_within d (structs_of ir model) model.types) (part_members (prefix_of ir) model.types words k parts) parts ≡ true
    parts_shaped [] words k all each = refl
    parts_shaped (p ∷ parts) words k all each =
        let one = each p.sort.0 (inl refl) in
        both _ _ (inside p.sort (left_of (supported_within n model.types p.sort) _ all) one.0 one.1)
        (parts_shaped parts words (k + 1) (right_of (supported_within n model.types p.sort) _ all) (λ j a. each j (inr a)))

    struct_shaped : (s : Sort) (c : CType) → is_structured s ≡ true → supported_by (supported_within n model.types) s ≡ true
        → ((p : ℕ) → Among p (parts_of s) → (is_marked (needed model ir) p ≡ true) × (p < d))
        → (words : List Word) → members_of (structs_of ir model) c ≡ Some (members_of_sort (prefix_of ir) model.types words s)
        → shape_by (shape_within d (structs_of ir model) model.types) (structs_of ir model) c (Some s) ≡ true
    struct_shaped (sort.Int lo hi) c h all each words e = absurd (false≢true h)
    struct_shaped sort.Bool c h all each words e = absurd (false≢true h)
    struct_shaped (sort.Enumerated names numbers) c h all each words e = absurd (false≢true h)
    struct_shaped sort.Opaque c h all each words e = absurd (false≢true h)
    struct_shaped (sort.Sequence []) c h all each words e = absurd (false≢true h)
    struct_shaped (sort.Sequence (p ∷ parts)) c h all each words e =
        ap (passes (λ members. have_shapes (shape_within d (structs_of ir model) model.types) members (p ∷ parts))) e ∙ parts_shaped (p ∷ parts) words 0 all each
    struct_shaped (sort.Choice parts) c h all each words e =
        ap (passes (is_choice (shape_within d (structs_of ir model) model.types) parts)) e ∙ parts_shaped parts words 1 all each
    struct_shaped (sort.SeqOf lo zero item) c h all each words e =
        ap (passes (is_seq_of (shape_within d (structs_of ir model) model.types) 0 item)) e
    struct_shaped (sort.SeqOf lo (suc hi) item) c h all each words e =
        let one = each item.0 (inl refl) in
        ap (passes (is_seq_of (shape_within d (structs_of ir model) model.types) (suc hi) item)) e
        ∙ both _ _ (eq-eqb (suc hi) (suc hi) refl) (inside item all one.0 one.1)

  single_shaped : (t : TypeId) (s : Sort) (inside : CType → TypeId → Bool) → is_structured s ≡ false → (test : TypeId → Bool) → supported_by test s ≡ true
      → shape_by inside (structs_of ir model) Int64 (Some s) ≡ true
  single_shaped t (sort.Int lo hi) inside h test all = refl
  single_shaped t sort.Bool inside h test all = refl
  single_shaped t (sort.Enumerated names numbers) inside h test all = refl
  single_shaped t (sort.Sequence []) inside h test all = refl
  single_shaped t (sort.Sequence (p ∷ parts)) inside h test all = absurd (false≢true (sym h))
  single_shaped t (sort.Choice parts) inside h test all = absurd (false≢true (sym h))
  single_shaped t (sort.SeqOf lo hi item) inside h test all = absurd (false≢true (sym h))
  single_shaped t sort.Opaque inside h test all = absurd (false≢true all)

  pub shapes : (n d : ℕ) → Shapes n d
  shapes zero d t supported marked deep = absurd (false≢true supported)
  shapes (suc n) zero t supported marked deep = absurd (omega (arith, deep))
  shapes (suc n) (suc d) t supported marked deep = by_sort (slice_get model.types t.0) refl supported (shapes n d)
    where
      by_kind : (s : Sort) → slice_get model.types t.0 ≡ Some s → supported_by (supported_within n model.types) s ≡ true → Shapes n d
          → (b : Bool) → is_structured s ≡ b
          → shape_by (shape_within d (structs_of ir model) model.types) (structs_of ir model) (type_of (prefix_of ir) model.types t) (Some s) ≡ true
      by_kind s e all inside true structured =
          ap (λ o. shape_by (shape_within d (structs_of ir model) model.types) (structs_of ir model) (type_held (prefix_of ir) o) (Some s)) (ap (λ x. x >>= held_by t) e ∙ held_structured t s structured)
          ∙ struct_shaped n d inside s (Struct (struct_word (prefix_of ir) t.0)) structured all
          (λ p a. (needed_parts model ir (down ir model fair few) t.0 s p e a marked, let less = among_below t.0 s p (down ir model fair few t.0 s e) a in omega (arith, less, deep)))
          (words_of_sort model s) (struct_members ir model fair few t s marked e structured)
      by_kind s e all inside false other =
          ap (λ o. shape_by (shape_within d (structs_of ir model) model.types) (structs_of ir model) (type_held (prefix_of ir) o) (Some s)) (ap (λ x. x >>= held_by t) e ∙ held_single t s other (supported_within n model.types) all)
          ∙ single_shaped t s (shape_within d (structs_of ir model) model.types) other (supported_within n model.types) all

      by_sort : (o : Option Sort) → slice_get model.types t.0 ≡ o → passes (supported_by (supported_within n model.types)) o ≡ true → Shapes n d
          → shape_by (shape_within d (structs_of ir model) model.types) (structs_of ir model) (type_of (prefix_of ir) model.types t) o ≡ true
      by_sort None e all inside = absurd (false≢true all)
      by_sort (Some s) e all inside = by_kind s e all inside (is_structured s) refl
