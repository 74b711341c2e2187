-- What stands at a place of the program, beside what stands there in the code: a number, a struct, or an array. A selector
-- leads to the same part on both sides.
use Rattle.std.proofs.Common.{◌≡◌, ℕ, zero, suc, ◌+◌, ◌<◌, ◌^◌, pos, List, [], ◌∷◌, ◌++◌, Bool, true, false, cond, ◌&&◌, ◌⊎◌, inl, inr, ◌==◌, Option, Some, None, map, length, slice_get, refl, sym, ap, subst, ◌∙◌, arith}
use Rattle.std.specs.Prelude.{find, option_map}
use Rattle.std.specs.Str.{bytes_eq}
use Rattle.std.proofs.lemmas.Bool.{false≢true}
use Rattle.std.proofs.lemmas.Option.{none-some}
use Rattle.og_names.specs.declared.Word.{Word}
use Rattle.og_names.proofs.Truths.{both_first as left_of, both_second as right_of, both_true as both, neither_first as or_left, neither_second as or_right, same_value}
use Rattle.og_types.specs.declared.Part.{Part}
use Rattle.og_types.specs.declared.Sort.{Sort}
use Rattle.og_types.specs.declared.Sort.TheVariants as sort
use Rattle.og_types.specs.declared.TypeId.{TypeId}
use Rattle.og_types.specs.Values.{PartsBelow, RefersBelow, IsDownward}
use Rattle.og_types.proofs.Tables.{tables_are_downward}
use Rattle.og_model.specs.declared.Model.{Model}
use Rattle.og_ir.specs.declared.Ir.{Ir}
use Rattle.og_ir.specs.declared.SlotDef.{SlotDef}
use Rattle.og_ir.specs.declared.SlotSort.{SlotSort}
use Rattle.og_ir.specs.declared.SlotSort.TheVariants as slot_sort
use Rattle.og_ir.specs.Cells.{◌>>=◌, Cells, Cell, Empty, Both, row, equal_parts, cells_by, part}
use Rattle.og_ir.specs.Reading.{blank_sort, blank_within, blank}
use Rattle.og_csubset.specs.declared.CStruct.{CStruct}
use Rattle.og_csubset.specs.declared.CMember.{CMember}
use Rattle.og_csubset.specs.declared.CType.{CType}
use Rattle.og_csubset.specs.declared.CType.TheVariants.{Int64, Struct}
use Rattle.og_csubset.specs.Kinds.{Kind, is_in, members_of, member_in, member_of, element_of, type_of_one}
use Rattle.og_ir.specs.FlatSteps.{blank_slot}
use Rattle.og_csubset.specs.Fair.{Held, One, Whole, Array, held_by, held_as, held_in_slot, is_one, field_by, field_of, Fair}
use Rattle.og_csubset.specs.Loading.{has_twice}
use Rattle.og_cemit.specs.Marks.{is_marked}
use Rattle.og_cemit.specs.Structs.{prefix_of, struct_word, type_held, type_of, words_of_sort, member_words, word_in, word_at, words_in, member_word, number_member, part_member, part_members, array_members, members_of_sort, parts_of, needed, is_structured, struct_at, struct_if, structs_from, structs_of, type_of_slot, has_few_parts, HaveFewParts, AreFew, choice_word, length_word, items_word}
use Rattle.og_cemit.proofs.Names.{get_map, within, there, same_bytes, other_bytes, is_in_at}
use Rattle.og_cemit.proofs.Marking.{Among}
use Rattle.og_cemit.proofs.Needed.{needed_parts, needed_slot}
use Rattle.og_cemit.proofs.MemberNames.{members_differ}
use Rattle.og_cemit.proofs.StructWords.{struct_words_differ}

-- ---- blank cells by parts

module _ (f g : TypeId → Cells) (n : ℕ) (h : (t : TypeId) → t.0 < n → f t ≡ g t) where
  row_alike : (parts : List Part) → PartsBelow n parts → row (map (λ (p : Part). f p.sort) parts) ≡ row (map (λ (p : Part). g p.sort) parts)
  row_alike [] below = refl
  row_alike (p ∷ parts) below = ap (λ x. Both x (row (map (λ (q : Part). f q.sort) parts))) (h p.sort below.0) ∙ ap (Both (g p.sort)) (row_alike parts below.1)

  sort_alike : (s : Sort) → RefersBelow n s → blank_sort f s ≡ blank_sort g s
  sort_alike (sort.Int lo hi) below = refl
  sort_alike sort.Bool below = refl
  sort_alike (sort.Enumerated names numbers) below = refl
  sort_alike (sort.Sequence []) below = refl
  sort_alike (sort.Sequence (p ∷ parts)) below = row_alike (p ∷ parts) below
  sort_alike (sort.Choice parts) below = ap (Both (Cell (pos 0))) (row_alike parts below)
  sort_alike (sort.SeqOf lo zero item) below = refl
  sort_alike (sort.SeqOf lo (suc hi) item) below = ap (λ x. Both (Cell (pos 0)) (Both (equal_parts (suc hi) x) Empty)) (h item below)
  sort_alike sort.Opaque below = refl

  sorts_alike : (o : Option Sort) → ((s : Sort) → o ≡ Some s → RefersBelow n s) → cells_by (blank_sort f) o ≡ cells_by (blank_sort g) o
  sorts_alike None below = refl
  sorts_alike (Some s) below = sort_alike s (below s refl)

within_same : (sorts : List Sort) → IsDownward sorts → (d d' : ℕ) (t : TypeId) → t.0 < d → t.0 < d' → blank_within d sorts t ≡ blank_within d' sorts t
within_same sorts down zero d' t p q = absurd (omega (arith, p))
within_same sorts down (suc d) zero t p q = absurd (omega (arith, q))
within_same sorts down (suc d) (suc d') t p q =
    sorts_alike (blank_within d sorts) (blank_within d' sorts) t.0 (λ u less. within_same sorts down d d' u (omega (arith, less, p)) (omega (arith, less, q)))
    (slice_get sorts t.0) (λ s e. down t.0 s e)

pub blank_is : (sorts : List Sort) → IsDownward sorts → (t : TypeId) → blank sorts t ≡ cells_by (blank_sort (blank sorts)) (slice_get sorts t.0)
unfolding blank
blank_is sorts down t =
    let next : t.0 + 1 ≡ suc t.0 = omega arith in
    ap (λ d. blank_within d sorts t) next
    ∙ sorts_alike (blank_within t.0 sorts) (λ u. blank_within (u.0 + 1) sorts u) t.0 (λ u less. within_same sorts down t.0 (u.0 + 1) u less (omega arith))
    (slice_get sorts t.0) (λ s e. down t.0 s e)

-- ---- structs by their names

module _ (prefix : List ℕ) (sorts : List Sort) (words : List (List Word)) (marks : List Bool) where
  -- the struct of a type that is marked is found by its name
  struct_found : (from : ℕ) (more : List Sort) (k : ℕ) (s : Sort) → from + length more < 2 ^ 64 → slice_get more k ≡ Some s
      → (is_marked marks (from + k) && is_structured s) ≡ true
      → find (λ (x : CStruct). bytes_eq (struct_word prefix (from + k)).bytes x.name.bytes) (structs_from prefix sorts words marks from more) ≡ Some (struct_at prefix sorts words (from + k) s)
  struct_found from [] k s less e h = absurd (none-some s e)
  struct_found from (x ∷ more) zero s less e h =
      let zero_plus : from + 0 ≡ from = omega arith in
      let same : x ≡ s = same_value x s e in
      let test : (is_marked marks from && is_structured x) ≡ true = ap (λ y. is_marked marks from && is_structured y) same ∙ ap (λ n. is_marked marks n && is_structured s) (sym zero_plus) ∙ h in
      ap (λ b. find (λ (y : CStruct). bytes_eq (struct_word prefix (from + 0)).bytes y.name.bytes) (struct_if b (struct_at prefix sorts words from x) ++ structs_from prefix sorts words marks (from + 1) more)) test
      ∙ ap (λ b. cond b (Some (struct_at prefix sorts words from x)) (find (λ (y : CStruct). bytes_eq (struct_word prefix (from + 0)).bytes y.name.bytes) (structs_from prefix sorts words marks (from + 1) more)))
      (ap (λ n. bytes_eq (struct_word prefix n).bytes (struct_word prefix from).bytes) zero_plus ∙ same_bytes (struct_word prefix from).bytes)
      ∙ ap (λ n. Some (struct_at prefix sorts words n x)) (sym zero_plus) ∙ ap (λ y. Some (struct_at prefix sorts words (from + 0) y)) same
  struct_found from (x ∷ more) (suc k) s less e h =
      let next : from + suc k ≡ from + 1 + k = omega arith in
      let inside = within more k s e in
      let later : find (λ (y : CStruct). bytes_eq (struct_word prefix (from + suc k)).bytes y.name.bytes) (structs_from prefix sorts words marks (from + 1) more) ≡ Some (struct_at prefix sorts words (from + suc k) s) =
      subst (λ n. find (λ (y : CStruct). bytes_eq (struct_word prefix n).bytes y.name.bytes) (structs_from prefix sorts words marks (from + 1) more) ≡ Some (struct_at prefix sorts words n s)) (sym next)
      (struct_found (from + 1) more k s (omega (arith, less)) e (ap (λ n. is_marked marks n && is_structured s) (sym next) ∙ h)) in
      by_test (is_marked marks from && is_structured x) (struct_words_differ prefix (from + suc k) from (omega (arith, less, inside)) (omega (arith, less)) (λ same. omega (arith, same))) later
    where
      by_test : (b : Bool) → bytes_eq (struct_word prefix (from + suc k)).bytes (struct_word prefix from).bytes ≡ false
          → find (λ (y : CStruct). bytes_eq (struct_word prefix (from + suc k)).bytes y.name.bytes) (structs_from prefix sorts words marks (from + 1) more) ≡ Some (struct_at prefix sorts words (from + suc k) s)
          → find (λ (y : CStruct). bytes_eq (struct_word prefix (from + suc k)).bytes y.name.bytes) (struct_if b (struct_at prefix sorts words from x) ++ structs_from prefix sorts words marks (from + 1) more) ≡ Some (struct_at prefix sorts words (from + suc k) s)
      by_test false other more' = more'
      by_test true other more' =
          ap (λ b. cond b (Some (struct_at prefix sorts words from x)) (find (λ (y : CStruct). bytes_eq (struct_word prefix (from + suc k)).bytes y.name.bytes) (structs_from prefix sorts words marks (from + 1) more))) other ∙ more'

-- ---- members by their names

module _ (prefix : List ℕ) (sorts : List Sort) where
  part_member_at : (words : List Word) (from : ℕ) (parts : List Part) (k : ℕ) (p : Part) → slice_get parts k ≡ Some p
      → slice_get (part_members prefix sorts words from parts) k ≡ Some (part_member prefix sorts (word_at words (from + k)) p)
  part_member_at words from [] k p e = absurd (none-some p e)
  part_member_at words from (x ∷ parts) zero p e =
      let here : from ≡ from + 0 = omega arith in
      ap (λ n. Some (part_member prefix sorts (word_at words n) x)) here ∙ ap (λ y. Some (part_member prefix sorts (word_at words (from + 0)) y)) (same_value x p e)
  part_member_at words from (x ∷ parts) (suc k) p e =
      let next : from + 1 + k ≡ from + suc k = omega arith in
      part_member_at words (from + 1) parts k p e ∙ ap (λ n. Some (part_member prefix sorts (word_at words n) p)) next

  -- the member of a struct with this number
  pub member_at : (words : List Word) (parts : List Part) (k : ℕ) (p : Part) → slice_get parts k ≡ Some p
      → slice_get (part_members prefix sorts words 0 parts) k ≡ Some (part_member prefix sorts (word_at words k) p)
  member_at words parts k p e = let zero_plus : 0 + k ≡ k = omega arith in
      part_member_at words 0 parts k p e ∙ ap (λ n. Some (part_member prefix sorts (word_at words n) p)) zero_plus

  pub alternative_at : (words : List Word) (parts : List Part) (k : ℕ) (p : Part) → slice_get parts k ≡ Some p
      → slice_get (part_members prefix sorts words 1 parts) k ≡ Some (part_member prefix sorts (word_at words (suc k)) p)
  alternative_at words parts k p e = let one_plus : 1 + k ≡ suc k = omega arith in
      part_member_at words 1 parts k p e ∙ ap (λ n. Some (part_member prefix sorts (word_at words n) p)) one_plus

abbrev pub kind_of_member : CMember → Kind
kind_of_member m = record { type = m.kind; size = m.size }

-- where the names differ, a member is found at its place
pub member_found : (members : List CMember) (k : ℕ) (m : CMember) → has_twice (map (λ (x : CMember). x.name.bytes) members) ≡ false
    → slice_get members k ≡ Some m → member_in m.name.bytes members ≡ Some (k, kind_of_member m)
member_found [] k m differ e = absurd (none-some m e)
member_found (x ∷ members) zero m differ e =
    let same : x ≡ m = same_value x m e in
    subst (λ (y : CMember). member_in y.name.bytes (x ∷ members) ≡ Some (0, kind_of_member y)) same
    (ap (λ b. cond b (Some (0, kind_of_member x)) (member_in x.name.bytes members >>= λ found. Some (found.0 + 1, found.1))) (same_bytes x.name.bytes))
member_found (x ∷ members) (suc k) m differ e =
    let next : k + 1 ≡ suc k = omega arith in
    ap (λ b. cond b (Some (0, kind_of_member x)) (member_in m.name.bytes members >>= λ found. Some (found.0 + 1, found.1))) (other x members k m differ e)
    ∙ ap (λ o. o >>= λ found. Some (found.0 + 1, found.1)) (member_found members k m (rest x members differ) e)
    ∙ ap (λ n. Some (n, kind_of_member m)) next
  where
    later : (list : List CMember) (j : ℕ) (y : CMember) → slice_get list j ≡ Some y → slice_get (map (λ (z : CMember). z.name.bytes) list) j ≡ Some y.name.bytes
    later list j y h = get_map (λ (z : CMember). z.name.bytes) list j ∙ ap (option_map (λ (z : CMember). z.name.bytes)) h

    rest : (y : CMember) (list : List CMember) → has_twice (map (λ (z : CMember). z.name.bytes) (y ∷ list)) ≡ false → has_twice (map (λ (z : CMember). z.name.bytes) list) ≡ false
    rest y list h = or_right (is_in y.name.bytes (map (λ (z : CMember). z.name.bytes) list)) _ h

    other : (y : CMember) (list : List CMember) (j : ℕ) (z : CMember) → has_twice (map (λ (v : CMember). v.name.bytes) (y ∷ list)) ≡ false
        → slice_get list j ≡ Some z → bytes_eq z.name.bytes y.name.bytes ≡ false
    other y list j z h h' =
        other_bytes z.name.bytes y.name.bytes (λ same. false≢true (sym (or_left (is_in y.name.bytes (map (λ (v : CMember). v.name.bytes) list)) _ h)
        ∙ ap (λ n. is_in n (map (λ (v : CMember). v.name.bytes) list)) (sym same) ∙ is_in_at (map (λ (v : CMember). v.name.bytes) list) j z.name.bytes (later list j z h')))

-- ---- what stands at a place

abbrev pub number_kind : Kind
number_kind = record { type = Int64; size = None }

abbrev pub kind_of_type : Ir → Model → TypeId → Kind
kind_of_type ir model t = record { type = type_of (prefix_of ir) model.types t; size = None }

abbrev pub array_kind : Ir → Model → ℕ → TypeId → Kind
array_kind ir model n t = record { type = type_of (prefix_of ir) model.types t; size = Some n }

pub record StandsWhole (ir : Ir) (model : Model) (kind : Kind) (t : TypeId) (cells : Cells) : Type 0 where
  pub marked : is_marked (needed model ir) t.0 ≡ true
  pub held : held_as model.types t ≡ Some (Whole t)
  pub kind_is : kind ≡ kind_of_type ir model t
  pub cells_are : cells ≡ blank model.types t

pub record StandsArray (ir : Ir) (model : Model) (kind : Kind) (t : TypeId) (cells : Cells) : Type 0 where
  pub size : ℕ
  pub marked : is_marked (needed model ir) t.0 ≡ true
  pub kind_is : kind ≡ array_kind ir model size t
  pub cells_are : cells ≡ equal_parts size (blank model.types t)

-- a place of this kind in the program, what the code holds there, and the shape of its cells
abbrev pub Stands : Ir → Model → Kind → Held → Cells → Type 0
Stands ir model kind One cells = (kind ≡ number_kind) × (cells ≡ Cell (pos 0))
Stands ir model kind (Whole t) cells = StandsWhole ir model kind t cells
Stands ir model kind (Array t) cells = StandsArray ir model kind t cells

-- ---- a type by its number

abbrev type_in : TypeId → Option Held → TypeId
type_in t None = t
type_in t (Some One) = t
type_in t (Some (Whole u)) = u
type_in t (Some (Array u)) = t

abbrev pub is_array : Option Held → Bool
is_array (Some (Array u)) = true
is_array _ = false

whole_type : (t : TypeId) (s : Sort) → type_in t (held_by t s) ≡ t
whole_type t (sort.Int lo hi) = refl
whole_type t sort.Bool = refl
whole_type t (sort.Enumerated names numbers) = refl
whole_type t (sort.Sequence []) = refl
whole_type t (sort.Sequence (p ∷ parts)) = refl
whole_type t (sort.Choice parts) = refl
whole_type t (sort.SeqOf lo hi item) = refl
whole_type t sort.Opaque = refl

-- what a type holds, where it is structured, it holds under its own number
pub held_type : (sorts : List Sort) (t u : TypeId) → held_as sorts t ≡ Some (Whole u) → u ≡ t
held_type sorts t u e = by_sort (slice_get sorts t.0) e
  where
    by_sort : (o : Option Sort) → (o >>= held_by t) ≡ Some (Whole u) → u ≡ t
    by_sort None q = absurd (none-some (Whole u) q)
    by_sort (Some s) q = sym (ap (type_in t) q) ∙ whole_type t s

no_array : (t : TypeId) (s : Sort) → is_array (held_by t s) ≡ false
no_array t (sort.Int lo hi) = refl
no_array t sort.Bool = refl
no_array t (sort.Enumerated names numbers) = refl
no_array t (sort.Sequence []) = refl
no_array t (sort.Sequence (p ∷ parts)) = refl
no_array t (sort.Choice parts) = refl
no_array t (sort.SeqOf lo hi item) = refl
no_array t sort.Opaque = refl

pub one_cell : (t : TypeId) (b : TypeId → Cells) (s : Sort) → is_one (held_by t s) ≡ true → blank_sort b s ≡ Cell (pos 0)
one_cell t b (sort.Int lo hi) h = refl
one_cell t b sort.Bool h = refl
one_cell t b (sort.Enumerated names numbers) h = refl
one_cell t b (sort.Sequence []) h = refl
one_cell t b (sort.Sequence (p ∷ parts)) h = absurd (false≢true h)
one_cell t b (sort.Choice parts) h = absurd (false≢true h)
one_cell t b (sort.SeqOf lo hi item) h = absurd (false≢true h)
one_cell t b sort.Opaque h = absurd (false≢true h)

abbrev pub is_whole_held : Option Held → Bool
is_whole_held (Some (Whole u)) = true
is_whole_held _ = false

pub whole_structured : (t : TypeId) (s : Sort) → is_whole_held (held_by t s) ≡ true → is_structured s ≡ true
whole_structured t (sort.Int lo hi) h = absurd (false≢true h)
whole_structured t sort.Bool h = absurd (false≢true h)
whole_structured t (sort.Enumerated names numbers) h = absurd (false≢true h)
whole_structured t (sort.Sequence []) h = absurd (false≢true h)
whole_structured t (sort.Sequence (p ∷ parts)) h = refl
whole_structured t (sort.Choice parts) h = refl
whole_structured t (sort.SeqOf lo hi item) h = refl
whole_structured t sort.Opaque h = absurd (false≢true h)

row_part : (f : Part → Cells) (parts : List Part) (k : ℕ) (p : Part) → slice_get parts k ≡ Some p → part k (row (map f parts)) ≡ Some (f p)
row_part f [] k p e = absurd (none-some p e)
row_part f (x ∷ parts) zero p e = ap (λ y. Some (f y)) (same_value x p e)
row_part f (x ∷ parts) (suc k) p e = row_part f parts k p e

pub among_at : (parts : List Part) (k : ℕ) (p : Part) → slice_get parts k ≡ Some p → Among p.sort.0 (map (λ (q : Part). q.sort.0) parts)
among_at [] k p e = absurd (none-some p e)
among_at (x ∷ parts) zero p e = inl (ap (λ (y : Part). y.sort.0) (same_value x p e))
among_at (x ∷ parts) (suc k) p e = inr (among_at parts k p e)

few_at : (sorts : List Sort) (k : ℕ) (s : Sort) → HaveFewParts sorts → slice_get sorts k ≡ Some s → has_few_parts s
few_at [] k s few e = absurd (none-some s e)
few_at (x ∷ sorts) zero s few e = subst has_few_parts (same_value x s e) few.0
few_at (x ∷ sorts) (suc k) s few e = few_at sorts k s few.1 e

module _ (ir : Ir) (model : Model) (fair : Fair ir model) (few : AreFew model.types) where
  pub down : IsDownward model.types
  down = tables_are_downward model.types fair.types

  -- a needed type stands for what its values are
  pub stands_type : (t : TypeId) (held : Held) → is_marked (needed model ir) t.0 ≡ true → held_as model.types t ≡ Some held
      → Stands ir model (kind_of_type ir model t) held (blank model.types t)
  stands_type t held marked e = by_sort (slice_get model.types t.0) refl held e
    where
      by_held : (s : Sort) → slice_get model.types t.0 ≡ Some s → (h : Held) → held_as model.types t ≡ Some h → held_by t s ≡ Some h
          → Stands ir model (kind_of_type ir model t) h (blank model.types t)
      by_held s e' One is here = (
        ap (λ o. record { type = type_held (prefix_of ir) o; size = None }) is,
        blank_is model.types down t ∙ ap (cells_by (blank_sort (blank model.types))) e' ∙ one_cell t (blank model.types) s (ap is_one here),
      )
      by_held s e' (Whole u) is here =
          let same : u ≡ t = sym (ap (type_in t) here) ∙ whole_type t s in
          record {
            marked = ap (λ (v : TypeId). is_marked (needed model ir) v.0) same ∙ marked;
            held = ap (held_as model.types) same ∙ is;
            kind_is = ap (kind_of_type ir model) (sym same);
            cells_are = ap (blank model.types) (sym same);
          }
      by_held s e' (Array u) is here = absurd (false≢true (sym (no_array t s) ∙ ap is_array here))

      by_sort : (o : Option Sort) → slice_get model.types t.0 ≡ o → (h : Held) → held_as model.types t ≡ Some h
          → Stands ir model (kind_of_type ir model t) h (blank model.types t)
      by_sort None e' h is = absurd (none-some h (sym (ap (λ o. o >>= held_by t) e') ∙ is))
      by_sort (Some s) e' h is = by_held s e' h is (sym (ap (λ o. o >>= held_by t) e') ∙ is)

  -- ---- members

  pub struct_members : (t : TypeId) (s : Sort) → is_marked (needed model ir) t.0 ≡ true → slice_get model.types t.0 ≡ Some s → is_structured s ≡ true
      → members_of (structs_of ir model) (Struct (struct_word (prefix_of ir) t.0)) ≡ Some (members_of_sort (prefix_of ir) model.types (words_of_sort model s) s)
  struct_members t s marked e structured =
      let zero_plus : 0 + t.0 ≡ t.0 = omega arith in
      ap (λ o. o >>= λ (x : CStruct). Some x.members)
      (subst (λ n. find (λ (x : CStruct). bytes_eq (struct_word (prefix_of ir) n).bytes x.name.bytes) (structs_of ir model) ≡ Some (struct_at (prefix_of ir) model.types (member_words model) n s)) zero_plus
      (struct_found (prefix_of ir) model.types (member_words model) (needed model ir) 0 model.types t.0 s (let small = few.types in omega (arith, small)) e
      (both _ _ (ap (is_marked (needed model ir)) zero_plus ∙ marked) structured)))
      ∙ ap (λ o. Some (members_of_sort (prefix_of ir) model.types (words_in o) s)) (get_map (words_of_sort model) model.types t.0 ∙ ap (option_map (words_of_sort model)) e)

  member_step : (t : TypeId) (s : Sort) (k : ℕ) (m : CMember) → is_marked (needed model ir) t.0 ≡ true → held_as model.types t ≡ Some (Whole t)
      → slice_get model.types t.0 ≡ Some s → slice_get (members_of_sort (prefix_of ir) model.types (words_of_sort model s) s) k ≡ Some m
      → word_at (words_of_sort model s) k ≡ m.name
      → member_of (structs_of ir model) (kind_of_type ir model t) (member_word (member_words model) (Some (Whole t)) k).bytes ≡ Some (k, kind_of_member m)
  member_step t s k m marked held e there word =
      let structured = whole_structured t s (ap is_whole_held (sym (ap (λ o. o >>= held_by t) e) ∙ held)) in
      let words : words_in (slice_get (member_words model) t.0) ≡ words_of_sort model s = ap words_in (get_map (words_of_sort model) model.types t.0 ∙ ap (option_map (words_of_sort model)) e) in
      ap (λ o. members_of (structs_of ir model) (type_held (prefix_of ir) o) >>= member_in (member_word (member_words model) (Some (Whole t)) k).bytes) held
      ∙ ap (λ o. o >>= member_in (member_word (member_words model) (Some (Whole t)) k).bytes) (struct_members t s marked e structured)
      ∙ ap (λ l. member_in (word_at l k).bytes (members_of_sort (prefix_of ir) model.types (words_of_sort model s) s)) words
      ∙ ap (λ (w : Word). member_in w.bytes (members_of_sort (prefix_of ir) model.types (words_of_sort model s) s)) word
      ∙ member_found (members_of_sort (prefix_of ir) model.types (words_of_sort model s) s) k m
      (members_differ (prefix_of ir) model.types model s (few_at model.types t.0 s few.parts e)) there

  pub record FieldStands (kind : Kind) (held : Held) (k : ℕ) (cells : Cells) (inner : Held) : Type 0 where
    pub behind : Kind
    pub shape : Cells
    pub found : member_of (structs_of ir model) kind (member_word (member_words model) (Some held) k).bytes ≡ Some (k, behind)
    pub part_is : part k cells ≡ Some shape
    pub stands : Stands ir model behind inner shape

  module _ (t : TypeId) (s : Sort) (e : slice_get model.types t.0 ≡ Some s) (marked : is_marked (needed model ir) t.0 ≡ true) (held : held_as model.types t ≡ Some (Whole t)) where
    shape_is : blank model.types t ≡ blank_sort (blank model.types) s
    shape_is = blank_is model.types down t ∙ ap (cells_by (blank_sort (blank model.types))) e

    part_needed : (k : ℕ) → Among k (parts_of s) → is_marked (needed model ir) k ≡ true
    part_needed k a = needed_parts model ir down t.0 s k e a marked

  field_whole : (t : TypeId) (s : Sort) → slice_get model.types t.0 ≡ Some s → is_marked (needed model ir) t.0 ≡ true → held_as model.types t ≡ Some (Whole t)
      → (k : ℕ) (inner : Held) → field_by model.types k s ≡ Some inner → FieldStands (kind_of_type ir model t) (Whole t) k (blank model.types t) inner
  field_whole t (sort.Int lo hi) e marked held k inner h = absurd (none-some inner h)
  field_whole t sort.Bool e marked held k inner h = absurd (none-some inner h)
  field_whole t (sort.Enumerated names numbers) e marked held k inner h = absurd (none-some inner h)
  field_whole t sort.Opaque e marked held k inner h = absurd (none-some inner h)
  field_whole t (sort.Sequence []) e marked held k inner h = absurd (none-some inner h)
  field_whole t (sort.Sequence (x ∷ parts)) e marked held k inner h = by_part (slice_get (x ∷ parts) k) refl h
    where
      s : Sort
      s = sort.Sequence (x ∷ parts)

      by_part : (o : Option Part) → slice_get (x ∷ parts) k ≡ o → (o >>= λ p. held_as model.types p.sort) ≡ Some inner
          → FieldStands (kind_of_type ir model t) (Whole t) k (blank model.types t) inner
      by_part None q h' = absurd (none-some inner h')
      by_part (Some p) q h' = record {
        behind = kind_of_type ir model p.sort;
        shape = blank model.types p.sort;
        found = member_step t s k (part_member (prefix_of ir) model.types (word_at (words_of_sort model s) k) p) marked held e (member_at (prefix_of ir) model.types (words_of_sort model s) (x ∷ parts) k p q) refl;
        part_is = ap (part k) (shape_is t s e marked held) ∙ row_part (λ (y : Part). blank model.types y.sort) (x ∷ parts) k p q;
        stands = stands_type p.sort inner (part_needed t s e marked held p.sort.0 (among_at (x ∷ parts) k p q)) h';
      }
  field_whole t (sort.Choice parts) e marked held zero inner h = record {
    behind = number_kind;
    shape = Cell (pos 0);
    found = member_step t (sort.Choice parts) 0 (number_member choice_word) marked held e refl refl;
    part_is = ap (part 0) (shape_is t (sort.Choice parts) e marked held);
    stands = subst (λ i. Stands ir model number_kind i (Cell (pos 0))) (same_value One inner h) (refl, refl);
  }
  field_whole t (sort.Choice parts) e marked held (suc k) inner h = by_part (slice_get parts k) refl h
    where
      s : Sort
      s = sort.Choice parts

      by_part : (o : Option Part) → slice_get parts k ≡ o → (o >>= λ p. held_as model.types p.sort) ≡ Some inner
          → FieldStands (kind_of_type ir model t) (Whole t) (suc k) (blank model.types t) inner
      by_part None q h' = absurd (none-some inner h')
      by_part (Some p) q h' = record {
        behind = kind_of_type ir model p.sort;
        shape = blank model.types p.sort;
        found = member_step t s (suc k) (part_member (prefix_of ir) model.types (word_at (words_of_sort model s) (suc k)) p) marked held e (alternative_at (prefix_of ir) model.types (words_of_sort model s) parts k p q) refl;
        part_is = ap (part (suc k)) (shape_is t s e marked held) ∙ row_part (λ (y : Part). blank model.types y.sort) parts k p q;
        stands = stands_type p.sort inner (part_needed t s e marked held p.sort.0 (among_at parts k p q)) h';
      }
  field_whole t (sort.SeqOf lo zero item) e marked held zero inner h = record {
    behind = number_kind;
    shape = Cell (pos 0);
    found = member_step t (sort.SeqOf lo zero item) 0 (number_member length_word) marked held e refl refl;
    part_is = ap (part 0) (shape_is t (sort.SeqOf lo zero item) e marked held);
    stands = subst (λ i. Stands ir model number_kind i (Cell (pos 0))) (same_value One inner h) (refl, refl);
  }
  field_whole t (sort.SeqOf lo (suc hi) item) e marked held zero inner h = record {
    behind = number_kind;
    shape = Cell (pos 0);
    found = member_step t (sort.SeqOf lo (suc hi) item) 0 (number_member length_word) marked held e refl refl;
    part_is = ap (part 0) (shape_is t (sort.SeqOf lo (suc hi) item) e marked held);
    stands = subst (λ i. Stands ir model number_kind i (Cell (pos 0))) (same_value One inner h) (refl, refl);
  }
  field_whole t (sort.SeqOf lo zero item) e marked held (suc zero) inner h = absurd (none-some inner h)
  field_whole t (sort.SeqOf lo (suc hi) item) e marked held (suc zero) inner h = record {
    behind = array_kind ir model (suc hi) item;
    shape = equal_parts (suc hi) (blank model.types item);
    found = member_step t (sort.SeqOf lo (suc hi) item) 1 (record { kind = type_of (prefix_of ir) model.types item; name = items_word; size = Some (suc hi) }) marked held e refl refl;
    part_is = ap (part 1) (shape_is t (sort.SeqOf lo (suc hi) item) e marked held);
    stands = subst (λ i. Stands ir model (array_kind ir model (suc hi) item) i (equal_parts (suc hi) (blank model.types item))) (same_value (Array item) inner h) (record {
      size = suc hi;
      marked = part_needed t (sort.SeqOf lo (suc hi) item) e marked held item.0 (inl refl);
      kind_is = refl;
      cells_are = refl;
    });
  }
  field_whole t (sort.SeqOf lo zero item) e marked held (suc (suc k)) inner h = absurd (none-some inner h)
  field_whole t (sort.SeqOf lo (suc hi) item) e marked held (suc (suc k)) inner h = absurd (none-some inner h)

  -- a field leads to the same part on both sides
  pub field_stands : (kind : Kind) (held : Held) (cells : Cells) (k : ℕ) (inner : Held) → Stands ir model kind held cells
      → field_of model.types k held ≡ Some inner → FieldStands kind held k cells inner
  field_stands kind One cells k inner st h = absurd (none-some inner h)
  field_stands kind (Array t) cells k inner st h = absurd (none-some inner h)
  field_stands kind (Whole t) cells k inner st h = by_sort (slice_get model.types t.0) refl h
    where
      moved : FieldStands (kind_of_type ir model t) (Whole t) k (blank model.types t) inner → FieldStands kind (Whole t) k cells inner
      moved one = record {
        behind = one.behind;
        shape = one.shape;
        found = ap (λ q. member_of (structs_of ir model) q (member_word (member_words model) (Some (Whole t)) k).bytes) st.kind_is ∙ one.found;
        part_is = ap (part k) st.cells_are ∙ one.part_is;
        stands = one.stands;
      }

      by_sort : (o : Option Sort) → slice_get model.types t.0 ≡ o → (o >>= field_by model.types k) ≡ Some inner → FieldStands kind (Whole t) k cells inner
      by_sort None e h' = absurd (none-some inner h')
      by_sort (Some s) e h' = moved (field_whole t s e st.marked st.held k inner h')

  -- ---- slots

  pub slot_stands : (j : ℕ) (slot : SlotDef) (held : Held) → slice_get ir.slots j ≡ Some slot → held_in_slot model.types slot.sort ≡ Some held
      → Stands ir model (record { type = type_of_slot (prefix_of ir) model.types slot.sort; size = None }) held (blank_slot model.types slot.sort)
  slot_stands j slot held e h = by_sort slot.sort refl h
    where
      there_is : (t : TypeId) → held_as model.types t ≡ Some held → t.0 < length model.types
      there_is t q = by_type (slice_get model.types t.0) refl q
        where
          by_type : (o : Option Sort) → slice_get model.types t.0 ≡ o → (o >>= held_by t) ≡ Some held → t.0 < length model.types
          by_type None e' q' = absurd (none-some held q')
          by_type (Some s) e' q' = within model.types t.0 s e'

      by_sort : (s : SlotSort) → slot.sort ≡ s → held_in_slot model.types s ≡ Some held
          → Stands ir model (record { type = type_of_slot (prefix_of ir) model.types s; size = None }) held (blank_slot model.types s)
      by_sort slot_sort.Cell is q = subst (λ i. Stands ir model number_kind i (Cell (pos 0))) (same_value One held q) (refl, refl)
      by_sort (slot_sort.Shaped t) is q = stands_type t held (needed_slot model ir j slot t e is (there_is t q)) q
