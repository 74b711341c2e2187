-- The cells of a C type that has the shape of a model's type are those of the model's type.
use Rattle.std.proofs.Common.{◌≡◌, ℕ, zero, suc, ◌+◌, pos, List, [], ◌∷◌, map, Bool, true, false, not, ◌&&◌, ◌==◌, Option, Some, None, is_some, slice_get, refl, sym, ap, ◌∙◌, arith}
use Rattle.std.specs.List.{find}
use Rattle.std.specs.Str.{bytes_eq}
use Rattle.std.proofs.lemmas.Bool.{false≢true}
use Rattle.std.proofs.lemmas.Bool.Decides.{nat_tests}
use Rattle.og_names.specs.declared.Word.{Word}
use Rattle.og_names.proofs.Truths.{both_first, both_second}
use Rattle.og_types.specs.declared.Part.{Part}
use Rattle.og_types.specs.declared.Sort.{Sort}
use Rattle.og_types.specs.declared.Sort.TheVariants as sort
use Rattle.og_types.specs.declared.TypeId.{TypeId}
use Rattle.og_ir.specs.Cells.{◌>>=◌, Cells, Cell, Empty, Both, row, equal_parts, cells_by}
use Rattle.og_ir.specs.Reading as reading
use Rattle.og_ir.specs.Reading.{blank_sort}
use Rattle.og_csubset.specs.declared.CStruct.{CStruct}
use Rattle.og_csubset.specs.declared.CMember.{CMember}
use Rattle.og_csubset.specs.declared.CType.{CType}
use Rattle.og_csubset.specs.declared.CType.TheVariants.{Int64, Struct}
use Rattle.og_csubset.specs.Kinds.{sized, blank_type}
use Rattle.og_csubset.specs.Loading.{passes, structs_known, have_shapes, is_int64, is_one_number, is_choice, is_array, is_seq_of, is_struct, shape_by, shape_within}
use Rattle.og_ccells.specs.Layouts.{kind_cells, member_kind}
use Rattle.og_ccells.proofs.Steady.{struct_laid, number_laid}

one_cells : (o : Option ℕ) (c : Cells) → not (is_some o) ≡ true → sized o c ≡ c
one_cells None c h = refl
one_cells (Some n) c h = absurd (false≢true h)

array_cells : (o : Option ℕ) (n : ℕ) (c : Cells) → passes (λ size. size == n) o ≡ true → sized o c ≡ equal_parts n c
array_cells None n c h = absurd (false≢true h)
array_cells (Some k) n c h = let same : k ≡ n = grind (arith, nat_tests, h) in ap (λ j. equal_parts j c) same

module _ (structs : List CStruct) (known : structs_known [] structs ≡ true) (has_shape : CType → TypeId → Bool) (blank : TypeId → Cells)
    (same : (t : CType) (s : TypeId) → has_shape t s ≡ true → blank_type structs t ≡ blank s) where
  abbrev laid : List CMember → Cells
  laid members = row (map (λ (m : CMember). kind_cells structs (member_kind m)) members)

  abbrev parts_row : List Part → Cells
  parts_row parts = row (map (λ (p : Part). blank p.sort) parts)

  number_cells : (t : CType) → is_int64 t ≡ true → blank_type structs t ≡ Cell (pos 0)
  number_cells Int64 h = number_laid structs
  number_cells (Struct name) h = absurd (false≢true h)

  one_number : (m : CMember) → is_one_number m ≡ true → kind_cells structs (member_kind m) ≡ Cell (pos 0)
  one_number m h =
      one_cells m.size (blank_type structs m.kind) (both_first (not (is_some m.size)) (is_int64 m.kind) h)
      ∙ number_cells m.kind (both_second (not (is_some m.size)) (is_int64 m.kind) h)

  parts_cells : (members : List CMember) (parts : List Part) → have_shapes has_shape members parts ≡ true → laid members ≡ parts_row parts
  parts_cells [] [] h = refl
  parts_cells [] (p ∷ parts) h = absurd (false≢true h)
  parts_cells (m ∷ members) [] h = absurd (false≢true h)
  parts_cells (m ∷ members) (p ∷ parts) h =
      let first = both_first (not (is_some m.size) && has_shape m.kind p.sort) (have_shapes has_shape members parts) h in
      ap (λ c. Both c (laid members))
      (one_cells m.size (blank_type structs m.kind) (both_first (not (is_some m.size)) (has_shape m.kind p.sort) first)
      ∙ same m.kind p.sort (both_second (not (is_some m.size)) (has_shape m.kind p.sort) first))
      ∙ ap (Both (blank p.sort)) (parts_cells members parts (both_second (not (is_some m.size) && has_shape m.kind p.sort) (have_shapes has_shape members parts) h))

  choice_cells : (parts : List Part) (members : List CMember) → is_choice has_shape parts members ≡ true → laid members ≡ Both (Cell (pos 0)) (parts_row parts)
  choice_cells parts [] h = absurd (false≢true h)
  choice_cells parts (m ∷ members) h =
      ap (λ c. Both c (laid members)) (one_number m (both_first (is_one_number m) (have_shapes has_shape members parts) h))
      ∙ ap (Both (Cell (pos 0))) (parts_cells members parts (both_second (is_one_number m) (have_shapes has_shape members parts) h))

  items_cells : (n : ℕ) (item : TypeId) (m : CMember) → is_array has_shape n item m ≡ true → kind_cells structs (member_kind m) ≡ equal_parts n (blank item)
  items_cells n item m h =
      array_cells m.size n (blank_type structs m.kind) (both_first (passes (λ size. size == n) m.size) (has_shape m.kind item) h)
      ∙ ap (equal_parts n) (same m.kind item (both_second (passes (λ size. size == n) m.size) (has_shape m.kind item) h))

  seq_of_cells : (lo hi : ℕ) (item : TypeId) (members : List CMember) → is_seq_of has_shape hi item members ≡ true → laid members ≡ blank_sort blank (sort.SeqOf lo hi item)
  seq_of_cells lo hi item [] h = absurd (false≢true h)
  seq_of_cells lo zero item (m ∷ []) h = ap (λ c. Both c Empty) (one_number m h)
  seq_of_cells lo zero item (m ∷ array ∷ members) h = absurd (false≢true h)
  seq_of_cells lo (suc hi) item (m ∷ []) h = absurd (false≢true h)
  seq_of_cells lo (suc hi) item (m ∷ array ∷ []) h =
      ap (λ c. Both c (laid (array ∷ []))) (one_number m (both_first (is_one_number m) (is_array has_shape (suc hi) item array) h))
      ∙ ap (λ c. Both (Cell (pos 0)) (Both c Empty)) (items_cells (suc hi) item array (both_second (is_one_number m) (is_array has_shape (suc hi) item array) h))
  seq_of_cells lo (suc hi) item (m ∷ array ∷ more ∷ members) h = absurd (false≢true h)

  struct_cells : (t : CType) (test : List CMember → Bool) (c : Cells) → ((members : List CMember) → test members ≡ true → laid members ≡ c) → is_struct structs test t ≡ true
      → blank_type structs t ≡ c
  struct_cells Int64 test c each h = absurd (false≢true h)
  struct_cells (Struct word) test c each h = by_found (find (λ (s : CStruct). bytes_eq word.bytes s.name.bytes) structs) refl h
    where
      by_found : (o : Option CStruct) → find (λ (s : CStruct). bytes_eq word.bytes s.name.bytes) structs ≡ o → passes test (o >>= λ s. Some s.members) ≡ true → blank_type structs (Struct word) ≡ c
      by_found None e p = absurd (false≢true p)
      by_found (Some s) e p = struct_laid structs known word s e ∙ each s.members p

  sort_cells : (t : CType) (o : Option Sort) → shape_by has_shape structs t o ≡ true → blank_type structs t ≡ cells_by (blank_sort blank) o
  sort_cells t None h = absurd (false≢true h)
  sort_cells t (Some (sort.Int lo hi)) h = number_cells t h
  sort_cells t (Some sort.Bool) h = number_cells t h
  sort_cells t (Some (sort.Enumerated names numbers)) h = number_cells t h
  sort_cells t (Some (sort.Sequence [])) h = number_cells t h
  sort_cells t (Some (sort.Sequence (p ∷ parts))) h = struct_cells t (λ members. have_shapes has_shape members (p ∷ parts)) (parts_row (p ∷ parts)) (λ members e. parts_cells members (p ∷ parts) e) h
  sort_cells t (Some (sort.Choice parts)) h = struct_cells t (is_choice has_shape parts) (Both (Cell (pos 0)) (parts_row parts)) (choice_cells parts) h
  sort_cells t (Some (sort.SeqOf lo hi item)) h = struct_cells t (is_seq_of has_shape hi item) (blank_sort blank (sort.SeqOf lo hi item)) (seq_of_cells lo hi item) h
  sort_cells t (Some sort.Opaque) h = absurd (false≢true h)

within_cells : (structs : List CStruct) → structs_known [] structs ≡ true → (sorts : List Sort) (depth : ℕ) (t : CType) (s : TypeId) → shape_within depth structs sorts t s ≡ true
    → blank_type structs t ≡ reading.blank_within depth sorts s
within_cells structs known sorts zero t s h = absurd (false≢true h)
within_cells structs known sorts (suc depth) t s h =
    sort_cells structs known (shape_within depth structs sorts) (reading.blank_within depth sorts) (within_cells structs known sorts depth) t (slice_get sorts s.0) h

-- the cells of a type of this shape
pub type_cells : (structs : List CStruct) → structs_known [] structs ≡ true → (sorts : List Sort) (t : CType) (s : TypeId) → shape_within (s.0 + 1) structs sorts t s ≡ true
    → blank_type structs t ≡ reading.blank sorts s
unfolding reading.blank
type_cells structs known sorts t s h = within_cells structs known sorts (s.0 + 1) t s h

pub is_number_cells : (structs : List CStruct) (t : CType) → is_int64 t ≡ true → blank_type structs t ≡ Cell (pos 0)
is_number_cells structs Int64 h = number_laid structs
is_number_cells structs (Struct name) h = absurd (false≢true h)
