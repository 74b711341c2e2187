-- The cells of a value have the form of the C type that the interface asks for, and every stimulus begins steadily.
use Rattle.std.proofs.Common.{◌≡◌, ℕ, zero, suc, ◌+◌, ℤ, pos, List, [], ◌∷◌, Bool, true, cond, not, ◌&&◌, Option, Some, None, map, length, replicate, slice_get, refl, sym, ap, subst}
use Rattle.std.specs.Prelude.{is_some, ◌==◌}
use Rattle.std.proofs.lemmas.Bool.{false≢true, eqb-true}
use Rattle.og_types.specs.declared.Part.{Part}
use Rattle.og_types.specs.declared.Sort.{Sort}
use Rattle.og_types.specs.declared.Sort.TheVariants as sort
use Rattle.og_types.specs.declared.TypeId.{TypeId}
use Rattle.og_types.specs.declared.Value.{Value, out-Value}
use Rattle.og_types.specs.declared.Value.TheOpen as value
use Rattle.og_types.specs.declared.Value.TheOpen.{Value-F}
use Rattle.og_csubset.specs.declared.CStruct.{CStruct}
use Rattle.og_csubset.specs.declared.CMember.{CMember}
use Rattle.og_csubset.specs.declared.CType.{CType}
use Rattle.og_csubset.specs.declared.CType.TheVariants.{Int64, Struct}
use Rattle.og_ir.specs.Cells.{Cells, Cell, Empty, Both, row, equal_parts, cells_by}
use Rattle.og_ir.specs.Reading.{blank_sort, blank_within, write_parts, write_alternatives, write_items, write_sequence, write_seq_of, write_sort, write_within, cells_of}
use Rattle.og_csubset.specs.Kinds.{members_of}
use Rattle.og_csubset.specs.Loading.{passes, have_shapes, is_int64, is_one_number, is_choice, is_array, is_seq_of, is_struct, shape_by, shape_within}
use Rattle.og_csubset.specs.Forms.{Row, kind_of_member, one_of, row_of, form_of_type, form_of_sized, form_of, HasForm}
use Rattle.og_names.proofs.Truths.{both_first as left_of, both_second as right_of}

pub int64_form : (structs : List CStruct) (t : CType) (z : ℤ) → is_int64 t ≡ true → HasForm structs (Cell z) (form_of_type structs t)
int64_form structs Int64 z h = tt
int64_form structs (Struct name) z h = absurd (false≢true h)

-- a member without a size, of a type of which the cells have the form
unsized_member : (structs : List CStruct) (size : Option ℕ) (t : CType) (c : Cells) → not (is_some size) ≡ true → HasForm structs c (form_of_type structs t) → HasForm structs c (form_of_sized structs size t)
unsized_member structs None t c h f = f
unsized_member structs (Some n) t c h f = absurd (false≢true h)

number_member : (structs : List CStruct) (m : CMember) (z : ℤ) → is_one_number m ≡ true → HasForm structs (Cell z) (form_of structs (kind_of_member m))
number_member structs m z h =
    unsized_member structs m.size m.kind (Cell z) (left_of (not (is_some m.size)) (is_int64 m.kind) h) (int64_form structs m.kind z (right_of (not (is_some m.size)) (is_int64 m.kind) h))

-- the struct's members pass the test, and the form is a row of them
record StructOf (structs : List CStruct) (test : List CMember → Bool) (t : CType) : Type 0 where
  members : List CMember
  form : form_of_type structs t ≡ Row (map kind_of_member members)
  passed : test members ≡ true

struct_by : (o : Option (List CMember)) (test : List CMember → Bool) → passes test o ≡ true → (members : List CMember) × (o ≡ Some members) × (test members ≡ true)
struct_by None test h = absurd (false≢true h)
struct_by (Some members) test h = (members, refl, h)

struct_of : (structs : List CStruct) (test : List CMember → Bool) (t : CType) → is_struct structs test t ≡ true → StructOf structs test t
struct_of structs test Int64 h = absurd (false≢true h)
struct_of structs test (Struct name) h =
    let one = struct_by (members_of structs (Struct name)) test h in
    record { members = one.0; form = ap row_of one.1; passed = one.2 }

module _ (structs : List CStruct) (has : CType → TypeId → Bool) (blanks : TypeId → Cells) (writes : TypeId → Value → Cells) (blank_formed : (t : CType) (u : TypeId) → has t u ≡ true → HasForm structs (blanks u) (form_of_type structs t)) (write_formed : (t : CType) (u : TypeId) (v : Value) → has t u ≡ true → HasForm structs (writes u v) (form_of_type structs t)) where
  blank_row : (members : List CMember) (parts : List Part) → have_shapes has members parts ≡ true → HasForm structs (row (map (λ (p : Part). blanks p.sort) parts)) (Row (map kind_of_member members))
  blank_row [] [] h = tt
  blank_row [] (p ∷ parts) h = absurd (false≢true h)
  blank_row (m ∷ members) [] h = absurd (false≢true h)
  blank_row (m ∷ members) (p ∷ parts) h =
      let two = left_of (not (is_some m.size) && has m.kind p.sort) (have_shapes has members parts) h in (
        unsized_member structs m.size m.kind (blanks p.sort) (left_of (not (is_some m.size)) (has m.kind p.sort) two) (blank_formed m.kind p.sort (right_of (not (is_some m.size)) (has m.kind p.sort) two)),
        blank_row members parts (right_of (not (is_some m.size) && has m.kind p.sort) (have_shapes has members parts) h),
      )

  parts_row : (members : List CMember) (parts : List Part) (vs : List Value) → have_shapes has members parts ≡ true → HasForm structs (write_parts blanks writes parts vs) (Row (map kind_of_member members))
  parts_row [] [] vs h = tt
  parts_row [] (p ∷ parts) vs h = absurd (false≢true h)
  parts_row (m ∷ members) [] vs h = absurd (false≢true h)
  parts_row (m ∷ members) (p ∷ parts) [] h =
      let two = left_of (not (is_some m.size) && has m.kind p.sort) (have_shapes has members parts) h in (
        unsized_member structs m.size m.kind (blanks p.sort) (left_of (not (is_some m.size)) (has m.kind p.sort) two) (blank_formed m.kind p.sort (right_of (not (is_some m.size)) (has m.kind p.sort) two)),
        parts_row members parts [] (right_of (not (is_some m.size) && has m.kind p.sort) (have_shapes has members parts) h),
      )
  parts_row (m ∷ members) (p ∷ parts) (v ∷ vs) h =
      let two = left_of (not (is_some m.size) && has m.kind p.sort) (have_shapes has members parts) h in (
        unsized_member structs m.size m.kind (writes p.sort v) (left_of (not (is_some m.size)) (has m.kind p.sort) two) (write_formed m.kind p.sort v (right_of (not (is_some m.size)) (has m.kind p.sort) two)),
        parts_row members parts vs (right_of (not (is_some m.size) && has m.kind p.sort) (have_shapes has members parts) h),
      )

  alternatives_row : (members : List CMember) (parts : List Part) (k : ℕ) (v : Value) → have_shapes has members parts ≡ true → HasForm structs (write_alternatives blanks writes parts k v) (Row (map kind_of_member members))
  alternatives_row [] [] k v h = tt
  alternatives_row [] (p ∷ parts) k v h = absurd (false≢true h)
  alternatives_row (m ∷ members) [] k v h = absurd (false≢true h)
  alternatives_row (m ∷ members) (p ∷ parts) zero v h =
      let two = left_of (not (is_some m.size) && has m.kind p.sort) (have_shapes has members parts) h in (
        unsized_member structs m.size m.kind (writes p.sort v) (left_of (not (is_some m.size)) (has m.kind p.sort) two) (write_formed m.kind p.sort v (right_of (not (is_some m.size)) (has m.kind p.sort) two)),
        blank_row members parts (right_of (not (is_some m.size) && has m.kind p.sort) (have_shapes has members parts) h),
      )
  alternatives_row (m ∷ members) (p ∷ parts) (suc k) v h =
      let two = left_of (not (is_some m.size) && has m.kind p.sort) (have_shapes has members parts) h in (
        unsized_member structs m.size m.kind (blanks p.sort) (left_of (not (is_some m.size)) (has m.kind p.sort) two) (blank_formed m.kind p.sort (right_of (not (is_some m.size)) (has m.kind p.sort) two)),
        alternatives_row members parts k v (right_of (not (is_some m.size) && has m.kind p.sort) (have_shapes has members parts) h),
      )

  items_row : (t : CType) (item : TypeId) (n : ℕ) (vs : List Value) → has t item ≡ true → HasForm structs (write_items (blanks item) (writes item) n vs) (Row (replicate n (one_of t)))
  items_row t item zero vs h = tt
  items_row t item (suc n) [] h = (blank_formed t item h, items_row t item n [] h)
  items_row t item (suc n) (v ∷ vs) h = (write_formed t item v h, items_row t item n vs h)

  equal_row : (t : CType) (item : TypeId) (n : ℕ) → has t item ≡ true → HasForm structs (equal_parts n (blanks item)) (Row (replicate n (one_of t)))
  equal_row t item zero h = tt
  equal_row t item (suc n) h = (blank_formed t item h, equal_row t item n h)

  -- an array of the size that is asked for
  array_member : (size : Option ℕ) (t : CType) (n : ℕ) (c : Cells) → passes (λ s. s == n) size ≡ true → HasForm structs c (Row (replicate n (one_of t))) → HasForm structs c (form_of_sized structs size t)
  array_member None t n c h f = absurd (false≢true h)
  array_member (Some s) t n c h f = subst (λ k. HasForm structs c (Row (replicate k (one_of t)))) (sym (eqb-true s n h)) f

  choice_row : (parts : List Part) (members : List CMember) (z : ℤ) (others : Cells) → is_choice has parts members ≡ true → ((rest : List CMember) → have_shapes has rest parts ≡ true → HasForm structs others (Row (map kind_of_member rest))) → HasForm structs (Both (Cell z) others) (Row (map kind_of_member members))
  choice_row parts [] z others h f = absurd (false≢true h)
  choice_row parts (m ∷ members) z others h f =
      (number_member structs m z (left_of (is_one_number m) (have_shapes has members parts) h), f members (right_of (is_one_number m) (have_shapes has members parts) h))

  -- a length alone, or a length and an array
  length_row : (item : TypeId) (members : List CMember) (z : ℤ) → is_seq_of has zero item members ≡ true → HasForm structs (Both (Cell z) Empty) (Row (map kind_of_member members))
  length_row item [] z h = absurd (false≢true h)
  length_row item (m ∷ []) z h = (number_member structs m z h, tt)
  length_row item (m ∷ array ∷ members) z h = absurd (false≢true h)

  sized_row : (item : TypeId) (hi : ℕ) (members : List CMember) (z : ℤ) (c : Cells) → is_seq_of has (suc hi) item members ≡ true → ((t : CType) → has t item ≡ true → HasForm structs c (Row (replicate (suc hi) (one_of t)))) → HasForm structs (Both (Cell z) (Both c Empty)) (Row (map kind_of_member members))
  sized_row item hi [] z c h f = absurd (false≢true h)
  sized_row item hi (m ∷ []) z c h f = absurd (false≢true h)
  sized_row item hi (m ∷ array ∷ []) z c h f =
      let both = right_of (is_one_number m) (is_array has (suc hi) item array) h in (
        number_member structs m z (left_of (is_one_number m) (is_array has (suc hi) item array) h),
        (array_member array.size array.kind (suc hi) c (left_of (passes (λ s. s == suc hi) array.size) (has array.kind item) both) (f array.kind (right_of (passes (λ s. s == suc hi) array.size) (has array.kind item) both)), tt),
      )
  sized_row item hi (m ∷ array ∷ more ∷ members) z c h f = absurd (false≢true h)

  -- a row of a struct whose members pass
  as_struct : (test : List CMember → Bool) (t : CType) (c : Cells) → is_struct structs test t ≡ true → ((members : List CMember) → test members ≡ true → HasForm structs c (Row (map kind_of_member members))) → HasForm structs c (form_of_type structs t)
  as_struct test t c h f = let s = struct_of structs test t h in subst (HasForm structs c) (sym s.form) (f s.members s.passed)

  blank_sort_formed : (t : CType) (s : Sort) → shape_by has structs t (Some s) ≡ true → HasForm structs (blank_sort blanks s) (form_of_type structs t)
  blank_sort_formed t (sort.Int lo hi) h = int64_form structs t (pos 0) h
  blank_sort_formed t sort.Bool h = int64_form structs t (pos 0) h
  blank_sort_formed t (sort.Enumerated names numbers) h = int64_form structs t (pos 0) h
  blank_sort_formed t (sort.Sequence []) h = int64_form structs t (pos 0) h
  blank_sort_formed t (sort.Sequence (p ∷ parts)) h = as_struct (λ ms. have_shapes has ms (p ∷ parts)) t (row (map (λ (q : Part). blanks q.sort) (p ∷ parts))) h (λ ms ok. blank_row ms (p ∷ parts) ok)
  blank_sort_formed t (sort.Choice parts) h = as_struct (is_choice has parts) t (Both (Cell (pos 0)) (row (map (λ (q : Part). blanks q.sort) parts))) h (λ ms ok. choice_row parts ms (pos 0) (row (map (λ (q : Part). blanks q.sort) parts)) ok (λ rest all. blank_row rest parts all))
  blank_sort_formed t (sort.SeqOf lo zero item) h = as_struct (is_seq_of has zero item) t (Both (Cell (pos 0)) Empty) h (λ ms ok. length_row item ms (pos 0) ok)
  blank_sort_formed t (sort.SeqOf lo (suc hi) item) h = as_struct (is_seq_of has (suc hi) item) t (Both (Cell (pos 0)) (Both (equal_parts (suc hi) (blanks item)) Empty)) h (λ ms ok. sized_row item hi ms (pos 0) (equal_parts (suc hi) (blanks item)) ok (λ u is. equal_row u item (suc hi) is))
  blank_sort_formed t sort.Opaque h = absurd (false≢true h)

  sequence_formed : (t : CType) (parts : List Part) (vs : List Value) → shape_by has structs t (Some (sort.Sequence parts)) ≡ true → HasForm structs (write_sequence blanks writes parts vs) (form_of_type structs t)
  sequence_formed t [] vs h = int64_form structs t (pos 0) h
  sequence_formed t (p ∷ parts) vs h = as_struct (λ ms. have_shapes has ms (p ∷ parts)) t (write_parts blanks writes (p ∷ parts) vs) h (λ ms ok. parts_row ms (p ∷ parts) vs ok)

  seq_of_formed : (t : CType) (lo hi : ℕ) (item : TypeId) (vs : List Value) → shape_by has structs t (Some (sort.SeqOf lo hi item)) ≡ true → HasForm structs (write_seq_of (blanks item) (writes item) hi vs) (form_of_type structs t)
  seq_of_formed t lo zero item vs h = as_struct (is_seq_of has zero item) t (Both (Cell (pos (length vs))) Empty) h (λ ms ok. length_row item ms (pos (length vs)) ok)
  seq_of_formed t lo (suc hi) item vs h = as_struct (is_seq_of has (suc hi) item) t (Both (Cell (pos (length vs))) (Both (write_items (blanks item) (writes item) (suc hi) vs) Empty)) h (λ ms ok. sized_row item hi ms (pos (length vs)) (write_items (blanks item) (writes item) (suc hi) vs) ok (λ u is. items_row u item (suc hi) vs is))

  write_sort_formed : (t : CType) (s : Sort) (shape : Value-F Value) → shape_by has structs t (Some s) ≡ true → HasForm structs (write_sort blanks writes s shape) (form_of_type structs t)
  write_sort_formed t (sort.Int lo hi) (value.Int z) h = int64_form structs t z h
  write_sort_formed t sort.Bool (value.Bool b) h = int64_form structs t (pos (cond b 1 0)) h
  write_sort_formed t (sort.Enumerated names numbers) (value.Enumerated k) h = int64_form structs t (pos k) h
  write_sort_formed t (sort.Sequence parts) (value.Sequence vs) h = sequence_formed t parts vs h
  write_sort_formed t (sort.Choice parts) (value.Choice k v) h = as_struct (is_choice has parts) t (Both (Cell (pos k)) (write_alternatives blanks writes parts k v)) h (λ ms ok. choice_row parts ms (pos k) (write_alternatives blanks writes parts k v) ok (λ rest all. alternatives_row rest parts k v all))
  write_sort_formed t (sort.SeqOf lo hi item) (value.SeqOf vs) h = seq_of_formed t lo hi item vs h
  write_sort_formed t s shape h = blank_sort_formed t s h

blank_by : (structs : List CStruct) (has : CType → TypeId → Bool) (blanks : TypeId → Cells) → ((t : CType) (u : TypeId) → has t u ≡ true → HasForm structs (blanks u) (form_of_type structs t)) → (t : CType) (o : Option Sort) → shape_by has structs t o ≡ true → HasForm structs (cells_by (blank_sort blanks) o) (form_of_type structs t)
blank_by structs has blanks formed t None h = absurd (false≢true h)
blank_by structs has blanks formed t (Some s) h = blank_sort_formed structs has blanks (λ u v. blanks u) formed (λ t' u v. formed t' u) t s h

blank_formed : (depth : ℕ) (structs : List CStruct) (sorts : List Sort) (t : CType) (u : TypeId) → shape_within depth structs sorts t u ≡ true → HasForm structs (blank_within depth sorts u) (form_of_type structs t)
blank_formed zero structs sorts t u h = absurd (false≢true h)
blank_formed (suc depth) structs sorts t u h =
    blank_by structs (shape_within depth structs sorts) (blank_within depth sorts) (blank_formed depth structs sorts) t (slice_get sorts u.0) h

write_by : (structs : List CStruct) (has : CType → TypeId → Bool) (blanks : TypeId → Cells) (writes : TypeId → Value → Cells) → ((t : CType) (u : TypeId) → has t u ≡ true → HasForm structs (blanks u) (form_of_type structs t)) → ((t : CType) (u : TypeId) (v : Value) → has t u ≡ true → HasForm structs (writes u v) (form_of_type structs t)) → (t : CType) (shape : Value-F Value) (o : Option Sort) → shape_by has structs t o ≡ true → HasForm structs (cells_by (λ s. write_sort blanks writes s shape) o) (form_of_type structs t)
write_by structs has blanks writes b w t shape None h = absurd (false≢true h)
write_by structs has blanks writes b w t shape (Some s) h = write_sort_formed structs has blanks writes b w t s shape h

write_formed : (depth : ℕ) (structs : List CStruct) (sorts : List Sort) (t : CType) (u : TypeId) (v : Value) → shape_within depth structs sorts t u ≡ true → HasForm structs (write_within depth sorts u v) (form_of_type structs t)
write_formed zero structs sorts t u v h = absurd (false≢true h)
write_formed (suc depth) structs sorts t u v h =
    write_by structs (shape_within depth structs sorts) (blank_within depth sorts) (write_within depth sorts) (blank_formed depth structs sorts) (write_formed depth structs sorts) t (out-Value v) (slice_get sorts u.0) h

-- the cells of a value have the form of the type that the interface asks for
pub cells_formed : (structs : List CStruct) (sorts : List Sort) (t : CType) (u : TypeId) (v : Value) → shape_within (u.0 + 1) structs sorts t u ≡ true → HasForm structs (cells_of sorts u v) (form_of_type structs t)
unfolding cells_of
cells_formed structs sorts t u v h = write_formed (u.0 + 1) structs sorts t u v h
