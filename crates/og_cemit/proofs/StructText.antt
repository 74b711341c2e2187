-- The text of a struct is one of tokens, and nests twice at most; each struct has a member, and each array a size.
use Rattle.std.proofs.Common.{◌≡◌, ℕ, zero, suc, ◌+◌, ◌^◌, ◌<◌, ◌≤◌, List, [], ◌∷◌, ◌++◌, Bool, true, false, ◌&&◌, Option, Some, None, map, length, slice_get, nat_le, refl, sym, ap, subst, ◌∙◌, arith}
use Rattle.std.specs.Prelude.{⊤, option_map}
use Rattle.std.specs.List.{list_all}
use Rattle.std.proofs.lemmas.Bool.{false≢true, leb-true}
use Rattle.std.proofs.lemmas.Option.{none-some}
use Rattle.og_names.specs.declared.Word.{Word}
use Rattle.og_names.proofs.Truths.{both_first as left_of, both_second as right_of, same_value}
use Rattle.og_types.specs.declared.Part.{Part}
use Rattle.og_types.specs.declared.Sort.{Sort}
use Rattle.og_types.specs.declared.Sort.TheVariants as sort
use Rattle.og_types.specs.declared.TypeId.{TypeId}
use Rattle.og_types.specs.Table.{depth, is_sort_after, are_sorts_from}
use Rattle.og_model.specs.declared.Model.{Model}
use Rattle.og_ir.specs.declared.Ir.{Ir}
use Rattle.og_csubset.specs.declared.CStruct.{CStruct}
use Rattle.og_csubset.specs.declared.CMember.{CMember}
use Rattle.og_csubset.specs.declared.CType.{CType}
use Rattle.og_csubset.specs.declared.CType.TheVariants.{Int64, Struct}
use Rattle.og_csubset.specs.Tokens.{Token, name, number, keyword, mark, typedef_, struct_, int64_t, open_brace, close_brace, open_square, close_square, semicolon, IsToken, is_name}
use Rattle.og_csubset.specs.Nesting.{Nest, after_token}
use Rattle.og_csubset.specs.Plain.{Text, plain_type, plain_size, plain_member, plain_struct, each, IsSize, HasSizes, HasMember, HasMembers}
use Rattle.og_csubset.specs.Fair.{Held, One, Whole, Array, held_as, Fair}
use Rattle.og_cemit.specs.Marks.{is_marked}
use Rattle.og_cemit.specs.Structs.{prefix_of, struct_word, type_held, type_of, words_of_sort, member_words, words_in, part_members, array_members, members_of_sort, needed, is_structured, struct_at, struct_if, structs_from, structs_of}
use Rattle.og_cemit.proofs.MemberNames.{members_named, struct_named}
use Rattle.og_cemit.proofs.Names.{get_map}
use Rattle.og_cemit.proofs.TextGoes.{Goes, goes_none, goes_token, goes_on, nest_at}

abbrev pub outside : Nest
outside = nest_at true 0 0 []

abbrev in_struct : Nest
in_struct = record { in_struct = true; level = record { is_block = true; base = 1; depth = 1 }; outward = outside.level ∷ [] }

-- a type is int64_t, or has a C name
abbrev pub IsNamed : CType → Type 0
IsNamed Int64 = ⊤
IsNamed (Struct w) = is_name w.bytes ≡ true

pub type_goes : (nest : Nest) (t : CType) → IsNamed t → nest.level.depth ≤ 256 → Goes nest (plain_type t) nest
type_goes nest Int64 h less = goes_token (keyword int64_t) nest tt less
type_goes nest (Struct w) h less = goes_token (name w.bytes) nest h less

size_goes : (size : Option ℕ) → IsSize size → Goes in_struct (plain_size size) in_struct
size_goes None h = goes_none in_struct
size_goes (Some n) h =
    goes_on _ _ _ (λ rest. mark open_square ∷ rest) (λ rest. number n ∷ mark close_square ∷ rest) (goes_token (mark open_square) in_struct tt (omega arith))
    (goes_on _ _ _ (λ rest. number n ∷ rest) (λ rest. mark close_square ∷ rest) (goes_token (number n) (after_token (mark open_square) in_struct) (let most = h.1 in omega (arith, most)) (omega arith))
    (goes_token (mark close_square) (after_token (mark open_square) in_struct) tt (omega arith)))

member_goes : (m : CMember) → IsNamed m.kind → is_name m.name.bytes ≡ true → IsSize m.size → Goes in_struct (plain_member m) in_struct
member_goes m kind named size =
    goes_on _ _ _ (plain_type m.kind) (λ rest. name m.name.bytes ∷ plain_size m.size (mark semicolon ∷ rest)) (type_goes in_struct m.kind kind (omega arith))
    (goes_on _ _ _ (λ rest. name m.name.bytes ∷ rest) (λ rest. plain_size m.size (mark semicolon ∷ rest)) (goes_token (name m.name.bytes) in_struct named (omega arith))
    (goes_on _ _ _ (plain_size m.size) (λ rest. mark semicolon ∷ rest) (size_goes m.size size) (goes_token (mark semicolon) in_struct tt (omega arith))))

abbrev KindsNamed : List CMember → Type 0
KindsNamed [] = ⊤
KindsNamed (m ∷ members) = IsNamed m.kind × KindsNamed members

members_go : (members : List CMember) → KindsNamed members → list_all is_name (map (λ (m : CMember). m.name.bytes) members) ≡ true → HasSizes members
    → Goes in_struct (each plain_member members) in_struct
members_go [] kinds named sizes = goes_none in_struct
members_go (m ∷ members) kinds named sizes =
    goes_on in_struct in_struct in_struct (plain_member m) (each plain_member members)
    (member_goes m kinds.0 (left_of (is_name m.name.bytes) _ named) sizes.0) (members_go members kinds.1 (right_of (is_name m.name.bytes) _ named) sizes.1)

struct_goes : (s : CStruct) → is_name s.name.bytes ≡ true → Goes in_struct (each plain_member s.members) in_struct → Goes outside (plain_struct s) outside
struct_goes s named h =
    goes_on _ _ _ (λ rest. keyword typedef_ ∷ rest) (λ rest. keyword struct_ ∷ mark open_brace ∷ each plain_member s.members (mark close_brace ∷ name s.name.bytes ∷ mark semicolon ∷ rest)) (goes_token (keyword typedef_) outside tt (omega arith))
    (goes_on _ _ _ (λ rest. keyword struct_ ∷ rest) (λ rest. mark open_brace ∷ each plain_member s.members (mark close_brace ∷ name s.name.bytes ∷ mark semicolon ∷ rest)) (goes_token (keyword struct_) outside tt (omega arith))
    (goes_on _ _ _ (λ rest. mark open_brace ∷ rest) (λ rest. each plain_member s.members (mark close_brace ∷ name s.name.bytes ∷ mark semicolon ∷ rest)) (goes_token (mark open_brace) (after_token (keyword struct_) outside) tt (omega arith))
    (goes_on _ _ _ (each plain_member s.members) (λ rest. mark close_brace ∷ name s.name.bytes ∷ mark semicolon ∷ rest) h
    (goes_on _ _ _ (λ rest. mark close_brace ∷ rest) (λ rest. name s.name.bytes ∷ mark semicolon ∷ rest) (goes_token (mark close_brace) in_struct tt (omega arith))
    (goes_on _ _ _ (λ rest. name s.name.bytes ∷ rest) (λ rest. mark semicolon ∷ rest) (goes_token (name s.name.bytes) outside named (omega arith))
    (goes_token (mark semicolon) outside tt (omega arith)))))))

-- ---- the structs of the program

pub held_named : (ir : Ir) (o : Option Held) → IsNamed (type_held (prefix_of ir) o)
held_named ir None = tt
held_named ir (Some One) = tt
held_named ir (Some (Whole t)) = struct_named ir t.0
held_named ir (Some (Array t)) = tt

module _ (ir : Ir) (sorts : List Sort) where
  parts_kinds : (words : List Word) (k : ℕ) (parts : List Part) → KindsNamed (part_members (prefix_of ir) sorts words k parts)
  parts_kinds words k [] = tt
  parts_kinds words k (p ∷ parts) = (held_named ir (held_as sorts p.sort), parts_kinds words (k + 1) parts)

  kinds_named : (words : List Word) (s : Sort) → KindsNamed (members_of_sort (prefix_of ir) sorts words s)
  kinds_named words (sort.Int lo hi) = tt
  kinds_named words sort.Bool = tt
  kinds_named words (sort.Enumerated names numbers) = tt
  kinds_named words (sort.Sequence parts) = parts_kinds words 0 parts
  kinds_named words (sort.Choice parts) = (tt, parts_kinds words 1 parts)
  kinds_named words (sort.SeqOf lo zero item) = (tt, tt)
  kinds_named words (sort.SeqOf lo (suc hi) item) = (tt, (held_named ir (held_as sorts item), tt))
  kinds_named words sort.Opaque = tt

  parts_sizes : (words : List Word) (k : ℕ) (parts : List Part) → HasSizes (part_members (prefix_of ir) sorts words k parts)
  parts_sizes words k [] = tt
  parts_sizes words k (p ∷ parts) = (tt, parts_sizes words (k + 1) parts)

  sizes : (n : ℕ) (words : List Word) (s : Sort) → is_sort_after n s ≡ true → HasSizes (members_of_sort (prefix_of ir) sorts words s)
  sizes n words (sort.Int lo hi) h = tt
  sizes n words sort.Bool h = tt
  sizes n words (sort.Enumerated names numbers) h = tt
  sizes n words (sort.Sequence parts) h = parts_sizes words 0 parts
  sizes n words (sort.Choice parts) h = (tt, parts_sizes words 1 parts)
  sizes n words (sort.SeqOf lo zero item) h = (tt, tt)
  sizes n words (sort.SeqOf lo (suc hi) item) h =
      (tt, ((omega arith, leb-true (suc hi) 65536 (left_of (nat_le (suc hi) 65536) _ (right_of (nat_le lo (suc hi)) _ h))), tt))
  sizes n words sort.Opaque h = tt

  has_member : (words : List Word) (s : Sort) → is_structured s ≡ true → HasMember (members_of_sort (prefix_of ir) sorts words s)
  has_member words (sort.Int lo hi) h = absurd (false≢true h)
  has_member words sort.Bool h = absurd (false≢true h)
  has_member words (sort.Enumerated names numbers) h = absurd (false≢true h)
  has_member words (sort.Sequence []) h = absurd (false≢true h)
  has_member words (sort.Sequence (p ∷ parts)) h = tt
  has_member words (sort.Choice parts) h = tt
  has_member words (sort.SeqOf lo zero item) h = tt
  has_member words (sort.SeqOf lo (suc hi) item) h = tt
  has_member words sort.Opaque h = absurd (false≢true h)

pub record StructsRight (structs : List CStruct) : Type 0 where
  pub members : HasMembers structs
  pub goes : Goes outside (each plain_struct structs) outside

module _ (ir : Ir) (model : Model) where
  one_right : (b : Bool) (k : ℕ) (s : Sort) (rest : List CStruct) → (b ≡ true → is_structured s ≡ true) → is_sort_after k s ≡ true
      → slice_get (member_words model) k ≡ Some (words_of_sort model s) → StructsRight rest
      → StructsRight (struct_if b (struct_at (prefix_of ir) model.types (member_words model) k s) ++ rest)
  one_right false k s rest structured after words more = more
  one_right true k s rest structured after words more =
      let here = struct_at (prefix_of ir) model.types (member_words model) k s in
      let sized = sizes ir model.types k (words_in (slice_get (member_words model) k)) s after in
      record {
        members = (has_member ir model.types (words_in (slice_get (member_words model) k)) s (structured refl), sized, more.members);
        goes =
            goes_on outside outside outside (plain_struct here) (each plain_struct rest)
            (struct_goes here (struct_named ir k)
            (members_go here.members (kinds_named ir model.types (words_in (slice_get (member_words model) k)) s)
            (ap (λ o. list_all is_name (map (λ (m : CMember). m.name.bytes) (members_of_sort (prefix_of ir) model.types (words_in o) s))) words ∙ members_named (prefix_of ir) model.types model s)
            sized))
            more.goes;
      }

  all_right : (marks : List Bool) (from : ℕ) (more : List Sort) → are_sorts_from model.types from more ≡ true
      → ((j : ℕ) → slice_get (member_words model) (from + j) ≡ option_map (words_of_sort model) (slice_get more j))
      → StructsRight (structs_from (prefix_of ir) model.types (member_words model) marks from more)
  all_right marks from [] h same = record { members = tt; goes = goes_none outside }
  all_right marks from (s ∷ more) h same =
      let zero_plus : from ≡ from + 0 = omega arith in
      let next : suc from ≡ from + 1 = omega arith in
      let deep = nat_le (depth model.types (record { 0 = from })) 64 in
      let rest = right_of (is_sort_after from s) (deep && are_sorts_from model.types (suc from) more) h in
      one_right (is_marked marks from && is_structured s) from s (structs_from (prefix_of ir) model.types (member_words model) marks (from + 1) more)
      (λ q. right_of (is_marked marks from) (is_structured s) q) (left_of (is_sort_after from s) (deep && are_sorts_from model.types (suc from) more) h)
      (ap (slice_get (member_words model)) zero_plus ∙ same 0)
      (all_right marks (from + 1) more (ap (λ n. are_sorts_from model.types n more) (sym next) ∙ right_of deep _ rest)
      (λ j. let e : from + 1 + j ≡ from + suc j = omega arith in ap (slice_get (member_words model)) e ∙ same (suc j)))

  pub structs_right : Fair ir model → StructsRight (structs_of ir model)
  structs_right fair =
      all_right (needed model ir) 0 model.types fair.types
      (λ j. let zero_plus : 0 + j ≡ j = omega arith in ap (slice_get (member_words model)) zero_plus ∙ get_map (words_of_sort model) model.types j)
