-- Names of structs differ from one another and from those of the code, and so do the members of each.
use Rattle.std.proofs.Common.{◌≡◌, ℕ, zero, suc, ◌+◌, ◌<◌, ◌≤◌, ◌^◌, List, [], ◌∷◌, ◌++◌, Bool, true, false, ◌&&◌, ◌||◌, map, length, slice_get, refl, sym, ap, ◌∙◌, arith}
use Rattle.std.specs.Prelude.{option_map}
use Rattle.std.specs.List.{list_any}
use Rattle.std.specs.Str.{bytes_eq}
use Rattle.std.proofs.lemmas.Bool.{false≢true}
use Rattle.og_names.specs.declared.Word.{Word}
use Rattle.og_names.proofs.Truths.{neither_true as neither}
use Rattle.og_types.specs.declared.Sort.{Sort}
use Rattle.og_model.specs.declared.Model.{Model}
use Rattle.og_ir.specs.declared.Ir.{Ir}
use Rattle.og_csubset.specs.declared.CStruct.{CStruct}
use Rattle.og_csubset.specs.declared.CMember.{CMember}
use Rattle.og_csubset.specs.Kinds.{is_in, struct_names}
use Rattle.og_csubset.specs.Loading.{has_twice}
use Rattle.og_csubset.specs.Fair.{names_of}
use Rattle.og_cemit.specs.Marks.{is_marked}
use Rattle.og_cemit.specs.Structs.{prefix_of, struct_word, words_of_sort, member_words, words_in, members_of_sort, needed, is_structured, struct_at, struct_if, structs_from, HaveFewParts, AreFew}
use Rattle.og_cemit.specs.Emitted.{program_of}
use Rattle.og_cemit.proofs.Names.{equal_bytes, other_bytes, same_bytes, get_map}
use Rattle.og_cemit.proofs.StructWords.{struct_words_differ}
use Rattle.og_cemit.proofs.MemberNames.{members_differ, struct_free}

abbrev names_in : List CStruct → List (List ℕ)
names_in structs = map (λ (s : CStruct). s.name.bytes) structs

module _ (prefix : List ℕ) (sorts : List Sort) (words : List (List Word)) (marks : List Bool) where
  if_out : (b : Bool) (name : List ℕ) (s : CStruct) (rest : List CStruct) → bytes_eq name s.name.bytes ≡ false
      → is_in name (names_in rest) ≡ false → is_in name (names_in (struct_if b s ++ rest)) ≡ false
  if_out false name s rest h k = k
  if_out true name s rest h k = neither _ _ h k

  later_out : (j from : ℕ) (more : List Sort) → j < from → from + length more < 2 ^ 64
      → is_in (struct_word prefix j).bytes (names_in (structs_from prefix sorts words marks from more)) ≡ false
  later_out j from [] less few = refl
  later_out j from (s ∷ more) less few =
      if_out (is_marked marks from && is_structured s) (struct_word prefix j).bytes (struct_at prefix sorts words from s) (structs_from prefix sorts words marks (from + 1) more)
      (struct_words_differ prefix j from (omega (arith, less, few)) (omega (arith, few)) (λ e. omega (arith, e, less)))
      (later_out j (from + 1) more (omega (arith, less)) (omega (arith, few)))

  names_differ : (from : ℕ) (more : List Sort) → from + length more < 2 ^ 64 → has_twice (names_in (structs_from prefix sorts words marks from more)) ≡ false
  names_differ from [] few = refl
  names_differ from (s ∷ more) few =
      by_test (is_marked marks from && is_structured s) (later_out from (from + 1) more (omega arith) (omega (arith, few))) (names_differ (from + 1) more (omega (arith, few)))
    where
      by_test : (b : Bool) → is_in (struct_word prefix from).bytes (names_in (structs_from prefix sorts words marks (from + 1) more)) ≡ false
          → has_twice (names_in (structs_from prefix sorts words marks (from + 1) more)) ≡ false
          → has_twice (names_in (struct_if b (struct_at prefix sorts words from s) ++ structs_from prefix sorts words marks (from + 1) more)) ≡ false
      by_test false out rest = rest
      by_test true out rest = neither _ _ out rest

  -- what has the name of a struct has that of some type
  name_of_one : (from : ℕ) (more : List Sort) (name : List ℕ) → is_in name (names_in (structs_from prefix sorts words marks from more)) ≡ true
      → (k : ℕ) × (name ≡ (struct_word prefix k).bytes)
  name_of_one from [] name h = absurd (false≢true h)
  name_of_one from (s ∷ more) name h = by_test (is_marked marks from && is_structured s) h (name_of_one (from + 1) more name)
    where
      by_name : (b : Bool) → bytes_eq name (struct_word prefix from).bytes ≡ b
          → (b || is_in name (names_in (structs_from prefix sorts words marks (from + 1) more))) ≡ true
          → (is_in name (names_in (structs_from prefix sorts words marks (from + 1) more)) ≡ true → (k : ℕ) × (name ≡ (struct_word prefix k).bytes))
          → (k : ℕ) × (name ≡ (struct_word prefix k).bytes)
      by_name true e h' rest = (from, equal_bytes name (struct_word prefix from).bytes e)
      by_name false e h' rest = rest h'

      by_test : (b : Bool) → is_in name (names_in (struct_if b (struct_at prefix sorts words from s) ++ structs_from prefix sorts words marks (from + 1) more)) ≡ true
          → (is_in name (names_in (structs_from prefix sorts words marks (from + 1) more)) ≡ true → (k : ℕ) × (name ≡ (struct_word prefix k).bytes))
          → (k : ℕ) × (name ≡ (struct_word prefix k).bytes)
      by_test false h' rest = rest h'
      by_test true h' rest = by_name (bytes_eq name (struct_word prefix from).bytes) refl h' rest

pub structs_apart : (ir : Ir) (model : Model) → AreFew model.types → has_twice (struct_names (program_of ir model)) ≡ false
structs_apart ir model few =
    names_differ (prefix_of ir) model.types (member_words model) (needed model ir) 0 model.types (let small = few.types in omega (arith, small))

pub struct_name : (ir : Ir) (model : Model) (name : List ℕ) → is_in name (struct_names (program_of ir model)) ≡ true
    → (k : ℕ) × (name ≡ (struct_word (prefix_of ir) k).bytes)
struct_name ir model name h = name_of_one (prefix_of ir) model.types (member_words model) (needed model ir) 0 model.types name h

-- no name of a struct is one of the code
pub structs_free : (ir : Ir) (model : Model) (name : List ℕ) → is_in name (struct_names (program_of ir model)) ≡ true
    → is_in name (names_of ir) ≡ false
structs_free ir model name h =
    let one = struct_name ir model name h in
    ap (λ n. is_in n (names_of ir)) one.1 ∙ struct_free ir one.0

-- ---- members

member_apart : (prefix : List ℕ) (sorts : List Sort) (model : Model) (marks : List Bool) (from : ℕ) (more : List Sort) → HaveFewParts more
    → ((j : ℕ) → slice_get (member_words model) (from + j) ≡ option_map (words_of_sort model) (slice_get more j))
    → list_any (λ (s : CStruct). has_twice (map (λ (m : CMember). m.name.bytes) s.members)) (structs_from prefix sorts (member_words model) marks from more) ≡ false
member_apart prefix sorts model marks from [] few same = refl
member_apart prefix sorts model marks from (s ∷ more) few same =
    by_test (is_marked marks from && is_structured s) here
    (member_apart prefix sorts model marks (from + 1) more few.1 (λ j. let next : from + 1 + j ≡ from + suc j = omega arith in ap (slice_get (member_words model)) next ∙ same (suc j)))
  where
    zero_plus : from ≡ from + 0
    zero_plus = omega arith

    here : has_twice (map (λ (m : CMember). m.name.bytes) (members_of_sort prefix sorts (words_in (slice_get (member_words model) from)) s)) ≡ false
    here = ap (λ o. has_twice (map (λ (m : CMember). m.name.bytes) (members_of_sort prefix sorts (words_in o) s))) (ap (slice_get (member_words model)) zero_plus ∙ same 0)
        ∙ members_differ prefix sorts model s few.0

    by_test : (b : Bool) → has_twice (map (λ (m : CMember). m.name.bytes) (members_of_sort prefix sorts (words_in (slice_get (member_words model) from)) s)) ≡ false
        → list_any (λ (x : CStruct). has_twice (map (λ (m : CMember). m.name.bytes) x.members)) (structs_from prefix sorts (member_words model) marks (from + 1) more) ≡ false
        → list_any (λ (x : CStruct). has_twice (map (λ (m : CMember). m.name.bytes) x.members)) (struct_if b (struct_at prefix sorts (member_words model) from s) ++ structs_from prefix sorts (member_words model) marks (from + 1) more) ≡ false
    by_test false h rest = rest
    by_test true h rest = neither _ _ h rest

pub members_apart : (ir : Ir) (model : Model) → AreFew model.types
    → list_any (λ (s : CStruct). has_twice (map (λ (m : CMember). m.name.bytes) s.members)) (program_of ir model).structs ≡ false
members_apart ir model few =
    member_apart (prefix_of ir) model.types model (needed model ir) 0 model.types few.parts
    (λ j. let zero_plus : 0 + j ≡ j = omega arith in ap (slice_get (member_words model)) zero_plus ∙ get_map (words_of_sort model) model.types j)
