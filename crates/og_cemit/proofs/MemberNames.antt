-- Names of structs and members are C names, and differ.
use Rattle.std.proofs.Common.{◌≡◌, ℕ, zero, suc, ◌+◌, ◌<◌, ◌≤◌, ◌^◌, List, [], ◌∷◌, ◌++◌, Bool, true, false, cond, not, ◌&&◌, ◌||◌, ◌==◌, Option, Some, None, map, max, length, replicate, slice_get, refl, sym, ap, subst, ◌∙◌, arith}
use Rattle.std.specs.Prelude.{codes, decimal}
use Rattle.std.specs.List.{list_all, list_any}
use Rattle.std.specs.Str.{bytes_eq}
use Rattle.std.proofs.lemmas.Bool.{false≢true}
use Rattle.std.proofs.lemmas.Fmt.{decimal_injective, decimal_nonempty}
use Rattle.og_names.specs.declared.Word.{Word}
use Rattle.og_names.proofs.Truths.{both_first as left_of, both_second as right_of, both_true as both, neither_true as neither, neither_first as or_left, neither_second as or_right, not_true}
use Rattle.og_types.specs.declared.Part.{Part}
use Rattle.og_types.specs.declared.Sort.{Sort}
use Rattle.og_types.specs.declared.Sort.TheVariants as sort
use Rattle.og_types.specs.declared.TypeId.{TypeId}
use Rattle.og_model.specs.declared.Model.{Model}
use Rattle.og_ir.specs.declared.Ir.{Ir}
use Rattle.og_csubset.specs.declared.CMember.{CMember}
use Rattle.og_csubset.specs.Tokens.{is_letter, is_digit, is_word_byte, is_word, is_name}
use Rattle.og_csubset.specs.Kinds.{is_in}
use Rattle.og_csubset.specs.Loading.{has_twice}
use Rattle.og_csubset.specs.Fair.{names_of}
use Rattle.og_cemit.specs.Structs.{leading, most_from, prefix_of, struct_word, by_name, by_number, numbered_from, are_clear, part_words, names_of_parts, words_of_sort, choice_word, word_at, word_in, part_member, part_members, members_of_sort, has_few_parts}
use Rattle.og_cemit.proofs.Names.{equal_bytes, other_bytes}
use Rattle.og_csubset.proofs.Digits.{decimal_digits}
use Rattle.og_cemit.proofs.LabelNames.{digits_words}
use Rattle.og_cemit.proofs.StructLoops.{grown}
use Rattle.og_cemit.proofs.Tests.{false_by}

abbrev bytes_of : List Word → List (List ℕ)
bytes_of words = map (λ (w : Word). w.bytes) words

-- ---- names of parts

named_in : (name : List ℕ) (names : List (List ℕ)) → is_in (codes "m_" ++ name) (bytes_of (map by_name names)) ≡ is_in name names
named_in name [] = refl
named_in name (x ∷ names) = ap (λ b. bytes_eq name x || b) (named_in name names)

named_differ : (names : List (List ℕ)) → has_twice names ≡ false → has_twice (bytes_of (map by_name names)) ≡ false
named_differ [] h = refl
named_differ (x ∷ names) h =
    neither _ _ (named_in x names ∙ left x names h) (named_differ names (right x names h))
  where
    left : (y : List ℕ) (ys : List (List ℕ)) → has_twice (y ∷ ys) ≡ false → is_in y ys ≡ false
    left y ys e = or_left (is_in y ys) (has_twice ys) e

    right : (y : List ℕ) (ys : List (List ℕ)) → has_twice (y ∷ ys) ≡ false → has_twice ys ≡ false
    right y ys e = or_right (is_in y ys) (has_twice ys) e

number_words_differ : (j k : ℕ) → j < 2 ^ 64 → k < 2 ^ 64 → (j ≡ k → ⊥) → bytes_eq (by_number j).bytes (by_number k).bytes ≡ false
number_words_differ j k less less' other = other_bytes (decimal j) (decimal k) (λ e. other (decimal_injective j k less less' e))

numbered_out : (j k : ℕ) (names : List (List ℕ)) → j < k → k + length names ≤ 2 ^ 64 → j < 2 ^ 64
    → is_in (by_number j).bytes (bytes_of (numbered_from k names)) ≡ false
numbered_out j k [] less few small = refl
numbered_out j k (x ∷ names) less few small =
    neither _ _ (number_words_differ j k small (omega (arith, few)) (λ e. omega (arith, e, less))) (numbered_out j (k + 1) names (omega (arith, less)) (omega (arith, few)) small)

numbered_differ : (k : ℕ) (names : List (List ℕ)) → k + length names ≤ 2 ^ 64 → has_twice (bytes_of (numbered_from k names)) ≡ false
numbered_differ k [] few = refl
numbered_differ k (x ∷ names) few =
    neither _ _ (numbered_out k (k + 1) names (omega arith) (omega (arith, few)) (omega (arith, few))) (numbered_differ (k + 1) names (omega (arith, few)))

pub part_words_differ : (names : List (List ℕ)) → length names < 2 ^ 64 → has_twice (bytes_of (part_words names)) ≡ false
part_words_differ names few = by_test (are_clear names) refl
  where
    by_test : (b : Bool) → are_clear names ≡ b → has_twice (bytes_of (cond b (map by_name names) (numbered_from 0 names))) ≡ false
    by_test true e = named_differ names (not_true (has_twice names) (right_of (list_all (list_all is_word_byte) names) (not (has_twice names)) e))
    by_test false e = numbered_differ 0 names (omega (arith, few))

-- no part has the name of the number of a choice
no_choice : (names : List (List ℕ)) → is_in (choice_word).bytes (bytes_of (part_words names)) ≡ false
no_choice names = by_test (are_clear names)
  where
    named : (list : List (List ℕ)) → is_in (choice_word).bytes (bytes_of (map by_name list)) ≡ false
    named [] = refl
    named (x ∷ list) = named list

    numbered : (k : ℕ) (list : List (List ℕ)) → is_in (choice_word).bytes (bytes_of (numbered_from k list)) ≡ false
    numbered k [] = refl
    numbered k (x ∷ list) = numbered (k + 1) list

    by_test : (b : Bool) → is_in (choice_word).bytes (bytes_of (cond b (map by_name names) (numbered_from 0 names))) ≡ false
    by_test true = named names
    by_test false = numbered 0 names

-- ---- members of a struct

words_length : (names : List (List ℕ)) → length (part_words names) ≡ length names
words_length names = by_test (are_clear names)
  where
    numbered : (k : ℕ) (list : List (List ℕ)) → length (numbered_from k list) ≡ length list
    numbered k [] = refl
    numbered k (x ∷ list) = ap suc (numbered (k + 1) list)

    named : (list : List (List ℕ)) → length (map by_name list) ≡ length list
    named [] = refl
    named (x ∷ list) = ap suc (named list)

    by_test : (b : Bool) → length (cond b (map by_name names) (numbered_from 0 names)) ≡ length names
    by_test true = named names
    by_test false = numbered 0 names

word_behind : (front : List Word) (w : Word) (words : List Word) → word_at (front ++ w ∷ words) (length front) ≡ w
word_behind [] w words = refl
word_behind (x ∷ front) w words = word_behind front w words

length_one : (front : List Word) (w : Word) → length (front ++ w ∷ []) ≡ length front + 1
length_one [] w = refl
length_one (x ∷ front) w = let more = length_one front w in omega (arith, more)

abbrev member_names : List CMember → List (List ℕ)
member_names members = map (λ (m : CMember). m.name.bytes) members

part_names_are : (prefix : List ℕ) (sorts : List Sort) (front words : List Word) (parts : List Part) → length words ≡ length parts
    → member_names (part_members prefix sorts (front ++ words) (length front) parts) ≡ bytes_of words
part_names_are prefix sorts front [] [] e = refl
part_names_are prefix sorts front [] (p ∷ parts) e = absurd (omega (arith, e))
part_names_are prefix sorts front (w ∷ words) [] e = absurd (omega (arith, e))
part_names_are prefix sorts front (w ∷ words) (p ∷ parts) e =
    ap (λ (v : Word). v.bytes ∷ member_names (part_members prefix sorts (front ++ w ∷ words) (length front + 1) parts)) (word_behind front w words)
    ∙ ap (λ l. w.bytes ∷ member_names (part_members prefix sorts l (length front + 1) parts)) (grown front w words)
    ∙ ap (λ n. w.bytes ∷ member_names (part_members prefix sorts ((front ++ w ∷ []) ++ words) n parts)) (sym (length_one front w))
    ∙ ap (λ l. w.bytes ∷ l) (part_names_are prefix sorts (front ++ w ∷ []) words parts (omega (arith, e)))

names_length : (model : Model) (parts : List Part) → length (names_of_parts model parts) ≡ length parts
names_length model [] = refl
names_length model (p ∷ parts) = ap suc (names_length model parts)

pub members_differ : (prefix : List ℕ) (sorts : List Sort) (model : Model) (s : Sort) → has_few_parts s
    → has_twice (member_names (members_of_sort prefix sorts (words_of_sort model s) s)) ≡ false
members_differ prefix sorts model (sort.Int lo hi) few = refl
members_differ prefix sorts model sort.Bool few = refl
members_differ prefix sorts model (sort.Enumerated names numbers) few = refl
members_differ prefix sorts model (sort.Sequence parts) few =
    let long = names_length model parts in
    ap has_twice (part_names_are prefix sorts [] (part_words (names_of_parts model parts)) parts (words_length (names_of_parts model parts) ∙ long))
    ∙ part_words_differ (names_of_parts model parts) (omega (arith, few, long))
members_differ prefix sorts model (sort.Choice parts) few =
    let long = names_length model parts in
    ap (λ l. has_twice ((choice_word).bytes ∷ l)) (part_names_are prefix sorts (choice_word ∷ []) (part_words (names_of_parts model parts)) parts (words_length (names_of_parts model parts) ∙ long))
    ∙ neither _ _ (no_choice (names_of_parts model parts)) (part_words_differ (names_of_parts model parts) (omega (arith, few, long)))
members_differ prefix sorts model (sort.SeqOf lo zero item) few = refl
members_differ prefix sorts model (sort.SeqOf lo (suc hi) item) few = refl
members_differ prefix sorts model sort.Opaque few = refl

-- ---- C names

by_name_named : (name : List ℕ) → list_all is_word_byte name ≡ true → is_name (by_name name).bytes ≡ true
by_name_named name h = both (list_all is_word_byte name) true h refl

by_number_named : (k : ℕ) → is_name (by_number k).bytes ≡ true
by_number_named k = both (list_all is_word_byte (decimal k)) true (digits_words (decimal k) (decimal_digits k)) refl

pub part_words_named : (names : List (List ℕ)) → list_all is_name (bytes_of (part_words names)) ≡ true
part_words_named names = by_test (are_clear names) refl
  where
    named : (list : List (List ℕ)) → list_all (list_all is_word_byte) list ≡ true → list_all is_name (bytes_of (map by_name list)) ≡ true
    named [] h = refl
    named (x ∷ list) h = both _ _ (by_name_named x (left_of (list_all is_word_byte x) _ h)) (named list (right_of (list_all is_word_byte x) _ h))

    numbered : (k : ℕ) (list : List (List ℕ)) → list_all is_name (bytes_of (numbered_from k list)) ≡ true
    numbered k [] = refl
    numbered k (x ∷ list) = both _ _ (by_number_named k) (numbered (k + 1) list)

    by_test : (b : Bool) → are_clear names ≡ b → list_all is_name (bytes_of (cond b (map by_name names) (numbered_from 0 names))) ≡ true
    by_test true e = named names (left_of (list_all (list_all is_word_byte) names) _ e)
    by_test false e = numbered 0 names

pub members_named : (prefix : List ℕ) (sorts : List Sort) (model : Model) (s : Sort)
    → list_all is_name (member_names (members_of_sort prefix sorts (words_of_sort model s) s)) ≡ true
members_named prefix sorts model (sort.Int lo hi) = refl
members_named prefix sorts model sort.Bool = refl
members_named prefix sorts model (sort.Enumerated names numbers) = refl
members_named prefix sorts model (sort.Sequence parts) =
    ap (list_all is_name) (part_names_are prefix sorts [] (part_words (names_of_parts model parts)) parts (words_length (names_of_parts model parts) ∙ names_length model parts))
    ∙ part_words_named (names_of_parts model parts)
members_named prefix sorts model (sort.Choice parts) =
    ap (λ l. list_all is_name ((choice_word).bytes ∷ l)) (part_names_are prefix sorts (choice_word ∷ []) (part_words (names_of_parts model parts)) parts (words_length (names_of_parts model parts) ∙ names_length model parts))
    ∙ part_words_named (names_of_parts model parts)
members_named prefix sorts model (sort.SeqOf lo zero item) = refl
members_named prefix sorts model (sort.SeqOf lo (suc hi) item) = refl
members_named prefix sorts model sort.Opaque = refl

-- ---- names of structs

replicate_T : (n : ℕ) (rest : List ℕ) → (tail : List ℕ) × ((replicate n 84 ++ 84 ∷ []) ++ rest ≡ 84 ∷ tail) × (list_all is_word_byte rest ≡ true → list_all is_word_byte tail ≡ true)
replicate_T zero rest = (rest, refl, λ h. h)
replicate_T (suc n) rest = let one = replicate_T n rest in ((replicate n 84 ++ 84 ∷ []) ++ rest, refl, λ h. ap (list_all is_word_byte) one.1 ∙ one.2 h)

pub struct_named : (ir : Ir) (k : ℕ) → is_name (struct_word (prefix_of ir) k).bytes ≡ true
struct_named ir k =
    let one = replicate_T (most_from 0 (names_of ir)) (decimal k) in
    ap is_name one.1 ∙ both (list_all is_word_byte one.0) true (one.2 (digits_words (decimal k) (decimal_digits k))) refl

leading_T : (n : ℕ) (rest : List ℕ) → n < leading ((replicate n 84 ++ 84 ∷ []) ++ rest)
leading_T zero rest = omega arith
leading_T (suc n) rest = let more = leading_T n rest in omega (arith, more)

most_least : (most : ℕ) (names : List (List ℕ)) → most ≤ most_from most names
most_least most [] = omega arith
most_least most (x ∷ names) = let more = most_least (max most (leading x)) names in omega (arith, more)

most_above : (most : ℕ) (names : List (List ℕ)) (name : List ℕ) → is_in name names ≡ true → leading name ≤ most_from most names
most_above most [] name h = absurd (false≢true h)
most_above most (x ∷ names) name h = by_test (bytes_eq name x) refl h (λ e. most_above (max most (leading x)) names name e)
  where
    by_test : (b : Bool) → bytes_eq name x ≡ b → (b || is_in name names) ≡ true
        → (is_in name names ≡ true → leading name ≤ most_from (max most (leading x)) names) → leading name ≤ most_from (max most (leading x)) names
    by_test true e h' more = let same = ap leading (equal_bytes name x e) in let least = most_least (max most (leading x)) names in omega (arith, same, least)
    by_test false e h' more = more h'

-- no name of the code is that of a struct
pub struct_free : (ir : Ir) (k : ℕ) → is_in (struct_word (prefix_of ir) k).bytes (names_of ir) ≡ false
struct_free ir k = false_by _ (λ h.
    let above = most_above 0 (names_of ir) (struct_word (prefix_of ir) k).bytes h in
    let most = leading_T (most_from 0 (names_of ir)) (decimal k) in omega (arith, above, most))

-- the name of a struct begins with a letter T
pub struct_leads : (ir : Ir) (k : ℕ) → 0 < leading (struct_word (prefix_of ir) k).bytes
struct_leads ir k = let more = leading_T (most_from 0 (names_of ir)) (decimal k) in omega (arith, more)
