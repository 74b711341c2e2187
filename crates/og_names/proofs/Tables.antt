-- Each table of names stays one, and is its own copy.
use Rattle.std.proofs.Common.{◌≡◌, ℕ, suc, zero, ◌+◌, ◌-◌, ◌^◌, ◌<◌, ◌≤◌, ◌⊎◌, inl, inr, List, [], ◌∷◌, ◌++◌, map, length, take, slice_get, Some, None, true, refl, sym, ap, ◌∙◌, arith, length-append}
use Rattle.std.proofs.lemmas.Bool.Decides.{nat_tests}
use Rattle.std.proofs.lemmas.List.{length-map}
use Rattle.std.proofs.lemmas.Option.{slice_get-map}
use Rattle.std.specs.Cmp.Lexicographic.{bytes_decides}
use Rattle.std.specs.Option.{option_map}
use Rattle.std.specs.Str.{bytes_eq}
use Rattle.indexmap.specs.IndexSet.{insert_key}
use Rattle.og_names.specs.Folding.{fold_byte, folded, place_of, with_name}
use Rattle.og_names.specs.Table.{IsTable}
use Rattle.og_names.proofs.Places.{place_leads_back, place_kept, place_at_end, place_before, placed, with_known, with_new, bytes-insert_key}

fold_byte_twice : (b : ℕ) → fold_byte (fold_byte b) ≡ fold_byte b
fold_byte_twice b = grind (arith, nat_tests)

-- folding twice is folding once
pub folded_twice : (name : List ℕ) → folded (folded name) ≡ folded name
folded_twice [] = refl
folded_twice (b ∷ name) = λ i. fold_byte_twice b i ∷ folded_twice name i

-- an element of a list with one more at its end
pushed : (names : List (List ℕ)) (last x : List ℕ) (n : ℕ) → slice_get (names ++ last ∷ []) n ≡ Some x → (slice_get names n ≡ Some x) ⊎ ((n ≡ length names) × (x ≡ last))
pushed [] last x zero at = inr (refl, cc)
pushed [] last x (suc n) at = cc
pushed (name ∷ names) last x zero at = inl at
pushed (name ∷ names) last x (suc n) at =
    elim (pushed names last x n at) [ inl before ↦ inl before | inr after ↦ inr (ap suc after.0, after.1) ]

pub no_names : IsTable []
no_names = record {
  short = λ n name at. cc;
  folds = λ n name at. cc;
  own = λ n name at. cc;
  few = omega arith;
}

with_one_more : (names : List (List ℕ)) (name : List ℕ) → IsTable names → place_of names name ≡ None → length name ≤ 64 → folded name ≡ name → length names < 2 ^ 32 - 1 → IsTable (names ++ name ∷ [])
with_one_more names name table none short folds few = record {
  short = λ n x at. elim (pushed names name x n at) [ inl before ↦ table.short n x before | inr after ↦ rw after.1 short ];
  folds = λ n x at. elim (pushed names name x n at) [ inl before ↦ table.folds n x before | inr after ↦ rw after.1 folds ];
  own = λ n x at. elim (pushed names name x n at) [
    | inl before ↦ place_kept names (name ∷ []) x n (table.own n x before)
    | inr after ↦ rw (after.0, after.1) (place_at_end names name none)
  ];
  few = let long = length-append names (name ∷ []) in omega arith;
}

-- a table with a further folded name is a table
pub table_with : (names : List (List ℕ)) (name : List ℕ) → IsTable names → length name ≤ 64 → folded name ≡ name → length names < 2 ^ 32 - 1 → IsTable (with_name names name)
table_with names name table short folds few =
    elim (placed names name) [
      | inl known ↦ rw (with_known names name known.0 known.1) table
      | inr new ↦ rw (with_new names name new) (with_one_more names name table new short folds few)
    ]

taken : (names : List (List ℕ)) (name : List ℕ) (n : ℕ) → slice_get names n ≡ Some name → take n names ++ name ∷ [] ≡ take (suc n) names
taken [] name n at = cc
taken (first ∷ names) name zero at = let same : first ≡ name = cc in ap (λ (x : List ℕ). x ∷ []) (sym same)
taken (first ∷ names) name (suc n) at = ap (λ (xs : List (List ℕ)). first ∷ xs) (taken names name n at)

-- the front of a table and the name behind it are a front that is longer by one
pub front_with : (names : List (List ℕ)) (name : List ℕ) (n : ℕ) → IsTable names → slice_get names n ≡ Some name → with_name (take n names) name ≡ take (n + 1) names
front_with names name n table at =
    let none = place_before names name n (table.own n name at) in
    let next : suc n ≡ n + 1 = omega arith in
    with_new (take n names) name none ∙ taken names name n at ∙ ap (λ (k : ℕ). take k names) next

-- a name of more than 64 bytes has no number
pub long_absent : (names : List (List ℕ)) (name : List ℕ) → IsTable names → 64 < length name → place_of names (folded name) ≡ None
long_absent names name table long =
    elim (placed names (folded name)) [
      | inl known ↦ let short = table.short known.0 (folded name) (place_leads_back names (folded name) known.0 known.1) in
          let same = length-map name fold_byte in
          absurd (omega (arith, short, same))
      | inr none ↦ none
    ]

-- a table to which a folded name is added
pub table_added : (names old : List (List ℕ)) (name word : List ℕ) → old ≡ names → word ≡ folded name → IsTable old → length name ≤ 64 → length names < 2 ^ 32 - 1 → IsTable (with_name old word)
table_added names old name word same folds table short few =
    let long : length word ≡ length name = ap length folds ∙ length-map name fold_byte in
    table_with old word table (omega arith) (ap folded folds ∙ folded_twice name ∙ sym folds) (let count = ap length same in omega arith)

-- where the word at a number has the bytes of a name, that is the name's number
pub number_there : {K : Type 0} (bytes : K → List ℕ) (ks : List K) (name word : List ℕ) (k : K) (n : ℕ) → IsTable (map bytes ks) → slice_get ks n ≡ Some k
    → bytes_eq word (bytes k) ≡ true → word ≡ folded name → place_of (map bytes ks) (folded name) ≡ Some n
number_there bytes ks name word k n table at same folds =
    let named : bytes k ≡ folded name = sym ((bytes_decides word (bytes k)).0 same) ∙ folds in
    ap (place_of (map bytes ks)) (sym named) ∙ table.own n (bytes k) (slice_get-map bytes ks n ∙ ap (option_map bytes) at)

-- a copy of a front of the table, with the next name put in, is a longer front
pub copied_more : {K : Type 0} (bytes : K → List ℕ) (names : List (List ℕ)) (ks set set' : List K) (n : ℕ) (k k' : K) → IsTable names → map bytes ks ≡ names → map bytes set ≡ take n names
    → slice_get ks n ≡ Some k → bytes k' ≡ bytes k → set' ≡ insert_key (λ a b. bytes_eq (bytes a) (bytes b)) set k' → map bytes set' ≡ take (n + 1) names
copied_more bytes names ks set set' n k k' table seen so_far at same put =
    let there : slice_get names n ≡ Some (bytes k) = ap (λ xs. slice_get xs n) (sym seen) ∙ slice_get-map bytes ks n ∙ ap (option_map bytes) at in
    ap (map bytes) put ∙ bytes-insert_key bytes set k' ∙ (λ i. with_name (so_far i) (same i)) ∙ front_with names (bytes k) n table there
