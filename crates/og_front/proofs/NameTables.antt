-- Numbers of names in a table, and names in their folded form.
use Rattle.std.proofs.Common.{◌≡◌, ℕ, suc, ◌+◌, ◌≤◌, Bool, true, false, not, ◌&&◌, ◌||◌, nat_lt, nat_le, nat_eq, if◌then◌else◌, List, [], ◌∷◌, length, map, slice_get, Option, Some, None, refl, sym, ap, subst, ◌∙◌, arith, cond}
use Rattle.std.specs.List.{AllByRecursion, list_all}
use Rattle.std.specs.Option.{option_map}
use Rattle.std.specs.Str.{bytes_eq}
use Rattle.std.specs.Char.{is_ascii_alphabetic}
use Rattle.std.specs.Cmp.Lexicographic.{bytes_decides}
use Rattle.std.proofs.lemmas.Bool.{leb-true}
use Rattle.std.proofs.lemmas.Bool.Decides.{nat_tests}
use Rattle.std.proofs.lemmas.Option.{slice_get_within}
use Rattle.std.proofs.lemmas.List.Folds.{list_all-append}
use Rattle.og_base.specs.declared.Rule.TheVariants.{N2}
use Rattle.og_names.specs.Folding.{fold_byte, folded, place_of, with_name}
use Rattle.og_names.proofs.Places.{place_leads_back}
use Rattle.og_model.specs.Resolved.{is_name, is_name_byte}
use Rattle.og_model.specs.Rules.{has_double_underscore, is_plain_text}
use Rattle.og_front.specs.declared.syntax.Ident.{Ident}
use Rattle.og_front.specs.ModelOf.{firsts_from}
use Rattle.og_front.specs.Rules.{key, with_names, is_in, violated_if, repeated_from, has_double_underline, number_in}
use Rattle.og_front.specs.Written.{IsWrittenName}
use Rattle.og_front.proofs.Kept.{not_broken}
use Rattle.og_front.proofs.States.{AreApart, known_in, new_in, own_in, stay_in, some_in}
use Rattle.og_front.proofs.Elements.{by_not, less_test, same_from, Apart, none_before}
use Rattle.og_names.proofs.Truths.{both_first as first, both_second as second, both_true as both, either_first as or_first, either_second as or_second}

-- ---- numbers

-- each name that is added is in the table
pub all_known : (table total : List (List ℕ)) (names : List Ident) → with_names table (map key names) ≡ total → AllByRecursion (λ name. is_in total (key name) ≡ true) names
all_known table total [] e = tt
all_known table total (name ∷ names) e =
    (subst (λ t. is_in t (key name) ≡ true) e (stay_in (with_name table (key name)) (key name) (map key names) (own_in table (key name))), all_known (with_name table (key name)) total names e)

pub name_at : (table : List (List ℕ)) (name : Ident) → is_in table (key name) ≡ true → slice_get table (number_in table name) ≡ Some (key name)
name_at table name e = place_leads_back table (key name) (number_in table name) (some_in (place_of table (key name)) e)

pub number_below : (table : List (List ℕ)) (name : Ident) → is_in table (key name) ≡ true → nat_lt (number_in table name) (length table) ≡ true
number_below table name e = less_test (number_in table name) (length table) (slice_get_within table (number_in table name) (key name) (name_at table name e))

same_text : (a b : List ℕ) → Some a ≡ Some b → a ≡ b
same_text a b e = cc

pub numbers_differ : (table : List (List ℕ)) (a b : Ident) → is_in table (key a) ≡ true → is_in table (key b) ≡ true → bytes_eq (key a) (key b) ≡ false
    → nat_eq (number_in table a) (number_in table b) ≡ false
numbers_differ table a b there other differ =
    by_not (nat_eq (number_in table a) (number_in table b)) (λ h.
    let same : number_in table a ≡ number_in table b = same_from (number_in table a) (number_in table b) h in
    let keys : key a ≡ key b = same_text (key a) (key b) (sym (name_at table a there) ∙ ap (slice_get table) same ∙ name_at table b other) in
    let wrong : true ≡ false = sym ((bytes_decides (key a) (key b)).1 keys) ∙ differ in
    cc)

-- ---- names that differ

missing : (here : Bool) (later : Option ℕ) → cond here (Some 0) (option_map suc later) ≡ None → (here ≡ false) × (later ≡ None)
missing true later at = cc
missing false None at = (refl, refl)
missing false (Some m) at = cc

abbrev pub Differ : Ident → Ident → Type 0
Differ a b = bytes_eq (key a) (key b) ≡ false

none_like : (k : List ℕ) (names : List Ident) → place_of (map key names) k ≡ None → AllByRecursion (λ b. bytes_eq k (key b) ≡ false) names
none_like k [] e = tt
none_like k (name ∷ names) e =
    let parts = missing (bytes_eq k (key name)) (place_of (map key names) k) e in
    (parts.0, none_like k names parts.1)

pub apart_names : (names : List Ident) → AreApart (map key names) → Apart Differ names
apart_names [] apart = tt
apart_names (name ∷ names) apart = (none_like (key name) names apart.0, apart_names names apart.1)

-- names of which none is repeated are the first of their kind
pub once_firsts : (table : List (List ℕ)) (names : List Ident) → repeated_from table names ≡ [] → firsts_from table names ≡ names
once_firsts table [] e = refl
once_firsts table (name ∷ names) e =
    let parts = none_before (violated_if (is_in table (key name)) N2 name) (repeated_from (with_name table (key name)) names) e in
    let new : is_in table (key name) ≡ false = not_broken (is_in table (key name)) N2 name parts.0 in
    ap (λ (c : Bool). if c then firsts_from table names else name ∷ firsts_from (with_name table (key name)) names) new ∙ ap (λ (ns : List Ident). name ∷ ns) (once_firsts (with_name table (key name)) names parts.1)

pub each_first : (P : Ident → Type 0) (table : List (List ℕ)) (names : List Ident) → AllByRecursion P names → AllByRecursion P (firsts_from table names)
each_first P table [] all = tt
each_first P table (name ∷ names) all = by (is_in table (key name)) (each_first P table names all.1) (each_first P (with_name table (key name)) names all.1)
  where
    by : (b : Bool) → AllByRecursion P (firsts_from table names) → AllByRecursion P (firsts_from (with_name table (key name)) names)
        → AllByRecursion P (if b then firsts_from table names else name ∷ firsts_from (with_name table (key name)) names)
    by true known new = known
    by false known new = (all.0, new)

-- ---- folded names

le_test : (m n : ℕ) → m ≤ n → nat_le m n ≡ true
le_test m n h = grind (arith, nat_tests)

abbrev is_upper : ℕ → Bool
is_upper b = nat_le 65 b && nat_le b 90

abbrev is_lower : ℕ → Bool
is_lower b = nat_le 97 b && nat_le b 122

lower_is : (b : ℕ) → is_upper b ≡ true → is_lower (b + 32) ≡ true
lower_is b h =
    let low : 65 ≤ b = leb-true 65 b (first (nat_le 65 b) (nat_le b 90) h) in
    let high : b ≤ 90 = leb-true b 90 (second (nat_le 65 b) (nat_le b 90) h) in
    both (nat_le 97 (b + 32)) (nat_le (b + 32) 122) (le_test 97 (b + 32) (omega arith)) (le_test (b + 32) 122 (omega arith))

-- what holds of lower letters, and of what is neither an upper letter nor a hyphen, holds of a folded byte
fold_holds : (P : ℕ → Type 0) (b : ℕ) → (is_upper b ≡ true → P (b + 32)) → (nat_eq b 45 ≡ true → P 95) → (is_upper b ≡ false → nat_eq b 45 ≡ false → P b) → P (fold_byte b)
fold_holds P b upper hyphen other = by (is_upper b) (nat_eq b 45) refl refl
  where
    by : (c d : Bool) → is_upper b ≡ c → nat_eq b 45 ≡ d → P (if is_upper b then b + 32 else (if nat_eq b 45 then 95 else b))
    by true d e f = subst (λ x. P (if x then b + 32 else (if nat_eq b 45 then 95 else b))) (sym e) (upper e)
    by false true e f = subst (λ x. P (if x then b + 32 else (if nat_eq b 45 then 95 else b))) (sym e) (subst (λ x. P (if x then 95 else b)) (sym f) (hyphen f))
    by false false e f = subst (λ x. P (if x then b + 32 else (if nat_eq b 45 then 95 else b))) (sym e) (subst (λ x. P (if x then 95 else b)) (sym f) (other e f))

no_hyphen : (p : ℕ → Bool) (b : ℕ) → p 45 ≡ false → p b ≡ true → nat_eq b 45 ≡ true → ⊥
no_hyphen p b none h e =
    let wrong : true ≡ false = sym h ∙ ap p (same_from b 45 e) ∙ none in
    cc

fold_letter : (b : ℕ) → is_ascii_alphabetic b ≡ true → is_ascii_alphabetic (fold_byte b) ≡ true
fold_letter b h =
    fold_holds (λ x. is_ascii_alphabetic x ≡ true) b (λ u. or_second (is_upper (b + 32)) (is_lower (b + 32)) (lower_is b u)) (λ e. absurd (no_hyphen is_ascii_alphabetic b refl h e)) (λ _ _. h)

fold_word : (b : ℕ) → is_name_byte b ≡ true → is_name_byte (fold_byte b) ≡ true
fold_word b h =
    fold_holds (λ x. is_name_byte x ≡ true) b
    (λ u. or_first ((((nat_le 48 (b + 32) && nat_le (b + 32) 57) || is_upper (b + 32))) || is_lower (b + 32)) (nat_eq (b + 32) 95) (or_second ((nat_le 48 (b + 32) && nat_le (b + 32) 57) || is_upper (b + 32)) (is_lower (b + 32)) (lower_is b u)))
    (λ e. absurd (no_hyphen is_name_byte b refl h e)) (λ _ _. h)

not_line : (b : ℕ) → is_upper b ≡ true → nat_eq (b + 32) 95 ≡ nat_eq b 95
not_line b u =
    let low : 65 ≤ b = leb-true 65 b (first (nat_le 65 b) (nat_le b 90) u) in
    let high : b ≤ 90 = leb-true b 90 (second (nat_le 65 b) (nat_le b 90) u) in
    by_not (nat_eq (b + 32) 95) (λ e. let same : b + 32 ≡ 95 = same_from (b + 32) 95 e in omega arith)
    ∙ sym (by_not (nat_eq b 95) (λ e. let same : b ≡ 95 = same_from b 95 e in omega arith))

fold_line : (b : ℕ) → is_name_byte b ≡ true → nat_eq (fold_byte b) 95 ≡ nat_eq b 95
fold_line b h = fold_holds (λ x. nat_eq x 95 ≡ nat_eq b 95) b (not_line b) (λ e. absurd (no_hyphen is_name_byte b refl h e)) (λ _ _. refl)

folded_bytes : (bytes : List ℕ) → list_all is_name_byte bytes ≡ true → list_all is_name_byte (folded bytes) ≡ true
folded_bytes [] h = refl
folded_bytes (b ∷ bs) h =
    both (is_name_byte (fold_byte b)) (list_all is_name_byte (folded bs)) (fold_word b (first (is_name_byte b) (list_all is_name_byte bs) h)) (folded_bytes bs (second (is_name_byte b) (list_all is_name_byte bs) h))

pub folded_name : (bytes : List ℕ) → is_name bytes ≡ true → is_name (folded bytes) ≡ true
folded_name [] h = cc
folded_name (b ∷ bs) h =
    both (is_ascii_alphabetic (fold_byte b)) (list_all is_name_byte (folded bs)) (fold_letter b (first (is_ascii_alphabetic b) (list_all is_name_byte bs) h)) (folded_bytes bs (second (is_ascii_alphabetic b) (list_all is_name_byte bs) h))

letters : (upper lower digit line : Bool) → upper || lower ≡ true → ((digit || upper) || lower) || line ≡ true
letters true lower true line h = refl
letters true lower false line h = refl
letters false true true line h = refl
letters false true false line h = refl
letters false false digit line h = cc

name_bytes : (bytes : List ℕ) → is_name bytes ≡ true → list_all is_name_byte bytes ≡ true
name_bytes [] h = cc
name_bytes (b ∷ bs) h =
    both (is_name_byte b) (list_all is_name_byte bs) (letters (is_upper b) (is_lower b) (nat_le 48 b && nat_le b 57) (nat_eq b 95) (first (is_ascii_alphabetic b) (list_all is_name_byte bs) h))
    (second (is_ascii_alphabetic b) (list_all is_name_byte bs) h)

lines_kept : (bytes : List ℕ) → list_all is_name_byte bytes ≡ true → has_double_underscore (folded bytes) ≡ has_double_underline bytes
lines_kept [] h = refl
lines_kept (b ∷ []) h = refl
lines_kept (b ∷ c ∷ bs) h =
    let one : is_name_byte b ≡ true = first (is_name_byte b) (list_all is_name_byte (c ∷ bs)) h in
    let more : list_all is_name_byte (c ∷ bs) ≡ true = second (is_name_byte b) (list_all is_name_byte (c ∷ bs)) h in
    let two : is_name_byte c ≡ true = first (is_name_byte c) (list_all is_name_byte bs) more in
    (λ i. (fold_line b one i && fold_line c two i) || lines_kept (c ∷ bs) more i)

pub plain_name : (table : List (List ℕ)) (name : Ident) → is_in table (key name) ≡ true → IsWrittenName name → has_double_underline name.word.bytes ≡ false
    → is_plain_text (slice_get table (number_in table name)) ≡ true
plain_name table name there written plain =
    ap is_plain_text (name_at table name there) ∙ ap not (lines_kept name.word.bytes (name_bytes name.word.bytes written.letters) ∙ plain)

-- the names of a table are folded names
all_with : (table : List (List ℕ)) (k : List ℕ) → list_all is_name table ≡ true → is_name k ≡ true → list_all is_name (with_name table k) ≡ true
all_with table k all one = by (is_in table k) refl
  where
    by : (b : Bool) → is_in table k ≡ b → list_all is_name (with_name table k) ≡ true
    by true e = ap (list_all is_name) (known_in table k e) ∙ all
    by false e = ap (list_all is_name) (new_in table k e) ∙ list_all-append is_name table (k ∷ []) ∙ both (list_all is_name table) (list_all is_name (k ∷ [])) all (both (is_name k) true one refl)

pub all_names_are : (table : List (List ℕ)) (names : List Ident) → list_all is_name table ≡ true → AllByRecursion IsWrittenName names → list_all is_name (with_names table (map key names)) ≡ true
all_names_are table [] all written = all
all_names_are table (name ∷ names) all written =
    all_names_are (with_name table (key name)) names (all_with table (key name) all (folded_name name.word.bytes written.0.letters)) written.1
