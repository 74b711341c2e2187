-- An index with one name more.
use Rattle.std.proofs.Common.{◌≡◌, ℕ, suc, zero, ◌<◌, Bool, true, false, cond, List, [], ◌∷◌, ◌++◌, length, slice_get, Option, Some, None, refl, sym, ap, ◌∙◌, arith, ◌⊎◌, inl, inr, length-append, ◌≢◌}
use Rattle.std.specs.Option.{option_map, option_and_then}
use Rattle.std.specs.Str.{bytes_eq}
use Rattle.std.specs.Cmp.Lexicographic.{bytes_decides}
use Rattle.std.proofs.lemmas.Option.{slice_get_within}
use Rattle.og_names.specs.Folding.{place_of, with_name}
use Rattle.og_names.proofs.Places.{place_leads_back, place_at_end, placed, with_known, with_new}
use Rattle.og_dataview.specs.declared.index.Index.{Index}
use Rattle.og_dataview.specs.Index.{IsIndex}

-- ---- places

pub place_within : (names : List (List ℕ)) (x : List ℕ) (n : ℕ) → place_of names x ≡ Some n → n < length names
place_within names x n at = slice_get_within names n x (place_leads_back names x n at)

-- in a list with one more at its end
abbrev pub at_end : Option ℕ → Bool → ℕ → Option ℕ
at_end (Some n) is end = Some n
at_end None is end = cond is (Some end) None

step : (here : Bool) (later : Option ℕ) (is : Bool) (end : ℕ) → cond here (Some 0) (option_map suc (at_end later is end)) ≡ at_end (cond here (Some 0) (option_map suc later)) is (suc end)
step true later is end = refl
step false (Some n) is end = refl
step false None true end = refl
step false None false end = refl

pub place_more : (names : List (List ℕ)) (k x : List ℕ) → place_of (names ++ k ∷ []) x ≡ at_end (place_of names x) (bytes_eq x k) (length names)
place_more [] k x = refl
place_more (known ∷ names) k x =
    ap (λ (o : Option ℕ). cond (bytes_eq x known) (Some 0) (option_map suc o)) (place_more names k x)
    ∙ step (bytes_eq x known) (place_of names x) (bytes_eq x k) (length names)

-- ---- lists of numbers with one more

slice_in_front : (xs : List ℕ) (x i n : ℕ) → slice_get xs i ≡ Some n → slice_get (xs ++ x ∷ []) i ≡ Some n
slice_in_front [] x i n at = cc
slice_in_front (y ∷ ys) x zero n at = at
slice_in_front (y ∷ ys) x (suc i) n at = slice_in_front ys x i n at

slice_front : (xs : List ℕ) (x i : ℕ) → i < length xs → slice_get (xs ++ x ∷ []) i ≡ slice_get xs i
slice_front [] x i lt = absurd (omega arith)
slice_front (y ∷ ys) x zero lt = refl
slice_front (y ∷ ys) x (suc i) lt = slice_front ys x i (omega arith)

slice_last : (xs : List ℕ) (x i : ℕ) → i ≡ length xs → slice_get (xs ++ x ∷ []) i ≡ Some x
slice_last [] x i e = rw e refl
slice_last (y ∷ ys) x zero e = absurd (omega arith)
slice_last (y ∷ ys) x (suc i) e = slice_last ys x i (omega arith)

slice_there : (xs : List ℕ) (i : ℕ) → i < length xs → slice_get xs i ≡ None → ⊥
slice_there [] i lt none = absurd (omega arith)
slice_there (y ∷ ys) zero lt none = cc
slice_there (y ∷ ys) (suc i) lt none = slice_there ys i (omega arith) none

-- ---- one name more

abbrev Finds : List (List ℕ) → List ℕ → List (List ℕ) → Type 0
Finds table firsts keys = (k : List ℕ) → option_and_then (slice_get firsts) (place_of table k) ≡ place_of keys k

-- a known one
finds_known : (table keys : List (List ℕ)) (firsts : List ℕ) (k : List ℕ) (j : ℕ) → Finds table firsts keys → length firsts ≡ length table
    → place_of table k ≡ Some j → Finds table firsts (keys ++ k ∷ [])
finds_known table keys firsts k j finds as_many at x = finds x ∙ by (place_of keys x) (bytes_eq x k) refl refl ∙ sym (place_more keys k x)
  where
    missing : x ≡ k → place_of keys x ≡ None → ⊥
    missing same none =
        slice_there firsts j (omega (arith, place_within table k j at, as_many))
        (sym (ap (option_and_then (slice_get firsts)) at) ∙ finds k ∙ ap (place_of keys) (sym same) ∙ none)

    by : (o : Option ℕ) (b : Bool) → place_of keys x ≡ o → bytes_eq x k ≡ b → o ≡ at_end o b (length keys)
    by (Some n) b e f = refl
    by None false e f = refl
    by None true e f = absurd (missing ((bytes_decides x k).0 f) e)

-- a new one
finds_new : (table keys : List (List ℕ)) (firsts : List ℕ) (k : List ℕ) (at : ℕ) → Finds table firsts keys → length firsts ≡ length table
    → place_of table k ≡ None → at ≡ length keys → Finds (table ++ k ∷ []) (firsts ++ at ∷ []) (keys ++ k ∷ [])
finds_new table keys firsts k at finds as_many new last x =
    ap (option_and_then (slice_get (firsts ++ at ∷ []))) (place_more table k x)
    ∙ by (place_of table x) (bytes_eq x k) refl refl
    ∙ ap (λ (o : Option ℕ). at_end o (bytes_eq x k) (length keys)) (finds x)
    ∙ sym (place_more keys k x)
  where
    after : (o : Option ℕ) (b : Bool) (n : ℕ) → n < length firsts → slice_get firsts n ≡ o → o ≡ at_end o b (length keys)
    after (Some m) b n lt e = refl
    after None b n lt e = absurd (slice_there firsts n lt e)

    by : (o : Option ℕ) (b : Bool) → place_of table x ≡ o → bytes_eq x k ≡ b
        → option_and_then (slice_get (firsts ++ at ∷ [])) (at_end o b (length table)) ≡ at_end (option_and_then (slice_get firsts) o) b (length keys)
    by (Some n) b e f =
        let lt : n < length firsts = omega (arith, place_within table x n e, as_many) in
        slice_front firsts at n lt ∙ after (slice_get firsts n) b n lt refl
    by None true e f = slice_last firsts at (length table) (sym as_many) ∙ ap Some last
    by None false e f = refl

same_number : (a b : ℕ) → Some a ≡ Some b → a ≡ b
same_number a b e = cc

known_same : (old new : Index) (k : List ℕ) (j : ℕ) → place_of old.names k ≡ Some j → new.names ≡ with_name old.names k → new.names ≡ old.names
known_same old new k j at names = names ∙ with_known old.names k j at

pub index_pushed : (keys : List (List ℕ)) (old new : Index) (k : List ℕ) (id at : ℕ) → IsIndex keys old → new.names ≡ with_name old.names k → place_of new.names k ≡ Some id
    → id ≡ length old.firsts.items → at ≡ length keys → new.firsts.items ≡ old.firsts.items ++ at ∷ [] → IsIndex (keys ++ k ∷ []) new
index_pushed keys old new k id at index names number is_next last firsts = by (placed old.names k)
  where
    by : ((n : ℕ) × (place_of old.names k ≡ Some n)) ⊎ (place_of old.names k ≡ None) → IsIndex (keys ++ k ∷ []) new
    by (inl known) =
        let same = sym (ap (λ (t : List (List ℕ)). place_of t k) (known_same old new k known.0 known.1 names)) ∙ number in
        let lt : id < length old.names = place_within old.names k id same in
        absurd (omega (arith, lt, is_next, index.as_many))
    by (inr none) =
        let table = names ∙ with_new old.names k none in
        record {
          finds = rw (table, firsts) (finds_new old.names keys old.firsts.items k at index.finds index.as_many none last);
          as_many = rw (table, firsts) (omega (arith, length-append old.firsts.items (at ∷ []), length-append old.names (k ∷ []), index.as_many));
        }

pub index_kept : (keys : List (List ℕ)) (old new : Index) (k : List ℕ) (id : ℕ) → IsIndex keys old → new.names ≡ with_name old.names k → place_of new.names k ≡ Some id
    → id ≢ length old.firsts.items → new.firsts.items ≡ old.firsts.items → IsIndex (keys ++ k ∷ []) new
index_kept keys old new k id index names number not_next firsts = by (placed old.names k)
  where
    by : ((n : ℕ) × (place_of old.names k ≡ Some n)) ⊎ (place_of old.names k ≡ None) → IsIndex (keys ++ k ∷ []) new
    by (inl known) =
        let table = known_same old new k known.0 known.1 names in
        record {
          finds = rw (table, firsts) (finds_known old.names keys old.firsts.items k known.0 index.finds index.as_many known.1);
          as_many = rw (table, firsts) index.as_many;
        }
    by (inr none) =
        let at_last = sym number ∙ ap (λ (t : List (List ℕ)). place_of t k) (names ∙ with_new old.names k none) ∙ place_at_end old.names k none in
        absurd (not_next (same_number id (length old.names) at_last ∙ sym index.as_many))
