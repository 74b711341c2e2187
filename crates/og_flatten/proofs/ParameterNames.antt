-- The names of the slots of parameters: i_S__k and o_S__k differ where the signal or the number does, since what stands behind
-- the last two underscores is a number.
use Rattle.std.proofs.Common.{◌≡◌, ℕ, zero, suc, ◌+◌, ◌^◌, ◌≤◌, ◌<◌, List, [], ◌∷◌, ◌++◌, Bool, true, false, cond, ◌||◌, map, length, slice_get, drop, append_assoc, refl, sym, ap, subst, ◌∙◌, arith}
use Rattle.std.specs.Prelude.{codes, decimal, flat_map}
use Rattle.std.specs.List.{AllByRecursion, list_all, list_any}
use Rattle.std.specs.Str.{bytes_eq}
use Rattle.std.specs.Cmp.Lexicographic.{bytes_decides}
use Rattle.std.proofs.lemmas.Bool.{false≢true}
use Rattle.std.proofs.lemmas.Fmt.{decimal_injective}
use Rattle.std.proofs.lemmas.List.{map-append}
use Rattle.og_types.specs.declared.TypeId.{TypeId}
use Rattle.og_model.specs.declared.Model.{Model}
use Rattle.og_model.specs.declared.Signal.{Signal}
use Rattle.og_model.specs.Rules.{has_double_underscore}
use Rattle.og_csubset.specs.Tokens.{is_digit}
use Rattle.og_csubset.specs.Interface.{Field, name_of, parameters_from}
use Rattle.og_csubset.specs.Kinds.{is_in}
use Rattle.og_csubset.specs.Loading.{has_twice}
use Rattle.og_csubset.proofs.Digits.{decimal_digits}
use Rattle.og_flatten.proofs.PlainSlots.{field_names, fields_by}
use Rattle.og_flatten.proofs.Parameters.{HasFew}
use Rattle.og_flatten.proofs.Tests.{any_append}
use Rattle.og_names.proofs.Truths.{both_first as left_of, both_second as right_of, neither_first as or_left, neither_second as or_right, neither_true, either_second, same_value}

pub other_name : (xs ys : List ℕ) → (xs ≡ ys → ⊥) → bytes_eq xs ys ≡ false
other_name xs ys other = go (bytes_eq xs ys) refl
  where
    go : (b : Bool) → bytes_eq xs ys ≡ b → b ≡ false
    go true is = absurd (other ((bytes_decides xs ys).0 is))
    go false is = refl

-- ---- the last two underscores

no_underscore : (xs ys : List ℕ) → list_all is_digit (xs ++ 95 ∷ ys) ≡ true → ⊥
no_underscore [] ys all = false≢true all
no_underscore (x ∷ xs) ys all = no_underscore xs ys (right_of (is_digit x) _ all)

first_same : (x y : ℕ) (xs ys : List ℕ) → x ∷ xs ≡ y ∷ ys → x ≡ y
first_same x y xs ys e = same_value x y (ap (λ l. slice_get l 0) e)

-- what stands before them and behind them
cut_same : (xs ys ds es : List ℕ) → list_all is_digit ds ≡ true → list_all is_digit es ≡ true → xs ++ 95 ∷ 95 ∷ ds ≡ ys ++ 95 ∷ 95 ∷ es → (xs ≡ ys) × (ds ≡ es)
cut_same [] [] ds es one two e = (refl, ap (drop 2) e)
cut_same [] (y ∷ []) ds es one two e = absurd (no_underscore [] es (subst (λ l. list_all is_digit l ≡ true) (ap (drop 2) e) one))
cut_same [] (y ∷ z ∷ ys) ds es one two e = absurd (no_underscore ys (95 ∷ es) (subst (λ l. list_all is_digit l ≡ true) (ap (drop 2) e) one))
cut_same (x ∷ []) [] ds es one two e = absurd (no_underscore [] ds (subst (λ l. list_all is_digit l ≡ true) (ap (drop 2) (sym e)) two))
cut_same (x ∷ w ∷ xs) [] ds es one two e = absurd (no_underscore xs (95 ∷ ds) (subst (λ l. list_all is_digit l ≡ true) (ap (drop 2) (sym e)) two))
cut_same (x ∷ xs) (y ∷ ys) ds es one two e =
    let more = cut_same xs ys ds es one two (ap (drop 1) e) in
    (ap (λ z. z ∷ xs) (first_same x y (xs ++ 95 ∷ 95 ∷ ds) (ys ++ 95 ∷ 95 ∷ es) e) ∙ ap (λ l. y ∷ l) more.0, more.1)

pub same_behind : (p xs ys : List ℕ) → p ++ xs ≡ p ++ ys → xs ≡ ys
same_behind [] xs ys e = e
same_behind (b ∷ p) xs ys e = same_behind p xs ys (ap (drop 1) e)

-- the name of a parameter
abbrev pub parameter : List ℕ → ℕ → List ℕ
parameter prefix k = prefix ++ codes "__" ++ decimal k

parameter_parts : (p q : List ℕ) (k m : ℕ) → parameter p k ≡ parameter q m → (p ≡ q) × (decimal k ≡ decimal m)
parameter_parts p q k m e =
    cut_same p q (decimal k) (decimal m) (decimal_digits k) (decimal_digits m)
    (sym (append_assoc p (codes "__") (decimal k)) ∙ e ∙ append_assoc q (codes "__") (decimal m))

underscores_in : (xs ys : List ℕ) → has_double_underscore (xs ++ 95 ∷ 95 ∷ ys) ≡ true
underscores_in [] ys = refl
underscores_in (x ∷ []) ys = either_second _ _ refl
underscores_in (x ∷ y ∷ xs) ys = either_second _ _ (underscores_in (y ∷ xs) ys)

-- no declared name is one
pub parameter_underscores : (p : List ℕ) (k : ℕ) → has_double_underscore (parameter p k) ≡ true
parameter_underscores p k = ap has_double_underscore (append_assoc p (codes "__") (decimal k)) ∙ underscores_in p (decimal k)

-- ---- the names of one signal

abbrev names_from : ℕ → List ℕ → List TypeId → List (List ℕ)
names_from k prefix sorts = field_names (parameters_from k prefix sorts)

pub each_parameter : (P : List ℕ → Type 0) (prefix : List ℕ) → ((m : ℕ) → P (parameter prefix m)) → (k : ℕ) (sorts : List TypeId) → AllByRecursion P (names_from k prefix sorts)
each_parameter P prefix each k [] = tt
each_parameter P prefix each k (t ∷ sorts) = (each k, each_parameter P prefix each (k + 1) sorts)

later_new : (prefix : List ℕ) (k m : ℕ) (sorts : List TypeId) → k < m → m + length sorts ≤ 2 ^ 64 → is_in (parameter prefix k) (names_from m prefix sorts) ≡ false
later_new prefix k m [] less few = refl
later_new prefix k m (t ∷ sorts) less few =
    neither_true _ _
    (other_name (parameter prefix k) (parameter prefix m) (λ e. let same = decimal_injective k m (omega (arith, less, few)) (omega (arith, few)) (parameter_parts prefix prefix k m e).1 in omega (arith, less, same)))
    (later_new prefix k (m + 1) sorts (omega (arith, less)) (omega (arith, few)))

names_once : (prefix : List ℕ) (k : ℕ) (sorts : List TypeId) → k + length sorts ≤ 2 ^ 64 → has_twice (names_from k prefix sorts) ≡ false
names_once prefix k [] few = refl
names_once prefix k (t ∷ sorts) few =
    neither_true _ _ (later_new prefix k (k + 1) sorts (omega (arith)) (omega (arith, few))) (names_once prefix (k + 1) sorts (omega (arith, few)))

-- under another prefix
other_new : (p q : List ℕ) → (p ≡ q → ⊥) → (k m : ℕ) (sorts : List TypeId) → is_in (parameter p k) (names_from m q sorts) ≡ false
other_new p q other k m [] = refl
other_new p q other k m (t ∷ sorts) =
    neither_true _ _ (other_name (parameter p k) (parameter q m) (λ e. other (parameter_parts p q k m e).0)) (other_new p q other k (m + 1) sorts)

-- ---- names before others

pub joined_once : (xs ys : List (List ℕ)) → has_twice xs ≡ false → has_twice ys ≡ false → AllByRecursion (λ x. is_in x ys ≡ false) xs → has_twice (xs ++ ys) ≡ false
joined_once [] ys one two new = two
joined_once (x ∷ xs) ys one two new =
    neither_true _ _ (any_append (bytes_eq x) xs ys (or_left (is_in x xs) (has_twice xs) one) new.0)
    (joined_once xs ys (or_right (is_in x xs) (has_twice xs) one) two new.1)

-- ---- the names of all signals

module _ (model : Model) (has : Signal → Bool) (prefix : List ℕ) where
  abbrev prefixed : Signal → List ℕ
  prefixed s = prefix ++ name_of model s.name

  abbrev names_if : Signal → Bool → List (List ℕ)
  names_if s b = field_names (cond b (parameters_from 1 (prefixed s) s.sorts) [])

  abbrev all_names : List Signal → List (List ℕ)
  all_names signals = field_names (flat_map (fields_by has prefix model) signals)

  more_names : (s : Signal) (signals : List Signal) → all_names (s ∷ signals) ≡ names_if s (has s) ++ all_names signals
  more_names s signals = map-append (λ (f : Field). f.name) (fields_by has prefix model s) (flat_map (fields_by has prefix model) signals)

  -- a name that begins otherwise
  not_if : (name : List ℕ) → ((w : List ℕ) → bytes_eq name (prefix ++ w) ≡ false) → (s : Signal) (b : Bool) → is_in name (names_if s b) ≡ false
  not_if name other s true = not_from 1 s.sorts
    where
      not_from : (k : ℕ) (sorts : List TypeId) → is_in name (names_from k (prefix ++ name_of model s.name) sorts) ≡ false
      not_from k [] = refl
      not_from k (t ∷ sorts) =
          neither_true _ _
          (ap (bytes_eq name)
          (ap (λ ns. ns ++ decimal k) (append_assoc prefix (name_of model s.name) (codes "__")) ∙ append_assoc prefix (name_of model s.name ++ codes "__") (decimal k))
          ∙ other (name_of model s.name ++ codes "__" ++ decimal k))
          (not_from (k + 1) sorts)
  not_if name other s false = refl

  pub not_parameter : (name : List ℕ) → ((w : List ℕ) → bytes_eq name (prefix ++ w) ≡ false) → (signals : List Signal) → is_in name (all_names signals) ≡ false
  not_parameter name other [] = refl
  not_parameter name other (s ∷ signals) =
      ap (is_in name) (more_names s signals)
      ∙ any_append (bytes_eq name) (names_if s (has s)) (all_names signals) (not_if name other s (has s)) (not_parameter name other signals)

  -- a parameter of a signal that is none of these
  new_if : (s t : Signal) → (name_of model s.name ≡ name_of model t.name → ⊥) → (m : ℕ) (b : Bool) → is_in (parameter (prefixed s) m) (names_if t b) ≡ false
  new_if s t other m true = other_new (prefixed s) (prefixed t) (λ e. other (same_behind prefix (name_of model s.name) (name_of model t.name) e)) m 1 t.sorts
  new_if s t other m false = refl

  parameter_new : (s : Signal) (signals : List Signal) → AllByRecursion (λ (t : Signal). name_of model s.name ≡ name_of model t.name → ⊥) signals → (m : ℕ) → is_in (parameter (prefixed s) m) (all_names signals) ≡ false
  parameter_new s [] others m = refl
  parameter_new s (t ∷ signals) others m =
      ap (is_in (parameter (prefixed s) m)) (more_names t signals)
      ∙ any_append (bytes_eq (parameter (prefixed s) m)) (names_if t (has t)) (all_names signals) (new_if s t others.0 m (has t)) (parameter_new s signals others.1 m)

  once_if : (s : Signal) → HasFew s → (b : Bool) → has_twice (names_if s b) ≡ false
  once_if s few true = names_once (prefixed s) 1 s.sorts (omega (arith, few))
  once_if s few false = refl

  each_if : (P : List ℕ → Type 0) (s : Signal) → ((m : ℕ) → P (parameter (prefixed s) m)) → (b : Bool) → AllByRecursion P (names_if s b)
  each_if P s each true = each_parameter P (prefixed s) each 1 s.sorts
  each_if P s each false = tt

  -- each signal's name is another than those behind it
  abbrev pub NamesDiffer : List Signal → Type 0
  NamesDiffer [] = Unit {0}
  NamesDiffer (s ∷ signals) = AllByRecursion (λ (t : Signal). name_of model s.name ≡ name_of model t.name → ⊥) signals × NamesDiffer signals

  -- before others, none of which is a parameter's
  pub parameters_once : (others : List (List ℕ)) → has_twice others ≡ false → ((s : Signal) (m : ℕ) → is_in (parameter (prefixed s) m) others ≡ false)
      → (signals : List Signal) → NamesDiffer signals → AllByRecursion HasFew signals → has_twice (all_names signals ++ others) ≡ false
  parameters_once others once free [] differ few = once
  parameters_once others once free (s ∷ signals) differ few =
      ap (λ ns. has_twice (ns ++ others)) (more_names s signals)
      ∙ ap has_twice (append_assoc (names_if s (has s)) (all_names signals) others)
      ∙ joined_once (names_if s (has s)) (all_names signals ++ others) (once_if s few.0 (has s)) (parameters_once others once free signals differ.1 few.1)
      (each_if (λ x. is_in x (all_names signals ++ others) ≡ false) s
      (λ m. any_append (bytes_eq (parameter (prefixed s) m)) (all_names signals) others (parameter_new s signals differ.0 m) (free s m)) (has s))
