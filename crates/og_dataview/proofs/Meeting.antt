-- Loops over names and numbers that were met before: what the sets keep, and which violations are noted.
use Rattle.std.proofs.Common.{◌≡◌, ℕ, ◌+◌, ◌≤◌, ◌<◌, Bool, true, false, not, ◌||◌, List, [], ◌∷◌, ◌++◌, length, get_or, map, ℤ, Option, Some, None, is_some, refl, sym, ap, ◌∙◌, if◌then◌else◌, ◌⊎◌, inl, inr}
use Rattle.std.specs.List.{list_any}
use Rattle.std.specs.Str.{bytes_eq}
use Rattle.std.specs.Ordering.{int_eq}
use Rattle.std.proofs.lemmas.Bool.Decides.{Decides-int_eq}
use Rattle.og_base.specs.declared.Violation.{Violation}
use Rattle.og_base.specs.declared.Rule.TheVariants.{N2, N7}
use Rattle.og_base.specs.Order.{first_from}
use Rattle.og_names.specs.Folding.{place_of, with_name}
use Rattle.og_names.proofs.Loops.{Left, left_first, left_more, left_all}
use Rattle.og_asn1.specs.declared.syntax.Name.{Name}
use Rattle.og_flat.specs.declared.flat.Enumerator.{Enumerator}
use Rattle.og_dataview.specs.declared.repeats.Met.{Met}
use Rattle.og_dataview.specs.Scope.{key}
use Rattle.og_dataview.specs.Violations.{violated, violated_if, repeated, repeated_behind, repeated_names, given, given_again, given_behind, repeated_numbers}
use Rattle.og_dataview.specs.Met.{has_word, IsMet, AreMet}
use Rattle.og_dataview.proofs.Indexing.{at_end, place_more}
use Rattle.og_names.proofs.Places.{placed, with_known, with_new}
use Rattle.std.specs.Cmp.Lexicographic.{bytes_decides}
use Rattle.og_dataview.proofs.Noting.{first_from_both}

-- ---- tests of lists

pub or_nothing : (b : Bool) → (b || false) ≡ b
or_nothing true = refl
or_nothing false = refl

or_assoc : (a b c : Bool) → (a || (b || c)) ≡ ((a || b) || c)
or_assoc true b c = refl
or_assoc false b c = refl

pub any_end : {X : Type 0} (p : X → Bool) (xs : List X) (x : X) → list_any p (xs ++ x ∷ []) ≡ (list_any p xs || p x)
any_end p [] x = or_nothing (p x)
any_end p (y ∷ ys) x = ap (λ b. p y || b) (any_end p ys x) ∙ or_assoc (p y) (list_any p ys) (p x)

-- ---- names

-- a known name, or one more
pub some_more : (names : List (List ℕ)) (k x : List ℕ) → is_some (place_of (with_name names k) x) ≡ (is_some (place_of names x) || bytes_eq x k)
some_more names k x = by (placed names k)
  where
    end : (o : Option ℕ) (b : Bool) (n : ℕ) → is_some (at_end o b n) ≡ (is_some o || b)
    end (Some m) b n = refl
    end None true n = refl
    end None false n = refl

    known : (b : Bool) (j : ℕ) → place_of names k ≡ Some j → bytes_eq x k ≡ b → is_some (place_of names x) ≡ (is_some (place_of names x) || b)
    known false j at e = sym (or_nothing (is_some (place_of names x)))
    known true j at e =
        let there : is_some (place_of names x) ≡ true = ap (λ y. is_some (place_of names y)) ((bytes_decides x k).0 e) ∙ ap is_some at in
        rw there refl

    by : ((j : ℕ) × (place_of names k ≡ Some j)) ⊎ (place_of names k ≡ None) → is_some (place_of (with_name names k) x) ≡ (is_some (place_of names x) || bytes_eq x k)
    by (inl there) = ap (λ ns. is_some (place_of ns x)) (with_known names k there.0 there.1) ∙ known (bytes_eq x k) there.0 there.1 refl
    by (inr none) = ap (λ ns. is_some (place_of ns x)) (with_new names k none) ∙ ap is_some (place_more names k x) ∙ end (place_of names x) (bytes_eq x k) (length names)

pub met_none : (met : Met) → met.spelt ≡ [] → met.folded ≡ [] → IsMet [] met
met_none met s f = record { spelt = λ bytes. ap (λ words. has_word words bytes) s; folded = λ bytes. ap (λ names. is_some (place_of names bytes)) f }

pub met_more : (earlier : List Name) (name : Name) (old new : Met)
    → ((bytes : List ℕ) → has_word new.spelt bytes ≡ (has_word old.spelt bytes || bytes_eq bytes name.word.bytes))
    → new.folded ≡ with_name old.folded (key name) → IsMet earlier old → IsMet (earlier ++ name ∷ []) new
met_more earlier name old new spelt folded met = record {
  spelt = λ bytes. spelt bytes ∙ ap (λ b. b || bytes_eq bytes name.word.bytes) (met.spelt bytes) ∙ sym (any_end (λ (n : Name). bytes_eq bytes n.word.bytes) earlier name);
  folded = λ bytes. ap (λ names. is_some (place_of names bytes)) folded ∙ some_more old.folded (key name) bytes ∙ ap (λ b. b || bytes_eq bytes (key name)) (met.folded bytes)
      ∙ sym (any_end (λ (n : Name). bytes_eq bytes (key n)) earlier name);
}

-- what is noted at a name
pub repeated_is : (earlier : List Name) (name : Name) (met : Met) → IsMet earlier met
    → repeated earlier name ≡ (if has_word met.spelt name.word.bytes then violated N2 name ∷ [] else violated_if (is_some (place_of met.folded (key name))) N7 name)
repeated_is earlier name met is = λ i. if sym (is.spelt name.word.bytes) i then violated N2 name ∷ [] else violated_if (sym (is.folded (key name)) i) N7 name

-- a spelling that is no new one, and one that is new
pub noted_old : (earlier : List Name) (name : Name) (met : Met) → IsMet earlier met → not (has_word met.spelt name.word.bytes) ≡ false → repeated earlier name ≡ violated_if true N2 name
noted_old earlier name met is old = repeated_is earlier name met is ∙ by (has_word met.spelt name.word.bytes) old
  where
    by : (b : Bool) → not b ≡ false → (if b then violated N2 name ∷ [] else violated_if (is_some (place_of met.folded (key name))) N7 name) ≡ violated_if true N2 name
    by true e = refl
    by false e = cc

pub noted_new : (earlier : List Name) (name : Name) (met : Met) → IsMet earlier met → not (has_word met.spelt name.word.bytes) ≡ true
    → repeated earlier name ≡ violated_if (is_some (place_of met.folded (key name))) N7 name
noted_new earlier name met is new = repeated_is earlier name met is ∙ by (has_word met.spelt name.word.bytes) new
  where
    by : (b : Bool) → not b ≡ true → (if b then violated N2 name ∷ [] else violated_if (is_some (place_of met.folded (key name))) N7 name) ≡ violated_if (is_some (place_of met.folded (key name))) N7 name
    by true e = cc
    by false e = refl

-- a loop over what has names
pub record Meeting {X : Type 0} (name_of : X → Name) (xs : List X) (i : ℕ) (met : Met) (now first : Option Violation) : Type 0 where
  pub earlier : List Name
  pub is : IsMet earlier met
  pub left : Left (λ ys. first_from now (repeated_behind earlier (map name_of ys))) xs i (first_from first (repeated_names (map name_of xs)))

pub meeting_first : {X : Type 0} (name_of : X → Name) (xs : List X) (met : Met) (first : Option Violation) → met.spelt ≡ [] → met.folded ≡ [] → Meeting name_of xs 0 met first first
meeting_first name_of xs met first s f = record { earlier = []; is = met_none met s f; left = left_first (λ ys. first_from first (repeated_behind [] (map name_of ys))) xs }

pub meeting_more : {X : Type 0} (name_of : X → Name) (xs : List X) (i : ℕ) (x : X) (name : Name) (old new : Met) (now next first : Option Violation) → i < length xs → x ≡ get_or xs i x → name ≡ name_of x
    → ((earlier : List Name) → IsMet earlier old → next ≡ first_from now (repeated earlier name)) → ((earlier : List Name) → IsMet earlier old → IsMet (earlier ++ name ∷ []) new)
    → Meeting name_of xs i old now first → Meeting name_of xs (i + 1) new next first
meeting_more name_of xs i x name old new now next first lt at named noted met before = record {
  earlier = before.earlier ++ name ∷ [];
  is = met before.earlier before.is;
  left = left_more (λ ys. first_from now (repeated_behind before.earlier (map name_of ys))) (λ ys. first_from next (repeated_behind (before.earlier ++ name ∷ []) (map name_of ys))) xs i x _ lt at
      (λ ys. ap (λ n. first_from now (repeated before.earlier n ++ repeated_behind (before.earlier ++ n ∷ []) (map name_of ys))) (sym named)
      ∙ first_from_both now (repeated before.earlier name) (repeated_behind (before.earlier ++ name ∷ []) (map name_of ys))
      ∙ ap (λ v. first_from v (repeated_behind (before.earlier ++ name ∷ []) (map name_of ys))) (sym (noted before.earlier before.is))) before.left;
}

pub meeting_all : {X : Type 0} (name_of : X → Name) (xs : List X) (i : ℕ) (met : Met) (now first : Option Violation) → length xs ≤ i → Meeting name_of xs i met now first
    → now ≡ first_from first (repeated_names (map name_of xs))
meeting_all name_of xs i met now first le meeting = left_all _ xs i _ le meeting.left

pub ruleset meetings = (meeting_first, meeting_more, meeting_all)

-- ---- numbers

pub are_met_none : AreMet [] []
are_met_none = record { has = λ z. refl }

-- one more, which is put in where it is not there
pub are_met_more : (earlier keys : List ℤ) (z : ℤ) → AreMet earlier keys → AreMet (earlier ++ z ∷ []) (if list_any (int_eq z) keys then keys else keys ++ z ∷ [])
are_met_more earlier keys z met = record { has = λ y. by (list_any (int_eq z) keys) refl y ∙ ap (λ b. b || int_eq y z) (met.has y) ∙ sym (any_end (int_eq y) earlier z) }
  where
    by : (b : Bool) → list_any (int_eq z) keys ≡ b → (y : ℤ) → list_any (int_eq y) (if b then keys else keys ++ z ∷ []) ≡ (list_any (int_eq y) keys || int_eq y z)
    by false e y = any_end (int_eq y) keys z
    by true e y = there (int_eq y z) refl
      where
        there : (c : Bool) → int_eq y z ≡ c → list_any (int_eq y) keys ≡ (list_any (int_eq y) keys || c)
        there false f = sym (or_nothing (list_any (int_eq y) keys))
        there true f =
            let yes : list_any (int_eq y) keys ≡ true = ap (λ w. list_any (int_eq w) keys) ((Decides-int_eq y z).0 f) ∙ e in
            rw yes refl

pub record Counting (items : List Enumerator) (i : ℕ) (keys : List ℤ) (now first : Option Violation) : Type 0 where
  pub earlier : List ℤ
  pub is : AreMet earlier keys
  pub left : Left (λ ys. first_from now (given_behind earlier ys)) items i (first_from first (repeated_numbers items))

pub counting_first : (items : List Enumerator) (first : Option Violation) → Counting items 0 [] first first
counting_first items first = record { earlier = []; is = are_met_none; left = left_first (λ ys. first_from first (given_behind [] ys)) items }

pub counting_more : (items : List Enumerator) (i : ℕ) (e : Enumerator) (old new : List ℤ) (now next first : Option Violation) → i < length items → e ≡ get_or items i e
    → ((earlier : List ℤ) → AreMet earlier old → next ≡ first_from now (given_again earlier e)) → ((earlier : List ℤ) → AreMet earlier old → AreMet (earlier ++ given e) new)
    → Counting items i old now first → Counting items (i + 1) new next first
counting_more items i e old new now next first lt at noted met before = record {
  earlier = before.earlier ++ given e;
  is = met before.earlier before.is;
  left = left_more (λ ys. first_from now (given_behind before.earlier ys)) (λ ys. first_from next (given_behind (before.earlier ++ given e) ys)) items i e _ lt at
      (λ ys. first_from_both now (given_again before.earlier e) (given_behind (before.earlier ++ given e) ys)
      ∙ ap (λ v. first_from v (given_behind (before.earlier ++ given e) ys)) (sym (noted before.earlier before.is))) before.left;
}

pub counting_all : (items : List Enumerator) (i : ℕ) (keys : List ℤ) (now first : Option Violation) → length items ≤ i → Counting items i keys now first → now ≡ first_from first (repeated_numbers items)
counting_all items i keys now first le counting = left_all _ items i _ le counting.left

pub ruleset countings = (counting_first, counting_more, counting_all)
