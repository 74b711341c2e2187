-- The names of the program differ, as those of the code do.
use Rattle.std.proofs.Common.{◌≡◌, ℕ, zero, suc, ◌+◌, List, [], ◌∷◌, ◌++◌, Bool, true, false, ◌||◌, ◌⊎◌, inl, inr, Some, map, slice_get, refl, sym, ap, ◌∙◌, arith}
use Rattle.std.specs.List.{list_all, list_any, flat_map}
use Rattle.std.specs.Str.{bytes_eq}
use Rattle.std.proofs.lemmas.Bool.{false≢true}
use Rattle.std.proofs.lemmas.Option.{none-some}
use Rattle.std.proofs.Common.{eq-eqb}
use Rattle.og_names.specs.declared.Word.{Word}
use Rattle.og_model.specs.declared.Model.{Model}
use Rattle.og_ir.specs.declared.Ir.{Ir}
use Rattle.og_ir.specs.declared.FlatFn.{FlatFn}
use Rattle.og_ir.specs.declared.Instr.{Instr}
use Rattle.og_ir.specs.declared.Instr.TheVariants as instr
use Rattle.og_csubset.specs.Kinds.{struct_names, is_in, event_names, function_names}
use Rattle.og_csubset.specs.Loading.{has_twice, all_names, breaks_K3}
use Rattle.og_csubset.specs.FlatRun.{slot_names, flat_function_names}
use Rattle.og_csubset.specs.Fair.{names_of, shows_event, is_shown, Fair}
use Rattle.og_cemit.specs.Marks.{is_marked}
use Rattle.og_cemit.specs.Emitted.{shows, used, event_if, events_from, program_of}
use Rattle.og_cemit.specs.Structs.{AreFew}
use Rattle.og_cemit.proofs.StructNames.{structs_apart, structs_free, members_apart}
use Rattle.og_cemit.proofs.Names.{same_bytes, equal_bytes, is_in_at, is_in-append, Differ}
use Rattle.og_cemit.proofs.Marking.{Among, used_shown}
use Rattle.og_cemit.proofs.Parts.{global_names_are, function_names_are, flat_event_names, functions_apart, slots_apart}
use Rattle.og_cemit.proofs.Declared.{events_sub}
use Rattle.og_cemit.proofs.Tests.{false_by, all_append}
use Rattle.og_names.proofs.Truths.{both_first as left_of, both_second as right_of, both_true as both, either_first as or_first, either_second as or_second, either_true as either, neither_first as or_left, neither_second as or_right, neither_true as neither}

-- ---- lists

pub all_each : {A B : Type 0} (q : B → Bool) (f : A → List B) (xs : List A) → list_all (λ x. list_all q (f x)) xs ≡ true
    → list_all q (flat_map f xs) ≡ true
all_each q f [] h = refl
all_each q f (x ∷ xs) h = all_append q (f x) (flat_map f xs) (left_of (list_all q (f x)) _ h) (all_each q f xs (right_of (list_all q (f x)) _ h))

-- ---- lists of names that differ

pub differ_join : (xs ys : List (List ℕ)) → Differ xs ys → has_twice (xs ++ ys) ≡ false
differ_join [] ys d = d.right
differ_join (x ∷ xs) ys d =
    neither (is_in x (xs ++ ys)) (has_twice (xs ++ ys))
    (is_in-append x xs ys ∙ neither (is_in x xs) (is_in x ys) (or_left (is_in x xs) (has_twice xs) d.left) (d.apart x (or_first (bytes_eq x x) (is_in x xs) (same_bytes x))))
    (differ_join xs ys (record {
      left = or_right (is_in x xs) (has_twice xs) d.left;
      right = d.right;
      apart = λ name h. d.apart name (or_second (bytes_eq name x) (is_in name xs) h);
    }))

abbrev bytes_of : List Word → List (List ℕ)
bytes_of words = map (λ (e : Word). e.bytes) words

not_in_sub : (marks : List Bool) (k : ℕ) (names : List Word) (name : List ℕ) → is_in name (bytes_of names) ≡ false
    → is_in name (bytes_of (events_from marks k names)) ≡ false
not_in_sub marks k names name h = false_by _ (λ e. false≢true (sym h ∙ events_sub marks k names name e))

events_twice : (marks : List Bool) (k : ℕ) (names : List Word) → has_twice (bytes_of names) ≡ false
    → has_twice (bytes_of (events_from marks k names)) ≡ false
events_twice marks k [] h = h
events_twice marks k (w ∷ names) h =
    by_mark (is_marked marks k) (not_in_sub marks (k + 1) names w.bytes (or_left (is_in w.bytes (bytes_of names)) (has_twice (bytes_of names)) h))
    (events_twice marks (k + 1) names (or_right (is_in w.bytes (bytes_of names)) (has_twice (bytes_of names)) h))
  where
    by_mark : (m : Bool) → is_in w.bytes (bytes_of (events_from marks (k + 1) names)) ≡ false
        → has_twice (bytes_of (events_from marks (k + 1) names)) ≡ false
        → has_twice (bytes_of (event_if m w ++ events_from marks (k + 1) names)) ≡ false
    by_mark false out more = more
    by_mark true out more = neither _ _ out more

module _ (ir : Ir) (model : Model) (fair : Fair ir model) where
  -- the events of the program are among those of the code
  pub event_is_flat : (name : List ℕ) → is_in name (event_names (program_of ir model)) ≡ true → is_in name (flat_event_names ir) ≡ true
  event_is_flat name h = events_sub (used ir) 0 ir.events name h

  front_is_flat : (name : List ℕ) → is_in name (slot_names ir ++ event_names (program_of ir model)) ≡ true
      → is_in name (slot_names ir ++ flat_event_names ir) ≡ true
  front_is_flat name h = is_in-append name (slot_names ir) (flat_event_names ir) ∙ by_side (either (is_in name (slot_names ir)) (is_in name (event_names (program_of ir model))) (sym (is_in-append name (slot_names ir) (event_names (program_of ir model))) ∙ h))
    where
      by_side : (is_in name (slot_names ir) ≡ true) ⊎ (is_in name (event_names (program_of ir model)) ≡ true)
          → (is_in name (slot_names ir) || is_in name (flat_event_names ir)) ≡ true
      by_side (inl e) = or_first (is_in name (slot_names ir)) (is_in name (flat_event_names ir)) e
      by_side (inr e) = or_second (is_in name (slot_names ir)) (is_in name (flat_event_names ir)) (event_is_flat name e)

  pub all_names_are : all_names (program_of ir model) ≡ ((struct_names (program_of ir model) ++ slot_names ir) ++ event_names (program_of ir model)) ++ flat_function_names ir
  all_names_are =
      ap (λ names. ((struct_names (program_of ir model) ++ names) ++ event_names (program_of ir model)) ++ function_names (program_of ir model)) (global_names_are ir model)
      ∙ ap (λ names. ((struct_names (program_of ir model) ++ slot_names ir) ++ event_names (program_of ir model)) ++ names) (function_names_are ir model)

  -- what has no name of the code, and none of a struct, has none of the program
  pub free_name : (name : List ℕ) → is_in name (names_of ir) ≡ false → is_in name (struct_names (program_of ir model)) ≡ false
      → is_in name (all_names (program_of ir model)) ≡ false
  free_name name h k =
      ap (is_in name) all_names_are ∙ is_in-append name ((struct_names (program_of ir model) ++ slot_names ir) ++ event_names (program_of ir model)) (flat_function_names ir)
      ∙ neither _ _
      (is_in-append name (struct_names (program_of ir model) ++ slot_names ir) (event_names (program_of ir model)) ∙ neither _ _
      (is_in-append name (struct_names (program_of ir model)) (slot_names ir) ∙ neither _ _ k (or_left _ _ front))
      (false_by _ (λ e. false≢true (sym (or_right (is_in name (slot_names ir)) _ front) ∙ event_is_flat name e))))
      (or_right (is_in name (slot_names ir ++ flat_event_names ir)) (is_in name (flat_function_names ir)) split)
    where
      split : (is_in name (slot_names ir ++ flat_event_names ir) || is_in name (flat_function_names ir)) ≡ false
      split = sym (is_in-append name (slot_names ir ++ flat_event_names ir) (flat_function_names ir)) ∙ h

      front : (is_in name (slot_names ir) || is_in name (flat_event_names ir)) ≡ false
      front = sym (is_in-append name (slot_names ir) (flat_event_names ir)) ∙ or_left (is_in name (slot_names ir ++ flat_event_names ir)) (is_in name (flat_function_names ir)) split

  pub keeps_K3 : AreFew model.types → breaks_K3 (program_of ir model) ≡ false
  keeps_K3 few = neither (has_twice (all_names (program_of ir model))) _ (ap has_twice all_names_are ∙ differ_join ((struct_names (program_of ir model) ++ slot_names ir) ++ event_names (program_of ir model)) (flat_function_names ir) outer) (members_apart ir model few)
    where
      code_free : (name : List ℕ) → is_in name (struct_names (program_of ir model)) ≡ true → is_in name (names_of ir) ≡ false
      code_free name h = structs_free ir model name h

      flat_front : (name : List ℕ) → is_in name (names_of ir) ≡ false → is_in name (slot_names ir ++ flat_event_names ir) ≡ false
      flat_front name h = or_left (is_in name (slot_names ir ++ flat_event_names ir)) (is_in name (flat_function_names ir)) (sym (is_in-append name (slot_names ir ++ flat_event_names ir) (flat_function_names ir)) ∙ h)

      flat_functions : (name : List ℕ) → is_in name (names_of ir) ≡ false → is_in name (flat_function_names ir) ≡ false
      flat_functions name h = or_right (is_in name (slot_names ir ++ flat_event_names ir)) (is_in name (flat_function_names ir)) (sym (is_in-append name (slot_names ir ++ flat_event_names ir) (flat_function_names ir)) ∙ h)

      flat_slots : (name : List ℕ) → is_in name (names_of ir) ≡ false → (is_in name (slot_names ir) || is_in name (flat_event_names ir)) ≡ false
      flat_slots name h = sym (is_in-append name (slot_names ir) (flat_event_names ir)) ∙ flat_front name h

      first : Differ (struct_names (program_of ir model)) (slot_names ir)
      first = record {
        left = structs_apart ir model few;
        right = (slots_apart ir model fair).left;
        apart = λ name h. or_left (is_in name (slot_names ir)) (is_in name (flat_event_names ir)) (flat_slots name (code_free name h));
      }

      inner : Differ (struct_names (program_of ir model) ++ slot_names ir) (event_names (program_of ir model))
      inner = record {
        left = differ_join (struct_names (program_of ir model)) (slot_names ir) first;
        right = events_twice (used ir) 0 ir.events (slots_apart ir model fair).right;
        apart = λ name h. by_side name (either (is_in name (struct_names (program_of ir model))) (is_in name (slot_names ir)) (sym (is_in-append name (struct_names (program_of ir model)) (slot_names ir)) ∙ h));
      }
        where
          by_side : (name : List ℕ) → (is_in name (struct_names (program_of ir model)) ≡ true) ⊎ (is_in name (slot_names ir) ≡ true)
              → is_in name (event_names (program_of ir model)) ≡ false
          by_side name (inl e) = not_in_sub (used ir) 0 ir.events name (or_right (is_in name (slot_names ir)) (is_in name (flat_event_names ir)) (flat_slots name (code_free name e)))
          by_side name (inr e) = not_in_sub (used ir) 0 ir.events name ((slots_apart ir model fair).apart name e)

      outer : Differ ((struct_names (program_of ir model) ++ slot_names ir) ++ event_names (program_of ir model)) (flat_function_names ir)
      outer = record {
        left = differ_join (struct_names (program_of ir model) ++ slot_names ir) (event_names (program_of ir model)) inner;
        right = (functions_apart ir model fair).right;
        apart = λ name h. by_side name (either (is_in name (struct_names (program_of ir model) ++ slot_names ir)) (is_in name (event_names (program_of ir model))) (sym (is_in-append name (struct_names (program_of ir model) ++ slot_names ir) (event_names (program_of ir model))) ∙ h));
      }
        where
          by_slot : (name : List ℕ) → (is_in name (struct_names (program_of ir model)) ≡ true) ⊎ (is_in name (slot_names ir) ≡ true) → is_in name (flat_function_names ir) ≡ false
          by_slot name (inl e) = flat_functions name (code_free name e)
          by_slot name (inr e) = (functions_apart ir model fair).apart name (is_in-append name (slot_names ir) (flat_event_names ir) ∙ or_first (is_in name (slot_names ir)) (is_in name (flat_event_names ir)) e)

          by_side : (name : List ℕ) → (is_in name (struct_names (program_of ir model) ++ slot_names ir) ≡ true) ⊎ (is_in name (event_names (program_of ir model)) ≡ true) → is_in name (flat_function_names ir) ≡ false
          by_side name (inl e) = by_slot name (either (is_in name (struct_names (program_of ir model))) (is_in name (slot_names ir)) (sym (is_in-append name (struct_names (program_of ir model)) (slot_names ir)) ∙ e))
          by_side name (inr e) = (functions_apart ir model fair).apart name (is_in-append name (slot_names ir) (flat_event_names ir) ∙ or_second (is_in name (slot_names ir)) (is_in name (flat_event_names ir)) (event_is_flat name e))

-- ---- events that are declared

-- an event that is declared is marked
declared_marked : (marks : List Bool) (from : ℕ) (names : List Word) (k : ℕ) (w : Word) → has_twice (bytes_of names) ≡ false
    → slice_get names k ≡ Some w → is_in w.bytes (bytes_of (events_from marks from names)) ≡ true → is_marked marks (from + k) ≡ true
declared_marked marks from [] k w h e inside = absurd (none-some w e)
declared_marked marks from (x ∷ names) zero w h e inside =
    ap (is_marked marks) (sym here) ∙ by_mark (is_marked marks from) inside
  where
    here : from ≡ from + 0
    here = omega arith

    same : x ≡ w
    same = cc (e)

    by_mark : (m : Bool) → is_in w.bytes (bytes_of (event_if m x ++ events_from marks (from + 1) names)) ≡ true → m ≡ true
    by_mark true i = refl
    by_mark false i =
        absurd (false≢true (sym (or_left (is_in x.bytes (bytes_of names)) (has_twice (bytes_of names)) h)
        ∙ ap (λ (y : Word). is_in y.bytes (bytes_of names)) same ∙ events_sub marks (from + 1) names w.bytes i))
declared_marked marks from (x ∷ names) (suc k) w h e inside =
    ap (is_marked marks) (sym here)
    ∙ declared_marked marks (from + 1) names k w (or_right (is_in x.bytes (bytes_of names)) (has_twice (bytes_of names)) h) e (by_mark (is_marked marks from) inside)
  where
    here : from + 1 + k ≡ from + suc k
    here = omega arith

    later : is_in w.bytes (bytes_of names) ≡ true
    later = is_in_at (bytes_of names) k w.bytes (bytes_at names k w e)
      where
        bytes_at : (list : List Word) (j : ℕ) (v : Word) → slice_get list j ≡ Some v → slice_get (bytes_of list) j ≡ Some v.bytes
        bytes_at [] j v e' = absurd (none-some v e')
        bytes_at (y ∷ list) zero v e' = let same : y ≡ v = cc (e') in ap (λ (z : Word). Some z.bytes) same
        bytes_at (y ∷ list) (suc j) v e' = bytes_at list j v e'

    other : bytes_eq w.bytes x.bytes ≡ false
    other = false_by _ (λ i. false≢true (sym (or_left (is_in x.bytes (bytes_of names)) (has_twice (bytes_of names)) h) ∙ ap (λ n. is_in n (bytes_of names)) (sym (equal_bytes w.bytes x.bytes i)) ∙ later))

    by_mark : (m : Bool) → is_in w.bytes (bytes_of (event_if m x ++ events_from marks (from + 1) names)) ≡ true
        → is_in w.bytes (bytes_of (events_from marks (from + 1) names)) ≡ true
    by_mark false i = i
    by_mark true i = sym (ap (λ b. b || is_in w.bytes (bytes_of (events_from marks (from + 1) names))) other) ∙ i

among_split : (k : ℕ) (xs ys : List ℕ) → Among k (xs ++ ys) → Among k xs ⊎ Among k ys
among_split k [] ys h = inr h
among_split k (x ∷ xs) ys (inl e) = inl (inl e)
among_split k (x ∷ xs) ys (inr h) = step (among_split k xs ys h)
  where
    step : Among k xs ⊎ Among k ys → Among k (x ∷ xs) ⊎ Among k ys
    step (inl a) = inl (inr a)
    step (inr a) = inr a

shown_by : (k : ℕ) (i : Instr) → Among k (shows i) → shows_event k i ≡ true
shown_by k (instr.Emit e) (inl same) = eq-eqb e k same
shown_by k (instr.Emit e) (inr h) = absurd h
shown_by k (instr.Set slot e) h = absurd h
shown_by k (instr.Copy to from) h = absurd h
shown_by k (instr.Branch test to) h = absurd h
shown_by k (instr.Goto to) h = absurd h
shown_by k (instr.Table e cases otherwise) h = absurd h
shown_by k (instr.Call f) h = absurd h
shown_by k instr.Back h = absurd h

any_among : {A : Type 0} (k : ℕ) (f : A → List ℕ) (p : A → Bool) → ((x : A) → Among k (f x) → p x ≡ true) → (xs : List A)
    → Among k (flat_map f xs) → list_any p xs ≡ true
any_among k f p h [] a = absurd a
any_among k f p h (x ∷ xs) a = step (among_split k (f x) (flat_map f xs) a) (any_among k f p h xs)
  where
    step : Among k (f x) ⊎ Among k (flat_map f xs) → (Among k (flat_map f xs) → list_any p xs ≡ true) → (p x || list_any p xs) ≡ true
    step (inl b) more = or_first (p x) (list_any p xs) (h x b)
    step (inr b) more = or_second (p x) (list_any p xs) (more b)

-- an event that is declared is shown by something
pub declared_shown : (ir : Ir) (model : Model) → Fair ir model → (k : ℕ) (w : Word) → slice_get ir.events k ≡ Some w
    → is_in w.bytes (event_names (program_of ir model)) ≡ true → is_shown ir k ≡ true
declared_shown ir model fair k w e inside =
    any_among k (λ (g : FlatFn). flat_map shows g.code) (λ (g : FlatFn). list_any (shows_event k) g.code)
    (λ g a. any_among k shows (shows_event k) (shown_by k) g.code a) ir.functions
    (used_shown ir k (ap (is_marked (used ir)) (sym zero_plus) ∙ declared_marked (used ir) 0 ir.events k w (slots_apart ir model fair).right e inside))
  where
    zero_plus : 0 + k ≡ k
    zero_plus = omega arith
