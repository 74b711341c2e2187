-- A text that has the form of a value is read as the value that the form means.
use Rattle.std.proofs.Common.{◌≡◌, ℕ, zero, suc, ◌≤◌, max, Bool, true, false, cond, List, [], ◌∷◌, ◌++◌, length, slice_get, Option, Some, None, option_map, refl, sym, ap, ◌∙◌, arith, append_assoc}
use Rattle.std.proofs.lemmas.Bool.{false≢true}
use Rattle.og_types.specs.declared.TypeId.{TypeId}
use Rattle.og_types.specs.declared.Part.{Part}
use Rattle.og_types.specs.declared.Sort.{Sort}
use Rattle.og_types.specs.declared.Sort.TheVariants as Sorts
use Rattle.og_types.specs.declared.Value.{Value}
use Rattle.og_types.specs.declared.Value as Values
use Rattle.og_value.specs.Bytes.{is_letter, is_digit, begins, truth_of}
use Rattle.og_value.specs.Forms.{Form, Number, Truth, Name, Alternative, Items, Parts, Forms, item, Fields, part, IsName, AreBlanks, AreApart, Spells, is_number, is_negative, is_truth, is_name, is_alternative, are_none, are_items, are_parts, ItemsGoOn, no_more_items, further_item, PartsGoOn, no_more_parts, further_part, nesting, nesting_of_items, nesting_of_parts}
use Rattle.og_value.specs.Reads.{◌>>=◌, Names, Chosen, integer, as_number, as_name, alternative_of, as_items, is_called, value_of, values_of, fields_of}
use Rattle.og_value.specs.Scans.{Found, Reader, and_then, kept, past_blanks, mark_here, mark_at, digits_at, minus_digits_at, word_at, name_at, comma_by, each_by, component_by, components_by, sequence_by, items_by, entries_by, inside_by, chosen_by, named_by, worded_by, sorted_by, value_by, value_at, inner_value}
use Rattle.og_value.proofs.Steps.{value_is}
use Rattle.og_value.proofs.Fronts.{EndsWord, digits_exactly, ends_digits, word_exactly, name_exactly, no_digits, no_word, no_minus, blanks_off, begins_front}
use Rattle.og_value.proofs.Spelt.{starts, closes, spelt_starts, past_to, spelt_no_mark, truth_letter, truth_all, Follows, follows_close, closes_behind, items_close, parts_close}
use Rattle.og_value.proofs.Exact.{stops, stopping, close_stops, ends_before, group4, brace_behind, comma_behind, no_comma, comma_none, comma_found, no_name, truth_no_name, no_word_at_brace, no_word_at_minus, no_digits_at_minus, ends_apart, group_none, group_items, group_parts, deeper, front_of, tail_le}

-- ---- what there is

-- a value that is kept, changed
kept_map : {A B : Type 0} (g : A → B) (o : Option A) (r : List ℕ) → and_then (kept o r) (λ v rest. Some (g v, rest)) ≡ kept (option_map g o) r
kept_map g None r = refl
kept_map g (Some x) r = refl

-- where nothing follows, nothing is
nothing_on : {A B : Type 0} (f : A → Option B) → ((x : A) → f x ≡ None) → (o : Option A) → (o >>= f) ≡ None
nothing_on f h None = refl
nothing_on f h (Some x) = h x

no_sort : (types : List Sort) (names : Names) (f : Form) → value_of types names None f ≡ None
no_sort types names (Number negative ds) = refl
no_sort types names (Truth b) = refl
no_sort types names (Name w) = refl
no_sort types names (Alternative w f) = refl
no_sort types names (Items fs) = nothing_on (as_items None) (λ vs. refl) (values_of types names None fs)
no_sort types names (Parts fs) = refl

-- ---- one level

abbrev Inner : Type 0
Inner = Option (TypeId → Reader Value)

by_digits : (read : Inner) (names : Names) (sort : Sort) (bytes ds r : List ℕ) → digits_at bytes ≡ Some (ds, r)
    → sorted_by read names sort bytes ≡ kept (as_number (Some sort) (integer false ds)) r
unfolding sorted_by
by_digits read names sort bytes ds r e = rw e refl

by_minus : (read : Inner) (names : Names) (sort : Sort) (bytes ds r : List ℕ) → digits_at bytes ≡ None → minus_digits_at bytes ≡ Some (ds, r)
    → sorted_by read names sort bytes ≡ kept (as_number (Some sort) (integer true ds)) r
unfolding sorted_by
by_minus read names sort bytes ds r none e = rw (none, e) refl

by_word : (read : Inner) (names : Names) (sort : Sort) (bytes w r : List ℕ) → begins is_letter bytes ≡ true → word_at bytes ≡ Some (w, r)
    → sorted_by read names sort bytes ≡ worded_by read names sort w (truth_of w) r
unfolding sorted_by
by_word read names sort bytes w r letter e = rw (no_digits bytes letter, no_minus bytes letter, e) refl

by_brace : (read : TypeId → Reader Value) (names : Names) (sort : Sort) (more : List ℕ) → sorted_by (Some read) names sort (123 ∷ more) ≡ inside_by read names sort (past_blanks more)
unfolding sorted_by digits_at word_at
by_brace read names sort more = refl

by_name : (read : Inner) (names : Names) (sort : Sort) (w r : List ℕ) → truth_of w ≡ None → mark_at 58 r ≡ None
    → worded_by read names sort w (truth_of w) r ≡ kept (as_name names (Some sort) w) r
unfolding named_by
by_name read names sort w r none colon = rw (none, colon) refl

by_colon : (read : TypeId → Reader Value) (names : Names) (sort : Sort) (w r more : List ℕ) → truth_of w ≡ None → mark_at 58 r ≡ Some (tt, more)
    → worded_by (Some read) names sort w (truth_of w) r ≡ chosen_by (Some read) (alternative_of names (Some sort) w) (past_blanks more)
unfolding named_by
by_colon read names sort w r more none colon = rw (none, colon) refl

-- ---- nothing begins so

none_at : (read : Inner) (names : Names) (sort : Sort) (bs : List ℕ) (b : ℕ) → stops b ≡ true → sorted_by read names sort (b ∷ bs) ≡ None
unfolding sorted_by digits_at word_at
none_at None names sort bs b h = stopping (λ c. sorted_by None names sort (c ∷ bs) ≡ None) refl refl refl b h
none_at (Some read) names sort bs b h = stopping (λ c. sorted_by (Some read) names sort (c ∷ bs) ≡ None) refl refl refl b h

none_by : (read : Inner) (names : Names) (o : Option Sort) (bs : List ℕ) → begins stops bs ≡ true → value_by read names o bs ≡ None
none_by read names None bs h = refl
none_by read names (Some sort) [] h = absurd (false≢true h)
none_by read names (Some sort) (b ∷ bs) h = none_at read names sort bs b h

pub no_value : (d : ℕ) (types : List Sort) (names : Names) (id : TypeId) (bs : List ℕ) → begins stops bs ≡ true → value_at d types names id bs ≡ None
no_value d types names id bs h = value_is d types names id bs ∙ none_by (inner_value d types names) names (slice_get types id.0) bs h

-- ---- components

component_none : (read : TypeId → Reader Value) (names : Names) (p : Part) (bytes : List ℕ) → name_at bytes ≡ None → component_by read names p bytes ≡ None
unfolding component_by
component_none read names p bytes none = rw none refl

component_named : (read : TypeId → Reader Value) (names : Names) (p : Part) (bytes w rest : List ℕ) → name_at bytes ≡ Some (w, rest)
    → component_by read names p bytes ≡ cond (is_called names w p.name) (read p.sort (past_blanks rest)) None
unfolding component_by
component_named read names p bytes w rest found = rw found refl

either_none : {A : Type 0} (b : Bool) (found : Found A) → found ≡ None → cond b found None ≡ None
either_none true found none = none
either_none false found none = refl

-- no component begins where a value stands that a comma or the end of braces follows
no_component : (d : ℕ) (types : List Sort) (names : Names) (p : Part) {f : Form} {t : List ℕ} → Spells f t → (q : List ℕ) → EndsWord q → begins closes (past_blanks q) ≡ true
    → component_by (value_at d types names) names p (t ++ q) ≡ None
no_component d types names p (is_number ds digits) q ends close =
    component_none (value_at d types names) names p (ds ++ q) (no_name (ds ++ q) (no_word (ds ++ q) (begins_front is_digit ds q digits.some)))
no_component d types names p (is_negative x ds blanks digits) q ends close = component_none (value_at d types names) names p _ (no_name _ (no_word_at_minus _))
no_component d types names p (is_truth b w h) q ends close = component_none (value_at d types names) names p (w ++ q) (truth_no_name w q b h ends)
no_component d types names p (is_name w name) q ends close =
    component_named (value_at d types names) names p (w ++ q) w q (name_exactly w q name ends)
    ∙ either_none (is_called names w p.name) _ (no_value d types names p.sort (past_blanks q) (close_stops (past_blanks q) close))
no_component d types names p (is_alternative w x y {t = t} name bx by s) q ends close =
    ap (component_by (value_at d types names) names p) (group4 w x 58 y t q)
    ∙ component_named (value_at d types names) names p _ w _ (name_exactly w (x ++ (58 ∷ (y ++ (t ++ q)))) name (ends_before x 58 (y ++ (t ++ q)) bx refl))
    ∙ either_none (is_called names w p.name) _ (ap (value_at d types names p.sort) (blanks_off x (58 ∷ (y ++ (t ++ q))) bx) ∙ no_value d types names p.sort (58 ∷ (y ++ (t ++ q))) refl)
no_component d types names p (are_none x bx) q ends close = component_none (value_at d types names) names p _ (no_name _ (no_word_at_brace _))
no_component d types names p (are_items x y bx s by more) q ends close = component_none (value_at d types names) names p _ (no_name _ (no_word_at_brace _))
no_component d types names p (are_parts x w g y bx name bg apart s by more) q ends close = component_none (value_at d types names) names p _ (no_name _ (no_word_at_brace _))

-- ---- the values in braces

-- goes on at the end of the braces
abbrev ended : {A : Type 0} → (List Value → List ℕ → Found A) → List Value → List ℕ → Found A
ended go vs more = and_then (mark_at 125 more) (λ _ end. go vs end)

-- goes on with the values, where there are some
abbrev given : {A : Type 0} → Option (List Value) → (List Value → Found A) → Found A
given None go = None
given (Some vs) go = go vs

one_more : {A : Type 0} (found : Found (List Value)) (v : Value) (go : List Value → List ℕ → Found A)
    → and_then (and_then found (λ vs more. Some (v ∷ vs, more))) go ≡ and_then found (λ vs more. go (v ∷ vs) more)
one_more None v go = refl
one_more (Some p) v go = refl

given_more : {A : Type 0} (o : Option (List Value)) (v : Value) (go : List Value → Found A) → given (option_map (λ vs. v ∷ vs) o) go ≡ given o (λ vs. go (v ∷ vs))
given_more None v go = refl
given_more (Some vs) v go = refl

each_none : {A : Type 0} (one : Reader Value) (n : ℕ) (bytes : List ℕ) (go : List Value → List ℕ → Found A) → one bytes ≡ None → and_then (each_by one n bytes) go ≡ go [] bytes
unfolding each_by
each_none one zero bytes go none = refl
each_none one (suc n) bytes go none = rw none refl

each_one : {A : Type 0} (one : Reader Value) (n : ℕ) (bytes rest : List ℕ) (v : Value) (go : List Value → List ℕ → Found A) → one bytes ≡ Some (v, rest)
    → and_then (each_by one (suc n) bytes) go ≡ and_then (each_by one n rest) (λ vs more. go (v ∷ vs) more)
unfolding each_by
each_one one n bytes rest v go found = rw found (one_more (each_by one n rest) v go)

not_ended : {A : Type 0} (go : List Value → List ℕ → Found A) (vs : List Value) (bytes : List ℕ) → mark_at 125 bytes ≡ None → ended go vs bytes ≡ None
not_ended go vs bytes none = ap (λ p. and_then p (λ _ end. go vs end)) none

no_brace : (y bs : List ℕ) → AreBlanks y → mark_at 125 (y ++ (44 ∷ bs)) ≡ None
no_brace y bs by = ap (mark_here 125) (blanks_off y (44 ∷ bs) by)

-- further items, where one is read or not
item_goes : {A : Type 0} (read : Reader Value) (n : ℕ) (y bytes after : List ℕ) (o : Option Value) (rest : Option (List Value)) (go : List Value → List ℕ → Found A) (r : List ℕ)
    → AreBlanks y → read (past_blanks bytes) ≡ kept o after
    → ((v : Value) → and_then (each_by (comma_by read) n after) (ended (λ vs end. go (v ∷ vs) end)) ≡ given rest (λ vs. go (v ∷ vs) r))
    → and_then (each_by (comma_by read) (suc n) (y ++ (44 ∷ bytes))) (ended go) ≡ given (o >>= λ v. option_map (λ vs. v ∷ vs) rest) (λ vs. go vs r)
item_goes read n y bytes after None rest go r by e more =
    each_none (comma_by read) (suc n) (y ++ (44 ∷ bytes)) (ended go) (comma_found read (y ++ (44 ∷ bytes)) bytes (comma_behind y bytes by) ∙ e)
    ∙ not_ended go [] (y ++ (44 ∷ bytes)) (no_brace y bytes by)
item_goes read n y bytes after (Some v) rest go r by e more =
    each_one (comma_by read) n (y ++ (44 ∷ bytes)) after v (ended go) (comma_found read (y ++ (44 ∷ bytes)) bytes (comma_behind y bytes by) ∙ e)
    ∙ more v ∙ sym (given_more rest v (λ vs. go vs r))

items_end : {A : Type 0} (read : Reader Value) (n : ℕ) (y r : List ℕ) (go : List Value → List ℕ → Found A) → AreBlanks y
    → and_then (each_by (comma_by read) n (y ++ (125 ∷ r))) (ended go) ≡ go [] r
items_end read n y r go by =
    each_none (comma_by read) n (y ++ (125 ∷ r)) (ended go) (comma_none read (y ++ (125 ∷ r)) (no_comma y r by))
    ∙ ap (λ p. and_then p (λ _ end. go [] end)) (brace_behind y r by)

-- further components, where one is read or not
components_none : {A : Type 0} (read : TypeId → Reader Value) (names : Names) (bytes : List ℕ) (go : List Value → List ℕ → Found A) → and_then (components_by read names [] bytes) go ≡ go [] bytes
unfolding components_by
components_none read names bytes go = refl

regroup : {A : Type 0} (found : Found Value) (rest : Reader (List Value)) (go : List Value → List ℕ → Found A)
    → and_then (and_then found (λ v s. and_then (rest s) (λ vs more. Some (v ∷ vs, more)))) go ≡ and_then found (λ v s. and_then (rest s) (λ vs more. go (v ∷ vs) more))
regroup None rest go = refl
regroup (Some p) rest go = one_more (rest p.1) p.0 go

components_one : {A : Type 0} (read : TypeId → Reader Value) (names : Names) (p : Part) (ps : List Part) (bytes : List ℕ) (go : List Value → List ℕ → Found A)
    → and_then (components_by read names (p ∷ ps) bytes) go ≡ and_then (comma_by (component_by read names p) bytes) (λ v rest. and_then (components_by read names ps rest) (λ vs more. go (v ∷ vs) more))
unfolding components_by
components_one read names p ps bytes go = regroup (comma_by (component_by read names p) bytes) (components_by read names ps) go

components_stop : {A : Type 0} (read : TypeId → Reader Value) (names : Names) (p : Part) (ps : List Part) (bytes : List ℕ) (go : List Value → List ℕ → Found A)
    → mark_at 44 bytes ≡ None → and_then (components_by read names (p ∷ ps) bytes) go ≡ None
components_stop read names p ps bytes go none =
    components_one read names p ps bytes go
    ∙ ap (λ found. and_then found (λ v rest. and_then (components_by read names ps rest) (λ vs more. go (v ∷ vs) more))) (comma_none (component_by read names p) bytes none)

part_goes : {A : Type 0} (read : TypeId → Reader Value) (names : Names) (p : Part) (ps : List Part) (y bytes after : List ℕ) (o : Option Value) (rest : Option (List Value)) (go : List Value → List ℕ → Found A) (r : List ℕ)
    → AreBlanks y → component_by read names p (past_blanks bytes) ≡ kept o after
    → ((v : Value) → and_then (components_by read names ps after) (ended (λ vs end. go (v ∷ vs) end)) ≡ given rest (λ vs. go (v ∷ vs) r))
    → and_then (components_by read names (p ∷ ps) (y ++ (44 ∷ bytes))) (ended go) ≡ given (o >>= λ v. option_map (λ vs. v ∷ vs) rest) (λ vs. go vs r)
part_goes read names p ps y bytes after o rest go r by e more =
    components_one read names p ps (y ++ (44 ∷ bytes)) (ended go)
    ∙ ap (λ found. and_then found (λ v s. and_then (components_by read names ps s) (λ vs m. ended go (v ∷ vs) m)))
    (comma_found (component_by read names p) (y ++ (44 ∷ bytes)) bytes (comma_behind y bytes by) ∙ e)
    ∙ goes o
  where
    goes : (o : Option Value) → and_then (kept o after) (λ v s. and_then (components_by read names ps s) (λ vs m. ended go (v ∷ vs) m)) ≡ given (o >>= λ v. option_map (λ vs. v ∷ vs) rest) (λ vs. go vs r)
    goes None = refl
    goes (Some v) = more v ∙ sym (given_more rest v (λ vs. go vs r))

-- ---- braces

inside_none : (read : TypeId → Reader Value) (names : Names) (sort : Sort) (r : List ℕ) → inside_by read names sort (125 ∷ r) ≡ kept (as_items (Some sort) []) r
unfolding inside_by
inside_none read names sort r = refl

inside_some : (read : TypeId → Reader Value) (names : Names) (sort : Sort) (bytes : List ℕ) → mark_here 125 bytes ≡ None → inside_by read names sort bytes ≡ entries_by read names sort bytes
unfolding inside_by
inside_some read names sort bytes none = rw none refl

sequence_none : (read : TypeId → Reader Value) (names : Names) (p : Part) (ps : List Part) (bytes : List ℕ) → component_by read names p bytes ≡ None → sequence_by read names p ps bytes ≡ None
unfolding sequence_by
sequence_none read names p ps bytes none = rw none refl

-- what the values of braces are as a value
sized : (o : Option (List Value)) (sort : Sort) (v : Value) (r : List ℕ)
    → given o (λ vs. kept (as_items (Some sort) (v ∷ vs)) r) ≡ kept (option_map (λ vs. v ∷ vs) o >>= as_items (Some sort)) r
sized None sort v r = refl
sized (Some vs) sort v r = refl

named_parts : (o : Option (List Value)) (v : Value) (r : List ℕ)
    → given o (λ vs. Some (Values.Sequence (v ∷ vs), r)) ≡ kept (option_map Values.Sequence (option_map (λ vs. v ∷ vs) o)) r
named_parts None v r = refl
named_parts (Some vs) v r = refl

module _ (types : List Sort) (names : Names) where
  -- items, where the first one is read or not
  items_are : (d : ℕ) (sort : Sort) (id : TypeId) (bytes q r : List ℕ) (o : Option Value) (rest : Option (List Value)) → value_at d types names id bytes ≡ kept o q
      → ((v : Value) → and_then (each_by (comma_by (value_at d types names id)) (length q) q) (ended (λ vs end. kept (as_items (Some sort) (v ∷ vs)) end)) ≡ given rest (λ vs. kept (as_items (Some sort) (v ∷ vs)) r))
      → items_by (value_at d types names id) sort bytes ≡ kept ((o >>= λ v. option_map (λ vs. v ∷ vs) rest) >>= as_items (Some sort)) r
  unfolding items_by
  items_are d sort id bytes q r None rest e more = rw e refl
  items_are d sort id bytes q r (Some v) rest e more = rw e (more v ∙ sized rest sort v r)

  -- components, where the first one is read or not
  parts_are : (d : ℕ) (p : Part) (ps : List Part) (bytes q r : List ℕ) (o : Option Value) (rest : Option (List Value)) → component_by (value_at d types names) names p bytes ≡ kept o q
      → ((v : Value) → and_then (components_by (value_at d types names) names ps q) (ended (λ vs end. Some (Values.Sequence (v ∷ vs), end))) ≡ given rest (λ vs. Some (Values.Sequence (v ∷ vs), r)))
      → sequence_by (value_at d types names) names p ps bytes ≡ kept (option_map Values.Sequence (o >>= λ v. option_map (λ vs. v ∷ vs) rest)) r
  unfolding sequence_by
  parts_are d p ps bytes q r None rest e more = rw e refl
  parts_are d p ps bytes q r (Some v) rest e more = rw e (more v ∙ named_parts rest v r)

  -- the value of a component, if it has the name
  component_is : (d : ℕ) (p : Part) (w g : List ℕ) {f : Form} {t : List ℕ} (q : List ℕ) → IsName w → AreBlanks g → AreApart g t → Spells f t
      → value_at d types names p.sort (t ++ q) ≡ kept (value_of types names (slice_get types p.sort.0) f) q
      → component_by (value_at d types names) names p (w ++ (g ++ (t ++ q)))
      ≡ kept (cond (is_called names w p.name) (value_of types names (slice_get types p.sort.0) f) None) q
  component_is d p w g {f = f} {t = t} q name bg apart s e =
      component_named (value_at d types names) names p _ w (g ++ (t ++ q)) (name_exactly w (g ++ (t ++ q)) name (ends_apart g t q bg apart (spelt_starts s)))
      ∙ ap (λ found. cond (is_called names w p.name) found None) (ap (value_at d types names p.sort) (past_to s g q bg) ∙ e)
      ∙ chosen_if (is_called names w p.name) (value_of types names (slice_get types p.sort.0) f) q
    where
      chosen_if : (b : Bool) (o : Option Value) (q : List ℕ) → cond b (kept o q) None ≡ kept (cond b o None) q
      chosen_if true o q = refl
      chosen_if false o q = refl

  -- an alternative, if the type has it
  alternative_is : (d : ℕ) (sort : Sort) (w bytes r : List ℕ) (f : Form)
      → ((id : TypeId) → value_at d types names id bytes ≡ kept (value_of types names (slice_get types id.0) f) r)
      → chosen_by (Some (value_at d types names)) (alternative_of names (Some sort) w) bytes ≡ kept (value_of types names (Some sort) (Alternative w f)) r
  alternative_is d sort w bytes r f inner = go (alternative_of names (Some sort) w)
    where
      go : (o : Option Chosen) → chosen_by (Some (value_at d types names)) o bytes
          ≡ kept (o >>= λ a. option_map (Values.Choice a.place) (value_of types names (slice_get types a.sort.0) f)) r
      go None = refl
      go (Some a) =
          ap (λ found. and_then found (λ v rest. Some (Values.Choice a.place v, rest))) (inner a.sort)
          ∙ kept_map (Values.Choice a.place) (value_of types names (slice_get types a.sort.0) f) r

  no_items : (sort : Sort) (f : Form) (fs : Forms) (o : Option Sort) → o ≡ None → (values_of types names o (item f fs) >>= as_items (Some sort)) ≡ None
  no_items sort f fs o none =
      ap (λ p. values_of types names p (item f fs) >>= as_items (Some sort)) none
      ∙ ap (λ p. (p >>= λ v. option_map (λ vs. v ∷ vs) (values_of types names None fs)) >>= as_items (Some sort)) (no_sort types names f)

  -- values in braces, by the kind of type
  items_by_sort : (d : ℕ) (sort : Sort) {f : Form} {t : List ℕ} (fs : Forms) (q r : List ℕ) → Spells f t → EndsWord q → begins closes (past_blanks q) ≡ true
      → ((id : TypeId) → value_at d types names id (t ++ q) ≡ kept (value_of types names (slice_get types id.0) f) q)
      → ((id : TypeId) (go : List Value → List ℕ → Found Value) → and_then (each_by (comma_by (value_at d types names id)) (length q) q) (ended go) ≡ given (values_of types names (slice_get types id.0) fs) (λ vs. go vs r))
      → entries_by (value_at d types names) names sort (t ++ q) ≡ kept (value_of types names (Some sort) (Items (item f fs))) r
  unfolding entries_by
  items_by_sort d (Sorts.Sequence (p ∷ ps)) {f = f} {t = t} fs q r s ends close first others =
      sequence_none (value_at d types names) names p ps (t ++ q) (no_component d types names p s q ends close)
      ∙ sym (ap (λ o. kept o r) (no_items (Sorts.Sequence (p ∷ ps)) f fs None refl))
  items_by_sort d (Sorts.SeqOf lo hi id) {f = f} {t = t} fs q r s ends close first others =
      items_are d (Sorts.SeqOf lo hi id) id (t ++ q) q r (value_of types names (slice_get types id.0) f) (values_of types names (slice_get types id.0) fs) (first id)
      (λ v. others id (λ vs end. kept (as_items (Some (Sorts.SeqOf lo hi id)) (v ∷ vs)) end))
  items_by_sort d (Sorts.Sequence []) {f = f} fs q r s ends close first others = sym (ap (λ o. kept o r) (no_items (Sorts.Sequence []) f fs None refl))
  items_by_sort d (Sorts.Int lo hi) {f = f} fs q r s ends close first others = sym (ap (λ o. kept o r) (no_items (Sorts.Int lo hi) f fs None refl))
  items_by_sort d Sorts.Bool {f = f} fs q r s ends close first others = sym (ap (λ o. kept o r) (no_items Sorts.Bool f fs None refl))
  items_by_sort d (Sorts.Enumerated ids numbers) {f = f} fs q r s ends close first others = sym (ap (λ o. kept o r) (no_items (Sorts.Enumerated ids numbers) f fs None refl))
  items_by_sort d (Sorts.Choice ps) {f = f} fs q r s ends close first others = sym (ap (λ o. kept o r) (no_items (Sorts.Choice ps) f fs None refl))
  items_by_sort d Sorts.Opaque {f = f} fs q r s ends close first others = sym (ap (λ o. kept o r) (no_items Sorts.Opaque f fs None refl))

  -- a name where no colon follows
  name_means : (d : ℕ) (w r : List ℕ) (o : Option Sort) → IsName w → EndsWord r → mark_at 58 r ≡ None
      → value_by (inner_value d types names) names o (w ++ r) ≡ kept (value_of types names o (Name w)) r
  name_means d w r None name ends colon = refl
  name_means d w r (Some sort) name ends colon =
      by_word (inner_value d types names) names sort (w ++ r) w r (begins_front is_letter w r name.letter) (word_exactly w r name.letter name.all ends)
      ∙ by_name (inner_value d types names) names sort w r name.no_truth colon

  no_mark_behind : (m : ℕ) (g : List ℕ) {f : Form} {t : List ℕ} (q : List ℕ) → AreBlanks g → Spells f t → starts m ≡ false → mark_at m (g ++ (t ++ q)) ≡ None
  no_mark_behind m g q bg s fails = ap (mark_here m) (past_to s g q bg) ∙ spelt_no_mark s m q fails

  no_size : (sort : Sort) (o : Option Value) (r : List ℕ) → kept ((o >>= λ v. None) >>= as_items (Some sort)) r ≡ None
  no_size sort None r = refl
  no_size sort (Some v) r = refl

  -- components in braces, by the kind of type
  parts_by_sort : (d : ℕ) (sort : Sort) (w g : List ℕ) {f : Form} {t : List ℕ} (fs : Fields) (q r : List ℕ) → IsName w → AreBlanks g → AreApart g t → Spells f t
      → ((id : TypeId) → value_at d types names id (t ++ q) ≡ kept (value_of types names (slice_get types id.0) f) q)
      → ((ps : List Part) (go : List Value → List ℕ → Found Value) → and_then (components_by (value_at d types names) names ps q) (ended go) ≡ given (fields_of types names ps fs) (λ vs. go vs r))
      → entries_by (value_at d types names) names sort (w ++ (g ++ (t ++ q))) ≡ kept (value_of types names (Some sort) (Parts (part w f fs))) r
  unfolding entries_by
  parts_by_sort d (Sorts.Sequence (p ∷ ps)) w g {f = f} {t = t} fs q r name bg apart s first others =
      parts_are d p ps (w ++ (g ++ (t ++ q))) q r (cond (is_called names w p.name) (value_of types names (slice_get types p.sort.0) f) None) (fields_of types names ps fs)
      (component_is d p w g q name bg apart s (first p.sort)) (λ v. others ps (λ vs end. Some (Values.Sequence (v ∷ vs), end)))
  parts_by_sort d (Sorts.SeqOf lo hi id) w g {f = f} {t = t} fs q r name bg apart s first others =
      let behind = g ++ (t ++ q) in
      items_are d (Sorts.SeqOf lo hi id) id (w ++ behind) behind r (value_of types names (slice_get types id.0) (Name w)) None
      (value_is d types names id (w ++ behind) ∙ name_means d w behind (slice_get types id.0) name (ends_apart g t q bg apart (spelt_starts s)) (no_mark_behind 58 g q bg s refl))
      (λ v. let go : List Value → List ℕ → Found Value = λ vs end. kept (as_items (Some (Sorts.SeqOf lo hi id)) (v ∷ vs)) end in
      each_none (comma_by (value_at d types names id)) (length behind) behind (ended go) (comma_none (value_at d types names id) behind (no_mark_behind 44 g q bg s refl))
      ∙ not_ended go [] behind (no_mark_behind 125 g q bg s refl))
      ∙ no_size (Sorts.SeqOf lo hi id) (value_of types names (slice_get types id.0) (Name w)) r
  parts_by_sort d (Sorts.Sequence []) w g fs q r name bg apart s first others = refl
  parts_by_sort d (Sorts.Int lo hi) w g fs q r name bg apart s first others = refl
  parts_by_sort d Sorts.Bool w g fs q r name bg apart s first others = refl
  parts_by_sort d (Sorts.Enumerated ids numbers) w g fs q r name bg apart s first others = refl
  parts_by_sort d (Sorts.Choice ps) w g fs q r name bg apart s first others = refl
  parts_by_sort d Sorts.Opaque w g fs q r name bg apart s first others = refl

  -- ---- whole texts

  -- a value of each type or of none
  by_option : (d : ℕ) (bytes r : List ℕ) (f : Form)
      → ((sort : Sort) → sorted_by (inner_value d types names) names sort bytes ≡ kept (value_of types names (Some sort) f) r)
      → (o : Option Sort) → value_by (inner_value d types names) names o bytes ≡ kept (value_of types names o f) r
  by_option d bytes r f h None = sym (ap (λ o. kept o r) (no_sort types names f))
  by_option d bytes r f h (Some sort) = h sort

  by_type : (d : ℕ) (bytes r : List ℕ) (f : Form)
      → ((sort : Sort) → sorted_by (inner_value d types names) names sort bytes ≡ kept (value_of types names (Some sort) f) r)
      → (id : TypeId) → value_at d types names id bytes ≡ kept (value_of types names (slice_get types id.0) f) r
  by_type d bytes r f h id = value_is d types names id bytes ∙ by_option d bytes r f h (slice_get types id.0)

  deep : (d less : ℕ) (sort : Sort) (bytes : List ℕ) → d ≡ suc less → sorted_by (inner_value d types names) names sort bytes ≡ sorted_by (Some (value_at less types names)) names sort bytes
  deep d less sort bytes e = ap (λ k. sorted_by (inner_value k types names) names sort bytes) e

  mutual
    pub means : {f : Form} {t : List ℕ} → Spells f t → (d : ℕ) → nesting f ≤ d → (r : List ℕ) → Follows r → (sort : Sort)
        → sorted_by (inner_value d types names) names sort (t ++ r) ≡ kept (value_of types names (Some sort) f) r
    means (is_number ds digits) d h r follows sort =
        by_digits (inner_value d types names) names sort (ds ++ r) ds r (digits_exactly ds r digits (ends_digits r follows.word))
    means (is_negative x ds blanks digits) d h r follows sort =
        by_minus (inner_value d types names) names sort _ ds r (no_digits_at_minus _)
        (ap digits_at (ap past_blanks (append_assoc x ds r) ∙ past_to (is_number ds digits) x r blanks) ∙ digits_exactly ds r digits (ends_digits r follows.word))
    means (is_truth b w e) d h r follows sort =
        by_word (inner_value d types names) names sort (w ++ r) w r (begins_front is_letter w r (truth_letter w b e)) (word_exactly w r (truth_letter w b e) (truth_all w b e) follows.word)
        ∙ ap (λ o. worded_by (inner_value d types names) names sort w o r) e
    means (is_name w name) d h r follows sort = name_means d w r (Some sort) name follows.word follows.colon
    means (is_alternative w x y {f = f} {t = t} name bx by s) d h r follows sort =
        let inner = deeper d (nesting f) h in
        let q = x ++ (58 ∷ (y ++ (t ++ r))) in
        deep d inner.less sort _ inner.is
        ∙ ap (sorted_by (Some (value_at inner.less types names)) names sort) (group4 w x 58 y t r)
        ∙ by_word (Some (value_at inner.less types names)) names sort (w ++ q) w q (begins_front is_letter w q name.letter) (word_exactly w q name.letter name.all (ends_before x 58 (y ++ (t ++ r)) bx refl))
        ∙ by_colon (value_at inner.less types names) names sort w q (y ++ (t ++ r)) name.no_truth (ap (mark_here 58) (blanks_off x (58 ∷ (y ++ (t ++ r))) bx))
        ∙ ap (chosen_by (Some (value_at inner.less types names)) (alternative_of names (Some sort) w)) (past_to s y r by)
        ∙ alternative_is inner.less sort w (t ++ r) r f (by_type inner.less (t ++ r) r f (means s inner.less inner.enough r follows))
    means (are_none x bx) d h r follows sort =
        let inner = deeper d 0 h in
        deep d inner.less sort _ inner.is
        ∙ ap (λ bs. sorted_by (Some (value_at inner.less types names)) names sort (123 ∷ bs)) (group_none x r)
        ∙ by_brace (value_at inner.less types names) names sort (x ++ (125 ∷ r))
        ∙ ap (inside_by (value_at inner.less types names) names sort) (blanks_off x (125 ∷ r) bx)
        ∙ inside_none (value_at inner.less types names) names sort r
    means (are_items x y {f = f} {fs = fs} {t = t} {more = more} bx s by others) d h r follows sort =
        let inner = deeper d (max (nesting f) (nesting_of_items fs)) h in
        let q = y ++ (more ++ r) in
        let after : Follows q = follows_close y (more ++ r) by (items_close others r) in
        let read = value_at inner.less types names in
        deep d inner.less sort _ inner.is
        ∙ ap (λ bs. sorted_by (Some read) names sort (123 ∷ bs)) (group_items x t y more r) ∙ by_brace read names sort (x ++ (t ++ q))
        ∙ ap (inside_by read names sort) (past_to s x q bx) ∙ inside_some read names sort (t ++ q) (spelt_no_mark s 125 q refl)
        ∙ items_by_sort inner.less sort fs q r s after.word (closes_behind y (more ++ r) by (items_close others r))
        (by_type inner.less (t ++ q) q f (means s inner.less (omega (arith, inner.enough)) q after))
        (items_mean others inner.less (omega (arith, inner.enough)) y r by (length q) (front_of y more r))
    means (are_parts x w g y {f = f} {fs = fs} {t = t} {more = more} bx name bg apart s by others) d h r follows sort =
        let inner = deeper d (max (nesting f) (nesting_of_parts fs)) h in
        let q = y ++ (more ++ r) in
        let after : Follows q = follows_close y (more ++ r) by (parts_close others r) in
        let read = value_at inner.less types names in
        deep d inner.less sort _ inner.is
        ∙ ap (λ bs. sorted_by (Some read) names sort (123 ∷ bs)) (group_parts x w g t y more r) ∙ by_brace read names sort (x ++ (w ++ (g ++ (t ++ q))))
        ∙ ap (inside_by read names sort) (past_to (is_name w name) x (g ++ (t ++ q)) bx)
        ∙ inside_some read names sort (w ++ (g ++ (t ++ q))) (spelt_no_mark (is_name w name) 125 (g ++ (t ++ q)) refl)
        ∙ parts_by_sort inner.less sort w g fs q r name bg apart s
        (by_type inner.less (t ++ q) q f (means s inner.less (omega (arith, inner.enough)) q after))
        (parts_mean others inner.less (omega (arith, inner.enough)) y r by)

    items_mean : {fs : Forms} {more : List ℕ} → ItemsGoOn fs more → (d : ℕ) → nesting_of_items fs ≤ d → (y r : List ℕ) → AreBlanks y → (n : ℕ) → length more ≤ n
        → (id : TypeId) (go : List Value → List ℕ → Found Value)
        → and_then (each_by (comma_by (value_at d types names id)) n (y ++ (more ++ r))) (ended go) ≡ given (values_of types names (slice_get types id.0) fs) (λ vs. go vs r)
    items_mean no_more_items d h y r by n le id go = items_end (value_at d types names id) n y r go by
    items_mean (further_item x y' {f = f} {fs = fs} {t = t} {more = more} bx s by' others) d h y r by n le id go =
        let m = deeper n (length (x ++ (t ++ (y' ++ more)))) le in
        let q = y' ++ (more ++ r) in
        let after : Follows q = follows_close y' (more ++ r) by' (items_close others r) in
        ap (λ k. and_then (each_by (comma_by (value_at d types names id)) k (y ++ ((44 ∷ (x ++ (t ++ (y' ++ more)))) ++ r))) (ended go)) m.is
        ∙ ap (λ bs. and_then (each_by (comma_by (value_at d types names id)) (suc m.less) (y ++ (44 ∷ bs))) (ended go)) (group_items x t y' more r)
        ∙ item_goes (value_at d types names id) m.less y (x ++ (t ++ q)) q (value_of types names (slice_get types id.0) f) (values_of types names (slice_get types id.0) fs) go r by
        (ap (value_at d types names id) (past_to s x q bx) ∙ by_type d (t ++ q) q f (means s d (omega (arith, h)) q after) id)
        (λ v. items_mean others d (omega (arith, h)) y' r by' m.less (omega (arith, m.enough, tail_le x t y' more)) id (λ vs end. go (v ∷ vs) end))

    parts_mean : {fs : Fields} {more : List ℕ} → PartsGoOn fs more → (d : ℕ) → nesting_of_parts fs ≤ d → (y r : List ℕ) → AreBlanks y
        → (ps : List Part) (go : List Value → List ℕ → Found Value)
        → and_then (components_by (value_at d types names) names ps (y ++ (more ++ r))) (ended go) ≡ given (fields_of types names ps fs) (λ vs. go vs r)
    parts_mean no_more_parts d h y r by [] go =
        components_none (value_at d types names) names (y ++ (125 ∷ r)) (ended go) ∙ ap (λ p. and_then p (λ _ end. go [] end)) (brace_behind y r by)
    parts_mean no_more_parts d h y r by (p ∷ ps) go = components_stop (value_at d types names) names p ps (y ++ (125 ∷ r)) (ended go) (no_comma y r by)
    parts_mean (further_part x w g y' {f = f} {fs = fs} {t = t} {more = more} bx name bg apart s by' others) d h y r by [] go =
        let behind = (x ++ (w ++ (g ++ (t ++ (y' ++ more))))) ++ r in
        components_none (value_at d types names) names (y ++ (44 ∷ behind)) (ended go) ∙ not_ended go [] (y ++ (44 ∷ behind)) (no_brace y behind by)
    parts_mean (further_part x w g y' {f = f} {fs = fs} {t = t} {more = more} bx name bg apart s by' others) d h y r by (p ∷ ps) go =
        let q = y' ++ (more ++ r) in
        let after : Follows q = follows_close y' (more ++ r) by' (parts_close others r) in
        ap (λ bs. and_then (components_by (value_at d types names) names (p ∷ ps) (y ++ (44 ∷ bs))) (ended go)) (group_parts x w g t y' more r)
        ∙ part_goes (value_at d types names) names p ps y (x ++ (w ++ (g ++ (t ++ q)))) q
        (cond (is_called names w p.name) (value_of types names (slice_get types p.sort.0) f) None) (fields_of types names ps fs) go r by
        (ap (component_by (value_at d types names) names p) (past_to (is_name w name) x (g ++ (t ++ q)) bx)
        ∙ component_is d p w g q name bg apart s (by_type d (t ++ q) q f (means s d (omega (arith, h)) q after) p.sort))
        (λ v. parts_mean others d (omega (arith, h)) y' r by' ps (λ vs end. go (v ∷ vs) end))

  -- a text that has the form of a value is read as what the form means
  pub text_means : {f : Form} {t : List ℕ} → Spells f t → (d : ℕ) → nesting f ≤ d → (r : List ℕ) → Follows r → (id : TypeId)
      → value_at d types names id (t ++ r) ≡ kept (value_of types names (slice_get types id.0) f) r
  text_means {f = f} {t = t} s d h r follows id = by_type d (t ++ r) r f (means s d h r follows) id
