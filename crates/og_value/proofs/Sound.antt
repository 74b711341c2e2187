-- What a reader passes is a text of a value.
use Rattle.std.proofs.Common.{◌≡◌, ◌⊎◌, ℕ, zero, suc, ◌≤◌, Bool, true, false, cond, not, List, [], ◌∷◌, ◌++◌, length, Option, Some, None, inl, inr, refl, sym, ap, ◌∙◌, subst, arith, append_assoc}
use Rattle.std.specs.Option.{is_none}
use Rattle.std.proofs.lemmas.Bool.{false≢true}
use Rattle.std.proofs.lemmas.Option.{none-some}
use Rattle.og_names.proofs.Truths.{same_value}
use Rattle.og_value.specs.Bytes.{is_word, begins, truth_of}
use Rattle.og_value.specs.Forms.{Form, Number, Truth, Name, Alternative, Items, Parts, Forms, no_item, item, Fields, no_part, part, IsName, AreBlanks, AreApart, Spells, is_number, is_negative, is_truth, is_name, is_alternative, are_none, are_items, are_parts, ItemsGoOn, no_more_items, further_item, PartsGoOn, no_more_parts, further_part, nesting, nesting_of_items, nesting_of_parts}
use Rattle.og_value.specs.Scans.{Found, Reader, and_then, found_or, rest_or, unless_truth, past_blanks, mark_here, mark_at, digits_at, minus_digits_at, word_at, name_at, comma_by, past_by, past_all, part_by, closed_by, braces_by, colon_by, past_choice, past_word, form_by, form_at}
use Rattle.og_value.proofs.Spelt.{starts, spelt_starts}
use Rattle.og_value.proofs.Fronts.{EndsWord, digits_were, IsWordAt, word_was, mark_was, blanks_were}

-- the bytes begin with a text of a value that nests at most so deep, and these stand behind it
pub record IsSpelt (d : ℕ) (bytes rest : List ℕ) : Type 0 where
  pub form : Form
  pub text : List ℕ
  pub front : bytes ≡ text ++ rest
  pub spelt : Spells form text
  pub nested : nesting form ≤ d

abbrev pub IsSound : ℕ → Reader (Unit {0}) → Type 0
IsSound d one = (bytes rest : List ℕ) → one bytes ≡ Some (tt, rest) → IsSpelt d bytes rest

-- ---- what was found

pub record Was {A B : Type 0} (found : Found A) (go : A → List ℕ → Found B) (y : B × List ℕ) : Type 0 where
  pub here : A
  pub rest : List ℕ
  pub is : found ≡ Some (here, rest)
  pub on : go here rest ≡ Some y

pub then_was : {A B : Type 0} (found : Found A) (go : A → List ℕ → Found B) (y : B × List ℕ) → and_then found go ≡ Some y → Was found go y
then_was None go y e = absurd (none-some y e)
then_was (Some p) go y e = record { here = p.0; rest = p.1; is = refl; on = e }

pub or_was : {A B : Type 0} (found : Found A) (other : Found B) (go : A → List ℕ → Found B) (y : B × List ℕ) → found_or found other go ≡ Some y
    → Was found go y ⊎ ((found ≡ None) × (other ≡ Some y))
or_was None other go y e = inr (refl, e)
or_was (Some p) other go y e = inl (record { here = p.0; rest = p.1; is = refl; on = e })

-- a mark behind blanks
pub record HasMark (m : ℕ) (bytes rest : List ℕ) : Type 0 where
  pub blanks : List ℕ
  pub are : AreBlanks blanks
  pub front : bytes ≡ blanks ++ (m ∷ rest)

pub mark_at_was : (m : ℕ) (bytes : List ℕ) (p : Unit {0} × List ℕ) → mark_at m bytes ≡ Some p → HasMark m bytes p.1
mark_at_was m bytes p e =
    let x = blanks_were bytes in
    record { blanks = x.0; are = x.1; front = x.2 ∙ ap (λ bs. x.0 ++ bs) (mark_was m (past_blanks bytes) p e) }

-- a word is a truth value or none
pub truths : (o : Option Bool) → (o ≡ None) ⊎ ((b : Bool) × (o ≡ Some b))
truths None = inl refl
truths (Some b) = inr (b, refl)

pub record IsNameAt (bytes w rest : List ℕ) : Type 0 where
  pub name : IsName w
  pub front : bytes ≡ w ++ rest
  pub ends : EndsWord rest

no_truth_was : (bytes w r : List ℕ) (p : List ℕ × List ℕ) → IsWordAt bytes w r → unless_truth w r ≡ Some p → IsNameAt bytes p.0 p.1
no_truth_was bytes w r p at e = elim (truths (truth_of w)) [
  | inl none ↦
      let same : (w, r) ≡ p = same_value _ p (sym (ap (λ o. cond (is_none o) (Some (w, r)) None) none) ∙ e) in
      subst (λ (q : List ℕ × List ℕ). IsNameAt bytes q.0 q.1) same (record {
        name = record { letter = at.letter; all = at.all; no_truth = none };
        front = at.front;
        ends = at.ends;
      })
  | inr some ↦ absurd (none-some p (sym (ap (λ o. cond (is_none o) (Some (w, r)) None) some.1) ∙ e))
]

pub name_was : (bytes : List ℕ) (p : List ℕ × List ℕ) → name_at bytes ≡ Some p → IsNameAt bytes p.0 p.1
unfolding name_at
name_was bytes p e =
    let word = then_was (word_at bytes) unless_truth p e in
    no_truth_was bytes word.here word.rest p (word_was bytes (word.here, word.rest) word.is) word.on

-- ---- leaves

digits_sound : (d : ℕ) (bytes : List ℕ) (p : List ℕ × List ℕ) → digits_at bytes ≡ Some p → IsSpelt d bytes p.1
digits_sound d bytes p e =
    let found = digits_were bytes p e in
    record { form = Number false p.0; text = p.0; front = found.1; spelt = is_number p.0 found.0; nested = omega arith }

group_minus : (x ds r : List ℕ) → 45 ∷ (x ++ (ds ++ r)) ≡ (45 ∷ (x ++ ds)) ++ r
group_minus x ds r = ap (λ bs. 45 ∷ bs) (sym (append_assoc x ds r))

minus_sound : (d : ℕ) (bytes : List ℕ) (p : List ℕ × List ℕ) → minus_digits_at bytes ≡ Some p → IsSpelt d bytes p.1
minus_sound d bytes p e =
    let sign = then_was (mark_here 45 bytes) (λ _ more. digits_at (past_blanks more)) p e in
    let x = blanks_were sign.rest in
    let found = digits_were (past_blanks sign.rest) p sign.on in
    record {
      form = Number true p.0;
      text = 45 ∷ (x.0 ++ p.0);
      front = mark_was 45 bytes (sign.here, sign.rest) sign.is ∙ ap (λ bs. 45 ∷ bs) (x.2 ∙ ap (λ bs. x.0 ++ bs) found.1) ∙ group_minus x.0 p.0 p.1;
      spelt = is_negative x.0 p.0 x.1 found.0;
      nested = omega arith;
    }

truth_sound : (d : ℕ) (bytes w r : List ℕ) (b : Bool) → IsWordAt bytes w r → truth_of w ≡ Some b → IsSpelt d bytes r
truth_sound d bytes w r b at e = record { form = Truth b; text = w; front = at.front; spelt = is_truth b w e; nested = omega arith }

name_sound : (d : ℕ) (bytes w r : List ℕ) → IsWordAt bytes w r → truth_of w ≡ None → IsSpelt d bytes r
name_sound d bytes w r at e = record {
  form = Name w;
  text = w;
  front = at.front;
  spelt = is_name w (record { letter = at.letter; all = at.all; no_truth = e });
  nested = omega arith;
}

-- ---- alternatives

group_colon : (w x y t r : List ℕ) → w ++ (x ++ (58 ∷ (y ++ (t ++ r)))) ≡ (w ++ (x ++ (58 ∷ (y ++ t)))) ++ r
group_colon w x y t r = simp append_assoc

colon_sound : (d : ℕ) (one : Reader (Unit {0})) → IsSound d one → (bytes w r : List ℕ) (p : Unit {0} × List ℕ) → IsWordAt bytes w r → truth_of w ≡ None
    → colon_by one r ≡ Some p → IsSpelt (suc d) bytes p.1
unfolding colon_by
colon_sound d one sound bytes w r p at none e =
    let colon = then_was (mark_at 58 r) (λ _ more. one (past_blanks more)) p e in
    let mark = mark_at_was 58 r (colon.here, colon.rest) colon.is in
    let y = blanks_were colon.rest in
    let value = sound (past_blanks colon.rest) p.1 colon.on in
    record {
      form = Alternative w value.form;
      text = w ++ (mark.blanks ++ (58 ∷ (y.0 ++ value.text)));
      front = at.front
          ∙ ap (λ bs. w ++ bs) (mark.front ∙ ap (λ bs. mark.blanks ++ (58 ∷ bs)) (y.2 ∙ ap (λ bs. y.0 ++ bs) value.front))
          ∙ group_colon w mark.blanks y.0 value.text p.1;
      spelt = is_alternative w mark.blanks y.0 (record { letter = at.letter; all = at.all; no_truth = none }) mark.are y.1 value.spelt;
      nested = omega (arith, value.nested);
    }

pub found_cases : {A : Type 0} (o : Option A) → (o ≡ None) ⊎ ((x : A) × (o ≡ Some x))
found_cases None = inl refl
found_cases (Some x) = inr (x, refl)

rest_is : (found : Found (Unit {0})) (r : List ℕ) (p : Unit {0} × List ℕ) → found ≡ Some p → rest_or found r ≡ p.1
rest_is found r p e = ap (λ o. rest_or o r) e

choice_sound : (d : ℕ) (one : Reader (Unit {0})) → IsSound d one → (bytes w r rest : List ℕ) → IsWordAt bytes w r → truth_of w ≡ None
    → past_choice (Some one) r ≡ rest → IsSpelt (suc d) bytes rest
choice_sound d one sound bytes w r rest at none e = elim (found_cases (colon_by one r)) [
  | inl no_colon ↦ subst (IsSpelt (suc d) bytes) (sym (ap (λ o. rest_or o r) no_colon) ∙ e) (name_sound (suc d) bytes w r at none)
  | inr found ↦
      subst (IsSpelt (suc d) bytes) (sym (rest_is (colon_by one r) r found.0 found.1) ∙ e) (colon_sound d one sound bytes w r found.0 at none found.1)
]

-- ---- braces

-- further values up to the end of the braces
record ItemsPassed (d : ℕ) (bytes rest : List ℕ) : Type 0 where
  pub items : Forms
  pub blanks : List ℕ
  pub more : List ℕ
  pub are : AreBlanks blanks
  pub goes : ItemsGoOn items more
  pub front : bytes ≡ blanks ++ (more ++ rest)
  pub nested : nesting_of_items items ≤ d

items_ended : (d : ℕ) (bytes rest : List ℕ) → mark_at 125 bytes ≡ Some (tt, rest) → ItemsPassed d bytes rest
items_ended d bytes rest e =
    let mark = mark_at_was 125 bytes (tt, rest) e in
    record { items = no_item; blanks = mark.blanks; more = 125 ∷ []; are = mark.are; goes = no_more_items; front = mark.front; nested = omega arith }

group_item : (x t y more r : List ℕ) → 44 ∷ (x ++ (t ++ (y ++ (more ++ r)))) ≡ (44 ∷ (x ++ (t ++ (y ++ more)))) ++ r
group_item x t y more r = simp append_assoc

item_passed : (d : ℕ) (bytes rest x m b after : List ℕ) → HasMark 44 bytes m → AreBlanks x → m ≡ x ++ b → IsSpelt d b after → ItemsPassed d after rest → ItemsPassed d bytes rest
item_passed d bytes rest x m b after mark bx split one others = record {
  items = item one.form others.items;
  blanks = mark.blanks;
  more = 44 ∷ (x ++ (one.text ++ (others.blanks ++ others.more)));
  are = mark.are;
  goes = further_item x others.blanks bx one.spelt others.are others.goes;
  front = mark.front
      ∙ ap (λ bs. mark.blanks ++ (44 ∷ bs)) (split ∙ ap (λ bs. x ++ bs) (one.front ∙ ap (λ bs. one.text ++ bs) others.front))
      ∙ ap (λ bs. mark.blanks ++ bs) (group_item x one.text others.blanks others.more rest);
  nested = omega (arith, one.nested, others.nested);
}

comma_was : {A : Type 0} (one : Reader A) (bytes : List ℕ) (p : A × List ℕ) → comma_by one bytes ≡ Some p → Was (mark_at 44 bytes) (λ _ more. one (past_blanks more)) p
unfolding comma_by
comma_was one bytes p e = then_was (mark_at 44 bytes) (λ _ more. one (past_blanks more)) p e

past_end : (one : Reader (Unit {0})) (n : ℕ) (bytes : List ℕ) → one bytes ≡ None → past_all one (suc n) bytes ≡ bytes
unfolding past_all
past_end one n bytes none = ap (past_by (past_all one n) bytes) none

past_on : (one : Reader (Unit {0})) (n : ℕ) (bytes : List ℕ) (p : Unit {0} × List ℕ) → one bytes ≡ Some p → past_all one (suc n) bytes ≡ past_all one n p.1
unfolding past_all
past_on one n bytes p found = ap (past_by (past_all one n) bytes) found

past_zero : (one : Reader (Unit {0})) (bytes : List ℕ) → past_all one zero bytes ≡ bytes
unfolding past_all
past_zero one bytes = refl

items_sound : (d : ℕ) (one : Reader (Unit {0})) → IsSound d one → (n : ℕ) (bytes rest : List ℕ)
    → mark_at 125 (past_all (comma_by one) n bytes) ≡ Some (tt, rest) → ItemsPassed d bytes rest
items_sound d one sound zero bytes rest e = items_ended d bytes rest (sym (ap (mark_at 125) (past_zero (comma_by one) bytes)) ∙ e)
items_sound d one sound (suc n) bytes rest e = elim (found_cases (comma_by one bytes)) [
  | inl none ↦ items_ended d bytes rest (sym (ap (mark_at 125) (past_end (comma_by one) n bytes none)) ∙ e)
  | inr found ↦
      let p = found.0 in
      let comma = comma_was one bytes p found.1 in
      let x = blanks_were comma.rest in
      item_passed d bytes rest x.0 comma.rest (past_blanks comma.rest) p.1 (mark_at_was 44 bytes (comma.here, comma.rest) comma.is) x.1 x.2
      (sound (past_blanks comma.rest) p.1 comma.on)
      (items_sound d one sound n p.1 rest (sym (ap (mark_at 125) (past_on (comma_by one) n bytes p found.1)) ∙ e))
]

-- ---- components

record PartSpelt (d : ℕ) (bytes rest : List ℕ) : Type 0 where
  pub name : List ℕ
  pub gap : List ℕ
  pub form : Form
  pub text : List ℕ
  pub named : IsName name
  pub are : AreBlanks gap
  pub apart : AreApart gap text
  pub front : bytes ≡ name ++ (gap ++ (text ++ rest))
  pub spelt : Spells form text
  pub nested : nesting form ≤ d

begins_text : (p : ℕ → Bool) (t r : List ℕ) → begins starts t ≡ true → begins p (t ++ r) ≡ begins p t
begins_text p [] r h = absurd (false≢true h)
begins_text p (b ∷ t) r h = refl

gap_apart : (g t r : List ℕ) → begins starts t ≡ true → EndsWord (g ++ (t ++ r)) → AreApart g t
gap_apart [] t r some ends = ap not (sym (begins_text is_word t r some) ∙ ends)
gap_apart (b ∷ g) t r some ends = tt

part_sound : (d : ℕ) (one : Reader (Unit {0})) → IsSound d one → (bytes : List ℕ) (p : Unit {0} × List ℕ) → part_by one bytes ≡ Some p → PartSpelt d bytes p.1
unfolding part_by
part_sound d one sound bytes p e =
    let was = then_was (name_at bytes) (λ w rest. one (past_blanks rest)) p e in
    let name = name_was bytes (was.here, was.rest) was.is in
    let g = blanks_were was.rest in
    let value = sound (past_blanks was.rest) p.1 was.on in
    let split : was.rest ≡ g.0 ++ (value.text ++ p.1) = g.2 ∙ ap (λ bs. g.0 ++ bs) value.front in
    record {
      name = was.here;
      gap = g.0;
      form = value.form;
      text = value.text;
      named = name.name;
      are = g.1;
      apart = gap_apart g.0 value.text p.1 (spelt_starts value.spelt) (ap (begins is_word) (sym split) ∙ name.ends);
      front = name.front ∙ ap (λ bs. was.here ++ bs) split;
      spelt = value.spelt;
      nested = value.nested;
    }

record PartsPassed (d : ℕ) (bytes rest : List ℕ) : Type 0 where
  pub parts : Fields
  pub blanks : List ℕ
  pub more : List ℕ
  pub are : AreBlanks blanks
  pub goes : PartsGoOn parts more
  pub front : bytes ≡ blanks ++ (more ++ rest)
  pub nested : nesting_of_parts parts ≤ d

parts_ended : (d : ℕ) (bytes rest : List ℕ) → mark_at 125 bytes ≡ Some (tt, rest) → PartsPassed d bytes rest
parts_ended d bytes rest e =
    let mark = mark_at_was 125 bytes (tt, rest) e in
    record { parts = no_part; blanks = mark.blanks; more = 125 ∷ []; are = mark.are; goes = no_more_parts; front = mark.front; nested = omega arith }

group_part : (x w g t y more r : List ℕ) → 44 ∷ (x ++ (w ++ (g ++ (t ++ (y ++ (more ++ r)))))) ≡ (44 ∷ (x ++ (w ++ (g ++ (t ++ (y ++ more)))))) ++ r
group_part x w g t y more r = simp append_assoc

part_passed : (d : ℕ) (bytes rest x m b after : List ℕ) → HasMark 44 bytes m → AreBlanks x → m ≡ x ++ b → PartSpelt d b after → PartsPassed d after rest → PartsPassed d bytes rest
part_passed d bytes rest x m b after mark bx split one others = record {
  parts = part one.name one.form others.parts;
  blanks = mark.blanks;
  more = 44 ∷ (x ++ (one.name ++ (one.gap ++ (one.text ++ (others.blanks ++ others.more)))));
  are = mark.are;
  goes = further_part x one.name one.gap others.blanks bx one.named one.are one.apart one.spelt others.are others.goes;
  front = mark.front
      ∙ ap (λ bs. mark.blanks ++ (44 ∷ bs))
      (split ∙ ap (λ bs. x ++ bs) (one.front ∙ ap (λ bs. one.name ++ (one.gap ++ (one.text ++ bs))) others.front))
      ∙ ap (λ bs. mark.blanks ++ bs) (group_part x one.name one.gap one.text others.blanks others.more rest);
  nested = omega (arith, one.nested, others.nested);
}

parts_sound : (d : ℕ) (one : Reader (Unit {0})) → IsSound d one → (n : ℕ) (bytes rest : List ℕ)
    → mark_at 125 (past_all (comma_by (part_by one)) n bytes) ≡ Some (tt, rest) → PartsPassed d bytes rest
parts_sound d one sound zero bytes rest e = parts_ended d bytes rest (sym (ap (mark_at 125) (past_zero (comma_by (part_by one)) bytes)) ∙ e)
parts_sound d one sound (suc n) bytes rest e = elim (found_cases (comma_by (part_by one) bytes)) [
  | inl none ↦ parts_ended d bytes rest (sym (ap (mark_at 125) (past_end (comma_by (part_by one)) n bytes none)) ∙ e)
  | inr found ↦
      let p = found.0 in
      let comma = comma_was (part_by one) bytes p found.1 in
      let x = blanks_were comma.rest in
      part_passed d bytes rest x.0 comma.rest (past_blanks comma.rest) p.1 (mark_at_was 44 bytes (comma.here, comma.rest) comma.is) x.1 x.2
      (part_sound d one sound (past_blanks comma.rest) p comma.on)
      (parts_sound d one sound n p.1 rest (sym (ap (mark_at 125) (past_on (comma_by (part_by one)) n bytes p found.1)) ∙ e))
]

-- ---- braces as a whole

closed_was : (one : Reader (Unit {0})) (rest : List ℕ) (p : Unit {0} × List ℕ) → closed_by one rest ≡ Some p → mark_at 125 (past_all (comma_by one) (length rest) rest) ≡ Some p
unfolding closed_by
closed_was one rest p e = e

group_brace : (x r : List ℕ) → 123 ∷ (x ++ (125 ∷ r)) ≡ (123 ∷ (x ++ (125 ∷ []))) ++ r
group_brace x r = simp append_assoc

group_first : (x t y more r : List ℕ) → 123 ∷ (x ++ (t ++ (y ++ (more ++ r)))) ≡ (123 ∷ (x ++ (t ++ (y ++ more)))) ++ r
group_first x t y more r = simp append_assoc

group_first_part : (x w g t y more r : List ℕ) → 123 ∷ (x ++ (w ++ (g ++ (t ++ (y ++ (more ++ r)))))) ≡ (123 ∷ (x ++ (w ++ (g ++ (t ++ (y ++ more)))))) ++ r
group_first_part x w g t y more r = simp append_assoc

module _ (d : ℕ) (one : Reader (Unit {0})) (sound : IsSound d one) (x b : List ℕ) (bx : AreBlanks x) where
  none_sound : (rest : List ℕ) → b ≡ 125 ∷ rest → IsSpelt (suc d) (123 ∷ (x ++ b)) rest
  none_sound rest e = record {
    form = Items no_item;
    text = 123 ∷ (x ++ (125 ∷ []));
    front = ap (λ bs. 123 ∷ (x ++ bs)) e ∙ group_brace x rest;
    spelt = are_none x bx;
    nested = omega arith;
  }

  braced_items : (after rest : List ℕ) → IsSpelt d b after → ItemsPassed d after rest → IsSpelt (suc d) (123 ∷ (x ++ b)) rest
  braced_items after rest first others = record {
    form = Items (item first.form others.items);
    text = 123 ∷ (x ++ (first.text ++ (others.blanks ++ others.more)));
    front = ap (λ bs. 123 ∷ (x ++ bs)) (first.front ∙ ap (λ bs. first.text ++ bs) others.front) ∙ group_first x first.text others.blanks others.more rest;
    spelt = are_items x others.blanks bx first.spelt others.are others.goes;
    nested = omega (arith, first.nested, others.nested);
  }

  braced_parts : (after rest : List ℕ) → PartSpelt d b after → PartsPassed d after rest → IsSpelt (suc d) (123 ∷ (x ++ b)) rest
  braced_parts after rest first others = record {
    form = Parts (part first.name first.form others.parts);
    text = 123 ∷ (x ++ (first.name ++ (first.gap ++ (first.text ++ (others.blanks ++ others.more)))));
    front = ap (λ bs. 123 ∷ (x ++ bs)) (first.front ∙ ap (λ bs. first.name ++ (first.gap ++ (first.text ++ bs))) others.front)
        ∙ group_first_part x first.name first.gap first.text others.blanks others.more rest;
    spelt = are_parts x first.name first.gap others.blanks bx first.named first.are first.apart first.spelt others.are others.goes;
    nested = omega (arith, first.nested, others.nested);
  }

  braces_sound : (p : Unit {0} × List ℕ) → braces_by one b ≡ Some p → IsSpelt (suc d) (123 ∷ (x ++ b)) p.1
  unfolding braces_by
  braces_sound p e = elim (or_was (mark_here 125 b) _ (λ _ rest. Some (tt, rest)) p e) [
    | inl end ↦ none_sound p.1 (mark_was 125 b (end.here, end.rest) end.is ∙ ap (λ r. 125 ∷ r) (ap (λ (q : Unit {0} × List ℕ). q.1) (same_value _ p end.on)))
    | inr more ↦ elim (or_was (part_by one b) _ (λ _ rest. closed_by (part_by one) rest) p more.1) [
      | inl first ↦
          braced_parts first.rest p.1 (part_sound d one sound b (first.here, first.rest) first.is)
          (parts_sound d one sound (length first.rest) first.rest p.1 (closed_was (part_by one) first.rest p first.on))
      | inr other ↦
          let first = then_was (one b) (λ _ rest. closed_by one rest) p other.1 in
          braced_items first.rest p.1 (sound b first.rest first.is)
          (items_sound d one sound (length first.rest) first.rest p.1 (closed_was one first.rest p first.on))
    ]
  ]

-- ---- forms

word_sound_flat : (d : ℕ) (bytes w r rest : List ℕ) → IsWordAt bytes w r → past_word None (truth_of w) r ≡ rest → IsSpelt d bytes rest
word_sound_flat d bytes w r rest at e = elim (truths (truth_of w)) [
  | inl none ↦ subst (IsSpelt d bytes) (sym (ap (λ o. past_word None o r) none) ∙ e) (name_sound d bytes w r at none)
  | inr some ↦ subst (IsSpelt d bytes) (sym (ap (λ o. past_word None o r) some.1) ∙ e) (truth_sound d bytes w r some.0 at some.1)
]

word_sound : (d : ℕ) (one : Reader (Unit {0})) → IsSound d one → (bytes w r rest : List ℕ) → IsWordAt bytes w r → past_word (Some one) (truth_of w) r ≡ rest → IsSpelt (suc d) bytes rest
word_sound d one sound bytes w r rest at e = elim (truths (truth_of w)) [
  | inl none ↦ choice_sound d one sound bytes w r rest at none (sym (ap (λ o. past_word (Some one) o r) none) ∙ e)
  | inr some ↦ subst (IsSpelt (suc d) bytes) (sym (ap (λ o. past_word (Some one) o r) some.1) ∙ e) (truth_sound (suc d) bytes w r some.0 at some.1)
]

same_end : (r : List ℕ) (p : Unit {0} × List ℕ) → Some (tt, r) ≡ Some p → r ≡ p.1
same_end r p e = ap (λ (q : Unit {0} × List ℕ). q.1) (same_value (tt, r) p e)

flat_sound : (d : ℕ) (bytes : List ℕ) (p : Unit {0} × List ℕ) → form_by None bytes ≡ Some p → IsSpelt d bytes p.1
unfolding form_by
flat_sound d bytes p e = elim (or_was (digits_at bytes) _ (λ _ rest. Some (tt, rest)) p e) [
  | inl digits ↦ subst (IsSpelt d bytes) (same_end digits.rest p digits.on) (digits_sound d bytes (digits.here, digits.rest) digits.is)
  | inr a ↦ elim (or_was (minus_digits_at bytes) _ (λ _ rest. Some (tt, rest)) p a.1) [
    | inl minus ↦ subst (IsSpelt d bytes) (same_end minus.rest p minus.on) (minus_sound d bytes (minus.here, minus.rest) minus.is)
    | inr b ↦ elim (or_was (word_at bytes) _ (λ w rest. Some (tt, past_word None (truth_of w) rest)) p b.1) [
      | inl word ↦ word_sound_flat d bytes word.here word.rest p.1 (word_was bytes (word.here, word.rest) word.is) (same_end _ p word.on)
      | inr c ↦ absurd (none-some p c.1)
    ]
  ]
]

deep_sound : (d : ℕ) (one : Reader (Unit {0})) → IsSound d one → (bytes : List ℕ) (p : Unit {0} × List ℕ) → form_by (Some one) bytes ≡ Some p → IsSpelt (suc d) bytes p.1
unfolding form_by
deep_sound d one sound bytes p e = elim (or_was (digits_at bytes) _ (λ _ rest. Some (tt, rest)) p e) [
  | inl digits ↦ subst (IsSpelt (suc d) bytes) (same_end digits.rest p digits.on) (digits_sound (suc d) bytes (digits.here, digits.rest) digits.is)
  | inr a ↦ elim (or_was (minus_digits_at bytes) _ (λ _ rest. Some (tt, rest)) p a.1) [
    | inl minus ↦ subst (IsSpelt (suc d) bytes) (same_end minus.rest p minus.on) (minus_sound (suc d) bytes (minus.here, minus.rest) minus.is)
    | inr b ↦ elim (or_was (word_at bytes) _ (λ w rest. Some (tt, past_word (Some one) (truth_of w) rest)) p b.1) [
      | inl word ↦ word_sound d one sound bytes word.here word.rest p.1 (word_was bytes (word.here, word.rest) word.is) (same_end _ p word.on)
      | inr c ↦
          let open_was = then_was (mark_here 123 bytes) (λ _ more. braces_by one (past_blanks more)) p c.1 in
          let x = blanks_were open_was.rest in
          subst (λ bs. IsSpelt (suc d) bs p.1) (sym (mark_was 123 bytes (open_was.here, open_was.rest) open_was.is ∙ ap (λ bs. 123 ∷ bs) x.2))
          (braces_sound d one sound x.0 (past_blanks open_was.rest) x.1 p open_was.on)
    ]
  ]
]

pub sound : (d : ℕ) → IsSound d (form_at d)
unfolding form_at
sound zero bytes rest e = flat_sound zero bytes (tt, rest) e
sound (suc d) bytes rest e = deep_sound d (form_at d) (sound d) bytes (tt, rest) e
