-- Texts and values one after the other, as loops read and write them.
use Rattle.std.proofs.Common.{◌≡◌, ℕ, zero, suc, ◌-◌, ◌+◌, ◌≤◌, ◌<◌, ◌==◌, true, false, List, [], ◌∷◌, ◌++◌, length, drop, get_or, slice_get, map, Bor, Option, Some, None, option_map, codes, refl, sym, ap, ◌∙◌, append_assoc, arith}
use Rattle.std.proofs.lemmas.List.{append-nil, at_drop_more, at_drop_all, length-drop}
use Rattle.std.proofs.lemmas.Option.{none-some}
use Rattle.std.proofs.lemmas.Bool.{false≢true, eqb-true}
use Rattle.og_types.specs.declared.TypeId.{TypeId}
use Rattle.og_types.specs.declared.Value.{Value}
use Rattle.og_model.specs.declared.Model.{Model}
use Rattle.og_model.specs.declared.Variable.{Variable}
use Rattle.og_value.specs.Shows.{shown, separated, comma_before}
use Rattle.og_value.proofs.Within.{there, drop_past}
use Rattle.og_stim.specs.Scans.{Piece, piece_in, texts_by, texts_within}
use Rattle.og_stim.specs.Stimuli.{value_read, value_with, values_read}
use Rattle.og_stim.specs.Trace.{value_texts, arguments_text, var_line, var_lines}

abbrev pub with_front : {X : Type 0} → List X → Option (List X) → Option (List X)
with_front front found = option_map (λ xs. front ++ xs) found

regroup : {X : Type 0} (front : List X) (x : X) (found : Option (List X))
    → with_front front (option_map (λ xs. x ∷ xs) found) ≡ with_front (front ++ x ∷ []) found
regroup {X = X} front x None = refl
regroup {X = X} front x (Some xs) = ap (λ (ys : List X). Some ys) (sym (append_assoc front (x ∷ []) xs))

no_front : {X : Type 0} (found : Option (List X)) → with_front [] found ≡ found
no_front None = refl
no_front (Some xs) = refl

-- ---- texts that are lent

abbrev pub lent : List (Bor (List ℕ)) → List (List ℕ)
lent texts = map (λ t. t.now) texts

lent_more : (old : List (Bor (List ℕ))) (text : Bor (List ℕ)) → lent (old ++ text ∷ []) ≡ lent old ++ text.now ∷ []
lent_more [] text = refl
lent_more (t ∷ old) text = ap (λ ts. t.now ∷ ts) (lent_more old text)

pushed : (old new : List (Bor (List ℕ))) (text : Bor (List ℕ)) → new ≡ old ++ text ∷ [] → lent new ≡ lent old ++ text.now ∷ []
pushed old new text e = ap lent e ∙ lent_more old text

lent_at : (texts : List (Bor (List ℕ))) (i : ℕ) (text : Bor (List ℕ)) → Some text ≡ slice_get texts i → Some (text.now) ≡ slice_get (lent texts) i
lent_at [] zero text e = absurd (none-some text (sym e))
lent_at [] (suc i) text e = absurd (none-some text (sym e))
lent_at (t ∷ texts) zero text e = ap (option_map (λ (u : Bor (List ℕ)). u.now)) e
lent_at (t ∷ texts) (suc i) text e = lent_at texts i text e

none_lent : (texts : List (Bor (List ℕ))) (i : ℕ) → None ≡ slice_get texts i → None ≡ slice_get (lent texts) i
none_lent [] zero e = refl
none_lent [] (suc i) e = refl
none_lent (t ∷ texts) zero e = absurd (none-some t e)
none_lent (t ∷ texts) (suc i) e = none_lent texts i e

-- ---- texts of a line

-- the texts so far, with those that at most `left` more turns read, are all
pub record SoFar (front : List (List ℕ)) (left : ℕ) (rest : List ℕ) (total : Option (List (List ℕ))) : Type 0 where
  pub is : with_front front (texts_within left rest) ≡ total

pub so_far_first : (bytes : List ℕ) (n : ℕ) → SoFar [] (n - 0) bytes (texts_within n bytes)
so_far_first bytes n =
    let k : n - 0 ≡ n = omega arith in
    record { is = no_front (texts_within (n - 0) bytes) ∙ ap (λ (m : ℕ). texts_within m bytes) k }

turn : (n : ℕ) (rest : List ℕ) (piece : Option Piece) → piece ≡ piece_in rest → texts_within (suc n) rest ≡ texts_by (texts_within n) piece
unfolding texts_within
turn n rest piece e = ap (texts_by (texts_within n)) (sym e)

one_turn : (n i : ℕ) (rest : List ℕ) (piece : Option Piece) → i < n → piece ≡ piece_in rest → texts_within (n - i) rest ≡ texts_by (texts_within (n - (i + 1))) piece
one_turn n i rest piece lt e =
    let k : n - i ≡ suc (n - (i + 1)) = omega arith in
    ap (λ (m : ℕ). texts_within m rest) k ∙ turn (n - (i + 1)) rest piece e

-- the text of a value and what stands behind its comma, as code has them
abbrev pub IsPiece : List ℕ → Bor (List ℕ) → Option (Bor (List ℕ)) → Type 0
IsPiece rest text more = Some (text.now, option_map (λ (m : Bor (List ℕ)). m.now) more) ≡ piece_in rest

pub so_far_more : (old new : List (Bor (List ℕ))) (n i : ℕ) (rest : List ℕ) (text m : Bor (List ℕ)) (more : Option (Bor (List ℕ))) (total : Option (List (List ℕ)))
    → i < n → IsPiece rest text more → more ≡ Some m → new ≡ old ++ text ∷ [] → SoFar (lent old) (n - i) rest total → SoFar (lent new) (n - (i + 1)) m.now total
so_far_more old new n i rest text m more total lt piece is e so_far =
    let here : Some (text.now, Some m.now) ≡ piece_in rest = ap (λ o. Some (text.now, option_map (λ (u : Bor (List ℕ)). u.now) o)) (sym is) ∙ piece in
    record {
      is = ap (λ front. with_front front (texts_within (n - (i + 1)) m.now)) (pushed old new text e)
          ∙ sym (ap (with_front (lent old)) (one_turn n i rest (Some (text.now, Some m.now)) lt here) ∙ regroup (lent old) text.now (texts_within (n - (i + 1)) m.now))
          ∙ so_far.is;
    }

pub so_far_last : (old new : List (Bor (List ℕ))) (n i : ℕ) (rest : List ℕ) (text : Bor (List ℕ)) (more : Option (Bor (List ℕ))) (total : Option (List (List ℕ)))
    → i < n → IsPiece rest text more → more ≡ None → new ≡ old ++ text ∷ [] → SoFar (lent old) (n - i) rest total → Some (lent new) ≡ total
so_far_last old new n i rest text more total lt piece is e so_far =
    let here : Some (text.now, None) ≡ piece_in rest = ap (λ o. Some (text.now, option_map (λ (u : Bor (List ℕ)). u.now) o)) (sym is) ∙ piece in
    ap (λ (ts : List (List ℕ)). Some ts) (pushed old new text e)
    ∙ sym (ap (with_front (lent old)) (one_turn n i rest (Some (text.now, None)) lt here)) ∙ so_far.is

pub so_far_none : (front : List (List ℕ)) (n i : ℕ) (rest : List ℕ) (total : Option (List (List ℕ)))
    → i < n → None ≡ piece_in rest → SoFar front (n - i) rest total → None ≡ total
so_far_none front n i rest total lt e so_far = sym (ap (with_front front) (one_turn n i rest None lt e)) ∙ so_far.is

pub so_far_end : (front : List (List ℕ)) (n i : ℕ) (rest : List ℕ) (total : Option (List (List ℕ)))
    → n ≤ i → SoFar front (n - i) rest total → None ≡ total
unfolding texts_within
so_far_end front n i rest total le so_far =
    let k : n - i ≡ 0 = omega arith in
    sym (ap (λ (m : ℕ). with_front front (texts_within m rest)) k) ∙ so_far.is

-- ---- values of a stimulus

-- the values so far, with those of the types from the i-th on, are all
pub record Through (M : Model) (front : List Value) (sorts : List TypeId) (texts : List (List ℕ)) (i : ℕ) (total : Option (List Value)) : Type 0 where
  pub is : with_front front (values_read M (drop i sorts) (drop i texts)) ≡ total

module _ (M : Model) (sorts : List TypeId) (texts : List (Bor (List ℕ))) where
  pub through_first : Through M [] sorts (lent texts) 0 (values_read M sorts (lent texts))
  through_first = record { is = no_front (values_read M sorts (lent texts)) }

  here : (i : ℕ) (d : TypeId) (text : Bor (List ℕ)) → i < length sorts → Some text ≡ slice_get texts i
      → values_read M (drop i sorts) (drop i (lent texts)) ≡ value_with (value_read M (get_or sorts i d) text.now) (values_read M (drop (i + 1) sorts) (drop (i + 1) (lent texts)))
  here i d text lt some =
      at_drop_more (λ (ss : List TypeId). values_read M ss (drop i (lent texts))) sorts i d lt
      ∙ there (values_read M (get_or sorts i d ∷ drop (i + 1) sorts)) (lent texts) i text.now (lent_at texts i text some)

  pub through_more : (front next : List Value) (i : ℕ) (d : TypeId) (text : Bor (List ℕ)) (v : Value) (total : Option (List Value))
      → i < length sorts → Some text ≡ slice_get texts i → Some v ≡ value_read M (get_or sorts i d) text.now → next ≡ front ++ v ∷ []
      → Through M front sorts (lent texts) i total → Through M next sorts (lent texts) (i + 1) total
  through_more front next i d text v total lt some e n so_far =
      let rest = values_read M (drop (i + 1) sorts) (drop (i + 1) (lent texts)) in
      record {
        is = ap (λ vs. with_front vs rest) n
            ∙ sym (ap (with_front front) (here i d text lt some ∙ ap (λ o. value_with o rest) (sym e)) ∙ regroup front v rest) ∙ so_far.is;
      }

  pub through_none : (front : List Value) (i : ℕ) (d : TypeId) (text : Bor (List ℕ)) (total : Option (List Value))
      → i < length sorts → Some text ≡ slice_get texts i → None ≡ value_read M (get_or sorts i d) text.now
      → Through M front sorts (lent texts) i total → None ≡ total
  through_none front i d text total lt some e so_far =
      let rest = values_read M (drop (i + 1) sorts) (drop (i + 1) (lent texts)) in
      sym (ap (with_front front) (here i d text lt some ∙ ap (λ o. value_with o rest) (sym e))) ∙ so_far.is

  too_few : (ss : List TypeId) → 0 < length ss → values_read M ss [] ≡ None
  too_few [] some = absurd (omega (arith, some))
  too_few (s ∷ ss) some = refl

  pub through_short : (front : List Value) (i : ℕ) (total : Option (List Value))
      → i < length sorts → None ≡ slice_get texts i → Through M front sorts (lent texts) i total → None ≡ total
  through_short front i total lt none so_far =
      let left : 0 < length (drop i sorts) = omega (arith, lt, length-drop i sorts) in
      sym (ap (with_front front) (ap (values_read M (drop i sorts)) (drop_past (lent texts) i (none_lent texts i none)) ∙ too_few (drop i sorts) left))
      ∙ so_far.is

-- ---- values that are written

-- the texts from the i-th on, each with what stands before it
unfoldable pub from_place : ℕ → List (List ℕ) → List ℕ
from_place i [] = []
from_place i (text ∷ texts) = comma_before i ++ (text ++ from_place (i + 1) texts)

behind_one : (i : ℕ) (text : List ℕ) (texts : List (List ℕ)) → from_place (suc i) (text ∷ texts) ≡ codes ", " ++ separated (text ∷ texts)
unfolding from_place
behind_one i text [] = ap (λ xs. codes ", " ++ xs) (append-nil text)
behind_one i text (other ∷ texts) =
    let n : suc i + 1 ≡ suc (suc i) = omega arith in
    ap (λ m. codes ", " ++ (text ++ from_place m (other ∷ texts))) n
    ∙ ap (λ xs. codes ", " ++ (text ++ xs)) (behind_one (suc i) other texts)

from_first : (texts : List (List ℕ)) → from_place 0 texts ≡ separated texts
unfolding from_place
from_first [] = refl
from_first (text ∷ []) = append-nil text
from_first (text ∷ other ∷ texts) = ap (λ xs. text ++ xs) (behind_one 0 other texts)

-- the bytes so far, with the texts from the i-th on, are all
pub record Writes (M : Model) (now : List ℕ) (sorts : List TypeId) (vs : List Value) (i : ℕ) (total : List ℕ) : Type 0 where
  pub is : now ++ from_place i (value_texts M (drop i sorts) (drop i vs)) ≡ total

further : (now : List ℕ) (i : ℕ) (text : List ℕ) (texts : List (List ℕ)) → now ++ from_place i (text ∷ texts) ≡ (now ++ comma_before i) ++ (text ++ from_place (i + 1) texts)
unfolding from_place
further now i text texts = sym (append_assoc now (comma_before i) (text ++ from_place (i + 1) texts))

none_left : (now : List ℕ) (i : ℕ) → now ++ from_place i [] ≡ now
unfolding from_place
none_left now i = append-nil now

module _ (M : Model) (sorts : List TypeId) (vs : List Value) where
  pub writes_first : (old : List ℕ) → Writes M old sorts vs 0 (old ++ separated (value_texts M sorts vs))
  writes_first old = record { is = ap (λ xs. old ++ xs) (from_first (value_texts M sorts vs)) }

  pub writes_more : (now comma next : List ℕ) (i : ℕ) (d : TypeId) (v : Value) (total : List ℕ)
      → i < length sorts → Some v ≡ slice_get vs i → comma ≡ now ++ comma_before i → next ≡ comma ++ shown M.types M.names (get_or sorts i d) v
      → Writes M now sorts vs i total → Writes M next sorts vs (i + 1) total
  writes_more now comma next i d v total lt some c t so_far =
      let text = shown M.types M.names (get_or sorts i d) v in
      let texts = value_texts M (drop (i + 1) sorts) (drop (i + 1) vs) in
      let both : now ++ from_place i (value_texts M (drop i sorts) (drop i vs)) ≡ now ++ from_place i (text ∷ texts) =
      at_drop_more (λ ss. now ++ from_place i (value_texts M ss (drop i vs))) sorts i d lt
      ∙ there (λ us. now ++ from_place i (value_texts M (get_or sorts i d ∷ drop (i + 1) sorts) us)) vs i v some in
      record {
        is = ap (λ xs. xs ++ from_place (i + 1) texts) (t ∙ ap (λ xs. xs ++ text) c)
            ∙ append_assoc (now ++ comma_before i) text (from_place (i + 1) texts)
            ∙ sym (both ∙ further now i text texts) ∙ so_far.is;
      }

  no_texts : (sorts : List TypeId) → value_texts M sorts [] ≡ []
  no_texts [] = refl
  no_texts (s ∷ sorts) = refl

  pub writes_short : (now : List ℕ) (i : ℕ) (total : List ℕ) → None ≡ slice_get vs i → Writes M now sorts vs i total → now ≡ total
  writes_short now i total none so_far =
      let nothing : value_texts M (drop i sorts) (drop i vs) ≡ [] =
      ap (value_texts M (drop i sorts)) (drop_past vs i none) ∙ no_texts (drop i sorts) in
      sym (ap (λ ts. now ++ from_place i ts) nothing ∙ none_left now i) ∙ so_far.is

  pub writes_end : (now : List ℕ) (i : ℕ) (total : List ℕ) → length sorts ≤ i → Writes M now sorts vs i total → now ≡ total
  writes_end now i total le so_far =
      sym (at_drop_all (λ ss. now ++ from_place i (value_texts M ss (drop i vs))) sorts i le ∙ none_left now i) ∙ so_far.is

-- brackets stand where there is a type and a value

not_none : (n : ℕ) → (suc n == 0) ≡ true → ⊥
not_none n e = let same = eqb-true (suc n) 0 e in omega (arith, same)

pub no_types : (M : Model) (sorts : List TypeId) (vs : List Value) (out : List ℕ) → (length sorts == 0) ≡ true → out ≡ out ++ arguments_text M sorts vs
no_types M [] vs out none = sym (append-nil out)
no_types M (s ∷ sorts) vs out none = absurd (not_none (length sorts) none)

pub no_values : (M : Model) (sorts : List TypeId) (vs : List Value) (out : List ℕ) → (length vs == 0) ≡ true → out ≡ out ++ arguments_text M sorts vs
no_values M [] [] out none = sym (append-nil out)
no_values M (s ∷ sorts) [] out none = sym (append-nil out)
no_values M sorts (v ∷ vs) out none = absurd (not_none (length vs) none)

pub in_both : (M : Model) (sorts : List TypeId) (vs : List Value) → (length sorts == 0) ≡ false → (length vs == 0) ≡ false
    → codes "(" ++ separated (value_texts M sorts vs) ++ codes ")" ≡ arguments_text M sorts vs
in_both M [] vs some more = absurd (false≢true (sym some))
in_both M (s ∷ sorts) [] some more = absurd (false≢true (sym more))
in_both M (s ∷ sorts) (v ∷ vs) some more = refl

-- ---- variables that are written

pub record Lines (M : Model) (now : List ℕ) (xs : List Variable) (vs : List Value) (i : ℕ) (total : List ℕ) : Type 0 where
  pub is : now ++ var_lines M (drop i xs) (drop i vs) ≡ total

module _ (M : Model) (xs : List Variable) (vs : List Value) where
  pub lines_first : (old : List ℕ) → Lines M old xs vs 0 (old ++ var_lines M xs vs)
  lines_first old = record { is = refl }

  pub lines_more : (now next : List ℕ) (i : ℕ) (x : Variable) (v : Value) (total : List ℕ)
      → i < length xs → x ≡ get_or xs i x → Some v ≡ slice_get vs i → next ≡ now ++ var_line M x v
      → Lines M now xs vs i total → Lines M next xs vs (i + 1) total
  lines_more now next i x v total lt at some t so_far =
      let rest = var_lines M (drop (i + 1) xs) (drop (i + 1) vs) in
      let both : now ++ var_lines M (drop i xs) (drop i vs) ≡ now ++ (var_line M x v ++ rest) =
      at_drop_more (λ ys. now ++ var_lines M ys (drop i vs)) xs i x lt
      ∙ ap (λ y. now ++ var_lines M (y ∷ drop (i + 1) xs) (drop i vs)) (sym at)
      ∙ there (λ us. now ++ var_lines M (x ∷ drop (i + 1) xs) us) vs i v some in
      record { is = ap (λ bs. bs ++ rest) t ∙ append_assoc now (var_line M x v) rest ∙ sym both ∙ so_far.is }

  no_lines : (ys : List Variable) → var_lines M ys [] ≡ []
  no_lines [] = refl
  no_lines (y ∷ ys) = refl

  pub lines_short : (now : List ℕ) (i : ℕ) (total : List ℕ) → None ≡ slice_get vs i → Lines M now xs vs i total → now ≡ total
  lines_short now i total none so_far =
      let nothing : var_lines M (drop i xs) (drop i vs) ≡ [] = ap (var_lines M (drop i xs)) (drop_past vs i none) ∙ no_lines (drop i xs) in
      sym (ap (λ ts. now ++ ts) nothing ∙ append-nil now) ∙ so_far.is

  pub lines_end : (now : List ℕ) (i : ℕ) (total : List ℕ) → length xs ≤ i → Lines M now xs vs i total → now ≡ total
  lines_end now i total le so_far =
      sym (at_drop_all (λ ys. now ++ var_lines M ys (drop i vs)) xs i le ∙ append-nil now) ∙ so_far.is
