-- Writing texts one after the other, and what stays where memory cannot be had.
use Rattle.std.proofs.Common.{◌≡◌, ◌≤◌, ◌<◌, ℕ, suc, ◌+◌, codes, take, List, [], ◌∷◌, ◌++◌, length, map, drop, get_or, slice_get, Option, Some, None, refl, sym, ap, ◌∙◌, append_assoc, arith}
use Rattle.std.proofs.lemmas.List.{append-nil, at_drop_more, at_drop_all}
use Rattle.og_types.specs.declared.TypeId.{TypeId}
use Rattle.og_types.specs.declared.Sort.{Sort}
use Rattle.og_types.specs.declared.Value.{Value, out-Value}
use Rattle.og_types.specs.declared.Part.{Part}
use Rattle.og_value.specs.Reads.{Names}
use Rattle.og_value.specs.Shows.{text_within, text_of_sort, part_text, part_texts, separated, comma_before}
use Rattle.og_value.specs.Answers.{Keeps}
use Rattle.og_value.proofs.Within.{there, drop_past}

-- ---- what stays

pub keeps_all : (old : List ℕ) → Keeps old old
keeps_all old = record { more = []; is = sym (append-nil old) }

pub keeps_more : (old new more : List ℕ) → new ≡ old ++ more → Keeps old new
keeps_more old new more e = record { more = more; is = e }

pub keeps_then : (a b c : List ℕ) → Keeps a b → Keeps b c → Keeps a c
keeps_then a b c first second =
    record { more = first.more ++ second.more; is = second.is ∙ ap (λ xs. xs ++ second.more) first.is ∙ append_assoc a first.more second.more }

pub old_front : (old more : List ℕ) → take (length old) (old ++ more) ≡ old
old_front [] more = refl
old_front (x ∷ old) more = ap (λ xs. x ∷ xs) (old_front old more)

pub cut_back : (old new : List ℕ) → Keeps old new → take (length old) new ≡ old
cut_back old new kept = ap (take (length old)) kept.is ∙ old_front old kept.more

-- ---- one level

pub text_is : (depth inner : ℕ) (types : List Sort) (names : Names) (id : TypeId) (v : Value) (o : Option Sort) → depth ≡ suc inner → o ≡ slice_get types id.0
    → text_within depth types names id v ≡ text_of_sort (text_within inner types names) names o (out-Value v)
text_is depth inner types names id v o d e =
    ap (λ n. text_within n types names id v) d ∙ ap (λ p. text_of_sort (text_within inner types names) names p (out-Value v)) (sym e)

-- ---- texts with a comma between two

-- the texts from the i-th on
pub from_place : ℕ → List (List ℕ) → List ℕ
from_place i [] = []
from_place i (text ∷ texts) = comma_before i ++ (text ++ from_place (suc i) texts)

further : (i : ℕ) (text : List ℕ) (texts : List (List ℕ)) → from_place (suc i) (text ∷ texts) ≡ codes ", " ++ separated (text ∷ texts)
unfolding from_place
further i text [] = ap (λ xs. codes ", " ++ xs) (append-nil text)
further i text (other ∷ texts) = ap (λ xs. codes ", " ++ (text ++ xs)) (further (suc i) other texts)

from_first : (texts : List (List ℕ)) → from_place 0 texts ≡ separated texts
unfolding from_place
from_first [] = refl
from_first (text ∷ []) = append-nil text
from_first (text ∷ other ∷ texts) = ap (λ xs. text ++ xs) (further 0 other texts)

-- the bytes so far, with the texts from the i-th on, are all
pub record Writes (old now : List ℕ) (i : ℕ) (texts : List (List ℕ)) (total : List ℕ) : Type 0 where
  pub is : now ++ from_place i texts ≡ total
  pub kept : Keeps old now

writes_text : (old now comma next : List ℕ) (i : ℕ) (text : List ℕ) (texts : List (List ℕ)) (total : List ℕ)
    → comma ≡ now ++ comma_before i → next ≡ comma ++ text → Writes old now i (text ∷ texts) total → Writes old next (i + 1) texts total
unfolding from_place
writes_text old now comma next i text texts total c t so_far =
    let n : i + 1 ≡ suc i = omega arith in
    let more : List ℕ = from_place (suc i) texts in
    record {
      is = ap (λ m. next ++ from_place m texts) n
          ∙ ap (λ xs. xs ++ more) (t ∙ ap (λ xs. xs ++ text) c)
          ∙ append_assoc (now ++ comma_before i) text more
          ∙ append_assoc now (comma_before i) (text ++ more)
          ∙ so_far.is;
      kept = keeps_then old now next so_far.kept
          (keeps_then now comma next (keeps_more now comma (comma_before i) c) (keeps_more comma next text t));
    }

writes_all : (old now : List ℕ) (i : ℕ) (total : List ℕ) → Writes old now i [] total → now ≡ total
unfolding from_place
writes_all old now i total so_far = sym (append-nil now) ∙ so_far.is

-- ---- items

pub items_first : (show : Value → List ℕ) (vs : List Value) (old : List ℕ) → Writes old old 0 (map show (drop 0 vs)) (old ++ separated (map show vs))
items_first show vs old = record { is = ap (λ xs. old ++ xs) (from_first (map show vs)); kept = keeps_all old }

pub items_more : (show : Value → List ℕ) (vs : List Value) (v : Value) (old now comma next : List ℕ) (i : ℕ) (total : List ℕ)
    → i < length vs → v ≡ get_or vs i v → comma ≡ now ++ comma_before i → next ≡ comma ++ show v
    → Writes old now i (map show (drop i vs)) total → Writes old next (i + 1) (map show (drop (i + 1) vs)) total
items_more show vs v old now comma next i total lt at c t so_far =
    let one : now ++ from_place i (map show (drop i vs)) ≡ now ++ from_place i (show v ∷ map show (drop (i + 1) vs)) =
    at_drop_more (λ us. now ++ from_place i (map show us)) vs i v lt
    ∙ ap (λ u. now ++ from_place i (show u ∷ map show (drop (i + 1) vs))) (sym at) in
    writes_text old now comma next i (show v) (map show (drop (i + 1) vs)) total c t (record { is = sym one ∙ so_far.is; kept = so_far.kept })

pub items_end : (show : Value → List ℕ) (vs : List Value) (old now : List ℕ) (i : ℕ) (total : List ℕ)
    → length vs ≤ i → Writes old now i (map show (drop i vs)) total → now ≡ total
items_end show vs old now i total le so_far =
    writes_all old now i total
    (record { is = sym (at_drop_all (λ us. now ++ from_place i (map show us)) vs i le) ∙ so_far.is; kept = so_far.kept })

-- ---- components

abbrev pub parts_from : (TypeId → Value → List ℕ) → Names → List Part → List Value → ℕ → List (List ℕ)
parts_from show names parts vs i = part_texts show names (drop i parts) (drop i vs)

pub parts_first : (show : TypeId → Value → List ℕ) (names : Names) (parts : List Part) (vs : List Value) (old : List ℕ)
    → Writes old old 0 (parts_from show names parts vs 0) (old ++ separated (part_texts show names parts vs))
parts_first show names parts vs old = record { is = ap (λ xs. old ++ xs) (from_first (part_texts show names parts vs)); kept = keeps_all old }

pub parts_more : (show : TypeId → Value → List ℕ) (names : Names) (parts : List Part) (vs : List Value) (d : Part) (v : Value)
    (old now comma next : List ℕ) (i : ℕ) (total : List ℕ)
    → i < length parts → Some v ≡ slice_get vs i → comma ≡ now ++ comma_before i → next ≡ comma ++ part_text show names (get_or parts i d) v
    → Writes old now i (parts_from show names parts vs i) total → Writes old next (i + 1) (parts_from show names parts vs (i + 1)) total
parts_more show names parts vs d v old now comma next i total lt some c t so_far =
    let both : now ++ from_place i (parts_from show names parts vs i)
    ≡ now ++ from_place i (part_text show names (get_or parts i d) v ∷ parts_from show names parts vs (i + 1)) =
    at_drop_more (λ ps. now ++ from_place i (part_texts show names ps (drop i vs))) parts i d lt
    ∙ there (λ us. now ++ from_place i (part_texts show names (get_or parts i d ∷ drop (i + 1) parts) us)) vs i v some in
    writes_text old now comma next i (part_text show names (get_or parts i d) v) (parts_from show names parts vs (i + 1)) total c t
    (record { is = sym both ∙ so_far.is; kept = so_far.kept })

no_texts : (show : TypeId → Value → List ℕ) (names : Names) (parts : List Part) → part_texts show names parts [] ≡ []
no_texts show names [] = refl
no_texts show names (p ∷ parts) = refl

pub parts_none : (show : TypeId → Value → List ℕ) (names : Names) (parts : List Part) (vs : List Value) (old now : List ℕ) (i : ℕ) (total : List ℕ)
    → None ≡ slice_get vs i → Writes old now i (parts_from show names parts vs i) total → now ≡ total
parts_none show names parts vs old now i total none so_far =
    let nothing : parts_from show names parts vs i ≡ [] =
    ap (part_texts show names (drop i parts)) (drop_past vs i none) ∙ no_texts show names (drop i parts) in
    writes_all old now i total (record { is = sym (ap (λ ts. now ++ from_place i ts) nothing) ∙ so_far.is; kept = so_far.kept })

pub parts_end : (show : TypeId → Value → List ℕ) (names : Names) (parts : List Part) (vs : List Value) (old now : List ℕ) (i : ℕ) (total : List ℕ)
    → length parts ≤ i → Writes old now i (parts_from show names parts vs i) total → now ≡ total
parts_end show names parts vs old now i total le so_far =
    writes_all old now i total
    (record { is = sym (at_drop_all (λ ps. now ++ from_place i (part_texts show names ps (drop i vs))) parts i le) ∙ so_far.is; kept = so_far.kept })

pub ruleset writing = (keeps_all, keeps_more, keeps_then, cut_back, items_first, items_more, items_end, parts_first, parts_more, parts_none, parts_end)
