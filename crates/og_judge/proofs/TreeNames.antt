-- Each name that modules have is one of their tokens: whatever holds of the places of all tokens, and of the place that stands where
-- a token is missing, holds of the places of all names.
use Rattle.std.proofs.Common.{◌≡◌, ◌∙◌, ℕ, zero, suc, ◌+◌, ◌-◌, Bool, true, false, if◌then◌else◌, List, [], ◌∷◌, ◌++◌, length, take, Option, Some, None, refl, sym, ap, subst}
use Rattle.std.specs.Prelude.{◌==◌, nat_lt, ◌&&◌}
use Rattle.std.specs.List.{AllByRecursion}
use Rattle.og_base.specs.declared.Place.{Place}
use Rattle.og_lexer.specs.declared.Spanned.{Spanned}
use Rattle.og_names.specs.declared.Word.{Word}
use Rattle.og_lexer.specs.AsnPieces.{is_asn_name}
use Rattle.og_asn1.specs.declared.syntax.Name.{Name}
use Rattle.og_asn1.specs.declared.syntax.RunTree.{RunTree}
use Rattle.og_asn1.specs.Reading.{Rest, Take, tail_of, behind, after, place_of, place_in, word_in, named_by, named, name_in, goes_on, choice_in, maybe, turns, onto, pushed, more_of, next, listed, passing, passed, behind_item, behind_items, behind_one, tokens_to, behind_run, run_in, bracket_in}

-- the place where a token is missing
abbrev pub no_place : Place
no_place = record { file = 0; line = 0; column = 0 }

-- a name has the place that it is given
named_by_place : (place : Place) (word : Word) (b : Bool) (e : is_asn_name word.bytes ≡ b) → (named_by place word b e).place ≡ place
named_by_place place word true e = refl
named_by_place place word false e = refl

pub named_place : (place : Place) (word : Word) → (named place word).place ≡ place
unfolding named
named_place place word = named_by_place place word (is_asn_name word.bytes) refl

abbrev pub NameIn : (Place → Type 0) → Name → Type 0
NameIn P name = P name.place

abbrev pub AreIn : (Place → Type 0) → List Spanned → Type 0
AreIn P tokens = AllByRecursion (λ (t : Spanned). P t.place) tokens

abbrev pub OptIn : {X : Type 0} → (X → Type 0) → Option X → Type 0
OptIn Q None = Unit {0}
OptIn Q (Some x) = Q x

abbrev pub RunIn : (Place → Type 0) → RunTree → Type 0
RunIn P run = AreIn P run.tokens

-- what is made is such, and so are the tokens that are left
abbrev pub Made : (Place → Type 0) → {X : Type 0} → (X → Type 0) → X × Rest → Type 0
Made P Q x = Q x.0 × AreIn P x.1.tokens

pub record Makes (P : Place → Type 0) {X : Type 0} (Q : X → Type 0) (p : Take X) : Type 0 where
  pub by : (rest : Rest) → AreIn P rest.tokens → Made P Q (p rest)

module _ (P : Place → Type 0) (start : P no_place) where
  pub if_in : {X : Type 0} (Q : X → Type 0) (b : Bool) (x y : X × Rest) → Made P Q x → Made P Q y → Made P Q (if b then x else y)
  if_in Q true x y p q = p
  if_in Q false x y p q = q

  -- ---- tokens

  pub tail_in : (tokens : List Spanned) → AreIn P tokens → AreIn P (tail_of tokens)
  tail_in [] all = tt
  tail_in (t ∷ ts) all = all.1

  pub place_of_in : (tokens : List Spanned) → AreIn P tokens → P (place_of tokens)
  place_of_in [] all = start
  place_of_in (t ∷ ts) all = all.0

  pub name_at : (rest : Rest) → AreIn P rest.tokens → NameIn P (name_in rest)
  name_at rest all = subst P (sym (named_place (place_in rest) (word_in rest))) (place_of_in rest.tokens all)

  take_in : (n : ℕ) (tokens : List Spanned) → AreIn P tokens → AreIn P (take n tokens)
  take_in zero tokens all = tt
  take_in (suc n) [] all = tt
  take_in (suc n) (t ∷ ts) all = (all.0, take_in n ts all.1)

  -- ---- parts

  pub maybe_in : {X : Type 0} (Q : X → Type 0) (p : Take X) → Makes P Q p → Makes P (OptIn Q) (maybe p)
  maybe_in Q p makes = record { by = λ rest all. if_in (OptIn Q) (goes_on rest) ((Some (p (after rest)).0, (p (after rest)).1)) ((None, after rest)) (makes.by (after rest) all) (tt, all) }

  -- ---- repetitions

  turns_in : {X : Type 0} (Q : X → Type 0) (step : X → Take X) → ((x : X) → Q x → Makes P Q (step x)) → (n : ℕ) (x : X) → Q x → (rest : Rest) → AreIn P rest.tokens → Made P Q (turns step n x rest)
  unfolding turns
  turns_in Q step makes zero x q rest all = (q, all)
  turns_in Q step makes (suc n) x q rest all =
      let y = (makes x q).by (after rest) all in
      if_in Q (goes_on rest) (turns step n (step x (after rest)).0 (step x (after rest)).1) ((x, after rest)) (turns_in Q step makes n (step x (after rest)).0 y.0 (step x (after rest)).1 y.1) (q, all)

  onto_in : {X : Type 0} (Q : X → Type 0) (step : X → Take X) → ((x : X) → Q x → Makes P Q (step x)) → (x : X) → Q x → Makes P Q (onto step x)
  unfolding onto
  onto_in Q step makes x q = record { by = λ rest all. turns_in Q step makes (length rest.choices) x q rest all }

  each_more : {X : Type 0} (Q : X → Type 0) (xs : List X) (x : X) → AllByRecursion Q xs → Q x → AllByRecursion Q (xs ++ x ∷ [])
  each_more Q [] x all q = (q, tt)
  each_more Q (y ∷ xs) x all q = (all.0, each_more Q xs x all.1 q)

  pub more_in : {X : Type 0} (Q : X → Type 0) (p : Take X) → Makes P Q p → (xs : List X) → AllByRecursion Q xs → Makes P (AllByRecursion Q) (more_of p xs)
  more_in Q p makes xs all =
      onto_in (AllByRecursion Q) (pushed p) (λ ys q. record { by = λ rest in_rest. let x = makes.by rest in_rest in (each_more Q ys (p rest).0 q x.0, x.1) }) xs all

  next_in : {X : Type 0} (Q : X → Type 0) (p : Take X) → Makes P Q p → Makes P Q (next p)
  next_in Q p makes = record { by = λ rest all. makes.by (behind (after rest)) (tail_in rest.tokens all) }

  pub listed_in : {X : Type 0} (Q : X → Type 0) (p : Take X) → Makes P Q p → Makes P (AllByRecursion Q) (listed p)
  listed_in Q p makes = record {
    by = λ rest all.
        let x = makes.by rest all in
        (more_in Q (next p) (next_in Q p makes) ((p rest).0 ∷ []) (x.0, tt)).by (p rest).1 x.1;
  }

  -- ---- runs

  abbrev pub PassesIn : (Rest → Rest) → Type 0
  PassesIn pass = (rest : Rest) → AreIn P rest.tokens → AreIn P (pass rest).tokens

  rest_if : (b : Bool) (x y : Rest) → AreIn P x.tokens → AreIn P y.tokens → AreIn P (if b then x else y).tokens
  rest_if true x y p q = p
  rest_if false x y p q = q

  passing_in : (pass : Rest → Rest) → PassesIn pass → (n : ℕ) → PassesIn (passing pass n)
  unfolding passing
  passing_in pass passes zero rest all = all
  passing_in pass passes (suc n) rest all = rest_if (goes_on rest) (passing pass n (pass (after rest))) (after rest) (passing_in pass passes n (pass (after rest)) (passes (after rest) all)) all

  pub passed_in : (pass : Rest → Rest) → PassesIn pass → PassesIn (passed pass)
  unfolding passed
  passed_in pass passes rest all = passing_in pass passes (length rest.choices) rest all

  pub behind_one_in : PassesIn behind_one
  behind_one_in rest all = tail_in rest.tokens all

  item_in : (inside : Rest → Rest) → PassesIn inside → PassesIn (behind_item inside)
  item_in inside passes rest all =
      rest_if (nat_lt (choice_in rest) 3) (behind (inside (behind (after rest)))) (behind (after rest))
      (tail_in (inside (behind (after rest))).tokens (passes (behind (after rest)) (tail_in rest.tokens all))) (tail_in rest.tokens all)

  items_in : (n : ℕ) → PassesIn (behind_items n)
  unfolding behind_items
  items_in zero rest all = all
  items_in (suc n) rest all = passed_in (behind_item (behind_items n)) (item_in (behind_items n) (items_in n)) rest all

  pub run_made : Makes P (RunIn P) run_in
  unfolding run_in
  run_made = record {
    by = λ rest all.
        let inside = tail_in rest.tokens all in
        let end = items_in (length rest.choices) (behind rest) inside in
        (take_in (length (behind rest).tokens - length (behind_run (behind rest)).tokens) (behind rest).tokens inside, tail_in (behind_run (behind rest)).tokens end);
  }

  pub bracket_made : Makes P (RunIn P) bracket_in
  bracket_made = record { by = λ rest all. run_made.by (after rest) all }
