-- What a reader of a part makes where the part derives what is left: it has the tokens in front, and the derivation goes on behind
-- them. Readers are put together as the rules of the table are.
use Rattle.std.proofs.Common.{◌≡◌, ℕ, zero, suc, ◌+◌, ◌<◌, ◌≤◌, Bool, true, false, cond, List, [], ◌∷◌, ◌++◌, length, Option, Some, None, slice_get, nat_eq, map, refl, sym, ap, subst, ◌∙◌, arith}
use Rattle.std.proofs.lemmas.List.{append-nil}
use Rattle.std.proofs.Common.{append_assoc}
use Rattle.og_grammar.specs.declared.Nesting.{Nesting}
use Rattle.og_grammar.specs.declared.Symbol.{Symbol}
use Rattle.og_grammar.specs.declared.Symbol.TheVariants.{Token, Maybe, Many, NotBefore}
use Rattle.og_grammar.specs.declared.Symbol.TheVariants as symbol
use Rattle.og_grammar.specs.Sentence.{rules_of, IsNotFirst, Derives}
use Rattle.std.specs.List.{list_all}
use Rattle.og_grammar.proofs.Known.{some_is, and_first, and_second}
use Rattle.og_grammar.proofs.Telling.{token_is, passes_is}
use Rattle.og_base.specs.declared.Place.{Place}
use Rattle.og_names.specs.declared.Word.{Word}
use Rattle.og_lexer.specs.declared.Keyword.{Keyword}
use Rattle.og_lexer.specs.declared.Mark.{Mark}
use Rattle.og_lexer.specs.declared.Spanned.{Spanned}
use Rattle.og_lexer.specs.declared.Token.{Token as TheToken}
use Rattle.og_lexer.specs.declared.Token.TheVariants as token
use Rattle.og_ast.specs.declared.ground.Name.{Name}
use Rattle.og_ast.specs.declared.ground.TextTree.{TextTree}
use Rattle.og_ast.specs.Names.{is_name}
use Rattle.og_reading.specs.Kinds.{kind_of_mark, kind_of_keyword, kind_of, kinds_of}
use Rattle.og_reading.specs.Reading.{Rest, Take, behind, after, choice_in, goes_on, place_in, word_by, number_by, number_in, text_in, name_in, named, maybe, turns, onto, pushed, more_of}
use Rattle.og_reading.specs.Fronts.{Text, Stands, Reserved, Sign, Named, Numeral, Quoted, nothing, optional, each}
use Rattle.og_reading.proofs.Turns.{turn, stop}
use Rattle.og_reading.proofs.KindsOfTokens.{keyword_is, mark_is, name_is, number_is, text_is}
use Rattle.og_reading.proofs.Naming.{named_so}
use Rattle.og_reading.proofs.Deriving.{At, no_token, Chosen, IsPart, chosen_part, option_ways, repeat_ways, chosen_option, chosen_repeat}

-- what was made is of the tokens in front, and the derivation goes on with what is left
pub record Made {X : Type 0} (table symbols : List Symbol) (Is : X → Text) (rest : Rest) (x : X × Rest) : Type 0 where
  pub is : Is x.0 rest.tokens x.1.tokens
  pub goes_on : At table symbols x.1
  pub shorter : length x.1.choices ≤ length rest.choices

-- wherever the symbols derive what is left, and at most n choices are
pub record Reads {X : Type 0} (table : List Symbol) (n : ℕ) (symbols : List Symbol) (take : Take X) (Is : X → Text) : Type 0 where
  pub reads : (more : List Symbol) (rest : Rest) → length rest.choices ≤ n → At table (symbols ++ more) rest → Made table more Is rest (take rest)

-- ---- one token

pub reads_token : {X : Type 0} {table : List Symbol} {n k : ℕ} {nesting : Nesting} (pick : Rest → X) (Is : X → Text)
    → ((t : Spanned) (ts : List Spanned) (cs : List ℕ) → kind_of t.token ≡ k → Is (pick (record { choices = cs; tokens = t ∷ ts })) (t ∷ ts) ts)
    → Reads table n (Token k nesting ∷ []) (λ rest. (pick rest, behind rest)) Is
reads_token {table = table} {k = k} {nesting = nesting} pick Is so = record { reads = λ more rest le d. by more rest.tokens rest.choices d }
  where
    by : (more : List Symbol) (ts : List Spanned) (cs : List ℕ) → Derives table (Token k nesting ∷ more) (kinds_of ts) cs
        → Made table more Is (record { choices = cs; tokens = ts }) (pick (record { choices = cs; tokens = ts }), behind (record { choices = cs; tokens = ts }))
    by more [] cs d = absurd (no_token d)
    by more (t ∷ ts) cs d = let i = token_is d in record { is = so t ts cs (sym i.0); goes_on = i.1; shorter = omega arith }

pub reads_word : {table : List Symbol} {n : ℕ} {nesting : Nesting} (w : Keyword) → Reads table n (Token (kind_of_keyword w) nesting ∷ []) (λ rest. (place_in rest, behind rest)) (λ place. Reserved w place)
reads_word w = reads_token place_in (λ place. Reserved w place) (λ t ts cs e. record { first = t; parts = refl; is = keyword_is w t.token e; at = refl })

pub reads_mark : {table : List Symbol} {n : ℕ} {nesting : Nesting} (m : Mark) → Reads table n (Token (kind_of_mark m) nesting ∷ []) (λ rest. (place_in rest, behind rest)) (λ place. Sign m place)
reads_mark m = reads_token place_in (λ place. Sign m place) (λ t ts cs e. record { first = t; parts = refl; is = mark_is m t.token e; at = refl })

-- a token of this form stands in front, whatever stands behind it
pub stands : (token : TheToken) (place : Place) (t : Spanned) (ts : List Spanned) → t.token ≡ token → t.place ≡ place → Stands token place (t ∷ ts) ts
stands token place t ts is at = record { first = t; parts = refl; is = is; at = at }

pub name_stands : (t : Spanned) (ts : List Spanned) (cs : List ℕ) → kind_of t.token ≡ 0 → Named (name_in (record { choices = cs; tokens = t ∷ ts })) (t ∷ ts) ts
name_stands t ts cs e =
    let i = name_is t.token e in
    let same : word_by t.token ≡ i.word = ap word_by i.is in
    let name : ◌≡◌ {A = Name} (record { place = t.place; word = i.word; spelling = i.spelt }) (named t.place (word_by t.token)) =
    named_so t.place i.word i.spelt ∙ ap (named t.place) (sym same) in
    stands _ _ t ts (i.is ∙ ap (λ (x : Name). token.Name x.word) name) (ap (λ (x : Name). x.place) name)

pub reads_name : {table : List Symbol} {n : ℕ} {nesting : Nesting} → Reads table n (Token 0 nesting ∷ []) (λ rest. (name_in rest, behind rest)) Named
reads_name = reads_token name_in Named name_stands

pub reads_number : {table : List Symbol} {n : ℕ} {nesting : Nesting} → Reads {X = ℕ × Place} table n (Token 1 nesting ∷ []) (λ rest. ((number_in rest, place_in rest), behind rest)) (λ x. Numeral x.0 x.1)
reads_number = reads_token {X = ℕ × Place} (λ rest. (number_in rest, place_in rest)) (λ x. Numeral x.0 x.1) so
  where
    so : (t : Spanned) (ts : List Spanned) (cs : List ℕ) → kind_of t.token ≡ 1 → Numeral (number_by t.token) t.place (t ∷ ts) ts
    so t ts cs e = let i = number_is t.token e in stands _ _ t ts (i.is ∙ ap token.Number (sym (ap number_by i.is))) refl

pub reads_text : {table : List Symbol} {n : ℕ} {nesting : Nesting} → Reads table n (Token 2 nesting ∷ []) (λ rest. (text_in rest, behind rest)) Quoted
reads_text = reads_token text_in Quoted so
  where
    so : (t : Spanned) (ts : List Spanned) (cs : List ℕ) → kind_of t.token ≡ 2 → Quoted (text_in (record { choices = cs; tokens = t ∷ ts })) (t ∷ ts) ts
    so t ts cs e = let i = text_is t.token e in stands _ _ t ts (i.is ∙ ap token.Text (sym (ap word_by i.is))) refl

-- ---- two, one behind the other

abbrev pub then_take : {A B : Type 0} → Take A → (A → Take B) → Take (A × B)
then_take a b rest = let x = a rest in let y = b x.0 x.1 in ((x.0, y.0), y.1)

abbrev pub Both : {A B : Type 0} → (A → Text) → (A → B → Text) → (A × B) → Text
Both a b p tokens rest = (middle : List Spanned) × a p.0 tokens middle × b p.0 p.1 middle rest

pub reads_then : {A B : Type 0} {table : List Symbol} {n : ℕ} {s : Symbol} {symbols : List Symbol} {a : Take A} {b : A → Take B} {Is : A → Text} {Js : A → B → Text}
    → Reads table n (s ∷ []) a Is → ((x : A) → Reads table n symbols (b x) (Js x)) → Reads table n (s ∷ symbols) (then_take a b) (Both Is Js)
reads_then {symbols = symbols} {a = a} {b = b} first second = record {
  reads = λ more rest le d.
      let x = a rest in
      let m = first.reads (symbols ++ more) rest le d in
      let shorter = m.shorter in
      let o = (second x.0).reads more x.1 (omega arith) m.goes_on in
      let also = o.shorter in
      record { is = (x.1.tokens, m.is, o.is); goes_on = o.goes_on; shorter = omega arith };
}

-- ---- the same as something else

abbrev pub as_take : {A B : Type 0} → (A → B) → Take A → Take B
as_take f a rest = let x = a rest in (f x.0, x.1)

pub reads_as : {A B : Type 0} {table : List Symbol} {n : ℕ} {symbols : List Symbol} {a : Take A} {Is : A → Text} (f : A → B) (Js : B → Text)
    → ((x : A) (ts us : List Spanned) → Is x ts us → Js (f x) ts us) → Reads table n symbols a Is → Reads table n symbols (as_take f a) Js
reads_as {a = a} f Js so first = record {
  reads = λ more rest le d.
      let m = first.reads more rest le d in
      record { is = so (a rest).0 rest.tokens (a rest).1.tokens m.is; goes_on = m.goes_on; shorter = m.shorter };
}

-- ---- no token, and what may not be the next one

pub reads_nothing : {X : Type 0} {table : List Symbol} {n : ℕ} (x : X) (Is : X → Text) → ((ts : List Spanned) → Is x ts ts) → Reads table n [] (λ rest. (x, rest)) Is
reads_nothing x Is so = record { reads = λ more rest le d. record { is = so rest.tokens; goes_on = d; shorter = omega arith } }

abbrev pub Before : {X : Type 0} → ℕ → (X → Text) → X → Text
Before k Is x tokens rest = IsNotFirst k (kinds_of tokens) × Is x tokens rest

pub reads_not : {X : Type 0} {table : List Symbol} {n : ℕ} (k : ℕ) {symbols : List Symbol} {a : Take X} {Is : X → Text} → Reads table n symbols a Is → Reads table n (NotBefore k ∷ symbols) a (Before k Is)
reads_not k first = record {
  reads = λ more rest le d.
      let i = passes_is d in
      let m = first.reads more rest le i.1 in
      record { is = (i.0, m.is); goes_on = m.goes_on; shorter = m.shorter };
}

-- ---- a part

-- one of the rules of a part, and what is made by it
pub record Alternative {X : Type 0} (table : List Symbol) (n : ℕ) (Is : X → Text) : Type 0 where
  pub way : List Symbol
  pub take : Take X
  pub reads : Reads table n way take Is

abbrev pub rule : {X : Type 0} {table : List Symbol} {n : ℕ} {Is : X → Text} {way : List Symbol} {take : Take X} → Reads table n way take Is → Alternative table n Is
rule {way = way} {take = take} r = record { way = way; take = take; reads = r }

-- what is made by the choice in front: the rules are counted from this number
abbrev pub by_choice : {X : Type 0} {table : List Symbol} {n : ℕ} {Is : X → Text} → Alternative table n Is → List (Alternative table n Is) → ℕ → Take X
by_choice a [] i rest = a.take (after rest)
by_choice a (b ∷ others) i rest = cond (nat_eq (choice_in rest) i) (a.take (after rest)) (by_choice b others (suc i) rest)

abbrev pub ways_of : {X : Type 0} {table : List Symbol} {n : ℕ} {Is : X → Text} → List (Alternative table n Is) → List (List Symbol)
ways_of [] = []
ways_of (a ∷ others) = a.way ∷ ways_of others

true_eq : (m n : ℕ) → m ≡ n → nat_eq m n ≡ true
true_eq m n e = search arith

false_eq : (m n : ℕ) → (m ≡ n → ⊥) → nat_eq m n ≡ false
false_eq m n e = search arith

-- what is made behind a choice
behind_choice : {X : Type 0} {table more : List Symbol} {Is : X → Text} (c : ℕ) (later : List ℕ) (ts : List Spanned) (x : X × Rest)
    → Made table more Is (record { choices = later; tokens = ts }) x → Made table more Is (record { choices = c ∷ later; tokens = ts }) x
behind_choice c later ts x m = let shorter = m.shorter in record { is = m.is; goes_on = m.goes_on; shorter = omega arith }

module _ {X : Type 0} (table : List Symbol) (n : ℕ) (Is : X → Text) (more : List Symbol) (ts : List Spanned) (first : ℕ) (later : List ℕ) (enough : length later ≤ n) where
  alone : (a : Alternative table n Is) (way : List Symbol) → slice_get (a.way ∷ []) 0 ≡ Some way → Derives table (way ++ more) (kinds_of ts) later
      → Made table more Is (record { choices = first ∷ later; tokens = ts }) (a.take (record { choices = later; tokens = ts }))
  alone a way w d =
      behind_choice first later ts _
      (a.reads.reads more (record { choices = later; tokens = ts }) enough (subst (λ (z : List Symbol). Derives table (z ++ more) (kinds_of ts) later) (sym (some_is a.way way w)) d))

  picks : (a : Alternative table n Is) (others : List (Alternative table n Is)) (i c : ℕ) (way : List Symbol) → first ≡ i + c → slice_get (ways_of (a ∷ others)) c ≡ Some way
      → Derives table (way ++ more) (kinds_of ts) later → Made table more Is (record { choices = first ∷ later; tokens = ts }) (by_choice a others i (record { choices = first ∷ later; tokens = ts }))
  picks a [] i zero way e w d = alone a way w d
  picks a [] i (suc c) way e w d = absurd cc
  picks a (b ∷ others) i zero way e w d =
      let so : first ≡ i = omega arith in
      rw (true_eq first i so) (alone a way w d)
  picks a (b ∷ others) i (suc c) way e w d =
      let other : first ≡ i → ⊥ = (λ so. omega arith) in
      let next : first ≡ suc i + c = omega arith in
      rw (false_eq first i other) (picks b others (suc i) c way next w d)

-- the rules of a part, where one choice less leaves at most m
reads_rules : {X : Type 0} {table : List Symbol} {n : ℕ} {Is : X → Text} (p m : ℕ) (s : Symbol) → IsPart p s → n ≤ suc m → (a : Alternative table m Is) (others : List (Alternative table m Is))
    → rules_of p table ≡ ways_of (a ∷ others) → Reads table n (s ∷ []) (by_choice a others 0) Is
reads_rules {X = X} {table = table} {Is = Is} p m s is le a others rules = record { reads = λ more rest short d. by more rest.tokens rest.choices (omega arith) (chosen_part p s is d) }
  where
    by : (more : List Symbol) (ts : List Spanned) (cs : List ℕ) → length cs ≤ suc m → Chosen table (rules_of p table) more (kinds_of ts) cs
        → Made table more Is (record { choices = cs; tokens = ts }) (by_choice a others 0 (record { choices = cs; tokens = ts }))
    by more ts cs short ch =
        let long : length cs ≡ suc (length ch.later) = ap length ch.made in
        subst (λ (z : List ℕ). Made table more Is (record { choices = z; tokens = ts }) (by_choice a others 0 (record { choices = z; tokens = ts }))) (sym ch.made)
        (picks table m Is more ts ch.choice ch.later (omega arith) a others 0 ch.choice ch.way (omega arith) (subst (λ (z : List (List Symbol)). slice_get z ch.choice ≡ Some ch.way) rules ch.is) ch.goes_on)

-- a part by its rules
pub reads_part : {X : Type 0} {table : List Symbol} {n : ℕ} {Is : X → Text} (p : ℕ) (s : Symbol) → IsPart p s → (a : Alternative table n Is) (others : List (Alternative table n Is))
    → rules_of p table ≡ ways_of (a ∷ others) → Reads table n (s ∷ []) (by_choice a others 0) Is
reads_part {n = n} p s is a others rules = reads_rules p n s is (omega arith) a others rules

-- the same, with one depth less further inside
pub reads_deeper : {X : Type 0} {table : List Symbol} {n : ℕ} {Is : X → Text} (p : ℕ) (s : Symbol) → IsPart p s → (a : Alternative table n Is) (others : List (Alternative table n Is))
    → rules_of p table ≡ ways_of (a ∷ others) → Reads table (suc n) (s ∷ []) (by_choice a others 0) Is
reads_deeper {n = n} p s is a others rules = reads_rules p n s is (omega arith) a others rules

-- nothing is read of a part without a choice
pub reads_none : {X : Type 0} {table : List Symbol} {Is : X → Text} {take : Take X} (p : ℕ) (s : Symbol) → IsPart p s → Reads table 0 (s ∷ []) take Is
reads_none p s is = record { reads = λ more rest le d. (let ch = chosen_part p s is d in let long = ap length ch.made in absurd (omega arith)) }

-- ---- an option

abbrev pub option_take : {X : Type 0} → Take X → X → Take X
option_take some none rest = cond (goes_on rest) (some (after rest)) (none, after rest)

pub reads_option : {X : Type 0} {table : List Symbol} {n p : ℕ} {Is : X → Text} {some : Take X} (none : X) → ((ts : List Spanned) → Is none ts ts) → Reads table n (symbol.Part p ∷ []) some Is
    → Reads table n (Maybe p ∷ []) (option_take some none) Is
reads_option {X = X} {table = table} {n = n} {p = p} {Is = Is} {some = some} none empty first = record { reads = λ more rest short d. by more rest.tokens rest.choices short (chosen_option d) }
  where
    turned : (more : List Symbol) (ts : List Spanned) (c : ℕ) (later : List ℕ) (way : List Symbol) → suc (length later) ≤ n → slice_get (option_ways p) c ≡ Some way → Derives table (way ++ more) (kinds_of ts) later
        → Made table more Is (record { choices = c ∷ later; tokens = ts }) (option_take some none (record { choices = c ∷ later; tokens = ts }))
    turned more ts zero later way short w d =
        let d' = subst (λ (z : List Symbol). Derives table (z ++ more) (kinds_of ts) later) (sym (some_is [] way w)) d in
        record { is = empty ts; goes_on = d'; shorter = omega arith }
    turned more ts (suc zero) later way short w d =
        behind_choice 1 later ts _
        (first.reads more (record { choices = later; tokens = ts }) (omega arith) (subst (λ (z : List Symbol). Derives table (z ++ more) (kinds_of ts) later) (sym (some_is (symbol.Part p ∷ []) way w)) d))
    turned more ts (suc (suc c)) later way short w d = absurd cc

    by : (more : List Symbol) (ts : List Spanned) (cs : List ℕ) → length cs ≤ n → Chosen table (option_ways p) more (kinds_of ts) cs
        → Made table more Is (record { choices = cs; tokens = ts }) (option_take some none (record { choices = cs; tokens = ts }))
    by more ts cs short ch =
        let long : length cs ≡ suc (length ch.later) = ap length ch.made in
        subst (λ (z : List ℕ). Made table more Is (record { choices = z; tokens = ts }) (option_take some none (record { choices = z; tokens = ts }))) (sym ch.made)
        (turned more ts ch.choice ch.later ch.way (omega arith) ch.is ch.goes_on)

pub reads_maybe : {X : Type 0} {table : List Symbol} {n p : ℕ} {Is : X → Text} {a : Take X} → Reads table n (symbol.Part p ∷ []) a Is → Reads table n (Maybe p ∷ []) (maybe a) (optional Is)
reads_maybe {X = X} {Is = Is} first = reads_option (none_of X) (λ ts. refl) (reads_as some_of (optional Is) (λ x ts us is. is) first)
  where
    none_of : (X : Type 0) → Option X
    none_of X = None

    some_of : X → Option X
    some_of x = Some x

-- ---- a repetition

-- what was made covers the tokens up to a place; each turn covers more of them
module _ {X : Type 0} (table : List Symbol) (n p : ℕ) (step : X → Take X) (Covers : X → List Spanned → Type 0)
    (one : (x : X) → Reads table n (symbol.Part p ∷ []) (step x) (λ y ts us. Covers x ts → Covers y us)) (more : List Symbol) where
  turns_read : (m : ℕ) (x : X) (ts : List Spanned) (cs : List ℕ) → length cs ≤ m → length cs ≤ n → Derives table (Many p ∷ more) (kinds_of ts) cs
      → Made table more (λ y us vs. Covers x us → Covers y vs) (record { choices = cs; tokens = ts }) (turns step m x (record { choices = cs; tokens = ts }))
  turns_read zero x ts cs le short d = let ch = chosen_repeat d in let long = ap length ch.made in absurd (omega arith)
  turns_read (suc m) x ts cs le short d = by (chosen_repeat d) (λ y us zs less few e. turns_read m y us zs less few e)
    where
      turned : (c : ℕ) (later : List ℕ) (way : List Symbol) → suc (length later) ≤ suc m → suc (length later) ≤ n → slice_get (repeat_ways p) c ≡ Some way → Derives table (way ++ more) (kinds_of ts) later
          → ((y : X) (us : List Spanned) (zs : List ℕ) → length zs ≤ m → length zs ≤ n → Derives table (Many p ∷ more) (kinds_of us) zs
          → Made table more (λ y' us' vs. Covers y us' → Covers y' vs) (record { choices = zs; tokens = us }) (turns step m y (record { choices = zs; tokens = us })))
          → Made table more (λ y us vs. Covers x us → Covers y vs) (record { choices = c ∷ later; tokens = ts }) (turns step (suc m) x (record { choices = c ∷ later; tokens = ts }))
      turned zero later way le few w e go =
          let here = subst (λ (z : List Symbol). Derives table (z ++ more) (kinds_of ts) later) (sym (some_is [] way w)) e in
          rw (stop step m x (record { choices = 0 ∷ later; tokens = ts }) refl) (record { is = λ covers. covers; goes_on = here; shorter = omega arith })
      turned (suc zero) later way le few w e go =
          let inside = subst (λ (z : List Symbol). Derives table (z ++ more) (kinds_of ts) later) (sym (some_is (symbol.Part p ∷ Many p ∷ []) way w)) e in
          let m1 = (one x).reads (Many p ∷ more) (record { choices = later; tokens = ts }) (omega arith) inside in
          let short1 = m1.shorter in
          let y = step x (record { choices = later; tokens = ts }) in
          let m2 = go y.0 y.1.tokens y.1.choices (omega arith) (omega arith) m1.goes_on in
          let short2 = m2.shorter in
          rw (turn step m x (record { choices = 1 ∷ later; tokens = ts }) refl) (record { is = λ covers. m2.is (m1.is covers); goes_on = m2.goes_on; shorter = omega arith })
      turned (suc (suc c)) later way le few w e go = absurd cc

      by : Chosen table (repeat_ways p) more (kinds_of ts) cs
          → ((y : X) (us : List Spanned) (zs : List ℕ) → length zs ≤ m → length zs ≤ n → Derives table (Many p ∷ more) (kinds_of us) zs
          → Made table more (λ y' us' vs. Covers y us' → Covers y' vs) (record { choices = zs; tokens = us }) (turns step m y (record { choices = zs; tokens = us })))
          → Made table more (λ y us vs. Covers x us → Covers y vs) (record { choices = cs; tokens = ts }) (turns step (suc m) x (record { choices = cs; tokens = ts }))
      by ch go =
          let long : length cs ≡ suc (length ch.later) = ap length ch.made in
          subst (λ (z : List ℕ). Made table more (λ y us vs. Covers x us → Covers y vs) (record { choices = z; tokens = ts }) (turns step (suc m) x (record { choices = z; tokens = ts }))) (sym ch.made)
          (turned ch.choice ch.later ch.way (omega arith) (omega arith) ch.is ch.goes_on go)

pub reads_onto : {X : Type 0} {table : List Symbol} {n p : ℕ} {step : X → Take X} (Covers : X → List Spanned → Type 0)
    → ((x : X) → Reads table n (symbol.Part p ∷ []) (step x) (λ y ts us. Covers x ts → Covers y us)) → (x : X) → Reads table n (Many p ∷ []) (onto step x) (λ y ts us. Covers x ts → Covers y us)
unfolding onto
reads_onto {table = table} {n = n} {p = p} {step = step} Covers one x =
    record { reads = λ more rest short d. turns_read table n p step Covers one more (length rest.choices) x rest.tokens rest.choices (omega arith) short d }

-- ---- lists

each-append : {X : Type 0} (Is : X → Text) (xs : List X) (x : X) (ts us vs : List Spanned) → each Is xs ts us → Is x us vs → each Is (xs ++ x ∷ []) ts vs
each-append Is [] x ts us vs e i = (vs, subst (λ (z : List Spanned). Is x z vs) (sym e) i, refl)
each-append Is (y ∷ ys) x ts us vs e i = (e.0, e.1, each-append Is ys x e.0 us vs e.2 i)

-- these, and then others that stand there
abbrev pub Grown : {X : Type 0} → (X → Text) → List X → List X → Text
Grown {X = X} Is first xs tokens rest = (later : List X) × (xs ≡ first ++ later) × each Is later tokens rest

-- what was made from a place on covers the tokens from there
abbrev GrownFrom : {X : Type 0} → (X → Text) → List X → List Spanned → List X → List Spanned → Type 0
GrownFrom Is first start xs ts = Grown Is first xs start ts

pushes : {X : Type 0} {table : List Symbol} {n p : ℕ} (Is : X → Text) (a : Take X) (first : List X) → Reads table n (symbol.Part p ∷ []) a Is → (start : List Spanned) (xs : List X)
    → Reads table n (symbol.Part p ∷ []) (pushed a xs) (λ ys ts us. GrownFrom Is first start xs ts → GrownFrom Is first start ys us)
pushes {X = X} Is a first one start xs =
    reads_as (λ x. xs ++ x ∷ []) (λ ys ts us. GrownFrom Is first start xs ts → GrownFrom Is first start ys us)
    (λ x ts us is covers. (covers.0 ++ x ∷ [], ap (λ (z : List X). z ++ x ∷ []) covers.1 ∙ append_assoc first covers.0 (x ∷ []), each-append Is covers.0 x start ts us covers.2 is)) one

pub reads_more : {X : Type 0} {table : List Symbol} {n p : ℕ} {Is : X → Text} {a : Take X} (first : List X) → Reads table n (symbol.Part p ∷ []) a Is → Reads table n (Many p ∷ []) (more_of a first) (Grown Is first)
reads_more {Is = Is} {a = a} first one = record {
  reads = λ more rest short d.
      let all = (reads_onto (GrownFrom Is first rest.tokens) (pushes Is a first one rest.tokens) first).reads more rest short d in
      record { is = all.is ([], sym (append-nil first), refl); goes_on = all.goes_on; shorter = all.shorter };
}

-- ---- for each start

pub reads_all : {X : Type 0} {table symbols : List Symbol} {n : ℕ} {take : Take X} {Is : List Spanned → X → Text} → ((start : List Spanned) → Reads table n symbols take (Is start))
    → Reads table n symbols take (λ x ts us. (start : List Spanned) → Is start x ts us)
reads_all each = record {
  reads = λ more rest short d.
      let m = (each []).reads more rest short d in
      record { is = λ start. ((each start).reads more rest short d).is; goes_on = m.goes_on; shorter = m.shorter };
}

-- ---- a part whose rules are one token each

-- a rule of one token whose kind passes the test
abbrev pub is_token_way : (ℕ → Bool) → List Symbol → Bool
is_token_way test (Token k nesting ∷ []) = test k
is_token_way test _ = false

passed_way : (test : ℕ → Bool) (ways : List (List Symbol)) (c : ℕ) (way : List Symbol) → list_all (is_token_way test) ways ≡ true → slice_get ways c ≡ Some way → is_token_way test way ≡ true
passed_way test [] c way all w = absurd cc
passed_way test (x ∷ ways) zero way all w = subst (λ (z : List Symbol). is_token_way test z ≡ true) (some_is x way w) (and_first (is_token_way test x) (list_all (is_token_way test) ways) all)
passed_way test (x ∷ ways) (suc c) way all w = passed_way test ways c way (and_second (is_token_way test x) (list_all (is_token_way test) ways) all) w

pub reads_tokens : {X : Type 0} {table : List Symbol} {n : ℕ} (p : ℕ) (s : Symbol) → IsPart p s → (test : ℕ → Bool) → list_all (is_token_way test) (rules_of p table) ≡ true → (pick : Rest → X) (Is : X → Text)
    → ((t : Spanned) (ts : List Spanned) (cs : List ℕ) → test (kind_of t.token) ≡ true → Is (pick (record { choices = cs; tokens = t ∷ ts })) (t ∷ ts) ts)
    → Reads table n (s ∷ []) (λ rest. (pick (after rest), behind (after rest))) Is
reads_tokens {X = X} {table = table} p s is test all pick Is so = record { reads = λ more rest short d. by more rest.tokens rest.choices (chosen_part p s is d) }
  where
    met : (more : List Symbol) (ts : List Spanned) (later : List ℕ) (way : List Symbol) → is_token_way test way ≡ true → Derives table (way ++ more) (kinds_of ts) later
        → Made table more Is (record { choices = later; tokens = ts }) (pick (record { choices = later; tokens = ts }), behind (record { choices = later; tokens = ts }))
    met more [] later (Token k nesting ∷ []) passes d = absurd (no_token d)
    met more (t ∷ ts) later (Token k nesting ∷ []) passes d =
        let i = token_is d in
        record { is = so t ts later (subst (λ (z : ℕ). test z ≡ true) i.0 passes); goes_on = i.1; shorter = omega arith }
    met more ts later [] passes d = absurd cc
    met more ts later (Token k nesting ∷ z ∷ zs) passes d = absurd cc
    met more ts later (symbol.Rule q ∷ zs) passes d = absurd cc
    met more ts later (symbol.Part q ∷ zs) passes d = absurd cc
    met more ts later (symbol.Scope q ∷ zs) passes d = absurd cc
    met more ts later (Maybe q ∷ zs) passes d = absurd cc
    met more ts later (Many q ∷ zs) passes d = absurd cc
    met more ts later (NotBefore k ∷ zs) passes d = absurd cc

    by : (more : List Symbol) (ts : List Spanned) (cs : List ℕ) → Chosen table (rules_of p table) more (kinds_of ts) cs
        → Made table more Is (record { choices = cs; tokens = ts }) (pick (after (record { choices = cs; tokens = ts })), behind (after (record { choices = cs; tokens = ts })))
    by more ts cs ch =
        subst (λ (z : List ℕ). Made table more Is (record { choices = z; tokens = ts }) (pick (after (record { choices = z; tokens = ts })), behind (after (record { choices = z; tokens = ts })))) (sym ch.made)
        (behind_choice ch.choice ch.later ts _ (met more ts ch.later ch.way (passed_way test (rules_of p table) ch.choice ch.way all ch.is) ch.goes_on))
