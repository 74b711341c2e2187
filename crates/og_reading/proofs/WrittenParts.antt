-- What is of some tokens is read of them: the part derives them by some choices, of which the reader makes it, with any number of
-- turns and depth that is not below the number of choices.
use Rattle.std.proofs.Common.{◌≡◌, ℕ, zero, suc, ◌+◌, ◌<◌, ◌≤◌, Bool, true, false, cond, List, [], ◌∷◌, ◌++◌, length, Option, Some, None, slice_get, map, refl, sym, ap, subst, ◌∙◌, append_assoc, arith}
use Rattle.std.proofs.lemmas.List.{append-nil}
use Rattle.og_grammar.specs.declared.Nesting.{Nesting}
use Rattle.og_grammar.specs.declared.Symbol.{Symbol}
use Rattle.og_grammar.specs.declared.Symbol.TheVariants.{Token, Maybe, Many, NotBefore}
use Rattle.og_grammar.specs.declared.Symbol.TheVariants as symbol
use Rattle.og_grammar.specs.Sentence.{rules_of, IsNotFirst, Derives, token as meets, passes, chosen}
use Rattle.og_base.specs.declared.Place.{Place}
use Rattle.og_lexer.specs.declared.Keyword.{Keyword}
use Rattle.og_lexer.specs.declared.Mark.{Mark}
use Rattle.og_lexer.specs.declared.Spanned.{Spanned}
use Rattle.og_lexer.specs.declared.Token.{Token as TheToken}
use Rattle.og_lexer.specs.declared.Token.TheVariants as token
use Rattle.og_ast.specs.declared.ground.Name.{Name}
use Rattle.og_ast.specs.declared.ground.TextTree.{TextTree}
use Rattle.og_ast.specs.Names.{is_name}
use Rattle.og_reading.specs.Kinds.{kind_of_mark, kind_of_keyword, kind_of, kinds_of}
use Rattle.og_reading.specs.Reading.{Rest, Take, behind, after, goes_on, place_in, word_by, number_by, number_in, text_in, name_in, named, maybe, turns, onto, pushed, more_of}
use Rattle.og_reading.specs.Fronts.{Text, Stands, Reserved, Sign, Named, Numeral, Quoted, optional, each}
use Rattle.og_reading.proofs.Turns.{turn, stop}
use Rattle.og_reading.proofs.Naming.{named_so}
use Rattle.og_reading.proofs.Deriving.{IsPart, choose_part, option_ways, repeat_ways}
use Rattle.og_reading.proofs.ReadParts.{then_take, as_take, option_take}

abbrev pub left : List ℕ → List Spanned → Rest
left cs ts = record { choices = cs; tokens = ts }

-- choices by which the symbols derive the tokens, and what a reader makes of them
pub record Written {X : Type 0} (table symbols more : List Symbol) (take : ℕ → Take X) (x : X) (ts us : List Spanned) (cs : List ℕ) : Type 0 where
  pub choices : List ℕ
  pub derives : Derives table (symbols ++ more) (kinds_of ts) choices
  pub longer : length cs ≤ length choices
  pub takes : (n : ℕ) → length choices ≤ n → take n (left choices ts) ≡ (x, left cs us)

-- whatever stands behind the tokens
pub record Writes {X : Type 0} (table symbols : List Symbol) (take : ℕ → Take X) (x : X) (ts us : List Spanned) : Type 0 where
  pub writes : (more : List Symbol) (cs : List ℕ) → Derives table more (kinds_of us) cs → Written table symbols more take x ts us cs

-- ---- one token

pub writes_token : {X : Type 0} {table : List Symbol} (k : ℕ) {nesting : Nesting} (pick : Rest → X) (x : X) (token : TheToken) (place : Place) (ts us : List Spanned) → Stands token place ts us
    → kind_of token ≡ k → ((t : Spanned) (cs : List ℕ) → t.token ≡ token → t.place ≡ place → pick (left cs (t ∷ us)) ≡ x)
    → Writes table (Token k nesting ∷ []) (λ n rest. (pick rest, behind rest)) x ts us
writes_token {X = X} {table = table} k {nesting = nesting} pick x token place ts us s is so = record {
  writes = λ more cs d.
      let here : Derives table (Token k nesting ∷ more) (k ∷ kinds_of us) cs = meets d in
      let kind : k ≡ kind_of s.first.token = sym (ap kind_of s.is ∙ is) in
      record {
        choices = cs;
        derives =
            subst (λ (z : List Spanned). Derives table (Token k nesting ∷ more) (kinds_of z) cs) (sym s.parts)
            (subst (λ (z : ℕ). Derives table (Token k nesting ∷ more) (z ∷ kinds_of us) cs) kind here);
        longer = omega arith;
        takes = λ n le.
            (ap (λ (z : List Spanned). (pick (left cs z), behind (left cs z))) s.parts ∙ ap (λ (z : X). (z, left cs us)) (so s.first cs s.is s.at));
      };
}

pub writes_word : {table : List Symbol} {nesting : Nesting} (w : Keyword) (place : Place) (ts us : List Spanned) → Reserved w place ts us
    → Writes table (Token (kind_of_keyword w) nesting ∷ []) (λ n rest. (place_in rest, behind rest)) place ts us
writes_word w place ts us s = writes_token (kind_of_keyword w) place_in place (token.Keyword w) place ts us s refl (λ t cs is at. at)

pub writes_mark : {table : List Symbol} {nesting : Nesting} (m : Mark) (place : Place) (ts us : List Spanned) → Sign m place ts us
    → Writes table (Token (kind_of_mark m) nesting ∷ []) (λ n rest. (place_in rest, behind rest)) place ts us
writes_mark m place ts us s = writes_token (kind_of_mark m) place_in place (token.Mark m) place ts us s refl (λ t cs is at. at)

pub writes_name : {table : List Symbol} {nesting : Nesting} (name : Name) (ts us : List Spanned) → Named name ts us
    → Writes table (Token 0 nesting ∷ []) (λ n rest. (name_in rest, behind rest)) name ts us
writes_name name ts us s =
    writes_token 0 name_in name (token.Name name.word) name.place ts us s (ap (λ (b : Bool). cond b 0 255) name.spelling)
    (λ t cs is at. ap (λ (z : TheToken). named t.place (word_by z)) is ∙ ap (λ (z : Place). named z name.word) at ∙ sym (named_so name.place name.word name.spelling))

pub writes_number : {table : List Symbol} {nesting : Nesting} (number : ℕ) (place : Place) (ts us : List Spanned) → Numeral number place ts us
    → Writes {X = ℕ × Place} table (Token 1 nesting ∷ []) (λ n rest. ((number_in rest, place_in rest), behind rest)) (number, place) ts us
writes_number number place ts us s =
    writes_token {X = ℕ × Place} 1 (λ rest. (number_in rest, place_in rest)) (number, place) (token.Number number) place ts us s refl
    (λ t cs is at. ap (λ (z : TheToken). (number_by z, t.place)) is ∙ ap (λ (z : Place). (number, z)) at)

pub writes_text : {table : List Symbol} {nesting : Nesting} (text : TextTree) (ts us : List Spanned) → Quoted text ts us
    → Writes table (Token 2 nesting ∷ []) (λ n rest. (text_in rest, behind rest)) text ts us
writes_text text ts us s =
    writes_token 2 text_in text (token.Text text.text) text.place ts us s refl
    (λ t cs is at. ap (λ (z : TheToken). record { place = t.place; text = word_by z }) is ∙ ap (λ (z : Place). record { place = z; text = text.text }) at)

-- ---- two, one behind the other

pub writes_then : {A B : Type 0} {table : List Symbol} {s : Symbol} {symbols : List Symbol} {a : ℕ → Take A} (b : ℕ → A → Take B) {x : A} {y : B} {ts us vs : List Spanned}
    → Writes table (s ∷ []) a x ts us → Writes table symbols (λ n. b n x) y us vs → Writes table (s ∷ symbols) (λ n. then_take (a n) (b n)) (x, y) ts vs
writes_then {A = A} {B = B} {symbols = symbols} b {x = x} {us = us} first second = record {
  writes = λ more cs d.
      let w = second.writes more cs d in
      let v = first.writes (symbols ++ more) w.choices w.derives in
      let longer = w.longer in
      let also = v.longer in
      record {
        choices = v.choices;
        derives = v.derives;
        longer = omega arith;
        takes = λ n le.
            (let enough : length w.choices ≤ n = omega arith in
            ap (λ (z : A × Rest). let y = b n z.0 z.1 in ((z.0, y.0), y.1)) (v.takes n le) ∙ ap (λ (z : B × Rest). ((x, z.0), z.1)) (w.takes n enough));
      };
}

-- where the second does not hang on what was made first
pub writes_and : {A B : Type 0} {table : List Symbol} {s : Symbol} {symbols : List Symbol} {a : ℕ → Take A} {b : ℕ → Take B} {x : A} {y : B} {ts us vs : List Spanned}
    → Writes table (s ∷ []) a x ts us → Writes table symbols b y us vs → Writes table (s ∷ symbols) (λ n. then_take (a n) (λ z. b n)) (x, y) ts vs
writes_and {b = b} first second = writes_then (λ n z. b n) first second

-- ---- the same as something else

pub writes_as : {A B : Type 0} {table symbols : List Symbol} {a : ℕ → Take A} {x : A} {ts us : List Spanned} (f : A → B) → Writes table symbols a x ts us → Writes table symbols (λ n. as_take f (a n)) (f x) ts us
writes_as {A = A} f first = record {
  writes = λ more cs d.
      let w = first.writes more cs d in
      record { choices = w.choices; derives = w.derives; longer = w.longer; takes = λ n le. ap (λ (z : A × Rest). (f z.0, z.1)) (w.takes n le) };
}

-- ---- no token, and what may not be the next one

pub writes_nothing : {X : Type 0} {table : List Symbol} (x : X) (ts us : List Spanned) → ts ≡ us → Writes table [] (λ n rest. (x, rest)) x ts us
writes_nothing {table = table} x ts us e = record {
  writes = λ more cs d. record {
    choices = cs;
    derives = subst (λ (z : List Spanned). Derives table more (kinds_of z) cs) (sym e) d;
    longer = omega arith;
    takes = λ n le. ap (λ (z : List Spanned). (x, left cs z)) e;
  };
}

pub writes_not : {X : Type 0} {table : List Symbol} (k : ℕ) {symbols : List Symbol} {a : ℕ → Take X} {x : X} {ts us : List Spanned} → IsNotFirst k (kinds_of ts) → Writes table symbols a x ts us
    → Writes table (NotBefore k ∷ symbols) a x ts us
writes_not k apart first = record {
  writes = λ more cs d.
      let w = first.writes more cs d in
      record { choices = w.choices; derives = passes apart w.derives; longer = w.longer; takes = w.takes };
}

-- ---- a part

-- by one of its rules, where one choice less leaves one depth less
pub writes_deeper : {X : Type 0} {table : List Symbol} (p : ℕ) (s : Symbol) → IsPart p s → (c : ℕ) (way : List Symbol) → slice_get (rules_of p table) c ≡ Some way
    → {a : ℕ → Take X} (take : ℕ → Take X) {x : X} {ts us : List Spanned} → Writes table way a x ts us → ((n : ℕ) (cs : List ℕ) → take (suc n) (left (c ∷ cs) ts) ≡ a n (left cs ts))
    → Writes table (s ∷ []) take x ts us
writes_deeper {X = X} {table = table} p s is c way rule {a = a} take {x = x} {ts = ts} {us = us} first so = record {
  writes = λ more cs d.
      let w = first.writes more cs d in
      let longer = w.longer in
      record {
        choices = c ∷ w.choices;
        derives = choose_part p s is c way rule w.derives;
        longer = omega arith;
        takes = λ n le. by n w.choices le (λ m less. w.takes m less);
      };
}
  where
    by : {y : X × Rest} (n : ℕ) (ds : List ℕ) → suc (length ds) ≤ n → ((m : ℕ) → length ds ≤ m → a m (left ds ts) ≡ y) → take n (left (c ∷ ds) ts) ≡ y
    by zero ds le go = absurd (omega arith)
    by (suc n) ds le go = so n ds ∙ go n (omega arith)

pub writes_part : {X : Type 0} {table : List Symbol} (p : ℕ) (s : Symbol) → IsPart p s → (c : ℕ) (way : List Symbol) → slice_get (rules_of p table) c ≡ Some way
    → {a : ℕ → Take X} (take : ℕ → Take X) {x : X} {ts us : List Spanned} → Writes table way a x ts us → ((n : ℕ) (cs : List ℕ) → take n (left (c ∷ cs) ts) ≡ a n (left cs ts))
    → Writes table (s ∷ []) take x ts us
writes_part p s is c way rule take first so = record {
  writes = λ more cs d.
      let w = first.writes more cs d in
      let longer = w.longer in
      record {
        choices = c ∷ w.choices;
        derives = choose_part p s is c way rule w.derives;
        longer = omega arith;
        takes = λ n le. (let less : length w.choices ≤ n = omega arith in so n w.choices ∙ w.takes n less);
      };
}

-- ---- an option

pub writes_none : {X : Type 0} {table : List Symbol} {p : ℕ} (some : ℕ → Take X) (none : X) (ts us : List Spanned) → ts ≡ us → Writes table (Maybe p ∷ []) (λ n. option_take (some n) none) none ts us
writes_none {table = table} {p = p} some none ts us e = record {
  writes = λ more cs d. record {
    choices = 0 ∷ cs;
    derives = chosen (Maybe p) 0 [] refl (subst (λ (z : List Spanned). Derives table more (kinds_of z) cs) (sym e) d);
    longer = omega arith;
    takes = λ n le. ap (λ (z : List Spanned). (none, left cs z)) e;
  };
}

pub writes_some : {X : Type 0} {table : List Symbol} {p : ℕ} {some : ℕ → Take X} (none : X) {x : X} {ts us : List Spanned} → Writes table (symbol.Part p ∷ []) some x ts us
    → Writes table (Maybe p ∷ []) (λ n. option_take (some n) none) x ts us
writes_some {p = p} none first = record {
  writes = λ more cs d.
      let w = first.writes more cs d in
      let longer = w.longer in
      record {
        choices = 1 ∷ w.choices;
        derives = chosen (Maybe p) 1 (symbol.Part p ∷ []) refl w.derives;
        longer = omega arith;
        takes = λ n le. (let less : length w.choices ≤ n = omega arith in w.takes n less);
      };
}

-- ---- a repetition

pub record WrittenTurns {X : Type 0} (table : List Symbol) (p : ℕ) (more : List Symbol) (step : ℕ → X → Take X) (x z : X) (ts us : List Spanned) (cs : List ℕ) : Type 0 where
  pub choices : List ℕ
  pub derives : Derives table (Many p ∷ more) (kinds_of ts) choices
  pub longer : length cs ≤ length choices
  pub takes : (n m : ℕ) → length choices ≤ n → length choices ≤ m → turns (step n) m x (left choices ts) ≡ (z, left cs us)

-- turns that make the one of the other
pub record WritesTurns {X : Type 0} (table : List Symbol) (p : ℕ) (step : ℕ → X → Take X) (x z : X) (ts us : List Spanned) : Type 0 where
  pub writes : (more : List Symbol) (cs : List ℕ) → Derives table more (kinds_of us) cs → WrittenTurns table p more step x z ts us cs

pub no_turn : {X : Type 0} {table : List Symbol} {p : ℕ} {step : ℕ → X → Take X} (x : X) (ts us : List Spanned) → ts ≡ us → WritesTurns table p step x x ts us
no_turn {table = table} {p = p} {step = step} x ts us e = record {
  writes = λ more cs d. record {
    choices = 0 ∷ cs;
    derives = chosen (Many p) 0 [] refl (subst (λ (z : List Spanned). Derives table more (kinds_of z) cs) (sym e) d);
    longer = omega arith;
    takes = λ n m le short. by n m cs short;
  };
}
  where
    by : (n m : ℕ) (cs : List ℕ) → suc (length cs) ≤ m → turns (step n) m x (left (0 ∷ cs) ts) ≡ (x, left cs us)
    by n zero cs le = absurd (omega arith)
    by n (suc m) cs le = stop (step n) m x (left (0 ∷ cs) ts) refl ∙ ap (λ (z : List Spanned). (x, left cs z)) e

pub one_turn : {X : Type 0} {table : List Symbol} {p : ℕ} {step : ℕ → X → Take X} {x y z : X} {ts us vs : List Spanned} → Writes table (symbol.Part p ∷ []) (λ n. step n x) y ts us → WritesTurns table p step y z us vs
    → WritesTurns table p step x z ts vs
one_turn {X = X} {table = table} {p = p} {step = step} {x = x} {y = y} {z = z} {ts = ts} {us = us} {vs = vs} first others = record {
  writes = λ more cs d.
      let w = others.writes more cs d in
      let v = first.writes (Many p ∷ more) w.choices w.derives in
      let longer = w.longer in
      let also = v.longer in
      record {
        choices = 1 ∷ v.choices;
        derives = chosen (Many p) 1 (symbol.Part p ∷ Many p ∷ []) refl v.derives;
        longer = omega arith;
        takes = λ n m le short. by n m v.choices w.choices cs also le short (v.takes n) (w.takes n);
      };
}
  where
    by : (n m : ℕ) (ds es cs : List ℕ) → length es ≤ length ds → suc (length ds) ≤ n → suc (length ds) ≤ m → (length ds ≤ n → step n x (left ds ts) ≡ (y, left es us))
        → ((k : ℕ) → length es ≤ n → length es ≤ k → turns (step n) k y (left es us) ≡ (z, left cs vs)) → turns (step n) m x (left (1 ∷ ds) ts) ≡ (z, left cs vs)
    by n zero ds es cs also le short go on = absurd (omega arith)
    by n (suc m) ds es cs also le short go on =
        turn (step n) m x (left (1 ∷ ds) ts) refl ∙ ap (λ (a : X × Rest). turns (step n) m a.0 a.1) (go (omega arith)) ∙ on m (omega arith) (omega arith)

pub writes_onto : {X : Type 0} {table : List Symbol} {p : ℕ} {step : ℕ → X → Take X} {x z : X} {ts us : List Spanned} → WritesTurns table p step x z ts us → Writes table (Many p ∷ []) (λ n. onto (step n) x) z ts us
unfolding onto
writes_onto all = record {
  writes = λ more cs d.
      let w = all.writes more cs d in
      record { choices = w.choices; derives = w.derives; longer = w.longer; takes = λ n le. (let enough : length w.choices ≤ length w.choices = omega arith in w.takes n (length w.choices) le enough) };
}

-- ---- lists

pub one_more : {X : Type 0} {table : List Symbol} {p : ℕ} {a : ℕ → Take X} (xs : List X) {x : X} {zs : List X} {ts us vs : List Spanned} → Writes table (symbol.Part p ∷ []) a x ts us
    → WritesTurns table p (λ n. pushed (a n)) (xs ++ x ∷ []) zs us vs → WritesTurns table p (λ n. pushed (a n)) xs zs ts vs
one_more xs first others = one_turn (writes_as (λ y. xs ++ y ∷ []) first) others

pub writes_each : {X : Type 0} {table : List Symbol} {p : ℕ} {a : ℕ → Take X} (Is : X → Text) → ((x : X) (ts us : List Spanned) → Is x ts us → Writes table (symbol.Part p ∷ []) a x ts us) → (xs later : List X) (ts us : List Spanned)
    → each Is later ts us → WritesTurns table p (λ n. pushed (a n)) xs (xs ++ later) ts us
writes_each {X = X} {table = table} {p = p} {a = a} Is one xs [] ts us e =
    subst (λ (z : List X). WritesTurns table p (λ n. pushed (a n)) xs z ts us) (sym (append-nil xs)) (no_turn xs ts us e)
writes_each {X = X} {table = table} {p = p} {a = a} Is one xs (x ∷ later) ts us e =
    subst (λ (z : List X). WritesTurns table p (λ n. pushed (a n)) xs z ts us) (append_assoc xs (x ∷ []) later)
    (one_more xs (one x ts e.0 e.1) (writes_each Is one (xs ++ x ∷ []) later e.0 us e.2))
