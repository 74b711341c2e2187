-- Where a reader stands behind some tokens: what it has taken begins sentences, and all derivations of these go on from here.
use Rattle.std.proofs.Common.{◌≡◌, ℕ, ◌<◌, ◌≤◌, List, [], ◌∷◌, ◌++◌, length, Some, slice_get, inl, inr, refl, sym, ap, subst, ◌∙◌, append_assoc, length-append, arith}
use Rattle.std.proofs.lemmas.List.{append-nil}
use Rattle.og_grammar.specs.declared.Symbol.{Symbol}
use Rattle.og_grammar.specs.declared.Nesting.{Nesting}
use Rattle.og_grammar.specs.declared.Nesting.TheVariants.{Keeps}
use Rattle.og_grammar.specs.declared.Symbol.TheVariants.{Token, NotBefore}
use Rattle.og_grammar.specs.declared.Due.{Due}
use Rattle.og_grammar.specs.declared.Due.TheVariants.{Expect, Restore}
use Rattle.og_grammar.specs.declared.Part.{Part}
use Rattle.og_grammar.specs.Sentence.{ways, Derives, nothing, token, passes, chosen, Spells, entered, nested, Nests, ends, meets, restores, skips, takes, NestsAs}
use Rattle.og_grammar.specs.Answers.{AreWithin, IsDerivation, BeginSome, IsFirstWrong, IsFirstTooDeep, IsCutOff}
pub use Rattle.og_grammar.specs.Standing.{Stands}
use Rattle.og_grammar.proofs.Leading.{some_is, head_is, tail_is}
use Rattle.og_grammar.proofs.Least.{Goes}
use Rattle.og_grammar.proofs.Stack.{avoids_none}
use Rattle.og_grammar.proofs.Advances.{symbols_due, due_entered, IsBottomed, Advances}
use Rattle.og_grammar.proofs.Telling.{token_is}

-- ---- every derivation nests in one way

abbrev SomeCounts : List Symbol → ℕ → List Due → List ℕ → Type 0
SomeCounts table count due cs = (counts : List ℕ) × Nests table count due cs counts

abbrev Follow : List Symbol → List Symbol → List ℕ → Type 0
Follow table symbols cs = (count : ℕ) (due : List Due) → symbols ≡ symbols_due due → SomeCounts table count due cs

at_end : (table : List Symbol) → Follow table [] []
at_end table count [] e = ([], ends)
at_end table count (Restore before ∷ due) e = let r = at_end table before due e in (r.0, restores r.1)
at_end table count (Expect s ∷ due) e = absurd cc

at_token : (table : List Symbol) (k : ℕ) (nesting : Nesting) (symbols : List Symbol) (cs : List ℕ) → Follow table symbols cs → Follow table (Token k nesting ∷ symbols) cs
at_token table k nesting symbols cs go count [] e = absurd cc
at_token table k nesting symbols cs go count (Restore before ∷ due) e = let r = at_token table k nesting symbols cs go before due e in (r.0, restores r.1)
at_token table k nesting symbols cs go count (Expect s ∷ due) e =
    let r = go (nested nesting count) due (tail_is e) in
    (nested nesting count ∷ r.0, subst (λ (x : Symbol). Nests table count (Expect x ∷ due) cs (nested nesting count ∷ r.0)) (head_is e) (meets r.1))

at_guard : (table : List Symbol) (k : ℕ) (symbols : List Symbol) (cs : List ℕ) → Follow table symbols cs → Follow table (NotBefore k ∷ symbols) cs
at_guard table k symbols cs go count [] e = absurd cc
at_guard table k symbols cs go count (Restore before ∷ due) e = let r = at_guard table k symbols cs go before due e in (r.0, restores r.1)
at_guard table k symbols cs go count (Expect s ∷ due) e =
    let r = go count due (tail_is e) in
    (r.0, subst (λ (x : Symbol). Nests table count (Expect x ∷ due) cs r.0) (head_is e) (skips r.1))

at_choice : (table : List Symbol) (s : Symbol) (c : ℕ) (way symbols : List Symbol) (cs : List ℕ) → slice_get (ways table s) c ≡ Some way → Follow table (way ++ symbols) cs → Follow table (s ∷ symbols) (c ∷ cs)
at_choice table s c way symbols cs w go count [] e = absurd cc
at_choice table s c way symbols cs w go count (Restore before ∷ due) e = let r = at_choice table s c way symbols cs w go before due e in (r.0, restores r.1)
at_choice table s c way symbols cs w go count (Expect x ∷ due) e =
    let r = go count (entered count s way due) (ap (λ (z : List Symbol). way ++ z) (tail_is e) ∙ sym (due_entered count s way due)) in
    (r.0, subst (λ (z : Symbol). Nests table count (Expect z ∷ due) (c ∷ cs) r.0) (head_is e) (takes s c way w r.1))

pub some_counts : {table : List Symbol} {symbols : List Symbol} {ts cs : List ℕ} → Derives table symbols ts cs → Follow table symbols cs
some_counts {table = table} nothing = at_end table
some_counts {table = table} (token {k = k} {nesting = nesting} {symbols = symbols} {choices = cs} d) = at_token table k nesting symbols cs (some_counts d)
some_counts {table = table} (passes {k = k} {symbols = symbols} {choices = cs} apart d) = at_guard table k symbols cs (some_counts d)
some_counts {table = table} (chosen {symbols = symbols} {choices = cs} s c way w d) = at_choice table s c way symbols cs w (some_counts d)

only_counts : {table : List Symbol} {count : ℕ} {due : List Due} {cs a b : List ℕ} → Nests table count due cs a → Nests table count due cs b → a ≡ b
only_counts ends ends = refl
only_counts (meets {count = count} {nesting = nesting} x) (meets y) = ap (λ (z : List ℕ). nested nesting count ∷ z) (only_counts x y)
only_counts (meets x) (takes _ c way w y) = absurd cc
only_counts (restores x) (restores y) = only_counts x y
only_counts (skips x) (skips y) = only_counts x y
only_counts (skips x) (takes _ c way w y) = absurd cc
only_counts (takes _ c way w x) (meets y) = absurd cc
only_counts (takes _ c way w x) (skips y) = absurd cc
only_counts {table = table} {b = b} (takes {count = count} {due = due} {choices = cs} s c way w x) (takes _ _ way' w' y) =
    let same : way ≡ way' = some_is way way' (sym w ∙ w') in
    only_counts x (subst (λ (z : List Symbol). Nests table count (entered count s z due) cs b) (sym same) y)

-- ---- where a reader stands

within-append : (limit : ℕ) (a b : List ℕ) → AreWithin limit a → AreWithin limit b → AreWithin limit (a ++ b)
within-append limit [] b h g = g
within-append limit (x ∷ a) b h g = (h.0, within-append limit a b h.1 g)

pub token_goes : {table : List Symbol} {k : ℕ} {nesting : Nesting} {rest : List Symbol} → Goes table (Token k nesting ∷ rest) 0 → Goes table rest 0
token_goes {table = table} {k = k} {nesting = nesting} {rest = rest} g = by g.2
  where
    by : {ts cs : List ℕ} → Derives table (Token k nesting ∷ rest) ts cs → Goes table rest 0
    by (token {tokens = ts} {choices = cs} d) = (ts, cs, d, avoids_none ts)
    by (chosen _ c way w d) = absurd cc

pub bottom_behind : (last : ℕ) (d : Due) (due : List Due) → IsBottomed last (d ∷ due) → IsBottomed last due
bottom_behind last d due (inl e) = absurd cc
bottom_behind last d due (inr ([], e)) = inl (tail_is e)
bottom_behind last d due (inr (x ∷ f, e)) = inr (f, tail_is e)

-- a token of kind k is taken, with a nesting that does not pass the limit
pub stands_met : (table : List Symbol) (parts : List Part) (last limit k : ℕ) (nesting : Nesting) (front : List ℕ) (due new : List Due) (count new_count : ℕ) (choices made : List ℕ) → Stands table parts last limit front due count choices
    → Advances table parts last k due count (Expect (Token k nesting) ∷ new) new_count made → nested nesting new_count ≤ limit → Stands table parts last limit (front ++ k ∷ []) new (nested nesting new_count) (choices ++ made)
stands_met table parts last limit k nesting front due new count new_count choices made s a le =
    let here : ℕ = nested nesting new_count in
    let low = a.low limit s.count_low s.low in
    record {
      after = s.after ++ here ∷ [];
      long = omega (arith, length-append s.after (here ∷ []), length-append front (k ∷ []), s.long);
      within = within-append limit s.after (here ∷ []) s.within (le, tt);
      fore = λ ts cs d.
          let x = s.fore (k ∷ ts) (made ++ cs) (a.fore ts cs (token d)) in
          subst (λ (z : List ℕ). Spells table last z ((choices ++ made) ++ cs)) (sym (append_assoc front (k ∷ []) ts)) (subst (λ (z : List ℕ). Spells table last (front ++ k ∷ ts) z) (sym (append_assoc choices made cs)) x);
      back = λ ts cs d.
          let x = s.back (k ∷ ts) cs (subst (λ (z : List ℕ). Spells table last z cs) (append_assoc front (k ∷ []) ts) d) in
          let y = a.back ts x.0 x.2 in
          (y.0, x.1 ∙ ap (λ (z : List ℕ). choices ++ z) y.1 ∙ sym (append_assoc choices made y.0), (token_is y.2).1);
      nests = λ cs counts n.
          let x = s.nests (made ++ cs) (here ∷ counts) (a.nests cs (here ∷ counts) (meets n)) in
          subst (λ (z : List ℕ). NestsAs table last z ((s.after ++ here ∷ []) ++ counts)) (sym (append_assoc choices made cs)) (subst (λ (z : List ℕ). NestsAs table last (choices ++ (made ++ cs)) z) (sym (append_assoc s.after (here ∷ []) counts)) x);
      ready = record { line = a.line.1; goes = token_goes a.goes };
      bottom = bottom_behind last (Expect (Token k nesting)) new a.bottom;
      count_low = le;
      low = low.1;
    }

-- ---- what a reader may answer there

some_begin : (table : List Symbol) (parts : List Part) (last limit : ℕ) (front : List ℕ) (due : List Due) (count : ℕ) (choices : List ℕ) → Stands table parts last limit front due count choices → BeginSome table last limit front
some_begin table parts last limit front due count choices s =
    let g = s.ready.goes in
    let n = some_counts g.2 count due refl in
    record {
      more = g.0;
      choices = choices ++ g.1;
      spells = s.fore g.0 g.1 g.2;
      counts = s.after;
      later = n.0;
      nests = s.nests g.1 n.0 n.1;
      each = s.long;
      within = s.within;
    }

pub answers_wrong : (table : List Symbol) (parts : List Part) (last limit k : ℕ) (front behind : List ℕ) (due : List Due) (count : ℕ) (choices : List ℕ) → Stands table parts last limit front due count choices
    → ((ts cs : List ℕ) → Derives table (symbols_due due) (k ∷ ts) cs → ⊥) → IsFirstWrong table last limit (front ++ k ∷ behind) (length front)
answers_wrong table parts last limit k front behind due count choices s no_way = record {
  front = front;
  wrong = k;
  behind = behind;
  parts = refl;
  before = refl;
  begins = some_begin table parts last limit front due count choices s;
  none = λ more cs d. let b = s.back (k ∷ more) cs d in no_way more b.0 b.2;
}

pub answers_deep : (table : List Symbol) (parts : List Part) (last limit k : ℕ) (nesting : Nesting) (front behind : List ℕ) (due new : List Due) (count new_count : ℕ) (choices made : List ℕ) → Stands table parts last limit front due count choices
    → Advances table parts last k due count (Expect (Token k nesting) ∷ new) new_count made → limit < nested nesting new_count → IsFirstTooDeep table last limit (front ++ k ∷ behind) (length front)
answers_deep table parts last limit k nesting front behind due new count new_count choices made s a lt =
    let here : ℕ = nested nesting new_count in
    let g = token_goes a.goes in
    record {
      front = front;
      deep = k;
      behind = behind;
      parts = refl;
      before = refl;
      more = g.0;
      choices = choices ++ (made ++ g.1);
      spells = s.fore (k ∷ g.0) (made ++ g.1) (a.fore g.0 g.1 (token g.2));
      each = λ more cs counts d n.
          let x = s.back (k ∷ more) cs d in
          let y = a.back more x.0 x.2 in
          let own = some_counts (token_is y.2).1 here new refl in
          let all = s.nests (made ++ y.0) (here ∷ own.0) (a.nests y.0 (here ∷ own.0) (meets own.1)) in
          let same : choices ++ (made ++ y.0) ≡ cs = ap (λ (z : List ℕ). choices ++ z) (sym y.1) ∙ sym x.1 in
          record {
            here = here;
            before = s.after;
            later = own.0;
            parts = only_counts n (subst (λ (z : List ℕ). NestsAs table last z (s.after ++ here ∷ own.0)) same all);
            each = s.long;
            within = s.within;
            passes = lt;
          };
    }

no_end : (last : ℕ) (front : List Symbol) → [] ≡ front ++ Token last Keeps ∷ [] → ⊥
no_end last [] e = cc
no_end last (s ∷ front) e = cc

pub not_ended : {table : List Symbol} (last : ℕ) (front : List Symbol) {symbols : List Symbol} {ts cs : List ℕ} → Derives table symbols ts cs → symbols ≡ front ++ Token last Keeps ∷ [] → ts ≡ [] → ⊥
not_ended last front nothing e f = no_end last front e
not_ended last front (token d) e f = cc
not_ended last [] (passes {k = k} apart d) e f = let clash : NotBefore k ≡ Token last Keeps = head_is e in cc
not_ended last (s ∷ front) (passes apart d) e f = not_ended last front d (tail_is e) f
not_ended {table = table} last [] (chosen s c way w d) e f =
    let clash : slice_get (ways table (Token last Keeps)) c ≡ Some way = subst (λ (x : Symbol). slice_get (ways table x) c ≡ Some way) (head_is e) w in absurd cc
not_ended last (x ∷ front) (chosen s c way w d) e f =
    not_ended last (way ++ front) d (ap (λ (z : List Symbol). way ++ z) (tail_is e) ∙ sym (append_assoc way front (Token last Keeps ∷ []))) f

pub symbols-append : (a b : List Due) → symbols_due (a ++ b) ≡ symbols_due a ++ symbols_due b
symbols-append [] b = refl
symbols-append (Restore count ∷ a) b = symbols-append a b
symbols-append (Expect s ∷ a) b = ap (λ (z : List Symbol). s ∷ z) (symbols-append a b)

pub answers_cut : (table : List Symbol) (parts : List Part) (last limit : ℕ) (front : List ℕ) (due : List Due) (count : ℕ) (choices : List ℕ) → Stands table parts last limit front due count choices
    → (due ≡ [] → ⊥) → IsCutOff table last limit front
answers_cut table parts last limit front due count choices s left = record {
  begins = some_begin table parts last limit front due count choices s;
  none = λ cs d. by cs d s.bottom;
}
  where
    by : (cs : List ℕ) → Spells table last front cs → IsBottomed last due → ⊥
    by cs d (inl e) = left e
    by cs d (inr b) =
        let x = s.back [] cs (subst (λ (z : List ℕ). Spells table last z cs) (sym (append-nil front)) d) in
        not_ended last (symbols_due b.0) x.2 (ap symbols_due b.1 ∙ symbols-append b.0 (Expect (Token last Keeps) ∷ [])) refl

pub answers_found : (table : List Symbol) (parts : List Part) (last limit : ℕ) (front : List ℕ) (due : List Due) (count : ℕ) (choices : List ℕ) → Stands table parts last limit front due count choices
    → due ≡ [] → IsDerivation table last limit front choices × ((other : List ℕ) → Spells table last front other → other ≡ choices)
answers_found table parts last limit front due count choices s e =
    let d = s.fore [] [] (subst (λ (z : List Due). Derives table (symbols_due z) [] []) (sym e) nothing) in
    let n = s.nests [] [] (subst (λ (z : List Due). Nests table count z [] []) (sym e) ends) in (
      record {
        spells = subst (λ (z : List ℕ). Spells table last z choices) (append-nil front) (subst (λ (z : List ℕ). Spells table last (front ++ []) z) (append-nil choices) d);
        counts = s.after;
        nests = subst (λ (z : List ℕ). NestsAs table last choices z) (append-nil s.after) (subst (λ (z : List ℕ). NestsAs table last z (s.after ++ [])) (append-nil choices) n);
        within = s.within;
      },
      λ other h.
          (let x = s.back [] other (subst (λ (z : List ℕ). Spells table last z other) (sym (append-nil front)) h) in
          let none_left : x.0 ≡ [] = no_choices (subst (λ (z : List Due). Derives table (symbols_due z) [] x.0) e x.2) in
          x.1 ∙ ap (λ (z : List ℕ). choices ++ z) none_left ∙ append-nil choices),
    )
  where
    no_choices : {cs : List ℕ} → Derives table [] [] cs → cs ≡ []
    no_choices nothing = refl
