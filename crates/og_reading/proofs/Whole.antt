-- What the reader of a table answers, said of whole texts.
use Rattle.std.proofs.Common.{◌≡◌, ℕ, ◌≤◌, ◌<◌, Bool, List, [], ◌∷◌, ◌++◌, length, refl, sym, ap, subst, ◌∙◌, inl, inr, arith, cond}
use Rattle.og_base.specs.declared.Place.{Place}
use Rattle.og_base.specs.declared.ModelError.{ModelError}
use Rattle.og_base.specs.declared.ModelError.TheVariants.{Broken, NoMemory}
use Rattle.og_base.specs.declared.Rule.TheVariants.{S1, S2}
use Rattle.og_base.specs.declared.Violation.{Violation}
use Rattle.og_lexer.specs.declared.Spanned.{Spanned}
use Rattle.og_lexer.specs.declared.Token.{Token as TheToken}
use Rattle.og_lexer.specs.declared.Token.TheVariants as token
use Rattle.og_grammar.specs.declared.Nesting.{Nesting}
use Rattle.og_grammar.specs.declared.Nesting.TheVariants.{Keeps}
use Rattle.og_grammar.specs.declared.Symbol.{Symbol}
use Rattle.og_grammar.specs.declared.Symbol.TheVariants.{Token, Part}
use Rattle.og_grammar.specs.Sentence.{Derives, nothing, Spells}
use Rattle.og_grammar.specs.Answers.{AreWithin, IsDerivation, IsFirstWrong, IsFirstTooDeep}
use Rattle.og_grammar.proofs.Leading.{tail_is}
use Rattle.og_reading.specs.declared.kind.TheConstants.{LAST}
use Rattle.og_reading.specs.declared.sentence.TheConstants.{LIMIT}
use Rattle.og_reading.specs.Kinds.{kind_of, kinds_of}
use Rattle.og_reading.specs.Reading.{Rest, Take, behind, place_in}
use Rattle.og_reading.specs.Fronts.{Text, Stands, ◌▸◌}
use Rattle.og_reading.specs.Sentences.{Ended, Whole, NestsWithin, IsText, StandsAt, IsWrongAt, IsTooDeepAt, FirstSyntactic, Breaks, Refuses}
use Rattle.og_reading.proofs.KindsOfTokens.{end_is}
use Rattle.og_reading.proofs.ReadParts.{Reads, reads_token, reads_then, then_take}
use Rattle.og_reading.proofs.WrittenParts.{left, Writes, writes_token, writes_and}

-- ---- violations

-- the place of a kind is one of a token
inside : (tokens : List Spanned) (front : List ℕ) (k : ℕ) (behind : List ℕ) → kinds_of tokens ≡ front ++ k ∷ behind → length front < length tokens
inside [] [] k behind e = absurd (let no : ⊥ = cc in no)
inside [] (f ∷ front) k behind e = absurd (let no : ⊥ = cc in no)
inside (t ∷ ts) [] k behind e = omega arith
inside (t ∷ ts) (f ∷ front) k behind e = let i = inside ts front k behind (tail_is e) in omega arith

pub wrong_inside : (table : List Symbol) (tokens : List Spanned) (number : ℕ) → IsFirstWrong table LAST LIMIT (kinds_of tokens) number → number < length tokens
wrong_inside table tokens number w = let i = inside tokens w.front w.wrong w.behind w.parts in let e = w.before in omega arith

pub deep_inside : (table : List Symbol) (tokens : List Spanned) (number : ℕ) → IsFirstTooDeep table LAST LIMIT (kinds_of tokens) number → number < length tokens
deep_inside table tokens number w = let i = inside tokens w.front w.deep w.behind w.parts in let e = w.before in omega arith

-- tokens that go wrong have no derivation
wrong_none : (table : List Symbol) (tokens : List Spanned) (number : ℕ) → IsFirstWrong table LAST LIMIT (kinds_of tokens) number → (choices : List ℕ) → Spells table LAST (kinds_of tokens) choices → ⊥
wrong_none table tokens number w choices d = w.none w.behind choices (subst (λ (k : List ℕ). Spells table LAST k choices) w.parts d)

within_at : (limit : ℕ) (before : List ℕ) (here : ℕ) (later : List ℕ) → AreWithin limit (before ++ here ∷ later) → here ≤ limit
within_at limit [] here later all = all.0
within_at limit (b ∷ before) here later all = within_at limit before here later all.1

-- tokens that nest too deep nest within no limit
deep_none : (table : List Symbol) (tokens : List Spanned) (number : ℕ) → IsFirstTooDeep table LAST LIMIT (kinds_of tokens) number → NestsWithin table tokens → ⊥
deep_none table tokens number w n =
    let p = w.each w.behind n.choices n.counts (subst (λ (k : List ℕ). Spells table LAST k n.choices) w.parts n.derived) n.nests in
    let le = within_at LIMIT p.before p.here p.later (subst (AreWithin LIMIT) p.parts n.within) in
    let lt = p.passes in
    absurd (omega arith)

pub breaks_none : (table : List Symbol) (tokens : List Spanned) (v : Violation) → FirstSyntactic table tokens v → NestsWithin table tokens → ⊥
breaks_none table tokens v (inl w) n = wrong_none table tokens w.number w.first n.choices n.derived
breaks_none table tokens v (inr w) n = deep_none table tokens w.number w.first n

pub breaks_wrong : (table : List Symbol) (tokens : List Spanned) (number : ℕ) (v : Violation) → IsFirstWrong table LAST LIMIT (kinds_of tokens) number → v.rule ≡ S1 → StandsAt tokens number v → Breaks table tokens (Broken v)
breaks_wrong table tokens number v w rule place = inl (record { number = number; first = w; rule = rule; place = place })

pub breaks_deep : (table : List Symbol) (tokens : List Spanned) (number : ℕ) (v : Violation) → IsFirstTooDeep table LAST LIMIT (kinds_of tokens) number → v.rule ≡ S2 → StandsAt tokens number v → Breaks table tokens (Broken v)
breaks_deep table tokens number v w rule place = inr (record { number = number; first = w; rule = rule; place = place })

-- the tokens of what broke the rules are a whole text of nothing
pub refuses : {X : Type 0} (table : List Symbol) (Is : X → Text) (tokens : List Spanned) (e : ModelError) → Breaks table tokens e → Refuses table Is tokens e
refuses table Is tokens (Broken v) b = (b, λ x i. breaks_none table tokens v b i.1)
refuses table Is tokens (NoMemory met) b = b

-- ---- whole texts

reads_end : {table : List Symbol} {n : ℕ} {nesting : Nesting} → Reads table n (Token LAST nesting ∷ []) (λ rest. (place_in rest, behind rest)) (λ place. Stands token.End place)
reads_end = reads_token place_in (λ place. Stands token.End place) (λ t ts cs e. record { first = t; parts = refl; is = end_is t.token e; at = refl })

writes_end : {table : List Symbol} {nesting : Nesting} (place : Place) (ts us : List Spanned) → Stands token.End place ts us
    → Writes table (Token LAST nesting ∷ []) (λ n rest. (place_in rest, behind rest)) place ts us
writes_end place ts us s = writes_token LAST place_in place token.End place ts us s refl (λ t cs is at. at)

no_more : {table : List Symbol} {k : ℕ} {ks cs : List ℕ} → Derives table [] (k ∷ ks) cs → ⊥
no_more d = elim d [ ]

no_tokens : {table : List Symbol} (ts : List Spanned) (cs : List ℕ) → Derives table [] (kinds_of ts) cs → ts ≡ []
no_tokens [] cs d = refl
no_tokens (t ∷ ts) cs d = absurd (no_more d)

module _ {X : Type 0} (table : List Symbol) (take : ℕ → Take X) (Is : X → Text) where
  -- what is made of a derivation
  abbrev pub made_of : List ℕ → List Spanned → X
  made_of choices tokens = (take (length choices) (left choices tokens)).0

  pub whole_read : ((n : ℕ) → Reads table n (Part 0 ∷ []) (take n) Is) → (tokens : List Spanned) (choices : List ℕ) → Spells table LAST (kinds_of tokens) choices → Whole Is (made_of choices tokens) tokens
  whole_read reads tokens choices d =
      let n = length choices in
      let x = take n (left choices tokens) in
      let m = (reads_then (reads n) (λ (y : X). reads_end)).reads [] (left choices tokens) (omega arith) d in
      let none = no_tokens (behind x.1).tokens (behind x.1).choices m.goes_on in
      (m.is.0, m.is.1, (place_in x.1, subst (λ (z : List Spanned). Stands token.End (place_in x.1) m.is.0 z) none m.is.2))

  pub whole_written : ((x : X) (ts us : List Spanned) → Is x ts us → Writes table (Part 0 ∷ []) take x ts us) → (x : X) (tokens : List Spanned) → Whole Is x tokens
      → (choices : List ℕ) × Spells table LAST (kinds_of tokens) choices × (x ≡ made_of choices tokens)
  whole_written writes x tokens w =
      let last = (writes_and (writes x tokens w.0 w.1) (writes_end {nesting = Keeps} w.2.0 w.0 [] w.2.1)).writes [] [] nothing in
      (last.choices, last.derives, sym (ap (λ (z : (X × Place) × Rest). z.0.0) (last.takes (length last.choices) (omega arith))))

  -- the tree of a derivation, and no other one
  pub is_text : ((n : ℕ) → Reads table n (Part 0 ∷ []) (take n) Is) → (tokens : List Spanned) (choices : List ℕ) (x : X) → IsDerivation table LAST LIMIT (kinds_of tokens) choices → x ≡ made_of choices tokens → IsText table Is x tokens
  is_text reads tokens choices x d e =
      (subst (λ (z : X). Whole Is z tokens) (sym e) (whole_read reads tokens choices d.spells), record { choices = choices; derived = d.spells; counts = d.counts; nests = d.nests; within = d.within })

  pub is_no_other : ((x : X) (ts us : List Spanned) → Is x ts us → Writes table (Part 0 ∷ []) take x ts us) → (tokens : List Spanned) (choices : List ℕ) (x : X)
      → ((other : List ℕ) → Spells table LAST (kinds_of tokens) other → other ≡ choices) → x ≡ made_of choices tokens → (other : X) → IsText table Is other tokens → other ≡ x
  is_no_other writes tokens choices x only e other i =
      let w = whole_written writes other tokens i.0 in
      w.2 ∙ ap (λ (cs : List ℕ). made_of cs tokens) (only w.0 w.1) ∙ sym e
