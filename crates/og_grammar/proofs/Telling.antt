-- What each step of a reader says of the derivations.
use Rattle.std.proofs.Common.{◌≡◌, ℕ, ◌<◌, Bool, true, false, cond, List, [], ◌∷◌, Option, Some, None, nat_eq, refl, sym, ap, ◌∙◌, arith}
use Rattle.og_grammar.specs.declared.Symbol.{Symbol}
use Rattle.og_grammar.specs.declared.Nesting.{Nesting}
use Rattle.og_grammar.specs.declared.Symbol.TheVariants.{Rule, Token, Scope, Maybe, Many, NotBefore}
use Rattle.og_grammar.specs.declared.Symbol.TheVariants as symbol
use Rattle.og_grammar.specs.declared.Due.{Due}
use Rattle.og_grammar.specs.declared.Due.TheVariants.{Expect, Restore}
use Rattle.og_grammar.specs.declared.Part.{Part}
use Rattle.og_grammar.specs.declared.run.Step.{Step}
use Rattle.og_grammar.specs.declared.run.Step.TheVariants as step
use Rattle.og_grammar.specs.Sentence.{IsNotFirst, Derives, token, passes, chosen, restores, skips}
use Rattle.og_grammar.specs.Rows.{choice_of, way_of}
use Rattle.og_grammar.specs.Steps.{Stepped, by_choice, met, stepped}
use Rattle.og_grammar.proofs.Sets.{is_same, not_same}
use Rattle.og_grammar.proofs.Stack.{MayStand, avoids_none}
use Rattle.og_grammar.proofs.Choices.{IsSound, rows, leaves_choice, taken_way, forced}
use Rattle.og_grammar.proofs.Advances.{symbols_due, IsBottomed, weight_due, Advances, under}
use Rattle.og_grammar.proofs.Entering.{IsReady, lighter, entering}

-- what a step says: it goes on and what is due gets lighter, the token is due, or no derivation has it here
abbrev pub Tells : List Symbol → List Part → ℕ → ℕ → ℕ → List Due → Stepped → Step → Type 0
Tells table parts last k count due to step.On = Advances table parts last k due count to.due to.count to.choices × (weight_due parts to.due < weight_due parts due)
Tells table parts last k count due to (step.Met nesting) = (due ≡ Expect (Token k nesting) ∷ to.due) × (to.count ≡ count) × (to.choices ≡ [])
Tells table parts last k count due to step.Wrong = (ts cs : List ℕ) → Derives table (symbols_due due) (k ∷ ts) cs → ⊥

no_more : {table : List Symbol} {k : ℕ} {ts cs : List ℕ} → Derives table [] (k ∷ ts) cs → ⊥
no_more d = elim d [ ]

no_rule : {table : List Symbol} {p : ℕ} {rest : List Symbol} {ts cs : List ℕ} → Derives table (Rule p ∷ rest) ts cs → ⊥
no_rule (chosen _ c way w d) = absurd cc

pub token_is : {table : List Symbol} {t k : ℕ} {nesting : Nesting} {rest : List Symbol} {ts cs : List ℕ} → Derives table (Token t nesting ∷ rest) (k ∷ ts) cs → (t ≡ k) × Derives table rest ts cs
token_is (token d) = (refl, d)
token_is (chosen _ c way w d) = absurd cc

pub passes_is : {table : List Symbol} {t : ℕ} {rest : List Symbol} {ts cs : List ℕ} → Derives table (NotBefore t ∷ rest) ts cs → IsNotFirst t ts × Derives table rest ts cs
passes_is (passes apart d) = (apart, d)
passes_is (chosen _ c way w d) = absurd cc

module _ (table : List Symbol) (parts : List Part) (last : ℕ) (sound : IsSound table parts last) (k count : ℕ) where
  restored : (before : ℕ) (due : List Due) → IsReady table parts (symbols_due due) → IsBottomed last (Restore before ∷ due)
      → Tells table parts last k count (Restore before ∷ due) (stepped (rows table parts) parts k count (Restore before ∷ due)) step.On
  restored before due ready bottom = (
    record {
      fore = λ ts cs d. d;
      back = λ ts cs d. (cs, refl, d);
      nests = λ cs counts n. restores n;
      line = ready.line;
      goes = ready.goes;
      bottom = under last (Restore before) due [] (λ e. cc) bottom;
      low = λ limit le low. low;
    },
    omega arith,
  )

  token_by : (t : ℕ) (nesting : Nesting) (due : List Due) (b : Bool) → nat_eq t k ≡ b
      → Tells table parts last k count (Expect (Token t nesting) ∷ due) (record { step = cond b (step.Met nesting) step.Wrong; due = due; count = count; choices = [] }) (cond b (step.Met nesting) step.Wrong)
  token_by t nesting due true e = (ap (λ (n : ℕ). Expect (Token n nesting) ∷ due) (is_same t k e), refl, refl)
  token_by t nesting due false e = λ ts cs d. not_same t k e (token_is d).0

  barred_by : (t : ℕ) (due : List Due) → IsReady table parts (NotBefore t ∷ symbols_due due) → IsBottomed last (Expect (NotBefore t) ∷ due) → (b : Bool) → nat_eq t k ≡ b
      → Tells table parts last k count (Expect (NotBefore t) ∷ due) (record { step = cond b step.Wrong step.On; due = due; count = count; choices = [] }) (cond b step.Wrong step.On)
  barred_by t due ready bottom true e = λ ts cs d. (passes_is d).0 (sym (is_same t k e))
  barred_by t due ready bottom false e =
      let behind = passes_is ready.goes.2 in (
        record {
          fore = λ ts cs d. passes (λ s. not_same t k e (sym s)) d;
          back = λ ts cs d. (cs, refl, (passes_is d).1);
          nests = λ cs counts n. skips n;
          line = ready.line.1;
          goes = (ready.goes.0, ready.goes.1, behind.1, avoids_none ready.goes.0);
          bottom = under last (Expect (NotBefore t)) due [] (λ e. cc) bottom;
          low = λ limit le low. (le, low);
        },
        omega arith,
      )

  choice_by : (s : Symbol) (due : List Due) → leaves_choice s ≡ true → MayStand table parts s (symbols_due due) → IsReady table parts (s ∷ symbols_due due) → IsBottomed last (Expect s ∷ due)
      → (o : Option ℕ) → choice_of (rows table parts) parts s k ≡ o
      → Tells table parts last k count (Expect s ∷ due) (by_choice (rows table parts) count s due o) (by_choice (rows table parts) count s due o).step
  choice_by s due l m ready bottom None e = λ ts cs d.
      (let f = forced table parts last sound d s (symbols_due due) k ts refl refl l m in
      let clash = sym e ∙ f.made in
      cc)
  choice_by s due l m ready bottom (Some c) e = (
    entering table parts last sound s c k count due l e m ready.line.1 bottom,
    lighter table parts last sound s c k count (way_of (rows table parts) s c) due l (taken_way table parts last sound s c k e) m,
  )

  tells_symbol : (s : Symbol) (due : List Due) → IsReady table parts (s ∷ symbols_due due) → IsBottomed last (Expect s ∷ due)
      → Tells table parts last k count (Expect s ∷ due) (met (rows table parts) parts k count s due) (met (rows table parts) parts k count s due).step
  tells_symbol (Rule p) due ready bottom = λ ts cs d. no_rule d
  tells_symbol (Token t nesting) due ready bottom = token_by t nesting due (nat_eq t k) refl
  tells_symbol (NotBefore t) due ready bottom = barred_by t due ready bottom (nat_eq t k) refl
  tells_symbol (symbol.Part p) due ready bottom = choice_by (symbol.Part p) due refl ready.line.0 ready bottom (choice_of (rows table parts) parts (symbol.Part p) k) refl
  tells_symbol (Scope p) due ready bottom = choice_by (Scope p) due refl ready.line.0 ready bottom (choice_of (rows table parts) parts (Scope p) k) refl
  tells_symbol (Maybe p) due ready bottom = choice_by (Maybe p) due refl ready.line.0 ready bottom (choice_of (rows table parts) parts (Maybe p) k) refl
  tells_symbol (Many p) due ready bottom = choice_by (Many p) due refl ready.line.0 ready bottom (choice_of (rows table parts) parts (Many p) k) refl

  pub tells : (due : List Due) → IsReady table parts (symbols_due due) → IsBottomed last due
      → Tells table parts last k count due (stepped (rows table parts) parts k count due) (stepped (rows table parts) parts k count due).step
  tells [] ready bottom = λ ts cs d. no_more d
  tells (Restore before ∷ due) ready bottom = restored before due ready bottom
  tells (Expect s ∷ due) ready bottom = tells_symbol s due ready bottom
