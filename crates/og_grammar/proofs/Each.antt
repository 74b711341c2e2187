-- Each list of tokens is a sentence or is none: before each token there are steps, as often as what is due gets lighter, until it
-- is met or is wrong, and behind the last token nothing is due or something is.
use Rattle.std.proofs.Common.{◌≡◌, ℕ, zero, suc, ◌<◌, List, [], ◌∷◌, ◌++◌, ◌⊎◌, inl, inr, refl, sym, ap, subst, ◌∙◌, arith, IsTrue}
use Rattle.og_grammar.specs.declared.Symbol.{Symbol}
use Rattle.og_grammar.specs.declared.Nesting.{Nesting}
use Rattle.og_grammar.specs.declared.Nesting.TheVariants.{Keeps}
use Rattle.og_grammar.specs.declared.Symbol.TheVariants.{Token}
use Rattle.og_grammar.specs.declared.Due.{Due}
use Rattle.og_grammar.specs.declared.Due.TheVariants.{Expect}
use Rattle.og_grammar.specs.declared.Part.{Part}
use Rattle.og_grammar.specs.declared.run.Step.{Step}
use Rattle.og_grammar.specs.declared.run.Step.TheVariants as step
use Rattle.og_grammar.specs.Sentence.{Derives, nothing, token, nested, Spells, whole, expected}
use Rattle.og_grammar.specs.Predictive.{is_predictive}
use Rattle.og_grammar.specs.Steps.{Stepped, stepped}
use Rattle.og_grammar.proofs.Choices.{IsSound, rows}
use Rattle.og_grammar.proofs.Advances.{symbols_due, IsBottomed, weight_due, Advances, stays, goes_on}
use Rattle.og_grammar.proofs.Entering.{IsReady}
use Rattle.og_grammar.proofs.Telling.{Tells, tells, token_is}
use Rattle.og_grammar.proofs.Sound.{sound_of}
use Rattle.og_grammar.proofs.Standing.{token_goes, bottom_behind, not_ended, symbols-append}
use Rattle.og_grammar.proofs.Reaching.{first_stands}

-- after some steps a token of kind k is due, or no derivation has it here
data Meets (table : List Symbol) (parts : List Part) (last k : ℕ) (due : List Due) (count : ℕ) : Type 0 where
  meets_token : (nesting : Nesting) (new : List Due) (new_count : ℕ) (made : List ℕ) → Advances table parts last k due count (Expect (Token k nesting) ∷ new) new_count made → Meets table parts last k due count
  meets_none : ((ts cs : List ℕ) → Derives table (symbols_due due) (k ∷ ts) cs → ⊥) → Meets table parts last k due count

-- what is due has a derivation of these tokens, or it has none
abbrev IsAnswered : List Symbol → List Symbol → List ℕ → Type 0
IsAnswered table symbols tokens = ((choices : List ℕ) × Derives table symbols tokens choices) ⊎ ((choices : List ℕ) → Derives table symbols tokens choices → ⊥)

module _ (table : List Symbol) (parts : List Part) (last : ℕ) (sound : IsSound table parts last) where
  -- ---- up to the next token

  meets_behind : (k : ℕ) (due mid : List Due) (count mid_count : ℕ) (first : List ℕ) → Advances table parts last k due count mid mid_count first → Meets table parts last k mid mid_count → Meets table parts last k due count
  meets_behind k due mid count mid_count first a (meets_token nesting new new_count made b) =
      meets_token nesting new new_count (first ++ made) (goes_on table parts last k due mid (Expect (Token k nesting) ∷ new) count mid_count new_count first made a b)
  meets_behind k due mid count mid_count first a (meets_none none) =
      meets_none (λ ts cs d. let b = a.back ts cs d in none ts b.0 b.2)

  -- the token is met where it is due already
  stays_at : (k : ℕ) (d : Due) (due new : List Due) (count : ℕ) → IsReady table parts (symbols_due due) → IsBottomed last due → due ≡ d ∷ new → Advances table parts last k due count (d ∷ new) count []
  stays_at k d due new count ready bottom e =
      subst (λ (x : List Due). Advances table parts last k due count x count []) e (stays table parts last k due count ready.line ready.goes bottom)

  meets_by : (k fuel : ℕ) (due : List Due) (count : ℕ) (to : Stepped) (by : Step) → Tells table parts last k count due to by → weight_due parts due < suc fuel → IsReady table parts (symbols_due due) → IsBottomed last due
      → ((new : List Due) (new_count : ℕ) → weight_due parts new < fuel → IsReady table parts (symbols_due new) → IsBottomed last new → Meets table parts last k new new_count) → Meets table parts last k due count
  meets_by k fuel due count to step.On t lt ready bottom go =
      let lighter : weight_due parts to.due < weight_due parts due = t.1 in
      meets_behind k due to.due count to.count to.choices t.0 (go to.due to.count (omega arith) (record { line = t.0.line; goes = t.0.goes }) t.0.bottom)
  meets_by k fuel due count to (step.Met nesting) t lt ready bottom go = meets_token nesting to.due count [] (stays_at k (Expect (Token k nesting)) due to.due count ready bottom t.0)
  meets_by k fuel due count to step.Wrong t lt ready bottom go = meets_none t

  meets : (k fuel : ℕ) (due : List Due) (count : ℕ) → weight_due parts due < fuel → IsReady table parts (symbols_due due) → IsBottomed last due → Meets table parts last k due count
  meets k zero due count lt ready bottom = absurd (omega arith)
  meets k (suc fuel) due count lt ready bottom =
      meets_by k fuel due count (stepped (rows table parts) parts k count due) (stepped (rows table parts) parts k count due).step (tells table parts last sound k count due ready bottom) lt ready bottom
      (λ new new_count below ready' bottom'. meets k fuel new new_count below ready' bottom')

  -- ---- token by token

  at_end : (due : List Due) → IsBottomed last due → IsAnswered table (symbols_due due) []
  at_end due (inl e) = inl ([], subst (λ (x : List Due). Derives table (symbols_due x) [] []) (sym e) nothing)
  at_end due (inr b) = inr (λ cs d. not_ended last (symbols_due b.0) d (ap symbols_due b.1 ∙ symbols-append b.0 (Expect (Token last Keeps) ∷ [])) refl)

  at_token : (k : ℕ) (ts : List ℕ) (due : List Due) (count : ℕ) → Meets table parts last k due count
      → ((new : List Due) (new_count : ℕ) → IsReady table parts (symbols_due new) → IsBottomed last new → IsAnswered table (symbols_due new) ts) → IsAnswered table (symbols_due due) (k ∷ ts)
  at_token k ts due count (meets_token nesting new new_count made a) go =
      elim (go new (nested nesting new_count) (record { line = a.line.1; goes = token_goes a.goes }) (bottom_behind last (Expect (Token k nesting)) new a.bottom)) [
        | inl x ↦ inl (made ++ x.0, a.fore ts x.0 (token x.1))
        | inr none ↦ inr (λ cs d. let b = a.back ts cs d in none b.0 (token_is b.2).1)
      ]
  at_token k ts due count (meets_none none) go = inr (λ cs d. none ts cs d)

  answered : (tokens : List ℕ) (due : List Due) (count : ℕ) → IsReady table parts (symbols_due due) → IsBottomed last due → IsAnswered table (symbols_due due) tokens
  answered [] due count ready bottom = at_end due bottom
  answered (k ∷ ts) due count ready bottom =
      at_token k ts due count (meets k (suc (weight_due parts due)) due count (omega arith) ready bottom) (λ new new_count ready' bottom'. answered ts new new_count ready' bottom')

pub each_is_answered : (table : List Symbol) (parts : List Part) (last : ℕ) → IsTrue (is_predictive table parts last) → (tokens : List ℕ)
    → ((choices : List ℕ) × Spells table last tokens choices) ⊎ ((choices : List ℕ) → Spells table last tokens choices → ⊥)
each_is_answered table parts last known tokens =
    let first = first_stands table parts last 0 known in
    answered table parts last (sound_of table parts last known) tokens (expected (whole last) []) 0 first.ready first.bottom
