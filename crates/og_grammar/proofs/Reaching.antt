-- A reader that goes on to the next token.
use Rattle.std.proofs.Common.{◌≡◌, ℕ, ◌<◌, true, List, [], ◌∷◌, ◌++◌, reverse, inr, refl, sym, ap, subst, ◌∙◌, append_assoc, arith}
use Rattle.std.proofs.lemmas.List.{append-nil}
use Rattle.og_grammar.specs.declared.Symbol.{Symbol}
use Rattle.og_grammar.specs.declared.Nesting.TheVariants.{Keeps}
use Rattle.og_grammar.specs.declared.Symbol.TheVariants.{Token}
use Rattle.og_grammar.specs.declared.Symbol.TheVariants as symbol
use Rattle.og_grammar.specs.declared.Due.{Due}
use Rattle.og_grammar.specs.declared.Due.TheVariants.{Expect}
use Rattle.og_grammar.specs.declared.Part.{Part}
use Rattle.og_grammar.specs.declared.rows.Row.{Row}
use Rattle.og_grammar.specs.declared.run.Run.{Run}
use Rattle.og_grammar.specs.declared.run.Step.{Step}
use Rattle.og_grammar.specs.declared.run.Step.TheVariants as step
use Rattle.og_grammar.specs.Sentence.{nothing, token, whole, expected}
use Rattle.og_grammar.specs.Predictive.{has, part_at, is_predictive}
use Rattle.og_grammar.specs.Standing.{AreInLine}
use Rattle.og_grammar.specs.Steps.{StepsTo, Stepped, stepped}
pub use Rattle.og_grammar.specs.Standing.{LeadsTo, Reaches, IsFirst}
use Rattle.og_grammar.proofs.Least.{Goes}
use Rattle.og_grammar.proofs.Choices.{rows}
use Rattle.og_grammar.proofs.Advances.{symbols_due, IsBottomed, weight_due, Advances, stays, goes_on}
use Rattle.og_grammar.proofs.Entering.{IsReady, part_goes}
use Rattle.og_grammar.proofs.Telling.{Tells, tells, token_is}
use Rattle.og_grammar.proofs.Sound.{sound_of}
use Rattle.og_grammar.proofs.Standing.{Stands}

pub leads_first : (table : List Symbol) (parts : List Part) (last k : ℕ) (run : Run) → IsReady table parts (symbols_due (reverse run.due)) → IsBottomed last (reverse run.due)
    → LeadsTo table parts last k run (reverse run.due) run.count run.choices
leads_first table parts last k run ready bottom = record {
  made = [];
  is = sym (append-nil run.choices);
  advances = stays table parts last k (reverse run.due) run.count ready.line ready.goes bottom;
}

-- one step more
module _ (table : List Symbol) (parts : List Part) (last : ℕ) (known : is_predictive table parts last ≡ true) (all : List (List Row)) (is_all : all ≡ rows table parts) (k : ℕ) (first old new : Run) where
  step_tells : (by : Step) → LeadsTo table parts last k first (reverse old.due) old.count old.choices → StepsTo old new by (stepped all parts k old.count (reverse old.due))
      → Tells table parts last k old.count (reverse old.due) (stepped (rows table parts) parts k old.count (reverse old.due)) by
  step_tells by l s =
      let t = tells table parts last (sound_of table parts last known) k old.count (reverse old.due) (record { line = l.advances.line; goes = l.advances.goes }) l.advances.bottom in
      subst (λ (b : Step). Tells table parts last k old.count (reverse old.due) (stepped (rows table parts) parts k old.count (reverse old.due)) b)
      (ap (λ (a : List (List Row)). (stepped a parts k old.count (reverse old.due)).step) (sym is_all) ∙ sym s.step) t

  due_is : (by : Step) → StepsTo old new by (stepped all parts k old.count (reverse old.due)) → reverse new.due ≡ (stepped (rows table parts) parts k old.count (reverse old.due)).due
  due_is by s = s.due ∙ ap (λ (a : List (List Row)). (stepped a parts k old.count (reverse old.due)).due) is_all

  count_is : (by : Step) → StepsTo old new by (stepped all parts k old.count (reverse old.due)) → new.count ≡ (stepped (rows table parts) parts k old.count (reverse old.due)).count
  count_is by s = s.count ∙ ap (λ (a : List (List Row)). (stepped a parts k old.count (reverse old.due)).count) is_all

  choices_is : (by : Step) → StepsTo old new by (stepped all parts k old.count (reverse old.due)) → new.choices ≡ old.choices ++ (stepped (rows table parts) parts k old.count (reverse old.due)).choices
  choices_is by s = s.choices ∙ ap (λ (a : List (List Row)). old.choices ++ (stepped a parts k old.count (reverse old.due)).choices) is_all

  pub leads_on : LeadsTo table parts last k first (reverse old.due) old.count old.choices → StepsTo old new step.On (stepped all parts k old.count (reverse old.due))
      → LeadsTo table parts last k first (reverse new.due) new.count new.choices
  leads_on l s =
      let t = step_tells step.On l s in
      let to : Stepped = stepped (rows table parts) parts k old.count (reverse old.due) in
      record {
        made = l.made ++ to.choices;
        is = choices_is step.On s ∙ ap (λ (x : List ℕ). x ++ to.choices) l.is ∙ append_assoc first.choices l.made to.choices;
        advances =
            subst (λ (d : List Due). Advances table parts last k (reverse first.due) first.count d new.count (l.made ++ to.choices)) (sym (due_is step.On s))
            (subst (λ (n : ℕ). Advances table parts last k (reverse first.due) first.count to.due n (l.made ++ to.choices)) (sym (count_is step.On s))
            (goes_on table parts last k (reverse first.due) (reverse old.due) to.due first.count old.count to.count l.made to.choices l.advances t.0));
      }

  pub gets_lighter : LeadsTo table parts last k first (reverse old.due) old.count old.choices → StepsTo old new step.On (stepped all parts k old.count (reverse old.due))
      → weight_due parts (reverse new.due) < weight_due parts (reverse old.due)
  gets_lighter l s =
      let t = step_tells step.On l s in
      subst (λ (d : List Due). weight_due parts d < weight_due parts (reverse old.due)) (sym (due_is step.On s)) t.1

  pub reaches_by : (by : Step) → (by ≡ step.On → ⊥) → LeadsTo table parts last k first (reverse old.due) old.count old.choices → StepsTo old new by (stepped all parts k old.count (reverse old.due))
      → Reaches table parts last k first new by
  reaches_by step.On other l s = other refl
  reaches_by (step.Met nesting) other l s =
      let t = step_tells (step.Met nesting) l s in
      record {
        made = l.made;
        is = choices_is (step.Met nesting) s ∙ ap (λ (x : List ℕ). old.choices ++ x) t.2 ∙ append-nil old.choices ∙ l.is;
        advances =
            subst (λ (d : List Due). Advances table parts last k (reverse first.due) first.count d new.count l.made) (t.0 ∙ ap (λ (d : List Due). Expect (Token k nesting) ∷ d) (sym (due_is (step.Met nesting) s)))
            (subst (λ (n : ℕ). Advances table parts last k (reverse first.due) first.count (reverse old.due) n l.made) (sym (count_is (step.Met nesting) s ∙ t.1)) l.advances);
      }
  reaches_by step.Wrong other l s =
      let t = step_tells step.Wrong l s in
      λ ts cs d. (let b = l.advances.back ts cs d in t ts b.0 b.2)

-- ---- the first state

pub first_stands : (table : List Symbol) (parts : List Part) (last limit : ℕ) → is_predictive table parts last ≡ true → Stands table parts last limit [] (expected (whole last) []) 0 []
first_stands table parts last limit known =
    let sound = sound_of table parts last known in
    let end : Goes table (Token last Keeps ∷ []) (part_at parts 0).bars = (last ∷ [], [], token nothing, sound.bars) in
    record {
      after = [];
      long = refl;
      within = tt;
      fore = λ ts cs d. d;
      back = λ ts cs d. (cs, refl, d);
      nests = λ cs counts n. n;
      ready = record {
        line = (record { leads = λ k ts cs d. subst (λ (x : ℕ). has (part_at parts 0).follows x ≡ true) (token_is d).0 sound.follows; goes = end }, (tt, tt));
        goes = part_goes table parts sound.fit 0 (Token last Keeps ∷ []) sound.first end;
      };
      bottom = inr (Expect (symbol.Part 0) ∷ [], refl);
      count_low = omega arith;
      low = tt;
    }

pub first_ready : (table : List Symbol) (parts : List Part) (last : ℕ) → is_predictive table parts last ≡ true → AreInLine table parts (whole last)
first_ready table parts last known = (first_stands table parts last 0 known).ready.line

pub run_stands : (table : List Symbol) (parts : List Part) (last limit : ℕ) (run : Run) → is_predictive table parts last ≡ true → IsFirst last run → Stands table parts last limit [] (reverse run.due) run.count run.choices
run_stands table parts last limit run known f =
    subst (λ (d : List Due). Stands table parts last limit [] d run.count run.choices) (sym f.due)
    (subst (λ (n : ℕ). Stands table parts last limit [] (expected (whole last) []) n run.choices) (sym f.count)
    (subst (λ (c : List ℕ). Stands table parts last limit [] (expected (whole last) []) 0 c) (sym f.choices) (first_stands table parts last limit known)))
