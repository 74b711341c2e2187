-- What a reader has said at a token, as an answer about the whole list.
use Rattle.std.proofs.Common.{◌≡◌, ℕ, zero, suc, ◌+◌, ◌<◌, ◌≤◌, List, [], ◌∷◌, ◌++◌, length, reverse, get_or, take, drop, Result, Err, refl, sym, ap, subst, ◌∙◌, arith}
use Rattle.std.proofs.lemmas.List.{reverse-reverse}
use Rattle.og_grammar.specs.declared.reader.Refusal.{Refusal}
use Rattle.og_grammar.specs.declared.reader.Refusal.TheVariants.{Wrong, TooDeep}
use Rattle.og_grammar.specs.declared.Symbol.{Symbol}
use Rattle.og_grammar.specs.declared.Nesting.{Nesting}
use Rattle.og_grammar.specs.declared.Symbol.TheVariants.{Token}
use Rattle.og_grammar.specs.declared.Due.TheVariants.{Expect}
use Rattle.og_grammar.specs.declared.Part.{Part}
use Rattle.og_grammar.specs.declared.run.Run.{Run}
use Rattle.og_grammar.specs.declared.run.Step.{Step}
use Rattle.og_grammar.specs.declared.run.Step.TheVariants as step
use Rattle.og_grammar.specs.Sentence.{Spells, nested}
use Rattle.og_grammar.specs.Answers.{IsDerivation, IsFirstWrong, IsFirstTooDeep, IsCutOff}
use Rattle.og_grammar.specs.Standing.{LeadsTo, Reaches, Stands}
use Rattle.og_grammar.proofs.Standing.{stands_met, answers_wrong, answers_deep, answers_cut, answers_found}

parts_at : (kinds : List ℕ) (at : ℕ) → at < length kinds → take at kinds ++ get_or kinds at 0 ∷ drop (suc at) kinds ≡ kinds
parts_at [] at lt = absurd (omega arith)
parts_at (k ∷ kinds) zero lt = refl
parts_at (k ∷ kinds) (suc at) lt = ap (λ (x : List ℕ). k ∷ x) (parts_at kinds at (omega arith))

length-front : (kinds : List ℕ) (at : ℕ) → at < length kinds → length (take at kinds) ≡ at
length-front [] at lt = absurd (omega arith)
length-front (k ∷ kinds) zero lt = refl
length-front (k ∷ kinds) (suc at) lt = ap suc (length-front kinds at (omega arith))

front_more : (kinds : List ℕ) (at : ℕ) → at < length kinds → take at kinds ++ get_or kinds at 0 ∷ [] ≡ take (suc at) kinds
front_more [] at lt = absurd (omega arith)
front_more (k ∷ kinds) zero lt = refl
front_more (k ∷ kinds) (suc at) lt = ap (λ (x : List ℕ). k ∷ x) (front_more kinds at (omega arith))

all_taken : (kinds : List ℕ) (at : ℕ) → length kinds ≤ at → take at kinds ≡ kinds
all_taken [] zero le = refl
all_taken [] (suc at) le = refl
all_taken (k ∷ kinds) zero le = absurd (omega arith)
all_taken (k ∷ kinds) (suc at) le = ap (λ (x : List ℕ). k ∷ x) (all_taken kinds at (omega arith))

abbrev failed : {A : Type 0} → Refusal → Result A Refusal
failed e = Err e

pub same_wrong : {A : Type 0} (a b : ℕ) → failed {A = A} (Wrong a) ≡ failed (Wrong b) → a ≡ b
same_wrong a b e = cc

pub same_deep : {A : Type 0} (a b : ℕ) → failed {A = A} (TooDeep a) ≡ failed (TooDeep b) → a ≡ b
same_deep a b e = cc

module _ (table : List Symbol) (parts : List Part) (last limit : ℕ) (kinds : List ℕ) (at : ℕ) where
  pub wrong_at : (run new : Run) (by : Step) → at < length kinds → Stands table parts last limit (take at kinds) (reverse run.due) run.count run.choices
      → ((nesting : Nesting) → by ≡ step.Met nesting → ⊥) → Reaches table parts last (get_or kinds at 0) run new by → IsFirstWrong table last limit kinds at
  wrong_at run new step.On lt s other r = absurd r
  wrong_at run new (step.Met nesting) lt s other r = absurd (other nesting refl)
  wrong_at run new step.Wrong lt s other r =
      subst (λ (n : ℕ). IsFirstWrong table last limit kinds n) (length-front kinds at lt)
      (subst (λ (x : List ℕ). IsFirstWrong table last limit x (length (take at kinds))) (parts_at kinds at lt)
      (answers_wrong table parts last limit (get_or kinds at 0) (take at kinds) (drop (suc at) kinds) (reverse run.due) run.count run.choices s r))

  pub low_at : (run new : Run) (nesting : Nesting) → Stands table parts last limit (take at kinds) (reverse run.due) run.count run.choices → Reaches table parts last (get_or kinds at 0) run new (step.Met nesting) → new.count ≤ limit
  low_at run new nesting s l = (l.advances.low limit s.count_low s.low).0

  pub deep_at : (run new : Run) (nesting : Nesting) → at < length kinds → Stands table parts last limit (take at kinds) (reverse run.due) run.count run.choices
      → LeadsTo table parts last (get_or kinds at 0) run (Expect (Token (get_or kinds at 0) nesting) ∷ reverse new.due) new.count new.choices → limit < nested nesting new.count → IsFirstTooDeep table last limit kinds at
  deep_at run new nesting lt s l passes =
      subst (λ (n : ℕ). IsFirstTooDeep table last limit kinds n) (length-front kinds at lt)
      (subst (λ (x : List ℕ). IsFirstTooDeep table last limit x (length (take at kinds))) (parts_at kinds at lt)
      (answers_deep table parts last limit (get_or kinds at 0) nesting (take at kinds) (drop (suc at) kinds) (reverse run.due) (reverse new.due) run.count new.count run.choices l.made s l.advances passes))

  pub met_at : (run new : Run) (nesting : Nesting) → at < length kinds → Stands table parts last limit (take at kinds) (reverse run.due) run.count run.choices
      → LeadsTo table parts last (get_or kinds at 0) run (Expect (Token (get_or kinds at 0) nesting) ∷ reverse new.due) new.count new.choices → nested nesting new.count ≤ limit
      → Stands table parts last limit (take (at + 1) kinds) (reverse new.due) (nested nesting new.count) new.choices
  met_at run new nesting lt s l le =
      let next : take at kinds ++ get_or kinds at 0 ∷ [] ≡ take (at + 1) kinds = front_more kinds at lt ∙ (let e : suc at ≡ at + 1 = omega arith in ap (λ (n : ℕ). take n kinds) e) in
      subst (λ (x : List ℕ). Stands table parts last limit x (reverse new.due) (nested nesting new.count) new.choices) next
      (subst (λ (c : List ℕ). Stands table parts last limit (take at kinds ++ get_or kinds at 0 ∷ []) (reverse new.due) (nested nesting new.count) c) (sym l.is)
      (stands_met table parts last limit (get_or kinds at 0) nesting (take at kinds) (reverse run.due) (reverse new.due) run.count new.count run.choices l.made s l.advances le))

  pub found_at : (run : Run) → length kinds ≤ at → Stands table parts last limit (take at kinds) (reverse run.due) run.count run.choices → run.due ≡ []
      → IsDerivation table last limit kinds run.choices × ((other : List ℕ) → Spells table last kinds other → other ≡ run.choices)
  found_at run le s e =
      let whole_list : Stands table parts last limit kinds (reverse run.due) run.count run.choices = subst (λ (x : List ℕ). Stands table parts last limit x (reverse run.due) run.count run.choices) (all_taken kinds at le) s in
      answers_found table parts last limit kinds (reverse run.due) run.count run.choices whole_list (ap reverse e)

  pub cut_at : (run : Run) → length kinds ≤ at → Stands table parts last limit (take at kinds) (reverse run.due) run.count run.choices → (run.due ≡ [] → ⊥) → IsCutOff table last limit kinds
  cut_at run le s left =
      let whole_list : Stands table parts last limit kinds (reverse run.due) run.count run.choices = subst (λ (x : List ℕ). Stands table parts last limit x (reverse run.due) run.count run.choices) (all_taken kinds at le) s in
      answers_cut table parts last limit kinds (reverse run.due) run.count run.choices whole_list (λ e. left (sym (reverse-reverse run.due) ∙ ap reverse e))
