-- One step of a reader that stands before a token: what is due first is taken up, by what the token's kind says.
use Rattle.std.specs.Prelude.{◌≡◌, ℕ, List, [], ◌∷◌, ◌++◌, reverse, Option, Some, None, if◌then◌else◌, ◌==◌}
use Rattle.og_grammar.specs.declared.Symbol.{Symbol}
use Rattle.og_grammar.specs.declared.Symbol.TheVariants.{Rule, Token, Scope, Maybe, Many, NotBefore}
use Rattle.og_grammar.specs.declared.Symbol.TheVariants as symbol
use Rattle.og_grammar.specs.declared.Part.{Part}
use Rattle.og_grammar.specs.declared.Due.{Due}
use Rattle.og_grammar.specs.declared.Due.TheVariants.{Expect, Restore}
use Rattle.og_grammar.specs.declared.rows.Row.{Row}
use Rattle.og_grammar.specs.declared.run.Run.{Run}
use Rattle.og_grammar.specs.declared.run.Step.{Step}
use Rattle.og_grammar.specs.declared.run.Step.TheVariants as step
use Rattle.og_grammar.specs.Sentence.{entered}
use Rattle.og_grammar.specs.Rows.{choice_of, way_of}

-- where a step leads: what is due after it, the nesting, and the choices that it made
pub record Stepped : Type 0 where
  pub step : Step
  pub due : List Due
  pub count : ℕ
  pub choices : List ℕ

abbrev pub by_choice : List (List Row) → ℕ → Symbol → List Due → Option ℕ → Stepped
by_choice rows count s due None = record { step = step.Wrong; due = due; count = count; choices = [] }
by_choice rows count s due (Some c) = record { step = step.On; due = entered count s (way_of rows s c) due; count = count; choices = c ∷ [] }

-- a symbol is due
abbrev pub met : List (List Row) → List Part → ℕ → ℕ → Symbol → List Due → Stepped
met rows parts k count (Rule p) due = record { step = step.Wrong; due = due; count = count; choices = [] }
met rows parts k count (Token t nesting) due = record { step = (if t == k then step.Met nesting else step.Wrong); due = due; count = count; choices = [] }
met rows parts k count (symbol.Part p) due = by_choice rows count (symbol.Part p) due (choice_of rows parts (symbol.Part p) k)
met rows parts k count (Scope p) due = by_choice rows count (Scope p) due (choice_of rows parts (Scope p) k)
met rows parts k count (Maybe p) due = by_choice rows count (Maybe p) due (choice_of rows parts (Maybe p) k)
met rows parts k count (Many p) due = by_choice rows count (Many p) due (choice_of rows parts (Many p) k)
met rows parts k count (NotBefore t) due = record { step = (if t == k then step.Wrong else step.On); due = due; count = count; choices = [] }

abbrev pub stepped : List (List Row) → List Part → ℕ → ℕ → List Due → Stepped
stepped rows parts k count [] = record { step = step.Wrong; due = []; count = count; choices = [] }
stepped rows parts k count (Restore before ∷ due) = record { step = step.On; due = due; count = before; choices = [] }
stepped rows parts k count (Expect s ∷ due) = met rows parts k count s due

-- the run goes from one state to another by this step
pub record StepsTo (old new : Run) (by : Step) (to : Stepped) : Type 0 where
  pub step : by ≡ to.step
  pub due : reverse new.due ≡ to.due
  pub count : new.count ≡ to.count
  pub choices : new.choices ≡ old.choices ++ to.choices
