use Rattle.std.proofs.Common.{ℕ, List, Result, Err, ap, subst, ◌∙◌}
use Rattle.og_grammar.specs.declared.reader.Refusal.{Refusal}
use Rattle.og_grammar.specs.Sentence.{Spells}
use Rattle.og_grammar.specs.Answers.{IsDerivation, IsFirstWrong, IsFirstTooDeep, IsCutOff}
use Rattle.og_reading.specs.declared.kind.TheConstants.{LAST}
use Rattle.og_reading.specs.declared.sentence.TheConstants.{LIMIT}
use Rattle.og_reading.proofs.sentence.choices_of.Goals as goal

abbrev refused : Refusal → Result (List ℕ) Refusal
refused e = Err e

pub refused-requires-clause-wrong : goal.refused-requires-clause-wrong
refused-requires-clause-wrong c = λ number e.
    subst (λ (k : List ℕ). IsFirstWrong c.args.table.now LAST LIMIT k number) (c.as_slice.ensures.value ∙ c.in_ok-kinds.ensures) (c.in-Err.ensures.wrong number (ap refused e))

pub refused-requires-clause-deep : goal.refused-requires-clause-deep
refused-requires-clause-deep c = λ number e.
    subst (λ (k : List ℕ). IsFirstTooDeep c.args.table.now LAST LIMIT k number) (c.as_slice.ensures.value ∙ c.in_ok-kinds.ensures) (c.in-Err.ensures.deep number (ap refused e))

pub refused-requires-clause-cut : goal.refused-requires-clause-cut
refused-requires-clause-cut c = λ e.
    subst (λ (k : List ℕ). IsCutOff c.args.table.now LAST LIMIT k) (c.as_slice.ensures.value ∙ c.in_ok-kinds.ensures) (c.in-Err.ensures.cut (ap refused e))
