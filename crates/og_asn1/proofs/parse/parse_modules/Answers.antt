use Rattle.std.proofs.Common.{ℕ, List, Result, Err, ap, subst, ◌∙◌}
use Rattle.og_grammar.specs.declared.reader.Refusal.{Refusal}
use Rattle.og_grammar.specs.Answers.{IsFirstWrong, IsFirstTooDeep, IsCutOff}
use Rattle.og_asn1.specs.declared.grammar.TheConstants.{GRAMMAR, LAST, LIMIT}
use Rattle.og_asn1.specs.Trees.{trees_of}
use Rattle.og_asn1.proofs.Parsing.{are_modules, are_no_others}
use Rattle.og_asn1.proofs.parse.parse_modules.Goals as goal

abbrev refused : Refusal → Result (List ℕ) Refusal
refused e = Err e

pub returns-in-Ok-clause-found : goal.returns-in-Ok-clause-found
returns-in-Ok-clause-found c =
    let k = c.as_slice.ensures.value ∙ c.in_ok-kinds.ensures in
    are_modules c.args.tokens.now c.as_slice.result.now c.in-Ok.choices c.in_ok-modules-in-Ok.modules k c.in-Ok.ensures.found (c.in_ok-modules-in-Ok.ensures ∙ ap (λ (cs : List ℕ). trees_of cs c.args.tokens.now) c.as_slice-in-Ok.ensures)

pub returns-in-Ok-clause-only : goal.returns-in-Ok-clause-only
returns-in-Ok-clause-only c =
    let k = c.as_slice.ensures.value ∙ c.in_ok-kinds.ensures in
    are_no_others c.args.tokens.now c.as_slice.result.now c.in-Ok.choices c.in_ok-modules-in-Ok.modules k c.in-Ok.ensures.only (c.in_ok-modules-in-Ok.ensures ∙ ap (λ (cs : List ℕ). trees_of cs c.args.tokens.now) c.as_slice-in-Ok.ensures)

pub refused-requires-clause-wrong : goal.refused-requires-clause-wrong
refused-requires-clause-wrong c = λ number e.
    subst (λ (k : List ℕ). IsFirstWrong GRAMMAR LAST LIMIT k number) (c.as_slice.ensures.value ∙ c.in_ok-kinds.ensures) (c.in-Err.ensures.wrong number (ap refused e))

pub refused-requires-clause-deep : goal.refused-requires-clause-deep
refused-requires-clause-deep c = λ number e.
    subst (λ (k : List ℕ). IsFirstTooDeep GRAMMAR LAST LIMIT k number) (c.as_slice.ensures.value ∙ c.in_ok-kinds.ensures) (c.in-Err.ensures.deep number (ap refused e))

pub refused-requires-clause-cut : goal.refused-requires-clause-cut
refused-requires-clause-cut c = λ e.
    subst (λ (k : List ℕ). IsCutOff GRAMMAR LAST LIMIT k) (c.as_slice.ensures.value ∙ c.in_ok-kinds.ensures) (c.in-Err.ensures.cut (ap refused e))
