use Rattle.std.proofs.Common.{◌≡◌, ◌∙◌, ℕ, Ok, Err, sym, refl, subst, decimal}
use Rattle.og_words.specs.Words.{IsSteps}
use Rattle.og_words.proofs.CommandForms.{is_read, same_read, never_so}
use Rattle.og_words.proofs.command.number_of_steps.Goals as goal

pub returns-in-Err-clause-none : goal.returns-in-Err-clause-none
returns-in-Err-clause-none c = λ n is steps.
    let e : Err c.in-Err.field-0 ≡ Ok n = sym c.in-Err.is ∙ is_read n c.args.number.now c.parse.result is steps c.parse.ensures.value.0 in
    cc

pub returns-else-is_number_of_steps-clause-none : goal.returns-else-is_number_of_steps-clause-none
returns-else-is_number_of_steps-clause-none c = λ n is steps.
    let P : ℕ → Type 0 = λ k. (c.args.number.now ≡ decimal k) × IsSteps k in
    let same : n ≡ c.in-Ok.steps = same_read n c.in-Ok.steps c.parse.result c.parse.result refl c.in-Ok.is (is_read n c.args.number.now c.parse.result is steps c.parse.ensures.value.0) in
    never_so c.is_number_of_steps.result (P c.in-Ok.steps) c.is_number_of_steps.ensures c.if-is_number_of_steps.false (subst P same (is, steps))
