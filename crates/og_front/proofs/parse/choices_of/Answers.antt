use Rattle.std.proofs.Common.{◌≡◌, ℕ, ◌*◌, List, length, Result, Err, refl, sym, ap, subst, ◌∙◌, arith}
use Rattle.og_grammar.specs.declared.reader.Refusal.{Refusal}
use Rattle.og_grammar.specs.Answers.{IsFirstTooDeep}
use Rattle.og_grammar.specs.Sentence.{Spells as Derived}
use Rattle.og_front.specs.declared.grammar.TheConstants.{GRAMMAR, LAST}
use Rattle.og_front.proofs.parse.choices_of.Goals as goal

abbrev refused : Refusal → Result (List ℕ) Refusal
refused e = Err e

pub returns-in-Ok-clause-only : goal.returns-in-Ok-clause-only
returns-in-Ok-clause-only c = λ other h.
    c.in-Ok.ensures.only other (subst (λ (k : List ℕ). Derived GRAMMAR LAST k other) (sym (c.as_slice.ensures.value ∙ c.in_ok-kinds.ensures)) h)

pub returns-in-Err-Wrong-clause-none : goal.returns-in-Err-Wrong-clause-none
returns-in-Err-Wrong-clause-none c = λ _ other h.
    (let w = c.in-Err-Wrong.ensures.wrong c.in-Err-Wrong.field-0-0 (ap refused c.in-Err-Wrong.field-0-is) in
    w.none w.behind other (subst (λ (k : List ℕ). Derived GRAMMAR LAST k other) (sym (c.as_slice.ensures.value ∙ c.in_ok-kinds.ensures) ∙ w.parts) h))

pub returns-clause-none : goal.returns-clause-none
returns-clause-none c = λ _ other h.
    (let w = c.in-Err-CutOff.ensures.cut (ap refused c.in-Err-CutOff.field-0-is) in
    w.none other (subst (λ (k : List ℕ). Derived GRAMMAR LAST k other) (sym (c.as_slice.ensures.value ∙ c.in_ok-kinds.ensures)) h))

pub unreachable-requires : goal.unreachable-requires
unreachable-requires c =
    let deep = c.in-Err-TooDeep.ensures.deep c.in-Err-TooDeep.field-0-0 (ap refused c.in-Err-TooDeep.field-0-is) in
    let none : 0 ≡ 0 * length c.as_slice.result.now = omega arith in
    c.never_deeper.ensures GRAMMAR LAST 0 refl c.as_slice.result.now c.in-Err-TooDeep.field-0-0
    (subst (λ (limit : ℕ). IsFirstTooDeep GRAMMAR LAST limit c.as_slice.result.now c.in-Err-TooDeep.field-0-0) none deep)
