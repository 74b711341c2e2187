-- Two ways of going over one text: where it goes wrong, and where it nests too deep, against tokens that were taken off it.
use Rattle.std.proofs.Common.{◌≡◌, ℕ, ◌<◌, ◌≤◌, List, [], ◌∷◌, ◌++◌, length, sym, ap, ◌∙◌, subst, arith, length-append}
use Rattle.std.proofs.lemmas.List.{append_cancel_left}
use Rattle.og_csubset.specs.Tokens.{Token, spelling, Begins, Cuts, first_line}
use Rattle.og_csubset.specs.Nesting.{PassesNesting}
use Rattle.og_csubset.specs.Wrong.{BeginsProgram, GoesWrongBehind, GoesWrong, in_first_line, behind}
use Rattle.og_csubset.specs.Refusals.{IsTooDeep}
use Rattle.og_csubset.proofs.Lexing.{same_first}
use Rattle.og_csubset.proofs.Text.{some_byte}
use Rattle.og_csubset.proofs.WrongPlace.{regroup, fewer}
use Rattle.og_csubset.proofs.OneAnswer.{cuts_length}

-- tokens with which a program begins end before the text goes wrong
wrong_behind : (before : List Token) (body rest more : List ℕ) (ts us : List Token) → Cuts ts body rest
    → ((t : Token) (l : List ℕ) → Begins rest t l → BeginsProgram (before ++ (ts ++ t ∷ [])) → ⊥)
    → Cuts us body more → BeginsProgram (before ++ us) → length rest ≤ length more
wrong_behind before body rest more [] [] c never k viable = omega (arith, ap (λ l. length l) (sym c ∙ k))
wrong_behind before body rest more [] (u ∷ us) c never k viable =
    absurd (never u k.0 (subst (λ b. Begins b u k.0) c k.1) (fewer before u us viable))
wrong_behind before body rest more (t ∷ ts) [] c never k viable = omega (arith, ap (λ l. length l) k, cuts_length (t ∷ ts) body rest c)
wrong_behind before body rest more (t ∷ ts) (u ∷ us) c never k viable =
    let same = same_first body u t k.0 c.0 k.1 c.1 in
    wrong_behind (before ++ t ∷ []) c.0 rest more ts us c.2
    (λ v l b h. never v l b (subst BeginsProgram (regroup before t (ts ++ v ∷ [])) h))
    (subst (λ b. Cuts us b more) same.1 k.2)
    (subst BeginsProgram (ap (λ x. before ++ x ∷ us) same.0 ∙ sym (regroup before t us)) viable)

-- a token that passes, where a program goes on with it
pub too_deep : (limit : ℕ) (text before : List ℕ) (p : PassesNesting limit text before) → Cuts (p.tokens ++ p.token ∷ []) p.body p.rest
    → BeginsProgram (p.tokens ++ p.token ∷ []) → IsTooDeep limit text before
too_deep limit text before p cuts viable = record { passes = p; wrong_later = after }
  where
    after_rest : (other : List ℕ) (w : GoesWrongBehind text other) → length before < length other
    after_rest other w =
        let body : p.body ≡ w.body = append_cancel_left first_line p.body w.body (sym p.starts ∙ w.starts) in
        let short = wrong_behind [] w.body w.rest p.rest w.tokens (p.tokens ++ p.token ∷ []) w.cuts w.no_token
        (subst (λ b. Cuts (p.tokens ++ p.token ∷ []) b p.rest) body cuts) viable in
        omega (
          arith,
          short,
          ap (λ l. length l) (sym w.place ∙ p.place),
          length-append other w.here,
          length-append before (spelling p.token ++ p.rest),
          length-append (spelling p.token) p.rest,
          some_byte p.token p.begins.is_token,
          ap (λ l. length l) w.joined,
          length-append w.space w.here,
        )

    after : (other : List ℕ) → GoesWrong text other → length before < length other
    after other (in_first_line h) = absurd (h p.body p.starts)
    after other (behind w) = after_rest other w
