-- A text is spelt by a program, or goes wrong at a place: the recognizer tells which, going over its tokens once.
use Rattle.std.proofs.Common.{◌≡◌, ℕ, zero, suc, ◌≤◌, Bool, true, false, List, [], ◌∷◌, ◌++◌, length, ◌⊎◌, inl, inr, Option, Some, None, refl, sym, ap, ◌∙◌, subst, arith, append_assoc}
use Rattle.std.specs.List.{list_all}
use Rattle.std.proofs.lemmas.Bool.{true≢false}
use Rattle.og_csubset.specs.declared.CProgram.{CProgram}
use Rattle.og_csubset.specs.Tokens.{Token, spelling, is_space, Begins, Cuts, first_line}
use Rattle.og_csubset.specs.Spelling.{IsProgram, CSpells}
use Rattle.og_csubset.specs.Wrong.{BeginsProgram, BeginsWithNoSpace, GoesWrong, in_first_line, behind}
use Rattle.og_csubset.specs.Lexing.{cut, StopsAt, next_token}
use Rattle.og_csubset.proofs.Lexing.{next-begins, nothing_first}
use Rattle.og_csubset.proofs.Lexed.{begins-next, cut_joined, cut_all, cut_stops}
use Rattle.og_csubset.proofs.Seen.{nothing, Some-same}
use Rattle.og_csubset.proofs.Text.{behind as behind_bytes, behind_sound, behind_complete, begins_shrinks}
use Rattle.og_csubset.specs.Recognizer.{Symbols, step, run, may_end, program_symbols}
use Rattle.og_csubset.proofs.Viable.{viable, refused_next, ended_program, no_program, run-more}

-- one token more that the bytes begin with
pub cuts_more : (ts : List Token) (bytes rest more : List ℕ) (u : Token) → Cuts ts bytes rest → Begins rest u more → Cuts (ts ++ u ∷ []) bytes more
cuts_more [] bytes rest more u c b = (more, subst (λ l. Begins l u more) (sym c) b, refl)
cuts_more (t ∷ ts) bytes rest more u c b = (c.0, c.1, cuts_more ts c.0 rest more u c.2 b)

-- the bytes of the tokens
pub regroup : (a b c d : List ℕ) → a ++ (b ++ (c ++ d)) ≡ (a ++ (b ++ c)) ++ d
regroup a b c d = simp append_assoc

unfoldable pub cuts_bytes : (ts : List Token) (bytes rest : List ℕ) → Cuts ts bytes rest → (w : List ℕ) × (bytes ≡ w ++ rest)
cuts_bytes [] bytes rest c = ([], c)
cuts_bytes (t ∷ ts) bytes rest c =
    let others = cuts_bytes ts c.0 rest c.2 in
    let b = c.1 in (
      b.space ++ (spelling t ++ others.0),
      b.joined ∙ (ap (λ l. b.space ++ (spelling t ++ l)) others.1 ∙ regroup b.space (spelling t) others.0 rest),
    )

pub no_space : (bs : List ℕ) → StopsAt is_space bs → BeginsWithNoSpace bs
no_space [] h = tt
no_space (b ∷ bs) h = h

-- what is known at a place of the text
pub record At (text body rest : List ℕ) (ts : List Token) (S : Symbols) : Type 0 where
  pub taken : List ℕ
  pub joined : text ≡ taken ++ rest
  pub starts : text ≡ first_line ++ body
  pub cuts : Cuts ts body rest
  pub runs : run program_symbols ts ≡ Some S

-- it goes wrong at this place
unfoldable pub wrong_here : (text body rest : List ℕ) (ts : List Token) (S : Symbols) → At text body rest ts S
    → ((t : Token) (more : List ℕ) → Begins rest t more → BeginsProgram (ts ++ t ∷ []) → ⊥)
    → (list_all is_space rest ≡ true → (P : CProgram) → IsProgram P ts → ⊥) → (before : List ℕ) × GoesWrong text before
wrong_here text body rest ts S a no_token no_end =
    let space = (cut is_space rest).0 in
    let here = (cut is_space rest).1 in (
      a.taken ++ space,
      behind (record {
        tokens = ts;
        body = body;
        rest = rest;
        space = space;
        here = here;
        starts = a.starts;
        cuts = a.cuts;
        so_far = viable S ts a.runs;
        no_token = no_token;
        no_end = no_end;
        joined = cut_joined is_space rest;
        blank = cut_all is_space rest;
        at_byte = no_space here (cut_stops is_space rest);
        place = a.joined ∙ (ap (λ l. a.taken ++ l) (cut_joined is_space rest) ∙ sym (append_assoc a.taken space here));
      }),
    )

abbrev pub Judged : List ℕ → Type 0
Judged text = ((P : CProgram) × CSpells P text) ⊎ ((before : List ℕ) × GoesWrong text before)

-- where no token stands: the end, or a foreign byte
unfoldable pub at_no_token : (text body rest : List ℕ) (ts : List Token) (S : Symbols) → At text body rest ts S → next_token rest ≡ None → Judged text
at_no_token text body rest ts S a e = go (list_all is_space rest) (may_end S) refl refl
  where
    none_stands : (t : Token) (more : List ℕ) → Begins rest t more → BeginsProgram (ts ++ t ∷ []) → ⊥
    none_stands t more b h = nothing (t, more) (sym e ∙ next-begins rest t more b)

    go : (c d : Bool) → list_all is_space rest ≡ c → may_end S ≡ d → Judged text
    go true true blank ends =
        let found = ended_program S ts a.runs ends in inl (found.0, (ts, (body, a.starts, (rest, a.cuts, blank)), found.1))
    go true false blank ends = inr (wrong_here text body rest ts S a none_stands (λ k P p. no_program S ts a.runs ends P p))
    go false d blank ends = inr (wrong_here text body rest ts S a none_stands (λ k P p. true≢false (sym k ∙ blank)))

-- where a token stands that the recognizer refuses
unfoldable pub at_refused : (text body rest more : List ℕ) (ts : List Token) (S : Symbols) (u : Token) → At text body rest ts S → next_token rest ≡ Some (u, more)
    → step S u ≡ None → Judged text
at_refused text body rest more ts S u a e refused =
    inr (wrong_here text body rest ts S a
    (λ t us b h. refused_next S ts u a.runs refused (subst (λ x. BeginsProgram (ts ++ x ∷ [])) (same_token t us b) h))
    (λ blank P p. nothing_first rest u more blank (begins-next rest u more e)))
  where
    same_token : (t : Token) (us : List ℕ) → Begins rest t us → t ≡ u
    same_token t us b = ap (λ p. p.0) (Some-same (t, us) (u, more) (sym (next-begins rest t us b) ∙ e))

unfoldable pub judge : (n : ℕ) (text body rest : List ℕ) (ts : List Token) (S : Symbols) → length rest ≤ n → At text body rest ts S → Judged text
judge zero text body rest ts S fits a = go (next_token rest) refl
  where
    go : (o : Option (Token × List ℕ)) → next_token rest ≡ o → Judged text
    go None e = at_no_token text body rest ts S a e
    go (Some p) e = absurd (omega (arith, fits, begins_shrinks rest p.0 p.1 (begins-next rest p.0 p.1 e)))
judge (suc n) text body rest ts S fits a = go (λ more us T k b. judge n text body more us T k b) (next_token rest) refl
  where
    Later : Type 0
    Later = (more : List ℕ) (us : List Token) (T : Symbols) → length more ≤ n → At text body more us T → Judged text

    taken : Later → (p : Token × List ℕ) → next_token rest ≡ Some p → (o : Option Symbols) → step S p.0 ≡ o → Judged text
    taken later p e None k = at_refused text body rest p.1 ts S p.0 a e k
    taken later p e (Some T) k =
        let b = begins-next rest p.0 p.1 e in
        later p.1 (ts ++ p.0 ∷ []) T (omega (arith, fits, begins_shrinks rest p.0 p.1 b)) (record {
          taken = a.taken ++ (b.space ++ spelling p.0);
          joined = a.joined ∙ (ap (λ l. a.taken ++ l) b.joined ∙ regroup a.taken b.space (spelling p.0) p.1);
          starts = a.starts;
          cuts = cuts_more ts body rest p.1 p.0 a.cuts b;
          runs = run-more program_symbols S T ts p.0 a.runs k;
        })

    go : Later → (o : Option (Token × List ℕ)) → next_token rest ≡ o → Judged text
    go later None e = at_no_token text body rest ts S a e
    go later (Some p) e = taken later p e (step S p.0) refl

-- each text is spelt by a program or goes wrong
unfoldable pub judged : (text : List ℕ) → ((P : CProgram) × CSpells P text) ⊎ ((before : List ℕ) × GoesWrong text before)
judged text = go (behind_bytes first_line text) refl
  where
    go : (o : Option (List ℕ)) → behind_bytes first_line text ≡ o → Judged text
    go None e = inr ([], in_first_line (λ body h. nothing body (sym e ∙ (ap (behind_bytes first_line) h ∙ behind_complete first_line body))))
    go (Some body) e =
        judge (length body) text body body [] program_symbols (omega arith)
        (record { taken = first_line; joined = behind_sound first_line text body e; starts = behind_sound first_line text body e; cuts = refl; runs = refl })
