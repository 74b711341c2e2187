-- Each text is spelt by a program within the limit of nesting, or is too deep at a place, or is bad at a place.
use Rattle.std.proofs.Common.{◌≡◌, ℕ, ◌<◌, ◌≤◌, true, List, [], ◌∷◌, ◌++◌, length, ◌⊎◌, inl, inr, ⊎_elim, sym, ap, ◌∙◌, subst, arith, length-append}
use Rattle.std.specs.List.{list_all}
use Rattle.std.proofs.Math.Nat.{max-le}
use Rattle.std.proofs.lemmas.Bool.{cases_lt}
use Rattle.std.proofs.lemmas.List.{append_cancel_left}
use Rattle.og_csubset.specs.declared.CProgram.{CProgram}
use Rattle.og_csubset.specs.Tokens.{Token, spelling, is_space, Begins, Cuts, first_line}
use Rattle.og_csubset.specs.Spelling.{CSpells}
use Rattle.og_csubset.specs.Nesting.{Nest, outermost, after_token, nesting_from, nesting, IsWithinNesting, PassesNesting}
use Rattle.og_csubset.specs.Wrong.{BeginsWithNoSpace, GoesWrongBehind, GoesWrong, in_first_line, behind}
use Rattle.og_csubset.specs.Refusals.{IsTooDeep, IsBad}
use Rattle.og_csubset.specs.Lexing.{cut}
use Rattle.og_csubset.proofs.Lexing.{cut-append, same_first, no_space_first}
use Rattle.og_csubset.proofs.Text.{some_byte}
use Rattle.og_csubset.proofs.Nested.{Passes, depth, first_within, others_within, past_in, past_somewhere}
use Rattle.og_csubset.proofs.WrongPlace.{GoesWrong-unique, spelt_or_wrong, stops}
use Rattle.og_csubset.proofs.Judged.{judged, cuts_bytes}

pub cuts_length : (ts : List Token) (bytes rest : List ℕ) → Cuts ts bytes rest → length rest ≤ length bytes
cuts_length ts bytes rest c = let w = cuts_bytes ts bytes rest c in omega (arith, ap (λ l. length l) w.1, length-append w.0 rest)

-- without the white space before it, a token begins these bytes
pub stripped : (end space here : List ℕ) (t : Token) (rest : List ℕ) → end ≡ space ++ here → list_all is_space space ≡ true → BeginsWithNoSpace here
    → Begins end t rest → here ≡ spelling t ++ rest
stripped end space here t rest e blank first b =
    let mine : cut is_space end ≡ (space, here) = ap (cut is_space) e ∙ cut-append is_space space here blank (stops here first) in
    let its : cut is_space end ≡ (b.space, spelling t ++ rest) =
    ap (cut is_space) b.joined ∙ cut-append is_space b.space (spelling t ++ rest) b.blank (no_space_first t rest b.is_token) in
    ap (λ p. p.1) (sym mine ∙ its)

pub begins_length : (bytes : List ℕ) (t : Token) (rest : List ℕ) → Begins bytes t rest → length (spelling t ++ rest) ≤ length bytes
begins_length bytes t rest b = omega (arith, ap (λ l. length l) b.joined, length-append b.space (spelling t ++ rest))

-- the first token that passes does not come before the end of tokens that stay within the limit
pub later : (limit : ℕ) (n : Nest) (body end space wrong : List ℕ) (ts us : List Token) (t : Token) (here rest : List ℕ) → Cuts ts body end
    → nesting_from n ts ≤ limit → end ≡ space ++ wrong → list_all is_space space ≡ true → BeginsWithNoSpace wrong → Passes limit n body us t here rest
    → length (spelling t ++ rest) ≤ length wrong
later limit n body end space wrong [] [] t here rest c w e blank first p =
    let b : Begins end t rest = subst (λ l. Begins l t rest) (sym p.cuts ∙ c) p.begins in
    omega (arith, ap (λ l. length l) (stripped end space wrong t rest e blank first b))
later limit n body end space wrong [] (u ∷ us) t here rest c w e blank first p =
    let b : Begins end u p.cuts.0 = subst (λ l. Begins l u p.cuts.0) c p.cuts.1 in
    let at_u = ap (λ l. length l) (stripped end space wrong u p.cuts.0 e blank first b) in
    omega (arith, at_u, length-append (spelling u) p.cuts.0, cuts_length us p.cuts.0 here p.cuts.2, begins_length here t rest p.begins)
later limit n body end space wrong (v ∷ ts) [] t here rest c w e blank first p =
    let same = same_first here t v rest c.0 p.begins (subst (λ l. Begins l v c.0) p.cuts c.1) in
    let past : limit < depth (after_token v n) = subst (λ x. limit < depth (after_token x n)) same.0 p.past in
    absurd (omega (arith, past, first_within limit n v ts w))
later limit n body end space wrong (v ∷ ts) (u ∷ us) t here rest c w e blank first p =
    let same = same_first body u v p.cuts.0 c.0 p.cuts.1 c.1 in
    let p' : Passes limit (after_token u n) p.cuts.0 us t here rest = record {
      cuts = p.cuts.2;
      begins = p.begins;
      within = others_within limit n u us p.within;
      past = p.past;
    } in
    let p'' : Passes limit (after_token v n) c.0 us t here rest =
    subst (λ x. Passes limit (after_token x n) c.0 us t here rest) same.0
    (subst (λ b. Passes limit (after_token u n) b us t here rest) same.1 p') in
    later limit (after_token v n) c.0 end space wrong ts us t here rest c.2 (others_within limit n v ts w) e blank first p''

-- the first token that passes is one of tokens that do not stay within the limit
sooner : (limit : ℕ) (n : Nest) (body end : List ℕ) (ts us : List Token) (t : Token) (here rest : List ℕ) → Cuts ts body end
    → limit < nesting_from n ts → Passes limit n body us t here rest → length end ≤ length rest
sooner limit n body end [] us t here rest c past p = absurd (omega (arith, past))
sooner limit n body end (v ∷ ts) [] t here rest c past p =
    let same = same_first here t v rest c.0 p.begins (subst (λ l. Begins l v c.0) p.cuts c.1) in
    subst (λ l. length end ≤ length l) (sym same.1) (cuts_length ts c.0 end c.2)
sooner limit n body end (v ∷ ts) (u ∷ us) t here rest c past p =
    let same = same_first body u v p.cuts.0 c.0 p.cuts.1 c.1 in
    let p' : Passes limit (after_token u n) p.cuts.0 us t here rest = record {
      cuts = p.cuts.2;
      begins = p.begins;
      within = others_within limit n u us p.within;
      past = p.past;
    } in
    let p'' : Passes limit (after_token v n) c.0 us t here rest =
    subst (λ x. Passes limit (after_token x n) c.0 us t here rest) same.0
    (subst (λ b. Passes limit (after_token u n) b us t here rest) same.1 p') in
    let here_within : depth (after_token v n) ≤ limit = subst (λ x. depth (after_token x n) ≤ limit) same.0 (first_within limit n u us p.within) in
    let more : limit < nesting_from (after_token v n) ts =
    ⊎_elim (λ k. k) (λ k. let all = max-le here_within k in absurd (omega (arith, past, all))) (cases_lt limit (nesting_from (after_token v n) ts)) in
    sooner limit (after_token v n) c.0 end ts us t here rest c.2 more p''

pub passes : (limit : ℕ) (text before : List ℕ) (h : PassesNesting limit text before) → Passes limit outermost h.body h.tokens h.token h.here h.rest
passes limit text before h = record { cuts = h.cuts; begins = h.begins; within = h.within; past = h.past }

abbrev Answer : ℕ → List ℕ → Type 0
Answer limit text = ((P : CProgram) × CSpells P text × IsWithinNesting limit text)
    ⊎ (((before : List ℕ) × IsTooDeep limit text before) ⊎ ((before : List ℕ) × IsBad limit text before))

-- a text that goes wrong in its first line
pub bad_at_once : (limit : ℕ) (text : List ℕ) → ((body : List ℕ) → text ≡ first_line ++ body → ⊥) → IsBad limit text []
bad_at_once limit text h = record { wrong = in_first_line h; passes_later = λ other p. omega arith }

-- and one that goes wrong later
pub bad_later : (limit : ℕ) (text before : List ℕ) (w : GoesWrongBehind text before) → nesting w.tokens ≤ limit → IsBad limit text before
bad_later limit text before w within = record { wrong = behind w; passes_later = not_before }
  where
    not_before : (other : List ℕ) → PassesNesting limit text other → length before ≤ length other
    not_before other q =
        let body : q.body ≡ w.body = append_cancel_left first_line q.body w.body (sym q.starts ∙ w.starts) in
        let short = later limit outermost w.body w.rest w.space w.here w.tokens q.tokens q.token q.here q.rest w.cuts within w.joined w.blank w.at_byte
        (subst (λ b. Passes limit outermost b q.tokens q.token q.here q.rest) body (passes limit text other q)) in
        omega (arith, short, ap (λ l. length l) (sym w.place ∙ q.place), length-append before w.here, length-append other (spelling q.token ++ q.rest))

deep : (limit : ℕ) (text before : List ℕ) (w : GoesWrongBehind text before) → limit < nesting w.tokens → (other : List ℕ) → PassesNesting limit text other
    → IsTooDeep limit text other
deep limit text before w past other q = record { passes = q; wrong_later = after }
  where
    after : (place : List ℕ) → GoesWrong text place → length other < length place
    after place k =
        let here : place ≡ before = GoesWrong-unique text place before k (behind w) in
        let body : q.body ≡ w.body = append_cancel_left first_line q.body w.body (sym q.starts ∙ w.starts) in
        let p = subst (λ b. Passes limit outermost b q.tokens q.token q.here q.rest) body (passes limit text other q) in
        let short = sooner limit outermost w.body w.rest w.tokens q.tokens q.token q.here q.rest w.cuts past p in
        omega (
          arith,
          short,
          ap (λ l. length l) here,
          ap (λ l. length l) (sym w.place ∙ q.place),
          length-append before w.here,
          length-append other (spelling q.token ++ q.rest),
          length-append (spelling q.token) q.rest,
          some_byte q.token q.begins.is_token,
          ap (λ l. length l) w.joined,
          length-append w.space w.here,
        )

pub one_answer : (limit : ℕ) (text : List ℕ) → ((P : CProgram) × CSpells P text × IsWithinNesting limit text)
    ⊎ (((before : List ℕ) × IsTooDeep limit text before) ⊎ ((before : List ℕ) × IsBad limit text before))
one_answer limit text = ⊎_elim spelt wrong (judged text)
  where
    spelt : (P : CProgram) × CSpells P text → Answer limit text
    spelt s = ⊎_elim past within (cases_lt limit (nesting s.1.0))
      where
        past : limit < nesting s.1.0 → Answer limit text
        past h =
            let q = past_somewhere limit text s.1.0 s.1.1 h in
            inr (inl (q.0, record { passes = q.1; wrong_later = λ other k. absurd (spelt_or_wrong s.0 text other s.1 k) }))

        within : nesting s.1.0 ≤ limit → Answer limit text
        within h = inl (s.0, s.1, (s.1.0, s.1.1, h))

    behind_first : (before : List ℕ) → GoesWrongBehind text before → Answer limit text
    behind_first before w = ⊎_elim past within (cases_lt limit (nesting w.tokens))
      where
        past : limit < nesting w.tokens → Answer limit text
        past h =
            let q = past_in limit text w.body w.rest w.tokens w.starts w.cuts h in
            inr (inl (q.0, deep limit text before w h q.0 q.1))

        within : nesting w.tokens ≤ limit → Answer limit text
        within h = inr (inr (before, bad_later limit text before w h))

    at : (before : List ℕ) → GoesWrong text before → Answer limit text
    at before (in_first_line h) = inr (inr ([], bad_at_once limit text h))
    at before (behind w) = behind_first before w

    wrong : (before : List ℕ) × GoesWrong text before → Answer limit text
    wrong k = at k.0 k.1
