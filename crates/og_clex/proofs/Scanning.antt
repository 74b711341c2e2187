-- What is known of a text up to where the scan has come, and what follows at each way out of it.
use Rattle.std.proofs.Common.{◌≡◌, ℕ, ◌+◌, ◌-◌, ◌^◌, ◌<◌, ◌≤◌, Bool, true, false, List, [], ◌∷◌, ◌++◌, length, take, drop, Option, Some, None, refl, sym, ap, ◌∙◌, subst, arith, length-append, append_assoc, append-nil}
use Rattle.std.specs.List.{list_all, prefix_len}
use Rattle.std.proofs.lemmas.Bool.{true≢false}
use Rattle.std.proofs.Math.Seq.{take-append_seam}
use Rattle.og_base.specs.declared.Place.{Place}
use Rattle.og_csubset.specs.declared.CProgram.{CProgram}
use Rattle.og_csubset.specs.Tokens.{Token, spelling, is_space, Begins, Cuts, first_line}
use Rattle.og_csubset.specs.Spelling.{IsProgram}
use Rattle.og_csubset.specs.Nesting.{Nest, outermost, after_token, after_tokens, nesting, PassesNesting}
use Rattle.og_csubset.specs.Wrong.{BeginsProgram, GoesWrongBehind}
use Rattle.og_csubset.specs.Refusals.{IsBad, IsTooDeep, place_behind}
use Rattle.og_csubset.proofs.Seen.{nothing, Some-same}
use Rattle.og_csubset.specs.Lexing.{cut, StopsAt, first_token, next_token}
use Rattle.og_csubset.proofs.Lexing.{cut-append, no_space_first, next-begins, nothing_first}
use Rattle.og_csubset.proofs.Lexed.{first_stands, begins-next, cut_joined, cut_all, cut_stops}
use Rattle.og_csubset.proofs.Text.{some_byte}
use Rattle.og_csubset.proofs.Nested.{depth}
use Rattle.og_csubset.specs.Recognizer.{Symbols, step, run, may_end, program_symbols}
use Rattle.og_csubset.proofs.Viable.{viable, refused_next, ended_program, no_program, run-more}
use Rattle.og_csubset.proofs.Judged.{cuts_more, no_space}
use Rattle.og_clex.specs.Moves.{Steps}
use Rattle.og_clex.specs.Nests.{IsLow}
use Rattle.og_clex.specs.Places.{place_on}
use Rattle.og_clex.specs.Told.{IsReadAs}
use Rattle.og_clex.proofs.Cuts.{cut-prefix}
use Rattle.og_clex.proofs.Placing.{place_further, line-le, column-le}
use Rattle.og_clex.proofs.Deep.{after-more, nesting-more, low_after}
use Rattle.og_clex.proofs.Refused.{too_deep}
use Rattle.og_csubset.proofs.OneAnswer.{bad_later}

-- these tokens were taken, `rest` is left, and S is to come
pub record SoFar (text rest : List ℕ) (place : Place) (ts : List Token) (S : Symbols) (N : Nest) : Type 0 where
  pub body : List ℕ
  pub taken : List ℕ
  pub joined : text ≡ taken ++ rest
  pub starts : text ≡ first_line ++ body
  pub cuts : Cuts ts body rest
  pub runs : run program_symbols ts ≡ Some S
  pub place_is : place ≡ place_behind taken
  pub nests : N ≡ after_tokens ts outermost
  pub within : nesting ts ≤ 256
  pub low : IsLow N

-- the same behind white space
pub record Here (text here : List ℕ) (place : Place) (ts : List Token) (S : Symbols) (N : Nest) : Type 0 where
  pub rest : List ℕ
  pub space : List ℕ
  pub start : Place
  pub so_far : SoFar text rest start ts S N
  pub cut_is : cut is_space rest ≡ (space, here)
  pub place_is : place ≡ place_on start space

pub behind_space : (text rest space here : List ℕ) (place start : Place) (ts : List Token) (S : Symbols) (N : Nest) (n : ℕ) → SoFar text rest start ts S N
    → n ≡ prefix_len is_space rest → space ≡ take n rest → here ≡ drop n rest → place ≡ place_on start space → Here text here place ts S N
behind_space text rest space here place start ts S N n so_far e front back place_is = record {
  rest = rest;
  space = space;
  start = start;
  so_far = so_far;
  cut_is = cut-prefix is_space rest ∙ ap (λ (m : ℕ). (take m rest, drop m rest)) (sym e) ∙ ap (λ (l : List ℕ). (l, drop n rest)) (sym front)
      ∙ ap (λ (l : List ℕ). (space, l)) (sym back);
  place_is = place_is;
}

pub first : (text body : List ℕ) (ts : List Token) (S : Symbols) (N : Nest) → text ≡ first_line ++ body → ts ≡ [] → S ≡ program_symbols → N ≡ outermost
    → SoFar text body (record { file = 0; line = 2; column = 1 }) ts S N
first text body ts S N e no_tokens all outside = record {
  body = body;
  taken = first_line;
  joined = e;
  starts = e;
  cuts = subst (λ us. Cuts us body body) (sym no_tokens) refl;
  runs = subst (λ us. run program_symbols us ≡ Some S) (sym no_tokens) (ap Some (sym all));
  place_is = refl;
  nests = outside ∙ ap (λ us. after_tokens us outermost) (sym no_tokens);
  within = subst (λ us. nesting us ≤ 256) (sym no_tokens) (omega arith);
  low = subst IsLow (sym outside) (omega arith, tt);
}

-- the next token, and the way to it
next_here : (text here : List ℕ) (place : Place) (ts : List Token) (S : Symbols) (N : Nest) (h : Here text here place ts S N) → next_token h.rest ≡ first_token here
unfolding next_token
next_here text here place ts S N h = ap (λ p. first_token p.1) h.cut_is

rest_is : (text here : List ℕ) (place : Place) (ts : List Token) (S : Symbols) (N : Nest) (h : Here text here place ts S N) → h.rest ≡ h.space ++ here
rest_is text here place ts S N h = cut_joined is_space h.rest ∙ ap (λ p. p.0 ++ p.1) h.cut_is

-- one token more
pub further : (text here more w : List ℕ) (place : Place) (ts : List Token) (S T : Symbols) (N : Nest) (u : Token) → Here text here place ts S N
    → first_token here ≡ Some (u, more) → step S u ≡ Some T → depth (after_token u N) ≤ 256 → here ≡ w ++ more
    → SoFar text more (place_on place w) (ts ++ u ∷ []) T (after_token u N)
further text here more w place ts S T N u h found taken fits split =
    let s = h.so_far in
    let b : Begins h.rest u more = begins-next h.rest u more (next_here text here place ts S N h ∙ found) in
    let start : place ≡ place_behind (s.taken ++ h.space) = h.place_is ∙ place_further h.start s.taken h.space s.place_is in
    let nest : after_token u N ≡ after_token u (after_tokens ts outermost) = ap (after_token u) s.nests in
    record {
      body = s.body;
      taken = (s.taken ++ h.space) ++ w;
      joined = s.joined ∙ ap (λ l. s.taken ++ l) (rest_is text here place ts S N h ∙ ap (λ l. h.space ++ l) split) ∙ regroup s.taken h.space w more;
      starts = s.starts;
      cuts = cuts_more ts s.body h.rest more u s.cuts b;
      runs = run-more program_symbols S T ts u s.runs taken;
      place_is = place_further place (s.taken ++ h.space) w start;
      nests = nest ∙ sym (after-more ts u outermost);
      within = nesting-more 256 ts u outermost s.within (subst (λ m. depth m ≤ 256) nest fits);
      low = low_after u N s.low fits;
    }
  where
    regroup : (a b c d : List ℕ) → a ++ (b ++ (c ++ d)) ≡ ((a ++ b) ++ c) ++ d
    regroup a b c d = simp append_assoc

-- the same, as the code has it
pub further_as : (text here more w : List ℕ) (place next : Place) (ts us : List Token) (S T : Symbols) (N M : Nest) (u : Token) → Here text here place ts S N
    → first_token here ≡ Some (u, more) → step S u ≡ Some T → depth M ≤ 256 → here ≡ w ++ more
    → next ≡ place_on place w → us ≡ ts ++ u ∷ [] → M ≡ after_token u N → SoFar text more next us T M
further_as text here more w place next ts us S T N M u h found taken fits split at tokens nest =
    subst (λ p. SoFar text more p us T M) (sym at) (subst (λ l. SoFar text more (place_on place w) l T M) (sym tokens)
    (subst (λ m. SoFar text more (place_on place w) (ts ++ u ∷ []) T m) (sym nest)
    (further text here more w place ts S T N u h found taken (subst (λ m. depth m ≤ 256) nest fits) split)))

pub stepped : (b : Bool) (o : Option Symbols) (S : Symbols) → b ≡ true → Steps b o S → o ≡ Some S
stepped true None S e h = absurd h
stepped true (Some T) S e h = ap Some (sym h)
stepped false o S e h = absurd (true≢false (sym e))

pub nothing_left : (xs : List ℕ) → length xs ≡ 0 → xs ≡ []
nothing_left [] e = refl
nothing_left (x ∷ xs) e = absurd (omega (arith, e))

-- the text goes wrong here
wrong : (text here : List ℕ) (place : Place) (ts : List Token) (S : Symbols) (N : Nest) (h : Here text here place ts S N)
    → ((t : Token) (more : List ℕ) → Begins h.rest t more → BeginsProgram (ts ++ t ∷ []) → ⊥)
    → (list_all is_space h.rest ≡ true → (P : CProgram) → IsProgram P ts → ⊥)
    → (before : List ℕ) × IsBad 256 text before × (place ≡ place_behind before)
wrong text here place ts S N h no_token no_end =
    let s = h.so_far in
    let w : GoesWrongBehind text (s.taken ++ h.space) = record {
      tokens = ts;
      body = s.body;
      rest = h.rest;
      space = h.space;
      here = here;
      starts = s.starts;
      cuts = s.cuts;
      so_far = viable S ts s.runs;
      no_token = no_token;
      no_end = no_end;
      joined = rest_is text here place ts S N h;
      blank = ap (λ p. list_all is_space p.0) (sym h.cut_is) ∙ cut_all is_space h.rest;
      at_byte = no_space here (subst (λ p. StopsAt is_space p.1) h.cut_is (cut_stops is_space h.rest));
      place = s.joined ∙ ap (λ l. s.taken ++ l) (rest_is text here place ts S N h) ∙ sym (append_assoc s.taken h.space here);
    } in
    (s.taken ++ h.space, bad_later 256 text (s.taken ++ h.space) w s.within, h.place_is ∙ place_further h.start s.taken h.space s.place_is)

-- a token that is refused
pub bad_token : (text here more : List ℕ) (place : Place) (ts : List Token) (S : Symbols) (N : Nest) (u : Token) → Here text here place ts S N
    → first_token here ≡ Some (u, more) → step S u ≡ None → (before : List ℕ) × IsBad 256 text before × (place ≡ place_behind before)
bad_token text here more place ts S N u h found refused =
    let e : next_token h.rest ≡ Some (u, more) = next_here text here place ts S N h ∙ found in
    wrong text here place ts S N h
    (λ t us b k. refused_next S ts u h.so_far.runs refused (subst (λ x. BeginsProgram (ts ++ x ∷ []))
    (ap (λ p. p.0) (Some-same (t, us) (u, more) (sym (next-begins h.rest t us b) ∙ e))) k))
    (λ blank P p. nothing_first h.rest u more blank (begins-next h.rest u more e))

-- all of the rest is white space where nothing is left behind it
blank_end : (text here : List ℕ) (place : Place) (ts : List Token) (S : Symbols) (N : Nest) (h : Here text here place ts S N) → list_all is_space h.rest ≡ true
    → here ≡ []
blank_end text here place ts S N h blank =
    sym (ap (λ p. p.1) (sym (cut-append is_space h.rest [] blank tt) ∙ ap (cut is_space) (append-nil h.rest) ∙ h.cut_is))

-- no token, where the text goes on or may not end
pub bad_end : (text here : List ℕ) (place : Place) (ts : List Token) (S : Symbols) (N : Nest) → Here text here place ts S N
    → first_token here ≡ None → (here ≡ [] → may_end S ≡ false) → (before : List ℕ) × IsBad 256 text before × (place ≡ place_behind before)
bad_end text here place ts S N h none no_end =
    wrong text here place ts S N h
    (λ t more b k. nothing (t, more) (sym (next_here text here place ts S N h ∙ none) ∙ next-begins h.rest t more b))
    (λ blank P p. no_program S ts h.so_far.runs (no_end (blank_end text here place ts S N h blank)) P p)

-- a token that passes the limit
pub deep_token : (text here more : List ℕ) (place : Place) (ts : List Token) (S T : Symbols) (N : Nest) (u : Token) → Here text here place ts S N
    → first_token here ≡ Some (u, more) → step S u ≡ Some T → 256 < depth (after_token u N)
    → (before : List ℕ) × IsTooDeep 256 text before × (place ≡ place_behind before)
deep_token text here more place ts S T N u h found taken past =
    let s = h.so_far in
    let b : Begins h.rest u more = begins-next h.rest u more (next_here text here place ts S N h ∙ found) in
    let p : PassesNesting 256 text (s.taken ++ h.space) = record {
      tokens = ts;
      token = u;
      body = s.body;
      here = h.rest;
      rest = more;
      starts = s.starts;
      cuts = s.cuts;
      begins = b;
      place = s.joined ∙ ap (λ l. s.taken ++ l) (rest_is text here place ts S N h ∙ ap (λ l. h.space ++ l) (stands b)) ∙ sym (append_assoc s.taken h.space (spelling u ++ more));
      within = s.within;
      past = subst (λ m. 256 < depth m) (ap (after_token u) s.nests ∙ sym (after-more ts u outermost)) past;
    } in (
      s.taken ++ h.space,
      too_deep 256 text (s.taken ++ h.space) p (cuts_more ts s.body h.rest more u s.cuts b)
          (viable T (ts ++ u ∷ []) (run-more program_symbols S T ts u s.runs taken)),
      h.place_is ∙ place_further h.start s.taken h.space s.place_is,
    )
  where
    stands : Begins h.rest u more → here ≡ spelling u ++ more
    stands b =
        ap (λ p. p.1) (sym h.cut_is ∙ ap (cut is_space) b.joined ∙ cut-append is_space b.space (spelling u ++ more) b.blank (no_space_first u more b.is_token))

-- the whole text is read
pub done : (text here : List ℕ) (place : Place) (ts : List Token) (S : Symbols) (N : Nest) → Here text here place ts S N → here ≡ [] → may_end S ≡ true
    → IsReadAs text ts
done text here place ts S N h end ends =
    let s = h.so_far in
    let all : list_all is_space h.rest ≡ true =
    ap (list_all is_space) (rest_is text here place ts S N h ∙ ap (λ l. h.space ++ l) end ∙ append-nil h.space)
    ∙ ap (λ p. list_all is_space p.0) (sym h.cut_is) ∙ cut_all is_space h.rest in
    ((s.body, s.starts, (h.rest, s.cuts, all)), ended_program S ts s.runs ends, s.within)

-- the place has no large numbers
pub lines_fit : (text rest space here : List ℕ) (place : Place) (ts : List Token) (S : Symbols) (N : Nest) → SoFar text rest place ts S N
    → length text < 2 ^ 32 - 1 → length rest ≡ length space + length here → (place.line + length space < 2 ^ 32) × (place.column + length space < 2 ^ 32)
lines_fit text rest space here place ts S N s small split =
    let whole : length text ≡ length s.taken + length rest = ap length s.joined ∙ length-append s.taken rest in
    let line : place.line ≤ length s.taken + 1 = subst (λ n. n ≤ length s.taken + 1) (sym (ap (λ p. p.line) s.place_is)) (line-le s.taken) in
    let column : place.column ≤ length s.taken + 1 =
    subst (λ n. n ≤ length s.taken + 1) (sym (ap (λ p. p.column) s.place_is)) (column-le 1 s.taken (omega arith)) in
    (omega arith, omega arith)

pub here_fits : (text here w more : List ℕ) (place : Place) (ts : List Token) (S : Symbols) (N : Nest) → Here text here place ts S N
    → length text < 2 ^ 32 - 1 → length here ≡ length w + length more → (place.line + length w < 2 ^ 32) × (place.column + length w < 2 ^ 32)
here_fits text here w more place ts S N h small split =
    let s = h.so_far in
    let taken = s.taken ++ h.space in
    let whole : length text ≡ length taken + length here =
    ap length (s.joined ∙ ap (λ l. s.taken ++ l) (rest_is text here place ts S N h) ∙ sym (append_assoc s.taken h.space here)) ∙ length-append taken here in
    let at : place ≡ place_behind taken = h.place_is ∙ place_further h.start s.taken h.space s.place_is in
    let line : place.line ≤ length taken + 1 = subst (λ n. n ≤ length taken + 1) (sym (ap (λ p. p.line) at)) (line-le taken) in
    let column : place.column ≤ length taken + 1 = subst (λ n. n ≤ length taken + 1) (sym (ap (λ p. p.column) at)) (column-le 1 taken (omega arith)) in
    (omega arith, omega arith)

-- a token takes bytes
pub shorter : (here : List ℕ) (u : Token) (more : List ℕ) → first_token here ≡ Some (u, more) → length more < length here
shorter here u more found =
    let stands = first_stands here (u, more) found in
    omega (arith, ap length stands.joined, length-append (spelling u) more, some_byte u stands.is_token)

pub splits : (here : List ℕ) (u : Token) (more : List ℕ) (n : ℕ) → n ≡ length here - length more → first_token here ≡ Some (u, more) → here ≡ take n here ++ more
splits here u more n e found =
    let stands = first_stands here (u, more) found in
    let k : n ≡ length (spelling u) = omega (arith, e, ap length stands.joined, length-append (spelling u) more) in
    stands.joined ∙ ap (λ w. w ++ more) (sym (ap (take n) stands.joined ∙ ap (λ m. take m (spelling u ++ more)) k ∙ take-append_seam (spelling u) more))
