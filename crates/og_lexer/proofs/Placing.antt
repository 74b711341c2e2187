-- What the pieces of a text give: places are those of the bytes, tokens and comments stand at their bytes and in order.
use Rattle.std.proofs.Common.{◌≡◌, ◌≢◌, ℕ, ◌+◌, ◌-◌, ◌≤◌, Bool, true, false, cond, ◌&&◌, List, [], ◌∷◌, ◌++◌, length, take, drop, refl, sym, ap, ◌∙◌, subst, inl, inr, ◌⊎◌, arith, append_assoc, length-append, length-drop, take_at, drop_at, drop-drop}
use Rattle.std.specs.Prelude.{◌==◌, Option, Some, None, IfSome, slice_range}
use Rattle.std.proofs.lemmas.List.{take-append-le}
use Rattle.std.proofs.Math.Seq.{take-add}
use Rattle.std.proofs.lemmas.Bool.{and_right, false≢true}
use Rattle.og_base.specs.declared.Place.{Place}
use Rattle.og_lexer.specs.declared.Token.{Token}
use Rattle.og_lexer.specs.declared.Token.TheVariants as token
use Rattle.og_lexer.specs.declared.Spanned.{Spanned}
use Rattle.og_lexer.specs.declared.Comment.{Comment}
use Rattle.og_lexer.specs.declared.AsnMark.{AsnMark}
use Rattle.og_lexer.specs.declared.AsnMark.TheVariants.{Colon}
use Rattle.og_lexer.specs.declared.Language.{Language}
use Rattle.og_lexer.specs.declared.Language.TheVariants.{Sdl, Asn}
use Rattle.og_lexer.specs.declared.front.Shape.{Shape}
use Rattle.og_lexer.specs.declared.front.Shape.TheVariants.{Space, BlockComment, DashComment, LineComment, Name, Reserved, AsnReserved, Digits, Quoted, Quotation, Coded, Sign, AsnSign}
use Rattle.og_lexer.specs.Bytes.{begins}
use Rattle.og_lexer.specs.AsnBytes.{joins, asn_sign_goes_on}
use Rattle.og_lexer.specs.AsnPieces.{lacks}
use Rattle.og_lexer.specs.Pieces.{quotes_pair, IsOf, IsCommentIn, goes_on, NotFirst, IsWithin}
use Rattle.og_lexer.specs.Places.{first_place, next_place, place_after, place_at}
use Rattle.og_lexer.specs.Texts.{Piece, Cuts, inside_quotes, inside_code, token_of, spanned, comment_of, tokens_from, comments_from, LexesIn, IsWrittenIn, AreInPlaceIn, EndsOnce, AreCommentsInPlaceIn}
use Rattle.og_lexer.proofs.AsnEnds.{joins-front}

-- places
pub place_after-append : (p : Place) (xs ys : List ℕ) → place_after p (xs ++ ys) ≡ place_after (place_after p xs) ys
place_after-append p [] ys = refl
place_after-append p (x ∷ xs) ys = place_after-append (next_place p x) xs ys

-- the place some bytes on
pub place_at-add : (file : ℕ) (bytes : List ℕ) (m n : ℕ) → place_at file bytes (m + n) ≡ place_after (place_at file bytes m) (take n (drop m bytes))
place_at-add file bytes m n = ap (place_after (first_place file)) (take-add m n bytes) ∙ place_after-append (first_place file) (take m bytes) (take n (drop m bytes))

pub record IsNear (p q : Place) (n : ℕ) : Type 0 where
  pub line : q.line ≤ p.line + n
  pub column : q.column ≤ p.column + n

next_place-near : (t : Bool) (p : Place) → (1 ≤ p.column) → IsNear p (cond t (record { file = p.file; line = p.line + 1; column = 1 }) (record { file = p.file; line = p.line; column = p.column + 1 })) 1
next_place-near true p h = record { line = omega arith; column = omega arith }
next_place-near false p h = record { line = omega arith; column = omega arith }

next_place-counts : (t : Bool) (p : Place) → (let q : Place = cond t (record { file = p.file; line = p.line + 1; column = 1 }) (record { file = p.file; line = p.line; column = p.column + 1 }) in 1 ≤ q.column)
next_place-counts true p = omega arith
next_place-counts false p = omega arith

-- each byte moves a line or a column on at most
pub place_after-near : (p : Place) (bytes : List ℕ) → 1 ≤ p.column → IsNear p (place_after p bytes) (length bytes)
place_after-near p [] h = record { line = omega arith; column = omega arith }
place_after-near p (b ∷ bs) h =
    let one = next_place-near (b == 10) p h in
    let rest = place_after-near (next_place p b) bs (next_place-counts (b == 10) p) in
    record { line = (let f = one.line in let s = rest.line in omega arith); column = (let f = one.column in let s = rest.column in omega arith) }

-- tokens
quotes-inside : (quote : ℕ) (inside text : List ℕ) → text ≡ quote ∷ (inside ++ quote ∷ []) → inside_quotes text ≡ inside
quotes-inside quote inside text is =
    ap inside_quotes is ∙ take_at inside (quote ∷ []) (length (quote ∷ (inside ++ quote ∷ [])) - 1 - 1) (let l = length-append inside (quote ∷ []) in omega arith)

code-inside : (code : ℕ) (inside text : List ℕ) → text ≡ 39 ∷ (inside ++ 39 ∷ code ∷ []) → inside_code text ≡ inside
code-inside code inside text is =
    ap inside_code is ∙ take_at inside (39 ∷ code ∷ []) (length (39 ∷ (inside ++ 39 ∷ code ∷ [])) - 2 - 1) (let l = length-append inside (39 ∷ code ∷ []) in omega arith)

-- the token of a piece is written as the piece, and is not End
pub record IsToken (language : Language) (text : List ℕ) (t : Token) : Type 0 where
  pub written : IsWrittenIn t language text
  pub no_end : t ≢ token.End

pub token_of-is : (language : Language) (shape : Shape) (text : List ℕ) → IsOf shape language text → IsWithin shape text → IfSome (token_of shape text) (IsToken language text)
token_of-is language Space text is within = tt
token_of-is language BlockComment text is within = tt
token_of-is language DashComment text is within = tt
token_of-is language LineComment text is within = tt
token_of-is Sdl Name text is within = record { written = (refl, is.0, within, is.1); no_end = λ e. cc }
token_of-is Asn Name text is within = record { written = (refl, is.0, within, is.1); no_end = λ e. cc }
token_of-is Sdl (Reserved k) text is within = record { written = is; no_end = λ e. cc }
token_of-is Asn (Reserved k) text is within = absurd is
token_of-is Sdl (AsnReserved k) text is within = absurd is
token_of-is Asn (AsnReserved k) text is within = record { written = is; no_end = λ e. cc }
token_of-is language Digits text is within = record { written = (is, refl, within); no_end = λ e. cc }
token_of-is Sdl Quoted text is within =
    let inside = quotes-inside 39 is.0 text is.1 in
    record {
      written = (is.1 ∙ ap (λ l. 39 ∷ (l ++ 39 ∷ [])) (sym inside), ap quotes_pair inside ∙ is.2);
      no_end = λ e. cc;
    }
token_of-is Asn Quoted text is within =
    let inside = quotes-inside 39 is.0 text is.1 in
    record {
      written = inr (inl (is.1 ∙ ap (λ l. 39 ∷ (l ++ 39 ∷ [])) (sym inside), ap (lacks 39) inside ∙ is.2));
      no_end = λ e. cc;
    }
token_of-is Sdl Quotation text is within = absurd is
token_of-is Asn Quotation text is within =
    let inside = quotes-inside 34 is.0 text is.1 in
    record {
      written = inl (is.1 ∙ ap (λ l. 34 ∷ (l ++ 34 ∷ [])) (sym inside), ap (lacks 34) inside ∙ is.2);
      no_end = λ e. cc;
    }
token_of-is Sdl Coded text is within = absurd is
token_of-is Asn Coded text is within =
    let inside = code-inside is.1 is.0 text is.2 in
    record {
      written = inr (inr (is.1, is.2 ∙ ap (λ l. 39 ∷ (l ++ 39 ∷ is.1 ∷ [])) (sym inside), ap (lacks 39) inside ∙ is.3, is.4));
      no_end = λ e. cc;
    }
token_of-is Sdl (Sign m) text is within = record { written = is; no_end = λ e. cc }
token_of-is Asn (Sign m) text is within = absurd is
token_of-is Sdl (AsnSign m) text is within = absurd is
token_of-is Asn (AsnSign m) text is within = record { written = is; no_end = λ e. cc }

pub comment_of-is : (language : Language) (shape : Shape) (text : List ℕ) (place : Place) (start end : ℕ) (cs : List Comment) → IsOf shape language text → (comment_of shape place start end ≡ []) ⊎ (IsCommentIn language text × (comment_of shape place start end ≡ record { place = place; start = start; end = end } ∷ []))
comment_of-is language BlockComment text place start end cs is = inr (inl is, refl)
comment_of-is language DashComment text place start end cs is = inr (inr (inl is), refl)
comment_of-is language LineComment text place start end cs is = inr (inr (inr is), refl)
comment_of-is language Space text place start end cs is = inl refl
comment_of-is language Name text place start end cs is = inl refl
comment_of-is language (Reserved k) text place start end cs is = inl refl
comment_of-is language (AsnReserved k) text place start end cs is = inl refl
comment_of-is language Digits text place start end cs is = inl refl
comment_of-is language Quoted text place start end cs is = inl refl
comment_of-is language Quotation text place start end cs is = inl refl
comment_of-is language Coded text place start end cs is = inl refl
comment_of-is language (Sign m) text place start end cs is = inl refl
comment_of-is language (AsnSign m) text place start end cs is = inl refl

in_place-from : (language : Language) (file : ℕ) (bytes : List ℕ) (low at : ℕ) (ts : List Spanned) → low ≤ at → AreInPlaceIn language file bytes at ts → AreInPlaceIn language file bytes low ts
in_place-from language file bytes low at [] h all = tt
in_place-from language file bytes low at (t ∷ ts) h all = (let f = all.0 in omega arith, all.1, all.2)

comments_in_place-from : (language : Language) (file : ℕ) (bytes : List ℕ) (low at : ℕ) (cs : List Comment) → low ≤ at → AreCommentsInPlaceIn language file bytes at cs → AreCommentsInPlaceIn language file bytes low cs
comments_in_place-from language file bytes low at [] h all = tt
comments_in_place-from language file bytes low at (c ∷ cs) h all = (let f = all.0 in omega arith, all.1, all.2)

slice-text : (bytes text more : List ℕ) (at : ℕ) → drop at bytes ≡ text ++ more → slice_range bytes at (at + length text) ≡ text
slice-text bytes text more at joined =
    ap (λ l. take (at + length text - at) l) joined ∙ take_at text more (at + length text - at) (omega arith)

slice-inside : (bytes text more : List ℕ) (at : ℕ) → at ≤ length bytes → drop at bytes ≡ text ++ more → at + length text ≤ length bytes
slice-inside bytes text more at within joined = let e = ap length joined in let d = length-drop at bytes in let l = length-append text more in omega arith

drop-text : (bytes text more : List ℕ) (at : ℕ) → drop at bytes ≡ text ++ more → drop (at + length text) bytes ≡ more
drop-text bytes text more at joined = sym (drop-drop (length text) at bytes) ∙ ap (drop (length text)) joined ∙ drop_at text more (length text) refl

token_put : (language : Language) (file : ℕ) (bytes text more : List ℕ) (at : ℕ) (t : Option Token) (ts : List Spanned) → at ≤ length bytes → drop at bytes ≡ text ++ more → IfSome t (IsToken language text) → AreInPlaceIn language file bytes (at + length text) ts → AreInPlaceIn language file bytes at (spanned t (place_at file bytes at) at (at + length text) ++ ts)
token_put language file bytes text more at None ts within joined is rest = in_place-from language file bytes at (at + length text) ts (omega arith) rest
token_put language file bytes text more at (Some t) ts within joined is rest = (
  omega arith,
  record {
    ordered = omega arith;
    inside = slice-inside bytes text more at within joined;
    placed = refl;
    written = subst (λ (l : List ℕ). IsWrittenIn t language l) (sym (slice-text bytes text more at joined)) is.written;
  },
  rest,
)

-- the tokens of the pieces stand in their places
pub tokens_from-place : (language : Language) (file : ℕ) (bytes : List ℕ) (ps : List Piece) (at : ℕ) (rest : List ℕ) → at ≤ length bytes → drop at bytes ≡ rest → Cuts language ps rest [] → AreInPlaceIn language file bytes at (tokens_from file bytes at ps)
tokens_from-place language file bytes [] at rest within left cuts = (
  omega arith,
  record {
    ordered = omega arith;
    inside = within;
    placed = refl;
    written = ap (λ n. take n (drop at bytes)) (let none : at - at ≡ 0 = omega arith in none);
  },
  tt,
)
tokens_from-place language file bytes (p ∷ ps) at rest within left cuts =
    let joined = left ∙ cuts.1.joined in
    token_put language file bytes p.text cuts.0 at (token_of p.shape p.text) (tokens_from file bytes (at + length p.text) ps) within joined (token_of-is language p.shape p.text cuts.1.is_of cuts.2)
    (tokens_from-place language file bytes ps (at + length p.text) cuts.0 (slice-inside bytes p.text cuts.0 at within joined) (drop-text bytes p.text cuts.0 at joined) cuts.3)

comment_put : (language : Language) (file : ℕ) (bytes text more : List ℕ) (at : ℕ) (c cs : List Comment) → at ≤ length bytes → drop at bytes ≡ text ++ more → (c ≡ []) ⊎ (IsCommentIn language text × (c ≡ record { place = place_at file bytes at; start = at; end = at + length text } ∷ [])) → AreCommentsInPlaceIn language file bytes (at + length text) cs → AreCommentsInPlaceIn language file bytes at (c ++ cs)
comment_put language file bytes text more at c cs within joined (inl none) rest =
    subst (λ (l : List Comment). AreCommentsInPlaceIn language file bytes at (l ++ cs)) (sym none) (comments_in_place-from language file bytes at (at + length text) cs (omega arith) rest)
comment_put language file bytes text more at c cs within joined (inr one) rest =
    subst (λ (l : List Comment). AreCommentsInPlaceIn language file bytes at (l ++ cs)) (sym one.1) (
      omega arith,
      record {
        ordered = omega arith;
        inside = slice-inside bytes text more at within joined;
        placed = refl;
        written = subst (IsCommentIn language) (sym (slice-text bytes text more at joined)) one.0;
      },
      rest,
    )

-- the comments among the pieces stand in their places
pub comments_from-place : (language : Language) (file : ℕ) (bytes : List ℕ) (ps : List Piece) (at : ℕ) (rest : List ℕ) → at ≤ length bytes → drop at bytes ≡ rest → Cuts language ps rest [] → AreCommentsInPlaceIn language file bytes at (comments_from file bytes at ps)
comments_from-place language file bytes [] at rest within left cuts = tt
comments_from-place language file bytes (p ∷ ps) at rest within left cuts =
    let joined = left ∙ cuts.1.joined in
    comment_put language file bytes p.text cuts.0 at (comment_of p.shape (place_at file bytes at) at (at + length p.text)) (comments_from file bytes (at + length p.text) ps) within joined
    (comment_of-is language p.shape p.text (place_at file bytes at) at (at + length p.text) [] cuts.1.is_of)
    (comments_from-place language file bytes ps (at + length p.text) cuts.0 (slice-inside bytes p.text cuts.0 at within joined) (drop-text bytes p.text cuts.0 at joined) cuts.3)

ends_put : (t : Spanned) (ts : List Spanned) → t.token ≢ token.End → EndsOnce ts → EndsOnce (t ∷ ts)
ends_put t [] no_end ends = absurd ends
ends_put t (u ∷ ts) no_end ends = (no_end, ends)

ends_spanned : (language : Language) (text : List ℕ) (t : Option Token) (place : Place) (start end : ℕ) (ts : List Spanned) → IfSome t (IsToken language text) → EndsOnce ts → EndsOnce (spanned t place start end ++ ts)
ends_spanned language text None place start end ts is ends = ends
ends_spanned language text (Some t) place start end ts is ends = ends_put (record { token = t; place = place; start = start; end = end }) ts is.no_end ends

-- behind the tokens of the pieces stands End, and nowhere else
pub tokens_from-ends : (language : Language) (file : ℕ) (bytes : List ℕ) (ps : List Piece) (at : ℕ) (rest more : List ℕ) → Cuts language ps rest more → EndsOnce (tokens_from file bytes at ps)
tokens_from-ends language file bytes [] at rest more cuts = refl
tokens_from-ends language file bytes (p ∷ ps) at rest more cuts =
    ends_spanned language p.text (token_of p.shape p.text) (place_at file bytes at) at (at + length p.text) (tokens_from file bytes (at + length p.text) ps) (token_of-is language p.shape p.text cuts.1.is_of cuts.2)
    (tokens_from-ends language file bytes ps (at + length p.text) cuts.0 more cuts.3)

-- a front of the text
pub texts : List Piece → List ℕ
texts [] = []
texts (p ∷ ps) = p.text ++ texts ps

false_from : (s t : Bool) → (s ≡ true → t ≡ true) → t ≡ false → s ≡ false
false_from true t more h = absurd (false≢true (sym h ∙ more refl))
false_from false t more h = refl

colon_front : (b : ℕ) (xs ys : List ℕ) → ((b == 58) && begins 61 (xs ++ ys)) ≡ false → ((b == 58) && begins 61 xs) ≡ false
colon_front b [] ys h = and_right (b == 58) false refl
colon_front b (x ∷ xs) ys h = h

mark_front : (m : AsnMark) (b : ℕ) (xs ys : List ℕ) → asn_sign_goes_on m b (xs ++ ys) ≡ false → asn_sign_goes_on m b xs ≡ false
mark_front Colon b xs ys h = colon_front b xs ys h
mark_front m b xs ys h = h

-- what goes on with a piece before some bytes does so before more
goes_on-front : (language : Language) (shape : Shape) (b : ℕ) (xs ys : List ℕ) → goes_on shape language b (xs ++ ys) ≡ false → goes_on shape language b xs ≡ false
goes_on-front Asn Name b xs ys h = false_from (joins b xs) (joins b (xs ++ ys)) (joins-front b xs ys) h
goes_on-front Sdl Name b xs ys h = h
goes_on-front language (AsnReserved k) b xs ys h = false_from (joins b xs) (joins b (xs ++ ys)) (joins-front b xs ys) h
goes_on-front language (AsnSign m) b xs ys h = mark_front m b xs ys h
goes_on-front Sdl Quoted b xs ys h = h
goes_on-front Asn Quoted b xs ys h = h
goes_on-front language Space b xs ys h = h
goes_on-front language BlockComment b xs ys h = h
goes_on-front language DashComment b xs ys h = h
goes_on-front language LineComment b xs ys h = h
goes_on-front language (Reserved k) b xs ys h = h
goes_on-front language Digits b xs ys h = h
goes_on-front language Quotation b xs ys h = h
goes_on-front language Coded b xs ys h = h
goes_on-front language (Sign m) b xs ys h = h

not_first-front : (language : Language) (shape : Shape) (xs ys : List ℕ) → NotFirst (goes_on shape language) (xs ++ ys) → NotFirst (goes_on shape language) xs
not_first-front language shape [] ys stop = tt
not_first-front language shape (x ∷ xs) ys stop = goes_on-front language shape x xs ys stop

cuts-texts : (language : Language) (ps : List Piece) (bytes rest : List ℕ) → Cuts language ps bytes rest → bytes ≡ texts ps ++ rest
unfolding texts
cuts-texts language [] bytes rest cuts = cuts
cuts-texts language (p ∷ ps) bytes rest cuts =
    cuts.1.joined ∙ ap (λ l. p.text ++ l) (cuts-texts language ps cuts.0 rest cuts.3) ∙ sym (append_assoc p.text (texts ps) rest)

-- the same pieces cut the bytes before the rest
pub cuts-front : (language : Language) (ps : List Piece) (bytes rest : List ℕ) → Cuts language ps bytes rest → Cuts language ps (texts ps) []
unfolding texts
cuts-front language [] bytes rest cuts = refl
cuts-front language (p ∷ ps) bytes rest cuts = (
  texts ps,
  record {
    joined = refl;
    is_of = cuts.1.is_of;
    follows = not_first-front language p.shape (texts ps) rest (subst (NotFirst (goes_on p.shape language)) (cuts-texts language ps cuts.0 rest cuts.3) cuts.1.follows);
  },
  cuts.2,
  cuts-front language ps cuts.0 rest cuts.3,
)

place_at-front : (file : ℕ) (xs ys : List ℕ) (at : ℕ) → at ≤ length xs → place_at file (xs ++ ys) at ≡ place_at file xs at
place_at-front file xs ys at within = ap (place_after (first_place file)) (take-append-le at xs ys within)

tokens_from-front : (file : ℕ) (xs ys : List ℕ) (ps : List Piece) (at : ℕ) → at + length (texts ps) ≤ length xs → tokens_from file (xs ++ ys) at ps ≡ tokens_from file xs at ps
unfolding texts
tokens_from-front file xs ys [] at within =
    ap (λ (p : Place). let s : Spanned = record { token = token.End; place = p; start = at; end = at } in s ∷ []) (place_at-front file xs ys at (omega arith))
tokens_from-front file xs ys (p ∷ ps) at within =
    let l = length-append p.text (texts ps) in
    let behind = at + length p.text in
    ap (λ (q : Place). spanned (token_of p.shape p.text) q at behind ++ tokens_from file (xs ++ ys) behind ps) (place_at-front file xs ys at (omega arith))
    ∙ ap (λ ts. spanned (token_of p.shape p.text) (place_at file xs at) at behind ++ ts) (tokens_from-front file xs ys ps behind (omega arith))

comments_from-front : (file : ℕ) (xs ys : List ℕ) (ps : List Piece) (at : ℕ) → at + length (texts ps) ≤ length xs → comments_from file (xs ++ ys) at ps ≡ comments_from file xs at ps
unfolding texts
comments_from-front file xs ys [] at within = refl
comments_from-front file xs ys (p ∷ ps) at within =
    let l = length-append p.text (texts ps) in
    let behind = at + length p.text in
    ap (λ (q : Place). comment_of p.shape q at behind ++ comments_from file (xs ++ ys) behind ps) (place_at-front file xs ys at (omega arith))
    ∙ ap (λ cs. comment_of p.shape (place_at file xs at) at behind ++ cs) (comments_from-front file xs ys ps behind (omega arith))

front-texts : (language : Language) (ps : List Piece) (bytes rest : List ℕ) → Cuts language ps bytes rest → take (length bytes - length rest) bytes ≡ texts ps
front-texts language ps bytes rest cuts =
    let e = cuts-texts language ps bytes rest cuts in
    ap (take (length bytes - length rest)) e ∙ take_at (texts ps) rest (length bytes - length rest) (let n = ap length e in let l = length-append (texts ps) rest in omega arith)

-- the bytes before a rest lex to what the pieces before it give
pub front_lexes-pieces : (language : Language) (file : ℕ) (ps : List Piece) (bytes rest : List ℕ) → Cuts language ps bytes rest → LexesIn language file (take (length bytes - length rest) bytes) (tokens_from file bytes 0 ps) (comments_from file bytes 0 ps)
front_lexes-pieces language file ps bytes rest cuts =
    let e = cuts-texts language ps bytes rest cuts in
    let front = front-texts language ps bytes rest cuts in
    record {
      pieces = ps;
      cuts = subst (λ (l : List ℕ). Cuts language ps l []) (sym front) (cuts-front language ps bytes rest cuts);
      tokens_are = ap (λ l. tokens_from file l 0 ps) e ∙ tokens_from-front file (texts ps) rest ps 0 (omega arith) ∙ ap (λ l. tokens_from file l 0 ps) (sym front);
      comments_are = ap (λ l. comments_from file l 0 ps) e ∙ comments_from-front file (texts ps) rest ps 0 (omega arith) ∙ ap (λ l. comments_from file l 0 ps) (sym front);
    }
