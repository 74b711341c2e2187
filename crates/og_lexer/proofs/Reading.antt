-- What the reader has read so far of a text, and what it has at its end.
use Rattle.std.proofs.Common.{◌≡◌, ℕ, ◌+◌, ◌-◌, ◌<◌, ◌≤◌, List, [], ◌∷◌, ◌++◌, length, take, drop, refl, sym, ap, ◌∙◌, subst, arith, append_assoc, append-nil, length-append, length-take-le, length-drop, take_at, drop_at, drop-drop}
use Rattle.std.specs.Prelude.{Ok, Err}
use Rattle.std.proofs.lemmas.List.{drop_all}
use Rattle.og_base.specs.declared.Place.{Place}
use Rattle.og_base.specs.declared.Rule.{Rule}
use Rattle.og_lexer.specs.declared.Language.{Language}
use Rattle.og_lexer.specs.declared.Language.TheVariants.{Sdl, Asn}
use Rattle.og_lexer.specs.declared.Lexed.{Lexed}
use Rattle.og_lexer.specs.declared.Spanned.{Spanned}
use Rattle.og_lexer.specs.declared.Comment.{Comment}
use Rattle.og_lexer.specs.declared.Token.TheVariants as token
use Rattle.og_lexer.specs.declared.front.Front.{Front}
use Rattle.og_lexer.specs.declared.front.Shape.{Shape}
use Rattle.og_lexer.specs.declared.front.Shape.TheVariants.{Space, BlockComment, DashComment, LineComment, Name, Reserved, AsnReserved, Digits, Quoted, Quotation, Coded, Sign, AsnSign}
use Rattle.og_lexer.specs.Pieces.{IsOf, goes_on, NotFirst, Stands, IsWithin, HasQuotes, Breaks}
use Rattle.og_lexer.specs.Places.{first_place, place_after, place_at}
use Rattle.og_lexer.specs.AsnFront.{front_in}
use Rattle.og_lexer.specs.Texts.{Piece, Cuts, token_of, spanned, comment_of, tokens_from, comments_from, LexesIn, FirstLexicalIn, AreInPlaceIn, AreCommentsInPlaceIn, EndsOnce, GainsPiece}
use Rattle.og_lexer.proofs.Founds.{HasFront, FrontIs}
use Rattle.og_lexer.proofs.Languages.{front_in-is}
use Rattle.og_lexer.proofs.Cutting.{cuts_more}
use Rattle.og_lexer.proofs.Placing.{place_at-add, place_after-near, tokens_from-place, comments_from-place, tokens_from-ends}

-- The bytes up to `at` are pieces, and the tokens and comments so far are theirs: whatever pieces come, theirs follow.
pub record SoFar (language : Language) (file : ℕ) (bytes : List ℕ) (at : ℕ) (place : Place) (lexed : Lexed) : Type 0 where
  pub within : at ≤ length bytes
  pub placed : place ≡ place_at file bytes at
  pub pieces : List Piece
  pub cuts : Cuts language pieces bytes (drop at bytes)
  pub tokens : (ps : List Piece) → tokens_from file bytes 0 (pieces ++ ps) ≡ lexed.tokens ++ tokens_from file bytes at ps
  pub comments : (ps : List Piece) → comments_from file bytes 0 (pieces ++ ps) ≡ lexed.comments ++ comments_from file bytes at ps

pub so_far-start : (language : Language) (file : ℕ) (bytes : List ℕ) (lexed : Lexed) → lexed.tokens ≡ [] → lexed.comments ≡ [] → SoFar language file bytes 0 (record { file = file; line = 1; column = 1 }) lexed
so_far-start language file bytes lexed tokens comments = record {
  within = omega arith;
  placed = refl;
  pieces = [];
  cuts = refl;
  tokens = λ ps. ap (λ ts. ts ++ tokens_from file bytes 0 ps) (sym tokens);
  comments = λ ps. ap (λ cs. cs ++ comments_from file bytes 0 ps) (sym comments);
}

-- the piece of this form and length that stands in front
pub record FrontHere (language : Language) (f : Front) (rest : List ℕ) : Type 0 where
  pub stands : Stands language f.shape (take f.len rest) rest (drop f.len rest)
  pub within : IsWithin f.shape (take f.len rest)
  pub long : length (take f.len rest) ≡ f.len
  pub some : 0 < f.len
  pub inside : f.len ≤ length rest

front_here-has : (language : Language) (f : Front) (rest : List ℕ) → HasFront language f rest → FrontHere language f rest
front_here-has language f rest h =
    let text = ap (take f.len) h.stands.joined ∙ take_at h.text h.rest f.len (sym h.long) in
    let more = ap (drop f.len) h.stands.joined ∙ drop_at h.text h.rest f.len (sym h.long) in
    record {
      stands = record {
        joined = h.stands.joined ∙ ap (λ l. l ++ h.rest) (sym text) ∙ ap (λ l. take f.len rest ++ l) (sym more);
        is_of = subst (IsOf f.shape language) (sym text) h.stands.is_of;
        follows = subst (NotFirst (goes_on f.shape language)) (sym more) h.stands.follows;
      };
      within = subst (IsWithin f.shape) (sym text) h.within;
      long = ap length text ∙ sym h.long;
      some = h.some;
      inside = (let e = ap length h.stands.joined in let l = length-append h.text h.rest in let n = h.long in omega arith);
    }

pub front_here : (language : Language) (f : Front) (rest : List ℕ) → 0 < length rest → Ok f ≡ front_in language rest → FrontHere language f rest
front_here language f [] some is = absurd (omega arith)
front_here language f (b ∷ bs) some is = front_here-has language f (b ∷ bs) (subst (FrontIs language (b ∷ bs)) (sym is) (front_in-is language b bs))

pub broken_here : (language : Language) (r : Rule) (rest : List ℕ) → 0 < length rest → Err r ≡ front_in language rest → Breaks r language rest
broken_here language r [] some is = absurd (omega arith)
broken_here language r (b ∷ bs) some is = subst (FrontIs language (b ∷ bs)) (sym is) (front_in-is language b bs)

-- lines and columns stay below the number of bytes and two
pub record IsLow (place : Place) (at : ℕ) : Type 0 where
  pub line : place.line ≤ at + 1
  pub column : place.column ≤ at + 1

pub so_far-low : (language : Language) (file : ℕ) (bytes : List ℕ) (at : ℕ) (place : Place) (lexed : Lexed) → SoFar language file bytes at place lexed → IsLow place at
so_far-low language file bytes at place lexed h =
    subst (λ (p : Place). IsLow p at) (sym h.placed)
    (let near = place_after-near (first_place file) (take at bytes) (omega arith) in
    let long = length-take-le at bytes h.within in
    record { line = (let n = near.line in omega arith); column = (let n = near.column in omega arith) })

-- one piece more
pub so_far-more : (language : Language) (file : ℕ) (bytes : List ℕ) (at : ℕ) (place : Place) (lexed new : Lexed) (f : Front) → SoFar language file bytes at place lexed → FrontHere language f (drop at bytes) → GainsPiece lexed new f.shape (take f.len (drop at bytes)) place at → SoFar language file bytes (at + f.len) (place_after place (take f.len (drop at bytes))) new
so_far-more language file bytes at place lexed new f h front gains =
    let text = take f.len (drop at bytes) in
    let piece : Piece = record { shape = f.shape; text = text } in
    record {
      within = (let d = length-drop at bytes in let n = front.inside in let w = h.within in omega arith);
      placed = ap (λ (p : Place). place_after p text) h.placed ∙ sym (place_at-add file bytes at f.len);
      pieces = h.pieces ++ piece ∷ [];
      cuts = subst (Cuts language (h.pieces ++ piece ∷ []) bytes) (drop-drop f.len at bytes) (cuts_more language h.pieces piece bytes (drop at bytes) (drop f.len (drop at bytes)) h.cuts front.stands front.within);
      tokens = λ ps.
          ap (tokens_from file bytes 0) (append_assoc h.pieces (piece ∷ []) ps)
          ∙ h.tokens (piece ∷ ps)
          ∙ ap (λ (p : Place). lexed.tokens ++ (spanned (token_of f.shape text) p at (at + length text) ++ tokens_from file bytes (at + length text) ps)) (sym h.placed)
          ∙ sym (append_assoc lexed.tokens (spanned (token_of f.shape text) place at (at + length text)) (tokens_from file bytes (at + length text) ps))
          ∙ ap (λ ts. ts ++ tokens_from file bytes (at + length text) ps) (sym gains.0)
          ∙ ap (λ n. new.tokens ++ tokens_from file bytes (at + n) ps) front.long;
      comments = λ ps.
          ap (comments_from file bytes 0) (append_assoc h.pieces (piece ∷ []) ps)
          ∙ h.comments (piece ∷ ps)
          ∙ ap (λ (p : Place). lexed.comments ++ (comment_of f.shape p at (at + length text) ++ comments_from file bytes (at + length text) ps)) (sym h.placed)
          ∙ sym (append_assoc lexed.comments (comment_of f.shape place at (at + length text)) (comments_from file bytes (at + length text) ps))
          ∙ ap (λ cs. cs ++ comments_from file bytes (at + length text) ps) (sym gains.1)
          ∙ ap (λ n. new.comments ++ comments_from file bytes (at + n) ps) front.long;
    }

-- at the end of the bytes
pub so_far-done : (language : Language) (file : ℕ) (bytes : List ℕ) (at : ℕ) (place : Place) (lexed : Lexed) (tokens : List Spanned) → SoFar language file bytes at place lexed → length bytes ≤ at → tokens ≡ lexed.tokens ++ record { token = token.End; place = place; start = at; end = at } ∷ [] → LexesIn language file bytes tokens lexed.comments
so_far-done language file bytes at place lexed tokens h done put = record {
  pieces = h.pieces;
  cuts = subst (Cuts language h.pieces bytes) (drop_all at bytes done) h.cuts;
  tokens_are = put
      ∙ ap (λ (p : Place). let s : Spanned = record { token = token.End; place = p; start = at; end = at } in lexed.tokens ++ s ∷ []) h.placed
      ∙ sym (h.tokens [])
      ∙ ap (tokens_from file bytes 0) (append-nil h.pieces);
  comments_are = sym (append-nil lexed.comments) ∙ sym (h.comments []) ∙ ap (comments_from file bytes 0) (append-nil h.pieces);
}

-- at a violation
pub so_far-broken : (language : Language) (file : ℕ) (bytes : List ℕ) (at : ℕ) (place : Place) (lexed : Lexed) (r : Rule) → SoFar language file bytes at place lexed → at < length bytes → Err r ≡ front_in language (drop at bytes) → FirstLexicalIn language file bytes (record { rule = r; place = place })
so_far-broken language file bytes at place lexed r h inside is =
    let d = length-drop at bytes in
    record {
      before = h.pieces;
      rest = drop at bytes;
      cuts = h.cuts;
      breaks = broken_here language r (drop at bytes) (omega arith) is;
      place = h.placed ∙ ap (place_at file bytes) (let e : at ≡ length bytes - length (drop at bytes) = omega arith in e);
    }

pub lexes-tokens_in_place : (language : Language) (file : ℕ) (bytes : List ℕ) (tokens : List Spanned) (comments : List Comment) → LexesIn language file bytes tokens comments → AreInPlaceIn language file bytes 0 tokens
lexes-tokens_in_place language file bytes tokens comments h =
    subst (AreInPlaceIn language file bytes 0) (sym h.tokens_are) (tokens_from-place language file bytes h.pieces 0 bytes (omega arith) refl h.cuts)

pub lexes-comments_in_place : (language : Language) (file : ℕ) (bytes : List ℕ) (tokens : List Spanned) (comments : List Comment) → LexesIn language file bytes tokens comments → AreCommentsInPlaceIn language file bytes 0 comments
lexes-comments_in_place language file bytes tokens comments h =
    subst (AreCommentsInPlaceIn language file bytes 0) (sym h.comments_are) (comments_from-place language file bytes h.pieces 0 bytes (omega arith) refl h.cuts)

pub lexes-ends : (language : Language) (file : ℕ) (bytes : List ℕ) (tokens : List Spanned) (comments : List Comment) → LexesIn language file bytes tokens comments → EndsOnce tokens
lexes-ends language file bytes tokens comments h = subst EndsOnce (sym h.tokens_are) (tokens_from-ends language file bytes h.pieces 0 bytes [] h.cuts)

-- a text has its quotes
between_long : (quote : ℕ) (inside text : List ℕ) → text ≡ quote ∷ (inside ++ quote ∷ []) → 2 ≤ length text
between_long quote inside text is = let e = ap length is in let l = length-append inside (quote ∷ []) in omega arith

pub is_of-quotes : (language : Language) (shape : Shape) (text : List ℕ) → IsOf shape language text → HasQuotes shape text
is_of-quotes Sdl Quoted text is = between_long 39 is.0 text is.1
is_of-quotes Asn Quoted text is = between_long 39 is.0 text is.1
is_of-quotes Sdl Quotation text is = absurd is
is_of-quotes Asn Quotation text is = between_long 34 is.0 text is.1
is_of-quotes Sdl Coded text is = absurd is
is_of-quotes Asn Coded text is = let e = ap length is.2 in let l = length-append is.0 (39 ∷ is.1 ∷ []) in omega arith
is_of-quotes language Space text is = tt
is_of-quotes language BlockComment text is = tt
is_of-quotes language DashComment text is = tt
is_of-quotes language LineComment text is = tt
is_of-quotes language Name text is = tt
is_of-quotes language (Reserved k) text is = tt
is_of-quotes language (AsnReserved k) text is = tt
is_of-quotes language Digits text is = tt
is_of-quotes language (Sign m) text is = tt
is_of-quotes language (AsnSign m) text is = tt
