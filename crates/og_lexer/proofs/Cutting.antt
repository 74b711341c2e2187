-- Whole texts: a text is cut into pieces in one way at most, and what the pieces give stands in its place.
use Rattle.std.proofs.Common.{◌≡◌, ◌≢◌, ℕ, ◌-◌, List, [], ◌∷◌, ◌++◌, length, take, drop, refl, sym, ap, ◌∙◌, subst, inl, inr, take_at, drop_at}
use Rattle.std.specs.Prelude.{Result, Ok, Err}
use Rattle.og_base.specs.declared.Rule.{Rule}
use Rattle.og_base.specs.declared.Rule.TheVariants.{L1, L2, L3, L4}
use Rattle.og_base.specs.declared.Violation.{Violation}
use Rattle.og_lexer.specs.declared.Spanned.{Spanned}
use Rattle.og_lexer.specs.declared.Comment.{Comment}
use Rattle.og_lexer.specs.declared.Language.{Language}
use Rattle.og_lexer.specs.declared.Language.TheVariants.{Sdl, Asn}
use Rattle.og_lexer.specs.declared.front.Shape.{Shape}
use Rattle.og_lexer.specs.declared.front.Front.{Front}
use Rattle.og_lexer.specs.Pieces.{IsWordIn, IsNumber, Stands, IsWithin, Breaks}
use Rattle.og_lexer.specs.Places.{place_at}
use Rattle.og_lexer.specs.Front.{found, front_of}
use Rattle.og_lexer.specs.AsnFront.{asn_front_of, front_in}
use Rattle.og_lexer.specs.Texts.{Piece, Cuts, tokens_from, comments_from, LexesIn, FirstLexicalIn}
use Rattle.og_lexer.proofs.Languages.{front_in-stands, front_in-breaks}

-- one piece more
pub cuts_more : (language : Language) (ps : List Piece) (p : Piece) (bytes rest more : List ℕ) → Cuts language ps bytes rest → Stands language p.shape p.text rest more → IsWithin p.shape p.text → Cuts language (ps ++ p ∷ []) bytes more
cuts_more language [] p bytes rest more cuts stands within = (more, record { joined = cuts ∙ stands.joined; is_of = stands.is_of; follows = stands.follows }, within, refl)
cuts_more language (q ∷ qs) p bytes rest more cuts stands within = (cuts.0, cuts.1, cuts.2, cuts_more language qs p cuts.0 rest more cuts.3 stands within)

-- the reader finds no piece in front
pub record NoFront (language : Language) (bytes : List ℕ) : Type 0 where
  pub none : (shape : Shape) (n : ℕ) → front_in language bytes ≡ found shape n → ⊥

pub no_front-nil : (language : Language) → NoFront language []
unfolding front_of asn_front_of
no_front-nil Sdl = record { none = λ shape n e. cc }
no_front-nil Asn = record { none = λ shape n e. cc }

pub no_front-breaks : (language : Language) (r : Rule) (bytes : List ℕ) → front_in language bytes ≡ Err r → NoFront language bytes
no_front-breaks language r bytes broken = record { none = λ shape n e. cc }

piece_text : (text bytes rest : List ℕ) → bytes ≡ text ++ rest → text ≡ take (length text) bytes
piece_text text bytes rest joined = sym (ap (take (length text)) joined ∙ take_at text rest (length text) refl)

piece_rest : (text bytes rest : List ℕ) → bytes ≡ text ++ rest → rest ≡ drop (length text) bytes
piece_rest text bytes rest joined = sym (ap (drop (length text)) joined ∙ drop_at text rest (length text) refl)

same_shape : (s t : Shape) (m n : ℕ) → found s m ≡ found t n → (s ≡ t) × (m ≡ n)
same_shape s t m n e = let same = same_value (record { shape = s; len = m }) (record { shape = t; len = n }) e in (ap (λ f. f.shape) same, ap (λ f. f.len) same)
  where
    same_value : (f g : Front) → (let x : Result Front Rule = Ok f in x ≡ Ok g) → f ≡ g
    same_value f g e = cc

same_piece : (p q : Piece) → p.shape ≡ q.shape → p.text ≡ q.text → p ≡ q
same_piece p q shape text = λ i. record { shape = shape i; text = text i }

-- one piece at most stands in front
same_front : (language : Language) (p q : Piece) (bytes rest more : List ℕ) → Stands language p.shape p.text bytes rest → IsWithin p.shape p.text → Stands language q.shape q.text bytes more → IsWithin q.shape q.text → (p ≡ q) × (rest ≡ more)
same_front language p q bytes rest more first within second also =
    let same = same_shape p.shape q.shape (length p.text) (length q.text) (sym (front_in-stands language p.shape p.text bytes rest first within) ∙ front_in-stands language q.shape q.text bytes more second also) in (
      same_piece p q same.0 (piece_text p.text bytes rest first.joined ∙ ap (λ n. take n bytes) same.1 ∙ sym (piece_text q.text bytes more second.joined)),
      piece_rest p.text bytes rest first.joined ∙ ap (λ n. drop n bytes) same.1 ∙ sym (piece_rest q.text bytes more second.joined),
    )

-- pieces as far as there are any are determined
pub same_cuts : (language : Language) (ps qs : List Piece) (bytes rest more : List ℕ) → Cuts language ps bytes rest → NoFront language rest → Cuts language qs bytes more → NoFront language more → (ps ≡ qs) × (rest ≡ more)
same_cuts language [] [] bytes rest more first stops second ends = (refl, sym first ∙ second)
same_cuts language [] (q ∷ qs) bytes rest more first stops second ends =
    absurd (stops.none q.shape (length q.text) (ap (front_in language) (sym first) ∙ front_in-stands language q.shape q.text bytes second.0 second.1 second.2))
same_cuts language (p ∷ ps) [] bytes rest more first stops second ends =
    absurd (ends.none p.shape (length p.text) (ap (front_in language) (sym second) ∙ front_in-stands language p.shape p.text bytes first.0 first.1 first.2))
same_cuts language (p ∷ ps) (q ∷ qs) bytes rest more first stops second ends =
    let front = same_front language p q bytes first.0 second.0 first.1 first.2 second.1 second.2 in
    let later = same_cuts language ps qs second.0 rest more (subst (λ (l : List ℕ). Cuts language ps l rest) front.1 first.3) stops second.3 ends in
    ((λ i. front.0 i ∷ later.0 i), later.1)

pub lexes-once : (language : Language) (file : ℕ) (bytes : List ℕ) (tokens others : List Spanned) (comments more : List Comment) → LexesIn language file bytes tokens comments → LexesIn language file bytes others more → (tokens ≡ others) × (comments ≡ more)
lexes-once language file bytes tokens others comments more first second =
    let same = same_cuts language first.pieces second.pieces bytes [] [] first.cuts (no_front-nil language) second.cuts (no_front-nil language) in (
      first.tokens_are ∙ ap (tokens_from file bytes 0) same.0 ∙ sym second.tokens_are,
      first.comments_are ∙ ap (comments_from file bytes 0) same.0 ∙ sym second.comments_are,
    )

same_rule : (language : Language) (r s : Rule) (bytes : List ℕ) → front_in language bytes ≡ Err r → front_in language bytes ≡ Err s → r ≡ s
same_rule language r s bytes first second = cc

same_violation : (v w : Violation) → v.rule ≡ w.rule → v.place ≡ w.place → v ≡ w
same_violation v w rule place = λ i. record { rule = rule i; place = place i }

pub violation-once : (language : Language) (file : ℕ) (bytes : List ℕ) (v w : Violation) → FirstLexicalIn language file bytes v → FirstLexicalIn language file bytes w → v ≡ w
violation-once language file bytes v w first second =
    let broken = front_in-breaks language v.rule first.rest first.breaks in
    let also = front_in-breaks language w.rule second.rest second.breaks in
    let same = same_cuts language first.before second.before bytes first.rest second.rest first.cuts (no_front-breaks language v.rule first.rest broken) second.cuts (no_front-breaks language w.rule second.rest also) in
    same_violation v w
    (same_rule language v.rule w.rule second.rest (ap (front_in language) (sym same.1) ∙ broken) also)
    (first.place ∙ ap (λ (l : List ℕ). place_at file bytes (length bytes - length l)) same.1 ∙ sym second.place)

-- a violation stands at a byte
word-some : (language : Language) (text rest : List ℕ) → IsWordIn language text → text ++ rest ≡ [] → ⊥
word-some Sdl [] rest word none = word
word-some Asn [] rest word none = word
word-some language (b ∷ bs) rest word none = cc

breaks-some : (language : Language) (r : Rule) (bytes : List ℕ) → Breaks r language bytes → bytes ≢ []
breaks-some Sdl L1 bytes h none = let e = h.2 in cc
breaks-some Asn L1 bytes h none = let e = h.2 in cc
breaks-some Sdl L2 bytes (inl h) none = let e = h.1 in cc
breaks-some Sdl L2 bytes (inr h) none = let e = h.1 in cc
breaks-some Asn L2 bytes (inl h) none = let e = h.1 in cc
breaks-some Asn L2 bytes (inr (inl h)) none = let e = h.1 in cc
breaks-some Asn L2 bytes (inr (inr h)) none = let e = h.1 in cc
breaks-some language L3 bytes h none = word-some language h.0 h.1 h.3 (sym h.2 ∙ none)
breaks-some language L4 bytes h none = number-some h.0 h.1 h.2.is_of (sym h.2.joined ∙ none)
  where
    number-some : (text rest : List ℕ) → IsNumber text → text ++ rest ≡ [] → ⊥
    number-some [] rest number none = number
    number-some (b ∷ bs) rest number none = cc
breaks-some language r bytes h none = absurd h

pub lexes-apart : (language : Language) (file : ℕ) (bytes : List ℕ) (tokens : List Spanned) (comments : List Comment) (v : Violation) → LexesIn language file bytes tokens comments → FirstLexicalIn language file bytes v → ⊥
lexes-apart language file bytes tokens comments v lexes first =
    let broken = front_in-breaks language v.rule first.rest first.breaks in
    let same = same_cuts language lexes.pieces first.before bytes [] first.rest lexes.cuts (no_front-nil language) first.cuts (no_front-breaks language v.rule first.rest broken) in
    breaks-some language v.rule first.rest first.breaks (sym same.1)
