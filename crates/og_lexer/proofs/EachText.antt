-- Any bytes are cut into pieces to their end, or up to a violation.
use Rattle.std.proofs.Common.{◌≡◌, ℕ, zero, suc, ◌-◌, ◌<◌, ◌≤◌, ◌⊎◌, inl, inr, List, [], ◌∷◌, length, take, drop, refl, arith, length-drop}
use Rattle.std.specs.Prelude.{Result, Ok, Err}
use Rattle.og_base.specs.declared.Rule.{Rule}
use Rattle.og_lexer.specs.declared.Language.{Language}
use Rattle.og_lexer.specs.declared.front.Front.{Front}
use Rattle.og_lexer.specs.Pieces.{Breaks}
use Rattle.og_lexer.specs.Places.{place_at}
use Rattle.og_lexer.specs.AsnFront.{front_in}
use Rattle.og_lexer.specs.Texts.{Piece, Cuts, tokens_from, comments_from, IsTextIn, IsBrokenIn}
use Rattle.og_lexer.proofs.Reading.{FrontHere, front_here, broken_here}

-- pieces to the end
record Whole (language : Language) (bytes : List ℕ) : Type 0 where
  pieces : List Piece
  cuts : Cuts language pieces bytes []

-- pieces up to a violation
record Broken (language : Language) (bytes : List ℕ) : Type 0 where
  before : List Piece
  rest : List ℕ
  rule : Rule
  cuts : Cuts language before bytes rest
  breaks : Breaks rule language rest

abbrev IsEither : Language → List ℕ → Type 0
IsEither language bytes = Whole language bytes ⊎ Broken language bytes

-- a piece in front of what is cut
piece_in_front : (language : Language) (f : Front) (bytes : List ℕ) → FrontHere language f bytes → IsEither language (drop f.len bytes) → IsEither language bytes
piece_in_front language f bytes front (inl whole) = inl (record {
  pieces = record { shape = f.shape; text = take f.len bytes } ∷ whole.pieces;
  cuts = (drop f.len bytes, front.stands, front.within, whole.cuts);
})
piece_in_front language f bytes front (inr broken) = inr (record {
  before = record { shape = f.shape; text = take f.len bytes } ∷ broken.before;
  rest = broken.rest;
  rule = broken.rule;
  cuts = (drop f.len bytes, front.stands, front.within, broken.cuts);
  breaks = broken.breaks;
})

-- one step, where all shorter texts are cut
step : (language : Language) (bytes : List ℕ) (found : Result Front Rule) → 0 < length bytes → found ≡ front_in language bytes → ((rest : List ℕ) → length rest < length bytes → IsEither language rest) → IsEither language bytes
step language bytes (Ok f) some is later =
    let front = front_here language f bytes some is in
    let n = front.some in
    piece_in_front language f bytes front (later (drop f.len bytes) (omega (arith, length-drop f.len bytes)))
step language bytes (Err r) some is later = inr (record { before = []; rest = bytes; rule = r; cuts = refl; breaks = broken_here language r bytes some is })

cut : (language : Language) (n : ℕ) (bytes : List ℕ) → length bytes ≤ n → IsEither language bytes
cut language n [] le = inl (record { pieces = []; cuts = refl })
cut language zero (b ∷ bs) le = absurd (omega arith)
cut language (suc n) (b ∷ bs) le = step language (b ∷ bs) (front_in language (b ∷ bs)) (omega arith) refl (λ rest shorter. cut language n rest (omega arith))

told : (language : Language) (file : ℕ) (bytes : List ℕ) → IsEither language bytes → IsTextIn language file bytes ⊎ IsBrokenIn language file bytes
told language file bytes (inl whole) = inl (
  tokens_from file bytes 0 whole.pieces,
  (comments_from file bytes 0 whole.pieces, record { pieces = whole.pieces; cuts = whole.cuts; tokens_are = refl; comments_are = refl }),
)
told language file bytes (inr broken) = inr (
  record { rule = broken.rule; place = place_at file bytes (length bytes - length broken.rest) },
  record { before = broken.before; rest = broken.rest; cuts = broken.cuts; breaks = broken.breaks; place = refl },
)

-- any bytes lex, or have a first violation of class L
pub text_or_broken : (language : Language) (file : ℕ) (bytes : List ℕ) → IsTextIn language file bytes ⊎ IsBrokenIn language file bytes
text_or_broken language file bytes = told language file bytes (cut language (length bytes) bytes (omega arith))
