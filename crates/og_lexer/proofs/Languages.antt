-- The piece that the reader finds in front of a text of either language, against the definitions by cases.
use Rattle.std.proofs.Common.{◌≡◌, ℕ, List, ◌∷◌, length}
use Rattle.std.specs.Prelude.{Err}
use Rattle.og_base.specs.declared.Rule.{Rule}
use Rattle.og_lexer.specs.declared.Language.{Language}
use Rattle.og_lexer.specs.declared.Language.TheVariants.{Sdl, Asn}
use Rattle.og_lexer.specs.declared.front.Shape.{Shape}
use Rattle.og_lexer.specs.Pieces.{Stands, IsWithin, Breaks}
use Rattle.og_lexer.specs.Front.{found}
use Rattle.og_lexer.specs.AsnFront.{front_in}
use Rattle.og_lexer.proofs.Founds.{FrontIs}
use Rattle.og_lexer.proofs.Fronts.{front_of-is, front_of-stands, front_of-breaks}
use Rattle.og_lexer.proofs.AsnFronts.{asn_front_of-is, asn_front_of-stands, asn_front_of-breaks}

-- what the reader finds stands in front, and what it says is violated there is
pub front_in-is : (language : Language) (b : ℕ) (bs : List ℕ) → FrontIs language (b ∷ bs) (front_in language (b ∷ bs))
front_in-is Sdl b bs = front_of-is b bs
front_in-is Asn b bs = asn_front_of-is b bs

-- a piece that stands in front is found
pub front_in-stands : (language : Language) (shape : Shape) (text bytes rest : List ℕ) → Stands language shape text bytes rest → IsWithin shape text → front_in language bytes ≡ found shape (length text)
front_in-stands Sdl shape text bytes rest = front_of-stands shape text bytes rest
front_in-stands Asn shape text bytes rest = asn_front_of-stands shape text bytes rest

-- a violation in front is found
pub front_in-breaks : (language : Language) (r : Rule) (bytes : List ℕ) → Breaks r language bytes → front_in language bytes ≡ Err r
front_in-breaks Sdl r bytes = front_of-breaks r bytes
front_in-breaks Asn r bytes = asn_front_of-breaks r bytes
