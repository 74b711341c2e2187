-- The boxes of a file (Z.106). A comment that is a box gives one, with the place just behind the comment; what is reported
-- for a place names the last box that ends there or before it.
use Rattle.std.specs.Prelude.{◌≡◌, ◌≤◌, ℕ, List, [], ◌∷◌, length, slice_range, Option, Some, None, if◌then◌else◌}
use Rattle.og_base.specs.declared.Place.{Place}
use Rattle.og_base.specs.Order.{is_before}
use Rattle.og_lexer.specs.declared.Comment.{Comment}
use Rattle.og_lexer.specs.Places.{place_at}
use Rattle.og_cif.specs.declared.CifBox.{CifBox}
use Rattle.og_cif.specs.declared.BoxEnd.{BoxEnd}
use Rattle.og_cif.specs.Form.{IsBox}

-- the comment stands at its bytes and its place, as comments do that a file lexes to
pub record StandsInFile (bytes : List ℕ) (c : Comment) : Type 0 where
  pub ordered : c.start ≤ c.end
  pub inside : c.end ≤ length bytes
  pub placed : c.place ≡ place_at c.place.file bytes c.start

abbrev pub StandInFile : List ℕ → List Comment → Type 0
StandInFile bytes [] = Unit {0}
StandInFile bytes (c ∷ cs) = StandsInFile bytes c × StandInFile bytes cs

-- the bytes of the comment
abbrev pub text_of : List ℕ → Comment → List ℕ
text_of bytes c = slice_range bytes c.start c.end

-- the box that the comment is, with the place just behind the comment; or it is none
abbrev pub IsBoxOf : List ℕ → Comment → Option BoxEnd → Type 0
IsBoxOf bytes c None = (box : CifBox) → IsBox box (text_of bytes c) → ⊥
IsBoxOf bytes c (Some one) = IsBox one.frame (text_of bytes c) × (one.end ≡ place_at c.place.file bytes c.end)

-- the box, if there is one, as a list
abbrev pub each_of : Option BoxEnd → List BoxEnd
each_of None = []
each_of (Some one) = one ∷ []

-- the boxes are those of the comments, one for each comment that is one, in their order
pub data AreBoxes (bytes : List ℕ) : List Comment → List BoxEnd → Type 0 where
  none : AreBoxes bytes [] []
  a_box : {c : Comment} {cs : List Comment} {boxes : List BoxEnd} (one : BoxEnd) → IsBoxOf bytes c (Some one) → AreBoxes bytes cs boxes
      → AreBoxes bytes (c ∷ cs) (one ∷ boxes)
  plain : {c : Comment} {cs : List Comment} {boxes : List BoxEnd} → IsBoxOf bytes c None → AreBoxes bytes cs boxes → AreBoxes bytes (c ∷ cs) boxes

-- the second where the first is nothing
abbrev pub or_else : Option CifBox → Option CifBox → Option CifBox
or_else None other = other
or_else (Some box) other = Some box

-- the box, where it ends at or before the place
abbrev pub ended : BoxEnd → Place → Option CifBox
ended box place = if is_before place box.end then None else Some box.frame

-- the last of the boxes that ends at or before the place
abbrev pub box_before : List BoxEnd → Place → Option CifBox
box_before [] place = None
box_before (box ∷ boxes) place = or_else (box_before boxes place) (ended box place)
