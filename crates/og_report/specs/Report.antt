-- What is reported of a violation: its rule and its place, and the box of CIF (Z.106) that was drawn last before the place. The
-- boxes are those among the comments of the bytes that stand before the place, so that a file has boxes also where it goes
-- wrong behind them.
use Rattle.std.specs.Prelude.{◌≡◌, ◌⊎◌, ℕ, suc, List, [], ◌∷◌, take, Option, None, if◌then◌else◌}
use Rattle.og_base.specs.declared.Place.{Place}
use Rattle.og_base.specs.declared.Violation.{Violation}
use Rattle.og_base.specs.Order.{is_before}
use Rattle.og_lexer.specs.declared.Language.{Language}
use Rattle.og_lexer.specs.declared.Spanned.{Spanned}
use Rattle.og_lexer.specs.declared.Comment.{Comment}
use Rattle.og_lexer.specs.Places.{first_place, next_place}
use Rattle.og_lexer.specs.Texts.{LexesIn, IsBrokenIn}
use Rattle.og_cif.specs.declared.CifBox.{CifBox}
use Rattle.og_cif.specs.declared.BoxEnd.{BoxEnd}
use Rattle.og_cif.specs.File.{AreBoxes, box_before}
use Rattle.og_report.specs.declared.Report.{Report}

-- how many of the bytes stand before the place; the first of them stands here
abbrev pub count_before : Place → Place → List ℕ → ℕ
count_before place here [] = 0
count_before place here (b ∷ bs) = if is_before here place then suc (count_before place (next_place here b) bs) else 0

-- the bytes of the file that stand before the place
abbrev pub bytes_before : Place → List ℕ → List ℕ
bytes_before place bytes = take (count_before place (first_place place.file) bytes) bytes

-- the last box among the comments that ends at or before the place
pub record IsLastBoxOf (bytes : List ℕ) (comments : List Comment) (place : Place) (box : Option CifBox) : Type 0 where
  pub boxes : List BoxEnd
  pub are : AreBoxes bytes comments boxes
  pub is : box ≡ box_before boxes place

-- the bytes lex, and this is the last box among their comments
pub record IsLastBox (language : Language) (bytes : List ℕ) (place : Place) (box : Option CifBox) : Type 0 where
  pub tokens : List Spanned
  pub comments : List Comment
  pub lexes : LexesIn language place.file bytes tokens comments
  pub last : IsLastBoxOf bytes comments place box

-- the bytes lex to nothing, and there is no box
pub record HasNoBox (language : Language) (bytes : List ℕ) (place : Place) (box : Option CifBox) : Type 0 where
  pub broken : IsBrokenIn language place.file bytes
  pub is : box ≡ None

-- the box of the place, or that it has none
abbrev pub IsBoxFor : Language → List ℕ → Place → Option CifBox → Type 0
IsBoxFor language bytes place box = IsLastBox language (bytes_before place bytes) place box ⊎ HasNoBox language (bytes_before place bytes) place box

pub record IsReportOf (language : Language) (bytes : List ℕ) (v : Violation) (report : Report) : Type 0 where
  pub rule : report.rule ≡ v.rule
  pub place : report.place ≡ v.place
  pub box : IsBoxFor language bytes v.place report.frame
