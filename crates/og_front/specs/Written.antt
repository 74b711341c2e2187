-- What the tree of a text keeps whatever its rules (Z.101 section 6.1): each of its names is a letter followed by letters, digits
-- and underlines, and each place that it keeps is one in a text. It is said of the forms that the grammar asks for.
use Rattle.std.specs.Prelude.{IsTrue}
use Rattle.std.specs.List.{AllByRecursion}
use Rattle.og_model.specs.Resolved.{is_name}
use Rattle.og_model.specs.WellSorted.{is_place}
use Rattle.og_front.specs.declared.syntax.Ident.{Ident}
use Rattle.og_front.specs.declared.syntax.SystemText.{SystemText}
use Rattle.og_front.specs.Grammar.{Form, Reserved, ReservedAt, Sign, Named, Last, system_forms}

pub record IsWrittenName (name : Ident) : Type 0 where
  pub letters : IsTrue (is_name name.word.bytes)
  pub place : IsTrue (is_place name.place)

abbrev pub IsWrittenForm : Form → Type 0
IsWrittenForm (Reserved word) = Unit {0}
IsWrittenForm (ReservedAt word place) = IsTrue (is_place place)
IsWrittenForm (Sign mark) = Unit {0}
IsWrittenForm (Named name) = IsWrittenName name
IsWrittenForm Last = Unit {0}

-- the names and places of the tree are such as stand in a text
pub record IsWrittenTree (system : SystemText) : Type 0 where
  pub each : AllByRecursion IsWrittenForm (system_forms system)
