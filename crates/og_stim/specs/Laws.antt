-- What holds of the lines of stimuli files. Their form is this project's own.
use Rattle.std.specs.Prelude.{◌≡◌, ◌↔◌, List, ℕ, Some}
use Rattle.og_types.specs.declared.TypeId.{TypeId}
use Rattle.og_types.specs.declared.Value.{Value}
use Rattle.og_value.specs.Forms.{HasForm}
use Rattle.og_value.specs.Reads.{Reads}
use Rattle.og_model.specs.declared.Model.{Model}
use Rattle.og_stim.specs.Forms.{Texts, IsForm}
use Rattle.og_stim.specs.Scans.{form_in}
use Rattle.og_stim.specs.Stimuli.{value_read}

-- what is found in a line is its form: so a line has one form at most, and where nothing is found it has none
abbrev pub LinesHaveTheirForms : Type 0
LinesHaveTheirForms = (line name : List ℕ) (texts : Texts) → (form_in line ≡ Some (name, texts)) ↔ IsForm name texts line

-- what a text of a value is read as is what it means
abbrev pub ValuesAreRead : Type 0
ValuesAreRead =
    (M : Model) (sort : TypeId) (text : List ℕ) (v : Value) → HasForm text → (value_read M sort text ≡ Some v) ↔ Reads M.types M.names sort text v
