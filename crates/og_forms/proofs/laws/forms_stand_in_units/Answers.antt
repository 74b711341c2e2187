use Rattle.og_forms.proofs.Standing.{form_stands, violation_stands, first_stands}
use Rattle.og_forms.proofs.laws.forms_stand_in_units.Goals as goal

pub returns-clause-forms : goal.returns-clause-forms
returns-clause-forms c = form_stands

pub returns-clause-violations : goal.returns-clause-violations
returns-clause-violations c = violation_stands

pub returns-clause-first : goal.returns-clause-first
returns-clause-first c = first_stands
