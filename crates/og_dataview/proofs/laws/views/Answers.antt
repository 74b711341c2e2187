use Rattle.std.proofs.Common.{refl}
use denote.Hole.Rolled.{depth}
use denote.Hole.Carrier.{fold, out, roll, shown, hidden}
use Rattle.og_lexer.specs.Bytes.{class_of}
use Rattle.og_asn1.specs.declared.syntax.BaseTree.TheBlock.{the_depth, shown-the_row-CompTree-0, shape-the_row-CompTree-0, hidden-the_row-CompTree-0, shown-the_row-TypeTree-1}
use Rattle.og_asn1.specs.declared.syntax.BaseTree.TheViews.{out-BaseTree, out-CompTree, out-OfTree, roll-OfTree}
use Rattle.og_asn1.specs.declared.syntax.ValueNode.TheViews.{out-ValueNode}
use Rattle.og_asn1.specs.Kinds.{kind_of, kind_of_name}
use Rattle.og_asn1.specs.Reading.{named}
use Rattle.og_dataview.specs.View.{greatest_depth}
use Rattle.og_dataview.proofs.laws.views.Goals as goal

pub returns-clause-enumerators : goal.returns-clause-enumerators
unfolding greatest_depth class_of kind_of kind_of_name named the_depth depth fold out out-BaseTree
returns-clause-enumerators c = (refl, refl)

pub returns-clause-below_zero : goal.returns-clause-below_zero
unfolding greatest_depth class_of kind_of kind_of_name named the_depth depth fold out out-BaseTree
returns-clause-below_zero c = (refl, refl)

pub returns-clause-ranges : goal.returns-clause-ranges
unfolding greatest_depth class_of kind_of kind_of_name named the_depth depth fold out out-BaseTree
returns-clause-ranges c = (refl, refl)

pub returns-clause-left : goal.returns-clause-left
unfolding greatest_depth class_of kind_of kind_of_name named the_depth depth fold out out-BaseTree
returns-clause-left c = (refl, refl)

pub returns-clause-constants : goal.returns-clause-constants
unfolding greatest_depth class_of kind_of kind_of_name named the_depth depth fold out out-BaseTree out-ValueNode
returns-clause-constants c = (refl, refl)

pub returns-clause-depth : goal.returns-clause-depth
unfolding greatest_depth class_of kind_of kind_of_name named the_depth depth fold out out-BaseTree out-CompTree shown hidden shown-the_row-CompTree-0 shape-the_row-CompTree-0 hidden-the_row-CompTree-0 out-OfTree roll-OfTree roll shown-the_row-TypeTree-1
returns-clause-depth c = (refl, refl)

pub returns-clause-opaque : goal.returns-clause-opaque
unfolding greatest_depth class_of kind_of kind_of_name named the_depth depth fold out out-BaseTree out-CompTree shown hidden shown-the_row-CompTree-0 shape-the_row-CompTree-0 hidden-the_row-CompTree-0
returns-clause-opaque c = (refl, refl)

pub returns-clause-without_declaration : goal.returns-clause-without_declaration
unfolding greatest_depth class_of kind_of kind_of_name named the_depth depth fold out out-BaseTree out-CompTree shown hidden shown-the_row-CompTree-0 shape-the_row-CompTree-0 hidden-the_row-CompTree-0
returns-clause-without_declaration c = (refl, refl)
