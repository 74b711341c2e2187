use Rattle.std.proofs.Common.{refl}
use denote.Hole.Rolled.{depth}
use denote.Hole.Carrier.{fold, out, shown, hidden}
use Rattle.og_lexer.specs.Bytes.{class_of}
use Rattle.og_asn1.specs.declared.syntax.BaseTree.TheBlock.{the_depth, shown-the_row-CompTree-0, shape-the_row-CompTree-0, hidden-the_row-CompTree-0}
use Rattle.og_asn1.specs.declared.syntax.BaseTree.TheViews.{out-BaseTree, out-CompTree}
use Rattle.og_asn1.specs.declared.syntax.ValueNode.TheViews.{out-ValueNode}
use Rattle.og_asn1.specs.Kinds.{kind_of, kind_of_name}
use Rattle.og_asn1.specs.Reading.{named}
use Rattle.og_dataview.proofs.laws.violations.Goals as goal

pub returns-clause-unknown : goal.returns-clause-unknown
unfolding class_of kind_of kind_of_name named the_depth depth fold out out-BaseTree out-ValueNode
returns-clause-unknown c = (refl, refl, refl, refl, refl, refl, refl, refl)

pub returns-clause-not_looked_for : goal.returns-clause-not_looked_for
unfolding class_of kind_of kind_of_name named the_depth depth fold out out-BaseTree out-ValueNode
returns-clause-not_looked_for c = (refl, refl, refl, refl)

pub returns-clause-twice : goal.returns-clause-twice
unfolding class_of kind_of kind_of_name named the_depth depth fold out out-BaseTree out-CompTree shown hidden shown-the_row-CompTree-0 shape-the_row-CompTree-0 hidden-the_row-CompTree-0 out-ValueNode
returns-clause-twice c = (refl, refl, refl, refl, refl, refl, refl, refl)

pub returns-clause-three : goal.returns-clause-three
unfolding class_of kind_of kind_of_name named the_depth depth fold out out-BaseTree
returns-clause-three c = (refl, refl)

pub returns-clause-apart : goal.returns-clause-apart
unfolding class_of kind_of kind_of_name named the_depth depth fold out out-BaseTree out-CompTree shown hidden shown-the_row-CompTree-0 shape-the_row-CompTree-0 hidden-the_row-CompTree-0 out-ValueNode
returns-clause-apart c = (refl, refl)

pub returns-clause-imports : goal.returns-clause-imports
unfolding class_of kind_of kind_of_name named the_depth depth fold out out-BaseTree out-ValueNode
returns-clause-imports c = (refl, refl, refl, refl)
