use Rattle.std.proofs.Common.{refl}
use Rattle.og_lexer.specs.Bytes.{class_of}
use Rattle.og_asn1.specs.Reading.{named}
use Rattle.og_dataview.specs.View.{greatest_depth}
use Rattle.og_datatypes.proofs.examples.types.Goals as goal

pub returns-clause-ranges : goal.returns-clause-ranges
unfolding greatest_depth class_of named
returns-clause-ranges c = refl

pub returns-clause-numbers : goal.returns-clause-numbers
unfolding greatest_depth class_of named
returns-clause-numbers c = refl

pub returns-clause-opaque : goal.returns-clause-opaque
unfolding greatest_depth class_of named
returns-clause-opaque c = refl
