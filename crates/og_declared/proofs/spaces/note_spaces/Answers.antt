use Rattle.std.specs.List.{flat_map}
use Rattle.og_declared.specs.Spaces.{in_space, spaces_of_unit}
use Rattle.og_system.proofs.Noticed.{noted_more}
use Rattle.og_declared.proofs.Noticing.{noted_nested}
use Rattle.og_declared.proofs.spaces.note_spaces.Goals as goal

pub loop-unit-preserved : goal.loop-unit-preserved
loop-unit-preserved c =
    noted_more (λ unit. flat_map in_space (spaces_of_unit unit)) c.args.units.now c.loop-unit.unit-index c.unit-item.result c.loop-unit.first c.note_spaces_of_unit.new.first c.args.first.now
    c.loop-unit-test.true c.unit-item.is c.in_ok-note_spaces_of_unit.ensures c.loop-unit.invariant

pub returns : goal.returns
returns c = noted_nested in_space spaces_of_unit c.args.units.now c.loop-unit.unit-index c.loop-unit.first c.args.first.now c.loop-unit-test.false c.loop-unit.invariant
