use Rattle.og_declared.proofs.ByTables.{all_by}
use Rattle.og_declared.proofs.violations.note_violations.Goals as goal

pub returns : goal.returns
returns c =
    all_by c.args.types.now c.args.constants.now c.args.units.now c.in_ok-outside.outside c.args.first.now c.note_signals.new.first c.note_bodies.new.first c.note_spaces.new.first c.note_sorts.new.first
    c.in_ok-note_signals.ensures c.in_ok-note_bodies.ensures c.in_ok-note_spaces.ensures c.in_ok-outside.ensures c.in_ok-note_sorts.ensures
