use Rattle.og_dataview.proofs.Meeting.{Meeting}
use Rattle.og_dataview.proofs.repeats.note_repeated_names.Given as goal

abbrev pub invariant-loop-one : goal.invariant-loop-one
invariant-loop-one g l = Meeting (g.T.Declared.name_of) l.declared l.one-index l.met l.first l.initial.first
