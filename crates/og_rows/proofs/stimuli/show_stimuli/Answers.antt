-- The small model has few signals and timers.
use Rattle.og_rows.proofs.stimuli.show_stimuli.Goals as goal

pub show_next-requires : goal.show_next-requires
show_next-requires c = record { few_signals = c.in-Ok.ensures.signals; few_timers = c.in-Ok.ensures.timers }

pub show_next-requires-2 : goal.show_next-requires-2
show_next-requires-2 c = record { few_signals = c.in-Ok.ensures.signals; few_timers = c.in-Ok.ensures.timers }
