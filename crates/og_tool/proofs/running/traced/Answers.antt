use Rattle.og_tool.proofs.running.traced.Goals as goal

pub trace-requires-clause-plain : goal.trace-requires-clause-plain
trace-requires-clause-plain c = record {
  no_timers = c.requires.can.basic.no_timers;
  no_variables = c.requires.can.basic.no_variables;
  states = c.requires.can.basic.states;
}
