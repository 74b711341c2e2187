use Rattle.og_outside.proofs.Saying.{says}
use Rattle.og_outside.proofs.edge.run_words.Goals as goal

pub returns : goal.returns
returns g c = let e = c.run_tool.ensures in says _ _ _ _ _ _ _ _ _ (record {
  done = e.done;
  refused = e.refused;
  usage = e.usage.0;
  usage_writes_nothing = e.usage_writes_nothing;
  read_fault = e.read_fault;
  read_fault_writes_nothing = e.read_fault_writes_nothing;
  write_fault = e.write_fault;
  write_fault_writes_a_front = e.write_fault_writes_a_front;
  no_memory = e.no_memory;
  bad_file = e.bad_file;
  past = e.past;
  faulted = e.faulted;
  stuck = e.stuck;
  too_large = e.too_large;
  too_large_writes_nothing = e.too_large_writes_nothing;
})
