use Rattle.std.proofs.Common.{inl, rules}
use Rattle.og_base.proofs.memory.MemSinkSink.write.Goals as goal

pub returns-then-refuses-clause-no_room : goal.returns-then-refuses-clause-no_room
returns-then-refuses-clause-no_room c = inl (search rules)
