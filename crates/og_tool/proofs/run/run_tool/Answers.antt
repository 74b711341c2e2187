use Rattle.std.proofs.Common.{map, string_bytes}
use Rattle.og_words.specs.Asked.{asked}
use Rattle.og_tool.proofs.RunParts.{stuck_runs}
use Rattle.og_tool.proofs.run.run_tool.Goals as goal

pub returns-in-Some-clause-never_stuck : goal.returns-in-Some-clause-never_stuck
returns-in-Some-clause-never_stuck g c = λ e.
    stuck_runs (map string_bytes c.args.words.now.items) (g.S.Store.holds c.args.store.now) (asked c.in-Some.command) c.carry_out.result _ _ _ _ _ _ c.in-Some.ensures.found c.carry_out.ensures.answer e
