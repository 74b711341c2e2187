-- Whether a run can go on.
use Rattle.std.specs.Prelude.{Option, Some, None}
use Rattle.og_model.specs.declared.StuckRule.{StuckRule}
use Rattle.og_ir.specs.Steps.{Config, Running, Over, Broken}
use Rattle.og_csubset.specs.Run.{rule_of}

-- why a run cannot go on, none where it is over or goes on
abbrev pub stuck_rule : Config → Option StuckRule
stuck_rule (Running globals frame callers) = None
stuck_rule (Over globals) = None
stuck_rule (Broken trouble) = Some (rule_of trouble)
