-- Where a run is, as code keeps it.
use Rattle.std.specs.Prelude.{List, map, reverse}
use Rattle.og_ir.specs.Cells.{Cells}
use Rattle.og_ir.specs.Steps as steps
use Rattle.og_ir.specs.Steps.{Frame, Config, Over, Broken}
use Rattle.og_cstatement.specs.declared.position.Call.{Call}
use Rattle.og_cstatement.specs.declared.position.Position.{Position}
use Rattle.og_cstatement.specs.declared.position.Standing.{Standing}
use Rattle.og_cstatement.specs.declared.position.Standing.TheVariants.{Running, Idle, Stuck}
use Rattle.og_cstatement.specs.Numbers.{trouble_of}

abbrev pub frame_of : Call → Frame
frame_of c = record { function = c.function; place = c.place }

-- the innermost caller stands last in a position
abbrev pub config_by : List Cells → Standing → List Call → Config
config_by globals (Running call) callers = steps.Running globals (frame_of call) (reverse (map frame_of callers))
config_by globals Idle callers = Over globals
config_by globals (Stuck rule) callers = Broken (trouble_of rule)

abbrev pub config_of : List Cells → Position → Config
config_of globals position = config_by globals position.standing position.callers.items
