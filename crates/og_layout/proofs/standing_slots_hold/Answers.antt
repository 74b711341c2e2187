use Rattle.og_layout.proofs.Holding.{variable_held, timer_held, region_held, stopped_held, fault_held, others_held}
use Rattle.og_layout.proofs.standing_slots_hold.Goals as goal

pub returns-clause-variable : goal.returns-clause-variable
returns-clause-variable c = variable_held

pub returns-clause-timer : goal.returns-clause-timer
returns-clause-timer c = timer_held

pub returns-clause-region : goal.returns-clause-region
returns-clause-region c = region_held

pub returns-clause-control : goal.returns-clause-control
returns-clause-control c = λ M layout mark s slots stands. (stopped_held M layout mark s slots stands, fault_held M layout mark s slots stands)

pub returns-clause-others : goal.returns-clause-others
returns-clause-others c = others_held
