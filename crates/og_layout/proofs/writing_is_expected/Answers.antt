use Rattle.og_layout.proofs.Written.{variable_written, timer_written, region_written}
use Rattle.og_layout.proofs.writing_is_expected.Goals as goal

pub returns-clause-variable : goal.returns-clause-variable
returns-clause-variable c = λ M layout ns s d i k x old v at x_at v_at. variable_written M layout ns s d i k x old v at x_at v_at

pub returns-clause-timer : goal.returns-clause-timer
returns-clause-timer c = λ M layout ns s d i k old b at b_at. timer_written M layout ns s d i k old b at b_at

pub returns-clause-region : goal.returns-clause-region
returns-clause-region c = λ M layout ns s d i k old n at n_at. region_written M layout ns s d i k old n at n_at
