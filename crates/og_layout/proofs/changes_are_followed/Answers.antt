use Rattle.og_layout.proofs.Written.{variable_stands, timer_stands, region_stands, besides_stands}
use Rattle.og_layout.proofs.changes_are_followed.Goals as goal

pub returns-clause-variable : goal.returns-clause-variable
returns-clause-variable c = λ M layout mark s slots d stands i k x old v cells at x_at v_at holds. variable_stands M layout mark s slots d stands i k x old v cells at x_at v_at holds

pub returns-clause-timer : goal.returns-clause-timer
returns-clause-timer c = λ M layout mark s slots d stands i k old b at b_at. timer_stands M layout mark s slots d stands i k old b at b_at

pub returns-clause-region : goal.returns-clause-region
returns-clause-region c = λ M layout mark later s slots d stands i k old n cells at n_at same holds. region_stands M layout mark later s slots d stands i k old n cells at n_at same holds

pub returns-clause-besides : goal.returns-clause-besides
returns-clause-besides c = λ M layout mark s slots d stands i k cells at. besides_stands M layout mark s slots d stands i k cells at
