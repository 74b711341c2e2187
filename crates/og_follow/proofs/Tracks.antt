-- A run that is followed goes on by a step, begins a unit with a step, and comes to its end or to the last of its units.
use Rattle.std.proofs.Common.{◌≡◌, ℕ, zero, suc, ◌+◌, ◌*◌, ◌≤◌, Bool, true, false, List, [], ◌++◌, length, slice_get, Some, refl, ap, ◌∙◌, arith}
use Rattle.std.proofs.Math.Nat.{mul-le-mul_right, suc-mul}
use Rattle.std.proofs.lemmas.List.{append-nil}
use Rattle.og_model.specs.Shown.{Event}
use Rattle.og_ir.specs.declared.Ir.{Ir}
use Rattle.og_ir.specs.declared.FlatFn.{FlatFn}
use Rattle.og_ir.specs.Cells.{Cells}
use Rattle.og_ir.specs.Steps.{Frame, Config, Running, Over, Ran, joined, and_then}
use Rattle.og_ir.proofs.Runs.{joined_twice}
use Rattle.og_csubset.specs.Paced.{Pace, IsPace, exec_paced, paced_size}
use Rattle.og_csubset.specs.Run.{Machine}
use Rattle.og_follow.proofs.PacedSteps.{whole_step}
use Rattle.og_follow.specs.Passing.{Passed, none_passed, with_place, passed}
use Rattle.og_follow.specs.Tracks.{complete, Track, Stands, since}
use Rattle.og_follow.specs.Answers.{Ended, RunsOn}
use Rattle.og_follow.proofs.Passing.{passed_le, passed_with}
use Rattle.og_follow.proofs.Trails.{no_trail, trail_on, trail_begins}

plus_none : (k : ℕ) → 0 + k ≡ k
plus_none k = omega (arith)

-- nothing was done yet
pub begins : (step : Config → Ran Event) (unit_at : Frame → Bool) (pace : Pace) (ir : Ir) (first : Config) → Track step unit_at pace ir first 0 0 [] none_passed first
begins step unit_at pace ir first = record {
  goes = λ k. ap (λ n. exec_paced pace step n 0 first) (plus_none k);
  least = omega (arith);
  most = omega (arith);
  trail = no_trail step unit_at first;
}

assoc : (a b c : ℕ) → a + b + c ≡ a + (b + c)
assoc a b c = omega (arith)

-- one step further
steps_on : (step : Config → Ran Event) (pace : Pace) → IsPace pace → (first : Config) (statements : ℕ) (events shown : List Event) (slots : List Cells) (frame : Frame) (callers : List Frame) (next : Config) → ((k : ℕ) → exec_paced pace step (statements + k) 0 first ≡ joined events (exec_paced pace step k 0 (Running slots frame callers))) → step (Running slots frame callers) ≡ record { events = shown; config = next } → (k : ℕ) → exec_paced pace step (statements + pace frame.function frame.place + k) 0 first ≡ joined (events ++ shown) (exec_paced pace step k 0 next)
steps_on step pace is_pace first statements events shown slots frame callers next goes does k =
    ap (λ n. exec_paced pace step n 0 first) (assoc statements (pace frame.function frame.place) k)
    ∙ goes (pace frame.function frame.place + k)
    ∙ ap (joined events) (whole_step pace is_pace step k (Running slots frame callers))
    ∙ ap (λ ran. joined events (and_then ran (exec_paced pace step k 0))) does
    ∙ joined_twice events shown (exec_paced pace step k 0 next)

more : (u j p : ℕ) → u ≤ j → 1 ≤ p → u + 1 ≤ j + p
more u j p a b = omega (arith, a, b)

-- a step that belongs to the unit that was begun, or comes before the first one
pub goes_on : (step : Config → Ran Event) (unit_at : Frame → Bool) (pace : Pace) (ir : Ir) → IsPace pace → (first : Config) (units statements : ℕ) (events shown : List Event) (seen : Passed) (slots : List Cells) (frame : Frame) (callers : List Frame) (next : Config) → Track step unit_at pace ir first units statements events seen (Running slots frame callers) → Stands ir frame → unit_at frame ≡ false → seen frame.function frame.place ≡ false → step (Running slots frame callers) ≡ record { events = shown; config = next } → Track step unit_at pace ir first units (statements + pace frame.function frame.place) (events ++ shown) (with_place seen frame.function frame.place) next
goes_on step unit_at pace ir is_pace first units statements events shown seen slots frame callers next track stands mark new does =
    let adds = passed_with pace seen ir frame.function frame.place stands.function stands.at stands.within new in
    let most = track.most in
    let least = track.least in
    record {
      goes = steps_on step pace is_pace first statements events shown slots frame callers next track.goes does;
      least = omega (arith, least);
      most = omega (arith, adds, most);
      trail = trail_on step unit_at first units events shown seen slots frame callers next track.trail does mark new;
    }

most_since : (pace : Pace) (ir : Ir) (units statements : ℕ) (seen : Passed) (f p : ℕ) (g : FlatFn) → slice_get ir.functions f ≡ Some g → p ≤ length g.code → (units ≡ 0 → seen f p ≡ false) → statements ≤ complete units * paced_size pace ir + passed pace seen ir → statements + pace f p ≤ complete (suc units) * paced_size pace ir + passed pace (since units seen f p) ir
most_since pace ir zero statements seen f p g at within new most =
    let adds = passed_with pace seen ir f p g at within (new refl) in omega (arith, adds, most)
most_since pace ir (suc units) statements seen f p g at within new most =
    let adds = passed_with pace none_passed ir f p g at within refl in
    let all = passed_le pace seen ir in
    let product = suc-mul units (paced_size pace ir) in
    omega (arith, adds, most, all, product)

-- a step that begins a unit; what was passed before counts where it is the first one
pub begins_unit : (step : Config → Ran Event) (unit_at : Frame → Bool) (pace : Pace) (ir : Ir) → IsPace pace → (first : Config) (units statements : ℕ) (events shown : List Event) (seen : Passed) (slots : List Cells) (frame : Frame) (callers : List Frame) (next : Config) → Track step unit_at pace ir first units statements events seen (Running slots frame callers) → Stands ir frame → unit_at frame ≡ true → (units ≡ 0 → seen frame.function frame.place ≡ false) → step (Running slots frame callers) ≡ record { events = shown; config = next } → Track step unit_at pace ir first (suc units) (statements + pace frame.function frame.place) (events ++ shown) (since units seen frame.function frame.place) next
begins_unit step unit_at pace ir is_pace first units statements events shown seen slots frame callers next track stands mark new does =
    let least = track.least in
    let some = is_pace frame.function frame.place in
    record {
      goes = steps_on step pace is_pace first statements events shown slots frame callers next track.goes does;
      least = omega (arith, least, some);
      most = most_since pace ir units statements seen frame.function frame.place stands.function stands.at stands.within new track.most;
      trail = trail_begins step unit_at first units events shown seen slots frame callers next track.trail does mark new;
    }

-- ---- what is enough

enough : (units n statements size shown : ℕ) → statements ≤ complete units * size + shown → shown ≤ size → units ≤ n → 1 ≤ n → statements ≤ n * (size + 1)
enough zero n statements size shown most all le some =
    let one = mul-le-mul_right (size + 1) some in omega (arith, most, all, one)
enough (suc units) n statements size shown most all le some =
    let product = suc-mul units size in
    let here = mul-le-mul_right (size + 1) le in
    let wide = suc-mul units (size + 1) in
    let inner = mul_plus units size in
    omega (arith, most, all, product, here, wide, inner)
  where
    mul_plus : (a b : ℕ) → a * (b + 1) ≡ a * b + a
    mul_plus a b = omega (arith)

plus_zero : (n : ℕ) → n ≡ n + 0
plus_zero n = omega (arith)

-- where a run has come to
comes_to : (step : Config → Ran Event) (unit_at : Frame → Bool) (pace : Pace) (ir : Ir) (first : Config) (units statements : ℕ) (events : List Event) (seen : Passed) (now : Config) → Track step unit_at pace ir first units statements events seen now → exec_paced pace step statements 0 first ≡ record { events = events; config = now }
comes_to step unit_at pace ir first units statements events seen now track =
    ap (λ n. exec_paced pace step n 0 first) (plus_zero statements) ∙ track.goes 0
    ∙ ap (λ es. record { events = es; config = now }) (append-nil events)

-- a run that is over, within the units that it took
pub ends : (machine : Machine) (unit_at : Frame → Bool) (pace : Pace) (ir : Ir) (first : Config) (units statements n : ℕ) (events : List Event) (seen : Passed) (slots : List Cells) → Track machine.step unit_at pace ir first units statements events seen (Over slots) → units ≤ n → Ended machine pace (paced_size pace ir) first n events slots
ends machine unit_at pace ir first units statements n events seen slots track le = record {
  statements = statements;
  goes = comes_to machine.step unit_at pace ir first units statements events seen (Over slots) track;
  most = λ some. enough units n statements (paced_size pace ir) (passed pace seen ir) track.most (passed_le pace seen ir) le some;
}

-- a run that has taken all its units
pub runs_on : (machine : Machine) (unit_at : Frame → Bool) (pace : Pace) (ir : Ir) (first : Config) (units statements n : ℕ) (events : List Event) (seen : Passed) (slots : List Cells) (frame : Frame) (callers : List Frame) → Track machine.step unit_at pace ir first units statements events seen (Running slots frame callers) → units ≡ n → RunsOn machine pace (paced_size pace ir) first n events
runs_on machine unit_at pace ir first units statements n events seen slots frame callers track e =
    let least = track.least in
    let le : units ≤ n = omega (arith, e) in
    record {
      statements = statements;
      slots = slots;
      frame = frame;
      callers = callers;
      goes = comes_to machine.step unit_at pace ir first units statements events seen (Running slots frame callers) track;
      least = omega (arith, least, e);
      most = λ some. enough units n statements (paced_size pace ir) (passed pace seen ir) track.most (passed_le pace seen ir) le some;
    }
