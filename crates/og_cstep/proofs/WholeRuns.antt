-- What is seen of a machine is what the program shows.
use Rattle.std.proofs.Common.{◌≡◌, ℕ, zero, suc, ◌+◌, ◌≤◌, List, [], ◌∷◌, ◌++◌, false, Option, Some, None, drop, slice_get, refl, sym, ap, ◌∙◌, arith, append_assoc}
use Rattle.std.proofs.lemmas.List.{append-nil}
use Rattle.std.proofs.lemmas.Bool.{false≢true}
use Rattle.og_model.specs.declared.Model.{Model}
use Rattle.og_types.specs.declared.Value.{Value}
use Rattle.og_model.specs.declared.StimId.TheVariants.{Signal}
use Rattle.og_model.specs.Shown as shown
use Rattle.og_model.specs.Shown.{Shown, End, Rest, Fault, Stopped, Past, Stuck, Stimulus, is_past}
use Rattle.og_ir.specs.Arithmetic.{Trouble}
use Rattle.og_ir.specs.Cells.{Cells}
use Rattle.og_ir.specs.Steps.{Frame, Config, Running, Over, Broken, Ran, quiet, joined, exec}
use Rattle.og_csubset.specs.declared.CProgram.{CProgram}
use Rattle.og_csubset.specs.Interface.{Field, inputs_of, signal_function}
use Rattle.og_csubset.specs.Kinds.{place_in, function_names, global_names, first_globals}
use Rattle.og_csubset.specs.Reads.{end_of, inputs_set}
use Rattle.og_csubset.specs.Run.{goes_on, shown_by, runs, all_stimuli, entered, c, c_machine}
use Rattle.og_cstatement.specs.Links.{step_of, cells_after}
use Rattle.og_cstep.specs.declared.Advance.{Advance}
use Rattle.og_cstep.specs.declared.Advance.TheVariants as advance
use Rattle.og_cstep.specs.Answered.{id_of, answer_by, answer_at_end}
use Rattle.og_cstep.specs.Machines.{Run, begins, put_field, with_cells, loaded}
use Rattle.og_cstep.specs.WholeRuns.{Seen, seen_by, seen, with_inputs, given, seen_over}
use Rattle.og_cstep.proofs.Endings.{never_past}

abbrev at : CProgram → Model → List Cells → Config → Option Advance → Run
at P M cells config last = record { program = P; model = M; cells = cells; config = config; last = last }

-- what is seen of a stimulus behind these events, and then of further ones
abbrev listed : List shown.Event → (Run → List Shown) → Seen → List Shown
listed front more s = record { events = front ++ s.entry.events; end = s.entry.end } ∷ goes_on s.entry.end (more s.run) []

-- further stimuli go by the cells alone
abbrev Same : CProgram → Model → (Run → List Shown) → (List Cells → List Shown) → Type 0
Same P M more rest = (cells : List Cells) (config : Config) (last : Option Advance) → more (at P M cells config last) ≡ rest cells

-- after a step that did this
abbrev after : ℕ → CProgram → Model → List Cells → Ran shown.Event → Seen
after n P M cells r =
    let answer = answer_by (end_of M (global_names P)) r.events r.config in
    let now = at P M (cells_after cells r.config) r.config (Some answer) in
    seen_by answer r.events now (seen n now)

stays_over : (P : CProgram) (M : Model) (n : ℕ) (globals : List Cells) → exec (step_of P M) n (Over globals) ≡ quiet (Over globals)
stays_over P M zero globals = refl
stays_over P M (suc n) globals = ap (joined []) (stays_over P M n globals)

stays_broken : (P : CProgram) (M : Model) (n : ℕ) (trouble : Trouble) → exec (step_of P M) n (Broken trouble) ≡ quiet (Broken trouble)
stays_broken P M zero trouble = refl
stays_broken P M (suc n) trouble = ap (joined []) (stays_broken P M n trouble)

none_behind : (front events : List shown.Event) → front ++ (events ++ []) ≡ front ++ events
none_behind front events = ap (λ l. front ++ l) (append-nil events)

abbrev ends : CProgram → Model → List Cells → End
ends P M = end_of M (global_names P)

-- an end that can be gone on with, and one that cannot
by_end : (n : ℕ) (P : CProgram) (M : Model) (g : List Cells) (front events : List shown.Event) (more : Run → List Shown) (rest : List Cells → List Shown) (e : End) (last : Option Advance)
    → Same P M more rest → e ≡ ends P M g → is_past e ≡ false
    → listed front more (seen_by (answer_at_end e) events (at P M g (Over g) last) (seen n (at P M g (Over g) last)))
    ≡ record { events = front ++ events; end = e } ∷ goes_on e (rest g) []
by_end n P M g front events more rest (Rest paths vs ts) last same is past =
    ap (λ (x : End). let s : Shown = record { events = front ++ events; end = x } in s ∷ goes_on x (more (at P M g (Over g) last)) []) (sym is)
    ∙ ap (λ (l : List Shown). record { events = front ++ events; end = Rest paths vs ts } ∷ l) (same g (Over g) last)
by_end n P M g front events more rest (Fault kind place vs ts) last same is past =
    ap (λ (x : End). let s : Shown = record { events = front ++ events; end = x } in s ∷ goes_on x (more (at P M g (Over g) last)) []) (sym is)
by_end n P M g front events more rest (Stopped vs) last same is past =
    ap (λ (x : End). let s : Shown = record { events = front ++ events; end = x } in s ∷ goes_on x (more (at P M g (Over g) last)) []) (sym is)
    ∙ ap (λ (l : List Shown). record { events = front ++ events; end = Stopped vs } ∷ l) (same g (Over g) last)
by_end n P M g front events more rest Past last same is past = absurd (false≢true (sym past))
by_end n P M g front events more rest (Stuck rule) last same is past = refl

-- what the program shows behind these events
abbrev shows : CProgram → Model → (List Cells → List Shown) → List shown.Event → Ran shown.Event → List Shown
shows P M rest front ran = shown_by (ends P M) rest (front ++ ran.events) ran.config

-- what is seen from a running function on, with so many statements
abbrev RunsOn : ℕ → CProgram → Model → (Run → List Shown) → (List Cells → List Shown) → Type 0
RunsOn n P M more rest =
    (g : List Cells) (f : Frame) (cs : List Frame) (last : Option Advance) (front : List shown.Event)
    → listed front more (seen n (at P M g (Running g f cs) last)) ≡ shows P M rest front (exec (step_of P M) n (Running g f cs))

after_is : (n : ℕ) (P : CProgram) (M : Model) (cells : List Cells) (front events : List shown.Event) (config : Config)
    (more : Run → List Shown) (rest : List Cells → List Shown) → Same P M more rest → RunsOn n P M more rest
    → listed front more (after n P M cells (record { events = events; config = config })) ≡ shows P M rest front (joined events (exec (step_of P M) n config))
after_is n P M cells front events (Over g) more rest same on =
    by_end n P M g front events more rest (ends P M g) (Some (answer_at_end (ends P M g))) same refl (never_past M (global_names P) g)
    ∙ ap (λ (l : List shown.Event). shown_by (ends P M) rest l (Over g)) (sym (none_behind front events))
    ∙ ap (λ (ran : Ran shown.Event). shows P M rest front (joined events ran)) (sym (stays_over P M n g))
after_is n P M cells front events (Broken trouble) more rest same on =
    ap (λ (l : List shown.Event). shown_by (ends P M) rest l (Broken trouble)) (sym (none_behind front events))
    ∙ ap (λ (ran : Ran shown.Event). shows P M rest front (joined events ran)) (sym (stays_broken P M n trouble))
after_is n P M cells front [] (Running g f cs) more rest same on = on g f cs (Some advance.Moved) front
after_is n P M cells front (e ∷ events) (Running g f cs) more rest same on =
    let s : Seen = seen n (at P M g (Running g f cs) (Some (advance.Event (id_of e)))) in
    let ran = exec (step_of P M) n (Running g f cs) in
    ap (λ (l : List shown.Event). let x : Shown = record { events = l; end = s.entry.end } in x ∷ goes_on s.entry.end (more s.run) [])
    (sym (append_assoc front (e ∷ events) s.entry.events))
    ∙ on g f cs (Some (advance.Event (id_of e))) (front ++ (e ∷ events))
    ∙ ap (λ (l : List shown.Event). shown_by (ends P M) rest l ran.config) (append_assoc front (e ∷ events) ran.events)

running_is : (n : ℕ) (P : CProgram) (M : Model) (more : Run → List Shown) (rest : List Cells → List Shown) → Same P M more rest → RunsOn n P M more rest
running_is zero P M more rest same g f cs last front = refl
running_is (suc n) P M more rest same g f cs last front =
    after_is n P M g front (step_of P M (Running g f cs)).events (step_of P M (Running g f cs)).config more rest same (running_is n P M more rest same)

-- ---- a stimulus is given

none_set : (P : CProgram) (M : Model) (fields : List Field) (cells : List Cells) → inputs_set M (global_names P) fields [] cells ≡ cells
none_set P M [] cells = refl
none_set P M (f ∷ fields) cells = refl

-- the parameter of one number, and then those behind it
one_set : (P : CProgram) (M : Model) (fields : List Field) (i : ℕ) (v : Value) (values : List Value) (cells : List Cells) (config : Config) (last : Option Advance)
    → inputs_set M (global_names P) (drop i fields) (v ∷ values) cells ≡ inputs_set M (global_names P) (drop (suc i) fields) values (put_field (at P M cells config last) (slice_get fields i) v)
one_set P M [] zero v values cells config last = refl
one_set P M [] (suc i) v values cells config last = refl
one_set P M (f ∷ fields) zero v values cells config last = refl
one_set P M (f ∷ fields) (suc i) v values cells config last = one_set P M fields i v values cells config last

plus_one : (i : ℕ) → i + 1 ≡ suc i
plus_one i = omega (arith)

all_set : (P : CProgram) (M : Model) (k i : ℕ) (values : List Value) (cells : List Cells) (config : Config) (last : Option Advance)
    → (later : Config) × (with_inputs k i values (at P M cells config last) ≡ at P M (inputs_set M (global_names P) (drop i (inputs_of M k)) values cells) later last)
all_set P M k i [] cells config last = (config, ap (λ cs. at P M cs config last) (sym (none_set P M (drop i (inputs_of M k)) cells)))
all_set P M k i (v ∷ values) cells config last =
    let new = put_field (at P M cells config last) (slice_get (inputs_of M k) i) v in
    let more = all_set P M k (i + 1) values new (with_cells new config) last in (
      more.0,
      more.1
          ∙ ap (λ n. at P M (inputs_set M (global_names P) (drop n (inputs_of M k)) values new) more.0 last) (plus_one i)
          ∙ ap (λ cs. at P M cs more.0 last) (sym (one_set P M (inputs_of M k) i v values cells config last)),
    )

-- so the run begins as that of the program
given_is : (P : CProgram) (M : Model) (x : Option Stimulus) (cells : List Cells) (config : Config) (last : Option Advance)
    → (set : List Cells) × (given x (at P M cells config last) ≡ at P M set ((c_machine P M).begin x cells) last)
given_is P M None cells config last = (cells, refl)
given_is P M (Some (shown.Signal k values)) cells config last =
    let set = inputs_set M (global_names P) (inputs_of M k) values cells in
    let all = all_set P M k 0 values cells config last in (
      set,
      ap (begins (Signal k)) all.1
          ∙ ap (λ cs. at P M set (entered (place_in (signal_function M k) (function_names P)) cs) last) (none_set P M (inputs_of M k) set),
    )
given_is P M (Some (shown.Expiry k)) cells config last = (cells, refl)

-- ---- all stimuli

over_is : (n : ℕ) (xs : List (Option Stimulus)) (P : CProgram) (M : Model) (cells : List Cells) (config : Config) (last : Option Advance)
    → seen_over (suc n) xs (at P M cells config last) ≡ runs (c_machine P M) (suc n) xs cells
over_is n [] P M cells config last = refl
over_is n (x ∷ xs) P M cells config last =
    let begun = (c_machine P M).begin x cells in
    let is = given_is P M x cells config last in
    let more = seen_over (suc n) xs in
    let rest = runs (c_machine P M) (suc n) xs in
    ap (λ (run : Run). listed [] more (seen (suc n) run)) is.1
    ∙ after_is n P M is.0 [] (step_of P M begun).events (step_of P M begun).config more rest (over_is n xs P M) (running_is n P M more rest (over_is n xs P M))

pub seen_is : (steps : ℕ) (xs : List (Option Stimulus)) (P : CProgram) (M : Model) (cells : List Cells) (config : Config) (last : Option Advance) → 1 ≤ steps
    → seen_over steps xs (at P M cells config last) ≡ runs (c_machine P M) steps xs cells
seen_is zero xs P M cells config last le = absurd (omega (arith, le))
seen_is (suc n) xs P M cells config last le = over_is n xs P M cells config last

pub whole_is : (steps : ℕ) (stimuli : List Stimulus) (P : CProgram) (M : Model) → 1 ≤ steps
    → seen_over steps (all_stimuli stimuli) (loaded P M) ≡ c P M stimuli steps
unfolding c
whole_is steps stimuli P M le = seen_is steps (all_stimuli stimuli) P M (first_globals P) (Over (first_globals P)) None le
