-- What each instruction of the code does to slots that stand for a process.
use Rattle.std.proofs.Common.{◌≡◌, ℕ, ◌+◌, ℤ, pos, not, if◌then◌else◌, List, [], ◌∷◌, ◌++◌, slice_get, slice_set, Some, Ok, refl, ap, ◌∙◌, arith}
use Rattle.og_model.specs.declared.Model.{Model}
use Rattle.og_model.specs.Shown.{Event}
use Rattle.og_model.specs.Units.{State}
use Rattle.og_ir.specs.declared.FlatFn.{FlatFn}
use Rattle.og_ir.specs.declared.Instr.{Instr}
use Rattle.og_ir.specs.declared.Instr.TheVariants as instr
use Rattle.og_ir.specs.declared.Flat.{out-roll-Flat}
use Rattle.og_ir.specs.declared.Flat.TheOpen as flat
use Rattle.og_ir.specs.declared.Case.{Case}
use Rattle.og_ir.specs.Cells.{Cells, Cell, number_in, part_at, global, change_global}
use Rattle.og_ir.specs.Arithmetic.{Index, ◌>>=◌, or_else, in_64_bits, is_same}
use Rattle.og_ir.specs.Steps.{Frame, Config, Running, Ran, quiet, with_value, onward, jumped}
use Rattle.og_ir.specs.FlatSteps.{Spot, walk, cells_at, put, value_by, value_of, case_of, act, fetched, flat_step}
use Rattle.og_ir.proofs.Depth.{value_is}
use Rattle.og_csubset.specs.FlatRun.{flat_event}
use Rattle.og_layout.specs.Layout.{Mark, Number, Leaf, Holds, numbers_of, region_numbers, held_number, StandsFor}
use Rattle.og_layout.specs.Named.{HasAll}
use Rattle.og_layout.proofs.Holding.{region_held, stopped_held, others_held}
use Rattle.og_layout.proofs.Written.{changed_here, region_stands, besides_stands}
use Rattle.og_flatten.specs.Slots.{control_of, layout_of}
use Rattle.og_flatten.specs.FlatCode.{code_of, slot, number, read, sets, region, is_stopped}
use Rattle.og_flatten.proofs.Layouts.{layout_differs, chosen_at}

-- ---- what is known of the slots

abbrev pub Holding : Type 1
Holding = State → List Cells → Type 0

-- they stand for the process with these active states
pub record StandsAs (M : Model) (mark : Mark) (s : State) (slots : List Cells) : Type 0 where
  pub stands : StandsFor M (layout_of M) mark s slots
  pub has : HasAll M s

-- and a body is chosen
pub record Chose (M : Model) (mark : Mark) (body : ℕ) (s : State) (slots : List Cells) : Type 0 where
  pub stands : StandsAs M mark s slots
  pub chosen : global (control_of M).chosen slots ≡ Some (Cell (pos body))

-- ---- steps

-- one step of the code of a model
abbrev pub step_of : Model → Config → Ran Event
step_of M = flat_step (flat_event M (code_of M)) in_64_bits (code_of M)

-- an instruction of the code of a model
abbrev pub acts : Model → List Cells → Frame → List Frame → Instr → Ran Event
acts M slots frame callers i = act (flat_event M (code_of M)) in_64_bits slots frame callers i

-- the step at a place is that of the instruction there
pub fetches : (M : Model) (slots : List Cells) (frame : Frame) (callers : List Frame) (g : FlatFn) (i : Instr) → slice_get (code_of M).functions frame.function ≡ Some g → slice_get g.code frame.place ≡ Some i → step_of M (Running slots frame callers) ≡ acts M slots frame callers i
fetches M slots frame callers g i at is =
    ap (λ o. with_value (or_else o Index) (λ f. fetched (flat_event M (code_of M)) in_64_bits slots frame callers (slice_get f.code frame.place))) at
    ∙ ap (fetched (flat_event M (code_of M)) in_64_bits slots frame callers) is

-- where an instruction leads to, and what is known of the slots then
pub record Led (L : Holding) (ran : Ran Event) (shown : List Event) (to : List Cells → Config) (s : State) : Type 0 where
  pub slots : List Cells
  pub does : ran ≡ record { events = shown; config = to slots }
  pub holds : L s slots

abbrev pub Leads : Model → Holding → Frame → List Frame → Instr → List Event → Holding → (List Cells → Config) → Type 0
Leads M K frame callers i shown L to = (s : State) (slots : List Cells) → K s slots → Led L (acts M slots frame callers i) shown to s

-- ---- numbers

value_of_number : (slots : List Cells) (n : ℤ) → value_of in_64_bits slots (number n) ≡ Ok n
value_of_number slots n =
    value_is in_64_bits slots (number n)
    ∙ ap (value_by (value_of in_64_bits slots) in_64_bits slots) (out-roll-Flat (flat.Number n))

value_of_slot : (slots : List Cells) (base : ℕ) (n : ℤ) → global base slots ≡ Some (Cell n) → value_of in_64_bits slots (read base) ≡ Ok n
value_of_slot slots base n at =
    value_is in_64_bits slots (read base)
    ∙ ap (value_by (value_of in_64_bits slots) in_64_bits slots) (out-roll-Flat (flat.Read (slot base)))
    ∙ ap (λ o. (or_else o Index >>= λ cells. walk (value_of in_64_bits slots) [] cells >>= λ path. Ok (record { base = base; path = path })) >>= λ (spot : Spot). cells_at slots spot >>= λ cells. or_else (number_in cells) Index) at
    ∙ ap (λ o. (or_else o Index >>= λ cells. or_else (part_at [] cells) Index) >>= λ cells. or_else (number_in cells) Index) at

-- a number is put into a slot that is there
sets_slot : (M : Model) (slots : List Cells) (base : ℕ) (n : ℤ) (old : Cells) (frame : Frame) (callers : List Frame) → global base slots ≡ Some old → acts M slots frame callers (sets base n) ≡ quiet (Running (change_global base (λ was. Cell n) slots) (onward frame) callers)
sets_slot M slots base n old frame callers at =
    ap (λ o. with_value (or_else o Index >>= λ cells. walk (value_of in_64_bits slots) [] cells >>= λ path. Ok (record { base = base; path = path })) (λ (spot : Spot). with_value (value_of in_64_bits slots (number n)) (λ z. quiet (Running (put slots spot (Cell z)) (onward frame) callers)))) at
    ∙ ap (λ v. with_value v (λ z. quiet (Running (put slots (record { base = base; path = [] }) (Cell z)) (onward frame) callers))) (value_of_number slots n)

-- ---- instructions

-- an instruction that leaves the slots as they are
pub same_slots : (M : Model) (K : Holding) (frame : Frame) (callers : List Frame) (i : Instr) (shown : List Event) (to : List Cells → Config) → ((slots : List Cells) → acts M slots frame callers i ≡ record { events = shown; config = to slots }) → Leads M K frame callers i shown K to
same_slots M K frame callers i shown to does s slots holds = record { slots = slots; does = does slots; holds = holds }

-- the number of the process's region is set
pub sets_region : (M : Model) (mark later : Mark) (n : Number) (z : ℤ) (frame : Frame) (callers : List Frame) → slice_set (region_numbers M mark) 0 n ≡ region_numbers M later → Holds M.types (held_number n) (Cell z)
    → Leads M (StandsAs M mark) frame callers (sets region z) [] (StandsAs M later) (λ slots. Running slots (onward frame) callers)
sets_region M mark later n z frame callers same holds s slots known =
    let old = region_held M (layout_of M) mark s slots known.stands 0 region (numbers_of M.root mark).leaf refl refl in
    record {
      slots = change_global region (λ was. Cell z) slots;
      does = sets_slot M slots region z old.cells frame callers old.there;
      holds = record {
        stands = region_stands M (layout_of M) mark later s slots (layout_differs M) known.stands 0 region (numbers_of M.root mark).leaf n (Cell z) refl refl same holds;
        has = known.has;
      };
    }

-- a body is chosen
pub sets_chosen : (M : Model) (mark : Mark) (body : ℕ) (frame : Frame) (callers : List Frame)
    → Leads M (StandsAs M mark) frame callers (sets (control_of M).chosen (pos body)) [] (Chose M mark body) (λ slots. Running slots (onward frame) callers)
sets_chosen M mark body frame callers s slots known =
    let k = (control_of M).chosen in
    let old = others_held M (layout_of M) mark s slots known.stands 3 k (chosen_at M) in
    record {
      slots = change_global k (λ was. Cell (pos body)) slots;
      does = sets_slot M slots k (pos body) old.cells frame callers old.there;
      holds = record {
        stands = record {
          stands = besides_stands M (layout_of M) mark s slots (layout_differs M) known.stands 3 k (Cell (pos body)) (chosen_at M);
          has = known.has;
        };
        chosen = changed_here k (λ was. Cell (pos body)) slots old.cells old.there;
      };
    }

-- a table over the chosen body
pub table_of_chosen : (M : Model) (mark : Mark) (body : ℕ) (frame : Frame) (callers : List Frame) (cases : List Case) (otherwise : ℕ)
    → Leads M (Chose M mark body) frame callers (instr.Table (read (control_of M).chosen) cases otherwise) [] (StandsAs M mark) (λ slots. Running slots (jumped frame (case_of (pos body) cases otherwise)) callers)
table_of_chosen M mark body frame callers cases otherwise s slots known = record {
  slots = slots;
  does = ap (λ v. with_value v (λ z. quiet (Running slots (jumped frame (case_of z cases otherwise)) callers))) (value_of_slot slots (control_of M).chosen (pos body) known.chosen);
  holds = known.stands;
}

-- a table over the active leaf of the process
pub table_of_region : (M : Model) (mark : Mark) (n : ℕ) (frame : Frame) (callers : List Frame) (cases : List Case) (otherwise : ℕ) → (numbers_of M.root mark).leaf ≡ Leaf n
    → Leads M (StandsAs M mark) frame callers (instr.Table (read region) cases otherwise) [] (StandsAs M mark) (λ slots. Running slots (jumped frame (case_of (pos n) cases otherwise)) callers)
table_of_region M mark n frame callers cases otherwise is s slots known =
    let held = region_held M (layout_of M) mark s slots known.stands 0 region (Leaf n) refl (ap Some is) in
    record {
      slots = slots;
      does = ap (λ v. with_value v (λ z. quiet (Running slots (jumped frame (case_of z cases otherwise)) callers))) (value_of_slot slots region (pos n) (held.there ∙ ap Some held.holds));
      holds = known;
    }

-- a process that has not stopped goes on
pub not_stopped : (M : Model) (mark : Mark) (frame : Frame) (callers : List Frame) (place : ℕ)
    → Leads M (StandsAs M mark) frame callers (instr.Branch (is_stopped (control_of M)) place) [] (StandsAs M mark) (λ slots. Running slots (onward frame) callers)
not_stopped M mark frame callers place s slots known =
    let held = stopped_held M (layout_of M) mark s slots known.stands in
    record {
      slots = slots;
      does = ap (λ v. with_value v (λ b. quiet (Running slots (if b then jumped frame place else onward frame) callers)))
          (ap (λ v. v >>= (λ a. value_of in_64_bits slots (number (pos 0)) >>= (λ b. Ok (not (is_same a b))))) (value_of_slot slots (control_of M).stopped (pos 0) (held.there ∙ ap Some held.holds))
          ∙ ap (λ v. v >>= (λ b. Ok (not (is_same (pos 0) b)))) (value_of_number slots (pos 0)));
      holds = known;
    }
