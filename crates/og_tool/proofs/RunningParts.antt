-- What a run over files that were read gives, where the store tells the same before and after a read.
use Rattle.std.proofs.Common.{◌≡◌, ℕ, ◌+◌, ◌-◌, ◌^◌, ◌≤◌, List, [], ◌∷◌, Option, Result, Ok, Err, sym, subst, inl, inr, arith}
use Rattle.std.proofs.Math.Nat.{min-le_left, min-le_right, le-min}
use Rattle.std.specs.Prelude.{IfOk, min}
use Rattle.og_base.specs.declared.read.ReadError.{ReadError}
use Rattle.og_base.specs.Store.{Files, HoldsMore, Rose}
use Rattle.og_model.specs.declared.Model.{Model}
use Rattle.og_csubset.specs.declared.CProgram.{CProgram}
use Rattle.og_cstep.specs.Machines.{run_of}
use Rattle.og_tool.specs.declared.program.BadProgram.{BadProgram}
use Rattle.og_tool.specs.declared.program.Loaded.{Loaded}
use Rattle.og_tool.specs.declared.running.Output.{Output}
use Rattle.og_tool.specs.declared.status.Status.TheVariants.{BadFile}
use Rattle.og_tool.specs.Answers.{limit, HasRead, HasModel, HasProgram, IsTrace, IsOutputFor, IsTooLargeFor, RoseAt, FailedAmong, FailedFor}
use Rattle.og_tool.specs.Loading.{IsLoaded, Agrees}
use Rattle.og_tool.specs.Programs.{IsBadFor, bad_program_line}
use Rattle.og_words.specs.Words.{Command, Check, Compile, Run, Simulate}
use Rattle.og_tool.proofs.ProgramParts.{its_program}

-- the program of a loaded machine is the one that the file spells
has_program : (told : Option Files) (code bytes : List ℕ) (model : Model) (machine : Loaded) → HasRead told code bytes → IsLoaded model bytes machine
    → HasProgram told code model (run_of machine.machine).program
has_program told code bytes model machine read is =
    subst (HasProgram told code model) (its_program is.program model machine is.loaded_with.runs)
    (record { bytes = bytes; read = read; text = is.text; loads = is.loaded_with.loads })

pub run_output : (told later : Option Files) (names : List (List ℕ)) (code stimuli bytes : List ℕ) (steps : ℕ) (model : Model) (machine : Loaded) (result : Result Output ReadError)
    → later ≡ told → HasModel told names model → HasRead told code bytes → IsLoaded model bytes machine
    → IfOk result (λ output. IsTrace later model (run_of machine.machine).program names stimuli steps output.status output.text.items)
    → IfOk result (λ output. IsOutputFor told (Run names code stimuli steps) output.status output.text.items)
run_output told later names code stimuli bytes steps model machine (Ok output) same has read is trace =
    let P : Option Files → Type 0 = λ t. IsTrace t model (run_of machine.machine).program names stimuli steps output.status output.text.items in
    inr (inr (record {
      model = model;
      has_model = has;
      program = (run_of machine.machine).program;
      has_program = has_program told code bytes model machine read is;
      traces = subst P same trace;
    }))
run_output told later names code stimuli bytes steps model machine (Err error) same has read is trace = _

pub many_stimuli : (told later : Option Files) (names : List (List ℕ)) (code stimuli bytes : List ℕ) (steps : ℕ) (model : Model) (machine : Loaded)
    → later ≡ told → HasModel told names model → HasRead told code bytes → IsLoaded model bytes machine → HoldsMore later stimuli limit
    → IsTooLargeFor told (Run names code stimuli steps)
many_stimuli told later names code stimuli bytes steps model machine same has read is more =
    let P : Option Files → Type 0 = λ t. HoldsMore t stimuli limit in
    inr (inr (model, has, ((run_of machine.machine).program, has_program told code bytes model machine read is), subst P same more))

pub large_program : (told : Option Files) (names : List (List ℕ)) (code stimuli : List ℕ) (steps : ℕ) (model : Model) → HasModel told names model → HoldsMore told code limit
    → IsTooLargeFor told (Run names code stimuli steps)
large_program told names code stimuli steps model has more = inr (inl (model, has, more))

pub bad_output : (told : Option Files) (names : List (List ℕ)) (code stimuli bytes : List ℕ) (steps : ℕ) (model : Model) (bad : BadProgram) (result : Result Output ReadError)
    → HasModel told names model → HasRead told code bytes → IsBadFor model bytes bad
    → IfOk result (λ output. output.status ≡ BadFile) → IfOk result (λ output. output.text.items ≡ bad_program_line code bad)
    → IfOk result (λ output. IsOutputFor told (Run names code stimuli steps) output.status output.text.items)
bad_output told names code stimuli bytes steps model bad (Ok output) has read wrong status line =
    inr (inl (record { model = model; has_model = has; bytes = bytes; read = read; wrong = bad; bad = wrong; is = line; bad_file = status }))
bad_output told names code stimuli bytes steps model bad (Err error) has read wrong status line = _

pub simulation_output : (told : Option Files) (names : List (List ℕ)) (stimuli : List ℕ) (steps : ℕ) (model : Model) (machine : Loaded) (result : Result Output ReadError)
    → HasModel told names model → Agrees model machine
    → IfOk result (λ output. IsTrace told model (run_of machine.machine).program names stimuli steps output.status output.text.items)
    → IfOk result (λ output. IsOutputFor told (Simulate names stimuli steps) output.status output.text.items)
simulation_output told names stimuli steps model machine (Ok output) has agrees trace =
    let P : CProgram → Type 0 = λ program. IsTrace told model program names stimuli steps output.status output.text.items in
    inr (record {
      model = model;
      has_model = has;
      program = agrees.program;
      agrees = agrees.agrees;
      traces = subst P (sym (its_program agrees.program model machine agrees.runs)) trace;
    })
simulation_output told names stimuli steps model machine (Err error) has agrees trace = _

pub too_large_before : (told later : Option Files) (P : Option Files → Type 0) → later ≡ told → P later → P told
too_large_before told later P same fact = subst P same fact

-- ---- whose reading failed

-- a count that rose from a later number rose from an earlier one
rose_over : (most old between new : ℕ) → old ≤ between → min (between + 1) most ≤ new → min (old + 1) most ≤ new
rose_over most old between new no_less rose =
    let low : min (old + 1) most ≤ old + 1 = min-le_left (old + 1) most in
    let top : min (old + 1) most ≤ most = min-le_right (old + 1) most in
    let over : min (old + 1) most ≤ min (between + 1) most = le-min (omega (arith, low, no_less)) top in
    omega (arith, over, rose)

pub rose_before : (old between new : ℕ) → old ≤ between → Rose between new → Rose old new
rose_before old between new no_less rose = rose_over (2 ^ 64 - 1) old between new no_less rose

among_before : (told : Option Files) (names : List (List ℕ)) (old between new : List ℕ → ℕ) → ((file : List ℕ) → old file ≤ between file) → FailedAmong told names between new → FailedAmong told names old new
among_before told [] old between new no_less failed = failed
among_before told (name ∷ names) old between new no_less (inl rose) = inl (rose_before (old name) (between name) (new name) (no_less name) rose)
among_before told (name ∷ names) old between new no_less (inr later) = inr (later.0, among_before told names old between new no_less later.1)

counts_before : (told : Option Files) (command : Command) (old between new : List ℕ → ℕ) → ((file : List ℕ) → old file ≤ between file) → FailedFor told command between new → FailedFor told command old new
counts_before told (Check names) old between new no_less failed = among_before told names old between new no_less failed
counts_before told (Compile names) old between new no_less failed = among_before told names old between new no_less failed
counts_before told (Run names code stimuli steps) old between new no_less (inl failed) = inl (among_before told names old between new no_less failed)
counts_before told (Run names code stimuli steps) old between new no_less (inr (inl failed)) =
    inr (inl (failed.0, failed.1, rose_before (old code) (between code) (new code) (no_less code) failed.2))
counts_before told (Run names code stimuli steps) old between new no_less (inr (inr failed)) =
    inr (inr (failed.0, failed.1, failed.2, rose_before (old stimuli) (between stimuli) (new stimuli) (no_less stimuli) failed.3))
counts_before told (Simulate names stimuli steps) old between new no_less (inl failed) = inl (among_before told names old between new no_less failed)
counts_before told (Simulate names stimuli steps) old between new no_less (inr failed) =
    inr (failed.0, failed.1, rose_before (old stimuli) (between stimuli) (new stimuli) (no_less stimuli) failed.2)

-- what failed behind a read failed in the whole call
pub failed_before : (told later : Option Files) (command : Command) (old between new : List ℕ → ℕ) → later ≡ told → ((file : List ℕ) → old file ≤ between file)
    → FailedFor later command between new → FailedFor told command old new
failed_before told later command old between new same no_less failed =
    let P : Option Files → Type 0 = λ t. FailedFor t command between new in
    counts_before told command old between new no_less (subst P same failed)

pub failed_at_program : (told : Option Files) (names : List (List ℕ)) (code stimuli : List ℕ) (steps : ℕ) (model : Model) (old new : List ℕ → ℕ) → HasModel told names model → RoseAt code old new
    → FailedFor told (Run names code stimuli steps) old new
failed_at_program told names code stimuli steps model old new has rose = inr (inl (model, has, rose))

pub failed_at_stimuli : (told : Option Files) (names : List (List ℕ)) (code stimuli bytes : List ℕ) (steps : ℕ) (model : Model) (machine : Loaded) (old between new : List ℕ → ℕ)
    → HasModel told names model → HasRead told code bytes → IsLoaded model bytes machine → ((name : List ℕ) → old name ≤ between name) → RoseAt stimuli between new
    → FailedFor told (Run names code stimuli steps) old new
failed_at_stimuli told names code stimuli bytes steps model machine old between new has read is no_less rose =
    let rises : RoseAt stimuli old new = rose_before (old stimuli) (between stimuli) (new stimuli) (no_less stimuli) rose in
    inr (inr (model, has, ((run_of machine.machine).program, has_program told code bytes model machine read is), rises))
