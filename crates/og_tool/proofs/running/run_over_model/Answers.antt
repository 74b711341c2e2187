use Rattle.std.proofs.Common.{rules, ◌≡◌, List, ℕ, Ok, subst}
use Rattle.og_base.specs.Store.{HoldsMore}
use Rattle.og_tool.specs.declared.program.ProgramError.{ProgramError}
use Rattle.og_words.specs.Asked.{texts}
use Rattle.og_tool.specs.Answers.{limit, RoseAt}
use Rattle.og_tool.specs.Loading.{IsLoaded, TellsProgram}
use Rattle.og_tool.specs.Programs.{IsBadFor, bad_program_line}
use Rattle.og_tool.proofs.RunningParts.{run_output, many_stimuli, large_program, bad_output, failed_at_program, failed_at_stimuli}
use Rattle.og_tool.proofs.running.run_over_model.Goals as goal

pub returns-in-Ok-clause-output : goal.returns-in-Ok-clause-output
returns-in-Ok-clause-output g c =
    let P : List ℕ → Type 0 = λ bytes. IsLoaded c.args.model.now bytes c.in-Ok.loaded in
    run_output (g.S.Store.holds c.args.store.now) _ (texts c.args.files.now) c.args.program.now c.args.stimuli.now c.in_ok-bytes.bytes.items c.args.steps c.args.model.now c.in-Ok.loaded c.run_loaded.result
    c.in_ok-bytes.ensures.kept c.requires.has_model (record { holds = c.in_ok-bytes.ensures.whole; small = c.in_ok-bytes.ensures.small })
    (subst P c.deref.ensures.value c.in-Ok.ensures.loads) c.run_loaded.ensures.output

pub returns-in-Ok-clause-too_large : goal.returns-in-Ok-clause-too_large
returns-in-Ok-clause-too_large g c = λ e.
    let P : List ℕ → Type 0 = λ bytes. IsLoaded c.args.model.now bytes c.in-Ok.loaded in
    many_stimuli (g.S.Store.holds c.args.store.now) _ (texts c.args.files.now) c.args.program.now c.args.stimuli.now c.in_ok-bytes.bytes.items c.args.steps c.args.model.now c.in-Ok.loaded
    c.in_ok-bytes.ensures.kept c.requires.has_model (record { holds = c.in_ok-bytes.ensures.whole; small = c.in_ok-bytes.ensures.small })
    (subst P c.deref.ensures.value c.in-Ok.ensures.loads) (c.run_loaded.ensures.too_large e)

pub returns-clause-output : goal.returns-clause-output
returns-clause-output g c =
    let P : ProgramError → Type 0 = λ error. TellsProgram c.args.model.now c.deref.result.now error in
    let Q : List ℕ → Type 0 = λ bytes. IsBadFor c.args.model.now bytes c.in_ok-bad-in-Err.bad in
    let L : List ℕ → Type 0 = λ name. c.in_ok-output-in-Err.output.text.items ≡ bad_program_line name c.in_ok-bad-in-Err.bad in
    bad_output (g.S.Store.holds c.args.store.now) (texts c.args.files.now) c.args.program.now c.args.stimuli.now c.in_ok-bytes.bytes.items c.args.steps c.args.model.now c.in_ok-bad-in-Err.bad (Ok c.in_ok-output-in-Err.output)
    c.requires.has_model (record { holds = c.in_ok-bytes.ensures.whole; small = c.in_ok-bytes.ensures.small })
    (subst Q c.deref.ensures.value (subst P c.in_ok-bad-in-Err.ensures.bad c.in-Err.ensures.bad))
    c.in_ok-output-in-Err.ensures.status (subst L c.as_bytes.ensures.value c.in_ok-output-in-Err.ensures.line)

pub returns-in_err-bytes-clause-too_large : goal.returns-in_err-bytes-clause-too_large
returns-in_err-bytes-clause-too_large g c = λ e.
    let more : HoldsMore (g.S.Store.holds c.args.store.now) c.args.program.now limit = search rules in
    large_program (g.S.Store.holds c.args.store.now) (texts c.args.files.now) c.args.program.now c.args.stimuli.now c.args.steps c.args.model.now c.requires.has_model more

pub returns-in-Ok-clause-fault : goal.returns-in-Ok-clause-fault
returns-in-Ok-clause-fault g c = λ e.
    let P : List ℕ → Type 0 = λ bytes. IsLoaded c.args.model.now bytes c.in-Ok.loaded in
    failed_at_stimuli (g.S.Store.holds c.args.store.now) (texts c.args.files.now) c.args.program.now c.args.stimuli.now c.in_ok-bytes.bytes.items c.args.steps c.args.model.now c.in-Ok.loaded
    (g.S.Store.faults c.args.store.now) (g.S.Store.faults c.read_all.new.store) (g.S.Store.faults c.run_loaded.new.store)
    c.requires.has_model (record { holds = c.in_ok-bytes.ensures.whole; small = c.in_ok-bytes.ensures.small })
    (subst P c.deref.ensures.value c.in-Ok.ensures.loads) c.read_all.ensures.counts (c.run_loaded.ensures.fault e)

pub returns-in_err-bytes-clause-fault : goal.returns-in_err-bytes-clause-fault
returns-in_err-bytes-clause-fault g c = λ e.
    let rose : RoseAt c.args.program.now (g.S.Store.faults c.args.store.now) (g.S.Store.faults c.read_all.new.store) = search rules in
    failed_at_program (g.S.Store.holds c.args.store.now) (texts c.args.files.now) c.args.program.now c.args.stimuli.now c.args.steps c.args.model.now
    (g.S.Store.faults c.args.store.now) (g.S.Store.faults c.read_all.new.store) c.requires.has_model rose
