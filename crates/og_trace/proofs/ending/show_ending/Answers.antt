use Rattle.std.proofs.Common.{◌++◌, sym, ap, ◌∙◌, arith}
use Rattle.og_cstep.specs.Machines.{run_of}
use Rattle.og_stim.specs.Trace.{end_lines}
use Rattle.og_stim.specs.Trace.{end_of as end_told}
use Rattle.og_trace.proofs.Rests.{seen_lines, one_region}
use Rattle.og_trace.proofs.ending.show_ending.Goals as goal

pub end_of-requires : goal.end_of-requires
end_of-requires c =
    let one = one_region c.args.model.now c.requires.plain.states c.as_slice.result.now (c.as_slice.ensures ∙ c.requires.regions) in omega (arith, one)

pub returns : goal.returns
returns c =
    c.in_ok-show_end.ensures
    ∙ ap (λ bytes. c.args.out.now.items ++ bytes)
    (ap (λ rs. end_lines c.args.model.now c.args.files.now (end_told rs c.in_ok-end.end)) (sym c.as_slice.ensures)
    ∙ ap (end_lines c.args.model.now c.args.files.now) c.in_ok-end.ensures
    ∙ seen_lines c.args.model.now c.args.files.now (run_of c.args.machine.now) c.as_slice.result.now c.args.answer c.requires.model (c.as_slice.ensures ∙ c.requires.regions)
    c.requires.plain.no_timers c.requires.plain.no_variables c.requires.over c.requires.answer)
