use Rattle.std.proofs.Common.{subst}
use Rattle.og_tool.specs.declared.program.ProgramError.{ProgramError}
use Rattle.og_tool.specs.Loading.{TellsProgram}
use Rattle.og_tool.proofs.ProgramParts.{never_bad, agrees_so}
use Rattle.og_tool.proofs.program.load_compiled.Goals as goal

pub unreachable-requires : goal.unreachable-requires
unreachable-requires c =
    let P : ProgramError → Type 0 = λ error. TellsProgram c.args.model.now c.args.text.now error in
    never_bad c.one_program.ensures c.one_answer.ensures.not_spelt_and_deep c.one_answer.ensures.not_spelt_and_bad c.args.model.now c.args.text.now c.requires c.in-Err-Bad.field-0-0
    (subst P c.in-Err-Bad.field-0-is c.in-Err-Bad.ensures.bad)

pub returns-in-Ok : goal.returns-in-Ok
returns-in-Ok c = agrees_so c.one_program.ensures c.args.model.now c.args.text.now c.in-Ok.loaded c.requires c.in-Ok.ensures.loads
