use Rattle.og_tool.proofs.Layers.{compiled_if}
use Rattle.og_tool.proofs.compile.compile.Goals as goal

pub returns : goal.returns
returns c =
    compiled_if (λ text. text.items) c.print_c.result c.args.model.now c.in_ok-ir.ir c.in_ok-program.program c.in_ok-ir.ensures.code c.in_ok-program.ensures c.print_c.ensures.spelt c.print_c.ensures.nests
