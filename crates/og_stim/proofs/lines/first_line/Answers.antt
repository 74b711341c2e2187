use Rattle.std.proofs.Common.{◌∷◌, ◌+◌, drop, sym, ap, ◌∙◌}
use Rattle.og_stim.specs.Lines.{lines_of}
use Rattle.og_stim.proofs.Splitting.{whole_line, ended_line}
use Rattle.og_stim.proofs.lines.first_line.Goals as goal

pub returns-then-is_empty-clause-lines : goal.returns-then-is_empty-clause-lines
returns-then-is_empty-clause-lines c =
    whole_line c.args.text.now c.split_at.result.0.now c.split_at.result.1.now c.run_len-len.result c.requires c.run_len-len.ensures.found c.run_len-len.ensures.within c.split_at.ensures.front c.split_at.ensures.back (sym c.if-is_empty.ensures)

pub returns-clause-lines : goal.returns-clause-lines
returns-clause-lines c =
    ended_line c.args.text.now c.split_at.result.0.now c.split_at.result.1.now c.run_len-len.result c.requires c.run_len-len.ensures.found c.run_len-len.ensures.within c.split_at.ensures.front c.split_at.ensures.back (sym c.if-is_empty.ensures)
    ∙ ap (λ line. line ∷ lines_of (drop (c.run_len-len.result + 1) c.args.text.now)) (sym c.without_return.ensures)
