use Rattle.std.proofs.Common.{◌≡◌, ◌++◌, sym, subst}
use Rattle.std.specs.Prelude.{OnOk}
use Rattle.og_stim.proofs.Texts.{no_types, no_values, in_both}
use Rattle.og_stim.proofs.show.put_arguments.Goals as goal

pub returns-then-is_empty : goal.returns-then-is_empty
returns-then-is_empty c = no_types c.args.model.now c.args.sorts.now c.args.values.now c.args.out.now.items (sym c.if-is_empty.ensures)

pub returns-then-is_empty-2 : goal.returns-then-is_empty-2
returns-then-is_empty-2 c = no_values c.args.model.now c.args.sorts.now c.args.values.now c.args.out.now.items (sym c.if-is_empty-2.ensures)

pub returns : goal.returns
returns c =
    subst (λ bytes. OnOk c.put_bracketed.result (c.put_bracketed.new.out.items ≡ c.args.out.now.items ++ bytes))
    (in_both c.args.model.now c.args.sorts.now c.args.values.now (sym c.if-is_empty.ensures) (sym c.if-is_empty-2.ensures))
    c.put_bracketed.ensures
