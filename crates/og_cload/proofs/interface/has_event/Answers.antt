use Rattle.std.proofs.Common.{sym, ap, ◌∙◌}
use Rattle.std.specs.List.{list_all}
use Rattle.og_csubset.specs.Kinds.{is_in}
use Rattle.og_cload.specs.Names.{names_in}
use Rattle.og_cload.specs.Fields.{fields_in, free_or_has}
use Rattle.og_cload.proofs.Declared.{event_undeclared}
use Rattle.og_cload.proofs.interface.has_event.Goals as goal

pub returns : goal.returns
returns c =
    event_undeclared c.args.program.now c.args.model.now c.args.event c.in_ok-name.name.bytes (names_in c.args.declared.now) (names_in c.args.all.now) c.args.sorts.now
    (fields_in c.in_ok-globals.globals.items) c.are_free_or_fit.result
    c.in_ok-name.ensures c.requires.declared c.requires.all c.requires.sorts c.in_ok-globals.ensures
    (ap (λ w. is_in w (names_in c.args.declared.now)) (sym c.as_slice.ensures) ∙ sym c.is_in.ensures ∙ c.if-is_in.false)
    (ap (λ w. is_in w (names_in c.args.all.now)) (sym c.as_slice-2.ensures) ∙ sym c.is_in-2.ensures ∙ c.if-is_in-2.false)
    (c.are_free_or_fit.ensures
    ∙ ap (λ fs. list_all (free_or_has c.args.program.now c.args.sorts.now (names_in c.args.all.now)) (fields_in fs)) c.as_slice-3.ensures.value)
