use Rattle.std.proofs.Common.{sym, ap, ◌∙◌}
use Rattle.std.specs.List.{list_all}
use Rattle.og_csubset.specs.Kinds.{is_in}
use Rattle.og_csubset.specs.Loading.{has_twice, targets_of}
use Rattle.og_cload.specs.Names.{names_in}
use Rattle.og_cload.proofs.Labelled.{labels_end}
use Rattle.og_cload.proofs.labels.has_labels.Goals as goal

pub returns : goal.returns
returns c =
    labels_end c.args.function.now c.as_slice-body.result.now (names_in c.in_ok-labels.labels.items) c.has_targets.result c.repeats_case.result
    c.as_slice-body.ensures c.in_ok-labels.ensures
    (ap (λ l. has_twice (names_in l)) (sym c.as_slice.ensures.value) ∙ sym c.has_twice.ensures ∙ c.if-has_twice.false)
    (c.has_targets.ensures ∙ ap (λ l. list_all (λ s. list_all (λ label. is_in label (names_in l)) (targets_of s)) c.as_slice-body.result.now) c.as_slice-2.ensures.value)
    c.if-not-has_targets.false c.repeats_case.ensures
