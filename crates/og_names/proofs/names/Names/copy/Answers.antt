use Rattle.std.proofs.Common.{◌∙◌, refl, ap, map, subst, length}
use Rattle.std.proofs.lemmas.Option.{slice_get_read}
use Rattle.og_names.specs.Table.{IsTable}
use Rattle.og_names.proofs.Tables.{copied_more}
use Rattle.og_names.proofs.names.Names.copy.Goals as goal

pub loop-word-preserved : goal.loop-word-preserved
loop-word-preserved c =
    let words = c.as_slice-word-items.result.now in
    let at = c.loop-word.word-index in
    copied_more (λ word. word.items) c.args.self.now words c.loop-word.set.keys c.insert.new.self.keys at c.word-item.result c.in_ok-copied.copied (subst IsTable c.self.view_is c.self.invariant) (ap (map (λ word. word.items)) c.as_slice-word-items.ensures.keys ∙ c.self.view_is) c.loop-word.invariant (slice_get_read words (length words) at c.word-item.result refl c.loop-word-test.true c.word-item.is) (c.in_ok-copied.ensures.items ∙ c.as_slice.ensures.value) c.in_ok-insert.ensures.keys
