use Rattle.std.proofs.Common.{rules, arith, ◌∙◌, sym, ap, subst, string_bytes}
use Rattle.og_base.specs.Store.{Files, Holds, HoldsMore}
use Rattle.std.specs.Prelude.{Option}
use Rattle.og_judge.specs.Judging.{sources}
use Rattle.og_tool.specs.Answers.{limit, HasRead, RoseAt}
use Rattle.og_words.proofs.CommandForms.{each_at}
use Rattle.og_words.specs.Words.{IsModelFile}
use Rattle.og_tool.proofs.ReadingParts.{next_read, failed_here, large_here}
use Rattle.og_tool.proofs.reading.read_files.Goals as goal

pub returns-in_err-bytes-clause-fault : goal.returns-in_err-bytes-clause-fault
returns-in_err-bytes-clause-fault g c = λ e.
    let rose : RoseAt c.as_str-file.result.now (g.S.Store.faults c.loop-name.store) (g.S.Store.faults c.read_all.new.store) = search rules in
    failed_here (g.S.Store.holds c.args.store.now) c.args.names.now c.loop-name.name-index c.name-item.result c.as_str-file.result.now (sources c.loop-name.contents.items)
    (g.S.Store.faults c.args.store.now) (g.S.Store.faults c.loop-name.store) (g.S.Store.faults c.read_all.new.store)
    c.loop-name-test.true (c.as_str-file.ensures.value ∙ ap string_bytes c.name-item.is) c.loop-name.invariant.counts c.loop-name.invariant.so_far rose

pub returns-in_err-bytes-clause-too_large : goal.returns-in_err-bytes-clause-too_large
returns-in_err-bytes-clause-too_large g c = λ e.
    let large : HoldsMore (g.S.Store.holds c.loop-name.store) c.as_str-file.result.now limit = search rules in
    let P : Option Files → Type 0 = λ told. HoldsMore told c.as_str-file.result.now limit in
    large_here (g.S.Store.holds c.args.store.now) c.args.names.now c.loop-name.name-index c.name-item.result c.as_str-file.result.now (sources c.loop-name.contents.items)
    c.loop-name-test.true (c.as_str-file.ensures.value ∙ ap string_bytes c.name-item.is) c.loop-name.invariant.so_far (subst P c.loop-name.invariant.kept large)

pub loop-name-preserved : goal.loop-name-preserved
loop-name-preserved g c =
    let P : Option Files → Type 0 = λ told. Holds told c.as_str-file.result.now c.in_ok-bytes.bytes.items in
    let read : HasRead (g.S.Store.holds c.args.store.now) c.as_str-file.result.now c.in_ok-bytes.bytes.items = record { holds = subst P c.loop-name.invariant.kept c.in_ok-bytes.ensures.whole; small = c.in_ok-bytes.ensures.small } in
    record {
      so_far = next_read (g.S.Store.holds c.args.store.now) c.args.names.now c.loop-name.name-index c.name-item.result c.as_str-file.result.now c.loop-name.contents.items c.keep.new.contents.items (record { language = c.language_of-language.result; bytes = c.in_ok-bytes.bytes })
          c.loop-name-test.true (c.as_str-file.ensures.value ∙ ap string_bytes c.name-item.is) c.loop-name.invariant.so_far c.language_of-language.ensures read c.in_ok-keep.ensures;
      kept = c.read_all.ensures.kept ∙ c.loop-name.invariant.kept;
      counts = λ other. omega (arith, c.loop-name.invariant.counts other, c.read_all.ensures.counts other);
    }

pub language_of-language-requires : goal.language_of-language-requires
language_of-language-requires g c =
    subst IsModelFile (sym (c.as_str-file.ensures.value ∙ ap string_bytes c.name-item.is))
    (each_at IsModelFile c.args.names.now c.loop-name.name-index c.name-item.result c.loop-name-test.true c.requires)
