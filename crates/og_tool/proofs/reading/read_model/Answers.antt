use Rattle.std.proofs.Common.{List, sym, subst}
use Rattle.og_base.specs.declared.ModelError.{ModelError}
use Rattle.og_judge.specs.declared.ModelFile.{ModelFile}
use Rattle.og_judge.specs.Answers.{Refuses}
use Rattle.og_judge.specs.Judging.{sources}
use Rattle.og_tool.specs.Answers.{AreRead}
use Rattle.og_words.specs.Asked.{texts}
use Rattle.og_tool.proofs.ReadingParts.{are_few, all_short, has_one, ready, first_read, stands_among, stands_in_a_source, report_told}
use Rattle.og_tool.proofs.reading.read_model.Goals as goal

pub judge-requires-clause-few : goal.judge-requires-clause-few
judge-requires-clause-few g c =
    let P : List ModelFile → Type 0 = λ fs. AreRead (g.S.Store.holds c.args.store.now) (texts c.args.files.now) (sources fs) in
    are_few (g.S.Store.holds c.args.store.now) c.args.files.now c.as_slice-read.result.now (subst P (sym c.as_slice-read.ensures.value) c.in_ok-contents.ensures.read) c.requires

pub judge-requires-clause-short : goal.judge-requires-clause-short
judge-requires-clause-short g c =
    let P : List ModelFile → Type 0 = λ fs. AreRead (g.S.Store.holds c.args.store.now) (texts c.args.files.now) (sources fs) in
    all_short (g.S.Store.holds c.args.store.now) (texts c.args.files.now) (sources c.as_slice-read.result.now) (subst P (sym c.as_slice-read.ensures.value) c.in_ok-contents.ensures.read)

pub judge-requires-clause-one : goal.judge-requires-clause-one
judge-requires-clause-one g c =
    let P : List ModelFile → Type 0 = λ fs. AreRead (g.S.Store.holds c.args.store.now) (texts c.args.files.now) (sources fs) in
    has_one (g.S.Store.holds c.args.store.now) (texts c.args.files.now) (sources c.as_slice-read.result.now) (subst P (sym c.as_slice-read.ensures.value) c.in_ok-contents.ensures.read) c.requires.process

pub returns-in-Ok-clause-read : goal.returns-in-Ok-clause-read
returns-in-Ok-clause-read g c =
    let P : List ModelFile → Type 0 = λ fs. AreRead (g.S.Store.holds c.args.store.now) (texts c.args.files.now) (sources fs) in
    ready (g.S.Store.holds c.args.store.now) (texts c.args.files.now) (sources c.as_slice-read.result.now) c.in-Ok.model (subst P (sym c.as_slice-read.ensures.value) c.in_ok-contents.ensures.read) c.in-Ok.ensures.accepted

pub refused-requires-clause-named : goal.refused-requires-clause-named
refused-requires-clause-named g c =
    let P : List ModelFile → Type 0 = λ fs. AreRead (g.S.Store.holds c.args.store.now) (texts c.args.files.now) (sources fs) in
    let Q : ModelError → Type 0 = λ error. Refuses (sources c.as_slice-read.result.now) error in
    stands_among (g.S.Store.holds c.args.store.now) c.args.files.now c.in_ok-violation-in-Err.violation
    (first_read (g.S.Store.holds c.args.store.now) (texts c.args.files.now) (sources c.as_slice-read.result.now) c.in_ok-violation-in-Err.violation (subst P (sym c.as_slice-read.ensures.value) c.in_ok-contents.ensures.read)
    (subst Q c.in_ok-violation-in-Err.ensures.broken c.in-Err.ensures.refused))

pub refused-requires-clause-stands : goal.refused-requires-clause-stands
refused-requires-clause-stands g c =
    let Q : ModelError → Type 0 = λ error. Refuses (sources c.as_slice-read.result.now) error in
    stands_in_a_source c.as_slice-read.result.now c.in_ok-violation-in-Err.violation (subst Q c.in_ok-violation-in-Err.ensures.broken c.in-Err.ensures.refused)

pub refused-requires-clause-short : goal.refused-requires-clause-short
refused-requires-clause-short g c =
    let P : List ModelFile → Type 0 = λ fs. AreRead (g.S.Store.holds c.args.store.now) (texts c.args.files.now) (sources fs) in
    all_short (g.S.Store.holds c.args.store.now) (texts c.args.files.now) (sources c.as_slice-read.result.now) (subst P (sym c.as_slice-read.ensures.value) c.in_ok-contents.ensures.read)

pub returns-clause-read : goal.returns-clause-read
returns-clause-read g c =
    let P : List ModelFile → Type 0 = λ fs. AreRead (g.S.Store.holds c.args.store.now) (texts c.args.files.now) (sources fs) in
    let Q : ModelError → Type 0 = λ error. Refuses (sources c.as_slice-read.result.now) error in
    report_told (g.S.Store.holds c.args.store.now) (texts c.args.files.now) (sources c.as_slice-read.result.now) c.in_ok-violation-in-Err.violation c.in_ok-refused-in-Err.field-0
    (subst P (sym c.as_slice-read.ensures.value) c.in_ok-contents.ensures.read)
    (subst Q c.in_ok-violation-in-Err.ensures.broken c.in-Err.ensures.refused)
    c.in_ok-refused-in-Err.ensures
