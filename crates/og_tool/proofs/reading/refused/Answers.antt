use Rattle.std.proofs.Common.{◌∙◌, ℕ, ◌<◌, List, ◌++◌, length, Some, sym, ap, subst, string_bytes}
use Rattle.og_judge.specs.declared.ModelFile.{ModelFile}
use Rattle.og_judge.specs.Judging.{SourceFile, source}
use Rattle.og_report.specs.Report.{IsReportOf}
use Rattle.og_report.specs.Line.{report_line}
use Rattle.og_tool.proofs.ReadingParts.{made_at, holds_at}
use Rattle.og_tool.proofs.reading.refused.Goals as goal

pub report_of-requires : goal.report_of-requires
report_of-requires c =
    let IsShort : List ℕ → Type 0 = λ bytes. length bytes < 4294967295 in
    let Few : SourceFile → Type 0 = λ file. length file.bytes < 4294967295 in
    let there = holds_at Few c.args.files.now c.args.violation.place.file c.index-files-number.result c.requires.stands c.requires.short in
    subst IsShort (sym (c.as_slice.ensures.value ∙ ap (λ (file : ModelFile). file.bytes.items) c.index-files-number.is)) there

pub returns : goal.returns
returns c =
    let number = c.args.violation.place.file in
    let file = c.index-files-number.result in
    let P : List ℕ → Type 0 = λ bytes. IsReportOf file.language bytes c.args.violation c.in_ok-report.report in
    record {
      name = c.as_bytes.result.now;
      named = made_at string_bytes c.args.names.now number c.index-names-number.result c.requires.named
          ∙ ap Some (sym (c.as_bytes.ensures.value ∙ c.as_str.ensures.value ∙ ap string_bytes c.index-names-number.is));
      file = source file;
      stands = made_at source c.args.files.now number file c.requires.stands ∙ ap (λ (f : ModelFile). Some (source f)) (sym c.index-files-number.is);
      report = c.in_ok-report.report;
      reports = subst P c.as_slice.ensures.value c.in_ok-report.ensures;
      is = c.in_ok-report_line.ensures ∙ ap (λ (old : List ℕ). old ++ report_line c.in_ok-report.report c.as_bytes.result.now) c.new-line.ensures.items;
    }
