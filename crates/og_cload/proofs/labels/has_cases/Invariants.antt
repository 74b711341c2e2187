use Rattle.std.specs.List.{list_all}
use Rattle.og_cload.specs.Names.{names_in}
use Rattle.og_csubset.specs.Kinds.{is_in}
use Rattle.og_csubset.specs.declared.CCase.{CCase}
use Rattle.og_names.proofs.Loops.{Left}
use Rattle.og_cload.proofs.labels.has_cases.Given as goal

abbrev pub invariant-loop-case : goal.invariant-loop-case
invariant-loop-case l = Left (λ ys. list_all (λ (c : CCase). is_in c.label.bytes (names_in l.labels)) ys) l.cases l.case-index (list_all (λ (c : CCase). is_in c.label.bytes (names_in l.labels)) l.cases)
