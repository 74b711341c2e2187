use Rattle.std.specs.List.{list_all}
use Rattle.og_csubset.specs.declared.CGlobal.{CGlobal}
use Rattle.og_csubset.specs.Loading.{is_known}
use Rattle.og_cload.specs.Names.{names_in}
use Rattle.og_names.proofs.Loops.{Left}
use Rattle.og_cload.proofs.types.globals_known.Given as goal

abbrev pub invariant-loop-global : goal.invariant-loop-global
invariant-loop-global l =
    Left (λ ys. list_all (λ (g : CGlobal). is_known (names_in l.names) g.kind) ys) l.globals l.global-index (list_all (λ (g : CGlobal). is_known (names_in l.names) g.kind) l.globals)
