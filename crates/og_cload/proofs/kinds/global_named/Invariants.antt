use Rattle.std.specs.List.{find}
use Rattle.std.specs.Str.{bytes_eq}
use Rattle.og_csubset.specs.declared.CGlobal.{CGlobal}
use Rattle.og_names.proofs.Loops.{Left}
use Rattle.og_cload.proofs.kinds.global_named.Given as goal

abbrev pub invariant-loop-global : goal.invariant-loop-global
invariant-loop-global l =
    Left (λ ys. find (λ (g : CGlobal). bytes_eq l.name g.name.bytes) ys) l.globals l.global-index (find (λ (g : CGlobal). bytes_eq l.name g.name.bytes) l.globals)
