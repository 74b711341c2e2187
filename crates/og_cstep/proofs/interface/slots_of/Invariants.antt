use Rattle.std.proofs.Common.{◌++◌, map}
use Rattle.og_csubset.specs.declared.CGlobal.{CGlobal}
use Rattle.og_cload.specs.Fields.{fields_in}
use Rattle.og_names.proofs.Loops.{Left}
use Rattle.og_cstep.specs.Interfaces.{slots_named}
use Rattle.og_cstep.proofs.interface.slots_of.Given as goal

abbrev pub invariant-loop-field : goal.invariant-loop-field
invariant-loop-field l =
    Left (λ ys. l.slots ++ slots_named (map (λ (g : CGlobal). g.name.bytes) l.globals) (fields_in ys)) l.fields l.field-index
    (slots_named (map (λ (g : CGlobal). g.name.bytes) l.globals) (fields_in l.fields))
