use Rattle.std.proofs.Common.{map}
use Rattle.std.specs.List.{list_all}
use Rattle.og_csubset.specs.Kinds.{is_in}
use Rattle.og_csubset.specs.Interface as interface
use Rattle.og_names.specs.declared.Word.{Word}
use Rattle.og_names.proofs.Loops.{Left}
use Rattle.og_cload.proofs.interface.are_events.Given as goal

abbrev pub invariant-loop-name : goal.invariant-loop-name
invariant-loop-name l = Left (λ ys. list_all (λ name. is_in name (map (interface.event_name l.model) l.events)) (map (λ (e : Word). e.bytes) ys)) l.names l.name-index (list_all (λ name. is_in name (map (interface.event_name l.model) l.events)) (map (λ (e : Word). e.bytes) l.names))
