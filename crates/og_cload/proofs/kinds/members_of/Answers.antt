use Rattle.og_cload.proofs.Looked.{members_found}
use Rattle.og_cload.proofs.kinds.members_of.Goals as goal

pub returns-in_ok-found-in-Struct : goal.returns-in_ok-found-in-Struct
returns-in_ok-found-in-Struct c =
    members_found c.args.structs.now c.args.kind.now c.in-Struct.name _ c.in_ok-found-in-Struct.found.now _ c.in-Struct.is c.as_slice.ensures c.in_ok-found-in-Struct.ensures c.as_slice-in-Struct.ensures
