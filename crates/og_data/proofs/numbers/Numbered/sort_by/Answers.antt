use Rattle.std.proofs.Common.{◌≡◌, slice_get, Some}
use Rattle.og_flat.specs.declared.flat.Node.TheVariants as node
use Rattle.og_data.proofs.Supported.{enumerated_given}
use Rattle.og_data.proofs.numbers.Numbered.sort_by.Goals as goal

pub enumerated-requires : goal.enumerated-requires
enumerated-requires c =
    let at : slice_get c.args.self.now.known.limited.valued.scope.flat.nodes c.args.place ≡ Some (node.Enumerated c.as_slice.result.now c.in-Some-Enumerated.field-0-1) =
    cc (c.in-Some-Enumerated.ensures.value, c.in-Some-Enumerated.field-0-is, c.as_slice.ensures)
    in
    enumerated_given c.args.self.now.known.limited.valued.scope.flat c.args.place c.as_slice.result.now c.in-Some-Enumerated.field-0-1 at c.requires
