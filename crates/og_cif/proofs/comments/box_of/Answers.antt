use Rattle.std.proofs.Common.{refl, arith}
use Rattle.og_cif.specs.File.{text_of}
use Rattle.og_cif.proofs.Attaching.{room, text_len, none_of, one_of}
use Rattle.og_cif.proofs.comments.box_of.Goals as goal

pub returns-in_err-frame : goal.returns-in_err-frame
returns-in_err-frame c =
    none_of c.args.bytes.now (text_of c.args.bytes.now c.args.comment) c.args.comment c.read_cif.result c.from_residual.result refl c.read_cif.ensures c.in_err-frame.was c.from_residual.ensures

pub place_after-end-requires-clause-lines : goal.place_after-end-requires-clause-lines
place_after-end-requires-clause-lines c =
    let r = room c.args.bytes.now c.args.comment c.requires.placed in
    let l = text_len c.args.bytes.now c.args.comment c.requires.placed in
    omega (arith, r.lines, l, c.requires.few, c.requires.placed.ordered, c.requires.placed.inside)

pub place_after-end-requires-clause-columns : goal.place_after-end-requires-clause-columns
place_after-end-requires-clause-columns c =
    let r = room c.args.bytes.now c.args.comment c.requires.placed in
    let l = text_len c.args.bytes.now c.args.comment c.requires.placed in
    omega (arith, r.columns, l, c.requires.few, c.requires.placed.ordered, c.requires.placed.inside)

pub returns : goal.returns
returns c =
    one_of c.args.bytes.now (text_of c.args.bytes.now c.args.comment) c.args.comment c.read_cif.result c.in_ok-frame.frame c.place_after-end.result refl c.requires.placed c.read_cif.ensures
    c.in_ok-frame.was c.place_after-end.ensures
