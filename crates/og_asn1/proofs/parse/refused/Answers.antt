use Rattle.og_asn1.specs.Kinds.{kinds_of}
use Rattle.og_asn1.proofs.Parsing.{refuses_wrong, refuses_deep, not_cut}
use Rattle.std.proofs.Common.{refl}
use Rattle.og_asn1.proofs.parse.refused.Goals as goal

pub returns-in-Wrong : goal.returns-in-Wrong
returns-in-Wrong c =
    let tokens = c.args.tokens.now in
    refuses_wrong tokens (kinds_of tokens) c.in-Wrong.at c.violation_at.result refl (c.requires.wrong c.in-Wrong.at c.in-Wrong.is) c.violation_at.ensures.rule c.violation_at.ensures.place

pub returns-in-TooDeep : goal.returns-in-TooDeep
returns-in-TooDeep c =
    let tokens = c.args.tokens.now in
    refuses_deep tokens (kinds_of tokens) c.in-TooDeep.at c.violation_at-in-TooDeep.result refl (c.requires.deep c.in-TooDeep.at c.in-TooDeep.is) c.violation_at-in-TooDeep.ensures.rule c.violation_at-in-TooDeep.ensures.place

pub unreachable-requires : goal.unreachable-requires
unreachable-requires c = not_cut c.args.tokens.now c.requires.ends (c.requires.cut c.in-CutOff.is)
