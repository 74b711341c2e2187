use Rattle.std.proofs.Common.{◌≡◌, ℕ, List, true, sym, subst}
use Rattle.og_lexer.specs.AsnPieces.{is_asn_name}
use Rattle.og_asn1.specs.Reading.{x_is_a_name}
use Rattle.og_asn1.proofs.Naming.{named_so, not_named_so}
use Rattle.og_asn1.proofs.left.named.Goals as goal

pub returns-then-is_asn_name : goal.returns-then-is_asn_name
returns-then-is_asn_name c = named_so c.args.place c.args.word _

pub returns-in_ok-bytes : goal.returns-in_ok-bytes
returns-in_ok-bytes c = not_named_so c.args.place c.args.word _ _ c.in_ok-bytes.ensures cc

pub invariant_of-result-else-is_asn_name : goal.invariant_of-result-else-is_asn_name
invariant_of-result-else-is_asn_name c = record { spelling = subst (λ (b : List ℕ). is_asn_name b ≡ true) (sym c.in_ok-bytes.ensures) x_is_a_name }
