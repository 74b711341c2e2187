-- A name is short.
use Rattle.std.proofs.Common.{ℕ, ◌≤◌, Bool, true, false, ◌&&◌, List, [], ◌∷◌, length, nat_lt, arith, IsTrue}
use Rattle.std.proofs.lemmas.Bool.{ltb-true}
use Rattle.og_lexer.specs.AsnPieces.{is_asn_name}
use Rattle.og_asn1.specs.declared.syntax.Name.{Name}

last_of_three : (a b c : Bool) → IsTrue (a && (b && c)) → IsTrue c
last_of_three true true c h = h
last_of_three true false c h = cc
last_of_three false b c h = cc

short_bytes : (bytes : List ℕ) → IsTrue (is_asn_name bytes) → length bytes ≤ 64
short_bytes [] h = omega arith
short_bytes (b ∷ bs) h =
    let lt : IsTrue (nat_lt (length bs) 64) = last_of_three _ _ (nat_lt (length bs) 64) h in
    omega (arith, ltb-true (length bs) 64 lt)

pub short : (name : Name) → length name.word.bytes ≤ 64
short name = short_bytes name.word.bytes name.spelling

pub ruleset shorts = (short)
