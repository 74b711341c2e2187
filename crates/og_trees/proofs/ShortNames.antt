-- Names are short, since each carries the fact that it is spelt like one.
use Rattle.std.proofs.Common.{ℕ, ◌≤◌, Bool, true, false, ◌&&◌, List, [], ◌∷◌, length, nat_lt, refl, arith, IsTrue}
use Rattle.std.proofs.lemmas.Bool.{ltb-true}
use Rattle.std.specs.List.{AllByRecursion}
use Rattle.og_lexer.specs.AsnPieces.{is_asn_name}
use Rattle.og_asn1.specs.declared.syntax.Name.{Name as ModuleName}
use Rattle.og_ast.specs.Names.{is_name}
use Rattle.og_ast.specs.declared.ground.Name.{Name}

last_of_three : (a b c : Bool) → IsTrue (a && (b && c)) → IsTrue c
last_of_three true true c h = h
last_of_three true false c h = cc
last_of_three false b c h = cc

second_of_three : (a b c : Bool) → IsTrue (a && (b && c)) → IsTrue b
second_of_three true true c h = refl
second_of_three true false c h = cc
second_of_three false b c h = cc

unit_bytes : (bytes : List ℕ) → IsTrue (is_name bytes) → length bytes ≤ 64
unit_bytes [] h = omega arith
unit_bytes (b ∷ bs) h =
    let lt : IsTrue (nat_lt (length bs) 64) = second_of_three _ (nat_lt (length bs) 64) _ h in
    omega (arith, ltb-true (length bs) 64 lt)

pub short_unit_name : (name : Name) → length name.word.bytes ≤ 64
short_unit_name name = unit_bytes name.word.bytes name.spelling

pub short_parts : (names : List Name) → AllByRecursion (λ part. length part.word.bytes ≤ 64) names
short_parts [] = tt
short_parts (name ∷ names) = (short_unit_name name, short_parts names)

module_bytes : (bytes : List ℕ) → IsTrue (is_asn_name bytes) → length bytes ≤ 64
module_bytes [] h = omega arith
module_bytes (b ∷ bs) h =
    let lt : IsTrue (nat_lt (length bs) 64) = last_of_three _ _ (nat_lt (length bs) 64) h in
    omega (arith, ltb-true (length bs) 64 lt)

pub short_module_name : (name : ModuleName) → length name.word.bytes ≤ 64
short_module_name name = module_bytes name.word.bytes name.spelling
