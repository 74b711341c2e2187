-- Numbers by their digits.
use Rattle.std.proofs.Common.{ℕ, ◌+◌, ◌-◌, ◌*◌, ◌^◌, ◌<◌, ◌≤◌, List, [], ◌∷◌, length, drop, get_or, arith}
use Rattle.std.proofs.lemmas.List.{at_drop_more}
use Rattle.og_names.proofs.Loops.{Left}
use Rattle.og_value.specs.Bytes.{number_from}

-- digits make a number no less
pub number_from_ge : (n : ℕ) (ds : List ℕ) → n ≤ number_from n ds
number_from_ge n [] = omega arith
number_from_ge n (d ∷ ds) = omega (arith, number_from_ge (10 * n + (d - 48)) ds)

-- digits behind a number above a tenth of 2^63 pass 2^63
pub past_tenth : (n i total : ℕ) (ds : List ℕ) → Left (number_from n) ds i total → i < length ds → 922337203685477580 < n → 2 ^ 63 < total
past_tenth n i total ds left lt h =
    let split = at_drop_more (number_from n) ds i 0 lt in
    let least = number_from_ge (10 * n + (get_or ds i 0 - 48)) (drop (i + 1) ds) in
    omega (arith, left.is, split, least, h)
