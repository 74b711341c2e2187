-- Worked examples of intervals, each computed from the definitions: every operator at both ends of 64 bits.
use Rattle.std.specs.Prelude.{◌≡◌, ℤ, pos, negsuc}
use Rattle.og_ranges.specs.declared.Interval.{Interval}
use Rattle.og_ranges.specs.Intervals.{sum_of, difference_of, negative_of, product_of, quotient_of, modulus_of, remainder_of}

abbrev from_to : ℤ → ℤ → Interval
from_to lo hi = record { lo = lo; hi = hi }

abbrev point : ℤ → Interval
point z = from_to z z

-- -2^63 and 2^63 - 1
abbrev least : ℤ
least = negsuc 9223372036854775807

abbrev greatest : ℤ
greatest = pos 9223372036854775807

abbrev every : Interval
every = from_to least greatest

-- x of INTEGER (-3 .. 5)
abbrev small : Interval
small = from_to (negsuc 2) (pos 5)

abbrev pub SumsAtTheirEdges : Type 0
SumsAtTheirEdges =
    (sum_of every (point (pos 1)) ≡ from_to (negsuc 9223372036854775806) (pos 9223372036854775808))
    × (difference_of every (point (pos 1)) ≡ from_to (negsuc 9223372036854775808) (pos 9223372036854775806))
    × (difference_of (point (pos 7)) small ≡ from_to (pos 2) (pos 10))
    × (negative_of every ≡ from_to (negsuc 9223372036854775806) (pos 9223372036854775808))
    × (negative_of small ≡ from_to (negsuc 4) (pos 3)) × (negative_of (point (pos 0)) ≡ point (pos 0))

abbrev pub ProductsAtTheirEdges : Type 0
ProductsAtTheirEdges =
    (product_of every every ≡ from_to (negsuc 85070591730234615856620279821087277055) (pos 85070591730234615865843651857942052864))
    × (product_of every (point (negsuc 0)) ≡ from_to (negsuc 9223372036854775806) (pos 9223372036854775808))
    × (product_of (point (pos 3037000500)) (point (pos 3037000500)) ≡ point (pos 9223372037000250000))
    × (product_of (point (pos 4294967296)) (point (negsuc 2147483647)) ≡ point least)
    × (product_of small small ≡ from_to (negsuc 14) (pos 25)) × (product_of small (point (negsuc 1)) ≡ from_to (negsuc 9) (pos 6))
    × (product_of (from_to (negsuc 4) (negsuc 2)) (from_to (negsuc 1) (pos 4)) ≡ from_to (negsuc 19) (pos 10))
    × (product_of every (point (pos 0)) ≡ point (pos 0))

abbrev pub QuotientsAtTheirEdges : Type 0
QuotientsAtTheirEdges =
    (quotient_of every (point (pos 1)) ≡ every)
    × (quotient_of (point least) (point (negsuc 0)) ≡ from_to least (pos 9223372036854775808))
    × (quotient_of (point (pos 7)) (point (negsuc 1)) ≡ from_to (negsuc 6) (pos 7))
    × (quotient_of (from_to (negsuc 6) (pos 7)) (from_to (pos 2) (pos 3)) ≡ from_to (negsuc 2) (pos 3))
    × (quotient_of (from_to (pos 7) (pos 9)) (from_to (pos 2) (pos 4)) ≡ from_to (pos 1) (pos 4))
    × (quotient_of (from_to (negsuc 8) (negsuc 6)) (from_to (pos 2) (pos 4)) ≡ from_to (negsuc 3) (negsuc 0))
    × (quotient_of (from_to (pos 3) (pos 5)) (from_to (pos 0) (pos 1)) ≡ from_to (negsuc 4) (pos 5))
    × (quotient_of (point (pos 1)) (point (pos 0)) ≡ from_to (negsuc 0) (pos 1))

abbrev pub RestsAtTheirEdges : Type 0
RestsAtTheirEdges =
    (modulus_of every (from_to (pos 0) greatest) ≡ from_to (pos 0) (pos 9223372036854775806))
    × (modulus_of (point (pos 3)) (point (pos 8)) ≡ from_to (pos 0) (pos 7)) × (modulus_of every (point (pos 1)) ≡ point (pos 0))
    × (modulus_of every (point (pos 0)) ≡ point (pos 0))
    × (remainder_of every (from_to (pos 0) greatest) ≡ from_to (negsuc 9223372036854775805) (pos 9223372036854775806))
    × (remainder_of small (point (pos 4)) ≡ from_to (negsuc 2) (pos 3)) × (remainder_of (from_to (pos 0) (pos 9)) (from_to (pos 2) (pos 4)) ≡ from_to (pos 0) (pos 3))
    × (remainder_of (from_to (negsuc 8) (pos 0)) (from_to (pos 2) (pos 4)) ≡ from_to (negsuc 2) (pos 0))
    × (remainder_of (point (pos 0)) (point (pos 4)) ≡ point (pos 0)) × (remainder_of every (point (pos 0)) ≡ point (pos 0))
