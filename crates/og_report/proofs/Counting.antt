-- How many bytes stand before a place.
use Rattle.std.proofs.Common.{◌≡◌, ℕ, suc, ◌≤◌, Bool, true, false, List, [], ◌∷◌, length, refl, ap, arith}
use Rattle.std.specs.Prelude.{if◌then◌else◌}
use Rattle.og_base.specs.declared.Place.{Place}
use Rattle.og_base.specs.Order.{is_before}
use Rattle.og_lexer.specs.Places.{next_place}
use Rattle.og_report.specs.Report.{count_before}

step_within : (t : Bool) (n m : ℕ) → n ≤ m → (if t then suc n else 0) ≤ suc m
step_within true n m le = omega (arith, le)
step_within false n m le = omega (arith)

-- no more than there are
pub within : (place here : Place) (bytes : List ℕ) → count_before place here bytes ≤ length bytes
within place here [] = omega (arith)
within place here (b ∷ bs) = step_within (is_before here place) (count_before place (next_place here b) bs) (length bs) (within place (next_place here b) bs)

-- none, where the first byte does not stand before it
pub none : (place here : Place) (bytes : List ℕ) → is_before here place ≡ false → count_before place here bytes ≡ 0
none place here [] h = refl
none place here (b ∷ bs) h = ap (λ t. if t then suc (count_before place (next_place here b) bs) else 0) h
