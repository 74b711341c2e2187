-- Places behind bytes: one piece behind the other, and how large they get.
use Rattle.std.proofs.Common.{◌≡◌, ℕ, ◌+◌, ◌-◌, ◌<◌, ◌≤◌, Bool, true, false, cond, ◌==◌, List, [], ◌∷◌, ◌++◌, length, refl, sym, ap, ◌∙◌, arith}
use Rattle.og_base.specs.declared.Place.{Place}
use Rattle.og_csubset.specs.Refusals.{line_behind, column_from, place_behind}
use Rattle.og_clex.specs.Places.{place_on}

pub place_on-append : (p : Place) (a b : List ℕ) → place_on (place_on p a) b ≡ place_on p (a ++ b)
place_on-append p [] b = refl
place_on-append p (x ∷ a) b = place_on-append (cond (x == 10) (record p { line = p.line + 1; column = 1 }) (record p { column = p.column + 1 })) a b

some_line : (bs : List ℕ) → 0 < line_behind bs
some_line [] = omega arith
some_line (b ∷ bs) = go (b == 10) (some_line bs)
  where
    go : (c : Bool) → 0 < line_behind bs → 0 < cond c (line_behind bs + 1) (line_behind bs)
    go true h = omega arith
    go false h = h

-- from any place on
from_place : (line column : ℕ) (bs : List ℕ)
    → place_on (record { file = 0; line = line; column = column }) bs ≡ record { file = 0; line = (line_behind bs - 1) + line; column = column_from column bs }
from_place line column [] = ap (λ n. record { file = 0; line = n; column = column }) (omega arith)
from_place line column (b ∷ bs) = go (b == 10) (from_place (line + 1) 1 bs) (from_place line (column + 1) bs)
  where
    go : (c : Bool)
        → place_on (record { file = 0; line = line + 1; column = 1 }) bs ≡ record { file = 0; line = (line_behind bs - 1) + (line + 1); column = column_from 1 bs }
        → place_on (record { file = 0; line = line; column = column + 1 }) bs ≡ record { file = 0; line = (line_behind bs - 1) + line; column = column_from (column + 1) bs }
        → place_on (cond c (record { file = 0; line = line + 1; column = 1 }) (record { file = 0; line = line; column = column + 1 })) bs
        ≡ record { file = 0; line = (cond c (line_behind bs + 1) (line_behind bs) - 1) + line; column = cond c (column_from 1 bs) (column_from (column + 1) bs) }
    go true next same = next ∙ ap (λ n. record { file = 0; line = n; column = column_from 1 bs }) (omega (arith, some_line bs))
    go false next same = same

pub place_behind-on : (bs : List ℕ) → place_behind bs ≡ place_on (record { file = 0; line = 1; column = 1 }) bs
place_behind-on bs = sym (from_place 1 1 bs ∙ ap (λ n. record { file = 0; line = n; column = column_from 1 bs }) (omega (arith, some_line bs)))

-- the place behind some bytes more
pub place_further : (p : Place) (a b : List ℕ) → p ≡ place_behind a → place_on p b ≡ place_behind (a ++ b)
place_further p a b e =
    ap (λ q. place_on q b) (e ∙ place_behind-on a) ∙ place_on-append (record { file = 0; line = 1; column = 1 }) a b ∙ sym (place_behind-on (a ++ b))

pub line-le : (bs : List ℕ) → line_behind bs ≤ length bs + 1
line-le [] = omega arith
line-le (b ∷ bs) = go (b == 10) (line-le bs)
  where
    go : (c : Bool) → line_behind bs ≤ length bs + 1 → cond c (line_behind bs + 1) (line_behind bs) ≤ length (b ∷ bs) + 1
    go true h = omega arith
    go false h = omega arith

pub column-le : (column : ℕ) (bs : List ℕ) → 0 < column → column_from column bs ≤ length bs + column
column-le column [] some = omega arith
column-le column (b ∷ bs) some = go (b == 10) (column-le 1 bs (omega arith)) (column-le (column + 1) bs (omega arith))
  where
    go : (c : Bool) → column_from 1 bs ≤ length bs + 1 → column_from (column + 1) bs ≤ length bs + (column + 1)
        → cond c (column_from 1 bs) (column_from (column + 1) bs) ≤ length (b ∷ bs) + column
    go true h k = omega arith
    go false h k = omega arith
