-- The place behind some bytes, from the place of the first one on.
use Rattle.std.specs.Prelude.{ℕ, ◌+◌, List, [], ◌∷◌, cond, ◌==◌}
use Rattle.og_base.specs.declared.Place.{Place}

abbrev pub place_on : Place → List ℕ → Place
place_on p [] = p
place_on p (byte ∷ bytes) =
    place_on (cond (byte == 10) (record p { line = p.line + 1; column = 1 }) (record p { column = p.column + 1 })) bytes
