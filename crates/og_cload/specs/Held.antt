-- What a kind is whose type is lent, as code looks it up.
use Rattle.std.specs.Prelude.{ℕ}
use Rattle.og_csubset.specs.Kinds.{Kind}
use Rattle.og_cload.specs.declared.kinds.Held.{Held}

abbrev pub kind_of : Held → Kind
kind_of h = record { type = h.of.now; size = h.size }

-- a place of a member, with what it is
abbrev pub place_of : ℕ × Held → ℕ × Kind
place_of found = (found.0, kind_of found.1)
