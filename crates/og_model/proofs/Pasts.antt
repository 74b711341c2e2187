-- Runs in which no entry ends with Past, as facts by cases.
use Rattle.std.proofs.Common.{◌≡◌, false, List, [], ◌∷◌}
use Rattle.og_model.specs.Shown.{Event, End, Rest, Fault, Stopped, Past, Stuck, Shown, has_past, IsFront}

-- some events, and then more
abbrev pub StartsWith : List Event → List Event → Type 0
StartsWith fs es = IsFront es fs

-- P at the end Past, and Q at any other
abbrev pub AtPast : End → Type 0 → Type 0 → Type 0
AtPast Past P Q = P
AtPast (Rest paths variables timers) P Q = Q
AtPast (Fault kind place variables timers) P Q = Q
AtPast (Stopped variables) P Q = Q
AtPast (Stuck rule) P Q = Q

-- no entry ends with Past
abbrev pub NeverPast : List Shown → Type 0
NeverPast [] = Unit {0}
NeverPast (a ∷ later) = AtPast a.end ⊥ (Unit {0}) × NeverPast later

not_past : (e : End) (es : List Event) (later : List Shown) → has_past (record { events = es; end = e } ∷ later) ≡ false → AtPast e ⊥ (Unit {0}) × (has_past later ≡ false)
not_past Past es later h = absurd (cc)
not_past (Rest paths variables timers) es later h = (tt, h)
not_past (Fault kind place variables timers) es later h = (tt, h)
not_past (Stopped variables) es later h = (tt, h)
not_past (Stuck rule) es later h = (tt, h)

pub never_past : (list : List Shown) → has_past list ≡ false → NeverPast list
never_past [] h = tt
never_past (a ∷ later) h = let first = not_past a.end a.events later h in (first.0, never_past later first.1)
