-- The place of a name, counted from where a loop has come to.
use Rattle.std.proofs.Common.{◌≡◌, ℕ, ◌+◌, List, [], ◌∷◌, Bool, true, false, cond, if◌then◌else◌, map, Option, Some, None, refl, ap, ◌∙◌, arith}
use Rattle.std.specs.Option.{option_map}
use Rattle.std.specs.Str.{bytes_eq}
use Rattle.og_csubset.specs.declared.CMember.{CMember}
use Rattle.og_ir.specs.Cells.{◌>>=◌}
use Rattle.og_csubset.specs.Kinds.{Kind, member_in, place_in}
use Rattle.og_names.proofs.Loops.{Left}

-- the place of a member, where the first one has this place
abbrev pub member_from : ℕ → List ℕ → List CMember → Option (ℕ × Kind)
member_from i name [] = None
member_from i name (m ∷ members) =
    if bytes_eq name m.name.bytes then Some (i, record { type = m.kind; size = m.size }) else member_from (i + 1) name members

abbrev later : {A : Type 0} → ℕ → Option (ℕ × A) → Option (ℕ × A)
later i o = option_map (λ p. (p.0 + i, p.1)) o

later_more : {A : Type 0} (i : ℕ) (o : Option (ℕ × A)) → later (i + 1) o ≡ later i (o >>= λ p. Some (p.0 + 1, p.1))
later_more i None = refl
later_more i (Some p) = ap (λ n. Some (n, p.1)) (omega arith)

later_if : {A : Type 0} (i : ℕ) (b : Bool) (x : A) (o : Option (ℕ × A)) → cond b (Some (i, x)) (later (i + 1) o) ≡ later i (cond b (Some (0, x)) (o >>= λ p. Some (p.0 + 1, p.1)))
later_if i true x o = ap (λ n. Some (n, x)) (omega arith)
later_if i false x o = later_more i o

member_later : (i : ℕ) (name : List ℕ) (members : List CMember) → member_from i name members ≡ later i (member_in name members)
member_later i name [] = refl
member_later i name (m ∷ members) =
    ap (λ o. cond (bytes_eq name m.name.bytes) (Some (i, record { type = m.kind; size = m.size })) o) (member_later (i + 1) name members)
    ∙ later_if i (bytes_eq name m.name.bytes) (record { type = m.kind; size = m.size }) (member_in name members)

later_none : {A : Type 0} (o : Option (ℕ × A)) → later 0 o ≡ o
later_none None = refl
later_none (Some p) = ap (λ n. Some (n, p.1)) (omega arith)

pub member_first : (name : List ℕ) (members : List CMember) → Left (λ ys. member_from 0 name ys) members 0 (member_in name members)
member_first name members = record { is = member_later 0 name members ∙ later_none (member_in name members) }

-- the place of a name, where the first one has this place
abbrev pub place_from : ℕ → List ℕ → List (List ℕ) → Option ℕ
place_from i name [] = None
place_from i name (other ∷ names) = if bytes_eq name other then Some i else place_from (i + 1) name names

place_if : (i : ℕ) (b : Bool) (o : Option ℕ) → cond b (Some i) (option_map (λ k. k + (i + 1)) o) ≡ option_map (λ k. k + i) (cond b (Some 0) (o >>= λ k. Some (k + 1)))
place_if i true o = ap Some (omega arith)
place_if i false None = refl
place_if i false (Some k) = ap Some (omega arith)

place_later : (i : ℕ) (name : List ℕ) (names : List (List ℕ)) → place_from i name names ≡ option_map (λ k. k + i) (place_in name names)
place_later i name [] = refl
place_later i name (other ∷ names) =
    ap (λ o. cond (bytes_eq name other) (Some i) o) (place_later (i + 1) name names) ∙ place_if i (bytes_eq name other) (place_in name names)

place_none : (o : Option ℕ) → option_map (λ k. k + 0) o ≡ o
place_none None = refl
place_none (Some k) = ap Some (omega arith)

pub place_first : {A : Type 0} (f : A → List ℕ) (name : List ℕ) (xs : List A) → Left (λ ys. place_from 0 name (map f ys)) xs 0 (place_in name (map f xs))
place_first f name xs = record { is = place_later 0 name (map f xs) ∙ place_none (place_in name (map f xs)) }

pub ruleset places = (member_first, place_first)
