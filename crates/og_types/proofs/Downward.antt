-- A search in a table whose types refer downward: its depth changes nothing once it is past the type's number, nor does what
-- stands behind the type in the table. Said once of any answer that goes by those of the types that a type refers to.
use Rattle.std.proofs.Common.{◌≡◌, ℕ, zero, suc, ◌+◌, ◌*◌, ◌<◌, max, Bool, ◌&&◌, List, [], ◌∷◌, map, replicate, slice_get, Option, Some, None, refl, sym, ap, ap₂, ◌∙◌, arith}
use Rattle.std.specs.List.{list_all}
use Rattle.og_types.specs.declared.TypeId.{TypeId}
use Rattle.og_types.specs.declared.Part.{Part}
use Rattle.og_types.specs.declared.Sort.{Sort}
use Rattle.og_types.specs.declared.Sort.TheVariants as Sorts
use Rattle.og_types.specs.declared.Value.{Value, Value-F, out-Value}
use Rattle.og_types.specs.declared.Value as Values
use Rattle.og_types.specs.declared.Value.TheOpen as Open
use Rattle.og_types.specs.Values.{in_parts, in_part, in_sort, in_within, is_in, first_of_sort, first_within, first, cells_of_parts, cells_of_sort, cells_within, all_cells, is_supported_sort, is_supported_within, is_supported, PartsBelow, RefersBelow, IsDownward}
use Rattle.og_types.specs.Table.{depth_of_parts, depth_of_sort, depth_within, depth}

-- two ways to answer about types agree on those of smaller numbers
abbrev pub Agree : {A : Type 0} → ℕ → (TypeId → A) → (TypeId → A) → Type 0
Agree n f g = (id : TypeId) → id.0 < n → f id ≡ g id

-- a type of the table, where it is there, refers below its number
abbrev pub Below : ℕ → Option Sort → Type 0
Below n None = Unit {0}
Below n (Some t) = RefersBelow n t

below_of : (types : List Sort) → IsDownward types → (n : ℕ) → Below n (slice_get types n)
below_of types h n = go (slice_get types n) refl
  where
    go : (t : Option Sort) → slice_get types n ≡ t → Below n t
    go None e = tt
    go (Some t) e = h n t e

-- ---- one layer

in_parts_same : (n : ℕ) (f g : TypeId → Value → Bool) → Agree n f g → (ps : List Part) (vs : List Value) → PartsBelow n ps → in_parts f ps vs ≡ in_parts g ps vs
in_parts_same n f g h [] [] b = refl
in_parts_same n f g h [] (v ∷ vs) b = refl
in_parts_same n f g h (p ∷ ps) [] b = refl
in_parts_same n f g h (p ∷ ps) (v ∷ vs) b = ap₂ ◌&&◌ (ap (λ (x : Value → Bool). x v) (h p.sort b.0)) (in_parts_same n f g h ps vs b.1)

in_part_same : (n : ℕ) (f g : TypeId → Value → Bool) → Agree n f g → (ps : List Part) (k : ℕ) (v : Value) → PartsBelow n ps → in_part f (slice_get ps k) v ≡ in_part g (slice_get ps k) v
in_part_same n f g h [] k v b = refl
in_part_same n f g h (p ∷ ps) zero v b = ap (λ (x : Value → Bool). x v) (h p.sort b.0)
in_part_same n f g h (p ∷ ps) (suc k) v b = in_part_same n f g h ps k v b.1

in_sort_same : (n : ℕ) (f g : TypeId → Value → Bool) → Agree n f g → (t : Option Sort) (v : Value-F Value) → Below n t → in_sort f t v ≡ in_sort g t v
in_sort_same n f g h (Some (Sorts.Sequence ps)) (Open.Sequence vs) b = in_parts_same n f g h ps vs b
in_sort_same n f g h (Some (Sorts.Choice ps)) (Open.Choice k v) b = in_part_same n f g h ps k v b
in_sort_same n f g h (Some (Sorts.SeqOf lo hi item)) (Open.SeqOf vs) b =
    ap (λ (x : Value → Bool). in_sort (λ id. x) (Some (Sorts.SeqOf lo hi item)) (Open.SeqOf vs)) (h item b)
in_sort_same n f g h _ _ b = refl

-- the values of a type, where those of the types that it refers to are given
abbrev in_type : (TypeId → Value → Bool) → Option Sort → Value → Bool
in_type inside t v = in_sort inside t (out-Value v)

in_type_same : (n : ℕ) (f g : TypeId → Value → Bool) → Agree n f g → (t : Option Sort) → Below n t → in_type f t ≡ in_type g t
in_type_same n f g h t b = λ i v. in_sort_same n f g h t (out-Value v) b i

sorts_same : (n : ℕ) (f g : TypeId → Value) → Agree n f g → (ps : List Part) → PartsBelow n ps → map (λ (p : Part). f p.sort) ps ≡ map (λ (p : Part). g p.sort) ps
sorts_same n f g h [] b = refl
sorts_same n f g h (p ∷ ps) b = ap₂ ◌∷◌ (h p.sort b.0) (sorts_same n f g h ps b.1)

first_same : (n : ℕ) (f g : TypeId → Value) → Agree n f g → (t : Option Sort) → Below n t → first_of_sort f t ≡ first_of_sort g t
first_same n f g h (Some (Sorts.Sequence ps)) b = ap Values.Sequence (sorts_same n f g h ps b)
first_same n f g h (Some (Sorts.Choice [])) b = refl
first_same n f g h (Some (Sorts.Choice (p ∷ ps))) b = ap (Values.Choice 0) (h p.sort b.0)
first_same n f g h (Some (Sorts.SeqOf lo hi item)) b = ap (λ (x : Value). Values.SeqOf (replicate lo x)) (h item b)
first_same n f g h _ b = refl

counts_same : (n : ℕ) (f g : TypeId → ℕ) → Agree n f g → (ps : List Part) → PartsBelow n ps → cells_of_parts f ps ≡ cells_of_parts g ps
counts_same n f g h [] b = refl
counts_same n f g h (p ∷ ps) b = ap₂ ◌+◌ (h p.sort b.0) (counts_same n f g h ps b.1)

cells_same : (n : ℕ) (f g : TypeId → ℕ) → Agree n f g → (t : Option Sort) → Below n t → cells_of_sort f t ≡ cells_of_sort g t
cells_same n f g h (Some (Sorts.Sequence [])) b = refl
cells_same n f g h (Some (Sorts.Sequence (p ∷ ps))) b = counts_same n f g h (p ∷ ps) b
cells_same n f g h (Some (Sorts.Choice ps)) b = ap (λ (k : ℕ). 1 + k) (counts_same n f g h ps b)
cells_same n f g h (Some (Sorts.SeqOf lo hi item)) b = ap (λ (k : ℕ). 1 + k * max hi 1) (h item b)
cells_same n f g h _ b = refl

deepest_same : (n : ℕ) (f g : TypeId → ℕ) → Agree n f g → (ps : List Part) → PartsBelow n ps → depth_of_parts f ps ≡ depth_of_parts g ps
deepest_same n f g h [] b = refl
deepest_same n f g h (p ∷ ps) b = ap₂ max (h p.sort b.0) (deepest_same n f g h ps b.1)

pub depth_same : (n : ℕ) (f g : TypeId → ℕ) → Agree n f g → (t : Option Sort) → Below n t → depth_of_sort f t ≡ depth_of_sort g t
depth_same n f g h (Some (Sorts.Sequence ps)) b = ap (λ (k : ℕ). 1 + k) (deepest_same n f g h ps b)
depth_same n f g h (Some (Sorts.Choice ps)) b = ap (λ (k : ℕ). 1 + k) (deepest_same n f g h ps b)
depth_same n f g h (Some (Sorts.SeqOf lo hi item)) b = ap (λ (k : ℕ). 1 + k) (h item b)
depth_same n f g h _ b = refl

all_supported_same : (n : ℕ) (f g : TypeId → Bool) → Agree n f g → (ps : List Part) → PartsBelow n ps → list_all (λ (p : Part). f p.sort) ps ≡ list_all (λ (p : Part). g p.sort) ps
all_supported_same n f g h [] b = refl
all_supported_same n f g h (p ∷ ps) b = ap₂ ◌&&◌ (h p.sort b.0) (all_supported_same n f g h ps b.1)

pub supported_same : (n : ℕ) (f g : TypeId → Bool) → Agree n f g → (t : Option Sort) → Below n t → is_supported_sort f t ≡ is_supported_sort g t
supported_same n f g h (Some (Sorts.Sequence ps)) b = all_supported_same n f g h ps b
supported_same n f g h (Some (Sorts.Choice ps)) b = all_supported_same n f g h ps b
supported_same n f g h (Some (Sorts.SeqOf lo hi item)) b = h item b
supported_same n f g h _ b = refl

-- ---- any depth past the number, and any table with the same types up to it

-- the tables have the same types below a number
abbrev pub SameBelow : ℕ → List Sort → List Sort → Type 0
SameBelow n types more = (k : ℕ) → k < n → slice_get types k ≡ slice_get more k

under : (k n d : ℕ) → k < n → n < suc d → k < d
under k n d p q = omega (arith, p, q)

between : (k n m : ℕ) → k < n → n < m → k < m
between k n m p q = omega (arith, p, q)

next_to : (n : ℕ) → n < suc n
next_to n = omega arith

module _ (A : Type 0) (within : ℕ → List Sort → TypeId → A) (layer : (TypeId → A) → Option Sort → A)
    (step : (d : ℕ) (types : List Sort) (id : TypeId) → within (suc d) types id ≡ layer (within d types) (slice_get types id.0))
    (same : (n : ℕ) (f g : TypeId → A) → Agree n f g → (t : Option Sort) → Below n t → layer f t ≡ layer g t) where
  within_same : (n : ℕ) (types more : List Sort) → IsDownward types → SameBelow n types more
      → (d d' : ℕ) (id : TypeId) → id.0 < n → id.0 < d → id.0 < d' → within d types id ≡ within d' more id
  within_same n types more h s zero d' id m p q = absurd (omega (arith, p))
  within_same n types more h s (suc d) zero id m p q = absurd (omega (arith, q))
  within_same n types more h s (suc d) (suc d') id m p q =
      step d types id
      ∙ same id.0 (within d types) (within d' more)
      (λ x r. within_same n types more h s d d' x (between x.0 id.0 n r m) (under x.0 id.0 d r p) (under x.0 id.0 d' r q))
      (slice_get types id.0) (below_of types h id.0)
      ∙ ap (layer (within d' more)) (s id.0 m) ∙ sym (step d' more id)

  by_layer : (types : List Sort) → IsDownward types → (id : TypeId) → within (suc id.0) types id ≡ layer (λ x. within (suc x.0) types x) (slice_get types id.0)
  by_layer types h id =
      step id.0 types id
      ∙ same id.0 (within id.0 types) (λ x. within (suc x.0) types x)
      (λ x r. within_same (suc x.0) types types h (λ k b. refl) id.0 (suc x.0) x (next_to x.0) r (next_to x.0))
      (slice_get types id.0) (below_of types h id.0)

  stays : (n : ℕ) (types more : List Sort) → IsDownward types → SameBelow n types more → (id : TypeId) → id.0 < n → within (suc id.0) types id ≡ within (suc id.0) more id
  stays n types more h s id m = within_same n types more h s (suc id.0) (suc id.0) id m (next_to id.0) (next_to id.0)

  -- of the type of number n, by those of another table with the same types before it
  behind : (n : ℕ) (types more : List Sort) → IsDownward types → SameBelow n types more → Below n (slice_get more n)
      → within (suc n) more (record { 0 = n }) ≡ layer (λ x. within (suc x.0) types x) (slice_get more n)
  behind n types more h s b =
      step n more (record { 0 = n })
      ∙ same n (within n more) (λ x. within (suc x.0) types x)
      (λ x r. sym (within_same n types more h s (suc x.0) n x r (next_to x.0) r)) (slice_get more n) b

-- ---- the answers

pub is_in_is : (types : List Sort) → IsDownward types → (id : TypeId) (v : Value) → is_in types id v ≡ in_sort (is_in types) (slice_get types id.0) (out-Value v)
is_in_is types h id v = ap (λ (f : Value → Bool). f v) (by_layer (Value → Bool) in_within in_type (λ d ts x. refl) in_type_same types h id)

pub first_is : (types : List Sort) → IsDownward types → (id : TypeId) → first types id ≡ first_of_sort (first types) (slice_get types id.0)
first_is = by_layer Value first_within first_of_sort (λ d ts x. refl) first_same

pub all_cells_is : (types : List Sort) → IsDownward types → (id : TypeId) → all_cells types id ≡ cells_of_sort (all_cells types) (slice_get types id.0)
all_cells_is = by_layer ℕ cells_within cells_of_sort (λ d ts x. refl) cells_same

pub depth_is : (types : List Sort) → IsDownward types → (id : TypeId) → depth types id ≡ depth_of_sort (depth types) (slice_get types id.0)
depth_is = by_layer ℕ depth_within depth_of_sort (λ d ts x. refl) depth_same

pub is_supported_is : (types : List Sort) → IsDownward types → (id : TypeId) → is_supported types id ≡ is_supported_sort (is_supported types) (slice_get types id.0)
is_supported_is = by_layer Bool is_supported_within is_supported_sort (λ d ts x. refl) supported_same

pub is_in_stays : (n : ℕ) (types more : List Sort) → IsDownward types → SameBelow n types more → (id : TypeId) → id.0 < n → (v : Value) → is_in types id v ≡ is_in more id v
is_in_stays n types more h s id m v = ap (λ (f : Value → Bool). f v) (stays (Value → Bool) in_within in_type (λ d ts x. refl) in_type_same n types more h s id m)

pub first_stays : (n : ℕ) (types more : List Sort) → IsDownward types → SameBelow n types more → (id : TypeId) → id.0 < n → first types id ≡ first more id
first_stays = stays Value first_within first_of_sort (λ d ts x. refl) first_same

pub all_cells_stay : (n : ℕ) (types more : List Sort) → IsDownward types → SameBelow n types more → (id : TypeId) → id.0 < n → all_cells types id ≡ all_cells more id
all_cells_stay = stays ℕ cells_within cells_of_sort (λ d ts x. refl) cells_same

pub depth_stays : (n : ℕ) (types more : List Sort) → IsDownward types → SameBelow n types more → (id : TypeId) → id.0 < n → depth types id ≡ depth more id
depth_stays = stays ℕ depth_within depth_of_sort (λ d ts x. refl) depth_same

pub is_supported_stays : (n : ℕ) (types more : List Sort) → IsDownward types → SameBelow n types more → (id : TypeId) → id.0 < n → is_supported types id ≡ is_supported more id
is_supported_stays = stays Bool is_supported_within is_supported_sort (λ d ts x. refl) supported_same

pub all_cells_behind : (n : ℕ) (types more : List Sort) → IsDownward types → SameBelow n types more → Below n (slice_get more n)
    → all_cells more (record { 0 = n }) ≡ cells_of_sort (all_cells types) (slice_get more n)
all_cells_behind = behind ℕ cells_within cells_of_sort (λ d ts x. refl) cells_same

pub depth_behind : (n : ℕ) (types more : List Sort) → IsDownward types → SameBelow n types more → Below n (slice_get more n)
    → depth more (record { 0 = n }) ≡ depth_of_sort (depth types) (slice_get more n)
depth_behind = behind ℕ depth_within depth_of_sort (λ d ts x. refl) depth_same

pub is_supported_behind : (n : ℕ) (types more : List Sort) → IsDownward types → SameBelow n types more → Below n (slice_get more n)
    → is_supported more (record { 0 = n }) ≡ is_supported_sort (is_supported types) (slice_get more n)
is_supported_behind = behind Bool is_supported_within is_supported_sort (λ d ts x. refl) supported_same
