-- Lists that are gathered item by item, and leaves and regions whose paths grow by one name.
use Rattle.std.proofs.Common.{◌≡◌, ℕ, zero, suc, ◌+◌, ◌<◌, ◌≤◌, List, [], ◌∷◌, ◌++◌, map, take, length, get_or, slice_get, Option, Some, refl, sym, ap, ◌∙◌, arith}
use Rattle.std.proofs.lemmas.List.{map-append, append_assoc, append-nil}
use Rattle.std.proofs.lemmas.Option.{slice_get_read}
use Rattle.std.proofs.Math.Seq.{take-length}
use Rattle.og_names.specs.declared.NameId.{NameId}
use Rattle.og_model.specs.declared.Scope.{Scope, out-Scope}
use Rattle.og_model.specs.declared.StateDef.{StateDef}
use Rattle.og_model.specs.declared.Partition.{Partition, out-Partition}
use Rattle.og_model.specs.RegionTypes.{Leaf, Region}
use Rattle.og_model.specs.declared.StateKind.{StateKind, out-StateKind}
use Rattle.og_model.specs.declared.StateKind as Kinds
use Rattle.og_model.specs.declared.StateKind.TheVariants as Variants
use Rattle.og_model.specs.declared.StateKind.TheOpen.{Composite, Aggregation}
use Rattle.og_model.specs.Configuration.{Kind}
use Rattle.og_model.specs.Regions.{Insides, insides_of, states_insides, state_insides, kind_insides, partition_regions, regions_of_partitions, leaf_under, region_under}
use Rattle.og_model.proofs.RegionLayers.{insides_is}
use Rattle.og_regions.specs.Placed.{leaf_at, leaves_at, region_at, regions_at}

-- ---- gathering

-- `all` puts what `one` gives of each item one after the other
pub record Gathers {X Y : Type 0} (one : X → List Y) (all : List X → List Y) : Type 0 where
  pub nothing : all [] ≡ []
  pub first : (x : X) (xs : List X) → all (x ∷ xs) ≡ one x ++ all xs

-- one item more
pub gathered_more : {X Y : Type 0} (one : X → List Y) (all : List X → List Y) → Gathers one all → (xs : List X) (i : ℕ) (x : X)
    → slice_get xs i ≡ Some x → all (take (suc i) xs) ≡ all (take i xs) ++ one x
gathered_more one all g [] i x at = cc
gathered_more one all g (y ∷ ys) zero x at =
    let same : y ≡ x = cc in
    g.first y [] ∙ ap (λ rest. one y ++ rest) g.nothing ∙ append-nil (one y) ∙ ap one same ∙ ap (λ front. front ++ one x) (sym g.nothing)
gathered_more one all g (y ∷ ys) (suc i) x at =
    g.first y (take (suc i) ys) ∙ ap (λ rest. one y ++ rest) (gathered_more one all g ys i x at)
    ∙ sym (append_assoc (one y) (all (take i ys)) (one x)) ∙ ap (λ front. front ++ one x) (sym (g.first y (take i ys)))

-- ---- paths

leaf_one_further : (path : List NameId) (name : NameId) (l : Leaf) → leaf_at path (leaf_under name l) ≡ leaf_at (path ++ name ∷ []) l
leaf_one_further path name l = ap (λ (p : List NameId). record { path = p; basic = l.basic }) (sym (append_assoc path (name ∷ []) l.path))

-- what stands under a name stands at a path that is one longer
pub leaves_one_further : (path : List NameId) (name : NameId) (ls : List Leaf) → leaves_at path (map (leaf_under name) ls) ≡ leaves_at (path ++ name ∷ []) ls
leaves_one_further path name [] = refl
leaves_one_further path name (l ∷ ls) = λ i. leaf_one_further path name l i ∷ leaves_one_further path name ls i

region_one_further : (path : List NameId) (name : NameId) (r : Region) → region_at path (region_under name r) ≡ region_at (path ++ name ∷ []) r
region_one_further path name r = ap (λ (p : List NameId). record { path = p; leaves = r.leaves }) (sym (append_assoc path (name ∷ []) r.path))

pub regions_one_further : (path : List NameId) (name : NameId) (rs : List Region) → regions_at path (map (region_under name) rs) ≡ regions_at (path ++ name ∷ []) rs
regions_one_further path name [] = refl
regions_one_further path name (r ∷ rs) = λ i. region_one_further path name r i ∷ regions_one_further path name rs i

-- ---- loops

-- one turn of a loop over the items
pub gathered_next : {X Y : Type 0} (one : X → List Y) (all : List X → List Y) → Gathers one all → (xs : List X) (i : ℕ) (x : X) (old before after : List Y)
    → i < length xs → x ≡ get_or xs i x → before ≡ old ++ all (take i xs) → after ≡ before ++ one x → after ≡ old ++ all (take (i + 1) xs)
gathered_next one all g xs i x old before after inside is so_far more =
    let one_more : i + 1 ≡ suc i = omega arith in
    rw (one_more, gathered_more one all g xs i x (slice_get_read xs (length xs) i x refl inside is))
    (more ∙ ap (λ front. front ++ one x) so_far ∙ append_assoc old (all (take i xs)) (one x))

-- the leaves of states, at a path
pub gathers_leaves : (path : List NameId) → Gathers (λ d. leaves_at path (state_insides insides_of d).leaves) (λ ds. leaves_at path (states_insides insides_of ds).leaves)
gathers_leaves path = record {
  nothing = refl;
  first = λ d ds. map-append (leaf_at path) (state_insides insides_of d).leaves (states_insides insides_of ds).leaves;
}

-- the regions of states, at a path
pub gathers_regions : (path : List NameId) → Gathers (λ d. regions_at path (state_insides insides_of d).regions) (λ ds. regions_at path (states_insides insides_of ds).regions)
gathers_regions path = record {
  nothing = refl;
  first = λ d ds. map-append (region_at path) (state_insides insides_of d).regions (states_insides insides_of ds).regions;
}

-- the regions of partitions, at a path
pub gathers_partitions : (path : List NameId) → Gathers (λ p. regions_at path (partition_regions p (insides_of (out-Partition p).inner))) (λ ps. regions_at path (regions_of_partitions insides_of ps))
gathers_partitions path = record {
  nothing = refl;
  first = λ p ps. map-append (region_at path) (partition_regions p (insides_of (out-Partition p).inner)) (regions_of_partitions insides_of ps);
}

-- after the last turn
pub gathered_end : {X Y : Type 0} (all : List X → List Y) (xs whole : List X) (i : ℕ) (old after : List Y)
    → xs ≡ whole → length xs ≤ i → i ≤ length xs → after ≡ old ++ all (take i xs) → after ≡ old ++ all whole
gathered_end all xs whole i old after same low high so_far =
    let at_end : i ≡ length xs = omega (arith, low, high) in
    so_far ∙ ap (λ n. old ++ all (take n xs)) at_end ∙ ap (λ ys. old ++ all ys) (take-length xs ∙ same)

-- a scope's leaves at the end of the loop over its states
pub scope_leaves_end : (path : List NameId) (m : Scope) (xs : List StateDef) (i : ℕ) (old after : List Leaf)
    → xs ≡ (out-Scope m).states → length xs ≤ i → i ≤ length xs → after ≡ old ++ leaves_at path (states_insides insides_of (take i xs)).leaves
    → after ≡ old ++ leaves_at path (insides_of m).leaves
scope_leaves_end path m xs i old after same low high so_far =
    gathered_end (λ ds. leaves_at path (states_insides insides_of ds).leaves) xs (out-Scope m).states i old after same low high so_far
    ∙ ap (λ (x : Insides). old ++ leaves_at path x.leaves) (sym (insides_is m))

pub scope_regions_end : (path : List NameId) (m : Scope) (xs : List StateDef) (i : ℕ) (old after : List Region)
    → xs ≡ (out-Scope m).states → length xs ≤ i → i ≤ length xs → after ≡ old ++ regions_at path (states_insides insides_of (take i xs)).regions
    → after ≡ old ++ regions_at path (insides_of m).regions
scope_regions_end path m xs i old after same low high so_far =
    gathered_end (λ ds. regions_at path (states_insides insides_of ds).regions) xs (out-Scope m).states i old after same low high so_far
    ∙ ap (λ (x : Insides). old ++ regions_at path x.regions) (sym (insides_is m))

-- ---- states with an inside

is_composite : (k : StateKind) (entry exit : Option ℕ) (m : Scope) → k ≡ Kinds.Composite entry exit m → out-StateKind k ≡ Composite entry exit m
is_composite k entry exit m is = ap out-StateKind is ∙ Variants.outs-Composite entry exit m

is_aggregation : (k : StateKind) (entry exit : Option ℕ) (ps : List Partition) → k ≡ Kinds.Aggregation entry exit ps → out-StateKind k ≡ Aggregation entry exit ps
is_aggregation k entry exit ps is = ap out-StateKind is ∙ Variants.outs-Aggregation entry exit ps

-- a composite state has the leaves of its inside, at a longer path
pub composite_leaves : (path longer : List NameId) (name : NameId) (k : StateKind) (entry exit : Option ℕ) (m : Scope) (old after : List Leaf)
    → k ≡ Kinds.Composite entry exit m → longer ≡ path ++ name ∷ [] → after ≡ old ++ leaves_at longer (insides_of m).leaves
    → after ≡ old ++ leaves_at path (map (leaf_under name) (kind_insides insides_of (out-StateKind k)).leaves)
composite_leaves path longer name k entry exit m old after is further more =
    more ∙ ap (λ p. old ++ leaves_at p (insides_of m).leaves) further
    ∙ ap (λ ls. old ++ ls) (sym (leaves_one_further path name (insides_of m).leaves))
    ∙ ap (λ (x : Kind). old ++ leaves_at path (map (leaf_under name) (kind_insides insides_of x).leaves)) (sym (is_composite k entry exit m is))

pub composite_regions : (path longer : List NameId) (name : NameId) (k : StateKind) (entry exit : Option ℕ) (m : Scope) (old after : List Region)
    → k ≡ Kinds.Composite entry exit m → longer ≡ path ++ name ∷ [] → after ≡ old ++ regions_at longer (insides_of m).regions
    → after ≡ old ++ regions_at path (map (region_under name) (kind_insides insides_of (out-StateKind k)).regions)
composite_regions path longer name k entry exit m old after is further more =
    more ∙ ap (λ p. old ++ regions_at p (insides_of m).regions) further
    ∙ ap (λ rs. old ++ rs) (sym (regions_one_further path name (insides_of m).regions))
    ∙ ap (λ (x : Kind). old ++ regions_at path (map (region_under name) (kind_insides insides_of x).regions)) (sym (is_composite k entry exit m is))

-- an aggregation has the regions of its partitions, at a longer path
pub aggregation_regions : (path longer : List NameId) (name : NameId) (k : StateKind) (entry exit : Option ℕ) (ps xs : List Partition) (i : ℕ) (old after : List Region)
    → k ≡ Kinds.Aggregation entry exit ps → longer ≡ path ++ name ∷ [] → xs ≡ ps → length xs ≤ i → i ≤ length xs
    → after ≡ old ++ regions_at longer (regions_of_partitions insides_of (take i xs))
    → after ≡ old ++ regions_at path (map (region_under name) (kind_insides insides_of (out-StateKind k)).regions)
aggregation_regions path longer name k entry exit ps xs i old after is further same low high so_far =
    gathered_end (λ qs. regions_at longer (regions_of_partitions insides_of qs)) xs ps i old after same low high so_far
    ∙ ap (λ p. old ++ regions_at p (regions_of_partitions insides_of ps)) further
    ∙ ap (λ rs. old ++ rs) (sym (regions_one_further path name (regions_of_partitions insides_of ps)))
    ∙ ap (λ (x : Kind). old ++ regions_at path (map (region_under name) (kind_insides insides_of x).regions)) (sym (is_aggregation k entry exit ps is))

-- ---- whole regions

-- at the empty path everything stands where it is
pub leaves_here : (ls : List Leaf) → leaves_at [] ls ≡ ls
leaves_here [] = refl
leaves_here (l ∷ ls) = λ i. l ∷ leaves_here ls i

pub regions_here : (rs : List Region) → regions_at [] rs ≡ rs
regions_here [] = refl
regions_here (r ∷ rs) = λ i. r ∷ regions_here rs i

-- the leaves that were gathered from nothing, at the empty path
pub leaves_gathered : (outer : List NameId) (x : Insides) (old leaves : List Leaf) → outer ≡ [] → old ≡ [] → leaves ≡ old ++ leaves_at outer x.leaves → leaves ≡ x.leaves
leaves_gathered outer x old leaves here none is =
    is ∙ ap (λ front. front ++ leaves_at outer x.leaves) none ∙ ap (λ p. leaves_at p x.leaves) here ∙ leaves_here x.leaves

-- a region followed by the regions inside it
pub region_followed : (path own longer : List NameId) (p : Partition) (x : Insides) (leaves : List Leaf) (old one after : List Region)
    → own ≡ path ++ (out-Partition p).name ∷ [] → longer ≡ path ++ (out-Partition p).name ∷ [] → leaves ≡ x.leaves
    → one ≡ old ++ record { path = own; leaves = leaves } ∷ [] → after ≡ one ++ regions_at longer x.regions
    → after ≡ old ++ regions_at path (partition_regions p x)
region_followed path own longer p x leaves old one after its_path further its_leaves pushed more =
    more ∙ ap (λ front. front ++ regions_at longer x.regions) pushed
    ∙ append_assoc old (record { path = own; leaves = leaves } ∷ []) (regions_at longer x.regions)
    ∙ ap (λ (q : List NameId). old ++ record { path = q; leaves = leaves } ∷ regions_at longer x.regions) its_path
    ∙ ap (λ (ls : List Leaf). old ++ record { path = path ++ (out-Partition p).name ∷ []; leaves = ls } ∷ regions_at longer x.regions) its_leaves
    ∙ ap (λ (rs : List Region). old ++ record { path = path ++ (out-Partition p).name ∷ []; leaves = x.leaves } ∷ rs)
    (ap (λ q. regions_at q x.regions) further ∙ sym (regions_one_further path (out-Partition p).name x.regions))

-- one turn of the loop over the partitions of an aggregation
pub partition_next : (longer path : List NameId) (ps : List Partition) (i : ℕ) (p : Partition) (old before after : List Region)
    → i < length ps → p ≡ get_or ps i p → before ≡ old ++ regions_at longer (regions_of_partitions insides_of (take i ps)) → path ≡ longer
    → after ≡ before ++ regions_at path (partition_regions p (insides_of (out-Partition p).inner))
    → after ≡ old ++ regions_at longer (regions_of_partitions insides_of (take (i + 1) ps))
partition_next longer path ps i p old before after inside is so_far same more =
    gathered_next (λ q. regions_at longer (partition_regions q (insides_of (out-Partition q).inner))) (λ qs. regions_at longer (regions_of_partitions insides_of qs))
    (gathers_partitions longer) ps i p old before after inside is so_far
    (more ∙ ap (λ q. before ++ regions_at q (partition_regions p (insides_of (out-Partition p).inner))) same)

-- the process, and then the partitions
pub process_followed : (m : Scope) (path : List NameId) (leaves : List Leaf) (none one rest after : List Region)
    → path ≡ [] → leaves ≡ (insides_of m).leaves → rest ≡ (insides_of m).regions → none ≡ [] → one ≡ none ++ record { path = path; leaves = leaves } ∷ []
    → after ≡ one ++ rest → after ≡ record { path = []; leaves = (insides_of m).leaves } ∷ (insides_of m).regions
process_followed m path leaves none one rest after here its_leaves its_regions nothing pushed joined =
    joined ∙ ap (λ front. front ++ rest) (pushed ∙ ap (λ front. front ++ record { path = path; leaves = leaves } ∷ []) nothing)
    ∙ ap (λ (q : List NameId). record { path = q; leaves = leaves } ∷ rest) here
    ∙ ap (λ (ls : List Leaf). record { path = []; leaves = ls } ∷ rest) its_leaves
    ∙ ap (λ (rs : List Region). record { path = []; leaves = (insides_of m).leaves } ∷ rs) its_regions

-- the regions that were gathered from nothing, at the empty path
pub regions_gathered : (outer : List NameId) (x : Insides) (old regions : List Region) → outer ≡ [] → old ≡ [] → regions ≡ old ++ regions_at outer x.regions → regions ≡ x.regions
regions_gathered outer x old regions here none is =
    is ∙ ap (λ front. front ++ regions_at outer x.regions) none ∙ ap (λ p. regions_at p x.regions) here ∙ regions_here x.regions
