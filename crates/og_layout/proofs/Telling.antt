-- The numbers of the regions tell the paths of the active basic states: by the tree of active states, from the inside outward.
use Rattle.std.proofs.Common.{◌≡◌, ℕ, zero, suc, ◌+◌, Bool, true, false, if◌then◌else◌, List, [], ◌∷◌, ◌++◌, map, length, slice_get, Option, Some, None, refl, sym, ap, subst, ◌∙◌, arith}
use Rattle.std.specs.Option.{option_map}
use Rattle.std.proofs.lemmas.List.{append_assoc, append-nil, map-append}
use Rattle.std.proofs.lemmas.Option.{none-some, slice_get-map}
use Rattle.og_names.specs.declared.NameId.{NameId}
use Rattle.og_model.specs.declared.Model.{Model}
use Rattle.og_model.specs.declared.Partition.{Partition, out-Partition}
use Rattle.og_model.specs.declared.Scope.{Scope, out-Scope}
use Rattle.og_model.specs.declared.StateDef.{StateDef}
use Rattle.og_model.specs.declared.StateKind.TheOpen.{Composite, Aggregation, Basic as Plain}
use Rattle.og_model.specs.Configuration as Tree
use Rattle.og_model.specs.Configuration.{Kind, kind_of, state_at, under, paths_under, paths_of, paths_inside, paths_in_parts}
use Rattle.og_model.specs.RegionTypes as Leaves
use Rattle.og_model.specs.RegionTypes.{Region}
use Rattle.og_model.specs.Regions.{Insides, followed_by, leaf_under, region_under, insides_under, regions_of_partitions, kind_insides, state_insides, states_insides, insides_of, regions}
use Rattle.og_model.proofs.RegionLayers.{insides_is}
use Rattle.og_layout.specs.Layout.{Number, Leaf, NoLeaf, AnyLeaf, Numbers, behind_leaves, all_of, among, numbers_of, numbers_inside, numbers_of_parts, region_numbers, marked, marked_inside, marked_parts, told_path, told_by, told_paths, IsActive, IsInside, AreParts}
use Rattle.og_layout.specs.Named.{IsNumberOf, AreNumbersOf}
use Rattle.og_names.proofs.Truths.{same_value as some_is}

-- the path of a leaf of the region that is looked at
abbrev own_path : Leaves.Leaf → List (List NameId)
own_path leaf = if leaf.basic then leaf.path ∷ [] else []

-- The numbers of a part of the tree are those of a leaf and of as many regions as there are, and they tell these paths.
record Tells (x : Insides) (y : Numbers) (paths : List (List NameId)) : Type 0 where
  pub place : ℕ
  pub leaf : Leaves.Leaf
  pub is : y.leaf ≡ Leaf place
  pub at : slice_get x.leaves place ≡ Some leaf
  pub all : own_path leaf ++ told_paths x.regions y.regions ≡ paths
  pub equal : length x.regions ≡ length y.regions
  pub known : AreNumbersOf x.regions y.regions

-- ---- lists of regions

told_both : (rs qs : List Region) (ns ms : List Number) → length rs ≡ length ns → told_paths (rs ++ qs) (ns ++ ms) ≡ told_paths rs ns ++ told_paths qs ms
told_both [] qs [] ms e = refl
told_both [] qs (n ∷ ns) ms e = absurd (omega (arith, e))
told_both (r ∷ rs) qs [] ms e = absurd (omega (arith, e))
told_both (r ∷ rs) qs (n ∷ ns) ms e =
    ap (λ ps. told_by r n ++ ps) (told_both rs qs ns ms (omega (arith, e)))
    ∙ sym (append_assoc (told_by r n) (told_paths rs ns) (told_paths qs ms))

none_told : (rs : List Region) → told_paths rs (map (λ (r : Region). NoLeaf) rs) ≡ []
none_told [] = refl
none_told (r ∷ rs) = none_told rs

none_length : (n : Number) (rs : List Region) → length rs ≡ length (map (λ (r : Region). n) rs)
none_length n [] = refl
none_length n (r ∷ rs) = ap suc (none_length n rs)

length_both : {A B : Type 0} (xs ys : List A) (zs ws : List B) → length xs ≡ length zs → length ys ≡ length ws → length (xs ++ ys) ≡ length (zs ++ ws)
length_both [] ys [] ws e f = f
length_both [] ys (z ∷ zs) ws e f = absurd (omega (arith, e))
length_both (x ∷ xs) ys [] ws e f = absurd (omega (arith, e))
length_both (x ∷ xs) ys (z ∷ zs) ws e f = ap suc (length_both xs ys zs ws (omega (arith, e)) f)

length_mapped : {A B : Type 0} (f : A → B) (xs : List A) → length (map f xs) ≡ length xs
length_mapped f [] = refl
length_mapped f (x ∷ xs) = ap suc (length_mapped f xs)

get_first : {A : Type 0} (xs ys : List A) (k : ℕ) (x : A) → slice_get xs k ≡ Some x → slice_get (xs ++ ys) k ≡ Some x
get_first [] ys k x at = absurd (none-some x at)
get_first (z ∷ xs) ys zero x at = at
get_first (z ∷ xs) ys (suc k) x at = get_first xs ys k x at

get_later : {A : Type 0} (xs ys : List A) (k : ℕ) → slice_get (xs ++ ys) (length xs + k) ≡ slice_get ys k
get_later [] ys k = ap (slice_get ys) (none_before k)
  where
    none_before : (k : ℕ) → 0 + k ≡ k
    none_before k = omega (arith)
get_later (x ∷ xs) ys k = ap (slice_get (x ∷ (xs ++ ys))) (one_before (length xs) k) ∙ get_later xs ys k
  where
    one_before : (n k : ℕ) → suc n + k ≡ suc (n + k)
    one_before n k = omega (arith)

known_both : (rs qs : List Region) (ns ms : List Number) → AreNumbersOf rs ns → AreNumbersOf qs ms → AreNumbersOf (rs ++ qs) (ns ++ ms)
known_both [] qs [] ms one two = two
known_both [] qs (n ∷ ns) ms one two = absurd one
known_both (r ∷ rs) qs [] ms one two = absurd one
known_both (r ∷ rs) qs (n ∷ ns) ms one two = (one.0, known_both rs qs ns ms one.1 two)

known_none : (rs : List Region) → AreNumbersOf rs (map (λ (r : Region). NoLeaf) rs)
known_none [] = tt
known_none (r ∷ rs) = (tt, known_none rs)

known_by_leaves : (r q : Region) (n : Number) → r.leaves ≡ q.leaves → IsNumberOf r n → IsNumberOf q n
known_by_leaves r q (Leaf n) same is = (is.0, ap (λ leaves. slice_get leaves n) (sym same) ∙ is.1)
known_by_leaves r q NoLeaf same is = tt
known_by_leaves r q AnyLeaf same is = is

known_under : (name : NameId) (rs : List Region) (ns : List Number) → AreNumbersOf rs ns → AreNumbersOf (map (region_under name) rs) ns
known_under name [] [] known = tt
known_under name [] (n ∷ ns) known = absurd known
known_under name (r ∷ rs) [] known = absurd known
known_under name (r ∷ rs) (n ∷ ns) known = (known_by_leaves r (region_under name r) n refl known.0, known_under name rs ns known.1)

-- ---- one level further out

own_under : (name : NameId) (leaf : Leaves.Leaf) → own_path (leaf_under name leaf) ≡ under name (own_path leaf)
own_under name leaf = by_choice leaf.basic
  where
    by_choice : (b : Bool) → (if b then (name ∷ leaf.path) ∷ [] else []) ≡ under name (if b then leaf.path ∷ [] else [])
    by_choice true = refl
    by_choice false = refl

path_under : (name : NameId) (r : Region) (o : Option Leaves.Leaf) → told_path (region_under name r) o ≡ under name (told_path r o)
path_under name r None = refl
path_under name r (Some leaf) = by_choice leaf.basic
  where
    by_choice : (b : Bool) → (if b then (name ∷ (r.path ++ leaf.path)) ∷ [] else []) ≡ under name (if b then (r.path ++ leaf.path) ∷ [] else [])
    by_choice true = refl
    by_choice false = refl

by_under : (name : NameId) (r : Region) (n : Number) → told_by (region_under name r) n ≡ under name (told_by r n)
by_under name r (Leaf n) = path_under name r (slice_get r.leaves n)
by_under name r NoLeaf = refl
by_under name r AnyLeaf = refl

told_under : (name : NameId) (rs : List Region) (ns : List Number) → told_paths (map (region_under name) rs) ns ≡ under name (told_paths rs ns)
told_under name [] ns = refl
told_under name (r ∷ rs) [] = refl
told_under name (r ∷ rs) (n ∷ ns) =
    ap (λ ps. ps ++ told_paths (map (region_under name) rs) ns) (by_under name r n)
    ∙ ap (λ ps. under name (told_by r n) ++ ps) (told_under name rs ns)
    ∙ sym (map-append (λ path. name ∷ path) (told_by r n) (told_paths rs ns))

tells_under : (name : NameId) (x : Insides) (y : Numbers) (paths : List (List NameId)) → Tells x y paths → Tells (insides_under name x) y (under name paths)
tells_under name x y paths t = record {
  place = t.place;
  leaf = leaf_under name t.leaf;
  is = t.is;
  at = slice_get-map (leaf_under name) x.leaves t.place ∙ ap (option_map (leaf_under name)) t.at;
  all = ap (λ ps. ps ++ told_paths (map (region_under name) x.regions) y.regions) (own_under name t.leaf)
      ∙ ap (λ ps. under name (own_path t.leaf) ++ ps) (told_under name x.regions y.regions)
      ∙ sym (map-append (λ path. name ∷ path) (own_path t.leaf) (told_paths x.regions y.regions))
      ∙ ap (under name) t.all;
  equal = length_mapped (region_under name) x.regions ∙ t.equal;
  known = known_under name x.regions y.regions t.known;
}

-- ---- among the states of a scope

tells_first : (x z : Insides) (y : Numbers) (paths : List (List NameId)) → Tells x y paths → Tells (followed_by x z) (record { leaf = y.leaf; regions = y.regions ++ all_of NoLeaf z }) paths
tells_first x z y paths t = record {
  place = t.place;
  leaf = t.leaf;
  is = t.is;
  at = get_first x.leaves z.leaves t.place t.leaf t.at;
  all = ap (λ ps. own_path t.leaf ++ ps) (told_both x.regions z.regions y.regions (all_of NoLeaf z) t.equal
      ∙ ap (λ ps. told_paths x.regions y.regions ++ ps) (none_told z.regions)
      ∙ append-nil (told_paths x.regions y.regions))
      ∙ t.all;
  equal = length_both x.regions z.regions y.regions (all_of NoLeaf z) t.equal (none_length NoLeaf z.regions);
  known = known_both x.regions z.regions y.regions (all_of NoLeaf z) t.known (known_none z.regions);
}

tells_later : (z x : Insides) (y : Numbers) (paths : List (List NameId)) → Tells x y paths → Tells (followed_by z x) (record { leaf = behind_leaves (length z.leaves) y.leaf; regions = all_of NoLeaf z ++ y.regions }) paths
tells_later z x y paths t = record {
  place = length z.leaves + t.place;
  leaf = t.leaf;
  is = ap (behind_leaves (length z.leaves)) t.is;
  at = get_later z.leaves x.leaves t.place ∙ t.at;
  all = ap (λ ps. own_path t.leaf ++ ps) (told_both z.regions x.regions (all_of NoLeaf z) y.regions (none_length NoLeaf z.regions)
      ∙ ap (λ ps. ps ++ told_paths x.regions y.regions) (none_told z.regions))
      ∙ t.all;
  equal = length_both z.regions x.regions (all_of NoLeaf z) y.regions (none_length NoLeaf z.regions) t.equal;
  known = known_both z.regions x.regions (all_of NoLeaf z) y.regions (known_none z.regions) t.known;
}

tells_among : (ds : List StateDef) (k : ℕ) (d : StateDef) (inside : Kind → Numbers) (paths : List (List NameId)) → slice_get ds k ≡ Some d → Tells (state_insides insides_of d) (inside (kind_of d)) paths → Tells (states_insides insides_of ds) (among ds k inside) paths
tells_among [] k d inside paths at t = absurd (none-some d at)
tells_among (e ∷ ds) zero d inside paths at t =
    let same : d ≡ e = sym (some_is e d at) in
    tells_first (state_insides insides_of e) (states_insides insides_of ds) (inside (kind_of e)) paths
    (subst (λ (c : StateDef). Tells (state_insides insides_of c) (inside (kind_of c)) paths) same t)
tells_among (e ∷ ds) (suc k) d inside paths at t =
    tells_later (state_insides insides_of e) (states_insides insides_of ds) (among ds k inside) paths (tells_among ds k d inside paths at t)

-- ---- the whole tree

-- a partition and the regions inside it, before others
part_tells : (name : NameId) (x : Insides) (y : Numbers) (paths : List (List NameId)) (rest : List Region) (more : List Number) → Tells x y paths
    → told_paths ((record { path = name ∷ []; leaves = x.leaves } ∷ map (region_under name) x.regions) ++ rest) (y.leaf ∷ (y.regions ++ more)) ≡ under name paths ++ told_paths rest more
part_tells name x y paths rest more t =
    ap (λ n. told_by (record { path = name ∷ []; leaves = x.leaves }) n ++ told_paths (map (region_under name) x.regions ++ rest) (y.regions ++ more)) t.is
    ∙ ap (λ o. told_path (record { path = name ∷ []; leaves = x.leaves }) o ++ told_paths (map (region_under name) x.regions ++ rest) (y.regions ++ more)) t.at
    ∙ ap (λ ps. ps ++ told_paths (map (region_under name) x.regions ++ rest) (y.regions ++ more)) (own_under name t.leaf)
    ∙ ap (λ ps. under name (own_path t.leaf) ++ ps) (told_both (map (region_under name) x.regions) rest y.regions more (length_mapped (region_under name) x.regions ∙ t.equal)
    ∙ ap (λ ps. ps ++ told_paths rest more) (told_under name x.regions y.regions))
    ∙ sym (append_assoc (under name (own_path t.leaf)) (under name (told_paths x.regions y.regions)) (told_paths rest more))
    ∙ ap (λ ps. ps ++ told_paths rest more) (sym (map-append (λ path. name ∷ path) (own_path t.leaf) (told_paths x.regions y.regions)) ∙ ap (under name) t.all)

done_tells : (name : NameId) (x : Insides) (rest : List Region) (more : List Number)
    → told_paths ((record { path = name ∷ []; leaves = x.leaves } ∷ map (region_under name) x.regions) ++ rest) (NoLeaf ∷ (all_of NoLeaf x ++ more)) ≡ told_paths rest more
done_tells name x rest more =
    told_both (map (region_under name) x.regions) rest (all_of NoLeaf x) more (length_mapped (region_under name) x.regions ∙ none_length NoLeaf x.regions)
    ∙ ap (λ ps. ps ++ told_paths rest more) (told_under name x.regions (all_of NoLeaf x) ∙ ap (under name) (none_told x.regions))

parts_length : (name : NameId) (x : Insides) (rest : List Region) (n : Number) (ns more : List Number) → length x.regions ≡ length ns → length rest ≡ length more
    → length ((record { path = name ∷ []; leaves = x.leaves } ∷ map (region_under name) x.regions) ++ rest) ≡ length (n ∷ (ns ++ more))
parts_length name x rest n ns more e f =
    ap suc (length_both (map (region_under name) x.regions) rest ns more (length_mapped (region_under name) x.regions ∙ e) f)

-- a partition with what is inside it, before others
part_known : (name : NameId) (x : Insides) (rest : List Region) (n : Number) (ns more : List Number) → IsNumberOf (record { path = name ∷ []; leaves = x.leaves }) n → AreNumbersOf x.regions ns → AreNumbersOf rest more
    → AreNumbersOf ((record { path = name ∷ []; leaves = x.leaves } ∷ map (region_under name) x.regions) ++ rest) (n ∷ (ns ++ more))
part_known name x rest n ns more is inside others = (is, known_both (map (region_under name) x.regions) rest ns more (known_under name x.regions ns inside) others)

leaf_known : (path : List NameId) (x : Insides) (y : Numbers) (paths : List (List NameId)) → Tells x y paths → IsNumberOf (record { path = path; leaves = x.leaves }) y.leaf
leaf_known path x y paths t = subst (IsNumberOf (record { path = path; leaves = x.leaves })) (sym t.is) (t.leaf, t.at)

record PartsTell (rs : List Region) (ns : List Number) (paths : List (List NameId)) : Type 0 where
  pub all : told_paths rs ns ≡ paths
  pub equal : length rs ≡ length ns
  pub known : AreNumbersOf rs ns

mutual
  tells : (m : Scope) (a : Tree.Active) → IsActive m a → Tells (insides_of m) (numbers_of m (marked a)) (paths_of m a)
  tells m (Tree.At k inside) is =
      let d = is.0 in
      let inner = tells_inside (kind_of d) inside is.2 in
      let one = tells_under d.name (kind_insides insides_of (kind_of d)) (numbers_inside (kind_of d) (marked_inside inside)) (paths_inside (kind_of d) inside) inner in
      subst (λ x. Tells x (numbers_of m (marked (Tree.At k inside))) (paths_of m (Tree.At k inside))) (sym (insides_is m))
      (subst (λ o. Tells (states_insides insides_of (out-Scope m).states) (numbers_of m (marked (Tree.At k inside))) (paths_under o (λ kind. paths_inside kind inside))) (sym is.1)
      (tells_among (out-Scope m).states k d (λ kind. numbers_inside kind (marked_inside inside)) (under d.name (paths_inside (kind_of d) inside)) is.1 one))

  tells_inside : (kind : Kind) (inside : Tree.Inside) → IsInside kind inside → Tells (kind_insides insides_of kind) (numbers_inside kind (marked_inside inside)) (paths_inside kind inside)
  tells_inside Plain Tree.Basic is = record {
    place = 0;
    leaf = record { path = []; basic = true };
    is = refl;
    at = refl;
    all = refl;
    equal = refl;
    known = tt;
  }
  tells_inside Plain (Tree.Comp a) is = absurd is
  tells_inside Plain (Tree.Agg ps) is = absurd is
  tells_inside (Composite entry exit inner) Tree.Basic is = absurd is
  tells_inside (Composite entry exit inner) (Tree.Comp a) is = tells inner a is
  tells_inside (Composite entry exit inner) (Tree.Agg ps) is = absurd is
  tells_inside (Aggregation entry exit qs) Tree.Basic is = absurd is
  tells_inside (Aggregation entry exit qs) (Tree.Comp a) is = absurd is
  tells_inside (Aggregation entry exit qs) (Tree.Agg ps) is =
      let parts = tells_parts qs ps is in
      record {
        place = 0;
        leaf = record { path = []; basic = false };
        is = refl;
        at = refl;
        all = parts.all;
        equal = parts.equal;
        known = parts.known;
      }

  tells_parts : (qs : List Partition) (ps : Tree.Parts) → AreParts qs ps → PartsTell (regions_of_partitions insides_of qs) (numbers_of_parts qs (marked_parts ps)) (paths_in_parts qs ps)
  tells_parts [] Tree.NoParts is = record { all = refl; equal = refl; known = tt }
  tells_parts [] (Tree.Going a ps) is = absurd is
  tells_parts [] (Tree.Finished ps) is = absurd is
  tells_parts (q ∷ qs) Tree.NoParts is = absurd is
  tells_parts (q ∷ qs) (Tree.Going a ps) is =
      let m = (out-Partition q).inner in
      let name = (out-Partition q).name in
      let here = tells m a is.0 in
      let rest = tells_parts qs ps is.1 in
      record {
        all = part_tells name (insides_of m) (numbers_of m (marked a)) (paths_of m a) (regions_of_partitions insides_of qs) (numbers_of_parts qs (marked_parts ps)) here
            ∙ ap (λ paths. under name (paths_of m a) ++ paths) rest.all;
        equal = parts_length name (insides_of m) (regions_of_partitions insides_of qs) (numbers_of m (marked a)).leaf (numbers_of m (marked a)).regions (numbers_of_parts qs (marked_parts ps)) here.equal rest.equal;
        known = part_known name (insides_of m) (regions_of_partitions insides_of qs) (numbers_of m (marked a)).leaf (numbers_of m (marked a)).regions (numbers_of_parts qs (marked_parts ps))
            (leaf_known (name ∷ []) (insides_of m) (numbers_of m (marked a)) (paths_of m a) here) here.known rest.known;
      }
  tells_parts (q ∷ qs) (Tree.Finished ps) is =
      let m = (out-Partition q).inner in
      let name = (out-Partition q).name in
      let rest = tells_parts qs ps is in
      record {
        all = done_tells name (insides_of m) (regions_of_partitions insides_of qs) (numbers_of_parts qs (marked_parts ps)) ∙ rest.all;
        equal = parts_length name (insides_of m) (regions_of_partitions insides_of qs) NoLeaf (all_of NoLeaf (insides_of m)) (numbers_of_parts qs (marked_parts ps)) (none_length NoLeaf (insides_of m).regions) rest.equal;
        known = part_known name (insides_of m) (regions_of_partitions insides_of qs) NoLeaf (all_of NoLeaf (insides_of m)) (numbers_of_parts qs (marked_parts ps)) tt (known_none (insides_of m).regions) rest.known;
      }

-- the process is a region without a path
pub numbers_tell : (M : Model) (a : Tree.Active) → IsActive M.root a → told_paths (regions M) (region_numbers M (marked a)) ≡ paths_of M.root a
numbers_tell M a is =
    let t = tells M.root a is in
    let x = insides_of M.root in
    let y = numbers_of M.root (marked a) in
    ap (λ n. told_by (record { path = []; leaves = x.leaves }) n ++ told_paths x.regions y.regions) t.is
    ∙ ap (λ o. told_path (record { path = []; leaves = x.leaves }) o ++ told_paths x.regions y.regions) t.at
    ∙ t.all

-- and each number is one of its region
pub numbers_known : (M : Model) (a : Tree.Active) → IsActive M.root a → AreNumbersOf (regions M) (region_numbers M (marked a))
numbers_known M a is =
    let t = tells M.root a is in
    (leaf_known [] (insides_of M.root) (numbers_of M.root (marked a)) (paths_of M.root a) t, t.known)
