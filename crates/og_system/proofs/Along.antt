-- Ways and what they carry, in tables; loops over paths and over signals.
use Rattle.std.proofs.Common.{◌≡◌, ℕ, ◌+◌, ◌≤◌, ◌<◌, Bool, true, false, cond, ◌||◌, List, [], ◌∷◌, ◌++◌, length, get_or, map, Option, Some, None, refl, sym, ap, ◌∙◌, append_assoc, if◌then◌else◌}
use mathlib.Core.Path.{fun_ext}
use Rattle.std.specs.List.{flat_map, filter, list_any}
use Rattle.std.proofs.lemmas.List.{append-nil, map-append}
use Rattle.std.proofs.lemmas.List.Folds.{list_any-append}
use Rattle.og_names.proofs.Loops.{Left, left_first, left_more, left_all}
use Rattle.og_ast.specs.declared.ground.Name.{Name}
use Rattle.og_ast.specs.declared.system.PathTree.{PathTree}
use Rattle.og_ast.specs.declared.system.ProcessTree.{ProcessTree}
use Rattle.og_ast.specs.declared.system.SigTree.{SigTree}
use Rattle.og_ast.specs.declared.system.Unit.{Unit as UnitTree}
use Rattle.og_system.specs.declared.ways as code
use Rattle.og_system.specs.Scopes.{routes_in_block}
use Rattle.og_system.specs.Bodies.{Home}
use Rattle.og_system.specs.Tables.{is_in, with_names}
use Rattle.og_system.specs.Ways.{Ways, Declaration, declaration, Directed, is_at, is_named, along, has_any, ways, carried, carried_to, carried_from, paths_of_routes, paths_of_channels, directed, directed_signals, all_signals}
use Rattle.og_system.specs.WayTables.{nothing_carried, with_path, with_paths, way_tables, directed_by}
use Rattle.og_system.proofs.Adding.{with_both}
use Rattle.og_system.proofs.ByTables.{in_names}

-- ---- tables along paths

pub paths_both : (name : Name) (tables : code.WayTables.WayTables) (xs ys : List PathTree) → with_paths name tables (xs ++ ys) ≡ with_paths name (with_paths name tables xs) ys
paths_both name tables [] ys = refl
paths_both name tables (x ∷ xs) ys = paths_both name (with_path name tables x) xs ys

-- after what stands before the i-th
pub record Passing {X : Type 0} (name : Name) (f : X → List PathTree) (xs : List X) (i : ℕ) (now first : code.WayTables.WayTables) : Type 0 where
  pub left : Left (λ ys. with_paths name now (flat_map f ys)) xs i (with_paths name first (flat_map f xs))

pub passing_first : {X : Type 0} (name : Name) (f : X → List PathTree) (xs : List X) (first : code.WayTables.WayTables) → Passing name f xs 0 first first
passing_first name f xs first = record { left = left_first (λ ys. with_paths name first (flat_map f ys)) xs }

pub passing_more : {X : Type 0} (name : Name) (f : X → List PathTree) (xs : List X) (i : ℕ) (x : X) (now next first : code.WayTables.WayTables)
    → i < length xs → x ≡ get_or xs i x → next ≡ with_paths name now (f x) → Passing name f xs i now first → Passing name f xs (i + 1) next first
passing_more name f xs i x now next first lt at is passing = record {
  left = left_more (λ ys. with_paths name now (flat_map f ys)) (λ ys. with_paths name next (flat_map f ys)) xs i x _ lt at
      (λ ys. paths_both name now (f x) (flat_map f ys) ∙ ap (λ t. with_paths name t (flat_map f ys)) (sym is)) passing.left;
}

pub passing_all : {X : Type 0} (name : Name) (f : X → List PathTree) (xs : List X) (i : ℕ) (now first : code.WayTables.WayTables)
    → length xs ≤ i → Passing name f xs i now first → now ≡ with_paths name first (flat_map f xs)
passing_all name f xs i now first le passing = left_all (λ ys. with_paths name now (flat_map f ys)) xs i _ le passing.left

-- the same, path by path
pub record PassingEach (name : Name) (xs : List PathTree) (i : ℕ) (now first : code.WayTables.WayTables) : Type 0 where
  pub left : Left (with_paths name now) xs i (with_paths name first xs)

pub each_first : (name : Name) (xs : List PathTree) (first : code.WayTables.WayTables) → PassingEach name xs 0 first first
each_first name xs first = record { left = left_first (with_paths name first) xs }

pub each_more : (name : Name) (xs : List PathTree) (i : ℕ) (x : PathTree) (now next first : code.WayTables.WayTables)
    → i < length xs → x ≡ get_or xs i x → next ≡ with_path name now x → PassingEach name xs i now first → PassingEach name xs (i + 1) next first
each_more name xs i x now next first lt at is passing = record {
  left = left_more (with_paths name now) (with_paths name next) xs i x _ lt at (λ ys. ap (λ t. with_paths name t ys) (sym is)) passing.left;
}

pub each_all : (name : Name) (xs : List PathTree) (i : ℕ) (now first : code.WayTables.WayTables) → length xs ≤ i → PassingEach name xs i now first → now ≡ with_paths name first xs
each_all name xs i now first le passing = left_all (with_paths name now) xs i _ le passing.left

-- ---- paths that do not name the process carry nothing

unnamed : (name : Name) (tables : code.WayTables.WayTables) (path : PathTree) → is_named name path ≡ false → with_path name tables path ≡ tables
unnamed name tables path h = by (is_at name path.from) (is_at name path.to) h
  where
    by : (from to : Bool) → (from || to) ≡ false
        → ◌≡◌ {A = code.WayTables.WayTables}
        (record { both = tables.both; incoming = with_names tables.incoming (carried to path.signals); outgoing = with_names tables.outgoing (carried from path.signals) })
        tables
    by true to e = cc
    by false true e = cc
    by false false e = refl

filtered : (name : Name) (tables : code.WayTables.WayTables) (paths : List PathTree) → with_paths name tables (filter (is_named name) paths) ≡ with_paths name tables paths
filtered name tables [] = refl
filtered name tables (p ∷ ps) = by (is_named name p) refl (filtered name (with_path name tables p) ps) (filtered name tables ps)
  where
    by : (b : Bool) → is_named name p ≡ b → with_paths name (with_path name tables p) (filter (is_named name) ps) ≡ with_paths name (with_path name tables p) ps
        → with_paths name tables (filter (is_named name) ps) ≡ with_paths name tables ps
        → with_paths name tables (cond b (p ∷ filter (is_named name) ps) (filter (is_named name) ps)) ≡ with_paths name (with_path name tables p) ps
    by true e with it = with
    by false e with it = it ∙ ap (λ t. with_paths name t ps) (sym (unnamed name tables p e))

-- ---- which ways there are

pub by_routes : (process : ProcessTree) (home : Home) → has_any (routes_in_block home.block) ≡ true → with_paths process.name (nothing_carried false) (paths_of_routes home.block) ≡ way_tables (ways process home)
by_routes process home yes' =
    sym (filtered process.name (nothing_carried false) (paths_of_routes home.block))
    ∙ ap (λ b. way_tables (if b then Some (along process.name (paths_of_routes home.block))
    else (if has_any (along home.block.name (paths_of_channels home.system)).paths then Some (along home.block.name (paths_of_channels home.system)) else None))) (sym yes')

pub by_channels : (process : ProcessTree) (home : Home) → has_any (routes_in_block home.block) ≡ false → has_any (along home.block.name (paths_of_channels home.system)).paths ≡ true
    → with_paths home.block.name (nothing_carried false) (paths_of_channels home.system) ≡ way_tables (ways process home)
by_channels process home no' yes' =
    sym (filtered home.block.name (nothing_carried false) (paths_of_channels home.system))
    ∙ ap (λ b. way_tables (if b then Some (along home.block.name (paths_of_channels home.system)) else None)) (sym yes')
    ∙ ap (λ b. way_tables (if b then Some (along process.name (paths_of_routes home.block))
    else (if has_any (along home.block.name (paths_of_channels home.system)).paths then Some (along home.block.name (paths_of_channels home.system)) else None))) (sym no')

pub by_neither : (process : ProcessTree) (home : Home) → has_any (routes_in_block home.block) ≡ false → has_any (along home.block.name (paths_of_channels home.system)).paths ≡ false
    → nothing_carried true ≡ way_tables (ways process home)
by_neither process home no' none' =
    ap (λ b. way_tables (if b then Some (along home.block.name (paths_of_channels home.system)) else None)) (sym none')
    ∙ ap (λ b. way_tables (if b then Some (along process.name (paths_of_routes home.block))
    else (if has_any (along home.block.name (paths_of_channels home.system)).paths then Some (along home.block.name (paths_of_channels home.system)) else None))) (sym no')

any_both : {X : Type 0} (xs ys : List X) → has_any (xs ++ ys) ≡ (has_any xs || has_any ys)
any_both [] ys = refl
any_both (x ∷ xs) ys = refl

pub any_each : {X A : Type 0} (f : X → List A) (xs : List X) → list_any (λ x. has_any (f x)) xs ≡ has_any (flat_map f xs)
any_each f [] = refl
any_each f (x ∷ xs) = ap (λ b. has_any (f x) || b) (any_each f xs) ∙ sym (any_both (f x) (flat_map f xs))

any_kept : {A : Type 0} (p : A → Bool) (xs : List A) → list_any p xs ≡ has_any (filter p xs)
any_kept p [] = refl
any_kept p (x ∷ xs) = by (p x) (any_kept p xs)
  where
    by : (b : Bool) → list_any p xs ≡ has_any (filter p xs) → (b || list_any p xs) ≡ has_any (cond b (x ∷ filter p xs) (filter p xs))
    by true e = refl
    by false e = e

any_within : {X A : Type 0} (p : A → Bool) (f : X → List A) (xs : List X) → list_any (λ x. list_any p (f x)) xs ≡ list_any p (flat_map f xs)
any_within p f [] = refl
any_within p f (x ∷ xs) = ap (λ b. list_any p (f x) || b) (any_within p f xs) ∙ sym (list_any-append p (f x) (flat_map f xs))

pub any_kept_each : {X A : Type 0} (p : A → Bool) (f : X → List A) (xs : List X) → list_any (λ x. list_any p (f x)) xs ≡ has_any (filter p (flat_map f xs))
any_kept_each p f xs = any_within p f xs ∙ any_kept p (flat_map f xs)

-- ---- what is read of the tables

incoming_is : (name : Name) (tables : code.WayTables.WayTables) (paths : List PathTree) → (with_paths name tables paths).incoming ≡ with_names tables.incoming (flat_map (carried_to name) paths)
incoming_is name tables [] = refl
incoming_is name tables (p ∷ ps) = incoming_is name (with_path name tables p) ps ∙ sym (with_both tables.incoming (carried_to name p) (flat_map (carried_to name) ps))

outgoing_is : (name : Name) (tables : code.WayTables.WayTables) (paths : List PathTree) → (with_paths name tables paths).outgoing ≡ with_names tables.outgoing (flat_map (carried_from name) paths)
outgoing_is name tables [] = refl
outgoing_is name tables (p ∷ ps) = outgoing_is name (with_path name tables p) ps ∙ sym (with_both tables.outgoing (carried_from name p) (flat_map (carried_from name) ps))

both_is : (name : Name) (tables : code.WayTables.WayTables) (paths : List PathTree) → (with_paths name tables paths).both ≡ tables.both
both_is name tables [] = refl
both_is name tables (p ∷ ps) = both_is name (with_path name tables p) ps

directed_is : (w : Option Ways) (d : Declaration) → directed_by (way_tables w) d ≡ directed w d
directed_is None d = refl
directed_is (Some w) d =
    let none = nothing_carried false in
    let both = both_is w.name none w.paths in
    let to = ap (λ t. is_in t d.signal.name) (incoming_is w.name none w.paths) ∙ in_names (flat_map (carried_to w.name) w.paths) d.signal.name in
    let from = ap (λ t. is_in t d.signal.name) (outgoing_is w.name none w.paths) ∙ in_names (flat_map (carried_from w.name) w.paths) d.signal.name in
    λ i. record { signal = d.signal; visible = d.visible; incoming = both i || to i; outgoing = both i || from i }

pub signals_are : (units : List UnitTree) (process : ProcessTree) (home : Home) → map (directed_by (way_tables (ways process home))) (all_signals units home) ≡ directed_signals units process home
signals_are units process home = ap (λ (d : Declaration → Directed). map d (all_signals units home)) (fun_ext (directed_is (ways process home)))

-- ---- loops over signals, which are listed with their directions

pub record Listing {X : Type 0} (d : Declaration → Directed) (f : X → List Declaration) (xs : List X) (i : ℕ) (now first : List Directed) : Type 0 where
  pub left : Left (λ ys. now ++ map d (flat_map f ys)) xs i (first ++ map d (flat_map f xs))

pub listing_first : {X : Type 0} (d : Declaration → Directed) (f : X → List Declaration) (xs : List X) (first : List Directed) → Listing d f xs 0 first first
listing_first d f xs first = record { left = left_first (λ ys. first ++ map d (flat_map f ys)) xs }

pub listing_more : {X : Type 0} (d : Declaration → Directed) (f : X → List Declaration) (xs : List X) (i : ℕ) (x : X) (now next first : List Directed)
    → i < length xs → x ≡ get_or xs i x → next ≡ now ++ map d (f x) → Listing d f xs i now first → Listing d f xs (i + 1) next first
listing_more d f xs i x now next first lt at is listing = record {
  left = left_more (λ ys. now ++ map d (flat_map f ys)) (λ ys. next ++ map d (flat_map f ys)) xs i x _ lt at
      (λ ys. ap (λ zs. now ++ zs) (map-append d (f x) (flat_map f ys)) ∙ sym (append_assoc now (map d (f x)) (map d (flat_map f ys))) ∙ ap (λ zs. zs ++ map d (flat_map f ys)) (sym is)) listing.left;
}

pub listing_all : {X : Type 0} (d : Declaration → Directed) (f : X → List Declaration) (xs : List X) (i : ℕ) (now first : List Directed)
    → length xs ≤ i → Listing d f xs i now first → now ≡ first ++ map d (flat_map f xs)
listing_all d f xs i now first le listing = sym (append-nil now) ∙ left_all (λ ys. now ++ map d (flat_map f ys)) xs i _ le listing.left

-- the same, signal by signal, all of which are visible or none of which are
pub record ListingEach (d : Declaration → Directed) (visible : Bool) (xs : List SigTree) (i : ℕ) (now first : List Directed) : Type 0 where
  pub left : Left (λ ys. now ++ map d (map (declaration visible) ys)) xs i (first ++ map d (map (declaration visible) xs))

pub listed_first : (d : Declaration → Directed) (visible : Bool) (xs : List SigTree) (first : List Directed) → ListingEach d visible xs 0 first first
listed_first d visible xs first = record { left = left_first (λ ys. first ++ map d (map (declaration visible) ys)) xs }

pub listed_more : (d : Declaration → Directed) (visible : Bool) (xs : List SigTree) (i : ℕ) (x : SigTree) (now next first : List Directed)
    → i < length xs → x ≡ get_or xs i x → next ≡ now ++ d (declaration visible x) ∷ [] → ListingEach d visible xs i now first → ListingEach d visible xs (i + 1) next first
listed_more d visible xs i x now next first lt at is listing = record {
  left = left_more (λ ys. now ++ map d (map (declaration visible) ys)) (λ ys. next ++ map d (map (declaration visible) ys)) xs i x _ lt at
      (λ ys. sym (append_assoc now (d (declaration visible x) ∷ []) (map d (map (declaration visible) ys))) ∙ ap (λ zs. zs ++ map d (map (declaration visible) ys)) (sym is)) listing.left;
}

pub listed_all : (d : Declaration → Directed) (visible : Bool) (xs : List SigTree) (i : ℕ) (now first : List Directed)
    → length xs ≤ i → ListingEach d visible xs i now first → now ≡ first ++ map d (map (declaration visible) xs)
listed_all d visible xs i now first le listing = sym (append-nil now) ∙ left_all (λ ys. now ++ map d (map (declaration visible) ys)) xs i _ le listing.left

pub ruleset along_ways = (paths_both, passing_first, passing_more, passing_all, each_first, each_more, each_all, by_routes, by_channels, by_neither, any_each, any_kept_each, signals_are, listing_first, listing_more, listing_all, listed_first, listed_more, listed_all)
