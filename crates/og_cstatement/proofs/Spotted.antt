-- A place that is resolved lies where its tree of cells has it.
use Rattle.std.proofs.Common.{◌≡◌, ℕ, ◌+◌, ◌≤◌, ℤ, List, [], ◌∷◌, Bool, true, Option, Some, None, Result, slice_get, unwrap_or, refl, sym, ap, ◌∙◌, arith}
use Rattle.std.specs.Option.{option_map}
use Rattle.std.proofs.lemmas.Option.{none-some}
use Rattle.og_names.proofs.Truths.{same_value}
use Rattle.og_ir.specs.Cells as cells
use Rattle.og_ir.specs.Cells.{Cells, row, part, part_at, count}
use Rattle.og_ir.specs.Arithmetic.{Trouble, Value}
use Rattle.og_ir.specs.FlatSteps.{Spot}
use Rattle.og_ir.proofs.ValueRead.{bound}
use Rattle.og_csubset.specs.declared.CProgram.{CProgram}
use Rattle.og_csubset.specs.declared.CGlobal.{CGlobal}
use Rattle.og_csubset.specs.declared.CType.{CType}
use Rattle.og_csubset.specs.declared.CPlace.{CPlace, size-CPlace}
use Rattle.og_csubset.specs.declared.CExpr.{CExpr, size-CExpr}
use Rattle.og_csubset.specs.Kinds.{Kind, place_in, global_names, global_kind, type_of_one, type_unless, blank_type, first_globals}
use Rattle.og_csubset.specs.Loading.{structs_known, cells_of_globals, kind_after, type_by}
use Rattle.og_csubset.specs.Step.{spot_by}
use Rattle.og_csubset.proofs.Depth.{path_below}
use Rattle.og_ccells.specs.Vectors.{before_inside, numbers_before_path}
use Rattle.og_ccells.specs.Layouts.{up_to, capped, kind_cells, globals_before, layout_of}
use Rattle.og_ccells.proofs.Widths.{most, up_to_small}
use Rattle.og_ccells.proofs.Counting.{count_globals}
use Rattle.og_ccells.proofs.Filling.{part_inside, path_inside}
use Rattle.og_ccells.proofs.Naming.{named, none_named}
use Rattle.og_ccells.proofs.Laid.{globals_lie}
use Rattle.og_ccells.proofs.Extents.{global_extent}
use Rattle.og_cstatement.specs.Meaning as m
use Rattle.og_cstatement.specs.Resolved.{expression_of, place_of, path_of, all_terms, all_offset, global_offset}
use Rattle.og_cstatement.proofs.Valued.{place_rolled}
use Rattle.og_cstatement.proofs.Numbered as numbered
use Rattle.og_cstatement.proofs.Alike.{Alike, alike_first, alike_there, alike_on}
use Rattle.og_cstatement.proofs.Walked.{furthest, one_of, Walks, goes, walk_alike}

-- A program whose structs hold earlier ones, and whose globals have no more cells than may be.
pub record Fits (P : CProgram) : Type 0 where
  pub known : structs_known [] P.structs ≡ true
  pub small : cells_of_globals P ≤ 16777216

abbrev pub shapes : CProgram → Cells
shapes P = row (first_globals P)

-- ---- globals

-- The global of a name, and where it lies.
record Placed (P : CProgram) (name : List ℕ) (kind : Kind) : Type 0 where
  base : ℕ
  one : CGlobal
  place : place_in name (global_names P) ≡ Some base
  there : slice_get P.globals base ≡ Some one
  kind_is : one_of one.kind ≡ kind

placed : (P : CProgram) (name : List ℕ) (kind : Kind) → global_kind P name ≡ Some kind → Placed P name kind
placed P name kind e = by_place (place_in name (global_names P)) refl
  where
    by_place : (o : Option ℕ) → place_in name (global_names P) ≡ o → Placed P name kind
    by_place None is =
        let none = none_named (λ (g : CGlobal). g.name.bytes) name P.globals is in
        absurd (none-some kind (sym (ap (λ o. cells.◌>>=◌ o (λ (g : CGlobal). Some (one_of g.kind))) none) ∙ e))
    by_place (Some base) is =
        let found = named (λ (g : CGlobal). g.name.bytes) name P.globals base is in
        record {
          base = base;
          one = found.one;
          place = is;
          there = found.there;
          kind_is = same_value (one_of found.one.kind) kind (sym (ap (λ o. cells.◌>>=◌ o (λ (g : CGlobal). Some (one_of g.kind))) found.first) ∙ e);
        }

offset_placed : (P : CProgram) (name : List ℕ) (kind : Kind) → cells_of_globals P ≤ most → (g : Placed P name kind) → global_offset P name ≡ globals_before P.structs g.base P.globals
offset_placed P name kind small g =
    ap (λ o. unwrap_or (cells.◌>>=◌ o (λ k. option_map (λ e. e.offset) (slice_get (layout_of P).extents k))) 0) g.place
    ∙ ap (λ o. unwrap_or (option_map (λ e. e.offset) o) 0) (global_extent P g.base g.one small g.there)

-- ---- places

-- A spot in the trees of cells is this place in the vector.
pub record Lands (P : CProgram) (t : CType) (spot : Spot) (at : ℕ) : Type 0 where
  pub there : part_at (spot.base ∷ spot.path) (shapes P) ≡ Some (blank_type P.structs t)
  pub at_is : numbers_before_path (spot.base ∷ spot.path) (shapes P) ≡ at

-- it lies inside
pub lands_inside : (P : CProgram) (t : CType) (spot : Spot) (at : ℕ) → Lands P t spot at → at + count (blank_type P.structs t) ≤ cells_of_globals P
lands_inside P t spot at lands =
    let inside = path_inside (spot.base ∷ spot.path) (shapes P) (blank_type P.structs t) lands.there in
    let place = lands.at_is in
    let all = count_globals P in
    omega (arith, inside, place, all)

low_place : (n : ℕ) → capped n ≤ furthest
unfolding up_to
low_place n = omega arith

-- a kind without a size is of its type
pub unsized : (t u : CType) (size : Option ℕ) → type_unless size t ≡ Some u → (let k : Kind = record { type = t; size = size } in k) ≡ one_of u
unsized t u None e = ap one_of (same_value t u e)
unsized t u (Some n) e = absurd (none-some u e)

module _ (P : CProgram) (xs : List ℤ) (fits : Fits P) where
  walked_lands : (place : CPlace) (kind last : Kind) (t : CType) (g : Placed P place.name.bytes kind) (path : List ℕ) (to : ℕ) → last ≡ one_of t
      → Walks P xs kind last place.path (capped (global_offset P place.name.bytes + all_offset (path_of P place.path) (Some kind))) path to
      → Lands P t (record { base = g.base; path = path }) to
  walked_lands place kind last t g path to one w =
      let small = fits.small in
      let lies = globals_lie P.structs P.globals g.base g.one g.there in
      let first : part g.base (shapes P) ≡ Some (kind_cells P.structs kind) = lies.there ∙ ap (λ k. Some (kind_cells P.structs k)) g.kind_is in
      let there : part_at (g.base ∷ path) (shapes P) ≡ Some (blank_type P.structs t) =
      ap (λ o. cells.◌>>=◌ o (part_at path)) first ∙ w.there ∙ ap (λ k. Some (kind_cells P.structs k)) one in
      let offset = offset_placed P place.name.bytes kind (omega (arith, small)) g in
      let inside = path_inside (g.base ∷ path) (shapes P) (blank_type P.structs t) there in
      let all = count_globals P in
      let before : numbers_before_path (g.base ∷ path) (shapes P) ≡ globals_before P.structs g.base P.globals + (all_offset (path_of P place.path) (Some kind) + w.far) =
      ap (λ n. n + before_inside (numbers_before_path path) (part g.base (shapes P))) lies.before_is
      ∙ ap (λ o. globals_before P.structs g.base P.globals + before_inside (numbers_before_path path) o) first
      ∙ ap (λ n. globals_before P.structs g.base P.globals + n) w.before_is in
      let start = up_to_small most (global_offset P place.name.bytes + all_offset (path_of P place.path) (Some kind)) (omega (arith, offset, before, inside, all, small)) in
      let to_is = w.to_is in
      record { there = there; at_is = omega (arith, to_is, start, offset, before, inside, all, small) }

  place_led : (place : CPlace) (kind : Kind) → global_kind P place.name.bytes ≡ Some kind
      → m.place_of xs (place_of P place) ≡ goes P xs (capped (global_offset P place.name.bytes + all_offset (path_of P place.path) (Some kind))) (all_terms (path_of P place.path) (Some kind))
  place_led place kind e =
      ap (m.place_of xs) (numbered.place-is P place)
      ∙ place_rolled xs (capped (global_offset P place.name.bytes + all_offset (path_of P place.path) (global_kind P place.name.bytes))) (all_terms (path_of P place.path) (global_kind P place.name.bytes))
      ∙ ap (λ o. goes P xs (capped (global_offset P place.name.bytes + all_offset (path_of P place.path) o)) (all_terms (path_of P place.path) o)) e

  module _ (f : CExpr → Result ℤ Trouble) (num : CExpr → Bool) (d : ℕ) (same : (a : CExpr) → size-CExpr a ≤ d → num a ≡ true → f a ≡ m.value_of xs (expression_of P a)) where
    pub spot_alike : (place : CPlace) (t : CType) → size-CPlace place ≤ d → type_by num P place ≡ Some t → Alike (Lands P t) (spot_by f P place) (m.place_of xs (place_of P place))
    spot_alike place t deep e =
        let kind = bound (global_kind P place.name.bytes) _ t e in
        let last = bound (kind_after num P.structs kind.value place.path) type_of_one t kind.gives in
        let one = unsized last.value.type t last.value.size last.gives in
        let g = placed P place.name.bytes kind.value kind.is in
        let small = fits.small in
        let lies = globals_lie P.structs P.globals g.base g.one g.there in
        let inside = part_inside (shapes P) g.base _ lies.there in
        let all = count_globals P in
        let same_kind : count (kind_cells P.structs (one_of g.one.kind)) ≡ count (kind_cells P.structs kind.value) = ap (λ k. count (kind_cells P.structs k)) g.kind_is in
        let at = capped (global_offset P place.name.bytes + all_offset (path_of P place.path) (Some kind.value)) in
        alike_on (Lands P t) _ _ _ (place_led place kind.value kind.is)
        (alike_there (Lands P t) (place_in place.name.bytes (global_names P)) g.base Value _ _ g.place
        (alike_there (Lands P t) (global_kind P place.name.bytes) kind.value Value _ _ kind.is
        (alike_first (Walks P xs kind.value last.value place.path at) (Lands P t) _ _ (λ path. record { base = g.base; path = path })
        (walk_alike P xs fits.known f num d same place.path kind.value last.value (path_below place d deep) last.is (omega (arith, inside, all, same_kind, small)) at
        (low_place (global_offset P place.name.bytes + all_offset (path_of P place.path) (Some kind.value))))
        (λ path to w. walked_lands place kind.value last.value t g path to one w))))
