-- Violations stand at places of the units.
use Rattle.std.proofs.Common.{◌≡◌, ℕ, Bool, true, false, if◌then◌else◌, List, [], ◌∷◌, ◌++◌, Some, Contains, subst}
use Rattle.std.specs.Prelude.{All}
use Rattle.std.specs.List.{flat_map, AllByRecursion}
use Rattle.std.proofs.lemmas.List.Elements.{All-from_recursion, recursion_from_All, All-contains_itself}
use Rattle.og_base.specs.declared.Place.{Place}
use Rattle.og_base.specs.declared.Rule.{Rule}
use Rattle.og_base.specs.declared.Rule.TheVariants.{N2, N4}
use Rattle.og_base.specs.declared.Violation.{Violation}
use Rattle.og_base.specs.Order.{comes_before, first_from, first_of}
use Rattle.og_places.specs.Contents.{places_in_units}
use Rattle.og_ast.specs.declared.ground.HyphenedName.{HyphenedName}
use Rattle.og_ast.specs.declared.ground.Name.{Name}
use Rattle.og_ast.specs.declared.system.BlockPart.{BlockPart}
use Rattle.og_ast.specs.declared.system.BlockPart.TheVariants as member
use Rattle.og_ast.specs.declared.system.SigTree.{SigTree}
use Rattle.og_ast.specs.declared.system.SystemPart.{SystemPart}
use Rattle.og_ast.specs.declared.system.SystemPart.TheVariants as piece
use Rattle.og_ast.specs.declared.system.SystemTree.{SystemTree}
use Rattle.og_ast.specs.declared.system.Unit.{Unit as UnitTree}
use Rattle.og_ast.specs.declared.system.Unit.TheVariants as unit
use Rattle.og_system.specs.Scopes.{is_among, violated_if, looked_up}
use Rattle.og_declared.specs.Spaces.{has_two_underscores, spaces, declared_after, each_declared_after, in_space}
use Rattle.og_declared.specs.Sorts.{hyphened_key, front_of, is_type, is_seen_in_system, is_seen_in_block, in_sort, in_signal, in_block_part, in_system_part, in_unit, in_sorts}
use Rattle.og_declared.specs.Violations.{violations, first_violation}
use Rattle.og_declared.proofs.Looking.{names_in_sort, names_in_signal, names_in_block_part, names_in_part, names_in_unit, all_of, names_looked_at}
use Rattle.og_declared.proofs.Holding.{all_held}

each_both : {X : Type 0} (P : X → Type 0) (xs ys : List X) → AllByRecursion P xs → AllByRecursion P ys → AllByRecursion P (xs ++ ys)
each_both P [] ys p q = q
each_both P (x ∷ xs) ys p q = (p.0, each_both P xs ys p.1 q)

front : {X : Type 0} (P : X → Type 0) (xs ys : List X) → AllByRecursion P (xs ++ ys) → AllByRecursion P xs
front P [] ys all = tt
front P (x ∷ xs) ys all = (all.0, front P xs ys all.1)

back : {X : Type 0} (P : X → Type 0) (xs ys : List X) → AllByRecursion P (xs ++ ys) → AllByRecursion P ys
back P [] ys all = all
back P (x ∷ xs) ys all = back P xs ys all.1

-- what holds of the place of each name holds of the place of each violation
module _ (R : Place → Type 0) where
  abbrev Named : Name → Type 0
  Named name = R name.place

  abbrev Stands : Violation → Type 0
  Stands v = R v.place

  each_piece : {X : Type 0} (f : X → List Violation) (g : X → List Name) → ((x : X) → AllByRecursion Named (g x) → AllByRecursion Stands (f x))
      → (xs : List X) → AllByRecursion Named (flat_map g xs) → AllByRecursion Stands (flat_map f xs)
  each_piece f g h [] all = tt
  each_piece f g h (x ∷ xs) all =
      each_both Stands (f x) (flat_map f xs) (h x (front Named (g x) (flat_map g xs) all)) (each_piece f g h xs (back Named (g x) (flat_map g xs) all))

  if_stands : (broken : Bool) (rule : Rule) (name : Name) → Named name → AllByRecursion Stands (violated_if broken rule name)
  if_stands true rule name at = (at, tt)
  if_stands false rule name at = tt

  looked_up_stands : (own any : Bool) (name : Name) → Named name → AllByRecursion Stands (looked_up own any name)
  looked_up_stands true any name at = tt
  looked_up_stands false true name at = (at, tt)
  looked_up_stands false false name at = (at, tt)

  -- ---- spaces

  each_stands : (earlier names : List Name) → AllByRecursion Named names → AllByRecursion Stands (each_declared_after earlier names)
  each_stands earlier [] all = tt
  each_stands earlier (name ∷ names) all =
      each_both Stands (declared_after earlier name) (each_declared_after (earlier ++ name ∷ []) names)
      (each_both Stands (violated_if (is_among earlier name) N2 name) (violated_if (has_two_underscores name.word.bytes) N4 name)
      (if_stands (is_among earlier name) N2 name all.0) (if_stands (has_two_underscores name.word.bytes) N4 name all.0))
      (each_stands (earlier ++ name ∷ []) names all.1)

  space_stands : (names : List Name) → AllByRecursion Named (all_of names) → AllByRecursion Stands (in_space names)
  space_stands names all = each_stands [] names all

  -- ---- types

  front_stands : (signal : Name) (parts : List Name) → Named signal → AllByRecursion Named parts → Named (front_of signal parts)
  front_stands signal [] at all = at
  front_stands signal (part ∷ parts) at all = all.0

  module _ (types constants : List (List ℕ)) (units : List UnitTree) where
    signal_stands : (other : List ℕ → Bool) (signal : SigTree) → AllByRecursion Named (names_in_signal signal) → AllByRecursion Stands (in_signal types other signal)
    signal_stands other signal all =
        each_piece (in_sort types other signal.name) names_in_sort
        (λ (sort : HyphenedName) parts. looked_up_stands (is_type types (hyphened_key sort)) (other (hyphened_key sort)) (front_of signal.name sort.parts) (front_stands signal.name sort.parts all.0 parts))
        signal.sorts all.1

    signals_stand : (other : List ℕ → Bool) (signals : List SigTree) → AllByRecursion Named (flat_map names_in_signal signals) → AllByRecursion Stands (flat_map (in_signal types other) signals)
    signals_stand other signals all = each_piece (in_signal types other) names_in_signal (signal_stands other) signals all

    block_part_stands : (other : List ℕ → Bool) (part : BlockPart) → AllByRecursion Named (names_in_block_part part) → AllByRecursion Stands (in_block_part types other part)
    block_part_stands other (member.Signal signal) all = signals_stand other signal.signals all
    block_part_stands other (member.Route route) all = tt
    block_part_stands other (member.Link link) all = tt
    block_part_stands other (member.Process process) all = tt
    block_part_stands other (member.Reference reference) all = tt

    part_stands : (system : SystemTree) (part : SystemPart) → AllByRecursion Named (names_in_part part) → AllByRecursion Stands (in_system_part types constants units system part)
    part_stands system (piece.Use use') all = tt
    part_stands system (piece.Signal signal) all = signals_stand (is_seen_in_system constants units system) signal.signals all
    part_stands system (piece.Channel channel) all = tt
    part_stands system (piece.Procedure procedure) all = tt
    part_stands system (piece.Block block) all =
        each_piece (in_block_part types (is_seen_in_block constants units system block)) names_in_block_part (block_part_stands (is_seen_in_block constants units system block)) block.parts all

    unit_stands : (one : UnitTree) → AllByRecursion Named (names_in_unit one) → AllByRecursion Stands (in_unit types constants units one)
    unit_stands (unit.Use use') all = tt
    unit_stands (unit.System system) all = each_piece (in_system_part types constants units system) names_in_part (part_stands system) system.parts all
    unit_stands (unit.Process process) all = tt

    pub all_stand : AllByRecursion Named (names_looked_at units) → AllByRecursion Stands (violations types constants units)
    all_stand all =
        each_both Stands (flat_map in_space (spaces units)) (in_sorts types constants units)
        (each_piece in_space all_of space_stands (spaces units) (front Named (flat_map all_of (spaces units)) (flat_map names_in_unit units) all))
        (each_piece (in_unit types constants units) names_in_unit unit_stands units (back Named (flat_map all_of (spaces units)) (flat_map names_in_unit units) all))

  -- the first of violations is one of them
  first_stands : (best : Violation) (vs : List Violation) (v : Violation) → Stands best → AllByRecursion Stands vs → first_from (Some best) vs ≡ Some v → Stands v
  first_stands best [] v at all is = let same : best ≡ v = cc in subst Stands same at
  first_stands best (w ∷ vs) v at all is = by (comes_before w best) (first_stands w vs v all.0 all.1) (first_stands best vs v at all.1) is
    where
      by : (b : Bool) → (first_from (Some w) vs ≡ Some v → Stands v) → (first_from (Some best) vs ≡ Some v → Stands v)
          → first_from (if b then Some w else Some best) vs ≡ Some v → Stands v
      by true won stayed h = won h
      by false won stayed h = stayed h

  pub one_stands : (vs : List Violation) (v : Violation) → AllByRecursion Stands vs → first_of vs ≡ Some v → Stands v
  one_stands [] v all is = cc
  one_stands (w ∷ vs) v all is = first_stands w vs v all.0 all.1 is

abbrev InPlaces : List UnitTree → Place → Type 0
InPlaces units place = Contains (places_in_units units) place

in_units : (types constants : List (List ℕ)) (units : List UnitTree) → AllByRecursion (λ (v : Violation). InPlaces units v.place) (violations types constants units)
in_units types constants units =
    all_stand (InPlaces units) types constants units
    (all_held (InPlaces units) units (recursion_from_All (InPlaces units) (places_in_units units) (All-contains_itself (places_in_units units))))

pub each_in_units : (types constants : List (List ℕ)) (units : List UnitTree) → All (λ v. Contains (places_in_units units) v.place) (violations types constants units)
each_in_units types constants units = All-from_recursion (λ (v : Violation). InPlaces units v.place) (violations types constants units) (in_units types constants units)

pub first_in_units : (types constants : List (List ℕ)) (units : List UnitTree) (v : Violation) → first_violation types constants units ≡ Some v → Contains (places_in_units units) v.place
first_in_units types constants units v is = one_stands (InPlaces units) (violations types constants units) v (in_units types constants units) is
