-- The places of names that are looked at are among the places of the units.
use Rattle.std.proofs.Common.{List, [], ◌∷◌, ◌++◌, map}
use Rattle.std.specs.List.{flat_map, AllByRecursion}
use Rattle.og_base.specs.declared.Place.{Place}
use Rattle.og_places.specs.Contents.{places_in_names, places_in_hyphened, places_in_end, places_in_closing, places_in_sig, places_in_signal, places_in_block_part, places_in_system_part, places_in_block, places_in_system, places_in_unit, places_in_units}
use Rattle.og_ast.specs.declared.ground.HyphenedName.{HyphenedName}
use Rattle.og_ast.specs.declared.ground.Name.{Name}
use Rattle.og_ast.specs.declared.system.BlockPart.{BlockPart}
use Rattle.og_ast.specs.declared.system.BlockPart.TheVariants as member
use Rattle.og_ast.specs.declared.system.BlockTree.{BlockTree}
use Rattle.og_ast.specs.declared.system.SigTree.{SigTree}
use Rattle.og_ast.specs.declared.system.SignalTree.{SignalTree}
use Rattle.og_ast.specs.declared.system.SystemPart.{SystemPart}
use Rattle.og_ast.specs.declared.system.SystemPart.TheVariants as piece
use Rattle.og_ast.specs.declared.system.SystemTree.{SystemTree}
use Rattle.og_ast.specs.declared.system.Unit.{Unit as UnitTree}
use Rattle.og_ast.specs.declared.system.Unit.TheVariants as unit
use Rattle.og_system.specs.Scopes.{name_of_signal, signals_of_block_part, routes_of_block_part, processes_of_block_part, channels_of_system_part, blocks_of_system_part, procedures_of_system_part, processes_of_unit, processes_at_file_level}
use Rattle.og_declared.specs.Spaces.{signals_of_part, signals_of_unit, signals_in, spaces_of_part, spaces_of_unit}
use Rattle.og_declared.proofs.Looking.{names_in_sort, names_in_signal, names_in_block_part, names_in_part, names_in_unit, all_of, names_looked_at}

each_both : {X : Type 0} (P : X → Type 0) (xs ys : List X) → AllByRecursion P xs → AllByRecursion P ys → AllByRecursion P (xs ++ ys)
each_both P [] ys p q = q
each_both P (x ∷ xs) ys p q = (p.0, each_both P xs ys p.1 q)

front : {X : Type 0} (P : X → Type 0) (xs ys : List X) → AllByRecursion P (xs ++ ys) → AllByRecursion P xs
front P [] ys all = tt
front P (x ∷ xs) ys all = (all.0, front P xs ys all.1)

back : {X : Type 0} (P : X → Type 0) (xs ys : List X) → AllByRecursion P (xs ++ ys) → AllByRecursion P ys
back P [] ys all = all
back P (x ∷ xs) ys all = back P xs ys all.1

module _ (R : Place → Type 0) where
  abbrev Named : Name → Type 0
  Named name = R name.place

  abbrev Held : List Place → Type 0
  Held places = AllByRecursion R places

  abbrev AreNamed : List Name → Type 0
  AreNamed names = AllByRecursion Named names

  each_piece : {X : Type 0} (f : X → List Place) (g : X → List Name) → ((x : X) → Held (f x) → AreNamed (g x)) → (xs : List X) → Held (flat_map f xs) → AreNamed (flat_map g xs)
  each_piece f g h [] all = tt
  each_piece f g h (x ∷ xs) all =
      each_both Named (g x) (flat_map g xs) (h x (front R (f x) (flat_map f xs) all)) (each_piece f g h xs (back R (f x) (flat_map f xs) all))

  names_held : (names : List Name) → Held (places_in_names names) → AreNamed names
  names_held [] all = tt
  names_held (name ∷ names) all = (all.0, names_held names all.1)

  -- ---- what stands in units

  parts_held : (system : SystemTree) → Held (places_in_system system) → Held (flat_map places_in_system_part system.parts)
  parts_held system all =
      front R (flat_map places_in_system_part system.parts) (places_in_closing system.closing)
      (back R (places_in_end system.«end») (flat_map places_in_system_part system.parts ++ places_in_closing system.closing) all.1.1)

  block_parts_held : (block : BlockTree) → Held (places_in_block block) → Held (flat_map places_in_block_part block.parts)
  block_parts_held block all =
      front R (flat_map places_in_block_part block.parts) (places_in_closing block.closing)
      (back R (places_in_end block.«end») (flat_map places_in_block_part block.parts ++ places_in_closing block.closing) all.1.1)

  signals_held : (signal : SignalTree) → Held (places_in_signal signal) → Held (flat_map places_in_sig signal.signals)
  signals_held signal all = front R (flat_map places_in_sig signal.signals) (places_in_end signal.«end») all.1

  -- ---- signals

  each_signal : (signals : List SigTree) → Held (flat_map places_in_sig signals) → AreNamed (map name_of_signal signals)
  each_signal [] all = tt
  each_signal (s ∷ ss) all = (all.0, each_signal ss (back R (flat_map places_in_hyphened s.sorts) (flat_map places_in_sig ss) all.1))

  block_part_signals : (part : BlockPart) → Held (places_in_block_part part) → AreNamed (signals_of_block_part part)
  block_part_signals (member.Signal signal) all = each_signal signal.signals (signals_held signal all)
  block_part_signals (member.Route route) all = tt
  block_part_signals (member.Link link) all = tt
  block_part_signals (member.Process process) all = tt
  block_part_signals (member.Reference reference) all = tt

  part_signals : (part : SystemPart) → Held (places_in_system_part part) → AreNamed (signals_of_part part)
  part_signals (piece.Use use') all = tt
  part_signals (piece.Signal signal) all = each_signal signal.signals (signals_held signal all)
  part_signals (piece.Channel channel) all = tt
  part_signals (piece.Procedure procedure) all = tt
  part_signals (piece.Block block) all = each_piece places_in_block_part signals_of_block_part block_part_signals block.parts (block_parts_held block all)

  unit_signals : (one : UnitTree) → Held (places_in_unit one) → AreNamed (signals_of_unit one)
  unit_signals (unit.Use use') all = tt
  unit_signals (unit.System system) all = each_piece places_in_system_part signals_of_part part_signals system.parts (parts_held system all)
  unit_signals (unit.Process process) all = tt

  -- ---- other spaces

  unit_processes : (one : UnitTree) → Held (places_in_unit one) → AreNamed (processes_of_unit one)
  unit_processes (unit.Use use') all = tt
  unit_processes (unit.System system) all = tt
  unit_processes (unit.Process process) all = (all.1.0, tt)

  part_channels : (part : SystemPart) → Held (places_in_system_part part) → AreNamed (channels_of_system_part part)
  part_channels (piece.Use use') all = tt
  part_channels (piece.Signal signal) all = tt
  part_channels (piece.Channel channel) all = (all.1.0, tt)
  part_channels (piece.Procedure procedure) all = tt
  part_channels (piece.Block block) all = tt

  part_blocks : (part : SystemPart) → Held (places_in_system_part part) → AreNamed (blocks_of_system_part part)
  part_blocks (piece.Use use') all = tt
  part_blocks (piece.Signal signal) all = tt
  part_blocks (piece.Channel channel) all = tt
  part_blocks (piece.Procedure procedure) all = tt
  part_blocks (piece.Block block) all = (all.1.0, tt)

  part_procedures : (part : SystemPart) → Held (places_in_system_part part) → AreNamed (procedures_of_system_part part)
  part_procedures (piece.Use use') all = tt
  part_procedures (piece.Signal signal) all = tt
  part_procedures (piece.Channel channel) all = tt
  part_procedures (piece.Procedure procedure) all = (all.1.0, tt)
  part_procedures (piece.Block block) all = tt

  block_part_routes : (part : BlockPart) → Held (places_in_block_part part) → AreNamed (routes_of_block_part part)
  block_part_routes (member.Signal signal) all = tt
  block_part_routes (member.Route route) all = (all.1.0, tt)
  block_part_routes (member.Link link) all = tt
  block_part_routes (member.Process process) all = tt
  block_part_routes (member.Reference reference) all = tt

  block_part_processes : (part : BlockPart) → Held (places_in_block_part part) → AreNamed (processes_of_block_part part)
  block_part_processes (member.Signal signal) all = tt
  block_part_processes (member.Route route) all = tt
  block_part_processes (member.Link link) all = tt
  block_part_processes (member.Process process) all = (all.1.0, tt)
  block_part_processes (member.Reference reference) all = tt

  part_spaces : (part : SystemPart) → Held (places_in_system_part part) → AreNamed (flat_map all_of (spaces_of_part part))
  part_spaces (piece.Use use') all = tt
  part_spaces (piece.Signal signal) all = tt
  part_spaces (piece.Channel channel) all = tt
  part_spaces (piece.Procedure procedure) all = tt
  part_spaces (piece.Block block) all =
      let parts = block_parts_held block all in
      each_both Named (flat_map routes_of_block_part block.parts) (flat_map processes_of_block_part block.parts ++ [])
      (each_piece places_in_block_part routes_of_block_part block_part_routes block.parts parts)
      (each_both Named (flat_map processes_of_block_part block.parts) [] (each_piece places_in_block_part processes_of_block_part block_part_processes block.parts parts) tt)

  -- names in the parts of parts
  flat_named : {X : Type 0} (g : X → List (List Name)) (xs : List X) → AreNamed (flat_map (λ x. flat_map all_of (g x)) xs) → AreNamed (flat_map all_of (flat_map g xs))
  flat_named g [] all = tt
  flat_named g (x ∷ xs) all =
      both (g x) (flat_map g xs) (front Named (flat_map all_of (g x)) (flat_map (λ y. flat_map all_of (g y)) xs) all)
      (flat_named g xs (back Named (flat_map all_of (g x)) (flat_map (λ y. flat_map all_of (g y)) xs) all))
    where
      both : (these bs : List (List Name)) → AreNamed (flat_map all_of these) → AreNamed (flat_map all_of bs) → AreNamed (flat_map all_of (these ++ bs))
      both [] bs p q = q
      both (a ∷ these) bs p q = each_both Named a (flat_map all_of (these ++ bs)) (front Named a (flat_map all_of these) p) (both these bs (back Named a (flat_map all_of these) p) q)

  unit_spaces : (one : UnitTree) → Held (places_in_unit one) → AreNamed (flat_map all_of (spaces_of_unit one))
  unit_spaces (unit.Use use') all = tt
  unit_spaces (unit.System system) all =
      let parts = parts_held system all in
      let channels = flat_map channels_of_system_part system.parts in
      let blocks = flat_map blocks_of_system_part system.parts in
      let procedures = flat_map procedures_of_system_part system.parts in
      let inside = flat_map all_of (flat_map spaces_of_part system.parts) in
      each_both Named channels (blocks ++ (procedures ++ inside)) (each_piece places_in_system_part channels_of_system_part part_channels system.parts parts)
      (each_both Named blocks (procedures ++ inside) (each_piece places_in_system_part blocks_of_system_part part_blocks system.parts parts)
      (each_both Named procedures inside (each_piece places_in_system_part procedures_of_system_part part_procedures system.parts parts)
      (flat_named spaces_of_part system.parts (each_piece places_in_system_part (λ part. flat_map all_of (spaces_of_part part)) part_spaces system.parts parts))))
  unit_spaces (unit.Process process) all = tt

  -- ---- types

  sort_names : (sort : HyphenedName) → Held (places_in_hyphened sort) → AreNamed (names_in_sort sort)
  sort_names sort all = names_held sort.parts all

  signal_names : (signal : SigTree) → Held (places_in_sig signal) → AreNamed (names_in_signal signal)
  signal_names signal all = (all.0, each_piece places_in_hyphened names_in_sort sort_names signal.sorts all.1)

  block_part_names : (part : BlockPart) → Held (places_in_block_part part) → AreNamed (names_in_block_part part)
  block_part_names (member.Signal signal) all = each_piece places_in_sig names_in_signal signal_names signal.signals (signals_held signal all)
  block_part_names (member.Route route) all = tt
  block_part_names (member.Link link) all = tt
  block_part_names (member.Process process) all = tt
  block_part_names (member.Reference reference) all = tt

  part_names : (part : SystemPart) → Held (places_in_system_part part) → AreNamed (names_in_part part)
  part_names (piece.Use use') all = tt
  part_names (piece.Signal signal) all = each_piece places_in_sig names_in_signal signal_names signal.signals (signals_held signal all)
  part_names (piece.Channel channel) all = tt
  part_names (piece.Procedure procedure) all = tt
  part_names (piece.Block block) all = each_piece places_in_block_part names_in_block_part block_part_names block.parts (block_parts_held block all)

  unit_names : (one : UnitTree) → Held (places_in_unit one) → AreNamed (names_in_unit one)
  unit_names (unit.Use use') all = tt
  unit_names (unit.System system) all = each_piece places_in_system_part names_in_part part_names system.parts (parts_held system all)
  unit_names (unit.Process process) all = tt

  -- ---- all of them

  pub all_held : (units : List UnitTree) → Held (places_in_units units) → AreNamed (names_looked_at units)
  all_held units all =
      let rest = flat_map all_of (flat_map spaces_of_unit units) in
      each_both Named (signals_in units ++ (processes_at_file_level units ++ rest)) (flat_map names_in_unit units)
      (each_both Named (signals_in units) (processes_at_file_level units ++ rest) (each_piece places_in_unit signals_of_unit unit_signals units all)
      (each_both Named (processes_at_file_level units) rest (each_piece places_in_unit processes_of_unit unit_processes units all)
      (flat_named spaces_of_unit units (each_piece places_in_unit (λ one. flat_map all_of (spaces_of_unit one)) unit_spaces units all))))
      (each_piece places_in_unit names_in_unit unit_names units all)
