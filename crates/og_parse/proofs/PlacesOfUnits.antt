-- The places that the units of a file keep are those of its tokens.
use Rattle.std.proofs.Common.{◌≡◌, List, [], ◌∷◌, refl}
use Rattle.std.specs.List.{All, Contains, flat_map}
use Rattle.std.proofs.lemmas.List.Elements.{All-contains, All-contains_itself, All-weaker, All-from_recursion, recursion_from_All}
use Rattle.og_base.specs.declared.Place.{Place}
use Rattle.og_lexer.specs.declared.Keyword.TheVariants as word
use Rattle.og_lexer.specs.declared.Mark.TheVariants as mark
use Rattle.og_lexer.specs.declared.Spanned.{Spanned}
use Rattle.og_ast.specs.declared.system.Unit.{Unit as UnitTree}
use Rattle.og_ast.specs.declared.system.Unit.TheVariants as unit
use Rattle.og_ast.specs.declared.system.UseTree.{UseTree}
use Rattle.og_ast.specs.declared.system.SystemTree.{SystemTree}
use Rattle.og_ast.specs.declared.system.SystemPart.{SystemPart}
use Rattle.og_ast.specs.declared.system.SystemPart.TheVariants as piece
use Rattle.og_ast.specs.declared.system.BlockTree.{BlockTree}
use Rattle.og_ast.specs.declared.system.BlockPart.{BlockPart}
use Rattle.og_ast.specs.declared.system.BlockPart.TheVariants as part
use Rattle.og_ast.specs.declared.system.SignalTree.{SignalTree}
use Rattle.og_ast.specs.declared.system.SigTree.{SigTree}
use Rattle.og_ast.specs.declared.system.ChannelTree.{ChannelTree}
use Rattle.og_ast.specs.declared.system.RouteTree.{RouteTree}
use Rattle.og_ast.specs.declared.system.PathTree.{PathTree}
use Rattle.og_ast.specs.declared.system.PointTree.{PointTree}
use Rattle.og_ast.specs.declared.system.PointTree.TheVariants as point
use Rattle.og_ast.specs.declared.system.LinkTree.{LinkTree}
use Rattle.og_ast.specs.declared.system.ProcessTree.{ProcessTree}
use Rattle.og_ast.specs.declared.system.ReferenceTree.{ReferenceTree}
use Rattle.og_ast.specs.declared.system.CountTree.{CountTree}
use Rattle.og_places.specs.Contents.{places_in_hyphened, places_in_inner, places_in_use, places_in_sig, places_in_signal, places_in_point, places_in_path, places_in_channel, places_in_route, places_in_link, places_in_count, places_in_reference, places_in_process, places_in_block_part, places_in_block, places_in_system_part, places_in_system, places_in_unit, places_in_units}
use Rattle.og_parse_body.specs.Grammar.{IsHname}
use Rattle.og_parse_state.specs.Grammar.{IsInner}
use Rattle.og_parse.specs.Grammar.{IsUse, IsSig, IsSignal, IsPoint, IsPath, ArePaths, IsChannel, IsRoute, IsLink, IsCount, IsReference, IsProcess, IsBlockPart, IsBlock, IsSystemPart, IsSystem, IsUnit, IsFile, AreUnits}
use Rattle.og_parse.proofs.PlacesKept.{Keeps, reserved, sign, named, passed_word, passed, digits, both, before, perhaps, each_of, list_of, bracketed, names_of}
use Rattle.og_parse.proofs.PlacesOfBodies.{hname_kept, end_kept, closed_kept, procedure_kept}
use Rattle.og_parse.proofs.PlacesOfStates.{inner_kept}

module _ (P : Place → Type 0) where
  -- ---- what leads to processes

  use_kept : (u : UseTree) → Keeps P (IsUse u) (places_in_use u)
  use_kept u = both (reserved word.Use u.place) (both (hname_kept P u.«module») (end_kept P u.«end»))

  sig_kept : (s : SigTree) → Keeps P (IsSig s) (places_in_sig s)
  sig_kept s = both (named s.name) (bracketed IsHname places_in_hyphened (hname_kept P) s.sorts)

  signal_kept : (s : SignalTree) → Keeps P (IsSignal s) (places_in_signal s)
  signal_kept s = both (reserved word.Signal s.place) (both (list_of IsSig places_in_sig sig_kept s.signals) (end_kept P s.«end»))

  point_kept : (p : PointTree) → Keeps P (IsPoint p) (places_in_point p)
  point_kept (point.Env place) = reserved word.Env place
  point_kept (point.Name name) = named name

  path_kept : (p : PathTree) → Keeps P (IsPath p) (places_in_path p)
  path_kept p =
      both (reserved word.From p.place)
      (both (point_kept p.from) (both (passed_word word.To) (both (point_kept p.to) (both (passed_word word.With) (both (names_of p.signals) (end_kept P p.«end»))))))

  paths_kept : (paths : List PathTree) → Keeps P (ArePaths paths) (flat_map places_in_path paths)
  paths_kept [] = record { by = λ ts rest s all. absurd s }
  paths_kept (p ∷ ps) = both (path_kept p) (each_of IsPath places_in_path path_kept ps)

  channel_kept : (c : ChannelTree) → Keeps P (IsChannel c) (places_in_channel c)
  channel_kept c = both (reserved word.Channel c.place) (both (named c.name) (both (paths_kept c.paths) (closed_kept P word.Endchannel c.closing)))

  route_kept : (r : RouteTree) → Keeps P (IsRoute r) (places_in_route r)
  route_kept r = both (reserved word.Signalroute r.place) (both (named r.name) (paths_kept r.paths))

  link_kept : (l : LinkTree) → Keeps P (IsLink l) (places_in_link l)
  link_kept l = both (reserved word.Connect l.place) (both (names_of l.channels) (both (passed_word word.And) (both (names_of l.routes) (end_kept P l.«end»))))

  -- ---- processes

  count_kept : (c : CountTree) → Keeps P (IsCount c) (places_in_count c)
  count_kept c =
      before (sign mark.LeftParenthesis c.place) (both (digits c.initial) (both (passed mark.Comma) (both (digits c.most) (passed mark.RightParenthesis))))

  reference_kept : (r : ReferenceTree) → Keeps P (IsReference r) (places_in_reference r)
  reference_kept r =
      both (reserved word.Process r.place)
      (both (named r.name) (both (perhaps IsCount places_in_count count_kept r.count) (both (passed_word word.Referenced) (end_kept P r.«end»))))

  process_kept : (p : ProcessTree) → Keeps P (IsProcess p) (places_in_process p)
  process_kept p =
      both (reserved word.Process p.place)
      (both (named p.name)
      (both (perhaps IsCount places_in_count count_kept p.count)
      (both (end_kept P p.«end») (both (each_of IsInner places_in_inner (inner_kept P) p.parts) (closed_kept P word.Endprocess p.closing)))))

  -- ---- blocks, systems and files

  block_part_kept : (p : BlockPart) → Keeps P (IsBlockPart p) (places_in_block_part p)
  block_part_kept (part.Signal s) = signal_kept s
  block_part_kept (part.Route r) = route_kept r
  block_part_kept (part.Link l) = link_kept l
  block_part_kept (part.Process p) = process_kept p
  block_part_kept (part.Reference r) = reference_kept r

  block_kept : (b : BlockTree) → Keeps P (IsBlock b) (places_in_block b)
  block_kept b =
      both (reserved word.Block b.place)
      (both (named b.name) (both (end_kept P b.«end») (both (each_of IsBlockPart places_in_block_part block_part_kept b.parts) (closed_kept P word.Endblock b.closing))))

  system_part_kept : (p : SystemPart) → Keeps P (IsSystemPart p) (places_in_system_part p)
  system_part_kept (piece.Use u) = use_kept u
  system_part_kept (piece.Signal s) = signal_kept s
  system_part_kept (piece.Channel c) = channel_kept c
  system_part_kept (piece.Procedure p) = procedure_kept P p
  system_part_kept (piece.Block b) = block_kept b

  system_kept : (s : SystemTree) → Keeps P (IsSystem s) (places_in_system s)
  system_kept s =
      both (reserved word.System s.place)
      (both (named s.name) (both (end_kept P s.«end») (both (each_of IsSystemPart places_in_system_part system_part_kept s.parts) (closed_kept P word.Endsystem s.closing))))

  unit_kept : (u : UnitTree) → Keeps P (IsUnit u) (places_in_unit u)
  unit_kept (unit.Use u) = use_kept u
  unit_kept (unit.System s) = system_kept s
  unit_kept (unit.Process p) = process_kept p

  file_kept : (units : List UnitTree) → Keeps P (IsFile units) (places_in_units units)
  file_kept units = each_of IsUnit places_in_unit unit_kept units

-- one of the tokens stands there
abbrev IsOne : List Spanned → Place → Type 0
IsOne tokens p = (t : Spanned) × Contains tokens t × (t.place ≡ p)

tokens_are_in : (tokens : List Spanned) → All (λ (t : Spanned). IsOne tokens t.place) tokens
tokens_are_in tokens = All-weaker (Contains tokens) (λ (t : Spanned). IsOne tokens t.place) (λ t c. (t, c, refl)) tokens (All-contains_itself tokens)

pub places_stand : (units : List UnitTree) (tokens : List Spanned) (p : Place) → AreUnits units tokens → Contains (places_in_units units) p → (t : Spanned) × Contains tokens t × (t.place ≡ p)
places_stand units tokens p i c =
    let text = i.0 in
    let all = recursion_from_All (λ (t : Spanned). IsOne tokens t.place) tokens (tokens_are_in tokens) in
    let kept = (file_kept (IsOne tokens) units).by tokens text.0 text.1 all in
    All-contains (IsOne tokens) (places_in_units units) p (All-from_recursion (IsOne tokens) (places_in_units units) kept.here) c
