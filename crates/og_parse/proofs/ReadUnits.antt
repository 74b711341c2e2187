-- What is read as a system, a block, a process or a file is one.
use Rattle.std.proofs.Common.{◌≡◌, ℕ, List, [], ◌∷◌, ◌++◌, Option, Some, None, refl, sym, ap, subst, ◌∙◌}
use Rattle.og_grammar.specs.declared.Nesting.TheVariants.{Keeps}
use Rattle.og_grammar.specs.declared.Symbol.{Symbol}
use Rattle.og_grammar.specs.declared.Symbol.TheVariants.{Token, Part, Scope, Maybe, Many}
use Rattle.og_base.specs.declared.Place.{Place}
use Rattle.og_lexer.specs.declared.Keyword.TheVariants as word
use Rattle.og_lexer.specs.declared.Mark.TheVariants as mark
use Rattle.og_lexer.specs.declared.Spanned.{Spanned}
use Rattle.og_ast.specs.declared.ground.Name.{Name}
use Rattle.og_ast.specs.declared.system.Unit.{Unit as UnitTree}
use Rattle.og_ast.specs.declared.system.Unit.TheVariants as unit
use Rattle.og_ast.specs.declared.system.SystemPart.TheVariants as piece
use Rattle.og_ast.specs.declared.system.BlockPart.{BlockPart}
use Rattle.og_ast.specs.declared.system.BlockPart.TheVariants as part
use Rattle.og_ast.specs.declared.system.PathTree.{PathTree}
use Rattle.og_ast.specs.declared.system.PointTree.{PointTree}
use Rattle.og_ast.specs.declared.system.PointTree.TheVariants as point
use Rattle.og_ast.specs.declared.system.ProcessTree.{ProcessTree}
use Rattle.og_ast.specs.declared.system.ReferenceTree.{ReferenceTree}
use Rattle.og_ast.specs.declared.system.CountTree.{CountTree}
use Rattle.og_sdl.specs.declared.table.TheConstants.{SDL}
use Rattle.og_reading.specs.Kinds.{kind_of_keyword}
use Rattle.og_reading.specs.Reading.{Rest, Take, behind, after, place_in, name_in, maybe, more_of, list_at, list_in_brackets}
use Rattle.og_reading.specs.Fronts.{Text, Reserved, Sign, Named, Word, Passed, Digits, ◌▸◌, optional, each, separated, in_brackets}
use Rattle.og_reading.proofs.ReadParts.{Reads, rule, Grown, reads_word, reads_mark, reads_name, reads_number, reads_then, reads_as, reads_part, reads_maybe, reads_more}
use Rattle.og_reading.proofs.Lists.{reads_each, reads_list, reads_in_brackets}
use Rattle.og_parse_body.specs.Reading.{name_at, hname_at, end_at, closing_at, procedure_at}
use Rattle.og_parse_body.specs.Grammar.{IsHname, IsEnd, AreNames, IsProcedure}
use Rattle.og_parse_body.proofs.ReadBodies.{hnames, ends, name_lists, closings, procedures}
use Rattle.og_parse_state.specs.Reading.{inner_at}
use Rattle.og_parse_state.specs.Grammar.{IsClosed, IsInner}
use Rattle.og_parse_state.proofs.ReadStates.{reads_inner}
use Rattle.og_parse.specs.Reading.{use_at, sig_at, signal_at, point_at, path_at, paths_at, channel_at, route_at, link_at, count_at, process_body_at, process_at, process_or_reference_at, block_process_at, block_part_at, block_at, system_part_at, system_at, unit_at, units_at}
use Rattle.og_parse.specs.Grammar.{IsUse, IsSig, IsSignal, IsPoint, IsPath, ArePaths, IsChannel, IsRoute, IsLink, IsCount, IsReference, IsProcess, IsBlockPart, IsBlock, IsSystemPart, IsSystem, IsUnit, IsFile}

-- a first path and those behind it
grown_paths : (first : PathTree) (paths : List PathTree) (ts us vs : List Spanned) → IsPath first ts us → Grown IsPath (first ∷ []) paths us vs → ArePaths paths ts vs
grown_paths first paths ts us vs i g = subst (λ (z : List PathTree). ArePaths z ts vs) (sym g.1) (us, i, g.2)

module _ (n : ℕ) where
  -- ---- what leads to processes

  uses : Reads SDL n (Part 121 ∷ []) use_at IsUse
  unfolding use_at
  uses =
      reads_part 121 (Part 121) refl
      (rule (reads_as (λ x. record { place = x.0; «module» = x.1.0; «end» = x.1.1 }) IsUse (λ x ts us b. b) (reads_then (reads_word word.Use) (λ p. reads_then (hnames n (Part 36) refl) (λ h. ends n))))) [] refl

  sigs : Reads SDL n (Part 127 ∷ []) sig_at IsSig
  unfolding sig_at
  sigs =
      reads_part 127 (Part 127) refl
      (rule (reads_as (λ x. record { name = x.0; sorts = x.1 }) IsSig (λ x ts us b. b)
      (reads_then reads_name (λ name. reads_in_brackets hname_at 128 refl (reads_list mark.Comma 129 130 refl refl (hnames n (Part 36) refl) (hnames n (Part 36) refl) (Part 129) refl))))) [] refl

  signals : Reads SDL n (Part 124 ∷ []) signal_at IsSignal
  unfolding signal_at
  signals =
      reads_part 124 (Part 124) refl
      (rule (reads_as (λ x. record { place = x.0; signals = x.1.0; «end» = x.1.1 }) IsSignal (λ x ts us b. b)
      (reads_then (reads_word word.Signal) (λ p. reads_then (reads_list mark.Comma 125 126 refl refl sigs sigs (Part 125) refl) (λ xs. ends n))))) [] refl

  points : Reads SDL n (Part 133 ∷ []) point_at IsPoint
  unfolding point_at
  points =
      reads_part 133 (Part 133) refl (rule (reads_as point.Env IsPoint (λ x ts us i. i) (reads_word word.Env))) (rule (reads_as point.Name IsPoint (λ x ts us i. i) reads_name) ∷ []) refl

  paths : Reads SDL n (Part 132 ∷ []) path_at IsPath
  unfolding path_at
  paths =
      reads_part 132 (Part 132) refl
      (rule (reads_as (λ x. record { place = x.0; from = x.1.0; to = x.1.1.1.0; signals = x.1.1.1.1.1.0; «end» = x.1.1.1.1.1.1 }) IsPath
      (λ x ts us b. let from_ = b.2 in let to_ = from_.2 in let begin = to_.2 in let with_ = begin.2 in (b.0, b.1, (from_.0, from_.1, (to_.0, (x.1.1.0, to_.1), (begin.0, begin.1, (with_.0, (x.1.1.1.1.0, with_.1), with_.2))))))
      (reads_then (reads_word word.From) (λ p. reads_then points (λ a. reads_then (reads_word word.To) (λ q. reads_then points (λ b.
      (reads_then (reads_word word.With) (λ r. reads_then (name_lists n (Part 40) refl) (λ ns. ends n))))))))))
      [] refl

  channels : Reads SDL n (Part 131 ∷ []) channel_at IsChannel
  unfolding channel_at paths_at
  channels =
      reads_part 131 (Part 131) refl
      (rule (reads_as (λ x. record { place = x.0; name = x.1.0; paths = x.1.1.1.0; closing = x.1.1.1.1 }) IsChannel
      (λ x ts us b. let name = b.2 in let first = name.2 in let more = first.2 in (b.0, b.1, (name.0, name.1, (more.0, grown_paths x.1.1.0 x.1.1.1.0 name.0 first.0 more.0 first.1 more.1, more.2))))
      (reads_then (reads_word word.Channel) (λ p. reads_then reads_name (λ name. reads_then paths (λ first. reads_then (reads_more (first ∷ []) paths) (λ ps. closings n word.Endchannel))))))) [] refl

  routes : Reads SDL n (Part 136 ∷ []) route_at IsRoute
  unfolding route_at paths_at
  routes =
      reads_part 136 (Part 136) refl
      (rule (reads_as (λ x. record { place = x.0; name = x.1.0; paths = x.1.1.1 }) IsRoute
      (λ x ts us b. let name = b.2 in let first = name.2 in (b.0, b.1, (name.0, name.1, grown_paths x.1.1.0 x.1.1.1 name.0 first.0 us first.1 first.2)))
      (reads_then (reads_word word.Signalroute) (λ p. reads_then reads_name (λ name. reads_then paths (λ first. reads_more (first ∷ []) paths)))))) [] refl

  links : Reads SDL n (Part 137 ∷ []) link_at IsLink
  unfolding link_at
  links =
      reads_part 137 (Part 137) refl
      (rule (reads_as (λ x. record { place = x.0; channels = x.1.0; routes = x.1.1.1.0; «end» = x.1.1.1.1 }) IsLink
      (λ x ts us b. (b.0, b.1, (b.2.0, b.2.1, (b.2.2.0, (x.1.1.0, b.2.2.1), b.2.2.2))))
      (reads_then (reads_word word.Connect) (λ p. reads_then (name_lists n (Part 40) refl) (λ cs. reads_then (reads_word word.And) (λ q. reads_then (name_lists n (Part 40) refl) (λ rs. ends n))))))) [] refl

  -- ---- processes

  counts : Reads SDL n (Part 138 ∷ []) count_at IsCount
  unfolding count_at
  counts =
      reads_part 138 (Part 138) refl
      (rule (reads_as (λ x. record { place = x.0; initial = x.1.0.0; most = x.1.1.1.0.0 }) IsCount
      (λ x ts us b. let first = b.2 in let comma = first.2 in let second = comma.2 in (b.0, b.1, (first.0, (x.1.0.1, first.1), (comma.0, (x.1.1.0, comma.1), (second.0, (x.1.1.1.0.1, second.1), (x.1.1.1.1, second.2))))))
      (reads_then (reads_mark mark.LeftParenthesis) (λ p. reads_then reads_number (λ a. reads_then (reads_mark mark.Comma) (λ q. reads_then reads_number (λ b. reads_mark mark.RightParenthesis))))))) [] refl

  -- what stands in front of a process or a reference
  abbrev Headed : Place → Name → Option CountTree → Text
  Headed place name count = Reserved word.Process place ▸ Named name ▸ optional IsCount count

  process_bodies : (place : Place) (name : Name) (count : Option CountTree) → Reads SDL n (Part 141 ∷ []) (process_body_at n place name count) (λ p ts us. (start : List Spanned) → Headed place name count start ts → IsProcess p start us)
  unfolding process_body_at
  process_bodies place name count =
      reads_part 141 (Part 141) refl
      (rule (reads_as (λ x. record { place = place; name = name; count = count; «end» = x.0; parts = x.1.0; closing = x.1.1 }) _
      (λ x ts us b start h. (h.0, h.1, (h.2.0, h.2.1, (ts, h.2.2, b))))
      (reads_then (ends n) (λ e. reads_then (reads_each (reads_inner n)) (λ is. closings n word.Endprocess))))) [] refl

  processes : Reads SDL n (Part 140 ∷ []) (process_at n) IsProcess
  unfolding process_at
  processes =
      reads_part 140 (Part 140) refl
      (rule (reads_as (λ x. x.1.1.1) IsProcess (λ x ts us b. b.2.2.2 ts (b.0, b.1, (b.2.0, b.2.1, b.2.2.1)))
      (reads_then (reads_word word.Process) (λ p. reads_then reads_name (λ name. reads_then (reads_maybe counts) (λ c. process_bodies p name c)))))) [] refl

  processes_or_references : (place : Place) (name : Name) (count : Option CountTree)
      → Reads SDL n (Part 139 ∷ []) (process_or_reference_at n place name count) (λ p ts us. (start : List Spanned) → Headed place name count start ts → IsBlockPart p start us)
  unfolding process_or_reference_at
  processes_or_references place name count =
      reads_part 139 (Part 139) refl
      (rule (reads_as (λ x. part.Reference (record { place = place; name = name; count = count; «end» = x.1 })) _
      (λ x ts us b start h. (h.0, h.1, (h.2.0, h.2.1, (ts, h.2.2, (b.0, (x.0, b.1), b.2))))) (reads_then (reads_word word.Referenced) (λ p. ends n))))
      (rule (reads_as part.Process _ (λ p ts us i. i) (process_bodies place name count)) ∷ []) refl

  -- ---- blocks, systems and files

  block_parts : Reads SDL n (Part 135 ∷ []) (block_part_at n) IsBlockPart
  unfolding block_part_at block_process_at
  block_parts =
      reads_part 135 (Part 135) refl (rule (reads_as part.Signal IsBlockPart (λ x ts us i. i) signals))
      (rule (reads_as part.Route IsBlockPart (λ x ts us i. i) routes) ∷ rule (reads_as part.Link IsBlockPart (λ x ts us i. i) links)
      ∷ rule (reads_as (λ x. x.1.1.1) IsBlockPart (λ x ts us b. b.2.2.2 ts (b.0, b.1, (b.2.0, b.2.1, b.2.2.1)))
      (reads_then (reads_word word.Process) (λ p. reads_then reads_name (λ name. reads_then (reads_maybe counts) (λ c. processes_or_references p name c))))) ∷ []) refl

  blocks : Reads SDL n (Part 134 ∷ []) (block_at n) IsBlock
  unfolding block_at
  blocks =
      reads_part 134 (Part 134) refl
      (rule (reads_as (λ x. record { place = x.0; name = x.1.0; «end» = x.1.1.0; parts = x.1.1.1.0; closing = x.1.1.1.1 }) IsBlock (λ x ts us b. b)
      (reads_then (reads_word word.Block) (λ p. reads_then reads_name (λ name. reads_then (ends n) (λ e. reads_then (reads_each block_parts) (λ ps. closings n word.Endblock))))))) [] refl

  system_parts : Reads SDL n (Part 123 ∷ []) (system_part_at n) IsSystemPart
  unfolding system_part_at
  system_parts =
      reads_part 123 (Part 123) refl (rule (reads_as piece.Use IsSystemPart (λ x ts us i. i) uses))
      (rule (reads_as piece.Signal IsSystemPart (λ x ts us i. i) signals) ∷ rule (reads_as piece.Channel IsSystemPart (λ x ts us i. i) channels)
      ∷ rule (reads_as piece.Procedure IsSystemPart (λ x ts us i. i) (procedures n)) ∷ rule (reads_as piece.Block IsSystemPart (λ x ts us i. i) blocks) ∷ []) refl

  systems : Reads SDL n (Part 122 ∷ []) (system_at n) IsSystem
  unfolding system_at
  systems =
      reads_part 122 (Part 122) refl
      (rule (reads_as (λ x. record { place = x.0; name = x.1.0; «end» = x.1.1.0; parts = x.1.1.1.0; closing = x.1.1.1.1 }) IsSystem (λ x ts us b. b)
      (reads_then (reads_word word.System) (λ p. reads_then reads_name (λ name. reads_then (ends n) (λ e. reads_then (reads_each system_parts) (λ ps. closings n word.Endsystem))))))) [] refl

  units : Reads SDL n (Part 120 ∷ []) (unit_at n) IsUnit
  unfolding unit_at
  units =
      reads_part 120 (Part 120) refl (rule (reads_as unit.Use IsUnit (λ x ts us i. i) uses))
      (rule (reads_as unit.System IsUnit (λ x ts us i. i) systems) ∷ rule (reads_as unit.Process IsUnit (λ x ts us i. i) processes) ∷ []) refl

-- what is read as a file is one
pub reads_file : (n : ℕ) → Reads SDL n (Part 0 ∷ []) (units_at n) IsFile
unfolding units_at
reads_file n = reads_part 0 (Part 0) refl (rule (reads_each (units n))) [] refl
