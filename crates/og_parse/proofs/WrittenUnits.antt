-- Each system, block, process and file is read as what it is.
use Rattle.std.proofs.Common.{◌≡◌, ℕ, List, [], ◌∷◌, ◌++◌, Option, Some, None, refl, sym, ap, subst, ◌∙◌}
use Rattle.og_grammar.specs.declared.Nesting.{Nesting}
use Rattle.og_grammar.specs.declared.Symbol.{Symbol}
use Rattle.og_grammar.specs.declared.Symbol.TheVariants.{Token, Part, Scope, Maybe, Many}
use Rattle.og_base.specs.declared.Place.{Place}
use Rattle.og_lexer.specs.declared.Keyword.TheVariants as word
use Rattle.og_lexer.specs.declared.Mark.TheVariants as mark
use Rattle.og_lexer.specs.declared.Spanned.{Spanned}
use Rattle.og_ast.specs.declared.ground.Name.{Name}
use Rattle.og_ast.specs.declared.ground.EndTree.{EndTree}
use Rattle.og_ast.specs.declared.ground.ClosingTree.{ClosingTree}
use Rattle.og_ast.specs.declared.state.InnerTree.{InnerTree}
use Rattle.og_ast.specs.declared.system.Unit.{Unit as UnitTree}
use Rattle.og_ast.specs.declared.system.Unit.TheVariants as unit
use Rattle.og_ast.specs.declared.system.SystemPart.TheVariants as piece
use Rattle.og_ast.specs.declared.system.BlockPart.{BlockPart}
use Rattle.og_ast.specs.declared.system.BlockPart.TheVariants as part
use Rattle.og_ast.specs.declared.system.PathTree.{PathTree}
use Rattle.og_ast.specs.declared.system.PointTree.{PointTree}
use Rattle.og_ast.specs.declared.system.PointTree.TheVariants as point
use Rattle.og_ast.specs.declared.system.ProcessTree.{ProcessTree}
use Rattle.og_ast.specs.declared.system.ReferenceTree.{ReferenceTree}
use Rattle.og_ast.specs.declared.system.CountTree.{CountTree}
use Rattle.og_sdl.specs.declared.table.TheConstants.{SDL}
use Rattle.og_reading.specs.Kinds.{kind_of_keyword}
use Rattle.og_reading.specs.Reading.{Rest, Take, behind, after, place_in, name_in, maybe, more_of, list_at, list_in_brackets}
use Rattle.og_reading.specs.Fronts.{Text, Reserved, Sign, Named, Word, Passed, Digits, ◌▸◌, optional, each, separated, in_brackets}
use Rattle.og_reading.proofs.ReadParts.{then_take}
use Rattle.og_reading.proofs.WrittenParts.{Writes, writes_word, writes_mark, writes_name, writes_number, writes_then, writes_and, writes_as, writes_onto, writes_each}
use Rattle.og_reading.proofs.Lists.{writes_all, writes_maybe, writes_list, writes_in_brackets}
use Rattle.og_parse_body.specs.Reading.{name_at, hname_at, end_at, closing_at, procedure_at}
use Rattle.og_parse_body.specs.Grammar.{IsHname, IsEnd, AreNames, IsProcedure}
use Rattle.og_parse_body.proofs.WrittenBodies.{by_rule, Each, writes_hname, writes_end, writes_names, writes_closing, writes_procedure}
use Rattle.og_parse_state.specs.Reading.{inner_at}
use Rattle.og_parse_state.specs.Grammar.{IsClosed, IsInner}
use Rattle.og_parse_state.proofs.WrittenStates.{writes_inner}
use Rattle.og_parse.specs.Reading.{use_at, sig_at, signal_at, point_at, path_at, paths_at, channel_at, route_at, link_at, count_at, process_body_at, process_at, process_or_reference_at, block_process_at, block_part_at, block_at, system_part_at, system_at, unit_at, units_at}
use Rattle.og_parse.specs.Grammar.{IsUse, IsSig, IsSignal, IsPoint, IsPath, ArePaths, IsChannel, IsRoute, IsLink, IsCount, IsReference, IsProcess, IsBlockPart, IsBlock, IsSystemPart, IsSystem, IsUnit, IsFile}

-- ---- what leads to processes

writes_use : Each 121 (λ n. use_at) IsUse
unfolding use_at
writes_use u ts us i =
    by_rule 121 (Part 121) refl 0 refl (λ n. use_at)
    (writes_as (λ x. record { place = x.0; «module» = x.1.0; «end» = x.1.1 })
    (writes_and (writes_word word.Use u.place ts i.0 i.1) (writes_and (writes_hname (Part 36) refl u.«module» i.0 i.2.0 i.2.1) (writes_end u.«end» i.2.0 us i.2.2)))) (λ n cs. refl)

writes_sig : Each 127 (λ n. sig_at) IsSig
unfolding sig_at
writes_sig s ts us i =
    by_rule 127 (Part 127) refl 0 refl (λ n. sig_at)
    (writes_as (λ x. record { name = x.0; sorts = x.1 })
    (writes_and (writes_name s.name ts i.0 i.1)
    (writes_in_brackets (λ n. hname_at) 128 refl (writes_list mark.Comma 129 130 refl refl (writes_hname (Part 36) refl) (writes_hname (Part 36) refl) (Part 129) refl) s.sorts i.0 us i.2))) (λ n cs. refl)

writes_signal : Each 124 (λ n. signal_at) IsSignal
unfolding signal_at
writes_signal s ts us i =
    by_rule 124 (Part 124) refl 0 refl (λ n. signal_at)
    (writes_as (λ x. record { place = x.0; signals = x.1.0; «end» = x.1.1 })
    (writes_and (writes_word word.Signal s.place ts i.0 i.1)
    (writes_and (writes_list mark.Comma 125 126 refl refl writes_sig writes_sig (Part 125) refl s.signals i.0 i.2.0 i.2.1) (writes_end s.«end» i.2.0 us i.2.2)))) (λ n cs. refl)

writes_point : Each 133 (λ n. point_at) IsPoint
unfolding point_at
writes_point (point.Env place) ts us i = by_rule 133 (Part 133) refl 0 refl (λ n. point_at) (writes_as point.Env (writes_word word.Env place ts us i)) (λ n cs. refl)
writes_point (point.Name name) ts us i = by_rule 133 (Part 133) refl 1 refl (λ n. point_at) (writes_as point.Name (writes_name name ts us i)) (λ n cs. refl)

writes_path : Each 132 (λ n. path_at) IsPath
unfolding path_at
writes_path p ts us i =
    let from_ = i.2 in let to_ = from_.2 in let begin = to_.2 in let with_ = begin.2 in let names = with_.2 in
    by_rule 132 (Part 132) refl 0 refl (λ n. path_at)
    (writes_as (λ x. record { place = x.0; from = x.1.0; to = x.1.1.1.0; signals = x.1.1.1.1.1.0; «end» = x.1.1.1.1.1.1 })
    (writes_and (writes_word word.From p.place ts i.0 i.1)
    (writes_and (writes_point p.from i.0 from_.0 from_.1)
    (writes_and (writes_word word.To to_.1.0 from_.0 to_.0 to_.1.1)
    (writes_and (writes_point p.to to_.0 begin.0 begin.1)
    (writes_and (writes_word word.With with_.1.0 begin.0 with_.0 with_.1.1)
    (writes_and (writes_names (Part 40) refl p.signals with_.0 names.0 names.1) (writes_end p.«end» names.0 us names.2)))))))) (λ n cs. refl)

-- what closes a construct
abbrev the_closing : Take ClosingTree
the_closing rest = closing_at (place_in rest) (behind rest)

-- a first path, and those behind it
abbrev behind_path : PathTree → Take (List PathTree)
behind_path first = more_of path_at (first ∷ [])

channel_read : (place : Place) (name : Name) (paths : List PathTree) (closing : ClosingTree) (ts us vs ws rest : List Spanned) → Reserved word.Channel place ts us → Named name us vs → ArePaths paths vs ws
    → IsClosed word.Endchannel closing ws rest → Writes SDL (Part 131 ∷ []) (λ n. channel_at) (record { place = place; name = name; paths = paths; closing = closing }) ts rest
unfolding channel_at paths_at
channel_read place name [] closing ts us vs ws rest r named i c = absurd i
channel_read place name (p ∷ ps) closing ts us vs ws rest r named i c =
    by_rule 131 (Part 131) refl 0 refl (λ n. channel_at)
    (writes_as (λ x. record { place = x.0; name = x.1.0; paths = x.1.1.1.0; closing = x.1.1.1.1 })
    (writes_and (writes_word word.Channel place ts us r)
    (writes_and (writes_name name us vs named)
    (writes_then (λ n first. then_take (behind_path first) (λ paths. the_closing)) (writes_path p vs i.0 i.1)
    (writes_and (writes_onto (writes_each IsPath writes_path (p ∷ []) ps i.0 ws i.2)) (writes_closing word.Endchannel closing ws rest c)))))) (λ n cs. refl)

route_read : (place : Place) (name : Name) (paths : List PathTree) (ts us vs ws : List Spanned) → Reserved word.Signalroute place ts us → Named name us vs → ArePaths paths vs ws
    → Writes SDL (Part 136 ∷ []) (λ n. route_at) (record { place = place; name = name; paths = paths }) ts ws
unfolding route_at paths_at
route_read place name [] ts us vs ws r named i = absurd i
route_read place name (p ∷ ps) ts us vs ws r named i =
    by_rule 136 (Part 136) refl 0 refl (λ n. route_at)
    (writes_as (λ x. record { place = x.0; name = x.1.0; paths = x.1.1.1 })
    (writes_and (writes_word word.Signalroute place ts us r)
    (writes_and (writes_name name us vs named)
    (writes_then (λ n first. behind_path first) (writes_path p vs i.0 i.1) (writes_onto (writes_each IsPath writes_path (p ∷ []) ps i.0 ws i.2)))))) (λ n cs. refl)

writes_link : Each 137 (λ n. link_at) IsLink
unfolding link_at
writes_link l ts us i =
    let channels = i.2 in let and_ = channels.2 in let routes = and_.2 in
    by_rule 137 (Part 137) refl 0 refl (λ n. link_at)
    (writes_as (λ x. record { place = x.0; channels = x.1.0; routes = x.1.1.1.0; «end» = x.1.1.1.1 })
    (writes_and (writes_word word.Connect l.place ts i.0 i.1)
    (writes_and (writes_names (Part 40) refl l.channels i.0 channels.0 channels.1)
    (writes_and (writes_word word.And and_.1.0 channels.0 and_.0 and_.1.1)
    (writes_and (writes_names (Part 40) refl l.routes and_.0 routes.0 routes.1) (writes_end l.«end» routes.0 us routes.2)))))) (λ n cs. refl)

-- ---- processes

writes_count : Each 138 (λ n. count_at) IsCount
unfolding count_at
writes_count c ts us i =
    let first = i.2 in let comma = first.2 in let second = comma.2 in
    by_rule 138 (Part 138) refl 0 refl (λ n. count_at)
    (writes_as (λ x. record { place = x.0; initial = x.1.0.0; most = x.1.1.1.0.0 })
    (writes_and (writes_mark mark.LeftParenthesis c.place ts i.0 i.1)
    (writes_and (writes_number c.initial first.1.0 i.0 first.0 first.1.1)
    (writes_and (writes_mark mark.Comma comma.1.0 first.0 comma.0 comma.1.1)
    (writes_and (writes_number c.most second.1.0 comma.0 second.0 second.1.1) (writes_mark mark.RightParenthesis second.2.0 second.0 us second.2.1)))))) (λ n cs. refl)

process_body_read : (place : Place) (name : Name) (count : Option CountTree) (e : EndTree) (parts : List InnerTree) (closing : ClosingTree) (ts us : List Spanned)
    → (IsEnd e ▸ each IsInner parts ▸ IsClosed word.Endprocess closing) ts us
    → Writes SDL (Part 141 ∷ []) (λ n. process_body_at n place name count) (record { place = place; name = name; count = count; «end» = e; parts = parts; closing = closing }) ts us
unfolding process_body_at
process_body_read place name count e parts closing ts us i =
    by_rule 141 (Part 141) refl 0 refl (λ n. process_body_at n place name count)
    (writes_as (λ x. record { place = place; name = name; count = count; «end» = x.0; parts = x.1.0; closing = x.1.1 })
    (writes_and (writes_end e ts i.0 i.1) (writes_and (writes_all IsInner writes_inner parts i.0 i.2.0 i.2.1) (writes_closing word.Endprocess closing i.2.0 us i.2.2)))) (λ n cs. refl)

-- the keyword PROCESS, a name and a count, and then what is read of the three
abbrev a_name : Take Name
a_name rest = (name_in rest, behind rest)

abbrev behind_count : {X : Type 0} → (Place → Name → Option CountTree → Take X) → Place → Name → Take (Option CountTree × X)
behind_count take place name = then_take (maybe count_at) (take place name)

abbrev behind_place : {X : Type 0} → (Place → Name → Option CountTree → Take X) → Place → Take (Name × (Option CountTree × X))
behind_place take place = then_take a_name (behind_count take place)

headed_read : {X : Type 0} {s : Symbol} (take : ℕ → Place → Name → Option CountTree → Take X) (place : Place) (name : Name) (count : Option CountTree) {x : X} (ts us vs ws rest : List Spanned) → Reserved word.Process place ts us
    → Named name us vs → optional IsCount count vs ws → Writes SDL (s ∷ []) (λ n. take n place name count) x ws rest
    → {nesting other : Nesting} → Writes SDL (Token (kind_of_keyword word.Process) nesting ∷ Token 0 other ∷ Maybe 138 ∷ s ∷ []) (λ n rest. let c = maybe count_at (behind (behind rest)) in take n (place_in rest) (name_in (behind rest)) c.0 c.1) x ts rest
headed_read take place name count ts us vs ws rest r named c w =
    writes_as (λ y. y.1.1.1)
    (writes_then (λ n p. behind_place (take n) p) (writes_word word.Process place ts us r)
    (writes_then (λ n m. behind_count (take n) place m) (writes_name name us vs named)
    (writes_then (λ n k. take n place name k) (writes_maybe (λ n. count_at) IsCount writes_count count vs ws c) w)))

writes_process : Each 140 process_at IsProcess
unfolding process_at
writes_process p ts us i =
    let name = i.2 in let count = name.2 in
    by_rule 140 (Part 140) refl 0 refl process_at
    (headed_read process_body_at p.place p.name p.count ts i.0 name.0 count.0 us i.1 name.1 count.1 (process_body_read p.place p.name p.count p.«end» p.parts p.closing count.0 us count.2)) (λ n cs. refl)

-- ---- blocks, systems and files

abbrev PartRead : BlockPart → Text
PartRead x ts us = Writes SDL (Part 135 ∷ []) block_part_at x ts us

process_part : (p : ProcessTree) (ts us : List Spanned) → IsProcess p ts us → PartRead (part.Process p) ts us
unfolding block_part_at block_process_at process_or_reference_at
process_part p ts us i =
    let name = i.2 in let count = name.2 in
    by_rule 135 (Part 135) refl 3 refl block_part_at
    (headed_read process_or_reference_at p.place p.name p.count ts i.0 name.0 count.0 us i.1 name.1 count.1
    (by_rule 139 (Part 139) refl 1 refl (λ n. process_or_reference_at n p.place p.name p.count)
    (writes_as part.Process (process_body_read p.place p.name p.count p.«end» p.parts p.closing count.0 us count.2)) (λ n cs. refl))) (λ n cs. refl)

reference_part : (r : ReferenceTree) (ts us : List Spanned) → IsReference r ts us → PartRead (part.Reference r) ts us
unfolding block_part_at block_process_at process_or_reference_at
reference_part r ts us i =
    let name = i.2 in let count = name.2 in let word_ = count.2 in
    by_rule 135 (Part 135) refl 3 refl block_part_at
    (headed_read process_or_reference_at r.place r.name r.count ts i.0 name.0 count.0 us i.1 name.1 count.1
    (by_rule 139 (Part 139) refl 0 refl (λ n. process_or_reference_at n r.place r.name r.count)
    (writes_as (λ x. part.Reference (record { place = r.place; name = r.name; count = r.count; «end» = x.1 }))
    (writes_and (writes_word word.Referenced word_.1.0 count.0 word_.0 word_.1.1) (writes_end r.«end» word_.0 us word_.2))) (λ n cs. refl))) (λ n cs. refl)

writes_block_part : Each 135 block_part_at IsBlockPart
unfolding block_part_at
writes_block_part (part.Signal s) ts us i = by_rule 135 (Part 135) refl 0 refl block_part_at (writes_as part.Signal (writes_signal s ts us i)) (λ n cs. refl)
writes_block_part (part.Route r) ts us i =
    by_rule 135 (Part 135) refl 1 refl block_part_at (writes_as part.Route (route_read r.place r.name r.paths ts i.0 i.2.0 us i.1 i.2.1 i.2.2)) (λ n cs. refl)
writes_block_part (part.Link l) ts us i = by_rule 135 (Part 135) refl 2 refl block_part_at (writes_as part.Link (writes_link l ts us i)) (λ n cs. refl)
writes_block_part (part.Process p) ts us i = process_part p ts us i
writes_block_part (part.Reference r) ts us i = reference_part r ts us i

writes_block : Each 134 block_at IsBlock
unfolding block_at
writes_block b ts us i =
    let name = i.2 in let ended = name.2 in let parts = ended.2 in
    by_rule 134 (Part 134) refl 0 refl block_at
    (writes_as (λ x. record { place = x.0; name = x.1.0; «end» = x.1.1.0; parts = x.1.1.1.0; closing = x.1.1.1.1 })
    (writes_and (writes_word word.Block b.place ts i.0 i.1)
    (writes_and (writes_name b.name i.0 name.0 name.1)
    (writes_and (writes_end b.«end» name.0 ended.0 ended.1)
    (writes_and (writes_all IsBlockPart writes_block_part b.parts ended.0 parts.0 parts.1) (writes_closing word.Endblock b.closing parts.0 us parts.2)))))) (λ n cs. refl)

writes_system_part : Each 123 system_part_at IsSystemPart
unfolding system_part_at
writes_system_part (piece.Use u) ts us i = by_rule 123 (Part 123) refl 0 refl system_part_at (writes_as piece.Use (writes_use u ts us i)) (λ n cs. refl)
writes_system_part (piece.Signal s) ts us i = by_rule 123 (Part 123) refl 1 refl system_part_at (writes_as piece.Signal (writes_signal s ts us i)) (λ n cs. refl)
writes_system_part (piece.Channel c) ts us i =
    by_rule 123 (Part 123) refl 2 refl system_part_at (writes_as piece.Channel (channel_read c.place c.name c.paths c.closing ts i.0 i.2.0 i.2.2.0 us i.1 i.2.1 i.2.2.1 i.2.2.2)) (λ n cs. refl)
writes_system_part (piece.Procedure p) ts us i = by_rule 123 (Part 123) refl 3 refl system_part_at (writes_as piece.Procedure (writes_procedure p ts us i)) (λ n cs. refl)
writes_system_part (piece.Block b) ts us i = by_rule 123 (Part 123) refl 4 refl system_part_at (writes_as piece.Block (writes_block b ts us i)) (λ n cs. refl)

writes_system : Each 122 system_at IsSystem
unfolding system_at
writes_system s ts us i =
    let name = i.2 in let ended = name.2 in let parts = ended.2 in
    by_rule 122 (Part 122) refl 0 refl system_at
    (writes_as (λ x. record { place = x.0; name = x.1.0; «end» = x.1.1.0; parts = x.1.1.1.0; closing = x.1.1.1.1 })
    (writes_and (writes_word word.System s.place ts i.0 i.1)
    (writes_and (writes_name s.name i.0 name.0 name.1)
    (writes_and (writes_end s.«end» name.0 ended.0 ended.1)
    (writes_and (writes_all IsSystemPart writes_system_part s.parts ended.0 parts.0 parts.1) (writes_closing word.Endsystem s.closing parts.0 us parts.2)))))) (λ n cs. refl)

writes_unit : Each 120 unit_at IsUnit
unfolding unit_at
writes_unit (unit.Use u) ts us i = by_rule 120 (Part 120) refl 0 refl unit_at (writes_as unit.Use (writes_use u ts us i)) (λ n cs. refl)
writes_unit (unit.System s) ts us i = by_rule 120 (Part 120) refl 1 refl unit_at (writes_as unit.System (writes_system s ts us i)) (λ n cs. refl)
writes_unit (unit.Process p) ts us i = by_rule 120 (Part 120) refl 2 refl unit_at (writes_as unit.Process (writes_process p ts us i)) (λ n cs. refl)

-- each file is read as what it is
pub writes_file : Each 0 units_at IsFile
unfolding units_at
writes_file units ts us i = by_rule 0 (Part 0) refl 0 refl units_at (writes_all IsUnit writes_unit units ts us i) (λ n cs. refl)
