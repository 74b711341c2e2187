-- Systems, blocks and processes as trees of their derivations, by the parts of the table of SDL/PR. The number that some take bounds
-- how many states, decisions, expressions and the like stand one inside the other.
use Rattle.std.specs.Prelude.{ℕ, Bool, List, [], ◌∷◌, length, Option, Some, None, if◌then◌else◌, ◌==◌}
use Rattle.og_base.specs.declared.Place.{Place}
use Rattle.og_lexer.specs.declared.Spanned.{Spanned}
use Rattle.og_ast.specs.declared.ground.Name.{Name}
use Rattle.og_ast.specs.declared.system.Unit.{Unit as UnitTree}
use Rattle.og_ast.specs.declared.system.Unit.TheVariants as unit
use Rattle.og_ast.specs.declared.system.UseTree.{UseTree}
use Rattle.og_ast.specs.declared.system.SystemTree.{SystemTree}
use Rattle.og_ast.specs.declared.system.SystemPart.{SystemPart}
use Rattle.og_ast.specs.declared.system.SystemPart.TheVariants as piece
use Rattle.og_ast.specs.declared.system.BlockTree.{BlockTree}
use Rattle.og_ast.specs.declared.system.BlockPart.{BlockPart}
use Rattle.og_ast.specs.declared.system.BlockPart.TheVariants as part
use Rattle.og_ast.specs.declared.system.SignalTree.{SignalTree}
use Rattle.og_ast.specs.declared.system.SigTree.{SigTree}
use Rattle.og_ast.specs.declared.system.ChannelTree.{ChannelTree}
use Rattle.og_ast.specs.declared.system.RouteTree.{RouteTree}
use Rattle.og_ast.specs.declared.system.PathTree.{PathTree}
use Rattle.og_ast.specs.declared.system.PointTree.{PointTree}
use Rattle.og_ast.specs.declared.system.PointTree.TheVariants as point
use Rattle.og_ast.specs.declared.system.LinkTree.{LinkTree}
use Rattle.og_ast.specs.declared.system.ProcessTree.{ProcessTree}
use Rattle.og_ast.specs.declared.system.ReferenceTree.{ReferenceTree}
use Rattle.og_ast.specs.declared.system.CountTree.{CountTree}
use Rattle.og_reading.specs.Reading.{Rest, Take, behind, after, choice_in, place_in, name_in, number_in, maybe, more_of, list_at, list_in_brackets}
use Rattle.og_parse_body.specs.Reading.{name_at, hname_at, end_at, closing_at, procedure_at}
use Rattle.og_parse_state.specs.Reading.{inner_at}

-- ---- what leads to processes

unfoldable pub use_at : Take UseTree
use_at rest =
    let start = after rest in
    let named = hname_at (behind start) in
    let e = end_at named.1 in
    (record { place = place_in start; «module» = named.0; «end» = e.0 }, e.1)

unfoldable pub sig_at : Take SigTree
sig_at rest =
    let start = after rest in
    let sorts = list_in_brackets hname_at (behind start) in
    (record { name = name_in start; sorts = sorts.0 }, sorts.1)

unfoldable pub signal_at : Take SignalTree
signal_at rest =
    let start = after rest in
    let signals = list_at sig_at (behind start) in
    let e = end_at signals.1 in
    (record { place = place_in start; signals = signals.0; «end» = e.0 }, e.1)

unfoldable pub point_at : Take PointTree
point_at rest = let start = after rest in if choice_in rest == 0 then (point.Env (place_in start), behind start) else (point.Name (name_in start), behind start)

unfoldable pub path_at : Take PathTree
path_at rest =
    let start = after rest in
    let from_ = point_at (behind start) in
    let to_ = point_at (behind from_.1) in
    let signals = list_at name_at (behind to_.1) in
    let e = end_at signals.1 in
    (record { place = place_in start; from = from_.0; to = to_.0; signals = signals.0; «end» = e.0 }, e.1)

-- one path at least
unfoldable pub paths_at : Take (List PathTree)
paths_at rest = let first = path_at rest in more_of path_at (first.0 ∷ []) first.1

unfoldable pub channel_at : Take ChannelTree
channel_at rest =
    let start = after rest in
    let paths = paths_at (behind (behind start)) in
    let c = closing_at (place_in paths.1) (behind paths.1) in
    (record { place = place_in start; name = name_in (behind start); paths = paths.0; closing = c.0 }, c.1)

unfoldable pub route_at : Take RouteTree
route_at rest =
    let start = after rest in
    let paths = paths_at (behind (behind start)) in
    (record { place = place_in start; name = name_in (behind start); paths = paths.0 }, paths.1)

unfoldable pub link_at : Take LinkTree
link_at rest =
    let start = after rest in
    let channels = list_at name_at (behind start) in
    let routes = list_at name_at (behind channels.1) in
    let e = end_at routes.1 in
    (record { place = place_in start; channels = channels.0; routes = routes.0; «end» = e.0 }, e.1)

-- ---- processes

unfoldable pub count_at : Take CountTree
count_at rest =
    let start = after rest in
    let initial = behind start in
    let most = behind (behind initial) in
    (record { place = place_in start; initial = number_in initial; most = number_in most }, behind (behind most))

-- a process whose keyword stands at this place, behind its name and count
unfoldable pub process_body_at : ℕ → Place → Name → Option CountTree → Take ProcessTree
process_body_at n place name count rest =
    let e = end_at (after rest) in
    let parts = more_of (inner_at n) [] e.1 in
    let c = closing_at (place_in parts.1) (behind parts.1) in
    (record { place = place; name = name; count = count; «end» = e.0; parts = parts.0; closing = c.0 }, c.1)

unfoldable pub process_at : ℕ → Take ProcessTree
process_at n rest =
    let start = after rest in
    let count = maybe count_at (behind (behind start)) in
    process_body_at n (place_in start) (name_in (behind start)) count.0 count.1

-- a process of a block, or a reference to one
unfoldable pub process_or_reference_at : ℕ → Place → Name → Option CountTree → Take BlockPart
process_or_reference_at n place name count rest =
    let start = after rest in
    if choice_in rest == 0 then (let e = end_at (behind start) in (part.Reference (record { place = place; name = name; count = count; «end» = e.0 }), e.1))
    else (let p = process_body_at n place name count start in (part.Process p.0, p.1))

-- from the keyword PROCESS on
unfoldable pub block_process_at : ℕ → Take BlockPart
block_process_at n start =
    let count = maybe count_at (behind (behind start)) in
    process_or_reference_at n (place_in start) (name_in (behind start)) count.0 count.1

-- ---- blocks, systems and files

unfoldable pub block_part_at : ℕ → Take BlockPart
block_part_at n rest =
    let start = after rest in
    if choice_in rest == 0 then (let x = signal_at start in (part.Signal x.0, x.1))
    else (if choice_in rest == 1 then (let x = route_at start in (part.Route x.0, x.1))
    else (if choice_in rest == 2 then (let x = link_at start in (part.Link x.0, x.1))
    else block_process_at n start))

unfoldable pub block_at : ℕ → Take BlockTree
block_at n rest =
    let start = after rest in
    let e = end_at (behind (behind start)) in
    let parts = more_of (block_part_at n) [] e.1 in
    let c = closing_at (place_in parts.1) (behind parts.1) in
    (record { place = place_in start; name = name_in (behind start); «end» = e.0; parts = parts.0; closing = c.0 }, c.1)

unfoldable pub system_part_at : ℕ → Take SystemPart
system_part_at n rest =
    let start = after rest in
    if choice_in rest == 0 then (let x = use_at start in (piece.Use x.0, x.1))
    else (if choice_in rest == 1 then (let x = signal_at start in (piece.Signal x.0, x.1))
    else (if choice_in rest == 2 then (let x = channel_at start in (piece.Channel x.0, x.1))
    else (if choice_in rest == 3 then (let x = procedure_at n start in (piece.Procedure x.0, x.1))
    else (let x = block_at n start in (piece.Block x.0, x.1)))))

unfoldable pub system_at : ℕ → Take SystemTree
system_at n rest =
    let start = after rest in
    let e = end_at (behind (behind start)) in
    let parts = more_of (system_part_at n) [] e.1 in
    let c = closing_at (place_in parts.1) (behind parts.1) in
    (record { place = place_in start; name = name_in (behind start); «end» = e.0; parts = parts.0; closing = c.0 }, c.1)

unfoldable pub unit_at : ℕ → Take UnitTree
unit_at n rest =
    let start = after rest in
    if choice_in rest == 0 then (let x = use_at start in (unit.Use x.0, x.1))
    else (if choice_in rest == 1 then (let x = system_at n start in (unit.System x.0, x.1))
    else (let x = process_at n start in (unit.Process x.0, x.1)))

unfoldable pub units_at : ℕ → Take (List UnitTree)
units_at n rest = more_of (unit_at n) [] (after rest)

-- the units of a derivation
abbrev pub units_of : List ℕ → List Spanned → List UnitTree
units_of choices tokens = (units_at (length choices) (record { choices = choices; tokens = tokens })).0
