-- Worked examples of ways: the names are those of the examples of bodies, p the process in the block b. Each tells of the signals in the
-- order of the text which are incoming, and which outgoing; the last one tells which are visible.
use Rattle.std.specs.Prelude.{◌≡◌, ℕ, Bool, true, false, List, [], ◌∷◌, ◌++◌, map}
use Rattle.og_ast.specs.declared.ground.Name.{Name}
use Rattle.og_ast.specs.declared.system.BlockPart.{BlockPart}
use Rattle.og_ast.specs.declared.system.BlockPart.TheVariants as member
use Rattle.og_ast.specs.declared.system.BlockTree.{BlockTree}
use Rattle.og_ast.specs.declared.system.PointTree.{PointTree}
use Rattle.og_ast.specs.declared.system.PointTree.TheVariants as point
use Rattle.og_ast.specs.declared.system.SystemPart.{SystemPart}
use Rattle.og_ast.specs.declared.system.SystemPart.TheVariants as piece
use Rattle.og_ast.specs.declared.system.SystemTree.{SystemTree}
use Rattle.og_ast.specs.declared.system.Unit.TheVariants as unit
use Rattle.og_system.specs.Bodies.{home_at}
use Rattle.og_system.specs.Ways.{Directed, directed_signals}
use Rattle.og_system.specs.Examples.{col, p_at, capital_p_at, q_at, b_at, g_at, c_at, s_at, end, closed, system_of, block_of, body, path, env, route, channel, stands, link, r_at}

abbrev signal : Name → SystemPart
signal name = piece.Signal (record { place = end.place; signals = record { name = name; sorts = [] } ∷ []; «end» = end })

-- what a system with the signals g and q in it, and with a signal c in its block, makes of its channels and of the parts of its block
abbrev told : List SystemPart → List BlockPart → List (Bool × Bool)
told channels members = map (λ (d : Directed). (d.incoming, d.outgoing)) (directed_signals (unit.System around ∷ []) (body (p_at 30)) (home_at around (block_of inside)))
  where
    inside : List BlockPart
    inside = member.Signal (record { place = end.place; signals = record { name = c_at 0; sorts = [] } ∷ []; «end» = end }) ∷ members

    around : SystemTree
    around = system_of (signal (g_at 0) ∷ (channels ++ piece.Block (block_of inside) ∷ signal (q_at 0) ∷ []))

abbrev to : Name → PointTree
to name = point.Name name

-- no route, no channel: each signal goes both ways
abbrev pub NoWays : Type 0
NoWays = told [] (stands (p_at 30) ∷ []) ≡ (true, true) ∷ (true, true) ∷ (true, true) ∷ []

-- SIGNALROUTE r FROM ENV TO P WITH g ; FROM p TO ENV WITH c ;
abbrev pub RoutesOfTheProcess : Type 0
RoutesOfTheProcess = told [] (route (path env (to (capital_p_at 1)) (g_at 2 ∷ []) ∷ path (to (p_at 3)) env (c_at 4 ∷ []) ∷ []) ∷ []) ≡ (true, false) ∷ (false, true) ∷ (false, false) ∷ []

-- a route that joins other processes: the process has no way
abbrev pub RoutesOfOthers : Type 0
RoutesOfOthers = told [] (route (path env (to (q_at 1)) (g_at 2 ∷ []) ∷ []) ∷ []) ≡ (false, false) ∷ (false, false) ∷ (false, false) ∷ []

-- where the block has a route, channels do not count
abbrev pub RouteBeforeChannel : Type 0
RouteBeforeChannel =
    told (channel (path env (to (b_at 1)) (q_at 2 ∷ []) ∷ []) ∷ []) (route (path env (to (p_at 3)) (g_at 4 ∷ []) ∷ []) ∷ link (c_at 5 ∷ []) (r_at 6 ∷ []) ∷ [])
    ≡ (true, false) ∷ (false, false) ∷ (false, false) ∷ []

-- CHANNEL c FROM ENV TO b WITH g , q ; FROM b TO ENV WITH q ; alone
abbrev pub ChannelsAlone : Type 0
ChannelsAlone = told (channel (path env (to (b_at 1)) (g_at 2 ∷ q_at 3 ∷ []) ∷ path (to (b_at 4)) env (q_at 5 ∷ []) ∷ []) ∷ []) [] ≡ (true, false) ∷ (false, false) ∷ (true, true) ∷ []

-- a channel that joins other blocks: each signal goes both ways
abbrev pub ChannelsOfOthers : Type 0
ChannelsOfOthers = told (channel (path env (to (q_at 1)) (g_at 2 ∷ []) ∷ []) ∷ []) [] ≡ (true, true) ∷ (true, true) ∷ (true, true) ∷ []

-- a path from the process to itself
abbrev pub ToItself : Type 0
ToItself = told [] (route (path (to (p_at 1)) (to (p_at 2)) (g_at 3 ∷ []) ∷ []) ∷ []) ≡ (true, true) ∷ (false, false) ∷ (false, false) ∷ []

-- BLOCK b ; SIGNAL c ; ENDBLOCK ;
abbrev block_at : ℕ → BlockTree
block_at n = record { place = col n; name = b_at n; «end» = end; parts = member.Signal (record { place = end.place; signals = record { name = c_at n; sorts = [] } ∷ []; «end» = end }) ∷ []; closing = closed }

abbrev system_at : ℕ → List SystemPart → SystemTree
system_at n parts = record { place = col n; name = s_at n; «end» = end; parts = parts; closing = closed }

-- SYSTEM s ; SIGNAL g ; BLOCK b ; SIGNAL c ; ENDBLOCK ; BLOCK b ; SIGNAL c ; ENDBLOCK ; SIGNAL q ; ENDSYSTEM ; SYSTEM s ; SIGNAL g ;
-- ENDSYSTEM ; where the process belongs to the second block
abbrev pub VisibleSignals : Type 0
VisibleSignals =
    map (λ (d : Directed). d.visible) (directed_signals (unit.System around ∷ unit.System (system_at 40 (signal (g_at 41) ∷ [])) ∷ []) (body (p_at 30)) (home_at around (block_at 20)))
    ≡ true ∷ false ∷ true ∷ true ∷ false ∷ []
  where
    around : SystemTree
    around = system_at 1 (signal (g_at 2) ∷ piece.Block (block_at 10) ∷ piece.Block (block_at 20) ∷ signal (q_at 30) ∷ [])
