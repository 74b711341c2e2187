-- Worked examples of bodies and of names in systems and blocks. Names are single letters: s a system, b a block, p and q processes,
-- g a signal, c a channel, r a route. Each token that matters stands at the column of its number.
use Rattle.std.specs.Prelude.{◌≡◌, ℕ, List, [], ◌∷◌, ◌++◌, Option, Some, None, codes, refl}
use Rattle.og_base.specs.declared.Place.{Place}
use Rattle.og_base.specs.declared.Rule.{Rule}
use Rattle.og_base.specs.declared.Rule.TheVariants.{N1, N3, N5}
use Rattle.og_base.specs.declared.Violation.{Violation}
use Rattle.og_ast.specs.declared.ground.Name.{Name}
use Rattle.og_ast.specs.declared.ground.EndTree.{EndTree}
use Rattle.og_ast.specs.declared.ground.ClosingTree.{ClosingTree}
use Rattle.og_ast.specs.declared.system.BlockPart.{BlockPart}
use Rattle.og_ast.specs.declared.system.BlockPart.TheVariants as member
use Rattle.og_ast.specs.declared.system.BlockTree.{BlockTree}
use Rattle.og_ast.specs.declared.system.PathTree.{PathTree}
use Rattle.og_ast.specs.declared.system.PointTree.{PointTree}
use Rattle.og_ast.specs.declared.system.PointTree.TheVariants as point
use Rattle.og_ast.specs.declared.system.ProcessTree.{ProcessTree}
use Rattle.og_ast.specs.declared.system.SystemPart.{SystemPart}
use Rattle.og_ast.specs.declared.system.SystemPart.TheVariants as piece
use Rattle.og_ast.specs.declared.system.SystemTree.{SystemTree}
use Rattle.og_ast.specs.declared.system.Unit.{Unit as UnitTree}
use Rattle.og_ast.specs.declared.system.Unit.TheVariants as unit
use Rattle.og_system.specs.Bodies.{home_at, body_at, process_of, home_of, first_violation}

-- ---- parts of texts

abbrev pub col : ℕ → Place
col n = record { file = 0; line = 1; column = n }

abbrev pub p_at : ℕ → Name
p_at n = record { place = col n; word = record { bytes = codes "p" }; spelling = refl }

abbrev pub capital_p_at : ℕ → Name
capital_p_at n = record { place = col n; word = record { bytes = codes "P" }; spelling = refl }

abbrev pub q_at : ℕ → Name
q_at n = record { place = col n; word = record { bytes = codes "q" }; spelling = refl }

abbrev pub b_at : ℕ → Name
b_at n = record { place = col n; word = record { bytes = codes "b" }; spelling = refl }

abbrev pub g_at : ℕ → Name
g_at n = record { place = col n; word = record { bytes = codes "g" }; spelling = refl }

abbrev pub c_at : ℕ → Name
c_at n = record { place = col n; word = record { bytes = codes "c" }; spelling = refl }

abbrev pub r_at : ℕ → Name
r_at n = record { place = col n; word = record { bytes = codes "r" }; spelling = refl }

abbrev pub speed_at : ℕ → Name
speed_at n = record { place = col n; word = record { bytes = codes "T_Speed" }; spelling = refl }

abbrev pub s_at : ℕ → Name
s_at n = record { place = col n; word = record { bytes = codes "s" }; spelling = refl }

abbrev pub end : EndTree
end = record { place = col 0; comment = None }

abbrev pub closed : ClosingTree
closed = record { place = col 0; name = None; «end» = end }

abbrev pub system_of : List SystemPart → SystemTree
system_of parts = record { place = col 0; name = s_at 0; «end» = end; parts = parts; closing = closed }

abbrev pub block_of : List BlockPart → BlockTree
block_of parts = record { place = col 0; name = b_at 0; «end» = end; parts = parts; closing = closed }

-- SYSTEM s ; SIGNAL g ; .. BLOCK b ; .. ENDBLOCK ; ENDSYSTEM ;
abbrev pub in_system_and_block : List SystemPart → List BlockPart → UnitTree
in_system_and_block parts members =
    unit.System (system_of (piece.Signal (record { place = col 0; signals = record { name = g_at 0; sorts = [] } ∷ []; «end» = end }) ∷ (parts ++ piece.Block (block_of members) ∷ [])))

abbrev pub body : Name → ProcessTree
body name = record { place = col 0; name = name; count = None; «end» = end; parts = []; closing = closed }

abbrev pub refers_to : Name → BlockPart
refers_to name = member.Reference (record { place = col 0; name = name; count = None; «end» = end })

abbrev pub stands : Name → BlockPart
stands name = member.Process (body name)

abbrev pub path : PointTree → PointTree → List Name → PathTree
path from to signals = record { place = col 0; from = from; to = to; signals = signals; «end» = end }

abbrev pub env : PointTree
env = point.Env (col 0)

abbrev pub route : List PathTree → BlockPart
route paths = member.Route (record { place = col 0; name = r_at 0; paths = paths })

abbrev pub channel : List PathTree → SystemPart
channel paths = piece.Channel (record { place = col 0; name = c_at 0; paths = paths; closing = closed })

abbrev pub link : List Name → List Name → BlockPart
link channels routes = member.Link (record { place = col 0; channels = channels; routes = routes; «end» = end })

abbrev violates : Rule → ℕ → Option Violation
violates rule n = Some (record { rule = rule; place = col n })

-- no names of ASN.1
abbrev no_types : List (List ℕ)
no_types = []

-- ---- how many bodies there are

abbrev pub NothingAtAll : Type 0
NothingAtAll = first_violation 3 no_types [] ≡ Some (record { rule = N5; place = record { file = 3; line = 1; column = 1 } })

-- PROCESS p REFERENCED ; alone
abbrev pub ReferenceAlone : Type 0
ReferenceAlone = first_violation 0 no_types (in_system_and_block [] (refers_to (p_at 9) ∷ []) ∷ []) ≡ violates N5 1

-- PROCESS p ; ENDPROCESS ;
abbrev pub OneBody : Type 0
OneBody = first_violation 0 no_types (in_system_and_block [] (stands (p_at 9) ∷ []) ∷ []) ≡ None

-- PROCESS p ; ENDPROCESS ; PROCESS q ; ENDPROCESS ;
abbrev pub TwoBodies : Type 0
TwoBodies = first_violation 0 no_types (in_system_and_block [] (stands (p_at 9) ∷ stands (q_at 19) ∷ []) ∷ []) ≡ violates N5 19

-- a file that is given twice
abbrev pub SameFileTwice : Type 0
SameFileTwice = first_violation 0 no_types (in_system_and_block [] (stands (p_at 9) ∷ []) ∷ in_system_and_block [] (stands (p_at 29) ∷ []) ∷ []) ≡ violates N5 29

-- ---- references, and bodies at file level

-- PROCESS P REFERENCED ; and, at file level, PROCESS p ; ENDPROCESS ;
abbrev pub ReferenceInAnotherCase : Type 0
ReferenceInAnotherCase = first_violation 0 no_types (in_system_and_block [] (refers_to (capital_p_at 9) ∷ []) ∷ unit.Process (body (p_at 29)) ∷ []) ≡ None

-- PROCESS p ; ENDPROCESS ; at file level alone
abbrev pub BodyWithoutReference : Type 0
BodyWithoutReference = first_violation 0 no_types (in_system_and_block [] [] ∷ unit.Process (body (p_at 29)) ∷ []) ≡ violates N1 29

-- PROCESS q REFERENCED ; and PROCESS p ; ENDPROCESS ; in one block
abbrev pub ReferenceWithoutBody : Type 0
ReferenceWithoutBody = first_violation 0 no_types (in_system_and_block [] (refers_to (q_at 9) ∷ stands (p_at 19) ∷ []) ∷ []) ≡ violates N1 9

-- PROCESS p REFERENCED ; and PROCESS p ; ENDPROCESS ; in one block: the body does not stand at file level
abbrev pub ReferenceToABodyInItsBlock : Type 0
ReferenceToABodyInItsBlock = first_violation 0 no_types (in_system_and_block [] (refers_to (p_at 9) ∷ stands (p_at 19) ∷ []) ∷ []) ≡ violates N1 9

-- PROCESS g REFERENCED ; where g is a signal
abbrev pub ReferenceToASignal : Type 0
ReferenceToASignal = first_violation 0 no_types (in_system_and_block [] (refers_to (g_at 9) ∷ stands (p_at 19) ∷ []) ∷ []) ≡ violates N3 9

-- PROCESS T_Speed REFERENCED ; where T-Speed is a type
abbrev pub ReferenceToAType : Type 0
ReferenceToAType = first_violation 0 (codes "t_speed" ∷ []) (in_system_and_block [] (refers_to (speed_at 9) ∷ stands (p_at 19) ∷ []) ∷ []) ≡ violates N3 9

-- ---- routes, channels and CONNECT

-- SIGNALROUTE r FROM ENV TO q WITH g ;
abbrev pub RouteToAnotherProcess : Type 0
RouteToAnotherProcess = first_violation 0 no_types (in_system_and_block [] (route (path env (point.Name (q_at 9)) (g_at 10 ∷ []) ∷ []) ∷ stands (p_at 19) ∷ []) ∷ []) ≡ violates N1 9

-- SIGNALROUTE r FROM ENV TO b WITH g ; where b is the block
abbrev pub RouteToItsBlock : Type 0
RouteToItsBlock = first_violation 0 no_types (in_system_and_block [] (route (path env (point.Name (b_at 9)) (g_at 10 ∷ []) ∷ []) ∷ stands (p_at 19) ∷ []) ∷ []) ≡ violates N3 9

-- CHANNEL c FROM b TO p WITH g ; where p stands in the block: the system does not see it
abbrev pub ChannelToAProcess : Type 0
ChannelToAProcess = first_violation 0 no_types (in_system_and_block (channel (path (point.Name (b_at 3)) (point.Name (p_at 4)) (g_at 5 ∷ []) ∷ []) ∷ []) (stands (p_at 19) ∷ []) ∷ []) ≡ violates N1 4

-- CHANNEL c FROM ENV TO b WITH q ; where q is nothing
abbrev pub ChannelWithoutItsSignal : Type 0
ChannelWithoutItsSignal = first_violation 0 no_types (in_system_and_block (channel (path env (point.Name (b_at 4)) (g_at 5 ∷ q_at 6 ∷ []) ∷ []) ∷ []) (stands (p_at 19) ∷ []) ∷ []) ≡ violates N1 6

-- CHANNEL c FROM ENV TO b WITH g ; SIGNALROUTE r FROM ENV TO p WITH g ; CONNECT c AND r ;
abbrev pub Connected : Type 0
Connected =
    first_violation 0 no_types
    (in_system_and_block (channel (path env (point.Name (b_at 4)) (g_at 5 ∷ []) ∷ []) ∷ [])
    (route (path env (point.Name (p_at 9)) (g_at 10 ∷ []) ∷ []) ∷ link (c_at 12 ∷ []) (r_at 14 ∷ []) ∷ stands (p_at 19) ∷ []) ∷ [])
    ≡ None

-- CONNECT r AND c ;
abbrev pub ConnectedTheWrongWayRound : Type 0
ConnectedTheWrongWayRound =
    first_violation 0 no_types
    (in_system_and_block (channel (path env (point.Name (b_at 4)) (g_at 5 ∷ []) ∷ []) ∷ [])
    (route (path env (point.Name (p_at 9)) (g_at 10 ∷ []) ∷ []) ∷ link (r_at 12 ∷ []) (c_at 14 ∷ []) ∷ stands (p_at 19) ∷ []) ∷ [])
    ≡ violates N3 12

-- ---- where a body belongs

-- a body at file level belongs to the block with a reference to it
abbrev pub HomeByReference : Type 0
HomeByReference =
    home_of (in_system_and_block [] (refers_to (capital_p_at 9) ∷ []) ∷ []) (body_at (body (p_at 29)) None)
    ≡ Some (home_at (system_of (piece.Signal (record { place = col 0; signals = record { name = g_at 0; sorts = [] } ∷ []; «end» = end }) ∷ piece.Block (block_of (refers_to (capital_p_at 9) ∷ [])) ∷ [])) (block_of (refers_to (capital_p_at 9) ∷ [])))

-- of two bodies the first is the process
abbrev pub FirstBody : Type 0
FirstBody = process_of (unit.Process (body (q_at 2)) ∷ in_system_and_block [] (stands (p_at 9) ∷ []) ∷ []) ≡ Some (body_at (body (q_at 2)) None)
