-- Worked examples of what systems and blocks declare. Names are single letters: s a system, a and b blocks, p a process, q a procedure,
-- g and h signals, c a channel, r a route, k a constant. Each token that matters stands at the column of its number.
use Rattle.std.specs.Prelude.{◌≡◌, ℕ, List, [], ◌∷◌, Option, Some, None, codes, refl}
use Rattle.og_base.specs.declared.Rule.{Rule}
use Rattle.og_base.specs.declared.Rule.TheVariants.{N1, N2, N3, N4}
use Rattle.og_base.specs.declared.Violation.{Violation}
use Rattle.og_ast.specs.declared.ground.HyphenedName.{HyphenedName}
use Rattle.og_ast.specs.declared.ground.Name.{Name}
use Rattle.og_ast.specs.declared.procedure.ProcedureBody.TheVariants as procedure
use Rattle.og_ast.specs.declared.system.BlockPart.{BlockPart}
use Rattle.og_ast.specs.declared.system.BlockPart.TheVariants as member
use Rattle.og_ast.specs.declared.system.SigTree.{SigTree}
use Rattle.og_ast.specs.declared.system.SystemPart.{SystemPart}
use Rattle.og_ast.specs.declared.system.SystemPart.TheVariants as piece
use Rattle.og_ast.specs.declared.system.Unit.{Unit as UnitTree}
use Rattle.og_ast.specs.declared.system.Unit.TheVariants as unit
use Rattle.og_system.specs.Examples.{col, p_at, q_at, b_at, g_at, c_at, r_at, s_at, end, closed, body, refers_to, stands}
use Rattle.og_declared.specs.Violations.{first_violation}

-- ---- parts of texts

abbrev pub capital_g_at : ℕ → Name
capital_g_at n = record { place = col n; word = record { bytes = codes "G" }; spelling = refl }

abbrev pub h_at : ℕ → Name
h_at n = record { place = col n; word = record { bytes = codes "h" }; spelling = refl }

abbrev pub a_at : ℕ → Name
a_at n = record { place = col n; word = record { bytes = codes "a" }; spelling = refl }

abbrev pub k_at : ℕ → Name
k_at n = record { place = col n; word = record { bytes = codes "k" }; spelling = refl }

abbrev pub two_at : ℕ → Name
two_at n = record { place = col n; word = record { bytes = codes "go__on" }; spelling = refl }

abbrev pub t_at : ℕ → Name
t_at n = record { place = col n; word = record { bytes = codes "T" }; spelling = refl }

abbrev pub speed_at : ℕ → Name
speed_at n = record { place = col n; word = record { bytes = codes "Speed" }; spelling = refl }

abbrev pub boolean_at : ℕ → Name
boolean_at n = record { place = col n; word = record { bytes = codes "Boolean" }; spelling = refl }

abbrev pub integer_at : ℕ → Name
integer_at n = record { place = col n; word = record { bytes = codes "integer" }; spelling = refl }

abbrev pub set_at : ℕ → Name
set_at n = record { place = col n; word = record { bytes = codes "set" }; spelling = refl }

abbrev pub timer_at : ℕ → Name
timer_at n = record { place = col n; word = record { bytes = codes "Timer" }; spelling = refl }

abbrev pub plain : Name → SigTree
plain name = record { name = name; sorts = [] }

-- a type with one part, and one with a hyphen
abbrev pub one : Name → HyphenedName
one name = record { parts = name ∷ [] }

abbrev pub two : Name → Name → HyphenedName
two first second = record { parts = first ∷ second ∷ [] }

abbrev pub with_types : Name → List HyphenedName → SigTree
with_types name sorts = record { name = name; sorts = sorts }

abbrev pub signals : List SigTree → SystemPart
signals declared = piece.Signal (record { place = col 0; signals = declared; «end» = end })

abbrev pub signals_inside : List SigTree → BlockPart
signals_inside declared = member.Signal (record { place = col 0; signals = declared; «end» = end })

abbrev pub channel : Name → SystemPart
channel name = piece.Channel (record { place = col 0; name = name; paths = []; closing = closed })

abbrev pub procedure_of : Name → SystemPart
procedure_of name = piece.Procedure (record { place = col 0; name = name; «end» = end; fpar = None; returns = None; body = procedure.External (col 0) end })

abbrev pub block : Name → List BlockPart → SystemPart
block name parts = piece.Block (record { place = col 0; name = name; «end» = end; parts = parts; closing = closed })

abbrev pub route : Name → BlockPart
route name = member.Route (record { place = col 0; name = name; paths = [] })

abbrev pub system_named : Name → List SystemPart → UnitTree
system_named name parts = unit.System (record { place = col 0; name = name; «end» = end; parts = parts; closing = closed })

abbrev pub system : List SystemPart → UnitTree
system parts = system_named (s_at 0) parts

abbrev violates : Rule → ℕ → Option Violation
violates rule n = Some (record { rule = rule; place = col n })

-- the first violation, where ASN.1 has the type T-Speed and the constant k
abbrev first : List UnitTree → Option Violation
first units = first_violation (codes "t_speed" ∷ []) (codes "k" ∷ []) units

-- ---- signals

-- SIGNAL g, h, G ;
abbrev pub SignalTwice : Type 0
SignalTwice = first (system (signals (plain (g_at 2) ∷ plain (h_at 4) ∷ plain (capital_g_at 6) ∷ []) ∷ []) ∷ []) ≡ violates N2 6

-- BLOCK a ; SIGNAL g ; ENDBLOCK ; BLOCK b ; SIGNAL g ; ENDBLOCK ;
abbrev pub SignalInTwoBlocks : Type 0
SignalInTwoBlocks = first (system (block (a_at 2) (signals_inside (plain (g_at 5) ∷ []) ∷ []) ∷ block (b_at 10) (signals_inside (plain (g_at 13) ∷ []) ∷ []) ∷ []) ∷ []) ≡ violates N2 13

-- BLOCK a ; SIGNAL g ; ENDBLOCK ; SIGNAL g ;
abbrev pub SignalBehindItsBlock : Type 0
SignalBehindItsBlock = first (system (block (a_at 2) (signals_inside (plain (g_at 5) ∷ []) ∷ []) ∷ signals (plain (g_at 10) ∷ []) ∷ []) ∷ []) ≡ violates N2 10

-- one system, and another one
abbrev pub SignalInTwoFiles : Type 0
SignalInTwoFiles = first (system (signals (plain (g_at 2) ∷ []) ∷ []) ∷ system (signals (plain (g_at 22) ∷ []) ∷ []) ∷ []) ≡ violates N2 22

-- ---- other spaces

-- SIGNAL g ; CHANNEL g .. ; PROCEDURE g .. ; BLOCK g ; SIGNALROUTE g .. ; PROCESS g ; .. ENDBLOCK ;
abbrev pub OneNameInTwoSpaces : Type 0
OneNameInTwoSpaces =
    first (system (signals (plain (g_at 2) ∷ []) ∷ channel (g_at 5) ∷ procedure_of (g_at 8) ∷ block (g_at 11) (route (g_at 14) ∷ stands (g_at 17) ∷ []) ∷ []) ∷ []) ≡ None

-- CHANNEL c .. ; CHANNEL c .. ;
abbrev pub ChannelTwice : Type 0
ChannelTwice = first (system (channel (c_at 2) ∷ block (c_at 4) [] ∷ channel (c_at 6) ∷ []) ∷ []) ≡ violates N2 6

-- BLOCK b ; ENDBLOCK ; BLOCK b ; ENDBLOCK ;
abbrev pub BlockTwice : Type 0
BlockTwice = first (system (block (b_at 2) [] ∷ block (b_at 6) [] ∷ []) ∷ []) ≡ violates N2 6

-- PROCEDURE q ; EXTERNAL ; PROCEDURE q ; EXTERNAL ;
abbrev pub ProcedureTwice : Type 0
ProcedureTwice = first (system (procedure_of (q_at 2) ∷ procedure_of (q_at 6) ∷ []) ∷ []) ≡ violates N2 6

-- SIGNALROUTE r .. ; SIGNALROUTE r .. ; in one block
abbrev pub RouteTwice : Type 0
RouteTwice = first (system (block (b_at 2) (route (r_at 4) ∷ route (r_at 8) ∷ []) ∷ []) ∷ []) ≡ violates N2 8

-- SIGNALROUTE r .. ; in each of two blocks
abbrev pub RouteInTwoBlocks : Type 0
RouteInTwoBlocks = first (system (block (a_at 2) (route (r_at 4) ∷ []) ∷ block (b_at 6) (route (r_at 8) ∷ []) ∷ []) ∷ []) ≡ None

-- ---- bodies of processes

-- PROCESS p ; ENDPROCESS ; PROCESS p ; ENDPROCESS ; in one block
abbrev pub BodyTwiceInABlock : Type 0
BodyTwiceInABlock = first (system (block (b_at 2) (stands (p_at 4) ∷ stands (p_at 8) ∷ []) ∷ []) ∷ []) ≡ violates N2 8

-- the same at file level
abbrev pub BodyTwiceAtFileLevel : Type 0
BodyTwiceAtFileLevel = first (unit.Process (body (p_at 4)) ∷ unit.Process (body (p_at 28)) ∷ []) ≡ violates N2 28

-- a body in a block hides one at file level
abbrev pub BodyInABlockAndAtFileLevel : Type 0
BodyInABlockAndAtFileLevel = first (system (block (b_at 2) (stands (p_at 4) ∷ []) ∷ []) ∷ unit.Process (body (p_at 28)) ∷ []) ≡ None

-- PROCESS p REFERENCED ; declares nothing
abbrev pub ReferenceTwice : Type 0
ReferenceTwice = first (system (block (b_at 2) (refers_to (p_at 4) ∷ refers_to (p_at 8) ∷ []) ∷ []) ∷ []) ≡ None

-- ---- two underscores

-- SIGNAL g, go__on ;
abbrev pub TwoUnderscores : Type 0
TwoUnderscores = first (system (signals (plain (g_at 2) ∷ plain (two_at 4) ∷ []) ∷ []) ∷ []) ≡ violates N4 4

-- CHANNEL go__on .. ; CHANNEL go__on .. ; the first one violates N4 alone
abbrev pub TwoUnderscoresTwice : Type 0
TwoUnderscoresTwice = first (system (channel (two_at 2) ∷ channel (two_at 6) ∷ []) ∷ []) ≡ violates N4 2

-- SYSTEM go__on ; the name of a system is in no space
abbrev pub TwoUnderscoresOfASystem : Type 0
TwoUnderscoresOfASystem = first (system_named (two_at 2) [] ∷ []) ≡ None

-- PROCESS go__on REFERENCED ; in a block, and the body at file level
abbrev pub TwoUnderscoresOfABody : Type 0
TwoUnderscoresOfABody = first (system (block (b_at 2) (refers_to (two_at 4) ∷ []) ∷ []) ∷ unit.Process (body (two_at 28)) ∷ []) ≡ violates N4 28

-- ---- types of parameters

-- SIGNAL g(T-Speed) ; which has the name of the type
abbrev pub TypeOfAsn : Type 0
TypeOfAsn = first (system (signals (with_types (g_at 2) (two (t_at 4) (speed_at 6) ∷ []) ∷ []) ∷ []) ∷ []) ≡ None

-- SIGNAL g(Boolean, integer) ;
abbrev pub BuiltInTypes : Type 0
BuiltInTypes = first (system (signals (with_types (g_at 2) (one (boolean_at 4) ∷ one (integer_at 6) ∷ []) ∷ []) ∷ []) ∷ []) ≡ None

-- SIGNAL g(Boolean, h) ; where h is nothing
abbrev pub NoSuchType : Type 0
NoSuchType = first (system (signals (with_types (g_at 2) (one (boolean_at 4) ∷ one (h_at 6) ∷ []) ∷ []) ∷ []) ∷ []) ≡ violates N1 6

-- SIGNAL g(T-T) ; and SIGNAL g(set-Timer) ; each at its first part: the second has the name of set_timer
abbrev pub HyphensOfAType : Type 0
HyphensOfAType =
    (first (system (signals (with_types (g_at 2) (two (t_at 4) (t_at 6) ∷ []) ∷ []) ∷ []) ∷ []) ≡ violates N1 4)
    × (first (system (signals (with_types (g_at 2) (two (set_at 4) (timer_at 6) ∷ []) ∷ []) ∷ []) ∷ []) ≡ violates N3 4)

-- SIGNAL g(c) ; CHANNEL c .. ;
abbrev pub TypeThatIsAChannel : Type 0
TypeThatIsAChannel = first (system (signals (with_types (g_at 2) (one (c_at 4) ∷ []) ∷ []) ∷ channel (c_at 8) ∷ []) ∷ []) ≡ violates N3 4

-- BLOCK b ; SIGNAL g(r) ; SIGNALROUTE r .. ;
abbrev pub TypeThatIsARoute : Type 0
TypeThatIsARoute = first (system (block (b_at 2) (signals_inside (with_types (g_at 4) (one (r_at 6) ∷ []) ∷ []) ∷ route (r_at 8) ∷ []) ∷ []) ∷ []) ≡ violates N3 6

-- the same, where the route stands in another block
abbrev pub TypeThatIsARouteElsewhere : Type 0
TypeThatIsARouteElsewhere =
    first (system (block (a_at 1) (route (r_at 3) ∷ []) ∷ block (b_at 5) (signals_inside (with_types (g_at 7) (one (r_at 9) ∷ []) ∷ []) ∷ []) ∷ []) ∷ []) ≡ violates N1 9

-- SIGNAL g(k) ;
abbrev pub TypeThatIsAConstant : Type 0
TypeThatIsAConstant = first (system (signals (with_types (g_at 2) (one (k_at 4) ∷ []) ∷ []) ∷ []) ∷ []) ≡ violates N3 4

-- SIGNAL g(q) ; PROCEDURE q ; EXTERNAL ;
abbrev pub TypeThatIsAProcedure : Type 0
TypeThatIsAProcedure = first (system (signals (with_types (g_at 2) (one (q_at 4) ∷ []) ∷ []) ∷ procedure_of (q_at 8) ∷ []) ∷ []) ≡ violates N3 4
