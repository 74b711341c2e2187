-- Worked examples of outlines. Names are single letters: s a system, b and q blocks, p the process, g, q and c signals, c a state. Each
-- token that matters stands at the column of its number.
use Rattle.std.specs.Prelude.{◌≡◌, ℕ, ◌+◌, true, false, List, [], ◌∷◌, Option, Some, None, codes, refl}
use Rattle.og_ast.specs.declared.ground.Name.{Name}
use Rattle.og_ast.specs.declared.state.InnerTree.{InnerTree, Start, State}
use Rattle.og_ast.specs.declared.state.InTree.{InTree}
use Rattle.og_ast.specs.declared.state.ListTree.TheVariants as list
use Rattle.og_ast.specs.declared.state.PartTree.{PartTree}
use Rattle.og_ast.specs.declared.state.PartTree.TheVariants as part
use Rattle.og_ast.specs.declared.system.BlockPart.{BlockPart}
use Rattle.og_ast.specs.declared.system.BlockPart.TheVariants as member
use Rattle.og_ast.specs.declared.system.BlockTree.{BlockTree}
use Rattle.og_ast.specs.declared.system.PointTree.TheVariants as point
use Rattle.og_ast.specs.declared.system.ProcessTree.{ProcessTree}
use Rattle.og_ast.specs.declared.system.SigTree.{SigTree}
use Rattle.og_ast.specs.declared.system.SystemPart.{SystemPart}
use Rattle.og_ast.specs.declared.system.SystemPart.TheVariants as piece
use Rattle.og_ast.specs.declared.system.SystemTree.{SystemTree}
use Rattle.og_ast.specs.declared.system.Unit.TheVariants as unit
use Rattle.og_ast.specs.declared.transition.ActionTree.{ActionTree, Informal, Output}
use Rattle.og_ast.specs.declared.transition.StepTree.{StepTree}
use Rattle.og_ast.specs.declared.transition.TerminatorKind.{TerminatorKind}
use Rattle.og_ast.specs.declared.transition.TerminatorKind.TheVariants as kind
use Rattle.og_ast.specs.declared.transition.TerminatorTree.{TerminatorTree}
use Rattle.og_ast.specs.declared.transition.TransitionTree.{TransitionTree, roll-TransitionTree}
use Rattle.og_system.specs.Bodies.{home_at}
use Rattle.og_system.specs.Examples.{col, p_at, q_at, b_at, g_at, c_at, r_at, s_at, end, closed, path, env, refers_to}
use Rattle.og_outline.specs.declared.StepOutline.TheVariants as step
use Rattle.og_outline.specs.Outlines.{sort_of, signals_of, names_around, steps_of, next_of, starts_of, states_of, outline_of}

-- ---- parts of texts

abbrev t_at : ℕ → Name
t_at n = record { place = col n; word = record { bytes = codes "T" }; spelling = refl }

abbrev speed_at : ℕ → Name
speed_at n = record { place = col n; word = record { bytes = codes "Speed" }; spelling = refl }

abbrev goes : List StepTree → Option TerminatorTree → TransitionTree
goes steps terminator = roll-TransitionTree (record { steps = steps; terminator = terminator })

abbrev ends : ℕ → TerminatorKind → Option TerminatorTree
ends n kind = Some (record { label = None; place = col n; kind = kind; «end» = end })

-- NEXTSTATE c ;
abbrev to_c : ℕ → Option TerminatorTree
to_c n = ends n (kind.Next (c_at (n + 1)) None)

abbrev does : ℕ → ActionTree → StepTree
does n action = record { label = None; place = col n; action = action; «end» = end }

-- TASK '' ;
abbrev task : ℕ → StepTree
task n = does n (Informal (record { place = col (n + 1); text = record { bytes = [] } }))

-- OUTPUT q ;
abbrev output : ℕ → StepTree
output n = does n (Output (record { signal = q_at (n + 1); values = [] } ∷ []))

abbrev start : ℕ → Option Name → TransitionTree → InnerTree
start n name t = Start (record { place = col n; name = name; «end» = end; transition = t })

abbrev input : ℕ → List Name → TransitionTree → PartTree
input n signals t = part.Input (record { place = col n; inputs = ins signals; «end» = end; enabling = None; transition = t })
  where
    ins : List Name → List InTree
    ins [] = []
    ins (x ∷ xs) = record { signal = x; variables = [] } ∷ ins xs

abbrev state : ℕ → List Name → List PartTree → InnerTree
state n names parts = State (record { place = col n; list = list.Names names; «end» = end; parts = parts; closing = closed })

abbrev process : List InnerTree → ProcessTree
process parts = record { place = col 0; name = p_at 1; count = None; «end» = end; parts = parts; closing = closed }

abbrev signals : List SigTree → SystemPart
signals trees = piece.Signal (record { place = col 0; signals = trees; «end» = end })

abbrev plain : Name → SigTree
plain name = record { name = name; sorts = [] }

abbrev system : ℕ → List SystemPart → SystemTree
system n parts = record { place = col n; name = s_at n; «end» = end; parts = parts; closing = closed }

abbrev block : ℕ → Name → List BlockPart → BlockTree
block n name parts = record { place = col n; name = name; «end» = end; parts = parts; closing = closed }

-- ---- transitions

-- TASK '' ; OUTPUT q ; NEXTSTATE c ;
abbrev pub TextAndOutput : Type 0
TextAndOutput = steps_of (goes (task 1 ∷ output 3 ∷ []) (to_c 5)) ≡ step.Nothing (col 1) ∷ step.Output (q_at 4) ∷ []

abbrev pub LeadsToAState : Type 0
LeadsToAState = next_of (goes (task 1 ∷ []) (to_c 5)) ≡ Some (record { place = col 5; state = c_at 6 })

-- STOP ; and NEXTSTATE c VIA g ; are forms that are not built
abbrev pub StopLeadsNowhere : Type 0
StopLeadsNowhere = next_of (goes [] (ends 1 kind.Stop)) ≡ None

abbrev pub ViaLeadsNowhere : Type 0
ViaLeadsNowhere = next_of (goes [] (ends 1 (kind.Next (c_at 2) (Some (g_at 3))))) ≡ None

-- ---- starts and states

-- START ; TASK '' ; NEXTSTATE c ; STATE c ; ENDSTATE ;
abbrev pub OneStart : Type 0
OneStart =
    starts_of (process (start 2 None (goes (task 3 ∷ []) (to_c 5)) ∷ state 7 (c_at 8 ∷ []) [] ∷ []))
    ≡ record { place = col 2; steps = step.Nothing (col 3) ∷ []; next = record { place = col 5; state = c_at 6 } } ∷ []

-- START q ; NEXTSTATE c ;
abbrev pub NamedStart : Type 0
NamedStart = starts_of (process (start 2 (Some (q_at 3)) (goes [] (to_c 5)) ∷ [])) ≡ []

-- STATE c ; INPUT g ; OUTPUT q ; NEXTSTATE c ; ENDSTATE ; START ; NEXTSTATE c ; STATE c ; INPUT q ; NEXTSTATE c ; INPUT c ; NEXTSTATE c ;
-- ENDSTATE ;
abbrev pub TwoHeaders : Type 0
TwoHeaders =
    states_of (process (state 1 (c_at 2 ∷ []) (input 3 (g_at 4 ∷ []) (goes (output 5 ∷ []) (to_c 7)) ∷ [])
    ∷ start 10 None (goes [] (to_c 11))
    ∷ state 15 (c_at 16 ∷ []) (input 17 (q_at 18 ∷ []) (goes [] (to_c 19)) ∷ input 21 (c_at 22 ∷ []) (goes [] (to_c 23)) ∷ []) ∷ []))
    ≡ record {
      name = c_at 2;
      inputs = record { place = col 3; signal = g_at 4; steps = step.Output (q_at 6) ∷ []; next = record { place = col 7; state = c_at 8 } } ∷ [];
    }
    ∷ record {
      name = c_at 16;
      inputs =
          record { place = col 17; signal = q_at 18; steps = []; next = record { place = col 19; state = c_at 20 } }
          ∷ record { place = col 21; signal = c_at 22; steps = []; next = record { place = col 23; state = c_at 24 } } ∷ [];
    } ∷ []

-- INPUT g , q ; NEXTSTATE c ; and STATE g , q ; are forms that are not built
abbrev pub SeveralNames : Type 0
SeveralNames =
    states_of (process (state 1 (c_at 2 ∷ []) (input 3 (g_at 4 ∷ q_at 5 ∷ []) (goes [] (to_c 7)) ∷ []) ∷ state 10 (g_at 11 ∷ q_at 12 ∷ []) [] ∷ []))
    ≡ record { name = c_at 2; inputs = [] } ∷ []

-- ---- signals

-- T-Speed
abbrev pub HyphenedSort : Type 0
HyphenedSort = sort_of (record { parts = t_at 1 ∷ speed_at 3 ∷ [] }) ≡ record { place = col 1; word = record { bytes = codes "T-Speed" } } ∷ []

-- SYSTEM s ; SIGNAL g , q ( T-Speed , T ) ; BLOCK b ; SIGNALROUTE r FROM ENV TO p WITH g ; FROM p TO ENV WITH q ; PROCESS p ; .. ENDBLOCK ;
-- ENDSYSTEM ;
abbrev routes : BlockPart
routes = member.Route (record { place = col 0; name = r_at 20; paths = path env (point.Name (p_at 21)) (g_at 22 ∷ []) ∷ path (point.Name (p_at 23)) env (q_at 24 ∷ []) ∷ [] })

abbrev with_parameters : SystemPart
with_parameters = signals (plain (g_at 3) ∷ record { name = q_at 4; sorts = record { parts = t_at 5 ∷ speed_at 7 ∷ [] } ∷ record { parts = t_at 8 ∷ [] } ∷ [] } ∷ [])

abbrev block_with : List InnerTree → BlockTree
block_with parts = block 10 (b_at 11) (routes ∷ member.Process (process parts) ∷ [])

abbrev system_with : List InnerTree → SystemTree
system_with parts = system 1 (with_parameters ∷ piece.Block (block_with parts) ∷ [])

abbrev pub SignalsOfRoutes : Type 0
SignalsOfRoutes =
    signals_of (unit.System (system_with []) ∷ []) (process []) (home_at (system_with []) (block_with []))
    ≡ record { name = g_at 3; sorts = []; visible = true; incoming = true; outgoing = false }
    ∷ record {
      name = q_at 4;
      sorts = record { place = col 5; word = record { bytes = codes "T-Speed" } } ∷ record { place = col 8; word = record { bytes = codes "T" } } ∷ [];
      visible = true;
      incoming = false;
      outgoing = true;
    } ∷ []

-- SYSTEM s ; BLOCK b ; SIGNAL g ; ENDBLOCK ; BLOCK q ; SIGNAL g ; PROCESS p ; .. ENDBLOCK ; SIGNAL c ; ENDSYSTEM ; without routes
abbrev own : BlockPart
own = member.Signal (record { place = col 0; signals = plain (g_at 22) ∷ []; «end» = end })

abbrev two_blocks : List BlockPart → SystemTree
two_blocks parts = system 1 (piece.Block (block 10 (b_at 11) (member.Signal (record { place = col 0; signals = plain (g_at 12) ∷ []; «end» = end }) ∷ [])) ∷ piece.Block (block 20 (q_at 21) parts) ∷ signals (plain (c_at 30) ∷ []) ∷ [])

abbrev pub SameNameInTwoBlocks : Type 0
SameNameInTwoBlocks =
    signals_of (unit.System (two_blocks (own ∷ [])) ∷ []) (process []) (home_at (two_blocks (own ∷ [])) (block 20 (q_at 21) (own ∷ [])))
    ≡ record { name = g_at 12; sorts = []; visible = false; incoming = true; outgoing = true }
    ∷ record { name = g_at 22; sorts = []; visible = true; incoming = true; outgoing = true }
    ∷ record { name = c_at 30; sorts = []; visible = true; incoming = true; outgoing = true } ∷ []

-- ---- what is visible around the process

-- the same system, where PROCESS p ; stands at file level
abbrev pub Around : Type 0
Around =
    names_around (unit.System (two_blocks (own ∷ refers_to (p_at 25) ∷ [])) ∷ unit.Process (process []) ∷ []) (home_at (two_blocks (own ∷ refers_to (p_at 25) ∷ [])) (block 20 (q_at 21) (own ∷ refers_to (p_at 25) ∷ [])))
    ≡ g_at 22 ∷ b_at 11 ∷ q_at 21 ∷ c_at 30 ∷ p_at 1 ∷ []

-- ---- a whole outline

-- the system with routes, with START ; NEXTSTATE c ; STATE c ; INPUT g ; TASK '' ; OUTPUT q ; NEXTSTATE c ; ENDSTATE ; in its process
abbrev body : List InnerTree
body = start 30 None (goes [] (to_c 31)) ∷ state 35 (c_at 36 ∷ []) (input 37 (g_at 38 ∷ []) (goes (task 39 ∷ output 41 ∷ []) (to_c 43)) ∷ []) ∷ []

abbrev pub WholeOutline : Type 0
WholeOutline =
    outline_of (unit.System (system_with body) ∷ []) (process body) (home_at (system_with body) (block_with body))
    ≡ record {
      process = p_at 1;
      around = r_at 20 ∷ p_at 1 ∷ g_at 3 ∷ q_at 4 ∷ b_at 11 ∷ [];
      signals =
          record { name = g_at 3; sorts = []; visible = true; incoming = true; outgoing = false }
          ∷ record {
            name = q_at 4;
            sorts = record { place = col 5; word = record { bytes = codes "T-Speed" } } ∷ record { place = col 8; word = record { bytes = codes "T" } } ∷ [];
            visible = true;
            incoming = false;
            outgoing = true;
          } ∷ [];
      starts = record { place = col 30; steps = []; next = record { place = col 31; state = c_at 32 } } ∷ [];
      states = record {
        name = c_at 36;
        inputs = record { place = col 37; signal = g_at 38; steps = step.Nothing (col 39) ∷ step.Output (q_at 42) ∷ []; next = record { place = col 43; state = c_at 44 } } ∷ [];
      } ∷ [];
    }
