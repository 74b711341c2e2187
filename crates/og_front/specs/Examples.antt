-- Two trees of model files with the models that they have, worked out by hand: two states with one transition; and a state whose
-- name stands in two headers, with another state between them, so that its handlers name the bodies 1 and 3 (Z.101 section 11.2).
use Rattle.std.specs.Prelude.{ℕ, true, List, [], ◌∷◌, Some, None, codes}
use Rattle.og_base.specs.declared.Place.{Place}
use Rattle.og_names.specs.declared.NameId.{NameId}
use Rattle.og_model.specs.declared.Model.{Model}
use Rattle.og_model.specs.declared.Signal.{Signal}
use Rattle.og_model.specs.declared.Scope.{roll-Scope}
use Rattle.og_model.specs.declared.StateDef.{StateDef}
use Rattle.og_model.specs.declared.StateKind as kinds
use Rattle.og_model.specs.declared.Handler.{Handler}
use Rattle.og_model.specs.declared.Trigger.TheVariants.{Input}
use Rattle.og_model.specs.declared.Body.{Body}
use Rattle.og_model.specs.declared.Block.{roll-Block}
use Rattle.og_model.specs.declared.Step.{Step}
use Rattle.og_model.specs.declared.Action as actions
use Rattle.og_model.specs.declared.EndKind.TheVariants.{Next}
use Rattle.og_front.specs.declared.syntax.Ident.{Ident}
use Rattle.og_front.specs.declared.syntax.SystemText.{SystemText}
use Rattle.og_front.specs.declared.syntax.NextText.{NextText}

-- ---- short words

abbrev at : ℕ → ℕ → Place
at line column = record { file = 0; line = line; column = column }

abbrev ident : List ℕ → ℕ → ℕ → Ident
ident bytes line column = record { place = at line column; word = record { bytes = bytes } }

abbrev next : ℕ → ℕ → Ident → NextText
next line column state = record { place = at line column; state = state }

abbrev id : ℕ → NameId
id n = record { 0 = n }

abbrev signal : ℕ → Signal
signal n = record { name = id n; sorts = []; incoming = true; outgoing = true }

abbrev state : ℕ → Place → List Handler → StateDef
state n place handlers = record { name = id n; place = place; kind = kinds.Basic; handlers = handlers }

abbrev handler : Place → ℕ → ℕ → Handler
handler place k n = record { place = place; trigger = Input k []; body = n }

abbrev sends : Place → ℕ → Step
sends place k = record { label = None; place = place; action = actions.Output k [] }

abbrev body : Place → List Step → Place → ℕ → Body
body place steps end k =
    record { place = place; label = None; block = roll-Block (record { steps = steps; end = Some (record { label = None; place = end; kind = Next k None }) }) }

abbrev model : ℕ → List (List ℕ) → List Signal → List StateDef → List Body → Model
model name names signals states bodies = record {
  name = id name;
  names = names;
  types = [];
  signals = signals;
  timers = [];
  variables = [];
  procs = [];
  root = roll-Scope (record { states = states; starts = record { entry = None; body = 0 } ∷ []; bodies = bodies });
}

-- ---- two states
-- SYSTEM s; SIGNAL Go, done; BLOCK b; PROCESS p;
-- START; NEXTSTATE idle;
-- STATE idle; INPUT go; OUTPUT done; NEXTSTATE busy; ENDSTATE;
-- STATE busy; ENDSTATE;

abbrev pub two_states : SystemText
two_states = record {
  system = ident (codes "s") 1 8;
  signals = record { first = ident (codes "Go") 1 18; others = ident (codes "done") 1 22 ∷ [] } ∷ [];
  block = ident (codes "b") 1 34;
  process = ident (codes "p") 1 45;
  start = record { place = at 2 1; next = next 2 8 (ident (codes "idle") 2 18) };
  states =
      record {
        name = ident (codes "idle") 3 7;
        inputs =
            record { place = at 3 13; signal = ident (codes "go") 3 19; outputs = ident (codes "done") 3 30 ∷ []; next = next 3 36 (ident (codes "busy") 3 46) } ∷ [];
      } ∷ record { name = ident (codes "busy") 4 7; inputs = [] } ∷ [];
}

abbrev pub two_states_model : Model
two_states_model =
    model 4 (codes "s" ∷ codes "go" ∷ codes "done" ∷ codes "b" ∷ codes "p" ∷ codes "idle" ∷ codes "busy" ∷ []) (signal 1 ∷ signal 2 ∷ [])
    (state 5 (at 3 7) (handler (at 3 19) 0 1 ∷ []) ∷ state 6 (at 4 7) [] ∷ [])
    (body (at 2 1) [] (at 2 8) 0 ∷ body (at 3 13) (sends (at 3 30) 1 ∷ []) (at 3 36) 1 ∷ [])

-- ---- two headers of one state
-- SYSTEM s; SIGNAL x; SIGNAL y; BLOCK b; PROCESS p;
-- START; NEXTSTATE c;
-- STATE a; INPUT x; NEXTSTATE a; ENDSTATE;
-- STATE c; INPUT x; OUTPUT y; OUTPUT x; NEXTSTATE A; ENDSTATE;
-- STATE A; INPUT y; NEXTSTATE c; ENDSTATE;

abbrev pub two_headers : SystemText
two_headers = record {
  system = ident (codes "s") 1 8;
  signals = record { first = ident (codes "x") 1 18; others = [] } ∷ record { first = ident (codes "y") 1 28; others = [] } ∷ [];
  block = ident (codes "b") 1 37;
  process = ident (codes "p") 1 48;
  start = record { place = at 2 1; next = next 2 8 (ident (codes "c") 2 18) };
  states =
      record {
        name = ident (codes "a") 3 7;
        inputs = record { place = at 3 10; signal = ident (codes "x") 3 16; outputs = []; next = next 3 19 (ident (codes "a") 3 29) } ∷ [];
      } ∷ record {
        name = ident (codes "c") 4 7;
        inputs =
            record {
              place = at 4 10;
              signal = ident (codes "x") 4 16;
              outputs = ident (codes "y") 4 26 ∷ ident (codes "x") 4 36 ∷ [];
              next = next 4 39 (ident (codes "A") 4 49);
            } ∷ [];
      } ∷ record {
        name = ident (codes "A") 5 7;
        inputs = record { place = at 5 10; signal = ident (codes "y") 5 16; outputs = []; next = next 5 19 (ident (codes "c") 5 29) } ∷ [];
      } ∷ [];
}

abbrev pub two_headers_model : Model
two_headers_model =
    model 4 (codes "s" ∷ codes "x" ∷ codes "y" ∷ codes "b" ∷ codes "p" ∷ codes "c" ∷ codes "a" ∷ []) (signal 1 ∷ signal 2 ∷ [])
    (state 6 (at 3 7) (handler (at 3 16) 0 1 ∷ handler (at 5 16) 1 3 ∷ []) ∷ state 5 (at 4 7) (handler (at 4 16) 0 2 ∷ []) ∷ [])
    (body (at 2 1) [] (at 2 8) 1 ∷ body (at 3 10) [] (at 3 19) 0 ∷ body (at 4 10) (sends (at 4 26) 1 ∷ sends (at 4 36) 0 ∷ []) (at 4 39) 0 ∷ body (at 5 10) [] (at 5 19) 1 ∷ [])
