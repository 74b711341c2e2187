-- Where a run goes on, by where it stands.
use Rattle.std.proofs.Common.{◌≡◌, ℕ, ℤ, List, [], ◌∷◌, ◌++◌, map, reverse, Some, slice_get, sym, ap, ◌∙◌}
use Rattle.std.proofs.lemmas.List.{reverse-append, map-append}
use Rattle.og_ir.specs.Cells.{Cells}
use Rattle.og_ir.specs.Arithmetic.{Value, ◌>>=◌, or_else}
use Rattle.og_ir.specs.Steps as steps
use Rattle.og_ir.specs.Steps.{Frame, Config, Over, Broken, onward}
use Rattle.og_cstatement.specs.declared.code.Body.{Body}
use Rattle.og_cstatement.specs.declared.code.Statement.{Statement}
use Rattle.og_cstatement.specs.declared.linking.Linked.{Linked}
use Rattle.og_cstatement.specs.Meaning.{effect_at, effect_there, effect_of}
use Rattle.og_cstatement.specs.declared.position.Call.{Call}
use Rattle.og_cstatement.specs.declared.position.Standing.{Standing}
use Rattle.og_cstatement.specs.declared.position.Standing.TheVariants.{Running, Idle, Stuck}
use Rattle.og_cstatement.specs.Positions.{frame_of, config_by}
use Rattle.og_cstatement.specs.Effects.{shifted, entered, left_to, left, behind, IsNext, InFunction, IsRunning}

-- ---- the callers

pub pushed : (callers : List Call) (call : Call) → reverse (map frame_of (callers ++ call ∷ [])) ≡ frame_of call ∷ reverse (map frame_of callers)
pushed callers call = ap reverse (map-append frame_of callers (call ∷ [])) ∙ reverse-append (map frame_of callers) (frame_of call ∷ [])

pub popped : (g : List Cells) (from : Standing) (old new : List Call) (call : Call) → IsRunning from → old ≡ new ++ call ∷ [] → config_by g (Running call) new ≡ left (config_by g from old)
popped g (Running here) old new call runs e = sym (ap (λ l. left_to g (reverse (map frame_of l))) e ∙ ap (left_to g) (pushed new call))
popped g Idle old new call runs e = absurd runs
popped g (Stuck rule) old new call runs e = absurd runs

pub none_left : (g : List Cells) (from : Standing) (old new : List Call) → IsRunning from → old ≡ [] → config_by g Idle new ≡ left (config_by g from old)
none_left g (Running here) old new runs e = sym (ap (λ l. left_to g (reverse (map frame_of l))) e)
none_left g Idle old new runs e = absurd runs
none_left g (Stuck rule) old new runs e = absurd runs

pub called_from : (g : List Cells) (from : Standing) (old new : List Call) (next : Call) (function : ℕ) → IsNext next from → new ≡ old ++ next ∷ []
    → config_by g (Running (record { function = function; place = 0 })) new ≡ entered function (config_by g from old)
called_from g (Running call) old new next function n e =
    ap (λ l. steps.Running g (record { function = function; place = 0 }) (reverse (map frame_of l))) e
    ∙ ap (steps.Running g (record { function = function; place = 0 })) (pushed old next)
    ∙ ap (λ p. steps.Running g (record { function = function; place = 0 }) (frame_of p ∷ reverse (map frame_of old))) n
called_from g Idle old new next function n e = absurd n
called_from g (Stuck rule) old new next function n e = absurd n

pub gone_to : (g : List Cells) (from : Standing) (callers : List Call) (place : Call) → InFunction place.function from
    → config_by g (Running place) callers ≡ shifted place.place (config_by g from callers)
gone_to g (Running call) callers place e = ap (λ f. steps.Running g (record { function = f; place = place.place }) (reverse (map frame_of callers))) e
gone_to g Idle callers place e = absurd e
gone_to g (Stuck rule) callers place e = absurd e

pub in_function : (next : Call) (from : Standing) → IsNext next from → InFunction next.function from
in_function next (Running call) n = ap (λ (c : Call). c.function) n
in_function next Idle n = n
in_function next (Stuck rule) n = n

pub is_running : (next : Call) (from : Standing) → IsNext next from → IsRunning from
is_running next (Running call) n = tt
is_running next Idle n = n
is_running next (Stuck rule) n = n

pub onward_next : (g : List Cells) (from : Standing) (callers : List Call) (next : Call) → IsNext next from → shifted next.place (config_by g from callers) ≡ behind (config_by g from callers)
onward_next g (Running call) callers next n = ap (λ (p : Call). steps.Running g (record { function = call.function; place = p.place }) (reverse (map frame_of callers))) n
onward_next g Idle callers next n = absurd n
onward_next g (Stuck rule) callers next n = absurd n

-- ---- one statement

pub at_statement : (linked : Linked) (cells : List ℤ) (call : Call) (body : Body) (statement : Statement) → Some body ≡ slice_get linked.functions call.function
    → Some statement ≡ slice_get body.statements call.place → effect_at linked cells (frame_of call) ≡ effect_of cells statement
at_statement linked cells call body statement e found =
    sym (ap (effect_there cells) found ∙ ap (λ o. or_else o Value >>= λ f. effect_there cells (slice_get f.statements call.place)) e)

pub ruleset moving = (popped, none_left, called_from, gone_to, in_function, is_running, onward_next)
