-- Events that are declared, and names that functions have.
use Rattle.std.proofs.Common.{◌≡◌, ℕ, zero, suc, ◌+◌, ◌^◌, ◌<◌, List, [], ◌∷◌, ◌++◌, Bool, true, false, ◌||◌, Some, map, length, slice_get, refl, sym, ap, subst, ◌∙◌, arith}
use Rattle.std.specs.Prelude.{option_map}
use Rattle.std.specs.Str.{bytes_eq}
use Rattle.std.proofs.lemmas.Bool.{false≢true}
use Rattle.std.proofs.lemmas.Option.{none-some}
use Rattle.og_names.specs.declared.Word.{Word}
use Rattle.og_model.specs.declared.Model.{Model}
use Rattle.og_ir.specs.declared.Ir.{Ir}
use Rattle.og_ir.specs.declared.FlatFn.{FlatFn}
use Rattle.og_csubset.specs.Kinds.{place_in, is_in, event_names, function_names}
use Rattle.og_csubset.specs.FlatRun.{slot_names, flat_function_names}
use Rattle.og_csubset.specs.Fair.{Fair}
use Rattle.og_cemit.specs.Marks.{is_marked}
use Rattle.og_cemit.specs.Emitted.{used, event_if, events_from, program_of, AreShort}
use Rattle.og_cemit.proofs.Names.{get_map, same_bytes, place_at_self, is_in_at, is_in-append}
use Rattle.og_cemit.proofs.Parts.{function_names_are, flat_event_names, functions_apart}
use Rattle.og_cemit.proofs.Tests.{false_by}
use Rattle.og_names.proofs.Truths.{either_second as or_second}

pub events_sub : (marks : List Bool) (k : ℕ) (names : List Word) (name : List ℕ)
    → is_in name (map (λ (e : Word). e.bytes) (events_from marks k names)) ≡ true → is_in name (map (λ (e : Word). e.bytes) names) ≡ true
events_sub marks k [] name h = h
events_sub marks k (w ∷ names) name h = by_mark (is_marked marks k) h (λ more. events_sub marks (k + 1) names name more)
  where
    or_either : (a b d : Bool) → (b ≡ true → d ≡ true) → (a || b) ≡ true → (a || d) ≡ true
    or_either true b d go e = refl
    or_either false b d go e = go e

    by_mark : (m : Bool) → is_in name (map (λ (e : Word). e.bytes) (event_if m w ++ events_from marks (k + 1) names)) ≡ true
        → (is_in name (map (λ (e : Word). e.bytes) (events_from marks (k + 1) names)) ≡ true → is_in name (map (λ (e : Word). e.bytes) names) ≡ true)
        → is_in name (map (λ (e : Word). e.bytes) (w ∷ names)) ≡ true
    by_mark false e go = or_second (bytes_eq name w.bytes) _ (go e)
    by_mark true e go = or_either (bytes_eq name w.bytes) _ _ go e

pub event_declared : (marks : List Bool) (from : ℕ) (names : List Word) (k : ℕ) (w : Word) → slice_get names k ≡ Some w
    → is_marked marks (from + k) ≡ true → is_in w.bytes (map (λ (e : Word). e.bytes) (events_from marks from names)) ≡ true
event_declared marks from [] k w e h = absurd (none-some w e)
event_declared marks from (x ∷ names) zero w e h =
    by_mark (is_marked marks from) (ap (is_marked marks) here ∙ h)
  where
    here : from ≡ from + 0
    here = omega arith

    first : bytes_eq w.bytes x.bytes ≡ true
    first = ap (λ (y : Word). bytes_eq w.bytes y.bytes) (cc e) ∙ same_bytes w.bytes

    by_mark : (m : Bool) → m ≡ true
        → is_in w.bytes (map (λ (y : Word). y.bytes) (event_if m x ++ events_from marks (from + 1) names)) ≡ true
    by_mark false e' = absurd (false≢true e')
    by_mark true e' = ap (λ b. b || is_in w.bytes (map (λ (y : Word). y.bytes) (events_from marks (from + 1) names))) first
event_declared marks from (x ∷ names) (suc k) w e h =
    by_mark (is_marked marks from) (event_declared marks (from + 1) names k w e (ap (is_marked marks) here ∙ h))
  where
    here : from + 1 + k ≡ from + suc k
    here = omega arith

    by_mark : (m : Bool) → is_in w.bytes (map (λ (y : Word). y.bytes) (events_from marks (from + 1) names)) ≡ true
        → is_in w.bytes (map (λ (y : Word). y.bytes) (event_if m x ++ events_from marks (from + 1) names)) ≡ true
    by_mark false later = later
    by_mark true later = or_second (bytes_eq w.bytes x.bytes) _ later

pub short_at : (functions : List FlatFn) (k : ℕ) (g : FlatFn) → AreShort functions → slice_get functions k ≡ Some g → length g.code < 2 ^ 64
short_at [] k g h e = absurd (none-some g e)
short_at (x ∷ functions) zero g h e = let same : x ≡ g = cc (e) in subst (λ (y : FlatFn). length y.code < 2 ^ 64) same h.0
short_at (x ∷ functions) (suc k) g h e = short_at functions k g h.1 e

-- a name of a function is no event of the program
pub not_event : (ir : Ir) (model : Model) → Fair ir model → (k : ℕ) (g : FlatFn) → slice_get ir.functions k ≡ Some g
    → is_in g.name.bytes (event_names (program_of ir model)) ≡ false
not_event ir model fair k g e = false_by _ (λ h.
    let inside : is_in g.name.bytes (slot_names ir ++ flat_event_names ir) ≡ true =
    is_in-append g.name.bytes (slot_names ir) (flat_event_names ir) ∙ or_second (is_in g.name.bytes (slot_names ir)) _ (events_sub (used ir) 0 ir.events g.name.bytes h) in
    false≢true (sym ((functions_apart ir model fair).apart g.name.bytes inside) ∙ is_in_at (flat_function_names ir) k g.name.bytes (get_map (λ (x : FlatFn). x.name.bytes) ir.functions k ∙ ap (option_map (λ (x : FlatFn). x.name.bytes)) e)))

pub function_placed : (ir : Ir) (model : Model) → Fair ir model → (k : ℕ) (g : FlatFn) → slice_get ir.functions k ≡ Some g
    → place_in g.name.bytes (function_names (program_of ir model)) ≡ Some k
function_placed ir model fair k g e =
    ap (place_in g.name.bytes) (function_names_are ir model)
    ∙ place_at_self (flat_function_names ir) k g.name.bytes (functions_apart ir model fair).right (get_map (λ (x : FlatFn). x.name.bytes) ir.functions k ∙ ap (option_map (λ (x : FlatFn). x.name.bytes)) e)
