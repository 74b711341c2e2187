-- What fair code gives, part by part.
use Rattle.std.proofs.Common.{◌≡◌, ℕ, zero, suc, ◌+◌, ◌<◌, List, [], ◌∷◌, ◌++◌, Bool, true, false, cond, ◌||◌, Option, Some, None, map, length, slice_get, refl, sym, ap, subst, ◌∙◌, arith}
use Rattle.std.specs.Prelude.{find, option_map}
use Rattle.std.specs.List.{list_all}
use Rattle.std.specs.Str.{bytes_eq}
use Rattle.std.proofs.lemmas.Bool.{false≢true}
use Rattle.std.proofs.lemmas.Option.{none-some}
use Rattle.og_types.specs.declared.Sort.{Sort}
use Rattle.og_names.specs.declared.Word.{Word}
use Rattle.og_model.specs.declared.Model.{Model}
use Rattle.og_ir.specs.declared.Ir.{Ir}
use Rattle.og_ir.specs.declared.SlotDef.{SlotDef}
use Rattle.og_ir.specs.declared.FlatFn.{FlatFn}
use Rattle.og_ir.specs.declared.Slot.{Slot}
use Rattle.og_ir.specs.declared.Step2.{Step2}
use Rattle.og_ir.specs.Cells.{◌>>=◌}
use Rattle.og_csubset.specs.declared.CGlobal.{CGlobal}
use Rattle.og_csubset.specs.declared.CType.{CType}
use Rattle.og_csubset.specs.declared.CFunction.{CFunction}
use Rattle.og_csubset.specs.Kinds.{Kind, place_in, is_in, global_names, function_names, global_kind}
use Rattle.og_csubset.specs.Loading.{has_twice}
use Rattle.og_csubset.specs.FlatRun.{slot_names, flat_function_names}
use Rattle.og_csubset.specs.Fair.{Held, held_in_slot, held_after, held_at, is_one, joins, is_number, is_right, are_right, names_of, Fair}
use Rattle.og_csubset.specs.FlatText.{slot_word}
use Rattle.og_cemit.specs.Emitted.{global_of, function_of, program_of}
use Rattle.og_cemit.specs.Structs.{prefix_of, type_of_slot}
use Rattle.og_cemit.proofs.Names.{get_map, there, within, place_at_self, is_in_at, Differ, differ_parts}
use Rattle.og_names.proofs.Truths.{both_first as left_of, both_second as right_of, not_true, same_value}

-- ---- the names of the program are those of the code

pub global_names_are : (ir : Ir) (model : Model) → global_names (program_of ir model) ≡ slot_names ir
global_names_are ir model = names ir.slots
  where
    names : (slots : List SlotDef) → map (λ (g : CGlobal). g.name.bytes) (map (global_of (prefix_of ir) model.types) slots) ≡ map (λ (s : SlotDef). s.name.bytes) slots
    names [] = refl
    names (s ∷ slots) = ap (λ l. s.name.bytes ∷ l) (names slots)

pub function_names_are : (ir : Ir) (model : Model) → function_names (program_of ir model) ≡ flat_function_names ir
function_names_are ir model = names ir.functions
  where
    names : (functions : List FlatFn)
        → map (λ (g : CFunction). g.name.bytes) (map (function_of ir model) functions) ≡ map (λ (s : FlatFn). s.name.bytes) functions
    names [] = refl
    names (s ∷ functions) = ap (λ l. s.name.bytes ∷ l) (names functions)

-- ---- names

abbrev pub flat_event_names : Ir → List (List ℕ)
flat_event_names ir = map (λ (e : Word). e.bytes) ir.events

-- the names of slots and events are no names of functions
pub functions_apart : (ir : Ir) (model : Model) → Fair ir model → Differ (slot_names ir ++ flat_event_names ir) (flat_function_names ir)
functions_apart ir model fair = differ_parts (slot_names ir ++ flat_event_names ir) (flat_function_names ir) (not_true (has_twice (names_of ir)) fair.differ)

pub slots_apart : (ir : Ir) (model : Model) → Fair ir model → Differ (slot_names ir) (flat_event_names ir)
slots_apart ir model fair = differ_parts (slot_names ir) (flat_event_names ir) (functions_apart ir model fair).left

-- ---- slots

-- the name of a slot that is there
slot_name_at : (ir : Ir) (base : ℕ) → base < length ir.slots
    → slice_get (slot_names ir) base ≡ Some (slot_word (slice_get ir.slots base)).bytes
slot_name_at ir base less =
    let one = there ir.slots base less in
    get_map (λ (s : SlotDef). s.name.bytes) ir.slots base ∙ ap (option_map (λ (s : SlotDef). s.name.bytes)) one.1
    ∙ ap (λ o. Some (slot_word o).bytes) (sym one.1)

pub slot_placed : (ir : Ir) (model : Model) → Fair ir model → (base : ℕ) → base < length ir.slots
    → place_in (slot_word (slice_get ir.slots base)).bytes (global_names (program_of ir model)) ≡ Some base
slot_placed ir model fair base less =
    ap (place_in (slot_word (slice_get ir.slots base)).bytes) (global_names_are ir model)
    ∙ place_at_self (slot_names ir) base _ (slots_apart ir model fair).left (slot_name_at ir base less)

abbrev pub slot_type : Ir → Model → SlotDef → CType
slot_type ir model slot = type_of_slot (prefix_of ir) model.types slot.sort

-- one of a type
abbrev pub one_of : CType → Kind
one_of t = record { type = t; size = None }

-- a global has the type of its slot
pub kind_of_slots : (prefix : List ℕ) (sorts : List Sort) (slots : List SlotDef) (k : ℕ) (slot : SlotDef) (name : List ℕ)
    → place_in name (map (λ (s : SlotDef). s.name.bytes) slots) ≡ Some k → slice_get slots k ≡ Some slot
    → (find (λ (g : CGlobal). bytes_eq name g.name.bytes) (map (global_of prefix sorts) slots) >>= λ g. Some (one_of g.kind))
    ≡ Some (one_of (type_of_slot prefix sorts slot.sort))
kind_of_slots prefix sorts [] k slot name e h = absurd (none-some slot h)
kind_of_slots prefix sorts (s ∷ slots) k slot name e h =
    by_test (bytes_eq name s.name.bytes) e (λ j e' h'. kind_of_slots prefix sorts slots j slot name e' h')
  where
    same_place : (n : ℕ) → n ≡ k → slice_get (s ∷ slots) n ≡ Some slot
    same_place n q = ap (slice_get (s ∷ slots)) q ∙ h

    by_rest : (o : Option ℕ) → place_in name (map (λ (x : SlotDef). x.name.bytes) slots) ≡ o → (o >>= λ j. Some (j + 1)) ≡ Some k
        → ((j : ℕ) → place_in name (map (λ (x : SlotDef). x.name.bytes) slots) ≡ Some j → slice_get slots j ≡ Some slot
        → (find (λ (g : CGlobal). bytes_eq name g.name.bytes) (map (global_of prefix sorts) slots) >>= λ g. Some (one_of g.kind)) ≡ Some (one_of (type_of_slot prefix sorts slot.sort)))
        → (find (λ (g : CGlobal). bytes_eq name g.name.bytes) (map (global_of prefix sorts) slots) >>= λ g. Some (one_of g.kind)) ≡ Some (one_of (type_of_slot prefix sorts slot.sort))
    by_rest None e' q more = absurd (none-some k q)
    by_rest (Some j) e' q more =
        let next : suc j ≡ j + 1 = omega arith in
        more j e' (ap (slice_get (s ∷ slots)) next ∙ same_place (j + 1) (same_value (j + 1) k q))

    by_test : (b : Bool) → cond b (Some 0) (place_in name (map (λ (x : SlotDef). x.name.bytes) slots) >>= λ j. Some (j + 1)) ≡ Some k
        → ((j : ℕ) → place_in name (map (λ (x : SlotDef). x.name.bytes) slots) ≡ Some j → slice_get slots j ≡ Some slot
        → (find (λ (g : CGlobal). bytes_eq name g.name.bytes) (map (global_of prefix sorts) slots) >>= λ g. Some (one_of g.kind)) ≡ Some (one_of (type_of_slot prefix sorts slot.sort)))
        → (cond b (Some (global_of prefix sorts s)) (find (λ (g : CGlobal). bytes_eq name g.name.bytes) (map (global_of prefix sorts) slots)) >>= λ g. Some (one_of g.kind)) ≡ Some (one_of (type_of_slot prefix sorts slot.sort))
    by_test true q more = ap (λ (x : SlotDef). Some (one_of (type_of_slot prefix sorts x.sort))) (same_value s slot (same_place 0 (same_value 0 k q)))
    by_test false q more = by_rest (place_in name (map (λ (x : SlotDef). x.name.bytes) slots)) refl q more

pub slot_kind : (ir : Ir) (model : Model) → Fair ir model → (base : ℕ) (slot : SlotDef) → slice_get ir.slots base ≡ Some slot
    → global_kind (program_of ir model) (slot_word (slice_get ir.slots base)).bytes ≡ Some (one_of (slot_type ir model slot))
slot_kind ir model fair base slot e =
    kind_of_slots (prefix_of ir) model.types ir.slots base slot (slot_word (slice_get ir.slots base)).bytes
    (place_at_self (slot_names ir) base _ (slots_apart ir model fair).left (slot_name_at ir base (within ir.slots base slot e))) e

-- ---- what right code uses is there

-- a place where something is held is in a slot
pub held_slot : (sorts : List Sort) (ir : Ir) (slot : Slot) (held : Held) → held_at sorts ir slot ≡ Some held → slot.base < length ir.slots
held_slot sorts ir slot held h = by_slot (slice_get ir.slots slot.base) refl h
  where
    by_slot : (o : Option SlotDef) → slice_get ir.slots slot.base ≡ o
        → (o >>= λ def. held_in_slot sorts def.sort >>= held_after (is_number sorts ir) sorts slot.path) ≡ Some held
        → slot.base < length ir.slots
    by_slot None e h' = absurd (none-some held h')
    by_slot (Some def) e h' = within ir.slots slot.base def e

some_held : (o : Option Held) → is_one o ≡ true → (held : Held) × (o ≡ Some held)
some_held None h = absurd (false≢true h)
some_held (Some held) h = (held, refl)

pub one_slot : (sorts : List Sort) (ir : Ir) (slot : Slot) → is_one (held_at sorts ir slot) ≡ true → slot.base < length ir.slots
one_slot sorts ir slot h = let one = some_held (held_at sorts ir slot) h in held_slot sorts ir slot one.0 one.1

-- the instructions of a function are right in its place
pub right_at : (sorts : List Sort) (ir : Ir) (earlier : ℕ) (functions : List FlatFn) (k : ℕ) (f : FlatFn)
    → are_right sorts ir earlier functions ≡ true → slice_get functions k ≡ Some f
    → list_all (is_right sorts ir (earlier + k) (length f.code)) f.code ≡ true
right_at sorts ir earlier [] k f h e = absurd (none-some f e)
right_at sorts ir earlier (g ∷ functions) zero f h e =
    let same : g ≡ f = cc (e) in
    let here : earlier ≡ earlier + 0 = omega arith in
    subst (λ (x : FlatFn). list_all (is_right sorts ir (earlier + 0) (length x.code)) x.code ≡ true) same
    (subst (λ n. list_all (is_right sorts ir n (length g.code)) g.code ≡ true) here
    (left_of (list_all (is_right sorts ir earlier (length g.code)) g.code) (are_right sorts ir (earlier + 1) functions) h))
right_at sorts ir earlier (g ∷ functions) (suc k) f h e =
    let next : earlier + 1 + k ≡ earlier + suc k = omega arith in
    subst (λ n. list_all (is_right sorts ir n (length f.code)) f.code ≡ true) next
    (right_at sorts ir (earlier + 1) functions k f (right_of (list_all (is_right sorts ir earlier (length g.code)) g.code) (are_right sorts ir (earlier + 1) functions) h) e)

-- two places of one type are in slots
pub joined_slots : (sorts : List Sort) (ir : Ir) (to from : Slot) → joins (held_at sorts ir to) (held_at sorts ir from) ≡ true
    → (to.base < length ir.slots) × (from.base < length ir.slots)
joined_slots sorts ir to from h = by_held (held_at sorts ir to) (held_at sorts ir from) refl refl h
  where
    by_held : (a b : Option Held) → held_at sorts ir to ≡ a → held_at sorts ir from ≡ b → joins a b ≡ true
        → (to.base < length ir.slots) × (from.base < length ir.slots)
    by_held None b e e' h' = absurd (false≢true h')
    by_held (Some x) None e e' h' = absurd (false≢true h')
    by_held (Some x) (Some y) e e' h' = (held_slot sorts ir to x e, held_slot sorts ir from y e')
