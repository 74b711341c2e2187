-- Flat code that can be printed as a program of the C subset over a model, with one function for each function and a few
-- statements for each instruction: whatever it names is there and is used as what it is, its names are C names, it has the
-- model's interface, and it is within the limits of the subset.
use Rattle.std.specs.Prelude.{◌≡◌, ℕ, zero, suc, ◌+◌, ◌≤◌, List, [], ◌∷◌, ◌++◌, Bool, true, false, not, if◌then◌else◌, ◌&&◌, ◌||◌, ◌==◌, nat_lt, nat_le, Option, Some, None, map, take, length, slice_get, IsTrue}
use Rattle.std.specs.List.{list_all, list_any}
use Rattle.og_types.specs.declared.Sort.{Sort}
use Rattle.og_types.specs.declared.Sort.TheVariants as sort
use Rattle.og_types.specs.declared.TypeId.{TypeId}
use Rattle.og_types.specs.Table.{is_table}
use Rattle.og_model.specs.declared.Model.{Model}
use Rattle.og_model.specs.declared.EventId.{EventId}
use Rattle.og_ir.specs.declared.Ir.{Ir}
use Rattle.og_ir.specs.declared.SlotSort.{SlotSort}
use Rattle.og_ir.specs.declared.SlotSort.TheVariants as slot_sort
use Rattle.og_ir.specs.declared.FlatFn.{FlatFn}
use Rattle.og_ir.specs.declared.Instr.{Instr}
use Rattle.og_ir.specs.declared.Instr.TheVariants as instr
use Rattle.og_ir.specs.declared.Slot.{Slot}
use Rattle.og_ir.specs.declared.Step2.{Step2}
use Rattle.og_ir.specs.declared.Step2.TheVariants as step
use Rattle.og_ir.specs.declared.Flat.{Flat, out-Flat, size-Flat}
use Rattle.og_ir.specs.declared.Flat.TheOpen as flat
use Rattle.og_ir.specs.declared.Flat.TheOpen.{Flat-F}
use Rattle.og_ir.specs.declared.Case.{Case}
use Rattle.og_ir.specs.Cells.{◌>>=◌, count}
use Rattle.og_ir.specs.Arithmetic.{in_64_bits, is_same}
use Rattle.og_ir.specs.FlatSteps.{first_slots}
use Rattle.og_csubset.specs.Tokens.{is_word, is_name}
use Rattle.og_csubset.specs.Kinds.{is_in, place_in, total}
use Rattle.og_csubset.specs.Loading.{has_twice, passes}
use Rattle.og_csubset.specs.Interface as interface
use Rattle.og_csubset.specs.Interface.{Shape, Typed, Field}
use Rattle.og_csubset.specs.FlatRun.{slot_names, flat_function_names}
use Rattle.og_csubset.specs.FlatText.{nesting_of_instruction}

-- What stands at a place: a number, a structured value of a type, or the array of the items of one.
pub data Held : Type 0 where
  One : Held
  Whole : (type : TypeId) → Held
  Array : (item : TypeId) → Held

-- what a value of the type of this number is
abbrev pub held_by : TypeId → Sort → Option Held
held_by t (sort.Int lo hi) = Some One
held_by t sort.Bool = Some One
held_by t (sort.Enumerated names numbers) = Some One
held_by t (sort.Sequence []) = Some One
held_by t (sort.Sequence (p ∷ parts)) = Some (Whole t)
held_by t (sort.Choice parts) = Some (Whole t)
held_by t (sort.SeqOf lo hi item) = Some (Whole t)
held_by t sort.Opaque = None

abbrev pub held_as : List Sort → TypeId → Option Held
held_as sorts t = slice_get sorts t.0 >>= held_by t

abbrev pub held_in_slot : List Sort → SlotSort → Option Held
held_in_slot sorts slot_sort.Cell = Some One
held_in_slot sorts (slot_sort.Shaped t) = held_as sorts t

abbrev pub held_in_shape : List Sort → Shape → Option Held
held_in_shape sorts interface.Number = Some One
held_in_shape sorts (Typed t) = held_as sorts t

abbrev pub same_held : Held → Held → Bool
same_held One One = true
same_held (Whole t) (Whole u) = t.0 == u.0
same_held _ _ = false

-- a part of a structured value: a part of a sequence; the number of a choice, then its alternatives; the length of a
-- sequence of items, then their array
abbrev pub field_by : List Sort → ℕ → Sort → Option Held
field_by sorts k (sort.Sequence parts) = slice_get parts k >>= λ p. held_as sorts p.sort
field_by sorts zero (sort.Choice parts) = Some One
field_by sorts (suc k) (sort.Choice parts) = slice_get parts k >>= λ p. held_as sorts p.sort
field_by sorts zero (sort.SeqOf lo hi item) = Some One
field_by sorts (suc zero) (sort.SeqOf lo (suc hi) item) = Some (Array item)
field_by sorts _ _ = None

abbrev pub field_of : List Sort → ℕ → Held → Option Held
field_of sorts k One = None
field_of sorts k (Whole t) = slice_get sorts t.0 >>= field_by sorts k
field_of sorts k (Array item) = None

abbrev pub item_of : List Sort → Held → Option Held
item_of sorts One = None
item_of sorts (Whole t) = None
item_of sorts (Array item) = held_as sorts item

-- each part of the type is supported, but for the items of an array that is left out
abbrev pub supported_by : (TypeId → Bool) → Sort → Bool
supported_by inside (sort.Sequence parts) = list_all (λ p. inside p.sort) parts
supported_by inside (sort.Choice parts) = list_all (λ p. inside p.sort) parts
supported_by inside (sort.SeqOf lo zero item) = true
supported_by inside (sort.SeqOf lo (suc hi) item) = inside item
supported_by inside sort.Opaque = false
supported_by inside s = true

abbrev pub supported_within : ℕ → List Sort → TypeId → Bool
supported_within zero sorts t = false
supported_within (suc depth) sorts t = passes (supported_by (supported_within depth sorts)) (slice_get sorts t.0)

-- a number, or values of a type that is there and supported, with all that it holds
abbrev pub is_supported : List Sort → SlotSort → Bool
is_supported sorts slot_sort.Cell = true
is_supported sorts (slot_sort.Shaped t) = supported_within (t.0 + 1) sorts t

-- what the selectors lead to, where indices are numbers
abbrev pub held_after : (Flat → Bool) → List Sort → List Step2 → Held → Option Held
held_after is_number sorts [] held = Some held
held_after is_number sorts (step.Field k ∷ steps) held = field_of sorts k held >>= held_after is_number sorts steps
held_after is_number sorts (step.Index e ∷ steps) held =
    if is_number e then (item_of sorts held >>= held_after is_number sorts steps) else None

abbrev pub held_at_by : (Flat → Bool) → List Sort → Ir → Slot → Option Held
held_at_by is_number sorts ir slot =
    slice_get ir.slots slot.base >>= λ def. held_in_slot sorts def.sort >>= held_after is_number sorts slot.path

abbrev pub is_one : Option Held → Bool
is_one o = passes (same_held One) o

-- a number is a literal of 64 bits, what stands at a cell, or an operation on numbers
abbrev pub number_by : (Flat → Bool) → List Sort → Ir → Flat-F Flat Step2 Slot → Bool
number_by is_number sorts ir (flat.Number n) = in_64_bits n
number_by is_number sorts ir (flat.Read slot) = is_one (held_at_by is_number sorts ir slot)
number_by is_number sorts ir (flat.Op o a b) = is_number a && is_number b

abbrev pub number_within : ℕ → List Sort → Ir → Flat → Bool
number_within zero sorts ir e = false
number_within (suc depth) sorts ir e = number_by (number_within depth sorts ir) sorts ir (out-Flat e)

unfoldable pub is_number : List Sort → Ir → Flat → Bool
is_number sorts ir e = number_within (size-Flat e) sorts ir e

abbrev pub held_at : List Sort → Ir → Slot → Option Held
held_at sorts ir slot = held_at_by (is_number sorts ir) sorts ir slot

-- two places of one type
abbrev pub joins : Option Held → Option Held → Bool
joins (Some held) (Some other) = same_held held other
joins _ _ = false

abbrev pub has_equal_cases : List Case → Bool
has_equal_cases [] = false
has_equal_cases (c ∷ cases) = list_any (λ other. is_same c.value other.value) cases || has_equal_cases cases

-- an instruction of a function of so many instructions that stands after so many functions
abbrev pub is_right : List Sort → Ir → ℕ → ℕ → Instr → Bool
is_right sorts ir earlier places (instr.Set slot e) = is_one (held_at sorts ir slot) && is_number sorts ir e
is_right sorts ir earlier places (instr.Copy to from) = joins (held_at sorts ir to) (held_at sorts ir from)
is_right sorts ir earlier places (instr.Branch test place) =
    is_number sorts ir test.left && is_number sorts ir test.right && nat_lt place places
is_right sorts ir earlier places (instr.Goto place) = nat_lt place places
is_right sorts ir earlier places (instr.Table e cases otherwise) =
    is_number sorts ir e && list_all (λ c. in_64_bits c.value && nat_lt c.to places) cases
    && not (has_equal_cases cases) && nat_lt otherwise places
is_right sorts ir earlier places (instr.Call f) = nat_lt f earlier
is_right sorts ir earlier places (instr.Emit event) = nat_lt event (length ir.events)
is_right sorts ir earlier places instr.Back = true

abbrev pub are_right : List Sort → Ir → ℕ → List FlatFn → Bool
are_right sorts ir earlier [] = true
are_right sorts ir earlier (f ∷ functions) =
    list_all (is_right sorts ir earlier (length f.code)) f.code && are_right sorts ir (earlier + 1) functions

-- the text of each instruction, in the braces of its function, nests at most 256 deep
abbrev pub is_shallow : Ir → FlatFn → Bool
is_shallow ir f = list_all (λ i. nat_le (nesting_of_instruction ir i) 256) f.code

-- a function has for each instruction a word, or no bytes
abbrev pub is_label : List ℕ → Bool
is_label [] = true
is_label (byte ∷ bytes) = is_word (byte ∷ bytes)

abbrev pub is_labelled : FlatFn → Bool
is_labelled f = length f.labels == length f.code && list_all (λ label. is_label label.bytes) f.labels

-- all names
abbrev pub names_of : Ir → List (List ℕ)
names_of ir = slot_names ir ++ map (λ e. e.bytes) ir.events ++ flat_function_names ir

-- a slot of the name, which holds what the shape says
abbrev pub has_slot : List Sort → Ir → Field → Bool
has_slot sorts ir field =
    joins (place_in field.name (slot_names ir) >>= slice_get ir.slots >>= λ def. held_in_slot sorts def.sort)
    (held_in_shape sorts field.shape)

-- some instruction shows the event of this number
abbrev pub shows_event : ℕ → Instr → Bool
shows_event k (instr.Emit event) = event == k
shows_event k i = false

abbrev pub is_shown : Ir → ℕ → Bool
is_shown ir k = list_any (λ f. list_any (shows_event k) f.code) ir.functions

-- an event that is shown has the slots of its values, and what has such a name is such a slot
abbrev pub has_values : Model → Ir → ℕ → List EventId → Bool
has_values model ir k [] = true
has_values model ir k (event ∷ events) =
    list_all (λ field. has_slot model.types ir field || (not (is_shown ir k) && not (is_in field.name (names_of ir))))
    (interface.event_globals model event)
    && has_values model ir (k + 1) events

-- Flat code that can be printed.
pub record Fair (ir : Ir) (model : Model) : Type 0 where
  -- types refer downward, and each slot holds numbers alone
  pub types : IsTrue (is_table model.types)
  pub supported : IsTrue (list_all (λ slot. is_supported model.types slot.sort) ir.slots)
  -- slots, parts, events, functions and places of jumps are there and are used as what they are, literals lie in 64 bits,
  -- the cases of a table differ, and calls go to earlier functions
  pub right : IsTrue (are_right model.types ir 0 ir.functions)
  pub names : IsTrue (list_all is_name (names_of ir))
  pub differ : IsTrue (not (has_twice (names_of ir)))
  pub labels : IsTrue (list_all is_labelled ir.functions)
  pub small : total (map count (first_slots model.types ir)) ≤ 16777216
  pub shallow : IsTrue (list_all (is_shallow ir) ir.functions)
  -- the first slots are those of the regions, of STOP and of faults
  pub control : map (λ field. field.name) (interface.control_fields model) ≡ take (length (interface.control_fields model)) (slot_names ir)
  pub fields : IsTrue (list_all (has_slot model.types ir) (interface.fields_of model))
  pub events : map (λ e. e.bytes) ir.events ≡ map (interface.event_name model) (interface.events_of model)
  pub values : IsTrue (has_values model ir 0 (interface.events_of model))
  pub functions : IsTrue (list_all (λ name. is_in name (flat_function_names ir)) (interface.functions_of model))
