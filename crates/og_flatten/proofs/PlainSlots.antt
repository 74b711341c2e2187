-- The slots of a model of basic states: the number of its one region, those that steer the code, and those of the parameters of
-- signals.
use Rattle.std.proofs.Common.{◌≡◌, List, [], ◌∷◌, ◌++◌, Bool, true, false, cond, map, length, sym, ap, subst, refl, ◌∙◌}
use Rattle.std.specs.Prelude.{ℕ, suc, zero, codes, flat_map}
use Rattle.std.specs.List.{list_all}
use Rattle.std.proofs.lemmas.List.{map-append}
use Rattle.og_names.specs.declared.NameId.{NameId}
use Rattle.og_model.specs.declared.Model.{Model}
use Rattle.og_model.specs.declared.Signal.{Signal}
use Rattle.og_model.specs.declared.StateDef.{StateDef}
use Rattle.og_model.specs.declared.StateKind.{out-StateKind}
use Rattle.og_model.specs.declared.StateKind.TheOpen.{Basic, Composite, Aggregation}
use Rattle.og_model.specs.declared.Scope.{Scope, out-Scope, size-Scope}
use Rattle.og_model.specs.declared.Variable.{Variable}
use Rattle.og_model.specs.Configuration.{Kind}
use Rattle.og_model.specs.RegionTypes.{Region}
use Rattle.og_model.specs.Regions.{Insides, region_under, kind_insides, states_insides, insides_within, insides_of, regions}
use Rattle.og_model.specs.Forms.{UsesBasicStatesOnly, is_basic, is_plain_state}
use Rattle.og_ir.specs.declared.Ir.{Ir}
use Rattle.og_ir.specs.declared.SlotDef.{SlotDef}
use Rattle.og_csubset.specs.Interface.{Field, name_of, number_field, parameters_from, region_field, variable_field, timer_field, variable_fields, timer_fields}
use Rattle.og_flatten.specs.declared.code.Control.{Control}
use Rattle.og_flatten.specs.Slots.{slot_of, slots_of, control_fields, duration_field, duration_fields, inputs_of, outputs_of, parameter_slots, other_slots, control_behind, control_of}
use Rattle.og_flatten.specs.FlatCode.{event_word, functions_of, code_of}
use Rattle.og_names.proofs.Truths.{both_first as left_of, both_second as right_of}

-- ---- one region

kind_regions : (within : Scope → Insides) (k : Kind) → is_basic k ≡ true → (kind_insides within k).regions ≡ []
kind_regions within Basic is = refl
kind_regions within (Composite entry exit inner) is = cc
kind_regions within (Aggregation entry exit ps) is = cc

states_regions : (within : Scope → Insides) (states : List StateDef) → list_all is_plain_state states ≡ true → (states_insides within states).regions ≡ []
states_regions within [] all = refl
states_regions within (d ∷ states) all =
    ap (λ (rs : List Region). map (region_under d.name) rs ++ (states_insides within states).regions) (kind_regions within (out-StateKind d.kind) (left_of _ _ (left_of _ _ all)))
    ∙ states_regions within states (right_of _ _ all)

scope_regions : (depth : ℕ) (m : Scope) → list_all is_plain_state (out-Scope m).states ≡ true → (insides_within depth m).regions ≡ []
scope_regions zero m all = refl
scope_regions (suc depth) m all = states_regions (insides_within depth) (out-Scope m).states all

pub no_regions_inside : (model : Model) → UsesBasicStatesOnly model → (insides_of model.root).regions ≡ []
no_regions_inside model basic = scope_regions (size-Scope model.root) model.root basic.states

abbrev pub process : Model → Region
process model = record { path = []; leaves = (insides_of model.root).leaves }

pub one_region : (model : Model) → UsesBasicStatesOnly model → regions model ≡ process model ∷ []
one_region model basic = ap (λ (more : List Region). process model ∷ more) (no_regions_inside model basic)

-- ---- parameters

abbrev pub field_names : List Field → List (List ℕ)
field_names fields = map (λ (f : Field). f.name) fields

abbrev pub def_names : List SlotDef → List (List ℕ)
def_names defs = map (λ (d : SlotDef). d.name.bytes) defs

pub names_of_fields : (fields : List Field) → def_names (slots_of fields) ≡ field_names fields
names_of_fields [] = refl
names_of_fields (f ∷ fields) = ap (λ names. f.name ∷ names) (names_of_fields fields)

-- the fields of a signal's parameters under this prefix, where it has them
abbrev pub fields_by : (Signal → Bool) → List ℕ → Model → Signal → List Field
fields_by has prefix model s = cond (has s) (parameters_from 1 (prefix ++ name_of model s.name) s.sorts) []

-- those of the incoming signals, and those of the outputs of all
abbrev pub input_fields : Model → List Field
input_fields model = flat_map (inputs_of model) model.signals

abbrev pub output_fields : Model → List Field
output_fields model = flat_map (outputs_of model) model.signals

abbrev pub parameter_fields : Model → List Field
parameter_fields model = input_fields model ++ output_fields model

slots_of_each : (f : Signal → List Field) (signals : List Signal) → flat_map (λ s. slots_of (f s)) signals ≡ slots_of (flat_map f signals)
slots_of_each f [] = refl
slots_of_each f (s ∷ signals) =
    ap (λ ds. slots_of (f s) ++ ds) (slots_of_each f signals) ∙ sym (map-append slot_of (f s) (flat_map f signals))

pub parameters_are : (model : Model) → parameter_slots model ≡ slots_of (parameter_fields model)
parameters_are model =
    ap (λ ds. ds ++ flat_map (λ (s : Signal). slots_of (outputs_of model s)) model.signals) (slots_of_each (inputs_of model) model.signals)
    ∙ ap (λ ds. slots_of (input_fields model) ++ ds) (slots_of_each (outputs_of model) model.signals)
    ∙ sym (map-append slot_of (input_fields model) (output_fields model))

only_parameters : (model : Model) → UsesBasicStatesOnly model → slots_of (variable_fields model) ++ (slots_of (timer_fields model) ++ (slots_of (duration_fields model) ++ parameter_slots model)) ≡ slots_of (parameter_fields model)
only_parameters model basic =
    ap (λ (vs : List Variable). slots_of (map (variable_field model) vs) ++ (slots_of (timer_fields model) ++ (slots_of (duration_fields model) ++ parameter_slots model))) basic.no_variables
    ∙ ap (λ (ts : List NameId). slots_of (map (timer_field model) ts) ++ (slots_of (map (duration_field model) ts) ++ parameter_slots model)) basic.no_timers
    ∙ parameters_are model

-- ---- the slots

-- the number of the one region, what steers the code, and the parameters
abbrev pub plain_fields : Model → List Field
plain_fields model = number_field (codes "r") ∷ (control_fields ++ parameter_fields model)

abbrev pub plain_slots : Model → List SlotDef
plain_slots model = slots_of (plain_fields model)

pub slots_are : (model : Model) → UsesBasicStatesOnly model → (code_of model).slots ≡ plain_slots model
slots_are model basic =
    ap (λ rs. slots_of (map (region_field model) rs) ++ other_slots model) (one_region model basic)
    ∙ ap (λ more. slots_of (number_field (codes "r") ∷ []) ++ (slots_of control_fields ++ more)) (only_parameters model basic)

-- the code of the model with other slots
abbrev pub with_slots : Model → List SlotDef → Ir
with_slots model ss = record { slots = ss; events = map (event_word model) model.signals; functions = functions_of (control_of model) model }

abbrev pub plain_code : Model → Ir
plain_code model = with_slots model (plain_slots model)

-- what holds of the code with these slots holds of the code
pub by_slots : (model : Model) → UsesBasicStatesOnly model → (P : Ir → Type 0) → P (plain_code model) → P (code_of model)
by_slots model basic P holds = subst (λ ss. P (with_slots model ss)) (sym (slots_are model basic)) holds

-- and of the numbers of slots behind one region
pub by_control : (model : Model) → UsesBasicStatesOnly model → (P : Control → Type 0) → P (control_behind 1) → P (control_of model)
by_control model basic P holds = subst (λ (rs : List Region). P (control_behind (length rs))) (sym (one_region model basic)) holds
