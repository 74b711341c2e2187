-- Every stimulus of a model begins steadily in a program that loads with it.
use Rattle.std.proofs.Common.{◌≡◌, ℕ, zero, suc, ◌+◌, ◌<◌, pos, List, [], ◌∷◌, ◌++◌, Bool, true, false, cond, ◌&&◌, Option, Some, None, map, length, slice_get, refl, sym, ap, subst, ◌∙◌, arith}
use Rattle.std.specs.Prelude.{find, flat_map, IfSome, IsTrue}
use Rattle.std.specs.Str.{bytes_eq}
use Rattle.std.specs.List.{list_all, range_with_len}
use Rattle.std.proofs.lemmas.Bool.{false≢true, ltb-true}
use Rattle.std.proofs.lemmas.Option.{none-some}
use Rattle.std.proofs.lemmas.List.Folds.{list_all-append}
use Rattle.og_types.specs.declared.Value.{Value}
use Rattle.og_model.specs.declared.Model.{Model}
use Rattle.og_model.specs.declared.Signal.{Signal}
use Rattle.og_model.specs.Shown as shown
use Rattle.og_model.specs.Shown.{Stimulus}
use Rattle.og_csubset.specs.declared.CProgram.{CProgram}
use Rattle.og_csubset.specs.declared.CStruct.{CStruct}
use Rattle.og_csubset.specs.declared.CFunction.{CFunction}
use Rattle.og_csubset.specs.declared.CGlobal.{CGlobal}
use Rattle.og_csubset.specs.declared.CType.{CType}
use Rattle.og_ir.specs.Cells.{Cells}
use Rattle.og_ir.proofs.ValueRead.{bound}
use Rattle.og_csubset.specs.Kinds.{Kind, place_in, is_in, global_names, event_names, function_names, global_kind}
use Rattle.og_csubset.specs.Interface.{Shape, Number, Typed, Field, numbers_below, inputs_of, start_function, signal_function, timer_function, incoming_from, incoming, functions_of, events_of, event_name, control_fields, variable_fields, timer_fields, fields_of}
use Rattle.og_csubset.specs.Loading.{passes, is_shaped, has_field, has_event, breaks_K3, breaks_K4, breaks_K5, breaks_K6, breaks_K7, breaks_K8, breaks_K9, first_load_rule, Loads}
use Rattle.og_csubset.specs.Reads.{put_numbered, put_named, cells_of_shape, inputs_set}
use Rattle.og_csubset.specs.Run.{entered, begun, c_machine}
use Rattle.og_csubset.specs.Agreement.{is_sent, is_stimulus, are_in}
use Rattle.og_csubset.specs.Forms.{one_of, form_of_type, form_of, HasForm, HaveForms, IsSteady}
use Rattle.og_csubset.proofs.Extension.{not_false}
use Rattle.og_csubset.proofs.Forms.{global_found}
use Rattle.og_csubset.proofs.Layouts.{int64_form, cells_formed}
use Rattle.og_csubset.proofs.Steady.{all_at, all_of_each, named_place, unchained}
use Rattle.og_names.proofs.Truths.{both_first as left_of, both_second as right_of, same_value}

-- an element of a mapped list
map_at : {A B : Type 0} (f : A → B) (xs : List A) (k : ℕ) (x : A) → slice_get xs k ≡ Some x → slice_get (map f xs) k ≡ Some (f x)
map_at f [] k x e = absurd (none-some x e)
map_at f (y ∷ xs) zero x e = ap (λ z. Some (f z)) (same_value y x e)
map_at f (y ∷ xs) (suc k) x e = map_at f xs k x e

number_at : (a n k : ℕ) → k < n → slice_get (range_with_len a n) k ≡ Some (a + k)
number_at a zero k h = absurd (omega (arith, h))
number_at a (suc n) zero h = let same : a ≡ a + 0 = omega arith in ap Some same
number_at a (suc n) (suc k) h = let same : a + 1 + k ≡ a + suc k = omega arith in number_at (a + 1) n k (omega (arith, h)) ∙ ap Some same

-- an incoming signal is among the incoming ones
added : (b : Bool) (base : ℕ) (rest : List ℕ) (j x : ℕ) → slice_get rest j ≡ Some x → (i : ℕ) × (slice_get (cond b (base ∷ []) [] ++ rest) i ≡ Some x)
added true base rest j x e = (suc j, e)
added false base rest j x e = (j, e)

incoming_at : (base : ℕ) (signals : List Signal) (k : ℕ) (s : Signal) → slice_get signals k ≡ Some s → s.incoming ≡ true → (j : ℕ) × (slice_get (incoming_from base signals) j ≡ Some (base + k))
incoming_at base [] k s e h = absurd (none-some s e)
incoming_at base (x ∷ signals) zero s e h =
    let same : base ≡ base + 0 = omega arith in
    let own : x.incoming ≡ true = ap (λ (y : Signal). y.incoming) (same_value x s e) ∙ h in
    (0, ap (λ b. slice_get (cond b (base ∷ []) [] ++ incoming_from (base + 1) signals) 0) own ∙ ap Some same)
incoming_at base (x ∷ signals) (suc k) s e h =
    let later = incoming_at (base + 1) signals k s e h in
    let same : base + 1 + k ≡ base + suc k = omega arith in
    added x.incoming base (incoming_from (base + 1) signals) later.0 (base + suc k) (later.1 ∙ ap Some same)

-- a kind that passes
kind_by : {A : Type 0} (o : Option A) (test : A → Bool) → passes test o ≡ true → (x : A) × (o ≡ Some x) × (test x ≡ true)
kind_by None test h = absurd (false≢true h)
kind_by (Some x) test h = (x, refl, h)

shaped_cells : (model : Model) (structs : List CStruct) (shape : Shape) (t : CType) (v : Value) → is_shaped structs model.types shape t ≡ true → HasForm structs (cells_of_shape model shape v) (form_of_type structs t)
shaped_cells model structs Number t v h = int64_form structs t (pos 0) h
shaped_cells model structs (Typed u) t v h = cells_formed structs model.types t u v h

module _ (P : CProgram) (model : Model) where
  -- the cells of a field that is there are put into its global
  field_put : (field : Field) (v : Value) (values : List Cells) → has_field P model field ≡ true → HaveForms P.structs P.globals values → HaveForms P.structs P.globals (put_named (global_names P) field.name (cells_of_shape model field.shape v) values)
  field_put field v values h formed =
      let kind = kind_by (global_kind P field.name) (λ (k : Kind). is_shaped P.structs model.types field.shape k.type) h in
      let g = global_found P.structs P.globals values field.name kind.0 formed kind.1 in
      let declared = bound (find (λ (x : CGlobal). bytes_eq field.name x.name.bytes) P.globals) (λ x. Some (one_of x.kind)) kind.0 kind.1 in
      let same : one_of declared.value.kind ≡ kind.0 = same_value _ kind.0 declared.gives in
      let shaped : is_shaped P.structs model.types field.shape declared.value.kind ≡ true = ap (λ (k : Kind). is_shaped P.structs model.types field.shape k.type) same ∙ kind.2 in
      let new : HasForm P.structs (cells_of_shape model field.shape v) (form_of P.structs kind.0) =
      subst (λ (k : Kind). HasForm P.structs (cells_of_shape model field.shape v) (form_of P.structs k)) same (shaped_cells model P.structs field.shape declared.value.kind v shaped) in
      subst (λ o. HaveForms P.structs P.globals (put_numbered o (cells_of_shape model field.shape v) values)) (sym g.place)
      (g.put (λ old. cells_of_shape model field.shape v) new)

  inputs_formed : (fields : List Field) (vs : List Value) (values : List Cells) → list_all (has_field P model) fields ≡ true → HaveForms P.structs P.globals values → HaveForms P.structs P.globals (inputs_set model (global_names P) fields vs values)
  inputs_formed [] vs values h formed = formed
  inputs_formed (field ∷ fields) [] values h formed = formed
  inputs_formed (field ∷ fields) (v ∷ vs) values h formed =
      inputs_formed fields vs (put_named (global_names P) field.name (cells_of_shape model field.shape v) values)
      (right_of (has_field P model field) (list_all (has_field P model) fields) h)
      (field_put field v values (left_of (has_field P model field) (list_all (has_field P model) fields) h) formed)

  entered_steady : (name : List ℕ) (values : List Cells) → is_in name (function_names P) ≡ true → HaveForms P.structs P.globals values → IsSteady P (entered (place_in name (function_names P)) values)
  entered_steady name values h formed =
      let one = named_place (λ (f : CFunction). f.name.bytes) P.functions name h in
      subst (λ o. IsSteady P (entered o values)) (sym one.is) (formed, (one.found, one.stands), tt)

  -- the interface of a program that loads
  record Faces : Type 0 where
    functions : list_all (λ n. is_in n (function_names P)) (functions_of model) ≡ true
    fields : list_all (has_field P model) (fields_of model) ≡ true

  faces : breaks_K9 P model ≡ false → Faces
  faces h =
      let a : Bool = list_all (λ n. is_in n (function_names P)) (functions_of model) in
      let b : Bool = list_all (has_field P model) (fields_of model) in
      let c : Bool = list_all (has_event P model) (events_of model) in
      let d : Bool = list_all (λ n. is_in n (map (event_name model) (events_of model))) (event_names P) in
      let all : (a && b && c && d) ≡ true = not_false (a && b && c && d) h in
      let two : (a && b) ≡ true = left_of (a && b) c (left_of (a && b && c) d all) in
      record { functions = left_of a b two; fields = right_of a b two }

  loaded_faces : Loads P model → Faces
  unfolding first_load_rule
  loaded_faces h =
      let k3 = unchained (breaks_K3 P) _ _ h in
      let k4 = unchained (breaks_K4 P) _ _ k3.1 in
      let k5 = unchained (breaks_K5 P) _ _ k4.1 in
      let k6 = unchained (breaks_K6 P) _ _ k5.1 in
      let k7 = unchained (breaks_K7 P) _ _ k6.1 in
      let k8 = unchained (breaks_K8 P) _ _ k7.1 in
      faces (unchained (breaks_K9 P model) _ _ k8.1).0

  module _ (face : Faces) where
    stimulus_functions : (list_all (λ n. is_in n (function_names P)) (map (signal_function model) (incoming model)) && list_all (λ n. is_in n (function_names P)) (map (timer_function model) (numbers_below (length model.timers)))) ≡ true
    stimulus_functions =
        sym (list_all-append (λ n. is_in n (function_names P)) (map (signal_function model) (incoming model)) (map (timer_function model) (numbers_below (length model.timers))))
        ∙ right_of (is_in start_function (function_names P)) _ face.functions

    signal_there : (k j : ℕ) → slice_get (incoming model) j ≡ Some k → is_in (signal_function model k) (function_names P) ≡ true
    signal_there k j e =
        all_at (λ n. is_in n (function_names P)) (map (signal_function model) (incoming model)) j (signal_function model k)
        (left_of (list_all (λ n. is_in n (function_names P)) (map (signal_function model) (incoming model))) (list_all (λ n. is_in n (function_names P)) (map (timer_function model) (numbers_below (length model.timers)))) stimulus_functions)
        (map_at (signal_function model) (incoming model) j k e)

    timer_there : (k : ℕ) → k < length model.timers → is_in (timer_function model k) (function_names P) ≡ true
    timer_there k h =
        all_at (λ n. is_in n (function_names P)) (map (timer_function model) (numbers_below (length model.timers))) k (timer_function model k)
        (right_of (list_all (λ n. is_in n (function_names P)) (map (signal_function model) (incoming model))) (list_all (λ n. is_in n (function_names P)) (map (timer_function model) (numbers_below (length model.timers)))) stimulus_functions)
        (map_at (timer_function model) (numbers_below (length model.timers)) k k (let same : 0 + k ≡ k = omega arith in number_at 0 (length model.timers) k h ∙ ap Some same))

    inputs_there : (k j : ℕ) → slice_get (incoming model) j ≡ Some k → list_all (has_field P model) (inputs_of model k) ≡ true
    inputs_there k j e =
        let all = sym (list_all-append (has_field P model) (control_fields model ++ variable_fields model ++ timer_fields model) (flat_map (inputs_of model) (incoming model))) ∙ face.fields in
        all_of_each (has_field P model) (inputs_of model) (incoming model) j k
        (right_of (list_all (has_field P model) (control_fields model ++ variable_fields model ++ timer_fields model)) (list_all (has_field P model) (flat_map (inputs_of model) (incoming model))) all) e

    signal_steady : (k : ℕ) (vs : List Value) (o : Option Signal) → slice_get model.signals k ≡ o → is_sent model o vs ≡ true → (values : List Cells) → HaveForms P.structs P.globals values → IsSteady P (begun model (function_names P) (global_names P) (Some (shown.Signal k vs)) values)
    signal_steady k vs None e h values formed = absurd (false≢true h)
    signal_steady k vs (Some s) e h values formed =
        let same : 0 + k ≡ k = omega arith in
        let found = incoming_at 0 model.signals k s e (left_of s.incoming (are_in model s.sorts vs) h) in
        let at : slice_get (incoming model) found.0 ≡ Some k = found.1 ∙ ap Some same in
        entered_steady (signal_function model k) (inputs_set model (global_names P) (inputs_of model k) vs values) (signal_there k found.0 at)
        (inputs_formed (inputs_of model k) vs values (inputs_there k found.0 at) formed)

    begun_by : (s : Option Stimulus) → IfSome s (λ x. IsTrue (is_stimulus model x)) → (values : List Cells) → HaveForms P.structs P.globals values → IsSteady P (begun model (function_names P) (global_names P) s values)
    begun_by None h values formed = entered_steady start_function values (left_of (is_in start_function (function_names P)) _ face.functions) formed
    begun_by (Some (shown.Signal k vs)) h values formed = signal_steady k vs (slice_get model.signals k) refl h values formed
    begun_by (Some (shown.Expiry k)) h values formed = entered_steady (timer_function model k) values (timer_there k (ltb-true k (length model.timers) h)) formed

-- a stimulus begins steadily
pub begun_steady : (P : CProgram) (model : Model) → Loads P model → (s : Option Stimulus) → IfSome s (λ x. IsTrue (is_stimulus model x)) → (values : List Cells) → HaveForms P.structs P.globals values → IsSteady P ((c_machine P model).begin s values)
begun_steady P model loads = begun_by P model (loaded_faces P model loads)
