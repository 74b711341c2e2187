-- The plain text of the program is one of tokens, and nests at most 256 deep.
use Rattle.std.proofs.Common.{◌≡◌, ℕ, zero, suc, ◌+◌, ◌-◌, ◌^◌, ◌<◌, ◌≤◌, ℤ, pos, negsuc, List, [], ◌∷◌, ◌++◌, Bool, true, false, cond, not, ◌&&◌, ◌||◌, ◌==◌, Option, Some, None, map, length, slice_get, nat_lt, nat_le, refl, sym, ap, subst, ◌∙◌, arith}
use Rattle.std.specs.Prelude.{option_map}
use Rattle.std.specs.List.{list_all}
use Rattle.std.specs.Str.{bytes_eq}
use Rattle.std.proofs.lemmas.Bool.{false≢true, ltb-true, leb-true}
use Rattle.std.proofs.lemmas.Option.{none-some}
use Rattle.std.proofs.lemmas.List.Folds.{list_all-append}
use Rattle.og_names.specs.declared.Word.{Word}
use Rattle.og_types.specs.declared.Sort.{Sort}
use Rattle.og_types.specs.declared.TypeId.{TypeId}
use Rattle.og_model.specs.declared.Model.{Model}
use Rattle.og_ir.specs.declared.Ir.{Ir}
use Rattle.og_ir.specs.declared.SlotDef.{SlotDef}
use Rattle.og_ir.specs.declared.FlatFn.{FlatFn}
use Rattle.og_ir.specs.declared.Instr.{Instr}
use Rattle.og_ir.specs.declared.Instr.TheVariants as instr
use Rattle.og_ir.specs.declared.Slot.{Slot, size-Slot}
use Rattle.og_ir.specs.declared.Step2.{Step2, size-Step2}
use Rattle.og_ir.specs.declared.Step2.TheVariants as step
use Rattle.og_ir.specs.declared.Flat.{Flat, out-Flat, size-Flat, Flat-F}
use Rattle.og_ir.specs.declared.Flat.TheOpen as flat
use Rattle.og_ir.specs.declared.Test.{Test}
use Rattle.og_ir.specs.declared.Case.{Case}
use Rattle.og_ir.specs.Arithmetic.{in_64_bits}
use Rattle.og_ir.specs.Cells as opt
use Rattle.og_ir.specs.Cells.{Cells}
use Rattle.og_ir.specs.Reading.{blank}
use Rattle.og_ir.specs.FlatSteps.{blank_slot}
use Rattle.og_ir.proofs.Depth.{depth_of_parts, depth_is, path_below, index_below}
use Rattle.og_csubset.specs.declared.CGlobal.{CGlobal}
use Rattle.og_csubset.specs.declared.CMember.{CMember}
use Rattle.og_csubset.specs.declared.CStmt.{CStmt}
use Rattle.og_csubset.specs.declared.CStmt.TheVariants.{Label, Call, Return}
use Rattle.og_csubset.specs.declared.CCase.{CCase}
use Rattle.og_csubset.specs.declared.COp.TheVariants.{Sub}
use Rattle.og_csubset.specs.declared.CStep.{Member, At}
use Rattle.og_csubset.specs.declared.CExpr.{CExpr}
use Rattle.og_csubset.specs.declared.CExpr as c
use Rattle.og_csubset.specs.Kinds.{Kind, is_in, event_names, members_of, member_in, type_of_one}
use Rattle.og_csubset.specs.Tokens.{Token, name, number, operator, relation, keyword, mark, void_, if_, goto_, switch_, case_, default_, return_, INT64_C, open_brace, close_brace, open_square, close_square, open_round, close_round, semicolon, colon, dot, equals, IsToken, is_name}
use Rattle.og_csubset.specs.Spelling.{literal, least_text}
use Rattle.og_csubset.specs.Nesting.{Nest, outermost, after_token, nesting_from, nesting}
use Rattle.og_csubset.specs.Plain.{Text, Piece, piece, number_piece, op_piece, joined, place_text, plain_piece, plain_place, plain_test, plain_number, each, plain_constant, jump, plain_case, plain_statement, plain_type, plain_global, plain_head, plain_event, plain_function, plain_tokens, IsWellMade}
use Rattle.og_csubset.specs.FlatRun.{slot_names, flat_function_names}
use Rattle.og_csubset.specs.Fair.{Held, One, Whole, Array, held_as, held_in_slot, field_of, held_after, held_at, is_one, joins, number_by, is_number, is_right, has_equal_cases, is_shallow, is_labelled, Fair}
use Rattle.og_csubset.proofs.FairParts.{number_is, flat_piece_is}
use Rattle.og_csubset.proofs.FlatTexts.{nesting_behind, in_function, in_table, constant_shallow}
use Rattle.og_csubset.proofs.PlainTexts.{plain_step, piece-Number, piece-Read, piece-Op, step-Member, step-At, place-text, test-text}
use Rattle.og_csubset.proofs.Steady.{all_at}
use Rattle.og_csubset.specs.FlatText.{no_name, slot_word, operator_of, relation_of, selector_text, piece_by, flat_piece, flat_text, slot_text, case_text, nesting_of_instruction}
use Rattle.og_cemit.specs.Marks.{is_marked}
use Rattle.og_cemit.specs.Structs.{prefix_of, type_held, type_of_slot, words_of_sort, member_words, member_word, members_of_sort, structs_of, AreFew}
use Rattle.og_cemit.specs.Emitted.{Selector, selectors, held_field, held_item, held_in_def, selector_of, place_of, label_text, label_at, number_of, test_of, case_at, calls_function, calls_event, statement_at, label_before, statements_from, targets, body_of, function_of, global_of, program_of, AreShort}
use Rattle.og_cemit.proofs.Names.{get_map, there, within, is_in_at, equal_bytes}
use Rattle.og_cemit.proofs.Opens.{selector-Field, selector-Index}
use Rattle.og_cemit.proofs.Parts.{flat_event_names, right_at}
use Rattle.og_cemit.proofs.Structures.{Stands, kind_of_type, stands_type, field_stands, slot_stands, struct_members}
use Rattle.og_cemit.proofs.StructCells.{whole_there}
use Rattle.og_cemit.proofs.StructText.{outside, IsNamed, type_goes, held_named, structs_right}
use Rattle.og_cemit.proofs.MemberNames.{members_named}
use Rattle.og_cemit.proofs.Values.{none_if, steps_of, expression_of, number_of_is}
use Rattle.og_cemit.proofs.Declared.{short_at}
use Rattle.og_cemit.proofs.LoadNames.{event_is_flat}
use Rattle.og_cemit.proofs.LabelNames.{label_is_name}
use Rattle.og_cemit.proofs.TextAlike.{unnamed, alike_nests, Alike, PieceAlike, op_alike, same_piece}
use Rattle.og_cemit.proofs.TextGoes.{Right, Goes, Leads, goes_none, goes_token, goes_on, goes_each, goes_within, nest_at, Deepens, deepens_name, deepens_then, deepens_one, deepens_square, PieceDeepens, piece_deepens, number_deepens, op_deepens}
use Rattle.og_names.proofs.Truths.{both_first as left_of, both_second as right_of}
use denote.Param.Weighed.{most}

-- ---- statements

jump_goes : (nest : Nest) (w : Word) → IsToken (name w.bytes) → nest.level.depth ≤ 256
    → (after_token (mark semicolon) nest).level.depth ≤ 256 → Goes nest (jump w) (after_token (mark semicolon) nest)
jump_goes nest w is less less' =
    goes_on _ _ _ (λ rest. keyword goto_ ∷ rest) (λ rest. name w.bytes ∷ mark semicolon ∷ rest) (goes_token (keyword goto_) nest tt less)
    (goes_on _ _ _ (λ rest. name w.bytes ∷ rest) (λ rest. mark semicolon ∷ rest) (goes_token (name w.bytes) nest is less) (goes_token (mark semicolon) nest tt less'))

-- a bracket whose text nests within the limit, whatever stands behind the text
bracket_goes : (text : Text) → Deepens text → (rest : List Token)
    → nesting_from (nest_at false 2 2 (in_function.level ∷ in_function.outward)) (text rest) ≤ 256
    → Goes in_function (λ rest. mark open_round ∷ text (mark close_round ∷ rest)) in_function
bracket_goes text h rest less =
    let one = h false 2 2 (in_function.level ∷ in_function.outward) in
    goes_on _ _ _ (λ rest. mark open_round ∷ rest) (λ rest. text (mark close_round ∷ rest)) (goes_token (mark open_round) in_function tt (omega arith))
    (goes_on _ _ _ text (λ rest. mark close_round ∷ rest) (goes_within _ _ text one.leads rest less)
    (goes_token (mark close_round) (nest_at false 2 (2 + one.up) (in_function.level ∷ in_function.outward)) tt (omega arith)))

-- a place with its selectors, which end at `=`, and a number
assign_goes : (place text : Text) → Deepens place → Deepens text
    → nesting_from in_function (place (mark equals ∷ text (mark semicolon ∷ []))) ≤ 256
    → Goes in_function (λ rest. place (mark equals ∷ text (mark semicolon ∷ rest))) in_function
assign_goes place text p h less =
    let first = p true 1 1 (outermost.level ∷ []) in
    let one = h true 1 1 (outermost.level ∷ []) in
    let behind : nesting_from (nest_at true 1 (1 + first.up) (outermost.level ∷ [])) (mark equals ∷ text (mark semicolon ∷ [])) ≤ 256 =
    subst (λ nest. nesting_from nest (mark equals ∷ text (mark semicolon ∷ [])) ≤ 256) first.leads.after
    (nesting_behind in_function first.leads.front (mark equals ∷ text (mark semicolon ∷ [])) 256
    (subst (λ tokens. nesting_from in_function tokens ≤ 256) (first.leads.appends (mark equals ∷ text (mark semicolon ∷ []))) less)) in
    let inner : nesting_from in_function (text (mark semicolon ∷ [])) ≤ 256 = omega (arith, behind) in
    goes_on _ _ _ place (λ rest. mark equals ∷ text (mark semicolon ∷ rest)) (goes_within _ _ place first.leads (mark equals ∷ text (mark semicolon ∷ [])) less)
    (goes_on _ _ _ (λ rest. mark equals ∷ rest) (λ rest. text (mark semicolon ∷ rest)) (goes_token (mark equals) (nest_at true 1 (1 + first.up) (outermost.level ∷ [])) tt (omega arith))
    (goes_on _ _ _ text (λ rest. mark semicolon ∷ rest) (goes_within _ _ text one.leads (mark semicolon ∷ []) inner)
    (goes_token (mark semicolon) (nest_at true 1 (1 + one.up) (outermost.level ∷ [])) tt (omega arith))))

if_goes : (text : Text) (w : Word) → Deepens text → IsToken (name w.bytes) → (rest : List Token)
    → nesting_from (nest_at false 2 2 (in_function.level ∷ in_function.outward)) (text rest) ≤ 256
    → Goes in_function (λ rest. keyword if_ ∷ mark open_round ∷ text (mark close_round ∷ jump w rest)) in_function
if_goes text w h is rest less =
    goes_on _ _ _ (λ rest. keyword if_ ∷ rest) (λ rest. mark open_round ∷ text (mark close_round ∷ jump w rest)) (goes_token (keyword if_) in_function tt (omega arith))
    (goes_on _ _ _ (λ rest. mark open_round ∷ text (mark close_round ∷ rest)) (jump w) (bracket_goes text h rest less)
    (jump_goes in_function w is (omega arith) (omega arith)))

case_goes : (x : CCase) → in_64_bits x.value ≡ true → IsToken (name x.label.bytes) → Goes in_table (plain_case x) in_table
case_goes x range is =
    let one = (number_deepens x.value range).bare true 2 2 (in_function.level ∷ in_function.outward) in
    goes_on _ _ _ (λ rest. keyword case_ ∷ rest) (λ rest. plain_constant x.value (mark colon ∷ jump x.label rest)) (goes_token (keyword case_) in_table tt (omega arith))
    (goes_on _ _ _ (plain_constant x.value) (λ rest. mark colon ∷ jump x.label rest) (goes_within _ _ (plain_constant x.value) one.leads [] (constant_shallow x.value))
    (goes_on _ _ _ (λ rest. mark colon ∷ rest) (jump x.label) (goes_token (mark colon) (nest_at true 2 (2 + one.up) (in_function.level ∷ in_function.outward)) tt (omega arith))
    (jump_goes in_table x.label is (omega arith) (omega arith))))

switch_goes : (text : Text) (cases : List CCase) (w : Word) → Deepens text → Goes in_table (each plain_case cases) in_table
    → IsToken (name w.bytes) → (rest : List Token) → nesting_from (nest_at false 2 2 (in_function.level ∷ in_function.outward)) (text rest) ≤ 256
    → Goes in_function (λ rest. keyword switch_ ∷ mark open_round ∷ text (mark close_round ∷ mark open_brace ∷ each plain_case cases (keyword default_ ∷ mark colon ∷ jump w (mark close_brace ∷ rest)))) in_function
switch_goes text cases w h each_goes is rest less =
    goes_on _ _ _ (λ rest. keyword switch_ ∷ rest) (λ rest. mark open_round ∷ text (mark close_round ∷ mark open_brace ∷ each plain_case cases (keyword default_ ∷ mark colon ∷ jump w (mark close_brace ∷ rest)))) (goes_token (keyword switch_) in_function tt (omega arith))
    (goes_on _ _ _ (λ rest. mark open_round ∷ text (mark close_round ∷ rest)) (λ rest. mark open_brace ∷ each plain_case cases (keyword default_ ∷ mark colon ∷ jump w (mark close_brace ∷ rest))) (bracket_goes text h rest less)
    (goes_on _ _ _ (λ rest. mark open_brace ∷ rest) (λ rest. each plain_case cases (keyword default_ ∷ mark colon ∷ jump w (mark close_brace ∷ rest))) (goes_token (mark open_brace) in_function tt (omega arith))
    (goes_on _ _ _ (each plain_case cases) (λ rest. keyword default_ ∷ mark colon ∷ jump w (mark close_brace ∷ rest)) each_goes
    (goes_on _ _ _ (λ rest. keyword default_ ∷ rest) (λ rest. mark colon ∷ jump w (mark close_brace ∷ rest)) (goes_token (keyword default_) in_table tt (omega arith))
    (goes_on _ _ _ (λ rest. mark colon ∷ rest) (λ rest. jump w (mark close_brace ∷ rest)) (goes_token (mark colon) in_table tt (omega arith))
    (goes_on _ _ _ (jump w) (λ rest. mark close_brace ∷ rest) (jump_goes in_table w is (omega arith) (omega arith))
    (goes_token (mark close_brace) in_table tt (omega arith))))))))

call_goes : (w : Word) → IsToken (name w.bytes) → Goes in_function (plain_statement (Call w)) in_function
call_goes w is =
    goes_on _ _ _ (λ rest. name w.bytes ∷ rest) (λ rest. mark open_round ∷ mark close_round ∷ mark semicolon ∷ rest) (goes_token (name w.bytes) in_function is (omega arith))
    (goes_on _ _ _ (λ rest. mark open_round ∷ rest) (λ rest. mark close_round ∷ mark semicolon ∷ rest) (goes_token (mark open_round) in_function tt (omega arith))
    (goes_on _ _ _ (λ rest. mark close_round ∷ rest) (λ rest. mark semicolon ∷ rest) (goes_token (mark close_round) (nest_at false 2 2 (in_function.level ∷ in_function.outward)) tt (omega arith))
    (goes_token (mark semicolon) in_function tt (omega arith))))

label_goes : (w : Word) → IsToken (name w.bytes) → Goes in_function (plain_statement (Label w)) in_function
label_goes w is =
    goes_on _ _ _ (λ rest. name w.bytes ∷ rest) (λ rest. mark colon ∷ mark semicolon ∷ rest) (goes_token (name w.bytes) in_function is (omega arith))
    (goes_on _ _ _ (λ rest. mark colon ∷ rest) (λ rest. mark semicolon ∷ rest) (goes_token (mark colon) in_function tt (omega arith))
    (goes_token (mark semicolon) in_function tt (omega arith)))

return_goes : Goes in_function (plain_statement Return) in_function
return_goes =
    goes_on _ _ _ (λ rest. keyword return_ ∷ rest) (λ rest. mark semicolon ∷ rest) (goes_token (keyword return_) in_function tt (omega arith)) (goes_token (mark semicolon) in_function tt (omega arith))

-- ---- names

all_named : (names : List (List ℕ)) (w : List ℕ) → list_all is_name names ≡ true → is_in w names ≡ true → is_name w ≡ true
all_named [] w all h = absurd (false≢true h)
all_named (x ∷ names) w all h = by_test (bytes_eq w x) refl h (all_named names w (right_of (is_name x) (list_all is_name names) all))
  where
    by_test : (b : Bool) → bytes_eq w x ≡ b → (b || is_in w names) ≡ true → (is_in w names ≡ true → is_name w ≡ true) → is_name w ≡ true
    by_test true e h' more = ap is_name (equal_bytes w x e) ∙ left_of (is_name x) (list_all is_name names) all
    by_test false e h' more = more h'

module _ (ir : Ir) (model : Model) (fair : Fair ir model) (few : AreFew model.types) where
  front_named : list_all is_name (slot_names ir ++ flat_event_names ir) ≡ true
  front_named = left_of _ (list_all is_name (flat_function_names ir)) (sym (list_all-append is_name (slot_names ir ++ flat_event_names ir) (flat_function_names ir)) ∙ fair.names)

  slots_named : list_all is_name (slot_names ir) ≡ true
  slots_named = left_of _ (list_all is_name (flat_event_names ir)) (sym (list_all-append is_name (slot_names ir) (flat_event_names ir)) ∙ front_named)

  events_named : list_all is_name (flat_event_names ir) ≡ true
  events_named = right_of (list_all is_name (slot_names ir)) _ (sym (list_all-append is_name (slot_names ir) (flat_event_names ir)) ∙ front_named)

  functions_named : list_all is_name (flat_function_names ir) ≡ true
  functions_named = right_of (list_all is_name (slot_names ir ++ flat_event_names ir)) _ (sym (list_all-append is_name (slot_names ir ++ flat_event_names ir) (flat_function_names ir)) ∙ fair.names)

  slot_named : (base : ℕ) → base < length ir.slots → is_name (slot_word (slice_get ir.slots base)).bytes ≡ true
  slot_named base less =
      let one = there ir.slots base less in
      ap (λ o. is_name (slot_word o).bytes) one.1
      ∙ all_at is_name (slot_names ir) base one.0.name.bytes slots_named (get_map (λ (x : SlotDef). x.name.bytes) ir.slots base ∙ ap (option_map (λ (x : SlotDef). x.name.bytes)) one.1)

  function_named : (k : ℕ) (g : FlatFn) → slice_get ir.functions k ≡ Some g → is_name g.name.bytes ≡ true
  function_named k g e =
      all_at is_name (flat_function_names ir) k g.name.bytes functions_named (get_map (λ (x : FlatFn). x.name.bytes) ir.functions k ∙ ap (option_map (λ (x : FlatFn). x.name.bytes)) e)

  event_named : (k : ℕ) (w : Word) → slice_get ir.events k ≡ Some w → is_name w.bytes ≡ true
  event_named k w e =
      all_at is_name (flat_event_names ir) k w.bytes events_named (get_map (λ (x : Word). x.bytes) ir.events k ∙ ap (option_map (λ (x : Word). x.bytes)) e)

  -- ---- numbers

  abbrev path_text : Option Held → List Step2 → Text
  path_text held steps = joined (map plain_step (steps_of ir model fair few held steps))

  place_is : (slot : Slot) → plain_place (place_of ir model slot)
      ≡ (λ rest. name (slot_word (slice_get ir.slots slot.base)).bytes ∷ path_text (held_in_def model.types (slice_get ir.slots slot.base)) slot.path rest)
  place_is slot = place-text (slot_word (slice_get ir.slots slot.base)) (steps_of ir model fair few (held_in_def model.types (slice_get ir.slots slot.base)) slot.path)

  -- a member that is there has a name
  member_named : (members : List CMember) (w : List ℕ) (found : ℕ × Kind) → list_all is_name (map (λ (m : CMember). m.name.bytes) members) ≡ true
      → member_in w members ≡ Some found → is_name w ≡ true
  member_named [] w found all e = absurd (none-some found e)
  member_named (m ∷ members) w found all e = by_test (bytes_eq w m.name.bytes) refl e (λ one q. member_named members w one (right_of (is_name m.name.bytes) _ all) q)
    where
      by_rest : (o : Option (ℕ × Kind)) → member_in w members ≡ o → (opt.◌>>=◌ o (λ one. Some (one.0 + 1, one.1))) ≡ Some found
          → ((one : ℕ × Kind) → member_in w members ≡ Some one → is_name w ≡ true) → is_name w ≡ true
      by_rest None q h more = absurd (none-some found h)
      by_rest (Some one) q h more = more one q

      by_test : (b : Bool) → bytes_eq w m.name.bytes ≡ b
          → cond b (Some (0, record { type = m.kind; size = m.size })) (opt.◌>>=◌ (member_in w members) (λ one. Some (one.0 + 1, one.1))) ≡ Some found
          → ((one : ℕ × Kind) → member_in w members ≡ Some one → is_name w ≡ true) → is_name w ≡ true
      by_test true q h more = ap is_name (equal_bytes w m.name.bytes q) ∙ left_of (is_name m.name.bytes) _ all
      by_test false q h more = by_rest (member_in w members) refl h more

  field_named : (kind : Kind) (held : Held) (cells : Cells) (k : ℕ) (inner : Held) → Stands ir model kind held cells → field_of model.types k held ≡ Some inner
      → is_name (member_word (member_words model) (Some held) k).bytes ≡ true
  field_named kind One cells k inner st e = absurd (none-some inner e)
  field_named kind (Array t) cells k inner st e = absurd (none-some inner e)
  field_named kind (Whole t) cells k inner st e =
      let one = field_stands ir model fair few kind (Whole t) cells k inner st e in
      let there' = whole_there ir model fair few t t st.held in
      member_named (members_of_sort (prefix_of ir) model.types (words_of_sort model there'.0) there'.0) (member_word (member_words model) (Some (Whole t)) k).bytes (k, one.behind)
      (members_named (prefix_of ir) model.types model there'.0)
      (sym (ap (λ (q : Kind). opt.◌>>=◌ (opt.◌>>=◌ (type_of_one q) (members_of (structs_of ir model))) (member_in (member_word (member_words model) (Some (Whole t)) k).bytes)) st.kind_is
      ∙ ap (λ o. opt.◌>>=◌ (members_of (structs_of ir model) (type_held (prefix_of ir) o)) (member_in (member_word (member_words model) (Some (Whole t)) k).bytes)) st.held
      ∙ ap (λ o. opt.◌>>=◌ o (member_in (member_word (member_words model) (Some (Whole t)) k).bytes)) (struct_members ir model fair few t there'.0 st.marked there'.1 there'.2))
      ∙ one.found)

  module _ (d : ℕ) (h : (e : Flat) → size-Flat e ≤ d → is_number model.types ir e ≡ true → Deepens (plain_number (number_of ir model e))) where
    abbrev PathDeepens : List Step2 → Type 0
    PathDeepens steps = (kind : Kind) (held : Held) (cells : Cells) (final : Held) → most size-Step2 steps ≤ d → Stands ir model kind held cells
        → held_after (is_number model.types ir) model.types steps held ≡ Some final → Deepens (path_text (Some held) steps)

    field_deepens : (k : ℕ) (steps : List Step2) → PathDeepens steps → PathDeepens (step.Field k ∷ steps)
    field_deepens k steps more kind held cells final deep st e = by_field (field_of model.types k held) refl e
      where
        by_field : (o : Option Held) → field_of model.types k held ≡ o → opt.◌>>=◌ o (held_after (is_number model.types ir) model.types steps) ≡ Some final
            → Deepens (path_text (Some held) (step.Field k ∷ steps))
        by_field None q q' = absurd (none-some final q')
        by_field (Some inner) q q' =
            let one = field_stands ir model fair few kind held cells k inner st q in
            subst Deepens
            (sym (ap (λ (x : Selector). joined (map plain_step (selectors (member_words model) model.types (Some held) (x ∷ map (selector_of ir model) steps)))) (selector-Field ir model k)
            ∙ ap (λ o. joined (plain_step (Member (member_word (member_words model) (Some held) k)) ∷ map plain_step (steps_of ir model fair few o steps))) q
            ∙ ap (λ (text : Text). λ rest. text (path_text (Some inner) steps rest)) (step-Member (member_word (member_words model) (Some held) k))))
            (deepens_then (λ rest. mark dot ∷ rest) (λ rest. name (member_word (member_words model) (Some held) k).bytes ∷ path_text (Some inner) steps rest)
            (deepens_one (mark dot) tt (λ block base depth outward. refl))
            (deepens_then (λ rest. name (member_word (member_words model) (Some held) k).bytes ∷ rest) (path_text (Some inner) steps)
            (deepens_name (member_word (member_words model) (Some held) k).bytes (field_named kind held cells k inner st q))
            (more one.behind inner one.shape final (omega (arith, deep)) one.stands q')))

    index_deepens : (e : Flat) (steps : List Step2) → PathDeepens steps → PathDeepens (step.Index e ∷ steps)
    index_deepens e steps more kind One cells final deep st q = absurd (none_if (is_number model.types ir e) final q)
    index_deepens e steps more kind (Whole t) cells final deep st q = absurd (none_if (is_number model.types ir e) final q)
    index_deepens e steps more kind (Array item) cells final deep st q = by_number (is_number model.types ir e) refl q
      where
        by_inner : is_number model.types ir e ≡ true → (o : Option Held) → held_as model.types item ≡ o
            → opt.◌>>=◌ o (held_after (is_number model.types ir) model.types steps) ≡ Some final → Deepens (path_text (Some (Array item)) (step.Index e ∷ steps))
        by_inner numeric None e' q' = absurd (none-some final q')
        by_inner numeric (Some inner) e' q' =
            subst Deepens
            (sym (ap (λ (x : Selector). joined (map plain_step (selectors (member_words model) model.types (Some (Array item)) (x ∷ map (selector_of ir model) steps)))) (selector-Index ir model e)
            ∙ ap (λ o. joined (plain_step (At (number_of ir model e)) ∷ map plain_step (steps_of ir model fair few o steps))) e'
            ∙ ap (λ (text : Text). λ rest. text (path_text (Some inner) steps rest)) (step-At (number_of ir model e))))
            (deepens_then (λ rest. mark open_square ∷ plain_number (number_of ir model e) (mark close_square ∷ rest)) (path_text (Some inner) steps)
            (deepens_square (plain_number (number_of ir model e)) (h e (index_below e steps d deep) numeric))
            (more (kind_of_type ir model item) inner (blank model.types item) final (omega (arith, deep)) (stands_type ir model fair few item inner st.marked e') q'))

        by_number : (b : Bool) → is_number model.types ir e ≡ b
            → cond b (opt.◌>>=◌ (held_as model.types item) (held_after (is_number model.types ir) model.types steps)) None ≡ Some final → Deepens (path_text (Some (Array item)) (step.Index e ∷ steps))
        by_number false e' q' = absurd (none-some final q')
        by_number true e' q' = by_inner e' (held_as model.types item) refl q'

    path_deepens : (steps : List Step2) → PathDeepens steps
    path_deepens [] kind held cells final deep st q = λ block base depth outward. record {
      up = 0;
      leads = subst (Leads (nest_at block base depth outward) (λ rest. rest)) (ap (λ n. nest_at block base n outward) (omega arith)) (record { front = []; appends = λ rest. refl; are = tt; after = refl });
    }
    path_deepens (step.Field k ∷ steps) kind held cells final deep st q = field_deepens k steps (path_deepens steps) kind held cells final deep st q
    path_deepens (step.Index e ∷ steps) kind held cells final deep st q = index_deepens e steps (path_deepens steps) kind held cells final deep st q

    place_text_deepens : (slot : Slot) (final : Held) → size-Slot slot ≤ d → held_at model.types ir slot ≡ Some final → Deepens (plain_place (place_of ir model slot))
    place_text_deepens slot final deep e = by_def (slice_get ir.slots slot.base) refl e
      where
        by_held : (def : SlotDef) → slice_get ir.slots slot.base ≡ Some def → (o : Option Held) → held_in_slot model.types def.sort ≡ o
            → opt.◌>>=◌ o (held_after (is_number model.types ir) model.types slot.path) ≡ Some final → Deepens (plain_place (place_of ir model slot))
        by_held def e' None e'' q = absurd (none-some final q)
        by_held def e' (Some held) e'' q =
            subst Deepens (sym (place_is slot ∙ ap (λ o. λ rest. name (slot_word (slice_get ir.slots slot.base)).bytes ∷ path_text o slot.path rest) (ap (held_in_def model.types) e' ∙ e'')))
            (deepens_then (λ rest. name (slot_word (slice_get ir.slots slot.base)).bytes ∷ rest) (path_text (Some held) slot.path)
            (deepens_name (slot_word (slice_get ir.slots slot.base)).bytes (slot_named slot.base (within ir.slots slot.base def e')))
            (path_deepens slot.path (record { type = type_of_slot (prefix_of ir) model.types def.sort; size = None }) held (blank_slot model.types def.sort) final
            (path_below slot d deep) (slot_stands ir model fair few slot.base def held e' e'') q))

        by_def : (o : Option SlotDef) → slice_get ir.slots slot.base ≡ o
            → opt.◌>>=◌ o (λ def. opt.◌>>=◌ (held_in_slot model.types def.sort) (held_after (is_number model.types ir) model.types slot.path)) ≡ Some final
            → Deepens (plain_place (place_of ir model slot))
        by_def None e' q = absurd (none-some final q)
        by_def (Some def) e' q = by_held def e' (held_in_slot model.types def.sort) refl q

  one_held : (o : Option Held) → is_one o ≡ true → o ≡ Some One
  one_held None q = absurd (false≢true q)
  one_held (Some One) q = refl
  one_held (Some (Whole t)) q = absurd (false≢true q)
  one_held (Some (Array t)) q = absurd (false≢true q)

  by_shape : (d : ℕ)
      → ((e : Flat) → size-Flat e ≤ d → is_number model.types ir e ≡ true → PieceDeepens (plain_piece (number_of ir model e)))
      → (shape : Flat-F Flat Step2 Slot) → depth_of_parts shape ≤ d
      → number_by (is_number model.types ir) model.types ir shape ≡ true
      → PieceDeepens (plain_piece (expression_of ir model shape))
  by_shape d part (flat.Number n) deep r = subst PieceDeepens (sym (piece-Number n)) (number_deepens n r)
  by_shape d part (flat.Read slot) deep r =
      subst PieceDeepens (sym (piece-Read (place_of ir model slot)))
      (piece_deepens 0 (plain_place (place_of ir model slot)) None (place_text_deepens d (λ e less q. (part e less q).bare) slot One deep (one_held (held_at model.types ir slot) r)))
  by_shape d part (flat.Op o a b) deep r =
      subst PieceDeepens (sym (piece-Op (operator_of o) (number_of ir model a) (number_of ir model b)))
      (op_deepens (operator_of o) (plain_piece (number_of ir model a)) (plain_piece (number_of ir model b))
      (part a (omega (arith, deep)) (left_of _ _ r)) (part b (omega (arith, deep)) (right_of (is_number model.types ir a) _ r)))

  within_deepens : (d : ℕ) (e : Flat) → size-Flat e ≤ d → is_number model.types ir e ≡ true → PieceDeepens (plain_piece (number_of ir model e))
  within_deepens zero e deep right = absurd (let size = depth_is e in omega (arith, deep, size))
  within_deepens (suc d) e deep right =
      let size = depth_is e in
      subst (λ x. PieceDeepens (plain_piece x)) (sym (number_of_is ir model e))
      (by_shape d (within_deepens d) (out-Flat e) (omega (arith, deep, size)) (sym (number_is model.types ir e) ∙ right))

  number_text : (e : Flat) → is_number model.types ir e ≡ true → Deepens (plain_number (number_of ir model e))
  number_text e right = (within_deepens (size-Flat e) e (omega arith) right).bare

  slot_deepens : (slot : Slot) (final : Held) → held_at model.types ir slot ≡ Some final → Deepens (plain_place (place_of ir model slot))
  slot_deepens slot final e = place_text_deepens (size-Slot slot) (λ x less q. number_text x q) slot final (omega arith) e

  both_sides : (test : Test) → (is_number model.types ir test.left && is_number model.types ir test.right) ≡ true
      → Deepens (plain_test (test_of ir model test))
  both_sides test right =
      subst Deepens (sym (test-text (relation_of test.op) (number_of ir model test.left) (number_of ir model test.right)))
      (deepens_then (plain_number (number_of ir model test.left)) (λ rest. relation (relation_of test.op) ∷ plain_number (number_of ir model test.right) rest)
      (number_text test.left (left_of _ _ right))
      (deepens_then (λ rest. relation (relation_of test.op) ∷ rest) (plain_number (number_of ir model test.right))
      (deepens_one (relation (relation_of test.op)) tt (λ block base depth outward. refl))
      (number_text test.right (right_of (is_number model.types ir test.left) _ right))))

  -- ---- texts of the code

  number_alike : (z : ℤ) → PieceAlike (number_piece z) (number_piece z)
  number_alike (pos n) = same_piece (number_piece (pos n)) (λ rest rest' e. ap (λ l. keyword INT64_C ∷ mark open_round ∷ number n ∷ mark close_round ∷ l) e) (λ rest rest' e. ap (λ l. keyword INT64_C ∷ mark open_round ∷ number n ∷ mark close_round ∷ l) e)
  number_alike (negsuc n) = by_test (n == 2 ^ 63 - 1)
    where
      by_test : (b : Bool) → PieceAlike (cond b (piece 0 least_text None) (piece 1 (λ rest. operator Sub ∷ literal (suc n) rest) (Some (negsuc n)))) (cond b (piece 0 least_text None) (piece 1 (λ rest. operator Sub ∷ literal (suc n) rest) (Some (negsuc n))))
      by_test true = same_piece (piece 0 least_text None) least least
        where
          least : (rest rest' : List Token) → unnamed rest ≡ unnamed rest' → unnamed (least_text rest) ≡ unnamed (least_text rest')
          least rest rest' e = ap (λ l. unnamed (least_text []) ++ l) e
      by_test false = same_piece (piece 1 (λ rest. operator Sub ∷ literal (suc n) rest) (Some (negsuc n))) one one
        where
          one : (rest rest' : List Token) → unnamed rest ≡ unnamed rest' → unnamed (operator Sub ∷ literal (suc n) rest) ≡ unnamed (operator Sub ∷ literal (suc n) rest')
          one rest rest' e = ap (λ l. operator Sub ∷ keyword INT64_C ∷ mark open_round ∷ number (suc n) ∷ mark close_round ∷ l) e

  module _ (d : ℕ) (h : (e : Flat) → size-Flat e ≤ d → PieceAlike (flat_piece ir e) (plain_piece (number_of ir model e))) where
    path_alike : (steps : List Step2) (held : Option Held) → most size-Step2 steps ≤ d
        → Alike (joined (map (selector_text (flat_piece ir)) steps)) (path_text held steps)
    path_alike [] held deep rest rest' e = e
    path_alike (step.Field k ∷ steps) held deep rest rest' e =
        ap (λ l. mark dot ∷ name [] ∷ l) (path_alike steps (held_field model.types k held) (omega (arith, deep)) rest rest' e)
        ∙ sym (ap (λ (x : Selector). unnamed (joined (map plain_step (selectors (member_words model) model.types held (x ∷ map (selector_of ir model) steps))) rest')) (selector-Field ir model k)
        ∙ ap (λ (text : Text). unnamed (text (path_text (held_field model.types k held) steps rest'))) (step-Member (member_word (member_words model) held k)))
    path_alike (step.Index x ∷ steps) held deep rest rest' e =
        ap (λ l. mark open_square ∷ l) ((h x (index_below x steps d deep)).bare _ _ (ap (λ l. mark close_square ∷ l) (path_alike steps (held_item model.types held) (omega (arith, deep)) rest rest' e)))
        ∙ sym (ap (λ (y : Selector). unnamed (joined (map plain_step (selectors (member_words model) model.types held (y ∷ map (selector_of ir model) steps))) rest')) (selector-Index ir model x)
        ∙ ap (λ (text : Text). unnamed (text (path_text (held_item model.types held) steps rest'))) (step-At (number_of ir model x)))

    slot_alike_by : (slot : Slot) → size-Slot slot ≤ d → Alike (slot_text ir slot) (plain_place (place_of ir model slot))
    slot_alike_by slot deep rest rest' e =
        ap (λ l. name [] ∷ l) (path_alike slot.path (held_in_def model.types (slice_get ir.slots slot.base)) (path_below slot d deep) rest rest' e)
        ∙ sym (ap (λ (text : Text). unnamed (text rest')) (place_is slot))

    shape_alike : (shape : Flat-F Flat Step2 Slot) → depth_of_parts shape ≤ d → PieceAlike (piece_by (flat_piece ir) ir shape) (plain_piece (expression_of ir model shape))
    shape_alike (flat.Number n) deep = subst (PieceAlike (number_piece n)) (sym (piece-Number n)) (number_alike n)
    shape_alike (flat.Read slot) deep =
        subst (PieceAlike (piece 0 (slot_text ir slot) None)) (sym (piece-Read (place_of ir model slot)))
        (record { level = refl; value = refl; bare = slot_alike_by slot deep; inside = slot_alike_by slot deep })
    shape_alike (flat.Op o a b) deep =
        subst (PieceAlike (op_piece (operator_of o) (flat_piece ir a) (flat_piece ir b))) (sym (piece-Op (operator_of o) (number_of ir model a) (number_of ir model b)))
        (op_alike (operator_of o) _ _ _ _ (h a (omega (arith, deep))) (h b (omega (arith, deep))))

  within_alike : (d : ℕ) (e : Flat) → size-Flat e ≤ d → PieceAlike (flat_piece ir e) (plain_piece (number_of ir model e))
  within_alike zero e deep = absurd (let size = depth_is e in omega (arith, deep, size))
  within_alike (suc d) e deep =
      let size = depth_is e in
      subst (λ p. PieceAlike p (plain_piece (number_of ir model e))) (sym (flat_piece_is ir e))
      (subst (λ x. PieceAlike (piece_by (flat_piece ir) ir (out-Flat e)) (plain_piece x)) (sym (number_of_is ir model e))
      (shape_alike d (within_alike d) (out-Flat e) (omega (arith, deep, size))))

  text_alike : (e : Flat) → Alike (flat_text ir e) (plain_number (number_of ir model e))
  text_alike e = (within_alike (size-Flat e) e (omega arith)).bare

  slot_alike : (slot : Slot) → Alike (slot_text ir slot) (plain_place (place_of ir model slot))
  slot_alike slot = slot_alike_by (size-Slot slot) (λ e less. within_alike (size-Flat e) e (omega arith)) slot (omega arith)

  -- what the limit of a whole instruction says of its statement
  set_within : (slot : Slot) (e : Flat) → nesting_of_instruction ir (instr.Set slot e) ≤ 256
      → nesting_from in_function (plain_place (place_of ir model slot) (mark equals ∷ plain_number (number_of ir model e) (mark semicolon ∷ []))) ≤ 256
  set_within slot e less =
      let same = alike_nests (slot_text ir slot (mark equals ∷ flat_text ir e (mark semicolon ∷ []))) (plain_place (place_of ir model slot) (mark equals ∷ plain_number (number_of ir model e) (mark semicolon ∷ [])))
      (slot_alike slot (mark equals ∷ flat_text ir e (mark semicolon ∷ [])) (mark equals ∷ plain_number (number_of ir model e) (mark semicolon ∷ [])) (ap (λ l. mark equals ∷ l) (text_alike e (mark semicolon ∷ []) (mark semicolon ∷ []) refl))) in_function in
      omega (arith, less, same)

  copy_within : (to from : Slot) → nesting_of_instruction ir (instr.Copy to from) ≤ 256
      → nesting_from in_function (plain_place (place_of ir model to) (mark equals ∷ plain_number (c.Read (place_of ir model from)) (mark semicolon ∷ []))) ≤ 256
  copy_within to from less =
      subst (λ (p : Piece). nesting_from in_function (plain_place (place_of ir model to) (mark equals ∷ p.bare (mark semicolon ∷ []))) ≤ 256) (sym (piece-Read (place_of ir model from)))
      (let same = alike_nests (slot_text ir to (mark equals ∷ slot_text ir from (mark semicolon ∷ []))) (plain_place (place_of ir model to) (mark equals ∷ plain_place (place_of ir model from) (mark semicolon ∷ [])))
      (slot_alike to (mark equals ∷ slot_text ir from (mark semicolon ∷ [])) (mark equals ∷ plain_place (place_of ir model from) (mark semicolon ∷ [])) (ap (λ l. mark equals ∷ l) (slot_alike from (mark semicolon ∷ []) (mark semicolon ∷ []) refl))) in_function in
      omega (arith, less, same))

  branch_within : (test : Test) (to : ℕ) → nesting_of_instruction ir (instr.Branch test to) ≤ 256
      → nesting_from (nest_at false 2 2 (in_function.level ∷ in_function.outward)) (plain_test (test_of ir model test) (mark close_round ∷ jump no_name [])) ≤ 256
  branch_within test to less =
      subst (λ (t : Text). nesting_from (nest_at false 2 2 (in_function.level ∷ in_function.outward)) (t (mark close_round ∷ jump no_name [])) ≤ 256)
      (sym (test-text (relation_of test.op) (number_of ir model test.left) (number_of ir model test.right)))
      (let same = alike_nests (flat_text ir test.left (relation (relation_of test.op) ∷ flat_text ir test.right (mark close_round ∷ jump no_name []))) (plain_number (number_of ir model test.left) (relation (relation_of test.op) ∷ plain_number (number_of ir model test.right) (mark close_round ∷ jump no_name [])))
      (text_alike test.left (relation (relation_of test.op) ∷ flat_text ir test.right (mark close_round ∷ jump no_name [])) (relation (relation_of test.op) ∷ plain_number (number_of ir model test.right) (mark close_round ∷ jump no_name [])) (ap (λ l. relation (relation_of test.op) ∷ l) (text_alike test.right (mark close_round ∷ jump no_name []) (mark close_round ∷ jump no_name []) refl))) (nest_at false 2 2 (in_function.level ∷ in_function.outward)) in
      let inner = nesting_behind outermost (mark open_brace ∷ keyword if_ ∷ mark open_round ∷ []) (flat_text ir test.left (relation (relation_of test.op) ∷ flat_text ir test.right (mark close_round ∷ jump no_name []))) 256 less in
      omega (arith, inner, same))

  -- what stands behind the number of a table
  behind_table : List Case → List Token
  behind_table cases =
      mark close_round ∷ mark open_brace ∷ each case_text cases (keyword default_ ∷ mark colon ∷ jump no_name (mark close_brace ∷ []))

  table_within : (e : Flat) (cases : List Case) (otherwise : ℕ) → nesting_of_instruction ir (instr.Table e cases otherwise) ≤ 256
      → nesting_from (nest_at false 2 2 (in_function.level ∷ in_function.outward)) (plain_number (number_of ir model e) (behind_table cases)) ≤ 256
  unfolding behind_table
  table_within e cases otherwise less =
      let same = alike_nests (flat_text ir e (behind_table cases)) (plain_number (number_of ir model e) (behind_table cases)) (text_alike e (behind_table cases) (behind_table cases) refl) (nest_at false 2 2 (in_function.level ∷ in_function.outward)) in
      let inner = nesting_behind outermost (mark open_brace ∷ keyword switch_ ∷ mark open_round ∷ []) (flat_text ir e (behind_table cases)) 256 less in
      omega (arith, inner, same)

  -- ---- instructions

  module _ (g : FlatFn) (labelled : is_labelled g ≡ true) (small : length g.code < 2 ^ 64) where
    label_named : (to : ℕ) → to < length g.code → IsToken (name (label_text g.labels to))
    label_named to less = label_is_name g to labelled (omega (arith, less, small))

    cases_go : (cases : List Case) → list_all (λ (x : Case). in_64_bits x.value && nat_lt x.to (length g.code)) cases ≡ true
        → Goes in_table (each plain_case (map (case_at g) cases)) in_table
    cases_go [] h = goes_none in_table
    cases_go (x ∷ cases) h =
        let here = left_of (in_64_bits x.value && nat_lt x.to (length g.code)) _ h in
        goes_on in_table in_table in_table (plain_case (case_at g x)) (each plain_case (map (case_at g) cases))
        (case_goes (case_at g x) (left_of (in_64_bits x.value) (nat_lt x.to (length g.code)) here) (label_named x.to (ltb-true x.to (length g.code) (right_of (in_64_bits x.value) (nat_lt x.to (length g.code)) here))))
        (cases_go cases (right_of (in_64_bits x.value && nat_lt x.to (length g.code)) _ h))

    instruction_goes : (earlier : ℕ) (i : Instr) → is_right model.types ir earlier (length g.code) i ≡ true
        → nesting_of_instruction ir i ≤ 256
        → Goes in_function (plain_statement (statement_at ir model g i)) in_function
    instruction_goes earlier (instr.Set slot e) right less =
        assign_goes (plain_place (place_of ir model slot)) (plain_number (number_of ir model e))
        (slot_deepens slot One (one_held (held_at model.types ir slot) (left_of (is_one (held_at model.types ir slot)) (is_number model.types ir e) right)))
        (number_text e (right_of (is_one (held_at model.types ir slot)) (is_number model.types ir e) right)) (set_within slot e less)
    instruction_goes earlier (instr.Copy to from) right less = by_held (held_at model.types ir to) (held_at model.types ir from) refl refl right
      where
        by_held : (o o' : Option Held) → held_at model.types ir to ≡ o → held_at model.types ir from ≡ o' → joins o o' ≡ true
            → Goes in_function (plain_statement (statement_at ir model g (instr.Copy to from))) in_function
        by_held None o' e e' q = absurd (false≢true q)
        by_held (Some x) None e e' q = absurd (false≢true q)
        by_held (Some x) (Some y) e e' q =
            assign_goes (plain_place (place_of ir model to)) (plain_number (c.Read (place_of ir model from)))
            (slot_deepens to x e) (subst (λ (p : Piece). Deepens p.bare) (sym (piece-Read (place_of ir model from))) (slot_deepens from y e')) (copy_within to from less)
    instruction_goes earlier (instr.Branch test to) right less =
        let numbers = left_of (is_number model.types ir test.left && is_number model.types ir test.right) (nat_lt to (length g.code)) right in
        if_goes (plain_test (test_of ir model test)) (label_at g to) (both_sides test numbers)
        (label_named to (ltb-true to (length g.code) (right_of (is_number model.types ir test.left && is_number model.types ir test.right) (nat_lt to (length g.code)) right)))
        (mark close_round ∷ jump no_name []) (branch_within test to less)
    instruction_goes earlier (instr.Goto to) right less =
        jump_goes in_function (label_at g to) (label_named to (ltb-true to (length g.code) right)) (omega arith) (omega arith)
    instruction_goes earlier (instr.Table e cases otherwise) right less =
        let are_cases = list_all (λ (x : Case). in_64_bits x.value && nat_lt x.to (length g.code)) cases in
        let differ = not (has_equal_cases cases) in
        let two = left_of (is_number model.types ir e && are_cases) differ (left_of ((is_number model.types ir e && are_cases) && differ) (nat_lt otherwise (length g.code)) right) in
        switch_goes (plain_number (number_of ir model e)) (map (case_at g) cases) (label_at g otherwise)
        (number_text e (left_of (is_number model.types ir e) are_cases two)) (cases_go cases (right_of (is_number model.types ir e) are_cases two))
        (label_named otherwise (ltb-true otherwise (length g.code) (right_of ((is_number model.types ir e && are_cases) && differ) (nat_lt otherwise (length g.code)) right)))
        (behind_table cases) (table_within e cases otherwise less)
    instruction_goes earlier (instr.Call k) right less = by_function (slice_get ir.functions k) refl
      where
        by_function : (o : Option FlatFn) → slice_get ir.functions k ≡ o → Goes in_function (plain_statement (calls_function o)) in_function
        by_function None e = return_goes
        by_function (Some h) e = call_goes h.name (function_named k h e)
    instruction_goes earlier (instr.Emit k) right less = by_event (slice_get ir.events k) refl
      where
        by_event : (o : Option Word) → slice_get ir.events k ≡ o → Goes in_function (plain_statement (calls_event o)) in_function
        by_event None e = return_goes
        by_event (Some w) e = call_goes w (event_named k w e)
    instruction_goes earlier instr.Back right less = return_goes

    -- ---- bodies

    instruction_text : (place : ℕ) (is_target : Bool) (i : Instr) → place < 2 ^ 64
        → Goes in_function (plain_statement (statement_at ir model g i)) in_function → (others : List CStmt)
        → Goes in_function (each plain_statement others) in_function
        → Goes in_function (each plain_statement ((label_before is_target g place ++ statement_at ir model g i ∷ []) ++ others)) in_function
    instruction_text place false i less h others more =
        goes_on in_function in_function in_function (plain_statement (statement_at ir model g i)) (each plain_statement others) h more
    instruction_text place true i less h others more =
        goes_on in_function in_function in_function (plain_statement (Label (label_at g place))) (each plain_statement (statement_at ir model g i ∷ others)) (label_goes (label_at g place) (label_is_name g place labelled less))
        (goes_on in_function in_function in_function (plain_statement (statement_at ir model g i)) (each plain_statement others) h more)

    body_goes : (marks : List Bool) (place : ℕ) (code : List Instr) → place + length code < 2 ^ 64
        → ((j : ℕ) (i : Instr) → slice_get code j ≡ Some i → Goes in_function (plain_statement (statement_at ir model g i)) in_function)
        → Goes in_function (each plain_statement (statements_from ir model g marks place code)) in_function
    body_goes marks place [] less h = goes_none in_function
    body_goes marks place (i ∷ code) less h =
        instruction_text place (is_marked marks place) i (omega (arith, less)) (h 0 i refl) (statements_from ir model g marks (place + 1) code)
        (body_goes marks (place + 1) code (omega (arith, less)) (λ j x e. h (suc j) x e))

-- ---- the program

head_goes : (w : Word) → IsToken (name w.bytes) → Goes outside (plain_head w) outside
head_goes w is =
    goes_on _ _ _ (λ rest. keyword void_ ∷ rest) (λ rest. name w.bytes ∷ mark open_round ∷ keyword void_ ∷ mark close_round ∷ rest) (goes_token (keyword void_) outside tt (omega arith))
    (goes_on _ _ _ (λ rest. name w.bytes ∷ rest) (λ rest. mark open_round ∷ keyword void_ ∷ mark close_round ∷ rest) (goes_token (name w.bytes) outside is (omega arith))
    (goes_on _ _ _ (λ rest. mark open_round ∷ rest) (λ rest. keyword void_ ∷ mark close_round ∷ rest) (goes_token (mark open_round) outside tt (omega arith))
    (goes_on _ _ _ (λ rest. keyword void_ ∷ rest) (λ rest. mark close_round ∷ rest) (goes_token (keyword void_) (nest_at false 1 1 (outside.level ∷ [])) tt (omega arith))
    (goes_token (mark close_round) (nest_at false 1 1 (outside.level ∷ [])) tt (omega arith)))))

event_goes : (w : Word) → IsToken (name w.bytes) → Goes outside (plain_event w) outside
event_goes w is = goes_on _ _ _ (plain_head w) (λ rest. mark semicolon ∷ rest) (head_goes w is) (goes_token (mark semicolon) outside tt (omega arith))

global_goes : (g : CGlobal) → IsNamed g.kind → IsToken (name g.name.bytes) → Goes outside (plain_global g) outside
global_goes g kind is =
    goes_on _ _ _ (plain_type g.kind) (λ rest. name g.name.bytes ∷ mark semicolon ∷ rest) (type_goes outside g.kind kind (omega arith))
    (goes_on _ _ _ (λ rest. name g.name.bytes ∷ rest) (λ rest. mark semicolon ∷ rest) (goes_token (name g.name.bytes) outside is (omega arith)) (goes_token (mark semicolon) outside tt (omega arith)))

function_goes : (w : Word) (body : List CStmt) → IsToken (name w.bytes) → Goes in_function (each plain_statement body) in_function
    → Goes outside (plain_function (record { name = w; body = body })) outside
function_goes w body is h =
    goes_on _ _ _ (plain_head w) (λ rest. mark open_brace ∷ each plain_statement body (mark close_brace ∷ rest)) (head_goes w is)
    (goes_on _ _ _ (λ rest. mark open_brace ∷ rest) (λ rest. each plain_statement body (mark close_brace ∷ rest)) (goes_token (mark open_brace) outside tt (omega arith))
    (goes_on _ _ _ (each plain_statement body) (λ rest. mark close_brace ∷ rest) h (goes_token (mark close_brace) in_function tt (omega arith))))

globals_go : (ir : Ir) (sorts : List Sort) (slots : List SlotDef) → list_all is_name (map (λ (x : SlotDef). x.name.bytes) slots) ≡ true
    → Goes outside (each plain_global (map (global_of (prefix_of ir) sorts) slots)) outside
globals_go ir sorts [] h = goes_none outside
globals_go ir sorts (x ∷ slots) h =
    goes_on outside outside outside (plain_global (global_of (prefix_of ir) sorts x)) (each plain_global (map (global_of (prefix_of ir) sorts) slots))
    (global_goes (global_of (prefix_of ir) sorts x) (held_named ir (held_in_slot sorts x.sort)) (left_of (is_name x.name.bytes) _ h)) (globals_go ir sorts slots (right_of (is_name x.name.bytes) _ h))

functions_go : (ir : Ir) (model : Model) (functions : List FlatFn)
    → ((k : ℕ) (g : FlatFn) → slice_get functions k ≡ Some g → Goes outside (plain_function (function_of ir model g)) outside)
    → Goes outside (each plain_function (map (function_of ir model) functions)) outside
functions_go ir model [] h = goes_none outside
functions_go ir model (g ∷ functions) h =
    goes_on outside outside outside (plain_function (function_of ir model g)) (each plain_function (map (function_of ir model) functions)) (h 0 g refl) (functions_go ir model functions (λ k x e. h (suc k) x e))

pub text_right : (ir : Ir) (model : Model) → Fair ir model → AreFew model.types → AreShort ir.functions
    → Right outermost (plain_tokens (program_of ir model))
text_right ir model fair few short =
    (structs_right ir model fair).goes.by (each plain_global (program_of ir model).globals (each plain_event (program_of ir model).events (each plain_function (program_of ir model).functions [])))
    ((globals_go ir model.types ir.slots (slots_named ir model fair few)).by (each plain_event (program_of ir model).events (each plain_function (program_of ir model).functions []))
    (events_go.by (each plain_function (program_of ir model).functions [])
    ((functions_go ir model ir.functions one_function).by [] (record { are = tt; within = omega arith }))))
  where
    events_go : Goes outside (each plain_event (program_of ir model).events) outside
    events_go = goes_each outside plain_event (program_of ir model).events (λ j w e.
        event_goes w (all_named (flat_event_names ir) w.bytes (events_named ir model fair few)
        (event_is_flat ir model fair w.bytes (is_in_at (event_names (program_of ir model)) j w.bytes (get_map (λ (x : Word). x.bytes) (program_of ir model).events j ∙ ap (option_map (λ (x : Word). x.bytes)) e)))))

    one_function : (k : ℕ) (g : FlatFn) → slice_get ir.functions k ≡ Some g → Goes outside (plain_function (function_of ir model g)) outside
    one_function k g e =
        let labelled = all_at is_labelled ir.functions k g fair.labels e in
        let small = short_at ir.functions k g short e in
        function_goes g.name (body_of ir model g) (function_named ir model fair few k g e)
        (body_goes ir model fair few g labelled small (targets g.code) 0 g.code (omega (arith, small)) (λ j i e'.
        instruction_goes ir model fair few g labelled small (0 + k) i
        (all_at (is_right model.types ir (0 + k) (length g.code)) g.code j i (right_at model.types ir 0 ir.functions k g fair.right e) e')
        (leb-true (nesting_of_instruction ir i) 256 (all_at (λ (x : Instr). nat_le (nesting_of_instruction ir x) 256) g.code j i (all_at (is_shallow ir) ir.functions k g fair.shallow e) e'))))

pub well_made : (ir : Ir) (model : Model) → Fair ir model → AreFew model.types → AreShort ir.functions → IsWellMade (program_of ir model)
well_made ir model fair few short = record { members = (structs_right ir model fair).members; tokens = (text_right ir model fair few short).are }

pub nests_within : (ir : Ir) (model : Model) → Fair ir model → AreFew model.types → AreShort ir.functions
    → nesting (plain_tokens (program_of ir model)) ≤ 256
nests_within ir model fair few short = (text_right ir model fair few short).within
