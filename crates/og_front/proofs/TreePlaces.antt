-- The names and places of a tree whose forms are such as stand in a text.
use Rattle.std.proofs.Common.{◌≡◌, true, List, [], ◌∷◌, subst, IsTrue}
use Rattle.std.specs.List.{AllByRecursion, flat_map}
use Rattle.og_model.specs.WellSorted.{is_place}
use Rattle.og_front.specs.declared.syntax.Ident.{Ident}
use Rattle.og_front.specs.declared.syntax.InputText.{InputText}
use Rattle.og_front.specs.declared.syntax.StateText.{StateText}
use Rattle.og_front.specs.declared.syntax.SystemText.{SystemText}
use Rattle.og_front.specs.Grammar.{Form, Reserved, ReservedAt, Sign, Named, Last, next_forms, output_forms, input_forms, state_forms, signal_forms, closing_forms, system_forms}
use Rattle.og_lexer.specs.declared.Keyword.TheVariants as keyword
use Rattle.og_lexer.specs.declared.Mark.TheVariants.{Semicolon}
use Rattle.og_front.specs.ModelOf.{Transition, transitions_in, transitions}
use Rattle.og_front.specs.Names.{all_names}
use Rattle.og_front.specs.Written.{IsWrittenName, IsWrittenForm, IsWrittenTree}
use Rattle.og_front.proofs.ShortNames.{named, named_system, rest_forms}
use Rattle.og_front.proofs.Elements.{each_both, each_map, each_more, pieces_each, front_of, back_of}

written_named : (forms : List Form) → AllByRecursion IsWrittenForm forms → AllByRecursion IsWrittenName (named forms)
written_named [] all = tt
written_named (Reserved word ∷ forms) all = written_named forms all.1
written_named (ReservedAt word place ∷ forms) all = written_named forms all.1
written_named (Sign mark ∷ forms) all = written_named forms all.1
written_named (Named name ∷ forms) all = (all.0, written_named forms all.1)
written_named (Last ∷ forms) all = written_named forms all.1

pub written_names : (system : SystemText) → IsWrittenTree system → AllByRecursion IsWrittenName (all_names system)
written_names system written = subst (AllByRecursion IsWrittenName) (named_system system) (written_named (system_forms system) written.each)

-- the places of a transition
pub record IsPlaced (t : Transition) : Type 0 where
  pub body : IsTrue (is_place t.input.place)
  pub signal : IsTrue (is_place t.input.signal.place)
  pub outputs : AllByRecursion (λ (name : Ident). is_place name.place ≡ true) t.input.outputs
  pub next : IsTrue (is_place t.input.next.place)

placed_input : (state : Ident) (input : InputText) → AllByRecursion IsWrittenForm (input_forms input) → IsPlaced (record { state = state; input = input })
placed_input state input all = record {
  body = all.0;
  signal = all.1.0.place;
  outputs = outputs_of input.outputs (front_of IsWrittenForm (flat_map output_forms input.outputs) (next_forms input.next) all.1.1.1);
  next = (back_of IsWrittenForm (flat_map output_forms input.outputs) (next_forms input.next) all.1.1.1).0;
}
  where
    outputs_of : (names : List Ident) → AllByRecursion IsWrittenForm (flat_map output_forms names) → AllByRecursion (λ (name : Ident). is_place name.place ≡ true) names
    outputs_of [] h = tt
    outputs_of (name ∷ names) h = (h.1.0.place, outputs_of names h.1.1.1)

placed_states : (states : List StateText) → AllByRecursion IsWrittenForm (flat_map state_forms states) → AllByRecursion IsPlaced (flat_map transitions_in states)
placed_states [] all = tt
placed_states (s ∷ ss) all =
    let here = front_of IsWrittenForm (state_forms s) (flat_map state_forms ss) all in
    let inputs = front_of IsWrittenForm (flat_map input_forms s.inputs) (Reserved keyword.Endstate ∷ Sign Semicolon ∷ []) here.1.1.1 in
    each_both IsPlaced (transitions_in s) (flat_map transitions_in ss)
    (each_map (λ (input : InputText). record { state = s.name; input = input }) IsPlaced s.inputs
    (each_more (λ input. AllByRecursion IsWrittenForm (input_forms input)) (λ input. IsPlaced (record { state = s.name; input = input })) s.inputs (placed_input s.name)
    (pieces_each IsWrittenForm input_forms s.inputs inputs)))
    (placed_states ss (back_of IsWrittenForm (state_forms s) (flat_map state_forms ss) all))

-- all places of a tree but those of names
pub record HasPlaces (system : SystemText) : Type 0 where
  pub start : IsTrue (is_place system.start.place)
  pub next : IsTrue (is_place system.start.next.place)
  pub transitions : AllByRecursion IsPlaced (transitions system)

pub has_places : (system : SystemText) → IsWrittenTree system → HasPlaces system
has_places system written =
    let rest = back_of IsWrittenForm (flat_map signal_forms system.signals) (rest_forms system) written.each.1.1.1 in
    let start = rest.1.1.1.1.1.1 in
    record {
      start = start.0;
      next = start.1.1.0;
      transitions = placed_states system.states (front_of IsWrittenForm (flat_map state_forms system.states) closing_forms start.1.1.1.1.1);
    }
