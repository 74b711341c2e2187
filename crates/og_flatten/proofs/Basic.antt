-- What a well-formed model of basic states is made of: bodies that send signals and then enter a state, states with inputs
-- alone, and one start.
use Rattle.std.proofs.Common.{◌≡◌, ℕ, zero, suc, ◌<◌, Bool, true, nat_lt, nat_eq, is_none, List, [], ◌∷◌, length, slice_get, Option, Some, None, refl, ap, subst, ◌∙◌, arith}
use Rattle.std.specs.List.{list_all}
use Rattle.std.proofs.lemmas.Bool.{false≢true, ltb-true}
use Rattle.std.proofs.lemmas.Bool.Decides.{nat_tests}
use Rattle.std.proofs.lemmas.Option.{none-some}
use Rattle.og_types.specs.declared.TypeId.{TypeId}
use Rattle.og_types.specs.Table.{is_empty}
use Rattle.og_model.specs.declared.Signal.{Signal}
use Rattle.og_model.specs.declared.Branch.{Branch}
use Rattle.og_model.specs.declared.Block.{Block, size-Block}
use Rattle.og_model.specs.declared.Step.{Step}
use Rattle.og_model.specs.declared.Action.{Action, Action-F, out-Action}
use Rattle.og_model.specs.declared.Action.TheOpen as Actions
use Rattle.og_model.specs.declared.Ending.{Ending}
use Rattle.og_model.specs.declared.EndKind.{EndKind}
use Rattle.og_model.specs.declared.EndKind.TheVariants as Ends
use Rattle.og_model.specs.declared.Body.{Body}
use Rattle.og_model.specs.declared.Handler.{Handler}
use Rattle.og_model.specs.declared.Start.{Start}
use Rattle.og_model.specs.declared.StateDef.{StateDef}
use Rattle.og_model.specs.declared.StateKind.{out-StateKind}
use Rattle.og_model.specs.declared.StateKind.TheOpen as Kinds
use Rattle.og_model.specs.declared.Scope.{Scope, size-Scope}
use Rattle.og_model.specs.declared.Model.{Model}
use Rattle.og_model.specs.Configuration.{Kind}
use Rattle.og_model.specs.Forms.{UsesBasicStatesOnly, is_output, is_plain_step, is_next, is_plain_ending, is_plain_body, is_plain_trigger, is_basic, is_plain_state, is_one_start}
use Rattle.og_model.specs.Resolved.{IsResolved, Surroundings, in_states, is_signal, if_any, is_known, is_action, is_step, is_end, is_ending, is_block_within, is_body, is_handler, is_state, is_start, is_level, is_scope_within}
use Rattle.og_model.specs.Rules.{states_differ, are_plain_labels, parameters_of, sends_all_in_action, sends_all_within, sends_all, keeps_in_state, keeps_within}
use Rattle.og_model.specs.WellSorted.{is_place}
use Rattle.og_model.specs.WellFormed.{IsWellFormed}
use Rattle.og_csubset.specs.Interface as interface
use Rattle.og_flatten.specs.FlatCode.{bodies_of, states_of, starts_of, steps_of, end_of}
use Rattle.og_names.proofs.Truths.{both_first as left_of, both_second as right_of}

-- what holds of each element holds of the one at a place
pub every : {A : Type 0} (p : A → Bool) (xs : List A) (k : ℕ) (x : A) → list_all p xs ≡ true → slice_get xs k ≡ Some x → p x ≡ true
every p [] k x all at = absurd (none-some x at)
every p (y ∷ ys) zero x all at = subst (λ z. p z ≡ true) (is_it at) (left_of (p y) (list_all p ys) all)
  where
    is_it : Some y ≡ Some x → y ≡ x
    is_it e = search
every p (y ∷ ys) (suc k) x all at = every p ys k x (right_of (p y) (list_all p ys) all) at

-- ---- one level of the checks

record Level (M : Model) : Type 0 where
  pub inner : Scope → Bool
  pub holds : is_level M inner (starts_of M) (states_of M) (bodies_of M) ≡ true

level_by : (depth : ℕ) (M : Model) → is_scope_within depth M M.root ≡ true → Level M
level_by zero M h = absurd (false≢true h)
level_by (suc depth) M h = record { inner = is_scope_within depth M; holds = h }

level : (M : Model) → IsResolved M → Level M
level M resolved = level_by (size-Scope M.root) M resolved.states

level_starts : (M : Model) (l : Level M) → list_all (is_start M (length (bodies_of M))) (starts_of M) ≡ true
level_starts M l = left_of (list_all (is_start M (length (bodies_of M))) (starts_of M)) _ l.holds

level_states : (M : Model) (l : Level M) → list_all (is_state M (in_states (states_of M)) (length (bodies_of M)) l.inner) (states_of M) ≡ true
level_states M l = left_of (list_all (is_state M (in_states (states_of M)) (length (bodies_of M)) l.inner) (states_of M)) _ (right_of (list_all (is_start M (length (bodies_of M))) (starts_of M)) _ l.holds)

level_bodies : (M : Model) (l : Level M) → list_all (is_body M (in_states (states_of M))) (bodies_of M) ≡ true
level_bodies M l = right_of (list_all (is_state M (in_states (states_of M)) (length (bodies_of M)) l.inner) (states_of M)) _ (right_of (list_all (is_start M (length (bodies_of M))) (starts_of M)) _ l.holds)

-- ---- bodies

-- an output of a signal that is there, without values, and so without parameters
pub record StepIs (M : Model) (x : Step) : Type 0 where
  pub signal : ℕ
  pub is : out-Action x.action ≡ Actions.Output signal []
  pub there : signal < length M.signals
  pub silent : interface.signal_sorts M signal ≡ []

abbrev pub StepsAre : Model → List Step → Type 0
StepsAre M [] = Unit {0}
StepsAre M (x ∷ xs) = StepIs M x × StepsAre M xs

-- outputs, and then NEXTSTATE with a state that is there
pub record BodyIs (M : Model) (b : Body) : Type 0 where
  pub steps : StepsAre M (steps_of b)
  pub ending : Ending
  pub ends : end_of b ≡ Some ending
  pub state : ℕ
  pub next : ending.kind ≡ Ends.Next state None
  pub there : state < length (states_of M)

pub empty_is : {A : Type 0} (xs : List A) → is_empty xs ≡ true → xs ≡ []
empty_is [] h = refl
empty_is (x ∷ xs) h = absurd (false≢true h)

none_is : {A : Type 0} (o : Option A) → is_none o ≡ true → o ≡ None
none_is None h = refl
none_is (Some x) h = absurd (false≢true h)

same_from : (m n : ℕ) → nat_eq m n ≡ true → m ≡ n
same_from m n h = grind (arith, nat_tests)

-- as many parameters as there are values
no_parameters : {A : Type 0} (vs : List A) (o : Option Signal) → is_empty vs ≡ true → nat_eq (length vs) (parameters_of o) ≡ true → interface.sorts_of o ≡ []
no_parameters [] None out sends = refl
no_parameters [] (Some s) out sends = by s.sorts sends
  where
    by : (sorts : List TypeId) → nat_eq 0 (length sorts) ≡ true → sorts ≡ []
    by [] same = refl
    by (t ∷ sorts) same = let none = same_from 0 (length (t ∷ sorts)) same in absurd (omega (arith, none))
no_parameters (v ∷ vs) o out sends = absurd (false≢true out)

step_by : (M : Model) (w : Surroundings) (inner sends : Block → Bool) (x : Step) (action : Action-F Action Block Branch Step) → out-Action x.action ≡ action → is_output action ≡ true → is_action M w inner action ≡ true → sends_all_in_action M sends action ≡ true → StepIs M x
step_by M w inner sends x (Actions.Output k vs) e out known all = record {
  signal = k;
  is = e ∙ ap (Actions.Output k) (empty_is vs out);
  there = ltb-true k (length M.signals) (left_of (is_signal M k) _ known);
  silent = no_parameters vs (slice_get M.signals k) out all;
}
step_by M w inner sends x Actions.Nothing e out known all = absurd (false≢true out)
step_by M w inner sends x (Actions.Assign target value) e out known all = absurd (false≢true out)
step_by M w inner sends x (Actions.SetTimer t d) e out known all = absurd (false≢true out)
step_by M w inner sends x (Actions.ResetTimer t) e out known all = absurd (false≢true out)
step_by M w inner sends x (Actions.Append target value) e out known all = absurd (false≢true out)
step_by M w inner sends x (Actions.Call p args r) e out known all = absurd (false≢true out)
step_by M w inner sends x (Actions.Decide q branches other) e out known all = absurd (false≢true out)

steps_by : (M : Model) (w : Surroundings) (inner sends : Block → Bool) (xs : List Step) → list_all is_plain_step xs ≡ true → list_all (is_step M w inner) xs ≡ true → list_all (λ (x : Step). sends_all_in_action M sends (out-Action x.action)) xs ≡ true → StepsAre M xs
steps_by M w inner sends [] plain known all = tt
steps_by M w inner sends (x ∷ xs) plain known all =
    let p = left_of (is_plain_step x) (list_all is_plain_step xs) plain in
    let q = left_of (is_step M w inner x) (list_all (is_step M w inner) xs) known in (
      step_by M w inner sends x (out-Action x.action) refl (right_of (is_none x.label) _ p)
          (right_of (is_place x.place) _ (right_of (if_any (is_known M) x.label) _ q)) (left_of _ _ all),
      steps_by M w inner sends xs (right_of (is_plain_step x) _ plain) (right_of (is_step M w inner x) _ known) (right_of _ _ all),
    )

record EndIs (M : Model) (states : List StateDef) (o : Option Ending) : Type 0 where
  pub ending : Ending
  pub ends : o ≡ Some ending
  pub state : ℕ
  pub next : ending.kind ≡ Ends.Next state None
  pub there : state < length states

kind_by : (M : Model) (states : List StateDef) (o : Option Ending) (e : Ending) (kind : EndKind) → o ≡ Some e → e.kind ≡ kind → is_next kind ≡ true → is_end M (in_states states) kind ≡ true → EndIs M states o
kind_by M states o e (Ends.Next k entry) is same plain known = record {
  ending = e;
  ends = is;
  state = k;
  next = same ∙ ap (Ends.Next k) (none_is entry plain);
  there = ltb-true k (length states) (left_of (nat_lt k (length states)) _ known);
}
kind_by M states o e Ends.Dash is same plain known = absurd (false≢true plain)
kind_by M states o e (Ends.Join l) is same plain known = absurd (false≢true plain)
kind_by M states o e (Ends.Return exit r) is same plain known = absurd (false≢true plain)
kind_by M states o e Ends.Stop is same plain known = absurd (false≢true plain)

end_by : (M : Model) (states : List StateDef) (o : Option Ending) → is_plain_ending o ≡ true → if_any (is_ending M (in_states states)) o ≡ true → EndIs M states o
end_by M states None plain known = absurd (false≢true plain)
end_by M states (Some e) plain known =
    kind_by M states (Some e) e e.kind refl refl (right_of (is_none e.label) _ plain)
    (right_of (is_place e.place) _ (right_of (if_any (is_known M) e.label) _ known))

body_by : (depth : ℕ) (M : Model) (b : Body) → is_plain_body b ≡ true → is_block_within depth M (in_states (states_of M)) b.block ≡ true → sends_all_within depth M b.block ≡ true → BodyIs M b
body_by zero M b plain known all = absurd (false≢true known)
body_by (suc depth) M b plain known all =
    let w = in_states (states_of M) in
    let inner = is_block_within depth M w in
    let parts = right_of (is_none b.label) _ plain in
    let end = end_by M (states_of M) (end_of b) (right_of (list_all is_plain_step (steps_of b)) _ parts) (right_of (list_all (is_step M w inner) (steps_of b)) _ known) in
    record {
      steps = steps_by M w inner (sends_all_within depth M) (steps_of b) (left_of (list_all is_plain_step (steps_of b)) _ parts) (left_of (list_all (is_step M w inner) (steps_of b)) _ known) all;
      ending = end.ending;
      ends = end.ends;
      state = end.state;
      next = end.next;
      there = end.there;
    }

-- each body sends as many values as its signals have parameters
bodies_send : (depth : ℕ) (M : Model) → keeps_within depth M M.root ≡ true → list_all (sends_all M) (bodies_of M) ≡ true
bodies_send zero M keeps = absurd (false≢true keeps)
bodies_send (suc depth) M keeps =
    right_of (list_all (are_plain_labels M) (bodies_of M)) _
    (right_of (list_all (keeps_in_state M (keeps_within depth M)) (states_of M)) _ (right_of (states_differ (states_of M)) _ keeps))

pub body_is : (M : Model) → IsWellFormed M → UsesBasicStatesOnly M → (k : ℕ) (b : Body) → slice_get (bodies_of M) k ≡ Some b → BodyIs M b
body_is M formed basic k b at =
    let known = every (is_body M (in_states (states_of M))) (bodies_of M) k b (level_bodies M (level M formed.resolved)) at in
    body_by (size-Block b.block) M b (every is_plain_body (bodies_of M) k b basic.bodies at)
    (right_of (if_any (is_known M) b.label) _ (right_of (is_place b.place) _ known))
    (every (sends_all M) (bodies_of M) k b (bodies_send (size-Scope M.root) M formed.rules.scopes) at)

-- ---- states

-- a basic state, whose handlers are inputs without variables and name bodies that are there
pub record StateIs (M : Model) (d : StateDef) : Type 0 where
  pub kind : out-StateKind d.kind ≡ Kinds.Basic
  pub inputs : list_all (λ (h : Handler). is_plain_trigger h.trigger) d.handlers ≡ true
  pub bodies : list_all (is_handler M (in_states (states_of M)) (length (bodies_of M))) d.handlers ≡ true

basic_is : (kind : Kind) → is_basic kind ≡ true → kind ≡ Kinds.Basic
basic_is Kinds.Basic h = refl
basic_is (Kinds.Composite entry exit inner) h = absurd (false≢true h)
basic_is (Kinds.Aggregation entry exit ps) h = absurd (false≢true h)

pub state_is : (M : Model) → IsWellFormed M → UsesBasicStatesOnly M → (k : ℕ) (d : StateDef) → slice_get (states_of M) k ≡ Some d → StateIs M d
state_is M formed basic k d at =
    let l = level M formed.resolved in
    let known = every (is_state M (in_states (states_of M)) (length (bodies_of M)) l.inner) (states_of M) k d (level_states M l) at in
    let plain = every is_plain_state (states_of M) k d basic.states at in
    record {
      kind = basic_is (out-StateKind d.kind) (left_of (is_basic (out-StateKind d.kind)) _ plain);
      inputs = right_of (is_basic (out-StateKind d.kind)) _ plain;
      bodies = left_of (list_all (is_handler M (in_states (states_of M)) (length (bodies_of M))) d.handlers) _
          (right_of (is_place d.place) _ (right_of (is_known M d.name) _ known));
    }

-- ---- the start

pub record StartIs (M : Model) : Type 0 where
  pub start : Start
  pub is : starts_of M ≡ start ∷ []
  pub unnamed : start.entry ≡ None
  pub there : start.body < length (bodies_of M)

start_by : (M : Model) (starts : List Start) → starts_of M ≡ starts → is_one_start starts ≡ true → list_all (is_start M (length (bodies_of M))) starts ≡ true → StartIs M
start_by M [] e one known = absurd (false≢true one)
start_by M (x ∷ []) e one known = record {
  start = x;
  is = e;
  unnamed = none_is x.entry one;
  there = ltb-true x.body (length (bodies_of M)) (right_of (if_any (is_known M) x.entry) _ (left_of (is_start M (length (bodies_of M)) x) _ known));
}
start_by M (x ∷ y ∷ more) e one known = absurd (false≢true one)

pub start_is : (M : Model) → IsWellFormed M → UsesBasicStatesOnly M → StartIs M
start_is M formed basic = start_by M (starts_of M) refl basic.start (level_starts M (level M formed.resolved))
