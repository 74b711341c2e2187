-- What more units change of what is done: nothing where it did not run out of units, and else it shows the same events and
-- maybe more. Two doings are tied, up to a fuel for each, where this holds between them and the first never has more units
-- after it than before. Each way of putting doings together keeps this, and so each part of a model's meaning has it.
use Rattle.std.proofs.Common.{◌≡◌, ℕ, zero, suc, ◌+◌, ◌≤◌, List, [], ◌∷◌, ◌++◌, Result, Ok, Err, refl, sym, ap, ◌∙◌, subst, append_assoc, le_refl, le_trans, arith}
use Rattle.og_base.specs.declared.Place.{Place}
use Rattle.og_model.specs.declared.FaultKind.{FaultKind}
use Rattle.og_model.specs.Expressions.{Store}
use Rattle.og_model.specs.Shown.{Event}
use Rattle.og_model.proofs.Pasts.{StartsWith}
use Rattle.og_model.specs.Units.{State, Outcome, Done, Stop, Fault, Out, Ran, Doing, ends, runs_out, after_events, showing, go_on, then_do, spend, or_fault, storing}

-- with k units more
abbrev pub ExtendsBy : {A : Type 0} → Outcome A → List Event → State → ℕ → ℕ → Ran A → Type 0
ExtendsBy (Done a) es s left k r' = r' ≡ record { events = es; state = s; left = left + k; outcome = Done a }
ExtendsBy Stop es s left k r' = r' ≡ record { events = es; state = s; left = left + k; outcome = Stop }
ExtendsBy (Fault kind place) es s left k r' = r' ≡ record { events = es; state = s; left = left + k; outcome = Fault kind place }
ExtendsBy Out es s left k r' = StartsWith r'.events es × (k ≡ 0 → r' ≡ record { events = es; state = s; left = left; outcome = Out })

abbrev pub Extends : {A : Type 0} → ℕ → Ran A → Ran A → Type 0
Extends k r r' = ExtendsBy r.outcome r.events r.state r.left k r'

pub record Tied {A : Type 0} (f g : ℕ) (d d' : Doing A) : Type 0 where
  pub falls : (n : ℕ) (s : State) → (d n s).left ≤ n
  pub extends : (n k n' : ℕ) (s : State) → n' ≡ n + k → n ≤ f → n' ≤ g → Extends k (d n s) (d' n' s)

-- ---- at once

no_more : (n k n' : ℕ) → n' ≡ n + k → k ≡ 0 → n' ≡ n
no_more n k n' e z = omega (arith, e, z)

pub ends_extend : {A : Type 0} (o : Outcome A) (n k n' : ℕ) (s : State) → n' ≡ n + k → Extends k (ends o n s) (ends o n' s)
ends_extend (Done a) n k n' s e = λ i. record { events = []; state = s; left = e i; outcome = Done a }
ends_extend Stop n k n' s e = λ i. record { events = []; state = s; left = e i; outcome = Stop }
ends_extend (Fault kind place) n k n' s e = λ i. record { events = []; state = s; left = e i; outcome = Fault kind place }
ends_extend Out n k n' s e = (([], refl), λ z. (λ i. record { events = []; state = s; left = no_more n k n' e z i; outcome = Out }))

pub ends_tied : {A : Type 0} {f g : ℕ} (o : Outcome A) → Tied f g (ends o) (ends o)
ends_tied o = record { falls = λ n s. le_refl n; extends = λ n k n' s e p q. ends_extend o n k n' s e }

-- ---- events before

after_extend : {A : Type 0} (es : List Event) (o : Outcome A) (fs : List Event) (s : State) (left k : ℕ) (r' : Ran A)
    → ExtendsBy o fs s left k r' → ExtendsBy o (es ++ fs) s left k (after_events es r')
after_extend es (Done a) fs s left k r' e = ap (after_events es) e
after_extend es Stop fs s left k r' e = ap (after_events es) e
after_extend es (Fault kind place) fs s left k r' e = ap (after_events es) e
after_extend es Out fs s left k r' e =
    ((e.0.0, ap (λ (x : List Event). es ++ x) e.0.1 ∙ sym (append_assoc es fs e.0.0)), λ z. ap (after_events es) (e.1 z))

pub showing_tied : {A : Type 0} {f g : ℕ} {d d' : Doing A} (e : Event) → Tied f g d d' → Tied f g (showing e d) (showing e d')
showing_tied {d = d} {d' = d'} e t = record {
  falls = t.falls;
  extends = λ n k n' s x p q.
      after_extend (e ∷ []) (d n s).outcome (d n s).events (d n s).state (d n s).left k (d' n' s) (t.extends n k n' s x p q);
}

-- ---- one after the other

starts_go_on : {A B : Type 0} (o : Outcome A) (fs : List Event) (left : ℕ) (s : State) (next : A → Doing B) (es : List Event)
    → StartsWith fs es → StartsWith (go_on o fs left s next).events es
starts_go_on (Done a) fs left s next es e = (
  e.0 ++ (next a left s).events,
  ap (λ (x : List Event). x ++ (next a left s).events) e.1 ∙ append_assoc es e.0 (next a left s).events,
)
starts_go_on Stop fs left s next es e = e
starts_go_on (Fault kind place) fs left s next es e = e
starts_go_on Out fs left s next es e = e

abbrev goes : {A B : Type 0} → (A → Doing B) → Ran A → Ran B
goes next r = go_on r.outcome r.events r.left r.state next

go_on_extend : {A B : Type 0} (next next' : A → Doing B) (k : ℕ) (o : Outcome A) (es : List Event) (s : State) (left : ℕ) (r' : Ran A)
    → ExtendsBy o es s left k r' → ((a : A) → Extends k (next a left s) (next' a (left + k) s))
    → Extends k (go_on o es left s next) (goes next' r')
go_on_extend next next' k (Done a) es s left r' e inner =
    subst (λ (r : Ran _). Extends k (after_events es (next a left s)) (goes next' r)) (sym e)
    (after_extend es (next a left s).outcome (next a left s).events (next a left s).state (next a left s).left k
    (next' a (left + k) s) (inner a))
go_on_extend next next' k Stop es s left r' e inner = ap (goes next') e
go_on_extend next next' k (Fault kind place) es s left r' e inner = ap (goes next') e
go_on_extend next next' k Out es s left r' e inner =
    (starts_go_on r'.outcome r'.events r'.left r'.state next' es e.0, λ z. ap (goes next') (e.1 z))

go_on_falls : {A B : Type 0} (next : A → Doing B) (n : ℕ) (o : Outcome A) (es : List Event) (s : State) (left : ℕ)
    → left ≤ n → ((a : A) → (next a left s).left ≤ left) → (go_on o es left s next).left ≤ n
go_on_falls next n (Done a) es s left p inner = le_trans (inner a) p
go_on_falls next n Stop es s left p inner = p
go_on_falls next n (Fault kind place) es s left p inner = p
go_on_falls next n Out es s left p inner = p

within : (left n k n' g : ℕ) → left ≤ n → n' ≡ n + k → n' ≤ g → left + k ≤ g
within left n k n' g p e q = omega (arith, p, e, q)

pub then_do_tied : {A B : Type 0} {f g : ℕ} {d d' : Doing A} {next next' : A → Doing B}
    → Tied f g d d' → ((a : A) → Tied f g (next a) (next' a)) → Tied f g (then_do d next) (then_do d' next')
then_do_tied {g = g} {d = d} {d' = d'} {next = next} {next' = next'} t u = record {
  falls = λ n s.
      go_on_falls next n (d n s).outcome (d n s).events (d n s).state (d n s).left (t.falls n s)
      (λ a. (u a).falls (d n s).left (d n s).state);
  extends = λ n k n' s e p q.
      go_on_extend next next' k (d n s).outcome (d n s).events (d n s).state (d n s).left (d' n' s) (t.extends n k n' s e p q)
      (λ a. (u a).extends (d n s).left k ((d n s).left + k) (d n s).state refl (le_trans (t.falls n s) p)
      (within (d n s).left n k n' g (t.falls n s) e q));
}

-- ---- a unit before

spent_none : {A : Type 0} (d : Doing A) (k n' : ℕ) (s : State) → n' ≡ 0 + k → k ≡ 0 → spend d n' s ≡ record { events = []; state = s; left = 0; outcome = Out }
spent_none d k n' s e z = subst (λ (n : ℕ). spend d n s ≡ record { events = []; state = s; left = 0; outcome = Out }) (sym (no_more 0 k n' e z)) refl

-- without a unit the first has shown nothing yet
none_extend : {A : Type 0} (d d' : Doing A) (k n' : ℕ) (s : State) → n' ≡ 0 + k → Extends k (spend d 0 s) (spend d' n' s)
none_extend d d' k n' s e = (((spend d' n' s).events, refl), spent_none d' k n' s e)

spend_falls : {A : Type 0} (d : Doing A) → ((n : ℕ) (s : State) → (d n s).left ≤ n) → (n : ℕ) (s : State) → (spend d n s).left ≤ n
spend_falls d t zero s = le_refl 0
spend_falls d t (suc n) s = let p = t n s in omega (arith, p)

spend_extend : {A : Type 0} {f g : ℕ} {d d' : Doing A} → Tied f g d d' → (n k n' : ℕ) (s : State) → n' ≡ n + k → n ≤ suc f → n' ≤ suc g → Extends k (spend d n s) (spend d' n' s)
spend_extend {d = d} {d' = d'} t zero k n' s e p q = none_extend d d' k n' s e
spend_extend t (suc n) k zero s e p q = absurd (omega (arith, e))
spend_extend t (suc n) k (suc n') s e p q = t.extends n k n' s (omega (arith, e)) (omega (arith, p)) (omega (arith, q))

pub spend_tied : {A : Type 0} {f g : ℕ} {d d' : Doing A} → Tied f g d d' → Tied (suc f) (suc g) (spend d) (spend d')
spend_tied {d = d} t = record { falls = spend_falls d t.falls; extends = spend_extend t }

-- ---- with a result, another store, other timers, by the state that is there

pub or_fault_tied : {A B : Type 0} {f g : ℕ} {next next' : A → Doing B} (place : Place) (r : Result A FaultKind)
    → ((a : A) → Tied f g (next a) (next' a)) → Tied f g (or_fault place r next) (or_fault place r next')
or_fault_tied place (Ok a) t = t a
or_fault_tied place (Err kind) t = ends_tied (Fault kind place)

pub moved_tied : {A : Type 0} {f g : ℕ} {d d' : Doing A} (h : State → State) → Tied f g d d' → Tied f g (λ n s. d n (h s)) (λ n s. d' n (h s))
moved_tied h t = record { falls = λ n s. t.falls n (h s); extends = λ n k n' s. t.extends n k n' (h s) }

pub storing_tied : {A : Type 0} {f g : ℕ} {d d' : Doing A} (store : Store) → Tied f g d d' → Tied f g (storing store d) (storing store d')
storing_tied store t = moved_tied (λ (s : State). record s { store = store }) t

pub reading_tied : {A : Type 0} {f g : ℕ} {h h' : State → Doing A} → ((s : State) → Tied f g (h s) (h' s))
    → Tied f g (λ n s. h s n s) (λ n s. h' s n s)
reading_tied t = record { falls = λ n s. (t s).falls n s; extends = λ n k n' s. (t s).extends n k n' s }

-- up to less fuel
pub lower_tied : {A : Type 0} {f g : ℕ} {d d' : Doing A} (f' g' : ℕ) → f' ≤ f → g' ≤ g → Tied f g d d' → Tied f' g' d d'
lower_tied f' g' p q t = record { falls = t.falls; extends = λ n k n' s e x y. t.extends n k n' s e (le_trans x p) (le_trans y q) }

-- what takes its fuel from the units that are there
pub now_tied : {A : Type 0} {f g : ℕ} (by : ℕ → Doing A) → ((x y : ℕ) → Tied x y (by x) (by y)) → Tied f g (λ n s. by n n s) (λ n s. by n n s)
now_tied by t = record {
  falls = λ n s. (t n n).falls n s;
  extends = λ n k n' s e p q. (t n n').extends n k n' s e (le_refl n) (le_refl n');
}

pub low_extend : {A : Type 0} (d d' : Doing A) → ((s : State) → d 0 s ≡ runs_out 0 s) → ((s : State) → d' 0 s ≡ runs_out 0 s)
    → (n k n' : ℕ) (s : State) → n' ≡ n + k → n ≡ 0 → Extends k (d n s) (d' n' s)
low_extend d d' one other zero k n' s e z =
    subst (λ (r : Ran _). Extends k r (d' n' s)) (sym (one s))
    (((d' n' s).events, refl), λ y. ap (λ (m : ℕ). d' m s) (no_more 0 k n' e y) ∙ other s)
low_extend d d' one other (suc n) k n' s e z = absurd (omega (arith, z))

-- where the fuel leaves no unit, and without units both run out
pub low_tied : {A : Type 0} {f g : ℕ} {d d' : Doing A} → ((n : ℕ) (s : State) → (d n s).left ≤ n)
    → ((s : State) → d 0 s ≡ runs_out 0 s) → ((s : State) → d' 0 s ≡ runs_out 0 s)
    → ((n k n' : ℕ) → n' ≡ n + k → n ≤ f → n' ≤ g → n ≡ 0) → Tied f g d d'
low_tied {d = d} {d' = d'} falls one other low = record {
  falls = falls;
  extends = λ n k n' s e p q. low_extend d d' one other n k n' s e (low n k n' e p q);
}
