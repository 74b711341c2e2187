-- Each way in which the meaning puts doings together, and what code has to do for it.
use Rattle.std.proofs.Common.{◌≡◌, ℕ, zero, suc, ◌+◌, ◌≤◌, Bool, true, false, nat_eq, List, [], ◌++◌, ◌⊎◌, inl, inr, ◌≢◌, Result, Ok, Err, refl, sym, ap, subst, ◌∙◌, arith}
use Rattle.std.proofs.lemmas.Bool.{false≢true}
use Rattle.std.proofs.lemmas.Bool.Decides.{eqb_tells}
use Rattle.std.proofs.lemmas.List.{append_assoc, append-nil}
use Rattle.og_base.specs.declared.Place.{Place}
use Rattle.og_model.specs.declared.FaultKind.{FaultKind}
use Rattle.og_model.specs.Shown.{Event}
use Rattle.og_model.specs.Units.{State, Outcome, Done, Stop, Fault, Out, Ran, Doing, ends, runs_out, after_events, go_on, then_do, spend, or_fault}
use Rattle.og_ir.specs.Steps.{Config}
use Rattle.og_follow.specs.Passing.{Passed, none_passed, with_place}
use Rattle.og_follow.specs.Tracks.{Track, since}
use Rattle.og_follow.specs.Carrying.{Code, Standing, IsRunning, in_state, Exits, EndsAlike, only, Places, nowhere, either, Each, where_so, Apart, Among, Free, Within, Ways, showing_each, by_state, becoming, by_units, Point, Follows, Gone, Passes, Moves, Begun, Begins, Fits, PassedBy, AtLeast, Arrives, Carried, CarriesOut, behind, behind_unit, before_places, one_then, CanFollow, Narrower}
use Rattle.og_follow.proofs.Passing.{elsewhere, not_there}
use Rattle.og_follow.proofs.Tracks.{goes_on, begins_unit}

-- ---- places

within_same : (seen : Passed) (X : Places) → Within seen seen X
within_same seen X f p new out = new

within_then : (a b c : Passed) (X Y : Places) → Within b a X → Within c b Y → Within c a (either X Y)
within_then a b c X Y one two f p new out = two f p (one f p new (λ x. out (inl x))) (λ y. out (inr y))

within_more : (later seen : Passed) (X Y : Places) → Among X Y → Within later seen X → Within later seen Y
within_more later seen X Y among within f p new out = within f p new (λ x. out (among f p x))

free_later : (a b : Passed) (X Y : Places) → Free a X → Within b a Y → Apart X Y → Free b X
free_later a b X Y free within apart f p x = within f p (free f p x) (λ y. apart f p x y)

free_none : (X : Places) → Free none_passed X
free_none X f p x = refl

-- one place more is within these places where it is one of them
with_within : (seen : Passed) (f p : ℕ) (X : Places) → X f p → Within (with_place seen f p) seen X
with_within seen f p X among g q new out = choose (eqb_tells g f) (eqb_tells q p)
  where
    choose : ((nat_eq g f ≡ true) × (g ≡ f)) ⊎ ((nat_eq g f ≡ false) × (g ≢ f)) → ((nat_eq q p ≡ true) × (q ≡ p)) ⊎ ((nat_eq q p ≡ false) × (q ≢ p))
        → with_place seen f p g q ≡ false
    choose (inr (differs, other)) there = elsewhere seen f p g q other ∙ new
    choose (inl (equals, same)) (inl (is, here)) =
        absurd (out (subst (λ h. X h q) (sym same) (subst (λ r. X f r) (sym here) among)))
    choose (inl (equals, same)) (inr (differs, other)) =
        subst (λ h. seen h q ≡ false → with_place seen f p h q ≡ false) (sym same) (λ n. not_there seen f p q other ∙ n) new

since_within : (units : ℕ) (seen : Passed) (f p : ℕ) (X : Places) → X f p → Within (since units seen f p) seen X
since_within zero seen f p X among = with_within seen f p X among
since_within (suc units) seen f p X among = λ g q new out. with_within none_passed f p X among g q refl out

since_anew : (units : ℕ) (seen : Passed) (f p : ℕ) (X : Places) → X f p → 1 ≤ units → Within (since units seen f p) none_passed X
since_anew zero seen f p X among some = absurd (omega (arith, some))
since_anew (suc units) seen f p X among some = with_within none_passed f p X among

in_order : (X Y Z : Places) → Among (either X (either Y Z)) (either (either X Y) Z)
in_order X Y Z f p (inl x) = inl (inl x)
in_order X Y Z f p (inr (inl y)) = inl (inr y)
in_order X Y Z f p (inr (inr z)) = inr z

-- ---- outcomes

abbrev is_out : {A : Type 0} → Outcome A → Bool
is_out (Done a) = false
is_out Stop = false
is_out (Fault kind place) = false
is_out Out = true

not_out : {A : Type 0} (o : Outcome A) → is_out o ≡ false → o ≡ Out → ⊥
not_out o told e = false≢true (sym told ∙ ap is_out e)

at_least_none : {A : Type 0} (taken : ℕ) (o : Outcome A) → AtLeast 0 taken o
at_least_none taken (Done a) = omega (arith)
at_least_none taken Stop = tt
at_least_none taken (Fault kind place) = tt
at_least_none taken Out = tt

at_least_one_more : {A : Type 0} (least taken : ℕ) (o : Outcome A) → AtLeast least taken o → AtLeast (suc least) (suc taken) o
at_least_one_more least taken (Done a) le = omega (arith, le)
at_least_one_more least taken Stop le = tt
at_least_one_more least taken (Fault kind place) le = tt
at_least_one_more least taken Out le = tt

at_least_fewer : {A : Type 0} (fewer least taken : ℕ) (o : Outcome A) → fewer ≤ least → AtLeast least taken o → AtLeast fewer taken o
at_least_fewer fewer least taken (Done a) few le = omega (arith, few, le)
at_least_fewer fewer least taken Stop few le = tt
at_least_fewer fewer least taken (Fault kind place) few le = tt
at_least_fewer fewer least taken Out few le = tt

at_least_both : {A : Type 0} (one two taken more : ℕ) (o : Outcome A) → one ≤ taken → AtLeast two more o → AtLeast (one + two) (taken + more) o
at_least_both one two taken more (Done a) le le' = omega (arith, le, le')
at_least_both one two taken more Stop le le' = tt
at_least_both one two taken more (Fault kind place) le le' = tt
at_least_both one two taken more Out le le' = tt

-- ---- straight code

-- one step
pub step_passes : (code : Code) (before : Standing) (shown : List Event) (after : Standing) (X : Places) → Each code.unit_at false X → ((s : State) (now : Config) → before s now → Moves code shown (after s) X now) → Passes code before shown after X
step_passes code before shown after X none steps = record { passes = passes }
  where
    passes : (first : Config) (from : Point) (s : State) → Follows code first from → before s from.now → Free from.seen X → Gone code first from shown after X s
    passes first from s follows at free =
        let st = steps s from.now at in
        let here = subst (λ c. Track code.step code.unit_at code.pace code.ir first from.units from.statements from.events from.seen c) st.is follows in
        record {
          to = record {
            units = from.units;
            statements = from.statements + code.pace st.frame.function st.frame.place;
            events = from.events ++ shown;
            seen = with_place from.seen st.frame.function st.frame.place;
            now = st.next;
          };
          follows = goes_on code.step code.unit_at code.pace code.ir code.is_pace first from.units from.statements from.events shown from.seen st.slots st.frame st.callers st.next here st.stands (none st.frame st.among) (free st.frame.function st.frame.place st.among) (ap code.step (sym st.is) ∙ st.does);
          units = refl;
          events = refl;
          there = st.there;
          passed = with_within from.seen st.frame.function st.frame.place X st.among;
        }

-- one piece after the other
pub passes_on : (code : Code) (before : Standing) (one : List Event) (mid : Standing) (two : List Event) (after : Standing) (X Y : Places) → Passes code before one mid X → Passes code mid two after Y → Apart Y X → Passes code before (one ++ two) after (either X Y)
passes_on code before one mid two after X Y first_passes next_passes apart = record { passes = passes }
  where
    passes : (first : Config) (from : Point) (s : State) → Follows code first from → before s from.now → Free from.seen (either X Y) → Gone code first from (one ++ two) after (either X Y) s
    passes first from s follows at free =
        let a = first_passes.passes first from s follows at (λ f p x. free f p (inl x)) in
        let b = next_passes.passes first a.to s a.follows a.there (free_later from.seen a.to.seen Y X (λ f p y. free f p (inr y)) a.passed apart) in
        record {
          to = b.to;
          follows = b.follows;
          units = b.units ∙ a.units;
          events = b.events ∙ ap (λ es. es ++ two) a.events ∙ append_assoc from.events one two;
          there = b.there;
          passed = within_then from.seen a.to.seen b.to.seen X Y a.passed b.passed;
        }

-- a unit begins with one step
pub step_begins : (code : Code) (before : Standing) (shown : List Event) (after : Standing) (X : Places) → Each code.unit_at true X → ((s : State) (now : Config) → before s now → Moves code shown (after s) X now) → Begins code before shown after X
step_begins code before shown after X each steps = record { runs = runs; begins = begins }
  where
    runs : (s : State) (now : Config) → before s now → IsRunning now
    runs s now at = let st = steps s now at in record { slots = st.slots; frame = st.frame; callers = st.callers; is = st.is }

    begins : (first : Config) (from : Point) (s : State) → Follows code first from → before s from.now → (from.units ≡ 0 → Free from.seen X) → Begun code first from shown after X s
    begins first from s follows at free =
        let st = steps s from.now at in
        let here = subst (λ c. Track code.step code.unit_at code.pace code.ir first from.units from.statements from.events from.seen c) st.is follows in
        record {
          to = record {
            units = suc from.units;
            statements = from.statements + code.pace st.frame.function st.frame.place;
            events = from.events ++ shown;
            seen = since from.units from.seen st.frame.function st.frame.place;
            now = st.next;
          };
          follows = begins_unit code.step code.unit_at code.pace code.ir code.is_pace first from.units from.statements from.events shown from.seen st.slots st.frame st.callers st.next here st.stands (each st.frame st.among) (λ none. free none st.frame.function st.frame.place st.among) (ap code.step (sym st.is) ∙ st.does);
          units = refl;
          events = refl;
          there = st.there;
          passed = since_within from.units from.seen st.frame.function st.frame.place X st.among;
          anew = since_anew from.units from.seen st.frame.function st.frame.place X st.among;
        }

-- places apart from those of a unit that begins are free after it
free_begun : (code : Code) (first : Config) (from : Point) (shown : List Event) (after : Standing) (X Y : Places) (s : State) (a : Begun code first from shown after X s) → Apart Y X → (from.units ≡ 0 → Free from.seen Y) → Free a.to.seen Y
free_begun code first from shown after X Y s a apart free = by_number from.units refl
  where
    by_number : (u : ℕ) → from.units ≡ u → Free a.to.seen Y
    by_number zero e = free_later from.seen a.to.seen Y X (free e) a.passed apart
    by_number (suc u) e = free_later none_passed a.to.seen Y X (free_none Y) (a.anew (omega (arith, e))) apart

-- and goes on with straight code
pub begins_on : (code : Code) (before : Standing) (one : List Event) (mid : Standing) (two : List Event) (after : Standing) (X Y : Places) → Begins code before one mid X → Passes code mid two after Y → Apart Y X → Begins code before (one ++ two) after (either X Y)
begins_on code before one mid two after X Y begins next_passes apart = record { runs = begins.runs; begins = goes }
  where
    goes : (first : Config) (from : Point) (s : State) → Follows code first from → before s from.now → (from.units ≡ 0 → Free from.seen (either X Y)) → Begun code first from (one ++ two) after (either X Y) s
    goes first from s follows at free =
        let a = begins.begins first from s follows at (λ none f p x. free none f p (inl x)) in
        let b = next_passes.passes first a.to s a.follows a.there (free_begun code first from one mid X Y s a apart (λ none f p y. free none f p (inr y))) in
        record {
          to = b.to;
          follows = b.follows;
          units = b.units ∙ a.units;
          events = b.events ∙ ap (λ es. es ++ two) a.events ∙ append_assoc from.events one two;
          there = b.there;
          passed = within_then from.seen a.to.seen b.to.seen X Y a.passed b.passed;
          anew = λ some. within_then none_passed a.to.seen b.to.seen X Y (a.anew some) b.passed;
        }

-- ---- at once

-- an outcome where the code stands already
pub ends_at_once : {A : Type 0} (code : Code) (fuel : ℕ) (o : Outcome A) (before : Standing) (after : Exits A) (P : Ways) → (o ≡ Out → ⊥) → AtLeast P.least 0 o → ((s : State) (now : Config) → before s now → after o s now) → CarriesOut code fuel (ends o) before after P
ends_at_once code fuel o before after P ended least there = record {
  carries = λ first from n s le follows at fits. inl (record {
    to = from;
    follows = follows;
    taken = 0;
    units = no_more from.units;
    counts = none_and n;
    least = least;
    events = sym (append-nil from.events);
    ended = ended;
    there = there s from.now at;
    passed = record {
      none = λ e. within_same from.seen P.head;
      one = λ b e. absurd (omega (arith, e));
      more = λ some e. absurd (omega (arith, some));
    };
  });
}
  where
    no_more : (u : ℕ) → u ≡ u + 0
    no_more u = omega (arith)

    none_and : (n : ℕ) → 0 + n ≡ n
    none_and n = omega (arith)

-- nothing more is done where there are no units
pub runs_out_at_once : {A : Type 0} (code : Code) (before : Standing) (after : Exits A) (P : Ways) → ((s : State) (now : Config) → before s now → IsRunning now) → CarriesOut code 0 (runs_out {A = A}) before after P
runs_out_at_once {A} code before after P runs = record {
  carries = λ first from n s le follows at fits. inr (record {
    to = from;
    follows = follows;
    units = all from.units n le;
    events = sym (append-nil from.events);
    out = refl;
    runs = runs s from.now at;
  });
}
  where
    all : (u n : ℕ) → n ≤ 0 → u ≡ u + n
    all u n le = omega (arith, le)

-- where the code never comes to, it carries out anything
pub never_begins : {A : Type 0} (code : Code) (fuel : ℕ) (d : Doing A) (before : Standing) (after : Exits A) (P : Ways) → ((s : State) (now : Config) → before s now → ⊥) → CarriesOut code fuel d before after P
never_begins code fuel d before after P never = record { carries = λ first from n s le follows at fits. absurd (never s from.now at) }

-- ---- straight code before a doing

after_passing : {A : Type 0} (code : Code) (first : Config) (from : Point) (shown : List Event) (mid : Standing) (X : Places) (s : State) (n : ℕ) (r : Ran A) (after : Exits A) (P : Ways) (a : Gone code first from shown mid X s) → Carried code first a.to n r after P → Carried code first from n (after_events shown r) after (behind X P)
after_passing code first from shown mid X s n r after P a (inl b) = inl (record {
  to = b.to;
  follows = b.follows;
  taken = b.taken;
  units = b.units ∙ ap (λ u. u + b.taken) a.units;
  counts = b.counts;
  least = b.least;
  events = b.events ∙ ap (λ es. es ++ r.events) a.events ∙ append_assoc from.events shown r.events;
  ended = b.ended;
  there = b.there;
  passed = record {
    none = λ e. within_then from.seen a.to.seen b.to.seen X P.head a.passed (b.passed.none e);
    one = λ u e. within_more b.to.seen from.seen (either X (either P.head P.near)) (either (either X P.head) P.near) (in_order X P.head P.near)
        (within_then from.seen a.to.seen b.to.seen X (either P.head P.near) a.passed (b.passed.one (a.units ∙ u) e));
    more = λ some e. b.passed.more some (subst (λ u. 2 ≤ u + b.taken) (sym a.units) e);
  };
})
after_passing code first from shown mid X s n r after P a (inr b) = inr (record {
  to = b.to;
  follows = b.follows;
  units = b.units ∙ ap (λ u. u + n) a.units;
  events = b.events ∙ ap (λ es. es ++ r.events) a.events ∙ append_assoc from.events shown r.events;
  out = b.out;
  runs = b.runs;
})

pub passes_then : {A : Type 0} (code : Code) (fuel : ℕ) (d : Doing A) (before : Standing) (shown : List Event) (mid : Standing) (after : Exits A) (X : Places) (P : Ways) → Passes code before shown mid X → CarriesOut code fuel d mid after P → Apart P.head X → Apart P.near X → CarriesOut code fuel (showing_each shown d) before after (behind X P)
passes_then code fuel d before shown mid after X P passes carries apart apart_near = record {
  carries = λ first from n s le follows at fits.
      let a = passes.passes first from s follows at (λ f p x. fits.head f p (inl x)) in
      after_passing code first from shown mid X s n (d n s) after P a
      (carries.carries first a.to n s le a.follows a.there (record {
        head = free_later from.seen a.to.seen P.head X (λ f p x. fits.head f p (inr x)) a.passed apart;
        near = λ none. free_later from.seen a.to.seen P.near X (fits.near (sym a.units ∙ none)) a.passed apart_near;
      }));
}

-- ---- a unit

one_more : (u n : ℕ) → suc u + n ≡ u + suc n
one_more u n = omega (arith)

suc_plus : (t n l : ℕ) → t + l ≡ n → suc t + l ≡ suc n
suc_plus t n l e = omega (arith, e)

-- what was passed since the last unit, where one was begun before a doing that took some more
passed_behind : (X : Places) (P : Ways) (u t : ℕ) (seen mid later : Passed) → Within mid seen X → (1 ≤ u → Within mid none_passed X) → PassedBy P (suc u) t mid later → PassedBy (behind_unit X P) u (suc t) seen later
passed_behind X P u t seen mid later within anew passed = record {
  none = λ e. absurd (omega (arith, e));
  one = λ b e. within_more later seen (either X P.head) (either nowhere (either X P.head)) (λ f p x. inr x)
      (within_then seen mid later X P.head within (passed.none (omega (arith, e))));
  more = λ some e. by_number t refl e;
}
  where
    first_two : Among (either X P.head) (either X (either P.head P.tail))
    first_two f p (inl x) = inl x
    first_two f p (inr y) = inr (inl y)

    by_number : (k : ℕ) → t ≡ k → 2 ≤ u + suc t → Within later none_passed (either X (either P.head P.tail))
    by_number zero none e =
        within_more later none_passed (either X P.head) (either X (either P.head P.tail)) first_two
        (within_then none_passed mid later X P.head (anew (omega (arith, none, e))) (passed.none none))
    by_number (suc k) some e =
        within_more later none_passed P.tail (either X (either P.head P.tail)) (λ f p x. inr (inr x)) (passed.more (omega (arith, some)) (omega (arith, e, some)))

after_beginning : {A : Type 0} (code : Code) (first : Config) (from : Point) (shown : List Event) (mid : Standing) (X : Places) (s : State) (n : ℕ) (r : Ran A) (after : Exits A) (P : Ways) (a : Begun code first from shown mid X s) → Carried code first a.to n r after P → Carried code first from (suc n) (after_events shown r) after (behind_unit X P)
after_beginning code first from shown mid X s n r after P a (inl b) = inl (record {
  to = b.to;
  follows = b.follows;
  taken = suc b.taken;
  units = b.units ∙ ap (λ u. u + b.taken) a.units ∙ one_more from.units b.taken;
  counts = suc_plus b.taken n r.left b.counts;
  least = at_least_one_more P.least b.taken r.outcome b.least;
  events = b.events ∙ ap (λ es. es ++ r.events) a.events ∙ append_assoc from.events shown r.events;
  ended = b.ended;
  there = b.there;
  passed = passed_behind X P from.units b.taken from.seen a.to.seen b.to.seen a.passed a.anew (subst (λ u. PassedBy P u b.taken a.to.seen b.to.seen) a.units b.passed);
})
after_beginning code first from shown mid X s n r after P a (inr b) = inr (record {
  to = b.to;
  follows = b.follows;
  units = b.units ∙ ap (λ u. u + n) a.units ∙ one_more from.units n;
  events = b.events ∙ ap (λ es. es ++ r.events) a.events ∙ append_assoc from.events shown r.events;
  out = b.out;
  runs = b.runs;
})

pub begins_then : {A : Type 0} (code : Code) (fuel : ℕ) (d : Doing A) (before : Standing) (shown : List Event) (mid : Standing) (after : Exits A) (X : Places) (P : Ways) → Begins code before shown mid X → CarriesOut code fuel d mid after P → Apart P.head X → CarriesOut code (suc fuel) (spend (showing_each shown d)) before after (behind_unit X P)
begins_then code fuel d before shown mid after X P begins carries apart = record {
  carries = λ first from n s le follows at fits. by_number first from n s le follows at fits;
}
  where
    no_more : (u : ℕ) → u ≡ u + 0
    no_more u = omega (arith)

    some : {u v : ℕ} → v ≡ suc u → v ≡ 0 → ⊥
    some e z = omega (arith, e, z)

    by_number : (first : Config) (from : Point) (n : ℕ) (s : State) → n ≤ suc fuel → Follows code first from → before s from.now → Fits (behind_unit X P) from.units from.seen → Carried code first from n (spend (showing_each shown d) n s) after (behind_unit X P)
    by_number first from zero s le follows at fits = inr (record {
      to = from;
      follows = follows;
      units = no_more from.units;
      events = sym (append-nil from.events);
      out = refl;
      runs = begins.runs s from.now at;
    })
    by_number first from (suc n) s le follows at fits =
        let a = begins.begins first from s follows at (λ none f p x. fits.near none f p (inl x)) in
        after_beginning code first from shown mid X s n (d n s) after P a
        (carries.carries first a.to n s (omega (arith, le)) a.follows a.there (record {
          head = free_begun code first from shown mid X P.head s a apart (λ none f p x. fits.near none f p (inr x));
          near = λ none. absurd (some a.units none);
        }))

-- ---- one doing after another

-- where the second begins, its places are free
fits_next : (P Q : Ways) (u t v : ℕ) (seen mid : Passed) → CanFollow P Q → v ≡ u + t → P.least ≤ t → Fits (one_then P Q) u seen → PassedBy P u t seen mid → Fits Q v mid
fits_next P Q u t v seen mid can is le fits passed = record { head = by_number u t refl refl; near = near }
  where
    so : {a b : ℕ} → a ≤ b → b ≡ 0 → a ≡ 0
    so p e = omega (arith, p, e)

    at_most : {a b c : ℕ} → a ≤ b → b ≡ c → c ≤ 1 → a ≤ 1
    at_most p e q = omega (arith, p, e, q)

    apart_two : P.least ≤ 1 → Apart Q.head (either P.head P.near)
    apart_two few f p x (inl y) = can.head few f p x y
    apart_two few f p x (inr y) = can.near few f p x y

    by_number : (b k : ℕ) → u ≡ b → t ≡ k → Free mid Q.head
    by_number b zero u_is none =
        free_later seen mid Q.head P.head (λ f p x. fits.head f p (inr (so le none, x))) (passed.none none) (can.head (at_most le none (omega (arith))))
    by_number zero (suc zero) u_is one =
        let few = at_most le one (omega (arith)) in
        free_later seen mid Q.head (either P.head P.near) (λ f p x. fits.near u_is f p (inr (inl (few, x)))) (passed.one u_is one) (apart_two few)
    by_number zero (suc (suc k)) u_is more =
        free_later none_passed mid Q.head P.tail (free_none Q.head) (passed.more (omega (arith, more)) (omega (arith, more))) can.tail
    by_number (suc b) (suc k) u_is more =
        free_later none_passed mid Q.head P.tail (free_none Q.head) (passed.more (omega (arith, more)) (omega (arith, more, u_is))) can.tail

    near : v ≡ 0 → Free mid Q.near
    near e =
        let none : t ≡ 0 = omega (arith, e, is) in
        let before : u ≡ 0 = omega (arith, e, is) in
        free_later seen mid Q.near P.head (λ f p x. fits.near before f p (inr (inr (so le none, x)))) (passed.none none) (can.both (so le none))

-- what both passed since the last unit
passed_then : (P Q : Ways) (u t v k : ℕ) (seen mid later : Passed) → v ≡ u + t → P.least ≤ t → PassedBy P u t seen mid → PassedBy Q v k mid later → PassedBy (one_then P Q) u (t + k) seen later
passed_then P Q u t v k seen mid later is le one two = record { none = none; one = at_one; more = λ some e. by_number k refl some e }
  where
    so : {a b : ℕ} → a ≤ b → b ≡ 0 → a ≡ 0
    so p e = omega (arith, p, e)

    at_most : {a b : ℕ} → a ≤ b → b ≡ 1 → a ≤ 1
    at_most p e = omega (arith, p, e)

    behind_it : P.least ≡ 0 → Among (either P.head Q.head) (either P.head (where_so (P.least ≡ 0) Q.head))
    behind_it z f p (inl x) = inl x
    behind_it z f p (inr y) = inr (z, y)

    none : t + k ≡ 0 → Within later seen (either P.head (where_so (P.least ≡ 0) Q.head))
    none e =
        let first_none : t ≡ 0 = omega (arith, e) in
        within_more later seen (either P.head Q.head) (either P.head (where_so (P.least ≡ 0) Q.head)) (behind_it (so le first_none))
        (within_then seen mid later P.head Q.head (one.none first_none) (two.none (omega (arith, e))))

    in_second : P.least ≡ 0 → Among (either P.head (either Q.head Q.near)) (either (one_then P Q).head (one_then P Q).near)
    in_second z f p (inl x) = inl (inl x)
    in_second z f p (inr (inl y)) = inl (inr (z, y))
    in_second z f p (inr (inr y)) = inr (inr (inr (z, y)))

    in_first : P.least ≤ 1 → Among (either (either P.head P.near) Q.head) (either (one_then P Q).head (one_then P Q).near)
    in_first few f p (inl (inl x)) = inl (inl x)
    in_first few f p (inl (inr x)) = inr (inl x)
    in_first few f p (inr y) = inr (inr (inl (few, y)))

    by_first : (j : ℕ) → t ≡ j → u ≡ 0 → t + k ≡ 1 → Within later seen (either (one_then P Q).head (one_then P Q).near)
    by_first zero z b e =
        within_more later seen (either P.head (either Q.head Q.near)) (either (one_then P Q).head (one_then P Q).near) (in_second (so le z))
        (within_then seen mid later P.head (either Q.head Q.near) (one.none z) (two.one (omega (arith, is, b, z)) (omega (arith, e, z))))
    by_first (suc zero) z b e =
        within_more later seen (either (either P.head P.near) Q.head) (either (one_then P Q).head (one_then P Q).near) (in_first (at_most le z))
        (within_then seen mid later (either P.head P.near) Q.head (one.one b z) (two.none (omega (arith, e, z))))
    by_first (suc (suc j)) z b e = absurd (omega (arith, e, z))

    at_one : u ≡ 0 → t + k ≡ 1 → Within later seen (either (one_then P Q).head (one_then P Q).near)
    at_one b e = by_first t refl b e

    in_tail : Among (either P.tail Q.head) (one_then P Q).tail
    in_tail f p (inl x) = inl x
    in_tail f p (inr y) = inr (inl y)

    by_number : (j : ℕ) → k ≡ j → 1 ≤ t + k → 2 ≤ u + (t + k) → Within later none_passed (one_then P Q).tail
    by_number zero z some e =
        within_more later none_passed (either P.tail Q.head) (one_then P Q).tail in_tail
        (within_then none_passed mid later P.tail Q.head (one.more (omega (arith, some, z)) (omega (arith, e, z))) (two.none z))
    by_number (suc j) z some e =
        within_more later none_passed Q.tail (one_then P Q).tail (λ f p x. inr (inr x)) (two.more (omega (arith, z)) (omega (arith, e, is)))

-- where the first one came to its end, the second goes on
after_first : {A B : Type 0} (code : Code) (first : Config) (from : Point) (n : ℕ) (r : Ran A) (a : A) (next : Ran B) (mid : Exits A) (after : Exits B) (P Q : Ways) (one : Arrives code first from n r mid P) → P.least ≤ one.taken → Carried code first one.to r.left next after Q → Carried code first from n (after_events r.events next) after (one_then P Q)
after_first code first from n r a next mid after P Q one le (inl two) = inl (record {
  to = two.to;
  follows = two.follows;
  taken = one.taken + two.taken;
  units = two.units ∙ ap (λ u. u + two.taken) one.units ∙ assoc from.units one.taken two.taken;
  counts = counts_all one.taken two.taken r.left next.left n one.counts two.counts;
  least = at_least_both P.least Q.least one.taken two.taken next.outcome le two.least;
  events = two.events ∙ ap (λ es. es ++ next.events) one.events ∙ append_assoc from.events r.events next.events;
  ended = two.ended;
  there = two.there;
  passed = passed_then P Q from.units one.taken one.to.units two.taken from.seen one.to.seen two.to.seen one.units le one.passed two.passed;
})
  where
    assoc : (a b c : ℕ) → a + b + c ≡ a + (b + c)
    assoc a b c = omega (arith)

    counts_all : (a b l m n : ℕ) → a + l ≡ n → b + m ≡ l → a + b + m ≡ n
    counts_all a b l m n e e' = omega (arith, e, e')
after_first code first from n r a next mid after P Q one le (inr two) = inr (record {
  to = two.to;
  follows = two.follows;
  units = all from.units one.taken one.to.units r.left two.to.units n one.units one.counts two.units;
  events = two.events ∙ ap (λ es. es ++ next.events) one.events ∙ append_assoc from.events r.events next.events;
  out = two.out;
  runs = two.runs;
})
  where
    all : (u t v l w n : ℕ) → v ≡ u + t → t + l ≡ n → w ≡ v + l → w ≡ u + n
    all u t v l w n e e' f = omega (arith, e, e', f)

at_least_is : {A : Type 0} (least taken : ℕ) (o : Outcome A) (a : A) → o ≡ Done a → AtLeast least taken o → least ≤ taken
at_least_is least taken o a e le = subst (λ x. AtLeast least taken x) e le

fewer_left : (t l n fuel : ℕ) → t + l ≡ n → n ≤ fuel → l ≤ fuel
fewer_left t l n fuel e le = omega (arith, e, le)

-- what the first one passed is among what both pass
passed_first : (P Q : Ways) (u t : ℕ) (seen later : Passed) → PassedBy P u t seen later → PassedBy (one_then P Q) u t seen later
passed_first P Q u t seen later passed = record {
  none = λ e. within_more later seen P.head (one_then P Q).head (λ f p x. inl x) (passed.none e);
  one = λ b e. within_more later seen (either P.head P.near) (either (one_then P Q).head (one_then P Q).near) among (passed.one b e);
  more = λ some e. within_more later none_passed P.tail (one_then P Q).tail (λ f p x. inl x) (passed.more some e);
}
  where
    among : Among (either P.head P.near) (either (one_then P Q).head (one_then P Q).near)
    among f p (inl x) = inl (inl x)
    among f p (inr y) = inr (inl y)

-- where the first one did not end with a result, this is the outcome of both
ended_first : {A B : Type 0} (code : Code) (first : Config) (from : Point) (n : ℕ) (r : Ran A) (mid : Exits A) (after : Exits B) (P Q : Ways) (o : Outcome B) (one : Arrives code first from n r mid P) → AtLeast (P.least + Q.least) one.taken o → (o ≡ Out → ⊥) → after o r.state one.to.now
    → Arrives code first from n (record { events = r.events; state = r.state; left = r.left; outcome = o }) after (one_then P Q)
ended_first code first from n r mid after P Q o one least ended there = record {
  to = one.to;
  follows = one.follows;
  taken = one.taken;
  units = one.units;
  counts = one.counts;
  least = least;
  events = one.events;
  ended = ended;
  there = there;
  passed = passed_first P Q from.units one.taken from.seen one.to.seen one.passed;
}

-- how the outcome of the first one leads on
goes_by : {A B : Type 0} (code : Code) (fuel : ℕ) (next : A → Doing B) (mid : Exits A) (after : Exits B) (P Q : Ways) → ((a : A) → CarriesOut code fuel (next a) (mid (Done a)) after Q)
    → EndsAlike mid after → CanFollow P Q
    → (first : Config) (from : Point) (n : ℕ) (r : Ran A) → n ≤ fuel → Fits (one_then P Q) from.units from.seen → (o : Outcome A) → r.outcome ≡ o → Carried code first from n r mid P
    → Carried code first from n (go_on o r.events r.left r.state next) after (one_then P Q)
goes_by code fuel next mid after P Q nexts alike can first from n r le fits (Done a) e (inl one) =
    let least = at_least_is P.least one.taken r.outcome a e one.least in
    after_first code first from n r a (next a r.left r.state) mid after P Q one least
    ((nexts a).carries first one.to r.left r.state (fewer_left one.taken r.left n fuel one.counts le) one.follows (subst (λ o. mid o r.state one.to.now) e one.there)
    (fits_next P Q from.units one.taken one.to.units from.seen one.to.seen can one.units least fits one.passed))
goes_by code fuel next mid after P Q nexts alike can first from n r le fits Stop e (inl one) =
    inl (ended_first code first from n r mid after P Q Stop one tt (λ x. false≢true (ap is_out x)) (alike.0 r.state one.to.now (subst (λ o. mid o r.state one.to.now) e one.there)))
goes_by code fuel next mid after P Q nexts alike can first from n r le fits (Fault kind place) e (inl one) =
    inl (ended_first code first from n r mid after P Q (Fault kind place) one tt (λ x. false≢true (ap is_out x)) (alike.1 kind place r.state one.to.now (subst (λ o. mid o r.state one.to.now) e one.there)))
goes_by code fuel next mid after P Q nexts alike can first from n r le fits Out e (inl one) = absurd (one.ended e)
goes_by code fuel next mid after P Q nexts alike can first from n r le fits (Done a) e (inr used) = absurd (false≢true (ap is_out (sym e ∙ used.out)))
goes_by code fuel next mid after P Q nexts alike can first from n r le fits Stop e (inr used) = absurd (false≢true (ap is_out (sym e ∙ used.out)))
goes_by code fuel next mid after P Q nexts alike can first from n r le fits (Fault kind place) e (inr used) = absurd (false≢true (ap is_out (sym e ∙ used.out)))
goes_by code fuel next mid after P Q nexts alike can first from n r le fits Out e (inr used) = inr (record {
  to = used.to;
  follows = used.follows;
  units = used.units;
  events = used.events;
  out = refl;
  runs = used.runs;
})

pub one_then_other : {A B : Type 0} (code : Code) (fuel : ℕ) (d : Doing A) (next : A → Doing B) (before : Standing) (mid : Exits A) (after : Exits B) (P Q : Ways) → CarriesOut code fuel d before mid P → ((a : A) → CarriesOut code fuel (next a) (mid (Done a)) after Q)
    → EndsAlike mid after → CanFollow P Q
    → CarriesOut code fuel (then_do d next) before after (one_then P Q)
one_then_other code fuel d next before mid after P Q one nexts alike can = record {
  carries = λ first from n s le follows at fits.
      goes_by code fuel next mid after P Q nexts alike can first from n (d n s) le fits (d n s).outcome refl
      (one.carries first from n s le follows at (record {
        head = λ f p x. fits.head f p (inl x);
        near = λ none f p x. fits.near none f p (inl x);
      }));
}

-- ---- a fault, and the state

pub or_faults : {A B : Type 0} (code : Code) (fuel : ℕ) (place : Place) (r : Result A FaultKind) (next : A → Doing B) (before : Standing) (after : Exits B) (P : Ways) → ((a : A) → r ≡ Ok a → CarriesOut code fuel (next a) before after P)
    → ((kind : FaultKind) → r ≡ Err kind → (s : State) (now : Config) → before s now → after (Fault kind place) s now)
    → CarriesOut code fuel (or_fault place r next) before after P
or_faults code fuel place (Ok a) next before after P goes faults = goes a refl
or_faults code fuel place (Err kind) next before after P goes faults =
    ends_at_once code fuel (Fault kind place) before after P (λ e. false≢true (ap is_out e)) tt (faults kind refl)

pub by_state_of : {A : Type 0} (code : Code) (fuel : ℕ) (d : State → Doing A) (before : Standing) (after : Exits A) (P : Ways) → ((s : State) → CarriesOut code fuel (d s) (in_state s before) after P) → CarriesOut code fuel (by_state d) before after P
by_state_of code fuel d before after P each = record { carries = λ first from n s le follows at fits. (each s).carries first from n s le follows (refl, at) fits }

pub becomes : {A : Type 0} (code : Code) (fuel : ℕ) (change : State → State) (d : Doing A) (before mid : Standing) (after : Exits A) (P : Ways) → ((s : State) (now : Config) → before s now → mid (change s) now) → CarriesOut code fuel d mid after P → CarriesOut code fuel (becoming change d) before after P
becomes code fuel change d before mid after P changes carries = record {
  carries = λ first from n s le follows at fits. carries.carries first from n (change s) le follows (changes s from.now at) fits;
}

-- ---- the same with other words

pub same_doing : {A : Type 0} (code : Code) (fuel : ℕ) (d e : Doing A) (before : Standing) (after : Exits A) (P : Ways) → ((n : ℕ) (s : State) → e n s ≡ d n s) → CarriesOut code fuel d before after P → CarriesOut code fuel e before after P
same_doing code fuel d e before after P same carries = record {
  carries = λ first from n s le follows at fits. subst (λ r. Carried code first from n r after P) (sym (same n s)) (carries.carries first from n s le follows at fits);
}

pub by_fuel : {A : Type 0} (code : Code) (d : ℕ → Doing A) (before : Standing) (after : Exits A) (P : Ways) → ((fuel : ℕ) → CarriesOut code fuel (d fuel) before after P) → (fuel : ℕ) → CarriesOut code fuel (by_units d) before after P
by_fuel code d before after P each fuel = record { carries = λ first from n s le follows at fits. (each n).carries first from n s (same n) follows at fits }
  where
    same : (n : ℕ) → n ≤ n
    same n = omega (arith)

passed_wider : (P Q : Ways) (u t : ℕ) (seen later : Passed) → Narrower P Q → PassedBy P u t seen later → PassedBy Q u t seen later
passed_wider P Q u t seen later narrower passed = record {
  none = λ e. within_more later seen P.head Q.head narrower.head (passed.none e);
  one = λ b e. within_more later seen (either P.head P.near) (either Q.head Q.near) among (passed.one b e);
  more = λ some e. within_more later none_passed P.tail Q.tail narrower.tail (passed.more some e);
}
  where
    among : Among (either P.head P.near) (either Q.head Q.near)
    among f p (inl x) = inl (narrower.head f p x)
    among f p (inr y) = inr (narrower.near f p y)

-- from fewer standings to more, with more places and less fuel
pub as_wider : {A : Type 0} (code : Code) (fuel fewer : ℕ) (d : Doing A) (before before' : Standing) (after after' : Exits A) (P Q : Ways) → fewer ≤ fuel → ((s : State) (now : Config) → before' s now → before s now) → ((o : Outcome A) (s : State) (now : Config) → after o s now → after' o s now) → Narrower P Q → CarriesOut code fuel d before after P → CarriesOut code fewer d before' after' Q
as_wider {A} code fuel fewer d before before' after after' P Q few begins leads narrower carries = record {
  carries = λ first from n s le follows at fits. wider first from n (d n s) (carries.carries first from n s (omega (arith, le, few)) follows (begins s from.now at) (record {
    head = λ f p x. fits.head f p (narrower.head f p x);
    near = λ none f p x. fits.near none f p (narrower.near f p x);
  }));
}
  where
    wider : (first : Config) (from : Point) (n : ℕ) (r : Ran A) → Carried code first from n r after P → Carried code first from n r after' Q
    wider first from n r (inl one) = inl (record {
      to = one.to;
      follows = one.follows;
      taken = one.taken;
      units = one.units;
      counts = one.counts;
      least = at_least_fewer Q.least P.least one.taken r.outcome narrower.least one.least;
      events = one.events;
      ended = one.ended;
      there = leads r.outcome r.state one.to.now one.there;
      passed = passed_wider P Q from.units one.taken from.seen one.to.seen narrower one.passed;
    })
    wider first from n r (inr used) = inr used

-- ---- straight code after a doing

-- places apart from all that was passed are free after it
free_after : (X : Places) (P : Ways) (u t : ℕ) (seen later : Passed) → Apart X P.head → Apart X P.near → Apart X P.tail → Fits (before_places P X) u seen → PassedBy P u t seen later → Free later X
free_after X P u t seen later head near tail fits passed = by_number u t refl refl
  where
    two : Apart X (either P.head P.near)
    two f p x (inl y) = head f p x y
    two f p x (inr y) = near f p x y

    by_number : (b k : ℕ) → u ≡ b → t ≡ k → Free later X
    by_number b zero u_is none = free_later seen later X P.head (λ f p x. fits.head f p (inr x)) (passed.none none) head
    by_number zero (suc zero) u_is one = free_later seen later X (either P.head P.near) (λ f p x. fits.head f p (inr x)) (passed.one u_is one) two
    by_number zero (suc (suc k)) u_is more = free_later none_passed later X P.tail (free_none X) (passed.more (omega (arith, more)) (omega (arith, more))) tail
    by_number (suc b) (suc k) u_is more = free_later none_passed later X P.tail (free_none X) (passed.more (omega (arith, more)) (omega (arith, more, u_is))) tail

passed_after : (X : Places) (P : Ways) (u t : ℕ) (seen mid later : Passed) → PassedBy P u t seen mid → Within later mid X → PassedBy (before_places P X) u t seen later
passed_after X P u t seen mid later passed within = record {
  none = λ e. within_then seen mid later P.head X (passed.none e) within;
  one = λ b e. within_more later seen (either (either P.head P.near) X) (either (either P.head X) (either P.near X)) among (within_then seen mid later (either P.head P.near) X (passed.one b e) within);
  more = λ some e. within_then none_passed mid later P.tail X (passed.more some e) within;
}
  where
    among : Among (either (either P.head P.near) X) (either (either P.head X) (either P.near X))
    among f p (inl (inl x)) = inl (inl x)
    among f p (inl (inr y)) = inr (inl y)
    among f p (inr z) = inl (inr z)

-- whatever the outcome, code goes on from where it led
pub then_passes : {A : Type 0} (code : Code) (fuel : ℕ) (d : Doing A) (before : Standing) (mid after : Exits A) (X : Places) (P : Ways) → CarriesOut code fuel d before mid P → ((o : Outcome A) → Passes code (mid o) [] (after o) X)
    → Apart X P.head → Apart X P.near → Apart X P.tail → CarriesOut code fuel d before after (before_places P X)
then_passes {A} code fuel d before mid after X P carries passes head near tail = record {
  carries = λ first from n s le follows at fits.
      choose first from n (d n s) fits (carries.carries first from n s le follows at (record {
        head = λ f p x. fits.head f p (inl x);
        near = λ none f p x. fits.near none f p (inl x);
      }));
}
  where
    choose : (first : Config) (from : Point) (n : ℕ) (r : Ran A) → Fits (before_places P X) from.units from.seen → Carried code first from n r mid P → Carried code first from n r after (before_places P X)
    choose first from n r fits (inl one) =
        let b = (passes r.outcome).passes first one.to r.state one.follows one.there (free_after X P from.units one.taken from.seen one.to.seen head near tail fits one.passed) in
        inl (record {
          to = b.to;
          follows = b.follows;
          taken = one.taken;
          units = b.units ∙ one.units;
          counts = one.counts;
          least = one.least;
          events = b.events ∙ append-nil one.to.events ∙ one.events;
          ended = one.ended;
          there = b.there;
          passed = passed_after X P from.units one.taken from.seen one.to.seen b.to.seen one.passed b.passed;
        })
    choose first from n r fits (inr used) = inr used

-- nothing is done where there are no units
pub spends_nothing : {A : Type 0} (code : Code) (d : Doing A) (before : Standing) (after : Exits A) (P : Ways) → ((s : State) (now : Config) → before s now → IsRunning now) → CarriesOut code 0 (spend d) before after P
spends_nothing {A} code d before after P runs = record { carries = carries }
  where
    carries : (first : Config) (from : Point) (n : ℕ) (s : State) → n ≤ 0 → Follows code first from → before s from.now → Fits P from.units from.seen → Carried code first from n (spend d n s) after P
    carries first from zero s le follows at fits = (runs_out_at_once {A = A} code before after P runs).carries first from 0 s le follows at fits
    carries first from (suc n) s le follows at fits = absurd (omega (arith, le))

-- ---- where one outcome alone leads on

abbrev result_of : {A : Type 0} → A → Outcome A → A
result_of other (Done a) = a
result_of other _ = other

-- the next doing is that of the one result
pub one_result : {A B : Type 0} (code : Code) (fuel : ℕ) (next : A → Doing B) (a : A) (standing : Standing) (after : Exits B) (P : Ways) → CarriesOut code fuel (next a) standing after P → (b : A) → CarriesOut code fuel (next b) (only (Done a) standing (Done b)) after P
one_result code fuel next a standing after P carries b = record {
  carries = λ first from n s le follows at fits.
      subst (λ c. Carried code first from n (next c n s) after P) (sym (ap (result_of a) at.0)) (carries.carries first from n s le follows at.1 fits);
}

pub one_result_ends : {A B : Type 0} (a : A) (standing : Standing) (after : Exits B) → EndsAlike (only (Done a) standing) after
one_result_ends {A} a standing after = ((λ s now at. absurd (not_done at.0)), (λ kind place s now at. absurd (not_done_fault kind place at.0)))
  where
    is_done : Outcome A → Bool
    is_done (Done b) = true
    is_done _ = false

    not_done : Stop ≡ Done a → ⊥
    not_done e = false≢true (ap is_done e)

    not_done_fault : (kind : FaultKind) (place : Place) → Fault kind place ≡ Done a → ⊥
    not_done_fault kind place e = false≢true (ap is_done e)

-- straight code from there
pub only_passes : {A : Type 0} (code : Code) (there : Outcome A) (mid after : Standing) (X : Places) → Passes code mid [] after X → (o : Outcome A) → Passes code (only there mid o) [] (only there after o) X
only_passes code there mid after X passes o = record {
  passes = λ first from s follows at free.
      let a = passes.passes first from s follows at.1 free in
      record { to = a.to; follows = a.follows; units = a.units; events = a.events; there = (at.0, a.there); passed = a.passed };
}

-- more places, and other standings
pub passes_wider : (code : Code) (before before' : Standing) (shown : List Event) (after after' : Standing) (X Y : Places) → ((s : State) (now : Config) → before' s now → before s now) → ((s : State) (now : Config) → after s now → after' s now) → Among X Y → Passes code before shown after X → Passes code before' shown after' Y
passes_wider code before before' shown after after' X Y begins leads among passes = record {
  passes = λ first from s follows at free.
      let a = passes.passes first from s follows (begins s from.now at) (λ f p x. free f p (among f p x)) in
      record { to = a.to; follows = a.follows; units = a.units; events = a.events; there = leads s a.to.now a.there; passed = within_more a.to.seen from.seen X Y among a.passed };
}

pub same_ways : (P : Ways) → Narrower P P
same_ways P = record { head = λ f p x. x; near = λ f p x. x; tail = λ f p x. x; least = omega (arith) }
