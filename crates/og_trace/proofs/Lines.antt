-- The stimuli of a file, one call of its reader after the other, and what each of them is.
use Rattle.std.proofs.Common.{◌≡◌, ℕ, zero, suc, ◌+◌, ◌<◌, ◌++◌, List, [], ◌∷◌, Bool, true, false, ◌&&◌, ◌==◌, if◌then◌else◌, cond, Option, Some, None, Result, Ok, Err, length, drop, map, slice_get, option_map, refl, sym, ap, subst, ◌∙◌, arith}
use Rattle.std.specs.Prelude.{IsTrue, nat_lt}
use Rattle.std.proofs.lemmas.Bool.{lt-ltb}
use Rattle.std.proofs.lemmas.List.{append_assoc, append-nil}
use Rattle.std.proofs.lemmas.Option.{slice_get_within}
use Rattle.og_names.specs.declared.NameId.{NameId}
use Rattle.og_model.specs.declared.Model.{Model}
use Rattle.og_model.specs.declared.Signal.{Signal}
use Rattle.og_model.specs.declared.StimId.{StimId}
use Rattle.og_model.specs.declared.StimId.TheVariants as id
use Rattle.og_types.specs.declared.TypeId.{TypeId}
use Rattle.og_types.specs.declared.Value.{Value}
use Rattle.og_types.specs.Values.{is_in}
use Rattle.og_types.specs.Table.{is_table}
use Rattle.og_value.specs.Scans.{found_in}
use Rattle.og_value.proofs.Again.{found_reads, reads_in}
use Rattle.og_csubset.specs.Interface as interface
use Rattle.og_csubset.specs.Agreement.{are_in}
use Rattle.og_cstep.specs.Machines.{is_signal, is_stimulus_of}
use Rattle.og_stim.specs.declared.stimuli.StimRule.{StimRule}
use Rattle.og_stim.specs.declared.stimuli.StimRule.TheVariants as rule
use Rattle.og_stim.specs.declared.stimuli.Cursor.{Cursor}
use Rattle.og_stim.specs.declared.stimuli.Stimulus.{Stimulus as Line}
use Rattle.og_stim.specs.declared.stimuli.StimError.{StimError}
use Rattle.og_stim.specs.declared.stimuli.StimError.TheVariants as error
use Rattle.og_stim.specs.Lines.{lines_of, is_skipped}
use Rattle.og_stim.specs.Scans.{form_in}
use Rattle.og_stim.specs.Stimuli.{Judged, judged, by_form, known_or_unknown, with_values, value_read, value_with, values_read, sorts_in, sorts_of, numbered, or_timer, signal_from, timer_from, stimulus_named, Next, AtEnd, Stands, Bad, next_by, next_in, IsNext, IsBadLine}
use Rattle.og_trace.specs.Entries.{given_by, given_as, AreValuesOf, IsStimulus, AreStimuli}
use Rattle.og_trace.specs.Stims.{BadLine, Stims, line_first, stims_in, stims_of, start, given, given_first}
use Rattle.og_names.proofs.Truths.{both_first as left_of, both_true}

-- ---- one call after the other

abbrev stims_by : Model → Next → Stims
stims_by M AtEnd = record { list = []; bad = None }
stims_by M (Stands x n more) = record { list = x ∷ (stims_in M n more).list; bad = (stims_in M n more).bad }
stims_by M (Bad n r) = record { list = []; bad = Some (record { line = n; rule = r }) }

-- what comes next, and what comes behind it
next_gives : (M : Model) (n : ℕ) (lines : List (List ℕ)) → stims_in M n lines ≡ stims_by M (next_in M n lines)
next_gives M n [] = refl
next_gives M n (line ∷ lines) = by (judged M (n + 1) line) (next_gives M (n + 1) lines)
  where
    by : (r : Judged) → stims_in M (n + 1) lines ≡ stims_by M (next_in M (n + 1) lines)
        → line_first r (n + 1) (stims_in M (n + 1) lines) ≡ stims_by M (next_by r (n + 1) lines (next_in M (n + 1) lines))
    by (Ok None) later = later
    by (Ok (Some x)) later = refl
    by (Err r) later = refl

pub stands_more : (M : Model) (n : ℕ) (lines : List (List ℕ)) (x : Line) (m : ℕ) (more : List (List ℕ)) (ids after total : List Line)
    → next_in M n lines ≡ Stands x m more → after ≡ ids ++ x ∷ []
    → ids ++ (stims_in M n lines).list ≡ total → after ++ (stims_in M m more).list ≡ total
stands_more M n lines x m more ids after total next pushed so_far =
    ap (λ xs. xs ++ (stims_in M m more).list) pushed ∙ append_assoc ids (x ∷ []) (stims_in M m more).list
    ∙ ap (λ (s : Stims). ids ++ s.list) (sym (next_gives M n lines ∙ ap (stims_by M) next)) ∙ so_far

pub stands_bad : (M : Model) (n : ℕ) (lines : List (List ℕ)) (x : Line) (m : ℕ) (more : List (List ℕ)) (total : Option BadLine)
    → next_in M n lines ≡ Stands x m more → (stims_in M n lines).bad ≡ total → (stims_in M m more).bad ≡ total
stands_bad M n lines x m more total next so_far =
    ap (λ (s : Stims). s.bad) (sym (next_gives M n lines ∙ ap (stims_by M) next)) ∙ so_far

-- the last call gives what is left
pub last_list : (M : Model) (n : ℕ) (lines : List (List ℕ)) (next : Next) (ids total : List Line)
    → next_in M n lines ≡ next → (stims_by M next).list ≡ [] → ids ++ (stims_in M n lines).list ≡ total → ids ≡ total
last_list M n lines next ids total is none so_far =
    sym (append-nil ids) ∙ ap (λ xs. ids ++ xs) (sym (ap (λ (s : Stims). s.list) (next_gives M n lines ∙ ap (stims_by M) is) ∙ none)) ∙ so_far

pub last_bad : (M : Model) (n : ℕ) (lines : List (List ℕ)) (next : Next) (bad total : Option BadLine)
    → next_in M n lines ≡ next → bad ≡ (stims_by M next).bad → (stims_in M n lines).bad ≡ total → bad ≡ total
last_bad M n lines next bad total is same so_far =
    same ∙ ap (λ (s : Stims). s.bad) (sym (next_gives M n lines ∙ ap (stims_by M) is)) ∙ so_far

-- lines are used up
pub shorter : (M : Model) (n : ℕ) (lines : List (List ℕ)) (x : Line) (m : ℕ) (more : List (List ℕ))
    → next_in M n lines ≡ Stands x m more → length more < length lines
shorter M n [] x m more next = absurd (cc)
shorter M n (line ∷ lines) x m more next = by (judged M (n + 1) line) (shorter M (n + 1) lines x m more) next
  where
    by : (r : Judged) → (next_in M (n + 1) lines ≡ Stands x m more → length more < length lines)
        → next_by r (n + 1) lines (next_in M (n + 1) lines) ≡ Stands x m more → length more < suc (length lines)
    by (Ok None) later is = let less = later is in omega (arith, less)
    by (Ok (Some y)) later is = let same : lines ≡ more = cc in let long = ap length same in omega (arith, long)
    by (Err r) later is = absurd (cc)

-- ---- what each is

-- an incoming signal or a timer of the model, and not the start
abbrev pub IsGiven : Model → StimId → Type 0
IsGiven M id.Start = ⊥
IsGiven M (id.Signal k) = IsTrue (is_stimulus_of M (id.Signal k))
IsGiven M (id.Timer k) = IsTrue (is_stimulus_of M (id.Timer k))

signal_given : (M : Model) (k name : ℕ) (signals : List Signal) (x : StimId)
    → ((j : ℕ) → slice_get M.signals (k + j) ≡ slice_get signals j) → signal_from k name signals ≡ Some x → IsGiven M x
signal_given M k name [] x at is = absurd (cc)
signal_given M k name (s ∷ signals) x at is =
    by (s.incoming && s.name.0 == name) refl
    (signal_given M (k + 1) name signals x (λ j. let more : k + 1 + j ≡ k + suc j = omega arith in ap (slice_get M.signals) more ∙ at (suc j))) is
  where
    here : k + 0 ≡ k
    here = omega arith

    by : (t : Bool) → (s.incoming && s.name.0 == name) ≡ t → (signal_from (k + 1) name signals ≡ Some x → IsGiven M x)
        → cond t (Some (id.Signal k)) (signal_from (k + 1) name signals) ≡ Some x → IsGiven M x
    by true test later e =
        let same : id.Signal k ≡ x = cc in
        subst (IsGiven M) same (ap is_signal (ap (slice_get M.signals) (sym here) ∙ at 0) ∙ left_of _ _ test)
    by false test later e = later e

timer_given : (M : Model) (k name : ℕ) (timers : List NameId) (x : StimId)
    → ((j : ℕ) → slice_get M.timers (k + j) ≡ slice_get timers j) → timer_from k name timers ≡ Some x → IsGiven M x
timer_given M k name [] x at is = absurd (cc)
timer_given M k name (t ∷ timers) x at is =
    by (t.0 == name)
    (timer_given M (k + 1) name timers x (λ j. let more : k + 1 + j ≡ k + suc j = omega arith in ap (slice_get M.timers) more ∙ at (suc j))) is
  where
    here : k + 0 ≡ k
    here = omega arith

    by : (b : Bool) → (timer_from (k + 1) name timers ≡ Some x → IsGiven M x)
        → cond b (Some (id.Timer k)) (timer_from (k + 1) name timers) ≡ Some x → IsGiven M x
    by true later e =
        let same : id.Timer k ≡ x = cc in
        subst (IsGiven M) same (lt-ltb k (length M.timers) (slice_get_within M.timers k t (ap (slice_get M.timers) (sym here) ∙ at 0)))
    by false later e = later e

named_given : (M : Model) (name : Option ℕ) (x : StimId) → numbered M name ≡ Some x → IsGiven M x
named_given M None x is = absurd (cc)
named_given M (Some name) x is =
    by (signal_from 0 name M.signals)
    (signal_given M 0 name M.signals x (λ j. let none : 0 + j ≡ j = omega arith in ap (slice_get M.signals) none))
    is
  where
    by : (o : Option StimId) → (o ≡ Some x → IsGiven M x) → or_timer M name o ≡ Some x → IsGiven M x
    by None signals e = timer_given M 0 name M.timers x (λ j. let none : 0 + j ≡ j = omega arith in ap (slice_get M.timers) none) e
    by (Some y) signals e = signals e

abbrev line_of : StimId → List Value → Line
line_of y vs = record { id = y; values = vs }

-- a stimulus of the model whose values were read of texts
pub record WasRead (M : Model) (x : Line) : Type 0 where
  pub texts : List (List ℕ)
  pub given : IsGiven M x.id
  pub values : values_read M (sorts_of M x.id) texts ≡ Some x.values

judged_read : (M : Model) (n : ℕ) (line : List ℕ) (x : Line) → judged M n line ≡ Ok (Some x) → WasRead M x
judged_read M n line x is = by (nat_lt 1000000 n) (nat_lt 65536 (length line)) (is_skipped line) (form_in line) is
  where
    valued : (y : StimId) (texts : List (List ℕ)) (o : Option (List Value)) → IsGiven M y → values_read M (sorts_of M y) texts ≡ o → with_values y o ≡ Ok (Some x) → WasRead M x
    valued y texts None given read e = absurd (cc)
    valued y texts (Some vs) given read e =
        let same : line_of y vs ≡ x = cc in
        subst (WasRead M) same (record { texts = texts; given = given; values = read })

    counted_by : (y : StimId) (texts : List (List ℕ)) (b : Bool) → IsGiven M y
        → (if b then with_values y (values_read M (sorts_of M y) texts) else Err rule.Q3) ≡ Ok (Some x) → WasRead M x
    counted_by y texts true given e = valued y texts (values_read M (sorts_of M y) texts) given refl e
    counted_by y texts false given e = absurd (cc)

    known : (texts : List (List ℕ)) (o : Option StimId) → ((y : StimId) → o ≡ Some y → IsGiven M y) → known_or_unknown M texts o ≡ Ok (Some x) → WasRead M x
    known texts None named e = absurd (cc)
    known texts (Some y) named e = counted_by y texts (length texts == length (sorts_of M y)) (named y refl) e

    by : (a b s : Bool) (form : Option (List ℕ × List (List ℕ))) → (if a then Err rule.Q6 else (if b then Err rule.Q5 else (if s then Ok None else by_form M form))) ≡ Ok (Some x) → WasRead M x
    by true b s form e = absurd (cc)
    by false true s form e = absurd (cc)
    by false false true form e = absurd (cc)
    by false false false None e = absurd (cc)
    by false false false (Some form) e = known form.1 (stimulus_named M form.0) (λ y. named_given M _ y) e

pub all_read : (M : Model) (n : ℕ) (lines : List (List ℕ)) (i : ℕ) (x : Line) → slice_get (stims_in M n lines).list i ≡ Some x → WasRead M x
all_read M n [] i x at = absurd (cc)
all_read M n (line ∷ lines) i x at = by (judged M (n + 1) line) refl (all_read M (n + 1) lines) i at
  where
    by : (r : Judged) → judged M (n + 1) line ≡ r
        → ((j : ℕ) (y : Line) → slice_get (stims_in M (n + 1) lines).list j ≡ Some y → WasRead M y)
        → (j : ℕ) → slice_get (line_first r (n + 1) (stims_in M (n + 1) lines)).list j ≡ Some x → WasRead M x
    by (Ok None) is later j e = later j x e
    by (Ok (Some y)) is later zero e = let same : y ≡ x = cc in judged_read M (n + 1) line x (is ∙ ap (λ z. Ok (Some z)) same)
    by (Ok (Some y)) is later (suc j) e = later j x e
    by (Err r) is later j e = absurd (cc)

given_stimulus : (M : Model) (x : StimId) → IsGiven M x → IsTrue (is_stimulus_of M x)
given_stimulus M id.Start is = absurd is
given_stimulus M (id.Signal k) is = is
given_stimulus M (id.Timer k) is = is

-- ---- its values

value_in : (M : Model) → is_table M.types ≡ true → (sort : TypeId) (text : List ℕ) (v : Value) → value_read M sort text ≡ Some v → is_in M.types sort v ≡ true
unfolding value_read
value_in M table sort text v e = by (found_in M.types M.names sort text) refl e
  where
    by : (o : Option (Value × ℕ)) → found_in M.types M.names sort text ≡ o → option_map (λ found. found.0) o ≡ Some v → is_in M.types sort v ≡ true
    by None is told = absurd (cc)
    by (Some found) is told =
        let same : found.0 ≡ v = cc in
        let read = found_reads M.types M.names sort text found.0 found.1 is in
        subst (λ w. is_in M.types sort w ≡ true) same (reads_in M.types M.names sort table read.text found.0 read.reads)

values_in : (M : Model) → is_table M.types ≡ true → (sorts : List TypeId) (texts : List (List ℕ)) (vs : List Value)
    → values_read M sorts texts ≡ Some vs → are_in M sorts vs ≡ true
values_in M table [] texts vs e = let same : [] ≡ vs = cc in subst (λ us. are_in M [] us ≡ true) same refl
values_in M table (sort ∷ sorts) [] vs e = absurd (cc)
values_in M table (sort ∷ sorts) (text ∷ texts) vs e =
    by (value_read M sort text) (values_read M sorts texts) refl (λ us. values_in M table sorts texts us) e
  where
    by : (o : Option Value) (p : Option (List Value)) → value_read M sort text ≡ o → ((us : List Value) → p ≡ Some us → are_in M sorts us ≡ true)
        → value_with o p ≡ Some vs → are_in M (sort ∷ sorts) vs ≡ true
    by None p is later told = absurd (cc)
    by (Some v) None is later told = absurd (cc)
    by (Some v) (Some us) is later told =
        let same : v ∷ us ≡ vs = cc in
        subst (λ ws. are_in M (sort ∷ sorts) ws ≡ true) same (both_true _ _ (value_in M table sort text v is) (later us refl))

pub same_sorts : (o : Option Signal) → sorts_in o ≡ interface.sorts_of o
same_sorts None = refl
same_sorts (Some s) = refl

pub values_of_id : (M : Model) → is_table M.types ≡ true → (y : StimId) (texts : List (List ℕ)) (vs : List Value)
    → values_read M (sorts_of M y) texts ≡ Some vs → AreValuesOf M y vs
values_of_id M table id.Start texts vs e = tt
values_of_id M table (id.Signal k) texts vs e =
    subst (λ sorts. are_in M sorts vs ≡ true) (same_sorts (slice_get M.signals k)) (values_in M table (sorts_of M (id.Signal k)) texts vs e)
values_of_id M table (id.Timer k) texts vs e = tt

read_stimulus : (M : Model) → is_table M.types ≡ true → (x : Line) → WasRead M x → IsStimulus M x
read_stimulus M table x read = record {
  can = given_stimulus M x.id read.given;
  values = values_of_id M table x.id read.texts x.values read.values;
}

pub are_stimuli : (M : Model) → is_table M.types ≡ true → (text : List ℕ) → AreStimuli M (start ∷ (stims_of M text).list)
are_stimuli M table text = record { each = one }
  where
    one : (i : ℕ) (x : Line) → slice_get (start ∷ (stims_of M text).list) i ≡ Some x → IsStimulus M x
    one zero x at = let same : start ≡ x = cc in subst (IsStimulus M) same (record { can = refl; values = tt })
    one (suc i) x at = read_stimulus M table x (all_read M 0 (lines_of text) i x at)

-- the stimuli of a list, as a run takes them
given_are : (M : Model) (xs : List Line) → ((i : ℕ) (x : Line) → slice_get xs i ≡ Some x → IsGiven M x.id)
    → map Some (given xs) ≡ map given_as xs
given_are M [] all = refl
given_are M (x ∷ xs) all = by x.id x.values (all 0 x refl) (given_are M xs (λ i y at. all (suc i) y at))
  where
    by : (y : StimId) (vs : List Value) → IsGiven M y → map Some (given xs) ≡ map given_as xs
        → map Some (given_first y vs (given xs)) ≡ given_by y vs ∷ map given_as xs
    by id.Start vs is later = absurd is
    by (id.Signal k) vs is later = ap (λ ys. given_by (id.Signal k) vs ∷ ys) later
    by (id.Timer k) vs is later = ap (λ ys. given_by (id.Timer k) vs ∷ ys) later

pub stimuli_given : (M : Model) (text : List ℕ) → map Some (given (stims_of M text).list) ≡ map given_as (stims_of M text).list
stimuli_given M text = given_are M (stims_of M text).list (λ i x at. (all_read M 0 (lines_of text) i x at).given)

-- ---- what a call answers

pub at_end : (M : Model) (text : List ℕ) (old new : Cursor) (o : Option Line) → o ≡ None → IsNext M text old new o
    → next_in M old.line (lines_of (drop old.offset text)) ≡ AtEnd
at_end M text old new None none is = is.1
at_end M text old new (Some x) none is = absurd (cc)

pub at_stimulus : (M : Model) (text : List ℕ) (old new : Cursor) (o : Option Line) (x : Line) → o ≡ Some x → IsNext M text old new o
    → next_in M old.line (lines_of (drop old.offset text)) ≡ Stands x new.line (lines_of (drop new.offset text))
at_stimulus M text old new None x some is = absurd (cc)
at_stimulus M text old new (Some y) x some is =
    let same : y ≡ x = cc in is ∙ ap (λ (z : Line). Stands z new.line (lines_of (drop new.offset text))) same

pub at_bad : (M : Model) (text : List ℕ) (old new : Cursor) (e : StimError) (line : ℕ) (r : StimRule) → e ≡ error.Bad line r → IsBadLine M text old new e
    → next_in M old.line (lines_of (drop old.offset text)) ≡ Bad line r
at_bad M text old new (error.Bad n q) line r same is = is.1 ∙ cc
at_bad M text old new (error.NoMemory met) line r same is = absurd (cc)
