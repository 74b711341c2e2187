-- Names that are added to a table one behind the other, and the names that are there before they are added.
use Rattle.std.proofs.Common.{◌≡◌, ℕ, ◌+◌, ◌<◌, List, [], ◌∷◌, ◌++◌, length, map, get_or, Option, None, refl, sym, ap, ◌∙◌, append_assoc}
use Rattle.std.specs.List.{flat_map}
use Rattle.og_base.specs.declared.Rule.TheVariants.{N2, A2}
use Rattle.og_base.specs.declared.Violation.{Violation}
use Rattle.og_base.specs.Order.{first_from, first_of}
use Rattle.og_names.specs.Folding.{with_name}
use Rattle.og_front.specs.declared.rules.Tables.{Tables}
use Rattle.og_front.specs.declared.syntax.Ident.{Ident}
use Rattle.og_front.specs.declared.syntax.SignalText.{SignalText}
use Rattle.og_front.specs.declared.syntax.StateText.{StateText}
use Rattle.og_front.specs.declared.syntax.SystemText.{SystemText}
use Rattle.og_front.specs.Names.{declared_by}
use Rattle.og_front.specs.Rules.{key, with_names, predeclared, tables_of, is_in, violated_if, repeated_from, handlers_of, is_handled, with_handler, with_handlers, repeated_handlers_from}
use Rattle.og_front.specs.Tables.{AreTables}
use Rattle.og_names.proofs.Loops.{Left, left_more}
use Rattle.og_front.proofs.Loops.{first_from_both}

pub names_both : (table : List (List ℕ)) (names more : List Ident) → with_names table (map key (names ++ more)) ≡ with_names (with_names table (map key names)) (map key more)
names_both table [] more = refl
names_both table (name ∷ names) more = names_both (with_name table (key name)) names more

pub repeated_both : (table : List (List ℕ)) (names more : List Ident) → repeated_from table (names ++ more) ≡ repeated_from table names ++ repeated_from (with_names table (map key names)) more
repeated_both table [] more = refl
repeated_both table (name ∷ names) more =
    ap (λ vs. violated_if (is_in table (key name)) N2 name ++ vs) (repeated_both (with_name table (key name)) names more)
    ∙ sym (append_assoc (violated_if (is_in table (key name)) N2 name) (repeated_from (with_name table (key name)) names) (repeated_from (with_names (with_name table (key name)) (map key names)) more))

pub handled_both : (handled : List (ℕ × ℕ)) (hs more : List ((ℕ × ℕ) × Ident))
    → repeated_handlers_from handled (hs ++ more) ≡ repeated_handlers_from handled hs ++ repeated_handlers_from (with_handlers handled hs) more
handled_both handled [] more = refl
handled_both handled (h ∷ hs) more =
    ap (λ vs. violated_if (is_handled handled h.0) A2 h.1 ++ vs) (handled_both (with_handler handled h.0) hs more)
    ∙ sym (append_assoc (violated_if (is_handled handled h.0) A2 h.1) (repeated_handlers_from (with_handler handled h.0) hs) (repeated_handlers_from (with_handlers (with_handler handled h.0) hs) more))

-- the first violation among names, some of which are seen already
pub repeated_on : (table table' : List (List ℕ)) (first first' : Option Violation) (names more : List Ident)
    → table' ≡ with_names table (map key names) → first' ≡ first_from first (repeated_from table names)
    → first_from first (repeated_from table (names ++ more)) ≡ first_from first' (repeated_from table' more)
repeated_on table table' first first' names more tables firsts =
    ap (first_from first) (repeated_both table names more) ∙ first_from_both first (repeated_from table names) (repeated_from (with_names table (map key names)) more)
    ∙ (λ i. first_from (sym firsts i) (repeated_from (sym tables i) more))

pub handled_on : (handled handled' : List (ℕ × ℕ)) (first first' : Option Violation) (hs more : List ((ℕ × ℕ) × Ident))
    → handled' ≡ with_handlers handled hs → first' ≡ first_from first (repeated_handlers_from handled hs)
    → first_from first (repeated_handlers_from handled (hs ++ more)) ≡ first_from first' (repeated_handlers_from handled' more)
handled_on handled handled' first first' hs more keys firsts =
    ap (first_from first) (handled_both handled hs more) ∙ first_from_both first (repeated_handlers_from handled hs) (repeated_handlers_from (with_handlers handled hs) more)
    ∙ (λ i. first_from (sym firsts i) (repeated_handlers_from (sym keys i) more))

-- the tables are those of the file
pub the_tables : (system : SystemText) (tables : Tables) → AreTables system tables → tables ≡ tables_of system
the_tables system tables are = λ i. record { signals = are.signals i; states = are.states i; outer = are.outer i }

-- ---- the steps of loops

pub named_more : (table table' : List (List ℕ)) (signals : List SignalText) (i : ℕ) (signal : SignalText) (total : List (List ℕ))
    → i < length signals → signal ≡ get_or signals i signal → table' ≡ with_names table (map key (declared_by signal))
    → Left (λ ys. with_names table (map key (flat_map declared_by ys))) signals i total → Left (λ ys. with_names table' (map key (flat_map declared_by ys))) signals (i + 1) total
named_more table table' signals i signal total lt at is left =
    left_more (λ ys. with_names table (map key (flat_map declared_by ys))) (λ ys. with_names table' (map key (flat_map declared_by ys))) signals i signal total lt at
    (λ ys. names_both table (declared_by signal) (flat_map declared_by ys) ∙ ap (λ t. with_names t (map key (flat_map declared_by ys))) (sym is)) left

pub repeated_more : (table table' : List (List ℕ)) (first first' : Option Violation) (signals : List SignalText) (i : ℕ) (signal : SignalText) (total : Option Violation)
    → i < length signals → signal ≡ get_or signals i signal
    → table' ≡ with_names table (map key (declared_by signal)) → first' ≡ first_from first (repeated_from table (declared_by signal))
    → Left (λ ys. first_from first (repeated_from table (flat_map declared_by ys))) signals i total
    → Left (λ ys. first_from first' (repeated_from table' (flat_map declared_by ys))) signals (i + 1) total
repeated_more table table' first first' signals i signal total lt at tables firsts left =
    left_more (λ ys. first_from first (repeated_from table (flat_map declared_by ys))) (λ ys. first_from first' (repeated_from table' (flat_map declared_by ys))) signals i signal total lt at
    (λ ys. repeated_on table table' first first' (declared_by signal) (flat_map declared_by ys) tables firsts) left

pub handled_more : (tables : Tables) (handled handled' : List (ℕ × ℕ)) (first first' : Option Violation) (states : List StateText) (i : ℕ) (state : StateText) (total : Option Violation)
    → i < length states → state ≡ get_or states i state
    → handled' ≡ with_handlers handled (handlers_of tables state) → first' ≡ first_from first (repeated_handlers_from handled (handlers_of tables state))
    → Left (λ ys. first_from first (repeated_handlers_from handled (flat_map (handlers_of tables) ys))) states i total
    → Left (λ ys. first_from first' (repeated_handlers_from handled' (flat_map (handlers_of tables) ys))) states (i + 1) total
handled_more tables handled handled' first first' states i state total lt at keys firsts left =
    left_more (λ ys. first_from first (repeated_handlers_from handled (flat_map (handlers_of tables) ys))) (λ ys. first_from first' (repeated_handlers_from handled' (flat_map (handlers_of tables) ys))) states i state total lt at
    (λ ys. handled_on handled handled' first first' (handlers_of tables state) (flat_map (handlers_of tables) ys) keys firsts) left

-- ---- three parts, and four

pub outer_is : (block process : List ℕ) (none one two three : List (List ℕ)) → none ≡ [] → one ≡ with_name none block → two ≡ with_name one process → three ≡ with_names two predeclared
    → three ≡ with_names [] (block ∷ process ∷ predeclared)
outer_is block process none one two three e0 e1 e2 e3 = e3 ∙ (λ i. with_names ((e2 ∙ ap (λ t. with_name t process) (e1 ∙ ap (λ t. with_name t block) e0)) i) predeclared)

pub first_of_three : (vs ws us : List Violation) (a b c : Option Violation) → a ≡ first_from None vs → b ≡ first_from a ws → c ≡ first_from b us → c ≡ first_of (vs ++ (ws ++ us))
first_of_three vs ws us a b c e1 e2 e3 =
    e3 ∙ ap (λ v. first_from v us) (e2 ∙ ap (λ v. first_from v ws) e1) ∙ sym (first_from_both None vs (ws ++ us) ∙ first_from_both (first_from None vs) ws us)
