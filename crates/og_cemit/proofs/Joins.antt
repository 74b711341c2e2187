-- Marks that are set one after the other, and lists that are made item by item.
use Rattle.std.proofs.Common.{◌≡◌, ℕ, ◌+◌, ◌<◌, List, [], ◌∷◌, ◌++◌, Bool, length, take, get_or, map, refl, sym, ap, subst, ◌^◌, ◌∙◌, arith, append_assoc, append-nil}
use Rattle.std.specs.List.{flat_map}
use Rattle.std.proofs.lemmas.List.{take_more, map-append, length-take}
use Rattle.std.proofs.lemmas.Grind.{flat_map-append}
use Rattle.og_names.specs.declared.Word.{Word}
use Rattle.og_model.specs.declared.Model.{Model}
use Rattle.og_ir.specs.declared.Ir.{Ir}
use Rattle.og_ir.specs.declared.FlatFn.{FlatFn}
use Rattle.og_ir.specs.declared.Instr.{Instr}
use Rattle.og_csubset.specs.declared.CFunction.{CFunction}
use Rattle.og_csubset.specs.declared.CStmt.{CStmt}
use Rattle.og_cemit.specs.Marks.{is_marked, marked, all_marked}
use Rattle.og_cemit.specs.Emitted.{statements_at, statements_from, event_if, events_from, AreShort, function_of}

pub all_marked_append : (ks ls : List ℕ) (marks : List Bool) → all_marked (ks ++ ls) marks ≡ all_marked ls (all_marked ks marks)
all_marked_append [] ls marks = refl
all_marked_append (k ∷ ks) ls marks = all_marked_append ks ls (marked k marks)

pub statements_from-append : (ir : Ir) (model : Model) (f : FlatFn) (marks : List Bool) (place : ℕ) (code more : List Instr)
    → statements_from ir model f marks place (code ++ more) ≡ statements_from ir model f marks place code ++ statements_from ir model f marks (place + length code) more
statements_from-append ir model f marks place [] more = ap (λ k. statements_from ir model f marks k more) (omega arith)
statements_from-append ir model f marks place (i ∷ code) more =
    ap (λ l. statements_at ir model f marks place i ++ l) (statements_from-append ir model f marks (place + 1) code more)
    ∙ sym (append_assoc (statements_at ir model f marks place i) (statements_from ir model f marks (place + 1) code) (statements_from ir model f marks (place + 1 + length code) more))
    ∙ ap (λ k. statements_from ir model f marks place (i ∷ code) ++ statements_from ir model f marks k more) (omega arith)

pub events_from-append : (marks : List Bool) (k : ℕ) (names more : List Word)
    → events_from marks k (names ++ more) ≡ events_from marks k names ++ events_from marks (k + length names) more
events_from-append marks k [] more = ap (λ j. events_from marks j more) (omega arith)
events_from-append marks k (name ∷ names) more =
    ap (λ l. event_if (is_marked marks k) name ++ l) (events_from-append marks (k + 1) names more)
    ∙ sym (append_assoc (event_if (is_marked marks k) name) (events_from marks (k + 1) names) (events_from marks (k + 1 + length names) more))
    ∙ ap (λ j. events_from marks k (name ∷ names) ++ events_from marks j more) (omega arith)

-- marking goes on with one item more
pub mark_more : {A : Type 0} (f : A → List ℕ) (xs : List A) (i : ℕ) (x : A) (before : List Bool) {now next : List Bool} → i < length xs
    → x ≡ get_or xs i x → now ≡ all_marked (flat_map f (take i xs)) before → next ≡ all_marked (f x) now
    → next ≡ all_marked (flat_map f (take (i + 1) xs)) before
mark_more f xs i x before {now} {next} below is so_far here =
    here ∙ ap (all_marked (f x)) so_far
    ∙ sym (ap (λ ys. all_marked (flat_map f ys) before) (take_more xs i x below)
    ∙ ap (λ ks. all_marked ks before) (flat_map-append f (take i xs) (get_or xs i x ∷ []))
    ∙ all_marked_append (flat_map f (take i xs)) (flat_map f (get_or xs i x ∷ [])) before
    ∙ ap (λ y. all_marked (f y ++ []) (all_marked (flat_map f (take i xs)) before)) (sym is)
    ∙ ap (λ ks. all_marked ks (all_marked (flat_map f (take i xs)) before)) (append-nil (f x)))

pub mark_one_more : {A : Type 0} (f : A → ℕ) (xs : List A) (i : ℕ) (d : A) (before : List Bool) {now next : List Bool} → i < length xs
    → now ≡ all_marked (map f (take i xs)) before → next ≡ marked (f (get_or xs i d)) now
    → next ≡ all_marked (map f (take (i + 1) xs)) before
mark_one_more f xs i d before {now} {next} below so_far here =
    here ∙ ap (marked (f (get_or xs i d))) so_far
    ∙ sym (ap (λ ys. all_marked (map f ys) before) (take_more xs i d below)
    ∙ ap (λ ks. all_marked ks before) (map-append f (take i xs) (get_or xs i d ∷ []))
    ∙ all_marked_append (map f (take i xs)) (f (get_or xs i d) ∷ []) before)

-- so do events and statements
pub event_more : (marks : List Bool) (names : List Word) (i : ℕ) (x : Word) {now next : List Word} → i < length names
    → x ≡ get_or names i x → now ≡ events_from marks 0 (take i names) → next ≡ now ++ event_if (is_marked marks i) x
    → next ≡ events_from marks 0 (take (i + 1) names)
event_more marks names i x {now} {next} below is so_far here =
    let long : 0 + length (take i names) ≡ i = simp length-take (omega arith) in
    here ∙ ap (λ l. l ++ event_if (is_marked marks i) x) so_far
    ∙ sym (ap (events_from marks 0) (take_more names i x below)
    ∙ events_from-append marks 0 (take i names) (get_or names i x ∷ [])
    ∙ ap (λ k. events_from marks 0 (take i names) ++ events_from marks k (get_or names i x ∷ [])) long
    ∙ ap (λ y. events_from marks 0 (take i names) ++ (event_if (is_marked marks i) y ++ [])) (sym is)
    ∙ ap (λ l. events_from marks 0 (take i names) ++ l) (append-nil (event_if (is_marked marks i) x)))

pub statement_more : (ir : Ir) (model : Model) (f : FlatFn) (marks : List Bool) (code : List Instr) (i : ℕ) (x : Instr) {now next : List CStmt}
    → i < length code → x ≡ get_or code i x → now ≡ statements_from ir model f marks 0 (take i code)
    → next ≡ now ++ statements_at ir model f marks i x → next ≡ statements_from ir model f marks 0 (take (i + 1) code)
statement_more ir model f marks code i x {now} {next} below is so_far here =
    let long : 0 + length (take i code) ≡ i = simp length-take (omega arith) in
    here ∙ ap (λ l. l ++ statements_at ir model f marks i x) so_far
    ∙ sym (ap (statements_from ir model f marks 0) (take_more code i x below)
    ∙ statements_from-append ir model f marks 0 (take i code) (get_or code i x ∷ [])
    ∙ ap (λ k. statements_from ir model f marks 0 (take i code) ++ statements_from ir model f marks k (get_or code i x ∷ [])) long
    ∙ ap (λ y. statements_from ir model f marks 0 (take i code) ++ (statements_at ir model f marks i y ++ [])) (sym is)
    ∙ ap (λ l. statements_from ir model f marks 0 (take i code) ++ l) (append-nil (statements_at ir model f marks i x)))

short_append : (functions more : List FlatFn) → AreShort functions → AreShort more → AreShort (functions ++ more)
short_append [] more h k = k
short_append (g ∷ functions) more h k = (h.0, short_append functions more h.1 k)

pub short_more : (functions : List FlatFn) (i : ℕ) (g : FlatFn) → i < length functions → g ≡ get_or functions i g
    → AreShort (take i functions) → length g.code < 2 ^ 64 → AreShort (take (i + 1) functions)
short_more functions i g below is so_far here =
    let one : AreShort (get_or functions i g ∷ []) = subst (λ (x : FlatFn). AreShort (x ∷ [])) is (here, tt) in
    subst AreShort (sym (take_more functions i g below)) (short_append (take i functions) (get_or functions i g ∷ []) so_far one)

pub function_more : (ir : Ir) (model : Model) (functions : List FlatFn) (i : ℕ) (g : FlatFn) {now next : List CFunction} → i < length functions
    → g ≡ get_or functions i g → now ≡ map (function_of ir model) (take i functions) → next ≡ now ++ function_of ir model g ∷ []
    → next ≡ map (function_of ir model) (take (i + 1) functions)
function_more ir model functions i g {now} {next} below is so_far here =
    here ∙ ap (λ l. l ++ function_of ir model g ∷ []) so_far
    ∙ sym (ap (map (function_of ir model)) (take_more functions i g below) ∙ map-append (function_of ir model) (take i functions) (get_or functions i g ∷ [])
    ∙ ap (λ (x : FlatFn). map (function_of ir model) (take i functions) ++ function_of ir model x ∷ []) (sym is))
