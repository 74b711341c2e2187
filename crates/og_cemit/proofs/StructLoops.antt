-- Loops that make structs, the names of their members, and paths.
use Rattle.std.proofs.Common.{◌≡◌, ℕ, zero, suc, ◌+◌, ◌-◌, ◌<◌, List, [], ◌∷◌, ◌++◌, Bool, Option, max, map, length, take, get_or, slice_get, refl, sym, ap, subst, ◌∙◌, arith}
use Rattle.std.specs.Borrow.{Bor}
use Rattle.std.proofs.lemmas.List.{take_more, map-append}
use Rattle.og_names.specs.declared.Word.{Word}
use Rattle.og_names.proofs.Loops.{Left, left_more}
use Rattle.og_types.specs.declared.Sort.{Sort}
use Rattle.og_model.specs.declared.Model.{Model}
use Rattle.og_ir.specs.declared.Ir.{Ir}
use Rattle.og_ir.specs.declared.Step2.{Step2}
use Rattle.og_ir.specs.declared.Step2.TheVariants as step
use Rattle.og_csubset.specs.declared.CStep.{CStep}
use Rattle.og_csubset.specs.Fair.{Held}
use Rattle.og_cload.specs.Names.{names_in}
use Rattle.og_cemit.specs.Marks.{is_marked}
use Rattle.og_cemit.specs.Structs.{leading, most_from, by_number, numbered_from, has_few_parts, HaveFewParts, parts_marked, settled}
use Rattle.og_cemit.specs.Emitted.{selector_of, step_behind, held_past, held_behind, selectors}
use Rattle.og_cemit.proofs.Opens.{selector-Field, selector-Index}

-- a list that grows from a front
pub grown : {B : Type 0} (front : List B) (x : B) (rest : List B) → front ++ (x ∷ rest) ≡ (front ++ x ∷ []) ++ rest
grown [] x rest = refl
grown (y ∷ front) x rest = ap (λ l. y ∷ l) (grown front x rest)

pub most_append : (most : ℕ) (names more : List (List ℕ)) → most_from most (names ++ more) ≡ most_from (most_from most names) more
most_append most [] more = refl
most_append most (name ∷ names) more = most_append (max most (leading name)) names more

pub ruleset struct_loops = (most_append)

-- a list that is mapped has one item more
pub map_more : {A B : Type 0} (f : A → B) (xs : List A) (i : ℕ) (x : A) {now next : List B} → i < length xs → x ≡ get_or xs i x
    → now ≡ map f (take i xs) → next ≡ now ++ f x ∷ [] → next ≡ map f (take (i + 1) xs)
map_more f xs i x {now} {next} below is so_far here =
    here ∙ ap (λ l. l ++ f x ∷ []) so_far
    ∙ sym (ap (map f) (take_more xs i x below) ∙ map-append f (take i xs) (get_or xs i x ∷ [])
    ∙ ap (λ y. map f (take i xs) ++ f y ∷ []) (sym is))

few_append : (sorts more : List Sort) → HaveFewParts sorts → HaveFewParts more → HaveFewParts (sorts ++ more)
few_append [] more h k = k
few_append (s ∷ sorts) more h k = (h.0, few_append sorts more h.1 k)

pub few_more : (sorts : List Sort) (i : ℕ) (s : Sort) → i < length sorts → s ≡ get_or sorts i s → HaveFewParts (take i sorts)
    → has_few_parts s → HaveFewParts (take (i + 1) sorts)
few_more sorts i s below is so_far here =
    let one : HaveFewParts (get_or sorts i s ∷ []) = subst (λ x. HaveFewParts (x ∷ [])) is (here, tt) in
    subst HaveFewParts (sym (take_more sorts i s below)) (few_append (take i sorts) (get_or sorts i s ∷ []) so_far one)

item_at : {X : Type 0} (xs : List X) (i : ℕ) → i < length xs → (x : X) × (x ≡ get_or xs i x)
item_at [] i less = absurd (omega (arith, less))
item_at (x ∷ xs) zero less = (x, refl)
item_at (x ∷ xs) (suc i) less = item_at xs i (omega (arith, less))

pub numbered_more : (names : List (Bor (List ℕ))) (i : ℕ) (now next : List Word) (w : Word) (total : List Word) → i < length names
    → w ≡ by_number i → next ≡ now ++ w ∷ [] → Left (λ ys. now ++ numbered_from i (names_in ys)) names i total
    → Left (λ ys. next ++ numbered_from (i + 1) (names_in ys)) names (i + 1) total
numbered_more names i now next w total less is grows left =
    let one = item_at names i less in
    left_more (λ ys. now ++ numbered_from i (names_in ys)) (λ ys. next ++ numbered_from (i + 1) (names_in ys)) names i one.0 total less one.1
    (λ ys. grown now (by_number i) (numbered_from (i + 1) (names_in ys))
    ∙ ap (λ v. (now ++ v ∷ []) ++ numbered_from (i + 1) (names_in ys)) (sym is)
    ∙ ap (λ l. l ++ numbered_from (i + 1) (names_in ys)) (sym grows))
    left

pub past_behind : (ir : Ir) (model : Model) (sorts : List Sort) (held : Option Held) (x : Step2)
    → held_past sorts held (selector_of ir model x) ≡ held_behind sorts held x
past_behind ir model sorts held (step.Field k) = ap (held_past sorts held) (selector-Field ir model k)
past_behind ir model sorts held (step.Index e) = ap (held_past sorts held) (selector-Index ir model e)

pub path_more : (ir : Ir) (model : Model) (words : List (List Word)) (sorts : List Sort) (held behind : Option Held) (items steps : List Step2)
    (i : ℕ) (x : Step2) (now next : List CStep) (s : CStep) (total : List CStep) → items ≡ steps → i < length items → x ≡ get_or items i x
    → s ≡ step_behind words held (selector_of ir model x) → next ≡ now ++ s ∷ [] → behind ≡ held_behind sorts held x
    → Left (λ ys. now ++ selectors words sorts held (map (selector_of ir model) ys)) steps i total
    → Left (λ ys. next ++ selectors words sorts behind (map (selector_of ir model) ys)) steps (i + 1) total
path_more ir model words sorts held behind items steps i x now next s total same less at is grows moves left =
    left_more (λ ys. now ++ selectors words sorts held (map (selector_of ir model) ys)) (λ ys. next ++ selectors words sorts behind (map (selector_of ir model) ys))
    steps i x total (subst (λ xs. i < length xs) same less) (subst (λ xs. x ≡ get_or xs i x) same at)
    (λ ys. grown now (step_behind words held (selector_of ir model x)) (selectors words sorts (held_past sorts held (selector_of ir model x)) (map (selector_of ir model) ys))
    ∙ ap (λ v. (now ++ v ∷ []) ++ selectors words sorts (held_past sorts held (selector_of ir model x)) (map (selector_of ir model) ys)) (sym is)
    ∙ ap (λ l. l ++ selectors words sorts (held_past sorts held (selector_of ir model x)) (map (selector_of ir model) ys)) (sym grows)
    ∙ ap (λ h. next ++ selectors words sorts h (map (selector_of ir model) ys)) (past_behind ir model sorts held x ∙ sym moves))
    left

pub settled_more : (sorts : List Sort) (count later : ℕ) → later < count → (marks : List Bool)
    → settled sorts (count - (later + 1)) (parts_marked (is_marked marks (count - 1 - later)) (slice_get sorts (count - 1 - later)) marks)
    ≡ settled sorts (count - later) marks
settled_more sorts count later less marks =
    let here : count - later ≡ suc (count - 1 - later) = omega (arith, less) in
    let there : count - (later + 1) ≡ count - 1 - later = omega (arith, less) in
    ap (λ n. settled sorts n (parts_marked (is_marked marks (count - 1 - later)) (slice_get sorts (count - 1 - later)) marks)) there
    ∙ sym (ap (λ n. settled sorts n marks) here)
