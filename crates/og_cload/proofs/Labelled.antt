-- The labels of a body, the values of cases, and the calls of functions.
use Rattle.std.proofs.Common.{◌≡◌, ℕ, List, [], ◌∷◌, map, Bool, true, false, not, ◌&&◌, refl, sym, ap, ◌∙◌}
use Rattle.std.specs.List.{list_all, list_any, flat_map}
use Rattle.std.proofs.lemmas.List.Folds.{list_all-append, list_all-map}
use Rattle.og_csubset.specs.declared.CFunction.{CFunction}
use Rattle.og_csubset.specs.declared.CStmt.{CStmt}
use Rattle.og_csubset.specs.declared.CCase.{CCase}
use Rattle.og_csubset.specs.Kinds.{is_in}
use Rattle.og_csubset.specs.Loading.{labels_of, targets_of, repeats_case, has_twice, has_labels, functions_known}
use Rattle.og_cload.proofs.Known.{called_after, called_is}
use Rattle.og_names.proofs.Loops.{Left}

-- a test of all labels that statements jump to, statement by statement
pub targets_all : (p : List ℕ → Bool) (body : List CStmt) → list_all p (flat_map targets_of body) ≡ list_all (λ s. list_all p (targets_of s)) body
targets_all p [] = refl
targets_all p (s ∷ body) = list_all-append p (targets_of s) (flat_map targets_of body) ∙ ap (λ b. list_all p (targets_of s) && b) (targets_all p body)

pub cases_all : (p : List ℕ → Bool) (cases : List CCase) → list_all p (map (λ c. c.label.bytes) cases) ≡ list_all (λ c. p c.label.bytes) cases
cases_all p cases = list_all-map p (λ c. c.label.bytes) cases

pub called_first : (names : List (List ℕ)) (functions : List CFunction) → Left (λ ys. called_after names ys) functions 0 (functions_known names functions)
called_first names functions = record { is = called_is names functions }

pub ruleset labelled = (targets_all, cases_all, called_first)

pub labels_end : (f : CFunction) (body : List CStmt) (labels : List (List ℕ)) (targets repeats : Bool)
    → body ≡ f.body → labels ≡ labels_of body → has_twice labels ≡ false
    → targets ≡ list_all (λ s. list_all (λ label. is_in label labels) (targets_of s)) body → targets ≡ true
    → repeats ≡ list_any repeats_case body → not repeats ≡ has_labels f
labels_end f body labels targets repeats b l twice found true' again =
    let once : has_twice (labels_of f.body) ≡ false = ap (λ x. has_twice (labels_of x)) (sym b) ∙ ap has_twice (sym l) ∙ twice in
    let all : list_all (λ label. is_in label (labels_of f.body)) (flat_map targets_of f.body) ≡ true =
    ap (λ x. list_all (λ label. is_in label (labels_of x)) (flat_map targets_of x)) (sym b)
    ∙ ap (λ x. list_all (λ label. is_in label x) (flat_map targets_of body)) (sym l)
    ∙ targets_all (λ label. is_in label labels) body ∙ sym found ∙ true' in
    ap not (again ∙ ap (list_any repeats_case) b)
    ∙ sym (ap (λ x. not x && list_all (λ label. is_in label (labels_of f.body)) (flat_map targets_of f.body) && not (list_any repeats_case f.body)) once
    ∙ ap (λ x. x && not (list_any repeats_case f.body)) all)
