-- Loops over the names of one space, with the names so far in a table.
use Rattle.std.proofs.Common.{◌≡◌, ℕ, ◌+◌, ◌≤◌, ◌<◌, List, [], ◌∷◌, ◌++◌, length, get_or, map, Option, refl, sym, ap, subst, ◌∙◌, append_assoc}
use Rattle.std.specs.List.{flat_map}
use Rattle.std.proofs.lemmas.List.{append-nil}
use Rattle.og_base.specs.declared.Rule.TheVariants.{N2, N4}
use Rattle.og_base.specs.declared.Violation.{Violation}
use Rattle.og_base.specs.Order.{first_from}
use Rattle.og_names.specs.Folding.{with_name}
use Rattle.og_names.proofs.Loops.{Left, left_first, left_more, left_all}
use Rattle.og_ast.specs.declared.ground.Name.{Name}
use Rattle.og_ast.specs.declared.system.SigTree.{SigTree}
use Rattle.og_ast.specs.declared.system.SystemPart.{SystemPart}
use Rattle.og_system.specs.Scopes.{key, name_of_signal, channels_of_system_part, blocks_of_system_part, procedures_of_system_part, violated_if}
use Rattle.og_system.specs.Tables.{with_names}
use Rattle.og_system.proofs.Adding.{with_both, Adding, adding_first, adding_more, adding_all, Naming, naming_first, naming_more, naming_all}
use Rattle.og_system.proofs.ByTables.{in_names}
use Rattle.og_system.proofs.Noticed.{first_from_both}
use Rattle.og_declared.specs.Spaces.{has_two_underscores, each_declared_after, in_space, spaces_of_part}
use Rattle.og_declared.specs.Tables.{declared_by, each_declared_by, in_spaces_of_part}
use Rattle.og_declared.proofs.Noticing.{nested}

pub each_by_both : (table : List (List ℕ)) (xs ys : List Name) → each_declared_by table (xs ++ ys) ≡ each_declared_by table xs ++ each_declared_by (with_names table xs) ys
each_by_both table [] ys = refl
each_by_both table (x ∷ xs) ys =
    ap (λ vs. declared_by table x ++ vs) (each_by_both (with_name table (key x)) xs ys)
    ∙ sym (append_assoc (declared_by table x) (each_declared_by (with_name table (key x)) xs) (each_declared_by (with_names (with_name table (key x)) xs) ys))

-- where the table has the names before them
each_is : (earlier names : List Name) → each_declared_by (with_names [] earlier) names ≡ each_declared_after earlier names
each_is earlier [] = refl
each_is earlier (name ∷ names) =
    let rest : each_declared_by (with_name (with_names [] earlier) (key name)) names ≡ each_declared_after (earlier ++ name ∷ []) names =
    ap (λ table. each_declared_by table names) (sym (with_both [] earlier (name ∷ []))) ∙ each_is (earlier ++ name ∷ []) names in
    λ i. (violated_if (in_names earlier name i) N2 name ++ violated_if (has_two_underscores name.word.bytes) N4 name) ++ rest i

pub space_is : (names : List Name) → each_declared_by [] names ≡ in_space names
space_is names = each_is [] names

-- ---- one name

pub one_declared : (table : List (List ℕ)) (name : Name) (first next : Option Violation) → next ≡ first_from first (declared_by table name) → next ≡ first_from first (each_declared_by table (name ∷ []))
one_declared table name first next is = is ∙ ap (first_from first) (sym (append-nil (declared_by table name)))

-- ---- loops over parts with names

pub record Spacing {X : Type 0} (f : X → List Name) (xs : List X) (i : ℕ) (table start : List (List ℕ)) (now first : Option Violation) : Type 0 where
  pub adding : Adding f xs i table start
  pub left : Left (λ ys. first_from now (each_declared_by table (flat_map f ys))) xs i (first_from first (each_declared_by start (flat_map f xs)))

pub spacing_first : {X : Type 0} (f : X → List Name) (xs : List X) (start : List (List ℕ)) (first : Option Violation) → Spacing f xs 0 start start first first
spacing_first f xs start first = record { adding = adding_first f xs start; left = left_first (λ ys. first_from first (each_declared_by start (flat_map f ys))) xs }

pub spacing_new : {X : Type 0} (f : X → List Name) (xs : List X) (table : List (List ℕ)) (first : Option Violation) → table ≡ [] → Spacing f xs 0 table [] first first
spacing_new f xs table first none = subst (λ t. Spacing f xs 0 t [] first first) (sym none) (spacing_first f xs [] first)

pub spacing_more : {X : Type 0} (f : X → List Name) (xs : List X) (i : ℕ) (x : X) (table next start : List (List ℕ)) (now after first : Option Violation)
    → i < length xs → x ≡ get_or xs i x → next ≡ with_names table (f x) → after ≡ first_from now (each_declared_by table (f x))
    → Spacing f xs i table start now first → Spacing f xs (i + 1) next start after first
spacing_more {X = X} f xs i x table next start now after first lt at is noted spacing = record {
  adding = adding_more f xs i x table next start lt at is spacing.adding;
  left = left_more (λ ys. first_from now (each_declared_by table (flat_map f ys))) (λ ys. first_from after (each_declared_by next (flat_map f ys))) xs i x _ lt at step spacing.left;
}
  where
    step : (ys : List X) → first_from now (each_declared_by table (f x ++ flat_map f ys)) ≡ first_from after (each_declared_by next (flat_map f ys))
    step ys =
        ap (first_from now) (each_by_both table (f x) (flat_map f ys))
        ∙ first_from_both now (each_declared_by table (f x)) (each_declared_by (with_names table (f x)) (flat_map f ys))
        ∙ (λ j. first_from (sym noted j) (each_declared_by (sym is j) (flat_map f ys)))

pub spacing_table : {X : Type 0} (f : X → List Name) (xs : List X) (i : ℕ) (table start : List (List ℕ)) (now first : Option Violation)
    → length xs ≤ i → Spacing f xs i table start now first → table ≡ with_names start (flat_map f xs)
spacing_table f xs i table start now first le spacing = adding_all f xs i table start le spacing.adding

pub spacing_noted : {X : Type 0} (f : X → List Name) (xs : List X) (i : ℕ) (table start : List (List ℕ)) (now first : Option Violation)
    → length xs ≤ i → Spacing f xs i table start now first → now ≡ first_from first (each_declared_by start (flat_map f xs))
spacing_noted f xs i table start now first le spacing = left_all (λ ys. first_from now (each_declared_by table (flat_map f ys))) xs i _ le spacing.left

-- at the end of a whole space
pub spacing_all : {X : Type 0} (f : X → List Name) (xs : List X) (i : ℕ) (table : List (List ℕ)) (now first : Option Violation)
    → length xs ≤ i → Spacing f xs i table [] now first → now ≡ first_from first (in_space (flat_map f xs))
spacing_all f xs i table now first le spacing = spacing_noted f xs i table [] now first le spacing ∙ ap (first_from first) (space_is (flat_map f xs))

-- ---- the same, signal by signal

pub record SpacingEach (xs : List SigTree) (i : ℕ) (table start : List (List ℕ)) (now first : Option Violation) : Type 0 where
  pub naming : Naming name_of_signal xs i table start
  pub left : Left (λ ys. first_from now (each_declared_by table (map name_of_signal ys))) xs i (first_from first (each_declared_by start (map name_of_signal xs)))

pub each_first : (xs : List SigTree) (start : List (List ℕ)) (first : Option Violation) → SpacingEach xs 0 start start first first
each_first xs start first = record { naming = naming_first name_of_signal xs start; left = left_first (λ ys. first_from first (each_declared_by start (map name_of_signal ys))) xs }

pub each_more : (xs : List SigTree) (i : ℕ) (x : SigTree) (table next start : List (List ℕ)) (now after first : Option Violation)
    → i < length xs → x ≡ get_or xs i x → next ≡ with_name table (key x.name) → after ≡ first_from now (declared_by table x.name)
    → SpacingEach xs i table start now first → SpacingEach xs (i + 1) next start after first
each_more xs i x table next start now after first lt at is noted spacing = record {
  naming = naming_more name_of_signal xs i x table next start lt at is spacing.naming;
  left = left_more (λ ys. first_from now (each_declared_by table (map name_of_signal ys))) (λ ys. first_from after (each_declared_by next (map name_of_signal ys))) xs i x _ lt at step spacing.left;
}
  where
    step : (ys : List SigTree) → first_from now (declared_by table x.name ++ each_declared_by (with_name table (key x.name)) (map name_of_signal ys)) ≡ first_from after (each_declared_by next (map name_of_signal ys))
    step ys =
        first_from_both now (declared_by table x.name) (each_declared_by (with_name table (key x.name)) (map name_of_signal ys))
        ∙ (λ j. first_from (sym noted j) (each_declared_by (sym is j) (map name_of_signal ys)))

pub each_table : (xs : List SigTree) (i : ℕ) (table start : List (List ℕ)) (now first : Option Violation)
    → length xs ≤ i → SpacingEach xs i table start now first → table ≡ with_names start (map name_of_signal xs)
each_table xs i table start now first le spacing = naming_all name_of_signal xs i table start le spacing.naming

pub each_noted : (xs : List SigTree) (i : ℕ) (table start : List (List ℕ)) (now first : Option Violation)
    → length xs ≤ i → SpacingEach xs i table start now first → now ≡ first_from first (each_declared_by start (map name_of_signal xs))
each_noted xs i table start now first le spacing = left_all (λ ys. first_from now (each_declared_by table (map name_of_signal ys))) xs i _ le spacing.left

-- ---- the spaces of a system

pub system_noted : (parts : List SystemPart) (first a b c d : Option Violation)
    → a ≡ first_from first (in_space (flat_map channels_of_system_part parts)) → b ≡ first_from a (in_space (flat_map blocks_of_system_part parts))
    → c ≡ first_from b (in_space (flat_map procedures_of_system_part parts)) → d ≡ first_from c (flat_map in_spaces_of_part parts)
    → d ≡ first_from first (flat_map in_space (flat_map channels_of_system_part parts ∷ flat_map blocks_of_system_part parts ∷ flat_map procedures_of_system_part parts ∷ flat_map spaces_of_part parts))
system_noted parts first a b c d ea eb ec ed =
    let x = in_space (flat_map channels_of_system_part parts) in
    let y = in_space (flat_map blocks_of_system_part parts) in
    let z = in_space (flat_map procedures_of_system_part parts) in
    let w = flat_map in_space (flat_map spaces_of_part parts) in
    ed ∙ ap (first_from c) (nested in_space spaces_of_part parts)
    ∙ ap (λ v. first_from v w) ec
    ∙ sym (first_from_both b z w)
    ∙ ap (λ v. first_from v (z ++ w)) eb
    ∙ sym (first_from_both a y (z ++ w))
    ∙ ap (λ v. first_from v (y ++ (z ++ w))) ea
    ∙ sym (first_from_both first x (y ++ (z ++ w)))

pub ruleset spacings = (first_from_both, one_declared, spacing_first, spacing_new, spacing_more, spacing_table, spacing_noted, spacing_all, each_first, each_more, each_table, each_noted)
