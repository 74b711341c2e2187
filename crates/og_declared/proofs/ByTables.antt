-- What is found in tables is what is declared: the violations by tables are those of the rules.
use Rattle.std.proofs.Common.{◌≡◌, ℕ, suc, Bool, true, false, cond, ◌||◌, ◌⊎◌, inl, inr, List, [], ◌∷◌, ◌++◌, length, Option, Some, None, is_some, refl, sym, ap, ◌∙◌}
use Rattle.std.specs.List.{flat_map, list_any}
use Rattle.std.specs.Option.{option_map}
use Rattle.std.specs.Str.{bytes_eq}
use Rattle.std.specs.Cmp.Lexicographic.{bytes_decides}
use Rattle.og_base.specs.declared.Violation.{Violation}
use Rattle.og_base.specs.Order.{first_from}
use Rattle.og_names.specs.Folding.{place_of, with_name}
use Rattle.og_names.proofs.Places.{placed, with_known, with_new}
use Rattle.og_ast.specs.declared.ground.Name.{Name}
use Rattle.og_ast.specs.declared.system.BlockTree.{BlockTree}
use Rattle.og_ast.specs.declared.system.SystemPart.{SystemPart}
use Rattle.og_ast.specs.declared.system.SystemPart.TheVariants as piece
use Rattle.og_ast.specs.declared.system.SystemTree.{SystemTree}
use Rattle.og_ast.specs.declared.system.Unit.{Unit as UnitTree}
use Rattle.og_ast.specs.declared.system.Unit.TheVariants as unit
use Rattle.og_system.specs.Scopes.{key, built_in, names_in_block, names_in_system, processes_at_file_level}
use Rattle.og_system.specs.Tables.{with_names}
use Rattle.og_system.proofs.Noticed.{first_from_both}
use Rattle.og_declared.specs.declared.visible.Outside.{Outside}
use Rattle.og_declared.specs.Spaces.{signals_in, spaces_of_unit, in_space}
use Rattle.og_declared.specs.Sorts.{has, names_one, is_outside, is_seen_in_system, is_seen_in_block, in_signal, in_block_part, in_system_part, in_unit, in_sorts}
use Rattle.og_declared.specs.Tables.{outside_tables, is_other, part_by, unit_by}
use Rattle.og_declared.specs.Violations.{violations}

-- ---- tables

-- in a list with one more at its end
abbrev at_end : Option ℕ → Bool → ℕ → Option ℕ
at_end (Some n) is end = Some n
at_end None is end = cond is (Some end) None

step : (here : Bool) (later : Option ℕ) (is : Bool) (end : ℕ) → cond here (Some 0) (option_map suc (at_end later is end)) ≡ at_end (cond here (Some 0) (option_map suc later)) is (suc end)
step true later is end = refl
step false (Some n) is end = refl
step false None true end = refl
step false None false end = refl

place_more : (names : List (List ℕ)) (k x : List ℕ) → place_of (names ++ k ∷ []) x ≡ at_end (place_of names x) (bytes_eq x k) (length names)
place_more [] k x = refl
place_more (known ∷ names) k x =
    ap (λ (o : Option ℕ). cond (bytes_eq x known) (Some 0) (option_map suc o)) (place_more names k x)
    ∙ step (bytes_eq x known) (place_of names x) (bytes_eq x k) (length names)

or_nothing : (b : Bool) → (b || false) ≡ b
or_nothing true = refl
or_nothing false = refl

or_assoc : (a b c : Bool) → (a || (b || c)) ≡ ((a || b) || c)
or_assoc true b c = refl
or_assoc false b c = refl

-- a known name, or one more
some_more : (names : List (List ℕ)) (k x : List ℕ) → is_some (place_of (with_name names k) x) ≡ (is_some (place_of names x) || bytes_eq x k)
some_more names k x = by (placed names k)
  where
    end : (o : Option ℕ) (b : Bool) (n : ℕ) → is_some (at_end o b n) ≡ (is_some o || b)
    end (Some m) b n = refl
    end None true n = refl
    end None false n = refl

    known : (b : Bool) (j : ℕ) → place_of names k ≡ Some j → bytes_eq x k ≡ b → is_some (place_of names x) ≡ (is_some (place_of names x) || b)
    known false j at e = sym (or_nothing (is_some (place_of names x)))
    known true j at e =
        let there : is_some (place_of names x) ≡ true = ap (λ y. is_some (place_of names y)) ((bytes_decides x k).0 e) ∙ ap is_some at in
        rw there refl

    by : ((j : ℕ) × (place_of names k ≡ Some j)) ⊎ (place_of names k ≡ None) → is_some (place_of (with_name names k) x) ≡ (is_some (place_of names x) || bytes_eq x k)
    by (inl there) = ap (λ ns. is_some (place_of ns x)) (with_known names k there.0 there.1) ∙ known (bytes_eq x k) there.0 there.1 refl
    by (inr none) = ap (λ ns. is_some (place_of ns x)) (with_new names k none) ∙ ap is_some (place_more names k x) ∙ end (place_of names x) (bytes_eq x k) (length names)

in_all : (table : List (List ℕ)) (names : List Name) (name : List ℕ) → has (with_names table names) name ≡ (has table name || names_one names name)
in_all table [] name = sym (or_nothing (has table name))
in_all table (n ∷ ns) name =
    in_all (with_name table (key n)) ns name ∙ ap (λ b. b || names_one ns name) (some_more table (key n) name)
    ∙ sym (or_assoc (has table name) (bytes_eq name (key n)) (names_one ns name))

in_new : (names : List Name) (name : List ℕ) → has (with_names [] names) name ≡ names_one names name
in_new names name = in_all [] names name

-- ---- what is seen

swapped : (a b c : Bool) → ((a || b) || c) ≡ (b || (a || c))
swapped true true c = refl
swapped true false c = refl
swapped false true c = refl
swapped false false c = refl

outside_is : (types constants : List (List ℕ)) (units : List UnitTree) (name : List ℕ)
    → (has (outside_tables types constants units).others name || list_any (bytes_eq name) built_in) ≡ is_outside constants units name
outside_is types constants units name =
    ap (λ b. b || list_any (bytes_eq name) built_in) (in_all constants (processes_at_file_level units) name)
    ∙ swapped (has constants name) (names_one (processes_at_file_level units) name) (list_any (bytes_eq name) built_in)

seen_in_system : (types constants : List (List ℕ)) (units : List UnitTree) (system : SystemTree)
    → is_other (outside_tables types constants units) (with_names [] (names_in_system system)) [] ≡ is_seen_in_system constants units system
seen_in_system types constants units system = λ i name. in_new (names_in_system system) name i || outside_is types constants units name i

seen_in_block : (types constants : List (List ℕ)) (units : List UnitTree) (system : SystemTree) (block : BlockTree)
    → is_other (outside_tables types constants units) (with_names [] (names_in_system system)) (with_names [] (names_in_block block)) ≡ is_seen_in_block constants units system block
seen_in_block types constants units system block = λ i name.
    in_new (names_in_block block) name i || (in_new (names_in_system system) name i || outside_is types constants units name i)

-- ---- violations

same_each : {X A : Type 0} (f g : X → List A) → ((x : X) → f x ≡ g x) → (xs : List X) → flat_map f xs ≡ flat_map g xs
same_each f g same [] = refl
same_each f g same (x ∷ xs) = λ i. same x i ++ same_each f g same xs i

same_part : (types constants : List (List ℕ)) (units : List UnitTree) (system : SystemTree) (part : SystemPart)
    → part_by (outside_tables types constants units) (with_names [] (names_in_system system)) part ≡ in_system_part types constants units system part
same_part types constants units system (piece.Use use') = refl
same_part types constants units system (piece.Signal signal) = ap (λ other. flat_map (in_signal types other) signal.signals) (seen_in_system types constants units system)
same_part types constants units system (piece.Channel channel) = refl
same_part types constants units system (piece.Procedure procedure) = refl
same_part types constants units system (piece.Block block) = ap (λ other. flat_map (in_block_part types other) block.parts) (seen_in_block types constants units system block)

same_unit : (types constants : List (List ℕ)) (units : List UnitTree) (one : UnitTree) → unit_by (outside_tables types constants units) one ≡ in_unit types constants units one
same_unit types constants units (unit.Use use') = refl
same_unit types constants units (unit.System system) =
    same_each (part_by (outside_tables types constants units) (with_names [] (names_in_system system))) (in_system_part types constants units system) (same_part types constants units system) system.parts
same_unit types constants units (unit.Process process) = refl

-- ---- what the code notes

-- in all units
pub all_by : (types constants : List (List ℕ)) (units : List UnitTree) (outside : Outside) (first a b c d : Option Violation)
    → a ≡ first_from first (in_space (signals_in units)) → b ≡ first_from a (in_space (processes_at_file_level units)) → c ≡ first_from b (flat_map in_space (flat_map spaces_of_unit units))
    → outside ≡ outside_tables types constants units → d ≡ first_from c (flat_map (unit_by outside) units) → d ≡ first_from first (violations types constants units)
all_by types constants units outside first a b c d ea eb ec eo ed =
    let x = in_space (signals_in units) in
    let y = in_space (processes_at_file_level units) in
    let z = flat_map in_space (flat_map spaces_of_unit units) in
    let w = in_sorts types constants units in
    let same : flat_map (unit_by outside) units ≡ w =
    ap (λ o. flat_map (unit_by o) units) eo ∙ same_each (unit_by (outside_tables types constants units)) (in_unit types constants units) (same_unit types constants units) units in
    let front : c ≡ first_from first (x ++ (y ++ z)) =
    ec ∙ ap (λ v. first_from v z) eb ∙ sym (first_from_both a y z) ∙ ap (λ v. first_from v (y ++ z)) ea ∙ sym (first_from_both first x (y ++ z)) in
    ed ∙ ap (first_from c) same ∙ ap (λ v. first_from v w) front ∙ sym (first_from_both first (x ++ (y ++ z)) w)
