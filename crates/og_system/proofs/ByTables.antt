-- What is seen by tables is what is declared: the violations by tables are those of the rules.
use Rattle.std.proofs.Common.{◌≡◌, ℕ, suc, Bool, true, false, cond, not, ◌||◌, ◌⊎◌, inl, inr, List, [], ◌∷◌, ◌++◌, length, Option, Some, None, is_some, refl, sym, ap, ◌∙◌}
use Rattle.std.specs.List.{flat_map}
use Rattle.std.specs.Option.{option_map}
use Rattle.std.specs.Str.{bytes_eq}
use Rattle.std.specs.Cmp.Lexicographic.{bytes_decides}
use Rattle.og_base.specs.declared.Rule.TheVariants.{N1}
use Rattle.og_base.specs.Order.{first_from, first_of}
use Rattle.og_names.specs.Folding.{place_of, with_name}
use Rattle.og_names.proofs.Places.{placed, with_known, with_new}
use Rattle.og_ast.specs.declared.ground.Name.{Name}
use Rattle.og_ast.specs.declared.system.BlockTree.{BlockTree}
use Rattle.og_ast.specs.declared.system.SystemPart.{SystemPart}
use Rattle.og_ast.specs.declared.system.SystemPart.TheVariants as piece
use Rattle.og_ast.specs.declared.system.SystemTree.{SystemTree}
use Rattle.og_ast.specs.declared.system.Unit.{Unit as UnitTree}
use Rattle.og_ast.specs.declared.system.Unit.TheVariants as unit
use Rattle.og_system.specs.Scopes.{key, is_among, is_outside, signals_in_block, routes_in_block, processes_in_block, names_in_block, signals_in_system, channels_in_system, blocks_in_system, names_in_system, processes_at_file_level, seen_in_system, seen_in_block, violated_if, in_channel}
use Rattle.og_system.specs.Bodies.{bodies, references, miscounted, in_block_part, in_system_part, in_unit, first_violation}
use Rattle.og_system.specs.Tables.{is_in, with_names, around_tables, system_tables, block_tables, seen_by_system, seen_by_block, system_part_by, unit_by}
use Rattle.og_system.proofs.Noticed.{first_from_both}

-- ---- tables

-- in a list with one more at its end
abbrev at_end : Option ℕ → Bool → ℕ → Option ℕ
at_end (Some n) is end = Some n
at_end None is end = cond is (Some end) None

step : (here : Bool) (later : Option ℕ) (is : Bool) (end : ℕ) → cond here (Some 0) (option_map suc (at_end later is end)) ≡ at_end (cond here (Some 0) (option_map suc later)) is (suc end)
step true later is end = refl
step false (Some n) is end = refl
step false None true end = refl
step false None false end = refl

place_more : (names : List (List ℕ)) (k x : List ℕ) → place_of (names ++ k ∷ []) x ≡ at_end (place_of names x) (bytes_eq x k) (length names)
place_more [] k x = refl
place_more (known ∷ names) k x =
    ap (λ (o : Option ℕ). cond (bytes_eq x known) (Some 0) (option_map suc o)) (place_more names k x)
    ∙ step (bytes_eq x known) (place_of names x) (bytes_eq x k) (length names)

or_nothing : (b : Bool) → (b || false) ≡ b
or_nothing true = refl
or_nothing false = refl

or_assoc : (a b c : Bool) → (a || (b || c)) ≡ ((a || b) || c)
or_assoc true b c = refl
or_assoc false b c = refl

-- a known name, or one more
some_more : (names : List (List ℕ)) (k x : List ℕ) → is_some (place_of (with_name names k) x) ≡ (is_some (place_of names x) || bytes_eq x k)
some_more names k x = by (placed names k)
  where
    end : (o : Option ℕ) (b : Bool) (n : ℕ) → is_some (at_end o b n) ≡ (is_some o || b)
    end (Some m) b n = refl
    end None true n = refl
    end None false n = refl

    known : (b : Bool) (j : ℕ) → place_of names k ≡ Some j → bytes_eq x k ≡ b → is_some (place_of names x) ≡ (is_some (place_of names x) || b)
    known false j at e = sym (or_nothing (is_some (place_of names x)))
    known true j at e =
        let there : is_some (place_of names x) ≡ true = ap (λ y. is_some (place_of names y)) ((bytes_decides x k).0 e) ∙ ap is_some at in
        rw there refl

    by : ((j : ℕ) × (place_of names k ≡ Some j)) ⊎ (place_of names k ≡ None) → is_some (place_of (with_name names k) x) ≡ (is_some (place_of names x) || bytes_eq x k)
    by (inl there) = ap (λ ns. is_some (place_of ns x)) (with_known names k there.0 there.1) ∙ known (bytes_eq x k) there.0 there.1 refl
    by (inr none) = ap (λ ns. is_some (place_of ns x)) (with_new names k none) ∙ ap is_some (place_more names k x) ∙ end (place_of names x) (bytes_eq x k) (length names)

in_all : (table : List (List ℕ)) (names : List Name) (name : Name) → is_in (with_names table names) name ≡ (is_in table name || is_among names name)
in_all table [] name = sym (or_nothing (is_in table name))
in_all table (n ∷ ns) name =
    in_all (with_name table (key n)) ns name ∙ ap (λ b. b || is_among ns name) (some_more table (key n) (key name))
    ∙ sym (or_assoc (is_in table name) (bytes_eq (key name) (key n)) (is_among ns name))

-- a table of names has those names
pub in_names : (names : List Name) (name : Name) → is_in (with_names [] names) name ≡ is_among names name
in_names names name = in_all [] names name

-- ---- what is seen

same_in_system : (units : List UnitTree) (types : List (List ℕ)) (system : SystemTree) → seen_by_system (around_tables units types) (system_tables system) ≡ seen_in_system units types system
same_in_system units types system = λ i. record {
  signal = λ name. in_names (signals_in_system system) name i;
  channel = λ name. in_names (channels_in_system system) name i;
  route = is_among [];
  block = λ name. in_names (blocks_in_system system) name i;
  process = λ name. in_names (processes_at_file_level units) name i;
  body = λ name. in_names (processes_at_file_level units) name i;
  any = λ name. in_names (names_in_system system) name i || (in_names (processes_at_file_level units) name i || is_outside types name);
}

same_in_block : (units : List UnitTree) (types : List (List ℕ)) (system : SystemTree) (block : BlockTree)
    → seen_by_block (around_tables units types) (system_tables system) (block_tables block) ≡ seen_in_block units types system block
same_in_block units types system block = λ i. record {
  signal = λ name. in_names (signals_in_block block) name i || in_names (signals_in_system system) name i;
  channel = λ name. in_names (channels_in_system system) name i;
  route = λ name. in_names (routes_in_block block) name i;
  block = λ name. in_names (blocks_in_system system) name i;
  process = λ name. in_names (processes_in_block block) name i || in_names (processes_at_file_level units) name i;
  body = λ name. in_names (processes_at_file_level units) name i;
  any = λ name. in_names (names_in_block block) name i || (in_names (names_in_system system) name i || (in_names (processes_at_file_level units) name i || is_outside types name));
}

-- ---- violations

same_each : {X A : Type 0} (f g : X → List A) → ((x : X) → f x ≡ g x) → (xs : List X) → flat_map f xs ≡ flat_map g xs
same_each f g same [] = refl
same_each f g same (x ∷ xs) = λ i. same x i ++ same_each f g same xs i

same_part : (units : List UnitTree) (types : List (List ℕ)) (system : SystemTree) (part : SystemPart)
    → system_part_by (around_tables units types) (system_tables system) part ≡ in_system_part units types system part
same_part units types system (piece.Use use') = refl
same_part units types system (piece.Signal signal) = refl
same_part units types system (piece.Channel channel) = ap (λ seen. in_channel seen channel) (same_in_system units types system)
same_part units types system (piece.Procedure procedure) = refl
same_part units types system (piece.Block block) = ap (λ seen. flat_map (in_block_part seen) block.parts) (same_in_block units types system block)

same_unit : (units : List UnitTree) (types : List (List ℕ)) (one : UnitTree) → unit_by (around_tables units types) one ≡ in_unit units types one
same_unit units types (unit.Use use') = refl
same_unit units types (unit.System system) = same_each (system_part_by (around_tables units types) (system_tables system)) (in_system_part units types system) (same_part units types system) system.parts
same_unit units types (unit.Process process) = ap (λ b. violated_if (not b) N1 process.name) (in_names (references units) process.name)

pub first_by_tables : (file : ℕ) (types : List (List ℕ)) (units : List UnitTree)
    → first_from (first_of (miscounted file (bodies units))) (flat_map (unit_by (around_tables units types)) units) ≡ first_violation file types units
first_by_tables file types units =
    ap (first_from (first_of (miscounted file (bodies units)))) (same_each (unit_by (around_tables units types)) (in_unit units types) (same_unit units types) units)
    ∙ sym (first_from_both None (miscounted file (bodies units)) (flat_map (in_unit units types) units))
