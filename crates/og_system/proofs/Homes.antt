-- Where no rule is violated, the one body belongs to a block.
use Rattle.std.proofs.Common.{◌≡◌, ℕ, Bool, true, false, cond, not, ◌||◌, List, [], ◌∷◌, ◌++◌, Option, Some, None, refl, sym, ap, ◌∙◌}
use Rattle.std.specs.List.{flat_map, filter, list_any}
use Rattle.std.proofs.lemmas.List.Folds.{list_any-append}
use Rattle.og_base.specs.declared.Rule.TheVariants.{N1}
use Rattle.og_base.specs.declared.Violation.{Violation}
use Rattle.og_ast.specs.declared.ground.Name.{Name}
use Rattle.og_ast.specs.declared.system.BlockPart.{BlockPart}
use Rattle.og_ast.specs.declared.system.BlockPart.TheVariants as member
use Rattle.og_ast.specs.declared.system.ProcessTree.{ProcessTree}
use Rattle.og_ast.specs.declared.system.SystemPart.{SystemPart}
use Rattle.og_ast.specs.declared.system.SystemPart.TheVariants as piece
use Rattle.og_ast.specs.declared.system.SystemTree.{SystemTree}
use Rattle.og_ast.specs.declared.system.Unit.{Unit as UnitTree}
use Rattle.og_ast.specs.declared.system.Unit.TheVariants as unit
use Rattle.og_system.specs.Scopes.{is_among, folds_as, violated_if}
use Rattle.og_system.specs.Bodies.{Home, Body, home_at, body_at, bodies, bodies_of_unit, bodies_of_system_part, bodies_of_block_part, homes, homes_of_unit, homes_of_system_part, references, references_of_unit, references_of_system_part, references_in_block, refers, foremost, home_of, miscounted, in_unit, violations}

-- ---- a body that stands in a block

-- whether a body stands at file level
abbrev is_outside : Option Home → Bool
is_outside None = true
is_outside (Some home) = false

-- where the first of several bodies stands
abbrev stands_of : List Body → Option Home
stands_of [] = None
stands_of (b ∷ bs) = b.stands_in

differ : true ≡ false → ⊥
differ h = cc

abbrev front_inside : List Body → Type 0
front_inside bs = (b : Body) (more : List Body) → bs ≡ b ∷ more → is_outside b.stands_in ≡ false

both_inside : (xs ys : List Body) → front_inside xs → front_inside ys → front_inside (xs ++ ys)
both_inside [] ys in-xs in-ys = in-ys
both_inside (x ∷ xs) ys in-xs in-ys = λ b more e. ap (λ bs. is_outside (stands_of bs)) (sym e) ∙ in-xs x xs refl

each_inside : {X : Type 0} (f : X → List Body) → ((x : X) → front_inside (f x)) → (xs : List X) → front_inside (flat_map f xs)
each_inside f each [] = λ b more e. cc
each_inside f each (x ∷ xs) = both_inside (f x) (flat_map f xs) (each x) (each_inside f each xs)

member_inside : (home : Home) (part : BlockPart) → front_inside (bodies_of_block_part home part)
member_inside home (member.Signal signal) = λ b more e. cc
member_inside home (member.Route route) = λ b more e. cc
member_inside home (member.Link link) = λ b more e. cc
member_inside home (member.Process process) = λ b more e. ap (λ bs. is_outside (stands_of bs)) (sym e)
member_inside home (member.Reference reference) = λ b more e. cc

part_inside : (system : SystemTree) (part : SystemPart) → front_inside (bodies_of_system_part system part)
part_inside system (piece.Use use') = λ b more e. cc
part_inside system (piece.Signal signal) = λ b more e. cc
part_inside system (piece.Channel channel) = λ b more e. cc
part_inside system (piece.Procedure procedure) = λ b more e. cc
part_inside system (piece.Block block) = each_inside (bodies_of_block_part (home_at system block)) (member_inside (home_at system block)) block.parts

-- ---- a body at file level has a reference

no_front : (vs ws : List Violation) → vs ++ ws ≡ [] → vs ≡ []
no_front [] ws h = refl
no_front (v ∷ vs) ws h = cc

no_rest : (vs ws : List Violation) → vs ++ ws ≡ [] → ws ≡ []
no_rest [] ws h = h
no_rest (v ∷ vs) ws h = cc

referred : (b : Bool) (name : Name) → violated_if (not b) N1 name ≡ [] → b ≡ true
referred true name h = refl
referred false name h = cc

abbrev names_of_front : Body → List Body → Name
names_of_front other [] = other.process.name
names_of_front other (b ∷ bs) = b.process.name

outside_referred : (every : List UnitTree) (types : List (List ℕ)) (units : List UnitTree) (body : Body) (more : List Body)
    → flat_map bodies_of_unit units ≡ body ∷ more → is_outside body.stands_in ≡ true → flat_map (in_unit every types) units ≡ [] → is_among (references every) body.process.name ≡ true
outside_referred every types [] body more e out none = cc
outside_referred every types (unit.Use use' ∷ us) body more e out none = outside_referred every types us body more e out none
outside_referred every types (unit.System system ∷ us) body more e out none =
    by (flat_map (bodies_of_system_part system) system.parts) (each_inside (bodies_of_system_part system) (part_inside system) system.parts) e
    (λ f. outside_referred every types us body more f out (no_rest (in_unit every types (unit.System system)) (flat_map (in_unit every types) us) none))
  where
    by : (bs : List Body) → front_inside bs → bs ++ flat_map bodies_of_unit us ≡ body ∷ more → (flat_map bodies_of_unit us ≡ body ∷ more → is_among (references every) body.process.name ≡ true)
        → is_among (references every) body.process.name ≡ true
    by [] inside f go = go f
    by (b ∷ bs) inside f go =
        absurd (differ (sym out ∙ ap (λ cs. is_outside (stands_of cs)) (sym f) ∙ inside b bs refl))
outside_referred every types (unit.Process process ∷ us) body more e out none =
    ap (is_among (references every)) (sym (ap (names_of_front body) e))
    ∙ referred (is_among (references every) process.name) process.name (no_front (in_unit every types (unit.Process process)) (flat_map (in_unit every types) us) none)

-- ---- a reference stands in a block

any_part : (system : SystemTree) (process : ProcessTree) (parts : List SystemPart)
    → is_among (flat_map references_of_system_part parts) process.name ≡ list_any (refers process) (flat_map (homes_of_system_part system) parts)
any_part system process [] = refl
any_part system process (piece.Use use' ∷ ps) = any_part system process ps
any_part system process (piece.Signal signal ∷ ps) = any_part system process ps
any_part system process (piece.Channel channel ∷ ps) = any_part system process ps
any_part system process (piece.Procedure procedure ∷ ps) = any_part system process ps
any_part system process (piece.Block block ∷ ps) =
    list_any-append (folds_as process.name) (references_in_block block) (flat_map references_of_system_part ps)
    ∙ ap (λ b. is_among (references_in_block block) process.name || b) (any_part system process ps)

any_home : (process : ProcessTree) (units : List UnitTree) → is_among (flat_map references_of_unit units) process.name ≡ list_any (refers process) (flat_map homes_of_unit units)
any_home process [] = refl
any_home process (unit.Use use' ∷ us) = any_home process us
any_home process (unit.System system ∷ us) =
    list_any-append (folds_as process.name) (flat_map references_of_system_part system.parts) (flat_map references_of_unit us)
    ∙ (λ i. any_part system process system.parts i || any_home process us i)
    ∙ sym (list_any-append (refers process) (flat_map (homes_of_system_part system) system.parts) (flat_map homes_of_unit us))
any_home process (unit.Process other ∷ us) = any_home process us

found : {X : Type 0} (p : X → Bool) (xs : List X) → list_any p xs ≡ true → (x : X) × (foremost (filter p xs) ≡ Some x)
found p [] h = cc
found {X = X} p (x ∷ xs) h = by (p x) h (found p xs)
  where
    by : (b : Bool) → (b || list_any p xs) ≡ true → (list_any p xs ≡ true → (y : X) × (foremost (filter p xs) ≡ Some y)) → (y : X) × (foremost (cond b (x ∷ filter p xs) (filter p xs)) ≡ Some y)
    by true e go = (x, refl)
    by false e go = go e

pub has_home : (file : ℕ) (types : List (List ℕ)) (units : List UnitTree) (body : Body) → violations file types units ≡ [] → bodies units ≡ body ∷ [] → (home : Home) × (home_of units body ≡ Some home)
has_home file types units body none one = by body.stands_in refl
  where
    by : (o : Option Home) → body.stands_in ≡ o → (home : Home) × (home_of units (body_at body.process o) ≡ Some home)
    by (Some home) e = (home, refl)
    by None e =
        found (refers body.process) (homes units)
        (sym (any_home body.process units)
        ∙ outside_referred units types units body [] one (ap is_outside e) (no_rest (miscounted file (bodies units)) (flat_map (in_unit units types) units) none))
