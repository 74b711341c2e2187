-- What is visible in a block is what has its name among those around the process, or stands outside.
use Rattle.std.proofs.Common.{◌≡◌, ℕ, Bool, true, false, ◌||◌, List, ◌++◌, refl, sym, ap, ◌∙◌}
use Rattle.std.proofs.lemmas.List.Folds.{list_any-append}
use Rattle.og_ast.specs.declared.ground.Name.{Name}
use Rattle.og_ast.specs.declared.system.Unit.{Unit as UnitTree}
use Rattle.og_system.specs.Scopes.{folds_as, is_among, is_outside, names_in_block, names_in_system, processes_at_file_level, seen_in_block}
use Rattle.og_system.specs.Bodies.{Home}
use Rattle.og_outline.specs.Outlines.{names_around}

one_more : (a b c d : Bool) → (a || (b || (c || d))) ≡ ((a || (b || c)) || d)
one_more true b c d = refl
one_more false true c d = refl
one_more false false c d = refl

pub seen : (units : List UnitTree) (types : List (List ℕ)) (home : Home) (name : Name) → (seen_in_block units types home.system home.block).any name ≡ (is_among (names_around units home) name || is_outside types name)
seen units types home name =
    let own : List Name = names_in_block home.block in
    let around : List Name = names_in_system home.system in
    let bodies : List Name = processes_at_file_level units in
    one_more (is_among own name) (is_among around name) (is_among bodies name) (is_outside types name)
    ∙ ap (λ b. (is_among own name || b) || is_outside types name) (sym (list_any-append (folds_as name) around bodies))
    ∙ ap (λ b. b || is_outside types name) (sym (list_any-append (folds_as name) own (around ++ bodies)))
