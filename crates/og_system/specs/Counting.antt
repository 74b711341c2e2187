-- Bodies counted in the order of the text: none, one, or more, with the place of the second one's name.
use Rattle.std.specs.Prelude.{ℕ, List, [], ◌∷◌}
use Rattle.og_base.specs.declared.Rule.TheVariants.{N5}
use Rattle.og_base.specs.declared.Violation.{Violation}
use Rattle.og_system.specs.declared.counting.Count.{Count}
use Rattle.og_system.specs.declared.counting.Count.TheVariants as count
use Rattle.og_system.specs.Bodies.{Body}

abbrev pub one_more : Count → Body → Count
one_more count.Nothing body = count.One
one_more count.One body = count.More body.process.name.place
one_more (count.More place) body = count.More place

abbrev pub counted : Count → List Body → Count
counted so_far [] = so_far
counted so_far (body ∷ bodies) = counted (one_more so_far body) bodies

-- N5, where their number is not one
abbrev pub as_violations : ℕ → Count → List Violation
as_violations file count.Nothing = record { rule = N5; place = record { file = file; line = 1; column = 1 } } ∷ []
as_violations file count.One = []
as_violations file (count.More place) = record { rule = N5; place = place } ∷ []
