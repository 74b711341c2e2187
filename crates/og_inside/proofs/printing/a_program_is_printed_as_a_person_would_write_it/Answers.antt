use Rattle.std.proofs.Common.{◌≤◌, sym, subst}
use Rattle.og_csubset.specs.Nesting.{nesting}
use Rattle.og_csubset.specs.Plain.{plain_tokens, IsWellMade}
use Rattle.og_inside.proofs.ExampleMade.{example_made, example_within}
use Rattle.og_inside.proofs.printing.a_program_is_printed_as_a_person_would_write_it.Goals as goal

pub print_c-requires-clause-made : goal.print_c-requires-clause-made
print_c-requires-clause-made g c = subst IsWellMade (sym c.in_ok-program.ensures) example_made

pub print_c-requires-clause-within : goal.print_c-requires-clause-within
print_c-requires-clause-within g c = subst (λ p. nesting (plain_tokens p) ≤ 256) (sym c.in_ok-program.ensures) example_within
