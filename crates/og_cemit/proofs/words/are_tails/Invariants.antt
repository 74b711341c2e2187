use Rattle.std.specs.List.{list_all}
use Rattle.og_csubset.specs.Tokens.{is_word_byte}
use Rattle.og_cload.specs.Names.{names_in}
use Rattle.og_names.proofs.Loops.{Left}
use Rattle.og_cemit.proofs.words.are_tails.Given as goal

abbrev pub invariant-loop-name : goal.invariant-loop-name
invariant-loop-name l = Left (λ ys. list_all (list_all is_word_byte) (names_in ys)) l.names l.name-index (list_all (list_all is_word_byte) (names_in l.names))
