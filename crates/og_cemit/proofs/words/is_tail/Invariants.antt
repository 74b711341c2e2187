use Rattle.std.specs.List.{list_all}
use Rattle.og_csubset.specs.Tokens.{is_word_byte}
use Rattle.og_names.proofs.Loops.{Left}
use Rattle.og_cemit.proofs.words.is_tail.Given as goal

abbrev pub invariant-loop-byte : goal.invariant-loop-byte
invariant-loop-byte l = Left (list_all is_word_byte) l.name l.byte-index (list_all is_word_byte l.name)
