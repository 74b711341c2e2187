use Rattle.std.proofs.Common.{map}
use Rattle.og_names.specs.declared.Word.{Word}
use Rattle.og_cemit.specs.Structs.{most_from}
use Rattle.og_names.proofs.Loops.{Left}
use Rattle.og_cemit.proofs.words.most_of_words.Given as goal

abbrev pub invariant-loop-word : goal.invariant-loop-word
invariant-loop-word l = Left (λ ys. most_from l.most (map (λ (w : Word). w.bytes) ys)) l.words l.word-index (most_from l.so_far (map (λ (w : Word). w.bytes) l.words))
