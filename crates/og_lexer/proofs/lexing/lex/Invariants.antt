use Rattle.std.proofs.Common.{◌-◌, length}
use Rattle.og_lexer.proofs.Reading.{SoFar}
use Rattle.og_lexer.proofs.lexing.lex.Given as goal

abbrev pub invariant-loop-at : goal.invariant-loop-at
invariant-loop-at l = SoFar l.language l.file l.bytes l.at l.place l.lexed

abbrev pub decreases-loop-at : goal.decreases-loop-at
decreases-loop-at l = length l.initial.bytes - l.at
