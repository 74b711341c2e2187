use Rattle.std.proofs.Common.{◌≡◌, drop}
use Rattle.og_clex.specs.Words.{keyword_among}
use Rattle.og_clex.proofs.lex.keyword_among.Given as goal

abbrev pub invariant-loop-keyword : goal.invariant-loop-keyword
invariant-loop-keyword l = keyword_among (drop l.keyword-index l.keywords) l.word ≡ keyword_among l.keywords l.word
