use Rattle.std.proofs.Common.{◌≡◌, drop, map}
use Rattle.std.specs.Char.{to_ascii_uppercase}
use Rattle.og_lexer.specs.Keywords.{keyword_text}
use Rattle.og_lexer.specs.Front.{keyword_in}
use Rattle.og_lexer.proofs.words.keyword_among.Given as goal

abbrev pub invariant-loop-keyword : goal.invariant-loop-keyword
invariant-loop-keyword l = keyword_in keyword_text (drop l.keyword-index l.keywords) (map to_ascii_uppercase l.word) ≡ keyword_in keyword_text l.keywords (map to_ascii_uppercase l.word)
