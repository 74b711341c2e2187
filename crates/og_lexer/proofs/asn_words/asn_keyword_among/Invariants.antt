use Rattle.std.proofs.Common.{◌≡◌, drop}
use Rattle.og_lexer.specs.AsnKeywords.{asn_keyword_text}
use Rattle.og_lexer.specs.Front.{keyword_in}
use Rattle.og_lexer.proofs.asn_words.asn_keyword_among.Given as goal

abbrev pub invariant-loop-keyword : goal.invariant-loop-keyword
invariant-loop-keyword l = keyword_in asn_keyword_text (drop l.keyword-index l.keywords) l.word ≡ keyword_in asn_keyword_text l.keywords l.word
