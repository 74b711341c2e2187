use Rattle.og_lexer.specs.declared.Language.TheVariants.{Sdl}
use Rattle.og_lexer.proofs.Cutting.{lexes-once, violation-once, lexes-apart}
use Rattle.og_lexer.proofs.EachText.{text_or_broken}
use Rattle.og_lexer.proofs.laws.one_reading.Goals as goal

pub returns-clause-tokens : goal.returns-clause-tokens
returns-clause-tokens c = lexes-once Sdl

pub returns-clause-violation : goal.returns-clause-violation
returns-clause-violation c = violation-once Sdl

pub returns-clause-apart : goal.returns-clause-apart
returns-clause-apart c = lexes-apart Sdl

pub returns-clause-each : goal.returns-clause-each
returns-clause-each c = text_or_broken Sdl
