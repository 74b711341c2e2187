use Rattle.std.proofs.Common.{◌≡◌, take, map}
use Rattle.og_cemit.specs.Emitted.{function_of, AreShort}
use Rattle.og_cemit.proofs.functions_of.Given as goal

abbrev pub invariant-loop-function : goal.invariant-loop-function
invariant-loop-function l = record {
  made : l.functions ≡ map (function_of l.ir l.model) (take l.function-index l.code);
  short : AreShort (take l.function-index l.code);
}
