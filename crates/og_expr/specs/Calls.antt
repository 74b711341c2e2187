-- What the calls on expressions are given.
use Rattle.std.specs.Prelude.{get_or}
use Rattle.og_ranges.specs.Calls.{data_of}
use Rattle.og_expr.specs.declared.Surroundings.{Surroundings}
use Rattle.og_expr.specs.Lowering.{Around}

abbrev pub around_of : Surroundings → Around
around_of x = record {
  declared = data_of x.declared;
  variables = x.variables.now;
  locals = x.locals.now;
  temps = λ level. get_or x.temps.now level 0;
  kind = x.kind;
  fault = x.fault;
}
