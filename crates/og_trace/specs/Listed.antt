-- A bad line, as code keeps it.
use Rattle.og_trace.specs.declared.listing.Bad.{Bad}
use Rattle.og_trace.specs.Stims.{BadLine}

abbrev pub bad_of : Bad → BadLine
bad_of bad = record { line = bad.line; rule = bad.rule }
