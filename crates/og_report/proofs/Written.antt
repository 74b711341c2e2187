-- The examples, computed.
use Rattle.std.specs.Prelude.{refl}
use Rattle.std.specs.Fmt.{digits}
use Rattle.og_cif.specs.Form.{symbol_text}
use Rattle.og_report.specs.Line.{pair_text, area_text}
use Rattle.og_report.specs.Examples.{WithBox, WithoutBox, BelowZero}

pub with_box : WithBox
unfolding digits symbol_text pair_text area_text
with_box = refl

pub without_box : WithoutBox
unfolding digits symbol_text pair_text area_text
without_box = refl

pub below_zero : BelowZero
unfolding digits symbol_text pair_text area_text
below_zero = refl
