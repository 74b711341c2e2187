-- What has to be opened so that the reading of a comment that is written out computes.
use Rattle.std.specs.Prelude.{⊤}
use Rattle.og_cif.specs.Form.{symbol_text}
use Rattle.og_cif.specs.Scans.{cif_at, symbol_at, number_at, pair_at, box_at, box_of}

unfoldable pub boxes : ⊤
unfolding symbol_text cif_at symbol_at number_at pair_at box_at box_of
boxes = tt
