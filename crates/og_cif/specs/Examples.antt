-- Boxes and other comments (Z.106), computed.
use Rattle.std.specs.Prelude.{◌≡◌, codes, pos, negsuc, Some, None}
use Rattle.og_cif.specs.declared.Symbol.TheVariants as symbol
use Rattle.og_cif.specs.Scans.{box_of}

pub record BoxesAreRead : Type 0 where
  pub plain : box_of (codes "/* CIF START (320, 10), (70, 35) */") ≡ Some (record { symbol = symbol.Start; x = pos 320; y = pos 10; w = pos 70; h = pos 35 })
  pub any_case : box_of (codes "/* cif ProcedureCall (1, 2), (3, 4) */") ≡ Some (record { symbol = symbol.Procedurecall; x = pos 1; y = pos 2; w = pos 3; h = pos 4 })
  pub least_space : box_of (codes "/*CIF TASK(1,2),(3,4)*/") ≡ Some (record { symbol = symbol.Task; x = pos 1; y = pos 2; w = pos 3; h = pos 4 })
  pub negative : box_of (codes "/* CIF TEXT (-1, -007), (0, -0) */") ≡ Some (record { symbol = symbol.Text; x = negsuc 0; y = negsuc 6; w = pos 0; h = pos 0 })
  pub bounds : box_of (codes "/* CIF STOP (-2147483648, 2147483647), (1, 1) */") ≡ Some (record { symbol = symbol.Stop; x = negsuc 2147483647; y = pos 2147483647; w = pos 1; h = pos 1 })

pub record OthersArePlain : Type 0 where
  pub end_of_text : box_of (codes "/* CIF ENDTEXT */") ≡ None
  pub other_word : box_of (codes "/* CIF STATES (1, 2), (3, 4) */") ≡ None
  pub no_space : box_of (codes "/* CIFSTATE (1, 2), (3, 4) */") ≡ None
  pub apart : box_of (codes "/* CIF STATE (- 1, 2), (3, 4) */") ≡ None
  pub past_greatest : box_of (codes "/* CIF STATE (2147483648, 2), (3, 4) */") ≡ None
  pub past_least : box_of (codes "/* CIF STATE (1, -2147483649), (3, 4) */") ≡ None
  pub more : box_of (codes "/* CIF STATE (1, 2), (3, 4), */") ≡ None
  pub one_pair : box_of (codes "/* CIF STATE (1, 2) */") ≡ None
  pub plus : box_of (codes "/* CIF STATE (+1, 2), (3, 4) */") ≡ None
  pub dashes : box_of (codes "-- CIF STATE (1, 2), (3, 4) --") ≡ None
