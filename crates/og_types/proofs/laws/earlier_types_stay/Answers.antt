use Rattle.std.proofs.Common.{sym, length}
use Rattle.og_types.proofs.Tables.{tables_are_downward}
use Rattle.og_types.proofs.Downward.{is_in_stays, first_stays, all_cells_stay, depth_stays, is_supported_stays}
use Rattle.og_types.proofs.Added.{same_below}
use Rattle.og_types.proofs.laws.earlier_types_stay.Goals as goal

pub returns : goal.returns
returns c = record {
  values = λ types others table id h v. sym (is_in_stays (length types) types _ (tables_are_downward types table) (same_below types others) id h v);
  firsts = λ types others table id h. sym (first_stays (length types) types _ (tables_are_downward types table) (same_below types others) id h);
  counts = λ types others table id h. sym (all_cells_stay (length types) types _ (tables_are_downward types table) (same_below types others) id h);
  depths = λ types others table id h. sym (depth_stays (length types) types _ (tables_are_downward types table) (same_below types others) id h);
  supports = λ types others table id h. sym (is_supported_stays (length types) types _ (tables_are_downward types table) (same_below types others) id h);
}
