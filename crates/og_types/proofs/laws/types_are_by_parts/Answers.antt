use Rattle.og_types.proofs.Downward.{is_in_is, first_is, all_cells_is, depth_is, is_supported_is}
use Rattle.og_types.proofs.laws.types_are_by_parts.Goals as goal

pub returns : goal.returns
returns c = record { values = is_in_is; firsts = first_is; counts = all_cells_is; depths = depth_is; supports = is_supported_is }
