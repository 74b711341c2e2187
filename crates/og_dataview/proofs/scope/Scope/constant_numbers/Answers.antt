use Rattle.std.proofs.Common.{subst, sym, suc, length}
use Rattle.og_dataview.specs.Following.{next_constant}
use Rattle.og_dataview.specs.Ways.{Leads}
use Rattle.og_dataview.proofs.scope.Scope.constant_numbers.Goals as goal

pub numbers_by-requires : goal.numbers_by-requires
numbers_by-requires c =
    subst (λ xs. Leads (next_constant c.args.self.now.flat) (suc (length c.args.self.now.flat.constants)) xs) (sym c.as_slice.ensures.value) c.in_ok-lasts.ensures
