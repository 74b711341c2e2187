use Rattle.og_value.proofs.Within.{fits_more}
use Rattle.og_value.proofs.membership.+fits.Goals as goal

-- src/membership.rt:80:5
pub fit_parts-loop-place-preserved : goal.fit_parts-loop-place-preserved
fit_parts-loop-place-preserved t c = fits_more _ _ _ _ _ _ _ c.loop-place-test.true c.in-Some.ensures c.if-not-fits_within.ensures c.loop-place.invariant
