use Rattle.std.proofs.Common.{ℕ, List, refl, ap, ◌∙◌}
use Rattle.og_sdl.specs.declared.table.TheConstants.{SDL}
use Rattle.og_reading.proofs.Whole.{is_text, is_no_other, refuses}
use Rattle.og_reading.proofs.Samples.{says_wrong}
use Rattle.og_parse.specs.Reading.{units_at, units_of}
use Rattle.og_parse.specs.Grammar.{IsFile}
use Rattle.og_parse.proofs.ReadUnits.{reads_file}
use Rattle.og_parse.proofs.WrittenUnits.{writes_file}
use Rattle.og_parse.proofs.parse.parse_units.Goals as goal

pub returns-in_ok-units-in-Ok-clause-found : goal.returns-in_ok-units-in-Ok-clause-found
returns-in_ok-units-in-Ok-clause-found c =
    is_text SDL units_at IsFile reads_file c.args.tokens.now c.in-Ok.choices c.in_ok-units-in-Ok.units c.in-Ok.ensures.found
    (c.in_ok-units-in-Ok.ensures ∙ ap (λ (cs : List ℕ). units_of cs c.args.tokens.now) c.as_slice.ensures)

pub returns-in_ok-units-in-Ok-clause-only : goal.returns-in_ok-units-in-Ok-clause-only
returns-in_ok-units-in-Ok-clause-only c =
    is_no_other SDL units_at IsFile writes_file c.args.tokens.now c.in-Ok.choices c.in_ok-units-in-Ok.units c.in-Ok.ensures.only
    (c.in_ok-units-in-Ok.ensures ∙ ap (λ (cs : List ℕ). units_of cs c.args.tokens.now) c.as_slice.ensures)

pub returns-in-Err-clause-broken : goal.returns-in-Err-clause-broken
returns-in-Err-clause-broken c = refuses SDL IsFile c.args.tokens.now c.in-Err.error c.in-Err.ensures.broken

pub returns-in-Err-clause-wrong : goal.returns-in-Err-clause-wrong
returns-in-Err-clause-wrong c = says_wrong SDL refl units_at IsFile reads_file writes_file c.args.tokens.now c.in-Err.error c.in-Err.ensures.broken
