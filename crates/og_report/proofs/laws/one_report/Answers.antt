use Rattle.og_report.proofs.Boxed.{same_report}
use Rattle.og_report.proofs.laws.one_report.Goals as goal

pub returns : goal.returns
returns c = same_report (record {
  sdl_tokens = c.one_reading.ensures.tokens;
  sdl_apart = c.one_reading.ensures.apart;
  asn_tokens = c.one_asn_reading.ensures.tokens;
  asn_apart = c.one_asn_reading.ensures.apart;
  boxes = c.one_list_of_boxes.ensures.list;
})
