use Rattle.og_outline.proofs.Worked.{text_and_output, leads_to_a_state, stop_leads_nowhere, via_leads_nowhere, one_start, named_start, two_headers, several_names, hyphened_sort, signals_of_routes, same_name_in_two_blocks, around, whole_outline}
use Rattle.og_outline.proofs.laws.outlines_of_texts.Goals as goal

pub returns-clause-transitions : goal.returns-clause-transitions
returns-clause-transitions c = (text_and_output, leads_to_a_state, stop_leads_nowhere, via_leads_nowhere)

pub returns-clause-parts : goal.returns-clause-parts
returns-clause-parts c = (one_start, named_start, two_headers, several_names)

pub returns-clause-signals : goal.returns-clause-signals
returns-clause-signals c = (hyphened_sort, signals_of_routes, same_name_in_two_blocks)

pub returns-clause-around : goal.returns-clause-around
returns-clause-around c = around

pub returns-clause-whole : goal.returns-clause-whole
returns-clause-whole c = whole_outline
