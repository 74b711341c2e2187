use Rattle.og_cemit.proofs.StructExampleRuns.{structs_of_types, globals_of_slots, other_prefix, sets_an_item, sets_an_alternative, copies_a_struct}
use Rattle.og_cemit.proofs.examples.structs_are_made.Goals as goal

pub returns-clause-structs_of_types : goal.returns-clause-structs_of_types
returns-clause-structs_of_types c = structs_of_types

pub returns-clause-globals_of_slots : goal.returns-clause-globals_of_slots
returns-clause-globals_of_slots c = globals_of_slots

pub returns-clause-other_prefix : goal.returns-clause-other_prefix
returns-clause-other_prefix c = other_prefix

pub returns-clause-sets_an_item : goal.returns-clause-sets_an_item
returns-clause-sets_an_item c = sets_an_item

pub returns-clause-sets_an_alternative : goal.returns-clause-sets_an_alternative
returns-clause-sets_an_alternative c = sets_an_alternative

pub returns-clause-copies_a_struct : goal.returns-clause-copies_a_struct
returns-clause-copies_a_struct c = copies_a_struct
