use Rattle.og_value.proofs.Told.{told_value, told_bad}
use Rattle.og_value.proofs.Again.{reads_in}
use Rattle.og_value.proofs.read.read_value.Goals as goal

pub returns-in-Ok-clause-found : goal.returns-in-Ok-clause-found
returns-in-Ok-clause-found c =
    told_value _ _ c.args.names.now c.args.id c.args.text.now _ c.args.at _ _ c.as_slice.ensures c.split_at.ensures.back c.in-Ok.ensures.found

pub returns-in-Err-clause-bad : goal.returns-in-Err-clause-bad
returns-in-Err-clause-bad c =
    told_bad _ _ c.args.names.now c.args.id c.args.text.now _ c.args.at c.in-Err.error c.as_slice.ensures c.split_at.ensures.back c.in-Err.ensures.found

pub returns-in-Ok-clause-in_type : goal.returns-in-Ok-clause-in_type
returns-in-Ok-clause-in_type c =
    let read = told_value _ _ c.args.names.now c.args.id c.args.text.now _ c.args.at _ _ c.as_slice.ensures c.split_at.ensures.back c.in-Ok.ensures.found in
    reads_in c.args.types.now c.args.names.now c.args.id c.len.ensures.table read.text _ read.reads
