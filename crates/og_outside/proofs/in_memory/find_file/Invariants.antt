use Rattle.std.proofs.Common.{◌≡◌, drop}
use Rattle.og_base.specs.Memory.{file_named}
use Rattle.og_outside.proofs.in_memory.find_file.Given as goal

-- the files that are left have the answer
abbrev pub invariant-loop-file : goal.invariant-loop-file
invariant-loop-file l = file_named (drop l.file-index l.files) l.name ≡ file_named l.files l.name
