use Rattle.std.proofs.Common.{◌≡◌, map, take}
use Rattle.og_cemit.specs.Structs.{words_of_sort, HaveFewParts}
use Rattle.og_cemit.proofs.words.words_of.Given as goal

abbrev pub invariant-loop-sort : goal.invariant-loop-sort
invariant-loop-sort l = record {
  made : l.words ≡ map (words_of_sort l.model) (take l.sort-index l.sorts);
  few : HaveFewParts (take l.sort-index l.sorts);
}
