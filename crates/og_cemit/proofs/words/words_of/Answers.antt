use Rattle.og_cemit.specs.Structs.{words_of_sort}
use Rattle.og_cemit.proofs.StructLoops.{map_more, few_more}
use Rattle.og_cemit.proofs.words.words_of.Goals as goal

pub loop-sort-preserved : goal.loop-sort-preserved
loop-sort-preserved c = record {
  made =
      map_more (words_of_sort c.args.model.now) c.as_slice-sorts.result.now c.loop-sort.sort-index c.sort-item.result
      c.loop-sort-test.true c.sort-item.is c.loop-sort.invariant.made (cc (c.in_ok-push.ensures.ok, c.in_ok-words_of_sort.ensures.words));
  few =
      few_more c.as_slice-sorts.result.now c.loop-sort.sort-index c.sort-item.result
      c.loop-sort-test.true c.sort-item.is c.loop-sort.invariant.few c.in_ok-words_of_sort.ensures.few;
}
