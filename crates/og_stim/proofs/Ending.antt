-- Rest is shown alike by paths and by the numbers of leaves.
use Rattle.std.proofs.Common.{◌≡◌, Bool, List, ◌++◌, codes, sym, ap, ◌∙◌}
use Rattle.std.proofs.lemmas.List.Folds.{flat_map-map}
use Rattle.og_types.specs.declared.Value.{Value}
use Rattle.og_names.specs.declared.Word.{Word}
use Rattle.og_model.specs.declared.Model.{Model}
use Rattle.og_model.specs.declared.Region.{Region}
use Rattle.og_stim.specs.declared.show.ActiveLeaf.{ActiveLeaf}
use Rattle.og_stim.specs.declared.show.TraceEnd.{TraceEnd}
use Rattle.og_stim.specs.declared.show.TraceEnd.TheVariants as ending
use Rattle.og_stim.specs.Trace.{line, state_line, path_of, lines_of_process, end_lines, end_of, rest_lines}

pub rest_is : (M : Model) (files : List Word) (regions : List Region) (end : TraceEnd) (leaves : List ActiveLeaf) (values : List Value) (timers : List Bool) → end ≡ ending.Rest leaves values timers → rest_lines M regions leaves values timers ≡ end_lines M files (end_of regions end)
rest_is M files regions end leaves values timers is =
    ap (λ bytes. line (codes "rest") ++ (bytes ++ lines_of_process M values timers)) (sym (flat_map-map (state_line M) (path_of regions) leaves))
    ∙ ap (λ e. end_lines M files (end_of regions e)) (sym is)
