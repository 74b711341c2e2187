-- What ends say: where a run rests, the active leaves have the paths that the definition reads; and no end that is read is Past.
use Rattle.std.proofs.Common.{◌≡◌, ℕ, zero, suc, ◌+◌, ℤ, pos, negsuc, ◌++◌, List, [], ◌∷◌, Bool, true, false, if◌then◌else◌, Option, Some, None, length, map, slice_get, refl, sym, ap, subst, ◌∙◌, arith}
use Rattle.std.specs.Prelude.{codes, nat_lt, unwrap_or, ⊤}
use Rattle.std.specs.List.{flat_map, list_all}
use Rattle.std.proofs.lemmas.Bool.{lt-ltb}
use Rattle.std.proofs.lemmas.List.{map-append}
use Rattle.std.proofs.lemmas.Option.{slice_get_within}
use Rattle.og_names.specs.declared.NameId.{NameId}
use Rattle.og_names.specs.declared.Word.{Word}
use Rattle.og_types.specs.declared.Value.{Value}
use Rattle.og_model.specs.declared.Model.{Model}
use Rattle.og_model.specs.declared.Leaf.{Leaf}
use Rattle.og_model.specs.declared.Region.{Region}
use Rattle.og_model.specs.declared.StuckRule.TheVariants as stuck
use Rattle.og_model.specs.declared.StateDef.{StateDef}
use Rattle.og_model.specs.declared.StateKind.{out-StateKind}
use Rattle.og_model.specs.declared.StateKind.TheOpen.{Basic, Composite, Aggregation}
use Rattle.og_model.specs.declared.Scope.{Scope, out-Scope, size-Scope}
use Rattle.og_model.specs.Configuration.{Kind}
use Rattle.og_model.specs.Regions.{Insides, region_under, kind_insides, states_insides, insides_within, insides_of, regions}
use Rattle.og_model.specs.Forms.{is_basic, is_plain_state}
use Rattle.og_model.specs.Shown as shown
use Rattle.og_model.specs.Shown.{End}
use Rattle.og_ir.specs.Cells.{◌>>=◌, Cells}
use Rattle.og_ir.specs.Reading.{only_if}
use Rattle.og_ir.specs.Steps.{Config, Running, Over, Broken}
use Rattle.og_csubset.specs.Interface.{region_field, kind_name, stopped_name}
use Rattle.og_csubset.specs.Reads as reads
use Rattle.og_csubset.specs.Reads.{Globals, number_named, active_path, paths_in, variables_in, timers_in, kind_numbered, place_of_fault, fault_end, stopped_end, rest_end, end_without_fault, end_by_kind, end_of}
use Rattle.og_cstep.specs.declared.Advance.{Advance}
use Rattle.og_cstep.specs.Answered.{answer_at_end}
use Rattle.og_cstep.specs.Machines.{Run, active_leaf, leaf_of, globals_of}
use Rattle.og_stim.specs.Trace.{path_of, path_in, leaf_path, line, state_line, var_lines, timer_lines, lines_of_process, end_lines, fault_line}
use Rattle.og_trace.specs.Entries.{end_at, HasCells}
use Rattle.og_trace.specs.Leaves.{if_basic, leaf_in, leaves_from, end_seen}
use Rattle.og_names.proofs.Truths.{both_first as left_of, both_second as right_of}

-- ---- what an end is read from

-- rest has the paths of the globals, and Past is none
abbrev pub IsRead : Model → Globals → End → Type 0
IsRead M globals (shown.Rest paths variables timers) = paths_in M globals (regions M) ≡ Some paths
IsRead M globals (shown.Fault kind place variables timers) = ⊤
IsRead M globals (shown.Stopped variables) = ⊤
IsRead M globals shown.Past = ⊥
IsRead M globals (shown.Stuck rule) = ⊤

abbrev IsReadIf : Model → Globals → Option End → Type 0
IsReadIf M globals None = ⊤
IsReadIf M globals (Some end) = IsRead M globals end

read_behind : {A : Type 0} (M : Model) (globals : Globals) (o : Option A) (f : A → Option End) → ((x : A) → o ≡ Some x → IsReadIf M globals (f x)) → IsReadIf M globals (o >>= f)
read_behind M globals None f each = tt
read_behind M globals (Some x) f each = each x refl

rest_is_read : (M : Model) (globals : Globals) → IsReadIf M globals (rest_end M globals)
rest_is_read M globals =
    read_behind M globals (paths_in M globals (regions M)) _ (λ paths at.
    read_behind M globals (variables_in M globals) _ (λ variables _.
    read_behind M globals (timers_in M globals) _ (λ timers _. at)))

stopped_is_read : (M : Model) (globals : Globals) → IsReadIf M globals (stopped_end M globals)
stopped_is_read M globals = read_behind M globals (variables_in M globals) _ (λ variables _. tt)

fault_is_read : (M : Model) (globals : Globals) (z : ℤ) → IsReadIf M globals (fault_end M globals z)
fault_is_read M globals z =
    read_behind M globals (kind_numbered z) _ (λ kind _.
    read_behind M globals (place_of_fault globals) _ (λ place _.
    read_behind M globals (variables_in M globals) _ (λ variables _.
    read_behind M globals (timers_in M globals) _ (λ timers _. tt))))

without_fault_is_read : (M : Model) (globals : Globals) (z : ℤ) → IsReadIf M globals (end_without_fault M globals z)
without_fault_is_read M globals (pos zero) = rest_is_read M globals
without_fault_is_read M globals (pos (suc n)) = stopped_is_read M globals
without_fault_is_read M globals (negsuc n) = stopped_is_read M globals

kind_is_read : (M : Model) (globals : Globals) (z : ℤ) → IsReadIf M globals (end_by_kind M globals z)
kind_is_read M globals (pos zero) = read_behind M globals (number_named globals stopped_name) _ (λ z _. without_fault_is_read M globals z)
kind_is_read M globals (pos (suc n)) = fault_is_read M globals (pos (suc n))
kind_is_read M globals (negsuc n) = fault_is_read M globals (negsuc n)

or_stuck : (M : Model) (globals : Globals) (o : Option End) → IsReadIf M globals o → IsRead M globals (unwrap_or o (shown.Stuck stuck.Value))
or_stuck M globals None is = tt
or_stuck M globals (Some end) is = is

pub end_is_read : (M : Model) (names : List (List ℕ)) (cells : List Cells) → IsRead M (record { names = names; cells = cells }) (end_of M names cells)
unfolding end_of
end_is_read M names cells =
    let globals : Globals = record { names = names; cells = cells } in
    or_stuck M globals _ (read_behind M globals (number_named globals kind_name) _ (λ z _. kind_is_read M globals z))

-- ---- the leaves at which a run rests

record Behind {A B : Type 0} (o : Option A) (f : A → Option B) (y : B) : Type 0 where
  value : A
  is : o ≡ Some value
  gives : f value ≡ Some y

behind : {A B : Type 0} (o : Option A) (f : A → Option B) (y : B) → (o >>= f) ≡ Some y → Behind o f y
behind None f y is = absurd (cc)
behind (Some x) f y is = record { value = x; is = refl; gives = is }

some_is : {A : Type 0} {x y : A} → Some x ≡ Some y → x ≡ y
some_is is = cc

-- a leaf of a region, by its numbers and by its path
leaf_has_path : (all : List Region) (k n : ℕ) (region : Region) (leaf : Leaf) → slice_get all k ≡ Some region → slice_get region.leaves n ≡ Some leaf
    → map (path_of all) (if_basic k n (Some leaf)) ≡ reads.path_of region leaf
leaf_has_path all k n region leaf here at = by leaf.basic
  where
    by : (b : Bool) → map (path_of all) (if b then record { region = k; leaf = n } ∷ [] else []) ≡ (if b then (region.path ++ leaf.path) ∷ [] else [])
    by true = ap (λ r. path_in n r ∷ []) here ∙ ap (λ l. (region.path ++ leaf_path l) ∷ []) at
    by false = refl

here_is : (all : List Region) (k : ℕ) (region : Region) (z : ℤ) (here : List (List NameId)) → slice_get all k ≡ Some region → active_path region z ≡ Some here
    → map (path_of all) (leaf_in k region (leaf_of region z)) ≡ here
here_is all k region (negsuc n) here at is = some_is is
here_is all k region (pos n) here at is =
    let found = behind (slice_get region.leaves n) (λ leaf. Some (reads.path_of region leaf)) here is in
    let inside : nat_lt n (length region.leaves) ≡ true = lt-ltb n (length region.leaves) (slice_get_within region.leaves n found.value found.is) in
    ap (λ b. map (path_of all) (leaf_in k region (only_if b n))) inside
    ∙ ap (λ l. map (path_of all) (if_basic k n l)) found.is
    ∙ leaf_has_path all k n region found.value at found.is
    ∙ some_is found.gives

leaves_are : (run : Run) (all rs : List Region) (k : ℕ) → all ≡ regions run.model → ((j : ℕ) → slice_get all (k + j) ≡ slice_get rs j)
    → (paths : List (List NameId)) → paths_in run.model (globals_of run) rs ≡ Some paths → map (path_of all) (leaves_from run k rs) ≡ paths
leaves_are run all [] k whole at paths is = some_is is
leaves_are run all (region ∷ rs) k whole at paths is =
    let number = behind (number_named (globals_of run) (region_field run.model region).name) (λ z. active_path region z >>= λ here. paths_in run.model (globals_of run) rs >>= λ others. Some (here ++ others)) paths is in
    let here = behind (active_path region number.value) (λ here. paths_in run.model (globals_of run) rs >>= λ others. Some (here ++ others)) paths number.gives in
    let others = behind (paths_in run.model (globals_of run) rs) (λ others. Some (here.value ++ others)) paths here.gives in
    let zero_more : k ≡ k + 0 = omega arith in
    let first : slice_get all k ≡ Some region = ap (slice_get all) zero_more ∙ at 0 in
    let active : active_leaf run k ≡ leaf_of region number.value =
    ap (λ o. o >>= λ r. number_named (globals_of run) (region_field run.model r).name >>= leaf_of r) (ap (λ rs. slice_get rs k) (sym whole) ∙ first)
    ∙ ap (λ o. o >>= leaf_of region) number.is in
    map-append (path_of all) (leaf_in k region (active_leaf run k)) (leaves_from run (k + 1) rs)
    ∙ ap (λ l. map (path_of all) (leaf_in k region l) ++ map (path_of all) (leaves_from run (k + 1) rs)) active
    ∙ ap (λ ps. ps ++ map (path_of all) (leaves_from run (k + 1) rs)) (here_is all k region number.value here.value first here.is)
    ∙ ap (λ ps. here.value ++ ps)
    (leaves_are run all rs (k + 1) whole (λ j. let more : k + 1 + j ≡ k + suc j = omega arith in ap (slice_get all) more ∙ at (suc j)) others.value others.is)
    ∙ some_is others.gives

-- ---- the lines of an end

no_variable_lines : (M : Model) → M.variables ≡ [] → (values other : List Value) → var_lines M M.variables values ≡ var_lines M M.variables other
no_variable_lines M none values other = ap (λ xs. var_lines M xs values) none ∙ sym (ap (λ xs. var_lines M xs other) none)

no_lines : (M : Model) → M.timers ≡ [] → M.variables ≡ [] → (values other : List Value) (active others : List Bool)
    → lines_of_process M values active ≡ lines_of_process M other others
no_lines M none no_variables values other active others =
    ap (λ bytes. bytes ++ timer_lines M M.timers active) (no_variable_lines M no_variables values other)
    ∙ ap (λ bytes. var_lines M M.variables other ++ bytes) (ap (λ ts. timer_lines M ts active) none ∙ sym (ap (λ ts. timer_lines M ts others) none))

seen_by_end : (M : Model) (files : List Word) (run : Run) (all : List Region) → M.timers ≡ [] → M.variables ≡ [] → (e : End)
    → ((paths : List (List NameId)) (variables : List Value) (timers : List Bool) → e ≡ shown.Rest paths variables timers → map (path_of all) (leaves_from run 0 all) ≡ paths)
    → end_lines M files (end_seen run all (answer_at_end e)) ≡ end_lines M files e
seen_by_end M files run all none no_variables (shown.Rest paths variables timers) rests =
    ap (λ ps. end_lines M files (shown.Rest ps [] [])) (rests paths variables timers refl)
    ∙ ap (λ bytes. line (codes "rest") ++ flat_map (state_line M) paths ++ bytes) (no_lines M none no_variables [] variables [] timers)
seen_by_end M files run all none no_variables (shown.Fault kind place variables timers) rests =
    ap (λ bytes. fault_line files kind place ++ bytes) (no_lines M none no_variables [] variables [] timers)
seen_by_end M files run all none no_variables (shown.Stopped variables) rests = ap (λ bytes. line (codes "stopped") ++ bytes) (no_variable_lines M no_variables [] variables)
seen_by_end M files run all none no_variables shown.Past rests = refl
seen_by_end M files run all none no_variables (shown.Stuck rule) rests = refl

-- a run that is over, and has these cells
rest_of_run : (run : Run) (all : List Region) → all ≡ regions run.model → (names : List (List ℕ)) → names ≡ (globals_of run).names → (config : Config) → HasCells config run.cells
    → (paths : List (List NameId)) (variables : List Value) (timers : List Bool) → end_at (end_of run.model names) config ≡ shown.Rest paths variables timers
    → map (path_of all) (leaves_from run 0 all) ≡ paths
rest_of_run run all whole names named (Running globals frame callers) cells paths variables timers is = absurd (cc)
rest_of_run run all whole names named (Broken trouble) cells paths variables timers is = absurd (cc)
rest_of_run run all whole names named (Over globals) cells paths variables timers is =
    let read : paths_in run.model (record { names = names; cells = globals }) (regions run.model) ≡ Some paths =
    subst (IsRead run.model (record { names = names; cells = globals })) is (end_is_read run.model names globals) in
    leaves_are run all all 0 whole (λ j. let none : 0 + j ≡ j = omega arith in ap (slice_get all) none) paths
    (ap (λ ns. paths_in run.model (record { names = ns; cells = run.cells }) all) (sym named)
    ∙ ap (λ cs. paths_in run.model (record { names = names; cells = cs }) all) cells
    ∙ ap (paths_in run.model (record { names = names; cells = globals })) whole ∙ read)

pub seen_lines : (M : Model) (files : List Word) (run : Run) (all : List Region) (answer : Advance) → run.model ≡ M → all ≡ regions M → M.timers ≡ [] → M.variables ≡ []
    → HasCells run.config run.cells → answer ≡ answer_at_end (end_at (end_of M (globals_of run).names) run.config)
    → end_lines M files (end_seen run all answer) ≡ end_lines M files (end_at (end_of M (globals_of run).names) run.config)
seen_lines M files run all answer same whole none no_variables cells is =
    ap (λ a. end_lines M files (end_seen run all a)) is
    ∙ seen_by_end M files run all none no_variables (end_at (end_of M (globals_of run).names) run.config)
    (λ paths variables timers e. rest_of_run run all (whole ∙ ap regions (sym same)) (globals_of run).names refl run.config cells paths variables timers
    (ap (λ (m : Model). end_at (end_of m (globals_of run).names) run.config) same ∙ e))

-- ---- one region

kind_regions : (within : Scope → Insides) (k : Kind) → is_basic k ≡ true → (kind_insides within k).regions ≡ []
kind_regions within Basic is = refl
kind_regions within (Composite entry exit inner) is = absurd (cc)
kind_regions within (Aggregation entry exit ps) is = absurd (cc)

states_regions : (within : Scope → Insides) (states : List StateDef) → list_all is_plain_state states ≡ true → (states_insides within states).regions ≡ []
states_regions within [] all = refl
states_regions within (d ∷ states) all =
    ap (λ (rs : List Region). map (region_under d.name) rs ++ (states_insides within states).regions) (kind_regions within (out-StateKind d.kind) (left_of _ _ (left_of _ _ all)))
    ∙ states_regions within states (right_of _ _ all)

scope_regions : (depth : ℕ) (m : Scope) → list_all is_plain_state (out-Scope m).states ≡ true → (insides_within depth m).regions ≡ []
scope_regions zero m all = refl
scope_regions (suc depth) m all = states_regions (insides_within depth) (out-Scope m).states all

pub one_region : (M : Model) → list_all is_plain_state (out-Scope M.root).states ≡ true → (rs : List Region) → rs ≡ regions M → length rs ≡ 1
one_region M states rs whole =
    ap length (whole ∙ ap (λ (xs : List Region). record { path = []; leaves = (insides_of M.root).leaves } ∷ xs) (scope_regions (size-Scope M.root) M.root states))
