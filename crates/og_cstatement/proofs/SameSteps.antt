-- A step over the vector of cells is a step over the trees of cells.
use Rattle.std.proofs.Common.{◌≡◌, ℕ, ℤ, List, [], ◌∷◌, map, length, slice_set, Bool, true, false, cond, Option, Some, None, Result, Ok, Err, slice_get, refl, sym, ap, ◌∙◌, subst, arith}
use Rattle.std.specs.List.{list_all}
use Rattle.std.specs.Option.{option_map}
use Rattle.std.proofs.lemmas.Bool.{false≢true}
use Rattle.std.proofs.lemmas.Slice.Eq.{bytes_eq-Decides}
use Rattle.std.proofs.lemmas.Option.{cond_some, slice_get-map}
use Rattle.og_names.specs.declared.Word.{Word}
use Rattle.og_model.specs.declared.Model.{Model}
use Rattle.og_model.specs.declared.EventId.{EventId}
use Rattle.og_model.specs.Shown as shown
use Rattle.og_ir.specs.Cells as cells
use Rattle.og_ir.specs.Cells.{Cells, Cell, count}
use Rattle.og_ir.specs.Arithmetic.{Trouble, Value, ◌>>=◌, or_else, is_same}
use Rattle.og_ir.specs.FlatSteps.{Spot, cells_at, put}
use Rattle.og_ir.specs.Steps as steps
use Rattle.og_ir.specs.Steps.{Frame, Config, Ran, quiet, with_value, onward, jumped, called, returned, showing}
use Rattle.og_csubset.specs.declared.CProgram.{CProgram}
use Rattle.og_csubset.specs.declared.CFunction.{CFunction}
use Rattle.og_csubset.specs.declared.CType.{CType}
use Rattle.og_csubset.specs.declared.CType.TheVariants.{Int64, Struct}
use Rattle.og_csubset.specs.declared.CStmt.{CStmt}
use Rattle.og_csubset.specs.declared.CStmt.TheVariants as c
use Rattle.og_csubset.specs.declared.CCase.{CCase}
use Rattle.og_csubset.specs.declared.CStep.{CStep}
use Rattle.og_csubset.specs.declared.CTest.{CTest}
use Rattle.og_csubset.specs.declared.CPlace.{CPlace}
use Rattle.og_csubset.specs.declared.CExpr.{CExpr, CExpr-F, out-CExpr}
use Rattle.og_csubset.specs.declared.CExpr.TheOpen as open'
use Rattle.og_csubset.specs.Interface.{events_of}
use Rattle.og_csubset.specs.Kinds.{place_in, is_in, global_names, event_names, function_names, global_kind, type_of_one, same_type, blank_type, width_of, first_globals}
use Rattle.og_csubset.specs.Loading.{is_number, cells_of_globals, type_of_place, type_of_shape, kind_after, agree, is_typed}
use Rattle.og_csubset.specs.Reads.{event_of, event_shown, event_named}
use Rattle.og_csubset.specs.Step as s
use Rattle.og_csubset.specs.Step.{act, fetched, label_in}
use Rattle.og_csubset.proofs.Steady.{all_at}
use Rattle.og_names.proofs.Truths.{both_first as left_of, both_second as right_of}
use Rattle.og_ir.proofs.ValueRead.{bound}
use Rattle.og_ccells.specs.Layouts.{capped}
use Rattle.og_ccells.specs.Vectors.{filled, trees_of, numbers_before_path, copied}
use Rattle.og_ccells.proofs.Filling.{Written}
use Rattle.og_ccells.proofs.Overwriting.{overwritten_written, copied_written}
use Rattle.og_ccells.proofs.Globals.{spot_put}
use Rattle.og_ccells.proofs.Counting.{count_type}
use Rattle.og_ccells.proofs.Steady.{number_laid}
use Rattle.og_ccells.proofs.Widths.{most, up_to_small}
use Rattle.og_cstatement.specs.declared.code.Statement.{Statement}
use Rattle.og_cstatement.specs.declared.code.Statement.TheVariants as m'
use Rattle.og_cstatement.specs.Meaning as m
use Rattle.og_cstatement.specs.Meaning.{Effect, effect_of, effect_at, effect_there, place_of_case, branched, switched}
use Rattle.og_cstatement.specs.Resolved.{place_read, place_of, path_of, all_kind, width_in, width_at, case_of, assignment_of, call_of, statement_of, body_of}
use Rattle.og_cstatement.specs.Links.{linked_of, step_of}
use Rattle.og_cstatement.proofs.Alike.{Alike}
use Rattle.og_cstatement.proofs.Walked.{kind_led}
use Rattle.og_cstatement.proofs.Spotted.{Fits, Lands, shapes, lands_inside, unsized}
use Rattle.og_cstatement.proofs.SameValues.{cells_there, same_value, same_test, same_spot}

-- ---- types that agree

same_is : (t u : CType) → same_type t u ≡ true → t ≡ u
same_is Int64 Int64 h = refl
same_is Int64 (Struct name) h = absurd (false≢true h)
same_is (Struct name) Int64 h = absurd (false≢true h)
same_is (Struct name) (Struct other) h =
    ap (λ (bytes : List ℕ). let w : Word = record { bytes = bytes } in Struct w) ((bytes_eq-Decides name.bytes other.bytes).0 h)

agreed : (o p : Option CType) → agree o p ≡ true → (t : CType) × (o ≡ Some t) × (p ≡ Some t)
agreed None p h = absurd (false≢true h)
agreed (Some t) None h = absurd (false≢true h)
agreed (Some t) (Some u) h = (t, refl, ap Some (sym (same_is t u h)))

-- a number is of the type of numbers
agreed_number : (o : Option CType) (b : Bool) → agree o (cond b (Some Int64) None) ≡ true → (b ≡ true) × (o ≡ Some Int64)
agreed_number o b h =
    let both = agreed o (cond b (Some Int64) None) h in
    let number = cond_some b Int64 both.0 both.2 in
    (number.0, both.1 ∙ ap Some (sym number.1))

-- ---- cells that are put

module _ (P : CProgram) (xs : List ℤ) (fits : Fits P) (whole : length xs ≡ cells_of_globals P) where
  number_put : (spot : Spot) (at : ℕ) (z : ℤ) → Lands P Int64 spot at → put (trees_of P xs) spot (Cell z) ≡ trees_of P (slice_set xs at z)
  unfolding trees_of
  number_put spot at z lands =
      let one : count (blank_type P.structs Int64) ≡ 1 = ap count (number_laid P.structs) in
      let inside = lands_inside P Int64 spot at lands in
      let written : Written xs (slice_set xs at z) (z ∷ []) at 0 1 = overwritten_written (z ∷ []) xs at (omega (arith, inside, one, whole)) in
      let place = numbers_before_path (spot.base ∷ spot.path) (shapes P) in
      let W : ℕ → ℕ → Type 0 = λ k width. Written xs (slice_set xs at z) (z ∷ []) k 0 width in
      ap (λ c. put (trees_of P xs) spot (filled 0 c (z ∷ []))) (sym (number_laid P.structs))
      ∙ spot_put (first_globals P) xs (slice_set xs at z) (z ∷ []) spot.base spot.path (blank_type P.structs Int64) 0 lands.there
      (subst (λ width. W place width) (sym one) (subst (λ k. W k 1) (sym lands.at_is) written))

  cells_put : (t : CType) (spot : Spot) (at source width : ℕ) (from : Spot) → Lands P t spot at → Lands P t from source → width ≡ capped (width_of P.structs t)
      → put (trees_of P xs) spot (filled source (blank_type P.structs t) xs) ≡ trees_of P (copied at source width xs)
  unfolding trees_of
  cells_put t spot at source width from lands led is =
      let count_is = count_type P.structs t in
      let inside = lands_inside P t spot at lands in
      let there = lands_inside P t from source led in
      let small = fits.small in
      let width_is : width ≡ count (blank_type P.structs t) = is ∙ up_to_small most (width_of P.structs t) (omega (arith, inside, count_is, small)) ∙ sym count_is in
      let written : Written xs (copied at source width xs) xs at source width = copied_written xs at source width (omega (arith, inside, width_is, whole)) (omega (arith, there, width_is, whole)) in
      let place = numbers_before_path (spot.base ∷ spot.path) (shapes P) in
      let W : ℕ → ℕ → Type 0 = λ k n. Written xs (copied at source width xs) xs k source n in
      spot_put (first_globals P) xs (copied at source width xs) xs spot.base spot.path (blank_type P.structs t) source lands.there
      (subst (λ n. W place n) width_is (subst (λ k. W k width) (sym lands.at_is) written))

-- how many cells stand at a place of a type
width_there : (P : CProgram) (place : CPlace) (t : CType) → type_of_place P place ≡ Some t → width_at P place ≡ capped (width_of P.structs t)
width_there P place t e =
    let kind = bound (global_kind P place.name.bytes) _ t e in
    let last = bound (kind_after (is_number P) P.structs kind.value place.path) type_of_one t kind.gives in
    ap (λ k. width_in P (all_kind (path_of P place.path) k)) kind.is
    ∙ ap (width_in P) (kind_led P (is_number P) place.path kind.value last.value last.is ∙ ap Some (unsized last.value.type t last.value.size last.gives))

module _ (P : CProgram) (M : Model) (xs : List ℤ) (fits : Fits P) (whole : length xs ≡ cells_of_globals P) (frame : Frame) (callers : List Frame) where
  -- what a call of an event shows
  abbrev pub shows : EventId → Option shown.Event
  shows id = event_shown M (record { names = global_names P; cells = trees_of P xs }) id

  abbrev pub ran : Effect → Ran shown.Event
  ran m.Onward = quiet (steps.Running (trees_of P xs) (onward frame) callers)
  ran (m.At place) = quiet (steps.Running (trees_of P xs) (jumped frame place) callers)
  ran (m.Put at z) = quiet (steps.Running (trees_of P (slice_set xs at z)) (onward frame) callers)
  ran (m.Copy to from width) = quiet (steps.Running (trees_of P (copied to from width xs)) (onward frame) callers)
  ran (m.Enter function) = called (trees_of P xs) frame callers function
  ran (m.Show id) = showing (shows id) (trees_of P xs) frame callers
  ran m.Back = returned (trees_of P xs) callers

  abbrev pub does : Result Effect Trouble → Ran shown.Event
  does r = with_value r ran

  abbrev G : List Cells
  G = trees_of P xs

  -- ---- assignments

  put_number : (r : Result Spot Trouble) (p : Result ℕ Trouble) (v : Result ℤ Trouble) → Alike (Lands P Int64) r p
      → with_value r (λ spot. with_value (v >>= λ z. Ok (Cell z)) (λ x. quiet (steps.Running (put G spot x) (onward frame) callers)))
      ≡ does (p >>= λ at. v >>= λ z. Ok (m.Put at z))
  put_number (Err t) (Err u) v h = ap (λ x. quiet (steps.Broken x)) h
  put_number (Err t) (Ok at) v h = absurd h
  put_number (Ok spot) (Err u) v h = absurd h
  put_number (Ok spot) (Ok at) (Err t) h = refl
  put_number (Ok spot) (Ok at) (Ok z) h = ap (λ g. quiet (steps.Running g (onward frame) callers)) (number_put P xs fits whole spot at z h)

  put_cells : (t : CType) (width : ℕ) → width ≡ capped (width_of P.structs t) → (r q : Result Spot Trouble) (p source : Result ℕ Trouble) → Alike (Lands P t) r p → Alike (Lands P t) q source
      → with_value r (λ spot. with_value (q >>= cells_at G) (λ x. quiet (steps.Running (put G spot x) (onward frame) callers)))
      ≡ does (p >>= λ at. source >>= λ k. Ok (m.Copy at k width))
  put_cells t width is (Err t') q (Err u) source h k = ap (λ x. quiet (steps.Broken x)) h
  put_cells t width is (Err t') q (Ok at) source h k = absurd h
  put_cells t width is (Ok spot) q (Err u) source h k = absurd h
  put_cells t width is (Ok spot) (Err t') (Ok at) (Err u) h k = ap (λ x. quiet (steps.Broken x)) k
  put_cells t width is (Ok spot) (Err t') (Ok at) (Ok source) h k = absurd k
  put_cells t width is (Ok spot) (Ok from) (Ok at) (Err u) h k = absurd k
  put_cells t width is (Ok spot) (Ok from) (Ok at) (Ok source) h k =
      ap (λ r. with_value r (λ x. quiet (steps.Running (put G spot x) (onward frame) callers))) (cells_there P xs t from source k)
      ∙ ap (λ g. quiet (steps.Running g (onward frame) callers)) (cells_put P xs fits whole t spot at source width from h k is)

  number_same : (place : CPlace) (a : CExpr) → agree (type_of_place P place) (cond (is_number P a) (Some Int64) None) ≡ true
      → with_value (s.spot_of P G place) (λ spot. with_value (s.value_of P G a >>= λ z. Ok (Cell z)) (λ x. quiet (steps.Running (put G spot x) (onward frame) callers)))
      ≡ does (effect_of xs (assignment_of P place a None))
  number_same place a h =
      let both = agreed_number (type_of_place P place) (is_number P a) h in
      put_number (s.spot_of P G place) (m.place_of xs (place_of P place)) (s.value_of P G a) (same_spot P xs fits place Int64 both.1)
      ∙ ap (λ v. does (m.place_of xs (place_of P place) >>= λ at. v >>= λ z. Ok (m.Put at z))) (same_value P xs fits a both.0)

  cells_same : (place from : CPlace) (a : CExpr) → agree (type_of_place P place) (type_of_place P from) ≡ true
      → with_value (s.spot_of P G place) (λ spot. with_value (s.spot_of P G from >>= cells_at G) (λ x. quiet (steps.Running (put G spot x) (onward frame) callers)))
      ≡ does (effect_of xs (assignment_of P place a (Some from)))
  cells_same place from a h =
      let both = agreed (type_of_place P place) (type_of_place P from) h in
      put_cells both.0 (width_at P place) (width_there P place both.0 both.1) (s.spot_of P G place) (s.spot_of P G from) (m.place_of xs (place_of P place)) (m.place_of xs (place_of P from))
      (same_spot P xs fits place both.0 both.1) (same_spot P xs fits from both.0 both.2)

  assign_same : (place : CPlace) (a : CExpr) (shape : CExpr-F CExpr CStep CPlace CTest) → agree (type_of_place P place) (type_of_shape P a shape) ≡ true
      → with_value (s.spot_of P G place) (λ spot. with_value (s.assigned P G a shape) (λ x. quiet (steps.Running (put G spot x) (onward frame) callers)))
      ≡ does (effect_of xs (assignment_of P place a (place_read shape)))
  assign_same place a (open'.Number z) h = number_same place a h
  assign_same place a (open'.Read from) h = cells_same place from a h
  assign_same place a (open'.Minus x) h = number_same place a h
  assign_same place a (open'.Op o x y) h = number_same place a h
  assign_same place a (open'.Pick test x y) h = number_same place a h

  -- ---- jumps

  gone_same : (o : Option ℕ) → with_value (or_else o Value) (λ place. quiet (steps.Running G (jumped frame place) callers)) ≡ does (m.gone o)
  gone_same None = refl
  gone_same (Some k) = refl

  branch_same : (body : List CStmt) (label : List ℕ) (r : Result Bool Trouble)
      → with_value r (λ b. cond b (s.gone body G frame callers label) (quiet (steps.Running G (onward frame) callers))) ≡ does (r >>= branched (label_in label body))
  branch_same body label (Err t) = refl
  branch_same body label (Ok true) = gone_same (label_in label body)
  branch_same body label (Ok false) = refl

  case_if : (body : List CStmt) (b : Bool) (x y : List ℕ) (o : Option ℕ) → o ≡ label_in y body → cond b (label_in x body) o ≡ label_in (cond b x y) body
  case_if body true x y o e = refl
  case_if body false x y o e = e

  case_same : (body : List CStmt) (z : ℤ) (cases : List CCase) (otherwise : List ℕ)
      → place_of_case z (map (case_of body) cases) (label_in otherwise body) ≡ label_in (s.case_of z cases otherwise) body
  case_same body z [] otherwise = refl
  case_same body z (one ∷ cases) otherwise =
      case_if body (is_same z one.value) one.label.bytes (s.case_of z cases otherwise) (place_of_case z (map (case_of body) cases) (label_in otherwise body)) (case_same body z cases otherwise)

  switch_same : (body : List CStmt) (cases : List CCase) (otherwise : List ℕ) (v : Result ℤ Trouble)
      → with_value v (λ z. s.gone body G frame callers (s.case_of z cases otherwise)) ≡ does (v >>= switched (map (case_of body) cases) (label_in otherwise body))
  switch_same body cases otherwise (Err t) = refl
  switch_same body cases otherwise (Ok z) =
      gone_same (label_in (s.case_of z cases otherwise) body) ∙ ap (λ o. does (m.gone o)) (sym (case_same body z cases otherwise))

  -- ---- calls

  event_same : (o : Option EventId) → showing (cells.◌>>=◌ o (λ id. shows id)) G frame callers ≡ does (or_else o Value >>= λ id. Ok (m.Show id))
  event_same None = refl
  event_same (Some id) = refl

  function_same : (o : Option ℕ) → with_value (or_else o Value) (called G frame callers) ≡ does (or_else o Value >>= λ k. Ok (m.Enter k))
  function_same None = refl
  function_same (Some k) = refl

  call_if : (b : Bool) (x y : Ran shown.Event) (p q : Statement) → x ≡ does (effect_of xs p) → y ≡ does (effect_of xs q) → cond b x y ≡ does (effect_of xs (cond b p q))
  call_if true x y p q h k = h
  call_if false x y p q h k = k

  call_same : (name : List ℕ) → s.call (event_of M (global_names P)) P G frame callers name ≡ does (effect_of xs (call_of P M name))
  unfolding event_of
  call_same name =
      call_if (is_in name (event_names P)) _ _ (m'.Event (event_named M name (events_of M))) (m'.Call (place_in name (function_names P)))
      (event_same (event_named M name (events_of M))) (function_same (place_in name (function_names P)))

  -- ---- statements

  act_same : (body : List CStmt) (statement : CStmt) → is_typed P statement ≡ true
      → act (event_of M (global_names P)) P body G frame callers statement ≡ does (effect_of xs (statement_of P M body statement))
  act_same body (c.Assign place a) h = assign_same place a (out-CExpr a) h
  act_same body (c.IfGoto test label) h =
      branch_same body label.bytes (s.holds P G test)
      ∙ ap (λ r. does (r >>= branched (label_in label.bytes body)))
      (same_test P xs fits test (left_of (is_number P test.left) (is_number P test.right) h) (right_of (is_number P test.left) (is_number P test.right) h))
  act_same body (c.Goto label) h = gone_same (label_in label.bytes body)
  act_same body (c.Label label) h = refl
  act_same body (c.Switch a cases otherwise) h =
      switch_same body cases otherwise.bytes (s.value_of P G a)
      ∙ ap (λ v. does (v >>= switched (map (case_of body) cases) (label_in otherwise.bytes body))) (same_value P xs fits a h)
  act_same body (c.Call name) h = call_same name.bytes
  act_same body c.Return h = refl

  there_same : (body : List CStmt) (o : Option CStmt) → ((statement : CStmt) → o ≡ Some statement → is_typed P statement ≡ true)
      → fetched (event_of M (global_names P)) P body G frame callers o ≡ does (effect_there xs (option_map (statement_of P M body) o))
  there_same body None h = refl
  there_same body (Some statement) h = act_same body statement (h statement refl)

  function_there : (o : Option CFunction) → ((f : CFunction) → o ≡ Some f → list_all (is_typed P) f.body ≡ true)
      → with_value (or_else o Value) (λ f. fetched (event_of M (global_names P)) P f.body G frame callers (slice_get f.body frame.place))
      ≡ does (or_else (option_map (body_of P M) o) Value >>= λ f. effect_there xs (slice_get f.statements frame.place))
  function_there None h = refl
  function_there (Some f) h =
      there_same f.body (slice_get f.body frame.place) (λ statement e. all_at (is_typed P) f.body frame.place statement (h f refl) e)
      ∙ ap (λ o. does (effect_there xs o)) (sym (slice_get-map (statement_of P M f.body) f.body frame.place))

  pub running_same : list_all (λ f. list_all (is_typed P) f.body) P.functions ≡ true → step_of P M (steps.Running G frame callers) ≡ does (effect_at (linked_of P M) xs frame)
  unfolding linked_of
  running_same typed =
      function_there (slice_get P.functions frame.function) (λ f e. all_at (λ g. list_all (is_typed P) g.body) P.functions frame.function f typed e)
      ∙ ap (λ o. does (or_else o Value >>= λ f. effect_there xs (slice_get f.statements frame.place))) (sym (slice_get-map (body_of P M) P.functions frame.function))
