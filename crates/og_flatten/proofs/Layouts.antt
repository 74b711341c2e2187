-- No slot of the layout stands for two things, and each slot of the layout has the name of the interface.
use Rattle.std.proofs.Common.{◌≡◌, ℕ, zero, suc, ◌+◌, ◌≤◌, ◌<◌, false, List, [], ◌∷◌, ◌++◌, map, length, slice_get, Some, ◌⊎◌, inl, inr, refl, sym, ap, subst, ◌∙◌, arith, length-append}
use Rattle.std.specs.List.{range_with_len}
use Rattle.std.proofs.lemmas.List.{append_assoc, append-nil, length-map, map-append}
use Rattle.og_model.specs.declared.Model.{Model}
use Rattle.og_model.specs.Regions.{regions}
use Rattle.og_ir.specs.declared.SlotDef.{SlotDef}
use Rattle.og_csubset.specs.Interface.{Field, variable_fields, timer_fields, variable_field, timer_field, region_field}
use Rattle.og_csubset.specs.FlatRun.{slot_names}
use Rattle.og_csubset.specs.Loading.{has_twice}
use Rattle.og_layout.specs.Layout.{IsNew, Differ}
use Rattle.og_layout.specs.Layout as layouts
use Rattle.og_layout.specs.Named.{AllNamed, IsNamed}
use Rattle.og_flatten.specs.Slots.{slot_of, slots_of, control_fields, duration_field, duration_fields, parameter_slots, layout_by, layout_of, control_of}
use Rattle.og_flatten.specs.FlatCode.{code_of}
use Rattle.og_flatten.proofs.Places.{get_behind, length_more}
use Rattle.og_flatten.proofs.Interfaces.{place_of}
use Rattle.og_flatten.proofs.PlainSlots.{field_names, def_names, names_of_fields, parameter_fields, parameters_are}

-- ---- no slot twice

new_range : (k a n : ℕ) → (k < a) ⊎ (a + n ≤ k) → IsNew k (range_with_len a n)
new_range k a zero out = tt
new_range k a (suc n) (inl lt) = ((λ e. omega (arith, lt, e)), new_range k (a + 1) n (inl (omega (arith, lt))))
new_range k a (suc n) (inr le) = ((λ e. omega (arith, le, e)), new_range k (a + 1) n (inr (omega (arith, le))))

new_both : (k : ℕ) (xs ys : List ℕ) → IsNew k xs → IsNew k ys → IsNew k (xs ++ ys)
new_both k [] ys one two = two
new_both k (x ∷ xs) ys one two = (one.0, new_both k xs ys one.1 two)

-- a range before others, none of which lies in it
range_before : (a n : ℕ) (ys : List ℕ) → ((k : ℕ) → a ≤ k → k < a + n → IsNew k ys) → Differ ys → Differ (range_with_len a n ++ ys)
range_before a zero ys new differ = differ
range_before a (suc n) ys new differ = (
  new_both a (range_with_len (a + 1) n) ys (new_range a (a + 1) n (inl (omega (arith)))) (new a (omega (arith)) (omega (arith))),
  range_before (a + 1) n ys (λ k le lt. new k (omega (arith, le)) (omega (arith, lt))) differ,
)

range_differs : (a n : ℕ) → Differ (range_with_len a n)
range_differs a zero = tt
range_differs a (suc n) = (new_range a (a + 1) n (inl (omega (arith))), range_differs (a + 1) n)

module _ (r v t p : ℕ) where
  abbrev variables : List ℕ
  variables = range_with_len (r + 6) v

  abbrev timers : List ℕ
  timers = range_with_len (r + 6 + v) t

  abbrev numbers : List ℕ
  numbers = range_with_len 0 r

  abbrev locals : List ℕ
  locals = range_with_len (r + 2) 4

  abbrev durations : List ℕ
  durations = range_with_len (r + 6 + v + t) t

  abbrev parameters : List ℕ
  parameters = range_with_len (r + 6 + v + t + t) p

  new_besides : (k : ℕ) → (k < r + 2) ⊎ ((r + 6 ≤ k) × (k < r + 6 + v + t)) → IsNew k (locals ++ (durations ++ parameters))
  new_besides k (inl lt) =
      new_both k locals (durations ++ parameters) (new_range k (r + 2) 4 (inl lt))
      (new_both k durations parameters (new_range k (r + 6 + v + t) t (inl (omega (arith, lt)))) (new_range k (r + 6 + v + t + t) p (inl (omega (arith, lt)))))
  new_besides k (inr in_data) =
      let lo = in_data.0 in
      let hi = in_data.1 in
      new_both k locals (durations ++ parameters) (new_range k (r + 2) 4 (inr (omega (arith, lo))))
      (new_both k durations parameters (new_range k (r + 6 + v + t) t (inl hi)) (new_range k (r + 6 + v + t + t) p (inl (omega (arith, hi)))))

  all_differ : Differ (layouts.slots_of (layout_by r v t p))
  all_differ =
      range_before (r + 6) v (timers ++ (numbers ++ (r ∷ (r + 1) ∷ (locals ++ (durations ++ parameters)))))
      (λ k le lt.
      new_both k timers (numbers ++ (r ∷ (r + 1) ∷ (locals ++ (durations ++ parameters)))) (new_range k (r + 6 + v) t (inl lt))
      (new_both k numbers (r ∷ (r + 1) ∷ (locals ++ (durations ++ parameters))) (new_range k 0 r (inr (omega (arith, le))))
      ((λ e. omega (arith, e, le)), ((λ e. omega (arith, e, le)), new_besides k (inr (le, omega (arith, lt)))))))
      (range_before (r + 6 + v) t (numbers ++ (r ∷ (r + 1) ∷ (locals ++ (durations ++ parameters))))
      (λ k le lt.
      new_both k numbers (r ∷ (r + 1) ∷ (locals ++ (durations ++ parameters))) (new_range k 0 r (inr (omega (arith, le))))
      ((λ e. omega (arith, e, le)), ((λ e. omega (arith, e, le)), new_besides k (inr (omega (arith, le), lt)))))
      (range_before 0 r (r ∷ (r + 1) ∷ (locals ++ (durations ++ parameters)))
      (λ k le lt. ((λ e. omega (arith, e, lt)), ((λ e. omega (arith, e, lt)), new_besides k (inl (omega (arith, lt)))))) (
        ((λ e. omega (arith, e)), new_besides r (inl (omega (arith)))),
        (
          new_besides (r + 1) (inl (omega (arith))),
          range_before (r + 2) 4 (durations ++ parameters)
              (λ k le lt. new_both k durations parameters (new_range k (r + 6 + v + t) t (inl (omega (arith, lt)))) (new_range k (r + 6 + v + t + t) p (inl (omega (arith, lt)))))
              (range_before (r + 6 + v + t) t parameters (λ k le lt. new_range k (r + 6 + v + t + t) p (inl lt)) (range_differs (r + 6 + v + t + t) p)),
        ),
      )))

pub layout_differs : (M : Model) → Differ (layouts.slots_of (layout_of M))
layout_differs M = all_differ (length (regions M)) (length M.variables) (length M.timers) (length (parameter_slots M))

-- the slot of the chosen body is among those that the code works with
pub chosen_at : (M : Model) → slice_get ((layout_of M).locals ++ ((layout_of M).durations ++ (layout_of M).parameters)) 3 ≡ Some (control_of M).chosen
chosen_at M = ap Some (five_more (length (regions M)))
  where
    five_more : (n : ℕ) → n + 2 + 1 + 1 + 1 ≡ n + 5
    five_more n = omega (arith)

-- ---- names

-- fields whose names stand one after the other
named_block : (fields : List Field) (before after names : List (List ℕ)) → names ≡ before ++ (field_names fields ++ after) → has_twice names ≡ false → AllNamed names fields (range_with_len (length before) (length fields))
named_block [] before after names is once = tt
named_block (f ∷ fields) before after names is once = (
  place_of names (length before) f.name once (ap (λ ns. slice_get ns (length before)) is ∙ get_behind before (field_names fields ++ after) f.name),
  subst (λ n. AllNamed names fields (range_with_len n (length fields))) (length_more before f.name)
      (named_block fields (before ++ f.name ∷ []) after names (is ∙ sym (append_assoc before (f.name ∷ []) (field_names fields ++ after))) once),
)

-- the same from the number on that the block has
block_at : (fields : List Field) (before after names : List (List ℕ)) (n m : ℕ) → names ≡ before ++ (field_names fields ++ after) → has_twice names ≡ false → length before ≡ n → length fields ≡ m → AllNamed names fields (range_with_len n m)
block_at fields before after names n m is once here long =
    subst (λ k. AllNamed names fields (range_with_len k m)) here
    (subst (λ l. AllNamed names fields (range_with_len (length before) l)) long (named_block fields before after names is once))

module _ (M : Model) where
  abbrev numbered : List Field
  numbered = map (region_field M) (regions M)

  abbrev behind_timers : List SlotDef
  behind_timers = slots_of (duration_fields M) ++ parameter_slots M

  abbrev rest : List (List ℕ)
  rest = def_names behind_timers

  -- the names of all slots, part by part
  names_are : slot_names (code_of M) ≡ field_names numbered ++ (field_names control_fields ++ (field_names (variable_fields M) ++ (field_names (timer_fields M) ++ rest)))
  names_are =
      map-append (λ (d : SlotDef). d.name.bytes) (slots_of numbered) (slots_of control_fields ++ (slots_of (variable_fields M) ++ (slots_of (timer_fields M) ++ behind_timers)))
      ∙ ap (λ ns. ns ++ def_names (slots_of control_fields ++ (slots_of (variable_fields M) ++ (slots_of (timer_fields M) ++ behind_timers)))) (names_of_fields numbered)
      ∙ ap (λ ns. field_names numbered ++ (field_names control_fields ++ ns))
      (map-append (λ (d : SlotDef). d.name.bytes) (slots_of (variable_fields M)) (slots_of (timer_fields M) ++ behind_timers)
      ∙ ap (λ ns. ns ++ def_names (slots_of (timer_fields M) ++ behind_timers)) (names_of_fields (variable_fields M))
      ∙ ap (λ ns. field_names (variable_fields M) ++ ns)
      (map-append (λ (d : SlotDef). d.name.bytes) (slots_of (timer_fields M)) behind_timers
      ∙ ap (λ ns. ns ++ rest) (names_of_fields (timer_fields M))))

  long : length (field_names numbered) ≡ length (regions M)
  long = length-map numbered (λ (f : Field). f.name) ∙ length-map (regions M) (region_field M)

  abbrev two_parts : List (List ℕ)
  two_parts = field_names numbered ++ field_names control_fields

  long_two : length two_parts ≡ length (regions M) + 6
  long_two = length-append (field_names numbered) (field_names control_fields) ∙ ap (λ n. n + 6) long

  abbrev three_parts : List (List ℕ)
  three_parts = two_parts ++ field_names (variable_fields M)

  long_three : length three_parts ≡ length (regions M) + 6 + length M.variables
  long_three =
      length-append two_parts (field_names (variable_fields M)) ∙ ap (λ n. n + length (field_names (variable_fields M))) long_two
      ∙ ap (λ n. length (regions M) + 6 + n) (length-map (variable_fields M) (λ (f : Field). f.name) ∙ length-map M.variables (variable_field M))

  pub slots_are_named : has_twice (slot_names (code_of M)) ≡ false → IsNamed M (layout_of M) (slot_names (code_of M))
  slots_are_named once =
      let names = slot_names (code_of M) in
      let behind_control = field_names (variable_fields M) ++ (field_names (timer_fields M) ++ rest) in
      let control = block_at control_fields (field_names numbered) behind_control names (length (regions M)) 6 names_are once long refl in
      let is_two : names ≡ two_parts ++ behind_control = names_are ∙ sym (append_assoc (field_names numbered) (field_names control_fields) behind_control) in
      let is_three : names ≡ three_parts ++ (field_names (timer_fields M) ++ rest) = is_two ∙ sym (append_assoc two_parts (field_names (variable_fields M)) (field_names (timer_fields M) ++ rest)) in
      record {
        variables = block_at (variable_fields M) two_parts (field_names (timer_fields M) ++ rest) names (length (regions M) + 6) (length M.variables) is_two once long_two (length-map M.variables (variable_field M));
        timers = block_at (timer_fields M) three_parts rest names (length (regions M) + 6 + length M.variables) (length M.timers) is_three once long_three (length-map M.timers (timer_field M));
        regions = block_at numbered [] (field_names control_fields ++ behind_control) names 0 (length (regions M)) names_are once refl (length-map (regions M) (region_field M));
        stopped = control.0;
        fault = control.1.0;
      }

  -- ---- parameters

  abbrev four_parts : List (List ℕ)
  four_parts = three_parts ++ field_names (timer_fields M)

  long_four : length four_parts ≡ length (regions M) + 6 + length M.variables + length M.timers
  long_four =
      length-append three_parts (field_names (timer_fields M)) ∙ ap (λ n. n + length (field_names (timer_fields M))) long_three
      ∙ ap (λ n. length (regions M) + 6 + length M.variables + n) (length-map (timer_fields M) (λ (f : Field). f.name) ∙ length-map M.timers (timer_field M))

  abbrev five_parts : List (List ℕ)
  five_parts = four_parts ++ field_names (duration_fields M)

  long_five : length five_parts ≡ length (regions M) + 6 + length M.variables + length M.timers + length M.timers
  long_five =
      length-append four_parts (field_names (duration_fields M)) ∙ ap (λ n. n + length (field_names (duration_fields M))) long_four
      ∙ ap (λ n. length (regions M) + 6 + length M.variables + length M.timers + n) (length-map (duration_fields M) (λ (f : Field). f.name) ∙ length-map M.timers (duration_field M))

  rest_is : rest ≡ field_names (duration_fields M) ++ field_names (parameter_fields M)
  rest_is =
      map-append (λ (d : SlotDef). d.name.bytes) (slots_of (duration_fields M)) (parameter_slots M)
      ∙ ap (λ ns. ns ++ def_names (parameter_slots M)) (names_of_fields (duration_fields M))
      ∙ ap (λ ns. field_names (duration_fields M) ++ ns) (ap def_names (parameters_are M) ∙ names_of_fields (parameter_fields M))

  parts_are : slot_names (code_of M) ≡ five_parts ++ (field_names (parameter_fields M) ++ [])
  parts_are =
      names_are
      ∙ sym (append_assoc (field_names numbered) (field_names control_fields) (field_names (variable_fields M) ++ (field_names (timer_fields M) ++ rest)))
      ∙ sym (append_assoc two_parts (field_names (variable_fields M)) (field_names (timer_fields M) ++ rest))
      ∙ sym (append_assoc three_parts (field_names (timer_fields M)) rest)
      ∙ ap (λ ns. four_parts ++ ns) rest_is
      ∙ sym (append_assoc four_parts (field_names (duration_fields M)) (field_names (parameter_fields M)))
      ∙ ap (λ ns. five_parts ++ ns) (sym (append-nil (field_names (parameter_fields M))))

  as_many : length (parameter_fields M) ≡ length (parameter_slots M)
  as_many = sym (ap length (parameters_are M) ∙ length-map (parameter_fields M) slot_of)

  pub parameters_are_named : has_twice (slot_names (code_of M)) ≡ false → AllNamed (slot_names (code_of M)) (parameter_fields M) (layout_of M).parameters
  parameters_are_named once =
      block_at (parameter_fields M) five_parts [] (slot_names (code_of M)) (length (regions M) + 6 + length M.variables + length M.timers + length M.timers) (length (parameter_slots M)) parts_are once long_five as_many
