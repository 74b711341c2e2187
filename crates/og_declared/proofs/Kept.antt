-- Where no rule is violated the names of each space differ, none has two underscores side by side, and each parameter has a type.
use Rattle.std.proofs.Common.{◌≡◌, ◌⊎◌, inl, inr, Some, ℕ, zero, suc, ◌<◌, Bool, true, false, true≢false, ◌||◌, if◌then◌else◌, List, [], ◌∷◌, ◌++◌, length, get_or, None, refl, sym, ap, ◌∙◌, arith}
use Rattle.std.specs.Prelude.{◌↔◌, All}
use Rattle.std.specs.List.{flat_map, AllByRecursion}
use Rattle.std.specs.Cmp.Lexicographic.{bytes_decides}
use Rattle.std.proofs.lemmas.List.Elements.{All-from_recursion}
use Rattle.std.proofs.lemmas.List.Folds.{list_any-append}
use Rattle.og_base.specs.declared.Rule.{Rule}
use Rattle.og_base.specs.declared.Rule.TheVariants.{N2, N4}
use Rattle.og_base.specs.declared.Violation.{Violation}
use Rattle.og_base.specs.Order.{comes_before, first_from, first_of}
use Rattle.og_ast.specs.declared.ground.HyphenedName.{HyphenedName}
use Rattle.og_ast.specs.declared.ground.Name.{Name}
use Rattle.og_ast.specs.declared.system.BlockPart.{BlockPart}
use Rattle.og_ast.specs.declared.system.BlockPart.TheVariants as member
use Rattle.og_ast.specs.declared.system.SigTree.{SigTree}
use Rattle.og_ast.specs.declared.system.SystemPart.{SystemPart}
use Rattle.og_ast.specs.declared.system.SystemPart.TheVariants as piece
use Rattle.og_ast.specs.declared.system.SystemTree.{SystemTree}
use Rattle.og_ast.specs.declared.system.Unit.{Unit as UnitTree}
use Rattle.og_ast.specs.declared.system.Unit.TheVariants as unit
use Rattle.og_system.specs.Scopes.{key, folds_as, is_among, violated_if, looked_up}
use Rattle.og_declared.specs.Spaces.{has_two_underscores, signals_in, spaces, declared_after, each_declared_after, in_space}
use Rattle.og_declared.specs.Sorts.{hyphened_key, front_of, is_type, is_seen_in_system, is_seen_in_block, in_sort, in_signal, in_block_part, in_system_part, in_unit, in_sorts, sorts_of_signal, sorts_of_block_part, sorts_of_part, sorts_of_unit, sorts_in}
use Rattle.og_declared.specs.Violations.{violations, first_violation}
use Rattle.og_declared.specs.Laws.{AreOther, AllDiffer, HasNoTwoUnderscores, IsOfType}

decided : (b : Bool) → (b ≡ true) ⊎ (b ≡ false)
decided true = inl refl
decided false = inr refl

some_stays : (best : Violation) (vs : List Violation) → first_from (Some best) vs ≡ None → ⊥
some_stays best [] h = cc
some_stays best (w ∷ vs) h =
    elim (decided (comes_before w best)) [
      | inl won ↦ some_stays w vs (ap (λ b. first_from (if b then Some w else Some best) vs) (sym won) ∙ h)
      | inr stayed ↦ some_stays best vs (ap (λ b. first_from (if b then Some w else Some best) vs) (sym stayed) ∙ h)
    ]

no_first : (vs : List Violation) → first_of vs ≡ None → vs ≡ []
no_first [] h = refl
no_first (v ∷ vs) h = absurd (some_stays v vs h)

pub none_violated : (types constants : List (List ℕ)) (units : List UnitTree) → (first_violation types constants units ≡ None) ↔ (violations types constants units ≡ [])
none_violated types constants units = (no_first (violations types constants units), λ none. ap first_of none)

-- ---- lists without elements

none_before : {X : Type 0} (xs ys : List X) → xs ++ ys ≡ [] → (xs ≡ []) × (ys ≡ [])
none_before [] ys h = (refl, h)
none_before (x ∷ xs) ys h = cc

not_broken : (broken : Bool) (rule : Rule) (name : Name) → violated_if broken rule name ≡ [] → broken ≡ false
not_broken true rule name h = cc
not_broken false rule name h = refl

neither : (a b : Bool) → (a || b) ≡ false → (a ≡ false) × (b ≡ false)
neither true b h = cc
neither false b h = (refl, h)

each_more : {X : Type 0} (P Q : X → Type 0) (xs : List X) → ((x : X) → P x → Q x) → AllByRecursion P xs → AllByRecursion Q xs
each_more P Q [] h all = tt
each_more P Q (x ∷ xs) h all = (h x all.0, each_more P Q xs h all.1)

each_both : {X : Type 0} (P : X → Type 0) (xs ys : List X) → AllByRecursion P xs → AllByRecursion P ys → AllByRecursion P (xs ++ ys)
each_both P [] ys p q = q
each_both P (x ∷ xs) ys p q = (p.0, each_both P xs ys p.1 q)

-- where what follows of each is nothing
each_of_none : {X A Y : Type 0} (f : X → List A) (g : X → List Y) (P : Y → Type 0) → ((x : X) → f x ≡ [] → AllByRecursion P (g x)) → (xs : List X) → flat_map f xs ≡ [] → AllByRecursion P (flat_map g xs)
each_of_none f g P h [] none = tt
each_of_none f g P h (x ∷ xs) none =
    let parts = none_before (f x) (flat_map f xs) none in
    each_both P (g x) (flat_map g xs) (h x parts.0) (each_of_none f g P h xs parts.1)

each_none : {X A : Type 0} (f : X → List A) (xs : List X) → flat_map f xs ≡ [] → AllByRecursion (λ x. f x ≡ []) xs
each_none f [] none = tt
each_none f (x ∷ xs) none = let parts = none_before (f x) (flat_map f xs) none in (parts.0, each_none f xs parts.1)

-- ---- names of one space

-- a name behind others and one more is behind each of them
behind : (earlier : List Name) (x name : Name) → is_among (earlier ++ x ∷ []) name ≡ false → (is_among earlier name ≡ false) × (folds_as name x ≡ false)
behind earlier x name h =
    let parts = neither (is_among earlier name) (folds_as name x || false) (sym (list_any-append (folds_as name) earlier (x ∷ [])) ∙ h) in
    (parts.0, (neither (folds_as name x) false parts.1).0)

record Once (earlier : List Name) (x : Name) (xs : List Name) : Type 0 where
  new : is_among earlier x ≡ false
  plain : has_two_underscores x.word.bytes ≡ false
  rest : each_declared_after (earlier ++ x ∷ []) xs ≡ []

once : (earlier : List Name) (x : Name) (xs : List Name) → each_declared_after earlier (x ∷ xs) ≡ [] → Once earlier x xs
once earlier x xs none =
    let parts = none_before (declared_after earlier x) (each_declared_after (earlier ++ x ∷ []) xs) none in
    let here = none_before (violated_if (is_among earlier x) N2 x) (violated_if (has_two_underscores x.word.bytes) N4 x) parts.0 in
    record { new = not_broken (is_among earlier x) N2 x here.0; plain = not_broken (has_two_underscores x.word.bytes) N4 x here.1; rest = parts.1 }

each_new : (earlier names : List Name) → each_declared_after earlier names ≡ [] → AllByRecursion (λ name. is_among earlier name ≡ false) names
each_new earlier [] none = tt
each_new earlier (x ∷ xs) none =
    let here = once earlier x xs none in
    (here.new, each_more (λ name. is_among (earlier ++ x ∷ []) name ≡ false) (λ name. is_among earlier name ≡ false) xs (λ name h. (behind earlier x name h).0) (each_new (earlier ++ x ∷ []) xs here.rest))

each_plain : (earlier names : List Name) → each_declared_after earlier names ≡ [] → AllByRecursion HasNoTwoUnderscores names
each_plain earlier [] none = tt
each_plain earlier (x ∷ xs) none = let here = once earlier x xs none in (here.plain, each_plain (earlier ++ x ∷ []) xs here.rest)

apart : (earlier names : List Name) → each_declared_after earlier names ≡ [] → (i j : ℕ) (d : Name) → i < j → j < length names → folds_as (get_or names j d) (get_or names i d) ≡ false
apart earlier [] none i j d lt le = absurd (omega arith)
apart earlier (x ∷ xs) none i zero d lt le = absurd (omega arith)
apart earlier (x ∷ xs) none zero (suc j) d lt le =
    let here = once earlier x xs none in
    (behind earlier x (get_or xs j d) (All-from_recursion (λ name. is_among (earlier ++ x ∷ []) name ≡ false) xs (each_new (earlier ++ x ∷ []) xs here.rest) j d (omega (arith, le)))).1
apart earlier (x ∷ xs) none (suc i) (suc j) d lt le = apart (earlier ++ x ∷ []) xs (once earlier x xs none).rest i j d (omega (arith, lt)) (omega (arith, le))

not_same : (a b : Name) → folds_as b a ≡ false → AreOther a b
not_same a b h same = true≢false (sym ((bytes_decides (key b) (key a)).1 (sym same)) ∙ h)

all_differ : (names : List Name) → in_space names ≡ [] → AllDiffer names
all_differ names none i j d lt le = not_same (get_or names i d) (get_or names j d) (apart [] names none i j d lt le)

all_plain : (names : List Name) → in_space names ≡ [] → All HasNoTwoUnderscores names
all_plain names none = All-from_recursion HasNoTwoUnderscores names (each_plain [] names none)

no_spaces : (types constants : List (List ℕ)) (units : List UnitTree) → violations types constants units ≡ [] → AllByRecursion (λ names. in_space names ≡ []) (spaces units)
no_spaces types constants units none = each_none in_space (spaces units) (none_before (flat_map in_space (spaces units)) (in_sorts types constants units) none).0

pub signals_differ : (types constants : List (List ℕ)) (units : List UnitTree) → violations types constants units ≡ [] → AllDiffer (signals_in units)
signals_differ types constants units none = all_differ (signals_in units) (no_spaces types constants units none).0

pub spaces_differ : (types constants : List (List ℕ)) (units : List UnitTree) → violations types constants units ≡ [] → All AllDiffer (spaces units)
spaces_differ types constants units none =
    All-from_recursion AllDiffer (spaces units) (each_more (λ names. in_space names ≡ []) AllDiffer (spaces units) all_differ (no_spaces types constants units none))

pub spaces_are_plain : (types constants : List (List ℕ)) (units : List UnitTree) → violations types constants units ≡ [] → All (All HasNoTwoUnderscores) (spaces units)
spaces_are_plain types constants units none =
    All-from_recursion (All HasNoTwoUnderscores) (spaces units) (each_more (λ names. in_space names ≡ []) (All HasNoTwoUnderscores) (spaces units) all_plain (no_spaces types constants units none))

-- ---- types

own_one : (own any : Bool) (name : Name) → looked_up own any name ≡ [] → own ≡ true
own_one true any name h = refl
own_one false true name h = cc
own_one false false name h = cc

module _ (types constants : List (List ℕ)) (units : List UnitTree) where
  signal_typed : (other : List ℕ → Bool) (signal : SigTree) → in_signal types other signal ≡ [] → AllByRecursion (IsOfType types) (sorts_of_signal signal)
  signal_typed other signal none =
      each_more (λ sort. in_sort types other signal.name sort ≡ []) (IsOfType types) signal.sorts
      (λ (sort : HyphenedName). own_one (is_type types (hyphened_key sort)) (other (hyphened_key sort)) (front_of signal.name sort.parts))
      (each_none (in_sort types other signal.name) signal.sorts none)

  signals_typed : (other : List ℕ → Bool) (signals : List SigTree) → flat_map (in_signal types other) signals ≡ [] → AllByRecursion (IsOfType types) (flat_map sorts_of_signal signals)
  signals_typed other signals none = each_of_none (in_signal types other) sorts_of_signal (IsOfType types) (signal_typed other) signals none

  block_part_typed : (other : List ℕ → Bool) (part : BlockPart) → in_block_part types other part ≡ [] → AllByRecursion (IsOfType types) (sorts_of_block_part part)
  block_part_typed other (member.Signal signal) none = signals_typed other signal.signals none
  block_part_typed other (member.Route route) none = tt
  block_part_typed other (member.Link link) none = tt
  block_part_typed other (member.Process process) none = tt
  block_part_typed other (member.Reference reference) none = tt

  part_typed : (system : SystemTree) (part : SystemPart) → in_system_part types constants units system part ≡ [] → AllByRecursion (IsOfType types) (sorts_of_part part)
  part_typed system (piece.Use use') none = tt
  part_typed system (piece.Signal signal) none = signals_typed (is_seen_in_system constants units system) signal.signals none
  part_typed system (piece.Channel channel) none = tt
  part_typed system (piece.Procedure procedure) none = tt
  part_typed system (piece.Block block) none =
      each_of_none (in_block_part types (is_seen_in_block constants units system block)) sorts_of_block_part (IsOfType types) (block_part_typed (is_seen_in_block constants units system block)) block.parts none

  unit_typed : (one : UnitTree) → in_unit types constants units one ≡ [] → AllByRecursion (IsOfType types) (sorts_of_unit one)
  unit_typed (unit.Use use') none = tt
  unit_typed (unit.System system) none = each_of_none (in_system_part types constants units system) sorts_of_part (IsOfType types) (part_typed system) system.parts none
  unit_typed (unit.Process process) none = tt

  pub sorts_are_types : violations types constants units ≡ [] → All (IsOfType types) (sorts_in units)
  sorts_are_types none =
      All-from_recursion (IsOfType types) (sorts_in units)
      (each_of_none (in_unit types constants units) sorts_of_unit (IsOfType types) unit_typed units (none_before (flat_map in_space (spaces units)) (in_sorts types constants units) none).1)
