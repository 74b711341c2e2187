-- Widths of types that are looked up, and sums of widths that are counted up to a bound.
use Rattle.std.proofs.Common.{◌≡◌, ℕ, zero, suc, ◌+◌, ◌-◌, ◌*◌, ◌^◌, ◌<◌, ◌≤◌, min, List, [], ◌∷◌, ◌++◌, length, map, take, get_or, Bool, true, false, cond, ◌&&◌, Option, Some, None, slice_get, unwrap_or, refl, sym, ap, ◌∙◌, arith}
use Rattle.std.specs.List.{find, list_all}
use Rattle.std.specs.Option.{option_map}
use Rattle.std.specs.Str.{bytes_eq}
use Rattle.std.proofs.lemmas.Option.{slice_get-map, slice_get_read}
use Rattle.std.proofs.lemmas.List.{map_more, get_or_default}
use Rattle.og_names.proofs.Loops.{Left, left_more, left_stop, left_all}
use Rattle.og_cload.proofs.Grown.{grown_one}
use Rattle.og_names.specs.declared.Word.{Word}
use Rattle.og_names.proofs.Truths.{both_first, both_second}
use Rattle.og_ir.specs.Cells.{◌>>=◌, count}
use Rattle.og_csubset.specs.declared.CStruct.{CStruct}
use Rattle.og_csubset.specs.declared.CMember.{CMember}
use Rattle.og_csubset.specs.declared.CGlobal.{CGlobal}
use Rattle.og_csubset.specs.declared.CType.{CType}
use Rattle.og_csubset.specs.declared.CType.TheVariants.{Int64, Struct}
use Rattle.og_csubset.specs.Kinds.{place_in, width_within, width_of, times, total, total_by}
use Rattle.og_csubset.specs.Loading.{structs_known}
use Rattle.og_csubset.specs.Loading.{is_int64}
use Rattle.og_ccells.specs.declared.layout.Extent.{Extent}
use Rattle.og_ccells.specs.Layouts.{up_to, capped, known_width, members_width, widths_of, width_before, extents_from}
use Rattle.og_ccells.proofs.Naming.{named, none_named}
use Rattle.og_ccells.proofs.Counting.{count_within}
use Rattle.og_ccells.proofs.Steady.{names_of, known_below, stands_in, steady, members_known}

-- ---- numbers that are counted up to a bound

sum_by : (c a b : ℕ) → min (min a c + min b c) c ≡ min (a + b) c
sum_by c a b = omega arith

product_by : (c n w : ℕ) → min (n * min w c) c ≡ min (n * w) c
product_by c zero w = omega arith
product_by c (suc n) w = let e = product_by c n w in omega (arith, e)

twice_by : (c n : ℕ) → min (min n c) c ≡ min n c
twice_by c n = omega arith

none_by : (c n : ℕ) → min (0 + n) c ≡ min n c
none_by c n = omega arith

last_by : (c n : ℕ) → n ≤ c → min (n + 0) c ≡ n
last_by c n h = omega (arith, h)

step_by : (c sum w whole rest next : ℕ) → w ≡ min whole c → next ≡ min (sum + w) c → min (sum + (whole + rest)) c ≡ min (next + rest) c
step_by c sum w whole rest next p q = omega (arith, p, q)

small_by : (c n : ℕ) → n ≤ c → min n c ≡ n
small_by c n h = omega (arith, h)

module _ (c : ℕ) where
  pub up_to_is : (n : ℕ) → min n c ≡ up_to c n
  unfolding up_to
  up_to_is n = refl

  pub up_to_small : (n : ℕ) → n ≤ c → up_to c n ≡ n
  unfolding up_to
  up_to_small n h = small_by c n h

  pub up_to_sum : (a b : ℕ) → up_to c (up_to c a + up_to c b) ≡ up_to c (a + b)
  unfolding up_to
  up_to_sum a b = sum_by c a b

  pub up_to_product : (n w : ℕ) → up_to c (n * up_to c w) ≡ up_to c (n * w)
  unfolding up_to
  up_to_product n w = product_by c n w

  pub up_to_times : (size : Option ℕ) (w : ℕ) → up_to c (times size (up_to c w)) ≡ up_to c (times size w)
  unfolding up_to
  up_to_times None w = twice_by c w
  up_to_times (Some n) w = product_by c n w

  pub up_to_none : (n : ℕ) → up_to c (0 + n) ≡ up_to c n
  unfolding up_to
  up_to_none n = none_by c n

  pub sum_first : {X : Type 0} (f : X → ℕ) (xs : List X) → Left (λ ys. up_to c (0 + total (map f ys))) xs 0 (up_to c (total (map f xs)))
  sum_first f xs = record { is = up_to_none (total (map f xs)) }

  pub sum_step : (sum w whole rest next : ℕ) → w ≡ up_to c whole → next ≡ min (sum + w) c → up_to c (sum + (whole + rest)) ≡ up_to c (next + rest)
  unfolding up_to
  sum_step sum w whole rest next p q = step_by c sum w whole rest next p q

  pub sum_last : (n : ℕ) → n ≤ c → up_to c (n + 0) ≡ n
  unfolding up_to
  sum_last n h = last_by c n h

  -- one part more
  pub sum_more : {X : Type 0} (f : X → ℕ) (xs : List X) (i sum w next all : ℕ) (x : X) → w ≡ up_to c (f x) → next ≡ min (sum + w) c → i < length xs → x ≡ get_or xs i x
      → Left (λ ys. up_to c (sum + total (map f ys))) xs i all → Left (λ ys. up_to c (next + total (map f ys))) xs (i + 1) all
  sum_more f xs i sum w next all x part grows lt at left =
      left_more (λ ys. up_to c (sum + total (map f ys))) (λ ys. up_to c (next + total (map f ys))) xs i x all lt at (λ ys. sum_step sum w (f x) (total (map f ys)) next part grows) left

  -- the same of a part that is copied out of the list
  pub sum_more_at : {X : Type 0} (f : X → ℕ) (xs : List X) (i sum w next all : ℕ) (d : X) → w ≡ up_to c (f (get_or xs i d)) → next ≡ min (sum + w) c → i < length xs
      → Left (λ ys. up_to c (sum + total (map f ys))) xs i all → Left (λ ys. up_to c (next + total (map f ys))) xs (i + 1) all
  sum_more_at f xs i sum w next all d part grows lt left =
      sum_more f xs i sum w next all (get_or xs i d) part grows lt (get_or_default xs i d (get_or xs i d) lt) left

  -- all parts
  pub sum_all : {X : Type 0} (f : X → ℕ) (xs : List X) (i sum all : ℕ) → sum ≤ c → length xs ≤ i → Left (λ ys. up_to c (sum + total (map f ys))) xs i all → sum ≡ all
  sum_all f xs i sum all small le left = sym (sum_last sum small) ∙ left_all (λ ys. up_to c (sum + total (map f ys))) xs i all le left

  pub small : (a b next : ℕ) → next ≡ min (a + b) c → next ≤ c
  small a b next e = omega (arith, e)

abbrev pub most : ℕ
most = 2 ^ 32 - 1

-- ---- structs whose widths are known

type_deeper : (structs : List CStruct) (t : CType) → width_of structs t ≡ width_within (suc (length structs)) structs t
type_deeper structs t = let more : length structs + 1 ≡ suc (length structs) = omega arith in ap (λ d. width_within d structs t) more

abbrev members_total : List CStruct → Option CStruct → ℕ
members_total structs o = total_by (λ (m : CMember). times m.size (width_within (length structs) structs m.kind)) (o >>= λ t. Some t.members)

-- the width of a struct is that of its members
struct_width : (structs : List CStruct) (name : Word) (o : Option CStruct) → find (λ (t : CStruct). bytes_eq name.bytes t.name.bytes) structs ≡ o
    → width_of structs (Struct name) ≡ members_total structs o
struct_width structs name o e = type_deeper structs (Struct name) ∙ ap (members_total structs) e

abbrev width_at : List CStruct → Option ℕ → ℕ
width_at structs o = unwrap_or (o >>= λ k. slice_get (widths_of structs) k) 0

-- the struct of a name, or none
found_width : (structs : List CStruct) (name : Word) (o : Option ℕ) → place_in name.bytes (names_of structs) ≡ o → width_at structs o ≡ capped (width_of structs (Struct name))
found_width structs name None e =
    sym (ap capped (struct_width structs name None (none_named (λ (s : CStruct). s.name.bytes) name.bytes structs e)) ∙ up_to_small most 0 (omega arith))
found_width structs name (Some k) e =
    let s = named (λ (s : CStruct). s.name.bytes) name.bytes structs k e in
    ap (λ o. unwrap_or o 0) (slice_get-map (λ (t : CStruct). capped (members_width structs t.members)) structs k ∙ ap (option_map (λ (t : CStruct). capped (members_width structs t.members))) s.there)
    ∙ ap capped (sym (struct_width structs name (Some s.one) s.first))

-- by the widths of all structs
pub full_width : (structs : List CStruct) (t : CType) → known_width (widths_of structs) structs t ≡ capped (width_of structs t)
full_width structs Int64 = sym (ap capped (type_deeper structs Int64) ∙ up_to_small most 1 (omega arith))
full_width structs (Struct name) = found_width structs name (place_in name.bytes (names_of structs)) refl

-- ---- structs one after the other

abbrev entry : List CStruct → CStruct → ℕ
entry structs s = capped (members_width structs s.members)

-- going down once less, where a struct stands
same_width : (structs : List CStruct) → structs_known [] structs ≡ true → (i : ℕ) (t : CType) → i < length structs → known_below structs i t ≡ true
    → width_within (length structs) structs t ≡ width_of structs t
same_width structs known i t lt below =
    sym (count_within (length structs) structs t) ∙ ap count (steady structs known i t (length structs) (length structs + 1) lt (omega (arith, lt)) below)
    ∙ count_within (length structs + 1) structs t

get_taken : {A : Type 0} (xs : List A) (i k : ℕ) → k < i → slice_get (take i xs) k ≡ slice_get xs k
get_taken [] zero k lt = absurd (omega arith)
get_taken [] (suc i) k lt = refl
get_taken (x ∷ xs) zero k lt = absurd (omega arith)
get_taken (x ∷ xs) (suc i) zero lt = refl
get_taken (x ∷ xs) (suc i) (suc k) lt = get_taken xs i k (omega arith)

-- by the widths of the structs before a place
early_width : (structs : List CStruct) → structs_known [] structs ≡ true → (i : ℕ) (t : CType) → i < length structs → known_below structs i t ≡ true
    → known_width (map (entry structs) (take i structs)) structs t ≡ capped (width_within (length structs) structs t)
early_width structs known i Int64 lt below =
    sym (ap capped (same_width structs known i Int64 lt below ∙ type_deeper structs Int64) ∙ up_to_small most 1 (omega arith))
early_width structs known i (Struct name) lt below =
    let s = stands_in structs name.bytes i below in
    ap (λ o. unwrap_or (o >>= λ k. slice_get (map (entry structs) (take i structs)) k) 0) s.place
    ∙ ap (λ o. unwrap_or o 0) (slice_get-map (entry structs) (take i structs) s.at ∙ ap (option_map (entry structs)) (get_taken structs i s.at s.before ∙ s.there))
    ∙ ap capped (sym (same_width structs known i (Struct name) lt below ∙ struct_width structs name (Some s.one) s.first))

members_early : (structs : List CStruct) (widths : List ℕ) (known : CType → Bool) (members : List CMember)
    → ((t : CType) → known t ≡ true → known_width widths structs t ≡ capped (width_within (length structs) structs t))
    → list_all (λ (m : CMember). known m.kind) members ≡ true
    → capped (total (map (λ (m : CMember). times m.size (known_width widths structs m.kind)) members)) ≡ capped (members_width structs members)
members_early structs widths known [] same all = refl
members_early structs widths known (m ∷ members) same all =
    let first = both_first (known m.kind) (list_all (λ (m : CMember). known m.kind) members) all in
    let others = members_early structs widths known members same (both_second (known m.kind) (list_all (λ (m : CMember). known m.kind) members) all) in
    let w = width_within (length structs) structs m.kind in
    sym (up_to_sum most (times m.size (known_width widths structs m.kind)) (total (map (λ (m : CMember). times m.size (known_width widths structs m.kind)) members)))
    ∙ ap (λ n. capped (n + capped (total (map (λ (m : CMember). times m.size (known_width widths structs m.kind)) members))))
    (ap (λ n. capped (times m.size n)) (same m.kind first) ∙ up_to_times most m.size w)
    ∙ ap (λ n. capped (capped (times m.size w) + n)) others
    ∙ up_to_sum most (times m.size w) (members_width structs members)

pub entry_is : (structs : List CStruct) (widths : List ℕ) (i : ℕ) (s : CStruct) (w : ℕ) → structs_known [] structs ≡ true → i < length structs → s ≡ get_or structs i s
    → widths ≡ map (entry structs) (take i structs) → w ≡ capped (total (map (λ (m : CMember). times m.size (known_width widths structs m.kind)) s.members)) → w ≡ entry structs s
entry_is structs widths i s w known lt at before is =
    is
    ∙ ap (λ ws. capped (total (map (λ (m : CMember). times m.size (known_width ws structs m.kind)) s.members))) before
    ∙ members_early structs (map (entry structs) (take i structs)) (known_below structs i) s.members (λ t below. early_width structs known i t lt below)
    (members_known structs i s known (slice_get_read structs (length structs) i s refl lt at))

pub entries_more : (structs : List CStruct) (widths next : List ℕ) (i : ℕ) (s : CStruct) (w : ℕ) → i < length structs → s ≡ get_or structs i s
    → widths ≡ map (entry structs) (take i structs) → w ≡ entry structs s → next ≡ widths ++ w ∷ [] → next ≡ map (entry structs) (take (i + 1) structs)
entries_more structs widths next i s w lt at before is grows =
    grows ∙ ap (λ l. l ++ w ∷ []) before ∙ ap (λ x. map (entry structs) (take i structs) ++ x ∷ []) (is ∙ ap (entry structs) at)
    ∙ sym (map_more (entry structs) structs i s lt)

-- ---- members before one

pub before_first : (structs : List CStruct) (name : List ℕ) (members : List CMember)
    → Left (λ ys. capped (0 + width_before structs name ys)) members 0 (capped (width_before structs name members))
before_first structs name members = record { is = up_to_none most (width_before structs name members) }

pub before_here : (structs : List CStruct) (name : List ℕ) (members : List CMember) (i sum all : ℕ) (m : CMember) → sum ≤ most → true ≡ bytes_eq name m.name.bytes
    → i < length members → m ≡ get_or members i m → Left (λ ys. capped (sum + width_before structs name ys)) members i all → sum ≡ all
before_here structs name members i sum all m low is lt at left =
    left_stop (λ ys. capped (sum + width_before structs name ys)) members i m sum all lt at
    (λ ys. ap (λ b. capped (sum + cond b 0 (times m.size (width_of structs m.kind) + width_before structs name ys))) (sym is) ∙ sum_last most sum low) left

pub before_more : (structs : List CStruct) (name widths : List ℕ) (members : List CMember) (i sum w next all : ℕ) (m : CMember) → widths ≡ widths_of structs → false ≡ bytes_eq name m.name.bytes
    → w ≡ capped (times m.size (known_width widths structs m.kind)) → next ≡ min (sum + w) (2 ^ 32 - 1) → i < length members → m ≡ get_or members i m
    → Left (λ ys. capped (sum + width_before structs name ys)) members i all → Left (λ ys. capped (next + width_before structs name ys)) members (i + 1) all
before_more structs name widths members i sum w next all m whole is part grows lt at left =
    let width : w ≡ capped (times m.size (width_of structs m.kind)) =
    part ∙ ap (λ ws. capped (times m.size (known_width ws structs m.kind))) whole ∙ ap (λ n. capped (times m.size n)) (full_width structs m.kind)
    ∙ up_to_times most m.size (width_of structs m.kind) in
    left_more (λ ys. capped (sum + width_before structs name ys)) (λ ys. capped (next + width_before structs name ys)) members i m all lt at
    (λ ys. ap (λ b. capped (sum + cond b 0 (times m.size (width_of structs m.kind) + width_before structs name ys))) (sym is)
    ∙ sum_step most sum w (times m.size (width_of structs m.kind)) (width_before structs name ys) next width grows) left

pub before_all : (structs : List CStruct) (name : List ℕ) (members : List CMember) (i sum all : ℕ) → sum ≤ most → length members ≤ i
    → Left (λ ys. capped (sum + width_before structs name ys)) members i all → sum ≡ all
before_all structs name members i sum all low le left =
    sym (sum_last most sum low) ∙ left_all (λ ys. capped (sum + width_before structs name ys)) members i all le left

-- ---- globals

-- one global more
pub extents_more : (structs : List CStruct) (globals : List CGlobal) (i offset w next : ℕ) (extents grown all : List Extent) (b : Bool) (g : CGlobal) → w ≡ capped (width_of structs g.kind)
    → b ≡ is_int64 g.kind → grown ≡ extents ++ record { offset = offset; width = w; is_number = b } ∷ [] → next ≡ min (offset + w) (2 ^ 32 - 1) → i < length globals → g ≡ get_or globals i g
    → Left (λ ys. extents ++ extents_from offset structs ys) globals i all → Left (λ ys. grown ++ extents_from next structs ys) globals (i + 1) all
extents_more structs globals i offset w next extents grown all b g width single grows moved lt at left =
    let e : Extent = record { offset = offset; width = capped (width_of structs g.kind); is_number = is_int64 g.kind } in
    let is : grown ≡ extents ++ e ∷ [] = grows ∙ (λ j. extents ++ record { offset = offset; width = width j; is_number = single j } ∷ []) in
    let place : next ≡ capped (offset + capped (width_of structs g.kind)) = moved ∙ up_to_is most (offset + w) ∙ ap (λ n. capped (offset + n)) width in
    left_more (λ ys. extents ++ extents_from offset structs ys) (λ ys. grown ++ extents_from next structs ys) globals i g all lt at
    (λ ys. grown_one extents e (extents_from (capped (offset + capped (width_of structs g.kind))) structs ys)
    ∙ (λ j. sym is j ++ extents_from (sym place j) structs ys)) left

pub ruleset widths = (full_width)
