-- Sums and products of numbers of cells that are counted up to a bound.
use Rattle.std.proofs.Common.{◌≡◌, ℕ, zero, suc, ◌+◌, ◌-◌, ◌*◌, ◌<◌, ◌≤◌, ◌≢◌, min, length, get_or, List, ◌∷◌, map, true, nat_eq, nat_lt, Option, Some, None, refl, sym, ap, ◌∙◌, arith, eqb-true}
use Rattle.og_csubset.specs.declared.CStruct.{CStruct}
use Rattle.og_csubset.specs.declared.CMember.{CMember}
use Rattle.og_csubset.specs.declared.CType.{CType}
use Rattle.og_csubset.specs.declared.CType.TheVariants.{Int64, Struct}
use Rattle.og_names.specs.declared.Word.{Word}
use Rattle.og_csubset.specs.Kinds.{members_of, width_within, total, total_by, times}
use Rattle.std.proofs.lemmas.Bool.Decides.{nat_tests}
use Rattle.og_cload.specs.Widths.{many, capped}
use Rattle.og_names.proofs.Loops.{Left, left_more, left_stop, left_all}

capped_sum : (a b c : ℕ) → min c (a + b) ≡ min c (min c a + min c b)
capped_sum a b c = omega arith

step_by : (c cells w whole rest next : ℕ) → w ≡ min c whole → next ≡ min c (cells + w) → min c (cells + (whole + rest)) ≡ min c (next + rest)
step_by c cells w whole rest next p q = omega (arith, p, q)

-- one more part of so many cells
pub cells_step : (cells w whole rest next : ℕ) → w ≡ capped whole → next ≡ capped (cells + w) → capped (cells + (whole + rest)) ≡ capped (next + rest)
unfolding capped
cells_step cells w whole rest next p q = step_by many cells w whole rest next p q

product_by : (c n w : ℕ) → min c (n * min c w) ≡ min c (n * w)
product_by c zero w = omega arith
product_by c (suc n) w = let e = product_by c n w in omega (arith, e)

pub times_capped : (size : Option ℕ) (w : ℕ) → capped (times size (capped w)) ≡ capped (times size w)
unfolding capped
times_capped None w = omega arith
times_capped (Some n) w = product_by many n w

full_by : (c n : ℕ) → c ≡ n → (m : ℕ) → min c (n + m) ≡ n
full_by c n h m = omega (arith, h)

-- as many as are counted
pub full_stays : (n : ℕ) → nat_eq many n ≡ true → (m : ℕ) → capped (n + m) ≡ n
unfolding capped
full_stays n h m = full_by many n (eqb-true many n h) m

pub within : (w n : ℕ) → w ≡ capped n → w ≤ many
unfolding capped
within w n e = omega (arith, e)

pub none_capped : 0 ≡ capped 0
unfolding capped
none_capped = omega arith

pub one_capped : 1 ≡ capped 1
unfolding capped many
one_capped = refl

pub none_many : 0 ≤ many
none_many = omega arith

first_by : (c n : ℕ) → min c (0 + n) ≡ min c n
first_by c n = omega arith

pub cells_first : {X : Type 0} (f : X → ℕ) (xs : List X) → Left (λ ys. capped (0 + total (map f ys))) xs 0 (capped (total (map f xs)))
unfolding capped
cells_first f xs = record { is = first_by many (total (map f xs)) }

last_by : (c n : ℕ) → n ≤ c → min c (n + 0) ≡ n
last_by c n h = omega (arith, h)

-- the last part is counted
pub cells_last : {X : Type 0} (f : X → ℕ) (xs : List X) (i cells all : ℕ) → cells ≤ many → length xs ≤ i → Left (λ ys. capped (cells + total (map f ys))) xs i all → cells ≡ all
unfolding capped
cells_last f xs i cells all h le left = sym (last_by many cells h) ∙ left_all (λ ys. min many (cells + total (map f ys))) xs i all le left

-- no further part is counted
pub cells_full : {X : Type 0} (f : X → ℕ) (xs : List X) (i cells all : ℕ) (x : X) → nat_eq many cells ≡ true → i < length xs → x ≡ get_or xs i x
    → Left (λ ys. capped (cells + total (map f ys))) xs i all → cells ≡ all
cells_full f xs i cells all x full lt at left =
    left_stop (λ ys. capped (cells + total (map f ys))) xs i x cells all lt at (λ ys. full_stays cells full (total (map f (x ∷ ys)))) left

-- one part is counted
pub cells_more : {X : Type 0} (f : X → ℕ) (xs : List X) (i cells w next all : ℕ) (x : X) → w ≡ capped (f x) → next ≡ capped (cells + w) → i < length xs → x ≡ get_or xs i x
    → Left (λ ys. capped (cells + total (map f ys))) xs i all → Left (λ ys. capped (next + total (map f ys))) xs (i + 1) all
cells_more f xs i cells w next all x part sum lt at left =
    left_more (λ ys. capped (cells + total (map f ys))) (λ ys. capped (next + total (map f ys))) xs i x all lt at
    (λ ys. cells_step cells w (f x) (total (map f ys)) next part sum) left

-- the cells of a struct type
pub width_struct : (depth : ℕ) (structs : List CStruct) (kind : CType) (name : Word) (members : List CMember) → depth ≢ 0 → kind ≡ Struct name → Some members ≡ members_of structs kind
    → width_within depth structs kind ≡ total (map (λ m. times m.size (width_within (depth - 1) structs m.kind)) members)
width_struct zero structs kind name members ne k found = absurd (ne refl)
width_struct (suc depth) structs kind name members ne k found =
    let less : depth ≡ suc depth - 1 = omega arith in
    ap (width_within (suc depth) structs) k
    ∙ ap (total_by (λ m. times m.size (width_within depth structs m.kind))) (sym (found ∙ ap (members_of structs) k))
    ∙ ap (λ d. total (map (λ (m : CMember). times m.size (width_within d structs m.kind)) members)) less

pub width_unknown : (depth : ℕ) (structs : List CStruct) (kind : CType) (name : Word) → kind ≡ Struct name → None ≡ members_of structs kind → width_within depth structs kind ≡ 0
width_unknown zero structs kind name k found = refl
width_unknown (suc depth) structs kind name k found =
    ap (width_within (suc depth) structs) k
    ∙ ap (total_by (λ m. times m.size (width_within depth structs m.kind))) (sym (found ∙ ap (members_of structs) k))

pub width_number : (depth : ℕ) (structs : List CStruct) (kind : CType) → depth ≢ 0 → kind ≡ Int64 → width_within depth structs kind ≡ 1
width_number zero structs kind ne k = absurd (ne refl)
width_number (suc depth) structs kind ne k = ap (width_within (suc depth) structs) k

pub width_none : (depth : ℕ) (structs : List CStruct) (kind : CType) → depth ≡ 0 → width_within depth structs kind ≡ 0
width_none depth structs kind e = ap (λ d. width_within d structs kind) e

pub no_times : (size : Option ℕ) (n w : ℕ) → size ≡ Some n → n ≡ 0 → times size w ≡ 0
no_times size n w e none = let zeroes : 0 * w ≡ 0 = omega arith in ap (λ s. times s w) (e ∙ ap Some none) ∙ zeroes

over_by : (m c n : ℕ) → c ≡ m + 1 → nat_eq c (min c n) ≡ nat_lt m n
over_by m c n e = grind (arith, nat_tests)

pub over : (n : ℕ) → nat_eq many (capped n) ≡ nat_lt 16777216 n
unfolding capped many
over n = over_by 16777216 16777217 n refl

pub ruleset widths = (within, none_many, over)
