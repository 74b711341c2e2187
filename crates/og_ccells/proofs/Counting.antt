-- How many cells a type has, by its parts.
use Rattle.std.proofs.Common.{◌≡◌, ℕ, zero, suc, ◌+◌, ◌*◌, ◌<◌, ◌≤◌, List, [], ◌∷◌, length, map, Option, Some, None, refl, sym, ap, ◌∙◌, arith}
use Rattle.og_ir.specs.Cells.{Cells, Cell, Empty, Both, row, equal_parts, cells_by, count, part}
use Rattle.og_csubset.specs.declared.CProgram.{CProgram}
use Rattle.og_csubset.specs.declared.CStruct.{CStruct}
use Rattle.og_csubset.specs.declared.CMember.{CMember}
use Rattle.og_csubset.specs.declared.CGlobal.{CGlobal}
use Rattle.og_csubset.specs.declared.CType.{CType}
use Rattle.og_csubset.specs.declared.CType.TheVariants.{Int64, Struct}
use Rattle.og_csubset.specs.Kinds.{Kind, members_of, blank_within, blank_type, sized, width_within, width_of, times, total, total_by, first_globals}
use Rattle.og_csubset.specs.Loading.{cells_of_globals}
use Rattle.og_ccells.specs.Vectors.{numbers_before}
use Rattle.og_ccells.specs.Layouts.{kind_cells}

pub count_equal : (n : ℕ) (c : Cells) → count (equal_parts n c) ≡ n * count c
count_equal zero c = omega arith
count_equal (suc n) c = let more = count_equal n c in omega (arith, more)

pub count_sized : (size : Option ℕ) (c : Cells) → count (sized size c) ≡ times size (count c)
count_sized None c = refl
count_sized (Some n) c = count_equal n c

pub count_row : {A : Type 0} (f : A → Cells) (xs : List A) → count (row (map f xs)) ≡ total (map (λ x. count (f x)) xs)
count_row f [] = refl
count_row f (x ∷ xs) = ap (λ n. count (f x) + n) (count_row f xs)

total_same : {A : Type 0} (f g : A → ℕ) (xs : List A) → ((x : A) → f x ≡ g x) → total (map f xs) ≡ total (map g xs)
total_same f g [] h = refl
total_same f g (x ∷ xs) h = ap (λ n. n + total (map f xs)) (h x) ∙ ap (λ n. g x + n) (total_same f g xs h)

count_by : {A : Type 0} (f : A → Cells) (g : A → ℕ) (o : Option (List A)) → ((x : A) → count (f x) ≡ g x) → count (cells_by (λ xs. row (map f xs)) o) ≡ total_by g o
count_by f g None h = refl
count_by f g (Some xs) h = count_row f xs ∙ total_same (λ x. count (f x)) g xs h

pub count_within : (depth : ℕ) (structs : List CStruct) (t : CType) → count (blank_within depth structs t) ≡ width_within depth structs t
count_within zero structs t = refl
count_within (suc depth) structs Int64 = refl
count_within (suc depth) structs (Struct name) =
    count_by (λ (m : CMember). sized m.size (blank_within depth structs m.kind)) (λ (m : CMember). times m.size (width_within depth structs m.kind)) (members_of structs (Struct name))
    (λ m. count_sized m.size (blank_within depth structs m.kind) ∙ ap (times m.size) (count_within depth structs m.kind))

pub count_type : (structs : List CStruct) (t : CType) → count (blank_type structs t) ≡ width_of structs t
count_type structs t = count_within (length structs + 1) structs t

pub count_kind : (structs : List CStruct) (kind : Kind) → count (kind_cells structs kind) ≡ times kind.size (width_of structs kind.type)
count_kind structs kind = count_sized kind.size (blank_type structs kind.type) ∙ ap (times kind.size) (count_type structs kind.type)

-- the cells of all globals
pub count_globals : (program : CProgram) → count (row (first_globals program)) ≡ cells_of_globals program
count_globals program =
    count_row (λ (g : CGlobal). blank_type program.structs g.kind) program.globals
    ∙ total_same (λ (g : CGlobal). count (blank_type program.structs g.kind)) (λ (g : CGlobal). width_of program.structs g.kind) program.globals (λ g. count_type program.structs g.kind)

-- ---- arrays

pub element_part : (n k : ℕ) (c : Cells) → k < n → part k (equal_parts n c) ≡ Some c
element_part zero k c lt = absurd (omega arith)
element_part (suc n) zero c lt = refl
element_part (suc n) (suc k) c lt = element_part n k c (omega arith)

pub element_before : (n k : ℕ) (c : Cells) → k < n → numbers_before k (equal_parts n c) ≡ k * count c
element_before zero k c lt = absurd (omega arith)
element_before (suc n) zero c lt = omega arith
element_before (suc n) (suc k) c lt = let more = element_before n k c (omega arith) in omega (arith, more)
