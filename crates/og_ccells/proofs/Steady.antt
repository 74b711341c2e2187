-- Where each struct holds only structs before it, how deep one goes down makes no difference.
use Rattle.std.proofs.Common.{◌≡◌, ℕ, zero, suc, ◌+◌, ◌<◌, ◌≤◌, pos, List, [], ◌∷◌, ◌++◌, length, map, take, Bool, true, false, cond, ◌&&◌, ◌||◌, Option, Some, None, slice_get, refl, sym, ap, ◌∙◌, arith}
use Rattle.std.specs.List.{find, list_all}
use Rattle.std.specs.Str.{bytes_eq}
use Rattle.std.proofs.lemmas.Bool.{false≢true}
use Rattle.std.proofs.lemmas.Option.{none-some}
use Rattle.og_names.proofs.Truths.{both_first, both_second}
use Rattle.og_ir.specs.Cells.{◌>>=◌, Cells, Cell, Empty, Both, row, cells_by}
use Rattle.og_names.specs.declared.Word.{Word}
use Rattle.og_csubset.specs.declared.CStruct.{CStruct}
use Rattle.og_csubset.specs.declared.CMember.{CMember}
use Rattle.og_csubset.specs.declared.CType.{CType}
use Rattle.og_csubset.specs.declared.CType.TheVariants.{Int64, Struct}
use Rattle.og_csubset.specs.Kinds.{Kind, place_in, is_in, members_of, blank_within, blank_type, sized}
use Rattle.og_csubset.specs.Loading.{is_known, structs_known}
use Rattle.og_cload.proofs.Known.{known_after, known_is}
use Rattle.og_ccells.specs.Layouts.{kind_cells, member_kind}

abbrev pub names_of : List CStruct → List (List ℕ)
names_of structs = map (λ (s : CStruct). s.name.bytes) structs

-- the structs before a place
abbrev pub known_below : List CStruct → ℕ → CType → Bool
known_below structs p t = is_known (take p (names_of structs)) t

-- the struct of a name, and where it stands
pub record Stands (structs : List CStruct) (name : List ℕ) (p : ℕ) : Type 0 where
  pub at : ℕ
  pub one : CStruct
  pub before : at < p
  pub there : slice_get structs at ≡ Some one
  pub place : place_in name (names_of structs) ≡ Some at
  pub first : find (λ (s : CStruct). bytes_eq name s.name.bytes) structs ≡ Some one

stands_first : (s : CStruct) (structs : List CStruct) (name : List ℕ) (p : ℕ) → bytes_eq name s.name.bytes ≡ true → Stands (s ∷ structs) name (suc p)
stands_first s structs name p e = record {
  at = 0;
  one = s;
  before = omega arith;
  there = refl;
  place = ap (λ b. cond b (Some 0) (place_in name (names_of structs) >>= λ k. Some (k + 1))) e;
  first = ap (λ b. cond b (Some s) (find (λ (t : CStruct). bytes_eq name t.name.bytes) structs)) e;
}

stands_later : (s : CStruct) (structs : List CStruct) (name : List ℕ) (p : ℕ) → bytes_eq name s.name.bytes ≡ false → Stands structs name p → Stands (s ∷ structs) name (suc p)
stands_later s structs name p e inner =
    let more : inner.at + 1 ≡ suc inner.at = omega arith in record {
      at = suc inner.at;
      one = inner.one;
      before = (let lt = inner.before in omega (arith, lt));
      there = inner.there;
      place = ap (λ b. cond b (Some 0) (place_in name (names_of structs) >>= λ k. Some (k + 1))) e ∙ ap (λ o. o >>= λ k. Some (k + 1)) inner.place ∙ ap Some more;
      first = ap (λ b. cond b (Some s) (find (λ (t : CStruct). bytes_eq name t.name.bytes) structs)) e ∙ inner.first;
    }

pub stands_in : (structs : List CStruct) (name : List ℕ) (p : ℕ) → is_in name (take p (names_of structs)) ≡ true → Stands structs name p
stands_in [] name zero e = absurd (false≢true e)
stands_in [] name (suc p) e = absurd (false≢true e)
stands_in (s ∷ structs) name zero e = absurd (false≢true e)
stands_in (s ∷ structs) name (suc p) e = by_first (bytes_eq name s.name.bytes) refl (λ inner. stands_in structs name p inner)
  where
    by_first : (b : Bool) → bytes_eq name s.name.bytes ≡ b → (is_in name (take p (names_of structs)) ≡ true → Stands structs name p) → Stands (s ∷ structs) name (suc p)
    by_first true is later = stands_first s structs name p is
    by_first false is later = stands_later s structs name p is (later (sym (ap (λ b. b || is_in name (take p (names_of structs))) is) ∙ e))

-- ---- what is known stays known

in_more : (name : List ℕ) (names : List (List ℕ)) (q p : ℕ) → q ≤ p → is_in name (take q names) ≡ true → is_in name (take p names) ≡ true
in_more name names zero p le e = absurd (false≢true e)
in_more name names (suc q) zero le e = absurd (omega arith)
in_more name [] (suc q) (suc p) le e = e
in_more name (other ∷ names) (suc q) (suc p) le e = by_first (bytes_eq name other) e (in_more name names q p (omega arith))
  where
    by_first : (b : Bool) → (b || is_in name (take q names)) ≡ true → (is_in name (take q names) ≡ true → is_in name (take p names) ≡ true) → (b || is_in name (take p names)) ≡ true
    by_first true e more = refl
    by_first false e more = more e

known_more : (structs : List CStruct) (q p : ℕ) (t : CType) → q ≤ p → known_below structs q t ≡ true → known_below structs p t ≡ true
known_more structs q p Int64 le e = refl
known_more structs q p (Struct name) le e = in_more name.bytes (names_of structs) q p le e

all_more : {A : Type 0} (f g : A → Bool) (xs : List A) → ((x : A) → f x ≡ true → g x ≡ true) → list_all f xs ≡ true → list_all g xs ≡ true
all_more f g [] h e = refl
all_more f g (x ∷ xs) h e =
    ap (λ b. b && list_all g xs) (h x (both_first (f x) (list_all f xs) e)) ∙ all_more f g xs h (both_second (f x) (list_all f xs) e)

none_behind : (names : List (List ℕ)) → names ++ [] ≡ names
none_behind [] = refl
none_behind (n ∷ names) = ap (λ l. n ∷ l) (none_behind names)

one_behind : (front rest : List (List ℕ)) (name : List ℕ) → (front ++ name ∷ []) ++ rest ≡ front ++ (name ∷ rest)
one_behind [] rest name = refl
one_behind (n ∷ front) rest name = ap (λ l. n ∷ l) (one_behind front rest name)

members_behind : (front : List (List ℕ)) (structs : List CStruct) (q : ℕ) (s : CStruct) → known_after front structs ≡ true → slice_get structs q ≡ Some s
    → list_all (λ (m : CMember). is_known (front ++ take q (names_of structs)) m.kind) s.members ≡ true
members_behind front [] zero s known there = absurd (none-some s there)
members_behind front [] (suc q) s known there = absurd (none-some s there)
members_behind front (t ∷ structs) zero s known there =
    let same : t ≡ s = cc in
    ap (λ names. list_all (λ (m : CMember). is_known names m.kind) s.members) (none_behind front)
    ∙ ap (λ (u : CStruct). list_all (λ (m : CMember). is_known front m.kind) u.members) (sym same)
    ∙ both_first (list_all (λ (m : CMember). is_known front m.kind) t.members) (known_after (front ++ t.name.bytes ∷ []) structs) known
members_behind front (t ∷ structs) (suc q) s known there =
    ap (λ names. list_all (λ (m : CMember). is_known names m.kind) s.members) (sym (one_behind front (take q (names_of structs)) t.name.bytes))
    ∙ members_behind (front ++ t.name.bytes ∷ []) structs q s
    (both_second (list_all (λ (m : CMember). is_known front m.kind) t.members) (known_after (front ++ t.name.bytes ∷ []) structs) known) there

-- the members of a struct have types of structs before it
pub members_known : (structs : List CStruct) (q : ℕ) (s : CStruct) → structs_known [] structs ≡ true → slice_get structs q ≡ Some s
    → list_all (λ (m : CMember). known_below structs q m.kind) s.members ≡ true
members_known structs q s known there = members_behind [] structs q s (known_is structs ∙ known) there

-- ---- going down

members_same : (structs : List CStruct) (known : CType → Bool) (d e : ℕ) (members : List CMember) → ((t : CType) → known t ≡ true → blank_within d structs t ≡ blank_within e structs t)
    → list_all (λ (m : CMember). known m.kind) members ≡ true
    → map (λ (m : CMember). sized m.size (blank_within d structs m.kind)) members ≡ map (λ (m : CMember). sized m.size (blank_within e structs m.kind)) members
members_same structs known d e [] same all = refl
members_same structs known d e (m ∷ members) same all =
    ap (λ c. sized m.size c ∷ map (λ (m : CMember). sized m.size (blank_within d structs m.kind)) members)
    (same m.kind (both_first (known m.kind) (list_all (λ (m : CMember). known m.kind) members) all))
    ∙ ap (λ l. sized m.size (blank_within e structs m.kind) ∷ l)
    (members_same structs known d e members same (both_second (known m.kind) (list_all (λ (m : CMember). known m.kind) members) all))

struct_cells : (d : ℕ) (structs : List CStruct) (name : Word) (s : CStruct) → find (λ (t : CStruct). bytes_eq name.bytes t.name.bytes) structs ≡ Some s
    → blank_within (suc d) structs (Struct name) ≡ row (map (λ (m : CMember). sized m.size (blank_within d structs m.kind)) s.members)
struct_cells d structs name s found =
    ap (λ o. cells_by (λ members. row (map (λ (m : CMember). sized m.size (blank_within d structs m.kind)) members)) (o >>= λ t. Some t.members)) found

pub steady : (structs : List CStruct) → structs_known [] structs ≡ true → (p : ℕ) (t : CType) (d e : ℕ) → p < d → p < e → known_below structs p t ≡ true
    → blank_within d structs t ≡ blank_within e structs t
steady structs known p t zero e lt lt' below = absurd (omega arith)
steady structs known p t (suc d) zero lt lt' below = absurd (omega arith)
steady structs known p Int64 (suc d) (suc e) lt lt' below = refl
steady structs known zero (Struct name) (suc d) (suc e) lt lt' below = absurd (false≢true below)
steady structs known (suc p) (Struct name) (suc d) (suc e) lt lt' below =
    let s = stands_in structs name.bytes (suc p) below in
    let early : s.at ≤ p = (let b = s.before in omega (arith, b)) in
    let all = all_more (λ (m : CMember). known_below structs s.at m.kind) (λ (m : CMember). known_below structs p m.kind) s.one.members (λ m. known_more structs s.at p m.kind early)
    (members_known structs s.at s.one known s.there) in
    struct_cells d structs name s.one s.first
    ∙ ap row (members_same structs (known_below structs p) d e s.one.members (λ t b. steady structs known p t d e (omega (arith, lt)) (omega (arith, lt')) b) all)
    ∙ sym (struct_cells e structs name s.one s.first)

-- ---- a struct by its members

-- where a found struct stands
record Found (structs : List CStruct) (s : CStruct) : Type 0 where
  at : ℕ
  within : at < length structs
  there : slice_get structs at ≡ Some s

found_at : (name : List ℕ) (structs : List CStruct) (s : CStruct) → find (λ (t : CStruct). bytes_eq name t.name.bytes) structs ≡ Some s → Found structs s
found_at name [] s e = absurd (none-some s e)
found_at name (t ∷ structs) s e = by_first (bytes_eq name t.name.bytes) e (found_at name structs s)
  where
    by_first : (b : Bool) → cond b (Some t) (find (λ (t : CStruct). bytes_eq name t.name.bytes) structs) ≡ Some s
        → (find (λ (t : CStruct). bytes_eq name t.name.bytes) structs ≡ Some s → Found structs s) → Found (t ∷ structs) s
    by_first true e later = record { at = 0; within = omega arith; there = e }
    by_first false e later =
        let found = later e in record { at = suc found.at; within = (let lt = found.within in omega (arith, lt)); there = found.there }

members_steady : (structs : List CStruct) → structs_known [] structs ≡ true → (s : CStruct) → Found structs s
    → map (λ (m : CMember). sized m.size (blank_within (length structs) structs m.kind)) s.members ≡ map (λ (m : CMember). kind_cells structs (member_kind m)) s.members
members_steady structs known s found =
    let lt = found.within in
    members_same structs (known_below structs found.at) (length structs) (length structs + 1) s.members
    (λ t below. steady structs known found.at t (length structs) (length structs + 1) lt (omega (arith, lt)) below)
    (members_known structs found.at s known found.there)

deeper : (structs : List CStruct) (t : CType) → blank_type structs t ≡ blank_within (suc (length structs)) structs t
deeper structs t = let more : length structs + 1 ≡ suc (length structs) = omega arith in ap (λ d. blank_within d structs t) more

-- the cells of a struct are those of its members
pub struct_laid : (structs : List CStruct) → structs_known [] structs ≡ true → (name : Word) (s : CStruct) → find (λ (t : CStruct). bytes_eq name.bytes t.name.bytes) structs ≡ Some s
    → blank_type structs (Struct name) ≡ row (map (λ (m : CMember). kind_cells structs (member_kind m)) s.members)
struct_laid structs known name s e =
    deeper structs (Struct name) ∙ struct_cells (length structs) structs name s e ∙ ap row (members_steady structs known s (found_at name.bytes structs s e))

pub number_laid : (structs : List CStruct) → blank_type structs Int64 ≡ Cell (pos 0)
number_laid structs = deeper structs Int64
