-- Where the members of a struct, the elements of an array and the globals of a program lie.
use Rattle.std.proofs.Common.{◌≡◌, ℕ, zero, suc, ◌+◌, ◌*◌, ◌<◌, ◌≤◌, pos, List, [], ◌∷◌, length, map, Bool, true, false, cond, ◌&&◌, Option, Some, None, slice_get, unwrap_or, refl, sym, ap, ◌∙◌, subst, arith}
use Rattle.std.specs.List.{find}
use Rattle.std.specs.Option.{option_map}
use Rattle.std.specs.Str.{bytes_eq}
use Rattle.std.proofs.lemmas.Bool.{false≢true}
use Rattle.std.proofs.lemmas.Option.{none-some}
use Rattle.og_ir.specs.Cells.{◌>>=◌, Cells, Cell, Empty, Both, row, part, count}
use Rattle.og_csubset.specs.declared.CProgram.{CProgram}
use Rattle.og_names.specs.declared.Word.{Word}
use Rattle.og_csubset.specs.declared.CStruct.{CStruct}
use Rattle.og_csubset.specs.declared.CMember.{CMember}
use Rattle.og_csubset.specs.declared.CGlobal.{CGlobal}
use Rattle.og_csubset.specs.declared.CType.{CType}
use Rattle.og_csubset.specs.declared.CType.TheVariants.{Int64, Struct}
use Rattle.og_csubset.specs.Kinds.{Kind, place_in, members_of, member_in, member_of, element_of, global_kind, global_names, type_of_one, blank_type, width_of, times, first_globals}
use Rattle.og_csubset.specs.Loading.{structs_known}
use Rattle.og_ccells.specs.Vectors.{numbers_before}
use Rattle.og_ccells.specs.Layouts.{kind_cells, member_kind, width_before, members_before, globals_before}
use Rattle.og_ccells.proofs.Counting.{count_type, count_kind, element_part, element_before}
use Rattle.og_ccells.proofs.Steady.{struct_laid}

-- what is selected, and how many numbers stand before it
pub record Lies (cells : Cells) (k : ℕ) (inner : Cells) (before : ℕ) : Type 0 where
  pub there : part k cells ≡ Some inner
  pub before_is : numbers_before k cells ≡ before

-- ---- members

abbrev row_of : List CStruct → List CMember → Cells
row_of structs members = row (map (λ (m : CMember). kind_cells structs (member_kind m)) members)

lies_later : (c others inner : Cells) (k before n : ℕ) → count c ≡ n → Lies others k inner before → Lies (Both c others) (k + 1) inner (n + before)
lies_later c others inner k before n size lies =
    let more : suc k ≡ k + 1 = omega arith in
    let L : ℕ → Type 0 = λ i. Lies (Both c others) i inner (n + before) in
    subst L more (record { there = lies.there; before_is = ap (λ w. w + numbers_before k others) size ∙ ap (λ b. n + b) lies.before_is })

-- a member at a place, and the same one place later
abbrev at : ℕ → Kind → Option (ℕ × Kind)
at k kind = Some (k, kind)

abbrev next : ℕ × Kind → Option (ℕ × Kind)
next f = Some (f.0 + 1, f.1)

abbrev Member : List CStruct → List ℕ → List CMember → Type 0
Member structs name members =
    (k : ℕ) (kind : Kind) → member_in name members ≡ Some (k, kind) → Lies (row_of structs members) k (kind_cells structs kind) (width_before structs name members)

abbrev either : Kind → Option (ℕ × Kind) → ℕ × Kind
either kind o = unwrap_or o (0, kind)

later_member : (structs : List CStruct) (name : List ℕ) (m : CMember) (members : List CMember) (k : ℕ) (kind : Kind) (o : Option (ℕ × Kind)) → member_in name members ≡ o
    → (o >>= next) ≡ at k kind → Member structs name members
    → Lies (row_of structs (m ∷ members)) k (kind_cells structs kind) (times m.size (width_of structs m.kind) + width_before structs name members)
later_member structs name m members k kind None is found inner = absurd (none-some (k, kind) found)
later_member structs name m members k kind (Some f) is found inner =
    let place : f.0 + 1 ≡ k = ap (λ o. (either kind o).0) found in
    let same : f.1 ≡ kind = ap (λ o. (either kind o).1) found in
    let L : ℕ → Type 0 = λ i. Lies (row_of structs (m ∷ members)) i (kind_cells structs f.1) (times m.size (width_of structs m.kind) + width_before structs name members) in
    let K : Kind → Type 0 = λ x. Lies (row_of structs (m ∷ members)) k (kind_cells structs x) (times m.size (width_of structs m.kind) + width_before structs name members) in
    subst K same (subst L place
    (lies_later (kind_cells structs (member_kind m)) (row_of structs members) (kind_cells structs f.1) f.0 (width_before structs name members) (times m.size (width_of structs m.kind))
    (count_kind structs (member_kind m)) (inner f.0 f.1 is)))

first_member : (structs : List CStruct) (m : CMember) (members : List CMember) (k : ℕ) (kind : Kind) → at 0 (member_kind m) ≡ at k kind
    → Lies (row_of structs (m ∷ members)) k (kind_cells structs kind) 0
first_member structs m members k kind e =
    let place : 0 ≡ k = ap (λ o. (either kind o).0) e in
    let same : member_kind m ≡ kind = ap (λ o. (either kind o).1) e in
    let L : ℕ → Type 0 = λ i. Lies (row_of structs (m ∷ members)) i (kind_cells structs (member_kind m)) 0 in
    let K : Kind → Type 0 = λ x. Lies (row_of structs (m ∷ members)) k (kind_cells structs x) 0 in
    subst K same (subst L place (record { there = refl; before_is = refl }))

member_by : (structs : List CStruct) (name : List ℕ) (m : CMember) (members : List CMember) (k : ℕ) (kind : Kind) (b : Bool)
    → cond b (at 0 (member_kind m)) (member_in name members >>= next) ≡ at k kind → Member structs name members
    → Lies (row_of structs (m ∷ members)) k (kind_cells structs kind) (cond b 0 (times m.size (width_of structs m.kind) + width_before structs name members))
member_by structs name m members k kind true e inner = first_member structs m members k kind e
member_by structs name m members k kind false e inner = later_member structs name m members k kind (member_in name members) refl e inner

in_members : (structs : List CStruct) (name : List ℕ) (members : List CMember) → Member structs name members
in_members structs name [] k kind e = absurd (none-some (k, kind) e)
in_members structs name (m ∷ members) k kind e = member_by structs name m members k kind (bytes_eq name m.name.bytes) e (in_members structs name members)

-- how many cells stand before a member of what a place holds
abbrev pub before_member : List CStruct → Kind → List ℕ → ℕ
before_member structs kind name = members_before structs name (type_of_one kind >>= members_of structs)

abbrev Selects : List CStruct → Kind → List ℕ → ℕ → Kind → Type 0
Selects structs kind name k inner = Lies (kind_cells structs kind) k (kind_cells structs inner) (before_member structs kind name)

struct_member : (structs : List CStruct) → structs_known [] structs ≡ true → (word : Word) (name : List ℕ) (k : ℕ) (inner : Kind) (o : Option CStruct)
    → find (λ (s : CStruct). bytes_eq word.bytes s.name.bytes) structs ≡ o → (o >>= (λ s. Some s.members) >>= member_in name) ≡ Some (k, inner)
    → Lies (blank_type structs (Struct word)) k (kind_cells structs inner) (members_before structs name (o >>= λ s. Some s.members))
struct_member structs known word name k inner None is e = absurd (none-some (k, inner) e)
struct_member structs known word name k inner (Some s) is e =
    let L : Cells → Type 0 = λ c. Lies c k (kind_cells structs inner) (width_before structs name s.members) in
    subst L (sym (struct_laid structs known word s is)) (in_members structs name s.members k inner e)

-- a member of a struct
pub member_lies : (structs : List CStruct) → structs_known [] structs ≡ true → (kind : Kind) (name : List ℕ) (k : ℕ) (inner : Kind) → member_of structs kind name ≡ Some (k, inner)
    → Selects structs kind name k inner
member_lies structs known kind name k inner e = by_kind kind.type kind.size e
  where
    by_kind : (t : CType) (size : Option ℕ) → member_of structs (record { type = t; size = size }) name ≡ Some (k, inner) → Selects structs (record { type = t; size = size }) name k inner
    by_kind t (Some n) e = absurd (none-some (k, inner) e)
    by_kind Int64 None e = absurd (none-some (k, inner) e)
    by_kind (Struct word) None e = struct_member structs known word name k inner (find (λ (s : CStruct). bytes_eq word.bytes s.name.bytes) structs) refl e

-- ---- elements

pub element_lies : (structs : List CStruct) (t : CType) (n k : ℕ) → k < n
    → Lies (kind_cells structs (record { type = t; size = Some n })) k (kind_cells structs (record { type = t; size = None })) (k * width_of structs t)
element_lies structs t n k lt = record {
  there = element_part n k (blank_type structs t) lt;
  before_is = element_before n k (blank_type structs t) lt ∙ ap (λ w. k * w) (count_type structs t);
}

-- ---- globals

pub globals_lie : (structs : List CStruct) (globals : List CGlobal) (k : ℕ) (g : CGlobal) → slice_get globals k ≡ Some g
    → Lies (row (map (λ (h : CGlobal). blank_type structs h.kind) globals)) k (blank_type structs g.kind) (globals_before structs k globals)
globals_lie structs [] zero g e = absurd (none-some g e)
globals_lie structs [] (suc k) g e = absurd (none-some g e)
globals_lie structs (h ∷ globals) zero g e = record { there = ap (λ o. option_map (λ (x : CGlobal). blank_type structs x.kind) o) e; before_is = refl }
globals_lie structs (h ∷ globals) (suc k) g e =
    let inner = globals_lie structs globals k g e in record {
      there = inner.there;
      before_is = ap (λ n. n + numbers_before k (row (map (λ (x : CGlobal). blank_type structs x.kind) globals))) (count_type structs h.kind)
          ∙ ap (λ n. width_of structs h.kind + n) inner.before_is;
    }
