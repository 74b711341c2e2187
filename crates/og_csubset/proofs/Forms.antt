-- Cells keep the forms of their types, and whatever a program that loads names is there.
use Rattle.std.proofs.Common.{◌≡◌, ℕ, zero, suc, ◌+◌, ◌<◌, ◌≤◌, ℤ, List, [], ◌∷◌, Bool, true, false, cond, ◌&&◌, Option, Some, None, Result, Ok, Err, map, replicate, slice_get, refl, sym, ap, subst, ◌∙◌, arith}
use Rattle.std.proofs.lemmas.Bool.{false≢true, ltb-true}
use denote.Param.Weighed.{most}
use Rattle.og_csubset.specs.declared.CStep.{size-CStep}
use Rattle.og_csubset.proofs.Depth.{depth_of_parts, depth_is, index_below, path_below, left_below, right_below, value_is, is_number_is}
use Rattle.std.proofs.lemmas.Option.{none-some, cond_some}
use Rattle.std.specs.Str.{bytes_eq}
use Rattle.og_csubset.specs.declared.CProgram.{CProgram}
use Rattle.og_csubset.specs.declared.CStruct.{CStruct}
use Rattle.og_csubset.specs.declared.CMember.{CMember}
use Rattle.og_csubset.specs.declared.CGlobal.{CGlobal}
use Rattle.og_csubset.specs.declared.CType.{CType}
use Rattle.og_csubset.specs.declared.CType.TheVariants.{Int64, Struct}
use Rattle.og_csubset.specs.declared.CPlace.{CPlace, size-CPlace}
use Rattle.og_csubset.specs.declared.CStep.{CStep}
use Rattle.og_csubset.specs.declared.CStep.TheVariants.{Member, At}
use Rattle.og_csubset.specs.declared.CExpr.{CExpr, out-CExpr, size-CExpr}
use Rattle.og_csubset.specs.declared.CExpr.TheOpen.{CExpr-F, Number, Read, Minus, Op, Pick}
use Rattle.og_csubset.specs.declared.CTest.{CTest}
use Rattle.og_csubset.specs.declared.COp.{COp}
use Rattle.og_csubset.specs.declared.COp.TheVariants as op
use Rattle.og_ir.specs.Cells as cells
use Rattle.og_ir.specs.Cells.{Cells, Cell, Empty, Both, number_in, part, change, part_at, put_at, global, change_global}
use Rattle.og_ir.specs.Reading.{natural, below}
use Rattle.og_ir.specs.Arithmetic.{Trouble, Overflow, Index, Divide, Value, ◌>>=◌, or_else, in_64_bits, is_zero, quotient_of}
use Rattle.std.specs.Prelude.{find, ◌+ℤ◌, ◌-ℤ◌, ◌*ℤ◌, neg_ℤ, int_div}
use Rattle.og_csubset.specs.declared.CTest.{size-CTest}
use Rattle.og_ir.specs.FlatSteps.{Spot, cells_at, put}
use Rattle.og_ir.proofs.ValueRead.{bound}
use Rattle.og_csubset.specs.Kinds.{Kind, place_in, global_names, global_kind, type_of_one, type_unless, members_of, member_in, member_of, element_of}
use Rattle.og_csubset.specs.Loading.{is_number_type, kind_after, type_by, number_by, is_number, type_of_place}
use Rattle.og_csubset.specs.Step.{walk, spot_by, operation, holds_by, side, value_by, value_of, spot_of}
use Rattle.og_csubset.specs.Forms.{Form, One, Row, kind_of_member, one_of, row_of, form_of_type, form_of_sized, form_of, HasForm, HaveForms}
use Rattle.og_names.proofs.Truths.{both_first as left_of, both_second as right_of, same_value}

-- a value that has P, or a trouble that is none of names and forms
abbrev pub Good : {A : Type 0} → (A → Type 0) → Result A Trouble → Type 0
Good P (Ok x) = P x
Good P (Err Overflow) = Unit {0}
Good P (Err Index) = Unit {0}
Good P (Err Divide) = Unit {0}
Good P (Err Value) = ⊥

pub good_bind : {A B : Type 0} (P : A → Type 0) (Q : B → Type 0) (r : Result A Trouble) (f : A → Result B Trouble) → Good P r → ((x : A) → P x → Good Q (f x)) → Good Q (r >>= f)
good_bind P Q (Ok x) f p h = h x p
good_bind P Q (Err Overflow) f p h = tt
good_bind P Q (Err Index) f p h = tt
good_bind P Q (Err Divide) f p h = tt
good_bind P Q (Err Value) f p h = p

-- what is there goes on
good_there : {A B : Type 0} (Q : B → Type 0) (o : Option A) (x : A) (t : Trouble) (f : A → Result B Trouble) → o ≡ Some x → Good Q (f x) → Good Q (or_else o t >>= f)
good_there Q o x t f e h = subst (λ p. Good Q (or_else p t >>= f)) (sym e) h

-- ---- parts of cells

-- A part of a row, with its form, and the row after a change of that part.
pub record Found (structs : List CStruct) (whole : Cells) (form : Form) (path : List ℕ) (kind : Kind) : Type 0 where
  pub here : Cells
  pub is : part_at path whole ≡ Some here
  pub formed : HasForm structs here (form_of structs kind)
  pub put : (new : Cells) → HasForm structs new (form_of structs kind) → HasForm structs (put_at path new whole) form

-- the same one level deep
pub record FoundPart (structs : List CStruct) (whole : Cells) (kinds : List Kind) (k : ℕ) (kind : Kind) : Type 0 where
  pub here : Cells
  pub is : part k whole ≡ Some here
  pub formed : HasForm structs here (form_of structs kind)
  pub put : (f : Cells → Cells) → HasForm structs (f here) (form_of structs kind) → HasForm structs (change k f whole) (Row kinds)

pub part_found : (structs : List CStruct) (whole : Cells) (kinds : List Kind) (k : ℕ) (kind : Kind) → HasForm structs whole (Row kinds) → slice_get kinds k ≡ Some kind → FoundPart structs whole kinds k kind
part_found structs (Cell z) kinds k kind h e = absurd h
part_found structs Empty [] k kind h e = absurd (none-some kind e)
part_found structs Empty (other ∷ kinds) k kind h e = absurd h
part_found structs (Both first others) [] k kind h e = absurd h
part_found structs (Both first others) (other ∷ kinds) zero kind h e =
    let same = same_value other kind e in
    record {
      here = first;
      is = refl;
      formed = subst (λ x. HasForm structs first (form_of structs x)) same h.0;
      put = λ f new. (subst (λ x. HasForm structs (f first) (form_of structs x)) (sym same) new, h.1);
    }
part_found structs (Both first others) (other ∷ kinds) (suc k) kind h e =
    let found = part_found structs others kinds k kind h.1 e in
    record {
      here = found.here;
      is = found.is;
      formed = found.formed;
      put = λ f new. (h.0, found.put f new);
    }

-- going on inside a part
pub found_inside : (structs : List CStruct) (whole : Cells) (kinds : List Kind) (k : ℕ) (kind : Kind) (path : List ℕ) (inner : Kind) (one : FoundPart structs whole kinds k kind) → Found structs one.here (form_of structs kind) path inner → Found structs whole (Row kinds) (k ∷ path) inner
found_inside structs whole kinds k kind path inner one found = record {
  here = found.here;
  is = ap (λ o. cells.◌>>=◌ o (part_at path)) one.is ∙ found.is;
  formed = found.formed;
  put = λ new formed. one.put (put_at path new) (found.put new formed);
}

-- the part to which no selector leads is the whole
pub found_whole : (structs : List CStruct) (whole : Cells) (kind : Kind) → HasForm structs whole (form_of structs kind) → Found structs whole (form_of structs kind) [] kind
found_whole structs whole kind h = record { here = whole; is = refl; formed = h; put = λ new formed. formed }

-- ---- members and elements

-- the member at hand, or one of the others
member_by : (b : Bool) (name : List ℕ) (m : CMember) (members : List CMember) → ((k : ℕ) (kind : Kind) → member_in name members ≡ Some (k, kind) → slice_get (map kind_of_member members) k ≡ Some kind) → (k : ℕ) (kind : Kind) → cond {A = Option (ℕ × Kind)} b (Some (0, kind_of_member m)) (cells.◌>>=◌ (member_in name members) (λ found. Some (found.0 + 1, found.1))) ≡ Some (k, kind) → slice_get (map kind_of_member (m ∷ members)) k ≡ Some kind
member_by true name m members others k kind e =
    let first : ℕ × Kind = (0, kind_of_member m) in
    subst (λ (q : ℕ × Kind). slice_get (map kind_of_member (m ∷ members)) q.0 ≡ Some q.1) (same_value first (k, kind) e) refl
member_by false name m members others k kind e =
    let one = bound (member_in name members) (λ found. Some (found.0 + 1, found.1)) (k, kind) e in
    let next : ℕ × Kind = (one.value.0 + 1, one.value.1) in
    let more : one.value.0 + 1 ≡ suc one.value.0 = omega arith in
    subst (λ (q : ℕ × Kind). slice_get (map kind_of_member (m ∷ members)) q.0 ≡ Some q.1) (same_value next (k, kind) one.gives)
    (ap (slice_get (map kind_of_member (m ∷ members))) more ∙ others one.value.0 one.value.1 one.is)

member_stands : (name : List ℕ) (members : List CMember) (k : ℕ) (kind : Kind) → member_in name members ≡ Some (k, kind) → slice_get (map kind_of_member members) k ≡ Some kind
member_stands name [] k kind e = absurd (none-some _ e)
member_stands name (m ∷ members) k kind e =
    member_by (bytes_eq name m.name.bytes) name m members (member_stands name members) k kind e

element_stands : {A : Type 0} (n : ℕ) (x : A) (k : ℕ) → k < n → slice_get (replicate n x) k ≡ Some x
element_stands zero x k h = absurd (omega (arith, h))
element_stands (suc n) x zero h = refl
element_stands (suc n) x (suc k) h = element_stands n x k (omega (arith, h))

-- What has a member is a struct, whose form is a row of its members.
record MemberOf (structs : List CStruct) (kind : Kind) (k : ℕ) (inner : Kind) : Type 0 where
  kinds : List Kind
  form : form_of structs kind ≡ Row kinds
  stands : slice_get kinds k ≡ Some inner

struct_form : (structs : List CStruct) (size : Option ℕ) (t u : CType) (members : List CMember) → type_unless size t ≡ Some u → members_of structs u ≡ Some members → form_of_sized structs size t ≡ Row (map kind_of_member members)
struct_form structs (Some n) t u members e h = absurd (none-some u e)
struct_form structs None Int64 u members e h = absurd (none-some members (subst (λ v. members_of structs v ≡ Some members) (sym (same_value Int64 u e)) h))
struct_form structs None (Struct name) u members e h = ap row_of (subst (λ v. members_of structs v ≡ Some members) (sym (same_value (Struct name) u e)) h)

member_form : (structs : List CStruct) (kind : Kind) (name : List ℕ) (k : ℕ) (inner : Kind) → member_of structs kind name ≡ Some (k, inner) → MemberOf structs kind k inner
member_form structs kind name k inner e =
    let ms = bound (cells.◌>>=◌ (type_of_one kind) (members_of structs)) (member_in name) (k, inner) e in
    let t = bound (type_of_one kind) (members_of structs) ms.value ms.is in
    record {
      kinds = map kind_of_member ms.value;
      form = struct_form structs kind.size kind.type t.value ms.value t.is t.gives;
      stands = member_stands name ms.value k inner ms.gives;
    }

-- ---- places

-- a value that is chosen, or none
pub chosen : {A : Type 0} (b : Bool) (o : Option A) (y : A) → cond b o None ≡ Some y → (b ≡ true) × (o ≡ Some y)
chosen true o y e = (refl, e)
chosen false o y e = absurd (none-some y e)

-- an index that is not there breaks by itself
good_index : {B : Type 0} (Q : B → Type 0) (o : Option ℕ) (f : ℕ → Result B Trouble) → ((k : ℕ) → o ≡ Some k → Good Q (f k)) → Good Q (or_else o Index >>= f)
good_index Q None f h = tt
good_index Q (Some k) f h = h k refl

below_is : (size k : ℕ) (z : ℤ) → below size z ≡ Some k → k < size
below_is size k z e =
    let n = bound (natural z) _ k e in
    let test = cond_some _ _ _ n.gives in
    let less : n.value < size = ltb-true n.value size test.0 in
    subst (λ (j : ℕ). j < size) test.1 less

module _ (f : CExpr → Result ℤ Trouble) (num : CExpr → Bool) (d : ℕ) (good : (e : CExpr) → size-CExpr e ≤ d → num e ≡ true → Good (λ z. Unit {0}) (f e)) where
  pub walk_good : (structs : List CStruct) (steps : List CStep) (kind last : Kind) → most size-CStep steps ≤ d → kind_after num structs kind steps ≡ Some last → (whole : Cells) → HasForm structs whole (form_of structs kind) → Good (λ path. Found structs whole (form_of structs kind) path last) (walk f structs kind steps)
  walk_good structs [] kind last deep e whole h =
      subst (λ k. Found structs whole (form_of structs kind) [] k) (same_value kind last e) (found_whole structs whole kind h)
  walk_good structs (Member name ∷ steps) kind last deep e whole h =
      let one = bound (member_of structs kind name.bytes) _ last e in
      let m = member_form structs kind name.bytes one.value.0 one.value.1 one.is in
      let row = subst (HasForm structs whole) m.form h in
      let here = part_found structs whole m.kinds one.value.0 one.value.1 row m.stands in
      good_there _ (member_of structs kind name.bytes) one.value Value _ one.is
      (good_bind (λ path. Found structs here.here (form_of structs one.value.1) path last) _ (walk f structs one.value.1 steps) _
      (walk_good structs steps one.value.1 last (omega (arith, deep)) one.gives here.here here.formed)
      (λ path found. subst (λ form. Found structs whole form (one.value.0 ∷ path) last) (sym m.form)
      (found_inside structs whole m.kinds one.value.0 one.value.1 path last here found)))
  walk_good structs (At e ∷ steps) kind last deep h whole formed =
      let both = chosen (num e) _ last h in
      let element = bound (element_of kind) _ last both.1 in
      let size = bound kind.size _ element.value element.is in
      let item = same_value (one_of kind.type) element.value size.gives in
      let form : form_of structs kind ≡ Row (replicate size.value (one_of kind.type)) = ap (λ n. form_of_sized structs n kind.type) size.is in
      let row = subst (HasForm structs whole) form formed in
      good_bind (λ z. Unit {0}) _ (f e) _ (good e (index_below e steps d deep) both.0) (λ z u.
      good_there _ (element_of kind) element.value Value _ element.is
      (good_there _ kind.size size.value Value _ size.is
      (good_index _ (below size.value z) _ (λ k within.
      let here = part_found structs whole (replicate size.value (one_of kind.type)) k (one_of kind.type) row (element_stands size.value (one_of kind.type) k (below_is size.value k z within)) in
      let inner = subst (λ i. HasForm structs here.here (form_of structs i)) item here.formed in
      good_bind (λ path. Found structs here.here (form_of structs element.value) path last) _ (walk f structs element.value steps) _
      (walk_good structs steps element.value last (omega (arith, deep)) element.gives here.here inner)
      (λ path found. subst (λ whole_form. Found structs whole whole_form (k ∷ path) last) (sym form)
      (found_inside structs whole (replicate size.value (one_of kind.type)) k (one_of kind.type) path last here
      (subst (λ i. Found structs here.here (form_of structs i) path last) (sym item) found)))))))

-- ---- globals

-- A global with its cells, and the globals after a change of it.
pub record GlobalFound (structs : List CStruct) (globals : List CGlobal) (values : List Cells) (name : List ℕ) (kind : Kind) : Type 0 where
  pub base : ℕ
  pub place : place_in name (map (λ (g : CGlobal). g.name.bytes) globals) ≡ Some base
  pub here : Cells
  pub is : global base values ≡ Some here
  pub formed : HasForm structs here (form_of structs kind)
  pub put : (f : Cells → Cells) → HasForm structs (f here) (form_of structs kind) → HaveForms structs globals (change_global base f values)

-- what a list of globals has under a name
abbrev kind_in : List ℕ → List CGlobal → Option Kind
kind_in name globals = cells.◌>>=◌ (find (λ (g : CGlobal). bytes_eq name g.name.bytes) globals) (λ g. Some (one_of g.kind))

global_by : (b : Bool) (structs : List CStruct) (g : CGlobal) (globals : List CGlobal) (first : Cells) (values : List Cells) (name : List ℕ) (kind : Kind) → HasForm structs first (form_of_type structs g.kind) → HaveForms structs globals values → bytes_eq name g.name.bytes ≡ b → cells.◌>>=◌ (cond b (Some g) (find (λ (h : CGlobal). bytes_eq name h.name.bytes) globals)) (λ h. Some (one_of h.kind)) ≡ Some kind → (kind_in name globals ≡ Some kind → GlobalFound structs globals values name kind) → GlobalFound structs (g ∷ globals) (first ∷ values) name kind
global_by true structs g globals first values name kind here others test e more =
    let same = same_value (one_of g.kind) kind e in
    record {
      base = 0;
      place = ap (λ b. cond b (Some 0) (cells.◌>>=◌ (place_in name (map (λ (h : CGlobal). h.name.bytes) globals)) (λ k. Some (k + 1)))) test;
      here = first;
      is = refl;
      formed = subst (λ k. HasForm structs first (form_of structs k)) same here;
      put = λ f new. (subst (λ k. HasForm structs (f first) (form_of structs k)) (sym same) new, others);
    }
global_by false structs g globals first values name kind here others test e more =
    let found = more e in
    let next : found.base + 1 ≡ suc found.base = omega arith in
    record {
      base = suc found.base;
      place =
          ap (λ b. cond b (Some 0) (cells.◌>>=◌ (place_in name (map (λ (h : CGlobal). h.name.bytes) globals)) (λ k. Some (k + 1)))) test
          ∙ ap (λ o. cells.◌>>=◌ o (λ k. Some (k + 1))) found.place ∙ ap Some next;
      here = found.here;
      is = found.is;
      formed = found.formed;
      put = λ f new. (here, found.put f new);
    }

pub global_found : (structs : List CStruct) (globals : List CGlobal) (values : List Cells) (name : List ℕ) (kind : Kind) → HaveForms structs globals values → kind_in name globals ≡ Some kind → GlobalFound structs globals values name kind
global_found structs [] values name kind h e = absurd (none-some kind e)
global_found structs (g ∷ globals) [] name kind h e = absurd h
global_found structs (g ∷ globals) (first ∷ values) name kind h e =
    global_by (bytes_eq name g.name.bytes) structs g globals first values name kind h.0 h.1 refl e (global_found structs globals values name kind h.1)

-- What stands at a spot, with its form, and the globals after new cells are put there.
pub record FoundSpot (program : CProgram) (values : List Cells) (t : CType) (spot : Spot) : Type 0 where
  pub here : Cells
  pub is : cells_at values spot ≡ Ok here
  pub formed : HasForm program.structs here (form_of_type program.structs t)
  pub put_there : (new : Cells) → HasForm program.structs new (form_of_type program.structs t) → HaveForms program.structs program.globals (put values spot new)

-- a kind without a size has the form of its type
unsized_form : (structs : List CStruct) (size : Option ℕ) (t u : CType) → type_unless size t ≡ Some u → form_of_sized structs size t ≡ form_of_type structs u
unsized_form structs (Some n) t u e = absurd (none-some u e)
unsized_form structs None t u e = ap (form_of_type structs) (same_value t u e)

module _ (program : CProgram) (values : List Cells) (formed : HaveForms program.structs program.globals values) where
  module _ (f : CExpr → Result ℤ Trouble) (num : CExpr → Bool) (d : ℕ) (good : (e : CExpr) → size-CExpr e ≤ d → num e ≡ true → Good (λ z. Unit {0}) (f e)) where
    pub spot_good : (place : CPlace) (t : CType) → size-CPlace place ≤ d → type_by num program place ≡ Some t → Good (FoundSpot program values t) (spot_by f program place)
    spot_good place t deep e =
        let kind = bound (global_kind program place.name.bytes) _ t e in
        let last = bound (kind_after num program.structs kind.value place.path) type_of_one t kind.gives in
        let g = global_found program.structs program.globals values place.name.bytes kind.value formed kind.is in
        let form = unsized_form program.structs last.value.size last.value.type t last.gives in
        good_there _ (place_in place.name.bytes (global_names program)) g.base Value _ g.place
        (good_there _ (global_kind program place.name.bytes) kind.value Value _ kind.is
        (good_bind (λ path. Found program.structs g.here (form_of program.structs kind.value) path last.value) _ (walk f program.structs kind.value place.path) _
        (walk_good f num d good program.structs place.path kind.value last.value (path_below place d deep) last.is g.here g.formed)
        (λ path found. record {
          here = found.here;
          is = ap (λ o. or_else o Index >>= λ c. or_else (part_at path c) Index) g.is ∙ ap (λ o. or_else o Index) found.is;
          formed = subst (HasForm program.structs found.here) form found.formed;
          put_there = λ new h. g.put (put_at path new) (found.put new (subst (HasForm program.structs new) (sym form) h));
        })))

    number_in_one : (here : Cells) → HasForm program.structs here One → Good (λ z. Unit {0}) (or_else (number_in here) Value)
    number_in_one (Cell z) h = tt
    number_in_one Empty h = h
    number_in_one (Both first others) h = h

    kept_good : (b : Bool) (z : ℤ) → Good (λ y. Unit {0}) (cond b (Ok z) (Err Overflow))
    kept_good true z = tt
    kept_good false z = tt

    quotient_good : (b c : Bool) (z : ℤ) → Good (λ y. Unit {0}) (cond b (Err Divide) (cond c (Ok z) (Err Overflow)))
    quotient_good true c z = tt
    quotient_good false c z = kept_good c z

    operation_good : (o : COp) (x y : ℤ) → Good (λ z. Unit {0}) (operation o x y)
    operation_good op.Add x y = kept_good (in_64_bits (x +ℤ y)) (x +ℤ y)
    operation_good op.Sub x y = kept_good (in_64_bits (x -ℤ y)) (x -ℤ y)
    operation_good op.Mul x y = kept_good (in_64_bits (x *ℤ y)) (x *ℤ y)
    operation_good op.Div x y = quotient_good (is_zero y) (in_64_bits (int_div x y)) (int_div x y)
    operation_good op.Rem x y =
        good_bind (λ z. Unit {0}) (λ z. Unit {0}) (quotient_of in_64_bits x y) _ (quotient_good (is_zero y) (in_64_bits (int_div x y)) (int_div x y)) (λ z u. tt)

    number_type : (o : Option CType) → is_number_type o ≡ true → o ≡ Some Int64
    number_type None e = absurd (false≢true e)
    number_type (Some Int64) e = refl
    number_type (Some (Struct name)) e = absurd (false≢true e)

    side_good : (a b : CExpr) (taken : Bool) → Good (λ z. Unit {0}) (f a) → Good (λ z. Unit {0}) (f b) → Good (λ z. Unit {0}) (side f a b taken)
    side_good a b true p q = p
    side_good a b false p q = q

    pub shape_good : (shape : CExpr-F CExpr CStep CPlace CTest) → depth_of_parts shape ≤ d → number_by num program shape ≡ true → Good (λ z. Unit {0}) (value_by f program values shape)
    shape_good (Number n) deep h = tt
    shape_good (Read place) deep h =
        good_bind (FoundSpot program values Int64) _ (spot_by f program place) _ (spot_good place Int64 deep (number_type (type_by num program place) h)) (λ spot found.
        subst (λ r. Good (λ z. Unit {0}) (r >>= λ c. or_else (number_in c) Value)) (sym found.is) (number_in_one found.here found.formed))
    shape_good (Minus e) deep h = good_bind (λ z. Unit {0}) _ (f e) _ (good e deep h) (λ x u. kept_good (in_64_bits (neg_ℤ x)) (neg_ℤ x))
    shape_good (Op o a b) deep h =
        let left = left_of (num a) (num b) h in
        let right = right_of (num a) (num b) h in
        good_bind (λ z. Unit {0}) _ (f a) _ (good a (omega (arith, deep)) left) (λ x u.
        good_bind (λ z. Unit {0}) _ (f b) _ (good b (omega (arith, deep)) right) (λ y v. operation_good o x y))
    shape_good (Pick test a b) deep h =
        let three = left_of (num test.left && num test.right && num a) (num b) h in
        let two = left_of (num test.left && num test.right) (num a) three in
        let sides : size-CTest test ≤ d = omega (arith, deep) in
        good_bind (λ t. Unit {0}) _ (holds_by f test) _
        (good_bind (λ z. Unit {0}) _ (f test.left) _ (good test.left (left_below test d sides) (left_of (num test.left) (num test.right) two)) (λ x u.
        good_bind (λ z. Unit {0}) _ (f test.right) _ (good test.right (right_below test d sides) (right_of (num test.left) (num test.right) two)) (λ y v. tt)))
        (λ taken u. side_good a b taken
        (good a (omega (arith, deep)) (right_of (num test.left && num test.right) (num a) three))
        (good b (omega (arith, deep)) (right_of (num test.left && num test.right && num a) (num b) h)))

  -- a number of a program that loads has a value, or breaks by a number, an index or a divisor
  value_good_within : (d : ℕ) (e : CExpr) → size-CExpr e ≤ d → is_number program e ≡ true → Good (λ z. Unit {0}) (value_of program values e)
  value_good_within zero e deep h = absurd (let is = depth_is e in omega (arith, is, deep))
  value_good_within (suc d) e deep h =
      let is = depth_is e in
      subst (Good (λ z. Unit {0})) (sym (value_is program values e))
      (shape_good (value_of program values) (is_number program) d (value_good_within d) (out-CExpr e) (omega (arith, is, deep)) (sym (is_number_is program e) ∙ h))

  pub value_good : (e : CExpr) → is_number program e ≡ true → Good (λ z. Unit {0}) (value_of program values e)
  value_good e h = value_good_within (size-CExpr e) e (omega arith) h

  pub place_good : (place : CPlace) (t : CType) → type_of_place program place ≡ Some t → Good (FoundSpot program values t) (spot_of program values place)
  place_good place t e =
      spot_good (value_of program values) (is_number program) (size-CPlace place) (λ part deep h. value_good part h) place t (omega arith) e
