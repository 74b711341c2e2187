-- Flat code with the numbers of 64 bits does what it does with all numbers, or breaks by a number that is not there.
use Rattle.std.proofs.Common.{◌≡◌, ℕ, zero, suc, ℤ, List, [], ◌∷◌, Bool, true, false, cond, ◌⊎◌, inl, inr, Option, Some, None, Result, Ok, Err, slice_get, refl, sym, ap, subst, ◌∙◌}
use Rattle.std.specs.Prelude.{int_div, ◌+ℤ◌, ◌-ℤ◌, ◌*ℤ◌}
use Rattle.og_ir.specs.declared.Ir.{Ir}
use Rattle.og_ir.specs.declared.Instr.{Instr}
use Rattle.og_ir.specs.declared.Instr.TheVariants as instr
use Rattle.og_ir.specs.declared.Slot.{Slot}
use Rattle.og_ir.specs.declared.Step2.{Step2}
use Rattle.og_ir.specs.declared.Step2.TheVariants as step
use Rattle.og_ir.specs.declared.Flat.{Flat, out-Flat, size-Flat}
use Rattle.og_ir.specs.declared.Flat.TheOpen.{Flat-F, Number, Read, Op}
use Rattle.og_ir.specs.declared.FlatOp.{FlatOp}
use Rattle.og_ir.specs.declared.FlatOp.TheVariants as op
use Rattle.og_ir.specs.declared.Test.{Test}
use Rattle.og_ir.specs.Cells.{Cells, part, global}
use Rattle.og_ir.specs.Reading.{natural}
use Rattle.og_ir.specs.Arithmetic.{Trouble, Overflow, Index, Divide, ◌>>=◌, or_else, in_64_bits, any_number, is_zero, kept, quotient_of}
use Rattle.og_ir.specs.Steps.{Frame, Config, Running, Over, Broken, Ran, quiet, joined, and_then, exec, with_value}
use Rattle.og_ir.specs.FlatSteps.{walk, spot_of, cells_at, operation, value_by, value_within, value_of, holds, act, fetched, flat_step}
use Rattle.og_ir.proofs.Runs.{exec_stays}

-- the first breaks by a number that is not there, or both are the same
abbrev pub Under : {A : Type 0} → Result A Trouble → Result A Trouble → Type 0
Under r s = (r ≡ Err Overflow) ⊎ (s ≡ r)

under_kept : (b : Bool) (z : ℤ) → Under (cond b (Ok z) (Err Overflow)) (Ok z)
under_kept true z = inr refl
under_kept false z = inl refl

under_bind_on : {A B : Type 0} (r : Result A Trouble) (f g : A → Result B Trouble) → ((x : A) → Under (f x) (g x)) → Under (r >>= f) (r >>= g)
under_bind_on (Ok x) f g h = h x
under_bind_on (Err t) f g h = inr refl

under_bind : {A B : Type 0} (r s : Result A Trouble) (f g : A → Result B Trouble) → Under r s → ((x : A) → Under (f x) (g x)) → Under (r >>= f) (s >>= g)
under_bind r s f g (inl e) h = inl (ap (λ x. x >>= f) e)
under_bind r s f g (inr e) h = subst (λ t. Under (r >>= f) (t >>= g)) (sym e) (under_bind_on r f g h)

under_quotient : (b c : Bool) (z : ℤ) → Under (cond b (Err Divide) (cond c (Ok z) (Err Overflow))) (cond b (Err Divide) (Ok z))
under_quotient true c z = inr refl
under_quotient false c z = under_kept c z

under_operation : (o : FlatOp) (x y : ℤ) → Under (operation in_64_bits o x y) (operation any_number o x y)
under_operation op.Add x y = under_kept (in_64_bits (x +ℤ y)) (x +ℤ y)
under_operation op.Sub x y = under_kept (in_64_bits (x -ℤ y)) (x -ℤ y)
under_operation op.Mul x y = under_kept (in_64_bits (x *ℤ y)) (x *ℤ y)
under_operation op.Div x y = under_quotient (is_zero y) (in_64_bits (int_div x y)) (int_div x y)
under_operation op.Rem x y =
    under_bind (quotient_of in_64_bits x y) (quotient_of any_number x y) _ _
    (under_quotient (is_zero y) (in_64_bits (int_div x y)) (int_div x y)) (λ q. inr refl)

module _ (f g : Flat → Result ℤ Trouble) (h : (e : Flat) → Under (f e) (g e)) where
  under_walk : (steps : List Step2) (cells : Cells) → Under (walk f steps cells) (walk g steps cells)
  under_walk [] cells = inr refl
  under_walk (step.Field k ∷ steps) cells =
      under_bind_on (or_else (part k cells) Index) _ _ (λ inner.
      under_bind (walk f steps inner) (walk g steps inner) _ _ (under_walk steps inner) (λ path. inr refl))
  under_walk (step.Index e ∷ steps) cells =
      under_bind (f e) (g e) _ _ (h e) (λ z.
      under_bind_on (or_else (natural z) Index) _ _ (λ k. under_bind_on (or_else (part k cells) Index) _ _ (λ inner.
      under_bind (walk f steps inner) (walk g steps inner) _ _ (under_walk steps inner) (λ path. inr refl))))

  under_spot : (slots : List Cells) (slot : Slot) → Under (spot_of f slots slot) (spot_of g slots slot)
  under_spot slots slot =
      under_bind_on (or_else (global slot.base slots) Index) _ _ (λ cells.
      under_bind (walk f slot.path cells) (walk g slot.path cells) _ _ (under_walk slot.path cells) (λ path. inr refl))

  under_value_by : (slots : List Cells) (shape : Flat-F Flat Step2 Slot) → Under (value_by f in_64_bits slots shape) (value_by g any_number slots shape)
  under_value_by slots (Number n) = inr refl
  under_value_by slots (Read slot) =
      under_bind (spot_of f slots slot) (spot_of g slots slot) _ _ (under_spot slots slot) (λ spot. inr refl)
  under_value_by slots (Op o a b) =
      under_bind (f a) (g a) _ _ (h a) (λ x. under_bind (f b) (g b) _ _ (h b) (λ y. under_operation o x y))

under_within : (depth : ℕ) (slots : List Cells) (e : Flat) → Under (value_within depth in_64_bits slots e) (value_within depth any_number slots e)
under_within zero slots e = inr refl
under_within (suc depth) slots e =
    under_value_by (value_within depth in_64_bits slots) (value_within depth any_number slots) (under_within depth slots) slots (out-Flat e)

-- the numbers that are computed
pub under_value : (slots : List Cells) (e : Flat) → Under (value_of in_64_bits slots e) (value_of any_number slots e)
unfolding value_of
under_value slots e = under_within (size-Flat e) slots e

under_holds : (slots : List Cells) (test : Test) → Under (holds in_64_bits slots test) (holds any_number slots test)
under_holds slots test =
    under_bind _ _ _ _ (under_value slots test.left) (λ x. under_bind _ _ _ _ (under_value slots test.right) (λ y. inr refl))

-- the first step breaks by a number that is not there, or both steps are the same
abbrev pub UnderRan : {E : Type 0} → Ran E → Ran E → Type 0
UnderRan ran other = (ran ≡ quiet (Broken Overflow)) ⊎ (other ≡ ran)

under_with_on : {E A : Type 0} (r : Result A Trouble) (f g : A → Ran E) → ((x : A) → UnderRan (f x) (g x)) → UnderRan (with_value r f) (with_value r g)
under_with_on (Ok x) f g h = h x
under_with_on (Err t) f g h = inr refl

under_with : {E A : Type 0} (r s : Result A Trouble) (f g : A → Ran E) → Under r s → ((x : A) → UnderRan (f x) (g x)) → UnderRan (with_value r f) (with_value s g)
under_with r s f g (inl e) h = inl (ap (λ x. with_value x f) e)
under_with r s f g (inr e) h = subst (λ t. UnderRan (with_value r f) (with_value t g)) (sym e) (under_with_on r f g h)

under_act : {E : Type 0} (shows : ℕ → List Cells → Option E) (slots : List Cells) (frame : Frame) (callers : List Frame) (i : Instr) → UnderRan (act shows in_64_bits slots frame callers i) (act shows any_number slots frame callers i)
under_act shows slots frame callers (instr.Set slot e) =
    under_with _ _ _ _ (under_spot (value_of in_64_bits slots) (value_of any_number slots) (under_value slots) slots slot) (λ spot.
    under_with _ _ _ _ (under_value slots e) (λ z. inr refl))
under_act shows slots frame callers (instr.Copy to from) =
    under_with _ _ _ _ (under_spot (value_of in_64_bits slots) (value_of any_number slots) (under_value slots) slots to) (λ spot.
    under_with _ _ _ _ (under_bind _ _ (cells_at slots) (cells_at slots) (under_spot (value_of in_64_bits slots) (value_of any_number slots) (under_value slots) slots from) (λ s. inr refl)) (λ cells. inr refl))
under_act shows slots frame callers (instr.Branch test place) = under_with _ _ _ _ (under_holds slots test) (λ b. inr refl)
under_act shows slots frame callers (instr.Goto place) = inr refl
under_act shows slots frame callers (instr.Table e cases otherwise) = under_with _ _ _ _ (under_value slots e) (λ z. inr refl)
under_act shows slots frame callers (instr.Call function) = inr refl
under_act shows slots frame callers (instr.Emit event) = inr refl
under_act shows slots frame callers instr.Back = inr refl

under_fetched : {E : Type 0} (shows : ℕ → List Cells → Option E) (slots : List Cells) (frame : Frame) (callers : List Frame) (o : Option Instr) → UnderRan (fetched shows in_64_bits slots frame callers o) (fetched shows any_number slots frame callers o)
under_fetched shows slots frame callers None = inr refl
under_fetched shows slots frame callers (Some i) = under_act shows slots frame callers i

-- one step with the numbers of 64 bits, and one with all numbers
pub under_step : {E : Type 0} (shows : ℕ → List Cells → Option E) (ir : Ir) (config : Config) → UnderRan (flat_step shows in_64_bits ir config) (flat_step shows any_number ir config)
under_step shows ir (Running slots frame callers) =
    under_with_on (or_else (slice_get ir.functions frame.function) Index) _ _ (λ f. under_fetched shows slots frame callers (slice_get f.code frame.place))
under_step shows ir (Over slots) = inr refl
under_step shows ir (Broken trouble) = inr refl

-- a run with the numbers of 64 bits has come to one that is not there, or with all numbers it is the same
abbrev pub UnderRun : {E : Type 0} → Ran E → Ran E → Type 0
UnderRun ran other = (ran.config ≡ Broken Overflow) ⊎ (other ≡ ran)

after_step : {E : Type 0} (step other : Config → Ran E) (n : ℕ) (config : Config) → step (Broken Overflow) ≡ quiet (Broken Overflow) → UnderRan (step config) (other config) → ((c : Config) → UnderRun (exec step n c) (exec other n c)) → UnderRun (exec step (suc n) config) (exec other (suc n) config)
after_step step other n config kept (inl e) h =
    inl (ap (λ ran. (and_then ran (exec step n)).config) e ∙ ap (λ ran. ran.config) (exec_stays step (Broken Overflow) kept n))
after_step step other n config kept (inr e) h = go (h (step config).config)
  where
    go : UnderRun (exec step n (step config).config) (exec other n (step config).config) → UnderRun (exec step (suc n) config) (exec other (suc n) config)
    go (inl broken) = inl broken
    go (inr same) = inr (ap (λ ran. and_then ran (exec other n)) e ∙ ap (joined (step config).events) same)

pub under_run : {E : Type 0} (shows : ℕ → List Cells → Option E) (ir : Ir) (n : ℕ) (config : Config) → UnderRun (exec (flat_step shows in_64_bits ir) n config) (exec (flat_step shows any_number ir) n config)
under_run shows ir zero config = inr refl
under_run shows ir (suc n) config =
    after_step (flat_step shows in_64_bits ir) (flat_step shows any_number ir) n config refl (under_step shows ir config) (under_run shows ir n)
