-- Forms that are all built: which ones do not stand in such a text.
use Rattle.std.proofs.Common.{◌≡◌, Bool, true, false, ◌&&◌, if◌then◌else◌, [], ◌∷◌, ◌++◌, refl, sym, ap, ◌∙◌}
use Rattle.std.specs.List.{list_all}
use Rattle.std.proofs.lemmas.Bool.{false≢true}
use Rattle.og_base.specs.declared.Place.{Place}
use Rattle.og_names.proofs.Truths.{both_true, both_first, both_second}
use Rattle.og_ast.specs.declared.transition.CallTree.{CallTree}
use Rattle.og_forms.specs.declared.form.Form.{Form}
use Rattle.og_forms.specs.declared.form.Form.TheVariants as form
use Rattle.og_forms.specs.Forms.{FormAt, Forms, at, when, call_form, is_built}

abbrev pub Built : Forms → Type 0
Built fs = list_all (λ (f : FormAt). is_built f.form) fs ≡ true

pub front_built : (fs gs : Forms) → Built (fs ++ gs) → Built fs
front_built [] gs h = refl
front_built (f ∷ fs) gs h =
    both_true (is_built f.form) (list_all (λ (g : FormAt). is_built g.form) fs) (both_first (is_built f.form) (list_all (λ (g : FormAt). is_built g.form) (fs ++ gs)) h)
    (front_built fs gs (both_second (is_built f.form) (list_all (λ (g : FormAt). is_built g.form) (fs ++ gs)) h))

pub back_built : (fs gs : Forms) → Built (fs ++ gs) → Built gs
back_built [] gs h = h
back_built (f ∷ fs) gs h = back_built fs gs (both_second (is_built f.form) (list_all (λ (g : FormAt). is_built g.form) (fs ++ gs)) h)

-- the forms that an outline has: parameters of signals, and TASK with a text
abbrev pub is_kept : Form → Bool
is_kept form.Parameters = true
is_kept form.InformalTask = true
is_kept _ = false

pub not_built : (f : Form) → is_kept f ≡ false → is_built f ≡ false
unfolding is_built
not_built form.Parameters h = absurd (false≢true (sym h))
not_built form.InformalTask h = absurd (false≢true (sym h))
not_built _ h = refl

-- another form stands nowhere in front
pub never : (f : Form) (place : Place) (fs : Forms) → is_kept f ≡ false → Built (at f place ∷ fs) → ⊥
never f place fs e h = false≢true (ap (λ b. b && list_all (λ (g : FormAt). is_built g.form) fs) (sym (not_built f e)) ∙ h)

pub stands_not : (b : Bool) (f : Form) (place : Place) → is_kept f ≡ false → Built (when b f place) → b ≡ false
stands_not true f place e h = absurd (never f place [] e h)
stands_not false f place e h = refl

call_by : (a b : Bool) → is_kept (if a then form.WriteCall else (if b then form.TimerCall else form.ProcedureCall)) ≡ false
call_by true b = refl
call_by false true = refl
call_by false false = refl

pub call_not_kept : (call : CallTree) → is_kept (call_form call) ≡ false
call_not_kept call = call_by _ _
