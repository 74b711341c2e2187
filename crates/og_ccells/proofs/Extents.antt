-- Where the globals of a program lie, where they have no more cells than are counted.
use Rattle.std.proofs.Common.{◌≡◌, ℕ, zero, suc, ◌+◌, ◌-◌, ◌^◌, ◌≤◌, List, [], ◌∷◌, map, Option, Some, None, slice_get, refl, sym, ap, ◌∙◌, arith}
use Rattle.std.proofs.lemmas.Option.{none-some}
use Rattle.og_names.proofs.Truths.{same_value}
use Rattle.og_csubset.specs.declared.CProgram.{CProgram}
use Rattle.og_csubset.specs.declared.CStruct.{CStruct}
use Rattle.og_csubset.specs.declared.CGlobal.{CGlobal}
use Rattle.og_csubset.specs.Kinds.{width_of, total}
use Rattle.og_csubset.specs.Loading.{is_int64, cells_of_globals}
use Rattle.og_ccells.specs.declared.layout.Extent.{Extent}
use Rattle.og_ccells.specs.declared.layout.Layout.{Layout}
use Rattle.og_ccells.specs.Layouts.{capped, globals_before, extents_from, layout_of}
use Rattle.og_ccells.proofs.Widths.{most, up_to_small}

-- as many cells as all globals have
abbrev pub all_cells : List CStruct → List CGlobal → ℕ
all_cells structs globals = total (map (λ (g : CGlobal). width_of structs g.kind) globals)

abbrev pub extent_of : ℕ → List CStruct → CGlobal → Extent
extent_of at structs g = record { offset = at; width = width_of structs g.kind; is_number = is_int64 g.kind }

uncapped : (at w : ℕ) → at + w ≤ most → capped (at + capped w) ≡ at + w
uncapped at w le = ap (λ n. capped (at + n)) (up_to_small most w (omega (arith, le))) ∙ up_to_small most (at + w) le

first_extent : (at : ℕ) (structs : List CStruct) (g : CGlobal) → at + width_of structs g.kind ≤ most
    → record { offset = at; width = capped (width_of structs g.kind); is_number = is_int64 g.kind } ≡ extent_of at structs g
first_extent at structs g le =
    ap (λ w. record { offset = at; width = w; is_number = is_int64 g.kind }) (up_to_small most (width_of structs g.kind) (omega (arith, le)))

pub extent_at : (at : ℕ) (structs : List CStruct) (globals : List CGlobal) (k : ℕ) (g : CGlobal) → slice_get globals k ≡ Some g → at + all_cells structs globals ≤ most
    → slice_get (extents_from at structs globals) k ≡ Some (extent_of (at + globals_before structs k globals) structs g)
extent_at at structs [] zero g e le = absurd (none-some g e)
extent_at at structs [] (suc k) g e le = absurd (none-some g e)
extent_at at structs (h ∷ globals) zero g e le =
    ap Some (first_extent at structs h (omega (arith, le)) ∙ ap (extent_of at structs) (same_value h g e) ∙ ap (λ n. extent_of n structs g) (omega arith))
extent_at at structs (h ∷ globals) (suc k) g e le =
    ap (λ n. slice_get (extents_from n structs globals) k) (uncapped at (width_of structs h.kind) (omega (arith, le)))
    ∙ extent_at (at + width_of structs h.kind) structs globals k g e (omega (arith, le))
    ∙ ap (λ n. Some (extent_of n structs g)) (omega arith)

none_at : (at : ℕ) (structs : List CStruct) (globals : List CGlobal) (k : ℕ) → slice_get globals k ≡ None → slice_get (extents_from at structs globals) k ≡ None
none_at at structs [] zero e = refl
none_at at structs [] (suc k) e = refl
none_at at structs (h ∷ globals) zero e = absurd (none-some h (sym e))
none_at at structs (h ∷ globals) (suc k) e = none_at (capped (at + capped (width_of structs h.kind))) structs globals k e

-- the extent of a global of a program
pub global_extent : (P : CProgram) (k : ℕ) (g : CGlobal) → cells_of_globals P ≤ most → slice_get P.globals k ≡ Some g
    → slice_get (layout_of P).extents k ≡ Some (extent_of (globals_before P.structs k P.globals) P.structs g)
unfolding layout_of
global_extent P k g le e =
    extent_at 0 P.structs P.globals k g e (omega (arith, le)) ∙ ap (λ n. Some (extent_of n P.structs g)) (omega arith)

pub no_extent : (P : CProgram) (k : ℕ) → slice_get P.globals k ≡ None → slice_get (layout_of P).extents k ≡ None
unfolding layout_of
no_extent P k e = none_at 0 P.structs P.globals k e
