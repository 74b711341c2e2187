-- A comment is a box exactly where the readers find one.
use Rattle.std.proofs.Common.{◌≡◌, ℕ, Bool, true, false, cond, List, [], ◌∷◌, ◌++◌, codes, refl, ap, ◌∙◌, subst}
use Rattle.std.specs.Prelude.{Option, Some, None}
use Rattle.std.specs.Str.{bytes_eq}
use Rattle.std.proofs.lemmas.Bool.{cond-true}
use Rattle.std.proofs.lemmas.Slice.Eq.{bytes_eq-Decides}
use Rattle.og_cif.specs.declared.CifBox.{CifBox}
use Rattle.og_cif.specs.Form.{is_white, symbol_text, Item, word, sign, number, Closes, Stand, pair_items, items_of, IsBox}
use Rattle.og_cif.specs.Scans.{run, past_white, sign_here, sign_at, cif_at, symbol_at, pair_at, closed, box_at, box_of}
use Rattle.og_cif.proofs.Fronts.{cut_of, white_past}
use Rattle.og_cif.proofs.Items.{sign_in, front_sign, sign_out, cif_in, cif_out, symbol_at_in, sign_ends_word, pair_in, pair_out, seen_then}

-- what stands behind the first pair
abbrev tail_of : CifBox → List Item
tail_of box = sign 44 ∷ pair_items box.w box.h []

closed_in : (box : CifBox) (text : List ℕ) → Closes text → closed box text ≡ Some box
closed_in box text c =
    let past : past_white text ≡ codes "*/" = ap past_white c.joined ∙ white_past c.space (codes "*/") c.is_space refl in
    cond-true _ (Some box) None ((bytes_eq-Decides (past_white text) (codes "*/")).1 past)

closed_out : (box other : CifBox) (text : List ℕ) → closed box text ≡ Some other → (box ≡ other) × Closes text
closed_out box other text e = by_test (bytes_eq (past_white text) (codes "*/")) refl e
  where
    by_test : (t : Bool) → bytes_eq (past_white text) (codes "*/") ≡ t → cond {A = Option CifBox} t (Some box) None ≡ Some other → (box ≡ other) × Closes text
    by_test true is e =
        let c = cut_of is_white text in
        let ends : past_white text ≡ codes "*/" = (bytes_eq-Decides (past_white text) (codes "*/")).0 is in
        let closes : Closes text = record { space = run is_white text; joined = c.joined ∙ ap (λ ys. run is_white text ++ ys) ends; is_space = c.all } in
        let same : box ≡ other = cc in
        (same, closes)
    by_test false is e = absurd (let none : ⊥ = cc in none)

inside_in : (box : CifBox) (text : List ℕ) → Stand (items_of box) text → box_at text ≡ Some box
unfolding box_at
inside_in box text st =
    let a = cif_in (word (symbol_text box.symbol)) (pair_items box.x box.y (tail_of box)) text st in
    let b = symbol_at_in box.symbol (pair_items box.x box.y (tail_of box)) a.rest (sign_ends_word 40 (number box.x ∷ sign 44 ∷ number box.y ∷ sign 41 ∷ tail_of box) refl) a.stand in
    let c = pair_in box.x box.y (tail_of box) b.rest b.stand in
    let d = sign_in 44 (pair_items box.w box.h []) c.rest refl c.stand in
    let e = pair_in box.w box.h [] d.rest d.stand in
    rw (a.is, b.is, c.is, d.is, e.is, closed_in box e.rest e.stand)

inside_out : (box : CifBox) (text : List ℕ) → box_at text ≡ Some box → Stand (items_of box) text
unfolding box_at
inside_out box text h =
    let a = seen_then (cif_at text) _ box h in
    let b = seen_then (symbol_at a.1) _ box a.3 in
    let c = seen_then (pair_at b.1) _ box b.3 in
    let d = seen_then (sign_at 44 c.1) _ box c.3 in
    let e = seen_then (pair_at d.1) _ box d.3 in
    let made : CifBox = record { symbol = b.0; x = c.0.0; y = c.0.1; w = e.0.0; h = e.0.1 } in
    let f = closed_out made box e.1 e.3 in
    let last : Stand (pair_items e.0.0 e.0.1 []) d.1 = pair_out e.0 [] d.1 e.1 e.2 f.1 in
    let comma : Stand (sign 44 ∷ pair_items e.0.0 e.0.1 []) c.1 = sign_out 44 (pair_items e.0.0 e.0.1 []) c.1 d.1 d.0 d.2 last in
    let first : Stand (pair_items c.0.0 c.0.1 (sign 44 ∷ pair_items e.0.0 e.0.1 [])) b.1 = pair_out c.0 (sign 44 ∷ pair_items e.0.0 e.0.1 []) b.1 c.1 c.2 comma in
    let all : Stand (items_of made) text = cif_out b.0 (pair_items c.0.0 c.0.1 (sign 44 ∷ pair_items e.0.0 e.0.1 [])) text a.1 b.1 a.0 a.2 b.2 first in
    subst (λ (k : CifBox). Stand (items_of k) text) f.0 all

pub box_in : (box : CifBox) (comment : List ℕ) → IsBox box comment → box_of comment ≡ Some box
unfolding box_of
box_in box comment is = ap box_of is.begun ∙ inside_in box is.inside is.stands

pub box_out : (box : CifBox) (comment : List ℕ) → box_of comment ≡ Some box → IsBox box comment
unfolding box_of
box_out box comment h =
    let a = seen_then (sign_here 47 comment) _ box h in
    let b = seen_then (sign_here 42 a.1) _ box a.3 in
    record {
      inside = b.1;
      begun = front_sign 47 comment a.1 a.0 a.2 ∙ ap (λ t. 47 ∷ t) (front_sign 42 a.1 b.1 b.0 b.2);
      stands = inside_out box b.1 b.3;
    }
