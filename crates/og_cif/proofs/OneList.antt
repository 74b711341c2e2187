-- Comments of a file stand in it, and have one list of boxes.
use Rattle.std.proofs.Common.{◌≡◌, ℕ, ◌+◌, Bool, true, false, List, [], ◌∷◌, take, refl, sym, ap, ◌∙◌}
use Rattle.std.specs.Prelude.{Some, ◌==◌, cond}
use Rattle.og_base.specs.declared.Place.{Place}
use Rattle.og_lexer.specs.declared.Language.{Language}
use Rattle.og_lexer.specs.declared.Comment.{Comment}
use Rattle.og_lexer.specs.Places.{first_place, next_place, place_after, place_at}
use Rattle.og_lexer.specs.Texts.{IsCommentInPlaceIn, AreCommentsInPlaceIn}
use Rattle.og_cif.specs.declared.CifBox.{CifBox}
use Rattle.og_cif.specs.declared.BoxEnd.{BoxEnd}
use Rattle.og_cif.specs.Form.{IsBox}
use Rattle.og_cif.specs.File.{StandsInFile, StandInFile, IsBoxOf, text_of, AreBoxes, none, a_box, plain}
use Rattle.og_cif.proofs.Whole.{box_in}

file_next : (t : Bool) (p : Place) → (cond {A = Place} t (record { file = p.file; line = p.line + 1; column = 1 }) (record { file = p.file; line = p.line; column = p.column + 1 })).file ≡ p.file
file_next true p = refl
file_next false p = refl

file_after : (p : Place) (bytes : List ℕ) → (place_after p bytes).file ≡ p.file
file_after p [] = refl
file_after p (b ∷ bs) = file_after (next_place p b) bs ∙ file_next (b == 10) p

one_stands : (language : Language) (file : ℕ) (bytes : List ℕ) (c : Comment) → IsCommentInPlaceIn language file bytes c → StandsInFile bytes c
one_stands language file bytes c is = record {
  ordered = is.ordered;
  inside = is.inside;
  placed = is.placed ∙ ap (λ f. place_at f bytes c.start) (sym (ap (λ p. p.file) is.placed ∙ file_after (first_place file) (take c.start bytes)));
}

pub they_stand : (language : Language) (file : ℕ) (bytes : List ℕ) (at : ℕ) (comments : List Comment) → AreCommentsInPlaceIn language file bytes at comments → StandInFile bytes comments
they_stand language file bytes at [] are = tt
they_stand language file bytes at (c ∷ cs) are = (one_stands language file bytes c are.1, they_stand language file bytes c.end cs are.2)

pub one_box : (comment : List ℕ) (box other : CifBox) → IsBox box comment → IsBox other comment → box ≡ other
one_box comment box other is is' =
    let e = box_in box comment is in let f = box_in other comment is' in cc

same_end : (bytes : List ℕ) (c : Comment) (one other : BoxEnd) → IsBoxOf bytes c (Some one) → IsBoxOf bytes c (Some other) → one ≡ other
same_end bytes c one other is is' =
    ap (λ e. let b : BoxEnd = record { end = e; frame = one.frame } in b) (is.1 ∙ sym is'.1)
    ∙ ap (λ f. let b : BoxEnd = record { end = other.end; frame = f } in b) (one_box (text_of bytes c) one.frame other.frame is.0 is'.0)

pub one_list : (bytes : List ℕ) (comments : List Comment) (boxes others : List BoxEnd) → AreBoxes bytes comments boxes → AreBoxes bytes comments others → boxes ≡ others
one_list bytes [] [] [] none none = refl
one_list bytes [] [] (d ∷ ds) _ are' = elim are' [ ]
one_list bytes [] (b ∷ bs) others are _ = elim are [ ]
one_list bytes (c ∷ cs) (b ∷ bs) (d ∷ ds) (a_box one is are) (a_box other is' are') =
    ap (λ x. x ∷ bs) (same_end bytes c b d is is') ∙ ap (λ xs. d ∷ xs) (one_list bytes cs bs ds are are')
one_list bytes (c ∷ cs) (b ∷ bs) others (a_box one is are) (plain no_box are') = absurd (no_box b.frame is.0)
one_list bytes (c ∷ cs) boxes (d ∷ ds) (plain no_box are) (a_box other is' are') = absurd (no_box d.frame is'.0)
one_list bytes (c ∷ cs) boxes others (plain no_box are) (plain no_box' are') = one_list bytes cs boxes others are are'
