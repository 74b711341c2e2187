-- The boxes of the comments so far, and where a comment ends.
use Rattle.std.proofs.Common.{◌≡◌, ◌↔◌, ℕ, ◌+◌, ◌-◌, ◌<◌, ◌≤◌, List, [], ◌∷◌, ◌++◌, length, take, drop, get_or, sym, ap, ◌∙◌, subst, arith, append_assoc, length-drop, append-nil}
use Rattle.std.specs.Prelude.{Option, Some, None}
use Rattle.std.proofs.lemmas.List.{at_drop_more, at_drop_all, length-take-le}
use Rattle.og_base.specs.declared.Place.{Place}
use Rattle.og_lexer.specs.declared.Comment.{Comment}
use Rattle.og_lexer.specs.Places.{first_place, place_after, place_at}
use Rattle.og_lexer.proofs.Placing.{place_at-add, place_after-near}
use Rattle.og_cif.specs.declared.CifBox.{CifBox}
use Rattle.og_cif.specs.declared.BoxEnd.{BoxEnd}
use Rattle.og_cif.specs.Form.{IsBox}
use Rattle.og_cif.specs.File.{StandsInFile, StandInFile, IsBoxOf, each_of, text_of, AreBoxes, none, a_box, plain}

-- the boxes so far, and those of the comments that are left, are those of all comments
pub record SoFar (bytes : List ℕ) (comments : List Comment) (i : ℕ) (boxes : List BoxEnd) : Type 0 where
  pub left : StandInFile bytes (drop i comments)
  pub joins : (more : List BoxEnd) → AreBoxes bytes (drop i comments) more → AreBoxes bytes comments (boxes ++ more)

pub so_far_none : (bytes : List ℕ) (comments : List Comment) → StandInFile bytes comments → SoFar bytes comments 0 []
so_far_none bytes comments stand = record { left = stand; joins = λ more are. are }

-- the comments from the i-th on are this one and the others
split : (comments : List Comment) (i : ℕ) (c d : Comment) → i < length comments → c ≡ get_or comments i d → drop i comments ≡ c ∷ drop (i + 1) comments
split comments i c d lt is = at_drop_more (λ cs. cs) comments i d lt ∙ ap (λ k. k ∷ drop (i + 1) comments) (sym is)

pub here : (bytes : List ℕ) (comments : List Comment) (i : ℕ) (boxes : List BoxEnd) (c d : Comment) → i < length comments → c ≡ get_or comments i d
    → SoFar bytes comments i boxes → StandsInFile bytes c
here bytes comments i boxes c d lt is so = let both = subst (λ (cs : List Comment). StandInFile bytes cs) (split comments i c d lt is) so.left in both.0

so_far_box : (bytes : List ℕ) (comments : List Comment) (i : ℕ) (boxes : List BoxEnd) (c d : Comment) (one : BoxEnd) → i < length comments → c ≡ get_or comments i d
    → IsBoxOf bytes c (Some one) → SoFar bytes comments i boxes → SoFar bytes comments (i + 1) (boxes ++ one ∷ [])
so_far_box bytes comments i boxes c d one lt is is_box so =
    let cut = split comments i c d lt is in
    let both = subst (λ (cs : List Comment). StandInFile bytes cs) cut so.left in
    record {
      left = both.1;
      joins = λ more are.
          subst (λ (all : List BoxEnd). AreBoxes bytes comments all) (sym (append_assoc boxes (one ∷ []) more))
          (so.joins (one ∷ more) (subst (λ (cs : List Comment). AreBoxes bytes cs (one ∷ more)) (sym cut) (a_box one is_box are)));
    }

so_far_plain : (bytes : List ℕ) (comments : List Comment) (i : ℕ) (boxes : List BoxEnd) (c d : Comment) → i < length comments → c ≡ get_or comments i d
    → IsBoxOf bytes c None → SoFar bytes comments i boxes → SoFar bytes comments (i + 1) boxes
so_far_plain bytes comments i boxes c d lt is is_none so =
    let cut = split comments i c d lt is in
    let both = subst (λ (cs : List Comment). StandInFile bytes cs) cut so.left in
    record {
      left = both.1;
      joins = λ more are. so.joins more (subst (λ (cs : List Comment). AreBoxes bytes cs more) (sym cut) (plain is_none are));
    }

pub so_far_next : (bytes : List ℕ) (comments : List Comment) (i : ℕ) (boxes : List BoxEnd) (c d : Comment) (one : Option BoxEnd) → i < length comments → c ≡ get_or comments i d
    → IsBoxOf bytes c one → SoFar bytes comments i boxes → SoFar bytes comments (i + 1) (boxes ++ each_of one)
so_far_next bytes comments i boxes c d None lt is is_none so =
    subst (λ (all : List BoxEnd). SoFar bytes comments (i + 1) all) (sym (append-nil boxes)) (so_far_plain bytes comments i boxes c d lt is is_none so)
so_far_next bytes comments i boxes c d (Some one) lt is is_box so = so_far_box bytes comments i boxes c d one lt is is_box so

pub so_far_all : (bytes : List ℕ) (comments : List Comment) (i : ℕ) (boxes : List BoxEnd) → length comments ≤ i → SoFar bytes comments i boxes → AreBoxes bytes comments boxes
so_far_all bytes comments i boxes le so =
    subst (λ (all : List BoxEnd). AreBoxes bytes comments all) (append-nil boxes)
    (so.joins [] (subst (λ (cs : List Comment). AreBoxes bytes cs []) (sym (at_drop_all (λ cs. cs) comments i le)) none))

pub ruleset attaching = (so_far_none, so_far_next, so_far_all, here)

-- ---- places

pub end_is : (bytes : List ℕ) (c : Comment) → StandsInFile bytes c → place_after c.place (take (c.end - c.start) (drop c.start bytes)) ≡ place_at c.place.file bytes c.end
end_is bytes c st =
    ap (λ p. place_after p (take (c.end - c.start) (drop c.start bytes))) st.placed
    ∙ sym (place_at-add c.place.file bytes c.start (c.end - c.start))
    ∙ ap (place_at c.place.file bytes) (let e : c.start + (c.end - c.start) ≡ c.end = omega (arith, st.ordered) in e)

pub record HasRoom (c : Comment) : Type 0 where
  pub lines : c.place.line ≤ 1 + c.start
  pub columns : c.place.column ≤ 1 + c.start

pub room : (bytes : List ℕ) (c : Comment) → StandsInFile bytes c → HasRoom c
room bytes c st =
    let near = place_after-near (first_place c.place.file) (take c.start bytes) (omega arith) in
    let long = length-take-le c.start bytes (omega (arith, st.ordered, st.inside)) in
    let line : c.place.line ≡ (place_at c.place.file bytes c.start).line = ap (λ p. p.line) st.placed in
    let column : c.place.column ≡ (place_at c.place.file bytes c.start).column = ap (λ p. p.column) st.placed in
    record {
      lines = omega (arith, near.line, long, line);
      columns = omega (arith, near.column, long, column);
    }

-- the place behind the comment
text_end : (bytes : List ℕ) (c : Comment) → StandsInFile bytes c → place_after c.place (text_of bytes c) ≡ place_at c.place.file bytes c.end
text_end bytes c st = end_is bytes c st

pub text_len : (bytes : List ℕ) (c : Comment) → StandsInFile bytes c → length (text_of bytes c) ≡ c.end - c.start
text_len bytes c st =
    length-take-le (c.end - c.start) (drop c.start bytes) (let l = length-drop c.start bytes in omega (arith, l, st.ordered, st.inside))

-- ---- one comment

pub none_of : (bytes text : List ℕ) (c : Comment) (found : Option CifBox) (result : Option BoxEnd) → text ≡ text_of bytes c
    → ((box : CifBox) → IsBox box text ↔ (found ≡ Some box)) → found ≡ None → result ≡ None → IsBoxOf bytes c result
none_of bytes text c found result is exact none_found no_result =
    subst (λ (r : Option BoxEnd). IsBoxOf bytes c r) (sym no_result)
    (λ box is_box. let e = (exact box).0 (subst (λ (t : List ℕ). IsBox box t) (sym is) is_box) in absurd (let no : ⊥ = cc in no))

pub one_of : (bytes text : List ℕ) (c : Comment) (found : Option CifBox) (frame : CifBox) (end : Place) → text ≡ text_of bytes c → StandsInFile bytes c
    → ((box : CifBox) → IsBox box text ↔ (found ≡ Some box)) → found ≡ Some frame → end ≡ place_after c.place text → IsBoxOf bytes c (Some (record { end = end; frame = frame }))
one_of bytes text c found frame end is stands exact is_found ends = (
  subst (λ (t : List ℕ). IsBox frame t) is ((exact frame).1 is_found),
  ends ∙ ap (place_after c.place) is ∙ text_end bytes c stands,
)
