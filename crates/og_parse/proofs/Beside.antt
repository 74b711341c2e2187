-- Readers that look at the places of tokens only to keep them: what they make of the same tokens elsewhere differs in places alone.
use Rattle.std.specs.Prelude.{if◌then◌else◌, ◌==◌}
use Rattle.std.proofs.Common.{◌≡◌, ℕ, zero, suc, Bool, true, false, List, [], ◌∷◌, ◌++◌, length, Option, Some, None, map, refl, sym, ap, subst, ◌∙◌}
use Rattle.og_base.specs.declared.Place.{Place}
use Rattle.og_names.specs.declared.Word.{Word}
use Rattle.og_lexer.specs.declared.Spanned.{Spanned}
use Rattle.og_ast.specs.Names.{is_name}
use Rattle.og_reading.specs.Reading.{Rest, Take, tail_of, first_of, behind, after, choice_in, word_by, word_of, word_in, number_by, number_of, number_in, text_in, name_in, named_by, named, place_in, maybe, turns, onto, pushed, more_of, next, list_at, list_in_brackets, list_or_none}
use Rattle.og_parse.specs.Alike.{words_of, Alike, Maybe, OneName, OneText}

-- ---- the same tokens

abbrev pub SameWords : List Spanned → List Spanned → Type 0
SameWords [] [] = Unit {0}
SameWords [] (u ∷ us) = ⊥
SameWords (t ∷ ts) [] = ⊥
SameWords (t ∷ ts) (u ∷ us) = (t.token ≡ u.token) × SameWords ts us

pub same_words : (ts us : List Spanned) → words_of ts ≡ words_of us → SameWords ts us
same_words [] [] e = tt
same_words [] (u ∷ us) e = absurd cc
same_words (t ∷ ts) [] e = absurd cc
same_words (t ∷ ts) (u ∷ us) e =
    let first : t.token ≡ u.token = cc in
    let others : words_of ts ≡ words_of us = cc in
    (first, same_words ts us others)

tail_words : (ts us : List Spanned) → SameWords ts us → SameWords (tail_of ts) (tail_of us)
tail_words [] [] s = tt
tail_words [] (u ∷ us) s = absurd s
tail_words (t ∷ ts) [] s = absurd s
tail_words (t ∷ ts) (u ∷ us) s = s.1

word_same : (ts us : List Spanned) → SameWords ts us → word_of ts ≡ word_of us
word_same [] [] s = refl
word_same [] (u ∷ us) s = absurd s
word_same (t ∷ ts) [] s = absurd s
word_same (t ∷ ts) (u ∷ us) s = ap word_by s.0

number_same : (ts us : List Spanned) → SameWords ts us → number_of ts ≡ number_of us
number_same [] [] s = refl
number_same [] (u ∷ us) s = absurd s
number_same (t ∷ ts) [] s = absurd s
number_same (t ∷ ts) (u ∷ us) s = ap number_by s.0

-- ---- the same choices and the same tokens are left

pub record Beside (r s : Rest) : Type 0 where
  pub choices : r.choices ≡ s.choices
  pub words : SameWords r.tokens s.tokens

pub on : {r s : Rest} → Beside r s → Beside (after r) (after s)
on b = record { choices = ap tail_of b.choices; words = b.words }

pub past : {r s : Rest} → Beside r s → Beside (behind r) (behind s)
past {r = r} {s = s} b = record { choices = b.choices; words = tail_words r.tokens s.tokens b.words }

choice_same : {r s : Rest} → Beside r s → choice_in r ≡ choice_in s
choice_same b = ap first_of b.choices

pub one_number : {r s : Rest} → Beside r s → number_in r ≡ number_in s
one_number {r = r} {s = s} b = number_same r.tokens s.tokens b.words

pub one_text : {r s : Rest} → Beside r s → OneText (text_in r) (text_in s)
one_text {r = r} {s = s} b = word_same r.tokens s.tokens b.words

word_of_name : (p q : Place) (w : Word) (b : Bool) (e : is_name w.bytes ≡ b) → (named_by p w b e).word ≡ (named_by q w b e).word
word_of_name p q w true e = refl
word_of_name p q w false e = refl

word_named : (p q : Place) (w : Word) → (named p w).word ≡ (named q w).word
unfolding named
word_named p q w = word_of_name p q w (is_name w.bytes) refl

pub one_name : {r s : Rest} → Beside r s → OneName (name_in r) (name_in s)
one_name {r = r} {s = s} b = word_named (place_in r) (place_in s) (word_in r) ∙ ap (λ (w : Word). (named (place_in s) w).word) (word_same r.tokens s.tokens b.words)

-- ---- readers

pub record Fit {X : Type 0} (Is : X → X → Type 0) (x y : X × Rest) : Type 0 where
  pub is : Is x.0 y.0
  pub left : Beside x.1 y.1

pub record Agree {X : Type 0} (Is : X → X → Type 0) (p q : Take X) : Type 0 where
  pub by : (r s : Rest) → Beside r s → Fit Is (p r) (q s)

both_ways : {X : Type 0} {Is : X → X → Type 0} {x y u v : X × Rest} (c : Bool) → Fit Is x y → Fit Is u v → Fit Is (if c then x else u) (if c then y else v)
both_ways true here there = here
both_ways false here there = there

-- a choice of this number, or another one
pub either : {X : Type 0} {Is : X → X → Type 0} {r s : Rest} {x y u v : X × Rest} (k : ℕ) → Beside r s → Fit Is x y → Fit Is u v
    → Fit Is (if choice_in r == k then x else u) (if choice_in s == k then y else v)
either {Is = Is} {r = r} {s = s} {x = x} {y = y} {u = u} {v = v} k b here there =
    subst (λ (c : ℕ). Fit Is (if choice_in r == k then x else u) (if c == k then y else v)) (choice_same b) (both_ways (choice_in r == k) here there)

pub agree_name : Agree OneName (λ rest. (name_in rest, behind rest)) (λ rest. (name_in rest, behind rest))
agree_name = record { by = λ r s b. record { is = one_name b; left = past b } }

pub agree_maybe : {X : Type 0} {Is : X → X → Type 0} {p q : Take X} → Agree Is p q → Agree (Maybe Is) (maybe p) (maybe q)
agree_maybe {p = p} {q = q} a = record {
  by = λ r s b.
      let f = a.by (after r) (after s) (on b) in
      either 1 b (record { is = f.is; left = f.left }) (record { is = tt; left = on b });
}

-- ---- repetitions

agree_turns : {X : Type 0} {Is : X → X → Type 0} (f g : X → Take X) → ((x y : X) → Is x y → Agree Is (f x) (g y)) → (n : ℕ) (x y : X) → Is x y → Agree Is (turns f n x) (turns g n y)
unfolding turns
agree_turns f g so zero x y i = record { by = λ r s b. record { is = i; left = b } }
agree_turns f g so (suc n) x y i = record {
  by = λ r s b.
      let m = (so x y i).by (after r) (after s) (on b) in
      either 1 b ((agree_turns f g so n (f x (after r)).0 (g y (after s)).0 m.is).by (f x (after r)).1 (g y (after s)).1 m.left) (record { is = i; left = on b });
}

pub agree_onto : {X : Type 0} {Is : X → X → Type 0} (f g : X → Take X) → ((x y : X) → Is x y → Agree Is (f x) (g y)) → (x y : X) → Is x y → Agree Is (onto f x) (onto g y)
unfolding onto
agree_onto {Is = Is} f g so x y i = record {
  by = λ r s b. subst (λ (n : ℕ). Fit Is (turns f (length r.choices) x r) (turns g n y s)) (ap length b.choices) ((agree_turns f g so (length r.choices) x y i).by r s b);
}

pub one_more : {X : Type 0} (Is : X → X → Type 0) (xs ys : List X) (x y : X) → Alike Is xs ys → Is x y → Alike Is (xs ++ x ∷ []) (ys ++ y ∷ [])
one_more Is [] [] x y a i = (i, tt)
one_more Is [] (v ∷ vs) x y a i = absurd a
one_more Is (u ∷ us) [] x y a i = absurd a
one_more Is (u ∷ us) (v ∷ vs) x y a i = (a.0, one_more Is us vs x y a.1 i)

agree_pushed : {X : Type 0} {Is : X → X → Type 0} {p q : Take X} → Agree Is p q → (xs ys : List X) → Alike Is xs ys → Agree (Alike Is) (pushed p xs) (pushed q ys)
agree_pushed {Is = Is} {p = p} {q = q} a xs ys l = record {
  by = λ r s b.
      let f = a.by r s b in
      record { is = one_more Is xs ys (p r).0 (q s).0 l f.is; left = f.left };
}

pub agree_more : {X : Type 0} {Is : X → X → Type 0} {p q : Take X} → Agree Is p q → (xs ys : List X) → Alike Is xs ys → Agree (Alike Is) (more_of p xs) (more_of q ys)
agree_more {Is = Is} {p = p} {q = q} a xs ys l = agree_onto {Is = Alike Is} (pushed p) (pushed q) (agree_pushed a) xs ys l

pub agree_next : {X : Type 0} {Is : X → X → Type 0} {p q : Take X} → Agree Is p q → Agree Is (next p) (next q)
agree_next a = record { by = λ r s b. a.by (behind (after r)) (behind (after s)) (past (on b)) }

pub agree_list : {X : Type 0} {Is : X → X → Type 0} {p q : Take X} → Agree Is p q → Agree (Alike Is) (list_at p) (list_at q)
agree_list {p = p} {q = q} a = record {
  by = λ r s b.
      let f = a.by (after r) (after s) (on b) in
      (agree_more (agree_next a) ((p (after r)).0 ∷ []) ((q (after s)).0 ∷ []) (f.is, tt)).by (p (after r)).1 (q (after s)).1 f.left;
}

pub agree_in_brackets : {X : Type 0} {Is : X → X → Type 0} {p q : Take X} → Agree Is p q → Agree (Alike Is) (list_in_brackets p) (list_in_brackets q)
agree_in_brackets a = record {
  by = λ r s b.
      let f = (agree_list a).by (behind (after (after r))) (behind (after (after s))) (past (on (on b))) in
      either 1 b (record { is = f.is; left = past f.left }) (record { is = tt; left = on b });
}

pub agree_or_none : {X : Type 0} {Is : X → X → Type 0} {p q : Take X} → Agree Is p q → Agree (Alike Is) (list_or_none p) (list_or_none q)
agree_or_none a = record {
  by = λ r s b.
      let f = (agree_list a).by (after r) (after s) (on b) in
      either 1 b f (record { is = tt; left = on b });
}
