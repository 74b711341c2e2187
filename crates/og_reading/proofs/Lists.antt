-- Lists with commas, as parts of their own and in brackets, both ways.
use Rattle.std.proofs.Common.{◌≡◌, ℕ, List, [], ◌∷◌, ◌++◌, Option, Some, None, slice_get, refl, sym, ap, subst}
use Rattle.og_grammar.specs.declared.Nesting.{Nesting}
use Rattle.og_grammar.specs.declared.Nesting.TheVariants.{Keeps}
use Rattle.og_grammar.specs.declared.Symbol.{Symbol}
use Rattle.og_grammar.specs.declared.Symbol.TheVariants.{Token, Part, Maybe, Many}
use Rattle.og_grammar.specs.Sentence.{rules_of}
use Rattle.og_lexer.specs.declared.Mark.{Mark}
use Rattle.og_lexer.specs.declared.Mark.TheVariants.{LeftParenthesis, RightParenthesis}
use Rattle.og_lexer.specs.declared.Spanned.{Spanned}
use Rattle.og_reading.specs.Kinds.{kind_of_mark}
use Rattle.og_reading.specs.Reading.{Take, behind, after, maybe, more_of, next, list_at, list_in_brackets, list_or_none}
use Rattle.og_reading.specs.Fronts.{Text, Passed, ◌▸◌, optional, each, separated_by, separated, perhaps_separated, in_brackets}
use Rattle.og_reading.proofs.Deriving.{IsPart}
use Rattle.og_reading.proofs.ReadParts.{Reads, rule, Both, Grown, as_take, reads_mark, reads_then, reads_as, reads_part, reads_option, reads_more}
use Rattle.og_reading.proofs.WrittenParts.{left, Writes, writes_mark, writes_then, writes_and, writes_as, writes_part, writes_none, writes_some, writes_onto, writes_each}

-- the one rule of a part
pub only_rule : (table : List Symbol) (p : ℕ) {way : List Symbol} → rules_of p table ≡ way ∷ [] → slice_get (rules_of p table) 0 ≡ Some way
only_rule table p e = ap (λ (z : List (List Symbol)). slice_get z 0) e

grown_list : {X : Type 0} (m : Mark) (Is : X → Text) (x : X) (xs later : List X) (ts us vs : List Spanned) → Is x ts us → xs ≡ (x ∷ []) ++ later → each (λ y. Passed m ▸ Is y) later us vs → separated_by m Is xs ts vs
grown_list m Is x xs later ts us vs i e more = subst (λ (z : List _). separated_by m Is z ts vs) (sym e) (us, i, more)

some_list : {X : Type 0} (Is : X → Text) (xs : List X) (ts us : List Spanned) → separated Is xs ts us → perhaps_separated Is xs ts us
some_list Is [] ts us i = absurd i
some_list Is (x ∷ xs) ts us i = i

some_bracket : {X : Type 0} (Is : X → Text) (xs : List X) (ts us : List Spanned) → (Passed LeftParenthesis ▸ separated Is xs ▸ Passed RightParenthesis) ts us → in_brackets Is xs ts us
some_bracket Is [] ts us b = absurd b.2.1
some_bracket Is (x ∷ xs) ts us b = b

module _ {X : Type 0} {table : List Symbol} {n : ℕ} {a : Take X} {Is : X → Text} (m : Mark) (p q : ℕ) {s z : Symbol} (list : rules_of p table ≡ (s ∷ Many q ∷ []) ∷ [])
    (more : rules_of q table ≡ (Token (kind_of_mark m) Keeps ∷ z ∷ []) ∷ []) (first : Reads table n (s ∷ []) a Is) (again : Reads table n (z ∷ []) a Is) where
  pub reads_next : Reads table n (Part q ∷ []) (next a) (λ y. Passed m ▸ Is y)
  reads_next = reads_part q (Part q) refl (rule (reads_as (λ x. x.1) (λ y. Passed m ▸ Is y) (λ x ts us b. (b.0, (x.0, b.1), b.2)) (reads_then (reads_mark m) (λ p. again)))) [] more

  pub reads_list : (o : Symbol) → IsPart p o → Reads table n (o ∷ []) (list_at a) (separated_by m Is)
  reads_list o is =
      reads_part p o is
      (rule (reads_as (λ x. x.1) (separated_by m Is) (λ x ts us b. grown_list m Is x.0 x.1 b.2.0 ts b.0 us b.1 b.2.1 b.2.2) (reads_then first (λ x. reads_more (x ∷ []) reads_next)))) [] list

-- a list in brackets, and one that may be left out
pub reads_in_brackets : {X : Type 0} {table : List Symbol} {n : ℕ} (a : Take X) {Is : X → Text} {up down : Nesting} {o : Symbol} (b : ℕ) → rules_of b table ≡ (Token 8 up ∷ o ∷ Token 9 down ∷ []) ∷ []
    → Reads table n (o ∷ []) (list_at a) (separated Is) → Reads table n (Maybe b ∷ []) (list_in_brackets a) (in_brackets Is)
reads_in_brackets a {Is = Is} b bracket list =
    reads_option [] (λ ts. refl)
    (reads_part b (Part b) refl
    (rule (reads_as (λ x. x.1.0) (in_brackets Is) (λ x ts us d. some_bracket Is x.1.0 ts us (d.0, (x.0, d.1), (d.2.0, d.2.1, (x.1.1, d.2.2))))
    (reads_then (reads_mark LeftParenthesis) (λ l. reads_then list (λ xs. reads_mark RightParenthesis))))) [] bracket)

pub reads_or_none : {X : Type 0} {table : List Symbol} {n : ℕ} (a : Take X) {Is : X → Text} (p : ℕ) → Reads table n (Part p ∷ []) (list_at a) (separated Is) → Reads table n (Maybe p ∷ []) (list_or_none a) (perhaps_separated Is)
reads_or_none a {Is = Is} p list = reads_option [] (λ ts. refl) (reads_as (λ xs. xs) (perhaps_separated Is) (some_list Is) list)

module _ {X : Type 0} {table : List Symbol} {a : ℕ → Take X} {Is : X → Text} (m : Mark) (p q : ℕ) {s z : Symbol} (list : rules_of p table ≡ (s ∷ Many q ∷ []) ∷ [])
    (more : rules_of q table ≡ (Token (kind_of_mark m) Keeps ∷ z ∷ []) ∷ [])
    (first : (x : X) (ts us : List Spanned) → Is x ts us → Writes table (s ∷ []) a x ts us) (again : (x : X) (ts us : List Spanned) → Is x ts us → Writes table (z ∷ []) a x ts us) where
  pub writes_next : (x : X) (ts us : List Spanned) → (Passed m ▸ Is x) ts us → Writes table (Part q ∷ []) (λ n. next (a n)) x ts us
  writes_next x ts us i =
      writes_part q (Part q) refl 0 _ (only_rule table q more) (λ n. next (a n)) (writes_as (λ y. y.1) (writes_and (writes_mark m i.1.0 ts i.0 i.1.1) (again x i.0 us i.2))) (λ n cs. refl)

  pub writes_list : (o : Symbol) → IsPart p o → (xs : List X) (ts us : List Spanned) → separated_by m Is xs ts us → Writes table (o ∷ []) (λ n. list_at (a n)) xs ts us
  writes_list o is [] ts us i = absurd i
  writes_list o is (x ∷ xs) ts us i =
      writes_part p o is 0 _ (only_rule table p list) (λ n. list_at (a n))
      (writes_as (λ y. y.1)
      (writes_then (λ n y. more_of (next (a n)) (y ∷ [])) (first x ts i.0 i.1) (writes_onto (writes_each (λ y. Passed m ▸ Is y) writes_next (x ∷ []) xs i.0 us i.2)))) (λ n cs. refl)

pub writes_in_brackets : {X : Type 0} {table : List Symbol} (a : ℕ → Take X) {Is : X → Text} {up down : Nesting} {o : Symbol} (b : ℕ) → rules_of b table ≡ (Token 8 up ∷ o ∷ Token 9 down ∷ []) ∷ []
    → ((xs : List X) (ts us : List Spanned) → separated Is xs ts us → Writes table (o ∷ []) (λ n. list_at (a n)) xs ts us) → (xs : List X) (ts us : List Spanned) → in_brackets Is xs ts us
    → Writes table (Maybe b ∷ []) (λ n. list_in_brackets (a n)) xs ts us
writes_in_brackets a b bracket list [] ts us i = writes_none (λ n rest. (let xs = list_at (a n) (behind (after rest)) in (xs.0, behind xs.1))) [] ts us i
writes_in_brackets {table = table} a b bracket list (x ∷ xs) ts us i =
    writes_some []
    (writes_part b (Part b) refl 0 _ (only_rule table b bracket) (λ n rest. (let xs = list_at (a n) (behind (after rest)) in (xs.0, behind xs.1)))
    (writes_as (λ y. y.1.0)
    (writes_and (writes_mark LeftParenthesis i.1.0 ts i.0 i.1.1) (writes_and (list (x ∷ xs) i.0 i.2.0 i.2.1) (writes_mark RightParenthesis i.2.2.0 i.2.0 us i.2.2.1)))) (λ n cs. refl))

pub writes_or_none : {X : Type 0} {table : List Symbol} (a : ℕ → Take X) {Is : X → Text} (p : ℕ)
    → ((xs : List X) (ts us : List Spanned) → separated Is xs ts us → Writes table (Part p ∷ []) (λ n. list_at (a n)) xs ts us) → (xs : List X) (ts us : List Spanned) → perhaps_separated Is xs ts us
    → Writes table (Maybe p ∷ []) (λ n. list_or_none (a n)) xs ts us
writes_or_none a p list [] ts us i = writes_none (λ n. list_at (a n)) [] ts us i
writes_or_none a p list (x ∷ xs) ts us i = writes_some [] (list (x ∷ xs) ts us i)

-- ---- options and repetitions as they are

pub reads_each : {X : Type 0} {table : List Symbol} {n p : ℕ} {Is : X → Text} {a : Take X} → Reads table n (Part p ∷ []) a Is → Reads table n (Many p ∷ []) (more_of a []) (each Is)
reads_each {X = X} {Is = Is} one = reads_as (λ xs. xs) (each Is) (λ xs ts us g. subst (λ (z : List X). each Is z ts us) (sym g.1) g.2) (reads_more [] one)

pub writes_all : {X : Type 0} {table : List Symbol} {p : ℕ} {a : ℕ → Take X} (Is : X → Text) → ((x : X) (ts us : List Spanned) → Is x ts us → Writes table (Part p ∷ []) a x ts us) → (xs : List X) (ts us : List Spanned)
    → each Is xs ts us → Writes table (Many p ∷ []) (λ n. more_of (a n) []) xs ts us
writes_all Is one xs ts us i = writes_onto (writes_each Is one [] xs ts us i)

pub writes_maybe : {X : Type 0} {table : List Symbol} {p : ℕ} (a : ℕ → Take X) (Is : X → Text) → ((x : X) (ts us : List Spanned) → Is x ts us → Writes table (Part p ∷ []) a x ts us) → (o : Option X) (ts us : List Spanned)
    → optional Is o ts us → Writes table (Maybe p ∷ []) (λ n. maybe (a n)) o ts us
writes_maybe {X = X} a Is one None ts us e = writes_none (λ n. as_take (λ (x : X). Some x) (a n)) None ts us e
writes_maybe {X = X} a Is one (Some x) ts us i = writes_some None (writes_as (λ (x : X). Some x) (one x ts us i))

-- these and then those
pub each_both : {X : Type 0} (Is : X → Text) (xs ys : List X) (ts us vs : List Spanned) → each Is xs ts us → each Is ys us vs → each Is (xs ++ ys) ts vs
each_both Is [] ys ts us vs e f = subst (λ (z : List Spanned). each Is ys z vs) (sym e) f
each_both Is (x ∷ xs) ys ts us vs e f = (e.0, e.1, each_both Is xs ys e.0 us vs e.2 f)
