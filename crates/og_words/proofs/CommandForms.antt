-- When a name ends so, and when words have the form of a command.
use Rattle.std.proofs.Common.{◌≡◌, ◌≢◌, ℕ, zero, suc, ◌+◌, ◌-◌, ◌<◌, ◌≤◌, ◌↔◌, Bool, true, false, IsTrue, List, [], ◌∷◌, ◌++◌, length, take, drop, sym, ◌∙◌, ap, subst, refl, inl, inr, arith, string_bytes, get_or, length-append, Global, decimal, Result, Ok, Option, Some, None}
use Rattle.std.proofs.lemmas.Fmt.{parse-decimal}
use Rattle.std.specs.Str.Parse.{ParsesUnsigned}
use Rattle.std.proofs.lemmas.List.{take-append-drop, drop_at, length-take-le}
use Rattle.std.specs.Prelude.{IfNone}
use lib.Pointwise.{pointwise}
use lib.Dec.{eqb}
use Rattle.std.specs.Cmp.Lexicographic.{same_text, other_text}
use Rattle.std.specs.declared.string.String.{String}
use Rattle.std.specs.List.{AllByRecursion}
use Rattle.std.proofs.lemmas.List.{take_more, map-append}
use Rattle.og_words.specs.Asked.{texts}
use Rattle.og_words.specs.Words.{HasEnding, IsSdlFile, IsAsnFile, IsModelFile, HasOneSdlFile, IsSteps}

-- ---- endings

-- a longer name has the ending where its last bytes are the ending
pub ends_so : (name ending back : List ℕ) (test : Bool) → length ending < length name → back ≡ drop (length name - length ending) name → test ≡ pointwise eqb back ending → IsTrue test ↔ HasEnding ending name
ends_so name ending back true long is same =
    let text : back ≡ ending = same_text back ending same in
    let at = length name - length ending in
    let len : length (take at name) ≡ at = length-take-le at name (omega arith) in
    (λ _. (take at name, omega arith, sym (ap (λ (b : List ℕ). take at name ++ b) (sym text ∙ is) ∙ take-append-drop at name)), λ _. refl)
ends_so name ending back false long is same = (
  λ e. absurd (let h : false ≡ true = e in cc),
  λ w. absurd (other_text back ending same (
      let len : length name ≡ length w.0 + length ending = ap length w.2 ∙ length-append w.0 ending in
      is ∙ ap (λ (n : List ℕ). drop (length name - length ending) n) w.2 ∙ drop_at w.0 ending (length name - length ending) (omega arith))),
)

-- a name that is no longer has not
pub short_is_none : (name ending : List ℕ) → length name ≤ length ending → HasEnding ending name → ⊥
short_is_none name ending short w = let len : length name ≡ length w.0 + length ending = ap length w.2 ∙ length-append w.0 ending in omega (arith, w.1)

-- a test of two texts
pub is_text : (text wanted : List ℕ) (test : Bool) → test ≡ pointwise eqb text wanted → IsTrue test ↔ (text ≡ wanted)
is_text text wanted true same = (λ _. same_text text wanted same, λ _. refl)
is_text text wanted false same = (λ e. absurd (let h : false ≡ true = e in cc), λ w. absurd (other_text text wanted same w))

-- a number of steps is read from the word that it is printed as
pub is_read : {E : Type 0} (n : ℕ) (number : List ℕ) (r : Result ℕ E) → number ≡ decimal n → IsSteps n → ParsesUnsigned 32 10 number r → r ≡ Ok n
is_read n number r is steps parses = parse-decimal 32 n number r (omega (arith, steps.1)) (omega (arith, steps.1)) is parses

pub same_read : {E : Type 0} (n m : ℕ) (a b : Result ℕ E) → a ≡ b → a ≡ Ok m → b ≡ Ok n → n ≡ m
same_read n m a b e p q = cc

-- what a failed test decides does not hold
pub never_so : (test : Bool) (P : Type 0) → IsTrue test ↔ P → test ≡ false → P → ⊥
never_so test P decides failed holds = let e : true ≡ false = sym (decides.1 holds) ∙ failed in cc

-- ---- lists of words

pub each_both : {A : Type 0} (P : A → Type 0) (xs ys : List A) → AllByRecursion P xs → AllByRecursion P ys → AllByRecursion P (xs ++ ys)
each_both P [] ys a b = b
each_both P (x ∷ xs) ys a b = (a.0, each_both P xs ys a.1 b)

-- the texts of one more word
pub texts_more : (names : List (String Global)) (i : ℕ) (d : String Global) → i < length names → texts (take (i + 1) names) ≡ texts (take i names) ++ string_bytes (get_or names i d) ∷ []
texts_more names i d less = ap texts (take_more names i d less) ∙ map-append string_bytes (take i names) (get_or names i d ∷ [])

pub each_at : (P : List ℕ → Type 0) (words : List (String Global)) (i : ℕ) (d : String Global) → i < length words → AllByRecursion P (texts words) → P (string_bytes (get_or words i d))
each_at P [] i d less all = absurd (omega arith)
each_at P (w ∷ words) zero d less all = all.0
each_at P (w ∷ words) (suc i) d less all = each_at P words i d (omega arith) all.1

-- a word that stands among others does not differ from them
pub stands_at : (words : List (String Global)) (i : ℕ) (d : String Global) (text word : List ℕ) → i < length words → text ≡ string_bytes (get_or words i d) → text ≡ word → AllByRecursion (λ other. other ≢ word) (texts words) → ⊥
stands_at words i d text word less is same all = each_at (λ other. other ≢ word) words i d less all (sym is ∙ same)

-- what holds of the words so far, and of one more
pub each_word_more : (P : List ℕ → Type 0) (words : List (String Global)) (i : ℕ) (d : String Global) (text : List ℕ) → i < length words → text ≡ string_bytes (get_or words i d) → AllByRecursion P (texts (take i words)) → P text
    → AllByRecursion P (texts (take (i + 1) words))
each_word_more P words i d text less is all holds =
    subst (AllByRecursion P) (sym (texts_more words i d less)) (each_both P (texts (take i words)) (string_bytes (get_or words i d) ∷ []) all (subst P is holds, tt))

-- a word that is not such stands among them
pub other_at : (P : List ℕ → Type 0) (words : List (String Global)) (i : ℕ) (d : String Global) (text : List ℕ) → i < length words → text ≡ string_bytes (get_or words i d) → (P text → ⊥) → AllByRecursion P (texts words) → ⊥
other_at P words i d text less is other all = other (subst P (sym is) (each_at P words i d less all))

-- ---- the one file of SDL/PR

pub sdl_in_front : (file text : List ℕ) (files : List (List ℕ)) (rest : Bool) → text ≡ file → IsSdlFile text → (IsSdlFile file → IsAsnFile file → ⊥) → IsTrue rest ↔ AllByRecursion IsAsnFile files → IsTrue rest ↔ HasOneSdlFile (file ∷ files)
sdl_in_front file text files rest same sdl apart tells = (
  λ e. inl (subst IsSdlFile same sdl, tells.0 e),
  λ has. elim has [ inl one ↦ tells.1 one.1 | inr asn ↦ absurd (apart (subst IsSdlFile same sdl) asn.0) ],
)

pub asn_in_front : (file text : List ℕ) (files all : List (List ℕ)) → text ≡ file → IsModelFile file → (IsSdlFile text → ⊥) → HasOneSdlFile (file ∷ files) ↔ HasOneSdlFile all → HasOneSdlFile files ↔ HasOneSdlFile all
asn_in_front file text files all same model other tells = (
  λ has. elim model [ inl sdl ↦ absurd (other (subst IsSdlFile (sym same) sdl)) | inr asn ↦ tells.0 (inr (asn, has)) ],
  λ has. elim (tells.1 has) [ inl one ↦ absurd (other (subst IsSdlFile (sym same) one.0)) | inr later ↦ later.1 ],
)

-- the words in front and those behind, in texts
pub texts_joined : (words front back : List (String Global)) → words ≡ front ++ back → texts words ≡ texts front ++ texts back
texts_joined words front back e = ap texts e ∙ map-append string_bytes front back

-- ---- answers

pub none_if : {A : Type 0} (r : Option A) (P : Type 0) → r ≡ None → P → IfNone r P
none_if r P none fact = subst (λ o. IfNone o P) (sym none) fact

pub none_then : {A : Type 0} (r : Option A) (P Q : Type 0) → (P → Q) → IfNone r P → IfNone r Q
none_then None P Q step fact = step fact
none_then (Some x) P Q step fact = _
