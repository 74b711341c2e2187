-- Files one by one: what holds of the files in front of one, of it, and of those behind it.
use Rattle.std.proofs.Common.{◌≡◌, ◌∙◌, ℕ, suc, zero, ◌+◌, ◌<◌, List, [], ◌∷◌, ◌++◌, length, take, drop, get_or, sym, ap, subst, refl, inl, inr, arith}
use Rattle.std.proofs.lemmas.List.{append_assoc, append-nil, take-append-drop, map-append, take_more, length-map, length-take-le}
use Rattle.std.proofs.Math.Seq.{drop-cons}
use Rattle.std.specs.Prelude.{◌⊎◌}
use Rattle.std.specs.List.{AllByRecursion}
use Rattle.og_base.specs.declared.Violation.{Violation}
use Rattle.og_lexer.specs.declared.Lexed.{Lexed}
use Rattle.og_trees.specs.declared.ModelFile.{ModelFile}
use Rattle.og_trees.specs.Reading.{SourceFile, source, sources, EachKeeps, FirstBreaks, AreGathered}
use Rattle.og_trees.specs.Answers.{HasTokens, AreLexed}

-- ---- files in front of one

pub first_behind : (Holds Breaks : ℕ → SourceFile → Type 0) (number : ℕ) (front : List SourceFile) (file : SourceFile) (back : List SourceFile) (at : ℕ) → at ≡ number + length front
    → EachKeeps Holds number front → Breaks at file → FirstBreaks Holds Breaks number (front ++ file ∷ back)
first_behind Holds Breaks number [] file back at e each breaks = let same : at ≡ number = omega (arith, e) in inl (subst (λ n. Breaks n file) same breaks)
first_behind Holds Breaks number (f ∷ front) file back at e each breaks = inr (each.0, first_behind Holds Breaks (number + 1) front file back at (omega (arith, e)) each.1 breaks)

pub keeps_then : (Holds : ℕ → SourceFile → Type 0) (number : ℕ) (front : List SourceFile) (file : SourceFile) (at : ℕ) → at ≡ number + length front
    → EachKeeps Holds number front → Holds at file → EachKeeps Holds number (front ++ file ∷ [])
keeps_then Holds number [] file at e each holds = let same : at ≡ number = omega (arith, e) in (subst (λ n. Holds n file) same holds, tt)
keeps_then Holds number (f ∷ front) file at e each holds = (each.0, keeps_then Holds (number + 1) front file at (omega (arith, e)) each.1 holds)

pub gathered_then : {X : Type 0} (Own : ℕ → SourceFile → List X → Type 0) (number : ℕ) (front : List SourceFile) (file : SourceFile) (all own : List X) (at : ℕ) → at ≡ number + length front
    → AreGathered Own number front all → Own at file own → AreGathered Own number (front ++ file ∷ []) (all ++ own)
gathered_then {X = X} Own number [] file all own at e are has =
    let same : at ≡ number = omega (arith, e) in
    (own, [], subst (λ n. Own n file own) same has, refl, ap (λ (xs : List X). xs ++ own) are ∙ sym (append-nil own))
gathered_then {X = X} Own number (f ∷ front) file all own at e are has = (
  are.0,
  are.1 ++ own,
  are.2,
  gathered_then Own (number + 1) front file are.1 own at (omega (arith, e)) are.3 has,
  ap (λ (xs : List X). xs ++ own) are.4 ∙ append_assoc are.0 are.1 own,
)

pub lexed_then : (number : ℕ) (front : List SourceFile) (file : SourceFile) (texts : List Lexed) (text : Lexed) (at : ℕ) → at ≡ number + length front
    → AreLexed number front texts → HasTokens file.language at file.bytes text → AreLexed number (front ++ file ∷ []) (texts ++ text ∷ [])
lexed_then number [] file [] text at e lexed has = let same : at ≡ number = omega (arith, e) in (subst (λ n. HasTokens file.language n file.bytes text) same has, tt)
lexed_then number [] file (t ∷ texts) text at e lexed has = absurd lexed
lexed_then number (f ∷ front) file [] text at e lexed has = absurd lexed
lexed_then number (f ∷ front) file (t ∷ texts) text at e lexed has = (lexed.0, lexed_then (number + 1) front file texts text at (omega (arith, e)) lexed.1 has)

-- ---- files of a loop

pub parted : (files : List ModelFile) (i : ℕ) (d : ModelFile) → i < length files
    → sources files ≡ sources (take i files) ++ source (get_or files i d) ∷ sources (drop (suc i) files)
parted files i d less =
    ap sources (sym (take-append-drop i files) ∙ ap (λ rest. take i files ++ rest) (drop-cons files i d less))
    ∙ map-append source (take i files) (get_or files i d ∷ drop (suc i) files)

pub one_more : (files : List ModelFile) (i : ℕ) (d : ModelFile) → i < length files → sources (take (i + 1) files) ≡ sources (take i files) ++ source (get_or files i d) ∷ []
one_more files i d less = ap sources (take_more files i d less) ∙ map-append source (take i files) (get_or files i d ∷ [])

pub in_front : (files : List ModelFile) (i : ℕ) → i < length files → i ≡ 0 + length (sources (take i files))
in_front files i less = let len = length-map (take i files) source in let short = length-take-le i files (omega arith) in omega (arith, len, short)

pub short_at : (P : SourceFile → Type 0) (files : List ModelFile) (i : ℕ) (d : ModelFile) → i < length files → AllByRecursion P (sources files) → P (source (get_or files i d))
short_at P [] i d less all = absurd (omega arith)
short_at P (f ∷ files) zero d less all = all.0
short_at P (f ∷ files) (suc i) d less all = short_at P files i d (omega arith) all.1

-- ---- tokens of files

pub as_many : (number : ℕ) (files : List SourceFile) (texts : List Lexed) → AreLexed number files texts → length texts ≡ length files
as_many number [] [] lexed = refl
as_many number [] (t ∷ texts) lexed = absurd lexed
as_many number (f ∷ files) [] lexed = absurd lexed
as_many number (f ∷ files) (t ∷ texts) lexed = let rest = as_many (number + 1) files texts lexed.1 in omega (arith, rest)

pub lexed_at : (number : ℕ) (files : List ModelFile) (texts : List Lexed) (i : ℕ) (d : ModelFile) (t : Lexed) (at : ℕ) → at ≡ number + i → i < length files → AreLexed number (sources files) texts
    → HasTokens (get_or files i d).language at (get_or files i d).bytes.items (get_or texts i t)
lexed_at number [] texts i d t at e less lexed = absurd (omega arith)
lexed_at number (f ∷ files) [] i d t at e less lexed = absurd lexed
lexed_at number (f ∷ files) (x ∷ texts) zero d t at e less lexed =
    let same : number ≡ at = omega (arith, e) in subst (λ n. HasTokens f.language n f.bytes.items x) same lexed.0
lexed_at number (f ∷ files) (x ∷ texts) (suc i) d t at e less lexed = lexed_at (number + 1) files texts i d t at (omega (arith, e)) (omega arith) lexed.1

-- ---- one answer at least

-- each file keeps something, or a first one breaks it, where each keeps what comes before
pub each_or_first : (Before Holds : ℕ → SourceFile → Type 0) (Breaks : Violation → ℕ → SourceFile → Type 0) → ((number : ℕ) (file : SourceFile) → Before number file → Holds number file ⊎ ((v : Violation) × Breaks v number file))
    → (number : ℕ) (files : List SourceFile) → EachKeeps Before number files → EachKeeps Holds number files ⊎ ((v : Violation) × FirstBreaks Holds (Breaks v) number files)
each_or_first Before Holds Breaks decides number [] before = inl tt
each_or_first Before Holds Breaks decides number (file ∷ files) before = by (decides number file before.0) (each_or_first Before Holds Breaks decides (number + 1) files before.1)
  where
    by : Holds number file ⊎ ((v : Violation) × Breaks v number file) → EachKeeps Holds (number + 1) files ⊎ ((v : Violation) × FirstBreaks Holds (Breaks v) (number + 1) files)
        → EachKeeps Holds number (file ∷ files) ⊎ ((v : Violation) × FirstBreaks Holds (Breaks v) number (file ∷ files))
    by (inl holds) (inl all) = inl (holds, all)
    by (inl holds) (inr first) = inr (first.0, inr (holds, first.1))
    by (inr breaks) later = inr (breaks.0, inl breaks.1)

abbrev pub Anything : ℕ → SourceFile → Type 0
Anything number file = Unit {0}

pub each_anything : (number : ℕ) (files : List SourceFile) → EachKeeps Anything number files
each_anything number [] = tt
each_anything number (file ∷ files) = (tt, each_anything (number + 1) files)

-- where each file has something of its own, all of it can be gathered
pub gathers : {X : Type 0} (Own : ℕ → SourceFile → List X → Type 0) (Holds : ℕ → SourceFile → Type 0) → ((number : ℕ) (file : SourceFile) → Holds number file → (own : List X) × Own number file own)
    → (number : ℕ) (files : List SourceFile) → EachKeeps Holds number files → (all : List X) × AreGathered Own number files all
gathers Own Holds has number [] each = ([], refl)
gathers Own Holds has number (file ∷ files) each =
    let own = has number file each.0 in
    let more = gathers Own Holds has (number + 1) files each.1 in
    (own.0 ++ more.0, (own.0, more.0, own.1, more.1, refl))

-- ---- one answer at most

pub first_apart : (Holds Breaks : ℕ → SourceFile → Type 0) → ((number : ℕ) (file : SourceFile) → Holds number file → Breaks number file → ⊥)
    → (number : ℕ) (files : List SourceFile) → EachKeeps Holds number files → FirstBreaks Holds Breaks number files → ⊥
first_apart Holds Breaks apart number [] each first = first
first_apart Holds Breaks apart number (file ∷ files) each (inl breaks) = apart number file each.0 breaks
first_apart Holds Breaks apart number (file ∷ files) each (inr later) = first_apart Holds Breaks apart (number + 1) files each.1 later.1

-- what is broken tells one violation
pub record TellsOne (Holds : ℕ → SourceFile → Type 0) (Breaks : Violation → ℕ → SourceFile → Type 0) : Type 0 where
  pub apart : (number : ℕ) (file : SourceFile) (v : Violation) → Holds number file → Breaks v number file → ⊥
  pub one : (number : ℕ) (file : SourceFile) (v w : Violation) → Breaks v number file → Breaks w number file → v ≡ w

pub one_first : (Holds : ℕ → SourceFile → Type 0) (Breaks : Violation → ℕ → SourceFile → Type 0) → TellsOne Holds Breaks → (number : ℕ) (files : List SourceFile) (v w : Violation)
    → FirstBreaks Holds (Breaks v) number files → FirstBreaks Holds (Breaks w) number files → v ≡ w
one_first Holds Breaks tells number [] v w x y = absurd x
one_first Holds Breaks tells number (file ∷ files) v w (inl x) (inl y) = tells.one number file v w x y
one_first Holds Breaks tells number (file ∷ files) v w (inl x) (inr y) = absurd (tells.apart number file v y.0 x)
one_first Holds Breaks tells number (file ∷ files) v w (inr x) (inl y) = absurd (tells.apart number file w x.0 y)
one_first Holds Breaks tells number (file ∷ files) v w (inr x) (inr y) = one_first Holds Breaks tells (number + 1) files v w x.1 y.1

-- it stands in the file that is broken
pub first_in : (Holds : ℕ → SourceFile → Type 0) (Breaks : ℕ → SourceFile → Type 0) (v : Violation) → ((number : ℕ) (file : SourceFile) → Breaks number file → v.place.file ≡ number)
    → (number : ℕ) (files : List SourceFile) → FirstBreaks Holds Breaks number files → v.place.file < number + length files
first_in Holds Breaks v inside number [] first = absurd first
first_in Holds Breaks v inside number (file ∷ files) (inl breaks) = let e = inside number file breaks in omega (arith, e)
first_in Holds Breaks v inside number (file ∷ files) (inr later) = let less = first_in Holds Breaks v inside (number + 1) files later.1 in omega (arith, less)

both_joined : {X : Type 0} (a b c d : List X) → a ≡ c → b ≡ d → a ++ b ≡ c ++ d
both_joined {X = X} a b c d x y = ap (λ (xs : List X). xs ++ b) x ∙ ap (λ (xs : List X). c ++ xs) y

-- what is gathered is one list, where each file has one list of its own
pub one_gathered : {X : Type 0} (Own : ℕ → SourceFile → List X → Type 0) → ((number : ℕ) (file : SourceFile) (a b : List X) → Own number file a → Own number file b → a ≡ b)
    → (number : ℕ) (files : List SourceFile) (a b : List X) → AreGathered Own number files a → AreGathered Own number files b → a ≡ b
one_gathered Own one number [] a b x y = x ∙ sym y
one_gathered Own one number (file ∷ files) a b x y =
    let own = one number file x.0 y.0 x.2 y.2 in
    let more = one_gathered Own one (number + 1) files x.1 y.1 x.3 y.3 in
    x.4 ∙ both_joined x.0 x.1 y.0 y.1 own more ∙ sym y.4
