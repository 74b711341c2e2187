-- The words of a command are cut in one way: its name, the longest front of model files, and what stands behind them. So words ask
-- for at most one command.
use Rattle.std.proofs.Common.{◌≡◌, ◌↔◌, ℕ, Bool, IsTrue, List, [], ◌∷◌, ◌++◌, get_or, sym, ◌∙◌, ap, subst, inl, inr, refl, arith, codes, decimal, string_bytes, Global}
use Rattle.std.specs.List.{AllByRecursion}
use Rattle.std.proofs.lemmas.Fmt.{decimal_injective}
use Rattle.std.specs.declared.string.String.{String}
use Rattle.og_words.proofs.CommandForms.{texts_joined, sdl_in_front}
use Rattle.og_words.specs.Asked.{texts, BeginsNoFile, FitsNone, IsStimuliWith}
use Rattle.og_words.specs.Words.{Command, Check, Compile, Run, Simulate, HasEnding, IsSdlFile, IsAsnFile, HasOneSdlFile, IsModelFile, IsProgramFile, IsStimuliFile, AreModelFiles, GivesSteps, name_of, files_of, StandsBehind, AsksFor, IsNoCommand}

-- ---- endings

abbrev pub last_byte : ℕ → List ℕ → ℕ
last_byte before [] = before
last_byte before (b ∷ bs) = last_byte b bs

last_behind : (before : ℕ) (stem : List ℕ) (b : ℕ) (bs : List ℕ) → last_byte before (stem ++ b ∷ bs) ≡ last_byte b bs
last_behind before [] b bs = refl
last_behind before (x ∷ stem) b bs = last_behind x stem b bs

-- the name ends in this letter
pub ends_in : (name : List ℕ) (b : ℕ) (bs : List ℕ) → HasEnding (b ∷ bs) name → last_byte 0 name ≡ last_byte b bs
ends_in name b bs h = ap (last_byte 0) h.2 ∙ last_behind 0 h.0 b bs

-- no model file ends in `c` or `m`
model_ends : (name : List ℕ) → IsModelFile name → (last_byte 0 name ≡ 99 → ⊥) × (last_byte 0 name ≡ 109 → ⊥)
model_ends name (inl h) = let e : last_byte 0 name ≡ 114 = ends_in name 46 (112 ∷ 114 ∷ []) h in (λ d. omega (arith, e, d), λ d. omega (arith, e, d))
model_ends name (inr (inl h)) = let e : last_byte 0 name ≡ 110 = ends_in name 46 (97 ∷ 115 ∷ 110 ∷ []) h in (λ d. omega (arith, e, d), λ d. omega (arith, e, d))
model_ends name (inr (inr h)) = let e : last_byte 0 name ≡ 49 = ends_in name 46 (97 ∷ 115 ∷ 110 ∷ 49 ∷ []) h in (λ d. omega (arith, e, d), λ d. omega (arith, e, d))

-- a name that ends in `r` is no name of a file of ASN.1
pub two_languages : (name : List ℕ) → IsSdlFile name → IsAsnFile name → ⊥
two_languages name sdl (inl asn) =
    let e : last_byte 0 name ≡ 114 = ends_in name 46 (112 ∷ 114 ∷ []) sdl in
    let d : last_byte 0 name ≡ 110 = ends_in name 46 (97 ∷ 115 ∷ 110 ∷ []) asn in
    omega (arith, e, d)
two_languages name sdl (inr asn) =
    let e : last_byte 0 name ≡ 114 = ends_in name 46 (112 ∷ 114 ∷ []) sdl in
    let d : last_byte 0 name ≡ 49 = ends_in name 46 (97 ∷ 115 ∷ 110 ∷ 49 ∷ []) asn in
    omega (arith, e, d)

-- the file of SDL/PR is met
pub one_here : (rest : List (String Global)) (file : String Global) (others : List (String Global)) (text : List ℕ) (all : List (List ℕ)) (result : Bool) → rest ≡ file ∷ others → text ≡ string_bytes file → IsSdlFile text
    → IsTrue result ↔ AllByRecursion IsAsnFile (texts others) → HasOneSdlFile (texts rest) ↔ HasOneSdlFile all → IsTrue result ↔ HasOneSdlFile all
one_here rest file others text all result e same sdl tells inside =
    let P : List (String Global) → Type 0 = λ words. HasOneSdlFile (texts words) ↔ HasOneSdlFile all in
    let here = subst P e inside in
    let front = sdl_in_front (string_bytes file) text (texts others) result same sdl (two_languages (string_bytes file)) tells in
    (λ r. here.0 (front.0 r), λ has. front.1 (here.1 has))

program_is_other : (name : List ℕ) → IsProgramFile name → IsModelFile name → ⊥
program_is_other name program model = (model_ends name model).0 (ends_in name 46 (99 ∷ []) program)

stimuli_are_other : (name : List ℕ) → IsStimuliFile name → IsModelFile name → ⊥
stimuli_are_other name stimuli model = (model_ends name model).1 (ends_in name 46 (115 ∷ 116 ∷ 105 ∷ 109 ∷ []) stimuli)

-- ---- the cut

-- what stands behind the model files begins with none
stops : (behind : List (List ℕ)) (command : Command) → StandsBehind behind command → BeginsNoFile behind
stops behind (Check files) none = subst BeginsNoFile (sym none) tt
stops behind (Compile files) none = subst BeginsNoFile (sym none) tt
stops behind (Run files program stimuli steps) stands = subst BeginsNoFile (sym stands.1) (program_is_other program stands.3)
stops behind (Simulate files stimuli steps) stands = subst BeginsNoFile (sym stands.1) (stimuli_are_other stimuli stands.3)

first_same : {X : Type 0} (x y : X) (xs ys : List X) → x ∷ xs ≡ y ∷ ys → x ≡ y
first_same x y xs ys e = cc

rest_same : {X : Type 0} (x y : X) (xs ys : List X) → x ∷ xs ≡ y ∷ ys → xs ≡ ys
rest_same x y xs ys e = cc

both_same : {X : Type 0} (x y : X) (xs ys : List X) → x ≡ y → xs ≡ ys → x ∷ xs ≡ y ∷ ys
both_same x y xs ys d e = cc

one_front : (files others behind rest : List (List ℕ)) → AllByRecursion IsModelFile files → AllByRecursion IsModelFile others → BeginsNoFile behind → BeginsNoFile rest
    → files ++ behind ≡ others ++ rest → (files ≡ others) × (behind ≡ rest)
one_front [] [] behind rest each all first second e = (refl, e)
one_front [] (y ∷ others) behind rest each all first second e = absurd (let stop : IsModelFile y → ⊥ = subst BeginsNoFile e first in stop all.0)
one_front (x ∷ files) [] behind rest each all first second e = absurd (let stop : IsModelFile x → ⊥ = subst BeginsNoFile (sym e) second in stop each.0)
one_front (x ∷ files) (y ∷ others) behind rest each all first second e =
    let same = one_front files others behind rest each.1 all.1 first second (rest_same x y (files ++ behind) (others ++ rest) e) in
    (both_same x y files others (first_same x y (files ++ behind) (others ++ rest) e) same.0, same.1)

-- the words are cut into a name, model files and what begins with none
pub record IsCut (words : List (List ℕ)) (name : List ℕ) (files behind : List (List ℕ)) : Type 0 where
  pub are : words ≡ name ∷ (files ++ behind)
  pub each : AllByRecursion IsModelFile files
  pub stops : BeginsNoFile behind

record SameCut (name other : List ℕ) (files others behind rest : List (List ℕ)) : Type 0 where
  names : name ≡ other
  files_are : files ≡ others
  behind_is : behind ≡ rest

one_cut : (words : List (List ℕ)) (name other : List ℕ) (files others behind rest : List (List ℕ)) → IsCut words name files behind → IsCut words other others rest → SameCut name other files others behind rest
one_cut words name other files others behind rest a b =
    let e : name ∷ (files ++ behind) ≡ other ∷ (others ++ rest) = sym a.are ∙ b.are in
    let same = one_front files others behind rest a.each b.each a.stops b.stops (rest_same name other (files ++ behind) (others ++ rest) e) in
    record { names = first_same name other (files ++ behind) (others ++ rest) e; files_are = same.0; behind_is = same.1 }

cut_of : (words : List (List ℕ)) (command : Command) → (asks : AsksFor words command) → IsCut words (name_of command) (files_of command) asks.behind
cut_of words command asks = record { are = asks.are; each = asks.files.each; stops = stops asks.behind command asks.stands }

-- ---- a command of words that are cut

pub no_fit : (words : List (List ℕ)) (name : List ℕ) (files behind : List (List ℕ)) → IsCut words name files behind → FitsNone name files behind → IsNoCommand words
no_fit words name files behind cut none = λ command asks.
    let same = one_cut words name (name_of command) files (files_of command) behind asks.behind cut (cut_of words command asks) in
    none command (record { name_is = same.names; files_are = same.files_are; stands = subst (λ b. StandsBehind b command) (sym same.behind_is) asks.stands })

pub no_files : (words : List (List ℕ)) (name : List ℕ) (files behind : List (List ℕ)) → IsCut words name files behind → (AreModelFiles files → ⊥) → IsNoCommand words
no_files words name files behind cut none = λ command asks.
    let same = one_cut words name (name_of command) files (files_of command) behind asks.behind cut (cut_of words command asks) in
    none (subst AreModelFiles (sym same.files_are) asks.files)

-- the words of a list, cut by its first word and by those behind it
pub cut_words : (items shown rest front back : List (String Global)) (first : String Global) (name : List ℕ) → shown ≡ items → shown ≡ first ∷ rest → rest ≡ front ++ back → name ≡ string_bytes first
    → AllByRecursion IsModelFile (texts front) → BeginsNoFile (texts back) → IsCut (texts items) name (texts front) (texts back)
cut_words items shown rest front back first name same parts joined is each stop = record {
  are = ap texts (sym same ∙ parts) ∙ both_same (string_bytes first) name (texts rest) (texts front ++ texts back) (sym is) (texts_joined rest front back joined);
  each = each;
  stops = stop;
}

-- ---- one command

-- the second letter tells the names apart
abbrev letter : List ℕ → ℕ
letter name = get_or name 1 0

number_of : (a b : List ℕ) (n m : ℕ) → a ∷ decimal n ∷ [] ≡ b ∷ decimal m ∷ [] → decimal n ≡ decimal m
number_of a b n m e = cc

one_number : (n m : ℕ) (last : List (List ℕ)) → GivesSteps n last → GivesSteps m last → n ≡ m
one_number n m last (inl a) (inl b) = a.1 ∙ sym b.1
one_number n m last (inl a) (inr b) = absurd (let e : [] ≡ codes "--steps" ∷ decimal m ∷ [] = sym a.0 ∙ b.0 in cc)
one_number n m last (inr a) (inl b) = absurd (let e : [] ≡ codes "--steps" ∷ decimal n ∷ [] = sym b.0 ∙ a.0 in cc)
one_number n m last (inr a) (inr b) =
    decimal_injective n m (omega (arith, a.1.1)) (omega (arith, b.1.1)) (number_of (codes "--steps") (codes "--steps") n m (sym a.0 ∙ b.0))

record SameTwo (p s q t : List ℕ) (last more : List (List ℕ)) : Type 0 where
  first : p ≡ q
  second : s ≡ t
  rest : last ≡ more

same_two : (p s q t : List ℕ) (last more : List (List ℕ)) → p ∷ s ∷ last ≡ q ∷ t ∷ more → SameTwo p s q t last more
same_two p s q t last more e = record { first = cc; second = cc; rest = cc }

same_run : (fs gs : List (List ℕ)) (p s q t : List ℕ) (n m : ℕ) → fs ≡ gs → p ≡ q → s ≡ t → n ≡ m → Run fs p s n ≡ Run gs q t m
same_run fs gs p s q t n m a b d e = cc

same_simulation : (fs gs : List (List ℕ)) (s t : List ℕ) (n m : ℕ) → fs ≡ gs → s ≡ t → n ≡ m → Simulate fs s n ≡ Simulate gs t m
same_simulation fs gs s t n m a b e = cc

by_behind : (behind : List (List ℕ)) (c d : Command) → name_of c ≡ name_of d → files_of c ≡ files_of d → StandsBehind behind c → StandsBehind behind d → c ≡ d
by_behind behind (Check fs) (Check gs) names files a b = ap Check files
by_behind behind (Check fs) (Compile gs) names files a b = absurd (let h : 104 ≡ 99 = ap letter names in omega (arith, h))
by_behind behind (Check fs) (Run gs q t m) names files a b = absurd (let h : 104 ≡ 117 = ap letter names in omega (arith, h))
by_behind behind (Check fs) (Simulate gs t m) names files a b = absurd (let h : 104 ≡ 105 = ap letter names in omega (arith, h))
by_behind behind (Compile fs) (Check gs) names files a b = absurd (let h : 99 ≡ 104 = ap letter names in omega (arith, h))
by_behind behind (Compile fs) (Compile gs) names files a b = ap Compile files
by_behind behind (Compile fs) (Run gs q t m) names files a b = absurd (let h : 99 ≡ 117 = ap letter names in omega (arith, h))
by_behind behind (Compile fs) (Simulate gs t m) names files a b = absurd (let h : 99 ≡ 105 = ap letter names in omega (arith, h))
by_behind behind (Run fs p s n) (Check gs) names files a b = absurd (let h : 117 ≡ 104 = ap letter names in omega (arith, h))
by_behind behind (Run fs p s n) (Compile gs) names files a b = absurd (let h : 117 ≡ 99 = ap letter names in omega (arith, h))
by_behind behind (Run fs p s n) (Run gs q t m) names files a b =
    let same = same_two p s q t a.0 b.0 (sym a.1 ∙ b.1) in
    same_run fs gs p s q t n m files same.first same.second (one_number n m a.0 a.2 (subst (GivesSteps m) (sym same.rest) b.2))
by_behind behind (Run fs p s n) (Simulate gs t m) names files a b = absurd (let h : 117 ≡ 105 = ap letter names in omega (arith, h))
by_behind behind (Simulate fs s n) (Check gs) names files a b = absurd (let h : 105 ≡ 104 = ap letter names in omega (arith, h))
by_behind behind (Simulate fs s n) (Compile gs) names files a b = absurd (let h : 105 ≡ 99 = ap letter names in omega (arith, h))
by_behind behind (Simulate fs s n) (Run gs q t m) names files a b = absurd (let h : 105 ≡ 117 = ap letter names in omega (arith, h))
by_behind behind (Simulate fs s n) (Simulate gs t m) names files a b =
    let e : s ∷ a.0 ≡ t ∷ b.0 = sym a.1 ∙ b.1 in
    same_simulation fs gs s t n m files (first_same s t a.0 b.0 e) (one_number n m a.0 a.2 (subst (GivesSteps m) (sym (rest_same s t a.0 b.0 e)) b.2))

pub one_command : (words : List (List ℕ)) (c d : Command) → AsksFor words c → AsksFor words d → c ≡ d
one_command words c d a b =
    let same = one_cut words (name_of c) (name_of d) (files_of c) (files_of d) a.behind b.behind (cut_of words c a) (cut_of words d b) in
    by_behind a.behind c d same.names same.files_are a.stands (subst (λ behind. StandsBehind behind d) (sym same.behind_is) b.stands)

-- ---- what stands behind

pub no_run : (files behind : List (List ℕ)) → ((fs : List (List ℕ)) (p s : List ℕ) (n : ℕ) → StandsBehind behind (Run fs p s n) → ⊥) → FitsNone (codes "run") files behind
no_run files behind none (Check fs) fits = let h : 117 ≡ 104 = ap letter fits.name_is in omega (arith, h)
no_run files behind none (Compile fs) fits = let h : 117 ≡ 99 = ap letter fits.name_is in omega (arith, h)
no_run files behind none (Run fs p s n) fits = none fs p s n fits.stands
no_run files behind none (Simulate fs s n) fits = let h : 117 ≡ 105 = ap letter fits.name_is in omega (arith, h)

pub no_simulation : (files behind : List (List ℕ)) → ((fs : List (List ℕ)) (s : List ℕ) (n : ℕ) → StandsBehind behind (Simulate fs s n) → ⊥) → FitsNone (codes "sim") files behind
no_simulation files behind none (Check fs) fits = let h : 105 ≡ 104 = ap letter fits.name_is in omega (arith, h)
no_simulation files behind none (Compile fs) fits = let h : 105 ≡ 99 = ap letter fits.name_is in omega (arith, h)
no_simulation files behind none (Run fs p s n) fits = let h : 105 ≡ 117 = ap letter fits.name_is in omega (arith, h)
no_simulation files behind none (Simulate fs s n) fits = none fs s n fits.stands

-- the last words give no number of statements
pub no_number : (words last : List (List ℕ)) (first : List ℕ) → words ≡ first ∷ last → ((n : ℕ) → GivesSteps n last → ⊥) → (stimuli : List ℕ) (n : ℕ) → IsStimuliWith stimuli n words → ⊥
no_number words last first are none stimuli n with_it =
    none n (subst (GivesSteps n) (rest_same stimuli first with_it.last last (sym with_it.are ∙ are)) with_it.gives)

-- what stands behind the program's file is no file of stimuli with a number
pub no_run_stimuli : (files behind rest : List (List ℕ)) (first : List ℕ) → behind ≡ first ∷ rest → ((stimuli : List ℕ) (n : ℕ) → IsStimuliWith stimuli n rest → ⊥) → FitsNone (codes "run") files behind
no_run_stimuli files behind rest first are none =
    no_run files behind (λ fs p s n stands. none s n (record { last = stands.0; are = rest_same first p rest (s ∷ stands.0) (sym are ∙ stands.1); gives = stands.2; file = stands.4 }))

pub no_simulation_stimuli : (files behind : List (List ℕ)) → ((stimuli : List ℕ) (n : ℕ) → IsStimuliWith stimuli n behind → ⊥) → FitsNone (codes "sim") files behind
no_simulation_stimuli files behind none = no_simulation files behind (λ fs s n stands. none s n (record { last = stands.0; are = stands.1; gives = stands.2; file = stands.3 }))
