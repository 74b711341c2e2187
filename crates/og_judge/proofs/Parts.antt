-- What the parts of the judgement answer, put together.
use Rattle.std.proofs.Common.{◌≡◌, ◌∙◌, ℕ, suc, ◌+◌, ◌-◌, ◌^◌, ◌<◌, ◌≤◌, ◌⊎◌, List, [], ◌∷◌, ◌++◌, length, take, drop, get_or, Option, Some, None, Result, Ok, Err, sym, ap, subst, refl, inl, inr, arith}
use Rattle.std.specs.Prelude.{IfOk, IfErr, unwrap_or}
use Rattle.std.specs.List.{flat_map, AllByRecursion}
use Rattle.og_base.specs.declared.ModelError.{ModelError}
use Rattle.og_base.specs.declared.ModelError.TheVariants.{Broken, NoMemory}
use Rattle.og_base.specs.declared.Violation.{Violation}
use Rattle.og_base.specs.Order.{first_of}
use Rattle.og_lexer.specs.declared.Language.{Language}
use Rattle.og_lexer.specs.declared.Language.TheVariants.{Sdl, Asn}
use Rattle.og_lexer.specs.declared.Lexed.{Lexed}
use Rattle.og_lexer.specs.declared.Spanned.{Spanned}
use Rattle.og_lexer.specs.Texts.{LexesIn, RefusesIn, EndsOnce}
use Rattle.og_asn1.specs.Grammar.{FirstSyntactic}
use Rattle.og_base.specs.declared.Rule.TheVariants.{F1}
use Rattle.og_front.specs.Files.{IsTextOf, BreaksGrammar}
use Rattle.std.proofs.lemmas.List.{append_assoc, append-nil, length-map, take_all}
use Rattle.og_asn1.specs.declared.syntax.ModuleTree.{ModuleTree}
use Rattle.og_dataview.specs.Violations.{first_violation}
use Rattle.og_front.specs.declared.syntax.SystemText.{SystemText}
use Rattle.og_front.specs.Grammar.{Spells}
use Rattle.og_front.specs.ModelOf.{model_of_tree}
use Rattle.og_front.specs.Rules.{or_else, first_of_rules}
use Rattle.og_front.proofs.Elements.{each_both}
use Rattle.og_front.proofs.ShortNames.{short_spelt}
use Rattle.og_front.proofs.WrittenTrees.{written_spelt}
use Rattle.og_model.specs.declared.Model.{Model}
use Rattle.og_judge.specs.declared.ModelFile.{ModelFile}
use Rattle.og_judge.specs.Judging.{SourceFile, source, sources, Data, Names, States, Limits, Forms, Syntactic, Lexical, EachKeeps, FirstBreaks, IsLexed, BreaksLexis, AreOwnModules, LacksSyntax, HasForm, LacksForm, IsParsed, BreaksSyntax, AreModulesOf, IsBuilt, BreaksForms, AreAsn, HasOneProcess, AreTextOf, violations_in, AreShort, IsFirstAmong, AreAccepted, IsFirstViolation, HaveModel, most_files}
use Rattle.og_judge.specs.Answers.{IsJudged, Refuses, HasTokens, AreLexed, BreakLexis, BreakSyntax, IsNoText, AreModulesIn, AreNoModules, IsTreeOf, BreakForms, IsNamed, BreakNames}
use Rattle.og_judge.proofs.OneByOne.{as_many, first_behind, lexed_then, parted, one_more, in_front, lexed_at, short_at}

-- ---- tokens

all_lexed : (number : ℕ) (files : List SourceFile) (texts : List Lexed) → AreLexed number files texts → EachKeeps IsLexed number files
all_lexed number [] [] lexed = tt
all_lexed number [] (t ∷ texts) lexed = absurd lexed
all_lexed number (f ∷ files) [] lexed = absurd lexed
all_lexed number (f ∷ files) (t ∷ texts) lexed = ((t.tokens, (t.comments, lexed.0.lexes)), all_lexed (number + 1) files texts lexed.1)

-- one more file lexes
pub next_lexed : (files : List ModelFile) (i : ℕ) (d : ModelFile) (texts new : List Lexed) (text : Lexed) → i < length files → d ≡ get_or files i d → AreLexed 0 (sources (take i files)) texts
    → HasTokens d.language i d.bytes.items text → new ≡ texts ++ text ∷ [] → AreLexed 0 (sources (take (i + 1) files)) new
next_lexed files i d texts new text less is lexed has same =
    let P : List SourceFile → Type 0 = λ fs. AreLexed 0 fs (texts ++ text ∷ []) in
    let Q : List Lexed → Type 0 = λ ts. AreLexed 0 (sources (take (i + 1) files)) ts in
    let more : sources (take (i + 1) files) ≡ sources (take i files) ++ source d ∷ [] = one_more files i d less ∙ ap (λ f. sources (take i files) ++ source f ∷ []) (sym is) in
    subst Q (sym same) (subst P (sym more) (lexed_then 0 (sources (take i files)) (source d) texts text i (in_front files i less) lexed has))

-- one of the files is short
pub short_here : (files : List ModelFile) (i : ℕ) (d : ModelFile) → i < length files → d ≡ get_or files i d → AreShort (sources files) → length d.bytes.items < 2 ^ 32 - 1
short_here files i d less is short =
    let P : ModelFile → Type 0 = λ f. length f.bytes.items < 2 ^ 32 - 1 in
    subst P (sym is) (short_at (λ (f : SourceFile). length f.bytes < 2 ^ 32 - 1) files i d less short)

-- the files before one keep something that it breaks
at_one : (Holds Breaks : ℕ → SourceFile → Type 0) (files : List ModelFile) (i : ℕ) (d : ModelFile) → i < length files → d ≡ get_or files i d → EachKeeps Holds 0 (sources (take i files)) → Breaks i (source d)
    → FirstBreaks Holds Breaks 0 (sources files)
at_one Holds Breaks files i d less is each breaks =
    let P : List SourceFile → Type 0 = λ fs. FirstBreaks Holds Breaks 0 fs in
    let all : sources files ≡ sources (take i files) ++ source d ∷ sources (drop (suc i) files) = parted files i d less ∙ ap (λ f. sources (take i files) ++ source f ∷ sources (drop (suc i) files)) (sym is) in
    subst P (sym all) (first_behind Holds Breaks 0 (sources (take i files)) (source d) (sources (drop (suc i) files)) i (in_front files i less) each breaks)

pub lexis_broken : (files : List ModelFile) (i : ℕ) (d : ModelFile) (texts : List Lexed) (error : ModelError) → i < length files → d ≡ get_or files i d → AreLexed 0 (sources (take i files)) texts
    → RefusesIn d.language i d.bytes.items error → BreakLexis (sources files) error
lexis_broken files i d texts (Broken v) less is lexed refuses = at_one IsLexed (BreaksLexis v) files i d less is (all_lexed 0 (sources (take i files)) texts lexed) refuses.0
lexis_broken files i d texts (NoMemory met) less is lexed refuses = tt

-- the tokens of one file
pub tokens_at : (files : List ModelFile) (texts : List Lexed) (i : ℕ) (d : ModelFile) (t : Lexed) → i < length files → d ≡ get_or files i d → t ≡ get_or texts i t → AreLexed 0 (sources files) texts
    → HasTokens d.language i d.bytes.items t
tokens_at files texts i d t less is text lexed =
    let P : ModelFile → Type 0 = λ f. HasTokens f.language i f.bytes.items t in
    let Q : Lexed → Type 0 = λ x. HasTokens (get_or files i d).language i (get_or files i d).bytes.items x in
    subst P (sym is) (subst Q (sym text) (lexed_at 0 files texts i d t i (omega arith) less lexed))

pub below_texts : (files : List ModelFile) (texts : List Lexed) (i : ℕ) → i < length files → AreLexed 0 (sources files) texts → i < length texts
below_texts files texts i less lexed =
    let many = as_many 0 (sources files) texts lexed in
    let same = length-map files source in
    omega (arith, less, many, same)

pub ends_at : (files : List ModelFile) (texts : List Lexed) (i : ℕ) (d : ModelFile) (t : Lexed) (tokens : List Spanned) → i < length files → d ≡ get_or files i d → t ≡ get_or texts i t → tokens ≡ t.tokens → AreLexed 0 (sources files) texts
    → EndsOnce tokens
ends_at files texts i d t tokens less is text same lexed = subst EndsOnce (sym same) (tokens_at files texts i d t less is text lexed).ends

-- ---- modules

modules_then : (number : ℕ) (front : List SourceFile) (file : SourceFile) (all own : List ModuleTree) (at : ℕ) → at ≡ number + length front
    → AreModulesOf number front all → AreOwnModules file.language at file.bytes own → AreModulesOf number (front ++ file ∷ []) (all ++ own)
modules_then number [] file all own at e are has =
    let same : at ≡ number = omega (arith, e) in
    (own, [], subst (λ n. AreOwnModules file.language n file.bytes own) same has, refl, ap (λ (ms : List ModuleTree). ms ++ own) are ∙ sym (append-nil own))
modules_then number (f ∷ front) file all own at e are has = (
  are.0,
  are.1 ++ own,
  are.2,
  modules_then (number + 1) front file are.1 own at (omega (arith, e)) are.3 has,
  ap (λ (ms : List ModuleTree). ms ++ own) are.4 ∙ append_assoc are.0 are.1 own,
)

all_parsed : (number : ℕ) (files : List SourceFile) (all : List ModuleTree) → AreModulesOf number files all → EachKeeps IsParsed number files
all_parsed number [] all are = tt
all_parsed number (f ∷ files) all are = ((are.0, are.2), all_parsed (number + 1) files are.1 are.3)

own_modules : (language : Language) (number : ℕ) (bytes : List ℕ) (text : Lexed) (tokens : List Spanned) (own : List ModuleTree) → HasTokens language number bytes text → tokens ≡ text.tokens
    → AreModulesIn language tokens own → AreOwnModules language number bytes own
own_modules Sdl number bytes text tokens own has same are = are
own_modules Asn number bytes text tokens own has same are =
    let P : List Spanned → Type 0 = λ ts. AreModulesIn Asn ts own in
    record { tokens = text.tokens; comments = text.comments; lexes = has.lexes; are = subst P same are }

-- the modules of one more file
pub next_modules : (files : List ModelFile) (texts : List Lexed) (i : ℕ) (d : ModelFile) (t : Lexed) (tokens : List Spanned) (all own new : List ModuleTree) → i < length files → d ≡ get_or files i d → t ≡ get_or texts i t → tokens ≡ t.tokens
    → AreLexed 0 (sources files) texts → AreModulesOf 0 (sources (take i files)) all → AreModulesIn d.language tokens own → new ≡ all ++ own → AreModulesOf 0 (sources (take (i + 1) files)) new
next_modules files texts i d t tokens all own new less is text same lexed are in_tokens e =
    let has = tokens_at files texts i d t less is text lexed in
    let P : List SourceFile → Type 0 = λ fs. AreModulesOf 0 fs (all ++ own) in
    let Q : List ModuleTree → Type 0 = λ ms. AreModulesOf 0 (sources (take (i + 1) files)) ms in
    let more : sources (take (i + 1) files) ≡ sources (take i files) ++ source d ∷ [] = one_more files i d less ∙ ap (λ f. sources (take i files) ++ source f ∷ []) (sym is) in
    subst Q (sym e)
    (subst P (sym more) (modules_then 0 (sources (take i files)) (source d) all own i (in_front files i less) are (own_modules d.language i d.bytes.items t tokens own has same in_tokens)))

lacks_modules : (v : Violation) (language : Language) (number : ℕ) (bytes : List ℕ) (text : Lexed) (tokens : List Spanned) → HasTokens language number bytes text → tokens ≡ text.tokens
    → AreNoModules language tokens (Broken v) → LacksSyntax language number bytes v
lacks_modules v Sdl number bytes text tokens has same none = none
lacks_modules v Asn number bytes text tokens has same none =
    let P : List Spanned → Type 0 = λ ts. FirstSyntactic ts v in
    record { tokens = text.tokens; comments = text.comments; lexes = has.lexes; first = subst P same none.0 }

pub syntax_broken : (files : List ModelFile) (texts : List Lexed) (i : ℕ) (d : ModelFile) (t : Lexed) (tokens : List Spanned) (all : List ModuleTree) (error : ModelError) → i < length files → d ≡ get_or files i d → t ≡ get_or texts i t
    → tokens ≡ t.tokens → AreLexed 0 (sources files) texts → AreModulesOf 0 (sources (take i files)) all → AreNoModules d.language tokens error → BreakSyntax (sources files) error
syntax_broken files texts i d t tokens all (Broken v) less is text same lexed are none =
    let has = tokens_at files texts i d t less is text lexed in
    at_one IsParsed (BreaksSyntax v) files i d less is (all_parsed 0 (sources (take i files)) all are) (lacks_modules v d.language i d.bytes.items t tokens has same none)
syntax_broken files texts i d t tokens all (NoMemory met) less is text same lexed are none = tt

-- ---- the tree

two_languages : (language : Language) → language ≡ Sdl → language ≡ Asn → ⊥
two_languages language a b = let h : Sdl ≡ Asn = sym a ∙ b in cc

built_if_asn : (number : ℕ) (files : List SourceFile) → AreAsn files → EachKeeps IsBuilt number files
built_if_asn number [] all = tt
built_if_asn number (f ∷ files) all =
    let P : Language → Type 0 = λ language. HasForm language number f.bytes in
    (subst P (sym all.0) tt, built_if_asn (number + 1) files all.1)

-- the files behind the one of SDL/PR are of ASN.1
asn_behind : (front : List SourceFile) (file : SourceFile) (back : List SourceFile) → HasOneProcess (front ++ file ∷ back) → AreAsn front → file.language ≡ Sdl → AreAsn back
asn_behind [] file back (inl one) all sdl = one.1
asn_behind [] file back (inr one) all sdl = absurd (two_languages file.language sdl one.0)
asn_behind (f ∷ front) file back (inl one) all sdl = absurd (two_languages f.language one.0 all.0)
asn_behind (f ∷ front) file back (inr one) all sdl = asn_behind front file back one.1 all.1 sdl

text_behind : (number : ℕ) (front : List SourceFile) (file : SourceFile) (back : List SourceFile) (at : ℕ) (system : SystemText) → at ≡ number + length front → AreAsn front → AreAsn back → file.language ≡ Sdl
    → IsTextOf at system file.bytes → AreTextOf system number (front ++ file ∷ back)
text_behind number [] file back at system e all behind sdl text =
    let same : at ≡ number = omega (arith, e) in inl (sdl, subst (λ n. IsTextOf n system file.bytes) same text, behind)
text_behind number (f ∷ front) file back at system e all behind sdl text = inr (all.0, text_behind (number + 1) front file back at system (omega (arith, e)) all.1 behind sdl text)

built_behind : (number : ℕ) (front : List SourceFile) (file : SourceFile) (back : List SourceFile) (at : ℕ) → at ≡ number + length front → AreAsn front → AreAsn back → IsBuilt at file
    → EachKeeps IsBuilt number (front ++ file ∷ back)
built_behind number [] file back at e all behind built =
    let same : at ≡ number = omega (arith, e) in (subst (λ n. IsBuilt n file) same built, built_if_asn (number + 1) back behind)
built_behind number (f ∷ front) file back at e all behind built =
    let P : Language → Type 0 = λ language. HasForm language number f.bytes in
    (subst P (sym all.0) tt, built_behind (number + 1) front file back at (omega (arith, e)) all.1 behind built)

-- no file is left
pub none_left : (files : List SourceFile) → HasOneProcess files → AreAsn files → ⊥
none_left [] one all = one
none_left (f ∷ files) (inl one) all = two_languages f.language one.0 all.0
none_left (f ∷ files) (inr one) all = none_left files one.1 all.1

pub next_asn : (files : List ModelFile) (i : ℕ) (d : ModelFile) → i < length files → d ≡ get_or files i d → AreAsn (sources (take i files)) → d.language ≡ Asn → AreAsn (sources (take (i + 1) files))
next_asn files i d less is all asn =
    let more : sources (take (i + 1) files) ≡ sources (take i files) ++ source d ∷ [] = one_more files i d less ∙ ap (λ f. sources (take i files) ++ source f ∷ []) (sym is) in
    subst AreAsn (sym more) (each_both (λ (f : SourceFile). f.language ≡ Asn) (sources (take i files)) (source d ∷ []) all (asn, tt))

-- the file of SDL/PR is reached
pub tree_found : (files : List ModelFile) (texts : List Lexed) (i : ℕ) (d : ModelFile) (t : Lexed) (tokens : List Spanned) (system : SystemText) → i < length files → length files ≤ most_files → d ≡ get_or files i d → t ≡ get_or texts i t → tokens ≡ t.tokens
    → AreLexed 0 (sources files) texts → HasOneProcess (sources files) → AreAsn (sources (take i files)) → d.language ≡ Sdl → Spells system tokens → IsTreeOf (sources files) system
tree_found files texts i d t tokens system less few is text same lexed one all sdl spells =
    let P : Language → Type 0 = λ language. HasTokens language i d.bytes.items t in
    let has = subst P sdl (tokens_at files texts i d t less is text lexed) in
    let S : List Spanned → Type 0 = λ ts. Spells system ts in
    let spelt = subst S same spells in
    let its : IsTextOf i system d.bytes.items = record { tokens = t.tokens; comments = t.comments; lexes = has.lexes; spells = spelt } in
    let all_are : sources files ≡ sources (take i files) ++ source d ∷ sources (drop (suc i) files) = parted files i d less ∙ ap (λ f. sources (take i files) ++ source f ∷ sources (drop (suc i) files)) (sym is) in
    let behind = asn_behind (sources (take i files)) (source d) (sources (drop (suc i) files)) (subst HasOneProcess all_are one) all sdl in
    let F : Language → Type 0 = λ language. HasForm language i d.bytes.items in
    record {
      each = subst (λ fs. EachKeeps IsBuilt 0 fs) (sym all_are) (built_behind 0 (sources (take i files)) (source d) (sources (drop (suc i) files)) i (in_front files i less) all behind (subst F (sym sdl) (system, its)));
      text = subst (λ fs. AreTextOf system 0 fs) (sym all_are) (text_behind 0 (sources (take i files)) (source d) (sources (drop (suc i) files)) i system (in_front files i less) all behind sdl its);
      short = short_spelt system t.tokens i d.bytes.items 0 spelt has.placed;
      written = written_spelt system t.tokens i d.bytes.items 0 (omega (arith, less, few)) spelt has.placed;
    }

pub forms_broken : (files : List ModelFile) (texts : List Lexed) (i : ℕ) (d : ModelFile) (t : Lexed) (tokens : List Spanned) (error : ModelError) → i < length files → d ≡ get_or files i d → t ≡ get_or texts i t → tokens ≡ t.tokens
    → AreLexed 0 (sources files) texts → AreAsn (sources (take i files)) → d.language ≡ Sdl → IsNoText tokens error → BreakForms (sources files) error
forms_broken files texts i d t tokens (Broken v) less is text same lexed all sdl none =
    let P : Language → Type 0 = λ language. HasTokens language i d.bytes.items t in
    let has = subst P sdl (tokens_at files texts i d t less is text lexed) in
    let L : List Spanned → Type 0 = λ ts. LexesIn Sdl i d.bytes.items ts t.comments in
    let S : List Spanned → Type 0 = λ ts. (system : SystemText) → Spells system ts → ⊥ in
    let breaks : BreaksGrammar i d.bytes.items v = record {
      first = none.0;
      more = none.1;
      comments = t.comments;
      lexes = subst L (sym same ∙ none.2) has.lexes;
      unspelt = subst S none.2 none.3;
      is = none.4;
    } in
    let F : Language → Type 0 = λ language. LacksForm language i d.bytes.items v in
    at_one IsBuilt (BreaksForms v) files i d less is (built_if_asn 0 (sources (take i files)) all) (subst F (sym sdl) breaks)
forms_broken files texts i d t tokens (NoMemory met) less is text same lexed all sdl none = tt

-- the same of what a call answered
pub tree_found_if : (files : List ModelFile) (texts : List Lexed) (i : ℕ) (d : ModelFile) (t : Lexed) (tokens : List Spanned) (result : Result SystemText ModelError) → i < length files → length files ≤ most_files → d ≡ get_or files i d → t ≡ get_or texts i t
    → tokens ≡ t.tokens → AreLexed 0 (sources files) texts → HasOneProcess (sources files) → AreAsn (sources (take i files)) → d.language ≡ Sdl → IfOk result (λ system. Spells system tokens) → IfOk result (IsTreeOf (sources files))
tree_found_if files texts i d t tokens (Ok system) less few is text same lexed one all sdl spells = tree_found files texts i d t tokens system less few is text same lexed one all sdl spells
tree_found_if files texts i d t tokens (Err error) less few is text same lexed one all sdl spells = tt

pub forms_broken_if : (files : List ModelFile) (texts : List Lexed) (i : ℕ) (d : ModelFile) (t : Lexed) (tokens : List Spanned) (result : Result SystemText ModelError) → i < length files → d ≡ get_or files i d → t ≡ get_or texts i t → tokens ≡ t.tokens
    → AreLexed 0 (sources files) texts → AreAsn (sources (take i files)) → d.language ≡ Sdl → IfErr result (IsNoText tokens) → IfErr result (BreakForms (sources files))
forms_broken_if files texts i d t tokens (Ok system) less is text same lexed all sdl none = tt
forms_broken_if files texts i d t tokens (Err error) less is text same lexed all sdl none = forms_broken files texts i d t tokens error less is text same lexed all sdl none

-- there is a file of SDL/PR among them all
pub none_left_of : (files : List ModelFile) (i : ℕ) → length files ≤ i → HasOneProcess (sources files) → AreAsn (sources (take i files)) → ⊥
none_left_of files i more one all = none_left (sources files) one (subst (λ fs. AreAsn (sources fs)) (take_all i files more) all)

-- the first token, which the tokens have
pub no_text : (tokens : List Spanned) (error : ModelError) → ((system : SystemText) → Spells system tokens → ⊥)
    → (first : Spanned) × (more : List Spanned) × (tokens ≡ first ∷ more) × (error ≡ Broken (record { rule = F1; place = first.place })) → IsNoText tokens error
no_text tokens error none named =
    let P : ModelError → Type 0 = λ e. IsNoText tokens e in
    subst P (sym named.3) (named.0, named.1, named.2, none, refl)

-- ---- classes

by_some : (names states limits : Option Violation) (v : Violation) → or_else names (or_else states limits) ≡ Some v
    → (names ≡ Some v) ⊎ ((names ≡ None) × ((states ≡ Some v) ⊎ ((states ≡ None) × (limits ≡ Some v))))
by_some (Some w) states limits v e = inl e
by_some None (Some w) limits v e = inr (refl, inl e)
by_some None None limits v e = inr (refl, inr (refl, e))

by_none : (names states limits : Option Violation) → or_else names (or_else states limits) ≡ None → (names ≡ None) × (states ≡ None) × (limits ≡ None)
by_none (Some w) states limits e = absurd (let h : Some w ≡ None = e in cc)
by_none None (Some w) limits e = absurd (let h : Some w ≡ None = e in cc)
by_none None None limits e = (refl, refl, e)

tree_first : (files : List SourceFile) (v : Violation) (system : SystemText) → AreTextOf system 0 files
    → (first_of (violations_in Names system) ≡ Some v)
    ⊎ ((first_of (violations_in Names system) ≡ None) × ((first_of (violations_in States system) ≡ Some v) ⊎ ((first_of (violations_in States system) ≡ None) × (first_of (violations_in Limits system) ≡ Some v))))
    → IsFirstAmong (Names ∷ States ∷ Limits ∷ []) files v
tree_first files v system text (inl first) = inl (record { system = system; text = text; first = first })
tree_first files v system text (inr (names, inl first)) = inr (record { system = system; text = text; none = names }, inl (record { system = system; text = text; first = first }))
tree_first files v system text (inr (names, inr (states, first))) =
    inr (
      record { system = system; text = text; none = names },
      inr (record { system = system; text = text; none = states }, inl (record { system = system; text = text; first = first })),
    )

pub lexis_first : (files : List SourceFile) (error : ModelError) → BreakLexis files error → Refuses files error
lexis_first files (Broken v) first = inl first
lexis_first files (NoMemory met) first = tt

pub syntax_first : (files : List SourceFile) (texts : List Lexed) (error : ModelError) → AreLexed 0 files texts → BreakSyntax files error → Refuses files error
syntax_first files texts (Broken v) lexed first = inr (all_lexed 0 files texts lexed, inl first)
syntax_first files texts (NoMemory met) lexed first = tt

pub forms_first : (files : List SourceFile) (texts : List Lexed) (all : List ModuleTree) (error : ModelError) → AreLexed 0 files texts → AreModulesOf 0 files all → BreakForms files error → Refuses files error
forms_first files texts all (Broken v) lexed modules first = inr (all_lexed 0 files texts lexed, inr (all_parsed 0 files all modules, inl first))
forms_first files texts all (NoMemory met) lexed modules first = tt

data_first : (files : List SourceFile) (v : Violation) (all : List ModuleTree) (system : SystemText) → AreModulesOf 0 files all → AreTextOf system 0 files
    → (first_violation all ≡ Some v) ⊎ ((first_violation all ≡ None) × (first_of_rules system ≡ Some v)) → IsFirstAmong (Data ∷ Names ∷ States ∷ Limits ∷ []) files v
data_first files v all system modules text (inl first) = inl (record { modules = all; are = modules; first = first })
data_first files v all system modules text (inr rest) =
    inr (
      record { modules = all; are = modules; none = rest.0 },
      tree_first files v system text (by_some (first_of (violations_in Names system)) (first_of (violations_in States system)) (first_of (violations_in Limits system)) v rest.1),
    )

rules_first : (files : List SourceFile) (texts : List Lexed) (all : List ModuleTree) (system : SystemText) (error : ModelError) → AreLexed 0 files texts → AreModulesOf 0 files all → IsTreeOf files system
    → BreakNames all system error → Refuses files error
rules_first files texts all system (Broken v) lexed modules tree first =
    inr (all_lexed 0 files texts lexed, inr (all_parsed 0 files all modules, inr (tree.each, data_first files v all system modules tree.text first)))
rules_first files texts all system (NoMemory met) lexed modules tree first = tt

judged : (files : List SourceFile) (texts : List Lexed) (all : List ModuleTree) (system : SystemText) (model : Model) → AreLexed 0 files texts → AreModulesOf 0 files all → IsTreeOf files system
    → IsNamed all system model → IsJudged files model
judged files texts all system model lexed modules tree named =
    let none = by_none (first_of (violations_in Names system)) (first_of (violations_in States system)) (first_of (violations_in Limits system)) named.built.keeps in
    record {
      have = record {
        accepted = (
          all_lexed 0 files texts lexed,
          (
            all_parsed 0 files all modules,
            (
              tree.each,
              (
                record { modules = all; are = modules; none = named.none },
                (
                  record { system = system; text = tree.text; none = none.0 },
                  (record { system = system; text = tree.text; none = none.1 }, (record { system = system; text = tree.text; none = none.2 }, tt)),
                ),
              ),
            ),
          ),
        );
        system = system;
        text = tree.text;
        is = named.built.is;
      };
      can = named.built.can;
    }

-- the same of what a call answered
pub judged_if : (files : List SourceFile) (texts : List Lexed) (all : List ModuleTree) (system : SystemText) (result : Result Model ModelError) → AreLexed 0 files texts → AreModulesOf 0 files all → IsTreeOf files system
    → IfOk result (IsNamed all system) → IfOk result (IsJudged files)
judged_if files texts all system (Ok model) lexed modules tree built = judged files texts all system model lexed modules tree built
judged_if files texts all system (Err error) lexed modules tree built = tt

pub rules_if : (files : List SourceFile) (texts : List Lexed) (all : List ModuleTree) (system : SystemText) (result : Result Model ModelError) → AreLexed 0 files texts → AreModulesOf 0 files all → IsTreeOf files system
    → IfErr result (BreakNames all system) → IfErr result (Refuses files)
rules_if files texts all system (Ok model) lexed modules tree first = tt
rules_if files texts all system (Err error) lexed modules tree first = rules_first files texts all system error lexed modules tree first
