-- Any files of which one is of SDL/PR are accepted or have a first violation: class by class.
use Rattle.std.proofs.Common.{◌≡◌, ◌∙◌, ℕ, ◌+◌, ◌⊎◌, List, [], ◌∷◌, ◌++◌, Option, Some, None, inl, inr, refl, sym, ap, subst}
use Rattle.og_base.specs.declared.Violation.{Violation}
use Rattle.og_base.specs.Order.{first_of}
use Rattle.og_lexer.specs.declared.Language.{Language}
use Rattle.og_lexer.specs.declared.Language.TheVariants.{Sdl, Asn}
use Rattle.og_lexer.specs.Texts.{IsTextIn, IsBrokenIn}
use Rattle.og_lexer.proofs.Reading.{lexes-ends}
use Rattle.og_asn1.specs.declared.syntax.ModuleTree.{ModuleTree}
use Rattle.og_asn1.specs.Grammar.{AreModules, FirstSyntactic}
use Rattle.og_dataview.specs.Violations.{first_violation}
use Rattle.og_front.specs.declared.syntax.SystemText.{SystemText}
use Rattle.og_front.specs.Files.{IsAccepted, IsRefused}
use Rattle.og_judge.specs.Judging.{SourceFile, Class, Data, Names, States, Limits, EachKeeps, FirstBreaks, IsLexed, BreaksLexis, AreOwnModules, LacksSyntax, IsParsed, BreaksSyntax, AreModulesOf, HasForm, LacksForm, IsBuilt, BreaksForms, HasOneProcess, AreTextOf, violations_in, TreeKeeps, TreeBreaks, DataKeeps, DataBreaks, AreAccepted, IsFirstViolation, KeepAll, IsFirstAmong}
use Rattle.og_judge.proofs.EachText.{each_tokens}
use Rattle.og_judge.proofs.Judgements.{ApartIn}

-- what the laws of texts say
abbrev pub EachTextIn : Language → Type 0
EachTextIn language = (file : ℕ) (bytes : List ℕ) → IsTextIn language file bytes ⊎ IsBrokenIn language file bytes

pub record EachLaws : Type 0 where
  pub texts : EachTextIn Sdl
  pub apart : ApartIn Sdl
  pub asn_texts : EachTextIn Asn
  pub files : (file : ℕ) (bytes : List ℕ) → IsAccepted file bytes ⊎ IsRefused file bytes

-- each file keeps something, or a first one breaks it, where each keeps what comes before
each_or_first : (Before Holds : ℕ → SourceFile → Type 0) (Breaks : Violation → ℕ → SourceFile → Type 0) → ((number : ℕ) (file : SourceFile) → Before number file → Holds number file ⊎ ((v : Violation) × Breaks v number file))
    → (number : ℕ) (files : List SourceFile) → EachKeeps Before number files → EachKeeps Holds number files ⊎ ((v : Violation) × FirstBreaks Holds (Breaks v) number files)
each_or_first Before Holds Breaks decides number [] before = inl tt
each_or_first Before Holds Breaks decides number (file ∷ files) before = by (decides number file before.0) (each_or_first Before Holds Breaks decides (number + 1) files before.1)
  where
    by : Holds number file ⊎ ((v : Violation) × Breaks v number file) → EachKeeps Holds (number + 1) files ⊎ ((v : Violation) × FirstBreaks Holds (Breaks v) (number + 1) files)
        → EachKeeps Holds number (file ∷ files) ⊎ ((v : Violation) × FirstBreaks Holds (Breaks v) number (file ∷ files))
    by (inl holds) (inl all) = inl (holds, all)
    by (inl holds) (inr first) = inr (first.0, inr (holds, first.1))
    by (inr breaks) later = inr (breaks.0, inl breaks.1)

abbrev Anything : ℕ → SourceFile → Type 0
Anything number file = Unit {0}

each_anything : (number : ℕ) (files : List SourceFile) → EachKeeps Anything number files
each_anything number [] = tt
each_anything number (file ∷ files) = (tt, each_anything (number + 1) files)

-- ---- tokens

lexis_in : EachLaws → (language : Language) → EachTextIn language
lexis_in laws Sdl = laws.texts
lexis_in laws Asn = laws.asn_texts

-- ---- modules

syntax_in : (language : Language) (number : ℕ) (bytes : List ℕ) → IsTextIn language number bytes
    → ((modules : List ModuleTree) × AreOwnModules language number bytes modules) ⊎ ((v : Violation) × LacksSyntax language number bytes v)
syntax_in Sdl number bytes text = inl ([], refl)
syntax_in Asn number bytes text = by (each_tokens text.0 (lexes-ends Asn number bytes text.0 text.1.0 text.1.1))
  where
    by : ((modules : List ModuleTree) × AreModules modules text.0) ⊎ ((v : Violation) × FirstSyntactic text.0 v)
        → ((modules : List ModuleTree) × AreOwnModules Asn number bytes modules) ⊎ ((v : Violation) × LacksSyntax Asn number bytes v)
    by (inl are) = inl (are.0, record { tokens = text.0; comments = text.1.0; lexes = text.1.1; are = are.1 })
    by (inr first) = inr (first.0, record { tokens = text.0; comments = text.1.0; lexes = text.1.1; first = first.1 })

all_modules : (number : ℕ) (files : List SourceFile) → EachKeeps IsParsed number files → (modules : List ModuleTree) × AreModulesOf number files modules
all_modules number [] each = ([], refl)
all_modules number (file ∷ files) each =
    let more = all_modules (number + 1) files each.1 in
    (each.0.0 ++ more.0, (each.0.0, more.0, each.0.1, more.1, refl))

-- ---- forms

form_in : EachLaws → (language : Language) (number : ℕ) (bytes : List ℕ) → IsTextIn language number bytes → HasForm language number bytes ⊎ ((v : Violation) × LacksForm language number bytes v)
form_in laws Asn number bytes text = inl tt
form_in laws Sdl number bytes text = by (laws.files number bytes)
  where
    by : IsAccepted number bytes ⊎ IsRefused number bytes → HasForm Sdl number bytes ⊎ ((v : Violation) × LacksForm Sdl number bytes v)
    by (inl accepted) = inl (accepted.system, accepted.accepts.text)
    by (inr (v, inl lexical)) = absurd (laws.apart number bytes text.0 text.1.0 v text.1.1 lexical)
    by (inr (v, inr (inl grammar))) = inr (v, grammar)
    by (inr (v, inr (inr rule))) = inl (rule.system, rule.text)

the_tree : (number : ℕ) (files : List SourceFile) → HasOneProcess files → EachKeeps IsBuilt number files → (system : SystemText) × AreTextOf system number files
the_tree number [] one each = absurd one
the_tree number (file ∷ files) (inl one) each =
    let P : Language → Type 0 = λ language. HasForm language number file.bytes in
    let tree = subst P one.0 each.0 in
    (tree.0, inl (one.0, tree.1, one.1))
the_tree number (file ∷ files) (inr one) each = let tree = the_tree (number + 1) files one.1 each.1 in (tree.0, inr (one.0, tree.1))

-- ---- classes of the tree, and that of names in modules

by_class : (class : Class) (files : List SourceFile) (system : SystemText) → AreTextOf system 0 files → TreeKeeps class files ⊎ ((v : Violation) × TreeBreaks class files v)
by_class class files system text = by (first_of (violations_in class system)) refl
  where
    by : (first : Option Violation) → first_of (violations_in class system) ≡ first → TreeKeeps class files ⊎ ((v : Violation) × TreeBreaks class files v)
    by None e = inl (record { system = system; text = text; none = e })
    by (Some v) e = inr (v, record { system = system; text = text; first = e })

by_data : (files : List SourceFile) (modules : List ModuleTree) → AreModulesOf 0 files modules → DataKeeps files ⊎ ((v : Violation) × DataBreaks files v)
by_data files modules are = by (first_violation modules) refl
  where
    by : (first : Option Violation) → first_violation modules ≡ first → DataKeeps files ⊎ ((v : Violation) × DataBreaks files v)
    by None e = inl (record { modules = modules; are = are; none = e })
    by (Some v) e = inr (v, record { modules = modules; are = are; first = e })

-- one class more in front
class_more : {Keeps : Type 0} {Breaks : Violation → Type 0} {All : Type 0} {Among : Violation → Type 0} → Keeps ⊎ ((v : Violation) × Breaks v) → (Keeps → All ⊎ ((v : Violation) × Among v))
    → (Keeps × All) ⊎ ((v : Violation) × (Breaks v ⊎ (Keeps × Among v)))
class_more {Keeps = Keeps} {Breaks = Breaks} {All = All} {Among = Among} (inl keeps) later = by (later keeps)
  where
    by : All ⊎ ((v : Violation) × Among v) → (Keeps × All) ⊎ ((v : Violation) × (Breaks v ⊎ (Keeps × Among v)))
    by (inl all) = inl (keeps, all)
    by (inr first) = inr (first.0, inr (keeps, first.1))
class_more (inr breaks) later = inr (breaks.0, inl breaks.1)

none_left : Unit {0} ⊎ ((v : Violation) × ⊥)
none_left = inl tt

pub each_list : EachLaws → (files : List SourceFile) → HasOneProcess files → AreAccepted files ⊎ ((v : Violation) × IsFirstViolation files v)
each_list laws files one =
    class_more (each_or_first Anything IsLexed BreaksLexis (λ number file before. lexis_in laws file.language number file.bytes) 0 files (each_anything 0 files))
    (λ lexed. class_more (each_or_first IsLexed IsParsed BreaksSyntax (λ number file text. syntax_in file.language number file.bytes text) 0 files lexed)
    (λ parsed. class_more (each_or_first IsLexed IsBuilt BreaksForms (λ number file text. form_in laws file.language number file.bytes text) 0 files lexed)
    (λ built.
    let modules = all_modules 0 files parsed in
    let tree = the_tree 0 files one built in
    class_more (by_data files modules.0 modules.1)
    (λ named. class_more (by_class Names files tree.0 tree.1)
    (λ names. class_more (by_class States files tree.0 tree.1) (λ states. class_more (by_class Limits files tree.0 tree.1) (λ limits. none_left)))))))
