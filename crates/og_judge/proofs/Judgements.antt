-- Files are never both accepted and refused, and have one first violation and one model at most: class by class.
use Rattle.std.proofs.Common.{◌≡◌, ◌∙◌, ℕ, ◌+◌, List, [], ◌∷◌, ◌++◌, Option, Some, None, sym, ap, subst, refl, inl, inr}
use Rattle.std.specs.Prelude.{◌⊎◌}
use Rattle.og_base.specs.declared.Violation.{Violation}
use Rattle.og_base.specs.Order.{first_of}
use Rattle.og_lexer.specs.declared.Language.{Language}
use Rattle.og_lexer.specs.declared.Language.TheVariants.{Sdl, Asn}
use Rattle.og_lexer.specs.declared.Spanned.{Spanned}
use Rattle.og_lexer.specs.declared.Comment.{Comment}
use Rattle.og_lexer.specs.Texts.{LexesIn, FirstLexicalIn, IsTextIn}
use Rattle.og_asn1.specs.declared.syntax.ModuleTree.{ModuleTree}
use Rattle.og_asn1.specs.Grammar.{AreModules, FirstSyntactic}
use Rattle.og_dataview.specs.Violations.{first_violation}
use Rattle.og_front.specs.declared.syntax.SystemText.{SystemText}
use Rattle.og_front.specs.Files.{IsTextOf, BreaksGrammar, IsAccepted, IsRefused, FirstViolation}
use Rattle.og_front.specs.ModelOf.{model_of_tree}
use Rattle.og_front.specs.Rules.{or_else, first_of_rules}
use Rattle.og_front.proofs.OneAnswer.{OneText, OneLexical, Apart, same_system, unspelt, one_first as one_violation_of_text}
use Rattle.og_model.specs.declared.Model.{Model}
use Rattle.og_names.proofs.Truths.{same_value as same_some}
use Rattle.og_judge.specs.Judging.{SourceFile, Class, Lexical, Syntactic, Forms, Data, Names, States, Limits, classes, EachKeeps, FirstBreaks, IsLexed, BreaksLexis, IsTextOfModules, BreaksModules, AreOwnModules, AreModulesOf, LacksSyntax, IsParsed, BreaksSyntax, HasForm, LacksForm, IsBuilt, BreaksForms, AreAsn, AreTextOf, violations_in, DataKeeps, DataBreaks, TreeKeeps, TreeBreaks, Keeps, IsFirstOf, KeepAll, IsFirstAmong, AreAccepted, IsFirstViolation, HaveModel}
use Rattle.og_judge.proofs.OneByOne.{TellsOne, first_apart, one_first}
use Rattle.og_judge.proofs.Syntax.{OneDerivation, one_file, one_syntactic, syntax_apart}

-- what the laws of texts say
abbrev pub OneTextIn : Language → Type 0
OneTextIn language = (file : ℕ) (bytes : List ℕ) (tokens others : List Spanned) (comments more : List Comment) → LexesIn language file bytes tokens comments → LexesIn language file bytes others more
    → (tokens ≡ others) × (comments ≡ more)

abbrev pub OneLexicalIn : Language → Type 0
OneLexicalIn language = (file : ℕ) (bytes : List ℕ) (v w : Violation) → FirstLexicalIn language file bytes v → FirstLexicalIn language file bytes w → v ≡ w

abbrev pub ApartIn : Language → Type 0
ApartIn language = (file : ℕ) (bytes : List ℕ) (tokens : List Spanned) (comments : List Comment) (v : Violation) → LexesIn language file bytes tokens comments → FirstLexicalIn language file bytes v → ⊥

pub record TextLaws : Type 0 where
  pub texts : OneTextIn Sdl
  pub lexicals : OneLexicalIn Sdl
  pub apart : ApartIn Sdl
  pub asn_texts : OneTextIn Asn
  pub asn_lexicals : OneLexicalIn Asn
  pub asn_apart : ApartIn Asn
  pub derivations : OneDerivation

-- ---- tokens

lexical_in : TextLaws → (language : Language) → OneLexicalIn language
lexical_in laws Sdl = laws.lexicals
lexical_in laws Asn = laws.asn_lexicals

apart_in : TextLaws → (language : Language) → ApartIn language
apart_in laws Sdl = laws.apart
apart_in laws Asn = laws.asn_apart

lexis : TextLaws → TellsOne IsLexed BreaksLexis
lexis laws = record {
  apart = λ number file v text first. apart_in laws file.language number file.bytes text.0 text.1.0 v text.1.1 first;
  one = λ number file v w x y. lexical_in laws file.language number file.bytes v w x y;
}

-- ---- modules

modules_apart : TextLaws → (number : ℕ) (bytes : List ℕ) (modules : List ModuleTree) (v : Violation) → IsTextOfModules number modules bytes → BreaksModules number bytes v → ⊥
modules_apart laws number bytes modules v text first =
    let same = (laws.asn_texts number bytes text.tokens first.tokens text.comments first.comments text.lexes first.lexes).0 in
    let P : List Spanned → Type 0 = λ tokens. AreModules modules tokens in
    syntax_apart first.tokens modules v (subst P same text.are) first.first

one_of_modules : TextLaws → (number : ℕ) (bytes : List ℕ) (v w : Violation) → BreaksModules number bytes v → BreaksModules number bytes w → v ≡ w
one_of_modules laws number bytes v w x y =
    let same = (laws.asn_texts number bytes y.tokens x.tokens y.comments x.comments y.lexes x.lexes).0 in
    let P : List Spanned → Type 0 = λ tokens. FirstSyntactic tokens w in
    one_syntactic x.tokens v w x.first (subst P same y.first)

syntax_apart_in : TextLaws → (language : Language) (number : ℕ) (bytes : List ℕ) (modules : List ModuleTree) (v : Violation) → AreOwnModules language number bytes modules → LacksSyntax language number bytes v → ⊥
syntax_apart_in laws Sdl number bytes modules v own lacks = lacks
syntax_apart_in laws Asn number bytes modules v own lacks = modules_apart laws number bytes modules v own lacks

one_syntax_in : TextLaws → (language : Language) (number : ℕ) (bytes : List ℕ) (v w : Violation) → LacksSyntax language number bytes v → LacksSyntax language number bytes w → v ≡ w
one_syntax_in laws Sdl number bytes v w x y = absurd x
one_syntax_in laws Asn number bytes v w x y = one_of_modules laws number bytes v w x y

syntax : TextLaws → TellsOne IsParsed BreaksSyntax
syntax laws = record {
  apart = λ number file v own lacks. syntax_apart_in laws file.language number file.bytes own.0 v own.1 lacks;
  one = λ number file v w x y. one_syntax_in laws file.language number file.bytes v w x y;
}

-- the modules of a file are determined
one_own : TextLaws → (language : Language) (number : ℕ) (bytes : List ℕ) (a b : List ModuleTree) → AreOwnModules language number bytes a → AreOwnModules language number bytes b → a ≡ b
one_own laws Sdl number bytes a b x y = x ∙ sym y
one_own laws Asn number bytes a b x y =
    let same = (laws.asn_texts number bytes y.tokens x.tokens y.comments x.comments y.lexes x.lexes).0 in
    let P : List Spanned → Type 0 = λ tokens. AreModules b tokens in
    one_file laws.derivations x.tokens a b x.are (subst P same y.are)

both_joined : (a b c d : List ModuleTree) → a ≡ c → b ≡ d → a ++ b ≡ c ++ d
both_joined a b c d x y = ap (λ (ms : List ModuleTree). ms ++ b) x ∙ ap (λ (ms : List ModuleTree). c ++ ms) y

-- and those of all files
one_modules : TextLaws → (number : ℕ) (files : List SourceFile) (a b : List ModuleTree) → AreModulesOf number files a → AreModulesOf number files b → a ≡ b
one_modules laws number [] a b x y = x ∙ sym y
one_modules laws number (file ∷ files) a b x y =
    let own = one_own laws file.language number file.bytes x.0 y.0 x.2 y.2 in
    let more = one_modules laws (number + 1) files x.1 y.1 x.3 y.3 in
    x.4 ∙ both_joined x.0 x.1 y.0 y.1 own more ∙ sym y.4

-- ---- names in modules

data_apart : TextLaws → (files : List SourceFile) (v : Violation) → DataKeeps files → DataBreaks files v → ⊥
data_apart laws files v x y =
    let e : None ≡ Some v = sym x.none ∙ ap first_violation (one_modules laws 0 files x.modules y.modules x.are y.are) ∙ y.first in
    cc

one_of_data : TextLaws → (files : List SourceFile) (v w : Violation) → DataBreaks files v → DataBreaks files w → v ≡ w
one_of_data laws files v w x y = same_some v w (sym x.first ∙ ap first_violation (one_modules laws 0 files x.modules y.modules x.are y.are) ∙ y.first)

-- ---- forms

forms_apart_in : TextLaws → (language : Language) (number : ℕ) (bytes : List ℕ) (v : Violation) → HasForm language number bytes → LacksForm language number bytes v → ⊥
forms_apart_in laws Sdl number bytes v has lacks = unspelt laws.texts number bytes v has.0 lacks has.1
forms_apart_in laws Asn number bytes v has lacks = lacks

one_form_in : TextLaws → (language : Language) (number : ℕ) (bytes : List ℕ) (v w : Violation) → LacksForm language number bytes v → LacksForm language number bytes w → v ≡ w
one_form_in laws Sdl number bytes v w x y = one_violation_of_text laws.texts laws.lexicals laws.apart number bytes v w (inr (inl x)) (inr (inl y))
one_form_in laws Asn number bytes v w x y = absurd x

forms : TextLaws → TellsOne IsBuilt BreaksForms
forms laws = record {
  apart = λ number file v has lacks. forms_apart_in laws file.language number file.bytes v has lacks;
  one = λ number file v w x y. one_form_in laws file.language number file.bytes v w x y;
}

-- ---- the tree

two_languages : (language : Language) → language ≡ Sdl → language ≡ Asn → ⊥
two_languages language a b = let h : Sdl ≡ Asn = sym a ∙ b in cc

pub one_tree : TextLaws → (number : ℕ) (files : List SourceFile) (a b : SystemText) → AreTextOf a number files → AreTextOf b number files → a ≡ b
one_tree laws number [] a b x y = absurd x
one_tree laws number (file ∷ files) a b (inl x) (inl y) = same_system laws.texts number file.bytes a b x.1 y.1
one_tree laws number (file ∷ files) a b (inl x) (inr y) = absurd (two_languages file.language x.0 y.0)
one_tree laws number (file ∷ files) a b (inr x) (inl y) = absurd (two_languages file.language y.0 x.0)
one_tree laws number (file ∷ files) a b (inr x) (inr y) = one_tree laws (number + 1) files a b x.1 y.1

tree_apart : TextLaws → (class : Class) (files : List SourceFile) (v : Violation) → TreeKeeps class files → TreeBreaks class files v → ⊥
tree_apart laws class files v x y =
    let same = one_tree laws 0 files x.system y.system x.text y.text in
    let e : None ≡ Some v = sym x.none ∙ ap (λ (system : SystemText). first_of (violations_in class system)) same ∙ y.first in
    cc

one_of_tree : TextLaws → (class : Class) (files : List SourceFile) (v w : Violation) → TreeBreaks class files v → TreeBreaks class files w → v ≡ w
one_of_tree laws class files v w x y =
    let same = one_tree laws 0 files x.system y.system x.text y.text in
    same_some v w (sym x.first ∙ ap (λ (system : SystemText). first_of (violations_in class system)) same ∙ y.first)

-- ---- classes

-- a class that is kept has no first violation
class_apart : TextLaws → (class : Class) (files : List SourceFile) (v : Violation) → Keeps class files → IsFirstOf class files v → ⊥
class_apart laws Lexical files v kept first = first_apart IsLexed (BreaksLexis v) (λ number file. (lexis laws).apart number file v) 0 files kept first
class_apart laws Syntactic files v kept first = first_apart IsParsed (BreaksSyntax v) (λ number file. (syntax laws).apart number file v) 0 files kept first
class_apart laws Forms files v kept first = first_apart IsBuilt (BreaksForms v) (λ number file. (forms laws).apart number file v) 0 files kept first
class_apart laws Data files v kept first = data_apart laws files v kept first
class_apart laws Names files v kept first = tree_apart laws Names files v kept first
class_apart laws States files v kept first = tree_apart laws States files v kept first
class_apart laws Limits files v kept first = tree_apart laws Limits files v kept first

-- a class has one first violation at most
one_of_class : TextLaws → (class : Class) (files : List SourceFile) (v w : Violation) → IsFirstOf class files v → IsFirstOf class files w → v ≡ w
one_of_class laws Lexical files v w x y = one_first IsLexed BreaksLexis (lexis laws) 0 files v w x y
one_of_class laws Syntactic files v w x y = one_first IsParsed BreaksSyntax (syntax laws) 0 files v w x y
one_of_class laws Forms files v w x y = one_first IsBuilt BreaksForms (forms laws) 0 files v w x y
one_of_class laws Data files v w x y = one_of_data laws files v w x y
one_of_class laws Names files v w x y = one_of_tree laws Names files v w x y
one_of_class laws States files v w x y = one_of_tree laws States files v w x y
one_of_class laws Limits files v w x y = one_of_tree laws Limits files v w x y

apart_among : TextLaws → (some : List Class) (files : List SourceFile) (v : Violation) → KeepAll some files → IsFirstAmong some files v → ⊥
apart_among laws [] files v kept first = first
apart_among laws (class ∷ more) files v kept (inl first) = class_apart laws class files v kept.0 first
apart_among laws (class ∷ more) files v kept (inr later) = apart_among laws more files v kept.1 later.1

one_among : TextLaws → (some : List Class) (files : List SourceFile) (v w : Violation) → IsFirstAmong some files v → IsFirstAmong some files w → v ≡ w
one_among laws [] files v w x y = absurd x
one_among laws (class ∷ more) files v w (inl x) (inl y) = one_of_class laws class files v w x y
one_among laws (class ∷ more) files v w (inl x) (inr y) = absurd (class_apart laws class files v y.0 x)
one_among laws (class ∷ more) files v w (inr x) (inl y) = absurd (class_apart laws class files w x.0 y)
one_among laws (class ∷ more) files v w (inr x) (inr y) = one_among laws more files v w x.1 y.1

pub never_both : TextLaws → (files : List SourceFile) (v : Violation) → AreAccepted files → IsFirstViolation files v → ⊥
never_both laws files v accepted first = apart_among laws classes files v accepted first

pub one_violation : TextLaws → (files : List SourceFile) (v w : Violation) → IsFirstViolation files v → IsFirstViolation files w → v ≡ w
one_violation laws files v w x y = one_among laws classes files v w x y

pub one_model : TextLaws → (files : List SourceFile) (M N : Model) → HaveModel files M → HaveModel files N → M ≡ N
one_model laws files M N x y = x.is ∙ ap model_of_tree (one_tree laws 0 files x.system y.system x.text y.text) ∙ sym y.is
