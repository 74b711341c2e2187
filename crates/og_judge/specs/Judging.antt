-- What the rules say of the model files of a command, each with its language and its bytes, numbered from 0 in the order of the
-- words. The rules stand in classes, and a class is looked at only where those before it are kept. Files that keep all classes are
-- accepted, and have one model; other files have a first violation: the first of the first class that is not kept, which is the
-- one with the least place (by file, line and column), and of two at one place the one whose rule comes first in the table
-- (Z.101 section 6.1 for the tokens, 6.3 for names; Z.102 for states; X.680 for ASN.1).
use Rattle.std.specs.Prelude.{◌≡◌, ◌⊎◌, ℕ, ◌+◌, ◌<◌, ◌-◌, ◌^◌, List, [], ◌∷◌, ◌++◌, length, map, Some, None}
use Rattle.std.specs.List.{AllByRecursion}
use Rattle.og_base.specs.declared.Violation.{Violation}
use Rattle.og_base.specs.Order.{first_of}
use Rattle.og_lexer.specs.declared.Language.{Language}
use Rattle.og_lexer.specs.declared.Language.TheVariants.{Sdl, Asn}
use Rattle.og_lexer.specs.declared.Spanned.{Spanned}
use Rattle.og_lexer.specs.declared.Comment.{Comment}
use Rattle.og_lexer.specs.Texts.{LexesIn, FirstLexicalIn, IsTextIn}
use Rattle.og_asn1.specs.declared.syntax.ModuleTree.{ModuleTree}
use Rattle.og_asn1.specs.Grammar.{AreModules, FirstSyntactic}
use Rattle.og_dataview.specs.Violations.{first_violation}
use Rattle.og_front.specs.declared.syntax.SystemText.{SystemText}
use Rattle.og_front.specs.Files.{IsTextOf, BreaksGrammar}
use Rattle.og_front.specs.ModelOf.{model_of_tree}
use Rattle.og_front.specs.Rules.{tables_of, name_violations, repeated_handlers, limit_violations}
use Rattle.og_model.specs.declared.Model.{Model}
use Rattle.og_judge.specs.declared.ModelFile.{ModelFile}

-- a model file: its language, and its bytes
pub record SourceFile : Type 0 where
  pub language : Language
  pub bytes : List ℕ

-- the model files as the code holds them
abbrev pub source : ModelFile → SourceFile
source file = record { language = file.language; bytes = file.bytes.items }

abbrev pub sources : List ModelFile → List SourceFile
sources files = map source files

-- The classes of rules that are built: L, S in files of ASN.1, F, N in files of ASN.1, N in files of SDL/PR, A and M. The other ones
-- stand between these: S in files of SDL/PR before F, T and G after the names.
pub data Class : Type 0 where
  Lexical : Class
  Syntactic : Class
  Forms : Class
  Data : Class
  Names : Class
  States : Class
  Limits : Class

-- in the order in which they are looked at
abbrev pub classes : List Class
classes = Lexical ∷ Syntactic ∷ Forms ∷ Data ∷ Names ∷ States ∷ Limits ∷ []

-- ---- file by file

-- each file keeps something, the first of them with this number
abbrev pub EachKeeps : (ℕ → SourceFile → Type 0) → ℕ → List SourceFile → Type 0
EachKeeps Holds number [] = Unit {0}
EachKeeps Holds number (file ∷ files) = Holds number file × EachKeeps Holds (number + 1) files

-- the first file that does not keep it breaks it
abbrev pub FirstBreaks : (Holds Breaks : ℕ → SourceFile → Type 0) → ℕ → List SourceFile → Type 0
FirstBreaks Holds Breaks number [] = ⊥
FirstBreaks Holds Breaks number (file ∷ files) = Breaks number file ⊎ (Holds number file × FirstBreaks Holds Breaks (number + 1) files)

-- ---- tokens

-- the file lexes
abbrev pub IsLexed : ℕ → SourceFile → Type 0
IsLexed number file = IsTextIn file.language number file.bytes

-- its first violation
abbrev pub BreaksLexis : Violation → ℕ → SourceFile → Type 0
BreaksLexis v number file = FirstLexicalIn file.language number file.bytes v

-- ---- modules

-- the bytes of the file with this number are a text of these modules
pub record IsTextOfModules (number : ℕ) (modules : List ModuleTree) (bytes : List ℕ) : Type 0 where
  pub tokens : List Spanned
  pub comments : List Comment
  pub lexes : LexesIn Asn number bytes tokens comments
  pub are : AreModules modules tokens

-- they lex, and the tokens have this first violation of the grammar of modules
pub record BreaksModules (number : ℕ) (bytes : List ℕ) (v : Violation) : Type 0 where
  pub tokens : List Spanned
  pub comments : List Comment
  pub lexes : LexesIn Asn number bytes tokens comments
  pub first : FirstSyntactic tokens v

-- these are the modules of a file: one of SDL/PR has none
abbrev pub AreOwnModules : Language → ℕ → List ℕ → List ModuleTree → Type 0
AreOwnModules Sdl number bytes modules = modules ≡ []
AreOwnModules Asn number bytes modules = IsTextOfModules number modules bytes

abbrev pub LacksSyntax : Language → ℕ → List ℕ → Violation → Type 0
LacksSyntax Sdl number bytes v = ⊥
LacksSyntax Asn number bytes v = BreaksModules number bytes v

-- a file of ASN.1 is one of modules
abbrev pub IsParsed : ℕ → SourceFile → Type 0
IsParsed number file = (modules : List ModuleTree) × AreOwnModules file.language number file.bytes modules

abbrev pub BreaksSyntax : Violation → ℕ → SourceFile → Type 0
BreaksSyntax v number file = LacksSyntax file.language number file.bytes v

-- these are the modules of all files, in the order of the files
abbrev pub AreModulesOf : ℕ → List SourceFile → List ModuleTree → Type 0
AreModulesOf number [] all = all ≡ []
AreModulesOf number (file ∷ files) all =
    (own : List ModuleTree) × (more : List ModuleTree) × AreOwnModules file.language number file.bytes own × AreModulesOf (number + 1) files more × (all ≡ own ++ more)

-- ---- the tree of the files

abbrev pub HasForm : Language → ℕ → List ℕ → Type 0
HasForm Sdl number bytes = (system : SystemText) × IsTextOf number system bytes
HasForm Asn number bytes = Unit {0}

abbrev pub LacksForm : Language → ℕ → List ℕ → Violation → Type 0
LacksForm Sdl number bytes v = BreaksGrammar number bytes v
LacksForm Asn number bytes v = ⊥

-- a file of SDL/PR is a text of a tree
abbrev pub IsBuilt : ℕ → SourceFile → Type 0
IsBuilt number file = HasForm file.language number file.bytes

-- it lexes to tokens that are no text of a tree, and this is said at the first of them
abbrev pub BreaksForms : Violation → ℕ → SourceFile → Type 0
BreaksForms v number file = LacksForm file.language number file.bytes v

-- all of them are of ASN.1
abbrev pub AreAsn : List SourceFile → Type 0
AreAsn files = AllByRecursion (λ file. file.language ≡ Asn) files

-- one of them is of SDL/PR, and the others are of ASN.1
abbrev pub HasOneProcess : List SourceFile → Type 0
HasOneProcess [] = ⊥
HasOneProcess (file ∷ files) = ((file.language ≡ Sdl) × AreAsn files) ⊎ ((file.language ≡ Asn) × HasOneProcess files)

-- the one file of SDL/PR among them is a text of this tree
abbrev pub AreTextOf : SystemText → ℕ → List SourceFile → Type 0
AreTextOf system number [] = ⊥
AreTextOf system number (file ∷ files) =
    ((file.language ≡ Sdl) × IsTextOf number system file.bytes × AreAsn files)
    ⊎ ((file.language ≡ Asn) × AreTextOf system (number + 1) files)

-- the violations in a tree of the rules of a class that speaks of trees
abbrev pub violations_in : Class → SystemText → List Violation
violations_in Names system = name_violations (tables_of system) system
violations_in States system = repeated_handlers (tables_of system) system
violations_in Limits system = limit_violations (tables_of system) system
violations_in _ system = []

-- ---- classes

-- the modules of all files together violate no rule on names
pub record DataKeeps (files : List SourceFile) : Type 0 where
  pub modules : List ModuleTree
  pub are : AreModulesOf 0 files modules
  pub none : first_violation modules ≡ None

-- the first violation of the rules on names in the modules of all files together
pub record DataBreaks (files : List SourceFile) (v : Violation) : Type 0 where
  pub modules : List ModuleTree
  pub are : AreModulesOf 0 files modules
  pub first : first_violation modules ≡ Some v

-- the tree of the files violates no rule of the class
pub record TreeKeeps (class : Class) (files : List SourceFile) : Type 0 where
  pub system : SystemText
  pub text : AreTextOf system 0 files
  pub none : first_of (violations_in class system) ≡ None

-- the first violation of the class in the tree of the files
pub record TreeBreaks (class : Class) (files : List SourceFile) (v : Violation) : Type 0 where
  pub system : SystemText
  pub text : AreTextOf system 0 files
  pub first : first_of (violations_in class system) ≡ Some v

-- the files violate no rule of the class
abbrev pub Keeps : Class → List SourceFile → Type 0
Keeps Lexical files = EachKeeps IsLexed 0 files
Keeps Syntactic files = EachKeeps IsParsed 0 files
Keeps Forms files = EachKeeps IsBuilt 0 files
Keeps Data files = DataKeeps files
Keeps Names files = TreeKeeps Names files
Keeps States files = TreeKeeps States files
Keeps Limits files = TreeKeeps Limits files

-- the first violation of the class in the files
abbrev pub IsFirstOf : Class → List SourceFile → Violation → Type 0
IsFirstOf Lexical files v = FirstBreaks IsLexed (BreaksLexis v) 0 files
IsFirstOf Syntactic files v = FirstBreaks IsParsed (BreaksSyntax v) 0 files
IsFirstOf Forms files v = FirstBreaks IsBuilt (BreaksForms v) 0 files
IsFirstOf Data files v = DataBreaks files v
IsFirstOf Names files v = TreeBreaks Names files v
IsFirstOf States files v = TreeBreaks States files v
IsFirstOf Limits files v = TreeBreaks Limits files v

-- no rule of these classes is violated
abbrev pub KeepAll : List Class → List SourceFile → Type 0
KeepAll [] files = Unit {0}
KeepAll (class ∷ more) files = Keeps class files × KeepAll more files

-- the first violation of the first of these classes that is not kept
abbrev pub IsFirstAmong : List Class → List SourceFile → Violation → Type 0
IsFirstAmong [] files v = ⊥
IsFirstAmong (class ∷ more) files v = IsFirstOf class files v ⊎ (Keeps class files × IsFirstAmong more files v)

-- ---- the judgement

-- the files violate no rule
abbrev pub AreAccepted : List SourceFile → Type 0
AreAccepted files = KeepAll classes files

-- the violation that is reported of the files
abbrev pub IsFirstViolation : List SourceFile → Violation → Type 0
IsFirstViolation files v = IsFirstAmong classes files v

-- the files are accepted, and this is their model
pub record HaveModel (files : List SourceFile) (model : Model) : Type 0 where
  pub accepted : AreAccepted files
  pub system : SystemText
  pub text : AreTextOf system 0 files
  pub is : model ≡ model_of_tree system

-- the most model files
abbrev pub most_files : ℕ
most_files = 64

-- each of the files is so short that its bytes can be numbered
abbrev pub AreShort : List SourceFile → Type 0
AreShort files = AllByRecursion (λ file. length file.bytes < 2 ^ 32 - 1) files
