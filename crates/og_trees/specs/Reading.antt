-- Model files of both languages, each with its bytes and numbered from 0 in the order in which they are given, as trees: a file of
-- SDL/PR has units (Z.106), and a file of ASN.1 has modules (X.680). The trees of all files are those of each file, one behind the
-- other. The rules on tokens (class L) come before those on syntax (class S), each class over all files, file after file: that of
-- syntax is looked at only where all files keep that of tokens, so the violation that is reported is the first one of the first file
-- that breaks the first class that is not kept. The order of the two classes is this project's own.
use Rattle.std.specs.Prelude.{◌≡◌, ◌⊎◌, ℕ, ◌+◌, ◌<◌, ◌-◌, ◌^◌, List, [], ◌∷◌, ◌++◌, length, map}
use Rattle.std.specs.List.{AllByRecursion}
use Rattle.og_base.specs.declared.ModelError.{ModelError}
use Rattle.og_base.specs.declared.ModelError.TheVariants.{Broken, NoMemory}
use Rattle.og_base.specs.declared.Violation.{Violation}
use Rattle.og_lexer.specs.declared.Language.{Language}
use Rattle.og_lexer.specs.declared.Language.TheVariants.{Sdl, Asn}
use Rattle.og_lexer.specs.declared.Spanned.{Spanned}
use Rattle.og_lexer.specs.declared.Comment.{Comment}
use Rattle.og_lexer.specs.Texts.{LexesIn, FirstLexicalIn, IsTextIn}
use Rattle.og_asn1.specs.declared.syntax.ModuleTree.{ModuleTree}
use Rattle.og_asn1.specs.Grammar.{AreModules, FirstSyntactic as FirstInModules}
use Rattle.og_ast.specs.declared.system.Unit.{Unit as UnitTree}
use Rattle.og_sdl.specs.declared.table.TheConstants.{SDL}
use Rattle.og_reading.specs.Sentences.{FirstSyntactic}
use Rattle.og_parse.specs.Grammar.{AreUnits}
use Rattle.og_trees.specs.declared.ModelFile.{ModelFile}
use Rattle.og_trees.specs.declared.Trees.{Trees}

-- a model file: its language, and its bytes
pub record SourceFile : Type 0 where
  pub language : Language
  pub bytes : List ℕ

-- the model files as the code holds them
abbrev pub source : ModelFile → SourceFile
source file = record { language = file.language; bytes = file.bytes.items }

abbrev pub sources : List ModelFile → List SourceFile
sources files = map source files

-- the most model files
abbrev pub most_files : ℕ
most_files = 64

-- each of the files is so short that its bytes can be numbered
abbrev pub AreShort : List SourceFile → Type 0
AreShort files = AllByRecursion (λ file. length file.bytes < 2 ^ 32 - 1) files

-- ---- file by file

-- each file keeps something, the first of them with this number
abbrev pub EachKeeps : (ℕ → SourceFile → Type 0) → ℕ → List SourceFile → Type 0
EachKeeps Holds number [] = Unit {0}
EachKeeps Holds number (file ∷ files) = Holds number file × EachKeeps Holds (number + 1) files

-- the first file that does not keep it breaks it
abbrev pub FirstBreaks : (Holds Breaks : ℕ → SourceFile → Type 0) → ℕ → List SourceFile → Type 0
FirstBreaks Holds Breaks number [] = ⊥
FirstBreaks Holds Breaks number (file ∷ files) = Breaks number file ⊎ (Holds number file × FirstBreaks Holds Breaks (number + 1) files)

-- all are what the files have of their own, in the order of the files
abbrev pub AreGathered : {X : Type 0} → (ℕ → SourceFile → List X → Type 0) → ℕ → List SourceFile → List X → Type 0
AreGathered Own number [] all = all ≡ []
AreGathered {X = X} Own number (file ∷ files) all = (own : List X) × (more : List X) × Own number file own × AreGathered Own (number + 1) files more × (all ≡ own ++ more)

-- ---- tokens

-- the file lexes
abbrev pub IsLexed : ℕ → SourceFile → Type 0
IsLexed number file = IsTextIn file.language number file.bytes

-- its first violation
abbrev pub BreaksLexis : Violation → ℕ → SourceFile → Type 0
BreaksLexis v number file = FirstLexicalIn file.language number file.bytes v

-- ---- trees of one file

-- the bytes of the file with this number lex to tokens that are those of these trees
pub record IsTextOf {X : Type 0} (language : Language) (Are : List X → List Spanned → Type 0) (number : ℕ) (bytes : List ℕ) (trees : List X) : Type 0 where
  pub tokens : List Spanned
  pub comments : List Comment
  pub lexes : LexesIn language number bytes tokens comments
  pub are : Are trees tokens

-- they lex to tokens that have this first violation of a grammar
pub record BreaksGrammar (language : Language) (Breaks : List Spanned → Violation → Type 0) (number : ℕ) (bytes : List ℕ) (v : Violation) : Type 0 where
  pub tokens : List Spanned
  pub comments : List Comment
  pub lexes : LexesIn language number bytes tokens comments
  pub first : Breaks tokens v

-- the bytes are a text of SDL/PR, with these units
abbrev pub IsTextOfUnits : ℕ → List ℕ → List UnitTree → Type 0
IsTextOfUnits number bytes units = IsTextOf Sdl AreUnits number bytes units

-- the bytes are a text of ASN.1, with these modules
abbrev pub IsTextOfModules : ℕ → List ℕ → List ModuleTree → Type 0
IsTextOfModules number bytes modules = IsTextOf Asn AreModules number bytes modules

-- what a file is where it keeps the rules on syntax: units in SDL/PR, modules in ASN.1
abbrev pub HasTrees : Language → ℕ → List ℕ → Type 0
HasTrees Sdl number bytes = (units : List UnitTree) × IsTextOfUnits number bytes units
HasTrees Asn number bytes = (modules : List ModuleTree) × IsTextOfModules number bytes modules

-- the first violation of the rules on syntax in a file that lexes
abbrev pub LacksTrees : Language → ℕ → List ℕ → Violation → Type 0
LacksTrees Sdl number bytes v = BreaksGrammar Sdl (FirstSyntactic SDL) number bytes v
LacksTrees Asn number bytes v = BreaksGrammar Asn FirstInModules number bytes v

abbrev pub IsParsed : ℕ → SourceFile → Type 0
IsParsed number file = HasTrees file.language number file.bytes

abbrev pub BreaksSyntax : Violation → ℕ → SourceFile → Type 0
BreaksSyntax v number file = LacksTrees file.language number file.bytes v

-- these are the units of a file: one of ASN.1 has none
abbrev pub AreOwnUnits : Language → ℕ → List ℕ → List UnitTree → Type 0
AreOwnUnits Sdl number bytes units = IsTextOfUnits number bytes units
AreOwnUnits Asn number bytes units = units ≡ []

-- these are the modules of a file: one of SDL/PR has none
abbrev pub AreOwnModules : Language → ℕ → List ℕ → List ModuleTree → Type 0
AreOwnModules Sdl number bytes modules = modules ≡ []
AreOwnModules Asn number bytes modules = IsTextOfModules number bytes modules

-- ---- trees of all files

-- these are the units of all files, in the order of the files
abbrev pub AreUnitsOf : ℕ → List SourceFile → List UnitTree → Type 0
AreUnitsOf number files units = AreGathered (λ n file own. AreOwnUnits file.language n file.bytes own) number files units

-- these are the modules of all files, in the order of the files
abbrev pub AreModulesOf : ℕ → List SourceFile → List ModuleTree → Type 0
AreModulesOf number files modules = AreGathered (λ n file own. AreOwnModules file.language n file.bytes own) number files modules

-- the files violate no rule on tokens and none on syntax
pub record AreRead (files : List SourceFile) : Type 0 where
  pub lexed : EachKeeps IsLexed 0 files
  pub parsed : EachKeeps IsParsed 0 files

-- and these are their trees
pub record AreTreesOf (files : List SourceFile) (trees : Trees) : Type 0 where
  pub read : AreRead files
  pub modules : AreModulesOf 0 files trees.modules
  pub units : AreUnitsOf 0 files trees.units

-- the violation that is reported of the files: the first on tokens, and where there is none the first on syntax
abbrev pub IsFirstViolation : List SourceFile → Violation → Type 0
IsFirstViolation files v = FirstBreaks IsLexed (BreaksLexis v) 0 files ⊎ (EachKeeps IsLexed 0 files × FirstBreaks IsParsed (BreaksSyntax v) 0 files)

-- why there are no trees: the first violation of the files, or want of memory
abbrev pub BreakTrees : List SourceFile → ModelError → Type 0
BreakTrees files (Broken v) = IsFirstViolation files v
BreakTrees files (NoMemory met) = Unit {0}
