-- What the parts of the judgement answer.
use Rattle.std.specs.Prelude.{◌≡◌, ◌⊎◌, ℕ, ◌+◌, List, [], ◌∷◌, Some, None}
use Rattle.og_base.specs.declared.ModelError.{ModelError}
use Rattle.og_base.specs.declared.ModelError.TheVariants.{Broken, NoMemory}
use Rattle.og_base.specs.declared.Violation.{Violation}
use Rattle.og_front.specs.declared.syntax.SystemText.{SystemText}
use Rattle.og_front.specs.ModelOf.{model_of_tree}
use Rattle.og_front.specs.Names.{HasShortNames}
use Rattle.og_front.specs.Rules.{first_of_rules}
use Rattle.og_front.specs.Written.{IsWrittenTree}
use Rattle.og_front.specs.Grammar.{Spells}
use Rattle.og_asn1.specs.declared.syntax.ModuleTree.{ModuleTree}
use Rattle.og_asn1.specs.Grammar.{AreModules, Refuses as RefusesModules}
use Rattle.og_dataview.specs.Violations.{first_violation}
use Rattle.og_base.specs.declared.Rule.TheVariants.{F1}
use Rattle.og_lexer.specs.declared.Language.{Language}
use Rattle.og_lexer.specs.declared.Language.TheVariants.{Sdl, Asn}
use Rattle.og_lexer.specs.declared.Spanned.{Spanned}
use Rattle.og_lexer.specs.declared.Lexed.{Lexed}
use Rattle.og_lexer.specs.Texts.{LexesIn, AreInPlaceIn, EndsOnce}
use Rattle.og_model.specs.declared.Model.{Model}
use Rattle.og_judge.specs.Judging.{SourceFile, IsLexed, BreaksLexis, IsParsed, BreaksSyntax, IsBuilt, BreaksForms, FirstBreaks, EachKeeps, AreTextOf, IsFirstViolation, HaveModel}
use Rattle.og_judge.specs.Ready.{CanRun}

-- the files are accepted, and this is their model
pub record IsJudged (files : List SourceFile) (model : Model) : Type 0 where
  pub have : HaveModel files model
  pub can : CanRun model

-- why there is no model: the first violation of the files, or want of memory
abbrev pub Refuses : List SourceFile → ModelError → Type 0
Refuses files (Broken v) = IsFirstViolation files v
Refuses files (NoMemory met) = Unit {0}

-- ---- tokens

-- these are the tokens and comments of the bytes, each in its place
pub record HasTokens (language : Language) (number : ℕ) (bytes : List ℕ) (lexed : Lexed) : Type 0 where
  pub lexes : LexesIn language number bytes lexed.tokens lexed.comments
  pub placed : AreInPlaceIn language number bytes 0 lexed.tokens
  pub ends : EndsOnce lexed.tokens

-- these are the tokens of the files, file by file
abbrev pub AreLexed : ℕ → List SourceFile → List Lexed → Type 0
AreLexed number [] [] = Unit {0}
AreLexed number [] (text ∷ texts) = ⊥
AreLexed number (file ∷ files) [] = ⊥
AreLexed number (file ∷ files) (text ∷ texts) = HasTokens file.language number file.bytes text × AreLexed (number + 1) files texts

abbrev pub BreakLexis : List SourceFile → ModelError → Type 0
BreakLexis files (Broken v) = FirstBreaks IsLexed (BreaksLexis v) 0 files
BreakLexis files (NoMemory met) = Unit {0}

-- ---- trees

abbrev pub IsMemory : ModelError → Type 0
IsMemory (Broken v) = ⊥
IsMemory (NoMemory met) = Unit {0}

abbrev pub BreakSyntax : List SourceFile → ModelError → Type 0
BreakSyntax files (Broken v) = FirstBreaks IsParsed (BreaksSyntax v) 0 files
BreakSyntax files (NoMemory met) = Unit {0}

-- tokens of SDL/PR are no text of a tree, which is said at the first of them
abbrev pub IsNoText : List Spanned → ModelError → Type 0
IsNoText tokens (Broken v) =
    (first : Spanned) × (more : List Spanned) × (tokens ≡ first ∷ more) × ((system : SystemText) → Spells system tokens → ⊥) × (v ≡ record { rule = F1; place = first.place })
IsNoText tokens (NoMemory met) = Unit {0}

-- these are the modules of the tokens of a file
abbrev pub AreModulesIn : Language → List Spanned → List ModuleTree → Type 0
AreModulesIn Sdl tokens modules = modules ≡ []
AreModulesIn Asn tokens modules = AreModules modules tokens

abbrev pub AreNoModules : Language → List Spanned → ModelError → Type 0
AreNoModules Sdl tokens error = IsMemory error
AreNoModules Asn tokens error = RefusesModules tokens error

-- the tree of the files, and what trees of texts keep
pub record IsTreeOf (files : List SourceFile) (system : SystemText) : Type 0 where
  pub each : EachKeeps IsBuilt 0 files
  pub text : AreTextOf system 0 files
  pub short : HasShortNames system
  pub written : IsWrittenTree system

abbrev pub BreakForms : List SourceFile → ModelError → Type 0
BreakForms files (Broken v) = FirstBreaks IsBuilt (BreaksForms v) 0 files
BreakForms files (NoMemory met) = Unit {0}

-- ---- rules on the tree

-- the tree keeps the rules, and this is its model
pub record IsBuiltFrom (system : SystemText) (model : Model) : Type 0 where
  pub keeps : first_of_rules system ≡ None
  pub is : model ≡ model_of_tree system
  pub can : CanRun model

-- the error is the first violation of the rules on names, states and limits, or want of memory
abbrev pub IsFirstOfRules : SystemText → ModelError → Type 0
IsFirstOfRules system (Broken v) = first_of_rules system ≡ Some v
IsFirstOfRules system (NoMemory met) = Unit {0}

-- ---- rules on names in modules, and then those on the tree

-- both keep their rules, and this is the model of the tree
pub record IsNamed (modules : List ModuleTree) (system : SystemText) (model : Model) : Type 0 where
  pub none : first_violation modules ≡ None
  pub built : IsBuiltFrom system model

abbrev pub BreakNames : List ModuleTree → SystemText → ModelError → Type 0
BreakNames modules system (Broken v) = (first_violation modules ≡ Some v) ⊎ ((first_violation modules ≡ None) × (first_of_rules system ≡ Some v))
BreakNames modules system (NoMemory met) = Unit {0}
