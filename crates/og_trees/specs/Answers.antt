-- What the steps on the way to the trees answer.
use Rattle.std.specs.Prelude.{◌≡◌, ℕ, ◌+◌, List, [], ◌∷◌}
use Rattle.og_base.specs.declared.ModelError.{ModelError}
use Rattle.og_lexer.specs.declared.Language.{Language}
use Rattle.og_lexer.specs.declared.Language.TheVariants.{Sdl, Asn}
use Rattle.og_lexer.specs.declared.Spanned.{Spanned}
use Rattle.og_lexer.specs.declared.Lexed.{Lexed}
use Rattle.og_lexer.specs.Texts.{LexesIn, EndsOnce}
use Rattle.og_asn1.specs.Grammar.{AreModules, Refuses as RefusesModules}
use Rattle.og_sdl.specs.declared.table.TheConstants.{SDL}
use Rattle.og_reading.specs.Sentences.{Refuses}
use Rattle.og_parse.specs.Grammar.{IsFile, AreUnits}
use Rattle.og_trees.specs.declared.Trees.{Trees}
use Rattle.og_trees.specs.Reading.{SourceFile}

-- ---- tokens

-- these are the tokens and comments of the bytes
pub record HasTokens (language : Language) (number : ℕ) (bytes : List ℕ) (lexed : Lexed) : Type 0 where
  pub lexes : LexesIn language number bytes lexed.tokens lexed.comments
  pub ends : EndsOnce lexed.tokens

-- these are the tokens of the files, file by file
abbrev pub AreLexed : ℕ → List SourceFile → List Lexed → Type 0
AreLexed number [] [] = Unit {0}
AreLexed number [] (text ∷ texts) = ⊥
AreLexed number (file ∷ files) [] = ⊥
AreLexed number (file ∷ files) (text ∷ texts) = HasTokens file.language number file.bytes text × AreLexed (number + 1) files texts

-- ---- trees

-- these are the trees of the tokens of a file
abbrev pub AreTreesIn : Language → List Spanned → Trees → Type 0
AreTreesIn Sdl tokens trees = AreUnits trees.units tokens × (trees.modules ≡ [])
AreTreesIn Asn tokens trees = AreModules trees.modules tokens × (trees.units ≡ [])

-- why the tokens of a file have no trees
abbrev pub AreNoTrees : Language → List Spanned → ModelError → Type 0
AreNoTrees Sdl tokens error = Refuses SDL IsFile tokens error
AreNoTrees Asn tokens error = RefusesModules tokens error
