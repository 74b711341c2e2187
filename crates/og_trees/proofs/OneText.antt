-- The bytes of one file, whichever its language: they are a text of trees or have a first violation, and one of these alone.
use Rattle.std.proofs.Common.{◌≡◌, ◌∙◌, ℕ, ◌⊎◌, List, [], inl, inr, refl, sym, subst}
use Rattle.og_base.specs.declared.Violation.{Violation}
use Rattle.og_lexer.specs.declared.Language.{Language}
use Rattle.og_lexer.specs.declared.Language.TheVariants.{Sdl, Asn}
use Rattle.og_lexer.specs.declared.Spanned.{Spanned}
use Rattle.og_lexer.specs.declared.Comment.{Comment}
use Rattle.og_lexer.specs.Texts.{LexesIn, FirstLexicalIn, IsTextIn, IsBrokenIn, EndsOnce}
use Rattle.og_lexer.proofs.Reading.{lexes-ends}
use Rattle.og_asn1.specs.declared.syntax.ModuleTree.{ModuleTree}
use Rattle.og_asn1.specs.Grammar.{AreModules, FirstSyntactic as FirstInModules}
use Rattle.og_ast.specs.declared.system.Unit.{Unit as UnitTree}
use Rattle.og_sdl.specs.declared.table.TheConstants.{SDL}
use Rattle.og_reading.specs.Sentences.{FirstSyntactic}
use Rattle.og_parse.specs.Grammar.{AreUnits}
use Rattle.og_trees.proofs.EachModules.{OneDerivation, each_tokens, one_file, one_violation, not_both}
use Rattle.og_trees.specs.Reading.{IsTextOf, BreaksGrammar, HasTrees, LacksTrees, AreOwnUnits, AreOwnModules}

-- ---- what the laws say

-- of the tokens of a language
pub record TokenLaws (language : Language) : Type 0 where
  pub each : (file : ℕ) (bytes : List ℕ) → IsTextIn language file bytes ⊎ IsBrokenIn language file bytes
  pub texts : (file : ℕ) (bytes : List ℕ) (tokens others : List Spanned) (comments more : List Comment) → LexesIn language file bytes tokens comments → LexesIn language file bytes others more
      → (tokens ≡ others) × (comments ≡ more)
  pub violations : (file : ℕ) (bytes : List ℕ) (v w : Violation) → FirstLexicalIn language file bytes v → FirstLexicalIn language file bytes w → v ≡ w
  pub apart : (file : ℕ) (bytes : List ℕ) (tokens : List Spanned) (comments : List Comment) (v : Violation) → LexesIn language file bytes tokens comments → FirstLexicalIn language file bytes v → ⊥

-- of the trees of a language
pub record TreeLaws {X : Type 0} (Are : List X → List Spanned → Type 0) (Breaks : List Spanned → Violation → Type 0) : Type 0 where
  pub each : (tokens : List Spanned) → EndsOnce tokens → ((trees : List X) × Are trees tokens) ⊎ ((v : Violation) × Breaks tokens v)
  pub trees : (tokens : List Spanned) (a b : List X) → Are a tokens → Are b tokens → a ≡ b
  pub violations : (tokens : List Spanned) (v w : Violation) → Breaks tokens v → Breaks tokens w → v ≡ w
  pub apart : (tokens : List Spanned) (trees : List X) (v : Violation) → Are trees tokens → Breaks tokens v → ⊥

pub record FileLaws : Type 0 where
  pub sdl : TokenLaws Sdl
  pub asn : TokenLaws Asn
  pub units : TreeLaws AreUnits (FirstSyntactic SDL)
  pub modules : TreeLaws AreModules FirstInModules

pub module_laws : OneDerivation → TreeLaws AreModules FirstInModules
module_laws law = record { each = each_tokens; trees = one_file law; violations = one_violation; apart = not_both }

-- ---- tokens

pub token_laws : FileLaws → (language : Language) → TokenLaws language
token_laws laws Sdl = laws.sdl
token_laws laws Asn = laws.asn

-- ---- the trees of a language

module _ {X : Type 0} {Are : List X → List Spanned → Type 0} {Breaks : List Spanned → Violation → Type 0} (language : Language) (lexis : TokenLaws language) (laws : TreeLaws Are Breaks) where
  text_or_broken : (number : ℕ) (bytes : List ℕ) → IsTextIn language number bytes
      → ((trees : List X) × IsTextOf language Are number bytes trees) ⊎ ((v : Violation) × BreaksGrammar language Breaks number bytes v)
  text_or_broken number bytes text = by (laws.each text.0 (lexes-ends language number bytes text.0 text.1.0 text.1.1))
    where
      by : ((trees : List X) × Are trees text.0) ⊎ ((v : Violation) × Breaks text.0 v)
          → ((trees : List X) × IsTextOf language Are number bytes trees) ⊎ ((v : Violation) × BreaksGrammar language Breaks number bytes v)
      by (inl are) = inl (are.0, record { tokens = text.0; comments = text.1.0; lexes = text.1.1; are = are.1 })
      by (inr first) = inr (first.0, record { tokens = text.0; comments = text.1.0; lexes = text.1.1; first = first.1 })

  one_list : (number : ℕ) (bytes : List ℕ) (a b : List X) → IsTextOf language Are number bytes a → IsTextOf language Are number bytes b → a ≡ b
  one_list number bytes a b x y =
      let same = (lexis.texts number bytes y.tokens x.tokens y.comments x.comments y.lexes x.lexes).0 in
      let P : List Spanned → Type 0 = λ tokens. Are b tokens in
      laws.trees x.tokens a b x.are (subst P same y.are)

  one_break : (number : ℕ) (bytes : List ℕ) (v w : Violation) → BreaksGrammar language Breaks number bytes v → BreaksGrammar language Breaks number bytes w → v ≡ w
  one_break number bytes v w x y =
      let same = (lexis.texts number bytes y.tokens x.tokens y.comments x.comments y.lexes x.lexes).0 in
      let P : List Spanned → Type 0 = λ tokens. Breaks tokens w in
      laws.violations x.tokens v w x.first (subst P same y.first)

  not_broken : (number : ℕ) (bytes : List ℕ) (trees : List X) (v : Violation) → IsTextOf language Are number bytes trees → BreaksGrammar language Breaks number bytes v → ⊥
  not_broken number bytes trees v text broken =
      let same = (lexis.texts number bytes text.tokens broken.tokens text.comments broken.comments text.lexes broken.lexes).0 in
      let P : List Spanned → Type 0 = λ tokens. Are trees tokens in
      laws.apart broken.tokens trees v (subst P same text.are) broken.first

-- ---- of a file

pub has_or_lacks : FileLaws → (language : Language) (number : ℕ) (bytes : List ℕ) → IsTextIn language number bytes → HasTrees language number bytes ⊎ ((v : Violation) × LacksTrees language number bytes v)
has_or_lacks laws Sdl number bytes text = text_or_broken Sdl laws.sdl laws.units number bytes text
has_or_lacks laws Asn number bytes text = text_or_broken Asn laws.asn laws.modules number bytes text

pub one_lack : FileLaws → (language : Language) (number : ℕ) (bytes : List ℕ) (v w : Violation) → LacksTrees language number bytes v → LacksTrees language number bytes w → v ≡ w
one_lack laws Sdl number bytes v w x y = one_break Sdl laws.sdl laws.units number bytes v w x y
one_lack laws Asn number bytes v w x y = one_break Asn laws.asn laws.modules number bytes v w x y

pub has_not_lacks : FileLaws → (language : Language) (number : ℕ) (bytes : List ℕ) (v : Violation) → HasTrees language number bytes → LacksTrees language number bytes v → ⊥
has_not_lacks laws Sdl number bytes v has lacks = not_broken Sdl laws.sdl laws.units number bytes has.0 v has.1 lacks
has_not_lacks laws Asn number bytes v has lacks = not_broken Asn laws.asn laws.modules number bytes has.0 v has.1 lacks

-- ---- what a file has of its own

pub own_units : (language : Language) (number : ℕ) (bytes : List ℕ) → HasTrees language number bytes → (own : List UnitTree) × AreOwnUnits language number bytes own
own_units Sdl number bytes has = has
own_units Asn number bytes has = ([], refl)

pub own_modules : (language : Language) (number : ℕ) (bytes : List ℕ) → HasTrees language number bytes → (own : List ModuleTree) × AreOwnModules language number bytes own
own_modules Sdl number bytes has = ([], refl)
own_modules Asn number bytes has = has

pub one_own_units : FileLaws → (language : Language) (number : ℕ) (bytes : List ℕ) (a b : List UnitTree) → AreOwnUnits language number bytes a → AreOwnUnits language number bytes b → a ≡ b
one_own_units laws Sdl number bytes a b x y = one_list Sdl laws.sdl laws.units number bytes a b x y
one_own_units laws Asn number bytes a b x y = x ∙ sym y

pub one_own_modules : FileLaws → (language : Language) (number : ℕ) (bytes : List ℕ) (a b : List ModuleTree) → AreOwnModules language number bytes a → AreOwnModules language number bytes b → a ≡ b
one_own_modules laws Sdl number bytes a b x y = x ∙ sym y
one_own_modules laws Asn number bytes a b x y = one_list Asn laws.asn laws.modules number bytes a b x y
