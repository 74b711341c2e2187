-- Any files are read as one list of modules and one of units, or have one first violation: class by class.
use Rattle.std.proofs.Common.{◌≡◌, ◌∙◌, ◌<◌, ◌⊎◌, List, length, ap, inl, inr, arith}
use Rattle.og_base.specs.declared.Violation.{Violation}
use Rattle.og_asn1.specs.declared.syntax.ModuleTree.{ModuleTree}
use Rattle.og_ast.specs.declared.system.Unit.{Unit as UnitTree}
use Rattle.og_trees.specs.declared.Trees.{Trees}
use Rattle.og_trees.specs.Reading.{SourceFile, EachKeeps, FirstBreaks, IsLexed, BreaksLexis, IsParsed, BreaksSyntax, AreOwnUnits, AreOwnModules, AreUnitsOf, AreModulesOf, AreRead, AreTreesOf, IsFirstViolation}
use Rattle.og_trees.proofs.OneByOne.{each_or_first, Anything, each_anything, gathers, TellsOne, first_apart, one_first, first_in, one_gathered}
use Rattle.og_trees.proofs.OneText.{FileLaws, token_laws, has_or_lacks, one_lack, has_not_lacks, own_units, own_modules, one_own_units, one_own_modules}
use Rattle.og_trees.proofs.InPlace.{lexical_here, lacks_here}

lexis : FileLaws → TellsOne IsLexed BreaksLexis
lexis laws = record {
  apart = λ number file v text first. (token_laws laws file.language).apart number file.bytes text.0 text.1.0 v text.1.1 first;
  one = λ number file v w x y. (token_laws laws file.language).violations number file.bytes v w x y;
}

syntax_of : FileLaws → TellsOne IsParsed BreaksSyntax
syntax_of laws = record {
  apart = λ number file v has lacks. has_not_lacks laws file.language number file.bytes v has lacks;
  one = λ number file v w x y. one_lack laws file.language number file.bytes v w x y;
}

pub never_both : FileLaws → (files : List SourceFile) (v : Violation) → AreRead files → IsFirstViolation files v → ⊥
never_both laws files v read (inl first) = first_apart IsLexed (BreaksLexis v) (λ number file. (lexis laws).apart number file v) 0 files read.lexed first
never_both laws files v read (inr first) = first_apart IsParsed (BreaksSyntax v) (λ number file. (syntax_of laws).apart number file v) 0 files read.parsed first.1

pub one_violation : FileLaws → (files : List SourceFile) (v w : Violation) → IsFirstViolation files v → IsFirstViolation files w → v ≡ w
one_violation laws files v w (inl x) (inl y) = one_first IsLexed BreaksLexis (lexis laws) 0 files v w x y
one_violation laws files v w (inl x) (inr y) = absurd (first_apart IsLexed (BreaksLexis v) (λ number file. (lexis laws).apart number file v) 0 files y.0 x)
one_violation laws files v w (inr x) (inl y) = absurd (first_apart IsLexed (BreaksLexis w) (λ number file. (lexis laws).apart number file w) 0 files x.0 y)
one_violation laws files v w (inr x) (inr y) = one_first IsParsed BreaksSyntax (syntax_of laws) 0 files v w x.1 y.1

-- the files lex, and then they keep the rules on syntax or break them
read_or_first : (files : List SourceFile) → EachKeeps IsLexed 0 files → EachKeeps IsParsed 0 files ⊎ ((v : Violation) × FirstBreaks IsParsed (BreaksSyntax v) 0 files) → AreRead files ⊎ ((v : Violation) × IsFirstViolation files v)
read_or_first files lexed (inl parsed) = inl (record { lexed = lexed; parsed = parsed })
read_or_first files lexed (inr first) = inr (first.0, inr (lexed, first.1))

pub each_list : FileLaws → (files : List SourceFile) → AreRead files ⊎ ((v : Violation) × IsFirstViolation files v)
each_list laws files = by (each_or_first Anything IsLexed BreaksLexis (λ number file before. (token_laws laws file.language).each number file.bytes) 0 files (each_anything 0 files))
  where
    by : EachKeeps IsLexed 0 files ⊎ ((v : Violation) × FirstBreaks IsLexed (BreaksLexis v) 0 files) → AreRead files ⊎ ((v : Violation) × IsFirstViolation files v)
    by (inl lexed) = read_or_first files lexed (each_or_first IsLexed IsParsed BreaksSyntax (λ number file text. has_or_lacks laws file.language number file.bytes text) 0 files lexed)
    by (inr first) = inr (first.0, inl first.1)

pub stands_in_a_file : (files : List SourceFile) (v : Violation) → IsFirstViolation files v → v.place.file < length files
stands_in_a_file files v (inl first) = let h = first_in IsLexed (BreaksLexis v) v (lexical_here v) 0 files first in omega (arith, h)
stands_in_a_file files v (inr first) =
    let h = first_in IsParsed (BreaksSyntax v) v (λ number file lacks. lacks_here v file.language number file.bytes lacks) 0 files first.1 in omega (arith, h)

-- ---- trees

pub have_trees : (files : List SourceFile) → AreRead files → (trees : Trees) × AreTreesOf files trees
have_trees files read =
    let modules = gathers (λ n file own. AreOwnModules file.language n file.bytes own) IsParsed (λ number file has. own_modules file.language number file.bytes has) 0 files read.parsed in
    let units = gathers (λ n file own. AreOwnUnits file.language n file.bytes own) IsParsed (λ number file has. own_units file.language number file.bytes has) 0 files read.parsed in
    let trees : Trees = record { modules = modules.0; units = units.0 } in
    (trees, record { read = read; modules = modules.1; units = units.1 })

pub one_modules : FileLaws → (files : List SourceFile) (a b : List ModuleTree) → AreModulesOf 0 files a → AreModulesOf 0 files b → a ≡ b
one_modules laws files a b x y = one_gathered (λ n file own. AreOwnModules file.language n file.bytes own) (λ number file. one_own_modules laws file.language number file.bytes) 0 files a b x y

pub one_units : FileLaws → (files : List SourceFile) (a b : List UnitTree) → AreUnitsOf 0 files a → AreUnitsOf 0 files b → a ≡ b
one_units laws files a b x y = one_gathered (λ n file own. AreOwnUnits file.language n file.bytes own) (λ number file. one_own_units laws file.language number file.bytes) 0 files a b x y

same_trees : (a b : Trees) → a.modules ≡ b.modules → a.units ≡ b.units → a ≡ b
same_trees a b modules units =
    let by_modules : List ModuleTree → Trees = λ ms. record { modules = ms; units = a.units } in
    let by_units : List UnitTree → Trees = λ us. record { modules = b.modules; units = us } in
    ap by_modules modules ∙ ap by_units units

pub one_trees : FileLaws → (files : List SourceFile) (a b : Trees) → AreTreesOf files a → AreTreesOf files b → a ≡ b
one_trees laws files a b x y = same_trees a b (one_modules laws files a.modules b.modules x.modules y.modules) (one_units laws files a.units b.units x.units y.units)
