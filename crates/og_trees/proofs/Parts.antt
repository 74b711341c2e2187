-- What the loops over files keep, and what they answer at the first file that breaks a rule.
use Rattle.std.proofs.Common.{◌≡◌, ◌∙◌, ℕ, suc, ◌+◌, ◌-◌, ◌^◌, ◌<◌, List, [], ◌∷◌, ◌++◌, length, take, drop, get_or, sym, ap, subst, inl, inr, arith}
use Rattle.std.proofs.lemmas.List.{length-map}
use Rattle.og_base.specs.declared.ModelError.{ModelError}
use Rattle.og_base.specs.declared.ModelError.TheVariants.{Broken, NoMemory}
use Rattle.og_base.specs.declared.Violation.{Violation}
use Rattle.og_lexer.specs.declared.Comment.{Comment}
use Rattle.og_lexer.specs.declared.Language.{Language}
use Rattle.og_lexer.specs.declared.Language.TheVariants.{Sdl, Asn}
use Rattle.og_lexer.specs.declared.Lexed.{Lexed}
use Rattle.og_lexer.specs.declared.Spanned.{Spanned}
use Rattle.og_lexer.specs.Texts.{LexesIn, RefusesIn, EndsOnce}
use Rattle.og_asn1.specs.declared.syntax.ModuleTree.{ModuleTree}
use Rattle.og_ast.specs.declared.system.Unit.{Unit as UnitTree}
use Rattle.og_trees.specs.declared.ModelFile.{ModelFile}
use Rattle.og_trees.specs.declared.Trees.{Trees}
use Rattle.og_trees.specs.Reading.{SourceFile, source, sources, EachKeeps, FirstBreaks, IsLexed, BreaksLexis, HasTrees, LacksTrees, IsParsed, BreaksSyntax, AreOwnUnits, AreOwnModules, AreShort, AreUnitsOf, AreModulesOf, AreTreesOf, BreakTrees}
use Rattle.og_trees.specs.Answers.{HasTokens, AreLexed, AreTreesIn, AreNoTrees}
use Rattle.og_trees.proofs.OneByOne.{as_many, first_behind, keeps_then, gathered_then, lexed_then, parted, one_more, in_front, lexed_at, short_at}

-- ---- the file that a loop is at

more_files : (files : List ModelFile) (i : ℕ) (d : ModelFile) → i < length files → d ≡ get_or files i d → sources (take (i + 1) files) ≡ sources (take i files) ++ source d ∷ []
more_files files i d less is = one_more files i d less ∙ ap (λ f. sources (take i files) ++ source f ∷ []) (sym is)

-- it is short
pub short_here : (files : List ModelFile) (i : ℕ) (d : ModelFile) → i < length files → d ≡ get_or files i d → AreShort (sources files) → length d.bytes.items < 2 ^ 32 - 1
short_here files i d less is short =
    let P : ModelFile → Type 0 = λ f. length f.bytes.items < 2 ^ 32 - 1 in
    subst P (sym is) (short_at (λ (f : SourceFile). length f.bytes < 2 ^ 32 - 1) files i d less short)

-- the files before it keep something that it breaks
at_one : (Holds Breaks : ℕ → SourceFile → Type 0) (files : List ModelFile) (i : ℕ) (d : ModelFile) → i < length files → d ≡ get_or files i d → EachKeeps Holds 0 (sources (take i files)) → Breaks i (source d)
    → FirstBreaks Holds Breaks 0 (sources files)
at_one Holds Breaks files i d less is each breaks =
    let P : List SourceFile → Type 0 = λ fs. FirstBreaks Holds Breaks 0 fs in
    let all : sources files ≡ sources (take i files) ++ source d ∷ sources (drop (suc i) files) = parted files i d less ∙ ap (λ f. sources (take i files) ++ source f ∷ sources (drop (suc i) files)) (sym is) in
    subst P (sym all) (first_behind Holds Breaks 0 (sources (take i files)) (source d) (sources (drop (suc i) files)) i (in_front files i less) each breaks)

-- ---- tokens

all_lexed : (number : ℕ) (files : List SourceFile) (texts : List Lexed) → AreLexed number files texts → EachKeeps IsLexed number files
all_lexed number [] [] lexed = tt
all_lexed number [] (t ∷ texts) lexed = absurd lexed
all_lexed number (f ∷ files) [] lexed = absurd lexed
all_lexed number (f ∷ files) (t ∷ texts) lexed = ((t.tokens, (t.comments, lexed.0.lexes)), all_lexed (number + 1) files texts lexed.1)

-- one more file lexes
pub next_lexed : (files : List ModelFile) (i : ℕ) (d : ModelFile) (texts new : List Lexed) (text : Lexed) → i < length files → d ≡ get_or files i d → AreLexed 0 (sources (take i files)) texts
    → HasTokens d.language i d.bytes.items text → new ≡ texts ++ text ∷ [] → AreLexed 0 (sources (take (i + 1) files)) new
next_lexed files i d texts new text less is lexed has same =
    let P : List SourceFile → Type 0 = λ fs. AreLexed 0 fs (texts ++ text ∷ []) in
    let Q : List Lexed → Type 0 = λ ts. AreLexed 0 (sources (take (i + 1) files)) ts in
    subst Q (sym same) (subst P (sym (more_files files i d less is)) (lexed_then 0 (sources (take i files)) (source d) texts text i (in_front files i less) lexed has))

-- the first file that does not lex
pub lexis_broken : (files : List ModelFile) (i : ℕ) (d : ModelFile) (texts : List Lexed) (error : ModelError) → i < length files → d ≡ get_or files i d → AreLexed 0 (sources (take i files)) texts
    → RefusesIn d.language i d.bytes.items error → BreakTrees (sources files) error
lexis_broken files i d texts (Broken v) less is lexed refuses = inl (at_one IsLexed (BreaksLexis v) files i d less is (all_lexed 0 (sources (take i files)) texts lexed) refuses.0)
lexis_broken files i d texts (NoMemory met) less is lexed refuses = tt

-- ---- the tokens of the file that a loop is at

pub record StandsAt (files : List ModelFile) (i : ℕ) (file : ModelFile) (tokens : List Spanned) : Type 0 where
  pub less : i < length files
  pub is : file ≡ get_or files i file
  pub comments : List Comment
  pub lexes : LexesIn file.language i file.bytes.items tokens comments
  pub ends : EndsOnce tokens
  pub all : EachKeeps IsLexed 0 (sources files)

pub below_texts : (files : List ModelFile) (texts : List Lexed) (i : ℕ) → i < length files → AreLexed 0 (sources files) texts → i < length texts
below_texts files texts i less lexed =
    let many = as_many 0 (sources files) texts lexed in
    let same = length-map files source in
    omega (arith, less, many, same)

pub stands_at : (files : List ModelFile) (texts : List Lexed) (i : ℕ) (d : ModelFile) (t : Lexed) (tokens : List Spanned) → i < length files → d ≡ get_or files i d → t ≡ get_or texts i t → tokens ≡ t.tokens
    → AreLexed 0 (sources files) texts → StandsAt files i d tokens
stands_at files texts i d t tokens less is text same lexed =
    let P : ModelFile → Type 0 = λ f. HasTokens f.language i f.bytes.items t in
    let Q : Lexed → Type 0 = λ x. HasTokens (get_or files i d).language i (get_or files i d).bytes.items x in
    let has = subst P (sym is) (subst Q (sym text) (lexed_at 0 files texts i d t i (omega arith) less lexed)) in
    let L : List Spanned → Type 0 = λ ts. LexesIn d.language i d.bytes.items ts t.comments in
    record { less = less; is = is; comments = t.comments; lexes = subst L (sym same) has.lexes; ends = subst EndsOnce (sym same) has.ends; all = all_lexed 0 (sources files) texts lexed }

-- ---- trees

-- before the first file
pub none_yet : (trees : Trees) → trees.modules ≡ [] → trees.units ≡ [] → AreTreesOf [] trees
none_yet trees modules units = record { read = record { lexed = tt; parsed = tt }; modules = modules; units = units }

has_trees : (language : Language) (number : ℕ) (bytes : List ℕ) (tokens : List Spanned) (comments : List Comment) (own : Trees) → LexesIn language number bytes tokens comments → AreTreesIn language tokens own
    → HasTrees language number bytes
has_trees Sdl number bytes tokens comments own lexes are = (own.units, record { tokens = tokens; comments = comments; lexes = lexes; are = are.0 })
has_trees Asn number bytes tokens comments own lexes are = (own.modules, record { tokens = tokens; comments = comments; lexes = lexes; are = are.0 })

own_units : (language : Language) (number : ℕ) (bytes : List ℕ) (tokens : List Spanned) (comments : List Comment) (own : Trees) → LexesIn language number bytes tokens comments → AreTreesIn language tokens own
    → AreOwnUnits language number bytes own.units
own_units Sdl number bytes tokens comments own lexes are = record { tokens = tokens; comments = comments; lexes = lexes; are = are.0 }
own_units Asn number bytes tokens comments own lexes are = are.1

own_modules : (language : Language) (number : ℕ) (bytes : List ℕ) (tokens : List Spanned) (comments : List Comment) (own : Trees) → LexesIn language number bytes tokens comments → AreTreesIn language tokens own
    → AreOwnModules language number bytes own.modules
own_modules Sdl number bytes tokens comments own lexes are = are.1
own_modules Asn number bytes tokens comments own lexes are = record { tokens = tokens; comments = comments; lexes = lexes; are = are.0 }

trees_then : (front : List SourceFile) (file : SourceFile) (at : ℕ) (tokens : List Spanned) (comments : List Comment) (all own : Trees) → at ≡ 0 + length front → AreTreesOf front all
    → LexesIn file.language at file.bytes tokens comments → AreTreesIn file.language tokens own → (new : Trees) → new.modules ≡ all.modules ++ own.modules → new.units ≡ all.units ++ own.units
    → AreTreesOf (front ++ file ∷ []) new
trees_then front file at tokens comments all own e are lexes in_tokens new modules units =
    let M : List ModuleTree → Type 0 = λ ms. AreModulesOf 0 (front ++ file ∷ []) ms in
    let U : List UnitTree → Type 0 = λ us. AreUnitsOf 0 (front ++ file ∷ []) us in
    record {
      read = record {
        lexed = keeps_then IsLexed 0 front file at e are.read.lexed (tokens, (comments, lexes));
        parsed = keeps_then IsParsed 0 front file at e are.read.parsed (has_trees file.language at file.bytes tokens comments own lexes in_tokens);
      };
      modules = subst M (sym modules)
          (gathered_then (λ n f xs. AreOwnModules f.language n f.bytes xs) 0 front file all.modules own.modules at e are.modules (own_modules file.language at file.bytes tokens comments own lexes in_tokens));
      units = subst U (sym units)
          (gathered_then (λ n f xs. AreOwnUnits f.language n f.bytes xs) 0 front file all.units own.units at e are.units (own_units file.language at file.bytes tokens comments own lexes in_tokens));
    }

-- the trees of one more file
pub next_trees : (files : List ModelFile) (i : ℕ) (d : ModelFile) (tokens : List Spanned) (all own new : Trees) → StandsAt files i d tokens → AreTreesOf (sources (take i files)) all → AreTreesIn d.language tokens own
    → new.modules ≡ all.modules ++ own.modules → new.units ≡ all.units ++ own.units → AreTreesOf (sources (take (i + 1) files)) new
next_trees files i d tokens all own new at are in_tokens modules units =
    let P : List SourceFile → Type 0 = λ fs. AreTreesOf fs new in
    subst P (sym (more_files files i d at.less at.is))
    (trees_then (sources (take i files)) (source d) i tokens at.comments all own (in_front files i at.less) are at.lexes in_tokens new modules units)

lacks_trees : (v : Violation) (language : Language) (number : ℕ) (bytes : List ℕ) (tokens : List Spanned) (comments : List Comment) → LexesIn language number bytes tokens comments → AreNoTrees language tokens (Broken v)
    → LacksTrees language number bytes v
lacks_trees v Sdl number bytes tokens comments lexes none = record { tokens = tokens; comments = comments; lexes = lexes; first = none.0 }
lacks_trees v Asn number bytes tokens comments lexes none = record { tokens = tokens; comments = comments; lexes = lexes; first = none.0 }

-- the first file that has none
pub syntax_broken : (files : List ModelFile) (i : ℕ) (d : ModelFile) (tokens : List Spanned) (all : Trees) (error : ModelError) → StandsAt files i d tokens → AreTreesOf (sources (take i files)) all → AreNoTrees d.language tokens error
    → BreakTrees (sources files) error
syntax_broken files i d tokens all (Broken v) at are none =
    inr (at.all, at_one IsParsed (BreaksSyntax v) files i d at.less at.is are.read.parsed (lacks_trees v d.language i d.bytes.items tokens at.comments at.lexes none))
syntax_broken files i d tokens all (NoMemory met) at are none = tt
