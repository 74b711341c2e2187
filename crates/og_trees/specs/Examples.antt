-- Worked examples of the definitions: files of a few bytes, by hand.
use Rattle.std.specs.Prelude.{◌≡◌, ℕ, ◌∷◌, List, [], None, refl, codes}
use Rattle.og_base.specs.declared.Place.{Place}
use Rattle.og_base.specs.declared.Rule.{Rule}
use Rattle.og_base.specs.declared.Rule.TheVariants.{L1, L2, S1}
use Rattle.og_base.specs.declared.Violation.{Violation}
use Rattle.og_lexer.specs.declared.Language.TheVariants.{Sdl, Asn}
use Rattle.og_ast.specs.declared.system.Unit.{Unit as UnitTree}
use Rattle.og_ast.specs.declared.system.Unit.TheVariants as unit
use Rattle.og_trees.specs.Reading.{SourceFile, EachKeeps, FirstBreaks, AreGathered, IsLexed, BreaksLexis, AreTreesOf, IsFirstViolation}

abbrev pub sdl : List ℕ → SourceFile
sdl bytes = record { language = Sdl; bytes = bytes }

abbrev pub asn : List ℕ → SourceFile
asn bytes = record { language = Asn; bytes = bytes }

-- in the first line of a file
abbrev pub place_in : ℕ → ℕ → Place
place_in file column = record { file = file; line = 1; column = column }

-- at the first byte of a file
abbrev pub broken_in : ℕ → Rule → Violation
broken_in file rule = record { rule = rule; place = place_in file 1 }

-- ---- files one by one

-- the first file has the number that is said, and each one behind it the next
abbrev pub NumbersRise : Type 0
NumbersRise = EachKeeps (λ number file. file.bytes ≡ number ∷ []) 3 (sdl (3 ∷ []) ∷ asn (4 ∷ []) ∷ sdl (5 ∷ []) ∷ [])

-- of two files that break something the first one counts
abbrev pub FirstIsFound : Type 0
FirstIsFound = FirstBreaks (λ number file. file.bytes ≡ []) (λ number file. number ≡ 1) 0 (sdl [] ∷ sdl (7 ∷ []) ∷ sdl (8 ∷ []) ∷ [])

-- what the files have stands in their order
abbrev pub OrderIsKept : Type 0
OrderIsKept = AreGathered (λ number file own. own ≡ number ∷ file.bytes) 0 (sdl (7 ∷ []) ∷ asn [] ∷ sdl (8 ∷ 9 ∷ []) ∷ []) (0 ∷ 7 ∷ 1 ∷ 2 ∷ 8 ∷ 9 ∷ [])

-- ---- trees

-- of no files
abbrev pub NoFiles : Type 0
NoFiles = AreTreesOf [] (record { modules = []; units = [] })

-- of files without a byte
abbrev pub EmptyFiles : Type 0
EmptyFiles = AreTreesOf (sdl [] ∷ asn [] ∷ []) (record { modules = []; units = [] })

abbrev pub use_text : List ℕ
use_text = codes "USE a;"

abbrev pub use_in : ℕ → UnitTree
use_in file =
    unit.Use (record {
      place = place_in file 1;
      «module» = record { parts = record { place = place_in file 5; word = record { bytes = codes "a" }; spelling = refl } ∷ [] };
      «end» = record { place = place_in file 6; comment = None };
    })

-- of two files of SDL/PR with one of ASN.1 between them
abbrev pub FilesInOrder : Type 0
FilesInOrder = AreTreesOf (sdl use_text ∷ asn [] ∷ sdl use_text ∷ []) (record { modules = []; units = use_in 0 ∷ use_in 2 ∷ [] })

-- ---- violations

-- a bracket is a token of ASN.1, and none of SDL/PR
abbrev pub LanguagesDiffer : Type 0
LanguagesDiffer = IsLexed 0 (asn (codes "[")) × BreaksLexis (broken_in 0 L1) 0 (sdl (codes "["))

-- of two files that do not lex the first one counts, whatever stands behind it
abbrev pub FirstOfTwoFiles : Type 0
FirstOfTwoFiles = IsFirstViolation (sdl (codes "_") ∷ sdl (codes "'") ∷ []) (broken_in 0 L1)

-- the empty file before it is numbered too
abbrev pub SecondOfTwoFiles : Type 0
SecondOfTwoFiles = IsFirstViolation (asn [] ∷ sdl (codes "'") ∷ []) (broken_in 1 L2)

-- no text of SDL/PR begins with a semicolon, and the empty file before it is one of ASN.1
abbrev pub NoTextBeginsSo : Type 0
NoTextBeginsSo = IsFirstViolation (asn [] ∷ sdl (codes ";") ∷ []) (broken_in 1 S1)

-- of two files that are no texts the first one counts
abbrev pub FirstOfTwoTexts : Type 0
FirstOfTwoTexts = IsFirstViolation (sdl (codes ";") ∷ sdl (codes ";") ∷ []) (broken_in 0 S1)

-- but tokens come first, in whichever file
abbrev pub TokensComeFirst : Type 0
TokensComeFirst = IsFirstViolation (sdl (codes ";") ∷ sdl (codes "_") ∷ []) (broken_in 1 L1)
