-- The tokens of a file stand in it, and so does a first violation.
use Rattle.std.proofs.Common.{◌≡◌, ◌∙◌, ℕ, zero, suc, ◌+◌, Bool, true, false, if◌then◌else◌, List, [], ◌∷◌, ◌++◌, length, take, Option, Some, None, sym, ap, subst, refl, inl, inr}
use Rattle.std.specs.Prelude.{slice_get, ◌==◌, ◌-◌}
use Rattle.std.specs.List.{AllByRecursion}
use Rattle.og_base.specs.declared.Place.{Place}
use Rattle.og_base.specs.declared.Violation.{Violation}
use Rattle.og_lexer.specs.declared.Language.{Language}
use Rattle.og_lexer.specs.declared.Language.TheVariants.{Sdl, Asn}
use Rattle.og_lexer.specs.declared.Spanned.{Spanned}
use Rattle.og_lexer.specs.declared.Comment.{Comment}
use Rattle.og_lexer.specs.declared.Token.{Token}
use Rattle.og_lexer.specs.Places.{first_place, next_place, place_after, place_at}
use Rattle.og_lexer.specs.Texts.{Piece, token_of, spanned, tokens_from, LexesIn}
use Rattle.og_asn1.specs.Grammar.{FirstSyntactic as FirstInModules}
use Rattle.og_names.proofs.Truths.{same_value as same_some}
use Rattle.og_sdl.specs.declared.table.TheConstants.{SDL}
use Rattle.og_reading.specs.Sentences.{FirstSyntactic}
use Rattle.og_trees.specs.Reading.{SourceFile, LacksTrees, BreaksLexis}

-- ---- places of tokens

abbrev stepped : Place → Bool → Place
stepped p c = if c then record { file = p.file; line = p.line + 1; column = 1 } else record { file = p.file; line = p.line; column = p.column + 1 }

stepped_file : (p : Place) (c : Bool) → (stepped p c).file ≡ p.file
stepped_file p true = refl
stepped_file p false = refl

after_file : (p : Place) (bytes : List ℕ) → (place_after p bytes).file ≡ p.file
after_file p [] = refl
after_file p (b ∷ bs) = after_file (next_place p b) bs ∙ stepped_file p (b == 10)

pub at_file : (file : ℕ) (bytes : List ℕ) (at : ℕ) → (place_at file bytes at).file ≡ file
at_file file bytes at = after_file (first_place file) (take at bytes)

-- the token stands in the file of this number
abbrev pub TokenIn : ℕ → Spanned → Type 0
TokenIn file token = token.place.file ≡ file

both_in : (file : ℕ) (xs ys : List Spanned) → AllByRecursion (TokenIn file) xs → AllByRecursion (TokenIn file) ys → AllByRecursion (TokenIn file) (xs ++ ys)
both_in file [] ys p q = q
both_in file (x ∷ xs) ys p q = (p.0, both_in file xs ys p.1 q)

spanned_in : (file : ℕ) (token : Option Token) (place : Place) (start end : ℕ) → place.file ≡ file → AllByRecursion (TokenIn file) (spanned token place start end)
spanned_in file None place start end h = tt
spanned_in file (Some t) place start end h = (h, tt)

tokens_in : (file : ℕ) (bytes : List ℕ) (at : ℕ) (pieces : List Piece) → AllByRecursion (TokenIn file) (tokens_from file bytes at pieces)
tokens_in file bytes at [] = (at_file file bytes at, tt)
tokens_in file bytes at (p ∷ ps) =
    both_in file (spanned (token_of p.shape p.text) (place_at file bytes at) at (at + length p.text)) (tokens_from file bytes (at + length p.text) ps)
    (spanned_in file (token_of p.shape p.text) (place_at file bytes at) at (at + length p.text) (at_file file bytes at))
    (tokens_in file bytes (at + length p.text) ps)

pub lexed_in : (language : Language) (file : ℕ) (bytes : List ℕ) (tokens : List Spanned) (comments : List Comment) → LexesIn language file bytes tokens comments → AllByRecursion (TokenIn file) tokens
lexed_in language file bytes tokens comments lexes = subst (AllByRecursion (TokenIn file)) (sym lexes.tokens_are) (tokens_in file bytes 0 lexes.pieces)

-- ---- places of violations

pub lexical_here : (v : Violation) (number : ℕ) (file : SourceFile) → BreaksLexis v number file → v.place.file ≡ number
lexical_here v number file first = ap (λ (p : Place). p.file) first.place ∙ at_file number file.bytes (length file.bytes - length first.rest)

-- the token of any number
token_at : (file : ℕ) (tokens : List Spanned) (at : ℕ) (t : Spanned) → AllByRecursion (TokenIn file) tokens → slice_get tokens at ≡ Some t → t.place.file ≡ file
token_at file [] at t all e = let h : None ≡ Some t = e in cc
token_at file (x ∷ tokens) zero t all e = subst (TokenIn file) (same_some x t e) all.0
token_at file (x ∷ tokens) (suc at) t all e = token_at file tokens at t all.1 e

unit_here : (v : Violation) (number : ℕ) (tokens : List Spanned) → AllByRecursion (TokenIn number) tokens → FirstSyntactic SDL tokens v → v.place.file ≡ number
unit_here v number tokens all (inl x) = let at = x.place in ap (λ (p : Place). p.file) at.2 ∙ token_at number tokens x.number at.0 all at.1
unit_here v number tokens all (inr x) = let at = x.place in ap (λ (p : Place). p.file) at.2 ∙ token_at number tokens x.number at.0 all at.1

module_here : (v : Violation) (number : ℕ) (tokens : List Spanned) → AllByRecursion (TokenIn number) tokens → FirstInModules tokens v → v.place.file ≡ number
module_here v number tokens all (inl x) = let at = x.place in ap (λ (p : Place). p.file) at.2 ∙ token_at number tokens x.number at.0 all at.1
module_here v number tokens all (inr x) = let at = x.place in ap (λ (p : Place). p.file) at.2 ∙ token_at number tokens x.number at.0 all at.1

pub lacks_here : (v : Violation) (language : Language) (number : ℕ) (bytes : List ℕ) → LacksTrees language number bytes v → v.place.file ≡ number
lacks_here v Sdl number bytes lacks = unit_here v number lacks.tokens (lexed_in Sdl number bytes lacks.tokens lacks.comments lacks.lexes) lacks.first
lacks_here v Asn number bytes lacks = module_here v number lacks.tokens (lexed_in Asn number bytes lacks.tokens lacks.comments lacks.lexes) lacks.first
