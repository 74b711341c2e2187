-- Files are those of units or have a first violation of class S, and one of these alone.
use Rattle.std.proofs.Common.{◌≡◌, ℕ, true, List, length, ◌⊎◌, inl, inr, refl, sym, ap, ◌∙◌, IsTrue}
use Rattle.og_base.specs.declared.Violation.{Violation}
use Rattle.og_lexer.specs.declared.Spanned.{Spanned}
use Rattle.og_lexer.specs.Texts.{EndsOnce}
use Rattle.og_ast.specs.declared.system.Unit.{Unit as UnitTree}
use Rattle.og_sdl.specs.declared.table.TheConstants.{SDL, SDL_PARTS}
use Rattle.og_grammar.specs.Predictive.{is_predictive}
use Rattle.og_grammar.proofs.Unique.{one_derivation}
use Rattle.og_reading.specs.declared.kind.TheConstants.{LAST}
use Rattle.og_reading.specs.Kinds.{kinds_of}
use Rattle.og_reading.specs.Sentences.{FirstSyntactic}
use Rattle.og_reading.proofs.Whole.{is_text, whole_written, breaks_none}
use Rattle.og_reading.proofs.Answered.{answers}
use Rattle.og_parse.specs.Reading.{units_at, units_of}
use Rattle.og_parse.specs.Grammar.{IsFile, AreUnits}
use Rattle.og_parse.proofs.ReadUnits.{reads_file}
use Rattle.og_parse.proofs.WrittenUnits.{writes_file}

pub each_file : IsTrue (is_predictive SDL SDL_PARTS LAST) → (tokens : List Spanned) → EndsOnce tokens → ((units : List UnitTree) × AreUnits units tokens) ⊎ ((v : Violation) × FirstSyntactic SDL tokens v)
each_file known tokens ends =
    elim (answers SDL SDL_PARTS known refl tokens ends) [
      | inl x ↦ inl (units_of x.0 tokens, is_text SDL units_at IsFile reads_file tokens x.0 (units_of x.0 tokens) x.1 refl)
      | inr v ↦ inr v
    ]

pub one_file : IsTrue (is_predictive SDL SDL_PARTS LAST) → (tokens : List Spanned) (a b : List UnitTree) → AreUnits a tokens → AreUnits b tokens → a ≡ b
one_file known tokens a b i j =
    let v = whole_written SDL units_at IsFile writes_file a tokens i.0 in
    let w = whole_written SDL units_at IsFile writes_file b tokens j.0 in
    v.2 ∙ ap (λ (cs : List ℕ). units_of cs tokens) (one_derivation SDL SDL_PARTS LAST known (kinds_of tokens) v.0 w.0 v.1 w.1) ∙ sym w.2

pub not_both : (tokens : List Spanned) (units : List UnitTree) (v : Violation) → AreUnits units tokens → FirstSyntactic SDL tokens v → ⊥
not_both tokens units v i f = breaks_none SDL tokens v f i.1
