-- The box of a place, and that it is one.
use Rattle.std.proofs.Common.{◌≡◌, inl, inr, ℕ, List, sym, ap, ◌∙◌, subst}
use Rattle.std.specs.Prelude.{Option}
use Rattle.og_base.specs.declared.Place.{Place}
use Rattle.og_base.specs.declared.Rule.{Rule}
use Rattle.og_base.specs.declared.Violation.{Violation}
use Rattle.og_lexer.specs.declared.Language.{Language}
use Rattle.og_lexer.specs.declared.Language.TheVariants.{Sdl, Asn}
use Rattle.og_lexer.specs.declared.Spanned.{Spanned}
use Rattle.og_lexer.specs.declared.Comment.{Comment}
use Rattle.og_lexer.specs.Texts.{LexesIn, FirstLexicalIn}
use Rattle.og_cif.specs.declared.BoxEnd.{BoxEnd}
use Rattle.og_cif.specs.declared.CifBox.{CifBox}
use Rattle.og_cif.specs.File.{AreBoxes, box_before}
use Rattle.og_report.specs.declared.Report.{Report}
use Rattle.og_report.specs.Report.{IsLastBox, IsBoxFor, IsReportOf, bytes_before}

-- what the laws of tokens and of boxes say
pub record Laws : Type 0 where
  pub sdl_tokens : (file : ℕ) (bytes : List ℕ) (tokens others : List Spanned) (comments more : List Comment)
      → LexesIn Sdl file bytes tokens comments → LexesIn Sdl file bytes others more → (tokens ≡ others) × (comments ≡ more)
  pub sdl_apart : (file : ℕ) (bytes : List ℕ) (tokens : List Spanned) (comments : List Comment) (v : Violation)
      → LexesIn Sdl file bytes tokens comments → FirstLexicalIn Sdl file bytes v → ⊥
  pub asn_tokens : (file : ℕ) (bytes : List ℕ) (tokens others : List Spanned) (comments more : List Comment)
      → LexesIn Asn file bytes tokens comments → LexesIn Asn file bytes others more → (tokens ≡ others) × (comments ≡ more)
  pub asn_apart : (file : ℕ) (bytes : List ℕ) (tokens : List Spanned) (comments : List Comment) (v : Violation)
      → LexesIn Asn file bytes tokens comments → FirstLexicalIn Asn file bytes v → ⊥
  pub boxes : (bytes : List ℕ) (comments : List Comment) (boxes others : List BoxEnd) → AreBoxes bytes comments boxes → AreBoxes bytes comments others → boxes ≡ others

same_comments : Laws → (language : Language) (file : ℕ) (bytes : List ℕ) (tokens others : List Spanned) (comments more : List Comment)
    → LexesIn language file bytes tokens comments → LexesIn language file bytes others more → comments ≡ more
same_comments laws Sdl file bytes tokens others comments more x y = (laws.sdl_tokens file bytes tokens others comments more x y).1
same_comments laws Asn file bytes tokens others comments more x y = (laws.asn_tokens file bytes tokens others comments more x y).1

never_both : Laws → (language : Language) (file : ℕ) (bytes : List ℕ) (tokens : List Spanned) (comments : List Comment) (v : Violation)
    → LexesIn language file bytes tokens comments → FirstLexicalIn language file bytes v → ⊥
never_both laws Sdl = laws.sdl_apart
never_both laws Asn = laws.asn_apart

same_last : Laws → (language : Language) (bytes : List ℕ) (place : Place) (a b : Option CifBox) → IsLastBox language bytes place a → IsLastBox language bytes place b → a ≡ b
same_last laws language bytes place a b x y =
    let comments = same_comments laws language place.file bytes x.tokens y.tokens x.comments y.comments x.lexes y.lexes in
    let are = subst (λ (cs : List Comment). AreBoxes bytes cs x.last.boxes) comments x.last.are in
    let same = laws.boxes bytes y.comments x.last.boxes y.last.boxes are y.last.are in
    x.last.is ∙ ap (λ boxes. box_before boxes place) same ∙ sym y.last.is

same_box : Laws → (language : Language) (bytes : List ℕ) (place : Place) (a b : Option CifBox) → IsBoxFor language bytes place a → IsBoxFor language bytes place b → a ≡ b
same_box laws language bytes place a b (inl x) (inl y) = same_last laws language (bytes_before place bytes) place a b x y
same_box laws language bytes place a b (inl x) (inr y) = absurd (never_both laws language place.file (bytes_before place bytes) x.tokens x.comments y.broken.0 x.lexes y.broken.1)
same_box laws language bytes place a b (inr x) (inl y) = absurd (never_both laws language place.file (bytes_before place bytes) y.tokens y.comments x.broken.0 y.lexes x.broken.1)
same_box laws language bytes place a b (inr x) (inr y) = x.is ∙ sym y.is

pub same_report : Laws → (language : Language) (bytes : List ℕ) (v : Violation) (a b : Report) → IsReportOf language bytes v a → IsReportOf language bytes v b → a ≡ b
same_report laws language bytes v a b x y =
    let by_rule : Rule → Report = λ r. record { rule = r; place = a.place; frame = a.frame } in
    let by_place : Place → Report = λ p. record { rule = b.rule; place = p; frame = a.frame } in
    let by_frame : Option CifBox → Report = λ f. record { rule = b.rule; place = b.place; frame = f } in
    ap by_rule (x.rule ∙ sym y.rule) ∙ ap by_place (x.place ∙ sym y.place) ∙ ap by_frame (same_box laws language bytes v.place a.frame b.frame x.box y.box)
