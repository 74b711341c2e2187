-- A file is accepted or has one first violation, and never both: its tokens are determined, and then its tree.
use Rattle.std.proofs.Common.{◌≡◌, ℕ, List, ◌∷◌, Some, None, sym, ◌∙◌, ap, subst, inl, inr}
use Rattle.og_base.specs.declared.Violation.{Violation}
use Rattle.og_base.specs.declared.Rule.TheVariants.{F1}
use Rattle.og_lexer.specs.declared.Spanned.{Spanned}
use Rattle.og_lexer.specs.declared.Comment.{Comment}
use Rattle.og_lexer.specs.Texts.{Lexes, FirstLexical}
use Rattle.og_front.specs.declared.syntax.SystemText.{SystemText}
use Rattle.og_front.specs.Files.{IsTextOf, IsAccepted, BreaksGrammar, FirstViolation}
use Rattle.og_front.specs.Grammar.{Spells}
use Rattle.og_front.specs.Rules.{first_of_rules}
use Rattle.og_front.proofs.Sentences.{one_tree}
use Rattle.og_names.proofs.Truths.{same_value as same_some}

-- what the lexer's law says
abbrev pub OneText : Type 0
OneText = (file : ℕ) (bytes : List ℕ) (tokens others : List Spanned) (comments more : List Comment) → Lexes file bytes tokens comments → Lexes file bytes others more → (tokens ≡ others) × (comments ≡ more)

abbrev pub OneLexical : Type 0
OneLexical = (file : ℕ) (bytes : List ℕ) (v w : Violation) → FirstLexical file bytes v → FirstLexical file bytes w → v ≡ w

abbrev pub Apart : Type 0
Apart = (file : ℕ) (bytes : List ℕ) (tokens : List Spanned) (comments : List Comment) (v : Violation) → Lexes file bytes tokens comments → FirstLexical file bytes v → ⊥

-- tokens have one tree at most
same_tree : (a b : SystemText) (tokens others : List Spanned) → tokens ≡ others → Spells a tokens → Spells b others → a ≡ b
same_tree a b tokens others same one other = one_tree a b others (subst (λ (ts : List Spanned). Spells a ts) same one) other

pub same_system : OneText → (file : ℕ) (bytes : List ℕ) (a b : SystemText) → IsTextOf file a bytes → IsTextOf file b bytes → a ≡ b
same_system texts file bytes a b one other =
    same_tree a b one.tokens other.tokens (texts file bytes one.tokens other.tokens one.comments other.comments one.lexes other.lexes).0 one.spells other.spells

pub unspelt : OneText → (file : ℕ) (bytes : List ℕ) (v : Violation) (system : SystemText) → BreaksGrammar file bytes v → IsTextOf file system bytes → ⊥
unspelt texts file bytes v system breaks text =
    let P : List Spanned → Type 0 = λ tokens. Spells system tokens in
    breaks.unspelt system (subst P (texts file bytes text.tokens (breaks.first ∷ breaks.more) text.comments breaks.comments text.lexes breaks.lexes).0 text.spells)

first_token : (a b : Spanned) (as' bs : List Spanned) → a ∷ as' ≡ b ∷ bs → a ≡ b
first_token a b as' bs e = cc

pub never_both : OneText → Apart → (file : ℕ) (bytes : List ℕ) (v : Violation) → IsAccepted file bytes → FirstViolation file bytes v → ⊥
never_both texts apart file bytes v accepted (inl lexical) =
    let text = accepted.accepts.text in apart file bytes text.tokens text.comments v text.lexes lexical
never_both texts apart file bytes v accepted (inr (inl grammar)) = unspelt texts file bytes v accepted.system grammar accepted.accepts.text
never_both texts apart file bytes v accepted (inr (inr rule)) =
    let same = same_system texts file bytes accepted.system rule.system accepted.accepts.text rule.text in
    let e : None ≡ Some v = sym accepted.accepts.keeps ∙ ap first_of_rules same ∙ rule.first in
    cc

pub one_first : OneText → OneLexical → Apart → (file : ℕ) (bytes : List ℕ) (v w : Violation) → FirstViolation file bytes v → FirstViolation file bytes w → v ≡ w
one_first texts lexicals apart file bytes v w (inl a) (inl b) = lexicals file bytes v w a b
one_first texts lexicals apart file bytes v w (inl a) (inr (inl b)) = absurd (apart file bytes (b.first ∷ b.more) b.comments v b.lexes a)
one_first texts lexicals apart file bytes v w (inl a) (inr (inr b)) = absurd (apart file bytes b.text.tokens b.text.comments v b.text.lexes a)
one_first texts lexicals apart file bytes v w (inr (inl a)) (inl b) = absurd (apart file bytes (a.first ∷ a.more) a.comments w a.lexes b)
one_first texts lexicals apart file bytes v w (inr (inl a)) (inr (inl b)) =
    let same = first_token a.first b.first a.more b.more (texts file bytes (a.first ∷ a.more) (b.first ∷ b.more) a.comments b.comments a.lexes b.lexes).0 in
    a.is ∙ ap (λ (t : Spanned). record { rule = F1; place = t.place }) same ∙ sym b.is
one_first texts lexicals apart file bytes v w (inr (inl a)) (inr (inr b)) = absurd (unspelt texts file bytes v b.system a b.text)
one_first texts lexicals apart file bytes v w (inr (inr a)) (inl b) = absurd (apart file bytes a.text.tokens a.text.comments w a.text.lexes b)
one_first texts lexicals apart file bytes v w (inr (inr a)) (inr (inl b)) = absurd (unspelt texts file bytes w a.system b a.text)
one_first texts lexicals apart file bytes v w (inr (inr a)) (inr (inr b)) =
    let same = same_system texts file bytes a.system b.system a.text b.text in
    same_some v w (sym a.first ∙ ap first_of_rules same ∙ b.first)
