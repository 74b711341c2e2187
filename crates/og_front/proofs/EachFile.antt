-- Any bytes are an accepted file or have a first violation.
use Rattle.std.proofs.Common.{◌≡◌, ℕ, ◌+◌, ◌⊎◌, inl, inr, List, [], ◌∷◌, ◌++◌, length, Option, Some, None, refl, sym, subst, IsTrue}
use Rattle.og_base.specs.declared.Rule.TheVariants.{F1}
use Rattle.og_base.specs.declared.Violation.{Violation}
use Rattle.og_lexer.specs.declared.Spanned.{Spanned}
use Rattle.og_lexer.specs.declared.Comment.{Comment}
use Rattle.og_lexer.specs.declared.Token.TheVariants as token
use Rattle.og_lexer.specs.Places.{place_at}
use Rattle.og_lexer.specs.Texts.{Piece, token_of, spanned, tokens_from, Lexes, IsText, IsBroken}
use Rattle.og_grammar.specs.declared.Symbol.{Symbol}
use Rattle.og_grammar.specs.declared.Part.{Part}
use Rattle.og_grammar.specs.Sentence.{Spells as Derived}
use Rattle.og_grammar.specs.Predictive.{is_predictive}
use Rattle.og_front.specs.declared.grammar.TheConstants.{GRAMMAR, PARTS, LAST}
use Rattle.og_front.specs.declared.syntax.SystemText.{SystemText}
use Rattle.og_front.specs.Files.{IsTextOf, IsAccepted, IsRefused}
use Rattle.og_front.specs.Grammar.{Spells}
use Rattle.og_front.specs.Reading.{kinds_of, tree_of}
use Rattle.og_front.specs.Rules.{first_of_rules}

-- what the lexer's law says
abbrev EachText : Type 0
EachText = (file : ℕ) (bytes : List ℕ) → IsText file bytes ⊎ IsBroken file bytes

-- what the law of grammars says
abbrev EachSentence : Type 0
EachSentence = (table : List Symbol) (parts : List Part) (last : ℕ) → IsTrue (is_predictive table parts last) → (tokens : List ℕ)
    → ((choices : List ℕ) × Derived table last tokens choices) ⊎ ((choices : List ℕ) → Derived table last tokens choices → ⊥)

abbrev IsAnswered : List ℕ → Type 0
IsAnswered kinds = ((choices : List ℕ) × Derived GRAMMAR LAST kinds choices) ⊎ ((choices : List ℕ) → Derived GRAMMAR LAST kinds choices → ⊥)

-- ---- a text has a first token

record HasFirst (tokens : List Spanned) : Type 0 where
  first : Spanned
  more : List Spanned
  is : tokens ≡ first ∷ more

behind : (front back : List Spanned) → HasFirst back → HasFirst (front ++ back)
behind [] back h = h
behind (t ∷ ts) back h = record { first = t; more = ts ++ back; is = refl }

tokens_some : (file : ℕ) (bytes : List ℕ) (at : ℕ) (ps : List Piece) → HasFirst (tokens_from file bytes at ps)
tokens_some file bytes at [] = record { first = record { token = token.End; place = place_at file bytes at; start = at; end = at }; more = []; is = refl }
tokens_some file bytes at (p ∷ ps) =
    behind (spanned (token_of p.shape p.text) (place_at file bytes at) at (at + length p.text)) (tokens_from file bytes (at + length p.text) ps) (tokens_some file bytes (at + length p.text) ps)

-- ---- by the tree and its rules

by_rules : (file : ℕ) (bytes : List ℕ) (system : SystemText) → IsTextOf file system bytes → (found : Option Violation) → first_of_rules system ≡ found → IsAccepted file bytes ⊎ IsRefused file bytes
by_rules file bytes system text None is = inl (record { system = system; accepts = record { text = text; keeps = is } })
by_rules file bytes system text (Some v) is = inr (v, inr (inr (record { system = system; text = text; first = is })))

no_sentence : (file : ℕ) (bytes : List ℕ) (tokens : List Spanned) (comments : List Comment) → Lexes file bytes tokens comments → ((choices : List ℕ) → Derived GRAMMAR LAST (kinds_of tokens) choices → ⊥) → HasFirst tokens → IsRefused file bytes
no_sentence file bytes tokens comments lexes none head = (
  record { rule = F1; place = head.first.place },
  inr (inl (record {
    first = head.first;
    more = head.more;
    comments = comments;
    lexes = subst (λ (ts : List Spanned). Lexes file bytes ts comments) head.is lexes;
    unspelt = λ system spells. none spells.choices (subst (λ (ts : List Spanned). Derived GRAMMAR LAST (kinds_of ts) spells.choices) (sym head.is) spells.derived);
    is = refl;
  })),
)

by_choices : (file : ℕ) (bytes : List ℕ) (tokens : List Spanned) (comments : List Comment) → Lexes file bytes tokens comments → IsAnswered (kinds_of tokens) → IsAccepted file bytes ⊎ IsRefused file bytes
by_choices file bytes tokens comments lexes (inl found) =
    let spells : Spells (tree_of found.0 tokens) tokens = record { choices = found.0; derived = found.1; tree = refl } in
    by_rules file bytes (tree_of found.0 tokens) (record { tokens = tokens; comments = comments; lexes = lexes; spells = spells }) (first_of_rules (tree_of found.0 tokens)) refl
by_choices file bytes tokens comments lexes (inr none) =
    inr (no_sentence file bytes tokens comments lexes none (subst HasFirst (sym lexes.tokens_are) (tokens_some file bytes 0 lexes.pieces)))

by_text : EachSentence → (file : ℕ) (bytes : List ℕ) → IsText file bytes ⊎ IsBroken file bytes → IsAccepted file bytes ⊎ IsRefused file bytes
by_text sentences file bytes (inl text) = by_choices file bytes text.0 text.1.0 text.1.1 (sentences GRAMMAR PARTS LAST refl (kinds_of text.0))
by_text sentences file bytes (inr broken) = inr (broken.0, inl broken.1)

-- any bytes are an accepted file or have a first violation
pub accepted_or_refused : EachText → EachSentence → (file : ℕ) (bytes : List ℕ) → IsAccepted file bytes ⊎ IsRefused file bytes
accepted_or_refused texts sentences file bytes = by_text sentences file bytes (texts file bytes)
