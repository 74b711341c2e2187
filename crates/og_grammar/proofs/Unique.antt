-- A sentence of a table that passes the test has one derivation.
use Rattle.std.proofs.Common.{◌≡◌, ℕ, true, List, [], ◌∷◌, ◌++◌, Some, slice_get, ◌⊎◌, inl, inr, refl, sym, ap, subst, ◌∙◌, append_assoc, IsTrue}
use Rattle.og_grammar.specs.declared.Symbol.{Symbol}
use Rattle.og_grammar.specs.declared.Nesting.TheVariants.{Keeps}
use Rattle.og_grammar.specs.declared.Symbol.TheVariants.{Rule, Token, Scope, Maybe, Many, NotBefore}
use Rattle.og_grammar.specs.declared.Symbol.TheVariants as symbol
use Rattle.og_grammar.specs.declared.Part.{Part}
use Rattle.og_grammar.specs.Sentence.{ways, Derives, nothing, token, passes, chosen, Spells}
use Rattle.og_grammar.specs.Predictive.{is_predictive}
use Rattle.og_grammar.specs.Rows.{way_of}
use Rattle.og_grammar.specs.Standing.{AreInLine}
use Rattle.og_grammar.proofs.Leading.{some_is, head_is, tail_is}
use Rattle.og_grammar.proofs.Choices.{IsSound, rows, leaves_choice, taken_way, forced}
use Rattle.og_grammar.proofs.Entering.{ready}
use Rattle.og_grammar.proofs.Telling.{token_is, passes_is}
use Rattle.og_grammar.proofs.Sound.{sound_of}
use Rattle.og_grammar.proofs.Standing.{not_ended}
use Rattle.og_grammar.proofs.Reaching.{first_ready}

leaves : (table : List Symbol) (s : Symbol) (c : ℕ) (way : List Symbol) → slice_get (ways table s) c ≡ Some way → leaves_choice s ≡ true
leaves table (Rule p) c way w = absurd cc
leaves table (Token k nesting) c way w = absurd cc
leaves table (NotBefore k) c way w = absurd cc
leaves table (symbol.Part p) c way w = refl
leaves table (Scope p) c way w = refl
leaves table (Maybe p) c way w = refl
leaves table (Many p) c way w = refl

-- the last token is at the end, unless all is done
abbrev Closed : ℕ → List Symbol → Type 0
Closed last symbols = (symbols ≡ []) ⊎ ((front : List Symbol) × (symbols ≡ front ++ Token last Keeps ∷ []))

closed_behind : (last : ℕ) (s : Symbol) (rest : List Symbol) → Closed last (s ∷ rest) → Closed last rest
closed_behind last s rest (inl e) = absurd cc
closed_behind last s rest (inr ([], e)) = inl (tail_is e)
closed_behind last s rest (inr (x ∷ f, e)) = inr (f, tail_is e)

none_left : {table : List Symbol} {cs : List ℕ} → Derives table [] [] cs → [] ≡ cs
none_left nothing = refl

module _ (table : List Symbol) (parts : List Part) (last : ℕ) (sound : IsSound table parts last) where
  -- a choice is the same in both, if it is the same in what is behind it
  same_choice : (s : Symbol) (c : ℕ) (way rest : List Symbol) (cs b : List ℕ) → slice_get (ways table s) c ≡ Some way → AreInLine table parts (s ∷ rest) → Closed last (s ∷ rest) → (ts : List ℕ)
      → Derives table (way ++ rest) ts cs → Derives table (s ∷ rest) ts b
      → ((b' : List ℕ) → Derives table (way ++ rest) ts b' → AreInLine table parts (way ++ rest) → Closed last (way ++ rest) → cs ≡ b') → c ∷ cs ≡ b
  same_choice s c way rest cs b w line closed [] d e go =
      elim closed [ inl x ↦ absurd cc | inr x ↦ absurd (not_ended last x.0 e x.1 refl) ]
  same_choice s c way rest cs b w line closed (k ∷ ts) d e go =
      let one = forced table parts last sound (chosen s c way w d) s rest k ts refl refl (leaves table s c way w) line.0 in
      let other = forced table parts last sound e s rest k ts refl refl (leaves table s c way w) line.0 in
      let here : c ≡ one.choice = head_is one.first in
      let same : other.choice ≡ c = some_is other.choice one.choice (sym other.made ∙ one.made) ∙ sym here in
      let taken : slice_get (ways table s) c ≡ Some (way_of (rows table parts) s c) = taken_way table parts last sound s c k (one.made ∙ ap (λ (n : ℕ). Some n) (sym here)) in
      let way_is : way_of (rows table parts) s c ≡ way = some_is (way_of (rows table parts) s c) way (sym taken ∙ w) in
      let behind = subst (λ (x : List Symbol). Derives table (x ++ rest) (k ∷ ts) other.others) way_is (subst (λ (n : ℕ). Derives table (way_of (rows table parts) s n ++ rest) (k ∷ ts) other.others) same other.goes_on) in
      let in_line = ready table parts last sound s c way rest (leaves table s c way w) w line.0 line.1 in
      let closes : Closed last (way ++ rest) = elim closed [ inl x ↦ absurd cc | inr x ↦ enters x.0 x.1 ] in
      ap (λ (z : List ℕ). c ∷ z) (go other.others behind in_line.line closes) ∙ ap (λ (n : ℕ). n ∷ other.others) (sym same) ∙ sym other.first
    where
      enters : (front : List Symbol) → s ∷ rest ≡ front ++ Token last Keeps ∷ [] → Closed last (way ++ rest)
      enters [] x = let is_token : s ≡ Token last Keeps = head_is x in let clash : leaves_choice (Token last Keeps) ≡ true = subst (λ (z : Symbol). leaves_choice z ≡ true) is_token (leaves table s c way w) in absurd cc
      enters (y ∷ f) x = inr (way ++ f, ap (λ (z : List Symbol). way ++ z) (tail_is x) ∙ sym (append_assoc way f (Token last Keeps ∷ [])))

  unique : {symbols : List Symbol} {ts a : List ℕ} → Derives table symbols ts a → (b : List ℕ) → Derives table symbols ts b → AreInLine table parts symbols → Closed last symbols → a ≡ b
  unique nothing b e line closed = none_left e
  unique (token {k = k} {nesting = nesting} {symbols = rest} d) b e line closed = unique d b (token_is e).1 line.1 (closed_behind last (Token k nesting) rest closed)
  unique (passes {k = k} {symbols = rest} apart d) b e line closed = unique d b (passes_is e).1 line.1 (closed_behind last (NotBefore k) rest closed)
  unique (chosen {symbols = rest} {tokens = ts} {choices = cs} s c way w d) b e line closed =
      same_choice s c way rest cs b w line closed ts d e (λ b' e' line' closed'. unique d b' e' line' closed')

pub one_derivation : (table : List Symbol) (parts : List Part) (last : ℕ) → IsTrue (is_predictive table parts last) → (tokens a b : List ℕ) → Spells table last tokens a → Spells table last tokens b → a ≡ b
one_derivation table parts last known tokens a b d e =
    unique table parts last (sound_of table parts last known) d b e (first_ready table parts last known) (inr (symbol.Part 0 ∷ [], refl))
