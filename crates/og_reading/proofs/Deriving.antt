-- How a derivation goes on at each symbol.
use Rattle.std.proofs.Common.{◌≡◌, ℕ, zero, suc, ◌<◌, Bool, true, false, List, [], ◌∷◌, ◌++◌, Some, slice_get, refl, sym, ap, subst}
use Rattle.og_grammar.specs.declared.Nesting.{Nesting}
use Rattle.og_grammar.specs.declared.Symbol.{Symbol}
use Rattle.og_grammar.specs.declared.Symbol.TheVariants.{Rule, Token, Scope, Maybe, Many, NotBefore}
use Rattle.og_grammar.specs.declared.Symbol.TheVariants as symbol
use Rattle.og_grammar.specs.Sentence.{rules_of, Derives, chosen}
use Rattle.og_lexer.specs.declared.Spanned.{Spanned}
use Rattle.og_reading.specs.Kinds.{kinds_of}
use Rattle.og_reading.specs.Reading.{Rest}

-- the symbols derive what is left
abbrev pub At : List Symbol → List Symbol → Rest → Type 0
At table symbols rest = Derives table symbols (kinds_of rest.tokens) rest.choices

pub no_token : {table : List Symbol} {k : ℕ} {nesting : Nesting} {behind : List Symbol} {choices : List ℕ} → Derives table (Token k nesting ∷ behind) [] choices → ⊥
no_token (chosen _ c way w d) = absurd cc

-- one of the ways is chosen
pub record Chosen (table : List Symbol) (ways : List (List Symbol)) (behind : List Symbol) (tokens choices : List ℕ) : Type 0 where
  pub choice : ℕ
  pub later : List ℕ
  pub way : List Symbol
  pub made : choices ≡ choice ∷ later
  pub is : slice_get ways choice ≡ Some way
  pub goes_on : Derives table (way ++ behind) tokens later

-- a symbol that stands for this part
abbrev pub IsPart : ℕ → Symbol → Type 0
IsPart p (symbol.Part q) = p ≡ q
IsPart p (Scope q) = p ≡ q
IsPart p (Rule q) = ⊥
IsPart p (Token k nesting) = ⊥
IsPart p (Maybe q) = ⊥
IsPart p (Many q) = ⊥
IsPart p (NotBefore k) = ⊥

pub chosen_part : {table : List Symbol} {behind : List Symbol} {tokens choices : List ℕ} (p : ℕ) (s : Symbol) → IsPart p s → Derives table (s ∷ behind) tokens choices → Chosen table (rules_of p table) behind tokens choices
chosen_part {table = table} p (symbol.Part q) e (chosen {choices = cs} _ c way w d) =
    record { choice = c; later = cs; way = way; made = refl; is = subst (λ (n : ℕ). slice_get (rules_of n table) c ≡ Some way) (sym e) w; goes_on = d }
chosen_part {table = table} p (Scope q) e (chosen {choices = cs} _ c way w d) =
    record { choice = c; later = cs; way = way; made = refl; is = subst (λ (n : ℕ). slice_get (rules_of n table) c ≡ Some way) (sym e) w; goes_on = d }
chosen_part p (Rule q) e d = absurd e
chosen_part p (Token k nesting) e d = absurd e
chosen_part p (Maybe q) e d = absurd e
chosen_part p (Many q) e d = absurd e
chosen_part p (NotBefore k) e d = absurd e

pub choose_part : {table : List Symbol} {behind : List Symbol} {tokens choices : List ℕ} (p : ℕ) (s : Symbol) → IsPart p s → (c : ℕ) (way : List Symbol) → slice_get (rules_of p table) c ≡ Some way
    → Derives table (way ++ behind) tokens choices → Derives table (s ∷ behind) tokens (c ∷ choices)
choose_part {table = table} p (symbol.Part q) e c way w d = chosen (symbol.Part q) c way (subst (λ (n : ℕ). slice_get (rules_of n table) c ≡ Some way) e w) d
choose_part {table = table} p (Scope q) e c way w d = chosen (Scope q) c way (subst (λ (n : ℕ). slice_get (rules_of n table) c ≡ Some way) e w) d
choose_part p (Rule q) e c way w d = absurd e
choose_part p (Token k nesting) e c way w d = absurd e
choose_part p (Maybe q) e c way w d = absurd e
choose_part p (Many q) e c way w d = absurd e
choose_part p (NotBefore k) e c way w d = absurd e

abbrev pub option_ways : ℕ → List (List Symbol)
option_ways p = [] ∷ (symbol.Part p ∷ []) ∷ []

abbrev pub repeat_ways : ℕ → List (List Symbol)
repeat_ways p = [] ∷ (symbol.Part p ∷ Many p ∷ []) ∷ []

pub chosen_option : {table : List Symbol} {p : ℕ} {behind : List Symbol} {tokens choices : List ℕ} → Derives table (Maybe p ∷ behind) tokens choices → Chosen table (option_ways p) behind tokens choices
chosen_option (chosen {choices = cs} _ c way w d) = record { choice = c; later = cs; way = way; made = refl; is = w; goes_on = d }

pub chosen_repeat : {table : List Symbol} {p : ℕ} {behind : List Symbol} {tokens choices : List ℕ} → Derives table (Many p ∷ behind) tokens choices → Chosen table (repeat_ways p) behind tokens choices
chosen_repeat (chosen {choices = cs} _ c way w d) = record { choice = c; later = cs; way = way; made = refl; is = w; goes_on = d }
