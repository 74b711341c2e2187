-- What a reader keeps between two tokens: each symbol that is due may stand before those behind it, all of them derive something,
-- and before the next token the derivations are the same as before.
use Rattle.std.specs.Prelude.{◌≡◌, ℕ, ◌<◌, ◌≤◌, ◌^◌, true, false, List, [], ◌∷◌, ◌++◌, length, reverse, ◌⊎◌}
use Rattle.og_grammar.specs.declared.Symbol.{Symbol}
use Rattle.og_grammar.specs.declared.Nesting.TheVariants.{Keeps}
use Rattle.og_grammar.specs.declared.Symbol.TheVariants.{Rule, Token, Scope, Maybe, Many, NotBefore}
use Rattle.og_grammar.specs.declared.Symbol.TheVariants as symbol
use Rattle.og_grammar.specs.declared.Due.{Due}
use Rattle.og_grammar.specs.declared.Due.TheVariants.{Expect, Restore}
use Rattle.og_grammar.specs.declared.Part.{Part}
use Rattle.og_grammar.specs.declared.run.Run.{Run}
use Rattle.og_grammar.specs.declared.run.Step.{Step}
use Rattle.og_grammar.specs.declared.run.Step.TheVariants as step
use Rattle.og_grammar.specs.Sentence.{Derives, Spells, Nests, NestsAs, whole, expected}
use Rattle.og_grammar.specs.Answers.{AreWithin}
use Rattle.og_grammar.specs.Predictive.{has, is_within, part_at}

-- the first of the tokens is none of these kinds
abbrev pub Avoids : ℕ → List ℕ → Type 0
Avoids bars [] = Unit {0}
Avoids bars (t ∷ ts) = has bars t ≡ false

-- the symbols derive some tokens that begin with none of these kinds
abbrev pub Goes : List Symbol → List Symbol → ℕ → Type 0
Goes table symbols bars = (tokens : List ℕ) × (choices : List ℕ) × Derives table symbols tokens choices × Avoids bars tokens

-- whatever the symbols derive begins with one of these kinds; with none of them
abbrev pub Leads : List Symbol → List Symbol → ℕ → Type 0
Leads table rest kinds = (k : ℕ) (ts cs : List ℕ) → Derives table rest (k ∷ ts) cs → has kinds k ≡ true

abbrev pub Lacks : List Symbol → List Symbol → ℕ → Type 0
Lacks table rest kinds = (k : ℕ) (ts cs : List ℕ) → Derives table rest (k ∷ ts) cs → has kinds k ≡ false

-- a part that may stand before the rest
pub record IsBefore (table : List Symbol) (part : Part) (rest : List Symbol) : Type 0 where
  pub leads : Leads table rest part.follows
  pub goes : Goes table rest part.bars

-- an optional part
pub record IsOptionBefore (table : List Symbol) (parts : List Part) (p : ℕ) (rest : List Symbol) : Type 0 where
  pub leads : Leads table rest (part_at parts p).follows
  pub goes : Goes table rest (part_at parts p).bars
  pub lacks : Lacks table rest (part_at parts p).begins
  pub filled : (part_at parts p).empty ≡ false
  pub there : p < length parts

-- a repeated part
pub record IsRepeatBefore (table : List Symbol) (parts : List Part) (p : ℕ) (rest : List Symbol) : Type 0 where
  pub leads : Leads table rest (part_at parts p).follows
  pub goes : Goes table rest (part_at parts p).bars
  pub lacks : Lacks table rest (part_at parts p).begins
  pub filled : (part_at parts p).empty ≡ false
  pub there : p < length parts
  pub again : is_within (part_at parts p).begins (part_at parts p).follows ≡ true

abbrev pub MayStand : List Symbol → List Part → Symbol → List Symbol → Type 0
MayStand table parts (Rule p) rest = Unit {0}
MayStand table parts (Token k nesting) rest = Unit {0}
MayStand table parts (symbol.Part p) rest = IsBefore table (part_at parts p) rest
MayStand table parts (Scope p) rest = IsBefore table (part_at parts p) rest
MayStand table parts (Maybe p) rest = IsOptionBefore table parts p rest
MayStand table parts (Many p) rest = IsRepeatBefore table parts p rest
MayStand table parts (NotBefore k) rest = Goes table rest (2 ^ k)

-- each symbol may stand before those behind it
abbrev pub AreInLine : List Symbol → List Part → List Symbol → Type 0
AreInLine table parts [] = Unit {0}
AreInLine table parts (s ∷ rest) = MayStand table parts s rest × AreInLine table parts rest

-- the symbols that are due
abbrev pub symbols_due : List Due → List Symbol
symbols_due [] = []
symbols_due (Expect s ∷ due) = s ∷ symbols_due due
symbols_due (Restore count ∷ due) = symbols_due due

-- at the bottom is the last token, unless all is done
abbrev pub IsBottomed : ℕ → List Due → Type 0
IsBottomed last due = (due ≡ []) ⊎ ((front : List Due) × (due ≡ front ++ Expect (Token last Keeps) ∷ []))

-- the nesting that is restored later passes no limit
abbrev pub AreLow : ℕ → List Due → Type 0
AreLow limit [] = Unit {0}
AreLow limit (Restore count ∷ due) = (count ≤ limit) × AreLow limit due
AreLow limit (Expect s ∷ due) = AreLow limit due

-- before a token of kind k, one state leads to another by these choices
pub record Advances (table : List Symbol) (parts : List Part) (last k : ℕ) (old : List Due) (old_count : ℕ) (new : List Due) (new_count : ℕ) (made : List ℕ) : Type 0 where
  pub fore : (ts cs : List ℕ) → Derives table (symbols_due new) (k ∷ ts) cs → Derives table (symbols_due old) (k ∷ ts) (made ++ cs)
  pub back : (ts cs : List ℕ) → Derives table (symbols_due old) (k ∷ ts) cs → (others : List ℕ) × (cs ≡ made ++ others) × Derives table (symbols_due new) (k ∷ ts) others
  pub nests : (cs counts : List ℕ) → Nests table new_count new cs counts → Nests table old_count old (made ++ cs) counts
  pub line : AreInLine table parts (symbols_due new)
  pub goes : Goes table (symbols_due new) 0
  pub bottom : IsBottomed last new
  pub low : (limit : ℕ) → old_count ≤ limit → AreLow limit old → (new_count ≤ limit) × AreLow limit new

pub record IsReady (table : List Symbol) (parts : List Part) (symbols : List Symbol) : Type 0 where
  pub line : AreInLine table parts symbols
  pub goes : Goes table symbols 0

-- before a token of kind k, one state of a run leads to another
pub record LeadsTo (table : List Symbol) (parts : List Part) (last k : ℕ) (old : Run) (due : List Due) (count : ℕ) (choices : List ℕ) : Type 0 where
  pub made : List ℕ
  pub is : choices ≡ old.choices ++ made
  pub advances : Advances table parts last k (reverse old.due) old.count due count made

-- and then the token is met, or no derivation has it there
abbrev pub Reaches : List Symbol → List Part → ℕ → ℕ → Run → Run → Step → Type 0
Reaches table parts last k old new step.On = ⊥
Reaches table parts last k old new (step.Met nesting) = LeadsTo table parts last k old (Expect (Token k nesting) ∷ reverse new.due) new.count new.choices
Reaches table parts last k old new step.Wrong = (ts cs : List ℕ) → Derives table (symbols_due (reverse old.due)) (k ∷ ts) cs → ⊥

pub record IsFirst (last : ℕ) (run : Run) : Type 0 where
  pub due : reverse run.due ≡ expected (whole last) []
  pub count : run.count ≡ 0
  pub choices : run.choices ≡ []

-- behind these tokens, with these choices made: sentences go on as what is due does
pub record Stands (table : List Symbol) (parts : List Part) (last limit : ℕ) (front : List ℕ) (due : List Due) (count : ℕ) (choices : List ℕ) : Type 0 where
  pub after : List ℕ
  pub long : length after ≡ length front
  pub within : AreWithin limit after
  pub fore : (ts cs : List ℕ) → Derives table (symbols_due due) ts cs → Spells table last (front ++ ts) (choices ++ cs)
  pub back : (ts cs : List ℕ) → Spells table last (front ++ ts) cs → (others : List ℕ) × (cs ≡ choices ++ others) × Derives table (symbols_due due) ts others
  pub nests : (cs counts : List ℕ) → Nests table count due cs counts → NestsAs table last (choices ++ cs) (after ++ counts)
  pub ready : IsReady table parts (symbols_due due)
  pub bottom : IsBottomed last due
  pub count_low : count ≤ limit
  pub low : AreLow limit due
