-- Whatever holds of the places of all tokens holds of the places that their trees keep: what is said of a text and of places, with one
-- lemma for each way in which the grammar puts texts together.
use Rattle.std.proofs.Common.{◌≡◌, ℕ, List, [], ◌∷◌, ◌++◌, Option, Some, None, sym, subst}
use Rattle.std.specs.List.{AllByRecursion, flat_map}
use Rattle.og_base.specs.declared.Place.{Place}
use Rattle.og_lexer.specs.declared.Keyword.{Keyword}
use Rattle.og_lexer.specs.declared.Mark.{Mark}
use Rattle.og_lexer.specs.declared.Mark.TheVariants.{Comma, LeftParenthesis, RightParenthesis}
use Rattle.og_lexer.specs.declared.Spanned.{Spanned}
use Rattle.og_lexer.specs.declared.Token.{Token}
use Rattle.og_ast.specs.declared.ground.Name.{Name}
use Rattle.og_ast.specs.declared.ground.TextTree.{TextTree}
use Rattle.og_places.specs.Contents.{Places, maybe, places_in_name, places_in_names, places_in_text}
use Rattle.og_reading.specs.Fronts.{Text, Stands, Reserved, Sign, Named, Quoted, Numeral, Word, Passed, Digits, nothing, ◌▸◌, optional, each, separated_by, separated, perhaps_separated, in_brackets}

-- it holds of each place
abbrev pub Each : (Place → Type 0) → Places → Type 0
Each P places = AllByRecursion P places

-- it holds of the places of these tokens
abbrev pub AreIn : (Place → Type 0) → List Spanned → Type 0
AreIn P tokens = AllByRecursion (λ (t : Spanned). P t.place) tokens

-- it holds of the places that a tree keeps, and of those of the tokens behind it
pub record Kept (P : Place → Type 0) (places : Places) (rest : List Spanned) : Type 0 where
  pub here : Each P places
  pub left : AreIn P rest

-- a text whose trees keep such places
pub record Keeps (P : Place → Type 0) (Is : Text) (places : Places) : Type 0 where
  pub by : (tokens rest : List Spanned) → Is tokens rest → AreIn P tokens → Kept P places rest

-- ---- places one behind the other

pub each_both : (P : Place → Type 0) (ps qs : Places) → Each P ps → Each P qs → Each P (ps ++ qs)
each_both P [] qs x y = y
each_both P (p ∷ ps) qs x y = (x.0, each_both P ps qs x.1 y)

pub followed : {P : Place → Type 0} {ps qs : Places} {middle rest : List Spanned} → Kept P ps middle → Kept P qs rest → Kept P (ps ++ qs) rest
followed {P = P} {ps = ps} {qs = qs} x y = record { here = each_both P ps qs x.here y.here; left = y.left }

-- the same places, said in another way
pub as_places : {P : Place → Type 0} {ps qs : Places} {rest : List Spanned} → ps ≡ qs → Kept P qs rest → Kept P ps rest
as_places {P = P} e x = record { here = subst (λ (z : Places). Each P z) (sym e) x.here; left = x.left }

pub keeps_none : (P : Place → Type 0) {rest : List Spanned} → AreIn P rest → Kept P [] rest
keeps_none P all = record { here = tt; left = all }

-- ---- one token

pub token_in : (P : Place → Type 0) {t : Token} {place : Place} {ts rest : List Spanned} → Stands t place ts rest → AreIn P ts → Kept P (place ∷ []) rest
token_in P s all =
    let front = subst (λ (z : List Spanned). AreIn P z) s.parts all in
    record { here = (subst P s.at front.0, tt); left = front.1 }

pub passed_in : (P : Place → Type 0) {t : Token} {ts rest : List Spanned} → (place : Place) × Stands t place ts rest → AreIn P ts → AreIn P rest
passed_in P s all = (token_in P s.1 all).left

-- a token behind a tree, whose place it does not keep
pub past : {P : Place → Type 0} {ps : Places} {t : Token} {middle rest : List Spanned} → Kept P ps middle → (place : Place) × Stands t place middle rest → Kept P ps rest
past {P = P} x s = record { here = x.here; left = passed_in P s x.left }

pub reserved : {P : Place → Type 0} (word : Keyword) (place : Place) → Keeps P (Reserved word place) (place ∷ [])
reserved {P = P} word place = record { by = λ ts rest s all. token_in P s all }

pub sign : {P : Place → Type 0} (mark : Mark) (place : Place) → Keeps P (Sign mark place) (place ∷ [])
sign {P = P} mark place = record { by = λ ts rest s all. token_in P s all }

pub named : {P : Place → Type 0} (name : Name) → Keeps P (Named name) (places_in_name name)
named {P = P} name = record { by = λ ts rest s all. token_in P s all }

pub quoted : {P : Place → Type 0} (text : TextTree) → Keeps P (Quoted text) (places_in_text text)
quoted {P = P} text = record { by = λ ts rest s all. token_in P s all }

pub numeral : {P : Place → Type 0} (n : ℕ) (place : Place) → Keeps P (Numeral n place) (place ∷ [])
numeral {P = P} n place = record { by = λ ts rest s all. token_in P s all }

pub passed_word : {P : Place → Type 0} (word : Keyword) → Keeps P (Word word) []
passed_word {P = P} word = record { by = λ ts rest s all. keeps_none P (passed_in P s all) }

pub passed : {P : Place → Type 0} (mark : Mark) → Keeps P (Passed mark) []
passed {P = P} mark = record { by = λ ts rest s all. keeps_none P (passed_in P s all) }

pub digits : {P : Place → Type 0} (n : ℕ) → Keeps P (Digits n) []
digits {P = P} n = record { by = λ ts rest s all. keeps_none P (passed_in P s all) }

-- ---- texts one behind the other

pub no_text : {P : Place → Type 0} → Keeps P nothing []
no_text {P = P} = record { by = λ ts rest e all. keeps_none P (subst (λ (z : List Spanned). AreIn P z) e all) }

pub both : {P : Place → Type 0} {a b : Text} {ps qs : Places} → Keeps P a ps → Keeps P b qs → Keeps P (a ▸ b) (ps ++ qs)
both x y = record {
  by = λ ts rest s all.
      let front = x.by ts s.0 s.1 all in
      followed front (y.by s.0 rest s.2 front.left);
}

-- where what stands behind keeps no place
pub before : {P : Place → Type 0} {a b : Text} {ps : Places} → Keeps P a ps → Keeps P b [] → Keeps P (a ▸ b) ps
before x y = record {
  by = λ ts rest s all.
      let front = x.by ts s.0 s.1 all in
      record { here = front.here; left = (y.by s.0 rest s.2 front.left).left };
}

pub perhaps : {P : Place → Type 0} {X : Type 0} (Is : X → Text) (places : X → Places) → ((x : X) → Keeps P (Is x) (places x)) → (o : Option X) → Keeps P (optional Is o) (maybe places o)
perhaps Is places keeps None = no_text
perhaps Is places keeps (Some x) = keeps x

pub each_of : {P : Place → Type 0} {X : Type 0} (Is : X → Text) (places : X → Places) → ((x : X) → Keeps P (Is x) (places x)) → (xs : List X) → Keeps P (each Is xs) (flat_map places xs)
each_of Is places keeps [] = no_text
each_of Is places keeps (x ∷ xs) = both (keeps x) (each_of Is places keeps xs)

pub list_by : {P : Place → Type 0} {X : Type 0} (mark : Mark) (Is : X → Text) (places : X → Places) → ((x : X) → Keeps P (Is x) (places x)) → (xs : List X)
    → Keeps P (separated_by mark Is xs) (flat_map places xs)
list_by mark Is places keeps [] = record { by = λ ts rest s all. absurd s }
list_by mark Is places keeps (x ∷ xs) = both (keeps x) (each_of (λ y. Passed mark ▸ Is y) places (λ y. both (passed mark) (keeps y)) xs)

pub list_of : {P : Place → Type 0} {X : Type 0} (Is : X → Text) (places : X → Places) → ((x : X) → Keeps P (Is x) (places x)) → (xs : List X) → Keeps P (separated Is xs) (flat_map places xs)
list_of Is places keeps xs = list_by Comma Is places keeps xs

pub list_or_none : {P : Place → Type 0} {X : Type 0} (Is : X → Text) (places : X → Places) → ((x : X) → Keeps P (Is x) (places x)) → (xs : List X)
    → Keeps P (perhaps_separated Is xs) (flat_map places xs)
list_or_none Is places keeps [] = no_text
list_or_none Is places keeps (x ∷ xs) = list_of Is places keeps (x ∷ xs)

pub bracketed : {P : Place → Type 0} {X : Type 0} (Is : X → Text) (places : X → Places) → ((x : X) → Keeps P (Is x) (places x)) → (xs : List X)
    → Keeps P (in_brackets Is xs) (flat_map places xs)
bracketed Is places keeps [] = no_text
bracketed Is places keeps (x ∷ xs) = both (passed LeftParenthesis) (before (list_of Is places keeps (x ∷ xs)) (passed RightParenthesis))

pub names_of : {P : Place → Type 0} (names : List Name) → Keeps P (separated Named names) (places_in_names names)
names_of names = list_of Named places_in_name (λ name. named name) names
