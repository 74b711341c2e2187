-- Before a token the choice is forced: the kind of the token makes it.
use Rattle.std.proofs.Common.{◌≡◌, ℕ, zero, suc, ◌+◌, ◌%◌, ◌<◌, ◌≤◌, ◌^◌, Bool, true, false, cond, not, ◌&&◌, List, [], ◌∷◌, ◌++◌, length, Option, Some, None, slice_get, inl, inr, nat_lt, refl, sym, ap, subst, ◌∙◌, arith, map}
use Rattle.std.specs.Prelude.{bit_or, option_map, ◌==◌}
use Rattle.std.specs.List.{prefix_len}
use Rattle.std.proofs.lemmas.Bool.Decides.{nat_tests}
use Rattle.std.proofs.lemmas.Option.{slice_get-map, slice_get_past}
use Rattle.std.proofs.lemmas.List.Quantifiers.{position-Some}
use Rattle.std.proofs.Math.Nat.{mod-eq_of_lt}
use Rattle.og_grammar.specs.declared.Symbol.{Symbol}
use Rattle.og_grammar.specs.declared.Symbol.TheVariants.{Rule, Token, Scope, Maybe, Many, NotBefore}
use Rattle.og_grammar.specs.declared.Symbol.TheVariants as symbol
use Rattle.og_grammar.specs.declared.Part.{Part}
use Rattle.og_grammar.specs.declared.rows.Row.{Row}
use Rattle.og_grammar.specs.Sentence.{rules_of, ways, Derives, nothing, token, passes, chosen}
use Rattle.og_grammar.specs.Predictive.{has, part_at, ahead, are_apart, are_right_rules, is_right_rule}
use Rattle.og_grammar.specs.Rows.{row_of, rows_of, rows_below, place_in, row_choice, choice_of, symbols_of, row_at, way_of}
use Rattle.og_grammar.proofs.Known.{and_first, and_second}
use Rattle.og_grammar.proofs.Sets.{has-or_left, has-or_right, in_either, has-pow, none, apart_has}
use Rattle.og_grammar.proofs.Leading.{AreRight, option, some_is, head_is, tail_is, leads}
use Rattle.og_grammar.proofs.Stack.{IsFit, are_inner, Lacks, MayStand}

passing : List Part → ℕ → ℕ → List (List Symbol) → ℕ
passing parts follows k rules = prefix_len (λ row. not (has row.ahead k)) (map (row_of parts follows) rules)

here_first : (parts : List Part) (follows k : ℕ) (rule : List Symbol) (rules : List (List Symbol)) → has (ahead parts rule follows) k ≡ true → passing parts follows k (rule ∷ rules) ≡ 0
unfolding passing
here_first parts follows k rule rules h = rw h refl

later_first : (parts : List Part) (follows k : ℕ) (rule : List Symbol) (rules : List (List Symbol)) → has (ahead parts rule follows) k ≡ false → passing parts follows k (rule ∷ rules) ≡ 1 + passing parts follows k rules
unfolding passing
later_first parts follows k rule rules h = rw h refl

-- a set without k that lies apart from one with k
lacks_it : (a b k : ℕ) → are_apart a b ≡ true → has a k ≡ true → has b k ≡ false
lacks_it a b k apart h = apart_has a b k apart h

neither : (a b k : ℕ) → has (bit_or a b) k ≡ false → (has a k ≡ false) × (has b k ≡ false)
neither a b k h = (by_a (has a k) refl, by_b (has b k) refl)
  where
    by_a : (here : Bool) → has a k ≡ here → has a k ≡ false
    by_a false e = e
    by_a true e = let f : has (bit_or a b) k ≡ true = has-or_left a b k e in absurd cc

    by_b : (here : Bool) → has b k ≡ here → has b k ≡ false
    by_b false e = e
    by_b true e = let f : has (bit_or a b) k ≡ true = has-or_right a b k e in absurd cc

-- where no two rules of a part have a kind in common, the first that has it ahead is the one
seen_first : (parts : List Part) (part : Part) (seen : ℕ) (rules : List (List Symbol)) (c : ℕ) (way : List Symbol) (k : ℕ) → are_right_rules parts part seen rules ≡ true → slice_get rules c ≡ Some way
    → has (ahead parts way part.follows) k ≡ true → (has seen k ≡ false) × (passing parts part.follows k rules ≡ c) × (c < length rules)
seen_first parts part seen [] c way k r w h = absurd cc
seen_first parts part seen (rule ∷ rules) zero way k r w h =
    let is : rule ≡ way = some_is rule way w in
    let own : has (ahead parts rule part.follows) k ≡ true = subst (λ (x : List Symbol). has (ahead parts x part.follows) k ≡ true) (sym is) h in
    let one = and_first (is_right_rule parts part rule && are_apart (ahead parts rule part.follows) seen) (are_right_rules parts part (bit_or seen (ahead parts rule part.follows)) rules) r in
    let apart : are_apart (ahead parts rule part.follows) seen ≡ true = and_second (is_right_rule parts part rule) _ one in
    (apart_has (ahead parts rule part.follows) seen k apart own, here_first parts part.follows k rule rules own, omega arith)
seen_first parts part seen (rule ∷ rules) (suc c) way k r w h =
    let others = and_second (is_right_rule parts part rule && are_apart (ahead parts rule part.follows) seen) (are_right_rules parts part (bit_or seen (ahead parts rule part.follows)) rules) r in
    let inner = seen_first parts part (bit_or seen (ahead parts rule part.follows)) rules c way k others w h in
    let n = neither seen (ahead parts rule part.follows) k inner.0 in
    let e : passing parts part.follows k rules ≡ c = inner.1 in
    let lt : c < length rules = inner.2 in
    (n.0, later_first parts part.follows k rule rules n.1 ∙ omega arith, omega arith)

length-map : {A B : Type 0} (f : A → B) (xs : List A) → length (map f xs) ≡ length xs
length-map f [] = refl
length-map f (x ∷ xs) = ap suc (length-map f xs)

pub placed_at : (parts : List Part) (part : Part) (rules : List (List Symbol)) (c : ℕ) (way : List Symbol) (k : ℕ) → are_right_rules parts part 0 rules ≡ true → slice_get rules c ≡ Some way
    → has (ahead parts way part.follows) k ≡ true → place_in (map (row_of parts part.follows) rules) k ≡ Some c
unfolding place_in passing
placed_at parts part rules c way k r w h =
    let s = seen_first parts part 0 rules c way k r w h in
    let len = length-map (row_of parts part.follows) rules in
    let e : prefix_len (λ row. not (has row.ahead k)) (map (row_of parts part.follows) rules) ≡ c = s.1 in
    let lt : nat_lt c (length (map (row_of parts part.follows) rules)) ≡ true = subst (λ (n : ℕ). nat_lt c n ≡ true) (sym len) (is_lt c (length rules) s.2) in
    rw e (rw lt refl)
  where
    is_lt : (a b : ℕ) → a < b → nat_lt a b ≡ true
    is_lt a b h = grind (arith, nat_tests)

-- ---- the rows of all parts

get_before : {A : Type 0} (xs : List A) (y : A) (i : ℕ) → i < length xs → slice_get (xs ++ y ∷ []) i ≡ slice_get xs i
get_before [] y i lt = absurd (omega arith)
get_before (x ∷ xs) y zero lt = refl
get_before (x ∷ xs) y (suc i) lt = get_before xs y i (omega arith)

get_last : {A : Type 0} (xs : List A) (y : A) → slice_get (xs ++ y ∷ []) (length xs) ≡ Some y
get_last [] y = refl
get_last (x ∷ xs) y = get_last xs y

length-rows_below : (table : List Symbol) (parts : List Part) (n : ℕ) → length (rows_below table parts n) ≡ n
length-rows_below table parts zero = refl
length-rows_below table parts (suc n) = one_more (rows_below table parts n) (rows_of n table parts (part_at parts n).follows) ∙ ap suc (length-rows_below table parts n)
  where
    one_more : {A : Type 0} (xs : List A) (y : A) → length (xs ++ y ∷ []) ≡ suc (length xs)
    one_more [] y = refl
    one_more (x ∷ xs) y = ap suc (one_more xs y)

is_lt : (a b : ℕ) → nat_lt a b ≡ true → a < b
is_lt a b h = grind (arith, nat_tests)

not_lt : (a b : ℕ) → nat_lt a b ≡ false → b ≤ a
not_lt a b h = grind (arith, nat_tests)

rows_by : (table : List Symbol) (parts : List Part) (n p : ℕ) → p < suc n → (p < n → slice_get (rows_below table parts n) p ≡ Some (rows_of p table parts (part_at parts p).follows))
    → (b : Bool) → nat_lt p n ≡ b → slice_get (rows_below table parts (suc n)) p ≡ Some (rows_of p table parts (part_at parts p).follows)
rows_by table parts n p lt go true e =
    let below : p < n = is_lt p n e in
    get_before (rows_below table parts n) (rows_of n table parts (part_at parts n).follows) p (omega (arith, length-rows_below table parts n)) ∙ go below
rows_by table parts n p lt go false e =
    let above : n ≤ p = not_lt p n e in
    let same : p ≡ n = omega arith in
    ap (slice_get (rows_below table parts (suc n))) (same ∙ sym (length-rows_below table parts n)) ∙ get_last (rows_below table parts n) (rows_of n table parts (part_at parts n).follows)
    ∙ ap (λ (q : ℕ). Some (rows_of q table parts (part_at parts q).follows)) (sym same)

pub rows_at : (table : List Symbol) (parts : List Part) (n p : ℕ) → p < n → slice_get (rows_below table parts n) p ≡ Some (rows_of p table parts (part_at parts p).follows)
rows_at table parts zero p lt = absurd (omega arith)
rows_at table parts (suc n) p lt = rows_by table parts n p lt (λ below. rows_at table parts n p below) (nat_lt p n) refl

-- ---- what the test of a table says

pub record IsSound (table : List Symbol) (parts : List Part) (last : ℕ) : Type 0 where
  pub fit : IsFit table parts
  pub rules : (p : ℕ) → p < length parts → are_right_rules parts (part_at parts p) 0 (rules_of p table) ≡ true
  pub few : (p : ℕ) → p < length parts → length (rules_of p table) ≤ 256
  pub inner : (p c : ℕ) (way : List Symbol) → slice_get (rules_of p table) c ≡ Some way → are_inner (length parts) way ≡ true
  pub there : (p c : ℕ) (way : List Symbol) → slice_get (rules_of p table) c ≡ Some way → p < length parts
  pub first : 0 < length parts
  pub follows : has (part_at parts 0).follows last ≡ true
  pub bars : has (part_at parts 0).bars last ≡ false

-- ---- the choice of a symbol

abbrev pub leaves_choice : Symbol → Bool
leaves_choice (symbol.Part p) = true
leaves_choice (Scope p) = true
leaves_choice (Maybe p) = true
leaves_choice (Many p) = true
leaves_choice (Rule p) = false
leaves_choice (Token k nesting) = false
leaves_choice (NotBefore k) = false

small_mod : (c n : ℕ) → c < n → n ≤ 256 → c % 256 ≡ c
small_mod c n lt le = let small : c < 256 = omega arith in mod-eq_of_lt small

-- the rows of a table that passes the test
abbrev pub rows : List Symbol → List Part → List (List Row)
rows table parts = rows_below table parts (length parts)

of_row : (parts : List Part) (follows : ℕ) (rules : List (List Symbol)) (c : ℕ) (way : List Symbol) → slice_get rules c ≡ Some way → symbols_of (slice_get (map (row_of parts follows) rules) c) ≡ way
of_row parts follows rules c way w = ap symbols_of (slice_get-map (row_of parts follows) rules c) ∙ ap (λ (o : Option (List Symbol)). symbols_of (option_map (row_of parts follows) o)) w

get_within : {A : Type 0} (xs : List A) (i : ℕ) (x : A) → slice_get xs i ≡ Some x → i < length xs
get_within [] i x e = absurd cc
get_within (y ∷ xs) zero x e = omega arith
get_within (y ∷ xs) (suc i) x e = let inner = get_within xs i x e in omega arith

get_is : {A : Type 0} (xs : List A) (i : ℕ) → i < length xs → (x : A) × (slice_get xs i ≡ Some x)
get_is [] i lt = absurd (omega arith)
get_is (y ∷ xs) zero lt = (y, refl)
get_is (y ∷ xs) (suc i) lt = get_is xs i (omega arith)

-- a rule that the kind leads into is what the choice takes
part_choice : (table : List Symbol) (parts : List Part) (last : ℕ) → IsSound table parts last → (p c k : ℕ) (way : List Symbol) → slice_get (rules_of p table) c ≡ Some way
    → has (ahead parts way (part_at parts p).follows) k ≡ true → (row_choice (slice_get (rows table parts) p) k ≡ Some c) × (row_at (slice_get (rows table parts) p) c ≡ way)
part_choice table parts last sound p c k way w h =
    let there = sound.there p c way w in
    let own : slice_get (rows table parts) p ≡ Some (rows_of p table parts (part_at parts p).follows) = rows_at table parts (length parts) p there in
    let place : place_in (rows_of p table parts (part_at parts p).follows) k ≡ Some c = placed_at parts (part_at parts p) (rules_of p table) c way k (sound.rules p there) w h in
    let lt = get_within (rules_of p table) c way w in (
      ap (λ (o : Option (List Row)). row_choice o k) own ∙ ap (option_map (λ (n : ℕ). n % 256)) place ∙ ap (λ (n : ℕ). Some n) (small_mod c (length (rules_of p table)) lt (sound.few p there)),
      ap (λ (o : Option (List Row)). row_at o c) own ∙ of_row parts (part_at parts p).follows (rules_of p table) c way w,
    )

place_within : (rows : List Row) (k j : ℕ) → place_in rows k ≡ Some j → j < length rows
unfolding place_in
place_within [] k j e = absurd cc
place_within (row ∷ rows) k j e = (position-Some (λ row. has row.ahead k) (row ∷ rows) j row e).0

mapped : {A B : Type 0} (f : A → B) (o : Option A) (y : B) → option_map f o ≡ Some y → (x : A) × (o ≡ Some x) × (f x ≡ y)
mapped f None y e = absurd cc
mapped f (Some x) y e = (x, refl, some_is (f x) y e)

in_rows : (parts : List Part) (follows : ℕ) (rules : List (List Symbol)) (c k : ℕ) → length rules ≤ 256 → row_choice (Some (map (row_of parts follows) rules)) k ≡ Some c
    → slice_get rules c ≡ Some (row_at (Some (map (row_of parts follows) rules)) c)
in_rows parts follows rules c k few h =
    let m = mapped (λ (n : ℕ). n % 256) (place_in (map (row_of parts follows) rules) k) c h in
    let lt : m.0 < length rules = omega (arith, place_within (map (row_of parts follows) rules) k m.0 m.1, length-map (row_of parts follows) rules) in
    let same : m.0 ≡ c = sym (small_mod m.0 (length rules) lt few) ∙ m.2 in
    let lt_c : c < length rules = subst (λ (n : ℕ). n < length rules) same lt in
    let g = get_is rules c lt_c in
    g.1 ∙ ap (λ (x : List Symbol). Some x) (sym (of_row parts follows rules c g.0 g.1))

taken_by : (table : List Symbol) (parts : List Part) (last : ℕ) → IsSound table parts last → (p c k : ℕ) → (b : Bool) → nat_lt p (length parts) ≡ b → row_choice (slice_get (rows table parts) p) k ≡ Some c
    → slice_get (rules_of p table) c ≡ Some (row_at (slice_get (rows table parts) p) c)
taken_by table parts last sound p c k true e h =
    let there : p < length parts = is_lt p (length parts) e in
    let own = rows_at table parts (length parts) p there in
    let found = in_rows parts (part_at parts p).follows (rules_of p table) c k (sound.few p there) (ap (λ (o : Option (List Row)). row_choice o k) (sym own) ∙ h) in
    found ∙ ap (λ (o : Option (List Row)). Some (row_at o c)) (sym own)
taken_by table parts last sound p c k false e h =
    let past : length parts ≤ p = not_lt p (length parts) e in
    let none_there : slice_get (rows table parts) p ≡ None = slice_get_past (rows table parts) p (omega (arith, length-rows_below table parts (length parts))) in
    let clash = ap (λ (o : Option (List Row)). row_choice o k) (sym none_there) ∙ h in
    absurd cc

-- what the choice takes is a rule
taken_rule : (table : List Symbol) (parts : List Part) (last : ℕ) → IsSound table parts last → (p c k : ℕ) → row_choice (slice_get (rows table parts) p) k ≡ Some c
    → slice_get (rules_of p table) c ≡ Some (row_at (slice_get (rows table parts) p) c)
taken_rule table parts last sound p c k h = taken_by table parts last sound p c k (nat_lt p (length parts)) refl h

bool_way : (b : Bool) (p : ℕ) (more : List Symbol) (c : ℕ) → option (cond b 1 0) ≡ Some c → slice_get ([] ∷ more ∷ []) c ≡ Some (cond (c == 1) more [])
bool_way true p more c e = subst (λ (n : ℕ). slice_get ([] ∷ more ∷ []) n ≡ Some (cond (n == 1) more [])) (some_is 1 c e) refl
bool_way false p more c e = subst (λ (n : ℕ). slice_get ([] ∷ more ∷ []) n ≡ Some (cond (n == 1) more [])) (some_is 0 c e) refl

-- what the choice takes is a way of the symbol
pub taken_way : (table : List Symbol) (parts : List Part) (last : ℕ) → IsSound table parts last → (s : Symbol) (c k : ℕ) → choice_of (rows table parts) parts s k ≡ Some c
    → slice_get (ways table s) c ≡ Some (way_of (rows table parts) s c)
taken_way table parts last sound (Rule p) c k h = absurd cc
taken_way table parts last sound (Token t nesting) c k h = absurd cc
taken_way table parts last sound (NotBefore t) c k h = absurd cc
taken_way table parts last sound (symbol.Part p) c k h = taken_rule table parts last sound p c k h
taken_way table parts last sound (Scope p) c k h = taken_rule table parts last sound p c k h
taken_way table parts last sound (Maybe p) c k h = bool_way (has (part_at parts p).begins k) p (symbol.Part p ∷ []) c h
taken_way table parts last sound (Many p) c k h = bool_way (has (part_at parts p).begins k) p (symbol.Part p ∷ Many p ∷ []) c h

-- ---- before a token the choice is forced

pub record IsForced (table : List Symbol) (parts : List Part) (s : Symbol) (rest : List Symbol) (k : ℕ) (ts cs : List ℕ) : Type 0 where
  pub choice : ℕ
  pub others : List ℕ
  pub made : choice_of (rows table parts) parts s k ≡ Some choice
  pub first : cs ≡ choice ∷ others
  pub goes_on : Derives table (way_of (rows table parts) s choice ++ rest) (k ∷ ts) others

only_left : (a k : ℕ) → has (bit_or a 0) k ≡ true → has a k ≡ true
only_left a k h = elim (in_either a 0 k h) [ inl x ↦ x | inr y ↦ let f : has 0 k ≡ false = none k in absurd cc ]

-- of an option or a repetition
by_option : (table : List Symbol) (parts : List Part) → AreRight table parts → (begins : ℕ) (p : ℕ) (more rest : List Symbol) (k : ℕ) (ts : List ℕ) → begins ≡ (part_at parts p).begins → (part_at parts p).empty ≡ false → Lacks table rest begins
    → (c : ℕ) (way : List Symbol) (cs : List ℕ) → slice_get ([] ∷ (symbol.Part p ∷ more) ∷ []) c ≡ Some way → Derives table (way ++ rest) (k ∷ ts) cs
    → (option (cond (has begins k) 1 0) ≡ Some c) × (way ≡ cond (c == 1) (symbol.Part p ∷ more) [])
by_option table parts right begins p more rest k ts is filled lacks zero way cs w d =
    let none_way : [] ≡ way = some_is [] way w in
    let none_here : has begins k ≡ false = lacks k ts cs (subst (λ (x : List Symbol). Derives table (x ++ rest) (k ∷ ts) cs) (sym none_way) d) in
    (ap (λ (b : Bool). option (cond b 1 0)) none_here, sym none_way)
by_option table parts right begins p more rest k ts is filled lacks (suc zero) way cs w d =
    let one_way : (symbol.Part p ∷ more) ≡ way = some_is (symbol.Part p ∷ more) way w in
    let there : has (bit_or (part_at parts p).begins (cond (part_at parts p).empty (2 ^ k) 0)) k ≡ true =
    leads table parts right d (symbol.Part p ∷ []) (more ++ rest) k ts (2 ^ k) (ap (λ (x : List Symbol). x ++ rest) (sym one_way)) refl (λ _ _. has-pow k) in
    let plain : has (bit_or (part_at parts p).begins 0) k ≡ true = subst (λ (e : Bool). has (bit_or (part_at parts p).begins (cond e (2 ^ k) 0)) k ≡ true) filled there in
    let here : has begins k ≡ true = subst (λ (x : ℕ). has x k ≡ true) (sym is) (only_left (part_at parts p).begins k plain) in
    (ap (λ (b : Bool). option (cond b 1 0)) here, sym one_way)
by_option table parts right begins p more rest k ts is filled lacks (suc (suc c)) way cs w d = absurd cc

pub forced : (table : List Symbol) (parts : List Part) (last : ℕ) → IsSound table parts last → {symbols : List Symbol} {tokens cs : List ℕ} → Derives table symbols tokens cs → (s : Symbol) (rest : List Symbol) (k : ℕ) (ts : List ℕ)
    → symbols ≡ s ∷ rest → tokens ≡ k ∷ ts → leaves_choice s ≡ true → MayStand table parts s rest → IsForced table parts s rest k ts cs
forced table parts last sound nothing s rest k ts e f l m = absurd cc
forced table parts last sound (token {k = j} {nesting = nesting} d) s rest k ts e f l m =
    let clash : leaves_choice (Token j nesting) ≡ true = subst (λ (x : Symbol). leaves_choice x ≡ true) (sym (head_is e)) l in absurd cc
forced table parts last sound (passes {k = j} apart d) s rest k ts e f l m =
    let clash : leaves_choice (NotBefore j) ≡ true = subst (λ (x : Symbol). leaves_choice x ≡ true) (sym (head_is e)) l in absurd cc
forced table parts last sound (chosen {symbols = symbols} {tokens = tokens} {choices = cs} s' c way w d) s rest k ts e f l m =
    let moved = subst (λ (x : List ℕ). Derives table (way ++ rest) x cs) f (subst (λ (x : List Symbol). Derives table (way ++ x) tokens cs) (tail_is e) d) in
    let at_s = subst (λ (x : Symbol). slice_get (ways table x) c ≡ Some way) (head_is e) w in
    by s at_s l m moved
  where
    by : (s : Symbol) → slice_get (ways table s) c ≡ Some way → leaves_choice s ≡ true → MayStand table parts s rest → Derives table (way ++ rest) (k ∷ ts) cs → IsForced table parts s rest k ts (c ∷ cs)
    by (Rule p) w l m d = absurd cc
    by (Token t nesting) w l m d = absurd cc
    by (NotBefore t) w l m d = absurd cc
    by (symbol.Part p) w l m d =
        let there = leads table parts sound.fit.right d way rest k ts (part_at parts p).follows refl refl (λ cs' d'. m.leads k ts cs' d') in
        let c' = part_choice table parts last sound p c k way w there in
        record { choice = c; others = cs; made = c'.0; first = refl; goes_on = subst (λ (x : List Symbol). Derives table (x ++ rest) (k ∷ ts) cs) (sym c'.1) d }
    by (Scope p) w l m d =
        let there = leads table parts sound.fit.right d way rest k ts (part_at parts p).follows refl refl (λ cs' d'. m.leads k ts cs' d') in
        let c' = part_choice table parts last sound p c k way w there in
        record { choice = c; others = cs; made = c'.0; first = refl; goes_on = subst (λ (x : List Symbol). Derives table (x ++ rest) (k ∷ ts) cs) (sym c'.1) d }
    by (Maybe p) w l m d =
        let c' = by_option table parts sound.fit.right (part_at parts p).begins p [] rest k ts refl m.filled m.lacks c way cs w d in
        record { choice = c; others = cs; made = c'.0; first = refl; goes_on = subst (λ (x : List Symbol). Derives table (x ++ rest) (k ∷ ts) cs) c'.1 d }
    by (Many p) w l m d =
        let c' = by_option table parts sound.fit.right (part_at parts p).begins p (Many p ∷ []) rest k ts refl m.filled m.lacks c way cs w d in
        record { choice = c; others = cs; made = c'.0; first = refl; goes_on = subst (λ (x : List Symbol). Derives table (x ++ rest) (k ∷ ts) cs) c'.1 d }
