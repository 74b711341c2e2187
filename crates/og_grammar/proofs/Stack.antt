-- What a reader of a table expects, symbol by symbol: each may stand before those behind it, and all of them derive something.
use Rattle.std.proofs.Common.{◌≡◌, ℕ, suc, ◌+◌, ◌≤◌, Bool, true, false, not, ◌&&◌, List, [], ◌∷◌, ◌++◌, length, nat_lt, refl, arith}
use Rattle.std.proofs.lemmas.Bool.Decides.{nat_tests}
use Rattle.og_grammar.specs.declared.Symbol.{Symbol}
use Rattle.og_grammar.specs.declared.Symbol.TheVariants.{Rule, Token, Scope, Maybe, Many, NotBefore}
use Rattle.og_grammar.specs.declared.Symbol.TheVariants as symbol
use Rattle.og_grammar.specs.declared.Part.{Part}
use Rattle.og_grammar.specs.Sentence.{Derives}
use Rattle.og_grammar.specs.Predictive.{has, is_within, are_apart, part_at, bars_of, lead_of, is_clear, are_placed, may_follow, ahead, is_ranked, are_ranked, is_known}
pub use Rattle.og_grammar.specs.Standing.{Leads, Lacks, IsBefore, IsOptionBefore, IsRepeatBefore, MayStand, AreInLine}
use Rattle.og_grammar.proofs.Known.{and_first, and_second, and_intro}
use Rattle.og_grammar.proofs.Sets.{none, within_has, apart_has}
use Rattle.og_grammar.proofs.Leading.{AreRight, leads}
use Rattle.og_grammar.proofs.Least.{Avoids, Begun, Goes, AllHaveLeast, list_gives, part_gives, clear_avoids, lt_of}

-- ---- ranks above those of all symbols

higher : (parts : List Part) (a b : ℕ) (s : Symbol) → a ≤ b → is_ranked parts a s ≡ true → is_ranked parts b s ≡ true
higher parts a b (Rule p) le h = h
higher parts a b (Token k nesting) le h = h
higher parts a b (symbol.Part p) le h = and_intro _ _ (up (part_at parts p).rank a b le (and_first _ (nat_lt p (length parts)) h)) (and_second (nat_lt (part_at parts p).rank a) _ h)
  where
    up : (r a b : ℕ) → a ≤ b → nat_lt r a ≡ true → nat_lt r b ≡ true
    up r a b le h = grind (arith, nat_tests)
higher parts a b (Scope p) le h = and_intro _ _ (up (part_at parts p).rank a b le (and_first _ (nat_lt p (length parts)) h)) (and_second (nat_lt (part_at parts p).rank a) _ h)
  where
    up : (r a b : ℕ) → a ≤ b → nat_lt r a ≡ true → nat_lt r b ≡ true
    up r a b le h = grind (arith, nat_tests)
higher parts a b (Maybe p) le h = h
higher parts a b (Many p) le h = h
higher parts a b (NotBefore k) le h = h

all_higher : (parts : List Part) (a b : ℕ) (ss : List Symbol) → a ≤ b → are_ranked parts a ss ≡ true → are_ranked parts b ss ≡ true
all_higher parts a b [] le h = h
all_higher parts a b (s ∷ ss) le h =
    and_intro _ _ (higher parts a b s le (and_first _ (are_ranked parts a ss) h)) (all_higher parts a b ss le (and_second (is_ranked parts a s) _ h))

-- symbols other than the beginning of a rule
abbrev pub is_inner : Symbol → Bool
is_inner (Rule p) = false
is_inner (Token k nesting) = true
is_inner (symbol.Part p) = true
is_inner (Scope p) = true
is_inner (Maybe p) = true
is_inner (Many p) = true
is_inner (NotBefore k) = true

abbrev pub are_inner : ℕ → List Symbol → Bool
are_inner n [] = true
are_inner n (s ∷ ss) = (is_inner s && is_known n s) && are_inner n ss

rank_of : (parts : List Part) (s : Symbol) → is_inner s ≡ true → is_known (length parts) s ≡ true → (n : ℕ) × (is_ranked parts n s ≡ true)
rank_of parts (Rule p) i h = absurd cc
rank_of parts (Token k nesting) i h = (0, refl)
rank_of parts (symbol.Part p) i h = (suc (part_at parts p).rank, and_intro _ _ (self (part_at parts p).rank) h)
  where
    self : (r : ℕ) → nat_lt r (suc r) ≡ true
    self r = grind (arith, nat_tests)
rank_of parts (Scope p) i h = (suc (part_at parts p).rank, and_intro _ _ (self (part_at parts p).rank) h)
  where
    self : (r : ℕ) → nat_lt r (suc r) ≡ true
    self r = grind (arith, nat_tests)
rank_of parts (Maybe p) i h = (0, refl)
rank_of parts (Many p) i h = (0, refl)
rank_of parts (NotBefore k) i h = (0, refl)

ranks_of : (parts : List Part) (ss : List Symbol) → are_inner (length parts) ss ≡ true → (n : ℕ) × (are_ranked parts n ss ≡ true)
ranks_of parts [] h = (0, refl)
ranks_of parts (s ∷ ss) h =
    let here : (is_inner s && is_known (length parts) s) ≡ true = and_first _ (are_inner (length parts) ss) h in
    let one = rank_of parts s (and_first _ (is_known (length parts) s) here) (and_second (is_inner s) _ here) in
    let others = ranks_of parts ss (and_second (is_inner s && is_known (length parts) s) _ h) in
    (one.0 + others.0, and_intro _ _ (higher parts one.0 (one.0 + others.0) s (omega arith) one.1) (all_higher parts others.0 (one.0 + others.0) ss (omega arith) others.1))

-- ---- a way in front of what it may stand before

pub record IsFit (table : List Symbol) (parts : List Part) : Type 0 where
  pub right : AreRight table parts
  pub least : AllHaveLeast table parts

pub all_go : (table : List Symbol) (parts : List Part) → IsFit table parts → (ss rest : List Symbol) (follows bars : ℕ)
    → are_inner (length parts) ss ≡ true → are_placed parts ss follows bars ≡ true → (g : Goes table rest bars)
    → (ts : List ℕ) × (cs : List ℕ) × Derives table (ss ++ rest) ts cs × Begun (lead_of parts ss) ts g.0
all_go table parts fit ss rest follows bars inner placed g =
    let r = ranks_of parts ss inner in
    list_gives table parts r.0 (part_gives table parts fit.right fit.least r.0) ss rest follows bars g.0 g.1 r.1 placed g.2 g.3

pub not_is : (b : Bool) → not b ≡ true → b ≡ false
not_is true h = absurd cc
not_is false h = refl

-- what is in one of two sets that lie apart is not in the other
out : (a b k : ℕ) → are_apart a b ≡ true → has b k ≡ true → has a k ≡ false
out a b k h there = by (has a k) refl
  where
    by : (here : Bool) → has a k ≡ here → has a k ≡ false
    by false e = e
    by true e = let f : has b k ≡ false = apart_has a b k h e in absurd cc

stand_by : (table : List Symbol) (parts : List Part) (s : Symbol) (rest : List Symbol) (set : ℕ) → is_known (length parts) s ≡ true → may_follow parts s set ≡ true → Leads table rest set → Goes table rest (bars_of parts s) → MayStand table parts s rest
stand_by table parts (Rule p) rest set known m l g = tt
stand_by table parts (Token k nesting) rest set known m l g = tt
stand_by table parts (symbol.Part p) rest set known m l g = record { leads = λ k ts cs d. within_has set (part_at parts p).follows k m (l k ts cs d); goes = g }
stand_by table parts (Scope p) rest set known m l g = record { leads = λ k ts cs d. within_has set (part_at parts p).follows k m (l k ts cs d); goes = g }
stand_by table parts (Maybe p) rest set known m l g =
    let w = and_first (is_within set (part_at parts p).follows) _ m in
    let more = and_second (is_within set (part_at parts p).follows) _ m in
    let apart : are_apart (part_at parts p).begins set ≡ true = and_first _ _ more in
    let filled : not (part_at parts p).empty ≡ true = and_second (are_apart (part_at parts p).begins set) _ more in
    record {
      leads = λ k ts cs d. within_has set (part_at parts p).follows k w (l k ts cs d);
      goes = g;
      lacks = λ k ts cs d. out (part_at parts p).begins set k apart (l k ts cs d);
      filled = not_is (part_at parts p).empty filled;
      there = lt_of p (length parts) known;
    }
stand_by table parts (Many p) rest set known m l g =
    let w = and_first (is_within set (part_at parts p).follows) _ m in
    let more = and_second (is_within set (part_at parts p).follows) _ m in
    let apart : are_apart (part_at parts p).begins set ≡ true = and_first _ _ more in
    let most = and_second (are_apart (part_at parts p).begins set) _ more in
    record {
      leads = λ k ts cs d. within_has set (part_at parts p).follows k w (l k ts cs d);
      goes = g;
      lacks = λ k ts cs d. out (part_at parts p).begins set k apart (l k ts cs d);
      filled = not_is (part_at parts p).empty (and_first _ _ most);
      there = lt_of p (length parts) known;
      again = and_second (not (part_at parts p).empty) _ most;
    }
stand_by table parts (NotBefore k) rest set known m l g = g

pub in_line : (table : List Symbol) (parts : List Part) → IsFit table parts → (ss rest : List Symbol) (follows bars : ℕ) → are_inner (length parts) ss ≡ true → are_placed parts ss follows bars ≡ true
    → Leads table rest follows → Goes table rest bars → AreInLine table parts rest → AreInLine table parts (ss ++ rest)
in_line table parts fit [] rest follows bars inner placed l g line = line
in_line table parts fit (s ∷ ss) rest follows bars inner placed l g line =
    let inner_ss = and_second (is_inner s && is_known (length parts) s) (are_inner (length parts) ss) inner in
    let here = and_first (may_follow parts s (ahead parts ss follows) && is_clear (bars_of parts s) (lead_of parts ss) bars) (are_placed parts ss follows bars) placed in
    let there = and_second (may_follow parts s (ahead parts ss follows) && is_clear (bars_of parts s) (lead_of parts ss) bars) (are_placed parts ss follows bars) placed in
    let follow : may_follow parts s (ahead parts ss follows) ≡ true = and_first _ (is_clear (bars_of parts s) (lead_of parts ss) bars) here in
    let clear : is_clear (bars_of parts s) (lead_of parts ss) bars ≡ true = and_second (may_follow parts s (ahead parts ss follows)) _ here in
    let some = all_go table parts fit ss rest follows bars inner_ss there g in
    let begins : Leads table (ss ++ rest) (ahead parts ss follows) = λ k ts cs d. leads table parts fit.right d ss rest k ts follows refl refl (λ cs' d'. l k ts cs' d') in
    let known : is_known (length parts) s ≡ true = and_second (is_inner s) _ (and_first (is_inner s && is_known (length parts) s) (are_inner (length parts) ss) inner) in (
      stand_by table parts s (ss ++ rest) (ahead parts ss follows) known follow begins (some.0, some.1, some.2, clear_avoids (bars_of parts s) (lead_of parts ss) bars some.0 g.0 clear some.3 g.3),
      in_line table parts fit ss rest follows bars inner_ss there l g line,
    )

pub avoids_none : (ts : List ℕ) → Avoids 0 ts
avoids_none [] = tt
avoids_none (t ∷ ts) = none t
