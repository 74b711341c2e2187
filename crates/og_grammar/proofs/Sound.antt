-- What the test of a table says of it.
use Rattle.std.proofs.Common.{◌≡◌, ◌≢◌, ℕ, zero, suc, ◌<◌, ◌≤◌, Bool, true, false, cond, not, ◌&&◌, List, [], ◌∷◌, length, Option, Some, None, slice_get, nat_eq, nat_lt, nat_le, refl, sym, subst, arith}
use Rattle.std.specs.Prelude.{bit_or}
use Rattle.std.proofs.lemmas.Bool.Decides.{nat_tests}
use Rattle.og_grammar.specs.declared.Symbol.{Symbol}
use Rattle.og_grammar.specs.declared.Symbol.TheVariants.{Rule, Token, Scope, Maybe, Many, NotBefore}
use Rattle.og_grammar.specs.declared.Symbol.TheVariants as symbol
use Rattle.og_grammar.specs.declared.Part.{Part}
use Rattle.og_grammar.specs.Sentence.{body_of, rules_of}
use Rattle.og_grammar.specs.Predictive.{has, part_at, lead_of, are_ranked, ahead, are_apart, is_right_rule, are_right_rules, is_least, is_right_part, are_right_parts, is_known, are_known, is_predictive}
use Rattle.og_grammar.proofs.Known.{and_first, and_second, and_intro}
use Rattle.og_grammar.proofs.Sets.{is_same}
use Rattle.og_grammar.proofs.Leading.{some_is}
use Rattle.og_grammar.proofs.Least.{HasLeast, lt_of}
use Rattle.og_grammar.proofs.Stack.{are_inner, not_is}
use Rattle.og_grammar.proofs.Choices.{IsSound}

part_right : (table : List Symbol) (parts : List Part) (n p : ℕ) → are_right_parts table parts n ≡ true → p < n → is_right_part parts (part_at parts p) (rules_of p table) ≡ true
part_right table parts zero p h lt = absurd (omega arith)
part_right table parts (suc n) p h lt = by (nat_eq p n) refl (λ below. part_right table parts n p (and_second (is_right_part parts (part_at parts n) (rules_of n table)) _ h) below)
  where
    not_same : (a b : ℕ) → nat_eq a b ≡ false → a ≢ b
    not_same a b h = grind (arith, nat_tests)

    by : (b : Bool) → nat_eq p n ≡ b → (p < n → is_right_part parts (part_at parts p) (rules_of p table) ≡ true) → is_right_part parts (part_at parts p) (rules_of p table) ≡ true
    by true e go = subst (λ (q : ℕ). is_right_part parts (part_at parts q) (rules_of q table) ≡ true) (sym (is_same p n e)) (and_first _ (are_right_parts table parts n) h)
    by false e go = let ne = not_same p n e in go (omega arith)

rule_in : (parts : List Part) (part : Part) (seen : ℕ) (rules : List (List Symbol)) (c : ℕ) (way : List Symbol) → are_right_rules parts part seen rules ≡ true → slice_get rules c ≡ Some way → is_right_rule parts part way ≡ true
rule_in parts part seen [] c way r w = absurd cc
rule_in parts part seen (rule ∷ rules) zero way r w =
    let one = and_first (is_right_rule parts part rule && are_apart (ahead parts rule part.follows) seen) (are_right_rules parts part (bit_or seen (ahead parts rule part.follows)) rules) r in
    subst (λ (x : List Symbol). is_right_rule parts part x ≡ true) (some_is rule way w) (and_first _ (are_apart (ahead parts rule part.follows) seen) one)
rule_in parts part seen (rule ∷ rules) (suc c) way r w =
    rule_in parts part (bit_or seen (ahead parts rule part.follows)) rules c way (and_second (is_right_rule parts part rule && are_apart (ahead parts rule part.follows) seen) _ r) w

-- a rule of a part stands in the table, and the part is there
record IsIn (n : ℕ) (p : ℕ) (way : List Symbol) : Type 0 where
  there : p < n
  inner : are_inner n way ≡ true

inner_body : (n : ℕ) (table : List Symbol) → are_known n table ≡ true → are_inner n (body_of table) ≡ true
inner_body n [] h = refl
inner_body n (Rule p ∷ table) h = refl
inner_body n (Token k nesting ∷ table) h = and_intro _ _ (and_first _ (are_known n table) h) (inner_body n table (and_second (is_known n (Token k nesting)) _ h))
inner_body n (symbol.Part p ∷ table) h = and_intro _ _ (and_first _ (are_known n table) h) (inner_body n table (and_second (is_known n (symbol.Part p)) _ h))
inner_body n (Scope p ∷ table) h = and_intro _ _ (and_first _ (are_known n table) h) (inner_body n table (and_second (is_known n (Scope p)) _ h))
inner_body n (Maybe p ∷ table) h = and_intro _ _ (and_first _ (are_known n table) h) (inner_body n table (and_second (is_known n (Maybe p)) _ h))
inner_body n (Many p ∷ table) h = and_intro _ _ (and_first _ (are_known n table) h) (inner_body n table (and_second (is_known n (Many p)) _ h))
inner_body n (NotBefore k ∷ table) h = and_intro _ _ (and_first _ (are_known n table) h) (inner_body n table (and_second (is_known n (NotBefore k)) _ h))

named_by : (n p q : ℕ) (table : List Symbol) (c : ℕ) (way : List Symbol) → are_known n (Rule q ∷ table) ≡ true → (c' : ℕ) → (slice_get (rules_of p table) c' ≡ Some way → IsIn n p way)
    → (b : Bool) → nat_eq q p ≡ b → slice_get (cond b (body_of table ∷ rules_of p table) (rules_of p table)) c ≡ Some way → ((d : ℕ) → slice_get (rules_of p table) d ≡ Some way → IsIn n p way) → IsIn n p way
named_by n p q table c way known c' go false e w all = all c w
named_by n p q table zero way known c' go true e w all =
    let below : q < n = lt_of q n (and_first _ (are_known n table) known) in
    let same : q ≡ p = is_same q p e in
    record { there = subst (λ (x : ℕ). x < n) same below; inner = subst (λ (x : List Symbol). are_inner n x ≡ true) (some_is (body_of table) way w) (inner_body n table (and_second (is_known n (Rule q)) _ known)) }
named_by n p q table (suc c) way known c' go true e w all = all c w

is_in : (n p : ℕ) (table : List Symbol) → are_known n table ≡ true → (c : ℕ) (way : List Symbol) → slice_get (rules_of p table) c ≡ Some way → IsIn n p way
is_in n p [] h c way w = absurd cc
is_in n p (Rule q ∷ table) h c way w = named_by n p q table c way h c (λ z. is_in n p table (and_second (is_known n (Rule q)) _ h) c way z) (nat_eq q p) refl w (λ d z. is_in n p table (and_second (is_known n (Rule q)) _ h) d way z)
is_in n p (Token k nesting ∷ table) h c way w = is_in n p table (and_second (is_known n (Token k nesting)) _ h) c way w
is_in n p (symbol.Part q ∷ table) h c way w = is_in n p table (and_second (is_known n (symbol.Part q)) _ h) c way w
is_in n p (Scope q ∷ table) h c way w = is_in n p table (and_second (is_known n (Scope q)) _ h) c way w
is_in n p (Maybe q ∷ table) h c way w = is_in n p table (and_second (is_known n (Maybe q)) _ h) c way w
is_in n p (Many q ∷ table) h c way w = is_in n p table (and_second (is_known n (Many q)) _ h) c way w
is_in n p (NotBefore k ∷ table) h c way w = is_in n p table (and_second (is_known n (NotBefore k)) _ h) c way w

least_of : (table : List Symbol) (parts : List Part) (p : ℕ) (o : Option (List Symbol)) → slice_get (rules_of p table) (part_at parts p).least ≡ o → is_least parts (part_at parts p) o ≡ true → HasLeast table parts p
least_of table parts p None e h = absurd cc
least_of table parts p (Some way) e h =
    (way, e, and_first _ _ h, is_same (lead_of parts way) (part_at parts p).lead (and_second (are_ranked parts (part_at parts p).rank way) _ h))

pub sound_of : (table : List Symbol) (parts : List Part) (last : ℕ) → is_predictive table parts last ≡ true → IsSound table parts last
sound_of table parts last h =
    let tabled = and_first (are_known (length parts) table && are_right_parts table parts (length parts)) (nat_lt 0 (length parts) && (has (part_at parts 0).follows last && not (has (part_at parts 0).bars last))) h in
    let started = and_second (are_known (length parts) table && are_right_parts table parts (length parts)) (nat_lt 0 (length parts) && (has (part_at parts 0).follows last && not (has (part_at parts 0).bars last))) h in
    let known : are_known (length parts) table ≡ true = and_first _ (are_right_parts table parts (length parts)) tabled in
    let right : are_right_parts table parts (length parts) ≡ true = and_second (are_known (length parts) table) _ tabled in
    let start = and_second (nat_lt 0 (length parts)) (has (part_at parts 0).follows last && not (has (part_at parts 0).bars last)) started in
    let one = λ (p : ℕ) (lt : p < length parts). and_first (are_right_rules parts (part_at parts p) 0 (rules_of p table) && is_least parts (part_at parts p) (slice_get (rules_of p table) (part_at parts p).least)) (nat_le (length (rules_of p table)) 256) (part_right table parts (length parts) p right lt) in
    record {
      fit = record {
        right = λ p c way w. rule_in parts (part_at parts p) 0 (rules_of p table) c way (and_first _ _ (one p (is_in (length parts) p table known c way w).there)) w;
        least = λ p lt. least_of table parts p (slice_get (rules_of p table) (part_at parts p).least) refl (and_second (are_right_rules parts (part_at parts p) 0 (rules_of p table)) _ (one p lt));
      };
      rules = λ p lt. and_first _ _ (one p lt);
      few = λ p lt. le_of (length (rules_of p table)) 256 (and_second (are_right_rules parts (part_at parts p) 0 (rules_of p table) && is_least parts (part_at parts p) (slice_get (rules_of p table) (part_at parts p).least)) _ (part_right table parts (length parts) p right lt));
      inner = λ p c way w. (is_in (length parts) p table known c way w).inner;
      there = λ p c way w. (is_in (length parts) p table known c way w).there;
      first = lt_of 0 (length parts) (and_first _ _ started);
      follows = and_first _ _ start;
      bars = not_is (has (part_at parts 0).bars last) (and_second (has (part_at parts 0).follows last) _ start);
    }
  where
    le_of : (a b : ℕ) → nat_le a b ≡ true → a ≤ b
    le_of a b h = grind (arith, nat_tests)
