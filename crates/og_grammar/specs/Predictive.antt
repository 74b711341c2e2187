-- Which tables can be read from left to right with one token ahead (the LL(1) grammars of the literature), as a test that
-- computes. It takes what `Part` says of each part for granted, and verifies that each rule agrees with it.
use Rattle.std.specs.Prelude.{ℕ, zero, suc, ◌+◌, ◌^◌, Bool, true, false, ◌&&◌, ◌||◌, not, List, [], ◌∷◌, length, Option, Some, None, unwrap_or, slice_get, if◌then◌else◌, nat_lt, nat_le, ◌==◌, bit_and, bit_or, bit_xor}
use Rattle.std.specs.Int.{bit_at}
use Rattle.og_grammar.specs.declared.Symbol.{Symbol}
use Rattle.og_grammar.specs.declared.Symbol.TheVariants.{Rule, Token, Scope, Maybe, Many, NotBefore}
use Rattle.og_grammar.specs.declared.Symbol.TheVariants as symbol
use Rattle.og_grammar.specs.declared.Part.{Part}
use Rattle.og_grammar.specs.Sentence.{rules_of}

-- ---- sets of kinds

abbrev pub has : ℕ → ℕ → Bool
has set k = bit_at set k == 1

abbrev pub without : ℕ → ℕ → ℕ
without set k = if has set k then bit_xor set (2 ^ k) else set

abbrev pub is_within : ℕ → ℕ → Bool
is_within a b = bit_or a b == b

abbrev pub are_apart : ℕ → ℕ → Bool
are_apart a b = bit_and a b == 0

-- ---- what is said of a part

abbrev pub no_part : Part
no_part = record { begins = 0; follows = 0; empty = false; weight = 0; rank = 0; least = 0; lead = 0; bars = 0 }

abbrev pub part_at : List Part → ℕ → Part
part_at parts p = unwrap_or (slice_get parts p) no_part

-- whether the symbol may have no token
abbrev pub is_empty : List Part → Symbol → Bool
is_empty parts (Rule p) = false
is_empty parts (Token k nesting) = false
is_empty parts (symbol.Part p) = (part_at parts p).empty
is_empty parts (Scope p) = (part_at parts p).empty
is_empty parts (Maybe p) = true
is_empty parts (Many p) = true
is_empty parts (NotBefore k) = true

abbrev pub are_empty : List Part → List Symbol → Bool
are_empty parts [] = true
are_empty parts (s ∷ ss) = is_empty parts s && are_empty parts ss

-- the kinds with which a text of the symbol begins, where the kinds behind it are these
abbrev pub ahead_of : List Part → Symbol → ℕ → ℕ
ahead_of parts (Rule p) behind = 0
ahead_of parts (Token k nesting) behind = 2 ^ k
ahead_of parts (symbol.Part p) behind = bit_or (part_at parts p).begins (if (part_at parts p).empty then behind else 0)
ahead_of parts (Scope p) behind = bit_or (part_at parts p).begins (if (part_at parts p).empty then behind else 0)
ahead_of parts (Maybe p) behind = bit_or (part_at parts p).begins behind
ahead_of parts (Many p) behind = bit_or (part_at parts p).begins behind
ahead_of parts (NotBefore k) behind = without behind k

abbrev pub ahead : List Part → List Symbol → ℕ → ℕ
ahead parts [] behind = behind
ahead parts (s ∷ ss) behind = ahead_of parts s (ahead parts ss behind)

-- the kinds that may stand behind the symbol
abbrev pub may_follow : List Part → Symbol → ℕ → Bool
may_follow parts (Rule p) set = true
may_follow parts (Token k nesting) set = true
may_follow parts (symbol.Part p) set = is_within set (part_at parts p).follows
may_follow parts (Scope p) set = is_within set (part_at parts p).follows
may_follow parts (Maybe p) set = is_within set (part_at parts p).follows && (are_apart (part_at parts p).begins set && not (part_at parts p).empty)
may_follow parts (Many p) set = is_within set (part_at parts p).follows && (are_apart (part_at parts p).begins set && (not (part_at parts p).empty && is_within (part_at parts p).begins (part_at parts p).follows))
may_follow parts (NotBefore k) set = true

-- the kinds that need not be able to stand behind the symbol
abbrev pub bars_of : List Part → Symbol → ℕ
bars_of parts (Rule p) = 0
bars_of parts (Token k nesting) = 0
bars_of parts (symbol.Part p) = (part_at parts p).bars
bars_of parts (Scope p) = (part_at parts p).bars
bars_of parts (Maybe p) = (part_at parts p).bars
bars_of parts (Many p) = (part_at parts p).bars
bars_of parts (NotBefore k) = 2 ^ k

-- the kind with which the least text of the symbols begins, as a set
abbrev pub lead_of : List Part → List Symbol → ℕ
lead_of parts [] = 0
lead_of parts (Rule p ∷ ss) = lead_of parts ss
lead_of parts (Token k nesting ∷ ss) = 2 ^ k
lead_of parts (symbol.Part p ∷ ss) = if (part_at parts p).lead == 0 then lead_of parts ss else (part_at parts p).lead
lead_of parts (Scope p ∷ ss) = if (part_at parts p).lead == 0 then lead_of parts ss else (part_at parts p).lead
lead_of parts (Maybe p ∷ ss) = lead_of parts ss
lead_of parts (Many p ∷ ss) = lead_of parts ss
lead_of parts (NotBefore k ∷ ss) = lead_of parts ss

-- the least text of the symbols behind, with something behind it that begins with none of `bars`, begins with no kind of `set`
abbrev pub is_clear : ℕ → ℕ → ℕ → Bool
is_clear set lead bars = if lead == 0 then is_within set bars else are_apart lead set

-- each symbol may stand before those behind it
abbrev pub are_placed : List Part → List Symbol → ℕ → ℕ → Bool
are_placed parts [] behind bars = true
are_placed parts (s ∷ ss) behind bars =
    (may_follow parts s (ahead parts ss behind) && is_clear (bars_of parts s) (lead_of parts ss) bars) && are_placed parts ss behind bars

-- ---- the weight of what may be taken up before the next token is

abbrev pub weight_of : List Part → Symbol → ℕ
weight_of parts (Rule p) = 0
weight_of parts (Token k nesting) = 0
weight_of parts (symbol.Part p) = (part_at parts p).weight
weight_of parts (Scope p) = suc (part_at parts p).weight
weight_of parts (Maybe p) = suc (suc (part_at parts p).weight)
weight_of parts (Many p) = suc (suc (part_at parts p).weight)
weight_of parts (NotBefore k) = 1

abbrev pub weights : List Part → List Symbol → ℕ
weights parts [] = 0
weights parts (s ∷ ss) = weight_of parts s + (if is_empty parts s then weights parts ss else 0)

-- ---- ranks

abbrev pub is_ranked : List Part → ℕ → Symbol → Bool
is_ranked parts n (symbol.Part p) = nat_lt (part_at parts p).rank n && nat_lt p (length parts)
is_ranked parts n (Scope p) = nat_lt (part_at parts p).rank n && nat_lt p (length parts)
is_ranked parts n (Rule p) = false
is_ranked parts n (Token k nesting) = true
is_ranked parts n (Maybe p) = true
is_ranked parts n (Many p) = true
is_ranked parts n (NotBefore k) = true

abbrev pub are_ranked : List Part → ℕ → List Symbol → Bool
are_ranked parts n [] = true
are_ranked parts n (s ∷ ss) = is_ranked parts n s && are_ranked parts n ss

-- ---- the test

-- a rule agrees with what is said of its part and of the parts in it
abbrev pub is_right_rule : List Part → Part → List Symbol → Bool
is_right_rule parts part rule =
    (is_within (ahead parts rule 0) part.begins && (not (are_empty parts rule) || part.empty))
    && (are_placed parts rule part.follows part.bars && nat_lt (weights parts rule) part.weight)

-- the rules agree, and no two of them may begin alike
abbrev pub are_right_rules : List Part → Part → ℕ → List (List Symbol) → Bool
are_right_rules parts part seen [] = true
are_right_rules parts part seen (rule ∷ rules) =
    (is_right_rule parts part rule && are_apart (ahead parts rule part.follows) seen)
    && are_right_rules parts part (bit_or seen (ahead parts rule part.follows)) rules

abbrev pub is_least : List Part → Part → Option (List Symbol) → Bool
is_least parts part None = false
is_least parts part (Some rule) = are_ranked parts part.rank rule && (lead_of parts rule == part.lead)

abbrev pub is_right_part : List Part → Part → List (List Symbol) → Bool
is_right_part parts part rules = (are_right_rules parts part 0 rules && is_least parts part (slice_get rules part.least)) && nat_le (length rules) 256

-- the parts below n
abbrev pub are_right_parts : List Symbol → List Part → ℕ → Bool
are_right_parts table parts zero = true
are_right_parts table parts (suc n) = is_right_part parts (part_at parts n) (rules_of n table) && are_right_parts table parts n

-- kinds are below 128, and parts are there
abbrev pub is_known : ℕ → Symbol → Bool
is_known n (Rule p) = nat_lt p n
is_known n (symbol.Part p) = nat_lt p n
is_known n (Scope p) = nat_lt p n
is_known n (Maybe p) = nat_lt p n
is_known n (Many p) = nat_lt p n
is_known n (Token k nesting) = nat_lt k 128
is_known n (NotBefore k) = nat_lt k 128

abbrev pub are_known : ℕ → List Symbol → Bool
are_known n [] = true
are_known n (s ∷ ss) = is_known n s && are_known n ss

-- the table can be read from left to right: what is said of each part holds of its rules, and part 0 may stand before the last token
abbrev pub is_predictive : List Symbol → List Part → ℕ → Bool
is_predictive table parts last =
    (are_known (length parts) table && are_right_parts table parts (length parts))
    && (nat_lt 0 (length parts) && (has (part_at parts 0).follows last && not (has (part_at parts 0).bars last)))
