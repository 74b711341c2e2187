-- Each kind of tokens of the tables has a token, so that what a table says of kinds holds of tokens.
use Rattle.std.proofs.Common.{◌≡◌, ℕ, zero, suc, ◌+◌, ◌<◌, ◌≤◌, Bool, true, false, ◌&&◌, List, [], ◌∷◌, ◌++◌, length, inl, inr, Some, slice_get, nat_eq, nat_lt, take, refl, sym, ap, subst, ◌∙◌, arith, append_assoc}
use Rattle.std.proofs.lemmas.Bool.Decides.{nat_tests}
use Rattle.std.specs.List.{list_all}
use Rattle.og_base.specs.declared.Place.{Place}
use Rattle.og_base.specs.declared.ModelError.{ModelError}
use Rattle.og_base.specs.declared.ModelError.TheVariants.{Broken, NoMemory}
use Rattle.og_base.specs.declared.Rule.TheVariants.{S1, S2}
use Rattle.og_base.specs.declared.Violation.{Violation}
use Rattle.og_lexer.specs.declared.Keyword.TheVariants as word
use Rattle.og_lexer.specs.declared.Mark.TheVariants as mark
use Rattle.og_lexer.specs.declared.Spanned.{Spanned}
use Rattle.og_lexer.specs.declared.Token.{Token as TheToken}
use Rattle.og_lexer.specs.declared.Token.TheVariants as token
use Rattle.og_grammar.specs.declared.Nesting.{Nesting}
use Rattle.og_grammar.specs.declared.Nesting.TheVariants.{Keeps}
use Rattle.og_grammar.specs.declared.Symbol.{Symbol}
use Rattle.og_grammar.specs.declared.Symbol.TheVariants.{Rule, Token, Scope, Maybe, Many, NotBefore}
use Rattle.og_grammar.specs.declared.Symbol.TheVariants as symbol
use Rattle.og_grammar.specs.Sentence.{ways, Derives, nothing, token as met, passes, chosen, Spells, whole}
use Rattle.og_grammar.specs.Answers.{BeginSome, IsFirstWrong, IsFirstTooDeep}
use Rattle.og_grammar.proofs.Known.{and_intro, and_first, and_second, some_is, rule_all}
use Rattle.og_grammar.proofs.Leading.{head_is, tail_is}
use Rattle.og_reading.specs.declared.kind.TheConstants.{LAST}
use Rattle.og_reading.specs.declared.sentence.TheConstants.{LIMIT}
use Rattle.og_reading.specs.Kinds.{kind_of, kinds_of}
use Rattle.og_reading.specs.Reading.{Take}
use Rattle.og_reading.specs.Fronts.{Text}
use Rattle.og_reading.specs.Sentences.{is_low, Whole, BeginsText, IsFirstForeign, IsWrongAt, FirstSyntactic, Breaks, SaysWrong}
use Rattle.og_reading.proofs.ReadParts.{Reads}
use Rattle.og_reading.proofs.WrittenParts.{Writes}
use Rattle.og_reading.proofs.Whole.{made_of, whole_read, whole_written}

-- a token of each kind, in their order
abbrev samples : List TheToken
samples =
    token.Name (record { bytes = 120 ∷ [] }) ∷ token.Number 0 ∷ token.Text (record { bytes = [] }) ∷ token.End ∷ token.Mark mark.Semicolon ∷ token.Mark mark.Comma ∷ token.Mark mark.Colon
    ∷ token.Mark mark.Assign ∷ token.Mark mark.LeftParenthesis ∷ token.Mark mark.RightParenthesis ∷ token.Mark mark.LeftBrace ∷ token.Mark mark.RightBrace ∷ token.Mark mark.FullStop
    ∷ token.Mark mark.Exclamation ∷ token.Mark mark.Plus ∷ token.Mark mark.Minus ∷ token.Mark mark.Asterisk ∷ token.Mark mark.Solidus ∷ token.Mark mark.Equal ∷ token.Mark mark.NotEqual
    ∷ token.Mark mark.Less ∷ token.Mark mark.LessOrEqual ∷ token.Mark mark.Greater ∷ token.Mark mark.GreaterOrEqual ∷ token.Keyword word.Aggregation ∷ token.Keyword word.And ∷ token.Keyword word.Any
    ∷ token.Keyword word.Block ∷ token.Keyword word.Call ∷ token.Keyword word.Channel ∷ token.Keyword word.Comment ∷ token.Keyword word.Connect ∷ token.Keyword word.Connection ∷ token.Keyword word.Dcl
    ∷ token.Keyword word.Decision ∷ token.Keyword word.Else ∷ token.Keyword word.Endblock ∷ token.Keyword word.Endchannel ∷ token.Keyword word.Endconnection ∷ token.Keyword word.Enddecision
    ∷ token.Keyword word.Endprocedure ∷ token.Keyword word.Endprocess ∷ token.Keyword word.Endstate ∷ token.Keyword word.Endsubstructure ∷ token.Keyword word.Endsystem ∷ token.Keyword word.Env
    ∷ token.Keyword word.External ∷ token.Keyword word.False ∷ token.Keyword word.Fpar ∷ token.Keyword word.From ∷ token.Keyword word.In ∷ token.Keyword word.Input ∷ token.Keyword word.Join
    ∷ token.Keyword word.Mod ∷ token.Keyword word.Nextstate ∷ token.Keyword word.Not ∷ token.Keyword word.Or ∷ token.Keyword word.Out ∷ token.Keyword word.Output ∷ token.Keyword word.Priority
    ∷ token.Keyword word.Procedure ∷ token.Keyword word.Process ∷ token.Keyword word.Provided ∷ token.Keyword word.Referenced ∷ token.Keyword word.Rem ∷ token.Keyword word.Return
    ∷ token.Keyword word.Returns ∷ token.Keyword word.Save ∷ token.Keyword word.Signal ∷ token.Keyword word.Signalroute ∷ token.Keyword word.Start ∷ token.Keyword word.State ∷ token.Keyword word.Stop
    ∷ token.Keyword word.Substructure ∷ token.Keyword word.System ∷ token.Keyword word.Task ∷ token.Keyword word.Then ∷ token.Keyword word.Timer ∷ token.Keyword word.To ∷ token.Keyword word.True
    ∷ token.Keyword word.Use ∷ token.Keyword word.Via ∷ token.Keyword word.With ∷ token.Keyword word.Xor ∷ []

abbrev each_right : ℕ → List TheToken → Bool
each_right i [] = true
each_right i (t ∷ ts) = nat_eq (kind_of t) i && each_right (suc i) ts

samples_right : each_right 0 samples ≡ true
samples_right = refl

-- the token at a place is of the kind of its place
right_at : (ts : List TheToken) (i j : ℕ) → each_right i ts ≡ true → j < length ts → (t : TheToken) × (kind_of t ≡ i + j)
right_at [] i j r lt = absurd (omega arith)
right_at (t ∷ ts) i zero r lt =
    let same : nat_eq (kind_of t) i ≡ true = and_first (nat_eq (kind_of t) i) (each_right (suc i) ts) r in
    (t, grind (arith, nat_tests))
right_at (t ∷ ts) i (suc j) r lt =
    let more = right_at ts (suc i) j (and_second (nat_eq (kind_of t) i) (each_right (suc i) ts) r) (omega arith) in
    let e : suc i + j ≡ i + suc j = omega arith in
    (more.0, more.1 ∙ e)

sample_of : (k : ℕ) → nat_lt k 84 ≡ true → (t : TheToken) × (kind_of t ≡ k)
sample_of k lt = let r = right_at samples 0 k samples_right (grind (arith, nat_tests)) in let same : 0 + k ≡ k = omega arith in (r.0, r.1 ∙ same)

abbrev are_low : List ℕ → Bool
are_low ks = list_all (λ k. nat_lt k 84) ks

-- tokens of such kinds
tokens_of : (ks : List ℕ) → are_low ks ≡ true → (ts : List Spanned) × (kinds_of ts ≡ ks)
tokens_of [] low = ([], refl)
tokens_of (k ∷ ks) low =
    let t = sample_of k (and_first (nat_lt k 84) (are_low ks) low) in
    let ts = tokens_of ks (and_second (nat_lt k 84) (are_low ks) low) in
    let place : Place = record { file = 0; line = 0; column = 0 } in
    (record { token = t.0; place = place; start = 0; «end» = 0 } ∷ ts.0, ap (λ (n : ℕ). n ∷ kinds_of ts.0) t.1 ∙ ap (λ (z : List ℕ). k ∷ z) ts.1)

low-append : (xs ys : List Symbol) → list_all is_low xs ≡ true → list_all is_low ys ≡ true → list_all is_low (xs ++ ys) ≡ true
low-append [] ys h i = i
low-append (x ∷ xs) ys h i =
    and_intro (is_low x) (list_all is_low (xs ++ ys)) (and_first (is_low x) (list_all is_low xs) h) (low-append xs ys (and_second (is_low x) (list_all is_low xs) h) i)

low_behind : (xs ys : List ℕ) → are_low (xs ++ ys) ≡ true → are_low ys ≡ true
low_behind [] ys h = h
low_behind (x ∷ xs) ys h = low_behind xs ys (and_second (nat_lt x 84) (are_low (xs ++ ys)) h)

module _ (table : List Symbol) (low : list_all is_low table ≡ true) where
  low_way : (s : Symbol) (c : ℕ) (way : List Symbol) → slice_get (ways table s) c ≡ Some way → list_all is_low way ≡ true
  low_way (Rule p) c way w = absurd cc
  low_way (Token k nesting) c way w = absurd cc
  low_way (NotBefore k) c way w = absurd cc
  low_way (symbol.Part p) c way w = rule_all is_low p table low c way w
  low_way (Scope p) c way w = rule_all is_low p table low c way w
  low_way (Maybe p) zero way w = subst (λ (x : List Symbol). list_all is_low x ≡ true) (some_is [] way w) refl
  low_way (Maybe p) (suc zero) way w = subst (λ (x : List Symbol). list_all is_low x ≡ true) (some_is (symbol.Part p ∷ []) way w) refl
  low_way (Maybe p) (suc (suc c)) way w = absurd cc
  low_way (Many p) zero way w = subst (λ (x : List Symbol). list_all is_low x ≡ true) (some_is [] way w) refl
  low_way (Many p) (suc zero) way w = subst (λ (x : List Symbol). list_all is_low x ≡ true) (some_is (symbol.Part p ∷ Many p ∷ []) way w) refl
  low_way (Many p) (suc (suc c)) way w = absurd cc

  low_tokens : {symbols : List Symbol} {tokens choices : List ℕ} → Derives table symbols tokens choices → list_all is_low symbols ≡ true → are_low tokens ≡ true
  low_tokens nothing h = refl
  low_tokens (met {k = k} {nesting = n} {symbols = ss} {tokens = ts} d) h =
      and_intro (nat_lt k 84) (are_low ts) (and_first (is_low (Token k n)) (list_all is_low ss) h) (low_tokens d (and_second (is_low (Token k n)) (list_all is_low ss) h))
  low_tokens (passes {k = k} {symbols = ss} apart d) h = low_tokens d (and_second (is_low (NotBefore k)) (list_all is_low ss) h)
  low_tokens (chosen {symbols = ss} s c way w d) h = low_tokens d (low-append way ss (low_way s c way w) (and_second (is_low s) (list_all is_low ss) h))

other_rule : S1 ≡ S2 → ⊥
other_rule e = cc

-- the kinds of the first tokens
kinds_front : (tokens : List Spanned) (front behind : List ℕ) → kinds_of tokens ≡ front ++ behind → kinds_of (take (length front) tokens) ≡ front
kinds_front tokens [] behind e = refl
kinds_front [] (f ∷ front) behind e = absurd (let no : ⊥ = cc in no)
kinds_front (t ∷ ts) (f ∷ front) behind e = ap (λ (k : ℕ). k ∷ kinds_of (take (length front) ts)) (head_is e) ∙ ap (λ (z : List ℕ). f ∷ z) (kinds_front ts front behind (tail_is e))

kinds-append : (xs ys : List Spanned) → kinds_of (xs ++ ys) ≡ kinds_of xs ++ kinds_of ys
kinds-append [] ys = refl
kinds-append (x ∷ xs) ys = ap (λ (z : List ℕ). kind_of x.token ∷ z) (kinds-append xs ys)

module _ {X : Type 0} (table : List Symbol) (low : list_all is_low table ≡ true) (take_ : ℕ → Take X) (Is : X → Text) (reads : (n : ℕ) → Reads table n (symbol.Part 0 ∷ []) (take_ n) Is)
    (writes : (x : X) (ts us : List Spanned) → Is x ts us → Writes table (symbol.Part 0 ∷ []) take_ x ts us) where
  -- what begins a sentence begins a text
  begins_text : (front : List Spanned) (more choices : List ℕ) → Spells table LAST (kinds_of front ++ more) choices → BeginsText Is front
  begins_text front more choices d =
      let behind = tokens_of more (low_behind (kinds_of front) more (low_tokens table low d refl)) in
      let same : kinds_of (front ++ behind.0) ≡ kinds_of front ++ more = kinds-append front behind.0 ∙ ap (λ (z : List ℕ). kinds_of front ++ z) behind.1 in
      let here = subst (λ (z : List ℕ). Spells table LAST z choices) (sym same) d in
      record { more = behind.0; x = made_of table take_ Is choices (front ++ behind.0); is = whole_read table take_ Is reads (front ++ behind.0) choices here }

  first_foreign : (tokens : List Spanned) (number : ℕ) → IsFirstWrong table LAST LIMIT (kinds_of tokens) number → IsFirstForeign Is tokens number
  first_foreign tokens number w =
      let upto : kinds_of (take number tokens) ≡ w.front = ap (λ (n : ℕ). kinds_of (take n tokens)) (sym w.before) ∙ kinds_front tokens w.front (w.wrong ∷ w.behind) w.parts in
      let long : suc number ≡ length (w.front ++ w.wrong ∷ []) = ap suc (sym w.before) ∙ sym (one_longer w.front) in
      let beyond : kinds_of (take (suc number) tokens) ≡ w.front ++ w.wrong ∷ [] = ap (λ (n : ℕ). kinds_of (take n tokens)) long
      ∙ kinds_front tokens (w.front ++ w.wrong ∷ []) w.behind (w.parts ∙ sym (append_assoc w.front (w.wrong ∷ []) w.behind)) in
      record {
        begins = begins_text (take number tokens) w.begins.more w.begins.choices (subst (λ (z : List ℕ). Spells table LAST (z ++ w.begins.more) w.begins.choices) (sym upto) w.begins.spells);
        none = λ more x i.
            (let s = whole_written table take_ Is writes x (take (suc number) tokens ++ more) i in
            let same : kinds_of (take (suc number) tokens ++ more) ≡ w.front ++ w.wrong ∷ kinds_of more = kinds-append (take (suc number) tokens) more ∙ ap (λ (z : List ℕ). z ++ kinds_of more) beyond
            ∙ append_assoc w.front (w.wrong ∷ []) (kinds_of more) in
            w.none (kinds_of more) s.0 (subst (λ (z : List ℕ). Spells table LAST z s.0) same s.1));
      }
    where
      one_longer : (xs : List ℕ) → length (xs ++ w.wrong ∷ []) ≡ suc (length xs)
      one_longer [] = refl
      one_longer (x ∷ xs) = ap suc (one_longer xs)

  pub says_wrong : (tokens : List Spanned) (e : ModelError) → Breaks table tokens e → SaysWrong Is tokens e
  says_wrong tokens (Broken v) (inl w) = λ rule. (w.number, w.place, first_foreign tokens w.number w.first)
  says_wrong tokens (Broken v) (inr w) = λ rule. absurd (other_rule (sym rule ∙ w.rule))
  says_wrong tokens (NoMemory want) b = tt
