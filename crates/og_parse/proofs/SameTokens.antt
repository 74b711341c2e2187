-- Files of the same tokens are read alike, wherever their tokens stand.
use Rattle.std.proofs.Common.{◌≡◌, ℕ, zero, suc, List, [], ◌∷◌, Some, slice_get, length, ◌⊎◌, inl, inr, refl, sym, ap, subst, ◌∙◌, IsTrue}
use Rattle.og_base.specs.declared.Violation.{Violation}
use Rattle.og_lexer.specs.declared.Spanned.{Spanned}
use Rattle.og_ast.specs.declared.system.Unit.{Unit as UnitTree}
use Rattle.og_sdl.specs.declared.table.TheConstants.{SDL, SDL_PARTS}
use Rattle.og_grammar.specs.Predictive.{is_predictive}
use Rattle.og_grammar.specs.Sentence.{Spells}
use Rattle.og_grammar.specs.Answers.{IsFirstWrong, IsFirstTooDeep}
use Rattle.og_grammar.proofs.Unique.{one_derivation}
use Rattle.og_reading.specs.declared.kind.TheConstants.{LAST}
use Rattle.og_reading.specs.declared.sentence.TheConstants.{LIMIT}
use Rattle.og_reading.specs.Kinds.{kind_of, kinds_of}
use Rattle.og_reading.specs.Sentences.{StandsAt, FirstSyntactic}
use Rattle.og_reading.proofs.WrittenParts.{left}
use Rattle.og_reading.proofs.Whole.{is_text, whole_written}
use Rattle.og_parse.specs.Reading.{units_at, units_of}
use Rattle.og_parse.specs.Grammar.{IsFile, AreUnits}
use Rattle.og_parse.specs.Alike.{words_of, AreAlike, StandsAtOne}
use Rattle.og_parse.proofs.ReadUnits.{reads_file}
use Rattle.og_parse.proofs.WrittenUnits.{writes_file}
use Rattle.og_parse.proofs.Beside.{SameWords, same_words}
use Rattle.og_parse.proofs.AlikeUnits.{agree_units}

same_kinds : (ts us : List Spanned) → SameWords ts us → kinds_of ts ≡ kinds_of us
same_kinds [] [] s = refl
same_kinds [] (u ∷ us) s = absurd s
same_kinds (t ∷ ts) [] s = absurd s
same_kinds (t ∷ ts) (u ∷ us) s = ap (λ (k : ℕ). k ∷ kinds_of ts) (ap kind_of s.0) ∙ ap (λ (ks : List ℕ). kind_of u.token ∷ ks) (same_kinds ts us s.1)

kinds : (ts us : List Spanned) → words_of ts ≡ words_of us → kinds_of ts ≡ kinds_of us
kinds ts us e = same_kinds ts us (same_words ts us e)

token_beside : (ts us : List Spanned) → SameWords ts us → (n : ℕ) (t : Spanned) → slice_get ts n ≡ Some t → (u : Spanned) × (slice_get us n ≡ Some u)
token_beside [] us s zero t e = absurd cc
token_beside [] us s (suc n) t e = absurd cc
token_beside (v ∷ ts) [] s n t e = absurd s
token_beside (v ∷ ts) (u ∷ us) s zero t e = (u, refl)
token_beside (v ∷ ts) (u ∷ us) s (suc n) t e = token_beside ts us s.1 n t e

pub alike : IsTrue (is_predictive SDL SDL_PARTS LAST) → (tokens others : List Spanned) (a b : List UnitTree) → words_of tokens ≡ words_of others → AreUnits a tokens → AreUnits b others → AreAlike a b
alike known tokens others a b e i j =
    let v = whole_written SDL units_at IsFile writes_file a tokens i.0 in
    let w = whole_written SDL units_at IsFile writes_file b others j.0 in
    let one = one_derivation SDL SDL_PARTS LAST known (kinds_of tokens) v.0 w.0 v.1 (subst (λ (k : List ℕ). Spells SDL LAST k w.0) (sym (kinds tokens others e)) w.1) in
    let f = (agree_units (length v.0)).by (left v.0 tokens) (left v.0 others) (record { choices = refl; words = same_words tokens others e }) in
    subst (λ (z : List UnitTree). AreAlike z b) (sym v.2)
    (subst (AreAlike (units_of v.0 tokens)) (ap (λ (cs : List ℕ). units_of cs others) one ∙ sym w.2) f.is)

pub read_too : (tokens others : List Spanned) (a : List UnitTree) → words_of tokens ≡ words_of others → AreUnits a tokens → (b : List UnitTree) × AreUnits b others
read_too tokens others a e i =
    let n = i.1 in
    let spells = subst (λ (k : List ℕ). Spells SDL LAST k n.choices) (kinds tokens others e) n.derived in
    (units_of n.choices others, is_text SDL units_at IsFile reads_file others n.choices (units_of n.choices others) (record { spells = spells; counts = n.counts; nests = n.nests; within = n.within }) refl)

pub broken_too : (tokens others : List Spanned) (v : Violation) → words_of tokens ≡ words_of others → FirstSyntactic SDL tokens v
    → (w : Violation) × FirstSyntactic SDL others w × (w.rule ≡ v.rule) × StandsAtOne tokens v others w
broken_too tokens others v e (inl b) =
    let u = token_beside tokens others (same_words tokens others e) b.number b.place.0 b.place.1 in
    let first = subst (λ (k : List ℕ). IsFirstWrong SDL LAST LIMIT k b.number) (kinds tokens others e) b.first in
    (record { rule = v.rule; place = u.0.place }, inl (record { number = b.number; first = first; rule = b.rule; place = (u.0, u.1, refl) }), refl, (b.number, b.place, (u.0, u.1, refl)))
broken_too tokens others v e (inr b) =
    let u = token_beside tokens others (same_words tokens others e) b.number b.place.0 b.place.1 in
    let first = subst (λ (k : List ℕ). IsFirstTooDeep SDL LAST LIMIT k b.number) (kinds tokens others e) b.first in
    (record { rule = v.rule; place = u.0.place }, inr (record { number = b.number; first = first; rule = b.rule; place = (u.0, u.1, refl) }), refl, (b.number, b.place, (u.0, u.1, refl)))
