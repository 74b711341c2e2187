-- What sets of names and numbers keep that were met so far.
use Rattle.std.specs.Prelude.{◌≡◌, ℕ, Bool, List, ℤ, is_some}
use Rattle.std.specs.List.{list_any}
use Rattle.std.specs.Str.{bytes_eq}
use Rattle.std.specs.Ordering.{int_eq}
use Rattle.og_asn1.specs.declared.syntax.Name.{Name}
use Rattle.og_names.specs.Folding.{place_of}
use Rattle.og_dataview.specs.declared.repeats.Met.{Met}
use Rattle.og_dataview.specs.Scope.{key}
use Rattle.og_dataview.specs.Violations.{is_given}

-- whether one of the names is spelt so, and whether one folds so
abbrev pub is_spelt : List Name → List ℕ → Bool
is_spelt names bytes = list_any (λ (n : Name). bytes_eq bytes n.word.bytes) names

abbrev pub is_folded : List Name → List ℕ → Bool
is_folded names bytes = list_any (λ (n : Name). bytes_eq bytes (key n)) names

-- whether a word is one of these
abbrev pub has_word : List (List ℕ) → List ℕ → Bool
has_word words bytes = list_any (bytes_eq bytes) words

-- the sets have the spellings and the folded forms of these names
pub record IsMet (names : List Name) (met : Met) : Type 0 where
  pub spelt : (bytes : List ℕ) → has_word met.spelt bytes ≡ is_spelt names bytes
  pub folded : (bytes : List ℕ) → is_some (place_of met.folded bytes) ≡ is_folded names bytes

-- the set has these numbers
pub record AreMet (numbers keys : List ℤ) : Type 0 where
  pub has : (z : ℤ) → list_any (int_eq z) keys ≡ is_given numbers z
