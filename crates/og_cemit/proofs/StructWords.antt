-- Structs of different types have different names.
use Rattle.std.proofs.Common.{◌≡◌, ℕ, ◌<◌, ◌^◌, List, [], ◌∷◌, ◌++◌, false, ap}
use Rattle.std.specs.Prelude.{decimal}
use Rattle.std.specs.Str.{bytes_eq}
use Rattle.std.proofs.lemmas.Fmt.{decimal_injective}
use Rattle.og_cemit.specs.Structs.{struct_word}
use Rattle.og_cemit.proofs.Names.{other_bytes}

append_same : (front xs ys : List ℕ) → front ++ xs ≡ front ++ ys → xs ≡ ys
append_same [] xs ys e = e
append_same (x ∷ front) xs ys e = append_same front xs ys (ap rest_of e)
  where
    rest_of : List ℕ → List ℕ
    rest_of [] = []
    rest_of (y ∷ l) = l

pub struct_words_differ : (prefix : List ℕ) (j k : ℕ) → j < 2 ^ 64 → k < 2 ^ 64 → (j ≡ k → ⊥)
    → bytes_eq (struct_word prefix j).bytes (struct_word prefix k).bytes ≡ false
struct_words_differ prefix j k less less' other =
    other_bytes (prefix ++ decimal j) (prefix ++ decimal k) (λ e. other (decimal_injective j k less less' (append_same prefix (decimal j) (decimal k) e)))
