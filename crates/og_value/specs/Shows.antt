-- The text that a value shows: numbers without zeros in front, TRUE and FALSE in capitals, folded names, `, ` between two
-- values or components, `: ` behind the name of an alternative, and one blank behind that of a component. The types are those
-- of a subset of ASN.1 (X.680 clauses 18 to 20, 25, 26 and 29), the texts this project's own. A type refers to smaller
-- numbers only, so the search that starts at type n goes down at most n + 1 times.
use Rattle.std.specs.Prelude.{ℕ, zero, suc, Bool, List, [], ◌∷◌, ◌++◌, map, codes, slice_get, Option, Some, None, if◌then◌else◌}
use Rattle.std.specs.Fmt.{signed_decimal}
use Rattle.og_names.specs.declared.NameId.{NameId}
use Rattle.og_types.specs.declared.TypeId.{TypeId}
use Rattle.og_types.specs.declared.Part.{Part}
use Rattle.og_types.specs.declared.Sort.{Sort}
use Rattle.og_types.specs.declared.Sort.TheVariants as Sorts
use Rattle.og_types.specs.declared.Value.{Value, Value-F, out-Value}
use Rattle.og_types.specs.declared.Value.TheOpen as Open
use Rattle.og_value.specs.Reads.{Names}

abbrev pub text_or_none : Option (List ℕ) → List ℕ
text_or_none None = []
text_or_none (Some text) = text

abbrev pub name_text : Names → NameId → List ℕ
name_text names id = text_or_none (slice_get names id.0)

abbrev pub enumerator_text : Names → Option NameId → List ℕ
enumerator_text names None = []
enumerator_text names (Some id) = name_text names id

abbrev pub truth_text : Bool → List ℕ
truth_text b = if b then codes "TRUE" else codes "FALSE"

-- what stands before a text that comes after so many others
abbrev pub comma_before : ℕ → List ℕ
comma_before zero = []
comma_before (suc n) = codes ", "

-- with `, ` between two of them
abbrev pub separated : List (List ℕ) → List ℕ
separated [] = []
separated (text ∷ []) = text
separated (text ∷ other ∷ texts) = text ++ (codes ", " ++ separated (other ∷ texts))

abbrev pub braced : List (List ℕ) → List ℕ
braced texts = codes "{" ++ (separated texts ++ codes "}")

-- a component with its name
abbrev pub part_text : (TypeId → Value → List ℕ) → Names → Part → Value → List ℕ
part_text show names p v = name_text names p.name ++ (codes " " ++ show p.sort v)

abbrev pub part_texts : (TypeId → Value → List ℕ) → Names → List Part → List Value → List (List ℕ)
part_texts show names [] vs = []
part_texts show names (p ∷ parts) [] = []
part_texts show names (p ∷ parts) (v ∷ vs) = part_text show names p v ∷ part_texts show names parts vs

abbrev pub alternative_text : (TypeId → Value → List ℕ) → Names → Option Part → Value → List ℕ
alternative_text show names None v = []
alternative_text show names (Some p) v = name_text names p.name ++ (codes ": " ++ show p.sort v)

-- the text of a value of a type, where those of the types that it refers to are given; nothing where it is no value of it
abbrev pub text_of_sort : (TypeId → Value → List ℕ) → Names → Option Sort → Value-F Value → List ℕ
text_of_sort show names (Some (Sorts.Int lo hi)) (Open.Int z) = signed_decimal z
text_of_sort show names (Some Sorts.Bool) (Open.Bool b) = truth_text b
text_of_sort show names (Some (Sorts.Enumerated ids numbers)) (Open.Enumerated k) = enumerator_text names (slice_get ids k)
text_of_sort show names (Some (Sorts.Sequence parts)) (Open.Sequence vs) = braced (part_texts show names parts vs)
text_of_sort show names (Some (Sorts.Choice parts)) (Open.Choice k v) = alternative_text show names (slice_get parts k) v
text_of_sort show names (Some (Sorts.SeqOf lo hi item)) (Open.SeqOf vs) = braced (map (show item) vs)
text_of_sort show names _ _ = []

-- the text of a value of type n, for n below the depth
abbrev pub text_within : ℕ → List Sort → Names → TypeId → Value → List ℕ
text_within zero types names id v = []
text_within (suc depth) types names id v = text_of_sort (text_within depth types names) names (slice_get types id.0) (out-Value v)

-- the text that the value shows
abbrev pub shown : List Sort → Names → TypeId → Value → List ℕ
shown types names id v = text_within (suc id.0) types names id v
