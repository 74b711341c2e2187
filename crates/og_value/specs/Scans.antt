-- What the readers of the code find in front of bytes: a part of a text and what stands behind it, or nothing. Forms and
-- Reads say by relations what the text of a value is (after the value notation of ASN.1, X.680 clauses 17 to 29); laws on the
-- public calls tie the two. `inner` reads what nests once more, where that is allowed.
use Rattle.std.specs.Prelude.{ℕ, zero, suc, ◌-◌, Bool, true, false, ◌==◌, take, List, [], ◌∷◌, length, slice_get, Option, Some, None, if◌then◌else◌}
use Rattle.std.specs.Option.{is_none}
use Rattle.og_types.specs.declared.TypeId.{TypeId}
use Rattle.og_types.specs.declared.Part.{Part}
use Rattle.og_types.specs.declared.Sort.{Sort}
use Rattle.og_types.specs.declared.Sort.TheVariants as Sorts
use Rattle.og_types.specs.declared.Value.{Value}
use Rattle.og_types.specs.declared.Value as Values
use Rattle.og_value.specs.declared.tokens.Class.{Class}
use Rattle.og_value.specs.declared.tokens.Class.TheVariants as class
use Rattle.og_value.specs.Bytes.{is_blank, is_letter, is_digit, is_word, begins, run, behind, truth_of}
use Rattle.og_value.specs.Reads.{Names, Chosen, integer, as_number, as_truth, as_name, alternative_of, as_items, is_called}

abbrev pub Found : Type 0 → Type 0
Found A = Option (A × List ℕ)

abbrev pub Reader : Type 0 → Type 0
Reader A = List ℕ → Found A

-- goes on behind what was found
abbrev pub and_then : {A B : Type 0} → Found A → (A → List ℕ → Found B) → Found B
and_then None go = None
and_then (Some p) go = go p.0 p.1

-- the one where something was found, and else the other
abbrev pub found_or : {A B : Type 0} → Found A → Found B → (A → List ℕ → Found B) → Found B
found_or None other go = other
found_or (Some p) other go = go p.0 p.1

abbrev pub kept : {A : Type 0} → Option A → List ℕ → Found A
kept None rest = None
kept (Some x) rest = Some (x, rest)

-- the bytes behind what was found, and else the others
abbrev pub rest_or : {A : Type 0} → Found A → List ℕ → List ℕ
rest_or None others = others
rest_or (Some p) others = p.1

-- ---- tokens

-- the bytes of a class
abbrev pub test_of : Class → ℕ → Bool
test_of class.Blank = is_blank
test_of class.Digit = is_digit
test_of class.Word = is_word

abbrev pub past_blanks : List ℕ → List ℕ
past_blanks bytes = behind is_blank bytes

-- this byte
abbrev pub mark_here : ℕ → Reader (Unit {0})
mark_here m [] = None
mark_here m (b ∷ bs) = if b == m then Some (tt, bs) else None

-- the same behind blanks
abbrev pub mark_at : ℕ → Reader (Unit {0})
mark_at m bytes = mark_here m (past_blanks bytes)

unfoldable pub digits_at : Reader (List ℕ)
digits_at bytes = if begins is_digit bytes then Some (run is_digit bytes, behind is_digit bytes) else None

unfoldable pub word_at : Reader (List ℕ)
word_at bytes = if begins is_letter bytes then Some (run is_word bytes, behind is_word bytes) else None

abbrev pub unless_truth : List ℕ → List ℕ → Found (List ℕ)
unless_truth word rest = if is_none (truth_of word) then Some (word, rest) else None

unfoldable pub name_at : Reader (List ℕ)
name_at bytes = and_then (word_at bytes) unless_truth

-- a comma and what is read behind it
unfoldable pub comma_by : {A : Type 0} → Reader A → Reader A
comma_by one bytes = and_then (mark_at 44 bytes) (λ _ more. one (past_blanks more))

-- ---- forms

abbrev pub past_by : (List ℕ → List ℕ) → List ℕ → Found (Unit {0}) → List ℕ
past_by go bytes None = bytes
past_by go bytes (Some p) = go p.1

-- what stands behind as many as are read one after the other, and at most so many
unfoldable pub past_all : Reader (Unit {0}) → ℕ → List ℕ → List ℕ
past_all one zero bytes = bytes
past_all one (suc n) bytes = past_by (past_all one n) bytes (one bytes)

-- a component
unfoldable pub part_by : Reader (Unit {0}) → Reader (Unit {0})
part_by inner bytes = and_then (name_at bytes) (λ w rest. inner (past_blanks rest))

-- behind the first of braces: the others, and the end of the braces
unfoldable pub closed_by : Reader (Unit {0}) → List ℕ → Found (Unit {0})
closed_by one rest = mark_at 125 (past_all (comma_by one) (length rest) rest)

-- behind `{`: its end, components or values
unfoldable pub braces_by : Reader (Unit {0}) → Reader (Unit {0})
braces_by inner bytes =
    found_or (mark_here 125 bytes)
    (found_or (part_by inner bytes) (and_then (inner bytes) (λ _ rest. closed_by inner rest)) (λ _ rest. closed_by (part_by inner) rest))
    (λ _ rest. Some (tt, rest))

abbrev pub open_by : Option (Reader (Unit {0})) → Reader (Unit {0})
open_by None bytes = None
open_by (Some inner) bytes = and_then (mark_here 123 bytes) (λ _ more. braces_by inner (past_blanks more))

-- a colon and the value behind it
unfoldable pub colon_by : Reader (Unit {0}) → Reader (Unit {0})
colon_by inner bytes = and_then (mark_at 58 bytes) (λ _ more. inner (past_blanks more))

abbrev pub past_choice : Option (Reader (Unit {0})) → List ℕ → List ℕ
past_choice None rest = rest
past_choice (Some inner) rest = rest_or (colon_by inner rest) rest

-- what stands behind a word with the value that belongs to it
abbrev pub past_word : Option (Reader (Unit {0})) → Option Bool → List ℕ → List ℕ
past_word inner (Some truth) rest = rest
past_word inner None rest = past_choice inner rest

abbrev pub minus_digits_at : Reader (List ℕ)
minus_digits_at bytes = and_then (mark_here 45 bytes) (λ _ more. digits_at (past_blanks more))

unfoldable pub form_by : Option (Reader (Unit {0})) → Reader (Unit {0})
form_by inner bytes =
    found_or (digits_at bytes)
    (found_or (minus_digits_at bytes)
    (found_or (word_at bytes) (open_by inner bytes) (λ w rest. Some (tt, past_word inner (truth_of w) rest)))
    (λ _ rest. Some (tt, rest)))
    (λ _ rest. Some (tt, rest))

-- the longest text of a value in front that nests at most so deep
unfoldable pub form_at : ℕ → Reader (Unit {0})
form_at zero bytes = form_by None bytes
form_at (suc depth) bytes = form_by (Some (form_at depth)) bytes

-- what reads the texts that nest once more
abbrev pub inner_form : ℕ → Option (Reader (Unit {0}))
inner_form zero = None
inner_form (suc depth) = Some (form_at depth)

-- ---- values

unfoldable pub each_by : {A : Type 0} → Reader A → ℕ → Reader (List A)
each_by one zero bytes = Some ([], bytes)
each_by one (suc n) bytes =
    found_or (one bytes) (Some ([], bytes)) (λ x rest. and_then (each_by one n rest) (λ xs more. Some (x ∷ xs, more)))

-- a component of this name and type
unfoldable pub component_by : (TypeId → Reader Value) → Names → Part → Reader Value
component_by read names p bytes =
    and_then (name_at bytes) (λ w rest. if is_called names w p.name then read p.sort (past_blanks rest) else None)

-- these components, each behind a comma
unfoldable pub components_by : (TypeId → Reader Value) → Names → List Part → Reader (List Value)
components_by read names [] bytes = Some ([], bytes)
components_by read names (p ∷ parts) bytes =
    and_then (comma_by (component_by read names p) bytes)
    (λ v rest. and_then (components_by read names parts rest) (λ vs more. Some (v ∷ vs, more)))

unfoldable pub sequence_by : (TypeId → Reader Value) → Names → Part → List Part → Reader Value
sequence_by read names p parts bytes =
    and_then (component_by read names p bytes) (λ v rest. and_then (components_by read names parts rest)
    (λ vs more. and_then (mark_at 125 more) (λ _ end. Some (Values.Sequence (v ∷ vs), end))))

unfoldable pub items_by : Reader Value → Sort → Reader Value
items_by one sort bytes =
    and_then (one bytes) (λ v rest. and_then (each_by (comma_by one) (length rest) rest)
    (λ vs more. and_then (mark_at 125 more) (λ _ end. kept (as_items (Some sort) (v ∷ vs)) end)))

-- behind `{` and no end of braces
unfoldable pub entries_by : (TypeId → Reader Value) → Names → Sort → Reader Value
entries_by read names (Sorts.Sequence (p ∷ parts)) bytes = sequence_by read names p parts bytes
entries_by read names (Sorts.SeqOf lo hi id) bytes = items_by (read id) (Sorts.SeqOf lo hi id) bytes
entries_by read names _ bytes = None

-- behind `{`
unfoldable pub inside_by : (TypeId → Reader Value) → Names → Sort → Reader Value
inside_by read names sort bytes =
    found_or (mark_here 125 bytes) (entries_by read names sort bytes) (λ _ rest. kept (as_items (Some sort) []) rest)

abbrev pub braced_by : Option (TypeId → Reader Value) → Names → Sort → Reader Value
braced_by None names sort bytes = None
braced_by (Some read) names sort bytes = and_then (mark_here 123 bytes) (λ _ more. inside_by read names sort (past_blanks more))

-- the value of an alternative, behind the colon
abbrev pub chosen_by : Option (TypeId → Reader Value) → Option Chosen → Reader Value
chosen_by None chosen bytes = None
chosen_by (Some read) None bytes = None
chosen_by (Some read) (Some a) bytes = and_then (read a.sort bytes) (λ v rest. Some (Values.Choice a.place v, rest))

-- behind a word
unfoldable pub named_by : Option (TypeId → Reader Value) → Names → Sort → List ℕ → Reader Value
named_by read names sort word rest =
    found_or (mark_at 58 rest) (kept (as_name names (Some sort) word) rest)
    (λ _ more. chosen_by read (alternative_of names (Some sort) word) (past_blanks more))

abbrev pub worded_by : Option (TypeId → Reader Value) → Names → Sort → List ℕ → Option Bool → Reader Value
worded_by read names sort word (Some truth) rest = kept (as_truth (Some sort) truth) rest
worded_by read names sort word None rest = named_by read names sort word rest

unfoldable pub sorted_by : Option (TypeId → Reader Value) → Names → Sort → Reader Value
sorted_by read names sort bytes =
    found_or (digits_at bytes)
    (found_or (minus_digits_at bytes)
    (found_or (word_at bytes) (braced_by read names sort bytes) (λ w rest. worded_by read names sort w (truth_of w) rest))
    (λ ds rest. kept (as_number (Some sort) (integer true ds)) rest))
    (λ ds rest. kept (as_number (Some sort) (integer false ds)) rest)

abbrev pub value_by : Option (TypeId → Reader Value) → Names → Option Sort → Reader Value
value_by read names None bytes = None
value_by read names (Some sort) bytes = sorted_by read names sort bytes

-- a value of the type, in a text that nests at most so deep
unfoldable pub value_at : ℕ → List Sort → Names → TypeId → Reader Value
value_at zero types names id bytes = value_by None names (slice_get types id.0) bytes
value_at (suc depth) types names id bytes = value_by (Some (value_at depth types names)) names (slice_get types id.0) bytes

-- what reads the values that nest once more
abbrev pub inner_value : ℕ → List Sort → Names → Option (TypeId → Reader Value)
inner_value zero types names = None
inner_value (suc depth) types names = Some (value_at depth types names)

-- the front of the bytes that stands before the rest
abbrev pub before : List ℕ → List ℕ → List ℕ
before bytes rest = take (length bytes - length rest) bytes

abbrev pub sized : {A : Type 0} → ℕ → Found A → Option (A × ℕ)
sized len None = None
sized len (Some p) = Some (p.0, len)

abbrev pub found_before : List Sort → Names → TypeId → List ℕ → Found (Unit {0}) → Option (Value × ℕ)
found_before types names id bytes None = None
found_before types names id bytes (Some p) = sized (length bytes - length p.1) (value_at 64 types names id (before bytes p.1))

-- the value that the longest text in front reads as, and how many bytes that text has
unfoldable pub found_in : List Sort → Names → TypeId → List ℕ → Option (Value × ℕ)
found_in types names id bytes = found_before types names id bytes (form_at 64 bytes)
