-- What stands behind the laws on texts of values.
use Rattle.std.proofs.Common.{◌≡◌, ℕ, ◌+◌, ◌<◌, ◌≤◌, true, false, cond, ◌==◌, List, [], ◌∷◌, ◌++◌, length, drop, slice_get, Option, Some, None, refl, sym, ap, ◌∙◌, subst, arith, length-append}
use Rattle.std.proofs.lemmas.Bool.{false≢true}
use Rattle.std.proofs.lemmas.Option.{slice_get_within}
use Rattle.og_names.specs.Table.{IsTable}
use Rattle.og_types.specs.declared.TypeId.{TypeId}
use Rattle.og_types.specs.declared.Sort.{Sort}
use Rattle.og_types.specs.declared.Value.{Value, out-Value}
use Rattle.og_types.specs.Values.{in_sort, in_within, is_in}
use Rattle.og_types.specs.Table.{is_table}
use Rattle.og_types.proofs.Tables.{tables_are_downward}
use Rattle.og_types.proofs.Added.{depth_bound}
use Rattle.og_value.specs.Bytes.{is_blank, begins, behind}
use Rattle.og_value.specs.Forms.{nesting, HasForm, IsLongest, HasTextAt}
use Rattle.og_value.specs.Reads.{Names, Reads, IsReadAt}
use Rattle.og_value.specs.Scans.{mark_here, found_in}
use Rattle.og_value.specs.Shows.{shown}
use Rattle.og_value.specs.Named.{has_names}
use Rattle.og_value.specs.Laws.{GoOnWithNone}
use Rattle.og_value.proofs.Runs.{drop_front}
use Rattle.og_value.proofs.Spelt.{Follows}
use Rattle.og_value.proofs.Exact.{exact}
use Rattle.og_value.proofs.Longest.{passed_is_longest, one_longest, same_front}
use Rattle.og_value.proofs.Told.{one_value, read_is_found, found_is_read}
use Rattle.og_value.proofs.Back.{shown_told}
use Rattle.og_value.proofs.Fitting.{read_fits}

-- ---- where nothing goes on

colon_off : (bytes : List ℕ) → begins (λ b. b == 58) bytes ≡ false → mark_here 58 bytes ≡ None
colon_off [] h = refl
colon_off (b ∷ bytes) h = ap (λ c. cond c (Some (tt, bytes)) None) h

follows : (others : List ℕ) → GoOnWithNone others → Follows others
follows others none = record { word = none.word; colon = colon_off (behind is_blank others) none.colon }

pub whole_is_longest : (text others : List ℕ) → HasForm text → GoOnWithNone others → IsLongest (text ++ others) text
whole_is_longest text others has none =
    let passed = passed_is_longest (text ++ others) others (exact has.spelt 64 has.nested others (follows others none)) in
    let lengths : length passed.text ≡ length text =
    omega (arith, ap length passed.front, length-append text others, length-append passed.text others) in
    subst (IsLongest (text ++ others)) (same_front passed.text text others others (sym passed.front) lengths) passed.longest

module _ (types : List Sort) (names : Names) (id : TypeId) where
  -- ---- one value at a place

  pub one_place : (bytes : List ℕ) (at : ℕ) (v w : Value) (m n : ℕ) → IsReadAt types names id bytes at v m → IsReadAt types names id bytes at w n → (v ≡ w) × (m ≡ n)
  one_place bytes at v w m n a b =
      let same : a.text ≡ b.text = one_longest (drop at bytes) a.text b.text a.longest b.longest in (
        one_value types names id b.text v w (subst (λ text. Reads types names id text v) same a.reads) b.reads,
        omega (arith, a.ends, b.ends, ap length same),
      )

  pub one_end : (bytes : List ℕ) (at : ℕ) (v : Value) (m n : ℕ) → IsReadAt types names id bytes at v m → HasTextAt bytes at n → m ≡ n
  one_end bytes at v m n read has =
      let same : read.text ≡ has.text = one_longest (drop at bytes) read.text has.text read.longest has.longest in
      omega (arith, read.ends, has.ends, ap length same)

  -- ---- what is found

  pub found_reads : (bytes : List ℕ) (v : Value) (n : ℕ) → found_in types names id bytes ≡ Some (v, n) → IsReadAt types names id bytes 0 v n
  found_reads bytes v n e =
      let found = found_is_read types names id bytes v n e in
      record { text = found.text; longest = found.longest; reads = found.reads; ends = omega (arith, found.len) }

  pub read_found : (bytes : List ℕ) (v : Value) (n : ℕ) → IsReadAt types names id bytes 0 v n → found_in types names id bytes ≡ Some (v, n)
  read_found bytes v n read =
      let len : length read.text ≡ n = omega (arith, read.ends) in
      read_is_found types names id bytes read.text v read.longest read.reads ∙ ap (λ k. Some (v, k)) len

  -- ---- in its type

  pub reads_in : is_table types ≡ true → (text : List ℕ) (v : Value) → Reads types names id text v → is_in types id v ≡ true
  reads_in table text v reads = read_fits types (tables_are_downward types table) names id reads.form v reads.means

  -- ---- back again

  -- a type with a value is there
  there : (v : Value) → is_in types id v ≡ true → id.0 < length types
  there v h = go (slice_get types id.0) refl
    where
      go : (o : Option Sort) → slice_get types id.0 ≡ o → id.0 < length types
      go None e = absurd (false≢true (ap (λ o. in_sort (in_within id.0 types) o (out-Value v)) (sym e) ∙ h))
      go (Some s) e = slice_get_within types id.0 s e

  pub reads_back : is_table types ≡ true → IsTable names → (v : Value) → is_in types id v ≡ true → has_names types names id ≡ true
      → (before others : List ℕ) → GoOnWithNone others
      → IsReadAt types names id (before ++ (shown types names id v ++ others)) (length before) v (length before + length (shown types names id v))
  reads_back table numbered v h m before others none =
      let known = there v h in
      let text : List ℕ = shown types names id v in
      let told = shown_told types names table numbered id v h m in
      let few : nesting told.form ≤ 64 = omega (arith, told.nested, depth_bound types table id known) in
      let longest = whole_is_longest text others (record { form = told.form; spelt = told.spelt; nested = few }) none in
      record {
        text = text;
        longest = subst (λ bytes. IsLongest bytes text) (sym (drop_front before (text ++ others))) longest;
        reads = record { form = told.form; spelt = told.spelt; nested = few; means = told.means };
        ends = refl;
      }
