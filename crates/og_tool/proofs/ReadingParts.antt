-- What is read of the model files, file by file, and what the judgement of a single file says of the list of it.
use Rattle.std.proofs.Common.{◌≡◌, ◌∙◌, ℕ, zero, suc, true, ◌+◌, ◌<◌, ◌≤◌, List, [], ◌∷◌, ◌++◌, length, map, take, drop, get_or, slice_get, Option, Some, Global, sym, ap, subst, refl, inl, inr, arith, string_bytes}
use Rattle.std.specs.Prelude.{unwrap_or}
use Rattle.std.proofs.lemmas.List.{take-append-drop, map-append}
use Rattle.std.proofs.Math.Seq.{drop-cons}
use Rattle.std.specs.declared.string.String.{String}
use Rattle.og_base.specs.declared.ModelError.TheVariants.{Broken}
use Rattle.og_base.specs.declared.Violation.{Violation}
use Rattle.og_base.specs.Store.{Files, HoldsMore}
use Rattle.og_front.specs.declared.syntax.SystemText.{SystemText}
use Rattle.og_front.specs.ModelOf.{name_table}
use Rattle.og_front.specs.Names.{all_names, declared_by, state_names}
use Rattle.og_front.specs.Rules.{key, is_in}
use Rattle.og_front.proofs.Elements.{back_of}
use Rattle.og_front.proofs.NameTables.{all_known, name_at}
use Rattle.og_model.specs.declared.Model.{Model}
use Rattle.og_names.specs.Folding.{folded}
use Rattle.og_stim.specs.Trace.{name_of}
use Rattle.og_tool.specs.Answering.{IsReady, IsRefusalOf, TellsModel}
use Rattle.og_tool.specs.declared.reading.Judgement.{Judgement}
use Rattle.og_tool.specs.declared.reading.Judgement.TheVariants as judged
use Rattle.og_judge.proofs.InFiles.{stands_in_a_file}
use Rattle.std.proofs.lemmas.List.{length-map}
use Rattle.og_tool.specs.Answers.{limit, IsNamedAs, HasRead, AreRead, RoseAt, FailedAmong, IsLargeAmong, accepted_line}
use Rattle.og_words.specs.Asked.{texts}
use Rattle.og_judge.specs.declared.ModelFile.{ModelFile}
use Rattle.og_judge.specs.Judging.{SourceFile, source, sources, AreAsn, HasOneProcess, AreShort, most_files, IsFirstViolation, HaveModel}
use Rattle.og_judge.specs.Answers.{IsJudged, Refuses}
use Rattle.og_lexer.specs.declared.Language.{Language}
use Rattle.og_lexer.specs.declared.Language.TheVariants.{Sdl, Asn}
use Rattle.og_words.specs.Words.{IsAsnFile, HasOneSdlFile, AreModelFiles}
use Rattle.og_words.proofs.OneCommand.{two_languages}
use Rattle.og_words.proofs.CommandForms.{texts_more}
use Rattle.og_tool.proofs.RunningParts.{rose_before}
use Rattle.std.specs.List.{flat_map, AllByRecursion}

-- ---- one more file

-- the texts of the words before one, its own and those behind it
pub parted : (names : List (String Global)) (i : ℕ) (d : String Global) → i < length names → texts names ≡ texts (take i names) ++ string_bytes (get_or names i d) ∷ texts (drop (suc i) names)
parted names i d less =
    ap texts (sym (take-append-drop i names) ∙ ap (λ rest. take i names ++ rest) (drop-cons names i d less))
    ∙ map-append string_bytes (take i names) (get_or names i d ∷ drop (suc i) names)

read_more : (told : Option Files) (names : List (List ℕ)) (files : List SourceFile) (name : List ℕ) (file : SourceFile) → AreRead told names files → IsNamedAs file.language name → HasRead told name file.bytes
    → AreRead told (names ++ name ∷ []) (files ++ file ∷ [])
read_more told [] [] name file are named read = (named, read, tt)
read_more told [] (f ∷ files) name file are named read = absurd are
read_more told (n ∷ names) [] name file are named read = absurd are
read_more told (n ∷ names) (f ∷ files) name file are named read = (are.0, are.1, read_more told names files name file are.2 named read)

failed_behind : (told : Option Files) (names : List (List ℕ)) (files : List SourceFile) (name : List ℕ) (more : List (List ℕ)) (old new : List ℕ → ℕ) → AreRead told names files → RoseAt name old new
    → FailedAmong told (names ++ name ∷ more) old new
failed_behind told [] files name more old new are rose = inl rose
failed_behind told (n ∷ names) [] name more old new are rose = absurd are
failed_behind told (n ∷ names) (f ∷ files) name more old new are rose = inr ((f.bytes, are.1), failed_behind told names files name more old new are.2 rose)

large_behind : (told : Option Files) (names : List (List ℕ)) (files : List SourceFile) (name : List ℕ) (more : List (List ℕ)) → AreRead told names files → HoldsMore told name limit
    → IsLargeAmong told (names ++ name ∷ more)
large_behind told [] files name more are large = inl large
large_behind told (n ∷ names) [] name more are large = absurd are
large_behind told (n ∷ names) (f ∷ files) name more are large = inr ((f.bytes, are.1), large_behind told names files name more are.2 large)

-- the same of the words of a loop over files
pub next_read : (told : Option Files) (names : List (String Global)) (i : ℕ) (d : String Global) (name : List ℕ) (old new : List ModelFile) (file : ModelFile) → i < length names → name ≡ string_bytes (get_or names i d)
    → AreRead told (texts (take i names)) (sources old) → IsNamedAs file.language name → HasRead told name file.bytes.items → new ≡ old ++ file ∷ [] → AreRead told (texts (take (i + 1) names)) (sources new)
next_read told names i d name old new file less is are named read e =
    let P : List (List ℕ) → Type 0 = λ ns. AreRead told ns (sources old ++ source file ∷ []) in
    let Q : List SourceFile → Type 0 = λ fs. AreRead told (texts (take (i + 1) names)) fs in
    let more : texts (take (i + 1) names) ≡ texts (take i names) ++ name ∷ [] = texts_more names i d less ∙ ap (λ n. texts (take i names) ++ n ∷ []) (sym is) in
    let same : sources new ≡ sources old ++ source file ∷ [] = ap sources e ∙ map-append source old (file ∷ []) in
    subst Q (sym same) (subst P (sym more) (read_more told (texts (take i names)) (sources old) name (source file) are named read))

pub failed_here : (told : Option Files) (names : List (String Global)) (i : ℕ) (d : String Global) (name : List ℕ) (files : List SourceFile) (old between new : List ℕ → ℕ) → i < length names → name ≡ string_bytes (get_or names i d)
    → ((other : List ℕ) → old other ≤ between other) → AreRead told (texts (take i names)) files → RoseAt name between new → FailedAmong told (texts names) old new
failed_here told names i d name files old between new less is no_less are rose =
    let P : List (List ℕ) → Type 0 = λ ns. FailedAmong told ns old new in
    let all : texts names ≡ texts (take i names) ++ name ∷ texts (drop (suc i) names) = parted names i d less ∙ ap (λ n. texts (take i names) ++ n ∷ texts (drop (suc i) names)) (sym is) in
    subst P (sym all) (failed_behind told (texts (take i names)) files name (texts (drop (suc i) names)) old new are (rose_before (old name) (between name) (new name) (no_less name) rose))

pub large_here : (told : Option Files) (names : List (String Global)) (i : ℕ) (d : String Global) (name : List ℕ) (files : List SourceFile) → i < length names → name ≡ string_bytes (get_or names i d)
    → AreRead told (texts (take i names)) files → HoldsMore told name limit → IsLargeAmong told (texts names)
large_here told names i d name files less is are large =
    let P : List (List ℕ) → Type 0 = λ ns. IsLargeAmong told ns in
    let all : texts names ≡ texts (take i names) ++ name ∷ texts (drop (suc i) names) = parted names i d less ∙ ap (λ n. texts (take i names) ++ n ∷ texts (drop (suc i) names)) (sym is) in
    subst P (sym all) (large_behind told (texts (take i names)) files name (texts (drop (suc i) names)) are large)

-- ---- the files that were read

-- as many files are read as there are names
pub as_many : (told : Option Files) (names : List (List ℕ)) (files : List SourceFile) → AreRead told names files → length files ≡ length names
as_many told [] [] read = refl
as_many told [] (f ∷ files) read = absurd read
as_many told (n ∷ names) [] read = absurd read
as_many told (n ∷ names) (f ∷ files) read = let rest = as_many told names files read.2 in omega (arith, rest)

-- each of them is short
pub all_short : (told : Option Files) (names : List (List ℕ)) (files : List SourceFile) → AreRead told names files → AreShort files
all_short told [] [] read = tt
all_short told [] (f ∷ files) read = absurd read
all_short told (n ∷ names) [] read = absurd read
all_short told (n ∷ names) (f ∷ files) read = (let small = read.1.small in omega (arith, small), all_short told names files read.2)

-- a name tells the language
pub one_language : (name : List ℕ) (a b : Language) → IsNamedAs a name → IsNamedAs b name → a ≡ b
one_language name Sdl Sdl x y = refl
one_language name Sdl Asn x y = absurd (two_languages name x y)
one_language name Asn Sdl x y = absurd (two_languages name y x)
one_language name Asn Asn x y = refl

all_asn : (told : Option Files) (names : List (List ℕ)) (files : List SourceFile) → AreRead told names files → AllByRecursion IsAsnFile names → AreAsn files
all_asn told [] [] read all = tt
all_asn told [] (f ∷ files) read all = absurd read
all_asn told (n ∷ names) [] read all = absurd read
all_asn told (n ∷ names) (f ∷ files) read all = (one_language n f.language Asn read.0 all.0, all_asn told names files read.2 all.1)

-- the one file of SDL/PR
pub has_one : (told : Option Files) (names : List (List ℕ)) (files : List SourceFile) → AreRead told names files → HasOneSdlFile names → HasOneProcess files
has_one told [] files read one = absurd one
has_one told (n ∷ names) [] read one = absurd read
has_one told (n ∷ names) (f ∷ files) read (inl sdl) = inl (one_language n f.language Sdl read.0 sdl.0, all_asn told names files read.2 sdl.1)
has_one told (n ∷ names) (f ∷ files) read (inr asn) = inr (one_language n f.language Asn read.0 asn.0, has_one told names files read.2 asn.1)

pub are_few : (told : Option Files) (words : List (String Global)) (files : List ModelFile) → AreRead told (texts words) (sources files) → AreModelFiles (texts words) → length files ≤ most_files
are_few told words files read are =
    let many = as_many told (texts words) (sources files) read in
    let same = length-map files source in
    let few = are.few in
    omega (arith, many, same, few)

-- accepted files have their model
pub ready : (told : Option Files) (names : List (List ℕ)) (files : List SourceFile) (model : Model) → AreRead told names files → IsJudged files model → IsReady told names model
ready told names files model read judged = record { has_model = record { files = files; read = read; have = judged.have }; can = judged.can }

-- the files and their first violation
pub record HasFirst (told : Option Files) (names : List (List ℕ)) (v : Violation) : Type 0 where
  pub files : List SourceFile
  pub read : AreRead told names files
  pub first : IsFirstViolation files v

pub first_read : (told : Option Files) (names : List (List ℕ)) (files : List SourceFile) (v : Violation) → AreRead told names files → Refuses files (Broken v) → HasFirst told names v
first_read told names files v read first = record { files = files; read = read; first = first }

-- it stands in one of them, and so among the names
pub stands_among : (told : Option Files) (words : List (String Global)) (v : Violation) → HasFirst told (texts words) v → v.place.file < length words
stands_among told words v has =
    let many = as_many told (texts words) has.files has.read in
    let same = length-map words string_bytes in
    let less = stands_in_a_file has.files v has.first in
    omega (arith, many, same, less)

pub stands_in_a_source : (files : List ModelFile) (v : Violation) → Refuses (sources files) (Broken v) → v.place.file < length files
stands_in_a_source files v first =
    let same = length-map files source in
    let less = stands_in_a_file (sources files) v first in
    omega (arith, same, less)

pub report_told : (told : Option Files) (names : List (List ℕ)) (files : List SourceFile) (v : Violation) (judgement : Judgement) → AreRead told names files → IsFirstViolation files v → IsRefusalOf names files v judgement
    → TellsModel told names judgement
report_told told names files v (judged.Accepted model) read first refusal = absurd refusal.is
report_told told names files v (judged.Refused text) read first refusal =
    record {
      files = files;
      read = read;
      violation = v;
      first = first;
      name = refusal.name;
      named = refusal.named;
      file = refusal.file;
      stands = refusal.stands;
      report = refusal.report;
      reports = refusal.reports;
      is = refusal.is;
      refused = refl;
    }

-- ---- the file of a violation

-- what stands at a place, and what is made of it
pub made_at : {A B : Type 0} (f : A → B) (xs : List A) (i : ℕ) (d : A) → i < length xs → slice_get (map f xs) i ≡ Some (f (get_or xs i d))
made_at f [] i d less = absurd (omega (arith, less))
made_at f (x ∷ xs) zero d less = refl
made_at f (x ∷ xs) (suc i) d less = let l : i < length xs = omega (arith, less) in made_at f xs i d l

-- what holds of each file holds of the one at a place
pub holds_at : (P : SourceFile → Type 0) (files : List ModelFile) (i : ℕ) (d : ModelFile) → i < length files → AllByRecursion P (sources files) → P (source (get_or files i d))
holds_at P [] i d less all = absurd (omega (arith, less))
holds_at P (f ∷ files) zero d less all = all.0
holds_at P (f ∷ files) (suc i) d less all = let l : i < length files = omega (arith, less) in holds_at P files i d l all.1

-- ---- the name of the process

process_known : (system : SystemText) → is_in (name_table system) (key system.process) ≡ true
process_known system =
    let all = (all_known [] (name_table system) (all_names system) refl).1 in
    (back_of (λ name. is_in (name_table system) (key name) ≡ true) (flat_map declared_by system.signals) (system.block ∷ system.process ∷ system.start.next.state ∷ flat_map state_names system.states) all).1.0

pub process_name : (files : List SourceFile) (model : Model) → (have : HaveModel files model) → accepted_line (name_of model model.name) ≡ accepted_line (folded have.system.process.word.bytes)
process_name files model have =
    ap accepted_line
    (ap (λ (M : Model). name_of M M.name) have.is
    ∙ ap (λ o. unwrap_or o []) (name_at (name_table have.system) have.system.process (process_known have.system)))
