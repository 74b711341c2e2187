-- Over a store that tells its files a command calls for one thing: what a run writes and its status are one, and there is neither
-- where a file has too many bytes.
use Rattle.std.proofs.Common.{◌≡◌, ◌∙◌, ℕ, List, [], ◌∷◌, length, map, slice_get, Some, None, sym, ap, subst, refl, inl, inr, arith}
use Rattle.og_base.specs.Store.{Files, HoldsMore}
use Rattle.og_model.specs.declared.Model.{Model}
use Rattle.og_csubset.specs.declared.CProgram.{CProgram}
use Rattle.og_csubset.specs.Loading.{first_load_rule}
use Rattle.og_csubset.specs.Nesting.{PassesNesting}
use Rattle.og_csubset.specs.Refusals.{IsBad, IsTooDeep, place_behind}
use Rattle.og_csubset.specs.Spelling.{CSpells}
use Rattle.og_csubset.specs.Wrong.{GoesWrong}
use Rattle.og_trace.specs.Traces.{run_text, run_outcome}
use Rattle.og_tool.specs.declared.program.BadProgram.{BadProgram}
use Rattle.og_tool.specs.declared.program.BadProgram.TheVariants.{NoForm, TooDeep, Breaks}
use Rattle.og_tool.specs.declared.status.Status.{Status}
use Rattle.og_tool.specs.declared.status.Status.TheVariants.{Refused}
use Rattle.og_tool.specs.Answers.{limit, HasRead, AreRead, HasModel, HasProgram, IsReport, accepted_line, IsAcceptance, IsBadLine, as_word, IsTrace, IsOutputFor, IsLargeAmong, IsTooLargeFor, status_of}
use Rattle.og_judge.specs.Judging.{SourceFile, AreTextOf, AreAccepted, IsFirstViolation, HaveModel}
use Rattle.og_lexer.specs.declared.Language.{Language}
use Rattle.og_tool.proofs.ReadingParts.{one_language}
use Rattle.og_front.specs.declared.syntax.SystemText.{SystemText}
use Rattle.og_report.specs.declared.Report.{Report}
use Rattle.og_report.specs.Report.{IsReportOf}
use Rattle.og_report.specs.Line.{report_line}
use Rattle.og_names.specs.Folding.{folded}
use Rattle.og_base.specs.declared.Violation.{Violation}
use Rattle.og_tool.specs.Programs.{IsTextOfProgram, IsBadFor, bad_program_line}
use Rattle.og_words.specs.Words.{Command, Check, Compile, Run, Simulate}
use Rattle.og_tool.proofs.ProgramParts.{OneProgram, NotDeep, NotBad}
use Rattle.og_names.proofs.Truths.{same_value as same_some}

-- what the laws of judgements and of texts say
pub record Laws : Type 0 where
  pub never_both : (files : List SourceFile) (v : Violation) → AreAccepted files → IsFirstViolation files v → ⊥
  pub one_violation : (files : List SourceFile) (v w : Violation) → IsFirstViolation files v → IsFirstViolation files w → v ≡ w
  pub one_model : (files : List SourceFile) (M N : Model) → HaveModel files M → HaveModel files N → M ≡ N
  pub one_tree : (files : List SourceFile) (a b : SystemText) → AreTextOf a 0 files → AreTextOf b 0 files → a ≡ b
  pub one_report : (language : Language) (bytes : List ℕ) (v : Violation) (a b : Report) → IsReportOf language bytes v a → IsReportOf language bytes v b → a ≡ b
  pub programs : OneProgram
  pub not_deep : NotDeep
  pub not_bad : NotBad
  pub not_both : (limit : ℕ) (text before other : List ℕ) → IsTooDeep limit text before → IsBad limit text other → ⊥
  pub one_deep : (limit : ℕ) (text before other : List ℕ) → PassesNesting limit text before → PassesNesting limit text other → before ≡ other
  pub one_wrong : (text before other : List ℕ) → GoesWrong text before → GoesWrong text other → before ≡ other

-- ---- what was read

pub same_bytes : (files : Files) (name a b : List ℕ) → HasRead (Some files) name a → HasRead (Some files) name b → a ≡ b
same_bytes files name a b x y = same_some a b (sym x.holds ∙ y.holds)

never_large : (files : Files) (name a : List ℕ) → HasRead (Some files) name a → HoldsMore (Some files) name limit → ⊥
never_large files name a x more =
    let long : length a ≡ length more.0 = ap length (same_some a more.0 (sym x.holds ∙ more.1)) in
    omega (arith, x.small, more.2, long)

-- ---- the model files

same_source : (a b : SourceFile) → a.language ≡ b.language → a.bytes ≡ b.bytes → a ≡ b
same_source a b language bytes =
    let by_language : Language → SourceFile = λ l. record { language = l; bytes = a.bytes } in
    let by_bytes : List ℕ → SourceFile = λ bs. record { language = b.language; bytes = bs } in
    ap by_language language ∙ ap by_bytes bytes

both_same : (a b : SourceFile) (as' bs : List SourceFile) → a ≡ b → as' ≡ bs → a ∷ as' ≡ b ∷ bs
both_same a b as' bs d e = cc

same_files : (files : Files) (names : List (List ℕ)) (xs ys : List SourceFile) → AreRead (Some files) names xs → AreRead (Some files) names ys → xs ≡ ys
same_files files [] [] [] x y = refl
same_files files [] [] (b ∷ ys) x y = absurd y
same_files files [] (a ∷ xs) ys x y = absurd x
same_files files (name ∷ names) [] ys x y = absurd x
same_files files (name ∷ names) (a ∷ xs) [] x y = absurd y
same_files files (name ∷ names) (a ∷ xs) (b ∷ ys) x y =
    both_same a b xs ys (same_source a b (one_language name a.language b.language x.0 y.0) (same_bytes files name a.bytes b.bytes x.1 y.1)) (same_files files names xs ys x.2 y.2)

read_not_large : (files : Files) (names : List (List ℕ)) (xs : List SourceFile) → AreRead (Some files) names xs → IsLargeAmong (Some files) names → ⊥
read_not_large files [] xs read large = large
read_not_large files (name ∷ names) [] read large = read
read_not_large files (name ∷ names) (a ∷ xs) read (inl more) = never_large files name a.bytes read.1 more
read_not_large files (name ∷ names) (a ∷ xs) read (inr later) = read_not_large files names xs read.2 later.1

pub same_model : Laws → (files : Files) (names : List (List ℕ)) (M N : Model) → HasModel (Some files) names M → HasModel (Some files) names N → M ≡ N
same_model laws files names M N x y =
    let P : List SourceFile → Type 0 = λ fs. HaveModel fs N in
    laws.one_model x.files M N x.have (subst P (same_files files names y.files x.files y.read x.read) y.have)

pub never_reported : Laws → (files : Files) (names : List (List ℕ)) (line : List ℕ) (M : Model) (status : Status) → HasModel (Some files) names M → IsReport (Some files) names status line → ⊥
never_reported laws files names line M status x report =
    let P : List SourceFile → Type 0 = λ fs. IsFirstViolation fs report.violation in
    laws.never_both x.files report.violation x.have.accepted (subst P (same_files files names report.files x.files report.read x.read) report.first)

-- the report of one violation in one list of files
one_report_of : Laws → (files others : List SourceFile) (v w : Violation) (file other : SourceFile) (report more : Report) → files ≡ others → v ≡ w
    → slice_get files v.place.file ≡ Some file → slice_get others w.place.file ≡ Some other → IsReportOf file.language file.bytes v report → IsReportOf other.language other.bytes w more → report ≡ more
one_report_of laws files others v w file other report more same_list same_violation at other_at x y =
    let there : Some file ≡ Some other =
    sym at ∙ ap (λ (fs : List SourceFile). slice_get fs v.place.file) same_list ∙ ap (λ (u : Violation). slice_get others u.place.file) same_violation ∙ other_at in
    let P : SourceFile → Type 0 = λ f. IsReportOf f.language f.bytes v report in
    let Q : Violation → Type 0 = λ u. IsReportOf other.language other.bytes u report in
    laws.one_report other.language other.bytes w report more (subst Q same_violation (subst P (same_some file other there) x)) y

pub same_report : Laws → (files : Files) (names : List (List ℕ)) (line more : List ℕ) (status other : Status) → IsReport (Some files) names status line → IsReport (Some files) names other more → (status ≡ other) × (line ≡ more)
same_report laws files names line more status other x y =
    let P : List SourceFile → Type 0 = λ fs. IsFirstViolation fs y.violation in
    let list : x.files ≡ y.files = same_files files names x.files y.files x.read y.read in
    let same : x.violation ≡ y.violation = laws.one_violation x.files x.violation y.violation x.first (subst P (sym list) y.first) in
    let word : Some x.name ≡ Some y.name = sym x.named ∙ ap (λ (v : Violation). slice_get names v.place.file) same ∙ y.named in
    let report : x.report ≡ y.report = one_report_of laws x.files y.files x.violation y.violation x.file y.file x.report y.report list same x.stands y.stands x.reports y.reports in
    (x.refused ∙ sym y.refused, x.is ∙ ap (λ name. report_line x.report name) (same_some x.name y.name word) ∙ ap (λ (r : Report). report_line r y.name) report ∙ sym y.is)

same_acceptance : Laws → (files : Files) (names : List (List ℕ)) (line more : List ℕ) (status other : Status) → IsAcceptance (Some files) names status line → IsAcceptance (Some files) names other more → (status ≡ other) × (line ≡ more)
same_acceptance laws files names line more status other x y =
    let P : List SourceFile → Type 0 = λ fs. AreTextOf y.has_model.have.system 0 fs in
    let text = subst P (same_files files names y.has_model.files x.has_model.files y.has_model.read x.has_model.read) y.has_model.have.text in
    let same = laws.one_tree x.has_model.files x.has_model.have.system y.has_model.have.system x.has_model.have.text text in
    (x.done ∙ sym y.done, x.is ∙ ap (λ (system : SystemText). accepted_line (folded system.process.word.bytes)) same ∙ sym y.is)

-- ---- the file of a program

same_program : Laws → (files : Files) (code : List ℕ) (M : Model) (P Q : CProgram) → HasProgram (Some files) code M P → HasProgram (Some files) code M Q → P ≡ Q
same_program laws files code M P Q x y =
    laws.programs P Q x.bytes x.text.spelt (subst (CSpells Q) (same_bytes files code y.bytes x.bytes y.read x.read) y.text.spelt)

never_wrong : Laws → (M : Model) (bytes : List ℕ) (P : CProgram) → IsTextOfProgram bytes P → first_load_rule P M ≡ None → (wrong : BadProgram) → IsBadFor M bytes wrong → ⊥
never_wrong laws M bytes P text loads (NoForm place) bad = laws.not_bad 256 P bytes bad.0 text.spelt bad.1
never_wrong laws M bytes P text loads (TooDeep place) bad = laws.not_deep 256 bytes bad.0 text.within bad.1
never_wrong laws M bytes P text loads (Breaks rule) bad =
    let same : P ≡ bad.0 = laws.programs P bad.0 bytes text.spelt bad.1.spelt in
    let e : None ≡ Some rule = sym loads ∙ ap (λ (Q : CProgram). first_load_rule Q M) same ∙ bad.2 in
    cc

same_wrong : Laws → (M : Model) (bytes : List ℕ) (v w : BadProgram) → IsBadFor M bytes v → IsBadFor M bytes w → v ≡ w
same_wrong laws M bytes (NoForm p) (NoForm q) a b = ap NoForm (a.2 ∙ ap place_behind (laws.one_wrong bytes a.0 b.0 a.1.wrong b.1.wrong) ∙ sym b.2)
same_wrong laws M bytes (NoForm p) (TooDeep q) a b = absurd (laws.not_both 256 bytes b.0 a.0 b.1 a.1)
same_wrong laws M bytes (NoForm p) (Breaks rule) a b = absurd (laws.not_bad 256 b.0 bytes a.0 b.1.spelt a.1)
same_wrong laws M bytes (TooDeep p) (NoForm q) a b = absurd (laws.not_both 256 bytes a.0 b.0 a.1 b.1)
same_wrong laws M bytes (TooDeep p) (TooDeep q) a b = ap TooDeep (a.2 ∙ ap place_behind (laws.one_deep 256 bytes a.0 b.0 a.1.passes b.1.passes) ∙ sym b.2)
same_wrong laws M bytes (TooDeep p) (Breaks rule) a b = absurd (laws.not_deep 256 bytes a.0 b.1.within a.1)
same_wrong laws M bytes (Breaks rule) (NoForm q) a b = absurd (laws.not_bad 256 a.0 bytes b.0 a.1.spelt b.1)
same_wrong laws M bytes (Breaks rule) (TooDeep q) a b = absurd (laws.not_deep 256 bytes b.0 a.1.within b.1)
same_wrong laws M bytes (Breaks rule) (Breaks other) a b =
    ap Breaks (same_some rule other (sym a.2 ∙ ap (λ (Q : CProgram). first_load_rule Q M) (laws.programs a.0 b.0 bytes a.1.spelt b.1.spelt) ∙ b.2))

same_bad_line : Laws → (files : Files) (names : List (List ℕ)) (code line more : List ℕ) (status other : Status)
    → IsBadLine (Some files) names code status line → IsBadLine (Some files) names code other more → (status ≡ other) × (line ≡ more)
same_bad_line laws files names code line more status other x y =
    let M : x.model ≡ y.model = same_model laws files names x.model y.model x.has_model y.has_model in
    let P : Model → Type 0 = λ model. IsBadFor model y.bytes y.wrong in
    let Q : List ℕ → Type 0 = λ bytes. IsBadFor x.model bytes y.wrong in
    let bad : IsBadFor x.model x.bytes y.wrong = subst Q (same_bytes files code y.bytes x.bytes y.read x.read) (subst P (sym M) y.bad) in
    let same : x.wrong ≡ y.wrong = same_wrong laws x.model x.bytes x.wrong y.wrong x.bad bad in
    (x.bad_file ∙ sym y.bad_file, x.is ∙ ap (bad_program_line code) same ∙ sym y.is)

-- a program that can be run, and a line that says what is wrong with its file
never_bad_line : Laws → (files : Files) (names : List (List ℕ)) (code line : List ℕ) (status : Status) (M : Model) (P : CProgram)
    → IsBadLine (Some files) names code status line → HasModel (Some files) names M → HasProgram (Some files) code M P → ⊥
never_bad_line laws files names code line status M P x has program =
    let same : x.model ≡ M = same_model laws files names x.model M x.has_model has in
    let R : Model → Type 0 = λ model. IsBadFor model x.bytes x.wrong in
    let Q : List ℕ → Type 0 = λ bytes. IsBadFor M bytes x.wrong in
    never_wrong laws M program.bytes P program.text program.loads x.wrong
    (subst Q (same_bytes files code x.bytes program.bytes x.read program.read) (subst R same x.bad))

-- ---- runs

same_trace : (files : Files) (M : Model) (P : CProgram) (names : List (List ℕ)) (stimuli text more : List ℕ) (steps : ℕ) (status other : Status)
    → IsTrace (Some files) M P names stimuli steps status text → IsTrace (Some files) M P names stimuli steps other more → (status ≡ other) × (text ≡ more)
same_trace files M P names stimuli text more steps status other x y =
    let same : x.bytes ≡ y.bytes = same_bytes files stimuli x.bytes y.bytes x.read y.read in (
      x.ends ∙ ap (λ (bytes : List ℕ). status_of (run_outcome M P bytes steps)) same ∙ sym y.ends,
      x.is ∙ ap (λ (bytes : List ℕ). run_text M P (map as_word names) stimuli bytes steps) same ∙ sym y.is,
    )

pub one_run : Laws → (files : Files) (names : List (List ℕ)) (code stimuli : List ℕ) (steps : ℕ) (status other : Status) (text more : List ℕ)
    → IsOutputFor (Some files) (Run names code stimuli steps) status text → IsOutputFor (Some files) (Run names code stimuli steps) other more
    → (status ≡ other) × (text ≡ more)
one_run laws files names code stimuli steps status other text more (inl x) (inl y) = same_report laws files names text more status other x y
one_run laws files names code stimuli steps status other text more (inl x) (inr (inl y)) = absurd (never_reported laws files names text y.model status y.has_model x)
one_run laws files names code stimuli steps status other text more (inl x) (inr (inr y)) = absurd (never_reported laws files names text y.model status y.has_model x)
one_run laws files names code stimuli steps status other text more (inr (inl x)) (inl y) = absurd (never_reported laws files names more x.model other x.has_model y)
one_run laws files names code stimuli steps status other text more (inr (inl x)) (inr (inl y)) = same_bad_line laws files names code text more status other x y
one_run laws files names code stimuli steps status other text more (inr (inl x)) (inr (inr y)) = absurd (never_bad_line laws files names code text status y.model y.program x y.has_model y.has_program)
one_run laws files names code stimuli steps status other text more (inr (inr x)) (inl y) = absurd (never_reported laws files names more x.model other x.has_model y)
one_run laws files names code stimuli steps status other text more (inr (inr x)) (inr (inl y)) = absurd (never_bad_line laws files names code more other x.model x.program y x.has_model x.has_program)
one_run laws files names code stimuli steps status other text more (inr (inr x)) (inr (inr y)) =
    let models : y.model ≡ x.model = same_model laws files names y.model x.model y.has_model x.has_model in
    let H : Model → Type 0 = λ model. HasProgram (Some files) code model y.program in
    let T : Model → Type 0 = λ model. IsTrace (Some files) model y.program names stimuli steps other more in
    let programs : y.program ≡ x.program = same_program laws files code x.model y.program x.program (subst H models y.has_program) x.has_program in
    let U : CProgram → Type 0 = λ program. IsTrace (Some files) x.model program names stimuli steps other more in
    same_trace files x.model x.program names stimuli text more steps status other x.traces (subst U programs (subst T models y.traces))

pub one_check : Laws → (files : Files) (names : List (List ℕ)) (status other : Status) (text more : List ℕ)
    → IsOutputFor (Some files) (Check names) status text → IsOutputFor (Some files) (Check names) other more → (status ≡ other) × (text ≡ more)
one_check laws files names status other text more (inl x) (inl y) = same_report laws files names text more status other x y
one_check laws files names status other text more (inl x) (inr y) = absurd (never_reported laws files names text y.model status y.has_model x)
one_check laws files names status other text more (inr x) (inl y) = absurd (never_reported laws files names more x.model other x.has_model y)
one_check laws files names status other text more (inr x) (inr y) = same_acceptance laws files names text more status other x y

pub one_compilation : Laws → (files : Files) (names : List (List ℕ)) (status other : Status) (text more : List ℕ)
    → IsOutputFor (Some files) (Compile names) status text → IsOutputFor (Some files) (Compile names) other more → status ≡ other
one_compilation laws files names status other text more (inl x) (inl y) = x.refused ∙ sym y.refused
one_compilation laws files names status other text more (inl x) (inr y) = absurd (never_reported laws files names text y.model status y.has_model x)
one_compilation laws files names status other text more (inr x) (inl y) = absurd (never_reported laws files names more x.model other x.has_model y)
one_compilation laws files names status other text more (inr x) (inr y) = x.done ∙ sym y.done

pub one_refusal : Laws → (files : Files) (names : List (List ℕ)) (stimuli : List ℕ) (steps : ℕ) (status : Status) (text line : List ℕ)
    → IsReport (Some files) names Refused line → IsOutputFor (Some files) (Simulate names stimuli steps) status text → (status ≡ Refused) × (text ≡ line)
one_refusal laws files names stimuli steps status text line report (inl x) = same_report laws files names text line status Refused x report
one_refusal laws files names stimuli steps status text line report (inr x) = absurd (never_reported laws files names line x.model Refused x.has_model report)

-- ---- files with too many bytes

pub never_too_large : Laws → (files : Files) (command : Command) (status : Status) (text : List ℕ)
    → IsOutputFor (Some files) command status text → IsTooLargeFor (Some files) command → ⊥
never_too_large laws files (Check names) status text (inl x) large = read_not_large files names x.files x.read large
never_too_large laws files (Check names) status text (inr x) large = read_not_large files names x.has_model.files x.has_model.read large
never_too_large laws files (Compile names) status text (inl x) large = read_not_large files names x.files x.read large
never_too_large laws files (Compile names) status text (inr x) large = read_not_large files names x.has_model.files x.has_model.read large
never_too_large laws files (Run names code stimuli steps) status text (inl x) (inl large) = read_not_large files names x.files x.read large
never_too_large laws files (Run names code stimuli steps) status text (inl x) (inr (inl large)) = never_reported laws files names text large.0 status large.1 x
never_too_large laws files (Run names code stimuli steps) status text (inl x) (inr (inr large)) = never_reported laws files names text large.0 status large.1 x
never_too_large laws files (Run names code stimuli steps) status text (inr (inl x)) (inl large) = read_not_large files names x.has_model.files x.has_model.read large
never_too_large laws files (Run names code stimuli steps) status text (inr (inl x)) (inr (inl large)) = never_large files code x.bytes x.read large.2
never_too_large laws files (Run names code stimuli steps) status text (inr (inl x)) (inr (inr large)) = never_bad_line laws files names code text status large.0 large.2.0 x large.1 large.2.1
never_too_large laws files (Run names code stimuli steps) status text (inr (inr x)) (inl large) = read_not_large files names x.has_model.files x.has_model.read large
never_too_large laws files (Run names code stimuli steps) status text (inr (inr x)) (inr (inl large)) = never_large files code x.has_program.bytes x.has_program.read large.2
never_too_large laws files (Run names code stimuli steps) status text (inr (inr x)) (inr (inr large)) = never_large files stimuli x.traces.bytes x.traces.read large.3
never_too_large laws files (Simulate names stimuli steps) status text (inl x) (inl large) = read_not_large files names x.files x.read large
never_too_large laws files (Simulate names stimuli steps) status text (inl x) (inr large) = never_reported laws files names text large.0 status large.1 x
never_too_large laws files (Simulate names stimuli steps) status text (inr x) (inl large) = read_not_large files names x.has_model.files x.has_model.read large
never_too_large laws files (Simulate names stimuli steps) status text (inr x) (inr large) = never_large files stimuli x.traces.bytes x.traces.read large.2
