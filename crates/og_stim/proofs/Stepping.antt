-- One line further in a stimuli file.
use Rattle.std.proofs.Common.{◌≡◌, ℕ, ◌+◌, List, ◌∷◌, drop, sym, ap, ◌∙◌}
use Rattle.std.proofs.lemmas.List.{drop-drop}
use Rattle.og_model.specs.declared.Model.{Model}
use Rattle.og_stim.specs.Lines.{lines_of}
use Rattle.og_stim.specs.Stimuli.{Judged, judged, next_by, next_in}

-- what comes next is what the first line says, or what comes behind it
pub turn : (M : Model) (n : ℕ) (text : List ℕ) (offset taken : ℕ) (rest line : List ℕ) (outcome : Judged) → rest ≡ drop offset text → lines_of rest ≡ line ∷ lines_of (drop taken rest) → judged M (n + 1) line ≡ outcome → next_in M n (lines_of (drop offset text)) ≡ next_by outcome (n + 1) (lines_of (drop (offset + taken) text)) (next_in M (n + 1) (lines_of (drop (offset + taken) text)))
turn M n text offset taken rest line outcome is lines says =
    ap (λ bs. next_in M n (lines_of bs)) (sym is) ∙ ap (next_in M n) lines
    ∙ ap (λ o. next_by o (n + 1) (lines_of (drop taken rest)) (next_in M (n + 1) (lines_of (drop taken rest)))) says
    ∙ ap (λ bs. next_by outcome (n + 1) (lines_of bs) (next_in M (n + 1) (lines_of bs))) (ap (drop taken) is ∙ drop-drop taken offset text)
