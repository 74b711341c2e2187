-- The tokens of a program are read as a program that they are.
use Rattle.std.proofs.Common.{◌≡◌, List, Some, None, sym, ◌∙◌}
use Rattle.og_csubset.specs.declared.CProgram.{CProgram}
use Rattle.og_csubset.specs.Tokens.{Token}
use Rattle.og_csubset.specs.Spelling.{IsProgram}
use Rattle.og_csubset.proofs.Complete.{read_complete}
use Rattle.og_csubset.proofs.Sound.{read_sound}
use Rattle.og_csubset.proofs.Seen.{nothing}
use Rattle.og_cread.specs.Trees.{tree_of}
use Rattle.og_cread.proofs.Fronts.{tree_is}

pub tree_is_program : (ts : List Token) (P : CProgram) → tree_of ts ≡ Some P → IsProgram P ts
tree_is_program ts P e = read_sound ts P (tree_is ts ∙ e)

pub program_has_tree : (ts : List Token) (P : CProgram) → IsProgram P ts → tree_of ts ≡ None → ⊥
program_has_tree ts P p e = nothing P (sym e ∙ (sym (tree_is ts) ∙ read_complete p))
