-- What is looked up in two steps.
use Rattle.std.proofs.Common.{◌≡◌, ℕ, List, Some, sym, ap, ◌∙◌}
use Rattle.std.specs.List.{find}
use Rattle.std.specs.Str.{bytes_eq}
use Rattle.og_names.specs.declared.Word.{Word}
use Rattle.og_csubset.specs.declared.CStruct.{CStruct}
use Rattle.og_csubset.specs.declared.CMember.{CMember}
use Rattle.og_csubset.specs.declared.CType.{CType}
use Rattle.og_csubset.specs.declared.CType.TheVariants.{Struct}
use Rattle.og_csubset.specs.Kinds.{members_of}
use Rattle.og_ir.specs.Cells.{◌>>=◌}

pub members_found : (structs : List CStruct) (kind : CType) (name : Word) (w : List ℕ) (s : CStruct) (members : List CMember)
    → kind ≡ Struct name → w ≡ name.bytes → Some s ≡ find (λ t. bytes_eq w t.name.bytes) structs → members ≡ s.members → Some members ≡ members_of structs kind
members_found structs kind name w s members k e found m =
    ap Some m
    ∙ ap (λ o. o >>= λ t. Some t.members) (found ∙ ap (λ v. find (λ t. bytes_eq v t.name.bytes) structs) e)
    ∙ ap (members_of structs) (sym k)
