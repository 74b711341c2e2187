-- Names that are known so far, in the order of the text or from the last one back.
use Rattle.std.proofs.Common.{◌≡◌, ℕ, List, [], ◌∷◌, ◌++◌, Bool, true, false, ◌&&◌, ◌||◌, refl, ap, ◌∙◌}
use Rattle.std.specs.List.{list_all}
use Rattle.std.specs.Str.{bytes_eq}
use Rattle.og_csubset.specs.declared.CStruct.{CStruct}
use Rattle.og_csubset.specs.declared.CMember.{CMember}
use Rattle.og_csubset.specs.declared.CType.{CType}
use Rattle.og_csubset.specs.declared.CType.TheVariants.{Int64, Struct}
use Rattle.og_csubset.specs.declared.CFunction.{CFunction}
use Rattle.og_csubset.specs.declared.CStmt.{CStmt}
use Rattle.og_csubset.specs.declared.CStmt.TheVariants.{Assign, IfGoto, Goto, Label, Switch, Call, Return}
use Rattle.og_csubset.specs.Kinds.{is_in}
use Rattle.og_csubset.specs.Loading.{is_known, structs_known, calls_known, functions_known}
use Rattle.std.specs.Borrow.{Bor}
use Rattle.og_cload.specs.Names.{names_in}
use Rattle.og_names.proofs.Loops.{Left}

or_regroup : (a b c : Bool) → (a || (b || c)) ≡ (b || (a || c))
or_regroup true true c = refl
or_regroup true false c = refl
or_regroup false true c = refl
or_regroup false false c = refl

-- a name at the end is as one in front
at_end : (name last : List ℕ) (names : List (List ℕ)) → is_in name (names ++ last ∷ []) ≡ (bytes_eq name last || is_in name names)
at_end name last [] = refl
at_end name last (other ∷ names) =
    ap (λ b. bytes_eq name other || b) (at_end name last names) ∙ or_regroup (bytes_eq name other) (bytes_eq name last) (is_in name names)

both : {a b c d : Bool} → a ≡ b → c ≡ d → (a && c) ≡ (b && d)
both {a} {b} {c} {d} p q = ap (λ x. x && c) p ∙ ap (λ x. b && x) q

all_same : {X : Type 0} (p q : X → Bool) → ((x : X) → p x ≡ q x) → (xs : List X) → list_all p xs ≡ list_all q xs
all_same p q h [] = refl
all_same p q h (x ∷ xs) = both (h x) (all_same p q h xs)

-- each struct's members have types of structs before it, where those so far stand in the order of the text
abbrev pub known_after : List (List ℕ) → List CStruct → Bool
known_after names [] = true
known_after names (s ∷ structs) =
    list_all (λ m. is_known names m.kind) s.members && known_after (names ++ s.name.bytes ∷ []) structs

known_type : (a b : List (List ℕ)) → ((name : List ℕ) → is_in name a ≡ is_in name b) → (t : CType) → is_known a t ≡ is_known b t
known_type a b h Int64 = refl
known_type a b h (Struct name) = h name.bytes

known_same : (a b : List (List ℕ)) → ((name : List ℕ) → is_in name a ≡ is_in name b) → (structs : List CStruct) → known_after a structs ≡ structs_known b structs
known_same a b h [] = refl
known_same a b h (s ∷ structs) =
    both (all_same (λ (m : CMember). is_known a m.kind) (λ (m : CMember). is_known b m.kind) (λ m. known_type a b h m.kind) s.members)
    (known_same (a ++ s.name.bytes ∷ []) (s.name.bytes ∷ b) (λ name. at_end name s.name.bytes a ∙ ap (λ x. bytes_eq name s.name.bytes || x) (h name)) structs)

pub known_is : (structs : List CStruct) → known_after [] structs ≡ structs_known [] structs
known_is structs = known_same [] [] (λ name. refl) structs

-- each function's calls are known, where the names so far stand in the order of the text
abbrev pub called_after : List (List ℕ) → List CFunction → Bool
called_after names [] = true
called_after names (f ∷ functions) =
    list_all (calls_known names) f.body && called_after (names ++ f.name.bytes ∷ []) functions

known_call : (a b : List (List ℕ)) → ((name : List ℕ) → is_in name a ≡ is_in name b) → (s : CStmt) → calls_known a s ≡ calls_known b s
known_call a b h (Assign place e) = refl
known_call a b h (IfGoto test label) = refl
known_call a b h (Goto label) = refl
known_call a b h (Label label) = refl
known_call a b h (Switch e cases otherwise) = refl
known_call a b h (Call name) = h name.bytes
known_call a b h Return = refl

called_same : (a b : List (List ℕ)) → ((name : List ℕ) → is_in name a ≡ is_in name b) → (functions : List CFunction) → called_after a functions ≡ functions_known b functions
called_same a b h [] = refl
called_same a b h (f ∷ functions) =
    both (all_same (calls_known a) (calls_known b) (known_call a b h) f.body)
    (called_same (a ++ f.name.bytes ∷ []) (f.name.bytes ∷ b) (λ name. at_end name f.name.bytes a ∙ ap (λ x. bytes_eq name f.name.bytes || x) (h name)) functions)

pub called_is : (names : List (List ℕ)) (functions : List CFunction) → called_after names functions ≡ functions_known names functions
called_is names functions = called_same names names (λ name. refl) functions

pub known_first : (names : List (Bor (List ℕ))) (structs : List CStruct) → names ≡ [] → Left (λ ys. known_after (names_in names) ys) structs 0 (structs_known [] structs)
known_first names structs e = record { is = ap (λ ns. known_after (names_in ns) structs) e ∙ known_is structs }
