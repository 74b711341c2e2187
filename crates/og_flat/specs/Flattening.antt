-- Modules laid out flat: the types of all modules in one list, each behind the types in it, and the types and constants that the
-- modules declare, in the order of the text. Tags are left out, since they change nothing.
use Rattle.std.specs.Prelude.{ℕ, zero, suc, ◌+◌, ◌-◌, Bool, true, false, ◌&&◌, ◌||◌, List, [], ◌∷◌, ◌++◌, length, Option, Some, None, is_none}
use Rattle.og_flat.specs.declared.flat.Enumerator.{Enumerator}
use Rattle.og_flat.specs.declared.flat.Written.{Written}
use Rattle.og_flat.specs.declared.flat.PartNode.{PartNode}
use Rattle.og_flat.specs.declared.flat.Node.{Node}
use Rattle.og_flat.specs.declared.flat.Node.TheVariants as node
use Rattle.og_flat.specs.declared.flat.Limits.TheVariants as limits
use Rattle.og_flat.specs.declared.flat.ConstantValue.{ConstantValue}
use Rattle.og_flat.specs.declared.flat.ConstantValue.TheVariants as value
use Rattle.og_flat.specs.declared.flat.Flat.{Flat}
use Rattle.og_asn1.specs.declared.syntax.Name.{Name}
use Rattle.og_asn1.specs.declared.syntax.ModuleTree.{ModuleTree}
use Rattle.og_asn1.specs.declared.syntax.AssignmentTree.{AssignmentTree}
use Rattle.og_asn1.specs.declared.syntax.AssignmentTree.TheVariants as assignment
use Rattle.og_asn1.specs.declared.syntax.TypeTree.{TypeTree, size-TypeTree}
use Rattle.og_asn1.specs.declared.syntax.BaseTree.{BaseTree, BaseTree-F, out-BaseTree}
use Rattle.og_asn1.specs.declared.syntax.BaseTree.TheOpen as base
use Rattle.og_asn1.specs.declared.syntax.BaseTree.TheOpen.{CompTree-F}
use Rattle.og_asn1.specs.declared.syntax.OfTree.{OfTree, out-OfTree}
use Rattle.og_asn1.specs.declared.syntax.SignedTree.{SignedTree}
use Rattle.og_asn1.specs.declared.syntax.EnumTree.{EnumTree}
use Rattle.og_asn1.specs.declared.syntax.EnumTree.TheVariants as item
use Rattle.og_asn1.specs.declared.syntax.CompTree.{CompTree, out-CompTree}
use Rattle.og_asn1.specs.declared.syntax.PresenceTree.{PresenceTree}
use Rattle.og_asn1.specs.declared.syntax.PresenceTree.TheVariants as presence
use Rattle.og_asn1.specs.declared.syntax.ValueTree.{ValueTree}
use Rattle.og_asn1.specs.declared.syntax.ValueNode.{ValueNode, ValueNode-F, out-ValueNode}
use Rattle.og_asn1.specs.declared.syntax.ValueNode.TheOpen as written
use Rattle.og_flat.specs.Limits.{limits_of, limits_of_size}

-- ---- enumerators

abbrev pub written_number : Option SignedTree → Option Written
written_number None = None
written_number (Some n) = Some (record { is_negative = n.is_negative; digits = n.digits })

abbrev pub enumerator_of : EnumTree → List Enumerator
enumerator_of (item.Item name number) = record { name = name; number = written_number number } ∷ []
enumerator_of (item.Extension place) = []

abbrev pub enumerators_of : List EnumTree → List Enumerator
enumerators_of [] = []
enumerators_of (t ∷ ts) = enumerator_of t ++ enumerators_of ts

-- whether the mark `...` stands among them
abbrev pub is_extension : EnumTree → Bool
is_extension (item.Item name number) = false
is_extension (item.Extension place) = true

abbrev pub is_open : List EnumTree → Bool
is_open [] = false
is_open (t ∷ ts) = is_extension t || is_open ts

-- ---- values

-- the name that a value is alone
abbrev pub name_alone : ValueTree → Option Name
name_alone v = by (out-ValueNode v.node)
  where
    by : ValueNode-F ValueNode ValueTree → Option Name
    by (written.Named name None) = Some name
    by (written.Named name (Some chosen)) = None
    by (written.Number is_negative digits fraction) = None
    by (written.Text text) = None
    by (written.Truth truth) = None
    by written.Null = None
    by (written.Braces run) = None

abbrev pub constant_value : ValueTree → ConstantValue
constant_value v = by (out-ValueNode v.node)
  where
    by : ValueNode-F ValueNode ValueTree → ConstantValue
    by (written.Number is_negative digits None) = value.Number (record { is_negative = is_negative; digits = digits })
    by (written.Number is_negative digits (Some fraction)) = value.Other
    by (written.Named name None) = value.Named name
    by (written.Named name (Some chosen)) = value.Other
    by (written.Text text) = value.Other
    by (written.Truth truth) = value.Other
    by written.Null = value.Other
    by (written.Braces run) = value.Other

abbrev pub default_of : Option PresenceTree → Option Name
default_of None = None
default_of (Some (presence.Optional place)) = None
default_of (Some (presence.Default place v)) = name_alone v

-- ---- types

-- the number of the last of these, which stand behind n others
abbrev pub last_of : ℕ → List Node → ℕ
last_of n nodes = n + length nodes - 1

-- the types in the parts of a choice or a sequence, behind n others, and its parts
pub record Parts : Type 0 where
  pub nodes : List Node
  pub parts : List PartNode
  pub is_plain : Bool

abbrev pub no_parts : Parts
no_parts = record { nodes = []; parts = []; is_plain = true }

-- a part in front of others
abbrev pub with_part : ℕ → Name → Option PresenceTree → List Node → Parts → Parts
with_part n name presence nodes more = record {
  nodes = nodes ++ more.nodes;
  parts = record { name = name; node = last_of n nodes; default = default_of presence } ∷ more.parts;
  is_plain = is_none presence && more.is_plain;
}

abbrev pub opened : Parts → Parts
opened parts = record { nodes = parts.nodes; parts = parts.parts; is_plain = false }

abbrev pub parts_by : (ℕ → TypeTree → List Node) → ℕ → CompTree-F BaseTree CompTree OfTree TypeTree → (ℕ → Parts) → Parts
parts_by inside n (base.Part name kind presence) more = let nodes = inside n kind in with_part n name presence nodes (more (n + length nodes))
parts_by inside n (base.Extension place) more = opened (more n)

-- one part alone, behind n types
abbrev pub one_part : (ℕ → TypeTree → List Node) → ℕ → CompTree → Parts
one_part inside n c = parts_by inside n (out-CompTree c) (λ m. no_parts)

abbrev pub parts_of : (ℕ → TypeTree → List Node) → List CompTree → ℕ → Parts
parts_of inside [] n = no_parts
parts_of inside (c ∷ cs) n = parts_by inside n (out-CompTree c) (parts_of inside cs)

-- a type behind n others, where `inside` does so one type further inside
abbrev pub nodes_by : (ℕ → TypeTree → List Node) → ℕ → BaseTree-F BaseTree CompTree OfTree TypeTree → List Node
nodes_by inside n (base.Integer names limits) = node.Integer (limits_of limits) ∷ []
nodes_by inside n base.Boolean = node.Boolean ∷ []
nodes_by inside n (base.Reference name limits) = node.Reference name (limits_of limits) ∷ []
nodes_by inside n (base.Enumerated items) = node.Enumerated (enumerators_of items) (is_open items) ∷ []
nodes_by inside n (base.Choice comps) = let p = parts_of inside comps n in p.nodes ++ node.Choice p.parts p.is_plain ∷ []
nodes_by inside n (base.Sequence comps) = let p = parts_of inside comps n in p.nodes ++ node.Sequence p.parts p.is_plain ∷ []
nodes_by inside n (base.Set run) = node.Other limits.Absent ∷ []
nodes_by inside n (base.SequenceOf of) =
    let o = out-OfTree of in
    let nodes = inside n o.item in
    nodes ++ node.SequenceOf (limits_of_size o.size) (last_of n nodes) ∷ []
nodes_by inside n (base.SetOf of) = let o = out-OfTree of in inside n o.item ++ node.Other (limits_of_size o.size) ∷ []
nodes_by inside n (base.Real limits) = node.Other (limits_of limits) ∷ []
nodes_by inside n base.Null = node.Other limits.Absent ∷ []
nodes_by inside n (base.OctetString limits) = node.Other (limits_of limits) ∷ []
nodes_by inside n base.ObjectIdentifier = node.Other limits.Absent ∷ []
nodes_by inside n (base.BitString names limits) = node.Other (limits_of limits) ∷ []

abbrev pub nodes_within : ℕ → ℕ → TypeTree → List Node
nodes_within zero n t = []
nodes_within (suc depth) n t = nodes_by (nodes_within depth) n (out-BaseTree t.base)

-- the types in a type, behind n others, and the type itself behind them
abbrev pub nodes_of : ℕ → TypeTree → List Node
nodes_of n t = nodes_within (size-TypeTree t) n t

-- ---- modules

abbrev pub no_flat : Flat
no_flat = record { nodes = []; types = []; constants = [] }

-- one declaration more
abbrev pub with_assignment : Flat → AssignmentTree → Flat
with_assignment flat (assignment.Type name kind) =
    let n = length flat.nodes in
    let nodes = nodes_of n kind in
    record { nodes = flat.nodes ++ nodes; types = flat.types ++ record { name = name; node = last_of n nodes } ∷ []; constants = flat.constants }
with_assignment flat (assignment.Value name kind v) =
    let n = length flat.nodes in
    let nodes = nodes_of n kind in
    record { nodes = flat.nodes ++ nodes; types = flat.types; constants = flat.constants ++ record { name = name; node = last_of n nodes; value = constant_value v } ∷ [] }

abbrev pub with_assignments : Flat → List AssignmentTree → Flat
with_assignments flat [] = flat
with_assignments flat (a ∷ rest) = with_assignments (with_assignment flat a) rest

abbrev pub with_modules : Flat → List ModuleTree → Flat
with_modules flat [] = flat
with_modules flat (m ∷ ms) = with_modules (with_assignments flat m.assignments) ms

-- all that the modules declare
abbrev pub flat_of : List ModuleTree → Flat
flat_of modules = with_modules no_flat modules
