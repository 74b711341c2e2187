-- The trees of modules as functions of their derivations, by the parts of the table (X.680 clause 13 and those behind it). A type
-- reads what stands one type further inside by `inside`, and so does a value; a number of choices is enough for it.
use Rattle.std.specs.Prelude.{ℕ, zero, suc, Bool, true, false, List, [], length, Option, Some, None, if◌then◌else◌, ◌==◌}
use Rattle.og_lexer.specs.declared.Spanned.{Spanned}
use Rattle.og_asn1.specs.declared.syntax.ModuleTree.{ModuleTree}
use Rattle.og_asn1.specs.declared.syntax.TaggingTree.{TaggingTree}
use Rattle.og_asn1.specs.declared.syntax.Tagging.TheVariants as tagging
use Rattle.og_asn1.specs.declared.syntax.ExportsTree.{ExportsTree}
use Rattle.og_asn1.specs.declared.syntax.ImportsTree.{ImportsTree}
use Rattle.og_asn1.specs.declared.syntax.ImportTree.{ImportTree}
use Rattle.og_asn1.specs.declared.syntax.SymbolTree.{SymbolTree}
use Rattle.og_asn1.specs.declared.syntax.SymbolTree.TheVariants as symbol
use Rattle.og_asn1.specs.declared.syntax.AssignmentTree.{AssignmentTree}
use Rattle.og_asn1.specs.declared.syntax.AssignmentTree.TheVariants as assignment
use Rattle.og_asn1.specs.declared.syntax.TypeTree.{TypeTree}
use Rattle.og_asn1.specs.declared.syntax.BaseTree.{BaseTree, Integer, Boolean, Reference, Enumerated, Choice, Sequence, Set, SequenceOf, SetOf, Real, Null, OctetString, ObjectIdentifier, BitString}
use Rattle.og_asn1.specs.declared.syntax.TagTree.{TagTree}
use Rattle.og_asn1.specs.declared.syntax.TagMode.{TagMode}
use Rattle.og_asn1.specs.declared.syntax.TagMode.TheVariants as mode
use Rattle.og_asn1.specs.declared.syntax.OfTree.{OfTree, roll-OfTree}
use Rattle.og_asn1.specs.declared.syntax.SizeTree.{SizeTree}
use Rattle.og_asn1.specs.declared.syntax.SizeTree.TheVariants as size
use Rattle.og_asn1.specs.declared.syntax.EnumTree.{EnumTree}
use Rattle.og_asn1.specs.declared.syntax.EnumTree.TheVariants as item
use Rattle.og_asn1.specs.declared.syntax.SignedTree.{SignedTree}
use Rattle.og_asn1.specs.declared.syntax.CompTree.{CompTree, Part, Extension}
use Rattle.og_asn1.specs.declared.syntax.PresenceTree.{PresenceTree}
use Rattle.og_asn1.specs.declared.syntax.PresenceTree.TheVariants as presence
use Rattle.og_asn1.specs.declared.syntax.ValueTree.{ValueTree}
use Rattle.og_asn1.specs.declared.syntax.ValueNode.{ValueNode}
use Rattle.og_asn1.specs.declared.syntax.ValueNode as node
use Rattle.og_asn1.specs.declared.syntax.FractionTree.{FractionTree}
use Rattle.og_asn1.specs.declared.syntax.RunTree.{RunTree}
use Rattle.og_asn1.specs.Reading.{Take, behind, after, choice_in, place_in, word_in, number_in, name_in, maybe, more_of, listed, passed, behind_one, tokens_to, run_in, bracket_in}

-- ---- values

-- the digits behind a full stop
unfoldable pub digits_at : Take ℕ
digits_at rest = (number_in rest, behind (after rest))

-- "." [ number ]
unfoldable pub fraction_at : Take FractionTree
fraction_at rest =
    let digits = maybe digits_at (behind (after rest)) in
    (record { place = place_in rest; digits = digits.0 }, digits.1)

-- number [ "." [ number ] ]
unfoldable pub number_value : Bool → Take ValueNode
number_value is_negative rest =
    let fraction = maybe fraction_at (behind rest) in
    (node.Number is_negative (number_in rest) fraction.0, fraction.1)

-- ":" value
abbrev pub chosen_at : Take ValueTree → Take ValueTree
chosen_at inside rest = inside (behind (after rest))

-- ident [ ":" value ]
unfoldable pub named_value : Take ValueTree → Take ValueNode
named_value inside rest =
    let value = maybe (chosen_at inside) (behind rest) in
    (node.Named (name_in rest) value.0, value.1)

-- "{" any "}"
unfoldable pub braces_value : Take ValueNode
braces_value rest = let run = run_in rest in (node.Braces run.0, run.1)

-- a value by its choice
unfoldable pub node_at : Take ValueTree → Take ValueNode
node_at inside rest =
    let c = choice_in rest in
    let start = after rest in
    if c == 0 then number_value true (behind start)
    else (if c == 1 then number_value false start
    else (if c == 2 then (node.Text (word_in start), behind start)
    else (if c == 3 then (node.Truth true, behind start)
    else (if c == 4 then (node.Truth false, behind start)
    else (if c == 5 then (node.Null, behind start)
    else (if c == 6 then named_value inside start else braces_value start))))))

abbrev pub value_by : Take ValueTree → Take ValueTree
value_by inside rest = let n = node_at inside rest in (record { place = place_in rest; node = n.0 }, n.1)

-- where nothing is left to go by
abbrev pub no_value : Take ValueTree
no_value rest = (record { place = place_in rest; node = node.Null }, rest)

unfoldable pub value_within : ℕ → Take ValueTree
value_within zero rest = no_value rest
value_within (suc n) rest = value_by (value_within n) rest

abbrev pub value_at : Take ValueTree
value_at rest = value_within (length rest.choices) rest

-- ---- enumerations

-- [ "-" ] number
unfoldable pub signed_at : Take SignedTree
signed_at rest =
    let start = after rest in
    if choice_in rest == 0 then (record { place = place_in rest; is_negative = true; digits = number_in (behind start) }, behind (behind start))
    else (record { place = place_in rest; is_negative = false; digits = number_in start }, behind start)

-- "(" [ "-" ] number ")"
unfoldable pub enum_number_at : Take SignedTree
enum_number_at rest = let number = signed_at (behind (after rest)) in (number.0, behind number.1)

-- ident [ "(" [ "-" ] number ")" ] | "..."
unfoldable pub enum_at : Take EnumTree
enum_at rest =
    let start = after rest in
    if choice_in rest == 0 then (let number = maybe enum_number_at (behind start) in (item.Item (name_in start) number.0, number.1))
    else (item.Extension (place_in start), behind start)

-- ---- types

-- OPTIONAL | DEFAULT value
unfoldable pub presence_at : Take PresenceTree
presence_at rest =
    let start = after rest in
    if choice_in rest == 0 then (presence.Optional (place_in start), behind start)
    else (let value = value_at (behind start) in (presence.Default (place_in start) value.0, value.1))

-- ident type [ OPTIONAL | DEFAULT value ]
unfoldable pub part_at : Take TypeTree → Take CompTree
part_at inside rest =
    let kind = inside (behind rest) in
    let presence = maybe presence_at kind.1 in
    (Part (name_in rest) kind.0 presence.0, presence.1)

-- the same, or "..."
unfoldable pub comp_at : Take TypeTree → Take CompTree
comp_at inside rest =
    let start = after rest in
    if choice_in rest == 0 then part_at inside start else (Extension (place_in start), behind start)

-- comp { "," comp }
abbrev pub comps_at : Take TypeTree → Take (List CompTree)
comps_at inside rest = listed (comp_at inside) (after rest)

abbrev pub or_none : {X : Type 0} → Option (List X) → List X
or_none None = []
or_none (Some xs) = xs

-- [ comp { "," comp } ]
abbrev pub some_comps_at : Take TypeTree → Take (List CompTree)
some_comps_at inside rest = let comps = maybe (comps_at inside) rest in (or_none comps.0, comps.1)

-- "(" any ")" | SIZE "(" any ")"
unfoldable pub size_at : Take SizeTree
size_at rest =
    let start = after rest in
    if choice_in rest == 0 then (let run = bracket_in start in (size.Bracket run.0, run.1))
    else (let run = bracket_in (behind start) in (size.Size (place_in start) run.0, run.1))

-- [ "(" any ")" | SIZE "(" any ")" ] OF type
unfoldable pub of_at : Take TypeTree → Take OfTree
of_at inside rest =
    let size = maybe size_at rest in
    let kind = inside (behind size.1) in
    (roll-OfTree (record { size = size.0; item = kind.0 }), kind.1)

-- what stands behind SEQUENCE
unfoldable pub sequence_at : Take TypeTree → Take BaseTree
sequence_at inside rest =
    let start = after rest in
    if choice_in rest == 0 then (let comps = some_comps_at inside (behind start) in (Sequence comps.0, behind comps.1))
    else (let of = of_at inside start in (SequenceOf of.0, of.1))

-- what stands behind SET
unfoldable pub set_at : Take TypeTree → Take BaseTree
set_at inside rest =
    let start = after rest in
    if choice_in rest == 0 then (let run = run_in start in (Set run.0, run.1))
    else (let of = of_at inside start in (SetOf of.0, of.1))

-- [ "{" any "}" ] [ "(" any ")" ]
abbrev pub two_runs : {X : Type 0} → (Option RunTree → Option RunTree → X) → Take X
two_runs make rest =
    let names = maybe bracket_in rest in
    let limits = maybe bracket_in names.1 in
    (make names.0 limits.0, limits.1)

-- [ "(" any ")" ]
abbrev pub one_run : {X : Type 0} → (Option RunTree → X) → Take X
one_run make rest = let limits = maybe bracket_in rest in (make limits.0, limits.1)

-- enumerators in braces
unfoldable pub enumerated_at : Take BaseTree
enumerated_at rest = let items = listed enum_at (behind rest) in (Enumerated items.0, behind items.1)

-- parts in braces
unfoldable pub choice_at : Take TypeTree → Take BaseTree
choice_at inside rest = let comps = listed (comp_at inside) (behind rest) in (Choice comps.0, behind comps.1)

-- a type by its choice, from its first token on
unfoldable pub base_by : ℕ → Take TypeTree → Take BaseTree
base_by c inside rest =
    let more = behind rest in
    if c == 0 then two_runs Integer more
    else (if c == 1 then (Boolean, more)
    else (if c == 2 then one_run (Reference (name_in rest)) more
    else (if c == 3 then enumerated_at more
    else (if c == 4 then choice_at inside more
    else (if c == 5 then sequence_at inside more
    else (if c == 6 then set_at inside more
    else (if c == 7 then one_run Real more
    else (if c == 8 then (Null, more)
    else (if c == 9 then one_run OctetString (behind more)
    else (if c == 10 then (ObjectIdentifier, behind more) else two_runs BitString (behind more)))))))))))

abbrev pub base_at : Take TypeTree → Take BaseTree
base_at inside rest = base_by (choice_in rest) inside (after rest)

-- IMPLICIT | EXPLICIT
unfoldable pub tag_mode_at : Take TagMode
tag_mode_at rest = ((if choice_in rest == 0 then mode.Implicit else mode.Explicit), behind (after rest))

-- "[" any "]" [ IMPLICIT | EXPLICIT ]
unfoldable pub tag_at : Take TagTree
tag_at rest =
    let run = bracket_in rest in
    let mode = maybe tag_mode_at run.1 in
    (record { run = run.0; mode = mode.0 }, mode.1)

-- [ tag ] base
unfoldable pub type_by : Take TypeTree → Take TypeTree
type_by inside rest =
    let tag = maybe tag_at (after rest) in
    let base = base_at inside tag.1 in
    (record { place = place_in rest; tag = tag.0; base = base.0 }, base.1)

-- where nothing is left to go by
abbrev pub no_type : Take TypeTree
no_type rest = (record { place = place_in rest; tag = None; base = Null }, rest)

unfoldable pub type_within : ℕ → Take TypeTree
type_within zero rest = no_type rest
type_within (suc n) rest = type_by (type_within n) rest

abbrev pub type_at : Take TypeTree
type_at rest = type_within (length rest.choices) rest

-- ---- modules

-- Ref "::=" type | ident type "::=" value
unfoldable pub assignment_at : Take AssignmentTree
assignment_at rest =
    let start = after rest in
    if choice_in rest == 0 then (let kind = type_at (behind (behind start)) in (assignment.Type (name_in start) kind.0, kind.1))
    else (let kind = type_at (behind start) in let value = value_at (behind kind.1) in (assignment.Value (name_in start) kind.0 value.0, value.1))

-- Ref | ident
unfoldable pub symbol_at : Take SymbolTree
symbol_at rest =
    let start = after rest in
    ((if choice_in rest == 0 then symbol.Type (name_in start) else symbol.Value (name_in start)), behind start)

-- symbol { "," symbol } FROM Ref [ "{" any "}" ]
unfoldable pub import_at : Take ImportTree
import_at rest =
    let symbols = listed symbol_at (after rest) in
    let module_name = behind symbols.1 in
    let object = maybe bracket_in (behind module_name) in
    (record { symbols = symbols.0; «module» = name_in module_name; object = object.0 }, object.1)

-- IMPORTS { import } ";"
unfoldable pub imports_at : Take ImportsTree
imports_at rest =
    let imports = more_of import_at [] (behind (after rest)) in
    (record { place = place_in rest; imports = imports.0 }, behind imports.1)

-- EXPORTS any-but-semicolon ";"
unfoldable pub exports_at : Take ExportsTree
exports_at rest =
    let start = behind (after rest) in
    let end = passed behind_one start in
    (record { place = place_in rest; tokens = tokens_to start end }, behind end)

-- ( AUTOMATIC | EXPLICIT | IMPLICIT ) TAGS
unfoldable pub tagging_at : Take TaggingTree
tagging_at rest =
    let c = choice_in rest in
    (record { place = place_in rest; tagging = (if c == 0 then tagging.Automatic else (if c == 1 then tagging.Explicit else tagging.Implicit)) }, behind (behind (after rest)))

-- a module
unfoldable pub module_at : Take ModuleTree
module_at rest =
    let start = after rest in
    let object = maybe bracket_in (behind start) in
    let tagging = maybe tagging_at (behind object.1) in
    let exports = maybe exports_at (behind (behind tagging.1)) in
    let imports = maybe imports_at exports.1 in
    let assignments = more_of assignment_at [] imports.1 in
    (record { name = name_in start; object = object.0; tagging = tagging.0; exports = exports.0; imports = imports.0; assignments = assignments.0 }, behind assignments.1)

-- the modules of a file
unfoldable pub modules_at : Take (List ModuleTree)
modules_at rest = more_of module_at [] (after rest)

-- the trees of a derivation
abbrev pub trees_of : List ℕ → List Spanned → List ModuleTree
trees_of choices tokens = (modules_at (record { choices = choices; tokens = tokens })).0
