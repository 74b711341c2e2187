-- Loops that lay types out flat: the parts of a choice or a sequence one after the other, and enumerators.
use Rattle.std.proofs.Common.{◌≡◌, ℕ, ◌+◌, ◌≤◌, ◌<◌, Bool, true, false, ◌&&◌, List, [], ◌∷◌, ◌++◌, length, get_or, refl, sym, ap, ◌∙◌, append_assoc, length-append, arith, is_none}
use Rattle.std.proofs.lemmas.List.{append-nil}
use Rattle.og_names.proofs.Loops.{Left, left_first, left_more, left_all}
use Rattle.og_asn1.specs.declared.syntax.TypeTree.{TypeTree}
use Rattle.og_asn1.specs.declared.syntax.BaseTree.{BaseTree}
use Rattle.og_asn1.specs.declared.syntax.BaseTree.TheOpen.{CompTree-F, Part, Extension}
use Rattle.og_asn1.specs.declared.syntax.OfTree.{OfTree}
use Rattle.og_asn1.specs.declared.syntax.CompTree.{CompTree, out-CompTree}
use Rattle.og_asn1.specs.declared.syntax.EnumTree.{EnumTree}
use Rattle.og_flat.specs.declared.flat.Node.{Node}
use Rattle.og_flat.specs.declared.flat.PartNode.{PartNode}
use Rattle.og_flat.specs.declared.flat.Enumerator.{Enumerator}
use Rattle.og_flat.specs.Flattening.{Parts, no_parts, last_of, default_of, parts_by, parts_of, one_part, enumerator_of, enumerators_of}

abbrev joined : Parts → Parts → Parts
joined a b = record { nodes = a.nodes ++ b.nodes; parts = a.parts ++ b.parts; is_plain = a.is_plain && b.is_plain }

and_assoc : (a b c : Bool) → ((a && b) && c) ≡ (a && (b && c))
and_assoc true b c = refl
and_assoc false b c = refl

and_true : (a : Bool) → (a && true) ≡ a
and_true true = refl
and_true false = refl

joined_assoc : (a b c : Parts) → joined (joined a b) c ≡ joined a (joined b c)
joined_assoc a b c = λ i. record {
  nodes = append_assoc a.nodes b.nodes c.nodes i;
  parts = append_assoc a.parts b.parts c.parts i;
  is_plain = and_assoc a.is_plain b.is_plain c.is_plain i;
}

-- one part, and then the others
part_split : (inside : ℕ → TypeTree → List Node) (n : ℕ) (c : CompTree-F BaseTree CompTree OfTree TypeTree) (more : ℕ → Parts)
    → parts_by inside n c more ≡ joined (parts_by inside n c (λ m. no_parts)) (more (n + length (parts_by inside n c (λ m. no_parts)).nodes))
part_split inside n (Part name kind presence) more = λ i. record {
  nodes = nil i ++ (more (n + length (nil i))).nodes;
  parts = record { name = name; node = last_of n (inside n kind); default = default_of presence } ∷ (more (n + length (nil i))).parts;
  is_plain = plain (is_none presence) (more (n + length (nil i))).is_plain i;
}
  where
    nil : inside n kind ≡ inside n kind ++ []
    nil = sym (append-nil (inside n kind))

    plain : (a b : Bool) → (a && b) ≡ ((a && true) && b)
    plain true b = refl
    plain false b = refl
part_split inside n (Extension place) more = λ i. record {
  nodes = (more (none i)).nodes;
  parts = (more (none i)).parts;
  is_plain = false;
}
  where
    none : n ≡ n + 0
    none = omega arith

-- after the parts before the i-th
pub record Listing (inside : ℕ → TypeTree → List Node) (nodes : List Node) (cs : List CompTree) (i : ℕ) (now : List Node) (parts : List PartNode) (is_plain : Bool) : Type 0 where
  pub left : Left (λ ys. joined (record { nodes = now; parts = parts; is_plain = is_plain }) (parts_of inside ys (length now))) cs i
      (joined (record { nodes = nodes; parts = []; is_plain = true }) (parts_of inside cs (length nodes)))

pub listing_first : (inside : ℕ → TypeTree → List Node) (nodes : List Node) (cs : List CompTree) → Listing inside nodes cs 0 nodes [] true
listing_first inside nodes cs = record { left = left_first (λ ys. joined (record { nodes = nodes; parts = []; is_plain = true }) (parts_of inside ys (length nodes))) cs }

pub listing_more : (inside : ℕ → TypeTree → List Node) (nodes : List Node) (cs : List CompTree) (i : ℕ) (c : CompTree) (now next : List Node) (parts parts' : List PartNode) (plain plain' : Bool)
    → i < length cs → c ≡ get_or cs i c → next ≡ now ++ (one_part inside (length now) c).nodes → parts' ≡ parts ++ (one_part inside (length now) c).parts
    → plain' ≡ (plain && (one_part inside (length now) c).is_plain) → Listing inside nodes cs i now parts plain → Listing inside nodes cs (i + 1) next parts' plain'
listing_more inside nodes cs i c now next parts parts' plain plain' lt at e f g before = record {
  left = left_more _ (λ ys. joined (record { nodes = next; parts = parts'; is_plain = plain' }) (parts_of inside ys (length next))) cs i c _ lt at step before.left;
}
  where
    state : Parts
    state = record { nodes = now; parts = parts; is_plain = plain }

    one : Parts
    one = one_part inside (length now) c

    after : record { nodes = next; parts = parts'; is_plain = plain' } ≡ joined state one
    after = λ i. record { nodes = e i; parts = f i; is_plain = g i }

    long : length next ≡ length now + length one.nodes
    long = ap length e ∙ length-append now one.nodes

    step : (ys : List CompTree) → joined state (parts_of inside (c ∷ ys) (length now)) ≡ joined (record { nodes = next; parts = parts'; is_plain = plain' }) (parts_of inside ys (length next))
    step ys =
        ap (joined state) (part_split inside (length now) (out-CompTree c) (parts_of inside ys))
        ∙ sym (joined_assoc state one (parts_of inside ys (length now + length one.nodes)))
        ∙ ap (λ (m : ℕ). joined (joined state one) (parts_of inside ys m)) (sym long)
        ∙ ap (λ (s : Parts). joined s (parts_of inside ys (length next))) (sym after)

listed : (inside : ℕ → TypeTree → List Node) (nodes : List Node) (cs : List CompTree) (i : ℕ) (now : List Node) (parts : List PartNode) (plain : Bool) → length cs ≤ i
    → Listing inside nodes cs i now parts plain
    → joined (record { nodes = now; parts = parts; is_plain = plain }) no_parts ≡ joined (record { nodes = nodes; parts = []; is_plain = true }) (parts_of inside cs (length nodes))
listed inside nodes cs i now parts plain le listing = left_all _ cs i _ le listing.left

pub listed_nodes : (inside : ℕ → TypeTree → List Node) (nodes : List Node) (cs : List CompTree) (i : ℕ) (now : List Node) (parts : List PartNode) (plain : Bool) → length cs ≤ i
    → Listing inside nodes cs i now parts plain → now ≡ nodes ++ (parts_of inside cs (length nodes)).nodes
listed_nodes inside nodes cs i now parts plain le listing = sym (append-nil now) ∙ ap (λ (p : Parts). p.nodes) (listed inside nodes cs i now parts plain le listing)

pub listed_parts : (inside : ℕ → TypeTree → List Node) (nodes : List Node) (cs : List CompTree) (i : ℕ) (now : List Node) (parts : List PartNode) (plain : Bool) → length cs ≤ i
    → Listing inside nodes cs i now parts plain → parts ≡ (parts_of inside cs (length nodes)).parts
listed_parts inside nodes cs i now parts plain le listing = sym (append-nil parts) ∙ ap (λ (p : Parts). p.parts) (listed inside nodes cs i now parts plain le listing)

pub listed_plain : (inside : ℕ → TypeTree → List Node) (nodes : List Node) (cs : List CompTree) (i : ℕ) (now : List Node) (parts : List PartNode) (plain : Bool) → length cs ≤ i
    → Listing inside nodes cs i now parts plain → plain ≡ (parts_of inside cs (length nodes)).is_plain
listed_plain inside nodes cs i now parts plain le listing = sym (and_true plain) ∙ ap (λ (p : Parts). p.is_plain) (listed inside nodes cs i now parts plain le listing)

pub ruleset listings = (listing_first, listing_more, listed_nodes, listed_parts, listed_plain)

-- ---- enumerators

pub record Gathered (items : List EnumTree) (i : ℕ) (now : List Enumerator) : Type 0 where
  pub left : Left (λ ys. now ++ enumerators_of ys) items i (enumerators_of items)

pub gathered_first : (items : List EnumTree) → Gathered items 0 []
gathered_first items = record { left = left_first enumerators_of items }

pub gathered_more : (items : List EnumTree) (i : ℕ) (t : EnumTree) (now next : List Enumerator) → i < length items → t ≡ get_or items i t → next ≡ now ++ enumerator_of t
    → Gathered items i now → Gathered items (i + 1) next
gathered_more items i t now next lt at is before = record {
  left = left_more (λ ys. now ++ enumerators_of ys) (λ ys. next ++ enumerators_of ys) items i t (enumerators_of items) lt at
      (λ ys. sym (append_assoc now (enumerator_of t) (enumerators_of ys)) ∙ ap (λ (es : List Enumerator). es ++ enumerators_of ys) (sym is)) before.left;
}

pub gathered_all : (items : List EnumTree) (i : ℕ) (now : List Enumerator) → length items ≤ i → Gathered items i now → now ≡ enumerators_of items
gathered_all items i now le gathered = sym (append-nil now) ∙ left_all (λ ys. now ++ enumerators_of ys) items i (enumerators_of items) le gathered.left

pub ruleset gathers = (gathered_first, gathered_more, gathered_all)
