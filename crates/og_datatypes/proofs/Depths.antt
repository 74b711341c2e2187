-- How deep types are, and the types with which they share their numbers.
use Rattle.std.proofs.Common.{◌≡◌, ℕ, zero, suc, ◌≤◌, Bool, true, false, ◌&&◌, ◌==◌, List, ◌∷◌, map, length, refl, ap, ◌∙◌, arith, eqb-true, if◌then◌else◌}
use Rattle.std.specs.List.{list_all}
use Rattle.og_flat.specs.declared.flat.Flat.{Flat}
use Rattle.og_dataview.specs.Following.{walk}
use Rattle.og_dataview.specs.View.{node_of_part, next_same, ended_at, same_as, is_made_of, is_within}
use Rattle.og_dataview.proofs.Tables.{Tabulated, tabulated_none, tabulated_more, none_behind, walk_same, walk_by}
use Rattle.og_dataview.specs.Ways.{step_in, Leads}
use Rattle.og_datatypes.specs.Kept.{is_marked, ended_in, AreMarked, AreSame}
use Rattle.og_datatypes.proofs.Lists.{kept_are}
use Rattle.og_names.proofs.Loops.{Left, left_first, left_more, left_stop, left_all}
use Rattle.og_flat.specs.declared.flat.PartNode.{PartNode}

either_same : {X : Type 0} (b : Bool) (x : X) → (if b then x else x) ≡ x
either_same true x = refl
either_same false x = refl

stays_at : (flat : Flat) (p n : ℕ) → next_same flat p ≡ p → walk (next_same flat) n p ≡ p
stays_at flat p zero e = refl
stays_at flat p (suc n) e = ap (walk (next_same flat) n) e ∙ stays_at flat p n e

-- a type that leads nowhere else has its own number
pub own_if : (flat : Flat) (p : ℕ) → next_same flat p ≡ p → same_as flat p ≡ p
own_if flat p e = ap (ended_at flat p) (stays_at flat p (suc (length flat.types)) e) ∙ either_same (next_same flat p == p) p

pub same_out : (flat : Flat) (p : ℕ) → length flat.nodes ≤ p → same_as flat p ≡ p
same_out flat p le = own_if flat p (rw (none_behind flat.nodes p le) refl)

abbrev way_end : Flat → ℕ → ℕ
way_end flat p = walk (next_same flat) (suc (length flat.types)) p

-- the type with which a type shares its number has that number itself
pub same_same : (flat : Flat) (p : ℕ) → same_as flat (same_as flat p) ≡ same_as flat p
same_same flat p = by (next_same flat (way_end flat p) == way_end flat p) refl
  where
    by : (b : Bool) → (next_same flat (way_end flat p) == way_end flat p) ≡ b → same_as flat (if b then way_end flat p else p) ≡ (if b then way_end flat p else p)
    by true h = own_if flat (way_end flat p) (eqb-true (next_same flat (way_end flat p)) (way_end flat p) h)
    by false h = ap (λ b. if b then way_end flat p else p) h

pub made_same : (flat : Flat) (inside inside' : ℕ → Bool) → ((q : ℕ) → inside q ≡ inside' q) → (p : ℕ) → is_made_of flat inside p ≡ is_made_of flat inside' p
made_same flat inside inside' h p = λ i. is_made_of flat (λ q. h q i) p

no_form : (flat : Flat) (inside : ℕ → Bool) (p : ℕ) → length flat.nodes ≤ p → is_made_of flat inside p ≡ false
no_form flat inside p le = rw (none_behind flat.nodes p le) refl

pub one_more : (flat : Flat) (within next : List Bool) (n : ℕ) → Tabulated (λ p. is_made_of flat (is_marked within) (same_as flat p)) next n → n ≡ length flat.nodes
    → (depth : ℕ) → AreMarked (is_within flat depth) within → AreMarked (is_within flat (suc depth)) next
one_more flat within next n tabulated long depth marked = record {
  each = λ p. kept_are (λ q. is_made_of flat (is_marked within) (same_as flat q)) next false n tabulated
      (λ q le. ap (is_made_of flat (is_marked within)) (same_out flat q (omega (arith, le, long))) ∙ no_form flat (is_marked within) q (omega (arith, le, long))) p
      ∙ made_same flat (is_marked within) (is_within flat depth) marked.each (same_as flat p);
}

pub ruleset depths = (tabulated_none, tabulated_more, one_more)

-- where ways have come to
pub sames_are : (flat : Flat) (nexts ends sames : List ℕ) (n : ℕ) → n ≡ suc (length flat.types) → ((p : ℕ) → step_in nexts p ≡ next_same flat p) → Leads (step_in nexts) n ends
    → ((p : ℕ) → step_in sames p ≡ ended_in nexts ends p) → AreSame flat sames
sames_are flat nexts ends sames n long next leads is = record {
  each = λ p.
      let e : step_in ends p ≡ way_end flat p = leads.each p ∙ walk_same (step_in nexts) (next_same flat) next n p ∙ walk_by (next_same flat) n (suc (length flat.types)) p long in
      is p ∙ ap (λ x. if step_in nexts x == x then x else p) e ∙ ap (λ x. if x == way_end flat p then way_end flat p else p) (next (way_end flat p));
}

-- ---- a loop over parts

abbrev pub all_marked : List Bool → List PartNode → Bool
all_marked marks parts = list_all (is_marked marks) (map node_of_part parts)

pub part_marked : (marks : List Bool) (p : PartNode) (ps : List PartNode) → is_marked marks p.node ≡ true → all_marked marks (p ∷ ps) ≡ all_marked marks ps
part_marked marks p ps h = ap (λ b. b && all_marked marks ps) h

pub part_unmarked : (marks : List Bool) (p : PartNode) (ps : List PartNode) → is_marked marks p.node ≡ false → all_marked marks (p ∷ ps) ≡ false
part_unmarked marks p ps h = ap (λ b. b && all_marked marks ps) h

pub ruleset loops = (left_first, left_more, left_stop, left_all, part_marked, part_unmarked)
