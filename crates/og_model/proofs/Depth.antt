-- An expression is worth what one layer says of the worth of its parts, at any depth: the depth by which `eval` and `walk`
-- recurse changes nothing once it covers the tree.
use Rattle.std.proofs.Common.{◌≡◌, ℕ, zero, suc, ◌+◌, ◌≤◌, max, cond, List, [], ◌∷◌, Result, Ok, Err, refl, ap, ◌∙◌, le_refl, le_trans, arith}
use denote.Param.Weighed.{most}
use Rattle.og_types.specs.declared.Value.{Value}
use Rattle.og_model.specs.declared.FaultKind.{FaultKind}
use Rattle.og_model.specs.declared.Node.{Node, Node-F, out-Node, size-Node, size_is-Node}
use Rattle.og_model.specs.declared.Node.TheOpen.{Number, Truth, Item, Get, Length, Present, Unary, Binary, Sequence, SeqOf, Choice, Select-F, Part, Alternative, At}
use Rattle.og_model.specs.declared.Select.{Select, out-Select, size-Select, size_is-Select}
use Rattle.og_model.specs.declared.Expr.{Expr, size-Expr, size_is-Expr}
use Rattle.og_model.specs.declared.Target.{Target, size-Target, size_is-Target}
use Rattle.og_model.specs.declared.Node.TheBlock as Block
use denote.Hole.Carrier
use Rattle.og_model.specs.Expressions.{Frame, Store, Evaluates, on_value, apply, needs_right, hop_by, hop_from, walk_from, walk_by, walk, eval_each, eval_node, eval_within, eval, location_of, read}

-- ---- depths of parts

-- the depth of what a node has inside
abbrev inside_node : Node-F Node Select Expr Target → ℕ
inside_node (Number z) = 0
inside_node (Truth t) = 0
inside_node (Item k) = 0
inside_node (Get t) = size-Target t
inside_node (Length t) = size-Target t
inside_node (Present t) = size-Target t
inside_node (Unary op e) = size-Expr e
inside_node (Binary op l r) = max (size-Expr l) (size-Expr r)
inside_node (Sequence es) = most size-Expr es
inside_node (SeqOf es) = most size-Expr es
inside_node (Choice k e) = size-Expr e

weight_node : (x : Node-F Node Select Expr Target) → inside_node x ≤ (Block.weighs-Node).weight (Carrier.Values Block.the_members Block.the_sigs Block.the_carrier) Block.the_depth x
weight_node (Number z) = omega arith
weight_node (Truth t) = omega arith
weight_node (Item k) = omega arith
weight_node (Get t) = omega arith
weight_node (Length t) = omega arith
weight_node (Present t) = omega arith
weight_node (Unary op e) = omega arith
weight_node (Binary op l r) = omega arith
weight_node (Sequence es) = omega arith
weight_node (SeqOf es) = omega arith
weight_node (Choice k e) = omega arith

pub below_node : (n : Node) → inside_node (out-Node n) + 1 ≤ size-Node n
below_node n = let e = size_is-Node n in let h = weight_node (out-Node n) in omega (arith, e, h)

pub below_expr : (e : Expr) → size-Node e.node + 1 ≤ size-Expr e
below_expr e = let h = size_is-Expr e in omega (arith, h)

pub below_target : (t : Target) → most size-Select t.path + 1 ≤ size-Target t
below_target t = let h = size_is-Target t in omega (arith, h)

abbrev inside_select : Select-F Node Select Expr Target → ℕ
inside_select (Part k) = 0
inside_select (Alternative k) = 0
inside_select (At e) = size-Expr e

weight_select : (x : Select-F Node Select Expr Target) → inside_select x ≤ (Block.weighs-Select).weight (Carrier.Values Block.the_members Block.the_sigs Block.the_carrier) Block.the_depth x
weight_select (Part k) = omega arith
weight_select (Alternative k) = omega arith
weight_select (At e) = omega arith

pub below_select : (x : Select) → inside_select (out-Select x) + 1 ≤ size-Select x
below_select x = let e = size_is-Select x in let h = weight_select (out-Select x) in omega (arith, e, h)

-- ---- the same worth of the parts gives the same worth

on_value_go : {A B : Type 0} {go go' : A → Result B FaultKind} (r : Result A FaultKind) → ((a : A) → go a ≡ go' a) → on_value r go ≡ on_value r go'
on_value_go (Ok a) h = h a
on_value_go (Err kind) h = refl

on_value_same : {A B : Type 0} {go go' : A → Result B FaultKind} (r r' : Result A FaultKind) → r ≡ r' → ((a : A) → go a ≡ go' a) → on_value r go ≡ on_value r' go'
on_value_same {go = go} r r' e h = ap (λ (x : Result _ FaultKind). on_value x go) e ∙ on_value_go r' h

abbrev pub Agree : ℕ → Evaluates → Evaluates → Type 0
Agree k worth worth' = (e : Expr) → size-Expr e ≤ k → worth e ≡ worth' e

left_most : (a b k : ℕ) → max a b ≤ k → a ≤ k
left_most a b k p = omega (arith, p)

right_most : (a b k : ℕ) → max a b ≤ k → b ≤ k
right_most a b k p = omega (arith, p)

inside_of : (a b k : ℕ) → a + 1 ≤ b → b ≤ k → a ≤ k
inside_of a b k p q = omega (arith, p, q)

hop_same : (worth worth' : Evaluates) (k : ℕ) → Agree k worth worth' → (v : Value) (x : Select-F Node Select Expr Target) → inside_select x ≤ k
    → hop_by worth v x ≡ hop_by worth' v x
hop_same worth worth' k h v (Part i) p = refl
hop_same worth worth' k h v (Alternative i) p = refl
hop_same worth worth' k h v (At e) p = on_value_same (worth e) (worth' e) (h e p) (λ i. refl)

walk_from_same : (worth worth' : Evaluates) (k : ℕ) → Agree k worth worth' → (v : Value) (xs : List Select) → most size-Select xs ≤ k
    → walk_from worth v xs ≡ walk_from worth' v xs
walk_from_same worth worth' k h v [] p = refl
walk_from_same worth worth' k h v (x ∷ xs) p =
    on_value_same _ _
    (hop_same worth worth' k h v (out-Select x)
    (inside_of _ _ k (below_select x) (left_most (size-Select x) (most size-Select xs) k p)))
    (λ hop. on_value_same _ _
    (walk_from_same worth worth' k h (hop_from v hop) xs (right_most (size-Select x) (most size-Select xs) k p))
    (λ w. refl))

pub walk_by_same : (worth worth' : Evaluates) (k : ℕ) → Agree k worth worth' → (b : Frame) (s : Store) (t : Target) → size-Target t ≤ k
    → walk_by worth b s t ≡ walk_by worth' b s t
walk_by_same worth worth' k h b s t p =
    walk_from_same worth worth' k h (read s (location_of b t.variable)) t.path (inside_of _ _ k (below_target t) p)

eval_each_same : (worth worth' : Evaluates) (k : ℕ) → Agree k worth worth' → (es : List Expr) → most size-Expr es ≤ k
    → eval_each worth es ≡ eval_each worth' es
eval_each_same worth worth' k h [] p = refl
eval_each_same worth worth' k h (e ∷ es) p =
    on_value_same _ _ (h e (left_most (size-Expr e) (most size-Expr es) k p))
    (λ v. on_value_same _ _ (eval_each_same worth worth' k h es (right_most (size-Expr e) (most size-Expr es) k p)) (λ vs. refl))

pub eval_node_same : (worth worth' : Evaluates) (k : ℕ) → Agree k worth worth' → (b : Frame) (s : Store) (x : Node-F Node Select Expr Target)
    → inside_node x ≤ k → eval_node worth b s x ≡ eval_node worth' b s x
eval_node_same worth worth' k h b s (Number z) p = refl
eval_node_same worth worth' k h b s (Truth t) p = refl
eval_node_same worth worth' k h b s (Item i) p = refl
eval_node_same worth worth' k h b s (Get t) p = on_value_same _ _ (walk_by_same worth worth' k h b s t p) (λ w. refl)
eval_node_same worth worth' k h b s (Length t) p = on_value_same _ _ (walk_by_same worth worth' k h b s t p) (λ w. refl)
eval_node_same worth worth' k h b s (Present t) p = on_value_same _ _ (walk_by_same worth worth' k h b s t p) (λ w. refl)
eval_node_same worth worth' k h b s (Unary op e) p = on_value_same _ _ (h e p) (λ x. refl)
eval_node_same worth worth' k h b s (Binary op l r) p =
    on_value_same _ _ (h l (left_most (size-Expr l) (size-Expr r) k p))
    (λ x. ap (λ (y : Result Value FaultKind). cond (needs_right op x) (on_value y (λ z. apply op x z)) (Ok x))
    (h r (right_most (size-Expr l) (size-Expr r) k p)))
eval_node_same worth worth' k h b s (Sequence es) p = on_value_same _ _ (eval_each_same worth worth' k h es p) (λ vs. refl)
eval_node_same worth worth' k h b s (SeqOf es) p = on_value_same _ _ (eval_each_same worth worth' k h es p) (λ vs. refl)
eval_node_same worth worth' k h b s (Choice i e) p = on_value_same _ _ (h e p) (λ v. refl)

-- ---- any depth that covers the tree

no_depth : (e : Expr) → size-Expr e ≤ 0 → ⊥
no_depth e p = let h = below_expr e in omega (arith, p, h)

inside_expr : (e : Expr) (d : ℕ) → size-Expr e ≤ suc d → inside_node (out-Node e.node) ≤ d
inside_expr e d p = let h = below_expr e in let i = below_node e.node in omega (arith, p, h, i)

pub within_same : (d d' : ℕ) (b : Frame) (s : Store) (e : Expr) → size-Expr e ≤ d → size-Expr e ≤ d' → eval_within d b s e ≡ eval_within d' b s e
within_same zero d' b s e p q = absurd (no_depth e p)
within_same (suc d) zero b s e p q = absurd (no_depth e q)
within_same (suc d) (suc d') b s e p q =
    eval_node_same (eval_within d b s) (eval_within d' b s) (inside_node (out-Node e.node))
    (λ x r. within_same d d' b s x (le_trans r (inside_expr e d p)) (le_trans r (inside_expr e d' q)))
    b s (out-Node e.node) (le_refl _)

one_deeper : (n : ℕ) → n ≤ suc n
one_deeper n = omega arith

-- an expression by its parts
pub eval_is : (b : Frame) (s : Store) (e : Expr) → eval b s e ≡ eval_node (eval b s) b s (out-Node e.node)
unfolding eval
eval_is b s e =
    within_same (size-Expr e) (suc (size-Expr e)) b s e (le_refl _) (one_deeper (size-Expr e))
    ∙ eval_node_same (eval_within (size-Expr e) b s) (eval b s) (size-Expr e)
    (λ x r. within_same (size-Expr e) (size-Expr x) b s x r (le_refl _))
    b s (out-Node e.node) (inside_expr e (size-Expr e) (one_deeper (size-Expr e)))

-- a target by the worth of its indices
pub walk_is : (b : Frame) (s : Store) (t : Target) → walk b s t ≡ walk_by (eval b s) b s t
unfolding walk eval
walk_is b s t =
    walk_by_same (eval_within (size-Target t) b s) (eval b s) (size-Target t)
    (λ x r. within_same (size-Target t) (size-Expr x) b s x r (le_refl _)) b s t (le_refl _)
