-- What expressions and loops write, part by part.
use Rattle.std.proofs.Common.{◌≡◌, ℕ, zero, suc, ◌+◌, ◌-◌, ◌<◌, Bool, true, false, cond, List, [], ◌∷◌, ◌++◌, length, get_or, take, map, refl, sym, ◌∙◌, ap, arith, append_assoc, append-nil, Option, Some, None}
use Rattle.std.specs.Prelude.{flat_map, bytes_eq}
use Rattle.std.proofs.Math.Path.{fun_ext}
use Rattle.std.proofs.lemmas.Grind.{flat_map-append}
use Rattle.std.proofs.lemmas.List.{map_more, get_or-map, length-map, length_push, take_at}
use Rattle.gcx_model.specs.declared.query.Clause.{Clause}
use Rattle.gcx_model.specs.Tree.{Node, Tree}
use Rattle.gcx_model.specs.declared.query.Expr.{Expr}
use Rattle.gcx_model.specs.Query.{QueryCondTree, ExprTree, exprs_of, expr_tree}
use Rattle.gcx_model.specs.Written.{start_tag, end_tag}
use Rattle.gcx_model.specs.Answer.{Scope, bind, found, turns, answer_expr, answer_exprs}
use Rattle.tree_eval.specs.declared.scope.Binding.{Binding}
use Rattle.doc_tree.specs.Rows.{node_at}
use Rattle.tree_eval.specs.Scopes.{bound_in, bound_node, scope_of}
use Rattle.tree_eval.specs.Turns.{turn_bytes, turns_bytes}
use Rattle.tree_eval.proofs.Weight.{weight, weights}

-- a binding more
bound_in-push : (o : Option ℕ) (y : List ℕ) (bs : List Binding) (b : Binding) → bound_in o y (bs ++ b ∷ []) ≡ cond (bytes_eq b.name.now y) (Some b.node) (bound_in o y bs)
bound_in-push o y [] b = refl
bound_in-push o y (c ∷ bs) b = bound_in-push (cond (bytes_eq c.name.now y) (Some c.node) o) y bs b

pub scope_of-push : (P : Tree) (bs : List Binding) (b : Binding) → scope_of P (bs ++ b ∷ []) ≡ bind (scope_of P bs) b.name.now (node_at P.nodes b.node)
scope_of-push P bs b = fun_ext (λ y. ap (bound_node P.nodes) (bound_in-push None y bs b) ∙ same (bytes_eq b.name.now y) (bound_in None y bs))
  where
    same : (t : Bool) (o : Option ℕ) → bound_node P.nodes (cond t (Some b.node) o) ≡ cond t (node_at P.nodes b.node) (bound_node P.nodes o)
    same true o = refl
    same false o = refl

flat_map-flat_map : {X : Type 0} (g : X → List ℕ) (h : Node → List X) (xs : List Node) → flat_map g (flat_map h xs) ≡ flat_map (λ n. flat_map g (h n)) xs
flat_map-flat_map g h [] = refl
flat_map-flat_map g h (x ∷ xs) = flat_map-append g (h x) (flat_map h xs) ∙ ap (λ l. flat_map g (h x) ++ l) (flat_map-flat_map g h xs)

-- the turns of a clause
pub turns_more : (c : Clause) (cs : List Clause) (filter : Option QueryCondTree) (body : ExprTree) (scope : Scope) (P : Tree)
    → turns_bytes (c ∷ cs) filter body scope P ≡ flat_map (λ n. turns_bytes cs filter body (bind scope c.var n) P) (found c.path scope P)
turns_more c cs filter body scope P = flat_map-flat_map (turn_bytes filter body P) (λ n. turns cs (bind scope c.var n) P) (found c.path scope P)

-- one part more
pub answer_exprs-push : (es : List ExprTree) (e : ExprTree) (scope : Scope) (P : Tree) → answer_exprs (exprs_of (es ++ e ∷ [])) scope P ≡ answer_exprs (exprs_of es) scope P ++ answer_expr e scope P
answer_exprs-push [] e scope P = append-nil _
answer_exprs-push (x ∷ es) e scope P = ap (λ l. answer_expr x scope P ++ l) (answer_exprs-push es e scope P) ∙ sym (append_assoc (answer_expr x scope P) _ _)

-- a part weighs less
pub part_weighs : (es : List ExprTree) (k : ℕ) (d : ExprTree) → k < length es → weight (get_or es k d) < weights (exprs_of es)
part_weighs [] k d h = absurd (omega arith)
part_weighs (e ∷ es) zero d h = omega arith
part_weighs (e ∷ es) (suc k) d h = let i = part_weighs es k d (omega arith) in omega arith

pub elem_written : (name inner before a b out : List ℕ) → a ≡ before ++ start_tag name → b ≡ a ++ inner → out ≡ b ++ end_tag name → out ≡ before ++ (start_tag name ++ (inner ++ end_tag name))
elem_written name inner before a b out p q r =
    r ∙ (ap (λ x. x ++ end_tag name) (q ∙ ap (λ x. x ++ inner) p) ∙ (append_assoc (before ++ start_tag name) inner (end_tag name) ∙ append_assoc before (start_tag name) (inner ++ end_tag name)))

-- the parts of an expression's list

pub expr_weighs : (xs : List Expr) (k : ℕ) (x : Expr) → k < length xs → x ≡ get_or xs k x → weight (expr_tree x) < weights (exprs_of (map expr_tree xs))
expr_weighs xs k x h e =
    let p = part_weighs (map expr_tree xs) k (expr_tree x) (omega (arith, length-map xs expr_tree)) in
    let q = ap weight (get_or-map expr_tree xs k x (expr_tree x) h ∙ ap expr_tree (sym e)) in
    omega arith

pub expr_written : (xs : List Expr) (k : ℕ) (x : Expr) (before out more : List ℕ) (s u : Scope) (P : Tree) → k < length xs → x ≡ get_or xs k x → u ≡ s
    → out ≡ before ++ answer_exprs (exprs_of (map expr_tree (take k xs))) s P → more ≡ out ++ answer_expr (expr_tree x) u P
    → more ≡ before ++ answer_exprs (exprs_of (map expr_tree (take (k + 1) xs))) s P
expr_written xs k x before out more s u P h e v p q =
    q ∙ (ap (λ z. out ++ answer_expr (expr_tree x) z P) v ∙ (ap (λ l. l ++ answer_expr (expr_tree x) s P) p
    ∙ (append_assoc before _ _
    ∙ ap (λ l. before ++ l) (sym (ap (λ es. answer_exprs (exprs_of es) s P) (map_more expr_tree xs k x h ∙ ap (λ y. map expr_tree (take k xs) ++ expr_tree y ∷ []) (sym e)) ∙ answer_exprs-push (map expr_tree (take k xs)) (expr_tree x) s P)))))

-- one turn more
pub turn_written : (F : Node → List ℕ) (ns : List Node) (is : List ℕ) (k : ℕ) (before out more turn : List ℕ) → k < length is
    → out ≡ before ++ flat_map F (map (node_at ns) (take k is)) → more ≡ out ++ turn → turn ≡ F (node_at ns (get_or is k 0)) → more ≡ before ++ flat_map F (map (node_at ns) (take (k + 1) is))
turn_written F ns is k before out more turn h p q r =
    q ∙ (ap (λ l. l ++ turn) p ∙ (append_assoc before _ turn
    ∙ ap (λ l. before ++ l) (ap (λ t. flat_map F (map (node_at ns) (take k is)) ++ t) (r ∙ sym (append-nil _))
    ∙ sym (ap (flat_map F) (map_more (node_at ns) is k 0 h) ∙ flat_map-append F (map (node_at ns) (take k is)) (node_at ns (get_or is k 0) ∷ [])))))

-- a binding that came is gone again
pub popped : (bs pushed rest : List Binding) (b : Binding) (n : ℕ) → rest ≡ take (n - 1) pushed → pushed ≡ bs ++ b ∷ [] → n ≡ length pushed → rest ≡ bs
popped bs pushed rest b n e f g =
    let l : length bs ≡ n - 1 = omega (arith, ap length f ∙ length_push bs b) in
    e ∙ (ap (take (n - 1)) f ∙ take_at bs (b ∷ []) (n - 1) l)

-- the scope of a turn
pub turn_scope : (P : Tree) (bs ds pushed : List Binding) (b : Binding) → pushed ≡ bs ++ b ∷ [] → bs ≡ ds → scope_of P pushed ≡ bind (scope_of P ds) b.name.now (node_at P.nodes b.node)
turn_scope P bs ds pushed b e f = ap (scope_of P) e ∙ (scope_of-push P bs b ∙ ap (λ cs. bind (scope_of P cs) b.name.now (node_at P.nodes b.node)) f)
