-- From what is read of the rows to the truth of a condition.
use Rattle.std.proofs.Common.{◌≡◌, ℕ, Bool, true, false, ◌&&◌, ◌||◌, List, [], ◌∷◌, refl, sym, ◌∙◌, ap, subst, inl, inr, Some}
use Rattle.std.specs.FinMap.{get}
use Rattle.gcx_base.specs.declared.steps.Step.{Step}
use Rattle.gcx_base.specs.declared.rel.Rel.{Rel}
use Rattle.gcx_base.specs.declared.ids.VarId.{VarId}
use Rattle.gcx_model.specs.Tree.{serial_of, Tree, is_closed}
use Rattle.gcx_model.specs.Paths.{any, matches}
use Rattle.gcx_model.specs.Members.{In}
use Rattle.gcx_model.specs.Core.{OperandTree, Path, CondTree, Exists, Compare, RoleRowTree, First, Whole}
use Rattle.gcx_model.specs.CondView.{operand_tree}
use Rattle.gcx_model.specs.Values.{ComparedValue, compare}
use Rattle.gcx_model.specs.Answer.{some_pair}
use Rattle.gcx_model.specs.Truth.{Env, settled_values, is_over, settle}
use Rattle.gcx_model.specs.Roles.{operand_rows, cond_rows}
use Rattle.gcx_model.specs.declared.cond.Operand.{Operand}
use Rattle.gcx_model.specs.declared.cond.Operand.TheVariants as operand
use Rattle.tree_laws.proofs.Lists.{In-filter, In-right}
use Rattle.buf_tree.specs.Shape.{Cell}
use Rattle.cond_eval.specs.Bindings.{Bindings}
use Rattle.cond_eval.specs.Asking.{Asked}
use Rattle.cond_eval.specs.Literals.{literal_value, IsLiteral}
use Rattle.cond_eval.specs.Reads.{NodeAt}
use Rattle.cond_eval.specs.Comparing.{comparison, IsAsked, Tells, IsNodeRow, KeepsFirst, KeepsMatches, closed_values, TellsExists, TellsPaths, TellsLiteral}
use Rattle.gcx_model.specs.declared.truth.Truth.{Truth}
use Rattle.base_laws.proofs.Members.{head_in}
use Rattle.cond_eval.proofs.Rows.{kept_at}

-- ---- the rows of a condition's variables

-- the variable is bound to a pair, whose place is q
abbrev pub IsPlace : Bindings → (x q : ℕ) → Type 0
IsPlace bound x q = (p s : ℕ) → get bound x ≡ Some (p, s) → q ≡ p

module _ (rows : List Cell) (bound : Bindings) (c : CondTree) (r : RoleRowTree) (i : In r (cond_rows c)) where
  pub has_pair : IsAsked rows bound c → (s : ℕ) × (p : ℕ) × (get bound r.var ≡ Some (p, s))
  has_pair a = let b = a.asked.bound_to r i in (serial_of (a.env r.var), b.place, b.pair)

  pub node_row : (P : Tree) (env : Env) (a : Asked rows bound c P env) (q : ℕ) → IsPlace bound r.var q → NodeAt rows P a.keep q (env r.var)
  node_row P env a q is =
      let b = a.bound_to r i in
      let t = a.there r i in
      subst (λ (z : ℕ). NodeAt rows P a.keep z (env r.var)) (sym (is b.place (serial_of (env r.var)) b.pair)) (kept_at rows P a.keep a.rows_of (env r.var) b.place t.0 t.1 b.at)

  pub is_node_row : IsAsked rows bound c → (q : ℕ) → IsPlace bound r.var q → IsNodeRow rows q
  is_node_row a q is = record { tree = a.tree; keep = a.asked.keep; node = a.env r.var; at = node_row a.tree a.env a.asked q is }

-- the row of roles of an exists, and of a compared path
abbrev pub tail_of : ℕ → List Step → RoleRowTree
tail_of x steps = record { var = x; tail = steps; kind = First }

abbrev pub side_of : ℕ → List Step → RoleRowTree
side_of x steps = record { var = x; tail = steps; kind = Whole }

pub in_left : (x : ℕ) (steps : List Step) (rel : Rel) (o : OperandTree) → In (side_of x steps) (cond_rows (Compare (Path x steps) rel o))
in_left x steps rel o = inl refl

pub in_right : (x : ℕ) (steps : List Step) (rel : Rel) (o : OperandTree) → In (side_of x steps) (cond_rows (Compare o rel (Path x steps)))
in_right x steps rel o = In-right (side_of x steps) (operand_rows o) (side_of x steps ∷ []) (inl refl)

-- ---- what a condition keeps

module _ (rows : List Cell) (bound : Bindings) (P : Tree) (env : Env) where
  pub keeps_first : (x : ℕ) (steps : List Step) (a : Asked rows bound (Exists x steps) P env) → KeepsFirst P a.keep (env x) steps
  keeps_first x steps a m e = a.needed m (In-filter _ m P.nodes (head_in (matches P (serial_of (env x)) steps) m e)).0 e

  pub keeps_left : (x : ℕ) (steps : List Step) (rel : Rel) (o : OperandTree) (a : Asked rows bound (Compare (Path x steps) rel o) P env) → KeepsMatches P a.keep (env x) steps
  keeps_left x steps rel o a j i m k w = a.needed m k (inl (j, i, w))

  pub keeps_right : (x : ℕ) (steps : List Step) (rel : Rel) (o : OperandTree) (a : Asked rows bound (Compare o rel (Path x steps)) P env) → KeepsMatches P a.keep (env x) steps
  keeps_right x steps rel o a j i m k w = a.needed m k (inr (j, i, w))

-- ---- the truth

pub literal_values : (P : Tree) (env : Env) (o : Operand) → IsLiteral o → settled_values P env (operand_tree o) ≡ literal_value o ∷ []
literal_values P env (operand.Path x steps) h = absurd h
literal_values P env (operand.Str b) h = refl
literal_values P env (operand.Num l) h = refl

pub literal_over : (P : Tree) (env : Env) (o : Operand) → IsLiteral o → is_over P env (operand_tree o) ≡ true
literal_over P env (operand.Path x steps) h = absurd h
literal_over P env (operand.Str b) h = refl
literal_over P env (operand.Num l) h = refl

and_true : (b c : Bool) → c ≡ true → b ≡ b && c
and_true true c e = sym e
and_true false c e = refl

-- a literal on the left is one on the right, for the flipped relation
pub any_flipped : (rel flipped : Rel) → ((v w : ComparedValue) → compare flipped w v ≡ compare rel v w) → (v : ComparedValue) (ws : List ComparedValue) → some_pair (compare flipped) ws (v ∷ []) ≡ any (compare rel v) ws
any_flipped rel flipped turned v [] = refl
any_flipped rel flipped turned v (w ∷ ws) = or_both (compare flipped w v) (compare rel v w) (some_pair (compare flipped) ws (v ∷ [])) (any (compare rel v) ws) (turned v w) (any_flipped rel flipped turned v ws)
  where
    or_both : (b c x y : Bool) → b ≡ c → x ≡ y → ((b || false) || x) ≡ (c || y)
    or_both true c x y e f = ap (λ z. z || y) e
    or_both false c x y e f = f ∙ ap (λ z. z || y) e

or_none : (b : Bool) → b ≡ b || false
or_none true = refl
or_none false = refl

module _ (rows : List Cell) (bound : Bindings) (t : Truth) where
  pub exists_told : (x : ℕ) (steps : List Step) (p : ℕ) → IsPlace bound x p → TellsExists rows p steps t → Tells rows bound (Exists x steps) t
  exists_told x steps p is tells P env a = tells P a.keep (env x) (node_row rows bound (Exists x steps) (tail_of x steps) (inl refl) P env a p is) (keeps_first rows bound P env x steps a)

  pub paths_told : (x y : ℕ) (left right : List Step) (rel : Rel) (p q : ℕ) → IsPlace bound x p → IsPlace bound y q → TellsPaths rows p left rel q right t → Tells rows bound (Compare (Path x left) rel (Path y right)) t
  paths_told x y left right rel p q is js tells P env a =
      tells P a.keep (env x) (env y)
      (node_row rows bound (Compare (Path x left) rel (Path y right)) (side_of x left) (in_left x left rel (Path y right)) P env a p is)
      (node_row rows bound (Compare (Path x left) rel (Path y right)) (side_of y right) (in_right y right rel (Path x left)) P env a q js)
      (keeps_left rows bound P env x left rel (Path y right) a) (keeps_right rows bound P env y right rel (Path x left) a)

  pub literal_told : (x : ℕ) (steps : List Step) (rel : Rel) (o : Operand) (p : ℕ) → IsLiteral o → IsPlace bound x p → TellsLiteral rows p steps rel (literal_value o) t → Tells rows bound (Compare (Path x steps) rel (operand_tree o)) t
  literal_told x steps rel o p lit is tells P env a =
      tells P a.keep (env x) (node_row rows bound (Compare (Path x steps) rel (operand_tree o)) (side_of x steps) (in_left x steps rel (operand_tree o)) P env a p is) (keeps_left rows bound P env x steps rel (operand_tree o) a)
      ∙ (ap (λ vs. settle (some_pair (compare rel) (closed_values P (env x) steps) vs) (is_closed P (env x))) (sym (literal_values P env o lit))
      ∙ ap (settle (some_pair (compare rel) (closed_values P (env x) steps) (settled_values P env (operand_tree o)))) (and_true (is_closed P (env x)) (is_over P env (operand_tree o)) (literal_over P env o lit)))

  pub flipped_told : (x : ℕ) (steps : List Step) (rel flipped : Rel) (o : Operand) (p : ℕ) → IsLiteral o → IsPlace bound x p → ((v w : ComparedValue) → compare flipped w v ≡ compare rel v w) → TellsLiteral rows p steps flipped (literal_value o) t → Tells rows bound (Compare (operand_tree o) rel (Path x steps)) t
  flipped_told x steps rel flipped o p lit is turned tells P env a =
      let vs = closed_values P (env x) steps in
      let over = is_closed P (env x) in
      tells P a.keep (env x) (node_row rows bound (Compare (operand_tree o) rel (Path x steps)) (side_of x steps) (in_right x steps rel (operand_tree o)) P env a p is) (keeps_right rows bound P env x steps rel (operand_tree o) a)
      ∙ (ap (λ b. settle b over) (any_flipped rel flipped turned (literal_value o) vs ∙ or_none (any (compare rel (literal_value o)) vs))
      ∙ (ap (λ ws. settle (some_pair (compare rel) ws vs) over) (sym (literal_values P env o lit))
      ∙ ap (λ b. settle (some_pair (compare rel) (settled_values P env (operand_tree o)) vs) (b && over)) (sym (literal_over P env o lit))))

-- ---- the same of operands in the code

pub is_literal : (o : Operand) → ((x : VarId) (steps : List Step) → o ≡ operand.Path x steps → ⊥) → IsLiteral o
is_literal (operand.Path x steps) h = absurd (h x steps refl)
is_literal (operand.Str b) h = tt
is_literal (operand.Num l) h = tt

module _ (rows : List Cell) (bound : Bindings) (o u : Operand) (rel : Rel) (a : IsAsked rows bound (comparison o rel u)) (x : VarId) (steps : List Step) where
  module _ (e : o ≡ operand.Path x steps) where
    asked_left : IsAsked rows bound (Compare (Path x.0 steps) rel (operand_tree u))
    asked_left = subst (λ (z : Operand). IsAsked rows bound (comparison z rel u)) e a

    pub left_pair : (s : ℕ) × (p : ℕ) × (get bound x.0 ≡ Some (p, s))
    left_pair = has_pair rows bound (Compare (Path x.0 steps) rel (operand_tree u)) (side_of x.0 steps) (in_left x.0 steps rel (operand_tree u)) asked_left

    pub left_row : (q : ℕ) → IsPlace bound x.0 q → IsNodeRow rows q
    left_row q is = is_node_row rows bound (Compare (Path x.0 steps) rel (operand_tree u)) (side_of x.0 steps) (in_left x.0 steps rel (operand_tree u)) asked_left q is

  module _ (e : u ≡ operand.Path x steps) where
    asked_right : IsAsked rows bound (Compare (operand_tree o) rel (Path x.0 steps))
    asked_right = subst (λ (z : Operand). IsAsked rows bound (comparison o rel z)) e a

    pub right_pair : (s : ℕ) × (p : ℕ) × (get bound x.0 ≡ Some (p, s))
    right_pair = has_pair rows bound (Compare (operand_tree o) rel (Path x.0 steps)) (side_of x.0 steps) (in_right x.0 steps rel (operand_tree o)) asked_right

    pub right_row : (q : ℕ) → IsPlace bound x.0 q → IsNodeRow rows q
    right_row q is = is_node_row rows bound (Compare (operand_tree o) rel (Path x.0 steps)) (side_of x.0 steps) (in_right x.0 steps rel (operand_tree o)) asked_right q is

module _ (rows : List Cell) (bound : Bindings) (o u : Operand) (rel : Rel) (t : Truth) where
  pub paths_for : (x y : VarId) (left right : List Step) → o ≡ operand.Path x left → u ≡ operand.Path y right → (p q : ℕ) → IsPlace bound x.0 p → IsPlace bound y.0 q → TellsPaths rows p left rel q right t → Tells rows bound (comparison o rel u) t
  paths_for x y left right e f p q is js tells =
      subst (λ (z : Operand). Tells rows bound (comparison z rel u) t) (sym e)
      (subst (λ (z : Operand). Tells rows bound (Compare (Path x.0 left) rel (operand_tree z)) t) (sym f) (paths_told rows bound t x.0 y.0 left right rel p q is js tells))

  pub literal_for : (x : VarId) (steps : List Step) → o ≡ operand.Path x steps → IsLiteral u → (p : ℕ) → IsPlace bound x.0 p → TellsLiteral rows p steps rel (literal_value u) t → Tells rows bound (comparison o rel u) t
  literal_for x steps e lit p is tells = subst (λ (z : Operand). Tells rows bound (comparison z rel u) t) (sym e) (literal_told rows bound t x.0 steps rel u p lit is tells)

  pub flipped_for : (x : VarId) (steps : List Step) → u ≡ operand.Path x steps → IsLiteral o → (p : ℕ) → IsPlace bound x.0 p → (flipped : Rel) → ((v w : ComparedValue) → compare flipped w v ≡ compare rel v w) → TellsLiteral rows p steps flipped (literal_value o) t → Tells rows bound (comparison o rel u) t
  flipped_for x steps e lit p is flipped turned tells = subst (λ (z : Operand). Tells rows bound (comparison o rel z) t) (sym e) (flipped_told rows bound t x.0 steps rel flipped o p lit is turned tells)
