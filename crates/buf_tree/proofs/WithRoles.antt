-- A new node with a set of roles in the rows that a buffer stands for.
use Rattle.std.proofs.Common.{◌≡◌, ℕ, ◌+◌, true, not, List, [], ◌∷◌, ◌++◌, length, drop, refl, sym, ◌∙◌, ap, subst, inl, inr, Some, Option}
use Rattle.std.specs.Ordering.{nat_cmp}
use Rattle.std.specs.FinSet.{FinSet, from_list}
use Rattle.std.proofs.Math.Seq.{drop-append_seam}
use Rattle.gcx_base.specs.declared.ids.Role.{Role}
use Rattle.gcx_base.specs.declared.kind.Kind.{Kind}
use Rattle.gcx_base.specs.declared.kind.Kind.TheVariants.{Document, Element, Text}
use Rattle.gcx_model.specs.Tree.{Tree, TreeToken, Node, Under, Start, Chars, grow}
use Rattle.gcx_model.specs.Growth.{may_come}
use Rattle.gcx_model.specs.Held.{roles_given, roles_taken}
use Rattle.gcx_model.specs.Past.{Past, past_grown, token_for, IsNode}
use Rattle.base_laws.proofs.Lists.{cons_head}
use Rattle.tree_laws.proofs.Matches.{added_at, grow_nodes}
use Rattle.buf_tree.specs.Rows.{is_bare, below_row}
use Rattle.buf_tree.specs.Shape.{at_place}
use Rattle.buf_tree.specs.View.{View, Innermost, capped, num_in, level_in}
use Rattle.buf_tree.specs.Calls.{Opened, numbers, less, new_roles, with_new}
use Rattle.buf_tree.specs.PassedCalls.{OpenedWith, LeftTo, MayOpenWith, StandsWith}
use Rattle.buf_tree.specs.Stands.{StandsFor, KeepsAs, GivenTo, MayOpen}
use Rattle.buf_tree.proofs.Feeding.{top_is}
use Rattle.buf_tree.proofs.Opening.{stands_opened}

abbrev roles_of : List ℕ → List Role
roles_of [] = []
roles_of (k ∷ ks) = record { 0 = k } ∷ roles_of ks

numbers_of : (ks : List ℕ) → numbers (roles_of ks) ≡ ks
numbers_of [] = refl
numbers_of (k ∷ ks) = ap (λ z. k ∷ z) (numbers_of ks)

-- the token opens one node, below the innermost open one
pub new_alone : (P : Tree) (a : Node) → P.at ≡ Some a → (kind : Kind) → IsNode kind → drop (length P.nodes) (grow (token_for kind) P).nodes ≡ Under a (length P.nodes) kind ∷ []
new_alone P a at Document k = absurd k
new_alone P a at (Element v) k =
    ap (drop (length P.nodes)) (grow_nodes (Start v) P ∙ ap (λ o. P.nodes ++ added_at o (Start v) P) at)
    ∙ drop-append_seam P.nodes (Under a (length P.nodes) (Element v) ∷ [])
new_alone P a at (Text v) k =
    ap (drop (length P.nodes)) (grow_nodes (Chars v) P ∙ ap (λ o. P.nodes ++ added_at o (Chars v) P) at)
    ∙ drop-append_seam P.nodes (Under a (length P.nodes) (Text v) ∷ [])

-- the same, with the roles as lists
pub opened_from : (v w : View) (q : ℕ) (at : Option ℕ) (kind : Kind) (roles : FinSet nat_cmp) (n : ℕ) (given ahead : List Role) → OpenedWith v w q at kind roles n → roles ≡ new_roles given ahead → n ≡ length ahead → Opened v w q at kind given ahead
opened_from v w q at kind roles n given ahead c e f = record {
  rows = c.rows ∙ ap (λ (s : FinSet nat_cmp). with_new at (below_row (num_in (at_place q v.rows)) (level_in (at_place q v.rows)) v.nodes kind s) v.rows) e;
  gone = c.gone;
  held = c.held ∙ ap (λ (s : FinSet nat_cmp). not (is_bare kind s)) e;
  free = c.free;
  waiting = c.waiting;
  nodes = c.nodes;
  taken = c.taken ∙ ap (λ k. capped (v.taken + k)) f;
  most = c.most;
  spread = c.spread;
}

pub left_given : (past : Past) (t : TreeToken) (given ahead : List Role) → GivenTo past t given ahead → LeftTo past t (new_roles given ahead)
left_given past t given ahead g n e = λ z. from_list {R = nat_cmp} (less ((g n e).0 z) ((g n e).1 z))

pub may_open_with : (v : View) (t : TreeToken) (given ahead : List Role) (roles : FinSet nat_cmp) → roles ≡ new_roles given ahead → MayOpen v t given ahead → MayOpenWith v t roles
may_open_with v t given ahead roles e (inl n) = inl n
may_open_with v t given ahead roles e (inr x) = inr (x.0, x.1, x.2, subst (λ (s : FinSet nat_cmp). LeftTo x.0 t s) (sym e) (left_given x.0 t given ahead x.3))

module _ (v u : View) (q : ℕ) (at : Option ℕ) (kind : Kind) (roles : FinSet nat_cmp) (i : Innermost v.rows q) (here : at_place q v.rows ≡ Some i.cell) (k : IsNode kind) (n : ℕ) (c : OpenedWith v u q at kind roles n) where
  module _ (past : Past) (h : StandsFor v past) (m : may_come (token_for kind) past.tree ≡ true) (left : LeftTo past (token_for kind) roles) where
    abbrev t : TreeToken
    t = token_for kind

    top : (a : Node) × (past.tree.at ≡ Some a)
    top = let r = top_is v past q h i in (r.0, r.1)

    abbrev node : Node
    node = Under top.0 (length past.tree.nodes) kind

    alone : drop (length past.tree.nodes) (grow t past.tree).nodes ≡ node ∷ []
    alone = new_alone past.tree top.0 top.1 kind k

    abbrev given : List Role
    given = roles_of (roles_given past.plan (grow t past.tree) node)

    abbrev ahead : List Role
    ahead = roles_of (roles_taken past.plan (grow t past.tree) past.acts node)

    given_is : numbers given ≡ roles_given past.plan (grow t past.tree) node
    given_is = numbers_of (roles_given past.plan (grow t past.tree) node)

    ahead_is : numbers ahead ≡ roles_taken past.plan (grow t past.tree) past.acts node
    ahead_is = numbers_of (roles_taken past.plan (grow t past.tree) past.acts node)

    same : roles ≡ new_roles given ahead
    same = left node alone ∙ (λ z. from_list {R = nat_cmp} (less (sym given_is z) (sym ahead_is z)))

    gives : GivenTo past t given ahead
    gives j e =
        let is : node ≡ j = cons_head node j [] [] (sym alone ∙ e) in
        subst (λ (x : Node). (numbers given ≡ roles_given past.plan (grow t past.tree) x) × (numbers ahead ≡ roles_taken past.plan (grow t past.tree) past.acts x)) is (given_is, ahead_is)

    -- the same, where the roles taken in advance are counted
    opened : Opened v (record u { taken = capped (v.taken + length ahead) }) q at kind given ahead
    opened = opened_from v (record u { taken = capped (v.taken + length ahead) }) q at kind roles (length ahead) given ahead (record { rows = c.rows; gone = c.gone; held = c.held; free = c.free; waiting = c.waiting; nodes = c.nodes; taken = refl; most = c.most; spread = c.spread }) same refl

    stands : KeepsAs u (past_grown t past) → StandsFor u (past_grown t past)
    stands keep =
        let s = stands_opened v (record u { taken = capped (v.taken + length ahead) }) q at kind given ahead i here k opened past h m gives keep in
        record { is_past = s.is_past; spread = s.spread; rows = s.rows; kept = s.kept; waiting = s.waiting; nodes = s.nodes }

  pub stands_with : ((past : Past) → StandsFor v past → may_come (token_for kind) past.tree ≡ true → LeftTo past (token_for kind) roles → KeepsAs u (past_grown (token_for kind) past)) → StandsWith v u kind roles
  stands_with keep past h m left = stands past h m left (keep past h m left)
