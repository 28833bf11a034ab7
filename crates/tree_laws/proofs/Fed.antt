-- Open trees are what tokens make of the opening one: what holds of these holds of all.
use Rattle.std.proofs.Common.{◌≡◌, ◌<◌, true, List, [], ◌∷◌, refl, sym, ◌∙◌, ap, subst, inl, inr, arith, Some, None, Option, eqb, false}
use Rattle.gcx_model.specs.Tree.{Node, Root, Under, serial_of, Tree, TreeToken, grow, grow_all, is_closed, within, is_open_at, opening, above}
use Rattle.tree_laws.proofs.Lists.{In, In-left}
use Rattle.tree_laws.proofs.Matches.{Grown, Grown-grow, Grown-all, grow_nodes, added, Grown-opening}
use Rattle.std.proofs.lemmas.Bool.{or_right, true≢false, not-true}
use Rattle.std.proofs.lemmas.Option.{same_Some}
use Rattle.gcx_model.specs.Members.{In}
use Rattle.gcx_model.specs.Nodes.{Grown, Ordered}
use Rattle.gcx_model.specs.Growth.{Leads}
use Rattle.tree_laws.specs.Growth.{GrowIsFeeding, LeadsIsFeeding, TokensAreFound, NodesAreNumbered}
use Rattle.tree_laws.proofs.Order.{Ordered-grow}
use Rattle.tree_laws.proofs.Growing.{grow_is, leads_is, fed_all, tokens_found}

pub nodes_stay : (ts : List TreeToken) (P : Tree) (m : Node) → In m P.nodes → In m (grow_all ts P).nodes
nodes_stay [] P m i = i
nodes_stay (t ∷ ts) P m i = nodes_stay ts (grow t P) m (subst (λ (z : List Node). In m z) (sym (grow_nodes t P)) (In-left m P.nodes (added t P) i))

-- the open tree of some tokens
abbrev pub tree : List TreeToken → Tree
tree ts = grow_all ts opening

pub grown : (ts : List TreeToken) → Grown (tree ts)
grown ts = Grown-all ts opening Grown-opening

pub root_in : (ts : List TreeToken) → In Root (tree ts).nodes
root_in ts = nodes_stay ts opening Root (inl refl)

pub grow_is_feeding : GrowIsFeeding
grow_is_feeding P Q = grow_is P Q

pub leads_is_feeding : LeadsIsFeeding
leads_is_feeding P Q = leads_is P Q

pub tokens_are_found : TokensAreFound
tokens_are_found ts h = tokens_found ts h

-- what holds of the trees of all lists of tokens holds of each tree to which the opening one leads
pub from_tokens : (Q : Tree → Type 0) → ((ts : List TreeToken) → Q (tree ts)) → (P : Tree) → Leads opening P → Q P
from_tokens Q h P l = let r = fed_all opening P l in subst Q (sym r.2) (h r.0)

pub grown_from : (P : Tree) → Leads opening P → Grown P
grown_from P l = from_tokens (λ z. Grown z) grown P l

pub root_from : (P : Tree) → Leads opening P → In Root P.nodes
root_from P l = from_tokens (λ P. In Root P.nodes) root_in P l

pub ordered_opening : Ordered opening
ordered_opening = record {
  behind = λ p a b e i j l. absurd (same a b (only a (subst (λ (z : Node). In a (above z)) (sym (same_Some _ _ e)) i)) j l);
  split = λ a b m i j h l n q. absurd (same a b (only a i) j l);
}
  where
    only : (a : Node) → In a (Root ∷ []) → Root ≡ a
    only a (inl e) = e
    only a (inr k) = absurd k

    same : (a b : Node) → Root ≡ a → In b (Root ∷ []) → serial_of a < serial_of b → ⊥
    same a b e (inl f) l = let g = ap serial_of e in let h = ap serial_of f in absurd (omega arith)
    same a b e (inr k) l = k

pub ordered_all : (ts : List TreeToken) (P : Tree) → Grown P → Ordered P → Grown (grow_all ts P) × Ordered (grow_all ts P)
ordered_all [] P w o = (w, o)
ordered_all (t ∷ ts) P w o = ordered_all ts (grow t P) (Grown-grow t P w) (Ordered-grow t P w o)

pub nodes_are_numbered : NodesAreNumbered
nodes_are_numbered P l = from_tokens (λ z. Grown z × Ordered z) (λ ts. ordered_all ts opening Grown-opening ordered_opening) P l

within_root : (a : Node) → within 0 a ≡ true
within_root Root = refl
within_root (Under p s k) = or_right (eqb s 0) (within 0 p) (within_root p)

-- where the document node is closed, no node is open
pub closed_all : (P : Tree) → is_closed P Root ≡ true → P.at ≡ None
closed_all P h = go P.at refl (not-true (is_open_at P.at 0) h)
  where
    go : (at : Option Node) → P.at ≡ at → is_open_at at 0 ≡ false → P.at ≡ None
    go None e f = e
    go (Some a) e f = absurd (true≢false (sym (within_root a) ∙ f))
