-- A token more: what the new node is given and what is taken from it in advance, and for what the matcher stands then.
use Rattle.std.proofs.Common.{◌≡◌, Bool, true, false, cond, List, [], ◌∷◌, ◌++◌, length, drop, refl, sym, ◌∙◌, ap, subst, inl, inr, arith, Some}
use Rattle.std.specs.List.{filter}
use Rattle.std.proofs.Math.Seq.{take-length, drop-append_seam}
use Rattle.std.proofs.lemmas.Bool.{false≢true}
use Rattle.gcx_base.specs.declared.kind.Kind.{Kind}
use Rattle.gcx_base.specs.declared.kind.Kind.TheVariants.{Document, Element, Text}
use Rattle.gcx_base.specs.declared.ids.Role.{Role}
use Rattle.gcx_model.specs.Tree.{Node, Root, Under, Tree, TreeToken, Start, Chars, End, grow, grow_at}
use Rattle.gcx_model.specs.Members.{In, count}
use Rattle.gcx_model.specs.Held.{taken, roles_taken, roles_given}
use Rattle.gcx_model.specs.Growth.{may_come}
use Rattle.gcx_model.specs.Past.{Past, IsPast, past_fed, is_ahead, reopen, reopened, Opens, IsLast, token_for, past_grown, IsNode}
use Rattle.tree_laws.proofs.Lists.{In-right, In-append, filter_same}
use Rattle.tree_laws.proofs.Matches.{Numbered-high, added, added_at, grow_nodes}
use Rattle.tree_laws.proofs.Growing.{tree_same}
use Rattle.placed_laws.proofs.Reopened.{added_serial}
use Rattle.past_laws.proofs.Ahead.{ahead_takes, ahead_before}
use Rattle.past_laws.proofs.Bases.{is_grown}
use Rattle.past_laws.proofs.PastForms.{past_feeds}
use Rattle.gcx_base.specs.Kinds.{is_text}
use Rattle.matcher.specs.Matcher.{MatcherAt}
use Rattle.matcher.specs.View.{MatcherView}
use Rattle.buf_tree.specs.Stands.{GivenTo}
use Rattle.buf_tree.specs.Calls.{numbers}
use Rattle.projector.specs.View.{ProjectorView}
use Rattle.projector.specs.Projector.{ahead_in, heard, Projects}
use Rattle.projector.specs.Opening.{HasHeard}
use Rattle.projector.proofs.Pasts.{is_open, reopened_same, fewer}
use Rattle.projector.proofs.Moving.{moved, signed_behind}

-- what passes both tests, where each that passes the second passes the first
filter_twice : {X : Type 0} (p q : X → Bool) (xs : List X) → ((x : X) → In x xs → q x ≡ true → p x ≡ true) → filter q (filter p xs) ≡ filter q xs
filter_twice p q [] h = refl
filter_twice p q (x ∷ xs) h = go (p x) refl (q x) refl (filter_twice p q xs (λ y i. h y (inr i)))
  where
    go : (c : Bool) → p x ≡ c → (d : Bool) → q x ≡ d → filter q (filter p xs) ≡ filter q xs → filter q (cond c (x ∷ filter p xs) (filter p xs)) ≡ cond (q x) (x ∷ filter q xs) (filter q xs)
    go true e d f k = λ t. cond (q x) (x ∷ k t) (k t)
    go false e true f k = absurd (false≢true (sym e ∙ h x (inl refl) f))
    go false e false f k = k ∙ sym (ap (λ c. cond c (x ∷ filter q xs) (filter q xs)) f)

-- a list's last part is the one behind the first
pub behind : (t : TreeToken) (P : Tree) → drop (length P.nodes) (grow t P).nodes ≡ added t P
behind t P = ap (drop (length P.nodes)) (grow_nodes t P) ∙ drop-append_seam P.nodes (added t P)

module _ (past : Past) (is : IsPast past) (t : TreeToken) where
  abbrev P : Tree
  P = past.tree

  pub opens : (n : Node) → drop (length past.tree.nodes) (grow t past.tree).nodes ≡ n ∷ [] → Opens past.tree t n
  opens n e =
      let i : In n (added t P) = subst (λ (z : List Node). In n z) (sym e ∙ behind t P) (inl refl) in (
        subst (λ (z : List Node). In n z) (sym (grow_nodes t P)) (In-right n P.nodes (added t P) i),
        (λ j. let h = Numbered-high 0 P.nodes (is_grown past is).numbered n j in let s = added_serial P.at t P n i in absurd (omega arith)),
      )

  -- of the actions those alone that are in advance take from a new node
  pub takes_same : (n : Node) → Opens past.tree t n → roles_taken past.plan (grow t past.tree) (filter (is_ahead past.tree) past.acts) n ≡ roles_taken past.plan (grow t past.tree) past.acts n
  takes_same n o = filter_same _ _ (count 0 (length past.plan.roles)) (λ r i.
      ahead_takes (ahead_in P past.acts past) (fewer past is) t n o r
      ∙ (ap (λ A. taken past.plan (grow t P) A n r) (filter_twice (is_ahead P) (is_ahead (grow t P)) past.acts (λ a j h. ahead_before past is t a j h))
      ∙ sym (ahead_takes past is t n o r)))

-- the new node is the innermost, or the last text
pub new_innermost : (P : Tree) (kind : Kind) → IsNode kind → (a : Node) → P.at ≡ Some a → (n : Node) → added (token_for kind) P ≡ n ∷ [] → IsLast (grow (token_for kind) P) (is_text kind) n
new_innermost P Document k a e n h = absurd k
new_innermost P (Element v) k a e n h =
    let f : Under a (length P.nodes) (Element v) ∷ [] ≡ n ∷ [] = sym (ap (λ o. added_at o (Start v) P) e) ∙ h in
    let g : Under a (length P.nodes) (Element v) ≡ n = cc in
    ap (λ o. (grow_at o (Start v) P).at) e ∙ ap (λ z. Some z) g
new_innermost P (Text v) k a e n h =
    let f : Under a (length P.nodes) (Text v) ∷ [] ≡ n ∷ [] = sym (ap (λ o. added_at o (Chars v) P) e) ∙ h in
    let g : Under a (length P.nodes) (Text v) ≡ n = cc in
    (a, length P.nodes, v, P.nodes, sym g, ap (λ o. (grow_at o (Chars v) P).at) e, ap (λ o. (grow_at o (Chars v) P).nodes) e ∙ ap (λ z. P.nodes ++ z ∷ []) g)

-- where a node is open, the matcher that has heard of all stands for the tree itself
pub heard_here : (m : MatcherView) (past : Past) (a : Node) → past.tree.at ≡ Some a → HasHeard m past → MatcherAt m (ahead_in past.tree past.acts past) false
heard_here m past a e h = subst (λ (T : Tree). MatcherAt m (ahead_in T past.acts past) false) (reopened_same past.tree a e) h.matcher

-- a node of the token's kind comes below the innermost open one
pub added_then : (past : Past) (kind : Kind) → IsNode kind → (n : Node) → past.tree.at ≡ Some n → added (token_for kind) past.tree ≡ Under n (length past.tree.nodes) kind ∷ []
added_then past Document k n e = absurd k
added_then past (Element v) k n e = ap (λ z. added_at z (Start v) past.tree) e
added_then past (Text v) k n e = ap (λ z. added_at z (Chars v) past.tree) e

module _ (past : Past) (is : IsPast past) (kind : Kind) (k : IsNode kind) (m : may_come (token_for kind) past.tree ≡ true) where
  -- what the matcher tells of the new node is what the buffer asks
  pub given_to : (given ahead : List Role)
      → ((n : Node) → Opens past.tree (token_for kind) n → numbers given ≡ roles_given past.plan (grow (token_for kind) past.tree) n)
      → ((n : Node) → IsLast (grow (token_for kind) past.tree) (is_text kind) n → numbers ahead ≡ roles_taken past.plan (grow (token_for kind) past.tree) (filter (is_ahead past.tree) past.acts) n)
      → GivenTo past (token_for kind) given ahead
  given_to given ahead g h n e =
      let o = opens past is (token_for kind) n e in
      let a = is_open past.tree (token_for kind) m in (
        g n o,
        h n (new_innermost past.tree kind k a.0 a.1 n (sym (behind (token_for kind) past.tree) ∙ e)) ∙ takes_same past is (token_for kind) n o,
      )

  -- the new node is that of the token's kind
  pub opened_node : (n : Node) → Opens past.tree (token_for kind) n → drop (length past.tree.nodes) (grow (token_for kind) past.tree).nodes ≡ n ∷ []
  opened_node n o =
      let a = is_open past.tree (token_for kind) m in
      let e = added_then past kind k a.0 a.1 in
      elim (In-append n past.tree.nodes (added (token_for kind) past.tree) (subst (λ (z : List Node). In n z) (grow_nodes (token_for kind) past.tree) o.0)) [
        | inl j ↦ absurd (o.1 j)
        | inr j ↦ elim (subst (λ (z : List Node). In n z) e j) [
          | inl f ↦ behind (token_for kind) past.tree ∙ (e ∙ ap (λ z. z ∷ []) f)
          | inr f ↦ absurd f
        ]
      ]

-- behind a token
pub heard_fed : (past : Past) (t : TreeToken) → heard (past_fed t past) ≡ ahead_in (reopened (grow t past.tree)) past.acts past
heard_fed past t = ap (λ A. ahead_in (reopened (grow t past.tree)) A past) (take-length past.acts)

-- Where a node is open then, the matcher that stands for the new tree with all that was in advance before the token stands for what is in advance behind it.
pub matcher_fed : (q : MatcherView) (past : Past) → IsPast past → (t : TreeToken) → may_come t past.tree ≡ true → (a : Node) → (grow t past.tree).at ≡ Some a
    → MatcherAt q (past_grown t (ahead_in past.tree past.acts past)) false → MatcherAt q (heard (past_fed t past)) false
matcher_fed q past is t m a e s =
    subst (λ (z : Past). MatcherAt q z false) (sym (heard_fed past t ∙ ap (λ T. ahead_in T past.acts past) (reopened_same (grow t past.tree) a e)))
    (moved q (past_grown t (ahead_in past.tree past.acts past)) (filter (is_ahead (grow t past.tree)) past.acts) s (fewer (past_fed t past) (past_feeds past is t m)) (signed_behind past is t))

pub projects_fed : (p : ProjectorView) → p.passed ≡ [] → (past : Past) → IsPast past → (t : TreeToken) → may_come t past.tree ≡ true → (a : Node) → (grow t past.tree).at ≡ Some a
    → MatcherAt p.matcher (past_grown t (ahead_in past.tree past.acts past)) false → Projects p (past_fed t past)
projects_fed p none past is t m a e s = record { matcher = matcher_fed p.matcher past is t m a e s; none = none }

-- at the document's end the matcher stays
pub projects_ended : (p : ProjectorView) → p.passed ≡ [] → (past : Past) → past.tree.at ≡ Some Root → HasHeard p.matcher past → Projects p (past_fed End past)
projects_ended p none past e h = record {
  matcher = subst (λ (z : Past). MatcherAt p.matcher z false) (ap (λ T. ahead_in T past.acts past) same ∙ sym (heard_fed past End)) h.matcher;
  none = none;
}
  where
    same : reopened past.tree ≡ reopened (grow End past.tree)
    same = tree_same _ _ (sym (ap (λ o. (grow_at o End past.tree).nodes) e)) (ap reopen e ∙ sym (ap (λ o. reopen (grow_at o End past.tree).at) e))
