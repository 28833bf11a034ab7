-- The nodes held behind a token, and behind an action.
use Rattle.std.proofs.Common.{◌≡◌, cond, ◌+◌, Bool, true, false, List, [], ◌∷◌, ◌++◌, length, refl, sym, ◌∙◌, ap}
use Rattle.std.specs.Prelude.{drop}
use Rattle.std.specs.List.{filter}
use Rattle.std.proofs.lemmas.Bool.{false≢true}
use Rattle.std.proofs.Math.Seq.{drop-append_seam}
use Rattle.gcx_model.specs.Tree.{Node, Tree, TreeToken, grow}
use Rattle.gcx_model.specs.Nodes.{Grown}
use Rattle.gcx_model.specs.Core.{BodyTree}
use Rattle.gcx_model.specs.Run.{Action}
use Rattle.gcx_model.specs.Cores.{Good}
use Rattle.gcx_model.specs.Placed.{plan_of}
use Rattle.gcx_model.specs.Held.{held, is_held}
use Rattle.placed_laws.specs.Balance.{HeldByFeed, HeldByAct}
use Rattle.tree_laws.proofs.Reading as old
use Rattle.tree_laws.proofs.Reading.{Reading, reading}
use Rattle.tree_laws.proofs.Lists.{In-left, filter_same}
use Rattle.tree_laws.proofs.Matches.{added, grow_nodes}
use Rattle.placed_laws.proofs.Stays.{held_feed}
use Rattle.tree_laws.proofs.Fed.{grown, from_tokens}
use Rattle.placed_laws.proofs.Bridge.{held_is, is_held_is}
use Rattle.placed_laws.proofs.FromPlans.{from_plan}
use Rattle.placed_laws.proofs.Lasting.{held_acted}

filter_sub : (p q : Node → Bool) (xs : List Node) → ((x : Node) → q x ≡ true → p x ≡ true) → filter q (filter p xs) ≡ filter q xs
filter_sub p q [] h = refl
filter_sub p q (x ∷ xs) h = go (p x) (q x) refl refl (filter_sub p q xs h)
  where
    go : (a b : Bool) → p x ≡ a → q x ≡ b → filter q (filter p xs) ≡ filter q xs → filter q (cond a (x ∷ filter p xs) (filter p xs)) ≡ cond b (x ∷ filter q xs) (filter q xs)
    go true true e f i = rw f (ap (λ z. x ∷ z) i)
    go true false e f i = rw f i
    go false true e f i = absurd (false≢true (sym e ∙ h x f))
    go false false e f i = i

feed_at : (core : BodyTree) (good : Good core) (P : Tree) → Grown P → (t : TreeToken) (A : List Action) → held (plan_of core) (grow t P) A ≡ filter (is_held (plan_of core) (grow t P) A) (held (plan_of core) P A ++ drop (length P.nodes) (grow t P).nodes)
feed_at core good P w t A =
    let p : Reading = reading core in
    let n : drop (length P.nodes) (grow t P).nodes ≡ added t P = ap (drop (length P.nodes)) (grow_nodes t P) ∙ drop-append_seam P.nodes (added t P) in
    held_is core good (grow t P) A
    ∙ (held_feed t P w p A
    ∙ (ap (λ z. filter (old.is_held p (grow t P) A) (z ++ added t P)) (sym (held_is core good P A))
    ∙ (ap (λ z. filter (old.is_held p (grow t P) A) (held (plan_of core) P A ++ z)) (sym n)
    ∙ filter_same (old.is_held p (grow t P) A) (is_held (plan_of core) (grow t P) A) (held (plan_of core) P A ++ drop (length P.nodes) (grow t P).nodes) (λ m i. sym (is_held_is core good (grow t P) A m)))))

pub held_by_feed : HeldByFeed
held_by_feed core good plan pl P l t A =
    from_plan core good (λ plan. held plan (grow t P) A ≡ filter (is_held plan (grow t P) A) (held plan P A ++ drop (length P.nodes) (grow t P).nodes)) (feed_at core good P (from_tokens (λ z. Grown z) grown P l) t A) plan pl

act_at : (core : BodyTree) (good : Good core) (P : Tree) (A : List Action) (a : Action) → held (plan_of core) P (A ++ a ∷ []) ≡ filter (is_held (plan_of core) P (A ++ a ∷ [])) (held (plan_of core) P A)
act_at core good P A a =
    let B : List Action = A ++ a ∷ [] in
    sym (filter_sub (is_held (plan_of core) P A) (is_held (plan_of core) P B) P.nodes (λ n h. is_held_is core good P A n ∙ held_acted (reading core) P A B n (λ x i. In-left x A (a ∷ []) i) (sym (is_held_is core good P B n) ∙ h)))

pub held_by_act : HeldByAct
held_by_act core good plan pl P A a = from_plan core good (λ plan. held plan P (A ++ a ∷ []) ≡ filter (is_held plan P (A ++ a ∷ [])) (held plan P A)) (act_at core good P A a) plan pl
