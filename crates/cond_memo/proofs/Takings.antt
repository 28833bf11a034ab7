-- A loop in which matches are taken one by one.
use Rattle.std.proofs.Common.{◌≡◌, ◌<◌, ℕ, Bool, true, List, ◌∷◌, Option, Some, None, sym, subst}
use Rattle.std.specs.Prelude.{IfSome}
use Rattle.gcx_base.specs.declared.steps.Step.{Step}
use Rattle.gcx_model.specs.Members.{In}
use Rattle.gcx_model.specs.Paths.{matches, value}
use Rattle.gcx_model.specs.Tree.{Node, serial_of, Tree, is_closed}
use Rattle.node_store.specs.declared.store.Place.{Place}
use Rattle.buf_tree.specs.View.{View}
use Rattle.cond_eval.specs.Reads.{IsValue}
use Rattle.cond_memo.specs.Taking.{AsksPath, FindsUntaken, IsUntaken, MayTake, MayTakeAt, NextUntaken, TakesUntaken, TookUpto, takes_left}
use Rattle.cond_memo.specs.declared.taken.Taken.{Taken}

-- ---- the next match may be taken

module _ (v : View) (k l : Taken) (p : ℕ) (steps : l.steps ≡ k.steps) where
  took_as : (P : Tree) (n : Node) (vs : List (List ℕ)) → TookUpto P (matches P (serial_of n) k.steps) l.waiting l.below vs → TookUpto P (matches P (serial_of n) l.steps) l.waiting l.below vs
  took_as P n vs t = subst (λ (s : List Step). TookUpto P (matches P (serial_of n) s) l.waiting l.below vs) (sym steps) t

  may_on : (P : Tree) (keep : Node → Bool) (n : Node) (vs : List (List ℕ)) → AsksPath v p k.steps P keep n → TookUpto P (matches P (serial_of n) k.steps) l.waiting l.below vs → (r : Option Place)
      → NextUntaken v P keep (matches P (serial_of n) k.steps) l.waiting l.below vs r → IfSome r (λ q. MayTakeAt v l p q.0)
  may_on P keep n vs a t None u = tt
  may_on P keep n vs a t (Some q) u = record {
    may = record { tree = P; keep = keep; node = n; values = vs; asks = subst (λ (s : List Step). AsksPath v p s P keep n) (sym steps) a; took = took_as P n vs t };
    match_at = u.0;
    untaken = subst (λ (s : List Step). IsUntaken v.rows P keep (matches P (serial_of n) s) l.waiting l.below q.0 u.0) (sym steps) u.1;
  }

  pub may_found : MayTake v k p → (r : Option Place) → FindsUntaken v k l p r → IfSome r (λ q. MayTakeAt v l p q.0)
  may_found m r finds = let h = finds m.tree m.keep m.node m.values m.asks m.took in may_on m.tree m.keep m.node m.values m.asks h.0 r h.1

  pub may_later : (q : Place) → MayTakeAt v k p q.0 → (r : Option Place) → TakesUntaken v k l p q r → IfSome r (λ z. MayTakeAt v l p z.0)
  may_later q m r takes =
      let h = takes m.may.tree m.may.keep m.may.node m.match_at m.may.values m.may.asks m.may.took m.untaken in
      may_on m.may.tree m.may.keep m.may.node (value m.may.tree m.match_at ∷ m.may.values) m.may.asks h.0 r h.1

-- fewer are left
pub takes_less : (v : View) (k l : Taken) (p : ℕ) (q : Place) → MayTakeAt v k p q.0 → (r : Option Place) → TakesUntaken v k l p q r → takes_left v l.below r < takes_left v k.below (Some q)
takes_less v k l p q m r takes = (takes m.may.tree m.may.keep m.may.node m.match_at m.may.values m.may.asks m.may.took m.untaken).2

-- ---- what holds of the values

-- From what held at the start of the values that were taken follows what holds now, and which match is next.
abbrev pub TakesOn : View → (was now : Taken) → (p : ℕ) → (before after : List (List ℕ) → Type 0) → (next : Option Place) → Type 0
TakesOn v was now p before after next = (P : Tree) (keep : Node → Bool) (n : Node) (vs : List (List ℕ)) → AsksPath v p was.steps P keep n
    → TookUpto P (matches P (serial_of n) was.steps) was.waiting was.below vs → before vs
    → (ws : List (List ℕ)) × after ws × TookUpto P (matches P (serial_of n) was.steps) now.waiting now.below ws × NextUntaken v P keep (matches P (serial_of n) was.steps) now.waiting now.below ws next

pub takes_start : (v : View) (k l : Taken) (p : ℕ) (before : List (List ℕ) → Type 0) (r : Option Place) → FindsUntaken v k l p r → TakesOn v k l p before before r
takes_start v k l p before r finds P keep n vs a t b = let h = finds P keep n vs a t in (vs, b, h.0, h.1)

module _ (v : View) (was now : Taken) (p : ℕ) (before after : List (List ℕ) → Type 0) (q : Place) (on : TakesOn v was now p before after (Some q)) (w : List ℕ) (is : IsValue v.rows q.0 w) where
  -- what the call tells, by the steps
  abbrev TakesBy : (later : Taken) → Option Place → List Step → Type 0
  TakesBy later r s = (P : Tree) (keep : Node → Bool) (n m : Node) (vs : List (List ℕ)) → AsksPath v p s P keep n → TookUpto P (matches P (serial_of n) s) now.waiting now.below vs
      → IsUntaken v.rows P keep (matches P (serial_of n) s) now.waiting now.below q.0 m
      → TookUpto P (matches P (serial_of n) s) later.waiting later.below (value P m ∷ vs) × NextUntaken v P keep (matches P (serial_of n) s) later.waiting later.below (value P m ∷ vs) r
      × (takes_left v later.below r < takes_left v now.below (Some q))

  -- a value more
  pub takes_on : now.steps ≡ was.steps → (later : Taken) (r : Option Place) → TakesUntaken v now later p q r → (next : List (List ℕ) → Type 0) → ((vs : List (List ℕ)) → after vs → next (w ∷ vs)) → TakesOn v was later p before next r
  takes_on steps later r takes next more P keep n vs a t b =
      let h = on P keep n vs a t b in
      let m = h.3 in
      let e = is P keep m.0 m.1.at (a.kept m.0 m.1.among) in
      let by : TakesBy later r was.steps = subst (TakesBy later r) steps takes in
      let u = by P keep n m.0 h.0 a h.2 m.1 in
      (value P m.0 ∷ h.0, subst (λ (x : List ℕ). next (x ∷ h.0)) e (more h.0 h.1), u.0, u.1)

  -- the value is that of a closed match
  pub takes_this : (P : Tree) (keep : Node → Bool) (n : Node) (vs : List (List ℕ)) → AsksPath v p was.steps P keep n → TookUpto P (matches P (serial_of n) was.steps) was.waiting was.below vs → before vs
      → (ws : List (List ℕ)) × after ws × TookUpto P (matches P (serial_of n) was.steps) now.waiting now.below ws
      × ((m : Node) × In m (matches P (serial_of n) was.steps) × (is_closed P m ≡ true) × (value P m ≡ w))
  takes_this P keep n vs a t b =
      let h = on P keep n vs a t b in
      let m = h.3 in
      (h.0, h.1, h.2, (m.0, m.1.among, m.1.closed, sym (is P keep m.0 m.1.at (a.kept m.0 m.1.among))))
