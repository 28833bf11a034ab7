-- The frames of a copy, and what is still to come of it.
use Rattle.std.proofs.Common.{◌≡◌, ℕ, zero, suc, ◌+◌, ◌<◌, ◌≤◌, true, ◌&&◌, List, [], ◌∷◌, ◌++◌, length, refl, sym, ◌∙◌, ap, subst, inl, inr, ◌⊎◌, arith, append_assoc, Some, Option}
use Rattle.std.proofs.lemmas.List.{append-nil}
use Rattle.std.proofs.lemmas.Bool.{and_parts, false≢true, eqb-true}
use Rattle.gcx_base.specs.declared.kind.Kind.{Kind}
use Rattle.gcx_base.specs.declared.kind.Kind.TheVariants.{Document, Element, Text}
use Rattle.gcx_model.specs.Tree.{Node, Root, Under, serial_of, kind_of, above, within, Tree, is_closed}
use Rattle.gcx_base.specs.Tests.{passes}
use Rattle.gcx_model.specs.Paths.{reach, lies, hits}
use Rattle.gcx_model.specs.Answer.{child_step, children}
use Rattle.gcx_model.specs.Run.{Action, Out, seq, loop, copy_with, copy}
use Rattle.gcx_model.specs.Points.{later}
use Rattle.gcx_model.specs.Copying.{CopyFrame, Inside, has_inside, begun, ended, copy_all, copies, last_of, ComesTo, Itself, Below, IsCopyPoint, InNode, next_children, copy_left}
use Rattle.move_laws.specs.Copying.{CopyGoesOn}
use Rattle.tree_laws.proofs.Lists.{In, any_in, In-right}
use Rattle.tree_laws.proofs.Matches.{Grown, Rising, Rising-filter, Numbered-high, Matches-in}
use Rattle.tree_laws.proofs.Freeze.{hits_within}
use Rattle.placed_laws.proofs.Pruned.{loop_same}
use Rattle.placed_laws.proofs.PointForms.{after, after-after, seq-idle, seq-assoc, seq-done, seq-after, loop-append, later_is}
use Rattle.placed_laws.proofs.Turns.{loop_to}

-- some actions, and over
abbrev pub at_once : List Action → Out
at_once acts = record { acts = acts; done = true }

-- a copy that is over
over_is : (o : Out) (acts : List Action) → o.acts ≡ acts → o.done ≡ true → o ≡ at_once acts
over_is o acts e d = ap (λ z. record { acts = z; done = o.done }) e ∙ ap (λ z. record { acts = acts; done = z }) d

-- with its children a copy is what begins it, theirs, and what ends it
pub shape : (k : Kind) (o : Out) → has_inside k ≡ true → copy_with k o ≡ seq (at_once (begun k)) (seq o (at_once (ended k)))
shape Document o h = sym (seq-idle o)
shape (Element name) o h = refl
shape (Text b) o h = absurd (false≢true h)

-- the first of two parts is done
regroup : (a x e r : Out) (b : List Action) → a.done ≡ true → seq (seq (at_once b) (seq (seq a x) e)) r ≡ after (b ++ a.acts) (seq (seq x e) r)
regroup a x e r b d =
    ap (λ z. seq (seq (at_once b) (seq z e)) r) (seq-done a x d)
    ∙ (ap (λ z. seq (after b z) r) (seq-after a.acts x e)
    ∙ (seq-after b (after a.acts (seq x e)) r
    ∙ (ap (after b) (seq-after a.acts (seq x e) r)
    ∙ after-after b a.acts (seq (seq x e) r))))

last-push : (ns : List Node) (n : Node) → last_of (ns ++ n ∷ []) ≡ Some n
last-push [] n = refl
last-push (m ∷ []) n = refl
last-push (m ∷ k ∷ ns) n = last-push (k ∷ ns) n

-- a list is empty, or has a last one
ends_in : (ns : List Node) → (ns ≡ []) ⊎ ((front : List Node) × (n : Node) × (ns ≡ front ++ n ∷ []))
ends_in [] = inl refl
ends_in (m ∷ ns) = inr (go (ends_in ns))
  where
    go : (ns ≡ []) ⊎ ((front : List Node) × (n : Node) × (ns ≡ front ++ n ∷ [])) → (front : List Node) × (n : Node) × (m ∷ ns ≡ front ++ n ∷ [])
    go (inl e) = ([], m, ap (λ z. m ∷ z) e)
    go (inr r) = (m ∷ r.0, r.1, ap (λ z. m ∷ z) r.2)

-- the frame at the top, seen from what its copies are
pub record Top (P : Tree) (n : Node) (before : List Action) (m : Node) (present : Option Node) (below : List CopyFrame) : Type 0 where
  pub start : List Action
  pub pre : List Node
  pub post : List Node
  pub comes : ComesTo P n m start below
  pub has : has_inside (kind_of m) ≡ true
  pub children_are : children P m ≡ pre ++ post
  pub done : (copies P pre).done ≡ true
  pub before_is : before ≡ start ++ (begun (kind_of m) ++ (copies P pre).acts)
  pub present_is : present ≡ last_of pre

pub top : (P : Tree) (n : Node) (before : List Action) (m : Node) (present : Option Node) (below : List CopyFrame) → IsCopyPoint P n before (Inside m present ∷ below) → Top P n before m present below
top P n before m present below (InNode {before = start} pre post comes has e dn) = record { start = start; pre = pre; post = post; comes = comes; has = has; children_are = e; done = dn; before_is = refl; present_is = refl }

-- where the copies of the first children are done, and so is that of the next one
pub step_over : (P : Tree) (n m : Node) (start : List Action) (below : List CopyFrame) (pre : List Node) (c : Node) (post : List Node) (acts : List Action) → ComesTo P n m start below → has_inside (kind_of m) ≡ true → children P m ≡ pre ++ c ∷ post → (copies P pre).done ≡ true
    → copy_all P c ≡ at_once acts → IsCopyPoint P n ((start ++ (begun (kind_of m) ++ (copies P pre).acts)) ++ acts) (Inside m (Some c) ∷ below)
step_over P n m start below pre c post acts comes has e dn is =
    let l = loop_to (copy_all P) pre c dn (ap (λ (z : Out). z.done) is) in
    let acts_are : (copies P (pre ++ c ∷ [])).acts ≡ (copies P pre).acts ++ acts = l.1 ∙ ap (λ (z : Out). (copies P pre).acts ++ z.acts) is in
    let before_is : start ++ (begun (kind_of m) ++ (copies P (pre ++ c ∷ [])).acts) ≡ (start ++ (begun (kind_of m) ++ (copies P pre).acts)) ++ acts =
    ap (λ z. start ++ (begun (kind_of m) ++ z)) acts_are ∙ (ap (λ z. start ++ z) (sym (append_assoc (begun (kind_of m)) (copies P pre).acts acts)) ∙ sym (append_assoc start (begun (kind_of m) ++ (copies P pre).acts) acts)) in
    subst (λ (z : List Action). IsCopyPoint P n z (Inside m (Some c) ∷ below)) before_is
    (subst (λ (z : Option Node). IsCopyPoint P n (start ++ (begun (kind_of m) ++ (copies P (pre ++ c ∷ [])).acts)) (Inside m z ∷ below)) (last-push pre c)
    (InNode (pre ++ c ∷ []) post comes has (e ∙ sym (append_assoc pre (c ∷ []) post)) l.0))

-- where the copy of a node is done
abbrev pub Up : Tree → Node → List Action → List CopyFrame → Type 0
Up P n acts [] = copy_all P n ≡ at_once acts
Up P n acts (f ∷ fs) = IsCopyPoint P n acts (f ∷ fs)

pub up : (P : Tree) (n m : Node) (start : List Action) (below : List CopyFrame) (acts : List Action) → ComesTo P n m start below → copy_all P m ≡ at_once acts → Up P n (start ++ acts) below
up P n m start below acts Itself is = is
up P n m start below acts (Below {m = o} {before = b} {below = fs} pre c post comes has e dn) is = step_over P n o b fs pre c post acts comes has e dn is

-- one copy within another one
pub ComesTo-trans : (P : Tree) (n m o : Node) (a b : List Action) (fs gs : List CopyFrame) → ComesTo P n m a fs → ComesTo P m o b gs → ComesTo P n o (a ++ b) (gs ++ fs)
ComesTo-trans P n m o a b fs gs h Itself = subst (λ (z : List Action). ComesTo P n m z fs) (sym (append-nil a)) h
ComesTo-trans P n m o a b fs gs h (Below {m = q} {before = b'} {below = gs'} pre c post comes has e dn) =
    subst (λ (z : List Action). ComesTo P n c z (Inside q (Some c) ∷ (gs' ++ fs))) (append_assoc a b' (begun (kind_of q) ++ (copies P pre).acts))
    (Below pre c post (ComesTo-trans P n m q a b' fs gs' h comes) has e dn)

pub IsCopyPoint-trans : (P : Tree) (n m : Node) (a b : List Action) (fs gs : List CopyFrame) → ComesTo P n m a fs → IsCopyPoint P m b gs → IsCopyPoint P n (a ++ b) (gs ++ fs)
IsCopyPoint-trans P n m a b fs gs h (InNode {m = q} {before = b'} {below = gs'} pre post comes has e dn) =
    subst (λ (z : List Action). IsCopyPoint P n z (Inside q (last_of pre) ∷ (gs' ++ fs))) (append_assoc a b' (begun (kind_of q) ++ (copies P pre).acts))
    (InNode pre post (ComesTo-trans P n m q a b' fs gs' h comes) has e dn)

module _ (P : Tree) (w : Grown P) where
  pub child_above : (n : ℕ) (m : Node) → In m P.nodes → (hits n (child_step ∷ []) m) ≡ true → n < serial_of m
  child_above n m i h = go (any_in (λ (j : Node). reach n child_step j && hits (serial_of j) [] m) (above m) h)
    where
      at : (j : Node) → passes child_step.test (kind_of j) ≡ true → lies child_step.axis n j ≡ true → serial_of m ≡ serial_of j → In j P.nodes → n < serial_of m
      at Root a b e k = absurd (false≢true a)
      at (Under p s kd) a b e k = let q = w.below p s kd k in let r = eqb-true _ _ b in omega arith

      high : (x j : Node) → In j (above x) → In x P.nodes → In j P.nodes
      high Root j (inl e) k = subst (λ (z : Node). In z P.nodes) e k
      high Root j (inr q) k = absurd q
      high (Under p s kd) j (inl e) k = subst (λ (z : Node). In z P.nodes) e k
      high (Under p s kd) j (inr q) k = high p j q (w.upward p s kd k)

      go : (j : Node) × In j (above m) × ((reach n child_step j && hits (serial_of j) [] m) ≡ true) → n < serial_of m
      go r =
          let a = and_parts (reach n child_step r.0) (hits (serial_of r.0) [] m) r.2 in
          let b = and_parts (passes child_step.test (kind_of r.0)) (lies child_step.axis n r.0) a.0 in
          at r.0 b.0 b.1 (eqb-true _ _ a.1) (high m r.0 r.1 i)

  -- with enough levels copies are the same
  pub copy_enough : (a b : ℕ) (n : Node) → In n P.nodes → length P.nodes ≤ a + serial_of n → length P.nodes ≤ b + serial_of n → copy a P n ≡ copy b P n
  copy_enough zero b n i h k = let r = Numbered-high 0 P.nodes w.numbered n i in absurd (omega arith)
  copy_enough (suc a) zero n i h k = let r = Numbered-high 0 P.nodes w.numbered n i in absurd (omega arith)
  copy_enough (suc a) (suc b) n i h k = ap (copy_with (kind_of n)) (loop_same (copy a P) (copy b P) (children P n) (is_closed P n)
      (λ m j. let q = Matches-in P (serial_of n) (child_step ∷ []) m j in
      let l = child_above (serial_of n) m q.0 q.1 in
      copy_enough a b m q.0 (omega arith) (omega arith)))

  -- a copy by those of its children
  pub copy_is : (n : Node) → In n P.nodes → copy_all P n ≡ copy_with (kind_of n) (loop (copy_all P) (children P n) (is_closed P n))
  copy_is n i = copy_enough (length P.nodes) (suc (length P.nodes)) n i (omega arith) (omega arith)

  pub copy_parts : (n : Node) (ns : List Node) → In n P.nodes → has_inside (kind_of n) ≡ true → children P n ≡ ns → copy_all P n ≡ seq (at_once (begun (kind_of n))) (seq (loop (copy_all P) ns (is_closed P n)) (at_once (ended (kind_of n))))
  copy_parts n ns i h e =
      copy_is n i ∙ (shape (kind_of n) (loop (copy_all P) (children P n) (is_closed P n)) h
      ∙ ap (λ z. seq (at_once (begun (kind_of n))) (seq (loop (copy_all P) z (is_closed P n)) (at_once (ended (kind_of n))))) e)

  pub child_in : (n m : Node) → In m (children P n) → In m P.nodes × (within (serial_of n) m ≡ true)
  child_in n m j = let q = Matches-in P (serial_of n) (child_step ∷ []) m j in (q.0, hits_within (serial_of n) (child_step ∷ []) m q.1)

  pub mid_in : (n : Node) (pre : List Node) (c : Node) (post : List Node) → children P n ≡ pre ++ c ∷ post → In c (children P n)
  mid_in n pre c post e = subst (λ (z : List Node). In c z) (sym e) (In-right c pre (c ∷ post) (inl refl))

  later_post : (n : Node) (pre : List Node) (c : Node) (post : List Node) → children P n ≡ pre ++ c ∷ post → later c (children P n) ≡ post
  later_post n pre c post e = ap (later c) e ∙ later_is pre c post (subst (λ (z : List Node). Rising z) e (Rising-filter 0 (hits (serial_of n) (child_step ∷ [])) P.nodes w.numbered))

  -- behind the first children the others are the next ones
  pub next_is : (n : Node) (pre post : List Node) → children P n ≡ pre ++ post → next_children P n (last_of pre) ≡ post
  next_is n pre post e = go (ends_in pre)
    where
      go : (pre ≡ []) ⊎ ((front : List Node) × (c : Node) × (pre ≡ front ++ c ∷ [])) → next_children P n (last_of pre) ≡ post
      go (inl f) = ap (λ z. next_children P n (last_of z)) f ∙ (e ∙ ap (λ z. z ++ post) f)
      go (inr r) =
          ap (λ z. next_children P n (last_of z)) r.2 ∙ (ap (next_children P n) (last-push r.0 r.1)
          ∙ later_post n r.0 r.1 post (e ∙ (ap (λ z. z ++ post) r.2 ∙ append_assoc r.0 (r.1 ∷ []) post)))

  -- a copy, as far as another one within it
  pub comes : (n m : Node) (before : List Action) (fs : List CopyFrame) → In n P.nodes → ComesTo P n m before fs → In m P.nodes × (copy_all P n ≡ after before (seq (copy_all P m) (copy_left P fs)))
  comes n m before fs i Itself = (i, sym (seq-idle (copy_all P n)))
  comes n m before fs i (Below {m = o} {before = b} {below = below} pre c post h has e dn) =
      let ih = comes n o b below i h in
      let a : Out = copies P pre in
      let l : Out = loop (copy_all P) post (is_closed P o) in
      let t : Out = at_once (ended (kind_of o)) in
      let r : Out = copy_left P below in
      let parts : copy_all P o ≡ seq (at_once (begun (kind_of o))) (seq (seq a (seq (copy_all P c) l)) t) =
      copy_parts o (pre ++ c ∷ post) ih.0 has e ∙ ap (λ z. seq (at_once (begun (kind_of o))) (seq z t)) (loop-append (copy_all P) pre (c ∷ post) (is_closed P o)) in (
        (child_in o c (mid_in o pre c post e)).0,
        ih.1
            ∙ (ap (λ z. after b (seq z r)) parts
            ∙ (ap (after b) (regroup a (seq (copy_all P c) l) t r (begun (kind_of o)) dn)
            ∙ (after-after b (begun (kind_of o) ++ a.acts) (seq (seq (seq (copy_all P c) l) t) r)
            ∙ ap (after (b ++ (begun (kind_of o) ++ a.acts)))
            (ap (λ z. seq z r) (seq-assoc (copy_all P c) l t)
            ∙ (seq-assoc (copy_all P c) (seq l t) r
            ∙ ap (λ z. seq (copy_all P c) (seq (seq (loop (copy_all P) z (is_closed P o)) t) r)) (sym (later_post o pre c post e))))))),
      )

  -- and as far as these frames
  pub goes_on : (n : Node) (before : List Action) (fs : List CopyFrame) → In n P.nodes → IsCopyPoint P n before fs → copy_all P n ≡ after before (copy_left P fs)
  goes_on n before fs i (InNode {m = o} {before = b} {below = below} pre post h has e dn) =
      let ih = comes n o b below i h in
      let a : Out = copies P pre in
      let l : Out = loop (copy_all P) post (is_closed P o) in
      let t : Out = at_once (ended (kind_of o)) in
      let r : Out = copy_left P below in
      let parts : copy_all P o ≡ seq (at_once (begun (kind_of o))) (seq (seq a l) t) =
      copy_parts o (pre ++ post) ih.0 has e ∙ ap (λ z. seq (at_once (begun (kind_of o))) (seq z t)) (loop-append (copy_all P) pre post (is_closed P o)) in
      ih.1
      ∙ (ap (λ z. after b (seq z r)) parts
      ∙ (ap (after b) (regroup a l t r (begun (kind_of o)) dn)
      ∙ (after-after b (begun (kind_of o) ++ a.acts) (seq (seq l t) r)
      ∙ ap (λ z. after (b ++ (begun (kind_of o) ++ a.acts)) (seq (seq (loop (copy_all P) z (is_closed P o)) t) r)) (sym (next_is o pre post e)))))

  -- a copy whose children are all copied
  pub closes : (n : Node) (pre : List Node) → In n P.nodes → has_inside (kind_of n) ≡ true → children P n ≡ pre → (copies P pre).done ≡ true → is_closed P n ≡ true
      → copy_all P n ≡ at_once ((begun (kind_of n) ++ (copies P pre).acts) ++ ended (kind_of n))
  closes n pre i has e dn c =
      copy_parts n pre i has e
      ∙ (ap (λ z. seq (at_once (begun (kind_of n))) (seq (loop (copy_all P) pre z) (at_once (ended (kind_of n))))) c
      ∙ (ap (seq (at_once (begun (kind_of n)))) (seq-done (copies P pre) (at_once (ended (kind_of n))) dn)
      ∙ ap at_once (sym (append_assoc (begun (kind_of n)) (copies P pre).acts (ended (kind_of n))))))

pub copy_goes_on : CopyGoesOn
copy_goes_on P w n i before fs h = let e = goes_on P w n before fs i h in (ap (λ (z : Out). z.acts) e, ap (λ (z : Out). z.done) e)
