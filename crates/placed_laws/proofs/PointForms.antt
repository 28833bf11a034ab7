-- The point behind some actions, as a stack of frames, and what is still to come from there.
use Rattle.std.proofs.Common.{◌≡◌, ◌<◌, Bool, true, false, List, [], ◌∷◌, ◌++◌, length, refl, sym, ◌∙◌, ap, subst, inl, inr, arith, append_assoc}
use Rattle.std.specs.List.{filter}
use Rattle.std.proofs.lemmas.List.{append-nil}
use Rattle.std.proofs.lemmas.Bool.{true≢false, lt-ltb, le-ltb}
use Rattle.std.proofs.Math.Seq.{drop-append_seam}
pub use Rattle.gcx_model.specs.Points.{Frame, Rest, LoopRound, CopyPart, later, body_at, behind, to_come, IsPoint, Begins, PastItem, InLoop, InYes, InNo, InCopy}
use Rattle.gcx_model.specs.Tree.{Node, serial_of, Tree, TreeToken, grow, is_closed}
use Rattle.gcx_model.specs.Paths.{hits, matches}
use Rattle.gcx_model.specs.Core.{Copy, For, BodyTree, Then}
use Rattle.gcx_model.specs.Run.{copy, Action, Out, idle, seq, seq_if, loop, choose, run_item, run}
use Rattle.gcx_model.specs.declared.truth.Truth.{Truth}
use Rattle.gcx_model.specs.declared.truth.Truth.TheVariants.{True, False, Unknown}
use Rattle.gcx_model.specs.Truth.{Env, bind_var}
use Rattle.tree_laws.proofs.Lists.{In, In-left, In-right}
use Rattle.tree_laws.proofs.Matches.{Grown, Rising, Rising-filter, added, Matches-grow, Matches-in}
use Rattle.placed_laws.proofs.Prefix.{Before, Same, More, Bound, Bound-bind, loop_mono, item_grows, run_grows, truth_firmer, Firmer, Kept, Learnt}

abbrev pub after : List Action → Out → Out
after before o = record { acts = before ++ o.acts; done = o.done }

pub after-after : (a b : List Action) (o : Out) → after a (after b o) ≡ after (a ++ b) o
after-after a b o = rw (append_assoc a b o.acts) refl

pub seq-idle : (a : Out) → seq a (idle true) ≡ a
seq-idle a = go a a.done refl
  where
    go : (a : Out) (d : Bool) → a.done ≡ d → seq_if d a (idle true) ≡ a
    go a true e = rw (append-nil a.acts, sym e) refl
    go a false e = refl

pub seq-assoc : (a b c : Out) → seq (seq a b) c ≡ seq a (seq b c)
seq-assoc a b c = go a b c a.done b.done refl refl
  where
    go : (a b c : Out) (d e : Bool) → a.done ≡ d → b.done ≡ e → seq (seq_if d a b) c ≡ seq_if d a (seq_if e b c)
    go a b c true true f g = rw g (rw (append_assoc a.acts b.acts c.acts) refl)
    go a b c true false f g = rw g refl
    go a b c false e f g = rw f refl

pub seq-done : (a b : Out) → a.done ≡ true → seq a b ≡ after a.acts b
seq-done a b e = rw e refl

pub seq-after : (xs : List Action) (a b : Out) → seq (after xs a) b ≡ after xs (seq a b)
seq-after xs a b = go a.done
  where
    go : (d : Bool) → seq_if d (after xs a) b ≡ after xs (seq_if d a b)
    go true = rw (append_assoc xs a.acts b.acts) refl
    go false = refl

pub to_come-append : (P : Tree) (fs gs : List Frame) → to_come P (fs ++ gs) ≡ seq (to_come P fs) (to_come P gs)
to_come-append P [] gs = refl
to_come-append P (Rest d env ∷ fs) gs = ap (seq (run d env P)) (to_come-append P fs gs) ∙ sym (seq-assoc (run d env P) (to_come P fs) (to_come P gs))
to_come-append P (LoopRound x y s e env n ∷ fs) gs =
    let a : Out = loop (body_at e x env P) (later n (matches P (serial_of (env y)) (s ∷ []))) (is_closed P (env y)) in
    ap (seq a) (to_come-append P fs gs) ∙ sym (seq-assoc a (to_come P fs) (to_come P gs))
to_come-append P (CopyPart x env k ∷ fs) gs = let a : Out = behind k (copy (length P.nodes) P (env x)) in ap (seq a) (to_come-append P fs gs) ∙ sym (seq-assoc a (to_come P fs) (to_come P gs))

split : (o : Out) (xs ys : List Action) → o.acts ≡ xs ++ ys → o ≡ after xs (behind (length xs) o)
split o xs ys e = rw (e, drop-append_seam xs ys) (rw (sym e) refl)

pub loop-append : (f : Node → Out) (pre ns : List Node) (over : Bool) → loop f (pre ++ ns) over ≡ seq (loop f pre true) (loop f ns over)
loop-append f [] ns over = refl
loop-append f (n ∷ pre) ns over = ap (seq (f n)) (loop-append f pre ns over) ∙ sym (seq-assoc (f n) (loop f pre true) (loop f ns over))

pub later_is : (pre : List Node) (n : Node) (post : List Node) → Rising (pre ++ n ∷ post) → later n (pre ++ n ∷ post) ≡ post
later_is [] n post r = rw (le-ltb (serial_of n) (serial_of n) (omega arith)) (all_later post r.0)
  where
    all_later : (xs : List Node) → ((y : Node) → In y xs → serial_of n < serial_of y) → later n xs ≡ xs
    all_later [] h = refl
    all_later (x ∷ xs) h = rw (lt-ltb (serial_of n) (serial_of x) (h x (inl refl))) (ap (λ z. x ∷ z) (all_later xs (λ y i. h y (inr i))))
later_is (x ∷ pre) n post r = let l = r.0 n (In-right n pre (n ∷ post) (inl refl)) in rw (le-ltb (serial_of n) (serial_of x) (omega arith)) (later_is pre n post r.1)

-- the actions so far, and then those that are still to come, are the run
pub resume : (P : Tree) → Grown P → (d : BodyTree) (env : Env) (before : List Action) (fs : List Frame) → IsPoint P d env before fs → run d env P ≡ after before (to_come P fs)
resume P w d env before fs Begins = sym (seq-idle (run d env P))
resume P w d env before fs (PastItem {i = i} {d = rest} {before = before'} e h) =
    seq-done (run_item i env P) (run rest env P) e ∙ (ap (after (run_item i env P).acts) (resume P w rest env before' fs h) ∙ after-after (run_item i env P).acts before' (to_come P fs))
resume P w d env before fs (InYes {c = c} {a = a} {b = b} {d = rest} {fs = fs'} e h) =
    ap (λ k. seq (choose k (run a env P) (run b env P)) (run rest env P)) e
    ∙ (ap (λ z. seq z (run rest env P)) (resume P w a env before fs' h)
    ∙ (seq-after before (to_come P fs') (run rest env P)
    ∙ ap (after before) (ap (seq (to_come P fs')) (sym (seq-idle (run rest env P))) ∙ sym (to_come-append P fs' (Rest rest env ∷ [])))))
resume P w d env before fs (InNo {c = c} {a = a} {b = b} {d = rest} {fs = fs'} e h) =
    ap (λ k. seq (choose k (run a env P) (run b env P)) (run rest env P)) e
    ∙ (ap (λ z. seq z (run rest env P)) (resume P w b env before fs' h)
    ∙ (seq-after before (to_come P fs') (run rest env P)
    ∙ ap (after before) (ap (seq (to_come P fs')) (sym (seq-idle (run rest env P))) ∙ sym (to_come-append P fs' (Rest rest env ∷ [])))))
resume P w d env before fs (InLoop {x = x} {y = y} {s = s} {e = e} {d = rest} {before = before'} {fs = fs'} pre n post m dn h) =
    let f : Node → Out = body_at e x env P in
    let ms : List Node = matches P (serial_of (env y)) (s ∷ []) in
    let over : Bool = is_closed P (env y) in
    let gs : List Frame = LoopRound x y s e env n ∷ Rest rest env ∷ [] in
    let a : Out = loop f pre true in
    let lt : later n ms ≡ post = ap (later n) m ∙ later_is pre n post (subst (λ (z : List Node). Rising z) m (Rising-filter 0 (hits (serial_of (env y)) (s ∷ [])) P.nodes w.numbered)) in
    ap (λ z. seq (loop f z over) (run rest env P)) m
    ∙ (ap (λ z. seq z (run rest env P)) (loop-append f pre (n ∷ post) over)
    ∙ (seq-assoc a (seq (f n) (loop f post over)) (run rest env P)
    ∙ (seq-done a (seq (seq (f n) (loop f post over)) (run rest env P)) dn
    ∙ (ap (after a.acts) (seq-assoc (f n) (loop f post over) (run rest env P)
    ∙ (ap (λ z. seq z (seq (loop f post over) (run rest env P))) (resume P w e (bind_var env x n) before' fs' h)
    ∙ (seq-after before' (to_come P fs') (seq (loop f post over) (run rest env P))
    ∙ ap (after before') (ap (λ z. seq (to_come P fs') (seq (loop f z over) (run rest env P))) (sym lt)
    ∙ (ap (λ z. seq (to_come P fs') (seq (loop f (later n ms) over) z)) (sym (seq-idle (run rest env P)))
    ∙ sym (to_come-append P fs' gs))))))
    ∙ after-after a.acts before' (to_come P (fs' ++ gs))))))
resume P w d env before fs (InCopy {x = x} {d = rest} before' rest' e) =
    let o : Out = copy (length P.nodes) P (env x) in
    ap (λ z. seq z (run rest env P)) (split o before rest' e)
    ∙ (seq-after before (behind (length before) o) (run rest env P)
    ∙ ap (after before) (ap (seq (behind (length before) o)) (sym (seq-idle (run rest env P)))))

pub same_when_done : (a b : Out) → Before a b → a.done ≡ true → a ≡ b
same_when_done a b (Same e) d = e
same_when_done a b (More f r e) d = absurd (true≢false (sym d ∙ f))

pub firm_true : (a b k : Truth) → Firmer a b → a ≡ k → (k ≡ Unknown → ⊥) → b ≡ k
firm_true a b k (Kept e) f n = sym e ∙ f
firm_true a b k (Learnt e) f n = absurd (n (sym f ∙ e))

-- the point stays where it is while tokens come
pub stands_on : (t : TreeToken) (P : Tree) (w : Grown P) (d : BodyTree) (env : Env) (before : List Action) (fs : List Frame) → Bound t P w env → IsPoint P d env before fs → IsPoint (grow t P) d env before fs
stands_on t P w d env before fs b Begins = Begins
stands_on t P w d env before fs b (PastItem {i = i} {d = rest} {before = before'} e h) =
    let same = same_when_done (run_item i env P) (run_item i env (grow t P)) (item_grows t P w i env b) e in
    subst (λ (z : List Action). IsPoint (grow t P) (Then i rest) env (z ++ before') fs) (sym (ap (λ (o : Out). o.acts) same))
    (PastItem (ap (λ (o : Out). o.done) (sym same) ∙ e) (stands_on t P w rest env before' fs b h))
stands_on t P w d env before fs b (InYes {c = c} {a = a} {fs = fs'} e h) = InYes (firm_true _ _ True (truth_firmer t P w c env b) e (λ k. cc)) (stands_on t P w a env before fs' b h)
stands_on t P w d env before fs b (InNo {c = c} {b = other} {fs = fs'} e h) = InNo (firm_true _ _ False (truth_firmer t P w c env b) e (λ k. cc)) (stands_on t P w other env before fs' b h)
stands_on t P w d env before fs b (InLoop {x = x} {y = y} {s = s} {e = e} {d = rest} {before = before'} {fs = fs'} pre n post m dn h) =
    let f : Node → Out = body_at e x env P in
    let g : Node → Out = body_at e x env (grow t P) in
    let more : List Node = filter (hits (serial_of (env y)) (s ∷ [])) (added t P) in
    let in_P : (a : Node) → In a (pre ++ n ∷ post) → In a P.nodes = λ a i. (Matches-in P (serial_of (env y)) (s ∷ []) a (subst (λ (z : List Node). In a z) (sym m) i)).0 in
    let each : (a : Node) → In a pre → Before (f a) (g a) = λ a i. run_grows t P w e (bind_var env x a) (Bound-bind t P w env x a b (in_P a (In-left a pre (n ∷ post) i))) in
    let grown : Before (loop f pre true) (loop g (pre ++ []) true) = loop_mono f g pre [] true true each (λ q. (refl, refl)) in
    let same : loop f pre true ≡ loop g pre true = same_when_done _ _ grown dn ∙ ap (λ z. loop g z true) (append-nil pre) in
    subst (λ (z : List Action). IsPoint (grow t P) (Then (For x y s e) rest) env (z ++ before') (fs' ++ LoopRound x y s e env n ∷ Rest rest env ∷ [])) (sym (ap (λ (o : Out). o.acts) same))
    (InLoop pre n (post ++ more) (Matches-grow t P (serial_of (env y)) (s ∷ []) ∙ (ap (λ z. z ++ more) m ∙ append_assoc pre (n ∷ post) more))
    (ap (λ (o : Out). o.done) (sym same) ∙ dn)
    (stands_on t P w e (bind_var env x n) before' fs' (Bound-bind t P w env x n b (in_P n (In-right n pre (n ∷ post) (inl refl)))) h))
stands_on t P w d env before fs b (InCopy {x = x} {d = rest} before' rest' e) = go (item_grows t P w (Copy x) env b)
  where
    go : Before (run_item (Copy x) env P) (run_item (Copy x) env (grow t P)) → IsPoint (grow t P) (Then (Copy x) rest) env before (CopyPart x env (length before) ∷ Rest rest env ∷ [])
    go (Same f) = InCopy before rest' (ap (λ (o : Out). o.acts) (sym f) ∙ e)
    go (More f r g) = InCopy before (rest' ++ r) (g ∙ (ap (λ z. z ++ r) e ∙ append_assoc before rest' r))
