-- Where a run isn't done, there is a point behind all its actions whose top frame waits.
use Rattle.std.proofs.Common.{◌≡◌, ℕ, Bool, true, false, List, [], ◌∷◌, ◌++◌, length, refl, sym, ◌∙◌, ap, subst, append_assoc}
use Rattle.std.specs.Prelude.{drop}
use Rattle.std.proofs.lemmas.List.{append-nil}
use Rattle.std.proofs.lemmas.Bool.{true≢false}
use Rattle.std.proofs.Math.Seq.{drop-append_seam}
use Rattle.gcx_base.specs.declared.steps.Step.{Step}
use Rattle.gcx_model.specs.Tree.{Node, serial_of, Tree, is_closed}
use Rattle.gcx_model.specs.Paths.{hits, matches}
use Rattle.gcx_model.specs.Core.{CondTree, ItemTree, Write, Copy, For, If, SignOff, BodyTree, Nil, Then}
use Rattle.gcx_model.specs.declared.truth.Truth.{Truth}
use Rattle.gcx_model.specs.declared.truth.Truth.TheVariants.{True, False, Unknown}
use Rattle.gcx_model.specs.Truth.{Env, bind_var, truth}
use Rattle.gcx_model.specs.Run.{Action, Out, idle, seq, loop, copy, choose, run_item, run}
use Rattle.tree_laws.proofs.Matches.{Grown, Rising, Rising-filter}
use Rattle.placed_laws.proofs.AllTaken.{seq_both}
use Rattle.placed_laws.proofs.PointForms.{Frame, Rest, LoopRound, CopyPart, IsPoint, Begins, PastItem, InLoop, InYes, InNo, InCopy, body_at, later, later_is, behind, seq-done}
use Rattle.placed_laws.proofs.Prefix.{seq_wait}

-- the top frame waits: for a condition, for the first match of a loop, for a later one, or within a copy
pub data IsBlocked (P : Tree) (fs : List Frame) : Type 0 where
  AtBranch : (c : CondTree) (a b d : BodyTree) (env : Env) (below : List Frame) → fs ≡ Rest (Then (If c a b) d) env ∷ below → truth c env P ≡ Unknown → IsBlocked P fs
  AtLoop : (x y : ℕ) (s : Step) (e d : BodyTree) (env : Env) (below : List Frame) → fs ≡ Rest (Then (For x y s e) d) env ∷ below → matches P (serial_of (env y)) (s ∷ []) ≡ [] → is_closed P (env y) ≡ false → IsBlocked P fs
  AtRound : (v : Env) (x y : ℕ) (s : Step) (e : BodyTree) (env : Env) (n : Node) (below : List Frame) → fs ≡ Rest Nil v ∷ LoopRound x y s e env n ∷ below → later n (matches P (serial_of (env y)) (s ∷ [])) ≡ [] → is_closed P (env y) ≡ false → IsBlocked P fs
  AtCopy : (x : ℕ) (env : Env) (made : ℕ) (below : List Frame) → fs ≡ CopyPart x env made ∷ below → behind made (copy (length P.nodes) P (env x)) ≡ idle false → IsBlocked P fs

under : (P : Tree) (fs gs : List Frame) → IsBlocked P fs → IsBlocked P (fs ++ gs)
under P fs gs (AtBranch c a b d env below e t) = AtBranch c a b d env (below ++ gs) (ap (λ z. z ++ gs) e) t
under P fs gs (AtLoop x y s e d env below f m o) = AtLoop x y s e d env (below ++ gs) (ap (λ z. z ++ gs) f) m o
under P fs gs (AtRound v x y s e env n below f m o) = AtRound v x y s e env n (below ++ gs) (ap (λ z. z ++ gs) f) m o
under P fs gs (AtCopy x env made below e o) = AtCopy x env made (below ++ gs) (ap (λ z. z ++ gs) e) o

acts_both : (a b : Out) → a.done ≡ true → (seq a b).acts ≡ a.acts ++ b.acts
acts_both a b e = ap (λ (z : Out). z.acts) (seq-done a b e)

done_both : (a b : Out) → a.done ≡ true → (seq a b).done ≡ b.done
done_both a b e = ap (λ (z : Out). z.done) (seq-done a b e)

-- where a loop stays: in a round, with no node, or behind the last one
data StaysAt (f : Node → Out) (ns : List Node) (over : Bool) (acts : List Action) : Type 0 where
  InRound : (pre : List Node) (n : Node) (post : List Node) → ns ≡ pre ++ n ∷ post → (loop f pre true).done ≡ true → (f n).done ≡ false → acts ≡ (loop f pre true).acts ++ (f n).acts → StaysAt f ns over acts
  WithNone : ns ≡ [] → over ≡ false → acts ≡ [] → StaysAt f ns over acts
  BehindLast : (pre : List Node) (n : Node) → ns ≡ pre ++ n ∷ [] → (loop f pre true).done ≡ true → (f n).done ≡ true → over ≡ false → acts ≡ (loop f pre true).acts ++ (f n).acts → StaysAt f ns over acts

stays_at : (f : Node → Out) (ns : List Node) (over : Bool) → (loop f ns over).done ≡ false → StaysAt f ns over (loop f ns over).acts
stays_at f [] over h = WithNone refl h refl
stays_at f (n ∷ ns) over h = go (f n).done refl (λ d. stays_at f ns over d)
  where
    rest : Out
    rest = loop f ns over

    more : (f n).done ≡ true → StaysAt f ns over (loop f ns over).acts → StaysAt f (n ∷ ns) over (seq (f n) (loop f ns over)).acts
    more d (InRound pre k post e dn w a) =
        InRound (n ∷ pre) k post (ap (λ z. n ∷ z) e) (done_both (f n) (loop f pre true) d ∙ dn) w
        (acts_both (f n) rest d ∙ (ap (λ z. (f n).acts ++ z) a ∙ (sym (append_assoc (f n).acts (loop f pre true).acts (f k).acts) ∙ ap (λ z. z ++ (f k).acts) (sym (acts_both (f n) (loop f pre true) d)))))
    more d (WithNone e o a) = BehindLast [] n (ap (λ z. n ∷ z) e) refl d o (acts_both (f n) rest d ∙ (ap (λ z. (f n).acts ++ z) a ∙ append-nil (f n).acts))
    more d (BehindLast pre k e dn l o a) =
        BehindLast (n ∷ pre) k (ap (λ z. n ∷ z) e) (done_both (f n) (loop f pre true) d ∙ dn) l o
        (acts_both (f n) rest d ∙ (ap (λ z. (f n).acts ++ z) a ∙ (sym (append_assoc (f n).acts (loop f pre true).acts (f k).acts) ∙ ap (λ z. z ++ (f k).acts) (sym (acts_both (f n) (loop f pre true) d)))))

    go : (b : Bool) → (f n).done ≡ b → ((loop f ns over).done ≡ false → StaysAt f ns over (loop f ns over).acts) → StaysAt f (n ∷ ns) over (seq (f n) (loop f ns over)).acts
    go true d ih = more d (ih (sym (done_both (f n) rest d) ∙ h))
    go false d ih = InRound [] n ns refl refl d (ap (λ (z : Out). z.acts) (seq_wait (f n) rest d))

module _ (P : Tree) (w : Grown P) where
  -- where a run is done, an empty rest is a point behind all its actions
  at_end : (d : BodyTree) (env : Env) → (run d env P).done ≡ true → IsPoint P d env (run d env P).acts (Rest Nil env ∷ [])
  at_end Nil env h = Begins
  at_end (Then i d) env h =
      let q = seq_both (run_item i env P) (run d env P) h in
      subst (λ (z : List Action). IsPoint P (Then i d) env z (Rest Nil env ∷ [])) (sym (acts_both (run_item i env P) (run d env P) q.0)) (PastItem q.0 (at_end d env q.1))

  abbrev pub Blocked : BodyTree → Env → List Action → Type 0
  Blocked d env acts = (fs : List Frame) × IsPoint P d env acts fs × IsBlocked P fs

  with_acts : (d : BodyTree) (env : Env) (a b : List Action) → a ≡ b → Blocked d env a → Blocked d env b
  with_acts d env a b e r = (r.0, subst (λ (z : List Action). IsPoint P d env z r.0) e r.1, r.2)

  behind_all : (o : Out) → o.done ≡ false → behind (length o.acts) o ≡ idle false
  behind_all o e = rw e (ap (λ z. record { acts = z; done = false }) (ap (drop (length o.acts)) (sym (append-nil o.acts)) ∙ drop-append_seam o.acts []))

  mutual
    blocked_item : (i : ItemTree) (d : BodyTree) (env : Env) → (run_item i env P).done ≡ false → Blocked (Then i d) env (run_item i env P).acts
    blocked_item (Write b) d env h = absurd (true≢false h)
    blocked_item (SignOff o) d env h = absurd (true≢false h)
    blocked_item (Copy x) d env h =
        let o : Out = copy (length P.nodes) P (env x) in
        (CopyPart x env (length o.acts) ∷ Rest d env ∷ [], InCopy o.acts [] (sym (append-nil o.acts)), AtCopy x env (length o.acts) (Rest d env ∷ []) refl (behind_all o h))
    blocked_item (If c a b) d env h = go (truth c env P) refl h (λ k. blocked a env k) (λ k. blocked b env k)
      where
        go : (v : Truth) → truth c env P ≡ v → (choose v (run a env P) (run b env P)).done ≡ false → ((run a env P).done ≡ false → Blocked a env (run a env P).acts) → ((run b env P).done ≡ false → Blocked b env (run b env P).acts)
            → Blocked (Then (If c a b) d) env (choose v (run a env P) (run b env P)).acts
        go True t h l r = let q = l h in (q.0 ++ Rest d env ∷ [], InYes t q.1, under P q.0 (Rest d env ∷ []) q.2)
        go False t h l r = let q = r h in (q.0 ++ Rest d env ∷ [], InNo t q.1, under P q.0 (Rest d env ∷ []) q.2)
        go Unknown t h l r = (Rest (Then (If c a b) d) env ∷ [], Begins, AtBranch c a b d env [] refl t)
    blocked_item (For x y s e) d env h = go (stays_at f ms over h) (λ n k. blocked e (bind_var env x n) k)
      where
        f : Node → Out
        f = body_at e x env P

        ms : List Node
        ms = matches P (serial_of (env y)) (s ∷ [])

        over : Bool
        over = is_closed P (env y)

        go : StaysAt f ms over (loop f ms over).acts → ((n : Node) → (run e (bind_var env x n) P).done ≡ false → Blocked e (bind_var env x n) (run e (bind_var env x n) P).acts) → Blocked (Then (For x y s e) d) env (loop f ms over).acts
        go (InRound pre n post m dn k a) ih =
            let q = ih n k in
            with_acts (Then (For x y s e) d) env ((loop f pre true).acts ++ (f n).acts) (loop f ms over).acts (sym a)
            (q.0 ++ LoopRound x y s e env n ∷ Rest d env ∷ [], InLoop pre n post m dn q.1, under P q.0 (LoopRound x y s e env n ∷ Rest d env ∷ []) q.2)
        go (WithNone m o a) ih = with_acts (Then (For x y s e) d) env [] (loop f ms over).acts (sym a) (Rest (Then (For x y s e) d) env ∷ [], Begins, AtLoop x y s e d env [] refl m o)
        go (BehindLast pre n m dn l o a) ih =
            let t : later n ms ≡ [] = ap (later n) m ∙ later_is pre n [] (subst (λ (z : List Node). Rising z) m (Rising-filter 0 (hits (serial_of (env y)) (s ∷ [])) P.nodes w.numbered)) in
            with_acts (Then (For x y s e) d) env ((loop f pre true).acts ++ (f n).acts) (loop f ms over).acts (sym a) (
              Rest Nil (bind_var env x n) ∷ LoopRound x y s e env n ∷ Rest d env ∷ [],
              InLoop pre n [] m dn (at_end e (bind_var env x n) l),
              AtRound (bind_var env x n) x y s e env n (Rest d env ∷ []) refl t o,
            )

    -- behind all actions of a run that isn't done
    pub blocked : (d : BodyTree) (env : Env) → (run d env P).done ≡ false → Blocked d env (run d env P).acts
    blocked Nil env h = absurd (true≢false h)
    blocked (Then i d) env h = go (run_item i env P).done refl (λ k. blocked_item i d env k) (λ k. blocked d env k)
      where
        go : (b : Bool) → (run_item i env P).done ≡ b → ((run_item i env P).done ≡ false → Blocked (Then i d) env (run_item i env P).acts) → ((run d env P).done ≡ false → Blocked d env (run d env P).acts) → Blocked (Then i d) env (run (Then i d) env P).acts
        go true e l r =
            let q = r (sym (done_both (run_item i env P) (run d env P) e) ∙ h) in
            with_acts (Then i d) env ((run_item i env P).acts ++ (run d env P).acts) (run (Then i d) env P).acts (sym (acts_both (run_item i env P) (run d env P) e)) (q.0, PastItem e q.1, q.2)
        go false e l r = with_acts (Then i d) env (run_item i env P).acts (run (Then i d) env P).acts (ap (λ (z : Out). z.acts) (sym (seq_wait (run_item i env P) (run d env P) e))) (l e)
