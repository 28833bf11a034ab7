-- Behind each number of actions there is a point.
use Rattle.std.proofs.Common.{◌≡◌, Bool, true, false, List, [], ◌∷◌, ◌++◌, length, refl, sym, ◌∙◌, ap, subst, inl, inr, ◌⊎◌, append_assoc}
use Rattle.std.proofs.lemmas.List.{append-nil}
use Rattle.gcx_model.specs.Tree.{Node, serial_of, Tree, is_closed}
use Rattle.gcx_model.specs.Paths.{matches}
use Rattle.gcx_model.specs.Core.{ItemTree, Write, Copy, For, If, SignOff, BodyTree, Nil, Then}
use Rattle.gcx_model.specs.declared.truth.Truth.{Truth}
use Rattle.gcx_model.specs.declared.truth.Truth.TheVariants.{True, False, Unknown}
use Rattle.gcx_model.specs.Truth.{Env, bind_var, truth}
use Rattle.gcx_model.specs.Run.{Action, Wrote, Offed, Out, loop, seq, seq_if, choose, run_item, run}
use Rattle.placed_laws.proofs.PointForms.{Frame, Rest, LoopRound, CopyPart, IsPoint, Begins, PastItem, InLoop, InYes, InNo, InCopy, body_at}

-- a list cut in two, of a list that comes in two pieces: the cut lies in the one or in the other
pub data Cut {X : Type 0} (xs ys before rest : List X) : Type 0 where
  Left : (r : List X) → xs ≡ before ++ r → Cut xs ys before rest
  Right : (b : List X) → before ≡ xs ++ b → ys ≡ b ++ rest → Cut xs ys before rest

cut : {X : Type 0} (xs ys before rest : List X) → xs ++ ys ≡ before ++ rest → Cut xs ys before rest
cut [] ys before rest e = Right before refl e
cut (x ∷ xs) ys [] rest e = Left (x ∷ xs) refl
cut {X} (x ∷ xs) ys (b ∷ before) rest e = go (cut xs ys before rest tails)
  where
    heads : x ≡ b
    heads = cc

    tails : xs ++ ys ≡ before ++ rest
    tails = cc

    go : Cut xs ys before rest → Cut (x ∷ xs) ys (b ∷ before) rest
    go (Left r f) = Left r (ap (λ z. x ∷ z) f ∙ ap (λ (z : X). z ∷ before ++ r) heads)
    go (Right c f g) = Right c (ap (λ z. b ∷ z) f ∙ ap (λ (z : X). z ∷ xs ++ c) (sym heads)) g

module _ (P : Tree) where
  abbrev pub Point : BodyTree → Env → List Action → Type 0
  Point d env before = (fs : List Frame) × IsPoint P d env before fs

  -- where the cut lies in an output that goes on with another
  pub data Cut_seq (a b : Out) (before rest : List Action) : Type 0 where
    First : (r : List Action) → a.acts ≡ before ++ r → Cut_seq a b before rest
    Second : a.done ≡ true → (c : List Action) → before ≡ a.acts ++ c → b.acts ≡ c ++ rest → Cut_seq a b before rest

  pub cut_seq : (a b : Out) (before rest : List Action) → (seq a b).acts ≡ before ++ rest → Cut_seq a b before rest
  cut_seq a b before rest e = go a.done refl e
    where
      from : Cut a.acts b.acts before rest → a.done ≡ true → Cut_seq a b before rest
      from (Left r f) d = First r f
      from (Right c f g) d = Second d c f g

      go : (c : Bool) → a.done ≡ c → (seq_if c a b).acts ≡ before ++ rest → Cut_seq a b before rest
      go true d f = from (cut a.acts b.acts before rest f) d
      go false d f = First rest f

  -- in a loop: before its first action, or within a round
  pub data Cut_loop (f : Node → Out) (ns : List Node) (before : List Action) : Type 0 where
    Outside : before ≡ [] → Cut_loop f ns before
    Within : (pre : List Node) (n : Node) (post : List Node) (c rest : List Action) → ns ≡ pre ++ n ∷ post → (loop f pre true).done ≡ true → before ≡ (loop f pre true).acts ++ c → (f n).acts ≡ c ++ rest → Cut_loop f ns before

  pub none_left : {X : Type 0} (xs ys : List X) → [] ≡ xs ++ ys → xs ≡ []
  none_left [] ys e = refl
  none_left (x ∷ xs) ys e = absurd (cc)

  seq_done_acts : (a b : Out) → a.done ≡ true → ((seq a b).done ≡ b.done) × ((seq a b).acts ≡ a.acts ++ b.acts)
  seq_done_acts a b e = (rw e refl, rw e refl)

  pub cut_loop : (f : Node → Out) (ns : List Node) (over : Bool) (before rest : List Action) → (loop f ns over).acts ≡ before ++ rest → Cut_loop f ns before
  cut_loop f [] over before rest e = Outside (none_left before rest e)
  cut_loop f (n ∷ ns) over before rest e = go (λ c h. cut_loop f ns over c rest h) (cut_seq (f n) (loop f ns over) before rest e)
    where
      more : (f n).done ≡ true → (c : List Action) → before ≡ (f n).acts ++ c → Cut_loop f ns c → Cut_loop f (n ∷ ns) before
      more d c g (Outside h) = Within [] n ns (f n).acts [] refl refl (g ∙ (ap (λ z. (f n).acts ++ z) h ∙ append-nil (f n).acts)) (sym (append-nil (f n).acts))
      more d c g (Within pre k post c' rest' h dn h' h'') =
          let s = seq_done_acts (f n) (loop f pre true) d in
          Within (n ∷ pre) k post c' rest' (ap (λ z. n ∷ z) h) (s.0 ∙ dn)
          (g ∙ (ap (λ z. (f n).acts ++ z) h' ∙ (sym (append_assoc (f n).acts (loop f pre true).acts c') ∙ ap (λ z. z ++ c') (sym s.1)))) h''

      go : ((c : List Action) → (loop f ns over).acts ≡ c ++ rest → Cut_loop f ns c) → Cut_seq (f n) (loop f ns over) before rest → Cut_loop f (n ∷ ns) before
      go ih (First r g) = Within [] n ns before r refl refl refl g
      go ih (Second d c g h) = more d c g (ih c h)

  -- nothing taken, or all of it
  pub one_action : (xs : List Action) (x : Action) (r : List Action) → x ∷ [] ≡ xs ++ r → (xs ≡ []) ⊎ (xs ≡ x ∷ [])
  one_action [] x r e = inl refl
  one_action (y ∷ ys) x r e =
      let h : x ≡ y = cc in
      let t : [] ≡ ys ++ r = cc in
      inr (ap (λ (z : Action). z ∷ ys) (sym h) ∙ ap (λ z. x ∷ z) (none_left ys r t))

  begins : (d : BodyTree) (env : Env) (before : List Action) → before ≡ [] → Point d env before
  begins d env before e = (Rest d env ∷ [], subst (λ (z : List Action). IsPoint P d env z (Rest d env ∷ [])) (sym e) Begins)

  behind_item : (i : ItemTree) (d : BodyTree) (env : Env) (before c : List Action) → (run_item i env P).done ≡ true → before ≡ (run_item i env P).acts ++ c → Point d env c → Point (Then i d) env before
  behind_item i d env before c dn e p = (p.0, subst (λ (z : List Action). IsPoint P (Then i d) env z p.0) (sym e) (PastItem dn p.1))

  behind_one : (i : ItemTree) (d : BodyTree) (env : Env) (before : List Action) (x : Action) (r : List Action) → (run_item i env P).done ≡ true → (run_item i env P).acts ≡ x ∷ [] → x ∷ [] ≡ before ++ r → Point (Then i d) env before
  behind_one i d env before x r dn e f = elim (one_action before x r f) [
    | inl g ↦ begins (Then i d) env before g
    | inr g ↦ behind_item i d env before [] dn (g ∙ (sym e ∙ sym (append-nil _))) (begins d env [] refl)
  ]

  mutual
    in_item : (i : ItemTree) (d : BodyTree) (env : Env) (before r : List Action) → (run_item i env P).acts ≡ before ++ r → Point (Then i d) env before
    in_item (Write b) d env before r e = behind_one (Write b) d env before (Wrote b) r refl refl e
    in_item (SignOff o) d env before r e = behind_one (SignOff o) d env before (Offed o (serial_of (env o.base))) r refl refl e
    in_item (Copy x) d env before r e = (CopyPart x env (length before) ∷ Rest d env ∷ [], InCopy before r e)
    in_item (If c a b) d env before r e = go (λ f. point a env before r f) (λ f. point b env before r f) (truth c env P) refl e
      where
        go : ((run a env P).acts ≡ before ++ r → Point a env before) → ((run b env P).acts ≡ before ++ r → Point b env before) → (k : Truth) → truth c env P ≡ k → (choose k (run a env P) (run b env P)).acts ≡ before ++ r → Point (Then (If c a b) d) env before
        go yes' no' True t f = let p = yes' f in (p.0 ++ Rest d env ∷ [], InYes t p.1)
        go yes' no' False t f = let p = no' f in (p.0 ++ Rest d env ∷ [], InNo t p.1)
        go yes' no' Unknown t f = begins (Then (If c a b) d) env before (none_left before r f)
    in_item (For x y s e) d env before r f = go (λ n c rest' k. point e (bind_var env x n) c rest' k) (cut_loop (body_at e x env P) (matches P (serial_of (env y)) (s ∷ [])) (is_closed P (env y)) before r f)
      where
        go : ((n : Node) (c rest' : List Action) → (run e (bind_var env x n) P).acts ≡ c ++ rest' → Point e (bind_var env x n) c) → Cut_loop (body_at e x env P) (matches P (serial_of (env y)) (s ∷ [])) before → Point (Then (For x y s e) d) env before
        go ih (Outside g) = begins (Then (For x y s e) d) env before g
        go ih (Within pre n post c rest' g dn h k) =
            let p = ih n c rest' k in (
              p.0 ++ LoopRound x y s e env n ∷ Rest d env ∷ [],
              subst (λ (z : List Action). IsPoint P (Then (For x y s e) d) env z (p.0 ++ LoopRound x y s e env n ∷ Rest d env ∷ [])) (sym h) (InLoop pre n post g dn p.1),
            )

    -- where the run's actions are cut in two, there is a point behind the first part
    pub point : (d : BodyTree) (env : Env) (before rest : List Action) → (run d env P).acts ≡ before ++ rest → Point d env before
    point Nil env before rest e = begins Nil env before (none_left before rest e)
    point (Then i d) env before rest e = go (λ r f. in_item i d env before r f) (λ c g. point d env c rest g) (cut_seq (run_item i env P) (run d env P) before rest e)
      where
        go : ((r : List Action) → (run_item i env P).acts ≡ before ++ r → Point (Then i d) env before) → ((c : List Action) → (run d env P).acts ≡ c ++ rest → Point d env c) → Cut_seq (run_item i env P) (run d env P) before rest → Point (Then i d) env before
        go within ih (First r f) = within r f
        go within ih (Second dn c f g) = behind_item i d env before c dn f (ih c g)
