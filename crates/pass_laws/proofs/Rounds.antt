-- Rounds in which nothing is done are passed.
use Rattle.std.proofs.Common.{◌≡◌, ℕ, ◌<◌, ◌≤◌, Bool, true, false, cond, List, [], ◌∷◌, ◌++◌, refl, sym, ◌∙◌, ap, subst, inl, inr, ◌⊎◌, arith, ltb}
use Rattle.std.proofs.lemmas.Bool.{ltb-true, lt-ltb, le-ltb, cases_lt, false≢true}
use Rattle.gcx_base.specs.declared.steps.Step.{Step}
use Rattle.gcx_model.specs.Tree.{Node, serial_of, Tree, is_closed}
use Rattle.gcx_model.specs.Paths.{matches}
use Rattle.gcx_model.specs.Members.{In}
use Rattle.gcx_model.specs.Nodes.{Rising}
use Rattle.gcx_model.specs.Core.{BodyTree, Nil, Then, PlanTree}
use Rattle.gcx_model.specs.Truth.{Env, bind_var}
use Rattle.gcx_model.specs.Run.{Action, Out, idle, seq, seq_if, run_item, run}
use Rattle.gcx_model.specs.Points.{Frame, Rest, LoopRound, later, PointAt}
use Rattle.move_laws.specs.Moves.{AtPoint}
use Rattle.tree_laws.proofs.Lists.{In-filter}
use Rattle.tree_laws.proofs.Matches.{Matches-rising}
use Rattle.tree_laws.proofs.Departures.{rising_filter}
use Rattle.placed_laws.proofs.PointForms.{later_is}
use Rattle.move_laws.proofs.Moving.{no_action, next_round, last_round}
use Rattle.tree_laws.proofs.Fed.{grown_from}
use Rattle.pass_laws.specs.Idle.{IsQuiet}
use Rattle.pass_laws.specs.Turns.{RoundsPass, LastRoundsPass}

-- ---- bodies

both_empty : {X : Type 0} (xs ys : List X) → xs ++ ys ≡ [] → (xs ≡ []) × (ys ≡ [])
both_empty [] ys e = (refl, e)
both_empty (x ∷ xs) ys e = absurd (cc)

same_out : (a : Out) → a.acts ≡ [] → a.done ≡ true → a ≡ idle true
same_out a e d = let f : List Action → Bool → Out = λ x y. record { acts = x; done = y } in ap (λ x. f x a.done) e ∙ ap (f []) d

quiet_if : (k : Bool) (a b : Out) → a.done ≡ k → seq_if k a b ≡ idle true → (a ≡ idle true) × (b ≡ idle true)
quiet_if true a b f e =
    let h = both_empty a.acts b.acts (ap (λ (z : Out). z.acts) e) in
    (same_out a h.0 f, same_out b h.1 (ap (λ (z : Out). z.done) e))
quiet_if false a b f e = absurd (false≢true (sym f ∙ ap (λ (z : Out). z.done) e))

-- where nothing is done in both, nothing is done in either
quiet_both : (a b : Out) → seq a b ≡ idle true → (a ≡ idle true) × (b ≡ idle true)
quiet_both a b e = quiet_if a.done a b refl e

-- a body in which nothing is done is over
pass_body : (plan : PlanTree) (P : Tree) (k : ℕ) (d : BodyTree) (env : Env) (fs : List Frame) → IsQuiet d env P → AtPoint plan P k (Rest d env ∷ fs) → PointAt plan P k (Rest Nil env ∷ fs)
pass_body plan P k Nil env fs q st = st.point
pass_body plan P k (Then i d) env fs q st =
    let b = quiet_both (run_item i env P) (run d env P) q in
    pass_body plan P k d env fs b.1 (record { grown = st.grown; point = no_action plan P k i d env fs b.0 st })

-- ---- rounds

later_twice : (n j : Node) (xs : List Node) → serial_of n < serial_of j → later j xs ≡ later j (later n xs)
later_twice n j [] l = refl
later_twice n j (x ∷ xs) l = go (cases_lt (serial_of n) (serial_of x)) (later_twice n j xs l)
  where
    go : (serial_of n < serial_of x) ⊎ (serial_of x ≤ serial_of n) → later j xs ≡ later j (later n xs) → later j (x ∷ xs) ≡ later j (later n (x ∷ xs))
    go (inl a) h = rw (lt-ltb (serial_of n) (serial_of x) a) (ap (λ z. cond (ltb (serial_of j) (serial_of x)) (x ∷ z) z) h)
    go (inr a) h = rw (le-ltb (serial_of n) (serial_of x) a, le-ltb (serial_of j) (serial_of x) (omega arith)) h

-- behind the first of the later matches stand the others
later_tail : (n j : Node) (ms rest : List Node) → Rising ms → later n ms ≡ j ∷ rest → later j ms ≡ rest
later_tail n j ms rest r e =
    let up : Rising (j ∷ rest) = subst (λ (z : List Node). Rising z) e (rising_filter (λ m. ltb (serial_of n) (serial_of m)) ms r) in
    let i : In j (later n ms) = subst (λ (z : List Node). In j z) (sym e) (inl refl) in
    let l = ltb-true (serial_of n) (serial_of j) (In-filter (λ m. ltb (serial_of n) (serial_of m)) j ms i).1 in
    later_twice n j ms l ∙ (ap (later j) e ∙ later_is [] j rest up)

module _ (plan : PlanTree) (P : Tree) (k : ℕ) (x y : ℕ) (s : Step) (e : BodyTree) (env : Env) (fs : List Frame) where
  abbrev ms : List Node
  ms = matches P (serial_of (env y)) (s ∷ [])

  -- one round is passed
  pass_round : (v : Env) (n j : Node) (rest : List Node) → AtPoint plan P k (Rest Nil v ∷ LoopRound x y s e env n ∷ fs) → later n ms ≡ j ∷ rest → IsQuiet e (bind_var env x j) P
      → AtPoint plan P k (Rest Nil (bind_var env x j) ∷ LoopRound x y s e env j ∷ fs) × (later j ms ≡ rest)
  pass_round v n j rest st l q = (
    record { grown = st.grown; point = pass_body plan P k e (bind_var env x j) (LoopRound x y s e env j ∷ fs) q (record { grown = st.grown; point = next_round plan P k v x y s e env n fs j rest st l }) },
    later_tail n j ms rest (Matches-rising P (grown_from P st.grown) (serial_of (env y)) (s ∷ [])) l,
  )

  passed : (v : Env) (n : Node) (pre : List Node) (m : Node) (post : List Node) → AtPoint plan P k (Rest Nil v ∷ LoopRound x y s e env n ∷ fs) → later n ms ≡ pre ++ m ∷ post → ((j : Node) → In j pre → IsQuiet e (bind_var env x j) P)
      → PointAt plan P k (Rest e (bind_var env x m) ∷ LoopRound x y s e env m ∷ fs)
  passed v n [] m post st l q = next_round plan P k v x y s e env n fs m post st l
  passed v n (j ∷ pre) m post st l q =
      let p = pass_round v n j (pre ++ m ∷ post) st l (q j (inl refl)) in
      passed (bind_var env x j) j pre m post p.0 p.1 (λ i h. q i (inr h))

  all_passed : (v : Env) (n : Node) (rest : List Node) → AtPoint plan P k (Rest Nil v ∷ LoopRound x y s e env n ∷ fs) → later n ms ≡ rest → ((j : Node) → In j rest → IsQuiet e (bind_var env x j) P) → is_closed P (env y) ≡ true
      → PointAt plan P k fs
  all_passed v n [] st l q c = last_round plan P k v x y s e env n fs st l c
  all_passed v n (j ∷ rest) st l q c =
      let p = pass_round v n j rest st l (q j (inl refl)) in
      all_passed (bind_var env x j) j rest p.0 p.1 (λ i h. q i (inr h)) c

pub rounds_pass : RoundsPass
rounds_pass plan P k v x y s e env n fs pre m post st l q = passed plan P k x y s e env fs v n pre m post st l q

pub last_rounds_pass : LastRoundsPass
last_rounds_pass plan P k v x y s e env n fs st q c = all_passed plan P k x y s e env fs v n (later n (matches P (serial_of (env y)) (s ∷ []))) st refl q c
