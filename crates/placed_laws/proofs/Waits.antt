-- A statement that is still to come isn't signed: once every node is closed, all that is to come is taken, and nothing is taken twice.
use Rattle.std.proofs.Common.{◌≡◌, ℕ, ◌<◌, true, List, [], ◌∷◌, ◌++◌, length, refl, sym, ◌∙◌, ap, subst, inl, inr, ◌⊎◌, arith, Some, None, Option, ltb}
use Rattle.std.proofs.lemmas.Bool.{eq-eqb}
use Rattle.gcx_model.specs.Tree.{Node, Root, Under, serial_of, Tree, TreeToken, End, grow, grow_all, is_closed}
use Rattle.gcx_base.specs.declared.steps.Step.{Step}
use Rattle.gcx_model.specs.Paths.{matches}
use Rattle.gcx_model.specs.Core.{ItemTree, For, SignOff, BodyTree, Nil, Then, OffTree}
use Rattle.gcx_model.specs.Truth.{Env, bind_var}
use Rattle.gcx_model.specs.Run.{env0, Action, Out, copy, loop, seq, run_item, run}
use Rattle.tree_laws.proofs.Lists.{In, Once, In-left, In-right, In-filter, In-kept}
use Rattle.tree_laws.proofs.Matches.{Grown, Grown-grow, Grown-all, Numbered-high, Matches-in, Matches-from, grow_nodes, added}
use Rattle.tree_laws.proofs.Chains.{one_desc}
use Rattle.placed_laws.proofs.Signs.{sig, sig-append}
use Rattle.placed_laws.proofs.Whole.{Bound-grow, run_is_done}
use Rattle.placed_laws.proofs.Needed.{Way}
use Rattle.placed_laws.proofs.AllTaken.{seq_both, seq_left, seq_right, loop_has, off_eq}
use Rattle.tree_laws.proofs.Equal.{off_refl}
use Rattle.placed_laws.proofs.Once.{way_once}
use Rattle.placed_laws.proofs.PointForms.{Frame, Rest, LoopRound, CopyPart, IsPoint, body_at, later, behind, to_come, to_come-append, resume, stands_on, after}
use Rattle.tree_laws.proofs.Fed.{nodes_stay}

-- the statement is an item of the body
abbrev pub Has : OffTree → BodyTree → Type 0
Has o Nil = ⊥
Has o (Then i d) = (i ≡ SignOff o) ⊎ Has o d

-- it is still to come in a frame, in which the variables are bound as v says
abbrev pub Waits : OffTree → Env → List Frame → Type 0
Waits o v [] = ⊥
Waits o v (Rest d env ∷ fs) = (Has o d × (env ≡ v)) ⊎ Waits o v fs
Waits o v (LoopRound x y s e env n ∷ fs) = Waits o v fs
Waits o v (CopyPart x env k ∷ fs) = Waits o v fs

pub Waits-over : (o : OffTree) (v : Env) (f : Frame) (fs : List Frame) → Waits o v fs → Waits o v (f ∷ fs)
Waits-over o v (Rest d env) fs h = inr h
Waits-over o v (LoopRound x y s e env n) fs h = h
Waits-over o v (CopyPart x env k) fs h = h

pub Waits-right : (o : OffTree) (v : Env) (fs gs : List Frame) → Waits o v gs → Waits o v (fs ++ gs)
Waits-right o v [] gs h = h
Waits-right o v (f ∷ fs) gs h = Waits-over o v f (fs ++ gs) (Waits-right o v fs gs h)

pub Waits-left : (o : OffTree) (v : Env) (fs gs : List Frame) → Waits o v fs → Waits o v (fs ++ gs)
Waits-left o v [] gs h = absurd h
Waits-left o v (Rest d env ∷ fs) gs (inl e) = inl e
Waits-left o v (Rest d env ∷ fs) gs (inr h) = inr (Waits-left o v fs gs h)
Waits-left o v (LoopRound x y s e env n ∷ fs) gs h = Waits-left o v fs gs h
Waits-left o v (CopyPart x env k ∷ fs) gs h = Waits-left o v fs gs h

-- tokens that close all that is open
abbrev ends : Node → List TreeToken
ends Root = End ∷ []
ends (Under p s k) = End ∷ ends p

ends_close : (n : Node) (P : Tree) → P.at ≡ Some n → (grow_all (ends n) P).at ≡ None
ends_close Root P e = rw e refl
ends_close (Under p s k) P e = ends_close p (grow End P) (rw e refl)

pub closing : (P : Tree) → (ts : List TreeToken) × ((grow_all ts P).at ≡ None)
closing P = go P.at refl
  where
    go : (at : Option Node) → P.at ≡ at → (ts : List TreeToken) × ((grow_all ts P).at ≡ None)
    go None e = ([], e)
    go (Some n) e = (ends n, ends_close n P e)

-- the point stays while tokens come
pub stands_all : (ts : List TreeToken) (P : Tree) (w : Grown P) (d : BodyTree) (env : Env) (before : List Action) (fs : List Frame) → ((x : ℕ) → serial_of (env x) < length P.nodes) → IsPoint P d env before fs → IsPoint (grow_all ts P) d env before fs
stands_all [] P w d env before fs b h = h
stands_all (t ∷ ts) P w d env before fs b h = stands_all ts (grow t P) (Grown-grow t P w) d env before fs (Bound-grow t P w env b t) (stands_on t P w d env before fs b h)

pub root_bound : (P : Tree) → Grown P → In Root P.nodes → (x : ℕ) → serial_of (env0 x) < length P.nodes
root_bound P w i x = let r = Numbered-high 0 P.nodes w.numbered Root i in omega arith

module _ (P : Tree) where
  has_signs : (o : OffTree) (d : BodyTree) (env : Env) → Has o d → (run d env P).done ≡ true → In (serial_of (env o.base)) (sig (off_eq o) (run d env P).acts)
  has_signs o Nil env h dn = absurd h
  has_signs o (Then i d) env (inl e) dn =
      let q = seq_both (run_item i env P) (run d env P) dn in
      seq_left (off_eq o) (serial_of (env o.base)) (run_item i env P) (run d env P) q.0
      (subst (λ (z : ItemTree). In (serial_of (env o.base)) (sig (off_eq o) (run_item z env P).acts)) (sym e) (rw (off_refl o) (inl refl)))
  has_signs o (Then i d) env (inr h) dn =
      let q = seq_both (run_item i env P) (run d env P) dn in
      seq_right (off_eq o) (serial_of (env o.base)) (run_item i env P) (run d env P) q.0 (has_signs o d env h q.1)

  -- where all that is to come is done, a statement that waits is signed in it
  waits_signs : (o : OffTree) (v : Env) (fs : List Frame) → Waits o v fs → (to_come P fs).done ≡ true → In (serial_of (v o.base)) (sig (off_eq o) (to_come P fs).acts)
  waits_signs o v [] h dn = absurd h
  waits_signs o v (Rest d env ∷ fs) (inl e) dn =
      let q = seq_both (run d env P) (to_come P fs) dn in
      seq_left (off_eq o) (serial_of (v o.base)) (run d env P) (to_come P fs) q.0
      (subst (λ (z : Env). In (serial_of (z o.base)) (sig (off_eq o) (run d env P).acts)) e.1 (has_signs o d env e.0 q.0))
  waits_signs o v (Rest d env ∷ fs) (inr h) dn =
      let q = seq_both (run d env P) (to_come P fs) dn in
      seq_right (off_eq o) (serial_of (v o.base)) (run d env P) (to_come P fs) q.0 (waits_signs o v fs h q.1)
  waits_signs o v (LoopRound x y s e env n ∷ fs) h dn =
      let a : Out = loop (body_at e x env P) (later n (matches P (serial_of (env y)) (s ∷ []))) (is_closed P (env y)) in
      let q = seq_both a (to_come P fs) dn in
      seq_right (off_eq o) (serial_of (v o.base)) a (to_come P fs) q.0 (waits_signs o v fs h q.1)
  waits_signs o v (CopyPart x env k ∷ fs) h dn =
      let a : Out = behind k (copy (length P.nodes) P (env x)) in
      let q = seq_both a (to_come P fs) dn in
      seq_right (off_eq o) (serial_of (v o.base)) a (to_come P fs) q.0 (waits_signs o v fs h q.1)

module _ (P : Tree) (w : Grown P) (root : In Root P.nodes) (d : BodyTree) (o : OffTree) (path : List Step) (way : Way (off_eq o) o.base 0 d path) (one : one_desc path ≡ true) (before : List Action) (fs : List Frame) (st : IsPoint P d env0 before fs) where
  -- what is to come in a tree in which all is closed
  closed_later : (m : ℕ) → ((ts : List TreeToken) → (to_come (grow_all ts P) fs).done ≡ true → In m (sig (off_eq o) (to_come (grow_all ts P) fs).acts)) → In m (sig (off_eq o) before) → ⊥
  closed_later m h i =
      let c = closing P in
      let Q : Tree = grow_all c.0 P in
      let v : Grown Q = Grown-all c.0 P w in
      let root' : In Root Q.nodes = nodes_stay c.0 P Root root in
      let st' = stands_all c.0 P w d env0 before fs (root_bound P w root) st in
      let r : run d env0 Q ≡ after before (to_come Q fs) = resume Q v d env0 before fs st' in
      let dn : (to_come Q fs).done ≡ true = sym (ap (λ (z : Out). z.done) r) ∙ run_is_done Q v c.1 d env0 (λ x. root') in
      let once : Once (sig (off_eq o) (run d env0 Q).acts) = way_once Q v (off_eq o) o.base 0 d path way env0 root' one in
      let once' : Once (sig (off_eq o) before ++ sig (off_eq o) (to_come Q fs).acts) = subst (λ (z : List ℕ). Once z) (ap (λ (z : Out). sig (off_eq o) z.acts) r ∙ sig-append (off_eq o) before (to_come Q fs).acts) once in
      twice (sig (off_eq o) before) (sig (off_eq o) (to_come Q fs).acts) once' m i (h c.0 dn)
    where
      twice : (xs ys : List ℕ) → Once (xs ++ ys) → (z : ℕ) → In z xs → In z ys → ⊥
      twice [] ys o z i j = i
      twice (x ∷ xs) ys o z (inl e) j = o.0 (In-right x xs ys (subst (λ (a : ℕ). In a ys) (sym e) j))
      twice (x ∷ xs) ys o z (inr i) j = twice xs ys o.1 z i j

  -- while the statement waits, its base's node isn't signed for it
  pub waits_unsigned : (v : Env) → Waits o v fs → In (serial_of (v o.base)) (sig (off_eq o) before) → ⊥
  waits_unsigned v h = closed_later (serial_of (v o.base)) (λ ts dn. waits_signs (grow_all ts P) o v fs h dn)

  -- nor are the later matches of a loop in whose body it stands
  pub later_unsigned : (top rest : List Frame) (x y : ℕ) (s : Step) (e : BodyTree) (env : Env) (n m : Node) → fs ≡ top ++ LoopRound x y s e env n ∷ rest → Has o e → o.base ≡ x → In m (later n (matches P (serial_of (env y)) (s ∷ []))) → In (serial_of m) (sig (off_eq o) before) → ⊥
  later_unsigned top rest x y s e env n m are has b i = closed_later (serial_of m) (λ ts dn. in_tree ts (subst (λ (z : List Frame). (to_come (grow_all ts P) z).done ≡ true → In (serial_of m) (sig (off_eq o) (to_come (grow_all ts P) z).acts)) (sym are) (λ dn. inner ts dn)) dn)
    where
      in_tree : (ts : List TreeToken) → ((to_come (grow_all ts P) fs).done ≡ true → In (serial_of m) (sig (off_eq o) (to_come (grow_all ts P) fs).acts)) → (to_come (grow_all ts P) fs).done ≡ true → In (serial_of m) (sig (off_eq o) (to_come (grow_all ts P) fs).acts)
      in_tree ts h dn = h dn

      inner : (ts : List TreeToken) → (to_come (grow_all ts P) (top ++ LoopRound x y s e env n ∷ rest)).done ≡ true → In (serial_of m) (sig (off_eq o) (to_come (grow_all ts P) (top ++ LoopRound x y s e env n ∷ rest)).acts)
      inner ts dn =
          let Q : Tree = grow_all ts P in
          let f : Node → Out = body_at e x env Q in
          let ms : List Node = later n (matches Q (serial_of (env y)) (s ∷ [])) in
          let a : Out = loop f ms (is_closed Q (env y)) in
          let ap' = to_come-append Q top (LoopRound x y s e env n ∷ rest) in
          let q = seq_both (to_come Q top) (seq a (to_come Q rest)) (sym (ap (λ (z : Out). z.done) ap') ∙ dn) in
          let q' = seq_both a (to_come Q rest) q.1 in
          let k = In-filter (λ (j : Node). ltb (serial_of n) (serial_of j)) m (matches P (serial_of (env y)) (s ∷ [])) i in
          let k' = Matches-in P (serial_of (env y)) (s ∷ []) m k.0 in
          let m_in : In m ms = In-kept (λ (j : Node). ltb (serial_of n) (serial_of j)) m (matches Q (serial_of (env y)) (s ∷ [])) (Matches-from Q (serial_of (env y)) (s ∷ []) m (nodes_stay ts P m k'.0) k'.1) k.1 in
          let bound : bind_var env x m o.base ≡ m = rw b (rw (eq-eqb x x refl) refl) in
          subst (λ (z : Out). In (serial_of m) (sig (off_eq o) z.acts)) (sym ap')
          (seq_right (off_eq o) (serial_of m) (to_come Q top) (seq a (to_come Q rest)) q.0
          (seq_left (off_eq o) (serial_of m) a (to_come Q rest) q'.0
          (loop_has (off_eq o) (serial_of m) f ms (is_closed Q (env y)) q'.0 m m_in
          (λ dn'. subst (λ (z : Node). In (serial_of z) (sig (off_eq o) (f m).acts)) bound (has_signs Q o e (bind_var env x m) has dn')))))

  -- nor are the matches of such a loop that hasn't begun
  pub loop_unsigned : (top rest : List Frame) (x y : ℕ) (s : Step) (e d : BodyTree) (env : Env) (m : Node) → fs ≡ top ++ Rest (Then (For x y s e) d) env ∷ rest → Has o e → o.base ≡ x → In m (matches P (serial_of (env y)) (s ∷ [])) → In (serial_of m) (sig (off_eq o) before) → ⊥
  loop_unsigned top rest x y s e d' env m are has b i = closed_later (serial_of m) (λ ts dn. in_tree ts (subst (λ (z : List Frame). (to_come (grow_all ts P) z).done ≡ true → In (serial_of m) (sig (off_eq o) (to_come (grow_all ts P) z).acts)) (sym are) (λ dn. inner ts dn)) dn)
    where
      in_tree : (ts : List TreeToken) → ((to_come (grow_all ts P) fs).done ≡ true → In (serial_of m) (sig (off_eq o) (to_come (grow_all ts P) fs).acts)) → (to_come (grow_all ts P) fs).done ≡ true → In (serial_of m) (sig (off_eq o) (to_come (grow_all ts P) fs).acts)
      in_tree ts h dn = h dn

      inner : (ts : List TreeToken) → (to_come (grow_all ts P) (top ++ Rest (Then (For x y s e) d') env ∷ rest)).done ≡ true → In (serial_of m) (sig (off_eq o) (to_come (grow_all ts P) (top ++ Rest (Then (For x y s e) d') env ∷ rest)).acts)
      inner ts dn =
          let Q : Tree = grow_all ts P in
          let f : Node → Out = body_at e x env Q in
          let ms : List Node = matches Q (serial_of (env y)) (s ∷ []) in
          let a : Out = loop f ms (is_closed Q (env y)) in
          let body : Out = run (Then (For x y s e) d') env Q in
          let ap' = to_come-append Q top (Rest (Then (For x y s e) d') env ∷ rest) in
          let q = seq_both (to_come Q top) (seq body (to_come Q rest)) (sym (ap (λ (z : Out). z.done) ap') ∙ dn) in
          let q' = seq_both body (to_come Q rest) q.1 in
          let q'' = seq_both a (run d' env Q) q'.0 in
          let k' = Matches-in P (serial_of (env y)) (s ∷ []) m i in
          let m_in : In m ms = Matches-from Q (serial_of (env y)) (s ∷ []) m (nodes_stay ts P m k'.0) k'.1 in
          let bound : bind_var env x m o.base ≡ m = rw b (rw (eq-eqb x x refl) refl) in
          subst (λ (z : Out). In (serial_of m) (sig (off_eq o) z.acts)) (sym ap')
          (seq_right (off_eq o) (serial_of m) (to_come Q top) (seq body (to_come Q rest)) q.0
          (seq_left (off_eq o) (serial_of m) body (to_come Q rest) q'.0
          (seq_left (off_eq o) (serial_of m) a (run d' env Q) q''.0
          (loop_has (off_eq o) (serial_of m) f ms (is_closed Q (env y)) q''.0 m m_in
          (λ dn'. subst (λ (z : Node). In (serial_of z) (sig (off_eq o) (f m).acts)) bound (has_signs Q o e (bind_var env x m) has dn'))))))
