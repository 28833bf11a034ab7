-- The pair of two paths among those that are kept, and what a condition asks of it.
use Rattle.std.proofs.Common.{◌≡◌, ◌&&◌, ◌<◌, ◌⊎◌, ◌++◌, ℕ, zero, suc, Bool, List, [], ◌∷◌, Some, length, map, not, sym, ◌∙◌, ap, subst, inl, inr, arith}
use Rattle.std.specs.Prelude.{slice_index_or, slice_set}
use Rattle.std.specs.FinMap.{get}
use Rattle.gcx_base.specs.declared.ids.VarId.{VarId}
use Rattle.gcx_base.specs.declared.rel.Rel.{Rel}
use Rattle.gcx_base.specs.declared.steps.Step.{Step}
use Rattle.gcx_model.specs.Core.{Compare, CondTree, Path}
use Rattle.gcx_model.specs.Members.{In, Once}
use Rattle.gcx_model.specs.Tree.{Node, serial_of, Tree, is_closed}
use Rattle.gcx_model.specs.Truth.{Env}
use Rattle.gcx_model.specs.declared.cond.Operand.{Operand}
use Rattle.gcx_model.specs.declared.cond.Operand.TheVariants as operand
use Rattle.gcx_model.specs.declared.truth.Truth.{Truth}
use Rattle.tree_laws.proofs.Lists.{In-append}
use Rattle.buf_tree.specs.Shape.{Cell}
use Rattle.buf_tree.specs.View.{InUse, View}
use Rattle.cond_eval.specs.Asking.{AnswersOver, Asked, MayAskOver}
use Rattle.cond_eval.specs.Bindings.{Bindings}
use Rattle.cond_eval.specs.Comparing.{comparison}
use Rattle.cond_eval.proofs.Comparisons.{shut_told}
use Rattle.cond_eval.proofs.Kept.{Stands, keys_set, once_push, same_entry}
use Rattle.cond_eval.proofs.Rows.{kept_at}
use Rattle.cond_eval.proofs.Telling.{in_left, in_right, keeps_left, keeps_right, side_of}
use Rattle.cond_memo.specs.Marks.{AreMarks, StandFor}
use Rattle.cond_memo.specs.PairCalls.{AnswersPaths, AsksBoth, AsksVariables, IsAboutPaths, MayAskPair, MayAskVariables, TellsTruth, pair_truth}
use Rattle.cond_memo.specs.Pairs.{ArePairs, IsPair, paths, paths_of}
use Rattle.cond_memo.specs.Taking.{AsksPath}
use Rattle.cond_memo.specs.declared.marked.Marked.{Marked}
use Rattle.cond_memo.specs.declared.pair.Pair.{Pair}
use Rattle.cond_memo.proofs.MarkList.{pair_place}

-- ---- the list

pub are_paths : (q : Pair) (x y : VarId) (left right : List Step) (rel : Rel) → IsAboutPaths q x left rel y right → paths_of q ≡ paths x left rel y right
are_paths q x y left right rel a =
    ap (λ (z : VarId). paths z q.left.steps q.rel q.other q.right.steps) a.var ∙ (ap (λ (s : List Step). paths x s q.rel q.other q.right.steps) a.left_steps
    ∙ (ap (λ (k : Rel). paths x left k q.other q.right.steps) a.rel_is ∙ (ap (λ (z : VarId). paths x left rel z q.right.steps) a.other ∙ ap (λ (s : List Step). paths x left rel y s) a.right_steps)))

pub paths_are : (q : Pair) (x y : VarId) (left right : List Step) (rel : Rel) → paths_of q ≡ paths x left rel y right → IsAboutPaths q x left rel y right
paths_are q x y left right rel e = record {
  var = ap (λ (s : VarId × List Step × Rel × VarId × List Step). s.0) e;
  left_steps = ap (λ (s : VarId × List Step × Rel × VarId × List Step). s.1) e;
  rel_is = ap (λ (s : VarId × List Step × Rel × VarId × List Step). s.2) e;
  other = ap (λ (s : VarId × List Step × Rel × VarId × List Step). s.3) e;
  right_steps = ap (λ (s : VarId × List Step × Rel × VarId × List Step). s.4) e;
}

pub pair_in : (ps : List Pair) (i : ℕ) (q : Pair) → i < length ps → q ≡ slice_index_or ps i q → In q ps
pair_in [] i q l e = absurd (omega arith)
pair_in (y ∷ ps) zero q l e = inl (sym e)
pair_in (y ∷ ps) (suc i) q l e = inr (pair_in ps i q (omega arith) e)

pair_set : (ps : List Pair) (i : ℕ) (r q : Pair) → In q (slice_set ps i r) → (r ≡ q) ⊎ In q ps
pair_set [] i r q k = absurd k
pair_set (x ∷ ps) zero r q (inl e) = inl e
pair_set (x ∷ ps) zero r q (inr k) = inr (inr k)
pair_set (x ∷ ps) (suc i) r q (inl e) = inr (inl e)
pair_set (x ∷ ps) (suc i) r q (inr k) = go (pair_set ps i r q k)
  where
    go : (r ≡ q) ⊎ In q ps → (r ≡ q) ⊎ In q (x ∷ ps)
    go (inl e) = inl e
    go (inr j) = inr (inr j)

pub pair_added : (qs ps : List Pair) (q : Pair) → ps ≡ qs ++ q ∷ [] → (In (paths_of q) (map paths_of qs) → ⊥) → ((P : Tree) → IsPair q P) → (P : Tree) → ArePairs qs P → ArePairs ps P
pair_added qs ps q e none is P k = subst (λ (zs : List Pair). ArePairs zs P) (sym e) (record { each = λ w i. go w (In-append w qs (q ∷ []) i); once = once_push paths_of qs q none k.once })
  where
    go : (w : Pair) → In w qs ⊎ In w (q ∷ []) → IsPair w P
    go w (inl j) = k.each w j
    go w (inr (inl f)) = subst (λ (z : Pair). IsPair z P) f (is P)
    go w (inr (inr f)) = absurd f

pub pair_changed : (qs : List Pair) (i : ℕ) (q r : Pair) (P : Tree) → Stands qs i q → paths_of r ≡ paths_of q → ArePairs qs P → IsPair r P → ArePairs (slice_set qs i r) P
pair_changed qs i q r P at same k is = record { each = λ w j. go w (pair_set qs i r w j); once = subst Once (sym (keys_set paths_of qs i q r at same)) k.once }
  where
    go : (w : Pair) → (r ≡ w) ⊎ In w qs → IsPair w P
    go w (inl e) = subst (λ (z : Pair). IsPair z P) e is
    go w (inr h) = k.each w h

-- ---- the nodes of the variables

module _ (v : View) (bound : Bindings) (x y : ℕ) (left right : List Step) (one one_of two two_of : ℕ) (got : Some (one, one_of) ≡ get bound x) (also : Some (two, two_of) ≡ get bound y) where
  module _ (P : Tree) (keep : Node → Bool) (n m : Node) (a : AsksVariables v bound x y left right P keep n m) where
    at_both : AsksBoth v one two left right P keep n m
    at_both = record {
      left_path = subst (λ (p : ℕ). AsksPath v p left P keep n) (sym (pair_place one a.left_bound.place one_of (serial_of n) (get bound x) got a.left_bound.pair).0) a.left_path;
      right_path = subst (λ (p : ℕ). AsksPath v p right P keep m) (sym (pair_place two a.right_bound.place two_of (serial_of m) (get bound y) also a.right_bound.pair).0) a.right_path;
    }

    left_serial : serial_of n ≡ one_of
    left_serial = sym (pair_place one a.left_bound.place one_of (serial_of n) (get bound x) got a.left_bound.pair).1

    right_serial : serial_of m ≡ two_of
    right_serial = sym (pair_place two a.right_bound.place two_of (serial_of m) (get bound y) also a.right_bound.pair).1

  module _ (q : Pair) (a b : VarId) (rel : Rel) (about : IsAboutPaths q a left rel b right) where
    both_as : (P : Tree) (keep : Node → Bool) (n m : Node) → AsksBoth v one two left right P keep n m → AsksBoth v one two q.left.steps q.right.steps P keep n m
    both_as P keep n m b = record {
      left_path = subst (λ (s : List Step). AsksPath v one s P keep n) (sym about.left_steps) b.left_path;
      right_path = subst (λ (s : List Step). AsksPath v two s P keep m) (sym about.right_steps) b.right_path;
    }

    pub may_ask : (k now : Marked) → MayAskVariables v k bound x y left right → ((P : Tree) → AreMarks k P → AreMarks now P) → In q now.pairs.items → MayAskPair v q one one_of two two_of
    may_ask k now m stays i = record {
      tree = m.tree;
      keep = m.keep;
      left_node = m.left_node;
      right_node = m.right_node;
      asks = both_as m.tree m.keep m.left_node m.right_node (at_both m.tree m.keep m.left_node m.right_node m.asks);
      left_serial = left_serial m.tree m.keep m.left_node m.right_node m.asks;
      right_serial = right_serial m.tree m.keep m.left_node m.right_node m.asks;
      pair = (stays m.tree m.marks).1.each q i;
    }

    pub answers : (k now : Marked) → ((P : Tree) → AreMarks k P → AreMarks now P) → (i : ℕ) → Stands now.pairs.items i q → (r : Pair) → paths_of r ≡ paths_of q → (t : Truth) → TellsTruth v q r one one_of two two_of t
        → (P : Tree) (keep : Node → Bool) (n m : Node) → AsksVariables v bound x y left right P keep n m → AreMarks k P
        → (t ≡ pair_truth P n m left rel right) × (StandFor now.marks.items P × ArePairs (slice_set now.pairs.items i r) P)
    answers k now stays i at r same t tells P keep n m a marks =
        let s = stays P marks in
        let h = tells P keep n m (both_as P keep n m (at_both P keep n m a)) (left_serial P keep n m a) (right_serial P keep n m a) (s.1.each q (pair_in now.pairs.items i q at.0 at.1)) in (
          h.0 ∙ (ap (λ (z : List Step). pair_truth P n m z q.rel q.right.steps) about.left_steps ∙ (ap (λ (z : Rel). pair_truth P n m left z q.right.steps) about.rel_is ∙ ap (λ (z : List Step). pair_truth P n m left rel z) about.right_steps)),
          (s.0, pair_changed now.pairs.items i q r P at same s.1 h.1),
        )

-- ---- whether both nodes are closed

pub both_closed : (v : View) (one two : ℕ) (left right : List Step) (first second : Bool) → ((c : Cell) → In c v.rows → c.place ≡ one → first ≡ not c.row.is_open) → ((c : Cell) → In c v.rows → c.place ≡ two → second ≡ not c.row.is_open)
    → (P : Tree) (keep : Node → Bool) (n m : Node) → AsksBoth v one two left right P keep n m → (first && second) ≡ (is_closed P n && is_closed P m)
both_closed v one two left right first second is also P keep n m a =
    let e = shut_told v.rows one first is P keep n a.left_path.at in
    let f = shut_told v.rows two second also P keep m a.right_path.at in
    ap (λ (b : Bool). b && second) e ∙ ap (λ (b : Bool). is_closed P n && b) f

pub left_used : (v : View) (q : Pair) (one one_of two two_of : ℕ) → MayAskPair v q one one_of two two_of → InUse v.rows one
left_used v q one one_of two two_of m = let a = m.asks.left_path.at in record { cell = a.cell; among = a.cell_among; place = a.at }

pub right_used : (v : View) (q : Pair) (one one_of two two_of : ℕ) → MayAskPair v q one one_of two two_of → InUse v.rows two
right_used v q one one_of two two_of m = let a = m.asks.right_path.at in record { cell = a.cell; among = a.cell_among; place = a.at }

-- ---- what a condition asks

module _ (v : View) (bound : Bindings) (x y : ℕ) (left right : List Step) (rel : Rel) where
  asks_paths : (P : Tree) (env : Env) → length P.nodes ≡ v.nodes → (a : Asked v.rows bound (Compare (Path x left) rel (Path y right)) P env) → AsksVariables v bound x y left right P a.keep (env x) (env y)
  asks_paths P env count a =
      let r = side_of x left in
      let i = in_left x left rel (Path y right) in
      let s = side_of y right in
      let j = in_right y right rel (Path x left) in
      let b = a.bound_to r i in
      let d = a.bound_to s j in
      let t = a.there r i in
      let u = a.there s j in
      record {
        left_bound = b;
        right_bound = d;
        left_path = record { at = kept_at v.rows P a.keep a.rows_of (env x) b.place t.0 t.1 b.at; count = count; kept = keeps_left v.rows bound P env x left rel (Path y right) a };
        right_path = record { at = kept_at v.rows P a.keep a.rows_of (env y) d.place u.0 u.1 d.at; count = count; kept = keeps_right v.rows bound P env y right rel (Path x left) a };
      }

  pub may_paths : (k : Marked) → MayAskOver v (AreMarks k) bound (Compare (Path x left) rel (Path y right)) → MayAskVariables v k bound x y left right
  may_paths k m = record {
    tree = m.tree;
    keep = m.asked.keep;
    left_node = m.env x;
    right_node = m.env y;
    asks = asks_paths m.tree m.env m.stand.1 m.asked;
    marks = m.stand.0;
  }

  pub answers_paths : (k l : Marked) (t : Truth) → AnswersPaths v k l bound x left rel y right t → AnswersOver v (AreMarks k) (AreMarks l) bound (Compare (Path x left) rel (Path y right)) t
  answers_paths k l t tells P env over a = let h = tells P a.keep (env x) (env y) (asks_paths P env over.1 a) over.0 in (h.0, (h.1, over.1))

-- of the operands
module _ (v : View) (bound : Bindings) (l r : Operand) (x y : VarId) (left right : List Step) (e : l ≡ operand.Path x left) (f : r ≡ operand.Path y right) (rel : Rel) where
  operands_are : comparison l rel r ≡ Compare (Path x.0 left) rel (Path y.0 right)
  operands_are = ap (λ (z : Operand). comparison z rel r) e ∙ ap (λ (z : Operand). comparison (operand.Path x left) rel z) f

  pub operands_may : (k : Marked) → MayAskOver v (AreMarks k) bound (comparison l rel r) → MayAskVariables v k bound x.0 y.0 left right
  operands_may k m = may_paths v bound x.0 y.0 left right rel k (subst (λ (z : CondTree). MayAskOver v (AreMarks k) bound z) operands_are m)

  pub operands_answer : (k m : Marked) (t : Truth) → AnswersPaths v k m bound x.0 left rel y.0 right t → AnswersOver v (AreMarks k) (AreMarks m) bound (comparison l rel r) t
  operands_answer k m t tells = subst (λ (z : CondTree). AnswersOver v (AreMarks k) (AreMarks m) bound z t) (sym operands_are) (answers_paths v bound x.0 y.0 left right rel k m t tells)

-- ---- the pair at a number

abbrev pub PathsAt : List Pair → ℕ → (x : VarId) → (left : List Step) → Rel → (y : VarId) → (right : List Step) → Type 0
PathsAt ps i x left rel y right = (q : Pair) × (q ≡ slice_index_or ps i q) × IsAboutPaths q x left rel y right

pub about_here : (ps : List Pair) (i : ℕ) (x y : VarId) (left right : List Step) (rel : Rel) (q : Pair) → i < length ps → PathsAt ps i x left rel y right → q ≡ slice_index_or ps i q → IsAboutPaths q x left rel y right
about_here ps i x y left right rel q low found e = subst (λ (z : Pair). IsAboutPaths z x left rel y right) (same_entry ps i found.0 q (low, found.1) (low, e)) found.2
