-- A condition that is answered as marks do: the lists stay. And what the parts of a condition tell of it.
use Rattle.std.proofs.Common.{◌≡◌, ◌⊎◌, List, None, refl, sym, ap, subst, inl, inr, ◌∙◌}
use Rattle.gcx_base.specs.declared.ids.VarId.{VarId}
use Rattle.gcx_base.specs.declared.rel.Rel.{Rel}
use Rattle.gcx_base.specs.declared.steps.Step.{Step}
use Rattle.gcx_model.specs.Tree.{Tree}
use Rattle.gcx_model.specs.Core.{OperandTree, CondTree, Always, Exists, Not}
use Rattle.gcx_model.specs.CondView.{core_cond_tree, operand_tree}
use Rattle.gcx_model.specs.declared.cond.Cond.{Cond}
use Rattle.gcx_model.specs.declared.cond.Cond as code
use Rattle.gcx_model.specs.declared.cond.Operand.{Operand}
use Rattle.gcx_model.specs.declared.cond.Operand.TheVariants as operand
use Rattle.gcx_model.specs.declared.truth.Truth.{Truth}
use Rattle.gcx_model.specs.declared.truth.Truth.TheVariants.{True}
use Rattle.gcx_model.specs.Truth.{negate, truth}
use Rattle.buf_tree.specs.View.{View}
use Rattle.cond_eval.specs.Bindings.{Bindings}
use Rattle.cond_eval.specs.Asking.{AnswersOver, Asked, IsLeaf, MayAskOver}
use Rattle.cond_eval.specs.Comparing.{comparison}
use Rattle.cond_eval.specs.Literals.{IsLiteral}
use Rattle.cond_eval.proofs.Parts.{asked_not, fold_Exists}
use Rattle.cond_memo.specs.Marks.{AreMarks}
use Rattle.cond_memo.specs.declared.marked.Marked.{Marked}
use Rattle.join_index.specs.declared.equality.Equality.{Equality}
use Rattle.join_index.specs.declared.equality.Side.{Side}
use Rattle.join_index.specs.Equalities.{HasEquality, path_of_side}
use Rattle.join_index.specs.Index.{AreLists, AreLooked, GoesAfterQuestion, HasItsList, HaveMoved, IndexView, IsIndex, IsOuterClosed, IsReached, KeepsLists, ReachesEquality, TellsTruthOf, changes, raised}
use Rattle.join_index.specs.Lookups.{GetsNoList, IsNoneOfPaths, LooksUp, MarksTell, ReachesNone}
use Rattle.join_index.proofs.Gathering.{fold_Compare, fold_True}
use Rattle.join_index.proofs.Listing.{changes_none, goes_also, goes_none, moved_none}

module _ (v : View) (bound : Bindings) (k : IndexView) (c : CondTree) where
  pub may_marks : MayAskOver v (IsIndex k) bound c → MayAskOver v (AreMarks k.marked) bound c
  may_marks m = record { tree = m.tree; env = m.env; stand = (m.stand.0.0, m.stand.1); asked = m.asked }

  -- where no list is another one and none was made
  pub goes_still : (l : IndexView) → l.equalities ≡ k.equalities → l.built ≡ k.built → GoesAfterQuestion bound (IsReached v (IsIndex k) bound c) k l
  goes_still l same built = record {
    moved = subst (λ (qs : List Equality). HaveMoved bound may k.equalities qs) (sym same) (moved_none bound may k.equalities);
    built = built ∙ sym (ap (λ (qs : List Equality). raised k.built (changes k.equalities qs)) same ∙ ap (raised k.built) (changes_none k.equalities));
  }
    where
      may : OperandTree → OperandTree → Type 0
      may = IsReached v (IsIndex k) bound c

  -- so the lists stay, and the truth is told in another way
  pub leaf_tells : (l : IndexView) (t : Truth) → l.equalities ≡ k.equalities → l.built ≡ k.built → AnswersOver v (IsIndex k) (IsIndex l) bound c t → ReachesNone v bound k c → TellsTruthOf v bound c k l t
  leaf_tells l t same built answers none = record {
    answers = answers;
    goes = goes_still l same built;
    kept = λ P env over a x y reached has closed. absurd (none P env over a x y reached has closed);
  }

  pub marks_tell : (l : IndexView) (t : Truth) → MarksTell v bound c k l t → ReachesNone v bound k c → TellsTruthOf v bound c k l t
  marks_tell l t told none = leaf_tells l t told.equalities told.built
      (λ P env over a.
      let r = told.answers P env (over.0.0, over.1) a in
      (r.0, ((r.1.0, subst (λ (qs : List Equality). AreLists qs P) (sym told.equalities) over.0.1, subst (λ (qs : List Equality). AreLooked qs P) (sym told.equalities) over.0.2), r.1.1)))
      none

  -- marks that stand for the same trees tell the same
  pub tells_still : (l m : IndexView) (t : Truth) → ((P : Tree) → AreMarks l.marked P → AreMarks m.marked P) → m.equalities ≡ l.equalities → m.built ≡ l.built → TellsTruthOf v bound c k l t → TellsTruthOf v bound c k m t
  tells_still l m t f same built told = record {
    answers = λ P env over a. let r = told.answers P env over a in (r.0, ((f P r.1.0.0, subst (λ (qs : List Equality). AreLists qs P) (sym same) r.1.0.1, subst (λ (qs : List Equality). AreLooked qs P) (sym same) r.1.0.2), r.1.1));
    goes = record {
      moved = subst (λ (qs : List Equality). HaveMoved bound (IsReached v (IsIndex k) bound c) k.equalities qs) (sym same) told.goes.moved;
      built = built ∙ (told.goes.built ∙ ap (λ (qs : List Equality). raised k.built (changes k.equalities qs)) (sym same));
    };
    kept = λ P env over a x y reached has closed. subst (λ (qs : List Equality). HasItsList bound qs x y) (sym same) (told.kept P env over a x y reached has closed);
  }

  -- what comes to no equality of two paths gets no list
  pub no_list_kept : GetsNoList c → (qs : List Equality) → KeepsLists v (IsIndex k) bound c k.equalities qs
  no_list_kept none qs P env over a l r reached has closed =
      absurd (none P env has.equality.left has.equality.right
      (subst (λ (z : OperandTree). ReachesEquality z (path_of_side has.equality.right) c env P) (sym has.left) (subst (λ (z : OperandTree). ReachesEquality l z c env P) (sym has.right) reached)))

  -- what marks answer again
  pub again_may : MayAskOver v (IsIndex k) bound c → (m : Marked) → m ≡ k.marked → MayAskOver v (AreMarks m) bound c
  again_may may m e = subst (λ (z : Marked). MayAskOver v (AreMarks z) bound c) (sym e) (may_marks may)

  pub again_answers : (l : IndexView) (t : Truth) → AnswersOver v (AreMarks k.marked) (AreMarks l.marked) bound c t → l.equalities ≡ k.equalities → AnswersOver v (IsIndex k) (IsIndex l) bound c t
  again_answers l t h same P env over a =
      let r = h P env (over.0.0, over.1) a in
      (r.0, ((r.1.0, subst (λ (qs : List Equality). AreLists qs P) (sym same) over.0.1, subst (λ (qs : List Equality). AreLooked qs P) (sym same) over.0.2), r.1.1))

-- ---- a comparison

module _ (v : View) (bound : Bindings) (left : Operand) (rel : Rel) (right : Operand) (c : CondTree) (is : c ≡ comparison left rel right) where
  pub is_leaf : IsLeaf c
  is_leaf = subst IsLeaf (sym is) tt

  -- none is told by a look-up
  module _ (k l : IndexView) (none : LooksUp v bound left rel right k l None) where
    pub may_still : MayAskOver v (IsIndex k) bound c → MayAskOver v (IsIndex l) bound c
    may_still m = subst (λ (z : IndexView). MayAskOver v (IsIndex z) bound c) (sym none.0) m

    pub none_reached : ReachesNone v bound k c
    none_reached P env over a x y is_reached has closed =
        let e : ReachesEquality x y (comparison left rel right) env P = subst (λ (z : CondTree). ReachesEquality x y z env P) is is_reached in
        none.1 e.1 (subst (λ (z : OperandTree). HasEquality k.equalities z (operand_tree right)) (sym e.0) (subst (λ (z : OperandTree). HasEquality k.equalities x z) (sym e.2) has)) P env over
        (subst (λ (z : CondTree). Asked v.rows bound z P env) is a)
        (subst (λ (z : OperandTree). IsOuterClosed z (operand_tree right) env P) (sym e.0) (subst (λ (z : OperandTree). IsOuterClosed x z env P) (sym e.2) closed))

    -- so marks tell it
    pub told_otherwise : (m : IndexView) (t : Truth) → MarksTell v bound c l m t → TellsTruthOf v bound c k m t
    told_otherwise m t told = marks_tell v bound k c m t (subst (λ (z : IndexView). MarksTell v bound c z m t) none.0 told) none_reached

-- ---- the other kinds

literal_none : (o : Operand) (s : Side) → IsLiteral o → operand_tree o ≡ path_of_side s → ⊥
literal_none (operand.Path x steps) s is e = is
literal_none (operand.Str b) s is e = absurd (cc)
literal_none (operand.Num u) s is e = absurd (cc)

pub literals_none : (left : Operand) (rel : Rel) (right : Operand) → IsLiteral left ⊎ IsLiteral right → IsNoneOfPaths left rel right
literals_none left rel right (inl is) one two e f g = literal_none left one is e
literals_none left rel right (inr is) one two e f g = literal_none right two is g

module _ (c : Cond) where
  pub exists_without : (x : VarId) (steps : List Step) → c ≡ code.Exists x steps → GetsNoList (core_cond_tree c)
  exists_without x steps e P env one two reached = subst (λ (z : CondTree). ReachesEquality (path_of_side one) (path_of_side two) z env P) (ap core_cond_tree e ∙ fold_Exists x steps) reached

  pub compare_without : (left : Operand) (rel : Rel) (right : Operand) → c ≡ code.Compare left rel right → IsNoneOfPaths left rel right → GetsNoList (core_cond_tree c)
  compare_without left rel right e none P env one two reached =
      let r : ReachesEquality (path_of_side one) (path_of_side two) (comparison left rel right) env P = subst (λ (z : CondTree). ReachesEquality (path_of_side one) (path_of_side two) z env P) (ap core_cond_tree e ∙ fold_Compare left rel right) reached in
      none one two r.0 r.1 r.2

module _ (v : View) (bound : Bindings) (k : IndexView) (c : Cond) where
  pub always_tells : c ≡ code.True → TellsTruthOf v bound (core_cond_tree c) k k True
  always_tells e = subst (λ (z : CondTree). TellsTruthOf v bound z k k True) (sym (ap core_cond_tree e ∙ fold_True)) (record {
    answers = λ P env over a. (refl, over);
    goes = goes_none bound (IsReached v (IsIndex k) bound Always) k;
    kept = λ P env over a l r reached has closed. absurd reached;
  })

  module _ (x : VarId) (steps : List Step) (e : c ≡ code.Exists x steps) where
    exists_is : core_cond_tree c ≡ Exists x.0 steps
    exists_is = ap core_cond_tree e ∙ fold_Exists x steps

    pub exists_leaf : IsLeaf (core_cond_tree c)
    exists_leaf = subst IsLeaf (sym exists_is) tt

    pub exists_tells : (l : IndexView) (t : Truth) → MarksTell v bound (core_cond_tree c) k l t → TellsTruthOf v bound (core_cond_tree c) k l t
    exists_tells l t told = marks_tell v bound k (core_cond_tree c) l t told (λ P env over a x y reached has closed. subst (λ (z : CondTree). ReachesEquality x y z env P) exists_is reached)

  module _ (d : CondTree) (e : core_cond_tree c ≡ Not d) where
    still : (l r : OperandTree) → IsReached v (IsIndex k) bound d l r → IsReached v (IsIndex k) bound (core_cond_tree c) l r
    still l r w P env over a =
        let b = w P env over (asked_not v.rows bound P env d (subst (λ (z : CondTree). Asked v.rows bound z P env) e a)) in
        (subst (λ (z : CondTree). ReachesEquality l r z env P) (sym e) b.0, b.1)

    pub not_tells : (l : IndexView) (t u : Truth) → u ≡ negate t → TellsTruthOf v bound d k l t → TellsTruthOf v bound (core_cond_tree c) k l u
    not_tells l t u is tells = record {
      answers = λ P env over a.
          let r = tells.answers P env over (asked_not v.rows bound P env d (subst (λ (z : CondTree). Asked v.rows bound z P env) e a)) in
          (is ∙ (ap negate r.0 ∙ ap (λ (z : CondTree). truth z env P) (sym e)), r.1);
      goes = goes_also bound (IsReached v (IsIndex k) bound d) (IsReached v (IsIndex k) bound (core_cond_tree c)) still k l tells.goes;
      kept = λ P env over a l r reached has closed.
          tells.kept P env over (asked_not v.rows bound P env d (subst (λ (z : CondTree). Asked v.rows bound z P env) e a)) l r (subst (λ (z : CondTree). ReachesEquality l r z env P) e reached) has closed;
    }
