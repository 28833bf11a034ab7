-- A walk over the members of a condition: what is told so far, and what it tells of the whole.
use Rattle.std.proofs.Common.{◌≡◌, ◌≢◌, ◌+◌, ◌<◌, ◌≤◌, ◌∙◌, ℕ, List, map, length, get_or, sym, subst, inl, inr, arith}
use Rattle.std.proofs.lemmas.Bool.{cases_lt}
use Rattle.gcx_model.specs.Tree.{Tree}
use Rattle.gcx_model.specs.Core.{OperandTree, CondTree, AllOf, AnyOf}
use Rattle.gcx_model.specs.CondView.{core_cond_tree, core_conds_of}
use Rattle.gcx_model.specs.declared.cond.Cond.{Cond}
use Rattle.gcx_model.specs.declared.truth.Truth.{Truth}
use Rattle.gcx_model.specs.declared.truth.Truth.TheVariants.{True, False}
use Rattle.gcx_model.specs.Truth.{Env, truth}
use Rattle.buf_tree.specs.View.{View}
use Rattle.cond_eval.specs.Bindings.{Bindings}
use Rattle.cond_eval.specs.Asking.{Asked, MayAskOver, Over}
use Rattle.cond_eval.proofs.Parts.{AllGoes, AnyGoes, all_end, all_none, all_on, all_settled, any_end, any_none, any_on, any_settled, asked_all, asked_any, in_trees}
use Rattle.join_index.specs.Index.{GoesAfterQuestion, IndexView, IsIndex, IsReached, KeepsLists, TellsTruthOf}
use Rattle.join_index.proofs.Listing.{goes_also, goes_none, goes_on}
use Rattle.join_index.proofs.Members.{KeptBefore, kept_end, kept_on, kept_settled, kept_start, reached_all, reached_any, reaches_all, reaches_any, same_at}

module _ (v : View) (bound : Bindings) (k : IndexView) (items : List Cond) where
  abbrev before : Tree → Type 0
  before = Over v.nodes (IsIndex k)

  abbrev all_of : CondTree
  all_of = AllOf (core_conds_of (map core_cond_tree items))

  abbrev any_of : CondTree
  any_of = AnyOf (core_conds_of (map core_cond_tree items))

  -- the first members had this truth
  abbrev pub HavePassed : (whole : CondTree) → (want : Truth) → (seen : ℕ) → Type 0
  HavePassed whole want i = (P : Tree) (env : Env) → Over v.nodes (IsIndex k) P → Asked v.rows bound whole P env → (j : ℕ) (y : Cond) → j < i → y ≡ get_or items j y → truth (core_cond_tree y) env P ≡ want

  pub record AllTold (now : IndexView) (i : ℕ) : Type 0 where
    pub answers : AllGoes before v.rows bound items (Over v.nodes (IsIndex now)) i
    pub passed : HavePassed all_of True i
    pub goes : GoesAfterQuestion bound (IsReached v (IsIndex k) bound all_of) k now
    pub kept : KeptBefore v bound k items all_of now.equalities i

  pub record AnyTold (now : IndexView) (i : ℕ) : Type 0 where
    pub answers : AnyGoes before v.rows bound items (Over v.nodes (IsIndex now)) i
    pub passed : HavePassed any_of False i
    pub goes : GoesAfterQuestion bound (IsReached v (IsIndex k) bound any_of) k now
    pub kept : KeptBefore v bound k items any_of now.equalities i

  part_all : (P : Tree) (env : Env) (i : ℕ) (x : Cond) → i < length items → x ≡ get_or items i x → Asked v.rows bound all_of P env → Asked v.rows bound (core_cond_tree x) P env
  part_all P env i x h e a = asked_all v.rows bound P env (map core_cond_tree items) (core_cond_tree x) (in_trees items i x h e) a

  part_any : (P : Tree) (env : Env) (i : ℕ) (x : Cond) → i < length items → x ≡ get_or items i x → Asked v.rows bound any_of P env → Asked v.rows bound (core_cond_tree x) P env
  part_any P env i x h e a = asked_any v.rows bound P env (map core_cond_tree items) (core_cond_tree x) (in_trees items i x h e) a

  module _ (c : Cond) (may : MayAskOver v (IsIndex k) bound (core_cond_tree c)) where
    module _ (tree : core_cond_tree c ≡ all_of) where
      pub all_start : AllTold k 0
      all_start = record { answers = all_none before v.rows bound items c may tree; passed = λ P env s a j y low at. absurd (omega arith); goes = goes_none bound (IsReached v (IsIndex k) bound all_of) k; kept = kept_start v bound k items all_of k.equalities }

      module _ (m n : IndexView) (i : ℕ) (x : Cond) (t : Truth) (h : i < length items) (e : x ≡ get_or items i x) (a : AllTold m i) (tells : TellsTruthOf v bound (core_cond_tree x) m n t) where
        still_all : (l r : OperandTree) → IsReached v (IsIndex m) bound (core_cond_tree x) l r → IsReached v (IsIndex k) bound all_of l r
        still_all l r w P env s q =
            let b = w P env (a.answers.goes P env s q).1 (part_all P env i x h e q) in
            (reaches_all l r env P items i x h e (a.passed P env s q) b.0, b.1)

        goes_all : GoesAfterQuestion bound (IsReached v (IsIndex k) bound all_of) k n
        goes_all = goes_on bound (IsReached v (IsIndex k) bound all_of) k m n a.goes (goes_also bound (IsReached v (IsIndex m) bound (core_cond_tree x)) (IsReached v (IsIndex k) bound all_of) still_all m n tells.goes)

        passed_all : t ≡ True → HavePassed all_of True (i + 1)
        passed_all is P env s q j y low at = elim (cases_lt j i) [
          | inl b ↦ a.passed P env s q j y b at
          | inr b ↦ (
              let j_is : j ≡ i = omega arith in
              let same = same_at items i y x h (subst (λ (z : ℕ). y ≡ get_or items z y) j_is at) e in
              subst (λ (z : Cond). truth (core_cond_tree z) env P ≡ True) (sym same) (sym (tells.answers P env (a.answers.goes P env s q).1 (part_all P env i x h e q)).0 ∙ is))
        ]

        pub all_next : t ≡ True → AllTold n (i + 1)
        all_next is = record {
          answers = all_on before v.rows bound items c may tree (Over v.nodes (IsIndex m)) (Over v.nodes (IsIndex n)) i x t h e a.answers tells.answers is;
          passed = passed_all is;
          goes = goes_all;
          kept = kept_on v bound k items all_of part_all m n i x t h e (λ P env s q. (a.answers.goes P env s q).1) a.goes tells a.kept;
        }

        pub all_told : t ≢ True → TellsTruthOf v bound (core_cond_tree c) k n t
        all_told other = record {
          answers = all_settled before v.rows bound items c may tree (Over v.nodes (IsIndex m)) (Over v.nodes (IsIndex n)) i x t h e a.answers tells.answers other;
          goes = subst (λ (z : CondTree). GoesAfterQuestion bound (IsReached v (IsIndex k) bound z) k n) (sym tree) goes_all;
          kept = subst (λ (z : CondTree). KeepsLists v (IsIndex k) bound z k.equalities n.equalities) (sym tree)
              (kept_settled v bound k items all_of part_all m n i x t h e (λ P env s q. (a.answers.goes P env s q).1) a.goes tells True (λ l r env P. reached_all l r env P items) other a.kept);
        }

      pub all_over : (m : IndexView) (i : ℕ) → length items ≤ i → AllTold m i → TellsTruthOf v bound (core_cond_tree c) k m True
      all_over m i h a = record {
        answers = all_end before v.rows bound items c may tree (Over v.nodes (IsIndex m)) i h a.answers;
        goes = subst (λ (z : CondTree). GoesAfterQuestion bound (IsReached v (IsIndex k) bound z) k m) (sym tree) a.goes;
        kept = subst (λ (z : CondTree). KeepsLists v (IsIndex k) bound z k.equalities m.equalities) (sym tree)
            (kept_end v bound k items all_of True (λ l r env P. reached_all l r env P items) m.equalities i h a.kept);
      }

    module _ (tree : core_cond_tree c ≡ any_of) where
      pub any_start : AnyTold k 0
      any_start = record { answers = any_none before v.rows bound items c may tree; passed = λ P env s a j y low at. absurd (omega arith); goes = goes_none bound (IsReached v (IsIndex k) bound any_of) k; kept = kept_start v bound k items any_of k.equalities }

      module _ (m n : IndexView) (i : ℕ) (x : Cond) (t : Truth) (h : i < length items) (e : x ≡ get_or items i x) (a : AnyTold m i) (tells : TellsTruthOf v bound (core_cond_tree x) m n t) where
        still_any : (l r : OperandTree) → IsReached v (IsIndex m) bound (core_cond_tree x) l r → IsReached v (IsIndex k) bound any_of l r
        still_any l r w P env s q =
            let b = w P env (a.answers.goes P env s q).1 (part_any P env i x h e q) in
            (reaches_any l r env P items i x h e (a.passed P env s q) b.0, b.1)

        goes_any : GoesAfterQuestion bound (IsReached v (IsIndex k) bound any_of) k n
        goes_any = goes_on bound (IsReached v (IsIndex k) bound any_of) k m n a.goes (goes_also bound (IsReached v (IsIndex m) bound (core_cond_tree x)) (IsReached v (IsIndex k) bound any_of) still_any m n tells.goes)

        passed_any : t ≡ False → HavePassed any_of False (i + 1)
        passed_any is P env s q j y low at = elim (cases_lt j i) [
          | inl b ↦ a.passed P env s q j y b at
          | inr b ↦ (
              let j_is : j ≡ i = omega arith in
              let same = same_at items i y x h (subst (λ (z : ℕ). y ≡ get_or items z y) j_is at) e in
              subst (λ (z : Cond). truth (core_cond_tree z) env P ≡ False) (sym same) (sym (tells.answers P env (a.answers.goes P env s q).1 (part_any P env i x h e q)).0 ∙ is))
        ]

        pub any_next : t ≡ False → AnyTold n (i + 1)
        any_next is = record {
          answers = any_on before v.rows bound items c may tree (Over v.nodes (IsIndex m)) (Over v.nodes (IsIndex n)) i x t h e a.answers tells.answers is;
          passed = passed_any is;
          goes = goes_any;
          kept = kept_on v bound k items any_of part_any m n i x t h e (λ P env s q. (a.answers.goes P env s q).1) a.goes tells a.kept;
        }

        pub any_told : t ≢ False → TellsTruthOf v bound (core_cond_tree c) k n t
        any_told other = record {
          answers = any_settled before v.rows bound items c may tree (Over v.nodes (IsIndex m)) (Over v.nodes (IsIndex n)) i x t h e a.answers tells.answers other;
          goes = subst (λ (z : CondTree). GoesAfterQuestion bound (IsReached v (IsIndex k) bound z) k n) (sym tree) goes_any;
          kept = subst (λ (z : CondTree). KeepsLists v (IsIndex k) bound z k.equalities n.equalities) (sym tree)
              (kept_settled v bound k items any_of part_any m n i x t h e (λ P env s q. (a.answers.goes P env s q).1) a.goes tells False (λ l r env P. reached_any l r env P items) other a.kept);
        }

      pub any_over : (m : IndexView) (i : ℕ) → length items ≤ i → AnyTold m i → TellsTruthOf v bound (core_cond_tree c) k m False
      any_over m i h a = record {
        answers = any_end before v.rows bound items c may tree (Over v.nodes (IsIndex m)) i h a.answers;
        goes = subst (λ (z : CondTree). GoesAfterQuestion bound (IsReached v (IsIndex k) bound z) k m) (sym tree) a.goes;
        kept = subst (λ (z : CondTree). KeepsLists v (IsIndex k) bound z k.equalities m.equalities) (sym tree)
            (kept_end v bound k items any_of False (λ l r env P. reached_any l r env P items) m.equalities i h a.kept);
      }
