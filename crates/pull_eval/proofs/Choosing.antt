-- A condition that comes next may be asked over the rows, and its truth tells the branch.
use Rattle.std.proofs.Common.{◌≡◌, ℕ, true, false, List, refl, sym, subst, inl, inr}
use Rattle.gcx_model.specs.Core.{CondTree, If, BodyTree, Then}
use Rattle.gcx_model.specs.Truth.{truth}
use Rattle.gcx_model.specs.Points.{Frame}
use Rattle.gcx_model.specs.Past.{Past}
use Rattle.gcx_model.specs.declared.truth.Truth.TheVariants.{True, False, Unknown}
use Rattle.move_laws.specs.Moves.{NoneLeft}
use Rattle.move_laws.proofs.Moving.{branch_waits}
use Rattle.buf_tree.specs.View.{View}
use Rattle.cond_eval.specs.Asking.{Asked}
use Rattle.pull_eval.specs.Acting.{Beside, IsNextItem, ChosenBranch}
use Rattle.pull_eval.specs.declared.position.Position.{Position}
use Rattle.pull_eval.proofs.Frames.{at_item}
use Rattle.pull_eval.proofs.HeldRows.{holds, held_rows}
use Rattle.pull_eval.proofs.Needing.{used_in, used_bound, item_held}

module _ (w : Position) (v : View) (past : Past) (k : ℕ) (b : Beside w v past k) (c : CondTree) (this other d : BodyTree) (n : IsNextItem w (If c this other) d) where
  pub asked : w.is_begun ≡ true → Asked v.rows w.env c past.tree (at_item w v past k b (If c this other) d n).env
  asked begun = record {
    keep = holds past;
    rows_of = held_rows v past b.buffer;
    needed = λ m i h. item_held w v past k b (If c this other) d n m i (inl h);
    there = λ r i. let a = at_item w v past k b (If c this other) d n in let j = used_in w v past k b (If c this other) d n r.var (r, i, refl) in (j, item_held w v past k b (If c this other) d n (a.env r.var) j (inr (r, i, refl)));
    bound_to = λ r i. used_bound w v past k b (If c this other) d n begun r.var (r, i, refl);
  }

  pub waits : Unknown ≡ truth c (at_item w v past k b (If c this other) d n).env past.tree → NoneLeft past.plan past.tree k false
  waits e = let a = at_item w v past k b (If c this other) d n in branch_waits past.plan past.tree k c this other d a.env a.below a.point (sym e)

  pub this_chosen : True ≡ truth c (at_item w v past k b (If c this other) d n).env past.tree → ChosenBranch past.tree b.position.fs c this other this
  this_chosen e = subst (λ (z : List Frame). ChosenBranch past.tree z c this other this) (sym (at_item w v past k b (If c this other) d n).frames_are) (inl (sym e, refl))

  pub other_chosen : False ≡ truth c (at_item w v past k b (If c this other) d n).env past.tree → ChosenBranch past.tree b.position.fs c this other other
  other_chosen e = subst (λ (z : List Frame). ChosenBranch past.tree z c this other other) (sym (at_item w v past k b (If c this other) d n).frames_are) (inr (sym e, refl))

pub same_condition : (c k : CondTree) (this other x y d e : BodyTree) → Then (If c this other) d ≡ Then (If k x y) e → c ≡ k
same_condition c k this other x y d e h = cc
