-- Which questions are which conditions, and that the mark which answered last is still about its question.
use Rattle.std.proofs.Common.{◌≡◌, ℕ, zero, suc, ◌<◌, List, [], ◌∷◌, length, Option, Some, None, sym, ◌∙◌, ap, subst, arith}
use Rattle.std.specs.Prelude.{slice_set}
use Rattle.gcx_base.specs.declared.ids.VarId.{VarId}
use Rattle.gcx_base.specs.declared.rel.Rel.{Rel}
use Rattle.gcx_base.specs.declared.steps.Step.{Step}
use Rattle.gcx_model.specs.Core.{Compare, CondTree, Exists, Path}
use Rattle.gcx_model.specs.CondView.{core_cond_tree, operand_tree}
use Rattle.gcx_model.specs.Values.{ComparedValue, compare}
use Rattle.gcx_model.specs.declared.cond.Cond.{Cond}
use Rattle.gcx_model.specs.declared.cond.Cond as declared
use Rattle.gcx_model.specs.declared.cond.Operand.{Operand}
use Rattle.gcx_model.specs.declared.cond.Operand.TheVariants as operand
use Rattle.cond_eval.specs.Comparing.{comparison}
use Rattle.cond_eval.specs.Literals.{IsLiteral}
use Rattle.cond_memo.specs.Marks.{IsAbout, ask_of}
use Rattle.cond_memo.specs.Again.{AskedLast, IsAt, LastIsAbout, Serves}
use Rattle.cond_memo.specs.declared.mark.Ask.{Ask}
use Rattle.cond_memo.specs.declared.mark.Mark.{Mark}
use Rattle.cond_memo.specs.declared.marked.Marked.{Marked}
use Rattle.cond_eval.proofs.Parts.{fold_Exists}
use Rattle.cond_memo.proofs.MarkAsks.{exists_asks, exists_may, left_asks, left_may, left_truth, right_asks, right_may, right_truth}

-- ---- questions and conditions

exists_serves_path : (x : ℕ) (steps : List Step) → Serves x steps None (Exists x steps)
exists_serves_path x steps = record {
  may = λ v bound k m. exists_may v.rows v.nodes bound k k x steps m;
  answers = λ v bound k ms qs t f P env s a. let h = f P a.keep (env x) s.0 (exists_asks v.rows v.nodes bound P env s.1 x steps a) in (h.0, (h.1, s.1));
}

left_serves : (x : ℕ) (steps : List Step) (rel : Rel) (o : Operand) → IsLiteral o → Serves x steps (Some (ask_of rel o)) (Compare (Path x steps) rel (operand_tree o))
left_serves x steps rel o l = record {
  may = λ v bound k m. left_may v.rows v.nodes bound k k x steps rel o l m;
  answers = λ v bound k ms qs t f P env s a.
      let h = f P a.keep (env x) s.0 (left_asks v.rows v.nodes bound P env s.1 x steps rel (operand_tree o) (ask_of rel o) a) in
      (h.0 ∙ left_truth P env x steps rel o l, (h.1, s.1));
}

right_serves : (x : ℕ) (steps : List Step) (rel flipped : Rel) (o : Operand) → IsLiteral o → ((v w : ComparedValue) → compare flipped w v ≡ compare rel v w) → Serves x steps (Some (ask_of flipped o)) (Compare (operand_tree o) rel (Path x steps))
right_serves x steps rel flipped o l turned = record {
  may = λ v bound k m. right_may v.rows v.nodes bound k k x steps rel flipped o l m;
  answers = λ v bound k ms qs t f P env s a.
      let h = f P a.keep (env x) s.0 (right_asks v.rows v.nodes bound P env s.1 x steps rel (operand_tree o) (ask_of flipped o) a) in
      (h.0 ∙ right_truth P env x steps rel flipped o l turned, (h.1, s.1));
}

pub exists_serves : (x : VarId) (steps : List Step) (c : Cond) → c ≡ declared.Exists x steps → Serves x.0 steps None (core_cond_tree c)
exists_serves x steps c e = subst (λ (z : CondTree). Serves x.0 steps None z) (sym (ap core_cond_tree e ∙ fold_Exists x steps)) (exists_serves_path x.0 steps)

pub path_serves : (x : VarId) (steps : List Step) (l o : Operand) (rel : Rel) → l ≡ operand.Path x steps → IsLiteral o → Serves x.0 steps (Some (ask_of rel o)) (comparison l rel o)
path_serves x steps l o rel e k = subst (λ (z : Operand). Serves x.0 steps (Some (ask_of rel o)) (comparison z rel o)) (sym e) (left_serves x.0 steps rel o k)

pub literal_serves : (x : VarId) (steps : List Step) (o l : Operand) (rel flipped : Rel) → l ≡ operand.Path x steps → IsLiteral o → ((v w : ComparedValue) → compare flipped w v ≡ compare rel v w) → Serves x.0 steps (Some (ask_of flipped o)) (comparison o rel l)
literal_serves x steps o l rel flipped e k turned = subst (λ (z : Operand). Serves x.0 steps (Some (ask_of flipped o)) (comparison o rel z)) (sym e) (right_serves x.0 steps rel flipped o k turned)

pub serves_about : (m : Mark) (x : VarId) (steps : List Step) (ask : Option Ask) (c : CondTree) → IsAbout m x steps ask → Serves x.0 steps ask c → Serves m.var.0 m.steps m.ask c
serves_about m x steps ask c b s =
    subst (λ (v : VarId). Serves v.0 m.steps m.ask c) (sym b.var)
    (subst (λ (z : List Step). Serves x.0 z m.ask c) (sym b.steps)
    (subst (λ (a : Option Ask). Serves x.0 steps a c) (sym b.ask) s))

-- ---- the last mark

-- none was asked last
pub none_last : (k : Marked) (c : CondTree) → k.last ≡ None → AskedLast k c
none_last k c e i m f a = let z : ◌≡◌ {A = Option ℕ} None (Some i) = sym e ∙ f in absurd (cc)

pub asked_last : (k : Marked) (x : VarId) (steps : List Step) (ask : Option Ask) (c : CondTree) → Serves x.0 steps ask c → LastIsAbout k x steps ask → AskedLast k c
asked_last k x steps ask c s h i m e a = serves_about m x steps ask c (h i m e a) s

at_set : (xs : List Mark) (i : ℕ) (w m : Mark) → i < length xs → IsAt (slice_set xs i w) i m → m ≡ w
at_set [] i w m l a = absurd (omega arith)
at_set (x ∷ xs) zero w m l a = a.1
at_set (x ∷ xs) (suc i) w m l a = let low = a.0 in at_set xs i w m (omega arith) (omega arith, a.1)

-- the mark that was written
written : (xs : List Mark) (i j : ℕ) (w m : Mark) → i < length xs → ◌≡◌ {A = Option ℕ} (Some i) (Some j) → IsAt (slice_set xs i w) j m → m ≡ w
written xs i j w m l e a = let f : i ≡ j = cc in at_set xs i w m l (subst (λ (n : ℕ). IsAt (slice_set xs i w) n m) (sym f) a)

pub set_about : (xs : List Mark) (i : ℕ) (w : Mark) (x : VarId) (steps : List Step) (ask : Option Ask) → i < length xs → IsAbout w x steps ask
    → (j : ℕ) (m : Mark) → ◌≡◌ {A = Option ℕ} (Some i) (Some j) → IsAt (slice_set xs i w) j m → IsAbout m x steps ask
set_about xs i w x steps ask l b j m e a = subst (λ (z : Mark). IsAbout z x steps ask) (sym (written xs i j w m l e a)) b

pub set_serves : (xs : List Mark) (i : ℕ) (m w : Mark) (c : CondTree) → i < length xs → IsAbout w m.var m.steps m.ask → Serves m.var.0 m.steps m.ask c
    → (j : ℕ) (u : Mark) → ◌≡◌ {A = Option ℕ} (Some i) (Some j) → IsAt (slice_set xs i w) j u → Serves u.var.0 u.steps u.ask c
set_serves xs i m w c l b s j u e a = subst (λ (z : Mark). Serves z.var.0 z.steps z.ask c) (sym (written xs i j w u l e a)) (serves_about w m.var m.steps m.ask c b s)

-- where one question is about another one's path, it is its own too
pub same_about : (w m : Mark) (x : VarId) (steps : List Step) (ask : Option Ask) → IsAbout w m.var m.steps m.ask → IsAbout m x steps ask → IsAbout w x steps ask
same_about w m x steps ask a b =
    subst (λ (v : VarId). IsAbout w v steps ask) b.var
    (subst (λ (z : List Step). IsAbout w m.var z ask) b.steps
    (subst (λ (k : Option Ask). IsAbout w m.var m.steps k) b.ask a))
