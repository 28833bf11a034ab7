-- Marks are asked what a condition asks, and answer it.
use Rattle.std.proofs.Common.{◌≡◌, ℕ, Bool, true, false, ◌&&◌, ◌||◌, List, [], ◌∷◌, length, Option, Some, None, refl, sym, ◌∙◌, ap, subst, inl}
use Rattle.std.specs.Prelude.{Result, IfOk}
use Rattle.std.specs.declared.result.Result.TheVariants.{Ok, Err}
use Rattle.gcx_base.specs.declared.ids.VarId.{VarId}
use Rattle.gcx_base.specs.declared.rel.Rel.{Rel}
use Rattle.gcx_base.specs.declared.steps.Step.{Step}
use Rattle.gcx_model.specs.Tree.{Node, serial_of, Tree, is_closed}
use Rattle.gcx_model.specs.Paths.{any, matches}
use Rattle.gcx_model.specs.Members.{In}
use Rattle.gcx_model.specs.Core.{OperandTree, Path, CondTree, Exists, Compare, RoleRowTree}
use Rattle.gcx_model.specs.CondView.{operand_tree, core_cond_tree}
use Rattle.gcx_model.specs.declared.cond.Cond.{Cond}
use Rattle.gcx_model.specs.declared.cond.Cond as declared
use Rattle.gcx_model.specs.Values.{ComparedValue, Bytes, Units, compare}
use Rattle.gcx_model.specs.Answer.{some_pair}
use Rattle.gcx_model.specs.Roles.{cond_rows}
use Rattle.gcx_model.specs.Truth.{Env, settled_values, settle, truth}
use Rattle.gcx_model.specs.declared.cond.Operand.{Operand}
use Rattle.gcx_model.specs.declared.cond.Operand.TheVariants as operand
use Rattle.buf_tree.specs.Shape.{Cell}
use Rattle.cond_eval.specs.Bindings.{Bindings}
use Rattle.cond_eval.specs.Asking.{Over, Asked, MayAsk, Answers}
use Rattle.cond_memo.specs.Marks.{ask_of, answer, AreMarks, KeepsAll, AsksOf, MayFind}
use Rattle.cond_eval.specs.Literals.{IsLiteral}
use Rattle.cond_memo.specs.declared.mark.Ask.{Ask}
use Rattle.cond_memo.specs.declared.marked.Marked.{Marked}
use Rattle.gcx_model.specs.declared.truth.Truth.{Truth}
use Rattle.cond_eval.proofs.Rows.{kept_at}
use Rattle.cond_eval.proofs.Parts.{fold_Exists}
use Rattle.cond_eval.proofs.Telling.{side_of, tail_of, in_left, in_right, keeps_first, keeps_left, keeps_right, any_flipped}

-- ---- a condition's question of a mark

module _ (rows : List Cell) (nodes : ℕ) (bound : Bindings) (P : Tree) (env : Env) (count : length P.nodes ≡ nodes) where
  asks_of : (c : CondTree) (a : Asked rows bound c P env) (r : RoleRowTree) → In r (cond_rows c) → (steps : List Step) (ask : Option Ask) → KeepsAll P a.keep ask (matches P (serial_of (env r.var)) steps)
      → AsksOf rows nodes bound r.var steps ask P a.keep (env r.var)
  asks_of c a r i steps ask kept =
      let b = a.bound_to r i in
      let t = a.there r i in
      record { bound_to = b; asks = record { at = kept_at rows P a.keep a.rows_of (env r.var) b.place t.0 t.1 b.at; count = count; kept = kept } }

  pub exists_asks : (x : ℕ) (steps : List Step) (a : Asked rows bound (Exists x steps) P env) → AsksOf rows nodes bound x steps None P a.keep (env x)
  exists_asks x steps a = asks_of (Exists x steps) a (tail_of x steps) (inl refl) steps None (keeps_first rows bound P env x steps a)

  pub left_asks : (x : ℕ) (steps : List Step) (rel : Rel) (o : OperandTree) (k : Ask) (a : Asked rows bound (Compare (Path x steps) rel o) P env) → AsksOf rows nodes bound x steps (Some k) P a.keep (env x)
  left_asks x steps rel o k a = asks_of (Compare (Path x steps) rel o) a (side_of x steps) (in_left x steps rel o) steps (Some k) (keeps_left rows bound P env x steps rel o a)

  pub right_asks : (x : ℕ) (steps : List Step) (rel : Rel) (o : OperandTree) (k : Ask) (a : Asked rows bound (Compare o rel (Path x steps)) P env) → AsksOf rows nodes bound x steps (Some k) P a.keep (env x)
  right_asks x steps rel o k a = asks_of (Compare o rel (Path x steps)) a (side_of x steps) (in_right x steps rel o) steps (Some k) (keeps_right rows bound P env x steps rel o a)

-- ---- its truth

and_true : (b : Bool) → (b && true) ≡ b
and_true false = refl
and_true true = refl

or_none : (b : Bool) → b ≡ b || false
or_none true = refl
or_none false = refl

pub left_truth : (P : Tree) (env : Env) (x : ℕ) (steps : List Step) (rel : Rel) (o : Operand) → IsLiteral o → answer P steps (Some (ask_of rel o)) (env x) ≡ truth (Compare (Path x steps) rel (operand_tree o)) env P
left_truth P env x steps rel (operand.Path y path) l = absurd l
left_truth P env x steps rel (operand.Str b) l = refl
left_truth P env x steps rel (operand.Num u) l = refl

turned_truth : (P : Tree) (n : Node) (vs : List ComparedValue) (rel flipped : Rel) → ((v w : ComparedValue) → compare flipped w v ≡ compare rel v w) → (v : ComparedValue)
    → settle (some_pair (compare flipped) vs (v ∷ [])) (is_closed P n && true) ≡ settle (any (compare rel v) vs || false) (is_closed P n)
turned_truth P n vs rel flipped turned v =
    ap (λ b. settle b (is_closed P n && true)) (any_flipped rel flipped turned v vs ∙ or_none (any (compare rel v) vs)) ∙ ap (λ b. settle (any (compare rel v) vs || false) b) (and_true (is_closed P n))

pub right_truth : (P : Tree) (env : Env) (x : ℕ) (steps : List Step) (rel flipped : Rel) (o : Operand) → IsLiteral o → ((v w : ComparedValue) → compare flipped w v ≡ compare rel v w)
    → answer P steps (Some (ask_of flipped o)) (env x) ≡ truth (Compare (operand_tree o) rel (Path x steps)) env P
right_truth P env x steps rel flipped (operand.Path y path) l turned = absurd l
right_truth P env x steps rel flipped (operand.Str b) l turned = turned_truth P (env x) (settled_values P env (Path x steps)) rel flipped turned (Bytes b)
right_truth P env x steps rel flipped (operand.Num u) l turned = turned_truth P (env x) (settled_values P env (Path x steps)) rel flipped turned (Units u)

-- ---- what marks answer

module _ (rows : List Cell) (nodes : ℕ) (bound : Bindings) (old new : Marked) where
  abbrev pub MayAskMarks : CondTree → Type 0
  MayAskMarks c = MayAsk (Over nodes (AreMarks old)) rows bound c

  abbrev pub FindsOf : (x : ℕ) → List Step → Option Ask → Truth → Type 0
  FindsOf x steps ask t = (P : Tree) (keep : Node → Bool) (n : Node) → AreMarks old P → AsksOf rows nodes bound x steps ask P keep n → (t ≡ answer P steps ask n) × AreMarks new P

  abbrev pub AnswersMarks : CondTree → Truth → Type 0
  AnswersMarks c t = Answers (Over nodes (AreMarks old)) (Over nodes (AreMarks new)) rows bound c t

  pub exists_may : (x : ℕ) (steps : List Step) → MayAskMarks (Exists x steps) → MayFind old rows nodes bound x steps None
  exists_may x steps m = record { tree = m.tree; keep = m.asked.keep; node = m.env x; marks = m.stand.0; asks = exists_asks rows nodes bound m.tree m.env m.stand.1 x steps m.asked; literal = tt }

  pub left_may : (x : ℕ) (steps : List Step) (rel : Rel) (o : Operand) → IsLiteral o → MayAskMarks (Compare (Path x steps) rel (operand_tree o)) → MayFind old rows nodes bound x steps (Some (ask_of rel o))
  left_may x steps rel o l m = record { tree = m.tree; keep = m.asked.keep; node = m.env x; marks = m.stand.0; asks = left_asks rows nodes bound m.tree m.env m.stand.1 x steps rel (operand_tree o) (ask_of rel o) m.asked; literal = l }

  pub right_may : (x : ℕ) (steps : List Step) (rel flipped : Rel) (o : Operand) → IsLiteral o → MayAskMarks (Compare (operand_tree o) rel (Path x steps)) → MayFind old rows nodes bound x steps (Some (ask_of flipped o))
  right_may x steps rel flipped o l m = record { tree = m.tree; keep = m.asked.keep; node = m.env x; marks = m.stand.0; asks = right_asks rows nodes bound m.tree m.env m.stand.1 x steps rel (operand_tree o) (ask_of flipped o) m.asked; literal = l }

  pub exists_answers : {E : Type 0} (x : ℕ) (steps : List Step) (r : Result Truth E) → IfOk r (FindsOf x steps None) → IfOk r (AnswersMarks (Exists x steps))
  exists_answers x steps (Ok t) f = λ P env s a. let h = f P a.keep (env x) s.0 (exists_asks rows nodes bound P env s.1 x steps a) in (h.0, (h.1, s.1))
  exists_answers x steps (Err e) f = tt

  pub left_answers : {E : Type 0} (x : ℕ) (steps : List Step) (rel : Rel) (o : Operand) → IsLiteral o → (r : Result Truth E) → IfOk r (FindsOf x steps (Some (ask_of rel o))) → IfOk r (AnswersMarks (Compare (Path x steps) rel (operand_tree o)))
  left_answers x steps rel o l (Ok t) f = λ P env s a.
      let h = f P a.keep (env x) s.0 (left_asks rows nodes bound P env s.1 x steps rel (operand_tree o) (ask_of rel o) a) in
      (h.0 ∙ left_truth P env x steps rel o l, (h.1, s.1))
  left_answers x steps rel o l (Err e) f = tt

  pub right_answers : {E : Type 0} (x : ℕ) (steps : List Step) (rel flipped : Rel) (o : Operand) → IsLiteral o → ((v w : ComparedValue) → compare flipped w v ≡ compare rel v w) → (r : Result Truth E)
      → IfOk r (FindsOf x steps (Some (ask_of flipped o))) → IfOk r (AnswersMarks (Compare (operand_tree o) rel (Path x steps)))
  right_answers x steps rel flipped o l turned (Ok t) f = λ P env s a.
      let h = f P a.keep (env x) s.0 (right_asks rows nodes bound P env s.1 x steps rel (operand_tree o) (ask_of flipped o) a) in
      (h.0 ∙ right_truth P env x steps rel flipped o l turned, (h.1, s.1))
  right_answers x steps rel flipped o l turned (Err e) f = tt

-- ---- by operands and conditions of the code

pub literal_of : (o : Operand) → ((x : VarId) (s : List Step) → o ≡ operand.Path x s → ⊥) → IsLiteral o
literal_of (operand.Path x s) h = h x s refl
literal_of (operand.Str b) h = tt
literal_of (operand.Num u) h = tt

module _ (rows : List Cell) (nodes : ℕ) (bound : Bindings) (old new : Marked) (x : VarId) (steps : List Step) where
  left_is : (l : Operand) → l ≡ operand.Path x steps → (rel : Rel) (o : OperandTree) → Compare (operand_tree l) rel o ≡ Compare (Path x.0 steps) rel o
  left_is l e rel o = ap (λ (z : Operand). Compare (operand_tree z) rel o) e

  right_is : (r : Operand) → r ≡ operand.Path x steps → (o : OperandTree) (rel : Rel) → Compare o rel (operand_tree r) ≡ Compare o rel (Path x.0 steps)
  right_is r e o rel = ap (λ (z : Operand). Compare o rel (operand_tree z)) e

  pub path_may : (l o : Operand) (rel : Rel) → l ≡ operand.Path x steps → IsLiteral o → MayAskMarks rows nodes bound old new (Compare (operand_tree l) rel (operand_tree o)) → MayFind old rows nodes bound x.0 steps (Some (ask_of rel o))
  path_may l o rel e k m = left_may rows nodes bound old new x.0 steps rel o k (subst (λ (c : CondTree). MayAskMarks rows nodes bound old new c) (left_is l e rel (operand_tree o)) m)

  pub path_answers : {E : Type 0} (l o : Operand) (rel : Rel) → l ≡ operand.Path x steps → IsLiteral o → (r : Result Truth E) → IfOk r (FindsOf rows nodes bound old new x.0 steps (Some (ask_of rel o)))
      → IfOk r (AnswersMarks rows nodes bound old new (Compare (operand_tree l) rel (operand_tree o)))
  path_answers {E} l o rel e k r f =
      subst (λ (c : CondTree). IfOk {T = Truth} {E = E} r (AnswersMarks rows nodes bound old new c)) (sym (left_is l e rel (operand_tree o))) (left_answers rows nodes bound old new x.0 steps rel o k r f)

  pub literal_may : (o l : Operand) (rel flipped : Rel) → l ≡ operand.Path x steps → IsLiteral o → MayAskMarks rows nodes bound old new (Compare (operand_tree o) rel (operand_tree l)) → MayFind old rows nodes bound x.0 steps (Some (ask_of flipped o))
  literal_may o l rel flipped e k m = right_may rows nodes bound old new x.0 steps rel flipped o k (subst (λ (c : CondTree). MayAskMarks rows nodes bound old new c) (right_is l e (operand_tree o) rel) m)

  pub literal_answers : {E : Type 0} (o l : Operand) (rel flipped : Rel) → l ≡ operand.Path x steps → IsLiteral o → ((v w : ComparedValue) → compare flipped w v ≡ compare rel v w) → (r : Result Truth E)
      → IfOk r (FindsOf rows nodes bound old new x.0 steps (Some (ask_of flipped o))) → IfOk r (AnswersMarks rows nodes bound old new (Compare (operand_tree o) rel (operand_tree l)))
  literal_answers {E} o l rel flipped e k turned r f =
      subst (λ (c : CondTree). IfOk {T = Truth} {E = E} r (AnswersMarks rows nodes bound old new c)) (sym (right_is l e (operand_tree o) rel)) (right_answers rows nodes bound old new x.0 steps rel flipped o k turned r f)

  exists_is : (c : Cond) → c ≡ declared.Exists x steps → core_cond_tree c ≡ Exists x.0 steps
  exists_is c e = ap core_cond_tree e ∙ fold_Exists x steps

  pub leaf_may : (c : Cond) → c ≡ declared.Exists x steps → MayAskMarks rows nodes bound old new (core_cond_tree c) → MayFind old rows nodes bound x.0 steps None
  leaf_may c e m = exists_may rows nodes bound old new x.0 steps (subst (λ (z : CondTree). MayAskMarks rows nodes bound old new z) (exists_is c e) m)

  pub leaf_answers : {E : Type 0} (c : Cond) → c ≡ declared.Exists x steps → (r : Result Truth E) → IfOk r (FindsOf rows nodes bound old new x.0 steps None) → IfOk r (AnswersMarks rows nodes bound old new (core_cond_tree c))
  leaf_answers {E} c e r f = subst (λ (z : CondTree). IfOk {T = Truth} {E = E} r (AnswersMarks rows nodes bound old new z)) (sym (exists_is c e)) (exists_answers rows nodes bound old new x.0 steps r f)
