-- Conditions and their members: what is asked of the whole is asked of each, and how their answers go together.
use Rattle.std.proofs.Common.{◌≡◌, ◌≢◌, ℕ, zero, suc, ◌+◌, ◌<◌, ◌≤◌, true, false, not, List, [], ◌∷◌, map, length, get_or, drop, refl, sym, ◌∙◌, ap, subst, inl, inr, arith, rules}
use Rattle.std.proofs.lemmas.Bool.{false≢true}
use Rattle.std.proofs.lemmas.List.{drop_more, drop_all}
use denote.Enum.Bare.{sameb}
use Rattle.gcx_model.specs.declared.cond.Cond.{Cond, the_lemmas}
use Rattle.gcx_model.specs.declared.cond.Cond as declared
use Rattle.gcx_model.specs.declared.cond.Cond.TheViews as code
use Rattle.gcx_model.specs.declared.cond.CondList.{CondList as CodeConds}
use Rattle.gcx_model.specs.Tree.{Node, Tree}
use Rattle.gcx_model.specs.Members.{In}
use Rattle.gcx_base.specs.declared.ids.VarId.{VarId}
use Rattle.gcx_base.specs.declared.steps.Step.{Step}
use Rattle.gcx_model.specs.Core.{CondTree, Exists, Not, AllOf, AnyOf, RoleRowTree}
use Rattle.gcx_model.specs.CondView.{core_cond_tree, core_conds_of}
use Rattle.gcx_model.specs.declared.truth.Truth.{Truth}
use Rattle.gcx_model.specs.Truth.{Env, truth, truth_all, truth_any, both, either}
use Rattle.gcx_model.specs.Roles.{cond_rows, conds_rows}
use Rattle.gcx_model.specs.Needs.{Cond_needs, Conds_need}
use Rattle.gcx_model.specs.declared.truth.Truth.TheVariants.{True, False, Unknown}
use Rattle.tree_laws.proofs.Lists.{In-left, In-right}
use Rattle.buf_tree.specs.Shape.{Cell}
use Rattle.cond_eval.specs.Asking.{Asked, MayAsk, Answers}
use Rattle.cond_eval.specs.Bindings.{Bindings}
use Rattle.gcx_model.specs.contracts.truth.Truth.{the_type}

-- ---- what is asked of a condition is asked of its parts

module _ (rows : List Cell) (bound : Bindings) (P : Tree) (env : Env) where
  abbrev NeedsLess : CondTree → CondTree → Type 0
  NeedsLess d c = (m : Node) → Cond_needs P env d m → Cond_needs P env c m

  abbrev NamesLess : CondTree → CondTree → Type 0
  NamesLess d c = (r : RoleRowTree) → In r (cond_rows d) → In r (cond_rows c)

  asked_part : (c d : CondTree) → NeedsLess d c → NamesLess d c → Asked rows bound c P env → Asked rows bound d P env
  asked_part c d needs names a = record { keep = a.keep; rows_of = a.rows_of; needed = λ m i h. a.needed m i (needs m h); there = λ r i. a.there r (names r i); bound_to = λ r i. a.bound_to r (names r i) }

  pub asked_not : (c : CondTree) → Asked rows bound (Not c) P env → Asked rows bound c P env
  asked_not c a = asked_part (Not c) c (λ m h. h) (λ r i. i) a

  needed_by : (d : CondTree) (cs : List CondTree) → In d cs → (m : Node) → Cond_needs P env d m → Conds_need P env (core_conds_of cs) m
  needed_by d [] i m h = absurd i
  needed_by d (c ∷ cs) (inl e) m h = inl (subst (λ (z : CondTree). Cond_needs P env z m) (sym e) h)
  needed_by d (c ∷ cs) (inr i) m h = inr (needed_by d cs i m h)

  named_by : (d : CondTree) (cs : List CondTree) → In d cs → (r : RoleRowTree) → In r (cond_rows d) → In r (conds_rows (core_conds_of cs))
  named_by d [] i r h = absurd i
  named_by d (c ∷ cs) (inl e) r h = In-left r (cond_rows c) (conds_rows (core_conds_of cs)) (subst (λ (z : CondTree). In r (cond_rows z)) (sym e) h)
  named_by d (c ∷ cs) (inr i) r h = In-right r (cond_rows c) (conds_rows (core_conds_of cs)) (named_by d cs i r h)

  pub asked_all : (cs : List CondTree) (d : CondTree) → In d cs → Asked rows bound (AllOf (core_conds_of cs)) P env → Asked rows bound d P env
  asked_all cs d i a = asked_part (AllOf (core_conds_of cs)) d (needed_by d cs i) (named_by d cs i) a

  pub asked_any : (cs : List CondTree) (d : CondTree) → In d cs → Asked rows bound (AnyOf (core_conds_of cs)) P env → Asked rows bound d P env
  asked_any cs d i a = asked_part (AnyOf (core_conds_of cs)) d (needed_by d cs i) (named_by d cs i) a

-- ---- how the answers of members go together

-- over each tree for which the value stood, the truth of the condition is that of the rest; and the value stands for the tree
abbrev pub Goes : (before after : Tree → Type 0) → List Cell → Bindings → CondTree → (Env → Tree → Truth) → Type 0
Goes before after rows bound c rest = (P : Tree) (env : Env) → before P → Asked rows bound c P env → (rest env P ≡ truth c env P) × after P

abbrev pub rest_all : List CondTree → Env → Tree → Truth
rest_all cs env P = truth_all (core_conds_of cs) env P

abbrev pub rest_any : List CondTree → Env → Tree → Truth
rest_any cs env P = truth_any (core_conds_of cs) env P

both_true : (v w : Truth) → v ≡ True → both v w ≡ w
both_true v w e = ap (λ z. both z w) e

both_other : (t : Truth) (w : Truth) → t ≢ True → both t w ≡ t
both_other True w d = absurd (d refl)
both_other False w d = refl
both_other Unknown w d = refl

either_false : (v w : Truth) → v ≡ False → either v w ≡ w
either_false v w e = ap (λ z. either z w) e

either_other : (t : Truth) (w : Truth) → t ≢ False → either t w ≡ t
either_other True w d = refl
either_other False w d = absurd (d refl)
either_other Unknown w d = refl

module _ (before now after : Tree → Type 0) (rows : List Cell) (bound : Bindings) where
  -- at the beginning
  pub goes_all : (cs : List CondTree) → Goes before before rows bound (AllOf (core_conds_of cs)) (rest_all cs)
  goes_all cs P env s a = (refl, s)

  pub goes_any : (cs : List CondTree) → Goes before before rows bound (AnyOf (core_conds_of cs)) (rest_any cs)
  goes_any cs P env s a = (refl, s)

  -- a part may be asked of the value of now
  pub may_ask : (c d : CondTree) (rest : Env → Tree → Truth) → ((P : Tree) (env : Env) → Asked rows bound c P env → Asked rows bound d P env) → MayAsk before rows bound c → Goes before now rows bound c rest → MayAsk now rows bound d
  may_ask c d rest part m goes = record { tree = m.tree; env = m.env; stand = (goes m.tree m.env m.stand m.asked).1; asked = part m.tree m.env m.asked }

  module _ (cs : List CondTree) (d : CondTree) (ds : List CondTree) (i : In d cs) (t : Truth) where
    -- the answer of a member that settles nothing
    pub goes_all_on : Goes before now rows bound (AllOf (core_conds_of cs)) (rest_all (d ∷ ds)) → Answers now after rows bound d t → t ≡ True → Goes before after rows bound (AllOf (core_conds_of cs)) (rest_all ds)
    goes_all_on goes answers e P env s a =
        let g = goes P env s a in
        let r = answers P env g.1 (asked_all rows bound P env cs d i a) in
        (sym (both_true (truth d env P) (rest_all ds env P) (sym r.0 ∙ e)) ∙ g.0, r.1)

    pub goes_any_on : Goes before now rows bound (AnyOf (core_conds_of cs)) (rest_any (d ∷ ds)) → Answers now after rows bound d t → t ≡ False → Goes before after rows bound (AnyOf (core_conds_of cs)) (rest_any ds)
    goes_any_on goes answers e P env s a =
        let g = goes P env s a in
        let r = answers P env g.1 (asked_any rows bound P env cs d i a) in
        (sym (either_false (truth d env P) (rest_any ds env P) (sym r.0 ∙ e)) ∙ g.0, r.1)

    -- and of one that settles all
    pub settles_all : Goes before now rows bound (AllOf (core_conds_of cs)) (rest_all (d ∷ ds)) → Answers now after rows bound d t → t ≢ True → Answers before after rows bound (AllOf (core_conds_of cs)) t
    settles_all goes answers e P env s a =
        let g = goes P env s a in
        let r = answers P env g.1 (asked_all rows bound P env cs d i a) in
        (sym (both_other t (rest_all ds env P) e) ∙ (ap (λ v. both v (rest_all ds env P)) r.0 ∙ g.0), r.1)

    pub settles_any : Goes before now rows bound (AnyOf (core_conds_of cs)) (rest_any (d ∷ ds)) → Answers now after rows bound d t → t ≢ False → Answers before after rows bound (AnyOf (core_conds_of cs)) t
    settles_any goes answers e P env s a =
        let g = goes P env s a in
        let r = answers P env g.1 (asked_any rows bound P env cs d i a) in
        (sym (either_other t (rest_any ds env P) e) ∙ (ap (λ v. either v (rest_any ds env P)) r.0 ∙ g.0), r.1)

  -- behind all members
  pub ends_all : (cs : List CondTree) → Goes before now rows bound (AllOf (core_conds_of cs)) (rest_all []) → Answers before now rows bound (AllOf (core_conds_of cs)) True
  ends_all cs goes = goes

  pub ends_any : (cs : List CondTree) → Goes before now rows bound (AnyOf (core_conds_of cs)) (rest_any []) → Answers before now rows bound (AnyOf (core_conds_of cs)) False
  ends_any cs goes = goes

-- ---- in the code

pub fold_All : (cs : CodeConds) → core_cond_tree (code.All cs) ≡ AllOf (core_conds_of (map core_cond_tree cs.members.items))
fold_All cs = search (rules, the_lemmas)

pub fold_Exists : (x : VarId) (steps : List Step) → core_cond_tree (declared.Exists x steps) ≡ Exists x.0 steps
fold_Exists x steps = search (rules, the_lemmas)

pub fold_Any : (cs : CodeConds) → core_cond_tree (code.Any cs) ≡ AnyOf (core_conds_of (map core_cond_tree cs.members.items))
fold_Any cs = search (rules, the_lemmas)

pub apart : (t u : Truth) → true ≡ not (sameb the_type t u) → t ≢ u
apart True True e = absurd (false≢true (sym e))
apart True False e = λ f. absurd (cc)
apart True Unknown e = λ f. absurd (cc)
apart False True e = λ f. absurd (cc)
apart False False e = absurd (false≢true (sym e))
apart False Unknown e = λ f. absurd (cc)
apart Unknown True e = λ f. absurd (cc)
apart Unknown False e = λ f. absurd (cc)
apart Unknown Unknown e = absurd (false≢true (sym e))

pub alike : (t u : Truth) → false ≡ not (sameb the_type t u) → t ≡ u
alike True True e = refl
alike True False e = absurd (false≢true e)
alike True Unknown e = absurd (false≢true e)
alike False True e = absurd (false≢true e)
alike False False e = refl
alike False Unknown e = absurd (false≢true e)
alike Unknown True e = absurd (false≢true e)
alike Unknown False e = absurd (false≢true e)
alike Unknown Unknown e = refl

-- each member may be asked
abbrev pub MayAskEach : (Tree → Type 0) → List Cell → Bindings → List Cond → Type 0
MayAskEach now rows bound items = (k : ℕ) (x : Cond) → k < length items → x ≡ get_or items k x → MayAsk now rows bound (core_cond_tree x)

pub in_trees : (items : List Cond) (k : ℕ) (x : Cond) → k < length items → x ≡ get_or items k x → In (core_cond_tree x) (map core_cond_tree items)
in_trees [] k x h e = absurd (omega arith)
in_trees (y ∷ items) zero x h e = inl (ap core_cond_tree (sym e))
in_trees (y ∷ items) (suc k) x h e = inr (in_trees items k x (omega arith) e)

trees_from : (items : List Cond) (k : ℕ) (x : Cond) → k < length items → x ≡ get_or items k x → map core_cond_tree (drop k items) ≡ core_cond_tree x ∷ map core_cond_tree (drop (k + 1) items)
trees_from items k x h e = ap (map core_cond_tree) (drop_more items k x h) ∙ ap (λ z. core_cond_tree z ∷ map core_cond_tree (drop (k + 1) items)) (sym e)

module _ (before : Tree → Type 0) (rows : List Cell) (bound : Bindings) (items : List Cond) where
  abbrev trees : List CondTree
  trees = map core_cond_tree items

  pub record AllGoes (now : Tree → Type 0) (i : ℕ) : Type 0 where
    pub goes : Goes before now rows bound (AllOf (core_conds_of (map core_cond_tree items))) (rest_all (map core_cond_tree (drop i items)))
    pub each : MayAskEach now rows bound items

  pub record AnyGoes (now : Tree → Type 0) (i : ℕ) : Type 0 where
    pub goes : Goes before now rows bound (AnyOf (core_conds_of (map core_cond_tree items))) (rest_any (map core_cond_tree (drop i items)))
    pub each : MayAskEach now rows bound items

  module _ (c : Cond) (m : MayAsk before rows bound (core_cond_tree c)) where
    module _ (tree : core_cond_tree c ≡ AllOf (core_conds_of (map core_cond_tree items))) where
      may_all : MayAsk before rows bound (AllOf (core_conds_of trees))
      may_all = subst (λ (z : CondTree). MayAsk before rows bound z) tree m

      each_all : (now : Tree → Type 0) (rest : Env → Tree → Truth) → Goes before now rows bound (AllOf (core_conds_of trees)) rest → MayAskEach now rows bound items
      each_all now rest goes k x h e = may_ask before now now rows bound (AllOf (core_conds_of trees)) (core_cond_tree x) rest (λ P env a. asked_all rows bound P env trees (core_cond_tree x) (in_trees items k x h e) a) may_all goes

      pub all_none : AllGoes before 0
      all_none = let g = goes_all before before before rows bound trees in record { goes = g; each = each_all before (rest_all trees) g }

      from_all : (now : Tree → Type 0) (i : ℕ) (x : Cond) → i < length items → x ≡ get_or items i x → AllGoes now i → Goes before now rows bound (AllOf (core_conds_of trees)) (rest_all (core_cond_tree x ∷ map core_cond_tree (drop (i + 1) items)))
      from_all now i x h e a = subst (λ (z : List CondTree). Goes before now rows bound (AllOf (core_conds_of trees)) (rest_all z)) (trees_from items i x h e) a.goes

      pub all_on : (now after : Tree → Type 0) (i : ℕ) (x : Cond) (t : Truth) → i < length items → x ≡ get_or items i x → AllGoes now i → Answers now after rows bound (core_cond_tree x) t → t ≡ True → AllGoes after (i + 1)
      all_on now after i x t h e a answers is =
          let rest = map core_cond_tree (drop (i + 1) items) in
          let g = goes_all_on before now after rows bound trees (core_cond_tree x) rest (in_trees items i x h e) t (from_all now i x h e a) answers is in
          record { goes = g; each = each_all after (rest_all rest) g }

      pub all_settled : (now after : Tree → Type 0) (i : ℕ) (x : Cond) (t : Truth) → i < length items → x ≡ get_or items i x → AllGoes now i → Answers now after rows bound (core_cond_tree x) t → t ≢ True → Answers before after rows bound (core_cond_tree c) t
      all_settled now after i x t h e a answers is =
          subst (λ (z : CondTree). Answers before after rows bound z t) (sym tree)
          (settles_all before now after rows bound trees (core_cond_tree x) (map core_cond_tree (drop (i + 1) items)) (in_trees items i x h e) t (from_all now i x h e a) answers is)

      pub all_end : (now : Tree → Type 0) (i : ℕ) → length items ≤ i → AllGoes now i → Answers before now rows bound (core_cond_tree c) True
      all_end now i h a =
          subst (λ (z : CondTree). Answers before now rows bound z True) (sym tree)
          (ends_all before now now rows bound trees (subst (λ (z : List Cond). Goes before now rows bound (AllOf (core_conds_of trees)) (rest_all (map core_cond_tree z))) (drop_all i items h) a.goes))

    module _ (tree : core_cond_tree c ≡ AnyOf (core_conds_of (map core_cond_tree items))) where
      may_any : MayAsk before rows bound (AnyOf (core_conds_of trees))
      may_any = subst (λ (z : CondTree). MayAsk before rows bound z) tree m

      each_any : (now : Tree → Type 0) (rest : Env → Tree → Truth) → Goes before now rows bound (AnyOf (core_conds_of trees)) rest → MayAskEach now rows bound items
      each_any now rest goes k x h e = may_ask before now now rows bound (AnyOf (core_conds_of trees)) (core_cond_tree x) rest (λ P env a. asked_any rows bound P env trees (core_cond_tree x) (in_trees items k x h e) a) may_any goes

      pub any_none : AnyGoes before 0
      any_none = let g = goes_any before before before rows bound trees in record { goes = g; each = each_any before (rest_any trees) g }

      from_any : (now : Tree → Type 0) (i : ℕ) (x : Cond) → i < length items → x ≡ get_or items i x → AnyGoes now i → Goes before now rows bound (AnyOf (core_conds_of trees)) (rest_any (core_cond_tree x ∷ map core_cond_tree (drop (i + 1) items)))
      from_any now i x h e a = subst (λ (z : List CondTree). Goes before now rows bound (AnyOf (core_conds_of trees)) (rest_any z)) (trees_from items i x h e) a.goes

      pub any_on : (now after : Tree → Type 0) (i : ℕ) (x : Cond) (t : Truth) → i < length items → x ≡ get_or items i x → AnyGoes now i → Answers now after rows bound (core_cond_tree x) t → t ≡ False → AnyGoes after (i + 1)
      any_on now after i x t h e a answers is =
          let rest = map core_cond_tree (drop (i + 1) items) in
          let g = goes_any_on before now after rows bound trees (core_cond_tree x) rest (in_trees items i x h e) t (from_any now i x h e a) answers is in
          record { goes = g; each = each_any after (rest_any rest) g }

      pub any_settled : (now after : Tree → Type 0) (i : ℕ) (x : Cond) (t : Truth) → i < length items → x ≡ get_or items i x → AnyGoes now i → Answers now after rows bound (core_cond_tree x) t → t ≢ False → Answers before after rows bound (core_cond_tree c) t
      any_settled now after i x t h e a answers is =
          subst (λ (z : CondTree). Answers before after rows bound z t) (sym tree)
          (settles_any before now after rows bound trees (core_cond_tree x) (map core_cond_tree (drop (i + 1) items)) (in_trees items i x h e) t (from_any now i x h e a) answers is)

      pub any_end : (now : Tree → Type 0) (i : ℕ) → length items ≤ i → AnyGoes now i → Answers before now rows bound (core_cond_tree c) False
      any_end now i h a =
          subst (λ (z : CondTree). Answers before now rows bound z False) (sym tree)
          (ends_any before now now rows bound trees (subst (λ (z : List Cond). Goes before now rows bound (AnyOf (core_conds_of trees)) (rest_any (map core_cond_tree z))) (drop_all i items h) a.goes))
