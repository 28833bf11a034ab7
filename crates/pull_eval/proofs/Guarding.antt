-- What the walks over a body tell of its guard, and of the variables that it uses.
use Rattle.std.proofs.Common.{◌≡◌, ℕ, zero, suc, ◌+◌, ◌<◌, ◌≤◌, ◌++◌, true, false, not, Bool, List, [], ◌∷◌, map, length, get_or, take, refl, sym, ◌∙◌, ap, subst, inl, inr, ◌⊎◌, arith, Option, None, Some, rules}
use Rattle.std.specs.FinMap.{get}
use Rattle.std.specs.Prelude.{slice_get}
use Rattle.std.proofs.lemmas.List.{map-append, take_more, take_all}
use Rattle.gcx_base.specs.declared.ids.VarId.{VarId}
use Rattle.gcx_base.specs.declared.rel.Rel.{Rel}
use Rattle.gcx_base.specs.declared.rel.Rel.TheVariants.{Eq}
use Rattle.gcx_base.specs.declared.steps.Step.{Step}
use Rattle.gcx_model.specs.declared.cond.Cond.{Cond, the_lemmas as cond_lemmas}
use Rattle.gcx_model.specs.declared.cond.Cond as code
use Rattle.gcx_model.specs.declared.cond.Cond.TheViews as views
use Rattle.gcx_model.specs.declared.cond.CondList.{CondList as CodeConds}
use Rattle.gcx_model.specs.declared.cond.Operand.{Operand}
use Rattle.gcx_model.specs.declared.cond.Operand.TheVariants as operand
use Rattle.gcx_model.specs.declared.item.Item.{Item}
use Rattle.gcx_model.specs.declared.item.Item.TheVariants as item
use Rattle.gcx_model.specs.declared.item.Body.{Body}
use Rattle.gcx_model.specs.Core.{OperandTree, Path, CondTree, CondTrees, Always, Exists, Compare, Not, AllOf, AnyOf, no_cond, more_conds, ItemTree, Write, Copy, For, If, SignOff, BodyTree, Nil, Then, RoleTarget, First, Whole, RoleRowTree}
use Rattle.gcx_model.proofs.Folds.{fold_For, fold_If}
use Rattle.gcx_model.specs.CondView.{core_cond_tree, core_conds_of, operand_tree}
use Rattle.gcx_model.specs.ItemView.{item_tree, item_trees, body_of, body_tree}
use Rattle.gcx_model.specs.Members.{In}
use Rattle.gcx_model.specs.Roles.{cond_rows, conds_rows, operand_rows}
use Rattle.tree_laws.proofs.Lists.{In-append, In-left, In-right}
use Rattle.pass_laws.specs.Idle.{AsksEqual, SomeAsksEqual, IsGuarded, IsGuardedItem, IsNotFrom}
use Rattle.pass_laws.specs.Scopes.{AsksIn, AsksInItem, HasNoOff, UsesInItem}
use Rattle.buf_tree.specs.Shape.{Cell}
use Rattle.buf_tree.specs.View.{InUse}
use Rattle.cond_eval.specs.Bindings.{Bindings}
use Rattle.cond_eval.proofs.Parts.{fold_All, fold_Any, fold_Exists}
use Rattle.pull_eval.specs.Guards.{AsksRows, AsksRowsIn, EachAsked, EachUsed, EachUsedInItem, IsBoundBelow, IsClosedBelow}
use Rattle.pull_eval.specs.Weight.{weigh_body, weigh_item}

-- ---- lists of the code and of trees

trees_more : (items : List Item) (i : ℕ) (item : Item) → i < length items → item ≡ get_or items i item
    → map item_tree (take (i + 1) items) ≡ map item_tree (take i items) ++ item_tree item ∷ []
trees_more items i item low is =
    ap (map item_tree) (take_more items i item low ∙ ap (λ (z : Item). take i items ++ z ∷ []) (sym is)) ∙ map-append item_tree (take i items) (item ∷ [])

conds_more : (conds : List Cond) (i : ℕ) (c : Cond) → i < length conds → c ≡ get_or conds i c
    → map core_cond_tree (take (i + 1) conds) ≡ map core_cond_tree (take i conds) ++ core_cond_tree c ∷ []
conds_more conds i c low is =
    ap (map core_cond_tree) (take_more conds i c low ∙ ap (λ (z : Cond). take i conds ++ z ∷ []) (sym is)) ∙ map-append core_cond_tree (take i conds) (c ∷ [])

in_items : (items : List Item) (k : ℕ) (x : Item) → k < length items → x ≡ get_or items k x → In (item_tree x) (map item_tree items)
in_items [] k x h e = absurd (omega arith)
in_items (y ∷ items) zero x h e = inl (ap item_tree (sym e))
in_items (y ∷ items) (suc k) x h e = inr (in_items items k x (omega arith) e)

in_conds : (conds : List Cond) (k : ℕ) (x : Cond) → k < length conds → x ≡ get_or conds k x → In (core_cond_tree x) (map core_cond_tree conds)
in_conds [] k x h e = absurd (omega arith)
in_conds (y ∷ conds) zero x h e = inl (ap core_cond_tree (sym e))
in_conds (y ∷ conds) (suc k) x h e = inr (in_conds conds k x (omega arith) e)

-- ---- guarded bodies

guarded_last : (l r : OperandTree) (xs : List ItemTree) (x : ItemTree) → IsGuarded l r (body_of xs) → IsGuardedItem l r x → IsGuarded l r (body_of (xs ++ x ∷ []))
guarded_last l r [] x g h = (h, tt)
guarded_last l r (y ∷ ys) x g h = (g.0, guarded_last l r ys x g.1 h)

-- so many items of the body are guarded
abbrev pub GuardedTo : (l r : OperandTree) → List Item → ℕ → Type 0
GuardedTo l r items i = IsGuarded l r (body_of (map item_tree (take i items)))

pub guarded_more : (l r : OperandTree) (items : List Item) (i : ℕ) (item : Item) → i < length items → item ≡ get_or items i item
    → GuardedTo l r items i → IsGuardedItem l r (item_tree item) → GuardedTo l r items (i + 1)
guarded_more l r items i item low is g h =
    subst (λ (z : List ItemTree). IsGuarded l r (body_of z)) (sym (trees_more items i item low is)) (guarded_last l r (map item_tree (take i items)) (item_tree item) g h)

pub guarded_all : (l r : OperandTree) (items : List Item) (i : ℕ) → length items ≤ i → GuardedTo l r items i → IsGuarded l r (body_of (map item_tree items))
guarded_all l r items i h g = subst (λ (z : List Item). IsGuarded l r (body_of (map item_tree z))) (take_all i items h) g

pub guarded_for : (l r : OperandTree) (i : Item) (var from : VarId) (step : Step) (body : Body) (xs : List Item) → i ≡ item.For var from step body → map item_tree xs ≡ item_trees body
    → IsNotFrom var.0 l × IsNotFrom var.0 r → IsGuarded l r (body_of (map item_tree xs)) → IsGuardedItem l r (item_tree i)
guarded_for l r i var from step body xs e trees n g =
    subst (λ (t : ItemTree). IsGuardedItem l r t) (sym (ap item_tree e ∙ (fold_For var from step body ∙ ap (λ (z : List ItemTree). For var.0 from.0 step (body_of z)) (sym trees)))) (n.0, n.1, g)

some_asks : (l r : OperandTree) (cs : List CondTree) (c : CondTree) → In c cs → AsksEqual l r c → SomeAsksEqual l r (core_conds_of cs)
some_asks l r [] c i a = absurd i
some_asks l r (d ∷ cs) c (inl e) a = inl (subst (λ (z : CondTree). AsksEqual l r z) (sym e) a)
some_asks l r (d ∷ cs) c (inr i) a = inr (some_asks l r cs c i a)

-- a condition of which a member asks it
pub member_asks : (l r : OperandTree) (c : Cond) (cs : CodeConds) (conds : List Cond) (k : ℕ) (x : Cond) → c ≡ views.All cs → map core_cond_tree conds ≡ map core_cond_tree cs.members.items → k < length conds → x ≡ get_or conds k x
    → AsksEqual l r (core_cond_tree x) → AsksEqual l r (core_cond_tree c)
member_asks l r c cs conds k x is trees h e a =
    subst (λ (z : CondTree). AsksEqual l r z) (sym (ap core_cond_tree is ∙ (fold_All cs ∙ ap (λ (z : List CondTree). AllOf (core_conds_of z)) (sym trees))))
    (some_asks l r (map core_cond_tree conds) (core_cond_tree x) (in_conds conds k x h e) a)

-- ---- rows

in_some : (cs : List CondTree) (c : CondTree) (q : RoleRowTree) → In c cs → In q (cond_rows c) → In q (conds_rows (core_conds_of cs))
in_some [] c q i h = absurd i
in_some (d ∷ cs) c q (inl e) h = In-left q (cond_rows d) (conds_rows (core_conds_of cs)) (subst (λ (z : CondTree). In q (cond_rows z)) (sym e) h)
in_some (d ∷ cs) c q (inr i) h = In-right q (cond_rows d) (conds_rows (core_conds_of cs)) (in_some cs c q i h)

-- a condition of which a member has the rows
pub member_rows : (l r : OperandTree) (c : Cond) (cs : CodeConds) (conds : List Cond) (k : ℕ) (x : Cond) → c ≡ views.All cs → map core_cond_tree conds ≡ map core_cond_tree cs.members.items → k < length conds → x ≡ get_or conds k x
    → AsksRows l r (core_cond_tree x) → AsksRows l r (core_cond_tree c)
member_rows l r c cs conds k x is trees h e a q i =
    subst (λ (z : List RoleRowTree). In q z) (sym (ap cond_rows (ap core_cond_tree is ∙ fold_All cs) ∙ ap (λ (z : List CondTree). conds_rows (core_conds_of z)) (sym trees)))
    (in_some (map core_cond_tree conds) (core_cond_tree x) q (in_conds conds k x h e) (a q i))

-- ---- variables that are used

module _ (is : ℕ → Type 0) where
  used_last : (xs : List ItemTree) (x : ItemTree) → EachUsed is (body_of xs) → EachUsedInItem is x → EachUsed is (body_of (xs ++ x ∷ []))
  used_last [] x g h z (inl u) = h z u
  used_last [] x g h z (inr u) = absurd u
  used_last (y ∷ ys) x g h z (inl u) = g z (inl u)
  used_last (y ∷ ys) x g h z (inr u) = used_last ys x (λ w v. g w (inr v)) h z u

  -- so are those of so many items of the body
  abbrev pub UsedTo : List Item → ℕ → Type 0
  UsedTo items i = EachUsed is (body_of (map item_tree (take i items)))

  pub used_more : (items : List Item) (i : ℕ) (item : Item) → i < length items → item ≡ get_or items i item → UsedTo items i → EachUsedInItem is (item_tree item) → UsedTo items (i + 1)
  used_more items i item low e g h =
      subst (λ (z : List ItemTree). EachUsed is (body_of z)) (sym (trees_more items i item low e)) (used_last (map item_tree (take i items)) (item_tree item) g h)

  pub used_all : (items : List Item) (i : ℕ) → length items ≤ i → UsedTo items i → EachUsed is (body_of (map item_tree items))
  used_all items i h g = subst (λ (z : List Item). EachUsed is (body_of (map item_tree z))) (take_all i items h) g

  used_at : (xs : List ItemTree) (x : ItemTree) → In x xs → EachUsed is (body_of xs) → EachUsedInItem is x
  used_at [] x i g z u = absurd i
  used_at (y ∷ ys) x (inl e) g z u = g z (inl (subst (λ (t : ItemTree). UsesInItem z t) (sym e) u))
  used_at (y ∷ ys) x (inr i) g z u = used_at ys x i (λ w v. g w (inr v)) z u

  -- and those of an item
  pub used_in : (items : List Item) (k : ℕ) (x : Item) → k < length items → x ≡ get_or items k x → EachUsed is (body_of (map item_tree items)) → EachUsedInItem is (item_tree x)
  used_in items k x h e g = used_at (map item_tree items) (item_tree x) (in_items items k x h e) g

  -- ---- and those of conditions

  abbrev pub AskedTo : List Cond → ℕ → Type 0
  AskedTo conds i = EachAsked is (conds_rows (core_conds_of (map core_cond_tree (take i conds))))

  asked_last : (cs : List CondTree) (c : CondTree) → EachAsked is (conds_rows (core_conds_of cs)) → EachAsked is (cond_rows c) → EachAsked is (conds_rows (core_conds_of (cs ++ c ∷ [])))
  asked_last [] c g h q i = elim (In-append q (cond_rows c) [] i) [
    | inl j ↦ h q j
    | inr j ↦ absurd j
  ]
  asked_last (d ∷ cs) c g h q i = elim (In-append q (cond_rows d) (conds_rows (core_conds_of (cs ++ c ∷ []))) i) [
    | inl j ↦ g q (In-left q (cond_rows d) (conds_rows (core_conds_of cs)) j)
    | inr j ↦ asked_last cs c (λ p k. g p (In-right p (cond_rows d) (conds_rows (core_conds_of cs)) k)) h q j
  ]

  pub asked_more : (conds : List Cond) (i : ℕ) (c : Cond) → i < length conds → c ≡ get_or conds i c → AskedTo conds i → EachAsked is (cond_rows (core_cond_tree c)) → AskedTo conds (i + 1)
  asked_more conds i c low e g h =
      subst (λ (z : List CondTree). EachAsked is (conds_rows (core_conds_of z))) (sym (conds_more conds i c low e)) (asked_last (map core_cond_tree (take i conds)) (core_cond_tree c) g h)

  pub asked_all : (conds : List Cond) (i : ℕ) → length conds ≤ i → AskedTo conds i → EachAsked is (conds_rows (core_conds_of (map core_cond_tree conds)))
  asked_all conds i h g = subst (λ (z : List Cond). EachAsked is (conds_rows (core_conds_of (map core_cond_tree z)))) (take_all i conds h) g

  pub asked_both : (ps qs : List RoleRowTree) → EachAsked is ps → EachAsked is qs → EachAsked is (ps ++ qs)
  asked_both ps qs g h q i = elim (In-append q ps qs i) [
    | inl j ↦ g q j
    | inr j ↦ h q j
  ]

-- ---- paths

pub path_is : (o : Operand) (from var : VarId) (others steps : List Step) → o ≡ operand.Path from others → from.0 ≡ var.0 → others ≡ steps → operand_tree o ≡ Path var.0 steps
path_is o from var others steps is e f = ap operand_tree is ∙ (ap (λ n. Path n others) e ∙ ap (Path var.0) f)

-- ---- the first condition of a body

abbrev item_in : Item → Option Item → Item
item_in d None = d
item_in d (Some i) = i

asks_first : (l r : OperandTree) (b : List Item) (i : Item) → Some i ≡ slice_get b 0 → ((q : RoleRowTree) → In q (cond_rows (Compare l Eq r)) → AsksInItem q (item_tree i)) → AsksRowsIn l r (body_of (map item_tree b))
asks_first l r [] i e h q a = absurd (cc)
asks_first l r (j ∷ b) i e h q a = inl (subst (λ (z : Item). AsksInItem q (item_tree z)) (ap (item_in i) e) (h q a))

pub asks_if : (l r : OperandTree) (b : List Item) (i : Item) (c : Cond) (this other : Body) → Some i ≡ slice_get b 0 → i ≡ item.If c this other → AsksRows l r (core_cond_tree c) → AsksRowsIn l r (body_of (map item_tree b))
asks_if l r b i c this other e is h = asks_first l r b i e (λ q a. subst (λ (z : ItemTree). AsksInItem q z) (sym (ap item_tree is ∙ fold_If c this other)) (h q a))

pub asks_for : (l r : OperandTree) (b : List Item) (i : Item) (var from : VarId) (step : Step) (body : Body) (xs : List Item) → Some i ≡ slice_get b 0 → i ≡ item.For var from step body → map item_tree xs ≡ item_trees body
    → AsksRowsIn l r (body_of (map item_tree xs)) → AsksRowsIn l r (body_of (map item_tree b))
asks_for l r b i var from step body xs e is trees h =
    asks_first l r b i e (λ q a. subst (λ (z : ItemTree). AsksInItem q z) (sym (ap item_tree is ∙ fold_For var from step body)) (subst (λ (z : List ItemTree). AsksIn q (body_of z)) trees (h q a)))

-- no statement stands in a guarded body
pub guarded_no_off : (l r : OperandTree) (e : BodyTree) → IsGuarded l r e → HasNoOff e
guarded_no_off l r Nil g = tt
guarded_no_off l r (Then (Write b) e) g = absurd g.0
guarded_no_off l r (Then (Copy x) e) g = absurd g.0
guarded_no_off l r (Then (For z y s d) e) g = (guarded_no_off l r d g.0.2, guarded_no_off l r e g.1)
guarded_no_off l r (Then (If c a b) e) g = (tt, guarded_no_off l r e g.1)
guarded_no_off l r (Then (SignOff o) e) g = absurd g.0

-- ---- what is bound

abbrev pair_in : ℕ × ℕ → Option (ℕ × ℕ) → ℕ × ℕ
pair_in d None = d
pair_in d (Some a) = a

-- two looks at what is bound
one_pair : (o : Option (ℕ × ℕ)) (a b : ℕ × ℕ) → Some a ≡ o → o ≡ Some b → a ≡ b
one_pair o a b e f = ap (pair_in a) (e ∙ f)

-- a row stands at the place to which the variable is bound
pub row_there : (rows : List Cell) (bound : Bindings) (x z p s : ℕ) → Some (p, s) ≡ get bound z → z < x → IsBoundBelow rows bound x z → InUse rows p
row_there rows bound x z p s e l h =
    let b = h l in
    subst (λ (w : ℕ). InUse rows w) (sym (ap (λ (a : ℕ × ℕ). a.0) (one_pair (get bound z) (p, s) (b.0, b.1) e b.2))) b.3

pub not_true : (b : Bool) → not b ≡ true → b ≡ false
not_true true e = sym e
not_true false e = refl

-- and what is asked of it
pub closed_there : (rows : List Cell) (bound : Bindings) (x z p s : ℕ) (b : Bool) → Some (p, s) ≡ get bound z → ((c : Cell) → In c rows → c.place ≡ p → b ≡ not c.row.is_open) → b ≡ true → IsClosedBelow rows bound x z
closed_there rows bound x z p s b e tells t l q u f c i at =
    not_true c.row.is_open (sym (tells c i (at ∙ sym (ap (λ (a : ℕ × ℕ). a.0) (one_pair (get bound z) (p, s) (q, u) e f)))) ∙ t)

-- ---- rows of one path

abbrev rows_at : VarId → List Step → RoleTarget → List RoleRowTree
rows_at x steps k = record { var = x.0; tail = steps; kind = k } ∷ []

module _ (is : ℕ → Type 0) (x : VarId) (steps : List Step) (k : RoleTarget) where
  one_asked : (qs : List RoleRowTree) → qs ≡ rows_at x steps k → EachAsked is qs → is x.0
  one_asked qs e h = h (record { var = x.0; tail = steps; kind = k }) (subst (λ (z : List RoleRowTree). In (record { var = x.0; tail = steps; kind = k }) z) (sym e) (inl refl))

  one_told : (qs : List RoleRowTree) → qs ≡ rows_at x steps k → is x.0 → EachAsked is qs
  one_told qs e h = subst (λ (z : List RoleRowTree). EachAsked is z) (sym e) go
    where
      go : EachAsked is (rows_at x steps k)
      go q (inl f) = subst (λ (r : RoleRowTree). is r.var) f h
      go q (inr f) = absurd f

module _ (is : ℕ → Type 0) (o : Operand) (x : VarId) (steps : List Step) (e : o ≡ operand.Path x steps) where
  pub path_asked : EachAsked is (operand_rows (operand_tree o)) → is x.0
  path_asked h = one_asked is x steps Whole (operand_rows (operand_tree o)) (ap (λ (z : Operand). operand_rows (operand_tree z)) e) h

  pub path_told : is x.0 → EachAsked is (operand_rows (operand_tree o))
  path_told h = one_told is x steps Whole (operand_rows (operand_tree o)) (ap (λ (z : Operand). operand_rows (operand_tree z)) e) h

module _ (is : ℕ → Type 0) (c : Cond) (x : VarId) (steps : List Step) (e : c ≡ code.Exists x steps) where
  pub exists_asked : EachAsked is (cond_rows (core_cond_tree c)) → is x.0
  exists_asked h = one_asked is x steps First (cond_rows (core_cond_tree c)) (ap cond_rows (ap core_cond_tree e ∙ fold_Exists x steps)) h

  pub exists_told : is x.0 → EachAsked is (cond_rows (core_cond_tree c))
  exists_told h = one_told is x steps First (cond_rows (core_cond_tree c)) (ap cond_rows (ap core_cond_tree e ∙ fold_Exists x steps)) h

pub compare_rows : (c : Cond) (left right : Operand) (rel : Rel) → c ≡ code.Compare left rel right → cond_rows (core_cond_tree c) ≡ operand_rows (operand_tree left) ++ operand_rows (operand_tree right)
compare_rows c left right rel e = ap cond_rows (ap core_cond_tree e ∙ fold_Compare left rel right)
  where
    fold_Compare : (left : Operand) (rel : Rel) (right : Operand) → core_cond_tree (code.Compare left rel right) ≡ Compare (operand_tree left) rel (operand_tree right)
    fold_Compare left rel right = search (rules, cond_lemmas)

pub all_rows : (c : Cond) (cs : CodeConds) (xs : List Cond) → (c ≡ views.All cs) ⊎ (c ≡ views.Any cs) → map core_cond_tree xs ≡ map core_cond_tree cs.members.items
    → cond_rows (core_cond_tree c) ≡ conds_rows (core_conds_of (map core_cond_tree xs))
all_rows c cs xs (inl e) trees = ap cond_rows (ap core_cond_tree e ∙ fold_All cs) ∙ ap (λ (z : List CondTree). conds_rows (core_conds_of z)) (sym trees)
all_rows c cs xs (inr e) trees = ap cond_rows (ap core_cond_tree e ∙ fold_Any cs) ∙ ap (λ (z : List CondTree). conds_rows (core_conds_of z)) (sym trees)

-- ---- what an item uses

module _ (is : ℕ → Type 0) (i : Item) (c : Cond) (this other : Body) (e : i ≡ item.If c this other) where
  if_tree : item_tree i ≡ If (core_cond_tree c) (body_tree this) (body_tree other)
  if_tree = ap item_tree e ∙ fold_If c this other

  pub if_asked : EachUsedInItem is (item_tree i) → EachAsked is (cond_rows (core_cond_tree c))
  if_asked h q a = h q.var (subst (λ (t : ItemTree). UsesInItem q.var t) (sym if_tree) (q, a, refl))

  pub if_told : EachAsked is (cond_rows (core_cond_tree c)) → EachUsedInItem is (item_tree i)
  if_told h z u =
      let r : UsesInItem z (If (core_cond_tree c) (body_tree this) (body_tree other)) = subst (λ (t : ItemTree). UsesInItem z t) if_tree u in
      subst (λ (w : ℕ). is w) r.2 (h r.0 r.1)

pub from_used : (is : ℕ → Type 0) (i : Item) (var from : VarId) (step : Step) (body : Body) → i ≡ item.For var from step body → EachUsedInItem is (item_tree i) → is from.0
from_used is i var from step body e h = h from.0 (subst (λ (t : ItemTree). UsesInItem from.0 t) (sym (ap item_tree e ∙ fold_For var from step body)) (inl refl))

module _ (is : ℕ → Type 0) (i : Item) (var from : VarId) (step : Step) (body : Body) (xs : List Item) (e : i ≡ item.For var from step body) (trees : map item_tree xs ≡ item_trees body) where
  for_tree : item_tree i ≡ For var.0 from.0 step (body_of (map item_tree xs))
  for_tree = ap item_tree e ∙ (fold_For var from step body ∙ ap (λ (z : List ItemTree). For var.0 from.0 step (body_of z)) (sym trees))

  pub for_used : EachUsedInItem is (item_tree i) → EachUsed is (body_of (map item_tree xs))
  for_used h z u = h z (subst (λ (t : ItemTree). UsesInItem z t) (sym for_tree) (inr u))

  pub for_told : is from.0 → EachUsed is (body_of (map item_tree xs)) → EachUsedInItem is (item_tree i)
  for_told h g z u = go (subst (λ (t : ItemTree). UsesInItem z t) for_tree u)
    where
      go : UsesInItem z (For var.0 from.0 step (body_of (map item_tree xs))) → is z
      go (inl f) = subst (λ (w : ℕ). is w) f h
      go (inr v) = g z v

-- ---- members

pub member_asked : (is : ℕ → Type 0) (c : Cond) (cs : CodeConds) (xs : List Cond) (k : ℕ) (x : Cond) → (c ≡ views.All cs) ⊎ (c ≡ views.Any cs) → map core_cond_tree xs ≡ map core_cond_tree cs.members.items
    → k < length xs → x ≡ get_or xs k x → EachAsked is (cond_rows (core_cond_tree c)) → EachAsked is (cond_rows (core_cond_tree x))
member_asked is c cs xs k x e trees low at h q i =
    h q (subst (λ (z : List RoleRowTree). In q z) (sym (all_rows c cs xs e trees)) (in_some (map core_cond_tree xs) (core_cond_tree x) q (in_conds xs k x low at) i))

-- ---- what falls

abbrev mutual
  pub weigh_cond : CondTree → ℕ
  weigh_cond Always = 0
  weigh_cond (Exists x steps) = 0
  weigh_cond (Compare l rel r) = 0
  weigh_cond (Not c) = suc (weigh_cond c)
  weigh_cond (AllOf cs) = suc (weigh_conds cs)
  weigh_cond (AnyOf cs) = suc (weigh_conds cs)

  pub weigh_conds : CondTrees → ℕ
  weigh_conds no_cond = 0
  weigh_conds (more_conds c cs) = weigh_cond c + weigh_conds cs

cond_in : (cs : List CondTree) (c : CondTree) → In c cs → weigh_cond c ≤ weigh_conds (core_conds_of cs)
cond_in [] c i = absurd i
cond_in (d ∷ cs) c (inl e) = let w = ap weigh_cond e in omega (arith, w)
cond_in (d ∷ cs) c (inr i) = let w = cond_in cs c i in omega (arith, w)

pub member_weighs : (c : Cond) (cs : CodeConds) (xs : List Cond) (k : ℕ) (x : Cond) → (c ≡ views.All cs) ⊎ (c ≡ views.Any cs) → map core_cond_tree xs ≡ map core_cond_tree cs.members.items
    → k < length xs → x ≡ get_or xs k x → weigh_cond (core_cond_tree x) < weigh_cond (core_cond_tree c)
member_weighs c cs xs k x (inl e) trees low at =
    let w = cond_in (map core_cond_tree xs) (core_cond_tree x) (in_conds xs k x low at) in
    let u = ap weigh_cond (ap core_cond_tree e ∙ (fold_All cs ∙ ap (λ (z : List CondTree). AllOf (core_conds_of z)) (sym trees))) in
    omega (arith, w, u)
member_weighs c cs xs k x (inr e) trees low at =
    let w = cond_in (map core_cond_tree xs) (core_cond_tree x) (in_conds xs k x low at) in
    let u = ap weigh_cond (ap core_cond_tree e ∙ (fold_Any cs ∙ ap (λ (z : List CondTree). AnyOf (core_conds_of z)) (sym trees))) in
    omega (arith, w, u)

item_in_body : (xs : List ItemTree) (x : ItemTree) → In x xs → weigh_item 1 x ≤ weigh_body 1 (body_of xs)
item_in_body [] x i = absurd i
item_in_body (y ∷ ys) x (inl e) = let w = ap (weigh_item 1) e in omega (arith, w)
item_in_body (y ∷ ys) x (inr i) = let w = item_in_body ys x i in omega (arith, w)

pub item_weighs : (items : List Item) (k : ℕ) (x : Item) → k < length items → x ≡ get_or items k x → weigh_item 1 (item_tree x) < suc (weigh_body 1 (body_of (map item_tree items)))
item_weighs items k x h e = let w = item_in_body (map item_tree items) (item_tree x) (in_items items k x h e) in omega (arith, w)

pub for_weighs : (i : Item) (var from : VarId) (step : Step) (body : Body) (xs : List Item) → i ≡ item.For var from step body → map item_tree xs ≡ item_trees body
    → suc (weigh_body 1 (body_of (map item_tree xs))) < weigh_item 1 (item_tree i)
for_weighs i var from step body xs e trees =
    let u = ap (weigh_item 1) (ap item_tree e ∙ (fold_For var from step body ∙ ap (λ (z : List ItemTree). For var.0 from.0 step (body_of z)) (sym trees))) in
    omega (arith, u)
