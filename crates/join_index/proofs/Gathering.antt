-- The equalities of a plan, as they are gathered.
use Rattle.std.proofs.Common.{◌≡◌, ◌↔◌, ◌⊎◌, ◌+◌, ◌<◌, ◌≤◌, ◌++◌, ℕ, false, not, List, [], ◌∷◌, Option, Some, None, map, length, take, get_or, refl, sym, ap, ◌∙◌, subst, inl, inr, rules}
use Rattle.std.specs.Prelude.{MatchOption}
use Rattle.std.proofs.lemmas.List.{map-append, take_more, take_all}
use Rattle.gcx_base.specs.declared.ids.VarId.{VarId}
use Rattle.gcx_base.specs.declared.rel.Rel.{Rel}
use Rattle.gcx_base.specs.declared.rel.Rel.TheVariants.{Eq, Ne, Lt, Le, Gt, Ge}
use Rattle.gcx_base.specs.contracts.rel.Rel.{the_type as rel_type}
use denote.Enum.Bare.{sameb}
use Rattle.std.proofs.lemmas.Bool.{false≢true}
use Rattle.gcx_base.specs.declared.steps.Step.{Step}
use Rattle.gcx_model.specs.declared.cond.Cond.{Cond, the_lemmas as cond_lemmas}
use Rattle.gcx_model.specs.declared.cond.Cond as code
use Rattle.gcx_model.specs.declared.cond.Operand.{Operand}
use Rattle.gcx_model.specs.declared.item.Item.{Item, the_lemmas as item_lemmas}
use Rattle.gcx_model.specs.declared.item.Item.TheVariants as item
use Rattle.gcx_model.specs.declared.item.Body.{Body}
use Rattle.gcx_model.specs.declared.item.Off.{Off}
use Rattle.gcx_model.specs.Core as tree
use Rattle.gcx_model.specs.Core.{OperandTree, CondTree, ItemTree, BodyTree}
use Rattle.gcx_model.specs.CondView.{core_cond_tree, core_conds_of, operand_tree}
use Rattle.gcx_model.specs.ItemView.{item_tree, body_of, body_tree, off_tree}
use Rattle.gcx_model.specs.Members.{In}
use Rattle.gcx_model.proofs.Folds.{fold_For, fold_If}
use Rattle.gcx_model.specs.Tree.{Tree}
use Rattle.join_index.specs.declared.equality.Listed.{Listed}
use Rattle.join_index.specs.declared.equality.Equality.{Equality}
use Rattle.join_index.specs.Equalities.{VariablesDiffer, BodyHas, CondHas, GathersAll, HasEquality, ItemHas, NoneKept, NothingKept, SomeHas}
use Rattle.join_index.specs.Index.{AreLists, AreLooked}
use Rattle.join_index.specs.Lookups.{IsOf}

-- nothing is added
pub gathers_none : (qs : List Equality) (has : OperandTree → OperandTree → Type 0) → ((l r : OperandTree) → has l r → ⊥) → GathersAll qs qs has
gathers_none qs has isnt l r = ((λ h. inl h), back)
  where
    back : HasEquality qs l r ⊎ (has l r × VariablesDiffer l r) → HasEquality qs l r
    back (inl h) = h
    back (inr p) = absurd (isnt l r p.0)

-- first these, then those
pub gathers_on : (qs rs ps : List Equality) (f g h : OperandTree → OperandTree → Type 0) → ((l r : OperandTree) → h l r ↔ (f l r ⊎ g l r)) → GathersAll qs rs f → GathersAll rs ps g → GathersAll qs ps h
gathers_on qs rs ps f g h both a b l r = (λ k. there ((b l r).0 k), back)
  where
    first : HasEquality qs l r ⊎ (f l r × VariablesDiffer l r) → HasEquality qs l r ⊎ (h l r × VariablesDiffer l r)
    first (inl j) = inl j
    first (inr p) = inr ((both l r).1 (inl p.0), p.1)

    there : HasEquality rs l r ⊎ (g l r × VariablesDiffer l r) → HasEquality qs l r ⊎ (h l r × VariablesDiffer l r)
    there (inl i) = first ((a l r).0 i)
    there (inr p) = inr ((both l r).1 (inr p.0), p.1)

    part : VariablesDiffer l r → f l r ⊎ g l r → HasEquality ps l r
    part apart (inl x) = (b l r).1 (inl ((a l r).1 (inr (x, apart))))
    part apart (inr y) = (b l r).1 (inr (y, apart))

    back : HasEquality qs l r ⊎ (h l r × VariablesDiffer l r) → HasEquality ps l r
    back (inl k) = (b l r).1 (inl ((a l r).1 (inl k)))
    back (inr p) = part p.1 ((both l r).0 p.0)

-- ---- the items of a body

body_later : (y : ItemTree) (ys : List ItemTree) (x : ItemTree) (l r : OperandTree) → BodyHas l r (body_of (ys ++ x ∷ [])) ↔ (BodyHas l r (body_of ys) ⊎ ItemHas l r x)
    → BodyHas l r (body_of (y ∷ ys ++ x ∷ [])) ↔ (BodyHas l r (body_of (y ∷ ys)) ⊎ ItemHas l r x)
body_later y ys x l r rest = (there, back)
  where
    later : BodyHas l r (body_of ys) ⊎ ItemHas l r x → (ItemHas l r y ⊎ BodyHas l r (body_of ys)) ⊎ ItemHas l r x
    later (inl h) = inl (inr h)
    later (inr h) = inr h

    there : ItemHas l r y ⊎ BodyHas l r (body_of (ys ++ x ∷ [])) → (ItemHas l r y ⊎ BodyHas l r (body_of ys)) ⊎ ItemHas l r x
    there (inl h) = inl (inl h)
    there (inr h) = later (rest.0 h)

    back : (ItemHas l r y ⊎ BodyHas l r (body_of ys)) ⊎ ItemHas l r x → ItemHas l r y ⊎ BodyHas l r (body_of (ys ++ x ∷ []))
    back (inl (inl h)) = inl h
    back (inl (inr h)) = inr (rest.1 (inl h))
    back (inr h) = inr (rest.1 (inr h))

body_last : (xs : List ItemTree) (x : ItemTree) (l r : OperandTree) → BodyHas l r (body_of (xs ++ x ∷ [])) ↔ (BodyHas l r (body_of xs) ⊎ ItemHas l r x)
body_last [] x l r = (there, back)
  where
    there : ItemHas l r x ⊎ ⊥ → ⊥ ⊎ ItemHas l r x
    there (inl h) = inr h
    there (inr h) = absurd h

    back : ⊥ ⊎ ItemHas l r x → ItemHas l r x ⊎ ⊥
    back (inl h) = absurd h
    back (inr h) = inl h
body_last (y ∷ ys) x l r = body_later y ys x l r (body_last ys x l r)

abbrev pub GathersItems : (before now : List Equality) → List Item → Type 0
GathersItems before now items = GathersAll before now (λ l r. BodyHas l r (body_of (map item_tree items)))

pub items_none : (qs : List Equality) → GathersItems qs qs []
items_none qs = gathers_none qs (λ l r. BodyHas l r tree.Nil) (λ l r h. h)

-- one item more
pub items_more : (items : List Item) (i : ℕ) (item : Item) (before now more : List Equality) → i < length items → item ≡ get_or items i item
    → GathersItems before now (take i items) → GathersAll now more (λ l r. ItemHas l r (item_tree item)) → GathersItems before more (take (i + 1) items)
items_more items i item before now more low is a b =
    let longer : take (i + 1) items ≡ take i items ++ item ∷ [] = take_more items i item low ∙ ap (λ (z : Item). take i items ++ z ∷ []) (sym is) in
    let trees : map item_tree (take (i + 1) items) ≡ map item_tree (take i items) ++ item_tree item ∷ [] = ap (map item_tree) longer ∙ map-append item_tree (take i items) (item ∷ []) in
    subst (λ (z : List ItemTree). GathersAll before more (λ l r. BodyHas l r (body_of z))) (sym trees)
    (gathers_on before now more (λ l r. BodyHas l r (body_of (map item_tree (take i items)))) (λ l r. ItemHas l r (item_tree item)) (λ l r. BodyHas l r (body_of (map item_tree (take i items) ++ item_tree item ∷ [])))
    (body_last (map item_tree (take i items)) (item_tree item)) a b)

pub items_all : (items : List Item) (i : ℕ) (body : Body) (before now : List Equality) → length items ≤ i → map item_tree items ≡ map item_tree body.members.items
    → GathersItems before now (take i items) → GathersAll before now (λ l r. BodyHas l r (body_tree body))
items_all items i body before now h trees a =
    subst (λ (z : List ItemTree). GathersAll before now (λ l r. BodyHas l r (body_of z))) (ap (map item_tree) (take_all i items h) ∙ trees) a

-- what an item has
pub in_Write : (i : Item) (b : List ℕ) → i ≡ item.Write b → item_tree i ≡ tree.Write b
in_Write i b e = ap item_tree e ∙ fold_Write b
  where
    fold_Write : (b : List ℕ) → item_tree (item.Write b) ≡ tree.Write b
    fold_Write b = search (rules, item_lemmas)

pub in_Copy : (i : Item) (x : VarId) → i ≡ item.Copy x → item_tree i ≡ tree.Copy x.0
in_Copy i x e = ap item_tree e ∙ fold_Copy x
  where
    fold_Copy : (x : VarId) → item_tree (item.Copy x) ≡ tree.Copy x.0
    fold_Copy x = search (rules, item_lemmas)

pub in_Off : (i : Item) (off : Off) → i ≡ item.Off off → item_tree i ≡ tree.SignOff (off_tree off)
in_Off i off e = ap item_tree e ∙ fold_Off off
  where
    fold_Off : (off : Off) → item_tree (item.Off off) ≡ tree.SignOff (off_tree off)
    fold_Off off = search (rules, item_lemmas)

pub in_For : (i : Item) (var from : VarId) (step : Step) (body : Body) → i ≡ item.For var from step body → item_tree i ≡ tree.For var.0 from.0 step (body_tree body)
in_For i var from step body e = ap item_tree e ∙ fold_For var from step body

pub in_If : (i : Item) (cond : Cond) (this other : Body) → i ≡ item.If cond this other → item_tree i ≡ tree.If (core_cond_tree cond) (body_tree this) (body_tree other)
in_If i cond this other e = ap item_tree e ∙ fold_If cond this other

pub item_none : (i : Item) (t : ItemTree) (qs : List Equality) → item_tree i ≡ t → ((l r : OperandTree) → ItemHas l r t → ⊥) → GathersAll qs qs (λ l r. ItemHas l r (item_tree i))
item_none i t qs e isnt = subst (λ (z : ItemTree). GathersAll qs qs (λ l r. ItemHas l r z)) (sym e) (gathers_none qs (λ l r. ItemHas l r t) isnt)

-- the condition, and then both branches
pub item_if : (c : CondTree) (d e : BodyTree) (qs rs ps ss : List Equality) → GathersAll qs rs (λ l r. CondHas l r c) → GathersAll rs ps (λ l r. BodyHas l r d) → GathersAll ps ss (λ l r. BodyHas l r e)
    → GathersAll qs ss (λ l r. ItemHas l r (tree.If c d e))
item_if c d e qs rs ps ss f g h =
    gathers_on qs rs ss (λ l r. CondHas l r c) (λ l r. BodyHas l r d ⊎ BodyHas l r e) (λ l r. ItemHas l r (tree.If c d e)) (λ l r. (λ z. z, λ z. z)) f
    (gathers_on rs ps ss (λ l r. BodyHas l r d) (λ l r. BodyHas l r e) (λ l r. BodyHas l r d ⊎ BodyHas l r e) (λ l r. (λ z. z, λ z. z)) g h)

-- ---- the members of a condition

some_later : (y : CondTree) (ys : List CondTree) (x : CondTree) (l r : OperandTree) → SomeHas l r (core_conds_of (ys ++ x ∷ [])) ↔ (SomeHas l r (core_conds_of ys) ⊎ CondHas l r x)
    → SomeHas l r (core_conds_of (y ∷ ys ++ x ∷ [])) ↔ (SomeHas l r (core_conds_of (y ∷ ys)) ⊎ CondHas l r x)
some_later y ys x l r rest = (there, back)
  where
    later : SomeHas l r (core_conds_of ys) ⊎ CondHas l r x → (CondHas l r y ⊎ SomeHas l r (core_conds_of ys)) ⊎ CondHas l r x
    later (inl h) = inl (inr h)
    later (inr h) = inr h

    there : CondHas l r y ⊎ SomeHas l r (core_conds_of (ys ++ x ∷ [])) → (CondHas l r y ⊎ SomeHas l r (core_conds_of ys)) ⊎ CondHas l r x
    there (inl h) = inl (inl h)
    there (inr h) = later (rest.0 h)

    back : (CondHas l r y ⊎ SomeHas l r (core_conds_of ys)) ⊎ CondHas l r x → CondHas l r y ⊎ SomeHas l r (core_conds_of (ys ++ x ∷ []))
    back (inl (inl h)) = inl h
    back (inl (inr h)) = inr (rest.1 (inl h))
    back (inr h) = inr (rest.1 (inr h))

some_last : (xs : List CondTree) (x : CondTree) (l r : OperandTree) → SomeHas l r (core_conds_of (xs ++ x ∷ [])) ↔ (SomeHas l r (core_conds_of xs) ⊎ CondHas l r x)
some_last [] x l r = (there, back)
  where
    there : CondHas l r x ⊎ ⊥ → ⊥ ⊎ CondHas l r x
    there (inl h) = inr h
    there (inr h) = absurd h

    back : ⊥ ⊎ CondHas l r x → CondHas l r x ⊎ ⊥
    back (inl h) = absurd h
    back (inr h) = inl h
some_last (y ∷ ys) x l r = some_later y ys x l r (some_last ys x l r)

abbrev pub GathersConds : (before now : List Equality) → List Cond → Type 0
GathersConds before now conds = GathersAll before now (λ l r. SomeHas l r (core_conds_of (map core_cond_tree conds)))

pub conds_none : (qs : List Equality) → GathersConds qs qs []
conds_none qs = gathers_none qs (λ l r. SomeHas l r tree.no_cond) (λ l r h. h)

pub conds_more : (conds : List Cond) (i : ℕ) (c : Cond) (before now more : List Equality) → i < length conds → c ≡ get_or conds i c
    → GathersConds before now (take i conds) → GathersAll now more (λ l r. CondHas l r (core_cond_tree c)) → GathersConds before more (take (i + 1) conds)
conds_more conds i c before now more low is a b =
    let longer : take (i + 1) conds ≡ take i conds ++ c ∷ [] = take_more conds i c low ∙ ap (λ (z : Cond). take i conds ++ z ∷ []) (sym is) in
    let trees : map core_cond_tree (take (i + 1) conds) ≡ map core_cond_tree (take i conds) ++ core_cond_tree c ∷ [] = ap (map core_cond_tree) longer ∙ map-append core_cond_tree (take i conds) (c ∷ []) in
    subst (λ (z : List CondTree). GathersAll before more (λ l r. SomeHas l r (core_conds_of z))) (sym trees)
    (gathers_on before now more (λ l r. SomeHas l r (core_conds_of (map core_cond_tree (take i conds)))) (λ l r. CondHas l r (core_cond_tree c)) (λ l r. SomeHas l r (core_conds_of (map core_cond_tree (take i conds) ++ core_cond_tree c ∷ [])))
    (some_last (map core_cond_tree (take i conds)) (core_cond_tree c)) a b)

pub conds_all : (conds : List Cond) (i : ℕ) (trees : List CondTree) (before now : List Equality) → length conds ≤ i → map core_cond_tree conds ≡ trees
    → GathersConds before now (take i conds) → GathersAll before now (λ l r. SomeHas l r (core_conds_of trees))
conds_all conds i trees before now h e a =
    subst (λ (z : List CondTree). GathersAll before now (λ l r. SomeHas l r (core_conds_of z))) (ap (map core_cond_tree) (take_all i conds h) ∙ e) a

pub cond_none : (c : Cond) (t : CondTree) (qs : List Equality) → core_cond_tree c ≡ t → ((l r : OperandTree) → CondHas l r t → ⊥) → GathersAll qs qs (λ l r. CondHas l r (core_cond_tree c))
cond_none c t qs e isnt = subst (λ (z : CondTree). GathersAll qs qs (λ l r. CondHas l r z)) (sym e) (gathers_none qs (λ l r. CondHas l r t) isnt)

pub fold_True : core_cond_tree code.True ≡ tree.Always
fold_True = search (rules, cond_lemmas)

pub fold_Compare : (left : Operand) (rel : Rel) (right : Operand) → core_cond_tree (code.Compare left rel right) ≡ tree.Compare (operand_tree left) rel (operand_tree right)
fold_Compare left rel right = search (rules, cond_lemmas)

-- ---- one comparison

-- what a comparison of these two is, where it is an equality
abbrev pub IsEquality : Rel → (left right : OperandTree) → OperandTree → OperandTree → Type 0
IsEquality rel left right l r = (left ≡ l) × (rel ≡ Eq) × (right ≡ r)

-- it is there already
pub already_there : (qs : List Equality) (rel : Rel) (left right : OperandTree) → HasEquality qs left right → GathersAll qs qs (IsEquality rel left right)
already_there qs rel left right has l r = ((λ h. inl h), back)
  where
    back : HasEquality qs l r ⊎ (IsEquality rel left right l r × VariablesDiffer l r) → HasEquality qs l r
    back (inl h) = h
    back (inr p) =
        subst (λ (z : OperandTree). HasEquality qs z r) p.0.0
        (subst (λ (z : OperandTree). HasEquality qs left z) p.0.2 has)

in_last : (qs : List Equality) (q : Equality) → In q (qs ++ q ∷ [])
in_last [] q = inl refl
in_last (x ∷ qs) q = inr (in_last qs q)

in_front : (qs : List Equality) (q p : Equality) → In p qs → In p (qs ++ q ∷ [])
in_front [] q p i = absurd i
in_front (x ∷ qs) q p (inl e) = inl e
in_front (x ∷ qs) q p (inr i) = inr (in_front qs q p i)

pub in_either : (qs : List Equality) (q p : Equality) → In p (qs ++ q ∷ []) → In p qs ⊎ (q ≡ p)
in_either [] q p (inl e) = inr e
in_either [] q p (inr i) = absurd i
in_either (x ∷ qs) q p (inl e) = inl (inl e)
in_either (x ∷ qs) q p (inr i) = next (in_either qs q p i)
  where
    next : In p qs ⊎ (q ≡ p) → In p (x ∷ qs) ⊎ (q ≡ p)
    next (inl j) = inl (inr j)
    next (inr e) = inr e

-- it is added
pub one_added : (qs ps : List Equality) (q : Equality) (rel : Rel) (left right : OperandTree) → ps ≡ qs ++ q ∷ [] → IsOf q left right → VariablesDiffer left right → rel ≡ Eq → GathersAll qs ps (IsEquality rel left right)
one_added qs ps q rel left right e is apart eq = subst (λ (z : List Equality). GathersAll qs z (IsEquality rel left right)) (sym e) go
  where
    go : GathersAll qs (qs ++ q ∷ []) (IsEquality rel left right)
    go l r = (λ h. there h (in_either qs q h.equality h.among), back)
      where
        there : (h : HasEquality (qs ++ q ∷ []) l r) → In h.equality qs ⊎ (q ≡ h.equality) → HasEquality qs l r ⊎ (IsEquality rel left right l r × VariablesDiffer l r)
        there h (inl i) = inl (record { equality = h.equality; among = i; left = h.left; right = h.right })
        there h (inr s) =
            let was : IsOf h.equality left right = subst (λ (z : Equality). IsOf z left right) s is in
            let a : left ≡ l = sym was.0 ∙ h.left in
            let b : right ≡ r = sym was.1 ∙ h.right in
            inr ((a, eq, b), subst (λ (z : OperandTree). VariablesDiffer z r) a (subst (λ (z : OperandTree). VariablesDiffer left z) b apart))

        back : HasEquality qs l r ⊎ (IsEquality rel left right l r × VariablesDiffer l r) → HasEquality (qs ++ q ∷ []) l r
        back (inl h) = record { equality = h.equality; among = in_front qs q h.equality h.among; left = h.left; right = h.right }
        back (inr p) = record { equality = q; among = in_last qs q; left = is.0 ∙ p.0.0; right = is.1 ∙ p.0.2 }

pub none_added : (qs ps : List Equality) (q : Equality) → ps ≡ qs ++ q ∷ [] → NothingKept q → NoneKept qs → NoneKept ps
none_added qs ps q e none before p i = go (in_either qs q p (subst (λ (z : List Equality). In p z) e i))
  where
    go : In p qs ⊎ (q ≡ p) → NothingKept p
    go (inl j) = before p j
    go (inr s) = subst NothingKept s none

-- what was made of two operands
pub made_is : (o : Option Equality) (q : Equality) (l r : OperandTree) → o ≡ Some q → MatchOption o (VariablesDiffer l r → ⊥) (λ p. IsOf p l r × VariablesDiffer l r × NothingKept p) → IsOf q l r × VariablesDiffer l r × NothingKept q
made_is o q l r e m = subst (λ (z : Option Equality). MatchOption z (VariablesDiffer l r → ⊥) (λ p. IsOf p l r × VariablesDiffer l r × NothingKept p)) e m

-- what a test of the relation tells
pub rel_is : (rel : Rel) → false ≡ not (sameb rel_type rel Eq) → rel ≡ Eq
rel_is Eq e = refl
rel_is Ne e = absurd (false≢true e)
rel_is Lt e = absurd (false≢true e)
rel_is Le e = absurd (false≢true e)
rel_is Gt e = absurd (false≢true e)
rel_is Ge e = absurd (false≢true e)

-- where none has a list, all that are kept are right
pub fresh_lists : (qs : List Equality) → NoneKept qs → (P : Tree) → AreLists qs P
fresh_lists qs none P q i l e = let f : ◌≡◌ {A = Option Listed} None (Some l) = sym (none q i).list ∙ e in absurd (cc)

pub fresh_looked : (qs : List Equality) → NoneKept qs → (P : Tree) → AreLooked qs P
fresh_looked qs none P q i = record {
  steps = (none q i).steps;
  fits = (none q i).fits;
  told = λ l e. let f : ◌≡◌ {A = Option Listed} None (Some l) = sym (none q i).list ∙ e in absurd (cc);
}
