-- What is kept of a plan, as it is read: the statement of each spread role, the spread roles, room for walks, and the variables without descendant steps.
use Rattle.std.proofs.Common.{◌≡◌, ◌==◌, ◌+◌, ◌<◌, ◌≤◌, ◌++◌, ◌&&◌, ◌||◌, ℕ, zero, suc, Bool, true, false, cond, List, [], ◌∷◌, Option, Some, None, map, length, take, get_or, replicate, option_map, is_some, refl, sym, ap, ◌∙◌, inl, inr, arith, rules}
use Rattle.std.specs.Prelude.{slice_index_or, set as list_set}
use Rattle.std.specs.List.{filter}
use Rattle.std.specs.Ordering.{nat_cmp}
use Rattle.std.specs.Cmp.{nat_cmp_total, unsigned_tied}
use Rattle.std.specs.FinSet.{FinSet, contains, contains-insert}
use Rattle.std.proofs.Math.ListN.{get_or-map}
use Rattle.std.proofs.lemmas.List.{append-nil, append_assoc, length-map, map-append, take_more, take_all, map-set}
use Rattle.std.proofs.lemmas.Bool.{or_cases, or_left, or_right, eqb-true, eq-eqb, false≢true, true≢false, false_from_ne_true}
use Rattle.gcx_base.specs.declared.steps.Step.{Step}
use Rattle.gcx_model.specs.declared.item.Off.{Off}
use Rattle.gcx_base.specs.declared.ids.VarId.{VarId}
use Rattle.gcx_model.specs.declared.cond.Cond.{Cond}
use Rattle.gcx_model.specs.declared.item.Body.{Body}
use Rattle.gcx_model.specs.declared.item.Item.{Item, the_lemmas as item_lemmas}
use Rattle.gcx_model.specs.declared.item.Item.TheVariants as item
use Rattle.gcx_model.specs.Core as tree
use Rattle.gcx_model.proofs.Folds.{fold_For, fold_If}
use Rattle.gcx_model.specs.declared.plan.VarRow.{VarRow}
use Rattle.gcx_model.specs.Core.{OffTree, ItemTree, BodyTree, VarRowTree, PlanTree}
use Rattle.gcx_model.specs.Held.{paths_from, statement_of}
use Rattle.gcx_model.specs.ItemView.{item_tree, body_of, body_tree, off_tree, role_kind}
use Rattle.gcx_model.specs.Paths.{head}
use Rattle.gcx_model.specs.Placed.{item_offs, offs_in, of_role, Placed}
use Rattle.gcx_model.specs.Cores.{Good}
use Rattle.gcx_model.specs.PlanView.{plan_tree, role_row_tree, var_row_tree}
use Rattle.gcx_model.specs.declared.plan.Plan.{Plan}
use Rattle.gcx_model.specs.Variables.{all_child, is_child}
use Rattle.spread_laws.specs.Tops.{is_whole_kind, put_top, put_tops, top_in, top_off, tops_of}
use Rattle.spread_laws.proofs.Tables.{tables_tell, tables_built}
use Rattle.buf_tree.specs.Tops.{role_given, trees_of}

-- ---- the statements of a body

pub put_append : (xs ys : List OffTree) (ts : List (Option OffTree)) → put_tops (xs ++ ys) ts ≡ put_tops ys (put_tops xs ts)
put_append [] ys ts = refl
put_append (x ∷ xs) ys ts = put_append xs ys (put_top x ts)

offs_push : (xs : List ItemTree) (x : ItemTree) → offs_in (body_of (xs ++ x ∷ [])) ≡ offs_in (body_of xs) ++ item_offs x
offs_push [] x = append-nil (item_offs x)
offs_push (y ∷ ys) x = ap (λ os. item_offs y ++ os) (offs_push ys x) ∙ sym (append_assoc (item_offs y) (offs_in (body_of ys)) (item_offs x))

-- the statements of one more item
pub put_next : (items : List Item) (i : ℕ) (item : Item) (before ts more : List (Option OffTree)) → i < length items → item ≡ get_or items i item
    → ts ≡ put_tops (offs_in (body_of (map item_tree (take i items)))) before
    → more ≡ put_tops (item_offs (item_tree item)) ts
    → more ≡ put_tops (offs_in (body_of (map item_tree (take (i + 1) items)))) before
put_next items i item before ts more l is was put =
    let front = map item_tree (take i items) in
    let longer : take (i + 1) items ≡ take i items ++ item ∷ [] = take_more items i item l ∙ ap (λ (z : Item). take i items ++ z ∷ []) (sym is) in
    put ∙ ap (put_tops (item_offs (item_tree item))) was
    ∙ sym (put_append (offs_in (body_of front)) (item_offs (item_tree item)) before)
    ∙ ap (λ os. put_tops os before) (sym (offs_push front (item_tree item)))
    ∙ ap (λ z. put_tops (offs_in (body_of z)) before) (sym (ap (map item_tree) longer ∙ map-append item_tree (take i items) (item ∷ [])))

pub put_all : (items : List Item) (i : ℕ) (before ts : List (Option OffTree)) → length items ≤ i
    → ts ≡ put_tops (offs_in (body_of (map item_tree (take i items)))) before
    → ts ≡ put_tops (offs_in (body_of (map item_tree items))) before
put_all items i before ts l was = was ∙ ap (λ z. put_tops (offs_in (body_of (map item_tree z))) before) (take_all i items l)

-- what an item's statements are
pub in_Write : (i : Item) (b : List ℕ) → i ≡ item.Write b → item_offs (item_tree i) ≡ []
in_Write i b e = ap (λ z. item_offs (item_tree z)) e ∙ ap item_offs (fold_Write b)
  where
    fold_Write : (b : List ℕ) → item_tree (item.Write b) ≡ tree.Write b
    fold_Write b = search (rules, item_lemmas)

pub in_Copy : (i : Item) (x : VarId) → i ≡ item.Copy x → item_offs (item_tree i) ≡ []
in_Copy i x e = ap (λ z. item_offs (item_tree z)) e ∙ ap item_offs (fold_Copy x)
  where
    fold_Copy : (x : VarId) → item_tree (item.Copy x) ≡ tree.Copy x.0
    fold_Copy x = search (rules, item_lemmas)

pub in_For : (i : Item) (var from : VarId) (step : Step) (body : Body) → i ≡ item.For var from step body → item_offs (item_tree i) ≡ offs_in (body_tree body)
in_For i var from step body e = ap (λ z. item_offs (item_tree z)) e ∙ ap item_offs (fold_For var from step body)

pub in_If : (i : Item) (cond : Cond) (this other : Body) → i ≡ item.If cond this other → item_offs (item_tree i) ≡ offs_in (body_tree this) ++ offs_in (body_tree other)
in_If i cond this other e = ap (λ z. item_offs (item_tree z)) e ∙ ap item_offs (fold_If cond this other)

pub in_Off : (i : Item) (off : Off) → i ≡ item.Off off → item_offs (item_tree i) ≡ off_tree off ∷ []
in_Off i off e = ap (λ z. item_offs (item_tree z)) e ∙ ap item_offs (fold_Off off)
  where
    fold_Off : (off : Off) → item_tree (item.Off off) ≡ tree.SignOff (off_tree off)
    fold_Off off = search (rules, item_lemmas)

-- ---- the table

pub no_tops_trees : (n : ℕ) → map (option_map off_tree) (replicate n None) ≡ replicate n None
no_tops_trees zero = refl
no_tops_trees (suc n) = ap (λ ts. None ∷ ts) (no_tops_trees n)

pub set_past : {X : Type 0} (xs : List X) (i : ℕ) (x : X) → length xs ≤ i → xs ≡ list_set xs i x
set_past [] i x l = refl
set_past (y ∷ ys) zero x l = absurd (omega arith)
set_past (y ∷ ys) (suc i) x l = ap (λ zs. y ∷ zs) (set_past ys i x (omega arith))

-- a statement of a role that isn't spread, and of one that is
pub put_none : (off : Off) (ts : List (Option OffTree)) → is_whole_kind (role_kind off.kind) ≡ false → ts ≡ put_tops (off_tree off ∷ []) ts
put_none off ts e = sym (ap (λ b. cond b (list_set ts off.role.0 (Some (top_off (off_tree off)))) ts) e)

pub put_one : (off top : Off) (tops more : List (Option Off)) → is_whole_kind (role_kind off.kind) ≡ true → off_tree top ≡ top_off (off_tree off)
    → more ≡ list_set tops off.role.0 (Some top) → trees_of more ≡ put_tops (off_tree off ∷ []) (trees_of tops)
put_one off top tops more whole is e =
    ap trees_of e ∙ map-set (option_map off_tree) tops off.role.0 (Some top)
    ∙ ap (λ (t : OffTree). list_set (trees_of tops) off.role.0 (Some t)) is
    ∙ sym (ap (λ b. cond b (list_set (trees_of tops) off.role.0 (Some (top_off (off_tree off)))) (trees_of tops)) whole)

some_same : {X : Type 0} (x y : X) → Some x ≡ Some y → x ≡ y
some_same x y e = cc

-- the statement of an entry has the entry's role
head_role : (r : ℕ) (os : List OffTree) (s : OffTree) → head (filter (of_role r) os) ≡ Some s → s.role ≡ r
head_role r [] s e = absurd (false≢true (ap is_some e))
head_role r (o ∷ os) s e = go (of_role r o) refl (head_role r os s) e
  where
    go : (b : Bool) → of_role r o ≡ b → (head (filter (of_role r) os) ≡ Some s → s.role ≡ r)
        → head (cond b (o ∷ filter (of_role r) os) (filter (of_role r) os)) ≡ Some s → s.role ≡ r
    go true is later e = ap (λ (z : OffTree). z.role) (sym (some_same o s e)) ∙ eqb-true o.role r is
    go false is later e = later e

pub own_role : (core : BodyTree) → Good core → (plan : PlanTree) → Placed core plan → (tops : List (Option Off)) → map (option_map off_tree) tops ≡ tops_of plan
    → (r : ℕ) (top : Off) → slice_index_or tops r None ≡ Some top → top.role.0 ≡ r
own_role core good plan pl tops is r top e = go (statement_of plan r) refl told
  where
    told : Some (off_tree top) ≡ top_in (statement_of plan r)
    told =
        sym (ap (option_map off_tree) e) ∙ sym (get_or-map (option_map off_tree) tops r None)
        ∙ ap (λ (ts : List (Option OffTree)). slice_index_or ts r None) is ∙ (tables_tell core good plan pl).0 r

    whole : (o : OffTree) → statement_of plan r ≡ Some o → (b : Bool) → Some (off_tree top) ≡ cond b (Some (top_off o)) None → top.role.0 ≡ r
    whole o s true t = ap (λ (z : OffTree). z.role) (some_same (off_tree top) (top_off o) t) ∙ head_role r (offs_in plan.body) o s
    whole o s false t = absurd (true≢false (ap is_some t))

    go : (o : Option OffTree) → statement_of plan r ≡ o → Some (off_tree top) ≡ top_in o → top.role.0 ≡ r
    go None s t = absurd (true≢false (ap is_some t))
    go (Some o) s t = whole o s (is_whole_kind o.kind) t

-- what is read of a plan into a table of no statements
pub table_is : (core : BodyTree) → Good core → (plan : Plan) → Placed core (plan_tree plan) → (n : ℕ) → n ≡ length plan.roles → (blank tops : List (Option Off)) → blank ≡ replicate n None
    → trees_of tops ≡ put_tops (offs_in (body_tree plan.body)) (trees_of blank) → trees_of tops ≡ tops_of (plan_tree plan)
table_is core good plan pl n long blank tops none put =
    put
    ∙ ap (put_tops (offs_in (body_tree plan.body)))
    (ap trees_of none ∙ no_tops_trees n ∙ ap (λ k. replicate k None) (long ∙ sym (length-map plan.roles role_row_tree)))
    ∙ tables_built core good (plan_tree plan) pl

-- ---- the roles of which the table has a statement

abbrev pub is_role : ℕ → Option Off → Bool
is_role r None = false
is_role r (Some top) = r == top.role.0

abbrev pub has_role : ℕ → List (Option Off) → Bool
has_role r [] = false
has_role r (t ∷ ts) = is_role r t || has_role r ts

or_same : (a b c : Bool) → (a || (b || c)) ≡ (b || (a || c))
or_same true true c = refl
or_same true false c = refl
or_same false b c = refl

has_push : (r : ℕ) (ts : List (Option Off)) (t : Option Off) → has_role r (ts ++ t ∷ []) ≡ (is_role r t || has_role r ts)
has_push r [] t = refl
has_push r (s ∷ ss) t = ap (λ b. is_role r s || b) (has_push r ss t) ∙ or_same (is_role r s) (is_role r t) (has_role r ss)

with_has : (t : Option Off) (s : FinSet nat_cmp) (r : ℕ) → contains (role_given t s) r ≡ (is_role r t || contains s r)
with_has None s r = refl
with_has (Some top) s r = contains-insert nat_cmp_total s top.role.0 r ∙ ap (λ b. b || contains s r) (unsigned_tied r top.role.0)

pub roles_next : (tops : List (Option Off)) (i : ℕ) (d : Option Off) (s more : FinSet nat_cmp) → i < length tops
    → ((r : ℕ) → contains s r ≡ has_role r (take i tops)) → more ≡ role_given (get_or tops i d) s → (r : ℕ) → contains more r ≡ has_role r (take (i + 1) tops)
roles_next tops i d s more l was e r =
    ap (λ z. contains z r) e ∙ with_has (get_or tops i d) s r ∙ ap (λ b. is_role r (get_or tops i d) || b) (was r)
    ∙ sym (ap (has_role r) (take_more tops i d l) ∙ has_push r (take i tops) (get_or tops i d))

at_entry : (r : ℕ) (tops : List (Option Off)) (i : ℕ) (top : Off) → slice_index_or tops i None ≡ Some top → r ≡ top.role.0 → has_role r tops ≡ true
at_entry r [] i top e is = absurd (false≢true (ap is_some e))
at_entry r (t ∷ ts) zero top e is = or_left _ _ (ap (is_role r) e ∙ eq-eqb r top.role.0 is)
at_entry r (t ∷ ts) (suc i) top e is = or_right _ _ (at_entry r ts i top e is)

entry_of : (r : ℕ) (tops : List (Option Off)) → has_role r tops ≡ true → (i : ℕ) × (top : Off) × (slice_index_or tops i None ≡ Some top) × (top.role.0 ≡ r)
entry_of r [] h = absurd (false≢true h)
entry_of r (None ∷ ts) h = let q = entry_of r ts h in (suc q.0, q.1, q.2, q.3)
entry_of r (Some top ∷ ts) h = elim (or_cases (r == top.role.0) (has_role r ts) h) [
  | inl e ↦ (zero, top, refl, sym (eqb-true r top.role.0 e))
  | inr later ↦ (let q = entry_of r ts later in (suc q.0, q.1, q.2, q.3))
]

pub roles_all : (tops : List (Option Off)) (i : ℕ) (s : FinSet nat_cmp) → length tops ≤ i
    → ((r : ℕ) (top : Off) → slice_index_or tops r None ≡ Some top → top.role.0 ≡ r)
    → ((r : ℕ) → contains s r ≡ has_role r (take i tops)) → (r : ℕ) → contains s r ≡ is_some (slice_index_or tops r None)
roles_all tops i s l own was r = was r ∙ ap (has_role r) (take_all i tops l) ∙ go (slice_index_or tops r None) refl
  where
    go : (t : Option Off) → slice_index_or tops r None ≡ t → has_role r tops ≡ is_some t
    go (Some top) e = at_entry r tops r top e (sym (own r top e))
    go None e = false_from_ne_true _ (λ h.
        let q = entry_of r tops h in
        let same : q.0 ≡ r = sym (own q.0 q.1 q.2) ∙ q.3 in
        let there : None ≡ Some q.1 = sym e ∙ ap (λ z. slice_index_or tops z None) (sym same) ∙ q.2 in
        false≢true (ap is_some there))

-- ---- room for walks

abbrev pub HasRoomTo : List (Option Off) → ℕ → (capacity : ℕ) → Type 0
HasRoomTo tops i capacity = (r : ℕ) (top : Off) → r < i → slice_index_or tops r None ≡ Some top → length top.rel + 1 ≤ capacity

here_is : (tops : List (Option Off)) (i : ℕ) (d : Option Off) (top : Off) → i < length tops → slice_index_or tops i None ≡ Some top → get_or tops i d ≡ Some top
here_is [] i d top l e = absurd (omega arith)
here_is (t ∷ ts) zero d top l e = e
here_is (t ∷ ts) (suc i) d top l e = here_is ts i d top (omega arith) e

below_all : (tops : List (Option Off)) (r : ℕ) (top : Off) → slice_index_or tops r None ≡ Some top → r < length tops
below_all [] r top e = absurd (false≢true (ap is_some e))
below_all (t ∷ ts) zero top e = omega arith
below_all (t ∷ ts) (suc r) top e = let l = below_all ts r top e in omega arith

pub room_next : (tops : List (Option Off)) (i : ℕ) (d : Option Off) (was now : ℕ) → i < length tops → HasRoomTo tops i was → was ≤ now
    → ((top : Off) → get_or tops i d ≡ Some top → length top.rel + 1 ≤ now) → HasRoomTo tops (i + 1) now
room_next tops i d was now l before grown here r top below e = go (r == i) refl
  where
    go : (b : Bool) → (r == i) ≡ b → length top.rel + 1 ≤ now
    go true is = here top (here_is tops i d top l (ap (λ z. slice_index_or tops z None) (sym (eqb-true r i is)) ∙ e))
    go false other = let old = before r top (let apart : r ≡ i → ⊥ = λ s. false≢true (sym other ∙ eq-eqb r i s) in omega (arith, below, apart)) e in omega (arith, old, grown)

pub room_all : (tops : List (Option Off)) (i capacity : ℕ) → length tops ≤ i → HasRoomTo tops i capacity
    → (r : ℕ) (top : Off) → slice_index_or tops r None ≡ Some top → length top.rel + 1 ≤ capacity
room_all tops i capacity l has r top e = let below = below_all tops r top e in has r top (omega (arith, l, below)) e

-- ---- variables without descendant steps

paths_push : (rows : List VarRowTree) (r : VarRowTree) (ps : List (List Step))
    → paths_from ps (rows ++ r ∷ []) ≡ paths_from ps rows ++ (slice_index_or (paths_from ps rows) r.parent [] ++ r.step ∷ []) ∷ []
paths_push [] r ps = refl
paths_push (q ∷ qs) r ps = paths_push qs r (ps ++ (slice_index_or ps q.parent [] ++ q.step ∷ []) ∷ [])

and_true : (b : Bool) → (b && true) ≡ b
and_true true = refl
and_true false = refl

and_both : (a b c : Bool) → (a && (b && c)) ≡ ((a && b) && c)
and_both true b c = refl
and_both false b c = refl

all_child_push : (steps : List Step) (s : Step) → all_child (steps ++ s ∷ []) ≡ (all_child steps && is_child s.axis)
all_child_push [] s = and_true (is_child s.axis)
all_child_push (x ∷ xs) s = ap (λ b. is_child x.axis && b) (all_child_push xs s) ∙ and_both (is_child x.axis) (all_child xs) (is_child s.axis)

abbrev pub alone_to : List VarRow → ℕ → List Bool
alone_to rows i = map all_child (paths_from ([] ∷ []) (map var_row_tree (take i rows)))

pub alone_next : (rows : List VarRow) (i : ℕ) (d : VarRow) (alone more : List Bool) (b : Bool) → i < length rows → alone ≡ alone_to rows i
    → b ≡ (slice_index_or alone (get_or rows i d).parent.0 true && is_child (get_or rows i d).step.axis) → more ≡ alone ++ b ∷ [] → more ≡ alone_to rows (i + 1)
alone_next rows i d alone more b l was is pushed =
    let row = var_row_tree (get_or rows i d) in
    let paths = paths_from ([] ∷ []) (map var_row_tree (take i rows)) in
    let path = slice_index_or paths row.parent [] in
    let told : b ≡ all_child (path ++ row.step ∷ []) =
    is ∙ ap (λ z. slice_index_or z row.parent true && is_child row.step.axis) was
    ∙ ap (λ c. c && is_child row.step.axis) (get_or-map all_child paths row.parent [])
    ∙ sym (all_child_push path row.step) in
    pushed ∙ (λ j. was j ++ told j ∷ [])
    ∙ sym (map-append all_child paths ((path ++ row.step ∷ []) ∷ []))
    ∙ ap (map all_child) (sym (paths_push (map var_row_tree (take i rows)) row ([] ∷ [])))
    ∙ ap (λ z. map all_child (paths_from ([] ∷ []) z)) (sym (ap (map var_row_tree) (take_more rows i d l) ∙ map-append var_row_tree (take i rows) (get_or rows i d ∷ [])))

pub alone_all : (rows : List VarRow) (i : ℕ) (alone : List Bool) → length rows ≤ i → alone ≡ alone_to rows i → alone ≡ map all_child (paths_from ([] ∷ []) (map var_row_tree rows))
alone_all rows i alone l was = was ∙ ap (λ z. map all_child (paths_from ([] ∷ []) (map var_row_tree z))) (take_all i rows l)
