-- The copy of a node, from its rows.
use Rattle.std.proofs.Common.{◌≡◌, ◌⊎◌, ℕ, zero, suc, ◌+◌, ◌-◌, ◌<◌, ◌≤◌, Bool, true, false, cond, List, [], ◌∷◌, ◌++◌, length, get_or, refl, sym, ◌∙◌, ap, subst, inl, inr, arith, eqb, append_assoc, append-nil, Option}
use Rattle.std.specs.List.{filter, flat_map}
use Rattle.std.proofs.lemmas.List.{drop_all, get_or_default, get_or_past}
use Rattle.std.proofs.lemmas.Bool.{cases_lt, cases_order, ne_eqb, eq-eqb, false≢true, and_right}
use Rattle.gcx_base.specs.declared.steps.Axis.TheVariants.{Child}
use Rattle.gcx_base.specs.declared.steps.Test.TheVariants.{AnyNode}
use Rattle.gcx_model.specs.Tree.{Node, Root, serial_of, kind_of, Tree}
use Rattle.gcx_base.specs.Tests.{passes}
use Rattle.gcx_model.specs.Paths.{reach, hits}
use Rattle.gcx_model.specs.Members.{In}
use Rattle.gcx_model.specs.Written.{start_tag, end_tag, escaped}
use Rattle.gcx_model.specs.Answer.{children, child_step, copied, copied_with, copy_of}
use Rattle.doc_tree.specs.declared.row.Content.{Content}
use Rattle.doc_tree.specs.declared.row.Content.TheVariants as content
use Rattle.doc_tree.specs.declared.row.Row.{Row}
use Rattle.gcx_base.specs.Kinds.{is_text}
use Rattle.doc_tree.specs.Rows.{kind_in, node_at, nodes_of, tree_of_rows, no_row, parent_in, IsNested, IsBehind}
use Rattle.doc_tree.specs.Copies.{whole, kids, bytes_below}
use Rattle.doc_tree.proofs.Nodes.{Rises, are_nodes, length-nodes_of}
use Rattle.doc_tree.proofs.Steps.{hits_one, lies_low}
use Rattle.doc_tree.proofs.Order.{number, rises, row_node, drop_on}

-- a child comes later
no_child : (n : ℕ) (m : Node) → Rises m → serial_of m ≤ n → hits n (child_step ∷ []) m ≡ false
no_child n m r le = hits_one n child_step m r ∙ and_right (passes AnyNode (kind_of m)) _ (lies_low Child n m r le)

-- each content is that of a node
node_kind : (c : Content) → passes AnyNode (kind_in c) ≡ true
node_kind (content.Element name) = refl
node_kind (content.Text bytes) = refl

module _ (rows : List Row) (nested : IsNested rows) where
  abbrev node : ℕ → Node
  node i = node_at (nodes_of rows) i

  -- whether the node of a row is a child
  row_child : (n k : ℕ) → k < length rows → hits n (child_step ∷ []) (node (suc k)) ≡ eqb (parent_in rows k) n
  row_child n k h =
      let e = row_node rows nested k h in
      let l = nested.low k h in
      hits_one n child_step (node (suc k)) (rises rows nested (suc k) (omega arith))
      ∙ ap (reach n child_step) e
      ∙ rw (node_kind (get_or rows k no_row).content, number rows nested (parent_in rows k) (omega arith)) refl

  kids_at : (n k : ℕ) (b : Bool) → k < length rows → eqb (parent_in rows k) n ≡ b → kids rows n (suc k) ≡ cond b (node (suc k) ∷ kids rows n (suc (suc k))) (kids rows n (suc (suc k)))
  kids_at n k b h e = ap (filter (hits n (child_step ∷ []))) (drop_on rows nested (suc k) (omega arith)) ∙ ap (λ c. cond c (node (suc k) ∷ kids rows n (suc (suc k))) (kids rows n (suc (suc k)))) (row_child n k h ∙ e)

  -- a child, and the rest of the children
  pub kids_here : (n k : ℕ) → k < length rows → parent_in rows k ≡ n → kids rows n (suc k) ≡ node (suc k) ∷ kids rows n (suc (suc k))
  kids_here n k h e = kids_at n k true h (eq-eqb _ _ e)

  pub kids_past : (n k : ℕ) → k < length rows → (parent_in rows k ≡ n → ⊥) → kids rows n (suc k) ≡ kids rows n (suc (suc k))
  kids_past n k h e = kids_at n k false h (ne_eqb _ _ e)

  -- no child among d rows
  kids_skip : (n d k : ℕ) → k + d ≤ length rows → ((j : ℕ) → k ≤ j → j < k + d → parent_in rows j ≡ n → ⊥) → kids rows n (suc k) ≡ kids rows n (suc (k + d))
  kids_skip n zero k h none = let e : k ≡ k + 0 = omega arith in ap (λ i. kids rows n (suc i)) e
  kids_skip n (suc d) k h none =
      let e : suc k + d ≡ k + suc d = omega arith in
      kids_past n k (omega arith) (none k (omega arith) (omega arith))
      ∙ kids_skip n d (suc k) (omega arith) (λ j f g. none j (omega arith) (omega arith))
      ∙ ap (λ i. kids rows n (suc i)) e

  pub kids_on : (n k l : ℕ) → k ≤ l → l ≤ length rows → ((j : ℕ) → k ≤ j → j < l → parent_in rows j ≡ n → ⊥) → kids rows n (suc k) ≡ kids rows n (suc l)
  kids_on n k l le h none =
      let e : k + (l - k) ≡ l = omega arith in
      kids_skip n (l - k) k (omega arith) (λ j f g. none j f (omega arith)) ∙ ap (λ i. kids rows n (suc i)) e

  pub kids_end : (n k : ℕ) → length rows ≤ k → kids rows n (suc k) ≡ []
  kids_end n k h = ap (filter (hits n (child_step ∷ []))) (drop_all (suc k) (nodes_of rows) (omega (arith, length-nodes_of rows)))

  early : (n d i : ℕ) → i + d ≤ suc n → n ≤ length rows → kids rows n i ≡ kids rows n (i + d)
  early n zero i h t = let e : i ≡ i + 0 = omega arith in ap (kids rows n) e
  early n (suc d) i h t =
      let e : suc i + d ≡ i + suc d = omega arith in
      ap (filter (hits n (child_step ∷ []))) (drop_on rows nested i (omega arith))
      ∙ ap (λ c. cond c (node i ∷ kids rows n (suc i)) (kids rows n (suc i))) (no_child n (node i) (rises rows nested i (omega arith)) (let f = number rows nested i (omega arith) in omega arith))
      ∙ early n d (suc i) (omega arith) t
      ∙ ap (kids rows n) e

  -- the children of a node stand behind it
  pub children_kids : (n : ℕ) → n ≤ length rows → children (whole rows) (node n) ≡ kids rows n (suc n)
  children_kids n h = ap (λ i. kids rows i 0) (number rows nested n h) ∙ (let e : 0 + suc n ≡ suc n = omega arith in early n (suc n) 0 (omega arith) h ∙ ap (kids rows n) e)

in_place : (xs : List Node) (m : Node) → In m xs → (i : ℕ) × (i < length xs) × (node_at xs i ≡ m)
in_place [] m h = absurd h
in_place (x ∷ xs) m (inl e) = (0, omega arith, e)
in_place (x ∷ xs) m (inr h) = let r = in_place xs m h in let l = r.1 in (suc r.0, omega arith, r.2)

flat_same : (f g : Node → List ℕ) (h : Node → Bool) (xs : List Node) → ((m : Node) → In m xs → h m ≡ true → f m ≡ g m) → flat_map f (filter h xs) ≡ flat_map g (filter h xs)
flat_same f g h [] e = refl
flat_same f g h (x ∷ xs) e = go (h x) refl (flat_same f g h xs (λ m i. e m (inr i)))
  where
    go : (b : Bool) → h x ≡ b → flat_map f (filter h xs) ≡ flat_map g (filter h xs) → flat_map f (cond b (x ∷ filter h xs) (filter h xs)) ≡ flat_map g (cond b (x ∷ filter h xs) (filter h xs))
    go true t r = rw (e x (inl refl) t, r) refl
    go false t r = r

module _ (rows : List Row) where
  abbrev P : Tree
  P = whole rows

  -- more depth changes nothing
  enough : (a b : ℕ) (m : Node) → In m (nodes_of rows) → length (nodes_of rows) ≤ a + serial_of m → length (nodes_of rows) ≤ b + serial_of m → copied a P m ≡ copied b P m
  enough zero b m i f g = absurd (here (in_place (nodes_of rows) m i))
    where
      here : (x : (i : ℕ) × (i < length (nodes_of rows)) × (node_at (nodes_of rows) i ≡ m)) → ⊥
      here x = let e = (are_nodes rows).number x.0 x.1 in let s = ap serial_of x.2 in let l = x.1 in omega arith
  enough (suc a) zero m i f g = absurd (here (in_place (nodes_of rows) m i))
    where
      here : (x : (i : ℕ) × (i < length (nodes_of rows)) × (node_at (nodes_of rows) i ≡ m)) → ⊥
      here x = let e = (are_nodes rows).number x.0 x.1 in let s = ap serial_of x.2 in let l = x.1 in omega arith
  enough (suc a) (suc b) m i f g = ap (copied_with (kind_of m)) (flat_same (copied a P) (copied b P) (hits (serial_of m) (child_step ∷ [])) (nodes_of rows) (λ c j t. go c j t (λ l. enough a b c j (omega arith) (omega arith)) (cases_lt (serial_of m) (serial_of c))))
    where
      go : (c : Node) → In c (nodes_of rows) → hits (serial_of m) (child_step ∷ []) c ≡ true → (serial_of m < serial_of c → copied a P c ≡ copied b P c) → (serial_of m < serial_of c) ⊎ (serial_of c ≤ serial_of m) → copied a P c ≡ copied b P c
      go c j t deeper (inl later) = deeper later
      go c j t deeper (inr early) =
          let x = in_place (nodes_of rows) c j in
          absurd (false≢true (sym (no_child (serial_of m) c (subst Rises x.2 ((are_nodes rows).rises x.0 x.1)) early) ∙ t))

  -- one level of a copy
  pub copy_step : (m : Node) → In m (nodes_of rows) → copy_of P m ≡ copied_with (kind_of m) (flat_map (copy_of P) (children P m))
  copy_step m i =
      let e : length (nodes_of rows) ≡ suc (length rows) = length-nodes_of rows ∙ omega arith in
      ap (λ n. copied n P m) e
      ∙ ap (copied_with (kind_of m)) (flat_same (copied (length rows) P) (copy_of P) (hits (serial_of m) (child_step ∷ [])) (nodes_of rows) (λ c j t. go c j t (cases_lt (serial_of m) (serial_of c))))
    where
      go : (c : Node) → In c (nodes_of rows) → hits (serial_of m) (child_step ∷ []) c ≡ true → (serial_of m < serial_of c) ⊎ (serial_of c ≤ serial_of m) → copied (length rows) P c ≡ copy_of P c
      go c j t (inl later) = enough (length rows) (length (nodes_of rows)) c j (omega (arith, length-nodes_of rows)) (omega arith)
      go c j t (inr early) =
          let x = in_place (nodes_of rows) c j in
          absurd (false≢true (sym (no_child (serial_of m) c (subst Rises x.2 ((are_nodes rows).rises x.0 x.1)) early) ∙ t))

at_in : (xs : List Node) (i : ℕ) → i < length xs → In (node_at xs i) xs
at_in [] i h = absurd (omega arith)
at_in (x ∷ xs) zero h = inl refl
at_in (x ∷ xs) (suc i) h = inr (at_in xs i (omega arith))

-- the copies of the children from the number i on
abbrev pub bytes_from : List Row → ℕ → ℕ → List ℕ
bytes_from rows n i = flat_map (copy_of (whole rows)) (kids rows n i)

pub node_copy : (rows : List Row) (i : ℕ) → i ≤ length rows → copy_of (whole rows) (node_at (nodes_of rows) i) ≡ copied_with (kind_of (node_at (nodes_of rows) i)) (bytes_below rows i)
node_copy rows i h = copy_step rows (node_at (nodes_of rows) i) (at_in (nodes_of rows) i (omega (arith, length-nodes_of rows)))

pub root_copy : (rows : List Row) → copy_of (whole rows) (node_at (nodes_of rows) 0) ≡ bytes_below rows 0
root_copy rows = node_copy rows 0 (omega arith) ∙ ap (λ (m : Node). copied_with (kind_of m) (bytes_below rows 0)) (are_nodes rows).first

pub row_copy : (rows : List Row) (k : ℕ) → IsNested rows → k < length rows → copy_of (whole rows) (node_at (nodes_of rows) (suc k)) ≡ copied_with (kind_in (get_or rows k no_row).content) (bytes_below rows (suc k))
row_copy rows k nested h = node_copy rows (suc k) (omega arith) ∙ ap (λ (m : Node). copied_with (kind_of m) (bytes_below rows (suc k))) (row_node rows nested k h)

-- a text has no children
pub behind_text : (rows : List Row) (k : ℕ) → IsNested rows → k < length rows → is_text (kind_in (get_or rows k no_row).content) ≡ true → IsBehind rows (suc k) (suc k)
behind_text rows k nested h t = record {
  from = omega arith;
  to = omega arith;
  inside = λ j f g. absurd (omega arith);
  outside = λ g. go g (cases_order (parent_in rows (suc k)) (suc k));
}
  where
    go : suc k < length rows → (parent_in rows (suc k) ≡ suc k) ⊎ ((parent_in rows (suc k) < suc k) ⊎ (suc k < parent_in rows (suc k))) → parent_in rows (suc k) < suc k
    go g (inl e) = absurd (false≢true (sym (nested.holders (suc k) g) ∙ (ap (λ i. is_text (kind_of (node_at (nodes_of rows) i))) e ∙ (ap (λ m. is_text (kind_of m)) (row_node rows nested k h) ∙ t))))
    go g (inr (inl l)) = l
    go g (inr (inr l)) = let low = nested.low (suc k) g in absurd (omega arith)

-- Writing what is below p: the next row is no deeper than its children, and the bytes so far and those to come are all.
pub record Writes (rows : List Row) (p at : ℕ) (before out : List ℕ) : Type 0 where
  pub from : p ≤ at
  pub to : at ≤ length rows
  pub inside : (k : ℕ) → p ≤ k → k < at → p ≤ parent_in rows k
  pub next : at < length rows → parent_in rows at ≤ p
  pub bytes : out ++ bytes_from rows p (suc at) ≡ before ++ bytes_below rows p

pub writes_none : (rows : List Row) (p : ℕ) (before : List ℕ) → IsNested rows → p ≤ length rows → Writes rows p p before before
writes_none rows p before nested h = record {
  from = omega arith;
  to = h;
  inside = λ k f g. absurd (omega arith);
  next = λ g. nested.low p g;
  bytes = ap (λ l. before ++ flat_map (copy_of (whole rows)) l) (sym (children_kids rows nested p h));
}

pub writes_child : (rows : List Row) (p at next : ℕ) (before out : List ℕ) → IsNested rows → Writes rows p at before out → at < length rows → parent_in rows at ≡ p → IsBehind rows (suc at) next
    → Writes rows p next before (out ++ copy_of (whole rows) (node_at (nodes_of rows) (suc at)))
writes_child rows p at next before out nested w h e b = record {
  from = let f = w.from in let g = b.from in omega arith;
  to = b.to;
  inside = λ k f g. elim (cases_order k at) [
    | inl s ↦ (let x = ap (parent_in rows) s in omega arith)
    | inr o ↦ elim o [
      | inl l ↦ w.inside k f l
      | inr l ↦ (let x = b.inside k (omega arith) g in let y = w.from in omega arith)
    ]
  ];
  next = λ g. elim (cases_lt p (parent_in rows next)) [
    | inl l ↦ (let x = b.outside g in let y = b.from in absurd (nested.nested (parent_in rows next) at next (omega arith) (omega arith) g (omega arith) refl))
    | inr l ↦ l
  ];
  bytes = append_assoc out _ _
      ∙ (ap (λ l. out ++ (copy_of (whole rows) (node_at (nodes_of rows) (suc at)) ++ flat_map (copy_of (whole rows)) l)) (sym (kids_on rows nested p (suc at) next b.from b.to (λ j f g s. let x = b.inside j f g in let y = w.from in omega arith)))
      ∙ (ap (λ l. out ++ flat_map (copy_of (whole rows)) l) (sym (kids_here rows nested p at h e)) ∙ w.bytes));
}

pub writes_all : (rows : List Row) (p at : ℕ) (before out : List ℕ) → IsNested rows → Writes rows p at before out → (at < length rows → parent_in rows at ≡ p → ⊥) → (out ≡ before ++ bytes_below rows p) × IsBehind rows p at
writes_all rows p at before out nested w stop = (
  sym (append-nil out) ∙ (ap (λ l. out ++ flat_map (copy_of (whole rows)) l) (sym (none (cases_lt at (length rows)))) ∙ w.bytes),
  record { from = w.from; to = w.to; inside = w.inside; outside = λ g. let x = w.next g in let y = stop g in omega arith },
)
  where
    none : (at < length rows) ⊎ (length rows ≤ at) → kids rows p (suc at) ≡ []
    none (inl g) =
        kids_on rows nested p at (length rows) w.to (omega arith) (λ j f l s. let x = w.next g in let y = stop g in nested.nested p at j w.from f l (omega arith) s)
        ∙ kids_end rows nested p (length rows) (omega arith)
    none (inr g) = kids_end rows nested p at g

-- what a row that was read says
pub parent_read : (rows : List Row) (k : ℕ) (row : Row) → k < length rows → parent_in rows k ≡ (get_or rows k row).parent
parent_read rows k row h = ap (λ (x : Row). x.parent) (get_or_default rows k no_row row h)

pub content_read : (rows : List Row) (k : ℕ) (row : Row) → k < length rows → (get_or rows k no_row).content ≡ (get_or rows k row).content
content_read rows k row h = ap (λ (x : Row). x.content) (get_or_default rows k no_row row h)

-- the copy of a row's node, by its content
pub content_copy : (rows : List Row) (k : ℕ) (row : Row) (c : Content) → IsNested rows → k < length rows → (get_or rows k row).content ≡ c
    → copy_of (whole rows) (node_at (nodes_of rows) (suc k)) ≡ copied_with (kind_in c) (bytes_below rows (suc k))
content_copy rows k row c nested h f = row_copy rows k nested h ∙ ap (λ x. copied_with (kind_in x) (bytes_below rows (suc k))) (content_read rows k row h ∙ f)

pub element_holder : (rows : List Row) (k : ℕ) (row : Row) (name : List ℕ) → IsNested rows → k < length rows → (get_or rows k row).content ≡ content.Element name
    → is_text (kind_of (node_at (nodes_of rows) (k + 1))) ≡ false
element_holder rows k row name nested h f =
    let at : k + 1 ≡ suc k = omega arith in
    ap (λ i. is_text (kind_of (node_at (nodes_of rows) i))) at ∙ (ap (λ m. is_text (kind_of m)) (row_node rows nested k h) ∙ ap (λ c. is_text (kind_in c)) (content_read rows k row h ∙ f))

pub element_copy : (rows : List Row) (k : ℕ) (row : Row) (name before a b out : List ℕ) → IsNested rows → k < length rows → (get_or rows k row).content ≡ content.Element name
    → a ≡ before ++ start_tag name → b ≡ a ++ bytes_below rows (k + 1) → out ≡ b ++ end_tag name → out ≡ before ++ copy_of (whole rows) (node_at (nodes_of rows) (suc k))
element_copy rows k row name before a b out nested h f p q r =
    let at : k + 1 ≡ suc k = omega arith in
    let below = bytes_below rows (suc k) in
    r ∙ (ap (λ x. x ++ end_tag name) (q ∙ (ap (λ x. x ++ bytes_below rows (k + 1)) p ∙ ap (λ i. (before ++ start_tag name) ++ bytes_below rows i) at))
    ∙ (append_assoc (before ++ start_tag name) below (end_tag name) ∙ append_assoc before (start_tag name) (below ++ end_tag name)
    ∙ ap (λ x. before ++ x) (sym (content_copy rows k row (content.Element name) nested h f))))

pub text_copy : (rows : List Row) (k : ℕ) (row : Row) (bytes before out : List ℕ) → IsNested rows → k < length rows → (get_or rows k row).content ≡ content.Text bytes
    → out ≡ before ++ escaped bytes → out ≡ before ++ copy_of (whole rows) (node_at (nodes_of rows) (suc k))
text_copy rows k row bytes before out nested h f p = p ∙ ap (λ x. before ++ x) (sym (content_copy rows k row (content.Text bytes) nested h f))

pub text_behind : (rows : List Row) (k : ℕ) (row : Row) (bytes : List ℕ) → IsNested rows → k < length rows → (get_or rows k row).content ≡ content.Text bytes → IsBehind rows (suc k) (k + 1)
text_behind rows k row bytes nested h f =
    let at : suc k ≡ k + 1 = omega arith in
    subst (IsBehind rows (suc k)) at (behind_text rows k nested h (ap (λ c. is_text (kind_in c)) (content_read rows k row h ∙ f)))

pub no_node_copy : (rows : List Row) (n : ℕ) → length rows < n → node_at (nodes_of rows) n ≡ node_at (nodes_of rows) 0
no_node_copy rows n h = get_or_past (nodes_of rows) n Root (omega (arith, length-nodes_of rows)) ∙ sym ((are_nodes rows).first)

flat_by : (f g : Node → List ℕ) (xs : List Node) → ((m : Node) → f m ≡ g m) → flat_map f xs ≡ flat_map g xs
flat_by f g [] e = refl
flat_by f g (x ∷ xs) e = rw (e x, flat_by f g xs e) refl

-- a copy is the same whatever is open
same_depth : (rows : List Row) (at : Option ℕ) (d : ℕ) (m : Node) → copied d (whole rows) m ≡ copied d (tree_of_rows rows at) m
same_depth rows at zero m = refl
same_depth rows at (suc d) m = ap (copied_with (kind_of m)) (flat_by (copied d (whole rows)) (copied d (tree_of_rows rows at)) (children (whole rows) m) (λ c. same_depth rows at d c))

pub same_copy : (rows : List Row) (at : Option ℕ) (m : Node) → copy_of (whole rows) m ≡ copy_of (tree_of_rows rows at) m
same_copy rows at m = same_depth rows at (length (nodes_of rows)) m
