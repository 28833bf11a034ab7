-- Sets of rows and the nodes that they are: which are closed, and what of their values holds.
use Rattle.std.proofs.Common.{◌≡◌, ◌==◌, ℕ, zero, suc, ◌+◌, ◌<◌, ◌≤◌, Bool, true, false, cond, not, ◌||◌, ◌&&◌, List, [], ◌∷◌, ◌++◌, map, length, get_or, take, drop, refl, sym, ◌∙◌, ap, subst, inl, inr, ◌⊎◌, arith}
use Rattle.std.specs.List.{filter}
use Rattle.std.proofs.lemmas.Bool.{false≢true, eq-eqb, ne_eqb}
use Rattle.std.proofs.lemmas.List.{take_more, drop_more, drop_all, take_all}
use Rattle.gcx_base.specs.declared.steps.Step.{Step}
use Rattle.gcx_model.specs.Tree.{Node, Root, serial_of, Tree, is_closed}
use Rattle.gcx_model.specs.Paths.{any, head, matches}
use Rattle.gcx_model.specs.Members.{In}
use Rattle.gcx_model.specs.Values.{ComparedValue, Bytes}
use Rattle.gcx_model.specs.Answer.{is_any}
use Rattle.gcx_model.specs.Truth.{node_value}
use Rattle.move_laws.specs.Kept.{only}
use Rattle.tree_laws.proofs.Lists.{In-filter}
use Rattle.tree_laws.proofs.Freeze.{within_self}
use Rattle.move_laws.proofs.Keeping.{first_kept, matches_kept}
use Rattle.buf_tree.specs.Shape.{Cell, num}
use Rattle.buf_tree.specs.View.{InUse}
use Rattle.cond_eval.specs.Asking.{RowsOf, PlacedAt}
use Rattle.cond_eval.specs.Reads.{NodeAt, IsWhole, IsValue, AreNodes, AreReached, serials}
use Rattle.cond_eval.specs.Comparing.{IsNodeRow, AreInUse, AreClosed, KeepsFirst, KeepsMatches, Readable}
use Rattle.cond_eval.specs.declared.sets.Member.{Member}
use Rattle.cond_eval.proofs.Rows.{row_for, serial_told, closed_told, kept_at, at_node}

-- ---- lists

pub in_at : {X : Type 0} (xs : List X) (i : ℕ) (d : X) → i < length xs → In (get_or xs i d) xs
in_at [] i d h = absurd (omega arith)
in_at (x ∷ xs) zero d h = inl refl
in_at (x ∷ xs) (suc i) d h = inr (in_at xs i d (omega arith))

-- the member at the index, and its node
pub record Turn (ms : List Member) (ns : List Node) (i : ℕ) (m : Member) : Type 0 where
  pub member : In m ms
  pub node : Node
  pub among : In node ns
  pub same : serial_of node ≡ m.serial
  pub taken : take (i + 1) ns ≡ take i ns ++ node ∷ []
  pub dropped : drop i ns ≡ node ∷ drop (i + 1) ns

same_at : (ms : List Member) (ns : List Node) (i : ℕ) (d : Member) → serials ms ≡ map serial_of ns → i < length ms → (i < length ns) × (serial_of (get_or ns i Root) ≡ (get_or ms i d).serial)
same_at [] ns i d e h = absurd (omega arith)
same_at (m ∷ ms) [] i d e h = absurd (cc)
same_at (m ∷ ms) (n ∷ ns) zero d e h = (omega arith, cc)
same_at (m ∷ ms) (n ∷ ns) (suc i) d e h = let rest : serials ms ≡ map serial_of ns = cc in let r = same_at ms ns i d rest (omega arith) in (omega (arith, r.0), r.1)

pub turn : (ms : List Member) (ns : List Node) (i : ℕ) (d : Member) → serials ms ≡ map serial_of ns → i < length ms → Turn ms ns i (get_or ms i d)
turn ms ns i d e h =
    let s = same_at ms ns i d e h in
    record { member = in_at ms i d h; node = get_or ns i Root; among = in_at ns i Root s.0; same = s.1; taken = take_more ns i Root s.0; dropped = drop_more ns i Root s.0 }

pub same_length : (ms : List Member) (ns : List Node) → serials ms ≡ map serial_of ns → length ns ≡ length ms
same_length [] [] e = refl
same_length [] (n ∷ ns) e = absurd (cc)
same_length (m ∷ ms) [] e = absurd (cc)
same_length (m ∷ ms) (n ∷ ns) e = let rest : serials ms ≡ map serial_of ns = cc in ap suc (same_length ms ns rest)

node_of : (ms : List Member) (ns : List Node) → serials ms ≡ map serial_of ns → (m : Member) → In m ms → (n : Node) × In n ns × (serial_of n ≡ m.serial)
node_of [] ns e m i = absurd i
node_of (x ∷ ms) [] e m i = absurd (cc)
node_of (x ∷ ms) (n ∷ ns) e m (inl f) = let same : serial_of n ≡ x.serial = cc in (n, inl refl, same ∙ ap (λ (z : Member). z.serial) f)
node_of (x ∷ ms) (n ∷ ns) e m (inr i) = let rest : serials ms ≡ map serial_of ns = cc in let r = node_of ms ns rest m i in (r.0, inr r.1, r.2)

-- ---- the rows of a set are there

pub set_used : (rows : List Cell) (P : Tree) (keep : Node → Bool) → RowsOf rows P keep → (ms : List Member) (ns : List Node) → AreNodes rows ms ns → ((n : Node) → In n ns → In n P.nodes × (keep n ≡ true)) → AreInUse rows ms
set_used rows P keep of ms ns are there m i =
    let n = node_of ms ns are.serials m i in
    let t = there n.0 n.1 in
    let c = row_for rows P keep of n.0 t.0 t.1 in
    record { cell = c.0; among = c.1; place = are.places m i c.0 c.1 (serial_told rows P keep of c.0 n.0 c.2 ∙ n.2) }

module _ (rows : List Cell) (p : ℕ) (steps : List Step) (ms : List Member) (row : IsNodeRow rows p) where
  abbrev reached_nodes : List Node
  reached_nodes = matches (only row.keep row.tree) (serial_of row.node) steps

  kept_match : (n : Node) → In n reached_nodes → In n row.tree.nodes × (row.keep n ≡ true)
  kept_match n i = In-filter row.keep n row.tree.nodes (In-filter _ n (filter row.keep row.tree.nodes) i).0

  pub reached_used : AreReached rows p steps ms → AreInUse rows ms
  reached_used r = set_used rows row.tree row.keep row.at.rows_of ms reached_nodes (r row.tree row.keep row.node row.at) kept_match

  pub closed_used : AreClosed rows p steps ms → AreInUse rows ms
  closed_used r = set_used rows row.tree row.keep row.at.rows_of ms (filter (is_closed row.tree) reached_nodes) (r row.tree row.keep row.node row.at) (λ n i. kept_match n (In-filter (is_closed row.tree) n reached_nodes i).0)

-- ---- the closed ones of a set

-- of the first i members the closed ones
abbrev pub ClosedOf : List Cell → (p : ℕ) → List Step → (i : ℕ) → List Member → Type 0
ClosedOf rows p steps i ms = (P : Tree) (keep : Node → Bool) (n : Node) → NodeAt rows P keep p n → AreNodes rows ms (filter (is_closed P) (take i (matches (only keep P) (serial_of n) steps)))

pub closed_none : (rows : List Cell) (p : ℕ) (steps : List Step) (ms : List Member) → ms ≡ [] → ClosedOf rows p steps 0 ms
closed_none rows p steps ms e P keep n at = subst (λ (z : List Member). AreNodes rows z []) (sym e) (record { serials = refl; places = λ m i. absurd i })

In-last : {X : Type 0} (m y : X) (xs : List X) → In m (xs ++ y ∷ []) → In m xs ⊎ (y ≡ m)
In-last m y [] (inl e) = inr e
In-last m y [] (inr i) = absurd i
In-last m y (x ∷ xs) (inl e) = inl (inl e)
In-last m y (x ∷ xs) (inr i) = elim (In-last m y xs i) [ inl k ↦ inl (inr k) | inr e ↦ inr e ]

pub map-last : {X Y : Type 0} (f : X → Y) (xs : List X) (y : X) → map f (xs ++ y ∷ []) ≡ map f xs ++ f y ∷ []
map-last f [] y = refl
map-last f (x ∷ xs) y = ap (λ l. f x ∷ l) (map-last f xs y)

filter-last : {X : Type 0} (p : X → Bool) (xs : List X) (y : X) (b : Bool) → p y ≡ b → filter p (xs ++ y ∷ []) ≡ cond b (filter p xs ++ y ∷ []) (filter p xs)
filter-last p [] y true e = ap (λ b. cond b (y ∷ []) []) e
filter-last p [] y false e = ap (λ b. cond b (y ∷ []) []) e
filter-last p (x ∷ xs) y b e = elim (p x) as (λ c. cond c (x ∷ filter p (xs ++ y ∷ [])) (filter p (xs ++ y ∷ [])) ≡ cond b (cond c (x ∷ filter p xs) (filter p xs) ++ y ∷ []) (cond c (x ∷ filter p xs) (filter p xs))) [
  | true ↦ ap (λ l. x ∷ l) (filter-last p xs y b e) ∙ under b
  | false ↦ filter-last p xs y b e
]
  where
    under : (c : Bool) → x ∷ cond c (filter p xs ++ y ∷ []) (filter p xs) ≡ cond c (x ∷ (filter p xs ++ y ∷ [])) (x ∷ filter p xs)
    under true = refl
    under false = refl

-- one node more
nodes_more : (rows : List Cell) (ms : List Member) (ns : List Node) (m : Member) (n : Node) → AreNodes rows ms ns → serial_of n ≡ m.serial → PlacedAt rows m.serial m.place → AreNodes rows (ms ++ m ∷ []) (ns ++ n ∷ [])
nodes_more rows ms ns m n are same placed = record {
  serials = map-last (λ (z : Member). z.serial) ms m ∙ (ap (λ l. l ++ m.serial ∷ []) are.serials ∙ (ap (λ k. map serial_of ns ++ k ∷ []) (sym same) ∙ sym (map-last serial_of ns n)));
  places = λ k i. elim (In-last k m ms i) [ inl j ↦ are.places k j | inr e ↦ subst (λ (z : Member). PlacedAt rows z.serial z.place) e placed ];
}

module _ (rows : List Cell) (p : ℕ) (steps : List Step) (all done : List Member) (i : ℕ) (d : Member) (reached : AreReached rows p steps all) (h : i < length all) (closed : ClosedOf rows p steps i done) where
  abbrev here : Member
  here = get_or all i d

  module _ (b : Bool) (told : (c : Cell) → In c rows → c.place ≡ here.place → b ≡ not c.row.is_open) where
    closed_at : (P : Tree) (keep : Node → Bool) (n : Node) → NodeAt rows P keep p n → (t : Turn all (matches (only keep P) (serial_of n) steps) i here) → is_closed P t.node ≡ b
    closed_at P keep n at t =
        let ns = matches (only keep P) (serial_of n) steps in
        let k = In-filter keep t.node P.nodes (In-filter _ t.node (filter keep P.nodes) t.among).0 in
        let c = row_for rows P keep at.rows_of t.node k.0 k.1 in
        let same : num c.0 ≡ here.serial = serial_told rows P keep at.rows_of c.0 t.node c.2 ∙ t.same in
        sym (told c.0 c.1 ((reached P keep n at).places here t.member c.0 c.1 same) ∙ closed_told rows P keep at.rows_of c.0 t.node c.2)

    pub closed_more : ClosedOf rows p steps (i + 1) (cond b (done ++ here ∷ []) done)
    closed_more P keep n at =
        let ns = matches (only keep P) (serial_of n) steps in
        let are = reached P keep n at in
        let t = turn all ns i d are.serials h in
        subst (λ (z : List Node). AreNodes rows (cond b (done ++ here ∷ []) done) z) (sym (ap (filter (is_closed P)) t.taken ∙ filter-last (is_closed P) (take i ns) t.node b (closed_at P keep n at t)))
        (go b t (closed P keep n at) (are.places here t.member))
      where
        go : (c : Bool) → (t : Turn all (matches (only keep P) (serial_of n) steps) i here) → AreNodes rows done (filter (is_closed P) (take i (matches (only keep P) (serial_of n) steps))) → PlacedAt rows here.serial here.place
            → AreNodes rows (cond c (done ++ here ∷ []) done) (cond c (filter (is_closed P) (take i (matches (only keep P) (serial_of n) steps)) ++ t.node ∷ []) (filter (is_closed P) (take i (matches (only keep P) (serial_of n) steps))))
        go true t are placed = nodes_more rows done _ here t.node are t.same placed
        go false t are placed = are

pub closed_all : (rows : List Cell) (p : ℕ) (steps : List Step) (all done : List Member) (i : ℕ) → AreReached rows p steps all → length all ≤ i → ClosedOf rows p steps i done → AreClosed rows p steps done
closed_all rows p steps all done i reached h closed P keep n at =
    let ns = matches (only keep P) (serial_of n) steps in
    let same = same_length all ns (reached P keep n at).serials in
    subst (λ (z : List Node). AreNodes rows done (filter (is_closed P) z)) (take_all i ns (omega arith)) (closed P keep n at)

-- ---- values

-- the member at the index can be read
pub record ReadAt (rows : List Cell) (P : Tree) (keep : Node → Bool) (ms : List Member) (ns : List Node) (i : ℕ) (m : Member) : Type 0 where
  pub turn : Turn ms ns i m
  pub at : NodeAt rows P keep m.place turn.node
  pub whole : IsWhole P keep turn.node

pub whole_kept : (P : Tree) (keep : Node → Bool) (n : Node) → In n P.nodes → IsWhole P keep n → keep n ≡ true
whole_kept P keep n i w = w n i (within_self (serial_of n) n (eq-eqb (serial_of n) (serial_of n) refl))

pub read_at : (rows : List Cell) (P : Tree) (keep : Node → Bool) (ms : List Member) (ns : List Node) (i : ℕ) (d : Member) → Readable rows P keep ms ns → i < length ms → ReadAt rows P keep ms ns i (get_or ms i d)
read_at rows P keep ms ns i d r h =
    let t = turn ms ns i d r.nodes.serials h in
    let w = r.whole t.node t.among in
    let m = get_or ms i d in
    record {
      turn = t;
      at = kept_at rows P keep r.rows_of t.node m.place w.0 (whole_kept P keep t.node w.0 w.1) (subst (λ (s : ℕ). PlacedAt rows s m.place) (sym t.same) (r.nodes.places m t.member));
      whole = w.1;
    }

-- whether some value passes is told by those from the index on
abbrev pub PassesOn : List Cell → (test : ComparedValue → Bool) → List Member → (i : ℕ) → Type 0
PassesOn rows r ms i = (P : Tree) (keep : Node → Bool) (ns : List Node) → Readable rows P keep ms ns → any r (map (node_value P) (drop i ns)) ≡ any r (map (node_value P) ns)

or_true : (b c : Bool) → b ≡ true → true ≡ b || c
or_true b c e = ap (λ z. z || c) (sym e)

or_false : (b c : Bool) → b ≡ false → c ≡ b || c
or_false b c e = ap (λ z. z || c) (sym e)

module _ (rows : List Cell) (r : ComparedValue → Bool) (ms : List Member) where
  pub passes_all : (i : ℕ) → length ms ≤ i → PassesOn rows r ms i → (P : Tree) (keep : Node → Bool) (ns : List Node) → Readable rows P keep ms ns → false ≡ any r (map (node_value P) ns)
  passes_all i h on P keep ns read =
      let same = same_length ms ns read.nodes.serials in
      ap (λ l. any r (map (node_value P) l)) (sym (drop_all i ns (omega arith))) ∙ on P keep ns read

  module _ (i : ℕ) (d : Member) (h : i < length ms) (on : PassesOn rows r ms i) (v : List ℕ) (is : IsValue rows (get_or ms i d).place v) (b : Bool) (told : b ≡ r (Bytes v)) where
    here_told : (P : Tree) (keep : Node → Bool) (ns : List Node) → Readable rows P keep ms ns → (r (Bytes v) || any r (map (node_value P) (drop (i + 1) ns))) ≡ any r (map (node_value P) ns)
    here_told P keep ns read =
        let t = read_at rows P keep ms ns i d read h in
        ap (λ w. r (Bytes w) || any r (map (node_value P) (drop (i + 1) ns))) (is P keep t.turn.node t.at t.whole)
        ∙ (ap (λ l. any r (map (node_value P) l)) (sym t.turn.dropped) ∙ on P keep ns read)

    pub passes_more : b ≡ false → PassesOn rows r ms (i + 1)
    passes_more e P keep ns read = or_false (r (Bytes v)) _ (sym told ∙ e) ∙ here_told P keep ns read

    pub passes_found : b ≡ true → (P : Tree) (keep : Node → Bool) (ns : List Node) → Readable rows P keep ms ns → true ≡ any r (map (node_value P) ns)
    passes_found e P keep ns read = or_true (r (Bytes v)) _ (sym told ∙ e) ∙ here_told P keep ns read

pub or_none : (b : Bool) → b ≡ b || false
or_none true = refl
or_none false = refl

pub any_empty : {Y : Type 0} (r : ComparedValue → Y → Bool) (vs : List ComparedValue) → any (λ v. any (r v) []) vs ≡ false
any_empty r [] = refl
any_empty r (v ∷ vs) = any_empty r vs

-- of no members there are no nodes
pub no_nodes : (ms : List Member) (ns : List Node) → serials ms ≡ map serial_of ns → ms ≡ [] → ns ≡ []
no_nodes ms [] e f = refl
no_nodes [] (n ∷ ns) e f = absurd (cc)
no_nodes (m ∷ ms) (n ∷ ns) e f = absurd (cc)

-- ---- what is kept serves

any_head : {X : Type 0} (xs ys : List X) → head xs ≡ head ys → is_any xs ≡ is_any ys
any_head [] [] e = refl
any_head [] (y ∷ ys) e = absurd (cc)
any_head (x ∷ xs) [] e = absurd (cc)
any_head (x ∷ xs) (y ∷ ys) e = refl

any_nodes : (ms : List Member) (ns : List Node) → serials ms ≡ map serial_of ns → is_any ms ≡ is_any ns
any_nodes [] [] e = refl
any_nodes [] (n ∷ ns) e = absurd (cc)
any_nodes (m ∷ ms) [] e = absurd (cc)
any_nodes (m ∷ ms) (n ∷ ns) e = refl

-- a set over the rows isn't empty where there is a match whose first one is kept
pub some_reached : (rows : List Cell) (p : ℕ) (steps : List Step) (ms : List Member) → AreReached rows p steps ms → (P : Tree) (keep : Node → Bool) (n : Node) → NodeAt rows P keep p n → KeepsFirst P keep n steps → is_any ms ≡ is_any (matches P (serial_of n) steps)
some_reached rows p steps ms r P keep n at kept =
    any_nodes ms (matches (only keep P) (serial_of n) steps) (r P keep n at).serials ∙ any_head _ _ (first_kept P keep (serial_of n) steps kept)

all_kept : (rows : List Cell) (P : Tree) (keep : Node → Bool) (p : ℕ) (n : Node) (steps : List Step) → NodeAt rows P keep p n → KeepsMatches P keep n steps → matches (only keep P) (serial_of n) steps ≡ matches P (serial_of n) steps
all_kept rows P keep p n steps at kept = matches_kept P keep (serial_of n) steps (λ m i. whole_kept P keep m (In-filter _ m P.nodes i).0 (kept m i))

-- the closed matches can be read
pub closed_read : (rows : List Cell) (p : ℕ) (steps : List Step) (ms : List Member) → AreClosed rows p steps ms → (P : Tree) (keep : Node → Bool) (n : Node) → NodeAt rows P keep p n → KeepsMatches P keep n steps → Readable rows P keep ms (filter (is_closed P) (matches P (serial_of n) steps))
closed_read rows p steps ms closed P keep n at kept = record {
  rows_of = at.rows_of;
  nodes = subst (λ (z : List Node). AreNodes rows ms (filter (is_closed P) z)) (all_kept rows P keep p n steps at kept) (closed P keep n at);
  whole = λ m i. let j = (In-filter (is_closed P) m (matches P (serial_of n) steps) i).0 in ((In-filter _ m P.nodes j).0, kept m j);
}

-- ---- the row itself

pub row_used : (rows : List Cell) (p : ℕ) → IsNodeRow rows p → InUse rows p
row_used rows p r = record { cell = r.at.cell; among = r.at.cell_among; place = r.at.at }

-- whether its node is closed
pub shut_told : (rows : List Cell) (p : ℕ) (b : Bool) → ((c : Cell) → In c rows → c.place ≡ p → b ≡ not c.row.is_open) → (P : Tree) (keep : Node → Bool) (n : Node) → NodeAt rows P keep p n → b ≡ is_closed P n
shut_told rows p b h P keep n at = h at.cell at.cell_among at.at ∙ closed_told rows P keep at.rows_of at.cell n (at_node rows P keep p n at)

-- ---- empty or not

pub not_empty : {X : Type 0} (xs : List X) (len : ℕ) (b : Bool) → length xs ≡ len → b ≡ (len == 0) → not b ≡ is_any xs
not_empty [] len b e f = ap not (f ∙ eq-eqb len 0 (sym e))
not_empty (x ∷ xs) len b e f = ap not (f ∙ ne_eqb len 0 (λ z. absurd (omega arith)))

pub empty_of : {X : Type 0} (xs : List X) → (length xs == 0) ≡ true → xs ≡ []
empty_of [] e = refl
empty_of (x ∷ xs) e = absurd (false≢true (sym (ne_eqb (length (x ∷ xs)) 0 (λ z. absurd (omega arith))) ∙ e))

-- no more comes of two sides where none comes of each
pub both_shut : (s a b x y : Bool) → a ≡ true → s ≡ b → a ≡ x → b ≡ y → s ≡ x && y
both_shut s a b x y t e f g = e ∙ (g ∙ ap (λ z. z && y) (sym t ∙ f))

pub one_open : (s a x y : Bool) → a ≡ false → s ≡ false → a ≡ x → s ≡ x && y
one_open s a x y t e f = e ∙ ap (λ z. z && y) (sym t ∙ f)
