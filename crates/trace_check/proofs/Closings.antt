-- The one node that a token closes, and its line.
use Rattle.std.proofs.Common.{◌≡◌, ℕ, suc, ◌<◌, ◌≤◌, Bool, true, false, cond, not, ◌&&◌, ◌||◌, List, [], ◌∷◌, length, map, reverse, Option, Some, None, refl, sym, ◌∙◌, ap, subst, inl, inr, arith, eqb, leb}
use Rattle.std.specs.List.{filter}
use Rattle.std.proofs.lemmas.Bool.{and_parts, cases_lt, eq-eqb, eqb-true, false≢true, le-leb, lt-leb, not-true, or_cases}
use Rattle.std.proofs.lemmas.List.{get_or-map}
use Rattle.gcx_base.specs.declared.kind.Kind.TheVariants.{Element, Text}
use Rattle.gcx_model.specs.Demand.{Left}
use Rattle.gcx_model.specs.Members.{In}
use Rattle.gcx_model.specs.Run.{Action}
use Rattle.gcx_model.specs.Tree.{Node, Root, Under, serial_of, within, Tree, TreeToken, Start, Chars, End, grow, grow_at, is_open_at, is_closed}
use Rattle.tree_laws.proofs.Lists.{In-append, In-filter, In-kept, filter_none}
use Rattle.tree_laws.proofs.Matches.{Grown, Numbered, Numbered-low}
use Rattle.time_laws.specs.Leaving.{freed_of, is_closed_and_freed, left_where}
use Rattle.time_laws.specs.Times.{Clock, IsClock, is_there, tree_at}
use Rattle.doc_tree.specs.Rows.{node_at}
use Rattle.trace_check.specs.Telling.{fed_node, over_line}
use Rattle.trace_check.specs.Timing.{fed_at}
use Rattle.trace_check.specs.Wanting.{by_node}
use Rattle.trace_check.specs.declared.timed.Fed.{Fed}
use Rattle.trace_check.specs.declared.timed.Fed.TheVariants as fed
use Rattle.trace_check.proofs.Numbers.{at_in, number_of}

-- ---- which node

-- A node that is closed behind this token and wasn't there and closed before it is the token's.
pub fed_closes : (t : TreeToken) (P : Tree) (f : Fed) (n : Node) → fed_at P.at t ≡ f ∷ [] → In n (grow t P).nodes → is_open_at (grow t P).at (serial_of n) ≡ false
    → (In n P.nodes → is_open_at P.at (serial_of n) ≡ true) → serial_of n ≡ fed_node (length P.nodes) f
fed_closes t P f n e there shut before = go P.at t refl f e there shut before
  where
    one : (a b : Fed) → a ∷ [] ≡ b ∷ [] → a ≡ b
    one a b h = cc

    no_fed : (b : Fed) → ◌≡◌ {A = List Fed} [] (b ∷ []) → ⊥
    no_fed b h = cc

    behind : (o : Option Node) (t : TreeToken) → Tree
    behind o t = grow_at o t P

    or_right_false : (a b : Bool) → (a || b) ≡ false → b ≡ false
    or_right_false true b h = absurd (false≢true (sym h))
    or_right_false false b h = h

    root_zero : 0 ≡ serial_of n → serial_of n ≡ serial_of Root
    root_zero h = sym h

    go : (o : Option Node) (t : TreeToken) → P.at ≡ o → (f : Fed) → fed_at o t ≡ f ∷ [] → In n (behind o t).nodes → is_open_at (behind o t).at (serial_of n) ≡ false
        → (In n P.nodes → is_open_at o (serial_of n) ≡ true) → serial_of n ≡ fed_node (length P.nodes) f
    go None t at f e there shut before = absurd (no_fed f e)
    go (Some p) (Start name) at f e there shut before = elim (In-append n P.nodes (Under p (length P.nodes) (Element name) ∷ []) there) [
      | inl i ↦ absurd (false≢true (sym (or_right_false (eqb (length P.nodes) (serial_of n)) (within (serial_of n) p) shut) ∙ before i))
      | inr i ↦ elim i [
        | inl s ↦ absurd (false≢true (sym shut ∙ ap (λ (b : Bool). b || within (serial_of n) p) (eq-eqb (length P.nodes) (serial_of n) (ap serial_of s))))
        | inr k ↦ absurd k
      ]
    ]
    go (Some p) (Chars b) at f e there shut before = elim (In-append n P.nodes (Under p (length P.nodes) (Text b) ∷ []) there) [
      | inl i ↦ absurd (false≢true (sym shut ∙ before i))
      | inr i ↦ elim i [ inl s ↦ sym (ap serial_of s) ∙ ap (fed_node (length P.nodes)) (one fed.Opened f e) | inr k ↦ absurd k ]
    ]
    go (Some Root) End at f e there shut before = root_zero (eqb-true 0 (serial_of n) (before there)) ∙ ap (fed_node (length P.nodes)) (one (fed.Closed 0) f e)
    go (Some (Under q s k)) End at f e there shut before = elim (or_cases (eqb s (serial_of n)) (within (serial_of n) q) (before there)) [
      | inl h ↦ sym (eqb-true s (serial_of n) h) ∙ ap (fed_node (length P.nodes)) (one (fed.Closed s) f e)
      | inr h ↦ absurd (false≢true (sym shut ∙ h))
    ]

-- By the clock: a node that is closed at the time of a token is the token's.
pub closes_at : (c : Clock) (ts : List TreeToken) (C : Tree) (most i : ℕ) → IsClock c ts C most → suc i ≤ most → (t : TreeToken) → tree_at ts (suc i) ≡ grow t (tree_at ts i)
    → (f : Fed) → fed_at (tree_at ts i).at t ≡ f ∷ [] → (n : Node) → In n C.nodes → c.opened (serial_of n) ≤ c.closed (serial_of n) → c.closed (serial_of n) ≡ suc i
    → serial_of n ≡ fed_node (length (tree_at ts i).nodes) f
closes_at c ts C most i ck l t grown f e n here order at =
    let P : Tree = tree_at ts i in
    let opened : c.opened (serial_of n) ≤ suc i = omega (arith, order, at) in
    let there : In n (grow t P).nodes
    = subst (λ (x : List Node). In n x) (sym (ck.nodes (suc i) l) ∙ ap (λ (Q : Tree). Q.nodes) grown) (In-kept (is_there c (suc i)) n C.nodes here (le-leb (c.opened (serial_of n)) (suc i) opened)) in
    let shut : is_closed (grow t P) n ≡ true
    = ap (λ (Q : Tree). is_closed Q n) (sym grown) ∙ (ck.closed (suc i) l n here opened ∙ le-leb (c.closed (serial_of n)) (suc i) (omega (arith, at))) in
    fed_closes t P f n e there (not-true (is_open_at (grow t P).at (serial_of n)) shut)
    (λ k.
    let before : In n (filter (is_there c i) C.nodes) = subst (λ (x : List Node). In n x) (ck.nodes i (omega (arith, l))) k in
    let o : c.opened (serial_of n) ≤ i = leb_true (c.opened (serial_of n)) i (In-filter (is_there c i) n C.nodes before).1 in
    is_open P n (ck.closed i (omega (arith, l)) n here o ∙ lt-leb (c.closed (serial_of n)) i (omega (arith, at))))
  where
    leb_true : (a b : ℕ) → leb a b ≡ true → a ≤ b
    leb_true a b h = elim (cases_lt b a) [ inl m ↦ absurd (false≢true (sym (lt-leb a b m) ∙ h)) | inr m ↦ m ]

    is_open : (P : Tree) (n : Node) → is_closed P n ≡ false → is_open_at P.at (serial_of n) ≡ true
    is_open P n h = not_false (is_open_at P.at (serial_of n)) h
      where
        not_false : (b : Bool) → not b ≡ false → b ≡ true
        not_false true h = refl
        not_false false h = absurd (false≢true (sym h))

-- ---- its line

filter_one : (b : ℕ) (xs : List Node) → Numbered b xs → (q : Node → Bool) (m : Node) → In m xs → ((n : Node) → In n xs → q n ≡ true → serial_of n ≡ serial_of m) → filter q xs ≡ cond (q m) (m ∷ []) []
filter_one b [] h q m i alone = absurd i
filter_one b (x ∷ xs) h q m (inl e) alone =
    let rest : filter q xs ≡ [] = filter_none q xs (λ n k. false_at (q n) (λ t. let s = alone n (inr k) t in let low = Numbered-low (suc b) xs h.1 n k in let y = h.0 in let z = ap serial_of e in omega (arith, s, low, y, z))) in
    ap (λ (l : List Node). cond (q x) (x ∷ l) l) rest ∙ ap (λ (y : Node). cond (q y) (y ∷ []) []) e
  where
    false_at : (b : Bool) → (b ≡ true → ⊥) → b ≡ false
    false_at true h = absurd (h refl)
    false_at false h = refl
filter_one b (x ∷ xs) h q m (inr i) alone =
    let first : q x ≡ false = false_at (q x) (λ t. let s = alone x (inl refl) t in let low = Numbered-low (suc b) xs h.1 m i in let y = h.0 in omega (arith, s, low, y)) in
    ap (λ (c : Bool). cond c (x ∷ filter q xs) (filter q xs)) first ∙ filter_one (suc b) xs h.1 q m i (λ n k. alone n (inr k))
  where
    false_at : (b : Bool) → (b ≡ true → ⊥) → b ≡ false
    false_at true h = absurd (h refl)
    false_at false h = refl

pub left_one : (C : Tree) → Grown C → (q : Node → Bool) (k : ℕ) → k < length C.nodes → ((n : Node) → In n C.nodes → q n ≡ true → serial_of n ≡ k) → left_where C q ≡ cond (q (node_at C.nodes k)) (Left k ∷ []) []
left_one C w q k l alone =
    let s : serial_of (node_at C.nodes k) ≡ k = number_of C w k l in
    ap (λ (x : List Node). map Left (map serial_of (reverse x))) (filter_one 0 C.nodes w.numbered q (node_at C.nodes k) (at_in C.nodes k l) (λ n i t. alone n i t ∙ sym s))
    ∙ (go (q (node_at C.nodes k)) ∙ ap (λ (z : ℕ). cond (q (node_at C.nodes k)) (Left z ∷ []) []) s)
  where
    go : (b : Bool) → map Left (map serial_of (reverse (cond b (node_at C.nodes k ∷ []) []))) ≡ cond b (Left (serial_of (node_at C.nodes k)) ∷ []) []
    go true = refl
    go false = refl

-- the nodes that are over at the time of a token
pub over_told : (c : Clock) (C : Tree) → Grown C → (all : List Action) (j k n : ℕ) → n < length C.nodes → ((m : Node) → In m C.nodes → c.closed (serial_of m) ≡ j → serial_of m ≡ n)
    → left_where C (is_closed_and_freed c C all j k) ≡ over_line c (by_node C (freed_of C all)) j k n
over_told c C w all j k n l alone =
    left_one C w (is_closed_and_freed c C all j k) n l (λ m i t. alone m i (eqb-true (c.closed (serial_of m)) j (and_parts (eqb (c.closed (serial_of m)) j) (leb (freed_of C all m) k) t).0))
    ∙ (ap (λ (s : ℕ). cond (eqb (c.closed s) j && leb (freed_of C all (node_at C.nodes n)) k) (Left n ∷ []) []) (number_of C w n l)
    ∙ ap (λ (u : ℕ). cond (eqb (c.closed n) j && leb u k) (Left n ∷ []) []) (sym (get_or-map (freed_of C all) C.nodes n Root 0 l)))
