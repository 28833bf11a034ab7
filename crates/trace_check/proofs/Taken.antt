-- One token more is taken by the innermost open node.
use Rattle.std.proofs.Common.{◌≡◌, ◌⊎◌, ℕ, suc, ◌+◌, ◌<◌, ◌≤◌, Bool, true, false, not, ◌&&◌, ◌||◌, List, [], ◌∷◌, ◌++◌, length, set, get_or, Option, Some, refl, sym, ◌∙◌, ap, subst, inl, inr, arith, eqb, ltb, length-append}
use Rattle.std.proofs.lemmas.Bool.{lt-ltb, le-ltb, cases_lt, cases_eq, ne_eqb, eq-eqb, and_right, true≢false}
use Rattle.std.proofs.lemmas.List.{get_or_append_left, get_or_push, get_or-set_same, get_or-set_other, length_push, length-set}
use Rattle.gcx_base.specs.declared.kind.Kind.TheVariants.{Element, Text}
use Rattle.gcx_model.specs.Tree.{Node, Root, Under, serial_of, within, Tree, TreeToken, Start, Chars, End, opening, grow, grow_at, grow_all, is_open_at}
use Rattle.tree_laws.proofs.Freeze.{within_self}
use Rattle.tree_laws.proofs.Growing.{grow_all-append}
use Rattle.tree_laws.proofs.Matches.{Grown, Grown-all, Grown-opening, Numbered-high}
use Rattle.time_laws.specs.Times.{opened_from, closed_from}
use Rattle.doc_tree.specs.Rows.{node_at}
use Rattle.trace_check.specs.Timing.{fed_at, fed_all, HasTaken}
use Rattle.trace_check.specs.declared.timed.Fed.{Fed}
use Rattle.trace_check.specs.declared.timed.Fed.TheVariants as fed
use Rattle.trace_check.specs.declared.timed.Timed.{Timed}
use Rattle.trace_check.proofs.Numbers.{number_of}
use Rattle.trace_check.proofs.Pushed.{opened_push, closed_push, fed_push}

-- a node that is told is told the same behind one token more
kept_opened : (ts : List TreeToken) (t : TreeToken) (n : ℕ) → n < length (grow_all ts opening).nodes → opened_from (ts ++ t ∷ []) opening 0 n ≡ opened_from ts opening 0 n
kept_opened ts t n l = opened_push ts t opening 0 n ∙ rw (lt-ltb n (length (grow_all ts opening).nodes) l) refl

kept_closed : (ts : List TreeToken) (t : TreeToken) (n : ℕ) → n < length (grow_all ts opening).nodes → is_open_at (grow_all ts opening).at n ≡ false
    → closed_from (ts ++ t ∷ []) opening 0 n ≡ closed_from ts opening 0 n
kept_closed ts t n l c = closed_push ts t opening 0 n ∙ rw (lt-ltb n (length (grow_all ts opening).nodes) l, c) refl

-- a node that wasn't there, or was open, is told with this token
new_opened : (ts : List TreeToken) (t : TreeToken) (n : ℕ) → length (grow_all ts opening).nodes ≤ n → opened_from (ts ++ t ∷ []) opening 0 n ≡ suc (length ts)
new_opened ts t n l = opened_push ts t opening 0 n ∙ rw (le-ltb n (length (grow_all ts opening).nodes) l) (let z : suc (0 + length ts) ≡ suc (length ts) = omega arith in z)

new_closed : (ts : List TreeToken) (t : TreeToken) (n : ℕ) → (ltb n (length (grow_all ts opening).nodes) && not (is_open_at (grow_all ts opening).at n)) ≡ false
    → closed_from (ts ++ t ∷ []) opening 0 n ≡ suc (length ts)
new_closed ts t n e = closed_push ts t opening 0 n ∙ rw (e) (let z : suc (0 + length ts) ≡ suc (length ts) = omega arith in z)

module _ (ts : List TreeToken) (t : TreeToken) (old new : Timed) (h : HasTaken ts old) (p : Node) (at : old.tree.at ≡ Some p) (tree : new.tree ≡ grow t old.tree) where
  grown_tree : new.tree ≡ grow_all (ts ++ t ∷ []) opening
  grown_tree = tree ∙ (ap (grow t) h.tree_is ∙ sym (grow_all-append ts (t ∷ []) opening))

  -- the tree of the tokens so far is the old one
  there : (n : ℕ) → n < length old.tree.nodes → n < length (grow_all ts opening).nodes
  there n l = subst (λ (P : Tree). n < length P.nodes) h.tree_is l

  not_there : (n : ℕ) → length old.tree.nodes ≤ n → length (grow_all ts opening).nodes ≤ n
  not_there n l = subst (λ (P : Tree). length P.nodes ≤ n) h.tree_is l

  shut : (n : ℕ) → is_open_at old.tree.at n ≡ false → is_open_at (grow_all ts opening).at n ≡ false
  shut n c = subst (λ (P : Tree). is_open_at P.at n ≡ false) h.tree_is c

  one_more : (f : Fed) → fed_at (Some p) t ≡ f ∷ [] → new.fed.items ≡ old.fed.items ++ f ∷ []
      → (new.fed.items ≡ fed_all (ts ++ t ∷ []) opening) × (length new.fed.items ≡ length (ts ++ t ∷ []))
  one_more f e q =
      let here : fed_at (grow_all ts opening).at t ≡ f ∷ [] = ap (λ (P : Tree). fed_at P.at t) (sym h.tree_is) ∙ (ap (λ (o : Option Node). fed_at o t) at ∙ e) in (
        q ∙ (ap (λ (l : List Fed). l ++ f ∷ []) h.fed_is ∙ sym (fed_push ts t opening ∙ ap (λ (l : List Fed). fed_all ts opening ++ l) here)),
        omega (arith, ap length q, length_push old.fed.items f, h.counted, length-append ts (t ∷ [])),
      )

  -- ---- a node more, with the number of those before

  module _ (nodes : length new.tree.nodes ≡ length old.tree.nodes + 1) (opened : new.opened.items ≡ old.opened.items ++ suc (length ts) ∷ []) (closed : new.closed.items ≡ old.closed.items ++ suc (length ts) ∷ []) where
    opened_more : (n : ℕ) → n < length new.tree.nodes → get_or new.opened.items n 0 ≡ opened_from (ts ++ t ∷ []) opening 0 n
    opened_more n l = ap (λ (xs : List ℕ). get_or xs n 0) opened ∙ (elim (cases_lt n (length old.tree.nodes)) [
      | inl a ↦ get_or_append_left old.opened.items (suc (length ts) ∷ []) 0 n (omega (arith, a, h.opened_long)) ∙ (h.opened_is n a ∙ sym (kept_opened ts t n (there n a)))
      | inr a ↦ get_or_push old.opened.items (suc (length ts)) 0 n (omega (arith, a, l, nodes, h.opened_long)) ∙ sym (new_opened ts t n (not_there n a))
    ])

    closed_more : (n : ℕ) → n < length new.tree.nodes → (n < length old.tree.nodes → is_open_at old.tree.at n ≡ false)
        → get_or new.closed.items n 0 ≡ closed_from (ts ++ t ∷ []) opening 0 n
    closed_more n l c = ap (λ (xs : List ℕ). get_or xs n 0) closed ∙ (elim (cases_lt n (length old.tree.nodes)) [
      | inl a ↦ get_or_append_left old.closed.items (suc (length ts) ∷ []) 0 n (omega (arith, a, h.closed_long)) ∙ (h.closed_is n a (c a) ∙ sym (kept_closed ts t n (there n a) (shut n (c a))))
      | inr a ↦ get_or_push old.closed.items (suc (length ts)) 0 n (omega (arith, a, l, nodes, h.closed_long))
          ∙ sym (new_closed ts t n (ap (λ (b : Bool). b && not (is_open_at (grow_all ts opening).at n)) (le-ltb n (length (grow_all ts opening).nodes) (not_there n a))))
    ])

    long_more : (length new.opened.items ≡ length new.tree.nodes) × (length new.closed.items ≡ length new.tree.nodes)
    long_more = (
      omega (arith, ap length opened, length_push old.opened.items (suc (length ts)), h.opened_long, nodes),
      omega (arith, ap length closed, length_push old.closed.items (suc (length ts)), h.closed_long, nodes),
    )

  -- ---- the three tokens

  right_false : (x y : Bool) → (x || y) ≡ false → y ≡ false
  right_false true y e = absurd (true≢false e)
  right_false false y e = e

  added_one : (k : Node) (o : Option Node) → grow t old.tree ≡ record { nodes = old.tree.nodes ++ k ∷ []; at = o } → length new.tree.nodes ≡ length old.tree.nodes + 1
  added_one k o e = ap (λ (P : Tree). length P.nodes) (tree ∙ e) ∙ length_push old.tree.nodes k

  pub started : (name : List ℕ) (now : ℕ) → t ≡ Start name → now ≡ suc (length ts) → new.opened.items ≡ old.opened.items ++ now ∷ [] → new.closed.items ≡ old.closed.items ++ now ∷ []
      → new.fed.items ≡ old.fed.items ++ fed.Opened ∷ [] → HasTaken (ts ++ t ∷ []) new
  started name now is time opened closed fed_is =
      let n1 : Node = Under p (length old.tree.nodes) (Element name) in
      let g : grow t old.tree ≡ record { nodes = old.tree.nodes ++ n1 ∷ []; at = Some n1 } = ap (λ (o : Option Node). grow_by o t) at ∙ ap (λ (x : TreeToken). grow_by (Some p) x) is in
      let nodes = added_one n1 (Some n1) g in
      let opened_now : new.opened.items ≡ old.opened.items ++ suc (length ts) ∷ [] = opened ∙ ap (λ (k : ℕ). old.opened.items ++ k ∷ []) time in
      let closed_now : new.closed.items ≡ old.closed.items ++ suc (length ts) ∷ [] = closed ∙ ap (λ (k : ℕ). old.closed.items ++ k ∷ []) time in
      let told = one_more fed.Opened (ap (λ (x : TreeToken). fed_at (Some p) x) is) fed_is in
      let long = long_more nodes opened_now closed_now in
      record {
        tree_is = grown_tree;
        fed_is = told.0;
        counted = told.1;
        opened_is = opened_more nodes opened_now closed_now;
        closed_is = λ n l c. closed_more nodes opened_now closed_now n l (λ a.
            ap (λ (o : Option Node). is_open_at o n) at ∙ right_false (eqb (length old.tree.nodes) n) (within n p) (sym (ap (λ (P : Tree). is_open_at P.at n) (tree ∙ g)) ∙ c));
        opened_long = long.0;
        closed_long = long.1;
      }
    where
      grow_by : Option Node → TreeToken → Tree
      grow_by o x = grow_at o x old.tree

  pub texted : (bytes : List ℕ) (now : ℕ) → t ≡ Chars bytes → now ≡ suc (length ts) → new.opened.items ≡ old.opened.items ++ now ∷ [] → new.closed.items ≡ old.closed.items ++ now ∷ []
      → new.fed.items ≡ old.fed.items ++ fed.Opened ∷ [] → HasTaken (ts ++ t ∷ []) new
  texted bytes now is time opened closed fed_is =
      let n1 : Node = Under p (length old.tree.nodes) (Text bytes) in
      let g : grow t old.tree ≡ record { nodes = old.tree.nodes ++ n1 ∷ []; at = Some p } = ap (λ (o : Option Node). grow_by o t) at ∙ ap (λ (x : TreeToken). grow_by (Some p) x) is in
      let nodes = added_one n1 (Some p) g in
      let opened_now : new.opened.items ≡ old.opened.items ++ suc (length ts) ∷ [] = opened ∙ ap (λ (k : ℕ). old.opened.items ++ k ∷ []) time in
      let closed_now : new.closed.items ≡ old.closed.items ++ suc (length ts) ∷ [] = closed ∙ ap (λ (k : ℕ). old.closed.items ++ k ∷ []) time in
      let told = one_more fed.Opened (ap (λ (x : TreeToken). fed_at (Some p) x) is) fed_is in
      let long = long_more nodes opened_now closed_now in
      record {
        tree_is = grown_tree;
        fed_is = told.0;
        counted = told.1;
        opened_is = opened_more nodes opened_now closed_now;
        closed_is = λ n l c. closed_more nodes opened_now closed_now n l (λ a. ap (λ (o : Option Node). is_open_at o n) at ∙ (sym (ap (λ (P : Tree). is_open_at P.at n) (tree ∙ g)) ∙ c));
        opened_long = long.0;
        closed_long = long.1;
      }
    where
      grow_by : Option Node → TreeToken → Tree
      grow_by o x = grow_at o x old.tree

  same_nodes : (q : Node) → (grow_at (Some q) End old.tree).nodes ≡ old.tree.nodes
  same_nodes Root = refl
  same_nodes (Under q s k) = refl

  -- what is closed behind an end was closed before, but for one node
  shut_before : (q : Node) (n : ℕ) → (n ≡ serial_of q → ⊥) → is_open_at (grow_at (Some q) End old.tree).at n ≡ false → within n q ≡ false
  shut_before Root n apart c = ne_eqb 0 n (λ e. apart (sym e))
  shut_before (Under q s k) n apart c = rw (ne_eqb s n (λ e. apart (sym e))) c

  pub ended : (place now : ℕ) → t ≡ End → now ≡ suc (length ts) → place ≡ serial_of p → new.opened.items ≡ old.opened.items → new.closed.items ≡ set old.closed.items place now
      → new.fed.items ≡ old.fed.items ++ fed.Closed place ∷ [] → HasTaken (ts ++ t ∷ []) new
  ended place now is time here opened closed fed_is =
      let g : new.tree ≡ grow_at (Some p) End old.tree = tree ∙ (ap (λ (o : Option Node). grow_at o t old.tree) at ∙ ap (λ (x : TreeToken). grow_at (Some p) x old.tree) is) in
      let nodes : length new.tree.nodes ≡ length old.tree.nodes = ap (λ (P : Tree). length P.nodes) g ∙ ap length (same_nodes p) in
      let whole : Grown old.tree = subst Grown (sym h.tree_is) (Grown-all ts opening Grown-opening) in
      let low : serial_of p < length old.tree.nodes = (let high = Numbered-high 0 old.tree.nodes whole.numbered p (whole.at_in p at) in omega (arith, high)) in
      let told = one_more (fed.Closed place) (ap (λ (x : TreeToken). fed_at (Some p) x) is ∙ ap (λ (k : ℕ). fed.Closed k ∷ []) (sym here)) fed_is in
      record {
        tree_is = grown_tree;
        fed_is = told.0;
        counted = told.1;
        opened_is = λ n l. ap (λ (xs : List ℕ). get_or xs n 0) opened ∙ (h.opened_is n (omega (arith, l, nodes)) ∙ sym (kept_opened ts t n (there n (omega (arith, l, nodes)))));
        closed_is = λ n l c. ap (λ (xs : List ℕ). get_or xs n 0) closed ∙ closed_at n (omega (arith, l, nodes)) (sym (ap (λ (P : Tree). is_open_at P.at n) g) ∙ c) low (cases_eq n place);
        opened_long = ap length opened ∙ (h.opened_long ∙ sym nodes);
        closed_long = ap length closed ∙ (length-set old.closed.items place now ∙ (h.closed_long ∙ sym nodes));
      }
    where
      closed_at : (n : ℕ) → n < length old.tree.nodes → is_open_at (grow_at (Some p) End old.tree).at n ≡ false → serial_of p < length old.tree.nodes → (n ≡ place) ⊎ (n ≡ place → ⊥)
          → get_or (set old.closed.items place now) n 0 ≡ closed_from (ts ++ t ∷ []) opening 0 n
      closed_at n l c low (inl e) =
          let open_here : is_open_at (grow_all ts opening).at n ≡ true =
          ap (λ (P : Tree). is_open_at P.at n) (sym h.tree_is) ∙ (ap (λ (o : Option Node). is_open_at o n) at ∙ within_self n p (eq-eqb (serial_of p) n (sym here ∙ sym e))) in
          ap (λ (k : ℕ). get_or (set old.closed.items place now) k 0) e ∙ (get_or-set_same old.closed.items place now 0 (omega (arith, here, low, h.closed_long)) ∙ (time
          ∙ sym (new_closed ts t n (and_right (ltb n (length (grow_all ts opening).nodes)) (not (is_open_at (grow_all ts opening).at n)) (ap not open_here)))))
      closed_at n l c low (inr apart) =
          let before : is_open_at old.tree.at n ≡ false = ap (λ (o : Option Node). is_open_at o n) at ∙ shut_before p n (λ e. apart (e ∙ sym here)) c in
          get_or-set_other old.closed.items place n now 0 apart ∙ (h.closed_is n l before ∙ sym (kept_closed ts t n (there n l) (shut n before)))

-- a node stands at its number
pub here_of : (ts : List TreeToken) (t : Timed) → HasTaken ts t → (i : ℕ) → i < length t.tree.nodes → i ≡ serial_of (node_at t.tree.nodes i)
here_of ts t h i l = sym (number_of t.tree (subst Grown (sym h.tree_is) (Grown-all ts opening Grown-opening)) i l)
