-- What a token does to the rows.
use Rattle.std.proofs.Common.{◌≡◌, ◌⊎◌, ℕ, zero, suc, ◌+◌, ◌<◌, ◌≤◌, true, false, not, ◌||◌, List, [], ◌∷◌, ◌++◌, length, get_or, take, drop, refl, sym, ◌∙◌, ap, subst, inl, inr, arith, length-append, Option, Some, None}
use Rattle.std.specs.Prelude.{is_some, unwrap_or, set}
use Rattle.std.proofs.lemmas.List.{get_or_append_left, get_or_push, length-set, take_at, get_or-set_same, get_or-set_other}
use Rattle.std.proofs.lemmas.Bool.{cases_lt, cases_order, or_cases, or_left, or_right, eqb-true, eq-eqb, ne_eqb, false≢true, not-true, not-false}
use Rattle.gcx_model.specs.Tree.{Node, Root, Under, serial_of, kind_of, within, Tree, Start, Chars, End, grow}
use Rattle.doc_tree.specs.declared.row.Row.{Row}
use Rattle.doc_tree.specs.declared.row.Content.TheVariants as content
use Rattle.gcx_base.specs.Kinds.{is_text}
use Rattle.doc_tree.specs.Rows.{kind_in, node_at, with_row, nodes_from, nodes_of, tree_of_rows, no_row, parent_in, parent_of, end_in, end_at, closed_at, with_end, IsOpen, IsBehind, IsNested, IsTree}
use Rattle.doc_tree.proofs.Nodes.{Rises, are_nodes, nodes_of-push, length-nodes_of, node_of_row}
use Rattle.doc_tree.proofs.Steps.{within_low}
use Rattle.doc_tree.proofs.Order.{within_self, inside}

within_at_most : (n : ℕ) (m : Node) → Rises m → within n m ≡ true → n ≤ serial_of m
within_at_most n m r w = elim (cases_lt (serial_of m) n) [
  | inl low ↦ absurd (false≢true (sym (within_low n m r low) ∙ w))
  | inr high ↦ high
]

module _ (rows : List Row) (r : Row) where
  abbrev more : List Row
  more = rows ++ r ∷ []

  pub node_kept : (i : ℕ) → i ≤ length rows → node_at (nodes_of more) i ≡ node_at (nodes_of rows) i
  node_kept i h = ap (λ ns. node_at ns i) (nodes_of-push rows r) ∙ get_or_append_left (nodes_of rows) _ Root i (omega (arith, length-nodes_of rows))

  parent_kept : (k : ℕ) → k < length rows → parent_in more k ≡ parent_in rows k
  parent_kept k h = ap (λ (x : Row). x.parent) (get_or_append_left rows (r ∷ []) no_row k h)

  end_kept_in : (k : ℕ) → k < length rows → end_in more k ≡ end_in rows k
  end_kept_in k h = ap (λ (x : Row). x.end) (get_or_append_left rows (r ∷ []) no_row k h)

  end_new : (k : ℕ) → k ≡ length rows → end_in more k ≡ r.end
  end_new k e = ap (λ (x : Row). x.end) (get_or_push rows r no_row k (sym e))

  parent_new : (k : ℕ) → k ≡ length rows → parent_in more k ≡ r.parent
  parent_new k e = ap (λ (x : Row). x.parent) (get_or_push rows r no_row k (sym e))

  length_more : length more ≡ length rows + 1
  length_more = length-append rows (r ∷ [])

  abbrev new_node : Node
  new_node = Under (node_at (nodes_of rows) r.parent) (length (nodes_of rows)) (kind_in r.content)

  pub node_new : (i : ℕ) → i ≡ length rows + 1 → node_at (nodes_of more) i ≡ new_node
  node_new i e = ap (λ ns. node_at ns i) (nodes_of-push rows r) ∙ get_or_push (nodes_of rows) _ Root i (omega (arith, length-nodes_of rows))

  module _ (nested : IsNested rows) (opened : IsOpen rows r.parent) (closed : (k : ℕ) → k < length rows → is_some (end_in rows k) ≡ not (within (suc k) (node_at (nodes_of rows) r.parent))) where
    -- what a kept end says of the new row
    behind_kept : (k : ℕ) → k < length rows → (o : Option ℕ) → end_in rows k ≡ o → IsBehind more (suc k) (unwrap_or o (length more))
    behind_kept k h None e =
        let b : IsBehind rows (suc k) (length rows) = subst (λ (x : Option ℕ). IsBehind rows (suc k) (unwrap_or x (length rows))) e (nested.ends (suc k) (omega arith)) in
        let w = not-false _ (sym (closed k h) ∙ ap is_some e) in
        let t = opened.there in
        let low = within_at_most (suc k) (node_at (nodes_of rows) r.parent) ((are_nodes rows).rises r.parent (omega (arith, length-nodes_of rows))) w in
        let at = (are_nodes rows).number r.parent (omega (arith, length-nodes_of rows)) in
        record {
          from = omega (arith, length_more);
          to = omega arith;
          inside = λ j f g. elim (cases_lt j (length rows)) [
            | inl l ↦ (let x = b.inside j f l in let y = parent_kept j l in omega arith)
            | inr l ↦ (let y = parent_new j (omega (arith, length_more)) in omega arith)
          ];
          outside = λ g. absurd (omega arith);
        }
    behind_kept k h (Some m) e =
        let b : IsBehind rows (suc k) m = subst (λ (x : Option ℕ). IsBehind rows (suc k) (unwrap_or x (length rows))) e (nested.ends (suc k) (omega arith)) in
        let w : within (suc k) (node_at (nodes_of rows) r.parent) ≡ false = not-true _ (sym (closed k h) ∙ ap is_some e) in
        record {
          from = b.from;
          to = let x = b.to in omega (arith, length_more);
          inside = λ j f g. let x = b.to in let y = parent_kept j (omega arith) in let z = b.inside j f g in omega arith;
          outside = λ g. elim (cases_lt m (length rows)) [
            | inl l ↦ (let x = b.outside l in let y = parent_kept m l in omega arith)
            | inr l ↦ elim (cases_lt r.parent (suc k)) [
              | inl low ↦ (let x = b.to in let y = parent_new m (omega (arith, length_more)) in omega arith)
              | inr high ↦ (let x = b.to in absurd (false≢true (sym w ∙ in_range (suc k) r.parent high opened.there (λ j f g. b.inside j f (omega arith)))))
            ]
          ];
        }
      where
        in_range : (n i : ℕ) → n ≤ i → i ≤ length rows → ((j : ℕ) → n ≤ j → j < i → n ≤ parent_in rows j) → within n (node_at (nodes_of rows) i) ≡ true
        in_range n zero le to all = within_self n (node_at (nodes_of rows) 0) ((are_nodes rows).number 0 (omega (arith, length-nodes_of rows)) ∙ omega arith)
        in_range n (suc i) le to all = elim (cases_lt i n) [
          | inl g ↦ within_self n (node_at (nodes_of rows) (suc i)) ((are_nodes rows).number (suc i) (omega (arith, length-nodes_of rows)) ∙ omega arith)
          | inr g ↦ inside rows nested n i g (omega arith) (λ j a b. all j a (omega arith))
        ]

    ends_more : unwrap_or r.end (length more) ≡ length more → (n : ℕ) → n ≤ length more → IsBehind more n (end_at more n)
    ends_more e zero h = record { from = omega arith; to = omega arith; inside = λ j f g. omega arith; outside = λ g. absurd (omega arith) }
    ends_more e (suc k) h = elim (cases_lt k (length rows)) [
      | inl l ↦ subst (λ (x : Option ℕ). IsBehind more (suc k) (unwrap_or x (length more))) (sym (end_kept_in k l)) (behind_kept k l (end_in rows k) refl)
      | inr l ↦ (
          let s : k ≡ length rows = omega (arith, length_more) in
          let n : suc k ≡ length more = omega (arith, length_more) in
          let m : end_at more (suc k) ≡ length more = ap (λ (x : Option ℕ). unwrap_or x (length more)) (end_new k s) ∙ e in
          record { from = omega arith; to = omega arith; inside = λ j f g. absurd (omega arith); outside = λ g. absurd (omega arith) }
          )
    ]

    pub nested_more : unwrap_or r.end (length more) ≡ length more → IsNested more
    nested_more ends = record {
      low = λ k h. elim (cases_lt k (length rows)) [
        | inl g ↦ (let e = parent_kept k g in let l = nested.low k g in omega arith)
        | inr g ↦ (let e = parent_new k (omega (arith, length_more)) in let t = opened.there in omega arith)
      ];
      holders = λ k h. elim (cases_lt k (length rows)) [
        | inl g ↦ (let l = nested.low k g in ap (λ q. is_text (kind_of (node_at (nodes_of more) q))) (parent_kept k g) ∙ (ap (λ m. is_text (kind_of m)) (node_kept (parent_in rows k) (omega arith)) ∙ nested.holders k g))
        | inr g ↦ ap (λ q. is_text (kind_of (node_at (nodes_of more) q))) (parent_new k (omega (arith, length_more))) ∙ (ap (λ m. is_text (kind_of m)) (node_kept r.parent opened.there) ∙ opened.holder)
      ];
      nested = λ i j l le to h low e. elim (cases_lt l (length rows)) [
        | inl g ↦ (let f = parent_kept j (omega arith) in nested.nested i j l le to g (omega arith) (sym (parent_kept l g) ∙ e))
        | inr g ↦ (let f = parent_new l (omega (arith, length_more)) in last i j l le to h g low (sym f ∙ e) (cases_lt j (length rows)))
      ];
      ends = ends_more ends;
    }
      where
        last : (i j l : ℕ) → i ≤ j → j ≤ l → l < length more → length rows ≤ l → parent_in more j < i → r.parent ≡ i → (j < length rows) ⊎ (length rows ≤ j) → ⊥
        last i j l le to h g low e (inl s) =
            let f = parent_kept j s in
            let b = opened.behind i j (within_self i (node_at (nodes_of rows) r.parent) ((are_nodes rows).number r.parent (let t = opened.there in omega (arith, length-nodes_of rows)) ∙ e)) le s in
            omega arith
        last i j l le to h g low e (inr s) = let f = parent_new j (omega (arith, length_more)) in omega arith

    -- the innermost open node stays open behind the new one
    pub still_open : (i : ℕ) → i ≡ r.parent → IsOpen more i
    still_open i e = record {
      there = let t = opened.there in omega (arith, length_more);
      holder = ap (λ q. is_text (kind_of (node_at (nodes_of more) q))) e ∙ (ap (λ m. is_text (kind_of m)) (node_kept r.parent opened.there) ∙ opened.holder);
      behind = λ n j w le h. behind n j (subst (λ (m : Node). within n m ≡ true) (ap (λ q. node_at (nodes_of more) q) e ∙ node_kept r.parent opened.there) w) le h (cases_lt j (length rows));
    }
      where
        behind : (n j : ℕ) → within n (node_at (nodes_of rows) r.parent) ≡ true → n ≤ j → j < length more → (j < length rows) ⊎ (length rows ≤ j) → n ≤ parent_in more j
        behind n j w le h (inl g) = let f = parent_kept j g in let b = opened.behind n j w le g in omega arith
        behind n j w le h (inr g) = let f = parent_new j (omega (arith, length_more)) in let b = within_at_most n (node_at (nodes_of rows) r.parent) ((are_nodes rows).rises r.parent (let t = opened.there in omega (arith, length-nodes_of rows))) w in let u = (are_nodes rows).number r.parent (let t = opened.there in omega (arith, length-nodes_of rows)) in omega arith

    -- so is the new one, if it is no text
    pub new_open : (i : ℕ) → i ≡ length more → is_text (kind_in r.content) ≡ false → IsOpen more i
    new_open i e plain = record {
      there = omega arith;
      holder = ap (λ m. is_text (kind_of m)) (node_new i (omega (arith, length_more))) ∙ plain;
      behind = λ n j w le h. behind n j (subst (λ (m : Node). within n m ≡ true) (node_new i (omega (arith, length_more))) w) le h;
    }
      where
        behind : (n j : ℕ) → within n new_node ≡ true → n ≤ j → j < length more → n ≤ parent_in more j
        behind n j w le h = elim (or_cases _ _ w) [
          | inl s ↦ (let f = eqb-true (length (nodes_of rows)) n s in absurd (omega (arith, length_more, length-nodes_of rows)))
          | inr t ↦ (still_open r.parent refl).behind n j (subst (λ (m : Node). within n m ≡ true) (sym (node_kept r.parent opened.there)) t) le h
        ]

    -- a text is closed at once
    pub text_closed : (i : ℕ) → i ≡ r.parent → is_some r.end ≡ true → (k : ℕ) → k < length more → is_some (end_in more k) ≡ not (within (suc k) (node_at (nodes_of more) i))
    text_closed i e ends k h =
        let t = opened.there in
        let m : node_at (nodes_of more) i ≡ node_at (nodes_of rows) r.parent = ap (node_at (nodes_of more)) e ∙ node_kept r.parent t in
        elim (cases_lt k (length rows)) [
          | inl l ↦ ap is_some (end_kept_in k l) ∙ (closed k l ∙ sym (ap (λ n. not (within (suc k) n)) m))
          | inr l ↦ ap is_some (end_new k (omega (arith, length_more))) ∙ (ends ∙ sym (ap (λ n. not (within (suc k) n)) m ∙ ap not (within_low (suc k) (node_at (nodes_of rows) r.parent) ((are_nodes rows).rises r.parent (omega (arith, length-nodes_of rows))) (let at = (are_nodes rows).number r.parent (omega (arith, length-nodes_of rows)) in omega (arith, length_more)))))
        ]

    -- an element is open
    pub element_open : (i : ℕ) → i ≡ length more → is_some r.end ≡ false → (k : ℕ) → k < length more → is_some (end_in more k) ≡ not (within (suc k) (node_at (nodes_of more) i))
    element_open i e ends k h =
        let m : node_at (nodes_of more) i ≡ new_node = node_new i (omega (arith, length_more)) in
        elim (cases_lt k (length rows)) [
          | inl l ↦ ap is_some (end_kept_in k l) ∙ (closed k l ∙ sym (ap (λ n. not (within (suc k) n)) m ∙ ap (λ b. not (b || within (suc k) (node_at (nodes_of rows) r.parent))) (ne_eqb (length (nodes_of rows)) (suc k) (λ x. omega (arith, length-nodes_of rows)))))
          | inr l ↦ ap is_some (end_new k (omega (arith, length_more))) ∙ (ends ∙ sym (ap (λ n. not (within (suc k) n)) m ∙ ap not (or_left _ _ (eq-eqb (length (nodes_of rows)) (suc k) (omega (arith, length_more, length-nodes_of rows))))))
        ]

-- the parent of an open node is open
pub parent_open : (rows : List Row) (k : ℕ) → IsNested rows → IsOpen rows (suc k) → IsOpen rows (parent_in rows k)
parent_open rows k nested o =
    let h : k < length rows = let t = o.there in omega arith in
    let e = node_of_row rows k h (nested.low k h) in
    record {
      there = let l = nested.low k h in omega arith;
      holder = nested.holders k h;
      behind = λ n j w le lt. o.behind n j (subst (λ (m : Node). within n m ≡ true) (sym e) (or_right _ _ w)) le lt;
    }

-- an end changes no node
nodes_ended : (ns : List Node) (rs : List Row) (k n : ℕ) → nodes_from ns (set rs k (closed_at (get_or rs k no_row) n)) ≡ nodes_from ns rs
nodes_ended ns [] k n = refl
nodes_ended ns (r ∷ rs) zero n = refl
nodes_ended ns (r ∷ rs) (suc k) n = nodes_ended (with_row ns r) rs k n

module _ (rows : List Row) (k : ℕ) (t : IsTree rows (Some (suc k))) where
  abbrev done : List Row
  done = with_end rows (suc k)

  there : k < length rows
  there = let l = t.innermost.there in omega arith

  pub same_nodes : nodes_of done ≡ nodes_of rows
  same_nodes = nodes_ended (Root ∷ []) rows k (length rows)

  same_length : length done ≡ length rows
  same_length = length-set rows k _

  own_row : get_or done k no_row ≡ closed_at (get_or rows k no_row) (length rows)
  own_row = get_or-set_same rows k _ no_row there

  other_row : (j : ℕ) → (j ≡ k → ⊥) → get_or done j no_row ≡ get_or rows j no_row
  other_row j other = get_or-set_other rows k j _ no_row other

  same_parent : (j : ℕ) → parent_in done j ≡ parent_in rows j
  same_parent j = elim (cases_order j k) [
    | inl s ↦ ap (parent_in done) s ∙ (ap (λ (r : Row). r.parent) own_row ∙ ap (parent_in rows) (sym s))
    | inr o ↦ ap (λ (r : Row). r.parent) (other_row j (λ e. elim o [ inl l ↦ omega arith | inr l ↦ omega arith ]))
  ]

  same_behind : (n e : ℕ) → IsBehind rows n e → IsBehind done n e
  same_behind n e b = record {
    from = b.from;
    to = let x = b.to in let l = same_length in omega arith;
    inside = λ j f g. let x = b.inside j f g in let y = same_parent j in omega arith;
    outside = λ g. let l = same_length in let x = b.outside (omega arith) in let y = same_parent e in omega arith;
  }

  same_end : (j : ℕ) → (j ≡ k → ⊥) → end_at done (suc j) ≡ end_at rows (suc j)
  same_end j other = ap (λ (r : Row). unwrap_or r.end (length done)) (other_row j other) ∙ ap (unwrap_or (end_in rows j)) same_length

  own_end : end_at done (suc k) ≡ length rows
  own_end = ap (λ (r : Row). unwrap_or r.end (length done)) own_row

  own_behind : IsBehind rows (suc k) (length rows)
  own_behind = record {
    from = let h = there in omega arith;
    to = omega arith;
    inside = λ j f g. t.innermost.behind (suc k) j (within_self (suc k) (node_at (nodes_of rows) (suc k)) ((are_nodes rows).number (suc k) (let h = there in omega (arith, length-nodes_of rows)))) f g;
    outside = λ g. absurd (omega arith);
  }

  ends_done : (n : ℕ) → n ≤ length done → IsBehind done n (end_at done n)
  ends_done zero h = record { from = omega arith; to = omega arith; inside = λ j f g. omega arith; outside = λ g. absurd (omega arith) }
  ends_done (suc j) h = elim (cases_order j k) [
    | inl s ↦ subst (λ (i : ℕ). IsBehind done (suc i) (end_at done (suc i))) (sym s) (subst (IsBehind done (suc k)) (sym own_end) (same_behind (suc k) (length rows) own_behind))
    | inr o ↦ subst (IsBehind done (suc j)) (sym (same_end j (λ e. elim o [ inl l ↦ omega arith | inr l ↦ omega arith ]))) (same_behind (suc j) (end_at rows (suc j)) (t.nested.ends (suc j) (let l = same_length in omega arith)))
  ]

  pub nested_done : IsNested done
  nested_done = record {
    low = λ j h. let l = same_length in let x = t.nested.low j (omega arith) in let y = same_parent j in omega arith;
    holders = λ j h. let l = same_length in ap (λ (ns : List Node). is_text (kind_of (node_at ns (parent_in done j)))) same_nodes ∙ (ap (λ i. is_text (kind_of (node_at (nodes_of rows) i))) (same_parent j) ∙ t.nested.holders j (omega arith));
    nested = λ i j l le to h low e. let m = same_length in let y = same_parent j in t.nested.nested i j l le to (omega arith) (omega arith) (sym (same_parent l) ∙ e);
    ends = ends_done;
  }

  open_done : (p : ℕ) → IsOpen rows p → IsOpen done p
  open_done p o = record {
    there = let l = same_length in let x = o.there in omega arith;
    holder = ap (λ (ns : List Node). is_text (kind_of (node_at ns p))) same_nodes ∙ o.holder;
    behind = λ i j w le h. let l = same_length in let x = o.behind i j (sym (ap (λ (ns : List Node). within i (node_at ns p)) same_nodes) ∙ w) le (omega arith) in let y = same_parent j in omega arith;
  }

  up : node_at (nodes_of rows) (suc k) ≡ Under (node_at (nodes_of rows) (parent_in rows k)) (suc k) (kind_in (get_or rows k no_row).content)
  up = node_of_row rows k there (t.nested.low k there)

  closed_done : (j : ℕ) → j < length done → is_some (end_in done j) ≡ not (within (suc j) (node_at (nodes_of done) (parent_in rows k)))
  closed_done j h =
      let l = same_length in
      elim (cases_order j k) [
        | inl s ↦ ap (λ i. is_some (end_in done i)) s ∙ (ap (λ (r : Row). is_some r.end) own_row
            ∙ sym (ap (λ (ns : List Node). not (within (suc j) (node_at ns (parent_in rows k)))) same_nodes ∙ ap not (within_low (suc j) (node_at (nodes_of rows) (parent_in rows k)) ((are_nodes rows).rises (parent_in rows k) (let x = t.nested.low k there in let y = there in omega (arith, length-nodes_of rows)))
            (let x = t.nested.low k there in let y = there in let z = (are_nodes rows).number (parent_in rows k) (omega (arith, length-nodes_of rows)) in omega arith))))
        | inr o ↦ (
            let other : j ≡ k → ⊥ = λ e. elim o [ inl l ↦ omega arith | inr l ↦ omega arith ] in
            ap (λ (r : Row). is_some r.end) (other_row j other) ∙ (t.closed j (omega arith)
            ∙ (ap (λ n. not (within (suc j) n)) up ∙ (ap (λ b. not (b || within (suc j) (node_at (nodes_of rows) (parent_in rows k)))) (ne_eqb (suc k) (suc j) (λ e. other (omega arith)))
            ∙ sym (ap (λ (ns : List Node). not (within (suc j) (node_at ns (parent_in rows k)))) same_nodes))))
            )
      ]

-- the tree of the rows grows
pub opened_tree : (rows : List Row) (p : ℕ) (name : List ℕ) → IsTree rows (Some p)
    → tree_of_rows (rows ++ record { parent = p; end = None; content = content.Element name } ∷ []) (Some (length (rows ++ record { parent = p; end = None; content = content.Element name } ∷ []))) ≡ grow (Start name) (tree_of_rows rows (Some p))
opened_tree rows p name t =
    let r : Row = record { parent = p; end = None; content = content.Element name } in
    ap (λ (m : Node). let x : Tree = record { nodes = nodes_of (rows ++ r ∷ []); at = Some m } in x) (node_new rows r (length (rows ++ r ∷ [])) (length-append rows (r ∷ [])))
    ∙ ap (λ (ns : List Node). let x : Tree = record { nodes = ns; at = Some (new_node rows r) } in x) (nodes_of-push rows r)

pub texted_tree : (rows : List Row) (p : ℕ) (bytes : List ℕ) → IsTree rows (Some p)
    → tree_of_rows (rows ++ record { parent = p; end = Some (length rows + 1); content = content.Text bytes } ∷ []) (Some p) ≡ grow (Chars bytes) (tree_of_rows rows (Some p))
texted_tree rows p bytes t =
    let r : Row = record { parent = p; end = Some (length rows + 1); content = content.Text bytes } in
    ap (λ (m : Node). let x : Tree = record { nodes = nodes_of (rows ++ r ∷ []); at = Some m } in x) (node_kept rows r p t.innermost.there)
    ∙ ap (λ (ns : List Node). let x : Tree = record { nodes = ns; at = Some (node_at (nodes_of rows) p) } in x) (nodes_of-push rows r)

pub ended_tree : (rows : List Row) (p : ℕ) → IsTree rows (Some p) → tree_of_rows (with_end rows p) (parent_of rows p) ≡ grow End (tree_of_rows rows (Some p))
ended_tree rows zero t = sym (ap (λ (m : Node). grow End (let x : Tree = record { nodes = nodes_of rows; at = Some m } in x)) (are_nodes rows).first)
ended_tree rows (suc k) t =
    let h : k < length rows = let l = t.innermost.there in omega arith in
    ap (λ (ns : List Node). let x : Tree = record { nodes = ns; at = Some (node_at ns (parent_in rows k)) } in x) (same_nodes rows k t)
    ∙ sym (ap (λ (m : Node). grow End (let x : Tree = record { nodes = nodes_of rows; at = Some m } in x)) (node_of_row rows k h (t.nested.low k h)))

-- and its rows stay such
pub opened_rows : (rows : List Row) (p : ℕ) (name : List ℕ) → IsTree rows (Some p)
    → IsTree (rows ++ record { parent = p; end = None; content = content.Element name } ∷ []) (Some (length (rows ++ record { parent = p; end = None; content = content.Element name } ∷ [])))
opened_rows rows p name t =
    let r : Row = record { parent = p; end = None; content = content.Element name } in
    record {
      nested = nested_more rows r t.nested t.innermost t.closed refl;
      innermost = new_open rows r t.nested t.innermost t.closed _ refl refl;
      closed = element_open rows r t.nested t.innermost t.closed _ refl refl;
    }

pub texted_rows : (rows : List Row) (p : ℕ) (bytes : List ℕ) → IsTree rows (Some p) → IsTree (rows ++ record { parent = p; end = Some (length rows + 1); content = content.Text bytes } ∷ []) (Some p)
texted_rows rows p bytes t =
    let r : Row = record { parent = p; end = Some (length rows + 1); content = content.Text bytes } in
    record {
      nested = nested_more rows r t.nested t.innermost t.closed (sym (length-append rows (r ∷ [])));
      innermost = still_open rows r t.nested t.innermost t.closed p refl;
      closed = text_closed rows r t.nested t.innermost t.closed p refl refl;
    }

pub ended_rows : (rows : List Row) (p : ℕ) → IsTree rows (Some p) → IsTree (with_end rows p) (parent_of rows p)
ended_rows rows zero t = record {
  nested = t.nested;
  innermost = tt;
  closed = λ j h. t.closed j h ∙ (ap (λ n. not (within (suc j) n)) (are_nodes rows).first ∙ ap not (ne_eqb 0 (suc j) (λ e. omega arith)));
}
ended_rows rows (suc k) t = record {
  nested = nested_done rows k t;
  innermost = open_done rows k t (parent_in rows k) (parent_open rows k t.nested t.innermost);
  closed = closed_done rows k t;
}

-- The same of rows and an innermost open node that are known by equations.

pub started : (rows rows' : List Row) (at : Option ℕ) (p last : ℕ) (name : List ℕ) → IsTree rows at → at ≡ Some p → rows' ≡ rows ++ record { parent = p; end = None; content = content.Element name } ∷ [] → last ≡ length rows'
    → IsTree rows' (Some last) × (tree_of_rows rows' (Some last) ≡ grow (Start name) (tree_of_rows rows at))
started rows rows' at p last name t a r l =
    let more : List Row = rows ++ record { parent = p; end = None; content = content.Element name } ∷ [] in
    let u : IsTree rows (Some p) = subst (IsTree rows) a t in
    let e : last ≡ length more = l ∙ ap length r in (
      subst (λ (x : List Row). IsTree x (Some last)) (sym r) (subst (λ (n : ℕ). IsTree more (Some n)) (sym e) (opened_rows rows p name u)),
      ap (λ (x : List Row). tree_of_rows x (Some last)) r ∙ (ap (λ n. tree_of_rows more (Some n)) e ∙ (opened_tree rows p name u ∙ ap (λ o. grow (Start name) (tree_of_rows rows o)) (sym a))),
    )

pub texted : (rows rows' : List Row) (at : Option ℕ) (p end : ℕ) (bytes : List ℕ) → IsTree rows at → at ≡ Some p → end ≡ length rows + 1 → rows' ≡ rows ++ record { parent = p; end = Some end; content = content.Text bytes } ∷ []
    → IsTree rows' at × (tree_of_rows rows' at ≡ grow (Chars bytes) (tree_of_rows rows at))
texted rows rows' at p end bytes t a l q =
    let more : List Row = rows ++ record { parent = p; end = Some (length rows + 1); content = content.Text bytes } ∷ [] in
    let u : IsTree rows (Some p) = subst (IsTree rows) a t in
    let r : rows' ≡ more = q ∙ ap (λ n. let x : Row = record { parent = p; end = Some n; content = content.Text bytes } in rows ++ x ∷ []) l in (
      subst (λ (x : List Row). IsTree x at) (sym r) (subst (IsTree more) (sym a) (texted_rows rows p bytes u)),
      ap (λ (x : List Row). tree_of_rows x at) r ∙ (ap (tree_of_rows more) a ∙ (texted_tree rows p bytes u ∙ ap (λ o. grow (Chars bytes) (tree_of_rows rows o)) (sym a))),
    )

-- rows that were lent, with an end
pub lent : (rows slice back : List Row) (n p : ℕ) → slice ≡ rows → length slice ≡ n → back ≡ with_end slice p → take n (back ++ drop (length back) rows) ≡ with_end rows p
lent rows slice back n p e l b =
    let f : back ≡ with_end rows p = b ∙ ap (λ r. with_end r p) e in
    take_at back (drop (length back) rows) n (ap length f ∙ (same p ∙ (sym (ap length e) ∙ l))) ∙ f
  where
    same : (p : ℕ) → length (with_end rows p) ≡ length rows
    same zero = refl
    same (suc k) = length-set rows k _

pub ended : (rows rows' : List Row) (at up : Option ℕ) (p : ℕ) → IsTree rows at → at ≡ Some p → rows' ≡ with_end rows p → up ≡ parent_of rows p
    → IsTree rows' up × (tree_of_rows rows' up ≡ grow End (tree_of_rows rows at))
ended rows rows' at up p t a r e =
    let u : IsTree rows (Some p) = subst (IsTree rows) a t in (
      subst (λ (x : List Row). IsTree x up) (sym r) (subst (IsTree (with_end rows p)) (sym e) (ended_rows rows p u)),
      ap (λ (x : List Row). tree_of_rows x up) r ∙ (ap (tree_of_rows (with_end rows p)) e ∙ (ended_tree rows p u ∙ ap (λ o. grow End (tree_of_rows rows o)) (sym a))),
    )
