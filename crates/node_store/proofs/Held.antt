-- Cells and the rows that they hold: that the cells tell the rows, and what each call makes of both.
use Rattle.std.proofs.Common.{◌≡◌, ◌≢◌, ◌==◌, ◌+◌, ◌<◌, ◌≤◌, ℕ, zero, suc, true, false, not, List, [], ◌∷◌, ◌++◌, length, Option, Some, None, cond, refl, sym, ap, subst, ◌∙◌, inl, inr, arith, rules, count_by, is_some}
use Rattle.std.specs.Prelude.{option_map, IsSome, ◌⊎◌, filter}
use Rattle.std.specs.Ordering.{nat_cmp}
use Rattle.std.specs.FinMap.{empty, get, insert, remove, len, len-empty, get-empty}
use Rattle.std.proofs.lemmas.Bool.{cases_eq, eq-eqb, ne_eqb}
use Rattle.std.proofs.lemmas.List.{append-nil, append_assoc, get_or_past}
use Rattle.std.proofs.lemmas.List.Folds.{list_any-append}
use Rattle.std.proofs.lemmas.List.Sums.{sum_by-cons}
use Rattle.node_store.specs.Rows.{StoreRow, Rows, leaf, with_child, without_child, with_payload, changed_at, planted, appended, unlinked, left_by, head_of, last_of, before, after, children_in, children_of, parent_of, is_listed, Distinct, IsTree}
use Rattle.node_store.specs.Links.{Linked, Cells, linked_cell, next_in, siblings, entry_in, rows_from, rows_of, linked_at, Holds, altered, put, fresh_cell, with_last, with_paid, joined, IsSound}
use Rattle.node_store.proofs.Siblings.{head_listed, or_right, left_fresh, right_fresh, after_self, after_around, before_at, before_same, head_same, last_same, last_right, split_at, without_parts, distinct_push, distinct_without, short}
use Rattle.node_store.proofs.Maps.{get_same, get_other, gone_other, same_rows, len_new, some_row, parent_at, child_at, no_row, used_child}
use Rattle.node_store.proofs.Trees as trees
use Rattle.node_store.proofs.Seams.{same_cell, Near, Stands, stands, meets, joined_at, joined_dead}

-- ---- the cells tell the rows

module _ {T : Type 0} where
  none_before : (all : Cells T) (k : ℕ) (cells : Cells T) (q : ℕ) → q < k → get (rows_from all k cells) q ≡ None
  none_before all k [] q lt = get-empty nat_cmp q
  none_before all k (None ∷ cells) q lt = none_before all (k + 1) cells q (omega arith)
  none_before all k (Some m ∷ cells) q lt = get_other _ k (entry_in all m) q (λ e. absurd (omega arith)) ∙ none_before all (k + 1) cells q (omega arith)

  get_from : (all : Cells T) (k : ℕ) (cells : Cells T) (i : ℕ) → get (rows_from all k cells) (k + i) ≡ option_map (entry_in all) (linked_cell cells i)
  get_from all k [] i = get-empty nat_cmp (k + i)
  get_from all k (None ∷ cells) zero = none_before all (k + 1) cells (k + 0) (omega arith)
  get_from all k (None ∷ cells) (suc i) = ap (get (rows_from all (k + 1) cells)) (omega arith) ∙ get_from all (k + 1) cells i
  get_from all k (Some m ∷ cells) zero = get_same _ k (entry_in all m) (k + 0) (omega arith)
  get_from all k (Some m ∷ cells) (suc i) = get_other _ k (entry_in all m) (k + suc i) (λ e. absurd (omega arith)) ∙ ap (get (rows_from all (k + 1) cells)) (omega arith) ∙ get_from all (k + 1) cells i

  pub get_row : (cells : Cells T) (q : ℕ) → get (rows_of cells) q ≡ option_map (entry_in cells) (linked_cell cells q)
  unfolding rows_of
  get_row cells q = ap (get (rows_from cells 0 cells)) (omega arith) ∙ get_from cells 0 cells q

  len_from : (all : Cells T) (k : ℕ) (cells : Cells T) → len (rows_from all k cells) ≡ count_by is_some cells
  len_from all k [] = len-empty nat_cmp (StoreRow T)
  len_from all k (None ∷ cells) = omega (arith, len_from all (k + 1) cells, sum_by-cons (λ (o : Option (Linked T)). cond (is_some o) 1 0) None cells)
  len_from all k (Some m ∷ cells) =
      let more = trees_len all k m cells in
      omega (arith, more, len_from all (k + 1) cells, sum_by-cons (λ (o : Option (Linked T)). cond (is_some o) 1 0) (Some m) cells)
    where
      trees_len : (all : Cells T) (k : ℕ) (m : Linked T) (cells : Cells T) → len (insert (rows_from all (k + 1) cells) k (entry_in all m)) ≡ len (rows_from all (k + 1) cells) + 1
      trees_len all k m cells = len_new (rows_from all (k + 1) cells) k (entry_in all m) (none_before all (k + 1) cells k (omega arith))

  -- there are as many rows as living cells
  pub len_rows : (cells : Cells T) → len (rows_of cells) ≡ count_by is_some cells
  unfolding rows_of
  len_rows cells = len_from cells 0 cells

  within : (cells : Cells T) (p : ℕ) → IsSome (linked_cell cells p) → p < length cells
  within cells p some = grind (arith, get_or_past)

  module _ (cells : Cells T) (rows : Rows T) (root : Option ℕ) (holds : Holds rows (linked_cell cells)) (t : IsTree rows root) where
    in_cells : (p : ℕ) (e : StoreRow T) → get rows p ≡ Some e → linked_cell cells p ≡ Some (linked_at rows p e)
    in_cells p e is = holds p ∙ ap (option_map (linked_at rows p)) is

    low : (p : ℕ) → IsSome (get rows p) → p < length cells
    low p some =
        let e = some_row (get rows p) some in
        within cells p (subst (λ o. IsSome o) (sym (in_cells p e.0 e.1)) (search rules))

    -- the links lead along the children
    along : (q : ℕ) (d : StoreRow T) → get rows q ≡ Some d → (n : ℕ) (pre post : List ℕ) → d.children ≡ pre ++ post → length post ≤ n
        → siblings n cells (head_of post) ≡ post
    along q d has zero pre [] is le = refl
    along q d has zero pre (c ∷ cs) is le = absurd (omega arith)
    along q d has (suc n) pre [] is le = refl
    along q d has (suc n) pre (c ∷ cs) is le =
        let listed : is_listed c d.children ≡ true = ap (is_listed c) is ∙ list_any-append (λ x. x == c) pre (c ∷ cs) ∙ or_right (is_listed c pre) _ (head_listed (c ∷ cs) c refl) in
        let up : parent_of rows c ≡ Some q = t.down c q (child_at rows q c d has ∙ listed) in
        let e = some_row (get rows c) (used_child rows c q up) in
        let under : e.0.parent ≡ Some q = sym (parent_at rows c e.0 e.1) ∙ up in
        let lists : children_of rows e.0.parent ≡ pre ++ c ∷ cs = ap (children_of rows) under ∙ ap children_in has ∙ is in
        let once : Distinct (pre ++ c ∷ cs) = subst Distinct is (t.once q d has) in
        let link : next_in (linked_cell cells c) ≡ head_of cs =
        ap next_in (in_cells c e.0 e.1) ∙ ap (after c) lists ∙ after_self c pre cs (left_fresh c pre cs once) in
        ap (λ o. c ∷ siblings n cells o) link
        ∙ ap (λ l. c ∷ l) (along q d has n (pre ++ c ∷ []) cs (is ∙ sym (append_assoc pre (c ∷ []) cs)) (omega arith))

    few : (q : ℕ) (d : StoreRow T) → get rows q ≡ Some d → length d.children ≤ length cells
    few q d has = short d.children (length cells) (t.once q d has) (λ k listed. low k (used_child rows k q (t.down k q (child_at rows q k d has ∙ listed))))

    same_entry : (q : ℕ) (o : Option (StoreRow T)) → get rows q ≡ o → option_map (entry_in cells) (option_map (linked_at rows q) o) ≡ o
    same_entry q None is = refl
    same_entry q (Some d) is =
        ap (λ cs. Some (record { parent = d.parent; children = cs; payload = d.payload })) (along q d is (length cells) [] d.children refl (few q d is))

    -- the cells tell the rows
    pub rows_is : rows_of cells ≡ rows
    rows_is = same_rows _ _ (λ q. get_row cells q ∙ ap (option_map (entry_in cells)) (holds q) ∙ same_entry q (get rows q) refl)

    pub sound_of : (most : ℕ) → len rows ≤ most → IsSound cells root most
    sound_of most fits =
        record {
          holds = subst (λ m. Holds m (linked_cell cells)) (sym rows_is) holds;
          tree = subst (λ m. IsTree m root) (sym rows_is) t;
          within = subst (λ m. len m ≤ most) (sym rows_is) fits;
        }

-- ---- what each call makes of both

module _ {T : Type 0} where
  put_same : (k p : ℕ) (cell : Option (Linked T)) (cells : ℕ → Option (Linked T)) → p ≡ k → put k cell cells p ≡ cell
  put_same k p cell cells e = ap (λ b. cond b cell (cells p)) (eq-eqb p k e)

  put_other : (k p : ℕ) (cell : Option (Linked T)) (cells : ℕ → Option (Linked T)) → p ≢ k → put k cell cells p ≡ cells p
  put_other k p cell cells d = ap (λ b. cond b cell (cells p)) (ne_eqb p k d)

  pub holds_empty : (cells : ℕ → Option (Linked T)) → ((p : ℕ) → cells p ≡ None) → Holds empty cells
  holds_empty cells none p = none p ∙ sym (ap (option_map (linked_at empty p)) (get-empty nat_cmp p))

  pub holds_planted : (cells : ℕ → Option (Linked T)) (k : ℕ) (x : T) → Holds empty cells → Holds (planted empty k x) (put k (Some (fresh_cell None None x)) cells)
  holds_planted cells k x holds p = elim (cases_eq p k) [
    | inl e ↦ put_same k p _ cells e ∙ sym (ap (option_map (linked_at (planted empty k x) p)) (get_same empty k (leaf None x) p e))
    | inr d ↦ put_other k p _ cells d ∙ holds p ∙ ap (option_map (linked_at empty p)) (get-empty nat_cmp p)
        ∙ sym (ap (option_map (linked_at (planted empty k x) p)) (get_other empty k (leaf None x) p d ∙ get-empty nat_cmp p))
  ]

  -- ---- append

  module _ (rows : Rows T) (root : Option ℕ) (q k : ℕ) (x : T) (e : StoreRow T) (has : get rows q ≡ Some e) (free : get rows k ≡ None) (t : IsTree rows root)
      (cells : ℕ → Option (Linked T)) (holds : Holds rows cells) (prev : Option ℕ) where
    abbrev new : Rows T
    new = insert (insert rows k (leaf (Some q) x)) q (with_child k e)

    abbrev torn : ℕ → Option (Linked T)
    torn = altered (with_last (Some k)) q (put k (Some (fresh_cell (Some q) prev x)) cells)

    apart : q ≢ k
    apart = trees.apart rows root q k x e has free

    upper : get new q ≡ Some (with_child k e)
    upper = trees.upper rows root q k x e has free

    others : (r : ℕ) → r ≢ q → r ≢ k → get new r ≡ get rows r
    others = trees.others rows root q k x e has free

    new_row : get new k ≡ Some (leaf (Some q) x)
    new_row = trees.new_row rows root q k x e has free

    unlisted : is_listed k e.children ≡ false
    unlisted = trees.fresh rows root q k x e has free t

    torn_at : (p : ℕ) (o : Option (Linked T)) → p ≢ q → put k (Some (fresh_cell (Some q) prev x)) cells p ≡ o → torn p ≡ o
    torn_at p o d is = ap (λ b. cond b (option_map (with_last (Some k)) (put k (Some (fresh_cell (Some q) prev x)) cells p)) (put k (Some (fresh_cell (Some q) prev x)) cells p)) (ne_eqb p q d) ∙ is

    torn_upper : torn q ≡ Some (with_last (Some k) (linked_at rows q e))
    torn_upper =
        ap (λ b. cond b (option_map (with_last (Some k)) (put k (Some (fresh_cell (Some q) prev x)) cells q)) (put k (Some (fresh_cell (Some q) prev x)) cells q)) (eq-eqb q q refl)
        ∙ ap (option_map (with_last (Some k))) (put_other k q _ cells apart ∙ holds q ∙ ap (option_map (linked_at rows q)) has)

    -- the siblings of an older row
    lists : (a : Option ℕ) → (children_of new a ≡ children_of rows a) ⊎ ((children_of rows a ≡ e.children) × (children_of new a ≡ e.children ++ k ∷ []))
    lists None = inl refl
    lists (Some a) = elim (cases_eq a q) [
      | inl aq ↦ inr (ap (λ r. children_in (get rows r)) aq ∙ ap children_in has, ap (λ r. children_in (get new r)) aq ∙ ap children_in upper)
      | inr nq ↦ elim (cases_eq a k) [
        | inl ak ↦ inl (ap (λ r. children_in (get new r)) ak ∙ ap children_in new_row ∙ sym (ap (λ r. children_in (get rows r)) ak ∙ ap children_in free))
        | inr nk ↦ inl (ap children_in (others a nq nk))
      ]
    ]

    next_kept : (p : ℕ) (a : Option ℕ) → p ≢ k → last_of e.children ≢ Some p → after p (children_of rows a) ≡ after p (children_of new a)
    next_kept p a d n = elim (lists a) [
      | inl same ↦ ap (after p) (sym same)
      | inr both ↦ ap (after p) (both.0 ∙ sym (append-nil e.children)) ∙ sym (ap (after p) both.1 ∙ after_around p k e.children [] d n)
    ]

    prev_kept : (p : ℕ) (a : Option ℕ) → p ≢ k → before p (children_of rows a) ≡ before p (children_of new a)
    prev_kept p a d = elim (lists a) [
      | inl same ↦ ap (before p) (sym same)
      | inr both ↦ ap (before p) (both.0 ∙ sym (append-nil e.children)) ∙ sym (ap (before p) both.1 ∙ before_same p k e.children [] d (λ h. absurd (cc)))
    ]

    abbrev NearAt : ℕ → StoreRow T → Linked T → Type 0
    NearAt p y m = Near q (last_of e.children) (Some k) p m (linked_at new p y)

    near_new : (p : ℕ) → p ≡ k → Stands (NearAt p (leaf (Some q) x)) (torn p)
    near_new p pk = stands (fresh_cell (Some q) prev x) (torn_at p _ (λ pq. apart (sym pq ∙ pk)) (put_same k p _ cells pk))
        (record {
          parent = refl;
          payload = refl;
          next = λ n. sym (ap (λ r. after r (children_of new (Some q))) pk ∙ ap (after k) (ap children_in upper) ∙ after_self k e.children [] unlisted);
          prev = λ n. absurd (n (ap Some (sym pk)));
          first = λ n. refl;
          last = λ n. refl;
        })

    near_upper : (p : ℕ) → p ≡ q → Stands (NearAt p (with_child k e)) (torn p)
    near_upper p pq = stands (with_last (Some k) (linked_at rows p e)) (ap torn pq ∙ torn_upper ∙ ap (λ r. Some (with_last (Some k) (linked_at rows r e))) (sym pq))
        (record {
          parent = refl;
          payload = refl;
          next = λ n. next_kept p e.parent (λ pk. apart (sym pq ∙ pk)) n;
          prev = λ n. prev_kept p e.parent (λ pk. apart (sym pq ∙ pk));
          first = λ n. ap head_of (sym (append-nil e.children)) ∙ head_same e.children [] (k ∷ []) (λ none. n (pq, none));
          last = λ n. sym (last_right e.children (k ∷ []) (λ h. absurd (cc)));
        })

    near_other : (p : ℕ) (y : StoreRow T) → p ≢ q → p ≢ k → get rows p ≡ Some y → Stands (NearAt p y) (torn p)
    near_other p y nq nk is = stands (linked_at rows p y) (torn_at p _ nq (put_other k p _ cells nk ∙ holds p ∙ ap (option_map (linked_at rows p)) is))
        (record {
          parent = refl;
          payload = refl;
          next = λ n. next_kept p y.parent nk n;
          prev = λ n. prev_kept p y.parent nk;
          first = λ n. refl;
          last = λ n. refl;
        })

    near : (p : ℕ) (y : StoreRow T) → get new p ≡ Some y → Stands (NearAt p y) (torn p)
    near p y is = elim (cases_eq p q) [
      | inl pq ↦
          let some : Some (with_child k e) ≡ Some y = sym upper ∙ ap (get new) (sym pq) ∙ is in
          let same : with_child k e ≡ y = search some in
          subst (λ z. Stands (NearAt p z) (torn p)) same (near_upper p pq)
      | inr nq ↦ elim (cases_eq p k) [
        | inl pk ↦
            let some : Some (leaf (Some q) x) ≡ Some y = sym new_row ∙ ap (get new) (sym pk) ∙ is in
            let same : leaf (Some q) x ≡ y = search some in
            subst (λ z. Stands (NearAt p z) (torn p)) same (near_new p pk)
        | inr nk ↦ near_other p y nq nk (sym (others p nq nk) ∙ is)
      ]
    ]

    torn_dead : (p : ℕ) → get new p ≡ None → torn p ≡ None
    torn_dead p none = elim (cases_eq p q) [
      | inl pq ↦ let bad : None ≡ Some (with_child k e) = sym none ∙ ap (get new) pq ∙ upper in absurd (cc)
      | inr nq ↦ elim (cases_eq p k) [
        | inl pk ↦ let bad : None ≡ Some (leaf (Some q) x) = sym none ∙ ap (get new) pk ∙ new_row in absurd (cc)
        | inr nk ↦ torn_at p _ nq (put_other k p _ cells nk ∙ holds p ∙ ap (option_map (linked_at rows p)) (sym (others p nq nk) ∙ none))
      ]
    ]

    holds_new : Holds new (joined (Some q) (last_of e.children) (Some k) torn)
    holds_new p = go (get new p) refl
      where
        go : (o : Option (StoreRow T)) → get new p ≡ o → joined (Some q) (last_of e.children) (Some k) torn p ≡ option_map (linked_at new p) o
        go None is = joined_dead (Some q) (last_of e.children) (Some k) p torn (torn_dead p is)
        go (Some y) is =
            joined_at q p (last_of e.children) (Some k) torn (linked_at new p y)
            (meets new q (with_child k e) e.children (k ∷ []) upper refl (distinct_push e.children k (t.once q e has) unlisted)
            (trees.tree_two rows root q k x e has free t).down p y is)
            (near p y is)

    pub holds_appended : Holds (appended rows q k x) (joined (Some q) (last_of e.children) (Some k) torn)
    holds_appended = subst (λ m. Holds m (joined (Some q) (last_of e.children) (Some k) torn)) (sym (trees.appended_is rows root q k x e has free)) holds_new

  -- ---- unlink

  module _ (rows : Rows T) (root : Option ℕ) (k : ℕ) (e : StoreRow T) (has : get rows k ≡ Some e) (childless : e.children ≡ []) (t : IsTree rows root)
      (cells : ℕ → Option (Linked T)) (holds : Holds rows cells) where
    abbrev gone : ℕ → Option (Linked T)
    gone = put k None cells

    -- of the root
    top_gone : (p : ℕ) → parent_of rows k ≡ None → gone p ≡ None
    top_gone p top = elim (cases_eq p k) [
      | inl pk ↦ put_same k p None cells pk
      | inr nk ↦
          let none : get rows p ≡ None = sym (gone_other rows k p nk) ∙ ap (λ m. get m p) (trees.nothing_left rows root k e has childless t top) ∙ get-empty nat_cmp p in
          put_other k p None cells nk ∙ holds p ∙ ap (option_map (linked_at rows p)) none
    ]

    holds_top : (prev next : Option ℕ) → prev ≡ None → next ≡ None → parent_of rows k ≡ None → Holds (remove rows k) (joined None prev next gone)
    holds_top prev next is_prev is_next top =
        subst (λ m. Holds m (joined None prev next gone)) (sym (trees.nothing_left rows root k e has childless t top))
        (holds_empty (joined None prev next gone) (λ p. joined_dead None prev next p gone (top_gone p top)))

    -- of a child
    module _ (q : ℕ) (under : parent_of rows k ≡ Some q) (d : StoreRow T) (above : get rows q ≡ Some d)
        (pre post : List ℕ) (parts : d.children ≡ pre ++ k ∷ post) where
      abbrev less : Rows T
      less = insert (remove rows k) q (without_child k d)

      once : Distinct (pre ++ k ∷ post)
      once = subst Distinct parts (t.once q d above)

      away : q ≢ k
      away = trees.away rows root k e has childless t q under d above

      less_upper : get less q ≡ Some (without_child k d)
      less_upper = trees.four_upper rows root k e has childless t q under d above

      less_others : (r : ℕ) → r ≢ q → r ≢ k → get less r ≡ get rows r
      less_others = trees.four_others rows root k e has childless t q under d above

      less_gone : get less k ≡ None
      less_gone = trees.four_gone rows root k e has childless t q under d above

      kept : (without_child k d).children ≡ pre ++ post
      kept = ap (filter (λ c. not (c == k))) parts ∙ without_parts k pre post once

      left_lists : (a : Option ℕ) → (children_of less a ≡ children_of rows a) ⊎ ((children_of rows a ≡ pre ++ k ∷ post) × (children_of less a ≡ pre ++ post))
      left_lists None = inl refl
      left_lists (Some a) = elim (cases_eq a q) [
        | inl aq ↦ inr (ap (λ r. children_in (get rows r)) aq ∙ ap children_in above ∙ parts, ap (λ r. children_in (get less r)) aq ∙ ap children_in less_upper ∙ kept)
        | inr nq ↦ elim (cases_eq a k) [
          | inl ak ↦ inl (ap (λ r. children_in (get less r)) ak ∙ ap children_in less_gone ∙ sym (ap (λ r. children_in (get rows r)) ak ∙ ap children_in has ∙ childless))
          | inr nk ↦ inl (ap children_in (less_others a nq nk))
        ]
      ]

      next_left : (p : ℕ) (a : Option ℕ) → p ≢ k → last_of pre ≢ Some p → after p (children_of rows a) ≡ after p (children_of less a)
      next_left p a nk n = elim (left_lists a) [
        | inl same ↦ ap (after p) (sym same)
        | inr both ↦ ap (after p) both.0 ∙ after_around p k pre post nk n ∙ sym (ap (after p) both.1)
      ]

      prev_left : (p : ℕ) (a : Option ℕ) → p ≢ k → head_of post ≢ Some p → before p (children_of rows a) ≡ before p (children_of less a)
      prev_left p a nk n = elim (left_lists a) [
        | inl same ↦ ap (before p) (sym same)
        | inr both ↦ ap (before p) both.0 ∙ before_same p k pre post nk n ∙ sym (ap (before p) both.1)
      ]

      abbrev LeftAt : ℕ → StoreRow T → Linked T → Type 0
      LeftAt p y m = Near q (last_of pre) (head_of post) p m (linked_at less p y)

      was_at : (p : ℕ) (y : StoreRow T) → p ≢ k → get rows p ≡ Some y → gone p ≡ Some (linked_at rows p y)
      was_at p y nk is = put_other k p None cells nk ∙ holds p ∙ ap (option_map (linked_at rows p)) is

      left_upper : (p : ℕ) → p ≡ q → Stands (LeftAt p (without_child k d)) (gone p)
      left_upper p pq =
          let nk : p ≢ k = λ pk. away (sym pq ∙ pk) in
          stands (linked_at rows p d) (was_at p d nk (ap (get rows) pq ∙ above))
          (record {
            parent = refl;
            payload = refl;
            next = λ n. next_left p d.parent nk n;
            prev = λ n. prev_left p d.parent nk n;
            first = λ n. ap head_of parts ∙ head_same pre (k ∷ post) post (λ none. n (pq, none)) ∙ sym (ap head_of kept);
            last = λ n. ap last_of parts ∙ last_same k pre post (λ none. n (pq, none)) ∙ sym (ap last_of kept);
          })

      left_other : (p : ℕ) (y : StoreRow T) → p ≢ k → get rows p ≡ Some y → Stands (LeftAt p y) (gone p)
      left_other p y nk is = stands (linked_at rows p y) (was_at p y nk is)
          (record {
            parent = refl;
            payload = refl;
            next = λ n. next_left p y.parent nk n;
            prev = λ n. prev_left p y.parent nk n;
            first = λ n. refl;
            last = λ n. refl;
          })

      left_near : (p : ℕ) (y : StoreRow T) → get less p ≡ Some y → Stands (LeftAt p y) (gone p)
      left_near p y is = elim (cases_eq p q) [
        | inl pq ↦
            let some : Some (without_child k d) ≡ Some y = sym less_upper ∙ ap (get less) (sym pq) ∙ is in
            let same : without_child k d ≡ y = search some in
            subst (λ z. Stands (LeftAt p z) (gone p)) same (left_upper p pq)
        | inr nq ↦ elim (cases_eq p k) [
          | inl pk ↦ let bad : None ≡ Some y = sym less_gone ∙ ap (get less) (sym pk) ∙ is in absurd (cc)
          | inr nk ↦ left_other p y nk (sym (less_others p nq nk) ∙ is)
        ]
      ]

      left_dead : (p : ℕ) → get less p ≡ None → gone p ≡ None
      left_dead p none = elim (cases_eq p k) [
        | inl pk ↦ put_same k p None cells pk
        | inr nk ↦ elim (cases_eq p q) [
          | inl pq ↦ let bad : None ≡ Some (without_child k d) = sym none ∙ ap (get less) pq ∙ less_upper in absurd (cc)
          | inr nq ↦ put_other k p None cells nk ∙ holds p ∙ ap (option_map (linked_at rows p)) (sym (less_others p nq nk) ∙ none)
        ]
      ]

      holds_less : Holds less (joined (Some q) (last_of pre) (head_of post) gone)
      holds_less p = go (get less p) refl
        where
          go : (o : Option (StoreRow T)) → get less p ≡ o → joined (Some q) (last_of pre) (head_of post) gone p ≡ option_map (linked_at less p) o
          go None is = joined_dead (Some q) (last_of pre) (head_of post) p gone (left_dead p is)
          go (Some y) is =
              joined_at q p (last_of pre) (head_of post) gone (linked_at less p y)
              (meets less q (without_child k d) pre post less_upper kept (subst Distinct (kept) (distinct_without k d.children (t.once q d above)))
              (trees.tree_four rows root k e has childless t q under d above).down p y is)
              (left_near p y is)

      prev_is : before k (children_of rows (Some q)) ≡ last_of pre
      prev_is = ap (before k) (ap children_in above ∙ parts) ∙ before_at k pre post (left_fresh k pre post once) (right_fresh k pre post once)

      next_is : after k (children_of rows (Some q)) ≡ head_of post
      next_is = ap (after k) (ap children_in above ∙ parts) ∙ after_self k pre post (left_fresh k pre post once)

      holds_child : Holds (changed_at (without_child k) q (remove rows k)) (joined (Some q) (before k (children_of rows (Some q))) (after k (children_of rows (Some q))) gone)
      holds_child =
          subst (λ m. Holds m (joined (Some q) (before k (children_of rows (Some q))) (after k (children_of rows (Some q))) gone)) (sym (trees.four_is rows root k e has childless t q under d above))
          (subst (λ l. Holds less (joined (Some q) l (after k (children_of rows (Some q))) gone)) (sym prev_is)
          (subst (λ r. Holds less (joined (Some q) (last_of pre) r gone)) (sym next_is) holds_less))

    -- the cell of the leaf tells its neighbours
    pub holds_unlinked : Holds (unlinked rows k) (joined (linked_at rows k e).parent (linked_at rows k e).prev (linked_at rows k e).next gone)
    holds_unlinked = subst (λ a. Holds (unlinked rows k) (joined a (before k (children_of rows a)) (after k (children_of rows a)) gone)) (parent_at rows k e has) (go (parent_of rows k) refl)
      where
        at_row : (q : ℕ) → parent_of rows k ≡ Some q → (o : Option (StoreRow T)) → get rows q ≡ o
            → Holds (changed_at (without_child k) q (remove rows k)) (joined (Some q) (before k (children_of rows (Some q))) (after k (children_of rows (Some q))) gone)
        at_row q under None none = no_row rows k q none (t.up k q under)
        at_row q under (Some d) above =
            let s = split_at k d.children (sym (child_at rows q k d above) ∙ t.up k q under) in
            holds_child q under d above s.0 s.1 s.2

        go : (a : Option ℕ) → parent_of rows k ≡ a → Holds (left_by (remove rows k) k a) (joined a (before k (children_of rows a)) (after k (children_of rows a)) gone)
        go None top = holds_top None None refl refl top
        go (Some q) under = at_row q under (get rows q) refl

  -- ---- a written payload

  module _ (rows : Rows T) (root : Option ℕ) (k : ℕ) (e : StoreRow T) (has : get rows k ≡ Some e) (x : T) (cells : ℕ → Option (Linked T)) (holds : Holds rows cells) where
    abbrev paid : Rows T
    paid = insert rows k (with_payload x e)

    paid_lists : (a : Option ℕ) → children_of paid a ≡ children_of rows a
    paid_lists None = refl
    paid_lists (Some a) = trees.alike rows root k e has x children_in refl a

    other_cell : (p : ℕ) (y : StoreRow T) → linked_at rows p y ≡ linked_at paid p y
    other_cell p y = same_cell _ _ refl refl refl (ap (before p) (sym (paid_lists y.parent))) (ap (after p) (sym (paid_lists y.parent))) refl

    paid_cell : (p : ℕ) (y : StoreRow T) → with_paid x (linked_at rows p y) ≡ linked_at paid p (with_payload x y)
    paid_cell p y = ap (with_paid x) (other_cell p y)

    at_insert : Holds paid (altered (with_paid x) k cells)
    at_insert p = elim (cases_eq p k) [
      | inl pk ↦
          ap (λ b. cond b (option_map (with_paid x) (cells p)) (cells p)) (eq-eqb p k pk)
          ∙ ap (option_map (with_paid x)) (holds p ∙ ap (option_map (linked_at rows p)) (ap (get rows) pk ∙ has))
          ∙ ap Some (paid_cell p e)
          ∙ sym (ap (option_map (linked_at paid p)) (get_same rows k (with_payload x e) p pk))
      | inr nk ↦
          ap (λ b. cond b (option_map (with_paid x) (cells p)) (cells p)) (ne_eqb p k nk)
          ∙ holds p
          ∙ each (get rows p)
          ∙ sym (ap (option_map (linked_at paid p)) (get_other rows k (with_payload x e) p nk))
    ]
      where
        each : (o : Option (StoreRow T)) → option_map (linked_at rows p) o ≡ option_map (linked_at paid p) o
        each None = refl
        each (Some y) = ap Some (other_cell p y)

    pub holds_paid : Holds (changed_at (with_payload x) k rows) (altered (with_paid x) k cells)
    holds_paid = subst (λ m. Holds m (altered (with_paid x) k cells)) (sym (trees.paid_is rows root k e has x)) at_insert
