-- What planting, appending, unlinking and a written payload leave of a tree.
use Rattle.std.proofs.Common.{◌≡◌, ◌≢◌, ◌==◌, ◌||◌, ◌&&◌, ◌+◌, ◌-◌, ℕ, zero, suc, Bool, true, false, not, [], ◌∷◌, Option, Some, None, cond, refl, sym, ap, subst, ◌∙◌, inl, inr, arith, is_some}
use Rattle.std.specs.Prelude.{IsSome, option_and_then}
use Rattle.std.specs.Ordering.{nat_cmp}
use Rattle.std.specs.Cmp.{nat_cmp_total}
use Rattle.std.specs.FinMap.{empty, get, insert, remove, len, len-remove, empty_of_len, get-empty}
use Rattle.std.proofs.lemmas.Bool.{cases_eq, eq-eqb, eqb-true, ne_eqb, or_cases}
use Rattle.std.proofs.lemmas.List.Folds.{list_any-append}
use Rattle.node_store.specs.Rows.{StoreRow, Rows, leaf, with_child, without_child, with_payload, changed_at, planted, appended, unlinked, left_by, parent_of, children_in, is_child, is_listed, Distinct, LinksUp, LinksDown, Rises, IsTree}
use Rattle.node_store.proofs.Siblings.{or_false, both_true, false_of, distinct_push, distinct_without, listed_without}
use Rattle.node_store.proofs.Maps.{get_same, get_other, gone_same, gone_other, same_rows, changed_some, len_new, len_old, is_there, nowhere, parent_at, child_at, no_row, no_parent, used_child}

module _ {T : Type 0} where
  -- ---- no row

  pub tree_empty : IsTree {T = T} empty None
  tree_empty =
      record {
        top = λ p e. absurd (cc);
        up = λ r a is. no_parent (empty {X = StoreRow T} {R = nat_cmp}) r a (get-empty nat_cmp r) is;
        down = λ r a is. no_row (empty {X = StoreRow T} {R = nat_cmp}) r a (get-empty nat_cmp a) is;
        once = λ p e is. let bad : None ≡ Some e = sym (get-empty nat_cmp p) ∙ is in absurd (cc);
        rises = λ p some. nowhere empty p (get-empty nat_cmp p) some;
      }

  -- ---- the root

  module _ (p : ℕ) (x : T) where
    abbrev alone : Rows T
    alone = planted empty p x

    here : get alone p ≡ Some (leaf None x)
    here = get_same empty p (leaf None x) p refl

    elsewhere : (r : ℕ) → r ≢ p → get alone r ≡ None
    elsewhere r d = get_other empty p (leaf None x) r d ∙ get-empty nat_cmp r

    pub tree_planted : IsTree (planted empty p x) (Some p)
    tree_planted =
        record {
          top = λ r e. let same : p ≡ r = search e in (leaf None x, get_same empty p (leaf None x) r (sym same), refl);
          up = λ r a is. elim (cases_eq r p) [
            | inl rp ↦
                let bad : None ≡ Some a = sym (parent_at alone p (leaf None x) here) ∙ ap (parent_of alone) (sym rp) ∙ is in
                absurd (cc)
            | inr np ↦ no_parent alone r a (elsewhere r np) is
          ];
          down = λ r a is. elim (cases_eq a p) [
            | inl same ↦
                let bad : false ≡ true = sym (child_at alone p r (leaf None x) here) ∙ ap (λ b. is_child alone b r) (sym same) ∙ is in
                absurd (cc)
            | inr np ↦ no_row alone r a (elsewhere a np) is
          ];
          once = λ r e is. elim (cases_eq r p) [
            | inl rp ↦
                let same : Some (leaf None x) ≡ Some e = sym (get_same empty p (leaf None x) r rp) ∙ is in
                let it : leaf None x ≡ e = search same in
                subst (λ y. Distinct y.children) it tt
            | inr np ↦ let bad : None ≡ Some e = sym (elsewhere r np) ∙ is in absurd (cc)
          ];
          rises = λ r some. elim (cases_eq r p) [
            | inl rp ↦ (0, ap Some (sym rp))
            | inr np ↦ nowhere alone r (elsewhere r np) some
          ];
        }

  -- ---- a last child

  module _ (rows : Rows T) (root : Option ℕ) (q p : ℕ) (x : T) (e : StoreRow T) (has : get rows q ≡ Some e) (free : get rows p ≡ None) where
    abbrev one : Rows T
    one = insert rows p (leaf (Some q) x)

    abbrev two : Rows T
    two = insert one q (with_child p e)

    pub apart : q ≢ p
    apart same =
        let bad : Some e ≡ None = sym has ∙ ap (get rows) same ∙ free in
        cc

    pub appended_is : appended rows q p x ≡ two
    appended_is = changed_some (with_child p) q one e (get_other rows p (leaf (Some q) x) q apart ∙ has)

    pub new_row : get two p ≡ Some (leaf (Some q) x)
    new_row = get_other one q (with_child p e) p (λ same. apart (sym same)) ∙ get_same rows p (leaf (Some q) x) p refl

    pub upper : get two q ≡ Some (with_child p e)
    upper = get_same one q (with_child p e) q refl

    pub others : (r : ℕ) → r ≢ q → r ≢ p → get two r ≡ get rows r
    others r nq np = get_other one q (with_child p e) r nq ∙ get_other rows p (leaf (Some q) x) r np

    pub kept_parent : (r : ℕ) → r ≢ p → parent_of two r ≡ parent_of rows r
    kept_parent r np = elim (cases_eq r q) [
      | inl is ↦ ap (parent_of two) is ∙ parent_at two q (with_child p e) upper ∙ sym (parent_at rows q e has) ∙ ap (parent_of rows) (sym is)
      | inr nq ↦ ap (option_and_then (λ y. y.parent)) (others r nq np)
    ]

    -- a row in use isn't the new one
    old : (r : ℕ) → IsSome (get rows r) → r ≢ p
    old r some same = nowhere rows r (ap (get rows) same ∙ free) some

    -- no row had the new place as a child
    pub fresh : IsTree rows root → is_listed p e.children ≡ false
    fresh t = false_of _ (λ is. no_parent rows p q free (t.down p q (child_at rows q p e has ∙ is)))

    up_two : LinksUp rows → LinksUp two
    up_two up r a is = elim (cases_eq r p) [
      | inl rp ↦
          let aq : Some q ≡ Some a = sym (parent_at two p (leaf (Some q) x) new_row) ∙ ap (parent_of two) (sym rp) ∙ is in
          let qa : q ≡ a = search aq in
          subst (λ b. is_child two b r ≡ true) qa (child_at two q r (with_child p e) upper ∙ list_any-append (λ c. c == r) e.children (p ∷ []) ∙ last r rp)
      | inr np ↦
          let was = up r a (sym (kept_parent r np) ∙ is) in
          elim (cases_eq a q) [
            | inl aq ↦ subst (λ b. is_child two b r ≡ true) (sym aq)
                (child_at two q r (with_child p e) upper ∙ list_any-append (λ c. c == r) e.children (p ∷ [])
                ∙ ap (λ b. b || is_listed r (p ∷ [])) (sym (child_at rows q r e has) ∙ ap (λ b. is_child rows b r) (sym aq) ∙ was))
            | inr nq ↦ ap (λ o. is_listed r (children_in o)) (others a nq (λ same. no_row rows r a (ap (get rows) same ∙ free) was)) ∙ was
          ]
    ]
      where
        or_true : (b : Bool) → (b || true) ≡ true
        or_true true = refl
        or_true false = refl

        last : (r : ℕ) → r ≡ p → (is_listed r e.children || ((p == r) || false)) ≡ true
        last r rp = ap (λ b. is_listed r e.children || (b || false)) (eq-eqb p r (sym rp)) ∙ or_true (is_listed r e.children)

    down_two : LinksDown rows → LinksDown two
    down_two down r a is = elim (cases_eq a q) [
      | inl aq ↦
          let any : (is_listed r e.children || ((p == r) || false)) ≡ true =
          sym (list_any-append (λ c. c == r) e.children (p ∷ [])) ∙ sym (child_at two q r (with_child p e) upper) ∙ ap (λ b. is_child two b r) (sym aq) ∙ is in
          elim (or_cases (is_listed r e.children) ((p == r) || false) any) [
            | inl before ↦
                let was : parent_of rows r ≡ Some q = down r q (child_at rows q r e has ∙ before) in
                kept_parent r (λ rp. no_parent rows r q (ap (get rows) rp ∙ free) was) ∙ was ∙ ap (λ b. Some b) (sym aq)
            | inr new ↦
                let pr : p ≡ r = eqb-true p r (or_false (p == r) new) in
                ap (parent_of two) (sym pr) ∙ parent_at two p (leaf (Some q) x) new_row ∙ ap (λ b. Some b) (sym aq)
          ]
      | inr nq ↦ elim (cases_eq a p) [
        | inl same ↦
            let bad : false ≡ true = sym (child_at two p r (leaf (Some q) x) new_row) ∙ ap (λ b. is_child two b r) (sym same) ∙ is in
            absurd (cc)
        | inr np ↦
            let was : parent_of rows r ≡ Some a = down r a (ap (λ o. is_listed r (children_in o)) (sym (others a nq np)) ∙ is) in
            kept_parent r (λ rp. no_parent rows r a (ap (get rows) rp ∙ free) was) ∙ was
      ]
    ]

    once_two : IsTree rows root → (r : ℕ) (d : StoreRow T) → get two r ≡ Some d → Distinct d.children
    once_two t r d is = elim (cases_eq r q) [
      | inl rq ↦
          let some : Some (with_child p e) ≡ Some d = sym upper ∙ ap (get two) (sym rq) ∙ is in
          let same : with_child p e ≡ d = search some in
          subst (λ y. Distinct y.children) same (distinct_push e.children p (t.once q e has) (fresh t))
      | inr nq ↦ elim (cases_eq r p) [
        | inl rp ↦
            let some : Some (leaf (Some q) x) ≡ Some d = sym new_row ∙ ap (get two) (sym rp) ∙ is in
            let same : leaf (Some q) x ≡ d = search some in
            subst (λ y. Distinct y.children) same tt
        | inr np ↦ t.once r d (sym (others r nq np) ∙ is)
      ]
    ]

    rises_on : (n r : ℕ) → Rises rows root n r → Rises two root n r
    rises_on zero r is = is
    rises_on (suc n) r is = (is.0, kept_parent r (old r (used_child rows r is.0 is.1)) ∙ is.1, rises_on n is.0 is.2)

    rises_two : IsTree rows root → (r : ℕ) → IsSome (get two r) → (n : ℕ) × Rises two root n r
    rises_two t r some = elim (cases_eq r p) [
      | inl rp ↦
          let above = t.rises q (is_there rows q e has) in
          (suc above.0, (q, ap (parent_of two) rp ∙ parent_at two p (leaf (Some q) x) new_row, rises_on above.0 q above.1))
      | inr np ↦ elim (cases_eq r q) [
        | inl rq ↦ let was = t.rises q (is_there rows q e has) in (was.0, subst (Rises two root was.0) (sym rq) (rises_on was.0 q was.1))
        | inr nq ↦ let was = t.rises r (subst (λ o. IsSome o) (others r nq np) some) in (was.0, rises_on was.0 r was.1)
      ]
    ]

    top_two : IsTree rows root → (r : ℕ) → root ≡ Some r → (d : StoreRow T) × (get two r ≡ Some d) × (d.parent ≡ None)
    top_two t r is =
        let was = t.top r is in
        elim (cases_eq r q) [
          | inl rq ↦
              let some : Some was.0 ≡ Some e = sym was.1 ∙ ap (get rows) rq ∙ has in
              let same : was.0 ≡ e = search some in
              (with_child p e, ap (get two) rq ∙ upper, ap (λ y. y.parent) (sym same) ∙ was.2)
          | inr nq ↦ (was.0, others r nq (old r (is_there rows r was.0 was.1)) ∙ was.1, was.2)
        ]

    pub tree_two : IsTree rows root → IsTree two root
    tree_two t = record { top = top_two t; up = up_two t.up; down = down_two t.down; once = once_two t; rises = rises_two t }

    pub tree_appended : IsTree rows root → IsTree (appended rows q p x) root
    tree_appended t = subst (λ m. IsTree m root) (sym appended_is) (tree_two t)

    pub len_appended : len (appended rows q p x) ≡ len rows + 1
    len_appended =
        ap len appended_is
        ∙ len_old one q (with_child p e) e (get_other rows p (leaf (Some q) x) q apart ∙ has)
        ∙ len_new rows p (leaf (Some q) x) free

  -- ---- a leaf

  module _ (rows : Rows T) (root : Option ℕ) (p : ℕ) (e : StoreRow T) (has : get rows p ≡ Some e) (childless : e.children ≡ []) (t : IsTree rows root) where
    -- the leaf is nobody's parent
    pub no_child : (r : ℕ) → is_child rows p r ≡ true → {X : Type 0} → X
    no_child r is =
        let bad : false ≡ true = ap (is_listed r) (sym childless) ∙ sym (child_at rows p r e has) ∙ is in
        absurd (cc)

    no_row_below : (r : ℕ) → parent_of rows r ≡ Some p → {X : Type 0} → X
    no_row_below r is = no_child r (t.up r p is)

    -- ---- of the root
    module _ (top : parent_of rows p ≡ None) where
      is_root : (n : ℕ) → Rises rows root n p → root ≡ Some p
      is_root zero is = is
      is_root (suc n) is = let bad : None ≡ Some is.0 = sym top ∙ is.1 in absurd (cc)

      only : (n r : ℕ) → Rises rows root n r → r ≡ p
      only zero r is =
          let above = t.rises p (is_there rows p e has) in
          let same : Some r ≡ Some p = sym is ∙ is_root above.0 above.1 in
          search same
      only (suc n) r is = no_row_below r (is.1 ∙ ap Some (only n is.0 is.2))

      pub nothing_left : remove rows p ≡ empty
      nothing_left = same_rows _ _ (λ r. elim (cases_eq r p) [
        | inl rp ↦ gone_same rows p r rp ∙ sym (get-empty nat_cmp r)
        | inr np ↦ gone_other rows p r np ∙ none r (get rows r) refl np ∙ sym (get-empty nat_cmp r)
      ])
        where
          none : (r : ℕ) (o : Option (StoreRow T)) → get rows r ≡ o → r ≢ p → o ≡ None
          none r None is d = refl
          none r (Some y) is d = let up = t.rises r (is_there rows r y is) in absurd (d (only up.0 r up.1))

    -- ---- of a child
    module _ (q : ℕ) (under : parent_of rows p ≡ Some q) (d : StoreRow T) (above : get rows q ≡ Some d) where
      abbrev three : Rows T
      three = remove rows p

      abbrev four : Rows T
      four = insert three q (without_child p d)

      pub away : q ≢ p
      away same = no_child p (ap (λ b. is_child rows b p) (sym same) ∙ t.up p q under)

      pub four_is : changed_at (without_child p) q three ≡ four
      four_is = changed_some (without_child p) q three d (gone_other rows p q away ∙ above)

      pub four_gone : get four p ≡ None
      four_gone = get_other three q (without_child p d) p (λ same. away (sym same)) ∙ gone_same rows p p refl

      pub four_upper : get four q ≡ Some (without_child p d)
      four_upper = get_same three q (without_child p d) q refl

      pub four_others : (r : ℕ) → r ≢ q → r ≢ p → get four r ≡ get rows r
      four_others r nq np = get_other three q (without_child p d) r nq ∙ gone_other rows p r np

      pub four_parent : (r : ℕ) → r ≢ p → parent_of four r ≡ parent_of rows r
      four_parent r np = elim (cases_eq r q) [
        | inl is ↦ ap (parent_of four) is ∙ parent_at four q (without_child p d) four_upper ∙ sym (parent_at rows q d above) ∙ ap (parent_of rows) (sym is)
        | inr nq ↦ ap (option_and_then (λ y. y.parent)) (four_others r nq np)
      ]

      -- what is left of the list
      left : (r : ℕ) → is_child four q r ≡ (not (r == p) && is_child rows q r)
      left r = child_at four q r (without_child p d) four_upper
          ∙ listed_without r p d.children
          ∙ ap (λ b. not (r == p) && b) (sym (child_at rows q r d above))

      up_four : LinksUp four
      up_four r a is = elim (cases_eq r p) [
        | inl rp ↦ no_parent four r a (ap (get four) rp ∙ four_gone) is
        | inr np ↦
            let was = t.up r a (sym (four_parent r np) ∙ is) in
            elim (cases_eq a q) [
              | inl aq ↦ ap (λ b. is_child four b r) aq ∙ left r ∙ ap (λ b. not b && is_child rows q r) (ne_eqb r p np) ∙ ap (λ b. is_child rows b r) (sym aq) ∙ was
              | inr nq ↦ ap (λ o. is_listed r (children_in o)) (four_others a nq (λ same. no_child r (ap (λ b. is_child rows b r) (sym same) ∙ was))) ∙ was
            ]
      ]

      down_four : LinksDown four
      down_four r a is = elim (cases_eq a q) [
        | inl aq ↦
            let parts = both_true (not (r == p)) (is_child rows q r) (sym (left r) ∙ ap (λ b. is_child four b r) (sym aq) ∙ is) in
            let np : r ≢ p = λ rp.
            let bad : false ≡ true = ap not (sym (eq-eqb r p rp)) ∙ parts.0 in
            cc in
            four_parent r np ∙ t.down r q parts.1 ∙ ap (λ b. Some b) (sym aq)
        | inr nq ↦ elim (cases_eq a p) [
          | inl same ↦ no_row four r a (ap (get four) same ∙ four_gone) is
          | inr np ↦
              let was : parent_of rows r ≡ Some a = t.down r a (ap (λ o. is_listed r (children_in o)) (sym (four_others a nq np)) ∙ is) in
              four_parent r (λ rp.
              let same : Some q ≡ Some a = sym under ∙ ap (parent_of rows) (sym rp) ∙ was in
              let qa : q ≡ a = search same in
              nq (sym qa)) ∙ was
        ]
      ]

      once_four : (r : ℕ) (y : StoreRow T) → get four r ≡ Some y → Distinct y.children
      once_four r y is = elim (cases_eq r q) [
        | inl rq ↦
            let some : Some (without_child p d) ≡ Some y = sym four_upper ∙ ap (get four) (sym rq) ∙ is in
            let same : without_child p d ≡ y = search some in
            subst (λ z. Distinct z.children) same (distinct_without p d.children (t.once q d above))
        | inr nq ↦ elim (cases_eq r p) [
          | inl rp ↦ let bad : None ≡ Some y = sym four_gone ∙ ap (get four) (sym rp) ∙ is in absurd (cc)
          | inr np ↦ t.once r y (sym (four_others r nq np) ∙ is)
        ]
      ]

      rises_still : (n r : ℕ) → r ≢ p → Rises rows root n r → Rises four root n r
      rises_still zero r np is = is
      rises_still (suc n) r np is =
          (is.0, four_parent r np ∙ is.1, rises_still n is.0 (λ same. no_row_below r (is.1 ∙ ap Some same)) is.2)

      rises_four : (r : ℕ) → IsSome (get four r) → (n : ℕ) × Rises four root n r
      rises_four r some = elim (cases_eq r p) [
        | inl rp ↦ nowhere four r (ap (get four) rp ∙ four_gone) some
        | inr np ↦ elim (cases_eq r q) [
          | inl rq ↦ let was = t.rises r (is_there rows r d (ap (get rows) rq ∙ above)) in (was.0, rises_still was.0 r np was.1)
          | inr nq ↦ let was = t.rises r (subst (λ o. IsSome o) (four_others r nq np) some) in (was.0, rises_still was.0 r np was.1)
        ]
      ]

      top_four : (r : ℕ) → root ≡ Some r → (y : StoreRow T) × (get four r ≡ Some y) × (y.parent ≡ None)
      top_four r is =
          let was = t.top r is in
          elim (cases_eq r q) [
            | inl rq ↦
                let some : Some was.0 ≡ Some d = sym was.1 ∙ ap (get rows) rq ∙ above in
                let same : was.0 ≡ d = search some in
                (without_child p d, ap (get four) rq ∙ four_upper, ap (λ y. y.parent) (sym same) ∙ was.2)
            | inr nq ↦
                let np : r ≢ p = λ rp.
                let bad : None ≡ Some q = sym was.2 ∙ sym (parent_at rows r was.0 was.1) ∙ ap (parent_of rows) rp ∙ under in
                cc in
                (was.0, four_others r nq np ∙ was.1, was.2)
          ]

      pub tree_four : IsTree four root
      tree_four = record { top = top_four; up = up_four; down = down_four; once = once_four; rises = rises_four }

    pub tree_unlinked : IsTree (unlinked rows p) (cond (is_some (parent_of rows p)) root None)
    tree_unlinked = go (parent_of rows p) refl
      where
        at_row : (q : ℕ) → parent_of rows p ≡ Some q → (o : Option (StoreRow T)) → get rows q ≡ o → IsTree (changed_at (without_child p) q (remove rows p)) root
        at_row q under None none = no_row rows p q none (t.up p q under)
        at_row q under (Some d) above = subst (λ m. IsTree m root) (sym (four_is q under d above)) (tree_four q under d above)

        go : (o : Option ℕ) → parent_of rows p ≡ o → IsTree (left_by (remove rows p) p o) (cond (is_some o) root None)
        go None top = subst (λ m. IsTree m None) (sym (nothing_left top)) tree_empty
        go (Some q) under = at_row q under (get rows q) refl

    pub len_unlinked : len (unlinked rows p) + 1 ≡ len rows
    len_unlinked = ap (λ n. n + 1) (go (parent_of rows p) refl) ∙ fewer
      where
        some : len rows ≢ 0
        some zero_long =
            let bad : None ≡ Some e = sym (get-empty nat_cmp p) ∙ ap (λ m. get m p) (sym (empty_of_len rows zero_long)) ∙ has in
            cc

        fewer : len (remove rows p) + 1 ≡ len rows
        fewer =
            let less : len (remove rows p) ≡ len rows - 1 =
            len-remove nat_cmp_total rows p ∙ ap (λ o. cond (is_some o) (len rows - 1) (len rows)) has in
            let more = some in
            omega (arith, less)

        at_row : (q : ℕ) → parent_of rows p ≡ Some q → (o : Option (StoreRow T)) → get rows q ≡ o → len (changed_at (without_child p) q (remove rows p)) ≡ len (remove rows p)
        at_row q under None none = no_row rows p q none (t.up p q under)
        at_row q under (Some d) above = ap len (four_is q under d above) ∙ len_old (remove rows p) q (without_child p d) d (gone_other rows p q (away q under d above) ∙ above)

        go : (o : Option ℕ) → parent_of rows p ≡ o → len (left_by (remove rows p) p o) ≡ len (remove rows p)
        go None top = refl
        go (Some q) under = at_row q under (get rows q) refl

  -- ---- a written payload

  module _ (rows : Rows T) (root : Option ℕ) (p : ℕ) (e : StoreRow T) (has : get rows p ≡ Some e) (x : T) where
    abbrev paid : Rows T
    paid = insert rows p (with_payload x e)

    pub paid_is : changed_at (with_payload x) p rows ≡ paid
    paid_is = changed_some (with_payload x) p rows e has

    pub paid_others : (r : ℕ) → r ≢ p → get paid r ≡ get rows r
    paid_others r np = get_other rows p (with_payload x e) r np

    -- what the payload doesn't tell stays
    pub alike : {X : Type 0} (f : Option (StoreRow T) → X) → f (Some (with_payload x e)) ≡ f (Some e) → (r : ℕ) → f (get paid r) ≡ f (get rows r)
    alike f same r = elim (cases_eq r p) [
      | inl rp ↦ ap f (get_same rows p (with_payload x e) r rp) ∙ same ∙ ap f (sym has) ∙ ap (λ k. f (get rows k)) (sym rp)
      | inr np ↦ ap f (paid_others r np)
    ]

    paid_parent : (r : ℕ) → parent_of paid r ≡ parent_of rows r
    paid_parent = alike (option_and_then (λ y. y.parent)) refl

    paid_children : (r : ℕ) → children_in (get paid r) ≡ children_in (get rows r)
    paid_children = alike children_in refl

    paid_rises : (n r : ℕ) → Rises rows root n r → Rises paid root n r
    paid_rises zero r is = is
    paid_rises (suc n) r is = (is.0, paid_parent r ∙ is.1, paid_rises n is.0 is.2)

    tree_paid_at : IsTree rows root → IsTree paid root
    tree_paid_at t =
        record {
          top = λ r is. let was = t.top r is in elim (cases_eq r p) [
            | inl rp ↦
                let some : Some was.0 ≡ Some e = sym was.1 ∙ ap (get rows) rp ∙ has in
                let same : was.0 ≡ e = search some in
                (with_payload x e, get_same rows p (with_payload x e) r rp, ap (λ y. y.parent) (sym same) ∙ was.2)
            | inr np ↦ (was.0, paid_others r np ∙ was.1, was.2)
          ];
          up = λ r a is. ap (is_listed r) (paid_children a) ∙ t.up r a (sym (paid_parent r) ∙ is);
          down = λ r a is. paid_parent r ∙ t.down r a (ap (is_listed r) (sym (paid_children a)) ∙ is);
          once = λ r y is. elim (cases_eq r p) [
            | inl rp ↦
                let some : Some (with_payload x e) ≡ Some y = sym (get_same rows p (with_payload x e) r rp) ∙ is in
                let same : with_payload x e ≡ y = search some in
                subst (λ z. Distinct z.children) same (t.once p e has)
            | inr np ↦ t.once r y (sym (paid_others r np) ∙ is)
          ];
          rises = λ r some. let was = t.rises r (there r some) in (was.0, paid_rises was.0 r was.1);
        }
      where
        there : (r : ℕ) → IsSome (get paid r) → IsSome (get rows r)
        there r some = elim (cases_eq r p) [
          | inl rp ↦ is_there rows r e (ap (get rows) rp ∙ has)
          | inr np ↦ subst (λ o. IsSome o) (paid_others r np) some
        ]

    pub tree_paid : IsTree rows root → IsTree (changed_at (with_payload x) p rows) root
    tree_paid t = subst (λ m. IsTree m root) (sym paid_is) (tree_paid_at t)

    pub len_paid : len (changed_at (with_payload x) p rows) ≡ len rows
    len_paid = ap len paid_is ∙ len_old rows p (with_payload x e) e has

  -- ---- without a root there is no row

  rootless : (rows : Rows T) (n p : ℕ) → Rises rows None n p → {X : Type 0} → X
  rootless rows zero p is = absurd (cc)
  rootless rows (suc n) p is = rootless rows n is.0 is.2

  pub no_rows : (rows : Rows T) (root : Option ℕ) → IsTree rows root → root ≡ None → rows ≡ empty
  no_rows rows root t none = same_rows rows empty (λ p. go p (get rows p) refl ∙ sym (get-empty nat_cmp p))
    where
      go : (p : ℕ) (o : Option (StoreRow T)) → get rows p ≡ o → get rows p ≡ None
      go p None is = is
      go p (Some e) is =
          let up = t.rises p (is_there rows p e is) in
          rootless rows up.0 p (subst (λ r. Rises rows r up.0 p) none up.1)
