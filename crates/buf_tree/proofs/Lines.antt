-- Document order among the rows: what stands below a row, and what stands next to it.
use Rattle.std.proofs.Common.{◌≡◌, ℕ, zero, suc, ◌<◌, ◌≤◌, refl, sym, ap, subst, inl, inr, ◌⊎◌, arith, List}
use Rattle.std.proofs.lemmas.Bool.{cases_eq, cases_lt}
use Rattle.tree_laws.proofs.Lists.{In}
use Rattle.buf_tree.specs.Shape.{Cell, num, CellsRise, Above}
use Rattle.buf_tree.specs.Walk.{Nested, Inside, Within, Deeper, IsLast, JustBefore, JustBehind, Climbs}
use Rattle.buf_tree.specs.Match.{IsChild, DescendsFrom}
use Rattle.buf_tree.proofs.Shaping.{rising_same}

module _ (xs : List Cell) (rise : CellsRise xs) (nest : Nested xs) (up : (c : Cell) → In c xs → (num c ≡ 0) ⊎ Above xs c) where
  -- the parent's row
  above : (d : Cell) → In d xs → (k : ℕ) → k < num d → Above xs d
  above d i k l = elim (up d i) [ inl z ↦ absurd (omega arith) | inr u ↦ u ]

  lower_or : (a b : ℕ) → a ≤ b → (a ≡ b) ⊎ (a < b)
  lower_or a b l = elim (cases_eq a b) [ inl e ↦ inl e | inr n ↦ inr (elim (total a b) [ inl x ↦ x | inr x ↦ absurd (n (omega arith)) ]) ]
    where
      total : (a b : ℕ) → (a < b) ⊎ (b ≤ a)
      total zero zero = inr (omega arith)
      total zero (suc b) = inl (omega arith)
      total (suc a) zero = inr (omega arith)
      total (suc a) (suc b) = elim (total a b) [ inl x ↦ inl (omega arith) | inr x ↦ inr (omega arith) ]

  pub child_inside : (c d : Cell) → In c xs → In d xs → IsChild c d → Inside xs c d
  child_inside c d i j k = record {
    behind = k.1;
    block = λ x t l n. elim (lower_or (num x) (num d) n) [
      | inl e ↦ (let f : x ≡ d = rising_same xs rise x d t j e in let g = ap (λ (y : Cell). y.row.parent) f in let h = k.0 in omega arith)
      | inr m ↦ (let h = k.0 in let g = nest x d t j (omega arith) m in omega arith)
    ];
  }

  pub inside_trans : (c e d : Cell) → Inside xs c e → Inside xs e d → Inside xs c d
  inside_trans c e d a b = record {
    behind = let x = a.behind in let y = b.behind in omega arith;
    block = λ x t l n. elim (cases_lt (num e) (num x)) [
      | inl m ↦ (let g = b.block x t m n in let h = a.behind in omega arith)
      | inr m ↦ a.block x t l m
    ];
  }

  pub within_trans : (c e d : Cell) → Within xs c e → Inside xs e d → Inside xs c d
  within_trans c e d (inl f) b = subst (λ (x : Cell). Inside xs x d) (sym f) b
  within_trans c e d (inr a) b = inside_trans c e d a b

  pub rises_inside : (n : ℕ) (c d : Cell) → In c xs → In d xs → DescendsFrom xs n c d → Inside xs c d
  rises_inside zero c d i j r = child_inside c d i j r
  rises_inside (suc n) c d i j r = inside_trans c r.0 d (rises_inside n c r.0 i r.1 r.3) (child_inside r.0 d r.1 j r.2)

  pub inside_rises : (most : ℕ) (c d : Cell) → In c xs → In d xs → num d ≤ most → Inside xs c d → (n : ℕ) × DescendsFrom xs n c d
  inside_rises zero c d i j l k = let b = k.behind in absurd (omega arith)
  inside_rises (suc most) c d i j l k =
      let u = above d j (num c) k.behind in
      let p = k.block d j k.behind (omega arith) in
      let q = u.2 in
      let w = u.3 in
      elim (lower_or (num c) (num u.0) (omega arith)) [
        | inl e ↦ (zero, (let x = e in omega arith, k.behind))
        | inr e ↦ (
            let inner : Inside xs c u.0 = record { behind = e; block = λ x t a b. k.block x t a (omega arith) } in
            let r = inside_rises most c u.0 i u.1 (omega arith) inner in
            (suc r.0, (u.0, u.1, (sym q, w), r.1)))
      ]

  -- below a row there is a child of it, at most as far
  pub some_child : (n : ℕ) (c d : Cell) → In d xs → DescendsFrom xs n c d → (e : Cell) × In e xs × IsChild c e × (num e ≤ num d)
  some_child zero c d j r = (d, j, r, omega arith)
  some_child (suc n) c d j r = let e = some_child n c r.0 r.1 r.3 in let l = r.2.1 in let m = e.3 in (e.0, e.1, e.2, omega arith)

  pub inside_child : (c d : Cell) → In c xs → In d xs → Inside xs c d → (e : Cell) × In e xs × IsChild c e × (num e ≤ num d)
  inside_child c d i j k = let r = inside_rises (num d) c d i j (omega arith) k in some_child r.0 c d j r.1

  -- the parent of a row below c is c or lies below it
  pub parent_within : (c p d : Cell) → In c xs → In p xs → In d xs → Inside xs c d → IsChild p d → Within xs c p
  parent_within c p d i j t k h =
      let l = k.block d t k.behind (omega arith) in
      let e = h.0 in
      elim (lower_or (num c) (num p) (omega arith)) [
        | inl f ↦ inl (rising_same xs rise c p i j f)
        | inr f ↦ inr (record { behind = f; block = λ x y a b. let z = h.1 in k.block x y a (omega arith) })
      ]

  -- ---- the last row of a subtree

  pub deeper_start : (c : Cell) → Deeper xs c c
  deeper_start c = record { here = inl refl; rest = λ x i k l. k }

  pub deeper_on : (c t l : Cell) → In t xs → In l xs → Deeper xs c t → IsChild t l → ((d : Cell) → In d xs → IsChild t d → num d ≤ num l) → Deeper xs c l
  deeper_on c t l i j d k last = record {
    here = inr (within_trans c t l d.here (child_inside t l i j k));
    rest = λ x y z w.
        let inner = d.rest x y z (let q = k.1 in omega arith) in
        record { behind = w; block = λ u v a b. high u v a (inner.block u v (let q = k.1 in omega arith) b) };
  }
    where
      high : (u : Cell) → In u xs → num l < num u → num t ≤ u.row.parent → num l ≤ u.row.parent
      high u v a b = elim (cases_lt u.row.parent (num l)) [
        | inl lo ↦ elim (lower_or (num t) u.row.parent b) [
          | inl e ↦ (let q = k.1 in let z = last u v (sym e, omega arith) in absurd (omega arith))
          | inr e ↦ (let g = nest l u j v lo a in let q = k.0 in absurd (omega arith))
        ]
        | inr hi ↦ hi
      ]

  pub last_end : (c t : Cell) → In t xs → Deeper xs c t → ((d : Cell) → In d xs → IsChild t d → ⊥) → IsLast xs c t
  last_end c t i d none = record {
    here = d.here;
    rest = λ x j k. elim (cases_lt (num t) (num x)) [
      | inl l ↦ (let e = inside_child t x i j (d.rest x j k l) in absurd (none e.0 e.1 e.2))
      | inr l ↦ l
    ];
  }

  -- ---- the row before one

  pub before_sibling : (p h b t : Cell) → In p xs → In h xs → In b xs → In t xs → IsChild p h → IsChild p b → num b < num h → ((d : Cell) → In d xs → IsChild p d → num d < num h → num d ≤ num b) → IsLast xs b t → JustBefore xs t h
  before_sibling p h b t ip ih ib it kh kb low last l = record { low = under l.here; none = λ x i y. none x i y }
    where
      under : Within xs b t → num t < num h
      under (inl e) = let f = ap num e in omega arith
      under (inr k) = elim (cases_lt (num t) (num h)) [
        | inl y ↦ y
        | inr y ↦ (let g = k.block h ih low y in let q = kh.0 in let w = kb.1 in absurd (omega arith))
      ]

      high : (y : Cell) → In y xs → num b < num y → num y < num h → num b ≤ y.row.parent
      high y j a z =
          let q = kh.0 in
          let w = kb.1 in
          let g = nest y h j ih (omega arith) z in
          elim (cases_lt y.row.parent (num b)) [
            | inl lo ↦ elim (lower_or (num p) y.row.parent (omega arith)) [
              | inl e ↦ (let v = last y j (sym e, omega arith) z in absurd (omega arith))
              | inr e ↦ (let v = nest b y ib j lo a in let r = kb.0 in absurd (omega arith))
            ]
            | inr hi ↦ hi
          ]

      none : (x : Cell) → In x xs → num x < num h → num x ≤ num t
      none x i y = elim (cases_lt (num b) (num x)) [
        | inl z ↦ l.rest x i (record { behind = z; block = λ u v a c. high u v a (omega arith) })
        | inr z ↦ (let w = least l.here in omega arith)
      ]
        where
          least : Within xs b t → num b ≤ num t
          least (inl e) = let f = ap num e in omega arith
          least (inr k) = let f = k.behind in omega arith

  pub before_first : (p h : Cell) → In p xs → In h xs → IsChild p h → ((d : Cell) → In d xs → IsChild p d → num d < num h → ⊥) → JustBefore xs p h
  before_first p h ip ih k none = record {
    low = k.1;
    none = λ x i l. elim (cases_lt (num p) (num x)) [
      | inl m ↦ (
          let inner : Inside xs p x = record { behind = m; block = λ y j a b. (let q = k.0 in let g = nest y h j ih (omega arith) (omega arith) in omega arith) } in
          let e = inside_child p x ip i inner in
          let z = e.3 in
          absurd (none e.0 e.1 e.2 (omega arith)))
      | inr m ↦ m
    ];
  }

  -- ---- the row behind one

  pub behind_first : (h g : Cell) → In h xs → In g xs → IsChild h g → ((d : Cell) → In d xs → IsChild h d → num g ≤ num d) → JustBehind xs h g
  behind_first h g ih ig k least = record {
    high = k.1;
    none = λ x i l. elim (cases_lt (num x) (num g)) [
      | inl m ↦ (
          let inner : Inside xs h x = record { behind = l; block = λ y j a b. (let q = k.0 in let z = nest y g j ig (omega arith) (omega arith) in omega arith) } in
          let e = inside_child h x ih i inner in
          let z = e.3 in
          let w = least e.0 e.1 e.2 in
          absurd (omega arith))
      | inr m ↦ m
    ];
  }

  pub climbs_start : (c h : Cell) → In h xs → Within xs c h → ((d : Cell) → In d xs → IsChild h d → ⊥) → Climbs xs c h h
  climbs_start c h i w none = record { low = w; here = inl refl; none = λ x j l k. let e = inside_child h x i j k in none e.0 e.1 e.2 }

  within_le : (t h : Cell) → Within xs t h → num t ≤ num h
  within_le t h (inl e) = let f = ap num e in omega arith
  within_le t h (inr k) = let f = k.behind in omega arith

  -- a row from which p's child t stays the last before x
  between : (p t : Cell) → In t xs → IsChild p t → (y : Cell) → In y xs → num t < num y → num p ≤ y.row.parent → (IsChild p y → ⊥) → num t ≤ y.row.parent
  between p t it k y j a g other = elim (cases_lt y.row.parent (num t)) [
    | inl lo ↦ elim (lower_or (num p) y.row.parent g) [
      | inl e ↦ (let w = k.1 in absurd (other (sym e, omega arith)))
      | inr e ↦ (let v = nest t y it j lo a in let r = k.0 in absurd (omega arith))
    ]
    | inr hi ↦ hi
  ]

  pub behind_sibling : (c h t p g : Cell) → In c xs → In h xs → In t xs → In p xs → In g xs → Climbs xs c h t → Inside xs c t → IsChild p t → IsChild p g → num t < num g → ((d : Cell) → In d xs → IsChild p d → num t < num d → num g ≤ num d)
      → JustBehind xs h g × Inside xs c g
  behind_sibling c h t p g ic ih it ip ig r inner kt kg l least = (
    record { high = high r.here; none = none },
    within_trans c p g (parent_within c p t ic ip it inner kt) (child_inside p g ip ig kg),
  )
    where
      high : Within xs t h → num h < num g
      high (inl e) = let f = ap num e in omega arith
      high (inr k) = elim (cases_lt (num h) (num g)) [
        | inl y ↦ y
        | inr y ↦ (let z = k.block g ig l y in let q = kg.0 in let w = kt.1 in absurd (omega arith))
      ]

      none : (x : Cell) → In x xs → num h < num x → num g ≤ num x
      none x i a = elim (cases_lt (num x) (num g)) [
        | inl m ↦ (
            let b = within_le t h r.here in
            let k : Inside xs t x = record {
              behind = omega arith;
              block = λ y j u v.
                  between p t it kt y j u (let q = kg.0 in let w = kt.1 in let z = nest y g j ig (omega arith) (omega arith) in omega arith) (λ e. let z = least y j e u in absurd (omega arith));
            } in
            absurd (r.none x i a k))
        | inr m ↦ m
      ]

  pub climbs_on : (c h t p : Cell) → In c xs → In h xs → In t xs → In p xs → Climbs xs c h t → Inside xs c t → IsChild p t → ((d : Cell) → In d xs → IsChild p d → num t < num d → ⊥) → Climbs xs c h p
  climbs_on c h t p ic ih it ip r inner kt none = record {
    low = parent_within c p t ic ip it inner kt;
    here = inr (below r.here);
    none = λ x i a k.
        let b = within_le t h r.here in
        r.none x i a (record { behind = omega arith; block = λ y j u v. let w = kt.1 in between p t it kt y j u (k.block y j (omega arith) v) (λ e. none y j e u) });
  }
    where
      below : Within xs t h → Inside xs p h
      below (inl e) = subst (λ (x : Cell). Inside xs p x) e (child_inside p t ip it kt)
      below (inr k) = inside_trans p t h (child_inside p t ip it kt) k
