-- The rows from one on, with their nodes.
use Rattle.std.proofs.Common.{◌≡◌, ◌==◌, ℕ, zero, suc, ◌<◌, ◌≤◌, true, false, List, refl, sym, ◌∙◌, ap, subst, inl, inr, arith, Some, None, Option}
use Rattle.std.specs.Prelude.{IsSome}
use Rattle.std.specs.FinMap.{get}
use Rattle.std.proofs.lemmas.Bool.{false≢true, eqb-true, eq-eqb, cases_eq, cases_lt}
use Rattle.gcx_base.specs.declared.steps.Step.{Step}
use Rattle.gcx_model.specs.Tree.{Node, Root, Under, serial_of, above}
use Rattle.gcx_model.specs.Paths.{hits}
use Rattle.tree_laws.proofs.Lists.{In}
use Rattle.tree_laws.proofs.Chains.{above_self}
use Rattle.buf_tree.specs.Shape.{Store, Cell, num, cells, Shaped}
use Rattle.buf_tree.specs.Walk.{Nested, Inside, Within, BehindIn}
use Rattle.buf_tree.specs.Match.{DescendsFrom}
use Rattle.buf_tree.specs.Ways.{Tells, NodeOf, NoneBefore}
use Rattle.buf_tree.proofs.Shaping.{rising_same}
use Rattle.buf_tree.proofs.Lines.{child_inside, within_trans, inside_rises}
use Rattle.buf_tree.proofs.Seeking.{used_there}
use Rattle.buf_tree.proofs.Ways.{above_low}
use Rattle.buf_tree.proofs.Climbing.{tells_serial, tells_descends, one_row}

-- a row below one that has a node has one too, below that
rises_node : (xs : List Cell) (n : ℕ) (c d : Cell) (a : Node) → In c xs → Tells xs c a → DescendsFrom xs n c d → (j : Node) × Tells xs d j × In a (above j)
rises_node xs zero c d a i t r = (Under a (num d) d.row.kind, (refl, refl, (c, i, r, t)), inr (above_self a))
rises_node xs (suc n) c d a i t r =
    let e = rises_node xs n c r.0 a i t r.3 in
    (Under e.0 (num d) d.row.kind, (refl, refl, (r.0, r.1, r.2, e.1)), inr e.2)

module _ (m : Store) (s : Shaped m) (nest : Nested (cells m)) where
  pub node_within : (c d : Cell) (a : Node) → In c (cells m) → In d (cells m) → Tells (cells m) c a → Within (cells m) c d → (j : Node) × Tells (cells m) d j × In a (above j)
  node_within c d a i j t (inl e) = (a, subst (λ (x : Cell). Tells (cells m) x a) e t, above_self a)
  node_within c d a i j t (inr k) =
      let r = inside_rises (cells m) s.rising nest s.up (num d) c d i j (omega arith) k in
      rises_node (cells m) r.0 c d a i t r.1

  -- and what is below in the tree is so among the rows
  pub within_node : (c d : Cell) (a j : Node) → In c (cells m) → In d (cells m) → Tells (cells m) c a → Tells (cells m) d j → In a (above j) → Within (cells m) c d
  within_node c d a Root i k t u (inl e) = inl (one_row (cells m) s.rising c d a i k t (subst (λ (x : Node). Tells (cells m) d x) e u))
  within_node c d a Root i k t u (inr h) = absurd h
  within_node c d a (Under p v w) i k t u (inl e) = inl (one_row (cells m) s.rising c d a i k t (subst (λ (x : Node). Tells (cells m) d x) e u))
  within_node c d a (Under p v w) i k t u (inr h) =
      let e = u.2 in
      let up = within_node c e.0 a p i e.1 t e.3 h in
      inr (within_trans (cells m) s.rising nest s.up c e.0 d up (child_inside (cells m) s.rising nest s.up e.0 d e.1 k e.2))

-- the row that is looked at next: none before it is reached
abbrev pub Passing : List Cell → (a n : Node) → List Step → Option ℕ → Type 0
Passing rows a n steps None = ⊥
Passing rows a n steps (Some p) = (h : Cell) × In h rows × (h.place ≡ p) × (num h ≤ serial_of n) × ((q : ℕ) (j : Node) → NodeOf rows q j → In a (above j) → serial_of j < num h → hits (serial_of a) steps j ≡ false)

abbrev pub AllWithin : List Cell → (from : ℕ) → Option ℕ → Type 0
AllWithin rows from o = (c h : Cell) → In c rows → In h rows → c.place ≡ from → o ≡ Some h.place → Within rows c h

module _ (m : Store) (s : Shaped m) (nest : Nested (cells m)) where
  pub all_start : (from : ℕ) → AllWithin (cells m) from (Some from)
  all_start from c h i j e f = let g : from ≡ h.place = cc in inl (s.apart c h i j (e ∙ g))

  pub all_on : (c h : Cell) (from : ℕ) (o : Option ℕ) → In c (cells m) → c.place ≡ from → BehindIn (cells m) (Inside (cells m) c) (num h) o → AllWithin (cells m) from o
  all_on c h from None i e b x y j k f g = absurd (cc)
  all_on c h from (Some p) i e b x y j k f g =
      let z : p ≡ y.place = cc in
      let one : b.0 ≡ y = s.apart b.0 y b.1 k (b.2 ∙ z) in
      let two : c ≡ x = s.apart c x i j (e ∙ sym f) in
      inr (subst (λ (w : Cell). Inside (cells m) w y) two (subst (λ (w : Cell). Inside (cells m) c w) one b.3))

  module _ (a n : Node) (steps : List Step) (from place : ℕ) (u : NodeOf (cells m) from a) (v : NodeOf (cells m) place n) (i : In a (above n)) where
    pub passing_start : Passing (cells m) a n steps (Some from)
    passing_start =
        let f = tells_serial (cells m) u.cell a u.tells in
        let g = above_low n a (tells_descends (cells m) v.cell n v.tells) i in
        (u.cell, u.among, u.place, omega arith, λ q j w k l. let z = above_low j a (tells_descends (cells m) w.cell j w.tells) k in absurd (omega arith))

    pub passing_found : (p : ℕ) → (p == place) ≡ true → Passing (cells m) a n steps (Some p) → NoneBefore (cells m) a n steps
    passing_found p e l q j w k h =
        let same : l.0 ≡ v.cell = s.apart l.0 v.cell l.1 v.among (l.2 ∙ eqb-true p place e ∙ sym v.place) in
        let f = ap num same in
        let g = tells_serial (cells m) v.cell n v.tells in
        l.4 q j w k (omega arith)

    lower : (p : ℕ) → (p == place) ≡ false → (l : Passing (cells m) a n steps (Some p)) → num l.0 < serial_of n
    lower p e l = elim (cases_eq (num l.0) (serial_of n)) [
      | inl f ↦ (
          let same : l.0 ≡ v.cell = rising_same (cells m) s.rising l.0 v.cell l.1 v.among (f ∙ sym (tells_serial (cells m) v.cell n v.tells)) in
          absurd (false≢true (sym e ∙ eq-eqb p place (sym l.2 ∙ ap (λ (x : Cell). x.place) same ∙ v.place))))
      | inr f ↦ (let h = l.3 in omega arith)
    ]

    -- the node of the row at hand
    pub passing_node : (p : ℕ) → AllWithin (cells m) from (Some p) → Passing (cells m) a n steps (Some p) → (j : Node) × NodeOf (cells m) p j × In a (above j)
    passing_node p all l =
        let r = node_within m s nest u.cell l.0 a u.among l.1 u.tells (all u.cell l.0 u.among l.1 u.place (ap Some (sym l.2))) in
        (r.0, record { cell = l.0; among = l.1; place = l.2; tells = r.1 }, r.2)

    pub passing_lost : (p : ℕ) → (p == place) ≡ false → AllWithin (cells m) from (Some p) → (l : Passing (cells m) a n steps (Some p)) → ((j : Node) → NodeOf (cells m) p j → In a (above j) → true ≡ hits (serial_of a) steps j) → NoneBefore (cells m) a n steps → false ≡ true
    passing_lost p e all l hit none =
        let r = passing_node p all l in
        let f = tells_serial (cells m) r.1.cell r.0 r.1.tells in
        let same : r.1.cell ≡ l.0 = s.apart r.1.cell l.0 r.1.among l.1 (r.1.place ∙ sym l.2) in
        let g = ap num same in
        let h = lower p e l in
        sym (none p r.0 r.1 r.2 (omega arith)) ∙ sym (hit r.0 r.1 r.2)

    pub passing_on : (p : ℕ) → (p == place) ≡ false → AllWithin (cells m) from (Some p) → (l : Passing (cells m) a n steps (Some p)) → ((j : Node) → NodeOf (cells m) p j → In a (above j) → false ≡ hits (serial_of a) steps j)
        → (o : Option ℕ) → ((c h : Cell) → In c (cells m) → In h (cells m) → c.place ≡ from → h.place ≡ p → BehindIn (cells m) (Inside (cells m) c) (num h) o) → Passing (cells m) a n steps o
    passing_on p e all l miss o next = go o (next u.cell l.0 u.among l.1 u.place l.2)
      where
        low : num l.0 < serial_of n
        low = lower p e l

        inside_of : (c : Cell) (j : Node) → In c (cells m) → Tells (cells m) c j → In a (above j) → num l.0 < num c → Inside (cells m) u.cell c
        inside_of c j k t w h = elim (within_node m s nest u.cell c a j u.among k u.tells t w) [
          | inl z ↦ (
              let f = ap num z in
              let g = first_low in
              absurd (omega arith))
          | inr z ↦ z
        ]
          where
            first_low : num u.cell ≤ num l.0
            first_low = elim (all u.cell l.0 u.among l.1 u.place (ap Some (sym l.2))) [
              | inl x ↦ (let y = ap num x in omega arith)
              | inr x ↦ (let y = x.behind in omega arith)
            ]

        go : (o : Option ℕ) → BehindIn (cells m) (Inside (cells m) u.cell) (num l.0) o → Passing (cells m) a n steps o
        go None b =
            let f = tells_serial (cells m) v.cell n v.tells in
            let k = low in
            b v.cell v.among (inside_of v.cell n v.among v.tells i (omega arith)) (omega arith)
        go (Some q) b =
            let f = tells_serial (cells m) v.cell n v.tells in
            let k = low in
            let top = b.5 v.cell v.among (inside_of v.cell n v.among v.tells i (omega arith)) (omega arith) in (
              b.0,
              b.1,
              b.2,
              omega arith,
              λ x j w under h.
                  let g = tells_serial (cells m) w.cell j w.tells in
                  elim (cases_lt (serial_of j) (num l.0)) [
                    | inl y ↦ l.4 x j w under y
                    | inr y ↦ elim (cases_eq (num w.cell) (num l.0)) [
                      | inl z ↦ (
                          let same : w.cell ≡ l.0 = rising_same (cells m) s.rising w.cell l.0 w.among l.1 z in
                          sym (miss j (record { cell = l.0; among = l.1; place = l.2; tells = subst (λ (c : Cell). Tells (cells m) c j) same w.tells }) under))
                      | inr z ↦ (let t = b.5 w.cell w.among (inside_of w.cell j w.among w.tells under (omega arith)) (omega arith) in absurd (omega arith))
                    ]
                  ],
            )

pub used_behind : (m : Store) → Shaped m → (R : Cell → Type 0) (k : ℕ) (o : Option ℕ) → BehindIn (cells m) R k o → (q : ℕ) → o ≡ Some q → IsSome (get m q)
used_behind m s R k None b q e = absurd (cc)
used_behind m s R k (Some p) b q e = let f : p ≡ q = cc in used_there m s b.0 b.1 q (b.2 ∙ f)
