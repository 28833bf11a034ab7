-- Rows below a row, told by climbing up from them.
use Rattle.std.proofs.Common.{◌≡◌, ℕ, ◌<◌, ◌≤◌, Bool, true, false, List, refl, sym, ◌∙◌, ap, subst, inl, inr, arith, eqb, Some, None}
use Rattle.std.proofs.lemmas.Bool.{or_cases, true≢false, eqb-true, eq-eqb, cases_Bool}
use Rattle.gcx_model.specs.Tree.{Node, Root, Under, serial_of, above, within, Tree}
use Rattle.tree_laws.proofs.Lists.{In}
use Rattle.tree_laws.proofs.Matches.{Grown, Numbered-same}
use Rattle.tree_laws.proofs.Chains.{above_self, above_in, above_trans}
use Rattle.tree_laws.proofs.Freeze.{within_self, within_above}
use Rattle.node_store.specs.Rows.{parent_of}
use Rattle.buf_tree.specs.Shape.{Store, Cell, num, Shape}
use Rattle.buf_tree.proofs.Kin.{parent_row, no_parent}
use Rattle.cond_eval.specs.declared.sets.Member.{Member}
use Rattle.cond_eval.specs.Reads.{NodeAt, TellsInside}
use Rattle.cond_eval.proofs.Rows.{at_node, node_at, node_for, grown_tree, ordered_tree, child_of}

-- ---- above and below

module _ (P : Tree) (w : Grown P) where
  pub above_le : (l t : Node) → In l P.nodes → In t (above l) → serial_of t ≤ serial_of l
  above_le Root t i (inl e) = let f = ap serial_of e in omega arith
  above_le Root t i (inr h) = absurd h
  above_le (Under p s k) t i (inl e) = let f = ap serial_of e in omega arith
  above_le (Under p s k) t i (inr h) = let f = above_le p t (w.upward p s k i) h in let g = w.below p s k i in omega arith

  pub within_is : (n m : Node) → In m P.nodes → In n (above m) → within (serial_of n) m ≡ true
  within_is n m i h = within_above (serial_of n) n m h (within_self (serial_of n) n (eq-eqb _ _ refl))

  pub within_up : (n m : Node) → In n P.nodes → In m P.nodes → within (serial_of n) m ≡ true → In n (above m)
  within_up n Root i j h = inl (Numbered-same 0 P.nodes w.numbered Root n j i (eqb-true _ _ h))
  within_up n (Under p s k) i j h = elim (or_cases (eqb s (serial_of n)) (within (serial_of n) p) h) [
    | inl e ↦ inl (Numbered-same 0 P.nodes w.numbered (Under p s k) n j i (eqb-true _ _ e))
    | inr e ↦ inr (within_up n p i (w.upward p s k j) e)
  ]

-- ---- climbing

-- on the way up from the member's node to one up to `last`
abbrev pub Rising_to : List Cell → (m last top : Member) → ℕ → Type 0
Rising_to rows m last top q = (P : Tree) (keep : Node → Bool) (l n t : Node) → NodeAt rows P keep m.place n → In l P.nodes → In t (above l) → serial_of l ≡ last.serial → serial_of t ≡ top.serial → serial_of l < serial_of n
    → (h : Node) × NodeAt rows P keep q h × In h (above n) × (In t (above n) → In t (above h))

module _ (m : Store) (rows : List Cell) (s : Shape m rows) (x last top : Member) where
  -- one row up
  pub climb_on : (q r : ℕ) → Rising_to rows x last top q → ((c : Cell) → In c rows → c.place ≡ q → last.serial < num c) → parent_of m q ≡ Some r → Rising_to rows x last top r
  climb_on q r c high up P keep l n t a i j e f lt =
      let h = c P keep l n t a i j e f lt in
      let b = h.1 in
      let p = parent_row m rows s b.cell b.cell_among r (ap (parent_of m) b.at ∙ up) in
      let g = node_for rows P keep a.rows_of p.0 p.1 in
      let kin = child_of rows P keep a.rows_of p.0 b.cell g.0 h.0 g.1 (at_node rows P keep q h.0 b) p.2 in
      let high_here = high b.cell b.cell_among b.at in
      let told = b.number in
      let low = above_le P (grown_tree rows P keep a.rows_of) l t i j in
      let up_in : In g.0 (above h.0) = subst (λ (z : Node). In g.0 (above z)) {x = Under g.0 kin.0 kin.1} (sym kin.2) (inr (above_self g.0)) in (
        g.0,
        subst (λ k. NodeAt rows P keep k g.0) p.3 (node_at rows P keep a.rows_of p.0 g.0 p.1 g.1),
        above_trans g.0 h.0 n up_in h.2,
        λ k. elim (subst (λ (z : Node). In t (above z)) kin.2 (h.3 k)) [
          | inl z ↦ (let y = ap serial_of (kin.2 ∙ z) in absurd (omega arith))
          | inr z ↦ z
        ],
      )

  -- the document node's row has no higher one, and no serial above another
  pub climb_out : (q : ℕ) → ((c : Cell) → In c rows → c.place ≡ q → last.serial < num c) → parent_of m q ≡ None → (b : Bool) → Rising_to rows x last top q → TellsInside rows x last top b
  climb_out q high up b c P keep l n t a i j e f lt =
      let h = (c P keep l n t a i j e f lt).1 in
      let z = no_parent m rows s h.cell h.cell_among (ap (parent_of m) h.at ∙ up) in
      let y = high h.cell h.cell_among h.at in
      absurd (omega arith)

  -- at a row up to `last` its serial tells
  pub climb_end : (q k : ℕ) → Rising_to rows x last top q → ((c : Cell) → In c rows → c.place ≡ q → num c ≡ k) → k ≤ last.serial → (b : Bool) → (b ≡ true → top.serial ≤ k) → (b ≡ false → k < top.serial) → TellsInside rows x last top b
  climb_end q k c here low b at_true at_false P keep l n t a i j e f lt =
      let h = c P keep l n t a i j e f lt in
      let of = a.rows_of in
      let w = grown_tree rows P keep of in
      let o = ordered_tree rows P keep of in
      let is : num h.1.cell ≡ k = here h.1.cell h.1.cell_among h.1.at in
      let told : num h.1.cell ≡ serial_of h.0 = h.1.number in
      let t_in : In t P.nodes = above_in P w l t i j in
      elim (cases_Bool b) [
        | inl y ↦ y ∙ sym (elim (cases_Bool (within (serial_of t) h.0)) [
          | inl v ↦ within_above (serial_of t) h.0 n h.2 v
          | inr v ↦ (
              let z = at_true y in
              let other : serial_of t ≡ serial_of h.0 → ⊥ = λ g. true≢false (sym (within_self (serial_of t) h.0 (eq-eqb _ _ (sym g))) ∙ v) in
              let bad = o.split t h.0 l t_in h.1.among i (omega arith) (λ u. true≢false (sym (within_is P w t h.0 h.1.among u) ∙ v)) j in
              absurd (omega arith))
        ])
        | inr y ↦ y ∙ sym (elim (cases_Bool (within (serial_of t) n)) [
          | inl v ↦ (
              let z = at_false y in
              let u = above_le P w h.0 t h.1.among (h.3 (within_up P w t n t_in a.among v)) in
              absurd (omega arith))
          | inr v ↦ v
        ])
      ]
