-- Walks up from the parent of a new node, which tell whether a statement's steps lead to the node from a base.
use Rattle.std.proofs.Common.{◌≡◌, ◌==◌, ℕ, zero, suc, ◌+◌, ◌<◌, ◌≤◌, Bool, true, false, ◌&&◌, ◌||◌, List, [], ◌∷◌, length, drop, take, refl, sym, ◌∙◌, ap, subst, inl, inr, arith, get_or, Some, None, Option, add-one}
use Rattle.std.specs.Prelude.{option_map, ◌↔◌}
use Rattle.std.specs.FinMap.{get}
use Rattle.std.specs.FinSet as set
use Rattle.std.specs.Ordering.{nat_cmp}
use Rattle.std.proofs.Math.Seq.{drop-length}
use Rattle.std.proofs.lemmas.Bool.{and_from, or_parts, or_from, false≢true, eqb-true, eq-eqb, ne_eqb, cases_eq}
use Rattle.gcx_base.specs.declared.kind.Kind.{Kind}
use Rattle.gcx_base.specs.declared.steps.Step.{Step}
use Rattle.gcx_base.specs.Tests.{passes}
use Rattle.gcx_model.specs.declared.item.Off.{Off}
use Rattle.gcx_model.specs.Tree.{Node, Root, Under, serial_of, above}
use Rattle.gcx_model.specs.Paths.{any, hits}
use Rattle.tree_laws.proofs.Lists.{In}
use Rattle.tree_laws.proofs.Chains.{above_self, above_trans}
use Rattle.node_store.specs.Rows.{StoreRow, parent_of}
use Rattle.buf_tree.specs.Row.{Row}
use Rattle.buf_tree.specs.Shape.{Store, Cell, cells, Shaped}
use Rattle.buf_tree.specs.Tops.{HitFromAbove, IsNewTop}
use Rattle.buf_tree.specs.Ways.{Tells, NodeOf, Descends, Flags, GoesUp, is_same, is_waiting, leads, goes_on}
use Rattle.buf_tree.proofs.Ways.{above_low, descends_above, leads_none, leads_up, some_step}
use Rattle.buf_tree.proofs.Climbing.{one_row, parent_node, no_parent_node, leads_same}
use Rattle.buf_tree.proofs.Seeking.{cell_row}

-- ---- whether some flag is left

pub flag_at : (fs : List Bool) (i : ℕ) → i < length fs → get_or fs i false ≡ true → any (λ flag. flag) fs ≡ true
flag_at [] i l e = absurd (omega arith)
flag_at (f ∷ fs) zero l e = ap (λ b. b || any (λ flag. flag) fs) e
flag_at (f ∷ fs) (suc i) l e = ap (λ b. f || b) (flag_at fs i (omega arith) e) ∙ either f
  where
    either : (b : Bool) → (b || true) ≡ true
    either true = refl
    either false = refl

flags_next : (fs : List Bool) (i : ℕ) → i < length fs → any (λ flag. flag) (take i fs) ≡ false → get_or fs i false ≡ false → any (λ flag. flag) (take (suc i) fs) ≡ false
flags_next [] i l h e = absurd (omega arith)
flags_next (f ∷ fs) zero l h e = or_from f false e refl
flags_next (f ∷ fs) (suc i) l h e = let q = or_parts f (any (λ flag. flag) (take i fs)) h in or_from f _ q.0 (flags_next fs i (omega arith) q.1 e)

pub flag_next : (fs : List Bool) (i : ℕ) → i < length fs → any (λ flag. flag) (take i fs) ≡ false → get_or fs i false ≡ false → any (λ flag. flag) (take (i + 1) fs) ≡ false
flag_next fs i l h e = ap (λ n. any (λ flag. flag) (take n fs)) (add-one i) ∙ flags_next fs i l h e

pub flag_end : (fs : List Bool) (i : ℕ) → length fs ≤ i → any (λ flag. flag) (take i fs) ≡ false → any (λ flag. flag) fs ≡ false
flag_end [] i l h = refl
flag_end (f ∷ fs) zero l h = absurd (omega arith)
flag_end (f ∷ fs) (suc i) l h = let q = or_parts f (any (λ flag. flag) (take i fs)) h in or_from f _ q.0 (flag_end fs i (omega arith) q.1)

no_flag : (fs : List Bool) (i : ℕ) → any (λ flag. flag) fs ≡ false → get_or fs i false ≡ false
no_flag [] i h = refl
no_flag (f ∷ fs) zero h = (or_parts f (any (λ flag. flag) fs) h).0
no_flag (f ∷ fs) (suc i) h = no_flag fs i (or_parts f (any (λ flag. flag) fs) h).1

-- ---- where none is left

-- no number of the steps leads from the node with serial a to n
abbrev NoneLead : List Step → Node → ℕ → Type 0
NoneLead steps n a = (i : ℕ) → i ≤ length steps → leads (is_same n) a (drop i steps) n ≡ false

module _ (steps : List Step) (n : Node) (d : Descends n) where
  -- so none leads from the parent
  none_up : (g : Node) (v : ℕ) (w : Kind) → In (Under g v w) (above n) → NoneLead steps n v → NoneLead steps n (serial_of g)
  none_up g v w i none k m = elim (cases_eq k (length steps)) [
    | inl e ↦ ap (λ (z : List Step). leads (is_same n) (serial_of g) z n) (ap (λ z. drop z steps) e ∙ drop-length steps)
        ∙ leads_none (is_same n) n d g (above_trans g (Under g v w) n (inr (above_self g)) i)
        ∙ ne_eqb (serial_of g) (serial_of n) (λ z. let b = above_low n (Under g v w) d i in let c = (descends_above n (Under g v w) d i).0 in omega arith)
    | inr f ↦ (
        let x = some_step steps k (omega arith) in
        let rest = drop (k + 1) steps in
        let one : leads (is_same n) v rest n ≡ false = none (k + 1) (omega arith) in
        let two : leads (is_same n) v (x.0 ∷ rest) n ≡ false = ap (λ (z : List Step). leads (is_same n) v z n) (sym x.1) ∙ none k m in
        ap (λ (z : List Step). leads (is_same n) (serial_of g) z n) x.1
        ∙ leads_up (is_same n) n d g v w x.0 rest i
        ∙ (λ t. (one t && passes x.0.test w) || (two t && goes_on x.0.axis)))
  ]

  none_here : (h : Node) → NoneLead steps n (serial_of h) → hits (serial_of h) steps n ≡ false
  none_here h none = sym (leads_same (serial_of h) steps n d) ∙ none 0 (omega arith)

  -- nor from any node above
  none_hit : (h : Node) → In h (above n) → NoneLead steps n (serial_of h) → (b : Node) → In b (above h) → hits (serial_of b) steps n ≡ false
  none_hit Root i none b (inl e) = subst (λ (x : Node). hits (serial_of x) steps n ≡ false) e (none_here Root none)
  none_hit Root i none b (inr z) = absurd z
  none_hit (Under g v w) i none b (inl e) = subst (λ (x : Node). hits (serial_of x) steps n ≡ false) e (none_here (Under g v w) none)
  none_hit (Under g v w) i none b (inr j) = none_hit g (above_trans g (Under g v w) n (inr (above_self g)) i) (none_up g v w i none) b j

-- ---- on the way up from the parent p of the new node n

-- no base that was passed is one from which the steps lead to n
abbrev pub Hitting : List Cell → Off → (p n : Node) → Option ℕ → List Bool → Type 0
Hitting xs top p n None flags = HitFromAbove xs top p n → ⊥
Hitting xs top p n (Some q) flags = (h : Node) × NodeOf xs q h × In h (above p) × ((u : HitFromAbove xs top p n) → In u.base (above h)) × Flags (is_same n) (serial_of h) top.rel n flags

module _ (m : Store) (s : Shaped m) (top : Off) (p : Node) (k : ℕ) (kind : Kind) (d : Descends (Under p k kind)) where
  abbrev new : Node
  new = Under p k kind

  pub hitting_start : (q : ℕ) (flags : List Bool) → NodeOf (cells m) q p → Flags (is_same new) (serial_of p) top.rel new flags → Hitting (cells m) top p new (Some q) flags
  hitting_start q flags u f = (p, u, above_self p, (λ w. w.up), f)

  pub hitting_lost : (q : ℕ) (flags : List Bool) → any (λ flag. flag) flags ≡ false → Hitting (cells m) top p new (Some q) flags → HitFromAbove (cells m) top p new → ⊥
  hitting_lost q flags none l u =
      let silent : NoneLead top.rel new (serial_of l.0) = λ i b. sym (l.4.each i b) ∙ no_flag flags i none in
      false≢true (sym (none_hit top.rel new d l.0 (inr l.2) silent u.base (l.3 u)) ∙ u.hit)

  -- the flag of all steps tells whether they lead from the node of the row
  here : (q : ℕ) (flags : List Bool) (l : Hitting (cells m) top p new (Some q) flags) → get_or flags 0 false ≡ hits (serial_of l.0) top.rel new
  here q flags l = l.4.each 0 (omega arith) ∙ leads_same (serial_of l.0) top.rel new d

  pub hitting_found : (q : ℕ) (flags : List Bool) → Hitting (cells m) top p new (Some q) flags → (r : Row) → option_map (λ (e : StoreRow Row). e.payload) (get m q) ≡ Some r → get_or flags 0 false ≡ true → is_waiting r top ≡ true → HitFromAbove (cells m) top p new
  hitting_found q flags l r h f waits = record {
    place = q;
    base = l.0;
    at = l.1;
    up = l.2;
    waits = ap (λ (x : Row). is_waiting x top) (cell_row m s l.1.cell l.1.among q l.1.place r h) ∙ waits;
    hit = sym (here q flags l) ∙ f;
  }

  -- where the row's node is no such base
  apart : (q : ℕ) (flags : List Bool) (l : Hitting (cells m) top p new (Some q) flags) (r : Row) → option_map (λ (e : StoreRow Row). e.payload) (get m q) ≡ Some r → (get_or flags 0 false && is_waiting r top) ≡ false → (u : HitFromAbove (cells m) top p new) → l.0 ≡ u.base → ⊥
  apart q flags l r h off_ u e =
      let same : u.at.cell ≡ l.1.cell = one_row (cells m) s.rising u.at.cell l.1.cell l.0 u.at.among l.1.among (subst (λ (x : Node). Tells (cells m) u.at.cell x) (sym e) u.at.tells) l.1.tells in
      let row : u.at.cell.row ≡ r = ap (λ (c : Cell). c.row) same ∙ cell_row m s l.1.cell l.1.among q l.1.place r h in
      let flag : get_or flags 0 false ≡ true = here q flags l ∙ ap (λ (x : Node). hits (serial_of x) top.rel new) e ∙ u.hit in
      false≢true (sym off_ ∙ and_from _ _ flag (ap (λ (x : Row). is_waiting x top) (sym row) ∙ u.waits))

  pub hitting_on : (q : ℕ) (flags more : List Bool) → Hitting (cells m) top p new (Some q) flags → (r : Row) → option_map (λ (e : StoreRow Row). e.payload) (get m q) ≡ Some r → (get_or flags 0 false && is_waiting r top) ≡ false
      → (o : Option ℕ) → o ≡ parent_of m q → GoesUp top.rel r.kind false flags more → Hitting (cells m) top p new o more
  hitting_on q flags more l r h off_ None e raise =
      let root : l.0 ≡ Root = no_parent_node m s q l.0 l.1 (sym e) in
      λ u. elim (subst (λ (x : Node). In u.base (above x)) root (l.3 u)) [ inl z ↦ apart q flags l r h off_ u (root ∙ z) | inr z ↦ absurd z ]
  hitting_on q flags more l r h off_ (Some t) e raise =
      let g = parent_node m s q t l.0 l.1 (sym e) r h in
      let up : In (Under g.0 (serial_of l.0) r.kind) (above p) = subst (λ (x : Node). In x (above p)) g.1 l.2 in
      let high : In g.0 (above p) = above_trans g.0 (Under g.0 (serial_of l.0) r.kind) p (inr (above_self g.0)) up in (
        g.0,
        g.2,
        high,
        (λ u. elim (subst (λ (x : Node). In u.base (above x)) g.1 (l.3 u)) [ inl z ↦ absurd (apart q flags l r h off_ u (g.1 ∙ z)) | inr z ↦ z ]),
        raise (is_same new) new g.0 (serial_of l.0) d (inr up) (sym (other g.0 high)) l.4,
      )
    where
      other : (j : Node) → In j (above p) → is_same new j ≡ false
      other j i = ne_eqb (serial_of j) k (λ z. let b = above_low p j d.1 i in let c = d.0 in omega arith)

-- ---- whether the new node is a top

pub no_steps : (steps : List Step) → (length steps == 0) ≡ true → steps ≡ []
no_steps [] e = refl
no_steps (x ∷ steps) e = let z = eqb-true (length (x ∷ steps)) 0 e in absurd (omega arith)

some_steps : (steps : List Step) → (length steps == 0) ≡ false → steps ≡ [] → ⊥
some_steps steps e z = false≢true (sym e ∙ eq-eqb (length steps) 0 (ap length z))

-- no steps lead from a row that is there
unhit : (xs : List Cell) (top : Off) (p : Node) (k : ℕ) (kind : Kind) → Descends (Under p k kind) → top.rel ≡ [] → HitFromAbove xs top p (Under p k kind) → ⊥
unhit xs top p k kind d e u =
    let same = eqb-true k (serial_of u.base) (ap (λ (z : List Step). hits (serial_of u.base) z (Under p k kind)) (sym e) ∙ u.hit) in
    let b = above_low p u.base d.1 u.up in
    let c = d.0 in
    omega arith

pub top_without_steps : (xs : List Cell) (top : Off) (roles : set.FinSet nat_cmp) (p : Node) (k : ℕ) (kind : Kind) → Descends (Under p k kind) → top.rel ≡ [] → (b : Bool) → b ≡ set.contains roles top.own.0 → (b ≡ true) ↔ IsNewTop xs top roles p (Under p k kind)
top_without_steps xs top roles p k kind d e b h = (
  (λ z. inl (e, sym h ∙ z)),
  (λ t. elim t [ inl a ↦ h ∙ a.1 | inr u ↦ absurd (unhit xs top p k kind d e u) ]),
)

pub top_by_steps : (xs : List Cell) (top : Off) (roles : set.FinSet nat_cmp) (p n : Node) → (length top.rel == 0) ≡ false → (b : Bool) → (b ≡ true) ↔ HitFromAbove xs top p n → (b ≡ true) ↔ IsNewTop xs top roles p n
top_by_steps xs top roles p n e b h = (
  (λ z. inr (h.0 z)),
  (λ t. elim t [ inl a ↦ absurd (some_steps top.rel e a.0) | inr u ↦ h.1 u ]),
)
