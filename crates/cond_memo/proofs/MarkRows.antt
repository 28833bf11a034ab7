-- The way up from a row, and the searches of a mark over the rows.
use Rattle.std.proofs.Common.{◌≡◌, ◌<◌, ℕ, suc, Bool, true, false, not, List, [], ◌∷◌, Option, Some, None, refl, sym, ◌∙◌, ap, subst, inl, inr, arith}
use Rattle.std.specs.Prelude.{MatchOption, IfSome, Result, IfOk}
use Rattle.std.specs.declared.result.Result.TheVariants.{Ok, Err}
use Rattle.std.proofs.lemmas.Bool.{false≢true, not-true}
use Rattle.gcx_base.specs.declared.kind.Kind.{Kind}
use Rattle.gcx_base.specs.declared.ids.Serial.{Serial}
use Rattle.gcx_base.specs.declared.steps.Step.{Step}
use Rattle.gcx_model.specs.Tree.{Node, Root, Under, serial_of, above, Tree}
use Rattle.gcx_model.specs.Paths.{reach, hits}
use Rattle.gcx_model.specs.Members.{In}
use Rattle.tree_laws.proofs.Matches.{Grown}
use Rattle.tree_laws.proofs.Chains.{above_self, above_in, above_trans}
use Rattle.node_store.specs.Rows.{parent_of}
use Rattle.node_store.specs.declared.store.Place.{Place}
use Rattle.buf_tree.specs.Shape.{Store, Cell, num, cells, at_place, Shape}
use Rattle.buf_tree.specs.Match.{IsChild}
use Rattle.buf_tree.specs.View.{InUse, serial_at, num_in}
use Rattle.buf_tree.specs.Ways.{Tells, NodeOf}
use Rattle.buf_tree.specs.Spread.{SameButRoles}
use Rattle.buf_tree.proofs.KeptReading.{seen_of, seen_stand_apart, parent_told_by, no_parent_told}
use Rattle.buf_tree.proofs.Shaping.{cells_is, at_place_is}
use Rattle.cond_eval.specs.Asking.{RowsOf}
use Rattle.cond_eval.specs.Reads.{NodeAt}
use Rattle.cond_memo.specs.Reaching.{NotBelow, HasSerial}
use Rattle.cond_memo.specs.Marks.{NextAbove, HasNoParent, IsParentAt, AreApart, IsShut, StillOpen}
use Rattle.cond_eval.proofs.Rows.{OfNode, grown_tree, node_for, same_row, same_node, of_serial, closed_told, serial_told, kind_told, parent_for, child_of, node_at, at_node}
use Rattle.cond_eval.proofs.Stored.{node_stored}
use Rattle.cond_memo.proofs.MarkTrees.{above_low, hit_high}

-- ---- rows as buf_tree tells them

module _ (rows : List Cell) (P : Tree) (keep : Node → Bool) (of : RowsOf rows P keep) where
  tells_node : (n : Node) (c : Cell) → In c rows → OfNode P keep c n → Tells rows c n
  tells_node Root c i o = (serial_told rows P keep of c Root o, kind_told rows P keep of c Root o)
  tells_node (Under p s k) c i o =
      let e = parent_for rows P keep of c p s k i o in
      (serial_told rows P keep of c (Under p s k) o, kind_told rows P keep of c (Under p s k) o, (e.0, e.1, e.3, tells_node p e.0 e.1 e.2))

pub node_of : (rows : List Cell) (P : Tree) (keep : Node → Bool) (p : ℕ) (n : Node) → NodeAt rows P keep p n → NodeOf rows p n
node_of rows P keep p n a = record { cell = a.cell; among = a.cell_among; place = a.at; tells = tells_node rows P keep a.rows_of n a.cell a.cell_among (at_node rows P keep p n a) }

pub serial_is : (rows : List Cell) → AreApart rows → (c : Cell) (p : ℕ) → In c rows → c.place ≡ p → serial_at p rows ≡ num c
serial_is rows apart c p i e = ap num_in (ap (λ (q : ℕ). at_place q rows) (sym e) ∙ at_place_is rows apart c i)

-- ---- the parent's row

module _ (m : Store) (ks rows : List Cell) (s : Shape m ks) (same : SameButRoles ks rows) where
  pub no_parent_row : (p : ℕ) → parent_of m p ≡ None → HasNoParent rows p
  no_parent_row p h c i e = no_parent_told m ks rows s same c i (ap (parent_of m) e ∙ h)

  pub parent_row_at : (p q : ℕ) → InUse rows p → parent_of m p ≡ Some q → IsParentAt rows p q
  parent_row_at p q u h = record {
    used = record { cell = up.0; among = up.1; place = up.3 };
    lower =
        let a = serial_is rows apart up.0 q up.1 up.3 in
        let b = serial_is rows apart u.cell p u.among u.place in
        let l = up.2.1 in
        omega arith;
    parent = λ c i e. parent_told_by m ks rows s same c i q (ap (parent_of m) e ∙ h);
  }
    where
      apart : AreApart rows
      apart = seen_stand_apart m ks rows s same

      up : (d : Cell) × In d rows × IsChild d u.cell × (d.place ≡ q)
      up = parent_told_by m ks rows s same u.cell u.among q (ap (parent_of m) u.place ∙ h)

-- ---- the way up to the nearest match

-- so far up there is no match
abbrev pub Upward : List Cell → Tree → (keep : Node → Bool) → List Step → (n o : Node) → Option Place → Type 0
Upward rows P keep steps n o None = ⊥
Upward rows P keep steps n o (Some p) = (h : Node) × NodeAt rows P keep p.0 h × In h (above o) × In n (above h) × ((j : Node) → In j (above o) → (serial_of j ≡ serial_of o → ⊥) → hits (serial_of n) steps j ≡ true → In j (above h))

module _ (rows : List Cell) (P : Tree) (keep : Node → Bool) (steps : List Step) (n o : Node) where
  -- one row up, from a node that isn't a match, or is the one from which the way begins
  step_up : (p : ℕ) (h : Node) → NodeAt rows P keep p h → In h (above o) → In n (above h) → (serial_of n ≡ serial_of h → ⊥)
      → ((j : Node) → In j (above o) → (serial_of j ≡ serial_of o → ⊥) → hits (serial_of n) steps j ≡ true → (serial_of j ≡ serial_of h → ⊥) × In j (above h))
      → (next : Option Place) → MatchOption next (HasNoParent rows p) (λ q. IsParentAt rows p q.0) → Upward rows P keep steps n o next
  step_up p Root a io i other below None m = absurd (other (go i))
    where
      go : In n (above Root) → serial_of n ≡ 0
      go (inl e) = sym (ap serial_of e)
      go (inr e) = absurd e
  step_up p (Under u s k) a io i other below None m =
      let z = m a.cell a.cell_among a.at in
      let e = a.number in
      let b = (grown_tree rows P keep a.rows_of).below u s k a.among in
      absurd (omega arith)
  step_up p h a io i other below (Some q) m =
      let d = m.parent a.cell a.cell_among a.at in
      let g = node_for rows P keep a.rows_of d.0 d.1 in
      let kin = child_of rows P keep a.rows_of d.0 a.cell g.0 h g.1 (at_node rows P keep p h a) d.2 in
      let up : (j : Node) → In j (above h) → (serial_of j ≡ serial_of h → ⊥) → In j (above g.0) = (λ j k ne. go g.0 kin.0 kin.1 j (subst (λ (z : Node). In j (above z)) kin.2 k) (λ (e : serial_of j ≡ kin.0). ne (e ∙ sym (ap serial_of kin.2)))) in
      let here : In g.0 (above h) = subst (λ (z : Node). In g.0 (above z)) {x = Under g.0 kin.0 kin.1} (sym kin.2) (inr (above_self g.0)) in (
        g.0,
        subst (λ r. NodeAt rows P keep r g.0) d.3 (node_at rows P keep a.rows_of d.0 g.0 d.1 g.1),
        above_trans g.0 h o here io,
        up n i (λ e. other e),
        λ j k ne t. let b = below j k ne t in up j b.1 b.0,
      )
    where
      go : (g : Node) (s : ℕ) (k : Kind) (j : Node) → In j (above (Under g s k)) → (serial_of j ≡ s → ⊥) → In j (above g)
      go g s k j (inl e) ne = absurd (ne (sym (ap serial_of e)))
      go g s k j (inr i) ne = i

  -- it begins at the parent
  pub climb_begins : (p : ℕ) → NodeAt rows P keep p o → In n (above o) → serial_of n < serial_of o → (next : Option Place) → MatchOption next (HasNoParent rows p) (λ q. IsParentAt rows p q.0) → Upward rows P keep steps n o next
  climb_begins p a i l next m = step_up p o a (above_self o) i (λ e. absurd (omega arith)) (λ j k ne t. (ne, k)) next m

  pub climb_on : (p : Place) → Upward rows P keep steps n o (Some p) → ((h : Node) → NodeAt rows P keep p.0 h → (serial_of n ≡ serial_of h → ⊥) × (hits (serial_of n) steps h ≡ false))
      → (next : Option Place) → MatchOption next (HasNoParent rows p.0) (λ q. IsParentAt rows p.0 q.0) → Upward rows P keep steps n o next
  climb_on p u none next m = step_up p.0 u.0 u.1 u.2 u.3 (none u.0 u.1).0 (λ j k ne t. (other j (u.4 j k ne t) t, u.4 j k ne t)) next m
    where
      other : (j : Node) → In j (above u.0) → hits (serial_of n) steps j ≡ true → serial_of j ≡ serial_of u.0 → ⊥
      other j i t e =
          let g = grown_tree rows P keep u.1.rows_of in
          let same : j ≡ u.0 = same_node rows P keep u.1.rows_of j u.0 (above_in P g u.0 j u.1.among i) u.1.among e in
          false≢true (sym (none u.0 u.1).1 ∙ subst (λ (z : Node). hits (serial_of n) steps z ≡ true) same t)

  -- at the node itself there is none
  pub climb_over : (p : Place) → Upward rows P keep steps n o (Some p) → (steps ≡ [] → ⊥) → ((h : Node) → NodeAt rows P keep p.0 h → serial_of n ≡ serial_of h) → NextAbove steps n o None
  climb_over p u some is j k ne t = go steps some (u.4 j k ne t) t
    where
      g : Grown P
      g = grown_tree rows P keep u.1.rows_of

      go : (path : List Step) → (path ≡ [] → ⊥) → In j (above u.0) → hits (serial_of n) path j ≡ true → ⊥
      go [] none i h = none refl
      go (s ∷ rest) none i h =
          let low = above_low P g u.0 j u.1.among i in
          let high = hit_high P g (serial_of n) s rest j (above_in P g u.0 j u.1.among i) h in
          let e = is u.0 u.1 in
          absurd (omega arith)

  pub climb_found : (p : Place) (s : Serial) → Upward rows P keep steps n o (Some p) → ((h : Node) → NodeAt rows P keep p.0 h → (serial_of h ≡ s.0) × (hits (serial_of n) steps h ≡ true)) → NextAbove steps n o (Some s)
  climb_found p s u is = let h = is u.0 u.1 in (u.0, u.2, h.0, h.1, u.4)

-- how many serials are left below that of the row at the place
abbrev pub places_left : List Cell → Option Place → ℕ
places_left rows None = 0
places_left rows (Some p) = suc (serial_at p.0 rows)

-- ---- what reading tells

pub leads_told : {E : Type 0} (rows : List Cell) (p q : ℕ) (path steps : List Step) (last : Step) (r : Result Bool E) → path ≡ steps
    → IfOk r (λ b. (a n : Node) → NodeOf rows p a → NodeOf rows q n → b ≡ hits (serial_of a) path n)
    → IfOk r (λ b. (P : Tree) (keep : Node → Bool) (n m : Node) → NodeAt rows P keep p n → NodeAt rows P keep q m → reach (serial_of n) last m ≡ true → b ≡ hits (serial_of n) steps m)
leads_told rows p q path steps last (Ok b) e h = λ P keep n m a o l. subst (λ (s : List Step). b ≡ hits (serial_of n) s m) e (h n m (node_of rows P keep p n a) (node_of rows P keep q m o))
leads_told rows p q path steps last (Err x) e h = tt

pub has_serial : (m : Store) (ks rows : List Cell) → Shape m ks → SameButRoles ks rows → (s q : ℕ) → HasSerial (cells m) s q → HasSerial rows s q
has_serial m ks rows sh same s q h =
    let k = subst (λ (xs : List Cell). HasSerial xs s q) (cells_is m ks sh) h in
    let c = seen_of ks rows same k.cell k.among in
    record { cell = c.0; among = c.1; place = sym (ap (λ (z : Cell). z.place) c.2) ∙ k.place; number = sym (ap num c.2) ∙ k.number }

pub has_used : (rows : List Cell) (s q : ℕ) → HasSerial rows s q → InUse rows q
has_used rows s q h = record { cell = h.cell; among = h.among; place = h.place }

same_waiting : (waiting : Option Serial) (s t : Serial) → waiting ≡ Some s → waiting ≡ Some t → s ≡ t
same_waiting waiting s t e f = let g : Some s ≡ Some t = sym e ∙ f in cc

-- the row isn't there
pub still_out : (m : Store) (ks rows : List Cell) → Shape m ks → SameButRoles ks rows → (q p : Place) → q ≡ p → (waiting : Option Serial) (s : Serial) → waiting ≡ Some s → NotBelow (cells m) q.0 s.0 → StillOpen rows p.0 waiting
still_out m ks rows sh same q p e waiting s w none t f P keep n o a i k g up =
    let below = subst (λ (x : Place). NotBelow ks x.0 s.0) e (subst (λ (xs : List Cell). NotBelow xs q.0 s.0) (cells_is m ks sh) none) in
    absurd (below P keep n o (node_stored ks rows same P keep p.0 n a) i k (g ∙ ap (λ (x : Serial). x.0) (same_waiting waiting t s f w)) up)

-- or it is open
pub still_open : (rows : List Cell) (waiting : Option Serial) (s : Serial) (q : ℕ) → waiting ≡ Some s → (h : HasSerial rows s.0 q) → (b : Bool) → b ≡ not h.cell.row.is_open → b ≡ false → (p : ℕ) → StillOpen rows p waiting
still_open rows waiting s q w h b e f p t u P keep n o a i k g up =
    let number = h.number in
    let same = ap (λ (x : Serial). x.0) (same_waiting waiting t s u w) in
    let of = of_serial rows P keep a.rows_of h.cell o h.among i (number ∙ sym (g ∙ same)) in
    sym (closed_told rows P keep a.rows_of h.cell o of) ∙ sym e ∙ f

pub is_shut : (rows : List Cell) → AreApart rows → (waiting : Option Serial) (s : Serial) (q : ℕ) → waiting ≡ Some s → (h : HasSerial rows s.0 q) → (b : Bool) → b ≡ not h.cell.row.is_open → b ≡ true → IsShut rows waiting q
is_shut rows apart waiting s q w h b e f = record {
  serial = s;
  is = w;
  at_serial = serial_is rows apart h.cell q h.among h.place ∙ h.number;
  cell = h.cell;
  among = h.among;
  place = h.place;
  number = h.number;
  closed = not-true h.cell.row.is_open (sym e ∙ f);
}

-- ---- one row up, as a loop knows it

pub climbs_used : (rows : List Cell) (p : ℕ) (next : Option Place) → MatchOption next (HasNoParent rows p) (λ q. IsParentAt rows p q.0) → IfSome next (λ q. InUse rows q.0)
climbs_used rows p None m = tt
climbs_used rows p (Some q) m = m.used

pub climbs_lower : (rows : List Cell) (p : ℕ) (next : Option Place) → MatchOption next (HasNoParent rows p) (λ q. IsParentAt rows p q.0) → IfSome next (λ q. serial_at q.0 rows < serial_at p rows)
climbs_lower rows p None m = tt
climbs_lower rows p (Some q) m = m.lower

pub lower_on : (rows : List Cell) (top p : ℕ) → serial_at p rows < serial_at top rows → (next : Option Place) → IfSome next (λ q. serial_at q.0 rows < serial_at p rows) → IfSome next (λ q. serial_at q.0 rows < serial_at top rows)
lower_on rows top p l None m = tt
lower_on rows top p l (Some q) m = omega arith

module _ (rows : List Cell) (P : Tree) (keep : Node → Bool) where
  -- one place is that of one node
  pub same_place : AreApart rows → (p q : ℕ) (n h : Node) → NodeAt rows P keep p n → NodeAt rows P keep q h → p ≡ q → serial_of n ≡ serial_of h
  same_place apart p q n h a u e = sym a.number ∙ (ap num (apart a.cell u.cell a.cell_among u.cell_among (a.at ∙ (e ∙ sym u.at))) ∙ u.number)

  pub other_place : (p q : ℕ) (n h : Node) → NodeAt rows P keep p n → NodeAt rows P keep q h → (p ≡ q → ⊥) → serial_of n ≡ serial_of h → ⊥
  other_place p q n h a u ne e =
      let same = same_row rows P keep a.rows_of a.cell u.cell a.cell_among u.cell_among (a.number ∙ (e ∙ sym u.number)) in
      ne (sym a.at ∙ (ap (λ (c : Cell). c.place) same ∙ u.at))

  pub leads_hit : (p q : ℕ) (n h : Node) → NodeAt rows P keep p n → NodeAt rows P keep q h → (path steps : List Step) → path ≡ steps → (b : Bool) → ((x y : Node) → NodeOf rows p x → NodeOf rows q y → b ≡ hits (serial_of x) path y)
      → hits (serial_of n) steps h ≡ b
  leads_hit p q n h a u path steps e b l = sym (subst (λ (s : List Step). b ≡ hits (serial_of n) s h) e (l n h (node_of rows P keep p n a) (node_of rows P keep q h u)))
