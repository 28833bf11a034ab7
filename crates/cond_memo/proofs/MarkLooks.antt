-- A mark's search over the rows that are new, row by row.
use Rattle.std.proofs.Common.{◌≡◌, ◌<◌, ℕ, suc, Bool, true, false, List, [], Option, Some, None, refl, sym, ◌∙◌, subst, inl, inr, arith}
use Rattle.std.specs.Prelude.{MatchOption, IfSome, Result, IfOk}
use Rattle.std.specs.declared.result.Result.TheVariants.{Ok, Err}
use Rattle.gcx_base.specs.declared.ids.Serial.{Serial}
use Rattle.gcx_base.specs.declared.steps.Step.{Step}
use Rattle.gcx_model.specs.Tree.{Node, serial_of, Tree}
use Rattle.gcx_model.specs.Paths.{reach, hits, matches}
use Rattle.gcx_model.specs.Members.{In}
use Rattle.tree_laws.proofs.Matches.{Matches-from}
use Rattle.node_store.specs.declared.store.Place.{Place}
use Rattle.buf_tree.specs.Shape.{Cell, num}
use Rattle.buf_tree.specs.Match.{Unreached, FirstReached, GoesFrom}
use Rattle.buf_tree.specs.View.{InUse, serial_at}
use Rattle.buf_tree.specs.Walk.{rows_behind}
use Rattle.buf_tree.proofs.Seeking.{rows_fewer}
use Rattle.cond_eval.specs.Reads.{NodeAt}
use Rattle.cond_eval.specs.Searches.{IsFirst, Finds}
use Rattle.cond_memo.specs.Marks.{is_settled, does, IsFound, Tried, IsOpenNow, Fits, KeepsAll, Asks, KeepsValue, Looked, Searched}
use Rattle.cond_memo.specs.declared.mark.Ask.{Ask}
use Rattle.cond_memo.specs.declared.mark.Mark.{Mark}
use Rattle.cond_eval.proofs.Finding.{finds}
use Rattle.cond_eval.proofs.Rows.{OfNode, node_at, at_node, serial_told}
use Rattle.cond_eval.proofs.RowSteps.{reached_to}
use Rattle.cond_memo.proofs.MarkSearch.{Seeking, seek_on, tried_all}

-- the rows up to the serial `done` were looked at, and the place is that of the next one
pub record Looking (rows : List Cell) (nodes : ℕ) (m : Mark) (waiting : Option Serial) (p : ℕ) (at : Option Place) : Type 0 where
  pub done : ℕ
  pub finds : (c : Cell) → In c rows → c.place ≡ p → Finds rows c m.last done at
  pub seen : (P : Tree) (keep : Node → Bool) (n : Node) → Asks rows nodes m.steps m.ask p P keep n → Tried P m.ask (matches P (serial_of n) m.steps) m.waiting m.upto.0 → IsOpenNow P m.waiting
      → Seeking P keep m.ask (matches P (serial_of n) m.steps) waiting done

-- the value of a match is kept
pub keeps_value : (P : Tree) (keep : Node → Bool) (ask : Option Ask) (ms : List Node) (m : Node) → KeepsAll P keep ask ms → In m ms → KeepsValue P keep ask m
keeps_value P keep None ms m k i = tt
keeps_value P keep (Some a) ms m k i = k m i

-- how many rows are left to look at
abbrev pub look_left : List Cell → Option Place → ℕ
look_left rows None = 0
look_left rows (Some p) = suc (rows_behind rows (serial_at p.0 rows))

module _ (rows : List Cell) (nodes : ℕ) (m : Mark) (p : ℕ) (u : InUse rows p) where
  pub looking_starts : (at : Option Place) → ((c : Cell) → In c rows → c.place ≡ p → Finds rows c m.last m.upto.0 at) → Looking rows nodes m m.waiting p at
  looking_starts at f = record {
    done = m.upto.0;
    finds = f;
    seen = λ P keep n a t now. record { each = λ j i k low. t.each j i low; open_in = t.open_in; no_ask = t.no_ask; now = now };
  }

  module _ (waiting : Option Serial) (here : Place) (l : Looking rows nodes m waiting p (Some here)) where
    abbrev pub here_used : InUse rows here.0
    here_used = let f = l.finds u.cell u.among u.place in record { cell = f.first.cell; among = f.first.reached.among; place = f.first.place }

    pub goes_from : GoesFrom rows p m.last.axis here.0
    goes_from = let f = l.finds u.cell u.among u.place in record { top = u; from = here_used; way = inr f.first.reached.axis }

    abbrev IsNext : Option Place → Type 0
    IsNext next = (c d : Cell) → In c rows → In d rows → c.place ≡ p → d.place ≡ here.0 → MatchOption next (Unreached rows c m.last (num d)) (λ q. FirstReached rows c m.last (num d) q.0)

    abbrev IsPlaced : Option Place → Type 0
    IsPlaced next = IfSome next (λ q. (c : Cell) → In c rows → c.place ≡ q.0 → serial_at q.0 rows ≡ num c)

    found_next : (next : Option Place) → IsNext next → IsPlaced next → (c : Cell) → In c rows → c.place ≡ p → Finds rows c m.last (serial_at here.0 rows) next
    found_next next found placed c i e =
        let f = l.finds c i e in
        subst (λ (k : ℕ). Finds rows c m.last k next) (sym f.serial) (finds rows c m.last (num f.first.cell) next (found c f.first.cell i f.first.reached.among e f.first.place) placed)

    -- the node of the row, which the last step reaches
    reached_node : (P : Tree) (keep : Node → Bool) (n : Node) → (a : Asks rows nodes m.steps m.ask p P keep n)
        → (o : Node) × OfNode P keep (l.finds a.at.cell a.at.cell_among a.at.at).first.cell o × (reach (serial_of n) m.last o ≡ true) × (l.done < serial_of o)
    reached_node P keep n a =
        let f = l.finds a.at.cell a.at.cell_among a.at.at in
        reached_to rows P keep a.at.rows_of a.at.cell f.first.cell n m.last l.done (at_node rows P keep p n a.at) f.first.reached

    abbrev LooksAt : Option Serial → Bool → Type 0
    LooksAt next b = (P : Tree) (keep : Node → Bool) (n o : Node) → NodeAt rows P keep p n → NodeAt rows P keep here.0 o → reach (serial_of n) m.last o ≡ true
        → (hits (serial_of n) m.steps o ≡ true → KeepsValue P keep m.ask o) → Looked P m.steps m.ask n o waiting next b

    looked_here : (next : Option Serial) (b : Bool) → LooksAt next b → (P : Tree) (keep : Node → Bool) (n : Node) → (a : Asks rows nodes m.steps m.ask p P keep n) → Looked P m.steps m.ask n (reached_node P keep n a).0 waiting next b
    looked_here next b look P keep n a =
        let f = l.finds a.at.cell a.at.cell_among a.at.at in
        let o = reached_node P keep n a in
        let at : NodeAt rows P keep here.0 o.0 = subst (λ q. NodeAt rows P keep q o.0) f.first.place (node_at rows P keep a.at.rows_of f.first.cell o.0 f.first.reached.among o.1) in
        look P keep n o.0 a.at at o.2 (λ h. keeps_value P keep m.ask (matches P (serial_of n) m.steps) o.0 a.kept (Matches-from P (serial_of n) m.steps o.0 o.1.among h))

    -- the row is a match that does
    pub looked_found : (next : Option Serial) → LooksAt next true → (P : Tree) (keep : Node → Bool) (n : Node) → Asks rows nodes m.steps m.ask p P keep n → IsFound P m.ask (matches P (serial_of n) m.steps)
    looked_found next look P keep n a =
        let o = reached_node P keep n a in
        let s = looked_here next true look P keep n a in
        record { match_at = o.0; among = Matches-from P (serial_of n) m.steps o.0 o.1.among s.0; settled = s.1; does_so = s.2 }

    -- or the search goes on
    pub looking_goes : (m.steps ≡ [] → ⊥) → Fits m.steps m.last → (now : Option Serial) → LooksAt now false → (next : Option Place) → IsNext next → IsPlaced next → Looking rows nodes m now p next
    looking_goes some fits now look next found placed = record {
      done = serial_at here.0 rows;
      finds = found_next next found placed;
      seen = λ P keep n a t open_now.
          let f = l.finds a.at.cell a.at.cell_among a.at.at in
          let o = reached_node P keep n a in
          let told = serial_told rows P keep a.at.rows_of f.first.cell o.0 o.1 in
          subst (λ (k : ℕ). Seeking P keep m.ask (matches P (serial_of n) m.steps) now k) (sym (f.serial ∙ told))
          (seek_on rows P keep a.at.rows_of m.ask m.steps m.last some fits n waiting now l.done o.0 o.1.among o.3 (l.seen P keep n a t open_now)
          a.at.cell f.first.cell a.at.cell_among (at_node rows P keep p n a.at) o.1 f.first.least (looked_here now false look P keep n a));
    }

    pub look_falls : (next : Option Place) → IsNext next → IsPlaced next → look_left rows next < look_left rows (Some here)
    look_falls None found placed = omega arith
    look_falls (Some q) found placed =
        let f = l.finds u.cell u.among u.place in
        let g : IsFirst rows u.cell m.last (serial_at here.0 rows) q.0 = found_next (Some q) found placed u.cell u.among u.place in
        let e = g.serial in
        let s = f.serial in
        let b = g.first.reached.behind in
        let less = rows_fewer rows (serial_at here.0 rows) (serial_at q.0 rows) g.first.cell g.first.reached.among (sym e) (subst (λ (k : ℕ). serial_at here.0 rows < k) (sym e) b) in
        omega (arith, less)

  -- no row is left
  pub looking_ends : (waiting : Option Serial) → Looking rows nodes m waiting p None → (m.steps ≡ [] → ⊥) → Fits m.steps m.last → (upto : ℕ) → suc upto ≡ nodes
      → (P : Tree) (keep : Node → Bool) (n : Node) → Asks rows nodes m.steps m.ask p P keep n → Tried P m.ask (matches P (serial_of n) m.steps) m.waiting m.upto.0 → IsOpenNow P m.waiting
      → Searched P m.ask (matches P (serial_of n) m.steps) waiting upto false
  looking_ends waiting l some fits upto e P keep n a t now =
      tried_all rows P keep a.at.rows_of m.ask m.steps m.last some fits n nodes a.count waiting l.done (l.seen P keep n a t now) a.kept
      a.at.cell a.at.cell_among (at_node rows P keep p n a.at) (l.finds a.at.cell a.at.cell_among a.at.at) upto e

-- ---- one row

module _ (P : Tree) (steps : List Step) (ask : Option Ask) (n m : Node) (waiting : Option Serial) where
  pub looked_other : (b : Bool) → b ≡ false → b ≡ hits (serial_of n) steps m → Looked P steps ask n m waiting waiting false
  looked_other b e f = inr (refl, inl (sym f ∙ e))

  pub looked_waits : (s : Serial) → serial_of m ≡ s.0 → (b : Bool) → b ≡ true → b ≡ hits (serial_of n) steps m → (c : Bool) → c ≡ false → c ≡ is_settled P ask m → Looked P steps ask n m waiting (Some s) false
  looked_waits s k b e f c g h = inl (s, refl, k, sym f ∙ e, sym h ∙ g)

  pub looked_does : (b : Bool) → b ≡ true → b ≡ hits (serial_of n) steps m → (c : Bool) → c ≡ true → c ≡ is_settled P ask m → (d : Bool) → d ≡ does P ask m → Looked P steps ask n m waiting waiting d
  looked_does b e f c g h true k = (sym f ∙ e, sym h ∙ g, sym k)
  looked_does b e f c g h false k = inr (refl, inr (sym h ∙ g, sym k))

pub looked_ok : {E : Type 0} (rows : List Cell) (p q : ℕ) (m : Mark) (b : Bool) → b ≡ true
    → ((P : Tree) (keep : Node → Bool) (n o : Node) → NodeAt rows P keep p n → NodeAt rows P keep q o → reach (serial_of n) m.last o ≡ true → b ≡ hits (serial_of n) m.steps o)
    → (c : Bool) → c ≡ true → ((P : Tree) (keep : Node → Bool) (o : Node) → NodeAt rows P keep q o → c ≡ is_settled P m.ask o)
    → (r : Result Bool E) → IfOk r (λ d. (P : Tree) (keep : Node → Bool) (o : Node) → NodeAt rows P keep q o → KeepsValue P keep m.ask o → d ≡ does P m.ask o)
    → IfOk r (λ d. (P : Tree) (keep : Node → Bool) (n o : Node) → NodeAt rows P keep p n → NodeAt rows P keep q o → reach (serial_of n) m.last o ≡ true
    → (hits (serial_of n) m.steps o ≡ true → KeepsValue P keep m.ask o) → Looked P m.steps m.ask n o m.waiting m.waiting d)
looked_ok rows p q m b e is_match c f settled (Ok d) h = λ P keep n o a u r kept.
    let is = is_match P keep n o a u r in
    looked_does P m.steps m.ask n o m.waiting b e is c f (settled P keep o u) d (h P keep o u (kept (sym is ∙ e)))
looked_ok rows p q m b e is_match c f settled (Err x) h = tt

-- ---- the mark as it was

-- what a look at the row at the place q tells of the mark m, whose match that was open is `before`
abbrev pub LooksAtRow : List Cell → (p q : ℕ) → (m : Mark) → (before after : Option Serial) → Bool → Type 0
LooksAtRow rows p q m before after b = (P : Tree) (keep : Node → Bool) (n o : Node) → NodeAt rows P keep p n → NodeAt rows P keep q o → reach (serial_of n) m.last o ≡ true
    → (hits (serial_of n) m.steps o ≡ true → KeepsValue P keep m.ask o) → Looked P m.steps m.ask n o before after b

pub looks_as : (rows : List Cell) (p q : ℕ) (m now : Mark) → now ≡ record m { waiting = now.waiting } → (after : Option Serial) (b : Bool) → LooksAtRow rows p q now now.waiting after b → LooksAtRow rows p q m now.waiting after b
looks_as rows p q m now e after b h = subst (λ (x : Mark). LooksAtRow rows p q x now.waiting after b) e h

abbrev pub BehindRow : List Cell → (p q : ℕ) → Option Place → Step → Type 0
BehindRow rows p q next s = (c d : Cell) → In c rows → In d rows → c.place ≡ p → d.place ≡ q → MatchOption next (Unreached rows c s (num d)) (λ r. FirstReached rows c s (num d) r.0)

pub is_behind : (rows : List Cell) (p q : ℕ) (s t : Step) (next : Option Place) → s ≡ t → BehindRow rows p q next s → BehindRow rows p q next t
is_behind rows p q s t next e h = subst (BehindRow rows p q next) e h
