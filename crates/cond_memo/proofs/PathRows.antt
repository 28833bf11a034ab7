-- The search for a match over the rows that the last step reaches, row by row.
use Rattle.std.proofs.Common.{◌≡◌, ◌<◌, ◌≤◌, ◌==◌, ℕ, suc, Bool, true, false, List, [], ◌∷◌, length, Option, Some, None, refl, sym, ◌∙◌, subst, inl, inr, ◌⊎◌, arith}
use Rattle.std.specs.Prelude.{MatchOption, IfSome}
use Rattle.std.proofs.lemmas.Bool.{false≢true, eq-eqb, eqb-true, cases_order}
use Rattle.gcx_base.specs.declared.steps.Step.{Step}
use Rattle.gcx_model.specs.Tree.{Node, serial_of, Tree}
use Rattle.gcx_model.specs.Paths.{reach, hits, matches}
use Rattle.gcx_model.specs.Members.{In}
use Rattle.tree_laws.proofs.Freeze.{within_self}
use Rattle.tree_laws.proofs.Matches.{Grown, Matches-in, Matches-from, Numbered-high}
use Rattle.node_store.specs.declared.store.Place.{Place}
use Rattle.buf_tree.specs.Shape.{Cell, num}
use Rattle.buf_tree.specs.Match.{Reached, Unreached, FirstReached, FindsBehind, GoesFrom, SerialFound}
use Rattle.buf_tree.specs.View.{View, InUse, serial_at}
use Rattle.buf_tree.specs.Walk.{rows_behind}
use Rattle.buf_tree.proofs.Seeking.{rows_fewer}
use Rattle.cond_eval.specs.Reads.{NodeAt}
use Rattle.cond_eval.specs.Searches.{IsFirst, Finds}
use Rattle.cond_eval.proofs.Finding.{finds}
use Rattle.cond_eval.proofs.Rows.{OfNode, node_at, at_node, grown_tree, row_for, same_node, serial_told}
use Rattle.cond_eval.proofs.RowSteps.{reached_from, reached_to}
use Rattle.cond_memo.specs.Marks.{Fits}
use Rattle.cond_memo.specs.Calls.{TellsMatch}
use Rattle.cond_memo.specs.Taking.{AsksPath}
use Rattle.cond_memo.proofs.MarkTrees.{fits_reach, hit_high}
use Rattle.cond_memo.specs.Searching.{FindsRow, FirstIs, FindsMatch, FindsBehindMatch, IsRowFound, StartsRow}

pub empty_is : (xs : List Step) (b : Bool) → b ≡ (length xs == 0) → b ≡ true → xs ≡ []
empty_is xs b e f = go xs (eqb-true (length xs) 0 (sym e ∙ f))
  where
    go : (ys : List Step) → length ys ≡ 0 → ys ≡ []
    go [] h = refl
    go (y ∷ ys) h = absurd (omega arith)

-- no match with a serial above `done` stands up to `upto`, and the place is that of the next row that the last step reaches
pub record Skipped (v : View) (p : ℕ) (steps : List Step) (last : Step) (done : ℕ) (at : Option Place) : Type 0 where
  pub upto : ℕ
  pub low : done ≤ upto
  pub finds : FindsRow v.rows p last upto at
  pub none : (P : Tree) (keep : Node → Bool) (n : Node) → AsksPath v p steps P keep n → (j : Node) → In j (matches P (serial_of n) steps) → done < serial_of j → upto < serial_of j

-- so it is of each search that found the row with which the walk began
abbrev pub Skips : View → (p : ℕ) → List Step → (last : Step) → (from at : Option Place) → Type 0
Skips v p steps last from at = (done : ℕ) → FindsRow v.rows p last done from → Skipped v p steps last done at

pub skips_start : (v : View) (p : ℕ) (steps : List Step) (last : Step) (at : Option Place) → Skips v p steps last at at
skips_start v p steps last at done f = record { upto = done; low = omega arith; finds = f; none = λ P keep n a j i l. l }

-- a match is kept, as its subtree is
pub match_kept : (v : View) (p : ℕ) (steps : List Step) (P : Tree) (keep : Node → Bool) (n : Node) → AsksPath v p steps P keep n → (j : Node) → In j (matches P (serial_of n) steps) → keep j ≡ true
match_kept v p steps P keep n a j i = a.kept j i j (Matches-in P (serial_of n) steps j i).0 (within_self (serial_of j) j (eq-eqb _ _ refl))

-- how many rows are left to look at
abbrev pub rows_left : List Cell → Option Place → ℕ
rows_left rows None = 0
rows_left rows (Some p) = suc (rows_behind rows (serial_at p.0 rows))

module _ (v : View) (p : ℕ) (u : InUse v.rows p) (last : Step) where
  module _ (here : Place) (after : ℕ) (f : FindsRow v.rows p last after (Some here)) where
    abbrev pub found_used : InUse v.rows here.0
    found_used = let g = f u.cell u.among u.place in record { cell = g.first.cell; among = g.first.reached.among; place = g.first.place }

    pub found_from : GoesFrom v.rows p last.axis here.0
    found_from = let g = f u.cell u.among u.place in record { top = u; from = found_used; way = inr g.first.reached.axis }

    abbrev IsBehind : Option Place → Type 0
    IsBehind next = (c d : Cell) → In c v.rows → In d v.rows → c.place ≡ p → d.place ≡ here.0 → MatchOption next (Unreached v.rows c last (num d)) (λ q. FirstReached v.rows c last (num d) q.0)

    abbrev IsPlaced : Option Place → Type 0
    IsPlaced next = IfSome next (λ q. (c : Cell) → In c v.rows → c.place ≡ q.0 → serial_at q.0 v.rows ≡ num c)

    found_next : (next : Option Place) → IsBehind next → IsPlaced next → FindsRow v.rows p last (serial_at here.0 v.rows) next
    found_next next found placed c i e =
        let g = f c i e in
        subst (λ (k : ℕ). Finds v.rows c last k next) (sym g.serial) (finds v.rows c last (num g.first.cell) next (found c g.first.cell i g.first.reached.among e g.first.place) placed)

    pub rows_fall : (next : Option Place) → IsBehind next → IsPlaced next → rows_left v.rows next < rows_left v.rows (Some here)
    rows_fall None found placed = omega arith
    rows_fall (Some q) found placed =
        let g : IsFirst v.rows u.cell last (serial_at here.0 v.rows) q.0 = found_next (Some q) found placed u.cell u.among u.place in
        let e = g.serial in
        let b = g.first.reached.behind in
        let less = rows_fewer v.rows (serial_at here.0 v.rows) (serial_at q.0 v.rows) g.first.cell g.first.reached.among (sym e) (subst (λ (k : ℕ). serial_at here.0 v.rows < k) (sym e) b) in
        omega (arith, less)

module _ (v : View) (p : ℕ) (u : InUse v.rows p) (steps : List Step) (last : Step) (some : steps ≡ [] → ⊥) (fits : Fits steps last) where
  -- each match is the node of a row that the last step reaches
  match_row : (P : Tree) (keep : Node → Bool) (n : Node) → (a : AsksPath v p steps P keep n) → (upto : ℕ) (j : Node) → In j (matches P (serial_of n) steps) → upto < serial_of j → (d : Cell) × OfNode P keep d j × Reached v.rows a.at.cell last upto d
  match_row P keep n a upto j k l =
      let of = a.at.rows_of in
      let m = Matches-in P (serial_of n) steps j k in
      let d = row_for v.rows P keep of j m.0 (match_kept v p steps P keep n a j k) in
      let r = fits_reach P (grown_tree v.rows P keep of) steps last (serial_of n) j m.0 some fits m.1 in
      (d.0, d.2, reached_from v.rows P keep of a.at.cell d.0 n j last upto a.at.cell_among d.1 (at_node v.rows P keep p n a.at) d.2 r l)

  module _ (done : ℕ) (here : Place) (s : Skipped v p steps last done (Some here)) where
    -- the node of the row, which the last step reaches
    here_node : (P : Tree) (keep : Node → Bool) (n : Node) → (a : AsksPath v p steps P keep n)
        → (o : Node) × OfNode P keep (s.finds a.at.cell a.at.cell_among a.at.at).first.cell o × (reach (serial_of n) last o ≡ true) × (s.upto < serial_of o)
    here_node P keep n a =
        let f = s.finds a.at.cell a.at.cell_among a.at.at in
        reached_to v.rows P keep a.at.rows_of a.at.cell f.first.cell n last s.upto (at_node v.rows P keep p n a.at) f.first.reached

    here_at : (P : Tree) (keep : Node → Bool) (n : Node) → (a : AsksPath v p steps P keep n) → NodeAt v.rows P keep here.0 (here_node P keep n a).0
    here_at P keep n a =
        let f = s.finds a.at.cell a.at.cell_among a.at.at in
        let o = here_node P keep n a in
        subst (λ q. NodeAt v.rows P keep q o.0) f.first.place (node_at v.rows P keep a.at.rows_of f.first.cell o.0 f.first.reached.among o.1)

    -- no match comes before it
    here_least : (P : Tree) (keep : Node → Bool) (n : Node) → (a : AsksPath v p steps P keep n) → (j : Node) → In j (matches P (serial_of n) steps) → done < serial_of j → serial_of (here_node P keep n a).0 ≤ serial_of j
    here_least P keep n a j i l =
        let of = a.at.rows_of in
        let f = s.finds a.at.cell a.at.cell_among a.at.at in
        let o = here_node P keep n a in
        let r = match_row P keep n a s.upto j i (s.none P keep n a j i l) in
        let least = f.first.least r.0 r.2 in
        let e = serial_told v.rows P keep of r.0 j r.1 in
        let t = serial_told v.rows P keep of f.first.cell o.0 o.1 in
        omega arith

    pub match_here : TellsMatch v.rows steps last p here.0 true → FindsMatch v p steps (suc done) (Some here)
    match_here is P keep n a =
        let o = here_node P keep n a in
        let h = is P keep n o.0 a.at (here_at P keep n a) o.2 in
        let low = s.low in
        let high = o.3 in
        record {
          match_at = o.0;
          at = here_at P keep n a;
          among = Matches-from P (serial_of n) steps o.0 o.1.among (sym h);
          high = omega arith;
          least = λ j i l. here_least P keep n a j i (omega arith);
        }

    -- the row is none: the walk goes on
    pub skips_here : TellsMatch v.rows steps last p here.0 false → (next : Option Place) → IsBehind v p u last here s.upto s.finds next → IsPlaced v p u last here s.upto s.finds next → Skipped v p steps last done next
    skips_here other next found placed = record {
      upto = serial_at here.0 v.rows;
      low =
          let f = s.finds u.cell u.among u.place in
          let e = f.serial in
          let b = f.first.reached.behind in
          let low = s.low in
          omega arith;
      finds = found_next v p u last here s.upto s.finds next found placed;
      none = λ P keep n a j i l.
          let of = a.at.rows_of in
          let f = s.finds a.at.cell a.at.cell_among a.at.at in
          let o = here_node P keep n a in
          let e = f.serial in
          let t = serial_told v.rows P keep of f.first.cell o.0 o.1 in
          let least = here_least P keep n a j i l in
          elim (cases_order (serial_of o.0) (serial_of j)) [
            | inl same ↦ absurd (no_match P keep n a j i same)
            | inr h ↦ elim h [
              | inl g ↦ omega arith
              | inr g ↦ absurd (omega arith)
            ]
          ];
    }
      where
        no_match : (P : Tree) (keep : Node → Bool) (n : Node) → (a : AsksPath v p steps P keep n) → (j : Node) → In j (matches P (serial_of n) steps) → serial_of (here_node P keep n a).0 ≡ serial_of j → ⊥
        no_match P keep n a j i e =
            let o = here_node P keep n a in
            let m = Matches-in P (serial_of n) steps j i in
            let same : j ≡ o.0 = same_node v.rows P keep a.at.rows_of j o.0 m.0 o.1.among (sym e) in
            false≢true (other P keep n o.0 a.at (here_at P keep n a) o.2 ∙ subst (λ (z : Node). hits (serial_of n) steps z ≡ true) same m.1)

  -- no row is left
  pub none_left : (done : ℕ) → Skipped v p steps last done None → FindsMatch v p steps (suc done) None
  none_left done s P keep n a j i l =
      let r = match_row P keep n a s.upto j i (s.none P keep n a j i (omega arith)) in
      (s.finds a.at.cell a.at.cell_among a.at.at).none r.0 r.2

-- ---- from where it begins

-- the first match behind all up to a bound is the first one behind an earlier one, where none stands between
pub first_earlier : (v : View) (p : ℕ) (steps : List Step) (late early : ℕ) (r : Option Place) → early ≤ late
    → ((P : Tree) (keep : Node → Bool) (n : Node) → AsksPath v p steps P keep n → (j : Node) → In j (matches P (serial_of n) steps) → early ≤ serial_of j → late ≤ serial_of j)
    → FindsMatch v p steps late r → FindsMatch v p steps early r
first_earlier v p steps late early None low none f = λ P keep n a j i l. f P keep n a j i (none P keep n a j i l)
first_earlier v p steps late early (Some q) low none f = λ P keep n a.
    let g = f P keep n a in
    let h = g.high in
    record { match_at = g.match_at; at = g.at; among = g.among; high = omega arith; least = λ j i l. g.least j i (none P keep n a j i l) }

-- matches stand behind the node
pub above_node : (v : View) (p : ℕ) (steps : List Step) → (steps ≡ [] → ⊥) → (P : Tree) (keep : Node → Bool) (n : Node) → AsksPath v p steps P keep n → (j : Node) → In j (matches P (serial_of n) steps) → serial_of n < serial_of j
above_node v p [] some P keep n a j i = absurd (some refl)
above_node v p (s ∷ rest) some P keep n a j i =
    let m = Matches-in P (serial_of n) (s ∷ rest) j i in
    hit_high P (grown_tree v.rows P keep a.at.rows_of) (serial_of n) s rest j m.0 m.1

pub first_from : (v : View) (p : ℕ) (steps : List Step) (last : Step) → (steps ≡ [] → ⊥) → (below : ℕ) (row r : Option Place) → (s : StartsRow v.rows p last below row) → FindsMatch v p steps (suc s.after) r → FindsMatch v p steps below r
first_from v p steps last some below row r s f = go s.from
  where
    go : (suc s.after ≡ below) ⊎ ((below ≤ s.after) × ((c : Cell) → In c v.rows → c.place ≡ p → num c ≡ s.after)) → FindsMatch v p steps below r
    go (inl e) = subst (λ (k : ℕ). FindsMatch v p steps k r) e f
    go (inr h) =
        let low = h.0 in
        first_earlier v p steps (suc s.after) below r (omega arith)
        (λ P keep n a j i l.
        let up = above_node v p steps some P keep n a j i in
        let e = h.1 a.at.cell a.at.cell_among a.at.at in
        let g = a.at.number in
        omega arith)
        f

-- behind a match
module _ (v : View) (p q : ℕ) (steps : List Step) (last : Step) (from : GoesFrom v.rows p last.axis q) (next : Option Place) (found : FindsBehind v.rows p q last next) (placed : SerialFound v.rows next) where
  behind_row : (d : Cell) → In d v.rows → d.place ≡ q → FindsRow v.rows p last (num d) next
  behind_row d j f c i e = finds v.rows c last (num d) next (found c d i j e f) placed

  pub row_behind : IsRowFound v.rows p last next
  row_behind = record { after = num from.from.cell; finds = behind_row from.from.cell from.from.among from.from.place }

  pub match_behind_it : (r : Option Place) → ((after : ℕ) → FindsRow v.rows p last after next → FindsMatch v p steps (suc after) r) → FindsBehindMatch v p q steps r
  match_behind_it r f P keep n m a at i =
      subst (λ (k : ℕ). FirstIs v.rows P keep (matches P (serial_of n) steps) (suc k) r) at.number
      (f (num at.cell) (behind_row at.cell at.cell_among at.at) P keep n a)

-- ---- without steps

pub self_hit : (P : Tree) (n j : Node) → In j (matches P (serial_of n) []) → serial_of j ≡ serial_of n
self_hit P n j i = eqb-true (serial_of j) (serial_of n) (Matches-in P (serial_of n) [] j i).1

pub itself_first : (v : View) (node : Place) (steps : List Step) (below serial : ℕ) → steps ≡ [] → below ≤ serial → ((c : Cell) → In c v.rows → c.place ≡ node.0 → num c ≡ serial) → FindsMatch v node.0 steps below (Some node)
itself_first v node steps below serial e low at = subst (λ (s : List Step). FindsMatch v node.0 s below (Some node)) (sym e) go
  where
    go : FindsMatch v node.0 [] below (Some node)
    go P keep n a =
        let f = at a.at.cell a.at.cell_among a.at.at in
        let g = a.at.number in
        record {
          match_at = n;
          at = a.at;
          among = Matches-from P (serial_of n) [] n a.at.among (eq-eqb _ _ refl);
          high = omega arith;
          least = λ j i l. let h = self_hit P n j i in omega arith;
        }

pub itself_taken : (v : View) (p : ℕ) (steps : List Step) (below serial : ℕ) → steps ≡ [] → serial < below → ((c : Cell) → In c v.rows → c.place ≡ p → num c ≡ serial) → FindsMatch v p steps below None
itself_taken v p steps below serial e low at = subst (λ (s : List Step). FindsMatch v p s below None) (sym e) go
  where
    go : FindsMatch v p [] below None
    go P keep n a j i l =
        let f = at a.at.cell a.at.cell_among a.at.at in
        let g = a.at.number in
        let h = self_hit P n j i in
        absurd (omega arith)

pub none_behind : (v : View) (p q : ℕ) (steps : List Step) → steps ≡ [] → FindsBehindMatch v p q steps None
none_behind v p q steps e = subst (λ (s : List Step). FindsBehindMatch v p q s None) (sym e) (λ P keep n m a at i j k l. let f = self_hit P n m i in let g = self_hit P n j k in absurd (omega arith))

-- ---- serials of matches

module _ (v : View) (p : ℕ) (steps : List Step) (P : Tree) (keep : Node → Bool) (n : Node) (a : AsksPath v p steps P keep n) where
  abbrev ms : List Node
  ms = matches P (serial_of n) steps

  grown : Grown P
  grown = grown_tree v.rows P keep a.at.rows_of

  pub match_low : (j : Node) → In j ms → serial_of j < length P.nodes
  match_low j i = let h = Numbered-high 0 P.nodes grown.numbered j (Matches-in P (serial_of n) steps j i).0 in omega arith
