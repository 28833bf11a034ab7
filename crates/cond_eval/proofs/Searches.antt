-- A walk over the matches of a step, from one to the next: what comes of them, one after the other.
use Rattle.std.proofs.Common.{◌≡◌, ℕ, ◌<◌, Bool, true, false, cond, List, [], ◌∷◌, ◌++◌, refl, sym, ◌∙◌, ap, subst, inl, inr, arith, append_assoc, append-nil, ltb, Option, Some, None}
use Rattle.std.specs.Prelude.{MatchOption, IfSome, flat_map, option_map}
use Rattle.std.proofs.lemmas.Bool.{lt-ltb, le-ltb, ltb-true}
use Rattle.gcx_base.specs.declared.steps.Step.{Step}
use Rattle.gcx_model.specs.Tree.{Node, serial_of, Tree}
use Rattle.gcx_model.specs.Paths.{hits}
use Rattle.base_laws.proofs.Lists.{cons_head, cons_tail}
use Rattle.base_laws.proofs.Members.{filter_all}
use Rattle.tree_laws.proofs.Lists.{In}
use Rattle.tree_laws.proofs.Matches.{Rising, Rising-filter}
use Rattle.tree_laws.proofs.Departures.{rising_filter}
use Rattle.node_store.specs.declared.store.Place.{Place}
use Rattle.buf_tree.specs.Shape.{Cell, num, at_place}
use Rattle.buf_tree.specs.Walk.{serial_in, rows_behind, high_at}
use Rattle.buf_tree.proofs.Seeking.{rows_fewer}
use Rattle.buf_tree.specs.Match.{Unreached, FirstReached, GoesFrom}
use Rattle.buf_tree.specs.View.{InUse, num_in, serial_at}
use Rattle.cond_eval.specs.Asking.{RowsOf}
use Rattle.cond_eval.specs.Reads.{NodeAt}
use Rattle.cond_eval.proofs.Rows.{at_node, grown_tree, serial_told}
use Rattle.cond_eval.proofs.RowSteps.{beyond, kept_matches, found, not_found, all_beyond}

-- ---- lists

nil_beyond : (a : ℕ) (xs : List Node) → Rising xs → ((x : Node) → In x xs → a < serial_of x) → beyond a xs ≡ xs
nil_beyond a xs r h = filter_all (λ (x : Node). ltb a (serial_of x)) xs (λ x i. lt-ltb a (serial_of x) (h x i))

-- behind the first of the nodes above a number are the others
pub beyond_next : (a : ℕ) (xs : List Node) (m : Node) (rest : List Node) → Rising xs → beyond a xs ≡ m ∷ rest → beyond (serial_of m) xs ≡ rest
beyond_next a [] m rest r e = absurd (cc)
beyond_next a (x ∷ xs) m rest r e = go (ltb a (serial_of x)) refl e (λ k. beyond_next a xs m rest r.1 k)
  where
    later_all : a < serial_of x → beyond a xs ≡ xs
    later_all l = nil_beyond a xs r.1 (λ y i. let k = r.0 y i in omega arith)

    member : (zs : List Node) → In m (m ∷ zs)
    member zs = inl refl

    in_beyond : (zs : List Node) → beyond a zs ≡ m ∷ rest → In m zs
    in_beyond [] f = absurd (cc)
    in_beyond (z ∷ zs) f = step (ltb a (serial_of z)) f (in_beyond zs)
      where
        step : (b : Bool) → cond b (z ∷ beyond a zs) (beyond a zs) ≡ m ∷ rest → (beyond a zs ≡ m ∷ rest → In m zs) → In m (z ∷ zs)
        step true f ih = inl (cons_head _ _ _ _ f)
        step false f ih = inr (ih f)

    go : (b : Bool) → ltb a (serial_of x) ≡ b → cond b (x ∷ beyond a xs) (beyond a xs) ≡ m ∷ rest → (beyond a xs ≡ m ∷ rest → beyond (serial_of m) xs ≡ rest) → beyond (serial_of m) (x ∷ xs) ≡ rest
    go true f k ih =
        let is : x ≡ m = cons_head _ _ _ _ k in
        let s = ap serial_of is in
        let l = ltb-true a (serial_of x) f in
        let others : beyond a xs ≡ rest = cons_tail _ _ _ _ k in
        rw (le-ltb (serial_of m) (serial_of x) (omega arith)) (nil_beyond (serial_of m) xs r.1 (λ y i. let q = r.0 y i in omega arith) ∙ (sym (later_all l) ∙ others))
    go false f k ih =
        let q = r.0 m (in_beyond xs k) in
        rw (le-ltb (serial_of m) (serial_of x) (omega arith)) (ih k)

pub matches_rise : (rows : List Cell) (P : Tree) (keep : Node → Bool) → RowsOf rows P keep → (n : ℕ) (s : Step) → Rising (kept_matches P keep n s)
matches_rise rows P keep of n s = rising_filter (hits n (s ∷ [])) _ (Rising-filter 0 keep P.nodes (grown_tree rows P keep of).numbered)

-- ---- the walk

-- what a search behind the row at the place q answers, for matches from the row at p
abbrev pub Searched : List Cell → (p : ℕ) → Step → (q : ℕ) → Option Place → Type 0
Searched rows p s q o = (c d : Cell) → In c rows → In d rows → c.place ≡ p → d.place ≡ q → MatchOption o (Unreached rows c s (num d)) (λ r. FirstReached rows c s (num d) r.0)

-- with what comes of the later matches these are what comes of all
abbrev pub Told : List Cell → (p : ℕ) → Step → (Node → List ℕ) → (q : ℕ) → List ℕ → Type 0
Told rows p s f q vs = (P : Tree) (keep : Node → Bool) (n : Node) → NodeAt rows P keep p n
    → (d : Cell) × In d rows × (d.place ≡ q) × (vs ++ flat_map f (beyond (num d) (kept_matches P keep (serial_of n) s)) ≡ flat_map f (kept_matches P keep (serial_of n) s))

-- the serial that is looked up at the place is that of each row there
abbrev pub Looks : List Cell → Option Place → Type 0
Looks rows o = IfSome o (λ q. (c : Cell) → In c rows → c.place ≡ q.0 → serial_at q.0 rows ≡ num c)

-- the walk is at this match, or at its end
pub record Goes (rows : List Cell) (p : ℕ) (s : Step) (f : Node → List ℕ) (vs : List ℕ) (o : Option Place) : Type 0 where
  pub from : ℕ
  pub way : GoesFrom rows p s.axis from
  pub searched : Searched rows p s from o
  pub told : Told rows p s f from vs

-- with another step on the same axis too
pub way_on : (rows : List Cell) (p : ℕ) (s t : Step) (q : Place) → s ≡ t → InUse rows p → Searched rows p s p (Some q) → GoesFrom rows p t.axis q.0
way_on rows p s t q e u h =
    let f = h u.cell u.cell u.among u.among u.place u.place in
    subst (λ (x : Step). GoesFrom rows p x.axis q.0) e (record { top = u; from = record { cell = f.cell; among = f.reached.among; place = f.place }; way = inr f.reached.axis })

pub starts_from : (rows : List Cell) (p : ℕ) (s : Step) → InUse rows p → GoesFrom rows p s.axis p
starts_from rows p s u = record { top = u; from = u; way = inl refl }

module _ (rows : List Cell) (p : ℕ) (s : Step) (f : Node → List ℕ) where
  pub goes_start : (o : Option Place) → InUse rows p → Searched rows p s p o → Goes rows p s f [] o
  goes_start o u h = record {
    from = p;
    way = starts_from rows p s u;
    searched = h;
    told = λ P keep n a.
        let e = serial_told rows P keep a.rows_of a.cell n (at_node rows P keep p n a) in
        (a.cell, a.cell_among, a.at, ap (flat_map f) (ap (λ k. beyond k (kept_matches P keep (serial_of n) s)) e ∙ all_beyond rows P keep a.rows_of (serial_of n) s));
  }

  -- from the match at hand a search may go on
  pub goes_way : (vs : List ℕ) (here : Place) → Goes rows p s f vs (Some here) → GoesFrom rows p s.axis here.0
  goes_way vs here g =
      let h = g.searched g.way.top.cell g.way.from.cell g.way.top.among g.way.from.among g.way.top.place g.way.from.place in
      record { top = g.way.top; from = record { cell = h.cell; among = h.reached.among; place = h.place }; way = inr h.reached.axis }

  -- the first match is that behind the row at `from`
  pub goes_found : (vs : List ℕ) (here : Place) → (g : Goes rows p s f vs (Some here)) → (P : Tree) (keep : Node → Bool) (n : Node) → NodeAt rows P keep p n
      → (m : Node) × (rest : List Node) × NodeAt rows P keep here.0 m × (flat_map f (m ∷ rest) ≡ f m ++ flat_map f rest) × (vs ++ flat_map f (m ∷ rest) ≡ flat_map f (kept_matches P keep (serial_of n) s))
      × ((d : Cell) → In d rows → num d ≡ serial_of m → beyond (num d) (kept_matches P keep (serial_of n) s) ≡ rest)
  goes_found vs here g P keep n a =
      let t = g.told P keep n a in
      let c = g.searched a.cell t.0 a.cell_among t.1 a.at t.2 in
      let h = found rows P keep a.rows_of a.cell n s (num t.0) here.0 a.cell_among (at_node rows P keep p n a) c in
      let rise = matches_rise rows P keep a.rows_of (serial_of n) s in (
        h.0,
        h.1,
        h.3,
        refl,
        ap (λ z. vs ++ flat_map f z) (sym h.2) ∙ t.3,
        λ d i e. ap (λ k. beyond k (kept_matches P keep (serial_of n) s)) e ∙ beyond_next (num t.0) _ h.0 h.1 rise h.2,
      )

  pub goes_on : (vs ws : List ℕ) (here : Place) (o : Option Place) → Goes rows p s f vs (Some here)
      → ((P : Tree) (keep : Node → Bool) (m : Node) → NodeAt rows P keep here.0 m → ws ≡ f m) → Searched rows p s here.0 o → Goes rows p s f (vs ++ ws) o
  goes_on vs ws here o g w h = record {
    from = here.0;
    way = goes_way vs here g;
    searched = h;
    told = λ P keep n a.
        let t = goes_found vs here g P keep n a in
        let b = t.2 in
        let mine = w P keep t.0 b in (
          b.cell,
          b.cell_among,
          b.at,
          ap (λ z. (vs ++ ws) ++ flat_map f z) (t.5 b.cell b.cell_among b.number) ∙ (append_assoc vs ws (flat_map f t.1) ∙ (ap (λ z. vs ++ (z ++ flat_map f t.1)) mine ∙ t.4)),
        );
  }

  pub goes_end : (vs : List ℕ) → Goes rows p s f vs None → (P : Tree) (keep : Node → Bool) (n : Node) → NodeAt rows P keep p n → vs ≡ flat_map f (kept_matches P keep (serial_of n) s)
  goes_end vs g P keep n a =
      let t = g.told P keep n a in
      let u = g.searched a.cell t.0 a.cell_among t.1 a.at t.2 in
      let none = not_found rows P keep a.rows_of a.cell n s (num t.0) a.cell_among (at_node rows P keep p n a) u in
      sym (append-nil vs) ∙ (ap (λ z. vs ++ flat_map f z) (sym none) ∙ t.3)

  -- the serial of the row at hand is the one that is looked up at its place
  pub goes_less : (vs : List ℕ) (here : Place) (o : Option Place) → Goes rows p s f vs (Some here) → Looks rows (Some here) → Searched rows p s here.0 o → Looks rows o → high_at rows (option_map (λ (q : Place). q.0) o) < high_at rows (Some here.0)
  goes_less vs here None g l h k = omega arith
  goes_less vs here (Some q) g l h k =
      let w = goes_way vs here g in
      let r = h w.top.cell w.from.cell w.top.among w.from.among w.top.place w.from.place in
      let a = by_serial (at_place here.0 rows) ∙ l w.from.cell w.from.among w.from.place in
      let b = by_serial (at_place q.0 rows) ∙ k r.cell r.reached.among r.place in
      let up = r.reached.behind in
      let less = rows_fewer rows (num w.from.cell) (num r.cell) r.cell r.reached.among refl up in
      let x = ap (rows_behind rows) a in
      let y = ap (rows_behind rows) b in
      omega arith
    where
      by_serial : (c : Option Cell) → serial_in rows c ≡ num_in c
      by_serial None = refl
      by_serial (Some c) = refl
