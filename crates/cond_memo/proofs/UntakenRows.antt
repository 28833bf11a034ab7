-- The next closed match that wasn't taken, as the rows tell it.
use Rattle.std.proofs.Common.{◌≡◌, ◌<◌, ◌≤◌, ◌+◌, ◌-◌, ℕ, suc, Bool, true, false, cond, ltb, not, List, [], ◌∷◌, Option, Some, None, refl, sym, ◌∙◌, ap, subst, inl, inr, arith}
use Rattle.std.specs.Prelude.{Result, IfOk, IfSome}
use Rattle.std.specs.declared.result.Result.TheVariants.{Ok, Err}
use Rattle.std.proofs.lemmas.Bool.{eqb-true, false_from_ne_true, lt-ltb, ltb-true}
use Rattle.gcx_base.specs.declared.ids.Serial.{Serial}
use Rattle.gcx_base.specs.declared.steps.Step.{Step}
use Rattle.gcx_model.specs.Members.{In}
use Rattle.gcx_model.specs.Paths.{matches, value}
use Rattle.gcx_model.specs.Tree.{Node, serial_of, above, Tree, is_closed}
use Rattle.tree_laws.proofs.Chains.{hits_above}
use Rattle.tree_laws.proofs.Matches.{Matches-in}
use Rattle.node_store.specs.declared.store.Place.{Place}
use Rattle.buf_tree.specs.Match.{GoesFrom, IsFrom}
use Rattle.buf_tree.specs.Shape.{Cell, num}
use Rattle.buf_tree.specs.View.{InUse, View, serial_at}
use Rattle.cond_eval.specs.Reads.{NodeAt}
use Rattle.cond_eval.proofs.Comparisons.{shut_told}
use Rattle.cond_eval.proofs.RowSteps.{from_match}
use Rattle.cond_eval.proofs.Rows.{OfNode, at_node, closed_told, grown_tree, node_at, of_serial, same_node, same_row}
use Rattle.cond_memo.specs.Marks.{Fits, IsOpenNow, IsShut, NextAbove, StillOpen}
use Rattle.cond_memo.specs.Calls.{FindsUpwards}
use Rattle.cond_memo.specs.Searching.{FindsBehindMatch, FindsMatch, IsFirstFrom, IsPassed, MayPass, PassesFrom, PassesOpen, TellsAbove}
use Rattle.cond_memo.specs.Taking.{AsksPath, FindsUntaken, IsUntaken, MayTake, MayTakeAt, TakesUntaken, TookUpto, takes_left, waits_left}
use Rattle.cond_memo.specs.declared.taken.Taken.{Taken}
use Rattle.cond_memo.proofs.MarkTold.{same_serial}
use Rattle.cond_memo.proofs.MarkTrees.{fits_reach}
use Rattle.cond_memo.proofs.PathRows.{above_node, match_kept, match_low, self_hit}
use Rattle.cond_memo.proofs.Untaken.{open_now, took_all, took_back, took_one, took_open, took_to}

-- the row at the place has this serial
abbrev pub SerialIs : List Cell → (p s : ℕ) → Type 0
SerialIs rows p s = (c : Cell) → In c rows → c.place ≡ p → num c ≡ s

-- whether the row at the place is closed
abbrev pub ShutIs : List Cell → (p : ℕ) → Bool → Type 0
ShutIs rows p b = (c : Cell) → In c rows → c.place ≡ p → b ≡ not c.row.is_open

-- ---- how many are left

left_low : (v : View) (b : ℕ) (q : Place) → serial_at q.0 v.rows < b → takes_left v b (Some q) ≡ v.nodes + 1 + serial_at q.0 v.rows
left_low v b q l = ap (λ (c : Bool). cond c (v.nodes + 1 + serial_at q.0 v.rows) (v.nodes - serial_at q.0 v.rows)) (lt-ltb (serial_at q.0 v.rows) b l)

left_high : (v : View) (b : ℕ) (q : Place) → b ≤ serial_at q.0 v.rows → takes_left v b (Some q) ≡ v.nodes - serial_at q.0 v.rows
left_high v b q l =
    ap (λ (c : Bool). cond c (v.nodes + 1 + serial_at q.0 v.rows) (v.nodes - serial_at q.0 v.rows))
    (false_from_ne_true (ltb (serial_at q.0 v.rows) b) (λ e. let z = ltb-true (serial_at q.0 v.rows) b e in omega arith))

left_most : (v : View) (b : ℕ) (q : Place) → takes_left v b (Some q) ≤ v.nodes + 1 + serial_at q.0 v.rows
left_most v b q = go (ltb (serial_at q.0 v.rows) b)
  where
    go : (c : Bool) → cond c (v.nodes + 1 + serial_at q.0 v.rows) (v.nodes - serial_at q.0 v.rows) ≤ v.nodes + 1 + serial_at q.0 v.rows
    go true = omega arith
    go false = omega arith

-- at a new match, whose serial is the bound
left_new : (v : View) (b : ℕ) (r : Option Place) → IfSome r (λ q. serial_at q.0 v.rows ≡ b) → takes_left v b r ≤ v.nodes - b
left_new v b None h = omega arith
left_new v b (Some q) h = let e = left_high v b q (omega arith) in omega arith

waits_most : (v : View) (w : Option Serial) → v.nodes ≤ waits_left v w
waits_most v None = omega arith
waits_most v (Some s) = omega arith

-- ---- a match at its place

module _ (v : View) (p : ℕ) (steps : List Step) (P : Tree) (keep : Node → Bool) (n : Node) (a : AsksPath v p steps P keep n) where
  abbrev ms : List Node
  ms = matches P (serial_of n) steps

  -- a search may go on behind it
  pub goes_behind : (last : Step) → Fits steps last → (q : ℕ) (m : Node) → NodeAt v.rows P keep q m → In m ms → GoesFrom v.rows p last.axis q
  goes_behind last fits q m at i = record {
    top = record { cell = a.at.cell; among = a.at.cell_among; place = a.at.at };
    from = record { cell = at.cell; among = at.cell_among; place = at.at };
    way = go steps fits i;
  }
    where
      some_steps : (s : Step) (rest : List Step) → s ∷ rest ≡ [] → ⊥
      some_steps s rest e = absurd (cc)

      go : (path : List Step) → Fits path last → In m (matches P (serial_of n) path) → IsFrom v.rows last.axis a.at.cell at.cell
      go [] f k = inl (same_row v.rows P keep a.at.rows_of a.at.cell at.cell a.at.cell_among at.cell_among (a.at.number ∙ (sym (self_hit P n m k) ∙ sym at.number)))
      go (s ∷ rest) f k =
          let h = Matches-in P (serial_of n) (s ∷ rest) m k in
          from_match v.rows P keep a.at.rows_of a.at.cell at.cell n m last a.at.cell_among at.cell_among (at_node v.rows P keep p n a.at) (at_node v.rows P keep q m at)
          (fits_reach P (grown_tree v.rows P keep a.at.rows_of) (s ∷ rest) last (serial_of n) m h.0 (some_steps s rest) f h.1)

  above_match : (m : Node) → In m ms → In n (above m)
  above_match m i = let h = Matches-in P (serial_of n) steps m i in hits_above P (grown_tree v.rows P keep a.at.rows_of) n steps m a.at.among h.0 h.1

  -- what was open still is, where the innermost isn't closed
  pub still_open : (waiting : Option Serial) (below : ℕ) (vs : List (List ℕ)) → TookUpto P ms waiting below vs → StillOpen v.rows p waiting → IsOpenNow P waiting
  still_open waiting below vs t still s e o io f =
      let u = t.open_in s e in
      let i = (Matches-in P (serial_of n) steps u.0 u.1).0 in
      let same : u.0 ≡ o = same_node v.rows P keep a.at.rows_of u.0 o i io (u.2 ∙ sym f) in
      subst (λ (x : Node). is_closed P x ≡ false) same (still s e P keep n u.0 a.at i (match_kept v p steps P keep n a u.0 u.1) u.2 (above_match u.0 u.1))

  -- the match that was open, where it is closed
  pub shut_match : (waiting : Option Serial) (below : ℕ) (vs : List (List ℕ)) → TookUpto P ms waiting below vs → (q : ℕ) → IsShut v.rows waiting q → (m : Node) × IsUntaken v.rows P keep ms waiting below q m
  shut_match waiting below vs t q h = (
    o.0,
    record {
      at = subst (λ (k : ℕ). NodeAt v.rows P keep k o.0) h.place (node_at v.rows P keep a.at.rows_of h.cell o.0 h.among of);
      among = o.1;
      closed = sym (closed_told v.rows P keep a.at.rows_of h.cell o.0 of) ∙ ap not h.closed;
      serial = h.at_serial ∙ sym o.2;
      comes = inl (h.serial, h.is, sym o.2);
    },
  )
    where
      o : (o : Node) × In o ms × (serial_of o ≡ h.serial.0) × (h.serial.0 < below)
      o = t.open_in h.serial h.is

      of : OfNode P keep h.cell o.0
      of = of_serial v.rows P keep a.at.rows_of h.cell o.0 h.among (Matches-in P (serial_of n) steps o.0 o.1).0 (h.number ∙ sym o.2)

-- ---- open matches are passed

-- so far open matches were passed alone
abbrev pub Passing : View → (k : Taken) → (p : ℕ) → (first at : Option Place) → (now : Option Serial) → Type 0
Passing v k p first at now = (P : Tree) (keep : Node → Bool) (n : Node) (from : ℕ) (vs : List (List ℕ)) → PassesFrom v p k.steps k.waiting first P keep n from vs
    → (b : ℕ) × (from ≤ b) × PassesFrom v p k.steps now at P keep n b vs

pub passing_starts : (v : View) (k : Taken) (p : ℕ) (first : Option Place) → Passing v k p first first k.waiting
passing_starts v k p first P keep n from vs f = (from, omega arith, f)

-- how many serials are left above that of the match that was open
abbrev pub serials_above : (nodes : ℕ) → Option Serial → ℕ
serials_above nodes None = nodes + 1
serials_above nodes (Some s) = nodes - s.0

module _ (v : View) (k : Taken) (p : ℕ) (first : Option Place) (place : Place) (now : Option Serial) (passing : Passing v k p first (Some place) now) where
  module _ (may : MayPass v k p first) where
    passed_may : (b : ℕ) × (may.from ≤ b) × PassesFrom v p k.steps now (Some place) may.tree may.keep may.node b may.values
    passed_may = passing may.tree may.keep may.node may.from may.values may.goes

    pub here_used : InUse v.rows place.0
    here_used = let a = passed_may.2.first_is.at in record { cell = a.cell; among = a.cell_among; place = a.at }

    pub here_goes : (last : Step) → Fits k.steps last → GoesFrom v.rows p last.axis place.0
    here_goes last fits = let f = passed_may.2 in goes_behind v p k.steps may.tree may.keep may.node f.asks last fits place.0 f.first_is.match_at f.first_is.at f.first_is.among

    pub pass_falls : (s : Serial) → SerialIs v.rows place.0 s.0 → serials_above v.nodes (Some s) < serials_above v.nodes now
    pass_falls s is = go passed_may.0 passed_may.2
      where
        go : (b : ℕ) → PassesFrom v p k.steps now (Some place) may.tree may.keep may.node b may.values → serials_above v.nodes (Some s) < serials_above v.nodes now
        go b f =
            let x = f.first_is in
            let e = sym x.at.number ∙ is x.at.cell x.at.cell_among x.at.at in
            let l = match_low v p k.steps may.tree may.keep may.node f.asks x.match_at x.among in
            let c = f.asks.count in
            let h = x.high in
            at now f.took (serial_of x.match_at) e (omega arith) h
          where
            at : (w : Option Serial) → TookUpto may.tree (matches may.tree (serial_of may.node) k.steps) w b may.values → (j : ℕ) → j ≡ s.0 → j < v.nodes → b ≤ j → serials_above v.nodes (Some s) < serials_above v.nodes w
            at None t j e low high = omega arith
            at (Some u) t j e low high = let l = (t.open_in u refl).3 in omega arith

  module _ (s : Serial) (is : SerialIs v.rows place.0 s.0) (P : Tree) (keep : Node → Bool) (n : Node) (from : ℕ) (vs : List (List ℕ)) (f : PassesFrom v p k.steps k.waiting first P keep n from vs) where
    went : (b : ℕ) × (from ≤ b) × PassesFrom v p k.steps now (Some place) P keep n b vs
    went = passing P keep n from vs f

    stop : IsFirstFrom v.rows P keep (matches P (serial_of n) k.steps) went.0 place.0
    stop = went.2.first_is

    number : serial_of stop.match_at ≡ s.0
    number = sym stop.at.number ∙ is stop.at.cell stop.at.cell_among stop.at.at

    -- the match is open,
    pub pass_one : ShutIs v.rows place.0 false → (next : Option Place) → FindsBehindMatch v p place.0 k.steps next → (b : ℕ) × (from ≤ b) × PassesFrom v p k.steps (Some s) next P keep n b vs
    pass_one open_so next behind =
        let r = went.2.asks.at.rows_of in
        let c = sym (shut_told v.rows place.0 false open_so P keep stop.match_at stop.at) in
        let low = went.1 in
        let high = stop.high in (
          suc (serial_of stop.match_at),
          omega arith,
          record {
            asks = went.2.asks;
            first_is = behind P keep n stop.match_at went.2.asks stop.at stop.among;
            took = took_open P r.grown (grown_tree v.rows P keep r) n k.steps now went.0 vs went.2.took went.2.still stop.match_at stop.among c stop.high stop.least s number;
            still = open_now P r.grown (grown_tree v.rows P keep r) n k.steps now went.0 vs went.2.took went.2.still stop.match_at stop.among c stop.high stop.least s number;
          },
        )

    -- or it is closed
    pub pass_closed : serial_at place.0 v.rows ≡ s.0 → ShutIs v.rows place.0 true → IsPassed v P keep (matches P (serial_of n) k.steps) from now s.0 vs (Some place)
    pass_closed e shut =
        let r = went.2.asks.at.rows_of in
        let c = sym (shut_told v.rows place.0 true shut P keep stop.match_at stop.at) in
        let low = went.1 in
        let high = stop.high in
        let top = match_low v p k.steps P keep n went.2.asks stop.match_at stop.among in
        let same = number in
        record {
          took = took_to P r.grown (grown_tree v.rows P keep r) n k.steps now went.0 s.0 vs (omega arith) (omega arith) (λ j i l. let z = stop.least j i l in omega arith) went.2.took;
          next = (stop.match_at, record { at = stop.at; among = stop.among; closed = c; serial = e ∙ sym number; comes = inr (number, went.2.still) });
          high = omega arith;
          here = e;
        }

-- none is left
pub pass_over : (v : View) (k : Taken) (p : ℕ) (first : Option Place) (now : Option Serial) → Passing v k p first None now → (below : ℕ) → below ≡ v.nodes
    → (P : Tree) (keep : Node → Bool) (n : Node) (from : ℕ) (vs : List (List ℕ)) → PassesFrom v p k.steps k.waiting first P keep n from vs → IsPassed v P keep (matches P (serial_of n) k.steps) from now below vs None
pass_over v k p first now passing below e P keep n from vs f =
    let h = passing P keep n from vs f in
    let r = h.2.asks.at.rows_of in
    let low = h.1 in
    let most = h.2.took.most in
    let count = h.2.asks.count in
    let took = took_to P r.grown (grown_tree v.rows P keep r) n k.steps now h.0 below vs (omega arith) (omega arith) (λ j i l. absurd (h.2.first_is j i l)) h.2.took in
    record {
      took = took;
      next = took_all P r.grown (grown_tree v.rows P keep r) n k.steps now below vs (omega arith) took h.2.still;
      high = omega arith;
      here = tt;
    }

-- ---- the next one

module _ (v : View) (k : Taken) (p : ℕ) where
  -- it was open, and is closed by now,
  pub next_shut : (place : Place) → IsShut v.rows k.waiting place.0 → FindsUntaken v k k p (Some place)
  next_shut place h P keep n vs a t = (
    t,
    shut_match v p k.steps P keep n a k.waiting k.below vs t place.0 h,
    subst (λ (w : Option Serial). takes_left v k.below (Some place) ≤ waits_left v w) (sym h.is) (let l = left_most v k.below place in let e = h.at_serial in omega arith),
  )

  module _ (first : Option Place) (finds : FindsMatch v p k.steps k.below first) (still : StillOpen v.rows p k.waiting) where
    passes_from : (P : Tree) (keep : Node → Bool) (n : Node) (vs : List (List ℕ)) → AsksPath v p k.steps P keep n → TookUpto P (matches P (serial_of n) k.steps) k.waiting k.below vs → PassesFrom v p k.steps k.waiting first P keep n k.below vs
    passes_from P keep n vs a t = record { asks = a; first_is = finds P keep n a; took = t; still = still_open v p k.steps P keep n a k.waiting k.below vs t still }

    pub may_pass : MayTake v k p → MayPass v k p first
    may_pass m = record { tree = m.tree; keep = m.keep; node = m.node; from = k.below; values = m.values; goes = passes_from m.tree m.keep m.node m.values m.asks m.took }

    -- or it is the first closed one of the others
    pub next_new : (l : Taken) (r : Option Place) → PassesOpen v k l p first r → FindsUntaken v k l p r
    next_new l r passes P keep n vs a t =
        let x = passes P keep n k.below vs (passes_from P keep n vs a t) in
        let left = left_new v l.below r x.here in
        let most = waits_most v k.waiting in
        (x.took, x.next, omega arith)

-- ---- it is taken

module _ (v : View) (k : Taken) (p : ℕ) (place : Place) (s : Serial) (is : SerialIs v.rows place.0 s.0) where
  -- its serial
  module _ (P : Tree) (keep : Node → Bool) (n m : Node) (u : IsUntaken v.rows P keep (matches P (serial_of n) k.steps) k.waiting k.below place.0 m) where
    number_of : serial_of m ≡ s.0
    number_of = sym u.at.number ∙ is u.at.cell u.at.cell_among u.at.at

  -- it was open: the next one above it takes its place
  module _ (waits : k.waiting ≡ Some s) (found : Option Serial) (up : TellsAbove v k p place.0 found) where
    took_above : (P : Tree) (keep : Node → Bool) (n m : Node) (vs : List (List ℕ)) → AsksPath v p k.steps P keep n → TookUpto P (matches P (serial_of n) k.steps) k.waiting k.below vs
        → IsUntaken v.rows P keep (matches P (serial_of n) k.steps) k.waiting k.below place.0 m → TookUpto P (matches P (serial_of n) k.steps) found k.below (value P m ∷ vs)
    took_above P keep n m vs a t u =
        let r = a.at.rows_of in
        took_back P r.grown (grown_tree v.rows P keep r) n k.steps vs m u.among u.closed s (sym (number_of P keep n m u)) found (up P keep n m a u).0 k.below
        (subst (λ (w : Option Serial). TookUpto P (matches P (serial_of n) k.steps) w k.below vs) waits t)

    pub may_above : MayTakeAt v k p place.0 → MayTake v (record k { waiting = found }) p
    may_above m = record {
      tree = m.may.tree;
      keep = m.may.keep;
      node = m.may.node;
      values = value m.may.tree m.match_at ∷ m.may.values;
      asks = m.may.asks;
      took = took_above m.may.tree m.may.keep m.may.node m.match_at m.may.values m.may.asks m.may.took m.untaken;
    }

    pub takes_above : (l : Taken) (r : Option Place) → FindsUntaken v (record k { waiting = found }) l p r → TakesUntaken v k l p place r
    takes_above l r finds P keep n m vs a t u =
        let h = finds P keep n (value P m ∷ vs) a (took_above P keep n m vs a t u) in
        (h.0, h.1, falls P keep n m vs a t u h.2)
      where
        fewer : (w : Option Serial) (j : ℕ) → ((x : Serial) → w ≡ Some x → x.0 < j) → waits_left v w < v.nodes + 1 + j
        fewer None j lower = omega arith
        fewer (Some x) j lower = let l = lower x refl in omega arith

        falls : (P : Tree) (keep : Node → Bool) (n m : Node) (vs : List (List ℕ)) → AsksPath v p k.steps P keep n → TookUpto P (matches P (serial_of n) k.steps) k.waiting k.below vs
            → IsUntaken v.rows P keep (matches P (serial_of n) k.steps) k.waiting k.below place.0 m → takes_left v l.below r ≤ waits_left v found → takes_left v l.below r < takes_left v k.below (Some place)
        falls P keep n m vs a t u le =
            let e = u.serial in
            let f = number_of P keep n m u in
            let low = (t.open_in s waits).3 in
            let left = left_low v k.below place (omega arith) in
            let few = fewer found (serial_of m) (up P keep n m a u).1 in
            omega arith

  -- it was new: the search goes on behind it
  module _ (other : k.waiting ≡ Some s → ⊥) (first : Option Place) (behind : FindsBehindMatch v p place.0 k.steps first) where
    is_new : (P : Tree) (keep : Node → Bool) (n m : Node) → IsUntaken v.rows P keep (matches P (serial_of n) k.steps) k.waiting k.below place.0 m → (serial_of m ≡ k.below) × IsOpenNow P k.waiting
    is_new P keep n m u = elim u.comes [
      | inl w ↦ absurd (other (w.1 ∙ ap (λ (x : Serial). Some x) (same_serial w.0 s (w.2 ∙ number_of P keep n m u))))
      | inr h ↦ h
    ]

    took_new : (P : Tree) (keep : Node → Bool) (n m : Node) (vs : List (List ℕ)) → AsksPath v p k.steps P keep n → TookUpto P (matches P (serial_of n) k.steps) k.waiting k.below vs
        → IsUntaken v.rows P keep (matches P (serial_of n) k.steps) k.waiting k.below place.0 m → PassesFrom v p k.steps k.waiting first P keep n (suc (serial_of m)) (value P m ∷ vs)
    took_new P keep n m vs a t u =
        let r = a.at.rows_of in
        let h = is_new P keep n m u in
        record {
          asks = a;
          first_is = behind P keep n m a u.at u.among;
          took = took_one P r.grown (grown_tree v.rows P keep r) n k.steps vs m u.among u.closed k.waiting (subst (λ (b : ℕ). TookUpto P (matches P (serial_of n) k.steps) k.waiting b vs) (sym h.0) t);
          still = h.1;
        }

    pub may_behind : MayTakeAt v k p place.0 → MayPass v k p first
    may_behind m = record {
      tree = m.may.tree;
      keep = m.may.keep;
      node = m.may.node;
      from = suc (serial_of m.match_at);
      values = value m.may.tree m.match_at ∷ m.may.values;
      goes = took_new m.may.tree m.may.keep m.may.node m.match_at m.may.values m.may.asks m.may.took m.untaken;
    }

    pub takes_behind : (l : Taken) (r : Option Place) → PassesOpen v k l p first r → TakesUntaken v k l p place r
    takes_behind l r passes P keep n m vs a t u =
        let x = passes P keep n (suc (serial_of m)) (value P m ∷ vs) (took_new P keep n m vs a t u) in
        let h = is_new P keep n m u in
        let e = u.serial in
        let f = h.0 in
        let c = a.count in
        let top = match_low v p k.steps P keep n a m u.among in
        let left = left_high v k.below place (omega arith) in
        let later = left_new v l.below r x.here in
        let high = x.high in
        (x.took, x.next, omega arith)

-- ---- what may be done with it

pub at_used : (v : View) (k : Taken) (p q : ℕ) → MayTakeAt v k p q → InUse v.rows q
at_used v k p q m = let a = m.untaken.at in record { cell = a.cell; among = a.cell_among; place = a.at }

pub at_goes : (v : View) (k : Taken) (p q : ℕ) → MayTakeAt v k p q → Fits k.steps k.last → GoesFrom v.rows p k.last.axis q
at_goes v k p q m fits = goes_behind v p k.steps m.may.tree m.may.keep m.may.node m.may.asks k.last fits q m.match_at m.untaken.at m.untaken.among

-- ---- the next one above

-- without steps there is none
pub none_above : (v : View) (k : Taken) (p q : ℕ) → k.steps ≡ [] → TellsAbove v k p q None
none_above v k p q e P keep n m a u = (subst (λ (s : List Step). NextAbove s n m None) (sym e) none, λ s f. absurd (cc))
  where
    here : serial_of m ≡ serial_of n
    here = self_hit P n m (subst (λ (s : List Step). In m (matches P (serial_of n) s)) e u.among)

    none : NextAbove [] n m None
    none j i other h = other (eqb-true (serial_of j) (serial_of n) h ∙ sym here)

pub above_told : (v : View) (k : Taken) (p q : ℕ) (path : List Step) → path ≡ k.steps → (k.steps ≡ [] → ⊥) → (found : Option Serial) → FindsUpwards v.rows path p q found
    → ((s : Serial) → found ≡ Some s → s.0 < serial_at q v.rows) → TellsAbove v k p q found
above_told v k p q path e some found up lower P keep n m a u =
    let f = subst (λ (s : List Step). FindsUpwards v.rows s p q found) e up in (
      f P keep n m a.at u.at (above_match v p k.steps P keep n a m u.among) (above_node v p k.steps some P keep n a m u.among) some,
      λ s g. let l = lower s g in let h = u.serial in omega arith,
    )

pub above_ok : {E : Type 0} (v : View) (k : Taken) (p q : ℕ) (path : List Step) → path ≡ k.steps → (k.steps ≡ [] → ⊥) → (r : Result (Option Serial) E) → IfOk r (λ found. FindsUpwards v.rows path p q found)
    → IfOk r (λ found. (s : Serial) → found ≡ Some s → s.0 < serial_at q v.rows) → IfOk r (λ found. TellsAbove v k p q found)
above_ok v k p q path e some (Ok found) up lower = above_told v k p q path e some found up lower
above_ok v k p q path e some (Err x) up lower = tt
