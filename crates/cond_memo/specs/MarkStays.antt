-- What a mark tells stays while tokens come: the proof of a law.
use Rattle.std.proofs.Common.{◌≡◌, ◌<◌, ◌≤◌, ℕ, Bool, true, false, List, ◌++◌, length, Option, Some, None, sym, ◌∙◌, ap, subst, inl, inr, ◌⊎◌, length-append}
use Rattle.std.proofs.Math.Nat.{le-add_right, lt_irrefl, lt_of_le_of_lt, lt_of_lt_of_le}
use Rattle.std.specs.List.{filter}
use Rattle.gcx_base.specs.declared.ids.Serial.{Serial}
use Rattle.gcx_base.specs.declared.steps.Step.{Step}
use Rattle.gcx_model.specs.Tree.{Node, serial_of, Tree, opening}
use Rattle.gcx_model.specs.Paths.{hits, matches}
use Rattle.gcx_model.specs.Members.{In}
use Rattle.gcx_model.specs.Values.{Bytes, compare}
use Rattle.gcx_model.specs.declared.truth.Truth.{Truth}
use Rattle.gcx_model.specs.declared.truth.Truth.TheVariants.{True, False, Unknown}
use Rattle.gcx_model.specs.Growth.{Leads}
use Rattle.tree_laws.proofs.Lists.{In-left, In-append, In-filter}
use Rattle.tree_laws.proofs.Matches.{Matches-in}
use Rattle.move_laws.proofs.Keeping.{closed_stays}
use Rattle.run_laws.proofs.Feeds.{nodes_grow, truth_stays}
use Rattle.cond_memo.specs.Marks.{AreMarks, question, known, does, is_settled, WasOpen, Tried, Knows, IsMark, StandFor}
use Rattle.cond_memo.specs.Pairs.{IsPair}
use Rattle.cond_memo.specs.TakenStays.{taken_stays}
use Rattle.cond_eval.specs.Literals.{literal_value}
use Rattle.cond_memo.specs.declared.mark.Ask.{Ask}
use Rattle.cond_memo.specs.declared.mark.Mark.{Mark}
use Rattle.cond_memo.specs.declared.marked.Marked.{Marked}
use Rattle.cond_memo.specs.declared.pair.Pair.{Pair}

module _ (P Q : Tree) (lo : Leads opening P) (l : Leads P Q) where
  stays_in : (n : Node) → In n P.nodes → In n Q.nodes
  stays_in n i = let g = nodes_grow P Q lo l in subst (λ (ns : List Node). In n ns) (sym g.1) (In-left n P.nodes g.0 i)

  longer : length P.nodes ≤ length Q.nodes
  longer = let g = nodes_grow P Q lo l in subst (λ (k : ℕ). length P.nodes ≤ k) (sym (ap (λ (ns : List Node). length ns) g.1 ∙ length-append P.nodes g.0)) (le-add_right (length P.nodes) (length g.0))

  settled_stays : (ask : Option Ask) (j : Node) → In j P.nodes → is_settled P ask j ≡ true → does P ask j ≡ false → (is_settled Q ask j ≡ true) × (does Q ask j ≡ false)
  settled_stays None j i s d = (s, d)
  settled_stays (Some a) j i s d =
      let c = closed_stays P Q lo l j i s in
      (c.0, ap (λ (v : List ℕ). compare a.rel (Bytes v) (literal_value a.literal)) c.2 ∙ d)

  was_open_stays : (waiting : Option Serial) (j : Node) → WasOpen P waiting j → WasOpen Q waiting j
  was_open_stays None j w = absurd w
  was_open_stays (Some s) j w = (w.0, stays_in w.0 w.1, w.2, w.3)

  tried_stays : (ask : Option Ask) (n : ℕ) (steps : List Step) (waiting : Option Serial) (upto : ℕ) → upto < length P.nodes → Tried P ask (matches P n steps) waiting upto → Tried Q ask (matches Q n steps) waiting upto
  tried_stays ask n steps waiting upto below t = record {
    each = λ j i low. each j (In-append j (matches P n steps) (filter (hits n steps) g.0) (subst (λ (ns : List Node). In j ns) (g.3 n steps) i)) low;
    open_in = λ s e. let o = t.open_in s e in (o.0, subst (λ (ns : List Node). In o.0 ns) (sym (g.3 n steps)) (In-left o.0 (matches P n steps) (filter (hits n steps) g.0) o.1), o.2, o.3);
    no_ask = t.no_ask;
  }
    where
      g : (more : List Node) × (Q.nodes ≡ P.nodes ++ more) × ((m : Node) → In m more → length P.nodes ≤ serial_of m) × ((n : ℕ) (path : List Step) → matches Q n path ≡ matches P n path ++ filter (hits n path) more)
      g = nodes_grow P Q lo l

      each : (j : Node) → In j (matches P n steps) ⊎ In j (filter (hits n steps) g.0) → serial_of j ≤ upto → ((is_settled Q ask j ≡ true) × (does Q ask j ≡ false)) ⊎ WasOpen Q waiting j
      each j (inl i) low = elim (t.each j i low) [
        | inl d ↦ inl (settled_stays ask j (Matches-in P n steps j i).0 d.0 d.1)
        | inr w ↦ inr (was_open_stays waiting j w)
      ]
      each j (inr i) low = absurd (lt_irrefl (serial_of j) (lt_of_le_of_lt low (lt_of_lt_of_le below (g.2 j (In-filter (hits n steps) j g.0 i).0))))

  abbrev IsKnown : Truth → Type 0
  IsKnown True = Unit {0}
  IsKnown False = Unit {0}
  IsKnown Unknown = ⊥

  is_known : (v : Bool) → known (Some v) ≡ Unknown → ⊥
  is_known false e = subst IsKnown e tt
  is_known true e = subst IsKnown e tt

  knows_stays : (m : Mark) (n : Node) → In n P.nodes → Knows m P n → Knows m Q n
  knows_stays m n i k = record {
    least = k.least;
    most = lt_of_lt_of_le k.most longer;
    truth = λ v e. let t = k.truth v e in truth_stays P Q lo l (question m.steps m.ask) (λ x. n) (λ r j. i) (λ u. is_known v (sym t ∙ u)) ∙ t;
    tried = λ e some. tried_stays m.ask (serial_of n) m.steps m.waiting m.upto.0 k.most (k.tried e some);
  }

  mark_stays : (m : Mark) → IsMark m P → IsMark m Q
  mark_stays m k = record {
    fits = k.fits;
    literal = k.literal;
    told = λ s e. let t = k.told s e in (t.0, stays_in t.0 t.1, t.2, knows_stays m t.0 t.1 t.3);
  }

  marks_stay : (ms : List Mark) → StandFor ms P → StandFor ms Q
  marks_stay ms k = record { each = λ m i. mark_stays m (k.each m i); once = k.once }

  pair_stays : (q : Pair) → IsPair q P → IsPair q Q
  pair_stays q k = record {
    lefts = k.lefts;
    rights = k.rights;
    took = k.took;
    left = taken_stays P Q lo l q.left k.lefts k.left;
    right = taken_stays P Q lo l q.right k.rights k.right;
  }

  -- what marks and pairs tell stays while tokens come
  pub marked_stays : (k : Marked) → AreMarks k P → AreMarks k Q
  marked_stays k is = (marks_stay k.marks.items is.0, record { each = λ q i. pair_stays q (is.1.each q i); once = is.1.once })
