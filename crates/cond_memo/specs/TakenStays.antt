-- Which matches of a path were taken stays right while tokens come: the proof of a law.
use Rattle.std.proofs.Common.{◌≡◌, ◌<◌, ◌≤◌, ℕ, true, List, ◌++◌, length, Option, Some, None, sym, ◌∙◌, ap, subst, inl, inr, length-append, arith}
use Rattle.std.specs.List.{filter}
use Rattle.gcx_base.specs.declared.ids.Serial.{Serial}
use Rattle.gcx_base.specs.declared.steps.Step.{Step}
use Rattle.gcx_model.specs.Growth.{Leads}
use Rattle.gcx_model.specs.Tree.{Node, serial_of, Tree, opening, is_closed}
use Rattle.gcx_model.specs.Paths.{hits, matches, value}
use Rattle.gcx_model.specs.Members.{In}
use Rattle.tree_laws.proofs.Lists.{In-left, In-append, In-filter}
use Rattle.tree_laws.proofs.Matches.{Matches-in}
use Rattle.move_laws.proofs.Keeping.{closed_stays}
use Rattle.run_laws.proofs.Feeds.{nodes_grow}
use Rattle.cond_memo.specs.Waiting.{WasOpen}
use Rattle.cond_memo.specs.Taking.{IsTaken, TookUpto}
use Rattle.cond_memo.specs.declared.taken.Taken.{Taken}

module _ (P Q : Tree) (lo : Leads opening P) (l : Leads P Q) where
  grows : (more : List Node) × (Q.nodes ≡ P.nodes ++ more) × ((m : Node) → In m more → length P.nodes ≤ serial_of m) × ((n : ℕ) (path : List Step) → matches Q n path ≡ matches P n path ++ filter (hits n path) more)
  grows = nodes_grow P Q lo l

  stays_in : (n : Node) → In n P.nodes → In n Q.nodes
  stays_in n i = subst (λ (ns : List Node). In n ns) (sym grows.1) (In-left n P.nodes grows.0 i)

  was_open_stays : (waiting : Option Serial) (j : Node) → WasOpen P waiting j → WasOpen Q waiting j
  was_open_stays None j w = absurd w
  was_open_stays (Some s) j w = (w.0, stays_in w.0 w.1, w.2, w.3)

  module _ (n : ℕ) (steps : List Step) where
    match_stays : (j : Node) → In j (matches P n steps) → In j (matches Q n steps)
    match_stays j i = subst (λ (ns : List Node). In j ns) (sym (grows.3 n steps)) (In-left j (matches P n steps) (filter (hits n steps) grows.0) i)

    -- an early match was one before
    match_was : (below : ℕ) → below ≤ length P.nodes → (j : Node) → In j (matches Q n steps) → serial_of j < below → In j (matches P n steps)
    match_was below most j i low = elim (In-append j (matches P n steps) (filter (hits n steps) grows.0) (subst (λ (ns : List Node). In j ns) (grows.3 n steps) i)) [
      | inl k ↦ k
      | inr k ↦ (let h = grows.2 j (In-filter (hits n steps) j grows.0 k).0 in absurd (omega arith))
    ]

    still_closed : (j : Node) → In j (matches P n steps) → is_closed P j ≡ true → (is_closed Q j ≡ true) × (value Q j ≡ value P j)
    still_closed j i c = let s = closed_stays P Q lo l j (Matches-in P n steps j i).0 c in (s.0, s.2)

    pub took_stays : (waiting : Option Serial) (below : ℕ) (vs : List (List ℕ)) → TookUpto P (matches P n steps) waiting below vs → TookUpto Q (matches Q n steps) waiting below vs
    took_stays waiting below vs t = record {
      most =
          let m = t.most in
          let e = ap (λ (ns : List Node). length ns) grows.1 ∙ length-append P.nodes grows.0 in
          omega arith;
      each = λ j i low.
          let k = match_was below t.most j i low in
          elim (t.each j k low) [
            | inl d ↦ (let c = still_closed j k d.0 in inl (c.0, subst (λ (v : List ℕ). In v vs) (sym c.1) d.1))
            | inr w ↦ inr (was_open_stays waiting j w)
          ];
      open_in = λ s e. let o = t.open_in s e in (o.0, match_stays o.0 o.1, o.2, o.3);
      closed = λ v i. let j = t.closed v i in let c = still_closed j.0 j.1 j.2 in (j.0, match_stays j.0 j.1, c.0, c.1 ∙ j.3);
    }

  pub taken_stays : (t : Taken) (vs : List (List ℕ)) → IsTaken t P vs → IsTaken t Q vs
  taken_stays t vs k = record {
    fits = k.fits;
    none = k.none;
    told = λ s e. let h = k.told s e in (h.0, stays_in h.0 h.1, h.2, took_stays (serial_of h.0) t.steps t.waiting t.below vs h.3);
  }
