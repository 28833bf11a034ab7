-- What a loop learns of its matches by a search among the rows.
use Rattle.std.proofs.Common.{◌≡◌, ◌<◌, zero, suc, ℕ, true, List, [], ◌∷◌, length, sym, ◌∙◌, ap, subst, arith}
use Rattle.std.specs.Prelude.{nat_lt}
use Rattle.std.proofs.lemmas.Bool.{lt-ltb}
use Rattle.gcx_base.specs.declared.steps.Step.{Step}
use Rattle.gcx_model.specs.Tree.{Node, serial_of}
use Rattle.gcx_model.specs.Paths.{matches}
use Rattle.gcx_model.specs.Members.{In}
use Rattle.gcx_model.specs.Past.{Past}
use Rattle.gcx_model.specs.Points.{later}
use Rattle.base_laws.proofs.Members.{filter_all}
use Rattle.tree_laws.proofs.Matches.{Numbered-high}
use Rattle.past_laws.proofs.Bases.{is_grown}
use Rattle.move_laws.proofs.Keeping.{matches_kept}
use Rattle.buf_tree.specs.Shape.{Cell, num}
use Rattle.buf_tree.specs.Match.{Unreached, FirstReached}
use Rattle.buf_tree.specs.View.{View}
use Rattle.buf_tree.specs.Stands.{StandsFor}
use Rattle.cond_eval.specs.Reads.{NodeAt}
use Rattle.pull_eval.specs.Position.{KnowsNext, IsUpTo}
use Rattle.pull_eval.specs.Rounds.{from_seen, Learnt}
use Rattle.pull_eval.specs.declared.block.Next.{Next}
use Rattle.pull_eval.specs.declared.block.Next.TheVariants.{Unsought, Found, NoneUpTo}
use Rattle.cond_eval.proofs.Rows.{OfNode, node_for, serial_told, at_placed}
use Rattle.cond_eval.proofs.RowSteps.{beyond, kept_matches, found, not_found, first_found, none_found, later_found, none_later}
use Rattle.pull_eval.proofs.HeldRows.{holds, held_rows}

module _ (v : View) (past : Past) (s : StandsFor v past) where
  pub node_below : (n : Node) → In n past.tree.nodes → serial_of n < v.nodes
  node_below n i = let h = Numbered-high 0 past.tree.nodes (is_grown past s.is_past).numbered n i in let e : v.nodes ≡ length past.tree.nodes = s.nodes in omega arith

  pub row_below : (c : Cell) → In c v.rows → num c < v.nodes
  row_below c i =
      let n = node_for v.rows past.tree (holds past) (held_rows v past s) c i in
      let e = serial_told v.rows past.tree (holds past) (held_rows v past s) c n.0 n.1 in
      let l = node_below n.0 n.1.among in
      omega arith

  -- the next match that a search finds behind the present one
  pub learnt_next : (c : Cell) (a n : Node) (t : Step) (next : Next) → In c v.rows → OfNode past.tree (holds past) c a → In n past.tree.nodes → (after : ℕ) → after ≡ serial_of n
      → ((m : Node) → In m (later n (matches past.tree (serial_of a) (t ∷ []))) → holds past m ≡ true) → Learnt v c t after next → KnowsNext v.rows (later n (matches past.tree (serial_of a) (t ∷ []))) next × IsUpTo past.tree n next
  learnt_next c a n t Unsought i o j after e kept l = (tt, tt)
  learnt_next c a n t (Found p) i o j after e kept l =
      let f = later_found v.rows past.tree (holds past) (held_rows v past s) c a n t after p.0 i o e kept l.first in
      ((f.0, f.1, f.2, at_placed v.rows past.tree (holds past) p.0 f.0 f.3), tt)
  learnt_next c a n t (NoneUpTo u) i o j after e kept l =
      let f = none_later v.rows past.tree (holds past) (held_rows v past s) c a n t after i o e kept l.0 in
      let g = l.1 in
      let h = node_below n j in
      let k : v.nodes ≡ length past.tree.nodes = s.nodes in
      (λ m q. absurd (subst (λ (z : List Node). In m z) f q), (omega arith, omega arith))

  beyond_all : (after : ℕ) (ms : List Node) → ((m : Node) → In m ms → after < serial_of m) → beyond after ms ≡ ms
  beyond_all after ms h = filter_all (λ m. nat_lt after (serial_of m)) ms (λ m i. lt-ltb after (serial_of m) (h m i))

  module _ (c : Cell) (a : Node) (t : Step) (i : In c v.rows) (o : OfNode past.tree (holds past) c a) (kept : (m : Node) → In m (matches past.tree (serial_of a) (t ∷ [])) → holds past m ≡ true) where
    abbrev ms : List Node
    ms = matches past.tree (serial_of a) (t ∷ [])

    same : (after : ℕ) → ((m : Node) → In m ms → after < serial_of m) → beyond after (kept_matches past.tree (holds past) (serial_of a) t) ≡ ms
    same after h = ap (beyond after) (matches_kept past.tree (holds past) (serial_of a) (t ∷ []) kept) ∙ beyond_all after ms h

    -- the first match of all, of which none has a serial up to the one that was seen last
    pub first_seen : (seen p : ℕ) → ((m : Node) → In m ms → seen < serial_of m) → FirstReached v.rows c t (from_seen c seen) p → (m : Node) × (rest : List Node) × (ms ≡ m ∷ rest) × NodeAt v.rows past.tree (holds past) p m
    first_seen zero p h f = first_found v.rows past.tree (holds past) (held_rows v past s) c a t p i o kept f
    first_seen (suc k) p h f =
        let g = found v.rows past.tree (holds past) (held_rows v past s) c a t (suc k) p i o f in
        (g.0, g.1, sym (same (suc k) h) ∙ g.2, g.3)

    pub none_seen_yet : (seen : ℕ) → ((m : Node) → In m ms → seen < serial_of m) → Unreached v.rows c t (from_seen c seen) → ms ≡ []
    none_seen_yet zero h f = none_found v.rows past.tree (holds past) (held_rows v past s) c a t i o kept f
    none_seen_yet (suc k) h f = sym (same (suc k) h) ∙ not_found v.rows past.tree (holds past) (held_rows v past s) c a t (suc k) i o f
