-- How calls keep the order of output and trace, one after the other.
use Rattle.std.proofs.Common.{◌≡◌, ◌∙◌, ◌++◌, ◌≤◌, ℕ, suc, List, [], length, subst, sym, append_assoc, arith}
use Rattle.std.proofs.lemmas.List.{append-nil}
use Rattle.gcx_model.specs.Core.{PlanTree}
use Rattle.gcx_model.specs.Demand.{Line, text_of_lines}
use Rattle.gcx_model.specs.Tree.{Tree}
use Rattle.outside.specs.Places.{PlaceView}
use Rattle.run_part.specs.Actors.{Goes, all_of}
use Rattle.run_part.specs.Flows.{SameOutlets, flows}
use Rattle.run_part.specs.Order.{OrderHolds, KeepsOrder, bytes_told}
use Rattle.run_part.specs.Telling.{lines_to}
use Rattle.run_part.specs.View.{LinesView}
use Rattle.run_part.specs.declared.pace.Work.{Work}
use Rattle.run_part.proofs.BytesTold.{told_acts}
use Rattle.run_part.proofs.InOrder.{flowed_on, order_at, order_more}
use Rattle.run_part.proofs.TellingActs.{lines_split}

module _ {N C S W : Type 0} (seen : S → LinesView) (sinks : W → ℕ → PlaceView) where
  -- nothing was written
  pub keeps_waiting : (a : Work N C) (l : S) (t : W) (b : Work N C) (m : S) (ms : List Line) → SameOutlets (seen l) (seen m) → KeepsOrder seen sinks (a, l, t) (b, m, t) ms
  keeps_waiting a l t b m ms same = λ base0 base1 bytes ls f i. order_at (sinks t) (seen l) (seen m) base0 base1 (ls ++ ms) same (order_more (sinks t) (seen l) base0 base1 ls ms i)

  module _ (a : Work N C) (l : S) (t : W) (b : Work N C) (m : S) (u : W) (ms : List Line) (k : KeepsOrder seen sinks (a, l, t) (b, m, u) ms) where
    pub keeps_as : (ns : List Line) → ms ≡ ns → KeepsOrder seen sinks (a, l, t) (b, m, u) ns
    keeps_as ns e = subst (λ (q : List Line). KeepsOrder seen sinks (a, l, t) (b, m, u) q) e k

    -- and then nothing more
    pub keeps_told : (c : Work N C) (n : S) (ns : List Line) → SameOutlets (seen m) (seen n) → KeepsOrder seen sinks (a, l, t) (c, n, u) (ms ++ ns)
    keeps_told c n ns same = λ base0 base1 bytes ls f i.
        order_at (sinks u) (seen m) (seen n) base0 base1 (ls ++ (ms ++ ns)) same
        (subst (λ (q : List Line). OrderHolds (sinks u) (seen m) base0 base1 q) (append_assoc ls ms ns) (order_more (sinks u) (seen m) base0 base1 (ls ++ ms) ns (k base0 base1 bytes ls f i)))

    module _ (more : List ℕ) (out : (flows seen sinks (b, m, u)).out ≡ (flows seen sinks (a, l, t)).out ++ more) (trace : (flows seen sinks (b, m, u)).trace ≡ (flows seen sinks (a, l, t)).trace ++ text_of_lines ms) (fewer : bytes_told ms ≤ length more)
        (c : Work N C) (n : S) (v : W) where
      -- or another call
      pub keeps_then : (ns : List Line) → KeepsOrder seen sinks (b, m, u) (c, n, v) ns → KeepsOrder seen sinks (a, l, t) (c, n, v) (ms ++ ns)
      keeps_then ns h = λ base0 base1 bytes ls f i.
          subst (λ (q : List Line). OrderHolds (sinks v) (seen n) base0 base1 q) (append_assoc ls ms ns)
          (h base0 base1 (bytes ++ more) (ls ++ ms) (flowed_on (flows seen sinks (a, l, t)) (flows seen sinks (b, m, u)) base0 base1 bytes more ls ms f out trace fewer) (k base0 base1 bytes ls f i))

      -- behind which no more flowed
      pub keeps_spilled : KeepsOrder seen sinks (b, m, u) (c, n, v) [] → KeepsOrder seen sinks (a, l, t) (c, n, v) ms
      keeps_spilled h = subst (λ (q : List Line). KeepsOrder seen sinks (a, l, t) (c, n, v) q) (append-nil ms) (keeps_then [] h)

  -- lines that tell of no byte, and then a spill
  pub keeps_lines : (a : Work N C) (l : S) (t : W) (b : Work N C) (m : S) (ms : List Line) → SameOutlets (seen l) (seen m)
      → (flows seen sinks (b, m, t)).out ≡ (flows seen sinks (a, l, t)).out → (flows seen sinks (b, m, t)).trace ≡ (flows seen sinks (a, l, t)).trace ++ text_of_lines ms → bytes_told ms ≡ 0
      → (c : Work N C) (n : S) (v : W) → KeepsOrder seen sinks (b, m, t) (c, n, v) [] → KeepsOrder seen sinks (a, l, t) (c, n, v) ms
  keeps_lines a l t b m ms same out trace none c n v h =
      keeps_spilled a l t b m t ms (keeps_waiting a l t b m ms same) [] (out ∙ sym (append-nil (flows seen sinks (a, l, t)).out)) trace (omega (arith, none)) c n v h

  -- ---- actions

  module _ (plan : PlanTree) (P : Tree) (k j : ℕ) (behind : k ≤ j) (a : Work N C) (l : S) (t : W) (b : Work N C) (m : S) (u : W) (h : KeepsOrder seen sinks (a, l, t) (b, m, u) (lines_to plan P k j)) where
    -- those that are left may have been told
    pub keeps_left : j ≤ all_of plan P → (c : Work N C) (n : S) → SameOutlets (seen m) (seen n) → KeepsOrder seen sinks (a, l, t) (c, n, u) (lines_to plan P k (all_of plan P))
    keeps_left there c n same =
        subst (λ (q : List Line). KeepsOrder seen sinks (a, l, t) (c, n, u) q) (sym (lines_split plan P k j (all_of plan P) behind there))
        (keeps_told a l t b m u (lines_to plan P k j) h c n (lines_to plan P j (all_of plan P)) same)

    -- one more was taken, and then there was a spill
    pub keeps_acted : (c : Work N C) (n : S) → SameOutlets (seen m) (seen n)
        → Goes plan P k P (suc j) (flows seen sinks (a, l, t)).out (flows seen sinks (c, n, u)).out → (flows seen sinks (c, n, u)).trace ≡ (flows seen sinks (a, l, t)).trace ++ text_of_lines (lines_to plan P k (suc j))
        → (d : Work N C) (o : S) (v : W) → KeepsOrder seen sinks (c, n, u) (d, o, v) [] → KeepsOrder seen sinks (a, l, t) (d, o, v) (lines_to plan P k (suc j))
    keeps_acted c n same goes told d o v spilled =
        let one : KeepsOrder seen sinks (a, l, t) (c, n, u) (lines_to plan P k (suc j))
        = subst (λ (q : List Line). KeepsOrder seen sinks (a, l, t) (c, n, u) q) (sym (lines_split plan P k j (suc j) behind (omega arith)))
        (keeps_told a l t b m u (lines_to plan P k j) h c n (lines_to plan P j (suc j)) same) in
        keeps_spilled a l t c n u (lines_to plan P k (suc j)) one goes.more goes.grew told (told_acts plan P k (suc j) goes.more (omega (arith, behind)) goes.written) d o v spilled
