-- What is looked at for two nodes tells from where a loop goes on.
use Rattle.std.proofs.Common.{◌≡◌, ℕ, Bool, true, List, [], ◌∷◌, Some, None, sym, ◌∙◌, subst}
use Rattle.gcx_base.specs.declared.ids.Serial.{Serial}
use Rattle.gcx_base.specs.declared.steps.Step.{Step}
use Rattle.gcx_model.specs.Tree.{Node, serial_of, Tree, is_closed}
use Rattle.gcx_model.specs.Paths.{matches}
use Rattle.gcx_model.specs.Members.{In}
use Rattle.buf_tree.specs.Shape.{Cell}
use Rattle.pass_laws.specs.ValueLists.{IsValueAt}
use Rattle.cond_eval.specs.Comparing.{KeepsMatches}
use Rattle.cond_eval.specs.Reads.{NodeAt}
use Rattle.cond_eval.proofs.Rows.{same_node}
use Rattle.pull_eval.specs.Turns.{Leaps, Lists, Chosen, IsTurns, KeepsTurns, Meets, TurnsToNode, Chooses, turns_at}
use Rattle.pull_eval.specs.Leaps.{Looks}
use Rattle.pull_eval.specs.declared.turns.Turns.{Turns}
use Rattle.pull_eval.specs.declared.turns.Leap.{Leap}
use Rattle.pull_eval.proofs.Leaping.{leaps_weaken}

-- of the same step and the same paths
pub record SamePaths (t u : Turns) : Type 0 where
  pub step : u.step.now ≡ t.step.now
  pub own : u.own.now ≡ t.own.now
  pub other : u.other.now ≡ t.other.now

module _ (rows : List Cell) (t u : Turns) (same : SamePaths t u) (p : ℕ) (turned : TurnsToNode rows t u p) where
  module _ (P : Tree) (keep : Node → Bool) (a : Node) (at : NodeAt rows P keep p a) (closed : is_closed P a ≡ true) (keeps : KeepsTurns P keep t a) (is : IsTurns rows P t) where
    done : IsTurns rows P u × ((s : Serial) × (u.of ≡ Some s) × (s.0 ≡ serial_of a))
    done = turned P keep a at closed keeps is

    is_node : (n : Node) → In n P.nodes → serial_of n ≡ done.1.0.0 → n ≡ a
    is_node n i e = same_node rows P keep at.rows_of n a i at.among (e ∙ done.1.2)

    lists : Lists rows P u a
    lists = let k = done.0.lists done.1.0 done.1.1 in subst (λ (n : Node). Lists rows P u n) (is_node k.0 k.2.among k.1) k.2

  -- of a loop that begins the first match
  pub looks_first : (q o : ℕ) (l : Leap) → ((rows : List Cell) (P : Tree) (a : Node) → Lists rows P u a → Leaps rows (turns_at P u a) (λ j. ⊥) 0 l) → Looks rows t u p q o None l
  looks_first q o l first P keep a b at closed keeps bt bclosed number kb is = (
    (done P keep a at closed keeps is).0,
    subst (λ (s : Step). Leaps rows (matches P (serial_of a) (s ∷ [])) (λ j. ⊥) 0 l) same.step (first rows P a (lists P keep a at closed keeps is)),
  )

  -- and else the next one with a value of both operands
  module _ (w : Turns) (on : SamePaths u w) (q : ℕ) (o : Serial) (chooses : Chooses rows u w q o) where
    module _ (from : Serial) (l : Leap) (next : (rows : List Cell) (P : Tree) (a b : Node) → Chosen rows P w a b → Leaps rows (turns_at P w a) (λ j. Meets P w b j → ⊥) from.0 l) where
      pub looks_from : Looks rows t w p q o.0 (Some from) l
      looks_from P keep a b at closed keeps bt bclosed number kb is =
          let d = done P keep a at closed keeps is in
          let c = chooses P keep b bt bclosed number (subst (λ (z : List Step). KeepsMatches P keep b z) (sym same.other) kb) d.0 in
          let k = c.0.chosen d.1.0 o (c.1 ∙ d.1.1) c.2 in
          let a_is : k.0 ≡ a = is_node P keep a at closed keeps is k.0 k.4.among k.2 in
          let b_is : k.1 ≡ b = same_node rows P keep at.rows_of k.1 b k.5.among bt.among (k.3 ∙ sym number) in
          let chosen : Chosen rows P w a b = subst (λ (n : Node). Chosen rows P w n b) a_is (subst (λ (n : Node). Chosen rows P w k.0 n) b_is k.5) in
          let own : w.own.now ≡ t.own.now = on.own ∙ same.own in
          let other : w.other.now ≡ t.other.now = on.other ∙ same.other in
          let told : Leaps rows (turns_at P t a) (λ j. Meets P w b j → ⊥) from.0 l =
          subst (λ (s : Step). Leaps rows (matches P (serial_of a) (s ∷ [])) (λ j. Meets P w b j → ⊥) from.0 l) (on.step ∙ same.step) (next rows P a b chosen) in (
            c.0,
            leaps_weaken rows (turns_at P t a) (λ j. Meets P w b j → ⊥) (λ j. Meets P t b j → ⊥) from.0 l
                (λ j i h m. h (m.0, subst (λ (z : List Step). IsValueAt P j z m.0) (sym own) m.1, subst (λ (z : List Step). IsValueAt P b z m.0) (sym other) m.2)) told,
          )
