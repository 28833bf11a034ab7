-- What a trace tells of actions.
use Rattle.std.proofs.Common.{◌≡◌, ℕ, zero, suc, ◌<◌, ◌≤◌, Bool, true, false, List, [], ◌∷◌, ◌++◌, length, map, take, drop, refl, sym, ◌∙◌, ap, subst, arith, append_assoc}
use Rattle.std.proofs.lemmas.List.{append-nil, length-take-le}
use Rattle.std.proofs.Math.Seq.{drop-append_seam}
use Rattle.gcx_base.specs.declared.ids.Role.{Role}
use Rattle.gcx_base.specs.declared.ids.Serial.{Serial}
use Rattle.gcx_model.specs.Tree.{Tree}
use Rattle.gcx_model.specs.Core.{PlanTree}
use Rattle.gcx_model.specs.Run.{Action, Wrote, Offed}
use Rattle.gcx_model.specs.Held.{held, departed}
use Rattle.gcx_model.specs.Points.{actions, so_far}
use Rattle.gcx_model.specs.Past.{Past, past_acted}
use Rattle.gcx_model.specs.Demand.{Line, left, action_line, act_lines, text_of_lines}
use Rattle.gcx_model.specs.Demand as tree
use Rattle.move_laws.specs.Moves.{IsNext}
use Rattle.buf_tree.specs.View.{View}
use Rattle.buf_tree.specs.Calls.{left_out}
use Rattle.buf_tree.specs.Stands.{StandsFor}
use Rattle.projector.specs.declared.projector.Projector.{Projector}
use Rattle.pull_eval.specs.Acting.{TakesAction}
use Rattle.pull_eval.specs.declared.machine.Acted.{Acted}
use Rattle.pull_eval.specs.declared.machine.Acted.TheVariants as acted
use Rattle.pull_eval.specs.declared.position.Position.{Position}
use Rattle.run_part.specs.Actors.{ActorsStand, past_at, ActsOne, all_of, StandAt}
use Rattle.run_part.specs.Telling.{GrewPart, acted_lines, lines_to, next_lines}
use Rattle.run_part.proofs.Acting.{Reached, there, reached_none, reached_on}
use Rattle.buf_tree.proofs.Departed.{departed_rows}
use Rattle.run_part.proofs.Departing.{none_out}
use Rattle.run_part.proofs.Telling.{lines_behind, lines_first, lines_on, part_all}
use Rattle.run_part.specs.View.{ActorsView}

-- ---- fronts of lists

take_split : (k j : ℕ) (A : List Action) → k ≤ j → take k A ++ drop k (take j A) ≡ take j A
take_split zero j A l = refl
take_split (suc k) zero A l = absurd (omega arith)
take_split (suc k) (suc j) [] l = refl
take_split (suc k) (suc j) (x ∷ A) l = ap (λ (z : List Action). x ∷ z) (take_split k j A (omega arith))

drop_split : (k j i : ℕ) (A : List Action) → k ≤ j → j ≤ i → drop k (take i A) ≡ drop k (take j A) ++ drop j (take i A)
drop_split zero j i A l m = sym (take_split j i A m)
drop_split (suc k) zero i A l m = absurd (omega arith)
drop_split (suc k) (suc j) zero A l m = absurd (omega arith)
drop_split (suc k) (suc j) (suc i) [] l m = refl
drop_split (suc k) (suc j) (suc i) (x ∷ A) l m = drop_split k j i A (omega arith) (omega arith)

drop_none : (k : ℕ) (A : List Action) → drop k (take k A) ≡ []
drop_none zero A = refl
drop_none (suc k) [] = refl
drop_none (suc k) (x ∷ A) = drop_none k A

module _ (plan : PlanTree) (P : Tree) where
  pub act_append : (A xs ys : List Action) → act_lines plan P A (xs ++ ys) ≡ act_lines plan P A xs ++ act_lines plan P (A ++ xs) ys
  act_append A [] ys = ap (λ (z : List Action). act_lines plan P z ys) (sym (append-nil A))
  act_append A (a ∷ xs) ys =
      let L = left (held plan P A) (held plan P (A ++ a ∷ [])) in
      let X = act_lines plan P (A ++ a ∷ []) xs in
      let Y = act_lines plan P ((A ++ a ∷ []) ++ xs) ys in
      ap (λ (z : List Line). action_line a ∷ (L ++ z)) (act_append (A ++ a ∷ []) xs ys)
      ∙ (ap (λ (z : List Line). action_line a ∷ z) (sym (append_assoc L X Y))
      ∙ ap (λ (z : List Action). action_line a ∷ ((L ++ X) ++ act_lines plan P z ys)) (append_assoc A (a ∷ []) xs))

  pub lines_split : (k j i : ℕ) → k ≤ j → j ≤ i → lines_to plan P k i ≡ lines_to plan P k j ++ lines_to plan P j i
  lines_split k j i l m =
      ap (act_lines plan P (so_far plan P k)) (drop_split k j i (actions plan P) l m)
      ∙ (act_append (so_far plan P k) (drop k (so_far plan P j)) (drop j (so_far plan P i))
      ∙ ap (λ (z : List Action). lines_to plan P k j ++ act_lines plan P z (drop j (so_far plan P i))) (take_split k j (actions plan P) l))

  pub lines_none : (k : ℕ) → lines_to plan P k k ≡ []
  lines_none k = ap (act_lines plan P (so_far plan P k)) (drop_none k (actions plan P))

  next_is : (k : ℕ) (a : Action) → IsNext plan P k a → drop k (so_far plan P (suc k)) ≡ a ∷ []
  next_is k a n =
      let l = n.left in
      let few : k ≤ length (actions plan P) = omega arith in
      ap (drop k) n.taken ∙ (ap (λ z. drop z (so_far plan P k ++ a ∷ [])) (sym (length-take-le k (actions plan P) few)) ∙ drop-append_seam (so_far plan P k) (a ∷ []))

  pub lines_next : (k : ℕ) (a : Action) → IsNext plan P k a → lines_to plan P k (suc k) ≡ action_line a ∷ left (held plan P (so_far plan P k)) (held plan P (so_far plan P k ++ a ∷ []))
  lines_next k a n =
      ap (act_lines plan P (so_far plan P k)) (next_is k a n)
      ∙ ap (λ (z : List Line). action_line a ∷ z) (append-nil (left (held plan P (so_far plan P k)) (held plan P (so_far plan P k ++ a ∷ []))))

-- What was done, told, is the line of the next action and of its departures.
module _ (plan : PlanTree) (before : Tree → Type 0) (p : Projector) (w m : Position) (v u : View) (P : Tree) (k : ℕ) (s : ActorsStand plan before p w v P k) (out new : List ℕ) where
  abbrev TellsOne : Acted → Type 0
  TellsOne a = (k < all_of plan P) × (acted_lines a ++ map tree.Left u.gone ≡ lines_to plan P k (suc k))

  abbrev TellsBy : Acted → Type 0
  TellsBy (acted.Wrote n) = TellsOne (acted.Wrote n)
  TellsBy (acted.SignedOff x r) = TellsOne (acted.SignedOff x r)
  TellsBy acted.Blocked = Unit {0}
  TellsBy acted.Finished = Unit {0}

  abbrev past : Past
  past = past_at plan P k s.fed

  tells : (a : Acted) → TakesAction past k m v u out new a → TellsBy a
  tells (acted.Wrote n) t =
      let b = t.0 in
      let stands : StandsFor v past = s.beside.buffer in
      let next : StandsFor u (past_acted (Wrote b) past) = t.5.buffer in
      let gone : u.gone ≡ [] = ap (λ (z : View). z.gone) t.4 ∙ s.gone in
      let rows : u.rows ≡ v.rows = ap (λ (z : View). z.rows) t.4 in
      let none : departed (held plan P (so_far plan P k)) (held plan P (so_far plan P k ++ Wrote b ∷ [])) ≡ []
      = sym (departed_rows v u past (past_acted (Wrote b) past) stands next) ∙ (ap (left_out v.rows) (rows ∙ sym (append-nil v.rows)) ∙ none_out v.rows []) in (
        t.1.left,
        ap (λ (z : List ℕ). tree.Written n ∷ map tree.Left z) gone
            ∙ (ap (λ z. tree.Written z ∷ []) t.2
            ∙ sym (lines_next plan P k (Wrote b) t.1 ∙ ap (λ (z : List ℕ). tree.Written (length b) ∷ map tree.Left z) none)),
      )
  tells (acted.SignedOff x r) t =
      let o = t.0 in
      let gone : u.gone ≡ departed (held plan P (so_far plan P k)) (held plan P (so_far plan P k ++ Offed o x.0 ∷ [])) = t.4 ∙ ap (λ (z : List ℕ). z ++ departed (held plan P (so_far plan P k)) (held plan P (so_far plan P k ++ Offed o x.0 ∷ []))) s.gone in (
        t.1.left,
        ap (λ (z : List ℕ). tree.SignedOff x.0 r.0 ∷ map tree.Left z) gone
            ∙ (ap (λ z. tree.SignedOff x.0 z ∷ left (held plan P (so_far plan P k)) (held plan P (so_far plan P k ++ Offed o x.0 ∷ []))) (sym t.2)
            ∙ sym (lines_next plan P k (Offed o x.0) t.1)),
      )
  tells acted.Blocked t = tt
  tells acted.Finished t = tt

  pub tells_wrote : (a : Acted) (n : ℕ) → a ≡ acted.Wrote n → TakesAction past k m v u out new a → TellsOne a
  tells_wrote a n e t = subst TellsOne (sym e) (subst TellsBy e (tells a t))

  pub tells_signed : (a : Acted) (x : Serial) (r : Role) → a ≡ acted.SignedOff x r → TakesAction past k m v u out new a → TellsOne a
  tells_signed a x r e t = subst TellsOne (sym e) (subst TellsBy e (tells a t))

-- the lines of one action are the first of those left
pub part_next : (plan : PlanTree) (P : Tree) (k : ℕ) (before after : List ℕ) → k < all_of plan P → GrewPart before after (text_of_lines (lines_to plan P k (suc k))) → GrewPart before after (text_of_lines (lines_to plan P k (all_of plan P)))
part_next plan P k before after l h =
    subst (λ (z : List Line). GrewPart before after (text_of_lines z)) (sym (lines_split plan P k (suc k) (all_of plan P) (omega arith) (omega arith))) (lines_first before after (lines_to plan P k (suc k)) (lines_to plan P (suc k) (all_of plan P)) h)

-- ---- many actions

module _ {C : Type 0} (stands : C → Tree → Type 0) (plan : PlanTree) (tracing : Bool) where
  -- the state that a loop has reached, and what it told where that is wanted
  pub record ToldReached (e : ActorsView C) (P : Tree) (k : ℕ) (u v before after : List ℕ) : Type 0 where
    pub reached : Reached stands plan e P k u v
    pub behind : k ≤ reached.taken
    pub told : tracing ≡ true → after ≡ before ++ text_of_lines (lines_to plan P k reached.taken)

  abbrev pub told_none : (old : ActorsView C) (P : Tree) (k : ℕ) (u before : List ℕ) → StandAt stands plan old P k → ToldReached old P k u u before before
  told_none old P k u before a = record {
    reached = reached_none stands plan old P k u a;
    behind = omega arith;
    told = λ wanted. sym (ap (λ (z : List Line). before ++ text_of_lines z) (lines_none plan P k) ∙ append-nil before);
  }

  module _ (e : ActorsView C) (P : Tree) (k : ℕ) (u v before now : List ℕ) (r : ToldReached e P k u v before now) where
    -- no more were taken than there are
    pub told_there : r.reached.taken ≤ all_of plan P
    told_there = there plan (stands e.machine.conds) e.projector e.machine.position e.buffer P r.reached.taken r.reached.actors

    abbrev pub told_on : (d : ActorsView C) (w after : List ℕ) → ActsOne stands plan d P r.reached.taken true v w → (tracing ≡ true → after ≡ now ++ text_of_lines (next_lines plan P r.reached.taken true)) → ToldReached d P k u w before after
    told_on d w after o t =
        let j = r.reached.taken in
        record {
          reached = reached_on stands plan e d P k u v w r.reached o;
          behind = let l = r.behind in omega arith;
          told = λ wanted.
              lines_on before now after (lines_to plan P k j) (lines_to plan P j (suc j)) (r.told wanted) (t wanted)
              ∙ ap (λ (z : List Line). before ++ text_of_lines z) (sym (lines_split plan P k j (suc j) r.behind (omega arith)));
        }

    pub told_end : (d : ActorsView C) (w after : List ℕ) → tracing ≡ true → ActsOne stands plan d P r.reached.taken false v w → after ≡ now ++ text_of_lines (next_lines plan P r.reached.taken false)
        → after ≡ before ++ text_of_lines (lines_to plan P k (all_of plan P))
    told_end d w after wanted o t = t ∙ (append-nil now ∙ (r.told wanted ∙ ap (λ z. before ++ text_of_lines (lines_to plan P k z)) o.0))

    pub told_part : (after : List ℕ) → tracing ≡ true → GrewPart now after (text_of_lines (lines_to plan P r.reached.taken (all_of plan P))) → GrewPart before after (text_of_lines (lines_to plan P k (all_of plan P)))
    told_part after wanted h =
        let j = r.reached.taken in
        let n = all_of plan P in
        subst (λ (z : List Line). GrewPart before after (text_of_lines z)) (sym (lines_split plan P k j n r.behind told_there)) (lines_behind before now after (lines_to plan P k j) (lines_to plan P j n) (r.told wanted) h)

    -- so what was told is a front of what is to be told
    pub told_some : tracing ≡ true → GrewPart before now (text_of_lines (lines_to plan P k (all_of plan P)))
    told_some wanted =
        let j = r.reached.taken in
        let n = all_of plan P in
        subst (λ (z : List Line). GrewPart before now (text_of_lines z)) (sym (lines_split plan P k j n r.behind told_there))
        (lines_first before now (lines_to plan P k j) (lines_to plan P j n) (part_all before now (text_of_lines (lines_to plan P k j)) (r.told wanted)))
