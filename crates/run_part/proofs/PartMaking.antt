-- A part before any token.
use Rattle.std.proofs.Common.{◌≡◌, ◌≤◌, ℕ, List, [], ◌∷◌, ◌++◌, length, Option, Some, None, sym, ◌∙◌, ap, subst}
use Rattle.std.proofs.lemmas.List.{append-nil}
use Rattle.gcx_model.specs.Core.{PlanTree}
use Rattle.gcx_model.specs.Held.{held}
use Rattle.gcx_model.specs.Points.{actions, so_far}
use Rattle.gcx_model.specs.Tree.{Root, Tree, opening}
use Rattle.gcx_model.specs.Demand.{Line, act_lines, opened_line, text_of_lines, trace_lines}
use Rattle.outside.specs.Places.{went_at}
use Rattle.outside.specs.Ports.{nothing_there}
use Rattle.run_part.specs.View.{ActorsView}
use Rattle.run_part.specs.declared.actors.Tallied.{Tallied}
use Rattle.run_part.specs.Actors.{ActorsBegin, ActsOn, all_of, past_at}
use Rattle.run_part.specs.Counts.{CountsOf}
use Rattle.run_part.specs.Late.{StandBehind}
use Rattle.run_part.specs.Telling.{lines_to}
use Rattle.run_part.proofs.Counting.{counts_acted, counts_opened}
use Rattle.run_part.proofs.RowsHeld.{rows_count}
use Rattle.run_part.proofs.Telling.{lines_on}
use Rattle.run_part.proofs.Writing.{all_is}

-- the actors of a part with every action taken before any token
pub part_begins : {C : Type 0} (stands : C → Tree → Type 0) (plan : PlanTree) (ahead : ℕ) → 1 ≤ ahead → (e d : ActorsView C) (u v : List ℕ) → ActorsBegin stands plan e → 1 ≤ e.buffer.most → ActsOn stands plan d opening 0 u v → d.counts ≡ e.counts → d.buffer.most ≡ e.buffer.most
    → StandBehind stands plan ahead d []
part_begins stands plan ahead one e d u v h most a counts same =
    let is = h.at.beside.buffer.is_past in
    let all = all_of plan opening in
    let before : length e.buffer.rows ≡ length (held plan opening (so_far plan opening 0)) = rows_count e.buffer (past_at plan opening 0 h.at.fed) h.at.beside.buffer in
    let behind : length d.buffer.rows ≡ length (held plan opening (so_far plan opening all)) = rows_count d.buffer (past_at plan opening all a.actors.fed) a.actors.beside.buffer in
    let opened : CountsOf plan [] ahead e.buffer e.counts = counts_opened is.core is.good plan is.placed ahead one e.buffer e.counts h.given h.peak most before in
    let acted : CountsOf plan [] ahead d.buffer e.counts = counts_acted is.core is.good plan is.placed [] ahead 0 e.buffer d.buffer e.counts before behind same opened in
    record { actors = a.actors; counts = subst (λ (z : Tallied). CountsOf plan [] ahead d.buffer z) (sym counts) acted }

-- where nothing goes anywhere, what waits grew as what flowed
pub nothing_grew : (o p : Option ℕ) (u v more : List ℕ) → went_at (λ i. nothing_there) p ++ v ≡ (went_at (λ i. nothing_there) o ++ u) ++ more → v ≡ u ++ more
nothing_grew None None u v more e = e
nothing_grew None (Some p) u v more e = e
nothing_grew (Some o) None u v more e = e
nothing_grew (Some o) (Some p) u v more e = e

-- the line of the document node, and those of the actions that are possible
pub trace_opens : (plan : PlanTree) (u v : List ℕ) → u ≡ text_of_lines (opened_line plan opening Root ∷ []) → v ≡ u ++ text_of_lines (lines_to plan opening 0 (all_of plan opening)) → v ≡ text_of_lines (trace_lines plan [])
trace_opens plan u v a b =
    let o = opened_line plan opening Root in
    lines_on [] u v (o ∷ []) (lines_to plan opening 0 (all_of plan opening)) a b
    ∙ ap (λ (z : List Line). text_of_lines (o ∷ z)) (ap (act_lines plan opening []) (all_is plan opening) ∙ sym (append-nil (act_lines plan opening [] (actions plan opening))))
