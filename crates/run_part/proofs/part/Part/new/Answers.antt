use Rattle.std.proofs.Common.{◌≡◌, ◌∙◌, ◌≤◌, ℕ, List, [], ◌∷◌, ◌++◌, max, ap, arith, refl, rules, sym}
use Rattle.gcx_model.specs.PlanView.{plan_tree}
use Rattle.gcx_model.specs.Tree.{Root, opening}
use Rattle.gcx_model.specs.Past.{opening_past}
use Rattle.gcx_model.specs.Held.{roles_given}
use Rattle.gcx_model.specs.Demand.{DocumentNode, Opened, opened_line, text_of_lines}
use Rattle.buf_tree.specs.Calls.{numbers}
use Rattle.run_part.specs.Actors.{all_of}
use Rattle.run_part.specs.Telling.{document_text, lines_to}
use Rattle.run_part.specs.declared.actors.Tallied.{Tallied}
use Rattle.run_part.proofs.PartMaking.{nothing_grew, part_begins, trace_opens}
use Rattle.run_part.proofs.part.Part.new.Goals as goal

pub act_all_told-requires-clause-some : goal.act_all_told-requires-clause-some
act_all_told-requires-clause-some g c = record { plan = plan_tree c.args.plan.now; tree = opening; taken = 0; of = c.in_ok-actors.ensures.begins.at }

-- nothing is written, and all waits
pub act_all_told-requires-clause-places : goal.act_all_told-requires-clause-places
act_all_told-requires-clause-places g c = record { out = tt; lines = λ p e. tt }

pub act_all_told-requires-clause-few : goal.act_all_told-requires-clause-few
act_all_told-requires-clause-few g c = (tt, tt)

pub returns-clause-stands : goal.returns-clause-stands
returns-clause-stands g c =
    let plan = plan_tree c.args.plan.now in
    let e = c.in_ok-actors.actors in
    let leaves = c.act_all_told.ensures.leaves in
    let held : e.buffer.most ≡ max (g.N.NodeStore.most_held c.args.nodes) 1 = c.in_ok-actors.ensures.most in
    let most : 1 ≤ e.buffer.most = omega arith in (
      leaves.ahead_is,
      part_begins g.C.Conds.stands plan c.args.ahead c.requires.ahead e c.act_all_told.new.self.actors _ _ c.in_ok-actors.ensures.begins most
          (c.in_ok-act_all_told.ensures.acts.acts plan opening 0 c.in_ok-actors.ensures.begins.at) leaves.actors.counts leaves.actors.most,
    )

pub returns-clause-written : goal.returns-clause-written
returns-clause-written g c =
    let plan = plan_tree c.args.plan.now in
    let o = (c.in_ok-act_all_told.ensures.acts.acts plan opening 0 c.in_ok-actors.ensures.begins.at).goes in
    let none : c.new-3.result.items ≡ [] = search rules in
    o.grew ∙ (ap (λ (z : List ℕ). z ++ o.more) none ∙ sym o.written)

pub returns-clause-traced : goal.returns-clause-traced
returns-clause-traced g c = λ wanted.
    let plan = plan_tree c.args.plan.now in
    let q = c.requires.placed in
    let roles : numbers c.in_ok-given.given ≡ roles_given plan opening Root = c.in_ok-given.ensures (opening_past plan) (c.in_ok-projector.ensures.stands q.0 q.1 q.2) in
    let l = g.L.Lines.seen c.begin.new.self in
    let m = g.L.Lines.seen c.act_all_told.new.lines in
    let first : l.waits ≡ text_of_lines (opened_line plan opening Root ∷ []) = c.in_ok-begin.ensures.opened wanted
    ∙ (ap (λ (z : List ℕ). z ++ document_text c.in_ok-given.given) c.requires.lines ∙ ap (λ (z : List ℕ). text_of_lines (Opened 0 DocumentNode z ∷ [])) roles) in
    let told : m.waits ≡ l.waits ++ text_of_lines (lines_to plan opening 0 (all_of plan opening))
    = nothing_grew l.lines_at m.lines_at l.waits m.waits (text_of_lines (lines_to plan opening 0 (all_of plan opening))) (c.in_ok-act_all_told.ensures.acts.told wanted plan opening 0 c.in_ok-actors.ensures.begins.at) in
    trace_opens plan l.waits m.waits first told

pub returns-clause-silent : goal.returns-clause-silent
returns-clause-silent g c = λ unwanted. g.met.L.Lines.none_wait c.act_all_told.new.lines unwanted

pub returns-clause-made : goal.returns-clause-made
returns-clause-made g c =
    let begun = c.begin.ensures.places in
    let acted = c.act_all_told.ensures.leaves.places in
    record { plan_is = refl; tracing_is = refl; output_is = acted.output_is ∙ begun.output_is; lines_is = acted.lines_is ∙ begun.lines_is }

pub returns-clause-most : goal.returns-clause-most
returns-clause-most g c =
    let alone = c.act_all_told.ensures.leaves.actors in
    let peak : 1 ≡ c.act_all_told.new.self.actors.counts.peak = sym (ap (λ (z : Tallied). z.peak) alone.counts ∙ c.in_ok-actors.ensures.begins.peak) in
    alone.most ∙ (c.in_ok-actors.ensures.most ∙ ap (λ (z : ℕ). max (g.N.NodeStore.most_held c.args.nodes) z) peak)

pub returns-clause-loans : goal.returns-clause-loans
returns-clause-loans g c = c.act_all_told.ensures.leaves.actors.loans ∙ c.in_ok-actors.ensures.loans
