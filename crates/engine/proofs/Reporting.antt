-- The numbers that are reported: they stay below the ends of their types.
use Rattle.std.proofs.Common.{◌≡◌, ℕ, ◌+◌, ◌-◌, ◌*◌, ◌<◌, ◌≤◌, ◌^◌, Bool, List, [], length, map, sym, ◌∙◌, ap, arith, mul-le-mul}
use Rattle.std.proofs.lemmas.List.{append-nil, length-map}
use Rattle.gcx_base.specs.declared.limits.Limits.{Limits}
use Rattle.gcx_model.specs.Tree.{Tree}
use Rattle.gcx_model.specs.Core.{PlanTree}
use Rattle.gcx_model.specs.PlanView.{plan_tree, role_row_tree}
use Rattle.gcx_model.specs.declared.plan.Plan.{Plan}
use Rattle.gcx_model.specs.Run.{Action}
use Rattle.gcx_model.specs.Held.{held, sum_given, sum_taken}
use Rattle.gcx_model.specs.Points.{so_far}
use Rattle.gcx_model.specs.Seen.{seen_tree}
use Rattle.run_laws.proofs.Summing.{taken_is_given}
use Rattle.doc_laws.proofs.TreeBounds.{seen_within}
use Rattle.doc_reader.specs.Standing.{said_of}
use Rattle.buf_tree.specs.View.{capped}
use Rattle.engine.specs.Engine.{StandsOf}
use Rattle.run_part.specs.Actors.{past_at, all_of}
use Rattle.engine.specs.Runs.{Numbers, Reports}
use Rattle.engine.specs.View.{EngineView}
use Rattle.engine.specs.declared.report.Report.{Report}
use Rattle.run_part.proofs.RowsHeld.{rows_count}
use Rattle.run_part.proofs.Writing.{all_is}

capped_few : (n : ℕ) → n ≤ 2 ^ 128 - 1 → capped n ≡ n
capped_few n few = omega arith

-- The plan's roles are as many as its tree's.
pub few_in_tree : (plan : Plan) → length plan.roles < 2 ^ 64 → length (plan_tree plan).roles < 2 ^ 64
few_in_tree plan few = let l : length (plan_tree plan).roles ≡ length plan.roles = length-map plan.roles role_row_tree in omega arith

module _ (plan : PlanTree) (P : Tree) (roles : length plan.roles < 2 ^ 64) (nodes : length P.nodes ≤ 2 ^ 40 + 1) where
  given_few : sum_given plan P ≤ 2 ^ 128 - 1
  given_few =
      let sums : sum_given plan P ≤ length P.nodes * length plan.roles = (taken_is_given.1 plan P []).1 in
      let product : length P.nodes * length plan.roles ≤ (2 ^ 40 + 1) * (2 ^ 64) = let small : length plan.roles ≤ 2 ^ 64 = omega arith in mul-le-mul nodes small in
      omega arith

  pub given_exact : capped (sum_given plan P) ≡ sum_given plan P
  given_exact = capped_few (sum_given plan P) given_few

  pub taken_exact : (A : List Action) → capped (sum_taken plan P A) ≡ sum_taken plan P A
  taken_exact A = let less : sum_taken plan P A ≤ sum_given plan P = (taken_is_given.1 plan P A).0 in let few = given_few in capped_few (sum_taken plan P A) (omega arith)

-- the numbers of an engine that stands for these bytes
pub numbers_of : {C : Type 0} (stands : C → Tree → Type 0) (lim : Limits) (e : EngineView C) (b : List ℕ) (ended : Bool) (t : Report) → length (plan_tree e.plan).roles < 2 ^ 64 → Reports t e → StandsOf stands lim e b ended
    → Numbers (plan_tree e.plan) lim b ended e.ahead t
numbers_of stands lim e b ended t roles r st =
    let plan = plan_tree e.plan in
    let ts = map said_of st.given in
    let P = seen_tree ts in
    let acts = st.parts.actors in
    let k = all_of plan P in
    let counts = st.parts.counts in
    let few = (seen_within lim b ended ts ts [] st.seen (sym (append-nil ts))).at_most in
    let most = st.parts.limits.bytes in
    let nodes : length P.nodes ≤ 2 ^ 40 + 1 = omega arith in
    let nodes_is : t.nodes ≡ length P.nodes = r.nodes ∙ acts.beside.buffer.nodes in
    let peak_is = r.peak in
    let least = counts.peak.least in
    let near = counts.peak.near in
    let among = counts.among in
    record {
      tokens = ts;
      seen = st.seen;
      taken_bytes = r.bytes ∙ st.bytes;
      nodes = nodes_is;
      peak = record { least = omega arith; near = omega arith };
      among = omega arith;
      given = r.given ∙ (counts.given ∙ given_exact plan P roles nodes);
      taken = r.taken ∙ (acts.beside.taken ∙ (taken_exact plan P roles nodes (so_far plan P k) ∙ ap (sum_taken plan P) (all_is plan P)));
      held_is = r.held_is ∙ (rows_count e.actors.buffer (past_at plan P k acts.fed) acts.beside.buffer ∙ ap (λ (A : List Action). length (held plan P A)) (all_is plan P));
    }
