-- An engine before any byte.
use Rattle.std.proofs.Common.{◌≡◌, ℕ, true, false, [], refl, sym, subst, None}
use Rattle.gcx_base.specs.declared.limits.Limits.{Limits}
use Rattle.gcx_model.specs.Tree.{Tree, opening}
use Rattle.gcx_model.specs.Demand.{text_of_lines, trace_lines}
use Rattle.gcx_model.specs.PlanView.{plan_tree}
use Rattle.doc_reader.specs.Standing.{ReaderView, Stands, waiting}
use Rattle.run_part.specs.Actors.{all_of, bytes_at}
use Rattle.run_part.specs.Late.{StandBehind}
use Rattle.run_part.specs.Part.{PartStands}
use Rattle.run_part.specs.View.{PartView}
use Rattle.engine.specs.View.{over_part}
use Rattle.engine.specs.Engine.{MayLimit, Starts}
use Rattle.engine.proofs.Courses.{settled_by}
use Rattle.engine.proofs.Nothing.{none_at_start, nothing_seen}

-- over a part before any token, with a reader of nothing
pub starts : {C : Type 0} (stands : C → Tree → Type 0) (lim : Limits) (p : PartView C) (r : ReaderView) (ahead : ℕ) → MayLimit lim → PartStands stands ahead [] p → p.out ≡ bytes_at (plan_tree p.plan) opening (all_of (plan_tree p.plan) opening)
    → (p.tracing ≡ true → p.trace ≡ text_of_lines (trace_lines (plan_tree p.plan) [])) → Stands r lim [] false [] → waiting r ≡ [] → Starts stands lim (over_part p r 0 None false)
starts stands lim p r ahead limits s out traced reader none =
    let behind : StandBehind stands (plan_tree p.plan) p.ahead p.actors [] = subst (λ n. StandBehind stands (plan_tree p.plan) n p.actors []) (sym s.0) s.1 in
    record {
      of = record {
        given = [];
        seen = nothing_seen lim;
        parts = record { limits = limits; reader = reader; actors = behind.actors; counts = behind.counts };
        none = none;
        closing = refl;
        bytes = refl;
        fault = none_at_start lim;
        lasting = λ m. cc;
        kept = λ n. absurd (n refl);
      };
      fresh = refl;
      settled = settled_by (plan_tree p.plan) lim [] false [] p.out (nothing_seen lim) (sym out);
      traced = λ wanted. ([], nothing_seen lim, traced wanted);
    }
