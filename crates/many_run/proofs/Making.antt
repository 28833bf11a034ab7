-- Plans before any byte.
use Rattle.std.proofs.Common.{◌≡◌, ◌∙◌, suc, false, List, [], ◌∷◌, ◌++◌, map, slice_get, refl, sym, ap, subst, None}
use Rattle.std.proofs.lemmas.List.{map-append}
use Rattle.gcx_base.specs.declared.limits.Limits.{Limits}
use Rattle.gcx_model.specs.PlanView.{plan_tree}
use Rattle.gcx_model.specs.Tree.{Tree, opening}
use Rattle.gcx_model.specs.declared.plan.Plan.{Plan}
use Rattle.doc_reader.specs.Standing.{IsFault, Stands, waiting}
use Rattle.run_part.specs.Actors.{all_of, bytes_at}
use Rattle.engine.specs.Engine.{MayLimit}
use Rattle.engine.proofs.Courses.{settled_by}
use Rattle.engine.proofs.Nothing.{none_at_start, nothing_seen}
use Rattle.many_run.specs.Each.{OfEach}
use Rattle.many_run.specs.Many.{ManyStart}
use Rattle.run_part.specs.Part.{PartStands}
use Rattle.many_run.specs.Parts.{BeginsParts}
use Rattle.many_run.specs.View.{ManyView}
use Rattle.run_part.specs.View.{PartView}
use Rattle.many_run.proofs.Lists.{each_push}

module _ {C : Type 0} (stands : C → Tree → Type 0) where
  -- no part yet
  pub parts_none : (parts : List (PartView C)) → parts ≡ [] → BeginsParts stands [] parts
  parts_none parts none = subst (λ (z : List (PartView C)). BeginsParts stands [] z) (sym none) (record { plans_are = refl; stand = λ i p at. absurd (cc); written = λ i p at. absurd (cc) })

  -- one more
  pub parts_more : (plans : List Plan) (plan : Plan) (parts more : List (PartView C)) (p : PartView C) → BeginsParts stands plans parts → more ≡ parts ++ p ∷ [] → p.plan ≡ plan → PartStands stands 1 [] p
      → p.out ≡ bytes_at (plan_tree plan) opening (all_of (plan_tree plan) opening) → BeginsParts stands (plans ++ plan ∷ []) more
  parts_more plans plan parts more p h pushed is stand out = record {
    plans_are = ap (map (λ q. q.plan)) pushed ∙ (map-append (λ (q : PartView C). q.plan) parts (p ∷ []) ∙ (ap (λ (z : List Plan). z ++ p.plan ∷ []) h.plans_are ∙ ap (λ (z : Plan). plans ++ z ∷ []) is));
    stand = each_push (PartStands stands 1 []) parts more p h.stand pushed stand;
    written = each_push (λ q. q.out ≡ bytes_at (plan_tree q.plan) opening (all_of (plan_tree q.plan) opening)) parts more p h.written pushed
        (subst (λ (z : Plan). p.out ≡ bytes_at (plan_tree z) opening (all_of (plan_tree z) opening)) (sym is) out);
  }

  -- with a reader of nothing
  pub many_starts : (plans : List Plan) (lim : Limits) (m : ManyView C) → MayLimit lim → BeginsParts stands plans m.parts → Stands m.reader lim [] false [] → waiting m.reader ≡ [] → m.bytes ≡ 0 → m.refused ≡ None → m.ended ≡ false
      → ManyStart stands plans lim m
  many_starts plans lim m limits h reader none bytes fresh unended = record {
    of = record {
      limits = limits;
      given = [];
      seen = nothing_seen lim;
      reader = reader;
      none = none;
      parts = h.stand;
      closing = unended;
      bytes = bytes;
      fault = subst (λ z. IsFault z lim [] false) (sym fresh) (none_at_start lim);
      lasting = λ m. let x = sym fresh ∙ m in cc;
      kept = λ n. absurd (n fresh);
    };
    fresh = fresh;
    plans_are = h.plans_are;
    settled = λ i p at. settled_by (plan_tree p.plan) lim [] false [] p.out (nothing_seen lim) (sym (h.written i p at));
  }

-- ---- of a list's first element and the others

pub each_first : {X : Type 0} (P : X → Type 0) (xs : List X) (x : X) (rest : List X) → xs ≡ x ∷ rest → OfEach P xs → P x
each_first P xs x rest is each = each 0 x (ap (λ (l : List _). slice_get l 0) is)

pub each_rest : {X : Type 0} (P : X → Type 0) (xs : List X) (x : X) (rest : List X) → xs ≡ x ∷ rest → OfEach P xs → OfEach P rest
each_rest P xs x rest is each i y at = each (suc i) y (ap (λ (l : List _). slice_get l (suc i)) is ∙ at)
