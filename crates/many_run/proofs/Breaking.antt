-- What a part wrote where memory ran out.
use Rattle.std.proofs.Common.{◌∙◌, ℕ, List, [], ◌++◌, refl, sym, ap, arith, append_assoc}
use Rattle.std.proofs.lemmas.List.{append-nil}
use Rattle.gcx_model.specs.Core.{PlanTree}
use Rattle.gcx_model.specs.Growth.{Leads}
use Rattle.gcx_model.specs.PlanView.{plan_tree}
use Rattle.gcx_model.specs.Seen.{seen_tree}
use Rattle.gcx_model.specs.Tree.{Tree, TreeToken as Said, opening}
use Rattle.run_part.specs.Actors.{all_of, bytes_at}
use Rattle.run_part.proofs.Writing.{goes_front, goes_none}
use Rattle.run_part.specs.Part.{PartBreaks, PartGoes, PartTakesSome, PartTakes, told_behind}
use Rattle.run_part.specs.View.{PartView}
use Rattle.run_part.proofs.PartTaking.{come_leads, part_balanced}
use Rattle.run_part.proofs.Telling.{part_all, part_none}

-- a whole way is one that broke at its end
pub breaks_whole : (plan : PlanTree) (ts us : List Said) (u v : List ℕ) → PartGoes plan ts us u v → PartBreaks plan ts us u v
breaks_whole plan ts us u v g = record {
  part = g.more;
  rest = [];
  written = g.written ∙ ap (λ z. bytes_at plan (seen_tree ts) (all_of plan (seen_tree ts)) ++ z) (sym (append-nil g.more));
  grew = g.grew;
}

-- and one that never began is one that broke at its start
pub breaks_start : (plan : PlanTree) (ts us : List Said) (u : List ℕ) → Leads opening (seen_tree ts) → Leads (seen_tree ts) (seen_tree us) → PartBreaks plan ts us u u
breaks_start plan ts us u l m =
    let P = seen_tree ts in
    let r = goes_front plan P (all_of plan P) P (all_of plan P) (seen_tree us) u u (goes_none plan P (all_of plan P) u) l m (omega arith) in
    record { part = r.0; rest = r.1; written = r.2; grew = r.3 }

-- a whole way before one that broke
pub breaks_behind : (plan : PlanTree) (ts us vs : List Said) (u v w : List ℕ) → PartGoes plan ts us u v → PartBreaks plan us vs v w → PartBreaks plan ts vs u w
breaks_behind plan ts us vs u v w g p =
    let before = bytes_at plan (seen_tree ts) (all_of plan (seen_tree ts)) in
    record {
      part = g.more ++ p.part;
      rest = p.rest;
      written = p.written ∙ (ap (λ (z : List ℕ). z ++ (p.part ++ p.rest)) g.written ∙ (append_assoc before g.more (p.part ++ p.rest) ∙ ap (λ (z : List ℕ). before ++ z) (sym (append_assoc g.more p.part p.rest))));
      grew = p.grew ∙ (ap (λ (z : List ℕ). z ++ p.part) g.grew ∙ append_assoc u g.more p.part);
    }

module _ {C : Type 0} (stands : C → Tree → Type 0) (more : List Said) where
  -- all of them were taken
  pub some_of_all : (old new : PartView C) → PartTakes stands old new more → PartTakesSome stands old new more
  some_of_all old new t ahead given s c =
      let k = t ahead given s c in
      record {
        plan = k.plan;
        breaks = breaks_whole (plan_tree old.plan) given (given ++ more) old.out new.out k.goes;
        balance = part_balanced stands ahead (given ++ more) new k.stand;
        told = λ wanted. part_all old.trace new.trace (told_behind (plan_tree old.plan) given more) (k.told wanted);
      }

  -- or none
  pub some_of_none : (old : PartView C) → PartTakesSome stands old old more
  some_of_none old ahead given s c =
      let l = come_leads given more c in
      record {
        plan = refl;
        breaks = breaks_start (plan_tree old.plan) given (given ++ more) old.out l.0 l.1;
        balance = part_balanced stands ahead given old s;
        told = λ wanted. part_none old.trace old.trace (told_behind (plan_tree old.plan) given more) refl;
      }
