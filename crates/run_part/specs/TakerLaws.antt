-- Laws of a part as what takes tokens (this project's).
use Rattle.std.proofs.Common.{◌≡◌, ◌∙◌, ◌++◌, ◌∷◌, ℕ, zero, suc, Bool, true, false, List, [], length, Option, Some, None, refl, ap, subst, arith, sym, append_assoc}
use Rattle.std.proofs.lemmas.Grind.{flat_map-append}
use Rattle.gcx_model.specs.Core.{PlanTree}
use Rattle.gcx_model.specs.Demand.{Line, demand, line_text, text_of_lines, trace_lines}
use Rattle.gcx_model.specs.Growth.{may_all}
use Rattle.gcx_model.specs.PlanView.{plan_tree}
use Rattle.gcx_model.specs.Seen.{seen_tree}
use Rattle.gcx_model.specs.Tree.{TreeToken as Said, opening}
use Rattle.gcx_model.specs.declared.plan.Plan.{Plan}
use Rattle.run_laws.proofs.Goes.{trace_lines-append}
use Rattle.outside.specs.Outputs.{SameOutputs, SettlesMore}
use Rattle.outside.specs.Places.{Few}
use Rattle.run_part.specs.Actors.{all_of}
use Rattle.run_part.specs.Fronts.{bytes_front, more_leads}
use Rattle.run_part.specs.Taker.{PartStays, lines_text, of_both, output_text, part_count, part_few, part_outs, part_peak, part_places, part_texts, part_ordered}
use Rattle.run_part.specs.View.{PartView}
use Rattle.run_part.specs.Order.{Covered}

-- ---- what no call changes

pub stays_same : {C : Type 0} (p : PartView C) → PartStays p p
stays_same p = record { plan_is = refl; ahead_is = refl; tracing_is = refl; output_is = refl; lines_is = refl; loans = refl; untold = λ unwanted. refl; balance = λ balanced. balanced }

pub stays_on : {C : Type 0} (p q r : PartView C) → PartStays p q → PartStays q r → PartStays p r
stays_on p q r a b = record {
  plan_is = b.plan_is ∙ a.plan_is;
  ahead_is = b.ahead_is ∙ a.ahead_is;
  tracing_is = b.tracing_is ∙ a.tracing_is;
  output_is = b.output_is ∙ a.output_is;
  lines_is = b.lines_is ∙ a.lines_is;
  loans = b.loans ∙ a.loans;
  untold = λ unwanted. b.untold (a.tracing_is ∙ unwanted) ∙ a.untold unwanted;
  balance = λ balanced. b.balance (a.balance balanced);
}

texts_same : (m n : Plan) (s t : Bool) → n ≡ m → t ≡ s → (i : ℕ) → of_both (output_text (plan_tree n)) (lines_text t (plan_tree n)) i ≡ of_both (output_text (plan_tree m)) (lines_text s (plan_tree m)) i
texts_same m n s t e f i =
    subst (λ (z : Bool). of_both (output_text (plan_tree n)) (lines_text t (plan_tree n)) i ≡ of_both (output_text (plan_tree m)) (lines_text z (plan_tree m)) i) f
    (ap (λ (z : Plan). of_both (output_text (plan_tree z)) (lines_text t (plan_tree z)) i) e)

pub same_outputs : {C : Type 0} (p q : PartView C) → PartStays p q → SameOutputs (λ (z : PartView C). part_count z.tracing) part_texts p q
same_outputs p q s = record { count_is = ap part_count s.tracing_is; texts_are = texts_same p.plan q.plan p.tracing q.tracing s.plan_is s.tracing_is }

pub same_places : {C : Type 0} (p q : PartView C) → PartStays p q → (i : ℕ) → part_places q i ≡ part_places p i
same_places p q s zero = ap Some s.output_is
same_places p q s (suc i) = s.lines_is

-- ---- the most rows

pub peak_same : {C : Type 0} (p : PartView C) → part_peak p p
peak_same p lent h = h

pub peak_on : {C : Type 0} (p q r : PartView C) → part_peak p q → part_peak q r → part_peak p r
peak_on p q r a b lent h = b lent (a lent h)

-- ---- how much waits

few_less : (m : Option ℕ) (n : ℕ) → Few (Some 0) n → Few m n
few_less None n few = tt
few_less (Some k) n few = omega (arith, few)

pub few_each : {C : Type 0} (p : PartView C) (m : Option ℕ) → part_few p m → (i : ℕ) → Few m (length (part_outs p i))
few_each p m few zero = few.0
few_each p m few (suc i) = few.1

pub any_few : {C : Type 0} (p : PartView C) → part_few p None
any_few p = (tt, tt)

pub none_few : {C : Type 0} (p : PartView C) (m : Option ℕ) → part_few p (Some 0) → part_few p m
none_few p m few = (few_less m (length p.out) few.0, few_less m (length p.trace) few.1)

-- ---- what is settled

-- the text of the lines of more tokens comes behind that of the first
pub lines_more : (plan : PlanTree) (ts us : List Said) → text_of_lines (trace_lines plan (ts ++ us)) ≡ text_of_lines (trace_lines plan ts) ++ text_of_lines (demand plan us (seen_tree ts))
lines_more plan ts us =
    ap text_of_lines (trace_lines-append plan ts us) ∙ flat_map-append (λ (l : Line). line_text l ++ 10 ∷ []) (trace_lines plan ts) (demand plan us (seen_tree ts))

settles_both : (i : ℕ) (wanted : Bool) (plan : PlanTree) (ts us : List Said) → may_all (ts ++ us) opening ≡ true → SettlesMore (of_both (output_text plan) (lines_text wanted plan) i) ts us
settles_both zero wanted plan ts us may =
    let l = more_leads ts us may in
    let r = bytes_front plan (seen_tree ts) (seen_tree (ts ++ us)) (all_of plan (seen_tree ts)) l.0 l.1 (omega arith) in
    record { more = r.0; is = r.1 }
settles_both (suc i) true plan ts us may = record { more = text_of_lines (demand plan us (seen_tree ts)); is = lines_more plan ts us }
settles_both (suc i) false plan ts us may = record { more = []; is = refl }

pub settles_on : {C : Type 0} (p : PartView C) (i : ℕ) (ts us : List Said) → may_all (ts ++ us) opening ≡ true → SettlesMore (part_texts p i) ts us
settles_on p i ts us may = settles_both i p.tracing (plan_tree p.plan) ts us may

-- ---- the order

-- more lines are to come
pub covered_more : (ls ms : List Line) (x y : List ℕ) → Covered ls x y → Covered (ls ++ ms) x y
covered_more ls ms x y c = record {
  front = c.front;
  rest = c.rest ++ ms;
  more = c.more;
  split = ap (λ (z : List Line). z ++ ms) c.split ∙ append_assoc c.front c.rest ms;
  cover = c.cover;
  told = c.told;
}

pub ordered_on : {C : Type 0} (p : PartView C) (ts us : List Said) (x : ℕ → List ℕ) → part_ordered p ts x → part_ordered p (ts ++ us) x
ordered_on p ts us x ordered = λ tracing.
    let plan = plan_tree p.plan in
    subst (λ (z : List Line). Covered z (x 0) (x 1)) (sym (trace_lines-append plan ts us)) (covered_more (trace_lines plan ts) (demand plan us (seen_tree ts)) (x 0) (x 1) (ordered tracing))
