-- All tokens that wait are fed.
use Rattle.std.proofs.Common.{◌≡◌, ℕ, Bool, List, [], ◌++◌, map, sym, ◌∙◌, ap, subst, arith, append_assoc, Some, None, Option}
use Rattle.std.specs.Prelude.{Result, OnOk, OnErr, ⊤}
use Rattle.std.specs.declared.result.Result.TheVariants.{Ok, Err}
use Rattle.gcx_base.specs.declared.limits.Limits.{Limits}
use Rattle.gcx_base.specs.declared.memory.Memory.{Memory as Lack}
use Rattle.gcx_model.specs.declared.fault.DocFault.{DocFault}
use Rattle.gcx_model.specs.declared.fault.DocFault.TheVariants.{Utf8, Syntax, Truncated, Depth, NameLong, TextLong, TooLong, Memory}
use Rattle.gcx_model.specs.Tree.{Tree}
use Rattle.gcx_model.specs.PlanView.{plan_tree}
use Rattle.gcx_model.specs.Seen.{seen_tree}
use Rattle.doc_reader.specs.Standing.{Token, answer_by, waiting, said_of}
use Rattle.engine.specs.View.{EngineView}
use Rattle.engine.specs.Engine.{OnRefusal, PartsStand}
use Rattle.run_part.specs.Actors.{Goes, all_of, bytes_at}
use Rattle.engine.specs.Going.{Breaks, FeedsOn, GoesOn, lacking, refusal_of}
use Rattle.run_part.proofs.Writing.{goes_front, goes_on}
use Rattle.engine.proofs.Seeing.{given_grew, given_leads}
use Rattle.run_part.proofs.Taking.{taken_few}

pub on_refusal : (o : Option DocFault) {A B : Type 0} → A → B → OnRefusal o A B
on_refusal None a b = b
on_refusal (Some Memory) a b = a
on_refusal (Some (Utf8 n)) a b = b
on_refusal (Some (Syntax n)) a b = b
on_refusal (Some (Truncated n)) a b = b
on_refusal (Some (Depth n)) a b = b
on_refusal (Some (NameLong n)) a b = b
on_refusal (Some (TextLong n)) a b = b
on_refusal (Some (TooLong n)) a b = b

pub on_none : (o : Option DocFault) (A B : Type 0) → o ≡ None → B → OnRefusal o A B
on_none o A B e b = subst (λ (z : Option DocFault). OnRefusal z A B) (sym e) b

pub from_none : (o : Option DocFault) (A B : Type 0) → o ≡ None → OnRefusal o A B → B
from_none o A B e h = subst (λ (z : Option DocFault). OnRefusal z A B) e h

-- by cases: memory ran out, or it didn't
pub refusal_map : (o : Option DocFault) {A B A' B' : Type 0} → (A → A') → ((o ≡ Some Memory → ⊥) → B → B') → OnRefusal o A B → OnRefusal o A' B'
refusal_map None f g h = g (λ e. cc) h
refusal_map (Some Memory) f g h = f h
refusal_map (Some (Utf8 n)) f g h = g (λ e. cc) h
refusal_map (Some (Syntax n)) f g h = g (λ e. cc) h
refusal_map (Some (Truncated n)) f g h = g (λ e. cc) h
refusal_map (Some (Depth n)) f g h = g (λ e. cc) h
refusal_map (Some (NameLong n)) f g h = g (λ e. cc) h
refusal_map (Some (TextLong n)) f g h = g (λ e. cc) h
refusal_map (Some (TooLong n)) f g h = g (λ e. cc) h

module _ {C : Type 0} (stands : C → Tree → Type 0) (lim : Limits) (b : List ℕ) (ended : Bool) (given : List Token) where
  -- some tokens behind others
  pub feeds_on : (old e d : EngineView C) → e.plan ≡ old.plan → (f : FeedsOn stands lim old e b ended given) → FeedsOn stands lim e d b ended (given ++ f.more) → FeedsOn stands lim old d b ended given
  feeds_on old e d plan f g =
      let a : (given ++ f.more) ++ g.more ≡ given ++ (f.more ++ g.more) = append_assoc given f.more g.more in
      let pl = plan_tree old.plan in
      let tree = λ (z : List Token). seen_tree (map said_of z) in
      let later : Goes pl (tree (given ++ f.more)) (all_of pl (tree (given ++ f.more))) (tree (given ++ (f.more ++ g.more))) (all_of pl (tree (given ++ (f.more ++ g.more)))) e.out d.out
      = subst (λ (z : List Token). Goes pl (tree (given ++ f.more)) (all_of pl (tree (given ++ f.more))) (tree z) (all_of pl (tree z)) e.out d.out) a
      (subst (λ z. Goes (plan_tree z) (tree (given ++ f.more)) (all_of (plan_tree z) (tree (given ++ f.more))) (tree ((given ++ f.more) ++ g.more)) (all_of (plan_tree z) (tree ((given ++ f.more) ++ g.more))) e.out d.out) plan g.goes) in
      record {
        more = f.more ++ g.more;
        waited = f.waited ∙ (ap (λ (z : List Token). f.more ++ z) g.waited ∙ sym (append_assoc f.more g.more (waiting d.reader)));
        parts = subst (λ (z : List Token). PartsStand stands lim d b ended z) a g.parts;
        most = λ lent h. g.most lent (f.most lent h);
        goes = goes_on pl (tree given) (all_of pl (tree given)) (tree (given ++ f.more)) (all_of pl (tree (given ++ f.more))) (tree (given ++ (f.more ++ g.more))) (all_of pl (tree (given ++ (f.more ++ g.more)))) old.out e.out d.out f.goes later;
      }

  -- memory ran out later
  pub breaks_on : (old e d : EngineView C) → e.plan ≡ old.plan → (f : FeedsOn stands lim old e b ended given) → Breaks lim e d b ended (given ++ f.more) → Breaks lim old d b ended given
  breaks_on old e d plan f g =
      let pl = plan_tree old.plan in
      let tree = λ (z : List Token). seen_tree (map said_of z) in
      record {
        balance = g.balance;
        written = λ us h.
            let w : (part : List ℕ) × (rest : List ℕ) × (bytes_at pl (seen_tree us) (all_of pl (seen_tree us)) ≡ bytes_at pl (tree (given ++ f.more)) (all_of pl (tree (given ++ f.more))) ++ (part ++ rest)) × (d.out ≡ e.out ++ part)
            = subst (λ z. (part : List ℕ) × (rest : List ℕ) × (bytes_at (plan_tree z) (seen_tree us) (all_of (plan_tree z) (seen_tree us)) ≡ bytes_at (plan_tree z) (tree (given ++ f.more)) (all_of (plan_tree z) (tree (given ++ f.more))) ++ (part ++ rest)) × (d.out ≡ e.out ++ part)) plan (g.written us h) in
            let base = bytes_at pl (tree given) (all_of pl (tree given)) in (
              f.goes.more ++ w.0,
              w.1,
              w.2 ∙ (ap (λ (z : List ℕ). z ++ (w.0 ++ w.1)) f.goes.written ∙ (append_assoc base f.goes.more (w.0 ++ w.1) ∙ ap (λ (z : List ℕ). base ++ z) (sym (append_assoc f.goes.more w.0 w.1)))),
              w.3 ∙ (ap (λ (z : List ℕ). z ++ w.0) f.goes.grew ∙ append_assoc old.out f.goes.more w.0),
            );
      }

  -- what was fed is a front of all
  pub feeds_break : (old d : EngineView C) → d.plan ≡ old.plan → FeedsOn stands lim old d b ended given → Breaks lim old d b ended given
  feeds_break old d plan f =
      let pl = plan_tree old.plan in
      let Q = seen_tree (map said_of (given ++ f.more)) in
      let few = taken_few (plan_tree d.plan) (stands d.actors.machine.conds) d.actors.projector d.actors.machine.position d.actors.buffer Q (all_of (plan_tree d.plan) Q) f.parts.actors in
      let given_is = f.parts.counts.given in
      record {
        balance = omega arith;
        written = λ us h. goes_front pl (seen_tree (map said_of given)) (all_of pl (seen_tree (map said_of given))) Q (all_of pl Q) (seen_tree us) old.out d.out f.goes
            (given_grew d.reader lim b ended (given ++ f.more) f.parts.reader) (given_leads d.reader lim b ended (given ++ f.more) f.parts.reader us h) (omega arith);
      }

-- ---- the refusal that is kept

pub refusal_is : (o : Option DocFault) (r : Result ⊤ DocFault) → r ≡ answer_by o → refusal_of r ≡ o
refusal_is None r e = ap refusal_of e
refusal_is (Some f) r e = ap refusal_of e

-- all tokens that waited were fed, or memory ran out
pub goes_by : {C : Type 0} (stands : C → Tree → Type 0) (lim : Limits) (b : List ℕ) (ended : Bool) (given : List Token) (old e d : EngineView C) (o : Option DocFault) (fed : Result ⊤ Lack) → o ≡ old.reader.refused → e.plan ≡ old.plan
    → OnOk fed (FeedsOn stands lim (record old { refused = o }) e b ended given) → OnOk fed (waiting e.reader ≡ []) → OnErr fed (Breaks lim (record old { refused = o }) e b ended given) → d ≡ record e { refused = lacking o fed } → GoesOn stands lim old d b ended given
goes_by stands lim b ended given old e d o (Ok u) is plan feeds none breaks same =
    let mid = record e { refused = o } in
    let f : FeedsOn stands lim old mid b ended given = record {
      more = feeds.more;
      waited = feeds.waited;
      parts = record { limits = feeds.parts.limits; reader = feeds.parts.reader; actors = feeds.parts.actors; counts = feeds.parts.counts };
      most = feeds.most;
      goes = feeds.goes;
    } in
    subst (λ z. GoesOn stands lim old z b ended given) (sym same) (on_refusal o (feeds_break stands lim b ended given old mid plan f) (record { fed = f; none = none; refused = is }))
goes_by stands lim b ended given old e d o (Err m) is plan feeds none breaks same =
    subst (λ z. GoesOn stands lim old z b ended given) (sym same) (record { balance = breaks.balance; written = breaks.written })

pub parts_refused : {C : Type 0} (stands : C → Tree → Type 0) (lim : Limits) (b : List ℕ) (ended : Bool) (given : List Token) (old : EngineView C) (o : Option DocFault) → PartsStand stands lim old b ended given → PartsStand stands lim (record old { refused = o }) b ended given
parts_refused stands lim b ended given old o p = record { limits = p.limits; reader = p.reader; actors = p.actors; counts = p.counts }
