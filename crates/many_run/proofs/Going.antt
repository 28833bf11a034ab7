-- Tokens fed to all parts, or memory ran out on the way.
use Rattle.std.proofs.Common.{◌≡◌, ◌∙◌, ℕ, Bool, Option, List, [], ◌++◌, length, map, sym, ap, subst, append_assoc}
use Rattle.std.specs.Prelude.{Result, OnOk, OnErr, ⊤}
use Rattle.std.specs.declared.result.Result.TheVariants.{Ok, Err}
use Rattle.std.proofs.lemmas.List.{append-nil}
use Rattle.gcx_base.specs.declared.limits.Limits.{Limits}
use Rattle.gcx_base.specs.declared.memory.Memory.{Memory as Lack}
use Rattle.gcx_model.specs.Core.{PlanTree}
use Rattle.gcx_model.specs.Growth.{Leads}
use Rattle.gcx_model.specs.PlanView.{plan_tree}
use Rattle.gcx_model.specs.Seen.{seen_tree}
use Rattle.gcx_model.specs.Tree.{Tree, TreeToken as Said, opening}
use Rattle.gcx_model.specs.declared.fault.DocFault.{DocFault}
use Rattle.doc_reader.specs.Standing.{ReaderView, Stands, Token, behind_lent, lent_next, said_of, waiting}
use Rattle.doc_reader.proofs.Behind.{stands_all, waits_all}
use Rattle.run_part.specs.Actors.{all_of}
use Rattle.engine.specs.Calls.{TakesLent}
use Rattle.engine.specs.Going.{lacking}
use Rattle.run_part.specs.Late.{AllCome}
use Rattle.engine.proofs.Lending.{all_come, said_lent_next}
use Rattle.engine.proofs.Seeing.{given_come, given_grew, given_leads}
use Rattle.engine.proofs.Waiting.{on_refusal}
use Rattle.run_part.proofs.Writing.{goes_on}
use Rattle.many_run.specs.Each.{AtEach, OfEach}
use Rattle.many_run.specs.Many.{PartGrew}
use Rattle.run_part.specs.Part.{PartStands, ComeBehind, MayTakeSome, PartBreaks, PartGoes, PartTakesSome, PartTakes}
use Rattle.many_run.specs.Parts.{BreaksEach, FedBy, FedEach, FedSome, TokensGiven}
use Rattle.many_run.specs.View.{ManyView}
use Rattle.run_part.specs.View.{PartView}
use Rattle.many_run.proofs.Breaking.{breaks_behind, breaks_whole}
use Rattle.run_part.proofs.PartTaking.{breaks_more}
use Rattle.many_run.proofs.Lists.{each_map, each_on, each_there_with, each_with}

module _ {C : Type 0} (stands : C → Tree → Type 0) (lim : Limits) (b : List ℕ) (ended : Bool) (given : List Token) where
  -- ---- tokens that were taken from the reader, fed to each part

  module _ (old : ManyView C) (h : TokensGiven stands old lim b ended given) (said : List Said) (come : ComeBehind (map said_of given) said) where
    pub each_may : OfEach (λ p. MayTakeSome stands p said) old.parts
    each_may i p at = record { ahead = 1; given = map said_of given; of = h.parts i p at; come = come }

    module _ (more : List Token) (all : map said_of (given ++ more) ≡ map said_of given ++ said) (r : ReaderView) (reader : Stands r lim b ended (given ++ more)) (parts : List (PartView C)) where
      pub feeds_some : waiting old.reader ≡ more ++ waiting r → AtEach (λ p q. PartTakes stands p q said) old.parts parts → FedSome stands old (record old { reader = r; parts = parts }) lim b ended given
      feeds_some waited takes = record {
        more = more;
        waited = waited;
        has = record {
          limits = h.limits;
          reader = reader;
          parts = each_there_with (PartStands stands 1 (map said_of given)) (λ p q. PartTakes stands p q said) (PartStands stands 1 (map said_of (given ++ more))) old.parts parts h.parts
              (λ p q s t. subst (λ (z : List Said). PartStands stands 1 z q) (sym all) (t 1 (map said_of given) s come).stand) takes;
        };
        goes = each_with (PartStands stands 1 (map said_of given)) (λ p q. PartTakes stands p q said) (PartGrew (λ plan. PartGoes plan (map said_of given) (map said_of (given ++ more)))) old.parts parts h.parts
            (λ p q s t. let k = t 1 (map said_of given) s come in record { plan = k.plan; grew = subst (λ (z : List Said). PartGoes (plan_tree p.plan) (map said_of given) z p.out q.out) (sym all) k.goes }) takes;
      }

      -- memory ran out at one of the parts
      pub breaks_some : (q : ReaderView) → AtEach (λ p q. PartTakesSome stands p q said) old.parts parts → BreaksEach old (record old { reader = q; parts = parts }) lim b ended given
      breaks_some q takes us seen =
          let l : Leads opening (seen_tree (map said_of given ++ said)) = subst (λ (z : List Said). Leads opening (seen_tree z)) all (given_grew r lim b ended (given ++ more) reader) in
          let m : Leads (seen_tree (map said_of given ++ said)) (seen_tree us) = subst (λ (z : List Said). Leads (seen_tree z) (seen_tree us)) all (given_leads r lim b ended (given ++ more) reader us seen) in
          each_with (PartStands stands 1 (map said_of given)) (λ p q. PartTakesSome stands p q said) (PartGrew (λ plan. PartBreaks plan (map said_of given) us)) old.parts parts h.parts
          (λ p q s t. let k = t 1 (map said_of given) s come in record { plan = k.plan; grew = breaks_more (plan_tree p.plan) (map said_of given) (map said_of given ++ said) us p.out q.out k.breaks l m }) takes

  -- ---- those that are lent

  module _ (old : ManyView C) (h : TokensGiven stands old lim b ended given) (us : List Said) (tokens : us ≡ map said_of (lent_next old.reader)) where
    abbrev gs : List Token
    gs = lent_next old.reader

    us_come : ComeBehind (map said_of given) us
    us_come = record {
      may = given_come old.reader lim b ended given h.reader;
      come = subst (λ (z : List Said). AllCome (seen_tree (map said_of given)) z) (sym tokens) (all_come lim h.limits b ended old.reader given h.reader);
    }

    all_said : map said_of (given ++ gs) ≡ map said_of given ++ us
    all_said = said_lent_next old.reader given us tokens

    pub lent_may : OfEach (λ p. MayTakeSome stands p us) old.parts
    lent_may = each_may old h us us_come

    pub lent_feeds : (r : ReaderView) (parts : List (PartView C)) → TakesLent old.reader r → AtEach (λ p q. PartTakes stands p q us) old.parts parts → FedSome stands old (record old { reader = r; parts = parts }) lim b ended given
    lent_feeds r parts is takes =
        feeds_some old h us us_come gs all_said r (subst (λ (z : ReaderView). Stands z lim b ended (given ++ gs)) (sym is) (stands_all old.reader lim b ended given h.reader)) parts
        (waits_all old.reader ∙ ap (λ (z : ReaderView). gs ++ waiting z) (sym is)) takes

    pub lent_breaks : (parts : List (PartView C)) → AtEach (λ p q. PartTakesSome stands p q us) old.parts parts → BreaksEach old (record old { parts = parts }) lim b ended given
    lent_breaks parts takes = breaks_some old h us us_come gs all_said (behind_lent (length gs) old.reader) (stands_all old.reader lim b ended given h.reader) parts old.reader takes

  -- ---- one behind the other

  module _ (old mid new : ManyView C) (f : FedSome stands old mid lim b ended given) where
    abbrev ts : List Said
    ts = map said_of given

    abbrev us : List Said
    us = map said_of (given ++ f.more)

    pub fed_on : FedSome stands mid new lim b ended (given ++ f.more) → FedSome stands old new lim b ended given
    fed_on g =
        let longer : (given ++ f.more) ++ g.more ≡ given ++ (f.more ++ g.more) = append_assoc given f.more g.more in
        let vs = map said_of ((given ++ f.more) ++ g.more) in
        record {
          more = f.more ++ g.more;
          waited = f.waited ∙ (ap (λ (z : List Token). f.more ++ z) g.waited ∙ sym (append_assoc f.more g.more (waiting new.reader)));
          has = subst (λ (z : List Token). TokensGiven stands new lim b ended z) longer g.has;
          goes = subst (λ (z : List Token). AtEach (PartGrew (λ plan. PartGoes plan ts (map said_of z))) old.parts new.parts) longer
              (each_on (PartGrew (λ plan. PartGoes plan ts us)) (PartGrew (λ plan. PartGoes plan us vs)) (PartGrew (λ plan. PartGoes plan ts vs)) old.parts mid.parts new.parts
              (λ x y z p q. let plan = plan_tree x.plan in record {
                plan = q.plan ∙ p.plan;
                grew = goes_on plan (seen_tree ts) (all_of plan (seen_tree ts)) (seen_tree us) (all_of plan (seen_tree us)) (seen_tree vs) (all_of plan (seen_tree vs)) x.out y.out z.out p.grew
                    (subst (λ (pl : PlanTree). PartGoes pl us vs y.out z.out) (ap plan_tree p.plan) q.grew);
              })
              f.goes g.goes);
        }

    pub breaks_on : BreaksEach mid new lim b ended (given ++ f.more) → BreaksEach old new lim b ended given
    breaks_on k vs seen =
        each_on (PartGrew (λ plan. PartGoes plan ts us)) (PartGrew (λ plan. PartBreaks plan us vs)) (PartGrew (λ plan. PartBreaks plan ts vs)) old.parts mid.parts new.parts
        (λ x y z p q. record {
          plan = q.plan ∙ p.plan;
          grew = breaks_behind (plan_tree x.plan) ts us vs x.out y.out z.out p.grew (subst (λ (pl : PlanTree). PartBreaks pl us vs y.out z.out) (ap plan_tree p.plan) q.grew);
        })
        f.goes (k vs seen)

  -- ---- all that waited

  fed_all : (old new : ManyView C) → FedSome stands old new lim b ended given → waiting new.reader ≡ [] → FedEach stands old new lim b ended given
  fed_all old new f none =
      let all : f.more ≡ waiting old.reader = sym (f.waited ∙ (ap (λ (z : List Token). f.more ++ z) none ∙ append-nil f.more)) in
      record {
        has = subst (λ (z : List Token). TokensGiven stands new lim b ended (given ++ z)) all f.has;
        none = none;
        goes = subst (λ (z : List Token). AtEach (PartGrew (λ plan. PartGoes plan (map said_of given) (map said_of (given ++ z)))) old.parts new.parts) all f.goes;
      }

  -- a part that was fed everything has written a front of what is seen, too
  fed_breaks : (old new : ManyView C) → FedEach stands old new lim b ended given → BreaksEach old new lim b ended given
  fed_breaks old new f us seen =
      let ts = given ++ waiting old.reader in
      each_map (PartGrew (λ plan. PartGoes plan (map said_of given) (map said_of ts))) (PartGrew (λ plan. PartBreaks plan (map said_of given) us)) old.parts new.parts
      (λ p q g. record {
        plan = g.plan;
        grew = breaks_more (plan_tree p.plan) (map said_of given) (map said_of ts) us p.out q.out (breaks_whole (plan_tree p.plan) (map said_of given) (map said_of ts) p.out q.out g.grew)
            (given_grew new.reader lim b ended ts f.has.reader) (given_leads new.reader lim b ended ts f.has.reader us seen);
      })
      f.goes

  -- the refusal that is kept
  pub goes_by : (old e : ManyView C) (o : Option DocFault) (fed : Result ⊤ Lack) → o ≡ old.reader.refused → OnOk fed (FedSome stands old e lim b ended given) → OnOk fed (waiting e.reader ≡ []) → OnErr fed (BreaksEach old e lim b ended given)
      → FedBy stands old (record e { refused = lacking o fed }) lim b ended given
  goes_by old e o (Ok u) is feeds none breaks =
      let mid : ManyView C = record e { refused = o } in
      let k : FedEach stands old e lim b ended given = fed_all old e feeds none in
      let f : FedEach stands old mid lim b ended given = record {
        has = record { limits = k.has.limits; reader = k.has.reader; parts = k.has.parts };
        none = k.none;
        goes = k.goes;
      } in
      on_refusal o (fed_breaks old mid f) (record { fed = f; refused = is })
  goes_by old e o (Err m) is feeds none breaks = λ us seen. breaks us seen
