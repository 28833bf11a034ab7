-- Tokens that are lent by the reader, fed together.
use Rattle.std.proofs.Common.{◌≡◌, ℕ, Bool, true, List, [], ◌∷◌, ◌++◌, length, map, Option, refl, sym, ap, ◌∙◌, subst, arith}
use Rattle.gcx_base.specs.declared.limits.Limits.{Limits}
use Rattle.gcx_model.specs.declared.fault.DocFault.{DocFault}
use Rattle.gcx_model.specs.Core.{PlanTree}
use Rattle.gcx_model.specs.Demand.{Line, demand, text_of_lines}
use Rattle.gcx_model.specs.PlanView.{plan_tree}
use Rattle.gcx_model.specs.Growth.{Leads}
use Rattle.gcx_model.specs.Seen.{seen_tree}
use Rattle.gcx_model.specs.Tree.{Tree, TreeToken as Said, opening, grow_all}
use Rattle.doc_laws.proofs.TreeBounds.{seen_within}
use Rattle.doc_reader.specs.Standing.{KeepsAnswer, ReaderView, Stands, Token, behind_lent, lent_next, said_of, waiting}
use Rattle.doc_reader.proofs.Behind.{behind_keeps, one_behind, stands_all, stands_one, waits_all}
use Rattle.doc_reader.proofs.Givings.{said-append}
use Rattle.run_part.specs.View.{PartView}
use Rattle.run_part.specs.Actors.{Goes, all_of}
use Rattle.run_part.specs.Late.{AllCome, IsLow, StandBehind}
use Rattle.run_part.specs.Part.{ComeBehind, KeepsPart, MayTakeSome, PartBreaks, PartStands, PartTakesSome, PartTakes}
use Rattle.run_part.specs.Telling.{GrewPart}
use Rattle.run_part.proofs.PartTaking.{breaks_more}
use Rattle.run_part.proofs.Telling.{lines_first}
use Rattle.engine.specs.View.{over_part}
use Rattle.engine.specs.Calls.{GoesAlone, TakesLent, ToldSome, more_lines}
use Rattle.engine.specs.Engine.{MayLimit, PartsStand}
use Rattle.engine.specs.Going.{Breaks, FeedsOn}
use Rattle.engine.proofs.Seeing.{given_come, given_grew, given_leads, next_comes, seeing, tree_on}
use Rattle.engine.proofs.TellingOn.{more_append}

-- what taking tokens keeps
pub keeps_behind : (q r : ReaderView) (count : ℕ) → r ≡ behind_lent count q → KeepsAnswer q r
keeps_behind q r count same = subst (λ (z : ReaderView). KeepsAnswer q z) (sym same) (behind_keeps q count)

-- behind the tokens given a document is no deeper than it may be
low_given : (lim : Limits) → MayLimit lim → (b : List ℕ) (ended : Bool) (r : ReaderView) (given : List Token) → Stands r lim b ended given → IsLow (seen_tree (map said_of given))
low_given lim l b ended r given s n e =
    let x = seeing r lim b ended given s in
    let w = seen_within lim b ended (map said_of given ++ x.rest) (map said_of given) x.rest x.seen refl in
    let h = w.open_elements n e in
    let d = l.depth in
    omega arith

-- tokens that wait come behind those given
front_comes : (lim : Limits) → MayLimit lim → (b : List ℕ) (ended : Bool) (us more : List Token) (r : ReaderView) (given : List Token) → waiting r ≡ us ++ more → Stands r lim b ended given → AllCome (seen_tree (map said_of given)) (map said_of us)
front_comes lim l b ended [] more r given e s = low_given lim l b ended r given s
front_comes lim l b ended (u ∷ us) more r given e s = (
  next_comes r lim b ended given s l u (us ++ more) e,
  subst (λ (T : Tree). AllCome T (map said_of us)) (tree_on given u)
      (front_comes lim l b ended us more (behind_lent 1 r) (given ++ u ∷ []) (one_behind r u (us ++ more) e).2 (stands_one r u (us ++ more) e lim b ended given s)),
)

-- so do those that are lent
pub all_come : (lim : Limits) → MayLimit lim → (b : List ℕ) (ended : Bool) (r : ReaderView) (given : List Token) → Stands r lim b ended given → AllCome (seen_tree (map said_of given)) (map said_of (lent_next r))
all_come lim l b ended r given s = front_comes lim l b ended (lent_next r) (waiting (behind_lent (length (lent_next r)) r)) r given (waits_all r) s

pub said_lent_next : (r : ReaderView) (given : List Token) (us : List Said) → us ≡ map said_of (lent_next r) → map said_of (given ++ lent_next r) ≡ map said_of given ++ us
said_lent_next r given us tokens = said-append given (lent_next r) ∙ ap (λ (ts : List Said). map said_of given ++ ts) (sym tokens)

-- The engine is over this part and this reader, and stands for these tokens.
module _ {C : Type 0} (stands : C → Tree → Type 0) (lim : Limits) (b : List ℕ) (ended : Bool) (given : List Token) (p : PartView C) (r : ReaderView) (n : ℕ) (o : Option DocFault) (z : Bool)
    (h : PartsStand stands lim (over_part p r n o z) b ended given) where
  abbrev ts : List Said
  ts = map said_of given

  abbrev gs : List Token
  gs = lent_next r

  abbrev pl : PlanTree
  pl = plan_tree p.plan

  part_stands : PartStands stands p.ahead ts p
  part_stands = (refl, record { actors = h.actors; counts = h.counts })

  module _ (us : List Said) (tokens : us ≡ map said_of gs) where
    us_come : ComeBehind ts us
    us_come = record {
      may = given_come r lim b ended given h.reader;
      come = subst (λ (x : List Said). AllCome (seen_tree ts) x) (sym tokens) (all_come lim h.limits b ended r given h.reader);
    }

    all_said : map said_of (given ++ gs) ≡ ts ++ us
    all_said = said_lent_next r given us tokens

    -- the part may take those that are lent
    pub part_may : MayTakeSome stands p us
    part_may = record { ahead = p.ahead; given = ts; of = part_stands; come = us_come }

    -- they were taken from the reader, and fed
    module _ (q : PartView C) (s : ReaderView) (reader : TakesLent r s) (takes : PartTakes stands p q us) where
      waits_now : waiting r ≡ gs ++ waiting s
      waits_now = waits_all r ∙ ap (λ (x : ReaderView). gs ++ waiting x) (sym reader)

      pub lent_feeds : FeedsOn stands lim (over_part p r n o z) (over_part q s n o z) b ended given
      lent_feeds =
          let t = takes p.ahead ts part_stands us_come in
          let behind : StandBehind stands (plan_tree q.plan) q.ahead q.actors (map said_of (given ++ gs))
          = subst (λ (x : List Said). StandBehind stands (plan_tree q.plan) q.ahead q.actors x) (sym all_said) (subst (λ k. StandBehind stands (plan_tree q.plan) k q.actors (ts ++ us)) (sym t.stand.0) t.stand.1) in
          record {
            more = gs;
            waited = waits_now;
            parts = record {
              limits = h.limits;
              reader = subst (λ (x : ReaderView). Stands x lim b ended (given ++ gs)) (sym reader) (stands_all r lim b ended given h.reader);
              actors = behind.actors;
              counts = behind.counts;
            };
            most = t.most;
            goes = subst (λ (x : List Said). Goes pl (seen_tree ts) (all_of pl (seen_tree ts)) (seen_tree x) (all_of pl (seen_tree x)) p.out q.out) (sym all_said) t.goes;
          }

      -- and told
      pub lent_told : p.tracing ≡ true → ToldSome pl (seen_tree ts) (waiting r) (waiting s) p.trace q.trace
      lent_told wanted =
          let t = takes p.ahead ts part_stands us_come in
          record {
            more = gs;
            waited = waits_now;
            told = t.told wanted ∙ ap (λ (x : List Said). p.trace ++ text_of_lines (demand pl x (seen_tree ts))) tokens;
          }

    -- or memory ran out behind some of them
    module _ (q : PartView C) (takes : PartTakesSome stands p q us) where
      pub lent_breaks : Breaks lim (over_part p r n o z) (over_part q r n o z) b ended given
      lent_breaks =
          let t = takes p.ahead ts part_stands us_come in
          let x = behind_lent (length gs) r in
          let taken : Stands x lim b ended (given ++ gs) = stands_all r lim b ended given h.reader in
          let l : Leads opening (seen_tree (ts ++ us)) = subst (λ (y : List Said). Leads opening (seen_tree y)) all_said (given_grew x lim b ended (given ++ gs) taken) in
          record {
            balance = t.balance;
            written = λ vs seen.
                let m : Leads (seen_tree (ts ++ us)) (seen_tree vs) = subst (λ (y : List Said). Leads (seen_tree y) (seen_tree vs)) all_said (given_leads x lim b ended (given ++ gs) taken vs seen) in
                let k : PartBreaks pl ts vs p.out q.out = breaks_more pl ts (ts ++ us) vs p.out q.out t.breaks l m in
                (k.part, k.rest, k.written, k.grew);
          }

      pub lent_told_some : p.tracing ≡ true → GrewPart p.trace q.trace (text_of_lines (more_lines pl (seen_tree ts) (waiting r)))
      lent_told_some wanted =
          let t = takes p.ahead ts part_stands us_come in
          let P = seen_tree ts in
          let rest = waiting (behind_lent (length gs) r) in
          let part : GrewPart p.trace q.trace (text_of_lines (more_lines pl P gs)) = subst (λ (x : List Said). GrewPart p.trace q.trace (text_of_lines (demand pl x P))) tokens (t.told wanted) in
          subst (λ (x : List Token). GrewPart p.trace q.trace (text_of_lines (more_lines pl P x))) (sym (waits_all r))
          (subst (λ (x : List Line). GrewPart p.trace q.trace (text_of_lines x)) (sym (more_append pl P gs rest)) (lines_first p.trace q.trace (more_lines pl P gs) (more_lines pl (grow_all (map said_of gs) P) rest) part))

-- what stays of the engine
pub lent_alone : {C : Type 0} (p q : PartView C) (r s : ReaderView) (n : ℕ) (o : Option DocFault) (z : Bool) → KeepsPart p q → KeepsAnswer r s → GoesAlone (over_part p r n o z) (over_part q s n o z)
lent_alone {C} p q r s n o z k keeps = record {
  rest = ap (λ (x : PartView C). over_part x s n o z) k.rest;
  keeps = keeps;
  silent = λ i. record { untold = ap (λ (x : PartView C). x.tracing) k.rest ∙ i.untold; empty = k.untold i.untold ∙ i.empty };
  loans = k.loans;
}
