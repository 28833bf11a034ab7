-- A part takes what a reader lends, and has it written outside.
use Rattle.std.proofs.Common.{◌≡◌, ◌∙◌, ◌≤◌, ◌<◌, ℕ, zero, suc, Bool, false, List, [], ◌++◌, length, map, Option, None, Some, refl, sym, ap, subst, arith}
use Rattle.gcx_base.specs.Limits.{full_limits}
use Rattle.gcx_model.specs.PlanView.{plan_tree}
use Rattle.gcx_model.specs.Seen.{seen_tree}
use Rattle.gcx_model.specs.Tree.{TreeToken as Said}
use Rattle.doc_reader.specs.Standing.{AreLent, Lent, ReaderView, Stands, behind_lent, lent_next, said_of}
use Rattle.doc_reader.proofs.Behind.{lent_many, stands_all}
use Rattle.engine.specs.Engine.{MayLimit}
use Rattle.engine.proofs.Lending.{all_come, said_lent_next}
use Rattle.engine.proofs.Seeing.{given_come}
use Rattle.many_run.proofs.Walking.{some_is}
use Rattle.outside.specs.Outputs.{MayTakeTokens}
use Rattle.outside.specs.Places.{Few, MayWriteTo}
use Rattle.outside.specs.Tokens.{AllCome, ComeBehind, said_lent}
use Rattle.run_part.specs.Late.{StandBehind}
use Rattle.run_part.specs.Part.{PartStands}
use Rattle.run_part.specs.Taker.{PartStays, of_both, part_few, part_places, part_stands}
use Rattle.run_part.specs.View.{PartView}
use Rattle.engine_tests.specs.Taking.{TookGiven}

full_may : MayLimit full_limits
full_may = let d : 1000 ≤ 1000 = omega arith in let b : 1099511627776 ≤ 1099511627776 = omega arith in record { depth = d; bytes = b }

-- a part that was made stands for no tokens
pub made_stands : {C : Type 0} (ahead : ℕ) (p : PartView C) → PartStands (λ c P. Unit {0}) ahead [] p → part_stands (λ c P. Unit {0}) p []
made_stands ahead p s = subst (λ (k : ℕ). StandBehind (λ c P. Unit {0}) (plan_tree p.plan) k p.actors []) (sym s.0) s.1

-- ---- where outputs go

-- an output alone, to place 0
pub first_place : {C : Type 0} (p : PartView C) → p.output_at ≡ 0 → p.lines_at ≡ None → (i k : ℕ) → part_places p i ≡ Some k → k ≡ 0
first_place p out lines zero k e = let same : p.output_at ≡ k = some_is (Some p.output_at) p.output_at k refl e in sym same ∙ out
first_place p out lines (suc i) k e = let off : None ≡ Some k = sym lines ∙ e in let z : ⊥ = cc in absurd z

-- or an output there, and its lines at place 1
pub both_places : {C : Type 0} (p : PartView C) → p.output_at ≡ 0 → p.lines_at ≡ Some 1 → (i k : ℕ) → part_places p i ≡ Some k → k < 2
both_places p out lines zero k e = let same : p.output_at ≡ k = some_is (Some p.output_at) p.output_at k refl e in omega (arith, same, out)
both_places p out lines (suc i) k e = let same : 1 ≡ k = some_is p.lines_at 1 k lines e in omega (arith, same)

same_both : {X : Type 0} (x y u v : X) → x ≡ u → y ≡ v → (i : ℕ) → of_both x y i ≡ of_both u v i
same_both x y u v e f zero = e
same_both x y u v e f (suc i) = f

-- they go where they went
pub still_may : {C W : Type 0} (may : W → ℕ → Type 0) (p q : PartView C) (v w : W) → PartStays p q → ((k : ℕ) → may v k → may w k) → MayWriteTo part_places may p v → MayWriteTo part_places may q w
still_may may p q v w stays on h i k e =
    let same : part_places p i ≡ part_places q i = same_both (Some p.output_at) p.lines_at (Some q.output_at) q.lines_at (sym (ap Some stays.output_is)) (sym stays.lines_is) i in
    on k (h i k (same ∙ e))

-- where all was to be written few bytes wait
pub few_left : {C : Type 0} (p : PartView C) (all some : Option ℕ) → ((n : ℕ) → Few all n → Few some n) → part_few p all → part_few p some
few_left p all some less few = (less (length p.out) few.0, less (length p.trace) few.1)

-- ---- what is lent is taken

module _ {C W : Type 0} (may : W → ℕ → Type 0) (most : W → Bool → Option ℕ) where
  -- before any byte
  pub took_none : (r : ReaderView) (p : PartView C) (w : W) → Stands r full_limits [] false [] → part_stands (λ c P. Unit {0}) p [] → MayWriteTo part_places may p w → part_few p (most w false)
      → TookGiven may most false r p w
  took_none r p w reader part places few = record { read = []; given = []; reader = reader; part = part; places = places; few = few }

  -- the reader was fed, or ended
  pub took_read : (was now : Bool) (r s : ReaderView) (p : PartView C) (w : W) (x : TookGiven may most was r p w) (read : List ℕ) → Stands s full_limits read now x.given → TookGiven may most now s p w
  took_read was now r s p w x read reader = record { read = read; given = x.given; reader = reader; part = x.part; places = x.places; few = x.few }

  -- the tokens that are lent come behind those given
  lent_come : (ended : Bool) (r : ReaderView) (p : PartView C) (w : W) (x : TookGiven may most ended r p w) (us : List Said) → us ≡ map said_of (lent_next r) → ComeBehind (map said_of x.given) us
  lent_come ended r p w x us tokens = record {
    may = given_come r full_limits x.read ended x.given x.reader;
    come = subst (λ (z : List Said). AllCome (seen_tree (map said_of x.given)) z) (sym tokens) (all_come full_limits full_may x.read ended r x.given x.reader);
  }

  -- so the part may take them
  pub may_take : (ended : Bool) (r : ReaderView) (p : PartView C) (w : W) → TookGiven may most ended r p w → (us : List Said) → us ≡ map said_of (lent_next r) → MayTakeTokens (part_stands (λ c P. Unit {0}) p) us
  may_take ended r p w x us tokens = record { given = map said_of x.given; of = x.part; come = lent_come ended r p w x us tokens }

  -- and it stands for them then
  pub took_lent : (ended : Bool) (r s : ReaderView) (p q : PartView C) (v w : W) (lent : List Lent) (bytes : List ℕ) → AreLent lent bytes (map said_of (lent_next r)) → s ≡ behind_lent (length lent) r
      → ((given : List Said) → part_stands (λ c P. Unit {0}) p given → ComeBehind given (said_lent bytes lent) → part_stands (λ c P. Unit {0}) q (given ++ said_lent bytes lent))
      → part_few q (most w false) → PartStays p q → ((k : ℕ) → may v k → may w k) → TookGiven may most ended r p v → TookGiven may most ended s q w
  took_lent ended r s p q v w lent bytes are behind takes few stays on x =
      let us = said_lent bytes lent in
      let taken : s ≡ behind_lent (length (lent_next r)) r = behind ∙ ap (λ k. behind_lent k r) (sym (lent_many (lent_next r) lent bytes are)) in
      record {
        read = x.read;
        given = x.given ++ lent_next r;
        reader = subst (λ (z : ReaderView). Stands z full_limits x.read ended (x.given ++ lent_next r)) (sym taken) (stands_all r full_limits x.read ended x.given x.reader);
        part = subst (λ (ts : List Said). part_stands (λ c P. Unit {0}) q ts) (sym (said_lent_next r x.given us are.tokens_are)) (takes (map said_of x.given) x.part (lent_come ended r p v x us are.tokens_are));
        places = still_may may p q v w stays on x.places;
        few = few;
      }
