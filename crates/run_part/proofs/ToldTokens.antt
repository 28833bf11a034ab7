-- Lent tokens that are taken one at a time, with their lines.
use Rattle.std.proofs.Common.{◌≡◌, ℕ, ◌<◌, ◌≤◌, true, max, List, [], ◌∷◌, ◌++◌, length, refl, sym, ◌∙◌, ap, subst, arith, append_assoc}
use Rattle.std.proofs.lemmas.List.{append-nil}
use Rattle.gcx_model.specs.Core.{PlanTree}
use Rattle.gcx_model.specs.Growth.{Leads, may_all}
use Rattle.gcx_model.specs.Held.{held, sum_given}
use Rattle.gcx_model.specs.Points.{actions, so_far}
use Rattle.gcx_model.specs.Seen.{seen_tree}
use Rattle.gcx_model.specs.Tree.{Tree, TreeToken as Said, Start, Chars, End, opening, grow, grow_all}
use Rattle.gcx_model.specs.Demand.{Line, demand, text_of_lines}
use Rattle.tree_laws.proofs.Growing.{grow_all-append, leads}
use Rattle.run_laws.proofs.Goes.{demand-append}
use Rattle.doc_reader.specs.Standing.{given_token, said_of}
use Rattle.buf_tree.specs.View.{capped}
use Rattle.run_part.specs.View.{ActorsView}
use Rattle.run_part.specs.declared.actors.Tallied.{Tallied}
use Rattle.run_part.specs.Actors.{ActsOnFrom, ActsSomeFrom, ComesWithin, Counted, FeedsOne, Goes, IsBalanced, MayFeed, SomeActors, StandAt, all_of, past_at}
use Rattle.run_part.specs.Counts.{CountsOf}
use Rattle.run_part.specs.Late.{AllCome, BreaksLent, BrokeLate, FedLent, FeedsLent, KeepsMostLate, MayFeedAll, StandBehind}
use Rattle.run_part.specs.Telling.{GrewPart, TellsLent, TellsSomeLent}
use Rattle.run_part.proofs.Counting.{counts_acted, counts_on}
use Rattle.run_part.proofs.LateGroups.{broke_first, come_front, come_may, come_next, may_behind}
use Rattle.run_part.proofs.RowsHeld.{rows_count}
use Rattle.run_part.proofs.Telling.{lines_behind, lines_first, lines_on}
use Rattle.run_part.proofs.Writing.{goes_fed, goes_on}

-- a token of its own says what the lent one does
pub said_given : (t : Said) → said_of (given_token t) ≡ t
said_given (Start name) = refl
said_given (Chars text) = refl
said_given End = refl

module _ {C : Type 0} (stands : C → Tree → Type 0) (plan : PlanTree) (ahead : ℕ) where
  -- ---- one token behind others

  module _ (old : ActorsView C) (ts : List Said) (t : Said) (m : MayFeedAll stands plan ahead old ts (t ∷ [])) where
    abbrev P : Tree
    P = seen_tree ts

    abbrev Q : Tree
    Q = grow t P

    abbrev k : ℕ
    k = all_of plan P

    pub one_comes : ComesWithin t P
    one_comes = m.come.0

    pub one_may : MayFeed stands old t
    one_may = record { plan = plan; tree = P; taken = k; of = m.stand.actors; comes = one_comes }

    tree_next : seen_tree (ts ++ t ∷ []) ≡ Q
    tree_next = grow_all-append ts (t ∷ []) opening

    pub one_grew : Leads opening P
    one_grew = leads ts opening m.may

    pub one_leads : Leads P Q
    one_leads = leads (t ∷ []) P (come_may P (t ∷ []) m.come)

    one_goes : (w : List ℕ) → Goes plan P k Q k w w
    one_goes w = goes_fed plan P Q k w one_grew one_leads (omega arith)

    -- memory ran out before it was fed
    pub one_lost : (d : ActorsView C) (w : List ℕ) → IsBalanced d → BrokeLate plan d ts (t ∷ []) w w
    one_lost d w balance = broke_first [] stands plan ahead d ts (t ∷ []) w m.may balance

    module _ (e : ActorsView C) (one : FeedsOne stands plan old e t P k) where
      counts_next : CountsOf plan (ts ++ t ∷ []) ahead e.buffer e.counts
      counts_next =
          let is = m.stand.actors.beside.buffer.is_past in
          let none : ts ++ [] ≡ ts = append-nil ts in
          let may : may_all ((ts ++ []) ++ t ∷ []) opening ≡ true = subst (λ (z : List Said). may_all (z ++ t ∷ []) opening ≡ true) (sym none) (may_behind ts (t ∷ []) m.may m.come) in
          let c : CountsOf plan (ts ++ []) ahead old.buffer old.counts = subst (λ (z : List Said). CountsOf plan z ahead old.buffer old.counts) (sym none) m.stand.counts in
          let x : Counted plan t (seen_tree (ts ++ [])) k old.buffer e.buffer old.counts e.counts = subst (λ (z : List Said). Counted plan t (seen_tree z) k old.buffer e.buffer old.counts e.counts) (sym none) one.counted in
          let few : 0 < ahead = let l = m.stand.counts.peak.least in let n = m.stand.counts.peak.near in omega arith in
          subst (λ (z : List Said). CountsOf plan (z ++ t ∷ []) ahead e.buffer e.counts) none
          (counts_on is.core is.good plan is.placed ts [] t may ahead few old.buffer e.buffer old.counts e.counts c x)

      most_next : KeepsMostLate old e
      most_next lent h =
          let most : e.buffer.most ≡ max old.buffer.most (length (held plan Q (so_far plan P k))) = one.counted.most m.stand.counts.store_now in
          let peak = one.counted.peak in
          omega arith

      -- no action is possible behind it that wasn't
      pub one_quiet : actions plan Q ≡ actions plan P → (w : List ℕ) → FedLent stands plan ahead old e ts (t ∷ []) w w
      one_quiet q w =
          let same : k ≡ all_of plan Q = ap length (sym q) in
          record {
            stand = record {
              actors = subst (λ (T : Tree). StandAt stands plan e T (all_of plan T)) (sym tree_next) (subst (λ n. StandAt stands plan e Q n) same one.actors);
              counts = counts_next;
            };
            goes = subst (λ (T : Tree). Goes plan P k T (all_of plan T) w w) (sym tree_next) (subst (λ n. Goes plan P k Q n w w) same (one_goes w));
            most = most_next;
          }

      pub one_actors : SomeActors stands e
      one_actors = record { plan = plan; tree = Q; taken = k; of = one.actors }

      module _ (d : ActorsView C) (u w : List ℕ) (counts : d.counts ≡ e.counts) where
        -- every action was taken
        pub one_acted : d.buffer.most ≡ e.buffer.most → ActsOnFrom stands e d u w → FedLent stands plan ahead old d ts (t ∷ []) u w
        one_acted most acts =
            let a = acts plan Q k one.actors in
            let is = one.actors.beside.buffer.is_past in
            let all = all_of plan Q in
            let before : length e.buffer.rows ≡ length (held plan Q (so_far plan Q k)) = rows_count e.buffer (past_at plan Q k one.actors.fed) one.actors.beside.buffer in
            let behind : length d.buffer.rows ≡ length (held plan Q (so_far plan Q all)) = rows_count d.buffer (past_at plan Q all a.actors.fed) a.actors.beside.buffer in
            let c : CountsOf plan (ts ++ t ∷ []) ahead d.buffer e.counts = counts_acted is.core is.good plan is.placed (ts ++ t ∷ []) ahead k e.buffer d.buffer e.counts
            (subst (λ (T : Tree). length e.buffer.rows ≡ length (held plan T (so_far plan T k))) (sym tree_next) before)
            (subst (λ (T : Tree). length d.buffer.rows ≡ length (held plan T (so_far plan T (all_of plan T)))) (sym tree_next) behind) most counts_next in
            record {
              stand = record {
                actors = subst (λ (T : Tree). StandAt stands plan d T (all_of plan T)) (sym tree_next) a.actors;
                counts = subst (λ (z : Tallied). CountsOf plan (ts ++ t ∷ []) ahead d.buffer z) (sym counts) c;
              };
              goes = subst (λ (T : Tree). Goes plan P k T (all_of plan T) u w) (sym tree_next) (goes_on plan P k Q k Q all u u w (one_goes u) a.goes);
              most = λ lent h. most ∙ (most_next lent h ∙ ap (λ (z : Tallied). max lent z.peak) (sym counts));
            }

        -- or some of them
        pub one_broke : ActsSomeFrom stands e d u w → BrokeLate plan d ts (t ∷ []) u w
        one_broke acts =
            let a = acts plan Q k one.actors in
            let given : d.counts.given ≡ capped (sum_given plan Q) = ap (λ (z : Tallied). z.given) counts ∙ one.counted.given m.stand.counts.given in
            let few = a.balance in
            record {
              fed = t ∷ [];
              rest = [];
              parts = refl;
              taken = a.taken;
              there = subst (λ (T : Tree). a.taken ≤ all_of plan T) (sym tree_next) a.there;
              goes = subst (λ (T : Tree). Goes plan P k T a.taken u w) (sym tree_next) (goes_on plan P k Q k Q a.taken u u w (one_goes u) a.goes);
              balance = omega arith;
            }

  -- ---- the tokens of a slice

  -- The first of them were taken, and told. These are left.
  pub record AmongTold (old e : ActorsView C) (ts all rest : List Said) (u v before now : List ℕ) : Type 0 where
    pub done : List Said
    pub parts : all ≡ done ++ rest
    pub fed : FedLent stands plan ahead old e ts done u v
    pub told : now ≡ before ++ text_of_lines (demand plan done (seen_tree ts))

  abbrev pub told_begins : (a : ActorsView C) (ts all : List Said) (u before : List ℕ) → MayFeedAll stands plan ahead a ts all → AmongTold a a ts all all u u before before
  told_begins a ts all u before m =
      let e : ts ≡ ts ++ [] = sym (append-nil ts) in
      let P = seen_tree ts in
      record {
        done = [];
        parts = refl;
        fed = record {
          stand = subst (λ (z : List Said). StandBehind stands plan ahead a z) e m.stand;
          goes = subst (λ (z : List Said). Goes plan P (all_of plan P) (seen_tree z) (all_of plan (seen_tree z)) u u) e (record { more = []; written = sym (append-nil _); grew = sym (append-nil u) });
          most = λ lent h. h;
        };
        told = sym (append-nil before);
      }

  module _ (old e : ActorsView C) (ts all : List Said) (u v before now : List ℕ) (may : may_all ts opening ≡ true) (come : AllCome (seen_tree ts) all) where
    -- the next one may be taken
    pub told_may : (t : Said) (rest : List Said) (a : AmongTold old e ts all (t ∷ rest) u v before now) → MayFeedAll stands plan ahead e (ts ++ a.done) (t ∷ [])
    told_may t rest a =
        let parts : AllCome (seen_tree ts) (a.done ++ t ∷ rest) = subst (λ (z : List Said). AllCome (seen_tree ts) z) a.parts come in
        record {
          stand = a.fed.stand;
          may = may_behind ts a.done may (come_front (seen_tree ts) a.done (t ∷ rest) parts);
          come = come_front (seen_tree (ts ++ a.done)) (t ∷ []) rest (come_next ts a.done (t ∷ rest) parts);
        }

    -- what stands behind some tokens and more
    pub text_more : (done more : List Said) → text_of_lines (demand plan (done ++ more) (seen_tree ts)) ≡ text_of_lines (demand plan done (seen_tree ts) ++ demand plan more (seen_tree (ts ++ done)))
    text_more done more =
        ap text_of_lines (demand-append plan done more (seen_tree ts))
        ∙ ap (λ (T : Tree). text_of_lines (demand plan done (seen_tree ts) ++ demand plan more T)) (sym (grow_all-append ts done opening))

    module _ (t : Said) (rest : List Said) (a : AmongTold old e ts all (t ∷ rest) u v before now) (d : ActorsView C) (w : List ℕ) (after : List ℕ) where
      -- it was
      abbrev pub told_next : FeedsLent stands ahead e d (t ∷ []) v w → TellsLent stands ahead e (t ∷ []) now after → AmongTold old d ts all rest u w before after
      told_next feeds tells =
          let m = told_may t rest a in
          let f = feeds plan (ts ++ a.done) m in
          let longer : (ts ++ a.done) ++ t ∷ [] ≡ ts ++ (a.done ++ t ∷ []) = append_assoc ts a.done (t ∷ []) in
          let P = seen_tree ts in
          let Q = seen_tree (ts ++ a.done) in
          let R = seen_tree (ts ++ (a.done ++ t ∷ [])) in
          let later : Goes plan Q (all_of plan Q) R (all_of plan R) v w = subst (λ (z : List Said). Goes plan Q (all_of plan Q) (seen_tree z) (all_of plan (seen_tree z)) v w) longer f.goes in
          record {
            done = a.done ++ t ∷ [];
            parts = a.parts ∙ sym (append_assoc a.done (t ∷ []) rest);
            fed = record {
              stand = subst (λ (z : List Said). StandBehind stands plan ahead d z) longer f.stand;
              goes = goes_on plan P (all_of plan P) Q (all_of plan Q) R (all_of plan R) u v w a.fed.goes later;
              most = λ lent h. f.most lent (a.fed.most lent h);
            };
            told = lines_on before now after (demand plan a.done P) (demand plan (t ∷ []) Q) a.told (tells plan (ts ++ a.done) m)
                ∙ ap (λ (z : List ℕ). before ++ z) (sym (text_more a.done (t ∷ [])));
          }

      -- or memory ran out
      pub told_breaks : BreaksLent stands ahead e d (t ∷ []) v w → BrokeLate plan d ts all u w
      told_breaks breaks =
          let b = breaks plan (ts ++ a.done) (told_may t rest a) in
          let longer : (ts ++ a.done) ++ b.fed ≡ ts ++ (a.done ++ b.fed) = append_assoc ts a.done b.fed in
          let P = seen_tree ts in
          let Q = seen_tree (ts ++ a.done) in
          let later : Goes plan Q (all_of plan Q) (seen_tree (ts ++ (a.done ++ b.fed))) b.taken v w = subst (λ (z : List Said). Goes plan Q (all_of plan Q) (seen_tree z) b.taken v w) longer b.goes in
          record {
            fed = a.done ++ b.fed;
            rest = b.rest ++ rest;
            parts = a.parts ∙ (ap (λ (z : List Said). a.done ++ z) (ap (λ (z : List Said). z ++ rest) b.parts ∙ append_assoc b.fed b.rest rest) ∙ sym (append_assoc a.done b.fed (b.rest ++ rest)));
            taken = b.taken;
            there = subst (λ (z : List Said). b.taken ≤ all_of plan (seen_tree z)) longer b.there;
            goes = goes_on plan P (all_of plan P) Q (all_of plan Q) (seen_tree (ts ++ (a.done ++ b.fed))) b.taken u v w a.fed.goes later;
            balance = b.balance;
          }

      pub told_part : TellsSomeLent stands ahead e (t ∷ []) now after → GrewPart before after (text_of_lines (demand plan all (seen_tree ts)))
      told_part tells =
          let P = seen_tree ts in
          let Q = seen_tree (ts ++ a.done) in
          let part = tells plan (ts ++ a.done) (told_may t rest a) in
          let first : GrewPart now after (text_of_lines (demand plan (t ∷ rest) Q)) = subst (λ (z : List Line). GrewPart now after (text_of_lines z)) (sym (demand-append plan (t ∷ []) rest Q))
          (lines_first now after (demand plan (t ∷ []) Q) (demand plan rest (grow_all (t ∷ []) Q)) part) in
          let whole : text_of_lines (demand plan all P) ≡ text_of_lines (demand plan a.done P ++ demand plan (t ∷ rest) Q) = ap (λ (z : List Said). text_of_lines (demand plan z P)) a.parts ∙ text_more a.done (t ∷ rest) in
          subst (λ (z : List ℕ). GrewPart before after z) (sym whole) (lines_behind before now after (demand plan a.done P) (demand plan (t ∷ rest) Q) a.told first)

    -- none is left
    pub told_whole : (rest : List Said) → rest ≡ [] → (a : AmongTold old e ts all rest u v before now) → FedLent stands plan ahead old e ts all u v × (now ≡ before ++ text_of_lines (demand plan all (seen_tree ts)))
    told_whole rest none a =
        let all_is : a.done ≡ all = sym (a.parts ∙ (ap (λ (z : List Said). a.done ++ z) none ∙ append-nil a.done)) in (
          subst (λ (z : List Said). FedLent stands plan ahead old e ts z u v) all_is a.fed,
          subst (λ (z : List Said). now ≡ before ++ text_of_lines (demand plan z (seen_tree ts))) all_is a.told,
        )
