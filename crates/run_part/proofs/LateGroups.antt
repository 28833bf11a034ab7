-- Lent tokens in groups, where rows are made late.
use Rattle.std.proofs.Common.{◌≡◌, ℕ, ◌+◌, ◌<◌, ◌≤◌, ◌&&◌, Bool, true, max, List, [], ◌∷◌, ◌++◌, length, drop, get_or, refl, sym, ◌∙◌, ap, subst, arith, append_assoc, length-append}
use Rattle.std.proofs.lemmas.Bool.{and_parts}
use Rattle.std.proofs.lemmas.List.{append-nil, drop_more}
use Rattle.gcx_model.specs.Core.{PlanTree}
use Rattle.gcx_model.specs.Growth.{Leads, may_all, may_come}
use Rattle.gcx_model.specs.Held.{held, sum_given}
use Rattle.gcx_model.specs.Points.{actions, so_far}
use Rattle.gcx_model.specs.Seen.{seen_tree}
use Rattle.gcx_model.specs.Tree.{Tree, TreeToken as Said, opening, grow, grow_all}
use Rattle.tree_laws.proofs.Growing.{grow_all-append, leads}
use Rattle.doc_reader.specs.Standing.{Lent, lent_token}
use Rattle.buf_tree.specs.View.{View, capped}
use Rattle.run_part.specs.View.{ActorsView}
use Rattle.run_part.specs.declared.actors.Tallied.{Tallied}
use Rattle.run_part.specs.Actors.{ActsOnFrom, ActsSomeFrom, ComesWithin, Goes, IsBalanced, SomeActors, all_of}
use Rattle.run_part.specs.Counts.{CountsOf}
use Rattle.run_part.specs.Late.{AllCome, AmongLate, BalancesEachLate, BalancesLate, BreaksGroupLate, BrokeLate, EndsGroupLate, FedGroupLate, FedLent, FedSomeLate, FeedsEachLate, GoesBehind, IsLow, IsQuietLate, LateBehind, MayFeedAll, MayFeedLate, SettledAt, SettlesFrom, SomeGroupLate, SomeLate, StandLate, said_lent, seen_late}
use Rattle.run_part.proofs.Counting.{counts_acted, counts_on, rows_counted}
use Rattle.run_part.proofs.Late.{late_beside, late_rows, seen_length, seen_none, stand_late}
use Rattle.run_part.proofs.Writing.{goes_fed, goes_on}

-- ---- tokens that come

pub low_of : (P : Tree) (ts : List Said) → AllCome P ts → IsLow P
low_of P [] c = c
low_of P (t ∷ ts) c = c.0.depth

pub come_front : (P : Tree) (ts us : List Said) → AllCome P (ts ++ us) → AllCome P ts
come_front P [] us c = low_of P us c
come_front P (t ∷ ts) us c = (c.0, come_front (grow t P) ts us c.1)

pub come_behind : (P : Tree) (ts us : List Said) → AllCome P (ts ++ us) → AllCome (grow_all ts P) us
come_behind P [] us c = c
come_behind P (t ∷ ts) us c = come_behind (grow t P) ts us c.1

pub come_may : (P : Tree) (ts : List Said) → AllCome P ts → may_all ts P ≡ true
come_may P [] c = refl
come_may P (t ∷ ts) c = ap (λ z. z && may_all ts (grow t P)) c.0.may ∙ come_may (grow t P) ts c.1

come_low : (P : Tree) (ts : List Said) → AllCome P ts → IsLow (grow_all ts P)
come_low P [] c = c
come_low P (t ∷ ts) c = come_low (grow t P) ts c.1

may_join : (ts us : List Said) (P : Tree) → may_all ts P ≡ true → may_all us (grow_all ts P) ≡ true → may_all (ts ++ us) P ≡ true
may_join [] us P a b = b
may_join (t ∷ ts) us P a b =
    let p = and_parts (may_come t P) (may_all ts (grow t P)) a in
    ap (λ z. z && may_all (ts ++ us) (grow t P)) p.0 ∙ may_join ts us (grow t P) p.1 b

tree_behind : (ts us : List Said) → seen_tree (ts ++ us) ≡ grow_all us (seen_tree ts)
tree_behind ts us = grow_all-append ts us opening

pub may_behind : (ts us : List Said) → may_all ts opening ≡ true → AllCome (seen_tree ts) us → may_all (ts ++ us) opening ≡ true
may_behind ts us m c = may_join ts us opening m (come_may (seen_tree ts) us c)

-- those that come behind the first of them
pub come_next : (ts us vs : List Said) → AllCome (seen_tree ts) (us ++ vs) → AllCome (seen_tree (ts ++ us)) vs
come_next ts us vs c = subst (λ (T : Tree). AllCome T vs) (sym (tree_behind ts us)) (come_behind (seen_tree ts) us vs c)

-- the next token of a slice, and those behind it
pub lent_next : (bytes : List ℕ) (lent : List Lent) (i : ℕ) (d : Lent) → i < length lent → said_lent bytes (drop i lent) ≡ lent_token bytes (get_or lent i d) ∷ said_lent bytes (drop (i + 1) lent)
lent_next bytes lent i d l = ap (said_lent bytes) (drop_more lent i d l)

-- ---- one token of a group behind others

module _ {C : Type 0} (bytes : List ℕ) (stands : C → Tree → Type 0) (plan : PlanTree) (ahead : ℕ) where
  -- none was fed yet
  pub fed_none : (a : ActorsView C) (ts : List Said) → may_all ts opening ≡ true → LateBehind bytes stands plan ahead a ts → FedSomeLate bytes stands plan ahead a a ts [] true
  fed_none a ts m s =
      let e : ts ≡ ts ++ [] = sym (append-nil ts) in
      let P = seen_tree ts in
      let is = (late_beside bytes stands plan a P (all_of plan P) s.actors).buffer.is_past in
      record {
        few = omega arith;
        actors = subst (λ (z : List Said). StandLate bytes stands plan a (seen_tree z) (all_of plan (seen_tree ts))) e s.actors;
        counts = subst (λ (z : List Said). CountsOf plan z ahead (seen_late bytes a) a.counts) e s.counts;
        seen = rows_counted is.core is.good plan is.placed ts m ahead (seen_late bytes a) a.counts (late_rows bytes stands plan a P (all_of plan P) s.actors) s.counts;
        most = λ lent h. h;
        quietly = λ q. ap (λ (z : List Said). actions plan (seen_tree z)) (sym e);
      }

  module _ (old e d : ActorsView C) (ts us : List Said) (t : Said) (quiet still : Bool) (m : may_all ts opening ≡ true) (come : AllCome (seen_tree ts) (us ++ t ∷ [])) (f : FedSomeLate bytes stands plan ahead old e ts us quiet) where
    abbrev k : ℕ
    k = all_of plan (seen_tree ts)

    abbrev Q : Tree
    Q = seen_tree (ts ++ us)

    comes : ComesWithin t Q × IsLow (grow t Q)
    comes = come_next ts us (t ∷ []) come

    may_late : MayFeedLate bytes stands e t
    may_late = record { plan = plan; tree = Q; taken = k; of = f.actors; comes = comes.0; low = comes.1 }

    late_comes : ComesWithin t Q
    late_comes = comes.0

    fed_on : length us < ahead → FeedsEachLate bytes stands e d t → (still ≡ true → IsQuietLate bytes stands e t) → FedSomeLate bytes stands plan ahead old d ts (us ++ t ∷ []) (still && quiet)
    fed_on few feeds quietly =
        let one = feeds plan Q k f.actors comes.0 in
        let counted = one.counted f.seen in
        let longer : (ts ++ us) ++ t ∷ [] ≡ ts ++ (us ++ t ∷ []) = append_assoc ts us (t ∷ []) in
        let grown : seen_tree (ts ++ (us ++ t ∷ [])) ≡ grow t Q = ap seen_tree (sym longer) ∙ grow_all-append (ts ++ us) (t ∷ []) opening in
        let is = (late_beside bytes stands plan e Q k f.actors).buffer.is_past in
        let may : may_all ((ts ++ us) ++ t ∷ []) opening ≡ true = ap (λ (z : List Said). may_all z opening) longer ∙ may_behind ts (us ++ t ∷ []) m come in
        let counts = counts_on is.core is.good plan is.placed ts us t may ahead few (seen_late bytes e) (seen_late bytes d) e.counts d.counts f.counts counted in
        record {
          few = let l = length-append us (t ∷ []) in omega arith;
          actors = subst (λ (T : Tree). StandLate bytes stands plan d T k) (sym grown) one.actors;
          counts = subst (λ (z : List Said). CountsOf plan z ahead (seen_late bytes d) d.counts) longer counts;
          seen = let rows = counted.rows in let peak = counted.peak in omega arith;
          most = λ lent h.
              let before : e.buffer.most ≡ max lent e.counts.peak = f.most lent h in
              let most : d.buffer.most ≡ max e.buffer.most (length (held plan (grow t Q) (so_far plan Q k))) = counted.most f.counts.store_now in
              let peak = counted.peak in
              omega arith;
          quietly = λ q.
              let two = and_parts still quiet q in
              let before : actions plan Q ≡ actions plan (seen_tree ts) = f.quietly two.1 in
              let n : k ≡ all_of plan Q = ap length (sym before) in
              let a : StandLate bytes stands plan e Q (all_of plan Q) = subst (λ z. StandLate bytes stands plan e Q z) n f.actors in
              ap (actions plan) grown ∙ (quietly two.0 plan Q a comes.0 ∙ before);
        }

  -- ---- a whole group

  -- memory ran out before any action
  pub broke_first : (d : ActorsView C) (ts us : List Said) (w : List ℕ) → may_all ts opening ≡ true → IsBalanced d → BrokeLate plan d ts us w w
  broke_first d ts us w m balance =
      let e : ts ≡ ts ++ [] = sym (append-nil ts) in
      let P = seen_tree ts in
      record {
        fed = [];
        rest = us;
        parts = refl;
        taken = all_of plan P;
        there = subst (λ (z : List Said). all_of plan P ≤ all_of plan (seen_tree z)) e (omega arith);
        goes = subst (λ (z : List Said). Goes plan P (all_of plan P) (seen_tree z) (all_of plan P) w w) e (record { more = []; written = sym (append-nil _); grew = sym (append-nil w) });
        balance = balance;
      }

  module _ (old e : ActorsView C) (ts us : List Said) (quiet : Bool) (m : may_all ts opening ≡ true) (come : AllCome (seen_tree ts) us) (f : FedSomeLate bytes stands plan ahead old e ts us quiet) where
    abbrev P : Tree
    P = seen_tree ts

    abbrev R : Tree
    R = seen_tree (ts ++ us)

    abbrev n : ℕ
    n = all_of plan P

    here_goes : (w : List ℕ) → Goes plan P n R n w w
    here_goes w = goes_fed plan P R n w (leads ts opening m) (subst (λ (T : Tree). Leads P T) (sym (tree_behind ts us)) (leads us P (come_may P us come))) (omega arith)

    -- they were quiet
    pub group_quiet : quiet ≡ true → (w : List ℕ) → FedGroupLate bytes stands plan ahead old e ts us w w
    group_quiet q w =
        let same : n ≡ all_of plan R = ap length (sym (f.quietly q)) in
        record {
          stand = record { actors = subst (λ z. StandLate bytes stands plan e R z) same f.actors; counts = f.counts };
          goes = subst (λ z. Goes plan P n R z w w) same (here_goes w);
          most = f.most;
        }

    -- the rows may be made then
    pub group_late : SomeLate bytes stands e
    group_late = record { plan = plan; tree = R; taken = n; of = f.actors; low = subst (λ (T : Tree). IsLow T) (sym (tree_behind ts us)) (come_low P us come) }

    module _ (s : ActorsView C) (settles : SettlesFrom bytes stands e s) (counts : s.counts ≡ e.counts) where
      settled : SettledAt bytes stands plan e s R n
      settled = settles plan R n f.actors

      most_same : s.buffer.most ≡ e.buffer.most
      most_same =
          let fits : length (seen_late bytes e).rows ≤ e.buffer.most = f.counts.store_now in
          let all = seen_length bytes e in
          let most = settled.most (omega arith) in
          omega arith

      -- and the actions taken
      pub group_actors : SomeActors stands s
      group_actors = record { plan = plan; tree = R; taken = n; of = settled.actors }

      module _ (d : ActorsView C) (u w : List ℕ) (same : d.counts ≡ s.counts) where
        pub group_acted : d.buffer.most ≡ s.buffer.most → ActsOnFrom stands s d u w → FedGroupLate bytes stands plan ahead old d ts us u w
        group_acted most acts =
            let a = acts plan R n settled.actors in
            let all = all_of plan R in
            let late = stand_late bytes stands plan d R all a.actors in
            let is = (late_beside bytes stands plan e R n f.actors).buffer.is_past in
            let after = counts_acted is.core is.good plan is.placed (ts ++ us) ahead n (seen_late bytes e) (seen_late bytes d) e.counts (late_rows bytes stands plan e R n f.actors) (late_rows bytes stands plan d R all late) (most ∙ most_same) f.counts in
            record {
              stand = record { actors = late; counts = subst (λ (z : Tallied). CountsOf plan (ts ++ us) ahead (seen_late bytes d) z) (sym (same ∙ counts)) after };
              goes = goes_on plan P n R n R all u u w (here_goes u) a.goes;
              most = λ lent h. most ∙ most_same ∙ f.most lent h ∙ ap (λ (z : Tallied). max lent z.peak) (sym (same ∙ counts));
            }

        -- or some of them
        pub group_broke : ActsSomeFrom stands s d u w → BrokeLate plan d ts us u w
        group_broke acts =
            let a = acts plan R n settled.actors in
            let given : d.counts.given ≡ capped (sum_given plan R) = ap (λ (z : Tallied). z.given) (same ∙ counts) ∙ f.counts.given in
            let few = a.balance in
            record {
              fed = us;
              rest = [];
              parts = sym (append-nil us);
              taken = a.taken;
              there = a.there;
              goes = goes_on plan P n R n R a.taken u u w (here_goes u) a.goes;
              balance = omega arith;
            }

  -- ---- the groups of a slice

  pub among_none : (a : ActorsView C) (ts all : List Said) (w : List ℕ) → MayFeedAll stands plan ahead a ts all → AmongLate bytes stands plan ahead a a ts all all w w ahead true
  among_none a ts all w m =
      let e : ts ≡ ts ++ [] = sym (append-nil ts) in
      let P = seen_tree ts in
      let none = m.stand.actors.projects.none in
      let late : LateBehind bytes stands plan ahead a ts = record {
        actors = stand_late bytes stands plan a P (all_of plan P) m.stand.actors;
        counts = subst (λ (v : View). CountsOf plan ts ahead v a.counts) (sym (seen_none bytes a none)) m.stand.counts;
      } in
      record {
        done = [];
        group = [];
        parts = refl;
        count = omega arith;
        at = a;
        goes = subst (λ (z : List Said). Goes plan P (all_of plan P) (seen_tree z) (all_of plan (seen_tree z)) w w) e (record { more = []; written = sym (append-nil _); grew = sym (append-nil w) });
        most = λ lent h. h;
        fed = fed_none a (ts ++ []) (ap (λ (z : List Said). may_all z opening) (sym e) ∙ m.may) (subst (λ (z : List Said). LateBehind bytes stands plan ahead a z) e late);
      }

  module _ (old e : ActorsView C) (ts all rest : List Said) (u v : List ℕ) (left : ℕ) (quiet : Bool) (may : may_all ts opening ≡ true) (come : AllCome (seen_tree ts) all) (a : AmongLate bytes stands plan ahead old e ts all rest u v left quiet) where
    parts_come : AllCome (seen_tree ts) (a.done ++ (a.group ++ rest))
    parts_come = subst (λ (z : List Said). AllCome (seen_tree ts) z) a.parts come

    done_may : may_all (ts ++ a.done) opening ≡ true
    done_may = may_behind ts a.done may (come_front (seen_tree ts) a.done (a.group ++ rest) parts_come)

    left_come : AllCome (seen_tree (ts ++ a.done)) (a.group ++ rest)
    left_come = come_next ts a.done (a.group ++ rest) parts_come

    group_come : AllCome (seen_tree (ts ++ a.done)) a.group
    group_come = come_front (seen_tree (ts ++ a.done)) a.group rest left_come

    -- the group may end
    pub among_some : SomeGroupLate bytes stands e quiet
    among_some = record { plan = plan; ahead = ahead; at = a.at; given = ts ++ a.done; group = a.group; may = done_may; come = group_come; fed = a.fed }

    -- it did
    pub among_ended : (d : ActorsView C) (w : List ℕ) → EndsGroupLate bytes stands e d quiet v w → FedGroupLate bytes stands plan ahead a.at d (ts ++ a.done) a.group v w
    among_ended d w ends = ends plan ahead a.at (ts ++ a.done) a.group done_may group_come a.fed

    behind_goes : (d : ActorsView C) (w : List ℕ) → FedGroupLate bytes stands plan ahead a.at d (ts ++ a.done) a.group v w → GoesBehind plan ts (a.done ++ a.group) u w
    behind_goes d w f =
        let longer : (ts ++ a.done) ++ a.group ≡ ts ++ (a.done ++ a.group) = append_assoc ts a.done a.group in
        let P = seen_tree ts in
        let Q = seen_tree (ts ++ a.done) in
        let R = seen_tree (ts ++ (a.done ++ a.group)) in
        let later : Goes plan Q (all_of plan Q) R (all_of plan R) v w = subst (λ (z : List Said). Goes plan Q (all_of plan Q) (seen_tree z) (all_of plan (seen_tree z)) v w) longer f.goes in
        goes_on plan P (all_of plan P) Q (all_of plan Q) R (all_of plan R) u v w a.goes later

    -- and the next one begins
    pub among_closed : (d : ActorsView C) (w : List ℕ) → FedGroupLate bytes stands plan ahead a.at d (ts ++ a.done) a.group v w → AmongLate bytes stands plan ahead old d ts all rest u w ahead true
    among_closed d w f =
        let longer : (ts ++ a.done) ++ a.group ≡ ts ++ (a.done ++ a.group) = append_assoc ts a.done a.group in
        record {
          done = a.done ++ a.group;
          group = [];
          parts = a.parts ∙ sym (append_assoc a.done a.group rest);
          count = omega arith;
          at = d;
          goes = behind_goes d w f;
          most = λ lent h. f.most lent (a.most lent h);
          fed = fed_none d (ts ++ (a.done ++ a.group)) (ap (λ (z : List Said). may_all z opening) (sym longer) ∙ may_behind (ts ++ a.done) a.group done_may group_come)
              (subst (λ (z : List Said). LateBehind bytes stands plan ahead d z) longer f.stand);
        }

    -- or memory ran out in it
    pub among_broke : (d : ActorsView C) (w : List ℕ) → BrokeLate plan d (ts ++ a.done) a.group v w → BrokeLate plan d ts all u w
    among_broke d w b =
        let longer : (ts ++ a.done) ++ b.fed ≡ ts ++ (a.done ++ b.fed) = append_assoc ts a.done b.fed in
        let P = seen_tree ts in
        let Q = seen_tree (ts ++ a.done) in
        let later : Goes plan Q (all_of plan Q) (seen_tree (ts ++ (a.done ++ b.fed))) b.taken v w = subst (λ (z : List Said). Goes plan Q (all_of plan Q) (seen_tree z) b.taken v w) longer b.goes in
        record {
          fed = a.done ++ b.fed;
          rest = b.rest ++ rest;
          parts = a.parts ∙ (ap (λ (z : List Said). a.done ++ z) (ap (λ (z : List Said). z ++ rest) b.parts ∙ append_assoc b.fed b.rest rest) ∙ sym (append_assoc a.done b.fed (b.rest ++ rest)));
          taken = b.taken;
          there = subst (λ (z : List Said). b.taken ≤ all_of plan (seen_tree z)) longer b.there;
          goes = goes_on plan P (all_of plan P) Q (all_of plan Q) (seen_tree (ts ++ (a.done ++ b.fed))) b.taken u v w a.goes later;
          balance = b.balance;
        }

    pub among_breaks : (d : ActorsView C) (w : List ℕ) → BreaksGroupLate bytes stands e d quiet v w → BrokeLate plan d ts all u w
    among_breaks d w breaks = among_broke d w (breaks plan ahead a.at (ts ++ a.done) a.group done_may group_come a.fed)

    -- or at the next token
    pub among_lost : (d : ActorsView C) → IsBalanced d → BrokeLate plan d ts all u v
    among_lost d balance = among_broke d v (broke_first d (ts ++ a.done) a.group v done_may balance)

    -- or no token is left
    pub among_done : (d : ActorsView C) (w : List ℕ) → rest ≡ [] → FedGroupLate bytes stands plan ahead a.at d (ts ++ a.done) a.group v w → FedGroupLate bytes stands plan ahead old d ts all u w
    among_done d w none f =
        let longer : (ts ++ a.done) ++ a.group ≡ ts ++ (a.done ++ a.group) = append_assoc ts a.done a.group in
        let all_is : all ≡ a.done ++ a.group = a.parts ∙ (ap (λ (z : List Said). a.done ++ (a.group ++ z)) none ∙ ap (λ (z : List Said). a.done ++ z) (append-nil a.group)) in
        subst (λ (z : List Said). FedGroupLate bytes stands plan ahead old d ts z u w) (sym all_is) (record {
          stand = subst (λ (z : List Said). LateBehind bytes stands plan ahead d z) longer f.stand;
          goes = behind_goes d w f;
          most = λ lent h. f.most lent (a.most lent h);
        })

  -- the next token of the slice
  module _ (old e : ActorsView C) (ts all : List Said) (t : Said) (rest : List Said) (u v : List ℕ) (left : ℕ) (quiet : Bool) (may : may_all ts opening ≡ true) (come : AllCome (seen_tree ts) all)
      (a : AmongLate bytes stands plan ahead old e ts all (t ∷ rest) u v left quiet) where
    here_may : may_all (ts ++ a.done) opening ≡ true
    here_may = done_may old e ts all (t ∷ rest) u v left quiet may come a

    one_come : AllCome (seen_tree (ts ++ a.done)) (a.group ++ t ∷ [])
    one_come = come_front (seen_tree (ts ++ a.done)) (a.group ++ t ∷ []) rest
        (subst (λ (z : List Said). AllCome (seen_tree (ts ++ a.done)) z) (sym (append_assoc a.group (t ∷ []) rest)) (left_come old e ts all (t ∷ rest) u v left quiet may come a))

    among_may : MayFeedLate bytes stands e t
    among_may = may_late a.at e e (ts ++ a.done) a.group t quiet true here_may one_come a.fed

    -- it was fed
    among_on : (d : ActorsView C) (still : Bool) (fewer : ℕ) → fewer + 1 ≡ left → FeedsEachLate bytes stands e d t → (still ≡ true → IsQuietLate bytes stands e t) → AmongLate bytes stands plan ahead old d ts all rest u v fewer (still && quiet)
    among_on d still fewer less feeds quietly =
        let long = length-append a.group (t ∷ []) in
        let count = a.count in
        let few : length a.group < ahead = omega arith in
        record {
          done = a.done;
          group = a.group ++ t ∷ [];
          parts = a.parts ∙ ap (λ (z : List Said). a.done ++ z) (sym (append_assoc a.group (t ∷ []) rest));
          count = omega arith;
          at = a.at;
          goes = a.goes;
          most = a.most;
          fed = fed_on a.at e d (ts ++ a.done) a.group t quiet still here_may one_come a.fed few feeds quietly;
        }

    -- or memory ran out
    among_failed : (d : ActorsView C) → BalancesEachLate bytes stands e d t → BrokeLate plan d ts all u v
    among_failed d balance =
        let comes = late_comes a.at e e (ts ++ a.done) a.group t quiet true here_may one_come a.fed in
        among_lost old e ts all (t ∷ rest) u v left quiet may come a d (balance plan (seen_tree ((ts ++ a.done) ++ a.group)) (all_of plan (seen_tree (ts ++ a.done))) a.fed.actors comes a.fed.counts.given)

  -- the same of those that are lent
  module _ (old e : ActorsView C) (ts : List Said) (lent : List Lent) (i : ℕ) (d0 : Lent) (u v : List ℕ) (left : ℕ) (quiet : Bool) (l : i < length lent) (may : may_all ts opening ≡ true) (come : AllCome (seen_tree ts) (said_lent bytes lent))
      (a : AmongLate bytes stands plan ahead old e ts (said_lent bytes lent) (said_lent bytes (drop i lent)) u v left quiet) where
    abbrev one : Said
    one = lent_token bytes (get_or lent i d0)

    abbrev others : List Said
    others = said_lent bytes (drop (i + 1) lent)

    here : AmongLate bytes stands plan ahead old e ts (said_lent bytes lent) (one ∷ others) u v left quiet
    here = subst (λ (z : List Said). AmongLate bytes stands plan ahead old e ts (said_lent bytes lent) z u v left quiet) (lent_next bytes lent i d0 l) a

    pub slice_may : MayFeedLate bytes stands e one
    slice_may = among_may old e ts (said_lent bytes lent) one others u v left quiet may come here

    pub slice_on : (d : ActorsView C) (still now : Bool) (fewer : ℕ) → fewer + 1 ≡ left → now ≡ (still && quiet) → FeedsEachLate bytes stands e d one → (still ≡ true → IsQuietLate bytes stands e one) → AmongLate bytes stands plan ahead old d ts (said_lent bytes lent) others u v fewer now
    slice_on d still now fewer less is feeds quietly =
        subst (λ (q : Bool). AmongLate bytes stands plan ahead old d ts (said_lent bytes lent) others u v fewer q) (sym is)
        (among_on old e ts (said_lent bytes lent) one others u v left quiet may come here d still fewer less feeds quietly)

    pub slice_failed : (d : ActorsView C) → BalancesEachLate bytes stands e d one → BrokeLate plan d ts (said_lent bytes lent) u v
    slice_failed d balance = among_failed old e ts (said_lent bytes lent) one others u v left quiet may come here d balance

  -- ---- the whole slice

  module _ (old e : ActorsView C) (ts all : List Said) (u v : List ℕ) (come : AllCome (seen_tree ts) all) (f : FedGroupLate bytes stands plan ahead old e ts all u v) where
    abbrev whole : Tree
    whole = seen_tree (ts ++ all)

    pub whole_late : SomeLate bytes stands e
    whole_late = record { plan = plan; tree = whole; taken = all_of plan whole; of = f.stand.actors; low = subst (λ (T : Tree). IsLow T) (sym (tree_behind ts all)) (come_low (seen_tree ts) all come) }

    -- the last rows were made
    pub whole_settled : (d : ActorsView C) → SettlesFrom bytes stands e d → d.counts ≡ e.counts → FedLent stands plan ahead old d ts all u v
    whole_settled d settles counts =
        let s = settles plan whole (all_of plan whole) f.stand.actors in
        let c = f.stand.counts in
        let fits : length (seen_late bytes e).rows ≤ e.buffer.most = c.store_now in
        let rows = s.rows in
        let real = seen_length bytes e in
        let most = s.most (omega arith) in
        let same : d.buffer.most ≡ e.buffer.most = omega arith in
        let after : CountsOf plan (ts ++ all) ahead d.buffer e.counts = record { given = c.given; peak = c.peak; among = c.among; store_now = omega arith } in
        record {
          stand = record { actors = s.actors; counts = subst (λ (z : Tallied). CountsOf plan (ts ++ all) ahead d.buffer z) (sym counts) after };
          goes = f.goes;
          most = λ lent h. same ∙ (f.most lent h ∙ ap (λ (z : Tallied). max lent z.peak) (sym counts));
        }

    -- or memory ran out there
    pub whole_broke : (d : ActorsView C) → BalancesLate bytes stands e d → BrokeLate plan d ts all u v
    whole_broke d balances = record {
      fed = all;
      rest = [];
      parts = sym (append-nil all);
      taken = all_of plan whole;
      there = omega arith;
      goes = f.goes;
      balance = balances plan whole (all_of plan whole) f.stand.actors f.stand.counts.given;
    }
