-- From one state for which an engine stands to a later one: bytes were fed, or the input ended.
use Rattle.std.proofs.Common.{◌≡◌, ℕ, ◌+◌, ◌≤◌, Bool, true, false, List, [], ◌++◌, length, map, refl, sym, ◌∙◌, ap, subst, arith, append_assoc, Some, None, Option}
use Rattle.std.specs.Prelude.{flat_map, Result, OnOk, ⊤}
use Rattle.std.proofs.lemmas.List.{append-nil, length-append}
use Rattle.gcx_base.specs.declared.limits.Limits.{Limits}
use Rattle.gcx_model.specs.declared.fault.DocFault.{DocFault}
use Rattle.gcx_model.specs.declared.fault.DocFault.TheVariants.{Utf8, Syntax, Truncated, Depth, NameLong, TextLong, TooLong, Memory}
use Rattle.gcx_model.specs.Tree.{Tree, TreeToken as Said}
use Rattle.gcx_model.specs.Core.{PlanTree}
use Rattle.gcx_model.specs.PlanView.{plan_tree}
use Rattle.gcx_model.specs.Run.{bytes_of, bytes_written}
use Rattle.gcx_model.specs.Seen.{SeenIs, seen_tree}
use Rattle.doc_laws.proofs.Found.{found_seen}
use Rattle.doc_laws.proofs.Growing.{seen_more}
use Rattle.doc_laws.proofs.LastTag.{seen_one}
use Rattle.doc_reader.specs.Standing.{ReaderView, Stands, KeepsAnswer, IsFault, IsRefused, Answers, answer_by, said_of}
use Rattle.doc_reader.proofs.Standings.{stands_still}
use Rattle.engine.specs.View.{EngineView}
use Rattle.engine.specs.Engine.{GrewBy, GrewWithin, Kept, KeepsMost, Lost, OnAnswer, OnRefusal, PartsStand, Settles, StandsOf, StandsSome}
use Rattle.engine.specs.Going.{Breaks, FedAll, GoesOn}
use Rattle.run_part.specs.Actors.{all_of, bytes_at}
use Rattle.engine.proofs.Nothing.{none_within}
use Rattle.run_part.proofs.Writing.{all_is, bytes_front}
use Rattle.engine.proofs.Seeing.{all_given, front_leads}
use Rattle.engine.proofs.Waiting.{on_none, from_none, refusal_map}

-- what is settled, by tokens
pub settled_by : (plan : PlanTree) (lim : Limits) (b : List ℕ) (ended : Bool) (ts : List Said) (w : List ℕ) → SeenIs lim b ended ts → bytes_at plan (seen_tree ts) (all_of plan (seen_tree ts)) ≡ w → Settles plan lim b ended w
settled_by plan lim b ended ts w s e = record { tokens = ts; seen = s; is = sym e ∙ ap (flat_map bytes_of) (all_is plan (seen_tree ts)) }

-- answers and refusals
no_answer : (f : DocFault) → answer_by None ≡ answer_by (Some f) → ⊥
no_answer f e = cc

same_fault : (f g : DocFault) → answer_by (Some f) ≡ answer_by (Some g) → f ≡ g
same_fault f g e = cc

same_refusal : (o p : Option DocFault) → answer_by o ≡ answer_by p → o ≡ p
same_refusal None None e = refl
same_refusal None (Some g) e = absurd (no_answer g e)
same_refusal (Some f) None e = absurd (no_answer f (sym e))
same_refusal (Some f) (Some g) e = ap Some (same_fault f g e)

pub kept_refusal : (r q : ReaderView) → KeepsAnswer r q → q.refused ≡ r.refused
kept_refusal r q k = same_refusal q.refused r.refused k.answer

pub fault_of_answer : (o : Option DocFault) (a : Result ⊤ DocFault) (lim : Limits) (b : List ℕ) (ended : Bool) → a ≡ answer_by o → Answers a lim b ended → IsFault o lim b ended
fault_of_answer None a lim b ended e h = subst (λ (z : Result ⊤ DocFault). Answers z lim b ended) e h
fault_of_answer (Some f) a lim b ended e h = subst (λ (z : Result ⊤ DocFault). Answers z lim b ended) e h

pub answer_of_fault : (o : Option DocFault) (a : Result ⊤ DocFault) (lim : Limits) (b : List ℕ) (ended : Bool) → a ≡ answer_by o → IsFault o lim b ended → Answers a lim b ended
answer_of_fault None a lim b ended e h = subst (λ (z : Result ⊤ DocFault). Answers z lim b ended) (sym e) h
answer_of_fault (Some f) a lim b ended e h = subst (λ (z : Result ⊤ DocFault). Answers z lim b ended) (sym e) h

-- behind an answer as behind the refusal that it tells
pub on_answer : (o : Option DocFault) (a : Result ⊤ DocFault) (A B : Type 0) → a ≡ answer_by o → OnRefusal o A B → OnAnswer a A B
on_answer None a A B e h = subst (λ (z : Result ⊤ DocFault). OnAnswer z A B) (sym e) h
on_answer (Some f) a A B e h = subst (λ (z : Result ⊤ DocFault). OnAnswer z A B) (sym e) h

module _ {C : Type 0} (stands : C → Tree → Type 0) (lim : Limits) (b : List ℕ) (was : Bool) (c : List ℕ) (ended : Bool) where
  -- the reader took what was fed, and all tokens that waited then were fed
  pub fed_to : (old e d : EngineView C) → (s : StandsOf stands lim old b was) → e.plan ≡ old.plan → e.out ≡ old.out → KeepsMost old e → KeepsAnswer e.reader d.reader → IsFault e.reader.refused lim c ended
      → d.ended ≡ ended → d.bytes ≡ length c
      → GoesOn stands lim e d c ended s.given → OnRefusal d.refused (Lost lim old d b was c ended) (Kept stands lim old d b was c ended)
  fed_to old e d s plan out until keeps fault closing bytes goes = refusal_map d.refused lost kept goes
    where
      pl : PlanTree
      pl = plan_tree old.plan

      before : List ℕ
      before = bytes_at pl (seen_tree (map said_of s.given)) (all_of pl (seen_tree (map said_of s.given)))

      settled : Settles pl lim b was before
      settled = settled_by pl lim b was (map said_of s.given) before s.seen refl

      lost : Breaks lim e d c ended s.given → Lost lim old d b was c ended
      lost h =
          let us = found_seen lim c ended in
          let w = h.written us.0 us.1 in
          let written : bytes_at pl (seen_tree us.0) (all_of pl (seen_tree us.0)) ≡ before ++ (w.0 ++ w.1)
          = subst (λ z. bytes_at (plan_tree z) (seen_tree us.0) (all_of (plan_tree z) (seen_tree us.0)) ≡ bytes_at (plan_tree z) (seen_tree (map said_of s.given)) (all_of (plan_tree z) (seen_tree (map said_of s.given))) ++ (w.0 ++ w.1)) plan w.2 in
          record {
            grew = record { old = before; part = w.0; rest = w.1; settled = settled; settles = settled_by pl lim c ended us.0 (before ++ (w.0 ++ w.1)) us.1 written; grew = w.3 ∙ ap (λ (z : List ℕ). z ++ w.0) out };
            balance = h.balance;
          }

      kept : (d.refused ≡ Some Memory → ⊥) → FedAll stands lim e d c ended s.given → Kept stands lim old d b was c ended
      kept lasts h =
          let given = s.given ++ h.fed.more in
          let same : d.refused ≡ d.reader.refused = h.refused ∙ sym (kept_refusal e.reader d.reader keeps) in
          let seen : SeenIs lim c ended (map said_of given) = all_given d.reader lim c ended given h.fed.parts.reader h.none (λ m. lasts (same ∙ m)) in
          let g = h.fed.goes in
          let written : bytes_at pl (seen_tree (map said_of given)) (all_of pl (seen_tree (map said_of given))) ≡ before ++ g.more
          = subst (λ z. bytes_at (plan_tree z) (seen_tree (map said_of given)) (all_of (plan_tree z) (seen_tree (map said_of given))) ≡ bytes_at (plan_tree z) (seen_tree (map said_of s.given)) (all_of (plan_tree z) (seen_tree (map said_of s.given))) ++ g.more) plan g.written in
          record {
            of = record {
              given = given;
              seen = seen;
              parts = h.fed.parts;
              none = h.none;
              closing = closing;
              bytes = bytes;
              fault = subst (λ (z : Option DocFault). IsFault z lim c ended) (sym h.refused) fault;
              lasting = lasts;
              kept = λ n. sym same;
            };
            grew = record { old = before; more = g.more; settled = settled; settles = settled_by pl lim c ended (map said_of given) (before ++ g.more) seen written; grew = g.grew ∙ ap (λ (z : List ℕ). z ++ g.more) out };
            most = λ lent m. h.fed.most lent (until lent m);
          }

-- What is settled by bytes is one text.
pub settled_one : (plan : PlanTree) (lim : Limits) (b : List ℕ) (ended : Bool) (v w : List ℕ) → Settles plan lim b ended v → Settles plan lim b ended w → v ≡ w
settled_one plan lim b ended v w s t = s.is ∙ (ap (λ (z : List Said). bytes_written plan.body (seen_tree z)) (seen_one lim b ended s.tokens t.tokens s.seen t.seen) ∙ sym t.is)

-- one call behind another
module _ (plan : PlanTree) (lim : Limits) (b : List ℕ) (was : Bool) (c : List ℕ) (mid : Bool) (d : List ℕ) (ended : Bool) (u v w : List ℕ) where
  pub grew_on : GrewBy plan lim b was c mid u v → GrewBy plan lim c mid d ended v w → GrewBy plan lim b was d ended u w
  grew_on g h =
      let e = settled_one plan lim c mid h.old (g.old ++ g.more) h.settled g.settles in
      record {
        old = g.old;
        more = g.more ++ h.more;
        settled = g.settled;
        settles = subst (λ (z : List ℕ). Settles plan lim d ended z) (ap (λ (z : List ℕ). z ++ h.more) e ∙ append_assoc g.old g.more h.more) h.settles;
        grew = h.grew ∙ (ap (λ (z : List ℕ). z ++ h.more) g.grew ∙ append_assoc u g.more h.more);
      }

  pub within_on : GrewBy plan lim b was c mid u v → GrewWithin plan lim c mid d ended v w → GrewWithin plan lim b was d ended u w
  within_on g h =
      let e = settled_one plan lim c mid h.old (g.old ++ g.more) h.settled g.settles in
      record {
        old = g.old;
        part = g.more ++ h.part;
        rest = h.rest;
        settled = g.settled;
        settles = subst (λ (z : List ℕ). Settles plan lim d ended z)
            (ap (λ (z : List ℕ). z ++ (h.part ++ h.rest)) e ∙ (append_assoc g.old g.more (h.part ++ h.rest) ∙ ap (λ (z : List ℕ). g.old ++ z) (sym (append_assoc g.more h.part h.rest)))) h.settles;
        grew = h.grew ∙ (ap (λ (z : List ℕ). z ++ h.part) g.grew ∙ append_assoc u g.more h.part);
      }

-- ---- a piece, in slices

module _ (plan : PlanTree) (lim : Limits) (b : List ℕ) (was : Bool) where
  pub grew_none : (w u : List ℕ) → Settles plan lim b was w → GrewBy plan lim b was b was u u
  grew_none w u s = record { old = w; more = []; settled = s; settles = subst (λ (z : List ℕ). Settles plan lim b was z) (sym (append-nil w)) s; grew = sym (append-nil u) }

  -- more bytes settle more
  pub settles_more : (more : List ℕ) (ended : Bool) (w : List ℕ) → Settles plan lim b false w → (rest : List ℕ) × Settles plan lim (b ++ more) ended (w ++ rest)
  settles_more more ended w s =
      let us = found_seen lim (b ++ more) ended in
      let t = seen_more lim b more ended s.tokens us.0 s.seen us.1 in
      let l = front_leads lim (b ++ more) ended s.tokens t.0 (subst (λ (z : List Said). SeenIs lim (b ++ more) ended z) t.1 us.1) in
      let P = seen_tree s.tokens in
      let Q = seen_tree (s.tokens ++ t.0) in
      let r = bytes_front plan P Q (all_of plan P) l.0 l.1 (omega arith) in
      let e : bytes_at plan P (all_of plan P) ≡ w = ap (flat_map bytes_of) (all_is plan P) ∙ sym s.is in
      (r.0, settled_by plan lim (b ++ more) ended us.0 (w ++ r.0) us.1 (ap (λ (z : List Said). bytes_at plan (seen_tree z) (all_of plan (seen_tree z))) t.1 ∙ (r.1 ∙ ap (λ (z : List ℕ). z ++ r.0) e)))

module _ (plan : PlanTree) (lim : Limits) (b : List ℕ) (was : Bool) (c more : List ℕ) (u v : List ℕ) where
  -- a front of what some bytes settle is one of what more bytes settle
  pub within_more : GrewWithin plan lim b was c false u v → GrewWithin plan lim b was (c ++ more) false u v
  within_more g =
      let r = settles_more plan lim c false more false (g.old ++ (g.part ++ g.rest)) g.settles in
      record {
        old = g.old;
        part = g.part;
        rest = g.rest ++ r.0;
        settled = g.settled;
        settles = subst (λ (z : List ℕ). Settles plan lim (c ++ more) false z) (append_assoc g.old (g.part ++ g.rest) r.0 ∙ ap (λ (z : List ℕ). g.old ++ z) (append_assoc g.part g.rest r.0)) r.1;
        grew = g.grew;
      }

module _ {C : Type 0} (stands : C → Tree → Type 0) (lim : Limits) (b : List ℕ) where
  -- what a front of a piece made
  abbrev pub InPiece : (old e : EngineView C) → (done : List ℕ) → Type 0
  InPiece old e done = OnRefusal e.refused (Lost lim old e b false (b ++ done) false) (Kept stands lim old e b false (b ++ done) false)

  pub piece_begins : (old : EngineView C) → old.refused ≡ None → StandsOf stands lim old b false → InPiece old old []
  piece_begins old fresh s = on_none old.refused (Lost lim old old b false (b ++ []) false) (Kept stands lim old old b false (b ++ []) false) fresh (subst (λ (z : List ℕ). Kept stands lim old old b false z false) (sym (append-nil b)) kept)
    where
      pl : PlanTree
      pl = plan_tree old.plan

      kept : Kept stands lim old old b false b false
      kept = record { of = s; grew = grew_none pl lim b false (bytes_at pl (seen_tree (map said_of s.given)) (all_of pl (seen_tree (map said_of s.given)))) old.out (settled_by pl lim b false (map said_of s.given) _ s.seen refl); most = λ lent h. h }

  -- a slice more, where nothing was refused before
  pub piece_on : (old e d : EngineView C) (done slice : List ℕ) → e.plan ≡ old.plan → e.refused ≡ None → InPiece old e done
      → ((c : List ℕ) → StandsOf stands lim e c false → OnRefusal d.refused (Lost lim e d c false (c ++ slice) false) (Kept stands lim e d c false (c ++ slice) false)) → InPiece old d (done ++ slice)
  piece_on old e d done slice plan fresh p fed =
      let k : Kept stands lim old e b false (b ++ done) false = from_none e.refused (Lost lim old e b false (b ++ done) false) (Kept stands lim old e b false (b ++ done) false) fresh p in
      subst (λ (z : List ℕ). OnRefusal d.refused (Lost lim old d b false z false) (Kept stands lim old d b false z false)) (append_assoc b done slice)
      (refusal_map d.refused
      (λ (l : Lost lim e d (b ++ done) false ((b ++ done) ++ slice) false). record {
        grew = within_on (plan_tree old.plan) lim b false (b ++ done) false ((b ++ done) ++ slice) false old.out e.out d.out k.grew
            (subst (λ z. GrewWithin (plan_tree z) lim (b ++ done) false ((b ++ done) ++ slice) false e.out d.out) plan l.grew);
        balance = l.balance;
      })
      (λ lasts (q : Kept stands lim e d (b ++ done) false ((b ++ done) ++ slice) false). record {
        of = q.of;
        grew = grew_on (plan_tree old.plan) lim b false (b ++ done) false ((b ++ done) ++ slice) false old.out e.out d.out k.grew
            (subst (λ z. GrewBy (plan_tree z) lim (b ++ done) false ((b ++ done) ++ slice) false e.out d.out) plan q.grew);
        most = λ lent h. q.most lent (k.most lent h);
      })
      (fed (b ++ done) k.of))

  -- the rest of a piece is counted alone
  pub piece_ends : (old e d : EngineView C) (done rest : List ℕ) → e.plan ≡ old.plan → d ≡ record e { bytes = e.bytes + length rest } → (e.refused ≡ None → rest ≡ []) → InPiece old e done → InPiece old d (done ++ rest)
  piece_ends old e d done rest plan same none p =
      subst (λ (z : EngineView C). InPiece old z (done ++ rest)) (sym same) (subst (λ (z : List ℕ). OnRefusal e.refused (Lost lim old counted b false z false) (Kept stands lim old counted b false z false)) (append_assoc b done rest) (refusal_map e.refused lost kept p))
    where
      counted : EngineView C
      counted = record e { bytes = e.bytes + length rest }

      lost : Lost lim old e b false (b ++ done) false → Lost lim old counted b false ((b ++ done) ++ rest) false
      lost l = record { grew = within_more (plan_tree old.plan) lim b false (b ++ done) rest old.out e.out l.grew; balance = l.balance }

      kept : (e.refused ≡ Some Memory → ⊥) → Kept stands lim old e b false (b ++ done) false → Kept stands lim old counted b false ((b ++ done) ++ rest) false
      kept lasts k = by_refusal e.refused refl
        where
          s : StandsOf stands lim e (b ++ done) false
          s = k.of

          counted_parts : (c : List ℕ) → Stands e.reader lim c false s.given → PartsStand stands lim counted c false s.given
          counted_parts c r = record { limits = s.parts.limits; reader = r; actors = s.parts.actors; counts = s.parts.counts }

          by_refusal : (o : Option DocFault) → e.refused ≡ o → Kept stands lim old counted b false ((b ++ done) ++ rest) false
          by_refusal None f =
              let z : rest ≡ [] = none f in
              let c : (b ++ done) ++ rest ≡ b ++ done = ap (λ (x : List ℕ). (b ++ done) ++ x) z ∙ append-nil (b ++ done) in
              let n = ap length z in
              let l = length-append (b ++ done) rest in
              let y = s.bytes in
              subst (λ (x : List ℕ). Kept stands lim old counted b false x false) (sym c) (record {
                of = record { given = s.given; seen = s.seen; parts = counted_parts (b ++ done) s.parts.reader; none = s.none; closing = s.closing; bytes = omega arith; fault = s.fault; lasting = s.lasting; kept = s.kept };
                grew = k.grew;
                most = k.most;
              })
          by_refusal (Some g) f =
              let is : IsRefused e.reader = λ n. let q = s.kept (λ m. let x : Some g ≡ None = sym f ∙ m in cc) in let x : Some g ≡ None = sym f ∙ (sym q ∙ n) in cc in
              let r : Stands e.reader lim ((b ++ done) ++ rest) false s.given = stands_still e.reader lim (b ++ done) rest s.given is s.parts.reader in
              let same' : e.reader.refused ≡ e.refused = s.kept (λ m. let x : Some g ≡ None = sym f ∙ m in cc) in
              let seen : SeenIs lim ((b ++ done) ++ rest) false (map said_of s.given) = all_given e.reader lim ((b ++ done) ++ rest) false s.given r s.none (λ m. lasts (sym same' ∙ m)) in
              let l = length-append (b ++ done) rest in
              let y = s.bytes in
              let old_w = k.grew.old ++ k.grew.more in
              let w : old_w ≡ bytes_written (plan_tree old.plan).body (seen_tree (map said_of s.given)) = settled_one (plan_tree old.plan) lim (b ++ done) false old_w _ k.grew.settles (record { tokens = map said_of s.given; seen = s.seen; is = refl }) in
              record {
                of = record {
                  given = s.given;
                  seen = seen;
                  parts = counted_parts ((b ++ done) ++ rest) r;
                  none = s.none;
                  closing = s.closing;
                  bytes = omega arith;
                  fault = subst (λ (z : Option DocFault). IsFault z lim ((b ++ done) ++ rest) false) same' r.fault;
                  lasting = s.lasting;
                  kept = s.kept;
                };
                grew = record { old = k.grew.old; more = k.grew.more; settled = k.grew.settled; settles = record { tokens = map said_of s.given; seen = seen; is = w }; grew = k.grew.grew };
                most = k.most;
              }

-- ---- what calls ask, and their answers

pub refusal_fault : (o : Option DocFault) (A : Type 0) (lim : Limits) (c : List ℕ) (ended : Bool) → OnRefusal o A (IsFault o lim c ended) → IsFault o lim c ended
refusal_fault None A lim c ended h = h
refusal_fault (Some Memory) A lim c ended h = tt
refusal_fault (Some (Utf8 n)) A lim c ended h = h
refusal_fault (Some (Syntax n)) A lim c ended h = h
refusal_fault (Some (Truncated n)) A lim c ended h = h
refusal_fault (Some (Depth n)) A lim c ended h = h
refusal_fault (Some (NameLong n)) A lim c ended h = h
refusal_fault (Some (TextLong n)) A lim c ended h = h
refusal_fault (Some (TooLong n)) A lim c ended h = h

no_fault : (f : DocFault) → Some f ≡ None → ⊥
no_fault f e = cc

-- a refusal where nothing is refused
pub some_none : (o : Option DocFault) (f : DocFault) (X : Type 0) → o ≡ Some f → o ≡ None → X
some_none o f X e n = absurd (no_fault f (sym e ∙ n))

-- where memory didn't run out, of what was asked
pub asked_none : (o : Option DocFault) (A B : Type 0) → o ≡ None → OnRefusal o A B → B
asked_none o A B e h = from_none o A B e h

module _ {C : Type 0} (stands : C → Tree → Type 0) (lim : Limits) where
  -- the answer is the fault of the bytes
  pub exact_by : (old d : EngineView C) (b : List ℕ) (was : Bool) (c : List ℕ) (ended : Bool) (r : Result ⊤ DocFault) → r ≡ answer_by d.refused → OnRefusal d.refused (Lost lim old d b was c ended) (Kept stands lim old d b was c ended) → Answers r lim c ended
  exact_by old d b was c ended r e h =
      answer_of_fault d.refused r lim c ended e (refusal_fault d.refused (Lost lim old d b was c ended) lim c ended (refusal_map d.refused (λ (l : Lost lim old d b was c ended). l) (λ lasts (k : Kept stands lim old d b was c ended). k.of.fault) h))

  -- the parts with more bytes read, or their end
  pub parts_read : (old : EngineView C) (b : List ℕ) (was : Bool) (c : List ℕ) (ended : Bool) (s : StandsOf stands lim old b was) (r : ReaderView) (n : ℕ) → Stands r lim c ended s.given
      → PartsStand stands lim (record old { reader = r; bytes = n }) c ended s.given
  parts_read old b was c ended s r n h = record { limits = s.parts.limits; reader = h; actors = s.parts.actors; counts = s.parts.counts }

  pub parts_ended : (old : EngineView C) (b : List ℕ) (was : Bool) (c : List ℕ) (ended : Bool) (s : StandsOf stands lim old b was) (r : ReaderView) → Stands r lim c ended s.given
      → PartsStand stands lim (record old { reader = r; ended = true }) c ended s.given
  parts_ended old b was c ended s r h = record { limits = s.parts.limits; reader = h; actors = s.parts.actors; counts = s.parts.counts }

  -- bytes that aren't refused are few
  pub bytes_small : (e : EngineView C) (b : List ℕ) (ended : Bool) → StandsOf stands lim e b ended → e.refused ≡ None → e.bytes ≤ 1099511627776
  bytes_small e b ended s fresh =
      let f = none_within lim b ended (subst (λ (z : Option DocFault). IsFault z lim b ended) fresh s.fault) in
      let l = s.parts.limits.bytes in
      let n = s.bytes in
      omega arith

  -- the state within a piece, where nothing is refused
  pub piece_some : (b : List ℕ) (old e : EngineView C) (done : List ℕ) → e.refused ≡ None → InPiece stands lim b old e done → StandsSome stands e false
  piece_some b old e done fresh p = let k = from_none e.refused (Lost lim old e b false (b ++ done) false) (Kept stands lim old e b false (b ++ done) false) fresh p in record { limits = lim; read = b ++ done; of = k.of }

-- what holds where nothing is refused holds at Ok
pub on_ok_none : (o : Option DocFault) (r : Result ⊤ DocFault) (X : Type 0) → r ≡ answer_by o → (o ≡ None → X) → OnOk r X
on_ok_none None r X e h = subst (λ (z : Result ⊤ DocFault). OnOk z X) (sym e) (h refl)
on_ok_none (Some f) r X e h = subst (λ (z : Result ⊤ DocFault). OnOk z X) (sym e) tt
