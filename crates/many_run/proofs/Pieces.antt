-- From one state for which the plans stand to a later one: bytes were fed, or the input ended.
use Rattle.std.proofs.Common.{◌≡◌, ◌∙◌, ℕ, ◌+◌, ◌≤◌, Bool, false, List, [], ◌++◌, length, map, slice_get, refl, sym, ap, subst, arith, append_assoc, Some, None, Option}
use Rattle.std.specs.Prelude.{Result, ⊤}
use Rattle.std.proofs.lemmas.List.{append-nil, length-append}
use Rattle.gcx_base.specs.declared.limits.Limits.{Limits}
use Rattle.gcx_model.specs.Core.{PlanTree}
use Rattle.gcx_model.specs.PlanView.{plan_tree}
use Rattle.gcx_model.specs.Run.{bytes_written}
use Rattle.gcx_model.specs.Seen.{SeenIs, seen_tree}
use Rattle.gcx_model.specs.Tree.{Tree, TreeToken as Said}
use Rattle.gcx_model.specs.declared.fault.DocFault.{DocFault}
use Rattle.gcx_model.specs.declared.fault.DocFault.TheVariants.{Memory}
use Rattle.doc_laws.proofs.Found.{found_seen}
use Rattle.doc_reader.specs.Standing.{Answers, IsFault, IsRefused, KeepsAnswer, Stands, answer_by, said_of, waiting}
use Rattle.doc_reader.proofs.Standings.{stands_still}
use Rattle.run_part.specs.Actors.{all_of, bytes_at}
use Rattle.engine.specs.Engine.{GrewBy, GrewWithin, OnRefusal}
use Rattle.engine.proofs.Courses.{answer_of_fault, grew_none, grew_on, kept_refusal, refusal_fault, settled_by, settled_one, within_more, within_on}
use Rattle.engine.proofs.Nothing.{none_within}
use Rattle.engine.proofs.Seeing.{all_given}
use Rattle.engine.proofs.Waiting.{from_none, on_none, refusal_map}
use Rattle.many_run.specs.Each.{AtEach}
use Rattle.many_run.specs.Many.{ManyKept, ManyLost, ManyStand, ManyStandSome, PartGrew}
use Rattle.many_run.specs.Parts.{BreaksEach, FedBy, FedWith, TokensGiven}
use Rattle.run_part.specs.Part.{PartBreaks, PartGoes}
use Rattle.many_run.specs.View.{ManyView}
use Rattle.run_part.specs.View.{PartView}
use Rattle.many_run.proofs.Lists.{each_map, each_on}
use Rattle.many_run.proofs.Walking.{each_same}

-- ---- one part

module _ {C : Type 0} (lim : Limits) (b : List ℕ) (was : Bool) (ts : List Said) (seen : SeenIs lim b was ts) (c : List ℕ) (ended : Bool) (us : List Said) (then : SeenIs lim c ended us) (p q : PartView C) where
  abbrev plan : PlanTree
  plan = plan_tree p.plan

  abbrev before : List ℕ
  before = bytes_at plan (seen_tree ts) (all_of plan (seen_tree ts))

  -- what becomes settled between tokens does between bytes
  part_grew : PartGrew (λ z. PartGoes z ts us) p q → PartGrew (λ z. GrewBy z lim b was c ended) p q
  part_grew g = record {
    plan = g.plan;
    grew = record {
      old = before;
      more = g.grew.more;
      settled = settled_by plan lim b was ts before seen refl;
      settles = settled_by plan lim c ended us (before ++ g.grew.more) then g.grew.written;
      grew = g.grew.grew;
    };
  }

  part_lost : PartGrew (λ z. PartBreaks z ts us) p q → PartGrew (λ z. GrewWithin z lim b was c ended) p q
  part_lost g = record {
    plan = g.plan;
    grew = record {
      old = before;
      part = g.grew.part;
      rest = g.grew.rest;
      settled = settled_by plan lim b was ts before seen refl;
      settles = settled_by plan lim c ended us (before ++ (g.grew.part ++ g.grew.rest)) then g.grew.written;
      grew = g.grew.grew;
    };
  }

-- ---- a call

module _ {C : Type 0} (stands : C → Tree → Type 0) (lim : Limits) (b : List ℕ) (was : Bool) (c : List ℕ) (ended : Bool) where
  abbrev pub Called : (old new : ManyView C) → Type 0
  Called old new = OnRefusal new.refused (ManyLost lim old new b was c ended) (ManyKept stands lim old new b was c ended)

  -- the reader took what was fed, and all tokens that waited then were fed
  pub fed_to : (old e d : ManyView C) → (s : ManyStand stands lim old b was) → e.parts ≡ old.parts → KeepsAnswer e.reader d.reader → IsFault e.reader.refused lim c ended → d.ended ≡ ended → d.bytes ≡ length c
      → FedBy stands e d lim c ended s.given → Called old d
  fed_to old e d s parts keeps fault closing bytes goes = refusal_map d.refused lost kept goes
    where
      lost : BreaksEach e d lim c ended s.given → ManyLost lim old d b was c ended
      lost h =
          let us = found_seen lim c ended in
          let g : AtEach (PartGrew (λ z. PartBreaks z (map said_of s.given) us.0)) old.parts d.parts
          = subst (λ (z : List (PartView C)). AtEach (PartGrew (λ z. PartBreaks z (map said_of s.given) us.0)) z d.parts) parts (h us.0 us.1) in
          each_map (PartGrew (λ z. PartBreaks z (map said_of s.given) us.0)) (PartGrew (λ z. GrewWithin z lim b was c ended)) old.parts d.parts
          (λ p q. part_lost lim b was (map said_of s.given) s.seen c ended us.0 us.1 p q) g

      kept : (d.refused ≡ Some Memory → ⊥) → FedWith stands e d lim c ended s.given → ManyKept stands lim old d b was c ended
      kept lasts h =
          let given = s.given ++ waiting e.reader in
          let same : d.refused ≡ d.reader.refused = h.refused ∙ sym (kept_refusal e.reader d.reader keeps) in
          let seen : SeenIs lim c ended (map said_of given) = all_given d.reader lim c ended given h.fed.has.reader h.fed.none (λ m. lasts (same ∙ m)) in
          let g : AtEach (PartGrew (λ z. PartGoes z (map said_of s.given) (map said_of given))) old.parts d.parts
          = subst (λ (z : List (PartView C)). AtEach (PartGrew (λ z. PartGoes z (map said_of s.given) (map said_of given))) z d.parts) parts h.fed.goes in
          record {
            of = record {
              limits = s.limits;
              given = given;
              seen = seen;
              reader = h.fed.has.reader;
              none = h.fed.none;
              parts = h.fed.has.parts;
              closing = closing;
              bytes = bytes;
              fault = subst (λ (z : Option DocFault). IsFault z lim c ended) (sym h.refused) fault;
              lasting = lasts;
              kept = λ n. sym same;
            };
            grew = each_map (PartGrew (λ z. PartGoes z (map said_of s.given) (map said_of given))) (PartGrew (λ z. GrewBy z lim b was c ended)) old.parts d.parts
                (λ p q. part_grew lim b was (map said_of s.given) s.seen c ended (map said_of given) seen p q) g;
          }

-- ---- a piece, in slices

module _ {C : Type 0} (stands : C → Tree → Type 0) (lim : Limits) (b : List ℕ) where
  -- what a front of a piece made
  abbrev pub InPiece : (old e : ManyView C) → (done : List ℕ) → Type 0
  InPiece old e done = Called stands lim b false (b ++ done) false old e

  pub piece_begins : (old : ManyView C) → old.refused ≡ None → ManyStand stands lim old b false → InPiece old old []
  piece_begins old fresh s =
      on_none old.refused (ManyLost lim old old b false (b ++ []) false) (ManyKept stands lim old old b false (b ++ []) false) fresh (subst (λ (z : List ℕ). ManyKept stands lim old old b false z false) (sym (append-nil b)) kept)
    where
      none_more : (p : PartView C) → PartGrew (λ plan. GrewBy plan lim b false b false) p p
      none_more p =
          let plan = plan_tree p.plan in
          let w = bytes_at plan (seen_tree (map said_of s.given)) (all_of plan (seen_tree (map said_of s.given))) in
          record { plan = refl; grew = grew_none plan lim b false w p.out (settled_by plan lim b false (map said_of s.given) w s.seen refl) }

      kept : ManyKept stands lim old old b false b false
      kept = record { of = s; grew = each_same old.parts (PartGrew (λ plan. GrewBy plan lim b false b false)) none_more }

  -- a slice more, where nothing was refused before
  pub piece_on : (old e d : ManyView C) (done slice : List ℕ) → e.refused ≡ None → InPiece old e done → ((c : List ℕ) → ManyStand stands lim e c false → Called stands lim c false (c ++ slice) false e d)
      → InPiece old d (done ++ slice)
  piece_on old e d done slice fresh p fed =
      let k : ManyKept stands lim old e b false (b ++ done) false = from_none e.refused (ManyLost lim old e b false (b ++ done) false) (ManyKept stands lim old e b false (b ++ done) false) fresh p in
      let c = b ++ done in
      subst (λ (z : List ℕ). Called stands lim b false z false old d) (append_assoc b done slice)
      (refusal_map d.refused
      (λ (l : ManyLost lim e d c false (c ++ slice) false).
      each_on (PartGrew (λ z. GrewBy z lim b false c false)) (PartGrew (λ z. GrewWithin z lim c false (c ++ slice) false)) (PartGrew (λ z. GrewWithin z lim b false (c ++ slice) false)) old.parts e.parts d.parts
      (λ x y z g h. record {
        plan = h.plan ∙ g.plan;
        grew = within_on (plan_tree x.plan) lim b false c false (c ++ slice) false x.out y.out z.out g.grew (subst (λ (q : PlanTree). GrewWithin q lim c false (c ++ slice) false y.out z.out) (ap plan_tree g.plan) h.grew);
      })
      k.grew l)
      (λ lasts (q : ManyKept stands lim e d c false (c ++ slice) false). record {
        of = q.of;
        grew = each_on (PartGrew (λ z. GrewBy z lim b false c false)) (PartGrew (λ z. GrewBy z lim c false (c ++ slice) false)) (PartGrew (λ z. GrewBy z lim b false (c ++ slice) false)) old.parts e.parts d.parts
            (λ x y z g h. record {
              plan = h.plan ∙ g.plan;
              grew = grew_on (plan_tree x.plan) lim b false c false (c ++ slice) false x.out y.out z.out g.grew (subst (λ (q : PlanTree). GrewBy q lim c false (c ++ slice) false y.out z.out) (ap plan_tree g.plan) h.grew);
            })
            k.grew q.grew;
      })
      (fed c k.of))

  -- the rest of a piece is counted alone
  pub piece_ends : (old e : ManyView C) (done rest : List ℕ) → (e.refused ≡ None → rest ≡ []) → InPiece old e done → InPiece old (record e { bytes = e.bytes + length rest }) (done ++ rest)
  piece_ends old e done rest none p =
      subst (λ (z : List ℕ). Called stands lim b false z false old counted) (append_assoc b done rest) (refusal_map e.refused lost kept p)
    where
      counted : ManyView C
      counted = record e { bytes = e.bytes + length rest }

      lost : ManyLost lim old e b false (b ++ done) false → ManyLost lim old counted b false ((b ++ done) ++ rest) false
      lost l = each_map (PartGrew (λ z. GrewWithin z lim b false (b ++ done) false)) (PartGrew (λ z. GrewWithin z lim b false ((b ++ done) ++ rest) false)) old.parts e.parts
          (λ x y g. record { plan = g.plan; grew = within_more (plan_tree x.plan) lim b false (b ++ done) rest x.out y.out g.grew }) l

      kept : (e.refused ≡ Some Memory → ⊥) → ManyKept stands lim old e b false (b ++ done) false → ManyKept stands lim old counted b false ((b ++ done) ++ rest) false
      kept lasts k = by_refusal e.refused refl
        where
          s : ManyStand stands lim e (b ++ done) false
          s = k.of

          by_refusal : (o : Option DocFault) → e.refused ≡ o → ManyKept stands lim old counted b false ((b ++ done) ++ rest) false
          by_refusal None f =
              let z : rest ≡ [] = none f in
              let c : (b ++ done) ++ rest ≡ b ++ done = ap (λ (x : List ℕ). (b ++ done) ++ x) z ∙ append-nil (b ++ done) in
              let n = ap length z in
              let l = length-append (b ++ done) rest in
              let y = s.bytes in
              subst (λ (x : List ℕ). ManyKept stands lim old counted b false x false) (sym c) (record {
                of = record { limits = s.limits; given = s.given; seen = s.seen; reader = s.reader; none = s.none; parts = s.parts; closing = s.closing; bytes = omega arith; fault = s.fault; lasting = s.lasting; kept = s.kept };
                grew = k.grew;
              })
          by_refusal (Some g) f =
              let is : IsRefused e.reader = λ n. let q = s.kept (λ m. let x : Some g ≡ None = sym f ∙ m in cc) in let x : Some g ≡ None = sym f ∙ (sym q ∙ n) in cc in
              let r : Stands e.reader lim ((b ++ done) ++ rest) false s.given = stands_still e.reader lim (b ++ done) rest s.given is s.reader in
              let same' : e.reader.refused ≡ e.refused = s.kept (λ m. let x : Some g ≡ None = sym f ∙ m in cc) in
              let seen : SeenIs lim ((b ++ done) ++ rest) false (map said_of s.given) = all_given e.reader lim ((b ++ done) ++ rest) false s.given r s.none (λ m. lasts (sym same' ∙ m)) in
              let l = length-append (b ++ done) rest in
              let y = s.bytes in
              record {
                of = record {
                  limits = s.limits;
                  given = s.given;
                  seen = seen;
                  reader = r;
                  none = s.none;
                  parts = s.parts;
                  closing = s.closing;
                  bytes = omega arith;
                  fault = subst (λ (z : Option DocFault). IsFault z lim ((b ++ done) ++ rest) false) same' r.fault;
                  lasting = s.lasting;
                  kept = s.kept;
                };
                grew = each_map (PartGrew (λ z. GrewBy z lim b false (b ++ done) false)) (PartGrew (λ z. GrewBy z lim b false ((b ++ done) ++ rest) false)) old.parts e.parts (λ x y h.
                    let plan = plan_tree x.plan in
                    let old_w = h.grew.old ++ h.grew.more in
                    let w : old_w ≡ bytes_written plan.body (seen_tree (map said_of s.given)) = settled_one plan lim (b ++ done) false old_w _ h.grew.settles (record { tokens = map said_of s.given; seen = s.seen; is = refl }) in
                    record {
                      plan = h.plan;
                      grew = record { old = h.grew.old; more = h.grew.more; settled = h.grew.settled; settles = record { tokens = map said_of s.given; seen = seen; is = w }; grew = h.grew.grew };
                    }) k.grew;
              }

-- ---- what calls ask, and their answers

module _ {C : Type 0} (stands : C → Tree → Type 0) (lim : Limits) where
  -- the answer is the fault of the bytes
  pub exact_by : (old d : ManyView C) (b : List ℕ) (was : Bool) (c : List ℕ) (ended : Bool) (r : Result ⊤ DocFault) → r ≡ answer_by d.refused → Called stands lim b was c ended old d → Answers r lim c ended
  exact_by old d b was c ended r e h =
      answer_of_fault d.refused r lim c ended e
      (refusal_fault d.refused (ManyLost lim old d b was c ended) lim c ended (refusal_map d.refused (λ (l : ManyLost lim old d b was c ended). l) (λ lasts (k : ManyKept stands lim old d b was c ended). k.of.fault) h))

  -- the parts stand for the tokens that the reader gave, whatever was read
  pub given_read : (old : ManyView C) (b : List ℕ) (was : Bool) (c : List ℕ) (ended : Bool) (s : ManyStand stands lim old b was) (d : ManyView C) → d.parts ≡ old.parts → Stands d.reader lim c ended s.given
      → TokensGiven stands d lim c ended s.given
  given_read old b was c ended s d parts h = record {
    limits = s.limits;
    reader = h;
    parts = λ i p at. s.parts i p (ap (λ (z : List (PartView C)). slice_get z i) (sym parts) ∙ at);
  }

  -- bytes that aren't refused are few
  pub bytes_small : (e : ManyView C) (b : List ℕ) (ended : Bool) → ManyStand stands lim e b ended → e.refused ≡ None → e.bytes ≤ 1099511627776
  bytes_small e b ended s fresh =
      let f = none_within lim b ended (subst (λ (z : Option DocFault). IsFault z lim b ended) fresh s.fault) in
      let l = s.limits.bytes in
      let n = s.bytes in
      omega arith

  -- the state within a piece, where nothing is refused
  pub piece_some : (b : List ℕ) (old e : ManyView C) (done : List ℕ) → e.refused ≡ None → InPiece stands lim b old e done → ManyStandSome stands e false
  piece_some b old e done fresh p =
      let k = from_none e.refused (ManyLost lim old e b false (b ++ done) false) (ManyKept stands lim old e b false (b ++ done) false) fresh p in
      record { limits = lim; read = b ++ done; of = k.of }
