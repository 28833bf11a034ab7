-- The outputs written, each to its file, in order.
use Rattle.std.proofs.Common.{◌≡◌, ◌≢◌, ◌∙◌, ℕ, suc, Bool, false, ◌<◌, ◌≤◌, List, [], ⊎_elim, length, map, slice_get, Option, Some, refl, sym, ap, subst, arith}
use Rattle.std.specs.Prelude.{IfSome}
use Rattle.std.proofs.lemmas.List.{append-nil}
use Rattle.gcx_base.specs.declared.limits.Limits.{Limits}
use Rattle.gcx_io.specs.Causes.{Rose}
use Rattle.gcx_io.specs.Shelf.{IsTelling}
use Rattle.gcx_io.specs.Views.{ShelfView, SinkView}
use Rattle.gcx_io.specs.Writing.{Owes, Takes}
use Rattle.gcx_io.specs.declared.shelf.Handle.{Handle}
use Rattle.gcx_io.proofs.Written.{takes_none}
use Rattle.gcx_model.specs.Tree.{Tree}
use Rattle.run_words.proofs.Joining.{owes_then, takes_then}
use Rattle.doc_reader.specs.Standing.{said_of}
use Rattle.many_run.specs.Calls.{ClearsOutput}
use Rattle.many_run.specs.Each.{OfEach}
use Rattle.many_run.specs.Files.{HandlesApart, HaveOtherNames, LeavesTheRest, name_of_handle, sink_at}
use Rattle.many_run.specs.Many.{ManyStand}
use Rattle.run_part.specs.Part.{PartStands}
use Rattle.many_run.specs.Runs.{ManyGoOnFrom, MayWrite, OfOutputs, OnlyWritten, StopsInEach, WritesOnly, WroteEach}
use Rattle.many_run.specs.View.{ManyView}
use Rattle.run_part.specs.View.{PartView}
use Rattle.many_run.proofs.Filing.{telling_back}
use Rattle.many_run.proofs.Lists.{each_on}
use Rattle.many_run.proofs.Resting.{rest_on, rest_same, rest_written, sink_aside}
use Rattle.many_run.proofs.Walking.{each_same, not_there, place_of, some_is, there}

-- ---- parts of which only what waits changed

module _ {C : Type 0} where
  pub only_none : (m : ManyView C) → OnlyWritten m m
  only_none m = record { rest = refl; each = each_same m.parts (λ p q. q ≡ record p { out = q.out }) (λ p. refl) }

  pub only_then : (a b c : ManyView C) → OnlyWritten a b → OnlyWritten b c → OnlyWritten a c
  only_then a b c f g = record {
    rest = g.rest ∙ ap (λ (z : ManyView C). record z { parts = c.parts }) f.rest;
    each = each_on {X = PartView C} {Y = PartView C} {Z = PartView C} (λ p q. q ≡ record p { out = q.out }) (λ p q. q ≡ record p { out = q.out }) (λ p q. q ≡ record p { out = q.out }) a.parts b.parts c.parts
        (λ x y z same then. then ∙ ap (λ (p : PartView C). record p { out = z.out }) same) f.each g.each;
  }

  pub only_bytes : (a b : ManyView C) → OnlyWritten a b → b.bytes ≡ a.bytes
  only_bytes a b h = ap (λ (z : ManyView C). z.bytes) h.rest

  module _ (stands : C → Tree → Type 0) (lim : Limits) where
    pub stand_written : (a b : ManyView C) (read : List ℕ) (ended : Bool) → OnlyWritten a b → ManyStand stands lim a read ended → ManyStand stands lim b read ended
    stand_written a b read ended h s = subst (λ (z : ManyView C). ManyStand stands lim z read ended) (sym h.rest) (record {
      limits = s.limits;
      given = s.given;
      seen = s.seen;
      reader = s.reader;
      none = s.none;
      parts = λ i q is_q.
          let p = there a.parts i (let l = not_there b.parts i q is_q in let n = h.each.count in omega (arith, l, n)) in
          subst (λ (z : PartView C). PartStands stands 1 (map said_of s.given) z) (sym (h.each.each i p.0 q p.1 is_q)) (s.parts i p.0 p.1);
      closing = s.closing;
      bytes = s.bytes;
      fault = s.fault;
      lasting = s.lasting;
      kept = s.kept;
    })

    pub goes_written : (a b : ManyView C) → OnlyWritten a b → ManyGoOnFrom stands lim a → ManyGoOnFrom stands lim b
    goes_written a b h s = record { read = s.read; of = stand_written a b s.read false h s.of; fresh = ap (λ (z : ManyView C). z.refused) h.rest ∙ s.fresh }

-- ---- the handles are apart, whatever was written

pub apart_on : (R : ℕ → Type 0) (a b : ShelfView) (doc : Handle) (outs : List Handle) → LeavesTheRest R outs a b → HandlesApart a doc outs → HandlesApart b doc outs
apart_on R a b doc outs f h = record {
  doc_given = let l = h.doc_given in let n = f.count in omega (arith, l, n);
  given = λ i o is. let l = h.given i o is in let n = f.count in omega (arith, l, n);
  from_doc = λ i o is. let x = h.from_doc i o is in (x.0, λ telling same. x.1 (back telling) (same_names o.0 doc.0 same));
  from_others = λ i j o p is_o is_p other. let x = h.from_others i j o p is_o is_p other in (x.0, λ telling same. x.1 (back telling) (same_names o.0 p.0 same));
}
  where
    back : IsTelling b.names → IsTelling a.names
    back telling = telling_back (HaveOtherNames a outs) a.names b.names f.names telling

    same_names : (k l : ℕ) → name_of_handle b.given k ≡ name_of_handle b.given l → name_of_handle a.given k ≡ name_of_handle a.given l
    same_names k l same = sym (f.names_of k) ∙ (same ∙ f.names_of l)

-- ---- one output after the other

-- what an output is of the part at its place, where that one is as it was
pub output_of : {C : Type 0} (now old : List (PartView C)) (k : ℕ) (out : List ℕ) → IfSome (slice_get now k) (λ p. out ≡ p.out) → slice_get now k ≡ slice_get old k → (p : PartView C) → slice_get old k ≡ Some p → p.out ≡ out
output_of {C} now old k out is same p at = sym (subst (λ (o : Option (PartView C)). IfSome o (λ q. out ≡ q.out)) (same ∙ at) is)

-- those before the place were written, and nothing went to the others
abbrev pub WrittenTo : (k i : ℕ) → List ℕ → (a b : SinkView) → Type 0
WrittenTo k i out a b = (i < k → Takes a b out) × (k ≤ i → Takes a b [])

pub record Turned {C : Type 0} (old now : ManyView C) (outs : List Handle) (a b : ShelfView) (k : ℕ) : Type 0 where
  pub within : k ≤ length outs
  pub only : OnlyWritten old now
  pub empty : (i : ℕ) (p : PartView C) → i < k → slice_get now.parts i ≡ Some p → p.out ≡ []
  pub others : (i : ℕ) → k ≤ i → slice_get now.parts i ≡ slice_get old.parts i
  pub each : OfOutputs old outs a b (WrittenTo k)
  pub rest : LeavesTheRest (λ h. ⊥) outs a b
  pub faults : b.faults ≡ a.faults
  pub calm : b.write_faults ≡ a.write_faults

module _ {C : Type 0} (old : ManyView C) (outs : List Handle) (a : ShelfView) where
  pub turned_none : Turned old old outs a a 0
  turned_none = record {
    within = omega arith;
    only = only_none old;
    empty = λ i p below. absurd (omega (arith, below));
    others = λ i above. refl;
    each = λ i p o is_p is_o. (λ below. absurd (omega (arith, below)), λ above. takes_none (sink_at o.0 a));
    rest = rest_same outs (λ h. ⊥) a;
    faults = refl;
    calm = refl;
  }

  -- all were
  pub turned_all : (now : ManyView C) (b : ShelfView) (k : ℕ) → length outs ≤ k → Turned old now outs a b k → WroteEach old outs a b
  turned_all now b k past t = record {
    each = λ i p o is_p is_o. (t.each i p o is_p is_o).0 (let l = not_there outs i o is_o in omega (arith, l, past));
    write_faults = t.calm;
  }

  pub turned_empty : (now : ManyView C) (b : ShelfView) (k : ℕ) → length outs ≡ length old.parts → length outs ≤ k → Turned old now outs a b k → OfEach (λ p. p.out ≡ []) now.parts
  turned_empty now b k count past t i p is_p = t.empty i p (let l = not_there now.parts i p is_p in let n = t.only.each.count in omega (arith, l, n, count, past)) is_p

  module _ (doc : Handle) (may : MayWrite old a doc outs) (now : ManyView C) (b c : ShelfView) (k : ℕ) (o : Handle) (is_o : slice_get outs k ≡ Some o) (t : Turned old now outs a b k) (w : WritesOnly o.0 b c) where
    apart_now : HandlesApart b doc outs
    apart_now = apart_on (λ h. ⊥) a b doc outs t.rest may.apart

    -- what another output's file takes of this write
    aside : (i : ℕ) (p : Handle) → slice_get outs i ≡ Some p → i ≢ k → Takes (sink_at p.0 b) (sink_at p.0 c) []
    aside i p is_p other =
        let x = apart_now.from_others i k p o is_p is_o other in
        sink_aside o.0 p.0 b c w x.0 x.1

    nothing_more : (x y z : SinkView) (v : List ℕ) → Takes x y v → Takes y z [] → Takes x z v
    nothing_more x y z v first second = subst (λ (l : List ℕ). Takes x z l) (append-nil v) (takes_then x y z v [] first second)

    pub rest_now : LeavesTheRest (λ h. ⊥) outs a c
    rest_now = rest_on outs (λ h. ⊥) a b c t.rest (rest_written outs b c k o is_o w)

    -- the write failed
    module _ (out : List ℕ) (part : (p : PartView C) → slice_get old.parts k ≡ Some p → p.out ≡ out) (owes : Owes (sink_at o.0 b) (sink_at o.0 c) [] out) (rose : Rose b.write_faults c.write_faults) where
      pub turned_stops : StopsInEach old outs a c
      turned_stops = record {
        at = k;
        there = not_there outs k o is_o;
        each = λ i p q is_p is_q. (
          λ below. nothing_more (sink_at q.0 a) (sink_at q.0 b) (sink_at q.0 c) p.out ((t.each i p q is_p is_q).0 below) (aside i q is_q (far_below i below)),
          λ same. at_place i p q is_p is_q same,
          λ above. nothing_more (sink_at q.0 a) (sink_at q.0 b) (sink_at q.0 c) [] ((t.each i p q is_p is_q).1 (omega (arith, above))) (aside i q is_q (far_above i above)),
        );
        write_faults = subst (λ (n : ℕ). Rose n c.write_faults) t.calm rose;
      }
        where
          far_below : (i : ℕ) → i < k → i ≢ k
          far_below i below same = let l : k < k = subst (λ (n : ℕ). n < k) same below in omega (arith, l)

          far_above : (i : ℕ) → k < i → i ≢ k
          far_above i above same = let l : k < k = subst (λ (n : ℕ). k < n) same above in omega (arith, l)

          at_place : (i : ℕ) (p : PartView C) (q : Handle) → slice_get old.parts i ≡ Some p → slice_get outs i ≡ Some q → i ≡ k → Owes (sink_at q.0 a) (sink_at q.0 c) [] p.out
          at_place i p q is_p is_q same =
              let handle : o ≡ q = some_is (slice_get outs k) o q is_o (subst (λ (n : ℕ). slice_get outs n ≡ Some q) same is_q) in
              let is : p.out ≡ out = part p (subst (λ (n : ℕ). slice_get old.parts n ≡ Some p) same is_p) in
              let none : Takes (sink_at q.0 a) (sink_at q.0 b) [] = (t.each i p q is_p is_q).1 (subst (λ (n : ℕ). k ≤ n) (sym same) (omega arith)) in
              subst (λ (l : List ℕ). Owes (sink_at q.0 a) (sink_at q.0 c) [] l) (sym is)
              (owes_then (sink_at q.0 a) (sink_at q.0 b) (sink_at q.0 c) [] out none (subst (λ (z : Handle). Owes (sink_at z.0 b) (sink_at z.0 c) [] out) handle owes))

    -- it was made
    module _ (then : ManyView C) (out : List ℕ) (part : (p : PartView C) → slice_get old.parts k ≡ Some p → p.out ≡ out) (took : Takes (sink_at o.0 b) (sink_at o.0 c) out) (calm : c.write_faults ≡ b.write_faults)
        (cleared : ClearsOutput k now then) (counted : length outs ≡ length old.parts) where
      only_next : OnlyWritten now then
      only_next = record { rest = cleared.rest; each = record { count = cleared.count; each = same_part } }
        where
          same_part : (i : ℕ) (p q : PartView C) → slice_get now.parts i ≡ Some p → slice_get then.parts i ≡ Some q → q ≡ record p { out = q.out }
          same_part i p q is_p is_q =
              ⊎_elim (λ less. elsewhere (λ same. let l : k < k = subst (λ (n : ℕ). n < k) same less in omega (arith, l)))
              (λ rest. ⊎_elim (λ same. here same) (λ above. elsewhere (λ same. let l : suc k ≤ k = subst (λ (n : ℕ). suc k ≤ n) same above in omega (arith, l))) rest) (place_of i k)
            where
              elsewhere : i ≢ k → q ≡ record p { out = q.out }
              elsewhere far = let same : q ≡ p = some_is (slice_get now.parts i) q p (sym (cleared.others i far) ∙ is_q) is_p in subst (λ (z : PartView C). z ≡ record p { out = z.out }) (sym same) refl

              here : i ≡ k → q ≡ record p { out = q.out }
              here same =
                  let was : slice_get now.parts k ≡ Some p = subst (λ (n : ℕ). slice_get now.parts n ≡ Some p) same is_p in
                  let is : q ≡ record p { out = [] } = some_is (slice_get then.parts k) q (record p { out = [] }) (subst (λ (n : ℕ). slice_get then.parts n ≡ Some q) same is_q) (cleared.cleared p was) in
                  subst (λ (z : PartView C). z ≡ record p { out = z.out }) (sym is) refl

      empty_next : (i : ℕ) (p : PartView C) → i < suc k → slice_get then.parts i ≡ Some p → p.out ≡ []
      empty_next i p below is_p =
          ⊎_elim (λ less. t.empty i p less (sym (cleared.others i (λ same. let l : k < k = subst (λ (n : ℕ). n < k) same less in omega (arith, l))) ∙ is_p))
          (λ rest. ⊎_elim (λ same. here same) (λ above. absurd (omega (arith, above, below))) rest) (place_of i k)
        where
          here : i ≡ k → p.out ≡ []
          here same =
              let l = not_there outs k o is_o in
              let n = t.only.each.count in
              let q = there now.parts k (omega (arith, l, n, counted)) in
              ap (λ (z : PartView C). z.out) (some_is (slice_get then.parts k) p (record q.0 { out = [] }) (subst (λ (n : ℕ). slice_get then.parts n ≡ Some p) same is_p) (cleared.cleared q.0 q.1))

      each_next : OfOutputs old outs a c (WrittenTo (suc k))
      each_next i p q is_p is_q = (below, λ above. nothing_more (sink_at q.0 a) (sink_at q.0 b) (sink_at q.0 c) [] ((t.each i p q is_p is_q).1 (omega (arith, above))) (aside i q is_q (far_above above)))
        where
          far_above : suc k ≤ i → i ≢ k
          far_above above same = let l : suc k ≤ k = subst (λ (n : ℕ). suc k ≤ n) same above in omega (arith, l)

          here : i ≡ k → Takes (sink_at q.0 a) (sink_at q.0 c) p.out
          here same =
              let handle : o ≡ q = some_is (slice_get outs k) o q is_o (subst (λ (n : ℕ). slice_get outs n ≡ Some q) same is_q) in
              let is : p.out ≡ out = part p (subst (λ (n : ℕ). slice_get old.parts n ≡ Some p) same is_p) in
              let none : Takes (sink_at q.0 a) (sink_at q.0 b) [] = (t.each i p q is_p is_q).1 (subst (λ (n : ℕ). k ≤ n) (sym same) (omega arith)) in
              subst (λ (l : List ℕ). Takes (sink_at q.0 a) (sink_at q.0 c) l) (sym is)
              (takes_then (sink_at q.0 a) (sink_at q.0 b) (sink_at q.0 c) [] out none (subst (λ (z : Handle). Takes (sink_at z.0 b) (sink_at z.0 c) out) handle took))

          below : i < suc k → Takes (sink_at q.0 a) (sink_at q.0 c) p.out
          below few =
              ⊎_elim (λ less. nothing_more (sink_at q.0 a) (sink_at q.0 b) (sink_at q.0 c) p.out ((t.each i p q is_p is_q).0 less) (aside i q is_q (λ same. let l : k < k = subst (λ (n : ℕ). n < k) same less in omega (arith, l))))
              (λ rest. ⊎_elim (λ same. here same) (λ above. absurd (omega (arith, above, few))) rest) (place_of i k)

      pub turned_on : Turned old then outs a c (suc k)
      turned_on = record {
        within = let l = not_there outs k o is_o in omega (arith, l);
        only = only_then old now then t.only only_next;
        empty = empty_next;
        others = λ i above. cleared.others i (λ same. let l : suc k ≤ k = subst (λ (n : ℕ). suc k ≤ n) same above in omega (arith, l)) ∙ t.others i (omega (arith, above));
        each = each_next;
        rest = rest_now;
        faults = w.faults ∙ t.faults;
        calm = calm ∙ t.calm;
      }
