-- Several plans over a document that isn't refused.
use Rattle.std.proofs.Common.{◌≡◌, ◌∙◌, ℕ, zero, suc, ◌<◌, false, List, [], ◌∷◌, ◌++◌, ⊎_elim, length, map, slice_get, Option, Some, None, refl, sym, subst, arith}
use Rattle.std.specs.Prelude.{OnOk, Result, ⊤}
use Rattle.std.specs.declared.result.Result.TheVariants.{Err, Ok}
use Rattle.gcx_model.specs.Tree.{Tree}
use Rattle.gcx_model.specs.declared.fault.DocFault.{DocFault}
use Rattle.doc_reader.specs.Standing.{answer_by, said_of}
use Rattle.engine.specs.Engine.{OnAnswer}
use Rattle.engine.proofs.CallsOfTurns.{ok_none}
use Rattle.many_run.specs.Calls.{ClearsOutput, TakesDocEnd, TakesDocPiece}
use Rattle.many_run.specs.Each.{OfEach}
use Rattle.many_run.specs.Many.{ManyStand, ManyStandSome}
use Rattle.run_part.specs.Part.{PartStands}
use Rattle.many_run.specs.View.{ManyView}
use Rattle.run_part.specs.View.{PartView}
use Rattle.many_run.proofs.Walking.{not_there, place_of, some_is, there}

-- what holds of two holds of each of them
pub each_two : {X : Type 0} (P : X → Type 0) (x y : X) (xs : List X) → xs ≡ x ∷ y ∷ [] → P x → P y → OfEach P xs
each_two P x y xs are first second = subst (λ (l : List _). OfEach P l) (sym are) each
  where
    each : OfEach P (x ∷ y ∷ [])
    each zero z at = subst P (some_is (Some x) x z refl at) first
    each (suc zero) z at = subst P (some_is (Some y) y z refl at) second
    each (suc (suc i)) z at = absurd (cc)

pub fresh_ok : (r : Result ⊤ DocFault) (m : Option DocFault) → r ≡ answer_by m → OnOk r (m ≡ None)
fresh_ok (Ok u) m is = ok_none m is
fresh_ok (Err f) m is = tt

module _ {C : Type 0} (stands : C → Tree → Type 0) (old new : ManyView C) (fresh : old.refused ≡ None) (s : ManyStandSome stands old false) where
  pub stand_ok : (r : Result ⊤ DocFault) (piece : List ℕ) → TakesDocPiece stands (OnAnswer r) old new piece → OnOk r (ManyStandSome stands new false)
  stand_ok (Ok u) piece fed = record { limits = s.limits; read = s.read ++ piece; of = (fed s.limits s.read s.of fresh).of }
  stand_ok (Err f) piece fed = tt

  pub count_ok : (r : Result ⊤ DocFault) (piece : List ℕ) → TakesDocPiece stands (OnAnswer r) old new piece → OnOk r (length new.parts ≡ length old.parts)
  count_ok (Ok u) piece fed = (fed s.limits s.read s.of fresh).grew.count
  count_ok (Err f) piece fed = tt

  pub count_end : (r : Result ⊤ DocFault) → TakesDocEnd stands (OnAnswer r) old new → OnOk r (length new.parts ≡ length old.parts)
  count_end (Ok u) ended = (ended s.limits s.read false s.of fresh).grew.count
  count_end (Err f) ended = tt

-- an output more was written
module _ {C : Type 0} (stands : C → Tree → Type 0) (k : ℕ) (old new : ManyView C) (c : ClearsOutput k old new) (s : ManyStandSome stands old false) where
  far : (i : ℕ) (q : PartView C) → slice_get new.parts i ≡ Some q → (i ≡ k → ⊥) → PartStands stands 1 (map said_of s.of.given) q
  far i q at other = s.of.parts i q (sym (c.others i other) ∙ at)

  here : (q : PartView C) → slice_get new.parts k ≡ Some q → PartStands stands 1 (map said_of s.of.given) q
  here q at =
      let p = there old.parts k (let l = not_there new.parts k q at in let n = c.count in omega (arith, l, n)) in
      subst (λ (z : PartView C). PartStands stands 1 (map said_of s.of.given) z) (some_is (slice_get new.parts k) (record (p.0) { out = [] }) q (c.cleared p.0 p.1) at) (s.of.parts k p.0 p.1)

  parts : (i : ℕ) (q : PartView C) → slice_get new.parts i ≡ Some q → PartStands stands 1 (map said_of s.of.given) q
  parts i q at =
      ⊎_elim (λ less. far i q at (λ same. let l : k < k = subst (λ (n : ℕ). n < k) same less in omega (arith, l)))
      (λ rest. ⊎_elim (λ same. here q (subst (λ (n : ℕ). slice_get new.parts n ≡ Some q) same at)) (λ above. far i q at (λ same. let l : k < k = subst (λ (n : ℕ). k < n) same (omega (arith, above)) in omega (arith, l))) rest) (place_of i k)

  pub stand_cleared : ManyStandSome stands new false
  stand_cleared = record {
    limits = s.limits;
    read = s.read;
    of = subst (λ (z : ManyView C). ManyStand stands s.limits z s.read false) (sym c.rest) (record {
      limits = s.of.limits;
      given = s.of.given;
      seen = s.of.seen;
      reader = s.of.reader;
      none = s.of.none;
      parts = parts;
      closing = s.of.closing;
      bytes = s.of.bytes;
      fault = s.of.fault;
      lasting = s.of.lasting;
      kept = s.of.kept;
    });
  }
