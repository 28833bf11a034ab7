-- Tokens taken one after another, and the ends behind them.
use Rattle.std.proofs.Common.{◌≡◌, ℕ, zero, suc, Bool, true, List, [], ◌∷◌, ◌++◌, length, Option, Some, None, refl, sym, ◌∙◌, ap, subst, arith, append-nil, append_assoc}
use Rattle.std.proofs.lemmas.Bool.{and_parts, false≢true}
use Rattle.std.proofs.lemmas.List.{length_push}
use Rattle.gcx_model.specs.Growth.{ends, level, may_come, may_come_at, may_all}
use Rattle.gcx_model.specs.Tree.{Node, Tree, TreeToken, End, grow}
use Rattle.trace_check.specs.Timing.{HasTaken}
use Rattle.trace_check.specs.declared.timed.Timed.{Timed}

-- of these tokens the rest is to come
pub record HasTakenSome (old now : Timed) (all rest : List TreeToken) : Type 0 where
  pub done : List TreeToken
  pub split : all ≡ done ++ rest
  pub taken : (ts : List TreeToken) → HasTaken ts old → HasTaken (ts ++ done) now

pub some_none : (t : Timed) (all : List TreeToken) → HasTakenSome t t all all
some_none t all = record {
  done = [];
  split = refl;
  taken = λ ts h. subst (λ (l : List TreeToken). HasTaken l t) (sym (append-nil ts)) h;
}

pub some_on : (old now next : Timed) (all : List TreeToken) (t : TreeToken) (rest : List TreeToken) → HasTakenSome old now all (t ∷ rest)
    → ((ts : List TreeToken) → HasTaken ts now → HasTaken (ts ++ t ∷ []) next) → HasTakenSome old next all rest
some_on old now next all t rest h on = record {
  done = h.done ++ t ∷ [];
  split = h.split ∙ sym (append_assoc h.done (t ∷ []) rest);
  taken = λ ts k. subst (λ (l : List TreeToken). HasTaken l next) (append_assoc ts h.done (t ∷ [])) (on (ts ++ h.done) (h.taken ts k));
}

-- a token that may come has an open node
pub open_for : (t : TreeToken) (rest : List TreeToken) (P : Tree) → may_all (t ∷ rest) P ≡ true → P.at ≡ None → ⊥
open_for t rest P may none = false≢true (sym (ap (λ (o : Option Node). may_at o) none) ∙ (and_parts (may_come t P) (may_all rest (grow t P)) may).0)
  where
    may_at : Option Node → Bool
    may_at o = may_come_at o t P.nodes

pub come_on : (t : TreeToken) (rest : List TreeToken) (P : Tree) → may_all (t ∷ rest) P ≡ true → may_all rest (grow t P) ≡ true
come_on t rest P may = (and_parts (may_come t P) (may_all rest (grow t P)) may).1

-- ---- ends

-- how many nodes are open
abbrev pub open_nodes : Option Node → ℕ
open_nodes None = 0
open_nodes (Some p) = suc (level p)

pub record HasEnded (old now : Timed) : Type 0 where
  pub closing : List TreeToken
  pub ends_are : closing ≡ ends (length closing)
  pub taken : (ts : List TreeToken) → HasTaken ts old → HasTaken (ts ++ closing) now

ends_push : (n : ℕ) → ends n ++ End ∷ [] ≡ ends (suc n)
ends_push zero = refl
ends_push (suc n) = ap (λ (l : List TreeToken). End ∷ l) (ends_push n)

pub ended_on : (old now next : Timed) → HasEnded old now → ((ts : List TreeToken) → HasTaken ts now → HasTaken (ts ++ End ∷ []) next) → HasEnded old next
ended_on old now next h on = record {
  closing = h.closing ++ End ∷ [];
  ends_are =
      let n : length (h.closing ++ End ∷ []) ≡ suc (length h.closing) = omega (arith, length_push h.closing End) in
      ap (λ (l : List TreeToken). l ++ End ∷ []) h.ends_are ∙ (ends_push (length h.closing) ∙ ap ends (sym n));
  taken = λ ts k. subst (λ (l : List TreeToken). HasTaken l next) (append_assoc ts h.closing (End ∷ [])) (on (ts ++ h.closing) (h.taken ts k));
}
