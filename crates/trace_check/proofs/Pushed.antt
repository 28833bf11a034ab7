-- The times of openings and closings, with one token more.
use Rattle.std.proofs.Common.{◌≡◌, ℕ, suc, ◌+◌, ◌<◌, Bool, true, false, cond, not, ◌&&◌, List, [], ◌∷◌, ◌++◌, length, refl, sym, ◌∙◌, ap, inl, inr, arith, ltb, append-nil, append_assoc}
use Rattle.std.proofs.lemmas.Bool.{lt-ltb, le-ltb, ltb-true, cases_lt, and_parts, not-true}
use Rattle.gcx_base.specs.declared.kind.Kind.TheVariants.{Document}
use Rattle.gcx_model.specs.Tree.{Root, Under, Tree, TreeToken, grow, grow_all, is_open_at}
use Rattle.tree_laws.proofs.Freeze.{stays_closed}
use Rattle.time_laws.proofs.Clocks.{no_fewer}
use Rattle.time_laws.specs.Times.{opened_from, closed_from}
use Rattle.trace_check.specs.Timing.{fed_at, fed_all}
use Rattle.trace_check.specs.declared.timed.Fed.{Fed}

pub opened_push : (ts : List TreeToken) (t : TreeToken) (P : Tree) (now n : ℕ)
    → opened_from (ts ++ t ∷ []) P now n ≡ cond (ltb n (length (grow_all ts P).nodes)) (opened_from ts P now n) (suc (now + length ts))
opened_push [] t P now n = let z : suc now ≡ suc (now + 0) = omega arith in ap (λ (k : ℕ). cond (ltb n (length P.nodes)) now k) z
opened_push (s ∷ ts) t P now n = elim (cases_lt n (length P.nodes)) [
  | inl a ↦ (let l : n < length (grow_all ts (grow s P)).nodes = (let h = no_fewer (s ∷ ts) P in omega (arith, a, h)) in rw (lt-ltb n (length P.nodes) a, lt-ltb n (length (grow_all ts (grow s P)).nodes) l) refl)
  | inr a ↦ (let z : suc (suc now + length ts) ≡ suc (now + suc (length ts)) = omega arith in
      rw (le-ltb n (length P.nodes) a)
      (opened_push ts t (grow s P) (suc now) n ∙ ap (λ (k : ℕ). cond (ltb n (length (grow_all ts (grow s P)).nodes)) (opened_from ts (grow s P) (suc now) n) k) z))
]

pub stays : (t : TreeToken) (P : Tree) (n : ℕ) → n < length P.nodes → is_open_at P.at n ≡ false → is_open_at (grow t P).at n ≡ false
stays t P n l c = not-true (is_open_at (grow t P).at n) (stays_closed t P (Under Root n Document) l (ap not c))

pub stay_all : (ts : List TreeToken) (P : Tree) (n : ℕ) → n < length P.nodes → is_open_at P.at n ≡ false → is_open_at (grow_all ts P).at n ≡ false
stay_all [] P n l c = c
stay_all (t ∷ ts) P n l c = stay_all ts (grow t P) n (let h = no_fewer (t ∷ []) P in omega (arith, l, h)) (stays t P n l c)

pub closed_push : (ts : List TreeToken) (t : TreeToken) (P : Tree) (now n : ℕ)
    → closed_from (ts ++ t ∷ []) P now n ≡ cond (ltb n (length (grow_all ts P).nodes) && not (is_open_at (grow_all ts P).at n)) (closed_from ts P now n) (suc (now + length ts))
closed_push [] t P now n = let z : suc now ≡ suc (now + 0) = omega arith in ap (λ (k : ℕ). cond (ltb n (length P.nodes) && not (is_open_at P.at n)) now k) z
closed_push (s ∷ ts) t P now n = go (ltb n (length P.nodes) && not (is_open_at P.at n)) refl (closed_push ts t (grow s P) (suc now) n)
  where
    go : (b : Bool) → (ltb n (length P.nodes) && not (is_open_at P.at n)) ≡ b
        → closed_from (ts ++ t ∷ []) (grow s P) (suc now) n ≡ cond (ltb n (length (grow_all ts (grow s P)).nodes) && not (is_open_at (grow_all ts (grow s P)).at n)) (closed_from ts (grow s P) (suc now) n) (suc (suc now + length ts))
        → cond b now (closed_from (ts ++ t ∷ []) (grow s P) (suc now) n)
        ≡ cond (ltb n (length (grow_all ts (grow s P)).nodes) && not (is_open_at (grow_all ts (grow s P)).at n)) (cond b now (closed_from ts (grow s P) (suc now) n)) (suc (now + suc (length ts)))
    go true g ih =
        let a = and_parts (ltb n (length P.nodes)) (not (is_open_at P.at n)) g in
        let there : n < length P.nodes = ltb-true n (length P.nodes) a.0 in
        let l : n < length (grow_all ts (grow s P)).nodes = (let h = no_fewer (s ∷ ts) P in omega (arith, there, h)) in
        let c : is_open_at (grow_all ts (grow s P)).at n ≡ false = stay_all (s ∷ ts) P n there (not-true (is_open_at P.at n) a.1) in
        rw (lt-ltb n (length (grow_all ts (grow s P)).nodes) l, c) refl
    go false g ih =
        let z : suc (suc now + length ts) ≡ suc (now + suc (length ts)) = omega arith in
        ih ∙ ap (λ (k : ℕ). cond (ltb n (length (grow_all ts (grow s P)).nodes) && not (is_open_at (grow_all ts (grow s P)).at n)) (closed_from ts (grow s P) (suc now) n) k) z

pub fed_push : (ts : List TreeToken) (t : TreeToken) (P : Tree) → fed_all (ts ++ t ∷ []) P ≡ fed_all ts P ++ fed_at (grow_all ts P).at t
fed_push [] t P = append-nil (fed_at P.at t)
fed_push (s ∷ ts) t P = ap (λ (l : List Fed). fed_at P.at s ++ l) (fed_push ts t (grow s P)) ∙ sym (append_assoc (fed_at P.at s) (fed_all ts (grow s P)) (fed_at (grow_all ts (grow s P)).at t))
