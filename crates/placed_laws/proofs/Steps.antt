-- A step at the top of the frames is a step of the whole, and the next round of a loop.
use Rattle.std.proofs.Common.{◌≡◌, ℕ, true, List, [], ◌∷◌, ◌++◌, length, refl, sym, ◌∙◌, ap, subst, append_assoc}
use Rattle.std.proofs.lemmas.List.{append-nil}
use Rattle.gcx_model.specs.Tree.{Tree}
use Rattle.gcx_model.specs.Core.{For, If, BodyTree, Then}
use Rattle.gcx_model.specs.Truth.{Env, bind_var}
use Rattle.gcx_model.specs.Run.{Action, loop, run_item}
use Rattle.placed_laws.proofs.PointForms.{Frame, Rest, LoopRound, CopyPart, IsPoint, Begins, PastItem, InLoop, InYes, InNo, InCopy, body_at}

-- a point has a top frame
pub has_top : (P : Tree) (d : BodyTree) (env : Env) (before : List Action) (fs : List Frame) → IsPoint P d env before fs → (f : Frame) × (tail : List Frame) × (fs ≡ f ∷ tail)
has_top P d env before fs Begins = (Rest d env, [], refl)
has_top P d env before fs (PastItem {d = rest} {before = before'} e h) = has_top P rest env before' fs h
has_top P d env before fs (InYes {a = a} {d = rest} {fs = fs'} e h) = let r = has_top P a env before fs' h in (r.0, r.1 ++ Rest rest env ∷ [], ap (λ z. z ++ Rest rest env ∷ []) r.2)
has_top P d env before fs (InNo {b = b} {d = rest} {fs = fs'} e h) = let r = has_top P b env before fs' h in (r.0, r.1 ++ Rest rest env ∷ [], ap (λ z. z ++ Rest rest env ∷ []) r.2)
has_top P d env before fs (InLoop {x = x} {y = y} {s = s} {e = e} {d = rest} {before = before'} {fs = fs'} pre n post m dn h) =
    let r = has_top P e (bind_var env x n) before' fs' h in
    (r.0, r.1 ++ LoopRound x y s e env n ∷ Rest rest env ∷ [], ap (λ z. z ++ LoopRound x y s e env n ∷ Rest rest env ∷ []) r.2)
has_top P d env before fs (InCopy {x = x} {d = rest} before' rest' e) = (CopyPart x env (length before), Rest rest env ∷ [], refl)

pub cons_same : {X : Type 0} (x y : X) (xs ys : List X) → x ∷ xs ≡ y ∷ ys → (x ≡ y) × (xs ≡ ys)
cons_same x y xs ys e = (cc, cc)

-- of an inner list with a top, behind which more follows
pub front : (g f : Frame) (fs gs tail tail' : List Frame) → fs ≡ f ∷ tail' → fs ++ gs ≡ g ∷ tail → (fs ≡ g ∷ tail') × (tail ≡ tail' ++ gs)
front g f fs gs tail tail' e h =
    let q = cons_same f g (tail' ++ gs) tail (ap (λ z. z ++ gs) (sym e) ∙ h) in
    (e ∙ ap (λ z. z ∷ tail') q.0, sym q.1)

pub compose : (P : Tree) (d : BodyTree) (env : Env) (before : List Action) (fs : List Frame) → IsPoint P d env before fs
    → (d' : BodyTree) (env' : Env) (tail : List Frame) → fs ≡ Rest d' env' ∷ tail → (acts : List Action) (top : List Frame) → IsPoint P d' env' acts top → IsPoint P d env (before ++ acts) (top ++ tail)
compose P d env before fs Begins d' env' tail e acts top g =
    let q = cons_same (Rest d env) (Rest d' env') [] tail e in
    let same_d : d ≡ d' = cc in
    let same_env : env ≡ env' = cc in
    rw (same_d, same_env) (rw (sym q.1, append-nil top) g)
compose P d env before fs (PastItem {i = i} {d = rest} {before = before'} dn h) d' env' tail e acts top g =
    subst (λ (z : List Action). IsPoint P (Then i rest) env z (top ++ tail)) (sym (append_assoc (run_item i env P).acts before' acts))
    (PastItem dn (compose P rest env before' fs h d' env' tail e acts top g))
compose P d env before fs (InYes {c = c} {a = a} {b = b} {d = rest} {fs = fs'} t h) d' env' tail e acts top g =
    let r = has_top P a env before fs' h in
    let q = front (Rest d' env') r.0 fs' (Rest rest env ∷ []) tail r.1 r.2 e in
    subst (λ (z : List Frame). IsPoint P (Then (If c a b) rest) env (before ++ acts) z) (append_assoc top r.1 (Rest rest env ∷ []) ∙ ap (λ z. top ++ z) (sym q.1))
    (InYes t (compose P a env before fs' h d' env' r.1 q.0 acts top g))
compose P d env before fs (InNo {c = c} {a = a} {b = b} {d = rest} {fs = fs'} t h) d' env' tail e acts top g =
    let r = has_top P b env before fs' h in
    let q = front (Rest d' env') r.0 fs' (Rest rest env ∷ []) tail r.1 r.2 e in
    subst (λ (z : List Frame). IsPoint P (Then (If c a b) rest) env (before ++ acts) z) (append_assoc top r.1 (Rest rest env ∷ []) ∙ ap (λ z. top ++ z) (sym q.1))
    (InNo t (compose P b env before fs' h d' env' r.1 q.0 acts top g))
compose P d env before fs (InLoop {x = x} {y = y} {s = s} {e = b} {d = rest} {before = before'} {fs = fs'} pre n post m dn h) d' env' tail e acts top g =
    let r = has_top P b (bind_var env x n) before' fs' h in
    let gs : List Frame = LoopRound x y s b env n ∷ Rest rest env ∷ [] in
    let q = front (Rest d' env') r.0 fs' gs tail r.1 r.2 e in
    subst (λ (z : List Frame). IsPoint P (Then (For x y s b) rest) env (((loop (body_at b x env P) pre true).acts ++ before') ++ acts) z) (append_assoc top r.1 gs ∙ ap (λ z. top ++ z) (sym q.1))
    (subst (λ (z : List Action). IsPoint P (Then (For x y s b) rest) env z ((top ++ r.1) ++ gs)) (sym (append_assoc (loop (body_at b x env P) pre true).acts before' acts))
    (InLoop pre n post m dn (compose P b (bind_var env x n) before' fs' h d' env' r.1 q.0 acts top g)))
compose P d env before fs (InCopy {x = x} {d = rest} before' rest' f) d' env' tail e acts top g =
    absurd (not_rest x env (length before) d' env' (cons_same (CopyPart x env (length before)) (Rest d' env') (Rest rest env ∷ []) tail e).0)
  where
    not_rest : (x : ℕ) (env : Env) (k : ℕ) (d : BodyTree) (env' : Env) → CopyPart x env k ≡ Rest d env' → ⊥
    not_rest x env k d env' e = cc
