-- Steps of a point within a copy: one action more, and the end of the copy.
use Rattle.std.proofs.Common.{◌≡◌, ℕ, suc, true, List, [], ◌∷◌, ◌++◌, length, refl, sym, ◌∙◌, ap, subst, arith, append_assoc}
use Rattle.std.specs.Prelude.{drop}
use Rattle.std.proofs.lemmas.List.{append-nil, length-append}
use Rattle.std.proofs.Math.Seq.{drop-append_seam}
use Rattle.gcx_model.specs.Tree.{Tree}
use Rattle.gcx_model.specs.Core.{Copy, For, If, BodyTree, Then}
use Rattle.gcx_model.specs.Truth.{Env, bind_var}
use Rattle.gcx_model.specs.Run.{Action, copy, loop, run_item}
use Rattle.placed_laws.proofs.PointForms.{Frame, Rest, LoopRound, CopyPart, IsPoint, Begins, PastItem, InLoop, InYes, InNo, InCopy, body_at}
use Rattle.placed_laws.proofs.Steps.{has_top, front, cons_same}

-- the point seen from its copy
pub record Copying (P : Tree) (d : BodyTree) (env : Env) (before : List Action) (x : ℕ) (u : Env) (k : ℕ) (tail : List Frame) : Type 0 where
  pub rest : BodyTree
  pub acts : List Action
  pub more : List Action
  pub pre : List Action
  pub far : List Frame
  pub cut : (copy (length P.nodes) P (u x)).acts ≡ acts ++ more
  pub made : k ≡ length acts
  pub before_is : before ≡ pre ++ acts
  pub tail_is : tail ≡ Rest rest u ∷ far
  pub plug : (a : List Action) (top : List Frame) → IsPoint P (Then (Copy x) rest) u a top → IsPoint P d env (pre ++ a) (top ++ far)

wider : (P : Tree) (d d' : BodyTree) (env env' : Env) (before : List Action) (x : ℕ) (u : Env) (k : ℕ) (tail gs : List Frame) (first : List Action) → Copying P d env before x u k tail
    → ((a : List Action) (top : List Frame) → IsPoint P d env a top → IsPoint P d' env' (first ++ a) (top ++ gs)) → Copying P d' env' (first ++ before) x u k (tail ++ gs)
wider P d d' env env' before x u k tail gs first r h = record {
  rest = r.rest;
  acts = r.acts;
  more = r.more;
  pre = first ++ r.pre;
  far = r.far ++ gs;
  cut = r.cut;
  made = r.made;
  before_is = ap (λ z. first ++ z) r.before_is ∙ sym (append_assoc first r.pre r.acts);
  tail_is = ap (λ z. z ++ gs) r.tail_is;
  plug = λ a top st. subst (λ (z : List Frame). IsPoint P d' env' ((first ++ r.pre) ++ a) z) (append_assoc top r.far gs)
      (subst (λ (z : List Action). IsPoint P d' env' z ((top ++ r.far) ++ gs)) (sym (append_assoc first r.pre a)) (h (r.pre ++ a) (top ++ r.far) (r.plug a top st)));
}

-- what a frame that is a copy's sees
abbrev Sees : Tree → BodyTree → Env → List Action → Frame → List Frame → Type 0
Sees P d env before (Rest e u) fs = Unit {0}
Sees P d env before (LoopRound x y s e u n) fs = Unit {0}
Sees P d env before (CopyPart x u k) fs = Copying P d env before x u k fs

pub copying : (P : Tree) (d : BodyTree) (env : Env) (before : List Action) (fs : List Frame) → IsPoint P d env before fs → (x : ℕ) (u : Env) (k : ℕ) (tail : List Frame) → fs ≡ CopyPart x u k ∷ tail → Copying P d env before x u k tail
copying P d env before fs Begins x u k tail e = absurd (not_part d env x u k (cons_same (Rest d env) (CopyPart x u k) [] tail e).0)
  where
    not_part : (d : BodyTree) (env : Env) (x : ℕ) (u : Env) (k : ℕ) → Rest d env ≡ CopyPart x u k → ⊥
    not_part d env x u k e = cc
copying P d env before fs (PastItem {i = i} {d = rest} {before = before'} dn st) x u k tail e =
    subst (λ (z : List Frame). Copying P (Then i rest) env ((run_item i env P).acts ++ before') x u k z) (append-nil tail)
    (wider P rest (Then i rest) env env before' x u k tail [] (run_item i env P).acts (copying P rest env before' fs st x u k tail e)
    (λ a top h. subst (λ (z : List Frame). IsPoint P (Then i rest) env ((run_item i env P).acts ++ a) z) (sym (append-nil top)) (PastItem dn h)))
copying P d env before fs (InYes {c = c} {a = a} {b = b} {d = rest} {fs = fs'} t st) x u k tail e =
    let r = has_top P a env before fs' st in
    let q = front (CopyPart x u k) r.0 fs' (Rest rest env ∷ []) tail r.1 r.2 e in
    subst (λ (z : List Frame). Copying P (Then (If c a b) rest) env before x u k z) (sym q.1)
    (wider P a (Then (If c a b) rest) env env before x u k r.1 (Rest rest env ∷ []) [] (copying P a env before fs' st x u k r.1 q.0) (λ acts top h. InYes t h))
copying P d env before fs (InNo {c = c} {a = a} {b = b} {d = rest} {fs = fs'} t st) x u k tail e =
    let r = has_top P b env before fs' st in
    let q = front (CopyPart x u k) r.0 fs' (Rest rest env ∷ []) tail r.1 r.2 e in
    subst (λ (z : List Frame). Copying P (Then (If c a b) rest) env before x u k z) (sym q.1)
    (wider P b (Then (If c a b) rest) env env before x u k r.1 (Rest rest env ∷ []) [] (copying P b env before fs' st x u k r.1 q.0) (λ acts top h. InNo t h))
copying P d env before fs (InLoop {x = z} {y = y} {s = s} {e = b} {d = rest} {before = before'} {fs = fs'} pre n post m dn st) x u k tail e =
    let r = has_top P b (bind_var env z n) before' fs' st in
    let q = front (CopyPart x u k) r.0 fs' (LoopRound z y s b env n ∷ Rest rest env ∷ []) tail r.1 r.2 e in
    subst (λ (w : List Frame). Copying P (Then (For z y s b) rest) env ((loop (body_at b z env P) pre true).acts ++ before') x u k w) (sym q.1)
    (wider P b (Then (For z y s b) rest) (bind_var env z n) env before' x u k r.1 (LoopRound z y s b env n ∷ Rest rest env ∷ []) (loop (body_at b z env P) pre true).acts
    (copying P b (bind_var env z n) before' fs' st x u k r.1 q.0) (λ acts top h. InLoop pre n post m dn h))
copying P d env before fs (InCopy {x = y} {d = rest} before' rest' f) x u k tail e = go (cons_same (CopyPart y env (length before)) (CopyPart x u k) (Rest rest env ∷ []) tail e)
  where
    here : Copying P (Then (Copy y) rest) env before y env (length before) (Rest rest env ∷ [])
    here = record {
      rest = rest;
      acts = before;
      more = rest';
      pre = [];
      far = [];
      cut = f;
      made = refl;
      before_is = refl;
      tail_is = refl;
      plug = λ a top st. subst (λ (z : List Frame). IsPoint P (Then (Copy y) rest) env a z) (sym (append-nil top)) st;
    }

    go : (CopyPart y env (length before) ≡ CopyPart x u k) × (Rest rest env ∷ [] ≡ tail) → Copying P (Then (Copy y) rest) env before x u k tail
    go q = subst (λ (z : Frame). Sees P (Then (Copy y) rest) env before z tail) q.0 (subst (λ (z : List Frame). Copying P (Then (Copy y) rest) env before y env (length before) z) q.1 here)

acts_to : (P : Tree) (d : BodyTree) (env : Env) (a b : List Action) (fs : List Frame) → a ≡ b → IsPoint P d env a fs → IsPoint P d env b fs
acts_to P d env a b fs e h = subst (λ (z : List Action). IsPoint P d env z fs) e h

-- One action more of a copy.
pub copy_on : (P : Tree) (d : BodyTree) (env : Env) (before : List Action) (x : ℕ) (u : Env) (k : ℕ) (tail : List Frame) (a : Action) (more : List Action) → IsPoint P d env before (CopyPart x u k ∷ tail)
    → drop k (copy (length P.nodes) P (u x)).acts ≡ a ∷ more → IsPoint P d env (before ++ a ∷ []) (CopyPart x u (suc k) ∷ tail)
copy_on P d env before x u k tail a more st e =
    let r = copying P d env before (CopyPart x u k ∷ tail) st x u k tail refl in
    let left : r.more ≡ a ∷ more = sym (ap (drop k) r.cut ∙ (ap (λ z. drop z (r.acts ++ r.more)) r.made ∙ drop-append_seam r.acts r.more)) ∙ e in
    let cut : (copy (length P.nodes) P (u x)).acts ≡ (r.acts ++ a ∷ []) ++ more = r.cut ∙ (ap (λ z. r.acts ++ z) left ∙ sym (append_assoc r.acts (a ∷ []) more)) in
    let made : length (r.acts ++ a ∷ []) ≡ suc k = length-append r.acts (a ∷ []) ∙ (let m = r.made in omega arith) in
    acts_to P d env (r.pre ++ (r.acts ++ a ∷ [])) (before ++ a ∷ []) (CopyPart x u (suc k) ∷ tail) (sym (append_assoc r.pre r.acts (a ∷ [])) ∙ ap (λ z. z ++ a ∷ []) (sym r.before_is))
    (subst (λ (z : List Frame). IsPoint P d env (r.pre ++ (r.acts ++ a ∷ [])) (CopyPart x u (suc k) ∷ z)) (sym r.tail_is)
    (subst (λ (z : ℕ). IsPoint P d env (r.pre ++ (r.acts ++ a ∷ [])) (CopyPart x u z ∷ Rest r.rest u ∷ r.far)) made
    (r.plug (r.acts ++ a ∷ []) (CopyPart x u (length (r.acts ++ a ∷ [])) ∷ Rest r.rest u ∷ []) (InCopy (r.acts ++ a ∷ []) more cut))))

-- The end of a copy.
pub copy_over : (P : Tree) (d : BodyTree) (env : Env) (before : List Action) (x : ℕ) (u : Env) (k : ℕ) (tail : List Frame) → IsPoint P d env before (CopyPart x u k ∷ tail)
    → drop k (copy (length P.nodes) P (u x)).acts ≡ [] → (copy (length P.nodes) P (u x)).done ≡ true → IsPoint P d env before tail
copy_over P d env before x u k tail st e dn =
    let r = copying P d env before (CopyPart x u k ∷ tail) st x u k tail refl in
    let left : r.more ≡ [] = sym (ap (drop k) r.cut ∙ (ap (λ z. drop z (r.acts ++ r.more)) r.made ∙ drop-append_seam r.acts r.more)) ∙ e in
    let all : (copy (length P.nodes) P (u x)).acts ≡ r.acts = r.cut ∙ (ap (λ z. r.acts ++ z) left ∙ append-nil r.acts) in
    acts_to P d env (r.pre ++ ((copy (length P.nodes) P (u x)).acts ++ [])) before tail (ap (λ z. r.pre ++ z) (append-nil (copy (length P.nodes) P (u x)).acts ∙ all) ∙ sym r.before_is)
    (subst (λ (z : List Frame). IsPoint P d env (r.pre ++ ((copy (length P.nodes) P (u x)).acts ++ [])) z) (sym r.tail_is)
    (r.plug ((copy (length P.nodes) P (u x)).acts ++ []) (Rest r.rest u ∷ []) (PastItem dn Begins)))
