-- The way to the body of a variable through loops alone, and what is signed on it.
use Rattle.std.proofs.Common.{◌≡◌, ℕ, Bool, true, cond, not, ◌&&◌, List, [], ◌∷◌, length, refl, sym, ◌∙◌, ap, subst, inl, inr}
use Rattle.std.proofs.lemmas.Bool.{and_parts, eq-eqb, not-true}
use Rattle.gcx_model.specs.Tree.{Node, serial_of, Tree, is_closed}
use Rattle.gcx_base.specs.declared.steps.Step.{Step}
use Rattle.gcx_model.specs.Paths.{matches}
use Rattle.gcx_model.specs.Core.{ItemTree, Write, Copy, For, If, SignOff, BodyTree, Nil, Then, OffTree}
use Rattle.gcx_model.specs.Truth.{Env, bind_var, truth}
use Rattle.gcx_model.specs.Run.{run_item, run}
use Rattle.tree_laws.proofs.Lists.{In}
use Rattle.tree_laws.proofs.Matches.{Grown}
use Rattle.tree_laws.proofs.Chains.{chain_at, In-flat_map_from}
use Rattle.placed_laws.proofs.Signs.{sig, sig-loop, sig-seq, sig-copy, sig-choose}
use Rattle.placed_laws.proofs.PointForms.{body_at}

-- no statement that p picks stands in it
abbrev mutual
  pub quiet_item : (OffTree → Bool) → ItemTree → Bool
  quiet_item p (Write s) = true
  quiet_item p (Copy x) = true
  quiet_item p (For x y s d) = quiet p d
  quiet_item p (If c d e) = quiet p d && quiet p e
  quiet_item p (SignOff o) = not (p o)

  pub quiet : (OffTree → Bool) → BodyTree → Bool
  quiet p Nil = true
  quiet p (Then i d) = quiet_item p i && quiet p d

-- the body of b itself: one statement that p picks, with the base b
pub data Own (p : OffTree → Bool) (b : ℕ) : BodyTree → Type 0 where
  Before : {i : ItemTree} {d : BodyTree} → quiet_item p i ≡ true → Own p b d → Own p b (Then i d)
  Itself : {o : OffTree} {d : BodyTree} → p o ≡ true → o.base ≡ b → quiet p d ≡ true → Own p b (Then (SignOff o) d)

-- the way from a body, whose variable is y, to that of b, through loops alone
pub data Way (p : OffTree → Bool) (b : ℕ) : ℕ → BodyTree → List Step → Type 0 where
  Top : {d : BodyTree} → Own p b d → Way p b b d []
  Skip : {y : ℕ} {i : ItemTree} {d : BodyTree} {s : Step} {path : List Step} → quiet_item p i ≡ true → Way p b y d (s ∷ path) → Way p b y (Then i d) (s ∷ path)
  Here : {x y : ℕ} {s : Step} {e d : BodyTree} {path : List Step} → Way p b x e path → quiet p d ≡ true → Way p b y (Then (For x y s e) d) (s ∷ path)

module _ (P : Tree) (w : Grown P) (p : OffTree → Bool) (b : ℕ) where
  mutual
    pub quiet_item_sig : (i : ItemTree) (env : Env) (m : ℕ) → quiet_item p i ≡ true → In m (sig p (run_item i env P).acts) → ⊥
    quiet_item_sig (Write s) env m a h = h
    quiet_item_sig (Copy x) env m a h = sig-copy p m (length P.nodes) P (env x) h
    quiet_item_sig (For x y s d) env m a h =
        let r = sig-loop p m (body_at d x env P) (matches P (serial_of (env y)) (s ∷ [])) (is_closed P (env y)) h in
        quiet_sig d (bind_var env x r.0) m a r.2
    quiet_item_sig (If c d e) env m a h =
        let q = and_parts (quiet p d) (quiet p e) a in
        elim (sig-choose p m (truth c env P) (run d env P) (run e env P) h) [
          | inl i ↦ quiet_sig d env m q.0 i
          | inr i ↦ quiet_sig e env m q.1 i
        ]
    quiet_item_sig (SignOff o) env m a h = subst (λ (c : Bool). In m (cond c (serial_of (env o.base) ∷ []) [])) (not-true (p o) a) h

    pub quiet_sig : (d : BodyTree) (env : Env) (m : ℕ) → quiet p d ≡ true → In m (sig p (run d env P).acts) → ⊥
    quiet_sig Nil env m a h = h
    quiet_sig (Then i d) env m a h =
        let q = and_parts (quiet_item p i) (quiet p d) a in
        elim (sig-seq p m (run_item i env P) (run d env P) h) [
          | inl k ↦ quiet_item_sig i env m q.0 k
          | inr k ↦ quiet_sig d env m q.1 k
        ]

  own_sig : (d : BodyTree) (env : Env) (m : ℕ) → Own p b d → In m (sig p (run d env P).acts) → m ≡ serial_of (env b)
  own_sig d env m (Before {i = i} {d = rest} a o) h = elim (sig-seq p m (run_item i env P) (run rest env P) h) [
    | inl k ↦ absurd (quiet_item_sig i env m a k)
    | inr k ↦ own_sig rest env m o k
  ]
  own_sig d env m (Itself {o = o} {d = rest} f g a) h = elim (sig-seq p m (run_item (SignOff o) env P) (run rest env P) h) [
    | inl k ↦ elim (subst (λ (c : Bool). In m (cond c (serial_of (env o.base) ∷ []) [])) f k) [ inl e ↦ sym e ∙ ap (λ x. serial_of (env x)) g | inr z ↦ absurd z ]
    | inr k ↦ absurd (quiet_sig rest env m a k)
  ]

  pub bound_at : (env : Env) (x : ℕ) (n : Node) → bind_var env x n x ≡ n
  bound_at env x n = rw (eq-eqb x x refl) refl

  pub way_sig : (y : ℕ) (d : BodyTree) (path : List Step) → Way p b y d path → (env : Env) (m : ℕ) → In m (sig p (run d env P).acts) → (n : Node) × In n (chain_at P (env y) path) × (m ≡ serial_of n)
  way_sig y d path (Top o) env m h = (env b, inl refl, own_sig d env m o h)
  way_sig y d path (Skip {i = i} {d = rest} a wy) env m h = elim (sig-seq p m (run_item i env P) (run rest env P) h) [
    | inl k ↦ absurd (quiet_item_sig i env m a k)
    | inr k ↦ way_sig y rest path wy env m k
  ]
  way_sig y d path (Here {x = x} {s = s} {e = e} {d = rest} {path = path'} wy a) env m h = elim (sig-seq p m (run_item (For x y s e) env P) (run rest env P) h) [
    | inl k ↦ (
        let r = sig-loop p m (body_at e x env P) (matches P (serial_of (env y)) (s ∷ [])) (is_closed P (env y)) k in
        let q = way_sig x e path' wy (bind_var env x r.0) m r.2 in (
          q.0,
          In-flat_map_from (λ (j : Node). chain_at P j path') q.0 r.0 (matches P (serial_of (env y)) (s ∷ [])) r.1
              (subst (λ (z : Node). In q.0 (chain_at P z path')) (bound_at env x r.0) q.1),
          q.2,
        ))
    | inr k ↦ absurd (quiet_sig rest env m a k)
  ]
