-- At each point: how the variables are bound, and which statements wait in which frame.
use Rattle.std.proofs.Common.{◌≡◌, ◌<◌, ℕ, zero, suc, arith, Bool, true, false, ◌&&◌, List, [], ◌∷◌, ◌++◌, length, refl, sym, ◌∙◌, ap, subst, inl, inr, ◌⊎◌, append_assoc}
use Rattle.std.proofs.lemmas.List.{append-nil}
use Rattle.std.proofs.lemmas.Bool.{and_parts, and_from, false≢true, eqb-true, eq-eqb, ne_eqb}
pub use Rattle.gcx_model.specs.Points.{Bound_in}
use Rattle.gcx_model.specs.Tree.{Node, Root, serial_of, above, Tree}
use Rattle.gcx_base.specs.declared.steps.Step.{Step}
use Rattle.gcx_model.specs.Paths.{reach, hits, matches, first}
use Rattle.gcx_model.specs.Core.{ItemTree, Write, Copy, For, If, SignOff, BodyTree, Nil, Then, OffTree, RoleTarget, Own, First, Whole, RoleRowTree}
use Rattle.gcx_model.specs.Truth.{Env, bind_var}
use Rattle.gcx_model.specs.Run.{env0, Action}
use Rattle.gcx_model.specs.Held.{is_node, gives}
use Rattle.gcx_model.specs.Variables.{Var, var0, is_straight, child_var, var_tree, vars}
use Rattle.gcx_model.specs.Roles.{cond_rows, own_row, whole_row, item_rows, rows, roles_of}
use Rattle.gcx_model.specs.Placed.{at_end, offs_body, add_offs, place, offs_of}
use Rattle.tree_laws.proofs.Reading.{reading}
use Rattle.gcx_model.specs.Cores.{BodyIn, Good}
use Rattle.tree_laws.proofs.Lists.{In, Once, In-left, In-right, any_in, any_from}
use Rattle.tree_laws.proofs.Matches.{Grown, Matches-in, Matches-from}
use Rattle.tree_laws.proofs.Chains.{above_in, above_trans, hits_above}
use Rattle.placed_laws.proofs.PointForms.{Frame, Rest, LoopRound, CopyPart, IsPoint, Begins, PastItem, InLoop, InYes, InNo, InCopy}
use Rattle.gcx_model.specs.Members.{count}
use Rattle.placed_laws.proofs.CorePlans.{In-count, Fits, Once-left, Once-right, good_once, good_not_zero, good_fits, good_zero, cond_rows_in, end_in}
use Rattle.placed_laws.proofs.Waits.{Has, Waits, Waits-over, Waits-right}

module _ (P : Tree) (w : Grown P) where
  -- one path behind another
  pub hits-append : (n : ℕ) (p q : List Step) (j m : Node) → In j P.nodes → In m P.nodes → hits n p j ≡ true → hits (serial_of j) q m ≡ true → hits n (p ++ q) m ≡ true
  hits-append n [] q j m i k h g = subst (λ (z : ℕ). hits z q m ≡ true) (eqb-true _ _ h) g
  hits-append n (s ∷ p) q j m i k h g =
      let r = any_in (λ (a : Node). reach n s a && hits (serial_of a) p j) (above j) h in
      let a = and_parts (reach n s r.0) (hits (serial_of r.0) p j) r.2 in
      any_from (λ (a : Node). reach n s a && hits (serial_of a) (p ++ q) m) r.0 (above m)
      (above_trans r.0 j m r.1 (hits_above P w j q m i k g))
      (and_from _ _ a.0 (hits-append (serial_of r.0) p q j m i k a.1 g))

  -- what a node gives, one from which a path leads to it gives by the longer path
  pub gives_behind : (b : ℕ) (p rel tail : List Step) (k : RoleTarget) (m n : Node) → In m P.nodes → In n P.nodes → hits b p m ≡ true → gives P (serial_of m) rel tail k n ≡ true → gives P b (p ++ rel) tail k n ≡ true
  gives_behind b p rel tail Own m n i j h g = hits-append b p rel m n i j h g
  gives_behind b p rel tail First m n i j h g =
      let f : Node → Bool = λ a. is_node (serial_of n) (first P (serial_of a) tail) in
      let r = any_in f (matches P (serial_of m) rel) g in
      let q = Matches-in P (serial_of m) rel r.0 r.1 in
      any_from f r.0 (matches P b (p ++ rel)) (Matches-from P b (p ++ rel) r.0 q.0 (hits-append b p rel m r.0 i q.0 h q.1)) r.2
  gives_behind b p rel tail Whole m n i j h g =
      let r = any_in (hits (serial_of m) (rel ++ tail)) (above n) g in
      any_from (hits b ((p ++ rel) ++ tail)) r.0 (above n) r.1
      (subst (λ (z : List Step). hits b z r.0 ≡ true) (sym (append_assoc p rel tail)) (hits-append b p (rel ++ tail) m r.0 i (above_in P w n r.0 j r.1) h r.2))

-- each is below the later ones
abbrev pub Ascends : List ℕ → Type 0
Ascends [] = Unit {0}
Ascends (x ∷ xs) = ((z : ℕ) → In z xs → x < z) × Ascends xs

Ascends-left : (xs ys : List ℕ) → Ascends (xs ++ ys) → Ascends xs
Ascends-left [] ys h = tt
Ascends-left (x ∷ xs) ys h = ((λ z i. h.0 z (In-left z xs ys i)), Ascends-left xs ys h.1)

Ascends-right : (xs ys : List ℕ) → Ascends (xs ++ ys) → Ascends ys
Ascends-right [] ys h = h
Ascends-right (x ∷ xs) ys h = Ascends-right xs ys h.1

Ascends-count : (k n : ℕ) → Ascends (count k n)
Ascends-count k zero = tt
Ascends-count k (suc n) = ((λ z i. let h = In-count (suc k) n z i in omega arith), Ascends-count (suc k) n)

good_ascends : (core : BodyTree) → Good core → Ascends (vars core)
good_ascends core g = subst (λ (z : List ℕ). Ascends z) (sym g.numbered) (Ascends-count 1 (length (vars core)))

good_above : (core : BodyTree) → Good core → (v : ℕ) → In v (vars core) → 0 < v
good_above core g v i = let h = In-count 1 (length (vars core)) v (subst (λ (z : List ℕ). In v z) g.numbered i) in omega arith

-- each of these is below the variables of the body
abbrev pub Lower : List ℕ → BodyTree → Type 0
Lower L d = (z : ℕ) → In z L → (v : ℕ) → In v (vars d) → z < v

-- the last of a list
abbrev pub Last : {X : Type 0} → X → List X → Type 0
Last l [] = ⊥
Last l (x ∷ []) = x ≡ l
Last l (x ∷ y ∷ ys) = Last l (y ∷ ys)

pub Has-offs : (o : OffTree) (os : List OffTree) → In o os → Has o (offs_body os)
Has-offs o [] i = absurd i
Has-offs o (q ∷ os) (inl e) = inl (ap SignOff e)
Has-offs o (q ∷ os) (inr i) = inr (Has-offs o os i)

pub Has-end : (o : OffTree) (d : BodyTree) (os : List OffTree) → In o os → Has o (add_offs d os)
Has-end o Nil os i = Has-offs o os i
Has-end o (Then t d) os i = inr (Has-end o d os i)

Last-in : {X : Type 0} (l : X) (xs : List X) → Last l xs → In l xs
Last-in l [] h = absurd h
Last-in l (x ∷ []) h = inl h
Last-in l (x ∷ y ∷ ys) h = inr (Last-in l (y ∷ ys) h)

bound_over : (x : ℕ) (n : Node) (f : Frame) (fs : List Frame) → Bound_in x n fs → Bound_in x n (f ∷ fs)
bound_over x n (Rest d env) fs h = h
bound_over x n (LoopRound z y s e env m) fs h = inr h
bound_over x n (CopyPart z env k) fs h = h

module _ (P : Tree) (w : Grown P) (core : BodyTree) (good : Good core) where
  abbrev pub F : ℕ → Var
  F = var_tree core

  abbrev pub ends : ℕ → List OffTree
  ends = at_end (offs_of core)

  -- where x is bound to n: the statements of its base wait in these frames; the base is bound there to a node that its path reaches, from which the steps lead on to n
  pub record Ready (x : ℕ) (n : Node) (fs : List Frame) : Type 0 where
    pub env : Env
    pub waiting : (o : OffTree) → In o (ends (F x).base) → Waits o env fs
    pub base_in : In (env (F x).base) P.nodes
    pub base_hit : hits 0 (F (F x).base).path (env (F x).base) ≡ true
    pub reached : hits (serial_of (env (F x).base)) (F x).rel n ≡ true
    pub inside : In n P.nodes
    pub hit : hits 0 (F x).path n ≡ true

  pub ready_over : (x : ℕ) (n : Node) (f : Frame) (fs : List Frame) → Ready x n fs → Ready x n (f ∷ fs)
  ready_over x n f fs r = record { env = r.env; waiting = λ o i. Waits-over o r.env f fs (r.waiting o i); base_in = r.base_in; base_hit = r.base_hit; reached = r.reached; inside = r.inside; hit = r.hit }

  pub ready_under : (x : ℕ) (n : Node) (fs gs : List Frame) → Ready x n gs → Ready x n (fs ++ gs)
  ready_under x n [] gs r = r
  ready_under x n (f ∷ fs) gs r = ready_over x n f (fs ++ gs) (ready_under x n fs gs r)

  -- a match of the loop's step from its parent's node
  pub hit_on : (x y : ℕ) (s : Step) (c : Bool) → F x ≡ child_var c x s (F y) → (a n : Node) → In a P.nodes → hits 0 (F y).path a ≡ true → In n (matches P (serial_of a) (s ∷ [])) → hits 0 (F x).path n ≡ true
  hit_on x y s c e a n i h j =
      let q = Matches-in P (serial_of a) (s ∷ []) n j in
      subst (λ (z : Var). hits 0 z.path n ≡ true) (sym e) (hits-append P w 0 (F y).path (s ∷ []) a n i q.0 h q.1)

  -- a variable that isn't straight has its parent's base
  pub ready_far : (x y : ℕ) (s : Step) → F x ≡ child_var false x s (F y) → (a n : Node) (gs : List Frame) → Ready y a gs → In n (matches P (serial_of a) (s ∷ [])) → Ready x n gs
  ready_far x y s e a n gs r j =
      let q = Matches-in P (serial_of a) (s ∷ []) n j in
      let b : (F x).base ≡ (F y).base = ap (λ (z : Var). z.base) e in
      let l : (F x).rel ≡ (F y).rel ++ s ∷ [] = ap (λ (z : Var). z.rel) e in
      record {
        env = r.env;
        waiting = λ o i. r.waiting o (subst (λ (z : ℕ). In o (ends z)) b i);
        base_in = subst (λ (z : ℕ). In (r.env z) P.nodes) (sym b) r.base_in;
        base_hit = subst (λ (z : ℕ). hits 0 (F z).path (r.env z) ≡ true) (sym b) r.base_hit;
        reached = subst (λ (z : List Step). hits (serial_of (r.env (F x).base)) z n ≡ true) (sym l)
            (subst (λ (z : ℕ). hits (serial_of (r.env z)) ((F y).rel ++ s ∷ []) n ≡ true) (sym b) (hits-append P w (serial_of (r.env (F y).base)) (F y).rel (s ∷ []) a n r.inside q.0 r.reached q.1));
        inside = q.0;
        hit = hit_on x y s false e a n r.inside r.hit j;
      }

  pub ready_child : (x y : ℕ) (s : Step) (c : Bool) → F x ≡ child_var c x s (F y) → (a n : Node) (gs fs : List Frame) (v : Env) → v x ≡ n → Ready y a gs → In n (matches P (serial_of a) (s ∷ []))
      → ((o : OffTree) → In o (ends x) → Waits o v fs) → ((o : OffTree) (u : Env) → Waits o u gs → Waits o u fs) → Ready x n fs
  ready_child x y s true e a n gs fs v vx r j own up =
      let q = Matches-in P (serial_of a) (s ∷ []) n j in
      let b : (F x).base ≡ x = ap (λ (z : Var). z.base) e in
      let l : (F x).rel ≡ [] = ap (λ (z : Var). z.rel) e in
      let h : hits 0 (F x).path n ≡ true = hit_on x y s true e a n r.inside r.hit j in
      let at : v (F x).base ≡ n = ap v b ∙ vx in
      record {
        env = v;
        waiting = λ o i. own o (subst (λ (z : ℕ). In o (ends z)) b i);
        base_in = subst (λ (z : Node). In z P.nodes) (sym at) q.0;
        base_hit = subst (λ (z : ℕ). hits 0 (F z).path (v (F x).base) ≡ true) (sym b) (subst (λ (z : Node). hits 0 (F x).path z ≡ true) (sym at) h);
        reached = subst (λ (z : List Step). hits (serial_of (v (F x).base)) z n ≡ true) (sym l) (eq-eqb _ _ (ap serial_of (sym at)));
        inside = q.0;
        hit = h;
      }
  ready_child x y s false e a n gs fs v vx r j own up =
      let k = ready_far x y s e a n gs r j in
      record { env = k.env; waiting = λ o i. up o k.env (k.waiting o i); base_in = k.base_in; base_hit = k.base_hit; reached = k.reached; inside = k.inside; hit = k.hit }

  abbrev pub Here : ℕ → Node → List Frame → Type 0
  Here x n fs = Ready x n fs × Bound_in x n fs

  here_over : (x : ℕ) (n : Node) (f : Frame) (fs : List Frame) → Here x n fs → Here x n (f ∷ fs)
  here_over x n f fs h = (ready_over x n f fs h.0, bound_over x n f fs h.1)

  -- each row of a core's body is one of the plan's
  abbrev pub Known_rows : BodyTree → Type 0
  Known_rows d = (r : RoleRowTree) → In r (rows d) → In r (roles_of core)

  -- the body of a loop of x: what it is placed for, and the variables that it may use, which are bound in these frames
  pub record LoopScope (x : ℕ) (e : BodyTree) (env : Env) (fs : List Frame) : Type 0 where
    pub body : BodyTree
    pub placed : e ≡ add_offs (place ends body) (ends x)
    pub known : Known_rows body
    pub outer : List ℕ
    pub uses : BodyIn true (x ∷ outer) body
    pub here : (z : ℕ) → In z outer → Here z (env z) fs
    pub low : (z : ℕ) → In z outer → z < x
    pub high : (z : ℕ) → In z (vars body) → x < z

  -- what is known of a round of a loop, by the frames above it and below it
  pub record Turn (top : List Frame) (x y : ℕ) (s : Step) (e : BodyTree) (env : Env) (n : Node) (below : List Frame) : Type 0 where
    pub straight : Bool
    pub var : F x ≡ child_var straight x s (F y)
    pub row : In (own_row x) (roles_of core)
    pub match : In n (matches P (serial_of (env y)) (s ∷ []))
    pub parent : Ready y (env y) below
    pub bound : Bound_in y (env y) below
    pub body : (o : OffTree) → In o (ends x) → Has o e
    -- the last statement waits, or the body is over
    pub last : (o : OffTree) → Last o (ends x) → Waits o (bind_var env x n) top ⊎ (top ≡ Rest Nil (bind_var env x n) ∷ [])
    pub scope : LoopScope x e env below

  -- and of a loop that comes next
  pub record Loop (x y : ℕ) (s : Step) (e : BodyTree) (env : Env) (fs : List Frame) : Type 0 where
    pub straight : Bool
    pub var : F x ≡ child_var straight x s (F y)
    pub row : In (own_row x) (roles_of core)
    pub parent : Ready y (env y) fs
    pub bound : Bound_in y (env y) fs
    pub body : (o : OffTree) → In o (ends x) → Has o e
    pub scope : LoopScope x e env fs

  abbrev pub Fact_item : ItemTree → Env → List Frame → Type 0
  Fact_item (Write s) env fs = Unit {0}
  Fact_item (Copy x) env fs = In (whole_row x) (roles_of core) × Here x (env x) fs
  Fact_item (For x y s d) env fs = Loop x y s d env fs
  Fact_item (If c a b) env fs = (r : RoleRowTree) → In r (cond_rows c) → In r (roles_of core) × Here r.var (env r.var) fs
  Fact_item (SignOff o) env fs = Bound_in o.base (env o.base) fs

  abbrev pub Fact_rest : BodyTree → Env → List Frame → Type 0
  Fact_rest Nil env fs = Unit {0}
  Fact_rest (Then i d) env fs = Fact_item i env fs

  -- each statement in what is left of the body is one of the plan's, and its base is bound below
  abbrev pub Bases_of : BodyTree → Env → List Frame → Type 0
  Bases_of d env below = (o : OffTree) → Has o d → In o (offs_of core) × Bound_in o.base (env o.base) below

  abbrev pub Fact : List Frame → Frame → List Frame → Type 0
  Fact top (Rest d env) below = Fact_rest d env (Rest d env ∷ below) × Bases_of d env below
  Fact top (LoopRound x y s e env n) below = Turn top x y s e env n below
  Fact top (CopyPart x env k) below = In (whole_row x) (roles_of core) × Here x (env x) below

  abbrev pub Facts : List Frame → List Frame → Type 0
  Facts top [] = Unit {0}
  Facts top (f ∷ fs) = Fact top f fs × Facts (top ++ f ∷ []) fs

  -- the last of the statements at the end of a body waits at each point in it but the one behind it
  own_offs : (os : List OffTree) (env : Env) (before : List Action) (fs : List Frame) (o : OffTree) → IsPoint P (offs_body os) env before fs → Last o os → Waits o env fs ⊎ (fs ≡ Rest Nil env ∷ [])
  own_offs [] env before fs o st l = absurd l
  own_offs (q ∷ os) env before fs o Begins l = inl (inl (Has-offs o (q ∷ os) (Last-in o (q ∷ os) l), refl))
  own_offs (q ∷ []) env before fs o (PastItem e Begins) l = inr refl
  own_offs (q ∷ q' ∷ os) env before fs o (PastItem {before = before'} e st) l = own_offs (q' ∷ os) env before' fs o st l

  in_rest : (d : BodyTree) (os : List OffTree) (env : Env) (o : OffTree) (fs : List Frame) → Last o os → Waits o env (fs ++ Rest (add_offs d os) env ∷ []) ⊎ (fs ++ Rest (add_offs d os) env ∷ [] ≡ Rest Nil env ∷ [])
  in_rest d os env o fs l = inl (Waits-right o env fs (Rest (add_offs d os) env ∷ []) (inl (Has-end o d os (Last-in o os l), refl)))

  begun_waits : (i : ItemTree) (d : BodyTree) (os : List OffTree) (env : Env) (o : OffTree) → Last o os → Waits o env (Rest (Then i (add_offs d os)) env ∷ []) ⊎ (Rest (Then i (add_offs d os)) env ∷ [] ≡ Rest Nil env ∷ [])
  begun_waits i d os env o l = inl (inl (inr (Has-end o d os (Last-in o os l)), refl))

  pub own_waits : (d : BodyTree) (os : List OffTree) (env : Env) (before : List Action) (fs : List Frame) (o : OffTree) → IsPoint P (add_offs (place ends d) os) env before fs → Last o os → Waits o env fs ⊎ (fs ≡ Rest Nil env ∷ [])
  own_waits Nil os env before fs o st l = own_offs os env before fs o st l
  own_waits (Then (Write s) d) os env before fs o Begins l = begun_waits (Write s) (place ends d) os env o l
  own_waits (Then (Write s) d) os env before fs o (PastItem {before = before'} e st) l = own_waits d os env before' fs o st l
  own_waits (Then (Copy x) d) os env before fs o Begins l = begun_waits (Copy x) (place ends d) os env o l
  own_waits (Then (Copy x) d) os env before fs o (PastItem {before = before'} e st) l = own_waits d os env before' fs o st l
  own_waits (Then (Copy x) d) os env before fs o (InCopy before' rest' e) l = in_rest (place ends d) os env o (CopyPart x env (length before) ∷ []) l
  own_waits (Then (For x y s b) d) os env before fs o Begins l = begun_waits (For x y s (add_offs (place ends b) (ends x))) (place ends d) os env o l
  own_waits (Then (For x y s b) d) os env before fs o (PastItem {before = before'} e st) l = own_waits d os env before' fs o st l
  own_waits (Then (For x y s b) d) os env before fs o (InLoop {fs = fs'} pre n post m dn st) l =
      inl (Waits-right o env fs' (LoopRound x y s (add_offs (place ends b) (ends x)) env n ∷ Rest (add_offs (place ends d) os) env ∷ []) (inl (Has-end o (place ends d) os (Last-in o os l), refl)))
  own_waits (Then (If c a b) d) os env before fs o Begins l = begun_waits (If c a b) (place ends d) os env o l
  own_waits (Then (If c a b) d) os env before fs o (PastItem {before = before'} e st) l = own_waits d os env before' fs o st l
  own_waits (Then (If c a b) d) os env before fs o (InYes {fs = fs'} e st) l = in_rest (place ends d) os env o fs' l
  own_waits (Then (If c a b) d) os env before fs o (InNo {fs = fs'} e st) l = in_rest (place ends d) os env o fs' l
  own_waits (Then (SignOff t) d) os env before fs o Begins l = begun_waits (SignOff t) (place ends d) os env o l
  own_waits (Then (SignOff t) d) os env before fs o (PastItem {before = before'} e st) l = own_waits d os env before' fs o st l

  known_rest : (i : ItemTree) (d : BodyTree) → Known_rows (Then i d) → Known_rows d
  known_rest i d k r j = k r (In-right r (item_rows i) (rows d) j)

  begun : (d : BodyTree) (L : List ℕ) (env : Env) (gs : List Frame) → BodyIn false L d → Known_rows d → ((x : ℕ) → In x L → Here x (env x) gs) → Fact_rest d env gs
  begun Nil L env gs q k inv = tt
  begun (Then (Write s) d) L env gs q k inv = tt
  begun (Then (Copy x) d) L env gs q k inv = (k (whole_row x) (inl refl), inv x q.0)
  begun (Then (For x y s e) d) L env gs q k inv = absurd (false≢true q.0.0)
  begun (Then (SignOff o) d) L env gs q k inv = absurd q.0
  begun (Then (If c a e) d) L env gs q k inv = λ r i. (k r (In-left r (cond_rows c ++ (rows a ++ rows e)) (rows d) (In-left r (cond_rows c) (rows a ++ rows e) i)), inv r.var (cond_rows_in L c q.0.0 r i))

  no_statement : (d : BodyTree) (b : Bool) (L : List ℕ) (o : OffTree) → BodyIn b L d → Has o d → ⊥
  no_statement Nil b L o q h = h
  no_statement (Then (Write s) d) b L o q (inl e) = cc
  no_statement (Then (Write s) d) b L o q (inr h) = no_statement d b L o q.1 h
  no_statement (Then (Copy x) d) b L o q (inl e) = cc
  no_statement (Then (Copy x) d) b L o q (inr h) = no_statement d b L o q.1 h
  no_statement (Then (For x y s e) d) b L o q (inl f) = cc
  no_statement (Then (For x y s e) d) b L o q (inr h) = no_statement d b L o q.1 h
  no_statement (Then (If c a e) d) b L o q (inl f) = cc
  no_statement (Then (If c a e) d) b L o q (inr h) = no_statement d b L o q.1 h
  no_statement (Then (SignOff t) d) b L o q h = absurd q.0

  branch_fact : (d : BodyTree) (L : List ℕ) (env : Env) (gs : List Frame) → BodyIn false L d → Known_rows d → ((x : ℕ) → In x L → Here x (env x) (Rest d env ∷ gs)) → Fact_rest d env (Rest d env ∷ gs) × Bases_of d env gs
  branch_fact d L env gs q k inv = (begun d L env (Rest d env ∷ gs) q k inv, λ o h. absurd (no_statement d false L o q h))

  -- the facts of frames that lie under others
  under : (fs g gs : List Frame) → Facts [] (fs ++ (g ++ gs)) → Facts [] ((fs ++ g) ++ gs)
  under fs g gs h = subst (λ (z : List Frame). Facts [] z) (sym (append_assoc fs g gs)) h

  -- in a branch of an If
  branch : (d : BodyTree) (L : List ℕ) (env : Env) (before : List Action) (fs gs : List Frame) → IsPoint P d env before fs → BodyIn false L d → Known_rows d → ((x : ℕ) → In x L → Here x (env x) gs) → Facts fs gs → Facts [] (fs ++ gs)
  branch d L env before fs gs Begins q k inv h = (branch_fact d L env gs q k (λ x i. here_over x (env x) (Rest d env) gs (inv x i)), h)
  branch (Then i d) L env before fs gs (PastItem {before = before'} e st) q k inv h = branch d L env before' fs gs st q.1 (known_rest i d k) inv h
  branch (Then (If c a b) d) L env before fs gs (InYes {fs = fs'} e st) q k inv h =
      let up : (x : ℕ) → In x L → Here x (env x) (Rest d env ∷ gs) = λ x i. here_over x (env x) (Rest d env) gs (inv x i) in
      under fs' (Rest d env ∷ []) gs
      (branch a L env before fs' (Rest d env ∷ gs) st q.0.1 (λ r i. k r (In-left r (cond_rows c ++ (rows a ++ rows b)) (rows d) (In-right r (cond_rows c) (rows a ++ rows b) (In-left r (rows a) (rows b) i)))) up
      (branch_fact d L env gs q.1 (known_rest (If c a b) d k) up, h))
  branch (Then (If c a b) d) L env before fs gs (InNo {fs = fs'} e st) q k inv h =
      let up : (x : ℕ) → In x L → Here x (env x) (Rest d env ∷ gs) = λ x i. here_over x (env x) (Rest d env) gs (inv x i) in
      under fs' (Rest d env ∷ []) gs
      (branch b L env before fs' (Rest d env ∷ gs) st q.0.2 (λ r i. k r (In-left r (cond_rows c ++ (rows a ++ rows b)) (rows d) (In-right r (cond_rows c) (rows a ++ rows b) (In-right r (rows a) (rows b) i)))) up
      (branch_fact d L env gs q.1 (known_rest (If c a b) d k) up, h))
  branch (Then (Copy x) d) L env before fs gs (InCopy before' rest' e) q k inv h =
      let up : (x : ℕ) → In x L → Here x (env x) (Rest d env ∷ gs) = λ x i. here_over x (env x) (Rest d env) gs (inv x i) in
      ((k (whole_row x) (inl refl), up x q.0), (branch_fact d L env gs q.1 (known_rest (Copy x) d k) up, h))
  branch (Then (For x y s e) d) L env before fs gs (InLoop pre n post m dn st) q k inv h = absurd (false≢true q.0.0)

  in_offs : (o : OffTree) (os : List OffTree) → Has o (offs_body os) → In o os
  in_offs o [] h = h
  in_offs o (q ∷ os) (inl e) = inl (same q o e)
    where
      same : (a b : OffTree) → SignOff a ≡ SignOff b → a ≡ b
      same a b e = cc
  in_offs o (q ∷ os) (inr h) = inr (in_offs o os h)

  in_placed : (o : OffTree) (d : BodyTree) (os : List OffTree) (b : Bool) (L : List ℕ) → BodyIn b L d → Has o (add_offs (place ends d) os) → In o os
  in_placed o Nil os b L q h = in_offs o os h
  in_placed o (Then (Write s) d) os b L q (inl e) = cc
  in_placed o (Then (Write s) d) os b L q (inr h) = in_placed o d os b L q.1 h
  in_placed o (Then (Copy x) d) os b L q (inl e) = cc
  in_placed o (Then (Copy x) d) os b L q (inr h) = in_placed o d os b L q.1 h
  in_placed o (Then (For x y s e) d) os b L q (inl f) = cc
  in_placed o (Then (For x y s e) d) os b L q (inr h) = in_placed o d os b L q.1 h
  in_placed o (Then (If c a e) d) os b L q (inl f) = cc
  in_placed o (Then (If c a e) d) os b L q (inr h) = in_placed o d os b L q.1 h
  in_placed o (Then (SignOff t) d) os b L q h = absurd q.0

  -- the base of each statement at the end of a body is bound below
  abbrev Bases : List OffTree → Env → List Frame → Type 0
  Bases os env gs = (o : OffTree) → In o os → In o (offs_of core) × Bound_in o.base (env o.base) gs

  offs_begun : (os : List OffTree) (env : Env) (gs : List Frame) → Bases os env gs → Fact_rest (offs_body os) env gs
  offs_begun [] env gs h = tt
  offs_begun (o ∷ os) env gs h = (h o (inl refl)).1

  offs_facts : (os : List OffTree) (env : Env) (before : List Action) (fs gs : List Frame) → IsPoint P (offs_body os) env before fs → Bases os env gs → Facts fs gs → Facts [] (fs ++ gs)
  offs_facts [] env before fs gs Begins ob h = ((tt, λ o i. absurd i), h)
  offs_facts (o ∷ os) env before fs gs Begins ob h = (((ob o (inl refl)).1, λ t i. ob t (in_offs t (o ∷ os) i)), h)
  offs_facts (o ∷ os) env before fs gs (PastItem {before = before'} e st) ob h = offs_facts os env before' fs gs st (λ t i. ob t (inr i)) h

  placed_begun : (d : BodyTree) (u : ℕ) (os : List OffTree) (b : Bool) (L : List ℕ) (env : Env) (gs : List Frame) → Lower L d → Ascends (vars d) → BodyIn b L d → Fits F u d → Known_rows d → Bases os env gs → ((x : ℕ) → In x L → Here x (env x) gs) → Fact_rest (add_offs (place ends d) os) env gs
  placed_begun Nil u os b L env gs lo asc q f k ob inv = offs_begun os env gs ob
  placed_begun (Then (Write s) d) u os b L env gs lo asc q f k ob inv = tt
  placed_begun (Then (Copy x) d) u os b L env gs lo asc q f k ob inv = (k (whole_row x) (inl refl), inv x q.0)
  placed_begun (Then (For x y s e) d) u os b L env gs lo asc q f k ob inv = record {
    straight = is_straight u y s (F y);
    var = f.0.0;
    row = k (own_row x) (inl refl);
    parent = (inv y q.0.1).0;
    bound = (inv y q.0.1).1;
    body = λ t i. Has-end t (place ends e) (ends x) i;
    scope = record { body = e; placed = refl; known = λ r i. k r (inr (In-left r (rows e) (rows d) i)); outer = L; uses = subst (λ (z : Bool). BodyIn z (x ∷ L) e) q.0.0 q.0.2; here = inv; low = λ z i. lo z i x (inl refl); high = (Ascends-left (x ∷ vars e) (vars d) asc).0 };
  }
  placed_begun (Then (SignOff o) d) u os b L env gs lo asc q f k ob inv = absurd q.0
  placed_begun (Then (If c a e) d) u os b L env gs lo asc q f k ob inv = λ r i. (k r (In-left r (cond_rows c ++ (rows a ++ rows e)) (rows d) (In-left r (cond_rows c) (rows a ++ rows e) i)), inv r.var (cond_rows_in L c q.0.0 r i))

  placed_fact : (d : BodyTree) (u : ℕ) (os : List OffTree) (b : Bool) (L : List ℕ) (env : Env) (gs : List Frame) → Lower L d → Ascends (vars d) → BodyIn b L d → Fits F u d → Known_rows d → Bases os env gs → ((x : ℕ) → In x L → Here x (env x) (Rest (add_offs (place ends d) os) env ∷ gs))
      → Fact_rest (add_offs (place ends d) os) env (Rest (add_offs (place ends d) os) env ∷ gs) × Bases_of (add_offs (place ends d) os) env gs
  placed_fact d u os b L env gs lo asc q f k ob inv = (placed_begun d u os b L env (Rest (add_offs (place ends d) os) env ∷ gs) lo asc q f k ob inv, λ o h. ob o (in_placed o d os b L q h))

  -- where the statements of a body's variables still wait, whatever is left of the body
  abbrev pub Open : List ℕ → List OffTree → Env → List Frame → Type 0
  Open L os env gs = (x : ℕ) → In x L → (d : BodyTree) → Here x (env x) (Rest (add_offs d os) env ∷ gs)

  inner : (x y : ℕ) (s : Step) (c : Bool) (E d : BodyTree) (L : List ℕ) (os : List OffTree) (env : Env) (n : Node) (gs : List Frame)
      → F x ≡ child_var c x s (F y) → In y L → (In x L → ⊥) → In n (matches P (serial_of (env y)) (s ∷ [])) → Open L os env gs
      → Open (x ∷ L) (ends x) (bind_var env x n) (LoopRound x y s E env n ∷ Rest (add_offs d os) env ∷ gs)
  inner x y s c E d L os env n gs e iy nx m inv z i d' = go i
    where
      here : bind_var env x n x ≡ n
      here = rw (eq-eqb x x refl) refl

      own : Here x (bind_var env x n x) (Rest (add_offs d' (ends x)) (bind_var env x n) ∷ LoopRound x y s E env n ∷ Rest (add_offs d os) env ∷ gs)
      own = subst (λ (a : Node). Here x a (Rest (add_offs d' (ends x)) (bind_var env x n) ∷ LoopRound x y s E env n ∷ Rest (add_offs d os) env ∷ gs)) (sym here)
          ((
            ready_child x y s c e (env y) n (Rest (add_offs d os) env ∷ gs) (Rest (add_offs d' (ends x)) (bind_var env x n) ∷ LoopRound x y s E env n ∷ Rest (add_offs d os) env ∷ gs) (bind_var env x n) here (inv y iy d).0 m
                (λ o j. inl (Has-end o d' (ends x) j, refl)) (λ o u h. inr h),
            inl (refl, refl),
          ))

      go : In z (x ∷ L) → Here z (bind_var env x n z) (Rest (add_offs d' (ends x)) (bind_var env x n) ∷ LoopRound x y s E env n ∷ Rest (add_offs d os) env ∷ gs)
      go (inl f) = subst (λ (a : ℕ). Here a (bind_var env x n a) (Rest (add_offs d' (ends x)) (bind_var env x n) ∷ LoopRound x y s E env n ∷ Rest (add_offs d os) env ∷ gs)) f own
      go (inr j) =
          let same : env z ≡ bind_var env x n z = rw (ne_eqb z x (λ f. nx (subst (λ (a : ℕ). In a L) f j))) refl in
          subst (λ (a : Node). Here z a (Rest (add_offs d' (ends x)) (bind_var env x n) ∷ LoopRound x y s E env n ∷ Rest (add_offs d os) env ∷ gs)) same
          (here_over z (env z) (Rest (add_offs d' (ends x)) (bind_var env x n)) (LoopRound x y s E env n ∷ Rest (add_offs d os) env ∷ gs)
          (here_over z (env z) (LoopRound x y s E env n) (Rest (add_offs d os) env ∷ gs) (inv z j d)))

  at : (d : BodyTree) (os : List OffTree) (L : List ℕ) (env : Env) (gs : List Frame) → Open L os env gs → (x : ℕ) → In x L → Here x (env x) (Rest (add_offs d os) env ∷ gs)
  at d os L env gs inv x i = inv x i d

  main : (d : BodyTree) (u : ℕ) (L : List ℕ) (os : List OffTree) (env : Env) (before : List Action) (fs gs : List Frame) → IsPoint P (add_offs (place ends d) os) env before fs
      → BodyIn true L d → Fits F u d → Known_rows d → Bases os env gs → Once (vars d) → ((z : ℕ) → In z L → In z (vars d) → ⊥) → Ascends (vars d) → Lower L d → Open L os env gs → Facts fs gs → Facts [] (fs ++ gs)
  main Nil u L os env before fs gs st q f k ob o a asc lo inv h = offs_facts os env before fs gs st ob h
  main (Then (Write s) d) u L os env before fs gs Begins q f k ob o a asc lo inv h = (placed_fact (Then (Write s) d) u os true L env gs lo asc q f k ob (at (Then (Write s) (place ends d)) os L env gs inv), h)
  main (Then (Write s) d) u L os env before fs gs (PastItem {before = before'} e st) q f k ob o a asc lo inv h = main d u L os env before' fs gs st q.1 f.1 k ob o a asc lo inv h
  main (Then (SignOff t) d) u L os env before fs gs st q f k ob o a asc lo inv h = absurd q.0
  main (Then (Copy x) d) u L os env before fs gs Begins q f k ob o a asc lo inv h = (placed_fact (Then (Copy x) d) u os true L env gs lo asc q f k ob (at (Then (Copy x) (place ends d)) os L env gs inv), h)
  main (Then (Copy x) d) u L os env before fs gs (PastItem {before = before'} e st) q f k ob o a asc lo inv h = main d u L os env before' fs gs st q.1 f.1 (known_rest (Copy x) d k) ob o a asc lo inv h
  main (Then (Copy x) d) u L os env before fs gs (InCopy before' rest' e) q f k ob o a asc lo inv h =
      ((k (whole_row x) (inl refl), inv x q.0 (place ends d)), (placed_fact d u os true L env gs lo asc q.1 f.1 (known_rest (Copy x) d k) ob (at (place ends d) os L env gs inv), h))
  main (Then (If c y n) d) u L os env before fs gs Begins q f k ob o a asc lo inv h = (placed_fact (Then (If c y n) d) u os true L env gs lo asc q f k ob (at (Then (If c y n) (place ends d)) os L env gs inv), h)
  main (Then (If c y n) d) u L os env before fs gs (PastItem {before = before'} e st) q f k ob o a asc lo inv h =
      main d u L os env before' fs gs st q.1 f.1 (known_rest (If c y n) d k) ob (Once-right (vars y ++ vars n) (vars d) o) (λ z i j. a z i (In-right z (vars y ++ vars n) (vars d) j)) (Ascends-right (vars y ++ vars n) (vars d) asc) (λ z i v j. lo z i v (In-right v (vars y ++ vars n) (vars d) j)) inv h
  main (Then (If c y n) d) u L os env before fs gs (InYes {fs = fs'} e st) q f k ob o a asc lo inv h =
      let up = at (place ends d) os L env gs inv in
      let rest : BodyTree = add_offs (place ends d) os in
      under fs' (Rest rest env ∷ []) gs
      (branch y L env before fs' (Rest rest env ∷ gs) st q.0.1 (λ r i. k r (In-left r (cond_rows c ++ (rows y ++ rows n)) (rows d) (In-right r (cond_rows c) (rows y ++ rows n) (In-left r (rows y) (rows n) i)))) up
      (placed_fact d u os true L env gs (λ z i v j. lo z i v (In-right v (vars y ++ vars n) (vars d) j)) (Ascends-right (vars y ++ vars n) (vars d) asc) q.1 f.1 (known_rest (If c y n) d k) ob up, h))
  main (Then (If c y n) d) u L os env before fs gs (InNo {fs = fs'} e st) q f k ob o a asc lo inv h =
      let up = at (place ends d) os L env gs inv in
      let rest : BodyTree = add_offs (place ends d) os in
      under fs' (Rest rest env ∷ []) gs
      (branch n L env before fs' (Rest rest env ∷ gs) st q.0.2 (λ r i. k r (In-left r (cond_rows c ++ (rows y ++ rows n)) (rows d) (In-right r (cond_rows c) (rows y ++ rows n) (In-right r (rows y) (rows n) i)))) up
      (placed_fact d u os true L env gs (λ z i v j. lo z i v (In-right v (vars y ++ vars n) (vars d) j)) (Ascends-right (vars y ++ vars n) (vars d) asc) q.1 f.1 (known_rest (If c y n) d k) ob up, h))
  main (Then (For x y s e) d) u L os env before fs gs Begins q f k ob o a asc lo inv h = (placed_fact (Then (For x y s e) d) u os true L env gs lo asc q f k ob (at (Then (For x y s (add_offs (place ends e) (ends x))) (place ends d)) os L env gs inv), h)
  main (Then (For x y s e) d) u L os env before fs gs (PastItem {before = before'} dn st) q f k ob o a asc lo inv h =
      main d u L os env before' fs gs st q.1 f.1 (known_rest (For x y s e) d k) ob (Once-right (x ∷ vars e) (vars d) o) (λ z i j. a z i (inr (In-right z (vars e) (vars d) j))) (Ascends-right (x ∷ vars e) (vars d) asc) (λ z i v j. lo z i v (inr (In-right v (vars e) (vars d) j))) inv h
  main (Then (For x y s e) d) u L os env before fs gs (InLoop {before = before'} {fs = fs'} pre n post m dn st) q f k ob o a asc lo inv h =
      let rest : BodyTree = add_offs (place ends d) os in
      let E : BodyTree = add_offs (place ends e) (ends x) in
      let oe = Once-left (x ∷ vars e) (vars d) o in
      let n_in : In n (matches P (serial_of (env y)) (s ∷ [])) = subst (λ (z : List Node). In n z) (sym m) (In-right n pre (n ∷ post) (inl refl)) in
      let not_x : In x L → ⊥ = λ i. a x i (inl refl) in
      let turn : Turn fs' x y s E env n (Rest rest env ∷ gs) = record {
        straight = is_straight u y s (F y);
        var = f.0.0;
        row = k (own_row x) (inl refl);
        match = n_in;
        parent = (inv y q.0.1 (place ends d)).0;
        bound = (inv y q.0.1 (place ends d)).1;
        body = λ t i. Has-end t (place ends e) (ends x) i;
        last = λ t l. own_waits e (ends x) (bind_var env x n) before' fs' t st l;
        scope = record { body = e; placed = refl; known = λ r i. k r (inr (In-left r (rows e) (rows d) i)); outer = L; uses = q.0.2; here = λ z i. inv z i (place ends d); low = λ z i. lo z i x (inl refl); high = (Ascends-left (x ∷ vars e) (vars d) asc).0 };
      } in
      under fs' (LoopRound x y s E env n ∷ Rest rest env ∷ []) gs
      (main e x (x ∷ L) (ends x) (bind_var env x n) before' fs' (LoopRound x y s E env n ∷ Rest rest env ∷ gs) st q.0.2 f.0.1
      (λ r i. k r (inr (In-left r (rows e) (rows d) i)))
      (λ t i. let b = end_in (offs_of core) x t i in (b.0, inl (sym b.1, sym (ap (bind_var env x n) b.1 ∙ rw (eq-eqb x x refl) refl)))) oe.1
      (λ z i j. elim i [ inl g ↦ oe.0 (subst (λ (b : ℕ). In b (vars e)) (sym g) j) | inr i' ↦ a z i' (inr (In-left z (vars e) (vars d) j)) ])
      (Ascends-left (x ∷ vars e) (vars d) asc).1
      (λ z i v j. elim i [ inl g ↦ subst (λ (b : ℕ). b < v) g ((Ascends-left (x ∷ vars e) (vars d) asc).0 v j) | inr i' ↦ lo z i' v (inr (In-left v (vars e) (vars d) j)) ])
      (inner x y s (is_straight u y s (F y)) E (place ends d) L os env n gs f.0.0 q.0.1 not_x n_in inv) (
        turn,
        (
          placed_fact d u os true L env gs (λ z i v j. lo z i v (inr (In-right v (vars e) (vars d) j))) (Ascends-right (x ∷ vars e) (vars d) asc) q.1 f.1 (known_rest (For x y s e) d k) ob (at (place ends d) os L env gs inv),
          subst (λ (z : List Frame). Facts z gs) (sym (append_assoc fs' (LoopRound x y s E env n ∷ []) (Rest rest env ∷ []))) h,
        ),
      ))

  opened : In Root P.nodes → Open (0 ∷ []) (ends 0) env0 []
  opened root x (inr i) d = absurd i
  opened root x (inl e) d =
      let is : F 0 ≡ var0 = good_zero core good in
      let b : (F 0).base ≡ 0 = ap (λ (z : Var). z.base) is in
      subst (λ (z : ℕ). Here z Root (Rest (add_offs d (ends 0)) env0 ∷ [])) e ((
        record {
          env = env0;
          waiting = λ o i. inl (Has-end o d (ends 0) (subst (λ (z : ℕ). In o (ends z)) b i), refl);
          base_in = root;
          base_hit = subst (λ (z : ℕ). hits 0 (F z).path Root ≡ true) (sym b) (subst (λ (z : Var). hits 0 z.path Root ≡ true) (sym is) refl);
          reached = subst (λ (z : Var). hits 0 z.rel Root ≡ true) (sym is) refl;
          inside = root;
          hit = subst (λ (z : Var). hits 0 z.path Root ≡ true) (sym is) refl;
        },
        (refl, refl),
      ))

  -- at each point of the plan's run
  pub facts : In Root P.nodes → (before : List Action) (fs : List Frame) → IsPoint P (reading core).body env0 before fs → Facts [] fs
  facts root before fs st = subst (λ (z : List Frame). Facts [] z) (append-nil fs)
      (main core 0 (0 ∷ []) (ends 0) env0 before fs [] st good.inside (good_fits core good) (λ r i. inr i) (λ t i. let b = end_in (offs_of core) 0 t i in (b.0, (b.1, refl))) (good_once core good)
      (λ z i j. elim i [ inl e ↦ good_not_zero core good (subst (λ (a : ℕ). In a (vars core)) (sym e) j) | inr n ↦ n ]) (good_ascends core good) (λ z i v j. elim i [ inl e ↦ subst (λ (b : ℕ). b < v) e (good_above core good v j) | inr n ↦ absurd n ]) (opened root) tt)

  pub last_waits : In Root P.nodes → (before : List Action) (fs : List Frame) (o : OffTree) → IsPoint P (reading core).body env0 before fs → Last o (ends 0) → Waits o env0 fs ⊎ (fs ≡ Rest Nil env0 ∷ [])
  last_waits root before fs o st l = own_waits core (ends 0) env0 before fs o st l

  -- where a statement waits, it is one of the plan's, and its base is bound below to the node that it will be carried out at
  pub waits_bound : (top fs : List Frame) (o : OffTree) (v : Env) → Facts top fs → Waits o v fs → In o (offs_of core) × Bound_in o.base (v o.base) fs
  waits_bound top [] o v f h = absurd h
  waits_bound top (Rest d env ∷ fs) o v f (inl h) = let r = f.0.1 o h.0 in (r.0, subst (λ (z : Env). Bound_in o.base (z o.base) fs) h.1 r.1)
  waits_bound top (Rest d env ∷ fs) o v f (inr h) = waits_bound (top ++ Rest d env ∷ []) fs o v f.1 h
  waits_bound top (LoopRound x y s e env n ∷ fs) o v f h = let r = waits_bound (top ++ LoopRound x y s e env n ∷ []) fs o v f.1 h in (r.0, inr r.1)
  waits_bound top (CopyPart x env k ∷ fs) o v f h = waits_bound (top ++ CopyPart x env k ∷ []) fs o v f.1 h

  -- what is bound in some frames of a point is a match of its variable's path
  pub bound_hit : (root : In Root P.nodes) (at_zero : F 0 ≡ var0) (top fs : List Frame) (x : ℕ) (n : Node) → Facts top fs → Bound_in x n fs → In n P.nodes × (hits 0 (F x).path n ≡ true)
  bound_hit root at_zero top [] x n f b = subst (λ (z : Node). In z P.nodes × (hits 0 (F x).path z ≡ true)) (sym b.1) (root, subst (λ (z : ℕ). hits 0 (F z).path Root ≡ true) (sym b.0) (subst (λ (z : Var). hits 0 z.path Root ≡ true) (sym at_zero) refl))
  bound_hit root at_zero top (Rest d env ∷ fs) x n f b = bound_hit root at_zero (top ++ Rest d env ∷ []) fs x n f.1 b
  bound_hit root at_zero top (CopyPart z env k ∷ fs) x n f b = bound_hit root at_zero (top ++ CopyPart z env k ∷ []) fs x n f.1 b
  bound_hit root at_zero top (LoopRound z y s e env m ∷ fs) x n f (inr b) = bound_hit root at_zero (top ++ LoopRound z y s e env m ∷ []) fs x n f.1 b
  bound_hit root at_zero top (LoopRound z y s e env m ∷ fs) x n f (inl b) =
      let t : Turn top z y s e env m fs = f.0 in
      subst (λ (v : ℕ). In n P.nodes × (hits 0 (F v).path n ≡ true)) b.0 (subst (λ (v : Node). In v P.nodes × (hits 0 (F z).path v ≡ true)) b.1
      ((Matches-in P (serial_of (env y)) (s ∷ []) m t.match).0, hit_on z y s t.straight t.var (env y) m t.parent.inside t.parent.hit t.match))
