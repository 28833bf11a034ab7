-- At what a point needs a role is live, so it is held.
use Rattle.std.proofs.Common.{◌≡◌, ℕ, suc, Bool, true, false, cond, not, ◌&&◌, ◌||◌, List, [], ◌∷◌, ◌++◌, refl, sym, ◌∙◌, ap, subst, inl, inr, ◌⊎◌, append_assoc, Some, eqb, ltb}
use Rattle.std.specs.List.{filter}
use Rattle.std.proofs.lemmas.List.{append-nil}
use Rattle.std.proofs.lemmas.Bool.{or_cases, or_left, or_right, and_parts, and_from, true≢false, false≢true, eqb-true, eq-eqb, not-true, false_from_ne_true}
pub use Rattle.gcx_model.specs.Needs.{Operand_needs, Cond_needs, Conds_need, Item_needs, Body_needs, Frame_needs, Needs}
use Rattle.gcx_model.specs.Tree.{Node, Root, serial_of, above, within, Tree}
use Rattle.gcx_model.specs.Paths.{any, all, hits, matches, first}
use Rattle.gcx_base.specs.declared.steps.Step.{Step}
use Rattle.gcx_model.specs.Core.{CondTree, Always, Exists, Compare, Not, AllOf, AnyOf, CondTrees, no_cond, more_conds, OperandTree, Path, Str, Num, Write, Copy, For, If, SignOff, BodyTree, Nil, Then, OffTree, RoleTarget, Own, First, Whole, RoleRowTree}
use Rattle.gcx_model.specs.Truth.{Env, bind_var}
use Rattle.gcx_model.specs.Run.{env0, Action, Wrote, Offed}
use Rattle.tree_laws.proofs.Reading.{Reading, given, signed, taken, live_some, is_live, is_held, reading}
use Rattle.gcx_model.specs.Held.{is_node, gives, is_off}
use Rattle.gcx_model.specs.Variables.{Var, var0, child_var, var_tree, vars}
use Rattle.gcx_model.specs.Roles.{operand_rows, cond_rows, conds_rows, own_row, whole_row, roles_of}
use Rattle.gcx_model.specs.Placed.{is_own_kind, is_own, is_empty, statement, statements, at_end, offs_of}
use Rattle.gcx_model.specs.Cores.{Good}
use Rattle.tree_laws.proofs.Lists.{In, In-left, In-right, In-filter, In-kept, any_from}
use Rattle.tree_laws.proofs.Matches.{Grown, Matches-in, Matches-from}
use Rattle.tree_laws.proofs.Freeze.{within_self}
use Rattle.placed_laws.proofs.Local.{within_is}
use Rattle.tree_laws.proofs.Chains.{one_desc}
use Rattle.placed_laws.proofs.Signs.{sig}
use Rattle.placed_laws.proofs.AllTaken.{off_eq}
use Rattle.tree_laws.proofs.Equal.{off_refl, off_other}
use Rattle.placed_laws.proofs.Needed.{Way}
use Rattle.placed_laws.proofs.Stays.{all_in}
use Rattle.placed_laws.proofs.PointForms.{Frame, Rest, LoopRound, CopyPart, IsPoint, later, to_come}
use Rattle.placed_laws.proofs.CorePlans.{At_row, row_has, row_is, in_end, good_based, roles_known, way_of, good_zero}
use Rattle.placed_laws.proofs.Waits.{Waits, Waits-left, waits_unsigned, later_unsigned, loop_unsigned}
use Rattle.placed_laws.proofs.Frames.{Bound_in, gives_behind, Last, Ready, ready_over, ready_under, ready_far, hit_on, Loop, Turn, Fact_rest, Facts, facts, last_waits}

-- the last of a list that isn't empty
last_of : {X : Type 0} (x : X) (xs : List X) → In x xs → (l : X) × Last l xs × In l xs
last_of x [] i = absurd i
last_of x (y ∷ []) i = (y, refl, inl refl)
last_of x (y ∷ z ∷ zs) i = let r = last_of z (z ∷ zs) (inl refl) in (r.0, r.1, inr r.2)

Last-cons : {X : Type 0} (l x : X) (xs : List X) → Last l xs → Last l (x ∷ xs)
Last-cons l x [] h = absurd h
Last-cons l x (y ∷ ys) h = h

Last-append : {X : Type 0} (l : X) (xs ys : List X) → Last l ys → Last l (xs ++ ys)
Last-append l [] ys h = h
Last-append l (x ∷ xs) ys h = Last-cons l x (xs ++ ys) (Last-append l xs ys h)

own_kind : (k : RoleTarget) → is_own_kind k ≡ true → k ≡ Own
own_kind Own e = refl
own_kind First e = absurd (false≢true e)
own_kind Whole e = absurd (false≢true e)

no_steps : (path : List Step) → is_empty path ≡ true → path ≡ []
no_steps [] e = refl
no_steps (s ∷ path) e = absurd (false≢true e)

-- the last statement at the end of a body takes its base's own role
last_own : (os : List OffTree) (b : ℕ) (o : OffTree) → In o os → o.base ≡ b → is_own o ≡ true → (l : OffTree) × Last l (at_end os b) × In l os × (l.base ≡ b) × (l.rel ≡ []) × (l.kind ≡ Own)
last_own os b o i e own =
    let xs : List OffTree = filter (λ (o : OffTree). eqb o.base b && is_own o) os in
    let r = last_of o xs (In-kept (λ (o : OffTree). eqb o.base b && is_own o) o os i (and_from _ _ (eq-eqb _ _ e) own)) in
    let q = In-filter (λ (o : OffTree). eqb o.base b && is_own o) r.0 os r.2 in
    let a = and_parts (eqb (r.0).base b) (is_own r.0) q.1 in
    let c = and_parts (is_own_kind (r.0).kind) (is_empty (r.0).rel) a.1 in
    (r.0, Last-append r.0 (filter (λ (o : OffTree). eqb o.base b && not (is_own o)) os) xs r.1, q.0, eqb-true _ _ a.0, no_steps _ c.1, own_kind _ c.0)

pub off_row : (F : ℕ → Var) (all : List RoleRowTree) (k : ℕ) (rs : List RoleRowTree) (o : OffTree) → In o (statements F all k rs) → (r : RoleRowTree) × At_row r o rs (statements F all k rs)
off_row F all k [] o i = absurd i
off_row F all k (r ∷ rs) o (inl e) = (r, inl (refl, e))
off_row F all k (r ∷ rs) o (inr i) = let h = off_row F all (suc k) rs o i in (h.0, inr h.1)

off_sig : (s : OffTree) (m : ℕ) (xs : List Action) → any (is_off s m) xs ≡ true → In m (sig (off_eq s) xs)
off_sig s m [] h = absurd (false≢true h)
off_sig s m (Wrote b ∷ xs) h = off_sig s m xs h
off_sig s m (Offed o n ∷ xs) h = go (off_eq s o) refl (off_sig s m xs) h
  where
    go : (c : Bool) → off_eq s o ≡ c → (any (is_off s m) xs ≡ true → In m (sig (off_eq s) xs)) → ((off_eq s o && eqb n m) || any (is_off s m) xs) ≡ true → In m (cond c (n ∷ sig (off_eq s) xs) (sig (off_eq s) xs))
    go true e ih k = elim (or_cases (off_eq s o && eqb n m) (any (is_off s m) xs) k) [ inl f ↦ inl (eqb-true n m (and_parts (off_eq s o) (eqb n m) f).1) | inr f ↦ inr (ih f) ]
    go false e ih k = elim (or_cases (off_eq s o && eqb n m) (any (is_off s m) xs) k) [ inl f ↦ absurd (false≢true (sym e ∙ (and_parts (off_eq s o) (eqb n m) f).0)) | inr f ↦ ih f ]

live_from : (p : Reading) (P : Tree) (A : List Action) (n : Node) (r : RoleRowTree) (o : OffTree) (rs : List RoleRowTree) (os : List OffTree) → At_row r o rs os → given p P n r ≡ true → taken p P A n r o ≡ false → live_some p P A n rs os ≡ true
live_from p P A n r o [] os h g t = absurd h
live_from p P A n r o (q ∷ qs) [] h g t = absurd h
live_from p P A n r o (q ∷ qs) (o' ∷ os) (inl e) g t = let x : (given p P n r && not (taken p P A n r o)) ≡ true = and_from _ _ g (ap not t) in or_left (given p P n q && not (taken p P A n q o')) (live_some p P A n qs os) (rw (e.0, e.1) x)
live_from p P A n r o (q ∷ qs) (o' ∷ os) (inr h) g t = or_right _ _ (live_from p P A n r o qs os h g t)

-- frames that aren't those of a body that is over
abbrev pub Solid_one : Frame → Type 0
Solid_one (Rest Nil env) = ⊥
Solid_one (Rest (Then i d) env) = Unit {0}
Solid_one (LoopRound x y s e env n) = Unit {0}
Solid_one (CopyPart x env k) = Unit {0}

abbrev pub Solid : List Frame → Type 0
Solid [] = ⊥
Solid (f ∷ []) = Solid_one f
Solid (f ∷ g ∷ fs) = Unit {0}

solid_more : (top : List Frame) (g : Frame) → Solid top → Solid (top ++ g ∷ [])
solid_more [] g h = absurd h
solid_more (f ∷ []) g h = tt
solid_more (f ∷ f' ∷ fs) g h = tt

pub solid_last : (top : List Frame) (f : Frame) → Solid_one f → Solid (top ++ f ∷ [])
solid_last [] f h = h
solid_last (g ∷ []) f h = tt
solid_last (g ∷ g' ∷ fs) f h = tt

solid_open : (v : Env) (top : List Frame) → Solid top → top ≡ Rest Nil v ∷ [] → ⊥
solid_open v top h e = subst (λ (z : List Frame). Solid z) e h

module _ (P : Tree) (w : Grown P) (root : In Root P.nodes) (core : BodyTree) (good : Good core) (before : List Action) (fs : List Frame) (st : IsPoint P (reading core).body env0 before fs) where
  abbrev V : ℕ → Var
  V = var_tree core

  -- where a statement's base's node isn't signed for it, to what that node gives its role a role is live
  unsigned_live : (r : RoleRowTree) (o : OffTree) → At_row r o (roles_of core) (offs_of core) → (a : Node) → In a P.nodes → hits 0 (V o.base).path a ≡ true → (In (serial_of a) (sig (off_eq o) before) → ⊥)
      → (m : Node) → In m P.nodes → gives P (serial_of a) o.rel o.tail o.kind m ≡ true → is_live (reading core) P before m ≡ true
  unsigned_live r o row a ia hit un m i g =
      let p : Reading = reading core in
      let q = row_is V (roles_of core) 0 (roles_of core) r o row in
      let e : o ≡ statement V (roles_of core) q.2.0 r = q.2.1 in
      let b = good_based core good r.var (roles_known core good r q.0) in
      let base : o.base ≡ (V r.var).base = ap (λ (z : OffTree). z.base) e in
      let rel : o.rel ≡ (V r.var).rel = ap (λ (z : OffTree). z.rel) e in
      let tail : r.tail ≡ o.tail = sym (ap (λ (z : OffTree). z.tail) e) in
      let kind : r.kind ≡ o.kind = sym (ap (λ (z : OffTree). z.kind) e) in
      let path : (V r.var).path ≡ (V o.base).path ++ o.rel = b.path ∙ (ap (λ (z : ℕ). (V z).path ++ (V r.var).rel) (sym base) ∙ ap (λ z. (V o.base).path ++ z) (sym rel)) in
      let giv : given p P m r ≡ true = rw (path, tail, kind) (gives_behind P w 0 (V o.base).path o.rel o.tail o.kind a m ia i hit g) in
      let not_taken : taken p P before m r o ≡ false = false_from_ne_true _ (λ t.
      let x = and_parts (given p P m r) (all (λ j. not (gives P (serial_of j) o.rel o.tail o.kind m) || signed P before o j) (matches P 0 (p.paths o.base))) t in
      let y = all_in (λ (j : Node). not (gives P (serial_of j) o.rel o.tail o.kind m) || signed P before o j) (matches P 0 (p.paths o.base)) x.1 a (Matches-from P 0 (p.paths o.base) a ia hit) in
      elim (or_cases (not (gives P (serial_of a) o.rel o.tail o.kind m)) (signed P before o a) y) [
        | inl f ↦ true≢false (sym g ∙ not-true _ f)
        | inr f ↦ un (off_sig o (serial_of a) before f)
      ]) in
      live_from p P before m r o p.roles p.offs row giv not_taken

  -- the way to a statement's base
  way : (r : RoleRowTree) (o : OffTree) → At_row r o (roles_of core) (offs_of core) → Way (off_eq o) o.base 0 (reading core).body (V o.base).path × (one_desc (V o.base).path ≡ true)
  way r o row =
      let q = row_is V (roles_of core) 0 (roles_of core) r o row in
      let b = good_based core good r.var (roles_known core good r q.0) in
      let base : o.base ≡ (V r.var).base = ap (λ (z : OffTree). z.base) q.2.1 in
      way_of core good (off_eq o) o q.1 (off_refl o) (λ t j n. off_other o t n) (subst (λ (z : ℕ). In z (0 ∷ vars core)) (sym base) b.known) (ap (λ (z : ℕ). (V z).straight) base ∙ b.straight)

  -- where it waits
  waiting_live : (r : RoleRowTree) (o : OffTree) → At_row r o (roles_of core) (offs_of core) → (v : Env) → Waits o v fs → In (v o.base) P.nodes → hits 0 (V o.base).path (v o.base) ≡ true
      → (m : Node) → In m P.nodes → gives P (serial_of (v o.base)) o.rel o.tail o.kind m ≡ true → is_live (reading core) P before m ≡ true
  waiting_live r o row v wait ia hit m i g =
      let y = way r o row in
      unsigned_live r o row (v o.base) ia hit (waits_unsigned P w root (reading core).body o (V o.base).path y.0 y.1 before fs st v wait) m i g

  -- the statement of a row
  pub row_statement : (r : RoleRowTree) → In r (roles_of core) → (j : ℕ) × At_row r (statement V (roles_of core) j r) (roles_of core) (offs_of core) × In (statement V (roles_of core) j r) (offs_of core)
  row_statement r i =
      let h = row_has V (roles_of core) 0 (roles_of core) r i in
      let q = row_is V (roles_of core) 0 (roles_of core) r h.0 h.1 in
      (q.2.0, subst (λ (z : OffTree). At_row r z (roles_of core) (offs_of core)) q.2.1 h.1, subst (λ (z : OffTree). In z (offs_of core)) q.2.1 q.1)

  -- to what the node of a bound variable gives a role of it, one is live
  pub site_live : (r : RoleRowTree) (n m : Node) → In r (roles_of core) → Ready P w core good r.var n fs → In m P.nodes → gives P (serial_of n) [] r.tail r.kind m ≡ true → is_live (reading core) P before m ≡ true
  site_live r n m i ready im g =
      let q = row_statement r i in
      let o : OffTree = statement V (roles_of core) q.0 r in
      let b : ℕ = (V r.var).base in
      waiting_live r o q.1 ready.env (ready.waiting o (in_end (offs_of core) b o q.2 refl)) ready.base_in ready.base_hit m im
      (subst (λ (z : List Step). gives P (serial_of (ready.env b)) z r.tail r.kind m ≡ true) (append-nil (V r.var).rel)
      (gives_behind P w (serial_of (ready.env b)) (V r.var).rel [] r.tail r.kind n m ready.inside im ready.reached g))

  own_gives : (n : Node) (tail : List Step) → gives P (serial_of n) [] tail Own n ≡ true
  own_gives n tail = eq-eqb _ _ refl

  whole_gives : (n : Node) (tail : List Step) (j m : Node) → In j (matches P (serial_of n) tail) → In m P.nodes → within (serial_of j) m ≡ true → gives P (serial_of n) [] tail Whole m ≡ true
  whole_gives n tail j m i im h = let q = Matches-in P (serial_of n) tail j i in any_from (hits (serial_of n) tail) j (above m) (within_is P w j m q.0 im h) q.1

  first_gives : (n : Node) (tail : List Step) (m : Node) → In n P.nodes → first P (serial_of n) tail ≡ Some m → gives P (serial_of n) [] tail First m ≡ true
  first_gives n tail m i e = any_from (λ (j : Node). is_node (serial_of m) (first P (serial_of j) tail)) n (matches P (serial_of n) []) (Matches-from P (serial_of n) [] n i (eq-eqb _ _ refl)) (rw e (eq-eqb _ _ refl))

  abbrev Site : Env → List RoleRowTree → Node → Type 0
  Site env rs m = (r : RoleRowTree) × In r rs × (In (env r.var) P.nodes → gives P (serial_of (env r.var)) [] r.tail r.kind m ≡ true)

  site_left : (env : Env) (rs qs : List RoleRowTree) (m : Node) → Site env rs m → Site env (rs ++ qs) m
  site_left env rs qs m s = (s.0, In-left s.0 rs qs s.1, s.2)

  site_right : (env : Env) (rs qs : List RoleRowTree) (m : Node) → Site env qs m → Site env (rs ++ qs) m
  site_right env rs qs m s = (s.0, In-right s.0 rs qs s.1, s.2)

  operand_site : (env : Env) (o : OperandTree) (m : Node) → In m P.nodes → Operand_needs P env o m → Site env (operand_rows o) m
  operand_site env (Path x tail) m i h = (record { var = x; tail = tail; kind = Whole }, inl refl, λ k. whole_gives (env x) tail h.0 m h.1 i h.2)
  operand_site env (Str b) m i h = absurd h
  operand_site env (Num l) m i h = absurd h

  mutual
    cond_site : (env : Env) (c : CondTree) (m : Node) → In m P.nodes → Cond_needs P env c m → Site env (cond_rows c) m
    cond_site env Always m i h = absurd h
    cond_site env (Exists x tail) m i h = (record { var = x; tail = tail; kind = First }, inl refl, λ k. first_gives (env x) tail m k h)
    cond_site env (Compare l r s) m i (inl h) = site_left env (operand_rows l) (operand_rows s) m (operand_site env l m i h)
    cond_site env (Compare l r s) m i (inr h) = site_right env (operand_rows l) (operand_rows s) m (operand_site env s m i h)
    cond_site env (Not c) m i h = cond_site env c m i h
    cond_site env (AllOf cs) m i h = conds_site env cs m i h
    cond_site env (AnyOf cs) m i h = conds_site env cs m i h

    conds_site : (env : Env) (cs : CondTrees) (m : Node) → In m P.nodes → Conds_need P env cs m → Site env (conds_rows cs) m
    conds_site env no_cond m i h = absurd h
    conds_site env (more_conds c cs) m i (inl h) = site_left env (cond_rows c) (conds_rows cs) m (cond_site env c m i h)
    conds_site env (more_conds c cs) m i (inr h) = site_right env (cond_rows c) (conds_rows cs) m (conds_site env cs m i h)

  -- the node of a straight variable, unless its body is over
  last_live : (x : ℕ) (n : Node) (v : Env) → v x ≡ n → In n P.nodes → hits 0 (V x).path n ≡ true → (V x).base ≡ x → (V x).rel ≡ [] → In (own_row x) (roles_of core)
      → ((l : OffTree) → Last l (at_end (offs_of core) x) → Waits l v fs) → is_live (reading core) P before n ≡ true
  last_live x n v vx i hit base rel row wait =
      let q = row_statement (own_row x) row in
      let o : OffTree = statement V (roles_of core) q.0 (own_row x) in
      let l = last_own (offs_of core) x o q.2 base (ap is_empty rel) in
      let r = off_row V (roles_of core) 0 (roles_of core) l.0 l.2 in
      let at : v (l.0).base ≡ n = ap v l.3 ∙ vx in
      waiting_live r.0 l.0 r.1 v (wait l.0 l.1) (subst (λ (z : Node). In z P.nodes) (sym at) i)
      (subst (λ (z : ℕ). hits 0 (V z).path (v (l.0).base) ≡ true) (sym l.3) (subst (λ (z : Node). hits 0 (V x).path z ≡ true) (sym at) hit))
      n i (subst (λ (z : Node). gives P (serial_of z) (l.0).rel (l.0).tail (l.0).kind n ≡ true) (sym at) (rw (l.4, l.5) (own_gives n (l.0).tail)))

  -- the present match, unless the body is over, and the later ones
  turn_live : (top below : List Frame) (x y : ℕ) (s : Step) (e : BodyTree) (env : Env) (n m : Node) → fs ≡ top ++ LoopRound x y s e env n ∷ below → Turn P w core good top x y s e env n below
      → ((top ≡ Rest Nil (bind_var env x n) ∷ [] → ⊥) × (n ≡ m)) ⊎ In m (later n (matches P (serial_of (env y)) (s ∷ []))) → is_live (reading core) P before m ≡ true
  turn_live top below x y s e env n m are t h = go t.straight t.var h
    where
      far : Ready P w core good y (env y) below → Ready P w core good y (env y) fs
      far r = subst (λ (z : List Frame). Ready P w core good y (env y) z) (sym are) (ready_under P w core good y (env y) top (LoopRound x y s e env n ∷ below) (ready_over P w core good y (env y) (LoopRound x y s e env n) below r))

      up : (o : OffTree) → Waits o (bind_var env x n) top → Waits o (bind_var env x n) fs
      up o k = subst (λ (z : List Frame). Waits o (bind_var env x n) z) (sym are) (Waits-left o (bind_var env x n) top (LoopRound x y s e env n ∷ below) k)

      present : V x ≡ child_var true x s (V y) → (top ≡ Rest Nil (bind_var env x n) ∷ [] → ⊥) → is_live (reading core) P before n ≡ true
      present c open' =
          last_live x n (bind_var env x n) (rw (eq-eqb x x refl) refl) (Matches-in P (serial_of (env y)) (s ∷ []) n t.match).0
          (hit_on P w core good x y s true c (env y) n t.parent.inside t.parent.hit t.match)
          (ap (λ (z : Var). z.base) c) (ap (λ (z : Var). z.rel) c) t.row
          (λ l k. elim (t.last l k) [
            | inl a ↦ up l a
            | inr a ↦ absurd (open' a)
          ])

      next : V x ≡ child_var true x s (V y) → In m (later n (matches P (serial_of (env y)) (s ∷ []))) → is_live (reading core) P before m ≡ true
      next c k =
          let q = row_statement (own_row x) t.row in
          let o : OffTree = statement V (roles_of core) q.0 (own_row x) in
          let base : (V x).base ≡ x = ap (λ (z : Var). z.base) c in
          let rel : (V x).rel ≡ [] = ap (λ (z : Var). z.rel) c in
          let i = (In-filter (λ (j : Node). ltb (serial_of n) (serial_of j)) m (matches P (serial_of (env y)) (s ∷ [])) k).0 in
          let im = (Matches-in P (serial_of (env y)) (s ∷ []) m i).0 in
          let y' = way (own_row x) o q.1 in
          unsigned_live (own_row x) o q.1 m im
          (subst (λ (z : ℕ). hits 0 (V z).path m ≡ true) (sym base) (hit_on P w core good x y s true c (env y) m t.parent.inside t.parent.hit i))
          (later_unsigned P w root (reading core).body o (V o.base).path y'.0 y'.1 before fs st top below x y s e env n m are (t.body o (in_end (offs_of core) x o q.2 base)) base k)
          m im (subst (λ (z : List Step). gives P (serial_of m) z [] Own m ≡ true) (sym rel) (own_gives m []))

      go : (c : Bool) → V x ≡ child_var c x s (V y) → ((top ≡ Rest Nil (bind_var env x n) ∷ [] → ⊥) × (n ≡ m)) ⊎ In m (later n (matches P (serial_of (env y)) (s ∷ []))) → is_live (reading core) P before m ≡ true
      go true c (inl k) = subst (λ (z : Node). is_live (reading core) P before z ≡ true) k.1 (present c k.0)
      go true c (inr k) = next c k
      go false c (inl k) =
          let r = ready_far P w core good x y s c (env y) n fs (far t.parent) t.match in
          subst (λ (z : Node). is_live (reading core) P before z ≡ true) k.1 (site_live (own_row x) n n t.row r r.inside (own_gives n []))
      go false c (inr k) =
          let i = (In-filter (λ (j : Node). ltb (serial_of n) (serial_of j)) m (matches P (serial_of (env y)) (s ∷ [])) k).0 in
          let r = ready_far P w core good x y s c (env y) m fs (far t.parent) i in
          site_live (own_row x) m m t.row r r.inside (own_gives m [])

  root_live : (fs ≡ Rest Nil env0 ∷ [] → ⊥) → is_live (reading core) P before Root ≡ true
  root_live open' =
      let is : V 0 ≡ var0 = good_zero core good in
      last_live 0 Root env0 refl root (subst (λ (z : Var). hits 0 z.path Root ≡ true) (sym is) refl) (ap (λ (z : Var). z.base) is) (ap (λ (z : Var). z.rel) is) (inl refl)
      (λ l k. elim (last_waits P w core good root before fs l st k) [
        | inl a ↦ a
        | inr a ↦ absurd (open' a)
      ])

  -- the node of a variable that is bound below frames that aren't all over
  pub bound_live : (x : ℕ) (n : Node) (top gs : List Frame) → fs ≡ top ++ gs → Solid top → Facts P w core good top gs → Bound_in x n gs → is_live (reading core) P before n ≡ true
  bound_live x n top [] are so f h = subst (λ (z : Node). is_live (reading core) P before z ≡ true) (sym h.1) (root_live (λ e. solid_open env0 top so (sym (are ∙ append-nil top) ∙ e)))
  bound_live x n top (Rest d env ∷ gs) are so f h = bound_live x n (top ++ Rest d env ∷ []) gs (are ∙ sym (append_assoc top (Rest d env ∷ []) gs)) (solid_more top (Rest d env) so) f.1 h
  bound_live x n top (CopyPart z env k ∷ gs) are so f h = bound_live x n (top ++ CopyPart z env k ∷ []) gs (are ∙ sym (append_assoc top (CopyPart z env k ∷ []) gs)) (solid_more top (CopyPart z env k) so) f.1 h
  bound_live x n top (LoopRound z y s e env m ∷ gs) are so f (inl h) = turn_live top gs z y s e env m n are f.0 (inl ((λ e'. solid_open (bind_var env z m) top so e'), h.1))
  bound_live x n top (LoopRound z y s e env m ∷ gs) are so f (inr h) = bound_live x n (top ++ LoopRound z y s e env m ∷ []) gs (are ∙ sym (append_assoc top (LoopRound z y s e env m ∷ []) gs)) (solid_more top (LoopRound z y s e env m) so) f.1 h

  part_live : (top below : List Frame) (f : Frame) (x : ℕ) (env : Env) (m : Node) → fs ≡ top ++ f ∷ below → In m P.nodes → In (whole_row x) (roles_of core) → Ready P w core good x (env x) (f ∷ below) → within (serial_of (env x)) m ≡ true → is_live (reading core) P before m ≡ true
  part_live top below f x env m are i row ready h =
      let r : Ready P w core good x (env x) fs = subst (λ (z : List Frame). Ready P w core good x (env x) z) (sym are) (ready_under P w core good x (env x) top (f ∷ below) ready) in
      site_live (whole_row x) (env x) m row r i (whole_gives (env x) [] (env x) m (Matches-from P (serial_of (env x)) [] (env x) r.inside (eq-eqb _ _ refl)) i h)

  -- the matches of a loop that comes next
  loop_live : (top below : List Frame) (x y : ℕ) (s : Step) (e d : BodyTree) (env : Env) (m : Node) → fs ≡ top ++ Rest (Then (For x y s e) d) env ∷ below → Loop P w core good x y s e env (Rest (Then (For x y s e) d) env ∷ below)
      → In m (matches P (serial_of (env y)) (s ∷ [])) → is_live (reading core) P before m ≡ true
  loop_live top below x y s e d env m are l i = go l.straight l.var
    where
      im : In m P.nodes
      im = (Matches-in P (serial_of (env y)) (s ∷ []) m i).0

      go : (c : Bool) → V x ≡ child_var c x s (V y) → is_live (reading core) P before m ≡ true
      go true c =
          let q = row_statement (own_row x) l.row in
          let o : OffTree = statement V (roles_of core) q.0 (own_row x) in
          let base : (V x).base ≡ x = ap (λ (z : Var). z.base) c in
          let rel : (V x).rel ≡ [] = ap (λ (z : Var). z.rel) c in
          let y' = way (own_row x) o q.1 in
          unsigned_live (own_row x) o q.1 m im
          (subst (λ (z : ℕ). hits 0 (V z).path m ≡ true) (sym base) (hit_on P w core good x y s true c (env y) m l.parent.inside l.parent.hit i))
          (loop_unsigned P w root (reading core).body o (V o.base).path y'.0 y'.1 before fs st top below x y s e d env m are (l.body o (in_end (offs_of core) x o q.2 base)) base i)
          m im (subst (λ (z : List Step). gives P (serial_of m) z [] Own m ≡ true) (sym rel) (own_gives m []))
      go false c =
          let far : Ready P w core good y (env y) fs = subst (λ (z : List Frame). Ready P w core good y (env y) z) (sym are) (ready_under P w core good y (env y) top (Rest (Then (For x y s e) d) env ∷ below) l.parent) in
          let r = ready_far P w core good x y s c (env y) m fs far i in
          site_live (own_row x) m m l.row r im (own_gives m [])

  rest_live : (top below : List Frame) (d : BodyTree) (env : Env) (m : Node) → fs ≡ top ++ Rest d env ∷ below → In m P.nodes → Fact_rest P w core good d env (Rest d env ∷ below) → Facts P w core good (top ++ Rest d env ∷ []) below → Body_needs P env d m → is_live (reading core) P before m ≡ true
  rest_live top below Nil env m are i f g h = absurd h
  rest_live top below (Then (Write s) d) env m are i f g h = absurd h
  rest_live top below (Then (Copy x) d) env m are i f g h = part_live top below (Rest (Then (Copy x) d) env) x env m are i f.0 f.1.0 h
  rest_live top below (Then (For x y s e) d) env m are i f g (inl h) =
      let l : Loop P w core good x y s e env (Rest (Then (For x y s e) d) env ∷ below) = f in
      subst (λ (z : Node). is_live (reading core) P before z ≡ true) h
      (bound_live y (env y) (top ++ Rest (Then (For x y s e) d) env ∷ []) below (are ∙ sym (append_assoc top (Rest (Then (For x y s e) d) env ∷ []) below)) (solid_last top (Rest (Then (For x y s e) d) env) tt) g l.bound)
  rest_live top below (Then (For x y s e) d) env m are i f g (inr h) = loop_live top below x y s e d env m are f h
  rest_live top below (Then (SignOff o) d) env m are i f g h =
      subst (λ (z : Node). is_live (reading core) P before z ≡ true) h
      (bound_live o.base (env o.base) (top ++ Rest (Then (SignOff o) d) env ∷ []) below (are ∙ sym (append_assoc top (Rest (Then (SignOff o) d) env ∷ []) below)) (solid_last top (Rest (Then (SignOff o) d) env) tt) g f)
  rest_live top below (Then (If c a b) d) env m are i f g (inl h) =
      let s = cond_site env c m i h in
      let k = f s.0 s.1 in
      let r : Ready P w core good (s.0).var (env (s.0).var) fs = subst (λ (z : List Frame). Ready P w core good (s.0).var (env (s.0).var) z) (sym are) (ready_under P w core good (s.0).var (env (s.0).var) top (Rest (Then (If c a b) d) env ∷ below) k.1.0) in
      site_live s.0 (env (s.0).var) m k.0 r i (s.2 r.inside)
  rest_live top below (Then (If c a b) d) env m are i f g (inr h) =
      let r : RoleRowTree = h.0 in
      subst (λ (z : Node). is_live (reading core) P before z ≡ true) h.2
      (bound_live r.var (env r.var) (top ++ Rest (Then (If c a b) d) env ∷ []) below (are ∙ sym (append_assoc top (Rest (Then (If c a b) d) env ∷ []) below)) (solid_last top (Rest (Then (If c a b) d) env) tt) g (f r h.1).1.1)

  from_facts : (top gs : List Frame) (m : Node) → fs ≡ top ++ gs → In m P.nodes → Facts P w core good top gs → Needs P top gs m → is_live (reading core) P before m ≡ true
  from_facts top [] m are i f h = subst (λ (z : Node). is_live (reading core) P before z ≡ true) h.1 (root_live (λ e. h.0 (ap (to_come P) (sym (are ∙ append-nil top) ∙ e))))
  from_facts top (Rest d env ∷ gs) m are i f (inl h) = rest_live top gs d env m are i f.0.0 f.1 h
  from_facts top (LoopRound x y s e env n ∷ gs) m are i f (inl (inl (inl h))) = turn_live top gs x y s e env n m are f.0 (inl ((λ e'. h.0 (ap (to_come P) e')), h.1))
  from_facts top (LoopRound x y s e env n ∷ gs) m are i f (inl (inl (inr h))) = turn_live top gs x y s e env n m are f.0 (inr h)
  from_facts top (LoopRound x y s e env n ∷ gs) m are i f (inl (inr h)) =
      let t : Turn P w core good top x y s e env n gs = f.0 in
      subst (λ (z : Node). is_live (reading core) P before z ≡ true) h
      (bound_live y (env y) (top ++ LoopRound x y s e env n ∷ []) gs (are ∙ sym (append_assoc top (LoopRound x y s e env n ∷ []) gs)) (solid_last top (LoopRound x y s e env n) tt) f.1 t.bound)
  from_facts top (CopyPart x env k ∷ gs) m are i f (inl h) = part_live top gs (CopyPart x env k) x env m are i f.0.0 (ready_over P w core good x (env x) (CopyPart x env k) gs f.0.1.0) h
  from_facts top (g ∷ gs) m are i f (inr h) = from_facts (top ++ g ∷ []) gs m (are ∙ sym (append_assoc top (g ∷ []) gs)) i f.1 h

  -- what has a live role is held
  pub live_held : (m : Node) → In m P.nodes → is_live (reading core) P before m ≡ true → is_held (reading core) P before m ≡ true
  live_held m i h = or_right _ _ (any_from (λ (j : Node). within (serial_of m) j && is_live (reading core) P before j) m P.nodes i (and_from _ _ (within_self (serial_of m) m (eq-eqb _ _ refl)) h))

  -- at what the point needs a role is live
  pub needs_live : (m : Node) → In m P.nodes → Needs P [] fs m → is_live (reading core) P before m ≡ true
  needs_live m i h = from_facts [] fs m refl i (facts P w core good root before fs st) h

  -- so it is held
  pub needs_held : (m : Node) → In m P.nodes → Needs P [] fs m → is_held (reading core) P before m ≡ true
  needs_held m i h = live_held m i (needs_live m i h)
