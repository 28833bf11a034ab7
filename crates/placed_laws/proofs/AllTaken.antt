-- A run that is done has signed each node that the way to b reaches; so where all is closed, all that is given is taken.
use Rattle.std.proofs.Common.{◌≡◌, ℕ, Bool, true, false, cond, not, ◌&&◌, ◌||◌, List, [], ◌∷◌, refl, sym, ◌∙◌, ap, subst, inl, inr, None, eqb}
use Rattle.std.proofs.lemmas.Bool.{or_left, or_right, and_from, false≢true, eq-eqb}
pub use Rattle.gcx_model.specs.Equal.{off_eq}
use Rattle.gcx_model.specs.Tree.{Node, Root, serial_of, Tree, is_closed}
use Rattle.gcx_model.specs.Paths.{any, matches}
use Rattle.gcx_base.specs.declared.steps.Step.{Step}
use Rattle.gcx_model.specs.Core.{For, SignOff, BodyTree, OffTree, RoleRowTree}
use Rattle.gcx_model.specs.Truth.{Env, bind_var}
use Rattle.gcx_model.specs.Run.{env0, Action, Wrote, Offed, Out, loop, seq, seq_if, run_item, run}
use Rattle.tree_laws.proofs.Reading.{Reading, given, signed, taken}
use Rattle.gcx_model.specs.Held.{gives, is_off}
use Rattle.tree_laws.proofs.Lists.{In, In-left, In-right}
use Rattle.tree_laws.proofs.Matches.{Grown, Matches-in}
use Rattle.tree_laws.proofs.Chains.{chain_at, In-flat_map, chain_from}
use Rattle.placed_laws.proofs.Signs.{sig, sig-append}
use Rattle.placed_laws.proofs.PointForms.{body_at}
use Rattle.placed_laws.proofs.Needed.{Own, Before, Itself, Way, Top, Skip, Here, bound_at}
use Rattle.placed_laws.proofs.Stays.{all_from}

pub seq_both : (a b : Out) → (seq a b).done ≡ true → (a.done ≡ true) × (b.done ≡ true)
seq_both a b h = go a.done refl h
  where
    go : (d : Bool) → a.done ≡ d → (seq_if d a b).done ≡ true → (a.done ≡ true) × (b.done ≡ true)
    go true e k = (e, k)
    go false e k = absurd (false≢true (sym e ∙ k))

pub seq_left : (p : OffTree → Bool) (m : ℕ) (a b : Out) → a.done ≡ true → In m (sig p a.acts) → In m (sig p (seq a b).acts)
seq_left p m a b d i = rw d (rw (sig-append p a.acts b.acts) (In-left m (sig p a.acts) (sig p b.acts) i))

pub seq_right : (p : OffTree → Bool) (m : ℕ) (a b : Out) → a.done ≡ true → In m (sig p b.acts) → In m (sig p (seq a b).acts)
seq_right p m a b d i = rw d (rw (sig-append p a.acts b.acts) (In-right m (sig p a.acts) (sig p b.acts) i))

pub loop_has : (p : OffTree → Bool) (m : ℕ) (f : Node → Out) (ns : List Node) (over : Bool) → (loop f ns over).done ≡ true → (n : Node) → In n ns → ((f n).done ≡ true → In m (sig p (f n).acts)) → In m (sig p (loop f ns over).acts)
loop_has p m f [] over d n i h = absurd i
loop_has p m f (x ∷ xs) over d n (inl e) h =
    let q = seq_both (f x) (loop f xs over) d in
    seq_left p m (f x) (loop f xs over) q.0 (subst (λ (z : Node). (f z).done ≡ true → In m (sig p (f z).acts)) (sym e) h q.0)
loop_has p m f (x ∷ xs) over d n (inr i) h =
    let q = seq_both (f x) (loop f xs over) d in
    seq_right p m (f x) (loop f xs over) q.0 (loop_has p m f xs over q.1 n i h)

module _ (P : Tree) (w : Grown P) (p : OffTree → Bool) (b : ℕ) where
  own_signs : (d : BodyTree) (env : Env) → Own p b d → (run d env P).done ≡ true → In (serial_of (env b)) (sig p (run d env P).acts)
  own_signs d env (Before {i = i} {d = rest} a o) h =
      let q = seq_both (run_item i env P) (run rest env P) h in
      seq_right p (serial_of (env b)) (run_item i env P) (run rest env P) q.0 (own_signs rest env o q.1)
  own_signs d env (Itself {o = o} {d = rest} f g a) h =
      seq_left p (serial_of (env b)) (run_item (SignOff o) env P) (run rest env P) refl (rw f (inl (ap (λ x. serial_of (env x)) g)))

  pub way_signs : (y : ℕ) (d : BodyTree) (path : List Step) → Way p b y d path → (env : Env) → (run d env P).done ≡ true → (n : Node) → In n (chain_at P (env y) path) → In (serial_of n) (sig p (run d env P).acts)
  way_signs y d path (Top o) env h n (inl e) = subst (λ (z : Node). In (serial_of z) (sig p (run d env P).acts)) e (own_signs d env o h)
  way_signs y d path (Top o) env h n (inr i) = absurd i
  way_signs y d path (Skip {i = it} {d = rest} {s = s} {path = path'} a wy) env h n i =
      let q = seq_both (run_item it env P) (run rest env P) h in
      seq_right p (serial_of n) (run_item it env P) (run rest env P) q.0 (way_signs y rest (s ∷ path') wy env q.1 n i)
  way_signs y d path (Here {x = x} {s = s} {e = e} {d = rest} {path = path'} wy a) env h n i =
      let q = seq_both (run_item (For x y s e) env P) (run rest env P) h in
      let r = In-flat_map (λ (j : Node). chain_at P j path') n (matches P (serial_of (env y)) (s ∷ [])) i in
      seq_left p (serial_of n) (run_item (For x y s e) env P) (run rest env P) q.0
      (loop_has p (serial_of n) (body_at e x env P) (matches P (serial_of (env y)) (s ∷ [])) (is_closed P (env y)) q.0 r.0 r.1
      (λ d. way_signs x e path' wy (bind_var env x r.0) d n (subst (λ (z : Node). In n (chain_at P z path')) (sym (bound_at P w p b env x r.0)) r.2)))

pub sig_any : (s : OffTree) (m : ℕ) (xs : List Action) → In m (sig (off_eq s) xs) → any (is_off s m) xs ≡ true
sig_any s m [] h = absurd h
sig_any s m (Wrote b ∷ xs) h = sig_any s m xs h
sig_any s m (Offed o n ∷ xs) h = go (off_eq s o) refl (sig_any s m xs) h
  where
    go : (c : Bool) → off_eq s o ≡ c → (In m (sig (off_eq s) xs) → any (is_off s m) xs ≡ true) → In m (cond c (n ∷ sig (off_eq s) xs) (sig (off_eq s) xs)) → ((off_eq s o && eqb n m) || any (is_off s m) xs) ≡ true
    go true e ih (inl f) = or_left _ _ (and_from _ _ e (eq-eqb _ _ f))
    go true e ih (inr i) = or_right _ _ (ih i)
    go false e ih i = or_right _ _ (ih i)

-- The balance law for one role: its row, its statement, and the way to its base
pub balance : (p : Reading) (P : Tree) (w : Grown P) → P.at ≡ None → In Root P.nodes → (n : Node) (r : RoleRowTree) (o : OffTree) → Way (off_eq o) o.base 0 p.body (p.paths o.base) → (run p.body env0 P).done ≡ true → given p P n r ≡ true → taken p P (run p.body env0 P).acts n r o ≡ true
balance p P w over root n r o wy d g =
    and_from _ _ g (all_from (λ (m : Node). not (gives P (serial_of m) o.rel o.tail o.kind n) || signed P (run p.body env0 P).acts o m) (matches P 0 (p.paths o.base)) (λ m i.
    let q = Matches-in P 0 (p.paths o.base) m i in
    or_right _ _
    (sig_any o (serial_of m) (run p.body env0 P).acts
    (way_signs P w (off_eq o) o.base 0 p.body (p.paths o.base) wy env0 d m (chain_from P w Root (p.paths o.base) m root q.0 q.1)))))
