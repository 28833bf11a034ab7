-- On the way to a straight variable each node is signed once.
use Rattle.std.proofs.Common.{◌≡◌, ℕ, Bool, true, false, List, [], ◌∷◌, refl, sym, ◌∙◌, subst, inl, inr}
use Rattle.gcx_model.specs.Tree.{Node, serial_of, Tree, is_closed}
use Rattle.gcx_base.specs.declared.steps.Step.{Step}
use Rattle.gcx_model.specs.Paths.{hits, matches}
use Rattle.gcx_model.specs.Core.{ItemTree, For, SignOff, BodyTree, Then, OffTree}
use Rattle.gcx_model.specs.Truth.{Env, bind_var}
use Rattle.gcx_model.specs.Run.{Out, loop, seq, seq_if, run_item, run}
use Rattle.base_laws.proofs.Members.{none_in}
use Rattle.tree_laws.proofs.Lists.{In}
use Rattle.tree_laws.proofs.Matches.{Grown, Rising-filter, Numbered-same, Matches-in}
use Rattle.tree_laws.proofs.Chains.{chain_at, chain_hits, one_desc, one_way, one_desc_rest, Once, Once-append, Once-rising}
use Rattle.placed_laws.proofs.Signs.{sig, sig-append, sig-loop}
use Rattle.placed_laws.proofs.PointForms.{body_at}
use Rattle.placed_laws.proofs.Needed.{Own, Before, Itself, Way, Top, Skip, Here, quiet, quiet_item, quiet_sig, quiet_item_sig, way_sig, bound_at}

Once-seq : (p : OffTree → Bool) (a b : Out) → Once (sig p a.acts) → Once (sig p b.acts) → ((m : ℕ) → In m (sig p a.acts) → In m (sig p b.acts) → ⊥) → Once (sig p (seq a b).acts)
Once-seq p a b h j d = go a.done
  where
    go : (c : Bool) → Once (sig p (seq_if c a b).acts)
    go true = subst (λ (z : List ℕ). Once z) (sym (sig-append p a.acts b.acts)) (Once-append (sig p a.acts) (sig p b.acts) h j d)
    go false = h

Once-loop : (p : OffTree → Bool) (f : Node → Out) (ns : List Node) (over : Bool) → Once ns → ((n : Node) → In n ns → Once (sig p (f n).acts)) → ((a b : Node) (m : ℕ) → In a ns → In b ns → In m (sig p (f a).acts) → In m (sig p (f b).acts) → a ≡ b) → Once (sig p (loop f ns over).acts)
Once-loop p f [] over o h d = tt
Once-loop p f (n ∷ ns) over o h d =
    Once-seq p (f n) (loop f ns over) (h n (inl refl)) (Once-loop p f ns over o.1 (λ m i. h m (inr i)) (λ a b m i j. d a b m (inr i) (inr j)))
    (λ m i j. let r = sig-loop p m f ns over j in o.0 (subst (λ (z : Node). In z ns) (sym (d n r.0 m (inl refl) (inr r.1) i r.2)) r.1))

module _ (P : Tree) (w : Grown P) (p : OffTree → Bool) (b : ℕ) where
  none_item : (i : ItemTree) (env : Env) → quiet_item p i ≡ true → sig p (run_item i env P).acts ≡ []
  none_item i env q = none_in _ (λ m h. quiet_item_sig P w p b i env m q h)

  Once-none : {X : Type 0} (xs : List X) → xs ≡ [] → Once xs
  Once-none xs e = rw e tt

  -- where an item signs nothing
  Once-skip : (i : ItemTree) (d : BodyTree) (env : Env) → quiet_item p i ≡ true → Once (sig p (run d env P).acts) → Once (sig p (run (Then i d) env P).acts)
  Once-skip i d env q h = Once-seq p (run_item i env P) (run d env P) (Once-none _ (none_item i env q)) h (λ m j k. quiet_item_sig P w p b i env m q j)

  Once-last : (i : ItemTree) (d : BodyTree) (env : Env) → quiet p d ≡ true → Once (sig p (run_item i env P).acts) → Once (sig p (run (Then i d) env P).acts)
  Once-last i d env q h = Once-seq p (run_item i env P) (run d env P) h (Once-none _ (none_in _ (λ m j. quiet_sig P w p b d env m q j))) (λ m j k. quiet_sig P w p b d env m q k)

  own_once : (d : BodyTree) (env : Env) → Own p b d → Once (sig p (run d env P).acts)
  own_once d env (Before {i = i} {d = rest} q o) = Once-skip i rest env q (own_once rest env o)
  own_once d env (Itself {o = o} {d = rest} f g q) = Once-last (SignOff o) rest env q (rw f ((λ j. j), tt))

  pub way_once : (y : ℕ) (d : BodyTree) (path : List Step) → Way p b y d path → (env : Env) → In (env y) P.nodes → one_desc path ≡ true → Once (sig p (run d env P).acts)
  way_once y d path (Top o) env i c = own_once d env o
  way_once y d path (Skip {i = it} {d = rest} {s = s} {path = path'} q wy) env i c = Once-skip it rest env q (way_once y rest (s ∷ path') wy env i c)
  way_once y d path (Here {x = x} {s = s} {e = e} {d = rest} {path = path'} wy q) env i c =
      let ms : List Node = matches P (serial_of (env y)) (s ∷ []) in
      Once-last (For x y s e) rest env q
      (Once-loop p (body_at e x env P) ms (is_closed P (env y))
      (Once-rising _ (Rising-filter 0 (hits (serial_of (env y)) (s ∷ [])) P.nodes w.numbered))
      (λ n j. way_once x e path' wy (bind_var env x n) (subst (λ (z : Node). In z P.nodes) (sym (bound_at P w p b env x n)) (Matches-in P (serial_of (env y)) (s ∷ []) n j).0) (one_desc_rest P w s path' c))
      (λ a a' m ia ib ja jb.
      let qa = way_sig P w p b x e path' wy (bind_var env x a) m ja in
      let qb = way_sig P w p b x e path' wy (bind_var env x a') m jb in
      let ca : In qa.0 (chain_at P a path') = subst (λ (z : Node). In qa.0 (chain_at P z path')) (bound_at P w p b env x a) qa.1 in
      let cb : In qb.0 (chain_at P a' path') = subst (λ (z : Node). In qb.0 (chain_at P z path')) (bound_at P w p b env x a') qb.1 in
      let ha = chain_hits P w a path' qa.0 (Matches-in P (serial_of (env y)) (s ∷ []) a ia).0 ca in
      let hb = chain_hits P w a' path' qb.0 (Matches-in P (serial_of (env y)) (s ∷ []) a' ib).0 cb in
      let same : qa.0 ≡ qb.0 = Numbered-same 0 P.nodes w.numbered qa.0 qb.0 ha.0 hb.0 (sym qa.2 ∙ qb.2) in
      one_way P w (env y) s path' i c a a' qb.0 ia ib (subst (λ (z : Node). In z (chain_at P a path')) same ca) cb))
