-- Where P grows, the actions only go on.
use Rattle.std.proofs.Common.{◌≡◌, ℕ, zero, suc, ◌<◌, ◌≤◌, Bool, true, false, cond, List, [], ◌∷◌, ◌++◌, length, refl, sym, ◌∙◌, ap, subst, inl, inr, arith, append_assoc, eqb, map}
use Rattle.std.specs.List.{filter}
use Rattle.std.proofs.lemmas.List.{append-nil, length-append}
use Rattle.std.proofs.lemmas.Bool.{and_parts, and_from, false≢true}
use Rattle.gcx_base.specs.declared.kind.Kind.{Kind}
use Rattle.gcx_base.specs.declared.kind.Kind.TheVariants.{Document, Element, Text}
use Rattle.gcx_model.specs.Tree.{Node, serial_of, kind_of, Tree, TreeToken, grow, is_closed}
use Rattle.gcx_model.specs.Paths.{any, hits, matches}
use Rattle.gcx_base.specs.declared.steps.Step.{Step}
use Rattle.gcx_model.specs.Values.{ComparedValue, Bytes, compare}
use Rattle.gcx_model.specs.Core.{CondTree, Always, Exists, Compare, Not, AllOf, AnyOf, CondTrees, no_cond, more_conds, OperandTree, Path, Str, Num, ItemTree, Write, Copy, For, If, SignOff, BodyTree, Nil, Then}
use Rattle.gcx_model.specs.declared.truth.Truth.{Truth}
use Rattle.gcx_model.specs.declared.truth.Truth.TheVariants.{True, False, Unknown}
use Rattle.gcx_model.specs.Truth.{node_value, Env, bind_var, settled_values, is_over, settle, negate, both, either, truth, truth_all, truth_any}
use Rattle.gcx_model.specs.Answer.{some_pair, is_any, child_step}
use Rattle.gcx_model.specs.Run.{Action, Out, wrote, idle, seq, seq_if, loop, copy_with, copy, choose, run_item, run}
use Rattle.gcx_model.specs.Written.{start_tag, end_tag}
use Rattle.tree_laws.proofs.Lists.{In, In-left, In-filter, In-kept, any_in, any_from, filter_same}
use Rattle.tree_laws.proofs.Matches.{Grown, Numbered-high, added, Matches-grow, Matches-in, grow_nodes}
use Rattle.tree_laws.proofs.Freeze.{stays_closed, Matches-closed, value_closed, closed_below, hits_within}

-- b is a, or goes on behind it
pub data Before (a b : Out) : Type 0 where
  Same : a ≡ b → Before a b
  More : a.done ≡ false → (rest : List Action) → b.acts ≡ a.acts ++ rest → Before a b

pub Before-refl : (a : Out) → Before a a
Before-refl a = Same refl

pub Before-trans : (a b c : Out) → Before a b → Before b c → Before a c
Before-trans a b c (Same e) k = subst (λ (x : Out). Before x c) (sym e) k
Before-trans a b c (More d r e) (Same f) = More d r (ap (λ (x : Out). x.acts) (sym f) ∙ e)
Before-trans a b c (More d r e) (More d' r' e') = More d (r ++ r') (e' ∙ (ap (λ x. x ++ r') e ∙ append_assoc a.acts r r'))

pub idle_before : (b : Out) → Before (idle false) b
idle_before b = More refl b.acts refl

pub seq_wait : (a b : Out) → a.done ≡ false → seq a b ≡ a
seq_wait a b e = rw e refl

seq_right : (a b b' : Out) (d : Bool) → Before b b' → Before (seq_if d a b) (seq_if d a b')
seq_right a b b' true (Same e) = Same (ap (seq_if true a) e)
seq_right a b b' true (More d r e) = More d r (ap (λ x. a.acts ++ x) e ∙ sym (append_assoc a.acts b.acts r))
seq_right a b b' false h = Same refl

seq_goes : (a' b' : Out) (d : Bool) → (rest : List Action) × ((seq_if d a' b').acts ≡ a'.acts ++ rest)
seq_goes a' b' true = (b'.acts, refl)
seq_goes a' b' false = ([], sym (append-nil a'.acts))

pub seq_mono : (a a' b b' : Out) → Before a a' → Before b b' → Before (seq a b) (seq a' b')
seq_mono a a' b b' (Same e) h = subst (λ (x : Out). Before (seq a b) (seq x b')) e (seq_right a b b' a.done h)
seq_mono a a' b b' (More d r e) h =
    let g = seq_goes a' b' a'.done in
    subst (λ (x : Out). Before x (seq a' b')) (sym (seq_wait a b d))
    (More d (r ++ g.0) (g.1 ∙ (ap (λ x. x ++ g.0) e ∙ append_assoc a.acts r g.0)))

-- a loop goes on where its bodies do and further rounds come, none once it is over
pub loop_mono : (f g : Node → Out) (ns more : List Node) (over over' : Bool) → ((n : Node) → In n ns → Before (f n) (g n)) → (over ≡ true → (more ≡ []) × (over' ≡ true)) → Before (loop f ns over) (loop g (ns ++ more) over')
loop_mono f g [] more true over' h c = let r = c refl in Same (sym (rw (r.0, r.1) refl))
loop_mono f g [] more false over' h c = idle_before (loop g more over')
loop_mono f g (n ∷ ns) more over over' h c = seq_mono (f n) (g n) (loop f ns over) (loop g (ns ++ more) over') (h n (inl refl)) (loop_mono f g ns more over over' (λ m i. h m (inr i)) c)

-- what is known stays
pub data Firmer (a b : Truth) : Type 0 where
  Kept : a ≡ b → Firmer a b
  Learnt : a ≡ Unknown → Firmer a b

negate_firmer : (a b : Truth) → Firmer a b → Firmer (negate a) (negate b)
negate_firmer a b (Kept e) = Kept (ap negate e)
negate_firmer a b (Learnt e) = Learnt (ap negate e)

both_firmer : (a a' b b' : Truth) → Firmer a a' → Firmer b b' → Firmer (both a b) (both a' b')
both_firmer a a' b b' (Kept e) h = subst (λ (x : Truth). Firmer (both a b) (both x b')) e (go a h)
  where
    go : (k : Truth) → Firmer b b' → Firmer (both k b) (both k b')
    go True j = j
    go False j = Kept refl
    go Unknown j = Kept refl
both_firmer a a' b b' (Learnt e) h = Learnt (ap (λ x. both x b) e)

either_firmer : (a a' b b' : Truth) → Firmer a a' → Firmer b b' → Firmer (either a b) (either a' b')
either_firmer a a' b b' (Kept e) h = subst (λ (x : Truth). Firmer (either a b) (either x b')) e (go a h)
  where
    go : (k : Truth) → Firmer b b' → Firmer (either k b) (either k b')
    go True j = Kept refl
    go False j = j
    go Unknown j = Kept refl
either_firmer a a' b b' (Learnt e) h = Learnt (ap (λ x. either x b) e)

settle_firmer : (x x' o o' : Bool) → (x ≡ true → x' ≡ true) → (o ≡ true → (x ≡ x') × (o' ≡ true)) → Firmer (settle x o) (settle x' o')
settle_firmer true x' o o' h c = Kept (sym (rw (h refl) refl))
settle_firmer false x' true o' h c = let r = c refl in Kept (sym (rw (sym r.0, r.1) refl))
settle_firmer false x' false o' h c = Learnt refl

choose_mono : (k k' : Truth) (a a' b b' : Out) → Firmer k k' → Before a a' → Before b b' → Before (choose k a b) (choose k' a' b')
choose_mono k k' a a' b b' (Kept e) h j = subst (λ (x : Truth). Before (choose k a b) (choose x a' b')) e (go k)
  where
    go : (x : Truth) → Before (choose x a b) (choose x a' b')
    go True = h
    go False = j
    go Unknown = Same refl
choose_mono k k' a a' b b' (Learnt e) h j = subst (λ (x : Truth). Before (choose x a b) (choose k' a' b')) (sym e) (idle_before _)

module _ (t : TreeToken) (P : Tree) (w : Grown P) where
  -- bound to nodes of P
  abbrev pub Bound : Env → Type 0
  Bound env = (x : ℕ) → serial_of (env x) < length P.nodes

  pub Bound-bind : (env : Env) (x : ℕ) (n : Node) → Bound env → In n P.nodes → Bound (bind_var env x n)
  Bound-bind env x n h i y = go (eqb y x)
    where
      go : (b : Bool) → serial_of (cond b n (env y)) < length P.nodes
      go true = let r = Numbered-high 0 P.nodes w.numbered n i in omega arith
      go false = h y

  low : (n : ℕ) (path : List Step) (m : Node) → In m (matches P n path) → serial_of m < length P.nodes
  low n path m i = let r = Numbered-high 0 P.nodes w.numbered m (Matches-in P n path m i).0 in omega arith

  -- the loop over the matches at a node
  loop_grows : (f g : Node → Out) (n : Node) (path : List Step) → serial_of n < length P.nodes → ((m : Node) → In m (matches P (serial_of n) path) → Before (f m) (g m)) → Before (loop f (matches P (serial_of n) path) (is_closed P n)) (loop g (matches (grow t P) (serial_of n) path) (is_closed (grow t P) n))
  loop_grows f g n path l h =
      rw (Matches-grow t P (serial_of n) path)
      (loop_mono f g (matches P (serial_of n) path) (filter (hits (serial_of n) path) (added t P)) (is_closed P n) (is_closed (grow t P) n) h
      (λ c. (none c, stays_closed t P n l c)))
    where
      none : is_closed P n ≡ true → filter (hits (serial_of n) path) (added t P) ≡ []
      none c = same_front (matches P (serial_of n) path) _ (sym (Matches-grow t P (serial_of n) path) ∙ Matches-closed t P n path l c)
        where
          same_front : (xs ys : List Node) → xs ++ ys ≡ xs → ys ≡ []
          same_front [] ys e = e
          same_front (x ∷ xs) ys e = same_front xs ys (cc)

  copy_with_mono : (k : Kind) (a b : Out) → Before a b → Before (copy_with k a) (copy_with k b)
  copy_with_mono Document a b h = h
  copy_with_mono (Element name) a b h = seq_mono (wrote (start_tag name)) (wrote (start_tag name)) _ _ (Same refl) (seq_mono a b (wrote (end_tag name)) (wrote (end_tag name)) h (Same refl))
  copy_with_mono (Text b) a b' h = Same refl

  copy_grows : (k k' : ℕ) (n : Node) → k ≤ k' → serial_of n < length P.nodes → Before (copy k P n) (copy k' (grow t P) n)
  copy_grows zero k' n l b = idle_before _
  copy_grows (suc k) zero n l b = absurd (omega arith)
  copy_grows (suc k) (suc k') n l b = copy_with_mono (kind_of n) _ _ (loop_grows (copy k P) (copy k' (grow t P)) n (child_step ∷ []) b (λ m i. copy_grows k k' m (omega arith) (low (serial_of n) (child_step ∷ []) m i)))

  In-map : {X Y : Type 0} (f : X → Y) (v : Y) (xs : List X) → In v (map f xs) → (m : X) × In m xs × (f m ≡ v)
  In-map f v [] h = absurd h
  In-map f v (x ∷ xs) (inl e) = (x, inl refl, e)
  In-map f v (x ∷ xs) (inr h) = let r = In-map f v xs h in (r.0, inr r.1, r.2)

  In-map_from : {X Y : Type 0} (f : X → Y) (v : Y) (m : X) (xs : List X) → In m xs → f m ≡ v → In v (map f xs)
  In-map_from f v m [] h e = absurd h
  In-map_from f v m (x ∷ xs) (inl g) e = inl (ap f g ∙ e)
  In-map_from f v m (x ∷ xs) (inr h) e = inr (In-map_from f v m xs h e)

  map_same : {X Y : Type 0} (f g : X → Y) (xs : List X) → ((x : X) → In x xs → f x ≡ g x) → map f xs ≡ map g xs
  map_same f g [] h = refl
  map_same f g (x ∷ xs) h = rw (h x (inl refl), map_same f g xs (λ y i. h y (inr i))) refl

  values_more : (env : Env) → Bound env → (o : OperandTree) (v : ComparedValue) → In v (settled_values P env o) → In v (settled_values (grow t P) env o)
  values_more env b (Path x tail) v h =
      let r = In-map (node_value P) v (filter (is_closed P) (matches P (serial_of (env x)) tail)) h in
      let q = In-filter (is_closed P) r.0 (matches P (serial_of (env x)) tail) r.1 in
      let l = low (serial_of (env x)) tail r.0 q.0 in
      In-map_from (node_value (grow t P)) v r.0 _
      (In-kept (is_closed (grow t P)) r.0 (matches (grow t P) (serial_of (env x)) tail)
      (rw (Matches-grow t P (serial_of (env x)) tail) (In-left r.0 (matches P (serial_of (env x)) tail) _ q.0))
      (stays_closed t P r.0 l q.1))
      (ap Bytes (value_closed t P r.0 l q.1) ∙ r.2)
  values_more env b (Str s) v h = h
  values_more env b (Num l) v h = h

  values_final : (env : Env) → Bound env → (o : OperandTree) → is_over P env o ≡ true → settled_values (grow t P) env o ≡ settled_values P env o
  values_final env b (Path x tail) c =
      let n : ℕ = serial_of (env x) in
      let all_closed : (m : Node) → In m (matches P n tail) → is_closed P m ≡ true = λ m i.
      let q = Matches-in P n tail m i in closed_below P w (env x) m q.0 (hits_within n tail m q.1) c in
      ap (λ ms. map (node_value (grow t P)) (filter (is_closed (grow t P)) ms)) (Matches-closed t P (env x) tail (b x) c)
      ∙ (ap (map (node_value (grow t P))) (filter_same (is_closed (grow t P)) (is_closed P) (matches P n tail)
      (λ m i. stays_closed t P m (low n tail m i) (all_closed m i) ∙ sym (all_closed m i)))
      ∙ map_same (node_value (grow t P)) (node_value P) (filter (is_closed P) (matches P n tail))
      (λ m i. let q = In-filter (is_closed P) m (matches P n tail) i in ap Bytes (value_closed t P m (low n tail m q.0) q.1)))
  values_final env b (Str s) c = refl
  values_final env b (Num l) c = refl

  over_stays : (env : Env) → Bound env → (o : OperandTree) → is_over P env o ≡ true → is_over (grow t P) env o ≡ true
  over_stays env b (Path x tail) c = stays_closed t P (env x) (b x) c
  over_stays env b (Str s) c = refl
  over_stays env b (Num l) c = refl

  pair_more : (r : ComparedValue → ComparedValue → Bool) (vs vs' ws ws' : List ComparedValue) → ((v : ComparedValue) → In v vs → In v vs') → ((v : ComparedValue) → In v ws → In v ws') → some_pair r vs ws ≡ true → some_pair r vs' ws' ≡ true
  pair_more r vs vs' ws ws' h j e =
      let p = any_in (λ (v : ComparedValue). any (r v) ws) vs e in
      let q = any_in (r p.0) ws p.2 in
      any_from (λ (v : ComparedValue). any (r v) ws') p.0 vs' (h p.0 p.1) (any_from (r p.0) q.0 ws' (j q.0 q.1) q.2)

  any_more : {X : Type 0} (xs ys : List X) → is_any xs ≡ true → is_any (xs ++ ys) ≡ true
  any_more [] ys e = absurd (false≢true e)
  any_more (x ∷ xs) ys e = refl

  mutual
    pub truth_firmer : (c : CondTree) (env : Env) → Bound env → Firmer (truth c env P) (truth c env (grow t P))
    truth_firmer Always env b = Kept refl
    truth_firmer (Exists x tail) env b =
        let n : ℕ = serial_of (env x) in
        settle_firmer _ _ _ _
        (λ e. rw (Matches-grow t P n tail) (any_more (matches P n tail) _ e))
        (λ c. (ap is_any (sym (Matches-closed t P (env x) tail (b x) c)), stays_closed t P (env x) (b x) c))
    truth_firmer (Compare l r s) env b =
        settle_firmer _ _ _ _
        (pair_more (compare r) _ _ _ _ (values_more env b l) (values_more env b s))
        (λ c. let d = and_parts (is_over P env l) (is_over P env s) c in (
          rw (values_final env b l d.0, values_final env b s d.1) refl,
          and_from _ _ (over_stays env b l d.0) (over_stays env b s d.1),
        ))
    truth_firmer (Not c) env b = negate_firmer _ _ (truth_firmer c env b)
    truth_firmer (AllOf cs) env b = all_firmer cs env b
    truth_firmer (AnyOf cs) env b = any_firmer cs env b

    all_firmer : (cs : CondTrees) (env : Env) → Bound env → Firmer (truth_all cs env P) (truth_all cs env (grow t P))
    all_firmer no_cond env b = Kept refl
    all_firmer (more_conds c cs) env b = both_firmer _ _ _ _ (truth_firmer c env b) (all_firmer cs env b)

    any_firmer : (cs : CondTrees) (env : Env) → Bound env → Firmer (truth_any cs env P) (truth_any cs env (grow t P))
    any_firmer no_cond env b = Kept refl
    any_firmer (more_conds c cs) env b = either_firmer _ _ _ _ (truth_firmer c env b) (any_firmer cs env b)

  more_nodes : length P.nodes ≤ length (grow t P).nodes
  more_nodes = rw (grow_nodes t P, length-append) (omega arith)

  mutual
    pub item_grows : (i : ItemTree) (env : Env) → Bound env → Before (run_item i env P) (run_item i env (grow t P))
    item_grows (Write s) env b = Same refl
    item_grows (Copy x) env b = copy_grows (length P.nodes) (length (grow t P).nodes) (env x) more_nodes (b x)
    item_grows (For x y s d) env b =
        loop_grows (λ n. run d (bind_var env x n) P) (λ n. run d (bind_var env x n) (grow t P)) (env y) (s ∷ []) (b y)
        (λ m i. run_grows d (bind_var env x m) (Bound-bind env x m b (Matches-in P (serial_of (env y)) (s ∷ []) m i).0))
    item_grows (If c d e) env b = choose_mono _ _ _ _ _ _ (truth_firmer c env b) (run_grows d env b) (run_grows e env b)
    item_grows (SignOff o) env b = Same refl

    pub run_grows : (d : BodyTree) (env : Env) → Bound env → Before (run d env P) (run d env (grow t P))
    run_grows Nil env b = Same refl
    run_grows (Then i d) env b = seq_mono _ _ _ _ (item_grows i env b) (run_grows d env b)
