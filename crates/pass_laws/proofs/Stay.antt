-- Lists stay, and tell the truth of a comparison.
use Rattle.std.proofs.Common.{◌≡◌, ℕ, Bool, true, false, ◌&&◌, List, map, refl, sym, ◌∙◌, ap, subst}
use Rattle.std.specs.List.{filter}
use Rattle.std.specs.Ordering.{nat_cmp, is_eq}
use Rattle.std.specs.Cmp.Lexicographic.{slice_cmp}
use Rattle.std.specs.declared.cmp.Ordering.TheVariants.{Less, Equal, Greater}
use Rattle.std.specs.declared.cmp.Ordering.{Ordering}
use Rattle.std.proofs.lemmas.Cmp.{nat_list_cmp_total, tied_itself}
use Rattle.std.proofs.lemmas.Map.Lookups.{exact_bytes}
use Rattle.std.proofs.lemmas.Bool.{false_from_ne_true, false≢true}
use Rattle.gcx_base.specs.declared.steps.Step.{Step}
use Rattle.gcx_base.specs.declared.rel.Rel.TheVariants.{Eq}
use Rattle.gcx_model.specs.Tree.{Node, serial_of, Tree, opening, is_closed}
use Rattle.gcx_model.specs.Paths.{any, matches, value}
use Rattle.gcx_model.specs.Members.{In}
use Rattle.gcx_model.specs.Growth.{Leads, stays}
use Rattle.gcx_model.specs.Values.{ComparedValue, Bytes, compare}
use Rattle.gcx_model.specs.Answer.{some_pair}
use Rattle.gcx_model.specs.Core.{Path}
use Rattle.gcx_model.specs.Truth.{Env, node_value, settled_values, settle}
use Rattle.base_laws.proofs.Members.{in_map, from_map}
use Rattle.tree_laws.proofs.Lists.{In-filter, In-kept, any_in, any_from}
use Rattle.tree_laws.proofs.Matches.{Grown, Numbered-same, Matches-in}
use Rattle.tree_laws.proofs.Freeze.{closed_below, hits_within}
use Rattle.move_laws.proofs.Keeping.{closed_stays}
use Rattle.tree_laws.proofs.Fed.{grown_from, nodes_stay}
use Rattle.tree_laws.proofs.Growing.{fed_all}
use Rattle.pass_laws.specs.ValueLists.{IsValueAt, IsListOf, ListsStay, IsFoundIn, BothCome, ListsTell}

module _ (P Q : Tree) (lo : Leads opening P) (l : Leads P Q) where
  grown : Grown P
  grown = grown_from P lo

  stays_in : (n : Node) → In n P.nodes → In n Q.nodes
  stays_in n i = let f = fed_all P Q l in subst (λ (t : Tree). In n t.nodes) (sym f.2) (nodes_stay f.0 P n i)

  match_closed : (n m : Node) (steps : List Step) → is_closed P n ≡ true → In m (matches P (serial_of n) steps) → In m P.nodes × (is_closed P m ≡ true)
  match_closed n m steps c i =
      let q = Matches-in P (serial_of n) steps m i in
      (q.0, closed_below P grown n m q.0 (hits_within (serial_of n) steps m q.1) c)

  pub list_stays : (steps : List Step) (of : ℕ) (vs : List (List ℕ)) → IsListOf P steps of vs → IsListOf Q steps of vs
  list_stays steps of vs k =
      let c = closed_stays P Q lo l k.node k.among k.closed in
      record {
        node = k.node;
        among = stays_in k.node k.among;
        serial = k.serial;
        closed = c.0;
        values = λ v. (
          (λ i.
              let r = (k.values v).0 i in
              let m = match_closed k.node r.0 steps k.closed r.1 in
              let d = closed_stays P Q lo l r.0 m.0 m.1 in
              (r.0, subst (λ (ns : List Node). In r.0 ns) (sym (c.1 steps)) r.1, d.2 ∙ r.2)),
          (λ r.
              let i = subst (λ (ns : List Node). In r.0 ns) (c.1 steps) r.1 in
              let m = match_closed k.node r.0 steps k.closed i in
              let d = closed_stays P Q lo l r.0 m.0 m.1 in
              (k.values v).1 (r.0, i, sym d.2 ∙ r.2)),
        );
      }

pub lists_stay : ListsStay
lists_stay P Q lo l = list_stays P Q lo l

-- ---- the truth

equal_same : (v : List ℕ) → compare Eq (Bytes v) (Bytes v) ≡ true
equal_same v = ap is_eq (tied_itself nat_list_cmp_total v)

same_equal : (v w : List ℕ) → compare Eq (Bytes v) (Bytes w) ≡ true → v ≡ w
same_equal v w e = exact_bytes v w (is_equal (slice_cmp nat_cmp v w) e)
  where
    is_equal : (o : Ordering) → is_eq o ≡ true → o ≡ Equal
    is_equal Less h = absurd (false≢true h)
    is_equal Equal h = refl
    is_equal Greater h = absurd (false≢true h)

-- a value that both lists have
pair_of : (v : List ℕ) (vs ws : List ComparedValue) → In (Bytes v) vs → In (Bytes v) ws → some_pair (compare Eq) vs ws ≡ true
pair_of v vs ws i j = any_from (λ (u : ComparedValue). any (compare Eq u) ws) (Bytes v) vs i (any_from (compare Eq (Bytes v)) (Bytes v) ws j (equal_same v))

of_pair : (P : Tree) (ns ms : List Node) → some_pair (compare Eq) (map (node_value P) ns) (map (node_value P) ms) ≡ true → (n m : Node) × In n ns × In m ms × (value P n ≡ value P m)
of_pair P ns ms e =
    let a = any_in (λ (u : ComparedValue). any (compare Eq u) (map (node_value P) ms)) (map (node_value P) ns) e in
    let b = any_in (compare Eq a.0) (map (node_value P) ms) a.2 in
    let n = from_map (node_value P) a.0 ns a.1 in
    let m = from_map (node_value P) b.0 ms b.1 in
    let h : compare Eq (Bytes (value P n.0)) (Bytes (value P m.0)) ≡ true = ap (λ (u : ComparedValue). compare Eq u (Bytes (value P m.0))) n.2 ∙ (ap (compare Eq a.0) m.2 ∙ b.2) in
    (n.0, m.0, n.1, m.1, same_equal (value P n.0) (value P m.0) h)

module _ (P : Tree) (lo : Leads opening P) (env : Env) (x y : ℕ) (outer inner : List Step) (vs : List (List ℕ)) (ix : In (env x) P.nodes) (iy : In (env y) P.nodes) (k : IsListOf P outer (serial_of (env x)) vs) where
  abbrev lefts : List ComparedValue
  lefts = settled_values P env (Path x outer)

  abbrev rights : List ComparedValue
  rights = settled_values P env (Path y inner)

  is_node : k.node ≡ env x
  is_node = Numbered-same 0 P.nodes (grown_from P lo).numbered k.node (env x) k.among ix k.serial

  closed_outer : is_closed P (env x) ≡ true
  closed_outer = subst (λ (n : Node). is_closed P n ≡ true) is_node k.closed

  abbrev outer_closed : List Node
  outer_closed = filter (is_closed P) (matches P (serial_of (env x)) outer)

  abbrev inner_closed : List Node
  inner_closed = filter (is_closed P) (matches P (serial_of (env y)) inner)

  over : (is_closed P (env x) && is_closed P (env y)) ≡ is_closed P (env y)
  over = ap (λ z. z && is_closed P (env y)) closed_outer

  over_too : (a b : Bool) → a ≡ true → (b && a) ≡ b
  over_too a true e = e
  over_too a false e = refl

  told : (b : Bool) → some_pair (compare Eq) lefts rights ≡ b → some_pair (compare Eq) rights lefts ≡ b → BothCome P env x y outer inner b
  told b e f = (
    ap (λ z. settle z (is_closed P (env x) && is_closed P (env y))) e ∙ ap (settle b) over,
    ap (λ z. settle z (is_closed P (env y) && is_closed P (env x))) f ∙ ap (settle b) (over_too (is_closed P (env x)) (is_closed P (env y)) closed_outer),
  )

  -- a value that is found is one of both
  shared : IsFoundIn P (env y) inner vs → (v : List ℕ) × In (Bytes v) lefts × In (Bytes v) rights
  shared (m, i, c, h) =
      let v = subst (λ (n : Node). IsValueAt P n outer (value P m)) is_node ((k.values (value P m)).0 h) in
      let n = match_closed P P lo (stays) (env x) v.0 outer closed_outer v.1 in (
        value P m,
        subst (λ (w : List ℕ). In (Bytes w) lefts) v.2 (in_map (node_value P) v.0 outer_closed (In-kept (is_closed P) v.0 (matches P (serial_of (env x)) outer) v.1 n.1)),
        in_map (node_value P) m inner_closed (In-kept (is_closed P) m (matches P (serial_of (env y)) inner) i c),
      )

  found : IsFoundIn P (env y) inner vs → BothCome P env x y outer inner true
  found f = let s = shared f in told true (pair_of s.0 lefts rights s.1 s.2) (pair_of s.0 rights lefts s.2 s.1)

  lost : (n m : Node) → In n outer_closed → In m inner_closed → value P n ≡ value P m → IsFoundIn P (env y) inner vs
  lost n m a b e =
      let i = In-filter (is_closed P) n (matches P (serial_of (env x)) outer) a in
      let j = In-filter (is_closed P) m (matches P (serial_of (env y)) inner) b in
      (m, j.0, j.1, (k.values (value P m)).1 (subst (λ (z : Node). IsValueAt P z outer (value P m)) (sym is_node) (n, i.0, e)))

  not_found : (IsFoundIn P (env y) inner vs → ⊥) → BothCome P env x y outer inner false
  not_found f = told false
      (false_from_ne_true _ (λ e. let (n, m, a, b, s) = of_pair P outer_closed inner_closed e in f (lost n m a b s)))
      (false_from_ne_true _ (λ e. let (m, n, b, a, s) = of_pair P inner_closed outer_closed e in f (lost n m a b (sym s))))

pub lists_tell : ListsTell
lists_tell P lo env x y outer inner vs ix iy k = (found P lo env x y outer inner vs ix iy k, not_found P lo env x y outer inner vs ix iy k)
