-- The values of the nodes of a set, and look-ups of them.
use Rattle.std.proofs.Common.{◌≡◌, ◌+◌, ◌<◌, ◌≤◌, ◌↔◌, ℕ, Bool, true, List, [], ◌∷◌, ◌++◌, map, take, length, get_or, refl, sym, ◌∙◌, ap, subst, inl, inr, arith}
use Rattle.std.specs.List.{filter}
use Rattle.std.proofs.lemmas.List.{take_all}
use Rattle.gcx_base.specs.declared.steps.Step.{Step}
use Rattle.gcx_model.specs.Tree.{Node, serial_of, Tree, is_closed}
use Rattle.gcx_model.specs.Paths.{matches, value}
use Rattle.gcx_model.specs.Members.{In}
use Rattle.base_laws.proofs.Members.{in_map}
use Rattle.tree_laws.proofs.Lists.{In-filter, In-kept}
use Rattle.tree_laws.proofs.Freeze.{closed_below, hits_within}
use Rattle.tree_laws.proofs.Matches.{Grown, Matches-in}
use Rattle.pass_laws.specs.ValueLists.{IsValueAt}
use Rattle.buf_tree.specs.Shape.{Cell}
use Rattle.cond_eval.specs.Reads.{IsValue}
use Rattle.cond_eval.specs.Comparing.{AreClosed, Readable}
use Rattle.cond_eval.specs.declared.sets.Member.{Member}
use Rattle.cond_eval.proofs.Comparisons.{closed_read, read_at, same_length}
use Rattle.cond_eval.proofs.Rows.{grown_tree}
use Rattle.join_index.specs.Lookups.{AreValues, ListsAt}

map-last : {X Y : Type 0} (f : X → Y) (xs : List X) (y : X) → map f (xs ++ y ∷ []) ≡ map f xs ++ f y ∷ []
map-last f [] y = refl
map-last f (x ∷ xs) y = ap (λ l. f x ∷ l) (map-last f xs y)

from_map : {X Y : Type 0} (f : X → Y) (v : Y) (xs : List X) → In v (map f xs) → (m : X) × In m xs × (f m ≡ v)
from_map f v [] i = absurd i
from_map f v (x ∷ xs) (inl e) = (x, inl refl, e)
from_map f v (x ∷ xs) (inr i) = let r = from_map f v xs i in (r.0, inr r.1, r.2)

-- the values of the first members
abbrev pub ValuesOf : List Cell → List Member → (seen : ℕ) → List (List ℕ) → Type 0
ValuesOf rows ms i vs = (P : Tree) (keep : Node → Bool) (ns : List Node) → Readable rows P keep ms ns → vs ≡ map (value P) (take i ns)

pub values_none : (rows : List Cell) (ms : List Member) (vs : List (List ℕ)) → vs ≡ [] → ValuesOf rows ms 0 vs
values_none rows ms vs e P keep ns r = e

module _ (rows : List Cell) (ms : List Member) (i : ℕ) where
  pub values_all : (vs : List (List ℕ)) → length ms ≤ i → ValuesOf rows ms i vs → AreValues rows ms vs
  values_all vs h on P keep ns r =
      let same = same_length ms ns r.nodes.serials in
      on P keep ns r ∙ ap (map (value P)) (take_all i ns (omega arith))

  module _ (d : Member) (h : i < length ms) (v : List ℕ) (is : IsValue rows (get_or ms i d).place v) where
    pub values_more : (vs now : List (List ℕ)) → ValuesOf rows ms i vs → now ≡ vs ++ v ∷ [] → ValuesOf rows ms (i + 1) now
    values_more vs now on e P keep ns r =
        let t = read_at rows P keep ms ns i d r h in
        let n = t.turn.node in
        e ∙ (ap (λ l. l ++ v ∷ []) (on P keep ns r) ∙ (ap (λ w. map (value P) (take i ns) ++ w ∷ []) (is P keep n t.at t.whole)
        ∙ (sym (map-last (value P) (take i ns) n) ∙ sym (ap (map (value P)) t.turn.taken))))

-- the matches of a closed node are closed
match_closed : (P : Tree) → Grown P → (n m : Node) (steps : List Step) → is_closed P n ≡ true → In m (matches P (serial_of n) steps) → is_closed P m ≡ true
match_closed P grown n m steps c i = let q = Matches-in P (serial_of n) steps m i in closed_below P grown n m q.0 (hits_within (serial_of n) steps m q.1) c

module _ (rows : List Cell) (p : ℕ) (steps : List Step) (set : List Member) (closed : AreClosed rows p steps set) where
  -- the list of all values
  pub lists_at : (texts vs : List (List ℕ)) → AreValues rows set texts → ((w : List ℕ) → In w vs ↔ In w texts) → ListsAt rows p steps vs
  lists_at texts vs are same P keep n at kept shut = record {
    node = n;
    among = at.among;
    serial = refl;
    closed = shut;
    values = λ v. (there v, back v);
  }
    where
      ms : List Node
      ms = filter (is_closed P) (matches P (serial_of n) steps)

      all : texts ≡ map (value P) ms
      all = are P keep ms (closed_read rows p steps set closed P keep n at kept)

      there : (v : List ℕ) → In v vs → IsValueAt P n steps v
      there v i =
          let m = from_map (value P) v ms (subst (λ (z : List (List ℕ)). In v z) all ((same v).0 i)) in
          (m.0, (In-filter (is_closed P) m.0 (matches P (serial_of n) steps) m.1).0, m.2)

      back : (v : List ℕ) → IsValueAt P n steps v → In v vs
      back v m =
          let c = match_closed P (grown_tree rows P keep at.rows_of) n m.0 steps shut m.1 in
          let i = in_map (value P) m.0 ms (In-kept (is_closed P) m.0 (matches P (serial_of n) steps) m.1 c) in
          (same v).1 (subst (λ (z : List (List ℕ)). In v z) (sym all) (subst (λ (w : List ℕ). In w (map (value P) ms)) m.2 i))
