-- The values of two sets of nodes, taken by a comparison, and whether some pair of them satisfies it.
use Rattle.std.proofs.Common.{◌≡◌, ◌↔◌, ℕ, ◌+◌, ◌<◌, ◌≤◌, Bool, true, false, List, [], ◌∷◌, ◌++◌, map, length, get_or, take, refl, sym, ◌∙◌, ap, subst, inl, inr, arith}
use Rattle.std.proofs.lemmas.Bool.{false_from_ne_true, false≢true}
use Rattle.std.proofs.lemmas.List.{take_all}
use Rattle.gcx_base.specs.declared.rel.Rel.{Rel}
use Rattle.gcx_model.specs.Tree.{Node, Tree}
use Rattle.gcx_model.specs.Paths.{any, value}
use Rattle.gcx_model.specs.Members.{In}
use Rattle.gcx_model.specs.Values.{ComparedValue, Bytes, compare}
use Rattle.gcx_model.specs.Answer.{some_pair}
use Rattle.gcx_model.specs.Truth.{node_value}
use Rattle.base_laws.proofs.Members.{in_map, from_map}
use Rattle.tree_laws.proofs.Lists.{In-left, In-right, In-append, any_in, any_from}
use Rattle.value_pairs.specs.Pairs.{SomePair}
use Rattle.value_pairs.specs.Taken.{TookBoth, TookBy}
use Rattle.value_pairs.specs.declared.hand.Hand.{Hand}
use Rattle.value_pairs.specs.declared.hand.Hand.TheVariants.{Left, Right}
use Rattle.value_pairs.specs.declared.compared.Compared.{Compared}
use Rattle.buf_tree.specs.Shape.{Cell}
use Rattle.cond_eval.specs.Reads.{IsValue}
use Rattle.cond_eval.specs.Comparing.{Readable, TakesValues, TellsPair}
use Rattle.cond_eval.specs.declared.sets.Member.{Member}
use Rattle.cond_eval.proofs.Comparisons.{any_empty, map-last, no_nodes, read_at, same_length}

-- ---- the pairs of values are those of the nodes

module _ (P : Tree) (ns ms : List Node) (rel : Rel) (ls rs : List (List ℕ)) where
  pub some_pair_from : ((v : List ℕ) → In v ls → (j : Node) × In j ns × (value P j ≡ v)) → ((v : List ℕ) → In v rs → (j : Node) × In j ms × (value P j ≡ v)) → SomePair rel ls rs
      → some_pair (compare rel) (map (node_value P) ns) (map (node_value P) ms) ≡ true
  some_pair_from left right p =
      let x = left p.one p.of_left in
      let y = right p.other p.of_right in
      let i : In (Bytes p.one) (map (node_value P) ns) = subst (λ (v : List ℕ). In (Bytes v) (map (node_value P) ns)) x.2 (in_map (node_value P) x.0 ns x.1) in
      let j : In (Bytes p.other) (map (node_value P) ms) = subst (λ (v : List ℕ). In (Bytes v) (map (node_value P) ms)) y.2 (in_map (node_value P) y.0 ms y.1) in
      any_from (λ (v : ComparedValue). any (compare rel v) (map (node_value P) ms)) (Bytes p.one) (map (node_value P) ns) i (any_from (compare rel (Bytes p.one)) (Bytes p.other) (map (node_value P) ms) j p.holds)

  pub some_pair_to : ((j : Node) → In j ns → In (value P j) ls) → ((j : Node) → In j ms → In (value P j) rs) → some_pair (compare rel) (map (node_value P) ns) (map (node_value P) ms) ≡ true → SomePair rel ls rs
  some_pair_to left right e =
      let a = any_in (λ (v : ComparedValue). any (compare rel v) (map (node_value P) ms)) (map (node_value P) ns) e in
      let b = any_in (compare rel a.0) (map (node_value P) ms) a.2 in
      let x = from_map (node_value P) a.0 ns a.1 in
      let y = from_map (node_value P) b.0 ms b.1 in
      record {
        one = value P x.0;
        other = value P y.0;
        of_left = left x.0 x.1;
        of_right = right y.0 y.1;
        holds = ap (λ (v : ComparedValue). compare rel v (Bytes (value P y.0))) x.2 ∙ (ap (compare rel a.0) y.2 ∙ b.2);
      }

-- ---- values are taken

alone : {X : Type 0} (w x : X) → In w (x ∷ []) → x ≡ w
alone w x (inl e) = e
alone w x (inr i) = absurd i

-- those of the first members
abbrev pub TookFirst : List Cell → List Member → Hand → (before now : Compared) → (count : ℕ) → Type 0
TookFirst rows ms hand before now i = (P : Tree) (keep : Node → Bool) (ns : List Node) (rel : Rel) (others : List (List ℕ)) → Readable rows P keep ms ns → TookBy hand before rel [] others
    → (vs : List (List ℕ)) × TookBy hand now rel vs others × ((v : List ℕ) → In v vs ↔ In v (map (value P) (take i ns)))

module _ (rows : List Cell) (ms : List Member) (hand : Hand) (before : Compared) where
  pub took_none : TookFirst rows ms hand before before 0
  took_none P keep ns rel others r took = ([], took, λ v. ((λ i. absurd i), (λ i. absurd i)))

  pub took_all : (now : Compared) (i : ℕ) → length ms ≤ i → TookFirst rows ms hand before now i → TakesValues rows ms hand before now
  took_all now i h on P keep ns rel others r took =
      let same = same_length ms ns r.nodes.serials in
      let k = on P keep ns rel others r took in
      (k.0, k.1, subst (λ (z : List Node). (v : List ℕ) → In v k.0 ↔ In v (map (value P) z)) (take_all i ns (omega arith)) k.2)

  module _ (now after : Compared) (i : ℕ) (d : Member) (h : i < length ms) (v : List ℕ) (is : IsValue rows (get_or ms i d).place v) where
    pub took_more : ((rel : Rel) (vs ws : List (List ℕ)) → TookBy hand now rel vs ws → TookBy hand after rel (v ∷ vs) ws) → TookFirst rows ms hand before now i → TookFirst rows ms hand before after (i + 1)
    took_more takes on P keep ns rel others r took = (v ∷ k.0, takes rel k.0 others k.1, λ w. (there w, back w))
      where
        k : (vs : List (List ℕ)) × TookBy hand now rel vs others × ((w : List ℕ) → In w vs ↔ In w (map (value P) (take i ns)))
        k = on P keep ns rel others r took

        here : Node
        here = (read_at rows P keep ms ns i d r h).turn.node

        same : v ≡ value P here
        same = let at = read_at rows P keep ms ns i d r h in is P keep at.turn.node at.at at.whole

        all : map (value P) (take (i + 1) ns) ≡ map (value P) (take i ns) ++ value P here ∷ []
        all = ap (map (value P)) (read_at rows P keep ms ns i d r h).turn.taken ∙ map-last (value P) (take i ns) here

        there : (w : List ℕ) → In w (v ∷ k.0) → In w (map (value P) (take (i + 1) ns))
        there w (inl e) = subst (λ (z : List (List ℕ)). In w z) (sym all) (In-right w (map (value P) (take i ns)) (value P here ∷ []) (inl (sym same ∙ e)))
        there w (inr j) = subst (λ (z : List (List ℕ)). In w z) (sym all) (In-left w (map (value P) (take i ns)) (value P here ∷ []) ((k.2 w).0 j))

        back : (w : List ℕ) → In w (map (value P) (take (i + 1) ns)) → In w (v ∷ k.0)
        back w j = elim (In-append w (map (value P) (take i ns)) (value P here ∷ []) (subst (λ (z : List (List ℕ)). In w z) all j)) [
          | inl a ↦ inr ((k.2 w).1 a)
          | inr a ↦ inl (same ∙ alone w (value P here) a)
        ]

-- ---- what is found

is_truth : (b c : Bool) → (b ≡ true → c ≡ true) → (c ≡ true → b ≡ true) → b ≡ c
is_truth true c f g = sym (f refl)
is_truth false c f g = sym (false_from_ne_true c (λ e. absurd (false≢true (g e))))

module _ (rows : List Cell) (ls rs : List Member) (rel : Rel) where
  pub taken_tell : (start first both : Compared) → TookBoth start rel [] [] → TakesValues rows ls Left start first → TakesValues rows rs Right first both
      → (b : Bool) → ((rel : Rel) (vs ws : List (List ℕ)) → TookBoth both rel vs ws → (b ≡ true) ↔ SomePair rel vs ws) → TellsPair rows ls rel rs b
  taken_tell start first both none lefts rights b found P keep ns ms readl readr =
      let left = lefts P keep ns rel [] readl none in
      let right = rights P keep ms rel left.0 readr left.1 in
      let told = found rel left.0 right.0 right.1 in
      is_truth b (some_pair (compare rel) (map (node_value P) ns) (map (node_value P) ms))
      (λ e. some_pair_from P ns ms rel left.0 right.0 (λ v i. from_map (value P) v ns ((left.2 v).0 i)) (λ v i. from_map (value P) v ms ((right.2 v).0 i)) (told.0 e))
      (λ e. told.1 (some_pair_to P ns ms rel left.0 right.0 (λ j i. (left.2 (value P j)).1 (in_map (value P) j ns i)) (λ j i. (right.2 (value P j)).1 (in_map (value P) j ms i)) e))

  -- of no members there is none
  pub no_left : ls ≡ [] → TellsPair rows ls rel rs false
  no_left e P keep ns ms readl readr = sym (ap (λ (z : List Node). some_pair (compare rel) (map (node_value P) z) (map (node_value P) ms)) (no_nodes ls ns readl.nodes.serials e))

  pub no_right : rs ≡ [] → TellsPair rows ls rel rs false
  no_right e P keep ns ms readl readr =
      sym (ap (λ (z : List Node). some_pair (compare rel) (map (node_value P) ns) (map (node_value P) z)) (no_nodes rs ms readr.nodes.serials e) ∙ any_empty (compare rel) (map (node_value P) ns))
