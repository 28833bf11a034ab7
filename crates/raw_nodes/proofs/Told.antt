-- What a cell's links tell of its payload.
use Rattle.std.proofs.Common.{◌≡◌, ◌||◌, ℕ, suc, Bool, true, false, not, List, [], ◌∷◌, Option, Some, None, is_some, refl, sym, ap, subst, ◌∙◌, inl, inr, rules}
use Rattle.std.proofs.lemmas.Bool.{cases_eq}
use Rattle.std.specs.Prelude.{option_map, IsSome}
use Rattle.node_store.specs.Rows.{head_of, last_of, is_listed}
use Rattle.node_store.specs.Links.{Linked, rows_of, linked_at}
use Rattle.node_store.proofs.Siblings.{listed_cases}
use Rattle.raw_nodes.specs.Spots.{Spot}
use Rattle.raw_nodes.specs.Nodes.{place_of, index_in, cells_of, is_row, IsToldByLinks, Chain, IsStore}
use Rattle.raw_nodes.specs.declared.arena.Link.{Link}
use Rattle.raw_nodes.specs.declared.node.Node.{Node}
use Rattle.raw_nodes.proofs.Blocks.{held_at, held_within}
use Rattle.raw_nodes.proofs.Looks.{look, look_node}
use Rattle.raw_nodes.proofs.Stored.{used_of, linked}
use Rattle.raw_nodes.proofs.Readying.{keeps, dead_look}
use Rattle.raw_nodes.proofs.Changing.{unmapped_none}
use Rattle.raw_nodes.proofs.Emptying.{AreTold}

pub some_told : {X : Type 0} (mark : Bool) (o : Option X) → mark ≡ is_some o → mark ≡ true → IsSome o
some_told mark None told is = let bad : false ≡ true = sym told ∙ is in absurd (cc)
some_told mark (Some x) told is = search rules

pub none_told : {X : Type 0} (mark : Bool) (o : Option X) → mark ≡ is_some o → mark ≡ false → o ≡ None
none_told mark None told is = refl
none_told mark (Some x) told is = let bad : true ≡ false = sym told ∙ is in absurd (cc)

mapped_some : {X Y : Type 0} (f : X → Y) (o : Option X) (y : Y) → option_map f o ≡ Some y → is_some o ≡ true
mapped_some f None y e = absurd (cc)
mapped_some f (Some x) y e = refl

mapped_is : {X Y : Type 0} (f : X → Y) (o : Option X) (x : X) → o ≡ Some x → IsSome (option_map f o)
mapped_is f o x e = subst (λ p. IsSome (option_map f p)) (sym e) (search rules)

module _ {T : Type 0} where
  -- the links of a row with these children
  row_told : (cells : List (Spot (Node T))) (n : Node T) (cs : List ℕ) → index_in cells n.first ≡ head_of cs → index_in cells n.last ≡ last_of cs → is_row n ≡ true
  row_told cells n [] f l =
      let first : n.first ≡ None = unmapped_none (λ k. place_of cells k.ptr) n.first f in
      let last : n.last ≡ None = unmapped_none (λ k. place_of cells k.ptr) n.last l in
      λ i. is_some (first i) || not (is_some (last i))
  row_told cells n (c ∷ cs) f l = ap (λ b. b || not (is_some n.last)) (mapped_some (λ k. place_of cells k.ptr) n.first c f)

  -- the links of a cell of the free list
  chain_told : (cells : List (Spot (Node T))) (l : Option Link) (fs : List ℕ) → Chain cells l fs → (k : ℕ) → is_listed k fs ≡ true → (n : Node T) → held_at cells k ≡ Some n → is_row n ≡ false
  chain_told cells l [] c k listed n is = absurd (cc)
  chain_told cells l (f ∷ fs) c k listed n is = elim (cases_eq f k) [
    | inl fk ↦
        let both : Some c.1 ≡ Some n = sym c.4 ∙ ap (held_at cells) fk ∙ is in
        let same : c.1 ≡ n = search both in
        ap (λ m. is_row m) (sym same) ∙ c.5.1
    | inr d ↦ chain_told cells c.1.next fs c.6 k (listed_cases k f fs listed d) n is
  ]

  abbrev linked_by : List (Spot (Node T)) → Node T → T → Linked T
  linked_by cells n x =
      record {
        parent = index_in cells n.parent;
        first = index_in cells n.first;
        last = index_in cells n.last;
        prev = index_in cells n.prev;
        next = index_in cells n.next;
        payload = x;
      }

  node_told : (cells : List (Spot (Node T))) (free root : Option Link) (len most : ℕ) → IsStore cells free root len most → (k : ℕ) (n : Node T) → held_at cells k ≡ Some n → IsToldByLinks n
  node_told cells free root len most store k n is = go n.payload refl
    where
      go : (o : Option T) → n.payload ≡ o → is_row n ≡ is_some n.payload
      go None none =
          let within = held_within cells k (subst (λ o. IsSome o) (sym is) (search rules)) in
          let listed = store.dead.1.all k within (dead_look cells k n is none) in
          chain_told cells free store.dead.0 store.dead.1.chain k listed n is ∙ ap is_some (sym none)
      go (Some x) some =
          let lives : IsSome (look cells k) = subst (λ o. IsSome o) (sym (look_node cells k n is)) (mapped_is (linked_by cells n) n.payload x some) in
          let used = used_of cells (index_in cells root) most store.sound k lives in
          let row = linked cells (index_in cells root) most store.sound k used in
          let kept = keeps cells n (linked_at (rows_of (cells_of cells)) k row.0) (sym (look_node cells k n is) ∙ row.2) in
          row_told cells n row.0.children kept.first kept.last ∙ ap is_some (sym some)

  told_all : (ss : List (Spot (Node T))) → ((k : ℕ) (n : Node T) → held_at ss k ≡ Some n → IsToldByLinks n) → AreTold ss
  told_all [] h = tt
  told_all (s ∷ ss) h = (h 0 s.held refl, told_all ss (λ k n is. h (suc k) n is))

  -- each cell of a store tells
  pub store_told : (cells : List (Spot (Node T))) (free root : Option Link) (len most : ℕ) → IsStore cells free root len most → AreTold cells
  store_told cells free root len most store = told_all cells (node_told cells free root len most store)
