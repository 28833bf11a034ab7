-- The nodes of the cells as a store's cells, and what a changed node makes of them.
use Rattle.std.proofs.Common.{◌≡◌, ◌≢◌, ◌==◌, ℕ, zero, suc, ◌<◌, Bool, true, false, cond, List, [], ◌∷◌, Option, Some, None, map, length, get_or, refl, sym, ap, subst, ◌∙◌, inl, inr, rules}
use Rattle.std.specs.Prelude.{option_map, option_and_then, IsSome, IfSome}
use Rattle.std.proofs.lemmas.Bool.{cases_eq, eq-eqb, ne_eqb}
use denote.RawPtr.{Ptr}
use Rattle.node_store.specs.Links.{Linked, linked_cell, altered, put, with_first, with_last, with_prev, with_next, right_set, left_set, joined}
use Rattle.raw_nodes.specs.Spots.{Spot, same_ptr, places, found, written, updated}
use Rattle.raw_nodes.specs.Nodes.{place_of, index_in, linked_in, cells_of, Numbered, Chain}
use Rattle.raw_nodes.specs.Edits.{to_first, to_last, to_prev, to_next, right_put, left_put, join_put}
use Rattle.raw_nodes.specs.declared.arena.Link.{Link}
use Rattle.raw_nodes.specs.declared.node.Node.{Node}
use Rattle.raw_nodes.proofs.Blocks.{held_at, found_at, held_same, held_other, held_within, place_alike, places_written}
use Rattle.raw_nodes.proofs.Updates.{written_updated}

mapped : {X Y Z : Type 0} (g : Y → Z) (f : X → Y) (h : X → Z) (o : Option X) → ((x : X) → g (f x) ≡ h x) → option_map h o ≡ option_map g (option_map f o)
mapped g f h None e = refl
mapped g f h (Some x) e = ap Some (sym (e x))

pub unmapped : {X Y : Type 0} (f : X → Y) (o : Option X) → IsSome (option_map f o) → IsSome o
unmapped f None h = absurd (cc)
unmapped f (Some x) h = search rules

none_some : {X : Type 0} (o : Option X) → o ≡ None → IsSome o → ⊥
none_some None e h = cc
none_some (Some x) e h = cc

module _ {T : Type 0} where
  -- the cell k as a store sees it
  abbrev pub look : List (Spot (Node T)) → ℕ → Option (Linked T)
  look cells k = linked_cell (cells_of cells) k

  -- the same by any numbering of pointers
  abbrev linked_by : (Ptr → ℕ) → Node T → Option (Linked T)
  linked_by P n =
      option_map (λ x. record {
        parent = option_map (λ k. P k.ptr) n.parent;
        first = option_map (λ k. P k.ptr) n.first;
        last = option_map (λ k. P k.ptr) n.last;
        prev = option_map (λ k. P k.ptr) n.prev;
        next = option_map (λ k. P k.ptr) n.next;
        payload = x;
      }) n.payload

  looks : (all ss : List (Spot (Node T))) (k : ℕ) → get_or (map (λ s. linked_in all s.held) ss) k None ≡ option_and_then (linked_in all) (held_at ss k)
  looks all [] k = refl
  looks all (s ∷ ss) zero = refl
  looks all (s ∷ ss) (suc k) = looks all ss k

  pub look_at : (cells : List (Spot (Node T))) (k : ℕ) → look cells k ≡ option_and_then (linked_in cells) (held_at cells k)
  look_at cells k = looks cells cells k

  pub alike_in : (cells later : List (Spot (Node T))) → places later ≡ places cells → (n : Node T) → linked_in later n ≡ linked_in cells n
  alike_in cells later e n = ap (λ P. linked_by P n) (λ i p. place_alike later cells p e i)

  pub index_alike : (cells later : List (Spot (Node T))) → places later ≡ places cells → (l : Option Link) → index_in later l ≡ index_in cells l
  index_alike cells later e None = refl
  index_alike cells later e (Some k) = ap Some (place_alike later cells k.ptr e)

  -- a living cell is found, and keeps a node
  pub node_of : (cells : List (Spot (Node T))) (k : ℕ) → IsSome (look cells k) → (n : Node T) × (held_at cells k ≡ Some n) × IsSome n.payload
  node_of cells k some = go (held_at cells k) refl (subst (λ o. IsSome o) (look_at cells k) some)
    where
      paid : (n : Node T) → IsSome (linked_in cells n) → IsSome n.payload
      paid n h = unmapped _ n.payload h

      go : (o : Option (Node T)) → held_at cells k ≡ o → IsSome (option_and_then (linked_in cells) o) → (n : Node T) × (held_at cells k ≡ Some n) × IsSome n.payload
      go None is h = absurd (cc)
      go (Some n) is h = (n, is, paid n h)

  pub look_node : (cells : List (Spot (Node T))) (k : ℕ) (n : Node T) → held_at cells k ≡ Some n → look cells k ≡ linked_in cells n
  look_node cells k n is = look_at cells k ∙ ap (option_and_then (linked_in cells)) is

  pub found_living : (cells : List (Spot (Node T))) (l : Link) → IsSome (look cells (place_of cells l.ptr)) → IsSome (found cells l.ptr)
  found_living cells l some = let n = node_of cells (place_of cells l.ptr) some in subst (λ o. IsSome o) (sym (found_at cells l.ptr ∙ n.1)) (search rules)

  -- ---- one node is written

  pub look_written : (cells : List (Spot (Node T))) (p : Ptr) (w : Node T) (k : ℕ) → IsSome (found cells p) → look (written cells p w) k ≡ put (place_of cells p) (linked_in cells w) (look cells) k
  look_written cells p w k there = elim (cases_eq k (place_of cells p)) [
    | inl e ↦
        let in_range : place_of cells p < length cells = held_within cells (place_of cells p) (subst (λ o. IsSome o) (found_at cells p) there) in
        look_node (written cells p w) k w (held_same cells p w k e (subst (λ j. j < length cells) (sym e) in_range))
        ∙ alike_in cells (written cells p w) (places_written cells p w) w
        ∙ sym (ap (λ b. cond b (linked_in cells w) (look cells k)) (eq-eqb k (place_of cells p) e))
    | inr d ↦
        look_at (written cells p w) k
        ∙ ap (option_and_then (linked_in (written cells p w))) (held_other cells p w k d)
        ∙ ap (λ f. option_and_then f (held_at cells k)) (λ i n. alike_in cells (written cells p w) (places_written cells p w) n i)
        ∙ sym (look_at cells k)
        ∙ sym (ap (λ b. cond b (linked_in cells w) (look cells k)) (ne_eqb k (place_of cells p) d))
  ]

  pub look_updated : (f : Node T → Node T) (cells : List (Spot (Node T))) (p : Ptr) (n : Node T) → found cells p ≡ Some n
      → (k : ℕ) → look (updated f cells p) k ≡ put (place_of cells p) (linked_in cells (f n)) (look cells) k
  look_updated f cells p n is k =
      ap (λ cs. look cs k) (sym (written_updated f cells p n is))
      ∙ look_written cells p (f n) k (subst (λ o. IsSome o) (sym is) (search rules))

  -- a change of one link
  pub look_altered : (f : Node T → Node T) (g : Linked T → Linked T) (cells : List (Spot (Node T))) (p : Ptr) → IsSome (found cells p) → ((m : Node T) → linked_in cells (f m) ≡ option_map g (linked_in cells m))
      → look (updated f cells p) ≡ altered g (place_of cells p) (look cells)
  look_altered f g cells p there same = λ i k. at k i
    where
      one : (o : Option (Node T)) → found cells p ≡ o → IsSome o → (n : Node T) × (found cells p ≡ Some n)
      one None is h = absurd (cc)
      one (Some n) is h = (n, is)

      at : (k : ℕ) → look (updated f cells p) k ≡ altered g (place_of cells p) (look cells) k
      at k =
          let n = one (found cells p) refl there in
          look_updated f cells p n.0 n.1 k ∙ elim (cases_eq k (place_of cells p)) [
            | inl e ↦
                ap (λ b. cond b (linked_in cells (f n.0)) (look cells k)) (eq-eqb k (place_of cells p) e)
                ∙ same n.0
                ∙ ap (option_map g) (sym (ap (look cells) e ∙ look_node cells (place_of cells p) n.0 (sym (found_at cells p) ∙ n.1)))
                ∙ sym (ap (λ b. cond b (option_map g (look cells k)) (look cells k)) (eq-eqb k (place_of cells p) e))
            | inr d ↦
                ap (λ b. cond b (linked_in cells (f n.0)) (look cells k)) (ne_eqb k (place_of cells p) d)
                ∙ sym (ap (λ b. cond b (option_map g (look cells k)) (look cells k)) (ne_eqb k (place_of cells p) d))
          ]

  -- the links of a node, changed
  pub first_in : (cells : List (Spot (Node T))) (l : Option Link) (m : Node T) → linked_in cells (to_first l m) ≡ option_map (with_first (index_in cells l)) (linked_in cells m)
  first_in cells l m = mapped (with_first (index_in cells l)) _ _ m.payload (λ x. refl)

  pub last_in : (cells : List (Spot (Node T))) (l : Option Link) (m : Node T) → linked_in cells (to_last l m) ≡ option_map (with_last (index_in cells l)) (linked_in cells m)
  last_in cells l m = mapped (with_last (index_in cells l)) _ _ m.payload (λ x. refl)

  pub prev_in : (cells : List (Spot (Node T))) (l : Option Link) (m : Node T) → linked_in cells (to_prev l m) ≡ option_map (with_prev (index_in cells l)) (linked_in cells m)
  prev_in cells l m = mapped (with_prev (index_in cells l)) _ _ m.payload (λ x. refl)

  pub next_in : (cells : List (Spot (Node T))) (l : Option Link) (m : Node T) → linked_in cells (to_next l m) ≡ option_map (with_next (index_in cells l)) (linked_in cells m)
  next_in cells l m = mapped (with_next (index_in cells l)) _ _ m.payload (λ x. refl)

  -- ---- what stays

  -- the cells stay where they are, keep their numbers, and a dead one stays as it is
  pub record Calm (cells later : List (Spot (Node T))) : Type 0 where
    pub places_same : places later ≡ places cells
    pub numbers : Numbered 0 cells → Numbered 0 later
    pub dead : (k : ℕ) (n : Node T) → held_at cells k ≡ Some n → n.payload ≡ None → held_at later k ≡ Some n

  pub calm_still : (cells : List (Spot (Node T))) → Calm cells cells
  calm_still cells = record { places_same = refl; numbers = λ h. h; dead = λ k n is gone. is }

  pub calm_both : (a b c : List (Spot (Node T))) → Calm a b → Calm b c → Calm a c
  calm_both a b c x y =
      record {
        places_same = y.places_same ∙ x.places_same;
        numbers = λ h. y.numbers (x.numbers h);
        dead = λ k n is gone. y.dead k n (x.dead k n is gone) gone;
      }

  numbers_updated : (f : Node T → Node T) → ((m : Node T) → (f m).number ≡ m.number) → (k : ℕ) (ss : List (Spot (Node T))) (p : Ptr) → Numbered k ss → Numbered k (updated f ss p)
  numbers_updated f same k [] p h = tt
  numbers_updated f same k (s ∷ ss) p h = go (same_ptr s.at p) (numbers_updated f same (suc k) ss p h.1)
    where
      go : (b : Bool) → Numbered (suc k) (updated f ss p) → Numbered k (cond b (record { at = s.at; held = f s.held } ∷ ss) (s ∷ updated f ss p))
      go true rest = (same s.held ∙ h.0, h.1)
      go false rest = (h.0, rest)

  pub places_updated : (f : Node T → Node T) (ss : List (Spot (Node T))) (p : Ptr) → places (updated f ss p) ≡ places ss
  places_updated f [] p = refl
  places_updated f (s ∷ ss) p = go (same_ptr s.at p) (places_updated f ss p)
    where
      go : (b : Bool) → places (updated f ss p) ≡ places ss → places (cond b (record { at = s.at; held = f s.held } ∷ ss) (s ∷ updated f ss p)) ≡ s.at ∷ places ss
      go true rest = refl
      go false rest = ap (λ ps. s.at ∷ ps) rest

  pub numbered_updated : (f : Node T → Node T) → ((m : Node T) → (f m).number ≡ m.number) → (cells : List (Spot (Node T))) (p : Ptr) → Numbered 0 cells → Numbered 0 (updated f cells p)
  numbered_updated f same cells p = numbers_updated f same 0 cells p

  -- a write elsewhere
  pub held_elsewhere : (f : Node T → Node T) (cells : List (Spot (Node T))) (p : Ptr) (n : Node T) → found cells p ≡ Some n → (k : ℕ) → k ≢ place_of cells p → held_at (updated f cells p) k ≡ held_at cells k
  held_elsewhere f cells p n is k d = ap (λ cs. held_at cs k) (sym (written_updated f cells p n is)) ∙ held_other cells p (f n) k d

  pub calm_updated : (f : Node T → Node T) → ((m : Node T) → (f m).number ≡ m.number) → (cells : List (Spot (Node T))) (p : Ptr) → IsSome (look cells (place_of cells p)) → Calm cells (updated f cells p)
  calm_updated f same cells p lives =
      let one = node_of cells (place_of cells p) lives in
      record {
        places_same = places_updated f cells p;
        numbers = numbered_updated f same cells p;
        dead = λ k m is gone. held_elsewhere f cells p one.0 (found_at cells p ∙ one.1) k (λ e.
            let both : Some one.0 ≡ Some m = sym one.1 ∙ ap (held_at cells) (sym e) ∙ is in
            let it : one.0 ≡ m = search both in
            none_some one.0.payload (ap (λ y. y.payload) it ∙ gone) one.2) ∙ is;
      }

  -- the free list stays
  pub chain_calm : (cells later : List (Spot (Node T))) → Calm cells later → (link : Option Link) (fs : List ℕ) → Chain cells link fs → Chain later link fs
  chain_calm cells later calm link [] c = c
  chain_calm cells later calm link (f ∷ fs) c =
      (c.0, c.1, c.2, place_alike later cells c.0.ptr calm.places_same ∙ c.3, calm.dead f c.1 c.4 c.5.0, c.5, chain_calm cells later calm c.1.next fs c.6)

  -- ---- neighbours are joined

  pub alive_still : (f : Linked T → Linked T) (j k : ℕ) (cells : ℕ → Option (Linked T)) → IsSome (cells k) → IsSome (altered f j cells k)
  alive_still f j k cells some = go (k == j) (cells k) some
    where
      go : (b : Bool) (o : Option (Linked T)) → IsSome o → IsSome (cond b (option_map f o) o)
      go true None h = absurd (cc)
      go true (Some x) h = search rules
      go false o h = h

  -- the link leads to a living cell
  abbrev pub Lives : List (Spot (Node T)) → Option Link → Type 0
  Lives cells link = IfSome link (λ l. IsSome (look cells (place_of cells l.ptr)))

  pub right_looks : (cells : List (Spot (Node T))) (parent left right : Option Link) → Lives cells parent → Lives cells left
      → (look (right_put parent left right cells) ≡ right_set (index_in cells parent) (index_in cells left) (index_in cells right) (look cells)) × Calm cells (right_put parent left right cells)
  right_looks cells parent (Some l) right p q = (look_altered (to_next right) (with_next (index_in cells right)) cells l.ptr (found_living cells l q) (next_in cells right), calm_updated (to_next right) (λ m. refl) cells l.ptr q)
  right_looks cells (Some l) None right p q = (look_altered (to_first right) (with_first (index_in cells right)) cells l.ptr (found_living cells l p) (first_in cells right), calm_updated (to_first right) (λ m. refl) cells l.ptr p)
  right_looks cells None None right p q = (refl, calm_still cells)

  pub left_looks : (cells : List (Spot (Node T))) (parent left right : Option Link) → Lives cells parent → Lives cells right
      → (look (left_put parent left right cells) ≡ left_set (index_in cells parent) (index_in cells left) (index_in cells right) (look cells)) × Calm cells (left_put parent left right cells)
  left_looks cells parent left (Some l) p q = (look_altered (to_prev left) (with_prev (index_in cells left)) cells l.ptr (found_living cells l q) (prev_in cells left), calm_updated (to_prev left) (λ m. refl) cells l.ptr q)
  left_looks cells (Some l) left None p q = (look_altered (to_last left) (with_last (index_in cells left)) cells l.ptr (found_living cells l p) (last_in cells left), calm_updated (to_last left) (λ m. refl) cells l.ptr p)
  left_looks cells None left None p q = (refl, calm_still cells)

  some_right : (parent left right : Option ℕ) (cells : ℕ → Option (Linked T)) (k : ℕ) → IsSome (cells k) → IsSome (right_set parent left right cells k)
  some_right parent (Some l) right cells k some = alive_still (with_next right) l k cells some
  some_right (Some q) None right cells k some = alive_still (with_first right) q k cells some
  some_right None None right cells k some = some

  lives_still : (cells later : List (Spot (Node T))) (parent left right : Option ℕ) → places later ≡ places cells → look later ≡ right_set parent left right (look cells) → (l : Option Link) → Lives cells l → Lives later l
  lives_still cells later parent left right same is None h = tt
  lives_still cells later parent left right same is (Some l) h =
      subst (λ j. IsSome (look later j)) (sym (place_alike later cells l.ptr same))
      (subst (λ f. IsSome (f (place_of cells l.ptr))) (sym is) (some_right parent left right (look cells) (place_of cells l.ptr) h))

  pub join_looks : (cells : List (Spot (Node T))) (parent left right : Option Link) → Lives cells parent → Lives cells left → Lives cells right
      → (look (join_put parent left right cells) ≡ joined (index_in cells parent) (index_in cells left) (index_in cells right) (look cells)) × Calm cells (join_put parent left right cells)
  join_looks cells parent left right p l r =
      let mid = right_put parent left right cells in
      let one = right_looks cells parent left right p l in
      let same = one.1.places_same in
      let still = lives_still cells mid (index_in cells parent) (index_in cells left) (index_in cells right) same one.0 in
      let two = left_looks mid parent left right (still parent p) (still right r) in (
        two.0
            ∙ (λ i. left_set (index_alike cells mid same parent i) (index_alike cells mid same left i) (index_alike cells mid same right i) (one.0 i)),
        calm_both cells mid (join_put parent left right cells) one.1 two.1,
      )
