-- What the steps of a raw store make of its rows.
use Rattle.std.proofs.Common.{◌≡◌, ◌≢◌, ◌==◌, ◌||◌, ℕ, zero, suc, ◌+◌, ◌-◌, ◌<◌, ◌≤◌, Bool, true, false, cond, List, [], ◌∷◌, ◌++◌, Option, Some, None, map, length, get_or, count_by, is_some, refl, sym, ap, subst, ◌∙◌, inl, inr, arith, rules, append_assoc}
use Rattle.std.specs.Prelude.{option_map, IsSome}
use Rattle.std.specs.FinMap as fin
use Rattle.std.proofs.lemmas.Bool.{cases_eq, eq-eqb, ne_eqb, eqb-true}
use Rattle.std.proofs.lemmas.List.Sums.{sum_by-cons, count_by-le-length}
use Rattle.std.proofs.lemmas.List.{map-append, length-append, length-map}
use denote.RawPtr.{Ptr}
use Rattle.node_store.specs.Rows.{Rows, StoreRow, children_of, head_of, last_of, before, after, starts, is_listed, Distinct, IsTree}
use Rattle.node_store.specs.Links.{Linked, rows_of, linked_at, IsSound}
use Rattle.node_store.proofs.Siblings.{head_listed, last_listed, after_listed, before_listed, listed_apart, or_right, none_or}
use Rattle.node_store.proofs.Maps.{some_row, parent_at, child_at, used_parent, used_child}
use Rattle.node_store.proofs.Held.{get_row, len_rows, rows_is, sound_of, holds_empty}
use Rattle.node_store.proofs.Trees.{tree_empty}
use Rattle.raw_nodes.specs.Spots.{Spot, same_ptr, places, found, IsApart}
use Rattle.raw_nodes.specs.Nodes.{place_of, linked_in, cells_of, Numbered, Chain, dead_node, dead_nodes, head_link, IsFree, IsStore}
use Rattle.raw_nodes.specs.declared.arena.Link.{Link}
use Rattle.raw_nodes.specs.declared.node.Node.{Node}
use Rattle.raw_nodes.proofs.Blocks.{held_at, found_at, held_within, place_at}
use Rattle.raw_nodes.proofs.Looks.{look, node_of, unmapped}

-- ---- siblings that a list tells

starts_listed : (k : ℕ) (cs : List ℕ) → starts k cs ≡ true → is_listed k cs ≡ true
starts_listed k [] e = absurd (cc)
starts_listed k (c ∷ cs) e = ap (λ b. b || is_listed k cs) e

apart_step : (k c j : ℕ) (b : Bool) (cs : List ℕ) → is_listed c cs ≡ false → starts k cs ≡ b → cond b (Some c) (before k cs) ≡ Some j → (before k cs ≡ Some j → j ≢ k) → j ≢ k
apart_step k c j true cs fresh is e rest = let same : c ≡ j = search e in subst (λ x. x ≢ k) same (listed_apart c k cs fresh (starts_listed k cs is))
apart_step k c j false cs fresh is e rest = rest e

-- the sibling before k isn't k, nor is the one after it
pub before_apart : (k : ℕ) (cs : List ℕ) (j : ℕ) → Distinct cs → before k cs ≡ Some j → j ≢ k
before_apart k [] j d e = absurd (cc)
before_apart k (c ∷ cs) j d e = apart_step k c j (starts k cs) cs d.0 refl e (before_apart k cs j d.1)

after_step : (k c j : ℕ) (b : Bool) (cs : List ℕ) → is_listed c cs ≡ false → (b ≡ true → c ≡ k) → cond b (head_of cs) (after k cs) ≡ Some j → (after k cs ≡ Some j → j ≢ k) → j ≢ k
after_step k c j true cs fresh is e rest = let apart = listed_apart c j cs fresh (head_listed cs j e) in let same : c ≡ k = is refl in λ jk. apart (same ∙ sym jk)
after_step k c j false cs fresh is e rest = rest e

pub after_apart : (k : ℕ) (cs : List ℕ) (j : ℕ) → Distinct cs → after k cs ≡ Some j → j ≢ k
after_apart k [] j d e = absurd (cc)
after_apart k (c ∷ cs) j d e = after_step k c j (c == k) cs d.0 (eqb-true c k) e (after_apart k cs j d.1)

-- ---- rows that links tell

module _ {T : Type 0} (rows : Rows T) (root : Option ℕ) (t : IsTree rows root) (p : ℕ) (e : StoreRow T) (has : fin.get rows p ≡ Some e) where
  used_beside : (k : ℕ) (a : Option ℕ) → is_listed k (children_of rows a) ≡ true → IsSome (fin.get rows k)
  used_beside k None h = absurd (cc)
  used_beside k (Some a) h = used_child rows k a (t.down k a h)

  pub parent_used : (k : ℕ) → e.parent ≡ Some k → IsSome (fin.get rows k)
  parent_used k is = used_parent rows k p (t.up p k (parent_at rows p e has ∙ is))

  pub first_used : (k : ℕ) → head_of e.children ≡ Some k → IsSome (fin.get rows k)
  first_used k is = used_child rows k p (t.down k p (child_at rows p k e has ∙ head_listed e.children k is))

  pub last_used : (k : ℕ) → last_of e.children ≡ Some k → IsSome (fin.get rows k)
  last_used k is = used_child rows k p (t.down k p (child_at rows p k e has ∙ last_listed e.children k is))

  pub next_used : (k : ℕ) → after p (children_of rows e.parent) ≡ Some k → IsSome (fin.get rows k)
  next_used k is = used_beside k e.parent (after_listed p (children_of rows e.parent) k is)

  pub prev_used : (k : ℕ) → before p (children_of rows e.parent) ≡ Some k → IsSome (fin.get rows k)
  prev_used k is = used_beside k e.parent (before_listed p (children_of rows e.parent) k is)

-- ---- cells that are dead or not

count_most : {X : Type 0} (xs : List (Option X)) → count_by is_some xs ≤ length xs
count_most xs = count_by-le-length is_some xs

count_less : {X : Type 0} (xs : List (Option X)) (k : ℕ) → k < length xs → get_or xs k None ≡ None → count_by is_some xs < length xs
count_less [] k lt e = absurd (omega arith)
count_less {X} (None ∷ xs) zero lt e = omega (arith, count_most xs, sum_by-cons (λ (o : Option X). cond (is_some o) 1 0) None xs)
count_less {X} (Some x ∷ xs) zero lt e = absurd (cc)
count_less {X} (None ∷ xs) (suc k) lt e = omega (arith, count_less xs k (omega arith) e, sum_by-cons (λ (o : Option X). cond (is_some o) 1 0) None xs)
count_less {X} (Some x ∷ xs) (suc k) lt e = omega (arith, count_less xs k (omega arith) e, sum_by-cons (λ (o : Option X). cond (is_some o) 1 0) (Some x) xs)

count_all : {X : Type 0} (xs : List (Option X)) → ((k : ℕ) → k < length xs → IsSome (get_or xs k None)) → count_by is_some xs ≡ length xs
count_all [] all = refl
count_all {X} (None ∷ xs) all = let bad = all 0 (omega arith) in absurd (cc)
count_all {X} (Some x ∷ xs) all = omega (arith, count_all xs (λ k lt. all (suc k) (omega arith)), sum_by-cons (λ (o : Option X). cond (is_some o) 1 0) (Some x) xs)

module _ {T : Type 0} where
  pub alive_of : (cells : List (Spot (Node T))) (k : ℕ) → IsSome (fin.get (rows_of (cells_of cells)) k) → IsSome (look cells k)
  alive_of cells k used = unmapped _ (look cells k) (subst (λ o. IsSome o) (get_row (cells_of cells) k) used)

  pub below : (cells : List (Spot (Node T))) (k : ℕ) → IsSome (look cells k) → k < length cells
  below cells k some = let n = node_of cells k some in held_within cells k (subst (λ o. IsSome o) (sym n.1) (search rules))

  pub cells_long : (cells : List (Spot (Node T))) → length (cells_of cells) ≡ length cells
  cells_long cells = length-map cells (λ s. linked_in cells s.held)

  -- each row has a cell of its own
  pub rows_most : (cells : List (Spot (Node T))) → fin.len (rows_of (cells_of cells)) ≤ length cells
  rows_most cells =
      let long = cells_long cells in
      let most = count_most (cells_of cells) in
      omega (arith, len_rows (cells_of cells))

  -- a dead cell is one without a row
  pub rows_less : (cells : List (Spot (Node T))) (k : ℕ) → k < length cells → look cells k ≡ None → fin.len (rows_of (cells_of cells)) < length cells
  rows_less cells k lt none =
      let long = cells_long cells in
      let fewer = count_less (cells_of cells) k (omega arith) none in
      omega (arith, len_rows (cells_of cells))

  -- with an empty free list each cell is a row's
  pub all_rows : (cells : List (Spot (Node T))) → IsFree cells None [] → fin.len (rows_of (cells_of cells)) ≡ length cells
  all_rows cells free = len_rows (cells_of cells) ∙ count_all (cells_of cells) (λ k lt. alive k (look cells k) refl (subst (λ n. k < n) (cells_long cells) lt)) ∙ cells_long cells
    where
      alive : (k : ℕ) (o : Option (Linked T)) → look cells k ≡ o → k < length cells → IsSome (look cells k)
      alive k None is lt = let bad : false ≡ true = free.all k lt is in absurd (cc)
      alive k (Some m) is lt = subst (λ o. IsSome o) (sym is) (search rules)

  -- the links of a row in use are of rows in use
  module _ (cells : List (Spot (Node T))) (root : Option ℕ) (most : ℕ) (sound : IsSound (cells_of cells) root most) where
    abbrev here : Rows T
    here = rows_of (cells_of cells)

    pub linked : (k : ℕ) → IsSome (fin.get here k) → (e : StoreRow T) × (fin.get here k ≡ Some e) × (look cells k ≡ Some (linked_at here k e))
    linked k used = let e = some_row (fin.get here k) used in (e.0, e.1, sound.holds k ∙ ap (option_map (linked_at here k)) e.1)

    pub used_of : (k : ℕ) → IsSome (look cells k) → IsSome (fin.get here k)
    used_of k some = go (fin.get here k) refl (subst (λ o. IsSome o) (sound.holds k) some)
      where
        go : (o : Option (StoreRow T)) → fin.get here k ≡ o → IsSome (option_map (linked_at here k) o) → IsSome (fin.get here k)
        go None is h = absurd (cc)
        go (Some e) is h = subst (λ o. IsSome o) (sym is) (search rules)

  -- the number that a cell keeps is its own
  pub numbered_at : (k : ℕ) (ss : List (Spot (Node T))) → Numbered k ss → (j : ℕ) (n : Node T) → held_at ss j ≡ Some n → n.number ≡ k + j
  numbered_at k [] h j n e = absurd (cc)
  numbered_at k (s ∷ ss) h zero n e = let same : s.held ≡ n = search e in ap (λ m. m.number) (sym same) ∙ h.0 ∙ zero_more k
    where
      zero_more : (k : ℕ) → k ≡ k + 0
      zero_more k = omega arith
  numbered_at k (s ∷ ss) h (suc j) n e = let more : suc k + j ≡ k + suc j = omega arith in numbered_at (suc k) ss h.1 j n e ∙ more

  pub number_is : (cells : List (Spot (Node T))) → Numbered 0 cells → (p : Ptr) (n : Node T) → found cells p ≡ Some n → n.number ≡ place_of cells p
  number_is cells h p n e = let zero_less : 0 + place_of cells p ≡ place_of cells p = omega arith in numbered_at 0 cells h (place_of cells p) n (sym (found_at cells p) ∙ e) ∙ zero_less

  -- ---- a longer list of cells

  pub place_more : (cells more : List (Spot (Node T))) (p : Ptr) → place_of cells p < length cells → place_of (cells ++ more) p ≡ place_of cells p
  place_more [] more p lt = absurd (omega arith)
  place_more (s ∷ ss) more p lt = go (same_ptr s.at p) lt (place_more ss more p)
    where
      go : (b : Bool) → cond b 0 (suc (place_of ss p)) < suc (length ss) → (place_of ss p < length ss → place_of (ss ++ more) p ≡ place_of ss p) → cond b 0 (suc (place_of (ss ++ more) p)) ≡ cond b 0 (suc (place_of ss p))
      go true lt rest = refl
      go false lt rest = ap suc (rest (omega arith))

  pub held_more : (cells more : List (Spot (Node T))) (k : ℕ) → k < length cells → held_at (cells ++ more) k ≡ held_at cells k
  held_more [] more k lt = absurd (omega arith)
  held_more (s ∷ ss) more zero lt = refl
  held_more (s ∷ ss) more (suc k) lt = held_more ss more k (omega arith)

  pub held_past : (cells more : List (Spot (Node T))) (k : ℕ) → length cells ≤ k → held_at (cells ++ more) k ≡ held_at more (k - length cells)
  held_past [] more k le = let same : k ≡ k - 0 = omega arith in ap (held_at more) same
  held_past (s ∷ ss) more zero le = absurd (omega arith)
  held_past (s ∷ ss) more (suc k) le = let same : k - length ss ≡ suc k - suc (length ss) = omega arith in held_past ss more k (omega arith) ∙ ap (held_at more) same

mapped_at : {X Y : Type 0} (f : X → Y) (xs : List X) (k : ℕ) (d : X) → get_or (map f xs) k (f d) ≡ f (get_or xs k d)
mapped_at f [] k d = refl
mapped_at f (x ∷ xs) zero d = refl
mapped_at f (x ∷ xs) (suc k) d = mapped_at f xs k d

-- the link in the table leads to the cell with its number
pub place_of_link : {X : Type 0} (cells : List (Spot X)) (links : List Link) → IsApart cells → places cells ≡ map (λ l. l.ptr) links → (k : ℕ) → k < length cells → (l : Link) → l ≡ get_or links k l → place_of cells l.ptr ≡ k
place_of_link cells links apart table k lt l is =
    ap (place_of cells) (ap (λ m. m.ptr) is ∙ sym (mapped_at (λ (m : Link). m.ptr) links k l) ∙ ap (λ ps. get_or ps k l.ptr) (sym table))
    ∙ place_at cells k l.ptr apart lt

-- ---- a new block's cells

abbrev pub numbers : ℕ → ℕ → List ℕ
numbers k zero = []
numbers k (suc n) = k ∷ numbers (suc k) n

pub not_below : (j k n : ℕ) → j < k → is_listed j (numbers k n) ≡ false
not_below j k zero lt = refl
not_below j k (suc n) lt = none_or (k == j) _ (ne_eqb k j (λ e. absurd (omega arith))) (not_below j (suc k) n (omega arith))

pub numbers_once : (k n : ℕ) → Distinct (numbers k n)
numbers_once k zero = tt
numbers_once k (suc n) = (not_below k (suc k) n (omega arith), numbers_once (suc k) n)

pub numbers_have : (j k n : ℕ) → k ≤ j → j < k + n → is_listed j (numbers k n) ≡ true
numbers_have j k zero le lt = absurd (omega arith)
numbers_have j k (suc n) le lt = elim (cases_eq k j) [
  | inl same ↦ ap (λ b. b || is_listed j (numbers (suc k) n)) (eq-eqb k j same)
  | inr differ ↦ or_right (k == j) _ (numbers_have j (suc k) n (omega arith) (omega arith))
]

at_seam : {X : Type 0} (xs : List X) (y : X) (ys : List X) (d : X) → get_or (xs ++ y ∷ ys) (length xs) d ≡ y
at_seam [] y ys d = refl
at_seam (x ∷ xs) y ys d = at_seam xs y ys d

module _ {T : Type 0} where
  held_by : (cells : List (Spot (Node T))) (k : ℕ) → held_at cells k ≡ get_or (map Some (map (λ s. s.held) cells)) k None
  held_by [] k = refl
  held_by (s ∷ ss) zero = refl
  held_by (s ∷ ss) (suc k) = held_by ss k

  -- dead cells at the end of the list, each linked to the next
  pub fresh_chain : (cells : List (Spot (Node T))) → IsApart cells → (ps : List Ptr) (hs : List (Node T)) (k : ℕ) (ls : List Link) → length ps ≡ k → length hs ≡ k
      → places cells ≡ ps ++ map (λ l. l.ptr) ls → map (λ s. s.held) cells ≡ hs ++ dead_nodes k ls → Chain cells (head_link ls) (numbers k (length ls))
  fresh_chain cells apart ps hs k [] pl hl pe he = refl
  fresh_chain cells apart ps hs k (l ∷ ls) pl hl pe he =
      let long : length cells ≡ length (ps ++ map (λ m. m.ptr) (l ∷ ls)) = sym (length-map cells (λ (s : Spot (Node T)). s.at)) ∙ ap length pe in
      let lt : k < length cells = omega (arith, length-append ps (map (λ (m : Link). m.ptr) (l ∷ ls))) in
      let at : get_or (places cells) k l.ptr ≡ l.ptr =
      ap (λ qs. get_or qs k l.ptr) pe ∙ ap (λ j. get_or (ps ++ l.ptr ∷ map (λ m. m.ptr) ls) j l.ptr) (sym pl) ∙ at_seam ps l.ptr (map (λ m. m.ptr) ls) l.ptr in
      let holds : held_at cells k ≡ Some (dead_node k (Some l) (head_link ls)) =
      held_by cells k ∙ ap (λ xs. get_or (map Some xs) k None) he ∙ ap (λ xs. get_or xs k None) (map-append Some hs (dead_nodes k (l ∷ ls)))
      ∙ ap (λ j. get_or (map Some hs ++ Some (dead_node k (Some l) (head_link ls)) ∷ map Some (dead_nodes (suc k) ls)) j None) (sym (length-map hs Some ∙ hl))
      ∙ at_seam (map Some hs) (Some (dead_node k (Some l) (head_link ls))) (map Some (dead_nodes (suc k) ls)) None in
      let pl_more : length (ps ++ l.ptr ∷ []) ≡ suc k = omega (arith, length-append ps (l.ptr ∷ [])) in
      let hl_more : length (hs ++ dead_node k (Some l) (head_link ls) ∷ []) ≡ suc k = omega (arith, length-append hs (dead_node k (Some l) (head_link ls) ∷ [])) in (
        l,
        dead_node k (Some l) (head_link ls),
        refl,
        ap (place_of cells) (sym at) ∙ place_at cells k l.ptr apart lt,
        holds,
        (refl, refl),
        fresh_chain cells apart (ps ++ l.ptr ∷ []) (hs ++ dead_node k (Some l) (head_link ls) ∷ []) (suc k) ls pl_more hl_more
            (pe ∙ sym (append_assoc ps (l.ptr ∷ []) (map (λ m. m.ptr) ls))) (he ∙ sym (append_assoc hs (dead_node k (Some l) (head_link ls) ∷ []) (dead_nodes (suc k) ls))),
      )

  -- what stands behind the older cells is dead
  pub dead_there : (cells : List (Spot (Node T))) (k : ℕ) (ls : List Link) → map (λ s. s.held) cells ≡ dead_nodes k ls → (j : ℕ) (n : Node T) → held_at cells j ≡ Some n → n.payload ≡ None
  dead_there [] k ls e j n is = absurd (cc)
  dead_there (s ∷ ss) k [] e j n is = absurd (cc)
  dead_there (s ∷ ss) k (l ∷ ls) e zero n is =
      let here : s.held ≡ dead_node k (Some l) (head_link ls) = ap (head_node s.held) e in
      let same : s.held ≡ n = search is in
      ap (λ m. m.payload) (sym same ∙ here)
    where
      head_node : Node T → List (Node T) → Node T
      head_node d [] = d
      head_node d (x ∷ xs) = x
  dead_there (s ∷ ss) k (l ∷ ls) e (suc j) n is = dead_there ss (suc k) ls (ap tail_nodes e) j n is
    where
      tail_nodes : List (Node T) → List (Node T)
      tail_nodes [] = []
      tail_nodes (x ∷ xs) = xs

module _ {T : Type 0} where
  -- a store without cells
  none_there : (k : ℕ) → look {T = T} [] k ≡ None
  none_there k = refl

  pub no_rows : rows_of (cells_of {T = T} []) ≡ fin.empty
  no_rows = rows_is (cells_of []) fin.empty None (holds_empty (look []) none_there) tree_empty

  pub store_empty : IsStore {T = T} [] None None 0 0
  store_empty =
      record {
        sound = sound_of (cells_of []) fin.empty None (holds_empty (look []) none_there) tree_empty 0 (zero_len (fin.len-empty _ _));
        count = sym (ap fin.len no_rows ∙ fin.len-empty _ _);
        dead = ([], record { chain = refl; once = tt; all = λ k lt none. absurd (omega arith) });
      }
    where
      zero_len : {n : ℕ} → n ≡ 0 → n ≤ 0
      zero_len e = omega (arith, e)
