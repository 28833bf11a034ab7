-- Cells whose links are right but for one seam of a list of children, and what joining the two sides makes of them.
use Rattle.std.proofs.Common.{◌≡◌, ◌≢◌, ◌==◌, ℕ, Bool, List, [], ◌∷◌, ◌++◌, Option, Some, None, cond, refl, sym, ap, subst, ◌∙◌, inl, inr}
use Rattle.std.specs.Prelude.{option_map, ◌||◌, true, false}
use Rattle.std.proofs.lemmas.List.{append-nil}
use Rattle.std.proofs.lemmas.List.Folds.{list_any-append}
use Rattle.std.specs.FinMap.{get}
use Rattle.std.proofs.lemmas.Bool.{cases_eq, eq-eqb, ne_eqb}
use Rattle.node_store.specs.Rows.{StoreRow, Rows, head_of, last_of, before, after, children_in, children_of, parent_of, is_listed, Distinct, LinksDown}
use Rattle.node_store.specs.Links.{Linked, linked_at, altered, with_first, with_last, with_prev, with_next, right_set, left_set, joined}
use Rattle.node_store.proofs.Siblings.{after_end, before_at, left_fresh, right_fresh, distinct_left, last_listed, head_listed, no_last, no_head, or_right}
use Rattle.node_store.proofs.Maps.{parent_at, child_at}

module _ {T : Type 0} where
  -- equal fields make equal cells
  pub same_cell : (m n : Linked T) → m.parent ≡ n.parent → m.first ≡ n.first → m.last ≡ n.last → m.prev ≡ n.prev → m.next ≡ n.next → m.payload ≡ n.payload → m ≡ n
  same_cell m n a b c d e f = λ i. record { parent = a i; first = b i; last = c i; prev = d i; next = e i; payload = f i }

  -- a cell at p that is right but for the seam below q between `left` and `right`
  pub record Near (q : ℕ) (left right : Option ℕ) (p : ℕ) (m n : Linked T) : Type 0 where
    pub parent : m.parent ≡ n.parent
    pub payload : m.payload ≡ n.payload
    pub next : left ≢ Some p → m.next ≡ n.next
    pub prev : right ≢ Some p → m.prev ≡ n.prev
    pub first : ((p ≡ q) × (left ≡ None) → ⊥) → m.first ≡ n.first
    pub last : ((p ≡ q) × (right ≡ None) → ⊥) → m.last ≡ n.last

  -- what the two sides of a seam should be
  pub record Meets (q : ℕ) (left right : Option ℕ) (p : ℕ) (n : Linked T) : Type 0 where
    pub next : left ≡ Some p → n.next ≡ right
    pub prev : right ≡ Some p → n.prev ≡ left
    pub first : p ≡ q → left ≡ None → n.first ≡ right
    pub last : p ≡ q → right ≡ None → n.last ≡ left

  -- the left side is set
  pub record Half (q : ℕ) (right : Option ℕ) (p : ℕ) (m n : Linked T) : Type 0 where
    pub parent : m.parent ≡ n.parent
    pub payload : m.payload ≡ n.payload
    pub next : m.next ≡ n.next
    pub prev : right ≢ Some p → m.prev ≡ n.prev
    pub first : m.first ≡ n.first
    pub last : ((p ≡ q) × (right ≡ None) → ⊥) → m.last ≡ n.last

  -- a cell that stands where one should
  pub data Stands (P : Linked T → Type 0) (o : Option (Linked T)) : Type 0 where
    stands : (m : Linked T) → o ≡ Some m → P m → Stands P o

  at_it : (f : Linked T → Linked T) (k p : ℕ) (cells : ℕ → Option (Linked T)) (m : Linked T) → p ≡ k → cells p ≡ Some m → altered f k cells p ≡ Some (f m)
  at_it f k p cells m e is = ap (λ b. cond b (option_map f (cells p)) (cells p)) (eq-eqb p k e) ∙ ap (option_map f) is

  off_it : (f : Linked T → Linked T) (k p : ℕ) (cells : ℕ → Option (Linked T)) → p ≢ k → altered f k cells p ≡ cells p
  off_it f k p cells d = ap (λ b. cond b (option_map f (cells p)) (cells p)) (ne_eqb p k d)

  left_step : (q p : ℕ) (left right : Option ℕ) (cells : ℕ → Option (Linked T)) (n : Linked T) → Meets q left right p n
      → Stands (λ m. Near q left right p m n) (cells p) → Stands (λ m. Half q right p m n) (right_set (Some q) left right cells p)
  left_step q p (Some l) right cells n meets (stands m is near) = elim (cases_eq p l) [
    | inl e ↦ stands (with_next right m) (at_it (with_next right) l p cells m e is)
        (record {
          parent = near.parent;
          payload = near.payload;
          next = sym (meets.next (ap Some (sym e)));
          prev = near.prev;
          first = near.first (λ h. absurd (cc));
          last = near.last;
        })
    | inr d ↦ stands m (off_it (with_next right) l p cells d ∙ is)
        (record {
          parent = near.parent;
          payload = near.payload;
          next = near.next (λ h. d (search (sym h)));
          prev = near.prev;
          first = near.first (λ h. absurd (cc));
          last = near.last;
        })
  ]
  left_step q p None right cells n meets (stands m is near) = elim (cases_eq p q) [
    | inl e ↦ stands (with_first right m) (at_it (with_first right) q p cells m e is)
        (record {
          parent = near.parent;
          payload = near.payload;
          next = near.next (λ h. absurd (cc));
          prev = near.prev;
          first = sym (meets.first e refl);
          last = near.last;
        })
    | inr d ↦ stands m (off_it (with_first right) q p cells d ∙ is)
        (record {
          parent = near.parent;
          payload = near.payload;
          next = near.next (λ h. absurd (cc));
          prev = near.prev;
          first = near.first (λ h. d h.0);
          last = near.last;
        })
  ]

  right_step : (q p : ℕ) (left right : Option ℕ) (cells : ℕ → Option (Linked T)) (n : Linked T) → Meets q left right p n
      → Stands (λ m. Half q right p m n) (cells p) → left_set (Some q) left right cells p ≡ Some n
  right_step q p left (Some r) cells n meets (stands m is half) = elim (cases_eq p r) [
    | inl e ↦ at_it (with_prev left) r p cells m e is
        ∙ ap Some (same_cell (with_prev left m) n half.parent half.first (half.last (λ h. absurd (cc))) (sym (meets.prev (ap Some (sym e)))) half.next half.payload)
    | inr d ↦ off_it (with_prev left) r p cells d ∙ is
        ∙ ap Some (same_cell m n half.parent half.first (half.last (λ h. absurd (cc))) (half.prev (λ h. d (search (sym h)))) half.next half.payload)
  ]
  right_step q p left None cells n meets (stands m is half) = elim (cases_eq p q) [
    | inl e ↦ at_it (with_last left) q p cells m e is
        ∙ ap Some (same_cell (with_last left m) n half.parent half.first (sym (meets.last e refl)) (half.prev (λ h. absurd (cc))) half.next half.payload)
    | inr d ↦ off_it (with_last left) q p cells d ∙ is
        ∙ ap Some (same_cell m n half.parent half.first (half.last (λ h. d h.0)) (half.prev (λ h. absurd (cc))) half.next half.payload)
  ]

  -- both sides of the seam are set
  pub joined_at : (q p : ℕ) (left right : Option ℕ) (cells : ℕ → Option (Linked T)) (n : Linked T) → Meets q left right p n
      → Stands (λ m. Near q left right p m n) (cells p) → joined (Some q) left right cells p ≡ Some n
  joined_at q p left right cells n meets near =
      right_step q p left right (right_set (Some q) left right cells) n meets (left_step q p left right cells n meets near)

  dead_at : (f : Linked T → Linked T) (k p : ℕ) (cells : ℕ → Option (Linked T)) → cells p ≡ None → altered f k cells p ≡ None
  dead_at f k p cells none = go (p == k)
    where
      go : (b : Bool) → cond b (option_map f (cells p)) (cells p) ≡ None
      go true = ap (option_map f) none
      go false = none

  right_dead : (parent left right : Option ℕ) (p : ℕ) (cells : ℕ → Option (Linked T)) → cells p ≡ None → right_set parent left right cells p ≡ None
  right_dead parent (Some l) right p cells none = dead_at (with_next right) l p cells none
  right_dead (Some q) None right p cells none = dead_at (with_first right) q p cells none
  right_dead None None right p cells none = none

  left_dead : (parent left right : Option ℕ) (p : ℕ) (cells : ℕ → Option (Linked T)) → cells p ≡ None → left_set parent left right cells p ≡ None
  left_dead parent left (Some r) p cells none = dead_at (with_prev left) r p cells none
  left_dead (Some q) left None p cells none = dead_at (with_last left) q p cells none
  left_dead None left None p cells none = none

  -- a dead cell stays dead
  pub joined_dead : (parent left right : Option ℕ) (p : ℕ) (cells : ℕ → Option (Linked T)) → cells p ≡ None → joined parent left right cells p ≡ None
  joined_dead parent left right p cells none = left_dead parent left right p _ (right_dead parent left right p cells none)

  -- ---- the seam in the rows

  -- rows whose row q has the children `pre` and `post` have their two ends meet there
  pub meets : (rows : Rows T) (q : ℕ) (d : StoreRow T) (pre post : List ℕ) → get rows q ≡ Some d → d.children ≡ pre ++ post → Distinct (pre ++ post) → LinksDown rows
      → (p : ℕ) (e : StoreRow T) → get rows p ≡ Some e → Meets q (last_of pre) (head_of post) p (linked_at rows p e)
  meets rows q d pre post has parts once down p e is =
      record { next = next_is; prev = prev_is post refl; first = first_is; last = last_is }
    where
      of_q : d.children ≡ pre ++ post → is_listed p (pre ++ post) ≡ true → children_of rows e.parent ≡ pre ++ post
      of_q same listed =
          let up : parent_of rows p ≡ Some q = down p q (child_at rows q p d has ∙ ap (is_listed p) same ∙ listed) in
          ap (children_of rows) (sym (parent_at rows p e is) ∙ up) ∙ ap children_in has ∙ same

      next_is : last_of pre ≡ Some p → after p (children_of rows e.parent) ≡ head_of post
      next_is l =
          ap (after p) (of_q parts (list_any-append (λ c. c == p) pre post ∙ ap (λ b. b || is_listed p post) (last_listed pre p l)))
          ∙ after_end p pre post (distinct_left pre post once) l

      prev_is : (zs : List ℕ) → post ≡ zs → head_of zs ≡ Some p → before p (children_of rows e.parent) ≡ last_of pre
      prev_is [] same h = absurd (cc)
      prev_is (z ∷ zs) same h =
          let it : z ≡ p = search h in
          let fits : post ≡ p ∷ zs = same ∙ ap (λ c. c ∷ zs) it in
          let one : Distinct (pre ++ p ∷ zs) = subst (λ l. Distinct (pre ++ l)) fits once in
          ap (before p) (of_q parts (list_any-append (λ c. c == p) pre post ∙ or_right (is_listed p pre) _ (head_listed post p (ap head_of fits))) ∙ ap (λ l. pre ++ l) fits)
          ∙ before_at p pre zs (left_fresh p pre zs one) (right_fresh p pre zs one)

      own : p ≡ q → e.children ≡ pre ++ post
      own same =
          let some : Some e ≡ Some d = sym is ∙ ap (get rows) same ∙ has in
          let it : e ≡ d = search some in
          ap (λ y. y.children) it ∙ parts

      first_is : p ≡ q → last_of pre ≡ None → head_of e.children ≡ head_of post
      first_is same none = ap head_of (own same) ∙ ap (λ l. head_of (l ++ post)) (no_last pre none)

      last_is : p ≡ q → head_of post ≡ None → last_of e.children ≡ last_of pre
      last_is same none = ap last_of (own same) ∙ ap (λ l. last_of (pre ++ l)) (no_head post none) ∙ ap last_of (append-nil pre)
