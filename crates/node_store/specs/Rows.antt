-- What a contract sees of a store: the rows, each under its place. All definitions here are this project's.
use Rattle.std.specs.List.{list_any}
use Rattle.std.specs.Prelude.{true, false, ◌≡◌, ◌==◌, ℕ, zero, suc, Bool, not, List, [], ◌∷◌, ◌++◌, Option, Some, None, IsSome, filter, unwrap_or, if◌then◌else◌, option_and_then, refl}
use Rattle.std.specs.Ordering.{nat_cmp}
use Rattle.std.specs.Coded.{Coded, code_by, coded×, coded_ℕ, coded_list, coded_option}
use Rattle.std.specs.FinMap as map

pub record StoreRow (T : Type 0) : Type 0 where
  pub parent : Option ℕ
  pub children : List ℕ
  pub payload : T

-- the rows of a store, each under its place
abbrev pub Rows : Type 0 → Type 0
Rows T = map.FinMap nat_cmp (StoreRow T)

-- the first and the last of a list of children
abbrev pub head_of : List ℕ → Option ℕ
head_of [] = None
head_of (c ∷ cs) = Some c

abbrev pub last_of : List ℕ → Option ℕ
last_of [] = None
last_of (c ∷ cs) = Some (unwrap_or (last_of cs) c)

-- the list begins with k
abbrev pub starts : ℕ → List ℕ → Bool
starts k [] = false
starts k (c ∷ cs) = c == k

-- the child after k, and the one before it
abbrev pub after : ℕ → List ℕ → Option ℕ
after k [] = None
after k (c ∷ cs) = if c == k then head_of cs else after k cs

abbrev pub before : ℕ → List ℕ → Option ℕ
before k [] = None
before k (c ∷ cs) = if starts k cs then Some c else before k cs

abbrev pub is_listed : ℕ → List ℕ → Bool
is_listed k cs = list_any (λ c. c == k) cs

-- no number stands twice
abbrev pub Distinct : List ℕ → Type 0
Distinct [] = Unit {0}
Distinct (c ∷ cs) = (is_listed c cs ≡ false) × Distinct cs

module _ {T : Type 0} where
  abbrev pub leaf : Option ℕ → T → StoreRow T
  leaf parent payload = record { parent = parent; children = []; payload = payload }

  abbrev pub with_child : ℕ → StoreRow T → StoreRow T
  with_child k e = record e { children = e.children ++ k ∷ [] }

  abbrev pub without_child : ℕ → StoreRow T → StoreRow T
  without_child k e = record e { children = filter (λ c. not (c == k)) e.children }

  abbrev pub with_payload : T → StoreRow T → StoreRow T
  with_payload x e = record e { payload = x }

  -- the payload changed by f
  abbrev pub paid_by : (T → T) → StoreRow T → StoreRow T
  paid_by f e = record e { payload = f e.payload }

  -- the row at q changed by f, where there is one
  abbrev pub changed : (StoreRow T → StoreRow T) → ℕ → Rows T → Option (StoreRow T) → Rows T
  changed f q rows None = rows
  changed f q rows (Some e) = map.insert rows q (f e)

  abbrev pub changed_at : (StoreRow T → StoreRow T) → ℕ → Rows T → Rows T
  changed_at f q rows = changed f q rows (map.get rows q)

  -- `plant`
  abbrev pub planted : Rows T → ℕ → T → Rows T
  planted rows p x = map.insert rows p (leaf None x)

  -- `append`
  abbrev pub appended : Rows T → ℕ → ℕ → T → Rows T
  appended rows q p x = changed_at (with_child p) q (map.insert rows p (leaf (Some q) x))

  abbrev pub parent_of : Rows T → ℕ → Option ℕ
  parent_of rows p = option_and_then (λ e. e.parent) (map.get rows p)

  abbrev pub left_by : Rows T → ℕ → Option ℕ → Rows T
  left_by rows p None = rows
  left_by rows p (Some q) = changed_at (without_child p) q rows

  -- `unlink_leaf`
  abbrev pub unlinked : Rows T → ℕ → Rows T
  unlinked rows p = left_by (map.remove rows p) p (parent_of rows p)

  abbrev pub children_in : Option (StoreRow T) → List ℕ
  children_in None = []
  children_in (Some e) = e.children

  abbrev pub children_of : Rows T → Option ℕ → List ℕ
  children_of rows None = []
  children_of rows (Some q) = children_in (map.get rows q)

  abbrev pub next_of : Rows T → ℕ → Option ℕ
  next_of rows p = after p (children_of rows (parent_of rows p))

  abbrev pub prev_of : Rows T → ℕ → Option ℕ
  prev_of rows p = before p (children_of rows (parent_of rows p))

  -- p is a child of the row at q
  abbrev pub is_child : Rows T → ℕ → ℕ → Bool
  is_child rows q p = is_listed p (children_in (map.get rows q))

  -- each row with a parent is a child of it
  abbrev pub LinksUp : Rows T → Type 0
  LinksUp rows = (p q : ℕ) → parent_of rows p ≡ Some q → is_child rows q p ≡ true

  -- and each child has the row as its parent
  abbrev pub LinksDown : Rows T → Type 0
  LinksDown rows = (p q : ℕ) → is_child rows q p ≡ true → parent_of rows p ≡ Some q

  -- n steps from a row to its parent lead from p to the root
  abbrev pub Rises : Rows T → Option ℕ → ℕ → ℕ → Type 0
  Rises rows root zero p = root ≡ Some p
  Rises rows root (suc n) p = (q : ℕ) × (parent_of rows p ≡ Some q) × Rises rows root n q

-- The rows form one tree under the root, or there are none: the root is a row without a parent, the rows' parents and
-- lists of children agree, no child is listed twice, and from each row the parents lead up to the root. So there is no
-- row where `root` is None, no other row without a parent, and no ring of rows.
pub record IsTree {T : Type 0} (rows : Rows T) (root : Option ℕ) : Type 0 where
  pub top : (p : ℕ) → root ≡ Some p → (e : StoreRow T) × (map.get rows p ≡ Some e) × (e.parent ≡ None)
  pub up : LinksUp rows
  pub down : LinksDown rows
  pub once : (p : ℕ) (e : StoreRow T) → map.get rows p ≡ Some e → Distinct e.children
  pub rises : (p : ℕ) → IsSome (map.get rows p) → (n : ℕ) × Rises rows root n p

-- all that a contract sees of a store: its rows, its root, and the greatest number of rows so far
pub record Seen (T : Type 0) : Type 0 where
  pub rows : Rows T
  pub root : Option ℕ
  pub most : ℕ

abbrev pub entry_code : {T : Type 0} → Coded T → Coded (StoreRow T)
entry_code {T} code =
    code_by
    (Option ℕ × (List ℕ × T))
    (coded× (coded_option coded_ℕ) (coded× (coded_list coded_ℕ) code))
    (λ e. (e.parent, (e.children, e.payload)))
    (λ p. record { parent = p.0; children = p.1.0; payload = p.1.1 })
    (λ _. refl)

abbrev pub seen_code : {T : Type 0} → Coded T → Coded (Seen T)
seen_code {T} code =
    code_by
    (Rows T × (Option ℕ × ℕ))
    (coded× (map.code coded_ℕ (entry_code code)) (coded× (coded_option coded_ℕ) coded_ℕ))
    (λ s. (s.rows, (s.root, s.most)))
    (λ p. record { rows = p.0; root = p.1.0; most = p.1.1 })
    (λ _. refl)
