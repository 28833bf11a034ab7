-- Whether a statement reaches a row from a base at which it isn't signed, told on the way up.
use Rattle.std.proofs.Common.{◌≡◌, ℕ, ◌<◌, Bool, true, false, ◌&&◌, List, [], ◌∷◌, ◌++◌, length, refl, sym, ◌∙◌, ap, subst, inl, inr, ◌⊎◌, arith, get_or, set, Some, None, Option}
use Rattle.std.proofs.Math.ListN.{replicate}
use Rattle.std.specs.Prelude.{option_map}
use Rattle.std.specs.FinMap.{get}
use Rattle.std.proofs.lemmas.Bool.{false≢true, and_from, ne_eqb, eq-eqb, cases_lt}
use Rattle.gcx_base.specs.declared.kind.Kind.{Kind}
use Rattle.gcx_model.specs.declared.item.Off.{Off}
use Rattle.gcx_model.specs.ItemView.{off_tree, role_kind}
use Rattle.gcx_model.specs.Core.{RoleTarget, Own, First, Whole}
use Rattle.gcx_model.specs.Held.{reaches}
use Rattle.gcx_model.specs.Tree.{Tree, Node, Root, Under, serial_of, above}
use Rattle.tree_laws.proofs.Lists.{In}
use Rattle.tree_laws.proofs.Chains.{above_self, above_trans}
use Rattle.node_store.specs.Rows.{StoreRow, parent_of}
use Rattle.buf_tree.specs.Row.{Row}
use Rattle.buf_tree.specs.Shape.{Store, Cell, cells, Shaped}
use Rattle.buf_tree.specs.Ways.{Tells, NodeOf, Descends, Flags, FlagsBut, TreeOf, IsKept, is_waiting, is_same, is_whole, tail_steps, tail_ends, ends_at}
use Rattle.buf_tree.proofs.Seeking.{cell_row}
use Rattle.buf_tree.proofs.Ways.{flags_start, but_start, flags_last, chain_low, above_low, descends_above}
use Rattle.buf_tree.proofs.Climbing.{tells_descends, one_row, parent_node, no_parent_node}
use Rattle.buf_tree.proofs.Reaching.{gives_leads, gives_above}

-- none keeps the role at n of those that lie deeper than k
abbrev pub Unkept : List Cell → Tree → Off → Node → (k : ℕ) → Type 0
Unkept rows T off n k = (q : ℕ) (b : Node) (u : NodeOf rows q b) → In b (above n) → k < serial_of b → is_waiting u.cell.row off ≡ true → reaches T (off_tree off) b n ≡ true → ⊥

-- on the way up from n
abbrev pub Keeping : List Cell → Tree → Off → Node → Option ℕ → (tails rels : List Bool) → Type 0
Keeping rows T off n None tails rels = IsKept rows T off n → ⊥
Keeping rows T off n (Some p) tails rels =
    (h : Node) × NodeOf rows p h × In h (above n) × Flags (tail_ends (role_kind off.kind) n) (serial_of h) (tail_steps (role_kind off.kind) off.tail) n tails × FlagsBut (ends_at T (role_kind off.kind) off.tail n) (serial_of h) off.rel n rels × Unkept rows T off n (serial_of h)

tail_end : (k : RoleTarget) (n : Node) → true ≡ tail_ends k n n
tail_end Own n = sym (eq-eqb _ _ refl)
tail_end First n = sym (eq-eqb _ _ refl)
tail_end Whole n = refl

tail_up : (k : RoleTarget) (n g : Node) (v : ℕ) (w : Kind) → Descends n → In (Under g v w) (above n) → is_whole k ≡ tail_ends k n g
tail_up k n g v w d i = go k
  where
    other : is_same n g ≡ false
    other =
        let b = above_low n (Under g v w) d i in
        let c = (descends_above n (Under g v w) d i).0 in
        ne_eqb (serial_of g) (serial_of n) (λ z. omega arith)

    go : (k : RoleTarget) → is_whole k ≡ tail_ends k n g
    go Own = sym other
    go First = sym other
    go Whole = refl

module _ (m : Store) (s : Shaped m) (T : Tree) (tree : TreeOf (cells m) T) (off : Off) (n : Node) where
  pub keeping_start : (p : ℕ) → NodeOf (cells m) p n → Keeping (cells m) T off n (Some p) (replicate (length (tail_steps (role_kind off.kind) off.tail)) false ++ true ∷ []) (replicate (length off.rel) false ++ false ∷ [])
  keeping_start p u =
      let d = tells_descends (cells m) u.cell n u.tells in
      (n, u, above_self n, flags_start _ (tail_ends (role_kind off.kind) n) n d true (tail_end (role_kind off.kind) n), but_start off.rel (ends_at T (role_kind off.kind) off.tail n) n d, λ q b w i l x y. let z = above_low n b d i in absurd (omega arith))

  module _ (p place : ℕ) (v : NodeOf (cells m) place n) (tails rels : List Bool) (l : Keeping (cells m) T off n (Some p) tails rels) (end : Bool) (is : end ≡ ends_at T (role_kind off.kind) off.tail n l.0) where
    d : Descends n
    d = tells_descends (cells m) v.cell n v.tells

    -- the flags once the last one is set
    pub keeping_flags : Flags (ends_at T (role_kind off.kind) off.tail n) (serial_of l.0) off.rel n (set rels (length off.rel) end)
    keeping_flags = flags_last off.rel rels (ends_at T (role_kind off.kind) off.tail n) n l.0 d l.2 l.4 end is

    keeping_reach : get_or (set rels (length off.rel) end) 0 false ≡ reaches T (off_tree off) l.0 n
    keeping_reach = keeping_flags.each 0 (omega arith) ∙ sym (gives_leads m s T tree l.0 n off.rel off.tail (role_kind off.kind) (tree.told p l.0 l.1) (tree.told place n v))

    pub keeping_found : (r : Row) → option_map (λ (e : StoreRow Row). e.payload) (get m p) ≡ Some r → get_or (set rels (length off.rel) end) 0 false ≡ true → is_waiting r off ≡ true → IsKept (cells m) T off n
    keeping_found r f e w = record {
      place = p;
      base = l.0;
      at = l.1;
      waits = ap (λ (x : Row). is_waiting x off) (cell_row m s l.1.cell l.1.among p l.1.place r f) ∙ w;
      reached = sym keeping_reach ∙ e;
    }

    here : (r : Row) → option_map (λ (e : StoreRow Row). e.payload) (get m p) ≡ Some r → (get_or (set rels (length off.rel) end) 0 false && is_waiting r off) ≡ false
        → (q : ℕ) (b : Node) (u : NodeOf (cells m) q b) → b ≡ l.0 → is_waiting u.cell.row off ≡ true → reaches T (off_tree off) b n ≡ true → ⊥
    here r f e q b u is w y =
        let k : Tells (cells m) u.cell l.0 = subst (λ (x : Node). Tells (cells m) u.cell x) is u.tells in
        let same : u.cell ≡ l.1.cell = one_row (cells m) s.rising u.cell l.1.cell l.0 u.among l.1.among k l.1.tells in
        let row : u.cell.row ≡ r = ap (λ (c : Cell). c.row) same ∙ cell_row m s l.1.cell l.1.among p l.1.place r f in
        false≢true (sym e ∙ and_from _ _ (keeping_reach ∙ ap (λ (x : Node). reaches T (off_tree off) x n) (sym is) ∙ y) (ap (λ (x : Row). is_waiting x off) (sym row) ∙ w))

    -- on to the parent
    pub keeping_on : (o : Option ℕ) → o ≡ parent_of m p → (r : Row) → option_map (λ (e : StoreRow Row). e.payload) (get m p) ≡ Some r → (get_or (set rels (length off.rel) end) 0 false && is_waiting r off) ≡ false
        → (tails' rels' : List Bool)
        → ((g : Node) (v : ℕ) → In (Under g v r.kind) (above n) → is_whole (role_kind off.kind) ≡ tail_ends (role_kind off.kind) n g → Flags (tail_ends (role_kind off.kind) n) v (tail_steps (role_kind off.kind) off.tail) n tails → Flags (tail_ends (role_kind off.kind) n) (serial_of g) (tail_steps (role_kind off.kind) off.tail) n tails')
        → ((g : Node) (v : ℕ) → In (Under g v r.kind) (above n) → Flags (ends_at T (role_kind off.kind) off.tail n) v off.rel n (set rels (length off.rel) end) → FlagsBut (ends_at T (role_kind off.kind) off.tail n) (serial_of g) off.rel n rels')
        → Keeping (cells m) T off n o tails' rels'
    keeping_on None e r f none tails' rels' a b =
        let root : l.0 ≡ Root = no_parent_node m s p l.0 l.1 (sym e) in
        λ k.
        let up = gives_above m s T tree k.base n off.rel off.tail (role_kind off.kind) (tree.told k.place k.base k.at) (tree.told place n v) k.reached in
        elim (low k.base up) [
          | inl i ↦ elim (subst (λ (x : Node). In k.base (above x)) root i) [ inl z ↦ here r f none k.place k.base k.at (sym z ∙ sym root) k.waits k.reached | inr z ↦ absurd z ]
          | inr i ↦ l.5 k.place k.base k.at up i k.waits k.reached
        ]
      where
        low : (b : Node) → In b (above n) → In b (above l.0) ⊎ (serial_of l.0 < serial_of b)
        low b i = elim (cases_lt (serial_of l.0) (serial_of b)) [ inl x ↦ inr x | inr x ↦ inl (chain_low n l.0 b d l.2 i x) ]
    keeping_on (Some q) e r f none tails' rels' a b =
        let k = parent_node m s p q l.0 l.1 (sym e) r f in
        let i : In (Under k.0 (serial_of l.0) r.kind) (above n) = subst (λ (x : Node). In x (above n)) k.1 l.2 in (
          k.0,
          k.2,
          above_trans k.0 (Under k.0 (serial_of l.0) r.kind) n (inr (above_self k.0)) i,
          a k.0 (serial_of l.0) i (tail_up (role_kind off.kind) n k.0 (serial_of l.0) r.kind d i) l.3,
          b k.0 (serial_of l.0) i keeping_flags,
          λ x c u j t w y. elim (cases_lt (serial_of l.0) (serial_of c)) [
            | inl z ↦ l.5 x c u j z w y
            | inr z ↦ elim (subst (λ (x : Node). In c (above x)) k.1 (chain_low n l.0 c d l.2 j z)) [
              | inl g ↦ here r f none x c u (sym g ∙ sym k.1) w y
              | inr g ↦ (let h = above_low k.0 c (descends_above n k.0 d (above_trans k.0 (Under k.0 (serial_of l.0) r.kind) n (inr (above_self k.0)) i)) g in absurd (omega arith))
            ]
          ],
        )
