-- A new node, for a buffer with these fields: what contracts say of it then.
use Rattle.std.proofs.Common.{◌≡◌, ℕ, ◌+◌, Bool, true, false, cond, ◌&&◌, ◌||◌, List, [], ◌∷◌, ◌++◌, length, map, refl, sym, ◌∙◌, ap, subst, inl, inr, ◌⊎◌, Some, None, Option}
use Rattle.std.specs.Prelude.{is_some}
use Rattle.std.specs.Ordering.{nat_cmp}
use Rattle.std.specs.FinSet.{FinSet, contains, retain, union}
use Rattle.std.proofs.Math.Bool.{or-false}
use Rattle.gcx_base.specs.declared.kind.Kind.{Kind}
use Rattle.gcx_model.specs.Growth.{may_come}
use Rattle.gcx_model.specs.Held.{held}
use Rattle.gcx_model.specs.Past.{Past, IsPast, IsNode, past_grown, token_for}
use Rattle.gcx_model.specs.Tree.{Node, TreeToken, serial_of, grow}
use Rattle.tree_laws.proofs.Lists.{In, In-left}
use Rattle.tree_laws.proofs.Matches.{added, grow_nodes}
use Rattle.past_laws.proofs.PastForms.{past_feeds}
use Rattle.buf_tree.specs.declared.ahead.Ahead.{Ahead}
use Rattle.buf_tree.specs.PassedCalls.{OpenedWith, LeftTo, KeptTo, MayOpenWith, MayOpenKept, StandsWith}
use Rattle.buf_tree.specs.Rows.{below_row, covered_by}
use Rattle.buf_tree.specs.Shape.{Cell, num, CellsRise, Above, at_place}
use Rattle.buf_tree.specs.Spread.{SpreadView, SpreadsAs, is_spread_in, kept_roles, roles_at, seen_rows}
use Rattle.buf_tree.specs.Stands.{seen, told, StandsFor}
use Rattle.buf_tree.specs.Tops.{KeptOf}
use Rattle.buf_tree.specs.View.{View, Innermost}
use Rattle.buf_tree.proofs.Feeding.{top_is}
use Rattle.buf_tree.proofs.KeptStands.{kept_set, kept_fed, kept_nums, kept_moved}
use Rattle.buf_tree.proofs.Lifting.{seen_apart, seen_from}
use Rattle.buf_tree.proofs.OpenedSpread.{known_born, seen_born, keeps_born}
use Rattle.buf_tree.proofs.PushedSeen.{pushed_seen, none_keeps}
use Rattle.buf_tree.proofs.Shaping.{at_place_is}
use Rattle.buf_tree.proofs.SignedViews.{view_of}
use Rattle.buf_tree.proofs.Spreading.{in_union, in_retain, same_roles, Upward, upward, spread_cell}
use Rattle.buf_tree.proofs.WithRoles.{stands_with}

off : (b : Bool) → (b && false) ≡ false
off true = refl
off false = refl

-- a past that tells of the new node: it stands for the rows seen, c0 is the row of its innermost open node, and these roles are left to the new one
abbrev pub Tells : Option SpreadView → List Cell → Cell → Kind → (nodes : ℕ) → FinSet nat_cmp → Past → Type 0
Tells s ks c0 kind nodes roles past = IsPast past × SpreadsAs s past.plan × (map seen (seen_rows s ks) ≡ map (told past) (held past.plan past.tree past.acts)) × (may_come (token_for kind) past.tree ≡ true) × LeftTo past (token_for kind) roles
    × (nodes ≡ length past.tree.nodes) × ((p : Node) × (past.tree.at ≡ Some p) × (num c0 ≡ serial_of p))

-- with the spread roles of its parent the new row has all that are left to it
new_seen : (s : Option SpreadView) (ks : List Cell) → Upward [] ks → CellsRise ks → (q : ℕ) (c0 : Cell) → In c0 ks → c0.place ≡ q → (kind : Kind) → IsNode kind → (nodes : ℕ) (roles R : FinSet nat_cmp) → KeptOf s ks q kind nodes roles R
    → (s ≡ None) ⊎ ((past : Past) × Tells s ks c0 kind nodes roles past) → union R (retain (roles_at (seen_rows s ks) (num c0)) (is_spread_in s)) ≡ roles
new_seen None ks up rise q c0 i0 here kind node nodes roles R keeps may =
    same_roles (union R (retain (roles_at (seen_rows None ks) (num c0)) (is_spread_in None))) R (λ k.
    in_union R (retain (roles_at (seen_rows None ks) (num c0)) (is_spread_in None)) k
    ∙ (ap (λ b. contains R k || b) (in_retain (roles_at (seen_rows None ks) (num c0)) (is_spread_in None) k ∙ off (contains (roles_at (seen_rows None ks) (num c0)) k)) ∙ or-false (contains R k)))
    ∙ keeps
new_seen (Some w) ks up rise q c0 i0 here kind node nodes roles R keeps (inl f) = absurd (cc)
new_seen (Some w) ks up rise q c0 i0 here kind node nodes roles R keeps (inr x) =
    let t = x.1 in
    subst (λ (z : ℕ). union R (retain (roles_at (seen_rows (Some w) ks) z) (is_spread_in (Some w))) ≡ roles) (sym t.6.2)
    (seen_born w ks up rise x.0 t.0 t.1 t.2 kind node t.3 t.6.0 t.6.1 roles t.4 q c0 i0 here t.6.2 R (subst (λ (z : ℕ). KeptOf (Some w) ks q kind z roles R) t.5 keeps))

-- each past that the rows stood for tells that these are kept there
new_keeps : (s : Option SpreadView) (ks : List Cell) → Upward [] ks → CellsRise ks → (q : ℕ) (c0 : Cell) → In c0 ks → c0.place ≡ q → (kind : Kind) → IsNode kind → (nodes : ℕ) (roles R : FinSet nat_cmp) → KeptOf s ks q kind nodes roles R
    → (past : Past) → Tells s ks c0 kind nodes roles past → map (λ c. c.row.roles) ks ≡ map (kept_set s past) (held past.plan past.tree past.acts) → (c : Cell) → num c ≡ length past.tree.nodes → c.row.roles ≡ R → Upward [] (ks ++ c ∷ [])
    → map seen (seen_rows s (ks ++ c ∷ [])) ≡ map (told (past_grown (token_for kind) past)) (held past.plan (grow (token_for kind) past.tree) past.acts)
    → map (λ d. d.row.roles) (ks ++ c ∷ []) ≡ map (kept_set s (past_grown (token_for kind) past)) (held past.plan (grow (token_for kind) past.tree) past.acts)
new_keeps None ks up rise q c0 i0 here kind node nodes roles R keeps past t kept c nc rc up' rows = none_keeps (past_grown (token_for kind) past) (ks ++ c ∷ []) up' rows
new_keeps (Some w) ks up rise q c0 i0 here kind node nodes roles R keeps past t kept c nc rc up' rows =
    keeps_born w ks up rise past t.0 t.1 t.2 kind node t.3 t.6.0 t.6.1 roles t.4 q c0 i0 here t.6.2 R (subst (λ (z : ℕ). KeptOf (Some w) ks q kind z roles R) t.5 keeps) c nc rc (seen_rows (Some w) (ks ++ c ∷ [])) (kept_nums (Some w) (ks ++ c ∷ []) up') kept rows

-- what a past tells of what is kept there is what the rows tell
new_known : (s : Option SpreadView) (ks : List Cell) → Upward [] ks → CellsRise ks → ((a b : Cell) → In a ks → In b ks → a.place ≡ b.place → a ≡ b) → (q : ℕ) (c0 : Cell) → In c0 ks → c0.place ≡ q → (kind : Kind) → IsNode kind → (nodes : ℕ) (roles R : FinSet nat_cmp)
    → (s ≡ None) ⊎ ((past : Past) × Tells s ks c0 kind nodes roles past × KeptTo past (token_for kind) R) → KeptOf s ks q kind nodes roles (cond (is_some s) R roles)
new_known None ks up rise apart q c0 i0 here kind node nodes roles R may = refl
new_known (Some w) ks up rise apart q c0 i0 here kind node nodes roles R (inl f) = absurd (cc)
new_known (Some w) ks up rise apart q c0 i0 here kind node nodes roles R (inr x) =
    let t = x.1 in
    subst (λ (z : ℕ). KeptOf (Some w) ks q kind z roles R) (sym t.5)
    (known_born w ks up rise x.0 t.0 t.1 t.2 kind node t.3 t.6.0 t.6.1 roles t.4 q c0 i0 here t.6.2 apart R x.2)

-- a token leaves what is kept at the nodes before, whenever statements were carried out
kept_grown : (s : Option SpreadView) (past : Past) → IsPast past → (t : TreeToken) (n : Node) → In n past.tree.nodes → kept_roles s (past_grown t past) n ≡ kept_roles s past n
kept_grown None past is t n i = kept_fed None past is t n i
kept_grown (Some w) past is t n i = kept_fed (Some w) past is t n i

module _ (s : Option SpreadView) (ks : List Cell) (g0 : List ℕ) (waiting : List Ahead) (nodes taken0 most0 : ℕ) (loans0 : List ℕ) (rise : CellsRise ks) (above : (c : Cell) → In c ks → (num c ≡ 0) ⊎ Above ks c)
    (apart : (a b : Cell) → In a ks → In b ks → a.place ≡ b.place → a ≡ b) (q : ℕ) (i : Innermost (seen_rows s ks) q) (kind : Kind) (node : IsNode kind) (roles : FinSet nat_cmp) where
  abbrev v : View
  v = view_of s ks g0 waiting nodes taken0 most0 loans0

  up : Upward [] ks
  up = upward ks rise above

  here : at_place q v.rows ≡ Some i.cell
  here = ap (λ k. at_place k v.rows) (sym i.place) ∙ at_place_is v.rows (seen_apart s ks up apart) i.cell i.among

  -- the row of the innermost open node, as it is kept
  inner : (c : Cell) × In c ks × (spread_cell (is_spread_in s) (seen_rows s ks) c ≡ i.cell)
  inner = seen_from s ks up i.cell i.among

  more : (past : Past) (n : Node) → In n past.tree.nodes → In n (grow (token_for kind) past.tree).nodes
  more past n j = subst (λ (zs : List Node). In n zs) (sym (grow_nodes (token_for kind) past.tree)) (In-left n past.tree.nodes (added (token_for kind) past.tree) j)

  is_now : (past : Past) → IsPast past → may_come (token_for kind) past.tree ≡ true → IsPast (past_grown (token_for kind) past)
  is_now past is m = let f = past_feeds past is (token_for kind) m in record { core = f.core; good = f.good; placed = f.placed; grown = f.grown; stated = f.stated; within = is.within }

  -- a node that is gone at once
  pub stands_bare : (g1 : List ℕ) (taken1 ahead : ℕ) (loans1 : List ℕ) → OpenedWith v (view_of s ks g1 waiting (nodes + 1) taken1 most0 loans1) q None kind roles ahead → StandsWith v (view_of s ks g1 waiting (nodes + 1) taken1 most0 loans1) kind roles
  stands_bare g1 taken1 ahead loans1 c = stands_with v (view_of s ks g1 waiting (nodes + 1) taken1 most0 loans1) q None kind roles i here node ahead c (λ past st m left.
      kept_moved s past (past_grown (token_for kind) past) st.is_past (is_now past st.is_past m) (more past) (λ n j. kept_grown s past st.is_past (token_for kind) n j) ks (seen_rows s ks) ks (seen_rows s ks) (kept_nums s ks up) st.rows st.kept (kept_nums s ks up)
      (λ d j. inl (d, j, refl, refl)))

  place_inner : inner.0.place ≡ q
  place_inner = ap (λ (z : Cell). z.place) inner.2 ∙ i.place

  tells : (past : Past) → StandsFor v past → may_come (token_for kind) past.tree ≡ true → LeftTo past (token_for kind) roles → Tells s ks inner.0 kind nodes roles past
  tells past st m left = let top = top_is v past q st i in (st.is_past, st.spread, st.rows, m, left, st.nodes, (top.0, top.1, ap num inner.2 ∙ sym top.2))

  -- where it is known what is kept at it
  pub kept_known : (R : FinSet nat_cmp) → MayOpenKept v (token_for kind) roles R → KeptOf s ks q kind nodes roles (cond (is_some s) R roles)
  kept_known R may = new_known s ks up rise apart q inner.0 inner.1 place_inner kind node nodes roles R (elim may [ inl e ↦ inl e | inr x ↦ inr (x.0, tells x.0 x.1 x.2 x.3, x.4) ])

  -- Its row c keeps R, and stands below that of the innermost open node.
  module _ (R : FinSet nat_cmp) (keeps : KeptOf s ks q kind nodes roles R) (may : MayOpenWith v (token_for kind) roles) (parent level p : ℕ) (covered : Bool) (below : parent ≡ num i.cell) where
    abbrev pub c : Cell
    c = record { place = p; row = covered_by covered (below_row parent level nodes kind R) }

    parent_is : num inner.0 ≡ parent
    parent_is = ap num inner.2 ∙ sym below

    pub roles_are : union R (retain (roles_at (seen_rows s ks) parent) (is_spread_in s)) ≡ roles
    roles_are = subst (λ (z : ℕ). union R (retain (roles_at (seen_rows s ks) z) (is_spread_in s)) ≡ roles) parent_is
        (new_seen s ks up rise q inner.0 inner.1 place_inner kind node nodes roles R keeps (elim may [ inl e ↦ inl e | inr x ↦ inr (x.0, tells x.0 x.1 x.2 x.3) ]))

    -- the row as contracts see it
    pub seen_new : seen_rows s (ks ++ record { place = p; row = covered_by covered (below_row parent level nodes kind R) } ∷ []) ≡ seen_rows s ks ++ record { place = p; row = below_row parent level nodes kind roles } ∷ []
    seen_new = pushed_seen s ks up above c ∙ ap (λ (S : FinSet nat_cmp). seen_rows s ks ++ record { place = p; row = below_row parent level nodes kind S } ∷ []) roles_are

    module _ (up' : Upward [] (ks ++ record { place = p; row = covered_by covered (below_row parent level nodes kind R) } ∷ [])) where
      pub stands_row : (taken1 ahead most1 : ℕ) (loans1 : List ℕ) → OpenedWith v (view_of s (ks ++ c ∷ []) g0 waiting (nodes + 1) taken1 most1 loans1) q (Some p) kind roles ahead → StandsWith v (view_of s (ks ++ c ∷ []) g0 waiting (nodes + 1) taken1 most1 loans1) kind roles
      stands_row taken1 ahead most1 loans1 o = stands_with v (view_of s (ks ++ c ∷ []) g0 waiting (nodes + 1) taken1 most1 loans1) q (Some p) kind roles i here node ahead o (λ past st m left.
          new_keeps s ks up rise q inner.0 inner.1 place_inner kind node nodes roles R keeps past (tells past st m left) st.kept c st.nodes refl up')
