-- The signs tell which roles of the innermost node are taken back.
use Rattle.std.proofs.Common.{◌≡◌, ℕ, ◌<◌, ◌≤◌, Bool, true, false, not, ◌&&◌, ◌||◌, List, [], ◌∷◌, ◌++◌, length, refl, sym, ◌∙◌, ap, subst, inl, inr, ◌⊎◌, arith, Some, None, Option}
use Rattle.std.specs.Prelude.{slice_get, map}
use Rattle.std.proofs.lemmas.Bool.{false≢true, and_parts, and_from, or_left, false_from_ne_true}
use Rattle.gcx_base.specs.declared.ids.Role.{Role}
use Rattle.gcx_model.specs.Tree.{Node, serial_of, above}
use Rattle.gcx_model.specs.Paths.{hits, matches}
use Rattle.gcx_model.specs.Nodes.{Grown}
use Rattle.gcx_model.specs.Growth.{level}
use Rattle.gcx_model.specs.Given.{IsAboveLast}
use Rattle.gcx_model.specs.Core.{OffTree}
use Rattle.gcx_model.specs.ItemView.{role_kind}
use Rattle.gcx_model.specs.Held.{path_of, statement_of, given, signed, reaches, all_signed, on_off, taken, roles_taken}
use Rattle.gcx_model.specs.Placed.{row_at, offs_in}
use Rattle.gcx_model.specs.Past.{Past, IsLast}
use Rattle.tree_laws.proofs.Lists.{In, In-left, In-right, In-append}
use Rattle.tree_laws.proofs.Matches.{Matches-in, Matches-from}
use Rattle.tree_laws.proofs.Chains.{above_in, above_trans}
use Rattle.placed_laws.proofs.Stays.{all_in, all_from}
use Rattle.past_laws.proofs.Bases.{or_not}
use Rattle.tree_laws.proofs.Fed.{grown_from}
use Rattle.placed_laws.proofs.Told.{Told, told, given_told, taken_told}
use Rattle.placed_laws.proofs.Unique.{row_below}
use Rattle.placed_laws.proofs.PlanStatements.{one_statement_law}
use Rattle.path_states.specs.Lists.{Climbs, Holds}
use Rattle.path_states.specs.PathTree.{IsWay}
use Rattle.matcher.specs.Matcher.{MatcherAt, IsSign}
use Rattle.matcher.specs.Signs.{SignAt}
use Rattle.matcher.specs.Ahead.{Target, AreBases, HasSign, AreTaken}
use Rattle.matcher.specs.View.{MatcherView}
use Rattle.matcher.specs.declared.signs.Sign.{Sign}
use Rattle.path_states.specs.declared.paths.Way.{Way}
use Rattle.matcher.proofs.Leading.{split}
use Rattle.path_states.proofs.Looking.{in_some, one_at}
use Rattle.matcher.proofs.Upwards.{level_same}
use Rattle.matcher.proofs.GivenRoles.{climbs_filtered}
use Rattle.matcher.proofs.Reaching.{gives_to, gives_from}
use Rattle.matcher.proofs.Aheads.{innermost_in, innermost_same, given_target, target_given, base_of, of_base}

module _ (m : MatcherView) (past : Past) (text : Bool) (s : MatcherAt m past text) where
  w : Grown past.tree
  w = grown_from past.tree s.is_past.grown

  i : In s.here past.tree.nodes
  i = innermost_in past.tree w text s.here s.innermost

  pub told_of : (o : OffTree) → In o (offs_in past.plan.body) → Told past.plan o
  told_of o j = told s.is_past.core s.is_past.good past.plan s.is_past.placed o j

  -- one statement for a role
  same_off : (o p : OffTree) → In o (offs_in past.plan.body) → In p (offs_in past.plan.body) → p.role ≡ o.role → p ≡ o
  same_off o p i j e =
      let f : Some p ≡ Some o = sym (told_of p j).stated ∙ (ap (statement_of past.plan) e ∙ (told_of o i).stated) in
      cc

  -- a statement is signed at a node above the innermost one where there is a sign at its level
  sign_of : (o : OffTree) → In o (offs_in past.plan.body) → (k : Node) → In k (above s.here) → signed past.acts o k ≡ true → SignAt m.signs o.role (level k)
  sign_of o j k u h =
      let x : Sign = record { role = o.role; level = level k; steps = length o.rel } in
      record { sign = x; member = (s.signs x).1 (record { off = o; of = j; role = refl; steps = refl; node = k; among = u; at = refl; is = h }); of = refl; at = refl }

  pub none_signed : m.signs ≡ [] → (n b : Node) (o : OffTree) → IsLast past.tree text n → In o (offs_in past.plan.body) → In b (above n) → signed past.acts o b ≡ false
  none_signed none n b o here j u =
      let same = innermost_same past.tree text s.here n s.innermost here in
      false_from_ne_true (signed past.acts o b) (λ h.
      let a = sign_of o j b (subst (λ (z : Node). In b (above z)) (sym same) u) h in
      absurd (subst (λ (z : List Sign). In a.sign z) none a.member))

  of_sign : (o : OffTree) → In o (offs_in past.plan.body) → (k : Node) → In k (above s.here) → SignAt m.signs o.role (level k) → signed past.acts o k ≡ true
  of_sign o j k u a =
      let g = (s.signs a.sign).0 a.member in
      let same = same_off o g.off j g.of (g.role ∙ a.of) in
      let node = level_same s.here g.node k g.among u (g.at ∙ a.at) in
      subst (λ (z : Node). signed past.acts o z ≡ true) node (subst (λ (z : OffTree). signed past.acts z g.node ≡ true) same g.is)

  taken_is : (o : OffTree) → In o (offs_in past.plan.body) → (r : ℕ) → o.role ≡ r → taken past.plan past.tree past.acts s.here r ≡ (given past.plan past.tree s.here r && all_signed (path_of past.plan) past.tree past.acts s.here o)
  taken_is o j r e = subst (λ (z : ℕ). taken past.plan past.tree past.acts s.here z ≡ (given past.plan past.tree s.here z && all_signed (path_of past.plan) past.tree past.acts s.here o)) e (taken_told past.plan o (told_of o j) past.tree past.acts s.here)

  module _ (x : Sign) (there : In x m.signs) where
    pub g : IsSign past s.here x
    g = (s.signs x).0 there

    pub t : Told past.plan (IsSign.off g)
    t = told_of g.off g.of

    row_here : row_at past.plan.roles x.role ≡ Some (Told.row t)
    row_here = subst (λ (z : ℕ). row_at past.plan.roles z ≡ Some t.row) g.role t.at

    -- its role has a way
    pub way_of : (wy : Way) × (slice_get m.tree.ways.items x.role ≡ Some wy) × IsWay past.plan s.tree.path (length m.tree.states.items) wy (Told.row t)
    way_of = s.tree.ways x.role t.row row_here

    module _ (wy : Way) (at : slice_get m.tree.ways.items x.role ≡ Some wy) (T : List ℕ) (h : Holds T (Target (role_kind wy.kind) m x.role wy.end)) where
      is : IsWay past.plan s.tree.path (length m.tree.states.items) wy (Told.row t)
      is = let q = way_of in subst (λ (z : Way). IsWay past.plan s.tree.path (length m.tree.states.items) z t.row) (one_at m.tree.ways.items x.role q.0 wy q.1 at) q.2

      -- without a target the innermost node doesn't have it
      pub not_ahead : T ≡ [] → false ≡ taken past.plan past.tree past.acts s.here x.role
      not_ahead none = sym (false_from_ne_true (taken past.plan past.tree past.acts s.here x.role) (λ k.
          given_target m past text s x.role t.row row_here wy is (role_kind wy.kind) (sym is.kind) T h (and_parts (given past.plan past.tree s.here x.role) _ (sym (taken_is g.off g.of x.role g.role) ∙ k)).0 none))

      pub ahead_is : (T ≡ [] → ⊥) → (L : List ℕ) → AreBases m wy x.steps T L → (b : Bool) → (b ≡ true → (l : ℕ) → In l L → SignAt m.signs x.role l) → (b ≡ false → ((l : ℕ) → In l L → SignAt m.signs x.role l) → ⊥)
          → b ≡ taken past.plan past.tree past.acts s.here x.role
      ahead_is some L bases b if_so if_not = go b if_so if_not
        where
          are : AreBases m wy (length g.off.rel) T L
          are = subst (λ (z : ℕ). AreBases m wy z T L) (sym g.steps) bases

          it_is : given past.plan past.tree s.here x.role ≡ true
          it_is = let q = in_some T some in target_given m past text s x.role t.row row_here wy is (role_kind wy.kind) (sym is.kind) q.0 ((h.has q.0).0 q.1)

          go : (b : Bool) → (b ≡ true → (l : ℕ) → In l L → SignAt m.signs x.role l) → (b ≡ false → ((l : ℕ) → In l L → SignAt m.signs x.role l) → ⊥) → b ≡ taken past.plan past.tree past.acts s.here x.role
          go true if_so if_not = sym (taken_is g.off g.of x.role g.role ∙ and_from _ _ it_is (all_from (λ (k : Node). not (reaches past.tree g.off k s.here) || signed past.acts g.off k) (matches past.tree 0 (path_of past.plan g.off.base)) (λ k j. by_reach k (Matches-in past.tree 0 (path_of past.plan g.off.base) k j) (reaches past.tree g.off k s.here) refl)))
            where
              by_reach : (k : Node) → In k past.tree.nodes × (hits 0 (path_of past.plan g.off.base) k ≡ true) → (c : Bool) → reaches past.tree g.off k s.here ≡ c → (not (reaches past.tree g.off k s.here) || signed past.acts g.off k) ≡ true
              by_reach k q false e = or_left _ _ (ap not e)
              by_reach k q true e =
                  let v = of_base m past text s x.role t.row row_here wy is g.off t refl T L h are k q.0 q.1 e in
                  let z = of_sign g.off g.of k v.0 (subst (λ (z : ℕ). SignAt m.signs z (level k)) (sym g.role) (if_so refl (level k) v.1)) in
                  rw (e, z) refl
          go false if_so if_not = sym (false_from_ne_true (taken past.plan past.tree past.acts s.here x.role) (λ k.
              if_not refl (λ l j.
              let a = and_parts (given past.plan past.tree s.here x.role) (all_signed (path_of past.plan) past.tree past.acts s.here g.off) (sym (taken_is g.off g.of x.role g.role) ∙ k) in
              let v = base_of m past text s x.role t.row row_here wy is g.off t refl T L h are l j in
              let y = all_in (λ (k : Node). not (reaches past.tree g.off k s.here) || signed past.acts g.off k) (matches past.tree 0 (path_of past.plan g.off.base)) a.1 v.node (Matches-from past.tree 0 (path_of past.plan g.off.base) v.node (above_in past.tree w s.here v.node i v.over) v.hit) in
              let z = sign_of g.off g.of v.node v.over (or_not (reaches past.tree g.off v.node s.here) (signed past.acts g.off v.node) y v.reached) in
              subst (λ (u : ℕ). SignAt m.signs x.role u) v.at (subst (λ (u : ℕ). SignAt m.signs u (level v.node)) g.role z))))

  -- a role that is taken has a sign
  pub taken_sign : (r : ℕ) → taken past.plan past.tree past.acts s.here r ≡ true → HasSign m.signs r
  taken_sign r h =
      let a = and_parts (given past.plan past.tree s.here r) (on_off (all_signed (path_of past.plan) past.tree past.acts s.here) (statement_of past.plan r)) h in
      go (statement_of past.plan r) refl a.0 a.1
    where
      go : (o : Option OffTree) → statement_of past.plan r ≡ o → given past.plan past.tree s.here r ≡ true → on_off (all_signed (path_of past.plan) past.tree past.acts s.here) o ≡ true → HasSign m.signs r
      go None e gv al = absurd (false≢true al)
      go (Some o) e gv al =
          let q = (one_statement_law s.is_past.core s.is_past.good past.plan s.is_past.placed r o).0 e in
          let f = told_of o q.0 in
          let gives_it = sym (given_told past.plan o f past.tree s.here) ∙ (ap (given past.plan past.tree s.here) q.1 ∙ gv) in
          let v = gives_to past.tree w s.here i 0 (path_of past.plan o.base ++ o.rel) o.tail o.kind gives_it in
          let iv = above_in past.tree w s.here v.0 i v.1 in
          let b = split past.tree w 0 (path_of past.plan o.base) o.rel v.0 iv v.2 in
          let up = above_trans b.0 v.0 s.here b.1 v.1 in
          let reach : reaches past.tree o b.0 s.here ≡ true = gives_from past.tree w s.here i (serial_of b.0) o.rel o.tail o.kind v.0 v.1 b.3 v.3 in
          let y = all_in (λ (k : Node). not (reaches past.tree o k s.here) || signed past.acts o k) (matches past.tree 0 (path_of past.plan o.base)) al b.0 (Matches-from past.tree 0 (path_of past.plan o.base) b.0 (above_in past.tree w s.here b.0 i up) b.2) in
          let z = sign_of o q.0 b.0 up (or_not (reaches past.tree o b.0 s.here) (signed past.acts o b.0) y reach) in
          record { sign = z.sign; member = z.member; of = z.of ∙ q.1 }

  -- the roles that are taken, in order
  pub roles_are_taken : (rs : List ℕ) → AreTaken (taken past.plan past.tree past.acts s.here) m.signs rs → rs ≡ roles_taken past.plan past.tree past.acts s.here
  roles_are_taken rs a = climbs_filtered (taken past.plan past.tree past.acts s.here) (length past.plan.roles) rs a.climbs
      (λ y j. let q = (a.has y).0 j in (below y q.0, q.1))
      (λ y l h. (a.has y).1 (taken_sign y h, h))
    where
      below : (y : ℕ) → HasSign m.signs y → y < length past.plan.roles
      below y q =
          let g = (s.signs q.sign).0 q.member in
          let f = told_of g.off g.of in
          subst (λ (z : ℕ). z < length past.plan.roles) (g.role ∙ q.of) (row_below past.plan.roles g.off.role f.row f.at)

-- one sign more

one_more : (before : List Sign) (x : Sign) (r : ℕ) → HasSign (before ++ x ∷ []) r → HasSign before r ⊎ (x.role ≡ r)
one_more before x r h = elim (In-append h.sign before (x ∷ []) h.member) [
  | inl j ↦ inl (record { sign = h.sign; member = j; of = h.of })
  | inr j ↦ elim j [ inl e ↦ inr (ap (λ (z : Sign). z.role) e ∙ h.of) | inr k ↦ absurd k ]
]

more_sign : (before : List Sign) (x : Sign) (r : ℕ) → HasSign before r → HasSign (before ++ x ∷ []) r
more_sign before x r h = record { sign = h.sign; member = In-left h.sign before (x ∷ []) h.member; of = h.of }

pub last_sign : (before : List Sign) (x : Sign) (r : ℕ) → x.role ≡ r → HasSign (before ++ x ∷ []) r
last_sign before x r e = record { sign = x; member = In-right x before (x ∷ []) (inl refl); of = e }

-- of a role that isn't taken, or is there already
pub taken_same : (test : ℕ → Bool) (before : List Sign) (x : Sign) (rs : List ℕ) → AreTaken test before rs → (test x.role ≡ true → In x.role rs) → AreTaken test (before ++ x ∷ []) rs
taken_same test before x rs a h = record {
  climbs = a.climbs;
  has = λ r. (
    (λ j. let q = (a.has r).0 j in (more_sign before x r q.0, q.1)),
    (λ q. elim (one_more before x r q.0) [ inl k ↦ (a.has r).1 (k, q.1) | inr e ↦ subst (λ (z : ℕ). In z rs) e (h (ap test e ∙ q.1)) ]),
  );
}

climbs_above : (rs : List ℕ) (x : ℕ) → Climbs rs → ((y : ℕ) → In y rs → y < x) → Climbs (rs ++ x ∷ [])
climbs_above [] x c h = ((λ y i. absurd i), tt)
climbs_above (r ∷ rs) x c h = (
  (λ y i. elim (In-append y rs (x ∷ []) i) [ inl j ↦ c.0 y j | inr j ↦ elim j [ inl e ↦ subst (λ (z : ℕ). r < z) e (h r (inl refl)) | inr k ↦ absurd k ] ]),
  climbs_above rs x c.1 (λ y i. h y (inr i)),
)

-- of one that is taken and isn't there
pub taken_more : (test : ℕ → Bool) (before : List Sign) (x : Sign) (rs : List ℕ) → AreTaken test before rs → test x.role ≡ true → ((y : ℕ) → In y rs → y < x.role) → AreTaken test (before ++ x ∷ []) (rs ++ x.role ∷ [])
taken_more test before x rs a h up = record {
  climbs = climbs_above rs x.role a.climbs up;
  has = λ r. (
    (λ j. elim (In-append r rs (x.role ∷ []) j) [
      | inl k ↦ (let q = (a.has r).0 k in (more_sign before x r q.0, q.1))
      | inr k ↦ elim k [ inl e ↦ (last_sign before x r e, ap test (sym e) ∙ h) | inr b ↦ absurd b ]
    ]),
    (λ q. elim (one_more before x r q.0) [ inl k ↦ In-left r rs (x.role ∷ []) ((a.has r).1 (k, q.1)) | inr e ↦ In-right r rs (x.role ∷ []) (inl e) ]),
  );
}

-- the roles of a rising list are below one that is above the last
pub below_last : (rs : List Role) (r : Role) → Climbs (map (λ (z : Role). z.0) rs) → IsAboveLast rs r → (y : ℕ) → In y (map (λ (z : Role). z.0) rs) → y < r.0
below_last [] r c a y i = absurd i
below_last (x ∷ []) r c a y (inl e) = subst (λ (z : ℕ). z < r.0) e a
below_last (x ∷ []) r c a y (inr i) = absurd i
below_last (x ∷ (z ∷ rs)) r c a y (inl e) = let f = c.0 z.0 (inl refl) in let g = below_last (z ∷ rs) r c.1 a z.0 (inl refl) in omega arith
below_last (x ∷ (z ∷ rs)) r c a y (inr i) = below_last (z ∷ rs) r c.1 a y i

-- one that isn't is no greater than the last
pub last_role : (rs : List Role) (r : Role) → (IsAboveLast rs r → ⊥) → (y : ℕ) × In y (map (λ (z : Role). z.0) rs) × (r.0 ≤ y)
last_role [] r h = absurd (h tt)
last_role (x ∷ []) r h = (x.0, inl refl, not_less x.0 r.0 h)
  where
    not_less : (a b : ℕ) → (a < b → ⊥) → b ≤ a
    not_less a b h = omega arith
last_role (x ∷ (z ∷ rs)) r h = let q = last_role (z ∷ rs) r h in (q.0, inr q.1, q.2)

-- A role that isn't above the last is there already, since the signs stand by rising role.
pub taken_there : (test : ℕ → Bool) (before : List Sign) (x : Sign) (rs : List Role) → AreTaken test before (map (λ (z : Role). z.0) rs) → ((s : Sign) → In s before → s.role ≤ x.role) → (IsAboveLast rs (record { 0 = x.role }) → ⊥) → In x.role (map (λ (z : Role). z.0) rs)
taken_there test before x rs a low h =
    let q = last_role rs (record { 0 = x.role }) h in
    let k = ((a.has q.0).0 q.1).0 in
    let l = low k.sign k.member in
    let e = k.of in
    let f = q.2 in
    let same : q.0 ≡ x.role = omega arith in
    subst (λ (z : ℕ). In z (map (λ (z : Role). z.0) rs)) same q.1

-- of the role of the last sign
pub taken_again : (test : ℕ → Bool) (before : List Sign) (x : Sign) (rs : List ℕ) → AreTaken test before rs → HasSign before x.role → AreTaken test (before ++ x ∷ []) rs
taken_again test before x rs a h = taken_same test before x rs a (λ e. (a.has x.role).1 (h, e))

-- without signs there are none
pub taken_none : (test : ℕ → Bool) → AreTaken test [] []
taken_none test = record { climbs = tt; has = λ r. (λ j. absurd j, λ q. absurd q.0.member) }
