-- From which nodes a statement reaches the innermost node, by the frames.
use Rattle.std.proofs.Common.{◌≡◌, ℕ, zero, suc, ◌-◌, ◌<◌, ◌≤◌, Bool, true, false, List, [], ◌∷◌, ◌++◌, length, refl, sym, ◌∙◌, ap, subst, inl, inr, arith, ◌⊎◌, Some}
use Rattle.std.specs.Prelude.{slice_get}
use Rattle.std.proofs.lemmas.Bool.{false≢true}
use Rattle.std.proofs.lemmas.List.{append-nil}
use Rattle.std.proofs.lemmas.Option.{slice_get_within}
use Rattle.gcx_base.specs.declared.steps.Step.{Step}
use Rattle.gcx_model.specs.Tree.{Node, serial_of, above, Tree}
use Rattle.gcx_model.specs.Paths.{hits, first, matches}
use Rattle.gcx_model.specs.Nodes.{Grown}
use Rattle.gcx_model.specs.Growth.{level}
use Rattle.gcx_model.specs.Core.{RoleTarget, Own, First, Whole, OffTree, RoleRowTree, PlanTree}
use Rattle.gcx_model.specs.ItemView.{role_kind}
use Rattle.gcx_model.specs.Held.{path_of, gives, given_row, on_row, given, reaches}
use Rattle.gcx_model.specs.Placed.{row_at}
use Rattle.gcx_model.specs.Past.{Past, IsLast}
use Rattle.base_laws.proofs.Members.{head_in}
use Rattle.tree_laws.proofs.Lists.{In, In-right, any_from}
use Rattle.tree_laws.proofs.Matches.{Matches-in}
use Rattle.tree_laws.proofs.Chains.{above_in, above_trans, above_self, hits_above}
use Rattle.placed_laws.proofs.Frames.{hits-append}
use Rattle.tree_laws.proofs.Fed.{grown_from}
use Rattle.placed_laws.proofs.Told.{Told}
use Rattle.path_states.specs.Lists.{Holds}
use Rattle.path_states.specs.PathTree.{IsWay, kind_with, tail_with}
use Rattle.matcher.specs.Frames.{Hit}
use Rattle.matcher.specs.Frame.{IsFrame}
use Rattle.matcher.specs.Matcher.{MatcherAt}
use Rattle.matcher.specs.Ahead.{Target, AreVars, AreBases}
use Rattle.matcher.specs.View.{FrameView, MatcherView, innermost_frame}
use Rattle.matcher.specs.declared.frames.Found.{Found}
use Rattle.path_states.specs.declared.paths.Way.{Way}
use Rattle.path_states.proofs.Looking.{some_at}
use Rattle.matcher.proofs.Upwards.{level_same, lower_above}
use Rattle.matcher.proofs.Origins.{node_at, origins_are, Origin}
use Rattle.matcher.proofs.NewFrame.{whole_tail}
use Rattle.matcher.proofs.GivenRoles.{kind_whole}
use Rattle.matcher.proofs.Reaching.{Ends, gives_to, gives_from}

le_or : (x y : ℕ) → (x ≤ y) ⊎ (y < x)
le_or zero y = inl (omega arith)
le_or (suc x) zero = inr (omega arith)
le_or (suc x) (suc y) = elim (le_or x y) [ inl h ↦ inl (omega arith) | inr h ↦ inr (omega arith) ]

own_tail : (k : RoleTarget) (tail : List Step) → kind_with k tail ≡ Own → tail_with k tail ≡ []
own_tail Own tail e = refl
own_tail First [] e = refl
own_tail First (s ∷ tail) e = absurd (cc)
own_tail Whole tail e = absurd (cc)

first_tail : (k : RoleTarget) (tail : List Step) → kind_with k tail ≡ First → tail_with k tail ≡ tail
first_tail Own tail e = absurd (cc)
first_tail First tail e = refl
first_tail Whole tail e = absurd (cc)

-- the innermost node is one of the tree's
pub innermost_in : (P : Tree) → Grown P → (text : Bool) (a : Node) → IsLast P text a → In a P.nodes
innermost_in P w false a h = w.at_in a h
innermost_in P w true a h = subst (λ (z : List Node). In a z) (sym h.6) (In-right a h.3 (a ∷ []) (inl refl))

-- there is one
last_same : (xs ys : List Node) (a b : Node) → xs ++ a ∷ [] ≡ ys ++ b ∷ [] → a ≡ b
last_same [] [] a b e = cc
last_same [] (y ∷ []) a b e = absurd (cc)
last_same [] (y ∷ (z ∷ ys)) a b e = absurd (cc)
last_same (x ∷ []) [] a b e = absurd (cc)
last_same (x ∷ (z ∷ xs)) [] a b e = absurd (cc)
last_same (x ∷ xs) (y ∷ ys) a b e = last_same xs ys a b (cc)

pub innermost_same : (P : Tree) (text : Bool) (a b : Node) → IsLast P text a → IsLast P text b → a ≡ b
innermost_same P false a b h k = let e : Some a ≡ Some b = sym h ∙ k in cc
innermost_same P true a b h k = last_same h.3 k.3 a b (sym h.6 ∙ k.6)

-- a node above n at the level u that the path leads to, and from which n has the role
pub record IsVar (P : Tree) (n : Node) (path tail : List Step) (k : RoleTarget) (u : ℕ) : Type 0 where
  pub node : Node
  pub over : In node (above n)
  pub at : level node ≡ u
  pub hit : hits 0 path node ≡ true
  pub ends : Ends k P tail n node

-- a match of the base's path at this level, from which the statement reaches n
pub record IsBase (plan : PlanTree) (P : Tree) (n : Node) (o : OffTree) (l : ℕ) : Type 0 where
  pub node : Node
  pub over : In node (above n)
  pub at : level node ≡ l
  pub hit : hits 0 (path_of plan o.base) node ≡ true
  pub reached : reaches P o node n ≡ true

module _ (m : MatcherView) (past : Past) (text : Bool) (s : MatcherAt m past text) where
  abbrev P : Tree
  P = past.tree

  abbrev n : Node
  n = s.here

  abbrev path : ℕ → List Step
  path = s.tree.path

  w : Grown past.tree
  w = grown_from past.tree s.is_past.grown

  i : In s.here past.tree.nodes
  i = innermost_in past.tree w text s.here s.innermost

  -- the innermost frame, and its node
  last_frame : (frame : FrameView) × (innermost_frame m.frames ≡ Some frame)
  last_frame = let l = s.some in some_at m.frames (length m.frames - 1) (omega arith)

  pub frame_node : (frame : FrameView) → innermost_frame m.frames ≡ Some frame → (a : Node) × In a (above s.here) × (suc (level a) ≡ length m.frames) × IsFrame past.plan past.tree m.tree.states.items s.tree.path frame a
  frame_node frame e =
      let l = s.some in
      let k = s.levels in
      let o : length m.frames - 1 ≤ level s.here = omega arith in
      let a = node_at s.here (length m.frames - 1) o in
      let at = a.2 in
      (a.0, a.1, omega arith, s.frames a.0 frame a.1 (subst (λ (z : ℕ). slice_get m.frames z ≡ Some frame) (sym at) e))

  -- without idle nodes it is that of the innermost node
  pub here_frame : (frame : FrameView) → innermost_frame m.frames ≡ Some frame → m.idle ≡ 0 → IsFrame past.plan past.tree m.tree.states.items s.tree.path frame s.here
  here_frame frame e z =
      let r = frame_node frame e in
      let l = r.2 in
      let k = s.levels in
      let d : level r.0 ≡ level s.here = omega arith in
      let same = level_same s.here r.0 s.here r.1 (above_self s.here) d in
      subst (λ (b : Node). IsFrame past.plan past.tree m.tree.states.items s.tree.path frame b) same r.3

  told_hit : (a : Node) (frame : FrameView) → In a (above s.here) → slice_get m.frames (level a) ≡ Some frame → (c : ℕ) → In c frame.active → hits 0 (s.tree.path c) a ≡ true
  told_hit a frame o e c j = (((s.frames a frame o e).active c).0 j).1

  -- a node to which a path leads has a frame
  has_frame : (a : Node) → In a (above s.here) → (c : ℕ) → c < length m.tree.states.items → hits 0 (s.tree.path c) a ≡ true → level a < length m.frames
  has_frame a o c l h = elim (le_or (length m.frames) (level a)) [
    | inl j ↦ absurd (false≢true (sym (s.idle a o j c l) ∙ h))
    | inr j ↦ j
  ]

  kept_hit : (a : Node) → In a (above s.here) → (c : ℕ) → c < length m.tree.states.items → hits 0 (s.tree.path c) a ≡ true → Hit m.frames c (level a)
  kept_hit a o c l h =
      let r = some_at m.frames (level a) (has_frame a o c l h) in
      record { frame = r.0; at = r.1; member = ((s.frames a r.0 o r.1).active c).1 (l, h) }

  few : length m.frames ≤ suc (level s.here)
  few = let k = s.levels in omega arith

  -- no path leads to an idle node
  not_idle : (c : ℕ) → c < length m.tree.states.items → hits 0 (s.tree.path c) s.here ≡ true → m.idle ≡ 0
  not_idle c l h = let r = has_frame s.here (above_self s.here) c l h in let k = s.levels in omega arith

  hit_node : (c v : ℕ) → Hit m.frames c v → (a : Node) × In a (above s.here) × (level a ≡ v) × (hits 0 (s.tree.path c) a ≡ true)
  hit_node c v h =
      let l = slice_get_within m.frames v h.frame h.at in
      let f = few in
      let o : v ≤ level s.here = omega arith in
      let a = node_at s.here v o in
      (a.0, a.1, a.2, told_hit a.0 h.frame a.1 (subst (λ (z : ℕ). slice_get m.frames z ≡ Some h.frame) (sym a.2) h.at) c h.member)

  -- a role and its way
  module _ (r : ℕ) (rw : RoleRowTree) (at : row_at past.plan.roles r ≡ Some rw) (wy : Way) (is : IsWay past.plan s.tree.path (length m.tree.states.items) wy rw) where
    abbrev Var : RoleTarget → ℕ → Type 0
    Var k u = IsVar past.tree s.here (path_of past.plan rw.var) rw.tail k u

    own_path : kind_with rw.kind rw.tail ≡ Own → s.tree.path wy.end ≡ path_of past.plan rw.var
    own_path e = is.end ∙ (ap (λ (z : List Step). path_of past.plan rw.var ++ z) (own_tail rw.kind rw.tail e) ∙ append-nil (path_of past.plan rw.var))

    own_var : kind_with rw.kind rw.tail ≡ Own → (u : ℕ) → Target Own m r wy.end u → Var Own u
    own_var e u t =
        let h = hit_node wy.end u t.hit in
        let l = t.at in
        let k = s.levels in
        let z = t.here in
        let f = s.some in
        let d = h.2 in
        let q : level h.0 ≡ level s.here = omega arith in
        let same = level_same s.here h.0 s.here h.1 (above_self s.here) q in
        record { node = h.0; over = h.1; at = h.2; hit = subst (λ (z : List Step). hits 0 z h.0 ≡ true) (own_path e) h.3; ends = same }

    var_own : kind_with rw.kind rw.tail ≡ Own → (u : ℕ) → Var Own u → Target Own m r wy.end u
    var_own e u v =
        let h : hits 0 (s.tree.path wy.end) v.node ≡ true = subst (λ (z : List Step). hits 0 z v.node ≡ true) (sym (own_path e)) v.hit in
        let z = not_idle wy.end is.end_known (subst (λ (z : Node). hits 0 (s.tree.path wy.end) z ≡ true) v.ends h) in
        let k = s.levels in
        let a : level s.here ≡ u = sym (ap level v.ends) ∙ v.at in
        record { here = z; at = omega arith; hit = subst (λ (z : ℕ). Hit m.frames wy.end z) v.at (kept_hit v.node v.over wy.end is.end_known h) }

    first_var : (u : ℕ) → Target First m r wy.end u → Var First u
    first_var u t =
        let R = here_frame t.frame t.last t.here in
        let f = (R.found t.from.of).0 t.from.member in
        let q = f.is in
        let same : q.row ≡ rw = row_same q.row (subst (λ (z : ℕ). row_at past.plan.roles z ≡ Some q.row) t.from.is.0 q.role.at) in
        record {
          node = f.context;
          over = f.over;
          at = f.at ∙ t.from.is.1;
          hit = subst (λ (z : RoleRowTree). hits 0 (path_of past.plan z.var) f.context ≡ true) same q.hit;
          ends = subst (λ (z : RoleRowTree). first past.tree (serial_of f.context) z.tail ≡ Some s.here) same q.is;
        }
      where
        row_same : (q : RoleRowTree) → row_at past.plan.roles r ≡ Some q → q ≡ rw
        row_same q f = let g : Some q ≡ Some rw = sym f ∙ at in cc

    var_first : kind_with rw.kind rw.tail ≡ First → (u : ℕ) → Var First u → Target First m r wy.end u
    var_first e u v =
        let hit = hits-append past.tree w 0 (path_of past.plan rw.var) rw.tail v.node s.here (above_in past.tree w s.here v.node i v.over) i v.hit (Matches-in past.tree (serial_of v.node) rw.tail s.here (head_in (matches past.tree (serial_of v.node) rw.tail) s.here v.ends)).1 in
        let z = not_idle wy.end is.end_known (subst (λ (z : List Step). hits 0 z s.here ≡ true) (sym (is.end ∙ ap (λ (z : List Step). path_of past.plan rw.var ++ z) (first_tail rw.kind rw.tail e))) hit) in
        let q = last_frame in
        let f : Found = record { role = r; level = u } in
        record {
          frame = q.0;
          last = q.1;
          here = z;
          from = record { of = f; member = ((here_frame q.0 q.1 z).found f).1 (record { context = v.node; over = v.over; at = v.at; is = record { row = rw; role = record { at = at; same = e }; hit = v.hit; is = v.ends } }); is = (refl, refl) };
        }

    whole_path : kind_with rw.kind rw.tail ≡ Whole → s.tree.path wy.end ≡ path_of past.plan rw.var ++ rw.tail
    whole_path e = is.end ∙ ap (λ (z : List Step). path_of past.plan rw.var ++ z) (whole_tail rw.kind rw.tail e)

    -- a node above the innermost one to which the path of the role leads
    whole_target : kind_with rw.kind rw.tail ≡ Whole → (j : Node) → In j (above s.here) → hits 0 (path_of past.plan rw.var ++ rw.tail) j ≡ true → Target Whole m r wy.end (level j)
    whole_target e j o h =
        let g : hits 0 (s.tree.path wy.end) j ≡ true = subst (λ (z : List Step). hits 0 z j ≡ true) (sym (whole_path e)) h in
        let b = has_frame j o wy.end is.end_known g in
        let q = last_frame in
        let a = frame_node q.0 q.1 in
        let c = a.2 in
        let d : level j ≤ level a.0 = omega arith in
        let up : In j (above a.0) = lower_above s.here j a.0 o a.1 d in (
          record { frame = q.0; last = q.1; member = (a.3.whole r).1 (record { row = rw; role = record { at = at; same = e }; hit = any_from (hits 0 (path_of past.plan rw.var ++ rw.tail)) j (above a.0) up h }) },
          kept_hit j o wy.end is.end_known g,
        )

    -- The levels of the variable, from which the innermost node has the role.
    pub vars_are : (k : RoleTarget) → kind_with rw.kind rw.tail ≡ k → (T V : List ℕ) → Holds T (Target k m r wy.end) → AreVars k m wy T V → ((u : ℕ) → In u V → Var k u) × ((u : ℕ) → Var k u → In u V)
    vars_are Own e T V h x = (
      (λ u j. own_var e u ((h.has u).0 (subst (λ (z : List ℕ). In u z) x j))),
      (λ u v. subst (λ (z : List ℕ). In u z) (sym x) ((h.has u).1 (var_own e u v))),
    )
    vars_are First e T V h x = (
      (λ u j. first_var u ((h.has u).0 (subst (λ (z : List ℕ). In u z) x j))),
      (λ u v. subst (λ (z : List ℕ). In u z) (sym x) ((h.has u).1 (var_first e u v))),
    )
    vars_are Whole e T V h x =
        let X : List Step = path_of past.plan rw.var in
        let tl = ap length (whole_tail rw.kind rw.tail e) in
        let ln = is.steps in
        let o = origins_are past.plan m.tree s.tree past.tree w s.here i m.frames few told_hit (λ a q l c b g. kept_hit a q c b g)
        wy.steps wy.end T V x X rw.tail (omega arith) is.end_known (whole_path e) (λ u j. let t = hit_node wy.end u ((h.has u).0 j).1 in record { node = t.0; over = t.1; at = t.2; hit = t.3 }) in (
          (λ u j. (let q = o.0 u j in record { node = q.node; over = q.over; at = q.at; hit = q.hit; ends = (q.target, q.below, q.leads) })),
          (λ u v. (let j = v.ends in
              let g = hits-append past.tree w 0 X rw.tail v.node j.0 (above_in past.tree w s.here v.node i v.over) (above_in past.tree w s.here j.0 i j.1) v.hit j.2 in
              o.1 u (record { node = v.node; over = v.over; at = v.at; hit = v.hit; target = j.0; below = j.1; reached = (h.has (level j.0)).1 (whole_target e j.0 j.1 g); leads = j.2 }))),
        )

    given_is : given past.plan past.tree s.here r ≡ gives past.tree 0 (path_of past.plan rw.var) rw.tail rw.kind s.here
    given_is = ap (on_row (given_row (path_of past.plan) past.tree s.here)) at

    -- where the innermost node has the role, there is a level from which it has it, and else there is none
    pub given_target : (k : RoleTarget) → kind_with rw.kind rw.tail ≡ k → (T : List ℕ) → Holds T (Target k m r wy.end) → given past.plan past.tree s.here r ≡ true → T ≡ [] → ⊥
    given_target k e T h g none =
        let v = gives_to past.tree w s.here i 0 (path_of past.plan rw.var) rw.tail rw.kind (sym given_is ∙ g) in
        go k e h v.0 v.1 v.2 (subst (λ (z : RoleTarget). Ends z past.tree rw.tail s.here v.0) e v.3)
      where
        out : (u : ℕ) → In u T → ⊥
        out u j = subst (λ (z : List ℕ). In u z) none j

        go : (k : RoleTarget) → kind_with rw.kind rw.tail ≡ k → Holds T (Target k m r wy.end) → (v : Node) → In v (above s.here) → hits 0 (path_of past.plan rw.var) v ≡ true → Ends k past.tree rw.tail s.here v → ⊥
        go Own e h v o x y = out (level v) ((h.has (level v)).1 (var_own e (level v) (record { node = v; over = o; at = refl; hit = x; ends = y })))
        go First e h v o x y = out (level v) ((h.has (level v)).1 (var_first e (level v) (record { node = v; over = o; at = refl; hit = x; ends = y })))
        go Whole e h v o x y = out (level y.0) ((h.has (level y.0)).1 (whole_target e y.0 y.1 (hits-append past.tree w 0 (path_of past.plan rw.var) rw.tail v y.0 (above_in past.tree w s.here v i o) (above_in past.tree w s.here y.0 i y.1) x y.2)))

    pub target_given : (k : RoleTarget) → kind_with rw.kind rw.tail ≡ k → (u : ℕ) → Target k m r wy.end u → given past.plan past.tree s.here r ≡ true
    target_given k e u t = given_is ∙ go k e t
      where
        by_var : (k : RoleTarget) → kind_with rw.kind rw.tail ≡ k → Var k u → gives past.tree 0 (path_of past.plan rw.var) rw.tail rw.kind s.here ≡ true
        by_var k e v = gives_from past.tree w s.here i 0 (path_of past.plan rw.var) rw.tail rw.kind v.node v.over v.hit (subst (λ (z : RoleTarget). Ends z past.tree rw.tail s.here v.node) (sym e) v.ends)

        go : (k : RoleTarget) → kind_with rw.kind rw.tail ≡ k → Target k m r wy.end u → gives past.tree 0 (path_of past.plan rw.var) rw.tail rw.kind s.here ≡ true
        go Own e t = by_var Own e (own_var e u t)
        go First e t = by_var First e (first_var u t)
        go Whole e t =
            let a = hit_node wy.end u t.1 in
            subst (λ (z : RoleTarget). gives past.tree 0 (path_of past.plan rw.var) rw.tail z s.here ≡ true) (sym (kind_whole rw.kind rw.tail e))
            (any_from (hits 0 (path_of past.plan rw.var ++ rw.tail)) a.0 (above s.here) a.1 (subst (λ (z : List Step). hits 0 z a.0 ≡ true) (whole_path e) a.3))

    -- The levels of the bases, from which the statement of the role reaches the innermost node.
    module _ (o : OffTree) (told_o : Told past.plan o) (row : told_o.row ≡ rw) (T L : List ℕ) (h : Holds T (Target (role_kind wy.kind) m r wy.end)) (b : AreBases m wy (length o.rel) T L) where
      abbrev kind : RoleTarget
      kind = role_kind wy.kind

      k_is : kind_with rw.kind rw.tail ≡ role_kind wy.kind
      k_is = sym is.kind

      var_path : s.tree.path wy.var ≡ path_of past.plan o.base ++ o.rel
      var_path = is.var ∙ (ap (λ (z : RoleRowTree). path_of past.plan z.var) (sym row) ∙ told_o.path)

      reach_by : (k : Node) → reaches past.tree o k s.here ≡ gives past.tree (serial_of k) o.rel rw.tail rw.kind s.here
      reach_by k = ap (λ z. gives past.tree (serial_of k) o.rel z o.kind s.here) (sym told_o.tail ∙ ap (λ (z : RoleRowTree). z.tail) row) ∙ ap (λ z. gives past.tree (serial_of k) o.rel rw.tail z s.here) (sym told_o.kind ∙ ap (λ (z : RoleRowTree). z.kind) row)

      vars : ((u : ℕ) → In u b.vars → Var (role_kind wy.kind) u) × ((u : ℕ) → Var (role_kind wy.kind) u → In u b.vars)
      vars = vars_are (role_kind wy.kind) k_is T b.vars h b.are_vars

      from_base : ((l : ℕ) → In l L → Origin (path_of past.plan o.base) o.rel s.here b.vars l) × ((l : ℕ) → Origin (path_of past.plan o.base) o.rel s.here b.vars l → In l L)
      from_base =
          origins_are past.plan m.tree s.tree past.tree w s.here i m.frames few told_hit (λ a q l c d g. kept_hit a q c d g)
          (length o.rel) wy.var b.vars L b.up (path_of past.plan o.base) o.rel refl is.var_known var_path
          (λ u j. let v = vars.0 u j in record { node = v.node; over = v.over; at = v.at; hit = subst (λ (z : List Step). hits 0 z v.node ≡ true) (sym is.var) v.hit })

      pub base_of : (l : ℕ) → In l L → IsBase past.plan past.tree s.here o l
      base_of l j =
          let q = from_base.0 l j in
          let v = vars.0 (level q.target) q.reached in
          let same = level_same s.here v.node q.target v.over q.below v.at in
          let e = subst (λ (z : Node). Ends (role_kind wy.kind) past.tree rw.tail s.here z) same v.ends in
          record {
            node = q.node;
            over = q.over;
            at = q.at;
            hit = q.hit;
            reached = reach_by q.node ∙ gives_from past.tree w s.here i (serial_of q.node) o.rel rw.tail rw.kind q.target q.below q.leads (subst (λ (z : RoleTarget). Ends z past.tree rw.tail s.here q.target) (sym k_is) e);
          }

      pub of_base : (k : Node) → In k past.tree.nodes → hits 0 (path_of past.plan o.base) k ≡ true → reaches past.tree o k s.here ≡ true → In k (above s.here) × In (level k) L
      of_base k ik hk g =
          let v = gives_to past.tree w s.here i (serial_of k) o.rel rw.tail rw.kind (sym (reach_by k) ∙ g) in
          let iv = above_in past.tree w s.here v.0 i v.1 in
          let up : In k (above s.here) = above_trans k v.0 s.here (hits_above past.tree w k o.rel v.0 ik iv v.2) v.1 in
          let hv : hits 0 (path_of past.plan rw.var) v.0 ≡ true = subst (λ (z : List Step). hits 0 z v.0 ≡ true) (sym var_path ∙ is.var) (hits-append past.tree w 0 (path_of past.plan o.base) o.rel k v.0 ik iv hk v.2) in
          let x = vars.1 (level v.0) (record { node = v.0; over = v.1; at = refl; hit = hv; ends = subst (λ (z : RoleTarget). Ends z past.tree rw.tail s.here v.0) k_is v.3 }) in
          (up, from_base.1 (level k) (record { node = k; over = up; at = refl; hit = hk; target = v.0; below = v.1; reached = x; leads = v.2 }))
