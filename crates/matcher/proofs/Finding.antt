-- Which contexts find their first match in a new node.
use Rattle.std.proofs.Common.{◌≡◌, ℕ, suc, ◌<◌, ◌≤◌, true, List, [], ◌∷◌, ◌++◌, length, refl, sym, ◌∙◌, ap, subst, inl, inr, ◌⊎◌, arith, Some, None, Option}
use Rattle.std.specs.Prelude.{option_map, slice_get}
use Rattle.std.proofs.lemmas.Option.{slice_get_within}
use Rattle.gcx_base.specs.declared.steps.Step.{Step}
use Rattle.gcx_model.specs.Tree.{Node, serial_of, above, Tree, TreeToken, grow}
use Rattle.gcx_model.specs.Paths.{head, hits, matches}
use Rattle.gcx_model.specs.Nodes.{Grown}
use Rattle.gcx_model.specs.Growth.{level}
use Rattle.gcx_model.specs.Core.{Own, First, Whole, RoleTarget, RoleRowTree}
use Rattle.gcx_model.specs.Held.{path_of}
use Rattle.gcx_model.specs.Placed.{row_at}
use Rattle.gcx_model.specs.Past.{Past, open_nodes}
use Rattle.tree_laws.proofs.Lists.{In}
use Rattle.tree_laws.proofs.Fed.{grown_from}
use Rattle.tree_laws.proofs.Chains.{above_in, above_self}
use Rattle.placed_laws.proofs.Frames.{hits-append}
use Rattle.past_laws.proofs.Ahead.{first_behind}
use Rattle.path_states.specs.Lists.{From, Gains}
use Rattle.path_states.specs.PathTree.{kind_with}
use Rattle.path_states.specs.State.{StateView}
use Rattle.path_states.specs.States.{StatesView}
use Rattle.path_states.specs.declared.paths.PathState.{PathState}
use Rattle.path_states.specs.declared.paths.PathTree.{PathTree}
use Rattle.path_states.specs.declared.paths.Way.{Way}
use Rattle.path_states.proofs.Gaining.{gains_none, gains_as}
use Rattle.path_states.proofs.Looking.{none_at, some_at, one_at, in_at}
use Rattle.matcher.specs.Frames.{FoundAt, Hit, Unfound, UpFrom}
use Rattle.matcher.specs.Frame.{IsFound, IsRole}
use Rattle.matcher.specs.Parts.{IsUnmatched, NodeMarks}
use Rattle.matcher.specs.Entering.{Comes, Firsts, FoundOf, LeadsTo, RoleLeads}
use Rattle.matcher.specs.View.{FrameView, frame_of, frames_of}
use Rattle.matcher.specs.declared.frames.Context.{Context}
use Rattle.matcher.specs.declared.frames.Found.{Found}
use Rattle.matcher.proofs.Framing.{at_frame, frame_at, frames_few, frames_length}
use Rattle.matcher.proofs.NewNode.{grown, above_is, older_below, no_hit, head_none}
use Rattle.matcher.proofs.Upwards.{level_same}
use Rattle.matcher.proofs.Origins.{Origin, origins_are, node_at}
use Rattle.matcher.proofs.NewFrame.{ended, end_of, first_tail}

-- ---- what a call tells of a level

-- its contexts
pub marks_some : (ms : List NodeMarks) (level : ℕ) (contexts : List Context) → option_map (λ (m : NodeMarks). m.contexts) (slice_get ms level) ≡ Some contexts → (m : NodeMarks) × (slice_get ms level ≡ Some m) × (m.contexts ≡ contexts)
marks_some ms level contexts e = go (slice_get ms level) refl e
  where
    go : (o : Option NodeMarks) → slice_get ms level ≡ o → option_map (λ (m : NodeMarks). m.contexts) o ≡ Some contexts → (m : NodeMarks) × (slice_get ms level ≡ Some m) × (m.contexts ≡ contexts)
    go None f g = absurd (cc)
    go (Some m) f g = let h : m.contexts ≡ contexts = cc in (m, f, h)

pub marks_none : (ms : List NodeMarks) (level : ℕ) (m : NodeMarks) → option_map (λ (m : NodeMarks). m.contexts) (slice_get ms level) ≡ None → slice_get ms level ≡ Some m → ⊥
marks_none ms level m e f = let g : option_map (λ (m : NodeMarks). m.contexts) (Some m) ≡ None = sym (ap (option_map (λ (m : NodeMarks). m.contexts)) f) ∙ e in absurd (cc)

-- whether a path leads to its node
pub hit_past : (v : StatesView) (ms : List NodeMarks) (c level : ℕ) → length ms ≤ level → Hit (frames_of v ms) c level → ⊥
hit_past v ms c level l h = let k = frames_few v.states ms in none_at (frames_of v ms) level h.frame (omega arith) h.at

pub hit_at : (v : StatesView) (ms : List NodeMarks) (c level : ℕ) (s : StateView) → level < length ms → Some s ≡ slice_get v.states level → In c s.active → Hit (frames_of v ms) c level
hit_at v ms c level s l e i = let m = some_at ms level l in record { frame = frame_of s m.0; at = at_frame v.states ms level s m.0 (sym e) m.1; member = i }

pub at_hit : (v : StatesView) (ms : List NodeMarks) (c level : ℕ) (s : StateView) → Some s ≡ slice_get v.states level → Hit (frames_of v ms) c level → In c s.active
at_hit v ms c level s e h =
    let q = frame_at v.states ms level h.frame h.at in
    let same : q.0 ≡ s = one_at v.states level q.0 s q.1 (sym e) in
    subst (λ (z : StateView). In c z.active) same (subst (λ (z : FrameView). In c z.active) q.2.2 h.member)

pub hit_none : (v : StatesView) (ms : List NodeMarks) (c level : ℕ) → None ≡ slice_get v.states level → Hit (frames_of v ms) c level → ⊥
hit_none v ms c level e h = let q = frame_at v.states ms level h.frame h.at in let g : None ≡ Some q.0 = e ∙ q.1 in absurd (cc)

pub first_some : (k : RoleTarget) (tail : List Step) → kind_with k tail ≡ First → (s : Step) × (rest : List Step) × (tail ≡ s ∷ rest)
first_some Own tail e = absurd (cc)
first_some First [] e = absurd (cc)
first_some First (s ∷ rest) e = (s, rest, refl)
first_some Whole tail e = absurd (cc)

module _ (past : Past) (tree : PathTree) (told_of : List FrameView) (t : TreeToken) (n : Node) (b : Comes past tree told_of t n) where
  abbrev P : Tree
  P = past.tree

  abbrev Q : Tree
  Q = grow t past.tree

  w : Grown P
  w = grown_from P b.is_past.grown

  u : Grown Q
  u = grown P w t n b.opens

  new_or_old : (a : Node) → In a (above n) → (n ≡ a) ⊎ In a (open_nodes P)
  new_or_old a i = subst (λ (z : List Node). In a z) (above_is P w t n b.opens) i

  older : (a : Node) → In a (above n) → level a < level n → In a (open_nodes P)
  older a i l = elim (new_or_old a i) [ inl e ↦ (let f = ap level e in absurd (omega arith)) | inr j ↦ j ]

  abbrev count : ℕ
  count = length tree.states.items

  -- a context that finds its first match in the new node had none
  had_none : (f : Found) (d : IsFound past.plan Q n f) → (hits (serial_of d.context) d.is.row.tail n ≡ true) × (matches P (serial_of d.context) d.is.row.tail ≡ [])
  had_none f d = (first_behind P t n b.opens (serial_of d.context) d.is.row.tail).0.0 d.is.is

  -- it is an older node
  pub context_old : (f : Found) (d : IsFound past.plan Q n f) → In d.context (open_nodes P)
  context_old f d = elim (new_or_old d.context d.over) [ inl e ↦ absurd (not_new e) | inr j ↦ j ]
    where
      not_new : n ≡ d.context → ⊥
      not_new e =
          let s = first_some d.is.row.kind d.is.row.tail d.is.role.same in
          let h : hits (serial_of n) d.is.row.tail n ≡ true = subst (λ (z : Node). hits (serial_of z) d.is.row.tail n ≡ true) (sym e) (had_none f d).0 in
          no_hit P w t n b.opens s.0 s.1 n b.opens.0 (subst (λ (z : List Step). hits (serial_of n) z n ≡ true) s.2 h)

  pub no_role : (found : List Found) (r : ℕ) → slice_get tree.ways.items r ≡ None → Gains found found (FoundOf past.plan Q n r)
  no_role found r h = gains_none found (FoundOf past.plan Q n r) (λ f q. (
      let x = q.1.is in
      let y = b.are.ways f.role x.row x.role.at in
      not_there y.0 (subst (λ (z : ℕ). slice_get tree.ways.items z ≡ Some y.0) q.0 y.1)))
    where
      not_there : (w : Way) → slice_get tree.ways.items r ≡ Some w → ⊥
      not_there w e = let f : None ≡ Some w = sym h ∙ e in cc

  -- the paths of the roles that end at a state lead where the state's does
  pub roles_lead : (p : ℕ) (state : PathState) → slice_get tree.states.items p ≡ Some state → LeadsTo b.are.path n p → (r : ℕ) → In r state.first.items → RoleLeads past.plan n r
  roles_lead p state at h r i rw is =
      let e = ended past.plan tree b.are r p First (((b.are.linked p state at).first r).0 i) in
      let ft = first_tail e.0.kind e.0.tail e.1.same in
      let x : b.are.path p ≡ path_of past.plan e.0.var ++ e.0.tail = e.2 ∙ ap (λ (z : List Step). path_of past.plan e.0.var ++ z) ft in
      let g = subst (λ (z : List Step). hits 0 z n ≡ true) x h in
      subst (λ (z : RoleRowTree). hits 0 (path_of past.plan z.var ++ z.tail) n ≡ true) (row_same e.0 e.1.at) g
    where
      row_same : (q : RoleRowTree) → row_at past.plan.roles r ≡ Some q → q ≡ rw
      row_same q e = let f : Some q ≡ Some rw = sym e ∙ is.at in cc

  pub firsts_of : (p : ℕ) (state : PathState) → slice_get tree.states.items p ≡ Some state → (old new : List Found) → Gains old new (From state.first.items (FoundOf past.plan Q n)) → Gains old new (Firsts past.plan Q n tree.states.items p)
  firsts_of p state at old new g = gains_as old new (From state.first.items (FoundOf past.plan Q n)) (Firsts past.plan Q n tree.states.items p)
      (λ f q. record { state = state; at = at; from = q })
      (λ f q. subst (λ (z : PathState). From z.first.items (FoundOf past.plan Q n) f) (one_at tree.states.items p q.state state q.at at) q.from) g

  pub no_firsts : (p : ℕ) → slice_get tree.states.items p ≡ None → (old : List Found) → Gains old old (Firsts past.plan Q n tree.states.items p)
  no_firsts p e old = gains_none old (Firsts past.plan Q n tree.states.items p) (λ f q. not_there q.state q.at)
    where
      not_there : (s : PathState) → slice_get tree.states.items p ≡ Some s → ⊥
      not_there s g = let f : None ≡ Some s = sym e ∙ g in cc

  -- what was found are the contexts whose first match the new node is
  pub found_are : (leading : List ℕ) → ((c : ℕ) → c < count → LeadsTo b.are.path n c → In c leading) → (found : List Found) → Gains [] found (From leading (Firsts past.plan Q n tree.states.items))
      → (f : Found) → (In f found → IsFound past.plan Q n f) × (IsFound past.plan Q n f → In f found)
  found_are leading all found g f = (
    (λ i. elim ((g.has f).0 i) [ inl j ↦ absurd j | inr q ↦ q.is.from.is.1 ]),
    (λ d. (
        let x = d.is in
        let e = end_of past.plan tree b.are f.role First x.row x.role in
        let path : b.are.path e.0 ≡ path_of past.plan x.row.var ++ x.row.tail = e.3 ∙ ap (λ (z : List Step). path_of past.plan x.row.var ++ z) (first_tail x.row.kind x.row.tail x.role.same) in
        let ia = above_in Q u n d.context b.opens.0 d.over in
        let h = hits-append Q u 0 (path_of past.plan x.row.var) x.row.tail d.context n ia b.opens.0 x.hit (had_none f d).0 in
        let s = some_at tree.states.items e.0 e.1 in
        (g.has f).1 (inr (record {
          of = e.0;
          member = all e.0 e.1 (subst (λ (z : List Step). hits 0 z n ≡ true) (sym path) h);
          is = record { state = s.0; at = s.1; from = record { of = f.role; member = ((b.are.linked e.0 s.0 s.1).first f.role).1 e.2; is = (refl, d) } };
        })))),
  )

-- the same by the states and the marks
module _ (past : Past) (v : StatesView) (ms : List NodeMarks) (many : length ms ≤ length v.states) (t : TreeToken) (n : Node) (b : Comes past v.tree (frames_of v ms) t n) where
  abbrev frames : List FrameView
  frames = frames_of v ms

  abbrev X : Tree
  X = past.tree

  abbrev Y : Tree
  Y = grow t past.tree

  grown_x : Grown X
  grown_x = grown_from X b.is_past.grown

  grown_y : Grown Y
  grown_y = grown X grown_x t n b.opens

  older_here : (a : Node) → In a (above n) → level a < level n → In a (open_nodes X)
  older_here a i l = older past v.tree (frames_of v ms) t n b a i l

  as_many : length (frames_of v ms) ≡ length ms
  as_many = frames_length v.states ms many

  few : length (frames_of v ms) ≤ suc (level n)
  few = let e = b.count in omega arith

  told : (a : Node) (frame : FrameView) → In a (above n) → slice_get (frames_of v ms) (level a) ≡ Some frame → (c : ℕ) → In c frame.active → hits 0 (b.are.path c) a ≡ true
  told a frame o e c i =
      let l = slice_get_within frames (level a) frame e in
      let f = b.count in
      let m : level a < level n = omega arith in
      (((b.frames a frame (older_here a o m) e).active c).0 i).1

  kept : (a : Node) → In a (above n) → level a < level n → (c : ℕ) → c < length v.tree.states.items → hits 0 (b.are.path c) a ≡ true → Hit (frames_of v ms) c (level a)
  kept a o l c m h =
      let f = b.count in
      let k : level a < length (frames_of v ms) = omega arith in
      let r = some_at frames (level a) k in
      record { frame = r.0; at = r.1; member = ((b.frames a r.0 (older_here a o l) r.1).active c).1 (m, h) }

  abbrev state_count : ℕ
  state_count = length v.tree.states.items

  pub context_of : (f : Found) → IsFound past.plan Y n f → Unfound ms f.role f.level
  context_of f d =
      let o = context_old past v.tree (frames_of v ms) t n b f d in
      let l = older_below X grown_x t n b.opens d.context o in
      let e = b.count in
      let k : level d.context < length (frames_of v ms) = omega arith in
      let r = some_at frames (level d.context) k in
      let q = frame_at v.states ms (level d.context) r.0 r.1 in
      let m = q.2 in
      let u = ((b.frames d.context r.0 o r.1).unfound f.role).1 (record { row = d.is.row; role = d.is.role; hit = d.is.hit; is = ap head (had_none past v.tree (frames_of v ms) t n b f d).1 }) in
      record {
        one = m.0;
        at = subst (λ (z : ℕ). slice_get ms z ≡ Some m.0) d.at m.1;
        member = subst (λ (z : FrameView). IsUnmatched z.contexts f.role) m.2 u;
      }

  -- where no context of the role is without a match, the new node is no first match of it
  pub none_found : (found : List Found) (r : ℕ) → ((m : NodeMarks) → In m ms → IsUnmatched m.contexts r → ⊥) → Gains found found (FoundOf past.plan Y n r)
  none_found found r h = gains_none found (FoundOf past.plan Y n r) (λ f q. (
      let u = context_of f q.1 in
      h u.one (in_at ms f.level u.one u.at) (subst (λ (z : ℕ). IsUnmatched u.one.contexts z) q.0 u.member)))

  module _ (r : ℕ) (lead : RoleLeads past.plan n r) (way : Way) (at : slice_get v.tree.ways.items r ≡ Some way) (l : ℕ) (same_level : level n ≡ l) (levels : List ℕ) (up : UpFrom v ms way.steps way.end (l ∷ []) levels) where
    -- the way of the role leads over its path
    way_of : (rw : RoleRowTree) → IsRole past.plan First r rw → (b.are.path way.end ≡ path_of past.plan rw.var ++ rw.tail) × (way.end < state_count) × (length rw.tail ≡ way.steps)
    way_of rw is =
        let y = b.are.ways r rw is.at in
        let same : y.0 ≡ way = one_at v.tree.ways.items r y.0 way y.1 at in
        let ft = first_tail rw.kind rw.tail is.same in (
          ap (λ (z : Way). b.are.path z.end) (sym same) ∙ (y.2.end ∙ ap (λ (z : List Step). path_of past.plan rw.var ++ z) ft),
          subst (λ (z : Way). z.end < state_count) same y.2.end_known,
          sym (ap (λ (z : Way). z.steps) (sym same) ∙ (y.2.steps ∙ ap length ft)),
        )

    one_level : (a : Node) → In a (above n) → In (level a) (l ∷ []) → n ≡ a
    one_level a o (inl e) = level_same n n a (above_self n) o (same_level ∙ e)
    one_level a o (inr i) = absurd i

    from_levels : (rw : RoleRowTree) → IsRole past.plan First r rw → ((k : ℕ) → In k levels → Origin (path_of past.plan rw.var) rw.tail n (l ∷ []) k) × ((k : ℕ) → Origin (path_of past.plan rw.var) rw.tail n (l ∷ []) k → In k levels)
    from_levels rw is =
        let y = way_of rw is in
        origins_are past.plan v.tree b.are Y grown_y n b.opens.0 frames few told kept way.steps way.end (l ∷ []) levels up (path_of past.plan rw.var) rw.tail y.2 y.1 y.0
        (λ u i. elim i [
          | inl e ↦ record { node = n; over = above_self n; at = same_level ∙ e; hit = subst (λ (z : List Step). hits 0 z n ≡ true) (sym y.0) (lead rw is) }
          | inr j ↦ absurd j
        ])

    found_to : (f : Found) → From levels (FoundAt ms r) f → FoundOf past.plan Y n r f
    found_to f q =
        let fa = q.is in
        let u = fa.open_yet in
        let x = slice_get_within ms q.of u.one u.at in
        let same_many = as_many in
        let within : q.of < length (frames_of v ms) = omega arith in
        let fr = some_at frames q.of within in
        let fm = (frame_at v.states ms q.of fr.0 fr.1).2 in
        let ones : fm.0 ≡ u.one = one_at ms q.of fm.0 u.one fm.1 u.at in
        let open_there : IsUnmatched fr.0.contexts r = subst (λ (z : FrameView). IsUnmatched z.contexts r) (sym fm.2) (subst (λ (z : NodeMarks). IsUnmatched z.contexts r) (sym ones) u.member) in
        let e = b.count in
        let lo : q.of ≤ level n = omega arith in
        let a = node_at n q.of lo in
        let la = a.2 in
        let lt : level a.0 < level n = omega arith in
        let old = older_here a.0 a.1 lt in
        let R = b.frames a.0 fr.0 old (subst (λ (z : ℕ). slice_get (frames_of v ms) z ≡ Some fr.0) (sym la) fr.1) in
        let g = (R.unfound r).0 open_there in
        let o = (from_levels g.row g.role).0 q.of q.member in
        let same : o.node ≡ a.0 = level_same n o.node a.0 o.over a.1 (o.at ∙ sym la) in
        let here : n ≡ o.target = one_level o.target o.below o.reached in
        let h : hits (serial_of a.0) g.row.tail n ≡ true = subst (λ (z : Node). hits (serial_of a.0) g.row.tail z ≡ true) (sym here) (subst (λ (z : Node). hits (serial_of z) g.row.tail o.target ≡ true) same o.leads) in (
          fa.of,
          record {
            context = a.0;
            over = a.1;
            at = la ∙ sym fa.at;
            is = record {
              row = g.row;
              role = subst (λ (z : ℕ). IsRole past.plan First z g.row) (sym fa.of) g.role;
              hit = g.hit;
              is = (first_behind X t n b.opens (serial_of a.0) g.row.tail).0.1 (h, head_none (matches X (serial_of a.0) g.row.tail) g.is);
            };
          },
        )

    found_from : (f : Found) → FoundOf past.plan Y n r f → From levels (FoundAt ms r) f
    found_from f q =
        let d = q.1 in
        let x = d.is in
        let role = subst (λ (z : ℕ). IsRole past.plan First z x.row) q.0 x.role in
        let i = (from_levels x.row role).1 f.level (record {
          node = d.context;
          over = d.over;
          at = d.at;
          hit = x.hit;
          target = n;
          below = above_self n;
          reached = inl (sym same_level);
          leads = (had_none past v.tree (frames_of v ms) t n b f d).0;
        }) in
        record { of = f.level; member = i; is = record { of = q.0; at = refl; open_yet = subst (λ (z : ℕ). Unfound ms z f.level) q.0 (context_of f d) } }

    pub all_found : (old new : List Found) → Gains old new (From levels (FoundAt ms r)) → Gains old new (FoundOf past.plan Y n r)
    all_found old new g = gains_as old new (From levels (FoundAt ms r)) (FoundOf past.plan Y n r) found_to found_from g
