-- A matcher goes to a new node.
use Rattle.std.proofs.Common.{◌≡◌, ◌^◌, ℕ, zero, suc, ◌-◌, ◌<◌, ◌≤◌, Bool, true, false, List, [], ◌∷◌, ◌++◌, length, refl, sym, ◌∙◌, ap, subst, inl, inr, ◌⊎◌, arith, Some}
use Rattle.std.specs.Prelude.{slice_get}
use Rattle.std.proofs.lemmas.Bool.{false≢true, eqb-true, false_from_ne_true}
use Rattle.std.proofs.lemmas.Option.{slice_get_within}
use Rattle.gcx_base.specs.declared.kind.Kind.{Kind}
use Rattle.gcx_base.specs.declared.kind.Kind.TheVariants.{Document, Element, Text}
use Rattle.gcx_base.specs.declared.steps.Step.{Step}
use Rattle.gcx_model.specs.Tree.{Node, Under, serial_of, above, Tree, TreeToken, grow}
use Rattle.gcx_base.specs.Tests.{passes}
use Rattle.gcx_model.specs.Paths.{hits}
use Rattle.gcx_model.specs.Nodes.{Grown}
use Rattle.gcx_model.specs.Growth.{level}
use Rattle.gcx_model.specs.Core.{First, Whole}
use Rattle.gcx_model.specs.Held.{path_of, roles_given, signed}
use Rattle.gcx_model.specs.Past.{Past, open_nodes, Opens, past_grown, token_for}
use Rattle.tree_laws.proofs.Lists.{In, any_in, any_from}
use Rattle.tree_laws.proofs.Matches.{Grown-grow}
use Rattle.tree_laws.proofs.Fed.{grown_from}
use Rattle.tree_laws.proofs.Chains.{above_in, above_trans, above_self}
use Rattle.placed_laws.proofs.Frames.{hits-append}
use Rattle.past_laws.proofs.Ahead.{first_behind, new_unsigned}
use Rattle.path_states.specs.Lists.{From, Gains, Holds}
use Rattle.matcher.specs.Frame.{IsFound, IsFrame, IsInside, IsPending}
use Rattle.path_states.specs.Active.{ActiveBelow, Waits}
use Rattle.gcx_base.specs.Kinds.{is_text}
use Rattle.matcher.specs.Matcher.{IsSign, MatcherAt}
use Rattle.matcher.specs.Entering.{Comes, Goes, Halts, IsIdle, IsIdled}
use Rattle.matcher.specs.Parts.{NodeMarks}
use Rattle.matcher.specs.View.{FrameView, GoTogether, MatcherView, frames_of, innermost_frame}
use Rattle.matcher.specs.declared.frames.Found.{Found}
use Rattle.matcher.specs.declared.signs.Sign.{Sign}
use Rattle.path_states.specs.Names.{IsNameNumber}
use Rattle.path_states.specs.State.{MovesBelow}
use Rattle.path_states.specs.States.{StatesView}
use Rattle.path_states.specs.declared.paths.PathState.{PathState}
use Rattle.path_states.specs.declared.paths.PathTree.{PathTree}
use Rattle.matcher.proofs.Leading.{last_to}
use Rattle.path_states.proofs.Looking.{some_at, one_at}
use Rattle.matcher.proofs.Upwards.{level_same, lower_above}
use Rattle.matcher.proofs.Origins.{node_at}
use Rattle.matcher.proofs.NewNode.{innermost_of, past_new, opens_of, one_of, open_is, serial_some}
use Rattle.matcher.proofs.NewFrame.{end_of, new_hits, whole_tail, first_tail}
use Rattle.matcher.proofs.AddedFrame.{leading_are, leads_from}
use Rattle.matcher.proofs.OldFrames.{old_frame}
use Rattle.matcher.proofs.GivenRoles.{roles_told}
use Rattle.matcher.proofs.Framing.{last_frame}

-- the innermost frame, with its node
pub record Last (m : MatcherView) (past : Past) (here : Node) (path : ℕ → List Step) : Type 0 where
  pub node : Node
  pub over : In node (above here)
  pub lies : level node ≡ length m.frames - 1
  pub frame : FrameView
  pub at : innermost_frame m.frames ≡ Some frame
  pub is : IsFrame past.plan past.tree m.tree.states.items path frame node

no_or_some : (k : ℕ) → (k ≡ 0) ⊎ (0 < k)
no_or_some zero = inl refl
no_or_some (suc k) = inr (omega arith)

pub le_or_less : (x y : ℕ) → (x ≤ y) ⊎ (y < x)
le_or_less zero y = inl (omega arith)
le_or_less (suc x) zero = inr (omega arith)
le_or_less (suc x) (suc y) = elim (le_or_less x y) [ inl l ↦ inl (omega arith) | inr l ↦ inr (omega arith) ]

text_is : (kind : Kind) → is_text kind ≡ true → (b : List ℕ) × (kind ≡ Text b)
text_is Document e = absurd (cc)
text_is (Element v) e = absurd (cc)
text_is (Text b) e = (b, refl)

none_gained : (before now : List ℕ) (Q : ℕ → Type 0) → Gains before now Q → now ≡ [] → before ≡ []
none_gained [] now Q g e = refl
none_gained (x ∷ before) now Q g e = absurd (subst (λ (z : List ℕ). In x z) e ((g.has x).1 (inl (inl refl))))

none_below : (tree : List PathState) (kind : Kind) (c : ℕ) → ActiveBelow tree [] [] kind c → ⊥
none_below tree kind c (inl f) = f.member
none_below tree kind c (inr f) = f.member

module _ (m : MatcherView) (past : Past) (kind : Kind) (G : Goes m past kind) where
  abbrev S : MatcherAt m past false
  S = G.stands

  abbrev P : Tree
  P = past.tree

  abbrev t : TreeToken
  t = token_for kind

  abbrev Q : Tree
  Q = grow (token_for kind) past.tree

  abbrev here : Node
  here = G.stands.here

  abbrev path : ℕ → List Step
  path = G.stands.tree.path

  abbrev count : ℕ
  count = length m.tree.states.items

  abbrev n : Node
  n = Under G.stands.here (length past.tree.nodes) kind

  at : past.tree.at ≡ Some G.stands.here
  at = G.stands.innermost

  w : Grown past.tree
  w = grown_from past.tree G.stands.is_past.grown

  pub u : Grown (grow (token_for kind) past.tree)
  u = Grown-grow (token_for kind) past.tree w

  pub o : Opens past.tree (token_for kind) (Under G.stands.here (length past.tree.nodes) kind)
  o = opens_of past.tree w G.stands.here at kind G.node

  pub one : (a : Node) → Opens past.tree (token_for kind) a → Under G.stands.here (length past.tree.nodes) kind ≡ a
  one a h = one_of past.tree w G.stands.here at kind G.node a h

  pub open_here : open_nodes past.tree ≡ above G.stands.here
  open_here = open_is past.tree w G.stands.here at kind G.node

  pub opened : (a : Node) → In a (above G.stands.here) → In a (open_nodes past.tree)
  opened a i = subst (λ (z : List Node). In a z) (sym open_here) i

  pub some : 0 < length past.tree.nodes
  some = serial_some past.tree w G.stands.here at kind G.node

  pub last : Last m past G.stands.here G.stands.tree.path
  last =
      let e = S.levels in
      let l = S.some in
      let k : length m.frames - 1 ≤ level S.here = omega arith in
      let r = node_at S.here (length m.frames - 1) k in
      let j : length m.frames - 1 < length m.frames = omega arith in
      let q = some_at m.frames (length m.frames - 1) j in
      record {
        node = r.0;
        over = r.1;
        lies = r.2;
        frame = q.0;
        at = q.1;
        is = S.frames r.0 q.0 r.1 (subst (λ (z : ℕ). slice_get m.frames z ≡ Some q.0) (sym r.2) q.1);
      }

  abbrev pub comes : m.idle ≡ 0 → Comes past m.tree m.frames (token_for kind) (Under G.stands.here (length past.tree.nodes) kind)
  comes e =
      let l = S.levels in
      record {
        is_past = S.is_past;
        are = S.tree;
        opens = o;
        count = omega arith;
        frames = λ a frame i f. S.frames a frame (subst (λ (z : List Node). In a z) open_here i) f;
      }

  -- no path leads to the new node
  abbrev pub Unled : Type 0
  Unled = (c : ℕ) → c < length m.tree.states.items → hits 0 (G.stands.tree.path c) (Under G.stands.here (length past.tree.nodes) kind) ≡ true → ⊥

  -- nothing is pending below it
  abbrev pub Quiet : Type 0
  Quiet = (last.frame.pending ≡ []) ⊎ ((is_text kind ≡ true) × (m.idle ≡ 0))

  -- the innermost frame is that of the innermost node
  pub last_here : m.idle ≡ 0 → IsFrame past.plan past.tree m.tree.states.items G.stands.tree.path last.frame G.stands.here
  last_here e =
      let l = S.levels in
      let f = last.lies in
      let g : level last.node ≡ level S.here = omega arith in
      subst (λ (z : Node). IsFrame past.plan past.tree m.tree.states.items path last.frame z) (level_same S.here last.node S.here last.over (above_self S.here) g) last.is

  pub unled_below : m.idle ≡ 0 → Holds [] (ActiveBelow m.tree.states.items (last.frame.active) (last.frame.pending) kind) → Unled
  unled_below e h = λ c l g. (leading_are past.plan m.tree S.tree P w t here (length past.tree.nodes) kind o u some last.frame (last_here e) [] h c).1 (l, g)

  -- below an idle node
  unled_idle : 0 < m.idle → last.frame.pending ≡ [] → Unled
  unled_idle k e = λ c l g. (new_hits past.plan m.tree S.tree Q u here (length past.tree.nodes) kind o.0 [] [] some (λ d i. absurd i)
      (λ d x h. absurd (idle_here d x h)) (λ d i. absurd i) (λ d p. none_waits d p) [] (record { has = λ d. (λ i. absurd i, λ h. none_below m.tree.states.items kind d h) }) c).1 (l, g)
    where
      idle_here : (d : ℕ) → d < length m.tree.states.items → hits 0 (G.stands.tree.path d) G.stands.here ≡ true → ⊥
      idle_here d x h =
          let f = S.levels in
          let y : length m.frames ≤ level S.here = omega arith in
          false≢true (sym (S.idle S.here (above_self S.here) y d x) ∙ h)

      none_waits : (d : ℕ) → IsPending m.tree.states.items G.stands.tree.path G.stands.here d → ⊥
      none_waits d p =
          let st = p.stands in
          let x = (S.tree.step p.below st.state st.at st.behind).0 in
          let y = slice_get_within m.tree.states.items p.below st.state st.at in
          let z = st.parent in
          let within : d < length m.tree.states.items = omega arith in
          let r = any_in (hits 0 (path d)) (above S.here) p.hit in
          elim (le_or_less (length m.frames) (level r.0)) [
            | inl le ↦ false≢true (sym (S.idle r.0 r.1 le d within) ∙ r.2)
            | inr lt ↦ (
                let f = last.lies in
                let low : level r.0 ≤ level last.node = omega arith in
                let i = lower_above S.here r.0 last.node r.1 last.over low in
                let j = (last.is.pending d).1 (record { below = p.below; stands = st; hit = any_from (hits 0 (path d)) r.0 (above last.node) i r.2 }) in
                subst (λ (z : List ℕ). In d z) e j)
          ]

  -- a text, while no step takes texts
  unled_text : is_text kind ≡ true → m.tree.texts ≡ false → Unled
  unled_text e f c l h = by_text (text_is kind e) (no_or_some c)
    where
      by_text : (b : List ℕ) × (kind ≡ Text b) → (c ≡ 0) ⊎ (0 < c) → ⊥
      by_text b (inl z) =
          let top : path c ≡ [] = ap path z ∙ S.tree.top in
          let g = eqb-true (length past.tree.nodes) 0 (subst (λ (p : List Step). hits 0 p n ≡ true) top h) in
          let k = some in
          omega arith
      by_text b (inr k) =
          let r = some_at m.tree.states.items c l in
          let g = subst (λ (z : List Step). hits 0 z n ≡ true) (S.tree.step c r.0 r.1 k).1 h in
          let q = last_to Q u 0 (path r.0.parent) r.0.step here (length past.tree.nodes) kind o.0 g in
          let p : passes r.0.step.test (Text b.0) ≡ true = subst (λ (z : Kind). passes r.0.step.test z ≡ true) b.1 q.0 in
          false≢true (sym (S.tree.texts f c r.0 b.0 r.1 k) ∙ p)

  quiet_idle : 0 < m.idle → last.frame.pending ≡ []
  quiet_idle k = elim (S.over last.frame last.at k) [ inl e ↦ e | inr e ↦ absurd (false≢true e.0) ]

  -- no path leads to it, nor to any node below it
  pub idle_goes : IsIdle m (is_text kind) → Unled × Quiet
  idle_goes (inl k) = (unled_idle k (quiet_idle k), inl (quiet_idle k))
  idle_goes (inr (inl e)) = (unled_text e.0 e.1, elim (no_or_some m.idle) [ inl z ↦ inr (e.0, z) | inr k ↦ inl (quiet_idle k) ])
  idle_goes (inr (inr over)) =
      let q = over.pending last.frame last.at in (
        elim (no_or_some m.idle) [
          | inl z ↦ unled_below z (record { has = λ c. (λ i. absurd i, λ h. absurd (over.nothing last.frame kind c last.at h)) })
          | inr k ↦ unled_idle k q
        ],
        inl q,
      )

  -- ---- where no path leads

  -- it is no first match
  pub none_found : Unled → (f : Found) → IsFound past.plan (grow (token_for kind) past.tree) (Under G.stands.here (length past.tree.nodes) kind) f → ⊥
  none_found h f d =
      let x = d.is in
      let e = end_of past.plan m.tree S.tree f.role First x.row x.role in
      let p : path e.0 ≡ path_of past.plan x.row.var ++ x.row.tail = e.3 ∙ ap (λ (z : List Step). path_of past.plan x.row.var ++ z) (first_tail x.row.kind x.row.tail x.role.same) in
      let ia = above_in Q u n d.context o.0 d.over in
      let b = (first_behind P t n o (serial_of d.context) x.row.tail).0.0 x.is in
      let g = hits-append Q u 0 (path_of past.plan x.row.var) x.row.tail d.context n ia o.0 x.hit b.0 in
      h e.0 e.1 (subst (λ (z : List Step). hits 0 z n ≡ true) (sym p) g)

  -- no path leads to the nodes below that of the innermost frame
  unled_under : Unled → (b : Node) → In b (above (Under G.stands.here (length past.tree.nodes) kind)) → length m.frames ≤ level b → (c : ℕ) → c < length m.tree.states.items → hits 0 (G.stands.tree.path c) b ≡ true → ⊥
  unled_under h b (inl e) l c k g = h c k (subst (λ (z : Node). hits 0 (path c) z ≡ true) (sym e) g)
  unled_under h b (inr i) l c k g = false≢true (sym (S.idle b i l c k) ∙ g)

  inside_is : Unled → (r : ℕ) → IsInside past.plan (Under G.stands.here (length past.tree.nodes) kind) r → IsInside past.plan last.node r
  inside_is h r d =
      let e = end_of past.plan m.tree S.tree r Whole d.row d.role in
      let p : path e.0 ≡ path_of past.plan d.row.var ++ d.row.tail = e.3 ∙ ap (λ (z : List Step). path_of past.plan d.row.var ++ z) (whole_tail d.row.kind d.row.tail d.role.same) in
      let q = any_in (hits 0 (path_of past.plan d.row.var ++ d.row.tail)) (above n) d.hit in
      elim (le_or_less (length m.frames) (level q.0)) [
        | inl le ↦ absurd (unled_under h q.0 q.1 le e.0 e.1 (subst (λ (z : List Step). hits 0 z q.0 ≡ true) (sym p) q.2))
        | inr lt ↦ (
            let f = last.lies in
            let low : level q.0 ≤ level last.node = omega arith in
            let over : In last.node (above n) = inr last.over in
            record { row = d.row; role = d.role; hit = any_from (hits 0 (path_of past.plan d.row.var ++ d.row.tail)) q.0 (above last.node) (lower_above n q.0 last.node q.1 over low) q.2 })
      ]

  is_inside : (r : ℕ) → IsInside past.plan last.node r → IsInside past.plan (Under G.stands.here (length past.tree.nodes) kind) r
  is_inside r d =
      let q = any_in (hits 0 (path_of past.plan d.row.var ++ d.row.tail)) (above last.node) d.hit in
      record { row = d.row; role = d.role; hit = any_from (hits 0 (path_of past.plan d.row.var ++ d.row.tail)) q.0 (above n) (inr (above_trans q.0 last.node here q.1 last.over)) q.2 }

  -- its roles are those of the subtrees in which the node of the innermost frame lies
  pub unled_given : Unled → last.frame.whole ≡ roles_given past.plan (grow (token_for kind) past.tree) (Under G.stands.here (length past.tree.nodes) kind)
  unled_given h =
      let whole = last.frame.whole in
      roles_told past.plan m.tree S.tree Q u n o.0 whole [] []
      (λ c. (λ i. absurd i, λ g. h c g.0 g.1))
      (λ r. (λ i. is_inside r ((last.is.whole r).0 i), λ d. (last.is.whole r).1 (inside_is h r d)))
      (λ f. (λ i. absurd i, λ d. none_found h f d))
      whole last.is.climbs
      (record { has = λ r. (λ i. inl i, λ q. elim q [ inl i ↦ i | inr s ↦ elim s [ inl f ↦ absurd f.member | inr f ↦ absurd f.member ] ]) })

  -- ---- signs

  pub sign_new : (s : Sign) → IsSign past G.stands.here s → IsSign (past_grown (token_for kind) past) (Under G.stands.here (length past.tree.nodes) kind) s
  sign_new s d = record { off = d.off; of = d.of; role = d.role; steps = d.steps; node = d.node; among = inr d.among; at = d.at; is = d.is }

  pub sign_old : (s : Sign) → IsSign (past_grown (token_for kind) past) (Under G.stands.here (length past.tree.nodes) kind) s → IsSign past G.stands.here s
  sign_old s d = elim d.among [
    | inl e ↦ absurd (false≢true (sym ((new_unsigned past S.is_past t n o).0 d.off) ∙ subst (λ (z : Node). signed past.acts d.off z ≡ true) (sym e) d.is))
    | inr i ↦ record { off = d.off; of = d.of; role = d.role; steps = d.steps; node = d.node; among = i; at = d.at; is = d.is }
  ]

  -- ---- one idle node more

  idle_frame : Unled → (a : Node) (frame : FrameView) → In a (above (Under G.stands.here (length past.tree.nodes) kind)) → slice_get m.frames (level a) ≡ Some frame → IsFrame past.plan (grow (token_for kind) past.tree) m.tree.states.items G.stands.tree.path frame a
  idle_frame h a frame (inl e) f =
      let l = slice_get_within m.frames (level a) frame f in
      let g = ap level e in
      let k = S.levels in
      absurd (omega arith)
  idle_frame h a frame (inr i) f =
      old_frame past.plan m.tree.states.items path P w t n o [] (λ q j. absurd j) (λ q d. none_found h q d) frame frame a (opened a i) (S.frames a frame i f)
      (record { active = refl; pending = refl; whole = refl; found_same = refl; signed = refl; open_to = λ r j. (j, λ b. b); open_from = λ r s. s.0 })

  pub idle_stands : Unled → Quiet → ((p : Node) → past.tree.at ≡ Some p → level p ≤ 1000) → (k : MatcherView) → IsIdled m k (is_text kind) → MatcherAt k (past_grown (token_for kind) past) (is_text kind)
  idle_stands h q few k d =
      let e = S.levels in
      let l = S.some in
      let b = few here at in
      let c : m.idle < 2 ^ 32 - 1 = omega arith in
      subst (λ (z : MatcherView). MatcherAt z (past_grown t past) (is_text kind)) (sym (d.is ∙ ap (λ (z : ℕ). record m { idle = z; text = is_text kind }) (d.idle c))) (record {
        is_past = past_new past t S.is_past G.may;
        tree = S.tree;
        flag = refl;
        here = n;
        innermost = innermost_of P here at kind G.node;
        some = S.some;
        levels = omega arith;
        frames = idle_frame h;
        idle = λ a i f s r. false_from_ne_true (hits 0 (path s) a) (unled_under h a i f s r);
        over = λ frame f g. (
            let same : frame ≡ last.frame = one_at m.frames (length m.frames - 1) frame last.frame f last.at in
            elim q [ inl x ↦ inl (ap (λ (z : FrameView). z.pending) same ∙ x) | inr x ↦ inr (x.0, ap suc x.1) ]);
        signs = λ s. (λ i. sign_new s ((S.signs s).0 i), λ f. (S.signs s).1 (sign_old s f));
        marked = S.marked;
        turn = S.turn;
        fresh = λ f off. (new_unsigned past S.is_past t n o).0 off;
      })

  -- the state to which a name leads from the innermost one, where no path leads to the node
  pub halts_goes : (v : StatesView) (ms : List NodeMarks) (number : ℕ) (text : Bool) → m.frames ≡ frames_of v ms → m.tree ≡ v.tree → GoTogether v ms → IsNameNumber v.names kind number → is_text kind ≡ text → m.idle ≡ 0 → Halts v number text → Unled × Quiet
  halts_goes v ms number text ef et go by flag idle halts =
      let q = last_frame v ms go last.frame (subst (λ (z : List FrameView). innermost_frame z ≡ Some last.frame) ef last.at) in
      let moves = subst (λ (z : PathTree). MovesBelow z.states.items q.0 kind halts.state) (sym et) (halts.leads q.0 kind q.1 by) in
      let leads = leads_from m.tree.states.items q.0 q.2.0 last.frame kind halts.state q.2.2 moves in (
        unled_below idle (subst (λ (z : List ℕ). Holds z (ActiveBelow m.tree.states.items last.frame.active last.frame.pending kind)) halts.vain.none leads.active),
        elim halts.vain.quiet [
          | inl e ↦ inr (flag ∙ e, idle)
          | inr e ↦ inl (none_gained last.frame.pending halts.state.pending (From halts.state.active (Waits m.tree.states.items)) leads.gathers.pending e)
        ],
      )
