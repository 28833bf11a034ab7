-- A matcher goes to a new node that gets a frame.
use Rattle.std.proofs.Common.{◌≡◌, ℕ, suc, ◌-◌, ◌<◌, ◌≤◌, true, false, List, [], ◌∷◌, ◌++◌, length, map, refl, sym, ◌∙◌, ap, subst, inl, inr, arith, Some}
use Rattle.std.specs.Prelude.{slice_get}
use Rattle.std.proofs.lemmas.List.{length-append}
use Rattle.std.proofs.lemmas.Option.{slice_get_within}
use Rattle.gcx_base.specs.Kinds.{is_text}
use Rattle.gcx_base.specs.declared.ids.Role.{Role}
use Rattle.gcx_base.specs.declared.kind.Kind.{Kind}
use Rattle.gcx_base.specs.declared.steps.Step.{Step}
use Rattle.gcx_model.specs.Tree.{Node, Under, above, Tree, TreeToken, grow}
use Rattle.gcx_model.specs.Paths.{hits}
use Rattle.gcx_model.specs.Nodes.{Grown}
use Rattle.gcx_model.specs.Growth.{level}
use Rattle.gcx_model.specs.Held.{roles_given}
use Rattle.gcx_model.specs.Past.{Past, past_grown, token_for}
use Rattle.tree_laws.proofs.Lists.{In}
use Rattle.tree_laws.proofs.Fed.{grown_from}
use Rattle.tree_laws.proofs.Growing.{level_above}
use Rattle.past_laws.proofs.Ahead.{new_unsigned}
use Rattle.path_states.specs.Lists.{Climbs, From, Gains}
use Rattle.path_states.specs.Names.{IsNameNumber}
use Rattle.path_states.specs.State.{StateView, IsMade, MovesBelow}
use Rattle.path_states.specs.States.{StatesView, Enters}
use Rattle.path_states.specs.declared.paths.PathTree.{PathTree}
use Rattle.path_states.proofs.Looking.{one_at}
use Rattle.matcher.specs.Frame.{IsFound, IsFrame}
use Rattle.matcher.specs.Frames.{AreRoles}
use Rattle.matcher.specs.Parts.{NodeMarks, at_level, new_marks}
use Rattle.matcher.specs.Stacks.{AreMatched}
use Rattle.matcher.specs.Matcher.{MatcherAt}
use Rattle.matcher.specs.Entering.{AddsFrame, Comes, Firsts, Goes, LeadsTo}
use Rattle.matcher.specs.View.{FrameView, GoTogether, MatcherView, frame_of, frames_of, frames_with, innermost_frame}
use Rattle.matcher.specs.declared.frames.Found.{Found}
use Rattle.matcher.proofs.Places.{at_one_more, last_is}
use Rattle.matcher.proofs.NewNode.{innermost_of, past_new, older_below}
use Rattle.matcher.proofs.AddedFrame.{LeadsFrom, added_frame, leading_are, leads_from}
use Rattle.matcher.proofs.OldFrames.{old_frame}
use Rattle.matcher.proofs.GivenRoles.{roles_told}
use Rattle.matcher.proofs.Finding.{context_old, found_are}
use Rattle.matcher.proofs.Framing.{FrameMatched, frames_ahead, frames_length, frames_matched, frames_push, last_frame}
use Rattle.matcher.proofs.Entering.{last, last_here, comes, o, u, opened, some, sign_new, sign_old}

-- The frames behind a new node: each is that of before, or the new one, where first matches are found.
module _ (m : MatcherView) (past : Past) (kind : Kind) (G : Goes m past kind) (idle : m.idle ≡ 0) (x : StateView) (leads : LeadsFrom m.tree.states.items (last m past kind G).frame kind x) (made : IsMade m.tree.states.items x) (found : List Found)
    (first : (f : Found) → (In f found → IsFound past.plan (grow (token_for kind) past.tree) (Under G.stands.here (length past.tree.nodes) kind) f) × (IsFound past.plan (grow (token_for kind) past.tree) (Under G.stands.here (length past.tree.nodes) kind) f → In f found)) where
  abbrev S : MatcherAt m past false
  S = G.stands

  abbrev n : Node
  n = Under G.stands.here (length past.tree.nodes) kind

  abbrev t : TreeToken
  t = token_for kind

  abbrev P : Tree
  P = past.tree

  abbrev path : ℕ → List Step
  path = G.stands.tree.path

  w : Grown past.tree
  w = grown_from past.tree G.stands.is_past.grown

  level_new : level (Under G.stands.here (length past.tree.nodes) kind) ≡ length m.frames
  level_new = let l = S.levels in omega arith

  abbrev new : FrameView
  new = frame_of x (new_marks x.contexts found)

  -- the new frame
  new_frame : IsFrame past.plan (grow (token_for kind) past.tree) m.tree.states.items G.stands.tree.path (frame_of x (new_marks x.contexts found)) (Under G.stands.here (length past.tree.nodes) kind)
  new_frame = added_frame past.plan m.tree S.tree P w t S.here (length past.tree.nodes) kind (o m past kind G) (u m past kind G) (some m past kind G) (last m past kind G).frame (last_here m past kind G idle) x leads made found first

  -- the roles of the new node
  pub frame_given : (rs : List ℕ) → AreRoles m.tree.states.items x.whole x.active found rs → rs ≡ roles_given past.plan (grow (token_for kind) past.tree) (Under G.stands.here (length past.tree.nodes) kind)
  frame_given rs a =
      roles_told past.plan m.tree S.tree (grow t P) (u m past kind G) n (o m past kind G).0 x.whole x.active found new_frame.active new_frame.whole new_frame.found rs a.climbs a.holds

  module _ (now : List FrameView) (as_many : length now ≡ suc (length m.frames))
      (matched : (l : ℕ) (f : FrameView) → slice_get now l ≡ Some f → (g : FrameView) × (slice_get (m.frames ++ frame_of x (new_marks x.contexts found) ∷ []) l ≡ Some g) × FrameMatched found l g f)
      (not_here : (r : ℕ) → In (at_level r (level (Under G.stands.here (length past.tree.nodes) kind))) found → ⊥) where
    old_here : (a : Node) (f : FrameView) → In a (above G.stands.here) → slice_get now (level a) ≡ Some f → IsFrame past.plan (grow (token_for kind) past.tree) m.tree.states.items G.stands.tree.path f a
    old_here a f i at =
        let q = matched (level a) f at in
        let l = level_above S.here a i in
        let k = level_new in
        elim (at_one_more m.frames new (level a) q.0 q.1) [
          | inl e ↦ old_frame past.plan m.tree.states.items path P w t n (o m past kind G) found (λ y j. (first y).0 j) (λ y d. (first y).1 d) q.0 f a (opened m past kind G a i) (S.frames a q.0 i e) q.2
          | inr e ↦ (let d = e.0 in absurd (omega arith))
        ]

    new_here : (f : FrameView) → slice_get now (level (Under G.stands.here (length past.tree.nodes) kind)) ≡ Some f → IsFrame past.plan (grow (token_for kind) past.tree) m.tree.states.items G.stands.tree.path f (Under G.stands.here (length past.tree.nodes) kind)
    new_here f at =
        let q = matched (level n) f at in
        let k = level_new in
        elim (at_one_more m.frames new (level n) q.0 q.1) [
          | inl e ↦ (let d = slice_get_within m.frames (level n) q.0 e in absurd (omega arith))
          | inr e ↦ kept_new f (subst (λ (z : FrameView). FrameMatched found (level n) z f) e.1 q.2)
        ]
      where
        kept_new : (f : FrameView) → FrameMatched found (level (Under G.stands.here (length past.tree.nodes) kind)) (frame_of x (new_marks x.contexts found)) f
            → IsFrame past.plan (grow (token_for kind) past.tree) m.tree.states.items G.stands.tree.path f (Under G.stands.here (length past.tree.nodes) kind)
        kept_new f b =
            let R = new_frame in
            record {
              active = λ c. ((λ i. (R.active c).0 (subst (λ (z : List ℕ). In c z) b.active i)), (λ h. subst (λ (z : List ℕ). In c z) (sym b.active) ((R.active c).1 h)));
              pending = λ c. ((λ i. (R.pending c).0 (subst (λ (z : List ℕ). In c z) b.pending i)), (λ h. subst (λ (z : List ℕ). In c z) (sym b.pending) ((R.pending c).1 h)));
              whole = λ q. ((λ i. (R.whole q).0 (subst (λ (z : List ℕ). In q z) b.whole i)), (λ h. subst (λ (z : List ℕ). In q z) (sym b.whole) ((R.whole q).1 h)));
              climbs = subst Climbs (sym b.whole) R.climbs;
              unfound = λ q. ((λ i. (R.unfound q).0 (b.open_to q i).0), (λ d. b.open_from q ((R.unfound q).1 d, not_here q)));
              found = λ q. ((λ i. (R.found q).0 (subst (λ (z : List Found). In q z) b.found_same i)), (λ h. subst (λ (z : List Found). In q z) (sym b.found_same) ((R.found q).1 h)));
            }

    frame_here : (a : Node) (f : FrameView) → In a (above (Under G.stands.here (length past.tree.nodes) kind)) → slice_get now (level a) ≡ Some f → IsFrame past.plan (grow (token_for kind) past.tree) m.tree.states.items G.stands.tree.path f a
    frame_here a f (inl e) at = subst (λ (z : Node). IsFrame past.plan (grow t P) m.tree.states.items path f z) e (new_here f (subst (λ (z : Node). slice_get now (level z) ≡ Some f) (sym e) at))
    frame_here a f (inr i) at = old_here a f i at

    still_marked : (s : ℕ) (f : FrameView) → s < length m.frames → slice_get now s ≡ Some f → ((g : FrameView) → slice_get m.frames s ≡ Some g → g.signed ≡ true) → f.signed ≡ true
    still_marked s f l at h =
        let q = matched s f at in
        elim (at_one_more m.frames new s q.0 q.1) [
          | inl e ↦ (let b = q.2 in b.signed ∙ h q.0 e)
          | inr e ↦ (let d = e.0 in absurd (omega arith))
        ]

    pub frame_stands : MatcherAt (record m { frames = now; text = is_text kind }) (past_grown (token_for kind) past) (is_text kind)
    frame_stands =
        let l = S.levels in
        let c = as_many in
        record {
          is_past = past_new past t S.is_past G.may;
          tree = S.tree;
          flag = refl;
          here = n;
          innermost = innermost_of P S.here S.innermost kind G.node;
          some = omega arith;
          levels = omega arith;
          frames = frame_here;
          idle = λ a i f. (let g = level_above n a i in absurd (omega arith));
          over = λ frame f g. absurd (omega arith);
          signs = λ s. (λ i. sign_new m past kind G s ((S.signs s).0 i), λ f. (S.signs s).1 (sign_old m past kind G s f));
          marked = λ s f i at. (
              let d = (S.signs s).0 i in
              let g = level_above S.here d.node d.among in
              let h = d.at in
              let lt : s.level < length m.frames = omega arith in
              still_marked s.level f lt at (λ y e. S.marked s y i e));
          turn = S.turn;
          fresh = λ f off. (new_unsigned past S.is_past t n (o m past kind G)).0 off;
        }

-- ---- the same from what the states and the marks became

-- what was found, by the path tree and the frames
abbrev FindsFrom : PathTree → List FrameView → (active : List ℕ) → (here : ℕ) → List Found → Type 0
FindsFrom tree told active here found =
    (past : Past) (t : TreeToken) (n : Node) → (b : Comes past tree told t n) → level n ≡ here → ((c : ℕ) → In c active → LeadsTo b.are.path n c) → Gains [] found (From active (Firsts past.plan (grow t past.tree) n tree.states.items))

-- there are as many states as marks then
pub grown_together : (v v2 : StatesView) (ms later : List NodeMarks) (number : ℕ) (found : List Found) → GoTogether v ms → Enters v v2 number → AddsFrame v2 ms later found → GoTogether v2 later
grown_together v v2 ms later number found go E A =
    let g = go.0 in
    let f = ap (λ (z : StatesView). length z.states) E.is in
    let h = length-append v.states (E.state ∷ []) in
    let k = A.marks.count in
    let j = length-append ms (new_marks A.state.contexts found ∷ []) in
    (omega arith, omega arith)

module _ (m : MatcherView) (past : Past) (kind : Kind) (G : Goes m past kind) (idle : m.idle ≡ 0) (v v2 : StatesView) (ms later : List NodeMarks) (number : ℕ) (found : List Found)
    (ef : m.frames ≡ frames_of v ms) (et : m.tree ≡ v.tree) (go : GoTogether v ms) (by : IsNameNumber v.names kind number) (E : Enters v v2 number) (A : AddsFrame v2 ms later found) where
  states_now : v2.states ≡ v.states ++ E.state ∷ []
  states_now = ap (λ (z : StatesView). z.states) E.is

  tree_now : v2.tree ≡ m.tree
  tree_now = ap (λ (z : StatesView). z.tree) E.is ∙ sym et

  -- the state with which the frame was made
  same_state : A.state ≡ E.state
  same_state = one_at v2.states (length v2.states - 1) A.state E.state A.last (last_is v.states v2.states E.state states_now)

  made : IsMade m.tree.states.items E.state
  made = subst (λ (z : PathTree). IsMade z.states.items E.state) (sym et) E.made

  leads : LeadsFrom m.tree.states.items (last m past kind G).frame kind E.state
  leads =
      let q = last_frame v ms go (last m past kind G).frame (subst (λ (z : List FrameView). innermost_frame z ≡ Some (last m past kind G).frame) ef (last m past kind G).at) in
      leads_from m.tree.states.items q.0 q.2.0 (last m past kind G).frame kind E.state q.2.2 (subst (λ (z : PathTree). MovesBelow z.states.items q.0 kind E.state) (sym et) (E.leads q.0 kind q.1 by))

  abbrev to : Node
  to = Under G.stands.here (length past.tree.nodes) kind

  leading_to : (c : ℕ) → (In c E.state.active → (c < length m.tree.states.items) × (hits 0 (G.stands.tree.path c) to ≡ true)) × ((c < length m.tree.states.items) × (hits 0 (G.stands.tree.path c) to ≡ true) → In c E.state.active)
  leading_to =
      leading_are past.plan m.tree G.stands.tree past.tree (grown_from past.tree G.stands.is_past.grown) (token_for kind) G.stands.here (length past.tree.nodes) kind (o m past kind G) (u m past kind G) (some m past kind G) (last m past kind G).frame
      (last_here m past kind G idle) E.state.active leads.active

  many : length ms ≤ length v2.states
  many = let g = go.0 in let f = ap (λ (z : List StateView). length z) states_now in let h = length-append v.states (E.state ∷ []) in omega arith

  frames_before : m.frames ≡ frames_of v2 ms
  frames_before = ef ∙ (sym (frames_ahead v.states ms E.state go.0) ∙ ap (λ (z : List StateView). frames_with z ms) (sym states_now))

  as_before : length m.frames ≡ length ms
  as_before = let g = go.0 in ap (λ (z : List FrameView). length z) ef ∙ frames_length v.states ms (omega arith)

  finds : FindsFrom m.tree m.frames E.state.active (length ms) found
  finds =
      subst (λ (z : StateView). FindsFrom m.tree m.frames z.active (length ms) found) same_state
      (subst (λ (z : List FrameView). FindsFrom m.tree z A.state.active (length ms) found) (sym frames_before)
      (subst (λ (z : PathTree). FindsFrom z (frames_of v2 ms) A.state.active (length ms) found) tree_now (A.firsts many)))

  level_to : level (Under G.stands.here (length past.tree.nodes) kind) ≡ length ms
  level_to = let b = comes m past kind G idle in sym b.count ∙ as_before

  -- what is found are its contexts
  first : (f : Found) → (In f found → IsFound past.plan (grow (token_for kind) past.tree) (Under G.stands.here (length past.tree.nodes) kind) f) × (IsFound past.plan (grow (token_for kind) past.tree) (Under G.stands.here (length past.tree.nodes) kind) f → In f found)
  first =
      found_are past m.tree m.frames (token_for kind) to (comes m past kind G idle) E.state.active (λ c l h. (leading_to c).1 (l, h)) found
      (finds past (token_for kind) to (comes m past kind G idle) level_to (λ c i. ((leading_to c).0 i).1))

  -- none of it is at the new node
  not_here : (r : ℕ) → In (at_level r (level (Under G.stands.here (length past.tree.nodes) kind))) found → ⊥
  not_here r i =
      let f : Found = at_level r (level to) in
      let d = (first f).0 i in
      let old = context_old past m.tree m.frames (token_for kind) to (comes m past kind G idle) f d in
      let l = older_below past.tree (grown_from past.tree G.stands.is_past.grown) (token_for kind) to (o m past kind G) d.context old in
      let e = d.at in
      omega arith

  frames_mid : frames_with v2.states (ms ++ new_marks E.state.contexts found ∷ []) ≡ m.frames ++ frame_of E.state (new_marks E.state.contexts found) ∷ []
  frames_mid =
      ap (λ (z : List StateView). frames_with z (ms ++ new_marks E.state.contexts found ∷ [])) states_now
      ∙ (frames_push v.states ms E.state (new_marks E.state.contexts found) go.0 ∙ ap (λ (z : List FrameView). z ++ frame_of E.state (new_marks E.state.contexts found) ∷ []) (sym ef))

  marks_now : AreMatched found (ms ++ new_marks E.state.contexts found ∷ []) later
  marks_now = subst (λ (z : StateView). AreMatched found (ms ++ new_marks z.contexts found ∷ []) later) same_state A.marks

  together : GoTogether v2 later
  together = grown_together v v2 ms later number found go E A

  matched : (l : ℕ) (f : FrameView) → slice_get (frames_of v2 later) l ≡ Some f → (g : FrameView) × (slice_get (m.frames ++ frame_of E.state (new_marks E.state.contexts found) ∷ []) l ≡ Some g) × FrameMatched found l g f
  matched l f at =
      let q = frames_matched v2.states found (ms ++ new_marks E.state.contexts found ∷ []) later marks_now l f at in
      (q.0, subst (λ (z : List FrameView). slice_get z l ≡ Some q.0) frames_mid q.1, q.2)

  count_now : length (frames_of v2 later) ≡ suc (length m.frames)
  count_now =
      let t = together in
      let e = t.0 in
      let k = marks_now.count in
      let j = length-append ms (new_marks E.state.contexts found ∷ []) in
      let b = as_before in
      frames_length v2.states later (omega arith) ∙ omega arith

  pub advanced_stands : MatcherAt (record m { frames = frames_of v2 later; text = is_text kind }) (past_grown (token_for kind) past) (is_text kind)
  advanced_stands = frame_stands m past kind G idle E.state leads made found first (frames_of v2 later) count_now matched not_here

  pub advanced_given : (given : List Role) → AreRoles v2.tree.states.items A.state.whole A.state.active found (map (λ (r : Role). r.0) given)
      → map (λ (r : Role). r.0) given ≡ roles_given past.plan (grow (token_for kind) past.tree) (Under G.stands.here (length past.tree.nodes) kind)
  advanced_given given roles =
      frame_given m past kind G idle E.state leads made found first (map (λ (r : Role). r.0) given)
      (subst (λ (z : PathTree). AreRoles z.states.items E.state.whole E.state.active found (map (λ (r : Role). r.0) given)) tree_now
      (subst (λ (z : StateView). AreRoles v2.tree.states.items z.whole z.active found (map (λ (r : Role). r.0) given)) same_state roles))
