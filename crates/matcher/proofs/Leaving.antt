-- What a matcher stands for when its innermost node is left.
use Rattle.std.proofs.Common.{◌≡◌, ℕ, suc, ◌+◌, ◌-◌, ◌<◌, ◌≤◌, Bool, true, false, not, cond, None, max, take, List, [], ◌∷◌, length, refl, sym, ◌∙◌, ap, subst, inl, inr, ◌⊎◌, ◌↔◌, arith, eqb, Some, Option}
use Rattle.std.specs.Prelude.{slice_get}
use Rattle.std.specs.List.{filter}
use Rattle.std.proofs.lemmas.Bool.{false≢true, eqb-true, eq-eqb}
use Rattle.std.proofs.lemmas.List.{length-take-le}
use Rattle.gcx_base.specs.declared.kind.Kind.{Kind}
use Rattle.gcx_base.specs.declared.kind.Kind.TheVariants.{Text}
use Rattle.gcx_base.specs.declared.steps.Step.{Step}
use Rattle.gcx_model.specs.Tree.{Node, Under, serial_of, above, Tree, End, grow, grow_at}
use Rattle.gcx_model.specs.Paths.{hits, head}
use Rattle.gcx_model.specs.Core.{OffTree, PlanTree}
use Rattle.gcx_model.specs.Growth.{level, may_come_at}
use Rattle.gcx_model.specs.Held.{signed}
use Rattle.gcx_model.specs.Past.{Past, IsPast, past_grown}
use Rattle.tree_laws.proofs.Lists.{In, In-filter, In-kept}
use Rattle.tree_laws.proofs.Chains.{above_self}
use Rattle.past_laws.proofs.PastForms.{past_feeds}
use Rattle.tree_laws.proofs.Fed.{grown_from}
use Rattle.tree_laws.proofs.Growing.{level_above}
use Rattle.path_states.specs.declared.paths.PathState.{PathState}
use Rattle.matcher.specs.Frame.{IsFirst, IsFound, IsFrame}
use Rattle.matcher.specs.Matcher.{IsSign, MatcherAt}
use Rattle.matcher.specs.Signs.{InTurn}
use Rattle.matcher.specs.View.{FrameView, MatcherView, innermost_frame}
use Rattle.matcher.specs.declared.frames.Found.{Found}
use Rattle.matcher.specs.declared.signs.Sign.{Sign}
use Rattle.matcher.proofs.Bases.{signed_hit}
use Rattle.matcher.proofs.Places.{take_at}

-- A frame tells of the nodes alone, and not of which of them is open.
frame_by_nodes : (plan : PlanTree) (P Q : Tree) (tree : List PathState) (path : ℕ → List Step) (frame : FrameView) (a : Node) → Q.nodes ≡ P.nodes → IsFrame plan P tree path frame a → IsFrame plan Q tree path frame a
frame_by_nodes plan P Q tree path frame a e R = record {
  active = R.active;
  pending = R.pending;
  whole = R.whole;
  climbs = R.climbs;
  unfound = λ r. ((λ i. first_by P Q a r None e ((R.unfound r).0 i)), (λ f. (R.unfound r).1 (first_by Q P a r None (sym e) f)));
  found = λ f. ((λ i. found_by P Q f e ((R.found f).0 i)), (λ g. (R.found f).1 (found_by Q P f (sym e) g)));
}
  where
    first_by : (P Q : Tree) (b : Node) (r : ℕ) (o : Option Node) → Q.nodes ≡ P.nodes → IsFirst plan P b r o → IsFirst plan Q b r o
    first_by P Q b r o e f = record { row = f.row; role = f.role; hit = f.hit; is = subst (λ (z : List Node). head (filter (hits (serial_of b) f.row.tail) z) ≡ o) (sym e) f.is }

    found_by : (P Q : Tree) (f : Found) → Q.nodes ≡ P.nodes → IsFound plan P a f → IsFound plan Q a f
    found_by P Q f e g = record { context = g.context; over = g.over; at = g.at; is = first_by P Q g.context f.role (Some a) e g.is }

-- the signs stay in turn
turn_filter : (p : Sign → Bool) (xs : List Sign) → InTurn xs → InTurn (filter p xs)
turn_filter p [] c = tt
turn_filter p (x ∷ xs) c = go (p x) (turn_filter p xs c.1)
  where
    go : (b : Bool) → InTurn (filter p xs) → InTurn (cond b (x ∷ filter p xs) (filter p xs))
    go true r = (λ y i. c.0 y (In-filter p y xs i).0, r)
    go false r = r

not_level : (l k : ℕ) → not (eqb l k) ≡ true → l ≡ k → ⊥
not_level l k h e = false≢true (sym (ap not (eq-eqb l k e)) ∙ h)

level_not : (l k : ℕ) → (l ≡ k → ⊥) → not (eqb l k) ≡ true
level_not l k h = go (eqb l k) refl
  where
    go : (b : Bool) → eqb l k ≡ b → not b ≡ true
    go true e = absurd (h (eqb-true l k e))
    go false e = refl

-- the signs of other levels than that of the frame that was taken: where it tells of none, they are all
abbrev pub Dropped : FrameView → ℕ → (before now : List Sign) → Type 0
Dropped frame l before now = ((frame.signed ≡ true) × (now ≡ filter (λ s. not (eqb s.level l)) before)) ⊎ ((frame.signed ≡ false) × (now ≡ before))

module _ (m : MatcherView) (past : Past) (text : Bool) (S : MatcherAt m past text) (Q : Tree) (p : Node) (s : ℕ) (k : Kind) (here : S.here ≡ Under p s k) (nodes : Q.nodes ≡ past.tree.nodes) (at : Q.at ≡ Some p) (is_past : IsPast (record past { tree = Q })) where
  up : (a : Node) → In a (above p) → In a (above S.here)
  up a i = subst (λ (z : Node). In a (above z)) (sym here) (inr i)

  deeper : level S.here ≡ suc (level p)
  deeper = ap level here

  -- a node above the one that is left is this one, or above its parent
  here_or : (a : Node) → In a (above S.here) → (S.here ≡ a) ⊎ In a (above p)
  here_or a i = elim (subst (λ (z : Node). In a (above z)) here i) [ inl e ↦ inl (here ∙ e) | inr j ↦ inr j ]

  -- where the signs are those of other levels, they are those of the nodes above
  signs_left : (signs : List Sign) → ((x : Sign) → In x signs ↔ (In x m.signs × (x.level ≡ level S.here → ⊥))) → (x : Sign) → In x signs ↔ IsSign (record past { tree = Q }) p x
  signs_left signs is x = (
    (λ j. (let q = (is x).0 j in
        let g = (S.signs x).0 q.0 in
        elim (here_or g.node g.among) [
          | inl e ↦ absurd (q.1 (sym g.at ∙ ap level (sym e)))
          | inr i ↦ record { off = g.off; of = g.of; role = g.role; steps = g.steps; node = g.node; among = i; at = g.at; is = g.is }
        ])),
    (λ g. (is x).1 (
      (S.signs x).1 (record { off = g.off; of = g.of; role = g.role; steps = g.steps; node = g.node; among = up g.node g.among; at = g.at; is = g.is }),
      (λ e. let l = level_above p g.node g.among in let f = g.at in let d = deeper in omega arith),
    )),
  )

  -- the innermost node has no frame
  left_idle : (idle : ℕ) → idle + 1 ≡ m.idle → ((o : OffTree) → signed past.acts o S.here ≡ false) → MatcherAt (record m { idle = idle; text = false }) (record past { tree = Q }) false
  left_idle idle fewer unsigned = record {
    is_past = is_past;
    tree = S.tree;
    flag = refl;
    here = p;
    innermost = at;
    some = S.some;
    levels = let l = S.levels in let d = deeper in omega arith;
    frames = λ a frame i e. frame_by_nodes past.plan past.tree Q m.tree.states.items S.tree.path frame a nodes (S.frames a frame (up a i) e);
    idle = λ a i l c h. S.idle a (up a i) l c h;
    over = λ frame e l. elim (S.over frame e (omega arith)) [ inl x ↦ inl x | inr y ↦ (let z = y.1 in absurd (omega arith)) ];
    signs = signs_left m.signs (λ x. ((λ j. (j, off_here x j)), (λ q. q.0)));
    marked = S.marked;
    turn = S.turn;
    fresh = λ e o. absurd (false≢true e);
  }
    where
      off_here : (x : Sign) → In x m.signs → x.level ≡ level S.here → ⊥
      off_here x j e =
          let g = (S.signs x).0 j in
          elim (here_or g.node g.among) [
            | inl f ↦ false≢true (sym (unsigned g.off) ∙ subst (λ (z : Node). signed past.acts g.off z ≡ true) (sym f) g.is)
            | inr i ↦ (let l = level_above p g.node i in let h = g.at in let d = deeper in absurd (omega arith))
          ]

  -- its frame is taken away
  left_frame : (frames : List FrameView) (frame : FrameView) (signs : List Sign) → m.idle ≡ 0 → frames ≡ take (max 1 (length m.frames - 1)) m.frames → innermost_frame m.frames ≡ Some frame → Dropped frame (length m.frames - 1) m.signs signs
      → MatcherAt (record m { frames = frames; text = false; signs = signs }) (record past { tree = Q }) false
  left_frame frames frame signs none taken last dropped = record {
    is_past = is_past;
    tree = S.tree;
    flag = refl;
    here = p;
    innermost = at;
    some = let l = left in let c = count in let d = deeper in omega arith;
    levels = let l = left in let c = count in let d = deeper in omega arith;
    frames = λ a f i e. frame_by_nodes past.plan past.tree Q m.tree.states.items S.tree.path f a nodes (S.frames a f (up a i) (old (level a) f e));
    idle = λ a i l c h. (let f = level_above p a i in let g = left in let b = count in let d = deeper in absurd (omega arith));
    over = λ f e l. absurd (omega arith);
    signs = signs_left signs members;
    marked = λ x f j e. S.marked x f ((members x).0 j).0 (old x.level f e);
    turn = elim dropped [
      | inl d ↦ subst InTurn (sym d.1) (turn_filter (λ (z : Sign). not (eqb z.level (length m.frames - 1))) m.signs S.turn)
      | inr d ↦ subst InTurn (sym d.1) S.turn
    ];
    fresh = λ e o. absurd (false≢true e);
  }
    where
      left : length m.frames - 1 ≡ level S.here
      left = let l = S.levels in omega arith

      taken_is : frames ≡ take (length m.frames - 1) m.frames
      taken_is = let l = S.levels in let d = deeper in let k : max 1 (length m.frames - 1) ≡ length m.frames - 1 = omega arith in taken ∙ ap (λ (z : ℕ). take z m.frames) k

      count : length frames ≡ length m.frames - 1
      count = ap (λ (z : List FrameView). length z) taken_is ∙ length-take-le (length m.frames - 1) m.frames (omega arith)

      old : (i : ℕ) (f : FrameView) → slice_get frames i ≡ Some f → slice_get m.frames i ≡ Some f
      old i f e = (take_at m.frames (length m.frames - 1) i f (subst (λ (z : List FrameView). slice_get z i ≡ Some f) taken_is e)).1

      members : (x : Sign) → In x signs ↔ (In x m.signs × (x.level ≡ level S.here → ⊥))
      members x = elim dropped [
        | inl d ↦ (
          (λ j. (let q = In-filter (λ (z : Sign). not (eqb z.level (length m.frames - 1))) x m.signs (subst (λ (z : List Sign). In x z) d.1 j) in
              (q.0, λ e. not_level x.level (length m.frames - 1) q.1 (e ∙ sym left)))),
          (λ q. subst (λ (z : List Sign). In x z) (sym d.1) (In-kept (λ (z : Sign). not (eqb z.level (length m.frames - 1))) x m.signs q.0 (level_not x.level (length m.frames - 1) (λ e. q.1 (e ∙ left))))),
        )
        | inr d ↦ (
          (λ j. (let i = subst (λ (z : List Sign). In x z) d.1 j in
              (i, λ e. false≢true (sym d.0 ∙ S.marked x frame i (ap (slice_get m.frames) (e ∙ sym left) ∙ last))))),
          (λ q. subst (λ (z : List Sign). In x z) (sym d.1) q.0),
        )
      ]

-- a text
module _ (m : MatcherView) (past : Past) (S : MatcherAt m past true) where
  pub idle_text : (idle : ℕ) → idle + 1 ≡ m.idle → MatcherAt (record m { idle = idle; text = false }) past false
  idle_text idle fewer =
      let q = S.innermost in
      left_idle m past true S past.tree q.0 q.1 (Text q.2) q.4 refl q.5 S.is_past idle fewer (S.fresh refl)

  pub frame_text : (frames : List FrameView) (frame : FrameView) (signs : List Sign) → m.idle ≡ 0 → frames ≡ take (max 1 (length m.frames - 1)) m.frames → innermost_frame m.frames ≡ Some frame → Dropped frame (length m.frames - 1) m.signs signs
      → MatcherAt (record m { frames = frames; text = false; signs = signs }) past false
  frame_text frames frame signs none taken last dropped =
      let q = S.innermost in
      left_frame m past true S past.tree q.0 q.1 (Text q.2) q.4 refl q.5 S.is_past frames frame signs none taken last dropped

-- an element
module _ (m : MatcherView) (past : Past) (p : Node) (s : ℕ) (k : Kind) (S : MatcherAt m past false) (at : past.tree.at ≡ Some (Under p s k)) where
  here : S.here ≡ Under p s k
  here = let e : Some S.here ≡ Some (Under p s k) = sym S.innermost ∙ at in cc

  nodes : (grow End past.tree).nodes ≡ past.tree.nodes
  nodes = ap (λ (o : Option Node). (grow_at o End past.tree).nodes) at

  at_parent : (grow End past.tree).at ≡ Some p
  at_parent = ap (λ (o : Option Node). (grow_at o End past.tree).at) at

  grown : IsPast (past_grown End past)
  grown =
      let f = past_feeds past S.is_past End (ap (λ (o : Option Node). may_come_at o End past.tree.nodes) at) in
      record { core = f.core; good = f.good; placed = f.placed; grown = f.grown; stated = f.stated; within = S.is_past.within }

  -- a statement is signed at nodes with frames alone
  unsigned : 0 < m.idle → (o : OffTree) → signed past.acts o S.here ≡ false
  unsigned some o = go (signed past.acts o S.here) refl
    where
      go : (b : Bool) → signed past.acts o S.here ≡ b → signed past.acts o S.here ≡ false
      go false e = e
      go true e =
          let i = (grown_from past.tree S.is_past.grown).at_in S.here S.innermost in
          let h = signed_hit past.plan m.tree S.tree past S.is_past refl o S.here i e in
          let l : length m.frames ≤ level S.here = (let z = S.levels in omega arith) in
          absurd (false≢true (sym (S.idle S.here (above_self S.here) l h.0 h.1) ∙ h.2))

  pub idle_element : (idle : ℕ) → idle + 1 ≡ m.idle → MatcherAt (record m { idle = idle; text = false }) (past_grown End past) false
  idle_element idle fewer = left_idle m past false S (grow End past.tree) p s k here nodes at_parent grown idle fewer (unsigned (omega arith))

  pub frame_element : (frames : List FrameView) (frame : FrameView) (signs : List Sign) → m.idle ≡ 0 → frames ≡ take (max 1 (length m.frames - 1)) m.frames → innermost_frame m.frames ≡ Some frame → Dropped frame (length m.frames - 1) m.signs signs
      → MatcherAt (record m { frames = frames; text = false; signs = signs }) (past_grown End past) false
  frame_element frames frame signs none taken last dropped = left_frame m past false S (grow End past.tree) p s k here nodes at_parent grown frames frame signs none taken last dropped
