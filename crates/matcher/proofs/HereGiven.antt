-- The roles of the innermost node, by the states and the marks of the open nodes.
use Rattle.std.proofs.Common.{◌≡◌, ℕ, ◌-◌, ◌<◌, ◌≤◌, Bool, true, List, [], ◌∷◌, ◌++◌, length, map, refl, sym, ◌∙◌, ap, subst, inl, inr, arith, Some}
use Rattle.std.specs.Prelude.{◌↔◌}
use Rattle.std.specs.Ordering.{nat_cmp, eq_by_cmp}
use Rattle.std.specs.Cmp.{nat_cmp_total, unsigned_tied}
use Rattle.std.specs.FinSet.{FinSet, contains, empty, from_list, contains-empty, contains-from_list, nat_cmp-IsAntisymmetric, same_set}
use Rattle.std.specs.List.{list_any}
use Rattle.std.proofs.lemmas.Bool.{false≢true, or_cases, or_left, or_right, eqb-true, eq-eqb}
use Rattle.std.proofs.lemmas.Option.{same_Some}
use Rattle.gcx_base.specs.declared.ids.Role.{Role}
use Rattle.gcx_base.specs.declared.steps.Step.{Step}
use Rattle.gcx_model.specs.Tree.{Node, serial_of, above}
use Rattle.gcx_model.specs.Paths.{hits, matches}
use Rattle.gcx_model.specs.Nodes.{Grown}
use Rattle.gcx_model.specs.Growth.{level}
use Rattle.gcx_model.specs.Core.{First, Whole}
use Rattle.gcx_model.specs.Held.{path_of, roles_given}
use Rattle.gcx_model.specs.Past.{Past}
use Rattle.base_laws.proofs.Bools.{same_bools}
use Rattle.base_laws.proofs.Members.{head_in}
use Rattle.tree_laws.proofs.Lists.{In, any_in, any_from}
use Rattle.tree_laws.proofs.Matches.{Matches-in}
use Rattle.tree_laws.proofs.Fed.{grown_from}
use Rattle.tree_laws.proofs.Chains.{above_in, above_trans, above_self}
use Rattle.placed_laws.proofs.Frames.{hits-append}
use Rattle.spread_laws.specs.Tops.{roles_newly_given}
use Rattle.path_states.specs.Lists.{Climbs, Holds}
use Rattle.path_states.specs.State.{GivenBy, IsMade, StateView}
use Rattle.path_states.proofs.Looking.{some_at}
use Rattle.matcher.specs.Calls.{GivesCount, GivesHere, GivesNewly, GivesSet}
use Rattle.matcher.specs.Entering.{GivesInside}
use Rattle.matcher.specs.Frame.{IsFound, IsInside}
use Rattle.matcher.specs.Frames.{AreBoth, AreRoles}
use Rattle.matcher.specs.Matcher.{MatcherAt}
use Rattle.matcher.specs.Parts.{NodeMarks}
use Rattle.matcher.specs.View.{FrameView, MatcherView, frame_of, innermost_frame}
use Rattle.matcher.specs.declared.frames.Found.{Found}
use Rattle.matcher.proofs.Aheads.{frame_node, here_frame, innermost_in, innermost_same}
use Rattle.matcher.proofs.Upwards.{lower_above}
use Rattle.matcher.proofs.NewFrame.{end_of, ended, first_tail, whole_tail}
use Rattle.matcher.proofs.Entering.{le_or_less}
use Rattle.matcher.proofs.GivenRoles.{IsWholeMatch, both_alone, climbs_same, newly_told, roles_of_both, roles_told}

module _ (m : MatcherView) (past : Past) (text : Bool) (S : MatcherAt m past text) where
  abbrev path : ℕ → List Step
  path = S.tree.path

  w : Grown past.tree
  w = grown_from past.tree S.is_past.grown

  here_in : In S.here past.tree.nodes
  here_in = innermost_in past.tree w text S.here S.innermost

  -- those that its own frame tells
  framed_given : (frame : FrameView) → innermost_frame m.frames ≡ Some frame → m.idle ≡ 0 → (rs : List ℕ) → AreRoles m.tree.states.items frame.whole frame.active frame.found rs → rs ≡ roles_given past.plan past.tree S.here
  framed_given frame at none rs a =
      let R = here_frame m past text S frame at none in
      roles_told past.plan m.tree S.tree past.tree w S.here here_in frame.whole frame.active frame.found R.active R.whole R.found rs a.climbs a.holds

  module _ (k : 0 < m.idle) (frame : FrameView) (at : innermost_frame m.frames ≡ Some frame) where
    -- the node of the innermost frame
    abbrev over : Node
    over = (frame_node m past text S frame at).0

    unhit : (c : ℕ) → c < length m.tree.states.items → hits 0 (S.tree.path c) S.here ≡ true → ⊥
    unhit c l h =
        let e = S.levels in
        let few : length m.frames ≤ level S.here = omega arith in
        false≢true (sym (S.idle S.here (above_self S.here) few c l) ∙ h)

    -- no path leads to it, so it is no first match
    unfound : (f : Found) → IsFound past.plan past.tree S.here f → ⊥
    unfound f d =
        let x = d.is in
        let e = end_of past.plan m.tree S.tree f.role First x.row x.role in
        let p : path e.0 ≡ path_of past.plan x.row.var ++ x.row.tail = e.3 ∙ ap (λ (z : List Step). path_of past.plan x.row.var ++ z) (first_tail x.row.kind x.row.tail x.role.same) in
        let y = Matches-in past.tree (serial_of d.context) x.row.tail S.here (head_in (matches past.tree (serial_of d.context) x.row.tail) S.here x.is) in
        let g = hits-append past.tree w 0 (path_of past.plan x.row.var) x.row.tail d.context S.here (above_in past.tree w S.here d.context here_in d.over) here_in x.hit y.1 in
        unhit e.0 e.1 (subst (λ (z : List Step). hits 0 z S.here ≡ true) (sym p) g)

    inside_over : (r : ℕ) → IsInside past.plan S.here r → IsInside past.plan over r
    inside_over r d =
        let e = end_of past.plan m.tree S.tree r Whole d.row d.role in
        let p : path e.0 ≡ path_of past.plan d.row.var ++ d.row.tail = e.3 ∙ ap (λ (z : List Step). path_of past.plan d.row.var ++ z) (whole_tail d.row.kind d.row.tail d.role.same) in
        let q = any_in (hits 0 (path_of past.plan d.row.var ++ d.row.tail)) (above S.here) d.hit in
        let f = frame_node m past text S frame at in
        elim (le_or_less (length m.frames) (level q.0)) [
          | inl le ↦ absurd (false≢true (sym (S.idle q.0 q.1 le e.0 e.1) ∙ subst (λ (z : List Step). hits 0 z q.0 ≡ true) (sym p) q.2))
          | inr lt ↦ (
              let lies = f.2 in
              let low : level q.0 ≤ level over = omega arith in
              record { row = d.row; role = d.role; hit = any_from (hits 0 (path_of past.plan d.row.var ++ d.row.tail)) q.0 (above over) (lower_above S.here q.0 over q.1 f.1 low) q.2 })
        ]

    over_inside : (r : ℕ) → IsInside past.plan over r → IsInside past.plan S.here r
    over_inside r d =
        let f = frame_node m past text S frame at in
        let q = any_in (hits 0 (path_of past.plan d.row.var ++ d.row.tail)) (above over) d.hit in
        record { row = d.row; role = d.role; hit = any_from (hits 0 (path_of past.plan d.row.var ++ d.row.tail)) q.0 (above S.here) (above_trans q.0 over S.here q.1 f.1) q.2 }

    over_whole : (r : ℕ) → In r frame.whole ↔ IsInside past.plan S.here r
    over_whole r = let f = frame_node m past text S frame at in (λ i. over_inside r ((f.3.whole r).0 i), λ d. (f.3.whole r).1 (inside_over r d))

    -- those of the whole subtrees in which the node of the innermost frame lies
    idle_given : frame.whole ≡ roles_given past.plan past.tree S.here
    idle_given =
        roles_told past.plan m.tree S.tree past.tree w S.here here_in frame.whole [] []
        (λ c. (λ i. absurd i, λ g. unhit c g.0 g.1))
        over_whole
        (λ g. (λ i. absurd i, λ d. unfound g d))
        frame.whole (frame_node m past text S frame at).3.climbs
        (record { has = λ r. (λ i. inl i, λ q. elim q [ inl i ↦ i | inr s ↦ elim s [ inl g ↦ absurd g.member | inr g ↦ absurd g.member ] ]) })

    unmatched : (r : ℕ) → IsWholeMatch past.plan S.here r → ⊥
    unmatched r d =
        let e = end_of past.plan m.tree S.tree r Whole d.row d.role in
        let p : path e.0 ≡ path_of past.plan d.row.var ++ d.row.tail = e.3 ∙ ap (λ (z : List Step). path_of past.plan d.row.var ++ z) (whole_tail d.row.kind d.row.tail d.role.same) in
        unhit e.0 e.1 (subst (λ (z : List Step). hits 0 z S.here ≡ true) (sym p) d.hit)

    -- all of them from above
    idle_newly : (r : ℕ) → In r (roles_newly_given past.plan past.tree S.here) → ⊥
    idle_newly r i =
        let q =
        newly_told past.plan m.tree S.tree past.tree w S.here here_in frame.whole [] []
        (λ c. (λ i. absurd i, λ g. unhit c g.0 g.1))
        over_whole
        (λ g. (λ i. absurd i, λ d. unfound g d))
        [] (λ r. (λ i. absurd i, λ d. absurd (unmatched r d))) refl r
        in
        elim (q.1 i) [ inl j ↦ absurd j | inr g ↦ absurd g.member ]

-- ---- a list of them, and their set

here_idle : (m : MatcherView) (frame : FrameView) → innermost_frame m.frames ≡ Some frame → 0 < m.idle → (given : List Role) → (Climbs frame.whole → map (λ (r : Role). r.0) given ≡ frame.whole) → GivesHere m given
here_idle m frame at k given e past text n S here =
    let f = frame_node m past text S frame at in
    e f.3.climbs ∙ (idle_given m past text S k frame at ∙ ap (roles_given past.plan past.tree) (innermost_same past.tree text S.here n S.innermost here))

pub here_inside : (m : MatcherView) → 0 < m.idle → (given : List Role) → GivesInside m given → GivesHere m given
here_inside m k given g past text n S here =
    let l = S.some in
    let q = some_at m.frames (length m.frames - 1) (omega arith) in
    here_idle m q.0 q.1 k given (g q.0 q.1) past text n S here

here_framed : (m : MatcherView) (frame : FrameView) → innermost_frame m.frames ≡ Some frame → m.idle ≡ 0 → (given : List Role) → AreRoles m.tree.states.items frame.whole frame.active frame.found (map (λ (r : Role). r.0) given) → GivesHere m given
here_framed m frame at none given a past text n S here =
    framed_given m past text S frame at none (map (λ (r : Role). r.0) given) a ∙ ap (roles_given past.plan past.tree) (innermost_same past.tree text S.here n S.innermost here)

-- the numbers as roles
abbrev pub roles_by : List ℕ → List Role
roles_by [] = []
roles_by (k ∷ ks) = record { 0 = k } ∷ roles_by ks

numbers_by : (ks : List ℕ) → map (λ (r : Role). r.0) (roles_by ks) ≡ ks
numbers_by [] = refl
numbers_by (k ∷ ks) = ap (λ (z : List ℕ). k ∷ z) (numbers_by ks)

many_by : (ks : List ℕ) → length (roles_by ks) ≡ length ks
many_by [] = refl
many_by (k ∷ ks) = let e = many_by ks in omega arith

-- a set with the members of a list is the list's
listed : (xs : List ℕ) (q : ℕ) → In q xs → list_any (eq_by_cmp nat_cmp q) xs ≡ true
listed [] q i = absurd i
listed (x ∷ xs) q (inl e) = or_left _ _ (unsigned_tied q x ∙ eq-eqb q x (sym e))
listed (x ∷ xs) q (inr i) = or_right _ _ (listed xs q i)

in_listed : (xs : List ℕ) (q : ℕ) → list_any (eq_by_cmp nat_cmp q) xs ≡ true → In q xs
in_listed [] q h = absurd (false≢true h)
in_listed (x ∷ xs) q h = elim (or_cases (eq_by_cmp nat_cmp q x) (list_any (eq_by_cmp nat_cmp q) xs) h) [
  | inl e ↦ inl (sym (eqb-true q x (sym (unsigned_tied q x) ∙ e)))
  | inr k ↦ inr (in_listed xs q k)
]

set_is : (s : FinSet nat_cmp) (xs : List ℕ) → ((r : ℕ) → contains s r ≡ true ↔ In r xs) → s ≡ from_list xs
set_is s xs h = same_set nat_cmp_total nat_cmp-IsAntisymmetric s (from_list xs) (λ q.
    same_bools _ _ (λ e. listed xs q ((h q).0 e)) (λ e. (h q).1 (in_listed xs q e)) ∙ sym (contains-from_list nat_cmp_total xs q))

-- of the roles of whole subtrees its state tells those whose paths lead to it
whole_matched : (m : MatcherView) (x : StateView) (k : NodeMarks) → innermost_frame m.frames ≡ Some (frame_of x k) → IsMade m.tree.states.items x → m.idle ≡ 0 → (past : Past) (text : Bool) (S : MatcherAt m past text) → (r : ℕ) → In r x.whole_here ↔ IsWholeMatch past.plan S.here r
whole_matched m x k at made none past text S r =
    let R = here_frame m past text S (frame_of x k) at none in (
      (λ i. (
          let f = (made.here.has r).0 i in
          let y = f.is in
          let q = ended past.plan m.tree S.tree r f.of Whole (((S.tree.linked f.of y.state y.at).whole r).0 y.member) in
          let p : S.tree.path f.of ≡ path_of past.plan q.0.var ++ q.0.tail = q.2 ∙ ap (λ (z : List Step). path_of past.plan q.0.var ++ z) (whole_tail q.0.kind q.0.tail q.1.same) in
          record { row = q.0; role = q.1; hit = subst (λ (z : List Step). hits 0 z S.here ≡ true) p ((R.active f.of).0 f.member).1 })),
      (λ d. (
          let q = end_of past.plan m.tree S.tree r Whole d.row d.role in
          let p : S.tree.path q.0 ≡ path_of past.plan d.row.var ++ d.row.tail = q.3 ∙ ap (λ (z : List Step). path_of past.plan d.row.var ++ z) (whole_tail d.row.kind d.row.tail d.role.same) in
          let y = some_at m.tree.states.items q.0 q.1 in
          (made.here.has r).1 (record { of = q.0; member = (R.active q.0).1 (q.1, subst (λ (z : List Step). hits 0 z S.here ≡ true) (sym p) d.hit); is = record { state = y.0; at = y.1; member = ((S.tree.linked q.0 y.0 y.1).whole r).1 q.2 } }))),
    )

-- where no path leads to it, none but those from above
pub newly_idle : (m : MatcherView) (frame : FrameView) → innermost_frame m.frames ≡ Some frame → 0 < m.idle → (s : FinSet nat_cmp) → s ≡ empty → GivesNewly m s
newly_idle m frame at idle s es past text n S here =
    es
    ∙ (set_is empty (roles_newly_given past.plan past.tree S.here) (λ r. (λ h. absurd (false≢true (sym (contains-empty nat_cmp r) ∙ h)), λ i. absurd (idle_newly m past text S idle frame at r i)))
    ∙ ap (λ (z : Node). from_list {R = nat_cmp} (roles_newly_given past.plan past.tree z)) (innermost_same past.tree text S.here n S.innermost here))

-- where it has a frame, those that its state keeps
pub newly_framed : (m : MatcherView) (x : StateView) (k : NodeMarks) → innermost_frame m.frames ≡ Some (frame_of x k) → IsMade m.tree.states.items x → m.idle ≡ 0 → k.found ≡ [] → (s : FinSet nat_cmp) → s ≡ x.kept → GivesNewly m s
newly_framed m x k at made none found s es past text n S here =
    let R = here_frame m past text S (frame_of x k) at none in
    let told = newly_told past.plan m.tree S.tree past.tree (w m past text S) S.here (here_in m past text S) x.whole x.active k.found R.active R.whole R.found x.whole_here (whole_matched m x k at made none past text S) found in
    es
    ∙ (set_is x.kept (roles_newly_given past.plan past.tree S.here) (λ r. (λ h. (told r).0 ((made.kept r).0 h), λ i. (made.kept r).1 ((told r).1 i)))
    ∙ ap (λ (z : Node). from_list {R = nat_cmp} (roles_newly_given past.plan past.tree z)) (innermost_same past.tree text S.here n S.innermost here))

-- ---- how many they are

abbrev numbers : List Role → List ℕ
numbers given = map (λ (r : Role). r.0) given

-- where no path leads to it: the roles of the state's whole subtrees
pub count_idle : (m : MatcherView) (x : StateView) (k : NodeMarks) → innermost_frame m.frames ≡ Some (frame_of x k) → 0 < m.idle → m.signs ≡ [] → (whole : List ℕ) → whole ≡ x.whole → GivesCount m (length whole)
count_idle m x k at some unsigned whole ew = record {
  unsigned = unsigned;
  given = roles_by x.whole;
  here = here_idle m (frame_of x k) at some (roles_by x.whole) (λ c. numbers_by x.whole);
  told = record {
    idle = λ f other i. numbers_by x.whole ∙ ap (λ (z : FrameView). z.whole) (same_Some (frame_of x k) f (sym at ∙ other));
    framed = λ f other none. absurd (omega arith);
  };
  many = many_by x.whole ∙ ap length (sym ew);
}

-- and where it has a frame and is no first match
pub count_framed : (m : MatcherView) (x : StateView) (k : NodeMarks) → innermost_frame m.frames ≡ Some (frame_of x k) → IsMade m.tree.states.items x → m.idle ≡ 0 → k.found ≡ [] → m.signs ≡ [] → (given : List ℕ) → given ≡ x.given → GivesCount m (length given)
count_framed m x k at made none found unsigned given eg =
    let rs = numbers (roles_by x.given) in
    let is : x.given ≡ rs = sym (numbers_by x.given) in
    let frame : (k.found ≡ []) × Climbs rs × Holds rs (GivenBy m.tree.states.items x.whole x.active) =
    (found, subst Climbs is made.rising, subst (λ (zs : List ℕ). Holds zs (GivenBy m.tree.states.items x.whole x.active)) is made.given) in
    record {
      unsigned = unsigned;
      given = roles_by x.given;
      here = here_framed m (frame_of x k) at none (roles_by x.given)
          (roles_of_both m.tree.states.items x.whole x.active x.given k.found rs made.given (both_alone x.given k.found rs found made.rising (numbers_by x.given)));
      told = record {
        idle = λ f other some. absurd (omega arith);
        framed = λ f other e. subst (λ (z : FrameView). (z.found ≡ []) × Climbs rs × Holds rs (GivenBy m.tree.states.items z.whole z.active)) (same_Some (frame_of x k) f (sym at ∙ other)) frame;
      };
      many = many_by x.given ∙ ap length (sym eg);
    }

-- ---- their set

pub set_idle : (m : MatcherView) (x : StateView) (k : NodeMarks) → innermost_frame m.frames ≡ Some (frame_of x k) → IsMade m.tree.states.items x → 0 < m.idle → (count : ℕ) → GivesCount m count → (s : FinSet nat_cmp) → s ≡ x.whole_set → GivesSet m s count
set_idle m x k at made some count g s es = record {
  given = g.given;
  here = g.here;
  is = es ∙ (set_is x.whole_set x.whole made.wholes ∙ ap (λ (z : List ℕ). from_list {R = nat_cmp} z) (sym (g.told.idle (frame_of x k) at some)));
  many = g.many;
}

pub set_framed : (m : MatcherView) (x : StateView) (k : NodeMarks) → innermost_frame m.frames ≡ Some (frame_of x k) → IsMade m.tree.states.items x → m.idle ≡ 0 → (count : ℕ) → GivesCount m count → (s : FinSet nat_cmp) → s ≡ x.roles → GivesSet m s count
set_framed m x k at made none count g s es =
    let t = g.told.framed (frame_of x k) at none in
    let same : x.given ≡ numbers g.given = climbs_same x.given (numbers g.given) made.rising t.1 (λ y i. (t.2.has y).1 ((made.given.has y).0 i)) (λ y i. (made.given.has y).1 ((t.2.has y).0 i)) in
    record {
      given = g.given;
      here = g.here;
      is = es ∙ (set_is x.roles x.given made.roles ∙ ap (λ (z : List ℕ). from_list {R = nat_cmp} z) same);
      many = g.many;
    }

-- those of the state and of first matches together
pub here_both : (m : MatcherView) (x : StateView) (k : NodeMarks) → innermost_frame m.frames ≡ Some (frame_of x k) → IsMade m.tree.states.items x → m.idle ≡ 0 → (roles : List ℕ) → roles ≡ x.given → (found : List Found) → found ≡ k.found
    → (given : List Role) → AreBoth roles found (map (λ (r : Role). r.0) given) → GivesHere m given
here_both m x k at made none roles er found ef given both =
    here_framed m (frame_of x k) at none given
    (roles_of_both m.tree.states.items x.whole x.active x.given k.found (map (λ (r : Role). r.0) given) made.given
    (subst (λ (z : List Found). AreBoth x.given z (map (λ (r : Role). r.0) given)) ef (subst (λ (z : List ℕ). AreBoth z found (map (λ (r : Role). r.0) given)) er both)))
