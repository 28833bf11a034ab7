-- What the calls of a matcher do, from what became of its parts.
use Rattle.std.proofs.Common.{◌≡◌, ℕ, ◌-◌, ◌<◌, ◌≤◌, Bool, true, false, List, [], ◌∷◌, ◌++◌, length, map, refl, sym, ◌∙◌, ap, subst, Some}
use Rattle.gcx_base.specs.Kinds.{is_text}
use Rattle.gcx_base.specs.declared.ids.Role.{Role}
use Rattle.gcx_base.specs.declared.kind.Kind.{Kind}
use Rattle.gcx_model.specs.Tree.{Node, grow}
use Rattle.gcx_model.specs.Growth.{level, may_come}
use Rattle.gcx_model.specs.Held.{roles_given}
use Rattle.gcx_model.specs.Past.{Past, IsNode, Opens, past_grown, token_for}
use Rattle.path_states.specs.Lists.{From, Gains}
use Rattle.path_states.specs.Names.{IsNameNumber}
use Rattle.path_states.specs.State.{StateView, IsMade}
use Rattle.path_states.specs.States.{StatesView, Enters, last_state, outer_states}
use Rattle.path_states.proofs.Gaining.{gains_none}
use Rattle.path_states.proofs.Looking.{one_at}
use Rattle.matcher.specs.Calls.{GivesNext, GivesNode, KeepsStanding, StandsBehind, StandsIn, StandsNext}
use Rattle.matcher.specs.Entering.{AddsFrame, AddsGiven, FindsAll, FindsHere, Firsts, GivesInside, Goes, Halts, IsIdle, IsIdled, IsVain}
use Rattle.matcher.specs.Frames.{AreBoth, AreRoles}
use Rattle.matcher.specs.Matcher.{MatcherAt}
use Rattle.matcher.specs.Parts.{NodeMarks, new_marks}
use Rattle.matcher.specs.Stacks.{AreMatched}
use Rattle.matcher.specs.View.{FrameView, GoTogether, MatcherView, frames_of, innermost_frame, matcher_view}
use Rattle.matcher.specs.declared.frames.Found.{Found}
use Rattle.matcher.specs.declared.signs.Sign.{Sign}
use Rattle.matcher.proofs.Entering.{Unled, halts_goes, idle_goes, idle_stands, last, one, unled_given}
use Rattle.matcher.proofs.EnteringFrame.{advanced_given, advanced_stands}
use Rattle.matcher.proofs.Framing.{last_frame}
use Rattle.matcher.proofs.GivenRoles.{roles_of_both}
use Rattle.matcher.proofs.Places.{last_is, outer_push}

pub same_keeps : (old new : MatcherView) → new ≡ old → KeepsStanding old new
same_keeps old new e s S = subst (λ (z : MatcherView). StandsIn z s) (sym e) S

-- behind a new node
behind_by : (old new : MatcherView) (kind : Kind)
    → ((past : Past) → MatcherAt old past false → may_come (token_for kind) past.tree ≡ true → ((p : Node) → past.tree.at ≡ Some p → level p ≤ 1000) → MatcherAt new (past_grown (token_for kind) past) (is_text kind)) → StandsBehind old new kind
behind_by old new kind f s S may = f s.0 (subst (λ (b : Bool). MatcherAt old s.0 b) may.0 S) may.1.0 may.1.1

-- the roles of whole subtrees of the innermost frame are those of the innermost state
pub inside_whole : (v : StatesView) (ms : List NodeMarks) → GoTogether v ms → (x : StateView) → last_state v.states ≡ Some x → (frame : FrameView) → innermost_frame (frames_of v ms) ≡ Some frame → frame.whole ≡ x.whole
inside_whole v ms go x at frame f =
    let q = last_frame v ms go frame f in
    let same : q.0 ≡ x = one_at v.states (length v.states - 1) q.0 x q.1 at in
    ap (λ (z : FrameView). z.whole) q.2.2 ∙ ap (λ (z : StateView). z.whole) same

-- a state that was entered and left again
pub entered_left : (v mid v2 : StatesView) (number : ℕ) → Enters v mid number → v2 ≡ record mid { states = outer_states mid.states } → 0 < length v.states → v2 ≡ v
entered_left v mid v2 number E e l =
    e ∙ (ap (λ (z : StatesView). record z { states = outer_states z.states }) E.is ∙ ap (λ (z : List StateView). record v { states = z }) (outer_push v.states E.state l))

-- no path leads to the node that was entered
pub entered_halts : (v mid : StatesView) (number : ℕ) (text : Bool) (x : StateView) → Enters v mid number → last_state mid.states ≡ Some x → IsVain x text → Halts v number text
entered_halts v mid number text x E at vain =
    let e = ap (λ (z : StatesView). z.states) E.is in
    let same : x ≡ E.state = one_at mid.states (length mid.states - 1) x E.state at (last_is v.states mid.states E.state e) in
    record { state = E.state; leads = E.leads; vain = subst (λ (z : StateView). IsVain z text) same vain }

-- a state that may give no first match
pub no_firsts_here : (v : StatesView) (ms : List NodeMarks) (x : StateView) → last_state v.states ≡ Some x → IsMade v.tree.states.items x → x.has_firsts ≡ false → (found : List Found) → found ≡ [] → FindsHere v ms found
no_firsts_here v ms x at made none found e s at2 many past t n b l h =
    let same : s ≡ x = one_at v.states (length v.states - 1) s x at2 at in
    let R : ℕ → Found → Type 0 = Firsts past.plan (grow t past.tree) n v.tree.states.items in
    subst (λ (z : List Found). Gains [] z (From s.active R)) (sym e)
    (subst (λ (z : StateView). Gains [] [] (From z.active R)) (sym same) (gains_none [] (From x.active R) (λ f q. made.firsts none q.is.from.of (record { of = q.of; member = q.member; is = record { state = q.is.state; at = q.is.at; member = q.is.from.member } }))))

pub finds_here : (v : StatesView) (ms : List NodeMarks) (x : StateView) → last_state v.states ≡ Some x → (active : List ℕ) (here : ℕ) (found : List Found) → active ≡ x.active → here ≡ length ms → FindsAll v ms active here [] found → FindsHere v ms found
finds_here v ms x at active here found ea eh h s at2 =
    let same : x ≡ s = one_at v.states (length v.states - 1) x s at at2 in
    subst (λ (z : StateView). FindsAll v ms z.active (length ms) [] found) same
    (subst (λ (z : ℕ). FindsAll v ms x.active z [] found) eh (subst (λ (z : List ℕ). FindsAll v ms z here [] found) ea h))

-- the frame that was added
pub adds_frame : (v : StatesView) (before mid now : List NodeMarks) (x : StateView) (found : List Found) (contexts : List ℕ) → last_state v.states ≡ Some x → FindsHere v before found → contexts ≡ x.contexts
    → mid ≡ before ++ new_marks contexts found ∷ [] → AreMatched found mid now → AddsFrame v before now found
adds_frame v before mid now x found contexts at finds ec em matched = record {
  state = x;
  last = at;
  marks = subst (λ (z : List ℕ). AreMatched found (before ++ new_marks z found ∷ []) now) ec (subst (λ (z : List NodeMarks). AreMatched found z now) em matched);
  firsts = finds x at;
}

-- and the roles of its node
pub adds_given : (v : StatesView) (before now : List NodeMarks) (x : StateView) (found : List Found) (given : List Role) (roles : List ℕ) → last_state v.states ≡ Some x → IsMade v.tree.states.items x → AddsFrame v before now found
    → roles ≡ x.given → AreBoth roles found (map (λ (r : Role). r.0) given) → AddsGiven v before now given
adds_given v before now x found given roles at made F er both =
    let same : x ≡ F.state = one_at v.states (length v.states - 1) x F.state at F.last in
    record {
      found = found;
      frame = F;
      roles = subst (λ (z : StateView). AreRoles v.tree.states.items z.whole z.active found (map (λ (r : Role). r.0) given)) same
          (roles_of_both v.tree.states.items x.whole x.active x.given found (map (λ (r : Role). r.0) given) made.given (subst (λ (z : List ℕ). AreBoth z found (map (λ (r : Role). r.0) given)) er both));
    }

-- ---- to a new node

-- the roles of a node to which no path leads
told : (m : MatcherView) (past : Past) (kind : Kind) (G : Goes m past kind) → Unled m past kind G → (given : List Role) → GivesInside m given → (n : Node) → Opens past.tree (token_for kind) n
    → map (λ (r : Role). r.0) given ≡ roles_given past.plan (grow (token_for kind) past.tree) n
told m past kind G h given t n o =
    let l = last m past kind G in
    t l.frame l.at l.is.climbs ∙ (unled_given m past kind G h ∙ ap (roles_given past.plan (grow (token_for kind) past.tree)) (one m past kind G n o))

module _ (m : MatcherView) (kind : Kind) (node : IsNode kind) (text : Bool) (flag : text ≡ is_text kind) where
  pub idle_entered : (now : MatcherView) → IsIdle m text → IsIdled m now text → StandsBehind m now kind
  idle_entered now idle d = behind_by m now kind (λ past S may few.
      let G : Goes m past kind = record { stands = S; node = node; may = may } in
      let q = idle_goes m past kind G (subst (λ (z : Bool). IsIdle m z) flag idle) in
      idle_stands m past kind G q.0 q.1 few now (subst (λ (z : Bool). IsIdled m now z) flag d))

  pub idle_given : (given : List Role) → IsIdle m text → GivesInside m given → GivesNode m kind given
  idle_given given idle g past n S may op =
      let G : Goes m past kind = record { stands = S; node = node; may = may } in
      told m past kind G (idle_goes m past kind G (subst (λ (z : Bool). IsIdle m z) flag idle)).0 given g n op

  pub next_entered : (now : MatcherView) (number : ℕ) → m.idle ≡ 0 → IsNameNumber m.names kind number → StandsNext m now number text → StandsBehind m now kind
  next_entered now number here by d = behind_by m now kind (λ past S may few.
      let G : Goes m past kind = record { stands = S; node = node; may = may } in
      subst (λ (z : Bool). MatcherAt now (past_grown (token_for kind) past) z) flag (d past kind (record { goes = G; by = by; flag = sym flag; here = here }) few))

  pub next_given : (given : List Role) (number : ℕ) → m.idle ≡ 0 → IsNameNumber m.names kind number → GivesNext m number text given → GivesNode m kind given
  next_given given number here by g past n S may op =
      let G : Goes m past kind = record { stands = S; node = node; may = may } in
      g past kind n (record { goes = G; by = by; flag = sym flag; here = here }) op

-- ---- below a node that has a frame

abbrev view_with : StatesView → List FrameView → ℕ → Bool → List Sign → MatcherView
view_with v frames idle text signs = record { tree = v.tree; names = v.names; frames = frames; idle = idle; text = text; signs = signs; most_bytes = v.most_bytes }

module _ (v : StatesView) (ms : List NodeMarks) (idle : ℕ) (was : Bool) (signs : List Sign) (go : GoTogether v ms) (number : ℕ) (text : Bool) where
  abbrev old : MatcherView
  old = matcher_view v ms idle was signs

  -- no path leads to it, nor to any below it
  pub halted_stands : (now : MatcherView) → Halts v number text → IsIdled old now text → StandsNext old now number text
  halted_stands now halts d past kind B few =
      let q = halts_goes old past kind B.goes v ms number text refl refl go B.by B.flag B.here halts in
      subst (λ (z : Bool). MatcherAt now (past_grown (token_for kind) past) z) B.flag (idle_stands old past kind B.goes q.0 q.1 few now (subst (λ (z : Bool). IsIdled old now z) (sym B.flag) d))

  pub halted_given : (given : List Role) → Halts v number text → GivesInside old given → GivesNext old number text given
  halted_given given halts g past kind n B op = told old past kind B.goes (halts_goes old past kind B.goes v ms number text refl refl go B.by B.flag B.here halts).0 given g n op

  -- it gets a frame
  module _ (v2 : StatesView) (later : List NodeMarks) (found : List Found) (E : Enters v v2 number) (A : AddsFrame v2 ms later found) where
    pub added_stands : StandsNext old (matcher_view v2 later idle text signs) number text
    added_stands past kind B few =
        let same : view_with v2 (frames_of v2 later) idle (is_text kind) signs ≡ view_with v (frames_of v2 later) idle (is_text kind) signs = ap (λ (z : StatesView). view_with z (frames_of v2 later) idle (is_text kind) signs) E.is in
        subst (λ (z : Bool). MatcherAt (matcher_view v2 later idle z signs) (past_grown (token_for kind) past) z) B.flag
        (subst (λ (z : MatcherView). MatcherAt z (past_grown (token_for kind) past) (is_text kind)) (sym same) (advanced_stands old past kind B.goes B.here v v2 ms later number found refl refl go B.by E A))

    pub added_given : (given : List Role) → AreRoles v2.tree.states.items A.state.whole A.state.active found (map (λ (r : Role). r.0) given) → GivesNext old number text given
    added_given given roles past kind n B op =
        advanced_given old past kind B.goes B.here v v2 ms later number found refl refl go B.by E A given roles ∙ ap (roles_given past.plan (grow (token_for kind) past.tree)) (one old past kind B.goes n op)
