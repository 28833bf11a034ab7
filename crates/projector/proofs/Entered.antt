-- The matcher's innermost node, opened in the buffer.
use Rattle.std.proofs.Common.{◌≡◌, ℕ, suc, ◌≤◌, true, false, not, ◌&&◌, List, [], ◌∷◌, length, refl, sym, ◌∙◌, ap, subst, inr, arith, eqb, Some, Option}
use Rattle.std.specs.Prelude.{option_map}
use Rattle.std.specs.Ordering.{nat_cmp}
use Rattle.std.specs.FinSet.{FinSet, from_list}
use Rattle.std.specs.List.{filter}
use Rattle.std.proofs.lemmas.Bool.{and_from, eqb-true, false≢true, false_from_ne_true}
use Rattle.gcx_base.specs.Kinds.{is_text}
use Rattle.gcx_base.specs.declared.ids.Role.{Role}
use Rattle.gcx_base.specs.declared.kind.Kind.{Kind}
use Rattle.gcx_model.specs.Tree.{Node, Under, serial_of, TreeToken, grow}
use Rattle.gcx_model.specs.Core.{RoleTarget, Whole, OffTree}
use Rattle.gcx_model.specs.Run.{Action, Offed}
use Rattle.gcx_model.specs.Placed.{is_empty, is_own, is_own_kind, offs_in}
use Rattle.gcx_model.specs.Growth.{may_come, level}
use Rattle.gcx_model.specs.Held.{roles_given, roles_taken, signed}
use Rattle.gcx_model.specs.Members.{In}
use Rattle.gcx_model.specs.Past.{Past, IsNode, Opens, is_ahead, open_nodes, past_grown, token_for}
use Rattle.tree_laws.proofs.Lists.{In-kept}
use Rattle.tree_laws.proofs.OffsSigned.{signed_is_off}
use Rattle.past_laws.proofs.Ahead.{new_node, open_is}
use Rattle.spread_laws.proofs.Newly.{kept_newly}
use Rattle.node_store.specs.declared.store.Place.{Place}
use Rattle.matcher.specs.Calls.{GivesHere, GivesPlainly, StandsBehind}
use Rattle.matcher.specs.Matcher.{MatcherAt}
use Rattle.matcher.specs.View.{MatcherView}
use Rattle.buf_tree.specs.declared.ahead.Ahead.{Ahead}
use Rattle.buf_tree.specs.Calls.{Opened, less, new_roles, numbers}
use Rattle.buf_tree.specs.PassedCalls.{KeptTo, LeftTo, MayOpenKept, OpenedWith, StandsWith}
use Rattle.buf_tree.specs.Shape.{Cell}
use Rattle.buf_tree.specs.Stands.{GivenTo, StandsFor, StandsOpened, past_told}
use Rattle.buf_tree.specs.View.{View}
use Rattle.buf_tree.proofs.LeftViews.{stands_told}
use Rattle.buf_tree.proofs.WithRoles.{left_given, opened_from}
use Rattle.projector.specs.Opening.{HasHeard, MayOpenEntered, OpensBelow, OpensEntered, TellsTaken}
use Rattle.projector.specs.Projector.{ahead_in, MayBeFed}
use Rattle.projector.proofs.Feeding.{shallow_one}
use Rattle.projector.proofs.Grown.{added_then, behind, given_to, heard_here, new_innermost, opened_node, opens}
use Rattle.projector.proofs.Pasts.{is_open}
use Rattle.projector.proofs.Places.{shallow}

-- ---- nothing waits

pub none_waits : (ws : List Ahead) → eqb (length ws) 0 ≡ true → ws ≡ []
none_waits [] e = refl
none_waits (w ∷ ws) e = let f : suc (length ws) ≡ 0 = eqb-true (suc (length ws)) 0 e in absurd (omega arith)

pub told_stands : (v : View) (past : Past) → v.waiting ≡ [] → StandsFor v past → StandsFor v (past_told past)
told_stands v past e h = stands_told v v (ap (λ (ws : List Ahead). record v { waiting = ws }) e) past h

-- ---- what the matcher tells of the new node is what the buffer asks

pub enters_by : (m n : MatcherView) (kind : Kind) → StandsBehind m n kind
    → (past : Past) → MatcherAt m past false → may_come (token_for kind) past.tree ≡ true → ((p : Node) → past.tree.at ≡ Some p → level p ≤ 1000) → MatcherAt n (past_grown (token_for kind) past) (is_text kind)
enters_by m n kind f past S may low = f (past, false) S (refl, (may, low))

module _ (m n : MatcherView) (v : View) (kind : Kind) (k : IsNode kind) (given ahead : List Role)
    (enters : (past : Past) → MatcherAt m past false → may_come (token_for kind) past.tree ≡ true → ((p : Node) → past.tree.at ≡ Some p → level p ≤ 1000) → MatcherAt n (past_grown (token_for kind) past) (is_text kind))
    (gives : (past : Past) (a : Node) → MatcherAt m past false → may_come (token_for kind) past.tree ≡ true → ((p : Node) → past.tree.at ≡ Some p → level p ≤ 1000) → Opens past.tree (token_for kind) a
    → numbers given ≡ roles_given past.plan (grow (token_for kind) past.tree) a)
    (takes : TellsTaken n ahead) (levels : (c : Cell) → In c v.rows → c.row.is_open ≡ true → c.row.level ≤ 1000) where
  pub gives_to : (past : Past) → StandsFor v past → HasHeard m past → may_come (token_for kind) past.tree ≡ true → GivenTo past (token_for kind) given ahead
  gives_to past h heard may =
      let t = token_for kind in
      let a = is_open past.tree t may in
      let q = ahead_in past.tree past.acts past in
      let s = heard_here m past a.0 a.1 heard in
      let low = shallow_one past.tree a.0 a.1 (shallow v past h a.0 a.1 levels) in
      let st = enters q s may low in
      given_to past h.is_past kind k may given ahead (λ b o. gives q b s may low o) (λ b i. takes (past_grown t q) (is_text kind) b st i)

  pub opens_below : (between w : View) (q : ℕ) (place : Option Place) → Opened v between q (option_map (λ (p : Place). p.0) place) kind given ahead → StandsOpened v between kind given ahead → w ≡ record between { waiting = [] }
      → ((past : Past) → StandsFor between past → StandsFor w (past_told past)) → OpensBelow m n v w q kind (place, given)
  opens_below between w q place opened stands cleared told = record {
    matcher = enters;
    given = gives;
    opened = record {
      ahead = ahead;
      between = between;
      opened = opened;
      cleared = cleared;
      taken = λ past b h heard may o. (gives_to past h heard may b (opened_node past h.is_past kind k may b o)).1;
    };
    stands = λ past h heard may. told (past_grown (token_for kind) past) (stands past h may (gives_to past h heard may));
  }

-- the roles of the innermost node are those of the node that was entered
pub entered_gives : (m n : MatcherView) (kind : Kind) → IsNode kind → (given : List Role)
    → ((past : Past) → MatcherAt m past false → may_come (token_for kind) past.tree ≡ true → ((p : Node) → past.tree.at ≡ Some p → level p ≤ 1000) → MatcherAt n (past_grown (token_for kind) past) (is_text kind)) → GivesHere n given
    → (past : Past) (a : Node) → MatcherAt m past false → may_come (token_for kind) past.tree ≡ true → ((p : Node) → past.tree.at ≡ Some p → level p ≤ 1000) → Opens past.tree (token_for kind) a
    → numbers given ≡ roles_given past.plan (grow (token_for kind) past.tree) a
entered_gives m n kind k given enters here past a S may low o =
    let b = is_open past.tree (token_for kind) may in
    let alone = sym (behind (token_for kind) past.tree) ∙ opened_node past S.is_past kind k may a o in
    here (past_grown (token_for kind) past) (is_text kind) a (enters past S may low) (new_innermost past.tree kind k b.0 b.1 a alone)

-- so these are the roles that the buffer asks for
pub entered_to : (m : MatcherView) (v : View) (kind : Kind) → IsNode kind → (given ahead : List Role) → (e : MayOpenEntered m v kind) → GivesHere m given → TellsTaken m ahead → GivenTo e.past (token_for kind) given ahead
entered_to m v kind k given ahead e here taken =
    let t = token_for kind in
    let past = e.past in
    let is = e.stands.is_past in
    let b = is_open past.tree t e.may in
    let q = ahead_in past.tree past.acts past in
    given_to past is kind k e.may given ahead
    (λ n o. here (past_grown t q) (is_text kind) n e.entered (new_innermost past.tree kind k b.0 b.1 n (sym (behind t past.tree) ∙ opened_node past is kind k e.may n o)))
    (λ n i. taken (past_grown t q) (is_text kind) n e.entered i)

-- the matcher entered it
pub entered_behind : (m n : MatcherView) (v : View) (kind : Kind)
    → ((past : Past) → MatcherAt m past false → may_come (token_for kind) past.tree ≡ true → ((p : Node) → past.tree.at ≡ Some p → level p ≤ 1000) → MatcherAt n (past_grown (token_for kind) past) (is_text kind))
    → ((c : Cell) → In c v.rows → c.row.is_open ≡ true → c.row.level ≤ 1000) → MayBeFed (HasHeard m) v (token_for kind) → MayOpenEntered n v kind
entered_behind m n v kind enters levels e =
    let a = is_open e.past.tree (token_for kind) e.may in
    record {
      past = e.past;
      stands = e.stands;
      may = e.may;
      entered = enters (ahead_in e.past.tree e.past.acts e.past) (heard_here m e.past a.0 a.1 e.projects) e.may (shallow_one e.past.tree a.0 a.1 (shallow v e.past e.stands a.0 a.1 levels));
    }

-- ---- the list of its roles

role_same : (r q : Role) → r.0 ≡ q.0 → r ≡ q
role_same r q e = ap (λ (z : ℕ). let role : Role = record { 0 = z } in role) e

roles_same : (rs qs : List Role) → numbers rs ≡ numbers qs → rs ≡ qs
roles_same [] [] e = refl
roles_same [] (q ∷ qs) e = absurd (cc)
roles_same (r ∷ rs) [] e = absurd (cc)
roles_same (r ∷ rs) (q ∷ qs) e =
    let here : r.0 ≡ q.0 = cc in
    let rest : numbers rs ≡ numbers qs = cc in
    ap (λ (z : Role). z ∷ rs) (role_same r q here) ∙ ap (λ (z : List Role). q ∷ z) (roles_same rs qs rest)

-- there is one
pub one_list : (m : MatcherView) (v : View) (kind : Kind) → IsNode kind → MayOpenEntered m v kind → (xs ys : List Role) → GivesHere m xs → GivesHere m ys → xs ≡ ys
one_list m v kind k e xs ys f g =
    let b = is_open e.past.tree (token_for kind) e.may in
    let q = past_grown (token_for kind) (ahead_in e.past.tree e.past.acts e.past) in
    let n = Under b.0 (length e.past.tree.nodes) kind in
    let last = new_innermost e.past.tree kind k b.0 b.1 n (added_then e.past kind k b.0 b.1) in
    roles_same xs ys (f q (is_text kind) n e.entered last ∙ sym (g q (is_text kind) n e.entered last))

-- ---- opened by the set of its roles

none_less : (xs : List ℕ) → less xs [] ≡ xs
none_less [] = refl
none_less (x ∷ xs) = ap (λ (z : List ℕ). x ∷ z) (none_less xs)

-- a node that is given these roles has them, where none is taken in advance
plain_roles : (m : MatcherView) (roles kept : FinSet nat_cmp) (count : ℕ) → (g : GivesPlainly m roles kept count) → roles ≡ new_roles g.gives.given []
plain_roles m roles kept count g = g.gives.is ∙ ap (λ (z : List ℕ). from_list {R = nat_cmp} z) (sym (none_less (numbers g.gives.given)))

plain_left : (m : MatcherView) (roles kept : FinSet nat_cmp) (count : ℕ) → (g : GivesPlainly m roles kept count) → (past : Past) (t : TreeToken) → GivenTo past t g.gives.given [] → LeftTo past t roles
plain_left m roles kept count g past t to = subst (λ (s : FinSet nat_cmp). LeftTo past t s) (sym (plain_roles m roles kept count g)) (left_given past t g.gives.given [] to)

pub entered_plainly : (m : MatcherView) (v w : View) (q : ℕ) (kind : Kind) (place : Option Place) (roles kept : FinSet nat_cmp) (count : ℕ) → GivesPlainly m roles kept count → OpenedWith v w q (option_map (λ (p : Place). p.0) place) kind roles 0
    → StandsWith v w kind roles → OpensEntered m v w q kind place count
entered_plainly m v w q kind place roles kept count g opened stands = record {
  given = g.gives.given;
  ahead = [];
  many = g.gives.many;
  here = g.gives.here;
  taken = g.ahead;
  opened = opened_from v w q (option_map (λ (p : Place). p.0) place) kind roles 0 g.gives.given [] opened (plain_roles m roles kept count g) refl;
  stands = λ past h may to. stands past h may (plain_left m roles kept count g past (token_for kind) to);
}

-- what the matcher hears of at an open node is all that is signed there of a spread role
heard_signed : (past : Past) (s : OffTree) (b : Node) → s.kind ≡ Whole → In b (open_nodes past.tree) → signed past.acts s b ≡ true → signed (filter (is_ahead past.tree) past.acts) s b ≡ true
heard_signed past s b whole i h =
    let a : Action = Offed s (serial_of b) in
    let other : is_own s ≡ false = ap (λ (k : RoleTarget). is_own_kind k && is_empty s.rel) whole in
    let ahead : is_ahead past.tree a ≡ true = and_from _ _ (open_is past.tree.at b i) (ap not other) in
    (signed_is_off (filter (is_ahead past.tree) past.acts) s b).1 (In-kept (is_ahead past.tree) a past.acts ((signed_is_off past.acts s b).0 h) ahead)

-- what it tells to be new at the node is kept there
kept_to : (m : MatcherView) (v : View) (kind : Kind) → IsNode kind → (roles kept : FinSet nat_cmp) (count : ℕ) → GivesPlainly m roles kept count → (e : MayOpenEntered m v kind) → ((n : Node) → Opens e.past.tree (token_for kind) n → roles_taken e.past.plan (grow (token_for kind) e.past.tree) e.past.acts n ≡ [])
    → KeptTo e.past (token_for kind) kept
kept_to m v kind k roles kept count g e untaken n o =
    let t = token_for kind in
    let past = e.past in
    let is = e.stands.is_past in
    let b = is_open past.tree t e.may in
    let q = past_grown t (ahead_in past.tree past.acts past) in
    let new = opens past is t n o in
    let last = new_innermost past.tree kind k b.0 b.1 n (sym (behind t past.tree) ∙ o) in
    let above_is = (new_node past.tree t n new).2 in
    let unsigned : (s : OffTree) (a : Node) → In s (offs_in past.plan.body) → s.kind ≡ Whole → In a (open_nodes past.tree) → signed past.acts s a ≡ false =
    λ s a i whole j. false_from_ne_true (signed past.acts s a) (λ h.
    false≢true (sym (g.unsigned q (is_text kind) n a s e.entered last i (subst (λ (z : List Node). In a z) (sym above_is) (inr j))) ∙ heard_signed past s a whole j h))
    in
    g.newly q (is_text kind) n e.entered last ∙ ap (λ (z : List ℕ). from_list {R = nat_cmp} z) (sym (kept_newly past is t n new unsigned (untaken n new)))

pub may_open_kept : (m : MatcherView) (v : View) (kind : Kind) → IsNode kind → (roles kept : FinSet nat_cmp) (count : ℕ) → GivesPlainly m roles kept count → MayOpenEntered m v kind → MayOpenKept v (token_for kind) roles kept
may_open_kept m v kind k roles kept count g e =
    let to = entered_to m v kind k g.gives.given [] e g.gives.here g.ahead in
    inr (
      e.past,
      e.stands,
      e.may,
      plain_left m roles kept count g e.past (token_for kind) to,
      kept_to m v kind k roles kept count g e (λ n o. sym (to n (opened_node e.past e.stands.is_past kind k e.may n o)).1),
    )
