-- What feeding a token makes of a projector.
use Rattle.std.proofs.Common.{◌≡◌, ◌≤◌, ℕ, Bool, true, false, not, ◌&&◌, List, [], length, take, refl, sym, ◌∙◌, ap, subst, inl, inr, Some, None, Option, ◌==◌}
use Rattle.std.specs.Prelude.{option_map, is_some, IsSome, Result, Ok, Err, IfOk}
use Rattle.gcx_base.specs.declared.memory.Memory.{Memory}
use Rattle.projector.specs.declared.projector.Fed.{Fed}
use Rattle.projector.specs.declared.projector.Tally.{Tally}
use Rattle.projector.specs.declared.projector.Fed.TheVariants as outcomes
use Rattle.std.specs.FinSet as set
use Rattle.std.proofs.lemmas.Bool.{false≢true}
use Rattle.gcx_base.specs.declared.kind.Kind.{Kind}
use Rattle.gcx_base.specs.declared.kind.Kind.TheVariants.{Document, Element, Text}
use Rattle.gcx_base.specs.declared.ids.Role.{Role}
use Rattle.gcx_base.specs.declared.ids.Serial.{Serial}
use Rattle.gcx_model.specs.Tree.{Node, Under, serial_of, Tree, TreeToken, Start, Chars, End, grow, grow_at}
use Rattle.gcx_model.specs.Run.{Action}
use Rattle.gcx_model.specs.Held.{roles_given}
use Rattle.gcx_model.specs.Growth.{may_come, level}
use Rattle.gcx_model.specs.Members.{In}
use Rattle.gcx_model.specs.Past.{Past, IsPast, past_fed, Opens, token_for, past_grown, IsNode}
use Rattle.node_store.specs.declared.store.Place.{Place}
use Rattle.matcher.specs.Matcher.{MatcherAt}
use Rattle.matcher.specs.View.{MatcherView}
use Rattle.buf_tree.specs.declared.ahead.Ahead.{Ahead}
use Rattle.gcx_base.specs.Kinds.{is_text}
use Rattle.buf_tree.specs.Shape.{Cell}
use Rattle.buf_tree.specs.View.{View, Innermost}
use Rattle.buf_tree.specs.Calls.{numbers, new_row, new_roles, stays, with_new}
use Rattle.buf_tree.specs.Stands.{StandsFor}
use Rattle.projector.specs.View.{ProjectorView}
use Rattle.projector.specs.Signing.{HearsOf}
use Rattle.projector.specs.Projector.{ahead_in, heard, Projects, KeepsPlace, MayBeFed, OpenedAlone, Changes, Places}
use Rattle.projector.specs.Calls.{Feeds, Tallies}
use Rattle.projector.specs.Opening.{HasHeard, LeavesBelow, OpensBelow}
use Rattle.projector.proofs.Pasts.{is_open, reopened_same}
use Rattle.projector.proofs.Waiting.{all_heard}
use Rattle.projector.proofs.Grown.{behind, added_then, opens, heard_here, projects_fed, projects_ended}
use Rattle.projector.proofs.Places.{Up, below_nodes, element_place, shallow, text_place}

-- the matcher hears of all that waits
pub hears : (m0 m : MatcherView) (v : View) (ws : List Ahead) → ws ≡ v.waiting → HearsOf m0 m ws → (past : Past) → StandsFor v past → MatcherAt m0 (heard past) false → (t : TreeToken) → may_come t past.tree ≡ true → HasHeard m past
hears m0 m v ws e told past h q t c =
    let a = is_open past.tree t c in
    let r = reopened_same past.tree a.0 a.1 in
    let s : MatcherAt m0 (ahead_in past.tree (take past.fed past.acts) past) false = subst (λ (T : Tree). MatcherAt m0 (ahead_in T (take past.fed past.acts) past) false) r q in
    let x = all_heard past h.is_past v.waiting h.waiting in
    let told' : HearsOf m0 m v.waiting = subst (λ (z : List Ahead). HearsOf m0 m z) e told in
    let s' = told' (ahead_in past.tree (take past.fed past.acts) past) x.0 s x.1 in
    record {
      matcher = subst (λ (T : Tree). MatcherAt m (ahead_in T past.acts past) false) (sym r) (subst (λ (A : List Action). MatcherAt m (record { plan = past.plan; tree = past.tree; acts = A; fed = 0 }) false) x.2 s');
    }

-- so behind a past behind which the token may come it may once the matcher has heard of them
pub may_heard : (p : ProjectorView) (m0 m : MatcherView) (v : View) (ws : List Ahead) (t : TreeToken) → m0 ≡ p.matcher → ws ≡ v.waiting → HearsOf m0 m ws → MayBeFed (Projects p) v t → MayBeFed (HasHeard m) v t
may_heard p m0 m v ws t is e told may = record {
  past = may.past;
  stands = may.stands;
  projects = hears p.matcher m v ws e (subst (λ (z : MatcherView). HearsOf z m ws) is told) may.past may.stands may.projects.matcher t may.may;
  may = may.may;
}

-- the innermost open node is the one that is known, so it is no deeper
pub shallow_one : (P : Tree) (a : Node) → P.at ≡ Some a → level a ≤ 1000 → (p : Node) → P.at ≡ Some p → level p ≤ 1000
shallow_one P a e l p f = let g : Some a ≡ Some p = sym e ∙ f in let same : a ≡ p = cc in subst (λ (z : Node). level z ≤ 1000) same l

module _ (past : Past) (is : IsPast past) (kind : Kind) (k : IsNode kind) (may : may_come (token_for kind) past.tree ≡ true) where
  abbrev a : (n : Node) × (past.tree.at ≡ Some n)
  a = is_open past.tree (token_for kind) may

  -- some node is open then
  pub open_then : (kind : Kind) → IsNode kind → (n : Node) → past.tree.at ≡ Some n → (b : Node) × ((grow (token_for kind) past.tree).at ≡ Some b)
  open_then Document k n e = absurd k
  open_then (Element v) k n e = (Under n (length past.tree.nodes) (Element v), ap (λ z. (grow_at z (Start v) past.tree).at) e)
  open_then (Text v) k n e = (n, ap (λ z. (grow_at z (Chars v) past.tree).at) e)

  pub projects_node : (p : ProjectorView) → p.passed ≡ [] → (m : MatcherView) → HasHeard m past → (m' : MatcherView) → ((n : Node) → past.tree.at ≡ Some n → level n ≤ 1000) → ((q : Past) → MatcherAt m q false → may_come (token_for kind) q.tree ≡ true → ((n : Node) → q.tree.at ≡ Some n → level n ≤ 1000) → MatcherAt m' (past_grown (token_for kind) q) (is_text kind))
      → (is_text kind ≡ true → (q : Past) → MatcherAt m' q true → MatcherAt p.matcher q false) → (is_text kind ≡ false → p.matcher ≡ m') → Projects p (past_fed (token_for kind) past)
  projects_node p none m h m' low enters leaves stays =
      let s = enters (ahead_in past.tree past.acts past) (heard_here m past a.0 a.1 h) may low in
      let b = open_then kind k a.0 a.1 in
      projects_fed p none past is (token_for kind) may b.0 b.1 (go (is_text kind) refl s)
    where
      go : (c : Bool) → is_text kind ≡ c → MatcherAt m' (past_grown (token_for kind) (ahead_in past.tree past.acts past)) (is_text kind) → MatcherAt p.matcher (past_grown (token_for kind) (ahead_in past.tree past.acts past)) false
      go true e s = leaves e (past_grown (token_for kind) (ahead_in past.tree past.acts past)) (subst (λ (z : Bool). MatcherAt m' (past_grown (token_for kind) (ahead_in past.tree past.acts past)) z) e s)
      go false e s = subst (λ (z : MatcherView). MatcherAt z (past_grown (token_for kind) (ahead_in past.tree past.acts past)) false) (sym (stays e)) (subst (λ (z : Bool). MatcherAt m' (past_grown (token_for kind) (ahead_in past.tree past.acts past)) z) e s)

  pub does_node : (given : List Role) (count : ℕ) → count ≡ length past.tree.nodes → (m : MatcherView) → HasHeard m past → ((n : Node) → past.tree.at ≡ Some n → level n ≤ 1000)
      → ((q : Past) (n : Node) → MatcherAt m q false → may_come (token_for kind) q.tree ≡ true → ((p : Node) → q.tree.at ≡ Some p → level p ≤ 1000) → Opens q.tree (token_for kind) n
      → numbers given ≡ roles_given q.plan (grow (token_for kind) q.tree) n)
      → (n : Node) × Opens past.tree (token_for kind) n × (serial_of n ≡ count) × (numbers given ≡ roles_given past.plan (grow (token_for kind) past.tree) n)
  does_node given count e m h low told =
      let n = Under a.0 (length past.tree.nodes) kind in
      let o = opens past is (token_for kind) n (behind (token_for kind) past.tree ∙ added_then past kind k a.0 a.1) in
      (n, o, sym e, told (ahead_in past.tree past.acts past) n (heard_here m past a.0 a.1 h) may low o)

pub node_place : (kept place now : Option Place) (v u : View) (q : ℕ) (past : Past) → StandsFor v past → (kind : Kind) (given : List Role) (stood : Past → Type 0) → OpenedAlone stood v u q (option_map (λ (p : Place). p.0) place) kind given
    → KeepsPlace kept v.rows → (is_text kind ≡ true → now ≡ kept) → (is_text kind ≡ false → now ≡ place) → KeepsPlace now u.rows
node_place kept place now v u q past h kind given stood o k text element = go (is_text kind) refl
  where
    rows : u.rows ≡ with_new (option_map (λ (p : Place). p.0) place) (new_row v q kind given o.ahead) v.rows
    rows = ap (λ (z : View). z.rows) o.cleared ∙ o.opened.rows

    held : is_text kind ≡ false → is_some (option_map (λ (p : Place). p.0) place) ≡ true
    held f = o.opened.held ∙ ap (λ b. not (b && (set.len (new_roles given o.ahead) == 0))) f

    at_place : (z : Option Place) → is_some (option_map (λ (p : Place). p.0) z) ≡ true → is_text kind ≡ false → KeepsPlace z (with_new (option_map (λ (p : Place). p.0) z) (new_row v q kind given o.ahead) v.rows)
    at_place None s f = absurd (false≢true s)
    at_place (Some p) s f = element_place v q p.0 kind given o.ahead f (below_nodes v past h)

    go : (c : Bool) → is_text kind ≡ c → KeepsPlace now u.rows
    go true e = subst (λ (z : Option Place). KeepsPlace z u.rows) (sym (text e)) (subst (λ (z : List Cell). KeepsPlace kept z) (sym rows) (text_place kept v q (option_map (λ (p : Place). p.0) place) kind given o.ahead e k))
    go false e = subst (λ (z : Option Place). KeepsPlace z u.rows) (sym (element e)) (subst (λ (z : List Cell). KeepsPlace place z) (sym rows) (at_place place (held e) e))

-- a node that was opened, and went to
module _ (old now : ProjectorView) (between : MatcherView) (v w : View) (parent : ℕ) (below : Innermost v.rows parent) (kind : Kind) (k : IsNode kind) (place : Option Place) (given : List Role)
    (o : OpensBelow old.matcher between v w parent kind (place, given)) (here : Past) (there : StandsFor v here) (depth : (c : Cell) → In c v.rows → c.row.is_open ≡ true → c.row.level ≤ 1000) (kept : Places old v) (none : now.passed ≡ [])
    (text : is_text kind ≡ true → (q : Past) → MatcherAt between q true → MatcherAt now.matcher q false) (element : is_text kind ≡ false → now.matcher ≡ between)
    (text_place : is_text kind ≡ true → now.at ≡ old.at) (element_place : is_text kind ≡ false → now.at ≡ place) where
  low_here : (past : Past) → StandsFor v past → may_come (token_for kind) past.tree ≡ true → (n : Node) → past.tree.at ≡ Some n → level n ≤ 1000
  low_here past h m = let a = is_open past.tree (token_for kind) m in shallow_one past.tree a.0 a.1 (shallow v past h a.0 a.1 depth)

  pub node_feeds : (s : Serial) → s.0 ≡ v.nodes → Feeds (HasHeard old.matcher) now v w (token_for kind) (outcomes.Opened s given)
  node_feeds s e = record {
    stands = λ past h heard m. (projects_node past h.is_past kind k m now none old.matcher heard between (low_here past h m) o.matcher text element, o.stands past h heard m);
    place = node_place old.at place now.at v w parent here there kind given (HasHeard old.matcher) o.opened kept text_place element_place;
    fed = λ past h heard m. does_node past h.is_past kind k m given s.0 (e ∙ h.nodes) old.matcher heard (low_here past h m) o.given;
    changes = record {
      parent = parent;
      below = below;
      kind = kind;
      is_node = k;
      token = refl;
      at = option_map (λ (p : Place). p.0) place;
      opened = o.opened;
      serial = e;
    };
  }

pub projects_end : (p : ProjectorView) → p.passed ≡ [] → (m : MatcherView) (v : View) (past : Past) (h : StandsFor v past) → may_come End past.tree ≡ true → (o : Option Place) → Up v past h (option_map (λ (p : Place). p.0) o)
    → (IsSome o → LeavesBelow m p.matcher) → (o ≡ None → p.matcher ≡ m) → HasHeard m past → Projects p (past_fed End past)
projects_end p none m v past h c None (inl t) up stays heard = projects_ended p none past t.0 (subst (λ (z : MatcherView). HasHeard z past) (sym (stays refl)) heard)
projects_end p none m v past h c (Some pl) (inl t) up stays heard = let e = t.1 in absurd (cc)
projects_end p none m v past h c None (inr (n, s, k, e, d, i, f, g)) up stays heard = absurd (cc)
projects_end p none m v past h c (Some pl) (inr (n, s, k, e, d, i, f, g)) up stays heard =
    projects_fed p none past h.is_past End c n (ap (λ z. (grow_at z End past.tree).at) e)
    (up refl (ahead_in past.tree past.acts past) n s k (heard_here m past (Under n s k) e heard) e)

module _ (stood now : Past → Type 0) (v w : View) (t : TreeToken) (are : (past : Past) → StandsFor v past → now past → may_come t past.tree ≡ true → stood past) where
  changed_alike : (fed : Fed) → Changes stood v w t fed → Changes now v w t fed
  changed_alike (outcomes.Opened s given) c = record {
    parent = c.parent;
    below = c.below;
    kind = c.kind;
    is_node = c.is_node;
    token = c.token;
    at = c.at;
    opened = record {
      ahead = c.opened.ahead;
      between = c.opened.between;
      opened = c.opened.opened;
      cleared = c.opened.cleared;
      taken = λ past n h q may o. c.opened.taken past n h (are past h q (subst (λ (z : TreeToken). may_come z past.tree ≡ true) c.token may)) may o;
    };
    serial = c.serial;
  }
  changed_alike (outcomes.Closed s) c = c

  -- what holds of pasts holds of those that are among them
  fed_alike : (p : ProjectorView) (fed : Fed) → Feeds stood p v w t fed → Feeds now p v w t fed
  fed_alike p fed f = record {
    stands = λ past h q may. f.stands past h (are past h q may) may;
    place = f.place;
    fed = λ past h q may. f.fed past h (are past h q may) may;
    changes = changed_alike fed f.changes;
  }

-- where the matcher hears of all that waits, what holds of the pasts of which it has heard holds of those for which the projector stood
pub feeds_heard : (p q : ProjectorView) (m0 m : MatcherView) (v w : View) (ws : List Ahead) (t : TreeToken) (r : Result Fed Memory) → m0 ≡ p.matcher → ws ≡ v.waiting → HearsOf m0 m ws
    → IfOk r (λ fed. Feeds (HasHeard m) q v w t fed) → IfOk r (λ fed. Feeds (Projects p) q v w t fed)
feeds_heard p q m0 m v w ws t (Ok fed) is e told f =
    let told' : HearsOf p.matcher m ws = subst (λ (z : MatcherView). HearsOf z m ws) is told in
    fed_alike (HasHeard m) (Projects p) v w t (λ past h s may. hears p.matcher m v ws e told' past h s.matcher t may) q fed f
feeds_heard p q m0 m v w ws t (Err x) is e told f = f

-- the same with the tally
pub tallies_heard : (p q : ProjectorView) (m0 m : MatcherView) (v w : View) (ws : List Ahead) (t : TreeToken) (r : Result Tally Memory) → m0 ≡ p.matcher → ws ≡ v.waiting → HearsOf m0 m ws
    → IfOk r (λ y. Tallies (HasHeard m) q v w t y) → IfOk r (λ y. Tallies (Projects p) q v w t y)
tallies_heard p q m0 m v w ws t (Ok y) is e told f = record { fed = f.fed; feeds = feeds_heard p q m0 m v w ws t (Ok f.fed) is e told f.feeds; is = f.is }
tallies_heard p q m0 m v w ws t (Err x) is e told f = f
