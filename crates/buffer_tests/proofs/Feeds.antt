-- What is fed in tests of buffers.
use Rattle.std.proofs.Common.{◌≡◌, ◌==◌, ℕ, ◌+◌, ◌≤◌, Bool, true, false, List, [], ◌∷◌, ◌++◌, length, map, refl, sym, ◌∙◌, ap, subst, inl, inr, arith, append_assoc, Some, None, Option}
use Rattle.std.specs.Prelude.{◌||◌, not}
use Rattle.std.specs.FinSet as set
use Rattle.std.proofs.lemmas.List.{append-nil, take-append-le}
use Rattle.std.proofs.lemmas.Bool.{and_parts, or_cases, not-true, false≢true, eqb-true}
use Rattle.gcx_base.specs.declared.limits.Limits.{Limits}
use Rattle.gcx_base.specs.Limits.{full_limits}
use Rattle.gcx_model.specs.declared.fault.DocFault.{DocFault}
use Rattle.gcx_model.specs.declared.fault.DocFault.TheVariants.{Utf8, Syntax, Truncated, Depth, NameLong, TextLong, TooLong, Memory}
use Rattle.gcx_model.specs.Tree.{Node, Root, Under, serial_of, within, is_open_at, Tree, TreeToken, opening, grow, grow_all}
use Rattle.gcx_model.specs.Members.{In}
use Rattle.gcx_model.specs.Nodes.{Grown}
use Rattle.gcx_model.specs.Core.{PlanTree, OffTree}
use Rattle.gcx_model.specs.Held.{is_held, held}
use Rattle.gcx_model.specs.Run.{Action, Offed}
use Rattle.gcx_model.specs.Placed.{offs_in}
use Rattle.gcx_model.specs.ItemView.{off_tree}
use Rattle.gcx_model.specs.declared.item.Off.{Off}
use Rattle.gcx_model.specs.Growth.{may_come, may_all, level}
use Rattle.gcx_model.specs.Past.{Past, opening_past, past_fed, past_acted, reopened}
use Rattle.gcx_model.specs.Seen.{SeenIs, seen_tree}
use Rattle.tree_laws.proofs.Lists.{In-filter}
use Rattle.tree_laws.proofs.Matches.{Numbered-same}
use Rattle.past_laws.proofs.Bases.{is_grown}
use Rattle.tree_laws.proofs.Growing.{grow_all-append}
use Rattle.doc_laws.proofs.Growing.{seen_comes}
use Rattle.doc_laws.proofs.TreeBounds.{seen_within}
use Rattle.doc_reader.specs.Standing.{ReaderView, GivesBy, Stands, waiting, said_of, Token as Given}
use Rattle.doc_reader.proofs.Givings.{said-append}
use Rattle.buf_tree.specs.Shape.{Cell, num}
use Rattle.buf_tree.specs.View.{View, InUse, Innermost}
use Rattle.buf_tree.specs.Ways.{is_waiting}
use Rattle.buf_tree.specs.Stands.{Seen, seen, told, StandsFor, Due}
use Rattle.buf_tree.proofs.SpreadTells.{own_plain}
use Rattle.buf_tree.proofs.Standing.{pair_left}
use Rattle.projector.specs.declared.projector.Projector.{Projector}
use Rattle.projector.specs.Projector.{Projects, KeepsPlace, Places, MayBeFed, heard, ahead_in}
use Rattle.matcher.specs.Matcher.{MatcherAt as MatcherStands}
use Rattle.node_store.specs.declared.store.Place.{Place}
use Rattle.buf_tree.proofs.Shaping.{rising_same}
use Rattle.buf_tree.proofs.Feeding.{top_is}
use Rattle.projector.proofs.Places.{rising, open_row, innermost_at}
use Rattle.buffer_tests.specs.Buffers.{IsFed, OwnPlain}

-- the token behind these ones may come there
may_here : (ts : List TreeToken) (t : TreeToken) (us : List TreeToken) (P : Tree) → may_all (ts ++ t ∷ us) P ≡ true → may_come t (grow_all ts P) ≡ true
may_here [] t us P h = (and_parts (may_come t P) (may_all us (grow t P)) h).0
may_here (x ∷ ts) t us P h = may_here ts t us (grow x P) (and_parts (may_come x P) (may_all (ts ++ t ∷ us) (grow x P)) h).1

-- tokens that were given and those that wait are the first of those seen
seen_from : (o : Option DocFault) (lim : Limits) (b : List ℕ) (over : Bool) (ts : List Given) → GivesBy o lim b over ts → (rest : List Given) × SeenIs lim b over (map said_of (ts ++ rest))
seen_from None lim b over ts g = ([], subst (λ (l : List Given). SeenIs lim b over (map said_of l)) (sym (append-nil ts)) g.seen)
seen_from (Some Memory) lim b over ts g = (g.rest, g.gives.seen)
seen_from (Some (Utf8 n)) lim b over ts g = ([], subst (λ (l : List Given). SeenIs lim b over (map said_of l)) (sym (append-nil ts)) g.seen)
seen_from (Some (Syntax n)) lim b over ts g = ([], subst (λ (l : List Given). SeenIs lim b over (map said_of l)) (sym (append-nil ts)) g.seen)
seen_from (Some (Truncated n)) lim b over ts g = ([], subst (λ (l : List Given). SeenIs lim b over (map said_of l)) (sym (append-nil ts)) g.seen)
seen_from (Some (Depth n)) lim b over ts g = ([], subst (λ (l : List Given). SeenIs lim b over (map said_of l)) (sym (append-nil ts)) g.seen)
seen_from (Some (NameLong n)) lim b over ts g = ([], subst (λ (l : List Given). SeenIs lim b over (map said_of l)) (sym (append-nil ts)) g.seen)
seen_from (Some (TextLong n)) lim b over ts g = ([], subst (λ (l : List Given). SeenIs lim b over (map said_of l)) (sym (append-nil ts)) g.seen)
seen_from (Some (TooLong n)) lim b over ts g = ([], subst (λ (l : List Given). SeenIs lim b over (map said_of l)) (sym (append-nil ts)) g.seen)

module _ (r : ReaderView) (lim : Limits) (b : List ℕ) (over : Bool) (given : List Given) (s : Stands r lim b over given) where
  all : (rest : List Given) × SeenIs lim b over (map said_of ((given ++ waiting r) ++ rest))
  all = seen_from r.refused lim b over (given ++ waiting r) s.gives

  parts : map said_of ((given ++ waiting r) ++ all.0) ≡ map said_of given ++ map said_of (waiting r ++ all.0)
  parts = ap (map said_of) (append_assoc given (waiting r) all.0) ∙ said-append given (waiting r ++ all.0)

  -- the first token that waits may come
  pub next_comes : (t : Given) (rest : List Given) → waiting r ≡ t ∷ rest → may_come (said_of t) (seen_tree (map said_of given)) ≡ true
  next_comes t rest e =
      may_here (map said_of given) (said_of t) (map said_of (rest ++ all.0)) opening
      (subst (λ (l : List TreeToken). may_all l opening ≡ true) (parts ∙ ap (λ (w : List Given). map said_of given ++ map said_of (w ++ all.0)) e) (seen_comes lim b over _ all.1))

  -- no open node lies too deep
  pub not_deep : (p : Node) → (seen_tree (map said_of given)).at ≡ Some p → level p ≤ lim.depth
  not_deep = (seen_within lim b over _ (map said_of given) (map said_of (waiting r ++ all.0)) all.1 parts).open_elements

-- the open nodes lie no deeper than the innermost one
within_level : (P : Tree) → Grown P → (n : Node) → In n P.nodes → (a : Node) → In a P.nodes → within (serial_of n) a ≡ true → level n ≤ level a
within_level P w n i Root j h = (let e = Numbered-same 0 P.nodes w.numbered n Root i j (sym (eqb-true 0 (serial_of n) h)) in let f = ap level e in omega arith)
within_level P w n i (Under p s k) j h = elim (or_cases (s == serial_of n) (within (serial_of n) p) h) [
  | inl e ↦ (let same = Numbered-same 0 P.nodes w.numbered n (Under p s k) i j (sym (eqb-true s (serial_of n) e)) in let f = ap level same in omega arith)
  | inr e ↦ (let l = within_level P w n i p (w.upward p s k j) e in omega arith)
]

pub open_low : (v : View) (past : Past) (m : ℕ) → StandsFor v past → ((p : Node) → past.tree.at ≡ Some p → level p ≤ m) → (c : Cell) → In c v.rows → c.row.is_open ≡ true → c.row.level ≤ m
open_low v past m h low c i o =
    let r = pair_left seen (told past) v.rows (held past.plan past.tree past.acts) h.rows c i in
    let w = is_grown past h.is_past in
    let here = (In-filter (is_held past.plan past.tree past.acts) r.0 past.tree.nodes r.1).0 in
    let f : c.row.level ≡ level r.0 = ap (λ (s : Seen). s.level) r.2 in
    let l : level r.0 ≤ m = go w r.0 here past.tree.at refl (sym (ap (λ (s : Seen). s.is_open) r.2) ∙ o) in
    omega arith
  where
    go : Grown past.tree → (n : Node) → In n past.tree.nodes → (at : Option Node) → past.tree.at ≡ at → is_open_at at (serial_of n) ≡ true → level n ≤ m
    go w n j None e x = absurd (false≢true x)
    go w n j (Some a) e x =
        let one = within_level past.tree w n j a (w.at_in a e) x in
        let two = low a e in
        omega arith

-- ---- behind a token

pub given_more : (given : List Given) (t : Given) → seen_tree (map said_of (given ++ t ∷ [])) ≡ grow (said_of t) (seen_tree (map said_of given))
given_more given t = ap seen_tree (said-append given (t ∷ [])) ∙ grow_all-append (map said_of given) (said_of t ∷ []) opening

-- ---- behind a statement

-- what the matcher has heard of stays the same
heard_same : (a : Action) (past : Past) → past.fed ≤ length past.acts → heard (past_acted a past) ≡ heard past
heard_same a past h = ap (λ (A : List Action). ahead_in (reopened past.tree) A past) (take-append-le past.fed past.acts (a ∷ []) h)

-- a node that is open behind a statement was open before
still_open : (v w : View) (past : Past) (a : Action) → StandsFor v past → StandsFor w (past_acted a past) → (d : Cell) → In d v.rows → (c : Cell) → In c w.rows → num d ≡ num c → c.row.is_open ≡ true → d.row.is_open ≡ true
still_open v w past a h g d i c j e o =
    let x = pair_left seen (told past) v.rows (held past.plan past.tree past.acts) h.rows d i in
    let y = pair_left seen (told (past_acted a past)) w.rows (held past.plan past.tree (past.acts ++ a ∷ [])) g.rows c j in
    let same : serial_of x.0 ≡ serial_of y.0 = sym (ap (λ (s : Seen). s.serial) x.2) ∙ (e ∙ ap (λ (s : Seen). s.serial) y.2) in
    ap (λ (s : Seen). s.is_open) x.2 ∙ (ap (is_open_at past.tree.at) same ∙ (sym (ap (λ (s : Seen). s.is_open) y.2) ∙ o))

-- the innermost open node stays at its place where all rows do that stay
place_stays : (v w : View) (past : Past) (a : Action) → StandsFor v past → StandsFor w (past_acted a past)
    → ((c : Cell) → In c w.rows → (d : Cell) × In d v.rows × (d.place ≡ c.place) × (num d ≡ num c))
    → (at : Option Place) → KeepsPlace at v.rows → KeepsPlace at w.rows
place_stays v w past a h g same None k = λ c i o. let d = same c i in (let z = k d.0 d.1 (still_open v w past a h g d.0 d.1 c i d.3 o) in let e = d.3 in omega arith)
place_stays v w past a h g same (Some p) k =
    let t = top_is v past p.0 h k in
    let r = open_row w (past_acted a past) g t.0 t.1 in
    let d = same r.0 r.1 in
    let one : d.0 ≡ k.cell = rising_same v.rows (rising v past h) d.0 k.cell d.1 k.among (d.3 ∙ (r.2 ∙ t.2)) in
    let here : r.0.place ≡ p.0 = sym d.2 ∙ (ap (λ (x : Cell). x.place) one ∙ k.place) in
    subst (λ (z : ℕ). Innermost w.rows z) here (innermost_at w (past_acted a past) g t.0 t.1 r.0 r.1 r.2)

pub acted : (plan : PlanTree) (r : ReaderView) (p : Projector) (v w : View) (a : Action) → (f : IsFed plan r p v) → StandsFor w (past_acted a f.past)
    → ((c : Cell) → In c w.rows → (d : Cell) × In d v.rows × (d.place ≡ c.place) × (num d ≡ num c)) → IsFed plan r p w
acted plan r p v w a f g same = record {
  document = f.document;
  given = f.given;
  read = f.read;
  past = past_acted a f.past;
  plan_is = f.plan_is;
  tree_is = f.tree_is;
  stands = g;
  projects = record { matcher = subst (λ (q : Past). MatcherStands p.matcher q false) (sym (heard_same a f.past f.stands.is_past.within)) f.projects.matcher; none = f.projects.none };
  place = place_stays v w f.past a f.stands g same p.at f.place;
}

-- departures that are forgotten change nothing
pub forgotten : (plan : PlanTree) (r : ReaderView) (p : Projector) (v w : View) → w ≡ record v { gone = [] } → IsFed plan r p v → IsFed plan r p w
forgotten plan r p v w e f = subst (IsFed plan r p) (sym e) (record {
  document = f.document;
  given = f.given;
  read = f.read;
  past = f.past;
  plan_is = f.plan_is;
  tree_is = f.tree_is;
  stands = record { is_past = f.stands.is_past; spread = f.stands.spread; rows = f.stands.rows; kept = f.stands.kept; waiting = f.stands.waiting; nodes = f.stands.nodes };
  projects = f.projects;
  place = f.place;
})

-- ---- what is fed

module _ (plan : PlanTree) (r : ReaderView) (p : Projector) (v : View) (f : IsFed plan r p v) where
  comes : (t : Given) (rest : List Given) → waiting r ≡ t ∷ rest → may_come (said_of t) f.past.tree ≡ true
  comes t rest e = subst (λ (P : Tree). may_come (said_of t) P ≡ true) (sym f.tree_is) (next_comes r full_limits f.document true f.given f.read t rest e)

  pub may_feed : (t : Given) (rest : List Given) → waiting r ≡ t ∷ rest → MayBeFed (Projects p) v (said_of t)
  may_feed t rest e = record { past = f.past; stands = f.stands; projects = f.projects; may = comes t rest e }

  pub depth_low : (c : Cell) → In c v.rows → c.row.is_open ≡ true → c.row.level ≤ 1000
  depth_low = open_low v f.past 1000 f.stands (λ n e. not_deep r full_limits f.document true f.given f.read n (ap (λ (P : Tree). P.at) (sym f.tree_is) ∙ e))

  pub fed : (t : Given) (rest : List Given) → waiting r ≡ t ∷ rest → (r' : ReaderView) (p' : Projector) (v' w : View)
      → ((lim : Limits) (b : List ℕ) (over : Bool) (given : List Given) → Stands r lim b over given → Stands r' lim b over (given ++ t ∷ []))
      → ((past : Past) → StandsFor v past → Projects p past → may_come (said_of t) past.tree ≡ true → Projects p' (past_fed (said_of t) past) × StandsFor v' (past_fed (said_of t) past))
      → Places p' v' → w ≡ record v' { gone = [] } → IsFed plan r' p' w
  fed t rest e r' p' v' w reads grows place same =
      let q = grows f.past f.stands f.projects (comes t rest e) in
      forgotten plan r' p' v' w same
      (record {
        document = f.document;
        given = f.given ++ t ∷ [];
        read = reads full_limits f.document true f.given f.read;
        past = past_fed (said_of t) f.past;
        plan_is = f.plan_is;
        tree_is = ap (grow (said_of t)) f.tree_is ∙ sym (given_more f.given t);
        stands = q.1;
        projects = q.0;
        place = place;
      })

  -- a base's own role isn't spread
  pub plain : OwnPlain plan v
  plain off i = own_plain f.past f.stands.is_past off (subst (λ (z : PlanTree). In (off_tree off) (offs_in z.body)) (sym f.plan_is) i) v.spread f.stands.spread

  pub due : (off : Off) (q : ℕ) → (u : InUse v.rows q) → is_waiting u.cell.row off ≡ true → In (off_tree off) (offs_in plan.body) → Due v q off
  due off q u h i =
      let a = and_parts (set.contains u.cell.row.roles off.own.0 || set.contains u.cell.row.signed off.own.0) (not (set.contains u.cell.row.signed off.role.0)) h in
      record {
        cell = u.cell;
        among = u.among;
        place = u.place;
        base = or_cases (set.contains u.cell.row.roles off.own.0) (set.contains u.cell.row.signed off.own.0) a.0;
        unsigned = not-true (set.contains u.cell.row.signed off.role.0) a.1;
        past = f.past;
        stands = f.stands;
        stated = subst (λ (z : PlanTree). In (off_tree off) (offs_in z.body)) (sym f.plan_is) i;
      }

  pub carried : (o : OffTree) → In o (offs_in plan.body) → (n : ℕ) (w : View)
      → ((past : Past) → StandsFor v past → In o (offs_in past.plan.body) → StandsFor w (past_acted (Offed o n) past))
      → ((c : Cell) → In c w.rows → (d : Cell) × In d v.rows × (d.place ≡ c.place) × (num d ≡ num c)) → IsFed plan r p w
  carried o i n w stands same = acted plan r p v w (Offed o n) f (stands f.past f.stands (subst (λ (z : PlanTree). In o (offs_in z.body)) (sym f.plan_is) i)) same

-- ---- at first

pub begun : (plan : PlanTree) (r : ReaderView) (document : List ℕ) → Stands r full_limits document true [] → (p : Projector) → Projects p (opening_past plan) → (v : View) → Places p v → StandsFor v (opening_past plan) → IsFed plan r p v
begun plan r document s p q v place stands = record {
  document = document;
  given = [];
  read = s;
  past = opening_past plan;
  plan_is = refl;
  tree_is = refl;
  stands = stands;
  projects = q;
  place = place;
}
