-- What tokens make of a projector and a buffer where rows are made late.
use Rattle.std.proofs.Common.{◌≡◌, ℕ, ◌≤◌, ◌<◌, ◌⊎◌, true, false, List, [], ◌∷◌, ◌++◌, length, refl, sym, ◌∙◌, ap, subst, inl, inr, arith, Some, None, Option}
use Rattle.std.specs.Prelude.{IfSome, Result, Ok, Err, OnOk, OnErr, slice_range, ⊤}
use Rattle.std.proofs.lemmas.List.{append-nil, map-append}
use Rattle.gcx_base.specs.declared.ids.Role.{Role}
use Rattle.gcx_base.specs.Kinds.{is_text}
use Rattle.gcx_base.specs.declared.memory.Memory.{Memory}
use Rattle.gcx_base.specs.declared.kind.Kind.{Kind}
use Rattle.gcx_base.specs.declared.kind.Kind.TheVariants.{Element, Text}
use Rattle.gcx_model.specs.Tree.{Node, Root, Under, serial_of, TreeToken, Start, Chars, End, grow_at}
use Rattle.gcx_model.specs.Members.{In}
use Rattle.gcx_model.specs.Growth.{may_come, level}
use Rattle.gcx_model.specs.Past.{Past, IsPast, IsNode, past_fed, past_grown, token_for}
use Rattle.tree_laws.proofs.Lists.{In-append, In-left, In-right}
use Rattle.tree_laws.proofs.Matches.{added, grow_nodes}
use Rattle.node_store.specs.declared.store.Place.{Place}
use Rattle.matcher.specs.Calls.{GivesCount, GivesHere, LeavesElement, StandsBehind}
use Rattle.matcher.specs.Matcher.{MatcherAt}
use Rattle.matcher.specs.View.{MatcherView}
use Rattle.buf_tree.specs.declared.ahead.Ahead.{Ahead}
use Rattle.buf_tree.specs.Loose.{Passed, Loosely, StandsLoosely, GivesNone, cells_passed, last_open, one_passed, passed_cell, with_passed}
use Rattle.buf_tree.specs.Shape.{Cell, CellsRise, num}
use Rattle.buf_tree.specs.Stands.{StandsFor, past_told}
use Rattle.buf_tree.specs.View.{View, num_in, level_in}
use Rattle.buf_tree.proofs.Feeding.{added_end, top_is}
use Rattle.buf_tree.proofs.LeftViews.{stands_told}
use Rattle.buf_tree.proofs.OpenRows.{row_there}
use Rattle.buf_tree.proofs.OwnPlaces.{rows_rise}
use Rattle.buf_tree.proofs.PassedEnds.{ends_passed}
use Rattle.buf_tree.proofs.PassedOpening.{passes_element, passes_text}
use Rattle.buf_tree.proofs.PassedRows.{front_push, places_of, places_length, places_push, settles_none}
use Rattle.projector.specs.declared.passed.PassedName.{PassedName}
use Rattle.projector.specs.declared.projector.Fed.{Fed}
use Rattle.projector.specs.declared.projector.Tally.{Tally}
use Rattle.projector.specs.declared.projector.Tally.TheVariants as tallies
use Rattle.projector.specs.View.{ProjectorView}
use Rattle.projector.specs.Projector.{ahead_in, heard, KeepsPlace, MayBeFed, Projects, Places}
use Rattle.projector.specs.Calls.{Feeds, tally_of}
use Rattle.projector.specs.Opening.{HasHeard}
use Rattle.projector.specs.Signing.{HearsOf}
use Rattle.projector.specs.Late.{AreNamed, FeedsLate, FeedsSettled, IsNamePart, IsShallow, MakesRows, MakesSome, MayBeFedLate, PassedBy, PassesToken, SettlesAll, StandLoosely, cleared, passed_in, passed_of}
use Rattle.projector.specs.LateRows.{MayOpenLate, OpensBehind}
use Rattle.projector.proofs.Entered.{entered_gives, enters_by}
use Rattle.projector.proofs.Feeding.{hears, open_then, shallow_one, tallies_heard}
use Rattle.projector.proofs.Grown.{heard_here, matcher_fed}
use Rattle.projector.proofs.LateRows.{made_none, rising_behind}
use Rattle.projector.proofs.Pasts.{is_open}
use Rattle.projector.proofs.Places.{innermost_at, open_row, shallow}

-- where it is plain that no role is given, none is
no_roles : (m : MatcherView) → GivesCount m 0 → GivesHere m []
no_roles m g = subst (λ (given : List Role). GivesHere m given) (empty g.given g.many) g.here
  where
    empty : (rs : List Role) → length rs ≡ 0 → rs ≡ []
    empty [] h = refl
    empty (r ∷ rs) h = absurd (omega arith)

pub plain_none : (m : MatcherView) (plain : Option ℕ) → plain ≡ Some 0 → IfSome plain (GivesCount m) → GivesHere m []
plain_none m plain e h = no_roles m (subst (λ (o : Option ℕ). IfSome o (GivesCount m)) e h)

pub no_items : (xs : List PassedName) → length xs ≡ 0 → xs ≡ []
no_items [] e = refl
no_items (x ∷ xs) e = absurd (omega arith)

-- with the rows at some places the buffer stands for the past
some_rows : (xs : List Passed) (v : View) (past : Past) → StandsLoosely xs v past → StandsFor (with_passed (places_of xs) xs v) past
some_rows xs v past h = h (places_of xs) (places_length xs)

-- once nothing waits
pub loosely_told : (xs : List Passed) (v : View) (past : Past) → StandsLoosely xs v past → StandsLoosely xs (cleared v) (past_told past)
loosely_told xs v past h places e = stands_told (with_passed places xs v) (with_passed places xs (cleared v)) refl past (h places e)

-- where none is passed it stands for the past as it is
stands_alone : (bytes : List ℕ) (p : ProjectorView) (v : View) → p.passed ≡ [] → (past : Past) → StandLoosely bytes p v past → StandsFor v past
stands_alone bytes p v none past st =
    subst (λ (z : View). StandsFor z past) (settles_none v []) (subst (λ (xs : List PassedName). StandsLoosely (passed_in bytes xs) v past) none st.buffer [] refl)

-- ---- what is made first

-- where all rows were made nothing is loose
pub made_stands : (xs : List Passed) (v w : View) → MakesRows xs [] v w → (past : Past) → StandsLoosely xs v past → StandsFor w past
made_stands xs v w m past h = subst (λ (z : View). StandsFor z past) (settles_none w []) (m.rests past (subst (λ (ys : List Passed). StandsLoosely ys v past) (sym (append-nil xs)) h) [] refl)

pub settles_all : (bytes : List ℕ) (p q : ProjectorView) (v w : View) → q.matcher ≡ p.matcher → q.passed ≡ [] → MakesRows (passed_in bytes p.passed) [] v w → Places q w → SettlesAll bytes p q v w
settles_all bytes p q v w same none m k = record {
  rows = m.rows;
  stands = λ past st. (
    record { matcher = subst (λ (z : MatcherView). MatcherAt z (heard past) false) (sym same) st.matcher; none = none },
    made_stands (passed_in bytes p.passed) v w m past st.buffer,
  );
  place = k;
}

pub settles_made : (bytes : List ℕ) (p q : ProjectorView) (v w : View) (r : Result ⊤ Memory) → OnOk r (q.matcher ≡ p.matcher) → OnOk r (q.passed ≡ []) → OnOk r (MakesRows (passed_in bytes p.passed) [] v w) → OnOk r (Places q w)
    → OnOk r (SettlesAll bytes p q v w)
settles_made bytes p q v w (Ok u) same none m k = settles_all bytes p q v w same none m k
settles_made bytes p q v w (Err e) same none m k = same

-- where none is passed there is nothing to make
pub settles_same : (bytes : List ℕ) (p : ProjectorView) (v : View) → p.passed ≡ [] → Places p v → SettlesAll bytes p p v v
settles_same bytes p v none k =
    settles_all bytes p p v v refl none
    (subst (λ (xs : List PassedName). MakesRows (passed_in bytes xs) [] v v) (sym none) (record { rows = made_none v; rests = λ past h. h })) k

-- where the buffer stayed, none of them was made
pub makes_same : {T : Type 0} (bytes : List ℕ) (p : ProjectorView) (v w : View) (r : Result T Memory) → OnErr r (w ≡ v) → OnErr r (MakesSome (passed_in bytes p.passed) v w)
makes_same bytes p v w (Ok x) e = tt
makes_same bytes p v w (Err m) e =
    subst (λ (z : View). MakesSome (passed_in bytes p.passed) v z) (sym e)
    (record { made = []; left = passed_in bytes p.passed; split = refl; makes = record { rows = made_none v; rests = λ past h. h } })

-- ---- a token

module _ (bytes : List ℕ) (p : ProjectorView) (m : MatcherView) (v : View) (ws : List Ahead) (waits : ws ≡ v.waiting) (told : HearsOf p.matcher m ws) where
  -- the matcher hears of all that waits
  pub late_heard : (past : Past) → StandLoosely bytes p v past → (t : TreeToken) → may_come t past.tree ≡ true → HasHeard m past
  late_heard past st t may = hears p.matcher m (with_passed (places_of (passed_in bytes p.passed)) (passed_in bytes p.passed) v) ws waits told past (some_rows (passed_in bytes p.passed) v past st.buffer) st.matcher t may

  -- so the node that it went to may be opened
  pub may_open_late : (q : ProjectorView) (kind : Kind) → q.passed ≡ p.passed → StandsBehind m q.matcher kind → MayBeFedLate bytes p v (token_for kind) → MayOpenLate bytes q v kind
  may_open_late q kind same behind may = record {
    before = m;
    behind = behind;
    past = may.past;
    heard = late_heard may.past may.stand (token_for kind) may.may;
    buffer = subst (λ (xs : List PassedName). StandsLoosely (passed_in bytes xs) v may.past) (sym same) may.stand.buffer;
    names = subst (λ (xs : List PassedName). AreNamed bytes xs) (sym same) may.stand.names;
    may = may.may;
  }

  -- and where none is passed the end may be fed
  pub may_end_late : p.passed ≡ [] → MayBeFedLate bytes p v End → MayBeFed (HasHeard m) v End
  may_end_late none may = record {
    past = may.past;
    stands = stands_alone bytes p v none may.past may.stand;
    projects = late_heard may.past may.stand End may.may;
    may = may.may;
  }

  -- the rows were made, and the node came
  pub late_opened : (q : ProjectorView) (w : View) (kind : Kind) (count : ℕ) → OpensBehind bytes m p.passed q v w kind count → FeedsSettled bytes p q v w (token_for kind) (tallies.Opened count)
  late_opened q w kind count o =
      let settled : ProjectorView = record { matcher = p.matcher; at = o.at; passed = [] } in
      record {
        settled = settled;
        between = o.between;
        settles = settles_all bytes p settled v o.between refl refl o.makes o.place;
        feeds = tallies_heard settled q p.matcher m o.between w ws (token_for kind) (Ok (tallies.Opened count)) refl (waits ∙ sym o.makes.rows.waiting) told o.feeds;
      }

  -- no element was passed, and the innermost open node was closed
  pub late_closed : (q : ProjectorView) (w : View) (fed : Fed) (tally : Tally) → p.passed ≡ [] → Places p v → Feeds (HasHeard m) q v w End fed → tally ≡ tally_of fed → FeedsSettled bytes p q v w End tally
  late_closed q w fed tally none k f e = record {
    settled = p;
    between = v;
    settles = settles_same bytes p v none k;
    feeds = tallies_heard p q p.matcher m v w ws End (Ok tally) refl waits told (record { fed = fed; feeds = f; is = e });
  }

  module _ (deep : Loosely IsShallow (passed_in bytes p.passed) v) (m' : MatcherView) (kind : Kind) (k : IsNode kind) (behind : StandsBehind m m' kind) where
    abbrev t : TreeToken
    t = token_for kind

    late_low : (past : Past) → StandLoosely bytes p v past → may_come t past.tree ≡ true → (n : Node) → past.tree.at ≡ Some n → level n ≤ 1000
    late_low past st may =
        let xs = passed_in bytes p.passed in
        let a = is_open past.tree t may in
        shallow_one past.tree a.0 a.1 (shallow (with_passed (places_of xs) xs v) past (some_rows xs v past st.buffer) a.0 a.1 (deep (places_of xs) (places_length xs)))

    here : (past : Past) → StandLoosely bytes p v past → may_come t past.tree ≡ true → MatcherAt m (ahead_in past.tree past.acts past) false
    here past st may = let a = is_open past.tree t may in heard_here m past a.0 a.1 (late_heard past st t may)

    -- it went to the node
    late_entered : (past : Past) → StandLoosely bytes p v past → may_come t past.tree ≡ true → MatcherAt m' (past_grown t (ahead_in past.tree past.acts past)) (is_text kind)
    late_entered past st may = enters_by m m' kind behind (ahead_in past.tree past.acts past) (here past st may) may (late_low past st may)

    -- which is given no role
    pub late_none : GivesHere m' [] → (past : Past) → StandLoosely bytes p v past → may_come t past.tree ≡ true → GivesNone past t
    late_none g past st may n o = sym (entered_gives m m' kind k [] (enters_by m m' kind behind) g (ahead_in past.tree past.acts past) n (here past st may) may (late_low past st may) o)

    -- behind it the matcher stands for what was heard, where it left a text
    pub late_matcher : (q : MatcherView) → ((past : Past) → MatcherAt m' past (is_text kind) → MatcherAt q past false) → (past : Past) → StandLoosely bytes p v past → may_come t past.tree ≡ true → MatcherAt q (heard (past_fed t past)) false
    late_matcher q goes past st may =
        let xs = passed_in bytes p.passed in
        let is : IsPast past = (some_rows xs v past st.buffer).is_past in
        let a = is_open past.tree t may in
        let b = open_then past is kind k may kind k a.0 a.1 in
        matcher_fed q past is t may b.0 b.1 (goes (past_grown t (ahead_in past.tree past.acts past)) (late_entered past st may))

-- ---- a passed element

in_push : (xs : List PassedName) (y x : PassedName) → In x (xs ++ y ∷ []) → (In x xs) ⊎ (y ≡ x)
in_push xs y x i = elim (In-append x xs (y ∷ []) i) [
  | inl j ↦ inl j
  | inr j ↦ elim j [ inl e ↦ inr e | inr z ↦ absurd z ]
]

module _ (bytes : List ℕ) (p : ProjectorView) (m m' : MatcherView) (v : View) (ws : List Ahead) (waits : ws ≡ v.waiting) (told : HearsOf p.matcher m ws) (deep : Loosely IsShallow (passed_in bytes p.passed) v) (none : GivesHere m' []) where
  pub passes_start : (from to : ℕ) → IsNamePart bytes from to → StandsBehind m m' (Element (slice_range bytes from to)) → (q : ProjectorView) (w : View) → q.matcher ≡ m' → q.at ≡ p.at
      → q.passed ≡ p.passed ++ record { from = from; to = to; serial = v.nodes } ∷ [] → w ≡ one_passed (cleared v) → PassesToken bytes p q v w (Start (slice_range bytes from to))
  passes_start from to part behind q w same place pushed is = record {
    stands = λ past st may. record {
      matcher = subst (λ (z : MatcherView). MatcherAt z (heard (past_fed (Start name) past)) false) (sym same) (late_matcher bytes p m v ws waits told deep m' (Element name) tt behind m' (λ past s. s) past st may);
      buffer = subst (λ (z : View). StandsLoosely (passed_in bytes q.passed) z (past_fed (Start name) past)) (sym is)
          (subst (λ (xs : List Passed). StandsLoosely xs (one_passed (cleared v)) (past_fed (Start name) past)) (sym (ap (passed_in bytes) pushed ∙ map-append (passed_of bytes) p.passed (x ∷ [])))
          (passes_element (cleared v) (passed_in bytes p.passed) (past_told past) name (loosely_told (passed_in bytes p.passed) v past st.buffer) refl may (gives past st may)));
      names = λ y i. elim (in_push p.passed x y (subst (λ (xs : List PassedName). In y xs) pushed i)) [
        | inl j ↦ st.names y j
        | inr e ↦ subst (λ (z : PassedName). IsNamePart bytes z.from z.to) e part
      ];
    };
    none = gives;
    place = place;
    changes = (is, x, pushed, refl);
  }
    where
      name : List ℕ
      name = slice_range bytes from to

      x : PassedName
      x = record { from = from; to = to; serial = v.nodes }

      gives : (past : Past) → StandLoosely bytes p v past → may_come (Start (slice_range bytes from to)) past.tree ≡ true → GivesNone past (Start (slice_range bytes from to))
      gives = late_none bytes p m v ws waits told deep m' (Element (slice_range bytes from to)) tt behind none

  pub passes_chars : (text : List ℕ) → StandsBehind m m' (Text text) → (q : ProjectorView) (w : View) → ((past : Past) → MatcherAt m' past true → MatcherAt q.matcher past false) → q.at ≡ p.at → q.passed ≡ p.passed
      → w ≡ one_passed (cleared v) → PassesToken bytes p q v w (Chars text)
  passes_chars text behind q w leaves place same is = record {
    stands = λ past st may. record {
      matcher = late_matcher bytes p m v ws waits told deep m' (Text text) tt behind q.matcher leaves past st may;
      buffer = subst (λ (z : View). StandsLoosely (passed_in bytes q.passed) z (past_fed (Chars text) past)) (sym is)
          (subst (λ (xs : List PassedName). StandsLoosely (passed_in bytes xs) (one_passed (cleared v)) (past_fed (Chars text) past)) (sym same)
          (passes_text (cleared v) (passed_in bytes p.passed) (past_told past) text (loosely_told (passed_in bytes p.passed) v past st.buffer) refl may (gives past st may)));
      names = λ y i. st.names y (subst (λ (xs : List PassedName). In y xs) same i);
    };
    none = gives;
    place = place;
    changes = (is, same);
  }
    where
      gives : (past : Past) → StandLoosely bytes p v past → may_come (Chars text) past.tree ≡ true → GivesNone past (Chars text)
      gives = late_none bytes p m v ws waits told deep m' (Text text) tt behind none

-- ---- its end

-- the innermost open node is a passed element, so it isn't the document node
not_root : (ys : List Passed) (x : Passed) (v : View) (past : Past) → StandsLoosely (ys ++ x ∷ []) v past → (a : Node) → past.tree.at ≡ Some a → 0 < serial_of a
not_root ys x v past h a e =
    let there = (row_there v (ys ++ x ∷ []) past a h e).1 in
    let rise = (rows_rise v (ys ++ x ∷ []) past h (places_of ys ++ 0 ∷ []) (places_push ys 0 x)).0 in
    let low : num there.cell < x.serial = rising_behind base (c ∷ []) (subst (λ (rows : List Cell). CellsRise rows) push rise) there.cell (In-left there.cell v.rows (cells_passed (places_of ys) ys v.rows) there.among) c (inl refl) in
    let s : StandsFor all past = h (places_of ys ++ 0 ∷ []) (places_push ys 0 x) in
    let q = open_row all past s a e in
    let i = innermost_at all past s a e q.0 q.1 q.2 in
    let up : x.serial ≤ num i.cell = i.last c among refl in
    let t = top_is all past q.0.place s i in
    let f : Some a ≡ Some t.0 = sym e ∙ t.1 in
    let same : a ≡ t.0 = cc in
    let g = ap serial_of same in
    let n = t.2 in
    omega arith
  where
    all : View
    all = with_passed (places_of ys ++ 0 ∷ []) (ys ++ x ∷ []) v

    base : List Cell
    base = v.rows ++ cells_passed (places_of ys) ys v.rows

    c : Cell
    c = passed_cell (num_in (last_open base)) (level_in (last_open base)) 0 x

    push : (with_passed (places_of ys ++ 0 ∷ []) (ys ++ x ∷ []) v).rows ≡ base ++ c ∷ []
    push = front_push v.rows v.rows ys 0 x

    among : In c (with_passed (places_of ys ++ 0 ∷ []) (ys ++ x ∷ []) v).rows
    among = subst (λ (rows : List Cell). In c rows) (sym push) (In-right c base (c ∷ []) (inl refl))

-- an end opens no node
end_gives : (past : Past) → GivesNone past End
end_gives past n o = elim (In-append n past.tree.nodes (added End past.tree) (subst (λ (ns : List Node). In n ns) (grow_nodes End past.tree) o.0)) [
  | inl j ↦ absurd (o.1 j)
  | inr j ↦ absurd (subst (λ (ns : List Node). In n ns) (added_end past.tree) j)
]

pub passes_end : (bytes : List ℕ) (p : ProjectorView) (m : MatcherView) (v : View) (ws : List Ahead) → ws ≡ v.waiting → HearsOf p.matcher m ws → (q : ProjectorView) (w : View) → LeavesElement m q.matcher → q.at ≡ p.at
    → (x : PassedName) → p.passed ≡ q.passed ++ x ∷ [] → w ≡ cleared v → PassesToken bytes p q v w End
passes_end bytes p m v ws waits told q w leaves place x split is = record {
  stands = λ past st may. record {
    matcher = let a = is_open past.tree End may in under past st may a.0 a.1 (not_root xs (passed_of bytes x) v past (loose past st) a.0 a.1);
    buffer = subst (λ (z : View). StandsLoosely xs z (past_fed End past)) (sym is) (ends_passed (cleared v) xs (passed_of bytes x) (past_told past) (loosely_told (xs ++ passed_of bytes x ∷ []) v past (loose past st)) refl may);
    names = λ y i. st.names y (subst (λ (zs : List PassedName). In y zs) (sym split) (In-left y q.passed (x ∷ []) i));
  };
  none = λ past st may. end_gives past;
  place = place;
  changes = (is, x, split);
}
  where
    xs : List Passed
    xs = passed_in bytes q.passed

    loose : (past : Past) → StandLoosely bytes p v past → StandsLoosely (passed_in bytes q.passed ++ passed_of bytes x ∷ []) v past
    loose past st = subst (λ (zs : List Passed). StandsLoosely zs v past) (ap (passed_in bytes) split ∙ map-append (passed_of bytes) q.passed (x ∷ [])) st.buffer

    under : (past : Past) → StandLoosely bytes p v past → may_come End past.tree ≡ true → (a : Node) → past.tree.at ≡ Some a → 0 < serial_of a → MatcherAt q.matcher (heard (past_fed End past)) false
    under past st may Root e low = absurd (omega arith)
    under past st may (Under n s k) e low =
        matcher_fed q.matcher past (some_rows (passed_in bytes p.passed) v past st.buffer).is_past End may n (ap (λ z. (grow_at z End past.tree).at) e)
        (leaves (ahead_in past.tree past.acts past) n s k (heard_here m past (Under n s k) e (late_heard bytes p m v ws waits told past st End may)) e)

-- ---- where none is passed

-- what stands exactly stands loosely
pub exact_stand : (bytes : List ℕ) (p : ProjectorView) (v : View) (past : Past) → Projects p past → StandsFor v past → StandLoosely bytes p v past
exact_stand bytes p v past pr h = record {
  matcher = pr.matcher;
  buffer = subst (λ (xs : List PassedName). StandsLoosely (passed_in bytes xs) v past) (sym pr.none) (λ places e. subst (λ (z : View). StandsFor z past) (sym (settles_none v places)) h);
  names = λ x i. absurd (subst (λ (xs : List PassedName). In x xs) pr.none i);
}

-- ---- whichever way a token was fed

pub late_stands : (bytes : List ℕ) (p q : ProjectorView) (v w : View) (t : TreeToken) (answer : Option Tally) → FeedsLate bytes p q v w t answer → (past : Past) → StandLoosely bytes p v past → may_come t past.tree ≡ true → StandLoosely bytes q w (past_fed t past)
late_stands bytes p q v w t None f past st may = f.stands past st may
late_stands bytes p q v w t (Some y) f past st may =
    let s = f.settles.stands past st in
    let r = f.feeds.feeds.stands past s.1 s.0 may in
    exact_stand bytes q w (past_fed t past) r.0 r.1

passed_rows : (bytes : List ℕ) (xs ys : List PassedName) (v w : View) (t : TreeToken) → PassedBy bytes xs ys v w t → w.rows ≡ v.rows
passed_rows bytes xs ys v w (Start name) c = ap (λ (z : View). z.rows) c.0
passed_rows bytes xs ys v w (Chars text) c = ap (λ (z : View). z.rows) c.0
passed_rows bytes xs ys v w End c = ap (λ (z : View). z.rows) c.0

pub late_place : (bytes : List ℕ) (p q : ProjectorView) (v w : View) (t : TreeToken) (answer : Option Tally) → FeedsLate bytes p q v w t answer → Places p v → Places q w
late_place bytes p q v w t None f k =
    subst (λ (rows : List Cell). KeepsPlace q.at rows) (sym (passed_rows bytes p.passed q.passed v w t f.changes)) (subst (λ (o : Option Place). KeepsPlace o v.rows) (sym f.place) k)
late_place bytes p q v w t (Some y) f k = f.feeds.feeds.place
