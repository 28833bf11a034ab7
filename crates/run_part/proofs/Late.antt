-- What a lent token makes of the actors where rows are made late.
use Rattle.std.proofs.Common.{◌≡◌, ℕ, suc, ◌+◌, ◌<◌, ◌≤◌, ◌^◌, ◌&&◌, Bool, true, false, cond, max, List, [], ◌∷◌, ◌++◌, length, refl, sym, ◌∙◌, ap, subst, inl, inr, ⊎_elim, arith, Some, None, Option, length-append}
use Rattle.std.specs.List.{filter}
use Rattle.std.proofs.lemmas.Bool.{cases_Bool}
use Rattle.std.proofs.lemmas.List.{map-append}
use Rattle.base_laws.proofs.Lists.{filter_few}
use Rattle.gcx_base.specs.declared.kind.Kind.{Kind}
use Rattle.gcx_base.specs.declared.kind.Kind.TheVariants.{Element, Text}
use Rattle.gcx_model.specs.Core.{PlanTree}
use Rattle.gcx_model.specs.Growth.{Leads, more, stays, may_come}
use Rattle.gcx_model.specs.Held.{all_signed, given, held, is_held, on_off, path_of, roles_live, roles_taken, statement_of, sum_given, sum_taken}
use Rattle.gcx_model.specs.Members.{In, count}
use Rattle.gcx_model.specs.Past.{Past, IsNode, IsPast, Opens, past_fed, token_for}
use Rattle.gcx_model.specs.Points.{actions, so_far, fed as feeds}
use Rattle.gcx_model.specs.Run.{Action}
use Rattle.gcx_model.specs.Tree.{Node, Under, serial_of, Tree, TreeToken as Said, Start, Chars, End, opening, grow}
use Rattle.tree_laws.proofs.Growing.{grows}
use Rattle.tree_laws.proofs.Lists.{In-append, In-left, In-right}
use Rattle.tree_laws.proofs.Matches.{added, added_at, grow_nodes}
use Rattle.past_laws.proofs.RowFacts.{open_behind}
use Rattle.move_laws.proofs.Keeping.{so_far_stays, taken_are_there}
use Rattle.move_laws.proofs.Unmoved.{quiet_token}
use Rattle.move_laws.specs.Quiet.{by_opening}
use Rattle.run_laws.proofs.Summing.{sums_by_feed, taken_is_given}
use Rattle.buf_tree.specs.Loose.{Passed, Loosely, StandsLoosely, GivesNone, cells_passed, last_open, one_passed, passed_cells, with_passed}
use Rattle.buf_tree.specs.Shape.{Cell, CellsRise, num}
use Rattle.buf_tree.specs.Stands.{Seen, StandsFor, seen, told}
use Rattle.buf_tree.specs.View.{View, capped, num_in, level_in}
use Rattle.buf_tree.proofs.OwnPlaces.{rows_rise}
use Rattle.buf_tree.proofs.PassedRows.{one_row_more, places_length, places_of, places_push, settles_none}
use Rattle.projector.specs.declared.passed.PassedName.{PassedName}
use Rattle.projector.specs.Late.{IsShallow, Made, MakesSome, MayBeFedLate, PassedBy, PassesToken, SettlesAll, StandLoosely, cleared, passed_in, passed_of}
use Rattle.projector.specs.View.{ProjectorView}
use Rattle.projector.proofs.Grown.{added_then, behind, opens}
use Rattle.projector.proofs.Loosely.{exact_stand, late_place}
use Rattle.projector.proofs.LateRows.{rising_behind}
use Rattle.projector.proofs.Pasts.{is_open}
use Rattle.pull_eval.specs.Acting.{Beside}
use Rattle.pull_eval.specs.Position.{StandsAt}
use Rattle.pull_eval.specs.declared.machine.Runner.{Runner}
use Rattle.run_part.specs.View.{ActorsView}
use Rattle.run_part.specs.declared.actors.Tallied.{Tallied}
use Rattle.run_part.specs.Actors.{ActorsStand, IsBalanced, StandAt, past_at}
use Rattle.run_part.specs.Late.{IsLow, MayFeedLate, SettledAt, SettledOver, StandLate, seen_late, some_places}
use Rattle.run_part.proofs.Coming.{Comes, position_on}
use Rattle.run_part.proofs.Quieting.{none_there}
use Rattle.run_part.proofs.RowsHeld.{held_row, row_node, rows_count, shallow_rows}

-- ---- rows that are left to be made

cells_length : (a l : ℕ) (places : List ℕ) (xs : List Passed) → length places ≡ length xs → length (passed_cells a l places xs) ≡ length xs
cells_length a l places [] e = refl
cells_length a l [] (x ∷ xs) e = absurd (omega arith)
cells_length a l (p ∷ places) (x ∷ xs) e = ap suc (cells_length x.serial (l + 1) places xs (omega arith))

-- passed elements are counted as rows
pub late_length : (v : View) (xs : List Passed) (places : List ℕ) → length places ≡ length xs → length (with_passed places xs v).rows ≡ length v.rows + length xs
late_length v xs places e =
    length-append v.rows (cells_passed places xs v.rows)
    ∙ ap (λ n. length v.rows + n) (cells_length (num_in (last_open v.rows)) (level_in (last_open v.rows)) places xs e)

names_length : (bytes : List ℕ) (xs : List PassedName) → length (passed_in bytes xs) ≡ length xs
names_length bytes [] = refl
names_length bytes (x ∷ xs) = ap suc (names_length bytes xs)

pub seen_length : {C : Type 0} (bytes : List ℕ) (a : ActorsView C) → length (seen_late bytes a).rows ≡ length a.buffer.rows + length a.projector.passed
seen_length bytes a =
    let xs = passed_in bytes a.projector.passed in
    late_length a.buffer xs (places_of xs) (places_length xs) ∙ ap (λ n. length a.buffer.rows + n) (names_length bytes a.projector.passed)

-- where none is passed all rows are there
pub seen_none : {C : Type 0} (bytes : List ℕ) (a : ActorsView C) → a.projector.passed ≡ [] → seen_late bytes a ≡ a.buffer
seen_none bytes a none =
    ap (λ (xs : List PassedName). with_passed (some_places (passed_in bytes xs)) (passed_in bytes xs) a.buffer) none ∙ settles_none a.buffer []

made_most : (xs : List Passed) (v w : View) → Made xs v w → length v.rows ≤ v.most → w.most ≡ max v.most (length w.rows)
made_most [] v w m l =
    let most : w.most ≡ v.most = m.most in
    let rows = ap length m.rows ∙ length-append v.rows [] in
    omega arith
made_most (x ∷ xs) v w m l = m.most

-- a number of places is one and those before it
last_place : (places : List ℕ) (n : ℕ) → length places ≡ n + 1 → (front : List ℕ) × (p : ℕ) × (places ≡ front ++ p ∷ []) × (length front ≡ n)
last_place [] n e = absurd (omega arith)
last_place (p ∷ []) n e = ([], p, refl, omega arith)
last_place (p ∷ q ∷ places) n e =
    let less : length (q ∷ places) ≡ (length places) + 1 = omega arith in
    let r = last_place (q ∷ places) (length places) less in
    (p ∷ r.0, r.1, ap (λ (z : List ℕ). p ∷ z) r.2, let l = r.3 in omega arith)

-- ---- as always, and with rows made late

module _ {C : Type 0} (bytes : List ℕ) (stands : C → Tree → Type 0) (plan : PlanTree) where
  -- what stands as always stands so
  pub stand_late : (a : ActorsView C) (P : Tree) (k : ℕ) → StandAt stands plan a P k → StandLate bytes stands plan a P k
  stand_late a P k s =
      let past = past_at plan P k s.fed in
      record {
        fed = s.fed;
        loosely = exact_stand bytes a.projector a.buffer past s.projects s.beside.buffer;
        keeps = s.keeps;
        gone = s.gone;
        beside = subst (λ (xs : List PassedName). Loosely (λ (v : View). Beside a.machine.position v past k) (passed_in bytes xs) a.buffer) (sym s.projects.none)
            (λ places e. subst (λ (v : View). Beside a.machine.position v past k) (sym (settles_none a.buffer places)) s.beside);
        stand = s.stand;
      }

  -- where none is passed it is the same
  pub stand_exact : (a : ActorsView C) (P : Tree) (k : ℕ) → a.projector.passed ≡ [] → StandLate bytes stands plan a P k → StandAt stands plan a P k
  stand_exact a P k none s =
      let past = past_at plan P k s.fed in
      record {
        fed = s.fed;
        projects = record { matcher = s.loosely.matcher; none = none };
        keeps = s.keeps;
        gone = s.gone;
        beside = subst (λ (v : View). Beside a.machine.position v past k) (settles_none a.buffer [])
            (subst (λ (xs : List PassedName). Loosely (λ (v : View). Beside a.machine.position v past k) (passed_in bytes xs) a.buffer) none s.beside [] refl);
        stand = s.stand;
      }

  -- whatever was counted
  pub stand_counted : (a : ActorsView C) (n : Tallied) (P : Tree) (k : ℕ) → StandLate bytes stands plan a P k → StandLate bytes stands plan (record a { counts = n }) P k
  stand_counted a n P k s = record { fed = s.fed; loosely = s.loosely; keeps = s.keeps; gone = s.gone; beside = s.beside; stand = s.stand }

  pub over_counted : (a d : ActorsView C) (n : Tallied) (P : Tree) (k : ℕ) → SettledOver bytes stands plan (record a { counts = n }) d P k → SettledOver bytes stands plan a d P k
  over_counted a d n P k s = record { actors = s.actors; rows = s.rows; most = s.most }

  module _ (a : ActorsView C) (P : Tree) (k : ℕ) (s : StandLate bytes stands plan a P k) where
    abbrev past : Past
    past = past_at plan P k s.fed

    abbrev xs : List Passed
    xs = passed_in bytes a.projector.passed

    -- the machine beside all rows
    pub late_beside : Beside a.machine.position (seen_late bytes a) past k
    late_beside = s.beside (places_of xs) (places_length xs)

    pub late_rows : length (seen_late bytes a).rows ≡ length (held plan P (so_far plan P k))
    late_rows = rows_count (seen_late bytes a) past late_beside.buffer

    -- there are no more of them than nodes
    pub late_few : length a.buffer.rows + length a.projector.passed ≤ length P.nodes
    late_few =
        let few : length (held plan P (so_far plan P k)) ≤ length P.nodes = filter_few (is_held plan P (so_far plan P k)) P.nodes in
        let all = seen_length bytes a in
        let rows = late_rows in
        omega arith

    -- no more was taken back than given
    pub late_balance : a.counts.given ≡ capped (sum_given plan P) → IsBalanced a
    late_balance given =
        let few = (taken_is_given.1 plan P (so_far plan P k)).0 in
        let taken : a.buffer.taken ≡ capped (sum_taken plan P (so_far plan P k)) = late_beside.taken in
        omega arith

    pub late_shallow : IsLow P → Loosely IsShallow xs a.buffer
    late_shallow low places e = shallow_rows (with_passed places xs a.buffer) past (s.loosely.buffer places e) 1000 low

    -- where the rows were made
    pub settled_at : (d : ActorsView C) → SettlesAll bytes a.projector d.projector a.buffer d.buffer → d.machine ≡ a.machine → StandAt stands plan d P k
    settled_at d f same =
        let x = f.stands past s.loosely in
        let b = s.beside f.rows.places f.rows.count in
        subst (λ (m : Runner C). ActorsStand plan (stands m.conds) d.projector m.position d.buffer P k) (sym same) (record {
          fed = s.fed;
          projects = x.0;
          keeps = f.place;
          gone = f.rows.gone ∙ s.gone;
          beside = record {
            state = b.state;
            acts = b.acts;
            buffer = x.1;
            taken = f.rows.taken ∙ b.taken;
            position = subst (λ (rows : List Cell). StandsAt plan a.machine.position rows P k) (sym f.rows.rows) b.position;
          };
          stand = s.stand;
        })

    settled_rows : (d : ActorsView C) → SettlesAll bytes a.projector d.projector a.buffer d.buffer → length d.buffer.rows ≡ length (seen_late bytes a).rows
    settled_rows d f =
        ap length f.rows.rows ∙ late_length a.buffer xs f.rows.places f.rows.count ∙ sym (late_length a.buffer xs (places_of xs) (places_length xs))

    pub settles_at : (d : ActorsView C) → SettlesAll bytes a.projector d.projector a.buffer d.buffer → d.machine ≡ a.machine → SettledAt bytes stands plan a d P k
    settles_at d f same = record {
      actors = settled_at d f same;
      rows = settled_rows d f;
      most = λ l. made_most xs a.buffer d.buffer f.rows l ∙ ap (max a.buffer.most) (settled_rows d f);
    }

    -- where none was to be made
    pub settles_none_at : a.projector.passed ≡ [] → SettledAt bytes stands plan a a P k
    settles_none_at none =
        let rows = ap (λ (v : View). length v.rows) (sym (seen_none bytes a none)) in
        record { actors = stand_exact a P k none s; rows = rows; most = λ l. omega arith }

    -- as many rows as are seen were there before, or they were made
    pub over_none : length (seen_late bytes a).rows ≤ a.buffer.most → SettledOver bytes stands plan a a P k
    over_none l = record { actors = s; rows = refl; most = λ m. omega arith }

    pub over_made : (d : ActorsView C) → SettledAt bytes stands plan a d P k → SettledOver bytes stands plan a d P k
    over_made d x = record {
      actors = stand_late d P k x.actors;
      rows = ap (λ (v : View). length v.rows) (seen_none bytes d x.actors.projects.none) ∙ x.rows;
      most = x.most;
    }

    -- a token leaves the actions taken as they are
    pub acts_stay : (t : Said) → may_come t P ≡ true → so_far plan (grow t P) k ≡ so_far plan P k
    acts_stay t may = so_far_stays plan P (grow t P) k late_beside.buffer.is_past.grown (more stays (grows t P may)) (taken_are_there plan P k late_beside.state)

-- where some of the rows were made before memory ran out
pub some_balance : {C : Type 0} (bytes : List ℕ) (stands : C → Tree → Type 0) (plan : PlanTree) (a d : ActorsView C) (P : Tree) (k : ℕ) → StandLate bytes stands plan a P k
    → MakesSome (passed_in bytes a.projector.passed) a.buffer d.buffer → d.counts ≡ a.counts → a.counts.given ≡ capped (sum_given plan P) → IsBalanced d
some_balance bytes stands plan a d P k s m counts given =
    let before : a.buffer.taken ≤ a.counts.given = late_balance bytes stands plan a P k s given in
    let taken = m.makes.rows.taken in
    let same = ap (λ (n : Tallied). n.given) counts in
    omega arith

-- ---- what a call leaves

added_few : (o : Option Node) (t : Said) (P : Tree) → length (added_at o t P) ≤ 1
added_few None t P = omega arith
added_few (Some p) (Start name) P = omega arith
added_few (Some p) (Chars text) P = omega arith
added_few (Some p) End P = omega arith

-- a token brings one node at most
pub one_more : (t : Said) (P : Tree) → length (grow t P).nodes ≤ length P.nodes + 1
one_more t P =
    let few = added_few P.at t P in
    let all = ap length (grow_nodes t P) ∙ length-append P.nodes (added t P) in
    omega arith

pub no_names : (xs : List PassedName) → length xs ≡ 0 → xs ≡ []
no_names [] e = refl
no_names (x ∷ xs) e = absurd (omega arith)

-- ---- what feeding asks

module _ {C : Type 0} (bytes : List ℕ) (stands : C → Tree → Type 0) (a : ActorsView C) (t : Said) (m : MayFeedLate bytes stands a t) where
  pub late_may : MayBeFedLate bytes a.projector a.buffer t
  late_may = record { past = past_at m.plan m.tree m.taken m.of.fed; stand = m.of.loosely; may = m.comes.may }

  pub late_nodes : a.buffer.nodes ≤ 2 ^ 40 + 1
  late_nodes =
      let n : a.buffer.nodes ≡ length m.tree.nodes = (late_beside bytes stands m.plan a m.tree m.taken m.of).buffer.nodes in
      let l = m.comes.nodes in
      omega arith

  pub late_depth : Loosely IsShallow (passed_in bytes a.projector.passed) a.buffer
  late_depth = late_shallow bytes stands m.plan a m.tree m.taken m.of m.comes.depth

-- ---- sums that a token without roles leaves

some_none : {X : Type 0} (x : X) (xs : List X) → x ∷ xs ≡ [] → ⊥
some_none x xs e = cc

filter_both : {X : Type 0} (p q : X → Bool) (xs : List X) → filter p xs ≡ [] → filter (λ x. p x && q x) xs ≡ []
filter_both p q [] h = refl
filter_both p q (x ∷ xs) h = go (p x) h (filter_both p q xs)
  where
    go : (c : Bool) → cond c (x ∷ filter p xs) (filter p xs) ≡ [] → (filter p xs ≡ [] → filter (λ y. p y && q y) xs ≡ []) → cond (c && q x) (x ∷ filter (λ y. p y && q y) xs) (filter (λ y. p y && q y) xs) ≡ []
    go true e k = absurd (some_none x (filter p xs) e)
    go false e k = k e

module _ (past : Past) (is : IsPast past) where
  opened_same : (kind : Kind) (k : IsNode kind) → may_come (token_for kind) past.tree ≡ true → GivesNone past (token_for kind)
      → (sum_given past.plan (grow (token_for kind) past.tree) ≡ sum_given past.plan past.tree) × (sum_taken past.plan (grow (token_for kind) past.tree) past.acts ≡ sum_taken past.plan past.tree past.acts)
  opened_same kind k may none =
      let t = token_for kind in
      let a = is_open past.tree t may in
      let n : Node = Under a.0 (length past.tree.nodes) kind in
      let o : Opens past.tree t n = opens past is t n (behind t past.tree ∙ added_then past kind k a.0 a.1) in
      let given_none = none n o in
      let taken_none : roles_taken past.plan (grow t past.tree) past.acts n ≡ [] = filter_both (given past.plan (grow t past.tree) n) (λ (r : ℕ). on_off (all_signed (path_of past.plan) (grow t past.tree) past.acts n) (statement_of past.plan r)) (count 0 (length past.plan.roles)) given_none in
      let sums = (sums_by_feed past is t may).0 n o in
      let g = ap length given_none in
      let l = ap length taken_none in
      (sums.0 ∙ omega arith, sums.1 ∙ omega arith)

  pub same_sums : (t : Said) → may_come t past.tree ≡ true → GivesNone past t
      → (sum_given past.plan (grow t past.tree) ≡ sum_given past.plan past.tree) × (sum_taken past.plan (grow t past.tree) past.acts ≡ sum_taken past.plan past.tree past.acts)
  same_sums (Start name) may none = opened_same (Element name) tt may none
  same_sums (Chars bytes) may none = opened_same (Text bytes) tt may none
  same_sums End may none =
      let a = is_open past.tree End may in
      (sums_by_feed past is End may).1 (open_behind past.tree a.0 a.1).2

  -- behind an element or a text without roles no action is possible that wasn't
  pub opened_quiet : (kind : Kind) (k : IsNode kind) → may_come (token_for kind) past.tree ≡ true → GivesNone past (token_for kind) → actions past.plan (grow (token_for kind) past.tree) ≡ actions past.plan past.tree
  opened_quiet kind k may none =
      let t = token_for kind in
      let a = is_open past.tree t may in
      let n : Node = Under a.0 (length past.tree.nodes) kind in
      let o : Opens past.tree t n = opens past is t n (behind t past.tree ∙ added_then past kind k a.0 a.1) in
      (quiet_token is.core is.good past.plan is.placed past.tree is.grown t may (by_opening n o (inl (none n o)))).0

-- ---- a token that is passed

-- the rows behind it are those before it, or one that is new
abbrev ComesFrom : (bytes : List ℕ) → (xs : List PassedName) → (v : View) → (ys : List PassedName) → (w : View) → (k : ℕ) → Type 0
ComesFrom bytes xs v ys w k = (places : List ℕ) → length places ≡ length (passed_in bytes ys)
    → (before : List ℕ) × (length before ≡ length (passed_in bytes xs)) × Comes (with_passed before (passed_in bytes xs) v).rows (with_passed places (passed_in bytes ys) w).rows k

comes_more : (rows : List Cell) (c : Cell) (k : ℕ) → k ≤ num c → Comes rows (rows ++ c ∷ []) k
comes_more rows c k l d i = elim (In-append d rows (c ∷ []) i) [
  | inl j ↦ inl (d, j, refl, refl)
  | inr j ↦ elim j [ inl e ↦ inr (let h : num c ≡ num d = ap num e in omega arith) | inr z ↦ absurd z ]
]

comes_fewer : (rows : List Cell) (c : Cell) (k : ℕ) → Comes (rows ++ c ∷ []) rows k
comes_fewer rows c k d i = inl (d, In-left d rows (c ∷ []) i, refl, refl)

module _ (bytes : List ℕ) (xs : List PassedName) (v : View) (k : ℕ) (nodes : v.nodes ≡ k) where
  pushed : (x : PassedName) → v.nodes ≤ x.serial → ComesFrom bytes xs v (xs ++ x ∷ []) (one_passed (cleared v)) k
  pushed x new = subst (λ (all : List Passed). (places : List ℕ) → length places ≡ length all → (before : List ℕ) × (length before ≡ length ps) × Comes (with_passed before ps v).rows (with_passed places all (one_passed (cleared v))).rows k)
      (sym (map-append (passed_of bytes) xs (x ∷ []))) at
    where
      ps : List Passed
      ps = passed_in bytes xs

      one : Passed
      one = passed_of bytes x

      at : (places : List ℕ) → length places ≡ length (ps ++ one ∷ []) → (before : List ℕ) × (length before ≡ length ps) × Comes (with_passed before ps v).rows (with_passed places (ps ++ one ∷ []) (one_passed (cleared v))).rows k
      at places e =
          let r = last_place places (length ps) (e ∙ length-append ps (one ∷ [])) in
          let m = one_row_more (one_passed (cleared v)) ps one r.0 r.1 r.3 in
          let l : k ≤ num m.0 = let s : num m.0 ≡ x.serial = m.2 in omega arith in (
            r.0,
            r.3,
            subst (λ (rows : List Cell). Comes (with_passed r.0 ps v).rows rows k)
                (sym (ap (λ (z : List ℕ). (with_passed z (ps ++ one ∷ []) (one_passed (cleared v))).rows) r.2 ∙ m.3))
                (comes_more (with_passed r.0 ps v).rows m.0 k l),
          )

  popped : (ys : List PassedName) (x : PassedName) → xs ≡ ys ++ x ∷ [] → ComesFrom bytes xs v ys (cleared v) k
  popped ys x split places e =
      let ps = passed_in bytes ys in
      let one = passed_of bytes x in
      let all : passed_in bytes xs ≡ ps ++ one ∷ [] = ap (passed_in bytes) split ∙ map-append (passed_of bytes) ys (x ∷ []) in
      let m = one_row_more v ps one places 0 e in
      let long : length (places ++ 0 ∷ []) ≡ length (ps ++ one ∷ []) = omega (arith, e, length-append places (0 ∷ []), length-append ps (one ∷ [])) in
      subst (λ (qs : List Passed). (before : List ℕ) × (length before ≡ length qs) × Comes (with_passed before qs v).rows (with_passed places ps (cleared v)).rows k) (sym all)
      (places ++ 0 ∷ [], long, subst (λ (rows : List Cell). Comes rows (with_passed places ps (cleared v)).rows k) (sym m.3) (comes_fewer (with_passed places ps v).rows m.0 k))

  late_comes : (ys : List PassedName) (w : View) (t : Said) → PassedBy bytes xs ys v w t → ComesFrom bytes xs v ys w k
  late_comes ys w (Start name) c =
      let serial : c.1.serial ≡ v.nodes = ap (λ (p : Passed). p.serial) c.3 in
      subst (λ (z : View). ComesFrom bytes xs v ys z k) (sym c.0) (subst (λ (zs : List PassedName). ComesFrom bytes xs v zs (one_passed (cleared v)) k) (sym c.2) (pushed c.1 (omega arith)))
  late_comes ys w (Chars text) c =
      subst (λ (z : View). ComesFrom bytes xs v ys z k) (sym c.0)
      (subst (λ (zs : List PassedName). ComesFrom bytes xs v zs (one_passed (cleared v)) k) (sym c.1) (λ places e. (places, e, λ d i. inl (d, i, refl, refl))))
  late_comes ys w End c = subst (λ (z : View). ComesFrom bytes xs v ys z k) (sym c.0) (popped ys c.1 c.2)

-- what of the view stays
pub record SameButNodes (v w : View) : Type 0 where
  pub rows : w.rows ≡ v.rows
  pub gone : w.gone ≡ v.gone
  pub taken : w.taken ≡ v.taken
  pub most : w.most ≡ v.most

same_by : (bytes : List ℕ) (before now : List PassedName) (v w : View) (t : Said) → PassedBy bytes before now v w t → SameButNodes v w
same_by bytes before now v w (Start name) c = record { rows = ap (λ (z : View). z.rows) c.0; gone = ap (λ (z : View). z.gone) c.0; taken = ap (λ (z : View). z.taken) c.0; most = ap (λ (z : View). z.most) c.0 }
same_by bytes before now v w (Chars text) c = record { rows = ap (λ (z : View). z.rows) c.0; gone = ap (λ (z : View). z.gone) c.0; taken = ap (λ (z : View). z.taken) c.0; most = ap (λ (z : View). z.most) c.0 }
same_by bytes before now v w End c = record { rows = ap (λ (z : View). z.rows) c.0; gone = ap (λ (z : View). z.gone) c.0; taken = ap (λ (z : View). z.taken) c.0; most = ap (λ (z : View). z.most) c.0 }

module _ {C : Type 0} (bytes : List ℕ) (stands : C → Tree → Type 0) (plan : PlanTree) (a d : ActorsView C) (P : Tree) (k : ℕ) (t : Said) (s : StandLate bytes stands plan a P k) (may : may_come t P ≡ true)
    (f : PassesToken bytes a.projector d.projector a.buffer d.buffer t) (same : d.machine ≡ a.machine) (on : (T : Tree) → Leads opening P → Leads P T → stands a.machine.conds T) where
  abbrev was : Past
  was = past_at plan P k s.fed

  abbrev j : ℕ
  j = length (so_far plan P k)

  abbrev now : Past
  now = past_at plan (grow t P) k j

  there : Beside a.machine.position (seen_late bytes a) was k
  there = late_beside bytes stands plan a P k s

  grown : Leads opening P
  grown = there.buffer.is_past.grown

  next : Leads P (grow t P)
  next = more stays (grows t P may)

  same_acts : so_far plan P k ≡ so_far plan (grow t P) k
  same_acts = sym (so_far_stays plan P (grow t P) k grown next (taken_are_there plan P k there.state))

  past_is : past_fed t was ≡ now
  past_is = ap (λ (A : List Action). record { plan = plan; tree = grow t P; acts = A; fed = j }) same_acts

  loose : StandLoosely bytes d.projector d.buffer now
  loose = subst (λ (x : Past). StandLoosely bytes d.projector d.buffer x) past_is (f.stands was s.loosely may)

  still : SameButNodes a.buffer d.buffer
  still = same_by bytes a.projector.passed d.projector.passed a.buffer d.buffer t f.changes

  sums : (sum_given plan (grow t P) ≡ sum_given plan P) × (sum_taken plan (grow t P) (so_far plan P k) ≡ sum_taken plan P (so_far plan P k))
  sums = same_sums was there.buffer.is_past t may (f.none was s.loosely may)

  taken_is : d.buffer.taken ≡ capped (sum_taken plan (grow t P) (so_far plan (grow t P) k))
  taken_is = still.taken ∙ there.taken ∙ ap capped (sym sums.1) ∙ ap (λ (A : List Action). capped (sum_taken plan (grow t P) A)) same_acts

  beside_now : Loosely (λ (v : View). Beside a.machine.position v now k) (passed_in bytes d.projector.passed) d.buffer
  beside_now places e =
      let is = there.buffer.is_past in
      let c = late_comes bytes a.projector.passed a.buffer (length P.nodes) there.buffer.nodes d.projector.passed d.buffer t f.changes places e in
      let b = s.beside c.0 c.1 in
      record {
        state = feeds there.state (grows t P may);
        acts = refl;
        buffer = loose.buffer places e;
        taken = taken_is;
        position = position_on P (grow t P) grown next (with_passed c.0 (passed_in bytes a.projector.passed) a.buffer).rows (with_passed places (passed_in bytes d.projector.passed) d.buffer).rows c.2
            is.core is.good plan is.placed k there.state a.machine.position (taken_are_there plan P k there.state) b.position;
      }

  pub passed_stands : StandLate bytes stands plan d (grow t P) k
  passed_stands = subst (λ (m : Runner C). StandLate bytes stands plan (record d { machine = m }) (grow t P) k) (sym same) (record {
    fed = j;
    loosely = loose;
    keeps = late_place bytes a.projector d.projector a.buffer d.buffer t None f s.keeps;
    gone = still.gone ∙ s.gone;
    beside = beside_now;
    stand = on (grow t P) grown next;
  })

  -- the sums and the rows that it leaves
  pub passed_given : capped (sum_given plan P) ≡ capped (sum_given plan (grow t P))
  passed_given = ap capped (sym sums.0)

  pub passed_still : SameButNodes a.buffer d.buffer
  passed_still = still

-- the end of a passed element: no role was live there
module _ (bytes : List ℕ) (past : Past) (p q : ProjectorView) (v w : View) (before : StandLoosely bytes p v past) (behind_it : StandLoosely bytes q w (past_fed End past)) (may : may_come End past.tree ≡ true)
    (x : PassedName) (split : p.passed ≡ q.passed ++ x ∷ []) (is_w : w ≡ cleared v) where
  abbrev ps : List Passed
  ps = passed_in bytes q.passed

  abbrev one : Passed
  one = passed_of bytes x

  abbrev places : List ℕ
  places = places_of ps

  abbrev all : View
  all = with_passed (places ++ 0 ∷ []) (ps ++ one ∷ []) v

  stood : StandsFor all past
  stood =
      let both : passed_in bytes p.passed ≡ ps ++ one ∷ [] = ap (passed_in bytes) split ∙ map-append (passed_of bytes) q.passed (x ∷ []) in
      subst (λ (xs : List Passed). StandsLoosely xs v past) both before.buffer (places ++ 0 ∷ []) (places_push ps 0 one)

  row : (c : Cell) × (c.place ≡ 0) × (num c ≡ one.serial) × (all.rows ≡ (with_passed places ps v).rows ++ c ∷ [])
  row = one_row_more v ps one places 0 (places_length ps)

  rising : CellsRise ((with_passed places ps v).rows ++ row.0 ∷ [])
  rising =
      let both : passed_in bytes p.passed ≡ ps ++ one ∷ [] = ap (passed_in bytes) split ∙ map-append (passed_of bytes) q.passed (x ∷ []) in
      let loose = subst (λ (xs : List Passed). StandsLoosely xs v past) both before.buffer in
      subst CellsRise row.3 (rows_rise v (ps ++ one ∷ []) past loose (places ++ 0 ∷ []) (places_push ps 0 one)).0

  pub popped_dead : (a : Node) → past.tree.at ≡ Some a → roles_live past.plan past.tree past.acts a ≡ []
  popped_dead a e =
      let n = row_node all past stood row.0 (subst (λ (rows : List Cell). In row.0 rows) (sym row.3) (In-right row.0 (with_passed places ps v).rows (row.0 ∷ []) (inl refl))) in
      none_there past stood.is_past a e may n.0 n.1 n.3 (⊎_elim (λ h. absurd (left n.0 n.1 n.2 h)) (λ h. h) (cases_Bool (is_held past.plan (grow End past.tree) past.acts n.0)))
    where
      same : (grow End past.tree).nodes ≡ past.tree.nodes
      same = (open_behind past.tree a e).2

      -- behind the end it has no row
      left : (n : Node) → In n past.tree.nodes → seen row.0 ≡ told past n → is_held past.plan (grow End past.tree) past.acts n ≡ true → ⊥
      left n i is h =
          let g : StandsFor (with_passed places ps w) (past_fed End past) = behind_it.buffer places (places_length ps) in
          let r = held_row (with_passed places ps w) (past_fed End past) g n (subst (λ (ns : List Node). In n ns) (sym same) i) h in
          let rows : (with_passed places ps w).rows ≡ (with_passed places ps v).rows = ap (λ (z : View). (with_passed places ps z).rows) is_w in
          let low : num r.0 < num row.0 = rising_behind (with_passed places ps v).rows (row.0 ∷ []) rising r.0 (subst (λ (cs : List Cell). In r.0 cs) rows r.1) row.0 (inl refl) in
          let serial : num row.0 ≡ serial_of n = ap (λ (z : Seen). z.serial) is in
          let num_is = r.2 in
          omega arith
