-- The turns of a recount.
use Rattle.std.proofs.Common.{◌≡◌, ◌==◌, ℕ, suc, ◌+◌, ◌<◌, ◌≤◌, Bool, true, false, cond, not, ◌&&◌, List, [], ◌∷◌, length, map, refl, sym, ◌∙◌, ap, subst, inl, inr, arith, Some, None, Option}
use Rattle.std.specs.List.{filter}
use Rattle.std.specs.Prelude.{◌↔◌, IsSome, is_some, is_none, option_map}
use Rattle.std.specs.FinMap.{get}
use Rattle.std.specs.FinSet as set
use Rattle.std.proofs.lemmas.Bool.{and_parts, and_from, not-true, true≢false, false≢true, false_from_ne_true, cases_eq, cases_lt}
use Rattle.gcx_model.specs.declared.item.Off.{Off}
use Rattle.gcx_model.specs.Tree.{Tree, Node}
use Rattle.base_laws.proofs.Bools.{same_bools}
use Rattle.base_laws.proofs.Lists.{filter_few}
use Rattle.tree_laws.proofs.Lists.{In, filter_same}
use Rattle.node_store.specs.Rows.{StoreRow, changed_at, paid_by}
use Rattle.buf_tree.specs.Row.{Row}
use Rattle.buf_tree.specs.Rows.{untaken}
use Rattle.buf_tree.specs.Shape.{Store, Cell, num, cells, Shaped, AtPlace}
use Rattle.buf_tree.specs.Recount.{Recounted, CoveredAnew, KeptAbove, TellsParent, is_lost, span_on}
use Rattle.buf_tree.specs.Spread.{SpreadView, is_spread_in, seen_rows, TellsCovered}
use Rattle.buf_tree.specs.Sweep.{taken_by, LosesBy}
use Rattle.buf_tree.specs.Walk.{Nested, Inside, Within, BehindIn, high_at}
use Rattle.buf_tree.specs.Ways.{NodeOf, TreeOf, IsKept}
use Rattle.buf_tree.proofs.Counting.{Counting, lose_at, lose_other, lose_here, count_start, count_nested, now_seen, row_is, row_was, now_has_role, took, recovers, none_between, before_or, covers_all, rows_all}
use Rattle.buf_tree.proofs.Going.{high_less}
use Rattle.buf_tree.proofs.Lifting.{seen_is}
use Rattle.buf_tree.proofs.Lines.{within_trans}
use Rattle.buf_tree.proofs.RowsLost.{Now, Has, HasStill, Went, keeps_now, now_alike, inside_on, inside_back, within_on, went_lost}
use Rattle.buf_tree.proofs.Seeking.{cell_row, used_there}
use Rattle.buf_tree.proofs.Shaping.{rising_same}
use Rattle.buf_tree.proofs.Spans.{SpanAt, span_base, span_next, span_same, span_tells}
use Rattle.buf_tree.proofs.Spreading.{spread_cell, upward}
use Rattle.buf_tree.proofs.Sweeping.{within_low}
use Rattle.buf_tree.proofs.Taking.{none_counted, one_more}
use Rattle.buf_tree.proofs.Upto.{Alike}

-- what the span of the rows before h becomes at h, whatever the test tells from there on
abbrev pub SpanReady : List Cell → (Cell → Bool) → (base h : Cell) → Option ℕ → Type 0
SpanReady xs keeps base h o = (test : Cell → Bool) → ((a : Cell) → In a xs → num a < num h → test a ≡ keeps a) → (up : ℕ) → TellsParent up h → SpanAt xs test base h (span_on o (num h) up (test h))

abbrev pub has_role : ℕ → Cell → Bool
has_role k a = set.contains a.row.roles k

-- The row at the place is the first of the base's subtree that isn't done, or all are.
abbrev pub NextRow : List Cell → (k : ℕ) → (lost : Cell → Bool) → (base : Cell) → (seen edge : ℕ) → (before now at : Option ℕ) → Type 0
NextRow xs k lost base seen edge before now None = ((x : Cell) → In x xs → Inside xs base x → num x ≤ seen) × (seen < edge)
NextRow xs k lost base seen edge before now (Some p) =
    (h : Cell) × In h xs × (h.place ≡ p) × (num h ≡ seen) × (num h ≡ edge) × Within xs base h × SpanReady xs (has_role k) base h before × SpanReady xs (keeps_now lost k) base h now

-- a recount below the row at `place`, at the row at `at`: so many rows that had the role have it no more
pub record Recounts (s : Option SpreadView) (m0 m : Store) (off : Off) (others : Bool) (place : ℕ) (at before now : Option ℕ) (count : ℕ) : Type 0 where
  pub base : Cell
  pub among : In base (cells m0)
  pub here : base.place ≡ place
  pub seen : ℕ
  pub edge : ℕ
  pub lost : Cell → Bool
  pub went : Cell → Bool
  pub counting : Counting s m0 m off others base seen edge lost
  pub top : num base ≤ seen
  pub gone : (d : Cell) → went d ≡ true → num d < edge
  pub told : (d : Cell) → In d (cells m0) → num d < edge → (went d ≡ true) ↔ Went (cells m0) off.role.0 lost d
  pub taken : count ≡ length (filter went (cells m0))
  pub walk : NextRow (cells m0) off.role.0 lost base seen edge before now at

none_some : (o : Option ℕ) → is_none o ≡ not (is_some o)
none_some None = refl
none_some (Some n) = refl

count_map : (p : Cell → Bool) (f : Cell → Cell) (zs : List Cell) → length (filter p (map f zs)) ≡ length (filter (λ z. p (f z)) zs)
count_map p f [] = refl
count_map p f (z ∷ zs) = go (p (f z)) (count_map p f zs)
  where
    go : (b : Bool) → length (filter p (map f zs)) ≡ length (filter (λ z. p (f z)) zs) → length (cond b (f z ∷ filter p (map f zs)) (filter p (map f zs))) ≡ length (cond b (z ∷ filter (λ z. p (f z)) zs) (filter (λ z. p (f z)) zs))
    go true e = ap suc e
    go false e = e

-- what has the role still where the rows above have lost it alike
still_as : (xs : List Cell) (k : ℕ) (lost lost' : Cell → Bool) (d : Cell) → ((a : Cell) → In a xs → Within xs a d → lost a ≡ lost' a) → HasStill xs lost k k d → HasStill xs lost' k k d
still_as xs k lost lost' d same h = (h.0, h.1, h.2, h.3, λ e. sym (same h.0 h.1 h.2) ∙ h.4 e)

module _ (s : Option SpreadView) (m0 : Store) (s0 : Shaped m0) (nest0 : Nested (cells m0)) (off : Off) (others : Bool) (place : ℕ) where
  abbrev xs : List Cell
  xs = cells m0

  abbrev k_ : ℕ
  k_ = off.role.0

  pub recounts_start : TellsCovered s (cells m0) → (c : Cell) → In c (cells m0) → c.place ≡ place → (o : Option ℕ) → KeptAbove (cells m0) off.role.0 c o → Recounts s m0 m0 off others place (Some place) o o 0
  recounts_start cov c i e o above = record {
    base = c;
    among = i;
    here = e;
    seen = num c;
    edge = num c;
    lost = λ _. false;
    went = λ _. false;
    counting = count_start s m0 s0 nest0 off others c cov;
    top = omega arith;
    gone = λ d f. absurd (false≢true f);
    told = λ d j l. ((λ f. absurd (false≢true f)), (λ w. absurd (w.1 (w.0.0, w.0.1, w.0.2, w.0.3, λ _. refl))));
    taken = none_counted xs;
    walk = (
      c,
      i,
      e,
      refl,
      refl,
      inl refl,
      (λ test same. span_base xs s0.rising test c i k_ (λ a j l. same a j l) o above),
      (λ test same. span_base xs s0.rising test c i k_ (λ a j l. same a j l ∙ still (has_role k_ a)) o above),
    );
  }
    where
      still : (b : Bool) → (b && not false) ≡ b
      still true = refl
      still false = refl

  -- ---- at a row

  module _ (m : Store) (p : ℕ) (before now : Option ℕ) (n : ℕ) (w : Recounts s m0 m off others place (Some p) before now n) where
    abbrev h : Cell
    h = w.walk.0

    i : In h xs
    i = w.walk.1

    at : h.place ≡ p
    at = w.walk.2

    within : Within xs w.base h
    within = w.walk.5

    counting : Counting s m0 m off others w.base (num h) (num h) w.lost
    counting =
        subst (λ (e : ℕ). Counting s m0 m off others w.base (num h) e w.lost) (sym w.walk.4)
        (subst (λ (e : ℕ). Counting s m0 m off others w.base e w.edge w.lost) (sym w.walk.3) w.counting)

    pub recounts_nested : Nested (cells m)
    recounts_nested = count_nested s m0 s0 nest0 off others w.base m w.seen w.edge w.lost w.counting

    abbrev row : (y : Cell) × In y (cells m) × Now w.lost off.role.0 h y
    row = row_is s m0 s0 nest0 off others w.base m (num h) (num h) w.lost counting h i

    row_place : row.0.place ≡ p
    row_place = sym (now_alike w.lost k_ h row.0 row.2).place ∙ at

    pub recounts_used : IsSome (get m p)
    recounts_used = used_there m w.counting.shape row.0 row.1 p row_place

    -- what the row at the place says
    module _ (r : Row) (paid : option_map (λ (e : StoreRow Row). e.payload) (get m p) ≡ Some r) where
      is_row : row.0.row ≡ r
      is_row = cell_row m w.counting.shape row.0 row.1 p row_place r paid

      row_serial : r.serial ≡ num h
      row_serial = ap (λ (x : Row). x.serial) (sym is_row) ∙ sym (now_alike w.lost k_ h row.0 row.2).serial

      row_has : set.contains r.roles k_ ≡ has_role k_ h
      row_has = ap (λ (x : Row). set.contains x.roles k_) (sym is_row) ∙ now_has_role s m0 s0 nest0 off others w.base m w.lost h i within counting p at

      -- behind `withdraw`, which takes the role r' times
      module _ (apart : off.own.0 ≡ off.role.0 → ⊥) (r' : ℕ) (few : r' ≤ 1)
          (tells : (T : Tree) (v : Node) (d : Cell) → TreeOf (cells m) T → NodeOf (cells m) p v → In d (cells m) → d.place ≡ p → (r' ≡ 1) ↔ ((set.contains d.row.roles off.role.0 ≡ true) × (others ≡ true → IsKept (cells m) T off v → ⊥)))
          (m1 : Store) (is : m1 ≡ cond (r' == 1) (changed_at (paid_by (untaken off.role.0)) p m) m) where
        abbrev lost : Cell → Bool
        lost = lose_at (num h) (r' == 1) w.lost

        then : Counting s m0 m1 off others w.base (num h) (suc (num h)) (lose_at (num h) (r' == 1) w.lost)
        then = took s m0 s0 nest0 off others w.base m w.lost h i within counting p at apart r' few tells m1 is

        h_not : w.lost h ≡ false
        h_not = false_from_ne_true (w.lost h) (λ e. let b = w.counting.low h e in let f = w.walk.4 in omega arith)

        pub turned_shaped : Shaped m1
        turned_shaped = then.shape

        pub turned_nested : Nested (cells m1)
        turned_nested = count_nested s m0 s0 nest0 off others w.base m1 (num h) (suc (num h)) lost then

        -- a row of m0 is there
        abbrev there : (x : Cell) → In x xs → (y : Cell) × In y (cells m1) × Now (lose_at (num h) (r' == 1) w.lost) off.role.0 x y
        there x j = row_is s m0 s0 nest0 off others w.base m1 (num h) (suc (num h)) lost then x j

        used_then : (x : Cell) → In x xs → (q : ℕ) → x.place ≡ q → IsSome (get m1 q)
        used_then x j q e = let y = there x j in used_there m1 then.shape y.0 y.1 q (sym (now_alike lost k_ x y.0 y.2).place ∙ e)

        pub turned_top : IsSome (get m1 place)
        turned_top = used_then w.base w.among place w.here

        pub turned_used : IsSome (get m1 p)
        turned_used = used_then h i p at

        -- the row of m1 at the place of one of m0
        at_place : (x y : Cell) → In x xs → In y (cells m1) → (q : ℕ) → x.place ≡ q → y.place ≡ q → num x ≡ num y
        at_place x y j k q e f =
            let z = there x j in
            let a = now_alike lost k_ x z.0 z.2 in
            a.serial ∙ ap num (then.shape.apart z.0 y z.1 k (sym a.place ∙ (e ∙ sym f)))

        pub turned_within : (a b : Cell) → In a (cells m1) → In b (cells m1) → a.place ≡ place → b.place ≡ p → Within (cells m1) a b
        turned_within a b j k e f = within_on lost k_ xs (cells m1) s0.rising then.shape.rising nest0 s0.up then.shape.up then.rows w.base h a b j k (at_place w.base a w.among j place w.here e) (at_place h b i k p at f) within

        -- nothing is lost above a row before h
        as_before : (d : Cell) → num d < num h → (a : Cell) → In a xs → Within xs a d → lose_at (num h) (r' == 1) w.lost a ≡ w.lost a
        as_before d l a j x = lose_other (num h) (r' == 1) w.lost a (λ e. let z = within_low xs a d x in omega arith)

        -- what is told of the rows then is told of those of m0
        pub turned_up : (q up : ℕ) → AtPlace (cells m1) q (TellsParent up) → AtPlace xs q (TellsParent up)
        turned_up q up says d j e inner =
            let y = there d j in
            let a = now_alike lost k_ d y.0 y.2 in
            says y.0 y.1 (sym a.place ∙ e) (λ z. inner (a.serial ∙ z)) ∙ sym a.parent

        -- the row behind it is next
        module _ (o : Option ℕ) (after : (c x : Cell) → In c (cells m1) → In x (cells m1) → c.place ≡ place → x.place ≡ p → BehindIn (cells m1) (Inside (cells m1) c) (num x) o) where
          top_alike : Alike w.base (there w.base w.among).0
          top_alike = now_alike lost k_ w.base (there w.base w.among).0 (there w.base w.among).2

          here_alike : Alike h (there h i).0
          here_alike = now_alike lost k_ h (there h i).0 (there h i).2

          behind : BehindIn xs (Inside xs w.base) (num h) o
          behind = go o (after (there w.base w.among).0 (there h i).0 (there w.base w.among).1 (there h i).1 (sym top_alike.place ∙ w.here) (sym here_alike.place ∙ at))
            where
              on : (x y : Cell) → num x ≡ num y → Inside xs w.base x → Inside (cells m1) (there w.base w.among).0 y
              on x y e k = inside_on lost k_ xs (cells m1) s0.rising then.shape.rising nest0 s0.up then.shape.up then.rows w.base x (there w.base w.among).0 y top_alike.serial e k

              go : (o : Option ℕ) → BehindIn (cells m1) (Inside (cells m1) (there w.base w.among).0) (num (there h i).0) o → BehindIn xs (Inside xs w.base) (num h) o
              go None b = λ x j k l.
                  let y = there x j in
                  let e = (now_alike lost k_ x y.0 y.2).serial in
                  let f = here_alike.serial in
                  b y.0 y.1 (on x y.0 e k) (omega arith)
              go (Some q) b =
                  let z = row_was s m0 s0 nest0 off others w.base m1 (num h) (suc (num h)) lost then b.0 b.1 in
                  let f = here_alike.serial in
                  let g = z.2.serial in
                  let v = b.4 in (
                    z.0,
                    z.1,
                    z.2.place ∙ b.2,
                    inside_back lost k_ xs (cells m1) s0.rising then.shape.rising nest0 s0.up then.shape.up then.rows w.base z.0 (there w.base w.among).0 b.0 top_alike.serial z.2.serial b.3,
                    omega arith,
                    λ x j k l.
                        let y = there x j in
                        let e = (now_alike lost k_ x y.0 y.2).serial in
                        let u = b.5 y.0 y.1 (on x y.0 e k) (omega arith) in
                        omega arith,
                  )

          pub turned_less : high_at (cells m0) o < high_at (cells m0) (Some p)
          turned_less = high_less m0 s0 (Inside xs w.base) h i p at o behind

          pub turned_next : (q : ℕ) → o ≡ Some q → IsSome (get m1 q)
          turned_next q e = next o behind e
            where
              next : (o : Option ℕ) → BehindIn xs (Inside xs w.base) (num h) o → o ≡ Some q → IsSome (get m1 q)
              next None b e = absurd (cc)
              next (Some z) b e = let f : z ≡ q = cc in used_then b.0 b.1 q (b.2 ∙ f)

        -- ---- what is told at the row

        module _ (up : ℕ) (tells_up : AtPlace xs p (TellsParent up)) (kept : Bool) (has : kept ≡ set.contains r.roles off.role.0) (before' now' : Option ℕ) (b_is : before' ≡ span_on before r.serial up kept) (n_is : now' ≡ span_on now r.serial up (kept && (r' == 0))) where
          up_is : TellsParent up h
          up_is = tells_up h i at

          none_is : not (r' == 1) ≡ (r' == 0)
          none_is = elim (cases_eq r' 1) [
            | inl e ↦ ap (λ (z : ℕ). not (z == 1)) e ∙ sym (ap (λ (z : ℕ). z == 0) e)
            | inr e ↦ (let z : r' ≡ 0 = omega arith in ap (λ (z : ℕ). not (z == 1)) z ∙ sym (ap (λ (z : ℕ). z == 0) z))
          ]

          keeps_here : keeps_now lost k_ h ≡ (kept && (r' == 0))
          keeps_here = (λ t. sym (has ∙ row_has) t && not (lose_here h (r' == 1) w.lost h_not t)) ∙ ap (λ b. kept && b) none_is

          had : SpanAt xs (has_role k_) w.base h before'
          had = subst (λ (o : Option ℕ). SpanAt xs (has_role k_) w.base h o) (sym (b_is ∙ (λ t. span_on before (row_serial t) up ((has ∙ row_has) t)))) (w.walk.6 (has_role k_) (λ a j l. refl) up up_is)

          has_it : SpanAt xs (keeps_now lost k_) w.base h now'
          has_it = subst (λ (o : Option ℕ). SpanAt xs (keeps_now lost k_) w.base h o) (sym (n_is ∙ (λ t. span_on now (row_serial t) up (sym keeps_here t))))
              (w.walk.7 (keeps_now lost k_) (λ a j l. ap (λ b. set.contains a.row.roles k_ && not b) (lose_other (num h) (r' == 1) w.lost a (λ e. omega arith))) up up_is)

          abbrev gone_here : Bool
          gone_here = is_some before' && is_none now'

          went_here : ((is_some before' && is_none now') ≡ true) ↔ Went xs off.role.0 (lose_at (num h) (r' == 1) w.lost) h
          went_here = (
            (λ e.
                let q = and_parts (is_some before') (is_none now') e in
                (a.0 q.0, λ k. true≢false (sym (b.1 (k.0, k.1, k.2, and_from _ _ k.3 (ap not (k.4 refl)))) ∙ not-true (is_some now') (sym (none_some now') ∙ q.1)))),
            (λ k. and_from (is_some before') (is_none now') (a.1 k.0) (none_some now' ∙ ap not (false_from_ne_true (is_some now') (λ e.
                let z = b.0 e in
                let q = and_parts (set.contains z.0.row.roles k_) (not (lost z.0)) z.3 in
                k.1 (z.0, z.1, z.2, q.0, λ _. not-true (lost z.0) q.1))))),
          )
            where
              a : (is_some before' ≡ true) ↔ Has xs off.role.0 h
              a = span_tells xs s0.rising (has_role k_) w.base h before' had

              b : (is_some now' ≡ true) ↔ ((z : Cell) × In z xs × Within xs z h × (keeps_now (lose_at (num h) (r' == 1) w.lost) off.role.0 z ≡ true))
              b = span_tells xs s0.rising (keeps_now lost k_) w.base h now' has_it

          abbrev went : Cell → Bool
          went = lose_at (num h) gone_here w.went

          not_went : w.went h ≡ false
          not_went = false_from_ne_true (w.went h) (λ e. let b = w.gone h e in let f = w.walk.4 in omega arith)

          gone_then : (d : Cell) → lose_at (num h) (is_some before' && is_none now') w.went d ≡ true → num d < suc (num h)
          gone_then d e = elim (cases_eq (num d) (num h)) [
            | inl f ↦ omega arith
            | inr f ↦ (let b = w.gone d (sym (lose_other (num h) gone_here w.went d f) ∙ e) in let g = w.walk.4 in omega arith)
          ]

          told_then : (d : Cell) → In d xs → num d < suc (num h) → (lose_at (num h) (is_some before' && is_none now') w.went d ≡ true) ↔ Went xs off.role.0 (lose_at (num h) (r' == 1) w.lost) d
          told_then d j l = elim (cases_eq (num d) (num h)) [
            | inl f ↦ (
                let is : d ≡ h = rising_same xs s0.rising d h j i f in
                subst (λ (z : Cell). (lose_at (num h) gone_here w.went z ≡ true) ↔ Went xs off.role.0 lost z) (sym is)
                ((λ e. went_here.0 (sym (lose_here h gone_here w.went not_went) ∙ e)), (λ k. lose_here h gone_here w.went not_went ∙ went_here.1 k)))
            | inr f ↦ (
                let t = w.told d j (let g = w.walk.4 in omega arith) in
                let e = lose_other (num h) gone_here w.went d f in (
                  (λ q. let v = t.0 (sym e ∙ q) in (v.0, λ k. v.1 (still_as xs k_ lost w.lost d (as_before d (omega arith)) k))),
                  (λ v. e ∙ t.1 (v.0, λ k. v.1 (still_as xs k_ w.lost lost d (λ a u x. sym (as_before d (omega arith) a u x)) k))),
                ))
          ]

          module _ (n' : ℕ) (counted : n' ≡ cond (is_some before' && is_none now') (n + 1) n) where
            taken_then : n' ≡ length (filter (lose_at (num h) (is_some before' && is_none now') w.went) xs)
            taken_then = counted ∙ go gone_here
              where
                go : (b : Bool) → cond b (n + 1) n ≡ length (filter (lose_at (num h) b w.went) xs)
                go true = ap (λ z. z + 1) w.taken ∙ sym (one_more w.went h not_went xs s0.rising i)
                go false = w.taken

            pub turned_few : n' ≤ length (cells m0)
            turned_few = let a = taken_then in let b = filter_few (lose_at (num h) (is_some before' && is_none now') w.went) xs in omega arith

            -- then that row is at hand
            module _ (o : Option ℕ) (after : (c x : Cell) → In c (cells m1) → In x (cells m1) → c.place ≡ place → x.place ≡ p → BehindIn (cells m1) (Inside (cells m1) c) (num x) o) where
              low_then : num w.base ≤ num h
              low_then = within_low xs w.base h within

              module _ (m2 : Store) where
                -- at the row g behind it
                module _ (q : ℕ) (b : BehindIn xs (Inside xs w.base) (num h) (Some q)) where
                  abbrev g : Cell
                  g = b.0

                  just : (x : Cell) → In x xs → num h < num x → num g ≤ num x
                  just x j l = none_between s m0 s0 nest0 off others w.base m1 lost (num h) then low_then g b.1 b.3 b.4 b.5 x j l

                  ready : (keeps : Cell → Bool) (z : Option ℕ) → SpanAt xs keeps w.base h z → SpanReady xs keeps w.base g z
                  ready keeps z sp test same up says = subst (λ u. SpanAt xs test w.base g (span_on z (num g) u (test g))) (sym (says (λ v. let l = b.3.behind in omega arith))) (span_next xs s0.rising test w.base h g i b.1 b.4 just b.3 z (span_same xs s0.rising keeps w.base test h (λ a j x. same a j (let y = within_low xs a h x in let v = b.4 in omega arith)) z sp))

                  next_row : CoveredAnew s m1 m2 (Some q) → Recounts s m0 m2 off others place (Some q) before' now' n'
                  next_row cov = record {
                    base = w.base;
                    among = w.among;
                    here = w.here;
                    seen = num g;
                    edge = num g;
                    lost = lost;
                    went = went;
                    counting = recovers s m0 s0 nest0 off others w.base m1 lost (num h) then low_then g b.1 b.3 b.4 b.5 m2 (cov (there g b.1).0 (there g b.1).1 (sym (now_alike lost k_ g (there g b.1).0 (there g b.1).2).place ∙ b.2));
                    top = (let v = b.4 in let y = low_then in omega arith);
                    gone = λ d e. let v = b.4 in let y = gone_then d e in omega arith;
                    told = λ d j l. told_then d j (elim (cases_lt (num h) (num d)) [ inl v ↦ (let y = just d j v in absurd (omega arith)) | inr v ↦ omega arith ]);
                    taken = taken_then;
                    walk = (g, b.1, b.2, refl, refl, inr b.3, ready (has_role k_) before' had, ready (keeps_now lost k_) now' has_it);
                  }

                -- or at the end
                last_row : BehindIn xs (Inside xs w.base) (num h) None → CoveredAnew s m1 m2 None → Recounts s m0 m2 off others place None before' now' n'
                last_row b cov = subst (λ (z : Store). Recounts s m0 z off others place None before' now' n') (sym cov) (record {
                  base = w.base;
                  among = w.among;
                  here = w.here;
                  seen = num h;
                  edge = suc (num h);
                  lost = lost;
                  went = went;
                  counting = then;
                  top = low_then;
                  gone = gone_then;
                  told = told_then;
                  taken = taken_then;
                  walk = ((λ x j k. elim (cases_lt (num h) (num x)) [ inl l ↦ absurd (b x j k l) | inr l ↦ l ]), omega arith);
                })

                pub turned_on : CoveredAnew s m1 m2 o → Recounts s m0 m2 off others place o before' now' n'
                turned_on cov = go o (behind o after) cov
                  where
                    go : (o : Option ℕ) → BehindIn xs (Inside xs w.base) (num h) o → CoveredAnew s m1 m2 o → Recounts s m0 m2 off others place o before' now' n'
                    go None b c = last_row b c
                    go (Some q) b c = next_row q b c

  -- ---- at the end

  module _ (spread : is_spread_in s off.role.0 ≡ true) (m : Store) (before now : Option ℕ) (n : ℕ) (w : Recounts s m0 m off others place None before now n) where
    abbrev f : Cell → Cell
    f = spread_cell (is_spread_in s) (seen_rows s (cells m0))

    went_all : (d : Cell) → In d xs → w.went d ≡ is_lost k_ (seen_rows s (cells m)) (f d)
    went_all d j = same_bools (w.went d) (is_lost k_ (seen_rows s (cells m)) (f d)) to from
      where
        seen_then : is_lost k_ (seen_rows s (cells m)) (f d) ≡ is_lost k_ (seen_rows s (taken_by w.lost off.role.0 (cells m0))) (f d)
        seen_then = ap (λ (zs : List Cell). is_lost k_ zs (f d)) (now_seen s m0 s0 nest0 off others w.base m w.seen w.edge w.lost w.counting)

        law : (is_lost k_ (seen_rows s (taken_by w.lost off.role.0 (cells m0))) (f d) ≡ true) ↔ Went xs off.role.0 w.lost d
        law = went_lost s xs s0.rising nest0 s0.up k_ spread w.lost d j

        to : w.went d ≡ true → is_lost k_ (seen_rows s (cells m)) (f d) ≡ true
        to e = seen_then ∙ law.1 ((w.told d j (w.gone d e)).0 e)

        -- outside the base's subtree no role is lost
        outside : (Within xs w.base d → ⊥) → Went xs off.role.0 w.lost d → ⊥
        outside no_ v = v.1 (v.0.0, v.0.1, v.0.2, v.0.3, λ _. false_from_ne_true (w.lost v.0.0) (λ e. no_ (below v.0.0 v.0.2 (w.counting.inner v.0.0 v.0.1 e))))
          where
            below : (a : Cell) → Within xs a d → Within xs w.base a → Within xs w.base d
            below a (inl q) u = subst (λ (z : Cell). Within xs w.base z) q u
            below a (inr k) u = inr (within_trans xs s0.rising nest0 s0.up w.base a d u k)

        from : is_lost k_ (seen_rows s (cells m)) (f d) ≡ true → w.went d ≡ true
        from e =
            let v = law.0 (sym seen_then ∙ e) in
            elim (before_or s m0 s0 nest0 off others w.base m w.seen w.edge w.lost w.counting w.walk.0 w.top w.walk.1 d j) [
              | inl l ↦ (w.told d j l).1 v
              | inr no_ ↦ absurd (outside no_ v)
            ]

    -- the rows outside the base's subtree stay as they were
    pub recounts_outside : (a d : Cell) → In a (cells m) → a.place ≡ place → In d (cells m) → (Within (cells m) a d → ⊥) → In d (cells m0)
    recounts_outside a d j e k no_ = w.counting.outside d k (λ f. no_ (inl (rising_same (cells m) w.counting.shape.rising a d j k (sym is ∙ sym f)))) (λ q. no_ (inr (inside_on w.lost k_ xs (cells m) s0.rising w.counting.shape.rising nest0 s0.up w.counting.shape.up w.counting.rows w.base d a d is refl q)))
      where
        top : (y : Cell) × In y (cells m) × Now w.lost off.role.0 w.base y
        top = row_is s m0 s0 nest0 off others w.base m w.seen w.edge w.lost w.counting w.base w.among

        is : num w.base ≡ num a
        is = (now_alike w.lost k_ w.base top.0 top.2).serial ∙ ap num (w.counting.shape.apart top.0 a top.1 j (sym (now_alike w.lost k_ w.base top.0 top.2).place ∙ (w.here ∙ sym e)))

    pub recounts_few : n ≤ length (cells m0)
    recounts_few = let a = w.taken in let b = filter_few w.went xs in omega arith

    pub recounts_end : (T : Tree) (c : Cell) (loses : Cell → Bool) → TreeOf (cells m0) T → In c (cells m0) → c.place ≡ place → LosesBy (cells m0) T off others c loses → Recounted s m0 m loses off.role.0 n
    recounts_end T c loses tree i e by = record {
      shape = w.counting.shape;
      rows = rows_all s m0 s0 nest0 off others w.base m w.seen w.edge w.lost w.counting w.walk.0 w.top w.walk.1 T loses tree (subst (λ (z : Cell). LosesBy (cells m0) T off others z loses) (s0.apart c w.base i w.among (e ∙ sym w.here)) by);
      covers = covers_all s m0 s0 nest0 off others w.base m w.seen w.edge w.lost w.counting w.walk.0 w.top w.walk.1;
      taken =
          w.taken
          ∙ (ap length (filter_same w.went (λ d. is_lost k_ (seen_rows s (cells m)) (f d)) xs went_all)
          ∙ (sym (count_map (is_lost k_ (seen_rows s (cells m))) f xs)
          ∙ ap (λ (zs : List Cell). length (filter (is_lost k_ (seen_rows s (cells m))) zs)) (sym (seen_is s xs (upward xs s0.rising s0.up)))));
    }
