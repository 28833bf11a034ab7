-- The turns of a sweep.
use Rattle.std.proofs.Common.{◌≡◌, ◌==◌, ℕ, suc, ◌+◌, ◌<◌, ◌≤◌, Bool, true, cond, List, length, refl, sym, ◌∙◌, ap, subst, inl, inr, arith, Some, None, Option}
use Rattle.std.specs.Prelude.{◌↔◌, option_map, IsSome, MatchOption}
use Rattle.std.specs.FinMap.{get}
use Rattle.std.specs.FinSet as set
use Rattle.std.proofs.lemmas.Bool.{cases_lt}
use Rattle.gcx_model.specs.declared.item.Off.{Off}
use Rattle.gcx_model.specs.Tree.{Tree, Node}
use Rattle.base_laws.proofs.Lists.{filter_few}
use Rattle.tree_laws.proofs.Lists.{In}
use Rattle.node_store.specs.declared.store.Place.{Place}
use Rattle.node_store.specs.Rows.{StoreRow, changed_at, paid_by}
use Rattle.buf_tree.specs.Row.{Row}
use Rattle.buf_tree.specs.Rows.{untaken}
use Rattle.buf_tree.specs.Shape.{Store, Cell, num, cells, Shaped}
use Rattle.buf_tree.specs.Purge.{Tidy}
use Rattle.buf_tree.specs.Walk.{Nested, Inside, Within, BeforeIn, low_at}
use Rattle.buf_tree.specs.Ways.{NodeOf, TreeOf, IsKept}
use Rattle.buf_tree.specs.Sweep.{LosesBy, Shed, Swept}
use Rattle.buf_tree.proofs.Purging.{length_less, some_entry}
use Rattle.buf_tree.proofs.Seeking.{used_there, serial_at_place}
use Rattle.buf_tree.proofs.Upto.{Upto, Thinned, inside_thinned}
use Rattle.buf_tree.proofs.Taking.{some_member}
use Rattle.buf_tree.proofs.Sweeping.{Sweeping, LastBefore, now_thinned, now_nested, now_upto, sweep_start, withdrawn, still_there, as_many, shed, ended}

-- the row at the place is the last one behind c and before the edge, or there is none
abbrev pub Behind : List Cell → Cell → ℕ → Option ℕ → Type 0
Behind xs c edge at = BeforeIn xs (λ x. num c < num x) edge at

-- a sweep below the row at `place`, at the row at `at`: all from the edge on is done
pub record Sweeps (m0 m : Store) (off : Off) (others : Bool) (place : ℕ) (at : Option ℕ) (g0 g : List ℕ) (count : ℕ) : Type 0 where
  pub base : Cell
  pub among : In base (cells m0)
  pub here : base.place ≡ place
  pub edge : ℕ
  pub sweep : Sweeping m0 m off others base edge edge g0 g count
  pub top : num base < edge
  pub block : (x : Cell) → In x (cells m0) → num base < num x → num x < edge → Inside (cells m0) base x
  pub walk : Behind (cells m) base edge at

-- what holds behind `withdraw`, where m was before and m0 when the sweep began
pub record Turned (m0 m m' : Store) (p count : ℕ) : Type 0 where
  pub shape : Shaped m'
  pub nested : Nested (cells m')
  pub used : IsSome (get m' p)
  pub few : count ≤ length (cells m0)
  pub many : length (cells m') ≡ length (cells m)
  pub some : 0 < length (cells m')

-- a row went, or none
shed_count : (e : StoreRow Row) (m m' : Store) (p : ℕ) (g g' : List ℕ) (len0 len : ℕ) → Shaped m → get m p ≡ Some e → Shed e m m' p g g' len0 len → len + length (cells m') ≡ len0 + length (cells m)
shed_count e m m' p g g' len0 len s is (inl h) = let a = length_less m s p e is h.0 in let b = ap (λ (z : Store). length (cells z)) h.1 in let c = h.3 in omega arith
shed_count e m m' p g g' len0 len s is (inr h) = let b = ap (λ (z : Store). length (cells z)) h.1 in let c = h.3 in omega arith

module _ (m0 : Store) (s0 : Shaped m0) (nest0 : Nested (cells m0)) (off : Off) (others : Bool) (place : ℕ) (g0 : List ℕ) where
  pub sweeps_start : Tidy (cells m0) → (c : Cell) → In c (cells m0) → c.place ≡ place → (o : Option Place)
      → MatchOption o ((x : Cell) → In x (cells m0) → Inside (cells m0) c x → ⊥) (λ p. (t : Cell) × In t (cells m0) × (t.place ≡ p.0) × Inside (cells m0) c t × ((x : Cell) → In x (cells m0) → Inside (cells m0) c x → num x ≤ num t))
      → Sweeps m0 m0 off others place (option_map (λ (p : Place). p.0) o) g0 g0 0
  sweeps_start tidy c i e None h = record {
    base = c;
    among = i;
    here = e;
    edge = suc (num c);
    sweep = sweep_start m0 s0 nest0 off others c g0 (suc (num c)) tidy (λ x j b. elim b [ inl f ↦ (let y = ap num f in omega arith) | inr f ↦ absurd (h x j f) ]);
    top = omega arith;
    block = λ x j l b. absurd (omega arith);
    walk = λ x j l b. omega arith;
  }
  sweeps_start tidy c i e (Some p) h = record {
    base = c;
    among = i;
    here = e;
    edge = suc (num h.0);
    sweep = sweep_start m0 s0 nest0 off others c g0 (suc (num h.0)) tidy (λ x j b. elim b [ inl f ↦ (let y = ap num f in let z = h.3.behind in omega arith) | inr f ↦ (let z = h.4 x j f in omega arith) ]);
    top = (let z = h.3.behind in omega arith);
    block = λ x j l b. record { behind = l; block = λ y v a q. h.3.block y v a (omega arith) };
    walk = (h.0, h.1, h.2, h.3.behind, omega arith, λ x j l b. omega arith);
  }

  module _ (m : Store) (g : List ℕ) (n : ℕ) where
    pub sweeps_nested : (o : Option ℕ) → Sweeps m0 m off others place o g0 g n → Nested (cells m)
    sweeps_nested o s = now_nested m0 s0 nest0 off others s.base g0 m s.edge s.edge g n s.sweep

    upto : (o : Option ℕ) → (s : Sweeps m0 m off others place o g0 g n) → Upto num s.edge (cells m0) (cells m)
    upto o s = now_upto m0 s0 nest0 off others s.base g0 m s.edge s.edge g n s.sweep (omega arith)

    -- the row at which the role may be taken: the last one before the edge, at the base or below it
    record Turn (o : Option ℕ) (s : Sweeps m0 m off others place o g0 g n) (p : ℕ) : Type 0 where
      cell : Cell
      there : In cell (cells m)
      at : cell.place ≡ p
      last : LastBefore (cells m0) cell s.edge
      below : Within (cells m0) s.base cell

    turn_last : (s : Sweeps m0 m off others place None g0 g n) → Turn None s place
    turn_last s = record {
      cell = s.base;
      there = (upto None s).there s.base s.top s.among;
      at = s.here;
      last = (s.top, λ x i l. elim (cases_lt (num s.base) (num x)) [ inl b ↦ absurd (s.walk x ((upto None s).there x l i) b l) | inr b ↦ b ]);
      below = inl refl;
    }

    pub sweeps_used : (p : ℕ) → Sweeps m0 m off others place (Some p) g0 g n → IsSome (get m p)
    sweeps_used p s = used_there m s.sweep.shape s.walk.0 s.walk.1 p s.walk.2

    pub base_used : Sweeps m0 m off others place None g0 g n → IsSome (get m place)
    base_used s = let t = turn_last s in used_there m s.sweep.shape t.cell t.there place t.at

    -- behind `withdraw`
    module _ (p r : ℕ) (few : r ≤ 1) (m' : Store) (is : m' ≡ cond (r == 1) (changed_at (paid_by (untaken off.role.0)) p m) m)
        (tells : (T : Tree) (v : Node) (d : Cell) → TreeOf (cells m) T → NodeOf (cells m) p v → In d (cells m) → d.place ≡ p → (r ≡ 1) ↔ ((set.contains d.row.roles off.role.0 ≡ true) × (others ≡ true → IsKept (cells m) T off v → ⊥))) where
      module _ (o : Option ℕ) (s : Sweeps m0 m off others place o g0 g n) (t : Turn o s p) where
        then : Sweeping m0 m' off others s.base s.edge (num t.cell) g0 g (n + r)
        then = withdrawn m0 s0 nest0 off others s.base g0 m s.edge g n s.sweep t.cell t.there t.last t.below p r t.at few tells m' is

        then_row : (d : Cell) × In d (cells m') × (d.place ≡ p) × (num d ≡ num t.cell)
        then_row = still_there m0 s0 nest0 off others s.base g0 m s.edge g n s.sweep t.cell t.there t.last t.below p r t.at few tells m' is

        then_all : Turned m0 m m' p (n + r)
        then_all = record {
          shape = then.shape;
          nested = now_nested m0 s0 nest0 off others s.base g0 m' s.edge (num t.cell) g (n + r) then;
          used = used_there m' then.shape then_row.0 then_row.1 p then_row.2;
          few = (let a = then.taken in let b = filter_few then.lost (cells m0) in omega arith);
          many = as_many m0 s0 nest0 off others s.base g0 m s.edge g n s.sweep t.cell t.there t.last t.below p r t.at few tells m' is;
          some = some_member then_row.0 (cells m') then_row.1;
        }

      -- at a row below the base
      module _ (s : Sweeps m0 m off others place (Some p) g0 g n) where
        abbrev h : Cell
        h = s.walk.0

        abbrev t : Turn (Some p) s p
        t = record {
          cell = s.walk.0;
          there = s.walk.1;
          at = s.walk.2;
          last = (
            s.walk.4,
            λ x i l. elim (cases_lt (num s.base) (num x)) [
              | inl b ↦ s.walk.5 x ((upto (Some p) s).there x l i) b l
              | inr b ↦ (let a = s.walk.3 in omega arith)
            ],
          );
          below = inr (s.block s.walk.0 ((upto (Some p) s).back s.walk.0 s.walk.4 s.walk.1) s.walk.3 s.walk.4);
        }

        pub turned : Turned m0 m m' p (n + r)
        turned = then_all (Some p) s t

        i0 : In h (cells m0)
        i0 = (upto (Some p) s).back h s.walk.4 s.walk.1

        inner : Inside (cells m0) s.base h
        inner = s.block h i0 s.walk.3 s.walk.4

        row : (d : Cell) × In d (cells m') × (d.place ≡ p) × (num d ≡ num h)
        row = then_row (Some p) s t

        then_upto : Upto num (num h) (cells m0) (cells m')
        then_upto = let l = s.walk.4 in now_upto m0 s0 nest0 off others s.base g0 m' s.edge (num h) g (n + r) (then (Some p) s t) (omega arith)

        then_thinned : Thinned (cells m0) (cells m')
        then_thinned = now_thinned m0 s0 nest0 off others s.base g0 m' s.edge (num h) g (n + r) (then (Some p) s t)

        block : (x : Cell) → In x (cells m0) → num s.base < num x → num x < num h → Inside (cells m0) s.base x
        block x i l b = let a = s.walk.4 in s.block x i l (omega arith)

        -- then it may go, and the row before it is next
        module _ (m2 : Store) (g2 : List ℕ) (len0 len : ℕ) (sheds : (e : StoreRow Row) → get m' p ≡ Some e → Shed e m' m2 p g g2 len0 len) where
          entry : (e : StoreRow Row) × (get m' p ≡ Some e)
          entry = some_entry (get m' p) turned.used

          after : Sweeping m0 m2 off others s.base (num h) (num h) g0 g2 (n + r)
          after = shed m0 s0 nest0 off others s.base g0 m' s.edge g (n + r) h (then (Some p) s t) i0 t.last inner p row.0 row.1 row.2 row.3 entry.0 entry.1 m2 g2 len0 len (sheds entry.0 entry.1)

          after_upto : Upto num (num h) (cells m0) (cells m2)
          after_upto = now_upto m0 s0 nest0 off others s.base g0 m2 (num h) (num h) g2 (n + r) after (omega arith)

          -- a row of m2 is one of m', and lies below the base
          is_inside : (x : Cell) → In x (cells m2) → num s.base < num x → num x < num h → In x (cells m') × Inside (cells m') s.base x
          is_inside x i l b =
              let j = after_upto.back x b i in
              (then_upto.there x b j, inside_thinned (cells m0) (cells m') s0.rising then_thinned s.base x s.base x refl refl (block x j l b))

          next : (o : Option ℕ) → BeforeIn (cells m') (Inside (cells m') s.base) (num h) o → Behind (cells m2) s.base (num h) o
          next None b = λ x i l k. let y = is_inside x i l k in b x y.0 y.1 k
          next (Some q) b = (b.0, after_upto.there b.0 b.4 (then_upto.back b.0 b.4 b.1), b.2, b.3.behind, b.4, λ x i l k. let y = is_inside x i l k in b.5 x y.0 y.1 k)

          pub turn_count : len + length (cells m2) ≡ len0 + length (cells m)
          turn_count = let a = shed_count entry.0 m' m2 p g g2 len0 len turned.shape entry.1 (sheds entry.0 entry.1) in let b = turned.many in omega arith

          module _ (at : Option ℕ) (before : (c x : Cell) → In c (cells m') → In x (cells m') → c.place ≡ place → x.place ≡ p → Inside (cells m') c x → BeforeIn (cells m') (Inside (cells m') c) (num x) at) where
            walk : Behind (cells m2) s.base (num h) at
            walk = next at (subst (λ k. BeforeIn (cells m') (Inside (cells m') s.base) k at) row.3
                (before s.base row.0 (then_upto.there s.base inner.behind s.among) row.1 s.here row.2 (inside_thinned (cells m0) (cells m') s0.rising then_thinned s.base h s.base row.0 refl (sym row.3) inner)))

            pub turn_on : Sweeps m0 m2 off others place at g0 g2 (n + r)
            turn_on = record { base = s.base; among = s.among; here = s.here; edge = num h; sweep = after; top = inner.behind; block = block; walk = walk }

            pub turn_less : low_at (cells m2) at < low_at (cells m) (Some p)
            turn_less = go at walk
              where
                go : (o : Option ℕ) → Behind (cells m2) s.base (num h) o → low_at (cells m2) o < low_at (cells m) (Some p)
                go None b = omega arith
                go (Some q) b =
                    let x = serial_at_place m s.sweep.shape h s.walk.1 p s.walk.2 in
                    let y = serial_at_place m2 after.shape b.0 b.1 q b.2 in
                    let z = b.4 in
                    omega arith

    -- and at the base
    module _ (r : ℕ) (few : r ≤ 1) (m' : Store) (is : m' ≡ cond (r == 1) (changed_at (paid_by (untaken off.role.0)) place m) m)
        (tells : (T : Tree) (v : Node) (d : Cell) → TreeOf (cells m) T → NodeOf (cells m) place v → In d (cells m) → d.place ≡ place → (r ≡ 1) ↔ ((set.contains d.row.roles off.role.0 ≡ true) × (others ≡ true → IsKept (cells m) T off v → ⊥)))
        (s : Sweeps m0 m off others place None g0 g n) where
      pub turned_last : Turned m0 m m' place (n + r)
      turned_last = then_all place r few m' is tells None s (turn_last s)

      pub sweeps_end : (T : Tree) (c : Cell) (loses : Cell → Bool) → TreeOf (cells m0) T → In c (cells m0) → c.place ≡ place → LosesBy (cells m0) T off others c loses → Swept m0 m' place loses off.role.0 g0 g (n + r)
      unfolding turn_last
      sweeps_end T c loses tree i e by =
          let t = turn_last s in
          let row = then_row place r few m' is tells None s t in
          let same : c ≡ s.base = s0.apart c s.base i s.among (e ∙ sym s.here) in
          ended m0 s0 nest0 off others s.base g0 m' s.edge g (n + r) (then place r few m' is tells None s t) s.among t.last row.0 row.1 (row.2 ∙ sym s.here) row.3 place s.here T loses tree (subst (λ (z : Cell). LosesBy (cells m0) T off others z loses) same by)
