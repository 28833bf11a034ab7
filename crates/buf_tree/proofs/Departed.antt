-- What rows tell of the nodes that they stand for: in what order they are, and which of them are gone.
use Rattle.std.proofs.Common.{◌≡◌, ◌==◌, ◌||◌, ◌<◌, ℕ, Bool, true, false, not, cond, List, [], ◌∷◌, map, reverse, refl, sym, ◌∙◌, ap, arith}
use Rattle.std.specs.List.{filter, list_any}
use Rattle.std.proofs.lemmas.Bool.{true≢false, false≢true}
use Rattle.gcx_model.specs.Tree.{Node, serial_of}
use Rattle.gcx_model.specs.Held.{held, is_held, has_serial, departed}
use Rattle.gcx_model.specs.Nodes.{Rising as NodesRising}
use Rattle.gcx_model.specs.Past.{Past}
use Rattle.base_laws.proofs.Lists.{map_reverse}
use Rattle.past_laws.proofs.Bases.{is_grown}
use Rattle.tree_laws.proofs.Lists.{In}
use Rattle.tree_laws.proofs.Matches.{Rising-filter}
use Rattle.buf_tree.specs.Shape.{Cell, CellsRise, num}
use Rattle.buf_tree.specs.Calls.{left_out}
use Rattle.buf_tree.specs.Stands.{Seen, seen, told, StandsFor}
use Rattle.buf_tree.specs.View.{View}
use Rattle.buf_tree.proofs.Shaping.{rising_same}
use Rattle.buf_tree.proofs.Standing.{pair_left}

-- ---- their order

rising_rows : (past : Past) (xs : List Cell) (ns : List Node) → map seen xs ≡ map (told past) ns → NodesRising ns → CellsRise xs
rising_rows past [] ns e r = tt
rising_rows past (x ∷ xs) [] e r = absurd (cc)
rising_rows past (x ∷ xs) (n ∷ ns) e r = (above_top, rising_rows past xs ns rest r.1)
  where
    top : seen x ≡ told past n
    top = cc

    rest : map seen xs ≡ map (told past) ns
    rest = cc

    above_top : (c : Cell) → In c xs → num x < num c
    above_top c k =
        let q = pair_left seen (told past) xs ns rest c k in
        let l = r.0 q.0 q.1 in
        let e1 : num x ≡ serial_of n = ap (λ (z : Seen). z.serial) top in
        let e2 : num c ≡ serial_of q.0 = ap (λ (z : Seen). z.serial) q.2 in
        omega arith

-- they rise as their nodes do
pub rows_rise : (v : View) (past : Past) → StandsFor v past → CellsRise v.rows
rows_rise v past h = rising_rows past v.rows (held past.plan past.tree past.acts) h.rows (Rising-filter 0 (is_held past.plan past.tree past.acts) past.tree.nodes (is_grown past h.is_past).numbered)

-- so no two have one number
pub one_row : (v : View) (past : Past) → StandsFor v past → (a b : Cell) → In a v.rows → In b v.rows → num a ≡ num b → a ≡ b
one_row v past h a b i j s = rising_same v.rows (rows_rise v past h) a b i j s

-- ---- which are gone

-- a number is one of these
abbrev is_one : ℕ → List ℕ → Bool
is_one k ks = list_any (λ j. j == k) ks

rows_one : (xs : List Cell) (k : ℕ) → list_any (λ d. num d == k) xs ≡ is_one k (map num xs)
rows_one [] k = refl
rows_one (x ∷ xs) k = ap (λ b. (num x == k) || b) (rows_one xs k)

nodes_one : (ns : List Node) (k : ℕ) → has_serial ns k ≡ is_one k (map serial_of ns)
nodes_one [] k = refl
nodes_one (n ∷ ns) k = ap (λ b. (serial_of n == k) || b) (nodes_one ns k)

-- the numbers of what isn't among some
module _ {X : Type 0} (f : X → ℕ) (stays : X → Bool) (ks : List ℕ) (same : (x : X) → stays x ≡ is_one (f x) ks) where
  left : (xs : List X) → map f (filter (λ x. not (stays x)) xs) ≡ filter (λ k. not (is_one k ks)) (map f xs)
  left [] = refl
  left (x ∷ xs) = go (not (stays x)) (not (is_one (f x) ks)) (ap not (same x)) (left xs)
    where
      go : (a b : Bool) → a ≡ b → map f (filter (λ x. not (stays x)) xs) ≡ filter (λ k. not (is_one k ks)) (map f xs)
          → map f (cond a (x ∷ filter (λ x. not (stays x)) xs) (filter (λ x. not (stays x)) xs)) ≡ cond b (f x ∷ filter (λ k. not (is_one k ks)) (map f xs)) (filter (λ k. not (is_one k ks)) (map f xs))
      go true true e h = ap (λ (z : List ℕ). f x ∷ z) h
      go true false e h = absurd (true≢false e)
      go false true e h = absurd (false≢true e)
      go false false e h = h

  left_turned : (xs : List X) → map f (reverse (filter (λ x. not (stays x)) xs)) ≡ reverse (filter (λ k. not (is_one k ks)) (map f xs))
  left_turned xs = map_reverse f (filter (λ x. not (stays x)) xs) ∙ ap reverse (left xs)

numbers_same : (past : Past) (xs : List Cell) (ns : List Node) → map seen xs ≡ map (told past) ns → map num xs ≡ map serial_of ns
numbers_same past [] [] e = refl
numbers_same past [] (n ∷ ns) e = absurd (cc)
numbers_same past (x ∷ xs) [] e = absurd (cc)
numbers_same past (x ∷ xs) (n ∷ ns) e =
    let first : seen x ≡ told past n = cc in
    let more : map seen xs ≡ map (told past) ns = cc in
    ap (λ (z : ℕ). z ∷ map num xs) (ap (λ (z : Seen). z.serial) first) ∙ ap (λ (z : List ℕ). serial_of n ∷ z) (numbers_same past xs ns more)

-- the nodes have the number where a row has it
pub has_same : (past : Past) (xs : List Cell) (ns : List Node) (k : ℕ) → map seen xs ≡ map (told past) ns → has_serial ns k ≡ list_any (λ (d : Cell). num d == k) xs
has_same past xs ns k e = nodes_one ns k ∙ ap (is_one k) (sym (numbers_same past xs ns e)) ∙ sym (rows_one xs k)

pub departed_rows : (v w : View) (past next : Past) → StandsFor v past → StandsFor w next → left_out v.rows w.rows ≡ departed (held past.plan past.tree past.acts) (held next.plan next.tree next.acts)
departed_rows v w past next s t =
    let ns = held next.plan next.tree next.acts in
    let was = numbers_same past v.rows (held past.plan past.tree past.acts) s.rows in
    let now = numbers_same next w.rows ns t.rows in
    left_turned num (λ c. list_any (λ d. num d == num c) w.rows) (map num w.rows) (λ c. rows_one w.rows (num c)) v.rows
    ∙ (ap (λ (z : List ℕ). reverse (filter (λ k. not (is_one k (map num w.rows))) z)) was
    ∙ (ap (λ (z : List ℕ). reverse (filter (λ k. not (is_one k z)) (map serial_of (held past.plan past.tree past.acts)))) now
    ∙ sym (left_turned serial_of (λ n. has_serial ns (serial_of n)) (map serial_of ns) (λ n. nodes_one ns (serial_of n)) (held past.plan past.tree past.acts))))
