-- What a statement reaches over rows, told by the walks up.
use Rattle.std.proofs.Common.{◌≡◌, ℕ, ◌<◌, Bool, true, false, cond, ◌&&◌, List, [], ◌∷◌, ◌++◌, refl, sym, ◌∙◌, ap, subst, inl, inr, arith, get_or, Some}
use Rattle.std.specs.List.{filter}
use Rattle.std.specs.Prelude.{◌↔◌}
use Rattle.std.proofs.lemmas.Bool.{and_parts, and_from, false≢true, eqb-true, eq-eqb, cases_Bool, false_from_ne_true}
use Rattle.gcx_base.specs.declared.steps.Step.{Step}
use Rattle.gcx_model.specs.Tree.{Tree, Node, serial_of, above, within}
use Rattle.gcx_model.specs.Paths.{any, hits, reach, first, head, matches}
use Rattle.gcx_model.specs.Core.{RoleTarget, Own, First, Whole}
use Rattle.gcx_model.specs.Held.{is_node, gives}
use Rattle.gcx_model.specs.Nodes.{Rising}
use Rattle.base_laws.proofs.Bools.{same_bools}
use Rattle.base_laws.proofs.Members.{head_in}
use Rattle.tree_laws.proofs.Lists.{In, any_in, any_from, In-filter, In-kept}
use Rattle.past_laws.proofs.Bases.{node_is}
use Rattle.tree_laws.proofs.Freeze.{within_above, hits_within}
use Rattle.tree_laws.proofs.Chains.{above_trans}
use Rattle.buf_tree.specs.Shape.{Store, Cell, cells, Shaped}
use Rattle.buf_tree.specs.Ways.{Tells, Descends, is_same, leads, TreeOf, NoneBefore, Flags, tail_ends, tail_steps, ends_at}
use Rattle.buf_tree.proofs.Ways.{chain_within, leads_none}
use Rattle.buf_tree.proofs.Climbing.{within_some, tells_serial, tells_descends, tells_above, tells_same, leads_same}
use Rattle.buf_tree.proofs.Shaping.{rising_same}

-- ---- paths in two parts

hits_join : (n : ℕ) (p q : List Step) (j m : Node) → In j (above m) → hits n p j ≡ true → hits (serial_of j) q m ≡ true → hits n (p ++ q) m ≡ true
hits_join n [] q j m i a b = subst (λ k. hits k q m ≡ true) (eqb-true _ _ a) b
hits_join n (s ∷ rest) q j m i a b =
    let x = any_in (λ (y : Node). reach n s y && hits (serial_of y) rest j) (above j) a in
    let z = and_parts (reach n s x.0) (hits (serial_of x.0) rest j) x.2 in
    any_from (λ (y : Node). reach n s y && hits (serial_of y) (rest ++ q) m) x.0 (above m) (above_trans x.0 j m x.1 i) (and_from (reach n s x.0) _ z.0 (hits_join (serial_of x.0) rest q j m i z.1 b))

hits_split : (n : ℕ) (p q : List Step) (m : Node) → Descends m → hits n (p ++ q) m ≡ true → (j : Node) × In j (above m) × (hits n p j ≡ true) × (hits (serial_of j) q m ≡ true)
hits_split n [] q m d a =
    let j = within_some n m (hits_within n q m a) in
    (j.0, j.1, eq-eqb _ _ j.2, subst (λ k. hits k q m ≡ true) (sym j.2) a)
hits_split n (s ∷ rest) q m d a =
    let x = any_in (λ (y : Node). reach n s y && hits (serial_of y) (rest ++ q) m) (above m) a in
    let z = and_parts (reach n s x.0) (hits (serial_of x.0) (rest ++ q) m) x.2 in
    let r = hits_split (serial_of x.0) rest q m d z.1 in
    (r.0, r.1, any_from (λ (y : Node). reach n s y && hits (serial_of y) rest r.0) x.0 (above r.0) (chain_within m x.0 r.0 d x.1 r.1 (hits_within (serial_of x.0) rest r.0 r.2)) (and_from (reach n s x.0) _ z.0 r.2), r.3)

-- ---- the first of the matches

pub first_from : (p : Node → Bool) (xs : List Node) (n : Node) → Rising xs → In n xs → p n ≡ true → ((j : Node) → In j xs → serial_of j < serial_of n → p j ≡ false) → head (filter p xs) ≡ Some n
first_from p [] n r i h none = absurd i
first_from p (x ∷ xs) n r (inl e) h none = ap (λ b. head (cond b (x ∷ filter p xs) (filter p xs))) (ap p e ∙ h) ∙ ap Some e
first_from p (x ∷ xs) n r (inr i) h none = ap (λ b. head (cond b (x ∷ filter p xs) (filter p xs))) (none x (inl refl) (r.0 n i)) ∙ first_from p xs n r.1 i h (λ j k l. none j (inr k) l)

pub first_none : (p : Node → Bool) (xs : List Node) (n : Node) → Rising xs → head (filter p xs) ≡ Some n → (j : Node) → In j xs → serial_of j < serial_of n → p j ≡ false
first_none p [] n r e j i l = absurd i
first_none p (x ∷ xs) n r e j i l = go (p x) refl e i (λ g k. first_none p xs n r.1 g j k l)
  where
    go : (b : Bool) → p x ≡ b → head (cond b (x ∷ filter p xs) (filter p xs)) ≡ Some n → In j (x ∷ xs) → (head (filter p xs) ≡ Some n → In j xs → p j ≡ false) → p j ≡ false
    go true f g (inl k) on = let z : x ≡ n = cc in let a = ap serial_of z in let c = ap serial_of k in absurd (omega arith)
    go true f g (inr k) on = let z : x ≡ n = cc in let a = ap serial_of z in let c = r.0 j k in absurd (omega arith)
    go false f g (inl k) on = sym (ap p k) ∙ f
    go false f g (inr k) on = on g k

module _ (m : Store) (s : Shaped m) (T : Tree) (tree : TreeOf (cells m) T) where
  pub tree_above : (n j : Node) → In n T.nodes → In j (above n) → In j T.nodes
  tree_above n j i k =
      let r = tree.row n i in
      let u = r.1 in
      let d = tells_above (cells m) s.rising u.cell n j u.among u.tells k in
      tree.told d.0.place j (record { cell = d.0; among = d.1; place = refl; tells = d.2 })

  pub tree_same : (a b : Node) → In a T.nodes → In b T.nodes → serial_of a ≡ serial_of b → a ≡ b
  tree_same a b i j e =
      let u = (tree.row a i).1 in
      let v = (tree.row b j).1 in
      let same : v.cell ≡ u.cell = rising_same (cells m) s.rising v.cell u.cell v.among u.among (tells_serial (cells m) v.cell b v.tells ∙ sym e ∙ sym (tells_serial (cells m) u.cell a u.tells)) in
      tells_same (cells m) s.rising u.cell a b u.tells (subst (λ (c : Cell). Tells (cells m) c b) same v.tells)

  pub tree_within : (a n : Node) → In a T.nodes → In n T.nodes → within (serial_of a) n ≡ true → In a (above n)
  tree_within a n i j w =
      let x = within_some (serial_of a) n w in
      subst (λ (z : Node). In z (above n)) (tree_same x.0 a (tree_above n x.0 j x.1) i x.2) x.1

  pub tree_descends : (n : Node) → In n T.nodes → Descends n
  tree_descends n i = let u = (tree.row n i).1 in tells_descends (cells m) u.cell n u.tells

  first_is : (a n : Node) (tail : List Step) → In a T.nodes → In n T.nodes → is_node (serial_of n) (first T (serial_of a) tail) ≡ true → first T (serial_of a) tail ≡ Some n
  first_is a n tail i j h =
      let x = node_is (serial_of n) (first T (serial_of a) tail) h in
      let k = In-filter (hits (serial_of a) tail) x.0 T.nodes (head_in (matches T (serial_of a) tail) x.0 x.1) in
      x.1 ∙ ap Some (tree_same x.0 n k.0 j x.2)

  -- n is the first match where it is one and none is before it
  pub first_rows : (a n : Node) (tail : List Step) → In a T.nodes → In n T.nodes → (f : Bool) → ((f ≡ true) ↔ NoneBefore (cells m) a n tail) → (hits (serial_of a) tail n && f) ≡ is_node (serial_of n) (first T (serial_of a) tail)
  first_rows a n tail i j f e = same_bools _ _ to from
    where
      to : (hits (serial_of a) tail n && f) ≡ true → is_node (serial_of n) (first T (serial_of a) tail) ≡ true
      to h =
          let p = and_parts (hits (serial_of a) tail n) f h in
          let none = e.0 p.1 in
          let is : first T (serial_of a) tail ≡ Some n = first_from (hits (serial_of a) tail) T.nodes n tree.rising j p.0 (λ x k l. elim (cases_Bool (hits (serial_of a) tail x)) [
            | inl y ↦ (let r = tree.row x k in none r.0 x r.1 (tree_within a x i k (hits_within (serial_of a) tail x y)) l)
            | inr y ↦ y
          ]) in
          ap (is_node (serial_of n)) is ∙ eq-eqb _ _ refl

      from : is_node (serial_of n) (first T (serial_of a) tail) ≡ true → (hits (serial_of a) tail n && f) ≡ true
      from h =
          let is = first_is a n tail i j h in
          let k = In-filter (hits (serial_of a) tail) n T.nodes (head_in (matches T (serial_of a) tail) n is) in
          and_from (hits (serial_of a) tail n) f k.1 (e.1 (λ p x u w l. first_none (hits (serial_of a) tail) T.nodes n tree.rising is x (tree.told p x u) l))

  -- a statement reaches n where the steps from its base lead to a node from which the tail leads to n
  pub gives_leads : (b n : Node) (rel tail : List Step) (k : RoleTarget) → In b T.nodes → In n T.nodes → gives T (serial_of b) rel tail k n ≡ leads (ends_at T k tail n) (serial_of b) rel n
  gives_leads b n rel tail Own i j = sym (leads_same (serial_of b) rel n (tree_descends n j))
  gives_leads b n rel tail First i j = same_bools _ _ to from
    where
      to : any (λ (x : Node). is_node (serial_of n) (first T (serial_of x) tail)) (matches T (serial_of b) rel) ≡ true → leads (ends_at T First tail n) (serial_of b) rel n ≡ true
      to h =
          let x = any_in (λ (x : Node). is_node (serial_of n) (first T (serial_of x) tail)) (matches T (serial_of b) rel) h in
          let p = In-filter (hits (serial_of b) rel) x.0 T.nodes x.1 in
          let is = first_is x.0 n tail p.0 j x.2 in
          let q = In-filter (hits (serial_of x.0) tail) n T.nodes (head_in (matches T (serial_of x.0) tail) n is) in
          any_from (λ (y : Node). ends_at T First tail n y && hits (serial_of b) rel y) x.0 (above n) (tree_within x.0 n p.0 j (hits_within (serial_of x.0) tail n q.1)) (and_from (ends_at T First tail n x.0) _ x.2 p.1)

      from : leads (ends_at T First tail n) (serial_of b) rel n ≡ true → any (λ (x : Node). is_node (serial_of n) (first T (serial_of x) tail)) (matches T (serial_of b) rel) ≡ true
      from h =
          let x = any_in (λ (y : Node). ends_at T First tail n y && hits (serial_of b) rel y) (above n) h in
          let p = and_parts (ends_at T First tail n x.0) (hits (serial_of b) rel x.0) x.2 in
          any_from (λ (x : Node). is_node (serial_of n) (first T (serial_of x) tail)) x.0 (matches T (serial_of b) rel) (In-kept (hits (serial_of b) rel) x.0 T.nodes (tree_above n x.0 j x.1) p.1) p.0
  gives_leads b n rel tail Whole i j = same_bools _ _ to from
    where
      d : Descends n
      d = tree_descends n j

      to : any (hits (serial_of b) (rel ++ tail)) (above n) ≡ true → leads (ends_at T Whole tail n) (serial_of b) rel n ≡ true
      to h =
          let x = any_in (hits (serial_of b) (rel ++ tail)) (above n) h in
          let y = hits_split (serial_of b) rel tail x.0 (tree_descends x.0 (tree_above n x.0 j x.1)) x.2 in
          any_from (λ (z : Node). ends_at T Whole tail n z && hits (serial_of b) rel z) y.0 (above n) (above_trans y.0 x.0 n y.1 x.1) (and_from (ends_at T Whole tail n y.0) _ (any_from (hits (serial_of y.0) tail) x.0 (above n) x.1 y.3) y.2)

      from : leads (ends_at T Whole tail n) (serial_of b) rel n ≡ true → any (hits (serial_of b) (rel ++ tail)) (above n) ≡ true
      from h =
          let x = any_in (λ (z : Node). ends_at T Whole tail n z && hits (serial_of b) rel z) (above n) h in
          let p = and_parts (ends_at T Whole tail n x.0) (hits (serial_of b) rel x.0) x.2 in
          let y = any_in (hits (serial_of x.0) tail) (above n) p.0 in
          any_from (hits (serial_of b) (rel ++ tail)) y.0 (above n) y.1 (hits_join (serial_of b) rel tail x.0 y.0 (chain_within n x.0 y.0 d x.1 y.1 (hits_within (serial_of x.0) tail y.0 y.2)) p.1 y.2)

  -- and the base is above the node
  pub gives_above : (b n : Node) (rel tail : List Step) (k : RoleTarget) → In b T.nodes → In n T.nodes → gives T (serial_of b) rel tail k n ≡ true → In b (above n)
  gives_above b n rel tail k i j h =
      let x = any_in (λ (z : Node). ends_at T k tail n z && hits (serial_of b) rel z) (above n) (sym (gives_leads b n rel tail k i j) ∙ h) in
      let p = and_parts (ends_at T k tail n x.0) (hits (serial_of b) rel x.0) x.2 in
      tree_within b n i j (within_above (serial_of b) x.0 n x.1 (hits_within (serial_of b) rel x.0 p.1))

  first_hits : (a n : Node) (tail : List Step) → In a T.nodes → In n T.nodes → is_node (serial_of n) (first T (serial_of a) tail) ≡ true → hits (serial_of a) tail n ≡ true
  first_hits a n tail i j h = (In-filter (hits (serial_of a) tail) n T.nodes (head_in (matches T (serial_of a) tail) n (first_is a n tail i j h))).1

  -- whether the tail leads to n, by the first of its flags
  module _ (a n : Node) (tail : List Step) (flags : List Bool) (i : In a T.nodes) (j : In n T.nodes) (up : In a (above n)) where
    own_flag : Flags (tail_ends Own n) (serial_of a) [] n flags → get_or flags 0 false ≡ is_same n a
    own_flag f = f.each 0 (omega arith) ∙ leads_none (is_same n) n (tree_descends n j) a up

    first_flag : Flags (tail_ends First n) (serial_of a) tail n flags → get_or flags 0 false ≡ hits (serial_of a) tail n
    first_flag f = f.each 0 (omega arith) ∙ leads_same (serial_of a) tail n (tree_descends n j)

    pub ends_not : (k : RoleTarget) → Flags (tail_ends k n) (serial_of a) (tail_steps k tail) n flags → get_or flags 0 false ≡ false → false ≡ ends_at T k tail n a
    ends_not Own f e = sym e ∙ own_flag f
    ends_not Whole f e = sym e ∙ f.each 0 (omega arith)
    ends_not First f e = sym (false_from_ne_true _ (λ h. false≢true (sym e ∙ first_flag f ∙ first_hits a n tail i j h)))

    pub ends_own : (k : RoleTarget) → k ≡ Own → Flags (tail_ends k n) (serial_of a) (tail_steps k tail) n flags → get_or flags 0 false ≡ true → true ≡ ends_at T k tail n a
    ends_own Own g f e = sym e ∙ own_flag f
    ends_own Whole g f e = absurd (cc)
    ends_own First g f e = absurd (cc)

    pub ends_whole : (k : RoleTarget) → k ≡ Whole → Flags (tail_ends k n) (serial_of a) (tail_steps k tail) n flags → get_or flags 0 false ≡ true → true ≡ ends_at T k tail n a
    ends_whole Whole g f e = sym e ∙ f.each 0 (omega arith)
    ends_whole Own g f e = absurd (cc)
    ends_whole First g f e = absurd (cc)

    pub ends_first : (k : RoleTarget) → k ≡ First → Flags (tail_ends k n) (serial_of a) (tail_steps k tail) n flags → get_or flags 0 false ≡ true → (b : Bool) → ((b ≡ true) ↔ NoneBefore (cells m) a n tail) → b ≡ ends_at T k tail n a
    ends_first First g f e b h = ap (λ z. z && b) (sym e ∙ first_flag f) ∙ first_rows a n tail i j b h
    ends_first Own g f e b h = absurd (cc)
    ends_first Whole g f e b h = absurd (cc)
