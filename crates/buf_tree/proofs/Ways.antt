-- Where steps lead to a node, told from one node above it to the next.
use Rattle.std.proofs.Common.{◌≡◌, ℕ, zero, suc, ◌+◌, ◌<◌, ◌≤◌, Bool, true, false, ◌&&◌, ◌||◌, List, [], ◌∷◌, ◌++◌, length, drop, refl, sym, ◌∙◌, ap, subst, inl, inr, ◌⊎◌, arith, eqb, get_or, set}
use Rattle.std.proofs.Math.ListN.{replicate}
use Rattle.std.proofs.lemmas.Bool.{or_cases, or_left, or_right, and_parts, and_from, false≢true, eqb-true, eq-eqb, cases_eq, false_from_ne_true}
use Rattle.std.proofs.Math.Seq.{drop-length}
use Rattle.std.proofs.lemmas.Grind.{get_or-set_at}
use Rattle.std.proofs.lemmas.List.{get_or-set_other, length-set, length-append, length-replicate}
use Rattle.gcx_base.specs.declared.kind.Kind.{Kind}
use Rattle.gcx_base.specs.declared.steps.Axis.{Axis}
use Rattle.gcx_base.specs.declared.steps.Axis.TheVariants.{Child, Descendant}
use Rattle.gcx_base.specs.declared.steps.Step.{Step}
use Rattle.gcx_model.specs.Tree.{Node, Root, Under, serial_of, kind_of, above, within}
use Rattle.gcx_base.specs.Tests.{passes}
use Rattle.gcx_model.specs.Paths.{hits, reach, lies}
use Rattle.base_laws.proofs.Bools.{same_bools}
use Rattle.tree_laws.proofs.Lists.{In, any_in, any_from}
use Rattle.tree_laws.proofs.Freeze.{within_self, within_above, hits_within}
use Rattle.tree_laws.proofs.Chains.{above_self, above_trans}
use Rattle.buf_tree.specs.Ways.{Descends, leads, Flags, FlagsBut, goes_on, flag_up}

-- ---- the nodes above one node

pub descends_above : (n j : Node) → Descends n → In j (above n) → Descends j
descends_above Root j d (inl e) = subst (λ (x : Node). Descends x) e d
descends_above Root j d (inr h) = absurd h
descends_above (Under p s k) j d (inl e) = subst (λ (x : Node). Descends x) e d
descends_above (Under p s k) j d (inr h) = descends_above p j d.1 h

pub above_low : (n j : Node) → Descends n → In j (above n) → serial_of j ≤ serial_of n
above_low Root j d (inl e) = let f = ap serial_of e in omega arith
above_low Root j d (inr h) = absurd h
above_low (Under p s k) j d (inl e) = let f = ap serial_of e in omega arith
above_low (Under p s k) j d (inr h) = let f = above_low p j d.1 h in let g = d.0 in omega arith

pub within_low : (n : Node) (a : ℕ) → Descends n → within a n ≡ true → a ≤ serial_of n
within_low Root a d h = let e = eqb-true 0 a h in omega arith
within_low (Under p s k) a d h = elim (or_cases (eqb s a) (within a p) h) [
  | inl e ↦ (let f = eqb-true s a e in omega arith)
  | inr w ↦ (let f = within_low p a d.1 w in let g = d.0 in omega arith)
]

pub chain_same : (n a b : Node) → Descends n → In a (above n) → In b (above n) → serial_of a ≡ serial_of b → a ≡ b
chain_same Root a b d (inl e) (inl f) h = sym e ∙ f
chain_same Root a b d (inl e) (inr j) h = absurd j
chain_same Root a b d (inr i) j h = absurd i
chain_same (Under p s k) a b d (inl e) (inl f) h = sym e ∙ f
chain_same (Under p s k) a b d (inl e) (inr j) h = let f = above_low p b d.1 j in let g = ap serial_of e in let l = d.0 in absurd (omega arith)
chain_same (Under p s k) a b d (inr i) (inl e) h = let f = above_low p a d.1 i in let g = ap serial_of e in let l = d.0 in absurd (omega arith)
chain_same (Under p s k) a b d (inr i) (inr j) h = chain_same p a b d.1 i j h

pub chain_within : (n a j : Node) → Descends n → In a (above n) → In j (above n) → within (serial_of a) j ≡ true → In a (above j)
chain_within Root a j d (inl e) (inl f) w = subst (λ (x : Node). In a (above x)) f (inl e)
chain_within Root a j d (inl e) (inr f) w = absurd f
chain_within Root a j d (inr i) f w = absurd i
chain_within (Under p s k) a j d i (inl f) w = subst (λ (x : Node). In a (above x)) f i
chain_within (Under p s k) a j d (inl e) (inr f) w =
    let l = within_low j (serial_of a) (descends_above p j d.1 f) w in
    let m = above_low p j d.1 f in
    let g = ap serial_of e in
    let q = d.0 in
    absurd (omega arith)
chain_within (Under p s k) a j d (inr i) (inr f) w = chain_within p a j d.1 i f w

below_up : (n p : Node) (s : ℕ) (k : Kind) → Descends n → In (Under p s k) (above n) → serial_of p < s
below_up n p s k d i = (descends_above n (Under p s k) d i).0

-- a step from p to a node above n is one to the child of p there, or leads below this child
step_on : (axis : Axis) (n p x : Node) (s : ℕ) (k : Kind) → Descends n → In (Under p s k) (above n) → In x (above n) → lies axis (serial_of p) x ≡ true → (x ≡ Under p s k) ⊎ ((axis ≡ Descendant) × (lies Descendant s x ≡ true))
step_on Child n p Root s k d i j l = absurd (false≢true l)
step_on Descendant n p Root s k d i j l = absurd (false≢true l)
step_on Child n p (Under q t v) s k d i j l = inl (only n d i j)
  where
    same : serial_of q ≡ serial_of p
    same = eqb-true _ _ l

    only : (n : Node) → Descends n → In (Under p s k) (above n) → In (Under q t v) (above n) → Under q t v ≡ Under p s k
    only Root d (inl e) j = absurd (root_not p s k e)
      where
        root_not : (p : Node) (s : ℕ) (k : Kind) → Root ≡ Under p s k → ⊥
        root_not p s k e = cc
    only Root d (inr e) j = absurd e
    only (Under r u w) d (inl e) (inl f) = sym f ∙ e
    only (Under r u w) d (inl e) (inr f) = let g : r ≡ p = cc in let a = above_low r (Under q t v) d.1 f in let b = below_up r q t v d.1 f in let h = ap serial_of g in let z = same in absurd (omega arith)
    only (Under r u w) d (inr e) (inl f) = let g : r ≡ q = cc in let a = above_low r (Under p s k) d.1 e in let b = below_up r p s k d.1 e in let h = ap serial_of g in let z = same in absurd (omega arith)
    only (Under r u w) d (inr e) (inr f) = only r d.1 e f
step_on Descendant n p (Under q t v) s k d i j l = go n d i j
  where
    go : (n : Node) → Descends n → In (Under p s k) (above n) → In (Under q t v) (above n) → (Under q t v ≡ Under p s k) ⊎ ((Descendant ≡ Descendant) × (within s q ≡ true))
    go Root d (inl e) j = absurd (root_not p s k e)
      where
        root_not : (p : Node) (s : ℕ) (k : Kind) → Root ≡ Under p s k → ⊥
        root_not p s k e = cc
    go Root d (inr e) j = absurd e
    go (Under r u w) d (inl e) (inl f) = inl (sym f ∙ e)
    go (Under r u w) d (inl e) (inr f) =
        let g : r ≡ p = cc in
        let a = above_low r (Under q t v) d.1 f in
        let b = below_up r q t v d.1 f in
        let h = ap serial_of g in
        let z = within_low q (serial_of p) (descends_above r (Under q t v) d.1 f).1 l in
        absurd (omega arith)
    go (Under r u w) d (inr e) (inl f) =
        let g : r ≡ q = cc in
        inr (refl, within_above s (Under p s k) q (subst (λ (x : Node). In (Under p s k) (above x)) g e) (within_self s (Under p s k) (eq-eqb s s refl)))
    go (Under r u w) d (inr e) (inr f) = go r d.1 e f

is_descendant : (axis : Axis) → goes_on axis ≡ true → axis ≡ Descendant
is_descendant Child e = absurd (false≢true e)
is_descendant Descendant e = refl

to_child : (axis : Axis) (p : Node) (s : ℕ) (k : Kind) → lies axis (serial_of p) (Under p s k) ≡ true
to_child Child p s k = eq-eqb _ _ refl
to_child Descendant p s k = within_self (serial_of p) p (eq-eqb _ _ refl)

-- below a child of p is below p
below_child : (n p x : Node) (s : ℕ) (k : Kind) → Descends n → In (Under p s k) (above n) → In x (above n) → lies Descendant s x ≡ true → lies Descendant (serial_of p) x ≡ true
below_child n p Root s k d i j l = absurd (false≢true l)
below_child n p (Under q t v) s k d i j l =
    let up : In q (above n) = above_trans q (Under q t v) n (inr (above_self q)) j in
    let a : In (Under p s k) (above q) = chain_within n (Under p s k) q d i up l in
    within_above (serial_of p) p q (above_trans p (Under p s k) q (inr (above_self p)) a) (within_self (serial_of p) p (eq-eqb _ _ refl))

-- ---- where steps lead

module _ (ends : Node → Bool) (n : Node) (d : Descends n) where
  -- to the node itself leads no step at all
  pub leads_none : (a : Node) → In a (above n) → leads ends (serial_of a) [] n ≡ ends a
  leads_none a i = same_bools _ _ to from
    where
      to : leads ends (serial_of a) [] n ≡ true → ends a ≡ true
      to h =
          let r = any_in (λ (j : Node). ends j && hits (serial_of a) [] j) (above n) h in
          let q = and_parts (ends r.0) (hits (serial_of a) [] r.0) r.2 in
          subst (λ (x : Node). ends x ≡ true) (chain_same n r.0 a d r.1 i (eqb-true _ _ q.1)) q.0

      from : ends a ≡ true → leads ends (serial_of a) [] n ≡ true
      from h = any_from (λ (j : Node). ends j && hits (serial_of a) [] j) a (above n) i (and_from (ends a) _ h (eq-eqb _ _ refl))

  high : (axis : Axis) (x : Node) → In x (above n) → lies axis (serial_of n) x ≡ true → ⊥
  high Child Root i l = false≢true l
  high Descendant Root i l = false≢true l
  high Child (Under q t v) i l = let e = eqb-true _ _ l in let a = above_low n (Under q t v) d i in let b = below_up n q t v d i in absurd (omega arith)
  high Descendant (Under q t v) i l = let e = within_low q (serial_of n) (descends_above n (Under q t v) d i).1 l in let a = above_low n (Under q t v) d i in let b = below_up n q t v d i in absurd (omega arith)

  -- and no step leads from it to a node above
  pub leads_start : (st : Step) (rest : List Step) → leads ends (serial_of n) (st ∷ rest) n ≡ false
  leads_start st rest = false_from_ne_true _ (λ h.
      let r = any_in (λ (j : Node). ends j && hits (serial_of n) (st ∷ rest) j) (above n) h in
      let q = and_parts (ends r.0) (hits (serial_of n) (st ∷ rest) r.0) r.2 in
      let x = any_in (λ (j : Node). reach (serial_of n) st j && hits (serial_of j) rest r.0) (above r.0) q.1 in
      let y = and_parts (reach (serial_of n) st x.0) (hits (serial_of x.0) rest r.0) x.2 in
      let z = and_parts (passes st.test (kind_of x.0)) (lies st.axis (serial_of n) x.0) y.0 in
      high st.axis x.0 (above_trans x.0 r.0 n x.1 r.1) z.1)

  -- from the parent: the first step is to the child on the way, or on below it
  pub leads_up : (p : Node) (s : ℕ) (k : Kind) (st : Step) (rest : List Step) → In (Under p s k) (above n)
      → leads ends (serial_of p) (st ∷ rest) n ≡ ((leads ends s rest n && passes st.test k) || (leads ends s (st ∷ rest) n && goes_on st.axis))
  leads_up p s k st rest i = same_bools _ _ to from
    where
      at : ℕ → List Step → Node → Bool
      at a steps j = ends j && hits a steps j

      next : ℕ → Node → Node → Bool
      next a j x = reach a st x && hits (serial_of x) rest j

      to : leads ends (serial_of p) (st ∷ rest) n ≡ true → ((leads ends s rest n && passes st.test k) || (leads ends s (st ∷ rest) n && goes_on st.axis)) ≡ true
      to h =
          let r = any_in (λ (j : Node). ends j && hits (serial_of p) (st ∷ rest) j) (above n) h in
          let q = and_parts (ends r.0) (hits (serial_of p) (st ∷ rest) r.0) r.2 in
          let x = any_in (λ (j : Node). reach (serial_of p) st j && hits (serial_of j) rest r.0) (above r.0) q.1 in
          let y = and_parts (reach (serial_of p) st x.0) (hits (serial_of x.0) rest r.0) x.2 in
          let z = and_parts (passes st.test (kind_of x.0)) (lies st.axis (serial_of p) x.0) y.0 in
          elim (step_on st.axis n p x.0 s k d i (above_trans x.0 r.0 n x.1 r.1) z.1) [
            | inl e ↦ or_left _ _ (and_from _ _
                (any_from (λ (j : Node). ends j && hits s rest j) r.0 (above n) r.1 (and_from (ends r.0) _ q.0 (subst (λ (w : Node). hits (serial_of w) rest r.0 ≡ true) e y.1)))
                (subst (λ (w : Node). passes st.test (kind_of w) ≡ true) e z.0))
            | inr e ↦ or_right _ _ (and_from _ _
                (any_from (λ (j : Node). ends j && hits s (st ∷ rest) j) r.0 (above n) r.1 (and_from (ends r.0) _ q.0
                (any_from (λ (j : Node). reach s st j && hits (serial_of j) rest r.0) x.0 (above r.0) x.1
                (and_from (reach s st x.0) _ (and_from (passes st.test (kind_of x.0)) _ z.0 (subst (λ (w : Axis). lies w s x.0 ≡ true) (sym e.0) e.1)) y.1))))
                (ap goes_on e.0))
          ]

      from : ((leads ends s rest n && passes st.test k) || (leads ends s (st ∷ rest) n && goes_on st.axis)) ≡ true → leads ends (serial_of p) (st ∷ rest) n ≡ true
      from h = elim (or_cases (leads ends s rest n && passes st.test k) (leads ends s (st ∷ rest) n && goes_on st.axis) h) [
        | inl e ↦ (
            let a = and_parts (leads ends s rest n) (passes st.test k) e in
            let r = any_in (λ (j : Node). ends j && hits s rest j) (above n) a.0 in
            let q = and_parts (ends r.0) (hits s rest r.0) r.2 in
            any_from (λ (j : Node). ends j && hits (serial_of p) (st ∷ rest) j) r.0 (above n) r.1 (and_from (ends r.0) _ q.0
            (any_from (λ (j : Node). reach (serial_of p) st j && hits (serial_of j) rest r.0) (Under p s k) (above r.0)
            (chain_within n (Under p s k) r.0 d i r.1 (hits_within s rest r.0 q.1))
            (and_from (reach (serial_of p) st (Under p s k)) _ (and_from (passes st.test k) _ a.1 (to_child st.axis p s k)) q.1))))
        | inr e ↦ (
            let a = and_parts (leads ends s (st ∷ rest) n) (goes_on st.axis) e in
            let f = is_descendant st.axis a.1 in
            let r = any_in (λ (j : Node). ends j && hits s (st ∷ rest) j) (above n) a.0 in
            let q = and_parts (ends r.0) (hits s (st ∷ rest) r.0) r.2 in
            let x = any_in (λ (j : Node). reach s st j && hits (serial_of j) rest r.0) (above r.0) q.1 in
            let y = and_parts (reach s st x.0) (hits (serial_of x.0) rest r.0) x.2 in
            let z = and_parts (passes st.test (kind_of x.0)) (lies st.axis s x.0) y.0 in
            let b = below_child n p x.0 s k d i (above_trans x.0 r.0 n x.1 r.1) (subst (λ (w : Axis). lies w s x.0 ≡ true) f z.1) in
            any_from (λ (j : Node). ends j && hits (serial_of p) (st ∷ rest) j) r.0 (above n) r.1 (and_from (ends r.0) _ q.0
            (any_from (λ (j : Node). reach (serial_of p) st j && hits (serial_of j) rest r.0) x.0 (above r.0) x.1
            (and_from (reach (serial_of p) st x.0) _ (and_from (passes st.test (kind_of x.0)) _ z.0 (subst (λ (w : Axis). lies w (serial_of p) x.0 ≡ true) (sym f) b)) y.1))))
      ]

-- ---- a step of a walk up

-- the flags up to i are those of the parent, and the others those of the child
pub record Stepped (steps : List Step) (kind : Kind) (i : ℕ) (old new : List Bool) : Type 0 where
  pub count : length new ≡ length old
  pub low : i ≤ length steps
  pub done : (j : ℕ) (st : Step) → j < i → get_or new j false ≡ flag_up (get_or steps j st) kind (get_or old j false) (get_or old (j + 1) false)
  pub left : (j : ℕ) → i ≤ j → get_or new j false ≡ get_or old j false

pub some_step : {X : Type 0} (xs : List X) (i : ℕ) → i < length xs → (x : X) × (drop i xs ≡ x ∷ drop (i + 1) xs) × ((d : X) → get_or xs i d ≡ x)
some_step [] i l = absurd (omega arith)
some_step (x ∷ xs) zero l = (x, refl, λ d. refl)
some_step (x ∷ xs) (suc i) l =
    let r = some_step xs i (omega arith) in
    let e : suc i + 1 ≡ suc (i + 1) = omega arith in
    (r.0, rw e r.1, r.2)

pub stepped_on : (steps : List Step) (kind : Kind) (i : ℕ) (old new : List Bool) (st : Step) → length old ≡ length steps + 1 → i < length steps → Stepped steps kind i old new → st ≡ get_or steps i st
    → Stepped steps kind (i + 1) old (set new i (flag_up st kind (get_or new i false) (get_or new (i + 1) false)))
stepped_on steps kind i old new st c l s e = record {
  count = length-set new i here ∙ s.count;
  low = omega arith;
  done = done;
  left = λ j k. get_or-set_other new i j here false (λ f. omega arith) ∙ s.left j (omega arith);
}
  where
    here : Bool
    here = flag_up st kind (get_or new i false) (get_or new (i + 1) false)

    done : (j : ℕ) (x : Step) → j < i + 1 → get_or (set new i here) j false ≡ flag_up (get_or steps j x) kind (get_or old j false) (get_or old (j + 1) false)
    done j x k = elim (cases_eq j i) [
      | inl f ↦ get_or-set_at new i j here false f (let a = s.count in omega arith)
          ∙ ap (λ (w : Step). flag_up w kind (get_or new i false) (get_or new (i + 1) false)) (e ∙ (some_step steps i l).2 st ∙ sym ((some_step steps i l).2 x))
          ∙ ap (λ b. flag_up (get_or steps i x) kind b (get_or new (i + 1) false)) (s.left i (omega arith))
          ∙ ap (λ b. flag_up (get_or steps i x) kind (get_or old i false) b) (s.left (i + 1) (omega arith))
          ∙ ap (λ m. flag_up (get_or steps m x) kind (get_or old m false) (get_or old (m + 1) false)) (sym f)
      | inr f ↦ get_or-set_other new i j here false f ∙ s.done j x (let g = lower j i f in omega arith)
    ]
      where
        lower : (a b : ℕ) → (a ≡ b → ⊥) → a < b + 1 → a < b
        lower a b f k = omega arith

-- the flags of the parent
pub flags_up : (steps : List Step) (kind : Kind) (old new : List Bool) (i : ℕ) → length steps ≤ i → length old ≡ length steps + 1 → Stepped steps kind i old new → (end : Bool) → (ends : Node → Bool) (n p : Node) (s : ℕ) → Descends n → In (Under p s kind) (above n) → end ≡ ends p
    → Flags ends s steps n old → Flags ends (serial_of p) steps n (set new (length steps) end)
flags_up steps kind old new i l c t end ends n p s d j e f = record { count = length-set new (length steps) end ∙ t.count ∙ c; each = each }
  where
    each : (k : ℕ) → k ≤ length steps → get_or (set new (length steps) end) k false ≡ leads ends (serial_of p) (drop k steps) n
    each k m = elim (cases_eq k (length steps)) [
      | inl g ↦ get_or-set_at new (length steps) k end false g (let a = t.count in omega arith) ∙ e
          ∙ sym (leads_none ends n d p (above_trans p (Under p s kind) n (inr (above_self p)) j))
          ∙ ap (λ (w : List Step). leads ends (serial_of p) w n) (sym (ap (λ w. drop w steps) g ∙ drop-length steps))
      | inr g ↦ (
          let x = some_step steps k (omega arith) in
          get_or-set_other new (length steps) k end false g
          ∙ t.done k x.0 (omega arith)
          ∙ ap (λ (w : Step). flag_up w kind (get_or old k false) (get_or old (k + 1) false)) (x.2 x.0)
          ∙ ap (λ b. flag_up x.0 kind b (get_or old (k + 1) false)) (f.each k m ∙ ap (λ (w : List Step). leads ends s w n) x.1)
          ∙ ap (λ b. flag_up x.0 kind (leads ends s (x.0 ∷ drop (k + 1) steps) n) b) (f.each (k + 1) (omega arith))
          ∙ sym (leads_up ends n d p s kind x.0 (drop (k + 1) steps) j)
          ∙ ap (λ (w : List Step). leads ends (serial_of p) w n) (sym x.1))
    ]

-- the flags where a walk begins
pub flags_start : (steps : List Step) (ends : Node → Bool) (n : Node) → Descends n → (end : Bool) → end ≡ ends n → Flags ends (serial_of n) steps n (replicate (length steps) false ++ end ∷ [])
flags_start steps ends n d end e = record {
  count = simp length-append (omega (arith, length-replicate (length steps) false));
  each = each;
}
  where
    blank : (k m : ℕ) (b : Bool) → m < k → get_or (replicate k false ++ b ∷ []) m false ≡ false
    blank zero m b l = absurd (omega arith)
    blank (suc k) zero b l = refl
    blank (suc k) (suc m) b l = blank k m b (omega arith)

    last : (k : ℕ) (b : Bool) → get_or (replicate k false ++ b ∷ []) k false ≡ b
    last zero b = refl
    last (suc k) b = last k b

    each : (k : ℕ) → k ≤ length steps → get_or (replicate (length steps) false ++ end ∷ []) k false ≡ leads ends (serial_of n) (drop k steps) n
    each k m = elim (cases_eq k (length steps)) [
      | inl g ↦ ap (λ w. get_or (replicate (length steps) false ++ end ∷ []) w false) g ∙ last (length steps) end ∙ e
          ∙ sym (leads_none ends n d n (above_self n))
          ∙ ap (λ (w : List Step). leads ends (serial_of n) w n) (sym (ap (λ w. drop w steps) g ∙ drop-length steps))
      | inr g ↦ (
          let x = some_step steps k (omega arith) in
          blank (length steps) k end (omega arith) ∙ sym (leads_start ends n d x.0 (drop (k + 1) steps)) ∙ ap (λ (w : List Step). leads ends (serial_of n) w n) (sym x.1))
    ]

pub any_default : (fs : List Bool) (i : ℕ) (d : Bool) → i < length fs → get_or fs i d ≡ get_or fs i false
any_default fs i d l = let x = some_step fs i l in x.2 d ∙ sym (x.2 false)

-- but for the last flag
pub flags_but : (steps : List Step) (kind : Kind) (old new : List Bool) (i : ℕ) (end : Bool) → length steps ≤ i → length old ≡ length steps + 1 → Stepped steps kind i old new → (ends : Node → Bool) (n p : Node) (s : ℕ) → Descends n → In (Under p s kind) (above n)
    → Flags ends s steps n old → FlagsBut ends (serial_of p) steps n (set new (length steps) end)
flags_but steps kind old new i end l c t ends n p s d j f = record { count = length-set new (length steps) end ∙ t.count ∙ c; each = each }
  where
    each : (k : ℕ) → k < length steps → get_or (set new (length steps) end) k false ≡ leads ends (serial_of p) (drop k steps) n
    each k m =
        let x = some_step steps k m in
        get_or-set_other new (length steps) k end false (λ g. omega arith)
        ∙ t.done k x.0 (omega arith)
        ∙ ap (λ (w : Step). flag_up w kind (get_or old k false) (get_or old (k + 1) false)) (x.2 x.0)
        ∙ ap (λ b. flag_up x.0 kind b (get_or old (k + 1) false)) (f.each k (omega arith) ∙ ap (λ (w : List Step). leads ends s w n) x.1)
        ∙ ap (λ b. flag_up x.0 kind (leads ends s (x.0 ∷ drop (k + 1) steps) n) b) (f.each (k + 1) (omega arith))
        ∙ sym (leads_up ends n d p s kind x.0 (drop (k + 1) steps) j)
        ∙ ap (λ (w : List Step). leads ends (serial_of p) w n) (sym x.1)

pub flags_last : (steps : List Step) (fs : List Bool) (ends : Node → Bool) (n a : Node) → Descends n → In a (above n) → FlagsBut ends (serial_of a) steps n fs → (b : Bool) → b ≡ ends a → Flags ends (serial_of a) steps n (set fs (length steps) b)
flags_last steps fs ends n a d i f b e = record { count = length-set fs (length steps) b ∙ f.count; each = each }
  where
    each : (k : ℕ) → k ≤ length steps → get_or (set fs (length steps) b) k false ≡ leads ends (serial_of a) (drop k steps) n
    each k m = elim (cases_eq k (length steps)) [
      | inl g ↦ get_or-set_at fs (length steps) k b false g (let z = f.count in omega arith) ∙ e ∙ sym (leads_none ends n d a i) ∙ ap (λ (w : List Step). leads ends (serial_of a) w n) (sym (ap (λ w. drop w steps) g ∙ drop-length steps))
      | inr g ↦ get_or-set_other fs (length steps) k b false g ∙ f.each k (omega arith)
    ]

pub but_start : (steps : List Step) (ends : Node → Bool) (n : Node) → Descends n → FlagsBut ends (serial_of n) steps n (replicate (length steps) false ++ false ∷ [])
but_start steps ends n d = record { count = e.count; each = each }
  where
    e : Flags (λ (_ : Node). false) (serial_of n) steps n (replicate (length steps) false ++ false ∷ [])
    e = flags_start steps (λ (_ : Node). false) n d false refl

    each : (k : ℕ) → k < length steps → get_or (replicate (length steps) false ++ false ∷ []) k false ≡ leads ends (serial_of n) (drop k steps) n
    each k m =
        let x = some_step steps k m in
        e.each k (omega arith) ∙ ap (λ (w : List Step). leads (λ (_ : Node). false) (serial_of n) w n) x.1 ∙ leads_start (λ (_ : Node). false) n d x.0 (drop (k + 1) steps) ∙ sym (leads_start ends n d x.0 (drop (k + 1) steps)) ∙ ap (λ (w : List Step). leads ends (serial_of n) w n) (sym x.1)

pub chain_low : (n a j : Node) → Descends n → In a (above n) → In j (above n) → serial_of j ≤ serial_of a → In j (above a)
chain_low Root a j d (inl e) i l = subst (λ (x : Node). In j (above x)) e i
chain_low Root a j d (inr h) i l = absurd h
chain_low (Under p s k) a j d (inl e) i l = subst (λ (x : Node). In j (above x)) e i
chain_low (Under p s k) a j d (inr h) (inl e) l = let f = above_low p a d.1 h in let g = ap serial_of e in let q = d.0 in absurd (omega arith)
chain_low (Under p s k) a j d (inr h) (inr i) l = chain_low p a j d.1 h i l
