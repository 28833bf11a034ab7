-- What going up finds, in the words of the definitions.
use Rattle.std.proofs.Common.{◌≡◌, ℕ, zero, suc, ◌<◌, ◌≤◌, true, List, [], ◌∷◌, ◌++◌, length, refl, sym, ◌∙◌, ap, subst, inl, inr, ◌⊎◌, arith, Some, None}
use Rattle.std.specs.Prelude.{slice_get}
use Rattle.std.proofs.lemmas.Bool.{and_parts, and_from, eqb-true, eq-eqb}
use Rattle.std.proofs.lemmas.List.{append-nil, length-append}
use Rattle.std.proofs.lemmas.Option.{slice_get_within}
use Rattle.gcx_base.specs.declared.steps.Axis.{Axis}
use Rattle.gcx_base.specs.declared.steps.Axis.TheVariants.{Child, Descendant}
use Rattle.gcx_base.specs.declared.steps.Step.{Step}
use Rattle.gcx_model.specs.Tree.{Node, Root, Under, serial_of, kind_of, above, Tree}
use Rattle.gcx_base.specs.Tests.{passes}
use Rattle.gcx_model.specs.Paths.{hits, reach, lies}
use Rattle.gcx_model.specs.Nodes.{Grown}
use Rattle.gcx_model.specs.Growth.{level}
use Rattle.gcx_model.specs.Core.{PlanTree}
use Rattle.tree_laws.proofs.Lists.{In}
use Rattle.tree_laws.proofs.Matches.{Numbered-same}
use Rattle.tree_laws.proofs.Chains.{above_in, above_trans, hits_one, hits_one_from}
use Rattle.tree_laws.proofs.Growing.{level_above}
use Rattle.placed_laws.proofs.Frames.{hits-append}
use Rattle.path_states.specs.Lists.{Holds}
use Rattle.path_states.specs.PathTree.{IsPathTree}
use Rattle.matcher.specs.Frames.{Hit, Over, StepsUp, Up, arrived, stepped, nowhere}
use Rattle.matcher.specs.View.{FrameView}
use Rattle.path_states.specs.declared.paths.PathState.{PathState}
use Rattle.path_states.specs.declared.paths.PathTree.{PathTree}
use Rattle.matcher.proofs.Leading.{split}
use Rattle.path_states.proofs.Looking.{some_at}
use Rattle.matcher.proofs.Upwards.{level_same, child_from, child_to, below_from, below_to}

-- a list with one more at its end, seen as two parts the second of which isn't empty
pub last_part : (base ss xs : List Step) (x : Step) (k : ℕ) → xs ++ x ∷ [] ≡ base ++ ss → length ss ≡ suc k → (rest : List Step) × (ss ≡ rest ++ x ∷ []) × (xs ≡ base ++ rest) × (length rest ≡ k)
last_part [] ss xs x k e l = (xs, sym e, refl, (let m = length-append xs (x ∷ []) in let n = ap length e in omega arith))
last_part (b ∷ base) ss [] x k e l =
    let f : [] ≡ base ++ ss = (tails_same e) in
    let m = length-append base ss in let n = ap length f in absurd (omega arith)
  where
    tails_same : x ∷ [] ≡ b ∷ (base ++ ss) → [] ≡ base ++ ss
    tails_same e = cc
last_part (b ∷ base) ss (y ∷ xs) x k e l =
    let f = parts e in
    let r = last_part base ss xs x k f.1 l in
    (r.0, r.1, ap (λ (z : Step). z ∷ xs) f.0 ∙ ap (λ (zs : List Step). b ∷ zs) r.2, r.3)
  where
    parts : y ∷ (xs ++ x ∷ []) ≡ b ∷ (base ++ ss) → (y ≡ b) × (xs ++ x ∷ [] ≡ base ++ ss)
    parts e = (cc, cc)

le_cases : (x y : ℕ) → x ≤ y → (x ≡ y) ⊎ (x < y)
le_cases zero zero h = inl refl
le_cases zero (suc y) h = inr (omega arith)
le_cases (suc x) zero h = absurd (omega arith)
le_cases (suc x) (suc y) h = let m : x ≤ y = omega arith in elim (le_cases x y m) [ inl e ↦ inl (ap suc e) | inr j ↦ inr (omega arith) ]

pub node_at : (n : Node) (l : ℕ) → l ≤ level n → (a : Node) × In a (above n) × (level a ≡ l)
node_at Root l h = (Root, inl refl, omega arith)
node_at (Under p s k) l h = elim (le_cases l (suc (level p)) h) [
  | inl e ↦ (Under p s k, inl refl, sym e)
  | inr j ↦ let m : l ≤ level p = omega arith in let r = node_at p l m in (r.0, inr r.1, r.2)
]

-- a node of this level above n that the path of the state leads to
pub record Target (path : ℕ → List Step) (n : Node) (e t : ℕ) : Type 0 where
  pub node : Node
  pub over : In node (above n)
  pub at : level node ≡ t
  pub hit : hits 0 (path e) node ≡ true

-- a match of the base from which the steps lead to a node of one of the levels
pub record Origin (base ss : List Step) (n : Node) (T : List ℕ) (l : ℕ) : Type 0 where
  pub node : Node
  pub over : In node (above n)
  pub at : level node ≡ l
  pub hit : hits 0 base node ≡ true
  pub target : Node
  pub below : In target (above n)
  pub reached : In (level target) T
  pub leads : hits (serial_of node) ss target ≡ true

module _ (plan : PlanTree) (t : PathTree) (A : IsPathTree plan t) (P : Tree) (w : Grown P) (n : Node) (i : In n P.nodes) (frames : List FrameView)
    (few : length frames ≤ suc (level n))
    (told : (a : Node) (frame : FrameView) → In a (above n) → slice_get frames (level a) ≡ Some frame → (c : ℕ) → In c frame.active → hits 0 (A.path c) a ≡ true)
    (kept : (a : Node) → In a (above n) → level a < level n → (c : ℕ) → c < length t.states.items → hits 0 (A.path c) a ≡ true → Hit frames c (level a)) where
  passed : (e : ℕ) (s : PathState) (m : Node) → In m (above n) → A.path e ≡ A.path s.parent ++ s.step ∷ [] → hits 0 (A.path e) m ≡ true → passes s.step.test (kind_of m) ≡ true
  passed e s m o x h =
      let im = above_in P w n m i o in
      let r = split P w 0 (A.path s.parent) (s.step ∷ []) m im (subst (λ (z : List Step). hits 0 z m ≡ true) x h) in
      (and_parts (passes s.step.test (kind_of m)) (lies s.step.axis (serial_of r.0) m) (hits_one P w (serial_of r.0) s.step m im r.3)).0

  over_to : (axis : Axis) (T : List ℕ) (a : Node) → In a (above n) → ((u : ℕ) → In u T → (m : Node) × In m (above n) × (level m ≡ u)) → Over axis T (level a) → (m : Node) × In m (above n) × In (level m) T × (lies axis (serial_of a) m ≡ true)
  over_to Child T a o at j = let r = at (suc (level a)) j in (r.0, r.1, subst (λ (z : ℕ). In z T) (sym r.2) j, child_from P w n i a r.0 o r.1 r.2)
  over_to Descendant T a o at f = let r = at f.of f.member in let l = f.is in let e = r.2 in let m : level a < level r.0 = omega arith in (r.0, r.1, subst (λ (z : ℕ). In z T) (sym r.2) f.member, below_from P w n i a r.0 o r.1 m)

  over_from : (axis : Axis) (T : List ℕ) (a m : Node) → In a (above n) → In m (above n) → In (level m) T → lies axis (serial_of a) m ≡ true → Over axis T (level a) × (level a < level m)
  over_from Child T a m o q j l = let e = child_to P w n i a m o q l in (subst (λ (z : ℕ). In z T) e j, omega arith)
  over_from Descendant T a m o q j l = let e = below_to P w n i a m o q l in (record { of = level m; member = j; is = e }, e)

  pub origins_are : (k e : ℕ) (T L : List ℕ) → Up t.states.items frames k e T L → (base ss : List Step) → length ss ≡ k → e < length t.states.items → A.path e ≡ base ++ ss → ((u : ℕ) → In u T → Target A.path n e u)
      → ((l : ℕ) → In l L → Origin base ss n T l) × ((l : ℕ) → Origin base ss n T l → In l L)
  origins_are zero e T L arrived base [] x c p ts = (
    (λ l j. (let r = ts l j in record { node = r.node; over = r.over; at = r.at; hit = subst (λ (z : List Step). hits 0 z r.node ≡ true) (p ∙ append-nil base) r.hit; target = r.node; below = r.over; reached = subst (λ (z : ℕ). In z T) (sym r.at) j; leads = eq-eqb (serial_of r.node) (serial_of r.node) refl })),
    (λ l o. (let f : o.target ≡ o.node = Numbered-same 0 P.nodes w.numbered o.target o.node (above_in P w n o.target i o.below) (above_in P w n o.node i o.over) (eqb-true _ _ o.leads) in
        subst (λ (z : ℕ). In z T) (ap level f ∙ o.at) o.reached)),
  )
  origins_are zero e T L arrived base (s ∷ ss) x c p ts = absurd (omega arith)
  origins_are (suc k) e T L (stepped {between = B} s at h u) base ss x c p ts =
      let le = behind e p in
      let y = A.step e s at le in
      let d = last_part base ss (A.path s.parent) s.step k (sym y.1 ∙ p) x in
      let lp : s.parent < length t.states.items = (let a = y.0 in omega arith) in
      let targets : (u : ℕ) → In u B → Target A.path n s.parent u = (λ v j. let z = step_to s at y.1 h v j in record { node = z.0; over = z.1; at = z.2; hit = z.3.0 }) in
      let r = origins_are k s.parent B L u base d.0 d.3 lp d.2 targets in (
        (λ l j. (let o = r.0 l j in
            let z = step_to s at y.1 h (level o.target) o.reached in
            let same : z.0 ≡ o.target = level_same n z.0 o.target z.1 o.below z.2 in
            let q = z.3.1 in
            let g : hits (serial_of o.target) (s.step ∷ []) q.0 ≡ true = subst (λ (b : Node). hits (serial_of b) (s.step ∷ []) q.0 ≡ true) same (hits_one_from P w (serial_of z.0) s.step q.0 q.3) in
            record {
              node = o.node;
              over = o.over;
              at = o.at;
              hit = o.hit;
              target = q.0;
              below = q.1;
              reached = q.2;
              leads = subst (λ (b : List Step). hits (serial_of o.node) b q.0 ≡ true) (sym d.1) (hits-append P w (serial_of o.node) d.0 (s.step ∷ []) o.target q.0 (above_in P w n o.target i o.below) (above_in P w n q.0 i q.1) o.leads g);
            })),
        (λ l o. (let it = above_in P w n o.target i o.below in
            let g = split P w (serial_of o.node) d.0 (s.step ∷ []) o.target it (subst (λ (b : List Step). hits (serial_of o.node) b o.target ≡ true) d.1 o.leads) in
            let ob : In g.0 (above n) = above_trans g.0 o.target n g.1 o.below in
            let ib = above_in P w n g.0 i ob in
            let hb : hits 0 (A.path s.parent) g.0 ≡ true = subst (λ (b : List Step). hits 0 b g.0 ≡ true) (sym d.2) (hits-append P w 0 base d.0 o.node g.0 (above_in P w n o.node i o.over) ib o.hit g.2) in
            let re = hits_one P w (serial_of g.0) s.step o.target it g.3 in
            let v = over_from s.step.axis T g.0 o.target ob o.below o.reached (and_parts (passes s.step.test (kind_of o.target)) (lies s.step.axis (serial_of g.0) o.target) re).1 in
            let lt : level g.0 < level n = (let a = v.1 in let b = level_above n o.target o.below in omega arith) in
            let inB : In (level g.0) B = (h.has (level g.0)).1 (record { over = v.0; hit = kept g.0 ob lt s.parent lp hb }) in
            r.1 l (record { node = o.node; over = o.over; at = o.at; hit = o.hit; target = g.0; below = ob; reached = inB; leads = g.2 }))),
      )
    where
      behind : (e : ℕ) → A.path e ≡ base ++ ss → 0 < e
      behind zero p = let f = ap length (sym A.top ∙ p) in let m = length-append base ss in absurd (omega arith)
      behind (suc e) p = omega arith

      step_to : (s : PathState) → slice_get t.states.items e ≡ Some s → A.path e ≡ A.path s.parent ++ s.step ∷ [] → Holds B (StepsUp frames s T) → (v : ℕ) → In v B
          → (a : Node) × In a (above n) × (level a ≡ v) × ((hits 0 (A.path s.parent) a ≡ true) × ((m : Node) × In m (above n) × In (level m) T × (reach (serial_of a) s.step m ≡ true)))
      step_to s at y h v j =
          let su = (h.has v).0 j in
          let hi = su.hit in
          let lv = slice_get_within frames v hi.frame hi.at in
          let lo : v ≤ level n = omega arith in
          let na = node_at n v lo in
          let ha = told na.0 hi.frame na.1 (subst (λ (z : ℕ). slice_get frames z ≡ Some hi.frame) (sym na.2) hi.at) s.parent hi.member in
          let ov = over_to s.step.axis T na.0 na.1 (λ b q. let r = ts b q in (r.node, r.over, r.at)) (subst (λ (z : ℕ). Over s.step.axis T z) (sym na.2) su.over) in
          let rr = ts (level ov.0) ov.2 in
          let same : rr.node ≡ ov.0 = level_same n rr.node ov.0 rr.over ov.1 rr.at in
          let hm : hits 0 (A.path e) ov.0 ≡ true = subst (λ (z : Node). hits 0 (A.path e) z ≡ true) same rr.hit in
          (na.0, na.1, na.2, (ha, (ov.0, ov.1, ov.2, and_from (passes s.step.test (kind_of ov.0)) (lies s.step.axis (serial_of na.0) ov.0) (passed e s ov.0 ov.1 y hm) ov.3)))
  origins_are (suc k) e T L (nowhere f) base ss x c p ts = let r = some_at t.states.items e c in absurd (none_here r.0 r.1)
    where
      none_here : (s : PathState) → slice_get t.states.items e ≡ Some s → ⊥
      none_here s g = let h : None ≡ Some s = sym f ∙ g in cc
