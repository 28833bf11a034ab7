-- What the body of a loop uses is bound and held, and what its conditions ask about is held at each match.
use Rattle.std.proofs.Common.{◌≡◌, ◌<◌, ℕ, Bool, true, false, List, [], ◌∷◌, ◌++◌, refl, sym, ap, subst, inl, inr, ◌⊎◌, arith, append_assoc}
use Rattle.std.proofs.lemmas.List.{append-nil}
use Rattle.std.proofs.lemmas.Bool.{eq-eqb}
use Rattle.gcx_base.specs.declared.steps.Step.{Step}
use Rattle.gcx_model.specs.Tree.{Node, serial_of, Tree, TreeToken}
use Rattle.gcx_model.specs.Paths.{matches}
use Rattle.gcx_model.specs.Core.{Write, Copy, For, If, SignOff, BodyTree, Nil, Then, OffTree, RoleRowTree, PlanTree}
use Rattle.gcx_model.specs.Truth.{Env}
use Rattle.gcx_model.specs.Run.{env0}
use Rattle.gcx_model.specs.Cores.{BodyIn, Good}
use Rattle.gcx_model.specs.Placed.{offs_body, add_offs, place, at_end, statement, offs_of, plan_of}
use Rattle.gcx_model.specs.Variables.{Var, var_tree, child_var, vars}
use Rattle.gcx_model.specs.Roles.{cond_rows, rows, own_row, roles_of}
use Rattle.gcx_model.specs.Held.{gives}
use Rattle.gcx_model.specs.Held as model
use Rattle.gcx_model.specs.Points as points
use Rattle.tree_laws.proofs.Reading.{reading, is_live, is_held, held}
use Rattle.tree_laws.proofs.Lists.{In, In-left, In-right, In-kept}
use Rattle.tree_laws.proofs.Matches.{Matches-in}
use Rattle.placed_laws.proofs.PointForms.{Frame, Rest, LoopRound, IsPoint}
use Rattle.placed_laws.proofs.CorePlans.{in_end, cond_rows_in}
use Rattle.placed_laws.proofs.Waits.{Has}
use Rattle.placed_laws.proofs.Frames.{Bound_in, Ready, ready_over, ready_under, ready_far, LoopScope, Loop, Turn, Facts, facts}
use Rattle.placed_laws.proofs.Need.{Solid_one, solid_last, row_statement, site_live, bound_live, live_held}
use Rattle.tree_laws.proofs.Fed.{tree, grown, root_in}
use Rattle.placed_laws.proofs.CoreStates.{so_far}
use Rattle.placed_laws.proofs.Bridge.{held_is}
use Rattle.placed_laws.proofs.FromPlans.{from_state}
use Rattle.pass_laws.specs.Idle.{FreeIn}
use Rattle.pass_laws.specs.Scopes.{UsesIn, AsksIn, HasNoOff, IsOfLoop, TurnUses, TurnFree, TurnHeld, OtherHeld}

-- ---- bodies

module _ (ends : ℕ → List OffTree) where
  offs_ask : (os : List OffTree) (r : RoleRowTree) → AsksIn r (offs_body os) → ⊥
  offs_ask [] r h = h
  offs_ask (o ∷ os) r (inl h) = h
  offs_ask (o ∷ os) r (inr h) = offs_ask os r h

  offs_use : (os : List OffTree) (z : ℕ) → UsesIn z (offs_body os) → ⊥
  offs_use [] z h = h
  offs_use (o ∷ os) z (inl h) = h
  offs_use (o ∷ os) z (inr h) = offs_use os z h

  -- what a condition of the placed body asks about is a row of the body
  asks_row : (d : BodyTree) (os : List OffTree) (r : RoleRowTree) → AsksIn r (add_offs (place ends d) os) → In r (rows d)
  asks_row Nil os r h = absurd (offs_ask os r h)
  asks_row (Then (Write b) d) os r (inl h) = absurd h
  asks_row (Then (Write b) d) os r (inr h) = asks_row d os r h
  asks_row (Then (Copy x) d) os r (inl h) = absurd h
  asks_row (Then (Copy x) d) os r (inr h) = inr (asks_row d os r h)
  asks_row (Then (For x y s e) d) os r (inl h) = inr (In-left r (rows e) (rows d) (asks_row e (ends x) r h))
  asks_row (Then (For x y s e) d) os r (inr h) = inr (In-right r (rows e) (rows d) (asks_row d os r h))
  asks_row (Then (If c a b) d) os r (inl h) = In-left r (cond_rows c ++ (rows a ++ rows b)) (rows d) (In-left r (cond_rows c) (rows a ++ rows b) h)
  asks_row (Then (If c a b) d) os r (inr h) = In-right r (cond_rows c ++ (rows a ++ rows b)) (rows d) (asks_row d os r h)
  asks_row (Then (SignOff o) d) os r (inl h) = absurd h
  asks_row (Then (SignOff o) d) os r (inr h) = asks_row d os r h

  -- a variable that the placed body uses may be used there, or is bound within
  uses_known : (d : BodyTree) (os : List OffTree) (L : List ℕ) (z : ℕ) → BodyIn true L d → UsesIn z (add_offs (place ends d) os) → In z L ⊎ In z (vars d)
  uses_known Nil os L z q h = absurd (offs_use os z h)
  uses_known (Then (Write b) d) os L z q (inl h) = absurd h
  uses_known (Then (Write b) d) os L z q (inr h) = uses_known d os L z q.1 h
  uses_known (Then (Copy x) d) os L z q (inl h) = absurd h
  uses_known (Then (Copy x) d) os L z q (inr h) = uses_known d os L z q.1 h
  uses_known (Then (For x y s e) d) os L z q (inl (inl h)) = inl (subst (λ (w : ℕ). In w L) h q.0.1)
  uses_known (Then (For x y s e) d) os L z q (inl (inr h)) = elim (uses_known e (ends x) (x ∷ L) z q.0.2 h) [
    | inl i ↦ elim i [
      | inl g ↦ inr (inl g)
      | inr j ↦ inl j
    ]
    | inr i ↦ inr (inr (In-left z (vars e) (vars d) i))
  ]
  uses_known (Then (For x y s e) d) os L z q (inr h) = elim (uses_known d os L z q.1 h) [
    | inl i ↦ inl i
    | inr i ↦ inr (inr (In-right z (vars e) (vars d) i))
  ]
  uses_known (Then (If c a b) d) os L z q (inl h) = inl (subst (λ (w : ℕ). In w L) h.2 (cond_rows_in L c q.0.0 h.0 h.1))
  uses_known (Then (If c a b) d) os L z q (inr h) = elim (uses_known d os L z q.1 h) [
    | inl i ↦ inl i
    | inr i ↦ inr (In-right z (vars a ++ vars b) (vars d) i)
  ]
  uses_known (Then (SignOff o) d) os L z q h = absurd q.0

  offs_free : (os : List OffTree) (z : ℕ) → FreeIn z (offs_body os) → ⊥
  offs_free [] z h = h
  offs_free (o ∷ os) z (inl h) = h
  offs_free (o ∷ os) z (inr h) = offs_free os z h

  -- a variable that is free in the placed body may be used there
  free_known : (d : BodyTree) (os : List OffTree) (L : List ℕ) (z : ℕ) → BodyIn true L d → FreeIn z (add_offs (place ends d) os) → In z L
  free_known Nil os L z q h = absurd (offs_free os z h)
  free_known (Then (Write b) d) os L z q (inl h) = absurd h
  free_known (Then (Write b) d) os L z q (inr h) = free_known d os L z q.1 h
  free_known (Then (Copy x) d) os L z q (inl h) = absurd h
  free_known (Then (Copy x) d) os L z q (inr h) = free_known d os L z q.1 h
  free_known (Then (For x y s e) d) os L z q (inl (inl h)) = subst (λ (w : ℕ). In w L) h q.0.1
  free_known (Then (For x y s e) d) os L z q (inl (inr h)) = elim (free_known e (ends x) (x ∷ L) z q.0.2 h.0) [
    | inl g ↦ absurd (h.1 (sym g))
    | inr j ↦ j
  ]
  free_known (Then (For x y s e) d) os L z q (inr h) = free_known d os L z q.1 h
  free_known (Then (If c a b) d) os L z q (inl h) = subst (λ (w : ℕ). In w L) h.2 (cond_rows_in L c q.0.0 h.0 h.1)
  free_known (Then (If c a b) d) os L z q (inr h) = free_known d os L z q.1 h
  free_known (Then (SignOff o) d) os L z q h = absurd q.0

no_off : (d : BodyTree) → HasNoOff d → (o : OffTree) → Has o d → ⊥
no_off Nil h o i = i
no_off (Then (Write b) d) h o (inl e) = cc
no_off (Then (Write b) d) h o (inr i) = no_off d h.1 o i
no_off (Then (Copy x) d) h o (inl e) = cc
no_off (Then (Copy x) d) h o (inr i) = no_off d h.1 o i
no_off (Then (For x y s e) d) h o (inl f) = cc
no_off (Then (For x y s e) d) h o (inr i) = no_off d h.1 o i
no_off (Then (If c a b) d) h o (inl e) = cc
no_off (Then (If c a b) d) h o (inr i) = no_off d h.1 o i
no_off (Then (SignOff t) d) h o i = absurd h.0

-- each row that is asked about belongs to a variable that is used
pub asks_uses : (d : BodyTree) (r : RoleRowTree) → AsksIn r d → UsesIn r.var d
asks_uses Nil r h = absurd h
asks_uses (Then (Write b) d) r (inl h) = absurd h
asks_uses (Then (Write b) d) r (inr h) = inr (asks_uses d r h)
asks_uses (Then (Copy x) d) r (inl h) = absurd h
asks_uses (Then (Copy x) d) r (inr h) = inr (asks_uses d r h)
asks_uses (Then (For x y s e) d) r (inl h) = inl (inr (asks_uses e r h))
asks_uses (Then (For x y s e) d) r (inr h) = inr (asks_uses d r h)
asks_uses (Then (If c a b) d) r (inl h) = inl (r, h, refl)
asks_uses (Then (If c a b) d) r (inr h) = inr (asks_uses d r h)
asks_uses (Then (SignOff o) d) r (inl h) = absurd h
asks_uses (Then (SignOff o) d) r (inr h) = inr (asks_uses d r h)

-- what is free in a body is used there
pub free_uses : (d : BodyTree) (z : ℕ) → FreeIn z d → UsesIn z d
free_uses Nil z h = absurd h
free_uses (Then (Write b) d) z (inl h) = absurd h
free_uses (Then (Write b) d) z (inr h) = inr (free_uses d z h)
free_uses (Then (Copy x) d) z (inl h) = absurd h
free_uses (Then (Copy x) d) z (inr h) = inr (free_uses d z h)
free_uses (Then (For x y s e) d) z (inl (inl h)) = inl (inl h)
free_uses (Then (For x y s e) d) z (inl (inr h)) = inl (inr (free_uses e z h.0))
free_uses (Then (For x y s e) d) z (inr h) = inr (free_uses d z h)
free_uses (Then (If c a b) d) z (inl h) = inl h
free_uses (Then (If c a b) d) z (inr h) = inr (free_uses d z h)
free_uses (Then (SignOff o) d) z (inl h) = absurd h
free_uses (Then (SignOff o) d) z (inr h) = inr (free_uses d z h)

-- ---- at a loop

module _ (core : BodyTree) (good : Good core) (ts : List TreeToken) where
  abbrev P : Tree
  P = tree ts

  abbrev V : ℕ → Var
  V = var_tree core

  abbrev ends : ℕ → List OffTree
  ends = at_end (offs_of core)

  abbrev FactsAt : List Frame → List Frame → Type 0
  FactsAt = Facts P (grown ts) core good

  abbrev ReadyAt : ℕ → Node → List Frame → Type 0
  ReadyAt = Ready P (grown ts) core good

  -- what is known of a loop in a frame above these, whether it stands at a round or comes next
  record Known (x y : ℕ) (s : Step) (e : BodyTree) (env : Env) (f : Frame) (below : List Frame) : Type 0 where
    straight : Bool
    var : V x ≡ child_var straight x s (V y)
    row : In (own_row x) (roles_of core)
    parent : ReadyAt y (env y) (f ∷ below)
    ended : (o : OffTree) → In o (ends x) → Has o e
    body : BodyTree
    placed : e ≡ add_offs (place ends body) (ends x)
    rows_known : (r : RoleRowTree) → In r (rows body) → In r (roles_of core)
    outer : List ℕ
    uses : BodyIn true (x ∷ outer) body
    ready : (z : ℕ) → In z outer → ReadyAt z (env z) (f ∷ below)
    bound : (z : ℕ) → In z outer → Bound_in z (env z) below
    low : (z : ℕ) → In z outer → z < x
    high : (z : ℕ) → In z (vars body) → x < z
    solid : Solid_one f

  of_turn : (top : List Frame) (x y : ℕ) (s : Step) (e : BodyTree) (env : Env) (n : Node) (below : List Frame) → Turn P (grown ts) core good top x y s e env n below → Known x y s e env (LoopRound x y s e env n) below
  of_turn top x y s e env n below t =
      let c : LoopScope P (grown ts) core good x e env below = t.scope in
      record {
        straight = t.straight;
        var = t.var;
        row = t.row;
        parent = ready_over P (grown ts) core good y (env y) (LoopRound x y s e env n) below t.parent;
        ended = t.body;
        body = c.body;
        placed = c.placed;
        rows_known = c.known;
        outer = c.outer;
        uses = c.uses;
        ready = λ z i. ready_over P (grown ts) core good z (env z) (LoopRound x y s e env n) below (c.here z i).0;
        bound = λ z i. (c.here z i).1;
        low = c.low;
        high = c.high;
        solid = tt;
      }

  of_next : (x y : ℕ) (s : Step) (e d : BodyTree) (env : Env) (below : List Frame) → Loop P (grown ts) core good x y s e env (Rest (Then (For x y s e) d) env ∷ below) → Known x y s e env (Rest (Then (For x y s e) d) env) below
  of_next x y s e d env below l =
      let c : LoopScope P (grown ts) core good x e env (Rest (Then (For x y s e) d) env ∷ below) = l.scope in
      record {
        straight = l.straight;
        var = l.var;
        row = l.row;
        parent = l.parent;
        ended = l.body;
        body = c.body;
        placed = c.placed;
        rows_known = c.known;
        outer = c.outer;
        uses = c.uses;
        ready = λ z i. (c.here z i).0;
        bound = λ z i. (c.here z i).1;
        low = c.low;
        high = c.high;
        solid = tt;
      }

  -- the facts from a frame on
  from_frame : (pre top fs : List Frame) → FactsAt pre (top ++ fs) → FactsAt (pre ++ top) fs
  from_frame pre [] fs h = subst (λ (z : List Frame). FactsAt z fs) (sym (append-nil pre)) h
  from_frame pre (f ∷ top) fs h = subst (λ (z : List Frame). FactsAt z fs) (append_assoc pre (f ∷ []) top) (from_frame (pre ++ f ∷ []) top fs h.1)

  known_at : (top : List Frame) (f : Frame) (below : List Frame) (x y : ℕ) (s : Step) (e : BodyTree) (env : Env) → IsOfLoop x y s e env f → FactsAt top (f ∷ below) → Known x y s e env f below × FactsAt (top ++ f ∷ []) below
  known_at top f below x y s e env (inl (n, q)) h =
      let t : FactsAt top (LoopRound x y s e env n ∷ below) = subst (λ (z : Frame). FactsAt top (z ∷ below)) q h in
      subst (λ (z : Frame). Known x y s e env z below × FactsAt (top ++ z ∷ []) below) (sym q) (of_turn top x y s e env n below t.0, t.1)
  known_at top f below x y s e env (inr (d, q)) h =
      let t : FactsAt top (Rest (Then (For x y s e) d) env ∷ below) = subst (λ (z : Frame). FactsAt top (z ∷ below)) q h in
      subst (λ (z : Frame). Known x y s e env z below × FactsAt (top ++ z ∷ []) below) (sym q) (of_next x y s e d env below (t.0).0, t.1)

  module _ (k : ℕ) (top : List Frame) (f : Frame) (below : List Frame) (x y : ℕ) (s : Step) (e : BodyTree) (env : Env) (is : IsOfLoop x y s e env f) (st : IsPoint P (reading core).body env0 (so_far core P k) (top ++ f ∷ below)) where
    both : Known x y s e env f below × FactsAt (top ++ f ∷ []) below
    both = known_at top f below x y s e env is (from_frame [] top (f ∷ below) (facts P (grown ts) core good (root_in ts) (so_far core P k) (top ++ f ∷ below) st))

    here_held : (m : Node) → In m P.nodes → is_live (reading core) P (so_far core P k) m ≡ true → In m (held (reading core) P (so_far core P k))
    here_held m i h = In-kept (is_held (reading core) P (so_far core P k)) m P.nodes i (live_held P (grown ts) (root_in ts) core good (so_far core P k) (top ++ f ∷ below) st m i h)

    -- what is ready at the loop gives live roles
    site_held : (r : RoleRowTree) (n m : Node) → In r (roles_of core) → ReadyAt r.var n (f ∷ below) → In m P.nodes → gives P (serial_of n) [] r.tail r.kind m ≡ true → In m (held (reading core) P (so_far core P k))
    site_held r n m row a i g =
        here_held m i (site_live P (grown ts) (root_in ts) core good (so_far core P k) (top ++ f ∷ below) st r n m row (ready_under P (grown ts) core good r.var n top (f ∷ below) a) i g)

    -- a variable that the body uses may be used there, if it has a smaller number
    in_outer : (z : ℕ) → UsesIn z e → z < x → In z both.0.outer
    in_outer z u l =
        let c = both.0 in
        elim (uses_known (λ (i : ℕ). ends i) c.body (ends x) (x ∷ c.outer) z c.uses (subst (λ (d : BodyTree). UsesIn z d) c.placed u)) [
          | inl i ↦ elim i [
            | inl g ↦ absurd (omega arith)
            | inr j ↦ j
          ]
          | inr i ↦ (let h = c.high z i in absurd (omega arith))
        ]

    pub uses : (z : ℕ) → UsesIn z e → z < x → Bound_in z (env z) below × In (env z) (held (reading core) P (so_far core P k))
    uses z u l =
        let i = in_outer z u l in
        let b = both.0.bound z i in (
          b,
          here_held (env z) (both.0.ready z i).inside
              (bound_live P (grown ts) (root_in ts) core good (so_far core P k) (top ++ f ∷ below) st z (env z) (top ++ f ∷ []) below (sym (append_assoc top (f ∷ []) below)) (solid_last top f both.0.solid) both.1 b),
        )

    pub frees : (z : ℕ) → FreeIn z e → (z ≡ x) ⊎ (z < x)
    frees z u =
        let c = both.0 in
        elim (free_known (λ (i : ℕ). ends i) c.body (ends x) (x ∷ c.outer) z c.uses (subst (λ (d : BodyTree). FreeIn z d) c.placed u)) [
          | inl g ↦ inl (sym g)
          | inr j ↦ inr (c.low z j)
        ]

    row_of : (r : RoleRowTree) → AsksIn r e → In r (roles_of core)
    row_of r a = let c = both.0 in c.rows_known r (asks_row (λ (i : ℕ). ends i) c.body (ends x) r (subst (λ (d : BodyTree). AsksIn r d) c.placed a))

    pub others_held : (r : RoleRowTree) → AsksIn r e → r.var < x → (m : Node) → In m P.nodes → gives P (serial_of (env r.var)) [] r.tail r.kind m ≡ true → In m (held (reading core) P (so_far core P k))
    others_held r a l m im g = site_held r (env r.var) m (row_of r a) (both.0.ready r.var (in_outer r.var (asks_uses e r a) l)) im g

    module _ (none : HasNoOff e) (j : Node) (i : In j (matches P (serial_of (env y)) (s ∷ []))) where
      match_in : In j P.nodes
      match_in = (Matches-in P (serial_of (env y)) (s ∷ []) j i).0

      -- the loop's variable isn't straight, so each match has its base
      far : (c : Bool) → V x ≡ child_var c x s (V y) → ReadyAt x j (f ∷ below)
      far true c =
          let q = row_statement P (grown ts) (root_in ts) core good (so_far core P k) (top ++ f ∷ below) st (own_row x) both.0.row in
          let o : OffTree = statement V (roles_of core) q.0 (own_row x) in
          absurd (no_off e none o (both.0.ended o (in_end (offs_of core) x o q.2 (ap (λ (z : Var). z.base) c))))
      far false c = ready_far P (grown ts) core good x y s c (env y) j (f ∷ below) both.0.parent i

      given_held : (r : RoleRowTree) → In r (roles_of core) → r.var ≡ x → (m : Node) → In m P.nodes → gives P (serial_of j) [] r.tail r.kind m ≡ true → In m (held (reading core) P (so_far core P k))
      given_held r row v m im g = site_held r j m row (subst (λ (z : ℕ). ReadyAt z j (f ∷ below)) (sym v) (far both.0.straight both.0.var)) im g

      pub match_held : In j (held (reading core) P (so_far core P k))
      match_held = given_held (own_row x) both.0.row refl j match_in (eq-eqb (serial_of j) (serial_of j) refl)

      pub asked_held : (r : RoleRowTree) → AsksIn r e → r.var ≡ x → (m : Node) → In m P.nodes → gives P (serial_of j) [] r.tail r.kind m ≡ true → In m (held (reading core) P (so_far core P k))
      asked_held r a v m im g = given_held r (row_of r a) v m im g

-- ---- in a core state

abbrev HeldAt : PlanTree → Tree → ℕ → Node → Type 0
HeldAt plan P k m = In m (model.held plan P (points.so_far plan P k))

-- what is held of the core's run is held
as_held : (core : BodyTree) (good : Good core) (ts : List TreeToken) (k : ℕ) (m : Node) → In m (held (reading core) (tree ts) (so_far core (tree ts) k)) → HeldAt (plan_of core) (tree ts) k m
as_held core good ts k m i = subst (λ (q : List Node). In m q) (sym (held_is core good (tree ts) (points.so_far (plan_of core) (tree ts) k))) i

pub turn_uses : TurnUses
turn_uses plan P k x y s e env below a z u l =
    from_state a.core a.good (λ plan P k. points.PointAt plan P k (a.top ++ a.frame ∷ below) → Bound_in z (env z) below × HeldAt plan P k (env z))
    (λ ts k st. let h = uses a.core a.good ts k a.top a.frame below x y s e env a.is_loop st z u l in (h.0, as_held a.core a.good ts k (env z) h.1)) plan a.placed P k a.state a.point

pub turn_free : TurnFree
turn_free plan P k x y s e env below a z u =
    from_state a.core a.good (λ plan P k. points.PointAt plan P k (a.top ++ a.frame ∷ below) → (z ≡ x) ⊎ (z < x))
    (λ ts k st. frees a.core a.good ts k a.top a.frame below x y s e env a.is_loop st z u) plan a.placed P k a.state a.point

pub turn_held : TurnHeld
turn_held plan P k x y s e env below a none j i =
    from_state a.core a.good (λ plan P k. points.PointAt plan P k (a.top ++ a.frame ∷ below) → In j (matches P (serial_of (env y)) (s ∷ [])) → HeldAt plan P k j
    × ((r : RoleRowTree) → AsksIn r e → r.var ≡ x → (m : Node) → In m P.nodes → gives P (serial_of j) [] r.tail r.kind m ≡ true → HeldAt plan P k m))
    (λ ts k st i. (
      as_held a.core a.good ts k j (match_held a.core a.good ts k a.top a.frame below x y s e env a.is_loop st none j i),
      (λ r q v m im g. as_held a.core a.good ts k m (asked_held a.core a.good ts k a.top a.frame below x y s e env a.is_loop st none j i r q v m im g)),
    )) plan a.placed P k a.state a.point i

pub other_held : OtherHeld
other_held plan P k x y s e env below a r q l m im g =
    from_state a.core a.good (λ plan P k. points.PointAt plan P k (a.top ++ a.frame ∷ below) → In m P.nodes → gives P (serial_of (env r.var)) [] r.tail r.kind m ≡ true → HeldAt plan P k m)
    (λ ts k st im g. as_held a.core a.good ts k m (others_held a.core a.good ts k a.top a.frame below x y s e env a.is_loop st r q l m im g)) plan a.placed P k a.state a.point im g
