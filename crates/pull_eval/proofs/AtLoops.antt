-- At a guarded loop what its body uses is bound, and what its conditions ask about is held. So the matches at which it does nothing are told by what is looked at.
use Rattle.std.proofs.Common.{◌≡◌, ◌<◌, ℕ, Bool, true, false, not, cond, List, [], ◌∷◌, ◌++◌, Option, Some, None, refl, sym, ◌∙◌, ap, subst, inl, inr, arith}
use Rattle.std.specs.FinMap.{get}
use Rattle.std.proofs.lemmas.Bool.{eq-eqb, ne_eqb}
use Rattle.gcx_base.specs.declared.ids.Serial.{Serial}
use Rattle.gcx_base.specs.declared.steps.Step.{Step}
use Rattle.gcx_base.specs.declared.rel.Rel.TheVariants.{Eq}
use Rattle.gcx_model.specs.Tree.{Node, serial_of, above, within, Tree, is_closed}
use Rattle.gcx_model.specs.Paths.{matches, hits}
use Rattle.gcx_model.specs.Members.{In}
use Rattle.gcx_model.specs.Core.{BodyTree, Compare, Whole, RoleRowTree}
use Rattle.gcx_model.specs.Roles.{cond_rows, operand_rows}
use Rattle.gcx_model.specs.Truth.{Env, bind_var}
use Rattle.gcx_model.specs.Held.{gives, is_held}
use Rattle.gcx_model.specs.Past.{Past}
use Rattle.gcx_model.specs.Points.{so_far, Frame, Rest, LoopRound, CopyPart, PointAt, Bound_in}
use Rattle.tree_laws.proofs.Lists.{In-filter, any_from}
use Rattle.tree_laws.proofs.Matches.{Matches-in}
use Rattle.tree_laws.proofs.Fed.{grown_from}
use Rattle.tree_laws.proofs.Freeze.{closed_below, hits_within}
use Rattle.placed_laws.proofs.Local.{within_is}
use Rattle.pass_laws.specs.Idle.{IsQuiet, FreeIn}
use Rattle.pass_laws.specs.Scopes.{UsesIn, HasNoOff, AtLoop}
use Rattle.pass_laws.specs.ValueLists.{IsValueAt}
use Rattle.pass_laws.proofs.LoopFacts.{asks_uses, free_uses, turn_uses, turn_free, turn_held, other_held}
use Rattle.buf_tree.specs.View.{View}
use Rattle.cond_eval.specs.Asking.{IsBound}
use Rattle.cond_eval.specs.Reads.{NodeAt}
use Rattle.cond_eval.specs.Comparing.{KeepsMatches}
use Rattle.cond_eval.proofs.Rows.{kept_at, at_node, closed_told}
use Rattle.pull_eval.specs.Acting.{Beside}
use Rattle.pull_eval.specs.Turns.{Leaps, IsTurns, KeepsTurns, Meets, turns_at}
use Rattle.pull_eval.specs.Guards.{IsGuardOf, own_path, other_path, left_path, right_path, AreBoundBelow, AreClosedBelow}
use Rattle.pull_eval.specs.Leaps.{LoopAt, IsClosedAt, PassedFrom, serial_from, GoesWith, Looks}
use Rattle.pull_eval.specs.declared.guard.Guard.{Guard}
use Rattle.pull_eval.specs.declared.turns.Turns.{Turns}
use Rattle.pull_eval.specs.declared.turns.Leap.{Leap}
use Rattle.pull_eval.specs.declared.position.Position.{Position}
use Rattle.pull_eval.proofs.HeldRows.{holds, held_rows}
use Rattle.pull_eval.proofs.Frames.{plain_point}
use Rattle.pull_eval.proofs.Guarding.{guarded_no_off}
use Rattle.pull_eval.proofs.Needing.{held_now}
use Rattle.pull_eval.proofs.Leaping.{leaps_weaken}
use Rattle.pull_eval.proofs.Quieting.{quiet_there}

-- ---- frames

-- what is bound below is bound
bound_under : (x : ℕ) (n : Node) (top fs : List Frame) → Bound_in x n fs → Bound_in x n (top ++ fs)
bound_under x n [] fs h = h
bound_under x n (Rest d env ∷ top) fs h = bound_under x n top fs h
bound_under x n (LoopRound z y s e env m ∷ top) fs h = inr (bound_under x n top fs h)
bound_under x n (CopyPart z env k ∷ top) fs h = bound_under x n top fs h

bound_below : (x : ℕ) (n : Node) (f : Frame) (fs : List Frame) → Bound_in x n fs → Bound_in x n (f ∷ fs)
bound_below x n (Rest d env) fs h = h
bound_below x n (LoopRound z y s e env m) fs h = inr h
bound_below x n (CopyPart z env k) fs h = h

same_pair : (p s q t : ℕ) → ◌≡◌ {A = Option (ℕ × ℕ)} (Some (p, s)) (Some (q, t)) → (p ≡ q) × (s ≡ t)
same_pair p s q t e = let h : ◌≡◌ {A = ℕ × ℕ} (p, s) (q, t) = cc in (ap (λ (z : ℕ × ℕ). z.0) h, ap (λ (z : ℕ × ℕ). z.1) h)

no_pair : (p s : ℕ) → ◌≡◌ {A = Option (ℕ × ℕ)} None (Some (p, s)) → ⊥
no_pair p s e = cc

-- ---- the rows of the two paths

abbrev path_row : ℕ → List Step → RoleRowTree
path_row x steps = record { var = x; tail = steps; kind = Whole }

own_row_of : (g : Guard) → In (path_row g.own_var.0 g.own.now) (cond_rows (Compare (left_path g) Eq (right_path g)))
own_row_of g = go g.is_left
  where
    go : (c : Bool) → In (path_row g.own_var.0 g.own.now) (operand_rows (cond c (own_path g) (other_path g)) ++ operand_rows (cond c (other_path g) (own_path g)))
    go true = inl refl
    go false = inr (inl refl)

other_row_of : (g : Guard) → In (path_row g.other_var.0 g.other.now) (cond_rows (Compare (left_path g) Eq (right_path g)))
other_row_of g = go g.is_left
  where
    go : (c : Bool) → In (path_row g.other_var.0 g.other.now) (operand_rows (cond c (own_path g) (other_path g)) ++ operand_rows (cond c (other_path g) (own_path g)))
    go true = inr (inl refl)
    go false = inl refl

module _ (w : Position) (v : View) (past : Past) (k : ℕ) (b : Beside w v past k) (begun : w.is_begun ≡ true) (no_copy : w.copying ≡ None) (g : Guard) (x : ℕ) (s : Step) (e : BodyTree) (p : ℕ)
    (is : IsGuardOf g x e) (a : LoopAt past b.position.fs v.rows x s e p) where
  abbrev P : Tree
  P = past.tree

  abbrev z : ℕ
  z = g.other_var.0

  abbrev context : Node
  context = a.env a.from

  abbrev ms : List Node
  ms = matches P (serial_of context) (s ∷ [])

  at_loop : AtLoop past.plan P k x a.from s e a.env a.below
  at_loop = record {
    core = b.buffer.is_past.core;
    good = b.buffer.is_past.good;
    placed = b.buffer.is_past.placed;
    state = b.state;
    top = a.top;
    frame = a.frame;
    is_loop = a.is_loop;
    point = subst (λ (fs : List Frame). PointAt past.plan P k fs) a.fs_are (plain_point w v.rows past.plan P k b.position no_copy).1;
  }

  pub context_row : NodeAt v.rows P (holds past) p context
  context_row = kept_at v.rows P (holds past) (held_rows v past b.buffer) context p a.among a.held a.context_at

  -- ---- what the body uses

  -- a variable that it uses and that has a smaller number is bound to a row
  used_row : (y : ℕ) → UsesIn y e → y < x → (q : IsBound v.rows w.env y (a.env y)) × NodeAt v.rows P (holds past) q.place (a.env y)
  used_row y u l =
      let h = turn_uses past.plan P k x a.from s e a.env a.below at_loop y u l in
      let in_fs : Bound_in y (a.env y) b.position.fs = subst (λ (fs : List Frame). Bound_in y (a.env y) fs) (sym a.fs_are) (bound_under y (a.env y) a.top (a.frame ∷ a.below) (bound_below y (a.env y) a.frame a.below h.0)) in
      let q = b.position.bound begun y (a.env y) in_fs in
      (q, kept_at v.rows P (holds past) (held_rows v past b.buffer) (a.env y) q.place (In-filter (is_held past.plan P (so_far past.plan P k)) (a.env y) P.nodes h.1).0 (held_now w v past k b (a.env y) h.1) q.at)

  pub bound_used : AreBoundBelow v.rows w.env x e
  bound_used y u l = let h = used_row y u l in (h.0.place, serial_of (a.env y), h.0.pair, record { cell = h.1.cell; among = h.1.cell_among; place = h.1.at })

  -- the other path's variable is
  other_used : UsesIn z e
  other_used = asks_uses e (path_row z g.other.now) (is.asks (path_row z g.other.now) (other_row_of g))

  pub other_row : (q : IsBound v.rows w.env z (a.env z)) × NodeAt v.rows P (holds past) q.place (a.env z)
  other_row = used_row z other_used is.other

  pub other_there : ◌≡◌ {A = Option (ℕ × ℕ)} None (get w.env z) → ⊥
  other_there f = no_pair other_row.0.place (serial_of (a.env z)) (f ∙ other_row.0.pair)

  -- to the row at this place
  pub other_at : (q outer : ℕ) → get w.env z ≡ Some (q, outer) → NodeAt v.rows P (holds past) q (a.env z)
  other_at q outer pair = subst (λ (c : ℕ). NodeAt v.rows P (holds past) c (a.env z)) (same_pair other_row.0.place (serial_of (a.env z)) q outer (sym other_row.0.pair ∙ pair)).0 other_row.1

  -- ---- what is held

  none_off : HasNoOff e
  none_off = guarded_no_off (left_path g) (right_path g) e is.guarded

  -- what a path reaches from the node is given the role of the path's row
  whole_given : (n : Node) (tail : List Step) (j m : Node) → In j (matches P (serial_of n) tail) → In m P.nodes → within (serial_of j) m ≡ true → gives P (serial_of n) [] tail Whole m ≡ true
  whole_given n tail j m i im h = let q = Matches-in P (serial_of n) tail j i in any_from (hits (serial_of n) tail) j (above m) (within_is P (grown_from P b.buffer.is_past.grown) j m q.0 im h) q.1

  pub keeps_turns : (t : Turns) → GoesWith t s g → KeepsTurns P (holds past) t context
  keeps_turns t by j i =
      let im : In j ms = subst (λ (q : Step). In j (matches P (serial_of context) (q ∷ []))) by.step i in
      let h = turn_held past.plan P k x a.from s e a.env a.below at_loop none_off j im in (
        held_now w v past k b j h.0,
        λ m n y l inside. (let n' : In m (matches P (serial_of j) g.own.now) = subst (λ (q : List Step). In m (matches P (serial_of j) q)) by.own n in
            held_now w v past k b y (h.1 (path_row g.own_var.0 g.own.now) (is.asks (path_row g.own_var.0 g.own.now) (own_row_of g)) is.own y l (whole_given j g.own.now m y n' l inside))),
      )

  pub keeps_other : (t : Turns) → GoesWith t s g → KeepsMatches P (holds past) (a.env z) t.other.now
  keeps_other t by m n y l inside =
      let n' : In m (matches P (serial_of (a.env z)) g.other.now) = subst (λ (q : List Step). In m (matches P (serial_of (a.env z)) q)) by.other n in
      held_now w v past k b y (other_held past.plan P k x a.from s e a.env a.below at_loop (path_row z g.other.now) (is.asks (path_row z g.other.now) (other_row_of g)) is.other y l (whole_given (a.env z) g.other.now m y n' l inside))

  -- ---- where all is closed

  module _ (shut : IsClosedAt v.rows p) (settled : AreClosedBelow v.rows w.env x e) where
    row_closed : (q : ℕ) (n : Node) (at : NodeAt v.rows P (holds past) q n) → at.cell.row.is_open ≡ false → is_closed P n ≡ true
    row_closed q n at f = sym (closed_told v.rows P (holds past) (held_rows v past b.buffer) at.cell n (at_node v.rows P (holds past) q n at)) ∙ ap not f

    pub context_closed : is_closed P context ≡ true
    context_closed = row_closed p context context_row (shut context_row.cell context_row.cell_among context_row.at)

    used_closed : (y : ℕ) → UsesIn y e → y < x → is_closed P (a.env y) ≡ true
    used_closed y u l =
        let h = used_row y u l in
        row_closed h.0.place (a.env y) h.1 (settled y u l h.0.place (serial_of (a.env y)) h.0.pair h.1.cell h.1.cell_among h.1.at)

    pub other_closed : is_closed P (a.env z) ≡ true
    other_closed = used_closed z other_used is.other

    -- the body does nothing at a match where the two paths have no value in common
    module _ (j : Node) (i : In j ms) (apart : (u : List ℕ) → IsValueAt P j g.own.now u → IsValueAt P (a.env z) g.other.now u → ⊥) where
      abbrev env : Env
      env = bind_var a.env x j

      own_is : env g.own_var.0 ≡ j
      own_is = ap (λ (c : Bool). cond c j (a.env g.own_var.0)) (eq-eqb g.own_var.0 x is.own)

      lower_is : (y : ℕ) → y < x → env y ≡ a.env y
      lower_is y l = ap (λ (c : Bool). cond c j (a.env y)) (ne_eqb y x (λ f. omega (arith, l, f)))

      match_closed : is_closed P j ≡ true
      match_closed = let q = Matches-in P (serial_of context) (s ∷ []) j i in closed_below P (grown_from P b.buffer.is_past.grown) context j q.0 (hits_within (serial_of context) (s ∷ []) j q.1) context_closed

      free_closed : (y : ℕ) → FreeIn y e → is_closed P (env y) ≡ true
      free_closed y f = elim (turn_free past.plan P k x a.from s e a.env a.below at_loop y f) [
        | inl q ↦ subst (λ (n : Node). is_closed P n ≡ true) (sym (ap env (q ∙ sym is.own) ∙ own_is)) match_closed
        | inr l ↦ subst (λ (n : Node). is_closed P n ≡ true) (sym (lower_is y l)) (used_closed y (free_uses e y f) l)
      ]

      pub quiet : IsQuiet e env P
      quiet = quiet_there P b.buffer.is_past.grown g x e is env
          (subst (λ (n : Node). In n P.nodes) (sym own_is) (Matches-in P (serial_of context) (s ∷ []) j i).0)
          (subst (λ (n : Node). is_closed P n ≡ true) (sym own_is) match_closed)
          (subst (λ (n : Node). In n P.nodes) (sym (lower_is z is.other)) other_row.1.among)
          (subst (λ (n : Node). is_closed P n ≡ true) (sym (lower_is z is.other)) other_closed)
          (λ u f h. apart u (subst (λ (n : Node). IsValueAt P n g.own.now u) own_is f) (subst (λ (n : Node). IsValueAt P n g.other.now u) (lower_is z is.other) h))
          free_closed

    -- so what is looked at tells from where the loop goes on
    module _ (t u : Turns) (by : GoesWith t s g) (q : ℕ) (outer : ℕ) (pair : get w.env z ≡ Some (q, outer)) (from : Option Serial) (l : Leap) (looks : Looks v.rows t u p q outer from l) (stands : IsTurns v.rows P t) where
      number_is : serial_of (a.env z) ≡ outer
      number_is = (same_pair other_row.0.place (serial_of (a.env z)) q outer (sym other_row.0.pair ∙ pair)).1

      looked : IsTurns v.rows P u × Leaps v.rows (turns_at P t context) (PassedFrom from (λ j. Meets P t (a.env z) j → ⊥)) (serial_from from) l
      looked = looks P (holds past) context (a.env z) context_row context_closed (keeps_turns t by)
          (other_at q outer pair) other_closed number_is (keeps_other t by) stands

      passed : (f : Option Serial) (j : Node) → In j ms → PassedFrom f (λ j. Meets P t (a.env z) j → ⊥) j → PassedFrom f (λ j. IsQuiet e (bind_var a.env x j) P) j
      passed None j i h = h
      passed (Some f) j i h = quiet j i (λ c own other. h (c, subst (λ (q : List Step). IsValueAt P j q c) (sym by.own) own, subst (λ (q : List Step). IsValueAt P (a.env z) q c) (sym by.other) other))

      pub leapt : Leaps v.rows ms (PassedFrom from (λ j. IsQuiet e (bind_var a.env x j) P)) (serial_from from) l
      leapt = leaps_weaken v.rows ms (PassedFrom from (λ j. Meets P t (a.env z) j → ⊥)) (PassedFrom from (λ j. IsQuiet e (bind_var a.env x j) P)) (serial_from from) l (passed from)
          (subst (λ (c : Step). Leaps v.rows (matches P (serial_of context) (c ∷ [])) (PassedFrom from (λ j. Meets P t (a.env z) j → ⊥)) (serial_from from) l) by.step looked.1)

      pub stands_on : IsTurns v.rows P u
      stands_on = looked.0
