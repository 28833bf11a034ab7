-- What a token leaves of the position of a machine: the rows that stay keep their places, and that of a new node has a new number.
use Rattle.std.proofs.Common.{◌≡◌, ◌⊎◌, ⊎_elim, ℕ, ◌<◌, ◌≤◌, Bool, true, false, cond, List, [], ◌∷◌, ◌++◌, length, reverse, refl, sym, ◌∙◌, ap, subst, inl, inr, arith, append_assoc, Some, None, Option, nat_lt}
use Rattle.std.specs.List.{filter}
use Rattle.std.proofs.lemmas.List.{length-append}
use Rattle.gcx_base.specs.declared.steps.Step.{Step}
use Rattle.gcx_model.specs.Tree.{Node, Root, serial_of, Tree, opening}
use Rattle.gcx_model.specs.Paths.{matches}
use Rattle.gcx_model.specs.Answer.{child_step}
use Rattle.gcx_model.specs.Members.{In}
use Rattle.gcx_model.specs.Core.{ItemTree, Write, Copy, For, If, SignOff, BodyTree, Nil, Then, PlanTree}
use Rattle.gcx_model.specs.Truth.{Env, bind_var}
use Rattle.gcx_model.specs.Cores.{Good}
use Rattle.gcx_model.specs.Placed.{Placed}
use Rattle.gcx_model.specs.Held.{path_of, is_held}
use Rattle.gcx_model.specs.Growth.{Leads}
use Rattle.gcx_model.specs.Copying.{CopyFrame, Inside, FinePoint}
use Rattle.gcx_model.specs.Points.{actions, so_far, CoreState, Frame, Rest, LoopRound, CopyPart, later, PointAt, Bound_in}
use Rattle.tree_laws.proofs.Lists.{In-filter, In-append}
use Rattle.tree_laws.proofs.Matches.{Numbered-high, Matches-in}
use Rattle.placed_laws.proofs.PointNeeds.{turn_law}
use Rattle.move_laws.proofs.CopyMoves.{fine_point_stays, copy_frames_stand, inside_held}
use Rattle.placed_laws.proofs.Evaluator as over
use Rattle.tree_laws.proofs.Fed.{root_from, grown_from}
use Rattle.placed_laws.proofs.FromPlans.{from_state}
use Rattle.run_laws.proofs.Feeds.{nodes_grow, matches_grow}
use Rattle.node_store.specs.declared.store.Place.{Place}
use Rattle.buf_tree.specs.Shape.{Cell, num}
use Rattle.cond_eval.specs.Asking.{PlacedAt}
use Rattle.pull_eval.specs.TurnsStay.{all_grow}
use Rattle.pull_eval.specs.Position.{items, KnowsNext, IsUpTo, IsRound, SeenItem, SeenTo, AreFrames, none, alone, in_round, PresentAt, Copies, StandsAt}
use Rattle.pull_eval.specs.declared.block.Next.{Next}
use Rattle.pull_eval.specs.declared.block.Next.TheVariants.{Unsought, Found, NoneUpTo}
use Rattle.pull_eval.specs.declared.block.Round.{Round as CodeRound}
use Rattle.pull_eval.specs.declared.block.Block.{Block}
use Rattle.pull_eval.specs.declared.block.Copying.{Copying}
use Rattle.pull_eval.specs.declared.position.Position.{Position}

-- each row was there, at the same place, or has a number that is new
abbrev pub Comes : (rows now : List Cell) → (nodes : ℕ) → Type 0
Comes rows now k = (c : Cell) → In c now → ((d : Cell) × In d rows × (d.place ≡ c.place) × (num d ≡ num c)) ⊎ (k ≤ num c)

filter-append : {X : Type 0} (p : X → Bool) (xs ys : List X) → filter p (xs ++ ys) ≡ filter p xs ++ filter p ys
filter-append p [] ys = refl
filter-append p (x ∷ xs) ys = go (p x) (filter-append p xs ys)
  where
    go : (b : Bool) → filter p (xs ++ ys) ≡ filter p xs ++ filter p ys → cond b (x ∷ filter p (xs ++ ys)) (filter p (xs ++ ys)) ≡ cond b (x ∷ filter p xs) (filter p xs) ++ filter p ys
    go true h = ap (λ z. x ∷ z) h
    go false h = h

-- What is bound at a point is a node of the tree.
bound_node : (core : BodyTree) → Good core → (plan : PlanTree) → Placed core plan → (P : Tree) (k : ℕ) → CoreState plan P k → (top : List Frame) (f : Frame) (below : List Frame) → PointAt plan P k (top ++ f ∷ below)
    → (x : ℕ) (n : Node) → Bound_in x n below → In n P.nodes
bound_node core good plan pl P k r top f below = from_state core good (λ plan P k. PointAt plan P k (top ++ f ∷ below) → (x : ℕ) (n : Node) → Bound_in x n below → In n P.nodes)
    (λ ts k st x n b. (over.below_hit core good ts k top below f st x n b).0) plan pl P k r

-- The frame at the top is the rest of a body.
top_rest : (rows : List Cell) (P : Tree) (b : Block) (bs : List Block) (fs : List Frame) → AreFrames rows P (b ∷ bs) fs → (d : BodyTree) × (v : Env) × (below : List Frame) × (fs ≡ Rest d v ∷ below)
top_rest rows P b bs fs (alone {env = env} {fs = below} free seen rest) = (items b.rest.now, env, below, refl)
top_rest rows P b bs fs (in_round {fs = below} r {x} {y} {s} {e} {env} {n} one round looked seen rest) = (items b.rest.now, bind_var env x n, LoopRound x y s e env n ∷ below, refl)

module _ (P Q : Tree) (l : Leads opening P) (m : Leads P Q) (rows now : List Cell) (comes : Comes rows now (length P.nodes)) where
  low : (n : Node) → In n P.nodes → serial_of n < length P.nodes
  low n i = let h = Numbered-high 0 P.nodes (grown_from P l).numbered n i in omega arith

  longer : length P.nodes ≤ length Q.nodes
  longer = let g = nodes_grow P Q l m in let e = ap length g.1 ∙ length-append P.nodes g.0 in omega arith

  pub placed_on : (n : Node) (p : ℕ) → In n P.nodes → PlacedAt rows (serial_of n) p → PlacedAt now (serial_of n) p
  placed_on n p i h c j e = ⊎_elim (λ d. sym d.2 ∙ h d.0 d.1 (d.3 ∙ e)) (λ q. let b = low n i in absurd (omega arith)) (comes c j)

  -- the later matches go on
  later_on : (n : Node) (k : ℕ) (path : List Step) → (new : List Node) × (later n (matches Q k path) ≡ later n (matches P k path) ++ new) × ((j : Node) → In j new → length P.nodes ≤ serial_of j)
  later_on n k path =
      let g = matches_grow P Q l m k path in
      (later n g.0, ap (later n) g.1 ∙ filter-append (λ (j : Node). nat_lt (serial_of n) (serial_of j)) (matches P k path) g.0, λ j i. g.2 j (In-filter (λ (j : Node). nat_lt (serial_of n) (serial_of j)) j g.0 i).0)

  next_on : (n : Node) (k : ℕ) (path : List Step) (next : Next) → KnowsNext rows (later n (matches P k path)) next → IsUpTo P n next → KnowsNext now (later n (matches Q k path)) next
  next_on n k path Unsought h u = tt
  next_on n k path (Found p) h u =
      let g = later_on n k path in
      let i : In h.0 (later n (matches P k path)) = subst (λ (z : List Node). In h.0 z) (sym h.2) (inl refl) in
      let j = (Matches-in P k path h.0 (In-filter (λ (j : Node). nat_lt (serial_of n) (serial_of j)) h.0 (matches P k path) i).0).0 in
      (h.0, h.1 ++ g.0, g.1 ∙ ap (λ (z : List Node). z ++ g.0) h.2, placed_on h.0 p.0 j h.3)
  next_on n k path (NoneUpTo s) h u = λ j i.
      let g = later_on n k path in
      ⊎_elim (λ a. h j a) (λ a. let q = g.2 j a in let r = u.1 in omega arith) (In-append j (later n (matches P k path)) g.0 (subst (λ (z : List Node). In j z) g.1 i))

  upto_on : (n : Node) (next : Next) → IsUpTo P n next → IsUpTo Q n next
  upto_on n Unsought h = tt
  upto_on n (Found p) h = tt
  upto_on n (NoneUpTo s) h = (h.0, let a = h.1 in let b = longer in omega arith)

  round_on : (r : CodeRound) (x y : ℕ) (s : Step) (e : BodyTree) (env : Env) (n : Node) → In (env y) P.nodes → In n P.nodes → IsRound rows P r x y s e env n → IsRound now Q r x y s e env n
  round_on r x y s e env n c i h = record {
    var = h.var;
    step = h.step;
    body = h.body;
    context = placed_on (env y) r.context.0 c h.context;
    present = placed_on n r.present.0 i h.present;
    next = next_on n (serial_of (env y)) (s ∷ []) r.next h.next h.upto;
    upto = upto_on n r.next h.upto;
  }

  -- the first match of a loop still isn't among the nodes up to this one
  seen_item_on : (env : Env) (i : ItemTree) (k : ℕ) → SeenItem P env i k → SeenItem Q env i k
  seen_item_on env (Write b) k h = tt
  seen_item_on env (Copy x) k h = tt
  seen_item_on env (If c a b) k h = tt
  seen_item_on env (SignOff o) k h = tt
  seen_item_on env (For x y s d) k h =
      let g = matches_grow P Q l m (serial_of (env y)) (s ∷ []) in
      let z = low Root (root_from P l) in (
        λ j i. ⊎_elim (λ a. h.0 j a) (λ a. let q = g.2 j a in ⊎_elim (λ e. omega arith) (λ u. omega arith) h.1) (In-append j (matches P (serial_of (env y)) (s ∷ [])) g.0 (subst (λ (z : List Node). In j z) g.1 i)),
        ⊎_elim (λ e. inl e) (λ u. inr (let b = longer in omega arith)) h.1,
      )

  seen_on : (env : Env) (d : BodyTree) (k : ℕ) → SeenTo P env d k → SeenTo Q env d k
  seen_on env Nil k h = tt
  seen_on env (Then i d) k h = seen_item_on env i k h

  module _ (core : BodyTree) (good : Good core) (plan : PlanTree) (placed : Placed core plan) (k : ℕ) (state : CoreState plan P k) where
    -- the nodes of a round are in the tree
    round_nodes : (top below : List Frame) (x y : ℕ) (s : Step) (e : BodyTree) (env : Env) (n : Node) → PointAt plan P k (top ++ LoopRound x y s e env n ∷ below) → In (env y) P.nodes × In n P.nodes
    round_nodes top below x y s e env n at =
        let t = turn_law core good plan placed P k state top below x y s e env n at in
        (bound_node core good plan placed P k state top (LoopRound x y s e env n) below at y (env y) t.0, (Matches-in P 0 (path_of plan x) n t.2).0)

    pub frames_on : (top : List Frame) (bs : List Block) (fs : List Frame) → PointAt plan P k (top ++ fs) → AreFrames rows P bs fs → AreFrames now Q bs fs
    frames_on top bs fs at none = none
    frames_on top bs fs at (alone {b = b} {bs = others} {env = env} {fs = below} free seen rest) =
        alone free (seen_on env (items b.rest.now) b.seen seen)
        (frames_on (top ++ Rest (items b.rest.now) env ∷ []) others below (subst (λ (z : List Frame). PointAt plan P k z) (sym (append_assoc top (Rest (items b.rest.now) env ∷ []) below)) at) rest)
    frames_on top bs fs at (in_round {b = b} {bs = others} {fs = below} r {x} {y} {s} {e} {env} {n} one round looked seen rest) =
        let first = Rest (items b.rest.now) (bind_var env x n) in
        let second = LoopRound x y s e env n in
        let a : PointAt plan P k ((top ++ first ∷ []) ++ second ∷ below) = subst (λ (z : List Frame). PointAt plan P k z) (sym (append_assoc top (first ∷ []) (second ∷ below))) at in
        let i = round_nodes (top ++ first ∷ []) below x y s e env n a in
        in_round r one (round_on r x y s e env n i.0 i.1 round) looked (seen_on (bind_var env x n) (items b.rest.now) b.seen seen)
        (frames_on ((top ++ first ∷ []) ++ second ∷ []) others below (subst (λ (z : List Frame). PointAt plan P k z) (sym (append_assoc (top ++ first ∷ []) (second ∷ []) below)) a) rest)

    -- what is bound above a frame of a copy, or of a rest
    pub bound_in : (inner : List CopyFrame) (d : BodyTree) (v : Env) (below : List Frame) → FinePoint plan P k inner (Rest d v ∷ below) → (x : ℕ) (n : Node) → Bound_in x n (Rest d v ∷ below) → In n P.nodes
    bound_in [] d v below at x n h = bound_node core good plan placed P k state [] (Rest d v) below at x n h
    bound_in (f ∷ inner) d v below at x n h = bound_node core good plan placed P k state [] (CopyPart at.var at.env (length at.made)) (Rest d v ∷ below) at.point x n h

    pub frames_at : (inner : List CopyFrame) (bs : List Block) (fs : List Frame) → FinePoint plan P k inner fs → AreFrames rows P bs fs → AreFrames now Q bs fs
    frames_at [] bs fs at h = frames_on [] bs fs at h
    frames_at (f ∷ inner) bs fs at h = frames_on (CopyPart at.var at.env (length at.made) ∷ []) bs fs at.point h

    module _ (inner : List CopyFrame) (fs : List Frame) (point : FinePoint plan P k inner fs) where
      inside_in : (above : List CopyFrame) (n : Node) (p : Option Node) (below : List CopyFrame) → inner ≡ above ++ Inside n p ∷ below → In n P.nodes × ((c : Node) → p ≡ Some c → In c P.nodes)
      inside_in above n p below e =
          let at : FinePoint plan P k (above ++ Inside n p ∷ below) fs = subst (λ (z : List CopyFrame). FinePoint plan P k z fs) e point in
          let h = inside_held core good plan placed P k state above n p below fs at in
          let c = copy_frames_stand plan P k above n p below fs at in
          ((In-filter (is_held plan P (so_far plan P k)) n P.nodes h.0).0, λ j q. (Matches-in P (serial_of n) (child_step ∷ []) j (c.1 j q)).0)

      present_on : (present : Option Node) (p : Option Place) → ((c : Node) → present ≡ Some c → In c P.nodes) → PresentAt rows present p → PresentAt now present p
      present_on None None i h = tt
      present_on None (Some p) i h = h
      present_on (Some c) None i h = h
      present_on (Some c) (Some p) i h = placed_on c p.0 (i c refl) h

      copies_on : (c : Option Copying) → Copies rows c inner → Copies now c inner
      copies_on None h = h
      copies_on (Some c) h =
          let a = inside_in [] h.node h.present h.below h.innermost in
          let b = inside_in h.over h.copied h.last [] h.outermost in
          record {
            node = h.node;
            present = h.present;
            below = h.below;
            innermost = h.innermost;
            at_node = placed_on h.node c.node.0 a.0 h.at_node;
            at_present = present_on h.present c.present a.1 h.at_present;
            over = h.over;
            copied = h.copied;
            last = h.last;
            outermost = h.outermost;
            at_copied = placed_on h.copied c.top.0 b.0 h.at_copied;
          }

    -- the machine stands where it stood, over the tree with the tokens
    pub position_on : (w : Position) → k ≤ length (actions plan P) → StandsAt plan w rows P k → StandsAt plan w now Q k
    position_on w there s =
        let t = top_rest rows P w.top (reverse w.below.items) s.fs s.frames in
        record {
          inner = s.inner;
          fs = s.fs;
          point = fine_point_stays plan P Q k l m there s.inner s.fs s.point;
          frames = frames_at s.inner (w.top ∷ reverse w.below.items) s.fs s.point s.frames;
          copies = copies_on s.inner s.fs s.point w.copying s.copies;
          bound = λ begun x n h.
              let i = bound_in s.inner t.0 t.1 t.2 (subst (λ (z : List Frame). FinePoint plan P k s.inner z) t.3 s.point) x n (subst (λ (z : List Frame). Bound_in x n z) t.3 h) in
              let b = s.bound begun x n h in
              record { place = b.place; pair = b.pair; at = placed_on n b.place i b.at };
          begins = s.begins;
          turns = all_grow P Q l m rows now placed_on w.turns.items s.turns;
        }
