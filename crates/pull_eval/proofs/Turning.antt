-- How a position goes on behind a write, up into a branch, and down to the block below.
use Rattle.std.proofs.Common.{◌≡◌, ◌<◌, suc, ℕ, true, List, [], ◌∷◌, ◌++◌, length, reverse, Option, Some, None, refl, sym, ◌∙◌, ap, subst, inl, inr, arith}
use Rattle.gcx_model.specs.Tree.{Node, Tree, opening}
use Rattle.gcx_model.specs.Core.{CondTree, BodyTree, Nil, Then, Write, If, PlanTree}
use Rattle.gcx_model.specs.Truth.{Env, bind_var}
use Rattle.gcx_model.specs.Points.{Frame, Rest, LoopRound, CopyPart, PointAt, Bound_in}
use Rattle.gcx_model.specs.Growth.{Leads}
use Rattle.gcx_model.specs.Run.{Wrote}
use Rattle.gcx_model.specs.Past.{Past, past_acted}
use Rattle.move_laws.specs.Moves.{AtPoint, IsNext, NoneLeft}
use Rattle.move_laws.proofs.Moving.{write_move, branch_move, empty_rest, run_is_done}
use Rattle.pass_laws.proofs.Rounds.{last_rounds_pass}
use Rattle.buf_tree.specs.Shape.{Cell}
use Rattle.buf_tree.specs.View.{View}
use Rattle.cond_eval.specs.Asking.{IsBound}
use Rattle.cond_eval.specs.Bindings.{Bindings}
use Rattle.pull_eval.specs.Turns.{TurnsStand}
use Rattle.pull_eval.specs.Position.{items, AreFrames, none, alone, in_round, Copies}
use Rattle.pull_eval.specs.Weight.{weigh_body, weigh_item, weigh_round, weigh_blocks, weigh_copying, weight}
use Rattle.pull_eval.specs.Acting.{Beside, IsNextItem, ChosenBranch, IsOver, Moves}
use Rattle.pull_eval.specs.declared.block.Block.{Block}
use Rattle.pull_eval.specs.declared.block.Copying.{Copying}
use Rattle.pull_eval.specs.declared.machine.Acted.{Acted}
use Rattle.pull_eval.specs.declared.position.Position.{Position}
use Rattle.pull_eval.proofs.Frames.{top_of, at_item, goes_on, begins_anew, plain_point, stands_plainly, stands_within, below_pushed, turns_still}
use Rattle.pull_eval.proofs.Weighing.{weigh_pushed, weigh_on}
use Rattle.pull_eval.proofs.Writing.{beside_wrote, beside_still}

-- ---- a branch

-- the branch that the condition tells is the point's next one
chosen_point : (plan : PlanTree) (P : Tree) (k : ℕ) (c : CondTree) (this other branch d : BodyTree) (env : Env) (fs : List Frame) → AtPoint plan P k (Rest (Then (If c this other) d) env ∷ fs)
    → ChosenBranch P (Rest (Then (If c this other) d) env ∷ fs) c this other branch → PointAt plan P k (Rest branch env ∷ Rest d env ∷ fs)
chosen_point plan P k c this other branch d env fs a (inl h) = subst (λ (z : BodyTree). PointAt plan P k (Rest z env ∷ Rest d env ∷ fs)) (sym h.1) ((branch_move plan P k c this other d env fs a).0 h.0)
chosen_point plan P k c this other branch d env fs a (inr h) = subst (λ (z : BodyTree). PointAt plan P k (Rest z env ∷ Rest d env ∷ fs)) (sym h.1) ((branch_move plan P k c this other d env fs a).1 h.0)

-- each branch weighs less than its item
lighter : (rows : ℕ) (P : Tree) (fs : List Frame) (c : CondTree) (this other branch : BodyTree) → ChosenBranch P fs c this other branch → suc (weigh_body rows branch) < weigh_item rows (If c this other)
lighter rows P [] c this other branch h = absurd h
lighter rows P (Rest d env ∷ fs) c this other branch (inl h) = let e = ap (weigh_body rows) h.1 in omega arith
lighter rows P (Rest d env ∷ fs) c this other branch (inr h) = let e = ap (weigh_body rows) h.1 in omega arith
lighter rows P (LoopRound x y s e env n ∷ fs) c this other branch h = absurd h
lighter rows P (CopyPart x env made ∷ fs) c this other branch h = absurd h

-- ---- the block below

no_frames : (rows : List Cell) (P : Tree) (fs : List Frame) → AreFrames rows P [] fs → fs ≡ []
no_frames rows P fs none = refl

-- the frames without those of the body at the top
record Popped (rows : List Cell) (plan : PlanTree) (P : Tree) (k : ℕ) (bs : List Block) (fs : List Frame) : Type 0 where
  rest : List Frame
  frames : AreFrames rows P bs rest
  point : PointAt plan P k rest
  bound : (x : ℕ) (n : Node) → Bound_in x n rest → Bound_in x n fs

popped : (rows : List Cell) (plan : PlanTree) (P : Tree) (k : ℕ) (b c : Block) (bs : List Block) (fs : List Frame) → Leads opening P → items b.rest.now ≡ Nil → AreFrames rows P (b ∷ c ∷ bs) fs → PointAt plan P k fs → IsOver P fs → Popped rows plan P k (c ∷ bs) fs
popped rows plan P k b c bs fs grown over (alone {env = v} {fs = below} free seen rest) point last =
    let t = top_of rows P c bs below rest in
    let p : PointAt plan P k (Rest Nil v ∷ Rest (items c.rest.now) t.env ∷ t.below) = subst (λ (z : List Frame). PointAt plan P k (Rest Nil v ∷ z)) t.is (subst (λ (z : BodyTree). PointAt plan P k (Rest z v ∷ below)) over point) in
    record {
      rest = below;
      frames = rest;
      point = subst (λ (z : List Frame). PointAt plan P k z) (sym t.is) (empty_rest plan P k v (items c.rest.now) t.env t.below (record { grown = grown; point = p }));
      bound = λ x n h. h;
    }
popped rows plan P k b c bs fs grown over (in_round {fs = below} r {x} {y} {s} {e} {env} {n} one round looked seen rest) point last =
    record {
      rest = below;
      frames = rest;
      point = last_rounds_pass plan P k (bind_var env x n) x y s e env n below (record { grown = grown; point = subst (λ (z : BodyTree). PointAt plan P k (Rest z (bind_var env x n) ∷ LoopRound x y s e env n ∷ below)) over point }) last.0 last.1;
      bound = λ z m h. inr h;
    }

-- with no block below all is done
all_done : (rows : List Cell) (plan : PlanTree) (P : Tree) (k : ℕ) (b : Block) (fs : List Frame) → Leads opening P → items b.rest.now ≡ Nil → AreFrames rows P (b ∷ []) fs → PointAt plan P k fs → IsOver P fs → NoneLeft plan P k true
all_done rows plan P k b fs grown over (alone {env = v} {fs = below} free seen rest) point last =
    let none_below = no_frames rows P below rest in
    run_is_done plan P k (Rest Nil v ∷ []) (record { grown = grown; point = subst (λ (z : List Frame). PointAt plan P k (Rest Nil v ∷ z)) none_below (subst (λ (z : BodyTree). PointAt plan P k (Rest z v ∷ below)) over point) }) tt
all_done rows plan P k b fs grown over (in_round {fs = below} r {x} {y} {s} {e} {env} {n} one round looked seen rest) point last =
    let none_below = no_frames rows P below rest in
    let p : PointAt plan P k below = last_rounds_pass plan P k (bind_var env x n) x y s e env n below (record { grown = grown; point = subst (λ (z : BodyTree). PointAt plan P k (Rest z (bind_var env x n) ∷ LoopRound x y s e env n ∷ below)) over point }) last.0 last.1 in
    run_is_done plan P k [] (record { grown = grown; point = subst (λ (z : List Frame). PointAt plan P k z) none_below p }) tt

no_blocks : (xs : List Block) → length xs ≡ 0 → xs ≡ []
no_blocks [] e = refl
no_blocks (x ∷ xs) e = absurd (omega arith)

pub run_over : (w : Position) (v : View) (past : Past) (k : ℕ) (b : Beside w v past k) → items w.top.rest.now ≡ Nil → w.copying ≡ None → length w.below.items ≡ 0 → IsOver past.tree b.position.fs → NoneLeft past.plan past.tree k true
run_over w v past k b over no_copy single last =
    let frames : AreFrames v.rows past.tree (w.top ∷ []) b.position.fs = subst (λ (z : List Block). AreFrames v.rows past.tree (w.top ∷ reverse z) b.position.fs) (no_blocks w.below.items single) b.position.frames in
    all_done v.rows past.plan past.tree k w.top b.position.fs b.buffer.is_past.grown over frames (plain_point w v.rows past.plan past.tree k b.position no_copy).1 last

-- ---- positions

-- what stays of a position whose blocks change
pub record SameBut (w m : Position) : Type 0 where
  pub env : m.env ≡ w.env
  pub copying : m.copying ≡ w.copying
  pub turns : m.turns.items ≡ w.turns.items
  pub begun : m.is_begun ≡ true

module _ (w m : Position) (v : View) (past : Past) (k : ℕ) (b : Beside w v past k) (same : SameBut w m) (begun : w.is_begun ≡ true) where
  bound_on : (fs : List Frame) → ((x : ℕ) (n : Node) → Bound_in x n fs → Bound_in x n b.position.fs) → (x : ℕ) (n : Node) → Bound_in x n fs → IsBound v.rows m.env x n
  bound_on fs f x n h = subst (λ (z : Bindings). IsBound v.rows z x n) (sym same.env) (b.position.bound begun x n (f x n h))

  turns_on : TurnsStand v.rows past.tree m.turns.items
  turns_on = turns_still w m v.rows past.plan past.tree k same.turns b.position

  -- bytes are written, and the block at the top goes on
  pub written : (text : List ℕ) → IsNextItem w (Write text) (items m.top.rest.now) → m.top.round ≡ w.top.round → m.top.seen ≡ 0 → m.below.items ≡ w.below.items
      → IsNext past.plan past.tree k (Wrote text) × Beside m v (past_acted (Wrote text) past) (suc k)
  written text n round seen blocks =
      let a = at_item w v past k b (Write text) (items m.top.rest.now) n in
      let next = write_move past.plan past.tree k text (items m.top.rest.now) a.env a.below a.point in
      let frames = subst (λ (z : List Block). AreFrames v.rows past.tree (m.top ∷ reverse z) (Rest (items m.top.rest.now) a.env ∷ a.below)) (sym blocks) (goes_on w v past k b (Write text) m.top n (λ off. off) round seen) in
      let back : (x : ℕ) (p : Node) → Bound_in x p a.below → Bound_in x p b.position.fs = λ x p h. subst (λ (z : List Frame). Bound_in x p z) (sym a.frames_are) h in (
        next.0,
        beside_wrote w m v past k text b next.0 (stands_plainly m v.rows past.plan past.tree (suc k) (Rest (items m.top.rest.now) a.env ∷ a.below) (same.copying ∙ n.no_copy) same.begun turns_on next.1 frames (bound_on a.below back)),
      )

  pub branch_begun : (c : CondTree) (this other : BodyTree) (r : Block) → IsNextItem w (If c this other) (items r.rest.now) → r.round ≡ w.top.round → r.seen ≡ 0
      → m.below.items ≡ w.below.items ++ r ∷ [] → m.top.round ≡ None → m.top.seen ≡ 0 → ChosenBranch past.tree b.position.fs c this other (items m.top.rest.now) → Beside m v past k × (weight v.rows m < weight v.rows w)
  branch_begun c this other r n round seen pushed free anew chosen =
      let a = at_item w v past k b (If c this other) (items r.rest.now) n in
      let tops = goes_on w v past k b (If c this other) r n (λ off. off) round seen in
      let blocks : r ∷ reverse w.below.items ≡ reverse m.below.items = sym (ap reverse pushed ∙ below_pushed w.below.items r) in
      let point = chosen_point past.plan past.tree k c this other (items m.top.rest.now) (items r.rest.now) a.env a.below a.point (subst (λ (z : List Frame). ChosenBranch past.tree z c this other (items m.top.rest.now)) a.frames_are chosen) in
      let frames = alone {b = m.top} free (begins_anew past.tree b.buffer.is_past.grown a.env (items m.top.rest.now) m.top.seen anew) (subst (λ (z : List Block). AreFrames v.rows past.tree z (Rest (items r.rest.now) a.env ∷ a.below)) blocks tops) in
      let back : (x : ℕ) (p : Node) → Bound_in x p a.below → Bound_in x p b.position.fs = λ x p h. subst (λ (z : List Frame). Bound_in x p z) (sym a.frames_are) h in
      let light = lighter (length v.rows) past.tree b.position.fs c this other (items m.top.rest.now) chosen in
      let on = weigh_on v.rows w.top r (If c this other) n.next round in
      let more = ap (weigh_blocks v.rows) pushed ∙ weigh_pushed v.rows w.below.items r in
      let none_there = ap (weigh_round v.rows) free in
      let still = ap weigh_copying same.copying in (
        beside_still w m v past k b (stands_plainly m v.rows past.plan past.tree k (Rest (items m.top.rest.now) a.env ∷ Rest (items r.rest.now) a.env ∷ a.below) (same.copying ∙ n.no_copy) same.begun turns_on point frames (bound_on a.below back)),
        omega arith,
      )

  pub gone_below : items w.top.rest.now ≡ Nil → w.copying ≡ None → w.below.items ≡ m.below.items ++ m.top ∷ [] → IsOver past.tree b.position.fs → Beside m v past k × (weight v.rows m < weight v.rows w)
  gone_below over no_copy pop last =
      let blocks : reverse w.below.items ≡ m.top ∷ reverse m.below.items = ap reverse pop ∙ below_pushed m.below.items m.top in
      let frames : AreFrames v.rows past.tree (w.top ∷ m.top ∷ reverse m.below.items) b.position.fs = subst (λ (z : List Block). AreFrames v.rows past.tree (w.top ∷ z) b.position.fs) blocks b.position.frames in
      let p = popped v.rows past.plan past.tree k w.top m.top (reverse m.below.items) b.position.fs b.buffer.is_past.grown over frames (plain_point w v.rows past.plan past.tree k b.position no_copy).1 last in
      let less = ap (weigh_blocks v.rows) pop ∙ weigh_pushed v.rows m.below.items m.top in
      let still = ap weigh_copying same.copying in (
        beside_still w m v past k b (stands_plainly m v.rows past.plan past.tree k p.rest (same.copying ∙ no_copy) same.begun turns_on p.point p.frames (bound_on p.rest p.bound)),
        omega arith,
      )

  -- nothing changes
  pub stands_still : m.top ≡ w.top → m.below.items ≡ w.below.items → Beside m v past k
  stands_still top blocks =
      beside_still w m v past k b (stands_within m v.rows past.plan past.tree k b.position.inner b.position.fs same.begun turns_on b.position.point
      (subst (λ (z : Block). AreFrames v.rows past.tree (z ∷ reverse m.below.items) b.position.fs) (sym top) (subst (λ (z : List Block). AreFrames v.rows past.tree (w.top ∷ reverse z) b.position.fs) (sym blocks) b.position.frames))
      (subst (λ (z : Option Copying). Copies v.rows z b.position.inner) (sym same.copying) b.position.copies)
      (bound_on b.position.fs (λ x n h. h)))

-- a move from a position that differs in what its loops go by
pub moved_on : (w m n : Position) (past : Past) (k : ℕ) (v u : View) (old new : List ℕ) (a : Option Acted) → m ≡ record w { turns = m.turns } → Moves past k m n v u old new a → Moves past k w n v u old new a
moved_on w m n past k v u old new None e h = (h.0, h.1, h.2, subst (λ (z : ℕ). weight v.rows n < z) (ap (weight v.rows) e) h.3)
moved_on w m n past k v u old new (Some a) e h = h

-- it stands where it stood, with what its loops go by
pub turned : (w n : Position) (v : View) (past : Past) (k : ℕ) (b : Beside w v past k) → n ≡ record w { turns = n.turns } → TurnsStand v.rows past.tree n.turns.items → (c : Beside n v past k) × (c.position.fs ≡ b.position.fs)
turned w n v past k b e turns = subst (λ (z : Position). (c : Beside z v past k) × (c.position.fs ≡ b.position.fs)) (sym e) (
  record {
    state = b.state;
    acts = b.acts;
    buffer = b.buffer;
    taken = b.taken;
    position = record {
      inner = b.position.inner;
      fs = b.position.fs;
      point = b.position.point;
      frames = b.position.frames;
      copies = b.position.copies;
      bound = b.position.bound;
      begins = b.position.begins;
      turns = turns;
    };
  },
  refl,
)
