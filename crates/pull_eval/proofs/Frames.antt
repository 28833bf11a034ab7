-- How the frames change that the blocks of a machine stand for.
use Rattle.std.proofs.Common.{◌≡◌, ◌<◌, ℕ, true, List, [], ◌∷◌, ◌++◌, reverse, Option, Some, None, refl, sym, ◌∙◌, ap, subst, inl, arith, rules}
use Rattle.std.proofs.lemmas.Bool.{true≢false, false≢true}
use Rattle.std.proofs.lemmas.List.{reverse-append}
use Rattle.gcx_base.specs.declared.steps.Step.{Step}
use Rattle.gcx_model.specs.Tree.{Node, Root, Under, serial_of, Tree, opening}
use Rattle.gcx_model.specs.Paths.{reach}
use Rattle.gcx_model.specs.Members.{In}
use Rattle.gcx_model.specs.Nodes.{Grown}
use Rattle.gcx_model.specs.Core.{ItemTree, Write, Copy, For, If, BodyTree, Nil, Then, PlanTree}
use Rattle.gcx_model.specs.Core as tree
use Rattle.gcx_model.specs.Truth.{Env, bind_var}
use Rattle.gcx_model.specs.Growth.{Leads}
use Rattle.gcx_model.specs.ItemView.{item_tree, off_tree, item_layer, body_layer}
use Rattle.gcx_model.specs.declared.item.Item.{Item, the_lemmas as item_lemmas}
use Rattle.gcx_model.specs.declared.item.Item.TheVariants as item
use Rattle.gcx_model.specs.declared.item.Item.TheVariants.{rolls-Off}
use Rattle.gcx_model.specs.declared.item.Item.TheOpen as layer
use Rattle.gcx_model.specs.declared.item.Item.TheOpen.{Item-F}
use Rattle.gcx_model.specs.declared.item.Item.TheViews.{out-Item, roll-Item, roll-out-Item}
use Rattle.gcx_model.specs.declared.item.Item.TheFolds.{fold-roll-Item}
use Rattle.gcx_model.specs.declared.item.Body.{Body}
use Rattle.gcx_model.specs.declared.item.Off.{Off}
use Rattle.gcx_model.specs.Points.{Frame, Rest, LoopRound, PointAt, Bound_in}
use Rattle.gcx_model.specs.Copying.{CopyFrame, FinePoint}
use Rattle.gcx_model.specs.Past.{Past}
use Rattle.move_laws.specs.Moves.{AtPoint}
use Rattle.tree_laws.proofs.Fed.{grown_from}
use Rattle.tree_laws.proofs.Chains.{hits_one}
use Rattle.tree_laws.proofs.Matches.{Matches-in}
use Rattle.buf_tree.specs.Shape.{Cell}
use Rattle.buf_tree.specs.View.{View}
use Rattle.cond_eval.specs.Asking.{IsBound}
use Rattle.pull_eval.specs.Turns.{TurnsStand}
use Rattle.pull_eval.specs.Position.{items, EndsWithOff, LooksInTime, SeenTo, AreFrames, alone, in_round, Copies, StandsAt}
use Rattle.pull_eval.specs.Acting.{Beside, IsNextItem}
use Rattle.pull_eval.specs.declared.block.Next.{Next}
use Rattle.pull_eval.specs.declared.block.Next.TheVariants.{Unsought, Found, NoneUpTo}
use Rattle.pull_eval.specs.declared.block.Round.{Round as CodeRound}
use Rattle.pull_eval.specs.declared.block.Block.{Block}
use Rattle.pull_eval.specs.declared.block.Copying.{Copying}
use Rattle.pull_eval.specs.declared.turns.Turns.{Turns}
use Rattle.pull_eval.specs.declared.position.Position.{Position}

-- ---- the block at the top

-- where a loop looks in time at what is left of its body, so it does at these items
abbrev pub LooksOn : Option CodeRound → (is js : List Item) → Type 0
LooksOn None is js = Unit {0}
LooksOn (Some r) is js = LooksInTime r.next is → LooksInTime r.next js

-- The frame at the top is the rest of the block there. Another rest of the same round may stand in its place.
pub record Top (rows : List Cell) (P : Tree) (b : Block) (bs : List Block) (fs : List Frame) : Type 0 where
  pub env : Env
  pub below : List Frame
  pub is : fs ≡ Rest (items b.rest.now) env ∷ below
  pub seen : SeenTo P env (items b.rest.now) b.seen
  pub goes : (c : Block) → c.round ≡ b.round → LooksOn b.round b.rest.now c.rest.now → SeenTo P env (items c.rest.now) c.seen → AreFrames rows P (c ∷ bs) (Rest (items c.rest.now) env ∷ below)

looks : (m : Option CodeRound) (r : CodeRound) (is js : List Item) → m ≡ Some r → LooksOn m is js → LooksInTime r.next is → LooksInTime r.next js
looks None r is js e k l = absurd (cc)
looks (Some q) r is js e k l = let f : q ≡ r = cc in subst (λ (z : CodeRound). LooksInTime z.next is → LooksInTime z.next js) f k l

pub top_of : (rows : List Cell) (P : Tree) (b : Block) (bs : List Block) (fs : List Frame) → AreFrames rows P (b ∷ bs) fs → Top rows P b bs fs
top_of rows P b bs fs (alone {env = env} {fs = below} free seen rest) = record {
  env = env;
  below = below;
  is = refl;
  seen = seen;
  goes = λ c e k s. alone (e ∙ free) s rest;
}
top_of rows P b bs fs (in_round {fs = below} r {x} {y} {s} {e} {env} {n} one round looked seen rest) = record {
  env = bind_var env x n;
  below = LoopRound x y s e env n ∷ below;
  is = refl;
  seen = seen;
  goes = λ c same k later. in_round r (same ∙ one) round (looks b.round r b.rest.now c.rest.now one k looked) later rest;
}

-- ---- what comes next

abbrev pub IsOff : ItemTree → Type 0
IsOff (Write b) = ⊥
IsOff (Copy x) = ⊥
IsOff (For x y s d) = ⊥
IsOff (If c a b) = ⊥
IsOff (tree.SignOff o) = Unit {0}

-- a statement as a plain tree is a statement
off_layer : (i : Item) (l : Item-F Item Body) → i ≡ roll-Item l → IsOff (item_tree i) → (o : Off) × (i ≡ item.Off o)
off_layer i (layer.Write b) e h = absurd (subst IsOff (ap item_tree e ∙ fold-roll-Item ItemTree BodyTree item_layer body_layer (layer.Write b)) h)
off_layer i (layer.Copy x) e h = absurd (subst IsOff (ap item_tree e ∙ fold-roll-Item ItemTree BodyTree item_layer body_layer (layer.Copy x)) h)
off_layer i (layer.For x y s d) e h = absurd (subst IsOff (ap item_tree e ∙ fold-roll-Item ItemTree BodyTree item_layer body_layer (layer.For x y s d)) h)
off_layer i (layer.If c a b) e h = absurd (subst IsOff (ap item_tree e ∙ fold-roll-Item ItemTree BodyTree item_layer body_layer (layer.If c a b)) h)
off_layer i (layer.Off o) e h = (o, e ∙ rolls-Off o)

pub off_item : (i : Item) → IsOff (item_tree i) → (o : Off) × (i ≡ item.Off o)
off_item i h = off_layer i (out-Item i) (sym (roll-out-Item i)) h

pub fold_Off : (o : Off) → item_tree (item.Off o) ≡ tree.SignOff (off_tree o)
fold_Off o = search (rules, item_lemmas)

is_off : (o : Off) → IsOff (item_tree (item.Off o))
is_off o = subst IsOff (sym (fold_Off o)) tt

same_first : (i j : ItemTree) (d e : BodyTree) → Then i d ≡ Then j e → i ≡ j
same_first i j d e h = cc

same_rest : (i j : ItemTree) (d e : BodyTree) → Then i d ≡ Then j e → d ≡ e
same_rest i j d e h = cc

ends_alike : (front js : List Item) (o : Off) → items (front ++ item.Off o ∷ []) ≡ items js → EndsWithOff js
ends_alike [] [] o e = absurd (cc)
ends_alike [] (y ∷ []) o e =
    let i = off_item y (subst IsOff (same_first (item_tree (item.Off o)) (item_tree y) Nil Nil e) (is_off o)) in
    ([], i.0, ap (λ (z : Item). z ∷ []) i.1)
ends_alike [] (y ∷ z ∷ ys) o e = let f : Nil ≡ Then (item_tree z) (items ys) = same_rest (item_tree (item.Off o)) (item_tree y) Nil (items (z ∷ ys)) e in absurd (cc)
ends_alike (x ∷ front) [] o e = absurd (cc)
ends_alike (x ∷ front) (y ∷ ys) o e =
    let r = ends_alike front ys o (same_rest (item_tree x) (item_tree y) (items (front ++ item.Off o ∷ [])) (items ys) e) in
    (y ∷ r.0, r.1, ap (λ (z : List Item). y ∷ z) r.2)

ends_on : (front js : List Item) (o : Off) (i : ItemTree) → items (front ++ item.Off o ∷ []) ≡ Then i (items js) → (IsOff i → ⊥) → EndsWithOff js
ends_on [] js o i e h = absurd (h (subst IsOff (same_first (item_tree (item.Off o)) i Nil (items js) e) (is_off o)))
ends_on (x ∷ front) js o i e h = ends_alike front js o (same_rest (item_tree x) i (items (front ++ item.Off o ∷ [])) (items js) e)

in_time : (n : Next) (is js : List Item) (i : ItemTree) → items is ≡ Then i (items js) → (IsOff i → ⊥) → LooksInTime n is → LooksInTime n js
in_time Unsought is js i e h (front, o, f) = ends_on front js o i (ap items (sym f) ∙ e) h
in_time (Found p) is js i e h l = tt
in_time (NoneUpTo s) is js i e h l = tt

-- behind an item that isn't a statement one is still to come, if one was
pub looks_on : (m : Option CodeRound) (is js : List Item) (i : ItemTree) → items is ≡ Then i (items js) → (IsOff i → ⊥) → LooksOn m is js
looks_on None is js i e h = tt
looks_on (Some r) is js i e h = in_time r.next is js i e h

positive : (P : Tree) → Grown P → (n : ℕ) (s : Step) (m : Node) → In m P.nodes → reach n s m ≡ true → 0 < serial_of m
positive P g n s Root i h = absurd (false≢true h)
positive P g n s (Under p j k) i h = let b = g.below p j k i in omega arith

-- nothing is known of the first match of a loop
pub seen_nothing : (P : Tree) → Grown P → (env : Env) (d : BodyTree) → SeenTo P env d 0
seen_nothing P g env Nil = tt
seen_nothing P g env (Then (Write b) d) = tt
seen_nothing P g env (Then (Copy x) d) = tt
seen_nothing P g env (Then (For x y s e) d) = (λ m i. let q = Matches-in P (serial_of (env y)) (s ∷ []) m i in positive P g (serial_of (env y)) s m q.0 (hits_one P g (serial_of (env y)) s m q.0 q.1), inl refl)
seen_nothing P g env (Then (If c a b) d) = tt
seen_nothing P g env (Then (tree.SignOff o) d) = tt

pub begins_anew : (P : Tree) → Leads opening P → (env : Env) (d : BodyTree) (k : ℕ) → k ≡ 0 → SeenTo P env d k
begins_anew P g env d k e = subst (λ (z : ℕ). SeenTo P env d z) (sym e) (seen_nothing P (grown_from P g) env d)

-- the point where the item comes next, and no copy is in progress
pub record AtItem (w : Position) (v : View) (past : Past) (k : ℕ) (b : Beside w v past k) (i : ItemTree) (d : BodyTree) : Type 0 where
  pub env : Env
  pub below : List Frame
  pub frames_are : b.position.fs ≡ Rest (Then i d) env ∷ below
  pub seen : SeenTo past.tree env (Then i d) w.top.seen
  pub point : AtPoint past.plan past.tree k (Rest (Then i d) env ∷ below)
  -- another rest of the block may stand in its place
  pub goes : (c : Block) → c.round ≡ w.top.round → LooksOn w.top.round w.top.rest.now c.rest.now → SeenTo past.tree env (items c.rest.now) c.seen
      → AreFrames v.rows past.tree (c ∷ reverse w.below.items) (Rest (items c.rest.now) env ∷ below)
  pub bound : w.is_begun ≡ true → (x : ℕ) (n : Node) → Bound_in x n below → IsBound v.rows w.env x n

-- with no copy in progress the point is one of the plan's frames
pub plain_point : (w : Position) (rows : List Cell) (plan : PlanTree) (P : Tree) (k : ℕ) (s : StandsAt plan w rows P k) → w.copying ≡ None → (s.inner ≡ []) × PointAt plan P k s.fs
plain_point w rows plan P k s e = let f : s.inner ≡ [] = subst (λ (z : Option Copying). Copies rows z s.inner) e s.copies in (f, subst (λ (z : List CopyFrame). FinePoint plan P k z s.fs) f s.point)

pub at_item : (w : Position) (v : View) (past : Past) (k : ℕ) (b : Beside w v past k) (i : ItemTree) (d : BodyTree) → IsNextItem w i d → AtItem w v past k b i d
at_item w v past k b i d n =
    let t = top_of v.rows past.tree w.top (reverse w.below.items) b.position.fs b.position.frames in
    let is : b.position.fs ≡ Rest (Then i d) t.env ∷ t.below = t.is ∙ ap (λ (z : BodyTree). Rest z t.env ∷ t.below) n.next in
    record {
      env = t.env;
      below = t.below;
      frames_are = is;
      seen = subst (λ (z : BodyTree). SeenTo past.tree t.env z w.top.seen) n.next t.seen;
      point = record { grown = b.buffer.is_past.grown; point = subst (λ (z : List Frame). PointAt past.plan past.tree k z) is (plain_point w v.rows past.plan past.tree k b.position n.no_copy).1 };
      goes = t.goes;
      bound = λ e x m h. b.position.bound e x m (subst (λ (z : List Frame). Bound_in x m z) (sym is) h);
    }

-- the block at the top goes on to what is left behind the item
pub goes_on : (w : Position) (v : View) (past : Past) (k : ℕ) (b : Beside w v past k) (i : ItemTree) (c : Block) → (n : IsNextItem w i (items c.rest.now)) → (IsOff i → ⊥) → c.round ≡ w.top.round → c.seen ≡ 0
    → AreFrames v.rows past.tree (c ∷ reverse w.below.items) (Rest (items c.rest.now) (at_item w v past k b i (items c.rest.now) n).env ∷ (at_item w v past k b i (items c.rest.now) n).below)
goes_on w v past k b i c n h same anew =
    let a = at_item w v past k b i (items c.rest.now) n in
    a.goes c same (looks_on w.top.round w.top.rest.now c.rest.now i n.next h) (begins_anew past.tree b.buffer.is_past.grown a.env (items c.rest.now) c.seen anew)

-- ---- blocks below

pub below_pushed : (xs : List Block) (b : Block) → reverse (xs ++ b ∷ []) ≡ b ∷ reverse xs
below_pushed xs b = reverse-append xs (b ∷ [])

-- a position at a point of the plan's frames, with no copy in progress
pub stands_plainly : (w : Position) (rows : List Cell) (plan : PlanTree) (P : Tree) (k : ℕ) (fs : List Frame) → w.copying ≡ None → w.is_begun ≡ true → TurnsStand rows P w.turns.items → PointAt plan P k fs
    → AreFrames rows P (w.top ∷ reverse w.below.items) fs → ((x : ℕ) (n : Node) → Bound_in x n fs → IsBound rows w.env x n) → StandsAt plan w rows P k
stands_plainly w rows plan P k fs e begun turns point frames bound = record {
  inner = [];
  fs = fs;
  point = point;
  frames = frames;
  copies = subst (λ (z : Option Copying). Copies rows z []) (sym e) refl;
  bound = λ _. bound;
  begins = λ f. absurd (true≢false (sym begun ∙ f));
  turns = turns;
}

-- the same within a copy or not
pub stands_within : (m : Position) (rows : List Cell) (plan : PlanTree) (P : Tree) (k : ℕ) (inner : List CopyFrame) (fs : List Frame) → m.is_begun ≡ true → TurnsStand rows P m.turns.items → FinePoint plan P k inner fs
    → AreFrames rows P (m.top ∷ reverse m.below.items) fs → Copies rows m.copying inner → ((x : ℕ) (n : Node) → Bound_in x n fs → IsBound rows m.env x n) → StandsAt plan m rows P k
stands_within m rows plan P k inner fs begun turns point frames copies bound = record {
  inner = inner;
  fs = fs;
  point = point;
  frames = frames;
  copies = copies;
  bound = λ _. bound;
  begins = λ f. absurd (true≢false (sym begun ∙ f));
  turns = turns;
}

-- what loops go by stands as it did
pub turns_still : (w m : Position) (rows : List Cell) (plan : PlanTree) (P : Tree) (k : ℕ) → m.turns.items ≡ w.turns.items → StandsAt plan w rows P k → TurnsStand rows P m.turns.items
turns_still w m rows plan P k e s = subst (λ (z : List Turns). TurnsStand rows P z) (sym e) s.turns
