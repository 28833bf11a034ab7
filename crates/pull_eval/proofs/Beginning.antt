-- A position before its first move, and to what variable 0 is bound then.
use Rattle.std.proofs.Common.{◌≡◌, ℕ, Bool, true, false, cond, List, [], ◌∷◌, reverse, Option, Some, None, refl, sym, ◌∙◌, ap, subst, inl, inr, arith}
use Rattle.std.specs.Prelude.{option_map}
use Rattle.std.specs.FinMap as map
use Rattle.std.specs.Cmp.{nat_cmp_total, unsigned_tied}
use Rattle.std.proofs.lemmas.Bool.{true≢false}
use Rattle.gcx_model.specs.Tree.{Node, Root, serial_of, opening}
use Rattle.gcx_model.specs.Paths.{head}
use Rattle.gcx_model.specs.Members.{In}
use Rattle.gcx_model.specs.Core.{BodyTree, PlanTree}
use Rattle.gcx_model.specs.Run.{Action, env0}
use Rattle.gcx_model.specs.Held.{held}
use Rattle.gcx_model.specs.Growth.{stays}
use Rattle.gcx_model.specs.Points.{here, Frame, Rest, PointAt, Bound_in}
use Rattle.gcx_model.specs.Copying.{CopyFrame, FinePoint}
use Rattle.gcx_model.specs.Past.{Past, opening_past}
use Rattle.move_laws.proofs.Moving.{opening_point}
use Rattle.tree_laws.proofs.Lists.{In-filter}
use Rattle.run_laws.proofs.Free.{plan_acts}
use Rattle.buf_tree.specs.Shape.{Cell}
use Rattle.buf_tree.specs.Shape as shape
use Rattle.buf_tree.specs.View.{View, capped}
use Rattle.buf_tree.specs.Stands.{StandsFor}
use Rattle.cond_eval.specs.Bindings.{Bindings}
use Rattle.cond_eval.specs.Asking.{PlacedAt, IsBound}
use Rattle.pull_eval.specs.Position.{items, AreFrames, none, alone, Copies, StandsAt}
use Rattle.pull_eval.specs.Acting.{Beside}
use Rattle.pull_eval.specs.declared.block.Block.{Block}
use Rattle.pull_eval.specs.declared.block.Copying.{Copying}
use Rattle.pull_eval.specs.Turns.{TurnsStand}
use Rattle.pull_eval.specs.declared.turns.Turns.{Turns}
use Rattle.pull_eval.specs.declared.position.Position.{Position}
use Rattle.cond_eval.proofs.Rows.{rows_rise, row_for}
use Rattle.pull_eval.proofs.HeldRows.{holds, held_rows}
use Rattle.pull_eval.proofs.Frames.{begins_anew}
use Rattle.pull_eval.proofs.OpeningTaken.{sum_starts}

-- ---- a new position

-- the whole body is left, in no loop, and variable 0 isn't bound
pub record IsNew (w : Position) (body : BodyTree) : Type 0 where
  pub rest : items w.top.rest.now ≡ body
  pub round : w.top.round ≡ None
  pub seen : w.top.seen ≡ 0
  pub below : w.below.items ≡ []
  pub copying : w.copying ≡ None
  pub turns : w.turns.items ≡ []
  pub begun : w.is_begun ≡ false

new_frames : (w : Position) (body : BodyTree) (rows : List Cell) → IsNew w body → AreFrames rows opening (w.top ∷ reverse w.below.items) (Rest body env0 ∷ [])
new_frames w body rows n =
    let a : AreFrames rows opening (w.top ∷ []) (Rest (items w.top.rest.now) env0 ∷ []) = alone n.round (begins_anew opening stays env0 (items w.top.rest.now) w.top.seen n.seen) none in
    subst (λ (z : List Block). AreFrames rows opening (w.top ∷ reverse z) (Rest body env0 ∷ [])) (sym n.below)
    (subst (λ (d : BodyTree). AreFrames rows opening (w.top ∷ []) (Rest d env0 ∷ [])) n.rest a)

pub stands_new : (plan : PlanTree) (w : Position) (rows : List Cell) → IsNew w plan.body → StandsAt plan w rows opening 0
stands_new plan w rows n = record {
  inner = [];
  fs = Rest plan.body env0 ∷ [];
  point = opening_point plan opening;
  frames = new_frames w plan.body rows n;
  copies = subst (λ (z : Option Copying). Copies rows z []) (sym n.copying) refl;
  bound = λ e. absurd (true≢false (sym e ∙ n.begun));
  begins = λ _. (refl, refl);
  turns = subst (λ (z : List Turns). TurnsStand rows opening z) (sym n.turns) (record { each = λ t i. absurd i; once = tt });
}

pub beside_new : (plan : PlanTree) (w : Position) (v : View) → IsNew w plan.body → StandsFor v (opening_past plan) → v.taken ≡ 0 → Beside w v (opening_past plan) 0
beside_new plan w v n s e = record {
  state = here;
  acts = refl;
  buffer = s;
  taken = e ∙ sym (ap capped (sum_starts s.is_past.core s.is_past.good plan s.is_past.placed));
  position = stands_new plan w v.rows n;
}

-- ---- the document node

first_place : (rows : List Cell) (p : ℕ) → shape.CellsRise rows → Some p ≡ option_map (λ (c : Cell). c.place) (head rows) → PlacedAt rows 0 p
first_place [] p r e c i z = absurd i
first_place (x ∷ xs) p r e c (inl same) z = let f : p ≡ x.place = cc in ap (λ (d : Cell). d.place) (sym same) ∙ sym f
first_place (x ∷ xs) p r e c (inr i) z = let l = r.0 c i in absurd (omega arith)

module _ (w : Position) (v : View) (past : Past) (k : ℕ) (b : Beside w v past k) (e : w.is_begun ≡ false) where
  abbrev s : StandsAt past.plan w v.rows past.tree k
  s = b.position

  at_start : PointAt past.plan past.tree k (Rest past.plan.body env0 ∷ [])
  at_start = subst (λ (z : List Frame). PointAt past.plan past.tree k z) (s.begins e).1 (subst (λ (z : List CopyFrame). FinePoint past.plan past.tree k z s.fs) (s.begins e).0 s.point)

  root_held : In Root (held past.plan past.tree past.acts)
  root_held =
      let is = b.buffer.is_past in
      subst (λ (A : List Action). In Root (held past.plan past.tree A)) (sym b.acts) (((plan_acts is.core is.good past.plan is.placed past.tree).2 k b.state).1 at_start)

  -- before the first move the document node has a row
  pub root_there : ◌≡◌ {A = Option ℕ} None (option_map (λ (c : Cell). c.place) (head v.rows)) → ⊥
  root_there n =
      let i = In-filter (holds past) Root past.tree.nodes root_held in
      let r = row_for v.rows past.tree (holds past) (held_rows v past b.buffer) Root i.0 i.1 in
      go v.rows r.0 r.1 n
    where
      go : (rows : List Cell) (c : Cell) → In c rows → ◌≡◌ {A = Option ℕ} None (option_map (λ (c : Cell). c.place) (head rows)) → ⊥
      go [] c i n = i
      go (x ∷ xs) c i n = cc

  -- bound to it, variable 0 is bound as at the point
  pub beside_begun : (p : ℕ) (env : Bindings) → Some p ≡ option_map (λ (c : Cell). c.place) (head v.rows) → env ≡ map.insert w.env 0 (p, 0) → Beside (record w { env = env; is_begun = true }) v past k
  beside_begun p env at is = record {
    state = b.state;
    acts = b.acts;
    buffer = b.buffer;
    taken = b.taken;
    position = record {
      inner = s.inner;
      fs = s.fs;
      point = s.point;
      frames = s.frames;
      copies = s.copies;
      bound = λ _ x n h. bound x n (subst (λ (z : List Frame). Bound_in x n z) (s.begins e).1 h);
      begins = λ f. absurd (true≢false f);
      turns = s.turns;
    };
  }
    where
      bound : (x : ℕ) (n : Node) → (x ≡ 0) × (n ≡ Root) → IsBound v.rows env x n
      bound x n h = record {
        place = p;
        pair = subst (λ (m : Node). map.get env x ≡ Some (p, serial_of m)) (sym h.1) (subst (λ (y : ℕ). map.get env y ≡ Some (p, 0)) (sym h.0) (ap (λ (m : Bindings). map.get m 0) is ∙ map.get-insert nat_cmp_total w.env 0 (p, 0) 0 ∙ ap (λ (t : Bool). cond t (Some (p, 0)) (map.get w.env 0)) (unsigned_tied 0 0)));
        at = subst (λ (m : Node). PlacedAt v.rows (serial_of m) p) (sym h.1) (first_place v.rows p (rows_rise v.rows past.tree (holds past) (held_rows v past b.buffer)) at);
      }
