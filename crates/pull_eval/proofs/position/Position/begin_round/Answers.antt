use Rattle.std.proofs.Common.{◌≡◌, ℕ, Bool, List, Option, refl, sym, ◌∙◌, ap, subst}
use Rattle.std.specs.FinMap as map
use Rattle.gcx_model.specs.Members.{In}
use Rattle.buf_tree.specs.Shape.{Cell, num}
use Rattle.pull_eval.specs.Position.{LooksInTime}
use Rattle.pull_eval.specs.Rounds.{Learnt}
use Rattle.pull_eval.specs.declared.block.Next.{Next}
use Rattle.pull_eval.specs.declared.block.Block.{Block}
use Rattle.pull_eval.specs.declared.block.Copying.{Copying}
use Rattle.pull_eval.specs.declared.machine.Acted.{Acted}
use Rattle.pull_eval.specs.declared.turns.Turns.{Turns}
use Rattle.pull_eval.proofs.RoundLooks.{sought_looks}
use Rattle.pull_eval.proofs.position.Position.begin_round.Goals.{then-ends_with_off, else-ends_with_off}
use Rattle.pull_eval.proofs.position.Position.begin_round.Goals as goal

pub returns : goal.returns
returns g c =
    let r = c.args.round in
    let v = c.args.buffer.now in
    let looks : LooksInTime c.if-ends_with_off.next r.body.now = elim c.if-ends_with_off.branch [
      | then-ends_with_off w ↦ subst (λ (z : Next). LooksInTime z r.body.now) (sym w.next-is) (c.ends_with_off.ensures.ends w.if-ends_with_off.true)
      | else-ends_with_off w ↦ sought_looks c.if-ends_with_off.next r.body.now (λ e. w.match_behind-next.ensures.sought (sym w.next-is ∙ e))
    ] in
    let learnt : (q d : Cell) → In q v.rows → In d v.rows → q.place ≡ r.context.0 → d.place ≡ r.present.0 → Learnt v q r.step.now (num d) c.if-ends_with_off.next = λ q d i j e f. (elim c.if-ends_with_off.branch [
      | then-ends_with_off w ↦ subst (λ (z : Next). Learnt v q r.step.now (num d) z) (sym w.next-is) tt
      | else-ends_with_off w ↦ subst (λ (z : Next). Learnt v q r.step.now (num d) z) (sym w.next-is) (w.match_behind-next.ensures.learnt q d i j e f)
    ]) in
    record {
      began = (
        record {
          next = c.if-ends_with_off.next;
          top = refl {A = Block};
          below = refl {A = List Block};
          env = c.in_ok-bind.ensures.ok ∙ ap (λ (z : ℕ). map.insert c.args.self.now.env r.var.0 (r.present.0, z)) c.serial.ensures.serial;
          copying = refl {A = Option Copying};
          turns = refl {A = List Turns};
          begun = refl {A = Bool};
          looks = looks;
          serial = λ d i e. sym c.serial.ensures.serial ∙ sym (c.serial.ensures.row d i e);
          learnt = learnt;
        },
        refl {A = Option Acted},
      );
    }
