use Rattle.std.proofs.Common.{◌≡◌, ◌<◌, ℕ, suc, List, true, false, ap, inl, inr, map, refl, subst, sym, ◌∙◌, ◌++◌}
use Rattle.std.proofs.lemmas.Bool.{true≢false}
use Rattle.std.proofs.lemmas.List.{append-nil}
use Rattle.run_part.specs.Actors.{ActsOneFrom, ActsSomeFrom, SomeActors, all_of, past_at}
use Rattle.run_part.specs.Flows.{ActsAlone}
use Rattle.run_part.specs.View.{ActorsView}
use Rattle.buf_tree.specs.View.{View}
use Rattle.run_part.proofs.Acting.{DidNone, DidOne, acts_by, acts_told, acts_untold, did_blocked, did_finished, did_signed, did_wrote, may_act, on_err, some_still}
use Rattle.run_part.proofs.Taking.{Did}
use Rattle.gcx_model.specs.Demand.{Left, Line, text_of_lines}
use Rattle.pull_eval.specs.Acting.{TakesAction}
use Rattle.run_part.specs.Telling.{GrewPart, TellsFront, TellsAction, acted_lines, lines_to}
use Rattle.run_part.proofs.Telling.{part_none}
use Rattle.run_part.proofs.TellingActs.{part_next, tells_signed, tells_wrote}
use Rattle.run_part.proofs.actors.Actors.act_told.Goals as goal

pub act-requires : goal.act-requires
act-requires g c =
    let old : ActorsView g.row.C.Denot = record { projector = c.self.inside.projector; buffer = c.self.inside.buffer; machine = c.self.inside.machine; counts = c.self.inside.counts } in
    may_act g.C.Conds.stands old (subst (λ (z : ActorsView g.row.C.Denot). SomeActors g.C.Conds.stands z) (sym c.self.view_is) c.requires.some)

pub returns-in_err-acted-clause-some : goal.returns-in_err-acted-clause-some
returns-in_err-acted-clause-some g c =
    let old : ActorsView g.row.C.Denot = record { projector = c.self.inside.projector; buffer = c.self.inside.buffer; machine = c.self.inside.machine; counts = c.self.inside.counts } in
    let e : ActorsView g.row.C.Denot = record old { buffer = c.act.new.buffer; machine = c.act.new.self } in
    let u = c.args.out.now.items in
    let v = c.act.new.out.items in
    let h : ActsSomeFrom g.C.Conds.stands old e u v = λ plan P k a. some_still g.C.Conds.stands plan old e P k u v c.in_err-acted.ensures.err c.in_err-acted.ensures.kept a in
    on_err _ _ (subst (λ (z : ActorsView g.row.C.Denot). ActsSomeFrom g.C.Conds.stands z e u v) c.self.view_is h)

pub returns-in-Blocked-clause-acts : goal.returns-in-Blocked-clause-acts
returns-in-Blocked-clause-acts g c =
    let old : ActorsView g.row.C.Denot = record { projector = c.self.inside.projector; buffer = c.self.inside.buffer; machine = c.self.inside.machine; counts = c.self.inside.counts } in
    let e : ActorsView g.row.C.Denot = record old { buffer = c.act.new.buffer; machine = c.act.new.self } in
    let u = c.args.out.now.items in
    let v = c.act.new.out.items in
    let h : ActsOneFrom g.C.Conds.stands old e u v false = λ plan P k a.
    let d : Did plan (g.C.Conds.stands e.machine.conds) old.projector e.machine.position old.buffer e.buffer P k u v c.in_ok-acted.acted
    = acts_by plan (g.C.Conds.stands old.machine.conds) (g.C.Conds.stands e.machine.conds) old.projector old.machine.position e.machine.position old.buffer e.buffer u v c.in_ok-acted.acted c.in_ok-acted.ensures.acts P k a in
    elim c.in-Blocked.is as (λ _. DidNone plan (g.C.Conds.stands e.machine.conds) old.projector e.machine.position old.buffer e.buffer P k u v)
    [ inl x ↦ did_blocked plan (g.C.Conds.stands e.machine.conds) old.projector e.machine.position old.buffer e.buffer P k u v c.in_ok-acted.acted x d | inr x ↦ did_finished plan (g.C.Conds.stands e.machine.conds) old.projector e.machine.position old.buffer e.buffer P k u v c.in_ok-acted.acted x d ] in
    subst (λ (z : ActorsView g.row.C.Denot). ActsOneFrom g.C.Conds.stands z e u v false) c.self.view_is h

pub returns-in_ok-tell-in-Wrote-clause-acts : goal.returns-in_ok-tell-in-Wrote-clause-acts
returns-in_ok-tell-in-Wrote-clause-acts g c =
    let old : ActorsView g.row.C.Denot = record { projector = c.self.inside.projector; buffer = c.self.inside.buffer; machine = c.self.inside.machine; counts = c.self.inside.counts } in
    let e : ActorsView g.row.C.Denot = record old { buffer = c.act.new.buffer; machine = c.act.new.self } in
    let n : ActorsView g.row.C.Denot = record e { buffer = c.clear_gone.new.self } in
    let u = c.args.out.now.items in
    let v = c.act.new.out.items in
    let h : ActsOneFrom g.C.Conds.stands old n u v true = λ plan P k a.
    let d : Did plan (g.C.Conds.stands e.machine.conds) old.projector e.machine.position old.buffer e.buffer P k u v c.in_ok-acted.acted
    = acts_by plan (g.C.Conds.stands old.machine.conds) (g.C.Conds.stands e.machine.conds) old.projector old.machine.position e.machine.position old.buffer e.buffer u v c.in_ok-acted.acted c.in_ok-acted.ensures.acts P k a in
    let one : DidOne plan (g.C.Conds.stands e.machine.conds) old.projector e.machine.position old.buffer e.buffer P k u v
    = elim c.in-Wrote.is as (λ _. DidOne plan (g.C.Conds.stands e.machine.conds) old.projector e.machine.position old.buffer e.buffer P k u v)
    [ inl x ↦ did_wrote plan (g.C.Conds.stands e.machine.conds) old.projector e.machine.position old.buffer e.buffer P k u v c.in_ok-acted.acted x.0 x.1 d | inr x ↦ did_signed plan (g.C.Conds.stands e.machine.conds) old.projector e.machine.position old.buffer e.buffer P k u v c.in_ok-acted.acted x.0 x.1 x.2 d ] in
    acts_told g.C.Conds.stands plan old e P k u v one n (ap (λ z. record e { buffer = z }) c.clear_gone.ensures) in
    subst (λ (z : ActorsView g.row.C.Denot). ActsOneFrom g.C.Conds.stands z n u v true) c.self.view_is h

pub returns-in_err-tell-in-Wrote-clause-some : goal.returns-in_err-tell-in-Wrote-clause-some
returns-in_err-tell-in-Wrote-clause-some g c =
    let old : ActorsView g.row.C.Denot = record { projector = c.self.inside.projector; buffer = c.self.inside.buffer; machine = c.self.inside.machine; counts = c.self.inside.counts } in
    let e : ActorsView g.row.C.Denot = record old { buffer = c.act.new.buffer; machine = c.act.new.self } in
    let u = c.args.out.now.items in
    let v = c.act.new.out.items in
    let h : ActsSomeFrom g.C.Conds.stands old e u v = λ plan P k a.
    let d : Did plan (g.C.Conds.stands e.machine.conds) old.projector e.machine.position old.buffer e.buffer P k u v c.in_ok-acted.acted
    = acts_by plan (g.C.Conds.stands old.machine.conds) (g.C.Conds.stands e.machine.conds) old.projector old.machine.position e.machine.position old.buffer e.buffer u v c.in_ok-acted.acted c.in_ok-acted.ensures.acts P k a in
    let one : DidOne plan (g.C.Conds.stands e.machine.conds) old.projector e.machine.position old.buffer e.buffer P k u v
    = elim c.in-Wrote.is as (λ _. DidOne plan (g.C.Conds.stands e.machine.conds) old.projector e.machine.position old.buffer e.buffer P k u v)
    [ inl x ↦ did_wrote plan (g.C.Conds.stands e.machine.conds) old.projector e.machine.position old.buffer e.buffer P k u v c.in_ok-acted.acted x.0 x.1 d | inr x ↦ did_signed plan (g.C.Conds.stands e.machine.conds) old.projector e.machine.position old.buffer e.buffer P k u v c.in_ok-acted.acted x.0 x.1 x.2 d ] in
    acts_untold g.C.Conds.stands plan old e P k u v one in
    on_err _ _ (subst (λ (z : ActorsView g.row.C.Denot). ActsSomeFrom g.C.Conds.stands z e u v) c.self.view_is h)

pub returns-in_err-acted-clause-part : goal.returns-in_err-acted-clause-part
returns-in_err-acted-clause-part g c =
    let s = (g.L.Lines.seen c.args.lines.now).waits in
    let h : g.L.Lines.wanted ≡ true → TellsFront g.C.Conds.stands c.args.self.now s s = λ wanted plan P k a. part_none s s (text_of_lines (lines_to plan P k (all_of plan P))) refl in
    on_err _ _ h

pub returns-in-Blocked-clause-told : goal.returns-in-Blocked-clause-told
returns-in-Blocked-clause-told g c = λ wanted plan P k a. sym (append-nil (g.L.Lines.seen c.args.lines.now).waits)

pub returns-in_ok-tell-in-Wrote-clause-told : goal.returns-in_ok-tell-in-Wrote-clause-told
returns-in_ok-tell-in-Wrote-clause-told g c =
    let old : ActorsView g.row.C.Denot = record { projector = c.self.inside.projector; buffer = c.self.inside.buffer; machine = c.self.inside.machine; counts = c.self.inside.counts } in
    let e : ActorsView g.row.C.Denot = record old { buffer = c.act.new.buffer; machine = c.act.new.self } in
    let u = c.args.out.now.items in
    let v = c.act.new.out.items in
    let s = (g.L.Lines.seen c.args.lines.now).waits in
    let w = (g.L.Lines.seen c.tell.new.self).waits in
    let h : g.L.Lines.wanted ≡ true → TellsAction g.C.Conds.stands old s w true = λ wanted plan P k a.
    let t : TakesAction (past_at plan P k a.fed) k e.machine.position old.buffer e.buffer u v c.in_ok-acted.acted = (c.in_ok-acted.ensures.acts (past_at plan P k a.fed) k a.beside a.stand).0 in
    let one : (k < all_of plan P) × (acted_lines c.in_ok-acted.acted ++ map Left e.buffer.gone ≡ lines_to plan P k (suc k))
    = elim c.in-Wrote.is as (λ _. (k < all_of plan P) × (acted_lines c.in_ok-acted.acted ++ map Left e.buffer.gone ≡ lines_to plan P k (suc k))) [
      | inl x ↦ tells_wrote plan (g.C.Conds.stands old.machine.conds) old.projector old.machine.position e.machine.position old.buffer e.buffer P k a u v c.in_ok-acted.acted x.0 x.1 t
      | inr x ↦ tells_signed plan (g.C.Conds.stands old.machine.conds) old.projector old.machine.position e.machine.position old.buffer e.buffer P k a u v c.in_ok-acted.acted x.0 x.1 x.2 t
    ] in
    subst (λ (z : List ℕ). w ≡ s ++ text_of_lines (acted_lines c.in_ok-acted.acted ++ map Left z)) c.gone.ensures (c.in_ok-tell-in-Wrote.ensures.told wanted) ∙ ap (λ (z : List Line). s ++ text_of_lines z) one.1 in
    subst (λ (z : ActorsView g.row.C.Denot). g.L.Lines.wanted ≡ true → TellsAction g.C.Conds.stands z s w true) c.self.view_is h

pub returns-in_err-tell-in-Wrote-clause-part : goal.returns-in_err-tell-in-Wrote-clause-part
returns-in_err-tell-in-Wrote-clause-part g c =
    let old : ActorsView g.row.C.Denot = record { projector = c.self.inside.projector; buffer = c.self.inside.buffer; machine = c.self.inside.machine; counts = c.self.inside.counts } in
    let e : ActorsView g.row.C.Denot = record old { buffer = c.act.new.buffer; machine = c.act.new.self } in
    let u = c.args.out.now.items in
    let v = c.act.new.out.items in
    let s = (g.L.Lines.seen c.args.lines.now).waits in
    let w = (g.L.Lines.seen c.tell.new.self).waits in
    let h : g.L.Lines.wanted ≡ true → TellsFront g.C.Conds.stands old s w = λ wanted plan P k a.
    let t : TakesAction (past_at plan P k a.fed) k e.machine.position old.buffer e.buffer u v c.in_ok-acted.acted = (c.in_ok-acted.ensures.acts (past_at plan P k a.fed) k a.beside a.stand).0 in
    let one : (k < all_of plan P) × (acted_lines c.in_ok-acted.acted ++ map Left e.buffer.gone ≡ lines_to plan P k (suc k))
    = elim c.in-Wrote.is as (λ _. (k < all_of plan P) × (acted_lines c.in_ok-acted.acted ++ map Left e.buffer.gone ≡ lines_to plan P k (suc k))) [
      | inl x ↦ tells_wrote plan (g.C.Conds.stands old.machine.conds) old.projector old.machine.position e.machine.position old.buffer e.buffer P k a u v c.in_ok-acted.acted x.0 x.1 t
      | inr x ↦ tells_signed plan (g.C.Conds.stands old.machine.conds) old.projector old.machine.position e.machine.position old.buffer e.buffer P k a u v c.in_ok-acted.acted x.0 x.1 x.2 t
    ] in
    part_next plan P k s w one.0 (subst (λ (z : List Line). GrewPart s w (text_of_lines z)) one.1
    (subst (λ (z : List ℕ). GrewPart s w (text_of_lines (acted_lines c.in_ok-acted.acted ++ map Left z))) c.gone.ensures c.in_err-tell-in-Wrote.ensures.part.1)) in
    on_err _ _ (subst (λ (z : ActorsView g.row.C.Denot). g.L.Lines.wanted ≡ true → TellsFront g.C.Conds.stands z s w) c.self.view_is h)

pub returns-in_err-acted-clause-err : goal.returns-in_err-acted-clause-err
returns-in_err-acted-clause-err g c = λ unwanted. on_err _ _ c.in_err-acted.ensures.err

-- lines that aren't wanted want no memory
pub returns-in_err-tell-in-Wrote-clause-err : goal.returns-in_err-tell-in-Wrote-clause-err
returns-in_err-tell-in-Wrote-clause-err g c = λ unwanted. absurd (true≢false (sym c.in_err-tell-in-Wrote.ensures.part.0 ∙ unwanted))

pub returns-in_err-acted-clause-places : goal.returns-in_err-acted-clause-places
returns-in_err-acted-clause-places g c = record { output_is = refl; lines_is = refl }

pub returns-in-Blocked-clause-places : goal.returns-in-Blocked-clause-places
returns-in-Blocked-clause-places g c = record { output_is = refl; lines_is = refl }

pub returns-in_err-tell-in-Wrote-clause-places : goal.returns-in_err-tell-in-Wrote-clause-places
returns-in_err-tell-in-Wrote-clause-places g c = c.tell.ensures.places

pub returns-in_ok-tell-in-Wrote-clause-places : goal.returns-in_ok-tell-in-Wrote-clause-places
returns-in_ok-tell-in-Wrote-clause-places g c = c.tell.ensures.places

-- ---- what stays

pub returns-in_err-acted-clause-alone : goal.returns-in_err-acted-clause-alone
returns-in_err-acted-clause-alone g c =
    let old : ActorsView g.row.C.Denot = record { projector = c.self.inside.projector; buffer = c.self.inside.buffer; machine = c.self.inside.machine; counts = c.self.inside.counts } in
    let e : ActorsView g.row.C.Denot = record old { buffer = c.act.new.buffer; machine = c.act.new.self } in
    subst (λ (z : ActorsView g.row.C.Denot). ActsAlone z e) c.self.view_is (record { projector = refl; counts = refl; most = c.act.ensures.most; loans = c.act.ensures.loans })

pub returns-in-Blocked-clause-alone : goal.returns-in-Blocked-clause-alone
returns-in-Blocked-clause-alone g c =
    let old : ActorsView g.row.C.Denot = record { projector = c.self.inside.projector; buffer = c.self.inside.buffer; machine = c.self.inside.machine; counts = c.self.inside.counts } in
    let e : ActorsView g.row.C.Denot = record old { buffer = c.act.new.buffer; machine = c.act.new.self } in
    subst (λ (z : ActorsView g.row.C.Denot). ActsAlone z e) c.self.view_is (record { projector = refl; counts = refl; most = c.act.ensures.most; loans = c.act.ensures.loans })

pub returns-in_err-tell-in-Wrote-clause-alone : goal.returns-in_err-tell-in-Wrote-clause-alone
returns-in_err-tell-in-Wrote-clause-alone g c =
    let old : ActorsView g.row.C.Denot = record { projector = c.self.inside.projector; buffer = c.self.inside.buffer; machine = c.self.inside.machine; counts = c.self.inside.counts } in
    let e : ActorsView g.row.C.Denot = record old { buffer = c.act.new.buffer; machine = c.act.new.self } in
    subst (λ (z : ActorsView g.row.C.Denot). ActsAlone z e) c.self.view_is (record { projector = refl; counts = refl; most = c.act.ensures.most; loans = c.act.ensures.loans })

pub returns-in_ok-tell-in-Wrote-clause-alone : goal.returns-in_ok-tell-in-Wrote-clause-alone
returns-in_ok-tell-in-Wrote-clause-alone g c =
    let old : ActorsView g.row.C.Denot = record { projector = c.self.inside.projector; buffer = c.self.inside.buffer; machine = c.self.inside.machine; counts = c.self.inside.counts } in
    let e : ActorsView g.row.C.Denot = record old { buffer = c.act.new.buffer; machine = c.act.new.self } in
    let n : ActorsView g.row.C.Denot = record e { buffer = c.clear_gone.new.self } in
    subst (λ (z : ActorsView g.row.C.Denot). ActsAlone z n) c.self.view_is (record {
      projector = refl;
      counts = refl;
      most = ap (λ (z : View). z.most) c.clear_gone.ensures ∙ c.act.ensures.most;
      loans = ap (λ (z : View). z.loans) c.clear_gone.ensures ∙ c.act.ensures.loans;
    })
