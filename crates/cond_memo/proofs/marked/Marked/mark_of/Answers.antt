use Rattle.std.proofs.Common.{◌≡◌, ◌<◌, ◌++◌, ◌∷◌, [], List, length, map, Option, inl, inr, refl, sym, ◌∙◌, ap, subst, arith}
use Rattle.std.specs.Prelude.{option_map}
use Rattle.std.proofs.lemmas.Bool.{false≢true}
use Rattle.gcx_base.specs.declared.ids.VarId.{VarId}
use Rattle.gcx_base.specs.declared.steps.Step.{Step}
use Rattle.gcx_model.specs.Members.{In}
use Rattle.cond_eval.proofs.Kept.{key_in, keys_push, none_in, none_more}
use Rattle.cond_memo.specs.Marks.{AsksLiteral, Fits, IsAbout, ask_of, subject, subject_of}
use Rattle.cond_memo.specs.declared.mark.Ask.{Ask}
use Rattle.cond_memo.specs.declared.mark.Mark.{Mark}
use Rattle.cond_memo.proofs.MarkList.{is_subject, new_mark, push_all, subject_is}
use Rattle.cond_memo.proofs.marked.Marked.mark_of.Goals as goal

pub marks-preserved : goal.marks-preserved
marks-preserved c =
    let ms = c.args.self.now.marks in
    let m = c.index.result.now in
    let ask : Option Ask = option_map (λ q. ask_of q.0 q.1.now) c.args.ask in
    let low : c.marks.index < length ms.items = omega (arith, c.marks-test.true, ms.ok.0) in
    let other : subject_of m ≡ subject c.args.var c.args.steps.now ask → ⊥ = λ e. false≢true (sym c.if-is_of.false ∙ c.is_of.ensures.all c.requires (is_subject m c.args.var c.args.steps.now ask e)) in
    record { low = omega arith; none = none_more subject_of ms.items c.marks.index m (subject c.args.var c.args.steps.now ask) (low, c.index.ensures) other c.marks.invariant.none }

pub returns-then-is_of-clause-count : goal.returns-then-is_of-clause-count
returns-then-is_of-clause-count c =
    let ms = c.args.self.now.marks in
    let m = c.index.result.now in
    let ask : Option Ask = option_map (λ q. ask_of q.0 q.1.now) c.args.ask in
    let low : c.marks.index < length ms.items = omega (arith, c.marks-test.true, ms.ok.0) in
    inl (
      key_in subject_of ms.items c.marks.index m (subject c.args.var c.args.steps.now ask) (low, c.index.ensures) (subject_is m c.args.var c.args.steps.now ask (c.is_of.ensures.is c.if-is_of.true)),
      refl,
    )

pub returns-clause-stays : goal.returns-clause-stays
returns-clause-stays c P k =
    let ms = c.args.self.now.marks in
    let m = c.in_ok-mark.mark in
    let made = c.in_ok-mark.ensures in
    let ask : Option Ask = option_map (λ q. ask_of q.0 q.1.now) c.args.ask in
    let about : IsAbout m c.args.var c.args.steps.now ask = record { var = made.var; steps = made.steps; ask = made.ask ∙ c.in_ok-ask.ensures } in
    let none : In (subject c.args.var c.args.steps.now ask) (map subject_of ms.items) → ⊥ = none_in subject_of ms.items c.marks.index (subject c.args.var c.args.steps.now ask) (omega (arith, c.marks-test.false, ms.ok.0)) c.marks.invariant.none in
    let fits = subst (λ (s : List Step). Fits s m.last) (sym made.steps) made.last in
    let literal = subst AsksLiteral (sym about.ask) c.requires in (
      push_all ms.items c.push.new.self.items m P c.in_ok-push.ensures.items (subst (λ (s : VarId × List Step × Option Ask). In s (map subject_of ms.items) → ⊥) (sym (subject_is m c.args.var c.args.steps.now ask about)) none) k.0 (new_mark m fits literal made.unasked P),
      k.1,
    )

pub returns-clause-count : goal.returns-clause-count
returns-clause-count c =
    let ms = c.args.self.now.marks in
    let m = c.in_ok-mark.mark in
    let made = c.in_ok-mark.ensures in
    let ask : Option Ask = option_map (λ q. ask_of q.0 q.1.now) c.args.ask in
    let none : In (subject c.args.var c.args.steps.now ask) (map subject_of ms.items) → ⊥ = none_in subject_of ms.items c.marks.index (subject c.args.var c.args.steps.now ask) (omega (arith, c.marks-test.false, ms.ok.0)) c.marks.invariant.none in
    inr (
      none,
      ap (λ (zs : List Mark). map subject_of zs) c.in_ok-push.ensures.items ∙ (keys_push subject_of ms.items m
          ∙ ap (λ (s : VarId × List Step × Option Ask). map subject_of ms.items ++ s ∷ []) (subject_is m c.args.var c.args.steps.now ask (record { var = made.var; steps = made.steps; ask = made.ask ∙ c.in_ok-ask.ensures }))),
    )
