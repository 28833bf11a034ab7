use Rattle.std.proofs.Common.{◌∙◌, ap, refl, subst, sym, Option}
use Rattle.doc_reader.specs.Standing.{lent_token}
use Rattle.gcx_model.specs.Tree.{TreeToken, grow}
use Rattle.projector.specs.Late.{FeedsLate}
use Rattle.projector.specs.declared.projector.Tally.{Tally}
use Rattle.run_part.specs.Late.{BalancesEachLate, FeedsEachLate, FeedsOneLate, IsQuietLate, MayFeedLate}
use Rattle.run_part.specs.View.{ActorsView}
use Rattle.run_part.proofs.Acting.{on_err}
use Rattle.run_part.proofs.Late.{late_depth, late_may, late_nodes, some_balance}
use Rattle.run_part.proofs.LateTokens.{passed_fed, passed_few, passed_late, passed_quiet, same_given, settled_fed, settled_quiet}
use Rattle.run_part.proofs.actors.Actors.feed_late.Goals as goal

pub feed_lean-requires-clause-place : goal.feed_lean-requires-clause-place
feed_lean-requires-clause-place g c =
    let old : ActorsView g.row.C.Denot = record { projector = c.self.inside.projector; buffer = c.self.inside.buffer; machine = c.self.inside.machine; counts = c.self.inside.counts } in
    let t : TreeToken = lent_token c.args.bytes.now c.args.token in
    let m = subst (λ (z : ActorsView g.row.C.Denot). MayFeedLate c.args.bytes.now g.C.Conds.stands z t) (sym c.self.view_is) c.requires.may in
    m.of.keeps

pub feed_lean-requires-clause-may : goal.feed_lean-requires-clause-may
feed_lean-requires-clause-may g c =
    let old : ActorsView g.row.C.Denot = record { projector = c.self.inside.projector; buffer = c.self.inside.buffer; machine = c.self.inside.machine; counts = c.self.inside.counts } in
    let t : TreeToken = lent_token c.args.bytes.now c.args.token in
    let m = subst (λ (z : ActorsView g.row.C.Denot). MayFeedLate c.args.bytes.now g.C.Conds.stands z t) (sym c.self.view_is) c.requires.may in
    late_may c.args.bytes.now g.C.Conds.stands old t m

pub feed_lean-requires-clause-nodes : goal.feed_lean-requires-clause-nodes
feed_lean-requires-clause-nodes g c =
    let old : ActorsView g.row.C.Denot = record { projector = c.self.inside.projector; buffer = c.self.inside.buffer; machine = c.self.inside.machine; counts = c.self.inside.counts } in
    let t : TreeToken = lent_token c.args.bytes.now c.args.token in
    let m = subst (λ (z : ActorsView g.row.C.Denot). MayFeedLate c.args.bytes.now g.C.Conds.stands z t) (sym c.self.view_is) c.requires.may in
    late_nodes c.args.bytes.now g.C.Conds.stands old t m

pub feed_lean-requires-clause-depth : goal.feed_lean-requires-clause-depth
feed_lean-requires-clause-depth g c =
    let old : ActorsView g.row.C.Denot = record { projector = c.self.inside.projector; buffer = c.self.inside.buffer; machine = c.self.inside.machine; counts = c.self.inside.counts } in
    let t : TreeToken = lent_token c.args.bytes.now c.args.token in
    let m = subst (λ (z : ActorsView g.row.C.Denot). MayFeedLate c.args.bytes.now g.C.Conds.stands z t) (sym c.self.view_is) c.requires.may in
    late_depth c.args.bytes.now g.C.Conds.stands old t m

pub returns-in_err-fed-clause-balance : goal.returns-in_err-fed-clause-balance
returns-in_err-fed-clause-balance g c =
    let old : ActorsView g.row.C.Denot = record { projector = c.self.inside.projector; buffer = c.self.inside.buffer; machine = c.self.inside.machine; counts = c.self.inside.counts } in
    let t : TreeToken = lent_token c.args.bytes.now c.args.token in
    let fed : ActorsView g.row.C.Denot = record old { projector = c.feed_lean.new.self; buffer = c.feed_lean.new.buffer } in
    let h : BalancesEachLate c.args.bytes.now g.C.Conds.stands old fed t = λ plan P k s comes given. some_balance c.args.bytes.now g.C.Conds.stands plan old fed P k s c.in_err-fed.ensures.err refl given in
    on_err _ _ (subst (λ (z : ActorsView g.row.C.Denot). BalancesEachLate c.args.bytes.now g.C.Conds.stands z fed t) c.self.view_is h)

-- ---- it was fed as always

pub returns-in-Some-clause-feeds : goal.returns-in-Some-clause-feeds
returns-in-Some-clause-feeds g c =
    let old : ActorsView g.row.C.Denot = record { projector = c.self.inside.projector; buffer = c.self.inside.buffer; machine = c.self.inside.machine; counts = c.self.inside.counts } in
    let t : TreeToken = lent_token c.args.bytes.now c.args.token in
    let f = subst (λ (o : Option Tally). FeedsLate c.args.bytes.now old.projector c.feed_lean.new.self old.buffer c.feed_lean.new.buffer t o) c.in-Some.is c.in_ok-fed.ensures.feeds in
    let e = c.note.new.self in
    let h : FeedsEachLate c.args.bytes.now g.C.Conds.stands old e t = λ plan P k s comes.
    subst (λ (z : ActorsView g.row.C.Denot). FeedsOneLate c.args.bytes.now g.C.Conds.stands plan old z t P k) (sym c.note.ensures.noted)
    (settled_fed c.args.bytes.now g.C.Conds.stands g.met.C.Conds.stands_on plan old t P k s comes c.feed_lean.new.self c.feed_lean.new.buffer c.in-Some.tally f) in
    subst (λ (z : ActorsView g.row.C.Denot). FeedsEachLate c.args.bytes.now g.C.Conds.stands z e t) c.self.view_is h

pub returns-in-Some-clause-quiet : goal.returns-in-Some-clause-quiet
returns-in-Some-clause-quiet g c = λ y.
    let old : ActorsView g.row.C.Denot = record { projector = c.self.inside.projector; buffer = c.self.inside.buffer; machine = c.self.inside.machine; counts = c.self.inside.counts } in
    let t : TreeToken = lent_token c.args.bytes.now c.args.token in
    let f = subst (λ (o : Option Tally). FeedsLate c.args.bytes.now old.projector c.feed_lean.new.self old.buffer c.feed_lean.new.buffer t o) c.in-Some.is c.in_ok-fed.ensures.feeds in
    let h : IsQuietLate c.args.bytes.now g.C.Conds.stands old t = λ plan P s comes.
    settled_quiet c.args.bytes.now g.C.Conds.stands g.met.C.Conds.stands_on plan old t P s comes c.feed_lean.new.self c.feed_lean.new.buffer c.in-Some.tally f (sym c.note.ensures.quiet ∙ y) in
    subst (λ (z : ActorsView g.row.C.Denot). IsQuietLate c.args.bytes.now g.C.Conds.stands z t) c.self.view_is h

-- ---- it was passed

pub note_passed-requires-clause-some : goal.note_passed-requires-clause-some
note_passed-requires-clause-some g c =
    let old : ActorsView g.row.C.Denot = record { projector = c.self.inside.projector; buffer = c.self.inside.buffer; machine = c.self.inside.machine; counts = c.self.inside.counts } in
    let t : TreeToken = lent_token c.args.bytes.now c.args.token in
    let m = subst (λ (z : ActorsView g.row.C.Denot). MayFeedLate c.args.bytes.now g.C.Conds.stands z t) (sym c.self.view_is) c.requires.may in
    let f = subst (λ (o : Option Tally). FeedsLate c.args.bytes.now old.projector c.feed_lean.new.self old.buffer c.feed_lean.new.buffer t o) c.in-None.is c.in_ok-fed.ensures.feeds in
    record { plan = m.plan; tree = grow t m.tree; taken = m.taken; of = passed_late c.args.bytes.now g.C.Conds.stands g.met.C.Conds.stands_on m.plan old t m.tree m.taken m.of m.comes c.feed_lean.new.self c.feed_lean.new.buffer f; low = m.low }

pub note_passed-requires-clause-few : goal.note_passed-requires-clause-few
note_passed-requires-clause-few g c =
    let old : ActorsView g.row.C.Denot = record { projector = c.self.inside.projector; buffer = c.self.inside.buffer; machine = c.self.inside.machine; counts = c.self.inside.counts } in
    let t : TreeToken = lent_token c.args.bytes.now c.args.token in
    let m = subst (λ (z : ActorsView g.row.C.Denot). MayFeedLate c.args.bytes.now g.C.Conds.stands z t) (sym c.self.view_is) c.requires.may in
    let f = subst (λ (o : Option Tally). FeedsLate c.args.bytes.now old.projector c.feed_lean.new.self old.buffer c.feed_lean.new.buffer t o) c.in-None.is c.in_ok-fed.ensures.feeds in
    let fed : ActorsView g.row.C.Denot = record old { projector = c.feed_lean.new.self; buffer = c.feed_lean.new.buffer } in
    passed_few c.args.bytes.now g.C.Conds.stands old fed t m (passed_late c.args.bytes.now g.C.Conds.stands g.met.C.Conds.stands_on m.plan old t m.tree m.taken m.of m.comes c.feed_lean.new.self c.feed_lean.new.buffer f)

pub returns-in_err-note_passed-in-None-clause-balance : goal.returns-in_err-note_passed-in-None-clause-balance
returns-in_err-note_passed-in-None-clause-balance g c =
    let old : ActorsView g.row.C.Denot = record { projector = c.self.inside.projector; buffer = c.self.inside.buffer; machine = c.self.inside.machine; counts = c.self.inside.counts } in
    let t : TreeToken = lent_token c.args.bytes.now c.args.token in
    let f = subst (λ (o : Option Tally). FeedsLate c.args.bytes.now old.projector c.feed_lean.new.self old.buffer c.feed_lean.new.buffer t o) c.in-None.is c.in_ok-fed.ensures.feeds in
    let d = c.note_passed.new.self in
    let h : BalancesEachLate c.args.bytes.now g.C.Conds.stands old d t = λ plan P k s comes given.
    c.in_err-note_passed-in-None.ensures.balance plan (grow t P) k (passed_late c.args.bytes.now g.C.Conds.stands g.met.C.Conds.stands_on plan old t P k s comes c.feed_lean.new.self c.feed_lean.new.buffer f)
    (given ∙ same_given c.args.bytes.now g.C.Conds.stands g.met.C.Conds.stands_on plan old t P k s comes c.feed_lean.new.self c.feed_lean.new.buffer f) in
    on_err _ _ (subst (λ (z : ActorsView g.row.C.Denot). BalancesEachLate c.args.bytes.now g.C.Conds.stands z d t) c.self.view_is h)

pub returns-in_ok-note_passed-in-None-clause-feeds : goal.returns-in_ok-note_passed-in-None-clause-feeds
returns-in_ok-note_passed-in-None-clause-feeds g c =
    let old : ActorsView g.row.C.Denot = record { projector = c.self.inside.projector; buffer = c.self.inside.buffer; machine = c.self.inside.machine; counts = c.self.inside.counts } in
    let t : TreeToken = lent_token c.args.bytes.now c.args.token in
    let f = subst (λ (o : Option Tally). FeedsLate c.args.bytes.now old.projector c.feed_lean.new.self old.buffer c.feed_lean.new.buffer t o) c.in-None.is c.in_ok-fed.ensures.feeds in
    let e = c.note_passed.new.self in
    let h : FeedsEachLate c.args.bytes.now g.C.Conds.stands old e t = λ plan P k s comes.
    passed_fed c.args.bytes.now g.C.Conds.stands g.met.C.Conds.stands_on plan old t P k s comes c.feed_lean.new.self c.feed_lean.new.buffer f e c.in_ok-note_passed-in-None.ensures.counts in
    subst (λ (z : ActorsView g.row.C.Denot). FeedsEachLate c.args.bytes.now g.C.Conds.stands z e t) c.self.view_is h

pub returns-in_ok-note_passed-in-None-clause-quiet : goal.returns-in_ok-note_passed-in-None-clause-quiet
returns-in_ok-note_passed-in-None-clause-quiet g c = λ y.
    let old : ActorsView g.row.C.Denot = record { projector = c.self.inside.projector; buffer = c.self.inside.buffer; machine = c.self.inside.machine; counts = c.self.inside.counts } in
    let t : TreeToken = lent_token c.args.bytes.now c.args.token in
    let f = subst (λ (o : Option Tally). FeedsLate c.args.bytes.now old.projector c.feed_lean.new.self old.buffer c.feed_lean.new.buffer t o) c.in-None.is c.in_ok-fed.ensures.feeds in
    let h : IsQuietLate c.args.bytes.now g.C.Conds.stands old t = λ plan P s comes.
    passed_quiet c.args.bytes.now g.C.Conds.stands g.met.C.Conds.stands_on plan old t P s comes c.feed_lean.new.self c.feed_lean.new.buffer f in
    subst (λ (z : ActorsView g.row.C.Denot). IsQuietLate c.args.bytes.now g.C.Conds.stands z t) c.self.view_is h

-- ---- what stays

pub returns-in-Some-clause-machine : goal.returns-in-Some-clause-machine
returns-in-Some-clause-machine g c =
    ap (λ (z : ActorsView g.row.C.Denot). z.machine) c.note.ensures.noted ∙ ap (λ (z : ActorsView g.row.C.Denot). z.machine) c.self.view_is

pub returns-in_err-note_passed-in-None-clause-machine : goal.returns-in_err-note_passed-in-None-clause-machine
returns-in_err-note_passed-in-None-clause-machine g c =
    c.note_passed.ensures.machine ∙ ap (λ (z : ActorsView g.row.C.Denot). z.machine) c.self.view_is

pub returns-in_ok-note_passed-in-None-clause-machine : goal.returns-in_ok-note_passed-in-None-clause-machine
returns-in_ok-note_passed-in-None-clause-machine g c =
    c.note_passed.ensures.machine ∙ ap (λ (z : ActorsView g.row.C.Denot). z.machine) c.self.view_is

pub returns-in-Some-clause-loans : goal.returns-in-Some-clause-loans
returns-in-Some-clause-loans g c =
    ap (λ (z : ActorsView g.row.C.Denot). z.buffer.loans) c.note.ensures.noted ∙ (c.feed_lean.ensures.loans ∙ ap (λ (z : ActorsView g.row.C.Denot). z.buffer.loans) c.self.view_is)

pub returns-in_err-note_passed-in-None-clause-loans : goal.returns-in_err-note_passed-in-None-clause-loans
returns-in_err-note_passed-in-None-clause-loans g c =
    c.note_passed.ensures.loans ∙ (c.feed_lean.ensures.loans ∙ ap (λ (z : ActorsView g.row.C.Denot). z.buffer.loans) c.self.view_is)

pub returns-in_ok-note_passed-in-None-clause-loans : goal.returns-in_ok-note_passed-in-None-clause-loans
returns-in_ok-note_passed-in-None-clause-loans g c =
    c.note_passed.ensures.loans ∙ (c.feed_lean.ensures.loans ∙ ap (λ (z : ActorsView g.row.C.Denot). z.buffer.loans) c.self.view_is)
