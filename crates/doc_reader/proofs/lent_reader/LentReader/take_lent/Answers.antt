use Rattle.std.proofs.Common.{◌++◌, take, sym, ◌∙◌, subst, arith}
use Rattle.doc_reader.specs.Standing.{ReaderView, Stands, lent_next}
use Rattle.doc_reader.proofs.Behind.{behind_end, behind_none, behind_stands, behind_tags, next_few}
use Rattle.doc_reader.proofs.lent_reader.LentReader.take_lent.Goals as goal

-- ---- tokens of tags

pub take_tags-requires : goal.take_tags-requires
take_tags-requires c = next_few c.args.self.now.state.tokens (lent_next c.args.self.now) c.args.count (c.is_last.ensures.tags c.if-not-is_last.true) c.requires

pub returns-then-not-is_last-clause-takes : goal.returns-then-not-is_last-clause-takes
returns-then-not-is_last-clause-takes c = c.take_tags.ensures ∙ sym (behind_tags c.args.self.now c.args.count (c.is_last.ensures.tags c.if-not-is_last.true) c.requires)

pub returns-then-not-is_last-clause-stands : goal.returns-then-not-is_last-clause-stands
returns-then-not-is_last-clause-stands c lim b ended given s =
    let takes = c.take_tags.ensures ∙ sym (behind_tags c.args.self.now c.args.count (c.is_last.ensures.tags c.if-not-is_last.true) c.requires) in
    subst (λ (v : ReaderView). Stands v lim b ended (given ++ take c.args.count (lent_next c.args.self.now))) (sym takes) (behind_stands c.args.self.now c.args.count c.requires lim b ended given s)

-- ---- the end

pub take_end-requires : goal.take_end-requires
take_end-requires c = (c.is_last.ensures.last c.if-not-is_last.false).0

pub returns-then-count-gt0-clause-takes : goal.returns-then-count-gt0-clause-takes
returns-then-count-gt0-clause-takes c =
    let some = c.if-count-gt0.true in
    c.take_end.ensures.takes ∙ sym (behind_end c.args.self.now c.args.count (c.is_last.ensures.last c.if-not-is_last.false).0 (omega arith))

pub returns-then-count-gt0-clause-stands : goal.returns-then-count-gt0-clause-stands
returns-then-count-gt0-clause-stands c lim b ended given s =
    let some = c.if-count-gt0.true in
    let takes = c.take_end.ensures.takes ∙ sym (behind_end c.args.self.now c.args.count (c.is_last.ensures.last c.if-not-is_last.false).0 (omega arith)) in
    subst (λ (v : ReaderView). Stands v lim b ended (given ++ take c.args.count (lent_next c.args.self.now))) (sym takes) (behind_stands c.args.self.now c.args.count c.requires lim b ended given s)

-- ---- none

pub returns-else-count-gt0-clause-takes : goal.returns-else-count-gt0-clause-takes
returns-else-count-gt0-clause-takes c =
    let none = c.if-count-gt0.false in
    sym (behind_none c.args.self.now c.args.count (c.is_last.ensures.last c.if-not-is_last.false).0 (omega arith))

pub returns-else-count-gt0-clause-stands : goal.returns-else-count-gt0-clause-stands
returns-else-count-gt0-clause-stands c lim b ended given s =
    let none = c.if-count-gt0.false in
    let takes = sym (behind_none c.args.self.now c.args.count (c.is_last.ensures.last c.if-not-is_last.false).0 (omega arith)) in
    subst (λ (v : ReaderView). Stands v lim b ended (given ++ take c.args.count (lent_next c.args.self.now))) (sym takes) (behind_stands c.args.self.now c.args.count c.requires lim b ended given s)
