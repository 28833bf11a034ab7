use Rattle.std.proofs.Common.{◌++◌, map, true, sym, ap, ◌∙◌, subst}
use Rattle.doc_reader.specs.Standing.{ReaderView, Stands, waiting, answer_of, given_token, said_of}
use Rattle.doc_reader.specs.Owned.{with_owned}
use Rattle.doc_reader.proofs.Accepting.{accepts}
use Rattle.doc_reader.proofs.Owning.{under, over, waiting_owned}
use Rattle.doc_reader.proofs.reader.Reader.finish.Goals as goal

pub invariant_of-self : goal.invariant_of-self
invariant_of-self c = record {
  drained = ap (λ s. s.tokens) c.finish.ensures.state ∙ c.self.invariant.drained;
  owned = c.self.invariant.owned;
}

pub returns-clause-stands : goal.returns-clause-stands
returns-clause-stands c lim b ended given s =
    let r = c.self.inside in
    let waits = map said_of r.waits.items in
    let now = subst (λ (v : ReaderView). Stands v lim b ended given) (sym c.self.view_is) s in
    over c.finish.new.self waits lim b true given (c.finish.ensures.stands lim b ended (given ++ map given_token waits) (under r.lent waits lim b ended given now))

pub returns-clause-exact : goal.returns-clause-exact
returns-clause-exact c lim b ended given s =
    let r = c.self.inside in
    let waits = map said_of r.waits.items in
    let now = subst (λ (v : ReaderView). Stands v lim b ended given) (sym c.self.view_is) s in
    c.finish.ensures.exact lim b ended (given ++ map given_token waits) (under r.lent waits lim b ended given now)

pub returns-clause-document : goal.returns-clause-document
returns-clause-document c lim b ended given s =
    let r = c.self.inside in
    let waits = map said_of r.waits.items in
    let now = subst (λ (v : ReaderView). Stands v lim b ended given) (sym c.self.view_is) s in
    let below = c.finish.ensures.stands lim b ended (given ++ map given_token waits) (under r.lent waits lim b ended given now) in
    accepts (with_owned waits c.finish.new.self) lim b given c.finish.result c.finish.ensures.answer (over c.finish.new.self waits lim b true given below)

pub returns-clause-again : goal.returns-clause-again
returns-clause-again c done =
    let waits = map said_of c.self.inside.waits.items in
    ap (with_owned waits) (c.finish.ensures.again (ap (λ (v : ReaderView). v.finished) c.self.view_is ∙ done)) ∙ c.self.view_is

pub returns-clause-refused : goal.returns-clause-refused
returns-clause-refused c refused =
    c.finish.ensures.refused (λ e. refused (sym (ap (λ (v : ReaderView). v.refused) c.self.view_is) ∙ e)) ∙ ap answer_of c.self.view_is

pub returns-clause-same : goal.returns-clause-same
returns-clause-same c refused =
    let r = c.self.inside in
    let waits = map said_of r.waits.items in
    let same = c.finish.ensures.same (λ e. refused (sym (ap (λ (v : ReaderView). v.refused) c.self.view_is) ∙ e)) in
    waiting_owned c.finish.new.self waits ∙ ap (λ l. map given_token waits ++ l) same ∙ sym (waiting_owned r.lent waits) ∙ ap waiting c.self.view_is
