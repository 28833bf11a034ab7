use Rattle.std.proofs.Common.{◌≡◌, false, List, [], ◌++◌, map, refl, sym, ap, ◌∙◌, subst, Some}
use Rattle.gcx_model.specs.declared.fault.DocFault.TheVariants as doc_faults
use Rattle.doc_tokens.specs.declared.token.Token.{Token}
use Rattle.doc_reader.specs.Standing.{ReaderView, Stands, with_tokens, given_token, said_of}
use Rattle.doc_reader.specs.Owned.{with_owned, owned_view}
use Rattle.doc_reader.proofs.Standings.{was_refused, not_refused, stands_still, stands_lost}
use Rattle.doc_reader.proofs.Owning.{under, over, owned_same, said_more, given_more}
use Rattle.doc_reader.proofs.reader.Reader.take.Goals as goal

pub feed-requires : goal.feed-requires
feed-requires c = ap (λ (v : ReaderView). v.finished) c.self.view_is ∙ c.requires

pub invariant_of-self : goal.invariant_of-self
invariant_of-self c = record {
  drained = ap (λ (h : ReaderView). h.state.tokens) c.own_all.ensures.lent;
  owned = given_more c.self.inside.waits.items c.own_all.new.waits.items c.feed.new.self.state.tokens c.self.invariant.owned c.in-Ok.ensures.ok;
}

pub invariant_of-self-in-Err : goal.invariant_of-self-in-Err
invariant_of-self-in-Err c = record {
  drained = ap (λ (h : ReaderView). h.state.tokens) (c.refuse.ensures ∙ ap (λ (h : ReaderView). record h { refused = Some doc_faults.Memory }) c.own_all.ensures.lent);
  owned = subst (λ (l : List Token). map given_token (map said_of l) ≡ l) (sym c.in-Err.ensures.err) c.self.invariant.owned;
}

pub returns-then-is_refused-clause-stands : goal.returns-then-is_refused-clause-stands
returns-then-is_refused-clause-stands c lim b given s =
    let refused = ap (λ (v : ReaderView). v.refused) c.self.view_is in
    stands_still c.args.self.now lim b c.args.piece.now given (λ e. was_refused c.self.inside.lent.refused (sym c.is_refused.ensures ∙ c.if-is_refused.true) (refused ∙ e)) s

pub returns-in-Ok-clause-stands : goal.returns-in-Ok-clause-stands
returns-in-Ok-clause-stands c lim b given s =
    let r = c.self.inside in
    let waits = map said_of r.waits.items in
    let fed = c.feed.new.self in
    let all = b ++ c.args.piece.now in
    let now = subst (λ (v : ReaderView). Stands v lim b false given) (sym c.self.view_is) s in
    let below = c.feed.ensures.stands lim b (given ++ map given_token waits) (under r.lent waits lim b false given now) in
    let more = said_more r.waits.items c.own_all.new.waits.items fed.state.tokens c.in-Ok.ensures.ok in
    subst (λ (h : ReaderView). Stands (with_owned (map said_of c.own_all.new.waits.items) h) lim all false given) (sym c.own_all.ensures.lent)
    (subst (λ (v : ReaderView). Stands v lim all false given) (sym (owned_same fed waits (map said_of c.own_all.new.waits.items) more))
    (over fed waits lim all false given below))

pub returns-in-Err-clause-stands : goal.returns-in-Err-clause-stands
returns-in-Err-clause-stands c lim b given s =
    let r = c.self.inside in
    let waits = map said_of r.waits.items in
    let fed = c.feed.new.self in
    let all = b ++ c.args.piece.now in
    let lost : ReaderView = record (with_tokens fed []) { refused = Some doc_faults.Memory } in
    let none = not_refused r.lent.refused (sym c.is_refused.ensures ∙ c.if-is_refused.false) in
    let now = subst (λ (v : ReaderView). Stands v lim b false given) (sym c.self.view_is) s in
    let below = c.feed.ensures.stands lim b (given ++ map given_token waits) (under r.lent waits lim b false given now) in
    let still = stands_lost (owned_view r) (with_owned waits lost) lim b c.args.piece.now given none below.limits below.finished below.goes_on.0 refl (ap (λ ts. waits ++ ts) (sym c.self.invariant.drained)) now in
    subst (λ (l : List Token). Stands (with_owned (map said_of l) c.refuse.new.self) lim all false given) (sym c.in-Err.ensures.err)
    (subst (λ (h : ReaderView). Stands (with_owned waits h) lim all false given) (sym (c.refuse.ensures ∙ ap (λ (h : ReaderView). record h { refused = Some doc_faults.Memory }) c.own_all.ensures.lent)) still)

pub returns-in-Ok-clause-open : goal.returns-in-Ok-clause-open
returns-in-Ok-clause-open c = ap (λ (h : ReaderView). h.finished) c.own_all.ensures.lent ∙ c.feed.ensures.open

pub returns-in-Err-clause-open : goal.returns-in-Err-clause-open
returns-in-Err-clause-open c = ap (λ (h : ReaderView). h.finished) (c.refuse.ensures ∙ ap (λ (h : ReaderView). record h { refused = Some doc_faults.Memory }) c.own_all.ensures.lent) ∙ c.feed.ensures.open
