use Rattle.std.proofs.Common.{rules, ◌≡◌, List, [], ◌∷◌, ◌++◌, map, refl, sym, ap, ◌∙◌, subst}
use Rattle.doc_tokens.specs.declared.token.Token.{Token}
use Rattle.doc_reader.specs.Standing.{ReaderView, Stands, waiting, end_token, taken, answer_of, given_token, said_of}
use Rattle.doc_reader.specs.Owned.{with_owned}
use Rattle.doc_reader.proofs.Owning.{first_owned, waits_first, stands_first, none_left, takes_end}
use Rattle.doc_reader.proofs.reader.Reader.next.Goals as goal

pub take_end-requires : goal.take_end-requires
take_end-requires c = c.self.invariant.drained

pub invariant_of-self : goal.invariant_of-self
invariant_of-self c =
    let r = c.self.inside in
    let parts : r.waits.items ≡ c.in-Some.token ∷ c.pop_front.new.self.items = search rules in
    record { drained = c.self.invariant.drained; owned = (first_owned r.waits.items c.pop_front.new.self.items c.in-Some.token c.self.invariant.owned parts).1 }

pub invariant_of-self-in-None : goal.invariant_of-self-in-None
invariant_of-self-in-None c =
    let none : c.pop_front.new.self.items ≡ [] = search rules in
    record {
      drained = ap (λ (h : ReaderView). h.state.tokens) c.take_end.ensures.takes ∙ c.self.invariant.drained;
      owned = subst (λ (l : List Token). map given_token (map said_of l) ≡ l) (sym none) refl;
    }

pub returns-in-Some-clause-takes : goal.returns-in-Some-clause-takes
returns-in-Some-clause-takes c =
    let r = c.self.inside in
    let parts : r.waits.items ≡ c.in-Some.token ∷ c.pop_front.new.self.items = search rules in
    ap waiting (sym c.self.view_is) ∙ waits_first r.lent r.waits.items c.pop_front.new.self.items c.in-Some.token c.self.invariant.owned parts

pub returns-in-Some-clause-stands : goal.returns-in-Some-clause-stands
returns-in-Some-clause-stands c lim b ended given s =
    let r = c.self.inside in
    let parts : r.waits.items ≡ c.in-Some.token ∷ c.pop_front.new.self.items = search rules in
    let now = subst (λ (v : ReaderView). Stands v lim b ended given) (sym c.self.view_is) s in
    stands_first r.lent r.waits.items c.pop_front.new.self.items c.in-Some.token lim b ended given c.self.invariant.owned parts now

pub returns-in-None-clause-takes : goal.returns-in-None-clause-takes
returns-in-None-clause-takes c =
    let r = c.self.inside in
    let none : r.waits.items ≡ [] = search rules in
    let still : c.pop_front.new.self.items ≡ [] = search rules in
    let drained = ap (λ (h : ReaderView). h.state.tokens) c.take_end.ensures.takes ∙ c.self.invariant.drained in
    takes_end c.ended_token.result _ _ r.lent.end_waits (c.ended_token.ensures ∙ ap end_token c.take_end.ensures.waits)
    (ap waiting (sym c.self.view_is) ∙ none_left r.lent r.waits.items none c.self.invariant.drained)
    (none_left c.take_end.new.self c.pop_front.new.self.items still drained ∙ ap (λ (h : ReaderView). end_token h.end_waits) c.take_end.ensures.takes)

pub returns-in-None-clause-stands : goal.returns-in-None-clause-stands
returns-in-None-clause-stands c lim b ended given s =
    let r = c.self.inside in
    let none : r.waits.items ≡ [] = search rules in
    let still : c.pop_front.new.self.items ≡ [] = search rules in
    let now = subst (λ (v : ReaderView). Stands v lim b ended given) (sym c.self.view_is) s in
    let below = subst (λ (l : List Token). Stands (with_owned (map said_of l) r.lent) lim b ended given) none now in
    subst (λ (l : List Token). Stands (with_owned (map said_of l) c.take_end.new.self) lim b ended (given ++ taken c.ended_token.result)) (sym still)
    (subst (λ (l : List Token). Stands c.take_end.new.self lim b ended (given ++ l)) (sym c.ended_token.ensures) (c.take_end.ensures.stands lim b ended given below))

pub returns-in-None-clause-keeps : goal.returns-in-None-clause-keeps
returns-in-None-clause-keeps c = record {
  finished = ap (λ (h : ReaderView). h.finished) c.take_end.ensures.takes ∙ ap (λ (v : ReaderView). v.finished) c.self.view_is;
  answer = ap answer_of c.take_end.ensures.takes ∙ ap answer_of c.self.view_is;
}
