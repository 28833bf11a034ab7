use Rattle.std.proofs.Common.{◌≡◌, false, List, [], map, refl, sym, ap, ◌∙◌, subst}
use Rattle.doc_tokens.specs.declared.token.Token.{Token}
use Rattle.doc_reader.specs.Standing.{Stands, waiting, end_token, given_token, said_of}
use Rattle.doc_reader.specs.Owned.{with_owned}
use Rattle.doc_reader.proofs.Owning.{none_waits}
use Rattle.doc_reader.proofs.reader.Reader.new.Goals as goal

pub invariant_of-result : goal.invariant_of-result
invariant_of-result c =
    let lent = c.new-lent.result in
    record {
      drained = none_waits lent.state.tokens (end_token lent.end_waits) c.new-lent.ensures.nothing;
      owned = subst (λ (l : List Token). map given_token (map said_of l) ≡ l) (sym c.new-waits.ensures.items) refl;
    }

pub returns-clause-stands : goal.returns-clause-stands
returns-clause-stands c = subst (λ (l : List Token). Stands (with_owned (map said_of l) c.new-lent.result) c.args.limits [] false []) (sym c.new-waits.ensures.items) c.new-lent.ensures.stands

pub returns-clause-nothing : goal.returns-clause-nothing
returns-clause-nothing c = ap (λ (l : List Token). waiting (with_owned (map said_of l) c.new-lent.result)) c.new-waits.ensures.items ∙ c.new-lent.ensures.nothing
