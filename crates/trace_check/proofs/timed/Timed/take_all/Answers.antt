use Rattle.std.proofs.Common.{◌≡◌, true, List, ◌∷◌, map, ◌∙◌, ap, subst}
use Rattle.gcx_model.specs.Growth.{may_all}
use Rattle.gcx_model.specs.Tree.{TreeToken}
use Rattle.doc_reader.specs.Standing.{said_of}
use Rattle.trace_check.proofs.TakenAll.{HasTakenSome, come_on, open_for, some_none, some_on}
use Rattle.trace_check.proofs.timed.Timed.take_all.Goals as goal

pub tokens-init : goal.tokens-init
tokens-init c = record { some = some_none c.args.self.now (map said_of c.args.tokens.items); come = c.requires.come; long = c.requires.long }

pub take-requires-clause-open : goal.take-requires-clause-open
take-requires-clause-open c none =
    open_for (said_of c.in-Some.token) (map said_of c.pop_front.new.self.items) c.tokens.self.tree
    (subst (λ ts. may_all (map said_of ts) c.tokens.self.tree ≡ true) c.in-Some.ensures.items c.tokens.invariant.come) none

pub tokens-preserved : goal.tokens-preserved
tokens-preserved c =
    let rest : List TreeToken = map said_of c.pop_front.new.self.items in
    let come : may_all (said_of c.in-Some.token ∷ rest) c.tokens.self.tree ≡ true = subst (λ ts. may_all (map said_of ts) c.tokens.self.tree ≡ true) c.in-Some.ensures.items c.tokens.invariant.come in
    let before : HasTakenSome c.args.self.now c.tokens.self (map said_of c.args.tokens.items) (said_of c.in-Some.token ∷ rest) =
    subst (λ ts. HasTakenSome c.args.self.now c.tokens.self (map said_of c.args.tokens.items) (map said_of ts)) c.in-Some.ensures.items c.tokens.invariant.some in
    record {
      some = some_on c.args.self.now c.tokens.self c.take.new.self (map said_of c.args.tokens.items) (said_of c.in-Some.token) rest before c.in_ok-take.ensures.taken;
      come = ap (may_all rest) c.in_ok-take.ensures.tree ∙ come_on (said_of c.in-Some.token) rest c.tokens.self.tree come;
      long = c.in_ok-take.ensures.long;
    }
