use Rattle.std.proofs.Common.{ℕ, List, [], ◌∷◌, ◌++◌, ◌≡◌, length, sym, subst, arith}
use Rattle.std.specs.Prelude.{OnOk}
use Rattle.std.proofs.lemmas.List.{take_all}
use Rattle.gcx_base.specs.Name.{IsNameBytes}
use Rattle.gcx_model.specs.Fronts.{text_of}
use Rattle.gcx_model.specs.Tree.{Start}
use Rattle.doc_tokens.proofs.tokens.Tokens.begin_tag.Goals as goal

pub begin_front-requires-clause-name : goal.begin_front-requires-clause-name
begin_front-requires-clause-name c = subst IsNameBytes (sym (take_all (length c.args.name.now) c.args.name.now (omega arith))) c.requires

pub returns-clause-ok : goal.returns-clause-ok
returns-clause-ok c =
    subst (λ (z : List ℕ). OnOk c.begin_front.result (c.begin_front.new.self ≡ record c.args.self.now { run = []; pending = text_of c.args.self.now.run ++ (Start z ∷ []) }))
    (take_all (length c.args.name.now) c.args.name.now (omega arith)) c.begin_front.ensures.ok
