use Rattle.std.proofs.Common.{ℕ, List, ◌∷◌, ◌≡◌, length, subst, arith}
use Rattle.std.specs.Prelude.{OnOk}
use Rattle.std.proofs.lemmas.List.{take_all}
use Rattle.doc_tokens.proofs.open_names.OpenNames.push.Goals as goal

pub returns : goal.returns
returns c =
    subst (λ (z : List ℕ). OnOk c.push_front.result (c.push_front.new.self ≡ z ∷ c.args.self.now))
    (take_all (length c.args.name.now) c.args.name.now (omega arith)) c.push_front.ensures
