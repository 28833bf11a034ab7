use Rattle.std.proofs.Common.{◌≡◌, ℕ, List, [], ◌∷◌, ◌++◌, sym, subst}
use Rattle.std.specs.Prelude.{OnOk}
use Rattle.matcher.specs.Parts.{new_marks}
use Rattle.matcher.specs.declared.frames.Found.{Found}
use Rattle.matcher.proofs.open_frames.OpenFrames.add.Goals as goal

pub returns-then-is_bare-clause-added : goal.returns-then-is_bare-clause-added
returns-then-is_bare-clause-added c =
    let e = c.is_bare.ensures c.if-is_bare.true in
    subst (λ (z : List ℕ). OnOk c.add_bare.result (c.add_bare.new.self ≡ c.args.self.now ++ new_marks z c.args.found.now ∷ [])) (sym e.0)
    (subst (λ (z : List Found). OnOk c.add_bare.result (c.add_bare.new.self ≡ c.args.self.now ++ new_marks [] z ∷ [])) (sym e.1) c.add_bare.ensures.added)
