use Rattle.std.proofs.Common.{◌≡◌, List, [], ◌∷◌, ◌++◌, ◌∙◌, ap, refl}
use Rattle.path_states.specs.State.{StateView}
use Rattle.path_states.specs.declared.remembered.Remembered.{Remembered}
use Rattle.path_states.proofs.Remembering.{right_first}
use Rattle.path_states.proofs.remembered.Remembered.new.Goals as goal

pub returns : goal.returns
returns c =
    let first : c.push.new.self.items ≡ c.args.first ∷ [] = c.in_ok-push.ensures.items ∙ ap (λ (z : List StateView). z ++ c.args.first ∷ []) c.new-states.ensures.items in
    let known : Remembered = record { states = c.push.new.self; kept = 1; moves = c.in_ok-moves.moves; homes = c.in_ok-homes.homes; bytes = 0; bound = c.args.bound } in
    record {
      first = first;
      bound = refl;
      right = right_first known c.args.first first refl c.in_ok-moves.ensures.none c.in_ok-moves.ensures.count;
    }
