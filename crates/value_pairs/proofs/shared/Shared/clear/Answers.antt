use Rattle.std.proofs.Common.{false, refl}
use Rattle.value_pairs.proofs.Meeting.{left_cleared, right_cleared}
use Rattle.value_pairs.proofs.shared.Shared.clear.Goals as goal

pub returns-in-Left : goal.returns-in-Left
returns-in-Left c = rw c.in-Left.is (left_cleared c.args.self.now (record { left = c.clear.new.self; right = c.args.self.now.right; found = false }) c.clear.ensures.empty refl refl)

pub returns-in-Right : goal.returns-in-Right
returns-in-Right c = rw c.in-Right.is (λ vs ws. right_cleared c.args.self.now (record { left = c.args.self.now.left; right = c.clear-in-Right.new.self; found = false }) c.clear-in-Right.ensures.empty refl refl ws vs)
