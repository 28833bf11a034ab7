use Rattle.std.proofs.Common.{refl}
use Rattle.value_pairs.proofs.Meeting.{left_more, right_more}
use Rattle.value_pairs.proofs.Passing.{both_ok}
use Rattle.value_pairs.proofs.shared.Shared.take.Goals as goal

pub returns-in-Left : goal.returns-in-Left
returns-in-Left c =
    rw c.in-Left.is (both_ok c.take_value.result
    (λ adds meets. left_more c.args.self.now (record { left = c.take_value.new.values; right = c.args.self.now.right; found = c.take_value.new.found }) c.args.value.now adds refl meets)
    c.take_value.ensures.adds c.take_value.ensures.found)

pub returns-in-Right : goal.returns-in-Right
returns-in-Right c =
    rw c.in-Right.is (both_ok c.take_value-in-Right.result
    (λ adds meets vs ws. right_more c.args.self.now (record { left = c.args.self.now.left; right = c.take_value-in-Right.new.values; found = c.take_value-in-Right.new.found }) c.args.value.now adds refl meets ws vs)
    c.take_value-in-Right.ensures.adds c.take_value-in-Right.ensures.found)
