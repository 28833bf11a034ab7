use Rattle.gcx_base.specs.declared.rel.Rel.TheVariants.{Eq, Ne, Lt, Le, Gt, Ge}
use Rattle.cond_eval.proofs.Flipping.{compare_flipped}
use Rattle.cond_eval.proofs.values.flipped.Goals as goal

pub returns-in-Eq : goal.returns-in-Eq
returns-in-Eq c v w = rw c.in-Eq.is (compare_flipped Eq v w)

pub returns-in-Ne : goal.returns-in-Ne
returns-in-Ne c v w = rw c.in-Ne.is (compare_flipped Ne v w)

pub returns-in-Lt : goal.returns-in-Lt
returns-in-Lt c v w = rw c.in-Lt.is (compare_flipped Lt v w)

pub returns-in-Le : goal.returns-in-Le
returns-in-Le c v w = rw c.in-Le.is (compare_flipped Le v w)

pub returns-in-Gt : goal.returns-in-Gt
returns-in-Gt c v w = rw c.in-Gt.is (compare_flipped Gt v w)

pub returns-in-Ge : goal.returns-in-Ge
returns-in-Ge c v w = rw c.in-Ge.is (compare_flipped Ge v w)
