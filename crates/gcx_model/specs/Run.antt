-- The evaluator's actions over an open tree, as far as they are settled (this project's, after ICDE 2007).
use Rattle.std.specs.Prelude.{ℕ, zero, suc, Bool, true, false, List, [], ◌∷◌, ◌++◌, length, flat_map}
use Rattle.gcx_base.specs.declared.kind.Kind.{Kind}
use Rattle.gcx_base.specs.declared.kind.Kind.TheVariants.{Document, Element, Text}
use Rattle.gcx_model.specs.Tree.{Node, Root, serial_of, kind_of, Tree, is_closed}
use Rattle.gcx_model.specs.Paths.{matches}
use Rattle.gcx_model.specs.Written.{start_tag, end_tag, escaped}
use Rattle.gcx_model.specs.Answer.{children}
use Rattle.gcx_model.specs.Core.{OffTree, ItemTree, Write, Copy, For, If, SignOff, BodyTree, Nil, Then}
use Rattle.gcx_model.specs.declared.truth.Truth.{Truth}
use Rattle.gcx_model.specs.declared.truth.Truth.TheVariants.{True, False, Unknown}
use Rattle.gcx_model.specs.Truth.{Env, bind_var, truth}

-- bytes written; a statement carried out with its base bound to the node of this number
pub data Action : Type 0 where
  Wrote : (bytes : List ℕ) → Action
  Offed : (off : OffTree) (node : ℕ) → Action

-- the actions so far, and whether nothing more comes
pub record Out : Type 0 where
  pub acts : List Action
  pub done : Bool

abbrev pub wrote : List ℕ → Out
wrote b = record { acts = Wrote b ∷ []; done = true }

-- what waits, or is over, with no action
abbrev pub idle : Bool → Out
idle d = record { acts = []; done = d }

abbrev pub seq_if : Bool → Out → Out → Out
seq_if true a b = record { acts = a.acts ++ b.acts; done = b.done }
seq_if false a b = a

-- the second begins only once the first is done
abbrev pub seq : Out → Out → Out
seq a b = seq_if a.done a b

-- one after the other, for the nodes so far; done where all are and no more nodes come
abbrev pub loop : (Node → Out) → List Node → (over : Bool) → Out
loop f [] over = idle over
loop f (n ∷ ns) over = seq (f n) (loop f ns over)

-- a copy of a node, given that of its children
abbrev pub copy_with : Kind → Out → Out
copy_with Document inner = inner
copy_with (Element name) inner = seq (wrote (start_tag name)) (seq inner (wrote (end_tag name)))
copy_with (Text b) inner = wrote (escaped b)

-- no more than `most` levels deep
abbrev pub copy : (most : ℕ) → Tree → Node → Out
copy zero P n = idle false
copy (suc most) P n = copy_with (kind_of n) (loop (copy most P) (children P n) (is_closed P n))

abbrev pub choose : Truth → Out → Out → Out
choose True a b = a
choose False a b = b
choose Unknown a b = idle false

-- Run. No tree is deeper than it has nodes.
abbrev mutual
  pub run_item : ItemTree → Env → Tree → Out
  run_item (Write b) env P = wrote b
  run_item (Copy x) env P = copy (length P.nodes) P (env x)
  run_item (For x y s d) env P = loop (λ n. run d (bind_var env x n) P) (matches P (serial_of (env y)) (s ∷ [])) (is_closed P (env y))
  run_item (If c a b) env P = choose (truth c env P) (run a env P) (run b env P)
  run_item (SignOff o) env P = record { acts = Offed o (serial_of (env o.base)) ∷ []; done = true }

  pub run : BodyTree → Env → Tree → Out
  run Nil env P = idle true
  run (Then i d) env P = seq (run_item i env P) (run d env P)

-- variable 0 is bound to the document node
abbrev pub env0 : Env
env0 = λ x. Root

abbrev pub bytes_of : Action → List ℕ
bytes_of (Wrote b) = b
bytes_of (Offed o n) = []

-- the bytes that all actions write, joined
abbrev pub bytes_written : BodyTree → Tree → List ℕ
bytes_written d P = flat_map bytes_of (run d env0 P).acts
