use Rattle.std.proofs.Common.{◌≡◌, ◌≤◌, ℕ, [], length, take}
use Rattle.gcx_model.specs.Members.{In}
use Rattle.gcx_model.specs.Tree.{Node, TreeToken, grow}
use Rattle.gcx_model.specs.Growth.{level}
use Rattle.gcx_model.specs.Past.{Past}
use Rattle.path_states.specs.Lists.{From, Gains}
use Rattle.matcher.specs.Entering.{Comes, Firsts, LeadsTo}
use Rattle.matcher.specs.View.{frames_of}
use Rattle.matcher.proofs.found.found_of.Given as goal

abbrev pub invariant-loop-number : goal.invariant-loop-number
invariant-loop-number l = length l.frames ≤ length l.states.states → (past : Past) (t : TreeToken) (n : Node) → (b : Comes past l.states.tree (frames_of l.states l.frames) t n) → level n ≡ l.level → ((c : ℕ) → In c l.active → LeadsTo b.are.path n c)
    → Gains [] l.found.items (From (take l.number-index l.active) (Firsts past.plan (grow t past.tree) n l.states.tree.states.items))
