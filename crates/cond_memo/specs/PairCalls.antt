-- What each call on two paths tells of their values. Private functions alone speak of it.
use Rattle.std.specs.Prelude.{◌≡◌, ◌&&◌, ℕ, Bool, true, false, List, map}
use Rattle.gcx_base.specs.declared.ids.Serial.{Serial}
use Rattle.gcx_base.specs.declared.ids.VarId.{VarId}
use Rattle.gcx_base.specs.declared.rel.Rel.{Rel}
use Rattle.gcx_base.specs.declared.steps.Step.{Step}
use Rattle.gcx_model.specs.Answer.{some_pair}
use Rattle.gcx_model.specs.Growth.{Leads}
use Rattle.gcx_model.specs.Members.{In}
use Rattle.gcx_model.specs.Paths.{matches}
use Rattle.gcx_model.specs.Tree.{Node, serial_of, Tree, opening, is_closed}
use Rattle.gcx_model.specs.Truth.{settle}
use Rattle.gcx_model.specs.Values.{compare}
use Rattle.gcx_model.specs.declared.truth.Truth.{Truth}
use Rattle.buf_tree.specs.View.{View}
use Rattle.cond_eval.specs.Asking.{IsBound}
use Rattle.cond_eval.specs.Bindings.{Bindings}
use Rattle.cond_eval.specs.Comparing.{closed_values}
use Rattle.cond_eval.specs.Kept.{AddsOnce}
use Rattle.value_pairs.specs.Pairs.{SomePair}
use Rattle.value_pairs.specs.Taken.{TookBoth, TookBy}
use Rattle.value_pairs.specs.declared.compared.Compared.{Compared}
use Rattle.value_pairs.specs.declared.hand.Hand.{Hand}
use Rattle.value_pairs.specs.declared.hand.Hand.TheVariants as hand
use Rattle.cond_memo.specs.Marks.{AreMarks}
use Rattle.cond_memo.specs.Pairs.{IsPair, paths, paths_of}
use Rattle.cond_memo.specs.Taking.{AsksPath, IsTaken, MayTake, TookAll, TookUpto}
use Rattle.cond_memo.specs.Waiting.{Fits}
use Rattle.cond_memo.specs.declared.marked.Marked.{Marked}
use Rattle.cond_memo.specs.declared.pair.Pair.{Pair}
use Rattle.cond_memo.specs.declared.taken.Taken.{Taken}

-- ---- one side

-- the relation holds of a value of this side and one of the other
abbrev pub SomePairBy : Hand → Rel → (these others : List (List ℕ)) → Type 0
SomePairBy hand.Left rel vs ws = SomePair rel vs ws
SomePairBy hand.Right rel vs ws = SomePair rel ws vs

-- It is about the node of this serial: what was taken stays, where it was about that before, and else nothing is.
abbrev pub TurnsSide : Hand → (before now : Taken) → (c d : Compared) → Serial → Type 0
TurnsSide h k l c d of = (P : Tree) (n : Node) (rel : Rel) (vs ws : List (List ℕ)) → Leads opening P → In n P.nodes → serial_of n ≡ of.0
    → IsTaken k P vs → TookBy h c rel vs ws
    → (us : List (List ℕ)) × TookBy h d rel us ws × TookUpto P (matches P (serial_of n) k.steps) l.waiting l.below us

-- the relation holds of a pair, or of none, and all closed matches of the side were taken
abbrev pub MeetsOrAll : Bool → Hand → Rel → Tree → List Node → (these others : List (List ℕ)) → Type 0
MeetsOrAll true h rel P ms us ws = SomePairBy h rel us ws
MeetsOrAll false h rel P ms us ws = (SomePairBy h rel us ws → ⊥) × TookAll P ms us

-- matches of the side were taken, where the relation held of no pair before
abbrev pub TakesSide : View → (k l : Taken) → (p : ℕ) → Hand → (c d : Compared) → Bool → Type 0
TakesSide v k l p h c d b = (P : Tree) (keep : Node → Bool) (n : Node) (rel : Rel) (vs ws : List (List ℕ)) → AsksPath v p k.steps P keep n
    → TookUpto P (matches P (serial_of n) k.steps) k.waiting k.below vs → TookBy h c rel vs ws → (SomePairBy h rel vs ws → ⊥)
    → (us : List (List ℕ)) × TookBy h d rel us ws × TookUpto P (matches P (serial_of n) k.steps) l.waiting l.below us
    × MeetsOrAll b h rel P (matches P (serial_of n) k.steps) us ws

-- ---- both

-- it is about these paths
pub record IsAboutPaths (q : Pair) (x : VarId) (left : List Step) (rel : Rel) (y : VarId) (right : List Step) : Type 0 where
  pub var : q.var ≡ x
  pub left_steps : q.left.steps ≡ left
  pub rel_is : q.rel ≡ rel
  pub other : q.other ≡ y
  pub right_steps : q.right.steps ≡ right

-- which values were taken of nodes n and m
pub record TookOf (q : Pair) (left : List Step) (rel : Rel) (right : List Step) (P : Tree) (n m : Node) (ls rs : List (List ℕ)) : Type 0 where
  pub took : TookBoth q.compared rel ls rs
  pub of_left : TookUpto P (matches P (serial_of n) left) q.left.waiting q.left.below ls
  pub of_right : TookUpto P (matches P (serial_of m) right) q.right.waiting q.right.below rs

-- both paths are asked about, at these nodes
pub record AsksBoth (v : View) (one two : ℕ) (left right : List Step) (P : Tree) (keep : Node → Bool) (n m : Node) : Type 0 where
  pub left_path : AsksPath v one left P keep n
  pub right_path : AsksPath v two right P keep m

-- more of their matches may be taken
pub record MayLook (v : View) (q : Pair) (one two : ℕ) : Type 0 where
  pub left : MayTake v q.left one
  pub right : MayTake v q.right two
  pub left_fits : Fits q.left.steps q.left.last
  pub right_fits : Fits q.right.steps q.right.last

-- no more was changed than what was taken
abbrev pub KeepsPaths : (before now : Pair) → Type 0
KeepsPaths q r = r ≡ record q {
  left = record q.left { below = r.left.below; waiting = r.left.waiting };
  right = record q.right { below = r.right.below; waiting = r.right.waiting };
  compared = r.compared;
}

-- whether the relation holds of the values of two closed matches
abbrev pub pair_found : Tree → (n m : Node) → (left : List Step) → Rel → (right : List Step) → Bool
pair_found P n m left rel right = some_pair (compare rel) (closed_values P n left) (closed_values P m right)

-- that is told, where it held of none of those that were taken before
abbrev pub TellsFound : View → (q r : Pair) → (one two : ℕ) → Bool → Type 0
TellsFound v q r one two b = (P : Tree) (keep : Node → Bool) (n m : Node) (ls rs : List (List ℕ)) → AsksBoth v one two q.left.steps q.right.steps P keep n m
    → TookOf q q.left.steps q.rel q.right.steps P n m ls rs
    → (us : List (List ℕ)) × (ws : List (List ℕ)) × TookOf r q.left.steps q.rel q.right.steps P n m us ws × (b ≡ pair_found P n m q.left.steps q.rel q.right.steps)

abbrev pub TellsUnmet : View → (q r : Pair) → (one two : ℕ) → Bool → Type 0
TellsUnmet v q r one two b = (P : Tree) (keep : Node → Bool) (n m : Node) (ls rs : List (List ℕ)) → AsksBoth v one two q.left.steps q.right.steps P keep n m
    → TookOf q q.left.steps q.rel q.right.steps P n m ls rs → (SomePair q.rel ls rs → ⊥)
    → (us : List (List ℕ)) × (ws : List (List ℕ)) × TookOf r q.left.steps q.rel q.right.steps P n m us ws × (b ≡ pair_found P n m q.left.steps q.rel q.right.steps)

-- the truth of the comparison at n and m
abbrev pub pair_truth : Tree → (n m : Node) → (left : List Step) → Rel → (right : List Step) → Truth
pair_truth P n m left rel right = settle (pair_found P n m left rel right) (is_closed P n && is_closed P m)

-- it is told, and the pair stands for the same trees
abbrev pub TellsTruth : View → (q r : Pair) → (one one_of two two_of : ℕ) → Truth → Type 0
TellsTruth v q r one one_of two two_of t = (P : Tree) (keep : Node → Bool) (n m : Node) → AsksBoth v one two q.left.steps q.right.steps P keep n m
    → serial_of n ≡ one_of → serial_of m ≡ two_of → IsPair q P
    → (t ≡ pair_truth P n m q.left.steps q.rel q.right.steps) × IsPair r P

-- over some tree the pair may be asked
pub record MayAskPair (v : View) (q : Pair) (one one_of two two_of : ℕ) : Type 0 where
  pub tree : Tree
  pub keep : Node → Bool
  pub left_node : Node
  pub right_node : Node
  pub asks : AsksBoth v one two q.left.steps q.right.steps tree keep left_node right_node
  pub left_serial : serial_of left_node ≡ one_of
  pub right_serial : serial_of right_node ≡ two_of
  pub pair : IsPair q tree

-- ---- of the variables

-- both paths are asked about, at the nodes of their variables
pub record AsksVariables (v : View) (bound : Bindings) (x y : ℕ) (left right : List Step) (P : Tree) (keep : Node → Bool) (n m : Node) : Type 0 where
  pub left_bound : IsBound v.rows bound x n
  pub right_bound : IsBound v.rows bound y m
  pub left_path : AsksPath v left_bound.place left P keep n
  pub right_path : AsksPath v right_bound.place right P keep m

-- over some tree, for which what is kept stands
pub record MayAskVariables (v : View) (k : Marked) (bound : Bindings) (x y : ℕ) (left right : List Step) : Type 0 where
  pub tree : Tree
  pub keep : Node → Bool
  pub left_node : Node
  pub right_node : Node
  pub asks : AsksVariables v bound x y left right tree keep left_node right_node
  pub marks : AreMarks k tree

-- the truth at the nodes of the variables, and that what is kept stands for the same trees
abbrev pub AnswersPaths : View → (k l : Marked) → Bindings → (x : ℕ) → (left : List Step) → Rel → (y : ℕ) → (right : List Step) → Truth → Type 0
AnswersPaths v k l bound x left rel y right t = (P : Tree) (keep : Node → Bool) (n m : Node) → AsksVariables v bound x y left right P keep n m → AreMarks k P
    → (t ≡ pair_truth P n m left rel right) × AreMarks l P

-- a pair is about these paths: one that was there, else one that comes last; no other comes
abbrev pub AddsPair : (before now : List Pair) → VarId → List Step → Rel → VarId → List Step → Type 0
AddsPair before now x left rel y right = AddsOnce (paths x left rel y right) (map paths_of before) (map paths_of now)
